-- Notes that hold no more are dropped: what is left was there, and holds.
use Rattle.std.proofs.Common.{◌≡◌, ℕ, ◌+◌, ◌<◌, ◌≤◌, ◌⊎◌, inl, inr, Bool, true, false, cond, All, take, List, length, slice_index_or, None, Some, Vec, Global, sym, ◌∙◌, subst, arith}
use Rattle.std.specs.BTreeMap.{get, is_at, Updates}
use Rattle.std.proofs.lemmas.Option.{none-some}
use Rattle.std.proofs.lemmas.List.Elements.{All-more, All-weaker}
use Rattle.digital_tree.specs.declared.Entry.{Entry}
use Rattle.state_law.specs.State.{State}
use Rattle.rule_match.specs.declared.progress.Note.{Note}
use Rattle.mesh_run.specs.declared.refusals.Region.{Region}
use Rattle.mesh_run.specs.Kept.{AreFewerNotes, AreOnFront, DoNotesStand, PairNotes}
use Rattle.mesh_run.specs.Worklist.{turn_cmp}

pub all_fewer : (m : PairNotes) → AreFewerNotes m m
all_fewer m = record { each = λ turn held has. has }

pub fewer_twice : (m n o : PairNotes) → AreFewerNotes m n → AreFewerNotes n o → AreFewerNotes m o
fewer_twice m n o h k = record { each = λ turn held has. h.each turn held (k.each turn held has) }

-- where one pair's notes are taken out, those of each other pair were there
pub removed_fewer : (m n : PairNotes) (k : ℕ × ℕ) → Updates turn_cmp m n k None → AreFewerNotes m n
removed_fewer m n k u = record { each = λ turn held has. by turn held has (is_at (turn_cmp k) turn) (u.0 turn) }
  where
    by : (turn : ℕ × ℕ) (held : Vec Note Global) → get turn_cmp n turn ≡ Some held → (b : Bool) → get turn_cmp n turn ≡ cond b None (get turn_cmp m turn) → get turn_cmp m turn ≡ Some held
    by turn held has true e = absurd (none-some held (sym e ∙ has))
    by turn held has false e = sym e ∙ has

-- the pairs of a line from one class on up to another have notes that stand
abbrev pub DoStandTo : State → PairNotes → Region → ℕ → Type 0
DoStandTo st notes region k = (class : ℕ) (held : Vec Note Global) → region.class ≤ class → class < k → get turn_cmp notes (class, region.line) ≡ Some held → AreOnFront st held.items

pub one_more_stands : (st : State) (m n : PairNotes) (region : Region) (k : ℕ) → AreFewerNotes m n → DoStandTo st m region k → ((held : Vec Note Global) → get turn_cmp n (k, region.line) ≡ Some held → AreOnFront st held.items) → DoStandTo st n region (k + 1)
one_more_stands st m n region k fewer h one class held from below has = by (split class k below)
  where
    split : (a b : ℕ) → a < b + 1 → (a < b) ⊎ (a ≡ b)
    split a b l = grind arith

    by : (class < k) ⊎ (class ≡ k) → AreOnFront st held.items
    by (inl l) = h class held from l (fewer.each (class, region.line) held has)
    by (inr e) = one held (subst (λ (j : ℕ). get turn_cmp n (j, region.line) ≡ Some held) e has)

-- some notes are dropped, and what is left of the line's from the region's class on up to another one stands
pub record AreDroppedTo (st : State) (start now : PairNotes) (region : Region) (k : ℕ) : Type 0 where
  pub fewer : AreFewerNotes start now
  pub stand : DoStandTo st now region k

pub none_dropped : (st : State) (m : PairNotes) (region : Region) → AreDroppedTo st m m region region.class
none_dropped st m region = record { fewer = all_fewer m; stand = λ class held from below has. absurd (never class region.class from below) }
  where
    never : (class first : ℕ) → first ≤ class → class < first → ⊥
    never class first l k = omega (arith, l, k)

-- one class more, at which the notes are taken out, or stand
pub one_more_dropped : (st : State) (start was now : PairNotes) (region : Region) (n : ℕ) → Updates turn_cmp was now (n, region.line) None → AreDroppedTo st start was region n → AreDroppedTo st start now region (n + 1)
one_more_dropped st start was now region n u h = record {
  fewer = fewer_twice start was now h.fewer (removed_fewer was now (n, region.line) u);
  stand = one_more_stands st was now region n (removed_fewer was now (n, region.line) u) h.stand (λ held has. absurd (none-some held (sym u.1 ∙ has)));
}

pub one_more_stood : (st : State) (start was : PairNotes) (region : Region) (n : ℕ) → ((held : Vec Note Global) → get turn_cmp was (n, region.line) ≡ Some held → AreOnFront st held.items) → AreDroppedTo st start was region n → AreDroppedTo st start was region (n + 1)
one_more_stood st start was region n one h = record { fewer = h.fewer; stand = one_more_stands st was was region n (all_fewer was) h.stand one }

-- with fewer notes they still stand
pub still_stand : (st : State) (m n : PairNotes) (region : Region) → AreFewerNotes m n → DoNotesStand st m region → DoNotesStand st n region
still_stand st m n region fewer h = λ class held from last has. h class held from last (fewer.each (class, region.line) held has)

pub one_more_hit : (st : State) (hits : List (Entry Region)) (m n : PairNotes) (k : ℕ) (d : Entry Region) → k < length hits → AreFewerNotes m n → All (λ e. DoNotesStand st m e.value) (take k hits) → DoNotesStand st n (slice_index_or hits k d).value
    → All (λ e. DoNotesStand st n e.value) (take (k + 1) hits)
one_more_hit st hits m n k d l fewer h one = All-more (λ e. DoNotesStand st n e.value) hits k d l (All-weaker (λ e. DoNotesStand st m e.value) (λ e. DoNotesStand st n e.value) (λ e s. still_stand st m n e.value fewer s) (take k hits) h) one
