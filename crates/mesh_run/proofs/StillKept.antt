-- A refused pair that was looked at again stays refused: its fresh points are those that an attempt must map to have become a candidate.
use Rattle.std.proofs.Common.{◌≡◌, ℕ, ◌+◌, ◌<◌, ◌≤◌, ◌⊎◌, inl, inr, true, All, List, ◌++◌, length, slice_index_or, take, filter, Contains, Some, is_some, IsSome, refl, sym, ap, ◌∙◌, subst, arith}
use Rattle.std.specs.List.{AllByRecursion}
use Rattle.std.proofs.lemmas.List.Elements.{All-more, All-weaker}
use Rattle.grid_geom.specs.declared.Bounds.{Bounds}
use Rattle.rule_reader.specs.Normal.{IsRule}
use Rattle.state_law.specs.State.{State, AreRising, IsListed}
use Rattle.front_chain.specs.Front.{line_at}
use Rattle.rule_match.specs.declared.progress.Note.{Note}
use Rattle.rule_match.specs.Candidate.{IsFrontPoint}
use Rattle.rule_match.specs.LookedAgain.{AreFresh, DoStand, IsHarmless, IsIdle, IsShut, Pair}
use Rattle.rule_match.specs.MoreNotes.{excused_more}
use Rattle.rule_match.specs.Near.{IsReachBox, IsStayingLine}
use Rattle.rule_match.specs.Refused.{IsExcused, IsRefusedAgain, IsRefusedBy}
use Rattle.rule_match.specs.Walk.{BeginsWith}
use Rattle.rule_match.proofs.BaseLines.{line_there}
use Rattle.rule_match.proofs.Gathered.{line_numbered}
use Rattle.rule_match.proofs.NearBack.{ends_listed, kept_point}
use Rattle.rule_match.proofs.StillRefused.{fewer_notes, still_refused}
use Rattle.mesh_run.specs.declared.looked_again.Change.{Change}
use Rattle.mesh_run.specs.Kept.{AreEndsFresh, AreFreshPoints, IsFollowedBy, WasRefused}
use Rattle.mesh_run.specs.Steps.{RunSetting}
use Rattle.mesh_run.proofs.Followed.{still_on}
use Rattle.mesh_run.proofs.Regions.{passed}
use Rattle.mesh_run.proofs.StillNone.{Triple, contained}
use Rattle.mesh_run.proofs.StillRemembered.{moved_box}

-- ---- fresh points
-- what is fresh stays so with more points
pub more_ends : (points : ℕ) (fresh more : List ℕ) (ends : ℕ × ℕ) → ((n : ℕ) → Contains fresh n → Contains more n) → AreEndsFresh points fresh ends → AreEndsFresh points more ends
more_ends points fresh more ends k h = record { start = λ l. k ends.0 (h.start l); end = λ l. k ends.1 (h.end l); one = elim h.one [ inl x ↦ inl (k ends.0 x) | inr x ↦ inr (k ends.1 x) ] }

-- the line of the note is there, or the point beside it is fresh
abbrev pub IsFreshNote : List Triple → List ℕ → Note → Type 0
IsFreshNote front fresh note = IsSome (line_at front note.line) ⊎ Contains fresh note.point

pub one_more_note : (front : List Triple) (fresh more : List ℕ) (notes : List Note) (k : ℕ) (d : Note) → k < length notes → ((n : ℕ) → Contains fresh n → Contains more n) → All (IsFreshNote front fresh) (take k notes) → IsFreshNote front more (slice_index_or notes k d)
    → All (IsFreshNote front more) (take (k + 1) notes)
one_more_note front fresh more notes k d l still h i = All-more (IsFreshNote front more) notes k d l (All-weaker (IsFreshNote front fresh) (IsFreshNote front more) (λ note g. elim g [ inl x ↦ inl x | inr x ↦ inr (still note.point x) ]) (take k notes) h) i

-- the lines from one number up to another have something, and so has the one with this number
pub one_more_line : (P : ℕ × ℕ → Type 0) (lines : List Triple) (next first k : ℕ) → AreRising lines next → ((line : Triple) → Contains lines line → first ≤ line.0 → line.0 < k → P (line.1, line.2))
    → ((ends : ℕ × ℕ) → line_at lines k ≡ Some ends → P ends) → (line : Triple) → Contains lines line → first ≤ line.0 → line.0 < k + 1 → P (line.1, line.2)
one_more_line P lines next first k rising h one line c l m = by (split line.0 k m)
  where
    split : (a b : ℕ) → a < b + 1 → (a < b) ⊎ (a ≡ b)
    split a b l = grind arith

    by : (line.0 < k) ⊎ (line.0 ≡ k) → P (line.1, line.2)
    by (inl b) = h line c l b
    by (inr e) = one (line.1, line.2) (subst (λ (n : ℕ). line_at lines n ≡ Some (line.1, line.2)) e (line_numbered lines next c.0 line line rising c.1 c.2))

module _ (p : Pair) (st later : State) (c : Change) (notes : List Note) (fresh : List ℕ) (f : IsFollowedBy st later c) (h : AreFreshPoints later.front c notes fresh) where
  compared : (m n : ℕ) → (m < n) ⊎ (n ≤ m)
  compared m n = grind arith

  -- an end of a line that has joined is new, and then fresh, or was a front point
  end_of : (line : Triple) (n : ℕ) → Contains later.front line → (line.1 ≡ n) ⊎ (line.2 ≡ n) → (c.points < n → Contains fresh n) → IsShut p later fresh n ⊎ IsFrontPoint st n
  end_of line n k e new = by (compared c.points n)
    where
      by : (c.points < n) ⊎ (n ≤ c.points) → IsShut p later fresh n ⊎ IsFrontPoint st n
      by (inl l) = inl (inl (new l))
      by (inr l) = inr (f.ends line n k e l)

  pub are_fresh : AreFresh p st later notes fresh
  are_fresh = record { joined = λ line k. joined line k (f.old_or_new line k); left = λ note line k on e. left note line on e (h.left note k) }
    where
      joined : (line : Triple) → Contains later.front line → Contains st.front line ⊎ (c.first ≤ line.0) → Contains st.front line ⊎ IsHarmless p st later fresh line
      joined line k (inl old) = inl old
      joined line k (inr new) = inr (record {
        start = end_of line line.1 k (inl refl) (h.joined line k new).start;
        end = end_of line line.2 k (inr refl) (h.joined line k new).end;
        one = elim ((h.joined line k new).one) [ inl x ↦ inl (inl x) | inr x ↦ inr (inl x) ];
      })

      left : (note : Note) (line : Triple) → Contains st.front line → line.0 ≡ note.line → IsSome (line_at later.front note.line) ⊎ Contains fresh note.point → Contains later.front line ⊎ (IsShut p later fresh note.point ⊎ IsIdle p later line)
      left note line on e (inl there) = inl (still_on later.front line (λ other k same. f.same line other on k same) (subst (λ (n : ℕ). IsSome (line_at later.front n)) (sym e) there))
      left note line on e (inr x) = inr (inl (inl x))

-- ---- notes whose lines are on the front
pub all_stand : (lines : List Triple) (next : ℕ) (notes : List Note) → AreRising lines next → DoStand lines notes (filter (λ note. is_some (line_at lines note.line)) notes)
all_stand lines next notes rising = record { each = λ note line k on e. contained (λ x. is_some (line_at lines x.line) ≡ true → Contains (filter (λ y. is_some (line_at lines y.line)) notes) x) notes note (passed (λ y. is_some (line_at lines y.line)) notes) k (there note line on e) }
  where
    there : (note : Note) (line : Triple) → Contains lines line → line.0 ≡ note.line → is_some (line_at lines note.line) ≡ true
    there note line on e = subst (λ (n : ℕ). is_some (line_at lines n) ≡ true) e (ap is_some (line_numbered lines next on.0 line line rising on.1 on.2))

-- ---- the pair
-- what one set of notes excuses one that has grown does
pub grown_refused : (s : RunSetting) (st : State) (line class : ℕ) (notes grown : List Note) → BeginsWith grown notes → IsRefusedBy s.sizes st s.rules line class notes → IsRefusedBy s.sizes st s.rules line class grown
grown_refused s st line class notes grown b r = record { excused = λ t o a fits. subst (λ (ns : List Note). IsExcused st ns t) (sym b.1) (excused_more st notes b.0 t (r.excused t o a fits)) }

-- what a pair was refused by before a change it is refused by after it, where no attempt that maps a fresh point has become a candidate
before_refused : (s : RunSetting) (st later : State) (c : Change) (line class : ℕ) (ends : ℕ × ℕ) (box : Bounds) (notes grown : List Note) (fresh : List ℕ) → AllByRecursion IsRule s.rules → IsFollowedBy st later c → line < c.first
    → line_at later.front line ≡ Some ends → IsReachBox s.sizes later.points 0 ends.0 ends.1 box → AreFreshPoints later.front c notes fresh → BeginsWith grown notes
    → IsRefusedAgain s.sizes later s.rules line class fresh grown → IsRefusedBy s.sizes st s.rules line class notes → IsRefusedBy s.sizes later s.rules line class grown
before_refused s st later c line class ends box notes grown fresh are_rules f old at reach new b again before =
    still_refused p st later f.made f.elements framed.frame notes fresh are_rules f.glued stays (are_fresh p st later c notes fresh f new) grown b before again
  where
    base : Triple
    base = (line, ends.0, ends.1)

    p : Pair
    p = record { sizes = s.sizes; rules = s.rules; line = base; class = class }

    clash : (n first : ℕ) → n < first → first ≤ n → ⊥
    clash n first l k = omega arith

    on : Contains st.front base
    on = old_one (f.old_or_new base (line_there later.front line ends at))
      where
        old_one : Contains st.front base ⊎ (c.first ≤ line) → Contains st.front base
        old_one (inl k) = k
        old_one (inr k) = absurd (clash line c.first old k)

    listed : IsListed (length st.points) ends.0 × IsListed (length st.points) ends.1
    listed = ends_listed (length st.points) st.front on.0 base f.glued.numbered.lines_listed on.1 on.2

    framed : IsReachBox s.sizes st.points 0 ends.0 ends.1 box
    framed = moved_box s.sizes later.points st.points 0 ends.0 ends.1 box (sym (kept_point st.points f.made later.points ends.0 f.glued.points listed.0)) (sym (kept_point st.points f.made later.points ends.1 f.glued.points listed.1)) reach

    stays : IsStayingLine s.sizes st later base framed.frame
    stays = record { on_front = on; same = λ other k e. f.same base other on k e; frame = framed.is_frame; framed = framed.framed }

pub kept_refused : (s : RunSetting) (later : State) (c : Change) (line class : ℕ) (ends : ℕ × ℕ) (box : Bounds) (notes grown left : List Note) (fresh : List ℕ) → AllByRecursion IsRule s.rules
    → line_at later.front line ≡ Some ends → IsReachBox s.sizes later.points 0 ends.0 ends.1 box → AreFreshPoints later.front c notes fresh → BeginsWith grown notes
    → IsRefusedAgain s.sizes later s.rules line class fresh grown → DoStand later.front grown left → WasRefused s later c line class notes → IsRefusedBy s.sizes later s.rules line class left
kept_refused s later c line class ends box notes grown left fresh are_rules at reach new b again stand was = fewer_notes s.sizes s.rules class line later grown left stand (by was)
  where
    by : WasRefused s later c line class notes → IsRefusedBy s.sizes later s.rules line class grown
    by (inl w) = before_refused s w.before later c line class ends box notes grown fresh are_rules w.followed w.given at reach new b again w.refused
    by (inr now) = grown_refused s later line class notes grown b now
