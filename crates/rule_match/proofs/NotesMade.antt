-- Notes that are made, and notes that are kept.
use Rattle.std.proofs.Common.{◌≡◌, ℕ, zero, suc, ◌+◌, ◌<◌, ◌≤◌, ◌⊎◌, inl, inr, Bool, true, false, List, [], ◌∷◌, ◌++◌, length, slice_index_or, refl, sym, ap, ◌∙◌, subst, arith, nat_eq, Option, Some}
use mathlib.Core.Bool.{true≢false}
use Rattle.std.specs.Prelude.{cond, filter, ◌&&◌, ◌||◌}
use lib.IntN.{ℤ}
use lib.Signed.{le_z}
use Rattle.std.specs.List.{AllByRecursion, list_any}
use Rattle.std.proofs.lemmas.Bool.{eq-eqb, eqb-true}
use Rattle.std.proofs.lemmas.Int.{ints}
use Rattle.grid_geom.specs.declared.Bounds.{Bounds}
use Rattle.grid_geom.proofs.Booleans.{true_le}
use Rattle.front_chain.proofs.NearLines.{place_of}
use Rattle.rule_match.proofs.Gathered.{line_numbered}
use Rattle.std.specs.Option.{option_map_or}
use Rattle.grid_geom.specs.declared.Point.{Point}
use Rattle.state_law.specs.Free.{IsIn}
use Rattle.state_law.specs.State.{point_at, pair_edge, front_edges, IsListed}
use Rattle.front_chain.specs.Front.{FrontState, IsFrontState, AreNear, line_at, is_end, is_near, does_meet, does_reach}
use Rattle.rule_match.specs.declared.progress.Note.{Note}
use Rattle.rule_match.specs.Walk.{BeginsWith}
use Rattle.rule_match.specs.Refused.{has_note}
use Rattle.rule_match.specs.Noted.{IsEndNoted, AreEndsNoted}
use Rattle.rule_match.proofs.Surroundings.{tested}
use Rattle.rule_match.specs.MoreNotes.{any_more}

-- ---- tests
each : (a b : Bool) → a ≡ true → b ≡ true → (a && b) ≡ true
each a b h k = ap (λ c. c && b) h ∙ k

left_of : (a b : Bool) → a ≡ true → (a || b) ≡ true
left_of a b h = ap (λ c. c || b) h

right_of : (a b : Bool) → b ≡ true → (a || b) ≡ true
right_of true b h = refl
right_of false b h = h

-- ---- notes
any_last : (f : Note → Bool) (xs : List Note) (x : Note) → f x ≡ true → list_any f (xs ++ x ∷ []) ≡ true
any_last f [] x h = ap (λ (b : Bool). b || false) h
any_last f (y ∷ xs) x h = right_of (f y) (list_any f (xs ++ x ∷ [])) (any_last f xs x h)

self_eq : (n : ℕ) → nat_eq n n ≡ true
self_eq n = grind arith

-- the note that is put at the end
pub noted_last : (notes : List Note) (points : List ℕ) (line k d : ℕ) → k < length points → has_note (notes ++ record { line = line; point = slice_index_or points k d } ∷ []) points line ≡ true
noted_last notes points line k d h = any_last (λ note. nat_eq note.line line && list_any (nat_eq note.point) points) notes (record { line = line; point = slice_index_or points k d })
    (ap (λ (b : Bool). b && list_any (nat_eq (slice_index_or points k d)) points) (self_eq line) ∙ tested (nat_eq (slice_index_or points k d)) points k d h (self_eq (slice_index_or points k d)))

-- notes are kept while others are made
pub noted_still : (later earlier : List Note) (points : List ℕ) (line : ℕ) → BeginsWith later earlier → has_note earlier points line ≡ true → has_note later points line ≡ true
noted_still later earlier points line b h = subst (λ (notes : List Note). has_note notes points line ≡ true) (sym b.1) (any_more (λ note. nat_eq note.line line && list_any (nat_eq note.point) points) earlier b.0 h)

pub begins_push : (notes : List Note) (x : Note) → BeginsWith (notes ++ x ∷ []) notes
begins_push notes x = (x ∷ [], refl)

pub end_still : (f : FrontState) (later earlier : List Note) (points : List ℕ) (n number : ℕ) → BeginsWith later earlier → IsEndNoted f earlier points n number → IsEndNoted f later points n number
end_still f later earlier points n number b h = λ ends at is. noted_still later earlier points number b (h ends at is)

-- ---- a front line that is noted is a witness
pub kept_in : (points : List Point) (keep : ℕ × ℕ × ℕ → Bool) (lines : List (ℕ × ℕ × ℕ)) (k : ℕ) (line : ℕ × ℕ × ℕ) → k < length lines → slice_index_or lines k line ≡ line → keep line ≡ true → IsIn (pair_edge points (line.1, line.2)) (front_edges points (filter keep lines))
kept_in points keep [] k line h e n = absurd (omega (arith, h))
kept_in points keep (l ∷ lines) zero line h e n = first (keep l) (ap keep e ∙ n) (ap (λ (z : ℕ × ℕ × ℕ). pair_edge points (z.1, z.2)) e)
  where
    first : (b : Bool) → b ≡ true → pair_edge points (l.1, l.2) ≡ pair_edge points (line.1, line.2) →
        IsIn (pair_edge points (line.1, line.2)) (front_edges points (cond b (l ∷ filter keep lines) (filter keep lines)))
    first true i j = inl j
    first false i j = absurd (true≢false (sym i))
kept_in points keep (l ∷ lines) (suc k) line h e n = later (keep l) (kept_in points keep lines k line (omega (arith, h)) e n)
  where
    later : (b : Bool) → IsIn (pair_edge points (line.1, line.2)) (front_edges points (filter keep lines)) →
        IsIn (pair_edge points (line.1, line.2)) (front_edges points (cond b (l ∷ filter keep lines) (filter keep lines)))
    later true i = inr i
    later false i = i

-- ---- lines that end at a point
-- an end of a line is listed
pub end_listed : (count : ℕ) (lines : List (ℕ × ℕ × ℕ)) (n : ℕ) → AllByRecursion (λ line. IsListed count line.1 × IsListed count line.2) lines → is_end lines n ≡ true → IsListed count n
end_listed count [] n a h = absurd (true≢false (sym h))
end_listed count (line ∷ lines) n a h = by (nat_eq line.1 n) refl (nat_eq line.2 n) refl (end_listed count lines n a.1) h
  where
    by : (b : Bool) → nat_eq line.1 n ≡ b → (c : Bool) → nat_eq line.2 n ≡ c → (is_end lines n ≡ true → IsListed count n) → ((b || c) || is_end lines n) ≡ true → IsListed count n
    by true e c g later k = subst (IsListed count) (eqb-true line.1 n e) a.0.0
    by false e true g later k = subst (IsListed count) (eqb-true line.2 n g) a.0.1
    by false e false g later k = later k

-- where the point is no end of a line, there is none to note
pub none_to_note : (f : FrontState) (notes : List Note) (points : List ℕ) (n : ℕ) → is_end f.lines n ≡ false → AreEndsNoted f notes points n
none_to_note f notes points n h = λ line c is. absurd (true≢false (sym (tested (λ l. nat_eq l.1 n || nat_eq l.2 n) f.lines c.0 line c.1 (ap (λ (l : ℕ × ℕ × ℕ). nat_eq l.1 n || nat_eq l.2 n) c.2 ∙ of line is)) ∙ h))
  where
    of : (line : ℕ × ℕ × ℕ) → (line.1 ≡ n) ⊎ (line.2 ≡ n) → (nat_eq line.1 n || nat_eq line.2 n) ≡ true
    of line (inl e) = ap (λ (b : Bool). b || nat_eq line.2 n) (eq-eqb line.1 n e)
    of line (inr e) = right_of (nat_eq line.1 n) (nat_eq line.2 n) (eq-eqb line.2 n e)

-- of the near lines those before place k are looked at
abbrev pub AreLookedAt : FrontState → List Note → List ℕ → ℕ → List ℕ → ℕ → Type 0
AreLookedAt f notes points n numbers k = (i : ℕ) → i < k → IsEndNoted f notes points n (slice_index_or numbers i 0)

pub none_yet : (f : FrontState) (notes : List Note) (points : List ℕ) (n : ℕ) (numbers : List ℕ) → AreLookedAt f notes points n numbers 0
none_yet f notes points n numbers i h = absurd (omega (arith, h))

pub one_more : (f : FrontState) (later earlier : List Note) (points : List ℕ) (n : ℕ) (numbers : List ℕ) (k : ℕ) → BeginsWith later earlier → AreLookedAt f earlier points n numbers k → IsEndNoted f later points n (slice_index_or numbers k 0) → AreLookedAt f later points n numbers (k + 1)
one_more f later earlier points n numbers k b h e i l = by (compared i k l)
  where
    compared : (i k : ℕ) → i < k + 1 → (i < k) ⊎ (i ≡ k)
    compared i k h = grind arith

    by : (i < k) ⊎ (i ≡ k) → IsEndNoted f later points n (slice_index_or numbers i 0)
    by (inl less) = end_still f later earlier points n (slice_index_or numbers i 0) b (h i less)
    by (inr same) = subst (λ (j : ℕ). IsEndNoted f later points n (slice_index_or numbers j 0)) (sym same) e

-- the box that is one place, and lines that begin or end there
abbrev pub at_place : Point → Bounds
at_place p = record { lo = p; hi = p }

level : (u v : ℤ) → u ≡ v → le_z u v ≡ true
level u v e = true_le u v (omega (arith, ints, e))

start_reaches : (z u w : ℤ) → u ≡ z → does_reach z z u w ≡ true
start_reaches z u w e = each (le_z u z || le_z w z) (le_z z u || le_z z w) (left_of (le_z u z) (le_z w z) (level u z e)) (left_of (le_z z u) (le_z z w) (level z u (sym e)))

end_reaches : (z u w : ℤ) → w ≡ z → does_reach z z u w ≡ true
end_reaches z u w e = each (le_z u z || le_z w z) (le_z z u || le_z z w) (right_of (le_z u z) (le_z w z) (level w z e)) (right_of (le_z z u) (le_z z w) (level z w (sym e)))

start_meets : (p a b : Point) → a ≡ p → does_meet (at_place p) (record { a = a; b = b }) ≡ true
start_meets p a b e = each (does_reach p.x p.x a.x b.x) (does_reach p.y p.y a.y b.y) (start_reaches p.x a.x b.x (ap (λ (q : Point). q.x) e)) (start_reaches p.y a.y b.y (ap (λ (q : Point). q.y) e))

end_meets : (p a b : Point) → b ≡ p → does_meet (at_place p) (record { a = a; b = b }) ≡ true
end_meets p a b e = each (does_reach p.x p.x a.x b.x) (does_reach p.y p.y a.y b.y) (end_reaches p.x a.x b.x (ap (λ (q : Point). q.x) e)) (end_reaches p.y a.y b.y (ap (λ (q : Point). q.y) e))

-- all lines near the place are looked at, and each line that ends there is near it
all_ends : (f : FrontState) (notes : List Note) (points : List ℕ) (n : ℕ) (place : Point) (numbers : List ℕ) (k : ℕ) → IsFrontState f → place ≡ point_at f.points n → AreNear f (at_place place) numbers → length numbers ≤ k →
    AreLookedAt f notes points n numbers k → AreEndsNoted f notes points n
all_ends f notes points n place numbers k s at met all looked line c ends =
    let there : line_at f.lines line.0 ≡ Some (line.1, line.2) = line_numbered f.lines f.next c.0 line line s.rising c.1 c.2 in
    let near : is_near f (at_place place) line.0 ≡ true = ap (λ (o : Option (ℕ × ℕ)). option_map_or (λ e. does_meet (at_place place) (pair_edge f.points e)) o false) there ∙ meets ends in
    let here = place_of met line.0 near in
    subst (λ (m : ℕ). IsEndNoted f notes points n m) here.2 (looked here.0 (on here.0 (length numbers) k here.1 all)) (line.1, line.2) there ends
  where
    on : (i m k : ℕ) → i < m → m ≤ k → i < k
    on i m k h l = omega arith

    meets : (line.1 ≡ n) ⊎ (line.2 ≡ n) → does_meet (at_place place) (pair_edge f.points (line.1, line.2)) ≡ true
    meets (inl e) = start_meets place (point_at f.points line.1) (point_at f.points line.2) (ap (point_at f.points) e ∙ sym at)
    meets (inr e) = end_meets place (point_at f.points line.1) (point_at f.points line.2) (ap (point_at f.points) e ∙ sym at)

-- the same with the front under another name
pub ends_told : (f g : FrontState) (notes : List Note) (points : List ℕ) (n : ℕ) (place : Point) (numbers : List ℕ) (k : ℕ) → f ≡ g → IsFrontState f → place ≡ point_at f.points n → AreNear f (at_place place) numbers → length numbers ≤ k →
    AreLookedAt g notes points n numbers k → AreEndsNoted g notes points n
ends_told f g notes points n place numbers k e s at met all looked =
    subst (λ (z : FrontState). AreEndsNoted z notes points n) e (all_ends f notes points n place numbers k s at met all (subst (λ (z : FrontState). AreLookedAt z notes points n numbers k) (sym e) looked))
