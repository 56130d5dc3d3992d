-- New points are listed after the old ones: old numbers stay those of their places, and rule points get the numbers of theirs.
use Rattle.std.proofs.Common.{◌≡◌, ℕ, zero, suc, ◌+◌, ◌-◌, ◌<◌, ◌≤◌, Bool, true, false, List, [], ◌∷◌, ◌++◌, map, length, slice_index_or, refl, sym, ap, ◌∙◌, subst, arith, length-append, pos}
use Rattle.std.specs.List.{AllByRecursion, Contains, IsDistinct}
use Rattle.std.proofs.lemmas.List.{get_or_append_left, get_or-append-add}
use Rattle.grid_geom.specs.declared.Point.{Point}
use Rattle.grid_geom.specs.Closed.{same_point}
use Rattle.wind_law.specs.Chains.{edge}
use Rattle.state_law.specs.State.{point_at, corners_of, front_edges, IsListed}
use Rattle.state_law.proofs.Lists.{all_append, all_map}
use Rattle.rule_reader.specs.Normal.{Names}
use Rattle.rule_match.specs.Applied.{numbers_from}
use Rattle.rule_match.specs.Candidate.{nth}
use Rattle.mesh_run.proofs.Listed.{same_place}

abbrev pub AreListed : List Point → List ℕ → Type 0
AreListed points ns = AllByRecursion (IsListed (length points)) ns

-- ---- old numbers
within : (n m : ℕ) → 1 ≤ n → n ≤ m → n - 1 < m
within n m h k = omega arith

pub point_kept : (points made : List Point) (n : ℕ) → IsListed (length points) n → point_at (points ++ made) n ≡ point_at points n
point_kept points made n l = get_or_append_left points made (record { x = pos 0; y = pos 0 }) (n - 1) (within n (length points) l.0 l.1)

pub listed_more : (points made : List Point) (n : ℕ) → IsListed (length points) n → IsListed (length (points ++ made)) n
listed_more points made n l = (l.0, omega (arith, l.1, length-append points made))

pub corners_kept : (points made : List Point) (ns : List ℕ) → AreListed points ns → corners_of (points ++ made) ns ≡ corners_of points ns
corners_kept points made [] h = refl
corners_kept points made (n ∷ ns) h = λ i. point_kept points made n h.0 i ∷ corners_kept points made ns h.1 i

pub elements_kept : (points made : List Point) (elements : List (List ℕ)) → AllByRecursion (AreListed points) elements → map (corners_of (points ++ made)) elements ≡ map (corners_of points) elements
elements_kept points made [] h = refl
elements_kept points made (ns ∷ elements) h = λ i. corners_kept points made ns h.0 i ∷ elements_kept points made elements h.1 i

abbrev pub AreJoined : List Point → List (ℕ × ℕ × ℕ) → Type 0
AreJoined points lines = AllByRecursion (λ line. IsListed (length points) line.1 × IsListed (length points) line.2) lines

pub edges_kept : (points made : List Point) (lines : List (ℕ × ℕ × ℕ)) → AreJoined points lines → front_edges (points ++ made) lines ≡ front_edges points lines
edges_kept points made [] h = refl
edges_kept points made (line ∷ lines) h = λ i. edge (point_kept points made line.1 h.0.0 i) (point_kept points made line.2 h.0.1 i) ∷ edges_kept points made lines h.1 i

pub joined_more : (points made : List Point) (lines : List (ℕ × ℕ × ℕ)) → AreJoined points lines → AreJoined (points ++ made) lines
joined_more points made [] h = tt
joined_more points made (line ∷ lines) h = ((listed_more points made line.1 h.0.0, listed_more points made line.2 h.0.1), joined_more points made lines h.1)

-- ---- new points at new places
no_longer : (p : Point) (ps made : List Point) → AllByRecursion (λ q. ¬ (Contains (p ∷ ps) q)) made → AllByRecursion (λ q. ¬ (Contains ps q)) made
no_longer p ps made h = all_map (λ q. ¬ (Contains (p ∷ ps) q)) (λ q. ¬ (Contains ps q)) (λ q n c. n (suc c.0, omega (arith, c.1), c.2)) made h

apart_from : (p : Point) (ps made : List Point) → AllByRecursion (λ q. ¬ (Contains (p ∷ ps) q)) made → AllByRecursion (λ q. same_point p q ≡ false) made
apart_from p ps made h = all_map (λ q. ¬ (Contains (p ∷ ps) q)) (λ q. same_point p q ≡ false) (λ q n. by q n (same_point p q) refl) made h
  where
    by : (q : Point) → ¬ (Contains (p ∷ ps) q) → (b : Bool) → same_point p q ≡ b → b ≡ false
    by q n true e = absurd (n (zero, omega arith, same_place p q e))
    by q n false e = refl

pub all_different : (points made : List Point) → IsDistinct same_point points → IsDistinct same_point made → AllByRecursion (λ p. ¬ (Contains points p)) made → IsDistinct same_point (points ++ made)
unfolding IsDistinct
all_different [] made d e n = e
all_different (p ∷ ps) made d e n = (all_append (λ q. same_point p q ≡ false) ps made d.0 (apart_from p ps made n), all_different ps made d.1 e (no_longer p ps made n))

-- ---- rule points by the domain's numbers
abbrev origin : Point
origin = record { x = pos 0; y = pos 0 }

number_made : (n : ℕ) (made : List Point) (k : ℕ) → k < length made → slice_index_or (numbers_from n made) k 0 ≡ n + k + 1
number_made n [] k h = absurd (omega (arith, h))
number_made n (p ∷ made) zero h = omega arith
number_made n (p ∷ made) (suc k) h = let rest = number_made (n + 1) made k (omega (arith, h)) in omega (arith, rest)

place_made : (points made : List Point) (k : ℕ) → k < length made → point_at (points ++ made) (slice_index_or (numbers_from (length points) made) k 0) ≡ slice_index_or made k origin
place_made points made k h =
    let back : length points + k + 1 - 1 ≡ length points + k = omega arith in
    ap (point_at (points ++ made)) (number_made (length points) made k h)
    ∙ ap (λ (i : ℕ). slice_index_or (points ++ made) i origin) back ∙ get_or-append-add points made k origin

place_at : (points made : List Point) (mapped : List ℕ) (k : ℕ) → AreListed points mapped → k < length mapped + length made
    → point_at (points ++ made) (slice_index_or (mapped ++ numbers_from (length points) made) k 0) ≡ slice_index_or (corners_of points mapped ++ made) k origin
place_at points made [] k l h = place_made points made k (omega (arith, h))
place_at points made (n ∷ mapped) zero l h = point_kept points made n l.0
place_at points made (n ∷ mapped) (suc k) l h = place_at points made mapped k l.1 (omega (arith, h))

listed_at : (points made : List Point) (mapped : List ℕ) (k : ℕ) → AreListed points mapped → k < length mapped + length made
    → IsListed (length (points ++ made)) (slice_index_or (mapped ++ numbers_from (length points) made) k 0)
listed_at points made [] k l h = subst (IsListed (length (points ++ made))) (sym (number_made (length points) made k (omega (arith, h)))) (omega arith, omega (arith, h, length-append points made))
listed_at points made (n ∷ mapped) zero l h = listed_more points made n l.0
listed_at points made (n ∷ mapped) (suc k) l h = listed_at points made mapped k l.1 (omega (arith, h))

-- the domain's number of a rule point, of the mapped ones and those that are made
abbrev pub number_of : List Point → List Point → List ℕ → ℕ → ℕ
number_of points made mapped n = nth (mapped ++ numbers_from (length points) made) n

pub corners_at : (points made : List Point) (mapped ns : List ℕ) → AreListed points mapped → AllByRecursion (Names (length mapped + length made)) ns
    → corners_of (points ++ made) (map (number_of points made mapped) ns) ≡ corners_of (corners_of points mapped ++ made) ns
corners_at points made mapped [] l h = refl
corners_at points made mapped (n ∷ ns) l h =
    λ i. place_at points made mapped (n - 1) l (within n (length mapped + length made) h.0.0 h.0.1) i ∷ corners_at points made mapped ns l h.1 i

pub corners_listed : (points made : List Point) (mapped ns : List ℕ) → AreListed points mapped → AllByRecursion (Names (length mapped + length made)) ns → AreListed (points ++ made) (map (number_of points made mapped) ns)
corners_listed points made mapped [] l h = tt
corners_listed points made mapped (n ∷ ns) l h = (listed_at points made mapped (n - 1) l (within n (length mapped + length made) h.0.0 h.0.1), corners_listed points made mapped ns l h.1)
