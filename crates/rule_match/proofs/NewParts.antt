-- The new points of an attempt one by one, its elements' badness, and the numbers of its points.
use Prim.Native.Nat.{ℕ, zero, suc, ◌+◌, ◌<◌, ◌≤◌}
use native.Mathlib.Omega.{arith}
use mathlib.Core.Path.{◌≡◌, refl, sym, ap, ◌∙◌, subst}
use mathlib.Core.List.{List, [], ◌∷◌, ◌++◌}
use Rattle.std.specs.Prelude.{length, take, map, slice_index_or}
use Rattle.std.specs.List.{All}
use lib.IntN.{pos}
use Rattle.std.proofs.lemmas.List.{take_more, take_all, append_assoc, length-take, length-map, map-append}
use Rattle.grid_geom.specs.declared.Point.{Point}
use Rattle.grid_geom.specs.Bounds.{IsOnGrid}
use Rattle.grid_geom.specs.Area.{shoelace}
use Rattle.grid_geom.specs.Polygon.{sides}
use Rattle.front_chain.proofs.Openings.{sweep_within}
use Rattle.std.specs.Int.RustNames.{unsigned_abs}
use Rattle.std.proofs.lemmas.Int.{ints}
use Rattle.state_law.specs.State.{corners_of, point_at}
use Rattle.rule_reader.specs.declared.rule.Place.{Place}
use Rattle.rule_maps.specs.Places.{Mapping, new_point}
use Rattle.rule_match.specs.declared.badness.Badness.{Badness}
use Rattle.rule_match.specs.Candidate.{made_from, made_of}
use Rattle.rule_match.specs.Applied.{numbers_from}
use Rattle.rule_match.specs.Least.{badness_of, worse, worst}

-- ---- new points
-- as many as the rule writes
pub as_many : (m : Mapping) (k : ℕ) (ps : List Place) → length (made_from m k ps) ≡ length ps
as_many m k [] = refl
as_many m k (p ∷ ps) = ap suc (as_many m (k + 1) ps)

made_there : (m : Mapping) (k i n : ℕ) (d : Point) (ps : List Place) → i < length ps → n ≡ k + i → slice_index_or (made_from m k ps) i d ≡ new_point m n
made_there m k i n d [] h e = absurd (omega (arith, h))
made_there m k zero n d (p ∷ ps) h e = ap (new_point m) (omega (arith, e))
made_there m k (suc i) n d (p ∷ ps) h e = made_there m (k + 1) i n d ps (omega (arith, h)) (omega (arith, e))

-- one more at the end
pub pushed : (m : Mapping) (i : ℕ) (old new : List Point) (p : Point) → i < length m.rule.new_points → old ≡ take i (made_of m) → new ≡ old ++ p ∷ [] → p ≡ new_point m (i + 1) → new ≡ take (i + 1) (made_of m)
pushed m i old new p h o n e = n ∙ ap (λ (xs : List Point). xs ++ p ∷ []) o ∙ ap (λ (q : Point). take i (made_of m) ++ q ∷ []) (e ∙ sym (made_there m 1 i (i + 1) p m.rule.new_points h (omega arith)))
    ∙ sym (take_more (made_of m) i p (subst (λ (n : ℕ). i < n) (sym (as_many m 1 m.rule.new_points)) h))

pub whole_list : (m : Mapping) (i : ℕ) (old : List Point) → length m.rule.new_points ≤ i → old ≡ take i (made_of m) → old ≡ made_of m
whole_list m i old h o = o ∙ take_all i (made_of m) (subst (λ (n : ℕ). n ≤ i) (sym (as_many m 1 m.rule.new_points)) h)

-- one off the grid
pub one_off : (m : Mapping) (i : ℕ) → i < length m.rule.new_points → ¬ (IsOnGrid (new_point m (i + 1))) → ¬ (All IsOnGrid (made_of m))
one_off m i h off a = off (subst IsOnGrid (made_there m 1 i (i + 1) (new_point m (i + 1)) m.rule.new_points h (omega arith)) (a i (new_point m (i + 1)) (subst (λ (n : ℕ). i < n) (sym (as_many m 1 m.rule.new_points)) h)))

-- ---- the worst of one element more
pub worst_more : (x : Badness) (es : List (List Point)) (e : List Point) → worst x (es ++ e ∷ []) ≡ worse (worst x es) (badness_of e)
worst_more x [] e = refl
worst_more x (d ∷ es) e = worst_more (worse x (badness_of d)) es e

-- ---- one number more
pub numbers_more : (n k : ℕ) (ps : List Point) (p : Point) → k ≡ n + length ps + 1 → numbers_from n (ps ++ p ∷ []) ≡ numbers_from n ps ++ k ∷ []
numbers_more n k [] p e = ap (λ (z : ℕ). z ∷ []) (omega (arith, e))
numbers_more n k (q ∷ ps) p e = ap (λ (ns : List ℕ). (n + 1) ∷ ns) (numbers_more (n + 1) k ps p (omega (arith, e)))

pub numbers_pushed : (points : List ℕ) (listed next i : ℕ) (made : List Point) (old new : List ℕ) → old ≡ points ++ numbers_from listed (take i made) → next ≡ listed + i → i < length made → new ≡ old ++ (next + 1) ∷ [] → new ≡ points ++ numbers_from listed (take (i + 1) made)
numbers_pushed points listed next i made old new o n h e = e ∙ ap (λ (ns : List ℕ). ns ++ (next + 1) ∷ []) o ∙ append_assoc points (numbers_from listed (take i made)) ((next + 1) ∷ [])
    ∙ ap (λ (ns : List ℕ). points ++ ns) (sym (numbers_more listed (next + 1) (take i made) (slice_index_or made i d) (omega (arith, n, taken))) ∙ ap (numbers_from listed) (sym (take_more made i d h)))
  where
    d : Point
    d = record { x = pos 0; y = pos 0 }

    taken : length (take i made) ≡ i
    taken = omega (arith, h, length-take i made)

-- an element's area is small
pub area_small : (cs : List Point) → length cs ≡ 3 → All IsOnGrid cs → unsigned_abs (shoelace (sides cs)) < 18446744073709551616
area_small [] e h = absurd (omega (arith, e))
area_small (a ∷ []) e h = absurd (omega (arith, e))
area_small (a ∷ b ∷ []) e h = absurd (omega (arith, e))
area_small (a ∷ b ∷ c ∷ []) e h =
    let x = sweep_within a b (h 0 a (omega arith)) (h 1 b (omega arith)) in
    let y = sweep_within b c (h 1 b (omega arith)) (h 2 c (omega arith)) in
    let z = sweep_within c a (h 2 c (omega arith)) (h 0 a (omega arith)) in
    omega (arith, ints, x.least, x.greatest, y.least, y.greatest, z.least, z.greatest)
area_small (a ∷ b ∷ c ∷ d ∷ cs) e h = absurd (omega (arith, e))

-- ---- an element's corners, and the worst of one element more
module _ (places : List Point) (elements : List (List ℕ)) (i : ℕ) (e slice : List ℕ) (corners : List Point) where
  pub three_corners : All (λ ns. length ns ≡ 3) elements → i < length elements → slice_index_or elements i e ≡ e → slice ≡ e → corners ≡ corners_of places slice → length corners ≡ 3
  three_corners h l is s k = ap length k ∙ length-map slice (point_at places) ∙ ap length s ∙ subst (λ (ns : List ℕ). length ns ≡ 3) is (h i e l)

  pub worst_pushed : (x old bad new : Badness) → i < length elements → slice_index_or elements i e ≡ e → slice ≡ e → corners ≡ corners_of places slice → old ≡ worst x (map (corners_of places) (take i elements)) → bad ≡ badness_of corners → new ≡ worse old bad →
      new ≡ worst x (map (corners_of places) (take (i + 1) elements))
  worst_pushed x old bad new l is s k o b n =
      n ∙ ap (λ (z : Badness). worse z bad) o ∙ ap (worse (worst x (map (corners_of places) (take i elements)))) (b ∙ ap badness_of (k ∙ ap (corners_of places) (s ∙ sym is)))
      ∙ sym (worst_more x (map (corners_of places) (take i elements)) (corners_of places (slice_index_or elements i e)))
      ∙ ap (worst x) (sym (map-append (corners_of places) (take i elements) (slice_index_or elements i e ∷ [])) ∙ ap (map (corners_of places)) (sym (take_more elements i e l)))
