-- The reach of a rule, as the code computes it; and that it is no greater with lesser leeways.
use Prim.Native.Nat.{ℕ, ◌+◌, ◌*◌, ◌≤◌, max}
use lib.IntN.{pos, ◌-ℤ◌}
use mathlib.Core.Bool.{Bool, true, false}
use mathlib.Core.List.{List, [], ◌∷◌}
use mathlib.Core.Path.{refl}
use native.Mathlib.Omega.{arith}
use Rattle.std.specs.Prelude.{map}
use Rattle.std.specs.Int.{div_ceil}
use Rattle.std.specs.List.{AllByRecursion}
use Rattle.std.specs.Int.RustNames.{unsigned_abs}
use Rattle.std.proofs.lemmas.Int.{ints}
use Rattle.std.proofs.lemmas.Grind.{div_ceil_times}
use Rattle.grid_geom.proofs.Ring.{var, ◌⊖◌, ◌⊗◌, ring}
use Rattle.grid_geom.proofs.Signs.{nn_mul}
use Rattle.rule_reader.specs.declared.rule.MapPoint.{MapPoint}
use Rattle.rule_reader.specs.declared.rule.Term.{Term}
use Rattle.rule_reader.specs.declared.rule.Place.{Place}
use Rattle.rule_reader.specs.declared.rule.Rule.{Rule}
use Rattle.rule_reader.specs.Normal.{IsMapPoint}
use Rattle.rule_maps.specs.declared.reach.Leeway.{Leeway}
use Rattle.rule_maps.specs.Places.{either}
use Rattle.rule_maps.specs.Reach.{in_range, IsLeeway, IsNoGreater, AreNoGreater, leeway_at, leeway_of, stretch, AreCovered, CoversFrom, Covers, CoversBy, IsLeastFrom, farthest}

module _ (leeways : List Leeway) where
  covered : (n : ℕ) (places : List Place) → farthest leeways places ≤ 100000000 * n → AreCovered leeways n places
  covered n [] h = tt
  covered n (p ∷ ps) h = (omega (arith, h), covered n ps (omega (arith, h)))

  uncovered : (n : ℕ) (places : List Place) → AreCovered leeways n places → farthest leeways places ≤ 100000000 * n
  uncovered n [] h = omega arith
  uncovered n (p ∷ ps) h = omega (arith, h.0, uncovered n ps h.1)

  abbrev pub far_of : Rule → ℕ
  far_of r = max (max (farthest leeways r.new_points) (farthest leeways r.area)) (farthest leeways r.limit)

  pub reach_is : (from : ℕ) (r : Rule) → IsLeastFrom from leeways r (max (div_ceil (far_of r) 100000000) from)
  reach_is from r = record {
    covers = record {
      least = omega arith;
      new_points = covered _ r.new_points (omega (arith, enough));
      area = covered _ r.area (omega (arith, enough));
      limit = covered _ r.limit (omega (arith, enough));
    };
    least = λ m h. not_more m h.least (omega (arith, uncovered m r.new_points h.new_points, uncovered m r.area h.area, uncovered m r.limit h.limit));
  }
    where
      enough : far_of r ≤ 100000000 * div_ceil (far_of r) 100000000
      enough = omega (arith, (div_ceil_times (far_of r) 100000000 (omega arith)).0)

      not_more : (m : ℕ) → from ≤ m → far_of r ≤ 100000000 * m → max (div_ceil (far_of r) 100000000) from ≤ m
      not_more m h j = omega (arith, h, j, (div_ceil_times (far_of r) 100000000 (omega arith)).1)

-- ---- lesser leeways
-- with lesser leeways each extent is less, so what covers covers still
module _ (ws vs : List Leeway) (less : AreNoGreater ws vs) where
  leeway_less : (t : Term) → leeway_of ws t ≤ leeway_of vs t
  leeway_less t = by t.of_y (less t.point)
    where
      by : (of_y : Bool) → IsNoGreater (leeway_at ws t.point) (leeway_at vs t.point)
          → either of_y (leeway_at ws t.point).along (leeway_at ws t.point).left ≤ either of_y (leeway_at vs t.point).along (leeway_at vs t.point).left
      by false h = h.along
      by true h = h.left

  stretch_less : (ts : List Term) → stretch ws ts ≤ stretch vs ts
  stretch_less [] = omega arith
  stretch_less (t ∷ ts) = sums _ _ _ _ (times (unsigned_abs t.coefficient) _ _ (leeway_less t)) (stretch_less ts)
    where
      sums : (a b c d : ℕ) → a ≤ b → c ≤ d → a + c ≤ b + d
      sums a b c d h k = omega arith

      times : (c a b : ℕ) → a ≤ b → c * a ≤ c * b
      times c a b h = omega (arith, ints, nn_mul (pos c) (pos b -ℤ pos a) (omega (arith, ints)) (omega (arith, ints, h)), ring (pos c ∷ pos a ∷ pos b ∷ []) (var 0 ⊗ (var 2 ⊖ var 1)) (var 0 ⊗ var 2 ⊖ var 0 ⊗ var 1) refl)

  covered_less : (n : ℕ) (places : List Place) → AreCovered vs n places → AreCovered ws n places
  covered_less n [] h = tt
  covered_less n (p ∷ ps) h = (omega (arith, stretch_less p.row_x, stretch_less p.row_y, h.0), covered_less n ps h.1)

  pub covers_less : (r : Rule) (from most n : ℕ) → from ≤ most → CoversFrom most vs r n → CoversFrom from ws r n
  covers_less r from most n l h = record { least = omega (arith, l, h.least); new_points = covered_less n r.new_points h.new_points; area = covered_less n r.area h.area; limit = covered_less n r.limit h.limit }

pub covers_by : (leeways : List Leeway) (r : Rule) (n : ℕ) → AreNoGreater leeways (map in_range r.points) → Covers r n → CoversBy leeways r n
covers_by leeways r n less h = covers_less leeways (map in_range r.points) less r 3 13 n (omega arith) h

-- ---- the leeways of points in range
pub ranges : (points : List MapPoint) → AllByRecursion IsMapPoint points → AllByRecursion IsLeeway (map in_range points)
ranges [] h = tt
ranges (p ∷ points) h = (record { along = omega (arith, h.0.x); left = omega (arith, h.0.y) }, ranges points h.1)
