-- The constants of a rule within the limits are small, and those that are kept are those of its places. Stands on Summing.
use Prim.Native.Nat.{ℕ, ◌-◌, ◌<◌}
use lib.IntN.{ℤ, pos, ◌+ℤ◌, ◌*ℤ◌}
use lib.ListN.{length, get_or}
use mathlib.Core.List.{List, [], ◌∷◌}
use mathlib.Core.Path.{◌≡◌, sym, ap, ◌∙◌, subst}
use native.Mathlib.Omega.{arith}
use Rattle.std.specs.Prelude.{map}
use Rattle.std.specs.List.{AllByRecursion}
use Rattle.std.proofs.lemmas.Int.{ints}
use Rattle.std.proofs.lemmas.List.{get_or-map, get_or_default}
use Rattle.std.proofs.lemmas.List.Elements.{All-from_recursion}
use Rattle.grid_geom.specs.Bounds.{IsWithin}
use Rattle.grid_geom.proofs.Within.{within_mul}
use Rattle.rule_reader.specs.declared.rule.MapPoint.{MapPoint}
use Rattle.rule_reader.specs.declared.rule.Term.{Term}
use Rattle.rule_reader.specs.declared.rule.Place.{Place}
use Rattle.rule_reader.specs.Normal.{AtMost, IsMapPoint, IsTerm, IsPlace}
use Rattle.rule_maps.specs.declared.sums.PlaceConstants.{PlaceConstants}
use Rattle.rule_maps.specs.declared.sums.TheConstants.{NUMBER, REST, CONSTANT}
use Rattle.rule_maps.specs.Places.{point_at, place_at}
use Rattle.rule_maps.specs.Sums.{rest_at, resting, constant, constants_of, IsSmall}
use Rattle.rule_maps.proofs.Numbers.{within_add, within_more}
use Rattle.rule_maps.proofs.Summing.{number_within, either_within, constant_within}

-- what holds of each holds of the one at a place
pub each_at : {A : Type 0} (P : A → Type 0) (xs : List A) (i : ℕ) (d : A) → AllByRecursion P xs → i < length xs → P (get_or xs i d)
each_at P xs i d h j = All-from_recursion P xs h i d j

rest_within : (points : List MapPoint) (t : Term) → AllByRecursion IsMapPoint points → IsTerm (length points) t → IsWithin NUMBER (rest_at points t)
rest_within points t hp ht = let p : IsMapPoint (point_at points t.point) = each_at IsMapPoint points (t.point - 1) _ hp (omega (arith, ht.point.0, ht.point.1)) in either_within NUMBER t.of_y (point_at points t.point).x (point_at points t.point).y (number_within _ p.x) (number_within _ p.y)

resting_within : (points : List MapPoint) (row : List Term) → AllByRecursion IsMapPoint points → AllByRecursion (IsTerm (length points)) row → IsWithin (pos (length row) *ℤ REST) (resting points row)
resting_within points [] hp h = record { least = omega (arith, ints); greatest = omega (arith, ints) }
resting_within points (t ∷ ts) hp h = within_more (REST +ℤ pos (length ts) *ℤ REST) (pos (length (t ∷ ts)) *ℤ REST) (resting points (t ∷ ts)) (omega (arith, ints))
    (within_add REST (pos (length ts) *ℤ REST) (t.coefficient *ℤ rest_at points t) (resting points ts) (within_mul NUMBER NUMBER t.coefficient (rest_at points t) (number_within _ h.0.coefficient) (rest_within points t hp h.0)) (resting_within points ts hp h.1))

row_small : (points : List MapPoint) (x0 : ℤ) (row : List Term) → AllByRecursion IsMapPoint points → IsWithin NUMBER x0 → AtMost 32 (IsTerm (length points)) row → IsWithin CONSTANT (constant points x0 row)
row_small points x0 row hp hx h = constant_within x0 (resting points row) hx (within_more (pos (length row) *ℤ REST) (pos 32 *ℤ REST) (resting points row) (omega (arith, ints, h.0)) (resting_within points row hp h.1))

pub constants_small : (points : List MapPoint) (p : Place) → AllByRecursion IsMapPoint points → IsPlace (length points) p → IsSmall (constants_of points p)
constants_small points p hp h = record { x = row_small points p.x p.row_x hp (number_within p.x h.x) h.row_x; y = row_small points p.y p.row_y hp (number_within p.y h.y) h.row_y }

-- a place of the rule and the constants that are kept of it
pub record IsListed (points : List MapPoint) (places : List Place) (k : ℕ) (c : PlaceConstants) (p : Place) : Type 0 where
  pub constants : c ≡ constants_of points p
  pub place : p ≡ place_at places k
  pub good : IsPlace (length points) p
  pub small : IsSmall c

pub listed : (points : List MapPoint) {places read : List Place} {kept : List PlaceConstants} (k : ℕ) (c : PlaceConstants) (p : Place) → AllByRecursion IsMapPoint points → AllByRecursion (IsPlace (length points)) places →
    kept ≡ map (constants_of points) places → read ≡ places → k - 1 < length places → c ≡ get_or kept (k - 1) c → p ≡ get_or read (k - 1) p → IsListed points places k c p
listed points {places} {read} {kept} k c p hp h e f j ec ep = record {
  constants = same;
  place = at ∙ get_or_default places (k - 1) p _ j;
  good = good;
  small = subst (λ (d : PlaceConstants). IsSmall d) (sym same) (constants_small points p hp good);
}
  where
    at : p ≡ get_or places (k - 1) p
    at = ep ∙ ap (λ (ps : List Place). get_or ps (k - 1) p) f

    same : c ≡ constants_of points p
    same = ec ∙ ap (λ (cs : List PlaceConstants). get_or cs (k - 1) c) e ∙ get_or-map (constants_of points) places (k - 1) p c j ∙ ap (λ (q : Place). constants_of points q) (sym at)

    good : IsPlace (length points) p
    good = subst (λ (q : Place). IsPlace (length points) q) (sym at) (each_at (IsPlace (length points)) places (k - 1) p h j)
