-- A box made larger, point by point, until it holds the corners of a list.
use lib.Signed.{◌≤ℤ◌}
use lib.IntN.{ℤ}
use lib.ListN.{length, take, get_or}
use mathlib.Core.Path.{sym, subst}
use mathlib.Core.List.{List, [], ◌∷◌, ◌++◌}
use native.Mathlib.Omega.{arith}
use Prim.Native.Nat.{ℕ, ◌+◌, ◌<◌, ◌≤◌}
use Rattle.std.proofs.lemmas.Int.{ints}
use Rattle.std.proofs.lemmas.List.{take_more, take_all}
use Rattle.grid_geom.specs.declared.Point.{Point}
use Rattle.state_law.specs.Saved.{AreInBox}
use Rattle.state_law.proofs.Lists.{all_map, all_append}

through : {u w z : ℤ} → u ≤ℤ w → w ≤ℤ z → u ≤ℤ z
through {u} {w} {z} h i = omega (arith, ints, h, i)

-- a larger box holds what the box holds
pub widened : (lo hi from to : Point) (cs : List Point) → from.x ≤ℤ lo.x → hi.x ≤ℤ to.x → from.y ≤ℤ lo.y → hi.y ≤ℤ to.y → AreInBox lo hi cs → AreInBox from to cs
widened lo hi from to cs left right below above h = record {
  right_of_least = all_map (λ (c : Point). lo.x ≤ℤ c.x) (λ (c : Point). from.x ≤ℤ c.x) (λ c k. through left k) cs h.right_of_least;
  left_of_greatest = all_map (λ (c : Point). c.x ≤ℤ hi.x) (λ (c : Point). c.x ≤ℤ to.x) (λ c k. through k right) cs h.left_of_greatest;
  above_least = all_map (λ (c : Point). lo.y ≤ℤ c.y) (λ (c : Point). from.y ≤ℤ c.y) (λ c k. through below k) cs h.above_least;
  below_greatest = all_map (λ (c : Point). c.y ≤ℤ hi.y) (λ (c : Point). c.y ≤ℤ to.y) (λ c k. through k above) cs h.below_greatest;
}

-- a box that holds two lists holds both
joined : (lo hi : Point) (cs ds : List Point) → AreInBox lo hi cs → AreInBox lo hi ds → AreInBox lo hi (cs ++ ds)
joined lo hi cs ds h i = record {
  right_of_least = all_append (λ (c : Point). lo.x ≤ℤ c.x) cs ds h.right_of_least i.right_of_least;
  left_of_greatest = all_append (λ (c : Point). c.x ≤ℤ hi.x) cs ds h.left_of_greatest i.left_of_greatest;
  above_least = all_append (λ (c : Point). lo.y ≤ℤ c.y) cs ds h.above_least i.above_least;
  below_greatest = all_append (λ (c : Point). c.y ≤ℤ hi.y) cs ds h.below_greatest i.below_greatest;
}

-- one more corner of a list
pub one_more : (lo hi : Point) (cs : List Point) (i : ℕ) (d : Point) → i < length cs → AreInBox lo hi (take i cs) → AreInBox lo hi (get_or cs i d ∷ []) → AreInBox lo hi (take (i + 1) cs)
one_more lo hi cs i d h old new = subst (AreInBox lo hi) (sym (take_more cs i d h)) (joined lo hi (take i cs) (get_or cs i d ∷ []) old new)

-- all corners
pub whole_box : (lo hi : Point) (cs : List Point) (i : ℕ) → length cs ≤ i → AreInBox lo hi (take i cs) → AreInBox lo hi cs
whole_box lo hi cs i h k = subst (AreInBox lo hi) (take_all i cs h) k
