-- Boxes that meet, and the points that they have in common. Stands on Signs.
use lib.IntN.{ℤ, pos, ◌*ℤ◌}
use lib.Signed.{◌≤ℤ◌}
use native.Mathlib.Omega.{arith}
use Rattle.std.proofs.lemmas.Int.{ints, clamps}
use Rattle.std.specs.Int.{int_max, int_min}
use Rattle.grid_geom.specs.declared.Bounds.{Bounds}
use Rattle.grid_geom.specs.Sides.{DoBoxesMeet}
use Rattle.grid_geom.specs.Boxes.{IsBox, HaveCommonPlace, DoBoundsMeet}
use Rattle.grid_geom.proofs.Signs.{le_cancel}

-- the corner of the common box that is nearest to the lower left is in both
pub meeting_share : (a b : Bounds) → IsBox a → IsBox b → DoBoundsMeet a b → HaveCommonPlace a b
meeting_share a b u w m = record {
  at = record { x = int_max a.lo.x b.lo.x; y = int_max a.lo.y b.lo.y; k = pos 1 };
  rational = record { positive = omega (arith, ints) };
  in_first = record {
    right_of_least = first a.lo.x b.lo.x;
    left_of_greatest = within a.lo.x b.lo.x a.hi.x u.columns m.second_column;
    above_least = first a.lo.y b.lo.y;
    below_greatest = within a.lo.y b.lo.y a.hi.y u.rows m.second_row;
  };
  in_second = record {
    right_of_least = second a.lo.x b.lo.x;
    left_of_greatest = within a.lo.x b.lo.x b.hi.x m.first_column w.columns;
    above_least = second a.lo.y b.lo.y;
    below_greatest = within a.lo.y b.lo.y b.hi.y m.first_row w.rows;
  };
}
  where
    first : (x y : ℤ) → (x *ℤ pos 1) ≤ℤ int_max x y
    first x y = omega (arith, ints, clamps)

    second : (x y : ℤ) → (y *ℤ pos 1) ≤ℤ int_max x y
    second x y = omega (arith, ints, clamps)

    within : (x y z : ℤ) → x ≤ℤ z → y ≤ℤ z → int_max x y ≤ℤ (z *ℤ pos 1)
    within x y z h i = omega (arith, ints, clamps)

-- a common point is between the one's beginning and the other's end
pub sharing_meet : (a b : Bounds) → HaveCommonPlace a b → DoBoundsMeet a b
sharing_meet a b s = record {
  first_column = between a.lo.x b.hi.x s.at.x s.in_first.right_of_least s.in_second.left_of_greatest;
  second_column = between b.lo.x a.hi.x s.at.x s.in_second.right_of_least s.in_first.left_of_greatest;
  first_row = between a.lo.y b.hi.y s.at.y s.in_first.above_least s.in_second.below_greatest;
  second_row = between b.lo.y a.hi.y s.at.y s.in_second.above_least s.in_first.below_greatest;
}
  where
    between : (u w z : ℤ) → (u *ℤ s.at.k) ≤ℤ z → z ≤ℤ (w *ℤ s.at.k) → u ≤ℤ w
    between u w z h i = le_cancel u w s.at.k s.rational.positive (omega (arith, ints))

-- the box of two opposite corners is theirs
pub meeting_boxes : (a b : Bounds) → IsBox a → IsBox b → (DoBoundsMeet a b → DoBoxesMeet a.lo a.hi b.lo b.hi) × (DoBoxesMeet a.lo a.hi b.lo b.hi → DoBoundsMeet a b)
meeting_boxes a b u w = (
  λ m. record {
    columns = record { not_after = to a.lo.x a.hi.x b.lo.x b.hi.x u.columns w.columns m.first_column; not_before = to b.lo.x b.hi.x a.lo.x a.hi.x w.columns u.columns m.second_column };
    rows = record { not_after = to a.lo.y a.hi.y b.lo.y b.hi.y u.rows w.rows m.first_row; not_before = to b.lo.y b.hi.y a.lo.y a.hi.y w.rows u.rows m.second_row };
  },
  λ m. record {
    first_column = from a.lo.x a.hi.x b.lo.x b.hi.x u.columns w.columns m.columns.not_after;
    second_column = from b.lo.x b.hi.x a.lo.x a.hi.x w.columns u.columns m.columns.not_before;
    first_row = from a.lo.y a.hi.y b.lo.y b.hi.y u.rows w.rows m.rows.not_after;
    second_row = from b.lo.y b.hi.y a.lo.y a.hi.y w.rows u.rows m.rows.not_before;
  },
)
  where
    to : (u w y z : ℤ) → u ≤ℤ w → y ≤ℤ z → u ≤ℤ z → int_min u w ≤ℤ int_max y z
    to u w y z h i j = omega (arith, ints, clamps)

    from : (u w y z : ℤ) → u ≤ℤ w → y ≤ℤ z → int_min u w ≤ℤ int_max y z → u ≤ℤ z
    from u w y z h i j = omega (arith, ints, clamps)
