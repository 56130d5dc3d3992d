-- A square with a hole is an opening: a square's sides are a region, and gluing an element that touches none of them, where the hole is, leaves those sides and the element's reversed.
use Prim.Native.Nat.{ℕ, zero, suc, ◌<◌}
use lib.IntN.{pos}
use lib.Signed.{◌<ℤ◌, ◌≤ℤ◌}
use mathlib.Core.Path.{◌≡◌, refl, sym, ap}
use mathlib.Core.List.{[], ◌∷◌, map}
use mathlib.Core.Logic.{◌≢◌}
use native.Mathlib.Omega.{arith}
use Rattle.std.proofs.lemmas.Int.{ints}
use Rattle.std.proofs.lemmas.List.Elements.{All-from_recursion}
use Rattle.std.specs.List.{AllByRecursion, IsDistinct}
use Rattle.grid_geom.specs.declared.Point.{Point}
use Rattle.grid_geom.specs.declared.TheConstants.{GRID}
use Rattle.grid_geom.specs.Bounds.{IsOnGrid, IsWithin}
use Rattle.grid_geom.specs.Plane.{orient}
use Rattle.grid_geom.specs.Polygon.{sides, IsStrictlyConvex, corner_at, after}
use Rattle.grid_geom.specs.Closed.{same_point}
use Rattle.state_law.specs.Gluing.{MayBeGlued, IsClearOf}
use Rattle.state_law.specs.Region.{IsRegion}
use Rattle.state_law.specs.Saved.{AreInBox}
use Rattle.state_law.specs.State.{pair_edge}
use Rattle.state_law.specs.Worked.{place}
use Rattle.state_law.proofs.NearLines.{far_clear}
use Rattle.state_law.proofs.OnePolygon.{polygon_kept}
use Rattle.state_law.proofs.Region.{region_of, region_on}
use Rattle.front_chain.specs.Front.{IsOpening}
use Rattle.front_chain.specs.Worked.{square_points, hole_points, ring_points, ring_lines}

-- ---- convex quadrilaterals
-- each of four corners that is not an end of a side is strictly left of it
pub convex_four : (a b c d : Point) → pos 0 <ℤ orient a b c → pos 0 <ℤ orient a b d → pos 0 <ℤ orient b c d → pos 0 <ℤ orient b c a → pos 0 <ℤ orient c d a → pos 0 <ℤ orient c d b → pos 0 <ℤ orient d a b → pos 0 <ℤ orient d a c → IsStrictlyConvex (a ∷ b ∷ c ∷ d ∷ [])
convex_four a b c d abc abd bcd bca cda cdb dab dac = record { enough = omega arith; left = λ i l j k n m. each i l j k n m }
  where
    far : {A : Type 0} (j : ℕ) → suc (suc (suc (suc j))) < 4 → A
    far j l = absurd (omega (arith, l))

    each : (i : ℕ) → i < 4 → (j : ℕ) → j < 4 → j ≢ i → j ≢ after (a ∷ b ∷ c ∷ d ∷ []) i → pos 0 <ℤ orient (corner_at (a ∷ b ∷ c ∷ d ∷ []) i) (corner_at (a ∷ b ∷ c ∷ d ∷ []) (after (a ∷ b ∷ c ∷ d ∷ []) i)) (corner_at (a ∷ b ∷ c ∷ d ∷ []) j)
    each zero l zero k n m = absurd (n refl)
    each zero l (suc zero) k n m = absurd (m refl)
    each zero l (suc (suc zero)) k n m = abc
    each zero l (suc (suc (suc zero))) k n m = abd
    each zero l (suc (suc (suc (suc j)))) k n m = far j k
    each (suc zero) l zero k n m = bca
    each (suc zero) l (suc zero) k n m = absurd (n refl)
    each (suc zero) l (suc (suc zero)) k n m = absurd (m refl)
    each (suc zero) l (suc (suc (suc zero))) k n m = bcd
    each (suc zero) l (suc (suc (suc (suc j)))) k n m = far j k
    each (suc (suc zero)) l zero k n m = cda
    each (suc (suc zero)) l (suc zero) k n m = cdb
    each (suc (suc zero)) l (suc (suc zero)) k n m = absurd (n refl)
    each (suc (suc zero)) l (suc (suc (suc zero))) k n m = absurd (m refl)
    each (suc (suc zero)) l (suc (suc (suc (suc j)))) k n m = far j k
    each (suc (suc (suc zero))) l zero k n m = absurd (m refl)
    each (suc (suc (suc zero))) l (suc zero) k n m = dab
    each (suc (suc (suc zero))) l (suc (suc zero)) k n m = dac
    each (suc (suc (suc zero))) l (suc (suc (suc zero))) k n m = absurd (n refl)
    each (suc (suc (suc zero))) l (suc (suc (suc (suc j)))) k n m = far j k
    each (suc (suc (suc (suc i)))) l j k n m = far i l

-- a square by its side's area
large : pos 0 <ℤ pos 36864000000
large = omega (arith, ints)

square_convex : IsStrictlyConvex square_points
square_convex = convex_four (place 0 0) (place 192000 0) (place 192000 192000) (place 0 192000) large large large large large large large large

small : pos 0 <ℤ pos 4096000000
small = omega (arith, ints)

hole_convex : IsStrictlyConvex hole_points
hole_convex = convex_four (place 64000 64000) (place 128000 64000) (place 128000 128000) (place 64000 128000) small small small small small small small small

-- ---- the hole
hole_in_box : AreInBox (place 64000 64000) (place 128000 128000) hole_points
hole_in_box = record {
  right_of_least = (low, (up, (up, (low, tt))));
  left_of_greatest = (up, (high, (high, (up, tt))));
  above_least = (low, (low, (up, (up, tt))));
  below_greatest = (up, (up, (high, (high, tt))));
}
  where
    low : pos 64000 ≤ℤ pos 64000
    low = omega (arith, ints)

    high : pos 128000 ≤ℤ pos 128000
    high = omega (arith, ints)

    up : pos 64000 ≤ℤ pos 128000
    up = omega (arith, ints)

-- no side of the square comes near it
hole_clear : AllByRecursion (IsClearOf hole_points) (sides square_points)
hole_clear = (
  far_clear lo hi hole_points _ hole_convex hole_in_box (λ e. apart (ap (λ (p : Point). p.x) e)) (λ m. below m.rows.not_before),
  (
    far_clear lo hi hole_points _ hole_convex hole_in_box (λ e. apart (ap (λ (p : Point). p.y) e)) (λ m. above m.columns.not_after),
    (
      far_clear lo hi hole_points _ hole_convex hole_in_box (λ e. apart (sym (ap (λ (p : Point). p.x) e))) (λ m. above m.rows.not_after),
      (far_clear lo hi hole_points _ hole_convex hole_in_box (λ e. apart (sym (ap (λ (p : Point). p.y) e))) (λ m. below m.columns.not_before), tt),
    ),
  ),
)
  where
    lo : Point
    lo = place 64000 64000

    hi : Point
    hi = place 128000 128000

    apart : pos 0 ≡ pos 192000 → ⊥
    apart e = omega (arith, ints, e)

    below : pos 64000 ≤ℤ pos 0 → ⊥
    below l = omega (arith, ints, l)

    above : pos 192000 ≤ℤ pos 128000 → ⊥
    above l = omega (arith, ints, l)

hole_may : MayBeGlued hole_points (sides square_points)
hole_may = record { turned = hole_convex; clear = hole_clear; within = refl; covered = less }
  where
    less : pos 8192000000 ≤ℤ pos 73728000000
    less = omega (arith, ints)

ring_region : IsRegion (map (pair_edge ring_points) ring_lines)
ring_region = region_on (sides square_points) hole_points (region_of (sides square_points) (sides square_points) (sides square_points) [] (polygon_kept square_points square_convex)) hole_may

-- ---- the opening
different : IsDistinct same_point ring_points
unfolding IsDistinct
different = (
  (refl, (refl, (refl, (refl, (refl, (refl, (refl, tt))))))),
  (
    (refl, (refl, (refl, (refl, (refl, (refl, tt)))))),
    (
      (refl, (refl, (refl, (refl, (refl, tt))))),
      (
        (refl, (refl, (refl, (refl, tt)))),
        (
          (refl, (refl, (refl, tt))),
          (
            (refl, (refl, tt)),
            ((refl, tt), (tt, tt)),
          ),
        ),
      ),
    ),
  ),
)

pub ring_opens : IsOpening ring_points ring_lines
ring_opens = record {
  numbered = record {
    different = different;
    lines_listed = (
      ((omega arith, omega arith), (omega arith, omega arith)),
      (
        ((omega arith, omega arith), (omega arith, omega arith)),
        (
          ((omega arith, omega arith), (omega arith, omega arith)),
          (
            ((omega arith, omega arith), (omega arith, omega arith)),
            (
              ((omega arith, omega arith), (omega arith, omega arith)),
              (
                ((omega arith, omega arith), (omega arith, omega arith)),
                (
                  ((omega arith, omega arith), (omega arith, omega arith)),
                  (((omega arith, omega arith), (omega arith, omega arith)), tt),
                ),
              ),
            ),
          ),
        ),
      ),
    );
  };
  on_grid = All-from_recursion IsOnGrid ring_points (
    at 0 0 s0 s0,
    (
      at 192000 0 s3 s0,
      (
        at 192000 192000 s3 s3,
        (
          at 0 192000 s0 s3,
          (at 64000 64000 s1 s1, (at 128000 64000 s2 s1, (at 128000 128000 s2 s2, (at 64000 128000 s1 s2, tt)))),
        ),
      ),
    ),
  );
  region = ring_region;
  bounded = omega arith;
}
  where
    at : (x y : ℕ) → IsWithin GRID (pos x) → IsWithin GRID (pos y) → IsOnGrid (place x y)
    at x y h k = record { x_within = h; y_within = k }

    s0 : IsWithin GRID (pos 0)
    s0 = record { least = omega (arith, ints); greatest = omega (arith, ints) }

    s1 : IsWithin GRID (pos 64000)
    s1 = record { least = omega (arith, ints); greatest = omega (arith, ints) }

    s2 : IsWithin GRID (pos 128000)
    s2 = record { least = omega (arith, ints); greatest = omega (arith, ints) }

    s3 : IsWithin GRID (pos 192000)
    s3 = record { least = omega (arith, ints); greatest = omega (arith, ints) }
