-- The winding number of a domain's boundary, by the risers alone.
use lib.IntN.{ℤ, pos, ◌+ℤ◌, ◌-ℤ◌, ◌*ℤ◌}
use lib.Signed.{◌<ℤ◌, ◌≤ℤ◌, lt_z, le_z}
use mathlib.Core.Path.{◌≡◌, refl, sym, ap, ◌∙◌, subst}
use mathlib.Core.List.{List, [], ◌∷◌}
use mathlib.Core.Bool.{Bool, true, false, cond}
use mathlib.Core.Logic.{inl, inr}
use native.Mathlib.Omega.{arith}
use Prim.Native.Nat.{ℕ, ◌+◌, ◌<◌}
use Rattle.std.proofs.Common.{length, drop, slice_index_or, add-one}
use Rattle.std.proofs.Math.Seq.{drop-cons}
use Rattle.std.specs.Prelude.{◌==◌}
use Rattle.std.proofs.lemmas.List.Sums.{sum_by-cons}
use Rattle.std.proofs.lemmas.Int.{ints}
use Rattle.grid_geom.specs.declared.Point.{Point}
use Rattle.grid_geom.specs.declared.RatPoint.{RatPoint}
use Rattle.grid_geom.specs.declared.Edge.{Edge}
use Rattle.grid_geom.specs.Plane.{orient_rat, IsRational}
use Rattle.grid_geom.specs.Winding.{and, cross_of, cross, wind}
use Rattle.grid_geom.proofs.Ring.{var, ◌⊖◌, ◌⊗◌, ring}
use Rattle.grid_geom.proofs.Signs.{ordered, pos_mul}
use Rattle.wind_law.proofs.HalfOpen.{cross_back, level_edge}
use Rattle.geom_check.specs.declared.kinds.Segment.{Segment}
use Rattle.geom_check.specs.declared.risers.Riser.{Riser}
use Rattle.geom_check.specs.Boundary.{point_at, edge_of, back, with_edge, boundary}
use Rattle.geom_check.specs.Risers.{with_riser, upwards, downwards, risers_of, covers, one_if, wests, easts, winding_of}

-- an edge upwards counts 1 where its riser covers q
rising : (u w y o : ℤ) → u <ℤ w → cross_of u w y o ≡ cond (and (and (le_z u y) (lt_z y w)) (lt_z (pos 0) o)) (pos 1) (pos 0)
rising u w y o h = grind (arith, ints)

pub steeper : (u w k : ℤ) → u <ℤ w → pos 0 <ℤ k → (u *ℤ k) <ℤ (w *ℤ k)
steeper u w k h j = less (u *ℤ k) (w *ℤ k) ((w -ℤ u) *ℤ k) (ring (u ∷ w ∷ k ∷ []) ((var 1 ⊖ var 0) ⊗ var 2) (var 1 ⊗ var 2 ⊖ var 0 ⊗ var 2) refl) (pos_mul (w -ℤ u) k (omega (arith, ints)) j)
  where
    less : (m n d : ℤ) → d ≡ n -ℤ m → pos 0 <ℤ d → m <ℤ n
    less m n d e h = omega (arith, ints)

pub lt_true : (u w : ℤ) → u <ℤ w → lt_z u w ≡ true
lt_true u w h = grind (arith, ints)

pub lt_false : (u w : ℤ) → w ≤ℤ u → lt_z u w ≡ false
lt_false u w h = grind (arith, ints)

-- the parts of a segment, on the side of the domain to its left and to its right
part : (b c : Bool) (e : Edge) (es : List Edge) (q : RatPoint) → wind q (with_edge b e (with_edge c (back e) es)) ≡ (cond b (cross q e) (pos 0) +ℤ cond c (cross q (back e)) (pos 0)) +ℤ wind q es
part true true e es q = omega (arith, ints)
part true false e es q = omega (arith, ints)
part false true e es q = omega (arith, ints)
part false false e es q = omega (arith, ints)

-- what a riser adds, from the crossings of its two directions
sides : (c l r : Bool) (x y : ℤ) → x ≡ cond c (pos 1) (pos 0) → y ≡ pos 0 -ℤ x → cond l x (pos 0) +ℤ cond r y (pos 0) ≡ pos (one_if (and c l)) -ℤ pos (one_if (and c r))
sides true true true x y e f = omega (arith, ints)
sides true true false x y e f = omega (arith, ints)
sides true false true x y e f = omega (arith, ints)
sides true false false x y e f = omega (arith, ints)
sides false true true x y e f = omega (arith, ints)
sides false true false x y e f = omega (arith, ints)
sides false false true x y e f = omega (arith, ints)
sides false false false x y e f = omega (arith, ints)

none_of : (l r : Bool) (x y : ℤ) → x ≡ pos 0 → y ≡ pos 0 → cond l x (pos 0) +ℤ cond r y (pos 0) ≡ pos 0
none_of true true x y e f = omega (arith, ints)
none_of true false x y e f = omega (arith, ints)
none_of false true x y e f = omega (arith, ints)
none_of false false x y e f = omega (arith, ints)

joined : (t a w : ℤ) (m n i j : ℕ) → t ≡ a +ℤ w → a ≡ pos m -ℤ pos n → w ≡ pos i -ℤ pos j → t ≡ pos (m + i) -ℤ pos (n + j)
joined t a w m n i j e f g = omega (arith, ints)

none_of_pair : (l r : Bool) (x y : ℤ) → x ≡ pos 0 → y ≡ pos 0 → cond l x (pos 0) +ℤ cond r y (pos 0) ≡ pos 0 -ℤ pos 0
none_of_pair l r x y e f = none_of l r x y e f

plain : (m n : ℕ) → pos (0 + m) -ℤ pos (0 + n) ≡ pos m -ℤ pos n
plain m n = omega (arith, ints)

swapped : (a b c : ℤ) → a +ℤ b ≡ c → b +ℤ a ≡ c
swapped a b c e = omega (arith, ints)

-- one more riser
pub winding_cons : (chosen : ℕ → Bool) (q : RatPoint) (r : Riser) (rs : List Riser) → winding_of chosen q (r ∷ rs) ≡ pos (one_if (and (covers q r) (chosen r.west)) + wests chosen q rs) -ℤ pos (one_if (and (covers q r) (chosen r.east)) + easts chosen q rs)
winding_cons chosen q r rs = ap (λ (n : ℕ). pos n -ℤ pos (easts chosen q (r ∷ rs))) (sum_by-cons (λ r. one_if (and (covers q r) (chosen r.west))) r rs) ∙ ap (λ (n : ℕ). pos (one_if (and (covers q r) (chosen r.west)) + wests chosen q rs) -ℤ pos n) (sum_by-cons (λ r. one_if (and (covers q r) (chosen r.east))) r rs)

-- the winding number of a domain's boundary, by the risers alone
pub wind_is : (q : RatPoint) (points : List Point) (d : ℕ) (ss : List Segment) → IsRational q → wind q (boundary points d ss) ≡ winding_of (λ n. n == d) q (risers_of points ss)
wind_is q points d [] kq = refl
wind_is q points d (s ∷ ss) kq = elim (ordered (point_at points s.p).y (point_at points s.q).y) [
  | inl up ↦
      subst (λ (rs : List Riser). wind q (boundary points d (s ∷ ss)) ≡ winding_of (λ n. n == d) q rs) (sym (turned true false (lt_true (point_at points s.p).y (point_at points s.q).y up) (lt_false (point_at points s.q).y (point_at points s.p).y (omega (arith, ints)))))
      (joined _ _ (wind q (boundary points d ss)) (one_if (and (covers q (upwards points s)) (s.left == d))) (one_if (and (covers q (upwards points s)) (s.right == d))) (wests (λ n. n == d) q (risers_of points ss)) (easts (λ n. n == d) q (risers_of points ss))
      (part (s.left == d) (s.right == d) (edge_of points s) (boundary points d ss) q) (sides (covers q (upwards points s)) (s.left == d) (s.right == d) (cross q (edge_of points s)) (cross q (back (edge_of points s))) (rising ((point_at points s.p).y *ℤ q.k) ((point_at points s.q).y *ℤ q.k) q.y (orient_rat (point_at points s.p) (point_at points s.q) q) (steeper (point_at points s.p).y (point_at points s.q).y q.k up kq.positive)) (cross_back q (point_at points s.p) (point_at points s.q))) (wind_is q points d ss kq) ∙ sym (winding_cons (λ n. n == d) q (upwards points s) (risers_of points ss)))
  | inr r ↦ elim r [
    | inr down ↦
        subst (λ (rs : List Riser). wind q (boundary points d (s ∷ ss)) ≡ winding_of (λ n. n == d) q rs) (sym (turned false true (lt_false (point_at points s.p).y (point_at points s.q).y (omega (arith, ints))) (lt_true (point_at points s.q).y (point_at points s.p).y down)))
        (joined _ _ (wind q (boundary points d ss)) (one_if (and (covers q (downwards points s)) (s.right == d))) (one_if (and (covers q (downwards points s)) (s.left == d))) (wests (λ n. n == d) q (risers_of points ss)) (easts (λ n. n == d) q (risers_of points ss))
        (part (s.left == d) (s.right == d) (edge_of points s) (boundary points d ss) q)
        (swapped (cond (s.right == d) (cross q (back (edge_of points s))) (pos 0)) (cond (s.left == d) (cross q (edge_of points s)) (pos 0)) _ (sides (covers q (downwards points s)) (s.right == d) (s.left == d) (cross q (back (edge_of points s))) (cross q (edge_of points s)) (rising ((point_at points s.q).y *ℤ q.k) ((point_at points s.p).y *ℤ q.k) q.y (orient_rat (point_at points s.q) (point_at points s.p) q) (steeper (point_at points s.q).y (point_at points s.p).y q.k down kq.positive)) (cross_back q (point_at points s.q) (point_at points s.p))))
        (wind_is q points d ss kq) ∙ sym (winding_cons (λ n. n == d) q (downwards points s) (risers_of points ss)))
    | inl level ↦
        subst (λ (rs : List Riser). wind q (boundary points d (s ∷ ss)) ≡ winding_of (λ n. n == d) q rs) (sym (turned false false (lt_false (point_at points s.p).y (point_at points s.q).y (omega (arith, ints))) (lt_false (point_at points s.q).y (point_at points s.p).y (omega (arith, ints)))))
        (joined _ _ (wind q (boundary points d ss)) 0 0 (wests (λ n. n == d) q (risers_of points ss)) (easts (λ n. n == d) q (risers_of points ss))
        (part (s.left == d) (s.right == d) (edge_of points s) (boundary points d ss) q)
        (none_of_pair (s.left == d) (s.right == d) (cross q (edge_of points s)) (cross q (back (edge_of points s))) (level_edge ((point_at points s.p).y *ℤ q.k) ((point_at points s.q).y *ℤ q.k) q.y (orient_rat (point_at points s.p) (point_at points s.q) q) (ap (λ (z : ℤ). z *ℤ q.k) (sym level))) (level_edge ((point_at points s.q).y *ℤ q.k) ((point_at points s.p).y *ℤ q.k) q.y (orient_rat (point_at points s.q) (point_at points s.p) q) (ap (λ (z : ℤ). z *ℤ q.k) level)))
        (wind_is q points d ss kq) ∙ plain (wests (λ n. n == d) q (risers_of points ss)) (easts (λ n. n == d) q (risers_of points ss)))
  ]
]
  where
    turned : (b c : Bool) → lt_z (point_at points s.p).y (point_at points s.q).y ≡ b → lt_z (point_at points s.q).y (point_at points s.p).y ≡ c → risers_of points (s ∷ ss) ≡ with_riser b (upwards points s) (with_riser c (downwards points s) (risers_of points ss))
    turned b c f g = ap (λ (x : Bool). with_riser x (upwards points s) (with_riser (lt_z (point_at points s.q).y (point_at points s.p).y) (downwards points s) (risers_of points ss))) f ∙ ap (λ (x : Bool). with_riser b (upwards points s) (with_riser x (downwards points s) (risers_of points ss))) g

-- the risers from place i on
pub risers_drop : (points : List Point) (ss : List Segment) (i : ℕ) (d : Segment) → i < length ss → risers_of points (drop i ss) ≡
    with_riser (lt_z (point_at points (slice_index_or ss i d).p).y (point_at points (slice_index_or ss i d).q).y) (upwards points (slice_index_or ss i d))
    (with_riser (lt_z (point_at points (slice_index_or ss i d).q).y (point_at points (slice_index_or ss i d).p).y) (downwards points (slice_index_or ss i d)) (risers_of points (drop (i + 1) ss)))
risers_drop points ss i d h = rw (add-one i) (ap (risers_of points) (drop-cons ss i d h))
