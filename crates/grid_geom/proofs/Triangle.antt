-- A point and a triangle: the point as a mean of the corners, corners above and below it, points on a side, lines with all corners on one side,
-- and the centre. Stands on Lines and Signs.
use lib.IntN.{ℤ, pos, ◌+ℤ◌, ◌-ℤ◌, ◌*ℤ◌}
use lib.Signed.{◌<ℤ◌, ◌≤ℤ◌}
use mathlib.Core.Path.{◌≡◌, refl, ap, ◌∙◌, subst}
use mathlib.Core.List.{List, [], ◌∷◌}
use mathlib.Core.Logic.{◌⊎◌, inl, inr}
use native.Mathlib.Omega.{arith}
use Rattle.std.proofs.lemmas.Int.{ints, clamps}
use Rattle.std.specs.Int.{int_max, int_min}
use Rattle.grid_geom.specs.declared.Point.{Point}
use Rattle.grid_geom.specs.declared.RatPoint.{RatPoint}
use Rattle.grid_geom.specs.Plane.{orient, orient_rat}
use Rattle.grid_geom.specs.Line.{Line, side, whole}
use Rattle.grid_geom.specs.Sides.{IsOnClosed, IsInTriangle}
use Rattle.grid_geom.proofs.Ring.{E, var, num, ◌⊕◌, ◌⊖◌, ◌⊗◌, ring}
use Rattle.grid_geom.proofs.Signs.{nn_mul, pos_mul, nn_np_mul, pos_mul_neg, either, le_cancel, pos_factor}
use Rattle.grid_geom.proofs.Lines.{PointE, orientE}

abbrev A : PointE
A = record { x = var 0; y = var 1; k = num (pos 1) }

abbrev B : PointE
B = record { x = var 2; y = var 3; k = num (pos 1) }

abbrev C : PointE
C = record { x = var 4; y = var 5; k = num (pos 1) }

abbrev Q : PointE
Q = record { x = var 6; y = var 7; k = var 8 }

abbrev corners : Point → Point → Point → RatPoint → List ℤ
corners a b c q = a.x ∷ a.y ∷ b.x ∷ b.y ∷ c.x ∷ c.y ∷ q.x ∷ q.y ∷ q.k ∷ []

abbrev turnE : PointE → PointE → PointE → E
turnE a b c = (b.x ⊖ a.x) ⊗ (c.y ⊖ a.y) ⊖ (b.y ⊖ a.y) ⊗ (c.x ⊖ a.x)

-- q as the mean of the corners
pub mean_x : (a b c : Point) (q : RatPoint) → orient a b c *ℤ q.x ≡ orient_rat b c q *ℤ a.x +ℤ orient_rat c a q *ℤ b.x +ℤ orient_rat a b q *ℤ c.x
mean_x a b c q = ring (corners a b c q) (turnE A B C ⊗ Q.x) (orientE B C Q ⊗ A.x ⊕ orientE C A Q ⊗ B.x ⊕ orientE A B Q ⊗ C.x) refl

pub mean_y : (a b c : Point) (q : RatPoint) → orient a b c *ℤ q.y ≡ orient_rat b c q *ℤ a.y +ℤ orient_rat c a q *ℤ b.y +ℤ orient_rat a b q *ℤ c.y
mean_y a b c q = ring (corners a b c q) (turnE A B C ⊗ Q.y) (orientE B C Q ⊗ A.y ⊕ orientE C A Q ⊗ B.y ⊕ orientE A B Q ⊗ C.y) refl

pub mean_k : (a b c : Point) (q : RatPoint) → orient a b c *ℤ q.k ≡ orient_rat b c q +ℤ orient_rat c a q +ℤ orient_rat a b q
mean_k a b c q = ring (corners a b c q) (turnE A B C ⊗ Q.k) (orientE B C Q ⊕ orientE C A Q ⊕ orientE A B Q) refl

abbrev sideE : PointE → E
sideE p = var 9 ⊗ p.x ⊕ var 10 ⊗ p.y ⊕ var 11 ⊗ p.k

pub mean_side : (l : Line) (a b c : Point) (q : RatPoint) → orient a b c *ℤ side l q ≡ orient_rat b c q *ℤ side l (whole a) +ℤ orient_rat c a q *ℤ side l (whole b) +ℤ orient_rat a b q *ℤ side l (whole c)
mean_side l a b c q = ring (a.x ∷ a.y ∷ b.x ∷ b.y ∷ c.x ∷ c.y ∷ q.x ∷ q.y ∷ q.k ∷ l.a ∷ l.b ∷ l.c ∷ [])
    (turnE A B C ⊗ sideE Q) (orientE B C Q ⊗ sideE A ⊕ orientE C A Q ⊗ sideE B ⊕ orientE A B Q ⊗ sideE C) refl

-- the heights of the corners above q
pub mean_height : (a b c : Point) (q : RatPoint) → orient_rat b c q *ℤ (a.y *ℤ q.k -ℤ q.y) +ℤ orient_rat c a q *ℤ (b.y *ℤ q.k -ℤ q.y) +ℤ orient_rat a b q *ℤ (c.y *ℤ q.k -ℤ q.y) ≡ pos 0
mean_height a b c q = ring (corners a b c q) (orientE B C Q ⊗ (A.y ⊗ Q.k ⊖ Q.y) ⊕ orientE C A Q ⊗ (B.y ⊗ Q.k ⊖ Q.y) ⊕ orientE A B Q ⊗ (C.y ⊗ Q.k ⊖ Q.y)) (num (pos 0)) refl

-- ---- inside: some corner is higher than q, and some is not
all_higher : (f g h x y z : ℤ) → f *ℤ x +ℤ g *ℤ y +ℤ h *ℤ z ≡ pos 0 → pos 0 <ℤ f → pos 0 <ℤ g → pos 0 <ℤ h → pos 0 <ℤ x → pos 0 <ℤ y → pos 0 <ℤ z → ⊥
all_higher f g h x y z e hf hg hh hx hy hz = omega (arith, ints, pos_mul f x hf hx, pos_mul g y hg hy, pos_mul h z hh hz)

pub not_all_higher : (a b c : Point) (q : RatPoint) → IsInTriangle q a b c → q.y <ℤ (a.y *ℤ q.k) → q.y <ℤ (b.y *ℤ q.k) → q.y <ℤ (c.y *ℤ q.k) → ⊥
not_all_higher a b c q t i j l = all_higher (orient_rat b c q) (orient_rat c a q) (orient_rat a b q) (a.y *ℤ q.k -ℤ q.y) (b.y *ℤ q.k -ℤ q.y) (c.y *ℤ q.k -ℤ q.y) (mean_height a b c q)
    t.left_of_second t.left_of_third t.left_of_first (omega (arith, ints)) (omega (arith, ints)) (omega (arith, ints))

-- the first of three heights that cancel is 0 where none is above 0
first_level : (f g h x y z : ℤ) → f *ℤ x +ℤ g *ℤ y +ℤ h *ℤ z ≡ pos 0 → pos 0 <ℤ f → pos 0 <ℤ g → pos 0 <ℤ h → x ≤ℤ pos 0 → y ≤ℤ pos 0 → z ≤ℤ pos 0 → pos 0 ≤ℤ x
first_level f g h x y z e hf hg hh hx hy hz = elim (either (pos 0) x)
    [ inl n ↦ n | inr n ↦ absurd (omega (arith, ints, pos_mul_neg f x hf n, nn_np_mul g y (omega (arith, ints)) hy, nn_np_mul h z (omega (arith, ints)) hz)) ]

second_level : (f g h x y z : ℤ) → f *ℤ x +ℤ g *ℤ y +ℤ h *ℤ z ≡ pos 0 → pos 0 <ℤ f → pos 0 <ℤ g → pos 0 <ℤ h → x ≤ℤ pos 0 → y ≤ℤ pos 0 → z ≤ℤ pos 0 → pos 0 ≤ℤ y
second_level f g h x y z e hf hg hh hx hy hz = first_level g f h y x z (omega (arith, ints)) hg hf hh hy hx hz

flat_turn : (f g h j : ℤ) → f ≡ pos 0 → g ≡ pos 0 → pos 0 <ℤ (h *ℤ f -ℤ g *ℤ j) → ⊥
flat_turn f g h j e i l = omega (arith, ints, subst (λ (z : ℤ). pos 0 <ℤ (h *ℤ pos 0 -ℤ z *ℤ j)) i (subst (λ (z : ℤ). pos 0 <ℤ (h *ℤ z -ℤ g *ℤ j)) e l))

pub not_all_lower : (a b c : Point) (q : RatPoint) → pos 0 <ℤ q.k → IsInTriangle q a b c → (a.y *ℤ q.k) ≤ℤ q.y → (b.y *ℤ q.k) ≤ℤ q.y → (c.y *ℤ q.k) ≤ℤ q.y → ⊥
not_all_lower a b c q kq t i j l = flat_turn (q.y -ℤ a.y *ℤ q.k) (b.y -ℤ a.y) (b.x -ℤ a.x) (q.x -ℤ a.x *ℤ q.k)
    (omega (arith, ints, fst)) (omega (arith, ints, le_cancel a.y b.y q.k kq (omega (arith, ints, fst, snd)), le_cancel b.y a.y q.k kq (omega (arith, ints, fst, snd)))) t.left_of_first
  where
    fst : pos 0 ≤ℤ (a.y *ℤ q.k -ℤ q.y)
    fst = first_level (orient_rat b c q) (orient_rat c a q) (orient_rat a b q) (a.y *ℤ q.k -ℤ q.y) (b.y *ℤ q.k -ℤ q.y) (c.y *ℤ q.k -ℤ q.y) (mean_height a b c q)
        t.left_of_second t.left_of_third t.left_of_first (omega (arith, ints)) (omega (arith, ints)) (omega (arith, ints))

    snd : pos 0 ≤ℤ (b.y *ℤ q.k -ℤ q.y)
    snd = second_level (orient_rat b c q) (orient_rat c a q) (orient_rat a b q) (a.y *ℤ q.k -ℤ q.y) (b.y *ℤ q.k -ℤ q.y) (c.y *ℤ q.k -ℤ q.y) (mean_height a b c q)
        t.left_of_second t.left_of_third t.left_of_first (omega (arith, ints)) (omega (arith, ints)) (omega (arith, ints))

-- ---- on a side
weigh : (f u z : ℤ) → f *ℤ (u -ℤ z) ≡ f *ℤ u -ℤ z *ℤ f
weigh f u z = ring (f ∷ u ∷ z ∷ []) (var 0 ⊗ (var 1 ⊖ var 2)) (var 0 ⊗ var 1 ⊖ var 2 ⊗ var 0) refl

scaled : (d f g z k : ℤ) → d *ℤ k ≡ f +ℤ g → (z *ℤ k) *ℤ d ≡ z *ℤ f +ℤ z *ℤ g
scaled d f g z k i = ring (z ∷ k ∷ d ∷ []) ((var 0 ⊗ var 1) ⊗ var 2) (var 0 ⊗ (var 2 ⊗ var 1)) refl ∙ ap (λ (n : ℤ). z *ℤ n) i ∙ ring (z ∷ f ∷ g ∷ []) (var 0 ⊗ (var 1 ⊕ var 2)) (var 0 ⊗ var 1 ⊕ var 0 ⊗ var 2) refl

least_mean : (d f g x u w z k : ℤ) → d *ℤ x ≡ f *ℤ u +ℤ g *ℤ w → d *ℤ k ≡ f +ℤ g → pos 0 <ℤ d → pos 0 ≤ℤ f → pos 0 ≤ℤ g → z ≤ℤ u → z ≤ℤ w → (z *ℤ k) ≤ℤ x
least_mean d f g x u w z k e i hd hf hg hu hw = le_cancel (z *ℤ k) x d hd
    (omega (arith, ints, e, scaled d f g z k i, weigh f u z, weigh g w z, nn_mul f (u -ℤ z) hf (omega (arith, ints)), nn_mul g (w -ℤ z) hg (omega (arith, ints))))

greatest_mean : (d f g x u w z k : ℤ) → d *ℤ x ≡ f *ℤ u +ℤ g *ℤ w → d *ℤ k ≡ f +ℤ g → pos 0 <ℤ d → pos 0 ≤ℤ f → pos 0 ≤ℤ g → u ≤ℤ z → w ≤ℤ z → x ≤ℤ (z *ℤ k)
greatest_mean d f g x u w z k e i hd hf hg hu hw = le_cancel x (z *ℤ k) d hd
    (omega (arith, ints, e, scaled d f g z k i, weigh f u z, weigh g w z, nn_np_mul f (u -ℤ z) hf (omega (arith, ints)), nn_np_mul g (w -ℤ z) hg (omega (arith, ints))))

-- a point of the closed triangle on the line of a side is on that side
pub on_side : (a b c : Point) (q : RatPoint) → pos 0 <ℤ orient a b c → orient_rat a b q ≡ pos 0 → pos 0 ≤ℤ orient_rat b c q → pos 0 ≤ℤ orient_rat c a q → IsOnClosed q a b
on_side a b c q d e f g = record {
  straight = e;
  right_of_least = least_mean (orient a b c) (orient_rat b c q) (orient_rat c a q) q.x a.x b.x (int_min a.x b.x) q.k xs ks d f g (omega (arith, ints, clamps)) (omega (arith, ints, clamps));
  left_of_greatest = greatest_mean (orient a b c) (orient_rat b c q) (orient_rat c a q) q.x a.x b.x (int_max a.x b.x) q.k xs ks d f g (omega (arith, ints, clamps)) (omega (arith, ints, clamps));
  above_least = least_mean (orient a b c) (orient_rat b c q) (orient_rat c a q) q.y a.y b.y (int_min a.y b.y) q.k ys ks d f g (omega (arith, ints, clamps)) (omega (arith, ints, clamps));
  below_greatest = greatest_mean (orient a b c) (orient_rat b c q) (orient_rat c a q) q.y a.y b.y (int_max a.y b.y) q.k ys ks d f g (omega (arith, ints, clamps)) (omega (arith, ints, clamps));
}
  where
    dropped : (m n o z : ℤ) → o ≡ pos 0 → m +ℤ n +ℤ o *ℤ z ≡ m +ℤ n
    dropped m n o z e = ap (λ (w : ℤ). m +ℤ n +ℤ w *ℤ z) e ∙ ring (m ∷ n ∷ z ∷ []) (var 0 ⊕ var 1 ⊕ num (pos 0) ⊗ var 2) (var 0 ⊕ var 1) refl

    xs : orient a b c *ℤ q.x ≡ orient_rat b c q *ℤ a.x +ℤ orient_rat c a q *ℤ b.x
    xs = mean_x a b c q ∙ dropped (orient_rat b c q *ℤ a.x) (orient_rat c a q *ℤ b.x) (orient_rat a b q) c.x e

    ys : orient a b c *ℤ q.y ≡ orient_rat b c q *ℤ a.y +ℤ orient_rat c a q *ℤ b.y
    ys = mean_y a b c q ∙ dropped (orient_rat b c q *ℤ a.y) (orient_rat c a q *ℤ b.y) (orient_rat a b q) c.y e

    ks : orient a b c *ℤ q.k ≡ orient_rat b c q +ℤ orient_rat c a q
    ks = mean_k a b c q ∙ gone (orient_rat b c q) (orient_rat c a q) (orient_rat a b q) e
      where
        gone : (m n o : ℤ) → o ≡ pos 0 → m +ℤ n +ℤ o ≡ m +ℤ n
        gone m n o e = omega (arith, ints)

-- ---- a line that leaves the corners on one closed side, and not all on itself
strict_mean : (d f g h s x y z : ℤ) → d *ℤ s ≡ f *ℤ x +ℤ g *ℤ y +ℤ h *ℤ z → pos 0 <ℤ d → pos 0 <ℤ f → pos 0 <ℤ g → pos 0 <ℤ h → pos 0 ≤ℤ x → pos 0 ≤ℤ y → pos 0 ≤ℤ z → (pos 0 <ℤ x) ⊎ ((pos 0 <ℤ y) ⊎ (pos 0 <ℤ z)) → pos 0 <ℤ s
strict_mean d f g h s x y z e hd hf hg hh hx hy hz (inl n) = pos_factor d s (omega (arith, ints, e, pos_mul f x hf n, nn_mul g y (omega (arith, ints)) hy, nn_mul h z (omega (arith, ints)) hz)) (omega (arith, ints))
strict_mean d f g h s x y z e hd hf hg hh hx hy hz (inr (inl n)) = pos_factor d s (omega (arith, ints, e, pos_mul g y hg n, nn_mul f x (omega (arith, ints)) hx, nn_mul h z (omega (arith, ints)) hz)) (omega (arith, ints))
strict_mean d f g h s x y z e hd hf hg hh hx hy hz (inr (inr n)) = pos_factor d s (omega (arith, ints, e, pos_mul h z hh n, nn_mul f x (omega (arith, ints)) hx, nn_mul g y (omega (arith, ints)) hy)) (omega (arith, ints))

-- a line that goes through the three corners has no direction
line_a : (l : Line) (a b c : Point) → orient a b c *ℤ l.a ≡ (b.y -ℤ c.y) *ℤ side l (whole a) +ℤ (c.y -ℤ a.y) *ℤ side l (whole b) +ℤ (a.y -ℤ b.y) *ℤ side l (whole c)
line_a l a b c = ring (a.x ∷ a.y ∷ b.x ∷ b.y ∷ c.x ∷ c.y ∷ pos 0 ∷ pos 0 ∷ pos 0 ∷ l.a ∷ l.b ∷ l.c ∷ [])
    (turnE A B C ⊗ var 9) ((B.y ⊖ C.y) ⊗ sideE A ⊕ (C.y ⊖ A.y) ⊗ sideE B ⊕ (A.y ⊖ B.y) ⊗ sideE C) refl

line_b : (l : Line) (a b c : Point) → orient a b c *ℤ l.b ≡ (c.x -ℤ b.x) *ℤ side l (whole a) +ℤ (a.x -ℤ c.x) *ℤ side l (whole b) +ℤ (b.x -ℤ a.x) *ℤ side l (whole c)
line_b l a b c = ring (a.x ∷ a.y ∷ b.x ∷ b.y ∷ c.x ∷ c.y ∷ pos 0 ∷ pos 0 ∷ pos 0 ∷ l.a ∷ l.b ∷ l.c ∷ [])
    (turnE A B C ⊗ var 10) ((C.x ⊖ B.x) ⊗ sideE A ⊕ (A.x ⊖ C.x) ⊗ sideE B ⊕ (B.x ⊖ A.x) ⊗ sideE C) refl

no_direction : (d m f g h x y z : ℤ) → d *ℤ m ≡ f *ℤ x +ℤ g *ℤ y +ℤ h *ℤ z → pos 0 <ℤ d → x ≡ pos 0 → y ≡ pos 0 → z ≡ pos 0 → m ≡ pos 0
no_direction d m f g h x y z e hd i j l = zero (e ∙ ap (λ (n : ℤ). f *ℤ n +ℤ g *ℤ y +ℤ h *ℤ z) i ∙ ap (λ (n : ℤ). f *ℤ pos 0 +ℤ g *ℤ n +ℤ h *ℤ z) j ∙ ap (λ (n : ℤ). f *ℤ pos 0 +ℤ g *ℤ pos 0 +ℤ h *ℤ n) l
    ∙ ring (f ∷ g ∷ h ∷ []) (var 0 ⊗ num (pos 0) ⊕ var 1 ⊗ num (pos 0) ⊕ var 2 ⊗ num (pos 0)) (num (pos 0)) refl)
  where
    zero : d *ℤ m ≡ pos 0 → m ≡ pos 0
    zero p = omega (arith, ints, le_cancel m (pos 0) d hd (omega (arith, ints, p)), le_cancel (pos 0) m d hd (omega (arith, ints, p)))

pub record IsThroughNone (l : Line) (a b c : Point) : Type 0 where
  pub a_left : pos 0 ≤ℤ side l (whole a)
  pub b_left : pos 0 ≤ℤ side l (whole b)
  pub c_left : pos 0 ≤ℤ side l (whole c)
  pub directed : ¬ ((l.a ≡ pos 0) × (l.b ≡ pos 0))

some_above : (l : Line) (a b c : Point) → pos 0 <ℤ orient a b c → IsThroughNone l a b c → (pos 0 <ℤ side l (whole a)) ⊎ ((pos 0 <ℤ side l (whole b)) ⊎ (pos 0 <ℤ side l (whole c)))
some_above l a b c d h = elim (either (side l (whole a)) (pos 0)) [
  | inr n ↦ inl n
  | inl n ↦ elim (either (side l (whole b)) (pos 0)) [
    | inr m ↦ inr (inl m)
    | inl m ↦ elim (either (side l (whole c)) (pos 0)) [
      | inr o ↦ inr (inr o)
      | inl o ↦ absurd (h.directed (no_direction _ _ _ _ _ _ _ _ (line_a l a b c) d (exact h.a_left n) (exact h.b_left m) (exact h.c_left o), no_direction _ _ _ _ _ _ _ _ (line_b l a b c) d (exact h.a_left n) (exact h.b_left m) (exact h.c_left o)))
    ]
  ]
]
  where
    exact : {z : ℤ} → pos 0 ≤ℤ z → z ≤ℤ pos 0 → z ≡ pos 0
    exact {z} i j = omega (arith, ints)

pub strictly_left : (l : Line) (a b c : Point) (q : RatPoint) → pos 0 <ℤ orient a b c → IsThroughNone l a b c → IsInTriangle q a b c → pos 0 <ℤ side l q
strictly_left l a b c q d h t = strict_mean (orient a b c) (orient_rat b c q) (orient_rat c a q) (orient_rat a b q) (side l q) (side l (whole a)) (side l (whole b)) (side l (whole c)) (mean_side l a b c q)
    d t.left_of_second t.left_of_third t.left_of_first h.a_left h.b_left h.c_left (some_above l a b c d h)

-- the centre is inside
abbrev pub centre : Point → Point → Point → RatPoint
centre a b c = record { x = a.x +ℤ b.x +ℤ c.x; y = a.y +ℤ b.y +ℤ c.y; k = pos 3 }

abbrev Z : PointE
Z = record { x = A.x ⊕ B.x ⊕ C.x; y = A.y ⊕ B.y ⊕ C.y; k = num (pos 3) }

abbrev six : Point → Point → Point → List ℤ
six a b c = a.x ∷ a.y ∷ b.x ∷ b.y ∷ c.x ∷ c.y ∷ []

pub centre_inside : (a b c : Point) → pos 0 <ℤ orient a b c → IsInTriangle (centre a b c) a b c
centre_inside a b c d = record {
  left_of_first = subst (λ (z : ℤ). pos 0 <ℤ z) (ring (six a b c) (turnE A B C) (orientE A B Z) refl) d;
  left_of_second = subst (λ (z : ℤ). pos 0 <ℤ z) (ring (six a b c) (turnE A B C) (orientE B C Z) refl) d;
  left_of_third = subst (λ (z : ℤ). pos 0 <ℤ z) (ring (six a b c) (turnE A B C) (orientE C A Z) refl) d;
}

pub turn : (a b c : Point) → orient a b c ≡ orient b c a
turn a b c = ring (six a b c) (turnE A B C) (turnE B C A) refl
