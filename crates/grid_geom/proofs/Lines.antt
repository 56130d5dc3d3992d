-- Rational points as triples (x, y, k), lines as triples (a, b, c), and the identities between them. `det p q r` is the determinant of three
-- points, `above p q` says how much higher q is than p, times both k. The identity from which the laws of winding numbers follow is `three`.
-- The abbreviations in capitals are points as polynomials, for `ring`. Stands on Ring.
use lib.IntN.{ℤ, pos, ◌+ℤ◌, ◌-ℤ◌, ◌*ℤ◌}
use mathlib.Core.Path.{◌≡◌, refl, ap, ◌∙◌}
use mathlib.Core.List.{[], ◌∷◌}
use Rattle.grid_geom.specs.declared.Point.{Point}
use Rattle.grid_geom.specs.declared.RatPoint.{RatPoint}
use Rattle.grid_geom.specs.Plane.{orient, orient_rat}
use Rattle.grid_geom.specs.Line.{Line, side, whole, through}
use Rattle.grid_geom.proofs.Ring.{E, var, num, ◌⊕◌, ◌⊖◌, ◌⊗◌, ring}

-- ---- points and lines as polynomials
pub record PointE : Type 0 where
  pub x : E
  pub y : E
  pub k : E

abbrev pub minus : PointE → PointE → E
minus p q = p.k ⊗ q.y ⊖ q.k ⊗ p.y

abbrev pub orientE : PointE → PointE → PointE → E
orientE a b c = (b.x ⊖ a.x) ⊗ (c.y ⊖ a.y ⊗ c.k) ⊖ (b.y ⊖ a.y) ⊗ (c.x ⊖ a.x ⊗ c.k)

-- how far q stands above p
abbrev pub above : RatPoint → RatPoint → ℤ
above p q = p.k *ℤ q.y -ℤ q.k *ℤ p.y

abbrev pub det : RatPoint → RatPoint → RatPoint → ℤ
det p q r = pos 0 -ℤ above p q *ℤ r.x -ℤ above q r *ℤ p.x -ℤ above r p *ℤ q.x

abbrev P : PointE
P = record { x = var 0; y = var 1; k = var 2 }

abbrev Q : PointE
Q = record { x = var 3; y = var 4; k = var 5 }

abbrev R : PointE
R = record { x = var 6; y = var 7; k = var 8 }

abbrev pub detE : PointE → PointE → PointE → E
detE p q r = num (pos 0) ⊖ minus p q ⊗ r.x ⊖ minus q r ⊗ p.x ⊖ minus r p ⊗ q.x

abbrev sideE : PointE → E
sideE p = var 9 ⊗ p.x ⊕ var 10 ⊗ p.y ⊕ var 11 ⊗ p.k

-- three points and a line
pub three : (l : Line) (p q r : RatPoint) → above p q *ℤ side l r +ℤ above q r *ℤ side l p +ℤ above r p *ℤ side l q +ℤ l.a *ℤ det p q r ≡ pos 0
three l p q r = ring (p.x ∷ p.y ∷ p.k ∷ q.x ∷ q.y ∷ q.k ∷ r.x ∷ r.y ∷ r.k ∷ l.a ∷ l.b ∷ l.c ∷ [])
    (minus P Q ⊗ sideE R ⊕ minus Q R ⊗ sideE P ⊕ minus R P ⊗ sideE Q ⊕ var 9 ⊗ detE P Q R) (num (pos 0)) refl

-- `orient_rat` is the determinant
pub orient_det : (a b : Point) (q : RatPoint) → orient_rat a b q ≡ det (whole a) (whole b) q
orient_det a b q = ring (a.x ∷ a.y ∷ pos 0 ∷ b.x ∷ b.y ∷ pos 0 ∷ q.x ∷ q.y ∷ q.k ∷ [])
    (orientE P Q R) (detE (record { x = var 0; y = var 1; k = num (pos 1) }) (record { x = var 3; y = var 4; k = num (pos 1) }) R) refl

pub through_is : (c d : Point) (q : RatPoint) → side (through c d) q ≡ orient_rat c d q
through_is c d q = ring (c.x ∷ c.y ∷ pos 0 ∷ d.x ∷ d.y ∷ pos 0 ∷ q.x ∷ q.y ∷ q.k ∷ [])
    ((var 1 ⊖ var 4) ⊗ var 6 ⊕ (var 3 ⊖ var 0) ⊗ var 7 ⊕ (var 0 ⊗ var 4 ⊖ var 1 ⊗ var 3) ⊗ var 8) (orientE P Q R) refl

-- heights of two points, by way of a grid point
pub above_by : (p q : RatPoint) (v : Point) → above p q ≡ q.k *ℤ above p (whole v) +ℤ p.k *ℤ above (whole v) q
above_by p q v = ring (p.x ∷ p.y ∷ p.k ∷ q.x ∷ q.y ∷ q.k ∷ v.x ∷ v.y ∷ []) (minus P Q) (Q.k ⊗ minus P V ⊕ P.k ⊗ minus V Q) refl
  where
    V : PointE
    V = record { x = var 6; y = var 7; k = num (pos 1) }

pub orient_whole : (a b c : Point) → orient_rat a b (whole c) ≡ orient a b c
orient_whole a b c = ring (a.x ∷ a.y ∷ b.x ∷ b.y ∷ c.x ∷ c.y ∷ []) (flat (num (pos 1))) ((var 2 ⊖ var 0) ⊗ (var 5 ⊖ var 1) ⊖ (var 3 ⊖ var 1) ⊗ (var 4 ⊖ var 0)) refl
  where
    flat : E → E
    flat one = (var 2 ⊖ var 0) ⊗ (var 5 ⊖ var 1 ⊗ one) ⊖ (var 3 ⊖ var 1) ⊗ (var 4 ⊖ var 0 ⊗ one)

-- ---- a point m of the line a-b, by two grid points and a rational one
abbrev M : PointE
M = record { x = var 9; y = var 10; k = num (pos 1) }

abbrev A : PointE
A = record { x = var 0; y = var 1; k = num (pos 1) }

abbrev B : PointE
B = record { x = var 3; y = var 4; k = num (pos 1) }

pub cut_start : (a b m : Point) (q : RatPoint) → orient_rat a m q *ℤ (b.y -ℤ a.y) ≡ (m.y -ℤ a.y) *ℤ orient_rat a b q -ℤ (q.y -ℤ a.y *ℤ q.k) *ℤ orient a b m
cut_start a b m q = ring (a.x ∷ a.y ∷ pos 0 ∷ b.x ∷ b.y ∷ pos 0 ∷ q.x ∷ q.y ∷ q.k ∷ m.x ∷ m.y ∷ [])
    (orientE A M R ⊗ (B.y ⊖ A.y)) ((M.y ⊖ A.y) ⊗ orientE A B R ⊖ (R.y ⊖ A.y ⊗ R.k) ⊗ ((B.x ⊖ A.x) ⊗ (M.y ⊖ A.y) ⊖ (B.y ⊖ A.y) ⊗ (M.x ⊖ A.x))) refl

pub cut_end : (a b m : Point) (q : RatPoint) → orient_rat m b q *ℤ (b.y -ℤ a.y) ≡ (b.y -ℤ m.y) *ℤ orient_rat a b q +ℤ (q.y -ℤ b.y *ℤ q.k) *ℤ orient a b m
cut_end a b m q = ring (a.x ∷ a.y ∷ pos 0 ∷ b.x ∷ b.y ∷ pos 0 ∷ q.x ∷ q.y ∷ q.k ∷ m.x ∷ m.y ∷ [])
    (orientE M B R ⊗ (B.y ⊖ A.y)) ((B.y ⊖ M.y) ⊗ orientE A B R ⊕ (R.y ⊖ B.y ⊗ R.k) ⊗ ((B.x ⊖ A.x) ⊗ (M.y ⊖ A.y) ⊖ (B.y ⊖ A.y) ⊗ (M.x ⊖ A.x))) refl

pub orient_back : (a b : Point) (q : RatPoint) → orient_rat b a q ≡ pos 0 -ℤ orient_rat a b q
orient_back a b q = ring (a.x ∷ a.y ∷ pos 0 ∷ b.x ∷ b.y ∷ pos 0 ∷ q.x ∷ q.y ∷ q.k ∷ []) (orientE B A R) (num (pos 0) ⊖ orientE A B R) refl

pub orient_turned : (a b c : Point) → orient a b c ≡ pos 0 → orient b a c ≡ pos 0
orient_turned a b c h = turned ∙ ap (λ (z : ℤ). pos 0 -ℤ z) h
  where
    turned : orient b a c ≡ pos 0 -ℤ orient a b c
    turned = ring (a.x ∷ a.y ∷ b.x ∷ b.y ∷ c.x ∷ c.y ∷ []) ((var 0 ⊖ var 2) ⊗ (var 5 ⊖ var 3) ⊖ (var 1 ⊖ var 3) ⊗ (var 4 ⊖ var 2))
        (num (pos 0) ⊖ ((var 2 ⊖ var 0) ⊗ (var 5 ⊖ var 1) ⊖ (var 3 ⊖ var 1) ⊗ (var 4 ⊖ var 0))) refl

-- a corner is on the line of its own side
pub flat_first : (a b : Point) → orient a b a ≡ pos 0
flat_first a b = ring (a.x ∷ a.y ∷ b.x ∷ b.y ∷ []) ((var 2 ⊖ var 0) ⊗ (var 1 ⊖ var 1) ⊖ (var 3 ⊖ var 1) ⊗ (var 0 ⊖ var 0)) (num (pos 0)) refl

pub flat_second : (a b : Point) → orient a b b ≡ pos 0
flat_second a b = ring (a.x ∷ a.y ∷ b.x ∷ b.y ∷ []) ((var 2 ⊖ var 0) ⊗ (var 3 ⊖ var 1) ⊖ (var 3 ⊖ var 1) ⊗ (var 2 ⊖ var 0)) (num (pos 0)) refl

pub det_turn : (p q r : RatPoint) → det p q r ≡ det q r p
det_turn p q r = ring (p.x ∷ p.y ∷ p.k ∷ q.x ∷ q.y ∷ q.k ∷ r.x ∷ r.y ∷ r.k ∷ []) (detE P Q R) (detE Q R P) refl

-- two segments p-q and a-b, and the height of r
abbrev H : PointE
H = record { x = num (pos 0); y = var 10; k = var 11 }

abbrev U : PointE
U = record { x = var 6; y = var 7; k = num (pos 1) }

abbrev W : PointE
W = record { x = var 8; y = var 9; k = num (pos 1) }

pub heights : (p q r : RatPoint) (a b : Point) → det p q (whole b) *ℤ above r (whole a) -ℤ det p q (whole a) *ℤ above r (whole b) +ℤ orient_rat a b q *ℤ above r p -ℤ orient_rat a b p *ℤ above r q ≡ pos 0
heights p q r a b = ring (p.x ∷ p.y ∷ p.k ∷ q.x ∷ q.y ∷ q.k ∷ a.x ∷ a.y ∷ b.x ∷ b.y ∷ r.y ∷ r.k ∷ [])
    (detE P Q W ⊗ minus H U ⊖ detE P Q U ⊗ minus H W ⊕ orientE U W Q ⊗ minus H P ⊖ orientE U W P ⊗ minus H Q) (num (pos 0)) refl

pub det_back : (p q r : RatPoint) → det q p r ≡ pos 0 -ℤ det p q r
det_back p q r = ring (p.x ∷ p.y ∷ p.k ∷ q.x ∷ q.y ∷ q.k ∷ r.x ∷ r.y ∷ r.k ∷ []) (detE Q P R) (num (pos 0) ⊖ detE P Q R) refl

-- points with equal coordinates are equal
pub same_place : (a c : Point) → a.x ≡ c.x → a.y ≡ c.y → a ≡ c
same_place a c e f = ap (λ (z : ℤ). record { x = z; y = a.y }) e ∙ ap (λ (z : ℤ). record { x = c.x; y = z }) f
