-- Near a point v there is a point from which the way to v meets none of finitely many lines but in v, with given lines on its right (`near`,
-- `near_ahead`): a large multiple of v is added (`outweighs`), or the point is turned a little. Stands on Lines, Signs and Meeting.
use lib.IntN.{ℤ, pos, ◌+ℤ◌, ◌-ℤ◌, ◌*ℤ◌}
use lib.Signed.{◌<ℤ◌, ◌≤ℤ◌}
use mathlib.Core.Path.{◌≡◌, refl, sym, subst}
use mathlib.Core.List.{List, [], ◌∷◌}
use mathlib.Core.Logic.{inl, inr}
use native.Mathlib.Omega.{arith}
use Rattle.std.proofs.lemmas.Int.{ints}
use Rattle.std.specs.List.{AllByRecursion}
use Rattle.grid_geom.specs.declared.RatPoint.{RatPoint}
use Rattle.grid_geom.specs.Line.{Line, side, IsClear, clear_left, clear_right}
use Rattle.grid_geom.proofs.Ring.{var, num, ◌⊕◌, ◌⊖◌, ◌⊗◌, ring}
use Rattle.grid_geom.proofs.Signs.{nn_mul, pos_mul, ordered}
use Rattle.grid_geom.proofs.Lines.{PointE, minus, detE, det}
use Rattle.grid_geom.proofs.Meeting.{nn_square}

-- n times v, and w
abbrev pub mix : ℤ → RatPoint → RatPoint → RatPoint
mix n v w = record { x = n *ℤ v.x +ℤ w.x; y = n *ℤ v.y +ℤ w.y; k = n *ℤ v.k +ℤ w.k }

pub side_mix : (l : Line) (n : ℤ) (v w : RatPoint) → side l (mix n v w) ≡ n *ℤ side l v +ℤ side l w
side_mix l n v w = ring (l.a ∷ l.b ∷ l.c ∷ n ∷ v.x ∷ v.y ∷ v.k ∷ w.x ∷ w.y ∷ w.k ∷ [])
    (var 0 ⊗ (var 3 ⊗ var 4 ⊕ var 7) ⊕ var 1 ⊗ (var 3 ⊗ var 5 ⊕ var 8) ⊕ var 2 ⊗ (var 3 ⊗ var 6 ⊕ var 9))
    (var 3 ⊗ (var 0 ⊗ var 4 ⊕ var 1 ⊗ var 5 ⊕ var 2 ⊗ var 6) ⊕ (var 0 ⊗ var 7 ⊕ var 1 ⊗ var 8 ⊕ var 2 ⊗ var 9)) refl

-- a large multiple of a positive number outweighs t
outweighs : (n s t : ℤ) → (t *ℤ t +ℤ pos 1) ≤ℤ n → pos 0 <ℤ s → pos 0 <ℤ (n *ℤ s +ℤ t)
outweighs n s t h hs = omega (arith, ints, spread, nn_mul (n -ℤ pos 1 -ℤ t *ℤ t) (s -ℤ pos 1) (omega (arith, ints)) (omega (arith, ints)), nn_mul (t *ℤ t) (s -ℤ pos 1) (nn_square t) (omega (arith, ints)), whole_square, nn_square (pos 2 *ℤ t +ℤ pos 1))
  where
    spread : n *ℤ s ≡ (n -ℤ pos 1 -ℤ t *ℤ t) *ℤ (s -ℤ pos 1) +ℤ (t *ℤ t) *ℤ (s -ℤ pos 1) +ℤ s -ℤ pos 1 +ℤ n
    spread = ring (n ∷ s ∷ t ∷ []) (var 0 ⊗ var 1) ((var 0 ⊖ num (pos 1) ⊖ var 2 ⊗ var 2) ⊗ (var 1 ⊖ num (pos 1)) ⊕ (var 2 ⊗ var 2) ⊗ (var 1 ⊖ num (pos 1)) ⊕ var 1 ⊖ num (pos 1) ⊕ var 0) refl

    whole_square : (pos 2 *ℤ t +ℤ pos 1) *ℤ (pos 2 *ℤ t +ℤ pos 1) ≡ pos 4 *ℤ (t *ℤ t) +ℤ pos 4 *ℤ t +ℤ pos 1
    whole_square = ring (t ∷ []) ((num (pos 2) ⊗ var 0 ⊕ num (pos 1)) ⊗ (num (pos 2) ⊗ var 0 ⊕ num (pos 1))) (num (pos 4) ⊗ (var 0 ⊗ var 0) ⊕ num (pos 4) ⊗ var 0 ⊕ num (pos 1)) refl

-- v on the closed left of a line, w on its open left
pub record IsWedge (v w : RatPoint) (l : Line) : Type 0 where
  pub v_left : pos 0 ≤ℤ side l v
  pub w_left : pos 0 <ℤ side l w

pub record IsDirected (l : Line) : Type 0 where
  pub direction : pos 0 <ℤ (l.a *ℤ l.a +ℤ l.b *ℤ l.b)

pub record IsNear (v : RatPoint) (ls ms : List Line) : Type 0 where
  pub at : RatPoint
  pub rational : pos 0 <ℤ at.k
  pub inside : AllByRecursion (λ l. pos 0 <ℤ side l at) ls
  pub clear : AllByRecursion (IsClear v at) ms

-- closer to v
closer_all : (n : ℤ) (v w : RatPoint) (ls : List Line) → pos 0 ≤ℤ n → AllByRecursion (IsWedge v w) ls → AllByRecursion (IsWedge v (mix n v w)) ls
closer_all n v w [] hn all = tt
closer_all n v w (l ∷ ls) hn all = (record { v_left = all.0.v_left; w_left = added (side_mix l n v w) (nn_mul n (side l v) hn all.0.v_left) all.0.w_left }, closer_all n v w ls hn all.1)
  where
    added : {s x y : ℤ} → s ≡ x +ℤ y → pos 0 ≤ℤ x → pos 0 <ℤ y → pos 0 <ℤ s
    added {s} {x} {y} e h j = omega (arith, ints)

-- turned a little
abbrev pub bound : List Line → RatPoint → ℤ
bound [] n = pos 1
bound (l ∷ ls) n = side l n *ℤ side l n +ℤ bound ls n

pub bound_pos : (ls : List Line) (n : RatPoint) → pos 1 ≤ℤ bound ls n
bound_pos [] n = omega (arith, ints)
bound_pos (l ∷ ls) n = sum (nn_square (side l n)) (bound_pos ls n)
  where
    sum : {x y : ℤ} → pos 0 ≤ℤ x → pos 1 ≤ℤ y → pos 1 ≤ℤ (x +ℤ y)
    sum {x} {y} h j = omega (arith, ints)

pub turn_all : (b : ℤ) (v w n : RatPoint) (ls : List Line) → bound ls n ≤ℤ b → AllByRecursion (IsWedge v w) ls → AllByRecursion (IsWedge v (mix b w n)) ls
turn_all b v w n [] h all = tt
turn_all b v w n (l ∷ ls) h all = (record { v_left = all.0.v_left; w_left = subst (λ (z : ℤ). pos 0 <ℤ z) (sym (side_mix l b w n)) (outweighs b (side l w) (side l n) (most (side l n *ℤ side l n) (bound ls n) b (bound_pos ls n) h) all.0.w_left) }, turn_all b v w n ls (rest (side l n *ℤ side l n) (bound ls n) b (nn_square (side l n)) h) all.1)
  where
    most : (x y b : ℤ) → pos 1 ≤ℤ y → (x +ℤ y) ≤ℤ b → (x +ℤ pos 1) ≤ℤ b
    most x y b h j = omega (arith, ints)

    rest : (x y b : ℤ) → pos 0 ≤ℤ x → (x +ℤ y) ≤ℤ b → y ≤ℤ b
    rest x y b h j = omega (arith, ints)

abbrev negated : Line → Line
negated l = record { a = pos 0 -ℤ l.a; b = pos 0 -ℤ l.b; c = pos 0 -ℤ l.c }

side_negated : (l : Line) (q : RatPoint) → side (negated l) q ≡ pos 0 -ℤ side l q
side_negated l q = ring (l.a ∷ l.b ∷ l.c ∷ q.x ∷ q.y ∷ q.k ∷ []) ((num (pos 0) ⊖ var 0) ⊗ var 3 ⊕ (num (pos 0) ⊖ var 1) ⊗ var 4 ⊕ (num (pos 0) ⊖ var 2) ⊗ var 5) (num (pos 0) ⊖ (var 0 ⊗ var 3 ⊕ var 1 ⊗ var 4 ⊕ var 2 ⊗ var 5)) refl

-- the direction across a line
abbrev across : Line → RatPoint
across l = record { x = l.a; y = l.b; k = pos 0 }

side_across : (l : Line) → side l (across l) ≡ l.a *ℤ l.a +ℤ l.b *ℤ l.b
side_across l = ring (l.a ∷ l.b ∷ l.c ∷ []) (var 0 ⊗ var 0 ⊕ var 1 ⊗ var 1 ⊕ var 2 ⊗ num (pos 0)) (var 0 ⊗ var 0 ⊕ var 1 ⊗ var 1) refl

-- one line more, on whose left w is
left_more : (v : RatPoint) (m : Line) (ls ms : List Line) → pos 0 ≤ℤ side m v → IsNear v (m ∷ ls) ms → IsNear v ls (m ∷ ms)
left_more v m ls ms h n = record { at = n.at; rational = n.rational; inside = n.inside.1; clear = (clear_left h n.inside.0, n.clear) }

right_more : (v : RatPoint) (m : Line) (ls ms : List Line) → side m v ≤ℤ pos 0 → IsNear v (negated m ∷ ls) ms → IsNear v ls (m ∷ ms)
right_more v m ls ms h n = record { at = n.at; rational = n.rational; inside = n.inside.1; clear = (clear_right h (below (side_negated m n.at) n.inside.0), n.clear) }
  where
    below : {s x : ℤ} → x ≡ pos 0 -ℤ s → pos 0 <ℤ x → s <ℤ pos 0
    below {s} {x} e h = omega (arith, ints)

wedge_at : (v w : RatPoint) (m : Line) → pos 0 <ℤ side m v → IsWedge v (mix (side m w *ℤ side m w +ℤ pos 1) v w) m
wedge_at v w m h = record { v_left = omega (arith, ints); w_left = subst (λ (z : ℤ). pos 0 <ℤ z) (sym (side_mix m (side m w *ℤ side m w +ℤ pos 1) v w)) (outweighs (side m w *ℤ side m w +ℤ pos 1) (side m v) (side m w) (omega (arith, ints)) h) }

multiple_nn : (t : ℤ) → pos 0 ≤ℤ (t *ℤ t +ℤ pos 1)
multiple_nn t = omega (arith, ints, nn_square t)

mixed_rational : (n : ℤ) (v w : RatPoint) → pos 0 ≤ℤ n → pos 0 <ℤ v.k → pos 0 <ℤ w.k → pos 0 <ℤ (n *ℤ v.k +ℤ w.k)
mixed_rational n v w hn hv hw = omega (arith, ints, nn_mul n v.k hn (omega (arith, ints)))

pub turned_rational : (b : ℤ) (w n : RatPoint) → pos 1 ≤ℤ b → pos 0 <ℤ w.k → n.k ≡ pos 0 → pos 0 <ℤ (b *ℤ w.k +ℤ n.k)
turned_rational b w n hb hw e = omega (arith, ints, pos_mul b w.k (omega (arith, ints)) hw)

-- there is a point in the wedge of the lines ls at v from which the way to v meets none of the lines ms but in v
pub near : (v w : RatPoint) (ls ms : List Line) → pos 0 <ℤ v.k → pos 0 <ℤ w.k → AllByRecursion (IsWedge v w) ls → AllByRecursion IsDirected ms → IsNear v ls ms
near v w ls [] kv kw all d = record { at = w; rational = kw; inside = lefts ls all; clear = tt }
  where
    lefts : (ls : List Line) → AllByRecursion (IsWedge v w) ls → AllByRecursion (λ l. pos 0 <ℤ side l w) ls
    lefts [] all = tt
    lefts (l ∷ ls) all = (all.0.w_left, lefts ls all.1)
near v w ls (m ∷ ms) kv kw all d = elim (ordered (side m v) (pos 0)) [
  | inl h ↦ right_more v m ls ms (weak_below h) (near v (mix (multiple w (negated m)) v w) (negated m ∷ ls) ms kv (mixed_rational (multiple w (negated m)) v w (multiple_nn (side (negated m) w)) kv kw)
      (wedge_at v w (negated m) (flipped (side_negated m v) h), closer_all (multiple w (negated m)) v w ls (multiple_nn (side (negated m) w)) all) d.1)
  | inr r ↦ elim r [
    | inr h ↦ left_more v m ls ms (weak h) (near v (mix (multiple w m) v w) (m ∷ ls) ms kv (mixed_rational (multiple w m) v w (multiple_nn (side m w)) kv kw)
        (wedge_at v w m h, closer_all (multiple w m) v w ls (multiple_nn (side m w)) all) d.1)
    | inl e ↦ elim (ordered (side m w) (pos 0)) [
      | inl h ↦ right_more v m ls ms (at_most e) (near v w (negated m ∷ ls) ms kv kw (record { v_left = zero_too (side_negated m v) e; w_left = flipped (side_negated m w) h }, all) d.1)
      | inr s ↦ elim s [
        | inr h ↦ left_more v m ls ms (at_least e) (near v w (m ∷ ls) ms kv kw (record { v_left = at_least e; w_left = h }, all) d.1)
        | inl f ↦ left_more v m ls ms (at_least e) (near v (mix (bound ls (across m)) w (across m)) (m ∷ ls) ms kv (turned_rational (bound ls (across m)) w (across m) (bound_pos ls (across m)) kw refl)
            (record { v_left = at_least e; w_left = moved _ (bound ls (across m)) (side m w) (side m (across m)) _ (side_mix m (bound ls (across m)) w (across m)) f (side_across m) d.0.direction }, turn_all (bound ls (across m)) v w (across m) ls (same_bound (bound ls (across m))) all) d.1)
      ]
    ]
  ]
]
  where
    multiple : RatPoint → Line → ℤ
    multiple w m = side m w *ℤ side m w +ℤ pos 1

    weak_below : {z : ℤ} → z <ℤ pos 0 → z ≤ℤ pos 0
    weak_below {z} h = omega (arith, ints)

    weak : {z : ℤ} → pos 0 <ℤ z → pos 0 ≤ℤ z
    weak {z} h = omega (arith, ints)

    flipped : {s x : ℤ} → x ≡ pos 0 -ℤ s → s <ℤ pos 0 → pos 0 <ℤ x
    flipped {s} {x} e h = omega (arith, ints)

    zero_too : {s x : ℤ} → x ≡ pos 0 -ℤ s → s ≡ pos 0 → pos 0 ≤ℤ x
    zero_too {s} {x} e h = omega (arith, ints)

    at_most : {z : ℤ} → z ≡ pos 0 → z ≤ℤ pos 0
    at_most {z} e = omega (arith, ints)

    at_least : {z : ℤ} → z ≡ pos 0 → pos 0 ≤ℤ z
    at_least {z} e = omega (arith, ints)

    moved : (s b y z t : ℤ) → s ≡ b *ℤ y +ℤ z → y ≡ pos 0 → z ≡ t → pos 0 <ℤ t → pos 0 <ℤ s
    moved s b y z t e f g h = omega (arith, ints, subst (λ (y : ℤ). s ≡ b *ℤ y +ℤ z) f e)

    same_bound : (b : ℤ) → b ≤ℤ b
    same_bound b = omega (arith, ints)

-- v on the open left of a line, or on it and w on its open left
pub data IsAhead (v w : RatPoint) (l : Line) : Type 0 where
  within : pos 0 <ℤ side l v → IsAhead v w l
  towards : pos 0 ≤ℤ side l v → pos 0 <ℤ side l w → IsAhead v w l

ahead_one : (b : ℤ) (v w : RatPoint) (l : Line) → (side l w *ℤ side l w +ℤ pos 1) ≤ℤ b → pos 0 ≤ℤ b → IsAhead v w l → IsWedge v (mix b v w) l
ahead_one b v w l h hb (within f) = record { v_left = omega (arith, ints); w_left = subst (λ (z : ℤ). pos 0 <ℤ z) (sym (side_mix l b v w)) (outweighs b (side l v) (side l w) h f) }
ahead_one b v w l h hb (towards f g) = record { v_left = f; w_left = added (side_mix l b v w) (nn_mul b (side l v) hb f) g }
  where
    added : {s x y : ℤ} → s ≡ x +ℤ y → pos 0 ≤ℤ x → pos 0 <ℤ y → pos 0 <ℤ s
    added {s} {x} {y} e h j = omega (arith, ints)

ahead_all : (b : ℤ) (v w : RatPoint) (ls : List Line) → bound ls w ≤ℤ b → pos 0 ≤ℤ b → AllByRecursion (IsAhead v w) ls → AllByRecursion (IsWedge v (mix b v w)) ls
ahead_all b v w [] h hb all = tt
ahead_all b v w (l ∷ ls) h hb all = (ahead_one b v w l (most (side l w *ℤ side l w) (bound ls w) b (bound_pos ls w) h) hb all.0, ahead_all b v w ls (rest (side l w *ℤ side l w) (bound ls w) b (nn_square (side l w)) h) hb all.1)
  where
    most : (x y b : ℤ) → pos 1 ≤ℤ y → (x +ℤ y) ≤ℤ b → (x +ℤ pos 1) ≤ℤ b
    most x y b h j = omega (arith, ints)

    rest : (x y b : ℤ) → pos 0 ≤ℤ x → (x +ℤ y) ≤ℤ b → y ≤ℤ b
    rest x y b h j = omega (arith, ints)

-- near v, on the way from it towards w or beside that way
pub near_ahead : (v w : RatPoint) (ls ms : List Line) → pos 0 <ℤ v.k → pos 0 <ℤ w.k → AllByRecursion (IsAhead v w) ls → AllByRecursion IsDirected ms → IsNear v ls ms
near_ahead v w ls ms kv kw all d = near v (mix (bound ls w) v w) ls ms kv (mixed_rational (bound ls w) v w (nn (bound_pos ls w)) kv kw) (ahead_all (bound ls w) v w ls (same (bound ls w)) (nn (bound_pos ls w)) all) d
  where
    nn : {z : ℤ} → pos 1 ≤ℤ z → pos 0 ≤ℤ z
    nn {z} h = omega (arith, ints)

    same : (z : ℤ) → z ≤ℤ z
    same z = omega (arith, ints)

-- the line through two points, by the determinant
abbrev pub span : RatPoint → RatPoint → Line
span p q = record { a = pos 0 -ℤ (p.k *ℤ q.y -ℤ q.k *ℤ p.y); b = p.k *ℤ q.x -ℤ q.k *ℤ p.x; c = p.x *ℤ q.y -ℤ p.y *ℤ q.x }

pub span_is : (p q r : RatPoint) → side (span p q) r ≡ det p q r
span_is p q r = ring (p.x ∷ p.y ∷ p.k ∷ q.x ∷ q.y ∷ q.k ∷ r.x ∷ r.y ∷ r.k ∷ [])
    ((num (pos 0) ⊖ minus P Q) ⊗ R.x ⊕ (P.k ⊗ Q.x ⊖ Q.k ⊗ P.x) ⊗ R.y ⊕ (P.x ⊗ Q.y ⊖ P.y ⊗ Q.x) ⊗ R.k) (detE P Q R) refl
  where
    P : PointE
    P = record { x = var 0; y = var 1; k = var 2 }

    Q : PointE
    Q = record { x = var 3; y = var 4; k = var 5 }

    R : PointE
    R = record { x = var 6; y = var 7; k = var 8 }
