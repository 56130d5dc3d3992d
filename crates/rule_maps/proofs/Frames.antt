-- What the code of `frame` computes: ways and their products, the length of a way. Stands on Numbers and grid_geom's Within.
use lib.IntN.{ℤ, pos, ◌+ℤ◌, ◌-ℤ◌, ◌*ℤ◌}
use lib.Signed.{◌<ℤ◌, ◌≤ℤ◌, le_z}
use mathlib.Core.Bool.{true, false}
use Prim.Native.Nat.{ℕ, ◌≤◌}
use mathlib.Core.Path.{◌≡◌, refl, sym, ap, ◌∙◌, subst}
use mathlib.Core.Logic.{inl, inr}
use native.Mathlib.Omega.{arith}
use Rattle.std.specs.Int.{int_max, int_min, int_div_euclid}
use Rattle.std.proofs.lemmas.Int.{ints, to_z-of_z, to_z_pos, int_max_is, int_min_is}
use Rattle.grid_geom.specs.declared.TheConstants.{GRID, LONGEST}
use Rattle.grid_geom.proofs.Signs.{nn_mul, np_mul, pos_mul, neg_mul_neg, either, ordered}
use Rattle.grid_geom.proofs.Booleans.{le_true, true_le, clash}
use Rattle.grid_geom.proofs.Quotients.{floor_least, floor_greatest, IsRounded, rounded_within}
use mir.Val.{SFits, to_z, of_z}
use mir.Syntax.{w64, w128}
use Rattle.grid_geom.specs.declared.Point.{Point}
use Rattle.grid_geom.specs.Bounds.{IsWithin, IsOnGrid}
use Rattle.grid_geom.proofs.Within.{within_mul, back_product}
use Rattle.rule_maps.specs.declared.frame.TheConstants.{OFFSET, TURN, LONG, HIGH, UNIT}
use Rattle.rule_maps.specs.Frame.{LocalFrame, way, dot, cross, half, height, in_units, IsWay, IsRoot, IsBase, IsFrameOf, IsFrame, IsHeight}
use Rattle.rule_maps.proofs.Numbers.{within_add, within_sub, fits64, fits128, root_at_most}
use Rattle.rule_maps.proofs.Rounding.{nearest_is}

-- ---- the code's numbers are those meant
abbrev pub cast64 : ℤ → ℤ
cast64 z = to_z w64 (of_z w64 z)

abbrev pub cast128 : ℤ → ℤ
cast128 z = to_z w128 (of_z w128 z)

pub way_back : (from to : Point) → IsOnGrid from → IsOnGrid to → ◌≡◌ {A = Point} (record { x = cast64 (cast64 to.x -ℤ cast64 from.x); y = cast64 (cast64 to.y -ℤ cast64 from.y) }) (way from to)
way_back from to hf ht =
    let a : SFits w64 from.x = omega (arith, ints) in let b : SFits w64 from.y = omega (arith, ints) in let c : SFits w64 to.x = omega (arith, ints) in let d : SFits w64 to.y = omega (arith, ints) in
    let x : SFits w64 (to.x -ℤ from.x) = omega (arith, ints) in let y : SFits w64 (to.y -ℤ from.y) = omega (arith, ints) in simp to_z-of_z

-- a product of two coordinates of ways
product_within : (a b : ℤ) → IsWithin OFFSET a → IsWithin OFFSET b → IsWithin (OFFSET *ℤ OFFSET) (a *ℤ b)
product_within a b ha hb = within_mul OFFSET OFFSET a b ha hb

product_is : (a b : ℤ) → IsWithin OFFSET a → IsWithin OFFSET b → cast64 (cast64 a *ℤ cast64 b) ≡ a *ℤ b
product_is a b ha hb = back_product a b (fits64 OFFSET a (omega (arith, ints)) ha) (fits64 OFFSET b (omega (arith, ints)) hb) ha hb

pub dot_within : (a b : Point) → IsWay a → IsWay b → IsWithin TURN (dot a b)
dot_within a b ha hb = within_add (OFFSET *ℤ OFFSET) (OFFSET *ℤ OFFSET) (a.x *ℤ b.x) (a.y *ℤ b.y) (product_within a.x b.x ha.x_within hb.x_within) (product_within a.y b.y ha.y_within hb.y_within)

pub cross_within : (a b : Point) → IsWay a → IsWay b → IsWithin TURN (cross a b)
cross_within a b ha hb = within_sub (OFFSET *ℤ OFFSET) (OFFSET *ℤ OFFSET) (a.x *ℤ b.y) (a.y *ℤ b.x) (product_within a.x b.y ha.x_within hb.y_within) (product_within a.y b.x ha.y_within hb.x_within)

pub dot_inner : (a b : Point) → IsWay a → IsWay b → cast64 (cast64 a.x *ℤ cast64 b.x) +ℤ cast64 (cast64 a.y *ℤ cast64 b.y) ≡ dot a b
dot_inner a b ha hb = rw (product_is a.x b.x ha.x_within hb.x_within, product_is a.y b.y ha.y_within hb.y_within) refl

pub cross_inner : (a b : Point) → IsWay a → IsWay b → cast64 (cast64 a.x *ℤ cast64 b.y) -ℤ cast64 (cast64 a.y *ℤ cast64 b.x) ≡ cross a b
cross_inner a b ha hb = rw (product_is a.x b.y ha.x_within hb.y_within, product_is a.y b.x ha.y_within hb.x_within) refl

pub turn_fits : (z : ℤ) → IsWithin TURN z → SFits w64 z
turn_fits z h = fits64 TURN z (omega (arith, ints)) h

pub turn_back : (z y : ℤ) → z ≡ y → IsWithin TURN y → cast64 z ≡ y
turn_back z y e h = subst (λ (x : ℤ). cast64 x ≡ y) (sym e) (let f : SFits w64 y = turn_fits y h in simp to_z-of_z)

-- two squares with a sum below 1
square_nn : (a : ℤ) → pos 0 ≤ℤ (a *ℤ a)
square_nn a = elim (either (pos 0) a) [ inl i ↦ nn_mul a a i i | inr i ↦ np_mul a a (omega (arith, ints, i)) (omega (arith, ints, i)) ]

square_pos : (a : ℤ) → (a *ℤ a) <ℤ pos 1 → a ≡ pos 0
square_pos a h = elim (ordered a (pos 0)) [
  | inl i ↦ absurd (omega (arith, ints, h, neg_mul_neg a a i i))
  | inr r ↦ elim r [ inl i ↦ i | inr i ↦ absurd (omega (arith, ints, h, pos_mul a a i i)) ]
]

square_zero : (a b : ℤ) → (a *ℤ a +ℤ b *ℤ b) <ℤ pos 1 → (a ≡ pos 0) × (b ≡ pos 0)
square_zero a b h = (square_pos a (omega (arith, ints, h, square_nn b)), square_pos b (omega (arith, ints, h, square_nn a)))

-- ---- the length
pub record IsLength (z r : ℤ) : Type 0 where
  pub root : IsRoot z r
  pub small : r ≤ℤ LONG
  pub back : cast64 (cast128 r) ≡ r

pub length_back : (z d r : ℤ) → d ≡ z → IsWithin TURN d → (r *ℤ r) ≤ℤ cast128 (cast64 d) → cast128 (cast64 d) <ℤ ((r +ℤ pos 1) *ℤ (r +ℤ pos 1)) → pos 0 ≤ℤ r → IsLength z r
length_back z d r e hd h j hr = of_plain (subst (λ (y : ℤ). (r *ℤ r) ≤ℤ y) plain h) (subst (λ (y : ℤ). y <ℤ ((r +ℤ pos 1) *ℤ (r +ℤ pos 1))) plain j)
  where
    plain : cast128 (cast64 d) ≡ z
    plain = let f : SFits w64 d = turn_fits d hd in let g : SFits w128 d = fits128 TURN d (omega (arith, ints)) hd in subst (λ (y : ℤ). cast128 (cast64 d) ≡ y) e (simp to_z-of_z)

    of_plain : (r *ℤ r) ≤ℤ z → z <ℤ ((r +ℤ pos 1) *ℤ (r +ℤ pos 1)) → IsLength z r
    of_plain least greatest = record {
      root = record { not_negative = hr; least = least; greatest = greatest };
      small = small;
      back = let f : SFits w64 r = omega (arith, ints, small, hr) in let g : SFits w128 r = omega (arith, ints, small, hr) in simp to_z-of_z;
    }
      where
        small : r ≤ℤ LONG
        small = root_at_most z r LONG hr (omega (arith, ints)) least (omega (arith, ints, e, hd.greatest))

pub length_root : {z r : ℤ} → IsLength z r → IsRoot z (cast64 (cast128 r))
length_root {z} {r} h = rw h.back h.root

pub length_small : {z r : ℤ} → IsLength z r → cast64 (cast128 r) ≤ℤ LONG
length_small {z} {r} h = rw h.back h.small

-- ---- the height
pub height_bounds : (len : ℤ) (size : ℕ) → pos 1 ≤ℤ len → len ≤ℤ LONG → 1 ≤ size → size ≤ LONGEST → IsHeight (height len (pos size))
height_bounds len size hl hm hs ht = record {
  least = omega (arith, ints, int_min_is (int_max (pos size) (half (len +ℤ pos 1))) (pos 3 *ℤ len), int_max_is (pos size) (half (len +ℤ pos 1)), halved);
  greatest = omega (arith, ints, int_min_is (int_max (pos size) (half (len +ℤ pos 1))) (pos 3 *ℤ len), int_max_is (pos size) (half (len +ℤ pos 1)), halved);
}
  where
    halved : (pos 2 *ℤ half (len +ℤ pos 1)) ≤ℤ (len +ℤ pos 1)
    halved = floor_least (len +ℤ pos 1) (pos 2) (omega (arith, ints))

-- what the code computes
pub record IsHeightOf (len : ℤ) (size : ℕ) (n : ℤ) : Type 0 where
  pub value : n ≡ height len (pos size)
  pub least : pos 1 ≤ℤ n
  pub greatest : n ≤ℤ HIGH

pub height_back : (len : ℤ) (size : ℕ) {d x m : ℤ} → pos 1 ≤ℤ len → len ≤ℤ LONG → 1 ≤ size → size ≤ LONGEST →
    d ≡ int_div_euclid (cast64 (cast64 len +ℤ pos 1)) (pos 2) → x ≡ int_max (to_z w64 size) (cast64 d) → m ≡ int_min (cast64 x) (cast64 (pos 3 *ℤ cast64 len)) → IsHeightOf len size (cast64 m)
height_back len size {d} {x} {m} hl hm hs ht ed ex em = record {
  value = plain;
  least = subst (λ (z : ℤ). pos 1 ≤ℤ z) (sym plain) (height_bounds len size hl hm hs ht).least;
  greatest = subst (λ (z : ℤ). z ≤ℤ HIGH) (sym plain) (height_bounds len size hl hm hs ht).greatest;
}
  where
    d_is : d ≡ half (len +ℤ pos 1)
    d_is = let f : SFits w64 len = omega (arith, ints, hl, hm) in let g : SFits w64 (len +ℤ pos 1) = omega (arith, ints, hl, hm) in ed ∙ simp to_z-of_z

    d_small : IsWithin LONG (half (len +ℤ pos 1))
    d_small = record { least = omega (arith, ints, hl, floor_greatest (len +ℤ pos 1) (pos 2) (omega (arith, ints))); greatest = omega (arith, ints, hl, hm, floor_least (len +ℤ pos 1) (pos 2) (omega (arith, ints))) }

    x_is : x ≡ int_max (pos size) (half (len +ℤ pos 1))
    x_is = let g : SFits w64 (half (len +ℤ pos 1)) = fits64 LONG (half (len +ℤ pos 1)) (omega (arith, ints)) d_small in
        ex ∙ ap (λ (z : ℤ). int_max z (cast64 d)) (to_z_pos w64 size (omega (arith, ht))) ∙ ap (λ (z : ℤ). int_max (pos size) (cast64 z)) d_is ∙ simp to_z-of_z

    x_small : SFits w64 (int_max (pos size) (half (len +ℤ pos 1)))
    x_small = omega (arith, ints, int_max_is (pos size) (half (len +ℤ pos 1)), d_small.least, d_small.greatest, ht)

    m_is : m ≡ height len (pos size)
    m_is = let f : SFits w64 len = omega (arith, ints, hl, hm) in let g : SFits w64 (pos 3 *ℤ len) = omega (arith, ints, hl, hm) in let h : SFits w64 (int_max (pos size) (half (len +ℤ pos 1))) = x_small in
        em ∙ ap (λ (z : ℤ). int_min (cast64 z) (cast64 (pos 3 *ℤ cast64 len))) x_is ∙ simp to_z-of_z

    plain : cast64 m ≡ height len (pos size)
    plain = let h : SFits w64 (height len (pos size)) = omega (arith, ints, (height_bounds len size hl hm hs ht).least, (height_bounds len size hl hm hs ht).greatest) in
        ap cast64 m_is ∙ simp to_z-of_z

-- a line of positive length
pub long_enough : (e : Point) (n : ℤ) → IsRoot (dot e e) n → (e.x ≡ pos 0 → e.y ≡ pos 0 → ⊥) → pos 1 ≤ℤ n
long_enough e n h d = elim (either (pos 1) n) [ inl i ↦ i | inr i ↦ absurd (none (omega (arith, ints, i, h.not_negative))) ]
  where
    none : n ≡ pos 0 → ⊥
    none z = let (a, b) = square_zero e.x e.y sum in d a b
      where
        sum : (e.x *ℤ e.x +ℤ e.y *ℤ e.y) <ℤ pos 1
        sum = subst (λ (m : ℤ). (e.x *ℤ e.x +ℤ e.y *ℤ e.y) <ℤ ((m +ℤ pos 1) *ℤ (m +ℤ pos 1))) z h.greatest

-- different points have a way of positive length
pub long_between : (a b e : Point) (n : ℤ) → ¬ (a ≡ b) → e ≡ way a b → IsRoot (dot e e) n → pos 1 ≤ℤ n
long_between a b e n d w h = long_enough e n h (λ u v. d (same a b (level (ap (λ (p : Point). p.x) w) u) (level (ap (λ (p : Point). p.y) w) v)))
  where
    level : {x y z : ℤ} → x ≡ z -ℤ y → x ≡ pos 0 → y ≡ z
    level {x} {y} {z} e f = omega (arith, ints, e, f)

    same : (a b : Point) → a.x ≡ b.x → a.y ≡ b.y → a ≡ b
    same a b h j = ap (λ (x : ℤ). record { x = x; y = a.y }) h ∙ ap (λ (y : ℤ). record { x = b.x; y = y }) j

-- ---- a new frame
-- what the calls of `new` say: f is made of their answers
pub record IsBuilt (p1 p2 : Point) (size : ℕ) (f : LocalFrame) : Type 0 where
  pub base : IsBase p1 p2 size
  pub start : f.p1 ≡ p1
  pub direction : f.e ≡ way p1 p2
  pub length : IsRoot (dot f.e f.e) f.len
  pub not_longer : f.len ≤ℤ LONG
  pub high : f.h ≡ height (cast64 f.len) (pos size)
  pub high_within : IsHeight f.h
  pub unit : f.q ≡ f.len *ℤ f.h
  pub middle_x : f.middle.x ≡ half (cast64 p1.x +ℤ cast64 p2.x)
  pub middle_y : f.middle.y ≡ half (cast64 p1.y +ℤ cast64 p2.y)
  pub middle_x_on : IsWithin GRID f.middle.x
  pub middle_y_on : IsWithin GRID f.middle.y

-- the code keeps each number with a cast
abbrev pub stored : LocalFrame → LocalFrame
stored f = record { p1 = f.p1; e = f.e; len = cast64 f.len; h = cast64 f.h; q = cast64 (cast64 f.len *ℤ cast64 f.h); middle = record { x = cast64 f.middle.x; y = cast64 f.middle.y } }

pub unit_within : (len h : ℤ) → pos 0 ≤ℤ len → len ≤ℤ LONG → IsHeight h → IsWithin UNIT (len *ℤ h)
unit_within len h a b k = within_mul LONG HIGH len h (record { least = omega (arith, ints, a); greatest = b }) (record { least = omega (arith, ints, k.least); greatest = k.greatest })

pub unit_fits : (len h : ℤ) → pos 0 ≤ℤ len → len ≤ℤ LONG → IsHeight h → SFits w64 (cast64 len *ℤ cast64 h)
unit_fits len h a b k = let f : SFits w64 len = omega (arith, ints, a, b) in let g : SFits w64 h = omega (arith, ints, k.least, k.greatest) in simp to_z-of_z (fits64 UNIT (len *ℤ h) (omega (arith, ints)) (unit_within len h a b k))

stored_is : (p1 p2 : Point) (size : ℕ) (f : LocalFrame) → IsBuilt p1 p2 size f → stored f ≡ f
stored_is p1 p2 size f b = subst (λ (q : ℤ). stored f ≡ record { p1 = f.p1; e = f.e; len = f.len; h = f.h; q = q; middle = f.middle }) (sym b.unit)
    (let l : SFits w64 f.len = omega (arith, ints, b.length.not_negative, b.not_longer) in let h : SFits w64 f.h = omega (arith, ints, b.high_within.least, b.high_within.greatest) in
    let x : SFits w64 f.middle.x = fits64 GRID f.middle.x (omega (arith, ints)) b.middle_x_on in let y : SFits w64 f.middle.y = fits64 GRID f.middle.y (omega (arith, ints)) b.middle_y_on in
    let q : SFits w64 (f.len *ℤ f.h) = fits64 UNIT (f.len *ℤ f.h) (omega (arith, ints)) (unit_within f.len f.h b.length.not_negative b.not_longer b.high_within) in simp to_z-of_z)

frame_of_built : (p1 p2 : Point) (size : ℕ) (f : LocalFrame) → IsBuilt p1 p2 size f → IsFrameOf p1 p2 size f
frame_of_built p1 p2 size f b = record {
  start = b.start;
  direction = b.direction;
  length = b.length;
  high = let l : SFits w64 f.len = omega (arith, ints, b.length.not_negative, b.not_longer) in b.high ∙ simp to_z-of_z;
  unit = b.unit;
  middle_x = let l : SFits w64 p1.x = fits64 GRID p1.x (omega (arith, ints)) b.base.start_on.x_within in let k : SFits w64 p2.x = fits64 GRID p2.x (omega (arith, ints)) b.base.end_on.x_within in b.middle_x ∙ simp to_z-of_z;
  middle_y = let l : SFits w64 p1.y = fits64 GRID p1.y (omega (arith, ints)) b.base.start_on.y_within in let k : SFits w64 p2.y = fits64 GRID p2.y (omega (arith, ints)) b.base.end_on.y_within in b.middle_y ∙ simp to_z-of_z;
}

pub stored_frame : (p1 p2 : Point) (size : ℕ) (f : LocalFrame) → IsBuilt p1 p2 size f → IsFrameOf p1 p2 size (stored f)
stored_frame p1 p2 size f b = subst (λ g. IsFrameOf p1 p2 size g) (sym (stored_is p1 p2 size f b)) (frame_of_built p1 p2 size f b)

pub stored_kept : (p1 p2 : Point) (size : ℕ) (f : LocalFrame) → IsBuilt p1 p2 size f → IsFrame (stored f)
stored_kept p1 p2 size f b = record { from = p1; to = p2; size = size; base = b.base; frame = stored_frame p1 p2 size f b }

-- ---- bounds of a frame
pub record HasBounds (f : LocalFrame) : Type 0 where
  pub start_on : IsOnGrid f.p1
  pub way_within : IsWay f.e
  pub long : pos 1 ≤ℤ f.len
  pub not_longer : f.len ≤ℤ LONG
  pub high : IsHeight f.h
  pub half_length : f.len ≤ℤ (pos 2 *ℤ f.h)
  pub unit : f.q ≡ f.len *ℤ f.h
  pub unit_least : pos 1 ≤ℤ f.q
  pub unit_greatest : f.q ≤ℤ UNIT
  pub square : IsRoot (dot f.e f.e) f.len
  pub middle_x : IsWithin (pos 1) (pos 2 *ℤ f.p1.x +ℤ f.e.x -ℤ pos 2 *ℤ f.middle.x)
  pub middle_y : IsWithin (pos 1) (pos 2 *ℤ f.p1.y +ℤ f.e.y -ℤ pos 2 *ℤ f.middle.y)

way_small : (a b : Point) → IsOnGrid a → IsOnGrid b → IsWay (way a b)
way_small a b ha hb = record { x_within = within_sub GRID GRID b.x a.x hb.x_within ha.x_within; y_within = within_sub GRID GRID b.y a.y hb.y_within ha.y_within }

halved : (a b m e : ℤ) → m ≡ half (a +ℤ b) → e ≡ b -ℤ a → IsWithin (pos 1) (pos 2 *ℤ a +ℤ e -ℤ pos 2 *ℤ m)
halved a b m e h j = record {
  least = omega (arith, ints, h, j, floor_least (a +ℤ b) (pos 2) (omega (arith, ints)));
  greatest = omega (arith, ints, h, j, floor_greatest (a +ℤ b) (pos 2) (omega (arith, ints)));
}

half_high : (len : ℤ) (size : ℕ) → pos 1 ≤ℤ len → len ≤ℤ (pos 2 *ℤ height len (pos size))
half_high len size h = omega (arith, ints, h, int_min_is (int_max (pos size) (half (len +ℤ pos 1))) (pos 3 *ℤ len), int_max_is (pos size) (half (len +ℤ pos 1)), floor_greatest (len +ℤ pos 1) (pos 2) (omega (arith, ints)))

pub frame_bounds : (f : LocalFrame) → IsFrame f → HasBounds f
frame_bounds f k = record {
  start_on = subst (λ (p : Point). IsOnGrid p) (sym k.frame.start) k.base.start_on;
  way_within = small;
  long = long;
  not_longer = not_longer;
  high = high;
  half_length = subst (λ (h : ℤ). f.len ≤ℤ (pos 2 *ℤ h)) (sym k.frame.high) (half_high f.len k.size long);
  unit = k.frame.unit;
  unit_least = subst (λ (q : ℤ). pos 1 ≤ℤ q) (sym k.frame.unit) (omega (arith, ints, pos_mul f.len f.h (omega (arith, ints, long)) (omega (arith, ints, high.least))));
  unit_greatest = subst (λ (q : ℤ). q ≤ℤ UNIT) (sym k.frame.unit) (unit_within f.len f.h (omega (arith, ints, long)) not_longer high).greatest;
  square = k.frame.length;
  middle_x = middle_at f.p1.x k.to.x f.middle.x f.e.x (ap (λ (p : Point). p.x) k.frame.start) k.frame.middle_x (ap (λ (p : Point). p.x) k.frame.direction);
  middle_y = middle_at f.p1.y k.to.y f.middle.y f.e.y (ap (λ (p : Point). p.y) k.frame.start) k.frame.middle_y (ap (λ (p : Point). p.y) k.frame.direction);
}
  where
    small : IsWay f.e
    small = subst (λ (p : Point). IsWay p) (sym k.frame.direction) (way_small k.from k.to k.base.start_on k.base.end_on)

    long : pos 1 ≤ℤ f.len
    long = long_between k.from k.to f.e f.len k.base.different k.frame.direction k.frame.length

    not_longer : f.len ≤ℤ LONG
    not_longer = root_at_most (dot f.e f.e) f.len LONG k.frame.length.not_negative (omega (arith, ints)) k.frame.length.least (omega (arith, ints, (dot_within f.e f.e small small).greatest))

    high : IsHeight f.h
    high = subst (λ (h : ℤ). IsHeight h) (sym k.frame.high) (height_bounds f.len k.size long not_longer k.base.positive k.base.small)

    middle_at : (a b m e : ℤ) {s : ℤ} → a ≡ s → m ≡ half (s +ℤ b) → e ≡ b -ℤ s → IsWithin (pos 1) (pos 2 *ℤ a +ℤ e -ℤ pos 2 *ℤ m)
    middle_at a b m e {s} i h j = subst (λ (z : ℤ). IsWithin (pos 1) (pos 2 *ℤ z +ℤ e -ℤ pos 2 *ℤ m)) (sym i) (halved s b m e h j)

-- ---- local places in units of 1/10,000
pub record IsInUnits (top q r : ℤ) : Type 0 where
  pub value : cast64 (cast128 r) ≡ in_units (record { top = top; bottom = q })
  pub fits : SFits w64 (cast128 r)

pub units_within : (top : ℤ) → IsWithin TURN top → IsWithin (pos 10000 *ℤ TURN) (pos 10000 *ℤ top)
units_within top h = record { least = omega (arith, ints, h.least); greatest = omega (arith, ints, h.greatest) }

pub units_inner : (top : ℤ) → IsWithin TURN top → cast128 (pos 10000 *ℤ cast128 (cast64 top)) ≡ pos 10000 *ℤ top
units_inner top h = let f : SFits w64 top = turn_fits top h in let g : SFits w128 top = fits128 TURN top (omega (arith, ints)) h in let k : SFits w128 (pos 10000 *ℤ top) = fits128 (pos 10000 *ℤ TURN) (pos 10000 *ℤ top) (omega (arith, ints)) (units_within top h) in simp to_z-of_z

pub unit_inner : (f : LocalFrame) → HasBounds f → cast128 (cast64 f.q) ≡ f.q
unit_inner f b = let g : SFits w64 f.q = omega (arith, ints, b.unit_least, b.unit_greatest) in let h : SFits w128 f.q = omega (arith, ints, b.unit_least, b.unit_greatest) in simp to_z-of_z

pub in_units_back : (top q r : ℤ) → pos 1 ≤ℤ q → IsWithin (pos 13 *ℤ q) top → IsRounded (pos 10000 *ℤ top) q r → IsInUnits top q r
in_units_back top q r hq ht h = record {
  value = let f : SFits w64 r = fits64 (pos 130000) r (omega (arith, ints)) small in let g : SFits w128 r = fits128 (pos 130000) r (omega (arith, ints)) small in simp to_z-of_z (nearest_is (record { top = pos 10000 *ℤ top; bottom = q }) r (omega (arith, ints, hq)) h);
  fits = let g : SFits w128 r = fits128 (pos 130000) r (omega (arith, ints)) small in simp to_z-of_z (fits64 (pos 130000) r (omega (arith, ints)) small);
}
  where
    small : IsWithin (pos 130000) r
    small = rounded_within (pos 10000 *ℤ top) q r (pos 130000) (omega (arith, ints, hq)) h (omega (arith, ints, ht.least)) (omega (arith, ints, ht.greatest))

-- the same of what the code divides
pub in_units_code : (f : LocalFrame) → HasBounds f → (top r : ℤ) → IsWithin TURN top → IsWithin (pos 13 *ℤ f.q) top →
    (pos 2 *ℤ cast128 (cast64 f.q) *ℤ r) ≤ℤ (pos 2 *ℤ cast128 (pos 10000 *ℤ cast128 (cast64 top)) +ℤ cast128 (cast64 f.q)) →
    (pos 2 *ℤ cast128 (pos 10000 *ℤ cast128 (cast64 top)) +ℤ cast128 (cast64 f.q)) <ℤ (pos 2 *ℤ cast128 (cast64 f.q) *ℤ (r +ℤ pos 1)) → IsInUnits top f.q r
in_units_code f b top r ht hq h j = in_units_back top f.q r b.unit_least hq (subst (λ (n : ℤ). IsRounded n f.q r) (units_inner top ht) (subst (λ (d : ℤ). IsRounded (cast128 (pos 10000 *ℤ cast128 (cast64 top))) d r) (unit_inner f b) (record { least = h; greatest = j })))

-- ---- one frame
one_root : (z n m : ℤ) → IsRoot z n → IsRoot z m → n ≡ m
one_root z n m h j = omega (arith, ints, root_at_most z n m h.not_negative j.not_negative h.least j.greatest, root_at_most z m n j.not_negative h.not_negative j.least h.greatest)

pub one_frame : (p1 p2 : Point) (size : ℕ) (f g : LocalFrame) → IsFrameOf p1 p2 size f → IsFrameOf p1 p2 size g → f ≡ g
one_frame p1 p2 size f g h j = same f g (h.start ∙ sym j.start) direction length high (h.unit ∙ ap (λ (n : ℤ). n *ℤ f.h) length ∙ ap (λ (n : ℤ). g.len *ℤ n) high ∙ sym j.unit) (same_point f.middle g.middle (h.middle_x ∙ sym j.middle_x) (h.middle_y ∙ sym j.middle_y))
  where
    same_point : (a b : Point) → a.x ≡ b.x → a.y ≡ b.y → a ≡ b
    same_point a b u v = ap (λ (x : ℤ). record { x = x; y = a.y }) u ∙ ap (λ (y : ℤ). record { x = b.x; y = y }) v

    direction : f.e ≡ g.e
    direction = h.direction ∙ sym j.direction

    length : f.len ≡ g.len
    length = one_root (dot g.e g.e) f.len g.len (subst (λ (e : Point). IsRoot (dot e e) f.len) direction h.length) j.length

    high : f.h ≡ g.h
    high = h.high ∙ ap (λ (n : ℤ). height n (pos size)) length ∙ sym j.high

    same : (f g : LocalFrame) → f.p1 ≡ g.p1 → f.e ≡ g.e → f.len ≡ g.len → f.h ≡ g.h → f.q ≡ g.q → f.middle ≡ g.middle → f ≡ g
    same f g a b c d e i =
        ap (λ (p : Point). record { p1 = p; e = f.e; len = f.len; h = f.h; q = f.q; middle = f.middle }) a
        ∙ ap (λ (p : Point). record { p1 = g.p1; e = p; len = f.len; h = f.h; q = f.q; middle = f.middle }) b
        ∙ ap (λ (z : ℤ). record { p1 = g.p1; e = g.e; len = z; h = f.h; q = f.q; middle = f.middle }) c
        ∙ ap (λ (z : ℤ). record { p1 = g.p1; e = g.e; len = g.len; h = z; q = f.q; middle = f.middle }) d
        ∙ ap (λ (z : ℤ). record { p1 = g.p1; e = g.e; len = g.len; h = g.h; q = z; middle = f.middle }) e
        ∙ ap (λ (p : Point). record { p1 = g.p1; e = g.e; len = g.len; h = g.h; q = g.q; middle = p }) i

-- ---- nearness
-- an offset and a height without casts
pub record IsOffset (a b h : ℤ) : Type 0 where
  pub offset : cast64 (cast64 a -ℤ cast64 b) ≡ a -ℤ b
  pub far : cast64 (pos 4 *ℤ cast64 h) ≡ pos 4 *ℤ h
  pub back : cast64 (pos 0 -ℤ cast64 (pos 4 *ℤ cast64 h)) ≡ pos 0 -ℤ pos 4 *ℤ h

offset_is : (a b h : ℤ) → IsWithin GRID a → IsWithin GRID b → IsHeight h → IsOffset a b h
offset_is a b h ha hb hh = let fa : SFits w64 a = fits64 GRID a (omega (arith, ints)) ha in let fb : SFits w64 b = fits64 GRID b (omega (arith, ints)) hb in let fh : SFits w64 h = omega (arith, ints, hh.least, hh.greatest) in
    let fo : SFits w64 (a -ℤ b) = fits64 (GRID +ℤ GRID) (a -ℤ b) (omega (arith, ints)) (within_sub GRID GRID a b ha hb) in let ff : SFits w64 (pos 4 *ℤ h) = omega (arith, ints, hh.least, hh.greatest) in let fl : SFits w64 (pos 0 -ℤ pos 4 *ℤ h) = omega (arith, ints, hh.least, hh.greatest) in
    record { offset = simp to_z-of_z; far = simp to_z-of_z; back = simp to_z-of_z }

-- both tests of the code
pub near_then : (a b h : ℤ) → IsWithin GRID a → IsWithin GRID b → IsHeight h → le_z (cast64 (pos 0 -ℤ cast64 (pos 4 *ℤ cast64 h))) (cast64 (cast64 a -ℤ cast64 b)) ≡ true → (le_z (cast64 (cast64 a -ℤ cast64 b)) (cast64 (pos 4 *ℤ cast64 h)) ≡ true → IsWithin (pos 4 *ℤ h) (a -ℤ b)) × (IsWithin (pos 4 *ℤ h) (a -ℤ b) → le_z (cast64 (cast64 a -ℤ cast64 b)) (cast64 (pos 4 *ℤ cast64 h)) ≡ true)
near_then a b h ha hb hh t = let k : IsOffset a b h = offset_is a b h ha hb hh in (
  λ u. record { least = omega (arith, ints, le_true (cast64 (pos 0 -ℤ cast64 (pos 4 *ℤ cast64 h))) (cast64 (cast64 a -ℤ cast64 b)) t, k.offset, k.back); greatest = omega (arith, ints, le_true (cast64 (cast64 a -ℤ cast64 b)) (cast64 (pos 4 *ℤ cast64 h)) u, k.offset, k.far) },
  λ w. true_le (cast64 (cast64 a -ℤ cast64 b)) (cast64 (pos 4 *ℤ cast64 h)) (omega (arith, ints, w.greatest, k.offset, k.far)),
)

pub near_else : (a b h : ℤ) → IsWithin GRID a → IsWithin GRID b → IsHeight h → le_z (cast64 (pos 0 -ℤ cast64 (pos 4 *ℤ cast64 h))) (cast64 (cast64 a -ℤ cast64 b)) ≡ false → (le_z (cast64 (pos 0 -ℤ cast64 (pos 4 *ℤ cast64 h))) (cast64 (cast64 a -ℤ cast64 b)) ≡ true → IsWithin (pos 4 *ℤ h) (a -ℤ b)) × (IsWithin (pos 4 *ℤ h) (a -ℤ b) → le_z (cast64 (pos 0 -ℤ cast64 (pos 4 *ℤ cast64 h))) (cast64 (cast64 a -ℤ cast64 b)) ≡ true)
near_else a b h ha hb hh f = let k : IsOffset a b h = offset_is a b h ha hb hh in (
  λ u. absurd (clash (le_z (cast64 (pos 0 -ℤ cast64 (pos 4 *ℤ cast64 h))) (cast64 (cast64 a -ℤ cast64 b))) f u),
  λ w. true_le (cast64 (pos 0 -ℤ cast64 (pos 4 *ℤ cast64 h))) (cast64 (cast64 a -ℤ cast64 b)) (omega (arith, ints, w.least, k.offset, k.back)),
)
