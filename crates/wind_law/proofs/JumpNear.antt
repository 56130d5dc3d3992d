-- The jump of law Jump close to a given point v of the open segment a-b: right of a-b a point q is given, left of it one is found, as near v as any lines ask.
-- Stands on Jump and on grid_geom's Near.
use lib.IntN.{ℤ, pos, ◌+ℤ◌, ◌-ℤ◌, ◌*ℤ◌}
use lib.Signed.{◌<ℤ◌, ◌≤ℤ◌}
use mathlib.Core.Path.{◌≡◌, refl, sym, ◌∙◌, subst}
use mathlib.Core.Bool.{Bool, true, false}
use mathlib.Core.List.{List, [], ◌∷◌}
use mathlib.Core.Logic.{◌⊎◌, inl, inr}
use native.Mathlib.Omega.{arith}
use lib.Dec.{T}
use Rattle.std.proofs.lemmas.Int.{ints}
use Rattle.std.specs.List.{AllByRecursion}
use Rattle.grid_geom.specs.declared.Point.{Point}
use Rattle.grid_geom.specs.declared.RatPoint.{RatPoint}
use Rattle.grid_geom.specs.declared.Edge.{Edge}
use Rattle.grid_geom.specs.Plane.{orient_rat, IsRational}
use Rattle.grid_geom.specs.Line.{Line, side, whole, through, IsClear}
use Rattle.grid_geom.specs.Winding.{wind}
use Rattle.grid_geom.specs.Closed.{IsClosed}
use Rattle.grid_geom.proofs.Ring.{var, num, ◌⊖◌, ring}
use Rattle.grid_geom.proofs.Signs.{pos_mul_neg, nn_np_mul, pos_factor}
use Rattle.grid_geom.proofs.Lines.{detE, PointE, orientE, det_turn, det_back, through_is}
use Rattle.grid_geom.proofs.Meeting.{beyond, squared, squared_pos}
use Rattle.grid_geom.proofs.Common.{ends_side, zero_product}
use Rattle.grid_geom.proofs.Near.{IsAhead, within, towards, IsDirected, IsNear, near_ahead, span, span_is}
use Rattle.wind_law.specs.Chains.{edge, same_edge, times}
use Rattle.wind_law.proofs.Jump.{IsElsewhere, jump}

-- v is between a and b, and q is right of a-b
pub record IsBeside (v q : RatPoint) (a b : Point) : Type 0 where
  pub different : ¬ (a ≡ b)
  pub straight : orient_rat a b v ≡ pos 0
  pub before_b : side (beyond a b) v <ℤ pos 0
  pub after_a : side (beyond b a) v <ℤ pos 0
  pub q_right : orient_rat a b q <ℤ pos 0

-- an edge is a-b or b-a, or a line parts it from v and q
pub data IsHeld (v q : RatPoint) (a b : Point) (e : Edge) : Type 0 where
  same : same_edge e (edge a b) ≡ true → IsHeld v q a b e
  back : same_edge e (edge b a) ≡ true → IsHeld v q a b e
  held : (l : Line) → side l (whole e.a) ≤ℤ pos 0 → side l (whole e.b) ≤ℤ pos 0 → pos 0 <ℤ side l v → pos 0 <ℤ side l q → IsHeld v q a b e

abbrev line_of : (v q : RatPoint) (a b : Point) (e : Edge) → IsHeld v q a b e → List Line → List Line
line_of v q a b e (same i) ls = ls
line_of v q a b e (back i) ls = ls
line_of v q a b e (held l x y z w) ls = l ∷ ls

abbrev lines_of : (v q : RatPoint) (a b : Point) (es : List Edge) → AllByRecursion (IsHeld v q a b) es → List Line → List Line
lines_of v q a b [] h ls = ls
lines_of v q a b (e ∷ es) h ls = line_of v q a b e h.0 (lines_of v q a b es h.1 ls)

line_ahead : (v q c : RatPoint) (a b : Point) (e : Edge) (h : IsHeld v q a b e) (ls : List Line) → AllByRecursion (IsAhead v c) ls → AllByRecursion (IsAhead v c) (line_of v q a b e h ls)
line_ahead v q c a b e (same i) ls all = all
line_ahead v q c a b e (back i) ls all = all
line_ahead v q c a b e (held l x y z w) ls all = (within z, all)

lines_ahead : (v q c : RatPoint) (a b : Point) (es : List Edge) (h : AllByRecursion (IsHeld v q a b) es) (ls : List Line) → AllByRecursion (IsAhead v c) ls → AllByRecursion (IsAhead v c) (lines_of v q a b es h ls)
lines_ahead v q c a b [] h ls all = all
lines_ahead v q c a b (e ∷ es) h ls all = line_ahead v q c a b e h.0 (lines_of v q a b es h.1 ls) (lines_ahead v q c a b es h.1 ls all)

clash : {A : Type 0} → true ≡ false → A
clash e = absurd (subst (λ (b : Bool). T b) e tt)

-- what the new point p has of the lines
line_rest : (v q p : RatPoint) (a b : Point) (e : Edge) (h : IsHeld v q a b e) (ls : List Line) → AllByRecursion (λ l. pos 0 <ℤ side l p) (line_of v q a b e h ls) → AllByRecursion (λ l. pos 0 <ℤ side l p) ls
line_rest v q p a b e (same i) ls all = all
line_rest v q p a b e (back i) ls all = all
line_rest v q p a b e (held l x y z w) ls all = all.1

lines_rest : (v q p : RatPoint) (a b : Point) (es : List Edge) (h : AllByRecursion (IsHeld v q a b) es) (ls : List Line) → AllByRecursion (λ l. pos 0 <ℤ side l p) (lines_of v q a b es h ls) → AllByRecursion (λ l. pos 0 <ℤ side l p) ls
lines_rest v q p a b [] h ls all = all
lines_rest v q p a b (e ∷ es) h ls all = lines_rest v q p a b es h.1 ls (line_rest v q p a b e h.0 (lines_of v q a b es h.1 ls) all)

line_else : (v q p : RatPoint) (a b : Point) (e : Edge) (h : IsHeld v q a b e) (ls : List Line) → AllByRecursion (λ l. pos 0 <ℤ side l p) (line_of v q a b e h ls) → IsElsewhere p q a b e
line_else v q p a b e (same i) ls all = record { apart = λ j k. clash (sym i ∙ j) }
line_else v q p a b e (back i) ls all = record { apart = λ j k. clash (sym i ∙ k) }
line_else v q p a b e (held l x y z w) ls all = record { apart = λ j k. record { line = l; start_right = x; end_right = y; p_left = all.0; q_left = w } }

lines_else : (v q p : RatPoint) (a b : Point) (es : List Edge) (h : AllByRecursion (IsHeld v q a b) es) (ls : List Line) → AllByRecursion (λ l. pos 0 <ℤ side l p) (lines_of v q a b es h ls) → AllByRecursion (IsElsewhere p q a b) es
lines_else v q p a b [] h ls all = tt
lines_else v q p a b (e ∷ es) h ls all = (line_else v q p a b e h.0 (lines_of v q a b es h.1 ls) all, lines_else v q p a b es h.1 ls (line_rest v q p a b e h.0 (lines_of v q a b es h.1 ls) all))

-- a line that is 0 at one end and positive at the other is positive at v
weigh_end : (n s f g x y : ℤ) → n *ℤ s +ℤ f *ℤ x +ℤ g *ℤ y ≡ pos 0 → pos 0 <ℤ n → f <ℤ pos 0 → g <ℤ pos 0 → pos 0 ≤ℤ x → pos 0 ≤ℤ y → (pos 0 <ℤ x) ⊎ (pos 0 <ℤ y) → pos 0 <ℤ s
weigh_end n s f g x y e hn hf hg hx hy (inl h) = pos_factor n s (omega (arith, ints, e, pos_mul_neg x f h hf, nn_np_mul y g hy (omega (arith, ints)))) (omega (arith, ints))
weigh_end n s f g x y e hn hf hg hx hy (inr h) = pos_factor n s (omega (arith, ints, e, pos_mul_neg y g h hg, nn_np_mul x f hx (omega (arith, ints)))) (omega (arith, ints))

at_v : (l : Line) (v q : RatPoint) (a b : Point) → IsBeside v q a b → pos 0 ≤ℤ side l (whole a) → pos 0 ≤ℤ side l (whole b) → (pos 0 <ℤ side l (whole a)) ⊎ (pos 0 <ℤ side l (whole b)) → pos 0 <ℤ side l v
at_v l v q a b h x y z = weigh_end (squared a b) (side l v) (side (beyond a b) v) (side (beyond b a) v) (side l (whole a)) (side l (whole b)) (zero_product _ _ (orient_rat a b v) (ends_side l a b v) h.straight) (squared_pos a b h.different) h.before_b h.after_a x y z

-- the two lines by q
span_a : (q : RatPoint) (a b : Point) → (side (span (whole a) q) (whole a) ≡ pos 0) × (side (span (whole a) q) (whole b) ≡ pos 0 -ℤ orient_rat a b q) × (side (span q (whole b)) (whole b) ≡ pos 0) × (side (span q (whole b)) (whole a) ≡ pos 0 -ℤ orient_rat a b q)
span_a q a b = (
  span_is (whole a) q (whole a) ∙ ring (seven q a b) (detE A Q A) (num (pos 0)) refl,
  span_is (whole a) q (whole b) ∙ ring (seven q a b) (detE A Q B) (num (pos 0) ⊖ orientE A B Q) refl,
  span_is q (whole b) (whole b) ∙ ring (seven q a b) (detE Q B B) (num (pos 0)) refl,
  span_is q (whole b) (whole a) ∙ ring (seven q a b) (detE Q B A) (num (pos 0) ⊖ orientE A B Q) refl,
)
  where
    seven : RatPoint → Point → Point → List ℤ
    seven q a b = q.x ∷ q.y ∷ q.k ∷ a.x ∷ a.y ∷ b.x ∷ b.y ∷ []

    Q : PointE
    Q = record { x = var 0; y = var 1; k = var 2 }

    A : PointE
    A = record { x = var 3; y = var 4; k = num (pos 1) }

    B : PointE
    B = record { x = var 5; y = var 6; k = num (pos 1) }

pub record IsAcross (v q : RatPoint) (a b : Point) (ls ms : List Line) (es : List Edge) : Type 0 where
  pub at : RatPoint
  pub rational : IsRational at
  pub left : pos 0 <ℤ orient_rat a b at
  pub inside : AllByRecursion (λ l. pos 0 <ℤ side l at) ls
  pub clear : AllByRecursion (IsClear v at) ms
  pub jumps : wind at es -ℤ wind q es ≡ pos (times (edge a b) es) -ℤ pos (times (edge b a) es)

-- near a point v of the open segment a-b there is a point on the left, across from q
pub jump_near : (v q c : RatPoint) (a b : Point) (es : List Edge) (ls ms : List Line) → IsClosed es → IsRational v → IsRational q → IsRational c → IsBeside v q a b → pos 0 <ℤ orient_rat a b c → AllByRecursion (IsHeld v q a b) es
    → AllByRecursion (IsAhead v c) ls → AllByRecursion IsDirected ms → IsAcross v q a b ls ms es
jump_near v q c a b es ls ms cl kv kq kc s hc h all d = result (near_ahead v c (lines_of v q a b es h (through a b ∷ span (whole a) q ∷ span q (whole b) ∷ ls)) ms kv.positive kc.positive
    (lines_ahead v q c a b es h (through a b ∷ span (whole a) q ∷ span q (whole b) ∷ ls) (
      towards (level (through_is a b v ∙ s.straight)) (subst (λ (z : ℤ). pos 0 <ℤ z) (sym (through_is a b c)) hc),
      (
        within (at_v (span (whole a) q) v q a b s (level (span_a q a b).0) (more (span_a q a b).1 s.q_right) (inr (most (span_a q a b).1 s.q_right))),
        (within (at_v (span q (whole b)) v q a b s (more (span_a q a b).3 s.q_right) (level (span_a q a b).2) (inl (most (span_a q a b).3 s.q_right))), all),
      ),
    )) d)
  where
    level : {z : ℤ} → z ≡ pos 0 → pos 0 ≤ℤ z
    level {z} e = omega (arith, ints)

    more : {y z : ℤ} → y ≡ pos 0 -ℤ z → z <ℤ pos 0 → pos 0 ≤ℤ y
    more {y} {z} e h = omega (arith, ints)

    most : {y z : ℤ} → y ≡ pos 0 -ℤ z → z <ℤ pos 0 → pos 0 <ℤ y
    most {y} {z} e h = omega (arith, ints)

    result : IsNear v (lines_of v q a b es h (through a b ∷ span (whole a) q ∷ span q (whole b) ∷ ls)) ms → IsAcross v q a b ls ms es
    result r = record {
      at = r.at;
      rational = record { positive = r.rational };
      left = left;
      inside = tops.1.1.1;
      clear = r.clear;
      jumps = jump r.at q a b es cl (record { positive = r.rational }) kq s.different (record {
        p_left = left;
        q_right = s.q_right;
        a_right = negative (span_is (whole a) q r.at) (det_turn r.at q (whole a)) (det_back q (whole a) r.at) tops.1.0;
        b_left = subst (λ (z : ℤ). pos 0 <ℤ z) (span_is q (whole b) r.at ∙ sym (det_turn r.at q (whole b))) tops.1.1.0;
      })
          (lines_else v q r.at a b es h (through a b ∷ span (whole a) q ∷ span q (whole b) ∷ ls) r.inside);
    }
      where
        tops : AllByRecursion (λ l. pos 0 <ℤ side l r.at) (through a b ∷ span (whole a) q ∷ span q (whole b) ∷ ls)
        tops = lines_rest v q r.at a b es h (through a b ∷ span (whole a) q ∷ span q (whole b) ∷ ls) r.inside

        left : pos 0 <ℤ orient_rat a b r.at
        left = subst (λ (z : ℤ). pos 0 <ℤ z) (through_is a b r.at) tops.0

        negative : {x y z w : ℤ} → x ≡ y → w ≡ z → y ≡ pos 0 -ℤ z → pos 0 <ℤ x → w <ℤ pos 0
        negative {x} {y} {z} {w} e f g h = omega (arith, ints)
