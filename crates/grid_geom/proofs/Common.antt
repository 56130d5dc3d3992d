-- A segment whose line has points of a polygon on both sides, and that is not wholly beyond one side, has a point in the open polygon
-- (`common_point`). A polygon is a list of lines here. Stands on Meeting.
use lib.IntN.{ℤ, pos, ◌+ℤ◌, ◌-ℤ◌, ◌*ℤ◌}
use lib.Signed.{◌<ℤ◌, ◌≤ℤ◌}
use mathlib.Core.Path.{◌≡◌, refl, sym, ap, ◌∙◌}
use mathlib.Core.List.{List, [], ◌∷◌}
use mathlib.Core.Logic.{◌⊎◌, inl, inr}
use native.Mathlib.Omega.{arith}
use Rattle.std.proofs.lemmas.Int.{ints}
use Rattle.std.specs.List.{AllByRecursion}
use Rattle.grid_geom.specs.declared.Point.{Point}
use Rattle.grid_geom.specs.declared.RatPoint.{RatPoint}
use Rattle.grid_geom.specs.Plane.{orient_rat}
use Rattle.grid_geom.specs.Line.{Line, side, whole}
use Rattle.grid_geom.specs.Segment.{IsOnSegment}
use Rattle.grid_geom.proofs.Ring.{E, var, num, ◌⊕◌, ◌⊖◌, ◌⊗◌, ring}
use Rattle.grid_geom.proofs.Signs.{nn_mul, pos_mul, np_mul, either}
use Rattle.grid_geom.proofs.Lines.{PointE, orientE, orient_back}
use Rattle.grid_geom.proofs.Meeting.{beyond, beyondE, both_beyond, within, squared, squaredE, squared_pos, first_end, on_back}

-- s times p, and t times q
abbrev pub weigh : ℤ → RatPoint → ℤ → RatPoint → RatPoint
weigh s p t q = record { x = s *ℤ p.x +ℤ t *ℤ q.x; y = s *ℤ p.y +ℤ t *ℤ q.y; k = s *ℤ p.k +ℤ t *ℤ q.k }

pub side_weigh : (l : Line) (s t : ℤ) (p q : RatPoint) → side l (weigh s p t q) ≡ s *ℤ side l p +ℤ t *ℤ side l q
side_weigh l s t p q = ring (l.a ∷ l.b ∷ l.c ∷ s ∷ t ∷ p.x ∷ p.y ∷ p.k ∷ q.x ∷ q.y ∷ q.k ∷ [])
    (var 0 ⊗ (var 3 ⊗ var 5 ⊕ var 4 ⊗ var 8) ⊕ var 1 ⊗ (var 3 ⊗ var 6 ⊕ var 4 ⊗ var 9) ⊕ var 2 ⊗ (var 3 ⊗ var 7 ⊕ var 4 ⊗ var 10))
    (var 3 ⊗ (var 0 ⊗ var 5 ⊕ var 1 ⊗ var 6 ⊕ var 2 ⊗ var 7) ⊕ var 4 ⊗ (var 0 ⊗ var 8 ⊕ var 1 ⊗ var 9 ⊕ var 2 ⊗ var 10)) refl

orient_weigh : (a b : Point) (s t : ℤ) (p q : RatPoint) → orient_rat a b (weigh s p t q) ≡ s *ℤ orient_rat a b p +ℤ t *ℤ orient_rat a b q
orient_weigh a b s t p q = ring (a.x ∷ a.y ∷ b.x ∷ b.y ∷ s ∷ t ∷ p.x ∷ p.y ∷ p.k ∷ q.x ∷ q.y ∷ q.k ∷ [])
    (orientE A B (record { x = var 4 ⊗ var 6 ⊕ var 5 ⊗ var 9; y = var 4 ⊗ var 7 ⊕ var 5 ⊗ var 10; k = var 4 ⊗ var 8 ⊕ var 5 ⊗ var 11 }))
    (var 4 ⊗ orientE A B (record { x = var 6; y = var 7; k = var 8 }) ⊕ var 5 ⊗ orientE A B (record { x = var 9; y = var 10; k = var 11 })) refl
  where
    A : PointE
    A = record { x = var 0; y = var 1; k = num (pos 1) }

    B : PointE
    B = record { x = var 2; y = var 3; k = num (pos 1) }

-- the ends of a segment and a point of its line
pub ends_side : (l : Line) (a b : Point) (p : RatPoint) → squared a b *ℤ side l p +ℤ side (beyond a b) p *ℤ side l (whole a) +ℤ side (beyond b a) p *ℤ side l (whole b) ≡ (l.b *ℤ (b.x -ℤ a.x) -ℤ l.a *ℤ (b.y -ℤ a.y)) *ℤ orient_rat a b p
ends_side l a b p = ring (a.x ∷ a.y ∷ b.x ∷ b.y ∷ p.x ∷ p.y ∷ p.k ∷ l.a ∷ l.b ∷ l.c ∷ [])
    (squaredE A B ⊗ sideE P ⊕ beyondE A B P ⊗ sideE A ⊕ beyondE B A P ⊗ sideE B) ((var 8 ⊗ (B.x ⊖ A.x) ⊖ var 7 ⊗ (B.y ⊖ A.y)) ⊗ orientE A B P) refl
  where
    A : PointE
    A = record { x = var 0; y = var 1; k = num (pos 1) }

    B : PointE
    B = record { x = var 2; y = var 3; k = num (pos 1) }

    P : PointE
    P = record { x = var 4; y = var 5; k = var 6 }

    sideE : PointE → E
    sideE p = var 7 ⊗ p.x ⊕ var 8 ⊗ p.y ⊕ var 9 ⊗ p.k

near_end : (n s x y f g : ℤ) → n *ℤ s +ℤ f *ℤ x +ℤ g *ℤ y ≡ pos 0 → pos 0 <ℤ n → pos 0 <ℤ s → pos 0 <ℤ f → g <ℤ pos 0 → (pos 0 <ℤ x) ⊎ (pos 0 <ℤ y) → pos 0 <ℤ y
near_end n s x y f g e hn hs hf hg (inr h) = h
near_end n s x y f g e hn hs hf hg (inl h) = elim (either y (pos 0)) [ inr j ↦ j | inl j ↦ absurd (omega (arith, ints, pos_mul n s hn hs, pos_mul f x hf h, np_mul g y (omega (arith, ints)) j)) ]

pub record IsCommon (ls : List Line) (a b : Point) : Type 0 where
  pub at : RatPoint
  pub rational : pos 0 <ℤ at.k
  pub inside : AllByRecursion (λ l. pos 0 <ℤ side l at) ls
  pub on : IsOnSegment at (whole a) (whole b)

abbrev pub Reached : Point → Point → List Line → Type 0
Reached a b ls = AllByRecursion (λ l. (pos 0 <ℤ side l (whole a)) ⊎ (pos 0 <ℤ side l (whole b))) ls

pub zero_product : (a m o : ℤ) → a ≡ m *ℤ o → o ≡ pos 0 → a ≡ pos 0
zero_product a m o e h = e ∙ ap (λ (z : ℤ). m *ℤ z) h ∙ ring (m ∷ []) (var 0 ⊗ num (pos 0)) (num (pos 0)) refl

end_inside : (ls : List Line) (m : RatPoint) (a b : Point) → ¬ (a ≡ b) → orient_rat a b m ≡ pos 0 → pos 0 <ℤ side (beyond a b) m → side (beyond b a) m <ℤ pos 0 → AllByRecursion (λ l. pos 0 <ℤ side l m) ls → Reached a b ls → AllByRecursion (λ l. pos 0 <ℤ side l (whole b)) ls
end_inside [] m a b n e f g all r = tt
end_inside (l ∷ ls) m a b n e f g all r = (near_end (squared a b) (side l m) (side l (whole a)) (side l (whole b)) (side (beyond a b) m) (side (beyond b a) m) (zero_product _ _ (orient_rat a b m) (ends_side l a b m) e) (squared_pos a b n) all.0 f g r.0, end_inside ls m a b n e f g all.1 r.1)

reversed : (ls : List Line) (a b : Point) → Reached a b ls → Reached b a ls
reversed [] a b r = tt
reversed (l ∷ ls) a b r = (elim r.0 [ inl h ↦ inr h | inr h ↦ inl h ], reversed ls a b r.1)

on_line : (ls : List Line) (m : RatPoint) (a b : Point) → ¬ (a ≡ b) → pos 0 <ℤ m.k → orient_rat a b m ≡ pos 0 → orient_rat b a m ≡ pos 0 → AllByRecursion (λ l. pos 0 <ℤ side l m) ls → Reached a b ls → IsCommon ls a b
on_line ls m a b n km e e' all r = elim (either (side (beyond a b) m) (pos 0)) [
  | inr f ↦ record { at = whole b; rational = omega (arith, ints); inside = end_inside ls m a b n e f (other f (both_beyond a b m) (pos_mul (squared a b) m.k (squared_pos a b n) km)) all r; on = on_back (whole b) (whole b) (whole a) (first_end (whole b) (whole a)) }
  | inl f ↦ elim (either (side (beyond b a) m) (pos 0)) [
    | inr g ↦ record { at = whole a; rational = omega (arith, ints); inside = end_inside ls m b a (λ s. n (sym s)) e' g (other g (both_beyond b a m) (pos_mul (squared b a) m.k (squared_pos b a (λ s. n (sym s))) km)) all (reversed ls a b r); on = first_end (whole a) (whole b) }
    | inl g ↦ record { at = m; rational = km; inside = all; on = within a b m n km e f g }
  ]
]
  where
    other : {x y z : ℤ} → pos 0 <ℤ x → x +ℤ y ≡ pos 0 -ℤ z → pos 0 <ℤ z → y <ℤ pos 0
    other {x} {y} {z} h e j = omega (arith, ints)

weighed_left : (s t : ℤ) (p q : RatPoint) (ls : List Line) → pos 0 <ℤ s → pos 0 ≤ℤ t → AllByRecursion (λ l. pos 0 <ℤ side l p) ls → AllByRecursion (λ l. pos 0 ≤ℤ side l q) ls → AllByRecursion (λ l. pos 0 <ℤ side l (weigh s p t q)) ls
weighed_left s t p q [] hs ht all more = tt
weighed_left s t p q (l ∷ ls) hs ht all more = (added (side_weigh l s t p q) (pos_mul s (side l p) hs all.0) (nn_mul t (side l q) ht more.0), weighed_left s t p q ls hs ht all.1 more.1)
  where
    added : {m x y : ℤ} → m ≡ x +ℤ y → pos 0 <ℤ x → pos 0 ≤ℤ y → pos 0 <ℤ m
    added {m} {x} {y} e h j = omega (arith, ints)

-- a segment whose line has points of a polygon on both sides, and that is not wholly beyond a side, has a point in the open polygon; c is a point of it
pub common_point : (ls : List Line) (c t u : RatPoint) (a b : Point) → ¬ (a ≡ b) → pos 0 <ℤ c.k → pos 0 <ℤ t.k → pos 0 <ℤ u.k → AllByRecursion (λ l. pos 0 <ℤ side l c) ls → AllByRecursion (λ l. pos 0 ≤ℤ side l t) ls → AllByRecursion (λ l. pos 0 ≤ℤ side l u) ls
    → pos 0 <ℤ orient_rat a b t → orient_rat a b u <ℤ pos 0 → Reached a b ls → IsCommon ls a b
common_point ls c t u a b n kc kt ku inside ht hu t_left u_right r = elim (either (pos 0) (orient_rat a b c)) [
  | inl h ↦ on_line ls (weigh (pos 0 -ℤ orient_rat a b u) c (orient_rat a b c) u) a b n (mixed (pos 0 -ℤ orient_rat a b u) (orient_rat a b c) c.k u.k (flipped u_right) h kc ku)
      (orient_weigh a b (pos 0 -ℤ orient_rat a b u) (orient_rat a b c) c u ∙ cancelled (orient_rat a b u) (orient_rat a b c))
      (backwards (orient_back a b (weigh (pos 0 -ℤ orient_rat a b u) c (orient_rat a b c) u)) (orient_weigh a b (pos 0 -ℤ orient_rat a b u) (orient_rat a b c) c u ∙ cancelled (orient_rat a b u) (orient_rat a b c)))
      (weighed_left (pos 0 -ℤ orient_rat a b u) (orient_rat a b c) c u ls (flipped u_right) h inside hu) r
  | inr h ↦ on_line ls (weigh (orient_rat a b t) c (pos 0 -ℤ orient_rat a b c) t) a b n (mixed (orient_rat a b t) (pos 0 -ℤ orient_rat a b c) c.k t.k t_left (weak (flipped h)) kc kt)
      (orient_weigh a b (orient_rat a b t) (pos 0 -ℤ orient_rat a b c) c t ∙ cancelled' (orient_rat a b t) (orient_rat a b c))
      (backwards (orient_back a b (weigh (orient_rat a b t) c (pos 0 -ℤ orient_rat a b c) t)) (orient_weigh a b (orient_rat a b t) (pos 0 -ℤ orient_rat a b c) c t ∙ cancelled' (orient_rat a b t) (orient_rat a b c)))
      (weighed_left (orient_rat a b t) (pos 0 -ℤ orient_rat a b c) c t ls t_left (weak (flipped h)) inside ht) r
]
  where
    flipped : {z : ℤ} → z <ℤ pos 0 → pos 0 <ℤ (pos 0 -ℤ z)
    flipped {z} h = omega (arith, ints)

    weak : {z : ℤ} → pos 0 <ℤ z → pos 0 ≤ℤ z
    weak {z} h = omega (arith, ints)

    mixed : (s t k l : ℤ) → pos 0 <ℤ s → pos 0 ≤ℤ t → pos 0 <ℤ k → pos 0 <ℤ l → pos 0 <ℤ (s *ℤ k +ℤ t *ℤ l)
    mixed s t k l hs ht hk hl = omega (arith, ints, pos_mul s k hs hk, nn_mul t l ht (omega (arith, ints)))

    cancelled : (u c : ℤ) → (pos 0 -ℤ u) *ℤ c +ℤ c *ℤ u ≡ pos 0
    cancelled u c = ring (u ∷ c ∷ []) ((num (pos 0) ⊖ var 0) ⊗ var 1 ⊕ var 1 ⊗ var 0) (num (pos 0)) refl

    cancelled' : (t c : ℤ) → t *ℤ c +ℤ (pos 0 -ℤ c) *ℤ t ≡ pos 0
    cancelled' t c = ring (t ∷ c ∷ []) (var 0 ⊗ var 1 ⊕ (num (pos 0) ⊖ var 1) ⊗ var 0) (num (pos 0)) refl

    backwards : {y z : ℤ} → y ≡ pos 0 -ℤ z → z ≡ pos 0 → y ≡ pos 0
    backwards {y} {z} e f = omega (arith, ints)
