-- An element glued to the lines near its corners: those lines are still the ones of the state that are near.
use Prim.Native.Nat.{ℕ, ◌+◌}
use mathlib.Core.Path.{◌≡◌, refl, sym, ap, ◌∙◌, subst}
use mathlib.Core.Bool.{Bool, true, false, cond, ◌&&◌, ◌||◌}
use mathlib.Core.List.{List, [], ◌∷◌, map}
use native.Mathlib.Omega.{arith}
use Rattle.std.specs.Prelude.{filter, nat_eq}
use Rattle.std.specs.List.{list_any}
use Rattle.grid_geom.specs.declared.Point.{Point}
use Rattle.grid_geom.specs.declared.Bounds.{Bounds}
use Rattle.state_law.specs.State.{State, point_at, pair_edge, corners_of, does_join, glue_line, next_after, glued}
use Rattle.state_law.proofs.NearLines.{start_meets}
use Rattle.front_chain.specs.Front.{does_meet}
use Rattle.admission.specs.declared.triangle.Line.{Line}
use Rattle.admission.specs.declared.shapes.Shape.{Shape}
use Rattle.admission.specs.declared.triangle.Triangle.{Triangle}
use Rattle.admission.specs.Around.{IsInBounds, IsShapeIn, IsShapeOf, drawn, is_close, lines_near, is_along, side_between, glue_drawn, next_drawn, glue_shape, next_shape}
use Rattle.admission.proofs.Transfer.{met_by}

abbrev Triple : Type 0
Triple = ℕ × ℕ × ℕ

eq_sound : (m n : ℕ) → nat_eq m n ≡ true → m ≡ n
eq_sound m n h = grind arith

both_of : (a b : Bool) → (a && b) ≡ true → (a ≡ true) × (b ≡ true)
both_of true b h = (refl, h)
both_of false b h = absurd (cc)

-- ---- one side
-- both ways of the side are near
pub record IsNearSide (b : Bounds) (points : List Point) (s : ℕ × ℕ) : Type 0 where
  pub forth : does_meet b (pair_edge points s) ≡ true
  pub back : does_meet b (pair_edge points (s.1, s.0)) ≡ true

-- a line that goes the way of the side is near
along_close : (b : Bounds) (points : List Point) (s : ℕ × ℕ) (line : Triple) → IsNearSide b points s → does_join line s ≡ true → is_close b points line ≡ true
along_close b points s line h j = let k = both_of (nat_eq line.1 s.0) (nat_eq line.2 s.1) j in
    subst (λ (m : ℕ). does_meet b (pair_edge points (m, line.2)) ≡ true) (sym (eq_sound line.1 s.0 k.0)) (subst (λ (m : ℕ). does_meet b (pair_edge points (s.0, m)) ≡ true) (sym (eq_sound line.2 s.1 k.1)) h.forth)

abbrev side_of : List Point → ℕ × ℕ → Line
side_of points s = side_between s.0 (point_at points s.0) s.1 (point_at points s.1)

clash : {A : Type 0} {b : Bool} → b ≡ false → b ≡ true → A
clash e f = absurd (cc)

lines_step : (b : Bounds) (points : List Point) (front : List Triple) (next : ℕ) (s : ℕ × ℕ) → IsNearSide b points s → glue_drawn (lines_near b points front) next (side_of points s) ≡ lines_near b points (glue_line front next s)
lines_step b points [] next s h = sym (ap (λ k. map (drawn points) (cond k ((next, s.1, s.0) ∷ []) [])) h.back)
lines_step b points (line ∷ front) next s h = (elim (is_close b points line) as (λ (k : Bool). is_close b points line ≡ k → glue_drawn (map (drawn points) (cond k (line ∷ filter (is_close b points) front) (filter (is_close b points) front))) next (side_of points s) ≡ lines_near b points (glue_line (line ∷ front) next s)) [
  | true ↦ λ e. (elim (does_join line s) as (λ (k : Bool). elim k [ true ↦ lines_near b points front | false ↦ drawn points line ∷ glue_drawn (lines_near b points front) next (side_of points s) ] ≡ lines_near b points (elim k [ true ↦ front | false ↦ line ∷ glue_line front next s ])) [
    | true ↦ refl
    | false ↦ ap (λ (ls : List Line). drawn points line ∷ ls) (lines_step b points front next s h) ∙ sym (ap (λ k. map (drawn points) (cond k (line ∷ filter (is_close b points) (glue_line front next s)) (filter (is_close b points) (glue_line front next s)))) e)
  ])
  | false ↦ λ e. (elim (does_join line s) as (λ (k : Bool). does_join line s ≡ k → glue_drawn (lines_near b points front) next (side_of points s) ≡ lines_near b points (elim k [ true ↦ front | false ↦ line ∷ glue_line front next s ])) [
    | true ↦ λ j. clash e (along_close b points s line h j)
    | false ↦ λ j. lines_step b points front next s h ∙ sym (ap (λ k. map (drawn points) (cond k (line ∷ filter (is_close b points) (glue_line front next s)) (filter (is_close b points) (glue_line front next s)))) e)
  ]) refl
]) refl

any_step : (b : Bounds) (points : List Point) (front : List Triple) (s : ℕ × ℕ) → IsNearSide b points s → list_any (is_along (side_of points s)) (lines_near b points front) ≡ list_any (λ line. does_join line s) front
any_step b points [] s h = refl
any_step b points (line ∷ front) s h = (elim (is_close b points line) as (λ (k : Bool). is_close b points line ≡ k → list_any (is_along (side_of points s)) (map (drawn points) (cond k (line ∷ filter (is_close b points) front) (filter (is_close b points) front))) ≡ (does_join line s || list_any (λ line. does_join line s) front)) [
  | true ↦ λ e. ap (λ k. does_join line s || k) (any_step b points front s h)
  | false ↦ λ e. (elim (does_join line s) as (λ (k : Bool). does_join line s ≡ k → list_any (is_along (side_of points s)) (lines_near b points front) ≡ (k || list_any (λ line. does_join line s) front)) [
    | true ↦ λ j. clash e (along_close b points s line h j)
    | false ↦ λ j. any_step b points front s h
  ]) refl
]) refl

next_step : (b : Bounds) (points : List Point) (front : List Triple) (next : ℕ) (s : ℕ × ℕ) → IsNearSide b points s → next_drawn (lines_near b points front) next (side_of points s) ≡ next_after front next s
next_step b points front next s h = ap (λ k. cond k next (next + 1)) (any_step b points front s h)

-- ---- three sides
-- the lines and the next number after one side
step_lines : (b : Bounds) (points : List Point) (front : List Triple) (lines : List Line) (next m : ℕ) (s : ℕ × ℕ) → IsNearSide b points s → lines ≡ lines_near b points front → next ≡ m → glue_drawn lines next (side_of points s) ≡ lines_near b points (glue_line front m s)
step_lines b points front lines next m s h e f = ap (λ (ls : List Line). glue_drawn ls next (side_of points s)) e ∙ ap (λ (k : ℕ). glue_drawn (lines_near b points front) k (side_of points s)) f ∙ lines_step b points front m s h

step_next : (b : Bounds) (points : List Point) (front : List Triple) (lines : List Line) (next m : ℕ) (s : ℕ × ℕ) → IsNearSide b points s → lines ≡ lines_near b points front → next ≡ m → next_drawn lines next (side_of points s) ≡ next_after front m s
step_next b points front lines next m s h e f = ap (λ (ls : List Line). next_drawn ls next (side_of points s)) e ∙ ap (λ (k : ℕ). next_drawn (lines_near b points front) k (side_of points s)) f ∙ next_step b points front m s h

pub record AreNearSides (b : Bounds) (points : List Point) (i j k : ℕ) : Type 0 where
  pub ij : IsNearSide b points (i, j)
  pub jk : IsNearSide b points (j, k)
  pub ki : IsNearSide b points (k, i)

-- the shape's places are those of its numbers
pub record IsPlacedShape (points : List Point) (s : Shape) : Type 0 where
  pub a : s.t.a ≡ point_at points s.i
  pub b : s.t.b ≡ point_at points s.j
  pub c : s.t.c ≡ point_at points s.k

pub shape_lines : (b : Bounds) (st : State) (lines : List Line) (next : ℕ) (i j k : ℕ) → AreNearSides b st.points i j k → lines ≡ lines_near b st.points st.front → next ≡ st.next →
    (glue_drawn (glue_drawn (glue_drawn lines next (side_of st.points (i, j))) (next_drawn lines next (side_of st.points (i, j))) (side_of st.points (j, k))) (next_drawn (glue_drawn lines next (side_of st.points (i, j))) (next_drawn lines next (side_of st.points (i, j))) (side_of st.points (j, k))) (side_of st.points (k, i)) ≡ lines_near b st.points (glued st (i ∷ j ∷ k ∷ [])).front)
    × (next_drawn (glue_drawn (glue_drawn lines next (side_of st.points (i, j))) (next_drawn lines next (side_of st.points (i, j))) (side_of st.points (j, k))) (next_drawn (glue_drawn lines next (side_of st.points (i, j))) (next_drawn lines next (side_of st.points (i, j))) (side_of st.points (j, k))) (side_of st.points (k, i)) ≡ (glued st (i ∷ j ∷ k ∷ [])).next)
shape_lines b st lines next i j k h e f =
    let l1 = step_lines b st.points st.front lines next st.next (i, j) h.ij e f in
    let n1 = step_next b st.points st.front lines next st.next (i, j) h.ij e f in
    let front1 = glue_line st.front st.next (i, j) in
    let next1 = next_after st.front st.next (i, j) in
    let l2 = step_lines b st.points front1 (glue_drawn lines next (side_of st.points (i, j))) (next_drawn lines next (side_of st.points (i, j))) next1 (j, k) h.jk l1 n1 in
    let n2 = step_next b st.points front1 (glue_drawn lines next (side_of st.points (i, j))) (next_drawn lines next (side_of st.points (i, j))) next1 (j, k) h.jk l1 n1 in
    let front2 = glue_line front1 next1 (j, k) in
    let next2 = next_after front1 next1 (j, k) in
    (step_lines b st.points front2 _ _ next2 (k, i) h.ki l2 n2, step_next b st.points front2 _ _ next2 (k, i) h.ki l2 n2)

pub glued_shape : (b : Bounds) (st : State) (lines : List Line) (next : ℕ) (s : Shape) → IsPlacedShape st.points s → AreNearSides b st.points s.i s.j s.k → lines ≡ lines_near b st.points st.front → next ≡ st.next →
    (glue_shape lines next s ≡ lines_near b st.points (glued st (s.i ∷ s.j ∷ s.k ∷ [])).front) × (next_shape lines next s ≡ (glued st (s.i ∷ s.j ∷ s.k ∷ [])).next)
glued_shape b st lines next s p h e f = subst (λ (t : Triangle). (glue_shape lines next (record { i = s.i; j = s.j; k = s.k; t = t }) ≡ lines_near b st.points (glued st (s.i ∷ s.j ∷ s.k ∷ [])).front) × (next_shape lines next (record { i = s.i; j = s.j; k = s.k; t = t }) ≡ (glued st (s.i ∷ s.j ∷ s.k ∷ [])).next)) (sym placed) (shape_lines b st lines next s.i s.j s.k h e f)
  where
    placed : s.t ≡ record { a = point_at st.points s.i; b = point_at st.points s.j; c = point_at st.points s.k }
    placed = λ q. record { a = p.a q; b = p.b q; c = p.c q }

-- ---- what the sides are near by
near_between : (b : Bounds) (points : List Point) (i j : ℕ) → IsInBounds b (point_at points i) → IsInBounds b (point_at points j) → IsNearSide b points (i, j)
near_between b points i j h k = record {
  forth = met_by b (pair_edge points (i, j)) (point_at points i) h (start_meets (point_at points i) (point_at points j) b.lo b.hi (record { right_of_least = h.right_of_least; left_of_greatest = h.left_of_greatest; above_least = h.above_least; below_greatest = h.below_greatest }));
  back = met_by b (pair_edge points (j, i)) (point_at points j) k (start_meets (point_at points j) (point_at points i) b.lo b.hi (record { right_of_least = k.right_of_least; left_of_greatest = k.left_of_greatest; above_least = k.above_least; below_greatest = k.below_greatest }));
}

head_same : (p q : Point) (ps qs : List Point) → p ∷ ps ≡ q ∷ qs → p ≡ q
head_same p q ps qs e = cc

tail_same : (p q : Point) (ps qs : List Point) → p ∷ ps ≡ q ∷ qs → ps ≡ qs
tail_same p q ps qs e = cc

-- the places of a shape of the element's numbers
pub placed_of : (points : List Point) (ns : List ℕ) (s : Shape) → IsShapeOf points ns s → IsPlacedShape points s
placed_of points ns s h = from (subst (λ (k : List ℕ). corners_of points k ≡ s.t.a ∷ s.t.b ∷ s.t.c ∷ []) h.numbers h.places)
  where
    from : point_at points s.i ∷ point_at points s.j ∷ point_at points s.k ∷ [] ≡ s.t.a ∷ s.t.b ∷ s.t.c ∷ [] → IsPlacedShape points s
    from e = let f = tail_same _ _ _ _ e in let g = tail_same _ _ _ _ f in record { a = sym (head_same _ _ _ _ e); b = sym (head_same _ _ _ _ f); c = sym (head_same _ _ _ _ g) }

pub near_sides : (b : Bounds) (points : List Point) (s : Shape) → IsPlacedShape points s → IsShapeIn b s → AreNearSides b points s.i s.j s.k
near_sides b points s p h = record { ij = near_between b points s.i s.j x y; jk = near_between b points s.j s.k y z; ki = near_between b points s.k s.i z x }
  where
    x : IsInBounds b (point_at points s.i)
    x = subst (IsInBounds b) p.a h.a

    y : IsInBounds b (point_at points s.j)
    y = subst (IsInBounds b) p.b h.b

    z : IsInBounds b (point_at points s.k)
    z = subst (IsInBounds b) p.c h.c
