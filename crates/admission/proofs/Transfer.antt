-- What hinders an element is a line near it: so the least numbers among the near lines are those among all lines.
use Prim.Native.Nat.{ℕ}
use mathlib.Core.Path.{◌≡◌, refl, sym, subst}
use mathlib.Core.Bool.{Bool, true, false, cond}
use mathlib.Core.List.{List, [], ◌∷◌, map}
use mathlib.Core.Logic.{inl, inr}
use native.Mathlib.Omega.{arith}
use Rattle.std.proofs.lemmas.Int.{ints}
use Rattle.std.specs.Prelude.{Option, Some, None, filter}
use Rattle.std.specs.List.{AllByRecursion}
use Rattle.grid_geom.specs.declared.Point.{Point}
use Rattle.grid_geom.specs.declared.Edge.{Edge}
use Rattle.grid_geom.specs.declared.Bounds.{Bounds}
use Rattle.grid_geom.specs.Sides.{IsOnOpen, DoBoxesMeet}
use Rattle.grid_geom.specs.Polygon.{sides, IsStrictlyConvex}
use Rattle.grid_geom.specs.Closed.{IsEdge}
use Rattle.wind_law.specs.Chains.{edge, back}
use Rattle.state_law.specs.Gluing.{IsClearOf}
use Rattle.state_law.specs.Saved.{AreInBox}
use Rattle.state_law.specs.State.{State, pair_edge, front_edges}
use Rattle.state_law.proofs.NearLines.{hinders_near}
use Rattle.front_chain.specs.Front.{FrontState, does_meet}
use Rattle.front_chain.proofs.NearLines.{boxes_meet}
use Rattle.admission.specs.declared.triangle.Line.{Line}
use Rattle.admission.specs.declared.shapes.Shape.{Shape}
use Rattle.admission.specs.declared.lines.Hindrances.{Hindrances}
use Rattle.admission.specs.declared.view.View.{View}
use Rattle.admission.specs.Triangles.{AreLeast, corners_of_triangle, SomeOf, IsMet, IsOnSide, IsCornerOn, IsBackwards, IsSideOf, IsLine, IsEnd, HasSome, IsLeastOrNone}
use Rattle.admission.specs.Admission.{lines_at, MeetsLine, HasPointOnSide, HasCornerOnLine, HasSideBackwards}
use Rattle.admission.specs.Kept.{IsViewOf}
use Rattle.admission.specs.Around.{IsInBounds, IsShapeIn, drawn, is_close, lines_near}

-- a line by its numbers
abbrev Triple : Type 0
Triple = ℕ × ℕ × ℕ

-- ---- one of a list, and none
pub some_not : {A : Type 0} (P Q : A → Type 0) (xs : List A) → ((x : A) → P x → Q x → ⊥) → SomeOf P xs → AllByRecursion Q xs → ⊥
some_not P Q [] h s a = absurd s
some_not P Q (x ∷ xs) h s a = elim s [ inl p ↦ h x p a.0 | inr r ↦ some_not P Q xs h r a.1 ]

pub none_of : {A : Type 0} (P Q : A → Type 0) (xs : List A) → ((x : A) → ¬ (P x) → Q x) → ¬ (SomeOf P xs) → AllByRecursion Q xs
none_of P Q [] h n = tt
none_of P Q (x ∷ xs) h n = (h x (λ p. n (inl p)), none_of P Q xs h (λ r. n (inr r)))

-- ---- boxes
pub met_by : (b : Bounds) (e : Edge) (p : Point) → IsInBounds b p → DoBoxesMeet e.a e.b b.lo b.hi → does_meet b e ≡ true
met_by b e p h = boxes_meet b e (omega (arith, ints, h.right_of_least, h.left_of_greatest)) (omega (arith, ints, h.above_least, h.below_greatest))

pub boxed : (b : Bounds) (shape : Shape) → IsShapeIn b shape → AreInBox b.lo b.hi (corners_of_triangle shape.t)
boxed b shape h = record {
  right_of_least = (h.a.right_of_least, (h.b.right_of_least, (h.c.right_of_least, tt)));
  left_of_greatest = (h.a.left_of_greatest, (h.b.left_of_greatest, (h.c.left_of_greatest, tt)));
  above_least = (h.a.above_least, (h.b.above_least, (h.c.above_least, tt)));
  below_greatest = (h.a.below_greatest, (h.b.below_greatest, (h.c.below_greatest, tt)));
}

-- ---- from near lines to all
to_all : (R : Line → ℕ → Type 0) (b : Bounds) (points : List Point) (front : List Triple) (n : ℕ) → HasSome R (lines_near b points front) n → HasSome R (map (drawn points) front) n
to_all R b points [] n h = absurd h
to_all R b points (line ∷ front) n h = (elim (is_close b points line) as (λ (k : Bool). HasSome R (map (drawn points) (cond k (line ∷ filter (is_close b points) front) (filter (is_close b points) front))) n → HasSome R (map (drawn points) (line ∷ front)) n) [
  | true ↦ λ g. elim g [ inl r ↦ inl r | inr r ↦ inr (to_all R b points front n r) ]
  | false ↦ λ g. inr (to_all R b points front n g)
]) h

-- each line for which R holds is near
abbrev pub AreClose : (Line → ℕ → Type 0) → Bounds → List Point → List Triple → Type 0
AreClose R b points front = AllByRecursion (λ line. (n : ℕ) → R (drawn points line) n → is_close b points line ≡ true) front

to_near : (R : Line → ℕ → Type 0) (b : Bounds) (points : List Point) (front : List Triple) (n : ℕ) → AreClose R b points front → HasSome R (map (drawn points) front) n → HasSome R (lines_near b points front) n
to_near R b points [] n c h = absurd h
to_near R b points (line ∷ front) n c h = (elim (is_close b points line) as (λ (k : Bool). is_close b points line ≡ k → HasSome R (map (drawn points) (cond k (line ∷ filter (is_close b points) front) (filter (is_close b points) front))) n) [
  | true ↦ λ e. elim h [ inl r ↦ inl r | inr r ↦ inr (to_near R b points front n c.1 r) ]
  | false ↦ λ e. elim h [ inl r ↦ clash (sym e) (c.0 n r) | inr r ↦ to_near R b points front n c.1 r ]
]) refl
  where
    clash : {A : Type 0} {k : Bool} → false ≡ k → k ≡ true → A
    clash e f = absurd (cc)

least_all : (R : Line → ℕ → Type 0) (b : Bounds) (points : List Point) (front : List Triple) (o : Option ℕ) → AreClose R b points front → IsLeastOrNone (HasSome R (lines_near b points front)) o → IsLeastOrNone (HasSome R (map (drawn points) front)) o
least_all R b points front None c h = λ n k. h n (to_near R b points front n c k)
least_all R b points front (Some m) c h = record { holds = to_all R b points front m h.holds; least = λ n k. h.least n (to_near R b points front n c k) }

-- ---- what hinders is near
-- R is a way to hinder: a line for which it holds is not clear of the element
abbrev pub Hinders : (Line → ℕ → Type 0) → List Point → Type 0
Hinders R cs = (line : Line) (n : ℕ) → R line n → ¬ (IsClearOf cs (edge line.a line.b))

close_each : (R : Line → ℕ → Type 0) (b : Bounds) (p : Point) (points cs : List Point) (front : List Triple) → Hinders R cs → IsStrictlyConvex cs → AreInBox b.lo b.hi cs → IsInBounds b p → AllByRecursion IsEdge (front_edges points front) → AreClose R b points front
close_each R b p points cs [] w v h i e = tt
close_each R b p points cs (line ∷ front) w v h i e =
    (λ n r. met_by b (pair_edge points (line.1, line.2)) p i (hinders_near b.lo b.hi cs (pair_edge points (line.1, line.2)) v h e.0 (w (drawn points line) n r)), close_each R b p points cs front w v h i e.1)

pub met_hinders : (cs : List Point) → Hinders (IsLine (IsMet cs)) cs
met_hinders cs line n r = λ c. r.0 c.apart

pub on_side_hinders : (cs : List Point) → Hinders (IsEnd (IsOnSide cs)) cs
on_side_hinders cs line n r = λ c. elim r [
  | inl k ↦ some_not (λ s. IsOnOpen line.a s.a s.b) (λ s. ¬ (IsOnOpen line.a s.a s.b) × ¬ (IsOnOpen line.b s.a s.b)) (sides cs) (λ s o no. no.0 o) k.0 c.ends_off_sides
  | inr k ↦ some_not (λ s. IsOnOpen line.b s.a s.b) (λ s. ¬ (IsOnOpen line.a s.a s.b) × ¬ (IsOnOpen line.b s.a s.b)) (sides cs) (λ s o no. no.1 o) k.0 c.ends_off_sides
]

pub corner_on_hinders : (cs : List Point) → Hinders (IsLine (IsCornerOn cs)) cs
corner_on_hinders cs line n r = λ c. some_not (λ p. IsOnOpen p line.a line.b) (λ p. ¬ (IsOnOpen p line.a line.b)) cs (λ p o no. no o) r.0 c.corners_off_line

pub backwards_hinders : (cs : List Point) → Hinders (IsLine (IsBackwards cs)) cs
backwards_hinders cs line n r = λ c. some_not (λ s. edge line.a line.b ≡ back s) (λ s. ¬ (edge line.a line.b ≡ back s)) (sides cs) (λ s o no. no o) r.0 c.not_backwards

-- the least numbers in the view are those of the state
pub record AreLeastAll (st : State) (cs : List Point) (h : Hindrances) : Type 0 where
  pub met : IsLeastOrNone (MeetsLine st cs) h.met
  pub on_side : IsLeastOrNone (HasPointOnSide st cs) h.on_side
  pub corner_on : IsLeastOrNone (HasCornerOnLine st cs) h.corner_on
  pub backwards : IsLeastOrNone (HasSideBackwards st cs) h.backwards
  pub side : (n : ℕ) → h.side ≡ Some n → HasSome (IsLine (IsSideOf cs)) (lines_at st) n

pub least_in_state : (f : FrontState) (b : Bounds) (st : State) (view : View) (shape : Shape) (h : Hindrances) → IsViewOf f b st view → IsShapeIn b shape → IsStrictlyConvex (corners_of_triangle shape.t) →
    AreLeast (corners_of_triangle shape.t) (λ R. HasSome R view.lines.items) h → AreLeastAll st (corners_of_triangle shape.t) h
least_in_state f b st view shape h v i t a = subst (λ (ls : List Line). AreLeast cs (λ R. HasSome R ls) h → AreLeastAll st cs h) (sym v.lines) (λ k. record {
  met = every (IsLine (IsMet cs)) h.met (met_hinders cs) k.met;
  on_side = every (IsEnd (IsOnSide cs)) h.on_side (on_side_hinders cs) k.on_side;
  corner_on = every (IsLine (IsCornerOn cs)) h.corner_on (corner_on_hinders cs) k.corner_on;
  backwards = every (IsLine (IsBackwards cs)) h.backwards (backwards_hinders cs) k.backwards;
  side = λ n e. to_all (IsLine (IsSideOf cs)) b st.points st.front n (held h.side n e k.side);
}) a
  where
    cs : List Point
    cs = corners_of_triangle shape.t

    every : (R : Line → ℕ → Type 0) (o : Option ℕ) → Hinders R cs → IsLeastOrNone (HasSome R (lines_near b st.points st.front)) o → IsLeastOrNone (HasSome R (lines_at st)) o
    every R o w l = least_all R b st.points st.front o (close_each R b shape.t.a st.points cs st.front w t (boxed b shape i) i.a v.region.edges) l

    held : (o : Option ℕ) (n : ℕ) → o ≡ Some n → IsLeastOrNone (HasSome (IsLine (IsSideOf cs)) (lines_near b st.points st.front)) o → HasSome (IsLine (IsSideOf cs)) (lines_near b st.points st.front) n
    held o n e l = (subst (λ (o : Option ℕ). IsLeastOrNone (HasSome (IsLine (IsSideOf cs)) (lines_near b st.points st.front)) o) e l).holds
