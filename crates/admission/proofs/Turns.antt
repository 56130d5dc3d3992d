-- One turn of the loop over the elements: what the verdict on one says of all.
use Prim.Native.Nat.{ℕ, zero, suc, ◌+◌, ◌<◌, ◌^◌}
use lib.IntN.{ℤ}
use lib.Signed.{◌≤ℤ◌}
use lib.ListN.{length, take, get_or}
use mathlib.Core.Path.{◌≡◌, refl, sym, ap, ◌∙◌, subst}
use mathlib.Core.Bool.{true, false}
use mathlib.Core.List.{List, [], ◌∷◌, map}
use native.Mathlib.Omega.{arith}
use Rattle.std.specs.Prelude.{Option, Some, None, is_some}
use Rattle.std.specs.List.{All}
use Rattle.std.proofs.lemmas.List.Elements.{All-get_or}
use Rattle.grid_geom.specs.declared.Point.{Point}
use Rattle.grid_geom.specs.declared.Bounds.{Bounds}
use Rattle.grid_geom.specs.Polygon.{sides}
use Rattle.grid_geom.specs.Area.{shoelace}
use Rattle.state_law.specs.Gluing.{MayBeGlued}
use Rattle.state_law.specs.State.{State}
use Rattle.front_chain.specs.Front.{FrontState}
use Rattle.admission.specs.declared.refusal.GlueRefusal.{GlueRefusal}
use Rattle.admission.specs.declared.shapes.Shape.{Shape}
use Rattle.admission.specs.declared.view.View.{View}
use Rattle.admission.specs.Triangles.{corners_of_triangle, IsTriangleOnGrid}
use Rattle.admission.specs.Around.{IsShapeOf, IsShapeIn, AreListed, shape_at}
use Rattle.admission.specs.Admission.{edges_at, glued_on, MayJoin, MayFollow, SaysWhy}
use Rattle.admission.specs.Kept.{IsViewOf, IsViewAfter, IsVerdict, IsWhole}
use Rattle.admission.proofs.Views.{shape_is, view_on, view_room}
use Rattle.admission.proofs.Order.{glued_more, may_more, refused_at, same_points}

-- what the loop knows of the elements: their shapes, in the box and on the grid
pub record AreShapes (points : List Point) (box : Bounds) (els : List (List ℕ)) (shapes : List Shape) : Type 0 where
  pub shapes_are : shapes ≡ map (shape_at points) els
  pub three : All (λ ns. length ns ≡ 3) els
  pub listed : All (AreListed (length points)) els
  pub on_grid : All (λ s. IsTriangleOnGrid s.t) shapes
  pub boxed : All (IsShapeIn box) shapes

mapped_at : (f : List ℕ → Shape) (els : List (List ℕ)) (i : ℕ) (d : Shape) (e : List ℕ) → i < length els → get_or (map f els) i d ≡ f (get_or els i e)
mapped_at f [] i d e h = absurd (omega (arith, h))
mapped_at f (x ∷ els) zero d e h = refl
mapped_at f (x ∷ els) (suc i) d e h = mapped_at f els i d e (omega (arith, h))

mapped_length : (f : List ℕ → Shape) (els : List (List ℕ)) → length (map f els) ≡ length els
mapped_length f [] = refl
mapped_length f (x ∷ els) = ap suc (mapped_length f els)

pub as_many : (points : List Point) (box : Bounds) (els : List (List ℕ)) (shapes : List Shape) → AreShapes points box els shapes → length shapes ≡ length els
as_many points box els shapes a = ap length a.shapes_are ∙ mapped_length (shape_at points) els

-- the element of a turn, and its shape
abbrev pub element_at : List (List ℕ) → ℕ → List ℕ
element_at els i = get_or els i []

shape_of_turn : (points : List Point) (box : Bounds) (els : List (List ℕ)) (shapes : List Shape) (i : ℕ) (d : Shape) → AreShapes points box els shapes → i < length els → IsShapeOf points (element_at els i) (get_or shapes i d)
shape_of_turn points box els shapes i d a h = subst (IsShapeOf points (element_at els i)) (sym same)
    (shape_is points (element_at els i) (All-get_or (λ ns. length ns ≡ 3) els i [] h a.three) (subst (λ (s : Shape). IsTriangleOnGrid s.t) same (All-get_or (λ s. IsTriangleOnGrid s.t) shapes i d (subst (λ (n : ℕ). i < n) (sym (as_many points box els shapes a)) h) a.on_grid)))
  where
    same : get_or shapes i d ≡ shape_at points (element_at els i)
    same = ap (λ (ss : List Shape). get_or ss i d) a.shapes_are ∙ mapped_at (shape_at points) els i d [] h

boxed_turn : (points : List Point) (box : Bounds) (els : List (List ℕ)) (shapes : List Shape) (i : ℕ) (d : Shape) → AreShapes points box els shapes → i < length els → IsShapeIn box (get_or shapes i d)
boxed_turn points box els shapes i d a h = All-get_or (IsShapeIn box) shapes i d (subst (λ (n : ℕ). i < n) (sym (as_many points box els shapes a)) h) a.boxed

-- ---- the state of a turn
abbrev pub turn_state : State → List (List ℕ) → ℕ → State
turn_state st els i = glued_on st (take i els)

points_of_turn : (st : State) (els : List (List ℕ)) (i : ℕ) → (turn_state st els i).points ≡ st.points
points_of_turn st els i = same_points st (take i els)

shape_in_state : (st : State) (els : List (List ℕ)) (i : ℕ) (s : Shape) → IsShapeOf st.points (element_at els i) s → IsShapeOf (turn_state st els i).points (element_at els i) s
shape_in_state st els i s h = subst (λ (ps : List Point). IsShapeOf ps (element_at els i) s) (sym (points_of_turn st els i)) h

joins_at : (st : State) (els : List (List ℕ)) (i : ℕ) (s : Shape) → IsShapeOf st.points (element_at els i) s → MayBeGlued (corners_of_triangle s.t) (edges_at (turn_state st els i)) → MayJoin (turn_state st els i) (element_at els i)
joins_at st els i s h m = subst (λ (cs : List Point). MayBeGlued cs (edges_at (turn_state st els i))) (sym (shape_in_state st els i s h).places) m

-- ---- the verdicts
whole_at : (st : State) (els : List (List ℕ)) (i : ℕ) (s : Shape) (found : Option GlueRefusal) → i < length els → IsShapeOf st.points (element_at els i) s → MayFollow st (take i els) → IsVerdict (turn_state st els i) (corners_of_triangle s.t) (i + 1) found → is_some found ≡ true → IsWhole st els found
whole_at st els i s None h p m v e = absurd (cc)
whole_at st els i s (Some r) h p m v e = refused_at st els i [] r h m (subst (λ (cs : List Point). SaysWhy (turn_state st els i) cs (i + 1) r) (sym (shape_in_state st els i s p).places) v)

none_found : (st : State) (cs : List Point) (k : ℕ) (found : Option GlueRefusal) → IsVerdict st cs k found → is_some found ≡ false → MayBeGlued cs (edges_at st)
none_found st cs k None v e = v
none_found st cs k (Some r) v e = absurd (cc)

may_after : (st : State) (els : List (List ℕ)) (i : ℕ) (s : Shape) → i < length els → IsShapeOf st.points (element_at els i) s → MayFollow st (take i els) → MayBeGlued (corners_of_triangle s.t) (edges_at (turn_state st els i)) → MayFollow st (take (i + 1) els)
may_after st els i s h p m j = may_more st els i [] h m (joins_at st els i s p j)

view_after : (f : FrontState) (box : Bounds) (st : State) (els : List (List ℕ)) (shapes : List Shape) (i : ℕ) (s : Shape) (old new : View) → i < length els → AreShapes st.points box els shapes → IsShapeOf st.points (element_at els i) s → IsShapeIn box s →
    IsViewOf f box (turn_state st els i) old → MayBeGlued (corners_of_triangle s.t) (edges_at (turn_state st els i)) → IsViewAfter old s new → IsViewOf f box (turn_state st els (i + 1)) new
view_after f box st els shapes i s old new h a p b v m c = subst (λ (t : State). IsViewOf f box t new) (sym (glued_more st els i [] h))
    (view_on f box (turn_state st els i) old new s (element_at els i) v (shape_in_state st els i s p) b (subst (λ (ps : List Point). AreListed (length ps) (element_at els i)) (sym (points_of_turn st els i)) (All-get_or (AreListed (length st.points)) els i [] h a.listed)) m c)

-- ---- a turn as the loop has it
-- the turn at i takes the element with this shape, before which the view is that of the state
pub record IsTurn (f : FrontState) (st : State) (els : List (List ℕ)) (shapes : List Shape) (i : ℕ) (s : Shape) (view : View) : Type 0 where
  pub within : i < length els
  pub shapes_kept : AreShapes st.points view.near els shapes
  pub kept : IsViewOf f view.near (turn_state st els i) view
  pub may : MayFollow st (take i els)
  pub shape : IsShapeOf st.points (element_at els i) s
  pub boxed : IsShapeIn view.near s

module _ (f : FrontState) (st : State) (els : List (List ℕ)) (shapes : List Shape) (i : ℕ) (s : Shape) (view : View) where
  pub turn : i < length els → AreShapes st.points view.near els shapes → IsViewOf f view.near (turn_state st els i) view → MayFollow st (take i els) → s ≡ get_or shapes i s → IsTurn f st els shapes i s view
  turn l a v m e = record {
    within = l;
    shapes_kept = a;
    kept = v;
    may = m;
    shape = subst (IsShapeOf st.points (element_at els i)) (sym e) (shape_of_turn st.points view.near els shapes i s a l);
    boxed = subst (IsShapeIn view.near) (sym e) (boxed_turn st.points view.near els shapes i s a l);
  }

  -- what `verdict` ensures
  abbrev IsAnswer : Option GlueRefusal → Type 0
  IsAnswer found = (now : State) (box : Bounds) → IsViewOf f box now view → IsShapeIn box s → IsVerdict now (corners_of_triangle s.t) (i + 1) found

  pub turn_refused : (found : Option GlueRefusal) → IsTurn f st els shapes i s view → IsAnswer found → is_some found ≡ true → IsWhole st els found
  turn_refused found t h e = whole_at st els i s found t.within t.shape t.may (h (turn_state st els i) view.near t.kept t.boxed) e

  pub turn_may : (found : Option GlueRefusal) → IsTurn f st els shapes i s view → IsAnswer found → is_some found ≡ false → MayBeGlued (corners_of_triangle s.t) (edges_at (turn_state st els i))
  turn_may found t h e = none_found (turn_state st els i) (corners_of_triangle s.t) (i + 1) found (h (turn_state st els i) view.near t.kept t.boxed) e

  pub turn_room : IsTurn f st els shapes i s view → MayBeGlued (corners_of_triangle s.t) (edges_at (turn_state st els i)) → view.next + 3 < 2 ^ 64
  turn_room t m = view_room f view.near (turn_state st els i) view (corners_of_triangle s.t) t.kept m

  pub turn_covered : IsTurn f st els shapes i s view → MayBeGlued (corners_of_triangle s.t) (edges_at (turn_state st els i)) → shoelace (sides (corners_of_triangle s.t)) ≤ℤ view.left
  turn_covered t m = subst (λ (z : ℤ). shoelace (sides (corners_of_triangle s.t)) ≤ℤ z) (sym t.kept.left) m.covered

  -- the next turn's view and elements
  pub turn_shapes : (new : View) → IsTurn f st els shapes i s view → IsViewAfter view s new → AreShapes st.points new.near els shapes
  turn_shapes new t c = subst (λ (near : Bounds). AreShapes st.points near els shapes) (sym c.near) t.shapes_kept

  pub turn_kept : (new : View) → IsTurn f st els shapes i s view → MayBeGlued (corners_of_triangle s.t) (edges_at (turn_state st els i)) → IsViewAfter view s new → IsViewOf f new.near (turn_state st els (i + 1)) new
  turn_kept new t m c = subst (λ (near : Bounds). IsViewOf f near (turn_state st els (i + 1)) new) (sym c.near) (view_after f view.near st els shapes i s view new t.within t.shapes_kept t.shape t.boxed t.kept m c)

  pub turn_follows : IsTurn f st els shapes i s view → MayBeGlued (corners_of_triangle s.t) (edges_at (turn_state st els i)) → MayFollow st (take (i + 1) els)
  turn_follows t m = may_after st els i s t.within t.shape t.may m
