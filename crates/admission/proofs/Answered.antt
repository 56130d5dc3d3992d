-- A refusal is true, and admitted elements may be glued in order.
use Prim.Native.Nat.{ℕ, ◌+◌, ◌≤◌}
use lib.IntN.{ℤ}
use lib.Signed.{◌<ℤ◌, ◌≤ℤ◌}
use lib.ListN.{length}
use mathlib.Core.Path.{◌≡◌, refl, sym, ap, ◌∙◌, subst}
use mathlib.Core.List.{List, [], ◌∷◌, ◌++◌, map}
use mathlib.Core.Logic.{inl, inr}
use native.Mathlib.Omega.{arith}
use Rattle.std.proofs.lemmas.Int.{ints}
use Rattle.std.specs.List.{AllByRecursion}
use Rattle.grid_geom.specs.declared.Point.{Point}
use Rattle.grid_geom.specs.Polygon.{sides}
use Rattle.grid_geom.specs.Area.{shoelace}
use Rattle.state_law.specs.Gluing.{IsClearOf, MayBeGlued}
use Rattle.state_law.specs.State.{State, front_edges, corners_of, number_sides, glue_lines, next_after_all, glued}
use Rattle.front_chain.specs.Front.{FrontState, IsGluable, state_of}
use Rattle.admission.specs.declared.triangle.Line.{Line}
use Rattle.admission.specs.declared.refusal.GlueRefusal.{GlueRefusal}
use Rattle.admission.specs.declared.refusal.GlueRefusal.TheVariants.{Turned, Met, PointOnSide, CornerOnLine, Backwards, Outside, Area, Memory}
use Rattle.admission.specs.Triangles.{IsMet, IsOnSide, IsCornerOn, IsBackwards, IsLine, IsEnd, HasSome}
use Rattle.admission.specs.Around.{AreListed, drawn}
use Rattle.admission.specs.Admission.{entered, edges_at, glued_on, MayJoin, MayFollow, SaysWhy, IsRefusal, HasGlued}
use Rattle.admission.proofs.Transfer.{Hinders, met_hinders, on_side_hinders, corner_on_hinders, backwards_hinders}
use Rattle.admission.proofs.Order.{same_points}

-- ---- refusals
-- where all lines are clear, none hinders
hindered : (R : Line → ℕ → Type 0) (cs points : List Point) (front : List (ℕ × ℕ × ℕ)) (n : ℕ) → Hinders R cs → AllByRecursion (IsClearOf cs) (front_edges points front) → HasSome R (map (drawn points) front) n → ⊥
hindered R cs points [] n w c h = absurd h
hindered R cs points (line ∷ front) n w c h = elim h [ inl r ↦ w (drawn points line) n r c.0 | inr r ↦ hindered R cs points front n w c.1 r ]

too_large : (a b left : ℤ) → left ≡ a → left <ℤ b → b ≤ℤ a → ⊥
too_large a b left e l h = omega (arith, ints, e, l, h)

pub why_not : (st : State) (cs : List Point) (k : ℕ) (r : GlueRefusal) → SaysWhy st cs k r → MayBeGlued cs (edges_at st) → ⊥
why_not st cs k (Turned element) h m = h.1 m.turned
why_not st cs k (Met element line) h m = hindered (IsLine (IsMet cs)) cs st.points st.front line (met_hinders cs) m.clear h.2.holds
why_not st cs k (PointOnSide element point) h m = hindered (IsEnd (IsOnSide cs)) cs st.points st.front point (on_side_hinders cs) m.clear h.2.holds
why_not st cs k (CornerOnLine element line) h m = hindered (IsLine (IsCornerOn cs)) cs st.points st.front line (corner_on_hinders cs) m.clear h.2.holds
why_not st cs k (Backwards element line) h m = hindered (IsLine (IsBackwards cs)) cs st.points st.front line (backwards_hinders cs) m.clear h.2.holds
why_not st cs k (Outside element winding) h m = h.3 (h.2 ∙ m.within)
why_not st cs k (Area element left) h m = too_large (shoelace (edges_at st)) (shoelace (sides cs)) left h.2 h.3 m.covered
why_not st cs k Memory h m = h

pub refusal_true : (st : State) (elements : List (List ℕ)) (k : ℕ) (r : GlueRefusal) → IsRefusal st elements k r → ¬ (MayFollow st elements)
refusal_true st [] k r h = λ m. h
refusal_true st (ns ∷ elements) k r h = λ m. elim h [ inl s ↦ why_not st (corners_of st.points ns) k r s m.0 | inr s ↦ refusal_true (glued st ns) elements (k + 1) r s.1 m.1 ]

-- ---- in order
joins_after : (st : State) (before after : List (List ℕ)) (ns : List ℕ) → MayFollow st (before ++ ns ∷ after) → MayJoin (glued_on st before) ns
joins_after st [] after ns m = m.0
joins_after st (ms ∷ before) after ns m = joins_after (glued st ms) before after ns m.1

glued_last : (st : State) (before : List (List ℕ)) (ns : List ℕ) → glued_on st (before ++ ns ∷ []) ≡ glued (glued_on st before) ns
glued_last st [] ns = refl
glued_last st (ms ∷ before) ns = glued_last (glued st ms) before ns

at_most_four : (n : ℕ) → n ≡ 3 → n ≤ 4
at_most_four n e = omega (arith, e)

pub gluable : (f g : FrontState) (made : List Point) (before after : List (List ℕ)) (ns : List ℕ) → MayFollow (entered f made) (before ++ ns ∷ after) → HasGlued f made before g → length ns ≡ 3 → AreListed (length g.points) ns → IsGluable g ns
gluable f g made before after ns m h e l = record {
  few = at_most_four (length ns) e;
  listed = l;
  may = subst (λ (ps : List Point). MayBeGlued (corners_of ps ns) (front_edges ps g.lines)) (same_points (entered f made) before ∙ sym h.points)
      (subst (λ (ls : List (ℕ × ℕ × ℕ)). MayBeGlued (corners_of (glued_on (entered f made) before).points ns) (front_edges (glued_on (entered f made) before).points ls)) (sym h.lines) (joins_after (entered f made) before after ns m));
}

pub leads_on : (f g next : FrontState) (made : List Point) (before : List (List ℕ)) (ns : List ℕ) → HasGlued f made before g → next.points ≡ g.points → next.lines ≡ (glued (state_of g) ns).front → next.next ≡ (glued (state_of g) ns).next → HasGlued f made (before ++ ns ∷ []) next
leads_on f g next made before ns h p e n = record {
  points = p ∙ h.points;
  lines = e ∙ ap (λ (ls : List (ℕ × ℕ × ℕ)). glue_lines ls g.next (number_sides ns)) h.lines ∙ ap (λ (k : ℕ). glue_lines (glued_on (entered f made) before).front k (number_sides ns)) h.next ∙ sym (ap (λ (st : State). st.front) (glued_last (entered f made) before ns));
  next = n ∙ ap (λ (ls : List (ℕ × ℕ × ℕ)). next_after_all ls g.next (number_sides ns)) h.lines ∙ ap (λ (k : ℕ). next_after_all (glued_on (entered f made) before).front k (number_sides ns)) h.next ∙ sym (ap (λ (st : State). st.next) (glued_last (entered f made) before ns));
}
