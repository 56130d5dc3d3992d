-- Gluing keeps a front free of a relation, where the element's sides are free of it, and each front line is the side or stands in the relation to no side.
-- The relation is one that does not tell an edge from its reverse. Stands on Lists.
use mathlib.Core.Path.{◌≡◌, refl, sym, ◌∙◌, subst}
use mathlib.Core.Bool.{Bool, true, false}
use mathlib.Core.List.{List, [], ◌∷◌}
use mathlib.Core.Logic.{◌⊎◌, inl, inr}
use lib.Dec.{T}
use Rattle.std.specs.List.{AllByRecursion}
use Rattle.grid_geom.specs.declared.Edge.{Edge}
use Rattle.wind_law.specs.Chains.{back, same_edge}
use Rattle.wind_law.proofs.ClosedSums.{edge_test}
use Rattle.state_law.specs.Free.{AreFreeOf, IsIn}
use Rattle.state_law.specs.Gluing.{glue_side, glue_sides}
use Rattle.state_law.proofs.Lists.{all_map}

-- an edge is the side, or does not stand in the relation to it
abbrev pub Fits : (Edge → Edge → Type 0) → Edge → Edge → Type 0
Fits R s e = (e ≡ s) ⊎ ¬ (R e s)

-- the relation does not tell an edge from its reverse
pub record IsTwoWay (R : Edge → Edge → Type 0) : Type 0 where
  pub later : (e s : Edge) → R e (back s) → R e s
  pub earlier : (s t : Edge) → R (back s) t → R s t

clash : {A : Type 0} → true ≡ false → A
clash e = absurd (subst (λ (b : Bool). T b) e tt)

same_true : (e s : Edge) → e ≡ s → same_edge e s ≡ true
same_true e s h = subst (λ (z : Edge). same_edge e z ≡ true) h (edge_test.reflexive e)

-- equal or not
pub alike_or_not : (e s : Edge) → (e ≡ s) ⊎ ¬ (e ≡ s)
alike_or_not e s = (elim (same_edge e s) as (λ (b : Bool). same_edge e s ≡ b → (e ≡ s) ⊎ ¬ (e ≡ s)) [
  | true ↦ λ h. inl (edge_test.sound e s h)
  | false ↦ λ h. inr (λ i. clash (sym (same_true e s i) ∙ h))
]) refl

-- ---- one side
pub all_glue_side : (P : Edge → Type 0) (es : List Edge) (s : Edge) → AllByRecursion P es → P (back s) → AllByRecursion P (glue_side es s)
all_glue_side P [] s h p = (p, tt)
all_glue_side P (e ∷ es) s h p = elim (same_edge e s) as (λ (b : Bool). AllByRecursion P (elim b [ true ↦ es | false ↦ e ∷ glue_side es s ])) [
  | true ↦ h.1
  | false ↦ (h.0, all_glue_side P es s h.1 p)
]

pub unglued_side : (P : Edge → Type 0) (es : List Edge) (s : Edge) → AllByRecursion P (glue_side es s) → P s → AllByRecursion P es
unglued_side P [] s h p = tt
unglued_side P (e ∷ es) s h p = (elim (same_edge e s) as (λ (b : Bool). same_edge e s ≡ b → AllByRecursion P (elim b [ true ↦ es | false ↦ e ∷ glue_side es s ]) → AllByRecursion P (e ∷ es)) [
  | true ↦ λ i j. (subst P (sym (edge_test.sound e s i)) p, j)
  | false ↦ λ i j. (j.0, unglued_side P es s j.1 p)
]) refl h

free_side : (R : Edge → Edge → Type 0) → IsTwoWay R → (es : List Edge) (s : Edge) → AreFreeOf R es → AllByRecursion (Fits R s) es → AreFreeOf R (glue_side es s)
free_side R t [] s h f = (tt, tt)
free_side R t (e ∷ es) s h f = (elim (same_edge e s) as (λ (b : Bool). same_edge e s ≡ b → AreFreeOf R (elim b [ true ↦ es | false ↦ e ∷ glue_side es s ])) [
  | true ↦ λ i. h.1
  | false ↦ λ i. (all_glue_side (λ f. ¬ (R e f)) es s h.0 (λ r. apart i f.0 (t.later e s r)), free_side R t es s h.1 f.1)
]) refl
  where
    apart : same_edge e s ≡ false → Fits R s e → R e s → ⊥
    apart i (inl j) r = clash (sym (same_true e s j) ∙ i)
    apart i (inr n) r = n r

-- ---- all sides
pub all_glue_sides : (P : Edge → Type 0) (es ss : List Edge) → AllByRecursion P es → AllByRecursion (λ s. P (back s)) ss → AllByRecursion P (glue_sides es ss)
all_glue_sides P es [] h p = h
all_glue_sides P es (s ∷ ss) h p = all_glue_sides P (glue_side es s) ss (all_glue_side P es s h p.0) p.1

pub unglued_sides : (P : Edge → Type 0) (es ss : List Edge) → AllByRecursion P (glue_sides es ss) → AllByRecursion P ss → AllByRecursion P es
unglued_sides P es [] h p = h
unglued_sides P es (s ∷ ss) h p = unglued_side P es s (unglued_sides P (glue_side es s) ss h p.1) p.0

fits_next : (R : Edge → Edge → Type 0) → IsTwoWay R → (es : List Edge) (s : Edge) (ss : List Edge) → AllByRecursion (λ u. ¬ (R s u)) ss → AllByRecursion (λ u. AllByRecursion (Fits R u) es) ss → AllByRecursion (λ u. AllByRecursion (Fits R u) (glue_side es s)) ss
fits_next R t es s [] h f = tt
fits_next R t es s (u ∷ ss) h f = (all_glue_side (Fits R u) es s f.0 (inr (λ r. h.0 (t.earlier s u r))), fits_next R t es s ss h.1 f.1)

pub free_sides : (R : Edge → Edge → Type 0) → IsTwoWay R → (es ss : List Edge) → AreFreeOf R es → AreFreeOf R ss → AllByRecursion (λ s. AllByRecursion (Fits R s) es) ss → AreFreeOf R (glue_sides es ss)
free_sides R t es [] h i f = h
free_sides R t es (s ∷ ss) h i f = free_sides R t (glue_side es s) ss (free_side R t es s h f.0) i.1 (fits_next R t es s ss i.0 f.1)

-- ---- the others of a free list
pub others_free : (R : Edge → Edge → Type 0) → ((e f : Edge) → R e f → R f e) → (e : Edge) (es : List Edge) → AreFreeOf R es → IsIn e es → AllByRecursion (λ f. (f ≡ e) ⊎ ¬ (R e f)) es
others_free R turn e [] h i = absurd i
others_free R turn e (f ∷ es) h (inl i) = (inl i, all_map (λ g. ¬ (R f g)) (λ g. (g ≡ e) ⊎ ¬ (R e g)) (λ g n. inr (λ r. n (subst (λ (z : Edge). R z g) (sym i) r))) es h.0)
others_free R turn e (f ∷ es) h (inr i) = (inr (λ r. at_one es h.0 i (turn e f r)), others_free R turn e es h.1 i)
  where
    at_one : (gs : List Edge) → AllByRecursion (λ g. ¬ (R f g)) gs → IsIn e gs → R f e → ⊥
    at_one [] n i r = i
    at_one (g ∷ gs) n (inl j) r = n.0 (subst (λ (z : Edge). R f z) (sym j) r)
    at_one (g ∷ gs) n (inr j) r = at_one gs n.1 j r
