-- Each new point of a run is a corner of an element of the state in the end: a live rule has no idle point, so the application that makes a point has an element there; and elements stay.
use Rattle.std.proofs.Common.{◌≡◌, ℕ, zero, suc, ◌+◌, ◌-◌, ◌<◌, List, [], ◌∷◌, ◌++◌, map, length, slice_index_or, refl, sym, ap, ◌∙◌, subst, arith, inl, inr, ◌⊎◌, pos}
use Rattle.std.specs.List.{AllByRecursion, Contains}
use Rattle.std.proofs.lemmas.List.{get_or_default, get_or-append-add, length-map, map-append}
use Rattle.std.proofs.lemmas.List.Elements.{recursion_from_All}
use Rattle.grid_geom.specs.declared.Point.{Point}
use Rattle.grid_geom.specs.declared.Edge.{Edge}
use Rattle.state_law.specs.Saved.{IsCorner, IsElementCorner}
use Rattle.state_law.specs.State.{State, corners_of, point_at, IsListed}
use Rattle.state_law.proofs.Lists.{all_map, all_append}
use Rattle.admission.proofs.Order.{same_points}
use Rattle.rule_reader.specs.Normal.{CanPrint, IsRule}
use Rattle.rule_match.specs.declared.application.Application.{Application}
use Rattle.rule_match.specs.Candidate.{Attempt, IsCandidate, IsFrontPoint, elements, made, mapped, mapping}
use Rattle.rule_match.proofs.FoundParts.{point_listed}
use Rattle.rule_match.proofs.NewParts.{as_many}
use Rattle.mesh_run.specs.Reached.{IsReached, elements_at}
use Rattle.mesh_run.specs.Steps.{RunSetting, IsNext, AreNext, applied, state_after, with_points}
use Rattle.mesh_run.proofs.Covered.{may_next, rule_at}
use Rattle.mesh_run.proofs.Numbers.{AreListed, elements_kept}
use Rattle.mesh_run.proofs.Steps.{AreTriangles, named_elements, reached_after}
use Rattle.mesh_run.proofs.Written.{all_elements, all_made, elements_after, elements_on, points_after}

-- ---- a number that some element names has a corner at its place
same_or_not : (m n : ℕ) → (m ≡ n) ⊎ ((m ≡ n) → ⊥)
same_or_not zero zero = inl refl
same_or_not zero (suc n) = inr (λ e. omega (arith, e))
same_or_not (suc m) zero = inr (λ e. omega (arith, e))
same_or_not (suc m) (suc n) = elim (same_or_not m n) [ inl e ↦ inl (ap suc e) | inr f ↦ inr (λ e. f (omega (arith, e))) ]

corner_or_not : (ps : List Point) (n : ℕ) (ns : List ℕ) → IsCorner (point_at ps n) (corners_of ps ns) ⊎ ¬ Contains ns n
corner_or_not ps n [] = inr (λ c. omega (arith, c.1))
corner_or_not ps n (m ∷ ns) = elim (same_or_not m n) [
  | inl e ↦ inl (inl (ap (point_at ps) e))
  | inr f ↦ elim (corner_or_not ps n ns) [ inl c ↦ inl (inr c) | inr none ↦ inr (λ c. neither f none c.0 c.1 c.2) ]
]
  where
    neither : ((m ≡ n) → ⊥) → ¬ Contains ns n → (k : ℕ) → k < length (m ∷ ns) → slice_index_or (m ∷ ns) k n ≡ n → ⊥
    neither f none zero within e = f e
    neither f none (suc k) within e = none (k, omega (arith, within), e)

element_or_none : (ps : List Point) (n : ℕ) (els : List (List ℕ)) → IsElementCorner (point_at ps n) (map (corners_of ps) els) ⊎ AllByRecursion (λ corners. ¬ Contains corners n) els
element_or_none ps n [] = inr tt
element_or_none ps n (ns ∷ els) = elim (corner_or_not ps n ns) [
  | inl c ↦ inl (inl c)
  | inr none ↦ elim (element_or_none ps n els) [ inl c ↦ inl (inr c) | inr all ↦ inr (none, all) ]
]

-- ---- elements more
corner_first : (p : Point) (xs ys : List (List Point)) → IsElementCorner p xs → IsElementCorner p (xs ++ ys)
corner_first p [] ys c = absurd c
corner_first p (x ∷ xs) ys (inl c) = inl c
corner_first p (x ∷ xs) ys (inr c) = inr (corner_first p xs ys c)

pub corner_second : (p : Point) (xs ys : List (List Point)) → IsElementCorner p ys → IsElementCorner p (xs ++ ys)
corner_second p [] ys c = c
corner_second p (x ∷ xs) ys c = inr (corner_second p xs ys c)

-- ---- the points that a candidate makes
made_used : (st : State) (t : Attempt) → IsCandidate st t → AllByRecursion (λ p. IsElementCorner p (elements st t)) (made st t)
made_used st t c = recursion_from_All (λ p. IsElementCorner p (elements st t)) (made st t) (λ k d within. here k d within (element_or_none (mapped st t ++ made st t) (length t.text.points + (k + 1)) t.text.elements))
  where
    place : (k : ℕ) (d : Point) → k < length (made st t) → point_at (mapped st t ++ made st t) (length t.text.points + (k + 1)) ≡ slice_index_or (made st t) k d
    place k d within =
        let count : length (mapped st t) ≡ length t.text.points = length-map t.points (point_at st.points) ∙ c.counted in
        let back : length t.text.points + (k + 1) - 1 ≡ length (mapped st t) + k = omega (arith, count) in
        ap (λ (i : ℕ). slice_index_or (mapped st t ++ made st t) i (record { x = pos 0; y = pos 0 })) back
        ∙ get_or-append-add (mapped st t) (made st t) k (record { x = pos 0; y = pos 0 }) ∙ get_or_default (made st t) k (record { x = pos 0; y = pos 0 }) d within

    here : (k : ℕ) (d : Point) → k < length (made st t) → IsElementCorner (point_at (mapped st t ++ made st t) (length t.text.points + (k + 1))) (elements st t) ⊎ AllByRecursion (λ corners. ¬ Contains corners (length t.text.points + (k + 1))) t.text.elements
        → IsElementCorner (slice_index_or (made st t) k d) (elements st t)
    here k d within (inl corner) = subst (λ p. IsElementCorner p (elements st t)) (place k d within) corner
    here k d within (inr idle) = absurd (c.live.none_idle (record {
      point = k + 1;
      first = omega arith;
      last = omega (arith, within, as_many (mapping st t) 1 t.text.new_points);
      idle = idle;
    }))

-- ---- one application after another
-- the elements of the next application by places are those of its candidate, in the state after it
next_used : (b : List Edge) (s : RunSetting) (st : State) (a : Application) → IsReached b st → CanPrint s.rules → IsNext s st a → AllByRecursion (λ p. IsElementCorner p (map (corners_of (st.points ++ a.made)) a.elements)) a.made
next_used b s st a r can n =
    let t = n.best.attempt in let c = n.best.least.candidate in
    let rule : IsRule t.text = rule_at s.rules _ t.text can n.best.least.of.is_rule in
    let listed : AreListed st.points t.points = all_map (IsFrontPoint st) (IsListed (length st.points)) (λ n. point_listed st n r.numbered.lines_listed) t.points c.on_front in
    let count : length t.text.points + length t.text.new_points ≡ length t.points + length (made st t) = λ i. sym c.counted i + sym (as_many (mapping st t) 1 t.text.new_points) i in
    let triangles : AreTriangles (length t.points + length (made st t)) t.text.elements = subst (λ (n : ℕ). AreTriangles n t.text.elements) count rule.elements.1 in
    subst (λ (x : Application). AllByRecursion (λ p. IsElementCorner p (map (corners_of (st.points ++ x.made)) x.elements)) x.made) (sym n.best.gives)
    (subst (λ (places : List (List Point)). AllByRecursion (λ p. IsElementCorner p places) (made st t)) (sym (named_elements st.points (made st t) t.points t.text.elements listed triangles)) (made_used st t c))

pub all_used : (b : List Edge) (s : RunSetting) (st : State) (more : List Application) → IsReached b st → CanPrint s.rules → AreNext s st more → AllByRecursion (λ p. IsElementCorner p (elements_at (state_after st more))) (all_made more)
all_used b s st [] r can n = tt
all_used b s st (a ∷ more) r can n =
    let may = may_next b s st a r can n.0 in let after = applied st a in
    let points : (state_after after more).points ≡ (st.points ++ a.made) ++ all_made more = points_after after more ∙ ap (λ (ps : List Point). ps ++ all_made more) (same_points (with_points st a.made) a.elements) in
    let els : (state_after after more).elements ≡ (st.elements ++ a.elements) ++ all_elements more = elements_after after more ∙ ap (λ (es : List (List ℕ)). es ++ all_elements more) (elements_on (with_points st a.made) a.elements) in
    let last = (st.points ++ a.made) ++ all_made more in
    let mine : (p : Point) → IsElementCorner p (map (corners_of (st.points ++ a.made)) a.elements) → IsElementCorner p (elements_at (state_after after more)) = λ p c.
    subst (IsElementCorner p) (λ i. map (corners_of (sym points i)) (sym els i))
    (subst (IsElementCorner p) (sym (map-append (corners_of last) (st.elements ++ a.elements) (all_elements more)))
    (corner_first p (map (corners_of last) (st.elements ++ a.elements)) (map (corners_of last) (all_elements more))
    (subst (IsElementCorner p) (sym (map-append (corners_of last) st.elements a.elements))
    (corner_second p (map (corners_of last) st.elements) (map (corners_of last) a.elements)
    (subst (IsElementCorner p) (sym (elements_kept (st.points ++ a.made) (all_made more) a.elements may.listed)) c))))) in
    all_append (λ p. IsElementCorner p (elements_at (state_after after more))) a.made (all_made more)
    (all_map (λ p. IsElementCorner p (map (corners_of (st.points ++ a.made)) a.elements)) (λ p. IsElementCorner p (elements_at (state_after after more))) mine a.made (next_used b s st a r can n.0))
    (all_used b s after more (reached_after b st a r may) can n.1)
