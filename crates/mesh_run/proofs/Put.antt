-- An application put on a front, point by point and element by element: each point is at a new place when it is listed, each element may be glued when it is.
use Rattle.std.proofs.Common.{◌≡◌, ℕ, ◌+◌, ◌<◌, List, [], ◌∷◌, ◌++◌, length, take, drop, slice_index_or, sym, ap, ◌∙◌, subst, None, arith, length-append}
use Rattle.std.specs.List.{AllByRecursion, IsDistinct}
use Rattle.std.proofs.lemmas.List.{append-nil, take-append-drop, drop_more, take_more, get_or-append-add}
use Rattle.std.proofs.lemmas.List.Elements.{All-from_recursion, All-get_or}
use Rattle.std.proofs.Math.Seq.{take-append-add}
use Rattle.grid_geom.specs.declared.Point.{Point}
use Rattle.grid_geom.specs.Closed.{same_point}
use Rattle.state_law.specs.State.{State, IsListed, glued}
use Rattle.front_chain.specs.Front.{FrontState, IsGluable, number_of, state_of}
use Rattle.front_chain.proofs.Places.{fresh_number}
use Rattle.admission.specs.Admission.{entered, MayFollow, HasGlued}
use Rattle.admission.proofs.Answered.{gluable, leads_on}

-- the k-th new point is at no listed place when those before it are listed
pub new_place : (points made : List Point) (k : ℕ) (d : Point) → IsDistinct same_point (points ++ made) → k < length made → number_of (points ++ take k made) (slice_index_or made k d) ≡ None
new_place points made k d h l =
    let count = length-append points made in let within : length points + k < length (points ++ made) = omega arith in
    (λ i. number_of (sym (take-append-add points made k) i) (sym (get_or-append-add points made k d) i)) ∙ fresh_number (length points + k) (points ++ made) d h within

-- where no point is listed, the front is as it was
entered_none : (f : FrontState) → entered f [] ≡ state_of f
entered_none f = λ i. record { points = append-nil f.points i; front = f.lines; next = f.next; elements = [] }

-- ---- the elements one after another
-- the list from its k-th item on
parted : {A : Type 0} (xs : List A) (k : ℕ) (d : A) → k < length xs → xs ≡ take k xs ++ slice_index_or xs k d ∷ drop (k + 1) xs
parted xs k d l = sym (take-append-drop k xs) ∙ ap (λ ys. take k xs ++ ys) (drop_more xs k d l)

-- what is true while elements are glued to the front f: those before number k are
pub record AreGluedTo (f : FrontState) (elements : List (List ℕ)) (k : ℕ) (g : FrontState) : Type 0 where
  pub few : k < length elements
  pub glued : HasGlued f [] (take k elements) g

module _ (f : FrontState) (elements : List (List ℕ)) (k : ℕ) (g : FrontState) (so_far : AreGluedTo f elements k g) where
  pub next_gluable : (ns : List ℕ) → ns ≡ slice_index_or elements k ns → AllByRecursion (λ ns. length ns ≡ 3) elements → AllByRecursion (λ ns. AllByRecursion (IsListed (length f.points)) ns) elements → MayFollow (state_of f) elements → IsGluable g ns
  next_gluable ns e three listed may =
      let there = ap (λ (ms : List ℕ). take k elements ++ ms ∷ drop (k + 1) elements) e in
      let all : elements ≡ take k elements ++ ns ∷ drop (k + 1) elements = parted elements k ns so_far.few ∙ sym there in
      let same : g.points ≡ f.points = so_far.glued.points ∙ append-nil f.points in
      gluable f g [] (take k elements) (drop (k + 1) elements) ns
      (subst (MayFollow (entered f [])) all (subst (λ (st : State). MayFollow st elements) (sym (entered_none f)) may)) so_far.glued
      (subst (λ (ms : List ℕ). length ms ≡ 3) (sym e) (All-get_or (λ (ms : List ℕ). length ms ≡ 3) elements k ns so_far.few (All-from_recursion (λ (ms : List ℕ). length ms ≡ 3) elements three)))
      (subst (λ (ps : List Point). AllByRecursion (IsListed (length ps)) ns) (sym same)
      (subst (AllByRecursion (IsListed (length f.points))) (sym e) (All-get_or (AllByRecursion (IsListed (length f.points))) elements k ns so_far.few (All-from_recursion (AllByRecursion (IsListed (length f.points))) elements listed))))

  pub one_more_glued : (next : FrontState) (ns : List ℕ) → ns ≡ slice_index_or elements k ns → next.points ≡ g.points → next.lines ≡ (glued (state_of g) ns).front → next.next ≡ (glued (state_of g) ns).next → HasGlued f [] (take (k + 1) elements) next
  one_more_glued next ns e points lines number =
      let there = ap (λ (ms : List ℕ). take k elements ++ ms ∷ []) e in
      subst (λ (els : List (List ℕ)). HasGlued f [] els next) (there ∙ sym (take_more elements k ns so_far.few)) (leads_on f g next [] (take k elements) ns so_far.glued points lines number)
