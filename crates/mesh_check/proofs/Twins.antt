-- Among points sorted by place, the least two at one place stand beside each other.
use Rattle.std.proofs.Common.{◌≡◌, ℕ, ◌+◌, ◌-◌, ◌<◌, ◌≤◌, List, length, slice_index_or, Option, Some, None, inl, inr, refl, sym, ◌∙◌, ap, subst, arith}
use lib.IntN.{pos}
use Rattle.std.proofs.lemmas.Int.{ints}
use Rattle.std.proofs.lemmas.Bool.{cases_lt, cases_order}
use Rattle.std.proofs.lemmas.List.{get_or_default}
use Rattle.grid_geom.specs.declared.Point.{Point}
use Rattle.geom_check.specs.Accepted.{AreTogether}
use Rattle.mesh_check.specs.declared.spots.Spot.{Spot}
use Rattle.mesh_check.specs.Spots.{IsLower, spot_place, IsBefore, AreSpots}
use Rattle.mesh_check.specs.Least.{IsLeast, IsLesser}
use Rattle.mesh_check.proofs.LeastPairs.{after_same, after_both, least_same, least_more}

-- ---- the order of places
pub lower_itself : (p : Point) → ¬ (IsLower p p)
lower_itself p (inl h) = omega (arith, ints)
lower_itself p (inr h) = omega (arith, ints, h.1)

pub lower_both : (p q r : Point) → IsLower p q → IsLower q r → IsLower p r
lower_both p q r (inl h) (inl k) = inl (omega (arith, ints))
lower_both p q r (inl h) (inr k) = inl (omega (arith, ints, k.0))
lower_both p q r (inr h) (inl k) = inl (omega (arith, ints, h.0))
lower_both p q r (inr h) (inr k) = inr (omega (arith, ints, h.0, k.0), omega (arith, ints, h.1, k.1))

-- of two spots at one place, the one before has the less position
before_tied : (s t : Spot) → IsBefore s t → spot_place s ≡ spot_place t → s.index < t.index
before_tied s t (inl h) e = absurd (lower_itself (spot_place t) (subst (λ (p : Point). IsLower p (spot_place t)) e h))
before_tied s t (inr h) e = h.1

-- a spot between two at one place is at that place too
between_tied : (s t u : Spot) → IsBefore s t → IsBefore t u → spot_place s ≡ spot_place u → spot_place s ≡ spot_place t
between_tied s t u (inr h) k e = h.0
between_tied s t u (inl h) (inl k) e = absurd (lower_itself (spot_place u) (subst (λ (p : Point). IsLower p (spot_place u)) e (lower_both (spot_place s) (spot_place t) (spot_place u) h k)))
between_tied s t u (inl h) (inr k) e = absurd (lower_itself (spot_place u) (subst (λ (p : Point). IsLower p (spot_place u)) e (subst (λ (p : Point). IsLower (spot_place s) p) k.0 h)))

-- ---- neighbours at one place
-- i and j are the positions of two neighbours at one place, the second before `end`
pub record AreTwins (spots : List Spot) (end i j : ℕ) : Type 0 where
  pub at : ℕ
  pub positive : 1 ≤ at
  pub below : at < end
  pub tied : (d : Spot) → spot_place (slice_index_or spots (at - 1) d) ≡ spot_place (slice_index_or spots at d)
  pub first : (d : Spot) → (slice_index_or spots (at - 1) d).index ≡ i
  pub second : (d : Spot) → (slice_index_or spots at d).index ≡ j

twins_on : (spots : List Spot) (end i j : ℕ) → AreTwins spots end i j → AreTwins spots (end + 1) i j
twins_on spots end i j t = record { at = t.at; positive = t.positive; below = omega (arith, t.below); tied = t.tied; first = t.first; second = t.second }

-- two more that are not at one place
pub no_twins : (spots : List Spot) (at : ℕ) (d e : Spot) (best : Option (ℕ × ℕ)) → 1 ≤ at → at < length spots → ¬ (spot_place (slice_index_or spots (at - 1) d) ≡ spot_place (slice_index_or spots at e)) → IsLeast (AreTwins spots at) best → IsLeast (AreTwins spots (at + 1)) best
no_twins spots at d e best h l n b = least_same (AreTwins spots at) (AreTwins spots (at + 1)) best b (λ i j t. twins_on spots at i j t) (λ i j t. elim (cases_lt t.at at) [
  | inl k ↦ record { at = t.at; positive = t.positive; below = k; tied = t.tied; first = t.first; second = t.second }
  | inr k ↦ let f : t.at ≡ at = omega (arith, t.below) in absurd (n (ap spot_place (get_or_default spots (at - 1) d d (omega arith)) ∙ subst (λ (n : ℕ). spot_place (slice_index_or spots (n - 1) d) ≡ spot_place (slice_index_or spots n d)) f (t.tied d) ∙ ap spot_place (get_or_default spots at d e l)))
])

-- two more that are
pub more_twins : (spots : List Spot) (at : ℕ) (d e : Spot) (best : Option (ℕ × ℕ)) (r : ℕ × ℕ) → 1 ≤ at → at < length spots → spot_place (slice_index_or spots (at - 1) d) ≡ spot_place (slice_index_or spots at e)
    → IsLesser best ((slice_index_or spots (at - 1) d).index, (slice_index_or spots at e).index) r → IsLeast (AreTwins spots at) best → IsLeast (AreTwins spots (at + 1)) (Some r)
more_twins spots at d e best r h l tie lesser b = least_more (AreTwins spots at) (AreTwins spots (at + 1)) best ((slice_index_or spots (at - 1) d).index, (slice_index_or spots at e).index) r b lesser (λ i j t. twins_on spots at i j t)
    (record {
      at = at;
      positive = h;
      below = omega arith;
      tied = λ f. ap spot_place (get_or_default spots (at - 1) f d (omega arith)) ∙ tie ∙ ap spot_place (get_or_default spots at e f l);
      first = λ f. ap (λ (s : Spot). s.index) (get_or_default spots (at - 1) f d (omega arith));
      second = λ f. ap (λ (s : Spot). s.index) (get_or_default spots at f e l);
    })
    (λ i j t. elim (cases_lt t.at at) [
      | inl k ↦ inl (record { at = t.at; positive = t.positive; below = k; tied = t.tied; first = t.first; second = t.second })
      | inr k ↦ let f : t.at ≡ at = omega (arith, t.below) in inr (after_same ((slice_index_or spots (at - 1) d).index, (slice_index_or spots at e).index) i j (subst (λ (n : ℕ). (slice_index_or spots (n - 1) d).index ≡ i) f (t.first d)) (subst (λ (n : ℕ). (slice_index_or spots n e).index ≡ j) f (t.second e)))
    ])

-- ---- all points at one place
twins_together : (points : List Point) (spots : List Spot) (i j : ℕ) (d : Spot) → AreSpots points spots → AreTwins spots (length spots) i j → AreTogether points i j
twins_together points spots i j d a t = record {
  ordered = less (slice_index_or spots (t.at - 1) d).index (slice_index_or spots t.at d).index i j (t.first d) (t.second d) (before_tied (slice_index_or spots (t.at - 1) d) (slice_index_or spots t.at d) (a.ordered (t.at - 1) t.at d (before t.at t.positive) t.below) (t.tied d));
  in_list = below (slice_index_or spots t.at d).index j (length points) (t.second d) (a.each t.at d t.below).in_list;
  together = λ p. ap (λ (n : ℕ). slice_index_or points n p) (sym (t.first d)) ∙ (a.each (t.at - 1) d (before_end t.at (length spots) t.below)).place p ∙ t.tied d ∙ sym ((a.each t.at d t.below).place p) ∙ ap (λ (n : ℕ). slice_index_or points n p) (t.second d);
}
  where
    less : (m n i j : ℕ) → m ≡ i → n ≡ j → m < n → i < j
    less m n i j e f h = omega arith

    below : (n j k : ℕ) → n ≡ j → n < k → j < k
    below n j k e h = omega arith

    before : (n : ℕ) → 1 ≤ n → n - 1 < n
    before n h = omega arith

    before_end : (n k : ℕ) → n < k → n - 1 < k
    before_end n k h = omega arith

-- the neighbour after the first of two at one place
record HasTwin (spots : List Spot) (k l : ℕ) : Type 0 where
  next : ℕ
  twins : AreTwins spots (length spots) k next
  least : next ≤ l

next_twin : (points : List Point) (spots : List Spot) (p q k l : ℕ) (d : Spot) → AreSpots points spots → p < q → q < length spots → (slice_index_or spots p d).index ≡ k → (slice_index_or spots q d).index ≡ l → spot_place (slice_index_or spots p d) ≡ spot_place (slice_index_or spots q d) → HasTwin spots k l
next_twin points spots p q k l d a h j e f tie = record {
  next = (slice_index_or spots (p + 1) d).index;
  twins = record {
    at = p + 1;
    positive = omega arith;
    below = omega arith;
    tied = λ c. subst (λ (n : ℕ). spot_place (slice_index_or spots n c) ≡ spot_place (slice_index_or spots (p + 1) c)) (back p)
        (ap spot_place (get_or_default spots p c d (omega arith)) ∙ here.0 ∙ ap spot_place (get_or_default spots (p + 1) d c (omega arith)));
    first = λ c. subst (λ (n : ℕ). (slice_index_or spots n c).index ≡ k) (back p) (ap (λ (s : Spot). s.index) (get_or_default spots p c d (omega arith)) ∙ e);
    second = λ c. ap (λ (s : Spot). s.index) (get_or_default spots (p + 1) c d (omega arith));
  };
  least = here.1;
}
  where
    back : (p : ℕ) → p ≡ p + 1 - 1
    back p = omega arith

    at_most : (m n l : ℕ) → m ≡ n → n ≡ l → m ≤ l
    at_most m n l e f = omega arith

    less : (m n l : ℕ) → m < n → n ≡ l → m ≤ l
    less m n l h f = omega arith

    here : (spot_place (slice_index_or spots p d) ≡ spot_place (slice_index_or spots (p + 1) d)) × ((slice_index_or spots (p + 1) d).index ≤ l)
    here = elim (cases_lt (p + 1) q) [
      | inl m ↦
          let first : IsBefore (slice_index_or spots p d) (slice_index_or spots (p + 1) d) = a.ordered p (p + 1) d (omega arith) (omega arith) in
          let second : IsBefore (slice_index_or spots (p + 1) d) (slice_index_or spots q d) = a.ordered (p + 1) q d m j in
          let same : spot_place (slice_index_or spots p d) ≡ spot_place (slice_index_or spots (p + 1) d) = between_tied (slice_index_or spots p d) (slice_index_or spots (p + 1) d) (slice_index_or spots q d) first second tie in
          (same, less (slice_index_or spots (p + 1) d).index (slice_index_or spots q d).index l (before_tied (slice_index_or spots (p + 1) d) (slice_index_or spots q d) second (sym same ∙ tie)) f)
      | inr m ↦
          let n : q ≡ p + 1 = omega arith in
          (subst (λ (n : ℕ). spot_place (slice_index_or spots p d) ≡ spot_place (slice_index_or spots n d)) n tie, at_most (slice_index_or spots (p + 1) d).index (slice_index_or spots q d).index l (ap (λ (n : ℕ). (slice_index_or spots n d).index) (sym n)) f)
    ]

together_twin : (points : List Point) (spots : List Spot) (k l : ℕ) → AreSpots points spots → AreTogether points k l → HasTwin spots k l
together_twin points spots k l a t = placed (a.all k (omega (arith, t.ordered, t.in_list))) (a.all l t.in_list)
  where
    some : Point
    some = record { x = pos 0; y = pos 0 }

    placed : ((p : ℕ) × (s : Spot) × (p < length spots) × (slice_index_or spots p s ≡ s) × (s.index ≡ k)) → ((q : ℕ) × (u : Spot) × (q < length spots) × (slice_index_or spots q u ≡ u) × (u.index ≡ l)) → HasTwin spots k l
    placed (p, s, hp, es, ek) (q, u, hq, eu, el) = elim (cases_order p q) [
      | inl e ↦ absurd (apart (ap (λ (n : ℕ). (slice_index_or spots n s).index) e))
      | inr r ↦ elim r [
        | inl h ↦ next_twin points spots p q k l s a h hq first second tie
        | inr h ↦ absurd (turned (slice_index_or spots q s).index (slice_index_or spots p s).index (before_tied (slice_index_or spots q s) (slice_index_or spots p s) (a.ordered q p s h hp) (sym tie)) first second t.ordered)
      ]
    ]
      where
        first : (slice_index_or spots p s).index ≡ k
        first = ap (λ (s : Spot). s.index) es ∙ ek

        second : (slice_index_or spots q s).index ≡ l
        second = ap (λ (s : Spot). s.index) (get_or_default spots q s u hq ∙ eu) ∙ el

        clash : (m n : ℕ) → m ≡ k → n ≡ l → k < l → m ≡ n → ⊥
        clash m n e f h g = omega arith

        apart : (slice_index_or spots p s).index ≡ (slice_index_or spots q s).index → ⊥
        apart e = clash (slice_index_or spots p s).index (slice_index_or spots q s).index first second t.ordered e

        turned : (m n : ℕ) → m < n → n ≡ k → m ≡ l → k < l → ⊥
        turned m n h e f l = omega arith

        tie : spot_place (slice_index_or spots p s) ≡ spot_place (slice_index_or spots q s)
        tie = sym ((a.each p s hp).place some) ∙ ap (λ (n : ℕ). slice_index_or points n some) first ∙ t.together some ∙ ap (λ (n : ℕ). slice_index_or points n some) (sym second) ∙ (a.each q s hq).place some

-- the least of the neighbours is the least of all
pub all_twins : (points : List Point) (spots : List Spot) (end : ℕ) (best : Option (ℕ × ℕ)) (d : Spot) → AreSpots points spots → length spots ≤ end → ((n : ℕ) → 1 ≤ n → n < end → n < length spots) → IsLeast (AreTwins spots end) best → IsLeast (AreTogether points) best
all_twins points spots end None d a h k b = λ i j t. let w = together_twin points spots i j a t in b i w.next (record { at = w.twins.at; positive = w.twins.positive; below = omega (arith, w.twins.below); tied = w.twins.tied; first = w.twins.first; second = w.twins.second })
all_twins points spots end (Some c) d a h k b = (
  twins_together points spots c.0 c.1 d a (record { at = b.0.at; positive = b.0.positive; below = k b.0.at b.0.positive b.0.below; tied = b.0.tied; first = b.0.first; second = b.0.second }),
  λ i j t. let w = together_twin points spots i j a t in after_both c (i, w.next) (i, j) (b.1 i w.next (record { at = w.twins.at; positive = w.twins.positive; below = omega (arith, w.twins.below); tied = w.twins.tied; first = w.twins.first; second = w.twins.second })) (inr (refl, w.least)),
)
