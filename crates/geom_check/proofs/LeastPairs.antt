-- Two loops over pairs find the least pair.
use Rattle.std.proofs.Common.{◌≡◌, ℕ, ◌+◌, ◌<◌, ◌≤◌, Bool, true, false, ◌&&◌, List, length, slice_index_or, inl, inr, sym, ◌∙◌, ap, refl, subst, arith}
use Rattle.std.proofs.lemmas.Bool.{cases_lt, cases_order}
use Rattle.std.proofs.lemmas.Bool.Decides.{Decides-int_eq}
use Rattle.std.proofs.lemmas.List.{get_or_default}
use Rattle.std.specs.Ordering.{int_eq}
use lib.IntN.{ℤ}
use Rattle.grid_geom.specs.declared.Point.{Point}
use Rattle.grid_geom.specs.declared.Edge.{Edge}
use Rattle.geom_check.specs.Accepted.{AreTogether, AreTangled, DoEdgesTangle}
use Rattle.geom_check.specs.Refused.{IsLeastPair, IsFirstPartner}

-- the first partner of i, where there is none before j
pub first_partner : (P : ℕ → ℕ → Type 0) (i j : ℕ) → P i j → ((m : ℕ) → m < j → ¬ (P i m)) → IsFirstPartner P i j
first_partner P i j h none = record { holds = h; least = λ l p. elim (cases_lt l j) [ inl k ↦ absurd (none l k p) | inr k ↦ k ] }

-- the least pair, where there is none with a smaller first number
pub least_pair : (P : ℕ → ℕ → Type 0) (i j : ℕ) → IsFirstPartner P i j → ((k m : ℕ) → k < i → ¬ (P k m)) → IsLeastPair P (i + 1) (j + 1)
least_pair P i j h none = record {
  first = i;
  second = j;
  first_number = refl;
  second_number = refl;
  holds = h.holds;
  least = λ k l p. elim (cases_order i k) [
    | inl e ↦ inr (e, h.least l (subst (λ (n : ℕ). P n l) (sym e) p))
    | inr r ↦ elim r [ inl n ↦ inl n | inr n ↦ absurd (none k l n p) ]
  ];
}

-- one more first number without a partner
pub no_pair : (P : ℕ → ℕ → Type 0) (i : ℕ) → ((m : ℕ) → ¬ (P i m)) → ((k m : ℕ) → k < i → ¬ (P k m)) → (k m : ℕ) → k < i + 1 → ¬ (P k m)
no_pair P i here none k m h p = elim (cases_lt k i) [
  | inl n ↦ none k m n p
  | inr n ↦ let e : k ≡ i = omega arith in here m (subst (λ (z : ℕ). P z m) e p)
]

-- one more number that is no partner
pub no_partner : (P : ℕ → ℕ → Type 0) (i j : ℕ) → ¬ (P i j) → ((m : ℕ) → m < j → ¬ (P i m)) → (m : ℕ) → m < j + 1 → ¬ (P i m)
no_partner P i j here none m h p = elim (cases_lt m j) [
  | inl n ↦ none m n p
  | inr n ↦ let e : m ≡ j = omega arith in here (subst (λ (z : ℕ). P i z) e p)
]

both_first : (a b : Bool) → (a && b) ≡ true → a ≡ true
both_first true b e = refl
both_first false b e = cc

both_second : (a b : Bool) → (a && b) ≡ true → b ≡ true
both_second true b e = e
both_second false b e = cc

both_true : (a b : Bool) → a ≡ true → b ≡ true → (a && b) ≡ true
both_true a b e f = cc

pub same_parts : (p q : Point) → p.x ≡ q.x → p.y ≡ q.y → p ≡ q
same_parts p q e f = ap (λ (z : ℤ). record { x = z; y = p.y }) e ∙ ap (λ (z : ℤ). record { x = q.x; y = z }) f

pub equal_points : (p q : Point) → (int_eq p.x q.x && int_eq p.y q.y) ≡ true → p ≡ q
equal_points p q e = same_parts p q ((Decides-int_eq p.x q.x).0 (both_first (int_eq p.x q.x) (int_eq p.y q.y) e)) ((Decides-int_eq p.y q.y).0 (both_second (int_eq p.x q.x) (int_eq p.y q.y) e))

pub points_equal : (p q : Point) → p ≡ q → (int_eq p.x q.x && int_eq p.y q.y) ≡ true
points_equal p q e = both_true (int_eq p.x q.x) (int_eq p.y q.y) ((Decides-int_eq p.x q.x).1 (ap (λ (z : Point). z.x) e)) ((Decides-int_eq p.y q.y).1 (ap (λ (z : Point). z.y) e))

-- two points of a list that are equal by the code's test
pub together_by : (points : List Point) (i j : ℕ) (d : Point) (b : Bool) → i + 1 ≤ j → j < length points → b ≡ true →
    b ≡ (int_eq (slice_index_or points j d).x (slice_index_or points i d).x && int_eq (slice_index_or points j d).y (slice_index_or points i d).y) → AreTogether points i j
together_by points i j d b h k e f = record {
  ordered = omega arith;
  in_list = k;
  together = λ c. get_or_default points i c d (omega arith) ∙ sym (equal_points (slice_index_or points j d) (slice_index_or points i d) (sym f ∙ e)) ∙ get_or_default points j d c k;
}

pub apart_by : (points : List Point) (i j : ℕ) (d : Point) (b : Bool) → b ≡ false →
    b ≡ (int_eq (slice_index_or points j d).x (slice_index_or points i d).x && int_eq (slice_index_or points j d).y (slice_index_or points i d).y) → ¬ (AreTogether points i j)
apart_by points i j d b e f t = let g = points_equal (slice_index_or points j d) (slice_index_or points i d) (sym (t.together d)) in cc

-- edges j and i tangle, by the code's test
pub tangled_by : (edges : List Edge) (i j : ℕ) (d e : Edge) → i + 1 ≤ j → j < length edges → DoEdgesTangle (slice_index_or edges i d) (slice_index_or edges j e) → AreTangled edges i j
tangled_by edges i j d e h k t = record {
  ordered = omega arith;
  in_list = k;
  tangled = λ f. subst (λ (z : Edge). DoEdgesTangle z (slice_index_or edges j f)) (get_or_default edges i d f (omega arith)) (subst (λ (z : Edge). DoEdgesTangle (slice_index_or edges i d) z) (get_or_default edges j e f k) t);
}
