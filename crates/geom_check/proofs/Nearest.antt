-- The nearest riser that passes a strip to the right of another, by the keys of the risers.
use Rattle.std.proofs.Common.{◌≡◌, ℕ, ◌+◌, ◌*◌, ◌/◌, ◌<◌, ◌≤◌, false, Option, Some, None, IfSome, MatchOption, List, length, slice_index_or, sym, ◌∙◌, ap, subst, arith, inl, inr}
use lib.IntN.{ℤ, pos, ◌+ℤ◌}
use lib.Signed.{◌≤ℤ◌, le_z}
use Rattle.std.proofs.lemmas.Int.{ints}
use Rattle.std.proofs.lemmas.Bool.{cases_lt}
use Rattle.std.proofs.lemmas.List.{get_or_default}
use Rattle.grid_geom.specs.Winding.{and}
use Rattle.geom_check.specs.declared.risers.Riser.{Riser}
use Rattle.geom_check.specs.declared.risers.Passing.{Passing}
use Rattle.geom_check.specs.Risers.{passes}
use Rattle.geom_check.specs.RiserOrder.{IsPassing, IsKey}
use Rattle.geom_check.specs.Gaps.{HasEnd, IsGapEnd}
use Rattle.geom_check.specs.declared.limits.TheConstants.{PARTS}

-- a riser has one key
pub key_same : (y : ℤ) (r : Riser) (k l : ℕ) → IsKey y r k → IsKey y r l → k ≡ l
key_same y r k l a b = same a.over_is a.under_is b.over_is b.under_is k l (number _ _ (a.same_over ∙ sym b.same_over)) (number _ _ (a.same_under ∙ sym b.same_under)) a.key_is b.key_is
  where
    number : (m n : ℕ) → pos m ≡ pos n → m ≡ n
    number m n e = omega (arith, ints)

    same : (m n o p k l : ℕ) → m ≡ o → n ≡ p → k ≡ m * PARTS / n → l ≡ o * PARTS / p → k ≡ l
    same m n o p k l e f g h = g ∙ ap (λ (x : ℕ). x * PARTS / n) e ∙ ap (λ (x : ℕ). o * PARTS / x) f ∙ sym h

-- a riser that the test refuses doesn't pass
pub no_passing : (low high : ℤ) (r : Riser) → passes low high r ≡ false → IsPassing low high r → ⊥
no_passing low high r e p = neither r.a.y low high r.b.y p.from_low p.to_high e
  where
    neither : (m n o p : ℤ) → m ≤ℤ n → o ≤ℤ p → and (le_z m n) (le_z o p) ≡ false → ⊥
    neither m n o p h j e = grind (arith, ints)

pub end_none : (low high : ℤ) (rs : List Riser) (left : Passing) → IsGapEnd low high rs 0 left None
end_none low high rs left = record { to_right = tt; nearest = λ i d key h. absurd (omega arith) }

-- one more riser, which leaves the nearest as it is
pub end_kept : (low high : ℤ) (rs : List Riser) (i : ℕ) (d : Riser) (left : Passing) (end : Option Passing) → i < length rs → IsGapEnd low high rs i left end →
    ((key : ℕ) → IsPassing low high (slice_index_or rs i d) → IsKey (low +ℤ high) (slice_index_or rs i d) key → left.key < key → MatchOption end ⊥ (λ right. right.key ≤ key)) → IsGapEnd low high rs (i + 1) left end
end_kept low high rs i d left end h e here = record {
  to_right = e.to_right;
  nearest = λ j c key k p o l. elim (cases_lt j i) [
    | inl b ↦ e.nearest j c key b p o l
    | inr b ↦ let f : slice_index_or rs j c ≡ slice_index_or rs i d = ap (λ (n : ℕ). slice_index_or rs n c) (same j i k b) ∙ get_or_default rs i c d h in
        here key (subst (λ (r : Riser). IsPassing low high r) f p) (subst (λ (r : Riser). IsKey (low +ℤ high) r key) f o) l
  ];
}
  where
    same : (j i : ℕ) → j < i + 1 → i ≤ j → j ≡ i
    same j i h k = omega arith

-- one more riser, which is nearer
pub end_new : (low high : ℤ) (rs : List Riser) (i : ℕ) (d : Riser) (left p : Passing) (end : Option Passing) → i < length rs → IsGapEnd low high rs i left end → p.riser ≡ slice_index_or rs i d → IsPassing low high (slice_index_or rs i d) →
    IsKey (low +ℤ high) (slice_index_or rs i d) p.key → left.key < p.key → IfSome end (λ n. p.key ≤ n.key) → IsGapEnd low high rs (i + 1) left (Some p)
end_new low high rs i d left p end h e r w k g near = record {
  to_right = record {
    among = (i, h, get_or_default rs i p.riser d h ∙ sym r);
    passing = subst (λ (x : Riser). IsPassing low high x) (sym r) w;
    key_is = subst (λ (x : Riser). IsKey (low +ℤ high) x p.key) (sym r) k;
    greater = g;
  };
  nearest = λ j c key m u o l. elim (cases_lt j i) [
    | inl b ↦ nearer end p.key key near (e.nearest j c key b u o l)
    | inr b ↦ let f : slice_index_or rs j c ≡ slice_index_or rs i d = ap (λ (n : ℕ). slice_index_or rs n c) (same j i m b) ∙ get_or_default rs i c d h in
        at_most p.key key (key_same (low +ℤ high) (slice_index_or rs i d) p.key key k (subst (λ (x : Riser). IsKey (low +ℤ high) x key) f o))
  ];
}
  where
    same : (j i : ℕ) → j < i + 1 → i ≤ j → j ≡ i
    same j i h k = omega arith

    at_most : (m n : ℕ) → m ≡ n → m ≤ n
    at_most m n e = omega arith

    nearer : (end : Option Passing) (m key : ℕ) → IfSome end (λ n. m ≤ n.key) → MatchOption end ⊥ (λ right. right.key ≤ key) → m ≤ key
    nearer None m key f g = absurd g
    nearer (Some n) m key f g = omega (arith, f, g)

-- where a riser passes the strip further right, there is a nearest one
pub has_nearest : (low high : ℤ) (rs : List Riser) (left : Passing) → HasEnd low high rs left → IsGapEnd low high rs (length rs) left None → ⊥
has_nearest low high rs left h e = e.nearest h.among.0 h.end h.key h.among.1 (subst (λ (r : Riser). IsPassing low high r) (sym h.among.2) h.passing) (subst (λ (r : Riser). IsKey (low +ℤ high) r h.key) (sym h.among.2) h.key_is) h.greater
