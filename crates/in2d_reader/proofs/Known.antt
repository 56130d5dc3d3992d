-- The numbers of the points that are known.
use Rattle.std.proofs.Common.{◌≡◌, ℕ, Bool, true, false, eqb, ltb, ◌||◌, List, [], ◌∷◌, ◌++◌, inl, inr, refl, sym, ap, subst, ◌∙◌}
use Rattle.std.proofs.lemmas.Bool.{cases_eq, cases_Bool, eq-eqb, ne_eqb, or_right}
use Rattle.std.specs.Ordering.{nat_cmp}
use Rattle.std.specs.BTreeMap.{is_at}
use Rattle.std.specs.BTreeSet.{BTreeSet, contains, Updates}
use Rattle.in2d_reader.specs.declared.geometry.PointRow.{PointRow}
use Rattle.in2d_reader.specs.Grammar.{is_known}

or_assoc : (a b c : Bool) → (a || (b || c)) ≡ (a || b || c)
or_assoc true b c = refl
or_assoc false b c = refl

or_false : (a : Bool) → (a || false) ≡ a
or_false true = refl
or_false false = refl

pub known_push : (n : ℕ) (rows : List PointRow) (row : PointRow) → is_known n (rows ++ row ∷ []) ≡ (is_known n rows || eqb n row.number)
known_push n [] row = or_false (eqb n row.number)
known_push n (first ∷ rows) row = ap (λ (b : Bool). eqb n first.number || b) (known_push n rows row) ∙ or_assoc (eqb n first.number) (is_known n rows) (eqb n row.number)

other_key : (k n : ℕ) → (k ≡ n → ⊥) → is_at (nat_cmp k) n ≡ false
other_key k n ne = elim (cases_Bool (ltb k n)) [ inl e ↦ rw e refl | inr e ↦ rw (e, ne_eqb k n ne) refl ]

pub knows_more : (old new : BTreeSet ℕ) (rows : List PointRow) (row : PointRow) → ((n : ℕ) → contains nat_cmp old n ≡ is_known n rows) → Updates nat_cmp old new row.number true → (n : ℕ) → contains nat_cmp new n ≡ is_known n (rows ++ row ∷ [])
knows_more old new rows row knows updates n = rw (known_push n rows row, ← knows n) (elim (cases_eq n row.number) [
  | inl e ↦ subst (λ (m : ℕ). contains nat_cmp new m ≡ true) (sym e) updates.1 ∙ sym (or_right (contains nat_cmp old n) (eqb n row.number) (eq-eqb n row.number e))
  | inr ne ↦ updates.2 n (other_key row.number n (λ e. ne (sym e))) ∙ sym (ap (λ (b : Bool). contains nat_cmp old n || b) (ne_eqb n row.number ne) ∙ or_false (contains nat_cmp old n))
])
