-- Rows of a file, one after another: the first with a number, the first that does not fit.
use Rattle.std.proofs.Common.{◌≡◌, ℕ, suc, ◌+◌, ◌<◌, ◌==◌, Bool, ◌∷◌, Option, Some, None, IfSome, IsSome, All, List, length, drop, slice_index_or, cond, ℤ, pos, arith, sym, ◌∙◌, ap, subst, inl, inr}
use lib.IntN.{◌-ℤ◌}
use lib.Signed.{◌<ℤ◌, ◌≤ℤ◌}
use Rattle.std.proofs.Math.Seq.{drop-cons}
use Rattle.std.proofs.lemmas.Int.{ints}
use Rattle.std.specs.Ordering.{nat_cmp}
use Rattle.std.specs.BTreeMap as tree
use Rattle.std.specs.List.{position_from}
use Rattle.in2d_reader.specs.declared.geometry.PointRow.{PointRow}
use Rattle.grid_geom.proofs.Signs.{ordered}
use Rattle.geom_check.specs.Shift.{FitsRow}
use Rattle.geom_check.specs.Refused.{IsFirstFailing}
use Rattle.geom_check.specs.declared.limits.TheConstants.{FINEST}

some_row : PointRow
some_row = record { number = 0; x = record { digits = pos 0; scale = pos 0 }; y = record { digits = pos 0; scale = pos 0 }; maxh = None }

same_number : (m n : ℕ) → tree.is_at (nat_cmp m) n ≡ (m == n)
same_number m n = grind arith

-- the first row of a number among the rows from k on, from that among the rows after k
pub earlier_row : (rows : List PointRow) (k i v : ℕ) (d : PointRow) (number : ℕ) (old new : Option ℕ) → i ≡ k + 1 → v ≡ k + 1 → k < length rows → old ≡ position_from (λ row. row.number == number) (i + 1) (drop i rows) →
    new ≡ cond (tree.is_at (nat_cmp (slice_index_or rows k d).number) number) (Some v) old → new ≡ position_from (λ row. row.number == number) (k + 1) (drop k rows)
earlier_row rows k i v d number old new e f h o n =
    let test : PointRow → Bool = λ row. row.number == number in
    let x : PointRow = slice_index_or rows k d in
    let a : drop k rows ≡ x ∷ drop (suc k) rows = drop-cons rows k d h in
    let b : position_from test (k + 1) (drop k rows) ≡ cond (x.number == number) (Some (k + 1)) (position_from test (k + 1 + 1) (drop (suc k) rows)) = ap (position_from test (k + 1)) a in
    let s : tree.is_at (nat_cmp x.number) number ≡ (x.number == number) = same_number x.number number in
    let g : suc k ≡ i = omega arith in
    cc

-- a shift at which some row doesn't fit is not that of all rows
not_all : (shift : ℤ) (rows : List PointRow) (i : ℕ) → IsFirstFailing (FitsRow shift) rows i → All (FitsRow shift) rows → ⊥
not_all shift rows i f all = f.fails some_row (all f.index some_row f.in_list)

pub finer_fails : (rows : List PointRow) (down : ℕ) (shift : ℤ) (r : Option ℕ) → shift ≡ FINEST -ℤ pos down → ((d : ℤ) → (FINEST -ℤ pos down) <ℤ d → d ≤ℤ FINEST → ¬ (All (FitsRow d) rows)) →
    IfSome r (λ i. IsFirstFailing (FitsRow shift) rows i) → IsSome r → (d : ℤ) → (FINEST -ℤ pos (down + 1)) <ℤ d → d ≤ℤ FINEST → ¬ (All (FitsRow d) rows)
finer_fails rows down shift (Some i) e finer f s d h j all = elim (ordered shift d) [
  | inl n ↦ finer d (omega (arith, ints)) j all
  | inr r ↦ elim r [
    | inl n ↦ not_all shift rows i f (subst (λ (z : ℤ). All (FitsRow z) rows) (sym n) all)
    | inr n ↦ absurd (omega (arith, ints))
  ]
]
finer_fails rows down shift None e finer f s d h j all = cc

-- a look-up of a known number finds it
pub known : (r s t u : Option ℕ) → r ≡ s → s ≡ t → t ≡ u → IsSome u → IsSome r
known r s t u e f g h = subst (λ (o : Option ℕ). IsSome o) (sym (e ∙ f ∙ g)) h
