-- A file whose coordinates fit at the coarsest shift has a shift, and one alone.
use Rattle.std.proofs.Common.{◌≡◌, ℕ, zero, suc, ◌+◌, ◌<◌, ◌≤◌, List, [], ◌∷◌, All, ◌⊎◌, inl, inr, sym, subst, arith, ℤ}
use lib.IntN.{ℤ, pos, ◌-ℤ◌}
use lib.Signed.{◌<ℤ◌, ◌≤ℤ◌}
use Rattle.std.proofs.lemmas.Int.{ints}
use Rattle.std.proofs.lemmas.Bool.{cases_lt}
use Rattle.std.proofs.lemmas.List.Elements.{All-nil, All-cons, All-head, All-tail}
use Rattle.word_scan.specs.declared.decimals.Dec.{Dec}
use Rattle.in2d_reader.specs.declared.geometry.PointRow.{PointRow}
use Rattle.grid_geom.proofs.Signs.{ordered}
use Rattle.geom_check.specs.Shift.{magnitude_at, FitsAt, FitsRow, IsShift}
use Rattle.geom_check.specs.declared.limits.TheConstants.{COARSEST, FINEST, MOST_UNITS}

fits_or_not : (shift : ℤ) (v : Dec) → FitsAt shift v ⊎ (MOST_UNITS < magnitude_at shift v)
fits_or_not shift v = elim (cases_lt MOST_UNITS (magnitude_at shift v)) [ inl n ↦ inr n | inr n ↦ inl n ]

row_fits_or_not : (shift : ℤ) (row : PointRow) → FitsRow shift row ⊎ (¬ (FitsRow shift row))
row_fits_or_not shift row = elim (fits_or_not shift row.x) [
  | inl x ↦ elim (fits_or_not shift row.y) [ inl y ↦ inl (record { x = x; y = y }) | inr n ↦ inr (λ f. let h : magnitude_at shift row.y ≤ MOST_UNITS = f.y in absurd (omega arith)) ]
  | inr n ↦ inr (λ f. let h : magnitude_at shift row.x ≤ MOST_UNITS = f.x in absurd (omega arith))
]

rows_fit_or_not : (shift : ℤ) (rows : List PointRow) → All (FitsRow shift) rows ⊎ (¬ (All (FitsRow shift) rows))
rows_fit_or_not shift [] = inl (All-nil (FitsRow shift))
rows_fit_or_not shift (row ∷ rows) = elim (row_fits_or_not shift row) [
  | inl f ↦ elim (rows_fit_or_not shift rows) [ inl fs ↦ inl (All-cons (FitsRow shift) row rows f fs) | inr n ↦ inr (λ fs. n (All-tail (FitsRow shift) row rows fs)) ]
  | inr n ↦ inr (λ fs. n (All-head (FitsRow shift) row rows fs))
]

-- none of the shifts above the one so many below 8 fits
abbrev NoFiner : List PointRow → ℕ → Type 0
NoFiner rows down = (d : ℤ) → (FINEST -ℤ pos down) <ℤ d → d ≤ℤ FINEST → ¬ (All (FitsRow d) rows)

one_coarser : (rows : List PointRow) (down : ℕ) → NoFiner rows down → ¬ (All (FitsRow (FINEST -ℤ pos down)) rows) → NoFiner rows (down + 1)
one_coarser rows down finer here d h j all = elim (ordered (FINEST -ℤ pos down) d) [
  | inl n ↦ finer d n j all
  | inr r ↦ elim r [
    | inl n ↦ here (subst (λ (z : ℤ). All (FitsRow z) rows) (sym n) all)
    | inr n ↦ absurd (omega (arith, ints))
  ]
]

shift_from : (rows : List PointRow) (left down : ℕ) → left + down ≡ 14 → All (FitsRow COARSEST) rows → NoFiner rows down → (shift : ℤ) × IsShift shift rows
shift_from rows zero down e coarsest finer = (
  COARSEST,
  record {
    least = omega (arith, ints);
    greatest = omega (arith, ints);
    fits = coarsest;
    no_greater = λ d h j. finer d (omega (arith, ints)) j;
  },
)
shift_from rows (suc left) down e coarsest finer = here (shift_from rows left (down + 1) (omega arith) coarsest) (rows_fit_or_not (FINEST -ℤ pos down) rows)
  where
    here : (NoFiner rows (down + 1) → (shift : ℤ) × IsShift shift rows) → All (FitsRow (FINEST -ℤ pos down)) rows ⊎ (¬ (All (FitsRow (FINEST -ℤ pos down)) rows)) → (shift : ℤ) × IsShift shift rows
    here later (inl fits) = (FINEST -ℤ pos down, record { least = omega (arith, ints); greatest = omega (arith, ints); fits = fits; no_greater = finer })
    here later (inr not) = later (one_coarser rows down finer not)

pub some_shift : (rows : List PointRow) → All (FitsRow COARSEST) rows → (shift : ℤ) × IsShift shift rows
some_shift rows h = shift_from rows 14 0 (omega arith) h (λ d j k. absurd (omega (arith, ints)))

-- a file has one shift
pub one_shift : (d e : ℤ) (rows : List PointRow) → IsShift d rows → IsShift e rows → d ≡ e
one_shift d e rows h j = elim (ordered d e) [
  | inl n ↦ absurd (h.no_greater e n j.greatest j.fits)
  | inr r ↦ elim r [ inl n ↦ n | inr n ↦ absurd (j.no_greater d n h.greatest h.fits) ]
]
