-- The levels of edges, gathered, sorted and without doubles; and the levels of risers.
use Rattle.std.proofs.Common.{◌≡◌, ℕ, ◌+◌, ◌<◌, ◌≤◌, List, [], ◌∷◌, ◌++◌, length, slice_index_or, Contains, sym, ◌∙◌, ap, subst, arith, inl, inr}
use lib.IntN.{ℤ, pos, ◌+ℤ◌, ◌-ℤ◌}
use Rattle.std.proofs.lemmas.Int.{ints}
use Rattle.std.proofs.lemmas.Bool.{cases_lt}
use Rattle.std.proofs.lemmas.Grind.{get_or_default_zero}
use Rattle.std.proofs.lemmas.List.{get_or_default}
use Rattle.std.proofs.lemmas.List.Elements.{All-push, Contains-push, Contains-append_left}
use Rattle.std.proofs.lemmas.List.Kept.{Contains-dedup_nat}
use Rattle.std.proofs.lemmas.List.Filters.{All-dedup}
use Rattle.std.proofs.lemmas.List.Sorted.{All-permutation, Contains-permutation}
use Rattle.std.specs.List.{dedup}
use Rattle.std.specs.List.Sorted.{IsPermutation}
use Rattle.std.proofs.Math.Dec.{eqb}
use Rattle.grid_geom.specs.declared.Edge.{Edge}
use Rattle.geom_check.specs.Strips.{IsHeight}
use Rattle.geom_check.specs.RiserOrder.{IsLevelsOf, HasLevel}
use Rattle.geom_check.specs.declared.limits.TheConstants.{WIDTH}
use Rattle.grid_geom.specs.declared.TheConstants.{GRID}

abrupt : (m n : ℕ) (y : ℤ) → pos m ≡ y → pos n ≡ y → m ≡ n
abrupt m n y e f = omega (arith, ints)

height_by : (y : ℤ) (n : ℕ) → pos n ≡ y +ℤ GRID → y ≡ pos n -ℤ GRID
height_by y n e = omega (arith, ints)

-- the levels of one more edge
pub levels_more : (edges : List Edge) (i : ℕ) (d : Edge) (m n : ℕ) (old new : List ℕ) → i < length edges → pos m ≡ (slice_index_or edges i d).a.y +ℤ GRID → pos n ≡ (slice_index_or edges i d).b.y +ℤ GRID → m ≤ WIDTH → n ≤ WIDTH →
    new ≡ (old ++ m ∷ []) ++ n ∷ [] → IsLevelsOf edges i old → IsLevelsOf edges (i + 1) new
levels_more edges i d m n old new h e f sm sn g l = subst (λ (ns : List ℕ). IsLevelsOf edges (i + 1) ns) (sym g) (record {
  starts = λ k c o j z. elim (cases_lt k i) [
    | inl b ↦ Contains-append_left (old ++ m ∷ []) (n ∷ []) o (Contains-append_left old (m ∷ []) o (l.starts k c o b z))
    | inr b ↦ let q : k ≡ i = omega arith in subst (λ (x : ℕ). Contains ((old ++ m ∷ []) ++ n ∷ []) x) (abrupt m o ((slice_index_or edges i d).a.y +ℤ GRID) e (z ∙ ap (λ (x : ℕ). (slice_index_or edges x c).a.y +ℤ GRID) q ∙ ap (λ (x : Edge). x.a.y +ℤ GRID) (get_or_default edges i c d h)))
        (Contains-append_left (old ++ m ∷ []) (n ∷ []) m (Contains-push old m))
  ];
  ends = λ k c o j z. elim (cases_lt k i) [
    | inl b ↦ Contains-append_left (old ++ m ∷ []) (n ∷ []) o (Contains-append_left old (m ∷ []) o (l.ends k c o b z))
    | inr b ↦ let q : k ≡ i = omega arith in subst (λ (x : ℕ). Contains ((old ++ m ∷ []) ++ n ∷ []) x) (abrupt n o ((slice_index_or edges i d).b.y +ℤ GRID) f (z ∙ ap (λ (x : ℕ). (slice_index_or edges x c).b.y +ℤ GRID) q ∙ ap (λ (x : Edge). x.b.y +ℤ GRID) (get_or_default edges i c d h)))
        (Contains-push (old ++ m ∷ []) n)
  ];
  heights = All-push (λ (x : ℕ). IsHeight edges (pos x -ℤ GRID)) (old ++ m ∷ []) n
      (All-push (λ (x : ℕ). IsHeight edges (pos x -ℤ GRID)) old m l.heights (i, slice_index_or edges i d, h, get_or_default edges i (slice_index_or edges i d) d h, inl (height_by (slice_index_or edges i d).a.y m e)))
      (i, slice_index_or edges i d, h, get_or_default edges i (slice_index_or edges i d) d h, inr (height_by (slice_index_or edges i d).b.y n f));
  small = All-push (λ (x : ℕ). x ≤ WIDTH) (old ++ m ∷ []) n (All-push (λ (x : ℕ). x ≤ WIDTH) old m l.small sm) sn;
})

pub levels_none : (edges : List Edge) → IsLevelsOf edges 0 []
levels_none edges = record { starts = λ k d n h e. absurd (omega arith); ends = λ k d n h e. absurd (omega arith); heights = λ k d h. absurd (omega arith); small = λ k d h. absurd (omega arith) }

-- sorted, and without doubles
pub levels_sorted : (edges : List Edge) (count : ℕ) (old new : List ℕ) → IsPermutation old new → IsLevelsOf edges count old → IsLevelsOf edges count new
levels_sorted edges count old new p l = record {
  starts = λ k d n h e. Contains-permutation old new n p (l.starts k d n h e);
  ends = λ k d n h e. Contains-permutation old new n p (l.ends k d n h e);
  heights = All-permutation (λ (x : ℕ). IsHeight edges (pos x -ℤ GRID)) old new p l.heights;
  small = All-permutation (λ (x : ℕ). x ≤ WIDTH) old new p l.small;
}

pub levels_dedup : (edges : List Edge) (count : ℕ) (ns : List ℕ) → IsLevelsOf edges count ns → IsLevelsOf edges count (dedup eqb ns)
levels_dedup edges count ns l = record {
  starts = λ k d n h e. Contains-dedup_nat ns n (l.starts k d n h e);
  ends = λ k d n h e. Contains-dedup_nat ns n (l.ends k d n h e);
  heights = All-dedup eqb (λ (x : ℕ). IsHeight edges (pos x -ℤ GRID)) ns l.heights;
  small = All-dedup eqb (λ (x : ℕ). x ≤ WIDTH) ns l.small;
}

pub has_level : (levels : List ℕ) (y : ℤ) (n : ℕ) → pos n ≡ y +ℤ GRID → Contains levels n → HasLevel levels y
has_level levels y n e c = record { index = c.0; in_list = c.1; level = ap (λ (x : ℕ). pos x) (sym (get_or_default_zero levels c.0 n c.1) ∙ c.2) ∙ e }
