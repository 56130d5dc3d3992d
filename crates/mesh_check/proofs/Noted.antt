-- Points that are noted as corners, corner by corner and element by element; edge rows with no point in them.
use Rattle.std.proofs.Common.{◌≡◌, ◌≢◌, ◌⊎◌, ℕ, ◌+◌, ◌-◌, ◌<◌, ◌≤◌, Bool, true, List, [], length, slice_index_or, set, All, inl, inr, sym, ◌∙◌, subst, arith}
use lib.IntN.{pos}
use Rattle.std.proofs.lemmas.List.{get_or_default, get_or-set_other}
use Rattle.std.specs.List.{Contains}
use Rattle.state_law.specs.State.{IsListed}
use Rattle.vol_format.specs.declared.MeshElement.{MeshElement}
use Rattle.grid_geom.specs.declared.Point.{Point}
use Rattle.grid_geom.specs.declared.Edge.{Edge}
use Rattle.grid_geom.specs.Sides.{IsOnOpen}
use Rattle.digital_tree.specs.declared.Entry.{Entry}
use Rattle.vol_format.specs.declared.EdgeRow.{EdgeRow}
use Rattle.mesh_check.specs.Parts.{row_edge}
use Rattle.mesh_check.specs.Near.{HasEdge, IsFreeOf}
use Rattle.mesh_check.specs.Tight.{IsNamed, IsRowFree}
use Rattle.mesh_check.proofs.Kept.{has_some, has_with}
use Rattle.mesh_check.proofs.OpenSides.{of_one}

-- ---- corner by corner
-- n is one of the first `end` numbers
pub record IsAmong (ns : List ℕ) (end n : ℕ) : Type 0 where
  pub at : ℕ
  pub before : at < end
  pub in_list : at < length ns
  pub is : slice_index_or ns at n ≡ n

-- what is noted now was so before, or is one of the first `end` corners
abbrev pub AreNoted : List Bool → List Bool → List ℕ → ℕ → Type 0
AreNoted old new corners end = (i : ℕ) (d : Bool) → i < length old → slice_index_or new i d ≡ true → (slice_index_or old i d ≡ true) ⊎ IsAmong corners end (i + 1)

same_or_other : (i j : ℕ) → (i ≡ j) ⊎ (i ≢ j)
same_or_other i j = grind arith

pub note_more : (old new : List Bool) (corners : List ℕ) (k d : ℕ) → k < length corners → IsListed (length old) (slice_index_or corners k d) → AreNoted old new corners k → AreNoted old (set new (slice_index_or corners k d - 1) true) corners (k + 1)
note_more old new corners k d h l before i b j t = elim (same_or_other i (slice_index_or corners k d - 1)) [
  | inl e ↦ inr (record { at = k; before = omega arith; in_list = h; is = get_or_default corners k (i + 1) d h ∙ number i (slice_index_or corners k d) e l.0 })
  | inr n ↦ elim (before i b j (sym (get_or-set_other new (slice_index_or corners k d - 1) i true b n) ∙ t)) [
    | inl o ↦ inl o
    | inr a ↦ inr (record { at = a.at; before = omega (arith, a.before); in_list = a.in_list; is = a.is })
  ]
]
  where
    number : (i n : ℕ) → i ≡ n - 1 → 1 ≤ n → n ≡ i + 1
    number i n e h = omega arith

pub all_noted : (corners : List ℕ) (end n : ℕ) → IsAmong corners end n → Contains corners n
all_noted corners end n a = (a.at, a.in_list, a.is)

-- ---- element by element
-- the point at the position i is a corner of one of the first `end` elements
pub record IsNamedBefore (elements : List MeshElement) (end i : ℕ) : Type 0 where
  pub at : ℕ
  pub before : at < end
  pub in_list : at < length elements
  pub names : (d : MeshElement) → Contains (slice_index_or elements at d).corners (i + 1)

abbrev pub AreNamed : List Bool → List MeshElement → ℕ → Type 0
AreNamed noted elements end = (i : ℕ) (d : Bool) → i < length noted → slice_index_or noted i d ≡ true → IsNamedBefore elements end i

pub name_more : (old new : List Bool) (elements : List MeshElement) (k : ℕ) (d : MeshElement) → k < length elements → length new ≡ length old
    → ((i : ℕ) (b : Bool) → i < length old → slice_index_or new i b ≡ true → (slice_index_or old i b ≡ true) ⊎ Contains (slice_index_or elements k d).corners (i + 1)) → AreNamed old elements k → AreNamed new elements (k + 1)
name_more old new elements k d h long noted before i b j t = elim (noted i b (subst (λ (n : ℕ). i < n) long j) t) [
  | inl o ↦ let a = before i b (subst (λ (n : ℕ). i < n) long j) o in record { at = a.at; before = omega (arith, a.before); in_list = a.in_list; names = a.names }
  | inr c ↦ record { at = k; before = omega arith; in_list = h; names = λ e. subst (λ (f : MeshElement). Contains f.corners (i + 1)) (get_or_default elements k d e h) c }
]

pub named_all : (noted : List Bool) (elements : List MeshElement) (end : ℕ) → AreNamed noted elements end → (i : ℕ) → i < length noted → slice_index_or noted i true ≡ true → IsNamed elements i
named_all noted elements end h i l t = found (h i true l t)
  where
    none : MeshElement
    none = record { domain = 0; corners = [] }

    found : IsNamedBefore elements end i → IsNamed elements i
    found a = (a.at, slice_index_or elements a.at none, a.in_list, get_or_default elements a.at (slice_index_or elements a.at none) none a.in_list, a.names none)

-- ---- edge rows
-- where no point is in an open edge of a tree that has all rows, none is in an open edge row
pub rows_free : (points : List Point) (es : List (Entry Edge)) (rows : List EdgeRow) → ((i : ℕ) (d : Point) → i < length points → IsFreeOf es (slice_index_or points i d)) → All (λ row. HasEdge (row_edge points row) es) rows → All (IsRowFree points) rows
rows_free points es rows free all k d l i h = has_some (λ e. (¬ (IsOnOpen v e.value.a e.value.b)) × (e.value ≡ x)) ⊥ (λ e y. y.0 (subst (λ (f : Edge). IsOnOpen v f.a f.b) (sym y.1) (of_one (λ f. IsOnOpen v f.a f.b) x (h.hangs nowhere)))) es
    (has_with (λ e. ¬ (IsOnOpen v e.value.a e.value.b)) (λ e. e.value ≡ x) es (free i nowhere h.in_list) (all k d l))
  where
    nowhere : Point
    nowhere = record { x = pos 0; y = pos 0 }

    v : Point
    v = slice_index_or points i nowhere

    x : Edge
    x = row_edge points (slice_index_or rows k d)
