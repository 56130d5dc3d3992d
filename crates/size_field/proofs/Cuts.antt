-- Cutting in the middle: middles on the grid, and the pieces on both sides.
use Rattle.std.proofs.Common.{◌≡◌, ℕ, zero, suc, ◌-◌, List, [], ◌∷◌, ◌++◌, map, Some, None, refl, sym, ap, ◌∙◌, arith, append_assoc, ℤ, pos, ◌+ℤ◌}
use Rattle.std.proofs.lemmas.Int.{ints}
use Rattle.std.proofs.lemmas.List.{map-append}
use Rattle.grid_geom.specs.declared.Point.{Point}
use Rattle.grid_geom.specs.declared.Edge.{Edge}
use Rattle.grid_geom.specs.declared.TheConstants.{GRID}
use Rattle.grid_geom.specs.Bounds.{IsWithin}
use Rattle.grid_geom.proofs.Quotients.{floor_least, floor_greatest}
use Rattle.size_field.specs.declared.pieces.Piece.{Piece}
use Rattle.size_field.specs.Cutting.{half, next_cut, on_both_sides, parts, piece_of}

pub half_within : (u w : ℤ) → IsWithin GRID u → IsWithin GRID w → IsWithin GRID (half (u +ℤ w))
half_within u w hu hw =
    let low = floor_least (u +ℤ w) (pos 2) (omega (arith, ints)) in
    let high = floor_greatest (u +ℤ w) (pos 2) (omega (arith, ints)) in
    record { least = omega (arith, ints); greatest = omega (arith, ints) }

-- the pieces of an edge are those on both sides of its next cut
pub parts_are : (bound : Point → ℕ) (n : ℕ) (a b : Point) → parts bound n a b ≡ on_both_sides (parts bound (n - 1)) a b (next_cut bound n a b)
unfolding parts
parts_are bound zero a b = refl
parts_are bound (suc n) a b = let back : n ≡ suc n - 1 = omega arith in ap (λ (k : ℕ). on_both_sides (parts bound k) a b (next_cut bound (suc n) a b)) back

pub parts_whole : (bound : Point → ℕ) (n segment : ℕ) (a b : Point) → next_cut bound n a b ≡ None → map (piece_of segment) (parts bound n a b) ≡ record { segment = segment; a = a; b = b } ∷ []
parts_whole bound n segment a b none = ap (map (piece_of segment)) (parts_are bound n a b ∙ ap (on_both_sides (parts bound (n - 1)) a b) none)

pub parts_two : (bound : Point → ℕ) (n segment : ℕ) (a b m : Point) (old between new : List Piece) → next_cut bound n a b ≡ Some m →
    between ≡ old ++ map (piece_of segment) (parts bound (n - 1) a m) → new ≡ between ++ map (piece_of segment) (parts bound (n - 1) m b) → new ≡ old ++ map (piece_of segment) (parts bound n a b)
parts_two bound n segment a b m old between new cut first second =
    second
    ∙ ap (λ (ps : List Piece). ps ++ map (piece_of segment) (parts bound (n - 1) m b)) first
    ∙ append_assoc old (map (piece_of segment) (parts bound (n - 1) a m)) (map (piece_of segment) (parts bound (n - 1) m b))
    ∙ ap (λ (ps : List Piece). old ++ ps) (sym (map-append (piece_of segment) (parts bound (n - 1) a m) (parts bound (n - 1) m b)))
    ∙ ap (λ (es : List Edge). old ++ map (piece_of segment) es) (sym (parts_are bound n a b ∙ ap (on_both_sides (parts bound (n - 1)) a b) cut))
