-- Each front of a mesh's text goes on to a text.
use Rattle.std.proofs.Common.{◌≡◌, ℕ, zero, suc, ◌*◌, ◌≤◌, List, [], ◌∷◌, ◌++◌, Some, refl, sym, ap, ◌∙◌, arith}
use Rattle.std.specs.Prelude.{ℤ, pos, ◌+ℤ◌, ◌*ℤ◌, neg_ℤ, unsigned_abs}
use Rattle.std.proofs.Math.IntN.{pos-*ℤ-pos}
use Rattle.word_scan.specs.Numerals.{IsWhole}
use Rattle.word_scan.specs.Decimals.{decimal_of}
use Rattle.grid_geom.specs.declared.TheConstants.{GRID}
use Rattle.vol_format.specs.Text.{Word, tens, mesh3d, dimension, geomtype, surfaceelements, volumeelements, edgesegmentsgi2, points_word, endmesh}
use Rattle.vol_format.specs.Reading.{NeedWord, NeedNumber, NeedPoint, NeedCount, NeedPlace, got, Form, Leaf, element_form, edge_form, point_form, rows_behind, counted_rows, elements_form, edges_form, points_form, ending_form}
use Rattle.vol_format.proofs.Asks.{got_says, says_got}
use Rattle.vol_format.proofs.Leads.{Good, good_then}
use Rattle.vol_format.proofs.Meshes.{after_points, after_edges, after_elements, mesh_form}

-- ---- a word for each need

abbrev w0 : Word
w0 = 48 ∷ []

abbrev w1 : Word
w1 = 49 ∷ []

abbrev w2 : Word
w2 = 50 ∷ []

abbrev w3 : Word
w3 = 51 ∷ []

pub whole0 : IsWhole w0
whole0 = record { digits = refl; some = omega arith; few = omega arith }

whole1 : IsWhole w1
whole1 = record { digits = refl; some = omega arith; few = omega arith }

pub whole2 : IsWhole w2
whole2 = record { digits = refl; some = omega arith; few = omega arith }

whole3 : IsWhole w3
whole3 = record { digits = refl; some = omega arith; few = omega arith }

zero_in : (k greatest : ℕ) → got k (NeedNumber 0 greatest) w0 ≡ Some 0
zero_in k greatest = says_got k (NeedNumber 0 greatest) w0 0 (whole0, refl) (omega arith, omega arith)

one_in : (k greatest : ℕ) → 1 ≤ greatest → got k (NeedNumber 1 greatest) w1 ≡ Some 1
one_in k greatest le = says_got k (NeedNumber 1 greatest) w1 1 (whole1, refl) (omega arith, le)

two_in : (k : ℕ) → got k (NeedNumber 2 2) w2 ≡ Some 2
two_in k = says_got k (NeedNumber 2 2) w2 2 (whole2, refl) (omega arith, omega arith)

three_in : (k : ℕ) → got k (NeedNumber 3 3) w3 ≡ Some 3
three_in k = says_got k (NeedNumber 3 3) w3 3 (whole3, refl) (omega arith, omega arith)

point_in : (k : ℕ) → got k NeedPoint w0 ≡ Some 0
point_in k = says_got k NeedPoint w0 0 (whole0, refl) (omega arith)

count_in : (k : ℕ) → got k NeedCount w0 ≡ Some 0
count_in k = says_got k NeedCount w0 0 (whole0, refl) (omega arith)

-- the number that has just been read, again
again : (k least greatest : ℕ) (w : Word) (n : ℕ) → got k (NeedNumber least greatest) w ≡ Some n → got k (NeedNumber n n) w ≡ Some n
again k least greatest w n e = says_got k (NeedNumber n n) w n (got_says k (NeedNumber least greatest) w n e).0 (omega arith, omega arith)

pub nought_read : decimal_of w0 ≡ Some (record { digits = pos 0; scale = pos 0 })
unfolding decimal_of
nought_read = refl

pub nought_times : (t : ℕ) → pos 0 *ℤ pos t ≡ pos 0
nought_times t = let none : 0 * t ≡ 0 = omega arith in pos-*ℤ-pos 0 t ∙ ap pos none

pub place_in : (k greatest : ℕ) → got k (NeedPlace greatest) w0 ≡ Some (pos 0)
place_in k greatest =
    let z = pos 0 +ℤ pos k in
    says_got k (NeedPlace greatest) w0 (pos 0) (record { digits = pos 0; scale = pos 0 }, nought_read, nought_times (tens z) ∙ sym (nought_times (15625 * tens (neg_ℤ z)))) (omega arith)

said_in : (k : ℕ) (w : Word) → got k (NeedWord w) w ≡ Some tt
said_in k w = says_got k (NeedWord w) w tt refl tt

-- ---- the forms

good_element : (k : ℕ) → Good k element_form
unfolding element_form
good_element k = (w1, 1, one_in k 64 (omega arith), λ w d e. (w, d, again k 1 64 w d e, λ x2 u2 e2. (w0, 0, zero_in k 0, λ x3 u3 e3. (w0, 0, zero_in k 0, λ x4 u4 e4. (w3, 3, three_in k, λ x5 u5 e5. (w0, 0, point_in k, λ x6 u6 e6. (w0, 0, point_in k, λ x7 u7 e7. (w0, 0, point_in k, λ x8 u8 e8. tt))))))))

good_edge : (k : ℕ) → Good k edge_form
unfolding edge_form
good_edge k = (
  w0,
  0,
  zero_in k 999999,
  λ x1 u1 e1. (
    w0,
    0,
    zero_in k 0,
    λ x2 u2 e2. (
      w0,
      0,
      point_in k,
      λ x3 u3 e3. (
        w0,
        0,
        point_in k,
        λ x4 u4 e4. (
          w0,
          0,
          zero_in k 0,
          λ x5 u5 e5. (
            w0,
            0,
            zero_in k 0,
            λ x6 u6 e6.
                (w0, 0, zero_in k 64, λ x7 u7 e7. (w0, 0, zero_in k 64, λ x8 u8 e8. (w1, 1, one_in k 4096 (omega arith), λ w s e. (w0, 0, zero_in k 0, λ x9 u9 e9. (w, s, again k 1 4096 w s e, λ xa ua ea. (w0, 0, zero_in k 0, λ xb ub eb. tt)))))),
          ),
        ),
      ),
    ),
  ),
)

good_point : (k : ℕ) → Good k point_form
unfolding point_form
good_point k = (w0, pos 0, place_in k (unsigned_abs GRID), λ x1 u1 e1. (w0, pos 0, place_in k (unsigned_abs GRID), λ x2 u2 e2. (w0, pos 0, place_in k 0, λ x3 u3 e3. tt)))

good_rows : {X : Type 0} (k : ℕ) (form : Form X) → Good k form → (n : ℕ) (front : List X) → Good k (rows_behind form front n)
good_rows k form good zero front = tt
good_rows k form good (suc n) front = good_then k form (λ next. rows_behind form (front ++ next ∷ []) n) good (λ next. good_rows k form good n (front ++ next ∷ []))

good_counted : {X : Type 0} (k : ℕ) (form : Form X) → Good k form → Good k (counted_rows form)
good_counted k form good = (w0, 0, count_in k, λ w n e. good_rows k form good n [])

good_elements : (k : ℕ) → Good k elements_form
unfolding elements_form
good_elements k = (mesh3d, tt, said_in k mesh3d, λ x1 u1 e1. (dimension, tt, said_in k dimension, λ x2 u2 e2. (w2, 2, two_in k, λ x3 u3 e3. (geomtype, tt, said_in k geomtype, λ x4 u4 e4. (w0, 0, zero_in k 0, λ x5 u5 e5. (surfaceelements, tt, said_in k surfaceelements, λ x6 u6 e6. good_counted k element_form (good_element k)))))))

good_edges : (k : ℕ) → Good k edges_form
unfolding edges_form
good_edges k = (volumeelements, tt, said_in k volumeelements, λ x1 u1 e1. (w0, 0, zero_in k 0, λ x2 u2 e2. (edgesegmentsgi2, tt, said_in k edgesegmentsgi2, λ x3 u3 e3. good_counted k edge_form (good_edge k))))

good_points : (k : ℕ) → Good k points_form
unfolding points_form
good_points k = (points_word, tt, said_in k points_word, λ x1 u1 e1. good_counted k point_form (good_point k))

good_ending : (k : ℕ) → Good k ending_form
unfolding ending_form
good_ending k = (endmesh, tt, said_in k endmesh, λ x1 u1 e1. tt)

pub good_mesh : (k : ℕ) (shift : ℤ) → Good k (mesh_form shift)
good_mesh k shift =
    good_then k elements_form (λ elements. after_elements shift elements) (good_elements k) (λ elements.
    good_then k edges_form (λ edges. after_edges shift elements edges) (good_edges k) (λ edges.
    good_then k points_form (λ points. after_points shift elements edges points) (good_points k) (λ points.
    good_then k ending_form (λ u. Leaf (record { shift = shift; points = points; edges = edges; elements = elements })) (good_ending k) (λ u. tt))))
