-- The written text of a mesh says the mesh, word by word.
use Rattle.std.proofs.Common.{◌≡◌, ℕ, ◌^◌, ◌<◌, ◌≤◌, true, List, [], ◌∷◌, ◌++◌, length, refl, sym, subst, append_assoc, arith}
use Rattle.std.specs.Prelude.{ℤ, pos}
use Rattle.std.specs.Fmt.{decimal}
use Rattle.std.specs.List.{flat_map, AllByRecursion, AllZip}
use Rattle.std.proofs.lemmas.Int.{ints}
use Rattle.text_rows.specs.Rows.{row, spaced}
use Rattle.word_scan.specs.Bytes.{is_white}
use Rattle.word_scan.specs.Scan.{words_of}
use Rattle.word_scan.specs.Parts.{IsRun}
use Rattle.word_scan.proofs.Spelled.{before, behind, Spells, nothing, both as spelled_both, one, line, words_spelled}
use Rattle.grid_geom.specs.declared.Point.{Point}
use Rattle.grid_geom.specs.Bounds.{IsOnGrid}
use Rattle.vol_format.specs.declared.EdgeRow.{EdgeRow}
use Rattle.vol_format.specs.declared.MeshElement.{MeshElement}
use Rattle.vol_format.specs.declared.Mesh.{Mesh}
use Rattle.vol_format.specs.declared.refusal.TheConstants.{MOST_ROWS}
use Rattle.vol_format.specs.Vol.{IsShift, places, coordinate, element_row, edge_row, point_row, counted, heading, edge_heading, point_heading, ending, vol_text}
use Rattle.vol_format.specs.Text.{Word, Item, Fixed, Number, Coordinate, Role, Plain, Count, PointNumber, plain, corner_items, element_items, edge_items, point_items, counted_items, mesh_items, Says, ElementInRange, EdgeInRange, InRanges, Derives, mesh3d, dimension, geomtype, surfaceelements, volumeelements, edgesegmentsgi2, points_word, endmesh}
use Rattle.vol_format.proofs.Meshes.{at_most}
use Rattle.vol_format.proofs.Texts.{whole0, whole2, place_in}
use Rattle.vol_format.specs.Reading.{NeedPlace}
use Rattle.vol_format.proofs.Asks.{got_says}
use Rattle.word_scan.proofs.PlainWords.{plain_byte, plain_bytes, run_of}
use Rattle.word_scan.proofs.NumberTexts.{number_run}
use Rattle.vol_format.proofs.Printed.{number_says, coordinate_says, coordinate_run}

-- the bytes are words, each with a white byte on this side, which say these items
record Prints (k : ℕ) (side : ℕ × Word → List ℕ) (bytes : List ℕ) (items : List Item) : Type 0 where
  words : List Word
  spelled : Spells side bytes words
  says : AllZip (Says k) words items

zip_both : (k : ℕ) (a b : List Word) (xs ys : List Item) → AllZip (Says k) a xs → AllZip (Says k) b ys → AllZip (Says k) (a ++ b) (xs ++ ys)
zip_both k [] b [] ys p q = q
zip_both k [] b (x ∷ xs) ys p q = absurd p
zip_both k (w ∷ a) b [] ys p q = absurd p
zip_both k (w ∷ a) b (x ∷ xs) ys p q = (p.0, zip_both k a b xs ys p.1 q)

both : {k : ℕ} {side : ℕ × Word → List ℕ} {a b : List ℕ} {xs ys : List Item} → Prints k side a xs → Prints k side b ys → Prints k side (a ++ b) (xs ++ ys)
both {k} {side} {a} {b} {xs} {ys} p q = record { words = p.words ++ q.words; spelled = spelled_both p.spelled q.spelled; says = zip_both k p.words q.words xs ys p.says q.says }

-- a word and a white byte
word : (k b : ℕ) (w : Word) (item : Item) → is_white b ≡ true → IsRun w → Says k w item → Prints k behind (w ++ b ∷ []) (item ∷ [])
word k b w item white run says = record { words = w ∷ []; spelled = one behind b w white run; says = (says, tt) }

-- ---- rows

-- the item is this number
abbrev Is : ℕ → Item → Type 0
Is n item = (role : Role) × (item ≡ Number role n) × (n < 10 ^ 13)

-- numbers, each behind a space
numbers : (k : ℕ) (ns : List ℕ) (items : List Item) → AllZip Is ns items → Prints k before (spaced ns) items
numbers k [] [] each = record { words = []; spelled = nothing before; says = tt }
numbers k [] (x ∷ items) each = absurd each
numbers k (n ∷ ns) [] each = absurd each
numbers k (n ∷ ns) (x ∷ items) each =
    let number : Prints k before (32 ∷ decimal n) (x ∷ []) = record {
      words = decimal n ∷ [];
      spelled = one before 32 (decimal n) refl (number_run n each.0.2);
      says = (subst (λ (i : Item). Says k (decimal n) i) (sym each.0.1) (number_says k n each.0.0 each.0.2), tt);
    } in
    both number (numbers k ns items each.1)

number_line : (k n : ℕ) (role : Role) (ns : List ℕ) (items : List Item) → n < 10 ^ 13 → AllZip Is ns items → Prints k behind (row (decimal n) ns) (Number role n ∷ items)
number_line k n role ns items small each =
    let more = numbers k ns items each in
    record { words = decimal n ∷ more.words; spelled = line (decimal n) 10 refl (number_run n small) more.spelled; says = (number_says k n role small, more.says) }

rows : {X : Type 0} (k : ℕ) (text : X → List ℕ) (items : X → List Item) (R : X → Type 0) → ((x : X) → R x → Prints k behind (text x) (items x)) → (xs : List X) → AllByRecursion R xs → Prints k behind (flat_map text xs) (flat_map items xs)
rows k text items R one [] each = record { words = []; spelled = nothing behind; says = tt }
rows k text items R one (x ∷ xs) each = both (one x each.0) (rows k text items R one xs each.1)

all_rows : {X : Type 0} (k : ℕ) (text : X → List ℕ) (items : X → List Item) (R : X → Type 0) → ((x : X) → R x → Prints k behind (text x) (items x)) → (xs : List X) → length xs ≤ MOST_ROWS → AllByRecursion R xs → Prints k behind (counted text xs) (counted_items items xs)
all_rows k text items R one xs few each = both (number_line k (length xs) Count [] [] (omega (arith, few)) tt) (rows k text items R one xs each)

corners_are : (corners : List ℕ) → AllByRecursion (λ p. p ≤ MOST_ROWS) corners → AllZip Is corners (corner_items corners)
corners_are [] each = tt
corners_are (p ∷ corners) each = ((PointNumber, refl, omega (arith, each.0)), corners_are corners each.1)

element_prints : (k : ℕ) (e : MeshElement) → ElementInRange e → Prints k behind (element_row e) (element_items e)
element_prints k e r =
    let d = r.domain.high in
    number_line k e.domain Plain (e.domain ∷ 0 ∷ 0 ∷ length e.corners ∷ e.corners) (plain e.domain ∷ plain 0 ∷ plain 0 ∷ plain (length e.corners) ∷ corner_items e.corners) (omega (arith, d)) ((Plain, refl, omega (arith, d)), ((Plain, refl, omega arith), ((Plain, refl, omega arith), ((Plain, refl, omega (arith, r.three)), corners_are e.corners r.corners))))

edge_prints : (k : ℕ) (e : EdgeRow) → EdgeInRange e → Prints k behind (edge_row e) (edge_items e)
edge_prints k e r =
    let s = r.segment.high in
    number_line k e.bc Plain (0 ∷ e.a ∷ e.b ∷ 0 ∷ 0 ∷ e.left ∷ e.right ∷ e.segment ∷ 0 ∷ e.segment ∷ 0 ∷ []) (plain 0 ∷ Number PointNumber e.a ∷ Number PointNumber e.b ∷ plain 0 ∷ plain 0 ∷ plain e.left ∷ plain e.right ∷ plain e.segment ∷ plain 0 ∷ plain e.segment ∷ plain 0 ∷ []) (omega (arith, r.bc))
    ((Plain, refl, omega arith), ((PointNumber, refl, omega (arith, r.a)), ((PointNumber, refl, omega (arith, r.b)), ((Plain, refl, omega arith), ((Plain, refl, omega arith), ((Plain, refl, omega (arith, r.left)), ((Plain, refl, omega (arith, r.right)), ((Plain, refl, omega (arith, s)), ((Plain, refl, omega arith), ((Plain, refl, omega (arith, s)), ((Plain, refl, omega arith), tt)))))))))))

point_text : (x y : List ℕ) → (x ++ 32 ∷ []) ++ ((y ++ 32 ∷ []) ++ (48 ∷ 10 ∷ [])) ≡ x ++ 32 ∷ [] ++ y ++ 32 ∷ 48 ∷ 10 ∷ []
point_text x y = simp append_assoc

nought_run : IsRun (48 ∷ [])
unfolding plain_bytes plain_byte
nought_run = run_of (48 ∷ []) (omega arith) refl

two_run : IsRun (50 ∷ [])
unfolding plain_bytes plain_byte
two_run = run_of (50 ∷ []) (omega arith) refl

nought_says : (k : ℕ) → Says k (48 ∷ []) (Coordinate (pos 0))
nought_says k = (got_says k (NeedPlace 0) (48 ∷ []) (pos 0) (place_in k 0)).0

point_prints : (k : ℕ) → k ≤ 14 → (p : Point) → IsOnGrid p → Prints k behind (point_row k p) (point_items p)
point_prints k few p on =
    let sx = at_most p.x on.x_within in
    let sy = at_most p.y on.y_within in
    subst (λ (t : List ℕ). Prints k behind t (point_items p)) (point_text (coordinate k p.x) (coordinate k p.y))
    (both (word k 32 (coordinate k p.x) (Coordinate p.x) refl (coordinate_run k p.x few sx) (coordinate_says k p.x few sx))
    (both (word k 32 (coordinate k p.y) (Coordinate p.y) refl (coordinate_run k p.y few sy) (coordinate_says k p.y few sy))
    (word k 10 (48 ∷ []) (Coordinate (pos 0)) refl nought_run (nought_says k))))

-- ---- the words that stand as they are

fixed : (k : ℕ) (w : Word) → 0 < length w → plain_bytes w ≡ true → Prints k behind (w ++ 10 ∷ []) (Fixed w ∷ [])
fixed k w some plain = word k 10 w (Fixed w) refl (run_of w some plain) refl

heading_prints : (k : ℕ) → Prints k behind heading (Fixed mesh3d ∷ Fixed dimension ∷ plain 2 ∷ Fixed geomtype ∷ plain 0 ∷ Fixed surfaceelements ∷ [])
unfolding heading mesh3d dimension geomtype surfaceelements plain_bytes plain_byte
heading_prints k = both (fixed k mesh3d (omega arith) refl) (both (fixed k dimension (omega arith) refl) (both (word k 10 (50 ∷ []) (plain 2) refl two_run (whole2, refl)) (both (fixed k geomtype (omega arith) refl) (both (word k 10 (48 ∷ []) (plain 0) refl nought_run (whole0, refl)) (fixed k surfaceelements (omega arith) refl)))))

edge_heading_prints : (k : ℕ) → Prints k behind edge_heading (Fixed volumeelements ∷ plain 0 ∷ Fixed edgesegmentsgi2 ∷ [])
unfolding edge_heading volumeelements edgesegmentsgi2 plain_bytes plain_byte
edge_heading_prints k = both (fixed k volumeelements (omega arith) refl) (both (word k 10 (48 ∷ []) (plain 0) refl nought_run (whole0, refl)) (fixed k edgesegmentsgi2 (omega arith) refl))

point_heading_prints : (k : ℕ) → Prints k behind point_heading (Fixed points_word ∷ [])
unfolding point_heading points_word plain_bytes plain_byte
point_heading_prints k = fixed k points_word (omega arith) refl

ending_prints : (k : ℕ) → Prints k behind ending (Fixed endmesh ∷ [])
unfolding ending endmesh plain_bytes plain_byte
ending_prints k = fixed k endmesh (omega arith) refl

-- ---- the text

joined : (h es eh ed ph ps en : List ℕ) → (h ++ es) ++ ((eh ++ ed) ++ ((ph ++ ps) ++ en)) ≡ h ++ es ++ eh ++ ed ++ ph ++ ps ++ en
joined h es eh ed ph ps en = simp append_assoc

mesh_prints : (m : Mesh) → places m.shift ≤ 14 → InRanges m → Prints (places m.shift) behind (vol_text m) (mesh_items m)
mesh_prints m few r =
    let k = places m.shift in
    subst (λ (t : List ℕ). Prints k behind t (mesh_items m)) (joined heading (counted element_row m.elements) edge_heading (counted edge_row m.edges) point_heading (counted (point_row k) m.points) ending)
    (both (both (heading_prints k) (all_rows k element_row element_items ElementInRange (element_prints k) m.elements r.elements r.each_element))
    (both (both (edge_heading_prints k) (all_rows k edge_row edge_items EdgeInRange (edge_prints k) m.edges r.edges r.each_edge))
    (both (both (point_heading_prints k) (all_rows k (point_row k) point_items IsOnGrid (point_prints k few) m.points r.points r.each_point))
    (ending_prints k))))

few_places : (d : ℤ) → IsShift d → places d ≤ 14
few_places d is = let low = is.least in let high = is.greatest in omega (arith, ints)

pub read_again : (m : Mesh) → IsShift m.shift → InRanges m → Derives m.shift (words_of (vol_text m)) m
read_again m is r =
    let p = mesh_prints m (few_places m.shift is) r in
    let words = words_spelled (vol_text m) p.words p.spelled in
    record { shifted = refl; says = subst (λ (ws : List Word). AllZip (Says (places m.shift)) ws (mesh_items m)) (sym words) p.says; ranges = r }
