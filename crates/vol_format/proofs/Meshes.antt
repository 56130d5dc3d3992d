-- The words that lead through the form of a mesh's text say the mesh.
use Rattle.std.proofs.Common.{◌≡◌, ℕ, zero, suc, ◌≤◌, List, [], ◌∷◌, ◌++◌, length, refl, sym, ap, subst, ◌∙◌, append_assoc, arith}
use Rattle.std.specs.Prelude.{ℤ, pos, negsuc, unsigned_abs}
use Rattle.std.specs.List.{flat_map, AllByRecursion}
use Rattle.std.proofs.lemmas.List.{append-nil}
use Rattle.std.proofs.lemmas.Int.{ints}
use Rattle.grid_geom.specs.declared.Point.{Point}
use Rattle.grid_geom.specs.declared.TheConstants.{GRID}
use Rattle.grid_geom.specs.Bounds.{IsWithin, IsOnGrid}
use Rattle.vol_format.specs.declared.EdgeRow.{EdgeRow}
use Rattle.vol_format.specs.declared.MeshElement.{MeshElement}
use Rattle.vol_format.specs.declared.Mesh.{Mesh}
use Rattle.vol_format.specs.declared.refusal.TheConstants.{MOST_ROWS}
use Rattle.vol_format.specs.Text.{Item, Fixed, Number, Coordinate, Count, PointNumber, plain, element_items, edge_items, point_items, counted_items, edges_part, points_part, mesh_items, ElementInRange, EdgeInRange, InRanges, mesh3d, dimension, geomtype, surfaceelements, volumeelements, edgesegmentsgi2, points_word, endmesh}
use Rattle.vol_format.specs.Reading.{Form, Leaf, ◌>>=◌, element_form, edge_form, point_form, rows_behind, counted_rows, elements_form, edges_form, points_form, ending_form}
use Rattle.vol_format.proofs.Leads.{Leads, leads_then, then_leads}

exactly : (n m : ℕ) → (n ≤ m) × (m ≤ n) → m ≡ n
exactly n m p = omega (arith, p.0, p.1)

-- ---- a row

-- a form whose words say a row of this kind, in its range
pub record IsRow {X : Type 0} (form : Form X) (items : X → List Item) (R : X → Type 0) : Type 0 where
  pub sound : (is : List Item) (x : X) → Leads form is x → (is ≡ items x) × R x
  pub whole : (x : X) → R x → Leads form (items x) x

element_sound : (is : List Item) (e : MeshElement) → Leads element_form is e → (is ≡ element_items e) × ElementInRange e
unfolding element_form
element_sound is e (d, i1, e1, r1, (d2, i2, e2, r2, (x, i3, e3, r3, (y, i4, e4, r4, (n, i5, e5, r5, (a, i6, e6, r6, (b, i7, e7, r7, (c, i8, e8, r8, (e9, made))))))))) =
    let ones : (d2 ≡ d) × (x ≡ 0) × (y ≡ 0) × (n ≡ 3) = (exactly d d2 r2, exactly 0 x r3, exactly 0 y r4, exactly 3 n r5) in
    let all : is ≡ plain d ∷ plain d2 ∷ plain x ∷ plain y ∷ plain n ∷ Number PointNumber a ∷ Number PointNumber b ∷ Number PointNumber c ∷ [] = rw (e1, e2, e3, e4, e5, e6, e7, e8, e9) refl in
    let same : is ≡ element_items (record { domain = d; corners = a ∷ b ∷ c ∷ [] }) = all ∙ rw (ones.0, ones.1, ones.2, ones.3) refl in
    let range : ElementInRange (record { domain = d; corners = a ∷ b ∷ c ∷ [] }) = record { domain = record { low = r1.0; high = r1.1 }; three = refl; corners = (r6, (r7, (r8, tt))) } in
    subst (λ (m : MeshElement). (is ≡ element_items m) × ElementInRange m) made (same, range)

record Three (xs : List ℕ) : Type 0 where
  a : ℕ
  b : ℕ
  c : ℕ
  same : xs ≡ a ∷ b ∷ c ∷ []

three : (xs : List ℕ) → length xs ≡ 3 → Three xs
three [] e = absurd (omega (arith, e))
three (a ∷ []) e = absurd (omega (arith, e))
three (a ∷ b ∷ []) e = absurd (omega (arith, e))
three (a ∷ b ∷ c ∷ []) e = record { a = a; b = b; c = c; same = refl }
three (a ∷ b ∷ c ∷ d ∷ xs) e = absurd (omega (arith, e))

itself : (n : ℕ) → (n ≤ n) × (n ≤ n)
itself n = (omega arith, omega arith)

element_made : (d a b c : ℕ) → ElementInRange (record { domain = d; corners = a ∷ b ∷ c ∷ [] }) → Leads element_form (element_items (record { domain = d; corners = a ∷ b ∷ c ∷ [] })) (record { domain = d; corners = a ∷ b ∷ c ∷ [] })
unfolding element_form
element_made d a b c r =
    (d, _, refl, (r.domain.low, r.domain.high), (d, _, refl, itself d, (0, _, refl, itself 0, (0, _, refl, itself 0, (3, _, refl, itself 3, (a, _, refl, r.corners.0, (b, _, refl, r.corners.1.0, (c, _, refl, r.corners.1.1.0, (refl, refl)))))))))

element_whole : (e : MeshElement) → ElementInRange e → Leads element_form (element_items e) e
element_whole e r =
    let t = three e.corners r.three in
    let made : MeshElement = record { domain = e.domain; corners = t.a ∷ t.b ∷ t.c ∷ [] } in
    let is : e ≡ made = ap (λ (xs : List ℕ). record { domain = e.domain; corners = xs }) t.same in
    subst (λ (m : MeshElement). Leads element_form (element_items m) m) (sym is) (element_made e.domain t.a t.b t.c (subst ElementInRange is r))

pub element_row : IsRow element_form element_items ElementInRange
element_row = record { sound = element_sound; whole = element_whole }

edge_sound : (is : List Item) (e : EdgeRow) → Leads edge_form is e → (is ≡ edge_items e) × EdgeInRange e
unfolding edge_form
edge_sound is e (bc, i1, e1, r1, (u, i2, e2, r2, (a, i3, e3, r3, (b, i4, e4, r4, (v, i5, e5, r5, (w, i6, e6, r6, (l, i7, e7, r7, (r, i8, e8, r8, (s, i9, e9, r9, (x, i10, e10, r10, (t, i11, e11, r11, (y, i12, e12, r12, (e13, made))))))))))))) =
    let ones : (u ≡ 0) × (v ≡ 0) × (w ≡ 0) × (x ≡ 0) × (t ≡ s) × (y ≡ 0) = (exactly 0 u r2, exactly 0 v r5, exactly 0 w r6, exactly 0 x r10, exactly s t r11, exactly 0 y r12) in
    let all : is ≡ plain bc ∷ plain u ∷ Number PointNumber a ∷ Number PointNumber b ∷ plain v ∷ plain w ∷ plain l ∷ plain r ∷ plain s ∷ plain x ∷ plain t ∷ plain y ∷ [] = rw (e1, e2, e3, e4, e5, e6, e7, e8, e9, e10, e11, e12, e13) refl in
    let same : is ≡ edge_items (record { bc = bc; a = a; b = b; left = l; right = r; segment = s }) = all ∙ rw (ones.0, ones.1, ones.2, ones.3, ones.4, ones.5) refl in
    let range : EdgeInRange (record { bc = bc; a = a; b = b; left = l; right = r; segment = s }) = record { bc = r1.1; a = r3; b = r4; left = r7.1; right = r8.1; segment = record { low = r9.0; high = r9.1 } } in
    subst (λ (m : EdgeRow). (is ≡ edge_items m) × EdgeInRange m) made (same, range)

edge_whole : (e : EdgeRow) → EdgeInRange e → Leads edge_form (edge_items e) e
unfolding edge_form
edge_whole e r =
    (e.bc, _, refl, (omega arith, r.bc), (0, _, refl, itself 0, (e.a, _, refl, r.a, (e.b, _, refl, r.b, (0, _, refl, itself 0, (0, _, refl, itself 0, (e.left, _, refl, (omega arith, r.left), (e.right, _, refl, (omega arith, r.right), (e.segment, _, refl, (r.segment.low, r.segment.high), (0, _, refl, itself 0, (e.segment, _, refl, itself e.segment, (0, _, refl, itself 0, (refl, refl)))))))))))))

pub edge_row : IsRow edge_form edge_items EdgeInRange
edge_row = record { sound = edge_sound; whole = edge_whole }

within : (x : ℤ) → unsigned_abs x ≤ unsigned_abs GRID → IsWithin GRID x
within x le = record { least = omega (arith, ints); greatest = omega (arith, ints) }

pub at_most : (x : ℤ) → IsWithin GRID x → unsigned_abs x ≤ unsigned_abs GRID
at_most x w = let low = w.least in let high = w.greatest in omega (arith, ints)

nought : (x : ℤ) → unsigned_abs x ≤ 0 → x ≡ pos 0
nought (pos zero) le = refl
nought (pos (suc n)) le = absurd (omega (arith, le))
nought (negsuc n) le = absurd (omega (arith, le))

point_sound : (is : List Item) (p : Point) → Leads point_form is p → (is ≡ point_items p) × IsOnGrid p
unfolding point_form
point_sound is p (x, i1, e1, r1, (y, i2, e2, r2, (z, i3, e3, r3, (e4, made)))) =
    let all : is ≡ Coordinate x ∷ Coordinate y ∷ Coordinate z ∷ [] = rw (e1, e2, e3, e4) refl in
    let same : is ≡ point_items (record { x = x; y = y }) = all ∙ ap (λ (c : ℤ). Coordinate x ∷ Coordinate y ∷ Coordinate c ∷ []) (nought z r3) in
    subst (λ (q : Point). (is ≡ point_items q) × IsOnGrid q) made (same, record { x_within = within x r1; y_within = within y r2 })

point_whole : (p : Point) → IsOnGrid p → Leads point_form (point_items p) p
unfolding point_form
point_whole p on = (p.x, _, refl, at_most p.x on.x_within, (p.y, _, refl, at_most p.y on.y_within, (pos 0, _, refl, omega arith, (refl, refl))))

pub point_row : IsRow point_form point_items IsOnGrid
point_row = record { sound = point_sound; whole = point_whole }

-- ---- many rows

record AreRows {X : Type 0} (items : X → List Item) (R : X → Type 0) (front xs : List X) (n : ℕ) (is : List Item) : Type 0 where
  more : List X
  all : xs ≡ front ++ more
  long : length more ≡ n
  same : is ≡ flat_map items more
  range : AllByRecursion R more

rows_sound : {X : Type 0} (form : Form X) (items : X → List Item) (R : X → Type 0) → IsRow form items R → (n : ℕ) (front xs : List X) (is : List Item) → Leads (rows_behind form front n) is xs → AreRows items R front xs n is
rows_sound form items R row zero front xs is p = record { more = []; all = sym p.1 ∙ sym (append-nil front); long = refl; same = p.0; range = tt }
rows_sound form items R row (suc n) front xs is p =
    let r = then_leads form (λ next. rows_behind form (front ++ next ∷ []) n) is xs p in
    let one = row.sound r.front r.value r.first in
    let more = rows_sound form items R row n (front ++ r.value ∷ []) xs r.back r.then in
    record {
      more = r.value ∷ more.more;
      all = more.all ∙ append_assoc front (r.value ∷ []) more.more;
      long = ap suc more.long;
      same = r.same ∙ ap (λ (ys : List Item). ys ++ r.back) one.0 ∙ ap (λ (ys : List Item). items r.value ++ ys) more.same;
      range = (one.1, more.range);
    }

rows_whole : {X : Type 0} (form : Form X) (items : X → List Item) (R : X → Type 0) → IsRow form items R → (front more : List X) → AllByRecursion R more → Leads (rows_behind form front (length more)) (flat_map items more) (front ++ more)
rows_whole form items R row front [] range = (refl, sym (append-nil front))
rows_whole form items R row front (x ∷ more) range =
    let rest = rows_whole form items R row (front ++ x ∷ []) more range.1 in
    leads_then form (λ next. rows_behind form (front ++ next ∷ []) (length more)) (items x) (flat_map items more) x (front ++ (x ∷ more)) (row.whole x range.0)
    (subst (λ (xs : List _). Leads (rows_behind form (front ++ x ∷ []) (length more)) (flat_map items more) xs) (append_assoc front (x ∷ []) more) rest)

-- the rows with their count
record AreCounted {X : Type 0} (items : X → List Item) (R : X → Type 0) (xs : List X) (is : List Item) : Type 0 where
  same : is ≡ counted_items items xs
  few : length xs ≤ MOST_ROWS
  range : AllByRecursion R xs

counted_sound : {X : Type 0} (form : Form X) (items : X → List Item) (R : X → Type 0) → IsRow form items R → (xs : List X) (is : List Item) → Leads (counted_rows form) is xs → AreCounted items R xs is
counted_sound form items R row xs is (n, others, e, r, rest) =
    let a = rows_sound form items R row n [] xs others rest in
    let long : length xs ≡ n = ap length a.all ∙ a.long in
    record { same = e ∙ ap (λ (ys : List Item). Number Count n ∷ ys) a.same ∙ ap (λ (k : ℕ). Number Count k ∷ flat_map items a.more) (sym a.long) ∙ ap (counted_items items) (sym a.all); few = omega (arith, long, r); range = subst (λ (ys : List _). AllByRecursion R ys) (sym a.all) a.range }

counted_whole : {X : Type 0} (form : Form X) (items : X → List Item) (R : X → Type 0) → IsRow form items R → (xs : List X) → length xs ≤ MOST_ROWS → AllByRecursion R xs → Leads (counted_rows form) (counted_items items xs) xs
counted_whole form items R row xs few range = (length xs, _, refl, few, rows_whole form items R row [] xs range)

-- ---- the whole mesh

abbrev elements_part : List MeshElement → List Item
elements_part elements = Fixed mesh3d ∷ Fixed dimension ∷ plain 2 ∷ Fixed geomtype ∷ plain 0 ∷ Fixed surfaceelements ∷ counted_items element_items elements

abbrev edges_alone : List EdgeRow → List Item
edges_alone edges = Fixed volumeelements ∷ plain 0 ∷ Fixed edgesegmentsgi2 ∷ counted_items edge_items edges

elements_sound : (xs : List MeshElement) (is : List Item) → Leads elements_form is xs → (is ≡ elements_part xs) × (length xs ≤ MOST_ROWS) × AllByRecursion ElementInRange xs
unfolding elements_form
elements_sound xs is (a, i1, e1, r1, (b, i2, e2, r2, (n, i3, e3, r3, (c, i4, e4, r4, (z, i5, e5, r5, (d, i6, e6, r6, rest)))))) =
    let all = counted_sound element_form element_items ElementInRange element_row xs i6 rest in
    (rw (e1, e2, e3, e4, e5, e6, all.same, exactly 2 n r3, exactly 0 z r5) refl, all.few, all.range)

elements_whole : (xs : List MeshElement) → length xs ≤ MOST_ROWS → AllByRecursion ElementInRange xs → Leads elements_form (elements_part xs) xs
unfolding elements_form
elements_whole xs few range =
    (tt, _, refl, tt, (tt, _, refl, tt, (2, _, refl, itself 2, (tt, _, refl, tt, (0, _, refl, itself 0, (tt, _, refl, tt, counted_whole element_form element_items ElementInRange element_row xs few range))))))

edges_sound : (xs : List EdgeRow) (is : List Item) → Leads edges_form is xs → (is ≡ edges_alone xs) × (length xs ≤ MOST_ROWS) × AllByRecursion EdgeInRange xs
unfolding edges_form
edges_sound xs is (a, i1, e1, r1, (z, i2, e2, r2, (b, i3, e3, r3, rest))) =
    let all = counted_sound edge_form edge_items EdgeInRange edge_row xs i3 rest in
    (rw (e1, e2, e3, all.same, exactly 0 z r2) refl, all.few, all.range)

edges_whole : (xs : List EdgeRow) → length xs ≤ MOST_ROWS → AllByRecursion EdgeInRange xs → Leads edges_form (edges_alone xs) xs
unfolding edges_form
edges_whole xs few range = (tt, _, refl, tt, (0, _, refl, itself 0, (tt, _, refl, tt, counted_whole edge_form edge_items EdgeInRange edge_row xs few range)))

points_sound : (xs : List Point) (is : List Item) → Leads points_form is xs → (is ≡ Fixed points_word ∷ counted_items point_items xs) × (length xs ≤ MOST_ROWS) × AllByRecursion IsOnGrid xs
unfolding points_form
points_sound xs is (a, i1, e1, r1, rest) =
    let all = counted_sound point_form point_items IsOnGrid point_row xs i1 rest in
    (rw (e1, all.same) refl, all.few, all.range)

points_whole : (xs : List Point) → length xs ≤ MOST_ROWS → AllByRecursion IsOnGrid xs → Leads points_form (Fixed points_word ∷ counted_items point_items xs) xs
unfolding points_form
points_whole xs few range = (tt, _, refl, tt, counted_whole point_form point_items IsOnGrid point_row xs few range)

ending_sound : (u : Unit {0}) (is : List Item) → Leads ending_form is u → is ≡ Fixed endmesh ∷ []
unfolding ending_form
ending_sound u is (a, i1, e1, r1, (e2, same)) = rw (e1, e2) refl

ending_whole : Leads ending_form (Fixed endmesh ∷ []) tt
unfolding ending_form
ending_whole = (tt, _, refl, tt, (refl, refl))

abbrev pub after_points : ℤ → List MeshElement → List EdgeRow → List Point → Form Mesh
after_points shift elements edges points = ending_form >>= λ u. Leaf (record { shift = shift; points = points; edges = edges; elements = elements })

abbrev pub after_edges : ℤ → List MeshElement → List EdgeRow → Form Mesh
after_edges shift elements edges = points_form >>= λ points. after_points shift elements edges points

abbrev pub after_elements : ℤ → List MeshElement → Form Mesh
after_elements shift elements = edges_form >>= λ edges. after_edges shift elements edges

-- the form of a mesh's text
abbrev pub mesh_form : ℤ → Form Mesh
mesh_form shift = elements_form >>= λ elements. after_elements shift elements

pub record IsMesh (shift : ℤ) (is : List Item) (m : Mesh) : Type 0 where
  pub same : is ≡ mesh_items m
  pub ranges : InRanges m
  pub shifted : m.shift ≡ shift

pub mesh_sound : (shift : ℤ) (is : List Item) (m : Mesh) → Leads (mesh_form shift) is m → IsMesh shift is m
mesh_sound shift is m p =
    let a = then_leads elements_form (λ elements. after_elements shift elements) is m p in
    let b = then_leads edges_form (λ edges. after_edges shift a.value edges) a.back m a.then in
    let c = then_leads points_form (λ points. after_points shift a.value b.value points) b.back m b.then in
    let d = then_leads ending_form (λ u. Leaf (record { shift = shift; points = c.value; edges = b.value; elements = a.value })) c.back m c.then in
    let es = elements_sound a.value a.front a.first in
    let ed = edges_sound b.value b.front b.first in
    let ps = points_sound c.value c.front c.first in
    let en = ending_sound d.value d.front d.first in
    let made : Mesh = record { shift = shift; points = c.value; edges = b.value; elements = a.value } in
    let same : is ≡ mesh_items made = a.same ∙ ap (λ (ys : List Item). ys ++ a.back) es.0 ∙ ap (λ (ys : List Item). elements_part a.value ++ ys)
    (b.same ∙ ap (λ (ys : List Item). ys ++ b.back) ed.0 ∙ ap (λ (ys : List Item). edges_alone b.value ++ ys)
    (c.same ∙ ap (λ (ys : List Item). ys ++ c.back) ps.0 ∙ ap (λ (ys : List Item). (Fixed points_word ∷ counted_items point_items c.value) ++ ys)
    (d.same ∙ ap (λ (ys : List Item). ys ++ d.back) en ∙ ap (λ (ys : List Item). Fixed endmesh ∷ ys) d.then.0))) in
    let ranges : InRanges made = record { elements = es.1; each_element = es.2; edges = ed.1; each_edge = ed.2; points = ps.1; each_point = ps.2 } in
    let is_made : IsMesh shift is made = record { same = same; ranges = ranges; shifted = refl } in
    subst (λ (x : Mesh). IsMesh shift is x) d.then.1 is_made

pub mesh_whole : (m : Mesh) → InRanges m → Leads (mesh_form m.shift) (mesh_items m) m
mesh_whole m r =
    let d : Leads (after_points m.shift m.elements m.edges m.points) (Fixed endmesh ∷ []) m = leads_then ending_form (λ u. Leaf (record { shift = m.shift; points = m.points; edges = m.edges; elements = m.elements })) (Fixed endmesh ∷ []) [] tt m ending_whole (refl, refl) in
    let c : Leads (after_edges m.shift m.elements m.edges) (points_part m.points) m = leads_then points_form (λ points. after_points m.shift m.elements m.edges points) (Fixed points_word ∷ counted_items point_items m.points) (Fixed endmesh ∷ []) m.points m (points_whole m.points r.points r.each_point) d in
    let b : Leads (after_elements m.shift m.elements) (edges_part m.edges m.points) m = leads_then edges_form (λ edges. after_edges m.shift m.elements edges) (edges_alone m.edges) (points_part m.points) m.edges m (edges_whole m.edges r.edges r.each_edge) c in
    leads_then elements_form (λ elements. after_elements m.shift elements) (elements_part m.elements) (edges_part m.edges m.points) m.elements m (elements_whole m.elements r.elements r.each_element) b
