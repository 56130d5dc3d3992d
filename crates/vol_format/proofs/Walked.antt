-- Point numbers, walked over item by item.
use Rattle.std.proofs.Common.{◌≡◌, ℕ, ◌+◌, ◌*◌, ◌<◌, Bool, true, false, List, [], ◌∷◌, ◌++◌, length, drop, get_or, Ok, Err, refl, sym, ap, ◌∙◌, length-append, ◌≤◌, arith}
use Rattle.std.specs.List.{flat_map}
use Rattle.std.proofs.lemmas.List.{drop_more}
use Rattle.vol_format.specs.declared.refusal.VolRefusal.{VolRefusal}
use Rattle.vol_format.specs.declared.refusal.VolRefusal.TheVariants.{BadIndex}
use Rattle.vol_format.specs.declared.EdgeRow.{EdgeRow}
use Rattle.grid_geom.specs.declared.Point.{Point}
use Rattle.vol_format.specs.declared.Mesh.{Mesh}
use Rattle.vol_format.specs.Text.{Word, Item, Fixed, element_items, edge_items, point_items, mesh_items, edges_part, points_part, endmesh}
use Rattle.vol_format.specs.Reading.{misnames, walked, known_if}

-- behind items of which each names a point, the others are walked over
pub record Behind (points at end : ℕ) (xs ys : List Item) : Type 0 where
  pub on : walked points at (xs ++ ys) ≡ walked points end ys
  pub place : end ≡ at + length xs

behind_by : (b : Bool) (points at end : ℕ) (x : Item) (xs ys : List Item) → misnames points x ≡ b → (walked points (at + 1) xs ≡ Ok end → Behind points (at + 1) end xs ys)
    → walked points at (x ∷ xs) ≡ Ok end → Behind points at end (x ∷ xs) ys
behind_by true points at end x xs ys m rest e = let bad : walked points at (x ∷ xs) ≡ Err (BadIndex at) = rw m refl in absurd cc
behind_by false points at end x xs ys m rest e =
    let same : walked points at (x ∷ xs) ≡ walked points (at + 1) xs = rw m refl in
    let h = rest (sym same ∙ e) in
    record { on = rw m h.on; place = omega (arith, h.place) }

pub behind : (points at end : ℕ) (xs ys : List Item) → walked points at xs ≡ Ok end → Behind points at end xs ys
behind points at end [] ys e = let same : at ≡ end = cc in record { on = ap (λ (n : ℕ). walked points n ys) same; place = omega (arith, same) }
behind points at end (x ∷ xs) ys e = behind_by (misnames points x) points at end x xs ys refl (behind points (at + 1) end xs ys) e

stays_by : (b : Bool) (points at : ℕ) (x : Item) (xs ys : List Item) (e : VolRefusal) → misnames points x ≡ b → (walked points (at + 1) xs ≡ Err e → walked points (at + 1) (xs ++ ys) ≡ Err e)
    → walked points at (x ∷ xs) ≡ Err e → walked points at (x ∷ (xs ++ ys)) ≡ Err e
stays_by true points at x xs ys e m rest h = let one : walked points at (x ∷ xs) ≡ Err (BadIndex at) = rw m refl in rw m (sym one ∙ h)
stays_by false points at x xs ys e m rest h = let one : walked points at (x ∷ xs) ≡ walked points (at + 1) xs = rw m refl in rw m (rest (sym one ∙ h))

-- a refusal among them is that of all
pub stays : (points at : ℕ) (xs ys : List Item) (e : VolRefusal) → walked points at xs ≡ Err e → walked points at (xs ++ ys) ≡ Err e
stays points at [] ys e h = absurd cc
stays points at (x ∷ xs) ys e h = stays_by (misnames points x) points at x xs ys e refl (stays points (at + 1) xs ys e) h

-- ---- rows, as the loops walk over them

-- a row is the first of those that are left
pub row_first : {X : Type 0} (items : X → List Item) (rows : List X) (i : ℕ) (x : X) → i < length rows → x ≡ get_or rows i x → flat_map items (drop i rows) ≡ items x ++ flat_map items (drop (i + 1) rows)
row_first items rows i x inside is = ap (flat_map items) (drop_more rows i x inside ∙ ap (λ (y : _). y ∷ drop (i + 1) rows) (sym is))

-- an edge row has twelve words
pub edges_long : (edges : List EdgeRow) → length (flat_map edge_items edges) ≡ 12 * length edges
edges_long [] = refl
edges_long (e ∷ edges) = omega (arith, edges_long edges)

-- no item of a point's row is a point number
points_pass : (points at : ℕ) (rows : List Point) (last : Word) → (end : ℕ) × (walked points at (flat_map point_items rows ++ Fixed last ∷ []) ≡ Ok end)
points_pass points at [] last = (at + 1, refl)
points_pass points at (p ∷ rows) last = points_pass points (at + 1 + 1 + 1) rows last

-- the elements first, and then the edge rows
pub mesh_walked : (m : Mesh) (at behind_all : ℕ) → walked (length m.points) 8 (flat_map element_items m.elements) ≡ Ok at → walked (length m.points) (at + 4) (flat_map edge_items m.edges) ≡ Ok behind_all
    → known_if m (walked (length m.points) 1 (mesh_items m)) ≡ Ok m
mesh_walked m at behind_all e f =
    let n = length m.points in
    let a : walked n 1 (mesh_items m) ≡ walked n at (edges_part m.edges m.points) = (behind n 8 at (flat_map element_items m.elements) (edges_part m.edges m.points) e).on in
    let b : walked n at (edges_part m.edges m.points) ≡ walked n behind_all (points_part m.points) = ap (λ (k : ℕ). walked n k (flat_map edge_items m.edges ++ points_part m.points)) {x = at + 1 + 1 + 1 + 1} {y = at + 4} (omega arith) ∙ (behind n (at + 4) behind_all (flat_map edge_items m.edges) (points_part m.points) f).on in
    let c = points_pass n (behind_all + 1 + 1) m.points endmesh in
    ap (known_if m) (a ∙ b ∙ c.1)

pub element_bad : (m : Mesh) (e : VolRefusal) → walked (length m.points) 8 (flat_map element_items m.elements) ≡ Err e → known_if m (walked (length m.points) 1 (mesh_items m)) ≡ Err e
element_bad m e h = ap (known_if m) (stays (length m.points) 8 (flat_map element_items m.elements) (edges_part m.edges m.points) e h)

pub edge_bad : (m : Mesh) (at : ℕ) (e : VolRefusal) → walked (length m.points) 8 (flat_map element_items m.elements) ≡ Ok at → walked (length m.points) (at + 4) (flat_map edge_items m.edges) ≡ Err e
    → known_if m (walked (length m.points) 1 (mesh_items m)) ≡ Err e
edge_bad m at e h f =
    let n = length m.points in
    let a : walked n 1 (mesh_items m) ≡ walked n at (edges_part m.edges m.points) = (behind n 8 at (flat_map element_items m.elements) (edges_part m.edges m.points) h).on in
    let b : walked n at (edges_part m.edges m.points) ≡ Err e = ap (λ (k : ℕ). walked n k (flat_map edge_items m.edges ++ points_part m.points)) {x = at + 1 + 1 + 1 + 1} {y = at + 4} (omega arith) ∙ stays n (at + 4) (flat_map edge_items m.edges) (points_part m.points) e f in
    ap (known_if m) (a ∙ b)

pub mesh_long : (m : Mesh) → 11 + length (flat_map element_items m.elements) + length (flat_map edge_items m.edges) ≤ length (mesh_items m)
mesh_long m = omega (arith, length-append (flat_map element_items m.elements) (edges_part m.edges m.points), length-append (flat_map edge_items m.edges) (points_part m.points))
