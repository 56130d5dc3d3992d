-- The words of a mesh's text.
--
-- Item        what one word of a text says
-- mesh_items  what the words of a mesh's text say, in their order
-- Says        the word says this
-- InRanges    the mesh's numbers are in the ranges of the text
-- Derives     the words are a text of this mesh
-- Known       each point number of the mesh names one of its points
use Rattle.std.specs.Prelude.{◌≡◌, ℕ, ◌*◌, ◌<◌, ◌≤◌, ◌^◌, List, [], ◌∷◌, ◌++◌, length, Some, ℤ, pos, negsuc, neg_ℤ, ◌+ℤ◌, ◌*ℤ◌, codes}
use Rattle.std.specs.List.{flat_map, AllByRecursion, AllZip}
use Rattle.word_scan.specs.declared.decimals.Dec.{Dec}
use Rattle.word_scan.specs.Numerals.{IsWhole, value_of}
use Rattle.word_scan.specs.Decimals.{decimal_of}
use Rattle.grid_geom.specs.declared.Point.{Point}
use Rattle.grid_geom.specs.Bounds.{IsOnGrid}
use Rattle.vol_format.specs.declared.EdgeRow.{EdgeRow}
use Rattle.vol_format.specs.declared.MeshElement.{MeshElement}
use Rattle.vol_format.specs.declared.Mesh.{Mesh}
use Rattle.vol_format.specs.declared.refusal.TheConstants.{MOST_ROWS}
use Rattle.vol_format.specs.Vol.{places}

abbrev pub Word : Type 0
Word = List ℕ

-- what a number stands for: how many rows follow, a point, or anything else
pub data Role : Type 0 where
  Plain : Role
  Count : Role
  PointNumber : Role

-- what a word says: itself, a whole number, or a coordinate in grid steps
pub data Item : Type 0 where
  Fixed : Word → Item
  Number : Role → ℕ → Item
  Coordinate : ℤ → Item

unfoldable pub mesh3d : Word
mesh3d = codes "mesh3d"

unfoldable pub dimension : Word
dimension = codes "dimension"

unfoldable pub geomtype : Word
geomtype = codes "geomtype"

unfoldable pub surfaceelements : Word
surfaceelements = codes "surfaceelements"

unfoldable pub volumeelements : Word
volumeelements = codes "volumeelements"

unfoldable pub edgesegmentsgi2 : Word
edgesegmentsgi2 = codes "edgesegmentsgi2"

unfoldable pub points_word : Word
points_word = codes "points"

unfoldable pub endmesh : Word
endmesh = codes "endmesh"

-- a number that stands for nothing else
abbrev pub plain : ℕ → Item
plain n = Number Plain n

abbrev pub corner_items : List ℕ → List Item
corner_items corners = flat_map (λ p. Number PointNumber p ∷ []) corners

-- D D 0 0 3 P1 P2 P3
abbrev pub element_items : MeshElement → List Item
element_items e = plain e.domain ∷ plain e.domain ∷ plain 0 ∷ plain 0 ∷ plain (length e.corners)
    ∷ corner_items e.corners

-- BC 0 A B 0 0 LEFT RIGHT SEGMENT 0 SEGMENT 0
abbrev pub edge_items : EdgeRow → List Item
edge_items e = plain e.bc ∷ plain 0 ∷ Number PointNumber e.a ∷ Number PointNumber e.b ∷ plain 0
    ∷ plain 0 ∷ plain e.left ∷ plain e.right ∷ plain e.segment ∷ plain 0 ∷ plain e.segment
    ∷ plain 0 ∷ []

-- X Y 0
abbrev pub point_items : Point → List Item
point_items p = Coordinate p.x ∷ Coordinate p.y ∷ Coordinate (pos 0) ∷ []

-- how many rows there are, and the rows
abbrev pub counted_items : {X : Type 0} → (X → List Item) → List X → List Item
counted_items row xs = Number Count (length xs) ∷ flat_map row xs

abbrev pub points_part : List Point → List Item
points_part points =
    Fixed points_word ∷ counted_items point_items points ++ Fixed endmesh ∷ []

abbrev pub edges_part : List EdgeRow → List Point → List Item
edges_part edges points = Fixed volumeelements ∷ plain 0 ∷ Fixed edgesegmentsgi2
    ∷ counted_items edge_items edges ++ points_part points

-- what the words of the mesh's text say
abbrev pub mesh_items : Mesh → List Item
mesh_items m = Fixed mesh3d ∷ Fixed dimension ∷ plain 2 ∷ Fixed geomtype ∷ plain 0
    ∷ Fixed surfaceelements
    ∷ counted_items element_items m.elements ++ edges_part m.edges m.points

-- ---- words

-- 10 to the power z where z is not negative, else 1
abbrev pub tens : ℤ → ℕ
tens (pos n) = 10 ^ n
tens (negsuc n) = 1

-- where coordinates have k decimals: the decimal d is x grid steps, each of which is 15625 of the last
abbrev pub IsPlace : ℕ → Dec → ℤ → Type 0
IsPlace k d x = d.digits *ℤ pos (tens (d.scale +ℤ pos k))
    ≡ x *ℤ pos (15625 * tens (neg_ℤ (d.scale +ℤ pos k)))

-- where coordinates have k decimals: the word is this text, a whole number of this value, or a decimal that is this coordinate
abbrev pub Says : ℕ → Word → Item → Type 0
Says k word (Fixed text) = word ≡ text
Says k word (Number role n) = IsWhole word × (value_of word ≡ n)
Says k word (Coordinate x) = (d : Dec) × (decimal_of word ≡ Some d) × IsPlace k d x

-- ---- ranges

-- least to greatest
pub record IsFrom (least greatest n : ℕ) : Type 0 where
  pub low : least ≤ n
  pub high : n ≤ greatest

pub record ElementInRange (e : MeshElement) : Type 0 where
  pub domain : IsFrom 1 64 e.domain
  pub three : length e.corners ≡ 3
  pub corners : AllByRecursion (λ p. p ≤ MOST_ROWS) e.corners

pub record EdgeInRange (e : EdgeRow) : Type 0 where
  pub bc : e.bc ≤ 999999
  pub a : e.a ≤ MOST_ROWS
  pub b : e.b ≤ MOST_ROWS
  pub left : e.left ≤ 64
  pub right : e.right ≤ 64
  pub segment : IsFrom 1 4096 e.segment

-- at most 16,777,216 rows of a kind, with numbers in the ranges of the text, and points on the grid
pub record InRanges (m : Mesh) : Type 0 where
  pub elements : length m.elements ≤ MOST_ROWS
  pub each_element : AllByRecursion ElementInRange m.elements
  pub edges : length m.edges ≤ MOST_ROWS
  pub each_edge : AllByRecursion EdgeInRange m.edges
  pub points : length m.points ≤ MOST_ROWS
  pub each_point : AllByRecursion IsOnGrid m.points

-- ---- the grammar

-- word by word these say what the mesh's text says, and its numbers are in their ranges
pub record Derives (shift : ℤ) (words : List Word) (m : Mesh) : Type 0 where
  pub shifted : m.shift ≡ shift
  pub says : AllZip (Says (places shift)) words (mesh_items m)
  pub ranges : InRanges m

-- among so many points, a point number names one
abbrev pub Names : ℕ → Item → Type 0
Names points (Number PointNumber n) = (0 < n) × (n ≤ points)
Names points item = Unit {0}

-- each point number names a point of the mesh
abbrev pub Known : Mesh → Type 0
Known m = AllByRecursion (Names (length m.points)) (mesh_items m)
