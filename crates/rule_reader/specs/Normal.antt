-- The normal text of rules.
--
-- number_text  a number of units of 1/10,000: a minus, the whole part, a point and the decimals without noughts at the end
-- rule_text    a rule: its name, its quality, each section that has entries with an entry a line, and `endrule`
-- normal_text  the rules one after another
-- CanPrint     rules that a reader gives
use Rattle.std.specs.Prelude.{◌≡◌, ◌≢◌, ℕ, zero, suc, ◌+◌, ◌/◌, ◌%◌, ◌^◌, ◌<◌, ◌≤◌, ◌==◌, if◌then◌else◌, Bool, true, false, List, [], ◌∷◌, ◌++◌, length, ℤ, pos, negsuc, unsigned_abs, codes}
use Rattle.std.specs.List.{flat_map, AllByRecursion}
use Rattle.std.specs.Fmt.{decimal}
use Rattle.rule_reader.specs.declared.rule.Triple.{Triple}
use Rattle.rule_reader.specs.declared.rule.MapPoint.{MapPoint}
use Rattle.rule_reader.specs.declared.rule.MapLine.{MapLine}
use Rattle.rule_reader.specs.declared.rule.Term.{Term}
use Rattle.rule_reader.specs.declared.rule.Place.{Place}
use Rattle.rule_reader.specs.declared.rule.Rule.{Rule}
use Rattle.rule_reader.specs.Verdict.{loose_starts}

-- ---- numbers

-- a minus where the number is below nought
abbrev pub minus : ℤ → List ℕ
minus (pos n) = []
minus (negsuc n) = 45 ∷ []

-- the decimals of part / 10^places, without noughts at the end
abbrev pub decimals : ℕ → ℕ → List ℕ
decimals zero part = []
decimals (suc places) part = if part == 0 then []
    else (48 + part / 10 ^ places) ∷ decimals places (part % 10 ^ places)

-- a point and the decimals, if there are any
abbrev pub fraction_text : ℕ → List ℕ
fraction_text part = if part == 0 then [] else 46 ∷ decimals 4 part

unfoldable pub number_text : ℤ → List ℕ
number_text z = minus z ++ (decimal (unsigned_abs z / 10000)
    ++ fraction_text (unsigned_abs z % 10000))

-- ---- entries

-- what stands between two numbers
abbrev pub comma : List ℕ
comma = codes ", "

-- what an entry ends with
abbrev pub close : List ℕ
close = codes ";\n"

abbrev pub coordinates_text : ℤ → ℤ → List ℕ
coordinates_text x y = codes "(" ++ (number_text x ++ (comma ++ (number_text y ++ codes ")")))

abbrev pub ends_text : ℕ → ℕ → List ℕ
ends_text i j = codes "(" ++ (decimal i ++ (comma ++ (decimal j ++ codes ")")))

abbrev pub triple_text : Triple → List ℕ
triple_text t = codes " { " ++ (number_text t.f1
    ++ (comma ++ (number_text t.f2 ++ (comma ++ (number_text t.f3 ++ codes " }")))))

abbrev pub map_point_text : MapPoint → List ℕ
map_point_text p = coordinates_text p.x p.y ++ (triple_text p.tol ++ close)

abbrev pub del_text : Bool → List ℕ
del_text true = codes " del"
del_text false = []

abbrev pub map_line_text : MapLine → List ℕ
map_line_text l = ends_text l.i l.j ++ (triple_text l.tol ++ (del_text l.del ++ close))

abbrev pub letter_text : Bool → List ℕ
letter_text true = codes " Y"
letter_text false = codes " X"

abbrev pub term_text : Term → List ℕ
term_text t = number_text t.coefficient ++ (letter_text t.of_y ++ decimal t.point)

-- terms, each behind a comma
abbrev pub more_terms_text : List Term → List ℕ
more_terms_text ts = flat_map (λ t. comma ++ term_text t) ts

abbrev pub row_text : List Term → List ℕ
row_text [] = codes " { }"
row_text (t ∷ ts) = codes " { " ++ (term_text t ++ (more_terms_text ts ++ codes " }"))

abbrev pub place_text : Place → List ℕ
place_text p = coordinates_text p.x p.y ++ (row_text p.row_x ++ (row_text p.row_y ++ close))

abbrev pub pair_text : ℕ × ℕ → List ℕ
pair_text p = ends_text p.0 p.1 ++ close

-- numbers, each behind a comma
abbrev pub more_numbers_text : List ℕ → List ℕ
more_numbers_text ns = flat_map (λ n. comma ++ decimal n) ns

abbrev pub element_text : List ℕ → List ℕ
element_text [] = codes "()" ++ close
element_text (n ∷ ns) = codes "(" ++ (decimal n ++ (more_numbers_text ns ++ (codes ")" ++ close)))

abbrev pub turn_text : ℕ × ℕ × ℕ → List ℕ
turn_text t = element_text (t.0 ∷ t.1 ∷ t.2 ∷ [])

-- ---- rules

-- a section's word on a line, and an entry a line; nothing without entries
abbrev pub section_text : {A : Type 0} → List ℕ → (A → List ℕ) → List A → List ℕ
section_text word text [] = []
section_text word text (x ∷ xs) = word ++ flat_map text (x ∷ xs)

abbrev pub sections_text : Rule → List ℕ
sections_text r =
    section_text (codes "mappoints\n") map_point_text r.points ++ (
    section_text (codes "maplines\n") map_line_text r.lines ++ (
    section_text (codes "newpoints\n") place_text r.new_points ++ (
    section_text (codes "newlines\n") pair_text r.new_lines ++ (
    section_text (codes "freearea\n") place_text r.area ++ (
    section_text (codes "freearea2\n") place_text r.limit
    ++ (section_text (codes "elements\n") element_text r.elements
    ++ section_text (codes "orientations\n") turn_text r.turns)
    )
    )
    )
    )
    )

abbrev pub head_text : Rule → List ℕ
head_text r = codes "rule \"" ++ (r.name ++ (codes "\"\nquality "
    ++ (decimal r.quality ++ codes "\n")))

abbrev pub rule_text : Rule → List ℕ
rule_text r = head_text r ++ (sections_text r ++ codes "endrule\n")

abbrev pub normal_text : List Rule → List ℕ
normal_text rules = flat_map rule_text rules

-- ---- what can be printed

-- at most 16 in size, in units of 1/10,000
abbrev pub IsNumber : ℤ → Type 0
IsNumber z = unsigned_abs z ≤ 160000

-- at most 1,000 in size
abbrev pub IsWeight : ℤ → Type 0
IsWeight z = unsigned_abs z ≤ 10000000

-- a number from 1 to this count of points
abbrev pub Names : ℕ → ℕ → Type 0
Names count n = (0 < n) × (n ≤ count)

-- so many at most, each of this kind
abbrev pub AtMost : {A : Type 0} → ℕ → (A → Type 0) → List A → Type 0
AtMost most P xs = (length xs ≤ most) × AllByRecursion P xs

pub record IsTriple (t : Triple) : Type 0 where
  pub f1 : IsWeight t.f1
  pub f2 : IsWeight t.f2
  pub f3 : IsWeight t.f3

pub record IsMapPoint (p : MapPoint) : Type 0 where
  pub x : IsNumber p.x
  pub y : IsNumber p.y
  pub tol : IsTriple p.tol

pub record IsMapLine (points : ℕ) (l : MapLine) : Type 0 where
  pub i : Names points l.i
  pub j : Names points l.j
  pub tol : IsTriple l.tol

pub record IsTerm (points : ℕ) (t : Term) : Type 0 where
  pub coefficient : IsNumber t.coefficient
  pub point : Names points t.point

pub record IsPlace (points : ℕ) (p : Place) : Type 0 where
  pub x : IsNumber p.x
  pub y : IsNumber p.y
  pub row_x : AtMost 32 (IsTerm points) p.row_x
  pub row_y : AtMost 32 (IsTerm points) p.row_y

-- the first line goes from point 1 to point 2
abbrev pub BeginsAtBase : List MapLine → Type 0
BeginsAtBase [] = ⊥
BeginsAtBase (l ∷ ls) = (l.i ≡ 1) × (l.j ≡ 2)

-- its name, numbers and indices are in their ranges, its entries within the limits, and at most three parts of its graph don't hold point 1
pub record IsRule (r : Rule) : Type 0 where
  pub short : length r.name ≤ 200
  pub name : AllByRecursion (λ b. (b ≢ 34) × (b ≢ 10)) r.name
  pub quality : r.quality ≤ 1000
  pub points : AtMost 16 IsMapPoint r.points
  pub lines : AtMost 16 (IsMapLine (length r.points)) r.lines
  pub base : BeginsAtBase r.lines
  pub new_points : AtMost 8 (IsPlace (length r.points)) r.new_points
  pub new_lines : AtMost 24 (λ l. Names (length r.points + length r.new_points) l.0
      × Names (length r.points + length r.new_points) l.1) r.new_lines
  pub area : AtMost 24 (IsPlace (length r.points)) r.area
  pub limit : AtMost 24 (IsPlace (length r.points)) r.limit
  pub elements : AtMost 8 (λ e. (length e ≡ 3)
      × AllByRecursion (Names (length r.points + length r.new_points)) e) r.elements
  pub turns : AtMost 16 (λ t. Names (length r.points) t.0 × Names (length r.points) t.1
      × Names (length r.points) t.2) r.turns
  pub starts : loose_starts (length r.points) r.lines ≤ 3

-- rules within the limits, as a reader gives them
abbrev pub CanPrint : List Rule → Type 0
CanPrint rules = AtMost 256 IsRule rules
