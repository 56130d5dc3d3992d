-- The twelve rules, after those of NETGEN, by their places in units of 1/10,000.
--
-- corner        a new point or a corner of a zone, with what it follows
-- mapped, line  a mapped point, and a mapped line that leaves the front
-- free, closing a rule with a new point, and one with the triangle of a third point
-- twelve        the rules
use Rattle.std.specs.Prelude.{ℕ, zero, Bool, true, false, List, [], ◌∷◌, ◌++◌, codes, ℤ, pos, neg_ℤ}
use Rattle.rule_reader.specs.declared.rule.Triple.{Triple}
use Rattle.rule_reader.specs.declared.rule.MapPoint.{MapPoint}
use Rattle.rule_reader.specs.declared.rule.MapLine.{MapLine}
use Rattle.rule_reader.specs.declared.rule.Term.{Term}
use Rattle.rule_reader.specs.declared.rule.Place.{Place}
use Rattle.rule_reader.specs.declared.rule.Rule.{Rule}

-- so much of the deviation of a point, in y or in x; nothing where that is 0
abbrev pub share : ℤ → Bool → ℕ → List Term
share (pos zero) of_y point = []
share coefficient of_y point = record { coefficient = coefficient; of_y = of_y; point = point } ∷ []

-- the place (x, y), which follows so much of the deviation of point 2 in x, and of point 3 in x and in y
abbrev pub corner : ℤ → ℕ → ℕ → ℕ → ℕ → Place
corner x y x2 x3 y3 = record {
  x = x;
  y = pos y;
  row_x = share (pos x2) false 2 ++ share (pos x3) false 3;
  row_y = share (pos y3) true 3;
}

-- the corners at the ends of the base and at the third point, and half way from the ends to it
abbrev pub first : Place
first = corner (pos 0) 0 0 0 0

abbrev pub second : Place
second = corner (pos 10000) 0 10000 0 0

abbrev pub third : Place
third = corner (pos 5000) 8660 0 10000 10000

abbrev pub left_half : Place
left_half = corner (pos 2500) 4330 0 5000 5000

abbrev pub right_half : Place
right_half = corner (pos 7500) 4330 5000 5000 5000

-- a tolerance alike in both directions: the usual one, and looser ones
abbrev pub usual : ℕ
usual = 10000

abbrev pub loose : ℕ
loose = 3000

abbrev pub loosest : ℕ
loosest = 500

abbrev pub weights : ℕ → Triple
weights f = record { f1 = pos f; f2 = pos 0; f3 = pos f }

abbrev pub mapped : ℤ → ℕ → ℕ → MapPoint
mapped x y tolerance = record { x = x; y = pos y; tol = weights tolerance }

-- the ends of the base
abbrev pub base_start : MapPoint
base_start = mapped (pos 0) 0 usual

abbrev pub base_end : MapPoint
base_end = mapped (pos 10000) 0 usual

-- a line that leaves the front
abbrev pub line : ℕ → ℕ → ℕ → MapLine
line i j tolerance = record { i = i; j = j; tol = weights tolerance; del = true }

-- the triangle of the first three points
abbrev pub triangle : List (List ℕ)
triangle = (1 ∷ 2 ∷ 3 ∷ []) ∷ []

-- the lines from the base's start to the third point, and from there to its end
abbrev pub both_sides : List (ℕ × ℕ)
both_sides = (1, 3) ∷ (3, 2) ∷ []

-- a new point so high over the base, in a zone with three more corners, which shrinks to the point at higher classes
abbrev pub free : List ℕ → ℕ → ℕ → Place → Place → Place → Rule
free name quality height right top left = let new = corner (pos 5000) height 5000 0 0 in record {
  name = name;
  quality = quality;
  points = base_start ∷ base_end ∷ [];
  lines = line 1 2 usual ∷ [];
  new_points = new ∷ [];
  new_lines = both_sides;
  area = first ∷ second ∷ right ∷ top ∷ left ∷ [];
  limit = first ∷ second ∷ new ∷ new ∷ new ∷ [];
  elements = triangle;
  turns = [];
}

-- a new point over the base
unfoldable pub free_1 : Rule
free_1 = free (codes "Free Triangle (1)") 1 8660 (corner (pos 15000) 7000 5000 0 0)
    (corner (pos 5000) 15000 5000 0 0) (corner (neg_ℤ (pos 5000)) 7000 5000 0 0)

-- a lower new point over the base, from class 5 on
unfoldable pub free_5 : Rule
free_5 = free (codes "Free Triangle (5)") 5 6000 (corner (pos 9000) 6000 5000 0 0)
    (corner (pos 5000) 9000 5000 0 0) (corner (pos 1000) 6000 5000 0 0)

-- a new point close to the base, from class 9 on
unfoldable pub free_9 : Rule
free_9 = free (codes "Free Triangle (9)") 9 3500 (corner (pos 8000) 3000 5000 0 0)
    (corner (pos 5000) 5000 5000 0 0) (corner (pos 2000) 3000 5000 0 0)

-- the triangle of the base and a third point of the front, which stands over the base, with these corners more of its zone
abbrev pub closing : List ℕ → ℕ → ℕ → List MapLine → List (ℕ × ℕ) → List Place → List Place → Rule
closing name quality tolerance lines new_lines area limit = record {
  name = name;
  quality = quality;
  points = base_start ∷ base_end ∷ mapped (pos 5000) 8660 tolerance ∷ [];
  lines = line 1 2 usual ∷ lines;
  new_points = [];
  new_lines = new_lines;
  area = first ∷ second ∷ area;
  limit = limit;
  elements = triangle;
  turns = [];
}

-- three lines that are the sides of a triangle
unfoldable pub close : Rule
close = closing (codes "Close") 1 usual (line 2 3 usual ∷ line 3 1 usual ∷ []) [] (third ∷ []) []

-- closes the corner at the left of the base
unfoldable pub left : Rule
left = closing (codes "Left") 1 usual (line 3 1 usual ∷ []) ((3, 2) ∷ [])
    (corner (pos 11000) 7500 5000 5000 5000 ∷ third ∷ [])
    (first ∷ second ∷ right_half ∷ third ∷ [])

-- closes the corner at the right of the base
unfoldable pub right : Rule
right = closing (codes "Right") 1 usual (line 2 3 usual ∷ []) ((1, 3) ∷ [])
    (third ∷ corner (neg_ℤ (pos 1000)) 7500 0 5000 5000 ∷ [])
    (first ∷ second ∷ third ∷ left_half ∷ [])

-- takes a point of the front that stands over the base
unfoldable pub over : Rule
over = closing (codes "Point") 1 usual [] both_sides
    (corner (pos 11000) 6000 5000 5000 5000 ∷ third
    ∷ corner (neg_ℤ (pos 1000)) 6000 0 5000 5000 ∷ [])
    (first ∷ second ∷ right_half ∷ third ∷ left_half ∷ [])

-- closes the corner at the left, with loose tolerances, from class 6 on
unfoldable pub left_6 : Rule
left_6 = closing (codes "Left (6)") 6 loose (line 3 1 loose ∷ []) ((3, 2) ∷ []) (third ∷ []) []

-- closes the corner at the right, with loose tolerances, from class 6 on
unfoldable pub right_6 : Rule
right_6 = closing (codes "Right (6)") 6 loose (line 2 3 loose ∷ []) ((1, 3) ∷ []) (third ∷ []) []

-- takes any point of the front near the base, from class 8 on
unfoldable pub any_point : Rule
any_point = closing (codes "Any point") 8 loosest [] both_sides (third ∷ []) []

-- two triangles in a wide corner at the left of the base
unfoldable pub two_left : Rule
two_left = record {
  name = codes "Two at the left";
  quality = 1;
  points = base_start ∷ base_end ∷ mapped (neg_ℤ (pos 5000)) 8660 usual ∷ [];
  lines = line 1 2 usual ∷ line 3 1 usual ∷ [];
  new_points = corner (pos 5000) 8660 5000 5000 5000 ∷ [];
  new_lines = (4, 2) ∷ (3, 4) ∷ [];
  area =
      first ∷ second ∷ corner (pos 14000) 9000 5000 5000 5000
      ∷ corner (pos 5000) 16000 5000 5000 5000 ∷ corner (neg_ℤ (pos 5000)) 8660 0 10000 10000
      ∷ [];
  limit =
      first ∷ second ∷ corner (pos 5000) 8660 5000 5000 5000
      ∷ corner (pos 5000) 8660 5000 5000 5000 ∷ corner (neg_ℤ (pos 5000)) 8660 0 10000 10000
      ∷ [];
  elements = (1 ∷ 2 ∷ 4 ∷ []) ∷ (1 ∷ 4 ∷ 3 ∷ []) ∷ [];
  turns = [];
}

-- two triangles in a wide corner at the right of the base
unfoldable pub two_right : Rule
two_right = record {
  name = codes "Two at the right";
  quality = 1;
  points = base_start ∷ base_end ∷ mapped (pos 15000) 8660 usual ∷ [];
  lines = line 1 2 usual ∷ line 2 3 usual ∷ [];
  new_points = corner (pos 5000) 8660 0 5000 5000 ∷ [];
  new_lines = (1, 4) ∷ (4, 3) ∷ [];
  area =
      first ∷ second ∷ corner (pos 15000) 8660 0 10000 10000
      ∷ corner (pos 5000) 16000 0 5000 5000 ∷ corner (neg_ℤ (pos 4000)) 9000 0 5000 5000 ∷ [];
  limit =
      first ∷ second ∷ corner (pos 15000) 8660 0 10000 10000
      ∷ corner (pos 5000) 8660 0 5000 5000 ∷ corner (pos 5000) 8660 0 5000 5000 ∷ [];
  elements = (1 ∷ 2 ∷ 4 ∷ []) ∷ (2 ∷ 3 ∷ 4 ∷ []) ∷ [];
  turns = [];
}

-- the twelve rules, in their order
unfoldable pub twelve : List Rule
twelve =
    free_1 ∷ free_5 ∷ free_9 ∷ close ∷ left ∷ right ∷ over ∷ two_left ∷ two_right ∷ left_6
    ∷ right_6 ∷ any_point ∷ []
