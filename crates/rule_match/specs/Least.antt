-- How bad an attempt's elements are, and the least candidate of a line and class.
-- Origin: NETGEN's choice among rules, with this project's own order.
--
-- badness_of   of one element: (sum of squared sides) / (doubled area)
-- rank         what is compared of an attempt: its worst element, its rule, its points
-- IsOf         an attempt on this line at this class
-- IsLeast      the least candidate; HasNone: there is no candidate
use lib.IntN.{ℤ, ◌-ℤ◌}
use Rattle.std.specs.Prelude.{ℕ, ◌≡◌, ◌+◌, ◌-◌, ◌*◌, ◌≤◌, true, false, List, [], ◌∷◌, slice_get, Some}
use Rattle.std.specs.Int.RustNames.{unsigned_abs}
use Rattle.std.specs.Ordering.{is_gt}
use Rattle.std.specs.List.{Contains}
use Rattle.grid_geom.specs.declared.Point.{Point}
use Rattle.grid_geom.specs.declared.Edge.{Edge}
use Rattle.grid_geom.specs.Polygon.{sides}
use Rattle.grid_geom.specs.Area.{shoelace}
use Rattle.rule_reader.specs.declared.rule.Rule.{Rule}
use Rattle.state_law.specs.State.{State, point_at}
use Rattle.size_field.specs.Size.{SizeField, size_at}
use Rattle.rule_maps.specs.Frame.{IsFrameOf}
use Rattle.rule_match.specs.declared.badness.Badness.{Badness}
use Rattle.rule_match.specs.declared.found.Found.{Found}
use Rattle.rule_match.specs.Order.{badness_cmp, rank_cmp}
use Rattle.rule_match.specs.Candidate.{Attempt, IsCandidate, elements}

abbrev pub square : ℤ → ℕ
square z = unsigned_abs z * unsigned_abs z

-- the sum of the squared lengths
abbrev pub squares : List Edge → ℕ
squares [] = 0
squares (e ∷ es) = square (e.b.x -ℤ e.a.x) + square (e.b.y -ℤ e.a.y) + squares es

-- of one element: (sum of squared sides) / (doubled area)
abbrev pub badness_of : List Point → Badness
badness_of corners = record {
  squares = squares (sides corners);
  area = unsigned_abs (shoelace (sides corners));
}

-- the first unless the second is greater
abbrev pub worse : Badness → Badness → Badness
worse x y = elim (is_gt (badness_cmp y x)) [ true ↦ y | false ↦ x ]

-- the greatest over the elements
abbrev pub worst : Badness → List (List Point) → Badness
worst x [] = x
worst x (corners ∷ elements) = worst (worse x (badness_of corners)) elements

-- what is compared of the candidates of one line and class
abbrev pub rank : State → Attempt → Found
rank st t = record {
  badness = worst (record { squares = 0; area = 1 }) (elements st t);
  rule = t.rule;
  points = t.points;
}

-- the attempt is one on the front line with the number, with its frame at the size at its middle, at the class, by a rule of the list with its number
pub record IsOf (sizes : SizeField) (st : State) (rules : List Rule) (line class : ℕ) (t : Attempt) : Type 0 where
  pub on_front : Contains st.front t.line
  pub same_line : t.line.0 ≡ line
  pub framed : IsFrameOf (point_at st.points t.line.1) (point_at st.points t.line.2)
      (size_at sizes t.frame.middle) t.frame
  pub same_class : t.class ≡ class
  pub numbered : 1 ≤ t.rule
  pub is_rule : slice_get rules (t.rule - 1) ≡ Some t.text

-- the least candidate of the line at the class
pub record IsLeast (sizes : SizeField) (st : State) (rules : List Rule) (line class : ℕ) (t : Attempt) : Type 0 where
  pub of : IsOf sizes st rules line class t
  pub candidate : IsCandidate st t
  pub least : (other : Attempt) → IsOf sizes st rules line class other → IsCandidate st other
      → is_gt (rank_cmp (rank st t) (rank st other)) ≡ false

-- none of the line's attempts at the class is a candidate
pub record HasNone (sizes : SizeField) (st : State) (rules : List Rule) (line class : ℕ) : Type 0 where
  pub none : (t : Attempt) → IsOf sizes st rules line class t → IsCandidate st t → ⊥
