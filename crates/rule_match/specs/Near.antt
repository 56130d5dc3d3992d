-- When a later state of a domain is, near a line, as an earlier one was.
--
-- reach_lo, reach_hi   the corners of the box that holds what rules use on a line
-- IsBox, AreBoxesApart  two corners of a box, the lesser first; one box lies beyond the other
-- IsAlikeNear          a later state is alike in a box
-- IsCoveredBy          a rule is one that a reader gives, and n covers it where it is live
-- IsCoveredAt          a rule is one that a reader gives, and n holds what its candidates up to a class use
-- IsStayingLine        a front line that the later state has too
-- IsReachBox           the box of a line's reach, cut off at the grid
-- IsFarLine            a front line whose reach lies apart from a box
use lib.IntN.{ℤ, pos, neg_ℤ, ◌+ℤ◌, ◌-ℤ◌, ◌*ℤ◌}
use lib.Signed.{◌<ℤ◌, ◌≤ℤ◌}
use Rattle.std.specs.Prelude.{ℕ, ◌≡◌, ◌⊎◌, ◌≤◌, List, ◌++◌}
use Rattle.std.specs.Int.{int_max, int_min}
use Rattle.grid_geom.specs.declared.Point.{Point}
use Rattle.grid_geom.specs.declared.Bounds.{Bounds}
use Rattle.grid_geom.specs.declared.TheConstants.{GRID}
use Rattle.std.specs.List.{Contains}
use Rattle.rule_reader.specs.declared.rule.Rule.{Rule}
use Rattle.rule_reader.specs.Normal.{IsRule}
use Rattle.rule_maps.specs.Frame.{LocalFrame, IsFrame, IsFrameOf}
use Rattle.rule_maps.specs.Inert.{IsLive}
use Rattle.rule_maps.specs.Reach.{Covers}
use Rattle.size_field.specs.Size.{SizeField, size_at}
use Rattle.rule_match.specs.Candidate.{Attempt, IsCandidate, mapped}
use Rattle.rule_match.specs.Refused.{places_of, IsAllowed}
use Rattle.state_law.specs.Saved.{AreInBox}
use Rattle.state_law.specs.State.{State, point_at, front_edges, IsNumbered}
use Rattle.state_law.specs.Refusal.{IsFront}
use Rattle.state_law.specs.Reach.{AreAlikeIn, IsWithinReach}

-- how far the box goes beyond the start of the line, for rules that n covers
abbrev pub widening : ℕ → LocalFrame → ℤ
widening n f = pos 2 *ℤ pos n *ℤ f.h +ℤ pos 1

abbrev pub reach_lo : ℕ → LocalFrame → Point
reach_lo n f = record { x = f.p1.x -ℤ widening n f; y = f.p1.y -ℤ widening n f }

abbrev pub reach_hi : ℕ → LocalFrame → Point
reach_hi n f = record { x = f.p1.x +ℤ widening n f; y = f.p1.y +ℤ widening n f }

-- the first corner is not beyond the second
pub record IsBox (lo hi : Point) : Type 0 where
  pub columns : lo.x ≤ℤ hi.x
  pub rows : lo.y ≤ℤ hi.y

-- the box from elo to ehi lies to the left of the box from lo to hi, to its right, below or above it
abbrev pub AreBoxesApart : Point → Point → Point → Point → Type 0
AreBoxesApart lo hi elo ehi = (ehi.x <ℤ lo.x) ⊎ ((hi.x <ℤ elo.x)
    ⊎ ((ehi.y <ℤ lo.y) ⊎ (hi.y <ℤ elo.y)))

-- the later state lists `more` points after those of the earlier one, and in the box the two fronts are alike: the same lines have boxes that
-- meet it, and they wind equally often round each point in it; and the later front has no greater area
pub record IsAlikeNear (lo hi : Point) (st later : State) (more : List Point) : Type 0 where
  pub points : later.points ≡ st.points ++ more
  pub numbered : IsNumbered st
  pub later_numbered : IsNumbered later
  pub front : IsFront (front_edges st.points st.front)
  pub later_front : IsFront (front_edges later.points later.front)
  pub alike : AreAlikeIn lo hi (front_edges st.points st.front)
      (front_edges later.points later.front)

-- the rule is one that a reader gives, and n covers it where it is live
pub record IsCoveredBy (n : ℕ) (r : Rule) : Type 0 where
  pub rule : IsRule r
  pub covers : IsLive r → Covers r n

-- the rule is one that a reader gives; and all places of each of its candidates at a class of at most this one lie in the
-- reach of their line by n: mapped points, new points, and the corners of the zone and of the elements. The mapped points lie there
-- also of attempts that are no candidates, where they are allowed
pub record IsCoveredAt (class n : ℕ) (r : Rule) : Type 0 where
  pub rule : IsRule r
  pub mapped_in : (st : State) (t : Attempt) → t.text ≡ r → IsAllowed st t → IsFrame t.frame
      → t.class ≤ class → AreInBox (reach_lo n t.frame) (reach_hi n t.frame) (mapped st t)
  pub within : (st : State) (t : Attempt) → t.text ≡ r → IsCandidate st t → IsFrame t.frame
      → 1 ≤ t.class → t.class ≤ class
      → IsWithinReach (reach_lo n t.frame) (reach_hi n t.frame) (places_of st t)

-- what the law asks of an attempt: a class of at least 1, a frame, a rule that n covers
pub record IsCovered (n : ℕ) (t : Attempt) : Type 0 where
  pub class : 1 ≤ t.class
  pub frame : IsFrame t.frame
  pub rule : IsRule t.text
  pub covers : Covers t.text n

-- the line is on the front, its frame at the size at its middle is f, and each later front line with its number is this line
pub record IsStayingLine (sizes : SizeField) (st later : State) (line : ℕ × ℕ × ℕ) (f : LocalFrame) : Type 0 where
  pub on_front : Contains st.front line
  pub same : (other : ℕ × ℕ × ℕ) → Contains later.front other → other.0 ≡ line.0 → other ≡ line
  pub frame : IsFrame f
  pub framed : IsFrameOf (point_at st.points line.1) (point_at st.points line.2)
      (size_at sizes f.middle) f

-- the box around the grid
abbrev pub whole_grid : Bounds
whole_grid = record {
  lo = record { x = neg_ℤ GRID; y = neg_ℤ GRID };
  hi = record { x = GRID; y = GRID };
}

-- the line has a frame, and the box is that of its reach, cut off at the grid
pub record IsReachBox (sizes : SizeField) (points : List Point) (n from to : ℕ) (box : Bounds) : Type 0 where
  pub frame : LocalFrame
  pub is_frame : IsFrame frame
  pub framed : IsFrameOf (point_at points from) (point_at points to)
      (size_at sizes frame.middle) frame
  pub left : box.lo.x ≡ int_max (reach_lo n frame).x whole_grid.lo.x
  pub right : box.hi.x ≡ int_min (reach_hi n frame).x whole_grid.hi.x
  pub below : box.lo.y ≡ int_max (reach_lo n frame).y whole_grid.lo.y
  pub above : box.hi.y ≡ int_min (reach_hi n frame).y whole_grid.hi.y

-- the front line with the number, with its frame, and the box of its reach, which is apart from the box from least to greatest
pub record IsFarLine (sizes : SizeField) (st : State) (n : ℕ) (least greatest : Point) (number : ℕ) : Type 0 where
  pub line : ℕ × ℕ × ℕ
  pub on_front : Contains st.front line
  pub numbered : line.0 ≡ number
  pub frame : LocalFrame
  pub is_frame : IsFrame frame
  pub framed : IsFrameOf (point_at st.points line.1) (point_at st.points line.2)
      (size_at sizes frame.middle) frame
  pub box : IsBox (reach_lo n frame) (reach_hi n frame)
  pub apart : AreBoxesApart (reach_lo n frame) (reach_hi n frame) least greatest
