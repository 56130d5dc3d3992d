-- The tests of a rule's points that look at the points alone, as a search makes them: numbers here stand for near points.
--
-- Setting         a rule tried on a base line at a class, with the near points and the front lines between them
-- near_at         the near point that a number stands for
-- point_test      a near point may be mapped at this position: it is an end of the base line where it must be, and tolerated
-- line_test       two near points are joined by a front line that is tolerated
-- turn_test       three near points turn counterclockwise
-- ties            all these tests; `starts`: nothing mapped yet passes them
use lib.IntN.{ℤ, pos, ◌-ℤ◌}
use lib.Signed.{le_z, lt_z}
use Rattle.std.specs.Prelude.{◌≡◌, refl, ℕ, zero, suc, ◌+◌, ◌-◌, ◌*◌, Bool, true, ◌&&◌, nat_eq, nat_lt, List, [], ◌∷◌, ◌++◌, length, map, slice_index_or}
use Rattle.std.specs.List.{list_any, list_all}
use Rattle.grid_geom.specs.Plane.{orient}
use Rattle.rule_reader.specs.declared.rule.Rule.{Rule}
use Rattle.rule_reader.specs.declared.rule.Triple.{Triple}
use Rattle.rule_reader.specs.declared.rule.MapPoint.{MapPoint}
use Rattle.rule_reader.specs.declared.rule.MapLine.{MapLine}
use Rattle.rule_match.specs.declared.near.NearPoint.{NearPoint}
use Rattle.rule_match.specs.Candidate.{measure, rule_place}
use Rattle.rule_match.specs.Fitting.{Tie, is_met, fits_so_far}

-- a rule tried on a base line, by the numbers of its ends, at a class, with the near points and the front lines between them
pub record Setting : Type 0 where
  pub class : ℕ
  pub from : ℕ
  pub to : ℕ
  pub near : List NearPoint
  pub lines : List (ℕ × ℕ)
  pub rule : Rule

abbrev pub nowhere : NearPoint
nowhere = record { number = 0; at = record { x = pos 0; y = pos 0 }; x = pos 0; y = pos 0 }

-- the near point that a number stands for, from 0
abbrev pub near_at : List NearPoint → ℕ → NearPoint
near_at near k = slice_index_or near k nowhere

-- the measure is at most (5 + 3 class) / 10, in three factors of 1/10,000
abbrev pub is_tolerated : ℕ → Triple → ℤ → ℤ → Bool
is_tolerated class f dx dy = le_z (measure f dx dy) (pos ((5 + 3 * class) * 100000000000))

-- rule points 1 and 2 are the ends of the base line
abbrev pub is_end_right : Setting → ℕ → ℕ → Bool
is_end_right s zero n = nat_eq n s.from
is_end_right s (suc zero) n = nat_eq n s.to
is_end_right s (suc (suc k)) n = true

-- the number stands for a near point, an end of the base line where it must be, and not too far from its place in the rule
abbrev pub point_test : Setting → ℕ → MapPoint → ℕ → Bool
point_test s k p n =
    nat_lt n (length s.near)
    && (is_end_right s k (near_at s.near n).number
    && is_tolerated s.class p.tol ((near_at s.near n).x -ℤ p.x) ((near_at s.near n).y -ℤ p.y))

abbrev pub does_go : ℕ → ℕ → ℕ × ℕ → Bool
does_go a b line = nat_eq line.0 a && nat_eq line.1 b

-- a front line goes from one to the other, and its way isn't too far from that in the rule
abbrev pub line_test : Setting → MapLine → NearPoint → NearPoint → Bool
line_test s l a b =
    list_any (does_go a.number b.number) s.lines
    && is_tolerated s.class l.tol
    ((b.x -ℤ a.x) -ℤ ((rule_place s.rule.points l.j).x -ℤ (rule_place s.rule.points l.i).x))
    ((b.y -ℤ a.y) -ℤ ((rule_place s.rule.points l.j).y -ℤ (rule_place s.rule.points l.i).y))

abbrev pub turn_test : NearPoint → NearPoint → NearPoint → Bool
turn_test a b c = lt_z (pos 0) (orient a.at b.at c.at)

-- ---- the same as tests of positions in the rule's order, from 0
abbrev pub point_tie : Setting → ℕ → MapPoint → Tie
point_tie s k p = record { at = k ∷ []; test = λ ns. point_test s k p (slice_index_or ns 0 0) }

abbrev pub point_ties : Setting → ℕ → List MapPoint → List Tie
point_ties s k [] = []
point_ties s k (p ∷ ps) = point_tie s k p ∷ point_ties s (k + 1) ps

abbrev pub line_tie : Setting → MapLine → Tie
line_tie s l = record {
  at = (l.i - 1) ∷ (l.j - 1) ∷ [];
  test = λ ns. line_test s l (near_at s.near (slice_index_or ns 0 0))
      (near_at s.near (slice_index_or ns 1 0));
}

abbrev pub turn_tie : Setting → ℕ × ℕ × ℕ → Tie
turn_tie s t = record {
  at = (t.0 - 1) ∷ (t.1 - 1) ∷ (t.2 - 1) ∷ [];
  test = λ ns. turn_test (near_at s.near (slice_index_or ns 0 0))
      (near_at s.near (slice_index_or ns 1 0)) (near_at s.near (slice_index_or ns 2 0));
}

abbrev pub other_ties : Setting → List Tie
other_ties s = map (line_tie s) s.rule.lines ++ map (turn_tie s) s.rule.turns

abbrev pub ties : Setting → List Tie
ties s = point_ties s 0 s.rule.points ++ other_ties s

-- ---- with no point mapped yet no test can be made
start_points : (s : Setting) (k : ℕ) (ms : List MapPoint) (rest : List Tie)
    → list_all (is_met []) rest ≡ true → list_all (is_met []) (point_ties s k ms ++ rest) ≡ true
start_points s k [] rest h = h
start_points s k (m ∷ ms) rest h = start_points s (k + 1) ms rest h

start_lines : (s : Setting) (ls : List MapLine) (rest : List Tie) → list_all (is_met []) rest ≡ true
    → list_all (is_met []) (map (line_tie s) ls ++ rest) ≡ true
start_lines s [] rest h = h
start_lines s (l ∷ ls) rest h = start_lines s ls rest h

start_turns : (s : Setting) (ns : List (ℕ × ℕ × ℕ))
    → list_all (is_met []) (map (turn_tie s) ns) ≡ true
start_turns s [] = refl
start_turns s (n ∷ ns) = start_turns s ns

pub starts : (s : Setting) → fits_so_far (ties s) [] ≡ true
starts s = start_points s 0 s.rule.points (other_ties s)
    (start_lines s s.rule.lines (map (turn_tie s) s.rule.turns) (start_turns s s.rule.turns))
