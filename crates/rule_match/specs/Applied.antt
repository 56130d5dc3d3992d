-- What a candidate does to a domain.
--
-- numbers_from   numbers for new points, after those that are listed
-- are_new        none of the places is that of a point of the front; do_differ, no two of them are the same
-- application    the application that a candidate gives
use Rattle.std.specs.List.{list_any, list_all}
use Rattle.grid_geom.specs.Closed.{same_point}
use Rattle.front_chain.specs.Front.{number_of}
use Rattle.std.specs.Prelude.{Bool, true, not, ◌&&◌, is_none, ℕ, ◌+◌, List, [], ◌∷◌, ◌++◌, length, map}
use Rattle.grid_geom.specs.declared.Point.{Point}
use Rattle.state_law.specs.State.{State}
use Rattle.rule_match.specs.declared.application.Application.{Application}
use Rattle.rule_match.specs.Candidate.{Attempt, nth, made}

-- the numbers after n, one for each place
abbrev pub numbers_from : ℕ → List Point → List ℕ
numbers_from n [] = []
numbers_from n (p ∷ ps) = (n + 1) ∷ numbers_from (n + 1) ps

-- ---- as the code asks
-- none of the places is that of a point of the front
abbrev pub are_new : List Point → List Point → Bool
are_new points made = list_all (λ p. is_none (number_of points p)) made

-- no two places are the same
abbrev pub do_differ : List Point → Bool
do_differ [] = true
do_differ (p ∷ ps) = not (list_any (same_point p) ps) && do_differ ps

-- rule point numbers replaced by the domain's, new points after the listed ones
abbrev pub application : State → Attempt → Application
application st t = record {
  class = t.class;
  line = t.line.0;
  rule = t.rule;
  points = t.points;
  made = made st t;
  elements = map (map (nth (t.points
      ++ numbers_from (length st.points) (made st t)))) t.text.elements;
}
