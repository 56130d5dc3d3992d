-- What the tables of rules stand for (inner).
use Rattle.std.specs.Prelude.{ℕ, true, false, List, [], ◌∷◌, ◌++◌, map}
use Rattle.rule_reader.specs.declared.rule.Place.{Place}
use Rattle.rule_reader.specs.declared.rule.Rule.{Rule}
use Rattle.sample.specs.declared.plans.Corner.{Corner}
use Rattle.sample.specs.declared.plans.Plan.{Plan}
use Rattle.sample.specs.Twelve.{share}

-- the place of a corner
abbrev pub place_of : Corner → Place
place_of c = record {
  x = c.0;
  y = c.1;
  row_x = share c.2 false 2 ++ share c.3 false 3;
  row_y = share c.4 true 3;
}

-- the corners of an element
abbrev pub element_of : ℕ × ℕ × ℕ → List ℕ
element_of t = t.0 ∷ t.1 ∷ t.2 ∷ []

-- the rule of a table
abbrev pub rule_of : Plan → Rule
rule_of plan = record {
  name = plan.name.now;
  quality = plan.quality;
  points = plan.points.now;
  lines = plan.lines.now;
  new_points = map place_of plan.new_points.now;
  new_lines = plan.new_lines.now;
  area = map place_of plan.area.now;
  limit = map place_of plan.limit.now;
  elements = map element_of plan.elements.now;
  turns = [];
}
