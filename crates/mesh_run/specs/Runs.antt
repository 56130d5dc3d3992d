-- The run of a geometry by rules: of each domain, and of all.
--
-- opening_state   with which a domain's run begins
-- setting_of      what it stands on: the sizes after cutting, the rules, the last class
-- IsDomainRun     the run of a domain, from its opening to its end
-- IsWholeRun      the run of all domains, by rising number
use Rattle.std.specs.Prelude.{ℕ, ◌≡◌, ◌+◌, List, [], length}
use Rattle.std.specs.List.{AllZip}
use Rattle.rule_reader.specs.declared.rule.Rule.{Rule}
use Rattle.geom_check.specs.declared.kinds.Segment.{Segment}
use Rattle.geom_check.specs.Domains.{domain_numbers}
use Rattle.geom_check.specs.Geometry.{PlanarMap}
use Rattle.size_field.specs.declared.pieces.Piece.{Piece}
use Rattle.size_field.specs.Cutting.{pieces_of}
use Rattle.size_field.specs.Fields.{field_after}
use Rattle.state_law.specs.State.{State}
use Rattle.mesh_run.specs.declared.Options.{Options}
use Rattle.mesh_run.specs.declared.WholeRun.{WholeRun}
use Rattle.mesh_run.specs.declared.domain_run.DomainRun.{DomainRun}
use Rattle.mesh_run.specs.Opening.{domain_points, opening_lines, front_from}
use Rattle.mesh_run.specs.Whole.{end_of_all}
use Rattle.mesh_run.specs.Steps.{RunSetting, state_after, AreNext, IsEndOf, IsWithin}

-- the domain's points and its opening lines as the front, numbered from 1, and no element
abbrev pub opening_state : ℕ → List Segment → List Piece → State
opening_state d segments pieces = record {
  points = domain_points d segments pieces;
  front = front_from 1 (opening_lines d segments pieces);
  next = 1 + length (opening_lines d segments pieces);
  elements = [];
}

-- the pieces into which the options cut the geometry's segments
abbrev pub pieces_by : PlanarMap → Options → List Piece
pieces_by g options = pieces_of g options.greatest options.grading

abbrev pub opening_of : PlanarMap → Options → ℕ → State
opening_of g options d = opening_state d g.segments (pieces_by g options)

-- what a domain's run stands on
abbrev pub setting_of : PlanarMap → List Rule → Options → ℕ → RunSetting
setting_of g rules options d = record {
  sizes = field_after g (pieces_by g options) d options.greatest options.grading;
  rules = rules;
  last = options.last;
}

-- the run of the domain: it begins with the opening, each application is the next one, at most as
-- many are made as are allowed, the points and the front
-- are those of the last state, and the end is that of this state
pub record IsDomainRun (g : PlanarMap) (rules : List Rule) (options : Options) (d : ℕ) (r : DomainRun) : Type 0 where
  pub domain : r.domain ≡ d
  pub opened : r.opened ≡ length (opening_of g options d).points
  pub lines : r.lines ≡ opening_lines d g.segments (pieces_by g options)
  pub next_ones : AreNext (setting_of g rules options d) (opening_of g options d) r.applications
  pub within : IsWithin options.limit (length r.applications)
  pub points : r.points ≡ (state_after (opening_of g options d) r.applications).points
  pub front : r.front ≡ (state_after (opening_of g options d) r.applications).front
  pub ended : IsEndOf (setting_of g rules options d) options.limit
      (state_after (opening_of g options d) r.applications) (length r.applications) r.end

-- the runs of the domains that the segments name, by rising number; Stopped if one is, else Stuck
-- if one is, else Done
pub record IsWholeRun (g : PlanarMap) (rules : List Rule) (options : Options) (w : WholeRun) : Type 0 where
  pub shift : w.shift ≡ g.shift
  pub with_options : w.options ≡ options
  pub pieces : w.pieces ≡ pieces_by g options
  pub domains : AllZip (IsDomainRun g rules options) (domain_numbers g.segments) w.domains
  pub end : w.end ≡ end_of_all w.domains
