-- What contracts see of a domain's run while it goes on, and what is true of every run.
--
-- RunBasis     what stays as it was at the opening: domain, options, sizes, rules, and the opening lists
-- RunState     the basis, the applications so far, and the state that they have come to
-- RunParts     what a run holds; run_of, the run that it makes
-- IsRunState   the state is that of the definition after these applications, each of which was the next one
-- IsStepped    what a step makes of a run, by what it says; DoesTakeArea, that it takes from the front's area
-- GoesOn       what steps one after another make of a run; IsEndOfRun, how it ends
-- opened_run   the run at its opening; domain_run, what is kept of it at its end
use Rattle.std.specs.Prelude.{ℕ, ◌≡◌, ◌≢◌, ◌⊎◌, ◌+◌, ◌<◌, ◌≤◌, List, [], ◌∷◌, ◌++◌, length, take}
use Rattle.std.specs.List.{All}
use Rattle.grid_geom.specs.Area.{shoelace}
use Rattle.rule_reader.specs.declared.rule.Rule.{Rule}
use Rattle.geom_check.specs.Geometry.{PlanarMap}
use Rattle.size_field.specs.Size.{SizeField, AreLimits}
use Rattle.state_law.specs.State.{State}
use Rattle.front_chain.specs.Front.{FrontState, or_zero}
use Rattle.rule_match.specs.declared.application.Application.{Application}
use Rattle.mesh_run.specs.declared.Options.{Options}
use Rattle.mesh_run.specs.Boundary.{IsNumberTo}
use Rattle.mesh_run.specs.declared.domain_run.DomainRun.{DomainRun}
use Rattle.mesh_run.specs.Opening.{front_from, opening_lines}
use Rattle.mesh_run.specs.Runs.{pieces_by, opening_of, setting_of}
use Rattle.mesh_run.specs.declared.stepped.Stepped.{Stepped}
use Rattle.mesh_run.specs.declared.stepped.Stepped.TheVariants.{Applied, Done, Stuck}
use Rattle.mesh_run.specs.declared.End.{End}
use Rattle.mesh_run.specs.Reached.{front_at}
use Rattle.mesh_run.specs.Steps.{RunSetting, IsNext, NothingApplies, applied, state_after, AreNext, IsEndOf, IsWithin}

-- `opened` of the points were there at the opening
pub record RunBasis : Type 0 where
  pub domain : ℕ
  pub options : Options
  pub sizes : SizeField
  pub rules : List Rule
  pub opened : ℕ
  pub lines : List (ℕ × ℕ)
  pub opening : State

pub record RunState : Type 0 where
  pub basis : RunBasis
  pub applications : List Application
  pub state : State

-- what a run holds: the first `opened` points of the front were there at the opening
pub record RunParts : Type 0 where
  pub domain : ℕ
  pub options : Options
  pub sizes : SizeField
  pub rules : List Rule
  pub opened : ℕ
  pub lines : List (ℕ × ℕ)
  pub front : FrontState
  pub applications : List Application

-- the elements of applications, in order of making
abbrev pub elements_made : List Application → List (List ℕ)
elements_made [] = []
elements_made (a ∷ more) = a.elements ++ elements_made more

-- a front as a state with these elements
abbrev pub with_elements : FrontState → List (List ℕ) → State
with_elements f elements = record {
  points = f.points;
  front = f.lines;
  next = f.next;
  elements = elements;
}

-- the state with which a run began
abbrev pub began : RunParts → State
began p = record {
  points = take p.opened p.front.points;
  front = front_from 1 p.lines;
  next = 1 + length p.lines;
  elements = [];
}

-- the run that these parts make
abbrev pub run_of : RunParts → RunState
run_of p = record {
  basis = record {
    domain = p.domain;
    options = p.options;
    sizes = p.sizes;
    rules = p.rules;
    opened = p.opened;
    lines = p.lines;
    opening = began p;
  };
  applications = p.applications;
  state = with_elements p.front (elements_made p.applications);
}

-- the greatest size and the grading are limits of sizes, and the last class is one from 1 to 16
pub record AreOptions (o : Options) : Type 0 where
  pub limits : AreLimits o.greatest o.grading
  pub first_class : 1 ≤ o.last
  pub last_class : o.last ≤ 16

-- what the run stands on
abbrev pub setting_by : RunBasis → RunSetting
setting_by b = record { sizes = b.sizes; rules = b.rules; last = b.options.last }

-- each application's elements name points from 1 to n
abbrev pub DoName : ℕ → List Application → Type 0
DoName n applications = All (λ a. All (All (IsNumberTo n)) a.elements) applications

pub record IsRunState (r : RunState) : Type 0 where
  pub options : AreOptions r.basis.options
  pub opened : length r.basis.opening.points ≡ r.basis.opened
  pub next_ones : AreNext (setting_by r.basis) r.basis.opening r.applications
  pub reached : r.state ≡ state_after r.basis.opening r.applications
  -- no fewer points than at the opening, and the elements name them
  pub grows : r.basis.opened ≤ length r.state.points
  pub names : DoName (length r.state.points) r.applications

-- ---- steps
-- the run after one more application
abbrev pub run_after : RunState → Application → RunState
run_after r a = record {
  basis = r.basis;
  applications = r.applications ++ a ∷ [];
  state = applied r.state a;
}

-- what a step makes of a run, by what it says: it applies what comes next; or it says that no front is left, or that one is left and nothing
-- applies, and changes nothing
abbrev pub IsStepped : RunState → RunState → Stepped → Type 0
IsStepped before after (Applied a) = IsNext (setting_by before.basis) before.state a
    × (after ≡ run_after before a)
IsStepped before after Done = (before.state.front ≡ []) × (after ≡ before)
IsStepped before after Stuck = (before.state.front ≢ [])
    × NothingApplies (setting_by before.basis) before.state × (after ≡ before)

-- the doubled area of a run's front, read as 0 where it is below 0
abbrev pub area_left : RunState → ℕ
area_left r = or_zero (shoelace (front_at r.state))

-- an application takes from this area
abbrev pub DoesTakeArea : RunState → RunState → Stepped → Type 0
DoesTakeArea before after (Applied a) = area_left after < area_left before
DoesTakeArea before after Done = Unit {0}
DoesTakeArea before after Stuck = Unit {0}

-- ---- steps one after another
-- the run has gone on: more applications were made, each of which was the next one, and not beyond the limit
pub record GoesOn (before after : RunState) : Type 0 where
  pub basis : after.basis ≡ before.basis
  pub more : List Application
  pub applications : after.applications ≡ before.applications ++ more
  pub next_ones : AreNext (setting_by before.basis) before.state more
  pub state : after.state ≡ state_after before.state more
  pub within : (more ≡ []) ⊎ IsWithin before.basis.options.limit (length after.applications)

-- how a run ends in the state that it has come to
abbrev pub IsEndOfRun : RunState → End → Type 0
IsEndOfRun r end = IsEndOf (setting_by r.basis) r.basis.options.limit r.state
    (length r.applications) end

-- ---- the run at its opening, and what is left of it at its end
abbrev pub basis_of : PlanarMap → List Rule → Options → ℕ → RunBasis
basis_of g rules options d = record {
  domain = d;
  options = options;
  sizes = (setting_of g rules options d).sizes;
  rules = rules;
  opened = length (opening_of g options d).points;
  lines = opening_lines d g.segments (pieces_by g options);
  opening = opening_of g options d;
}

-- the run of a domain before its first application
abbrev pub opened_run : PlanarMap → List Rule → Options → ℕ → RunState
opened_run g rules options d = record {
  basis = basis_of g rules options d;
  applications = [];
  state = opening_of g options d;
}

-- the run as it is kept when it is over
abbrev pub domain_run : RunState → End → DomainRun
domain_run r end = record {
  domain = r.basis.domain;
  points = r.state.points;
  opened = r.basis.opened;
  lines = r.basis.lines;
  applications = r.applications;
  front = r.state.front;
  end = end;
}
