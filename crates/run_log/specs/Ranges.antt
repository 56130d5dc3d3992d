-- Which logs are read again as they are written: their numbers are in the ranges of a log.
--
-- ApplicationInRange  an application, where there are so many points; AreInRange, one after another
-- RunInRange          the run of a domain above the one before it; AreRunsInRange, of domains above one
-- InRanges            a log
-- log_of              what the log of a run says
use Rattle.std.specs.Prelude.{◌≡◌, ℕ, ◌+◌, ◌≤◌, List, [], ◌∷◌, length, Option, Some, None}
use Rattle.std.specs.List.{AllByRecursion}
use Rattle.grid_geom.specs.declared.TheConstants.{LONGEST}
use Rattle.grid_geom.specs.Bounds.{IsOnGrid}
use Rattle.rule_match.specs.declared.application.Application.{Application}
use Rattle.vol_format.specs.Text.{IsFrom}
use Rattle.vol_format.specs.Vol.{IsShift}
use Rattle.mesh_run.specs.declared.Options.{Options}
use Rattle.mesh_run.specs.declared.WholeRun.{WholeRun}
use Rattle.mesh_run.specs.declared.domain_run.DomainRun.{DomainRun}
use Rattle.run_log.specs.declared.log.Log.{Log}
use Rattle.run_log.specs.Log.{opening_points}
use Rattle.run_log.specs.Numbers.{greatest_whole}
use Rattle.run_log.specs.Grammar.{all_points}

-- no limit, or one of at most 10^12 applications
abbrev pub IsLimit : Option ℕ → Type 0
IsLimit None = Unit {0}
IsLimit (Some n) = n ≤ 1000000000000

pub record OptionsInRange (o : Options) : Type 0 where
  pub greatest : IsFrom 1 LONGEST o.greatest
  pub grading : o.grading ≤ 10000
  pub last : IsFrom 1 16 o.last
  pub limit : IsLimit o.limit

-- the line joins two of so many points
pub record LineInRange (points : ℕ) (line : ℕ × ℕ) : Type 0 where
  pub from : IsFrom 1 points line.0
  pub to : IsFrom 1 points line.1

-- three corners among so many points
pub record ElementInRange (points : ℕ) (element : List ℕ) : Type 0 where
  pub three : length element ≡ 3
  pub corners : AllByRecursion (IsFrom 1 points) element

-- an element may have the new points as corners
pub record ApplicationInRange (points : ℕ) (a : Application) : Type 0 where
  pub class : IsFrom 1 16 a.class
  pub line : IsFrom 1 greatest_whole a.line
  pub rule : IsFrom 1 256 a.rule
  pub few_mapped : length a.points ≤ 16
  pub mapped : AllByRecursion (IsFrom 1 points) a.points
  pub few_made : length a.made ≤ 8
  pub made : AllByRecursion IsOnGrid a.made
  pub few_elements : length a.elements ≤ 8
  pub elements : AllByRecursion (ElementInRange (points + length a.made)) a.elements

-- the new points of one are points from the next one on
abbrev pub AreInRange : ℕ → List Application → Type 0
AreInRange points [] = Unit {0}
AreInRange points (a ∷ more) = ApplicationInRange points a
    × AreInRange (points + length a.made) more

-- a front line that is left, between two of so many points
pub record FrontInRange (points : ℕ) (line : ℕ × ℕ × ℕ) : Type 0 where
  pub number : IsFrom 1 greatest_whole line.0
  pub from : IsFrom 1 points line.1
  pub to : IsFrom 1 points line.2

-- the points are those at the opening and the new ones, and nothing is more than thirteen digits can count
pub record RunInRange (before : ℕ) (r : DomainRun) : Type 0 where
  pub domain : IsFrom (before + 1) 64 r.domain
  pub opened : r.opened ≡ length (opening_points r)
  pub points : r.points ≡ all_points (opening_points r) r.applications
  pub on_grid : AllByRecursion IsOnGrid (opening_points r)
  pub lines : AllByRecursion (LineInRange r.opened) r.lines
  pub applications : AreInRange r.opened r.applications
  pub front : AllByRecursion (FrontInRange (length r.points)) r.front
  pub few_points : length r.points ≤ greatest_whole
  pub few_lines : length r.lines ≤ greatest_whole
  pub few_applications : length r.applications ≤ greatest_whole
  pub few_left : length r.front ≤ greatest_whole

-- by rising number
abbrev pub AreRunsInRange : ℕ → List DomainRun → Type 0
AreRunsInRange before [] = Unit {0}
AreRunsInRange before (r ∷ rs) = RunInRange before r × AreRunsInRange r.domain rs

pub record InRanges (said : Log) : Type 0 where
  pub shift : IsShift said.shift
  pub options : OptionsInRange said.options
  pub domains : AreRunsInRange 0 said.domains

-- the shift, the options and the domains' runs
abbrev pub log_of : WholeRun → Log
log_of w = record { shift = w.shift; options = w.options; domains = w.domains }
