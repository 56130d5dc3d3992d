-- A run by rules that never apply is its opening.
use Rattle.std.proofs.Common.{ℕ, ◌≡◌, List, [], ◌∷◌, Option, None, Some, refl, arith}
use Rattle.rule_reader.specs.declared.rule.Rule.{Rule}
use Rattle.geom_check.specs.Geometry.{PlanarMap}
use Rattle.rule_match.specs.Idle.{NoneApplies}
use Rattle.state_law.specs.State.{State}
use Rattle.mesh_run.specs.declared.Options.{Options}
use Rattle.mesh_run.specs.Opening.{end_of_front, unmeshed_run}
use Rattle.mesh_run.specs.Runs.{pieces_by, opening_of, setting_of, IsDomainRun}
use Rattle.mesh_run.specs.Steps.{RunSetting, NothingApplies, IsEndOf, IsWithin}

nothing : (s : RunSetting) (st : State) → NoneApplies s.last s.rules → NothingApplies s st
nothing s st idle = record {
  none = λ class line first last. idle.none s.sizes st line class last;
}

-- so it ends where it begins: Stuck where a front is left
idle_end : (s : RunSetting) (limit : Option ℕ) (st : State) (made : ℕ) → NoneApplies s.last s.rules → IsEndOf s limit st made (end_of_front st.front)
idle_end s limit st made idle = by st.front refl
  where
    by : (front : List (ℕ × ℕ × ℕ)) → st.front ≡ front → IsEndOf s limit st made (end_of_front front)
    by [] none = none
    by (line ∷ lines) some = (λ none. absurd (cc (none, some)), nothing s st idle)

within_any : (limit : Option ℕ) → IsWithin limit 0
within_any None = tt
within_any (Some limit) = omega arith

pub idle_run : (g : PlanarMap) (rules : List Rule) (options : Options) (d : ℕ) → NoneApplies options.last rules → IsDomainRun g rules options d (unmeshed_run d g.segments (pieces_by g options))
idle_run g rules options d idle = record {
  domain = refl;
  opened = refl;
  lines = refl;
  next_ones = tt;
  within = within_any options.limit;
  points = refl;
  front = refl;
  ended = idle_end (setting_of g rules options d) options.limit (opening_of g options d) 0 idle;
}
