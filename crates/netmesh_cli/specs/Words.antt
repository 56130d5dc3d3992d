-- What is built of what the words of a call ask for.
use Rattle.std.specs.Prelude.{◌≡◌, ℕ, List}
use Rattle.netmesh_cli.specs.declared.outcome.Refusal.{Refusal}
use Rattle.netmesh_cli.specs.declared.outcome.Refusal.TheVariants.{Words, Memory, NotYet}
use Rattle.call_words.specs.Commands.{Task, MeshOf, GeomOf, RulesOf, CheckOf, ViewOf, ReplayOf}
use Rattle.call_words.specs.Commands.{GenOf, IsCommand, IsFault}

-- what is not built yet: the verb `replay`
abbrev pub IsUnbuilt : Task → Type 0
IsUnbuilt (MeshOf _) = ⊥
IsUnbuilt (GeomOf _) = ⊥
IsUnbuilt (RulesOf _) = ⊥
IsUnbuilt (CheckOf _ _) = ⊥
IsUnbuilt (ViewOf _ _ _) = ⊥
IsUnbuilt (ReplayOf _ _ _) = Unit {0}
IsUnbuilt (GenOf _ _) = ⊥

-- the words ask for a task that isn't built
pub record AskForUnbuilt (words : List (List ℕ)) : Type 0 where
  pub task : Task
  pub command : IsCommand words task
  pub unbuilt : IsUnbuilt task

-- why words are refused: they are at fault, or what they ask for isn't built, or memory is refused
abbrev pub WordsRefused : List (List ℕ) → Refusal → Type 0
WordsRefused words (Words fault) = IsFault words fault
WordsRefused words Memory = Unit {0}
WordsRefused words (NotYet part) = (part ≡ 1) × AskForUnbuilt words
WordsRefused words _ = ⊥
