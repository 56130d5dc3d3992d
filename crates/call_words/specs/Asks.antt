-- What `clap` is asked for: one simple command per number of places, with the options of `mesh` or without.
use Rattle.std.specs.Prelude.{ℕ, Bool, true, zero, suc, ◌+◌, List, [], ◌∷◌, Some, codes, if◌then◌else◌}
use Rattle.clap.specs.Words.{App, Rule, new_app, new_rule, with_rule}
use Rattle.clap.specs.Simple.{on_top}
use Rattle.clap.specs.declared.builder.action.ArgAction.TheVariants.{Set}
use Rattle.call_words.specs.declared.settings.Setting.{Setting}
use Rattle.call_words.specs.declared.settings.Setting.TheVariants.{Maxh, Grading, Class, Steps}
use Rattle.call_words.specs.CommandLine.{setting_word}

-- a place is called by its number, of one digit
abbrev pub place_word : ℕ → List ℕ
place_word k = (48 + k) ∷ []

abbrev pub place_rule : ℕ → Rule
place_rule k = record (new_rule (place_word k)) { required = true; action = Some Set }

abbrev pub option_rule : Setting → Rule
option_rule setting =
    record (new_rule (setting_word setting)) {
      long = Some (setting_word setting);
      action = Some Set;
    }

abbrev pub no_places : App
no_places = on_top (λ s. record s { no_binary_name = true; disable_help_flag = true })
    (new_app (codes "netmesh"))

abbrev pub with_places : ℕ → App
with_places zero = no_places
with_places (suc n) = with_rule (with_places n) (place_rule (suc n))

abbrev pub with_options : App → App
with_options app =
    with_rule (with_rule (with_rule (with_rule app
    (option_rule Maxh)) (option_rule Grading)) (option_rule Class)) (option_rule Steps)

-- the command of a verb with so many places
abbrev pub asks : ℕ → Bool → App
asks places options = if options then with_options (with_places places) else with_places places
