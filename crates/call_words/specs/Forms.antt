-- What `clap` gives of the words after a verb.
--
-- asked_of    the command of a verb
-- IsRead      what is found stands for what is read of the words, and nothing is found where nothing in the
--             form is read
use Rattle.std.specs.Prelude.{◌≡◌, ◌≢◌, ℕ, Bool, true, false, List, length, Option, Some, None, slice_get}
use Rattle.std.specs.Option.{option_copied}
use Rattle.clap.specs.Words.{App}
use Rattle.call_words.specs.declared.command.Verb.{Verb}
use Rattle.call_words.specs.declared.command.Verb.TheVariants as verbs
use Rattle.call_words.specs.declared.form.Form.{Form}
use Rattle.call_words.specs.CommandLine.{Given, nothing_given}
use Rattle.call_words.specs.Commands.{place_count}
use Rattle.call_words.specs.WordsRead.{given_of, reading}
use Rattle.call_words.specs.Asks.{asks}

abbrev pub takes_options : Verb → Bool
takes_options verbs.Mesh = true
takes_options verbs.Geom = false
takes_options verbs.Rules = false
takes_options verbs.Check = false
takes_options verbs.View = false
takes_options verbs.Replay = false
takes_options verbs.Gen = false

abbrev pub asked_of : Verb → App
asked_of verb = asks (place_count verb) (takes_options verb)

-- the form has these places and options
pub record Has (form : Form) (places : List (List ℕ)) (all : Given) : Type 0 where
  pub first : option_copied form.first ≡ slice_get places 0
  pub second : option_copied form.second ≡ slice_get places 1
  pub third : option_copied form.third ≡ slice_get places 2
  pub fourth : option_copied form.fourth ≡ slice_get places 3
  pub given : given_of form.settings ≡ all

-- so many places, and options only where there are some
abbrev pub InForm : ℕ → Bool → List (List ℕ) → Given → Type 0
InForm count options places all = (length places ≡ count) × (options ≡ false → all ≡ nothing_given)

abbrev pub IsRead : ℕ → Bool → List (List ℕ) → Option Form → Type 0
IsRead count options words None = (places : List (List ℕ)) (all : Given)
    → reading None nothing_given words ≡ Some (places, all) → InForm count options places all → ⊥
IsRead count options words (Some form) = (places : List (List ℕ)) × (all : Given)
    × (reading None nothing_given words ≡ Some (places, all)) × InForm count options places all
    × Has form places all

-- there are not so many places, or the words can't be read
abbrev pub HasNot : ℕ → Option (List (List ℕ) × Given) → Type 0
HasNot count found = (places : List (List ℕ)) (all : Given) → length places ≡ count
    → found ≢ Some (places, all)

-- there are not so many places without an option, or the words can't be read
abbrev pub HasNotAlone : ℕ → Option (List (List ℕ) × Given) → Type 0
HasNotAlone count found = (places : List (List ℕ)) → length places ≡ count
    → found ≢ Some (places, nothing_given)
