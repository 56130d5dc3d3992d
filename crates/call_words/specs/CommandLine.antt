-- The words after a verb: which of them are places, and which options they set.
--
-- IsPlain    a word that may be a place, or the value word of an option
-- Given      the words that options are set to
-- Reads      these words are read so
use Rattle.std.specs.Prelude.{◌≡◌, ◌≢◌, ◌⊎◌, ℕ, List, [], ◌∷◌, ◌++◌, Option, Some, None, codes}
use Rattle.call_words.specs.declared.settings.Setting.{Setting}
use Rattle.call_words.specs.declared.settings.Setting.TheVariants.{Maxh, Grading, Class, Steps}

-- the word is `-`, or doesn't begin with `-`
abbrev pub IsPlain : List ℕ → Type 0
IsPlain word = (word ≡ codes "-") ⊎ ((rest : List ℕ) → word ≢ 45 ∷ rest)

-- what an option is called
abbrev pub setting_word : Setting → List ℕ
setting_word Maxh = codes "maxh"
setting_word Grading = codes "grading"
setting_word Class = codes "class"
setting_word Steps = codes "steps"

-- the words that options are set to, where they are
pub record Given : Type 0 where
  pub maxh : Option (List ℕ)
  pub grading : Option (List ℕ)
  pub class : Option (List ℕ)
  pub steps : Option (List ℕ)

-- no option is set
abbrev pub nothing_given : Given
nothing_given = record { maxh = None; grading = None; class = None; steps = None }

-- what this option is set to
abbrev pub word_given : Setting → Given → Option (List ℕ)
word_given Maxh given = given.maxh
word_given Grading given = given.grading
word_given Class given = given.class
word_given Steps given = given.steps

-- the same with this option set to the word
abbrev pub with_word : Setting → List ℕ → Given → Given
with_word Maxh word given = record given { maxh = Some word }
with_word Grading word given = record given { grading = Some word }
with_word Class word given = record given { class = Some word }
with_word Steps word given = record given { steps = Some word }

-- where the options `given` are set before, the words stand for these places, and set the options to `all`
pub data Reads : Given → List (List ℕ) → List (List ℕ) → Given → Type 0 where
  -- no word is left
  AtEnd : (given : Given) → Reads given [] [] given
  -- `--`, and after it places alone
  PlacesAlone : (given : Given) (places : List (List ℕ))
      → Reads given (codes "--" ∷ places) places given
  -- a plain word is a place
  APlace : (given : Given) (word : List ℕ) (words places : List (List ℕ)) (all : Given)
      → IsPlain word → Reads given words places all → Reads given (word ∷ words) (word ∷ places) all
  -- `--name value`, where the option isn't set yet
  TwoWords : (given : Given) (setting : Setting) (value : List ℕ) (words places : List (List ℕ))
      (all : Given) → word_given setting given ≡ None → IsPlain value
      → Reads (with_word setting value given) words places all
      → Reads given ((codes "--" ++ setting_word setting) ∷ value ∷ words) places all
  -- `--name=value`, where the option isn't set yet
  OneWord : (given : Given) (setting : Setting) (value : List ℕ) (words places : List (List ℕ))
      (all : Given) → word_given setting given ≡ None
      → Reads (with_word setting value given) words places all
      → Reads given ((codes "--" ++ setting_word setting ++ codes "=" ++ value) ∷ words) places all
