-- The words after a verb, read from left to right.
--
-- word_sort    what a word may be
-- set_called   the options with one more set, where it is an option and isn't set yet
-- given_of     the words that options are set to
-- reading      the places and the options, where the words can be read
use Rattle.std.specs.Prelude.{ℕ, Bool, true, false, ◌==◌, if◌then◌else◌, List, [], ◌∷◌, Option}
use Rattle.std.specs.Prelude.{Some, None, option_map, option_and_then, bytes_eq}
use Rattle.std.specs.Option.{option_copied}
use Rattle.call_words.specs.declared.settings.Setting.{Setting}
use Rattle.call_words.specs.declared.settings.Settings.{Settings}
use Rattle.call_words.specs.declared.settings.Setting.TheVariants.{Maxh, Grading, Class, Steps}
use Rattle.call_words.specs.CommandLine.{setting_word, Given, word_given, with_word}

-- the words that options are set to
abbrev pub given_of : Settings → Given
given_of settings = record {
  maxh = option_copied settings.maxh;
  grading = option_copied settings.grading;
  class = option_copied settings.class;
  steps = option_copied settings.steps;
}

-- what a word may be: a plain one, `--`, an option before its value word, an option with its value, or none of these
pub data WordSort : Type 0 where
  PlainWord : WordSort
  Dashes : WordSort
  Before : List ℕ → WordSort
  With : List ℕ → List ℕ → WordSort
  Other : WordSort

abbrev pub longer : ℕ → List ℕ × List ℕ → List ℕ × List ℕ
longer b (front, back) = (b ∷ front, back)

abbrev pub halves_from : Bool → ℕ → List ℕ → Option (List ℕ × List ℕ) → Option (List ℕ × List ℕ)
halves_from true b bytes more = Some ([], bytes)
halves_from false b bytes more = option_map (longer b) more

-- the bytes before and after the first `=`, where one stands
abbrev pub halves : List ℕ → Option (List ℕ × List ℕ)
halves [] = None
halves (b ∷ bytes) = halves_from (b == 61) b bytes (halves bytes)

abbrev pub halves_sort : List ℕ → Option (List ℕ × List ℕ) → WordSort
halves_sort name None = Before name
halves_sort name (Some (front, back)) = With front back

-- what a word is, of which this comes after `--`
abbrev pub after_dashes : List ℕ → WordSort
after_dashes [] = Dashes
after_dashes (b ∷ bytes) = halves_sort (b ∷ bytes) (halves (b ∷ bytes))

-- what a word is, of which this comes after `-`
abbrev pub after_dash : List ℕ → WordSort
after_dash [] = PlainWord
after_dash (b ∷ bytes) = if b == 45 then after_dashes bytes else Other

abbrev pub word_sort : List ℕ → WordSort
word_sort [] = PlainWord
word_sort (b ∷ bytes) = if b == 45 then after_dash bytes else PlainWord

abbrev pub is_plain_sort : WordSort → Bool
is_plain_sort PlainWord = true
is_plain_sort Dashes = false
is_plain_sort (Before _) = false
is_plain_sort (With _ _) = false
is_plain_sort Other = false

-- this option, where the word is what it is called, else what comes next
abbrev pub setting_or : List ℕ → Setting → Option Setting → Option Setting
setting_or word setting next = if bytes_eq word (setting_word setting) then Some setting else next

-- the option that is called so
abbrev pub setting_of : List ℕ → Option Setting
setting_of word =
    setting_or word Maxh (setting_or word Grading
    (setting_or word Class (setting_or word Steps None)))

-- the options with this one set, where nothing is its value so far
abbrev pub set_first : Setting → List ℕ → Given → Option (List ℕ) → Option Given
set_first setting word given None = Some (with_word setting word given)
set_first setting word given (Some before) = None

-- the options with the one called so set to the word, where it is one and isn't set yet
abbrev pub set_called : List ℕ → List ℕ → Given → Option Given
set_called name word given =
    option_and_then (λ setting. set_first setting word given (word_given setting given))
    (setting_of name)

abbrev pub with_place : List ℕ → Option (List (List ℕ) × Given) → Option (List (List ℕ) × Given)
with_place word found = option_map (λ (places, all). (word ∷ places, all)) found

-- what is read from a word of this sort on, and how the words behind it are read where an option waits for its
-- value or none does
abbrev pub read_word : WordSort → Given → List ℕ → List (List ℕ)
    → (Option (List ℕ) → Given → Option (List (List ℕ) × Given)) → Option (List (List ℕ) × Given)
read_word PlainWord given word words behind = with_place word (behind None given)
read_word Dashes given word words behind = Some (words, given)
read_word (Before name) given word words behind = behind (Some name) given
read_word (With name value) given word words behind =
    option_and_then (behind None) (set_called name value given)
read_word Other given word words behind = None

-- what is read where an option waits for this word
abbrev pub read_value : Bool → List ℕ → Given → List ℕ → (Given → Option (List (List ℕ) × Given))
    → Option (List (List ℕ) × Given)
read_value true name given word behind = option_and_then behind (set_called name word given)
read_value false name given word behind = None

-- the places and the options, where the words can be read, and an option may wait for its value
unfoldable pub reading : Option (List ℕ) → Given → List (List ℕ) → Option (List (List ℕ) × Given)
reading None given [] = Some ([], given)
reading (Some name) given [] = None
reading None given (word ∷ words) =
    read_word (word_sort word) given word words (λ waits now. reading waits now words)
reading (Some name) given (word ∷ words) =
    read_value (is_plain_sort (word_sort word)) name given word (λ now. reading None now words)
