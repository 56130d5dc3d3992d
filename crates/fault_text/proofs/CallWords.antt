-- The word of a call that is shown, by its number.
use Rattle.std.proofs.Common.{◌≡◌, ℕ, suc, ◌+◌, ◌-◌, ◌<◌, Bool, true, false, List, [], ◌∷◌, length, Option, Some, None, IfSome, IfNone, map, string_bytes, refl, sym, ap, subst, arith}
use Rattle.std.specs.Prelude.{slice_get, String}
use Rattle.call_words.specs.declared.words_fault.WordsFault.TheVariants.{Value, SameName}
use Rattle.call_words.specs.Commands.{IsFault}
use Rattle.call_words.specs.Begun.{IsFirstOff, IsFirstAtFault}
use Rattle.call_words.proofs.Shown.{number_shown, name_shown}
use Rattle.fault_text.specs.declared.words.CallWord.{CallWord}
use Rattle.fault_text.specs.Spots.{IsNamed}

abbrev Words : Type 0
Words = List (List ℕ)

abbrev IsNumbered : Words → ℕ → CallWord → Type 0
IsNumbered words n found = (found.number ≡ n) × (slice_get words (n - 1) ≡ Some found.word.now)

bytes_there : (words : Words) (n : ℕ) (found : CallWord) → IsNumbered words n found → slice_get words (found.number - 1) ≡ Some found.word.now
bytes_there words n found h = subst (λ (k : ℕ). slice_get words (k - 1) ≡ Some found.word.now) (sym h.0) h.1

-- the word with the number is the one that is named
pub word_found : (AreSo : Words → Type 0) (words : Words) (n : ℕ) (o : Option CallWord) → IfSome o (IsNumbered words n) → IsFirstOff AreSo words n → IfSome o (IsNamed AreSo words)
word_found AreSo words n None h first = tt
word_found AreSo words n (Some found) h first = record { first = subst (λ (k : ℕ). IsFirstOff AreSo words k) (sym h.0) first; bytes = bytes_there words n found h }

as_many : {Z : Type 0} (words : List (String Z)) → length (map string_bytes words) ≡ length words
as_many [] = refl
as_many (word ∷ words) = ap suc (as_many words)

-- where there is no word with the number, it is one behind the last
pub no_word : {Z : Type 0} (AreSo : Words → Type 0) (words : List (String Z)) (n : ℕ) (o : Option CallWord) → IfNone o (length words < n) → IsFirstOff AreSo (map string_bytes words) n → IfNone o (IsFirstOff AreSo (map string_bytes words) (length words + 1))
no_word AreSo words n None h first =
    let many = as_many words in
    let within = first.within in
    let last : n ≡ length words + 1 = omega arith in
    subst (λ (k : ℕ). IsFirstOff AreSo (map string_bytes words) k) last first
no_word AreSo words n (Some found) h first = tt

-- words that are refused for a number, or for one name, have such a word
pub number_there : {Z : Type 0} (names : Bool) (words : List (String Z)) (n : ℕ) (o : Option CallWord) → IfNone o (length words < n) → IsFirstAtFault names (map string_bytes words) n → IfNone o (names ≡ false → ¬ IsFault (map string_bytes words) Value)
number_there names words n None h first = λ e fault.
    let many = as_many words in
    let there = number_shown (map string_bytes words) n fault (subst (λ (b : Bool). IsFirstAtFault b (map string_bytes words) n) e first) in
    absurd (omega arith)
number_there names words n (Some found) h first = tt

pub name_there : {Z : Type 0} (names : Bool) (words : List (String Z)) (n : ℕ) (o : Option CallWord) → IfNone o (length words < n) → IsFirstAtFault names (map string_bytes words) n → IfNone o (names ≡ true → ¬ IsFault (map string_bytes words) SameName)
name_there names words n None h first = λ e fault.
    let many = as_many words in
    let there = name_shown (map string_bytes words) n fault (subst (λ (b : Bool). IsFirstAtFault b (map string_bytes words) n) e first) in
    absurd (omega arith)
name_there names words n (Some found) h first = tt
