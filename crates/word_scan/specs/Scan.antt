-- What a scanner still gives.
use Rattle.std.specs.Prelude.{◌≡◌, ◌≢◌, ℕ, ◌+◌, false, ◌==◌, if◌then◌else◌, List, [], ◌∷◌, drop, map}
use Rattle.word_scan.specs.declared.scanner.Word.{Word}
use Rattle.word_scan.specs.declared.scanner.Style.{Style}
use Rattle.word_scan.specs.declared.scanner.Style.TheVariants.{Spaced, Tokens}
use Rattle.word_scan.specs.declared.scanner.ScanRefusal.{ScanRefusal}
use Rattle.word_scan.specs.declared.scanner.ScanRefusal.TheVariants.{End}
use Rattle.word_scan.specs.Bytes.{is_white, plain, bytes_of}
use Rattle.word_scan.specs.Tokens.{Past, tokens_from}

-- the text, the words that are left of it, and the refusal that comes after them
pub record Scan : Type 0 where
  pub text : List ℕ
  pub left : List Word
  pub ending : ScanRefusal

-- where a walk over a text in the spaced style stands
pub data Mode : Type 0 where
  Between : Mode
  InNote : Mode
  -- in the word that begins at this byte
  InWord : ℕ → Mode

-- the words of the bytes that follow, from byte i on, the next of them with number `at`
unfoldable pub words_from : Mode → ℕ → ℕ → List ℕ → List Word
words_from Between at i [] = []
words_from Between at i (b ∷ bytes) = if is_white b then words_from Between at (i + 1) bytes
    else if b == 35 then words_from InNote at (i + 1) bytes
    else words_from (InWord i) at (i + 1) bytes
words_from InNote at i [] = []
words_from InNote at i (b ∷ bytes) = if b == 10 then words_from Between at (i + 1) bytes
    else words_from InNote at (i + 1) bytes
words_from (InWord from) at i [] = plain at from i ∷ []
words_from (InWord from) at i (b ∷ bytes) = if is_white b
    then plain at from i ∷ words_from Between (at + 1) (i + 1) bytes
    else words_from (InWord from) at (i + 1) bytes

-- the words of a text in the spaced style, with their places
abbrev pub spaced_words : List ℕ → List Word
spaced_words text = words_from Between 1 0 text

-- the bytes of each word of a text in the spaced style
abbrev pub words_of : List ℕ → List (List ℕ)
words_of text = map (bytes_of text) (spaced_words text)

-- a scanner at a place, with the number of the next word
abbrev pub scan_from : Style → List ℕ → ℕ → ℕ → Scan
scan_from Spaced text place at =
    record { text = text; left = words_from Between at place (drop place text); ending = End }
scan_from Tokens text place at = let given = tokens_from (Past 0) at place (drop place text) in
    record { text = text; left = given.0; ending = given.1 }

-- nothing comes next, or a word
abbrev pub StartsWord : List ℕ → Type 0
StartsWord [] = Unit {0}
StartsWord (b ∷ bytes) = (is_white b ≡ false) × (b ≢ 35)
