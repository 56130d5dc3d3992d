-- Bytes of a text, and the place of a word in it.
use Rattle.std.specs.Prelude.{ℕ, Bool, ◌||◌, ◌==◌, List, slice_range}
use Rattle.word_scan.specs.declared.scanner.Word.{Word}
use Rattle.word_scan.specs.declared.scanner.Kind.TheVariants.{Plain}

-- space, tab, carriage return and line feed are white space
abbrev pub is_white : ℕ → Bool
is_white b = b == 32 || b == 9 || b == 13 || b == 10

-- the word of this number from byte `from` up to before byte `to`
abbrev pub plain : ℕ → ℕ → ℕ → Word
plain at from to = record { at = at; from = from; to = to; kind = Plain }

-- the bytes of a word
abbrev pub bytes_of : List ℕ → Word → List ℕ
bytes_of text word = slice_range text word.from word.to
