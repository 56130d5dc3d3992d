-- What the tokens of a text in the tokens style are.
--
-- token_at     the kind of the token at the front of some bytes, and how many bytes it has
-- tokens_from  the tokens of the bytes that follow, and the refusal after them
use Rattle.std.specs.Prelude.{ℕ, zero, suc, ◌+◌, ◌-◌, Bool, not, ◌&&◌, ◌||◌, ◌==◌, nat_lt, if◌then◌else◌, List, [], ◌∷◌, length, Option, Some, None, option_and_then, slice_index}
use Rattle.std.specs.List.{prefix_len}
use Rattle.std.specs.Char.{is_ascii_alphabetic, is_ascii_alphanumeric}
use Rattle.word_scan.specs.declared.scanner.Word.{Word}
use Rattle.word_scan.specs.declared.scanner.Kind.{Kind}
use Rattle.word_scan.specs.declared.scanner.Kind.TheVariants.{Mark, Text, Number, Name}
use Rattle.word_scan.specs.declared.scanner.ScanRefusal.{ScanRefusal}
use Rattle.word_scan.specs.declared.scanner.ScanRefusal.TheVariants.{BadWord, End}
use Rattle.word_scan.specs.Bytes.{is_white}
use Rattle.word_scan.specs.Decimals.{sign_at, digits_at, fraction_at}

-- round and curly brackets, comma and semicolon are marks
abbrev pub is_mark : ℕ → Bool
is_mark b = b == 40 || b == 41 || b == 123 || b == 125 || b == 44 || b == 59

-- a byte that may stand inside a text: no quotation mark and no line feed
abbrev pub is_inside : ℕ → Bool
is_inside b = not (b == 34) && not (b == 10)

-- how many bytes come first that may stand inside a text
abbrev pub text_len : List ℕ → ℕ
text_len bytes = prefix_len is_inside bytes

-- how many letters and digits come first
abbrev pub name_len : List ℕ → ℕ
name_len bytes = prefix_len is_ascii_alphanumeric bytes

-- the length of a text whose first quotation mark stands before these bytes, where another closes it
abbrev pub closed : List ℕ → Option ℕ
closed bytes = if slice_index bytes (text_len bytes) == 34 then Some (text_len bytes) else None

-- how many bytes a number has that comes first: a sign, digits, and a point with the digits behind it
abbrev pub number_len : List ℕ → Option ℕ
number_len bytes =
    let front = digits_at (sign_at bytes).1 in
    let fraction = fraction_at front.1 in
    if nat_lt 0 (length front.0 + length fraction.0) then Some (length bytes - length fraction.1)
    else None

abbrev pub of_kind : Kind → ℕ → Option ℕ → Option (Kind × ℕ)
of_kind kind more len = option_and_then (λ n. Some (kind, n + more)) len

-- the kind of the token at the front, and how many bytes it has
unfoldable pub token_at : List ℕ → Option (Kind × ℕ)
token_at [] = None
token_at (b ∷ bytes) = if is_mark b then Some (Mark, 1)
    else if b == 34 then of_kind Text 2 (closed bytes)
    else if is_ascii_alphabetic b then Some (Name, name_len bytes + 1)
    else of_kind Number 0 (number_len (b ∷ bytes))

-- the token of this number, kind and length that begins at byte i
abbrev pub token_word : ℕ → ℕ → Kind × ℕ → Word
token_word at i token = record { at = at; from = i; to = i + token.1; kind = token.0 }

-- where a walk over a text in the tokens style stands
pub data TokenMode : Type 0 where
  -- in a comment
  InRemark : TokenMode
  -- behind a token of which so many bytes are still to come
  Past : ℕ → TokenMode

abbrev pub put_first : Word → List Word × ScanRefusal → List Word × ScanRefusal
put_first word (words, ending) = (word ∷ words, ending)

-- what is given where a token may begin: it and what follows it, else a refusal
abbrev pub given : ℕ → ℕ → Option (Kind × ℕ) → (ℕ → List Word × ScanRefusal) → List Word
    × ScanRefusal
given at i None after = ([], BadWord at)
given at i (Some token) after = put_first (token_word at i token) (after (token.1 - 1))

-- the tokens of the bytes that follow, from byte i on, the next of them with number `at`, and the refusal after them
unfoldable pub tokens_from : TokenMode → ℕ → ℕ → List ℕ → List Word × ScanRefusal
tokens_from InRemark at i [] = ([], End)
tokens_from InRemark at i (b ∷ bytes) = if b == 10 then tokens_from (Past 0) at (i + 1) bytes
    else tokens_from InRemark at (i + 1) bytes
tokens_from (Past zero) at i [] = ([], End)
tokens_from (Past zero) at i (b ∷ bytes) = if is_white b then tokens_from (Past 0) at (i + 1) bytes
    else if b == 35 then tokens_from InRemark at (i + 1) bytes
    else given at i (token_at (b ∷ bytes)) (λ n. tokens_from (Past n) (at + 1) (i + 1) bytes)
tokens_from (Past (suc n)) at i [] = ([], End)
tokens_from (Past (suc n)) at i (b ∷ bytes) = tokens_from (Past n) at (i + 1) bytes
