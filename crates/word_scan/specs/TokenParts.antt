-- What the tokens of a text in the tokens style are.
--
-- IsToken        bytes that are a token of a kind
-- IsLongest      a token that stands at the front of a text, where no longer front is one
-- HasNoToken     no front of the text is a token
-- TokenPart      a white byte, a comment, or a token
-- AreTokenParts  parts that a text begins with, up to where no part stands
-- TokenReads     these are the tokens of the text, and this refusal comes after them
use Rattle.std.specs.Prelude.{◌≡◌, ◌≢◌, ℕ, ◌+◌, ◌<◌, ◌≤◌, true, false, List, [], ◌∷◌, ◌++◌, length, Option}
use Rattle.std.specs.List.{flat_map, AllByRecursion}
use Rattle.std.specs.Char.{is_ascii_alphabetic, is_ascii_alphanumeric}
use Rattle.std.specs.Str.{all_ascii_digits}
use Rattle.word_scan.specs.declared.scanner.Word.{Word}
use Rattle.word_scan.specs.declared.scanner.Kind.{Kind}
use Rattle.word_scan.specs.declared.scanner.Kind.TheVariants.{Plain, Mark, Text, Number, Name}
use Rattle.word_scan.specs.declared.scanner.ScanRefusal.{ScanRefusal}
use Rattle.word_scan.specs.declared.scanner.ScanRefusal.TheVariants.{BadWord, End}
use Rattle.word_scan.specs.Bytes.{is_white}
use Rattle.word_scan.specs.Decimals.{Sign, sign_text, fraction_text, fraction_digits}
use Rattle.word_scan.specs.Parts.{EndsLine}
use Rattle.word_scan.specs.Tokens.{is_mark}

-- one of the marks
pub record IsMark (bytes : List ℕ) : Type 0 where
  pub mark : ℕ
  pub is : is_mark mark ≡ true
  pub text : bytes ≡ mark ∷ []

-- a quotation mark, bytes other than it and line feed, and a quotation mark
pub record IsText (bytes : List ℕ) : Type 0 where
  pub inside : List ℕ
  pub each : AllByRecursion (λ b. (b ≢ 34) × (b ≢ 10)) inside
  pub text : bytes ≡ 34 ∷ (inside ++ 34 ∷ [])

-- a sign or none, then digits with at most one point among or round them, at least one digit
pub record IsNumber (bytes : List ℕ) : Type 0 where
  pub sign : Sign
  pub front : List ℕ
  pub fraction : Option (List ℕ)
  pub before : all_ascii_digits front ≡ true
  pub behind : all_ascii_digits (fraction_digits fraction) ≡ true
  pub some : 0 < length front + length (fraction_digits fraction)
  pub text : bytes ≡ sign_text sign ++ (front ++ fraction_text fraction)

-- a letter, then letters and digits
pub record IsName (bytes : List ℕ) : Type 0 where
  pub letter : ℕ
  pub others : List ℕ
  pub is : is_ascii_alphabetic letter ≡ true
  pub each : AllByRecursion (λ b. is_ascii_alphanumeric b ≡ true) others
  pub text : bytes ≡ letter ∷ others

abbrev pub IsToken : Kind → List ℕ → Type 0
IsToken Plain bytes = ⊥
IsToken Mark bytes = IsMark bytes
IsToken Text bytes = IsText bytes
IsToken Number bytes = IsNumber bytes
IsToken Name bytes = IsName bytes

-- before `more`, these bytes are a token of this kind; no longer front is a token, and they are one of no other kind
pub record IsLongest (kind : Kind) (bytes more : List ℕ) : Type 0 where
  pub token : IsToken kind bytes
  pub longest : (other : Kind) (front back : List ℕ) → front ++ back ≡ bytes ++ more
      → IsToken other front → length front ≤ length bytes
  pub only : (other : Kind) → IsToken other bytes → other ≡ kind

abbrev pub HasNoToken : List ℕ → Type 0
HasNoToken text = (kind : Kind) (front back : List ℕ) → front ++ back ≡ text → IsToken kind front
    → ⊥

pub data TokenPart : Type 0 where
  -- a white byte
  White : ℕ → TokenPart
  -- `#`, and these bytes after it
  Remark : List ℕ → TokenPart
  -- a token of this kind and these bytes
  Token : Kind → List ℕ → TokenPart

abbrev pub part_bytes : TokenPart → List ℕ
part_bytes (White b) = b ∷ []
part_bytes (Remark bytes) = 35 ∷ bytes
part_bytes (Token kind bytes) = bytes

abbrev pub spelling : List TokenPart → List ℕ
spelling parts = flat_map part_bytes parts

-- the end, or a byte that begins neither white space, nor a comment, nor a token
abbrev pub EndsTokens : List ℕ → Type 0
EndsTokens [] = Unit {0}
EndsTokens (b ∷ rest) = (is_white b ≡ false) × (b ≢ 35) × HasNoToken (b ∷ rest)

-- parts before these bytes: a comment ends before the next line feed or at the end of the text, and a token is the longest
abbrev pub AreTokenParts : List TokenPart → List ℕ → Type 0
AreTokenParts [] rest = EndsTokens rest
AreTokenParts (White b ∷ parts) rest = (is_white b ≡ true) × AreTokenParts parts rest
AreTokenParts (Remark bytes ∷ parts) rest = AllByRecursion (λ b. b ≢ 10) bytes
    × EndsLine (spelling parts ++ rest) × AreTokenParts parts rest
AreTokenParts (Token kind bytes ∷ parts) rest = IsLongest kind bytes (spelling parts ++ rest)
    × AreTokenParts parts rest

-- the tokens among parts that begin at byte i, the first of them with number `at`
abbrev pub token_places : ℕ → ℕ → List TokenPart → List Word
token_places at i [] = []
token_places at i (White b ∷ parts) = token_places at (i + 1) parts
token_places at i (Remark bytes ∷ parts) = token_places at (i + 1 + length bytes) parts
token_places at i (Token kind bytes ∷ parts) =
    record { at = at; from = i; to = i + length bytes; kind = kind }
    ∷ token_places (at + 1) (i + length bytes) parts

-- what comes where these bytes are left and the next token would have number `at`
abbrev pub refusal_at : ℕ → List ℕ → ScanRefusal
refusal_at at [] = End
refusal_at at (b ∷ rest) = BadWord at

-- these are the tokens of the text, and this refusal comes after them: it has parts, and however it is parted they are these
pub record TokenReads (text : List ℕ) (words : List Word) (ending : ScanRefusal) : Type 0 where
  pub some : (parts : List TokenPart) × (rest : List ℕ) × AreTokenParts parts rest
      × (spelling parts ++ rest ≡ text)
  pub places : (parts : List TokenPart) (rest : List ℕ) → AreTokenParts parts rest
      → spelling parts ++ rest ≡ text → words ≡ token_places 1 0 parts
  pub last : (parts : List TokenPart) (rest : List ℕ) → AreTokenParts parts rest
      → spelling parts ++ rest ≡ text
      → ending ≡ refusal_at (1 + length (token_places 1 0 parts)) rest
