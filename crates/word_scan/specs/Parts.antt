-- What the words of a text in the spaced style are.
--
-- Part      a white byte, a comment, or a word
-- AreParts  parts that may follow one another so
-- spelling  the bytes of parts, one after another
-- places    the words among parts, with their numbers and where they stand
-- runs      the bytes of each word among parts
-- Reads     these are the words of the text
use Rattle.std.specs.Prelude.{◌≡◌, ◌≢◌, ℕ, ◌+◌, ◌<◌, true, false, List, [], ◌∷◌, length, map}
use Rattle.std.specs.List.{flat_map, AllByRecursion}
use Rattle.word_scan.specs.declared.scanner.Word.{Word}
use Rattle.word_scan.specs.Bytes.{is_white, plain, bytes_of}

pub data Part : Type 0 where
  -- a white byte
  Space : ℕ → Part
  -- `#`, and these bytes after it
  Note : List ℕ → Part
  -- a word of these bytes
  Run : List ℕ → Part

abbrev pub part_bytes : Part → List ℕ
part_bytes (Space b) = b ∷ []
part_bytes (Note bytes) = 35 ∷ bytes
part_bytes (Run bytes) = bytes

abbrev pub spelling : List Part → List ℕ
spelling parts = flat_map part_bytes parts

-- nothing, or a line feed comes next
abbrev pub EndsLine : List ℕ → Type 0
EndsLine [] = Unit {0}
EndsLine (b ∷ bytes) = b ≡ 10

-- nothing, or a white byte comes next
abbrev pub EndsWord : List ℕ → Type 0
EndsWord [] = Unit {0}
EndsWord (b ∷ bytes) = is_white b ≡ true

-- no comment begins here
abbrev pub StartsNoNote : List ℕ → Type 0
StartsNoNote [] = Unit {0}
StartsNoNote (b ∷ bytes) = b ≢ 35

-- a word has a byte, none of its bytes is white, and it doesn't begin as a comment
pub record IsRun (bytes : List ℕ) : Type 0 where
  pub some : 0 < length bytes
  pub each : AllByRecursion (λ b. is_white b ≡ false) bytes
  pub start : StartsNoNote bytes

-- a comment ends before the next line feed or at the end of the text, and a word is as long as can be
abbrev pub AreParts : List Part → Type 0
AreParts [] = Unit {0}
AreParts (Space b ∷ parts) = (is_white b ≡ true) × AreParts parts
AreParts (Note bytes ∷ parts) = AllByRecursion (λ b. b ≢ 10) bytes × EndsLine (spelling parts)
    × AreParts parts
AreParts (Run bytes ∷ parts) = IsRun bytes × EndsWord (spelling parts) × AreParts parts

-- the words among parts that begin at byte i, the first of them with number `at`
abbrev pub places : ℕ → ℕ → List Part → List Word
places at i [] = []
places at i (Space b ∷ parts) = places at (i + 1) parts
places at i (Note bytes ∷ parts) = places at (i + 1 + length bytes) parts
places at i (Run bytes ∷ parts) =
    plain at i (i + length bytes) ∷ places (at + 1) (i + length bytes) parts

abbrev pub runs : List Part → List (List ℕ)
runs [] = []
runs (Space b ∷ parts) = runs parts
runs (Note bytes ∷ parts) = runs parts
runs (Run bytes ∷ parts) = bytes ∷ runs parts

-- these are the words of the text: it has parts, and however it is parted the words are these
pub record Reads (text : List ℕ) (words : List Word) : Type 0 where
  pub some : (parts : List Part) × AreParts parts × (spelling parts ≡ text)
  pub only : (parts : List Part) → AreParts parts → spelling parts ≡ text → words ≡ places 1 0 parts
  pub bytes : (parts : List Part) → AreParts parts → spelling parts ≡ text
      → map (bytes_of text) words ≡ runs parts
