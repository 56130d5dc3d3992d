-- The refusals of the reader.
--
-- refusal_number  the number that a refusal is printed with
-- Gives, Takes    a call returned what the reading gives, unless memory ran out
-- IsFront         words that a derived text begins with
-- Stops           the first word that doesn't fit
-- Passes          a word that no text within the limits goes on with
-- IsFull          as many rows of a kind as there may be
-- StoodBefore     the number of a point that has stood before
-- Misses          a word is missing at the end
-- IsUnknown       the first segment that names a point that is not there
-- WantsNumber     only a number may come next; TakesFlag, a flag may
-- StandsForNumber a word in the place of a number, or a flag in the place of one
-- IsCurved        a segment that is curved
-- Refuses         words that are refused so
use Rattle.std.specs.Prelude.{◌≡◌, ◌⊎◌, ℕ, ◌+◌, ◌<◌, true, Some, List, [], ◌∷◌, ◌++◌, length, Result, Ok, Err}
use Rattle.std.specs.List.{AllByRecursion}
use Rattle.word_scan.specs.declared.decimals.Dec.{Dec}
use Rattle.word_scan.specs.Numerals.{whole_of}
use Rattle.word_scan.specs.Decimals.{decimal_of}
use Rattle.in2d_reader.specs.declared.geometry.SegmentRow.{SegmentRow}
use Rattle.in2d_reader.specs.declared.geometry.RawGeometry.{RawGeometry}
use Rattle.in2d_reader.specs.Words.{Word, segments_word, two_word, three_word, is_flag}
use Rattle.in2d_reader.specs.Grammar.{is_known, Derives, Within, HasEnds}
use Rattle.in2d_reader.specs.declared.refusal.In2dRefusal.{In2dRefusal}
use Rattle.in2d_reader.specs.declared.refusal.In2dRefusal.TheVariants.{Syntax, Number, Curved, TooMany, NumberTwice, UnknownPoint, Memory}

abbrev pub refusal_number : In2dRefusal → ℕ
refusal_number (Syntax word) = 1
refusal_number (Number word) = 2
refusal_number (Curved segment) = 3
refusal_number (TooMany what) = 4
refusal_number (NumberTwice word) = 5
refusal_number (UnknownPoint segment) = 6
refusal_number Memory = 7

-- what was returned, seen by view, is what reading gives, unless memory ran out
abbrev pub Fails : {Y : Type 0} → In2dRefusal → Result Y In2dRefusal → Type 0
Fails Memory read = Unit {0}
Fails e read = read ≡ Err e

abbrev pub Gives : {X Y : Type 0} → (X → Y) → Result X In2dRefusal → Result Y In2dRefusal → Type 0
Gives view (Ok x) read = read ≡ Ok (view x)
Gives view (Err e) read = Fails e read

-- the same of a call that changes a value, into new
abbrev pub Takes : {X Y : Type 0} → Result X In2dRefusal → Result Y In2dRefusal → Y → Type 0
Takes (Ok x) read new = read ≡ Ok new
Takes (Err e) read new = Fails e read

-- the words are the front of a derived text, whose geometry has P
abbrev pub IsFront : (RawGeometry → Type 0) → List Word → Type 0
IsFront P words = (rest : List Word) × (raw : RawGeometry) × Derives (words ++ rest) raw × P raw

-- any geometry
abbrev pub IsAny : RawGeometry → Type 0
IsAny raw = Unit {0}

-- the words before it are the front of a derived text within the limits, and with this word, word number `at`,
-- they are not the front of a derived text that has P
pub record Stops (P : RawGeometry → Type 0) (words : List Word) (at : ℕ) (word : Word) : Type 0 where
  pub before : List Word
  pub after : List Word
  pub same : words ≡ before ++ (word ∷ after)
  pub place : at ≡ length before + 1
  pub front : IsFront Within before
  pub stop : IsFront P (before ++ word ∷ []) → ⊥

-- with the word it is still the front of a derived text, but of none within the limits
pub record Passes (words : List Word) (at : ℕ) (word : Word) : Type 0 where
  pub stops : Stops Within words at word
  pub derived : IsFront IsAny (stops.before ++ word ∷ [])

-- as many points as there may be stand before the word: with the word `segments` in its place these were the points of the text;
-- or as many segments: without the word these were the segments of the text
pub data IsFull (what : ℕ) (before : List Word) : Type 0 where
  Points : what ≡ 1 → (raw : RawGeometry) → Derives (before ++ segments_word ∷ []) raw
      → length raw.points ≡ 4096 → IsFull what before
  Segments : what ≡ 2 → (raw : RawGeometry) → Derives before raw → length raw.segments ≡ 4096
      → IsFull what before

-- the word is the number of a point that stands before it, and there may be one more: with the word `segments` in its place
-- these were the points of the text
pub record StoodBefore (before : List Word) (word : Word) : Type 0 where
  pub number : ℕ
  pub is : whole_of word 999999 ≡ Some number
  pub raw : RawGeometry
  pub ended : Derives (before ++ segments_word ∷ []) raw
  pub known : is_known number raw.points ≡ true
  pub few : length raw.points < 4096

-- the words are the front of a derived text within the limits, and are not derived themselves
pub record Misses (words : List Word) (at : ℕ) : Type 0 where
  pub place : at ≡ length words + 1
  pub front : IsFront Within words
  pub stop : (raw : RawGeometry) → Derives words raw → ⊥

-- the segments before it go from point to point, and segment number k doesn't
pub record IsUnknown (raw : RawGeometry) (k : ℕ) : Type 0 where
  pub before : List SegmentRow
  pub row : SegmentRow
  pub after : List SegmentRow
  pub same : raw.segments ≡ before ++ (row ∷ after)
  pub place : k ≡ length before + 1
  pub known : AllByRecursion (HasEnds raw.points) before
  pub unknown : HasEnds raw.points row → ⊥

-- the word may come behind these words
abbrev pub Admits : List Word → Word → Type 0
Admits before word = IsFront IsAny (before ++ word ∷ [])

-- only a number may come behind these words, and not the end of the text: a number of a row, but not its first, or that of the file
pub record WantsNumber (before : List Word) : Type 0 where
  pub only : (word : Word) → Admits before word → (d : Dec) × (decimal_of word ≡ Some d)
  pub on : (raw : RawGeometry) → Derives before raw → ⊥

-- a flag may come behind these words: they end with the last word of a row, or with a flag of it
abbrev pub TakesFlag : List Word → Type 0
TakesFlag before = (flag : Word) × (is_flag flag ≡ true) × Admits before flag

-- the word stands for a number: it stands where only a number may come, or is a flag that stands where a flag may come
abbrev pub StandsForNumber : List Word → Word → Type 0
StandsForNumber before word = WantsNumber before ⊎ ((is_flag word ≡ true) × TakesFlag before)

-- a `3` is the first word that doesn't fit, where only a number may come; with `2 2 2` in its place the text would be whole, with k segments
pub record IsCurved (words : List Word) (k : ℕ) : Type 0 where
  pub at : ℕ
  pub stops : Stops IsAny words at three_word
  pub number : WantsNumber stops.before
  pub raw : RawGeometry
  pub straight : Derives (stops.before ++ two_word ∷ two_word ∷ two_word ∷ []) raw
  pub last : k ≡ length raw.segments

-- the first word that doesn't fit is refused by Number where it stands for a number, by Curved where this is a `3`,
-- and by Syntax where it stands for none; a word that is missing at the end is refused by Syntax.
-- A word that begins a row past a limit is refused by TooMany, and else one whose number has stood before by NumberTwice.
-- A derived text within the limits is refused by UnknownPoint, if it is.
abbrev pub Refuses : List Word → In2dRefusal → Type 0
Refuses words (Syntax at) = ((word : Word) × (s : Stops IsAny words at word)
    × (StandsForNumber s.before word → ⊥)) ⊎ Misses words at
Refuses words (Number at) = (word : Word) × (s : Stops IsAny words at word)
    × StandsForNumber s.before word × (word ≡ three_word → ⊥)
Refuses words (Curved segment) = IsCurved words segment
Refuses words (TooMany what) = (at : ℕ) × (word : Word) × (p : Passes words at word)
    × IsFull what p.stops.before
Refuses words (NumberTwice at) = (word : Word) × (p : Passes words at word)
    × StoodBefore p.stops.before word
Refuses words (UnknownPoint segment) = (raw : RawGeometry) × Derives words raw × Within raw
    × IsUnknown raw segment
Refuses words Memory = Unit {0}
