-- Where a word stands in its file, as people count.
--
-- words          the words of a text in a style, from left to right
-- moved          the cursor one byte on
-- cursor_behind  the cursor behind bytes that begin a text
-- IsSpot         the word with this number has these bytes, and stands in this line and column
-- IsNamed        the first word of a call with which it begins no words that are so
-- IsMisfit       the first word of a call that can't stand where it stands
-- IsAtFault      the first that is at fault, by its number or its name
use Rattle.std.specs.Prelude.{◌≡◌, ℕ, ◌+◌, ◌-◌, ◌≤◌, ◌==◌, if◌then◌else◌, Bool, List, take, Some, slice_get}
use Rattle.std.specs.List.{fold}
use Rattle.word_scan.specs.declared.scanner.Word.{Word}
use Rattle.word_scan.specs.declared.scanner.Style.{Style}
use Rattle.word_scan.specs.Scan.{scan_from}
use Rattle.word_scan.specs.Bytes.{bytes_of}
use Rattle.fault_text.specs.declared.spot.Cursor.{Cursor}
use Rattle.fault_text.specs.declared.spot.Spot.{Spot}
use Rattle.fault_text.specs.declared.words.CallWord.{CallWord}
use Rattle.call_words.specs.Begun.{IsFirstOff, IsVerbAnd, IsFormed, StandsFor}

-- the words of a text in a style, from left to right
abbrev pub words : Style → List ℕ → List Word
words style text = (scan_from style text 0 1).left

-- a line feed leads to the first column of the next line, any other byte one column on
abbrev pub moved : Cursor → ℕ → Cursor
moved cursor byte = if byte == 10 then record { line = cursor.line + 1; column = 1 }
    else record { line = cursor.line; column = cursor.column + 1 }

-- a text begins in line 1, column 1
abbrev pub cursor_behind : List ℕ → Cursor
cursor_behind bytes = fold moved (record { line = 1; column = 1 }) bytes

-- the word with this number, from 1, has these bytes, and stands in this line and column
pub record IsSpot (style : Style) (text : List ℕ) (number : ℕ) (spot : Spot) : Type 0 where
  pub word : Word
  pub counted : 1 ≤ number
  pub numbered : slice_get (words style text) (number - 1) ≡ Some word
  pub bytes : spot.word.now ≡ bytes_of text word
  pub place : spot.at ≡ cursor_behind (take word.from text)

-- the number is that of the first word with which a call's words begin none that are so, and this is the word
pub record IsNamed (AreSo : List (List ℕ) → Type 0) (words : List (List ℕ)) (found : CallWord) : Type 0 where
  pub first : IsFirstOff AreSo words found.number
  pub bytes : slice_get words (found.number - 1) ≡ Some found.word.now

-- the first word of a call that can't stand where it stands
abbrev pub IsMisfit : List (List ℕ) → CallWord → Type 0
IsMisfit = IsNamed (IsVerbAnd IsFormed)

-- the first word of a call that is at fault
abbrev pub IsAtFault : Bool → List (List ℕ) → CallWord → Type 0
IsAtFault names = IsNamed (IsVerbAnd (StandsFor names))
