-- The refusals of a mesh's text.
--
-- refusal_number  the number that a refusal is printed with
-- IsFront         words that a text begins with
-- Stops           the first word with which no text goes on
-- Misses          a word is missing at the end
-- Wants           what a text that goes on says next
-- Refuses         words that are refused so
use Rattle.std.specs.Prelude.{◌≡◌, ◌⊎◌, ℕ, ◌+◌, ◌<◌, List, [], ◌∷◌, ◌++◌, length, ℤ}
use Rattle.std.specs.List.{AllByRecursion}
use Rattle.word_scan.specs.Numerals.{IsWhole, value_of}
use Rattle.vol_format.specs.declared.Mesh.{Mesh}
use Rattle.vol_format.specs.declared.refusal.TheConstants.{MOST_ROWS}
use Rattle.vol_format.specs.declared.refusal.VolRefusal.{VolRefusal}
use Rattle.vol_format.specs.declared.refusal.VolRefusal.TheVariants as refusals
use Rattle.vol_format.specs.Text.{Word, Item, Fixed, Number, Coordinate, Count, mesh_items, Derives, Names}

abbrev pub refusal_number : VolRefusal → ℕ
refusal_number (refusals.Syntax word) = 1
refusal_number (refusals.Number word) = 2
refusal_number (refusals.BadIndex word) = 3
refusal_number (refusals.TooMany word) = 4
refusal_number refusals.Memory = 5

-- a text begins with these words
abbrev pub IsFront : ℤ → List Word → Type 0
IsFront shift words = (rest : List Word) × (m : Mesh) × Derives shift (words ++ rest) m

-- with the words before it a text begins, and with this word, word number `at`, none does
pub record Stops (shift : ℤ) (words : List Word) (at : ℕ) (word : Word) : Type 0 where
  pub before : List Word
  pub after : List Word
  pub same : words ≡ before ++ (word ∷ after)
  pub place : at ≡ length before + 1
  pub front : IsFront shift before
  pub stop : IsFront shift (before ++ word ∷ []) → ⊥

-- a text begins with the words, and they are none themselves
pub record Misses (shift : ℤ) (words : List Word) (at : ℕ) : Type 0 where
  pub place : at ≡ length words + 1
  pub front : IsFront shift words
  pub stop : (m : Mesh) → Derives shift words m → ⊥

-- a text that begins with these words says this next
pub record Wants (shift : ℤ) (before : List Word) (item : Item) : Type 0 where
  pub rest : List Word
  pub mesh : Mesh
  pub text : Derives shift (before ++ rest) mesh
  pub front : List Item
  pub back : List Item
  pub same : mesh_items mesh ≡ front ++ (item ∷ back)
  pub place : length front ≡ length before

abbrev pub IsNumber : Item → Type 0
IsNumber (Fixed text) = ⊥
IsNumber (Number role n) = Unit {0}
IsNumber (Coordinate x) = Unit {0}

-- a count stands here, and the word is a greater one than there may be
abbrev pub PassesLimit : Word → Item → Type 0
PassesLimit word (Number Count n) = IsWhole word × (MOST_ROWS < value_of word)
PassesLimit word item = ⊥

-- the item in the place `at` is the first that is no point of the mesh
pub record Misnames (m : Mesh) (at : ℕ) : Type 0 where
  pub front : List Item
  pub item : Item
  pub back : List Item
  pub same : mesh_items m ≡ front ++ (item ∷ back)
  pub place : at ≡ length front + 1
  pub known : AllByRecursion (Names (length m.points)) front
  pub unknown : Names (length m.points) item → ⊥

-- The first word with which no text goes on is refused by Number where a number is wanted, but by TooMany where it
-- is a count past the limit; by Syntax where no number is wanted. A word that is missing at the end is refused by Syntax.
-- A text is refused by BadIndex at its first point number that names no point of it, if there is one.
abbrev pub Refuses : ℤ → List Word → VolRefusal → Type 0
Refuses shift words (refusals.Syntax at) = ((word : Word) × (s : Stops shift words at word)
    × ((item : Item) → Wants shift s.before item → IsNumber item → ⊥)) ⊎ Misses shift words at
Refuses shift words (refusals.Number at) = (word : Word) × (s : Stops shift words at word)
    × (item : Item) × Wants shift s.before item × IsNumber item × (PassesLimit word item → ⊥)
Refuses shift words (refusals.TooMany at) = (word : Word) × (s : Stops shift words at word)
    × (item : Item) × Wants shift s.before item × PassesLimit word item
Refuses shift words (refusals.BadIndex at) = (m : Mesh) × Derives shift words m × Misnames m at
Refuses shift words refusals.Memory = Unit {0}
