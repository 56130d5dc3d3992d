-- Reading a mesh's text word by word.
--
-- Need       what the next word has to be, and what it then gives
-- Form       what is needed word after word, as the words before it say, and the value in the end
-- run        a form read from a place on: the value and the place behind it, or the refusal
-- mesh_at    a mesh's text read from a place on
-- walked     the first point number that names no point is refused
-- mesh_of    the mesh that the words are a text of, or the refusal
-- Gives      a call returned what reading gives, unless memory ran out
use Rattle.std.specs.Prelude.{◌≡◌, ℕ, zero, suc, ◌+◌, ◌*◌, ◌/◌, ◌%◌, Bool, false, ◌&&◌, ◌||◌, ◌==◌, nat_lt, nat_le, if◌then◌else◌, List, [], ◌∷◌, ◌++◌, length, Option, Some, None, Result, Ok, Err, ℤ, pos, neg_ℤ, ◌+ℤ◌, unsigned_abs, option_map}
use Rattle.std.specs.Int.{is_negative}
use Rattle.std.specs.Str.{bytes_eq}
use Rattle.word_scan.specs.declared.decimals.Dec.{Dec}
use Rattle.word_scan.specs.Numerals.{is_whole, whole_of}
use Rattle.word_scan.specs.Decimals.{decimal_of, signed}
use Rattle.grid_geom.specs.declared.Point.{Point}
use Rattle.grid_geom.specs.declared.TheConstants.{GRID}
use Rattle.vol_format.specs.declared.EdgeRow.{EdgeRow}
use Rattle.vol_format.specs.declared.MeshElement.{MeshElement}
use Rattle.vol_format.specs.declared.Mesh.{Mesh}
use Rattle.vol_format.specs.declared.refusal.TheConstants.{MOST_ROWS}
use Rattle.vol_format.specs.declared.refusal.VolRefusal.{VolRefusal}
use Rattle.vol_format.specs.declared.refusal.VolRefusal.TheVariants.{Syntax, Number as NumberAt, TooMany, BadIndex, Memory}
use Rattle.vol_format.specs.Vol.{places}
use Rattle.vol_format.specs.Text.{Word, Item, Fixed, Number, Coordinate, Plain, Count, PointNumber, tens, mesh_items, mesh3d, dimension, geomtype, surfaceelements, volumeelements, edgesegmentsgi2, points_word, endmesh}

-- this word; a whole number from the least to the greatest; the number of a point; how many rows follow; a coordinate
-- up to the greatest
pub data Need : Type 0 where
  NeedWord : Word → Need
  NeedNumber : ℕ → ℕ → Need
  NeedPoint : Need
  NeedCount : Need
  NeedPlace : ℕ → Need

abbrev pub Given : Need → Type 0
Given (NeedWord text) = Unit {0}
Given (NeedNumber least greatest) = ℕ
Given NeedPoint = ℕ
Given NeedCount = ℕ
Given (NeedPlace greatest) = ℤ

-- a number that is not below the least
abbrev pub from_least : ℕ → Option ℕ → Option ℕ
from_least least None = None
from_least least (Some n) = if nat_le least n then Some n else None

-- up / down, where that is whole and at most the greatest
abbrev pub divided : ℕ → ℕ → ℕ → Option ℕ
divided greatest up down =
    if up % down == 0 && nat_le (up / down) greatest then Some (up / down) else None

-- the grid steps of a decimal without its sign, where coordinates have k decimals
abbrev pub steps_of : ℕ → ℕ → Dec → Option ℕ
steps_of k greatest d = divided greatest (unsigned_abs d.digits * tens (d.scale +ℤ pos k))
    (15625 * tens (neg_ℤ (d.scale +ℤ pos k)))

-- the coordinate that it is
abbrev pub place_of : ℕ → ℕ → Dec → Option ℤ
place_of k greatest d = option_map (signed (is_negative d.digits)) (steps_of k greatest d)

abbrev pub place_in : ℕ → ℕ → Option Dec → Option ℤ
place_in k greatest None = None
place_in k greatest (Some d) = place_of k greatest d

-- what the word gives where it is what is needed and coordinates have k decimals
abbrev pub got : ℕ → (need : Need) → Word → Option (Given need)
got k (NeedWord text) word = if bytes_eq word text then Some tt else None
got k (NeedNumber least greatest) word = from_least least (whole_of word greatest)
got k NeedPoint word = whole_of word MOST_ROWS
got k NeedCount word = whole_of word MOST_ROWS
got k (NeedPlace greatest) word = place_in k greatest (decimal_of word)

-- the refusal of another word, word number `at`
abbrev pub refused : Need → ℕ → Word → VolRefusal
refused (NeedWord text) at word = Syntax at
refused (NeedNumber least greatest) at word = NumberAt at
refused NeedPoint at word = NumberAt at
refused NeedCount at word = if is_whole word then TooMany at else NumberAt at
refused (NeedPlace greatest) at word = NumberAt at

-- ---- forms

pub data Form (A : Type 0) : Type 0 where
  Leaf : A → Form A
  Ask : (need : Need) → (Given need → Form A) → Form A

infixl 10 ◌>>=◌
-- one form and then another
abbrev pub ◌>>=◌ : {A B : Type 0} → Form A → (A → Form B) → Form B
(Leaf a) >>= next = next a
(Ask need form) >>= next = Ask need (λ v. form v >>= next)

-- how many decimals coordinates have, the number of the next word, and the words that are left
pub record State : Type 0 where
  pub places : ℕ
  pub at : ℕ
  pub left : List Word

abbrev pub Read : Type 0 → Type 0
Read A = Result (A × State) VolRefusal

abbrev pub and_then : {A B : Type 0} → Read A → (A → State → Read B) → Read B
and_then (Err e) next = Err e
and_then (Ok (a, st)) next = next a st

-- behind the next word
abbrev pub behind : State → List Word → State
behind st words = record { places = st.places; at = st.at + 1; left = words }

-- this was the next word, or none was left
abbrev pub Taken : Option Word → State → State → Type 0
Taken None old new = (old.left ≡ []) × (new ≡ old)
Taken (Some word) old new = (old.left ≡ word ∷ new.left) × (new ≡ behind old new.left)

abbrev pub judged : (need : Need) → State → Word → List Word → Option (Given need) → Read (Given need)
judged need st word words None = Err (refused need st.at word)
judged need st word words (Some v) = Ok (v, behind st words)

abbrev pub asked_at : (need : Need) → State → List Word → Read (Given need)
asked_at need st [] = Err (Syntax st.at)
asked_at need st (word ∷ words) = judged need st word words (got st.places need word)

-- the next word, where it is what is needed
unfoldable pub asked : (need : Need) → State → Read (Given need)
asked need st = asked_at need st st.left

abbrev pub run : {A : Type 0} → Form A → State → Read A
run (Leaf a) st = Ok (a, st)
run (Ask need form) st = and_then (asked need st) (λ v after. run (form v) after)

-- ---- the text

abbrev pub said : Word → Form (Unit {0})
said text = Ask (NeedWord text) Leaf

abbrev pub number : ℕ → ℕ → Form ℕ
number least greatest = Ask (NeedNumber least greatest) Leaf

abbrev pub point_number : Form ℕ
point_number = Ask NeedPoint Leaf

abbrev pub count : Form ℕ
count = Ask NeedCount Leaf

abbrev pub place : ℕ → Form ℤ
place greatest = Ask (NeedPlace greatest) Leaf

unfoldable pub element_form : Form MeshElement
element_form = do
  domain ← number 1 64
  again ← number domain domain
  x ← number 0 0
  y ← number 0 0
  corners ← number 3 3
  a ← point_number
  b ← point_number
  c ← point_number
  Leaf (record { domain = domain; corners = a ∷ b ∷ c ∷ [] })

unfoldable pub edge_form : Form EdgeRow
edge_form = do
  bc ← number 0 999999
  u ← number 0 0
  a ← point_number
  b ← point_number
  v ← number 0 0
  w ← number 0 0
  left ← number 0 64
  right ← number 0 64
  segment ← number 1 4096
  x ← number 0 0
  again ← number segment segment
  y ← number 0 0
  Leaf (record { bc = bc; a = a; b = b; left = left; right = right; segment = segment })

unfoldable pub point_form : Form Point
point_form = do
  x ← place (unsigned_abs GRID)
  y ← place (unsigned_abs GRID)
  z ← place 0
  Leaf (record { x = x; y = y })

-- so many rows more, behind these
abbrev pub rows_behind : {A : Type 0} → Form A → List A → ℕ → Form (List A)
rows_behind row rows zero = Leaf rows
rows_behind row rows (suc more) = row >>= λ next. rows_behind row (rows ++ next ∷ []) more

-- how many rows there are, and the rows
abbrev pub counted_rows : {A : Type 0} → Form A → Form (List A)
counted_rows row = count >>= λ n. rows_behind row [] n

unfoldable pub elements_form : Form (List MeshElement)
elements_form = do
  a ← said mesh3d
  b ← said dimension
  c ← number 2 2
  d ← said geomtype
  e ← number 0 0
  f ← said surfaceelements
  counted_rows element_form

unfoldable pub edges_form : Form (List EdgeRow)
edges_form = do
  a ← said volumeelements
  b ← number 0 0
  c ← said edgesegmentsgi2
  counted_rows edge_form

unfoldable pub points_form : Form (List Point)
points_form = do
  a ← said points_word
  counted_rows point_form

unfoldable pub ending_form : Form (Unit {0})
ending_form = said endmesh

-- the elements, the edge rows, the points, and the last word
unfoldable pub mesh_at : ℤ → State → Read Mesh
mesh_at shift st = and_then (run elements_form st) (λ elements a.
    and_then (run edges_form a) (λ edges b.
    and_then (run points_form b) (λ points c.
    and_then (run ending_form c) (λ u d. Ok
    (record { shift = shift; points = points; edges = edges; elements = elements }, d)))))

-- ---- the whole

-- at the first of these words
abbrev pub at_start : ℕ → List Word → State
at_start k words = record { places = k; at = 1; left = words }

-- nothing may be left
abbrev pub ended_at : {A : Type 0} → A → ℕ → List Word → Result A VolRefusal
ended_at a at [] = Ok a
ended_at a at (word ∷ words) = Err (Syntax at)

abbrev pub ended : {A : Type 0} → Read A → Result A VolRefusal
ended (Err e) = Err e
ended (Ok (a, st)) = ended_at a st.at st.left

-- whether a point number names none of so many points
abbrev pub misnames : ℕ → Item → Bool
misnames points (Number PointNumber n) = n == 0 || nat_lt points n
misnames points (Number Plain n) = false
misnames points (Number Count n) = false
misnames points (Fixed text) = false
misnames points (Coordinate x) = false

-- the first item that names no point is refused, where the first of all has number `at`; else the number behind the last
abbrev pub walked : ℕ → ℕ → List Item → Result ℕ VolRefusal
walked points at [] = Ok at
walked points at (item ∷ items) = if misnames points item then Err (BadIndex at)
    else walked points (at + 1) items

abbrev pub known_if : Mesh → Result ℕ VolRefusal → Result Mesh VolRefusal
known_if m (Ok at) = Ok m
known_if m (Err e) = Err e

abbrev pub known : Result Mesh VolRefusal → Result Mesh VolRefusal
known (Err e) = Err e
known (Ok m) = known_if m (walked (length m.points) 1 (mesh_items m))

-- the mesh that the words are a text of, or the refusal
unfoldable pub mesh_of : ℤ → List Word → Result Mesh VolRefusal
mesh_of shift words = known (ended (mesh_at shift (at_start (places shift) words)))

-- ---- what calls return

-- What a call returned, seen by view, and the place where it left the reader are what reading gives, unless memory ran out.
abbrev pub Fails : {Y : Type 0} → VolRefusal → Result Y VolRefusal → Type 0
Fails Memory read = Unit {0}
Fails e read = read ≡ Err e

abbrev pub GivesAt : {X Y : Type 0} → (X → Y) → Result X VolRefusal → State → Read Y → Type 0
GivesAt view (Ok x) st read = read ≡ Ok (view x, st)
GivesAt view (Err e) st read = Fails e read

-- the same of a call that leaves no place
abbrev pub Gives : {X Y : Type 0} → (X → Y) → Result X VolRefusal → Result Y VolRefusal → Type 0
Gives view (Ok x) read = read ≡ Ok (view x)
Gives view (Err e) read = Fails e read
