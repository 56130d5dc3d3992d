-- What stands under the names of a folder.
use Rattle.std.specs.Prelude.{◌≡◌, ◌≢◌, ℕ, ◌<◌, List, MatchOption, map, length, nat_le, nat_eq, not}
use Rattle.std.specs.Prelude.{◌⊎◌, None, Some, Option, Ok, Err, Result, MatchResult, String}
use Rattle.std.specs.Prelude.{string_bytes, Vec, if◌then◌else◌}
use Rattle.std.specs.List.{zip, filter}
use Rattle.std.specs.Ordering.{nat_cmp}
use Rattle.std.specs.Cmp.Lexicographic.{slice_cmp, pointwise}
use Rattle.std.specs.FinMap as finite
use Rattle.std.specs.Global.{Global}
use Rattle.folder_io.specs.declared.faults.TakeFault.{TakeFault}
use Rattle.folder_io.specs.declared.faults.TakeFault.TheVariants.{TooLong, Missing, Memory}

-- the bytes under each name, both as lists of bytes; two of these that answer alike are equal
abbrev pub Files : Type 0
Files = finite.FinMap (slice_cmp nat_cmp) (List ℕ)

-- the bytes held under a name, if it is there
abbrev pub held_at : Files → List ℕ → Option (List ℕ)
held_at files name = finite.get files name

-- these bytes are held under the name
abbrev pub Holds : Files → List ℕ → List ℕ → Type 0
Holds files name bytes = held_at files name ≡ Some bytes

-- nothing is held under the name
abbrev pub IsMissing : List ℕ → Files → Type 0
IsMissing name files = held_at files name ≡ None

-- more bytes than the limit are held under the name
abbrev pub IsLonger : ℕ → List ℕ → Files → Type 0
IsLonger limit name files = MatchOption (held_at files name) ⊥ (λ bytes. limit < length bytes)

-- every name but this one holds what it held
abbrev pub SameBut : List ℕ → Files → Files → Type 0
SameBut name old new = (other : List ℕ) → other ≢ name → held_at new other ≡ held_at old other

-- an entry of a table of files: its name and its bytes
abbrev pub entry_bytes : String Global × Vec ℕ Global → List ℕ × List ℕ
entry_bytes entry = (string_bytes entry.0, entry.1.items)

-- the entries of every other name
abbrev pub without : List ℕ → List (String Global × Vec ℕ Global)
    → List (String Global × Vec ℕ Global)
without name entries = filter (λ entry. not (pointwise nat_eq (string_bytes entry.0) name)) entries

-- the files of two lists, each under the name at its place; of one name the first file
abbrev pub files_of : List (String Global) → List (Vec ℕ Global) → Files
files_of names files = finite.from_entries (zip (map string_bytes names) (map (λ v. v.items) files))

-- what a take answers where nothing fails: the bytes held if they number at most the limit
abbrev pub take_answer : Option (List ℕ) → ℕ → Result (List ℕ) TakeFault
take_answer None limit = Err Missing
take_answer (Some bytes) limit = if nat_le (length bytes) limit then Ok bytes else Err TooLong

-- the call gave this answer, or memory was refused
abbrev pub Gives : Result (Vec ℕ Global) TakeFault → Result (List ℕ) TakeFault → Type 0
Gives result answer = MatchResult result (λ v. answer ≡ Ok v.items)
    (λ fault. (fault ≡ Memory) ⊎ (answer ≡ Err fault))
