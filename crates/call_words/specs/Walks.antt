-- How far the words after a verb are read (inner).
--
-- Walk          so many places, the options that are set, the one that waits for its value, and whether `--` was passed
-- walked_on     the walk behind one more word, where it may stand there
-- Fits          the words behind the walk make it one in the form of the verb
-- IsSound       some words fit
-- Course        a walk with the name of the mesh
-- IsRight       the word may be this place
-- FitsRight     the words behind the walk make it one that stands for a task
-- IsOnCourse    some words do
use Rattle.std.specs.Prelude.{◌≡◌, ℕ, ◌+◌, ◌≢◌, ◌≤◌, ◌==◌, Bool, true, false, ◌&&◌, if◌then◌else◌}
use Rattle.std.specs.Prelude.{nat_lt, List, [], ◌∷◌, length, Option, Some, None, option_map}
use Rattle.std.specs.Option.{option_copied}
use Rattle.call_words.specs.declared.command.Verb.{Verb}
use Rattle.call_words.specs.declared.command.Verb.TheVariants as verbs
use Rattle.call_words.specs.declared.command.MeshOptions.{MeshOptions}
use Rattle.call_words.specs.declared.at_fault.Course.{Course as CourseValue}
use Rattle.call_words.specs.declared.settings.Setting.{Setting}
use Rattle.call_words.specs.declared.misfit.Sort.{Sort}
use Rattle.call_words.specs.declared.misfit.Sort.TheVariants as sorts
use Rattle.call_words.specs.declared.misfit.Walk.{Walk as WalkValue}
use Rattle.call_words.specs.CommandLine.{setting_word, Given, nothing_given, word_given, with_word}
use Rattle.call_words.specs.Commands.{place_count, IsWholeFrom, AreOptions}
use Rattle.call_words.specs.WordsRead.{given_of, WordSort, PlainWord, Dashes, Before, With, Other}
use Rattle.call_words.specs.WordsRead.{word_sort, is_plain_sort, setting_of, reading}
use Rattle.call_words.specs.Forms.{takes_options}

-- what a word may be, without where its bytes lie
abbrev pub sort_seen : Sort → WordSort
sort_seen sorts.Plain = PlainWord
sort_seen sorts.Dashes = Dashes
sort_seen (sorts.Before name) = Before name.now
sort_seen (sorts.With name value) = With name.now value.now
sort_seen sorts.Other = Other

pub record Walk : Type 0 where
  pub passed : ℕ
  pub given : Given
  pub waits : Option Setting
  pub alone : Bool

abbrev pub walk_seen : WalkValue → Walk
walk_seen walk =
    record {
      passed = walk.passed;
      given = given_of walk.settings;
      waits = walk.waits;
      alone = walk.alone;
    }

-- before the first word
abbrev pub at_start : Walk
at_start = record { passed = 0; given = nothing_given; waits = None; alone = false }

-- one place more, where the verb has one more
abbrev pub placed : Verb → Walk → Option Walk
placed verb walk = if nat_lt walk.passed (place_count verb)
    then Some (record walk { passed = walk.passed + 1 }) else None

-- the option waits for its value, or is set to a word
abbrev pub waiting : Walk → Setting → Walk
waiting walk setting = record walk { waits = Some setting }

abbrev pub set_to : List ℕ → Walk → Setting → Walk
set_to word walk setting = record walk {
  given = with_word setting word walk.given;
  waits = None;
}

-- the option, where there are options and it isn't set yet
abbrev pub if_free : Bool → Option (List ℕ) → Setting → Option Setting
if_free true None setting = Some setting
if_free true (Some word) setting = None
if_free false word setting = None

abbrev pub free_option : Verb → Given → Option Setting → Option Setting
free_option verb given None = None
free_option verb given (Some setting) =
    if_free (takes_options verb) (word_given setting given) setting

-- behind a word of this sort, where no option waits
abbrev pub walked_by : Verb → Walk → WordSort → Option Walk
walked_by verb walk PlainWord = placed verb walk
walked_by verb walk Dashes = Some (record walk { alone = true })
walked_by verb walk (Before name) =
    option_map (waiting walk) (free_option verb walk.given (setting_of name))
walked_by verb walk (With name value) =
    option_map (set_to value walk) (free_option verb walk.given (setting_of name))
walked_by verb walk Other = None

-- behind the word, where this option waits or none does
abbrev pub walked_past : Verb → Walk → List ℕ → Option Setting → Option Walk
walked_past verb walk word None = walked_by verb walk (word_sort word)
walked_past verb walk word (Some setting) =
    if is_plain_sort (word_sort word) then Some (set_to word walk setting) else None

-- behind the word, where it may stand there
abbrev pub walked_on : Verb → Walk → List ℕ → Option Walk
walked_on verb walk word = if walk.alone then placed verb walk
    else walked_past verb walk word walk.waits

-- what is read of the words behind the walk
abbrev pub read_behind : Walk → List (List ℕ) → Option (List (List ℕ) × Given)
read_behind walk words = if walk.alone then Some (words, walk.given)
    else reading (option_map setting_word walk.waits) walk.given words

-- the words behind the walk make it one in the form of the verb
pub record Fits (verb : Verb) (walk : Walk) (words : List (List ℕ)) : Type 0 where
  pub places : List (List ℕ)
  pub all : Given
  pub read : read_behind walk words ≡ Some (places, all)
  pub count : walk.passed + length places ≡ place_count verb
  pub options : takes_options verb ≡ false → all ≡ nothing_given

-- there is no place too many, and an option that waits isn't set yet and is one of the verb's
pub record IsSound (verb : Verb) (walk : Walk) : Type 0 where
  pub few : walk.passed ≤ place_count verb
  pub free : (setting : Setting) → walk.waits ≡ Some setting → word_given setting walk.given ≡ None
  pub own : (setting : Setting) → walk.waits ≡ Some setting → takes_options verb ≡ true
  pub bare : takes_options verb ≡ false → walk.given ≡ nothing_given

-- the range of the number in a place, where a number stands there; places are counted from 0
abbrev pub range_of : Verb → ℕ → Option (ℕ × ℕ)
range_of verbs.Mesh place = None
range_of verbs.Geom place = None
range_of verbs.Rules place = None
range_of verbs.Check place = None
range_of verbs.View place = if place == 1 then Some (1, 64)
    else if place == 2 then Some (0, 1000000000000) else None
range_of verbs.Replay place = None
range_of verbs.Gen place = if place == 0 then Some (1, 8)
    else if place == 1 then Some (1, 16) else None

abbrev pub IsInRange : Option (ℕ × ℕ) → List ℕ → Type 0
IsInRange None word = Unit {0}
IsInRange (Some (least, greatest)) word = (number : ℕ) × IsWholeFrom least greatest word number

-- the word may be this place, where the mesh has this name, if it is known yet
pub record IsRight (verb : Verb) (place : ℕ) (mesh : Option (List ℕ)) (word : List ℕ) : Type 0 where
  pub range : IsInRange (range_of verb place) word
  pub other : mesh ≢ Some word

-- the name of the mesh, behind this place, where names are looked at
abbrev pub mesh_behind : Bool → ℕ → List ℕ → Option (List ℕ) → Option (List ℕ)
mesh_behind names place word mesh = if names && place == 2 then Some word else mesh

-- the words may be the places from this one on
abbrev pub AreRight : Verb → Bool → ℕ → Option (List ℕ) → List (List ℕ) → Type 0
AreRight verb names place mesh [] = Unit {0}
AreRight verb names place mesh (word ∷ words) = IsRight verb place mesh word
    × AreRight verb names (place + 1) (mesh_behind names place word mesh) words

-- a walk, whether names are looked at, and the name of the mesh, if it is known yet
pub record Course : Type 0 where
  pub walk : Walk
  pub names : Bool
  pub mesh : Option (List ℕ)

abbrev pub course_seen : CourseValue → Course
course_seen course =
    record {
      walk = walk_seen course.walk;
      names = course.names;
      mesh = option_copied course.mesh;
    }

-- the words behind the walk make it one that stands for a task
pub record FitsRight (verb : Verb) (course : Course) (words : List (List ℕ)) : Type 0 where
  pub places : List (List ℕ)
  pub all : Given
  pub read : read_behind course.walk words ≡ Some (places, all)
  pub count : course.walk.passed + length places ≡ place_count verb
  pub bare : takes_options verb ≡ false → all ≡ nothing_given
  pub right : AreRight verb course.names course.walk.passed course.mesh places
  pub options : MeshOptions
  pub values : AreOptions all options

-- the walk is sound, its options have values, and names are looked at and kept of `mesh` alone
pub record IsOnCourse (verb : Verb) (course : Course) : Type 0 where
  pub sound : IsSound verb course.walk
  pub options : MeshOptions
  pub values : AreOptions course.walk.given options
  pub own : course.names ≡ true → takes_options verb ≡ true
  pub nameless : course.names ≡ false → course.mesh ≡ None

-- what the word leads to, where it may stand behind the walk
pub record LeadsTo (verb : Verb) (course : Course) (word : List ℕ) (next : Course) : Type 0 where
  pub on : (more : List (List ℕ)) → FitsRight verb next more → FitsRight verb course (word ∷ more)
  pub back : (more : List (List ℕ)) → FitsRight verb course (word ∷ more) → FitsRight verb next more
  pub still : IsOnCourse verb next
