-- The line that a refusal writes.
--
-- numbers_line  the line of a kind with numbers
-- refusal_line  the line of a refusal
use Rattle.std.specs.Prelude.{ℕ, List, [], ◌∷◌, ◌++◌, codes, ℤ, pos}
use Rattle.std.specs.Fmt.{decimal}
use Rattle.text_rows.specs.Rows.{spaced_signed}
use Rattle.in2d_reader.specs.declared.refusal.In2dRefusal.{In2dRefusal}
use Rattle.in2d_reader.specs.declared.refusal.In2dRefusal.TheVariants.{Syntax, Number, Curved}
use Rattle.in2d_reader.specs.declared.refusal.In2dRefusal.TheVariants.{TooMany, NumberTwice}
use Rattle.in2d_reader.specs.declared.refusal.In2dRefusal.TheVariants.{UnknownPoint}
use Rattle.in2d_reader.specs.declared.refusal.In2dRefusal.TheVariants.{Memory as NoMemoryThere}
use Rattle.geom_check.specs.declared.refusal.GeomRefusal.{GeomRefusal}
use Rattle.geom_check.specs.declared.refusal.GeomRefusal.TheVariants.{NoDomain, TooLarge, SamePlace}
use Rattle.geom_check.specs.declared.refusal.GeomRefusal.TheVariants.{SameSides, NoLength, Meet}
use Rattle.geom_check.specs.declared.refusal.GeomRefusal.TheVariants.{OpenAt, Side, Overlap}
use Rattle.geom_check.specs.declared.refusal.GeomRefusal.TheVariants.{Memory as NoMemoryHere}
use Rattle.rule_reader.specs.declared.fault.RuleRefusal.{RuleRefusal}
use Rattle.rule_reader.specs.declared.fault.RuleRefusal.TheVariants as fault_of_rules
use Rattle.vol_format.specs.declared.refusal.VolRefusal.{VolRefusal}
use Rattle.vol_format.specs.declared.refusal.VolRefusal.TheVariants as fault_of_mesh
use Rattle.run_log.specs.declared.refusal.LogRefusal.{LogRefusal}
use Rattle.run_log.specs.declared.refusal.LogRefusal.TheVariants as fault_of_log
use Rattle.call_words.specs.declared.words_fault.WordsFault.{WordsFault}
use Rattle.call_words.specs.declared.words_fault.WordsFault.TheVariants.{NoVerb, UnknownVerb, Form, Value, SameName}
use Rattle.netmesh_cli.specs.declared.outcome.Refusal.{Refusal}
use Rattle.netmesh_cli.specs.declared.outcome.Refusal.TheVariants.{Words, In2d, Geometry, Rules}
use Rattle.netmesh_cli.specs.declared.outcome.Refusal.TheVariants.{Vol, Log, Folder, Out, Memory}
use Rattle.netmesh_cli.specs.declared.outcome.Refusal.TheVariants.{NotYet}

-- `refused`, the kind, and the numbers, each after one space
abbrev pub numbers_line : List ℕ → List ℤ → List ℕ
numbers_line kind numbers = codes "refused " ++ kind ++ spaced_signed numbers ++ codes "\n"

-- the number of a fault of the words
abbrev pub words_number : WordsFault → ℕ
words_number NoVerb = 1
words_number UnknownVerb = 2
words_number Form = 3
words_number Value = 4
words_number SameName = 5

-- the number of the fault of a geometry's text, and the word, segment or kind of row; want of memory has no line
abbrev pub in2d_line : In2dRefusal → List ℕ
in2d_line (Syntax word) = numbers_line (codes "in2d") (pos 1 ∷ pos word ∷ [])
in2d_line (Number word) = numbers_line (codes "in2d") (pos 2 ∷ pos word ∷ [])
in2d_line (Curved segment) = numbers_line (codes "in2d") (pos 3 ∷ pos segment ∷ [])
in2d_line (TooMany what) = numbers_line (codes "in2d") (pos 4 ∷ pos what ∷ [])
in2d_line (NumberTwice word) = numbers_line (codes "in2d") (pos 5 ∷ pos word ∷ [])
in2d_line (UnknownPoint segment) = numbers_line (codes "in2d") (pos 6 ∷ pos segment ∷ [])
in2d_line NoMemoryThere = []

-- the number of a geometry's fault, and its rows, segments, domain and place; want of memory has no line
abbrev pub geometry_line : GeomRefusal → List ℕ
geometry_line NoDomain = numbers_line (codes "geometry") (pos 1 ∷ [])
geometry_line (TooLarge point) = numbers_line (codes "geometry") (pos 2 ∷ pos point ∷ [])
geometry_line (SamePlace i j) = numbers_line (codes "geometry") (pos 3 ∷ pos i ∷ pos j ∷ [])
geometry_line (SameSides segment) = numbers_line (codes "geometry") (pos 4 ∷ pos segment ∷ [])
geometry_line (NoLength segment) = numbers_line (codes "geometry") (pos 5 ∷ pos segment ∷ [])
geometry_line (Meet i j) = numbers_line (codes "geometry") (pos 6 ∷ pos i ∷ pos j ∷ [])
geometry_line (OpenAt point domain) =
    numbers_line (codes "geometry") (pos 7 ∷ pos point ∷ pos domain ∷ [])
geometry_line (Side domain at) =
    numbers_line (codes "geometry") (pos 8 ∷ pos domain ∷ at.x ∷ at.y ∷ at.k ∷ [])
geometry_line (Overlap at) = numbers_line (codes "geometry") (pos 9 ∷ at.x ∷ at.y ∷ at.k ∷ [])
geometry_line NoMemoryHere = []

-- the number of the fault of a rule file, and its rule, what there is too much of, or word; want of memory has no line
abbrev pub rules_line : RuleRefusal → List ℕ
rules_line (fault_of_rules.Syntax word) = numbers_line (codes "rules") (pos 1 ∷ pos word ∷ [])
rules_line (fault_of_rules.Number word) = numbers_line (codes "rules") (pos 2 ∷ pos word ∷ [])
rules_line (fault_of_rules.TooMany rule what) =
    numbers_line (codes "rules") (pos 3 ∷ pos rule ∷ pos what ∷ [])
rules_line (fault_of_rules.BadIndex rule word) =
    numbers_line (codes "rules") (pos 4 ∷ pos rule ∷ pos word ∷ [])
rules_line (fault_of_rules.TooLoose rule) = numbers_line (codes "rules") (pos 5 ∷ pos rule ∷ [])
rules_line fault_of_rules.Memory = []

-- the number of the fault of a mesh, and its word; want of memory has no line
abbrev pub vol_line : VolRefusal → List ℕ
vol_line (fault_of_mesh.Syntax word) = numbers_line (codes "vol") (pos 1 ∷ pos word ∷ [])
vol_line (fault_of_mesh.Number word) = numbers_line (codes "vol") (pos 2 ∷ pos word ∷ [])
vol_line (fault_of_mesh.BadIndex word) = numbers_line (codes "vol") (pos 3 ∷ pos word ∷ [])
vol_line (fault_of_mesh.TooMany word) = numbers_line (codes "vol") (pos 4 ∷ pos word ∷ [])
vol_line fault_of_mesh.Memory = []

-- the number of the fault of a log, and its word, or the domain and the step that it doesn't have; want of memory
-- has no line
abbrev pub log_line : LogRefusal → List ℕ
log_line (fault_of_log.Syntax word) = numbers_line (codes "log") (pos 1 ∷ pos word ∷ [])
log_line (fault_of_log.Number word) = numbers_line (codes "log") (pos 2 ∷ pos word ∷ [])
log_line (fault_of_log.BadIndex word) = numbers_line (codes "log") (pos 3 ∷ pos word ∷ [])
log_line (fault_of_log.NoState domain step) =
    numbers_line (codes "log") (pos 4 ∷ pos domain ∷ pos step ∷ [])
log_line fault_of_log.Memory = []

-- `refused`, the kind, its number and values; an answer that isn't taken and want of memory have no line
abbrev pub refusal_line : Refusal → List ℕ
refusal_line (Words fault) = numbers_line (codes "words") (pos (words_number fault) ∷ [])
refusal_line (In2d fault) = in2d_line fault
refusal_line (Geometry fault) = geometry_line fault
refusal_line (Rules fault) = rules_line fault
refusal_line (Vol fault) = vol_line fault
refusal_line (Log fault) = log_line fault
refusal_line (Folder name fault) =
    codes "refused folder " ++ decimal fault ++ codes " " ++ name ++ codes "\n"
refusal_line Out = []
refusal_line Memory = []
refusal_line (NotYet part) = codes "refused notyet " ++ decimal part ++ codes "\n"
