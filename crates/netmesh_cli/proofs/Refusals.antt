-- What a refusal says, from how it was made.
use Rattle.std.proofs.Common.{◌≡◌, ◌≢◌, ℕ, List, ◌⊎◌, inl, inr, sym, subst, refl}
use Rattle.std.specs.Prelude.{Err, ℤ}
use Rattle.folder_io.specs.States.{FolderState}
use Rattle.rule_reader.specs.declared.fault.RuleRefusal.{RuleRefusal}
use Rattle.rule_reader.specs.declared.fault.RuleRefusal.TheVariants as fault_of
use Rattle.rule_reader.specs.declared.rule.Rule.{Rule}
use Rattle.rule_reader.specs.Words.{words_of as rule_words_of}
use Rattle.rule_reader.specs.Grammar.{IsReadAs}
use Rattle.rule_reader.specs.Refusals.{Refuses as RefusesRuleWords}
use Rattle.netmesh_cli.specs.declared.outcome.Refusal.{Refusal}
use Rattle.netmesh_cli.specs.declared.outcome.Refusal.TheVariants.{Words, In2d, Geometry, Rules, Vol, Log, Folder, Out, Memory, NotYet}
use Rattle.netmesh_cli.specs.Causes.{IsOf, IsMemory, FolderFault, FetchRefused}
use Rattle.word_scan.specs.Scan.{words_of}
use Rattle.vol_format.specs.declared.Mesh.{Mesh}
use Rattle.vol_format.specs.declared.refusal.VolRefusal.{VolRefusal}
use Rattle.vol_format.specs.declared.refusal.VolRefusal.TheVariants.{Memory as NoMemoryForMesh}
use Rattle.vol_format.specs.Text.{Derives as DerivesMesh, Known}
use Rattle.vol_format.specs.Refusals.{Refuses as RefusesMesh}
use Rattle.netmesh_cli.specs.Accepted.{AreRules, IsRulesFault, IsMeshFault}

-- a refusal with the fault's number, or want of memory, is a refusal of the file by the folder
pub refused_by : (limit : ℕ) (name : List ℕ) (before now : FolderState) (fault : ℕ) (r : Refusal) → IsOf name fault r ⊎ IsMemory r → FolderFault limit name before now fault → FetchRefused limit name before now r
refused_by limit name before now fault (Words other) (inl h) because = absurd h
refused_by limit name before now fault (Words other) (inr h) because = absurd h
refused_by limit name before now fault (In2d other) (inl h) because = absurd h
refused_by limit name before now fault (In2d other) (inr h) because = absurd h
refused_by limit name before now fault (Geometry other) (inl h) because = absurd h
refused_by limit name before now fault (Geometry other) (inr h) because = absurd h
refused_by limit name before now fault (Rules other) (inl h) because = absurd h
refused_by limit name before now fault (Rules other) (inr h) because = absurd h
refused_by limit name before now fault (Vol other) (inl h) because = absurd h
refused_by limit name before now fault (Vol other) (inr h) because = absurd h
refused_by limit name before now fault (Log other) (inl h) because = absurd h
refused_by limit name before now fault (Log other) (inr h) because = absurd h
refused_by limit name before now fault (Folder named number) (inl of) because = (of.0, subst (FolderFault limit name before now) (sym of.1) because)
refused_by limit name before now fault (Folder named number) (inr h) because = absurd h
refused_by limit name before now fault Out (inl h) because = absurd h
refused_by limit name before now fault Out (inr h) because = absurd h
refused_by limit name before now fault Memory h because = tt
refused_by limit name before now fault (NotYet part) (inl h) because = absurd h
refused_by limit name before now fault (NotYet part) (inr h) because = absurd h

-- rules that weren't read are refused only for want of memory
only_memory : (fault : RuleRefusal) (rules : List Rule) → IsReadAs (Err fault) rules → fault ≡ fault_of.Memory
only_memory (fault_of.Syntax word) rules read = absurd read
only_memory (fault_of.Number word) rules read = absurd read
only_memory (fault_of.TooMany rule what) rules read = absurd read
only_memory (fault_of.BadIndex rule word) rules read = absurd read
only_memory (fault_of.TooLoose rule) rules read = absurd read
only_memory fault_of.Memory rules read = refl

pub fault_of_rules : (bytes : List ℕ) (fault : RuleRefusal) → fault ≢ fault_of.Memory → RefusesRuleWords (rule_words_of bytes) fault → ((rules : List Rule) → AreRules bytes rules → IsReadAs (Err fault) rules) → IsRulesFault bytes fault
fault_of_rules bytes fault named refused only = record { named = named; refused = refused; none = λ rules are. named (only_memory fault rules (only rules are)) }

-- a mesh that wasn't read
pub fault_of_mesh : (shift : ℤ) (bytes : List ℕ) (fault : VolRefusal) → fault ≢ NoMemoryForMesh → RefusesMesh shift (words_of bytes) fault → ((mesh : Mesh) → DerivesMesh shift (words_of bytes) mesh → Known mesh → fault ≡ NoMemoryForMesh) → IsMeshFault shift bytes fault
fault_of_mesh shift bytes fault named refused only = record { named = named; refused = refused; none = λ mesh text. named (only mesh text.derived text.known) }
