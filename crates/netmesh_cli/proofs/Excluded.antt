-- A geometry that is refused is not accepted, and has one fault, a text writes one geometry, which lies on the grid in one way, and a rule file has one list of rules.
use Rattle.std.proofs.Common.{◌≡◌, ◌≢◌, ◌⊎◌, inl, inr, List, ℕ, sym, subst, ◌∙◌}
use Rattle.std.specs.Prelude.{ℤ}
use Rattle.word_scan.specs.Scan.{words_of}
use Rattle.in2d_reader.specs.declared.geometry.RawGeometry.{RawGeometry}
use Rattle.in2d_reader.specs.declared.refusal.In2dRefusal.{In2dRefusal}
use Rattle.in2d_reader.proofs.Refused.{found_is_read}
use Rattle.in2d_reader.proofs.OneRefusal.{one_refusal as one_text_refusal}
use Rattle.rule_reader.specs.declared.rule.Rule.{Rule}
use Rattle.rule_reader.specs.Words.{words_of as rule_words_of}
use Rattle.rule_reader.specs.declared.fault.RuleRefusal.{RuleRefusal}
use Rattle.rule_reader.proofs.GoodFile.{one_value}
use Rattle.rule_reader.proofs.OneRefusal.{one_refusal as one_rules_refusal}
use Rattle.geom_check.specs.declared.refusal.GeomRefusal.{GeomRefusal}
use Rattle.geom_check.specs.declared.refusal.GeomRefusal.TheVariants.{Memory}
use Rattle.geom_check.specs.Accepted.{IsAccepted}
use Rattle.geom_check.specs.Refused.{IsRefusal}
use Rattle.geom_check.specs.Geometry.{PlanarMap, IsGeometryOf}
use Rattle.geom_check.proofs.OneAnswer.{accepted_unrefused}
use Rattle.geom_check.proofs.OneRefusal.{one_refusal}
use Rattle.geom_check.proofs.OneGeometry.{one_geometry}
use Rattle.vol_format.specs.declared.refusal.VolRefusal.{VolRefusal}
use Rattle.vol_format.proofs.Refused.{one_refusal as one_mesh_refusal}
use Rattle.run_log.specs.declared.log.Log.{Log}
use Rattle.run_log.specs.declared.refusal.LogRefusal.{LogRefusal}
use Rattle.run_log.proofs.Answered.{one_value as one_log, one_refusal as one_log_refusal}
use Rattle.netmesh_cli.specs.Accepted.{IsText, IsTextFault, IsGeometryText, AreRules, IsRulesFault, IsMeshFault, IsLogText, IsLogFault}

-- an accepted geometry is refused only for want of memory
pub excluded : (raw : RawGeometry) → IsAccepted raw → (r : GeomRefusal) → r ≢ Memory → ¬ IsRefusal raw r
excluded raw accepted r named refused = named (accepted_unrefused raw r accepted refused)

-- a geometry has one fault
pub fault_once : (raw : RawGeometry) (r s : GeomRefusal) → r ≢ Memory → s ≢ Memory → IsRefusal raw r → IsRefusal raw s → r ≡ s
fault_once raw r s r_named s_named first second = unless (one_refusal raw r s first second)
  where
    unless : (r ≡ s) ⊎ ((r ≡ Memory) ⊎ (s ≡ Memory)) → r ≡ s
    unless (inl same) = same
    unless (inr (inl memory)) = absurd (r_named memory)
    unless (inr (inr memory)) = absurd (s_named memory)

-- a text writes one geometry
pub text_once : (bytes : List ℕ) (raw other : RawGeometry) → IsText bytes raw → IsText bytes other → raw ≡ other
text_once bytes raw other first second = let e = sym (found_is_read (words_of bytes) raw first.derived first.fits) ∙ found_is_read (words_of bytes) other second.derived second.fits in cc

-- a text has one fault
pub text_fault_once : (bytes : List ℕ) (f g : In2dRefusal) → IsTextFault bytes f → IsTextFault bytes g → f ≡ g
text_fault_once bytes f g first second = one_text_refusal (words_of bytes) f g first.named second.named first.refused second.refused

pub geometry_once : (bytes : List ℕ) (raw other : RawGeometry) (g h : PlanarMap) → IsGeometryText bytes raw g → IsGeometryText bytes other h → (raw ≡ other) × (g ≡ h)
geometry_once bytes raw other g h one two = let e = text_once bytes raw other one.text two.text in (e, one_geometry other g h (subst (λ (r : RawGeometry). IsGeometryOf r g) e one.placed) two.placed)

-- a rule file has one list of rules
pub rules_once : (bytes : List ℕ) (rules other : List Rule) → AreRules bytes rules → AreRules bytes other → rules ≡ other
rules_once bytes rules other first second = one_value (rule_words_of bytes) rules other first second

-- and one fault
pub rules_fault_once : (bytes : List ℕ) (f g : RuleRefusal) → IsRulesFault bytes f → IsRulesFault bytes g → f ≡ g
rules_fault_once bytes f g first second = one_rules_refusal (rule_words_of bytes) f g first.named second.named first.refused second.refused

-- a mesh's text has one fault
pub mesh_fault_once : (shift : ℤ) (bytes : List ℕ) (f g : VolRefusal) → IsMeshFault shift bytes f → IsMeshFault shift bytes g → f ≡ g
mesh_fault_once shift bytes f g first second = one_mesh_refusal shift (words_of bytes) f g first.named second.named first.refused second.refused

-- a text writes one log
pub log_once : (bytes : List ℕ) (log other : Log) → IsLogText bytes log → IsLogText bytes other → log ≡ other
log_once bytes log other first second = one_log (words_of bytes) log other first second

-- and has one fault
pub log_fault_once : (bytes : List ℕ) (f g : LogRefusal) → IsLogFault bytes f → IsLogFault bytes g → f ≡ g
log_fault_once bytes f g first second = one_log_refusal (words_of bytes) f g first.refused second.refused
