use Rattle.rule_reader.proofs.OneRefusal.{is_refused_only}
use Rattle.rule_reader.proofs.Refused.{is_refused}
use Rattle.std.proofs.Common.{◌≡◌, List, Result, Ok, Err, sym, ap, ◌∙◌}
use Rattle.std.specs.Prelude.{IfOk}
use Rattle.rule_reader.specs.declared.fault.Fault.{Fault}
use Rattle.rule_reader.specs.declared.fault.RuleRefusal.{RuleRefusal}
use Rattle.rule_reader.specs.declared.fault.RuleRefusal.TheVariants as refusals
use Rattle.rule_reader.specs.declared.rule.Rule.{Rule}
use Rattle.rule_reader.specs.Words.{Tok, State, words_of}
use Rattle.rule_reader.specs.Sections.{reading, IsReading}
use Rattle.rule_reader.specs.Grammar.{Admits, IsReadAs}
use Rattle.rule_reader.proofs.Good.{ok_is}
use Rattle.rule_reader.proofs.GoodFile.{file_takes, file_again}
use Rattle.rule_reader.proofs.Printable.{is_printable}
use Rattle.rule_reader.proofs.text.read_rules.Goals as goal

is_found : (words : List Tok) (r : Result (List Rule) RuleRefusal) → IsReading r words → IfOk r (λ rules. Admits words rules)
is_found words (Ok rules) h = file_takes words rules h.0 h.1
is_found words (Err e) h = tt

no_fault : (words : List Tok) (rules : List Rule) (f : Fault) → Admits words rules → reading words ≡ Err f → ⊥
no_fault words rules f admits e = let x = file_again words rules admits in let both : Ok (rules, x.0) ≡ Err f = sym x.1 ∙ e in absurd cc

is_only : (words : List Tok) (r : Result (List Rule) RuleRefusal) (rules : List Rule) → IsReading r words → Admits words rules → IsReadAs r rules
is_only words (Ok read) rules h admits = let x = file_again words rules admits in ap (λ (p : List Rule × State). p.0) (ok_is (read, h.0) (rules, x.0) (sym h.1 ∙ x.1))
is_only words (Err refusals.Memory) rules h admits = tt
is_only words (Err (refusals.Syntax w)) rules h admits = no_fault words rules h.0 admits h.1
is_only words (Err (refusals.Number w)) rules h admits = no_fault words rules h.0 admits h.1
is_only words (Err (refusals.TooMany r w)) rules h admits = no_fault words rules h.0 admits h.1
is_only words (Err (refusals.BadIndex r w)) rules h admits = no_fault words rules h.0 admits h.1
is_only words (Err (refusals.TooLoose r)) rules h admits = no_fault words rules h.0 admits h.1

pub returns-clause-found : goal.returns-clause-found
returns-clause-found c = is_found (words_of c.args.bytes.now) c.text.result c.text.ensures

pub returns-clause-only : goal.returns-clause-only
returns-clause-only c = λ rules admits. is_only (words_of c.args.bytes.now) c.text.result rules c.text.ensures admits

pub returns-clause-refused : goal.returns-clause-refused
returns-clause-refused c = is_refused (words_of c.args.bytes.now) c.text.result c.text.ensures

pub returns-clause-printable : goal.returns-clause-printable
returns-clause-printable c = is_printable c.args.bytes.now c.text.result (is_found (words_of c.args.bytes.now) c.text.result c.text.ensures)

pub returns-clause-refused_only : goal.returns-clause-refused_only
returns-clause-refused_only c = is_refused_only (words_of c.args.bytes.now) c.text.result c.text.ensures
