use Rattle.std.proofs.Common.{◌≡◌, ℕ, List, length, map, Ok, Err, refl, sym, subst, ap, ◌∙◌}
use Rattle.std.proofs.lemmas.List.{length-map}
use Rattle.rule_reader.specs.declared.fault.Fault.TheVariants.{Syntax, Number, TooMany, BadIndex, TooLoose}
use Rattle.rule_reader.specs.declared.fault.Stop.{Stop}
use Rattle.rule_reader.specs.declared.fault.Stop.TheVariants as stops
use Rattle.rule_reader.specs.Words.{Tok, seen}
use Rattle.rule_reader.specs.Reading.{Fails}
use Rattle.rule_reader.specs.Sections.{file_at, reading, refusal_of, IsReading}
use Rattle.rule_reader.proofs.text.read.Goals as goal

is_refused : (stop : Stop) (words : List Tok) → Fails stop (reading words) → IsReading (Err (refusal_of (length words) stop)) words
is_refused stops.Memory words h = tt
is_refused (stops.Fault (Syntax left)) words h = (Syntax left, h, refl)
is_refused (stops.Fault (Number left)) words h = (Number left, h, refl)
is_refused (stops.Fault (TooMany rule what)) words h = (TooMany rule what, h, refl)
is_refused (stops.Fault (BadIndex rule left)) words h = (BadIndex rule left, h, refl)
is_refused (stops.Fault (TooLoose rule)) words h = (TooLoose rule, h, refl)

pub returns-in-Ok : goal.returns-in-Ok
returns-in-Ok c =
    let e : reading (map seen c.args.tokens.now) ≡ Ok (c.in-Ok.rules.items, c.file.new.reader) = ap file_at (sym c.new-reader.ensures) ∙ c.in-Ok.ensures in
    (c.file.new.reader, rw c.from_vec.ensures e)

pub returns : goal.returns
returns c =
    let words = map seen c.args.tokens.now in
    let count : length c.args.tokens.now ≡ length words = sym (length-map c.args.tokens.now seen) in
    let fails : Fails c.in-Err.stop (reading words) = rw (← c.new-reader.ensures) c.in-Err.ensures in
    rw c.refusal.ensures (subst (λ (n : ℕ). IsReading (Err (refusal_of n c.in-Err.stop)) words) (sym count) (is_refused c.in-Err.stop words fails))
