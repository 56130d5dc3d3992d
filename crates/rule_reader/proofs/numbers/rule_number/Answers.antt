use Rattle.std.proofs.Common.{ℕ, ◌<◌, ◌^◌, unsigned_abs, subst, sym, ◌∙◌, ap}
use Rattle.word_scan.specs.declared.decimals.Dec.{Dec}
use Rattle.word_scan.proofs.DecimalLaws.{decimal_is_small}
use Rattle.rule_reader.proofs.numbers.rule_number.Goals as goal

pub rounded-size-requires-clause-small : goal.rounded-size-requires-clause-small
rounded-size-requires-clause-small c =
    let found = c.in_ok-dec.ensures.found in
    subst (λ (n : ℕ). n < 10 ^ 30) (sym (c.size.ensures ∙ ap (λ (dec : Dec). unsigned_abs dec.digits) found.3)) (decimal_is_small found.0 found.1)
