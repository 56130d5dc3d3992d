use Rattle.std.proofs.Common.{sym, ◌∙◌}
use Rattle.std.specs.Char.{is_ascii_alphanumeric}
use Rattle.word_scan.proofs.Prefixes.{stops_at, stops_past}
use Rattle.word_scan.proofs.tokens.name_len.Goals as goal

pub returns-else-is_ascii_alphanumeric-clause-value : goal.returns-else-is_ascii_alphanumeric-clause-value
returns-else-is_ascii_alphanumeric-clause-value c = stops_at is_ascii_alphanumeric c.args.bytes.now c.loop-end.end c.loop-end.invariant.0 c.loop-end.invariant.1 (sym c.is_ascii_alphanumeric.ensures.value ∙ c.if-is_ascii_alphanumeric.false)

pub returns-after-loop-end-clause-value : goal.returns-after-loop-end-clause-value
returns-after-loop-end-clause-value c = stops_past is_ascii_alphanumeric c.args.bytes.now c.loop-end.end c.loop-end.invariant.0 c.loop-end.invariant.1 c.loop-end-test.false
