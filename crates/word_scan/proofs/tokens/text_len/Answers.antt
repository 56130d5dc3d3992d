use Rattle.std.proofs.Common.{ap}
use Rattle.word_scan.specs.Tokens.{is_inside}
use Rattle.word_scan.proofs.Prefixes.{stops_at, stops_past}
use Rattle.word_scan.proofs.tokens.text_len.Goals as goal

pub returns-else-bytes-end-ne10-clause-value : goal.returns-else-bytes-end-ne10-clause-value
returns-else-bytes-end-ne10-clause-value c = stops_at is_inside c.args.bytes.now c.loop-end.end c.loop-end.invariant.0 c.loop-end.invariant.1 (ap is_inside c.if-bytes-end-ne10.false)

pub returns-else-bytes-end-ne34-clause-value : goal.returns-else-bytes-end-ne34-clause-value
returns-else-bytes-end-ne34-clause-value c = stops_at is_inside c.args.bytes.now c.loop-end.end c.loop-end.invariant.0 c.loop-end.invariant.1 (ap is_inside c.if-bytes-end-ne34.false)

pub returns-after-loop-end-clause-value : goal.returns-after-loop-end-clause-value
returns-after-loop-end-clause-value c = stops_past is_inside c.args.bytes.now c.loop-end.end c.loop-end.invariant.0 c.loop-end.invariant.1 c.loop-end-test.false
