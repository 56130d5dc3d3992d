use Rattle.std.proofs.Common.{◌≡◌, get_or, arith}
use Rattle.std.proofs.lemmas.List.{get_or_past}
use Rattle.word_scan.specs.Tokens.{text_len}
use Rattle.word_scan.proofs.tokens.closed.Goals as goal

pub returns-then-len-bytes-clause-value : goal.returns-then-len-bytes-clause-value
returns-then-len-bytes-clause-value c =
    let past : get_or c.args.bytes.now (text_len c.args.bytes.now) 0 ≡ 0 = get_or_past c.args.bytes.now (text_len c.args.bytes.now) 0 (omega (arith, c.text_len-len.ensures.value)) in
    rw past
