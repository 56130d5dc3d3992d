use Rattle.std.proofs.Common.{length, sym, ◌∙◌, arith}
use Rattle.word_scan.proofs.Runs.{digits_fit, both_fit, value_after-append}
use Rattle.word_scan.proofs.decimals.joined.Goals as goal

pub value_after-requires-clause-room : goal.value_after-requires-clause-room
value_after-requires-clause-room c = digits_fit (length c.args.front.now) 30 (omega arith)

pub value_after-requires-2-clause-room : goal.value_after-requires-2-clause-room
value_after-requires-2-clause-room c = both_fit c.value_after.result (length c.args.front.now) (length c.args.behind.now) 30 c.value_after.ensures.room c.requires.few

pub returns-clause-value : goal.returns-clause-value
returns-clause-value c = c.value_after-2.ensures.value ∙ rw c.value_after.ensures.value (sym (value_after-append 0 c.args.front.now c.args.behind.now))

pub returns-clause-small : goal.returns-clause-small
returns-clause-small c =
    let room = both_fit c.value_after.result (length c.args.front.now) (length c.args.behind.now) 30 c.value_after.ensures.room c.requires.few in
    omega (arith, room, c.value_after-2.ensures.room)
