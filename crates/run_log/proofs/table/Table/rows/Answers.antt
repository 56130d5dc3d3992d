use Rattle.std.proofs.Common.{◌+◌, ◌<◌, [], ◌∷◌, ◌++◌, length, sym, ap, ◌∙◌, arith}
use Rattle.run_log.proofs.Kept.{none_step, some_step}
use Rattle.run_log.proofs.table.Table.rows.Goals.{in-Some+in_ok-push, in_default}
use Rattle.run_log.proofs.table.Table.rows.Goals as goal

pub loop-place-preserved : goal.loop-place-preserved
loop-place-preserved c =
    let made = c.self.inside.made.items in
    let k = c.loop-place.place in
    let inside : k < length made = omega (arith, c.loop-place-test.true, c.len-place-end.ensures) in
    elim c.match-index.branch [
      | in-Some+in_ok-push w ↦ ap (λ rows. rows.items) w.rows-is ∙ w.in_ok-push.ensures.items
          ∙ ap (λ ls. ls ++ (k + 1, w.in-Some.ends.from, w.in-Some.ends.to) ∷ []) c.loop-place.invariant
          ∙ some_step made k c.index.result.now w.in-Some.ends inside (sym c.index.ensures ∙ w.in-Some.is)
      | in_default w ↦ ap (λ rows. rows.items) w.rows-is ∙ c.loop-place.invariant
          ∙ sym (none_step made k c.index.result.now inside (sym c.index.ensures ∙ w.in_default.is))
    ]
