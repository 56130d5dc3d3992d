use Rattle.std.proofs.Common.{ℕ, ◌≡◌, ◌<◌, ◌≤◌, Contains, Some, Vec, Global, sym, ◌∙◌, subst, arith}
use Rattle.std.proofs.lemmas.Option.{none-some, same_Some}
use Rattle.mesh_run.specs.Kept.{AreEndsFresh}
use Rattle.mesh_run.proofs.StillKept.{more_ends, one_more_line}
use Rattle.mesh_run.proofs.StillNone.{below_next}
use Rattle.mesh_run.proofs.looked_again.push_joined.Goals.{in-Some+in_ok-push_ends, in_default}
use Rattle.mesh_run.proofs.looked_again.push_joined.Goals as goal

pub loop-number-preserved : goal.loop-number-preserved
loop-number-preserved c =
    let lines = c.args.front.now.lines in let points = c.args.change.now.points in let was = c.loop-number.fresh.items in
    let next = one_more_line (AreEndsFresh points c.match-line.fresh.items) lines c.args.front.now.next c.args.change.now.first c.loop-number.number c.lines-lines.ensures.holds.rising in
    elim c.match-line.branch [
      | in-Some+in_ok-push_ends w ↦
          let more : (n : ℕ) → Contains was n → Contains c.match-line.fresh.items n = λ n k. subst (λ (v : Vec ℕ Global). Contains v.items n) (sym w.fresh-is) (w.in_ok-push_ends.ensures.kept n k) in
          let new : AreEndsFresh points c.match-line.fresh.items w.in-Some.ends =
          subst (λ (v : Vec ℕ Global). AreEndsFresh points v.items w.in-Some.ends) (sym w.fresh-is) (record { start = w.in_ok-push_ends.ensures.start; end = w.in_ok-push_ends.ensures.end; one = w.in_ok-push_ends.ensures.one }) in
          next (λ line k l b. more_ends points was c.match-line.fresh.items (line.1, line.2) more (c.loop-number.invariant line k l b))
          (λ ends e. subst (AreEndsFresh points c.match-line.fresh.items) (same_Some w.in-Some.ends ends (sym w.in-Some.is ∙ c.line.ensures ∙ e)) new)
      | in_default w ↦
          next (λ line k l b. subst (λ (v : Vec ℕ Global). AreEndsFresh points v.items (line.1, line.2)) (sym w.fresh-is) (c.loop-number.invariant line k l b))
          (λ ends e. absurd (none-some ends (sym w.in_default.is ∙ c.line.ensures ∙ e)))
    ]

pub returns : goal.returns
returns c = λ line there new.
    let below = below_next c.args.front.now.lines c.args.front.now.next line c.lines-lines.ensures.holds.rising there in
    c.loop-number.invariant line there new (omega (arith, below, c.loop-number-test.false, c.next_number-number-end.ensures))
