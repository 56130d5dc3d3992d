use Rattle.std.proofs.Common.{◌≡◌, ℕ, ◌+◌, [], ◌∷◌, ◌++◌, length, ap, ◌∙◌, arith}
use Rattle.indexmap.specs.IndexMap.{get}
use Rattle.run_log.specs.Table.{queued}
use Rattle.run_log.proofs.Kept.{same, kept_push, lines_push}
use Rattle.run_log.proofs.table.Table.join.Goals as goal

pub invariant_of-self-2 : goal.invariant_of-self-2
invariant_of-self-2 c =
    let made = c.self.inside.made.items in
    let t = c.args.ends in
    let n : c.len.result + 1 ≡ 1 + length made = omega (arith, c.len.ensures, ap length c.in_ok-reserve.ensures.items) in
    let its : queued (get same c.keep.new.kept t) ≡ queued (get same c.self.inside.kept t) ++ (1 + length made) ∷ [] = c.in_ok-keep.ensures.kept ∙ ap (λ (m : ℕ). queued (get same c.self.inside.kept t) ++ m ∷ []) n in
    rw (c.push_reserved.ensures.items, c.in_ok-reserve.ensures.items) (kept_push made t (λ s. queued (get same c.self.inside.kept s)) (λ s. queued (get same c.keep.new.kept s)) c.self.invariant its c.in_ok-keep.ensures.others)

pub returns-clause-lines : goal.returns-clause-lines
returns-clause-lines c =
    rw (c.push_reserved.ensures.items, c.in_ok-reserve.ensures.items, ← c.self.view_is) (lines_push 1 c.self.inside.made.items c.args.ends)
