use Rattle.std.proofs.Common.{◌≡◌, ℕ, ◌+◌, ◌-◌, [], length, length-set, set, None, subst, sym, ap, ◌∙◌, arith}
use Rattle.indexmap.specs.IndexMap.{get}
use Rattle.run_log.specs.Table.{queued, lines_from, numbers_of, AreKept}
use Rattle.run_log.proofs.Kept.{same, leaves, kept_less, none_leaves}
use Rattle.run_log.proofs.table.Table.glue_side.Goals as goal

pub overflow_sub-number : goal.overflow_sub-number
overflow_sub-number c =
    let l = leaves 1 c.self.inside.made.items c.args.side c.in-Some.number (queued (get same c.take_least.new.kept c.args.side)) (sym (c.self.invariant c.args.side) ∙ c.in-Some.ensures.least) in
    omega (arith, l.is)

pub index_mut-requires : goal.index_mut-requires
index_mut-requires c =
    let l = leaves 1 c.self.inside.made.items c.args.side c.in-Some.number (queued (get same c.take_least.new.kept c.args.side)) (sym (c.self.invariant c.args.side) ∙ c.in-Some.ensures.least) in
    omega (arith, l.is, l.inside)

pub invariant_of-self : goal.invariant_of-self
invariant_of-self c =
    let made = c.self.inside.made.items in
    let l = leaves 1 made c.args.side c.in-Some.number (queued (get same c.take_least.new.kept c.args.side)) (sym (c.self.invariant c.args.side) ∙ c.in-Some.ensures.least) in
    let place : l.place ≡ c.in-Some.number - 1 = omega (arith, l.is) in
    subst (λ (i : ℕ). AreKept (set made i None) (λ s. queued (get same c.take_least.new.kept s))) place
    (kept_less made c.args.side c.in-Some.number (λ s. queued (get same c.self.inside.kept s)) (λ s. queued (get same c.take_least.new.kept s)) c.self.invariant l c.in-Some.ensures.others)

pub returns-in-Some-clause-lines : goal.returns-in-Some-clause-lines
returns-in-Some-clause-lines c =
    let made = c.self.inside.made.items in
    let l = leaves 1 made c.args.side c.in-Some.number (queued (get same c.take_least.new.kept c.args.side)) (sym (c.self.invariant c.args.side) ∙ c.in-Some.ensures.least) in
    let place : l.place ≡ c.in-Some.number - 1 = omega (arith, l.is) in
    rw (← c.self.view_is) (sym (l.glued (1 + length made) ∙ ap (λ (i : ℕ). lines_from 1 (set made i None)) place))

pub returns-in-Some-clause-next : goal.returns-in-Some-clause-next
returns-in-Some-clause-next c =
    let made = c.self.inside.made.items in
    let l = leaves 1 made c.args.side c.in-Some.number (queued (get same c.take_least.new.kept c.args.side)) (sym (c.self.invariant c.args.side) ∙ c.in-Some.ensures.least) in
    rw (← c.self.view_is) (ap (λ (n : ℕ). 1 + n) (length-set made (c.in-Some.number - 1) None) ∙ sym (l.after (1 + length made)))

pub returns-in_ok-join-in-None-clause-lines : goal.returns-in_ok-join-in-None-clause-lines
returns-in_ok-join-in-None-clause-lines c =
    let none : numbers_of (lines_from 1 c.self.inside.made.items) c.args.side ≡ [] = sym (c.self.invariant c.args.side) ∙ c.in-None.ensures.none in
    let l = none_leaves (lines_from 1 c.self.inside.made.items) (1 + length c.self.inside.made.items) c.args.side none in
    rw (← c.self.view_is) (c.in_ok-join-in-None.ensures.lines ∙ sym l.0)

pub returns-in_ok-join-in-None-clause-next : goal.returns-in_ok-join-in-None-clause-next
returns-in_ok-join-in-None-clause-next c =
    let none : numbers_of (lines_from 1 c.self.inside.made.items) c.args.side ≡ [] = sym (c.self.invariant c.args.side) ∙ c.in-None.ensures.none in
    let l = none_leaves (lines_from 1 c.self.inside.made.items) (1 + length c.self.inside.made.items) c.args.side none in
    rw (← c.self.view_is) (c.in_ok-join-in-None.ensures.next ∙ sym l.1)
