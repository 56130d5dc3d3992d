use Rattle.std.proofs.Common.{rules, ◌≡◌, ap, sym, ◌∙◌, List, ℕ, map}
use Rattle.std.specs.Prelude.{String, Vec}
use Rattle.std.specs.Global.{Global}
use Rattle.std.specs.VecDeque.Iter.{deque_iter_rest}
use Rattle.std.specs.Ordering.{nat_cmp}
use Rattle.std.specs.Cmp.Lexicographic.{slice_cmp}
use Rattle.std.specs.FinMap as finite
use Rattle.std.specs.FinMap.Entries.{find}
use Rattle.folder_io.specs.Names.{Files, held_at, entry_bytes}
use Rattle.folder_io.proofs.Tables.{held_listed, found_here, not_here}
use Rattle.folder_io.proofs.table.Table.get.Goals as goal

-- all entries are left
pub loop-entry-init : goal.loop-entry-init
loop-entry-init c =
    let seen : held_at c.args.self.now c.args.name.now ≡ held_at (finite.from_entries (map entry_bytes c.self.inside.entries.items)) c.args.name.now = ap (λ (files : Files). held_at files c.args.name.now) (sym c.self.view_is) in
    let gives : deque_iter_rest c.into_iter-entry-iterator.result ≡ c.self.inside.entries.items = search rules in
    seen ∙ held_listed c.self.inside.entries.items c.args.name.now
    ∙ ap (λ (es : List (String Global × Vec ℕ Global)). find (slice_cmp nat_cmp) c.args.name.now (map entry_bytes es)) (sym gives)

-- this entry has the name
pub returns-then-eq : goal.returns-then-eq
returns-then-eq c =
    found_here (held_at c.args.self.now c.args.name.now) c.args.name.now c.as_str.result.now _ c.in-Some.entry.now _ (deque_iter_rest c.next.new.self)
    c.loop-entry.invariant c.in-Some.ensures.steps c.as_str.ensures.value (sym c.eq.ensures ∙ c.if-eq.true) c.as_slice.ensures.value

-- this entry has another name
pub loop-entry-preserved : goal.loop-entry-preserved
loop-entry-preserved c =
    not_here (held_at c.args.self.now c.args.name.now) c.args.name.now c.as_str.result.now c.in-Some.entry.now _ (deque_iter_rest c.next.new.self)
    c.loop-entry.invariant c.in-Some.ensures.steps c.as_str.ensures.value (sym c.eq.ensures ∙ c.if-eq.false)
