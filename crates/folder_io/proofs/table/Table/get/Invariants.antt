-- No entry before this one has the name, so the look-up goes on at the entries that are left.
use Rattle.std.proofs.Common.{◌≡◌, map}
use Rattle.std.specs.VecDeque.Iter.{deque_iter_rest}
use Rattle.std.specs.Ordering.{nat_cmp}
use Rattle.std.specs.Cmp.Lexicographic.{slice_cmp}
use Rattle.std.specs.FinMap.Entries.{find}
use Rattle.folder_io.specs.Names.{held_at, entry_bytes}
use Rattle.folder_io.proofs.table.Table.get.Given as goal

abbrev pub invariant-loop-entry : goal.invariant-loop-entry
invariant-loop-entry l = held_at l.self l.name ≡ find (slice_cmp nat_cmp) l.name (map entry_bytes (deque_iter_rest l.entry-iterator))
