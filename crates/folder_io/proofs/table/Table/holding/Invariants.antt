-- The entries are the pairs of the places passed.
use Rattle.std.proofs.Common.{◌≡◌, map, take, string_bytes}
use Rattle.std.specs.List.{zip}
use Rattle.folder_io.specs.Names.{entry_bytes}
use Rattle.folder_io.proofs.table.Table.holding.Given as goal

abbrev pub invariant-loop-k : goal.invariant-loop-k
invariant-loop-k l = map entry_bytes l.entries.items ≡ zip (take l.k (map string_bytes l.names)) (take l.k (map (λ v. v.items) l.files))
