use Rattle.std.proofs.Common.{◌∙◌}
use Rattle.folder_io.proofs.Tables.{one_more_entry}
use Rattle.folder_io.proofs.table.Table.holding.Goals as goal

-- the entry that was pushed is a copy of the name and the file at k
pub loop-k-preserved : goal.loop-k-preserved
loop-k-preserved c =
    one_more_entry c.loop-k.entries.items c.push_back.new.self.items c.in_ok-name.name c.in_ok-bytes.bytes
    c.args.names.now c.args.files.now c.loop-k.k c.index-names-k.result c.index-files-k.result
    c.loop-k.invariant c.in_ok-push_back.ensures.items c.loop-k-test.true c.requires
    c.index-names-k.is c.index-files-k.is c.in_ok-name.ensures.cases
    (c.in_ok-bytes.ensures.items_if_clones_equal (λ x y same. same) ∙ c.deref.ensures.value)
