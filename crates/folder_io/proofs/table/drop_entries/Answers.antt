-- The closure only tests, so what it kept is the filter.
use Rattle.std.proofs.Common.{rules, string_bytes, not, nat_eq}
use Rattle.std.specs.Cmp.Lexicographic.{pointwise}
use Rattle.std.proofs.lemmas.Fn.{filter_same}
use Rattle.folder_io.proofs.table.drop_entries.Goals as goal

pub returns-clause-entries : goal.returns-clause-entries
returns-clause-entries c = filter_same _ (λ entry. not (pointwise nat_eq (string_bytes entry.0) c.args.name.now)) _ (λ entry b f' called. search rules) _ _ c.retain.ensures.filtered
