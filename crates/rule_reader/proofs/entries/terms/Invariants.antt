use Rattle.std.proofs.Common.{◌≡◌, ◌-◌, length}
use Rattle.rule_reader.specs.Reading.{terms_at}
use Rattle.rule_reader.proofs.Loops.{with_front}
use Rattle.rule_reader.proofs.entries.terms.Given as goal

abbrev pub invariant-loop-reader : goal.invariant-loop-reader
invariant-loop-reader l = with_front l.terms.items (terms_at (32 - length l.terms.items) l.reader) ≡ terms_at 32 l.initial.reader

abbrev pub decreases-loop-reader : goal.decreases-loop-reader
decreases-loop-reader l = 32 - length l.terms.items
