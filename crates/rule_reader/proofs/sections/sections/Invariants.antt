use Rattle.std.proofs.Common.{◌≡◌, ◌-◌}
use Rattle.rule_reader.specs.Sections.{empty_parts, sections_at}
use Rattle.rule_reader.proofs.sections.sections.Given as goal

abbrev pub invariant-loop : goal.invariant-loop
invariant-loop l = sections_at (9 - l.counter) l.parts l.reader ≡ sections_at 9 empty_parts l.initial.reader
