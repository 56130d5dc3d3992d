use Rattle.std.proofs.Common.{◌≡◌, true}
use Rattle.rule_match.specs.Walk.{BeginsWith}
use Rattle.rule_match.proofs.NotesMade.{AreLookedAt}
use Rattle.rule_match.proofs.noting.note_ends.Given as goal

abbrev pub invariant-loop-line : goal.invariant-loop-line
invariant-loop-line l = BeginsWith l.notes.items l.initial.notes.items × (l.base.noting ≡ true → AreLookedAt l.base.front l.notes.items l.points l.point l.line-items l.line-index)
