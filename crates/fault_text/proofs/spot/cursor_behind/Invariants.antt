-- The cursor is behind the bytes that were passed; line and column are at most one more than their number.
use Rattle.std.proofs.Common.{◌≡◌, ◌+◌, ◌≤◌, take}
use Rattle.fault_text.specs.Spots.{cursor_behind}
use Rattle.fault_text.proofs.spot.cursor_behind.Given as goal

abbrev pub invariant-loop-byte : goal.invariant-loop-byte
invariant-loop-byte l = record {
  behind : l.cursor ≡ cursor_behind (take l.byte-index l.before);
  line : l.cursor.line ≤ l.byte-index + 1;
  column : l.cursor.column ≤ l.byte-index + 1;
}
