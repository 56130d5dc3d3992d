-- So many words stand before the one that is looked for.
use Rattle.std.proofs.Common.{◌≡◌, ◌-◌, length, slice_get}
use Rattle.fault_text.specs.Spots.{words}
use Rattle.fault_text.proofs.spot.spot_of.Given as goal

abbrev pub invariant-loop-word : goal.invariant-loop-word
invariant-loop-word l = record {
  text : l.scanner.text ≡ l.text;
  left : slice_get l.scanner.left l.before ≡ slice_get (words l.fn.style l.text) (l.number - 1);
}

abbrev pub decreases-loop-word : goal.decreases-loop-word
decreases-loop-word l = length l.scanner.left
