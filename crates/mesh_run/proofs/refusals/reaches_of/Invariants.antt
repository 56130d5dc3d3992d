use Rattle.std.proofs.Common.{◌≡◌, length}
use Rattle.mesh_run.proofs.Reaches.{AreNoGreater, DoCover}
use Rattle.mesh_run.proofs.refusals.reaches_of.Given as goal

abbrev pub invariant-loop-class : goal.invariant-loop-class
invariant-loop-class l = record {
  long : length l.reaches.items ≡ l.class;
  covers : DoCover l.rules l.reaches.items;
  no_greater : AreNoGreater l.rules l.reaches.items;
}
