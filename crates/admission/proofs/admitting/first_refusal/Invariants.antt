use Rattle.std.proofs.Common.{take}
use Rattle.admission.specs.Around.{all_points}
use Rattle.admission.specs.Admission.{entered, MayFollow}
use Rattle.admission.specs.Kept.{IsViewOf}
use Rattle.admission.proofs.Turns.{AreShapes, turn_state}
use Rattle.admission.proofs.admitting.first_refusal.Given as goal

abbrev pub invariant-loop-k : goal.invariant-loop-k
invariant-loop-k l = record {
  shapes : AreShapes (all_points l.front l.made) l.view.near l.elements l.shapes.items;
  kept : IsViewOf l.front l.view.near (turn_state (entered l.front l.made) l.elements l.k) l.view;
  may : MayFollow (entered l.front l.made) (take l.k l.elements);
}
