use Rattle.std.proofs.Common.{ℕ, refl, arith}
use Rattle.size_field.proofs.Branches.{at_branch}
use Rattle.size_field.proofs.Taking.{HasTaken, taken_here, taken_low, taken_high, sound_again}
use Rattle.size_field.proofs.tree.Tree.+insert.Goals as goal
use Rattle.size_field.proofs.tree.Tree.+insert.Goals.{Joined-is_one, then-is_one, else-is_one+then-is_high+in_ok-insert-in-Some, else-is_one+else-is_high+in_ok-insert-in-Some-2}

-- the branch where the three ways of taking a source meet
taken : (t : ℕ) (c : Joined-is_one t) → HasTaken c.args.source c.in-Some.branch.value c.if-is_one.branch'.value
taken t c = elim c.if-is_one.branch [
  | then-is_one w ↦
      let same = rw c.deref.ensures at w.if-is_one.ensures.0 refl in
      rw (w.branch'-is, w.deref_mut.ensures.value, w.min.ensures, w.deref-then-is_one.ensures) (taken_here c.args.source c.in-Some.branch.value same)
  | else-is_one+then-is_high+in_ok-insert-in-Some w ↦
      let added = rw w.deref_mut-then-is_high.ensures.value at w.in_ok-insert-in-Some.ensures.added in
      rw (w.branch'-is, w.deref_mut-then-is_high.ensures.value) (taken_high c.args.source c.in-Some.branch.value _ added)
  | else-is_one+else-is_high+in_ok-insert-in-Some-2 w ↦
      let added = rw w.deref_mut-else-is_high.ensures.value at w.in_ok-insert-in-Some-2.ensures.added in
      rw (w.branch'-is, w.deref_mut-else-is_high.ensures.value) (taken_low c.args.source c.in-Some.branch.value _ added)
]

pub invariant_of-self-in-Some : goal.invariant_of-self-in-Some
invariant_of-self-in-Some t c =
    let branch = at_branch c.self.view_is c.self.invariant c.in-Some.is in
    let done = taken t (goal.at.invariant_of-self-in-Some t c).Joined-is_one in
    let keeps = rw (c.deref-in-Some.ensures, done.bounds) at c.extended.ensures.keeps in
    let least = rw (c.deref-in-Some-2.ensures, c.deref_mut-in-Some.ensures.value) at c.min-in-Some.ensures in
    rw (c.deref_mut-in-Some-2.ensures.value, c.deref_mut-in-Some.ensures.value)
    (sound_again c.args.source c.in-Some.branch.value c.if-is_one.branch'.value c.extended.result branch.sound done c.extended.ensures.on_grid keeps
    (record { place = c.extended.ensures.holds; size = omega arith; small = c.requires.small }) c.min-in-Some.result least)

pub returns-after-is_one-clause-added : goal.returns-after-is_one-clause-added
returns-after-is_one-clause-added t c =
    let branch = at_branch c.self.view_is c.self.invariant c.in-Some.is in
    rw (c.deref_mut-in-Some-2.ensures.value, c.deref_mut-in-Some.ensures.value, branch.is) (taken t (goal.at.returns-after-is_one-clause-added t c).Joined-is_one).added
