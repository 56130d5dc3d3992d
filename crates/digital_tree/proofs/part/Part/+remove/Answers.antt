use Rattle.std.proofs.Common.{rules, ℕ, sym, ◌∙◌}
use Rattle.digital_tree.proofs.Parts.{within, two_sides, sound_sides, absent_outside}
use Rattle.digital_tree.proofs.Takings.{IsTaken, taken_low, taken_high, sound_taken, high_left, low_left, one_left}
use Rattle.digital_tree.proofs.part.Part.+remove.Given.{Over}
use Rattle.digital_tree.proofs.part.Part.+remove.Goals as goal
use Rattle.digital_tree.proofs.part.Part.+remove.Goals.{Joined-remove, then-remove, else-remove, in-Two-4, in-Nothing-4}

taken : (g : Over) (t : ℕ) (c : Joined-remove g t) → IsTaken c.args.spot.now.key c.args.spot.now.bounds c.in-Two.fork.value c.if-remove.fork.value c.if-remove.was_here
taken g t c = elim c.if-remove.branch [
  | then-remove w ↦
      let gone = (rw c.deref_mut.ensures.value at c.remove.ensures.removed) w.if-remove.true in
      rw (w.fork-is, w.was_here-is, w.if-remove.true, c.deref_mut.ensures.value) (taken_low _ _ c.in-Two.fork.value _ gone)
  | else-remove w ↦
      let low = rw c.deref_mut.ensures.value at c.remove.ensures.same w.if-remove.false in
      let missing = (rw c.deref_mut.ensures.value at c.remove.ensures.absent) w.if-remove.false in
      let removed = rw (w.deref_mut-else-remove.ensures.value, c.deref_mut.ensures.value) at w.remove-was_here.ensures.removed in
      let absent = rw (w.deref_mut-else-remove.ensures.value, c.deref_mut.ensures.value) at w.remove-was_here.ensures.absent in
      let same = rw (w.deref_mut-else-remove.ensures.value, c.deref_mut.ensures.value) at w.remove-was_here.ensures.same in
      rw (w.fork-is, w.was_here-is, w.deref_mut-else-remove.ensures.value, c.deref_mut.ensures.value, low)
      (taken_high _ _ c.in-Two.fork.value _ _ missing removed absent same)
]

pub returns-then-not-is_within-clause-absent : goal.returns-then-not-is_within-clause-absent
returns-then-not-is_within-clause-absent g t c = λ _ spot. absent_outside _ _ c.self.inside.bounds _ spot (within _ _ _ c.self.view_is c.self.invariant) (λ h. let t = c.is_within.ensures.1 h in search rules)

pub invariant_of-self-else-is_empty-2-2 : goal.invariant_of-self-else-is_empty-2-2
invariant_of-self-else-is_empty-2-2 g t c =
    let fork = sound_sides _ _ _ c.self.invariant (sym c.replace.ensures.value ∙ c.in-Two.is) in
    sound_taken _ _ _ _ _ _ fork (taken g t (goal.at.invariant_of-self-else-is_empty-2-2 g t c).Joined-remove)
    (λ e. let t = (rw c.deref.ensures at c.is_empty.ensures).1 e in search rules)
    (λ e. let t = (rw c.deref-else-is_empty.ensures at c.is_empty-else-is_empty.ensures).1 e in search rules)

pub returns-else-not-is_it-clause-removed : goal.returns-else-not-is_it-clause-removed
returns-else-not-is_it-clause-removed g t c = λ is. rw c.replace.ensures.after (one_left _ _ _ _ _ _ c.self.view_is (sym c.replace.ensures.value ∙ c.in-One.is) (search rules))

pub returns-then-is_empty-clause-removed : goal.returns-then-is_empty-clause-removed
returns-then-is_empty-clause-removed g t c = λ is.
    let both = two_sides _ _ _ _ c.self.view_is (sym c.replace.ensures.value ∙ c.in-Two.is) in
    let none = (rw c.deref.ensures at c.is_empty.ensures).0 c.if-is_empty.true in
    let left = high_left _ _ _ _ _ _ both (taken g t (goal.at.returns-then-is_empty-clause-removed g t c).Joined-remove) none is in
    rw (c.replace-then-is_empty-2.view_is, c.replace-then-is_empty.ensures.value, c.deref_mut-then-is_empty.ensures.value) left

pub returns-then-is_empty-2-clause-removed : goal.returns-then-is_empty-2-clause-removed
returns-then-is_empty-2-clause-removed g t c = λ is.
    let both = two_sides _ _ _ _ c.self.view_is (sym c.replace.ensures.value ∙ c.in-Two.is) in
    let none = (rw c.deref-else-is_empty.ensures at c.is_empty-else-is_empty.ensures).0 c.if-is_empty-2.true in
    let left = low_left _ _ _ _ _ _ both (taken g t (goal.at.returns-then-is_empty-2-clause-removed g t c).Joined-remove) none is in
    rw (c.replace-then-is_empty-2-3.view_is, c.replace-then-is_empty-2-2.ensures.value, c.deref_mut-then-is_empty-2.ensures.value) left

pub returns-else-is_empty-2-clause-removed : goal.returns-else-is_empty-2-clause-removed
returns-else-is_empty-2-clause-removed g t c = λ is.
    let both = two_sides _ _ _ _ c.self.view_is (sym c.replace.ensures.value ∙ c.in-Two.is) in
    let left = (taken g t (goal.at.returns-else-is_empty-2-clause-removed g t c).Joined-remove).removed is in
    elim c.match-self-2.branch [ in-Two-4 w ↦ rw (w.self-is, both) left | in-Nothing-4 w ↦ rw (w.self-is, both) left ]

pub returns-else-is_empty-2-clause-absent : goal.returns-else-is_empty-2-clause-absent
returns-else-is_empty-2-clause-absent g t c = λ is spot.
    let both = two_sides _ _ _ _ c.self.view_is (sym c.replace.ensures.value ∙ c.in-Two.is) in
    rw both ((taken g t (goal.at.returns-else-is_empty-2-clause-absent g t c).Joined-remove).absent is (rw both at spot))
