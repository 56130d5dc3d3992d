use Rattle.digital_tree.proofs.Lists.{inserted_first, inserted_second}
use Rattle.digital_tree.proofs.Parts.{into_low, into_high, two_sides, sound_sides}
use Rattle.digital_tree.proofs.part.Part.+insert.Goals as goal
use Rattle.digital_tree.proofs.part.Part.+insert.Goals.{then-is_high, else-is_high}

pub invariant_of-self-then-deref-place : goal.invariant_of-self-then-deref-place
invariant_of-self-then-deref-place g t c =
    let fork = sound_sides _ _ _ c.self.invariant c.in-Two.is in
    elim c.if-is_high.branch [
      | then-is_high w ↦
          let put = rw w.deref_mut.ensures.value at w.insert.ensures in
          rw (w.self-inside-is, w.deref_mut.ensures.value) (into_high _ _ _ _ _ fork c.union-self-inside.ensures.first c.union-self-inside.ensures.second put)
      | else-is_high w ↦
          let put = rw w.deref_mut-else-is_high.ensures.value at w.insert-else-is_high.ensures in
          rw (w.self-inside-is, w.deref_mut-else-is_high.ensures.value) (into_low _ _ _ _ _ fork c.union-self-inside.ensures.first c.union-self-inside.ensures.second put)
    ]

pub returns-after-is_high : goal.returns-after-is_high
returns-after-is_high g t c =
    let both = two_sides _ _ _ _ c.self.view_is c.in-Two.is in
    elim c.if-is_high.branch [
      | then-is_high w ↦
          let put = rw w.deref_mut.ensures.value at w.insert.ensures in
          rw (w.self-inside-is, w.deref_mut.ensures.value, both) (inserted_second _ put)
      | else-is_high w ↦
          let put = rw w.deref_mut-else-is_high.ensures.value at w.insert-else-is_high.ensures in
          rw (w.self-inside-is, w.deref_mut-else-is_high.ensures.value, both) (inserted_first _ put)
    ]
