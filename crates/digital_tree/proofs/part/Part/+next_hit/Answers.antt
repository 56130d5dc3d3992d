use Rattle.std.proofs.Common.{rules, sym, ◌∙◌, ap, Some, None}
use Rattle.digital_tree.proofs.Lists.{next_here, next_there, next_absent}
use Rattle.digital_tree.proofs.Parts.{within, two_sides, absent_outside, spot_low, spot_high}
use Rattle.digital_tree.proofs.part.Part.+next_hit.Goals as goal

pub returns-then-not-is_within : goal.returns-then-not-is_within
returns-then-not-is_within g t c = λ spot. sym (next_absent _ _ _ (absent_outside _ _ c.self.inside.bounds _ spot (within _ _ _ c.self.view_is c.self.invariant) (λ h. let t = c.is_within.ensures.1 h in search rules)))

pub returns-in-None : goal.returns-in-None
returns-in-None g t c = λ spot.
    let both = two_sides _ _ _ _ c.self.view_is c.in-Two.is in
    let here = (rw c.deref.ensures at c.next_hit.ensures) (spot_low _ _ _ _ _ both spot) in
    (rw c.deref-in-None.ensures at c.next_hit-in-None.ensures) (spot_high _ _ _ _ _ both spot)
    ∙ next_there _ _ _ _ _ both (sym here ∙ c.in-None.is)

pub returns-in-Some-Some : goal.returns-in-Some-Some
returns-in-Some-Some g t c = λ spot.
    let both = two_sides _ _ _ _ c.self.view_is c.in-Two.is in
    let here = (rw c.deref.ensures at c.next_hit.ensures) (spot_low _ _ _ _ _ both spot) in
    next_here _ _ _ _ _ (Some c.in-Some-Some.key) both (sym here ∙ c.in-Some-Some.is ∙ ap Some c.in-Some-Some.field-0-is)

pub returns-in-Some-None : goal.returns-in-Some-None
returns-in-Some-None g t c = λ spot.
    let both = two_sides _ _ _ _ c.self.view_is c.in-Two.is in
    let here = (rw c.deref.ensures at c.next_hit.ensures) (spot_low _ _ _ _ _ both spot) in
    ap Some (rw c.deref-in-Some-None.ensures at c.first_hit.ensures)
    ∙ next_here _ _ _ _ _ None both (sym here ∙ c.in-Some-None.is ∙ ap Some c.in-Some-None.field-0-is)
