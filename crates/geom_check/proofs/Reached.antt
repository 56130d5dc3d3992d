-- The order that the walk reaches: at another height nothing has changed yet.
use Rattle.std.proofs.Common.{ℕ, zero, suc, List, inr, refl}
use Rattle.geom_check.specs.declared.risers.Riser.{Riser}
use Rattle.geom_check.specs.declared.events.Event.{Event}
use Rattle.geom_check.specs.Doubt.{IsReached}

pub reached_anew : (risers : List Riser) (events : List Event) (next : ℕ) (order : List ℕ) (last : ℕ) →
    IsReached risers events next order last → IsReached risers events next order 0
reached_anew risers events zero order last h = (h.0, refl)
reached_anew risers events (suc n) order last h = (
  h.0,
  (
    h.1.0,
    (
      h.1.1.0,
      record {
        place = h.1.1.1.place;
        is_place = h.1.1.1.is_place;
        new_is = h.1.1.1.new_is;
        last_is = inr refl;
      },
    ),
  ),
)
