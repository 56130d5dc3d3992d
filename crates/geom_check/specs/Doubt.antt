-- Why a walk up through the heights doesn't find winding numbers sound.
--
-- IsNextTo     two risers pass a strip, one left of the other, with one domain, or the outside, between them
-- IsChainIn    in a strip each two neighbours of an order are so, and the outside is to the west of the first
-- IsBefore     a riser is left of an end of another one; where the other begins, at the end itself too
-- IsPlaceFor   of an order, what is left of the place is before an end, and what is right of it isn't
-- IsReached    the order that comes of the first events, each taken at its place
-- IsAmiss      an event's place is left of what changed last, or its riser, which ends, isn't there
-- IsDoubtful   in a strip the order is no chain, or an event on the way up to it is amiss
use Rattle.std.specs.Prelude.{◌≡◌, ◌≢◌, ◌⊎◌, ℕ, zero, suc, ◌+◌, ◌-◌, ◌<◌, ◌≤◌, Bool, true, false, cond, List, [], length, slice_index, slice_index_or, insert, remove, ℤ, pos, ◌+ℤ◌, ◌<ℤ◌}
use Rattle.std.specs.List.Sorted.{IsNonDecreasingBy}
use Rattle.grid_geom.specs.declared.Point.{Point}
use Rattle.grid_geom.specs.Plane.{orient}
use Rattle.geom_check.specs.declared.risers.Riser.{Riser}
use Rattle.geom_check.specs.declared.events.Event.{Event}
use Rattle.geom_check.specs.Risers.{passes}
use Rattle.geom_check.specs.RiserOrder.{IsWest, height_of}
use Rattle.geom_check.specs.Walk.{riser_at, AreEndsOf, BeginsOutside, IsUpTo}

-- both pass the strip, r to the left of s, and one domain, or the outside, is east of r and west of s
pub record IsNextTo (low high : ℤ) (r s : Riser) : Type 0 where
  pub label : r.east ≡ s.west
  pub r_passes : passes low high r ≡ true
  pub s_passes : passes low high s ≡ true
  pub west : IsWest (low +ℤ high) r s

-- of an order, the neighbours left and right of a place are so
abbrev pub IsNextAt : ℤ → ℤ → List Riser → List ℕ → ℕ → Type 0
IsNextAt low high risers order i = IsNextTo low high (riser_at risers (slice_index_or order (i - 1) 0))
    (riser_at risers (slice_index_or order i 0))

-- each two neighbours of an order are so, and the outside is to the west of the first
pub record IsChainIn (low high : ℤ) (risers : List Riser) (order : List ℕ) : Type 0 where
  pub first : BeginsOutside risers order
  pub next : (i : ℕ) → 1 ≤ i → i < length order → IsNextAt low high risers order i

-- the riser is left of an end of another one; where the other begins, at the end itself too
abbrev pub IsBefore : Riser → Point → Bool → Type 0
IsBefore r at is_upper = (orient r.a r.b at <ℤ pos 0) ⊎ ((orient r.a r.b at ≡ pos 0) × (is_upper ≡ false))

-- of an order, the riser left of the place is before an end, and the riser right of it isn't
pub record IsPlaceFor (risers : List Riser) (order : List ℕ) (at : Point) (is_upper : Bool) (place : ℕ) : Type 0 where
  pub in_list : place ≤ length order
  pub left : 1 ≤ place → IsBefore (riser_at risers (slice_index_or order (place - 1) 0)) at is_upper
  pub right : place < length order → ¬ (IsBefore (riser_at risers (slice_index_or order place 0)) at is_upper)

-- the end at which a riser begins, at which it ends
abbrev pub end_at : List Riser → ℕ → Bool → Point
end_at risers id is_upper = cond is_upper (riser_at risers id).b (riser_at risers id).a

-- a riser that begins is put in at its place, one that ends is taken out there, and this is the last place that changed: 0
-- stands for none, where the walk comes to another height
pub record IsTakenAt (risers : List Riser) (id : ℕ) (is_upper : Bool) (old new : List ℕ) (last : ℕ) : Type 0 where
  pub place : ℕ
  pub is_place : IsPlaceFor risers old (end_at risers id is_upper) is_upper place
  pub new_is : new ≡ cond is_upper (remove old place) (insert old place id)
  pub last_is : (last ≡ cond is_upper place (place + 1)) ⊎ (last ≡ 0)

-- the event at a place of the list
abbrev pub event_at : List Event → ℕ → Event
event_at events n = slice_index_or events n (record { key = 0; level = 0; id = 0; is_upper = false })

-- the order that comes of the first events, each taken at its place, and the last place that changed
abbrev pub IsReached : List Riser → List Event → ℕ → List ℕ → ℕ → Type 0
IsReached risers events zero order last = (order ≡ []) × (last ≡ 0)
IsReached risers events (suc n) order last = (old : List ℕ) × ((before : ℕ) × (IsReached risers events n old before
    × IsTakenAt risers (event_at events n).id (event_at events n).is_upper old order last))

-- an event's place is left of the last that changed, or its riser ends and isn't there
pub record IsAmiss (risers : List Riser) (order : List ℕ) (last id : ℕ) (is_upper : Bool) : Type 0 where
  pub place : ℕ
  pub is_place : IsPlaceFor risers order (end_at risers id is_upper) is_upper place
  pub amiss : (place < last) ⊎ ((is_upper ≡ true)
      × ((length order ≤ place) ⊎ (slice_index_or order place 0 ≢ id)))

-- on the way up to a level the event that comes next is amiss
pub record IsStuck (risers : List Riser) (events : List Event) (level : ℕ) : Type 0 where
  pub next : ℕ
  pub order : List ℕ
  pub last : ℕ
  pub in_list : next < length events
  pub low : (event_at events next).level ≤ level
  pub reached : IsReached risers events next order last
  pub amiss : IsAmiss risers order last (event_at events next).id (event_at events next).is_upper

-- in a strip whose lower level the walk has reached the order is no chain
pub record IsBroken (low high : ℤ) (risers : List Riser) (events : List Event) (level : ℕ) : Type 0 where
  pub next : ℕ
  pub order : List ℕ
  pub last : ℕ
  pub up_to : IsUpTo events next level
  pub reached : IsReached risers events next order last
  pub broken : ¬ (IsChainIn low high risers order)

-- with the ends of all risers as events, in the order of their keys, the walk is stuck below a strip, or its order is no chain there
pub record IsDoubtful (levels : List ℕ) (risers : List Riser) : Type 0 where
  pub events : List Event
  pub ends : AreEndsOf risers (length risers) events
  pub sorted : IsNonDecreasingBy (λ e. e.key) events
  pub strip : ℕ
  pub positive : 1 ≤ strip
  pub in_list : strip < length levels
  pub doubt : IsStuck risers events (slice_index levels (strip - 1))
      ⊎ IsBroken (height_of levels (strip - 1)) (height_of levels strip) risers events (slice_index levels (strip - 1))
