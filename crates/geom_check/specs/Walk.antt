-- The walk up through the heights: the risers that pass, in their order from left to right, and what is kept of it.
--
-- DoAgree       the domain to the east of one riser is that to the west of another, which is right of it
-- riser_at      the riser at a place of a list
-- IsEnd         an event is an end of a riser: its key is its level, then its column, then how far its riser leans
-- AreEndsOf     events are the two ends of each riser
-- IsChain       each two neighbours of an order agree, and the outside is to the west of the first
-- IsWalking     an order has the risers that have begun and not ended
-- AreSettled    each two neighbours agree, but at the places that changed
use Rattle.std.specs.Prelude.{◌≡◌, ◌⊎◌, ℕ, zero, suc, ◌+◌, ◌-◌, ◌*◌, ◌/◌, ◌<◌, ◌≤◌, Bool, false, cond, List, length, take, slice_index_or, insert, remove, sum_by, All, Contains, ℤ, pos, ◌+ℤ◌, ◌-ℤ◌, unsigned_abs}
use Rattle.grid_geom.specs.declared.TheConstants.{GRID}
use Rattle.geom_check.specs.declared.risers.Riser.{Riser}
use Rattle.geom_check.specs.declared.events.Event.{Event}
use Rattle.geom_check.specs.RiserOrder.{IsAcross, IsWest, IsSound, far}
use Rattle.geom_check.specs.Risers.{winding_of}
use Rattle.geom_check.specs.declared.limits.TheConstants.{KEYS, LEANS, LEAN_PARTS, WIDTH}

-- the same domain, or the outside, is east of r and west of s, and at some height that both cross r is left of s. Then it is so
-- at each such height, where they don't cross each other
pub record DoAgree (r s : Riser) : Type 0 where
  pub label : r.east ≡ s.west
  pub height : ℤ
  pub r_across : IsAcross height r
  pub s_across : IsAcross height s
  pub west : IsWest height r s

-- the riser at a place of the list
abbrev pub riser_at : List Riser → ℕ → Riser
riser_at risers id = slice_index_or risers id (record {
  a = record { x = pos 0; y = pos 0 };
  b = record { x = pos 0; y = pos 0 };
  west = 0;
  east = 0;
})

-- how far a riser goes up
abbrev pub up_of : Riser → ℕ
up_of r = unsigned_abs (r.b.y -ℤ r.a.y)

-- the column of an end: at one place upper ends stand left of lower ones
abbrev pub column_of : Riser → Bool → ℕ
column_of r is_upper = cond is_upper (2 * unsigned_abs (r.b.x +ℤ GRID)) (2 * unsigned_abs (r.a.x +ℤ GRID) + 1)

-- how far a riser leans to the right on the way from an end, to a step up or down: the quotient, rounded downwards, in parts
-- that tell two slopes apart, from -WIDTH on
abbrev pub lean_of : Riser → Bool → ℕ
lean_of r is_upper = unsigned_abs (pos (WIDTH * up_of r) +ℤ cond is_upper (r.a.x -ℤ r.b.x) (r.b.x -ℤ r.a.x)) * LEAN_PARTS / up_of r

-- an event is the lower or the upper end of a riser: its key is among those of the end's level
pub record IsEnd (r : Riser) (e : Event) : Type 0 where
  pub level_is : pos e.level ≡ cond e.is_upper r.b.y r.a.y +ℤ GRID
  pub from_level : e.level * KEYS ≤ e.key
  pub below_next : e.key < (e.level + 1) * KEYS
  pub key_is : e.key ≡ e.level * KEYS + column_of r e.is_upper * LEANS + lean_of r e.is_upper

-- an event is an end of a riser of the list
pub record IsEndOf (risers : List Riser) (e : Event) : Type 0 where
  pub in_list : e.id < length risers
  pub end : IsEnd (riser_at risers e.id) e

-- the sum of f over the first places of a list
abbrev pub sum_to : ℕ → (ℕ → ℕ) → ℕ
sum_to zero f = 0
sum_to (suc n) f = sum_to n f + f n

-- f of the riser that begins, of the riser that ends
abbrev pub begun : (ℕ → ℕ) → Event → ℕ
begun f e = cond e.is_upper 0 (f e.id)

abbrev pub ended : (ℕ → ℕ) → Event → ℕ
ended f e = cond e.is_upper (f e.id) 0

-- the events are the ends of the first risers: each of these begins once and ends once
pub record AreEndsOf (risers : List Riser) (count : ℕ) (events : List Event) : Type 0 where
  pub each : All (IsEndOf risers) events
  pub begins : (f : ℕ → ℕ) → sum_by (begun f) events ≡ sum_to count f
  pub ends : (f : ℕ → ℕ) → sum_by (ended f) events ≡ sum_to count f

-- the levels of the events don't fall
abbrev pub AreRising : List Event → Type 0
AreRising events = (i j : ℕ) (d : Event) → i ≤ j → j < length events
    → (slice_index_or events i d).level ≤ (slice_index_or events j d).level

-- places of a list
abbrev pub AreIn : List Riser → List ℕ → Type 0
AreIn risers order = All (λ id. id < length risers) order

-- of an order, the neighbours left and right of a place agree
abbrev pub DoAgreeAt : List Riser → List ℕ → ℕ → Type 0
DoAgreeAt risers order i = DoAgree (riser_at risers (slice_index_or order (i - 1) 0))
    (riser_at risers (slice_index_or order i 0))

-- each two neighbours of an order agree
abbrev pub AreNeighbours : List Riser → List ℕ → Type 0
AreNeighbours risers order = (i : ℕ) → 1 ≤ i → i < length order → DoAgreeAt risers order i

-- the outside is to the west of the first riser of an order
abbrev pub BeginsOutside : List Riser → List ℕ → Type 0
BeginsOutside risers order = 0 < length order → (riser_at risers (slice_index_or order 0 0)).west ≡ 0

-- each two neighbours agree, and the outside is to the west of the first
pub record IsChain (risers : List Riser) (order : List ℕ) : Type 0 where
  pub first : BeginsOutside risers order
  pub neighbours : AreNeighbours risers order

-- after the first events an order has the risers that have begun and not ended, each once
pub record IsWalking (risers : List Riser) (events : List Event) (next : ℕ) (order : List ℕ) : Type 0 where
  pub within : AreIn risers order
  pub counted : (f : ℕ → ℕ) → sum_by f order + sum_by (ended f) (take next events)
      ≡ sum_by (begun f) (take next events)

-- a riser is put in, is taken out
pub record IsPutIn (id : ℕ) (old new : List ℕ) : Type 0 where
  pub place : ℕ
  pub in_list : place ≤ length old
  pub new_is : new ≡ insert old place id

pub record IsTakenOut (id : ℕ) (old new : List ℕ) : Type 0 where
  pub place : ℕ
  pub in_list : place < length old
  pub id_is : slice_index_or old place 0 ≡ id
  pub new_is : new ≡ remove old place

-- each two neighbours agree, but at the places that changed, of which none is right of the last
pub record AreSettled (risers : List Riser) (order changed : List ℕ) (last : ℕ) : Type 0 where
  pub agree : (i : ℕ) → 1 ≤ i → i < length order → DoAgreeAt risers order i ⊎ Contains changed i
  pub before : All (λ i. i ≤ last) changed

-- the first events are those up to a level
pub record IsUpTo (events : List Event) (next level : ℕ) : Type 0 where
  pub in_list : next ≤ length events
  pub reached : (i : ℕ) (d : Event) → i < next → (slice_index_or events i d).level ≤ level
  pub beyond : (i : ℕ) (d : Event) → next ≤ i → i < length events
      → level < (slice_index_or events i d).level

-- whatever domains are chosen, where they wind round no place far to the left, they wind round each place of the strip
-- once or not at all
abbrev pub IsSoundFor : List Riser → ℤ → ℤ → Type 0
IsSoundFor risers low high = (chosen : ℕ → Bool) → chosen 0 ≡ false
    → winding_of chosen (far (low +ℤ high)) risers ≡ pos 0 → IsSound low high chosen risers
