-- The verdict on a mesh: its first fault at its least place, or that it is whole.
--
-- PastPlaces .. PastHanging   what holds where the faults before are not
-- IsLeastChain                the least domain and pair of points between which elements and boundary differ
-- IsVerdict                   what each verdict says of the mesh
use Rattle.std.specs.Prelude.{◌≡◌, ◌≢◌, ◌⊎◌, ℕ, ◌<◌, ◌≤◌, All, ℤ}
use Rattle.geom_check.specs.Accepted.{AreTogether, ArePlacesDifferent}
use Rattle.geom_check.specs.Refused.{IsFirstFailing, IsLeastPair}
use Rattle.geom_check.specs.Geometry.{PlanarMap}
use Rattle.vol_format.specs.declared.Mesh.{Mesh}
use Rattle.mesh_check.specs.declared.verdict.Verdict.{Verdict}
use Rattle.mesh_check.specs.declared.verdict.Verdict.TheVariants.{SamePlace, Edges, Domain, Turned, Hanging, Chain, Whole}
use Rattle.mesh_check.specs.Walked.{IsRowFault}
use Rattle.mesh_check.specs.Whole.{DoRowsWalk, HasDomainOf, IsTurned, DoesHang, IsPair, IsChained, sides_between, rows_between, IsWhole}

-- ---- what holds where the faults before are not, and P: each asks one fact more than the one before it
-- points have different places
abbrev pub PastPlaces : Mesh → Type 0 → Type 0
PastPlaces m P = ArePlacesDifferent m.points × P

-- and the edge rows walk the segments
abbrev pub PastRows : PlanarMap → Mesh → Type 0 → Type 0
PastRows g m P = PastPlaces m (DoRowsWalk g m × P)

-- and each element's domain is one of the geometry's
abbrev pub PastDomains : PlanarMap → Mesh → Type 0 → Type 0
PastDomains g m P = PastRows g m (All (HasDomainOf g.domains) m.elements × P)

-- and each element is positively turned
abbrev pub PastTurns : PlanarMap → Mesh → Type 0 → Type 0
PastTurns g m P = PastDomains g m (All (IsTurned m.points) m.elements × P)

-- and no point hangs
abbrev pub PastHanging : PlanarMap → Mesh → Type 0 → Type 0
PastHanging g m P = PastTurns g m (((i k : ℕ) → ¬ DoesHang m.points m.elements i k) × P)

-- the least domain in which elements and boundary differ, and the least pair of points between which they do: the sides
-- of elements number `elements`, and the boundary's edges `edges`
pub record IsLeastChain (m : Mesh) (domain from to : ℕ) (elements edges : ℤ) : Type 0 where
  pub positive : 0 < domain
  pub pair : IsPair m from to
  pub sides : elements ≡ sides_between m domain from to
  pub rows : edges ≡ rows_between m domain from to
  pub differ : elements ≢ edges
  pub least_domain : (d : ℕ) → 0 < d → d < domain → IsChained m d
  pub least_pair : (u w : ℕ) → IsPair m u w
      → sides_between m domain u w ≢ rows_between m domain u w
      → (from < u) ⊎ ((from ≡ u) × (to ≤ w))

-- the first fault of the mesh at its least place, in the order of the verdicts; or that it has none
abbrev pub IsVerdict : PlanarMap → Mesh → Verdict → Type 0
IsVerdict g m (SamePlace i j) = IsLeastPair (AreTogether m.points) i j
IsVerdict g m (Edges row) = PastPlaces m (IsRowFault g m row)
IsVerdict g m (Domain element) = PastRows g m (IsFirstFailing (HasDomainOf g.domains) m.elements element)
IsVerdict g m (Turned element) = PastDomains g m (IsFirstFailing (IsTurned m.points) m.elements element)
IsVerdict g m (Hanging point element) = PastTurns g m (IsLeastPair (DoesHang m.points m.elements) point element)
IsVerdict g m (Chain domain from to elements edges) =
    PastHanging g m (IsLeastChain m domain from to elements edges)
IsVerdict g m Whole = IsWhole g m
