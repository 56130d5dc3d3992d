-- A front is a region, by itself. What a run keeps of a front, its boundary and its elements (`IsKept`) makes the front a region: at a point off the front alone, a point beside it is off all other edges too (Beside).
-- And a region is kept with itself as boundary, without elements and further edges. So all laws of kept fronts that don't speak of elements are laws of regions; the step is that of KeptOn.
-- The same way from 'off all segments' to 'off the lines of the own boundary', for one domain and for two.
use lib.IntN.{ℤ, pos, ◌+ℤ◌, ◌-ℤ◌}
use lib.Signed.{◌≤ℤ◌}
use mathlib.Core.Path.{◌≡◌, sym, subst}
use mathlib.Core.List.{List, [], ◌∷◌, ◌++◌}
use native.Mathlib.Omega.{arith}
use Rattle.std.proofs.lemmas.Int.{ints}
use Rattle.std.specs.List.{AllByRecursion}
use Rattle.grid_geom.specs.declared.Point.{Point}
use Rattle.grid_geom.specs.declared.RatPoint.{RatPoint}
use Rattle.grid_geom.specs.declared.Edge.{Edge}
use Rattle.grid_geom.specs.Plane.{IsRational}
use Rattle.grid_geom.specs.Polygon.{sides, IsStrictlyConvex, IsApart}
use Rattle.grid_geom.specs.Sides.{IsOnClosed}
use Rattle.grid_geom.specs.Area.{shoelace}
use Rattle.grid_geom.specs.Winding.{wind}
use Rattle.grid_geom.specs.Closed.{IsClosed, IsEdge, IsOff}
use Rattle.wind_law.specs.Centre.{centre}
use Rattle.wind_law.proofs.Uncrossed.{IsPartedByLine, uncrossed}
use Rattle.state_law.specs.Net.{net}
use Rattle.state_law.specs.Free.{AreFreeOf, AreAlike, DoEdgesTangle, IsIn}
use Rattle.state_law.specs.Gluing.{glue, glue_all, IsClearOf, MayBeGlued, MayAllBeGlued}
use Rattle.state_law.specs.Kept.{all_sides, IsNoneOrOne, IsKept}
use Rattle.state_law.specs.Conforming.{WindsOnce}
use Rattle.state_law.specs.Refusal.{IsFront}
use Rattle.state_law.specs.Region.{IsRegion}
use Rattle.state_law.proofs.Lists.{all_append, all_first, all_second}
use Rattle.state_law.proofs.Untangled.{tangle_of_alike, free_weaker}
use Rattle.state_law.proofs.KeptOn.{all_apart, kept_on}
use Rattle.state_law.proofs.CentreSaved.{parts_off, state_edges, centre_saved}
use Rattle.state_law.proofs.Beside.{HasPointBeside, beside, beside_wind}

-- ---- kept fronts and regions
pub region_of : (boundary others front : List Edge) (elements : List (List Point)) → IsKept boundary others front elements → IsRegion front
region_of boundary others front elements k = record { edges = k.edges; closed = k.closed; untangled = k.untangled; single = single }
  where
    single : (q : RatPoint) → IsRational q → IsOff q front → IsNoneOrOne (wind q front)
    single q kq o = from (beside q front (others ++ (front ++ all_sides elements)) kq k.edges o (state_edges boundary others front elements k))
      where
        from : HasPointBeside q front (others ++ (front ++ all_sides elements)) → IsNoneOrOne (wind q front)
        from r = subst IsNoneOrOne (beside_wind q front (others ++ (front ++ all_sides elements)) kq k.closed r) (k.single r.at r.rational (parts_off others front elements r.at r.off))

-- so a kept state is a region, convex elements and a chain: the further edges are any edges
pub kept_from : (boundary others front : List Edge) (elements : List (List Point)) → AllByRecursion IsEdge others → IsRegion front → AllByRecursion IsStrictlyConvex elements → ((x : Edge) → net x boundary ≡ net x front +ℤ net x (all_sides elements)) → IsKept boundary others front elements
kept_from boundary others front elements m r v c = record {
  other_edges = m;
  edges = r.edges;
  closed = r.closed;
  untangled = r.untangled;
  convex = v;
  chain = c;
  single = λ q kq o. r.single q kq o.off_front;
}

pub kept_of : (front : List Edge) → IsRegion front → IsKept front [] front []
kept_of front r = kept_from front [] front [] tt r tt (λ x. none (net x front))
  where
    none : (a : ℤ) → a ≡ a +ℤ (pos 0 -ℤ pos 0)
    none a = omega (arith, ints)

-- ---- the law
pub region_on : (front : List Edge) (cs : List Point) → IsRegion front → MayBeGlued cs front → IsRegion (glue front cs)
region_on front cs r m = region_of front [] (glue front cs) (cs ∷ []) (kept_on front [] front [] cs (kept_of front r) m)

pub region_all : (front : List Edge) (elements : List (List Point)) → IsRegion front → MayAllBeGlued elements front → IsRegion (glue_all front elements)
region_all front [] r m = r
region_all front (cs ∷ elements) r m = region_all (glue front cs) elements (region_on front cs r m.0) m.1

pub region_centre : (front : List Edge) (cs : List Point) (e : Edge) → IsRegion front → IsStrictlyConvex cs → AllByRecursion (λ f. IsApart f.a f.b cs) front → IsIn e (sides cs) → IsIn e front → wind (centre cs) front ≡ pos 1
region_centre front cs e r v a s f = centre_saved front [] front [] cs e (kept_of front r) v a s f

-- clause 5 of gluing needs no look where a side is a front line
pub region_may : (front : List Edge) (cs : List Point) (e : Edge) → IsRegion front → IsStrictlyConvex cs → AllByRecursion (IsClearOf cs) front → shoelace (sides cs) ≤ℤ shoelace front → IsIn e (sides cs) → IsIn e front → MayBeGlued cs front
region_may front cs e r v c a s f = record { turned = v; clear = c; within = region_centre front cs e r v (all_apart cs front c) s f; covered = a }

-- what a front keeps by itself: no doubles and no reverses
pub region_front : (front : List Edge) → IsRegion front → IsFront front
region_front front r = record { edges = r.edges; closed = r.closed; single = free_weaker DoEdgesTangle AreAlike tangle_of_alike front r.untangled }

-- ---- from all segments to the lines of the own boundary
pub own_lines : (P : ℤ → Type 0) (boundary others : List Edge) → AllByRecursion IsEdge others → AllByRecursion IsEdge boundary → IsClosed boundary → ((q : RatPoint) → IsRational q → IsOff q others → P (wind q boundary)) →
    (q : RatPoint) → IsRational q → IsOff q boundary → P (wind q boundary)
own_lines P boundary others m n c w q kq o = from (beside q boundary others kq n o m)
  where
    from : HasPointBeside q boundary others → P (wind q boundary)
    from r = subst P (beside_wind q boundary others kq c r) (w r.at r.rational r.off)

pub region_opened : (boundary others : List Edge) → AllByRecursion IsEdge others → AllByRecursion IsEdge boundary → IsClosed boundary → AreFreeOf DoEdgesTangle boundary → WindsOnce boundary others → IsRegion boundary
region_opened boundary others m n c u w = record { edges = n; closed = c; untangled = u; single = own_lines IsNoneOrOne boundary others m n c w }

-- of two domains: no point off the lines of both is in both
pub own_lines_two : (boundary next others : List Edge) → AllByRecursion IsEdge others → AllByRecursion IsEdge boundary → IsClosed boundary → AllByRecursion IsEdge next → IsClosed next →
    ((q : RatPoint) → IsRational q → IsOff q others → pos 1 ≤ℤ wind q boundary → pos 1 ≤ℤ wind q next → ⊥) → (q : RatPoint) → IsRational q → IsOff q boundary → IsOff q next → pos 1 ≤ℤ wind q boundary → pos 1 ≤ℤ wind q next → ⊥
own_lines_two boundary next others m n c nn nc w q kq o p h i = from (beside q (boundary ++ next) others kq (all_append IsEdge boundary next n nn) (all_append (λ e. ¬ (IsOnClosed q e.a e.b)) boundary next o p) m)
  where
    from : HasPointBeside q (boundary ++ next) others → ⊥
    from r = w r.at r.rational r.off
        (subst (λ (z : ℤ). pos 1 ≤ℤ z) (sym (uncrossed r.at q boundary c r.rational kq (all_first (IsPartedByLine r.at q) boundary next r.parted))) h)
        (subst (λ (z : ℤ). pos 1 ≤ℤ z) (sym (uncrossed r.at q next nc r.rational kq (all_second (IsPartedByLine r.at q) boundary next r.parted))) i)
