-- What the risers say of domains: a fault of one domain is one of its boundary, and a fault of all together is an overlap of two.
use Rattle.std.proofs.Common.{◌≡◌, ℕ, ◌<◌, ◌≤◌, List, length, All, Some, None, sym, ◌∙◌, ap, subst, arith, ◌⊎◌, inl, inr}
use lib.IntN.{ℤ, pos}
use Rattle.std.proofs.lemmas.Int.{ints}
use Rattle.std.proofs.lemmas.Bool.{cases_lt}
use Rattle.std.proofs.lemmas.List.Elements.{recursion_from_All}
use Rattle.grid_geom.specs.declared.Point.{Point}
use Rattle.grid_geom.specs.declared.RatPoint.{RatPoint}
use Rattle.grid_geom.specs.declared.Edge.{Edge}
use Rattle.grid_geom.specs.Plane.{IsRational}
use Rattle.grid_geom.specs.Winding.{wind}
use Rattle.grid_geom.specs.Closed.{IsOff}
use Rattle.geom_check.specs.declared.kinds.Segment.{Segment}
use Rattle.geom_check.specs.declared.risers.Riser.{Riser}
use Rattle.geom_check.specs.Boundary.{edges_of, boundary, IsSegmentOf}
use Rattle.geom_check.specs.Accepted.{IsZeroOrOne, WindsAtMostOnce, DoOverlap}
use Rattle.geom_check.specs.Risers.{risers_of, is_chosen, winding_of}
use Rattle.geom_check.specs.RiserOrder.{IsSoundAll}
use Rattle.geom_check.specs.Strips.{IsGapMiddle, IsWitness}
use Rattle.geom_check.specs.Refused.{IsLeastSide}
use Rattle.geom_check.proofs.Closing.{no_boundary}
use Rattle.geom_check.proofs.RiserWinding.{wind_is}
use Rattle.geom_check.proofs.Sound.{sides_by, off_risers}
use Rattle.geom_check.proofs.Together.{together, AreSides, HasTwo, two_of_total, total_of_two}
use Rattle.geom_check.proofs.EdgesTurned.{risers_have_sides}
use Rattle.geom_check.proofs.GapMiddles.{middle_off}
use Rattle.geom_check.specs.declared.limits.TheConstants.{MOST_DOMAINS}

-- ---- single domains
-- a domain above all that segments name has the winding number 0 everywhere
none_above : (points : List Point) (d : ℕ) (ss : List Segment) (q : RatPoint) → All (IsSegmentOf (length points)) ss → MOST_DOMAINS < d → wind q (boundary points d ss) ≡ pos 0
none_above points d ss q joined h = ap (wind q) (no_boundary points d ss h (recursion_from_All (IsSegmentOf (length points)) ss joined))

-- where the risers show no fault of the domains from 1 to 64, each domain has winding numbers 0 and 1
pub all_sides : (points : List Point) (ss : List Segment) (risers : List Riser) → All (IsSegmentOf (length points)) ss → risers ≡ risers_of points ss → ((d : ℕ) → 0 < d → d ≤ MOST_DOMAINS → IsSoundAll (is_chosen (Some d)) risers) →
    (d : ℕ) → 0 < d → WindsAtMostOnce points ss d
all_sides points ss risers joined is sound d h = elim (cases_lt MOST_DOMAINS d) [
  | inl l ↦ λ q kq off. inl (none_above points d ss q joined l)
  | inr l ↦ sides_by points d ss (subst (λ (rs : List Riser). IsSoundAll (is_chosen (Some d)) rs) is (sound d h l))
]

-- ---- overlapping domains
sides_at : (points : List Point) (ss : List Segment) (q : RatPoint) (n : ℕ) → IsRational q → IsOff q (edges_of points ss) → ((d : ℕ) → 0 < d → WindsAtMostOnce points ss d) → AreSides (λ d. winding_of (is_chosen (Some d)) q (risers_of points ss)) n
sides_at points ss q n kq off sides d h k = subst (λ (z : ℤ). IsZeroOrOne z) (wind_is q points d ss kq) (sides d h q kq off)

-- where all domains together have a winding number other than 0 and 1, two of them overlap
pub overlap_of : (points : List Point) (ss : List Segment) (q : RatPoint) → All (IsSegmentOf (length points)) ss → IsRational q → IsOff q (edges_of points ss) → ((d : ℕ) → 0 < d → WindsAtMostOnce points ss d) →
    ¬ (IsZeroOrOne (winding_of (is_chosen None) q (risers_of points ss))) → DoOverlap points ss q
overlap_of points ss q joined kq off sides fault = found (two_of_total (λ d. winding_of (is_chosen (Some d)) q (risers_of points ss)) MOST_DOMAINS (sides_at points ss q MOST_DOMAINS kq off sides) (subst (λ (z : ℤ). ¬ (IsZeroOrOne z)) (together q (risers_of points ss) MOST_DOMAINS (risers_have_sides points ss joined)) fault))
  where
    found : HasTwo (λ d. winding_of (is_chosen (Some d)) q (risers_of points ss)) MOST_DOMAINS → DoOverlap points ss q
    found t = record { c = t.c; d = t.d; positive = t.positive; ordered = t.ordered; in_c = wind_is q points t.c ss kq ∙ t.at_c; in_d = wind_is q points t.d ss kq ∙ t.at_d }

-- and where two overlap, all together have such a number
pub fault_of_overlap : (points : List Point) (ss : List Segment) (q : RatPoint) → All (IsSegmentOf (length points)) ss → IsRational q → IsOff q (edges_of points ss) → ((d : ℕ) → 0 < d → WindsAtMostOnce points ss d) →
    DoOverlap points ss q → ¬ (IsZeroOrOne (winding_of (is_chosen None) q (risers_of points ss)))
fault_of_overlap points ss q joined kq off sides o =
    subst (λ (z : ℤ). ¬ (IsZeroOrOne z)) (sym (together q (risers_of points ss) MOST_DOMAINS (risers_have_sides points ss joined))) (total_of_two (λ d. winding_of (is_chosen (Some d)) q (risers_of points ss)) MOST_DOMAINS (sides_at points ss q MOST_DOMAINS kq off sides)
    (record { c = o.c; d = o.d; positive = o.positive; ordered = o.ordered; within = named (cases_lt MOST_DOMAINS o.d); at_c = sym (wind_is q points o.c ss kq) ∙ o.in_c; at_d = sym (wind_is q points o.d ss kq) ∙ o.in_d }))
  where
    clash : (z : ℤ) → z ≡ pos 0 → z ≡ pos 1 → ⊥
    clash z e f = omega (arith, ints)

    named : (MOST_DOMAINS < o.d) ⊎ (o.d ≤ MOST_DOMAINS) → o.d ≤ MOST_DOMAINS
    named (inl l) = absurd (clash (wind q (boundary points o.d ss)) (none_above points o.d ss q joined l) o.in_d)
    named (inr l) = l

-- where they show no fault of all domains together, no two overlap
pub none_overlap : (points : List Point) (ss : List Segment) (risers : List Riser) → All (IsSegmentOf (length points)) ss → risers ≡ risers_of points ss → ((d : ℕ) → 0 < d → WindsAtMostOnce points ss d) → IsSoundAll (is_chosen None) risers →
    (q : RatPoint) → IsRational q → IsOff q (edges_of points ss) → ¬ (DoOverlap points ss q)
none_overlap points ss risers joined is sides sound q kq off o = fault_of_overlap points ss q joined kq off sides o (subst (λ (rs : List Riser). IsSoundAll (is_chosen None) rs) is sound q kq (off_risers q points ss kq off))

-- ---- witnesses
-- faults that are the same in the middle of each gap have the same witness
witness_by : (F G : RatPoint → Type 0) (edges : List Edge) (at : RatPoint) → ((m : RatPoint) → IsGapMiddle edges m → F m → G m) → ((m : RatPoint) → IsGapMiddle edges m → G m → F m) → IsWitness F edges at → IsWitness G edges at
witness_by F G edges at to from w = record { middle = w.middle; fault = to at w.middle w.fault; first = λ m g b f. w.first m g b (from m g f); least = w.least }

-- the least domain with a fault, and where it has one
pub least_side : (points : List Point) (ss : List Segment) (edges : List Edge) (risers : List Riser) (domain : ℕ) (at : RatPoint) → edges ≡ edges_of points ss → risers ≡ risers_of points ss → 0 < domain →
    IsWitness (λ q. ¬ (IsZeroOrOne (winding_of (is_chosen (Some domain)) q risers))) edges at → ((d : ℕ) → 0 < d → d < domain → IsSoundAll (is_chosen (Some d)) risers) → IsLeastSide points ss domain at
least_side points ss edges risers domain at e f positive witness least = record {
  positive = positive;
  witness = witness_by (λ q. ¬ (IsZeroOrOne (winding_of (is_chosen (Some domain)) q (risers_of points ss)))) (λ q. ¬ (IsZeroOrOne (wind q (boundary points domain ss)))) (edges_of points ss) at
      (λ m g fault side. fault (subst (λ (z : ℤ). IsZeroOrOne z) (wind_is m points domain ss g.height.rational) side)) (λ m g fault side. fault (subst (λ (z : ℤ). IsZeroOrOne z) (sym (wind_is m points domain ss g.height.rational)) side))
      (subst (λ (rs : List Riser). IsWitness (λ q. ¬ (IsZeroOrOne (winding_of (is_chosen (Some domain)) q rs))) (edges_of points ss) at) f (subst (λ (es : List Edge). IsWitness (λ q. ¬ (IsZeroOrOne (winding_of (is_chosen (Some domain)) q risers))) es at) e witness));
  least = λ d h k. sides_by points d ss (subst (λ (rs : List Riser). IsSoundAll (is_chosen (Some d)) rs) f (least d h k));
}

-- where two domains overlap
pub overlap_at : (points : List Point) (ss : List Segment) (edges : List Edge) (risers : List Riser) (at : RatPoint) → All (IsSegmentOf (length points)) ss → edges ≡ edges_of points ss → risers ≡ risers_of points ss →
    ((d : ℕ) → 0 < d → WindsAtMostOnce points ss d) → IsWitness (λ q. ¬ (IsZeroOrOne (winding_of (is_chosen None) q risers))) edges at → IsWitness (DoOverlap points ss) (edges_of points ss) at
overlap_at points ss edges risers at joined e f sides witness = witness_by (λ q. ¬ (IsZeroOrOne (winding_of (is_chosen None) q (risers_of points ss)))) (DoOverlap points ss) (edges_of points ss) at
    (λ m g fault. overlap_of points ss m joined g.height.rational (middle_off (edges_of points ss) m g) sides fault) (λ m g o. fault_of_overlap points ss m joined g.height.rational (middle_off (edges_of points ss) m g) sides o)
    (subst (λ (rs : List Riser). IsWitness (λ q. ¬ (IsZeroOrOne (winding_of (is_chosen None) q rs))) (edges_of points ss) at) f (subst (λ (es : List Edge). IsWitness (λ q. ¬ (IsZeroOrOne (winding_of (is_chosen None) q risers))) es at) e witness))
