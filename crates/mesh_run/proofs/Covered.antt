-- After each application the elements and the front add up to the domain; and each takes at least 1 from the doubled area, of which no less than 0 is left.
use Rattle.std.proofs.Common.{◌≡◌, ℕ, zero, suc, ◌<◌, ◌≤◌, List, [], ◌∷◌, length, take, refl, sym, ap, ◌∙◌, subst, arith, inl, inr, ◌⊎◌, ℤ, pos, negsuc, ◌+ℤ◌, ◌≤ℤ◌}
use Rattle.std.specs.Prelude.{slice_get, Some}
use Rattle.std.specs.List.{AllByRecursion}
use Rattle.std.proofs.lemmas.Int.{ints}
use Rattle.std.proofs.lemmas.List.{length-map}
use Rattle.std.proofs.lemmas.List.Elements.{All-from_recursion}
use Rattle.std.proofs.lemmas.Option.{get_or_from_slice_get, slice_get_within}
use Rattle.grid_geom.specs.declared.Point.{Point}
use Rattle.grid_geom.specs.declared.Edge.{Edge}
use Rattle.grid_geom.specs.declared.RatPoint.{RatPoint}
use Rattle.grid_geom.specs.Area.{shoelace}
use Rattle.grid_geom.specs.Closed.{IsOff}
use Rattle.grid_geom.specs.Plane.{IsRational}
use Rattle.grid_geom.specs.Polygon.{sides, IsInPolygon, IsStrictlyConvex}
use Rattle.grid_geom.specs.Winding.{wind}
use Rattle.geom_check.specs.Accepted.{IsZeroOrOne}
use Rattle.geom_check.specs.Geometry.{PlanarMap, IsGeometry}
use Rattle.wind_law.proofs.Additive.{wind_append}
use Rattle.wind_law.proofs.Polygons.{polygon_inside, polygon_outside}
use Rattle.state_law.specs.Kept.{all_sides}
use Rattle.state_law.specs.State.{State}
use Rattle.state_law.proofs.KeptOn.{inside_or_not, kept_wind}
use Rattle.state_law.proofs.Lists.{all_first, all_second}
use Rattle.state_law.proofs.Region.{region_of}
use Rattle.size_field.specs.Boundary.{piece_boundary}
use Rattle.size_field.proofs.Bounds.{pieces_wind}
use Rattle.front_chain.specs.Front.{or_zero}
use Rattle.rule_reader.specs.declared.rule.Rule.{Rule}
use Rattle.rule_reader.specs.Normal.{CanPrint, IsRule}
use Rattle.rule_match.specs.declared.application.Application.{Application}
use Rattle.mesh_run.specs.declared.Options.{Options}
use Rattle.mesh_run.specs.Reached.{IsReached, MayBeApplied, elements_at, front_at}
use Rattle.mesh_run.specs.Runs.{opening_of, pieces_by, setting_of}
use Rattle.mesh_run.specs.Steps.{RunSetting, IsNext, AreNext, applied, state_after}
use Rattle.mesh_run.specs.Sum.{AddUp, IsCovered, sum_of_elements}
use Rattle.mesh_run.proofs.Areas.{pieces_area}
use Rattle.mesh_run.proofs.Begun.{front_opens}
use Rattle.mesh_run.proofs.Steps.{area_after, may_apply, reached_after, reached_opening}

-- ---- in one state
-- the elements' sides wind as often as the elements in all
sum_is : (q : RatPoint) (elements : List (List Point)) → wind q (all_sides elements) ≡ sum_of_elements q elements
sum_is q [] = refl
sum_is q (corners ∷ elements) = wind_append q (sides corners) (all_sides elements) ∙ ap (λ (z : ℤ). wind q (sides corners) +ℤ z) (sum_is q elements)

one_element : (q : RatPoint) (corners : List Point) → IsRational q → IsStrictlyConvex corners → IsOff q (sides corners) → IsZeroOrOne (wind q (sides corners))
one_element q corners kq convex off = by (inside_or_not q corners)
  where
    by : IsInPolygon q corners ⊎ ¬ (IsInPolygon q corners) → IsZeroOrOne (wind q (sides corners))
    by (inl i) = inr (polygon_inside corners q convex kq i)
    by (inr n) = inl (polygon_outside corners q convex kq off n)

each_element : (q : RatPoint) (elements : List (List Point)) → IsRational q → AllByRecursion IsStrictlyConvex elements → IsOff q (all_sides elements)
    → AllByRecursion (λ corners. IsZeroOrOne (wind q (sides corners))) elements
each_element q [] kq convex off = tt
each_element q (corners ∷ elements) kq convex off =
    (one_element q corners kq convex.0 (all_first _ (sides corners) (all_sides elements) off), each_element q elements kq convex.1 (all_second _ (sides corners) (all_sides elements) off))

pub adds_up : (g : PlanarMap) (options : Options) (d : ℕ) (st : State) → IsGeometry g → IsReached (piece_boundary d g.segments (pieces_by g options)) st → AddUp g d (elements_at st) (front_at st)
adds_up g options d st h r q off =
    let b = piece_boundary d g.segments (pieces_by g options) in
    record {
      sum = sym (pieces_wind g options.greatest options.grading d q h off.rational) ∙ kept_wind b [] (front_at st) (elements_at st) r.kept q
          ∙ turned (wind q (front_at st)) (wind q (all_sides (elements_at st))) (sum_of_elements q (elements_at st)) (sum_is q (elements_at st));
      elements_once = each_element q (elements_at st) off.rational r.kept.convex off.off_elements;
      front_once = (region_of b [] (front_at st) (elements_at st) r.kept).single q off.rational off.off_front;
    }
  where
    turned : (f e s : ℤ) → e ≡ s → f +ℤ e ≡ s +ℤ f
    turned f e s i = omega (arith, ints)

-- ---- one application after another
pub rule_at : (rules : List Rule) (k : ℕ) (rule : Rule) → CanPrint rules → slice_get rules k ≡ Some rule → IsRule rule
rule_at rules k rule can e = subst IsRule (get_or_from_slice_get rules k rule rule e) (All-from_recursion IsRule rules can.1 k rule (slice_get_within rules k rule e))

-- the next application may be made, and has an element
pub may_next : (b : List Edge) (s : RunSetting) (st : State) (a : Application) → IsReached b st → CanPrint s.rules → IsNext s st a → MayBeApplied st a
may_next b s st a r can n =
    let t = n.best.attempt in
    subst (MayBeApplied st) (sym n.best.gives) (may_apply b st t r (rule_at s.rules _ t.text can n.best.least.of.is_rule) n.best.least.candidate)

some_element : (s : RunSetting) (st : State) (a : Application) → IsNext s st a → 1 ≤ length a.elements
some_element s st a n =
    let t = n.best.attempt in
    at_least (length a.elements) (length t.text.elements) (ap (λ (c : Application). length c.elements) n.best.gives ∙ length-map t.text.elements _) n.best.least.candidate.live.some_element
  where
    at_least : (k m : ℕ) → k ≡ m → (m ≡ 0 → ⊥) → 1 ≤ k
    at_least zero m e h = absurd (h (sym e))
    at_least (suc k) m e h = omega arith

pub reached_all : (b : List Edge) (s : RunSetting) (st : State) (more : List Application) (k : ℕ) → IsReached b st → CanPrint s.rules → AreNext s st more → IsReached b (state_after st (take k more))
reached_all b s st more zero r can n = r
reached_all b s st [] (suc k) r can n = r
reached_all b s st (a ∷ more) (suc k) r can n = reached_all b s (applied st a) more k (reached_after b st a r (may_next b s st a r can n.0)) can n.1

pub reached_state : (b : List Edge) (s : RunSetting) (st : State) (more : List Application) → IsReached b st → CanPrint s.rules → AreNext s st more → IsReached b (state_after st more)
reached_state b s st [] r can n = r
reached_state b s st (a ∷ more) r can n = reached_state b s (applied st a) more (reached_after b st a r (may_next b s st a r can n.0)) can n.1

-- at most as many applications as the doubled area
few : (b : List Edge) (s : RunSetting) (st : State) (more : List Application) → IsReached b st → CanPrint s.rules → AreNext s st more → length more ≤ or_zero (shoelace (front_at st))
few b s st [] r can n = omega arith
few b s st (a ∷ more) r can n =
    let may = may_next b s st a r can n.0 in let some = some_element s st a n.0 in let area = area_after b st a r may in
    sum (length more) (length a.elements) (shoelace (front_at st)) (shoelace (front_at (applied st a))) some area.falls (area.left some) (few b s (applied st a) more (reached_after b st a r may) can n.1)
  where
    sum : (n k : ℕ) (before after : ℤ) → 1 ≤ k → (after +ℤ pos k) ≤ℤ before → pos 0 ≤ℤ after → n ≤ or_zero after → suc n ≤ or_zero before
    sum n k (pos x) (pos y) i f l h = omega (arith, ints)
    sum n k (negsuc x) (pos y) i f l h = absurd (omega (arith, ints))
    sum n k before (negsuc y) i f l h = absurd (omega (arith, ints))

pub covered : (g : PlanarMap) (rules : List Rule) (options : Options) (d : ℕ) (applications : List Application) → IsGeometry g → 0 < d → CanPrint rules → AreNext (setting_of g rules options d) (opening_of g options d) applications
    → IsCovered g d (opening_of g options d) applications
covered g rules options d applications h above can n =
    let b = piece_boundary d g.segments (pieces_by g options) in let s = setting_of g rules options d in let st = opening_of g options d in
    let opened = reached_opening g options.greatest options.grading d h above in
    record {
      adds_up = λ k within. adds_up g options d (state_after st (take k applications)) h (reached_all b s st applications k opened can n);
      bounded = subst (λ (z : ℤ). length applications ≤ or_zero z) (ap shoelace (front_opens d g.segments (pieces_by g options)) ∙ pieces_area g options.greatest options.grading d h) (few b s st applications opened can n);
    }
