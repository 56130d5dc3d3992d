-- The states of a run's domains conform. Of each domain state_law's soundness holds at the opening, with the segments as further edges, and each application keeps it: element after element, as what a run keeps is kept. Then the laws of conforming states speak of each domain, and of each two.
use Rattle.std.proofs.Common.{length, ◌≡◌, ℕ, zero, suc, ◌<◌, List, [], ◌∷◌, take, refl, sym, ap, subst, arith, inl, inr, ◌⊎◌, ℤ, pos, ◌≤ℤ◌}
use Rattle.std.specs.Prelude.{◌≢◌}
use Rattle.std.specs.List.{AllByRecursion, AllZip}
use Rattle.std.proofs.lemmas.Int.{ints}
use Rattle.std.proofs.Math.Seq.{take-length}
use Rattle.std.proofs.lemmas.List.{map-append}
use Rattle.std.proofs.lemmas.List.Elements.{recursion_from_All}
use Rattle.grid_geom.specs.declared.Edge.{Edge}
use Rattle.grid_geom.specs.declared.RatPoint.{RatPoint}
use Rattle.grid_geom.specs.Plane.{IsRational}
use Rattle.grid_geom.specs.Closed.{IsOff}
use Rattle.grid_geom.specs.Sides.{IsOnOpen}
use Rattle.grid_geom.specs.Winding.{wind}
use Rattle.geom_check.specs.Accepted.{IsZeroOrOne}
use Rattle.geom_check.specs.Boundary.{edges_of}
use Rattle.geom_check.specs.Domains.{domain_numbers, IsDomain}
use Rattle.geom_check.specs.Geometry.{PlanarMap, IsGeometry}
use Rattle.geom_check.proofs.DomainNumbers.{numbers_within}
use Rattle.size_field.specs.Boundary.{piece_boundary}
use Rattle.size_field.proofs.Bounds.{boundaries_apart, pieces_wind}
use Rattle.size_field.proofs.Regions.{boundary_region}
use Rattle.size_field.proofs.Rows.{segments_untangled}
use Rattle.state_law.specs.Conforming.{AreNeighbours, IsBoundary, IsMeshPoint, IsSound, IsUsed}
use Rattle.state_law.specs.Gluing.{glue, MayBeGlued}
use Rattle.state_law.specs.Kept.{all_sides}
use Rattle.state_law.specs.State.{State, corners_of, glued}
use Rattle.state_law.proofs.Applied.{sound_opened, sound_on}
use Rattle.state_law.proofs.Conform.{no_side_twice, each_side_once, apart_domains}
use Rattle.state_law.proofs.Foreign.{foreign_hanging}
use Rattle.state_law.proofs.Lists.{at_edge}
use Rattle.state_law.proofs.Numbers.{glued_edges}
use Rattle.admission.specs.Admission.{glued_on, MayFollow}
use Rattle.rule_reader.specs.declared.rule.Rule.{Rule}
use Rattle.rule_reader.specs.Normal.{CanPrint}
use Rattle.rule_match.specs.declared.application.Application.{Application}
use Rattle.mesh_run.specs.declared.Options.{Options}
use Rattle.mesh_run.specs.declared.WholeRun.{WholeRun}
use Rattle.mesh_run.specs.declared.domain_run.DomainRun.{DomainRun}
use Rattle.mesh_run.specs.Conform.{DomainState, AreConforming, DoSidesDiffer, DoSidesMatch, NoneHangs, domain_state, states_at}
use Rattle.mesh_run.specs.Reached.{IsReached, MayBeApplied, elements_at, front_at}
use Rattle.mesh_run.specs.Runs.{opening_of, pieces_by, setting_of, IsDomainRun, IsWholeRun}
use Rattle.mesh_run.specs.Steps.{RunSetting, AreNext, applied, state_after, with_points}
use Rattle.mesh_run.proofs.Begun.{front_opens}
use Rattle.mesh_run.proofs.Covered.{may_next}
use Rattle.mesh_run.proofs.Numbers.{AreListed, edges_kept, elements_kept}
use Rattle.mesh_run.proofs.OneRun.{one_domain_run}
use Rattle.mesh_run.proofs.Steps.{reached_after, reached_glued, reached_opening, reached_with}

-- a state is reached, and sound with the further edges
abbrev pub IsSoundAt : List Edge → List Edge → State → Type 0
IsSoundAt b others st = IsSound b others (front_at st) (elements_at st)

-- ---- the opening: the boundary in pieces winds as the one in segments, 0 times or once off the segments
bounds : (g : PlanarMap) (options : Options) (d : ℕ) → IsGeometry g → 0 < d → IsBoundary (piece_boundary d g.segments (pieces_by g options)) (edges_of g.points g.segments)
bounds g options d h above =
    let region = boundary_region g options.greatest options.grading d h above in
    record {
      edges = region.edges;
      closed = region.closed;
      untangled = region.untangled;
      at_most_once = λ q kq off. at_most (subst IsZeroOrOne (sym (pieces_wind g options.greatest options.grading d q h kq)) (h.planar.winding d above q kq off));
    }
  where
    at_most : {z : ℤ} → IsZeroOrOne z → z ≤ℤ pos 1
    at_most {z} (inl e) = omega (arith, ints)
    at_most {z} (inr e) = omega (arith, ints)

pub sound_opening : (g : PlanarMap) (options : Options) (d : ℕ) → IsGeometry g → 0 < d → IsSoundAt (piece_boundary d g.segments (pieces_by g options)) (edges_of g.points g.segments) (opening_of g options d)
sound_opening g options d h above =
    let b = piece_boundary d g.segments (pieces_by g options) in let others = edges_of g.points g.segments in
    subst (λ (es : List Edge). IsSound b others es []) (sym (front_opens d g.segments (pieces_by g options)))
    (sound_opened b others (segments_untangled g h).edges (bounds g options d h above)
    (λ q kq off. subst IsZeroOrOne (sym (pieces_wind g options.greatest options.grading d q h kq)) (h.planar.winding d above q kq off)))

-- ---- applications
sound_glued : (b others : List Edge) (w : State) (ns : List ℕ) → IsReached b w → IsSoundAt b others w → AreListed w.points ns → MayBeGlued (corners_of w.points ns) (front_at w) → IsSoundAt b others (glued w ns)
sound_glued b others w ns r s l m =
    subst (λ (es : List Edge). IsSound b others es (elements_at (glued w ns))) (sym (glued_edges w ns r.numbered l))
    (subst (IsSound b others (glue (front_at w) (corners_of w.points ns))) (sym (map-append (corners_of w.points) w.elements (ns ∷ [])))
    (sound_on b others (front_at w) (elements_at w) (corners_of w.points ns) s m))

sound_glued_on : (b others : List Edge) (w : State) (els : List (List ℕ)) → IsReached b w → IsSoundAt b others w → AllByRecursion (AreListed w.points) els → MayFollow w els → IsSoundAt b others (glued_on w els)
sound_glued_on b others w [] r s l m = s
sound_glued_on b others w (ns ∷ els) r s l m = sound_glued_on b others (glued w ns) els (reached_glued b w ns r l.0 m.0) (sound_glued b others w ns r s l.0 m.0) l.1 m.1

sound_after : (b others : List Edge) (st : State) (a : Application) → IsReached b st → IsSoundAt b others st → MayBeApplied st a → IsSoundAt b others (applied st a)
sound_after b others st a r s m =
    let w = with_points st a.made in
    let listed : IsSoundAt b others w =
    subst (λ (es : List Edge). IsSound b others es (elements_at w)) (sym (edges_kept st.points a.made st.front r.numbered.lines_listed))
    (subst (IsSound b others (front_at st)) (sym (elements_kept st.points a.made st.elements r.corners_listed)) s) in
    sound_glued_on b others w a.elements (reached_with b st a.made r m.different m.on_grid) listed m.listed m.may

sound_all : (b others : List Edge) (s : RunSetting) (st : State) (more : List Application) (k : ℕ) → IsReached b st → IsSoundAt b others st → CanPrint s.rules → AreNext s st more → IsSoundAt b others (state_after st (take k more))
sound_all b others s st more zero r sound can n = sound
sound_all b others s st [] (suc k) r sound can n = sound
sound_all b others s st (a ∷ more) (suc k) r sound can n =
    let may = may_next b s st a r can n.0 in
    sound_all b others s (applied st a) more k (reached_after b st a r may) (sound_after b others st a r sound may) can n.1

pub sound_state : (b others : List Edge) (s : RunSetting) (st : State) (more : List Application) → IsReached b st → IsSoundAt b others st → CanPrint s.rules → AreNext s st more → IsSoundAt b others (state_after st more)
sound_state b others s st more r sound can n =
    subst (λ (done : List Application). IsSoundAt b others (state_after st done)) (take-length more) (sound_all b others s st more (length more) r sound can n)

-- ---- two domains: no point is in both, and their pieces don't tangle
one_of : {z : ℤ} → IsZeroOrOne z → pos 1 ≤ℤ z → z ≡ pos 1
one_of {z} (inl e) h = omega (arith, ints)
one_of {z} (inr e) h = e

-- no point off the segments is in both of two domains
pub apart_by : (g : PlanarMap) (options : Options) (c d : ℕ) → IsGeometry g → 0 < c → c < d → (q : RatPoint) → IsRational q → IsOff q (edges_of g.points g.segments)
    → pos 1 ≤ℤ wind q (piece_boundary c g.segments (pieces_by g options)) → pos 1 ≤ℤ wind q (piece_boundary d g.segments (pieces_by g options)) → ⊥
apart_by g options c d h first second q kq off in_c in_d =
    h.planar.separate q kq off (record {
      c = c;
      d = d;
      positive = first;
      ordered = second;
      in_c = one_of (h.planar.winding c first q kq off) (subst (λ (z : ℤ). pos 1 ≤ℤ z) (pieces_wind g options.greatest options.grading c q h kq) in_c);
      in_d = one_of (h.planar.winding d (omega (arith, first, second)) q kq off) (subst (λ (z : ℤ). pos 1 ≤ℤ z) (pieces_wind g options.greatest options.grading d q h kq) in_d);
    })

apart_either : (g : PlanarMap) (options : Options) (c d : ℕ) → IsGeometry g → 0 < c → 0 < d → (c < d) ⊎ (d < c) → (q : RatPoint) → IsRational q → IsOff q (edges_of g.points g.segments)
    → pos 1 ≤ℤ wind q (piece_boundary c g.segments (pieces_by g options)) → pos 1 ≤ℤ wind q (piece_boundary d g.segments (pieces_by g options)) → ⊥
apart_either g options c d h above higher (inl less) q kq off in_c in_d = apart_by g options c d h above less q kq off in_c in_d
apart_either g options c d h above higher (inr less) q kq off in_c in_d = apart_by g options d c h higher less q kq off in_d in_c

pub neighbours : (g : PlanarMap) (options : Options) (c d : ℕ) → IsGeometry g → 0 < c → 0 < d → (c < d) ⊎ (d < c) → AreNeighbours (piece_boundary c g.segments (pieces_by g options)) (piece_boundary d g.segments (pieces_by g options)) (edges_of g.points g.segments)
neighbours g options c d h above higher order = record {
  apart = apart_either g options c d h above higher order;
  pieces = boundaries_apart g options.greatest options.grading c d h;
}

-- ---- runs
-- a run of the domain that it names
pub record IsRunOf (g : PlanarMap) (rules : List Rule) (options : Options) (r : DomainRun) : Type 0 where
  pub above : 0 < r.domain
  pub run : IsDomainRun g rules options r.domain r

runs_of : (g : PlanarMap) (rules : List Rule) (options : Options) (ds : List ℕ) (rs : List DomainRun) → AllByRecursion IsDomain ds → AllZip (IsDomainRun g rules options) ds rs → AllByRecursion (IsRunOf g rules options) rs
runs_of g rules options [] [] above runs = tt
runs_of g rules options [] (r ∷ rs) above runs = absurd runs
runs_of g rules options (d ∷ ds) [] above runs = absurd runs
runs_of g rules options (d ∷ ds) (r ∷ rs) above runs = (
  record {
    above = subst (λ (n : ℕ). 0 < n) (sym runs.0.domain) above.0.0;
    run = subst (λ (n : ℕ). IsDomainRun g rules options n r) (sym runs.0.domain) runs.0;
  },
  runs_of g rules options ds rs above.1 runs.1,
)

pub all_runs : (g : PlanarMap) (rules : List Rule) (options : Options) (w : WholeRun) → IsGeometry g → IsWholeRun g rules options w → AllByRecursion (IsRunOf g rules options) w.domains
all_runs g rules options w h run = runs_of g rules options (domain_numbers g.segments) w.domains (recursion_from_All IsDomain (domain_numbers g.segments) (numbers_within _ g.segments h.joined)) run.domains

-- a domain's state is sound
abbrev pub IsSoundState : PlanarMap → DomainState → Type 0
IsSoundState g s = IsSound s.boundary (edges_of g.points g.segments) s.front s.elements

sound_run : (g : PlanarMap) (rules : List Rule) (options : Options) (r : DomainRun) (k : ℕ) → IsGeometry g → CanPrint rules → IsRunOf g rules options r → IsSoundState g (domain_state g options r k)
sound_run g rules options r k h can is =
    sound_all (piece_boundary r.domain g.segments (pieces_by g options)) (edges_of g.points g.segments) (setting_of g rules options r.domain) (opening_of g options r.domain) r.applications k
    (reached_opening g options.greatest options.grading r.domain h is.above) (sound_opening g options r.domain h is.above) can is.run.next_ones

-- ---- within one domain
sides_match : (g : PlanarMap) (s : DomainState) → IsSoundState g s → DoSidesMatch s
sides_match g s sound = record {
  once = λ e. no_side_twice s.boundary (edges_of g.points g.segments) s.front s.elements e sound.kept sound.bounds;
  matched = λ e i. each_side_once s.boundary (edges_of g.points g.segments) s.front s.elements e sound.kept sound.bounds i;
}

pub none_hangs_within : (g : PlanarMap) (s : DomainState) → IsSoundState g s → NoneHangs s s
none_hangs_within g s sound v e mesh among =
    at_edge (λ f. ¬ (IsOnOpen v f.a f.b)) e (all_sides s.elements) (sound.unhung.each v (used mesh)).off_sides among
  where
    used : IsMeshPoint s.boundary s.elements v → IsUsed s.front s.elements v
    used (inl end) = sound.ends_used v end
    used (inr corner) = inr corner

-- ---- of two runs: of one domain they are one run, and of two domains these are neighbours
record ConformsWith (s t : DomainState) : Type 0 where
  differ : s.domain ≢ t.domain → DoSidesDiffer s t
  unhung : NoneHangs s t

pub in_order : (c d : ℕ) → (c ≡ d) ⊎ ((c < d) ⊎ (d < c))
in_order zero zero = inl refl
in_order zero (suc d) = inr (inl (omega arith))
in_order (suc c) zero = inr (inr (omega arith))
in_order (suc c) (suc d) = next (in_order c d)
  where
    next : (c ≡ d) ⊎ ((c < d) ⊎ (d < c)) → (suc c ≡ suc d) ⊎ ((suc c < suc d) ⊎ (suc d < suc c))
    next (inl e) = inl (ap suc e)
    next (inr (inl less)) = inr (inl (omega (arith, less)))
    next (inr (inr less)) = inr (inr (omega (arith, less)))

conform : (g : PlanarMap) (rules : List Rule) (options : Options) (chosen : ℕ → ℕ) (r q : DomainRun) → IsGeometry g → CanPrint rules → IsRunOf g rules options r → IsRunOf g rules options q
    → ConformsWith (domain_state g options r (chosen r.domain)) (domain_state g options q (chosen q.domain))
conform g rules options chosen r q h can is iq = by (in_order r.domain q.domain)
  where
    s : DomainState
    s = domain_state g options r (chosen r.domain)

    t : DomainState
    t = domain_state g options q (chosen q.domain)

    sound : IsSoundState g (domain_state g options r (chosen r.domain))
    sound = sound_run g rules options r (chosen r.domain) h can is

    sound_too : IsSoundState g (domain_state g options q (chosen q.domain))
    sound_too = sound_run g rules options q (chosen q.domain) h can iq

    same : r.domain ≡ q.domain → q ≡ r
    same e = sym (one_domain_run g rules options q.domain r q (subst (λ (n : ℕ). IsDomainRun g rules options n r) e is.run) iq.run)

    by : (r.domain ≡ q.domain) ⊎ ((r.domain < q.domain) ⊎ (q.domain < r.domain)) → ConformsWith (domain_state g options r (chosen r.domain)) (domain_state g options q (chosen q.domain))
    by (inl e) = record {
      differ = λ n. absurd (n e);
      unhung = subst (λ (p : DomainRun). NoneHangs s (domain_state g options p (chosen p.domain))) (sym (same e)) (none_hangs_within g s sound);
    }
    by (inr order) = record {
      differ = λ n e. apart_domains s.boundary (edges_of g.points g.segments) s.front s.elements t.boundary t.front t.elements e sound.kept sound_too.kept
          (apart_either g options r.domain q.domain h is.above iq.above order);
      unhung = λ v e. foreign_hanging s.boundary (edges_of g.points g.segments) s.front s.elements t.boundary t.front t.elements v e sound sound_too
          (neighbours g options r.domain q.domain h is.above iq.above order);
    }

-- ---- all runs
each_two : (g : PlanarMap) (rules : List Rule) (options : Options) (chosen : ℕ → ℕ) (P : DomainState → DomainState → Type 0) (rs qs : List DomainRun)
    → ((r q : DomainRun) → IsRunOf g rules options r → IsRunOf g rules options q → P (domain_state g options r (chosen r.domain)) (domain_state g options q (chosen q.domain)))
    → AllByRecursion (IsRunOf g rules options) rs → AllByRecursion (IsRunOf g rules options) qs → AllByRecursion (λ s. AllByRecursion (P s) (states_at g options chosen qs)) (states_at g options chosen rs)
each_two g rules options chosen P [] qs f h k = tt
each_two g rules options chosen P (r ∷ rs) qs f h k = (row qs k, each_two g rules options chosen P rs qs f h.1 k)
  where
    row : (qs : List DomainRun) → AllByRecursion (IsRunOf g rules options) qs → AllByRecursion (P (domain_state g options r (chosen r.domain))) (states_at g options chosen qs)
    row [] k = tt
    row (q ∷ qs) k = (f r q h.0 k.0, row qs k.1)

each_matched : (g : PlanarMap) (rules : List Rule) (options : Options) (chosen : ℕ → ℕ) (rs : List DomainRun) → IsGeometry g → CanPrint rules → AllByRecursion (IsRunOf g rules options) rs → AllByRecursion DoSidesMatch (states_at g options chosen rs)
each_matched g rules options chosen [] h can is = tt
each_matched g rules options chosen (r ∷ rs) h can is =
    (sides_match g (domain_state g options r (chosen r.domain)) (sound_run g rules options r (chosen r.domain) h can is.0), each_matched g rules options chosen rs h can is.1)

pub all_conform : (g : PlanarMap) (rules : List Rule) (options : Options) (w : WholeRun) (chosen : ℕ → ℕ) → IsGeometry g → CanPrint rules → IsWholeRun g rules options w → AreConforming (states_at g options chosen w.domains)
all_conform g rules options w chosen h can run =
    let runs = all_runs g rules options w h run in
    record {
      matched = each_matched g rules options chosen w.domains h can runs;
      differ = each_two g rules options chosen (λ s t. s.domain ≢ t.domain → DoSidesDiffer s t) w.domains w.domains (λ r q is iq. (conform g rules options chosen r q h can is iq).differ) runs runs;
      unhung = each_two g rules options chosen NoneHangs w.domains w.domains (λ r q is iq. (conform g rules options chosen r q h can is iq).unhung) runs runs;
    }
