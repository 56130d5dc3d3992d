-- The run of a domain before its first application.
use Rattle.std.proofs.Common.{◌≡◌, ℕ, ◌+◌, ◌<◌, ◌≤◌, List, [], length, take, slice_index_or, refl, sym, ap, ◌∙◌, subst, arith, None}
use Rattle.std.specs.List.{All, Contains}
use Rattle.std.proofs.lemmas.List.Elements.{All-nil, All-contains}
use Rattle.std.proofs.Math.Seq.{take-length}
use Rattle.grid_geom.specs.declared.Point.{Point}
use Rattle.geom_check.specs.declared.kinds.Segment.{Segment}
use Rattle.geom_check.specs.Domains.{domain_numbers, IsDomain}
use Rattle.geom_check.specs.Geometry.{PlanarMap, IsGeometry}
use Rattle.geom_check.proofs.DomainNumbers.{numbers_within}
use Rattle.size_field.specs.declared.pieces.Piece.{Piece}
use Rattle.size_field.specs.Fields.{field_after}
use Rattle.rule_match.specs.declared.application.Application.{Application}
use Rattle.front_chain.specs.Front.{numbered_from, IsOpening}
use Rattle.mesh_run.specs.declared.Options.{Options}
use Rattle.mesh_run.specs.Boundary.{IsNumberTo}
use Rattle.mesh_run.specs.Opening.{domain_points, opening_lines, front_from}
use Rattle.mesh_run.specs.Runs.{pieces_by, opening_of, setting_of}
use Rattle.mesh_run.specs.RunState.{RunParts, IsRunState, AreOptions, elements_made, run_of, opened_run, setting_by}
use Rattle.mesh_run.specs.Remembered.{AreCovering, AreTrue, DoesRemember, IsEmpty}
use Rattle.mesh_run.specs.Steps.{RunSetting}
use Rattle.state_law.specs.State.{State}
use Rattle.digital_tree.specs.declared.Entry.{Entry}
use Rattle.mesh_run.specs.declared.refusals.Refusals.{Refusals}
use Rattle.mesh_run.specs.declared.refusals.Region.{Region}
use Rattle.std.proofs.lemmas.List.{get_or_past}
use Rattle.mesh_run.proofs.Begun.{begun, same_front}

-- a domain's number is above 0
pub above_zero : (g : PlanarMap) (d : ℕ) → IsGeometry g → Contains (domain_numbers g.segments) d → 0 < d
above_zero g d h c = (All-contains IsDomain (domain_numbers g.segments) d (numbers_within _ g.segments h.joined) c).0

-- so a front may be opened with its points and lines
pub may_open : (g : PlanarMap) (options : Options) (d : ℕ) → IsGeometry g → Contains (domain_numbers g.segments) d
    → IsOpening (domain_points d g.segments (pieces_by g options)) (opening_lines d g.segments (pieces_by g options))
may_open g options d h c = begun g options.greatest options.grading d h (above_zero g d h c)

-- these parts are those of a domain's run at its opening
pub record AreOpened (g : PlanarMap) (p : RunParts) : Type 0 where
  pub sizes : p.sizes ≡ (setting_of g p.rules p.options p.domain).sizes
  pub opened : p.opened ≡ length (opening_of g p.options p.domain).points
  pub lines : p.lines ≡ opening_lines p.domain g.segments (pieces_by g p.options)
  pub points : p.front.points ≡ (opening_of g p.options p.domain).points
  pub front : p.front.lines ≡ numbered_from 1 (opening_lines p.domain g.segments (pieces_by g p.options))
  pub next : p.front.next ≡ (opening_of g p.options p.domain).next
  pub applications : p.applications ≡ []

pub opened_is : (g : PlanarMap) (p : RunParts) → AreOpened g p → run_of p ≡ opened_run g p.rules p.options p.domain
opened_is g p h =
    let points : take p.opened p.front.points ≡ (opening_of g p.options p.domain).points = (λ i. take (h.opened i) (h.points i)) ∙ take-length (opening_of g p.options p.domain).points in
    let front : p.front.lines ≡ (opening_of g p.options p.domain).front = h.front ∙ sym (same_front 1 (opening_lines p.domain g.segments (pieces_by g p.options))) in
    λ i. record {
      basis = record {
        domain = p.domain;
        options = p.options;
        sizes = h.sizes i;
        rules = p.rules;
        opened = h.opened i;
        lines = h.lines i;
        opening = record { points = points i; front = front_from 1 (h.lines i); next = 1 + length (h.lines i); elements = [] };
      };
      applications = h.applications i;
      state = record { points = h.points i; front = front i; next = h.next i; elements = elements_made (h.applications i) };
    }

pub opened_holds : (g : PlanarMap) (p : RunParts) → AreOpened g p → AreOptions p.options → IsRunState (run_of p)
opened_holds g p h options = subst IsRunState (sym (opened_is g p h)) (record {
  options = options;
  opened = refl;
  next_ones = tt;
  reached = refl;
  grows = level (length (opening_of g p.options p.domain).points);
  names = All-nil (λ (a : Application). All (All (IsNumberTo (length (opening_of g p.options p.domain).points))) a.elements);
})
  where
    level : (n : ℕ) → n ≤ n
    level n = omega arith

-- where nothing is remembered, what is remembered is true of any state
pub nothing_true : (s : RunSetting) (st : State) (reaches : List ℕ) (m : Refusals) → AreCovering s.rules reaches → IsEmpty reaches m → AreTrue m s st
nothing_true s st reaches m covers e = record {
  remembered = record { none = λ line class f l. absurd (nothing line class l) };
  covers = subst (AreCovering s.rules) (sym e.reaches_are) covers;
  reaching = record { given = λ line l. absurd (nothing line 0 l); regions = λ line class c f l. absurd (nothing line.0 class l); own = λ x c. absurd (no_entry x c) };
  noted = record { refused = λ line class held f l has on. absurd (nothing line class l) };
}
  where
    empty : (line class : ℕ) → class < slice_index_or [] line 0 → ⊥
    empty line class l = let z = get_or_past {X = ℕ} [] line 0 (omega arith) in omega (arith, l, z)

    no_entry : (x : Entry Region) → Contains m.regions.entries x → ⊥
    no_entry x c = let there = subst (λ (es : List (Entry Region)). Contains es x) e.no_regions c in let w = there.1 in omega (arith, w)

    nothing : (line class : ℕ) → class < slice_index_or m.least.items line 0 → ⊥
    nothing line class l = empty line class (subst (λ (table : List ℕ). class < slice_index_or table line 0) e.nothing l)

-- so it is at the opening
pub opened_remembers : (g : PlanarMap) (p : RunParts) (reaches : List ℕ) (m : Refusals) → AreOpened g p → AreOptions p.options → AreCovering p.rules reaches → IsEmpty reaches m → DoesRemember (run_of p) m None
opened_remembers g p reaches m h options covers e = record {
  is_run = opened_holds g p h options;
  remembered = nothing_true (setting_by (run_of p).basis) (run_of p).state reaches m covers e;
  to_try = tt;
}

-- the parts as they are made: of segments and pieces, and of the points and lines of the opening
pub record AreSetUp (g : PlanarMap) (p : RunParts) (segments : List Segment) (pieces : List Piece) (points : List Point) : Type 0 where
  pub of_segments : segments ≡ g.segments
  pub of_pieces : pieces ≡ pieces_by g p.options
  pub of_points : points ≡ domain_points p.domain segments pieces
  pub opened : p.opened ≡ length points
  pub lines : p.lines ≡ opening_lines p.domain segments pieces
  pub front_points : p.front.points ≡ points
  pub front_lines : p.front.lines ≡ numbered_from 1 p.lines
  pub front_next : p.front.next ≡ 1 + length p.lines
  pub sizes : p.sizes ≡ field_after g pieces p.domain p.options.greatest p.options.grading
  pub applications : p.applications ≡ []

pub set_up : (g : PlanarMap) (p : RunParts) (segments : List Segment) (pieces : List Piece) (points : List Point) → AreSetUp g p segments pieces points → AreOpened g p
set_up g p segments pieces points h =
    let points_at : points ≡ (opening_of g p.options p.domain).points = h.of_points ∙ (λ i. domain_points p.domain (h.of_segments i) (h.of_pieces i)) in
    let lines_at : p.lines ≡ opening_lines p.domain g.segments (pieces_by g p.options) = h.lines ∙ (λ i. opening_lines p.domain (h.of_segments i) (h.of_pieces i)) in
    record {
      sizes = h.sizes ∙ ap (λ (ps : List Piece). field_after g ps p.domain p.options.greatest p.options.grading) h.of_pieces;
      opened = h.opened ∙ ap length points_at;
      lines = lines_at;
      points = h.front_points ∙ points_at;
      front = h.front_lines ∙ ap (numbered_from 1) lines_at;
      next = h.front_next ∙ ap (λ (lines : List (ℕ × ℕ)). 1 + length lines) lines_at;
      applications = h.applications;
    }
