-- Each number that a run by rules names is one of its points: of elements at the time when they are made, and points are never taken away.
use Rattle.std.proofs.Common.{◌≡◌, ℕ, ◌<◌, ◌≤◌, List, [], ◌∷◌, ◌++◌, length, sym, ap, subst, arith, length-append}
use Rattle.std.specs.List.{All, AllByRecursion, AllZip}
use Rattle.std.proofs.lemmas.List.Elements.{All-from_recursion, recursion_from_All}
use Rattle.grid_geom.specs.declared.Edge.{Edge}
use Rattle.grid_geom.specs.Bounds.{IsOnGrid}
use Rattle.geom_check.specs.Domains.{domain_numbers, IsDomain}
use Rattle.geom_check.specs.Geometry.{PlanarMap, IsGeometry}
use Rattle.geom_check.proofs.DomainNumbers.{numbers_within}
use Rattle.state_law.specs.State.{State, IsListed}
use Rattle.state_law.proofs.Lists.{all_map}
use Rattle.size_field.specs.Boundary.{piece_boundary}
use Rattle.admission.proofs.Order.{same_points}
use Rattle.rule_reader.specs.declared.rule.Rule.{Rule}
use Rattle.rule_reader.specs.Normal.{CanPrint}
use Rattle.rule_match.specs.declared.application.Application.{Application}
use Rattle.mesh_run.specs.declared.Options.{Options}
use Rattle.mesh_run.specs.declared.WholeRun.{WholeRun}
use Rattle.mesh_run.specs.declared.domain_run.DomainRun.{DomainRun}
use Rattle.mesh_run.specs.Boundary.{IsNumberTo}
use Rattle.mesh_run.specs.Mesh.{NamesItsPoints}
use Rattle.mesh_run.specs.Opening.{FrontJoins}
use Rattle.mesh_run.specs.Reached.{IsReached}
use Rattle.mesh_run.specs.Runs.{opening_of, pieces_by, setting_of, IsDomainRun, IsWholeRun}
use Rattle.mesh_run.specs.Steps.{RunSetting, AreNext, applied, state_after, with_points}
use Rattle.mesh_run.proofs.Covered.{may_next, reached_state}
use Rattle.mesh_run.proofs.Steps.{reached_after, reached_opening}

-- an application lists its new points, and takes none away
count_after : (st : State) (a : Application) → length (applied st a).points ≡ length (st.points ++ a.made)
count_after st a = ap length (same_points (with_points st a.made) a.elements)

grows : (st : State) (more : List Application) → length st.points ≤ length (state_after st more).points
grows st [] = omega arith
grows st (a ∷ more) = omega (arith, count_after st a, length-append st.points a.made, grows (applied st a) more)

-- the corners of elements are listed
abbrev pub AreCorners : ℕ → List Application → Type 0
AreCorners n applications = AllByRecursion (λ a. AllByRecursion (λ ns. AllByRecursion (IsListed n) ns) a.elements) applications

pub corners_named : (b : List Edge) (s : RunSetting) (st : State) (more : List Application) → IsReached b st → CanPrint s.rules → AreNext s st more → AreCorners (length (state_after st more).points) more
corners_named b s st [] r can n = tt
corners_named b s st (a ∷ more) r can n =
    let may = may_next b s st a r can n.0 in let after = applied st a in
    let wider : (k : ℕ) → IsListed (length (st.points ++ a.made)) k → IsListed (length (state_after after more).points) k = λ k l. (l.0, omega (arith, l.1, count_after st a, grows after more)) in (
      all_map (λ ns. AllByRecursion (IsListed (length (st.points ++ a.made))) ns) (λ ns. AllByRecursion (IsListed (length (state_after after more).points)) ns) (λ ns l. all_map _ _ wider ns l) a.elements may.listed,
      corners_named b s after more (reached_after b st a r may) can n.1,
    )

-- as mesh_of asks for them
numbers_of : (n : ℕ) (ns : List ℕ) → AllByRecursion (IsListed n) ns → All (IsNumberTo n) ns
numbers_of n ns h = All-from_recursion (IsNumberTo n) ns (all_map (IsListed n) (IsNumberTo n) (λ k l. record { first = l.0; last = l.1 }) ns h)

elements_of : (n : ℕ) (els : List (List ℕ)) → AllByRecursion (λ ns. AllByRecursion (IsListed n) ns) els → All (All (IsNumberTo n)) els
elements_of n els h = All-from_recursion (All (IsNumberTo n)) els (all_map (λ ns. AllByRecursion (IsListed n) ns) (All (IsNumberTo n)) (numbers_of n) els h)

all_corners : (n : ℕ) (applications : List Application) → AreCorners n applications → All (λ a. All (All (IsNumberTo n)) a.elements) applications
all_corners n applications h =
    All-from_recursion (λ (a : Application). All (All (IsNumberTo n)) a.elements) applications
    (all_map (λ (a : Application). AllByRecursion (λ ns. AllByRecursion (IsListed n) ns) a.elements) (λ (a : Application). All (All (IsNumberTo n)) a.elements) (λ a. elements_of n a.elements) applications h)

-- what a domain's run names
pub record AreNamed (r : DomainRun) : Type 0 where
  pub names : NamesItsPoints r
  pub front : All (FrontJoins (length r.points)) r.front
  pub on_grid : All IsOnGrid r.points

pub run_named : (g : PlanarMap) (rules : List Rule) (options : Options) (d : ℕ) (r : DomainRun) → IsGeometry g → 0 < d → CanPrint rules → IsDomainRun g rules options d r → AreNamed r
run_named g rules options d r h above can run =
    let b = piece_boundary d g.segments (pieces_by g options) in let s = setting_of g rules options d in let st = opening_of g options d in
    let last = state_after st r.applications in
    let opened = reached_opening g options.greatest options.grading d h above in
    let reached = reached_state b s st r.applications opened can run.next_ones in
    let count : length last.points ≡ length r.points = ap length (sym run.points) in
    record {
      names = record {
        opened = omega (arith, run.opened, grows st r.applications, count);
        corners = subst (λ (n : ℕ). All (λ (a : Application). All (All (IsNumberTo n)) a.elements) r.applications) count (all_corners (length last.points) r.applications (corners_named b s st r.applications opened can run.next_ones));
      };
      front = subst (λ (n : ℕ). All (FrontJoins n) r.front) count (subst (λ (lines : List (ℕ × ℕ × ℕ)). All (FrontJoins (length last.points)) lines) (sym run.front)
          (All-from_recursion (FrontJoins (length last.points)) last.front
          (all_map (λ (line : ℕ × ℕ × ℕ). IsListed (length last.points) line.1 × IsListed (length last.points) line.2) (FrontJoins (length last.points))
          (λ line l. record { from = record { first = l.0.0; last = l.0.1 }; to = record { first = l.1.0; last = l.1.1 } }) last.front reached.numbered.lines_listed)));
      on_grid = subst (All IsOnGrid) (sym run.points) reached.on_grid;
    }

all_named : (g : PlanarMap) (rules : List Rule) (options : Options) (ds : List ℕ) (rs : List DomainRun) → IsGeometry g → CanPrint rules → AllByRecursion IsDomain ds → AllZip (IsDomainRun g rules options) ds rs → AllByRecursion NamesItsPoints rs
all_named g rules options [] [] h can above runs = tt
all_named g rules options [] (r ∷ rs) h can above runs = absurd runs
all_named g rules options (d ∷ ds) [] h can above runs = absurd runs
all_named g rules options (d ∷ ds) (r ∷ rs) h can above runs = ((run_named g rules options d r h above.0.0 can runs.0).names, all_named g rules options ds rs h can above.1 runs.1)

pub runs_named : (g : PlanarMap) (rules : List Rule) (options : Options) (w : WholeRun) → IsGeometry g → CanPrint rules → IsWholeRun g rules options w → All NamesItsPoints w.domains
runs_named g rules options w h can run =
    All-from_recursion NamesItsPoints w.domains (all_named g rules options (domain_numbers g.segments) w.domains h can (recursion_from_All IsDomain (domain_numbers g.segments) (numbers_within _ g.segments h.joined)) run.domains)
