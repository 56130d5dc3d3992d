use Rattle.std.proofs.Common.{◌≡◌, ℕ, ℤ, Bool, pos, Option, Some, List, All, AllPairs, IfSome, IfNone, sym, ◌∙◌, subst}
use Rattle.std.proofs.lemmas.List.Elements.{All-filter}
use Rattle.std.proofs.lemmas.List.Kept.{AllPairs-filter}
use Rattle.geom_check.specs.declared.risers.Riser.{Riser}
use Rattle.grid_geom.specs.declared.Edge.{Edge}
use Rattle.geom_check.specs.declared.risers.Passing.{Passing}
use Rattle.geom_check.specs.declared.strips.Strip.{Strip}
use Rattle.geom_check.specs.Risers.{is_chosen, winding_of}
use Rattle.geom_check.specs.RiserOrder.{IsRiserOnGrid, IsPassing, IsFree, IsLowestFault, IsSoundAll, HasLevels, far, is_border}
use Rattle.geom_check.specs.Gaps.{HasEnd}
use Rattle.geom_check.proofs.Borders.{sound_borders, winding_borders}
use Rattle.geom_check.proofs.FirstFaults.{borders_of, AreGiven, IsFaultAt, fault_at, left_passing, left_among, end_of_fault}
use Rattle.geom_check.proofs.RiserMiddles.{grid_at}
use Rattle.geom_check.proofs.FirstWitness.{witness_of}
use Rattle.geom_check.proofs.gaps.first_fault.Goals as goal

pub lowest_fault-requires-clause-levels : goal.lowest_fault-requires-clause-levels
lowest_fault-requires-clause-levels c = subst (λ (rs : List Riser). All (HasLevels c.args.levels.now) rs) (sym (c.deref.ensures.value ∙ c.in_ok-borders.ensures)) (All-filter (is_border (is_chosen c.args.chosen)) (HasLevels c.args.levels.now) c.args.risers.now c.requires.levels)

pub lowest_fault-requires-clause-risers : goal.lowest_fault-requires-clause-risers
lowest_fault-requires-clause-risers c = subst (λ (rs : List Riser). All IsRiserOnGrid rs) (sym (c.deref.ensures.value ∙ c.in_ok-borders.ensures)) (All-filter (is_border (is_chosen c.args.chosen)) IsRiserOnGrid c.args.risers.now c.requires.risers)

pub lowest_fault-requires-clause-free : goal.lowest_fault-requires-clause-free
lowest_fault-requires-clause-free c = subst (λ (rs : List Riser). AllPairs IsFree rs) (sym (c.deref.ensures.value ∙ c.in_ok-borders.ensures)) (AllPairs-filter IsFree (is_border (is_chosen c.args.chosen)) c.args.risers.now c.requires.free)

pub lowest_fault-requires-clause-balanced : goal.lowest_fault-requires-clause-balanced
lowest_fault-requires-clause-balanced c = subst (λ (rs : List Riser). (y : ℤ) → winding_of (is_chosen c.args.chosen) (far y) rs ≡ pos 0) (sym (c.deref.ensures.value ∙ c.in_ok-borders.ensures)) (λ y. winding_borders (is_chosen c.args.chosen) (far y) c.args.risers.now ∙ c.requires.balanced y)

-- the fault that was found
found : (levels : List ℕ) (chosen : ℕ → Bool) (rs bs : List Riser) (o : Option (Strip × Passing)) (strip : Strip) (left : Passing) → bs ≡ borders_of chosen rs → o ≡ Some (strip, left) → IfSome o (λ fault. IsLowestFault levels chosen bs fault.0 fault.1) →
    IsLowestFault levels chosen (borders_of chosen rs) strip left
found levels chosen rs bs o strip left e f h = subst (λ (xs : List Riser). IsLowestFault levels chosen xs strip left) e (subst (λ (p : Option (Strip × Passing)). IfSome p (λ fault. IsLowestFault levels chosen bs fault.0 fault.1)) f h)

fault : (edges : List Edge) (levels : List ℕ) (chosen : ℕ → Bool) (rs : List Riser) (strip : Strip) (left : Passing) → AreGiven edges levels chosen rs → IsLowestFault levels chosen (borders_of chosen rs) strip left →
    IsRiserOnGrid left.riser × IsPassing strip.low strip.high left.riser × HasEnd strip.low strip.high rs left
fault edges levels chosen rs strip left given f =
    let at : IsFaultAt strip.low strip.high chosen rs f.fault.items f.fault.place left = fault_at edges levels chosen rs strip left given f in
    (grid_at rs left.riser given.grid (left_among strip.low strip.high chosen rs f.fault.items f.fault.place left at), left_passing strip.low strip.high chosen rs f.fault.items f.fault.place left at, end_of_fault strip.low strip.high chosen rs f.fault.items f.fault.place left at)

pub gap_middle-requires-clause-left : goal.gap_middle-requires-clause-left
gap_middle-requires-clause-left c =
    (fault c.args.edges.now c.args.levels.now (is_chosen c.args.chosen) c.args.risers.now c.in-Some.strip c.in-Some.left
    (record { increasing = c.requires.increasing; heights = c.requires.heights; levels_of = c.requires.levels; grid = c.requires.risers; of_edges = c.requires.of_edges; balance = c.requires.balanced })
    (found c.args.levels.now (is_chosen c.args.chosen) c.args.risers.now c.deref.result.now c.in_ok-strip.field-0 c.in-Some.strip c.in-Some.left (c.deref.ensures.value ∙ c.in_ok-borders.ensures) c.in-Some.is c.in_ok-strip.ensures.found)).0

pub gap_middle-requires-clause-passing : goal.gap_middle-requires-clause-passing
gap_middle-requires-clause-passing c =
    (fault c.args.edges.now c.args.levels.now (is_chosen c.args.chosen) c.args.risers.now c.in-Some.strip c.in-Some.left
    (record { increasing = c.requires.increasing; heights = c.requires.heights; levels_of = c.requires.levels; grid = c.requires.risers; of_edges = c.requires.of_edges; balance = c.requires.balanced })
    (found c.args.levels.now (is_chosen c.args.chosen) c.args.risers.now c.deref.result.now c.in_ok-strip.field-0 c.in-Some.strip c.in-Some.left (c.deref.ensures.value ∙ c.in_ok-borders.ensures) c.in-Some.is c.in_ok-strip.ensures.found)).1

pub gap_middle-requires-clause-end : goal.gap_middle-requires-clause-end
gap_middle-requires-clause-end c =
    (fault c.args.edges.now c.args.levels.now (is_chosen c.args.chosen) c.args.risers.now c.in-Some.strip c.in-Some.left
    (record { increasing = c.requires.increasing; heights = c.requires.heights; levels_of = c.requires.levels; grid = c.requires.risers; of_edges = c.requires.of_edges; balance = c.requires.balanced })
    (found c.args.levels.now (is_chosen c.args.chosen) c.args.risers.now c.deref.result.now c.in_ok-strip.field-0 c.in-Some.strip c.in-Some.left (c.deref.ensures.value ∙ c.in_ok-borders.ensures) c.in-Some.is c.in_ok-strip.ensures.found)).2

pub returns-in-Some-clause-found : goal.returns-in-Some-clause-found
returns-in-Some-clause-found c =
    witness_of c.args.edges.now c.args.levels.now (is_chosen c.args.chosen) c.args.risers.now c.in-Some.strip c.in-Some.left c.gap_middle.result
    (record { increasing = c.requires.increasing; heights = c.requires.heights; levels_of = c.requires.levels; grid = c.requires.risers; of_edges = c.requires.of_edges; balance = c.requires.balanced })
    (found c.args.levels.now (is_chosen c.args.chosen) c.args.risers.now c.deref.result.now c.in_ok-strip.field-0 c.in-Some.strip c.in-Some.left (c.deref.ensures.value ∙ c.in_ok-borders.ensures) c.in-Some.is c.in_ok-strip.ensures.found)
    c.gap_middle.ensures

pub returns-clause-none : goal.returns-clause-none
returns-clause-none c = sound_borders (is_chosen c.args.chosen) c.args.risers.now (subst (λ (rs : List Riser). IsSoundAll (is_chosen c.args.chosen) rs) (c.deref.ensures.value ∙ c.in_ok-borders.ensures)
    (subst (λ o. IfNone o (IsSoundAll (is_chosen c.args.chosen) c.deref.result.now)) c.in-None.is c.in_ok-strip.ensures.none))
