use Rattle.std.proofs.Common.{◌≡◌, ◌∙◌, sym, subst, refl, arith, ℕ, ℤ, Bool, false, ◌==◌, pos, ◌<◌, ◌≤◌, List, length, All, AllPairs, Some, None, IfSome, IfNone}
use Rattle.grid_geom.specs.declared.Edge.{Edge}
use Rattle.grid_geom.specs.declared.Point.{Point}
use Rattle.grid_geom.specs.Bounds.{IsOnGrid}
use Rattle.geom_check.specs.declared.kinds.Segment.{Segment}
use Rattle.geom_check.specs.Boundary.{IsSegmentOf}
use Rattle.geom_check.specs.declared.risers.Riser.{Riser}
use Rattle.geom_check.specs.Accepted.{IsZeroOrOne, AreClosed, WindsAtMostOnce}
use Rattle.wind_law.specs.Grid.{IsEdgeOnGrid}
use Rattle.geom_check.specs.Risers.{is_chosen, winding_of, risers_of}
use Rattle.geom_check.specs.RiserOrder.{IsRiserOnGrid, IsFree, IsRising, IsSoundAll, HasLevels, IsLevelsOf, far}
use Rattle.geom_check.specs.Strips.{IsWitness}
use Rattle.geom_check.proofs.EdgesTurned.{edges_on_grid, risers_on_grid, risers_have_levels, risers_apart, risers_of_edges, risers_go_up}
use Rattle.geom_check.proofs.FarLeft.{far_from_domain, far_from_all}
use Rattle.geom_check.proofs.Overlaps.{all_sides, none_overlap, least_side, overlap_at}
use Rattle.geom_check.proofs.windings.check_windings.Goals as goal
use Rattle.geom_check.specs.declared.limits.TheConstants.{MOST_DOMAINS}

pub levels-requires-clause-on_grid : goal.levels-requires-clause-on_grid
levels-requires-clause-on_grid c = subst (λ (es : List Edge). All IsEdgeOnGrid es) (sym c.requires.edges) (edges_on_grid c.args.points.now c.args.segments.now c.requires.on_grid c.requires.joined)

pub are_sound-requires-clause-levels : goal.are_sound-requires-clause-levels
are_sound-requires-clause-levels c =
    let heights : IsLevelsOf c.args.edges.now (length c.args.edges.now) c.deref.result.now = subst (λ (ns : List ℕ). IsLevelsOf c.args.edges.now (length c.args.edges.now) ns) (sym c.deref.ensures.value) c.in_ok-levels.ensures.levels in
    subst (λ (rs : List Riser). All (HasLevels c.deref.result.now) rs) (sym (c.deref-2.ensures.value ∙ c.in_ok-risers.ensures)) (risers_have_levels c.args.points.now c.args.segments.now c.args.edges.now c.deref.result.now c.requires.on_grid c.requires.joined c.requires.edges heights)

pub are_sound-requires-clause-risers : goal.are_sound-requires-clause-risers
are_sound-requires-clause-risers c = subst (λ (rs : List Riser). All IsRiserOnGrid rs) (sym (c.deref-2.ensures.value ∙ c.in_ok-risers.ensures)) (risers_on_grid c.args.points.now c.args.segments.now c.requires.on_grid c.requires.joined)

pub are_sound-requires-clause-free : goal.are_sound-requires-clause-free
are_sound-requires-clause-free c = subst (λ (rs : List Riser). AllPairs IsFree rs) (sym (c.deref-2.ensures.value ∙ c.in_ok-risers.ensures)) (risers_apart c.args.points.now c.args.segments.now c.args.edges.now c.requires.places c.requires.joined c.requires.ends c.requires.edges c.requires.apart)

pub are_sound-requires-clause-rising : goal.are_sound-requires-clause-rising
are_sound-requires-clause-rising c = subst (λ (rs : List Riser). All IsRising rs) (sym (c.deref-2.ensures.value ∙ c.in_ok-risers.ensures)) (risers_go_up c.args.points.now c.args.segments.now)

-- what the walk finds sound winds round each place once or not at all
side_by_walk : (points : List Point) (ss : List Segment) (rs : List Riser) → All IsOnGrid points → All (IsSegmentOf (length points)) ss → AreClosed points ss → rs ≡ risers_of points ss →
    ((chosen : ℕ → Bool) → chosen 0 ≡ false → ((y : ℤ) → winding_of chosen (far y) rs ≡ pos 0) → IsSoundAll chosen rs) → (d : ℕ) → 0 < d → WindsAtMostOnce points ss d
side_by_walk points ss rs grid joined closed e sound = all_sides points ss rs joined e (λ d h k. sound (is_chosen (Some d)) (apart d h) (λ y. subst (λ (xs : List Riser). winding_of (is_chosen (Some d)) (far y) xs ≡ pos 0) (sym e) (far_from_domain points d ss y grid joined (closed d h))))
  where
    apart : (d : ℕ) → 0 < d → (0 == d) ≡ false
    apart d h = grind arith

pub returns-then-branch-clause-winding : goal.returns-then-branch-clause-winding
returns-then-branch-clause-winding c = side_by_walk c.args.points.now c.args.segments.now c.deref-2.result.now c.requires.on_grid c.requires.joined c.requires.closed (c.deref-2.ensures.value ∙ c.in_ok-risers.ensures) (c.in_ok-are_sound.ensures.sound c.if-branch.true)

pub returns-then-branch-clause-separate : goal.returns-then-branch-clause-separate
returns-then-branch-clause-separate c = none_overlap c.args.points.now c.args.segments.now c.deref-2.result.now c.requires.joined (c.deref-2.ensures.value ∙ c.in_ok-risers.ensures)
    (side_by_walk c.args.points.now c.args.segments.now c.deref-2.result.now c.requires.on_grid c.requires.joined c.requires.closed (c.deref-2.ensures.value ∙ c.in_ok-risers.ensures) (c.in_ok-are_sound.ensures.sound c.if-branch.true))
    (c.in_ok-are_sound.ensures.sound c.if-branch.true (is_chosen None) refl (λ y. subst (λ (rs : List Riser). winding_of (is_chosen None) (far y) rs ≡ pos 0) (sym (c.deref-2.ensures.value ∙ c.in_ok-risers.ensures)) (far_from_all c.args.points.now c.args.segments.now y c.requires.on_grid c.requires.joined c.requires.closed)))

pub first_side-requires-clause-levels : goal.first_side-requires-clause-levels
first_side-requires-clause-levels c =
    let heights : IsLevelsOf c.args.edges.now (length c.args.edges.now) c.deref-3.result.now = subst (λ (ns : List ℕ). IsLevelsOf c.args.edges.now (length c.args.edges.now) ns) (sym c.deref-3.ensures.value) c.in_ok-levels.ensures.levels in
    subst (λ (rs : List Riser). All (HasLevels c.deref-3.result.now) rs) (sym (c.deref-4.ensures.value ∙ c.in_ok-risers.ensures)) (risers_have_levels c.args.points.now c.args.segments.now c.args.edges.now c.deref-3.result.now c.requires.on_grid c.requires.joined c.requires.edges heights)

pub first_side-requires-clause-risers : goal.first_side-requires-clause-risers
first_side-requires-clause-risers c = subst (λ (rs : List Riser). All IsRiserOnGrid rs) (sym (c.deref-4.ensures.value ∙ c.in_ok-risers.ensures)) (risers_on_grid c.args.points.now c.args.segments.now c.requires.on_grid c.requires.joined)

pub first_side-requires-clause-free : goal.first_side-requires-clause-free
first_side-requires-clause-free c = subst (λ (rs : List Riser). AllPairs IsFree rs) (sym (c.deref-4.ensures.value ∙ c.in_ok-risers.ensures)) (risers_apart c.args.points.now c.args.segments.now c.args.edges.now c.requires.places c.requires.joined c.requires.ends c.requires.edges c.requires.apart)

pub first_side-requires-clause-of_edges : goal.first_side-requires-clause-of_edges
first_side-requires-clause-of_edges c = risers_of_edges c.args.points.now c.args.segments.now c.args.edges.now c.deref-4.result.now c.requires.edges (c.deref-4.ensures.value ∙ c.in_ok-risers.ensures)

pub first_side-requires-clause-balanced : goal.first_side-requires-clause-balanced
first_side-requires-clause-balanced c d y h =
    subst (λ (rs : List Riser). winding_of (is_chosen (Some d)) (far y) rs ≡ pos 0) (sym (c.deref-4.ensures.value ∙ c.in_ok-risers.ensures)) (far_from_domain c.args.points.now d c.args.segments.now y c.requires.on_grid c.requires.joined (c.requires.closed d h))

pub returns-in-Some-clause-refused : goal.returns-in-Some-clause-refused
returns-in-Some-clause-refused c =
    least_side c.args.points.now c.args.segments.now c.args.edges.now c.deref-4.result.now c.in-Some.domain c.in-Some.at c.requires.edges (c.deref-4.ensures.value ∙ c.in_ok-risers.ensures) (subst (λ o. IfSome o (λ side. 0 < side.0)) c.in-Some.is c.in_ok-domain.ensures.positive)
    (subst (λ o. IfSome o (λ side. IsWitness (λ q. ¬ (IsZeroOrOne (winding_of (is_chosen (Some side.0)) q c.deref-4.result.now))) c.args.edges.now side.1)) c.in-Some.is c.in_ok-domain.ensures.found)
    (subst (λ o. IfSome o (λ side. (d : ℕ) → 0 < d → d < side.0 → IsSoundAll (is_chosen (Some d)) c.deref-4.result.now)) c.in-Some.is c.in_ok-domain.ensures.least)

pub first_fault-requires-clause-levels : goal.first_fault-requires-clause-levels
first_fault-requires-clause-levels c =
    let heights : IsLevelsOf c.args.edges.now (length c.args.edges.now) c.deref-5.result.now = subst (λ (ns : List ℕ). IsLevelsOf c.args.edges.now (length c.args.edges.now) ns) (sym c.deref-5.ensures.value) c.in_ok-levels.ensures.levels in
    subst (λ (rs : List Riser). All (HasLevels c.deref-5.result.now) rs) (sym (c.deref-6.ensures.value ∙ c.in_ok-risers.ensures)) (risers_have_levels c.args.points.now c.args.segments.now c.args.edges.now c.deref-5.result.now c.requires.on_grid c.requires.joined c.requires.edges heights)

pub first_fault-requires-clause-risers : goal.first_fault-requires-clause-risers
first_fault-requires-clause-risers c = subst (λ (rs : List Riser). All IsRiserOnGrid rs) (sym (c.deref-6.ensures.value ∙ c.in_ok-risers.ensures)) (risers_on_grid c.args.points.now c.args.segments.now c.requires.on_grid c.requires.joined)

pub first_fault-requires-clause-free : goal.first_fault-requires-clause-free
first_fault-requires-clause-free c = subst (λ (rs : List Riser). AllPairs IsFree rs) (sym (c.deref-6.ensures.value ∙ c.in_ok-risers.ensures)) (risers_apart c.args.points.now c.args.segments.now c.args.edges.now c.requires.places c.requires.joined c.requires.ends c.requires.edges c.requires.apart)

pub first_fault-requires-clause-of_edges : goal.first_fault-requires-clause-of_edges
first_fault-requires-clause-of_edges c = risers_of_edges c.args.points.now c.args.segments.now c.args.edges.now c.deref-6.result.now c.requires.edges (c.deref-6.ensures.value ∙ c.in_ok-risers.ensures)

pub first_fault-requires-clause-balanced : goal.first_fault-requires-clause-balanced
first_fault-requires-clause-balanced c y =
    subst (λ (rs : List Riser). winding_of (is_chosen None) (far y) rs ≡ pos 0) (sym (c.deref-6.ensures.value ∙ c.in_ok-risers.ensures)) (far_from_all c.args.points.now c.args.segments.now y c.requires.on_grid c.requires.joined c.requires.closed)

pub returns-in-Some-2-clause-refused : goal.returns-in-Some-2-clause-refused
returns-in-Some-2-clause-refused c =
    let sides : (d : ℕ) → 0 < d → WindsAtMostOnce c.args.points.now c.args.segments.now d = all_sides c.args.points.now c.args.segments.now c.deref-4.result.now c.requires.joined (c.deref-4.ensures.value ∙ c.in_ok-risers.ensures) (subst (λ o. IfNone o ((d : ℕ) → 0 < d → d ≤ MOST_DOMAINS → IsSoundAll (is_chosen (Some d)) c.deref-4.result.now)) c.in_default.is c.in_ok-domain.ensures.none) in (
      sides,
      overlap_at c.args.points.now c.args.segments.now c.args.edges.now c.deref-6.result.now c.in-Some-2.at c.requires.joined c.requires.edges (c.deref-6.ensures.value ∙ c.in_ok-risers.ensures) sides
          (subst (λ o. IfSome o (IsWitness (λ q. ¬ (IsZeroOrOne (winding_of (is_chosen None) q c.deref-6.result.now))) c.args.edges.now)) c.in-Some-2.is c.in_ok-at.ensures.found),
    )

pub returns-clause-winding : goal.returns-clause-winding
returns-clause-winding c = all_sides c.args.points.now c.args.segments.now c.deref-4.result.now c.requires.joined (c.deref-4.ensures.value ∙ c.in_ok-risers.ensures) (subst (λ o. IfNone o ((d : ℕ) → 0 < d → d ≤ MOST_DOMAINS → IsSoundAll (is_chosen (Some d)) c.deref-4.result.now)) c.in_default.is c.in_ok-domain.ensures.none)

pub returns-clause-separate : goal.returns-clause-separate
returns-clause-separate c = none_overlap c.args.points.now c.args.segments.now c.deref-6.result.now c.requires.joined (c.deref-6.ensures.value ∙ c.in_ok-risers.ensures)
    (all_sides c.args.points.now c.args.segments.now c.deref-4.result.now c.requires.joined (c.deref-4.ensures.value ∙ c.in_ok-risers.ensures) (subst (λ o. IfNone o ((d : ℕ) → 0 < d → d ≤ MOST_DOMAINS → IsSoundAll (is_chosen (Some d)) c.deref-4.result.now)) c.in_default.is c.in_ok-domain.ensures.none))
    (subst (λ o. IfNone o (IsSoundAll (is_chosen None) c.deref-6.result.now)) c.in-None.is c.in_ok-at.ensures.none)
