-- The risers of a geometry: on the grid, between its levels, without common inner points, and each an edge turned upwards.
use Rattle.std.proofs.Common.{◌≡◌, ◌≢◌, ℕ, zero, suc, ◌-◌, ◌<◌, ◌≤◌, Bool, true, false, List, [], ◌∷◌, length, slice_index_or, All, AllPairs, Any, Contains, sym, ◌∙◌, ap, subst, refl, arith, ◌⊎◌, inl, inr}
use lib.IntN.{ℤ, pos, ◌+ℤ◌, neg_ℤ}
use lib.Signed.{◌<ℤ◌, ◌≤ℤ◌, lt_z}
use Rattle.std.proofs.lemmas.Int.{ints}
use Rattle.std.proofs.lemmas.Bool.{cases_order}
use Rattle.std.proofs.lemmas.List.{get_or-map, get_or_default, length-map}
use Rattle.std.proofs.lemmas.List.Elements.{All-map}
use Rattle.grid_geom.specs.declared.Point.{Point}
use Rattle.grid_geom.specs.declared.Edge.{Edge}
use Rattle.grid_geom.specs.declared.TheConstants.{GRID}
use Rattle.grid_geom.specs.Bounds.{IsOnGrid, IsWithin}
use Rattle.grid_geom.proofs.Signs.{ordered}
use Rattle.geom_check.specs.declared.kinds.Segment.{Segment}
use Rattle.geom_check.specs.declared.risers.Riser.{Riser}
use Rattle.geom_check.specs.Boundary.{point_at, edge_of, edges_of, IsSegmentOf}
use Rattle.wind_law.specs.Grid.{IsEdgeOnGrid}
use Rattle.geom_check.specs.Accepted.{ArePlacesDifferent, HasTwoEnds, AreApart, DoEdgesTangle}
use Rattle.geom_check.specs.Risers.{with_riser, upwards, downwards, risers_of, IsRiserOf, AreRisersOf}
use Rattle.geom_check.specs.Risers.IsRiserOf.{rising, falling}
use Rattle.geom_check.specs.RiserOrder.{IsRiserOnGrid, IsFree, HasLevel, HasLevels, IsLevelsOf}
use Rattle.geom_check.proofs.FreeRisers.{risers_all, risers_free, free_segments}
use Rattle.geom_check.proofs.LevelLists.{has_level}
use Rattle.geom_check.proofs.RiserWinding.{lt_true}
use Rattle.geom_check.proofs.Together.{HasSidesTo}
use Rattle.geom_check.specs.declared.limits.TheConstants.{MOST_DOMAINS}
use Rattle.geom_check.proofs.KeyOrder.{number}

-- ---- on the grid
pub row_on_grid : (points : List Point) (row : ℕ) → All IsOnGrid points → 1 ≤ row → row ≤ length points → IsOnGrid (point_at points row)
row_on_grid points row all h k = all (row - 1) (record { x = pos 0; y = pos 0 }) (omega arith)

pub edges_on_grid : (points : List Point) (ss : List Segment) → All IsOnGrid points → All (IsSegmentOf (length points)) ss → All IsEdgeOnGrid (edges_of points ss)
edges_on_grid points ss all joined =
    All-map IsEdgeOnGrid (edge_of points) ss (λ i d h. record { a = row_on_grid points (slice_index_or ss i d).p all (joined i d h).p_least (joined i d h).p_greatest; b = row_on_grid points (slice_index_or ss i d).q all (joined i d h).q_least (joined i d h).q_greatest })

pub risers_on_grid : (points : List Point) (ss : List Segment) → All IsOnGrid points → All (IsSegmentOf (length points)) ss → All IsRiserOnGrid (risers_of points ss)
risers_on_grid points ss all joined = risers_all IsRiserOnGrid points ss (λ i d h. both (slice_index_or ss i d) (joined i d h))
  where
    both : (s : Segment) → IsSegmentOf (length points) s → IsRiserOnGrid (upwards points s) × IsRiserOnGrid (downwards points s)
    both s j = (record { a = row_on_grid points s.p all j.p_least j.p_greatest; b = row_on_grid points s.q all j.q_least j.q_greatest }, record { a = row_on_grid points s.q all j.q_least j.q_greatest; b = row_on_grid points s.p all j.p_least j.p_greatest })

pub risers_have_sides : (points : List Point) (ss : List Segment) → All (IsSegmentOf (length points)) ss → All (HasSidesTo MOST_DOMAINS) (risers_of points ss)
risers_have_sides points ss joined = risers_all (HasSidesTo MOST_DOMAINS) points ss (λ i d h. (record { west = (joined i d h).left; east = (joined i d h).right }, record { west = (joined i d h).right; east = (joined i d h).left }))

-- ---- between the levels
-- how far a height is above the bottom of the grid
above_bottom : (y : ℤ) → IsWithin GRID y → (n : ℕ) × (pos n ≡ y +ℤ GRID)
above_bottom y w = number (y +ℤ GRID) (above y w.least)
  where
    above : (y : ℤ) → neg_ℤ GRID ≤ℤ y → pos 0 ≤ℤ (y +ℤ GRID)
    above y h = omega (arith, ints)

pub risers_have_levels : (points : List Point) (ss : List Segment) (edges : List Edge) (levels : List ℕ) → All IsOnGrid points → All (IsSegmentOf (length points)) ss → edges ≡ edges_of points ss → IsLevelsOf edges (length edges) levels →
    All (HasLevels levels) (risers_of points ss)
risers_have_levels points ss edges levels all joined is of_edges = risers_all (HasLevels levels) points ss (λ i d h. (record { a = at_p i d h; b = at_q i d h }, record { a = at_q i d h; b = at_p i d h }))
  where
    level_by : (y z : ℤ) → IsWithin GRID y → z ≡ y → ((n : ℕ) → pos n ≡ z +ℤ GRID → Contains levels n) → HasLevel levels y
    level_by y z w e f = has_level levels y (above_bottom y w).0 (above_bottom y w).1 (f (above_bottom y w).0 ((above_bottom y w).1 ∙ ap (λ (x : ℤ). x +ℤ GRID) (sym e)))

    l : IsLevelsOf (edges_of points ss) (length (edges_of points ss)) levels
    l = subst (λ (es : List Edge). IsLevelsOf es (length es) levels) is of_edges

    in_edges : (i : ℕ) → i < length ss → i < length (edges_of points ss)
    in_edges i h = let e : length (edges_of points ss) ≡ length ss = length-map ss (edge_of points) in omega arith

    at_p : (i : ℕ) (d : Segment) → i < length ss → HasLevel levels (point_at points (slice_index_or ss i d).p).y
    at_p i d h = level_by (point_at points (slice_index_or ss i d).p).y (slice_index_or (edges_of points ss) i (edge_of points d)).a.y (row_on_grid points (slice_index_or ss i d).p all (joined i d h).p_least (joined i d h).p_greatest).y_within
        (ap (λ (e : Edge). e.a.y) (get_or-map (edge_of points) ss i d (edge_of points d) h)) (λ n e. l.starts i (edge_of points d) n (in_edges i h) e)

    at_q : (i : ℕ) (d : Segment) → i < length ss → HasLevel levels (point_at points (slice_index_or ss i d).q).y
    at_q i d h = level_by (point_at points (slice_index_or ss i d).q).y (slice_index_or (edges_of points ss) i (edge_of points d)).b.y (row_on_grid points (slice_index_or ss i d).q all (joined i d h).q_least (joined i d h).q_greatest).y_within
        (ap (λ (e : Edge). e.b.y) (get_or-map (edge_of points) ss i d (edge_of points d) h)) (λ n e. l.ends i (edge_of points d) n (in_edges i h) e)

-- ---- without common inner points
two_places : (points : List Point) (m n : ℕ) → ArePlacesDifferent points → 1 ≤ m → m ≤ length points → 1 ≤ n → n ≤ length points → m ≢ n → ¬ (point_at points m ≡ point_at points n)
two_places points m n places a b c d apart e = elim (cases_order m n) [
  | inl f ↦ apart f
  | inr r ↦ elim r [ inl l ↦ clash m n a l d e | inr l ↦ clash n m c l b (sym e) ]
]
  where
    clash : (m n : ℕ) → 1 ≤ m → m < n → n ≤ length points → point_at points m ≡ point_at points n → ⊥
    clash m n h l k e = places (m - 1) (n - 1) (record {
      ordered = omega arith;
      in_list = omega arith;
      together = λ x. get_or_default points (m - 1) x (record { x = pos 0; y = pos 0 }) (omega arith) ∙ e ∙ sym (get_or_default points (n - 1) x (record { x = pos 0; y = pos 0 }) (omega arith));
    })

pub risers_apart : (points : List Point) (ss : List Segment) (edges : List Edge) → ArePlacesDifferent points → All (IsSegmentOf (length points)) ss → All HasTwoEnds ss → edges ≡ edges_of points ss → AreApart edges → AllPairs IsFree (risers_of points ss)
risers_apart points ss edges places joined ends is all_apart = risers_free points ss (λ i j d h k. free_segments points (slice_index_or ss i d) (slice_index_or ss j d) (two_ends i d (omega arith)) (two_ends j d k) (λ t. apart i j (record {
  ordered = h;
  in_list = let e : length (edges_of points ss) ≡ length ss = length-map ss (edge_of points) in omega arith;
  tangled = λ x. subst (λ (e : Edge). DoEdgesTangle e (slice_index_or (edges_of points ss) j x)) (sym (get_or-map (edge_of points) ss i d x (omega arith))) (subst (λ (e : Edge). DoEdgesTangle (edge_of points (slice_index_or ss i d)) e) (sym (get_or-map (edge_of points) ss j d x k)) t);
})))
  where
    apart : AreApart (edges_of points ss)
    apart = subst (λ (es : List Edge). AreApart es) is all_apart

    two_ends : (i : ℕ) (d : Segment) → i < length ss → ¬ (point_at points (slice_index_or ss i d).p ≡ point_at points (slice_index_or ss i d).q)
    two_ends i d h = two_places points (slice_index_or ss i d).p (slice_index_or ss i d).q places (joined i d h).p_least (joined i d h).p_greatest (joined i d h).q_least (joined i d h).q_greatest (ends i d h)

-- ---- edges turned upwards
any_with : (P : Riser → Type 0) (b : Bool) (r : Riser) (rs : List Riser) → Any P rs → Any P (with_riser b r rs)
any_with P true r rs a = (suc a.0, a.1, omega (arith, a.2), a.3, a.4)
any_with P false r rs a = a

any_first : (P : Riser → Type 0) (b : Bool) (r : Riser) (rs : List Riser) → b ≡ true → P r → Any P (with_riser b r rs)
any_first P true r rs e p = (0, r, omega arith, refl, p)
any_first P false r rs e p = absurd (clash e)
  where
    clash : false ≡ true → ⊥
    clash e = cc

-- an edge is level, or a riser is the edge turned upwards
abbrev IsTurnedIn : List Riser → Edge → Type 0
IsTurnedIn rs e = (e.a.y ≡ e.b.y) ⊎ Any (IsRiserOf e) rs

turned_first : (points : List Point) (s : Segment) (ss : List Segment) → IsTurnedIn (risers_of points (s ∷ ss)) (edge_of points s)
turned_first points s ss = elim (ordered (point_at points s.p).y (point_at points s.q).y) [
  | inl up ↦
      inr (any_first (IsRiserOf (edge_of points s)) (lt_z (point_at points s.p).y (point_at points s.q).y) (upwards points s) (with_riser (lt_z (point_at points s.q).y (point_at points s.p).y) (downwards points s) (risers_of points ss)) (lt_true (point_at points s.p).y (point_at points s.q).y up) (rising refl refl up))
  | inr r ↦ elim r [
    | inl level ↦ inl level
    | inr down ↦
        inr (any_with (IsRiserOf (edge_of points s)) (lt_z (point_at points s.p).y (point_at points s.q).y) (upwards points s) (with_riser (lt_z (point_at points s.q).y (point_at points s.p).y) (downwards points s) (risers_of points ss))
        (any_first (IsRiserOf (edge_of points s)) (lt_z (point_at points s.q).y (point_at points s.p).y) (downwards points s) (risers_of points ss) (lt_true (point_at points s.q).y (point_at points s.p).y down) (falling refl refl down)))
  ]
]

turned_later : (points : List Point) (s : Segment) (ss : List Segment) (e : Edge) → IsTurnedIn (risers_of points ss) e → IsTurnedIn (risers_of points (s ∷ ss)) e
turned_later points s ss e (inl level) = inl level
turned_later points s ss e (inr any) =
    inr (any_with (IsRiserOf e) (lt_z (point_at points s.p).y (point_at points s.q).y) (upwards points s) (with_riser (lt_z (point_at points s.q).y (point_at points s.p).y) (downwards points s) (risers_of points ss))
    (any_with (IsRiserOf e) (lt_z (point_at points s.q).y (point_at points s.p).y) (downwards points s) (risers_of points ss) any))

turned_all : (points : List Point) (ss : List Segment) → All (λ s. IsTurnedIn (risers_of points ss) (edge_of points s)) ss
turned_all points [] i d h = absurd (omega arith)
turned_all points (s ∷ ss) zero d h = turned_first points s ss
turned_all points (s ∷ ss) (suc i) d h = turned_later points s ss (edge_of points (slice_index_or ss i d)) (turned_all points ss i d (omega arith))

pub risers_go_up : (points : List Point) (ss : List Segment) → All (λ r. r.a.y <ℤ r.b.y) (risers_of points ss)
risers_go_up points [] = λ i d h. absurd (omega arith)
risers_go_up points (s ∷ ss) =
    with_up (lt_z (point_at points s.p).y (point_at points s.q).y) (upwards points s) (with_riser (lt_z (point_at points s.q).y (point_at points s.p).y) (downwards points s) (risers_of points ss)) (λ e. less (point_at points s.p).y (point_at points s.q).y e)
    (with_up (lt_z (point_at points s.q).y (point_at points s.p).y) (downwards points s) (risers_of points ss) (λ e. less (point_at points s.q).y (point_at points s.p).y e) (risers_go_up points ss))
  where
    less : (y z : ℤ) → lt_z y z ≡ true → y <ℤ z
    less y z e = grind (arith, ints)

    with_up : (b : Bool) (r : Riser) (rs : List Riser) → (b ≡ true → r.a.y <ℤ r.b.y) → All (λ r. r.a.y <ℤ r.b.y) rs → All (λ r. r.a.y <ℤ r.b.y) (with_riser b r rs)
    with_up true r rs up all zero d h = up refl
    with_up true r rs up all (suc i) d h = all i d (omega arith)
    with_up false r rs up all i d h = all i d h

pub risers_of_edges : (points : List Point) (ss : List Segment) (edges : List Edge) (risers : List Riser) → edges ≡ edges_of points ss → risers ≡ risers_of points ss → AreRisersOf edges risers
risers_of_edges points ss edges risers e f = subst (λ (es : List Edge). AreRisersOf es risers) (sym e) (subst (λ (rs : List Riser). AreRisersOf (edges_of points ss) rs) (sym f) (record {
  each_edge = All-map (IsTurnedIn (risers_of points ss)) (edge_of points) ss (turned_all points ss);
  each_riser = λ i d h. risers_all (λ r. r.a.y <ℤ r.b.y → Any (λ e. IsRiserOf e r) (edges_of points ss)) points ss (λ k s j. (λ up. among k s j (upwards points (slice_index_or ss k s)) (rising refl refl up), λ down. among k s j (downwards points (slice_index_or ss k s)) (falling refl refl down))) i d h (risers_go_up points ss i d h);
}))
  where
    among : (k : ℕ) (s : Segment) → k < length ss → (r : Riser) → IsRiserOf (edge_of points (slice_index_or ss k s)) r → Any (λ e. IsRiserOf e r) (edges_of points ss)
    among k s j r is = (k, edge_of points (slice_index_or ss k s), (let e : length (edges_of points ss) ≡ length ss = length-map ss (edge_of points) in omega arith), get_or-map (edge_of points) ss k s (edge_of points (slice_index_or ss k s)) j, is)
