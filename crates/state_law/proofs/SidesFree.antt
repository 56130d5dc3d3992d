-- The sides of a strictly convex polygon do not tangle. Each corner is an end of a side or strictly left of it, all sides have the centre on their left, and different sides begin at different corners.
use Prim.Native.Nat.{ℕ, zero, suc, ◌<◌}
use lib.IntN.{ℤ, pos, ◌-ℤ◌}
use lib.Signed.{◌<ℤ◌, ◌≤ℤ◌}
use lib.ListN.{length}
use mathlib.Core.Path.{◌≡◌, refl, sym, ap, ◌∙◌, subst}
use mathlib.Core.List.{List, [], ◌∷◌}
use mathlib.Core.Logic.{◌⊎◌, inl, inr}
use native.Mathlib.Omega.{arith}
use Rattle.std.proofs.lemmas.Int.{ints}
use Rattle.std.specs.List.{AllByRecursion}
use Rattle.grid_geom.specs.declared.Point.{Point}
use Rattle.grid_geom.specs.declared.RatPoint.{RatPoint}
use Rattle.grid_geom.specs.declared.Edge.{Edge}
use Rattle.grid_geom.specs.Plane.{orient, orient_rat}
use Rattle.grid_geom.specs.Sides.{same_ends, swapped_ends, first_start, first_end, second_start, second_end, crossing}
use Rattle.grid_geom.specs.Polygon.{sides, way_round, corner_at, after, IsStrictlyConvex}
use Rattle.grid_geom.specs.Closed.{IsEdge}
use Rattle.grid_geom.proofs.Ring.{var, num, ◌⊖◌, ◌⊗◌, ring}
use Rattle.grid_geom.proofs.Lines.{orient_back, flat_first}
use Rattle.grid_geom.proofs.Signs.{nn_mul}
use Rattle.wind_law.specs.Centre.{centre}
use Rattle.wind_law.proofs.Corners.{IsEndOrLeft}
use Rattle.wind_law.proofs.Polygons.{by_corners, weak_end}
use Rattle.wind_law.proofs.Inside.{centre_in_polygon}
use Rattle.state_law.specs.Free.{AreFreeOf, DoEdgesTangle}
use Rattle.state_law.proofs.Lists.{all_map, all_both, side_ends}

-- ---- how a side sees another
pub record DoesSee (z : RatPoint) (s t : Edge) : Type 0 where
  pub start : IsEndOrLeft s t.a
  pub finish : IsEndOrLeft s t.b
  pub left : pos 0 <ℤ orient_rat s.a s.b z

-- the table of all sides
rows : (z : RatPoint) (cs : List Point) (ss : List Edge) → AllByRecursion (λ s. AllByRecursion (IsEndOrLeft s) cs) ss → AllByRecursion (λ s. pos 0 <ℤ orient_rat s.a s.b z) ss → AllByRecursion (λ s. AllByRecursion (DoesSee z s) (sides cs)) ss
rows z cs [] h l = tt
rows z cs (s ∷ ss) h l = (
  all_map (λ t. IsEndOrLeft s t.a × IsEndOrLeft s t.b) (DoesSee z s) (λ t e. record { start = e.0; finish = e.1; left = l.0 }) (sides cs) (side_ends (IsEndOrLeft s) cs h.0),
  rows z cs ss h.1 l.1,
)

pub seen_sides : (cs : List Point) → IsStrictlyConvex cs → AllByRecursion (λ s. AllByRecursion (DoesSee (centre cs) s) (sides cs)) (sides cs)
seen_sides cs v = rows (centre cs) cs (sides cs) (by_corners cs v (λ o u w ws f e. subst (λ (l : List Point). AllByRecursion (λ s. AllByRecursion (IsEndOrLeft s) l) (sides l)) (sym e) f.strict)) (centre_in_polygon cs v).left

-- ---- an edge with a point on its left has two ends, and its reverse has not that point on its left
pub no_length : (c : Point) (e : Edge) (z : RatPoint) → pos 0 <ℤ orient_rat e.a e.b z → e.a ≡ c → e.b ≡ c → ⊥
no_length c e z h i j = flat (turned_in e.a z (subst (λ (w : Point). pos 0 <ℤ orient_rat e.a w z) (j ∙ sym i) h))
  where
    turned_in : (a : Point) (z : RatPoint) → pos 0 <ℤ orient_rat a a z → pos 0 <ℤ pos 0
    turned_in a z h = subst (λ (y : ℤ). pos 0 <ℤ y) (ring (a.x ∷ a.y ∷ z.x ∷ z.y ∷ z.k ∷ []) ((var 0 ⊖ var 0) ⊗ (var 3 ⊖ var 1 ⊗ var 4) ⊖ (var 1 ⊖ var 1) ⊗ (var 2 ⊖ var 0 ⊗ var 4)) (num (pos 0)) refl) h

    flat : pos 0 <ℤ pos 0 → ⊥
    flat h = omega (arith, ints)

pub not_reversed : (s t : Edge) (z : RatPoint) → pos 0 <ℤ orient_rat s.a s.b z → pos 0 <ℤ orient_rat t.a t.b z → t.a ≡ s.b → t.b ≡ s.a → ⊥
not_reversed s t z hs ht i j = clash (orient_back t.a t.b z) ht (subst (λ (c : Point). pos 0 <ℤ orient_rat c t.a z) (sym j) (subst (λ (c : Point). pos 0 <ℤ orient_rat s.a c z) (sym i) hs))
  where
    clash : {x y : ℤ} → y ≡ pos 0 -ℤ x → pos 0 <ℤ x → pos 0 <ℤ y → ⊥
    clash {x} {y} e h j = omega (arith, ints)

pub sides_edges : (cs : List Point) → IsStrictlyConvex cs → AllByRecursion IsEdge (sides cs)
sides_edges cs v = all_map (λ e. pos 0 <ℤ orient_rat e.a e.b (centre cs)) IsEdge (λ e h i. no_length e.b e (centre cs) h i refl) (sides cs) (centre_in_polygon cs v).left

-- ---- the corners are different
different : (a b : ℕ) → (a ≡ b) ⊎ (a ≡ b → ⊥)
different a b = grind arith

flat_same : (a b c : Point) → a ≡ b → pos 0 <ℤ orient a b c → ⊥
flat_same a b c e h = flat (subst (λ (y : ℤ). pos 0 <ℤ y) (ring (a.x ∷ a.y ∷ c.x ∷ c.y ∷ []) ((var 0 ⊖ var 0) ⊗ (var 3 ⊖ var 1) ⊖ (var 1 ⊖ var 1) ⊗ (var 2 ⊖ var 0)) (num (pos 0)) refl) (subst (λ (w : Point). pos 0 <ℤ orient a w c) (sym e) h))
  where
    flat : pos 0 <ℤ pos 0 → ⊥
    flat h = omega (arith, ints)

flat_back : (a b c : Point) → a ≡ c → pos 0 <ℤ orient a b c → ⊥
flat_back a b c e h = flat (subst (λ (y : ℤ). pos 0 <ℤ y) (flat_first a b) (subst (λ (w : Point). pos 0 <ℤ orient a b w) (sym e) h))
  where
    flat : pos 0 <ℤ pos 0 → ⊥
    flat h = omega (arith, ints)

-- a position that is neither of two
third : (cs : List Point) → IsStrictlyConvex cs → (i j : ℕ) → i < j → j < length cs → j ≡ after cs i → corner_at cs i ≡ corner_at cs j → ⊥
third cs v zero j l h e s = elim (different 2 j) [
  | inr n ↦ flat_same (corner_at cs 0) (corner_at cs (after cs 0)) (corner_at cs 2) (s ∙ ap (corner_at cs) e) (v.left 0 (omega (arith, l, h)) 2 (omega (arith, v.enough)) (λ f. omega (arith, f)) (λ f. n (f ∙ sym e)))
  | inl m ↦ flat_same (corner_at cs 0) (corner_at cs (after cs 0)) (corner_at cs 1) (s ∙ ap (corner_at cs) e) (v.left 0 (omega (arith, l, h)) 1 (omega (arith, v.enough)) (λ f. omega (arith, f)) (λ f. omega (arith, f ∙ sym e, m)))
]
third cs v (suc i) j l h e s = flat_same (corner_at cs (suc i)) (corner_at cs (after cs (suc i))) (corner_at cs 0) (s ∙ ap (corner_at cs) e) (v.left (suc i) (omega (arith, l, h)) 0 (omega (arith, h)) (λ f. omega (arith, f)) (λ f. omega (arith, f ∙ sym e, l)))

corners_differ : (cs : List Point) → IsStrictlyConvex cs → (i j : ℕ) → i < j → j < length cs → corner_at cs i ≡ corner_at cs j → ⊥
corners_differ cs v i j l h s = elim (different j (after cs i)) [
  | inl e ↦ third cs v i j l h e s
  | inr n ↦ flat_back (corner_at cs i) (corner_at cs (after cs i)) (corner_at cs j) s (v.left i (omega (arith, l, h)) j h (λ f. omega (arith, f, l)) n)
]

-- no two points of the list are one
abbrev AreDifferent : List Point → Type 0
AreDifferent [] = Unit {0}
AreDifferent (c ∷ cs) = AllByRecursion (λ d. ¬ (c ≡ d)) cs × AreDifferent cs

by_positions : (P : Point → Type 0) (cs : List Point) → ((k : ℕ) → k < length cs → P (corner_at cs k)) → AllByRecursion P cs
by_positions P [] f = tt
by_positions P (c ∷ cs) f = (f 0 (omega arith), by_positions P cs (λ k h. f (suc k) (omega (arith, h))))

different_by : (cs : List Point) → ((i j : ℕ) → i < j → j < length cs → corner_at cs i ≡ corner_at cs j → ⊥) → AreDifferent cs
different_by [] f = tt
different_by (c ∷ cs) f = (by_positions (λ d. ¬ (c ≡ d)) cs (λ k h. f 0 (suc k) (omega arith) (omega (arith, h))), different_by cs (λ i j h k. f (suc i) (suc j) (omega (arith, h)) (omega (arith, k))))

-- so the sides begin at different places
starts_all : (P : Point → Type 0) (first from : Point) (ws : List Point) → AllByRecursion P (from ∷ ws) → AllByRecursion (λ s. P s.a) (way_round first from ws)
starts_all P first from [] h = (h.0, tt)
starts_all P first from (to ∷ ws) h = (h.0, starts_all P first to ws h.1)

abbrev DoBeginTogether : Edge → Edge → Type 0
DoBeginTogether s t = s.a ≡ t.a

starts_differ : (first from : Point) (ws : List Point) → AreDifferent (from ∷ ws) → AreFreeOf DoBeginTogether (way_round first from ws)
starts_differ first from [] h = (tt, tt)
starts_differ first from (to ∷ ws) h = (starts_all (λ p. ¬ (from ≡ p)) first to ws h.0, starts_differ first to ws h.1)

sides_differ : (cs : List Point) → AreDifferent cs → AreFreeOf DoBeginTogether (sides cs)
sides_differ [] h = tt
sides_differ (o ∷ ws) h = starts_differ o o ws h

-- ---- so they don't tangle
pub not_open : (s : Edge) (c : Point) → IsEndOrLeft s c → orient s.a s.b c ≡ pos 0 → ¬ (c ≡ s.a) → ¬ (c ≡ s.b) → ⊥
not_open s c (inl h) e n m = n h
not_open s c (inr (inl h)) e n m = m h
not_open s c (inr (inr h)) e n m = omega (arith, ints, h, e)

apart_sides : (z : RatPoint) (s t : Edge) → DoesSee z s t → DoesSee z t s → ¬ (DoBeginTogether s t) → ¬ (DoEdgesTangle s t)
apart_sides z s t h i n (same_ends e f) = n e
apart_sides z s t h i n (swapped_ends e f) = not_reversed t s z i.left h.left e f
apart_sides z s t h i n (first_start o) = not_open t s.a i.start o.straight o.not_a o.not_b
apart_sides z s t h i n (first_end o) = not_open t s.b i.finish o.straight o.not_a o.not_b
apart_sides z s t h i n (second_start o) = not_open s t.a h.start o.straight o.not_a o.not_b
apart_sides z s t h i n (second_end o) = not_open s t.b h.finish o.straight o.not_a o.not_b
apart_sides z s t h i n (crossing c) = clash (nn_mul (orient s.a s.b t.a) (orient s.a s.b t.b) (weak_end s t.a h.start) (weak_end s t.b h.finish)) c.ends_first
  where
    clash : {y : ℤ} → pos 0 ≤ℤ y → y <ℤ pos 0 → ⊥
    clash {y} f g = omega (arith, ints)

pairs : (z : RatPoint) (ss : List Edge) → AllByRecursion (λ s. AllByRecursion (DoesSee z s) ss) ss → AreFreeOf DoBeginTogether ss → AreFreeOf DoEdgesTangle ss
pairs z [] h n = tt
pairs z (s ∷ ss) h n = (
  all_both (λ t. DoesSee z s t × DoesSee z t s) (λ t. ¬ (DoBeginTogether s t)) (λ t. ¬ (DoEdgesTangle s t)) (λ t x y. apart_sides z s t x.0 x.1 y) ss
      (all_both (DoesSee z s) (λ t. DoesSee z t s) (λ t. DoesSee z s t × DoesSee z t s) (λ t x y. (x, y)) ss h.0.1 (all_map (λ t. AllByRecursion (DoesSee z t) (s ∷ ss)) (λ t. DoesSee z t s) (λ t x. x.0) ss h.1)) n.0,
  pairs z ss (all_map (λ t. AllByRecursion (DoesSee z t) (s ∷ ss)) (λ t. AllByRecursion (DoesSee z t) ss) (λ t x. x.1) ss h.1) n.1,
)

pub sides_untangled : (cs : List Point) → IsStrictlyConvex cs → AreFreeOf DoEdgesTangle (sides cs)
sides_untangled cs v = pairs (centre cs) (sides cs) (seen_sides cs v) (sides_differ cs (different_by cs (corners_differ cs v)))
