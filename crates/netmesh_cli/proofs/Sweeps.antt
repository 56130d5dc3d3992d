-- What each segment adds to the doubled area of a domain.
use Rattle.std.proofs.Common.{◌≡◌, ◌≢◌, ℕ, ◌+◌, ◌-◌, ◌<◌, ◌≤◌, length, drop, get_or, ◌==◌, Bool, true, false, List, [], ◌∷◌, refl, sym, ap, ◌∙◌, arith}
use Rattle.std.specs.Prelude.{All, ℤ, pos, ◌+ℤ◌, ◌-ℤ◌, ◌*ℤ◌}
use mir.Val.{SFits, to_z, of_z}
use mir.Syntax.{w128}
use Rattle.std.proofs.lemmas.Int.{ints, to_z-of_z}
use Rattle.std.proofs.lemmas.Bool.{eq-eqb, ne_eqb}
use Rattle.std.proofs.lemmas.List.{at_drop_more}
use Rattle.grid_geom.specs.declared.Point.{Point}
use Rattle.grid_geom.specs.declared.Edge.{Edge}
use Rattle.grid_geom.specs.declared.TheConstants.{GRID}
use Rattle.grid_geom.specs.Bounds.{IsOnGrid, IsWithin}
use Rattle.grid_geom.specs.Plane.{orient}
use Rattle.grid_geom.specs.Area.{sweep_of, shoelace}
use Rattle.grid_geom.proofs.Within.{within_mul}
use Rattle.grid_geom.proofs.Ring.{var, num, ◌⊖◌, ◌⊗◌, ring}
use Rattle.geom_check.specs.declared.kinds.Segment.{Segment}
use Rattle.geom_check.specs.Boundary.{boundary, point_at, edge_of, back, with_edge, IsSegmentOf}
use Rattle.netmesh_cli.specs.declared.areas.TheConstants.{SWEPT}

-- from the origin the orientation is what the edge sweeps
pub swept_from_origin : (a b : Point) → orient (record { x = pos 0; y = pos 0 }) a b ≡ sweep_of (record { a = a; b = b })
swept_from_origin a b = ring (a.x ∷ a.y ∷ b.x ∷ b.y ∷ []) ((var 0 ⊖ num (pos 0)) ⊗ (var 3 ⊖ num (pos 0)) ⊖ (var 1 ⊖ num (pos 0)) ⊗ (var 2 ⊖ num (pos 0))) (var 0 ⊗ var 3 ⊖ var 1 ⊗ var 2) refl

difference_within : (p q : ℤ) → IsWithin (GRID *ℤ GRID) p → IsWithin (GRID *ℤ GRID) q → IsWithin SWEPT (p -ℤ q)
difference_within p q hp hq = record { least = omega (arith, ints); greatest = omega (arith, ints) }

pub swept_within : (a b : Point) → IsOnGrid a → IsOnGrid b → IsWithin SWEPT (sweep_of (record { a = a; b = b }))
swept_within a b on_a on_b = difference_within _ _ (within_mul GRID GRID a.x b.y on_a.x_within on_b.y_within) (within_mul GRID GRID a.y b.x on_a.y_within on_b.x_within)

-- an edge sweeps backwards what it sweeps forwards
swept_back : (e : Edge) → sweep_of (back e) ≡ pos 0 -ℤ sweep_of e
swept_back e = ring (e.a.x ∷ e.a.y ∷ e.b.x ∷ e.b.y ∷ []) (var 2 ⊗ var 1 ⊖ var 3 ⊗ var 0) (num (pos 0) ⊖ (var 0 ⊗ var 3 ⊖ var 1 ⊗ var 2)) refl

-- the sum of an edge as it stands where the domain is on the left, and backwards where it is on the right
abbrev sum_of : Bool → Bool → Edge → List Edge → ℤ
sum_of left right e more = shoelace (with_edge left e (with_edge right (back e) more))

sum_first : (left right : Bool) (e : Edge) (more : List Edge) → sum_of left right e more ≡ sum_of left right e [] +ℤ shoelace more
sum_first true true e more = omega (arith, ints)
sum_first true false e more = omega (arith, ints)
sum_first false true e more = omega (arith, ints)
sum_first false false e more = omega (arith, ints)

pub area_first : (points : List Point) (domain : ℕ) (s : Segment) (ss : List Segment) → shoelace (boundary points domain (s ∷ ss)) ≡ shoelace (boundary points domain (s ∷ [])) +ℤ shoelace (boundary points domain ss)
area_first points domain s ss = sum_first (s.left == domain) (s.right == domain) (edge_of points s) (boundary points domain ss)

pub added_left : (points : List Point) (domain : ℕ) (s : Segment) → s.left ≢ s.right → s.left ≡ domain → shoelace (boundary points domain (s ∷ [])) ≡ sweep_of (edge_of points s)
added_left points domain s apart l = rw (eq-eqb s.left domain l, ne_eqb s.right domain (λ e. apart (l ∙ sym e))) (omega (arith, ints))

pub added_right : (points : List Point) (domain : ℕ) (s : Segment) → s.left ≢ domain → s.right ≡ domain → shoelace (boundary points domain (s ∷ [])) ≡ pos 0 -ℤ sweep_of (edge_of points s)
added_right points domain s l r = let back = swept_back (edge_of points s) in rw (ne_eqb s.left domain l, eq-eqb s.right domain r) (omega (arith, ints, back))

pub added_none : (points : List Point) (domain : ℕ) (s : Segment) → s.left ≢ domain → s.right ≢ domain → shoelace (boundary points domain (s ∷ [])) ≡ pos 0
added_none points domain s l r = rw (ne_eqb s.left domain l, ne_eqb s.right domain r) refl

-- forwards and backwards it adds nothing
both : (b c : Bool) (e : Edge) → b ≡ c → shoelace (with_edge b e (with_edge c (back e) [])) ≡ pos 0
both true true e same = let back = swept_back e in omega (arith, ints, back)
both true false e same = absurd (cc)
both false true e same = absurd (cc)
both false false e same = refl

pub added_both : (points : List Point) (domain : ℕ) (s : Segment) → s.left ≡ s.right → shoelace (boundary points domain (s ∷ [])) ≡ pos 0
added_both points domain s same = both (s.left == domain) (s.right == domain) (edge_of points s) (ap (λ (n : ℕ). n == domain) same)

-- a small number stays what it is in 128 bits
pub stays : (z v : ℤ) → z ≡ v → IsWithin SWEPT v → to_z w128 (of_z w128 z) ≡ v
stays z v e within = let fits : SFits w128 z = omega (arith, ints, e) in rw (to_z-of_z w128 z fits) e

-- the sum so far and one more
pub summed : (s t : ℤ) (i : ℕ) → i ≤ 4096 → IsWithin (SWEPT *ℤ pos i) s → IsWithin SWEPT t → to_z w128 (of_z w128 (s +ℤ to_z w128 (of_z w128 t))) ≡ s +ℤ t
summed s t i few hs ht = let ft : SFits w128 t = omega (arith, ints) in let fs : SFits w128 (s +ℤ t) = omega (arith, ints) in rw (to_z-of_z w128 t ft, to_z-of_z w128 (s +ℤ t) fs) refl

add_first : (total s t u r : ℤ) → total ≡ s +ℤ u → u ≡ t +ℤ r → total ≡ s +ℤ t +ℤ r
add_first total s t u r e f = omega (arith, ints, e, f)

pub one_more : (points : List Point) (domain : ℕ) (segments : List Segment) (i : ℕ) (d : Segment) (total s t : ℤ) → i < length segments → total ≡ s +ℤ shoelace (boundary points domain (drop i segments)) → t ≡ shoelace (boundary points domain (get_or segments i d ∷ [])) → total ≡ s +ℤ t +ℤ shoelace (boundary points domain (drop (i + 1) segments))
one_more points domain segments i d total s t inside ahead is = add_first total s t (shoelace (boundary points domain (drop i segments))) (shoelace (boundary points domain (drop (i + 1) segments))) ahead (at_drop_more (λ (ss : List Segment). shoelace (boundary points domain ss)) segments i d inside ∙ area_first points domain (get_or segments i d) (drop (i + 1) segments) ∙ ap (λ (z : ℤ). z +ℤ shoelace (boundary points domain (drop (i + 1) segments))) (sym is))

pub more_within : (s t : ℤ) (i : ℕ) → IsWithin (SWEPT *ℤ pos i) s → IsWithin SWEPT t → IsWithin (SWEPT *ℤ pos (i + 1)) (s +ℤ t)
more_within s t i hs ht = record { least = omega (arith, ints); greatest = omega (arith, ints) }

pub within_back : (z v : ℤ) → z ≡ v → IsWithin SWEPT v → IsWithin SWEPT (to_z w128 (of_z w128 z))
within_back z v e within = let fits : SFits w128 z = omega (arith, ints, e) in rw (to_z-of_z w128 z fits, e) within

-- the number below 0 of a small one
pub turned_back : (z v : ℤ) → z ≡ v → IsWithin SWEPT z → to_z w128 (of_z w128 (pos 0 -ℤ to_z w128 (of_z w128 z))) ≡ pos 0 -ℤ v
turned_back z v e within = let fits : SFits w128 z = omega (arith, ints) in let turned : SFits w128 (pos 0 -ℤ z) = omega (arith, ints) in rw (to_z-of_z w128 z fits, to_z-of_z w128 (pos 0 -ℤ z) turned, e) refl

-- the points of a segment are grid points
point_on_grid : (points : List Point) (row : ℕ) → All IsOnGrid points → 1 ≤ row → row ≤ length points → IsOnGrid (point_at points row)
point_on_grid points row on least greatest = on (row - 1) _ (omega arith)

pub segment_within : (points : List Point) (s : Segment) → All IsOnGrid points → IsSegmentOf (length points) s → IsWithin SWEPT (sweep_of (edge_of points s))
segment_within points s on joined = swept_within (point_at points s.p) (point_at points s.q) (point_on_grid points s.p on joined.p_least joined.p_greatest) (point_on_grid points s.q on joined.q_least joined.q_greatest)
