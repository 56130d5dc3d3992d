-- Edge rows that walk the segments wind round each place as the segments do.
use Rattle.std.proofs.Common.{◌≡◌, ℕ, ◌+◌, ◌==◌, Bool, true, false, cond, List, [], ◌∷◌, ◌++◌, ◌⊎◌, inl, inr, refl, sym, ◌∙◌, ap, subst, arith}
use lib.IntN.{ℤ, pos, ◌+ℤ◌}
use Rattle.std.proofs.lemmas.Int.{ints}
use Rattle.grid_geom.specs.declared.Point.{Point}
use Rattle.grid_geom.specs.declared.RatPoint.{RatPoint}
use Rattle.grid_geom.specs.declared.Edge.{Edge}
use Rattle.grid_geom.specs.Plane.{IsRational}
use Rattle.grid_geom.specs.Sides.{IsOnOpen}
use Rattle.grid_geom.specs.Winding.{cross, wind}
use Rattle.wind_law.specs.Chains.{edge, back}
use Rattle.wind_law.proofs.Additive.{wind_cut, wind_back}
use Rattle.state_law.proofs.Untangled.{open_back}
use Rattle.geom_check.specs.declared.kinds.Segment.{Segment}
use Rattle.geom_check.specs.Boundary.{with_edge, boundary, edge_of}
use Rattle.vol_format.specs.declared.EdgeRow.{EdgeRow}
use Rattle.mesh_check.specs.Parts.{row_edge, boundary_rows}
use Rattle.mesh_check.specs.Walked.{Places, IsStep, DoesLead, DoWalk}

-- ---- what an edge gives to the boundary of a domain
-- it is on the left of it, on the right
abbrev share : RatPoint → Bool → Bool → Edge → ℤ
share q l r e = cond l (cross q e) (pos 0) +ℤ cond r (cross q (back e)) (pos 0)

with_share : (q : RatPoint) (l r : Bool) (e : Edge) (es : List Edge) → wind q (with_edge l e (with_edge r (back e) es)) ≡ share q l r e +ℤ wind q es
with_share q true true e es = three (cross q e) (cross q (back e)) (wind q es)
  where
    three : (x y z : ℤ) → x +ℤ (y +ℤ z) ≡ (x +ℤ y) +ℤ z
    three x y z = omega (arith, ints)
with_share q true false e es = two (cross q e) (wind q es)
  where
    two : (x z : ℤ) → x +ℤ z ≡ (x +ℤ pos 0) +ℤ z
    two x z = omega (arith, ints)
with_share q false true e es = two (cross q (back e)) (wind q es)
  where
    two : (x z : ℤ) → x +ℤ z ≡ (pos 0 +ℤ x) +ℤ z
    two x z = omega (arith, ints)
with_share q false false e es = one (wind q es)
  where
    one : (z : ℤ) → z ≡ (pos 0 +ℤ pos 0) +ℤ z
    one z = omega (arith, ints)

cross_cut : (q : RatPoint) (a b m : Point) → IsRational q → IsOnOpen m a b → cross q (edge a m) +ℤ cross q (edge m b) ≡ cross q (edge a b)
cross_cut q a b m k o = plain (cross q (edge a m)) (cross q (edge m b)) (cross q (edge a b)) (wind_cut q a b m k o)
  where
    plain : (x y z : ℤ) → x +ℤ (y +ℤ pos 0) ≡ z +ℤ pos 0 → x +ℤ y ≡ z
    plain x y z e = omega (arith, ints)

cross_point : (q : RatPoint) (a : Point) → cross q (edge a a) ≡ pos 0
cross_point q a = plain (cross q (edge a a)) (wind_back q a a)
  where
    plain : (x : ℤ) → x +ℤ (x +ℤ pos 0) ≡ pos 0 → x ≡ pos 0
    plain x e = omega (arith, ints)

chosen : (b : Bool) (x y z : ℤ) → x +ℤ y ≡ z → cond b x (pos 0) +ℤ cond b y (pos 0) ≡ cond b z (pos 0)
chosen true x y z e = e
chosen false x y z e = omega (arith, ints)

chosen_none : (b : Bool) (x : ℤ) → x ≡ pos 0 → cond b x (pos 0) ≡ pos 0
chosen_none true x e = e
chosen_none false x e = refl

share_cut : (q : RatPoint) (l r : Bool) (a b m : Point) → IsRational q → IsOnOpen m a b → share q l r (edge a m) +ℤ share q l r (edge m b) ≡ share q l r (edge a b)
share_cut q l r a b m k o = four (cond l (cross q (edge a m)) (pos 0)) (cond l (cross q (edge m b)) (pos 0)) (cond l (cross q (edge a b)) (pos 0)) (cond r (cross q (edge m a)) (pos 0)) (cond r (cross q (edge b m)) (pos 0)) (cond r (cross q (edge b a)) (pos 0)) (chosen l (cross q (edge a m)) (cross q (edge m b)) (cross q (edge a b)) (cross_cut q a b m k o)) (chosen r (cross q (edge b m)) (cross q (edge m a)) (cross q (edge b a)) (cross_cut q b a m k (open_back m b a o)))
  where
    four : (x y z u w v : ℤ) → x +ℤ y ≡ z → w +ℤ u ≡ v → (x +ℤ u) +ℤ (y +ℤ w) ≡ z +ℤ v
    four x y z u w v e f = omega (arith, ints)

share_point : (q : RatPoint) (l r : Bool) (a : Point) → share q l r (edge a a) ≡ pos 0
share_point q l r a = none (cond l (cross q (edge a a)) (pos 0)) (cond r (cross q (edge a a)) (pos 0)) (chosen_none l (cross q (edge a a)) (cross_point q a)) (chosen_none r (cross q (edge a a)) (cross_point q a))
  where
    none : (x y : ℤ) → x ≡ pos 0 → y ≡ pos 0 → x +ℤ y ≡ pos 0
    none x y e f = omega (arith, ints)

-- ---- along one segment
step_share : (q : RatPoint) (l r : Bool) (at last b : Point) → IsRational q → (b ≡ last) ⊎ IsOnOpen b at last → share q l r (edge at b) +ℤ share q l r (edge b last) ≡ share q l r (edge at last)
step_share q l r at last b k (inl e) = subst (λ (p : Point). share q l r (edge at b) +ℤ share q l r (edge b p) ≡ share q l r (edge at p)) e (plain (share q l r (edge at b)) (share q l r (edge b b)) (share_point q l r b))
  where
    plain : (x y : ℤ) → y ≡ pos 0 → x +ℤ y ≡ x
    plain x y e = omega (arith, ints)
step_share q l r at last b k (inr o) = share_cut q l r at last b k o

row_share : (q : RatPoint) (ps : Places) (domain n : ℕ) (s : Segment) (at : Point) (row : EdgeRow) (es : List Edge) → IsStep ps n s at row →
    wind q (with_edge (row.left == domain) (row_edge ps.of_mesh row) (with_edge (row.right == domain) (back (row_edge ps.of_mesh row)) es)) ≡ share q (s.left == domain) (s.right == domain) (edge at (row_edge ps.of_mesh row).b) +ℤ wind q es
row_share q ps domain n s at row es t = with_share q (row.left == domain) (row.right == domain) (row_edge ps.of_mesh row) es
    ∙ ap (λ (k : ℕ). share q (k == domain) (row.right == domain) (row_edge ps.of_mesh row) +ℤ wind q es) t.labelled.left
    ∙ ap (λ (k : ℕ). share q (s.left == domain) (k == domain) (row_edge ps.of_mesh row) +ℤ wind q es) t.labelled.right
    ∙ ap (λ (p : Point). share q (s.left == domain) (s.right == domain) (edge p (row_edge ps.of_mesh row).b) +ℤ wind q es) t.moves.begins

lead_share : (q : RatPoint) (ps : Places) (domain n : ℕ) (s : Segment) (from : Point) (rows rest : List EdgeRow) → IsRational q → DoesLead ps n s from rows (edge_of ps.of_geometry s).b →
    wind q (boundary_rows ps.of_mesh domain (rows ++ rest)) ≡ share q (s.left == domain) (s.right == domain) (edge from (edge_of ps.of_geometry s).b) +ℤ wind q (boundary_rows ps.of_mesh domain rest)
lead_share q ps domain n s from [] rest k h = plain (share q (s.left == domain) (s.right == domain) (edge from (edge_of ps.of_geometry s).b)) (wind q (boundary_rows ps.of_mesh domain rest)) (ap (λ (p : Point). share q (s.left == domain) (s.right == domain) (edge p (edge_of ps.of_geometry s).b)) h ∙ share_point q (s.left == domain) (s.right == domain) (edge_of ps.of_geometry s).b)
  where
    plain : (x y : ℤ) → x ≡ pos 0 → y ≡ x +ℤ y
    plain x y e = omega (arith, ints)
lead_share q ps domain n s from (row ∷ rows) rest k h = row_share q ps domain n s from row (boundary_rows ps.of_mesh domain (rows ++ rest)) h.0
    ∙ three (share q (s.left == domain) (s.right == domain) (edge from (row_edge ps.of_mesh row).b)) (wind q (boundary_rows ps.of_mesh domain (rows ++ rest))) (share q (s.left == domain) (s.right == domain) (edge (row_edge ps.of_mesh row).b (edge_of ps.of_geometry s).b)) (wind q (boundary_rows ps.of_mesh domain rest)) (share q (s.left == domain) (s.right == domain) (edge from (edge_of ps.of_geometry s).b)) (lead_share q ps domain n s (row_edge ps.of_mesh row).b rows rest k h.1) (step_share q (s.left == domain) (s.right == domain) from (edge_of ps.of_geometry s).b (row_edge ps.of_mesh row).b k h.0.moves.along)
  where
    three : (x y z u w : ℤ) → y ≡ z +ℤ u → x +ℤ z ≡ w → x +ℤ y ≡ w +ℤ u
    three x y z u w e f = omega (arith, ints)

-- ---- along all segments
pub walk_wind : (q : RatPoint) (ps : Places) (domain n : ℕ) (ss : List Segment) (rows : List EdgeRow) → IsRational q → DoWalk ps n ss rows → wind q (boundary_rows ps.of_mesh domain rows) ≡ wind q (boundary ps.of_geometry domain ss)
walk_wind q ps domain n [] rows k w = ap (λ (rs : List EdgeRow). wind q (boundary_rows ps.of_mesh domain rs)) w
walk_wind q ps domain n (s ∷ ss) rows k w = ap (λ (rs : List EdgeRow). wind q (boundary_rows ps.of_mesh domain rs)) w.parts
    ∙ lead_share q ps domain n s (edge_of ps.of_geometry s).a w.own w.rest k w.leads
    ∙ ap (λ (z : ℤ). share q (s.left == domain) (s.right == domain) (edge_of ps.of_geometry s) +ℤ z) (walk_wind q ps domain (n + 1) ss w.rest k w.others)
    ∙ sym (with_share q (s.left == domain) (s.right == domain) (edge_of ps.of_geometry s) (boundary ps.of_geometry domain ss))
