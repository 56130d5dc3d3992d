-- A point v is on an edge, or a line parts it from the edge. So where v is off all edges of a closed list, points near it in any polygon at v have its winding number.
-- Stands on grid_geom's Meeting and Near, and on wind_law's Uncrossed.
use lib.IntN.{ℤ, pos, ◌+ℤ◌, ◌-ℤ◌, ◌*ℤ◌}
use lib.Signed.{◌<ℤ◌, ◌≤ℤ◌}
use mathlib.Core.Path.{◌≡◌, refl, sym, ap, ◌∙◌, subst}
use mathlib.Core.List.{List, [], ◌∷◌, ◌++◌}
use mathlib.Core.Logic.{◌⊎◌, inl, inr}
use native.Mathlib.Omega.{arith}
use Rattle.std.proofs.lemmas.Int.{ints}
use Rattle.std.specs.List.{AllByRecursion}
use Rattle.grid_geom.specs.declared.Point.{Point}
use Rattle.grid_geom.specs.declared.RatPoint.{RatPoint}
use Rattle.grid_geom.specs.declared.Edge.{Edge}
use Rattle.grid_geom.specs.Plane.{orient_rat, IsRational}
use Rattle.grid_geom.specs.Line.{Line, side, whole}
use Rattle.grid_geom.specs.Sides.{IsOnClosed}
use Rattle.grid_geom.specs.Segment.{IsOnSegment}
use Rattle.grid_geom.specs.Polygon.{sides, IsStrictlyConvex, IsInPolygon}
use Rattle.grid_geom.specs.Winding.{wind}
use Rattle.grid_geom.specs.Closed.{IsClosed, IsEdge, IsOff}
use Rattle.grid_geom.proofs.Ring.{var, num, ◌⊕◌, ◌⊖◌, ◌⊗◌, ring}
use Rattle.grid_geom.proofs.Signs.{zero_factor}
use Rattle.grid_geom.proofs.Lines.{through_is}
use Rattle.grid_geom.proofs.Meeting.{separate_or_meet}
use Rattle.grid_geom.proofs.OnSegment.{on_closed}
use Rattle.grid_geom.proofs.Near.{IsAhead, within, towards, IsNear, near_ahead}
use Rattle.grid_geom.proofs.Polygon.{lines}
use Rattle.grid_geom.proofs.Convex.{lines_inside}
use Rattle.wind_law.specs.Centre.{centre}
use Rattle.wind_law.specs.Near.{IsInClosure}
use Rattle.wind_law.proofs.Uncrossed.{IsPartedByLine, uncrossed}
use Rattle.wind_law.proofs.EdgeLines.{lines_directed}
use Rattle.wind_law.proofs.Inside.{centre_in_polygon, centre_rational}
use Rattle.wind_law.proofs.NearPoint.{off_edges}
use Rattle.state_law.proofs.Lists.{all_append, all_first, all_second}

-- ---- a point on the segment from v to v is at v
at_v : (x y k l p q : ℤ) → x *ℤ (p *ℤ l +ℤ q *ℤ l) ≡ k *ℤ (p *ℤ y +ℤ q *ℤ y) → pos 0 <ℤ (p +ℤ q) → k *ℤ y -ℤ x *ℤ l ≡ pos 0
at_v x y k l p q e h = zero_factor (p +ℤ q) (k *ℤ y -ℤ x *ℤ l) (ring (x ∷ y ∷ k ∷ l ∷ p ∷ q ∷ []) ((var 4 ⊕ var 5) ⊗ (var 2 ⊗ var 1 ⊖ var 0 ⊗ var 3)) (var 2 ⊗ (var 4 ⊗ var 1 ⊕ var 5 ⊗ var 1) ⊖ var 0 ⊗ (var 4 ⊗ var 3 ⊕ var 5 ⊗ var 3)) refl ∙ none (sym e)) h
  where
    none : {a b : ℤ} → a ≡ b → a -ℤ b ≡ pos 0
    none {a} {b} e = omega (arith, ints)

-- and has the weights of v
moved_mean : (x y k l s t c d : ℤ) → x *ℤ (s *ℤ pos 1 +ℤ t *ℤ pos 1) ≡ k *ℤ (s *ℤ c +ℤ t *ℤ d) → k *ℤ y -ℤ x *ℤ l ≡ pos 0 → pos 0 <ℤ k → y *ℤ (s *ℤ pos 1 +ℤ t *ℤ pos 1) ≡ l *ℤ (s *ℤ c +ℤ t *ℤ d)
moved_mean x y k l s t c d e f h = equal (zero_factor k (y *ℤ (s *ℤ pos 1 +ℤ t *ℤ pos 1) -ℤ l *ℤ (s *ℤ c +ℤ t *ℤ d)) (
    ring (y ∷ k ∷ l ∷ s ∷ t ∷ c ∷ d ∷ []) (var 1 ⊗ (var 0 ⊗ (var 3 ⊗ num (pos 1) ⊕ var 4 ⊗ num (pos 1)) ⊖ var 2 ⊗ (var 3 ⊗ var 5 ⊕ var 4 ⊗ var 6))) (var 1 ⊗ var 0 ⊗ (var 3 ⊗ num (pos 1) ⊕ var 4 ⊗ num (pos 1)) ⊖ var 2 ⊗ (var 1 ⊗ (var 3 ⊗ var 5 ⊕ var 4 ⊗ var 6))) refl
    ∙ ap (λ (z : ℤ). k *ℤ y *ℤ (s *ℤ pos 1 +ℤ t *ℤ pos 1) -ℤ l *ℤ z) (sym e)
    ∙ ring (x ∷ y ∷ k ∷ l ∷ s ∷ t ∷ []) (var 2 ⊗ var 1 ⊗ (var 4 ⊗ num (pos 1) ⊕ var 5 ⊗ num (pos 1)) ⊖ var 3 ⊗ (var 0 ⊗ (var 4 ⊗ num (pos 1) ⊕ var 5 ⊗ num (pos 1)))) ((var 2 ⊗ var 1 ⊖ var 0 ⊗ var 3) ⊗ (var 4 ⊗ num (pos 1) ⊕ var 5 ⊗ num (pos 1))) refl
    ∙ ap (λ (z : ℤ). z *ℤ (s *ℤ pos 1 +ℤ t *ℤ pos 1)) f
    ∙ ring (s ∷ t ∷ []) (num (pos 0) ⊗ (var 0 ⊗ num (pos 1) ⊕ var 1 ⊗ num (pos 1))) (num (pos 0)) refl) h)
  where
    equal : {a b : ℤ} → a -ℤ b ≡ pos 0 → a ≡ b
    equal {a} {b} e = omega (arith, ints)

on_at : (v m : RatPoint) (c d : Point) → pos 0 <ℤ v.k → pos 0 <ℤ m.k → IsOnSegment m v v → IsOnSegment m (whole c) (whole d) → IsOnClosed v c d
on_at v m c d kv km h j = on_closed c d v kv (record {
  of_p = j.of_p;
  of_q = j.of_q;
  p_weight = j.p_weight;
  q_weight = j.q_weight;
  weighted = j.weighted;
  mean_x = moved_mean m.x v.x m.k v.k j.of_p j.of_q c.x d.x j.mean_x (at_v m.x v.x m.k v.k h.of_p h.of_q h.mean_x h.weighted) km;
  mean_y = moved_mean m.y v.y m.k v.k j.of_p j.of_q c.y d.y j.mean_y (at_v m.y v.y m.k v.k h.of_p h.of_q h.mean_y h.weighted) km;
})

-- a line has the edge on its closed right, and v on its left
pub record IsPartedFrom (v : RatPoint) (e : Edge) : Type 0 where
  pub line : Line
  pub start_right : side line (whole e.a) ≤ℤ pos 0
  pub end_right : side line (whole e.b) ≤ℤ pos 0
  pub v_left : pos 0 <ℤ side line v

pub on_or_parted : (v : RatPoint) (e : Edge) → IsEdge e → IsRational v → IsOnClosed v e.a e.b ⊎ IsPartedFrom v e
on_or_parted v e n kv = elim (separate_or_meet v v e.a e.b n kv.positive kv.positive) [
  | inl s ↦ inr (record { line = s.line; start_right = s.c_right; end_right = s.d_right; v_left = s.p_left })
  | inr m ↦ inl (on_at v m.at e.a e.b kv.positive m.rational m.on_first m.on_second)
]

-- ---- all lines that part v from the edges of a list that it is off
abbrev pub IsPartedPair : RatPoint → List Line → List Edge → Type 0
IsPartedPair v ls es = (u : RatPoint) → AllByRecursion (λ l. pos 0 <ℤ side l u) ls → AllByRecursion (IsPartedByLine u v) es

pub record AreParting (v : RatPoint) (es : List Edge) : Type 0 where
  pub all : List Line
  pub left : AllByRecursion (λ l. pos 0 <ℤ side l v) all
  pub parted : IsPartedPair v all es

pub parting : (v : RatPoint) (es : List Edge) → AllByRecursion IsEdge es → IsRational v → IsOff v es → AreParting v es
parting v [] n kv f = record { all = []; left = tt; parted = λ u h. tt }
parting v (e ∷ es) n kv f = elim (on_or_parted v e n.0 kv) [
  | inl o ↦ absurd (f.0 o)
  | inr p ↦ more p (parting v es n.1 kv f.1)
]
  where
    more : IsPartedFrom v e → AreParting v es → AreParting v (e ∷ es)
    more p r = record {
      all = p.line ∷ r.all;
      left = (p.v_left, r.left);
      parted = λ u h. (record { line = p.line; start_right = p.start_right; end_right = p.end_right; p_left = h.0; q_left = p.v_left }, r.parted u h.1);
    }

pub within_all : (v w : RatPoint) (ls : List Line) → AllByRecursion (λ l. pos 0 <ℤ side l v) ls → AllByRecursion (IsAhead v w) ls
within_all v w [] h = tt
within_all v w (l ∷ ls) h = (within h.0, within_all v w ls h.1)

towards_all : (v w : RatPoint) (es : List Edge) → AllByRecursion (λ e. pos 0 ≤ℤ orient_rat e.a e.b v) es → AllByRecursion (λ e. pos 0 <ℤ orient_rat e.a e.b w) es → AllByRecursion (IsAhead v w) (lines es)
towards_all v w [] h i = tt
towards_all v w (e ∷ es) h i = (towards (subst (λ (z : ℤ). pos 0 ≤ℤ z) (sym (through_is e.a e.b v)) h.0) (subst (λ (z : ℤ). pos 0 <ℤ z) (sym (through_is e.a e.b w)) i.0), towards_all v w es h.1 i.1)

-- a point of the open polygon off the edges es, with the winding number of v in the front
pub record HasAlikeNear (v : RatPoint) (cs : List Point) (front es : List Edge) : Type 0 where
  pub at : RatPoint
  pub rational : IsRational at
  pub inside : IsInPolygon at cs
  pub off : IsOff at es
  pub alike : wind at front ≡ wind v front

pub alike_near : (v : RatPoint) (cs : List Point) (front es : List Edge) → IsRational v → IsStrictlyConvex cs → IsInClosure v cs → AllByRecursion IsEdge front → IsClosed front → IsOff v front → AllByRecursion IsEdge es → HasAlikeNear v cs front es
alike_near v cs front es kv c i n cl f m = found (parting v front n kv f)
  where
    found : AreParting v front → HasAlikeNear v cs front es
    found p = result (near_ahead v (centre cs) (p.all ++ lines (sides cs)) (lines es) kv.positive (centre_rational cs c).positive
        (all_append (IsAhead v (centre cs)) p.all (lines (sides cs)) (within_all v (centre cs) p.all p.left) (towards_all v (centre cs) (sides cs) i.left (centre_in_polygon cs c).left)) (lines_directed es m))
      where
        result : IsNear v (p.all ++ lines (sides cs)) (lines es) → HasAlikeNear v cs front es
        result r = record {
          at = r.at;
          rational = record { positive = r.rational };
          inside = record { left = lines_inside r.at (sides cs) (all_second (λ l. pos 0 <ℤ side l r.at) p.all (lines (sides cs)) r.inside) };
          off = off_edges v r.at es r.clear;
          alike = uncrossed r.at v front cl (record { positive = r.rational }) kv (p.parted r.at (all_first (λ l. pos 0 <ℤ side l r.at) p.all (lines (sides cs)) r.inside));
        }
