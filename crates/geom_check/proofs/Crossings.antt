-- Where edges and their risers cross the middle height of a strip.
use Rattle.std.proofs.Common.{◌≡◌, List, [], ◌∷◌, Any, Contains, sym, ◌∙◌, ap, subst, refl, arith, inl, inr}
use lib.IntN.{ℤ, pos, ◌+ℤ◌, ◌-ℤ◌, ◌*ℤ◌}
use lib.Signed.{◌<ℤ◌, ◌≤ℤ◌}
use Rattle.std.proofs.lemmas.Int.{ints}
use Rattle.grid_geom.specs.declared.Point.{Point}
use Rattle.grid_geom.specs.declared.RatPoint.{RatPoint}
use Rattle.grid_geom.specs.declared.Edge.{Edge}
use Rattle.grid_geom.specs.Plane.{orient_rat}
use Rattle.grid_geom.proofs.Ring.{var, num, ◌⊖◌, ◌⊗◌, ring}
use Rattle.grid_geom.proofs.Signs.{pos_mul, pos_factor}
use Rattle.geom_check.specs.declared.risers.Riser.{Riser}
use Rattle.geom_check.specs.Strips.{Passes, upwards, downwards, IsMiddleHeight, IsCrossing, IsLeftOf}
use Rattle.geom_check.specs.Risers.{IsRiserOf, rising, falling, AreRisersOf}
use Rattle.geom_check.specs.RiserOrder.{over, under, IsAt, IsWest, IsPassing}
use Rattle.geom_check.proofs.RiserOrder.{across}
use Rattle.geom_check.proofs.RiserPlace.{tall, side_at}
use Rattle.grid_geom.specs.declared.TheConstants.{GRID}

-- the place where a riser crosses the height y/2
abbrev pub place : ℤ → Riser → RatPoint
place y r = record { x = pos 2 *ℤ (over y r -ℤ GRID *ℤ under r); y = y *ℤ under r; k = pos 2 *ℤ under r }

halved : (m : ℤ) → pos 2 *ℤ m ≡ pos 0 → m ≡ pos 0
halved m e = omega (arith, ints)

pub place_on : (y : ℤ) (r : Riser) → orient_rat r.a r.b (place y r) ≡ pos 0
place_on y r = halved _ (side_at y r (place y r) (at (y) (under r)) ∙ ring (over y r ∷ under r ∷ []) ((num (pos 2) ⊗ var 1) ⊗ (var 0 ⊖ num GRID ⊗ var 1) ⊖ var 1 ⊗ (num (pos 2) ⊗ (var 0 ⊖ num GRID ⊗ var 1))) (num (pos 0)) refl)
  where
    at : (y u : ℤ) → pos 2 *ℤ (y *ℤ u) ≡ y *ℤ (pos 2 *ℤ u)
    at y u = ring (y ∷ u ∷ []) (num (pos 2) ⊗ (var 0 ⊗ var 1)) (var 0 ⊗ (num (pos 2) ⊗ var 1)) refl

pub place_height : (low high : ℤ) (r : Riser) → low <ℤ high → IsPassing low high r → IsMiddleHeight low high (place (low +ℤ high) r)
place_height low high r h p = record {
  rational = record { positive = doubled (under r) (tall (low +ℤ high) r (across low high r h p)) };
  middle = ring ((low +ℤ high) ∷ under r ∷ []) (num (pos 2) ⊗ (var 0 ⊗ var 1)) (var 0 ⊗ (num (pos 2) ⊗ var 1)) refl;
}
  where
    doubled : (u : ℤ) → pos 0 <ℤ u → pos 0 <ℤ (pos 2 *ℤ u)
    doubled u h = omega (arith, ints)

-- an edge turned round
turned : (a b : Point) (q : RatPoint) → orient_rat b a q ≡ pos 0 -ℤ orient_rat a b q
turned a b q = ring (a.x ∷ a.y ∷ b.x ∷ b.y ∷ q.x ∷ q.y ∷ q.k ∷ []) ((var 0 ⊖ var 2) ⊗ (var 5 ⊖ var 3 ⊗ var 6) ⊖ (var 1 ⊖ var 3) ⊗ (var 4 ⊖ var 2 ⊗ var 6)) (num (pos 0) ⊖ ((var 2 ⊖ var 0) ⊗ (var 5 ⊖ var 1 ⊗ var 6) ⊖ (var 3 ⊖ var 1) ⊗ (var 4 ⊖ var 0 ⊗ var 6))) refl

turned_zero : (a b : Point) (q : RatPoint) → orient_rat a b q ≡ pos 0 → orient_rat b a q ≡ pos 0
turned_zero a b q e = turned a b q ∙ ap (λ (n : ℤ). pos 0 -ℤ n) e

-- a riser passes the strip, and q is on it
pub record IsOn (low high : ℤ) (q : RatPoint) (r : Riser) : Type 0 where
  pub passing : IsPassing low high r
  pub on : orient_rat r.a r.b q ≡ pos 0

on_of : (low high : ℤ) (e : Edge) (r : Riser) (q : RatPoint) → low <ℤ high → IsRiserOf e r → IsCrossing low high e q → IsOn low high q r
on_of low high e r q h (rising f g up) c = record { passing = by_passes c.passes; on = subst (λ (p : Point). orient_rat p r.b q ≡ pos 0) f (subst (λ (p : Point). orient_rat e.a p q ≡ pos 0) g c.straight) }
  where
    by_passes : Passes low high e → IsPassing low high r
    by_passes (upwards k l) = record { from_low = subst (λ (p : Point). p.y ≤ℤ low) f k; to_high = subst (λ (p : Point). high ≤ℤ p.y) g l }
    by_passes (downwards k l) = absurd (wrong e.b.y low high e.a.y k h l up)
      where
        wrong : (m n o p : ℤ) → m ≤ℤ n → n <ℤ o → o ≤ℤ p → p <ℤ m → ⊥
        wrong m n o p h j k l = omega (arith, ints)
on_of low high e r q h (falling f g up) c = record { passing = by_passes c.passes; on = turned_zero r.b r.a q (subst (λ (p : Point). orient_rat p r.a q ≡ pos 0) f (subst (λ (p : Point). orient_rat e.a p q ≡ pos 0) g c.straight)) }
  where
    by_passes : Passes low high e → IsPassing low high r
    by_passes (downwards k l) = record { from_low = subst (λ (p : Point). p.y ≤ℤ low) g k; to_high = subst (λ (p : Point). high ≤ℤ p.y) f l }
    by_passes (upwards k l) = absurd (wrong e.a.y low high e.b.y k h l up)
      where
        wrong : (m n o p : ℤ) → m ≤ℤ n → n <ℤ o → o ≤ℤ p → p <ℤ m → ⊥
        wrong m n o p h j k l = omega (arith, ints)

not_level : (low high : ℤ) (e : Edge) → low <ℤ high → Passes low high e → e.a.y ≡ e.b.y → ⊥
not_level low high e h (upwards k l) f = omega (arith, ints, h, k, l, f)
not_level low high e h (downwards k l) f = omega (arith, ints, h, k, l, f)

-- a crossing of an edge is one of a riser
pub riser_at : (low high : ℤ) (edges : List Edge) (rs : List Riser) (q : RatPoint) → low <ℤ high → AreRisersOf edges rs → Any (λ e. IsCrossing low high e q) edges → (r : Riser) × Contains rs r × IsOn low high q r
riser_at low high edges rs q h are c = elim (are.each_edge c.0 c.1 c.2) [
  | inl level ↦ absurd (not_level low high c.1 h c.4.passes (subst (λ (e : Edge). e.a.y ≡ e.b.y) c.3 level))
  | inr some ↦ (some.1, (some.0, some.2, some.3), on_of low high c.1 some.1 q h (subst (λ (e : Edge). IsRiserOf e some.1) c.3 some.4) c.4)
]

-- a riser that passes is crossed at its place, by its edge
crossing_of : (low high : ℤ) (e : Edge) (r : Riser) → low <ℤ high → IsRiserOf e r → IsPassing low high r → IsCrossing low high e (place (low +ℤ high) r)
crossing_of low high e r h (rising f g up) p = record {
  passes = upwards (subst (λ (p : Point). p.y ≤ℤ low) (sym f) p.from_low) (subst (λ (p : Point). high ≤ℤ p.y) (sym g) p.to_high);
  height = place_height low high r h p;
  straight = subst (λ (p : Point). orient_rat p e.b (place (low +ℤ high) r) ≡ pos 0) (sym f) (subst (λ (p : Point). orient_rat r.a p (place (low +ℤ high) r) ≡ pos 0) (sym g) (place_on (low +ℤ high) r));
}
crossing_of low high e r h (falling f g up) p = record {
  passes = downwards (subst (λ (p : Point). p.y ≤ℤ low) (sym g) p.from_low) (subst (λ (p : Point). high ≤ℤ p.y) (sym f) p.to_high);
  height = place_height low high r h p;
  straight = subst (λ (p : Point). orient_rat p e.b (place (low +ℤ high) r) ≡ pos 0) (sym f) (subst (λ (p : Point). orient_rat r.b p (place (low +ℤ high) r) ≡ pos 0) (sym g) (turned_zero r.a r.b (place (low +ℤ high) r) (place_on (low +ℤ high) r)));
}

pub edge_at : (low high : ℤ) (edges : List Edge) (rs : List Riser) (r : Riser) → low <ℤ high → AreRisersOf edges rs → Contains rs r → IsPassing low high r → Any (λ e. IsCrossing low high e (place (low +ℤ high) r)) edges
edge_at low high edges rs r h are c p =
    let some = are.each_riser c.0 r c.1 in
    (some.0, some.1, some.2, some.3, crossing_of low high some.1 r h (subst (λ (x : Riser). IsRiserOf some.1 x) c.2 some.4) p)

-- ---- the order of places on risers is that of the risers
-- how far q is from the left end of the grid, where it is on the riser
pub along : (y : ℤ) (r : Riser) (q : RatPoint) → IsAt y q → orient_rat r.a r.b q ≡ pos 0 → under r *ℤ q.x ≡ q.k *ℤ (over y r -ℤ GRID *ℤ under r)
along y r q e z = same _ _ _ (side_at y r q e) z
  where
    same : (o m n : ℤ) → pos 2 *ℤ o ≡ m -ℤ n → o ≡ pos 0 → n ≡ m
    same o m n e f = omega (arith, ints)

apart : (x k o u z m p w : ℤ) → u *ℤ x ≡ k *ℤ (o -ℤ GRID *ℤ u) → w *ℤ z ≡ m *ℤ (p -ℤ GRID *ℤ w) → (u *ℤ w) *ℤ (z *ℤ k -ℤ x *ℤ m) ≡ (k *ℤ m) *ℤ (p *ℤ u -ℤ o *ℤ w)
apart x k o u z m p w e f =
    ring (x ∷ k ∷ u ∷ z ∷ m ∷ w ∷ []) ((var 2 ⊗ var 5) ⊗ (var 3 ⊗ var 1 ⊖ var 0 ⊗ var 4)) ((var 5 ⊗ var 3) ⊗ (var 1 ⊗ var 2) ⊖ (var 2 ⊗ var 0) ⊗ (var 4 ⊗ var 5)) refl
    ∙ ap (λ (n : ℤ). n *ℤ (k *ℤ u) -ℤ (u *ℤ x) *ℤ (m *ℤ w)) f ∙ ap (λ (n : ℤ). (m *ℤ (p -ℤ GRID *ℤ w)) *ℤ (k *ℤ u) -ℤ n *ℤ (m *ℤ w)) e
    ∙ ring (k ∷ o ∷ u ∷ m ∷ p ∷ w ∷ []) ((var 3 ⊗ (var 4 ⊖ num GRID ⊗ var 5)) ⊗ (var 0 ⊗ var 2) ⊖ (var 0 ⊗ (var 1 ⊖ num GRID ⊗ var 2)) ⊗ (var 3 ⊗ var 5)) ((var 0 ⊗ var 3) ⊗ (var 4 ⊗ var 2 ⊖ var 1 ⊗ var 5)) refl

pub positive_by : (a b c d : ℤ) → a *ℤ b ≡ c *ℤ d → pos 0 <ℤ a → pos 0 <ℤ c → pos 0 <ℤ d → pos 0 <ℤ b
positive_by a b c d e h j k = pos_factor a b (subst (λ (n : ℤ). pos 0 <ℤ n) (sym e) (pos_mul c d j k)) (weak a h)
  where
    weak : (a : ℤ) → pos 0 <ℤ a → pos 0 ≤ℤ a
    weak a h = omega (arith, ints)

above : (m n : ℤ) → m <ℤ n → pos 0 <ℤ (n -ℤ m)
above m n h = omega (arith, ints)

below : (m n : ℤ) → pos 0 <ℤ (n -ℤ m) → m <ℤ n
below m n h = omega (arith, ints)

pub west_of_left : (y : ℤ) (r s : Riser) (q t : RatPoint) → pos 0 <ℤ under r → pos 0 <ℤ under s → pos 0 <ℤ q.k → pos 0 <ℤ t.k → IsAt y q → IsAt y t → orient_rat r.a r.b q ≡ pos 0 → orient_rat s.a s.b t ≡ pos 0 → IsLeftOf q t → IsWest y r s
west_of_left y r s q t ur us qk tk qy ty qr ts l = below (over y r *ℤ under s) (over y s *ℤ under r)
    (positive_by (q.k *ℤ t.k) _ (under r *ℤ under s) _ (sym (apart q.x q.k (over y r) (under r) t.x t.k (over y s) (under s) (along y r q qy qr) (along y s t ty ts))) (pos_mul q.k t.k qk tk) (pos_mul (under r) (under s) ur us) (above (q.x *ℤ t.k) (t.x *ℤ q.k) l))

pub left_of_west : (y : ℤ) (r s : Riser) (q t : RatPoint) → pos 0 <ℤ under r → pos 0 <ℤ under s → pos 0 <ℤ q.k → pos 0 <ℤ t.k → IsAt y q → IsAt y t → orient_rat r.a r.b q ≡ pos 0 → orient_rat s.a s.b t ≡ pos 0 → IsWest y r s → IsLeftOf q t
left_of_west y r s q t ur us qk tk qy ty qr ts w = below (q.x *ℤ t.k) (t.x *ℤ q.k)
    (positive_by (under r *ℤ under s) _ (q.k *ℤ t.k) _ (apart q.x q.k (over y r) (under r) t.x t.k (over y s) (under s) (along y r q qy qr) (along y s t ty ts)) (pos_mul (under r) (under s) ur us) (pos_mul q.k t.k qk tk) (above (over y r *ℤ under s) (over y s *ℤ under r) w))
