-- Risers that agree are in that order at each height that both cross. So where neighbours agree from the left end of a strip to its right end,
-- the winding number of any chosen domains is 1 in the gaps of a chosen domain and 0 in all others.
-- Stands on RiserPlace, RiserOrder, KeyOrder and StripWinding.
use Rattle.std.proofs.Common.{◌≡◌, ℕ, zero, suc, ◌+◌, ◌*◌, ◌/◌, Bool, true, false, List, [], ◌∷◌, take, sum_by, inl, inr, sym, ◌∙◌, ap, subst, refl, arith}
use lib.IntN.{ℤ, pos, ◌+ℤ◌, ◌-ℤ◌, ◌*ℤ◌}
use lib.Signed.{◌<ℤ◌, ◌≤ℤ◌}
use Rattle.std.proofs.lemmas.Int.{ints}
use Rattle.std.specs.Prelude.{unsigned_abs}
use Rattle.std.proofs.lemmas.List.Sums.{sum_by-cons}
use Rattle.grid_geom.specs.declared.RatPoint.{RatPoint}
use Rattle.grid_geom.proofs.Ring.{var, num, ◌⊖◌, ◌⊗◌, ring}
use Rattle.grid_geom.proofs.Signs.{pos_mul}
use Rattle.grid_geom.proofs.Strips.{IsSpanned, swap_crosses}
use Rattle.geom_check.specs.declared.risers.Riser.{Riser}
use Rattle.geom_check.specs.declared.risers.Passing.{Passing}
use Rattle.geom_check.specs.declared.limits.TheConstants.{PARTS}
use Rattle.geom_check.specs.Accepted.{IsZeroOrOne}
use Rattle.geom_check.specs.Gaps.{middle}
use Rattle.geom_check.specs.Risers.{one_if, passes}
use Rattle.geom_check.specs.RiserOrder.{over, under, IsAt, IsAcross, IsFree, IsWest, IsPassing, IsKey, IsRiserOnGrid, rises, east_of, west_of}
use Rattle.geom_check.specs.Walk.{DoAgree}
use Rattle.geom_check.proofs.RiserPlace.{middle_at, middle_k, middle_left, middle_right}
use Rattle.geom_check.proofs.RiserOrder.{west_or_east, across}
use Rattle.geom_check.proofs.StripWinding.{passing_test}
use Rattle.geom_check.proofs.KeyOrder.{has_key}

-- ---- risers that agree
-- two that pass a strip, one left of the other at its middle height
pub agree_in : (low high : ℤ) (r s : Riser) → low <ℤ high → r.east ≡ s.west → passes low high r ≡ true → passes low high s ≡ true → IsWest (low +ℤ high) r s → DoAgree r s
agree_in low high r s h e p q w = record {
  label = e;
  height = low +ℤ high;
  r_across = across low high r h (passing_test low high r p);
  s_across = across low high s h (passing_test low high s q);
  west = w;
}

-- ---- one order at all heights
spanned_at : (y : ℤ) (r : Riser) (q : RatPoint) → pos 0 <ℤ q.k → IsAt y q → IsAcross y r → IsSpanned q r.a r.b
spanned_at y r q k e h = record { rational = k; low = above r.a.y e h.below; high = below r.b.y e h.above }
  where
    above : (a : ℤ) → pos 2 *ℤ q.y ≡ y *ℤ q.k → (pos 2 *ℤ a) <ℤ y → (a *ℤ q.k) ≤ℤ q.y
    above a e h =
        let p = pos_mul (y -ℤ pos 2 *ℤ a) q.k (omega (arith, ints)) k in
        let d = ring (y ∷ a ∷ q.k ∷ []) ((var 0 ⊖ num (pos 2) ⊗ var 1) ⊗ var 2) (var 0 ⊗ var 2 ⊖ num (pos 2) ⊗ (var 1 ⊗ var 2)) refl in
        omega (arith, ints, e, p, d)

    below : (b : ℤ) → pos 2 *ℤ q.y ≡ y *ℤ q.k → y <ℤ (pos 2 *ℤ b) → q.y <ℤ (b *ℤ q.k)
    below b e h =
        let p = pos_mul (pos 2 *ℤ b -ℤ y) q.k (omega (arith, ints)) k in
        let d = ring (y ∷ b ∷ q.k ∷ []) ((num (pos 2) ⊗ var 1 ⊖ var 0) ⊗ var 2) (num (pos 2) ⊗ (var 1 ⊗ var 2) ⊖ var 0 ⊗ var 2) refl in
        omega (arith, ints, e, p, d)

pub west_at : (r s : Riser) (y : ℤ) → DoAgree r s → IsFree r s → IsAcross y r → IsAcross y s → IsWest y r s
west_at r s y g f h j = elim (west_or_east y r s h j f) [
  | inl w ↦ w
  | inr w ↦ absurd (f.crossing (swap_crosses (middle y s r) (middle g.height r s) r.a r.b s.a s.b
      (record {
        first = spanned_at y r (middle y s r) (middle_k y s r j h) (middle_at y s r) h;
        second = spanned_at y s (middle y s r) (middle_k y s r j h) (middle_at y s r) j;
        left = middle_left y s r h w;
        right = middle_right y s r j w;
      })
      (record {
        first = spanned_at g.height s (middle g.height r s) (middle_k g.height r s g.r_across g.s_across) (middle_at g.height r s) g.s_across;
        second = spanned_at g.height r (middle g.height r s) (middle_k g.height r s g.r_across g.s_across) (middle_at g.height r s) g.r_across;
        left = middle_left g.height r s g.s_across g.west;
        right = middle_right g.height r s g.r_across g.west;
      })))
]

-- ---- keys
-- a riser with its key
abbrev pub keyed : ℤ → Riser → Passing
keyed y r = record { key = unsigned_abs (over y r) * PARTS / unsigned_abs (under r); riser = r }

pub keyed_key : (low high : ℤ) (r : Riser) → low <ℤ high → IsRiserOnGrid r → IsPassing low high r → IsKey (low +ℤ high) r (keyed (low +ℤ high) r).key
keyed_key low high r h grid p = by (has_key low high r h grid p)
  where
    by : ((k : ℕ) × IsKey (low +ℤ high) r k) → IsKey (low +ℤ high) r (keyed (low +ℤ high) r).key
    by k = record {
      over_is = k.1.over_is;
      under_is = k.1.under_is;
      same_over = k.1.same_over;
      same_under = k.1.same_under;
      positive = k.1.positive;
      small = k.1.small;
      key_is = ap (λ (z : ℤ). unsigned_abs z * PARTS / unsigned_abs (under r)) (sym k.1.same_over) ∙ ap (λ (z : ℤ). k.1.over_is * PARTS / unsigned_abs z) (sym k.1.same_under);
    }

-- ---- winding numbers along a chain of labels
-- each riser has on its west what the one before has on its east; the first has `label` there
abbrev pub IsLabelled : ℕ → List Passing → Type 0
IsLabelled label [] = Unit {0}
IsLabelled label (p ∷ ps) = (label ≡ p.riser.west) × IsLabelled p.riser.east ps

rises_by : (chosen : ℕ → Bool) (label : ℕ) (ps : List Passing) (i : ℕ) → IsLabelled label ps → (m : ℕ) × (rises chosen (take i ps) ≡ pos (one_if (chosen m)) -ℤ pos (one_if (chosen label)))
rises_by chosen label [] i h = (label, level i)
  where
    level : (i : ℕ) → rises chosen (take i []) ≡ pos (one_if (chosen label)) -ℤ pos (one_if (chosen label))
    level zero = omega (arith, ints)
    level (suc i) = omega (arith, ints)
rises_by chosen label (p ∷ ps) zero h = (label, omega (arith, ints))
rises_by chosen label (p ∷ ps) (suc i) h = more (rises_by chosen p.riser.east ps i h.1)
  where
    added : (e w s t x y : ℕ) (m : ℤ) → x ≡ e + s → y ≡ w + t → pos s -ℤ pos t ≡ m -ℤ pos e → pos x -ℤ pos y ≡ m -ℤ pos w
    added e w s t x y m f g h = omega (arith, ints, f, g, h)

    more : (m : ℕ) × (rises chosen (take i ps) ≡ pos (one_if (chosen m)) -ℤ pos (one_if (chosen p.riser.east))) → (m : ℕ) × (rises chosen (p ∷ take i ps) ≡ pos (one_if (chosen m)) -ℤ pos (one_if (chosen label)))
    more t = (
      t.0,
      added (east_of chosen p) (west_of chosen p) (sum_by (east_of chosen) (take i ps)) (sum_by (west_of chosen) (take i ps)) _ _ (pos (one_if (chosen t.0))) (sum_by-cons (east_of chosen) p (take i ps)) (sum_by-cons (west_of chosen) p (take i ps)) t.1
          ∙ ap (λ (z : ℕ). pos (one_if (chosen t.0)) -ℤ pos (one_if (chosen z))) (sym h.0),
    )

pub chain_sides : (chosen : ℕ → Bool) (ps : List Passing) (i : ℕ) → chosen 0 ≡ false → IsLabelled 0 ps → IsZeroOrOne (rises chosen (take i ps))
chain_sides chosen ps i e h = by (rises_by chosen 0 ps i h)
  where
    one : (b : Bool) → IsZeroOrOne (pos (one_if b) -ℤ pos 0)
    one true = inr refl
    one false = inl refl

    by : (m : ℕ) × (rises chosen (take i ps) ≡ pos (one_if (chosen m)) -ℤ pos (one_if (chosen 0))) → IsZeroOrOne (rises chosen (take i ps))
    by t = subst IsZeroOrOne (sym (t.1 ∙ ap (λ (b : Bool). pos (one_if (chosen t.0)) -ℤ pos (one_if b)) e)) (one (chosen t.0))
