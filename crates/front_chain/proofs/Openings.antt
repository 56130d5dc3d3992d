-- The opening of a front: points listed one after another, lines made one after another, and the area that a line sweeps.
use Prim.Native.Nat.{ℕ, zero, suc, ◌+◌, ◌<◌}
use lib.IntN.{ℤ, pos, ◌+ℤ◌, ◌-ℤ◌, ◌*ℤ◌}
use lib.ListN.{length, get_or, take}
use mathlib.Core.Path.{◌≡◌, refl, sym, ap, ◌∙◌}
use mathlib.Core.Bool.{Bool, true, false, cond, ◌&&◌}
use mathlib.Core.List.{List, [], ◌∷◌, ◌++◌, map}
use mathlib.Core.Logic.{inl}
use native.Mathlib.Omega.{arith}
use Rattle.std.proofs.lemmas.Int.{ints}
use mir.Val.{Fits, SFits}
use mir.Syntax.{w64, w128}
use Rattle.std.specs.Prelude.{nat_eq, Some, None}
use Rattle.std.specs.Option.{option_map}
use Rattle.std.specs.List.{AllByRecursion, find}
use Rattle.grid_geom.specs.declared.Point.{Point}
use Rattle.grid_geom.specs.declared.TheConstants.{GRID}
use Rattle.grid_geom.specs.Bounds.{IsWithin, IsOnGrid}
use Rattle.grid_geom.specs.Plane.{orient}
use Rattle.grid_geom.specs.Area.{sweep_of, shoelace}
use Rattle.grid_geom.proofs.Within.{within_mul}
use Rattle.std.proofs.lemmas.List.{take_more, length-take-le, map-append}
use Rattle.grid_geom.proofs.Areas.{shoelace-append}
use Rattle.wind_law.specs.Chains.{edge}
use Rattle.state_law.specs.Free.{AreFreeOf, AreAlike}
use Rattle.state_law.specs.State.{pair_edge}
use Rattle.front_chain.specs.declared.opening.TheConstants.{SWEEP}
use Rattle.front_chain.specs.Front.{number_between, numbered_from}
use Rattle.front_chain.proofs.Lines.{eq_sound}

-- ---- what a line sweeps
minus_none : (z : ℤ) → z -ℤ pos 0 ≡ z
minus_none z = omega (arith, ints)

pub origin_sweep : (a b : Point) → orient (record { x = pos 0; y = pos 0 }) a b ≡ sweep_of (edge a b)
origin_sweep a b = λ i. minus_none a.x i *ℤ minus_none b.y i -ℤ minus_none a.y i *ℤ minus_none b.x i

pub sweep_within : (a b : Point) → IsOnGrid a → IsOnGrid b → IsWithin SWEEP (sweep_of (edge a b))
sweep_within a b ha hb = joined (a.x *ℤ b.y) (a.y *ℤ b.x) (within_mul GRID GRID a.x b.y ha.x_within hb.y_within) (within_mul GRID GRID a.y b.x ha.y_within hb.x_within)
  where
    joined : (u w : ℤ) → IsWithin (GRID *ℤ GRID) u → IsWithin (GRID *ℤ GRID) w → IsWithin SWEEP (u -ℤ w)
    joined u w h k = record { least = omega (arith, ints, h.least, k.greatest); greatest = omega (arith, ints, h.greatest, k.least) }

-- ---- lines
pub numbered_push : (n : ℕ) (lines : List (ℕ × ℕ)) (e : ℕ × ℕ) → numbered_from n (lines ++ e ∷ []) ≡ numbered_from n lines ++ (n + length lines, e.0, e.1) ∷ []
numbered_push n [] e = ap (λ (m : ℕ). (m, e.0, e.1) ∷ []) (plain n)
  where
    plain : (n : ℕ) → n ≡ n + 0
    plain n = omega arith
numbered_push n (l ∷ lines) e = ap (λ ls. (n, l.0, l.1) ∷ ls) (numbered_push (n + 1) lines e ∙ ap (λ (m : ℕ). numbered_from (n + 1) lines ++ (m, e.0, e.1) ∷ []) (later n (length lines)))
  where
    later : (n k : ℕ) → (n + 1) + k ≡ n + suc k
    later n k = omega arith

-- two pairs that aren't alike as edges aren't equal
apart : (points : List Point) (l e : ℕ × ℕ) → (AreAlike (pair_edge points l) (pair_edge points e) → ⊥) → (nat_eq l.0 e.0 && nat_eq l.1 e.1) ≡ false
apart points l e h = by (nat_eq l.0 e.0) (nat_eq l.1 e.1) refl refl
  where
    by : (b c : Bool) → nat_eq l.0 e.0 ≡ b → nat_eq l.1 e.1 ≡ c → (b && c) ≡ false
    by true true f g = absurd (h (inl (λ i. pair_edge points (eq_sound l.0 e.0 f i, eq_sound l.1 e.1 g i))))
    by true false f g = refl
    by false c f g = refl

-- no line before has these ends
pub fresh_line : (points : List Point) (n k : ℕ) (lines : List (ℕ × ℕ)) (d : ℕ × ℕ) → AreFreeOf AreAlike (map (pair_edge points) lines) → k < length lines → number_between (numbered_from n (take k lines)) (get_or lines k d).0 (get_or lines k d).1 ≡ None
fresh_line points n k [] d h l = absurd (omega (arith, l))
fresh_line points n zero (m ∷ lines) d h l = refl
fresh_line points n (suc k) (m ∷ lines) d h l =
    ap (λ b. option_map (λ (line : ℕ × ℕ × ℕ). line.0) (cond b (Some (n, m.0, m.1)) (find (λ line. nat_eq line.1 (get_or lines k d).0 && nat_eq line.2 (get_or lines k d).1) (numbered_from (n + 1) (take k lines))))) (apart points m (get_or lines k d) (at lines k h.0 (omega (arith, l))))
    ∙ fresh_line points (n + 1) k lines d h.1 (omega (arith, l))
  where
    at : (ls : List (ℕ × ℕ)) (k : ℕ) → AllByRecursion (λ f. ¬ (AreAlike (pair_edge points m) f)) (map (pair_edge points) ls) → k < length ls → AreAlike (pair_edge points m) (pair_edge points (get_or ls k d)) → ⊥
    at [] k a l = absurd (omega (arith, l))
    at (f ∷ ls) zero a l = a.0
    at (f ∷ ls) (suc k) a l = at ls k a.1 (omega (arith, l))

pub numbered_step : (k : ℕ) (lines : List (ℕ × ℕ)) (d : ℕ × ℕ) → k < length lines → numbered_from 1 (take k lines) ++ (1 + k, (get_or lines k d).0, (get_or lines k d).1) ∷ [] ≡ numbered_from 1 (take (k + 1) lines)
numbered_step k lines d l = sym (ap (numbered_from 1) (take_more lines k d l) ∙ numbered_push 1 (take k lines) (get_or lines k d) ∙ ap (λ (m : ℕ). numbered_from 1 (take k lines) ++ (1 + m, (get_or lines k d).0, (get_or lines k d).1) ∷ []) (length-take-le k lines (omega (arith, l))))

-- ---- the area, one line further
pub area_step : (points : List Point) (lines : List (ℕ × ℕ)) (k : ℕ) (d : ℕ × ℕ) (area : ℤ) → k < length lines → area ≡ shoelace (map (pair_edge points) (take k lines)) → IsWithin (SWEEP *ℤ pos k) area →
    (s : ℤ) → s ≡ sweep_of (pair_edge points (get_or lines k d)) → IsWithin SWEEP s → (area +ℤ s ≡ shoelace (map (pair_edge points) (take (k + 1) lines))) × IsWithin (SWEEP *ℤ pos (k + 1)) (area +ℤ s)
area_step points lines k d area l e w s f v = (sum, wider k area s w v)
  where
    plus_none : (z : ℤ) → z +ℤ pos 0 ≡ z
    plus_none z = omega (arith, ints)

    sum : area +ℤ s ≡ shoelace (map (pair_edge points) (take (k + 1) lines))
    sum = (λ i. e i +ℤ f i) ∙ (λ i. shoelace (map (pair_edge points) (take k lines)) +ℤ sym (plus_none (sweep_of (pair_edge points (get_or lines k d)))) i)
        ∙ sym (shoelace-append (map (pair_edge points) (take k lines)) (pair_edge points (get_or lines k d) ∷ []))
        ∙ ap shoelace (sym (map-append (pair_edge points) (take k lines) (get_or lines k d ∷ [])) ∙ ap (map (pair_edge points)) (sym (take_more lines k d l)))

    wider : (k : ℕ) (u w : ℤ) → IsWithin (SWEEP *ℤ pos k) u → IsWithin SWEEP w → IsWithin (SWEEP *ℤ pos (k + 1)) (u +ℤ w)
    wider k u w h i = record { least = omega (arith, ints, h.least, i.least); greatest = omega (arith, ints, h.greatest, i.greatest) }

-- a sum over fewer than 2^64 lines fits
pub fits_area : (n k : ℕ) (z : ℤ) → k < n → Fits w64 n → IsWithin (SWEEP *ℤ pos (k + 1)) z → SFits w128 z
fits_area n k z l f h = omega (arith, ints, l, f, h.least, h.greatest)
