-- The winding number summed line by line.
use Prim.Native.Nat.{ℕ, suc, ◌<◌, ◌^◌}
use lib.ListN.{length}
use lib.IntN.{ℤ, pos, negsuc, ◌+ℤ◌, ◌-ℤ◌}
use lib.Signed.{◌≤ℤ◌}
use mathlib.Core.Path.{◌≡◌, sym, ap, ◌∙◌}
use mathlib.Core.List.{List, ◌∷◌}
use native.Mathlib.Omega.{arith}
use Rattle.std.specs.Prelude.{Option, Some}
use Rattle.std.proofs.lemmas.Int.{ints, to_z-of_z}
use mir.Val.{SFits, to_z, of_z}
use mir.Syntax.{w64, w128}
use Rattle.grid_geom.specs.declared.Point.{Point}
use Rattle.grid_geom.specs.declared.RatPoint.{RatPoint}
use Rattle.grid_geom.specs.Bounds.{IsWithin}
use Rattle.grid_geom.specs.Winding.{wind, cross}
use Rattle.wind_law.specs.Chains.{edge}
use Rattle.state_law.specs.State.{front_edges}
use Rattle.admission.specs.declared.triangle.Line.{Line}
use Rattle.admission.specs.Around.{ahead, numbers_of, drawn}

-- the code's sum, with the casts gone: there are n lines in all, and k are ahead
pub stepped : (s r : ℤ) (n k : ℕ) → n < 2 ^ 64 → IsWithin (pos n -ℤ pos k) s → negsuc 0 ≤ℤ r → r ≤ℤ pos 1 → to_z w128 (of_z w128 (s +ℤ to_z w128 (of_z w128 (to_z w64 (of_z w64 r))))) ≡ s +ℤ r
stepped s r n k h hs l g = let ft : SFits w64 r = omega (arith, ints) in let fw : SFits w128 r = omega (arith, ints) in let fs : SFits w128 (s +ℤ r) = omega (arith, ints) in simp to_z-of_z

-- one more line
pub more_within : (s r : ℤ) (n : ℕ) (before after : List (ℕ × ℕ × ℕ)) (line : ℕ × ℕ × ℕ) → before ≡ line ∷ after → IsWithin (pos n -ℤ pos (length before)) s → negsuc 0 ≤ℤ r → r ≤ℤ pos 1 → IsWithin (pos n -ℤ pos (length after)) (s +ℤ r)
more_within s r n before after line e hs l g = by (length before) (length after) (ap length e) hs
  where
    by : (k m : ℕ) → k ≡ suc m → IsWithin (pos n -ℤ pos k) s → IsWithin (pos n -ℤ pos m) (s +ℤ r)
    by k m f h = record { least = omega (arith, ints); greatest = omega (arith, ints) }

-- the line that is met, at the head of those ahead
pub head_ahead : (lines : List (ℕ × ℕ × ℕ)) (next after : Option ℕ) (n : ℕ) (line : Line) → next ≡ Some n → ahead lines (Some n) ≡ numbers_of line ∷ ahead lines after → ahead lines next ≡ numbers_of line ∷ ahead lines after
head_ahead lines next after n line e f = ap (ahead lines) e ∙ f

-- the line at the head of those ahead is added
pub wind_step : (q : RatPoint) (points : List Point) (lines : List (ℕ × ℕ × ℕ)) (next after : Option ℕ) (n : ℕ) (line : Line) (w s r : ℤ) → next ≡ Some n → ahead lines (Some n) ≡ numbers_of line ∷ ahead lines after → line ≡ drawn points (numbers_of line) →
    r ≡ cross q (edge line.a line.b) → w ≡ s +ℤ wind q (front_edges points (ahead lines next)) → w ≡ (s +ℤ r) +ℤ wind q (front_edges points (ahead lines after))
wind_step q points lines next after n line w s r e f d c k =
    k ∙ ap (λ (o : Option ℕ). s +ℤ wind q (front_edges points (ahead lines o))) e ∙ ap (λ (ls : List (ℕ × ℕ × ℕ)). s +ℤ wind q (front_edges points ls)) f
    ∙ ap (λ (z : ℤ). s +ℤ (z +ℤ wind q (front_edges points (ahead lines after)))) (ap (λ (l : Line). cross q (edge l.a l.b)) (sym d) ∙ sym c) ∙ grouped s r (wind q (front_edges points (ahead lines after)))
  where
    grouped : (a b c : ℤ) → a +ℤ (b +ℤ c) ≡ (a +ℤ b) +ℤ c
    grouped a b c = omega (arith, ints)
