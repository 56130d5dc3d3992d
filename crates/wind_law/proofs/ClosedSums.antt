-- Along a closed list of edges no function of the points gains anything: what its edges gain cancels, since at each point as many leave as arrive.
-- Stands on Counting. This is the only place where it is used that a list is closed.
use lib.IntN.{ℤ, pos, ◌+ℤ◌, ◌-ℤ◌}
use mathlib.Core.Path.{◌≡◌, refl, sym, ap, ◌∙◌, subst}
use mathlib.Core.Bool.{Bool, true, false, cond}
use mathlib.Core.List.{List, [], ◌∷◌}
use Prim.Native.Nat.{ℕ, ◌+◌}
use lib.Dec.{T}
use native.Mathlib.Omega.{arith}
use Rattle.std.proofs.lemmas.Int.{ints}
use Rattle.std.proofs.lemmas.Bool.Decides.{Decides-int_eq}
use Rattle.std.specs.Ordering.{int_eq}
use Rattle.grid_geom.specs.declared.Point.{Point}
use Rattle.grid_geom.specs.declared.Edge.{Edge}
use Rattle.grid_geom.specs.Winding.{and}
use Rattle.grid_geom.specs.Closed.{same_point, leaving, arriving, IsClosed}
use Rattle.wind_law.specs.Chains.{same_edge}
use Rattle.wind_law.proofs.Counting.{IsTestOfEqual, count, total, same_total}

-- ---- the tests of points and of edges
pub both_first : (a b : Bool) → and a b ≡ true → a ≡ true
both_first true b e = refl
both_first false b e = e

pub both_second : (a b : Bool) → and a b ≡ true → b ≡ true
both_second true b e = e
both_second false b e = absurd (subst (λ (b : Bool). T b) (sym e) tt)

pub both_true : (a b : Bool) → a ≡ true → b ≡ true → and a b ≡ true
both_true true b e f = f
both_true false b e f = e

pub point_test : IsTestOfEqual same_point
point_test = record {
  sound = λ u w e. same_parts u w ((Decides-int_eq u.x w.x).0 (both_first (int_eq u.x w.x) (int_eq u.y w.y) e)) ((Decides-int_eq u.y w.y).0 (both_second (int_eq u.x w.x) (int_eq u.y w.y) e));
  reflexive = λ u. both_true (int_eq u.x u.x) (int_eq u.y u.y) ((Decides-int_eq u.x u.x).1 refl) ((Decides-int_eq u.y u.y).1 refl);
}
  where
    same_parts : (u w : Point) → u.x ≡ w.x → u.y ≡ w.y → u ≡ w
    same_parts u w h j = ap (λ (z : ℤ). record { x = z; y = u.y }) h ∙ ap (λ (z : ℤ). record { x = w.x; y = z }) j

pub edge_test : IsTestOfEqual same_edge
edge_test = record {
  sound = λ e f h. same_ends e f (point_test.sound e.a f.a (both_first (same_point e.a f.a) (same_point e.b f.b) h)) (point_test.sound e.b f.b (both_second (same_point e.a f.a) (same_point e.b f.b) h));
  reflexive = λ e. both_true (same_point e.a e.a) (same_point e.b e.b) (point_test.reflexive e.a) (point_test.reflexive e.b);
}
  where
    same_ends : (e f : Edge) → e.a ≡ f.a → e.b ≡ f.b → e ≡ f
    same_ends e f h j = ap (λ (z : Point). record { a = z; b = e.b }) h ∙ ap (λ (z : Point). record { a = f.a; b = z }) j

-- ---- the ends of a list of edges
abbrev pub starts : List Edge → List Point
starts [] = []
starts (e ∷ es) = e.a ∷ starts es

abbrev pub ends : List Edge → List Point
ends [] = []
ends (e ∷ es) = e.b ∷ ends es

pub count_starts : (x : Point) (es : List Edge) → count same_point x (starts es) ≡ leaving x es
count_starts x [] = refl
count_starts x (e ∷ es) = ap (λ (n : ℕ). cond (same_point e.a x) 1 0 + n) (count_starts x es)

pub count_ends : (x : Point) (es : List Edge) → count same_point x (ends es) ≡ arriving x es
count_ends x [] = refl
count_ends x (e ∷ es) = ap (λ (n : ℕ). cond (same_point e.b x) 1 0 + n) (count_ends x es)

-- ---- what a function of the points gains along the edges
abbrev pub gain : (Point → ℤ) → List Edge → ℤ
gain g [] = pos 0
gain g (e ∷ es) = (g e.b -ℤ g e.a) +ℤ gain g es

gain_is : (g : Point → ℤ) (es : List Edge) → gain g es ≡ total g (ends es) -ℤ total g (starts es)
gain_is g [] = refl
gain_is g (e ∷ es) = joined (g e.b) (g e.a) (total g (ends es)) (total g (starts es)) (gain g es) (gain_is g es)
  where
    joined : (b a s t n : ℤ) → n ≡ s -ℤ t → (b -ℤ a) +ℤ n ≡ (b +ℤ s) -ℤ (a +ℤ t)
    joined b a s t n e = omega (arith, ints)

pub gain_closed : (g : Point → ℤ) (es : List Edge) → IsClosed es → gain g es ≡ pos 0
gain_closed g es h = nothing (gain g es) (total g (ends es)) (total g (starts es)) (gain_is g es) (same_total same_point point_test g (starts es) (ends es) (λ x. count_starts x es ∙ h.balanced x ∙ sym (count_ends x es)))
  where
    nothing : (n s t : ℤ) → n ≡ s -ℤ t → t ≡ s → n ≡ pos 0
    nothing n s t e f = omega (arith, ints)
