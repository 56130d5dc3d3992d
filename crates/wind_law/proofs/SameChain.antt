-- Equal chains: two lists in which each edge stands equally often more than its reverse have the same winding numbers, the same shoelace sums, and are closed together.
-- Any function of edges that changes its sign with the direction has the same sum over both. Stands on Counting.
use Prim.Native.Nat.{ℕ, ◌+◌}
use lib.IntN.{ℤ, pos, ◌+ℤ◌, ◌-ℤ◌}
use mathlib.Core.Path.{◌≡◌, refl, sym, ap, ◌∙◌}
use mathlib.Core.Bool.{Bool, true, false, cond}
use mathlib.Core.List.{List, [], ◌∷◌, ◌++◌}
use native.Mathlib.Omega.{arith}
use Rattle.std.proofs.lemmas.Int.{ints}
use Rattle.grid_geom.specs.declared.Point.{Point}
use Rattle.grid_geom.specs.declared.RatPoint.{RatPoint}
use Rattle.grid_geom.specs.declared.Edge.{Edge}
use Rattle.grid_geom.specs.Plane.{orient}
use Rattle.grid_geom.specs.Area.{sweep_of, shoelace}
use Rattle.grid_geom.specs.Winding.{and, cross, wind}
use Rattle.grid_geom.specs.Closed.{same_point, leaving, arriving, IsClosed}
use Rattle.grid_geom.proofs.Ring.{var, num, ◌⊕◌, ◌⊖◌, ◌⊗◌, ring}
use Rattle.wind_law.specs.Chains.{edge, back, same_edge, times, IsSameChain}
use Rattle.wind_law.proofs.Counting.{count, total, same_total}
use Rattle.wind_law.proofs.ClosedSums.{edge_test}
use Rattle.wind_law.proofs.HalfOpen.{cross_back}

abbrev backs : List Edge → List Edge
backs [] = []
backs (e ∷ es) = back e ∷ backs es

and_turn : (a b : Bool) → and a b ≡ and b a
and_turn true true = refl
and_turn true false = refl
and_turn false true = refl
and_turn false false = refl

times_backs : (x : Edge) (es : List Edge) → times x (backs es) ≡ times (back x) es
times_backs x [] = refl
times_backs x (e ∷ es) = ap (λ (b : Bool). cond b 1 0 + times x (backs es)) (and_turn (same_point e.b x.a) (same_point e.a x.b)) ∙ ap (λ (n : ℕ). cond (same_edge e (back x)) 1 0 + n) (times_backs x es)

times_append : (x : Edge) (es fs : List Edge) → times x (es ++ fs) ≡ times x es + times x fs
times_append x [] fs = none (times x fs)
  where
    none : (n : ℕ) → n ≡ 0 + n
    none n = omega arith
times_append x (e ∷ es) fs = more (cond (same_edge e x) 1 0) (times x es) (times x fs) (times x (es ++ fs)) (times_append x es fs)
  where
    more : (a b c d : ℕ) → d ≡ b + c → a + d ≡ (a + b) + c
    more a b c d e = omega arith

count_times : (x : Edge) (es : List Edge) → count same_edge x es ≡ times x es
count_times x [] = refl
count_times x (e ∷ es) = ap (λ (n : ℕ). cond (same_edge e x) 1 0 + n) (count_times x es)

-- a function that an edge's reverse gives the negative
abbrev pub IsOdd : (Edge → ℤ) → Type 0
IsOdd f = (e : Edge) → f (back e) ≡ pos 0 -ℤ f e

pub total_append : {X : Type 0} (f : X → ℤ) (es fs : List X) → total f (es ++ fs) ≡ total f es +ℤ total f fs
total_append f [] fs = none (total f fs)
  where
    none : (n : ℤ) → n ≡ pos 0 +ℤ n
    none n = omega (arith, ints)
total_append f (e ∷ es) fs = more (f e) (total f es) (total f fs) (total f (es ++ fs)) (total_append f es fs)
  where
    more : (a b c d : ℤ) → d ≡ b +ℤ c → a +ℤ d ≡ (a +ℤ b) +ℤ c
    more a b c d e = omega (arith, ints)

total_backs : (f : Edge → ℤ) → IsOdd f → (es : List Edge) → total f (backs es) ≡ pos 0 -ℤ total f es
total_backs f odd [] = refl
total_backs f odd (e ∷ es) = more (f e) (total f es) (f (back e)) (total f (backs es)) (odd e) (total_backs f odd es)
  where
    more : (a b c d : ℤ) → c ≡ pos 0 -ℤ a → d ≡ pos 0 -ℤ b → c +ℤ d ≡ pos 0 -ℤ (a +ℤ b)
    more a b c d e h = omega (arith, ints)

-- so any such function has the same sum over lists that are the same chain
pub same_chain : (f : Edge → ℤ) → IsOdd f → (es fs : List Edge) → IsSameChain es fs → total f es ≡ total f fs
same_chain f odd es fs h = halved (total f es) (total f fs) (total f (es ++ backs fs)) (total f (backs (es ++ backs fs))) (total_append f es (backs fs) ∙ ap (λ (z : ℤ). total f es +ℤ z) (total_backs f odd fs)) (total_backs f odd (es ++ backs fs))
    (same_total same_edge edge_test f (es ++ backs fs) (backs (es ++ backs fs)) (λ x. count_times x (es ++ backs fs) ∙ times_append x es (backs fs) ∙ ap (λ (n : ℕ). times x es + n) (times_backs x fs) ∙ h.balanced x
    ∙ sym (count_times x (backs (es ++ backs fs)) ∙ times_backs x (es ++ backs fs) ∙ times_append (back x) es (backs fs) ∙ ap (λ (n : ℕ). times (back x) es + n) (times_backs (back x) fs))))
  where
    halved : (a b c d : ℤ) → c ≡ a +ℤ (pos 0 -ℤ b) → d ≡ pos 0 -ℤ c → c ≡ d → a ≡ b
    halved a b c d e h j = omega (arith, ints)

-- ---- winding numbers
wind_total : (q : RatPoint) (es : List Edge) → wind q es ≡ total (cross q) es
wind_total q [] = refl
wind_total q (e ∷ es) = ap (λ (z : ℤ). cross q e +ℤ z) (wind_total q es)

-- chains that are the same have the same winding numbers
pub same_wind : (q : RatPoint) (es fs : List Edge) → IsSameChain es fs → wind q es ≡ wind q fs
same_wind q es fs h = wind_total q es ∙ same_chain (cross q) (λ e. cross_back q e.a e.b) es fs h ∙ sym (wind_total q fs)

-- ---- doubled areas
shoelace_total : (es : List Edge) → shoelace es ≡ total sweep_of es
shoelace_total [] = refl
shoelace_total (e ∷ es) = ap (λ (z : ℤ). sweep_of e +ℤ z) (shoelace_total es)

sweep_back : (e : Edge) → sweep_of (back e) ≡ pos 0 -ℤ sweep_of e
sweep_back e = ring (e.a.x ∷ e.a.y ∷ e.b.x ∷ e.b.y ∷ []) (var 2 ⊗ var 1 ⊖ var 3 ⊗ var 0) (num (pos 0) ⊖ (var 0 ⊗ var 3 ⊖ var 1 ⊗ var 2)) refl

pub same_area : (es fs : List Edge) → IsSameChain es fs → shoelace es ≡ shoelace fs
same_area es fs h = shoelace_total es ∙ same_chain sweep_of sweep_back es fs h ∙ sym (shoelace_total fs)

pub area_back : (a b : Point) → shoelace (edge a b ∷ edge b a ∷ []) ≡ pos 0
area_back a b = ends (sweep_of (edge a b)) (sweep_of (edge b a)) (sweep_back (edge a b))
  where
    ends : (c d : ℤ) → d ≡ pos 0 -ℤ c → c +ℤ (d +ℤ pos 0) ≡ pos 0
    ends c d s = omega (arith, ints)

-- a cut at a point of the edge's line
pub area_cut : (a b m : Point) → orient a b m ≡ pos 0 → shoelace (edge a m ∷ edge m b ∷ []) ≡ shoelace (edge a b ∷ [])
area_cut a b m h = parts (sweep_of (edge a m)) (sweep_of (edge m b)) (sweep_of (edge a b)) (ring (a.x ∷ a.y ∷ b.x ∷ b.y ∷ m.x ∷ m.y ∷ [])
    ((var 0 ⊗ var 3 ⊖ var 1 ⊗ var 2) ⊖ ((var 0 ⊗ var 5 ⊖ var 1 ⊗ var 4) ⊕ (var 4 ⊗ var 3 ⊖ var 5 ⊗ var 2))) ((var 2 ⊖ var 0) ⊗ (var 5 ⊖ var 1) ⊖ (var 3 ⊖ var 1) ⊗ (var 4 ⊖ var 0)) refl ∙ h)
  where
    parts : (c d e : ℤ) → e -ℤ (c +ℤ d) ≡ pos 0 → c +ℤ (d +ℤ pos 0) ≡ e +ℤ pos 0
    parts c d e h = omega (arith, ints)

-- ---- closedness
-- an edge leaves w, less that it arrives there
abbrev leaves : Point → Edge → ℤ
leaves w e = pos (cond (same_point e.a w) 1 0) -ℤ pos (cond (same_point e.b w) 1 0)

leaves_total : (w : Point) (es : List Edge) → total (leaves w) es ≡ pos (leaving w es) -ℤ pos (arriving w es)
leaves_total w [] = refl
leaves_total w (e ∷ es) = joined (cond (same_point e.a w) 1 0) (cond (same_point e.b w) 1 0) (leaving w es) (arriving w es) (total (leaves w) es) (leaves_total w es)
  where
    joined : (a b l r : ℕ) (t : ℤ) → t ≡ pos l -ℤ pos r → (pos a -ℤ pos b) +ℤ t ≡ pos (a + l) -ℤ pos (b + r)
    joined a b l r t e = omega (arith, ints)

leaves_back : (w : Point) → IsOdd (leaves w)
leaves_back w e = turned (pos (cond (same_point e.b w) 1 0)) (pos (cond (same_point e.a w) 1 0))
  where
    turned : (x y : ℤ) → x -ℤ y ≡ pos 0 -ℤ (y -ℤ x)
    turned x y = omega (arith, ints)

pub same_closed : (es fs : List Edge) → IsSameChain es fs → IsClosed es → IsClosed fs
same_closed es fs h c = record { balanced = λ w. balanced (leaving w es) (arriving w es) (leaving w fs) (arriving w fs) (total (leaves w) es) (total (leaves w) fs) (c.balanced w) (leaves_total w es) (leaves_total w fs) (same_chain (leaves w) (leaves_back w) es fs h) }
  where
    balanced : (l r m n : ℕ) (s t : ℤ) → l ≡ r → s ≡ pos l -ℤ pos r → t ≡ pos m -ℤ pos n → s ≡ t → m ≡ n
    balanced l r m n s t e f g h = omega (arith, ints)
