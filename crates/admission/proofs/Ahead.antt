-- The lines of a front one after another, by the least number above the last one: since numbers rise and are at least 1, each line comes once, in order of making.
use Prim.Native.Nat.{ℕ, ◌<◌, ◌≤◌}
use mathlib.Core.Path.{◌≡◌, refl, sym, ap, ◌∙◌, subst}
use mathlib.Core.Bool.{Bool, true, false, cond}
use mathlib.Core.List.{List, [], ◌∷◌}
use native.Mathlib.Omega.{arith}
use Rattle.std.specs.Prelude.{nat_eq, nat_lt, Option, Some, None, is_some}
use Rattle.std.specs.Option.{option_map}
use Rattle.std.specs.List.{AllByRecursion, find}
use Rattle.grid_geom.specs.declared.Point.{Point}
use Rattle.grid_geom.specs.Closed.{IsEdge}
use Rattle.state_law.specs.State.{pair_edge, front_edges, AreRising}
use Rattle.front_chain.specs.Front.{line_at, number_above}
use Rattle.admission.specs.Around.{from_number, ahead, IsThere}

-- a line by its numbers
abbrev pub Triple : Type 0
Triple = ℕ × ℕ × ℕ

pub eq_self : (n : ℕ) → nat_eq n n ≡ true
eq_self n = grind arith

pub eq_less : (m n : ℕ) → m < n → nat_eq m n ≡ false
eq_less m n h = grind arith

lt_true : (m n : ℕ) → m < n → nat_lt m n ≡ true
lt_true m n h = grind arith

lt_false : (m n : ℕ) → n ≤ m → nat_lt m n ≡ false
lt_false m n h = grind arith

-- ---- steps of the definitions
pub line_here : (line : Triple) (lines : List Triple) (n : ℕ) → nat_eq line.0 n ≡ true → line_at (line ∷ lines) n ≡ Some (line.1, line.2)
line_here line lines n e = ap (λ b. option_map (λ (l : Triple). (l.1, l.2)) (cond b (Some line) (find (λ (l : Triple). nat_eq l.0 n) lines))) e

pub line_later : (line : Triple) (lines : List Triple) (n : ℕ) → nat_eq line.0 n ≡ false → line_at (line ∷ lines) n ≡ line_at lines n
line_later line lines n e = ap (λ b. option_map (λ (l : Triple). (l.1, l.2)) (cond b (Some line) (find (λ (l : Triple). nat_eq l.0 n) lines))) e

above_here : (line : Triple) (lines : List Triple) (n : ℕ) → nat_lt n line.0 ≡ true → number_above (line ∷ lines) n ≡ Some line.0
above_here line lines n e = ap (λ b. option_map (λ (l : Triple). l.0) (cond b (Some line) (find (λ (l : Triple). nat_lt n l.0) lines))) e

above_later : (line : Triple) (lines : List Triple) (n : ℕ) → nat_lt n line.0 ≡ false → number_above (line ∷ lines) n ≡ number_above lines n
above_later line lines n e = ap (λ b. option_map (λ (l : Triple). l.0) (cond b (Some line) (find (λ (l : Triple). nat_lt n l.0) lines))) e

from_here : (line : Triple) (lines : List Triple) (n : ℕ) → nat_eq line.0 n ≡ true → from_number (line ∷ lines) n ≡ line ∷ lines
from_here line lines n e = ap (λ b. elim b [ true ↦ line ∷ lines | false ↦ from_number lines n ]) e

from_later : (line : Triple) (lines : List Triple) (n : ℕ) → nat_eq line.0 n ≡ false → from_number (line ∷ lines) n ≡ from_number lines n
from_later line lines n e = ap (λ b. elim b [ true ↦ line ∷ lines | false ↦ from_number lines n ]) e

-- ---- the first line
-- where all numbers are above n, all lines are ahead
pub all_ahead : (lines : List Triple) (n : ℕ) → AllByRecursion (λ line. n < line.0) lines → ahead lines (number_above lines n) ≡ lines
all_ahead [] n h = refl
all_ahead (line ∷ lines) n h = ap (ahead (line ∷ lines)) (above_here line lines n (lt_true n line.0 h.0)) ∙ from_here line lines line.0 (eq_self line.0)

pub positive_above : (lines : List Triple) → AllByRecursion (λ line. 1 ≤ line.0) lines → AllByRecursion (λ line. 0 < line.0) lines
positive_above [] h = tt
positive_above (line ∷ lines) h = (omega (arith, h.0), positive_above lines h.1)

-- ---- a number that is there
-- the number above n is that of a line
pub there_above : (lines : List Triple) (n : ℕ) → IsThere lines (number_above lines n)
there_above lines n = by (number_above lines n) refl
  where
    found : (lines : List Triple) (m : ℕ) → number_above lines n ≡ Some m → is_some (line_at lines m) ≡ true
    found [] m e = absurd (cc)
    found (line ∷ lines) m e = (elim (nat_lt n line.0) as (λ (b : Bool). nat_lt n line.0 ≡ b → is_some (line_at (line ∷ lines) m) ≡ true) [
      | true ↦ λ k. let s : Some line.0 ≡ Some m = sym (above_here line lines n k) ∙ e in let i : line.0 ≡ m = cc in ap is_some (line_here line lines m (subst (λ (z : ℕ). nat_eq line.0 z ≡ true) i (eq_self line.0)))
      | false ↦ λ k. let r = found lines m (sym (above_later line lines n k) ∙ e) in (elim (nat_eq line.0 m) as (λ (b : Bool). nat_eq line.0 m ≡ b → is_some (line_at (line ∷ lines) m) ≡ true) [
        | true ↦ λ j. ap is_some (line_here line lines m j)
        | false ↦ λ j. ap is_some (line_later line lines m j) ∙ r
      ]) refl
    ]) refl

    by : (o : Option ℕ) → number_above lines n ≡ o → IsThere lines o
    by None e = tt
    by (Some m) e = found lines m e

-- a number that is there, where all numbers are above k, is above k
there_more : (lines : List Triple) (k n : ℕ) → AllByRecursion (λ line. k < line.0) lines → is_some (line_at lines n) ≡ true → k < n
there_more [] k n h t = absurd (cc)
there_more (line ∷ lines) k n h t = (elim (nat_eq line.0 n) as (λ (b : Bool). nat_eq line.0 n ≡ b → k < n) [
  | true ↦ λ e. let i : line.0 ≡ n = grind arith in subst (λ (z : ℕ). k < z) i h.0
  | false ↦ λ e. there_more lines k n h.1 (ap is_some (sym (line_later line lines n e)) ∙ t)
]) refl

-- ---- the next line
more_above : (lines : List Triple) (n m : ℕ) → number_above lines n ≡ Some m → n < m
more_above [] n m e = absurd (cc)
more_above (other ∷ lines) n m e = (elim (nat_lt n other.0) as (λ (b : Bool). nat_lt n other.0 ≡ b → n < m) [
  | true ↦ λ k. let s : Some other.0 ≡ Some m = sym (above_here other lines n k) ∙ e in let i : other.0 ≡ m = cc in let l : n < other.0 = grind arith in subst (λ (z : ℕ). n < z) i l
  | false ↦ λ k. more_above lines n m (sym (above_later other lines n k) ∙ e)
]) refl

-- what is ahead of a number above that of the first line is ahead in the rest
ahead_rest : (line : Triple) (lines : List Triple) (n : ℕ) → line.0 < n → ahead (line ∷ lines) (number_above lines n) ≡ ahead lines (number_above lines n)
ahead_rest line lines n h = by (number_above lines n) refl
  where
    by : (o : Option ℕ) → number_above lines n ≡ o → ahead (line ∷ lines) o ≡ ahead lines o
    by None e = refl
    by (Some m) e = let l : n < m = more_above lines n m e in from_later line lines m (eq_less line.0 m (omega (arith, h, l)))

pub next_ahead : (lines : List Triple) (next n : ℕ) (ends : ℕ × ℕ) → AreRising lines next → line_at lines n ≡ Some ends → from_number lines n ≡ (n, ends.0, ends.1) ∷ ahead lines (number_above lines n)
next_ahead [] next n ends r t = absurd (cc)
next_ahead (line ∷ lines) next n ends r t = (elim (nat_eq line.0 n) as (λ (b : Bool). nat_eq line.0 n ≡ b → from_number (line ∷ lines) n ≡ (n, ends.0, ends.1) ∷ ahead (line ∷ lines) (number_above (line ∷ lines) n)) [
  | true ↦ λ e.
      let i : line.0 ≡ n = grind arith in
      let s : Some (line.1, line.2) ≡ Some ends = sym (line_here line lines n e) ∙ t in
      let j : (line.1, line.2) ≡ ends = cc in
      from_here line lines n e ∙ ap (λ (p : ℕ × ℕ). (line.0, p.0, p.1) ∷ lines) j ∙ ap (λ (k : ℕ). (k, ends.0, ends.1) ∷ lines) i
      ∙ ap (λ (ls : List Triple). (n, ends.0, ends.1) ∷ ls) (sym (here line lines n i r.0))
  | false ↦ λ e.
      let u : line_at lines n ≡ Some ends = sym (line_later line lines n e) ∙ t in
      let l : line.0 < n = there_more lines line.0 n r.0 (ap is_some u) in
      from_later line lines n e ∙ next_ahead lines next n ends r.2 u
      ∙ ap (λ (ls : List Triple). (n, ends.0, ends.1) ∷ ls) (sym (ap (ahead (line ∷ lines)) (above_later line lines n (lt_false n line.0 (omega (arith, l)))) ∙ ahead_rest line lines n l))
]) refl
  where
    here : (line : Triple) (lines : List Triple) (n : ℕ) → line.0 ≡ n → AllByRecursion (λ other. line.0 < other.0) lines → ahead (line ∷ lines) (number_above (line ∷ lines) n) ≡ lines
    here line lines n i h = ap (ahead (line ∷ lines)) (above_later line lines n (subst (λ (z : ℕ). nat_lt z line.0 ≡ false) i (lt_false line.0 line.0 (omega arith))))
        ∙ subst (λ (z : ℕ). ahead (line ∷ lines) (number_above lines z) ≡ lines) i (rest line lines h)
      where
        rest : (line : Triple) (lines : List Triple) → AllByRecursion (λ other. line.0 < other.0) lines → ahead (line ∷ lines) (number_above lines line.0) ≡ lines
        rest line [] h = refl
        rest line (other ∷ lines) h = ap (ahead (line ∷ other ∷ lines)) (above_here other lines line.0 (lt_true line.0 other.0 h.0)) ∙ from_later line (other ∷ lines) other.0 (eq_less line.0 other.0 h.0) ∙ from_here other lines other.0 (eq_self other.0)

-- ---- what all lines have
pub line_fact : (P : ℕ × ℕ → Type 0) (lines : List Triple) (n : ℕ) (ends : ℕ × ℕ) → AllByRecursion (λ line. P (line.1, line.2)) lines → line_at lines n ≡ Some ends → P ends
line_fact P [] n ends h t = absurd (cc)
line_fact P (line ∷ lines) n ends h t = (elim (nat_eq line.0 n) as (λ (b : Bool). nat_eq line.0 n ≡ b → P ends) [
  | true ↦ λ e. let s : Some (line.1, line.2) ≡ Some ends = sym (line_here line lines n e) ∙ t in let j : (line.1, line.2) ≡ ends = cc in subst P j h.0
  | false ↦ λ e. line_fact P lines n ends h.1 (sym (line_later line lines n e) ∙ t)
]) refl

edges_each : (points : List Point) (lines : List Triple) → AllByRecursion IsEdge (front_edges points lines) → AllByRecursion (λ line. IsEdge (pair_edge points (line.1, line.2))) lines
edges_each points [] h = tt
edges_each points (line ∷ lines) h = (h.0, edges_each points lines h.1)

pub line_edge_at : (points : List Point) (lines : List Triple) (n : ℕ) (ends : ℕ × ℕ) → AllByRecursion IsEdge (front_edges points lines) → line_at lines n ≡ Some ends → IsEdge (pair_edge points ends)
line_edge_at points lines n ends h t = line_fact (λ s. IsEdge (pair_edge points s)) lines n ends (edges_each points lines h) t
