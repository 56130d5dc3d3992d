-- The regions of a rule's points hold each assignment that fits.
use Prim.Native.Nat.{ℕ, zero, suc, ◌+◌, ◌<◌}
use native.Mathlib.Omega.{arith}
use mathlib.Core.Path.{◌≡◌, refl, sym, subst, ap, ◌∙◌}
use mathlib.Core.List.{List, [], ◌∷◌, ◌++◌}
use mathlib.Core.Logic.{inl, inr}
use Rattle.std.proofs.lemmas.Bool.{cases_lt}
use Rattle.std.proofs.lemmas.List.Elements.{Contains-append_left, Contains-append_right}
use Rattle.std.specs.Prelude.{true, Option, Some, slice_get, slice_index_or, length}
use Rattle.std.specs.Option.{option_map_or}
use Rattle.std.specs.List.{Contains, list_all}
use Rattle.std.specs.declared.vec.Vec.{Vec}
use Rattle.std.specs.declared.alloc.Global.{Global}
use Rattle.std.proofs.lemmas.List.{append_assoc}
use Rattle.rule_reader.specs.declared.rule.MapPoint.{MapPoint}
use Rattle.rule_match.specs.Fitting.{both_known, is_met, fits_so_far}
use Rattle.rule_match.specs.Trying.{Setting, point_test, point_tie, point_ties, ties}
use Rattle.rule_match.specs.Walk.{AreOf}
use Rattle.rule_match.proofs.Prefixes.{both}
use Rattle.rule_match.proofs.NextPoint.{points_of}

-- each region has all numbers that may be mapped at its position; there may be fewer regions than points
abbrev pub AreRegions : Setting → ℕ → List (Vec ℕ Global) → List MapPoint → Type 0
AreRegions s k [] ms = Unit {0}
AreRegions s k (v ∷ vs) [] = ⊥
AreRegions s k (v ∷ vs) (m ∷ ms) = ((n : ℕ) → point_test s k m n ≡ true → Contains v.items n) × AreRegions s (k + 1) vs ms

-- one region more
one_more : (s : Setting) (k j : ℕ) (vs : List (Vec ℕ Global)) (v : Vec ℕ Global) (ms : List MapPoint) → length vs ≡ j → j < length ms → AreRegions s k vs ms →
    ((d : MapPoint) (n : ℕ) → point_test s (k + j) (slice_index_or ms j d) n ≡ true → Contains v.items n) → AreRegions s k (vs ++ v ∷ []) ms
one_more s k j vs v [] e h r c = absurd (omega (arith, h))
one_more s k zero [] v (m ∷ ms) e h r c = (λ n t. c m n (subst (λ (z : ℕ). point_test s z m n ≡ true) (omega arith) t), tt)
one_more s k (suc j) [] v (m ∷ ms) e h r c = absurd (omega (arith, e))
one_more s k zero (w ∷ vs) v (m ∷ ms) e h r c = absurd (omega (arith, e))
one_more s k (suc j) (w ∷ vs) v (m ∷ ms) e h r c =
    (r.0, one_more s (k + 1) j vs v ms (omega (arith, e)) (omega (arith, h)) r.1 (λ d n t. c d n (subst (λ (z : ℕ). point_test s z (slice_index_or ms j d) n ≡ true) (omega arith) t)))

-- one region more, after those of the first positions
pub next_region : (s : Setting) (j : ℕ) (vs new : List (Vec ℕ Global)) (v : Vec ℕ Global) → new ≡ vs ++ v ∷ [] → length vs ≡ j → j < length s.rule.points → AreRegions s 0 vs s.rule.points →
    ((d : MapPoint) (n : ℕ) → point_test s j (slice_index_or s.rule.points j d) n ≡ true → Contains v.items n) → AreRegions s 0 new s.rule.points
next_region s j vs new v e l h r c = subst (λ (z : List (Vec ℕ Global)). AreRegions s 0 z s.rule.points) (sym e)
    (one_more s 0 j vs v s.rule.points l h r (λ d n t. c d n (subst (λ (z : ℕ). point_test s z (slice_index_or s.rule.points j d) n ≡ true) (omega arith) t)))

get_at : (pre : List ℕ) (x : ℕ) (rest : List ℕ) (k : ℕ) → k ≡ length pre → slice_get (pre ++ x ∷ rest) k ≡ Some x
get_at [] x rest zero e = refl
get_at [] x rest (suc k) e = absurd (omega (arith, e))
get_at (y ∷ pre) x rest zero e = absurd (omega (arith, e))
get_at (y ∷ pre) x rest (suc k) e = get_at pre x rest k (omega (arith, e))

longer : (pre : List ℕ) (x : ℕ) → length (pre ++ x ∷ []) ≡ length pre + 1
longer [] x = refl
longer (y ∷ pre) x = omega (arith, longer pre x)

from_here : (s : Setting) (k : ℕ) (vs : List (Vec ℕ Global)) (ms : List MapPoint) (pre b : List ℕ) → k ≡ length pre → length b ≡ length vs → AreRegions s k vs ms → length vs ≡ length ms →
    list_all (is_met (pre ++ b)) (point_ties s k ms) ≡ true → AreOf vs b
from_here s k [] ms pre [] e l r c h = tt
from_here s k [] ms pre (x ∷ b) e l r c h = absurd (omega (arith, l))
from_here s k (v ∷ vs) ms pre [] e l r c h = absurd (omega (arith, l))
from_here s k (v ∷ vs) [] pre (x ∷ b) e l r c h = absurd r
from_here s k (v ∷ vs) (m ∷ ms) pre (x ∷ b) e l r c h =
    let g : (is_met (pre ++ x ∷ b) (point_tie s k m) ≡ true) × (list_all (is_met (pre ++ x ∷ b)) (point_ties s (k + 1) ms) ≡ true) = both (is_met (pre ++ x ∷ b) (point_tie s k m)) (list_all (is_met (pre ++ x ∷ b)) (point_ties s (k + 1) ms)) h in
    let t : point_test s k m x ≡ true = sym (ap (λ (z : Option ℕ). option_map_or (λ ns. point_test s k m (slice_index_or ns 0 0)) (both_known z (Some [])) true) (get_at pre x b k e)) ∙ g.0 in (
      r.0 x t,
      from_here s (k + 1) vs ms (pre ++ x ∷ []) b (omega (arith, e, longer pre x)) (omega (arith, l)) r.1 (omega (arith, c))
          (subst (λ (z : List ℕ). list_all (is_met z) (point_ties s (k + 1) ms) ≡ true) (sym (append_assoc pre (x ∷ []) b)) g.1),
    )

-- each assignment that fits is of the regions
pub covered : (s : Setting) (vs : List (Vec ℕ Global)) (b : List ℕ) → AreRegions s 0 vs s.rule.points → length vs ≡ length s.rule.points → length b ≡ length s.rule.points → fits_so_far (ties s) b ≡ true → AreOf vs b
covered s vs b r c l h = from_here s 0 vs s.rule.points [] b refl (omega (arith, l, c)) r c (points_of s b h)

-- ---- one number more in a region
pub kept : (P : ℕ → Type 0) (old new : List ℕ) (n : ℕ) → new ≡ old ++ n ∷ [] → ((m : ℕ) → m < n → P m → Contains old m) → (m : ℕ) → m < n + 1 → P m → Contains new m
kept P old new n e h m i p = subst (λ (z : List ℕ). Contains z m) (sym e) (elim (cases_lt m n) [
  | inl j ↦ Contains-append_left old (n ∷ []) m (h m j p)
  | inr j ↦ Contains-append_right old (n ∷ []) m (0, omega arith, omega (arith, i, j))
])

pub passed : (P : ℕ → Type 0) (old : List ℕ) (n : ℕ) → (P n → ⊥) → ((m : ℕ) → m < n → P m → Contains old m) → (m : ℕ) → m < n + 1 → P m → Contains old m
passed P old n f h m i p = elim (cases_lt m n) [
  | inl j ↦ h m j p
  | inr j ↦ absurd (f (subst P (omega (arith, i, j)) p))
]
