-- How an assignment that a walk finds goes on from the chosen numbers: with none left it is the chosen ones; what goes on from one number more goes
-- on from a region that holds it; and with nothing chosen its numbers are of the regions.
use Prim.Native.Nat.{ℕ, zero, suc, ◌<◌, ◌≤◌}
use native.Mathlib.Omega.{arith}
use mathlib.Core.Path.{◌≡◌, refl, sym, subst, ap, ◌∙◌}
use mathlib.Core.List.{List, [], ◌∷◌, ◌++◌}
use Rattle.std.proofs.lemmas.List.{append-nil, append_assoc}
use Rattle.std.specs.Prelude.{length, slice_index_or, slice_set, take, drop, ◌-◌}
use Rattle.std.specs.List.{Contains}
use Rattle.std.specs.declared.vec.Vec.{Vec}
use Rattle.std.specs.declared.alloc.Global.{Global}
use Rattle.rule_match.specs.Walk.{AreOf, DoesGoOn, HoldsFresh}
use Rattle.rule_match.proofs.Turns.{any_fallback}

pub holds_of : (holds : List ℕ → Type 0) (chosen : List ℕ) (regions : List (Vec ℕ Global)) (b : List ℕ) → DoesGoOn holds chosen regions b → holds b
holds_of holds chosen regions b h = h.0

-- what is chosen is whole
pub whole : (holds : List ℕ → Type 0) (b : List ℕ) → holds b → DoesGoOn holds b [] b
whole holds b h = (h, ([], sym (append-nil b), tt))

take_whole : (xs : List (Vec ℕ Global)) → take (length xs) xs ≡ xs
take_whole [] = refl
take_whole (x ∷ xs) = ap (λ (z : List (Vec ℕ Global)). x ∷ z) (take_whole xs)

-- a number of the first region that was chosen in a turn
pub goes_in_turn : (holds : List ℕ → Type 0) (a chosen items : List ℕ) (k : ℕ) (regions : List (Vec ℕ Global)) (region : Vec ℕ Global) → a ≡ chosen → 1 ≤ length regions → region ≡ slice_index_or regions 0 region → items ≡ region.items → k < length items →
    (b : List ℕ) → DoesGoOn holds (a ++ slice_index_or items k 0 ∷ []) (take (length regions - 1) (drop 1 regions)) b → DoesGoOn holds chosen regions b
goes_in_turn holds a chosen items k [] region e few is f h b g = absurd (omega (arith, few))
goes_in_turn holds a chosen items k (r ∷ regions) region e few is f h b g =
    let p : ℕ = slice_index_or items k 0 in
    let there : Contains items p = (k, h, any_fallback items k p 0 h) in
    let one_less : suc (length regions) - 1 ≡ length regions = omega arith in
    let first : Contains r.items p = subst (λ (z : Vec ℕ Global). Contains z.items p) is (subst (λ (z : List ℕ). Contains z p) f there) in
    (g.0, (p ∷ g.1.0, g.1.1 ∙ (ap (λ (z : List ℕ). (z ++ p ∷ []) ++ g.1.0) e ∙ append_assoc chosen (p ∷ []) g.1.0), (first, subst (λ (z : List (Vec ℕ Global)). AreOf z g.1.0) (take_whole regions) (subst (λ (n : ℕ). AreOf (take n regions) g.1.0) one_less g.1.2))))

-- an assignment of regions, one of which is narrowed to fresh numbers, has a fresh one
narrow_there : (fresh : List ℕ) (regions : List (Vec ℕ Global)) (k : ℕ) (narrow : Vec ℕ Global) (b : List ℕ) → k < length regions → ((p : ℕ) → Contains narrow.items p → Contains fresh p) →
    AreOf (slice_set regions k narrow) b → (k < length b) × Contains fresh (slice_index_or b k 0)
narrow_there fresh [] k narrow b h only a = absurd (omega (arith, h))
narrow_there fresh (r ∷ regions) zero narrow [] h only a = absurd a
narrow_there fresh (r ∷ regions) zero narrow (p ∷ b) h only a = (omega arith, only p a.0)
narrow_there fresh (r ∷ regions) (suc k) narrow [] h only a = absurd a
narrow_there fresh (r ∷ regions) (suc k) narrow (p ∷ b) h only a =
    let later = narrow_there fresh regions k narrow b (omega (arith, h)) only a.1 in
    (omega (arith, later.0), later.1)

pub fresh_of_narrow : (holds : List ℕ → Type 0) (fresh : List ℕ) (regions : List (Vec ℕ Global)) (k : ℕ) (narrow : Vec ℕ Global) → k < length regions → ((p : ℕ) → Contains narrow.items p → Contains fresh p) →
    (b : List ℕ) → DoesGoOn holds [] (slice_set regions k narrow) b → HoldsFresh holds fresh b
fresh_of_narrow holds fresh regions k narrow h only b g =
    let there = narrow_there fresh regions k narrow b h only (subst (AreOf (slice_set regions k narrow)) (sym g.1.1) g.1.2) in
    (g.0, (k, there.0, there.1))
