-- A side glued to a list of lines: the first line that goes its way leaves, or else a line joins at the end.
use Prim.Native.Nat.{ℕ, zero, suc, ◌+◌, ◌<◌, ◌≤◌}
use lib.ListN.{length, get_or}
use mathlib.Core.Path.{◌≡◌, refl, ap, ◌∙◌}
use mathlib.Core.Bool.{Bool, true, false, cond, ◌||◌}
use mathlib.Core.List.{List, [], ◌∷◌, ◌++◌}
use native.Mathlib.Omega.{arith}
use Rattle.std.specs.Prelude.{Some, None, nat_lt, not}
use Rattle.std.specs.List.{list_any, position, position_or_len, remove}
use Rattle.std.proofs.lemmas.List.Quantifiers.{position-Some}
use Rattle.admission.specs.declared.triangle.Line.{Line}
use Rattle.admission.specs.Around.{is_along, turned_round, glue_drawn, next_drawn}

-- ---- no line goes the side's way
past : {X : Type 0} (p : X → Bool) (xs : List X) → length xs ≤ position_or_len p xs → list_any p xs ≡ false
past p [] h = refl
past p (x ∷ xs) h = (elim (p x) as (λ (b : Bool). length (x ∷ xs) ≤ cond (not b) (1 + position_or_len p xs) 0 → (b || list_any p xs) ≡ false) [
  | true ↦ λ k. absurd (omega (arith, k))
  | false ↦ λ k. past p xs (omega (arith, k))
]) h

absent : {X : Type 0} (p : X → Bool) (xs : List X) → position p xs ≡ None → list_any p xs ≡ false
absent p xs e = (elim (nat_lt (position_or_len p xs) (length xs)) as (λ (b : Bool). nat_lt (position_or_len p xs) (length xs) ≡ b → cond b (Some (position_or_len p xs)) None ≡ None → list_any p xs ≡ false) [
  | true ↦ λ k i. absurd (cc)
  | false ↦ λ k i. past p xs (grind arith)
]) refl e

joined : (lines : List Line) (next : ℕ) (side : Line) → list_any (is_along side) lines ≡ false → glue_drawn lines next side ≡ lines ++ turned_round next side ∷ []
joined [] next side h = refl
joined (line ∷ lines) next side h = (elim (is_along side line) as (λ (b : Bool). (b || list_any (is_along side) lines) ≡ false → elim b [ true ↦ lines | false ↦ line ∷ glue_drawn lines next side ] ≡ line ∷ (lines ++ turned_round next side ∷ [])) [
  | true ↦ λ k. absurd (cc)
  | false ↦ λ k. ap (λ (ls : List Line). line ∷ ls) (joined lines next side k)
]) h

pub lines_joined : (lines : List Line) (next : ℕ) (side : Line) → position (is_along side) lines ≡ None → glue_drawn lines next side ≡ lines ++ turned_round next side ∷ []
lines_joined lines next side e = joined lines next side (absent (is_along side) lines e)

pub next_joined : (lines : List Line) (next : ℕ) (side : Line) → position (is_along side) lines ≡ None → next_drawn lines next side ≡ next + 1
next_joined lines next side e = ap (λ b. cond b next (next + 1)) (absent (is_along side) lines e)

-- ---- a line goes the side's way
left : (lines : List Line) (next : ℕ) (side : Line) (i : ℕ) (d : Line) → i < length lines → is_along side (get_or lines i d) ≡ true → ((k : ℕ) → k < i → is_along side (get_or lines k d) ≡ false) → glue_drawn lines next side ≡ remove lines i
left [] next side i d h t f = absurd (omega (arith, h))
left (line ∷ lines) next side zero d h t f = ap (λ b. elim b [ true ↦ lines | false ↦ line ∷ glue_drawn lines next side ]) t
left (line ∷ lines) next side (suc i) d h t f = ap (λ b. elim b [ true ↦ lines | false ↦ line ∷ glue_drawn lines next side ]) (f zero (omega arith))
    ∙ ap (λ (ls : List Line). line ∷ ls) (left lines next side i d (omega (arith, h)) t (λ k l. f (suc k) (omega (arith, l))))

there : (lines : List Line) (side : Line) (i : ℕ) (d : Line) → i < length lines → is_along side (get_or lines i d) ≡ true → list_any (is_along side) lines ≡ true
there [] side i d h t = absurd (omega (arith, h))
there (line ∷ lines) side zero d h t = ap (λ b. b || list_any (is_along side) lines) t
there (line ∷ lines) side (suc i) d h t = or_true (is_along side line) (list_any (is_along side) lines) (there lines side i d (omega (arith, h)) t)
  where
    or_true : (a b : Bool) → b ≡ true → (a || b) ≡ true
    or_true true b e = refl
    or_true false b e = e

pub lines_left : (lines : List Line) (next : ℕ) (side : Line) (i : ℕ) → position (is_along side) lines ≡ Some i → glue_drawn lines next side ≡ remove lines i
lines_left lines next side i e = let h = position-Some (is_along side) lines i side e in left lines next side i side h.0 h.1 h.2

pub next_left : (lines : List Line) (next : ℕ) (side : Line) (i : ℕ) → position (is_along side) lines ≡ Some i → next_drawn lines next side ≡ next
next_left lines next side i e = let h = position-Some (is_along side) lines i side e in ap (λ b. cond b next (next + 1)) (there lines side i side h.0 h.1)
