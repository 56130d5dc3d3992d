-- Gluing one side, by what a look-up by ends answers.
use Prim.Native.Nat.{ℕ, ◌+◌}
use mathlib.Core.Path.{◌≡◌, refl, ap, ◌∙◌}
use mathlib.Core.Bool.{Bool, true, false, cond, ◌||◌}
use mathlib.Core.List.{List, [], ◌∷◌, ◌++◌}
use Rattle.std.specs.Prelude.{Some, None}
use Rattle.std.specs.Option.{option_map}
use Rattle.std.specs.List.{find, list_any}
use Rattle.state_law.specs.State.{does_join, glue_line, next_after}
use Rattle.front_chain.specs.Front.{number_between}

-- whether some line has the ends
abbrev is_there : List (ℕ × ℕ × ℕ) → ℕ → ℕ → Bool
is_there lines a b = list_any (λ line. does_join line (a, b)) lines

there : (lines : List (ℕ × ℕ × ℕ)) (a b n : ℕ) → number_between lines a b ≡ Some n → is_there lines a b ≡ true
there [] a b n e = absurd (cc)
there (line ∷ lines) a b n e = by (does_join line (a, b)) refl e (there lines a b n)
  where
    by : (c : Bool) → does_join line (a, b) ≡ c → option_map (λ (line : ℕ × ℕ × ℕ). line.0) (cond c (Some line) (find (λ line. does_join line (a, b)) lines)) ≡ Some n → (number_between lines a b ≡ Some n → is_there lines a b ≡ true) →
        (does_join line (a, b) || is_there lines a b) ≡ true
    by true f h rest = ap (λ d. d || is_there lines a b) f
    by false f h rest = ap (λ d. d || is_there lines a b) f ∙ rest h

pub not_first : (line : ℕ × ℕ × ℕ) (lines : List (ℕ × ℕ × ℕ)) (a b : ℕ) → number_between (line ∷ lines) a b ≡ None → (does_join line (a, b) ≡ false) × (number_between lines a b ≡ None)
not_first line lines a b e = by (does_join line (a, b)) refl e
  where
    by : (c : Bool) → does_join line (a, b) ≡ c → option_map (λ (line : ℕ × ℕ × ℕ). line.0) (cond c (Some line) (find (λ line. does_join line (a, b)) lines)) ≡ None → (does_join line (a, b) ≡ false) × (number_between lines a b ≡ None)
    by true f h = absurd (cc)
    by false f h = (f, h)

not_there : (lines : List (ℕ × ℕ × ℕ)) (a b : ℕ) → number_between lines a b ≡ None → is_there lines a b ≡ false
not_there [] a b e = refl
not_there (line ∷ lines) a b e = let k = not_first line lines a b e in ap (λ d. d || is_there lines a b) k.0 ∙ not_there lines a b k.1

pub next_left : (lines : List (ℕ × ℕ × ℕ)) (next a b n : ℕ) → number_between lines a b ≡ Some n → next_after lines next (a, b) ≡ next
next_left lines next a b n e = ap (λ c. cond c next (next + 1)) (there lines a b n e)

pub next_joined : (lines : List (ℕ × ℕ × ℕ)) (next a b : ℕ) → number_between lines a b ≡ None → next_after lines next (a, b) ≡ next + 1
next_joined lines next a b e = ap (λ c. cond c next (next + 1)) (not_there lines a b e)

pub lines_joined : (lines : List (ℕ × ℕ × ℕ)) (next a b : ℕ) → number_between lines a b ≡ None → glue_line lines next (a, b) ≡ lines ++ (next, b, a) ∷ []
lines_joined [] next a b e = refl
lines_joined (line ∷ lines) next a b e = let k = not_first line lines a b e in
    ap (λ c. elim c [ true ↦ lines | false ↦ line ∷ glue_line lines next (a, b) ]) k.0 ∙ ap (λ ls. line ∷ ls) (lines_joined lines next a b k.1)
