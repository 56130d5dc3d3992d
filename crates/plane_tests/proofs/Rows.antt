-- A row that passes a test is found.
use Rattle.std.proofs.Common.{◌≡◌, ℕ, ◌+◌, Bool, true, false, ◌||◌, cond, List, [], ◌∷◌, Option, Some, IsSome, refl}
use Rattle.std.specs.List.{position_from, list_any}

found_later : (b later : Bool) (i : ℕ) (rest : Option ℕ) → (later ≡ true → IsSome rest) →
    (b || later) ≡ true → IsSome (cond b (Some i) rest)
found_later true later i rest h e = refl
found_later false later i rest h e = h e

pub row_is_known : {A : Type 0} (test : A → Bool) (items : List A) (i : ℕ) →
    list_any test items ≡ true → IsSome (position_from test i items)
row_is_known test [] i e = cc
row_is_known test (x ∷ xs) i e =
    found_later (test x) (list_any test xs) i (position_from test (i + 1) xs) (row_is_known test xs (i + 1)) e
