-- Rows of words and numbers.
--     Appends r s t bs    after Ok the text s has grown to t by the bytes bs
--     spaced ns           the numbers, each after one space
--     spaced_signed zs    the same of whole numbers
--     row word ns         a line: the word, the spaced numbers, a line feed
use Rattle.std.specs.Prelude.{◌≡◌, ℕ, ℤ, List, [], ◌∷◌, ◌++◌, Result, OnOk, String, string_bytes}
use Rattle.std.specs.List.{flat_map}
use Rattle.std.specs.Fmt.{decimal, signed_decimal}

-- a call answered Ok only if its text has grown by these bytes at its end
abbrev pub Appends : {A E Z : Type 0} → Result A E → String Z → String Z → List ℕ → Type 0
Appends answer old new bytes = OnOk answer (string_bytes new ≡ string_bytes old ++ bytes)

-- the numbers in their order, each after one space
abbrev pub spaced : List ℕ → List ℕ
spaced numbers = flat_map (λ n. 32 ∷ decimal n) numbers

-- the whole numbers in their order, each after one space
abbrev pub spaced_signed : List ℤ → List ℕ
spaced_signed numbers = flat_map (λ z. 32 ∷ signed_decimal z) numbers

-- a line: the word, the numbers each after one space, and a line feed
abbrev pub row : List ℕ → List ℕ → List ℕ
row word numbers = word ++ spaced numbers ++ 10 ∷ []
