-- Numbers with a fixed number of decimals.
--     last_digits n k    the last k digits of n, with noughts where n has fewer
--     fraction n k       a point and these digits, or nothing where k is 0
--     fixed z k          z divided by 10^k, with exactly k decimals
use Rattle.std.specs.Prelude.{ℕ, zero, suc, ◌/◌, ◌%◌, ◌^◌, List, [], ◌∷◌, ◌++◌, ℤ, unsigned_abs}
use Rattle.std.specs.Int.{is_negative}
use Rattle.std.specs.Fmt.{decimal, sign_text}

-- the last k digits of n, with noughts where n has fewer
abbrev pub last_digits : ℕ → ℕ → List ℕ
last_digits n zero = []
last_digits n (suc k) = last_digits (n / 10) k ++ decimal (n % 10)

-- a point and the last k digits of n, or nothing where k is 0
abbrev pub fraction : ℕ → ℕ → List ℕ
fraction n zero = []
fraction n (suc k) = 46 ∷ last_digits n (suc k)

-- z divided by 10^k: `-` where it is below 0, the whole part, and the fraction
abbrev pub fixed : ℤ → ℕ → List ℕ
fixed z k = sign_text (is_negative z) ++ decimal (unsigned_abs z / 10 ^ k)
    ++ fraction (unsigned_abs z) k
