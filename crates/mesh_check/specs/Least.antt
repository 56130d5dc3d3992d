-- The least pair of numbers with a property, and the least number.
use Rattle.std.specs.Prelude.{◌≡◌, ◌⊎◌, ℕ, ◌<◌, ◌≤◌, min, Option, Some, None, IfSome, IfNone}

-- the pair x is less than y, or the same: by their first numbers, and then by their second ones
abbrev pub NotAfter : ℕ × ℕ → ℕ × ℕ → Type 0
NotAfter x y = (x.0 < y.0) ⊎ ((x.0 ≡ y.0) × (x.1 ≤ y.1))

-- it is the least pair with P, and there is none where it is absent
abbrev pub IsLeast : (ℕ → ℕ → Type 0) → Option (ℕ × ℕ) → Type 0
IsLeast P None = (i j : ℕ) → ¬ P i j
IsLeast P (Some pair) = P pair.0 pair.1 × ((i j : ℕ) → P i j → NotAfter pair (i, j))

-- it is the least number with P, and there is none where it is absent
abbrev pub IsLeastNumber : (ℕ → Type 0) → Option ℕ → Type 0
IsLeastNumber P None = (i : ℕ) → ¬ P i
IsLeastNumber P (Some n) = P n × ((i : ℕ) → P i → n ≤ i)

-- r is the lesser of a pair that may be absent and another one
pub record IsLesser (best : Option (ℕ × ℕ)) (other r : ℕ × ℕ) : Type 0 where
  pub kept : IfNone best (r ≡ other)
  pub one : IfSome best (λ b. (r ≡ b) ⊎ (r ≡ other))
  pub first : IfSome best (NotAfter r)
  pub second : NotAfter r other

-- the lesser of two numbers, each of which may be absent
abbrev pub least_of : Option ℕ → Option ℕ → Option ℕ
least_of None second = second
least_of (Some m) None = Some m
least_of (Some m) (Some n) = Some (min m n)
