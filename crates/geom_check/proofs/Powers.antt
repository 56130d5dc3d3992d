-- Powers of ten against the limits of the grid.
use Rattle.std.proofs.Common.{◌≡◌, ℕ, zero, suc, ◌*◌, ◌/◌, ◌^◌, ◌<◌, ◌≤◌, min, max, arith, suc-mul}
use Rattle.std.proofs.Math.Nat.{pow-le-pow_right, one-le-pow, div-eq_of_lt}
use Rattle.geom_check.specs.Shift.{nearest}
use Rattle.geom_check.specs.declared.limits.TheConstants.{MOST_UNITS}
use Rattle.grid_geom.specs.declared.TheConstants.{LONGEST}

pub power_most : (e : ℕ) → e ≤ 31 → 10 ^ e ≤ 10 ^ 31
power_most e h = pow-le-pow_right {n = 10} (omega arith) h

pub power_least : (e : ℕ) → 1 ≤ 10 ^ e
power_least e = one-le-pow e 10 (omega arith)

at_least : (n p q : ℕ) → 0 < n → q ≤ p → q ≤ n * p
at_least zero p q h j = absurd (omega arith)
at_least (suc m) p q h j = omega (arith, suc-mul m p)

-- a number that is not 0 grows past the grid
pub grows_past : (n e : ℕ) → 0 < n → 4 < e → MOST_UNITS < n * 10 ^ e
grows_past n e h j = let p : 100000 ≤ 10 ^ e = pow-le-pow_right {n = 10} (omega arith) {i = 5} {j = e} (omega arith) in omega (arith, at_least n (10 ^ e) 100000 h p)

-- and past the greatest length
pub grows_longest : (n e : ℕ) → 0 < n → 5 < e → LONGEST ≡ max 1 (min LONGEST (64 * n * 10 ^ e))
grows_longest n e h j =
    let p : 1000000 ≤ 10 ^ e = pow-le-pow_right {n = 10} (omega arith) {i = 6} {j = e} (omega arith) in
    let q : 1000000 ≤ 64 * n * 10 ^ e = at_least (64 * n) (10 ^ e) 1000000 (omega arith) p in
    let r : 64 * 1000000 ≤ 64 * n * 10 ^ e = sixty_four n (10 ^ e) h p in
    omega arith
  where
    sixty_four : (n p : ℕ) → 0 < n → 1000000 ≤ p → 64 * 1000000 ≤ 64 * n * p
    sixty_four zero p h j = absurd (omega arith)
    sixty_four (suc m) p h j = omega (arith, at_least (suc m) p 1000000 h j)

-- a number of at most thirty digits shrinks to 0
pub shrinks_away : (n e : ℕ) → n < 10 ^ 30 → 31 < e → nearest n (10 ^ e) ≡ 0
shrinks_away n e h j = let p : 10 ^ 32 ≤ 10 ^ e = pow-le-pow_right {n = 10} (omega arith) {i = 32} {j = e} (omega arith) in div-eq_of_lt (omega arith)

-- and so does its length
pub shrinks_shortest : (n e : ℕ) → n < 10 ^ 30 → 31 < e → 64 * n / 10 ^ e ≡ 0
shrinks_shortest n e h j = let p : 10 ^ 32 ≤ 10 ^ e = pow-le-pow_right {n = 10} (omega arith) {i = 32} {j = e} (omega arith) in div-eq_of_lt (omega arith)
