-- Where the front of a list ends whose elements pass a test.
use Rattle.std.proofs.Common.{◌≡◌, ◌≤◌, ◌<◌, ℕ, Bool, true, false, List, length, get_or, sym, arith}
use Rattle.std.specs.List.{prefix_len}
use Rattle.std.proofs.lemmas.List.Sums.{prefix_len_is}

pub stops_at : (p : ℕ → Bool) (bytes : List ℕ) (n : ℕ) → n ≤ length bytes → ((k : ℕ) → k < n → p (get_or bytes k 0) ≡ true) → p (get_or bytes n 0) ≡ false → n ≡ prefix_len p bytes
stops_at p bytes n inside passes fails = sym (prefix_len_is p bytes n 0 inside passes (λ _. fails))

pub stops_past : (p : ℕ → Bool) (bytes : List ℕ) (n : ℕ) → n ≤ length bytes → ((k : ℕ) → k < n → p (get_or bytes k 0) ≡ true) → length bytes ≤ n → n ≡ prefix_len p bytes
stops_past p bytes n inside passes past = sym (prefix_len_is p bytes n 0 inside passes (λ lt. absurd (omega arith)))
