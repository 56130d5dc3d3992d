-- What holds of the first items of a list, and of one more.
use Rattle.std.proofs.Common.{◌≡◌, ℕ, ◌+◌, ◌<◌, List, length, slice_index_or, inl, inr, subst, ◌∙◌, ap, arith}
use Rattle.std.proofs.lemmas.Bool.{cases_lt}
use Rattle.std.proofs.lemmas.List.{get_or_default}

pub each_more : {X : Type 0} (P : X → Type 0) (xs : List X) (i : ℕ) (d : X) → i < length xs → P (slice_index_or xs i d) → ((k : ℕ) (e : X) → k < i → P (slice_index_or xs k e)) → (k : ℕ) (e : X) → k < i + 1 → P (slice_index_or xs k e)
each_more P xs i d h here before k e l = elim (cases_lt k i) [
  | inl n ↦ before k e n
  | inr n ↦ let m : i ≡ k = omega arith in subst P (get_or_default xs i d e h ∙ ap (λ z. slice_index_or xs z e) m) here
]
