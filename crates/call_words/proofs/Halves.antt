-- The first `=` in the words of the library.
use Rattle.std.proofs.Common.{◌≡◌, ℕ, suc, ◌+◌, ◌<◌, Bool, true, false, not, cond, eqb, List, [], ◌∷◌, length, take, drop, Option, Some, None, refl, ◌∙◌, ap, arith, MatchOption, Bor}
use Rattle.std.specs.Prelude.{option_map}
use Rattle.std.specs.List.{position_or_len, before_first, after_first}
use Rattle.call_words.specs.WordsRead.{halves, halves_from, longer}

abbrev place : List ℕ → ℕ
place bytes = position_or_len (λ b. eqb b 61) bytes

absent_step : (b : ℕ) (bytes : List ℕ) (t : Bool) → cond (not t) (1 + place bytes) 0 ≡ length (b ∷ bytes) → (place bytes ≡ length bytes → halves bytes ≡ None) → halves_from t b bytes (halves bytes) ≡ None
absent_step b bytes true e more = absurd (omega arith)
absent_step b bytes false e more =
    let left : place bytes ≡ length bytes = omega arith in
    ap (option_map (longer b)) (more left)

none_where_absent : (bytes : List ℕ) → place bytes ≡ length bytes → halves bytes ≡ None
none_where_absent [] e = refl
none_where_absent (b ∷ bytes) e = absent_step b bytes (eqb b 61) e (none_where_absent bytes)

take_more : (b n : ℕ) (bytes : List ℕ) → longer b (take n bytes, drop (n + 1) bytes) ≡ (take (1 + n) (b ∷ bytes), drop (1 + n + 1) (b ∷ bytes))
take_more b n bytes =
    let more : 1 + n ≡ suc n = omega arith in
    let twice : 1 + n + 1 ≡ suc (n + 1) = omega arith in
    rw (twice, more) refl

found_step : (b : ℕ) (bytes : List ℕ) (t : Bool) → cond (not t) (1 + place bytes) 0 < length (b ∷ bytes) → (place bytes < length bytes → halves bytes ≡ Some (take (place bytes) bytes, drop (place bytes + 1) bytes)) → halves_from t b bytes (halves bytes) ≡ Some (take (cond (not t) (1 + place bytes) 0) (b ∷ bytes), drop (cond (not t) (1 + place bytes) 0 + 1) (b ∷ bytes))
found_step b bytes true h more = refl
found_step b bytes false h more =
    let left : place bytes < length bytes = omega arith in
    ap (option_map (longer b)) (more left) ∙ ap Some (take_more b (place bytes) bytes)

round_the_first : (bytes : List ℕ) → place bytes < length bytes → halves bytes ≡ Some (take (place bytes) bytes, drop (place bytes + 1) bytes)
round_the_first [] h = absurd (omega arith)
round_the_first (b ∷ bytes) h = found_step b bytes (eqb b 61) h (round_the_first bytes)

pub halves_is : (bytes : List ℕ) (r : Option (Bor (List ℕ) × Bor (List ℕ))) → MatchOption r (place bytes ≡ length bytes) (λ x. (place bytes < length bytes) × (x.0.now ≡ before_first (λ b. eqb b 61) bytes) × (x.1.now ≡ after_first (λ b. eqb b 61) bytes)) → MatchOption r (halves bytes ≡ None) (λ x. halves bytes ≡ Some (x.0.now, x.1.now))
halves_is bytes None h = none_where_absent bytes h
halves_is bytes (Some x) h = rw (h.1, h.2) (round_the_first bytes h.0)
