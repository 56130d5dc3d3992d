-- The first word with which words begin none that are so.
use Rattle.std.proofs.Common.{◌≡◌, ℕ, zero, suc, ◌+◌, ◌-◌, ◌<◌, List, [], ◌∷◌, length, map, string_bytes, subst, sym, arith}
use Rattle.std.specs.Prelude.{String}
use Rattle.call_words.specs.Begun.{Begins, IsFirstOff}

abbrev Words : Type 0
Words = List (List ℕ)

-- no word is left
at_end : (P : Words → Type 0) → Begins P [] → IsFirstOff P [] 1
at_end P some = record {
  counted = omega arith;
  within = omega arith;
  before = some;
  here = λ there. absurd (omega arith);
}

-- the same of texts
pub no_text : {Z : Type 0} (P : Words → Type 0) (words : List (String Z)) → length words < 1 → Begins P [] → IsFirstOff P (map string_bytes words) 1
no_text P [] short some = at_end P some
no_text P (word ∷ words) short some = absurd (omega arith)

-- the first word is off
pub at_once : (P : Words → Type 0) (words : Words) (word : List ℕ) (rest : Words) → words ≡ word ∷ rest → Begins P [] → ((more : Words) → ¬ P (word ∷ more)) → IsFirstOff P words 1
at_once P words word rest are some off = subst (λ (ws : Words). IsFirstOff P ws 1) (sym are) (record {
  counted = omega arith;
  within = omega arith;
  before = some;
  here = λ there begins. off begins.0 begins.1;
})

-- it isn't, and leads to words that are to be otherwise
pub later : (P Q : Words → Type 0) (words : Words) (word : List ℕ) (rest : Words) (n : ℕ) → words ≡ word ∷ rest → ((more : Words) → Q more → P (word ∷ more)) → ((more : Words) → P (word ∷ more) → Q more) → IsFirstOff Q rest n → IsFirstOff P words (n + 1)
later P Q words word rest n are on back first = subst (λ (ws : Words). IsFirstOff P ws (n + 1)) (sym are) (go n first)
  where
    go : (n : ℕ) → IsFirstOff Q rest n → IsFirstOff P (word ∷ rest) (n + 1)
    go zero m = let c = m.counted in absurd (omega arith)
    go (suc k) m = let c = m.within in record {
      counted = omega arith;
      within = omega arith;
      before = let e : suc k + 1 - 1 ≡ suc (suc k - 1) = omega arith in rw e (m.before.0, on _ m.before.1);
      here = λ there. let e : suc k + 1 ≡ suc (suc k) = omega arith in rw e (λ begins. m.here (omega arith) (begins.0, back _ begins.1));
    }

-- words that are so by another account
pub alike : (P Q : Words → Type 0) (words : Words) (n : ℕ) → ((more : Words) → P more → Q more) → ((more : Words) → Q more → P more) → IsFirstOff P words n → IsFirstOff Q words n
alike P Q words n on back m = record {
  counted = m.counted;
  within = m.within;
  before = (m.before.0, on _ m.before.1);
  here = λ there begins. m.here there (begins.0, back _ begins.1);
}
