-- The places of a form, one by one.
use Rattle.std.proofs.Common.{◌≡◌, ℕ, ◌<◌, Bool, true, false, zero, suc, List, [], ◌∷◌, length, Option, Some, None, refl, sym, ap, ◌∙◌, subst, arith}
use Rattle.std.specs.Prelude.{slice_get}
use Rattle.std.specs.Option.{option_copied}
use Rattle.call_words.specs.declared.form.Form.{Form}
use Rattle.call_words.specs.CommandLine.{Given, nothing_given}
use Rattle.call_words.specs.WordsRead.{given_of, reading}
use Rattle.call_words.specs.Forms.{Has, IsRead, HasNot, HasNotAlone}
use Rattle.call_words.proofs.WordsRead.{some_of, none_some}

abbrev Words : Type 0
Words = List (List ℕ)

one_is : (places : Words) (a : List ℕ) → length places ≡ 1 → slice_get places 0 ≡ Some a → places ≡ a ∷ []
one_is [] a n e = absurd (omega arith)
one_is (p ∷ []) a n e = ap (λ (x : List ℕ). x ∷ []) (some_of p a e)
one_is (p ∷ q ∷ places) a n e = absurd (omega arith)

more_is : (places : Words) (k : ℕ) (a : List ℕ) (rest : Words) → length places ≡ suc k → slice_get places 0 ≡ Some a → ((more : Words) → length more ≡ k → places ≡ a ∷ more → more ≡ rest) → places ≡ a ∷ rest
more_is [] k a rest n e more = absurd (omega arith)
more_is (p ∷ places) k a rest n e more = let is : p ≡ a = some_of p a e in ap (λ (x : List ℕ). x ∷ places) is ∙ ap (λ (xs : Words). a ∷ xs) (more places (omega arith) (ap (λ (x : List ℕ). x ∷ places) is))

got : (places more : Words) (a : List ℕ) (k : ℕ) (b : List ℕ) → places ≡ a ∷ more → slice_get places (suc k) ≡ Some b → slice_get more k ≡ Some b
got places more a k b e g = ap (λ (xs : Words). slice_get xs (suc k)) (sym e) ∙ g

two_is : (places : Words) (a b : List ℕ) → length places ≡ 2 → slice_get places 0 ≡ Some a → slice_get places 1 ≡ Some b → places ≡ a ∷ b ∷ []
two_is places a b n e f = more_is places 1 a (b ∷ []) n e (λ more m is. one_is more b m (got places more a 0 b is f))

three_is : (places : Words) (a b c : List ℕ) → length places ≡ 3 → slice_get places 0 ≡ Some a → slice_get places 1 ≡ Some b → slice_get places 2 ≡ Some c → places ≡ a ∷ b ∷ c ∷ []
three_is places a b c n e f g = more_is places 2 a (b ∷ c ∷ []) n e (λ more m is. two_is more b c m (got places more a 0 b is f) (got places more a 1 c is g))

four_is : (places : Words) (a b c d : List ℕ) → length places ≡ 4 → slice_get places 0 ≡ Some a → slice_get places 1 ≡ Some b → slice_get places 2 ≡ Some c → slice_get places 3 ≡ Some d → places ≡ a ∷ b ∷ c ∷ d ∷ []
four_is places a b c d n e f g h = more_is places 3 a (b ∷ c ∷ d ∷ []) n e (λ more m is. three_is more b c d m (got places more a 0 b is f) (got places more a 1 c is g) (got places more a 2 d is h))

read_as : (words places wanted : Words) (all given : Given) → reading None nothing_given words ≡ Some (places, all) → places ≡ wanted → all ≡ given → reading None nothing_given words ≡ Some (wanted, given)
read_as words places wanted all given r e f = r ∙ (λ i. Some (e i, f i))

pub one_found : (words : Words) (whole : Option Form) (form : Form) (a : List ℕ) → IsRead 1 false words whole → whole ≡ Some form → option_copied form.first ≡ Some a → reading None nothing_given words ≡ Some (a ∷ [], nothing_given)
one_found words whole form a r w e = go (subst (IsRead 1 false words) w r)
  where
    go : IsRead 1 false words (Some form) → reading None nothing_given words ≡ Some (a ∷ [], nothing_given)
    go h = read_as words h.0 (a ∷ []) h.1 nothing_given h.2 (one_is h.0 a h.3.0 (sym h.4.first ∙ e)) (h.3.1 refl)

pub two_found : (words : Words) (whole : Option Form) (form : Form) (a b : List ℕ) → IsRead 2 false words whole → whole ≡ Some form → option_copied form.first ≡ Some a → option_copied form.second ≡ Some b → reading None nothing_given words ≡ Some (a ∷ b ∷ [], nothing_given)
two_found words whole form a b r w e f = go (subst (IsRead 2 false words) w r)
  where
    go : IsRead 2 false words (Some form) → reading None nothing_given words ≡ Some (a ∷ b ∷ [], nothing_given)
    go h = read_as words h.0 (a ∷ b ∷ []) h.1 nothing_given h.2 (two_is h.0 a b h.3.0 (sym h.4.first ∙ e) (sym h.4.second ∙ f)) (h.3.1 refl)

pub three_found : (words : Words) (whole : Option Form) (form : Form) (a b c : List ℕ) → IsRead 3 false words whole → whole ≡ Some form → option_copied form.first ≡ Some a → option_copied form.second ≡ Some b → option_copied form.third ≡ Some c → reading None nothing_given words ≡ Some (a ∷ b ∷ c ∷ [], nothing_given)
three_found words whole form a b c r w e f g = go (subst (IsRead 3 false words) w r)
  where
    go : IsRead 3 false words (Some form) → reading None nothing_given words ≡ Some (a ∷ b ∷ c ∷ [], nothing_given)
    go h = read_as words h.0 (a ∷ b ∷ c ∷ []) h.1 nothing_given h.2 (three_is h.0 a b c h.3.0 (sym h.4.first ∙ e) (sym h.4.second ∙ f) (sym h.4.third ∙ g)) (h.3.1 refl)

pub four_found : (words : Words) (whole : Option Form) (form : Form) (a b c d : List ℕ) → IsRead 4 true words whole → whole ≡ Some form → option_copied form.first ≡ Some a → option_copied form.second ≡ Some b → option_copied form.third ≡ Some c → option_copied form.fourth ≡ Some d → reading None nothing_given words ≡ Some (a ∷ b ∷ c ∷ d ∷ [], given_of form.settings)
four_found words whole form a b c d r w e f g k = go (subst (IsRead 4 true words) w r)
  where
    go : IsRead 4 true words (Some form) → reading None nothing_given words ≡ Some (a ∷ b ∷ c ∷ d ∷ [], given_of form.settings)
    go h = read_as words h.0 (a ∷ b ∷ c ∷ d ∷ []) h.1 (given_of form.settings) h.2 (four_is h.0 a b c d h.3.0 (sym h.4.first ∙ e) (sym h.4.second ∙ f) (sym h.4.third ∙ g) (sym h.4.fourth ∙ k)) (sym h.4.given)

-- nothing was found
pub none_alone : (n : ℕ) (words : Words) (whole : Option Form) → IsRead n false words whole → whole ≡ None → HasNotAlone n (reading None nothing_given words)
none_alone n words whole r w = go (subst (IsRead n false words) w r)
  where
    go : IsRead n false words None → HasNotAlone n (reading None nothing_given words)
    go h places count reads = h places nothing_given reads (count, λ o. refl)

pub none_four : (words : Words) (whole : Option Form) → IsRead 4 true words whole → whole ≡ None → HasNot 4 (reading None nothing_given words)
none_four words whole r w = go (subst (IsRead 4 true words) w r)
  where
    go : IsRead 4 true words None → HasNot 4 (reading None nothing_given words)
    go h places all count reads = h places all reads (count, λ o. absurd cc)

-- where something was found, each place was
abbrev slot : ℕ → Form → Option (List ℕ)
slot zero form = option_copied form.first
slot (suc zero) form = option_copied form.second
slot (suc (suc zero)) form = option_copied form.third
slot (suc (suc (suc k))) form = option_copied form.fourth

none_past : (places : Words) (k : ℕ) → k < length places → slice_get places k ≡ None → ⊥
none_past [] k lt e = absurd (omega arith)
none_past (p ∷ places) zero lt e = none_some p (sym e)
none_past (p ∷ places) (suc k) lt e = none_past places k (omega arith) e

pub never : (n : ℕ) (opts : Bool) (k : ℕ) (words : Words) (whole : Option Form) (form : Form) → IsRead n opts words whole → whole ≡ Some form → k < n → k < 4 → slot k form ≡ None → ⊥
never n opts k words whole form r w lt four e = go (subst (IsRead n opts words) w r)
  where
    at : (k : ℕ) (places : Words) (all : Given) → k < 4 → Has form places all → slot k form ≡ slice_get places k
    at zero places all lt h = h.first
    at (suc zero) places all lt h = h.second
    at (suc (suc zero)) places all lt h = h.third
    at (suc (suc (suc zero))) places all lt h = h.fourth
    at (suc (suc (suc (suc k)))) places all lt h = absurd (omega arith)

    go : IsRead n opts words (Some form) → ⊥
    go h = let count = h.3.0 in none_past h.0 k (omega arith) (sym (at k h.0 h.1 four h.4) ∙ e)
