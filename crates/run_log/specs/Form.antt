-- Forms of texts: which word is needed first, and, with what it says, how the text goes on.
--
-- Need     a word that is needed: what a word says in its place, or how it is refused there
-- Form     what a text says word by word
-- ◌>>=◌    one form after another
-- Derives  the words that have a form, and what they say
-- Stops    the first word that can't stand where it stands, or is missing
use Rattle.std.specs.Prelude.{◌≡◌, ◌⊎◌, ℕ, zero, suc, ◌+◌, List, [], ◌∷◌, Option, Some, None}
use Rattle.run_log.specs.declared.refusal.LogRefusal.{LogRefusal}
use Rattle.run_log.specs.declared.refusal.LogRefusal.TheVariants.{Syntax}

abbrev pub Word : Type 0
Word = List ℕ

-- what a word says where it may stand, and else its refusal, by its number
pub record Need (V : Type 0) : Type 0 where
  pub says : Word → Option V
  pub refusal : ℕ → Word → LogRefusal

pub data Form (A : Type 0) : Type 1 where
  -- no word more
  Says : A → Form A
  -- a word, and then what depends on it
  Wants : {V : Type 0} → Need V → (V → Form A) → Form A

infixl 10 ◌>>=◌
abbrev pub ◌>>=◌ : {A B : Type 0} → Form A → (A → Form B) → Form B
(Says x) >>= f = f x
(Wants need next) >>= f = Wants need (λ v. next v >>= f)

-- so many one after another
abbrev pub many : {A : Type 0} → ℕ → Form A → Form (List A)
many zero form = Says []
many (suc n) form = do
  x ← form
  xs ← many n form
  Says (x ∷ xs)

-- these words have the form, and say this
unfoldable pub Derives : {A : Type 0} → Form A → List Word → A → Type 0
Derives (Says x) [] y = y ≡ x
Derives (Says x) (w ∷ words) y = ⊥
Derives (Wants need next) [] y = ⊥
Derives (Wants {V} need next) (w ∷ words) y = (v : V) × (need.says w ≡ Some v) × Derives (next v) words y

-- the first word that can't stand where it stands is refused so, or a word is missing; the first word has this number
unfoldable pub Stops : {A : Type 0} → Form A → ℕ → List Word → LogRefusal → Type 0
Stops (Says x) at [] e = ⊥
Stops (Says x) at (w ∷ words) e = e ≡ Syntax at
Stops (Wants need next) at [] e = e ≡ Syntax at
Stops (Wants {V} need next) at (w ∷ words) e = ((need.says w ≡ None) × (e ≡ need.refusal at w))
    ⊎ ((v : V) × (need.says w ≡ Some v) × Stops (next v) (at + 1) words e)
