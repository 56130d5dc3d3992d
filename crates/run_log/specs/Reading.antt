-- Reading by a form, word by word.
--
-- State    the words that are left, and the number of the next one
-- read     what is read of the front of the words, and the state behind it, or the refusal that is met
-- whole_read    what all words say, or the refusal that is met
-- Gives    a call gave what reading gives, unless memory ran out
use Rattle.std.specs.Prelude.{◌≡◌, ℕ, ◌+◌, List, [], ◌∷◌, Option, Some, None, Result, Ok, Err}
use Rattle.run_log.specs.declared.refusal.LogRefusal.{LogRefusal}
use Rattle.run_log.specs.declared.refusal.LogRefusal.TheVariants.{Syntax, Memory}
use Rattle.run_log.specs.Form.{Word, Need, Form, Says, Wants}

pub record State : Type 0 where
  pub left : List Word
  pub at : ℕ

abbrev pub Read : Type 0 → Type 0
Read A = Result (A × State) LogRefusal

-- and then, unless it was refused
abbrev pub then : {A B : Type 0} → Read A → (A → State → Read B) → Read B
then (Ok x) f = f x.0 x.1
then (Err e) f = Err e

abbrev pub judged : {V : Type 0} → Option V → LogRefusal → State → Read V
judged None e st = Err e
judged (Some v) e st = Ok (v, st)

-- the next word, where one is needed
abbrev pub taken : {V : Type 0} → Need V → List Word → ℕ → Read V
taken need [] at = Err (Syntax at)
taken need (w ∷ words) at =
    judged (need.says w) (need.refusal at w) (record { left = words; at = at + 1 })

abbrev pub word_at : {V : Type 0} → Need V → State → Read V
word_at need st = taken need st.left st.at

unfoldable pub read : {A : Type 0} → Form A → State → Read A
read (Says x) st = Ok (x, st)
read (Wants need next) st = then (word_at need st) (λ v behind. read (next v) behind)

-- no word may be left
abbrev pub ended_read : {A : Type 0} → A → List Word → ℕ → Result A LogRefusal
ended_read x [] at = Ok x
ended_read x (w ∷ words) at = Err (Syntax at)

abbrev pub closed : {A : Type 0} → Read A → Result A LogRefusal
closed (Ok x) = ended_read x.0 x.1.left x.1.at
closed (Err e) = Err e

abbrev pub whole_read : {A : Type 0} → Form A → List Word → Result A LogRefusal
whole_read form words = closed (read form (record { left = words; at = 1 }))

-- what was returned is what reading gives, unless memory ran out
abbrev pub Fails : {Y : Type 0} → LogRefusal → Result Y LogRefusal → Type 0
Fails Memory read = Unit {0}
Fails e read = read ≡ Err e

abbrev pub Gives : {Y : Type 0} → Result Y LogRefusal → State → Read Y → Type 0
Gives (Ok x) st read = read ≡ Ok (x, st)
Gives (Err e) st read = Fails e read

abbrev pub Answers : {Y : Type 0} → Result Y LogRefusal → Result Y LogRefusal → Type 0
Answers (Ok x) read = read ≡ Ok x
Answers (Err e) read = Fails e read
