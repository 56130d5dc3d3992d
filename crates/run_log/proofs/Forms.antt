-- What reading by a form gives is what has the form, and a refusal is where a text stops.
-- By recursion on the form: each word needed is one word taken.
use Rattle.std.proofs.Common.{◌≡◌, ◌⊎◌, inl, inr, ℕ, ◌+◌, List, [], ◌∷◌, Option, Some, None, Ok, Err, refl, sym, ap}
use Rattle.run_log.specs.declared.refusal.LogRefusal.{LogRefusal}
use Rattle.run_log.specs.Form.{Word, Need, Form, Says, Wants, ◌>>=◌, Derives, Stops}
use Rattle.run_log.specs.Reading.{State, Read, then, judged, taken, read, closed}

-- the same after what was taken
then_then : {A B C : Type 0} (first : Read A) (second : A → State → Read B) (third : B → State → Read C) (whole : A → State → Read C)
    → ((x : A) (st : State) → whole x st ≡ then (second x st) third) → then first whole ≡ then (then first second) third
then_then (Ok x) second third whole same = same x.0 x.1
then_then (Err e) second third whole same = refl

-- reading one form after another
pub read_bind : {A B : Type 0} (form : Form A) (next : A → Form B) (st : State) → read (form >>= next) st ≡ then (read form st) (λ x behind. read (next x) behind)
unfolding read
read_bind (Says x) next st = refl
read_bind (Wants need rest) next st =
    then_then (taken need st.left st.at) (λ v behind. read (rest v) behind) (λ x behind. read (next x) behind) (λ v behind. read (rest v >>= next) behind) (λ v behind. read_bind (rest v) next behind)

abbrev pub from : List Word → ℕ → State
from words at = record { left = words; at = at }

-- what has the form is read
pub derived_is_read : {A : Type 0} (form : Form A) (words : List Word) (at : ℕ) (x : A) → Derives form words x → closed (read form (from words at)) ≡ Ok x
unfolding read Derives
derived_is_read (Says y) [] at x d = ap Ok (sym d)
derived_is_read (Says y) (w ∷ words) at x d = absurd d
derived_is_read (Wants need next) [] at x d = absurd d
derived_is_read (Wants need next) (w ∷ words) at x d = rw d.1 (derived_is_read (next d.0) words (at + 1) x d.2)

-- a word that is taken stands where it stands, and reading goes on behind it
word_derived : {A V : Type 0} (need : Need V) (next : V → Form A) (w : Word) (words : List Word) (at : ℕ) (x : A) (said : Option V) → need.says w ≡ said
    → ((v : V) → closed (read (next v) (from words (at + 1))) ≡ Ok x → Derives (next v) words x)
    → closed (then (judged said (need.refusal at w) (from words (at + 1))) (λ v behind. read (next v) behind)) ≡ Ok x → (v : V) × (need.says w ≡ Some v) × Derives (next v) words x
word_derived need next w words at x None is goes e = absurd cc
word_derived need next w words at x (Some v) is goes e = (v, is, goes v e)

-- what is read has the form
pub read_is_derived : {A : Type 0} (form : Form A) (words : List Word) (at : ℕ) (x : A) → closed (read form (from words at)) ≡ Ok x → Derives form words x
unfolding read Derives
read_is_derived (Says y) [] at x e = cc
read_is_derived (Says y) (w ∷ words) at x e = absurd cc
read_is_derived (Wants need next) [] at x e = absurd cc
read_is_derived (Wants {V} need next) (w ∷ words) at x e =
    word_derived need next w words at x (need.says w) refl (λ v. read_is_derived (next v) words (at + 1) x) e

-- where a text stops so, it is refused so
pub stop_is_read : {A : Type 0} (form : Form A) (words : List Word) (at : ℕ) (e : LogRefusal) → Stops form at words e → closed (read form (from words at)) ≡ Err e
unfolding read Stops
stop_is_read (Says y) [] at e s = absurd s
stop_is_read (Says y) (w ∷ words) at e s = ap Err (sym s)
stop_is_read (Wants need next) [] at e s = ap Err (sym s)
stop_is_read (Wants need next) (w ∷ words) at e (inl s) = rw s.0 (ap Err (sym s.1))
stop_is_read (Wants need next) (w ∷ words) at e (inr s) = rw s.1 (stop_is_read (next s.0) words (at + 1) e s.2)

-- a word that is refused stops the text, or one behind it does
word_stops : {A V : Type 0} (need : Need V) (next : V → Form A) (w : Word) (words : List Word) (at : ℕ) (e : LogRefusal) (said : Option V) → need.says w ≡ said
    → ((v : V) → closed (read (next v) (from words (at + 1))) ≡ Err e → Stops (next v) (at + 1) words e)
    → closed (then (judged said (need.refusal at w) (from words (at + 1))) (λ v behind. read (next v) behind)) ≡ Err e
    → ((need.says w ≡ None) × (e ≡ need.refusal at w)) ⊎ ((v : V) × (need.says w ≡ Some v) × Stops (next v) (at + 1) words e)
word_stops need next w words at e None is goes h = inl (is, cc)
word_stops need next w words at e (Some v) is goes h = inr (v, is, goes v h)

-- where a text is refused so, it stops so
pub read_is_stop : {A : Type 0} (form : Form A) (words : List Word) (at : ℕ) (e : LogRefusal) → closed (read form (from words at)) ≡ Err e → Stops form at words e
unfolding read Stops
read_is_stop (Says y) [] at e h = absurd cc
read_is_stop (Says y) (w ∷ words) at e h = cc
read_is_stop (Wants need next) [] at e h = cc
read_is_stop (Wants {V} need next) (w ∷ words) at e h =
    word_stops need next w words at e (need.says w) refl (λ v. read_is_stop (next v) words (at + 1) e) h
