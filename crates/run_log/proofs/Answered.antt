-- A call that answers what reading gives answers by the grammar.
use Rattle.std.proofs.Common.{◌≡◌, ◌⊎◌, inl, inr, Result, Ok, Err, List, refl}
use Rattle.std.specs.Prelude.{IfOk, IfErr, MatchResult}
use Rattle.run_log.specs.declared.refusal.LogRefusal.{LogRefusal}
use Rattle.run_log.specs.declared.refusal.LogRefusal.TheVariants.{Syntax, Number, BadIndex, NoState, Memory}
use Rattle.run_log.specs.declared.log.Log.{Log}
use Rattle.run_log.specs.Form.{Word}
use Rattle.run_log.specs.Grammar.{log, Reads, Refuses}
use Rattle.run_log.specs.Reading.{Answers, Fails, whole_read}
use Rattle.run_log.proofs.Forms.{derived_is_read, read_is_derived, stop_is_read, read_is_stop}

pub is_found : (words : List Word) (result : Result Log LogRefusal) → Answers result (whole_read log words) → IfOk result (λ said. Reads words said)
is_found words (Ok said) gives = read_is_derived log words 1 said gives
is_found words (Err e) gives = tt

-- what fails otherwise than for want of memory is what reading gives
failed : (e : LogRefusal) (given : Result Log LogRefusal) → Fails e given → (e ≡ Memory) ⊎ (given ≡ Err e)
failed Memory given fails = inl refl
failed (Syntax at) given fails = inr fails
failed (Number at) given fails = inr fails
failed (BadIndex at) given fails = inr fails
failed (NoState d k) given fails = inr fails

only_memory : (e : LogRefusal) (given : Result Log LogRefusal) (said : Log) → given ≡ Ok said → (e ≡ Memory) ⊎ (given ≡ Err e) → e ≡ Memory
only_memory e given said is (inl memory) = memory
only_memory e given said is (inr other) = absurd cc

pub is_only : (words : List Word) (result : Result Log LogRefusal) → Answers result (whole_read log words) → (said : Log) → Reads words said → MatchResult result (λ read. read ≡ said) (λ e. e ≡ Memory)
is_only words (Ok read) gives said derived = let is = derived_is_read log words 1 said derived in cc
is_only words (Err e) gives said derived =
    only_memory e (whole_read log words) said (derived_is_read log words 1 said derived) (failed e (whole_read log words) gives)

stopped : (words : List Word) (e : LogRefusal) → (e ≡ Memory) ⊎ (whole_read log words ≡ Err e) → (e ≡ Memory) ⊎ Refuses words e
stopped words e (inl memory) = inl memory
stopped words e (inr other) = inr (read_is_stop log words 1 e other)

pub is_refused : (words : List Word) (result : Result Log LogRefusal) → Answers result (whole_read log words) → IfErr result (λ e. (e ≡ Memory) ⊎ Refuses words e)
is_refused words (Ok said) gives = tt
is_refused words (Err e) gives = stopped words e (failed e (whole_read log words) gives)

same_refusal : (e f : LogRefusal) (given : Result Log LogRefusal) → given ≡ Err f → (e ≡ Memory) ⊎ (given ≡ Err e) → (e ≡ f) ⊎ (e ≡ Memory)
same_refusal e f given is (inl memory) = inr memory
same_refusal e f given is (inr other) = inl cc

pub is_refused_only : (words : List Word) (result : Result Log LogRefusal) → Answers result (whole_read log words) → (f : LogRefusal) → Refuses words f → MatchResult result (λ read. ⊥) (λ e. (e ≡ f) ⊎ (e ≡ Memory))
is_refused_only words (Ok read) gives f stops = let is = stop_is_read log words 1 f stops in absurd cc
is_refused_only words (Err e) gives f stops = same_refusal e f (whole_read log words) (stop_is_read log words 1 f stops) (failed e (whole_read log words) gives)

pub one_value : (words : List Word) (a b : Log) → Reads words a → Reads words b → a ≡ b
one_value words a b first second = let p = derived_is_read log words 1 a first in let q = derived_is_read log words 1 b second in cc

pub one_refusal : (words : List Word) (e f : LogRefusal) → Refuses words e → Refuses words f → e ≡ f
one_refusal words e f first second = let p = stop_is_read log words 1 e first in let q = stop_is_read log words 1 f second in cc

pub not_both : (words : List Word) (said : Log) (e : LogRefusal) → Reads words said → Refuses words e → ⊥
not_both words said e first second = let p = derived_is_read log words 1 said first in let q = stop_is_read log words 1 e second in absurd cc

answered : (words : List Word) (given : Result Log LogRefusal) → whole_read log words ≡ given → ((said : Log) × Reads words said) ⊎ ((e : LogRefusal) × Refuses words e)
answered words (Ok said) is = inl (said, read_is_derived log words 1 said is)
answered words (Err e) is = inr (e, read_is_stop log words 1 e is)

pub one_or_other : (words : List Word) → ((said : Log) × Reads words said) ⊎ ((e : LogRefusal) × Refuses words e)
one_or_other words = answered words (whole_read log words) refl
