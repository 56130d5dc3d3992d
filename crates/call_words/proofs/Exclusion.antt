-- Words ask for one task at most, have one fault at most, and never both.
use Rattle.std.proofs.Common.{◌≡◌, ◌≢◌, ℕ, List, [], ◌∷◌, Option, Some, None, refl, sym, ◌∙◌, ap, subst}
use Rattle.std.specs.Prelude.{bytes_eq, if◌then◌else◌, option_map, option_and_then}
use Rattle.word_scan.specs.declared.decimals.Dec.{Dec}
use Rattle.word_scan.specs.Numerals.{whole_of}
use Rattle.word_scan.specs.Decimals.{decimal_of}
use Rattle.call_words.specs.declared.words_fault.WordsFault.{WordsFault}
use Rattle.call_words.specs.declared.words_fault.WordsFault.TheVariants.{NoVerb, UnknownVerb, Form, Value, SameName}
use Rattle.call_words.specs.declared.command.Verb.{Verb}
use Rattle.call_words.specs.declared.command.Verb.TheVariants as verbs
use Rattle.call_words.specs.declared.command.MeshOptions.{MeshOptions}
use Rattle.call_words.specs.CommandLine.{Given, nothing_given}
use Rattle.call_words.specs.Commands.{verb_word, IsForm, Task, MeshOf, GeomOf, RulesOf, CheckOf, ViewOf, ReplayOf, GenOf, verb_of, IsWholeFrom, IsSize, HasValue, AreOptions, StandFor, Calls, HasOneName, IsFaultOf, IsCommandOf, IsFault, IsCommand}
use Rattle.call_words.proofs.WordsRead.{one_reading, some_of}

abbrev Words : Type 0
Words = List (List ℕ)

-- ---- a verb by its word

abbrev verb_or : List ℕ → Verb → Option Verb → Option Verb
verb_or word verb next = if bytes_eq word (verb_word verb) then Some verb else next

abbrev verb_from : List ℕ → Option Verb
verb_from word = verb_or word verbs.Mesh (verb_or word verbs.Geom (verb_or word verbs.Rules (verb_or word verbs.Check (verb_or word verbs.View (verb_or word verbs.Replay (verb_or word verbs.Gen None))))))

from_word : (verb : Verb) → verb_from (verb_word verb) ≡ Some verb
from_word verbs.Mesh = refl
from_word verbs.Geom = refl
from_word verbs.Rules = refl
from_word verbs.Check = refl
from_word verbs.View = refl
from_word verbs.Replay = refl
from_word verbs.Gen = refl

one_verb : (v w : Verb) → verb_word v ≡ verb_word w → v ≡ w
one_verb v w e = some_of v w (sym (from_word v) ∙ ap verb_from e ∙ from_word w)

pub same_start : (v w : Verb) (rest more : Words) → verb_word v ∷ rest ≡ verb_word w ∷ more → (v ≡ w) × (rest ≡ more)
same_start v w rest more e =
    let h : verb_word v ≡ verb_word w = cc in
    let t : rest ≡ more = cc in
    (one_verb v w h, t)

-- ---- a task by its places and options

abbrev value_from : {A : Type 0} → (List ℕ → Option A) → Option (List ℕ) → Option (Option A)
value_from f None = Some None
value_from f (Some word) = option_map Some (f word)

has_size : (word : Option (List ℕ)) (value : Option Dec) → HasValue IsSize word value → value_from decimal_of word ≡ Some value
has_size None value h = ap Some (sym h)
has_size (Some word) value h = ap (option_map Some) h.1.written ∙ ap Some (sym h.2)

has_whole : (least greatest : ℕ) (word : Option (List ℕ)) (value : Option ℕ) → HasValue (IsWholeFrom least greatest) word value → value_from (λ w. whole_of w greatest) word ≡ Some value
has_whole least greatest None value h = ap Some (sym h)
has_whole least greatest (Some word) value h = ap (option_map Some) h.1.written ∙ ap Some (sym h.2)

abbrev options_from : Given → Option MeshOptions
options_from given =
    option_and_then (λ maxh.
    option_and_then (λ grading.
    option_and_then (λ class.
    option_map (λ steps. record { maxh = maxh; grading = grading; class = class; steps = steps })
    (value_from (λ w. whole_of w 1000000000000) given.steps))
    (value_from (λ w. whole_of w 16) given.class))
    (value_from (λ w. whole_of w 10000) given.grading))
    (value_from decimal_of given.maxh)

has_options : (given : Given) (options : MeshOptions) → AreOptions given options → options_from given ≡ Some options
has_options given options p =
    rw (has_size given.maxh options.maxh p.maxh, has_whole 0 10000 given.grading options.grading p.grading, has_whole 1 16 given.class options.class p.class, has_whole 0 1000000000000 given.steps options.steps p.steps) refl

abbrev first : Words → List ℕ
first [] = []
first (word ∷ words) = word

abbrev behind : Words → Words
behind [] = []
behind (word ∷ words) = words

abbrev task_from : Verb → Words → Given → Option Task
task_from verbs.Mesh places given = option_map (λ options. MeshOf (record { geometry = first places; rules = first (behind places); mesh = first (behind (behind places)); log = first (behind (behind (behind places))); options = options })) (options_from given)
task_from verbs.Geom places given = Some (GeomOf (first places))
task_from verbs.Rules places given = Some (RulesOf (first places))
task_from verbs.Check places given = Some (CheckOf (first places) (first (behind places)))
task_from verbs.View places given = option_and_then (λ domain. option_map (ViewOf (first places) domain) (whole_of (first (behind (behind places))) 1000000000000)) (whole_of (first (behind places)) 64)
task_from verbs.Replay places given = Some (ReplayOf (first places) (first (behind places)) (first (behind (behind places))))
task_from verbs.Gen places given = option_and_then (λ squares. option_map (GenOf squares) (whole_of (first (behind places)) 16)) (whole_of (first places) 8)

stands : (places : Words) (given : Given) (task : Task) → StandFor places given task → task_from (verb_of task) places given ≡ Some task
stands places given (MeshOf task) h = rw (h.0, has_options given task.options h.1) refl
stands places given (GeomOf geometry) h = ap (λ (ps : Words). Some (GeomOf (first ps))) h
stands places given (RulesOf rules) h = ap (λ (ps : Words). Some (RulesOf (first ps))) h
stands places given (CheckOf geometry mesh) h = ap (λ (ps : Words). Some (CheckOf (first ps) (first (behind ps)))) h
stands places given (ViewOf log domain step) h = rw (h.2, h.3.written, h.4.written) refl
stands places given (ReplayOf geometry rules log) h = ap (λ (ps : Words). Some (ReplayOf (first ps) (first (behind ps)) (first (behind (behind ps))))) h
stands places given (GenOf squares parts) h = rw (h.2, h.3.written, h.4.written) refl

one_task : (places others : Words) (given more : Given) (t u : Task) → places ≡ others → given ≡ more → verb_of t ≡ verb_of u → StandFor places given t → StandFor others more u → t ≡ u
one_task places others given more t u p g v h k =
    let a = stands places given t h in
    let b = stands others more u k in
    let same : task_from (verb_of t) places given ≡ task_from (verb_of u) others more = rw (p, g, v) refl in
    some_of t u (sym a ∙ same ∙ b)

-- ---- the words after a verb

form_of_call : (verb : Verb) (words : Words) (task : Task) (places : Words) (given : Given) → verb_of task ≡ verb → IsForm (verb_of task) words places given → IsForm verb words places given
form_of_call verb words task places given v form = subst (λ (w : Verb). IsForm w words places given) v form

stand_there : (places others : Words) (given more : Given) (task : Task) → places ≡ others → given ≡ more → StandFor places given task → StandFor others more task
stand_there places others given more task p g h = subst (λ (ps : Words). StandFor ps more task) p (subst (λ (now : Given). StandFor places now task) g h)

one_call : (words : Words) (t u : Task) → verb_of t ≡ verb_of u → Calls words t → Calls words u → t ≡ u
one_call words t u v p q =
    let r = one_reading nothing_given words p.0 q.0 p.1 q.1 p.2.reads q.2.reads in
    one_task p.0 q.0 p.1 q.1 t u r.0 r.1 v p.3 q.3

call_never : (verb : Verb) (words : Words) (t : Task) (fault : WordsFault) → IsCommandOf verb words t → IsFaultOf verb words fault → ⊥
call_never verb words t NoVerb p q = q
call_never verb words t UnknownVerb p q = q
call_never verb words t Form p q = q p.1.0 p.1.1 (form_of_call verb words t p.1.0 p.1.1 p.0 p.1.2)
call_never verb words t Value p q =
    let r = one_reading nothing_given words p.1.0 q.0 p.1.1 q.1 p.1.2.reads q.2.reads in
    q.3 t p.0 (stand_there p.1.0 q.0 p.1.1 q.1 t r.0 r.1 p.1.3)
call_never verb words t SameName p q = p.2 (subst HasOneName (sym (one_call words t q.0 (p.0 ∙ sym q.1) p.1 q.2)) q.3)

not_value : (verb : Verb) (words : Words) → IsFaultOf verb words Value → IsFaultOf verb words SameName → ⊥
not_value verb words p q =
    let r = one_reading nothing_given words q.2.0 p.0 q.2.1 p.1 q.2.2.reads p.2.reads in
    p.3 q.0 q.1 (stand_there q.2.0 p.0 q.2.1 p.1 q.0 r.0 r.1 q.2.3)

not_form : (verb : Verb) (words : Words) → IsFaultOf verb words Form → IsFaultOf verb words SameName → ⊥
not_form verb words p q = p q.2.0 q.2.1 (form_of_call verb words q.0 q.2.0 q.2.1 q.1 q.2.2)

fault_of : (verb : Verb) (words : Words) (f g : WordsFault) → IsFaultOf verb words f → IsFaultOf verb words g → f ≡ g
fault_of verb words NoVerb g p q = absurd p
fault_of verb words UnknownVerb g p q = absurd p
fault_of verb words Form NoVerb p q = absurd q
fault_of verb words Form UnknownVerb p q = absurd q
fault_of verb words Form Form p q = refl
fault_of verb words Form Value p q = absurd (p q.0 q.1 q.2)
fault_of verb words Form SameName p q = absurd (not_form verb words p q)
fault_of verb words Value NoVerb p q = absurd q
fault_of verb words Value UnknownVerb p q = absurd q
fault_of verb words Value Form p q = absurd (q p.0 p.1 p.2)
fault_of verb words Value Value p q = refl
fault_of verb words Value SameName p q = absurd (not_value verb words p q)
fault_of verb words SameName NoVerb p q = absurd q
fault_of verb words SameName UnknownVerb p q = absurd q
fault_of verb words SameName Form p q = absurd (not_form verb words q p)
fault_of verb words SameName Value p q = absurd (not_value verb words q p)
fault_of verb words SameName SameName p q = refl

-- ---- the words

-- the words are a verb, and those after it have the fault
abbrev HasRest : Words → WordsFault → Type 0
HasRest words fault = (verb : Verb) × (rest : Words) × (words ≡ verb_word verb ∷ rest) × IsFaultOf verb rest fault

moved : (v w : Verb) (rest more : Words) (fault : WordsFault) → (v ≡ w) × (rest ≡ more) → IsFaultOf w more fault → IsFaultOf v rest fault
moved v w rest more fault s h = subst (λ (ws : Words). IsFaultOf v ws fault) (sym s.1) (subst (λ (x : Verb). IsFaultOf x more fault) (sym s.0) h)

both_have_rest : (words : Words) (f g : WordsFault) → HasRest words f → HasRest words g → f ≡ g
both_have_rest words f g p q =
    let s = same_start p.0 q.0 p.1 q.1 (sym p.2 ∙ q.2) in
    fault_of p.0 p.1 f g p.3 (moved p.0 q.0 p.1 q.1 g s q.3)

not_empty : (words rest : Words) (word : List ℕ) → words ≡ [] → words ≡ word ∷ rest → ⊥
not_empty words rest word e h = absurd cc

not_unknown : (words rest more : Words) (word : List ℕ) (verb : Verb) → words ≡ word ∷ rest → ((verb : Verb) → word ≢ verb_word verb) → words ≡ verb_word verb ∷ more → ⊥
not_unknown words rest more word verb e unknown h = let same : word ≡ verb_word verb = cc in unknown verb same

pub one_fault : (words : Words) (f g : WordsFault) → IsFault words f → IsFault words g → f ≡ g
one_fault words NoVerb NoVerb p q = refl
one_fault words NoVerb UnknownVerb p q = absurd (not_empty words q.1 q.0 p q.2)
one_fault words NoVerb Form p q = absurd (not_empty words q.1 (verb_word q.0) p q.2)
one_fault words NoVerb Value p q = absurd (not_empty words q.1 (verb_word q.0) p q.2)
one_fault words NoVerb SameName p q = absurd (not_empty words q.1 (verb_word q.0) p q.2)
one_fault words UnknownVerb NoVerb p q = absurd (not_empty words p.1 p.0 q p.2)
one_fault words UnknownVerb UnknownVerb p q = refl
one_fault words UnknownVerb Form p q = absurd (not_unknown words p.1 q.1 p.0 q.0 p.2 p.3 q.2)
one_fault words UnknownVerb Value p q = absurd (not_unknown words p.1 q.1 p.0 q.0 p.2 p.3 q.2)
one_fault words UnknownVerb SameName p q = absurd (not_unknown words p.1 q.1 p.0 q.0 p.2 p.3 q.2)
one_fault words Form NoVerb p q = absurd (not_empty words p.1 (verb_word p.0) q p.2)
one_fault words Form UnknownVerb p q = absurd (not_unknown words q.1 p.1 q.0 p.0 q.2 q.3 p.2)
one_fault words Form Form p q = refl
one_fault words Form Value p q = both_have_rest words Form Value p q
one_fault words Form SameName p q = both_have_rest words Form SameName p q
one_fault words Value NoVerb p q = absurd (not_empty words p.1 (verb_word p.0) q p.2)
one_fault words Value UnknownVerb p q = absurd (not_unknown words q.1 p.1 q.0 p.0 q.2 q.3 p.2)
one_fault words Value Form p q = both_have_rest words Value Form p q
one_fault words Value Value p q = refl
one_fault words Value SameName p q = both_have_rest words Value SameName p q
one_fault words SameName NoVerb p q = absurd (not_empty words p.1 (verb_word p.0) q p.2)
one_fault words SameName UnknownVerb p q = absurd (not_unknown words q.1 p.1 q.0 p.0 q.2 q.3 p.2)
one_fault words SameName Form p q = both_have_rest words SameName Form p q
one_fault words SameName Value p q = both_have_rest words SameName Value p q
one_fault words SameName SameName p q = refl

never_with_rest : (words : Words) (t : Task) (fault : WordsFault) → IsCommand words t → HasRest words fault → ⊥
never_with_rest words t fault p q =
    let s = same_start p.0 q.0 p.1 q.1 (sym p.2 ∙ q.2) in
    call_never p.0 p.1 t fault p.3 (moved p.0 q.0 p.1 q.1 fault s q.3)

pub never_both : (words : Words) (t : Task) (fault : WordsFault) → IsCommand words t → IsFault words fault → ⊥
never_both words t NoVerb p q = not_empty words p.1 (verb_word p.0) q p.2
never_both words t UnknownVerb p q = not_unknown words q.1 p.1 q.0 p.0 q.2 q.3 p.2
never_both words t Form p q = never_with_rest words t Form p q
never_both words t Value p q = never_with_rest words t Value p q
never_both words t SameName p q = never_with_rest words t SameName p q

pub one_command : (words : Words) (t u : Task) → IsCommand words t → IsCommand words u → t ≡ u
one_command words t u p q =
    let s = same_start p.0 q.0 p.1 q.1 (sym p.2 ∙ q.2) in
    one_call p.1 t u (p.3.0 ∙ s.0 ∙ sym q.3.0) p.3.1 (subst (λ (ws : Words). Calls ws u) (sym s.1) q.3.1)
