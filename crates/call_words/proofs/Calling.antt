-- Words after a verb: which task they stand for, and which fault they have.
use Rattle.std.proofs.Common.{◌≡◌, ◌≢◌, ℕ, List, [], ◌∷◌, length, Some, None, Result, Ok, Err, IfOk, IfErr, String, Global, map, string_bytes, refl, sym, ◌∙◌, ap, subst}
use Rattle.call_words.specs.declared.words_fault.WordsFault.{WordsFault}
use Rattle.call_words.specs.declared.words_fault.WordsFault.TheVariants.{NoVerb, UnknownVerb, Form, Value, SameName}
use Rattle.call_words.specs.declared.command.Verb.{Verb}
use Rattle.call_words.specs.declared.command.Verb.TheVariants as verbs
use Rattle.call_words.specs.declared.command.Command.{Command}
use Rattle.call_words.specs.declared.command.MeshOptions.{MeshOptions}
use Rattle.call_words.specs.CommandLine.{Given, nothing_given}
use Rattle.call_words.specs.WordsRead.{reading}
use Rattle.call_words.specs.Forms.{HasNot, HasNotAlone}
use Rattle.call_words.specs.Commands.{verb_word, place_count, MayBeGiven, IsForm, Task, MeshOf, GeomOf, RulesOf, CheckOf, ViewOf, ReplayOf, GenOf, verb_of, IsWholeFrom, AreOptions, StandFor, IsFaultOf, IsCommandOf, IsFault, IsCommand, task_of}
use Rattle.call_words.proofs.WordsRead.{reads_from, read_again}

abbrev Words : Type 0
Words = List (List ℕ)

-- the words are read so
abbrev pub IsReadAs : Words → Words → Given → Type 0
IsReadAs words places given = reading None nothing_given words ≡ Some (places, given)

in_form : (verb : Verb) (words places : Words) (given : Given) → IsReadAs words places given → length places ≡ place_count verb → MayBeGiven verb given → IsForm verb words places given
in_form verb words places given e n may = record { reads = reads_from words None nothing_given places given e; count = n; options = may }

at_form : (verb : Verb) (words : Words) (fault : WordsFault) → fault ≡ Form → ((places : Words) (given : Given) → ¬ IsForm verb words places given) → IsFaultOf verb words fault
at_form verb words fault e h = subst (IsFaultOf verb words) (sym e) h

pub refused_alone : (verb : Verb) (words : Words) (fault : WordsFault) → ((given : Given) → MayBeGiven verb given → given ≡ nothing_given) → fault ≡ Form → HasNotAlone (place_count verb) (reading None nothing_given words) → IsFaultOf verb words fault
refused_alone verb words fault alone e never = at_form verb words fault e (λ places given form. never places form.count (read_again form.reads ∙ ap (λ (g : Given). Some (places, g)) (alone given form.options)))

pub refused_mesh : (words : Words) (fault : WordsFault) → fault ≡ Form → HasNot 4 (reading None nothing_given words) → IsFaultOf verbs.Mesh words fault
refused_mesh words fault e never = at_form verbs.Mesh words fault e (λ places given form. never places given form.count (read_again form.reads))

at_value : (verb : Verb) (words places : Words) (given : Given) (fault : WordsFault) → fault ≡ Value → IsForm verb words places given → ((task : Task) → verb_of task ≡ verb → ¬ StandFor places given task) → IsFaultOf verb words fault
at_value verb words places given fault e form h = subst (IsFaultOf verb words) (sym e) (places, given, form, h)

pub geom_calls : (words : Words) (geometry : List ℕ) → IsReadAs words (geometry ∷ []) nothing_given → IsCommandOf verbs.Geom words (GeomOf geometry)
geom_calls words geometry e = (refl, (geometry ∷ [], nothing_given, in_form verbs.Geom words _ _ e refl refl, refl), λ h. h)

pub rules_calls : (words : Words) (rules : List ℕ) → IsReadAs words (rules ∷ []) nothing_given → IsCommandOf verbs.Rules words (RulesOf rules)
rules_calls words rules e = (refl, (rules ∷ [], nothing_given, in_form verbs.Rules words _ _ e refl refl, refl), λ h. h)

pub check_calls : (words : Words) (geometry mesh : List ℕ) → IsReadAs words (geometry ∷ mesh ∷ []) nothing_given → IsCommandOf verbs.Check words (CheckOf geometry mesh)
check_calls words geometry mesh e = (refl, (geometry ∷ mesh ∷ [], nothing_given, in_form verbs.Check words _ _ e refl refl, refl), λ h. h)

pub replay_calls : (words : Words) (geometry rules log : List ℕ) → IsReadAs words (geometry ∷ rules ∷ log ∷ []) nothing_given → IsCommandOf verbs.Replay words (ReplayOf geometry rules log)
replay_calls words geometry rules log e = (refl, (geometry ∷ rules ∷ log ∷ [], nothing_given, in_form verbs.Replay words _ _ e refl refl, refl), λ h. h)

-- ---- mesh

pub mesh_calls : (words : Words) (geometry rules mesh log : List ℕ) (given : Given) (options : MeshOptions) → IsReadAs words (geometry ∷ rules ∷ mesh ∷ log ∷ []) given → AreOptions given options → mesh ≢ log → IsCommandOf verbs.Mesh words (MeshOf (record { geometry = geometry; rules = rules; mesh = mesh; log = log; options = options }))
mesh_calls words geometry rules mesh log given options e o differ = (refl, (geometry ∷ rules ∷ mesh ∷ log ∷ [], given, in_form verbs.Mesh words _ _ e refl tt, (refl, o)), differ)

pub one_name : (words : Words) (geometry rules mesh log : List ℕ) (given : Given) (options : MeshOptions) → IsReadAs words (geometry ∷ rules ∷ mesh ∷ log ∷ []) given → AreOptions given options → mesh ≡ log → IsFaultOf verbs.Mesh words SameName
one_name words geometry rules mesh log given options e o same =
    (MeshOf (record { geometry = geometry; rules = rules; mesh = mesh; log = log; options = options }), refl, (geometry ∷ rules ∷ mesh ∷ log ∷ [], given, in_form verbs.Mesh words _ _ e refl tt, (refl, o)), same)

no_mesh : (places : Words) (given : Given) → ((options : MeshOptions) → ¬ AreOptions given options) → (task : Task) → verb_of task ≡ verbs.Mesh → ¬ StandFor places given task
no_mesh places given never (MeshOf task) v h = never task.options h.1
no_mesh places given never (GeomOf _) v h = absurd cc
no_mesh places given never (RulesOf _) v h = absurd cc
no_mesh places given never (CheckOf _ _) v h = absurd cc
no_mesh places given never (ViewOf _ _ _) v h = absurd cc
no_mesh places given never (ReplayOf _ _ _) v h = absurd cc
no_mesh places given never (GenOf _ _) v h = absurd cc

pub mesh_value : (words : Words) (fault : WordsFault) (geometry rules mesh log : List ℕ) (given : Given) → IsReadAs words (geometry ∷ rules ∷ mesh ∷ log ∷ []) given → fault ≡ Value → ((options : MeshOptions) → ¬ AreOptions given options) → IsFaultOf verbs.Mesh words fault
mesh_value words fault geometry rules mesh log given e v never = at_value verbs.Mesh words _ given fault v (in_form verbs.Mesh words _ given e refl tt) (no_mesh _ given never)

-- ---- view

abbrev IsDomain : List ℕ → ℕ → Type 0
IsDomain = IsWholeFrom 1 64

abbrev IsStep : List ℕ → ℕ → Type 0
IsStep = IsWholeFrom 0 1000000000000

pub view_calls : (words : Words) (log d s : List ℕ) (domain step : ℕ) → IsReadAs words (log ∷ d ∷ s ∷ []) nothing_given → IsDomain d domain → IsStep s step → IsCommandOf verbs.View words (ViewOf log domain step)
view_calls words log d s domain step e p q = (refl, (log ∷ d ∷ s ∷ [], nothing_given, in_form verbs.View words _ _ e refl refl, (d, s, refl, p, q)), λ h. h)

second_is : (a b c x y z : List ℕ) → a ∷ b ∷ c ∷ [] ≡ x ∷ y ∷ z ∷ [] → y ≡ b
second_is a b c x y z e = cc

third_is : (a b c x y z : List ℕ) → a ∷ b ∷ c ∷ [] ≡ x ∷ y ∷ z ∷ [] → z ≡ c
third_is a b c x y z e = cc

no_domain : (log d s : List ℕ) → ((n : ℕ) → ¬ IsDomain d n) → (task : Task) → verb_of task ≡ verbs.View → ¬ StandFor (log ∷ d ∷ s ∷ []) nothing_given task
no_domain log d s never (ViewOf l domain step) v h = never domain (subst (λ (w : List ℕ). IsDomain w domain) (second_is log d s l h.0 h.1 h.2) h.3)
no_domain log d s never (MeshOf _) v h = absurd cc
no_domain log d s never (GeomOf _) v h = absurd cc
no_domain log d s never (RulesOf _) v h = absurd cc
no_domain log d s never (CheckOf _ _) v h = absurd cc
no_domain log d s never (ReplayOf _ _ _) v h = absurd cc
no_domain log d s never (GenOf _ _) v h = absurd cc

no_step : (log d s : List ℕ) → ((n : ℕ) → ¬ IsStep s n) → (task : Task) → verb_of task ≡ verbs.View → ¬ StandFor (log ∷ d ∷ s ∷ []) nothing_given task
no_step log d s never (ViewOf l domain step) v h = never step (subst (λ (w : List ℕ). IsStep w step) (third_is log d s l h.0 h.1 h.2) h.4)
no_step log d s never (MeshOf _) v h = absurd cc
no_step log d s never (GeomOf _) v h = absurd cc
no_step log d s never (RulesOf _) v h = absurd cc
no_step log d s never (CheckOf _ _) v h = absurd cc
no_step log d s never (ReplayOf _ _ _) v h = absurd cc
no_step log d s never (GenOf _ _) v h = absurd cc

pub view_domain : (words : Words) (fault : WordsFault) (log d s : List ℕ) → IsReadAs words (log ∷ d ∷ s ∷ []) nothing_given → fault ≡ Value → ((n : ℕ) → ¬ IsDomain d n) → IsFaultOf verbs.View words fault
view_domain words fault log d s e v never = at_value verbs.View words _ nothing_given fault v (in_form verbs.View words _ _ e refl refl) (no_domain log d s never)

pub view_step : (words : Words) (fault : WordsFault) (log d s : List ℕ) → IsReadAs words (log ∷ d ∷ s ∷ []) nothing_given → fault ≡ Value → ((n : ℕ) → ¬ IsStep s n) → IsFaultOf verbs.View words fault
view_step words fault log d s e v never = at_value verbs.View words _ nothing_given fault v (in_form verbs.View words _ _ e refl refl) (no_step log d s never)

-- ---- gen

abbrev IsSide : List ℕ → ℕ → Type 0
IsSide = IsWholeFrom 1 8

abbrev IsPart : List ℕ → ℕ → Type 0
IsPart = IsWholeFrom 1 16

pub gen_calls : (words : Words) (n m : List ℕ) (squares parts : ℕ) → IsReadAs words (n ∷ m ∷ []) nothing_given → IsSide n squares → IsPart m parts → IsCommandOf verbs.Gen words (GenOf squares parts)
gen_calls words n m squares parts e p q = (refl, (n ∷ m ∷ [], nothing_given, in_form verbs.Gen words _ _ e refl refl, (n, m, refl, p, q)), λ h. h)

of_two_first : (a b x y : List ℕ) → a ∷ b ∷ [] ≡ x ∷ y ∷ [] → x ≡ a
of_two_first a b x y e = cc

of_two_second : (a b x y : List ℕ) → a ∷ b ∷ [] ≡ x ∷ y ∷ [] → y ≡ b
of_two_second a b x y e = cc

no_side : (n m : List ℕ) → ((k : ℕ) → ¬ IsSide n k) → (task : Task) → verb_of task ≡ verbs.Gen → ¬ StandFor (n ∷ m ∷ []) nothing_given task
no_side n m never (GenOf squares parts) v h = never squares (subst (λ (w : List ℕ). IsSide w squares) (of_two_first n m h.0 h.1 h.2) h.3)
no_side n m never (MeshOf _) v h = absurd cc
no_side n m never (GeomOf _) v h = absurd cc
no_side n m never (RulesOf _) v h = absurd cc
no_side n m never (CheckOf _ _) v h = absurd cc
no_side n m never (ViewOf _ _ _) v h = absurd cc
no_side n m never (ReplayOf _ _ _) v h = absurd cc

no_part : (n m : List ℕ) → ((k : ℕ) → ¬ IsPart m k) → (task : Task) → verb_of task ≡ verbs.Gen → ¬ StandFor (n ∷ m ∷ []) nothing_given task
no_part n m never (GenOf squares parts) v h = never parts (subst (λ (w : List ℕ). IsPart w parts) (of_two_second n m h.0 h.1 h.2) h.4)
no_part n m never (MeshOf _) v h = absurd cc
no_part n m never (GeomOf _) v h = absurd cc
no_part n m never (RulesOf _) v h = absurd cc
no_part n m never (CheckOf _ _) v h = absurd cc
no_part n m never (ViewOf _ _ _) v h = absurd cc
no_part n m never (ReplayOf _ _ _) v h = absurd cc

pub gen_side : (words : Words) (fault : WordsFault) (n m : List ℕ) → IsReadAs words (n ∷ m ∷ []) nothing_given → fault ≡ Value → ((k : ℕ) → ¬ IsSide n k) → IsFaultOf verbs.Gen words fault
gen_side words fault n m e v never = at_value verbs.Gen words _ nothing_given fault v (in_form verbs.Gen words _ _ e refl refl) (no_side n m never)

pub gen_part : (words : Words) (fault : WordsFault) (n m : List ℕ) → IsReadAs words (n ∷ m ∷ []) nothing_given → fault ≡ Value → ((k : ℕ) → ¬ IsPart m k) → IsFaultOf verbs.Gen words fault
gen_part words fault n m e v never = at_value verbs.Gen words _ nothing_given fault v (in_form verbs.Gen words _ _ e refl refl) (no_part n m never)

-- ---- the whole of the words

pub first_word : (words : List (String Global)) (first : String Global) (rest : List (String Global)) (word : List ℕ) → words ≡ first ∷ rest → word ≡ string_bytes first → map string_bytes words ≡ word ∷ map string_bytes rest
first_word words first rest word e v = ap (λ (ws : List (String Global)). map string_bytes ws) e ∙ ap (λ (w : List ℕ). w ∷ map string_bytes rest) (sym v)

rest_fault : (verb : Verb) (words rest : Words) (fault : WordsFault) → words ≡ verb_word verb ∷ rest → IsFaultOf verb rest fault → IsFault words fault
rest_fault verb words rest NoVerb e h = absurd h
rest_fault verb words rest UnknownVerb e h = absurd h
rest_fault verb words rest Form e h = (verb, rest, e, h)
rest_fault verb words rest Value e h = (verb, rest, e, h)
rest_fault verb words rest SameName e h = (verb, rest, e, h)

pub whole_fault : (verb : Verb) (words rest : Words) (word : List ℕ) (answer : Result Command WordsFault) → words ≡ word ∷ rest → word ≡ verb_word verb → IfErr answer (IsFaultOf verb rest) → IfErr answer (IsFault words)
whole_fault verb words rest word (Ok command) e v h = tt
whole_fault verb words rest word (Err fault) e v h = rest_fault verb words rest fault (e ∙ ap (λ (w : List ℕ). w ∷ rest) v) h

pub whole_command : (verb : Verb) (words rest : Words) (word : List ℕ) (answer : Result Command WordsFault) → words ≡ word ∷ rest → word ≡ verb_word verb → IfOk answer (λ command. IsCommandOf verb rest (task_of command)) → IfOk answer (λ command. IsCommand words (task_of command))
whole_command verb words rest word (Ok command) e v h = (verb, rest, e ∙ ap (λ (w : List ℕ). w ∷ rest) v, h)
whole_command verb words rest word (Err fault) e v h = tt
