-- A refusal stands at the first word with which no log goes on, or behind the last word, and it names that word.
use Rattle.std.proofs.Common.{◌≡◌, ◌⊎◌, inl, inr, ℕ, zero, suc, ◌+◌, ◌<◌, Bool, true, false, List, [], ◌∷◌, ◌++◌, length, take, Option, Some, None, refl, sym, ap, subst, ◌∙◌, arith}
use Rattle.run_log.specs.declared.refusal.LogRefusal.{LogRefusal}
use Rattle.word_scan.specs.Numerals.{whole_of}
use Rattle.run_log.specs.declared.log.Log.{Log}
use Rattle.run_log.specs.Form.{Word, Need, Form, Says, Wants, ◌>>=◌, many, Derives, Stops}
use Rattle.run_log.specs.Numbers.{greatest_whole, no_point, fixed_need, number_need, signed_need, point_need, limit_need, end_need, others_need}
use Rattle.run_log.specs.Grammar.{counted, place, opening_point, opening_line, element, application, applications, front_line, domain_run, if_more, domains, options, log, word_of, Reads, Refuses}

-- each need names the word that it refuses
unfoldable Honest : {A : Type 0} → Form A → Type 0
Honest (Says x) = Unit {0}
Honest (Wants {V} need next) = ((at : ℕ) (w : Word) → word_of (need.refusal at w) ≡ at) × ((v : V) → Honest (next v))

honest_then : {A B : Type 0} (form : Form A) (next : A → Form B) → Honest form → ((x : A) → Honest (next x)) → Honest (form >>= next)
unfolding Honest
honest_then (Says x) next one each = each x
honest_then (Wants need rest) next one each = (one.0, λ v. honest_then (rest v) next (one.1 v) each)

honest_many : {A : Type 0} (n : ℕ) (form : Form A) → Honest form → Honest (many n form)
unfolding Honest
honest_many zero form one = tt
honest_many (suc n) form one = honest_then form _ one (λ x. honest_then (many n form) _ (honest_many n form one) (λ xs. tt))

-- ---- the words of a log
point_named : (o : Option ℕ) (at : ℕ) → word_of (no_point o at) ≡ at
point_named None at = refl
point_named (Some n) at = refl

-- ---- the lines of a log
honest_count : {A : Type 0} (most : ℕ) (form : Form A) → Honest form → Honest (counted most form)
unfolding Honest counted number_need
honest_count most form one = (λ at w. refl, λ n. honest_many n form one)

honest_place : Honest place
unfolding Honest place signed_need
honest_place = (λ at w. refl, λ x. (λ at w. refl, λ y. tt))

honest_opening_point : Honest opening_point
unfolding Honest opening_point fixed_need
honest_opening_point = (λ at w. refl, λ p. honest_place)

honest_opening_line : (n : ℕ) → Honest (opening_line n)
unfolding Honest opening_line fixed_need point_need
honest_opening_line n = (λ at w. refl, λ l. (λ at w. point_named (whole_of w greatest_whole) at, λ a. (λ at w. point_named (whole_of w greatest_whole) at, λ b. tt)))

honest_front_line : (n : ℕ) → Honest (front_line n)
unfolding Honest front_line fixed_need number_need point_need
honest_front_line n = (λ at w. refl, λ f. (λ at w. refl, λ l. (λ at w. point_named (whole_of w greatest_whole) at, λ a. (λ at w. point_named (whole_of w greatest_whole) at, λ b. tt))))

honest_point : (n : ℕ) → Honest (Wants (point_need n) Says)
unfolding Honest point_need
honest_point n = (λ at w. point_named (whole_of w greatest_whole) at, λ v. tt)

honest_element : (n : ℕ) → Honest (element n)
unfolding Honest element number_need
honest_element n = (λ at w. refl, λ three. honest_many 3 (Wants (point_need n) Says) (honest_point n))

honest_application : (n : ℕ) → Honest (application n)
unfolding Honest application fixed_need number_need
honest_application n = (
  λ at w. refl,
  λ a. (
    λ at w. refl,
    λ class. (
      λ at w. refl,
      λ line. (
        λ at w. refl,
        λ rule.
            honest_then (counted 16 (Wants (point_need n) Says)) _ (honest_count 16 (Wants (point_need n) Says) (honest_point n)) (λ mapped.
            honest_then (counted 8 place) _ (honest_count 8 place honest_place) (λ made.
            honest_then (counted 8 (element (n + length made))) _ (honest_count 8 (element (n + length made)) (honest_element (n + length made))) (λ elements. tt))),
      ),
    ),
  ),
)

honest_applications : (count n : ℕ) → Honest (applications count n)
unfolding Honest applications
honest_applications zero n = tt
honest_applications (suc count) n = honest_then (application n) _ (honest_application n) (λ first. honest_then (applications count (n + length first.made)) _ (honest_applications count (n + length first.made)) (λ rest. tt))

honest_run : (before : ℕ) → Honest (domain_run before)
unfolding Honest domain_run number_need end_need
honest_run before = (
  λ at w. refl,
  λ domain. (
    λ at w. refl,
    λ points. (
      λ at w. refl,
      λ lines. (
        λ at w. refl,
        λ applied. (
          λ at w. refl,
          λ left. (
            λ at w. refl,
            λ end.
                honest_then (many points opening_point) _ (honest_many points opening_point honest_opening_point) (λ opening.
                honest_then (many lines (opening_line points)) _ (honest_many lines (opening_line points) (honest_opening_line points)) (λ sides.
                honest_then (applications applied points) _ (honest_applications applied points) (λ made.
                honest_then (many left (front_line _)) _ (honest_many left (front_line _) (honest_front_line _)) (λ front. tt)))),
          ),
        ),
      ),
    ),
  ),
)

honest_more : (more : Bool) {A : Type 0} (form : Form (List A)) → Honest form → Honest (if_more more form)
unfolding Honest
honest_more true form one = one
honest_more false form one = tt

honest_domains : (room before : ℕ) → Honest (domains room before)
unfolding Honest domains others_need
honest_domains zero before = tt
honest_domains (suc room) before = (λ at w. refl, λ more. honest_more more _ (honest_then (domain_run before) _ (honest_run before) (λ run. honest_then (domains room run.domain) _ (honest_domains room run.domain) (λ rest. tt))))

honest_options : Honest options
unfolding Honest options number_need limit_need
honest_options = (λ at w. refl, λ greatest. (λ at w. refl, λ grading. (λ at w. refl, λ last. (λ at w. refl, λ most. tt))))

honest_log : Honest log
unfolding Honest log fixed_need number_need signed_need
honest_log = (
  λ at w. refl,
  λ name. (
    λ at w. refl,
    λ version. (
      λ at w. refl,
      λ run. (
        λ at w. refl,
        λ shift.
            honest_then options _ honest_options (λ opts. honest_then (domains 65 0) _ (honest_domains 65 0) (λ runs. tt)),
      ),
    ),
  ),
)

-- ---- the word at which a text stops
-- with the word of this place no text of the form goes on, or there is none, behind the last
abbrev pub NoneGoesOn : {A : Type 0} → Form A → List Word → ℕ → Type 0
NoneGoesOn {A} form words k = ((k < length words) × ((rest : List Word) (x : A) → Derives form (take (suc k) words ++ rest) x → ⊥)) ⊎ (k ≡ length words)

later : {A V : Type 0} (need : Need V) (next : V → Form A) (v : V) (w : Word) (words : List Word) (k : ℕ) → need.says w ≡ Some v → NoneGoesOn (next v) words k → NoneGoesOn (Wants need next) (w ∷ words) (suc k)
unfolding Derives
later need next v w words k is (inl none) = inl (omega (arith, none.0), λ rest x d. none.1 rest x (subst (λ (u : _). Derives (next u) (take (suc k) words ++ rest) x) (same d.0 v (sym d.1 ∙ is)) d.2))
  where
    same : {V : Type 0} (u v : V) → Some u ≡ Some v → u ≡ v
    same u v e = cc
later need next v w words k is (inr end) = inr (omega (arith, end))

first_at : {A : Type 0} (form : Form A) (at : ℕ) (words : List Word) (e : LogRefusal) → Honest form → Stops form at words e → (k : ℕ) × (word_of e ≡ at + k) × NoneGoesOn form words k
unfolding Stops Derives Honest
first_at (Says y) at [] e one stop = absurd stop
first_at (Says y) at (w ∷ words) e one stop = (zero, ap word_of stop ∙ plain at, inl (omega arith, λ rest x d. d))
  where
    plain : (n : ℕ) → n ≡ n + 0
    plain n = omega arith
first_at (Wants need next) at [] e one stop = (zero, ap word_of stop ∙ plain at, inr refl)
  where
    plain : (n : ℕ) → n ≡ n + 0
    plain n = omega arith
first_at (Wants need next) at (w ∷ words) e one (inl stop) = (zero, ap word_of stop.1 ∙ one.0 at w ∙ plain at, inl (omega arith, λ rest x d. clash d.0 (sym d.1 ∙ stop.0)))
  where
    plain : (n : ℕ) → n ≡ n + 0
    plain n = omega arith

    clash : {V : Type 0} (v : V) → Some v ≡ None → ⊥
    clash v e = absurd cc
first_at (Wants need next) at (w ∷ words) e one (inr stop) =
    let rest = first_at (next stop.0) (at + 1) words e (one.1 stop.0) stop.2 in (suc rest.0, rest.1 ∙ moved at rest.0, later need next stop.0 w words rest.0 stop.1 rest.2)
  where
    moved : (n k : ℕ) → (n + 1) + k ≡ n + suc k
    moved n k = omega arith

pub first_fault : (words : List Word) (e : LogRefusal) → Refuses words e → (k : ℕ) × (word_of e ≡ suc k)
    × (((k < length words) × ((rest : List Word) (said : Log) → Reads (take (suc k) words ++ rest) said → ⊥)) ⊎ (k ≡ length words))
first_fault words e stop = let first = first_at log 1 words e honest_log stop in (first.0, first.1 ∙ one_more first.0, first.2)
  where
    one_more : (k : ℕ) → 1 + k ≡ suc k
    one_more k = omega arith
