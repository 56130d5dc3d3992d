-- Texts whose words are what the grammar says.
--
-- Prints  a text, before what may follow it, has these words, which say this value; each index among them hits
-- chain   one thing, and then another
use Rattle.std.proofs.Common.{◌≡◌, ◌≢◌, ℕ, ◌+◌, ◌≤◌, Bool, true, false, eqb, not, ◌&&◌, ◌||◌, List, [], ◌∷◌, ◌++◌, length, Some, ℤ, unsigned_abs, refl, sym, ap, subst, ◌∙◌, inl, inr, arith, append_assoc}
use Rattle.std.specs.List.{flat_map, AllByRecursion}
use Rattle.std.specs.Char.{is_ascii_alphabetic, is_ascii_alphanumeric}
use Rattle.std.specs.Fmt.{decimal}
use Rattle.std.proofs.lemmas.Bool.{eqb-false, and_parts, or_parts}
use Rattle.word_scan.specs.Bytes.{is_white}
use Rattle.word_scan.specs.Tokens.{is_mark, token_at}
use Rattle.word_scan.specs.declared.scanner.Kind.TheVariants as kinds
use Rattle.word_scan.proofs.TokenLaws.{Stops, EndsNumber, other}
use Rattle.rule_reader.specs.declared.reader.Bound.{Bound}
use Rattle.rule_reader.specs.Words.{Tok, MarkTok, TextTok, NumberTok, NameTok}
use Rattle.rule_reader.specs.Verdict.{misses}
use Rattle.rule_reader.specs.Grammar.{standard, Said, plain, naming, words, ◌▹◌, done, either, many, at_most, mark, name, text, number, quality, index, rule_name, Hits}
use Rattle.rule_reader.specs.Normal.{number_text}
use Rattle.rule_reader.proofs.Good.{words_append}
use Rattle.rule_reader.proofs.Lexing.{lex, lex_white, lex_mark, lex_name, lex_text}
use Rattle.word_scan.proofs.NumberTexts.{whole_again}
use Rattle.rule_reader.proofs.PrintedNumbers.{number_back, lex_number_text, lex_whole}

-- ---- what may follow

abbrev pub Any : List ℕ → Type 0
Any rest = Unit {0}

-- whether a byte goes on with a number or a name
abbrev pub goes_on : ℕ → Bool
goes_on b = is_ascii_alphanumeric b || eqb b 46

-- nothing, or a byte that goes on with neither
abbrev pub Ends : List ℕ → Type 0
Ends [] = Unit {0}
Ends (b ∷ rest) = goes_on b ≡ false

pub ends_name : (rest : List ℕ) → Ends rest → Stops is_ascii_alphanumeric rest
ends_name [] ends = tt
ends_name (b ∷ rest) ends = (or_parts (is_ascii_alphanumeric b) (eqb b 46) ends).0

ends_number : (rest : List ℕ) → Ends rest → EndsNumber rest
ends_number [] ends = tt
ends_number (b ∷ rest) ends =
    let parts = or_parts (is_ascii_alphanumeric b) (eqb b 46) ends in
    ((or_parts _ _ (or_parts _ _ parts.0).0).0, eqb-false b 46 parts.1)

-- ---- texts that say something

pub record Prints (m n : ℕ) (F : List ℕ → Type 0) (A : Type 0) (L : List Said → A → Type 0) (x : A) (bytes : List ℕ) : Type 0 where
  pub said : List Said
  pub says : L said x
  pub spelled : (rest : List ℕ) → F rest → lex (bytes ++ rest) ≡ words said ++ lex rest
  pub hits : AllByRecursion (λ s. Hits m n s.index) said

hits_both : (m n : ℕ) (a b : List Said) → AllByRecursion (λ s. Hits m n s.index) a → AllByRecursion (λ s. Hits m n s.index) b → AllByRecursion (λ s. Hits m n s.index) (a ++ b)
hits_both m n [] b p q = q
hits_both m n (s ∷ a) b p q = (p.0, hits_both m n a b p.1 q)

pub spelled_both : (F G : List ℕ → Type 0) (p q : List ℕ) (a b : List Said) → ((rest : List ℕ) → F rest → lex (p ++ rest) ≡ words a ++ lex rest) → ((rest : List ℕ) → G rest → F (q ++ rest)) → ((rest : List ℕ) → G rest → lex (q ++ rest) ≡ words b ++ lex rest)
    → (rest : List ℕ) → G rest → lex ((p ++ q) ++ rest) ≡ words (a ++ b) ++ lex rest
spelled_both F G p q a b first follows second rest g =
    ap lex (append_assoc p q rest) ∙ first (q ++ rest) (follows rest g) ∙ ap (λ (ts : List Tok). words a ++ ts) (second rest g) ∙ sym (append_assoc (words a) (words b) (lex rest)) ∙ ap (λ (ts : List Tok). ts ++ lex rest) (sym (words_append a b))

pub chain : {m n : ℕ} {F G : List ℕ → Type 0} {A B : Type 0} {L : List Said → A → Type 0} (M : A → List Said → B → Type 0) {x : A} {y : B} (p q : List ℕ) → Prints m n F A L x p → ((rest : List ℕ) → G rest → F (q ++ rest)) → Prints m n G B (M x) y q
    → Prints m n G B (L ▹ M) y (p ++ q)
unfolding ◌▹◌
chain {m} {n} {F} {G} {A} {B} {L} M {x} {y} p q a follows b = record {
  said = a.said ++ b.said;
  says = (x, a.said, b.said, a.says, b.says, refl);
  spelled = spelled_both F G p q a.said b.said a.spelled follows b.spelled;
  hits = hits_both m n a.said b.said a.hits b.hits;
}

-- the same text, written otherwise
pub respell : {m n : ℕ} {F : List ℕ → Type 0} {A : Type 0} {L : List Said → A → Type 0} {x : A} {p q : List ℕ} → p ≡ q → Prints m n F A L x p → Prints m n F A L x q
respell {m} {n} {F} {A} {L} {x} e a = subst (Prints m n F A L x) e a

-- another language that says it too
pub as_said : {m n : ℕ} {F : List ℕ → Type 0} {A : Type 0} {L M : List Said → A → Type 0} {x : A} {p : List ℕ} → ((said : List Said) → L said x → M said x) → Prints m n F A L x p → Prints m n F A M x p
as_said there a = record { said = a.said; says = there a.said a.says; spelled = a.spelled; hits = a.hits }

pub put_left : {m n : ℕ} {F : List ℕ → Type 0} {A : Type 0} {L : List Said → A → Type 0} (M : List Said → A → Type 0) {x : A} {p : List ℕ} → Prints m n F A L x p → Prints m n F A (either L M) x p
unfolding either
put_left M a = record { said = a.said; says = inl a.says; spelled = a.spelled; hits = a.hits }

pub put_right : {m n : ℕ} {F : List ℕ → Type 0} {A : Type 0} (L : List Said → A → Type 0) {M : List Said → A → Type 0} {x : A} {p : List ℕ} → Prints m n F A M x p → Prints m n F A (either L M) x p
unfolding either
put_right L a = record { said = a.said; says = inr a.says; spelled = a.spelled; hits = a.hits }

pub put_done : {m n : ℕ} {F : List ℕ → Type 0} {A : Type 0} {x : A} → Prints m n F A (done x) x []
unfolding done
put_done = record { said = []; says = (refl, refl); spelled = λ rest f. refl; hits = tt }

pub put_white : {m n : ℕ} {F : List ℕ → Type 0} {A : Type 0} {L : List Said → A → Type 0} {x : A} {q : List ℕ} (b : ℕ) → is_white b ≡ true → Prints m n F A L x q → Prints m n F A L x (b ∷ q)
put_white {q = q} b white a = record { said = a.said; says = a.says; spelled = λ rest f. lex_white b (q ++ rest) white ∙ a.spelled rest f; hits = a.hits }

-- ---- one word

-- a mark, which is neither white nor begins a comment
abbrev pub is_plain_mark : ℕ → Bool
is_plain_mark b = is_mark b && (not (is_white b) && not (eqb b 35))

mark_stands : (b : ℕ) (rest : List ℕ) → is_mark b ≡ true → token_at (b ∷ rest) ≡ Some (kinds.Mark, 1)
unfolding token_at
mark_stands b rest is = rw is refl

not_back : (b : Bool) → not b ≡ true → b ≡ false
not_back true e = absurd cc
not_back false e = refl

one_mark : {m n : ℕ} (b : ℕ) → is_plain_mark b ≡ true → Prints m n Any (Unit {0}) (mark b) tt (b ∷ [])
unfolding mark
one_mark b is =
    let parts = and_parts (is_mark b) (not (is_white b) && not (eqb b 35)) is in
    let others = and_parts (not (is_white b)) (not (eqb b 35)) parts.1 in
    record { said = plain (MarkTok b) ∷ []; says = refl; spelled = λ rest f. lex_mark b rest (mark_stands b rest parts.0) (not_back (is_white b) others.0) (eqb-false b 35 (not_back (eqb b 35) others.1)); hits = (tt, tt) }

pub put_mark : {m n : ℕ} {F : List ℕ → Type 0} {B : Type 0} (M : Unit {0} → List Said → B → Type 0) {y : B} {q : List ℕ} (b : ℕ) → is_plain_mark b ≡ true → Prints m n F B (M tt) y q → Prints m n F B (mark b ▹ M) y (b ∷ q)
put_mark M {q = q} b is a = chain M (b ∷ []) q (one_mark b is) (λ rest f. tt) a

-- a letter, then letters and digits
all_alphanumeric : List ℕ → Bool
all_alphanumeric [] = true
all_alphanumeric (b ∷ bytes) = is_ascii_alphanumeric b && all_alphanumeric bytes

unfoldable pub is_word : List ℕ → Bool
unfolding all_alphanumeric
is_word [] = false
is_word (b ∷ bytes) = is_ascii_alphabetic b && all_alphanumeric bytes

each_alphanumeric : (bytes : List ℕ) → all_alphanumeric bytes ≡ true → AllByRecursion (λ c. is_ascii_alphanumeric c ≡ true) bytes
unfolding all_alphanumeric
each_alphanumeric [] all = tt
each_alphanumeric (b ∷ bytes) all = let parts = and_parts (is_ascii_alphanumeric b) (all_alphanumeric bytes) all in (parts.0, each_alphanumeric bytes parts.1)

letter_black : (b : ℕ) → is_ascii_alphabetic b ≡ true → is_white b ≡ false
letter_black b passes = rw (other is_ascii_alphabetic b 32 passes refl, other is_ascii_alphabetic b 9 passes refl, other is_ascii_alphabetic b 13 passes refl, other is_ascii_alphabetic b 10 passes refl) refl

pub lex_word : (bytes rest : List ℕ) → is_word bytes ≡ true → Ends rest → lex (bytes ++ rest) ≡ NameTok bytes ∷ lex rest
unfolding is_word
lex_word [] rest is ends = absurd cc
lex_word (b ∷ bytes) rest is ends =
    let parts = and_parts (is_ascii_alphabetic b) (all_alphanumeric bytes) is in
    lex_name b bytes rest (letter_black b parts.0) (eqb-false b 35 (other is_ascii_alphabetic b 35 parts.0 refl)) parts.0 (each_alphanumeric bytes parts.1) (ends_name rest ends)

pub one_name : {m n : ℕ} (bytes : List ℕ) → is_word bytes ≡ true → Prints m n Ends (Unit {0}) (name bytes) tt bytes
unfolding name
one_name bytes is = record { said = plain (NameTok bytes) ∷ []; says = refl; spelled = λ rest ends. lex_word bytes rest is ends; hits = (tt, tt) }

one_number : {m n : ℕ} (greatest : ℕ) (z : ℤ) → unsigned_abs z ≤ greatest → greatest ≤ 10000000 → Prints m n Ends ℤ (number greatest) z (number_text z)
unfolding number
one_number greatest z le small = record { said = plain (NumberTok (number_text z)) ∷ []; says = (number_text z, refl, number_back greatest z le small); spelled = λ rest ends. lex_number_text z rest (omega (arith, le, small)) (ends_number rest ends); hits = (tt, tt) }

pub put_number : {m n : ℕ} {F : List ℕ → Type 0} {B : Type 0} (M : ℤ → List Said → B → Type 0) {y : B} {q : List ℕ} (greatest : ℕ) (z : ℤ) → unsigned_abs z ≤ greatest → greatest ≤ 10000000 → ((rest : List ℕ) → F rest → Ends (q ++ rest)) → Prints m n F B (M z) y q
    → Prints m n F B (number greatest ▹ M) y (number_text z ++ q)
put_number M {q = q} greatest z le small follows a = chain M (number_text z) q (one_number greatest z le small) follows a

pub one_quality : {m n : ℕ} (k : ℕ) → k ≤ 1000 → Prints m n Ends ℕ quality k (decimal k)
unfolding quality
one_quality k le = record { said = plain (NumberTok (decimal k)) ∷ []; says = (decimal k, refl, whole_again k 1000 le (omega (arith, le))); spelled = λ rest ends. lex_whole k rest (omega (arith, le)) (ends_number rest ends); hits = (tt, tt) }

one_index : {m n : ℕ} (bound : Bound) (k : ℕ) → k ≤ 9999 → misses bound k m n ≡ false → Prints m n Ends ℕ (index bound) k (decimal k)
unfolding index
one_index bound k le hit = record { said = naming (NumberTok (decimal k)) bound k ∷ []; says = (decimal k, refl, whole_again k 9999 le (omega (arith, le))); spelled = λ rest ends. lex_whole k rest le (ends_number rest ends); hits = (hit, tt) }

pub put_index : {m n : ℕ} {F : List ℕ → Type 0} {B : Type 0} (M : ℕ → List Said → B → Type 0) {y : B} {q : List ℕ} (bound : Bound) (k : ℕ) → k ≤ 9999 → misses bound k m n ≡ false → ((rest : List ℕ) → F rest → Ends (q ++ rest)) → Prints m n F B (M k) y q
    → Prints m n F B (index bound ▹ M) y (decimal k ++ q)
put_index M {q = q} bound k le hit follows a = chain M (decimal k) q (one_index bound k le hit) follows a

-- the name of a rule, between quotation marks
pub put_text : {m n : ℕ} {F : List ℕ → Type 0} {B : Type 0} (M : List ℕ → List Said → B → Type 0) {y : B} {q : List ℕ} (inside : List ℕ) → length inside ≤ 200 → AllByRecursion (λ b. (b ≢ 34) × (b ≢ 10)) inside → Prints m n F B (M inside) y q
    → Prints m n F B (rule_name standard ▹ M) y (34 ∷ (inside ++ 34 ∷ q))
unfolding rule_name text
put_text {m} {n} M {q = q} inside short each a =
    let same : (rest : List ℕ) → (34 ∷ (inside ++ 34 ∷ [])) ++ rest ≡ 34 ∷ (inside ++ 34 ∷ rest) = λ rest. ap (λ (t : List ℕ). 34 ∷ t) (append_assoc inside (34 ∷ []) rest) in
    let one : Prints m n Any (List ℕ) (rule_name standard) inside (34 ∷ (inside ++ 34 ∷ [])) = record { said = plain (TextTok inside) ∷ []; says = (refl, short); spelled = λ rest f. ap lex (same rest) ∙ lex_text inside rest each; hits = (tt, tt) } in
    respell (same q) (chain M (34 ∷ (inside ++ 34 ∷ [])) q one (λ rest f. tt) a)

-- ---- entries one after another

-- Q holds of each entry with the number of those before it
abbrev pub AllFrom : {A : Type 0} → (ℕ → A → Type 0) → ℕ → List A → Type 0
AllFrom Q k [] = Unit {0}
AllFrom Q k (x ∷ xs) = Q k x × AllFrom Q (k + 1) xs

pub all_from : {A : Type 0} (P : A → Type 0) (k : ℕ) (xs : List A) → AllByRecursion P xs → AllFrom (λ j x. P x) k xs
all_from P k [] all = tt
all_from P k (x ∷ xs) all = (all.0, all_from P (k + 1) xs all.1)

pub follows_many : {A : Type 0} (F : List ℕ → Type 0) (text : A → List ℕ) → ((x : A) (rest : List ℕ) → F (text x ++ rest)) → (xs : List A) (rest : List ℕ) → F rest → F (flat_map text xs ++ rest)
follows_many F text follow [] rest f = f
follows_many F text follow (x ∷ xs) rest f = subst F (sym (append_assoc (text x) (flat_map text xs) rest)) (follow x (flat_map text xs ++ rest))

pub many_printed : (m n : ℕ) (F : List ℕ → Type 0) (A : Type 0) (entry : ℕ → List Said → A → Type 0) (text : A → List ℕ) (Q : ℕ → A → Type 0) → ((k : ℕ) (x : A) → Q k x → Prints m n F A (entry k) x (text x)) → ((x : A) (rest : List ℕ) → F (text x ++ rest))
    → (k : ℕ) (xs : List A) → AllFrom Q k xs → Prints m n F (List A) (many entry k) xs (flat_map text xs)
unfolding many
many_printed m n F A entry text Q each follow k [] all = record { said = []; says = refl; spelled = λ rest f. refl; hits = tt }
many_printed m n F A entry text Q each follow k (x ∷ xs) all =
    let a = each k x all.0 in
    let b = many_printed m n F A entry text Q each follow (k + 1) xs all.1 in
    record {
      said = a.said ++ b.said;
      says = (a.said, b.said, a.says, b.says, refl);
      spelled = spelled_both F F (text x) (flat_map text xs) a.said b.said a.spelled (follows_many F text follow xs) b.spelled;
      hits = hits_both m n a.said b.said a.hits b.hits;
    }

pub at_most_printed : {m n : ℕ} {F : List ℕ → Type 0} {A : Type 0} (entry : ℕ → List Said → A → Type 0) {xs : List A} {p : List ℕ} (most : ℕ) → length xs ≤ most → Prints m n F (List A) (many entry 0) xs p → Prints m n F (List A) (at_most most entry) xs p
unfolding at_most
at_most_printed entry most le a = record { said = a.said; says = (a.says, le); spelled = a.spelled; hits = a.hits }
