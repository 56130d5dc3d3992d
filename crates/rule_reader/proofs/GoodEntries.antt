-- Each reader of an entry reads just what the grammar says.
use Rattle.std.proofs.Common.{◌≡◌, ℕ, suc, ◌<◌, Bool, true, false, cond, eqb, eq-eqb, List, [], ◌∷◌, ◌++◌, length, Option, Some, None, Ok, ℤ, refl, sym, ap, subst, ◌∙◌, inl, inr, arith}
use Rattle.std.specs.Str.{bytes_eq}
use Rattle.std.proofs.lemmas.Slice.Eq.{bytes_eq-Decides}
use Rattle.std.proofs.lemmas.Bool.{eqb-true}
use Rattle.std.proofs.lemmas.List.{append-nil}
use Rattle.word_scan.specs.Numerals.{whole_of}
use Rattle.rule_reader.specs.declared.reader.Fit.{Fit}
use Rattle.rule_reader.specs.declared.reader.Fit.TheVariants.{Fits, Unfit}
use Rattle.rule_reader.specs.declared.reader.Bound.{Bound}
use Rattle.rule_reader.specs.declared.reader.Bound.TheVariants.{Mapped, Any}
use Rattle.rule_reader.specs.declared.rule.Triple.{Triple}
use Rattle.rule_reader.specs.declared.rule.Term.{Term}
use Rattle.rule_reader.specs.Words.{Tok, MarkTok, TextTok, NumberTok, NameTok, BadTok, State, noted}
use Rattle.rule_reader.specs.Numbers.{number_of}
use Rattle.rule_reader.specs.Reading.{Read, ◌>>=◌, judged, fit_if, fit_number, mark_fit, name_fit, number_fit, whole_fit, text_fit, variable_of, variable_rest, indexed, variable_behind, variable_at, term_at, mark_at, name_at, number_at, quality_at, text_at, index_at, coordinates_at, triple_at, ends_at, three_at, pair_at, element_at}
use Rattle.rule_reader.specs.declared.reader.Use.{Use}
use Rattle.rule_reader.specs.Grammar.{Said, plain, naming, words, ◌▹◌, done, either, mark, name, text, number, quality, index, coordinates, triple, ends, three, pair, element, variable, letter, joined_variable, parted_variable, term}
use Rattle.rule_reader.proofs.Good.{Good, Always, IsWord, good_word, ◌▸◌, pure, seq, ended, after, bind_ok, ok_is, okay, judged_ok}

abbrev pub fitting : {A : Type 0} → A → Fit A
fitting x = Fits x

pub fits_is : {A : Type 0} (x y : A) → fitting x ≡ fitting y → x ≡ y
fits_is x y e = cc

-- ---- words

pub if_fits : (b : Bool) (u : Unit {0}) → fit_if b ≡ Fits u → b ≡ true
if_fits true u e = refl
if_fits false u e = absurd cc

mark_sound : (b : ℕ) (t : Tok) (v : Unit {0}) → mark_fit b (Some t) ≡ Fits v → mark b (plain t ∷ []) v
unfolding mark
mark_sound b (MarkTok c) v e = ap (λ (x : ℕ). plain (MarkTok x) ∷ []) (eqb-true c b (if_fits (eqb c b) v e))
mark_sound b (TextTok bytes) v e = absurd cc
mark_sound b (NumberTok bytes) v e = absurd cc
mark_sound b (NameTok bytes) v e = absurd cc
mark_sound b BadTok v e = absurd cc

pub is_mark_word : (b : ℕ) → IsWord (Unit {0}) (mark b) (mark_fit b)
unfolding mark
is_mark_word b = record { none = λ v e. absurd cc; sound = mark_sound b; complete = λ said v l. (MarkTok b, l, rw (eq-eqb b b refl) refl) }

name_sound : (n : List ℕ) (t : Tok) (v : Unit {0}) → name_fit n (Some t) ≡ Fits v → name n (plain t ∷ []) v
unfolding name
name_sound n (MarkTok c) v e = absurd cc
name_sound n (TextTok bytes) v e = absurd cc
name_sound n (NumberTok bytes) v e = absurd cc
name_sound n (NameTok bytes) v e = ap (λ (x : List ℕ). plain (NameTok x) ∷ []) ((bytes_eq-Decides bytes n).0 (if_fits (bytes_eq bytes n) v e))
name_sound n BadTok v e = absurd cc

pub is_name_word : (n : List ℕ) → IsWord (Unit {0}) (name n) (name_fit n)
unfolding name
is_name_word n = record { none = λ v e. absurd cc; sound = name_sound n; complete = λ said v l. (NameTok n, l, rw ((bytes_eq-Decides n n).1 refl) refl) }

number_fits : {A : Type 0} (o : Option A) (v : A) → fit_number o ≡ Fits v → o ≡ Some v
number_fits None v e = absurd cc
number_fits (Some n) v e = cc

number_sound : (greatest : ℕ) (t : Tok) (v : ℤ) → number_fit greatest (Some t) ≡ Fits v → number greatest (plain t ∷ []) v
unfolding number
number_sound greatest (MarkTok c) v e = absurd cc
number_sound greatest (TextTok bytes) v e = absurd cc
number_sound greatest (NumberTok bytes) v e = (bytes, refl, number_fits (number_of greatest bytes) v e)
number_sound greatest (NameTok bytes) v e = absurd cc
number_sound greatest BadTok v e = absurd cc

pub is_number_word : (greatest : ℕ) → IsWord ℤ (number greatest) (number_fit greatest)
unfolding number
is_number_word greatest = record { none = λ v e. absurd cc; sound = number_sound greatest; complete = λ said v l. (NumberTok l.0, l.1, rw l.2 refl) }

quality_sound : (t : Tok) (v : ℕ) → whole_fit 1000 (Some t) ≡ Fits v → quality (plain t ∷ []) v
unfolding quality
quality_sound (MarkTok c) v e = absurd cc
quality_sound (TextTok bytes) v e = absurd cc
quality_sound (NumberTok bytes) v e = (bytes, refl, number_fits (whole_of bytes 1000) v e)
quality_sound (NameTok bytes) v e = absurd cc
quality_sound BadTok v e = absurd cc

pub is_quality_word : IsWord ℕ quality (whole_fit 1000)
unfolding quality
is_quality_word = record { none = λ v e. absurd cc; sound = quality_sound; complete = λ said v l. (NumberTok l.0, l.1, ap fit_number l.2) }

text_sound : (t : Tok) (v : List ℕ) → text_fit (Some t) ≡ Fits v → text (plain t ∷ []) v
unfolding text
text_sound (MarkTok c) v e = absurd cc
text_sound (TextTok bytes) v e = let same : bytes ≡ v = cc in ap (λ (x : List ℕ). plain (TextTok x) ∷ []) same
text_sound (NumberTok bytes) v e = absurd cc
text_sound (NameTok bytes) v e = absurd cc
text_sound BadTok v e = absurd cc

pub is_text_word : IsWord (List ℕ) text text_fit
unfolding text
is_text_word = record { none = λ v e. absurd cc; sound = text_sound; complete = λ said v l. (TextTok v, l, refl) }

pub good_mark : (b : ℕ) → Good (Unit {0}) Always (mark b) (mark_at b)
unfolding mark_at
good_mark b = good_word (Unit {0}) (mark b) (mark_fit b) (is_mark_word b)

pub good_name : (n : List ℕ) → Good (Unit {0}) Always (name n) (name_at n)
unfolding name_at
good_name n = good_word (Unit {0}) (name n) (name_fit n) (is_name_word n)

pub good_number : (greatest : ℕ) → Good ℤ Always (number greatest) (number_at greatest)
unfolding number_at
good_number greatest = good_word ℤ (number greatest) (number_fit greatest) (is_number_word greatest)

pub good_quality : Good ℕ Always quality quality_at
unfolding quality_at
good_quality = good_word ℕ quality (whole_fit 1000) is_quality_word

pub good_text : Good (List ℕ) Always text text_at
unfolding text_at
good_text = good_word (List ℕ) text text_fit is_text_word

-- ---- fixed sequences

twin_coordinates : Good (ℤ × ℤ) Always coordinates (mark_at 40 ▸ λ a. number_at 160000 ▸ λ x. mark_at 44 ▸ λ b. number_at 160000 ▸ λ y. mark_at 41 ▸ λ c. pure (x, y))
twin_coordinates = seq (good_mark 40) (λ a. seq (good_number 160000) (λ x. seq (good_mark 44) (λ b. seq (good_number 160000) (λ y. seq (good_mark 41) (λ c. ended (x, y))))))

pub good_coordinates : Good (ℤ × ℤ) Always coordinates coordinates_at
unfolding coordinates_at ◌▸◌ pure
good_coordinates = twin_coordinates

twin_triple : Good Triple Always triple (mark_at 123 ▸ λ a. number_at 10000000 ▸ λ f1. mark_at 44 ▸ λ b. number_at 10000000 ▸ λ f2. mark_at 44 ▸ λ c. number_at 10000000 ▸ λ f3. mark_at 125 ▸ λ d. pure (record { f1 = f1; f2 = f2; f3 = f3 }))
twin_triple = seq (good_mark 123) (λ a. seq (good_number 10000000) (λ f1. seq (good_mark 44) (λ b. seq (good_number 10000000) (λ f2. seq (good_mark 44) (λ c. seq (good_number 10000000) (λ f3. seq (good_mark 125) (λ d. ended (record { f1 = f1; f2 = f2; f3 = f3 }))))))))

pub good_triple : Good Triple Always triple triple_at
unfolding triple_at ◌▸◌ pure
good_triple = twin_triple

-- ---- indices

abbrev pub st_of : List Tok → List Use → ℕ → State
st_of left uses rule = record { left = left; uses = uses; rule = rule }

-- what an index that was read says
abbrev TakesIndex : Bound → Tok → List Tok → List Use → ℕ → ℕ × State → Type 0
TakesIndex bound t left uses rule p = (said : List Said) × index bound said p.0 × (t ∷ left ≡ words said ++ p.1.left) × (p.1 ≡ after (st_of (t ∷ left) uses rule) said p.1.left)

abbrev noted_index : Bound → ℕ → ℕ × State → Read ℕ
noted_index bound left i = Ok (i.0, noted bound i.0 left i.1)

number_index : (bound : Bound) (bytes : List ℕ) (left : List Tok) (uses : List Use) (rule v : ℕ) (st2 : State) (o : Option ℕ) → whole_of bytes 9999 ≡ o
    → (judged (fit_number o) (st_of (NumberTok bytes ∷ left) uses rule) >>= noted_index bound (suc (length left))) ≡ Ok (v, st2) → TakesIndex bound (NumberTok bytes) left uses rule (v, st2)
unfolding index
number_index bound bytes left uses rule v st2 None w e = absurd cc
number_index bound bytes left uses rule v st2 (Some n) w e =
    let taken : ℕ × State = (n, noted bound n (suc (length left)) (st_of left uses rule)) in
    subst (TakesIndex bound (NumberTok bytes) left uses rule) (ok_is taken (v, st2) e) (naming (NumberTok bytes) bound n ∷ [], (bytes, refl, w), refl, refl)

index_takes : (bound : Bound) (left : List Tok) (uses : List Use) (rule v : ℕ) (st2 : State) → index_at bound (st_of left uses rule) ≡ Ok (v, st2)
    → (said : List Said) × index bound said v × (left ≡ words said ++ st2.left) × (st2 ≡ after (st_of left uses rule) said st2.left)
unfolding index_at
index_takes bound [] uses rule v st2 e = absurd cc
index_takes bound (MarkTok c ∷ left) uses rule v st2 e = absurd cc
index_takes bound (TextTok bytes ∷ left) uses rule v st2 e = absurd cc
index_takes bound (NumberTok bytes ∷ left) uses rule v st2 e = number_index bound bytes left uses rule v st2 (whole_of bytes 9999) refl e
index_takes bound (NameTok bytes ∷ left) uses rule v st2 e = absurd cc
index_takes bound (BadTok ∷ left) uses rule v st2 e = absurd cc

index_again : (bound : Bound) (bytes : List ℕ) (more : List Tok) (uses : List Use) (rule v : ℕ) → whole_of bytes 9999 ≡ Some v
    → index_at bound (st_of (NumberTok bytes ∷ more) uses rule) ≡ Ok (v, after (st_of (NumberTok bytes ∷ more) uses rule) (naming (NumberTok bytes) bound v ∷ []) more)
unfolding index_at
index_again bound bytes more uses rule v w = rw w refl

pub good_index : (bound : Bound) → Good ℕ Always (index bound) (index_at bound)
unfolding index
good_index bound =
    record {
      takes = λ st v st2 e. index_takes bound st.left st.uses st.rule v st2 e;
      again = λ said v st more l f e.
          let left : st.left ≡ NumberTok l.0 ∷ more = e ∙ ap (λ (s : List Said). words s ++ more) l.1 in
          ap (λ (ts : List Tok). index_at bound (st_of ts st.uses st.rule)) left ∙ index_again bound l.0 more st.uses st.rule v l.2 ∙ ap (λ (s : List Said). Ok (v, after st s more)) (sym l.1);
    }

twin_ends : (first second : Bound) → Good (ℕ × ℕ) Always (ends first second) (mark_at 40 ▸ λ a. index_at first ▸ λ i. mark_at 44 ▸ λ b. index_at second ▸ λ j. mark_at 41 ▸ λ c. pure (i, j))
twin_ends first second = seq (good_mark 40) (λ a. seq (good_index first) (λ i. seq (good_mark 44) (λ b. seq (good_index second) (λ j. seq (good_mark 41) (λ c. ended (i, j))))))

pub good_ends : (first second : Bound) → Good (ℕ × ℕ) Always (ends first second) (ends_at first second)
unfolding ends_at ◌▸◌ pure
good_ends first second = twin_ends first second

twin_three : (bound : Bound) → Good (ℕ × ℕ × ℕ) Always (three bound) (mark_at 40 ▸ λ a. index_at bound ▸ λ i. mark_at 44 ▸ λ b. index_at bound ▸ λ j. mark_at 44 ▸ λ c. index_at bound ▸ λ k. mark_at 41 ▸ λ d. mark_at 59 ▸ λ e. pure (i, j, k))
twin_three bound = seq (good_mark 40) (λ a. seq (good_index bound) (λ i. seq (good_mark 44) (λ b. seq (good_index bound) (λ j. seq (good_mark 44) (λ c. seq (good_index bound) (λ k. seq (good_mark 41) (λ d. seq (good_mark 59) (λ e. ended (i, j, k)))))))))

pub good_three : (bound : Bound) → Good (ℕ × ℕ × ℕ) Always (three bound) (three_at bound)
unfolding three_at ◌▸◌ pure
good_three bound = twin_three bound

twin_pair : (before : ℕ) → Good (ℕ × ℕ) Always (pair before) (ends_at Any Any ▸ λ e. mark_at 59 ▸ λ c. pure e)
twin_pair before = seq (good_ends Any Any) (λ e. seq (good_mark 59) (λ c. ended e))

pub good_pair : (before : ℕ) → Good (ℕ × ℕ) Always (pair before) (pair_at before)
unfolding pair_at ◌▸◌ pure
good_pair before = twin_pair before

twin_element : (before : ℕ) → Good (List ℕ) Always (element before) (three_at Any ▸ λ t. pure (t.0 ∷ t.1 ∷ t.2 ∷ []))
twin_element before = seq (good_three Any) (λ t. ended (t.0 ∷ t.1 ∷ t.2 ∷ []))

pub good_element : (before : ℕ) → Good (List ℕ) Always (element before) (element_at before)
unfolding element_at ◌▸◌ pure
good_element before = twin_element before

-- ---- variables

-- what a variable that was read says
abbrev TakesVariable : Tok → List Tok → List Use → ℕ → (Bool × ℕ) × State → Type 0
TakesVariable t left uses rule p = (said : List Said) × variable said p.0 × (t ∷ left ≡ words said ++ p.1.left) × (p.1 ≡ after (st_of (t ∷ left) uses rule) said p.1.left)

pub letter_is : (x y : Bool) (b : ℕ) (digits : List ℕ) (v : Bool × Option ℕ) → eqb b 88 ≡ x → eqb b 89 ≡ y → cond x (variable_rest false digits) (cond y (variable_rest true digits) Unfit) ≡ Fits v
    → (of_y : Bool) × (b ≡ letter of_y) × (variable_rest of_y digits ≡ Fits v)
letter_is true y b digits v ex ey e = (false, eqb-true b 88 ex, e)
letter_is false true b digits v ex ey e = (true, eqb-true b 89 ey, e)
letter_is false false b digits v ex ey e = absurd cc

abbrev with_letter : Bool → ℕ × State → Read (Bool × ℕ)
with_letter of_y i = Ok ((of_y, i.0), i.1)

-- behind a letter alone an index comes
parted_takes : (of_y : Bool) (left : List Tok) (uses : List Use) (rule : ℕ) (v : Bool × ℕ) (st2 : State) → (index_at Mapped (st_of left uses rule) >>= with_letter of_y) ≡ Ok (v, st2)
    → (said : List Said) × parted_variable of_y said v × (NameTok (letter of_y ∷ []) ∷ left ≡ words said ++ st2.left) × (st2 ≡ after (st_of (NameTok (letter of_y ∷ []) ∷ left) uses rule) said st2.left)
unfolding ◌▹◌ done name
parted_takes of_y left uses rule v st2 e =
    let b = bind_ok (index_at Mapped (st_of left uses rule)) (with_letter of_y) (v, st2) e in
    let t = index_takes Mapped left uses rule b.0.0 b.0.1 b.1 in
    let here : Tok = NameTok (letter of_y ∷ []) in
    let taken : (Bool × ℕ) × State = ((of_y, b.0.0), b.0.1) in
    let says : parted_variable of_y (plain here ∷ t.0) (of_y, b.0.0) = (tt, plain here ∷ [], t.0, refl, (b.0.0, t.0, [], t.1, (refl, refl), sym (append-nil t.0)), refl) in
    subst (λ (p : (Bool × ℕ) × State). (said : List Said) × parted_variable of_y said p.0 × (here ∷ left ≡ words said ++ p.1.left) × (p.1 ≡ after (st_of (here ∷ left) uses rule) said p.1.left)) (ok_is taken (v, st2) b.2)
    (plain here ∷ t.0, says, ap (λ (ts : List Tok). here ∷ ts) t.2, t.3)

-- behind a letter digits come
joined_takes : (of_y : Bool) (d : ℕ) (digits : List ℕ) (left : List Tok) (uses : List Use) (rule : ℕ) (v : Bool × ℕ) (st2 : State) (o : Option ℕ) (w : Bool × Option ℕ) → whole_of (d ∷ digits) 9999 ≡ o → indexed of_y o ≡ Fits w
    → variable_behind (suc (length left)) (w, st_of left uses rule) ≡ Ok (v, st2)
    → (said : List Said) × joined_variable said v × (NameTok (letter of_y ∷ d ∷ digits) ∷ left ≡ words said ++ st2.left) × (st2 ≡ after (st_of (NameTok (letter of_y ∷ d ∷ digits) ∷ left) uses rule) said st2.left)
unfolding joined_variable
joined_takes of_y d digits left uses rule v st2 None w whole fits e = absurd cc
joined_takes of_y d digits left uses rule v st2 (Some n) w whole fits e =
    let here : Tok = NameTok (letter of_y ∷ d ∷ digits) in
    let is : (of_y, Some n) ≡ w = fits_is (of_y, Some n) w fits in
    let taken : (Bool × ℕ) × State = ((of_y, n), noted Mapped n (suc (length left)) (st_of left uses rule)) in
    let e2 : okay taken ≡ Ok (v, st2) = ap (λ (x : Bool × Option ℕ). variable_behind (suc (length left)) (x, st_of left uses rule)) is ∙ e in
    subst (λ (p : (Bool × ℕ) × State). (said : List Said) × joined_variable said p.0 × (here ∷ left ≡ words said ++ p.1.left) × (p.1 ≡ after (st_of (here ∷ left) uses rule) said p.1.left)) (ok_is taken (v, st2) e2)
    (naming here Mapped n ∷ [], (d ∷ digits, omega arith, refl, whole), refl, refl)

named_takes : (of_y : Bool) (digits : List ℕ) (left : List Tok) (uses : List Use) (rule : ℕ) (v : Bool × ℕ) (st2 : State) (w : Bool × Option ℕ) → variable_rest of_y digits ≡ Fits w
    → variable_behind (suc (length left)) (w, st_of left uses rule) ≡ Ok (v, st2)
    → (said : List Said) × variable said v × (NameTok (letter of_y ∷ digits) ∷ left ≡ words said ++ st2.left) × (st2 ≡ after (st_of (NameTok (letter of_y ∷ digits) ∷ left) uses rule) said st2.left)
unfolding either
named_takes of_y (d ∷ digits) left uses rule v st2 w fits e =
    let t = joined_takes of_y d digits left uses rule v st2 (whole_of (d ∷ digits) 9999) w refl fits e in
    (t.0, inl t.1, t.2, t.3)
named_takes false [] left uses rule v st2 w fits e =
    let is : (false, None) ≡ w = fits_is (false, None) w fits in
    let t = parted_takes false left uses rule v st2 (ap (λ (x : Bool × Option ℕ). variable_behind (suc (length left)) (x, st_of left uses rule)) is ∙ e) in
    (t.0, inr (inl t.1), t.2, t.3)
named_takes true [] left uses rule v st2 w fits e =
    let is : (true, None) ≡ w = fits_is (true, None) w fits in
    let t = parted_takes true left uses rule v st2 (ap (λ (x : Bool × Option ℕ). variable_behind (suc (length left)) (x, st_of left uses rule)) is ∙ e) in
    (t.0, inr (inr t.1), t.2, t.3)

name_takes : (bytes : List ℕ) (left : List Tok) (uses : List Use) (rule : ℕ) (v : Bool × ℕ) (st2 : State) → (judged (variable_of bytes) (st_of (NameTok bytes ∷ left) uses rule) >>= variable_behind (suc (length left))) ≡ Ok (v, st2)
    → (said : List Said) × variable said v × (NameTok bytes ∷ left ≡ words said ++ st2.left) × (st2 ≡ after (st_of (NameTok bytes ∷ left) uses rule) said st2.left)
name_takes [] left uses rule v st2 e = absurd cc
name_takes (b ∷ digits) left uses rule v st2 e =
    let st : State = st_of (NameTok (b ∷ digits) ∷ left) uses rule in
    let k = bind_ok (judged (variable_of (b ∷ digits)) st) (variable_behind (suc (length left))) (v, st2) e in
    let j = judged_ok (variable_of (b ∷ digits)) st k.0.0 k.0.1 k.1 in
    let c = letter_is (eqb b 88) (eqb b 89) b digits k.0.0 refl refl j.0 in
    let e2 : variable_behind (suc (length left)) (k.0.0, st_of left uses rule) ≡ Ok (v, st2) = ap (λ (s : State). variable_behind (suc (length left)) (k.0.0, s)) (sym j.1) ∙ k.2 in
    subst (λ (x : ℕ). (said : List Said) × variable said v × (NameTok (x ∷ digits) ∷ left ≡ words said ++ st2.left) × (st2 ≡ after (st_of (NameTok (x ∷ digits) ∷ left) uses rule) said st2.left)) (sym c.1)
    (named_takes c.0 digits left uses rule v st2 k.0.0 c.2 e2)

variable_takes : (left : List Tok) (uses : List Use) (rule : ℕ) (v : Bool × ℕ) (st2 : State) → variable_at (st_of left uses rule) ≡ Ok (v, st2)
    → (said : List Said) × variable said v × (left ≡ words said ++ st2.left) × (st2 ≡ after (st_of left uses rule) said st2.left)
unfolding variable_at
variable_takes [] uses rule v st2 e = absurd cc
variable_takes (MarkTok c ∷ left) uses rule v st2 e = absurd cc
variable_takes (TextTok bytes ∷ left) uses rule v st2 e = absurd cc
variable_takes (NumberTok bytes ∷ left) uses rule v st2 e = absurd cc
variable_takes (NameTok bytes ∷ left) uses rule v st2 e = name_takes bytes left uses rule v st2 e
variable_takes (BadTok ∷ left) uses rule v st2 e = absurd cc

rest_joined : (of_y : Bool) (digits : List ℕ) (n : ℕ) → 0 < length digits → whole_of digits 9999 ≡ Some n → variable_of (letter of_y ∷ digits) ≡ Fits (of_y, Some n)
rest_joined of_y [] n some w = absurd (omega arith)
rest_joined false (d ∷ digits) n some w = ap (indexed false) w
rest_joined true (d ∷ digits) n some w = ap (indexed true) w

joined_again : (said : List Said) (v : Bool × ℕ) (st : State) (more : List Tok) → joined_variable said v → st.left ≡ words said ++ more → variable_at st ≡ Ok (v, after st said more)
unfolding joined_variable variable_at
joined_again said v st more l e =
    let digits = l.0 in
    let here : Tok = NameTok (letter v.0 ∷ digits) in
    let left : st.left ≡ here ∷ more = e ∙ ap (λ (s : List Said). words s ++ more) l.2 in
    let fits : variable_of (letter v.0 ∷ digits) ≡ Fits (v.0, Some v.1) = rest_joined v.0 digits v.1 l.1 l.3 in
    let read : (judged (variable_of (letter v.0 ∷ digits)) (st_of (here ∷ more) st.uses st.rule) >>= variable_behind (suc (length more))) ≡ Ok (v, after (st_of (here ∷ more) st.uses st.rule) (naming here Mapped v.1 ∷ []) more)
    = ap (λ (f : Fit (Bool × Option ℕ)). judged f (st_of (here ∷ more) st.uses st.rule) >>= variable_behind (suc (length more))) fits in
    ap (λ (ts : List Tok). variable_at (st_of ts st.uses st.rule)) left ∙ read ∙ ap (λ (s : List Said). Ok (v, after st s more)) (sym l.2)

pub parted_fits : (of_y : Bool) → variable_of (letter of_y ∷ []) ≡ Fits (of_y, None)
parted_fits false = refl
parted_fits true = refl

parted_again : (of_y : Bool) (said : List Said) (v : Bool × ℕ) (st : State) (more : List Tok) → parted_variable of_y said v → st.left ≡ words said ++ more → variable_at st ≡ Ok (v, after st said more)
unfolding ◌▹◌ done name variable_at
parted_again of_y said v st more l e =
    let here : Tok = NameTok (letter of_y ∷ []) in
    let inner = l.4 in
    let n = inner.0 in
    let i = inner.1 in
    let front_is : said ≡ plain here ∷ i = l.5 ∙ ap (λ (s : List Said). s ++ l.2) l.3 ∙ ap (λ (s : List Said). plain here ∷ s) (inner.5 ∙ ap (λ (s : List Said). i ++ s) inner.4.0 ∙ append-nil i) in
    let left : st.left ≡ here ∷ (words i ++ more) = e ∙ ap (λ (s : List Said). words s ++ more) front_is in
    let st1 : State = st_of (words i ++ more) st.uses st.rule in
    let idx : index_at Mapped st1 ≡ Ok (n, after st1 i more) = (good_index Mapped).again i n st1 more inner.3 tt refl in
    let read : (judged (variable_of (letter of_y ∷ [])) (st_of (here ∷ (words i ++ more)) st.uses st.rule) >>= variable_behind (suc (length (words i ++ more)))) ≡ Ok ((of_y, n), after st1 i more)
    = ap (λ (f : Fit (Bool × Option ℕ)). judged f (st_of (here ∷ (words i ++ more)) st.uses st.rule) >>= variable_behind (suc (length (words i ++ more)))) (parted_fits of_y) ∙ ap (λ (r : Read ℕ). r >>= with_letter of_y) idx in
    ap (λ (ts : List Tok). variable_at (st_of ts st.uses st.rule)) left ∙ read ∙ ap (λ (x : Bool × ℕ). Ok (x, after st1 i more)) (sym inner.4.1) ∙ ap (λ (s : List Said). Ok (v, after st s more)) (sym front_is)

pub good_variable : Good (Bool × ℕ) Always variable variable_at
unfolding either
good_variable =
    record {
      takes = λ st v st2 e. variable_takes st.left st.uses st.rule v st2 e;
      again = λ said v st more l f e. elim l [
        | inl a ↦ joined_again said v st more a e
        | inr b ↦ elim b [ inl a ↦ parted_again false said v st more a e | inr a ↦ parted_again true said v st more a e ]
      ];
    }

twin_term : Good Term Always term (number_at 160000 ▸ λ c. variable_at ▸ λ v. pure (record { coefficient = c; of_y = v.0; point = v.1 }))
twin_term = seq (good_number 160000) (λ c. seq good_variable (λ v. ended (record { coefficient = c; of_y = v.0; point = v.1 })))

pub good_term : Good Term Always term term_at
unfolding term_at ◌▸◌ pure
good_term = twin_term
