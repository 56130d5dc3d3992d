-- Readers that read just what a language says.
use Rattle.std.proofs.Common.{◌≡◌, ℕ, suc, Bool, true, false, cond, List, [], ◌∷◌, ◌++◌, length, Option, Some, None, Result, Ok, Err, refl, sym, ap, ◌∙◌, append_assoc, inl, inr}
use Rattle.std.proofs.lemmas.List.{append-nil}
use Rattle.rule_reader.specs.declared.fault.Fault.{Fault}
use Rattle.rule_reader.specs.declared.reader.Use.{Use}
use Rattle.rule_reader.specs.declared.reader.Fit.{Fit}
use Rattle.rule_reader.specs.declared.reader.Fit.TheVariants.{Fits, Unfit, NoNumber}
use Rattle.rule_reader.specs.Words.{Tok, State, head, rest, behind}
use Rattle.rule_reader.specs.Reading.{Read, ◌>>=◌, judged}
use Rattle.rule_reader.specs.Grammar.{Said, Index, plain, words, ◌▹◌, done, either}

-- the use of an index where so many words were left
abbrev pub use_at : ℕ → Option Index → List Use
use_at left None = []
use_at left (Some i) = record { left = left; index = i.value; bound = i.bound } ∷ []

-- the uses of indices among these words, with others behind them
abbrev pub uses_of : List Tok → List Said → List Use
uses_of more [] = []
uses_of more (s ∷ said) = use_at (suc (length (words said ++ more))) s.index ++ uses_of more said

-- a place behind these words, with the others left
abbrev pub after : State → List Said → List Tok → State
after st said left = record { left = left; uses = st.uses ++ uses_of left said; rule = st.rule }

-- What a reader takes from the front is what the language says; and what it says is read, where F holds of what follows.
pub record Good (A : Type 0) (F : List Tok → Type 0) (L : List Said → A → Type 0) (p : State → Read A) : Type 0 where
  pub takes : (st : State) (v : A) (st2 : State) → p st ≡ Ok (v, st2) → (said : List Said) × L said v × (st.left ≡ words said ++ st2.left) × (st2 ≡ after st said st2.left)
  pub again : (said : List Said) (v : A) (st : State) (more : List Tok) → L said v → F more → st.left ≡ words said ++ more → p st ≡ Ok (v, after st said more)

abbrev pub Always : List Tok → Type 0
Always more = Unit {0}

-- ---- lists and results

pub words_append : (a b : List Said) → words (a ++ b) ≡ words a ++ words b
words_append [] b = refl
words_append (s ∷ a) b = ap (λ (ts : List Tok). s.word ∷ ts) (words_append a b)

uses_append : (a b : List Said) (more : List Tok) → uses_of more (a ++ b) ≡ uses_of (words b ++ more) a ++ uses_of more b
uses_append [] b more = refl
uses_append (s ∷ a) b more =
    let k : words (a ++ b) ++ more ≡ words a ++ (words b ++ more) = ap (λ (ts : List Tok). ts ++ more) (words_append a b) ∙ append_assoc (words a) (words b) more in
    let here : use_at (suc (length (words (a ++ b) ++ more))) s.index ≡ use_at (suc (length (words a ++ (words b ++ more)))) s.index = ap (λ (ts : List Tok). use_at (suc (length ts)) s.index) k in
    rw (here, uses_append a b more) (sym (append_assoc (use_at (suc (length (words a ++ (words b ++ more)))) s.index) (uses_of (words b ++ more) a) (uses_of more b)))

pub after_after : (st : State) (a b : List Said) (left : List Tok) → after (after st a (words b ++ left)) b left ≡ after st (a ++ b) left
after_after st a b left =
    let e : (st.uses ++ uses_of (words b ++ left) a) ++ uses_of left b ≡ st.uses ++ uses_of left (a ++ b) =
    append_assoc st.uses (uses_of (words b ++ left) a) (uses_of left b) ∙ ap (λ (us : List Use). st.uses ++ us) (sym (uses_append a b left)) in
    ap (λ (us : List Use). record { left = left; uses = us; rule = st.rule }) e

pub bind_ok : {A B : Type 0} (r : Result A Fault) (f : A → Result B Fault) (y : B) → (r >>= f) ≡ Ok y → (x : A) × (r ≡ Ok x) × (f x ≡ Ok y)
bind_ok (Ok x) f y e = (x, refl, e)
bind_ok (Err d) f y e = absurd cc

abbrev pub okay : {A : Type 0} → A → Result A Fault
okay x = Ok x

pub ok_is : {A : Type 0} (x y : A) → okay x ≡ okay y → x ≡ y
ok_is x y e = cc

-- ---- one word

pub judged_ok : {A : Type 0} (fit : Fit A) (st : State) (v : A) (st2 : State) → judged fit st ≡ Ok (v, st2) → (fit ≡ Fits v) × (st2 ≡ behind st)
judged_ok (Fits x) st v st2 e =
    let both = ok_is (x, behind st) (v, st2) e in
    (ap (λ (p : _ × State). Fits p.0) both, sym (ap (λ (p : _ × State). p.1) both))
judged_ok Unfit st v st2 e = absurd cc
judged_ok NoNumber st v st2 e = absurd cc

-- a language of single words, and the test by which a word is read
pub record IsWord (A : Type 0) (L : List Said → A → Type 0) (fit : Option Tok → Fit A) : Type 0 where
  pub none : (v : A) → fit None ≡ Fits v → ⊥
  pub sound : (t : Tok) (v : A) → fit (Some t) ≡ Fits v → L (plain t ∷ []) v
  pub complete : (said : List Said) (v : A) → L said v → (t : Tok) × (said ≡ plain t ∷ []) × (fit (Some t) ≡ Fits v)

after_plain : (st : State) (t : Tok) (left : List Tok) → record { left = left; uses = st.uses; rule = st.rule } ≡ after st (plain t ∷ []) left
after_plain st t left = ap (λ (us : List Use). record { left = left; uses = us; rule = st.rule }) (sym (append-nil st.uses))

word_takes : (A : Type 0) (L : List Said → A → Type 0) (fit : Option Tok → Fit A) → IsWord A L fit → (left : List Tok) (uses : List Use) (rule : ℕ) (v : A) (st2 : State)
    → judged (fit (head left)) (record { left = left; uses = uses; rule = rule }) ≡ Ok (v, st2)
    → (said : List Said) × L said v × (left ≡ words said ++ st2.left) × (st2 ≡ after (record { left = left; uses = uses; rule = rule }) said st2.left)
word_takes A L fit is [] uses rule v st2 e =
    let j = judged_ok (fit None) (record { left = []; uses = uses; rule = rule }) v st2 e in
    absurd (is.none v j.0)
word_takes A L fit is (t ∷ left) uses rule v st2 e =
    let st : State = record { left = t ∷ left; uses = uses; rule = rule } in
    let j = judged_ok (fit (Some t)) st v st2 e in
    let k : st2.left ≡ left = ap (λ (s : State). s.left) j.1 in
    (plain t ∷ [], is.sound t v j.0, ap (λ (ts : List Tok). t ∷ ts) (sym k), j.1 ∙ after_plain st t left ∙ ap (after st (plain t ∷ [])) (sym k))

pub good_word : (A : Type 0) (L : List Said → A → Type 0) (fit : Option Tok → Fit A) → IsWord A L fit → Good A Always L (λ st. judged (fit (head st.left)) st)
good_word A L fit is =
    record {
      takes = λ st v st2 e. word_takes A L fit is st.left st.uses st.rule v st2 e;
      again = λ said v st more l f e.
          let c = is.complete said v l in
          let left : st.left ≡ c.0 ∷ more = e ∙ ap (λ (s : List Said). words s ++ more) c.1 in
          let fits : fit (head st.left) ≡ Fits v = ap (λ (ts : List Tok). fit (head ts)) left ∙ c.2 in
          let taken : behind st ≡ record { left = more; uses = st.uses; rule = st.rule } = ap (λ (ts : List Tok). record { left = rest ts; uses = st.uses; rule = st.rule }) left in
          ap (λ (f : Fit A). judged f st) fits ∙ ap (λ (s : State). Ok (v, s)) (taken ∙ after_plain st c.0 more ∙ ap (λ (s : List Said). after st s more) (sym c.1));
    }

-- ---- nothing, one after another, one or the other

pub good_done : (A : Type 0) (x : A) → Good A Always (done x) (λ st. Ok (x, st))
unfolding done
good_done A x =
    record {
      takes = λ st v st2 e.
          let both = ok_is (x, st) (v, st2) e in
          let s : st ≡ st2 = ap (λ (p : A × State). p.1) both in
          let uses : st.uses ≡ st.uses ++ [] = sym (append-nil st.uses) in
          let here : st ≡ after st [] st.left = ap (λ (us : List Use). record { left = st.left; uses = us; rule = st.rule }) uses in
          ([], (refl, sym (ap (λ (p : A × State). p.0) both)), ap (λ (q : State). q.left) s, sym s ∙ here ∙ ap (λ (q : State). after st [] q.left) s);
      again = λ said v st more l f e.
          let left : st.left ≡ more = e ∙ ap (λ (s : List Said). words s ++ more) l.0 in
          let uses : st.uses ≡ st.uses ++ [] = sym (append-nil st.uses) in
          let here : st ≡ after st [] more = ap (λ (ts : List Tok). record { left = ts; uses = st.uses; rule = st.rule }) left ∙ ap (λ (us : List Use). record { left = more; uses = us; rule = st.rule }) uses in
          let value : x ≡ v = sym l.1 in
          ap (λ (y : A). Ok (y, st)) value ∙ ap (λ (s : State). Ok (v, s)) (here ∙ ap (λ (s : List Said). after st s more) (sym l.0));
    }

pub good_then : (A B : Type 0) (F1 F2 : List Tok → Type 0) (L : List Said → A → Type 0) (M : A → List Said → B → Type 0) (p : State → Read A) (q : A → State → Read B)
    → Good A F1 L p → ((x : A) → Good B F2 (M x) (q x)) → ((x : A) (said : List Said) (y : B) (more : List Tok) → M x said y → F2 more → F1 (words said ++ more))
    → Good B F2 (L ▹ M) (λ st. p st >>= λ x. q x.0 x.1)
unfolding ◌▹◌
good_then A B F1 F2 L M p q g h follows =
    record {
      takes = λ st v st2 e.
          let b = bind_ok (p st) (λ x. q x.0 x.1) (v, st2) e in
          let t1 = g.takes st b.0.0 b.0.1 b.1 in
          let t2 = (h b.0.0).takes b.0.1 v st2 b.2 in
          let left : st.left ≡ words (t1.0 ++ t2.0) ++ st2.left = t1.2 ∙ ap (λ (ts : List Tok). words t1.0 ++ ts) t2.2 ∙ sym (append_assoc (words t1.0) (words t2.0) st2.left) ∙ ap (λ (ts : List Tok). ts ++ st2.left) (sym (words_append t1.0 t2.0)) in
          let place : b.0.1 ≡ after st t1.0 (words t2.0 ++ st2.left) = t1.3 ∙ ap (after st t1.0) t2.2 in
          (t1.0 ++ t2.0, (b.0.0, t1.0, t2.0, t1.1, t2.1, refl), left, t2.3 ∙ ap (λ (s : State). after s t2.0 st2.left) place ∙ after_after st t1.0 t2.0 st2.left);
      again = λ said v st more l f e.
          let x = l.0 in
          let front = l.1 in
          let back = l.2 in
          let left : st.left ≡ words front ++ (words back ++ more) = e ∙ ap (λ (s : List Said). words s ++ more) l.5 ∙ ap (λ (ts : List Tok). ts ++ more) (words_append front back) ∙ append_assoc (words front) (words back) more in
          let one : p st ≡ Ok (x, after st front (words back ++ more)) = g.again front x st (words back ++ more) l.3 (follows x back v more l.4 f) left in
          let two : q x (after st front (words back ++ more)) ≡ Ok (v, after (after st front (words back ++ more)) back more) = (h x).again back v (after st front (words back ++ more)) more l.4 f refl in
          ap (λ r. r >>= λ y. q y.0 y.1) one ∙ two ∙ ap (λ (s : State). Ok (v, s)) (after_after st front back more ∙ ap (λ (s : List Said). after st s more) (sym l.5));
    }

if_takes : (A : Type 0) (F : List Tok → Type 0) (L M : List Said → A → Type 0) (b : Bool) (p q : State → Read A) → Good A F L p → Good A F M q → (st : State) (v : A) (st2 : State) → cond b (p st) (q st) ≡ Ok (v, st2)
    → (said : List Said) × either L M said v × (st.left ≡ words said ++ st2.left) × (st2 ≡ after st said st2.left)
unfolding either
if_takes A F L M true p q g h st v st2 e = let t = g.takes st v st2 e in (t.0, inl t.1, t.2, t.3)
if_takes A F L M false p q g h st v st2 e = let t = h.takes st v st2 e in (t.0, inr t.1, t.2, t.3)

-- by what comes next
pub good_if : (A : Type 0) (F : List Tok → Type 0) (L M : List Said → A → Type 0) (test : Option Tok → Bool) (p q : State → Read A) → Good A F L p → Good A F M q
    → ((said : List Said) (v : A) (more : List Tok) → L said v → F more → test (head (words said ++ more)) ≡ true)
    → ((said : List Said) (v : A) (more : List Tok) → M said v → F more → test (head (words said ++ more)) ≡ false)
    → Good A F (either L M) (λ st. cond (test (head st.left)) (p st) (q st))
unfolding either
good_if A F L M test p q g h opened closed =
    record {
      takes = λ st v st2. if_takes A F L M (test (head st.left)) p q g h st v st2;
      again = λ said v st more l f e.
          let here : test (head st.left) ≡ test (head (words said ++ more)) = ap (λ (ts : List Tok). test (head ts)) e in
          elim l [
            | inl a ↦ ap (λ (b : Bool). cond b (p st) (q st)) (here ∙ opened said v more a f) ∙ g.again said v st more a f e
            | inr a ↦ ap (λ (b : Bool). cond b (p st) (q st)) (here ∙ closed said v more a f) ∙ h.again said v st more a f e
          ];
    }

-- where less is known of what follows
pub good_before : (A : Type 0) (F G : List Tok → Type 0) (L : List Said → A → Type 0) (p : State → Read A) → Good A F L p → ((more : List Tok) → G more → F more) → Good A G L p
good_before A F G L p g weaker = record { takes = g.takes; again = λ said v st more l f e. g.again said v st more l (weaker more f) e }

-- ---- readers put together

infixr 10 ◌▸◌
unfoldable pub ◌▸◌ : {A B : Type 0} → (State → Read A) → (A → State → Read B) → State → Read B
(p ▸ q) st = p st >>= λ x. q x.0 x.1

unfoldable pub pure : {A : Type 0} → A → State → Read A
pure x st = Ok (x, st)

pub seq : {A B : Type 0} {F : List Tok → Type 0} {L : List Said → A → Type 0} {M : A → List Said → B → Type 0} {p : State → Read A} {q : A → State → Read B}
    → Good A Always L p → ((x : A) → Good B F (M x) (q x)) → Good B F (L ▹ M) (p ▸ q)
unfolding ◌▸◌
seq {A} {B} {F} {L} {M} {p} {q} g h = good_then A B Always F L M p q g h (λ x said y more m f. tt)

-- where what follows must be known
pub seq_before : {A B : Type 0} {F1 F : List Tok → Type 0} {L : List Said → A → Type 0} {M : A → List Said → B → Type 0} {p : State → Read A} {q : A → State → Read B}
    → Good A F1 L p → ((x : A) → Good B F (M x) (q x)) → ((x : A) (said : List Said) (y : B) (more : List Tok) → M x said y → F more → F1 (words said ++ more)) → Good B F (L ▹ M) (p ▸ q)
unfolding ◌▸◌
seq_before {A} {B} {F1} {F} {L} {M} {p} {q} g h follows = good_then A B F1 F L M p q g h follows

pub ended : {A : Type 0} (x : A) → Good A Always (done x) (pure x)
unfolding pure
ended {A} x = good_done A x

-- a reader that answers as another does
pub good_same : {A : Type 0} {F : List Tok → Type 0} {L : List Said → A → Type 0} {p q : State → Read A} → Good A F L p → ((st : State) → q st ≡ p st) → Good A F L q
good_same {A} {F} {L} {p} {q} g same =
    record {
      takes = λ st v st2 e. g.takes st v st2 (sym (same st) ∙ e);
      again = λ said v st more l f e. same st ∙ g.again said v st more l f e;
    }

-- a language that says the same
pub good_says : {A : Type 0} {F : List Tok → Type 0} {L M : List Said → A → Type 0} {p : State → Read A} → Good A F L p → ((said : List Said) (v : A) → L said v → M said v) → ((said : List Said) (v : A) → M said v → L said v) → Good A F M p
good_says {A} {F} {L} {M} {p} g there back =
    record {
      takes = λ st v st2 e. let t = g.takes st v st2 e in (t.0, there t.0 v t.1, t.2, t.3);
      again = λ said v st more l f e. g.again said v st more (back said v l) f e;
    }
