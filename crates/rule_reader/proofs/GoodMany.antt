-- Readers of many read just what the grammar says.
use Rattle.std.proofs.Common.{◌≡◌, ℕ, zero, suc, ◌+◌, ◌≤◌, Bool, true, false, cond, List, [], ◌∷◌, ◌++◌, length, Option, Some, Result, Ok, Err, refl, sym, ap, subst, ◌∙◌, arith}
use Rattle.std.proofs.lemmas.List.{append-nil}
use Rattle.rule_reader.specs.declared.fault.Fault.{Fault}
use Rattle.rule_reader.specs.declared.fault.Fault.TheVariants.{TooMany}
use Rattle.rule_reader.specs.declared.rule.Term.{Term}
use Rattle.rule_reader.specs.declared.rule.Place.{Place}
use Rattle.rule_reader.specs.Words.{Tok, MarkTok, State, head}
use Rattle.rule_reader.specs.Reading.{Read, ◌>>=◌, is_fit, mark_fit, opens, mark_at, term_at, past_terms, terms_at, entries_at}
use Rattle.rule_reader.specs.Grammar.{Limits, Said, words, ◌▹◌, done, either, many, at_most, mark, term, terms, row, rows, place}
use Rattle.rule_reader.proofs.Good.{Good, Always, good_if, good_done, good_before, good_same, ◌▸◌, pure, seq, seq_before, ended, after, bind_ok}
use Rattle.rule_reader.proofs.Within.{inner_terms_in, row_in, any_row_in, rows_in, place_in}
use Rattle.rule_reader.proofs.GoodEntries.{good_mark, good_coordinates, good_term}
use Rattle.rule_reader.proofs.GoodLists.{mark_head, number_head, then_head, AtMark, NoMark}

-- no more, where a test fails of what follows
abbrev pub Stops : (Option Tok → Bool) → List Tok → Type 0
Stops test more = test (head more) ≡ false

-- a reader of entries one after another, k of them before, with room for so many
pub record ReadsMany (A : Type 0) (entry : ℕ → List Said → A → Type 0) (e : ℕ → State → Read A) (test : Option Tok → Bool) (R : ℕ → ℕ → State → Read (List A)) : Type 0 where
  pub full : (k : ℕ) (st : State) (x : List A × State) → test (head st.left) ≡ true → R k zero st ≡ Ok x → ⊥
  pub more : (k room : ℕ) (st : State) → test (head st.left) ≡ true → R k (suc room) st ≡ (e k st >>= λ x. R (k + 1) room x.1 >>= λ xs. Ok (x.0 ∷ xs.0, xs.1))
  pub stop : (k room : ℕ) (st : State) → test (head st.left) ≡ false → R k room st ≡ Ok ([], st)
  pub entries : (k : ℕ) → Good A Always (entry k) (e k)
  pub begins : (k : ℕ) (said : List Said) (v : A) (more : List Tok) → entry k said v → test (head (words said ++ more)) ≡ true

abbrev pub upto : {A : Type 0} → (ℕ → List Said → A → Type 0) → ℕ → ℕ → List Said → List A → Type 0
upto entry k room said xs = many entry k said xs × (length xs ≤ room)

-- one, and then others
abbrev pub more_of : {A : Type 0} → (ℕ → List Said → A → Type 0) → ℕ → ℕ → List Said → List A → Type 0
more_of entry k room = entry k ▹ λ x. upto entry (k + 1) room ▹ λ xs. done (x ∷ xs)

pub more_is : {A : Type 0} (entry : ℕ → List Said → A → Type 0) (k room : ℕ) (said : List Said) (v : List A) → more_of entry k room said v → upto entry k (suc room) said v
unfolding ◌▹◌ done many
more_is {A} entry k room said v l =
    let x = l.0 in
    let inner = l.4 in
    let xs = inner.0 in
    let back : l.2 ≡ inner.1 = inner.5 ∙ ap (λ (s : List Said). inner.1 ++ s) inner.4.0 ∙ append-nil inner.1 in
    let whole : upto entry k (suc room) said (x ∷ xs) = ((l.1, inner.1, l.3, inner.3.0, l.5 ∙ ap (λ (s : List Said). l.1 ++ s) back), omega (arith, inner.3.1)) in
    subst (λ (ys : List A). upto entry k (suc room) said ys) (sym inner.4.1) whole

is_more : {A : Type 0} (entry : ℕ → List Said → A → Type 0) (k room : ℕ) (said : List Said) (x : A) (xs : List A) → many entry k said (x ∷ xs) → length xs ≤ room → more_of entry k room said (x ∷ xs)
unfolding ◌▹◌ done many
is_more entry k room said x xs l few = (x, l.0, l.1, l.2, (xs, l.1, [], (l.3, few), (refl, refl), sym (append-nil l.1)), l.4)

pub done_words : {A : Type 0} (x : A) (said : List Said) (v : A) (more : List Tok) → done x said v → words said ++ more ≡ more
unfolding done
done_words x said v more l = ap (λ (s : List Said). words s ++ more) l.0

good_more : (A : Type 0) (entry : ℕ → List Said → A → Type 0) (e : ℕ → State → Read A) (test : Option Tok → Bool) (R : ℕ → ℕ → State → Read (List A)) → ReadsMany A entry e test R → (k room : ℕ)
    → Good (List A) (Stops test) (upto entry (k + 1) room) (R (k + 1) room) → Good (List A) (Stops test) (more_of entry k room) (e k ▸ λ x. R (k + 1) room ▸ λ xs. pure (x ∷ xs))
good_more A entry e test R is k room g = seq (is.entries k) (λ x. seq_before g (λ xs. good_before (List A) Always (Stops test) (done (x ∷ xs)) (pure (x ∷ xs)) (ended (x ∷ xs)) (λ more f. tt)) (λ xs said y more m f. subst (Stops test) (sym (done_words (x ∷ xs) said y more m)) f))

-- what comes where reading goes on or stops
many_takes : (A : Type 0) (entry : ℕ → List Said → A → Type 0) (e : ℕ → State → Read A) (test : Option Tok → Bool) (R : ℕ → ℕ → State → Read (List A)) → ReadsMany A entry e test R → (k room : ℕ) (b : Bool) (st : State) (v : List A) (st2 : State)
    → test (head st.left) ≡ b → R k room st ≡ Ok (v, st2) → ((more : ℕ) → room ≡ suc more → Good (List A) (Stops test) (upto entry (k + 1) more) (R (k + 1) more))
    → (said : List Said) × upto entry k room said v × (st.left ≡ words said ++ st2.left) × (st2 ≡ after st said st2.left)
unfolding many ◌▸◌ pure done
many_takes A entry e test R is k room false st v st2 t read g =
    let d = (good_done (List A) []).takes st v st2 (sym (is.stop k room st t) ∙ read) in
    let v-is : v ≡ [] = d.1.1 in
    (d.0, subst (λ (ys : List A). upto entry k room d.0 ys) (sym v-is) (d.1.0, omega arith), d.2, d.3)
many_takes A entry e test R is k zero true st v st2 t read g = absurd (is.full k st (v, st2) t read)
many_takes A entry e test R is k (suc room) true st v st2 t read g =
    let m = (good_more A entry e test R is k room (g room refl)).takes st v st2 (sym (is.more k room st t) ∙ read) in
    (m.0, more_is entry k room m.0 v m.1, m.2, m.3)

more_head : (A : Type 0) (entry : ℕ → List Said → A → Type 0) (e : ℕ → State → Read A) (test : Option Tok → Bool) (R : ℕ → ℕ → State → Read (List A)) → ReadsMany A entry e test R → (k room : ℕ) (said : List Said) (v : List A) (more : List Tok) → more_of entry k room said v → test (head (words said ++ more)) ≡ true
more_head A entry e test R is k room said v more l = then_head _ (λ o. test o ≡ true) (λ s w n a. is.begins k s w n a) said v more l

many_again : (A : Type 0) (entry : ℕ → List Said → A → Type 0) (e : ℕ → State → Read A) (test : Option Tok → Bool) (R : ℕ → ℕ → State → Read (List A)) → ReadsMany A entry e test R → (k room : ℕ) (said : List Said) (v : List A) (st : State) (more : List Tok)
    → upto entry k room said v → Stops test more → st.left ≡ words said ++ more → ((less : ℕ) → room ≡ suc less → Good (List A) (Stops test) (upto entry (k + 1) less) (R (k + 1) less))
    → R k room st ≡ Ok (v, after st said more)
unfolding many ◌▸◌ pure done ◌▹◌
many_again A entry e test R is k room said [] st more l f left g =
    let here : st.left ≡ more = left ∙ ap (λ (s : List Said). words s ++ more) l.0 in
    let t : test (head st.left) ≡ false = ap (λ (ts : List Tok). test (head ts)) here ∙ f in
    is.stop k room st t ∙ (good_done (List A) []).again said [] st more (l.0, refl) tt left
many_again A entry e test R is k zero said (x ∷ xs) st more l f left g = absurd (omega (arith, l.1))
many_again A entry e test R is k (suc room) said (x ∷ xs) st more l f left g =
    let m = is_more entry k room said x xs l.0 (omega (arith, l.1)) in
    let t : test (head st.left) ≡ true = ap (λ (ts : List Tok). test (head ts)) left ∙ more_head A entry e test R is k room said (x ∷ xs) more m in
    is.more k room st t ∙ (good_more A entry e test R is k room (g room refl)).again said (x ∷ xs) st more m f left

pub good_many : (A : Type 0) (entry : ℕ → List Said → A → Type 0) (e : ℕ → State → Read A) (test : Option Tok → Bool) (R : ℕ → ℕ → State → Read (List A)) → ReadsMany A entry e test R → (k room : ℕ) → Good (List A) (Stops test) (upto entry k room) (R k room)
good_many A entry e test R is k zero =
    record {
      takes = λ st v st2 read. many_takes A entry e test R is k zero (test (head st.left)) st v st2 refl read (λ less e. absurd cc);
      again = λ said v st more l f left. many_again A entry e test R is k zero said v st more l f left (λ less e. absurd cc);
    }
good_many A entry e test R is k (suc room) =
    let inner = good_many A entry e test R is (k + 1) room in
    let g : (less : ℕ) → suc room ≡ suc less → Good (List A) (Stops test) (upto entry (k + 1) less) (R (k + 1) less) = λ less same. subst (λ (n : ℕ). Good (List A) (Stops test) (upto entry (k + 1) n) (R (k + 1) n)) (omega arith) inner in
    record {
      takes = λ st v st2 read. many_takes A entry e test R is k (suc room) (test (head st.left)) st v st2 refl read g;
      again = λ said v st more l f left. many_again A entry e test R is k (suc room) said v st more l f left g;
    }

-- ---- entries

abbrev pub is_open : Option Tok → Bool
is_open o = is_fit (mark_fit 40 o)

pub entries_stop : {A : Type 0} (e : ℕ → State → Read A) (what k room : ℕ) (st : State) → opens 40 st ≡ false → entries_at e what k room st ≡ Ok ([], st)
unfolding entries_at
entries_stop e what k zero st t = rw t refl
entries_stop e what k (suc room) st t = rw t refl

pub entries_full : {A : Type 0} (e : ℕ → State → Read A) (what k : ℕ) (st : State) (x : List A × State) → opens 40 st ≡ true → entries_at e what k zero st ≡ Ok x → ⊥
unfolding entries_at
entries_full e what k st x t read = let none : Err (TooMany st.rule what) ≡ Ok x = rw t at read in absurd cc

reads_entries : (A : Type 0) (entry : ℕ → List Said → A → Type 0) (e : ℕ → State → Read A) (what : ℕ) → ((k : ℕ) → Good A Always (entry k) (e k)) → ((k : ℕ) (said : List Said) (v : A) (more : List Tok) → entry k said v → head (words said ++ more) ≡ Some (MarkTok 40))
    → ReadsMany A entry e is_open (λ k room. entries_at e what k room)
unfolding entries_at
reads_entries A entry e what good begins =
    record {
      full = λ k st x t read. entries_full e what k st x t read;
      more = λ k room st t. rw t refl;
      stop = λ k room st t. entries_stop e what k room st t;
      entries = good;
      begins = λ k said v more l. ap is_open (begins k said v more l);
    }

pub good_entries : (A : Type 0) (entry : ℕ → List Said → A → Type 0) (e : ℕ → State → Read A) (what most : ℕ) → ((k : ℕ) → Good A Always (entry k) (e k)) → ((k : ℕ) (said : List Said) (v : A) (more : List Tok) → entry k said v → head (words said ++ more) ≡ Some (MarkTok 40))
    → Good (List A) (NoMark 40) (at_most most entry) (entries_at e what 0 most)
unfolding at_most
good_entries A entry e what most good begins = good_many A entry e is_open (λ k room. entries_at e what k room) (reads_entries A entry e what good begins) 0 most

-- ---- rows

abbrev pub is_comma : Option Tok → Bool
is_comma o = is_fit (mark_fit 44 o)

-- terms that each have a comma before them
abbrev pub comma_term : ℕ → List Said → Term → Type 0
comma_term k = mark 44 ▹ λ c. term

abbrev pub rest_terms : ℕ → State → Read (List Term)
rest_terms room st = cond (opens 44 st) (mark_at 44 st >>= λ c. terms_at room c.1) (Ok ([], st))

bind_assoc : {A B C : Type 0} (r : Result A Fault) (f : A → Result B Fault) (g : B → Result C Fault) → (r >>= f) >>= g ≡ r >>= (λ x. f x >>= g)
bind_assoc (Ok x) f g = refl
bind_assoc (Err e) f g = refl

pub bind_same : {A B : Type 0} (r : Result A Fault) (f g : A → Result B Fault) → ((x : A) → f x ≡ g x) → r >>= f ≡ r >>= g
bind_same (Ok x) f g same = same x
bind_same (Err e) f g same = refl

abbrev put_term : Term × State → List Term × State → Read (List Term)
put_term t ts = Ok (t.0 ∷ ts.0, ts.1)

after_term : (b : Bool) (t : Term × State) (room : ℕ) → cond b (mark_at 44 t.1 >>= λ c. terms_at room c.1 >>= put_term t) (Ok (t.0 ∷ [], t.1)) ≡ cond b (mark_at 44 t.1 >>= λ c. terms_at room c.1) (Ok ([], t.1)) >>= put_term t
after_term true t room = sym (bind_assoc (mark_at 44 t.1) (λ c. terms_at room c.1) (put_term t))
after_term false t room = refl

pub terms_more : (room : ℕ) (st : State) → terms_at (suc room) st ≡ (term_at st >>= λ t. rest_terms room t.1 >>= put_term t)
unfolding terms_at
terms_more room st = bind_same (term_at st) (λ t. cond (opens 44 t.1) (mark_at 44 t.1 >>= λ c. terms_at room c.1 >>= put_term t) (Ok (t.0 ∷ [], t.1))) (λ t. rest_terms room t.1 >>= put_term t) (λ t. after_term (opens 44 t.1) t room)

absurd_full : (st : State) (x : List Term × State) → terms_at zero st ≡ Ok x → ⊥
unfolding terms_at
absurd_full st x read = let none : Err (past_terms st) ≡ Ok x = read in absurd cc

pub rest_full : (st : State) (x : List Term × State) → opens 44 st ≡ true → rest_terms zero st ≡ Ok x → ⊥
unfolding terms_at
rest_full st x t read =
    let one : (mark_at 44 st >>= λ c. terms_at zero c.1) ≡ Ok x = rw t at read in
    let b = bind_ok (mark_at 44 st) (λ c. terms_at zero c.1) x one in
    absurd_full b.0.1 x b.2

pub rest_more : (room : ℕ) (st : State) → opens 44 st ≡ true → rest_terms (suc room) st ≡ ((mark_at 44 ▸ λ c. term_at) st >>= λ x. rest_terms room x.1 >>= put_term x)
unfolding ◌▸◌
rest_more room st t =
    let one : rest_terms (suc room) st ≡ (mark_at 44 st >>= λ c. terms_at (suc room) c.1) = rw t refl in
    one ∙ bind_same (mark_at 44 st) (λ c. terms_at (suc room) c.1) (λ c. term_at c.1 >>= λ x. rest_terms room x.1 >>= put_term x) (λ c. terms_more room c.1)
    ∙ sym (bind_assoc (mark_at 44 st) (λ c. term_at c.1) (λ x. rest_terms room x.1 >>= put_term x))

reads_terms : ReadsMany Term comma_term (λ k. mark_at 44 ▸ λ c. term_at) is_comma (λ k room. rest_terms room)
reads_terms =
    record {
      full = λ k st x t read. rest_full st x t read;
      more = λ k room st t. rest_more room st t;
      stop = λ k room st t. rw t refl;
      entries = λ k. seq (good_mark 44) (λ c. good_term);
      begins = λ k said v more l. ap is_comma (mark_head _ 44 said v more l);
    }

good_rest : (most : ℕ) → Good (List Term) (NoMark 44) (at_most most comma_term) (rest_terms most)
unfolding at_most
good_rest most = good_many Term comma_term (λ k. mark_at 44 ▸ λ c. term_at) is_comma (λ k room. rest_terms room) reads_terms 0 most

twin_terms : (most : Limits) → Good (List Term) (NoMark 44) (terms most) (term_at ▸ λ t. rest_terms (most 10) ▸ λ ts. pure (t ∷ ts))
twin_terms most = seq good_term (λ t. seq_before (good_rest (most 10)) (λ ts. good_before (List Term) Always (NoMark 44) (done (t ∷ ts)) (pure (t ∷ ts)) (ended (t ∷ ts)) (λ more f. tt)) (λ ts said y more m f. subst (NoMark 44) (sym (done_words (t ∷ ts) said y more m)) f))

good_terms : (most : Limits) → Good (List Term) (NoMark 44) (terms most) (terms_at (suc (most 10)))
unfolding ◌▸◌ pure
good_terms most = good_same (twin_terms most) (λ st. terms_more (most 10) st)

-- a row's terms begin with a number
terms_head : (most : Limits) (said : List Said) (v : List Term) (more : List Tok) → terms most said v → is_fit (mark_fit 125 (head (words said ++ more))) ≡ false
terms_head most said v more l = then_head _ (λ o. is_fit (mark_fit 125 o) ≡ false) (λ s w m k. let h = number_head _ 160000 s w m k in ap (λ o. is_fit (mark_fit 125 o)) h.1) said v more l

good_inner : (most : Limits) → Good (List Term) (AtMark 125) (either (done []) (terms most)) (inner_terms_in most)
unfolding inner_terms_in
good_inner most = good_if (List Term) (AtMark 125) (done []) (terms most) (λ o. is_fit (mark_fit 125 o)) (λ st. Ok ([], st)) (terms_at (suc (most 10)))
    (good_before (List Term) Always (AtMark 125) (done []) (λ st. Ok ([], st)) (good_done (List Term) []) (λ more f. tt)) (good_before (List Term) (NoMark 44) (AtMark 125) (terms most) (terms_at (suc (most 10))) (good_terms most) (λ more f. ap (λ o. is_fit (mark_fit 44 o)) f))
    (λ said v more l f. ap (λ ts. is_fit (mark_fit 125 (head ts))) (done_words [] said v more l) ∙ ap (λ o. is_fit (mark_fit 125 o)) f)
    (λ said v more l f. terms_head most said v more l)

good_row : (most : Limits) → Good (List Term) Always (row most) (row_in most)
unfolding row_in
good_row most = seq (good_mark 123) (λ a. seq_before (good_inner most) (λ ts. seq (good_mark 125) (λ b. ended ts)) (λ ts said y more m f. mark_head _ 125 said y more m))

row_head : (most : Limits) (said : List Said) (v : List Term) (more : List Tok) → row most said v → head (words said ++ more) ≡ Some (MarkTok 123)
row_head most said v more l = mark_head _ 123 said v more l

good_any_row : (most : Limits) → Good (List Term) (NoMark 123) (either (row most) (done [])) (any_row_in most)
unfolding any_row_in
good_any_row most = good_if (List Term) (NoMark 123) (row most) (done []) (λ o. is_fit (mark_fit 123 o)) (row_in most) (λ st. Ok ([], st))
    (good_before (List Term) Always (NoMark 123) (row most) (row_in most) (good_row most) (λ more f. tt)) (good_before (List Term) Always (NoMark 123) (done []) (λ st. Ok ([], st)) (good_done (List Term) []) (λ more f. tt))
    (λ said v more l f. ap (λ o. is_fit (mark_fit 123 o)) (row_head most said v more l))
    (λ said v more l f. ap (λ ts. is_fit (mark_fit 123 (head ts))) (done_words [] said v more l) ∙ f)

abbrev Rows : Type 0
Rows = List Term × List Term

abbrev no_rows : Rows
no_rows = ([], [])

twin_rows : (most : Limits) → Good Rows (AtMark 59) (row most ▹ λ x. either (row most) (done []) ▹ λ y. done (x, y)) (row_in most ▸ λ x. any_row_in most ▸ λ y. pure (x, y))
twin_rows most = seq (good_row most) (λ x. seq_before (good_any_row most) (λ y. good_before Rows Always (AtMark 59) (done (x, y)) (pure (x, y)) (ended (x, y)) (λ more f. tt))
    (λ y said v more m f. ap (λ ts. is_fit (mark_fit 123 (head ts))) (done_words (x, y) said v more m) ∙ ap (λ o. is_fit (mark_fit 123 o)) f))

good_rows : (most : Limits) → Good Rows (AtMark 59) (rows most) (rows_in most)
unfolding rows_in
good_rows most = good_if Rows (AtMark 59) (row most ▹ λ x. either (row most) (done []) ▹ λ y. done (x, y)) (done no_rows) (λ o. is_fit (mark_fit 123 o)) (row_in most ▸ λ x. any_row_in most ▸ λ y. pure (x, y)) (λ st. Ok (no_rows, st))
    (twin_rows most) (good_before Rows Always (AtMark 59) (done no_rows) (λ st. Ok (no_rows, st)) (good_done Rows no_rows) (λ more f. tt))
    (λ said v more l f. ap (λ o. is_fit (mark_fit 123 o)) (then_head _ (λ o. o ≡ Some (MarkTok 123)) (row_head most) said v more l))
    (λ said v more l f. ap (λ ts. is_fit (mark_fit 123 (head ts))) (done_words no_rows said v more l) ∙ ap (λ o. is_fit (mark_fit 123 o)) f)

pub good_place : (most : Limits) (before : ℕ) → Good Place Always (place most before) (place_in most before)
unfolding place_in
good_place most before = seq good_coordinates (λ p. seq_before (good_rows most) (λ r. seq (good_mark 59) (λ c. ended (record { x = p.0; y = p.1; row_x = r.0; row_y = r.1 }))) (λ r said y more k f. mark_head _ 59 said y more k))
