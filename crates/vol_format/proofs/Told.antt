-- What is refused is refused so: the refusal's word and kind are as the grammar has them.
use Rattle.std.proofs.Common.{◌≡◌, ◌≢◌, ◌⊎◌, inl, inr, ℕ, ◌+◌, ◌≤◌, Bool, true, false, List, [], ◌∷◌, ◌++◌, length, Some, None, Result, Ok, Err, refl, sym, ap, subst, ◌∙◌, arith}
use Rattle.std.specs.Prelude.{ℤ, IfOk, IfErr, MatchResult}
use Rattle.std.proofs.lemmas.List.{append-nil}
use Rattle.std.proofs.lemmas.List.{length-map}
use Rattle.std.proofs.lemmas.Slice.Zip.{AllZip-long}
use Rattle.word_scan.specs.Numerals.{is_whole}
use Rattle.word_scan.specs.Bytes.{bytes_of}
use Rattle.word_scan.specs.Scan.{spaced_words, words_of}
use Rattle.word_scan.proofs.Laws.{few_words}
use Rattle.vol_format.specs.declared.Mesh.{Mesh}
use Rattle.vol_format.specs.declared.refusal.VolRefusal.{VolRefusal}
use Rattle.vol_format.specs.declared.refusal.VolRefusal.TheVariants.{Syntax, Number as NumberAt, TooMany, BadIndex, Memory}
use Rattle.vol_format.specs.Vol.{places}
use Rattle.vol_format.specs.Text.{Word, Says, mesh_items, Derives, Known}
use Rattle.vol_format.specs.Refusals.{Stops, IsNumber, Refuses}
use Rattle.vol_format.specs.Reading.{Need, NeedWord, NeedNumber, NeedPoint, NeedCount, NeedPlace, Given, got, refused, Form, Leaf, Ask, State, run, ended, ended_at, at_start, mesh_at, known, mesh_of, Gives}
use Rattle.vol_format.proofs.Words.{told_whole, whole_told}
use Rattle.vol_format.proofs.Asks.{item_of}
use Rattle.vol_format.proofs.Leads.{spot, Reach, Outcome, Done, Short, Wrong, outcome}
use Rattle.vol_format.proofs.Meshes.{mesh_form}
use Rattle.vol_format.proofs.Derived.{text_read, as_run, reach_front, front_reach, reach_derives, text_is_read, wants_asked, Wanted, asked_wanted}
use Rattle.vol_format.proofs.PointNumbers.{Checked, IsKnown, IsBad, checked}
use Rattle.vol_format.proofs.Refused.{past_limit, not_both, refuses_back, derives_back}

-- behind a value no word is taken
past_leaf : (k : ℕ) (f g : Form Mesh) (a : Mesh) (before : List Word) (w : Word) → Reach k f before (Leaf a) → Reach k f (before ++ w ∷ []) g → ⊥
past_leaf k f g a [] w p q = subst (λ (h : Form Mesh). Reach k h (w ∷ []) g) p q
past_leaf k (Leaf b) g a (x ∷ before) w p q = p
past_leaf k (Ask need form) g a (x ∷ before) w p q =
    let both : Some p.0 ≡ Some q.0 = sym p.1 ∙ q.1 in
    let same : q.0 ≡ p.0 = cc in
    past_leaf k (form p.0) g a before w p.2 (subst (λ (v : Given need). Reach k (form v) (before ++ w ∷ []) g) same q.2)

-- where something is needed, a word that is taken is that
past_ask : (k : ℕ) (f g : Form Mesh) (need : Need) (form : Given need → Form Mesh) (before : List Word) (w : Word) → Reach k f before (Ask need form) → Reach k f (before ++ w ∷ []) g → (v : Given need) × (got k need w ≡ Some v)
past_ask k f g need form [] w p q =
    let r : Reach k (Ask need form) (w ∷ []) g = subst (λ (h : Form Mesh). Reach k h (w ∷ []) g) p q in
    (r.0, r.1)
past_ask k (Leaf b) g need form (x ∷ before) w p q = absurd p
past_ask k (Ask other more) g need form (x ∷ before) w p q =
    let both : Some p.0 ≡ Some q.0 = sym p.1 ∙ q.1 in
    let same : q.0 ≡ p.0 = cc in
    past_ask k (more p.0) g need form before w p.2 (subst (λ (v : Given other). Reach k (more v) (before ++ w ∷ []) g) same q.2)

abbrev need_of : Form Mesh → Need
need_of (Leaf a) = NeedPoint
need_of (Ask need form) = need

word_wanted : (text : Word) (need : Need) (v : Given need) → NeedWord text ≡ need → IsNumber (item_of need v) → ⊥
word_wanted text (NeedWord other) v e is = is
word_wanted text (NeedNumber least greatest) v e is = cc
word_wanted text NeedPoint v e is = cc
word_wanted text NeedCount v e is = cc
word_wanted text (NeedPlace greatest) v e is = cc

count_told : (b : Bool) (shift : ℤ) (words : List Word) (at : ℕ) (w : Word) (s : Stops shift words at w) → is_whole w ≡ b → got 0 NeedCount w ≡ None → Wanted shift s.before NeedCount → Refuses shift words (refused NeedCount at w)
count_told true shift words at w s e none wanted =
    let refusal : Refuses shift words (TooMany at) = (w, s, item_of NeedCount wanted.value, wanted.wants, (told_whole w e, past_limit w e none)) in
    rw e refusal
count_told false shift words at w s e none wanted =
    let refusal : Refuses shift words (NumberAt at) = (w, s, item_of NeedCount wanted.value, wanted.wants, tt, λ p. not_both (is_whole w) (whole_told w p.0) e) in
    rw e refusal

-- a word that is not what is needed
wrong_told : (shift : ℤ) (words : List Word) (at : ℕ) (w : Word) (s : Stops shift words at w) (need : Need) (form : Given need → Form Mesh) → Reach (places shift) (mesh_form shift) s.before (Ask need form) → got (places shift) need w ≡ None → Refuses shift words (refused need at w)
wrong_told shift words at w s (NeedWord text) form reach none =
    inl (
      w,
      s,
      λ item wants is.
          let a = wants_asked shift s.before (Ask (NeedWord text) form) item reach wants in
          word_wanted text a.need a.value (ap need_of a.is) (subst IsNumber a.same is),
    )
wrong_told shift words at w s (NeedNumber least greatest) form reach none = let n = asked_wanted shift s.before (NeedNumber least greatest) form reach in (w, s, item_of (NeedNumber least greatest) n.value, n.wants, tt, λ p. p)
wrong_told shift words at w s NeedPoint form reach none = let n = asked_wanted shift s.before NeedPoint form reach in (w, s, item_of NeedPoint n.value, n.wants, tt, λ p. p)
wrong_told shift words at w s NeedCount form reach none = count_told (is_whole w) shift words at w s refl none (asked_wanted shift s.before NeedCount form reach)
wrong_told shift words at w s (NeedPlace greatest) form reach none = let n = asked_wanted shift s.before (NeedPlace greatest) form reach in (w, s, item_of (NeedPlace greatest) n.value, n.wants, tt, λ p. p)

-- what reading gives: a mesh whose point numbers are known, or a refusal that is told
data Read (shift : ℤ) (words : List Word) (r : Result Mesh VolRefusal) : Type 0 where
  Whole : (m : Mesh) → Derives shift words m → Known m → r ≡ Ok m → Read shift words r
  Refused : (e : VolRefusal) → Refuses shift words e → r ≡ Err e → Read shift words r

checked_told : (shift : ℤ) (words : List Word) (m : Mesh) (r : Result Mesh VolRefusal) → Derives shift words m → Checked m r → Read shift words r
checked_told shift words m r derives (IsKnown each is) = Whole m derives each is
checked_told shift words m r derives (IsBad at mis is) = Refused (BadIndex at) (m, derives, mis) is

derives_told : (shift : ℤ) (words : List Word) (m : Mesh) → Derives shift words m → text_read shift words ≡ Ok m → Read shift words (known (text_read shift words))
derives_told shift words m derives read = subst (λ (r : Result Mesh VolRefusal). Read shift words (known r)) (sym read) (checked_told shift words m (known (Ok m)) derives (checked m))

refused_told : (shift : ℤ) (words : List Word) (e : VolRefusal) → Refuses shift words e → text_read shift words ≡ Err e → Read shift words (known (text_read shift words))
refused_told shift words e refuses read = Refused e refuses (ap known read)

told : (shift : ℤ) (words : List Word) → Outcome (places shift) 1 (mesh_form shift) words (run (mesh_form shift) (spot (places shift) 1 words)) → Read shift words (known (text_read shift words))
told shift words (Done a before [] same reach is) =
    let all : words ≡ before = same ∙ append-nil before in
    derives_told shift words a (reach_derives shift words a (subst (λ (ws : List Word). Reach (places shift) (mesh_form shift) ws (Leaf a)) (sym all) reach)) (sym (as_run shift words) ∙ ap ended is)
told shift words (Done a before (w ∷ after) same reach is) =
    let at = 1 + length before in
    let s : Stops shift words at w = record { before = before; after = after; same = same; place = omega arith; front = reach_front shift before (Leaf a) reach; stop = λ f. let r = front_reach shift (before ++ w ∷ []) f in past_leaf (places shift) (mesh_form shift) r.left a before w reach r.reach } in
    refused_told shift words (Syntax at) (inl (w, s, λ item wants number. let asked = wants_asked shift before (Leaf a) item reach wants in let clash : Leaf a ≡ Ask asked.need asked.form = asked.is in absurd cc)) (sym (as_run shift words) ∙ ap ended is)
told shift words (Short need form reach is) =
    let read : text_read shift words ≡ Err (Syntax (1 + length words)) = sym (as_run shift words) ∙ ap ended is in
    refused_told shift words (Syntax (1 + length words)) (inr (record { place = omega arith; front = reach_front shift words (Ask need form) reach; stop = λ m d. let both : Ok m ≡ Err (Syntax (1 + length words)) = sym (text_is_read shift words m d) ∙ read in absurd cc })) read
told shift words (Wrong before after w need form same reach none is) =
    let at = 1 + length before in
    let s : Stops shift words at w = record { before = before; after = after; same = same; place = omega arith; front = reach_front shift before (Ask need form) reach; stop = λ f. let r = front_reach shift (before ++ w ∷ []) f in let t = past_ask (places shift) (mesh_form shift) r.left need form before w reach r.reach in let both : None ≡ Some t.0 = sym none ∙ t.1 in absurd cc } in
    refused_told shift words (refused need at w) (wrong_told shift words at w s need form reach none) (sym (as_run shift words) ∙ ap ended is)

read : (shift : ℤ) (words : List Word) → Read shift words (mesh_of shift words)
unfolding mesh_of
read shift words = told shift words (outcome (places shift) 1 (mesh_form shift) words)

-- ---- the clauses of the call

err_told : (shift : ℤ) (words : List Word) (e : VolRefusal) → mesh_of shift words ≡ Err e → Refuses shift words e
err_told shift words e h = go (read shift words)
  where
    go : Read shift words (mesh_of shift words) → Refuses shift words e
    go (Whole m derives each is) = let both : Ok m ≡ Err e = sym is ∙ h in absurd cc
    go (Refused f refuses is) = let both : Err f ≡ Err e = sym is ∙ h in let same : f ≡ e = cc in subst (λ (x : VolRefusal). Refuses shift words x) same refuses

ok_told : (shift : ℤ) (words : List Word) (m : Mesh) → mesh_of shift words ≡ Ok m → Derives shift words m × Known m
ok_told shift words m h = go (read shift words)
  where
    go : Read shift words (mesh_of shift words) → Derives shift words m × Known m
    go (Whole n derives each is) = let both : Ok n ≡ Ok m = sym is ∙ h in let same : n ≡ m = cc in subst (λ (x : Mesh). Derives shift words x × Known x) same (derives, each)
    go (Refused f refuses is) = let both : Err f ≡ Ok m = sym is ∙ h in absurd cc

pub is_found : (shift : ℤ) (words : List Word) (r : Result Mesh VolRefusal) → Gives (λ m. m) r (mesh_of shift words) → IfOk r (λ m. Derives shift words m × Known m)
is_found shift words (Ok m) h = ok_told shift words m h
is_found shift words (Err e) h = tt

pub is_refused : (shift : ℤ) (words : List Word) (r : Result Mesh VolRefusal) → Gives (λ m. m) r (mesh_of shift words) → IfErr r (Refuses shift words)
is_refused shift words (Ok m) h = tt
is_refused shift words (Err Memory) h = tt
is_refused shift words (Err (Syntax at)) h = err_told shift words (Syntax at) h
is_refused shift words (Err (NumberAt at)) h = err_told shift words (NumberAt at) h
is_refused shift words (Err (BadIndex at)) h = err_told shift words (BadIndex at) h
is_refused shift words (Err (TooMany at)) h = err_told shift words (TooMany at) h

ok_not_err : (m : Mesh) (e : VolRefusal) (r : Result Mesh VolRefusal) → r ≡ Ok m → r ≡ Err e → ⊥
ok_not_err m e r p q = let both : Ok m ≡ Err e = sym p ∙ q in cc

pub is_only : (shift : ℤ) (words : List Word) (r : Result Mesh VolRefusal) → Gives (λ m. m) r (mesh_of shift words) → (m : Mesh) → Derives shift words m → Known m → MatchResult r (λ found. found ≡ m) (λ e. e ≡ Memory)
is_only shift words (Ok found) h m d each = let both : Ok found ≡ Ok m = sym h ∙ derives_back shift words m d each in cc
is_only shift words (Err Memory) h m d each = refl
is_only shift words (Err (Syntax at)) h m d each = absurd (ok_not_err m (Syntax at) (mesh_of shift words) (derives_back shift words m d each) h)
is_only shift words (Err (NumberAt at)) h m d each = absurd (ok_not_err m (NumberAt at) (mesh_of shift words) (derives_back shift words m d each) h)
is_only shift words (Err (BadIndex at)) h m d each = absurd (ok_not_err m (BadIndex at) (mesh_of shift words) (derives_back shift words m d each) h)
is_only shift words (Err (TooMany at)) h m d each = absurd (ok_not_err m (TooMany at) (mesh_of shift words) (derives_back shift words m d each) h)

same_err : (shift : ℤ) (words : List Word) (e f : VolRefusal) → mesh_of shift words ≡ Err e → f ≢ Memory → Refuses shift words f → e ≡ f
same_err shift words e f h some refuses = let both : Err e ≡ Err f = sym h ∙ refuses_back shift words f some refuses in cc

pub is_refused_only : (shift : ℤ) (words : List Word) (r : Result Mesh VolRefusal) → Gives (λ m. m) r (mesh_of shift words) → (f : VolRefusal) → f ≢ Memory → Refuses shift words f → MatchResult r (λ found. ⊥) (λ e. (e ≡ f) ⊎ (e ≡ Memory))
is_refused_only shift words (Ok m) h f some refuses = ok_not_err m f (mesh_of shift words) h (refuses_back shift words f some refuses)
is_refused_only shift words (Err Memory) h f some refuses = inr refl
is_refused_only shift words (Err (Syntax at)) h f some refuses = inl (same_err shift words (Syntax at) f h some refuses)
is_refused_only shift words (Err (NumberAt at)) h f some refuses = inl (same_err shift words (NumberAt at) f h some refuses)
is_refused_only shift words (Err (BadIndex at)) h f some refuses = inl (same_err shift words (BadIndex at) f h some refuses)
is_refused_only shift words (Err (TooMany at)) h f some refuses = inl (same_err shift words (TooMany at) f h some refuses)

-- ---- how long a mesh's text is

ok_derives : (shift : ℤ) (words : List Word) (m : Mesh) → Outcome (places shift) 1 (mesh_form shift) words (run (mesh_form shift) (spot (places shift) 1 words)) → text_read shift words ≡ Ok m → Derives shift words m
ok_derives shift words m (Done a before [] same reach is) h =
    let both : Ok a ≡ Ok m = sym (sym (as_run shift words) ∙ ap ended is) ∙ h in
    let one : a ≡ m = cc in
    let all : words ≡ before = same ∙ append-nil before in
    reach_derives shift words m (subst (λ (x : Mesh). Reach (places shift) (mesh_form shift) words (Leaf x)) one (subst (λ (ws : List Word). Reach (places shift) (mesh_form shift) ws (Leaf a)) (sym all) reach))
ok_derives shift words m (Done a before (w ∷ after) same reach is) h = absurd (ok_not_err m (Syntax (1 + length before)) (text_read shift words) h (sym (as_run shift words) ∙ ap ended is))
ok_derives shift words m (Short need form reach is) h = absurd (ok_not_err m (Syntax (1 + length words)) (text_read shift words) h (sym (as_run shift words) ∙ ap ended is))
ok_derives shift words m (Wrong before after w need form same reach none is) h = absurd (ok_not_err m (refused need (1 + length before) w) (text_read shift words) h (sym (as_run shift words) ∙ ap ended is))

ended_ok : {A : Type 0} (a : A) (at : ℕ) (left : List Word) (u : Unit {0}) → ended_at (tt {0}) at left ≡ Ok u → ended_at a at left ≡ Ok a
ended_ok a at [] u e = refl
ended_ok a at (w ∷ left) u e = absurd cc

-- a mesh that was read has no more items than its text has bytes
pub items_few : (shift : ℤ) (text : List ℕ) (k : ℕ) (m : Mesh) (start st : State) (u : Unit {0}) → k ≡ places shift → start ≡ at_start k (words_of text) → mesh_at shift start ≡ Ok (m, st) → ended_at (tt {0}) st.at st.left ≡ Ok u → length (mesh_items m) ≤ length text
items_few shift text k m start st u decimals begins read end =
    let words = words_of text in
    let whole : mesh_at shift (at_start (places shift) words) ≡ Ok (m, st) = ap (mesh_at shift) (sym (begins ∙ ap (λ (n : ℕ). at_start n words) decimals)) ∙ read in
    let d = ok_derives shift words m (outcome (places shift) 1 (mesh_form shift) words) (ap ended whole ∙ ended_ok m st.at st.left u end) in
    omega (arith, AllZip-long (Says (places shift)) words (mesh_items m) d.says, length-map (spaced_words text) (bytes_of text), few_words text)
