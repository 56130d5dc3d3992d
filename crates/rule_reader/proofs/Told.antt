-- Where a reader fails: how the words before that place go on, and that no text goes on with the word there.
--
-- Like    two words of one kind, where other words may follow
-- Gone    what was read, and that another reader reads it too or fails
-- Broken  the place of a fault
-- Told    a reader of a language of which all this is known
use Rattle.std.proofs.Common.{◌≡◌, ◌≢◌, ℕ, ◌+◌, Bool, true, false, cond, eqb, List, [], ◌∷◌, ◌++◌, length, Option, Some, None, Result, Ok, Err, refl, sym, ap, subst, ◌∙◌, append_assoc, ◌⊎◌, inl, inr}
use Rattle.rule_reader.specs.declared.fault.Fault.{Fault}
use Rattle.rule_reader.specs.declared.fault.Fault.TheVariants.{Syntax, Number, TooMany, BadIndex, TooLoose}
use Rattle.rule_reader.specs.declared.reader.Fit.{Fit}
use Rattle.rule_reader.specs.declared.reader.Fit.TheVariants.{Fits, Unfit, NoNumber}
use Rattle.rule_reader.specs.Words.{Tok, MarkTok, NumberTok, State, head, rest}
use Rattle.rule_reader.specs.Reading.{Read, ◌>>=◌, judged}
use Rattle.rule_reader.specs.Grammar.{Limits, Said, words, ◌▹◌, done, either}
use Rattle.rule_reader.specs.Refusals.{kind_of, StandsAt}
use Rattle.rule_reader.proofs.Good.{Good, Always, ◌▸◌, pure, after, bind_ok, ok_is, words_append}

-- ---- words of one kind

abbrev pub form : Option Tok → Option Tok
form None = None
form (Some t) = Some (kind_of t)

abbrev pub Like : Option Tok → Option Tok → Type 0
Like a b = form a ≡ form b

-- a test that tells no two words of one kind apart
abbrev pub Blind : {X : Type 0} → (Option Tok → X) → Type 0
Blind test = (t : Tok) → test (Some t) ≡ test (Some (kind_of t))

to_form : {X : Type 0} (test : Option Tok → X) → Blind test → (a : Option Tok) → test a ≡ test (form a)
to_form test blind None = refl
to_form test blind (Some t) = blind t

pub blind_same : {X : Type 0} (test : Option Tok → X) → Blind test → (a b : Option Tok) → Like a b → test a ≡ test b
blind_same test blind a b like = to_form test blind a ∙ ap test like ∙ sym (to_form test blind b)

pub like_behind : (used c rest : List Tok) → Like (head c) (head rest) → Like (head (used ++ c)) (head (used ++ rest))
like_behind [] c rest like = like
like_behind (t ∷ used) c rest like = refl

-- ---- faults

abbrev pub IsFault : {A : Type 0} → Result A Fault → Type 0
IsFault r = (f : Fault) × (r ≡ Err f)

pub bind_err : {A B : Type 0} (r : Result A Fault) (k : A → Result B Fault) (f : Fault) → (r >>= k) ≡ Err f → (r ≡ Err f) ⊎ ((x : A) × (r ≡ Ok x) × (k x ≡ Err f))
bind_err (Ok x) k f e = inr (x, refl, e)
bind_err (Err d) k f e = let same : d ≡ f = cc in inl (ap (λ (g : Fault). Err g) same)

pub fault_first : {A B : Type 0} (r : Result A Fault) (k : A → Result B Fault) → IsFault r → IsFault (r >>= k)
fault_first r k e = (e.0, ap (λ x. x >>= k) e.1)

pub fault_same : {A : Type 0} (r q : Result A Fault) → q ≡ r → IsFault r → IsFault q
fault_same r q same e = (e.0, same ∙ e.1)

pub fault_not : {A : Type 0} (r : Result A Fault) → ((x : A) → r ≡ Ok x → ⊥) → IsFault r
fault_not (Ok x) none = absurd (none x refl)
fault_not (Err f) none = (f, refl)

-- a limit refuses just this word; that of terms refuses any number
abbrev pub Past : ℕ → Option Tok → Option Tok → Type 0
Past what a b = (a ≡ b) ⊎ ((what ≡ 10) × Like a b)

pub past_like : (what : ℕ) (a b : Option Tok) → Past what a b → Like a b
past_like what a b (inl same) = ap form same
past_like what a b (inr number) = number.1

pub past_same : (what : ℕ) (a b : Option Tok) → what ≢ 10 → Past what a b → a ≡ b
past_same what a b other (inl same) = same
past_same what a b other (inr number) = absurd (other number.0)

-- when another reader, within other limits, fails as well
abbrev pub Stopping : Limits → Limits → Fault → Option Tok → Option Tok → Type 0
Stopping most other (Syntax n) a b = Like a b
Stopping most other (Number n) a b = a ≡ b
Stopping most other (TooMany rule what) a b = Past what a b × (other what ≡ most what)
Stopping most other (BadIndex rule n) a b = a ≡ b
Stopping most other (TooLoose rule) a b = a ≡ b

pub stopping_like : (most other : Limits) (f : Fault) (a b : Option Tok) → Stopping most other f a b → Like a b
stopping_like most other (Syntax n) a b s = s
stopping_like most other (Number n) a b s = ap form s
stopping_like most other (TooMany rule what) a b s = past_like what a b s.0
stopping_like most other (BadIndex rule n) a b s = ap form s
stopping_like most other (TooLoose rule) a b s = ap form s

-- ---- fronts

-- more words make a text of the language
abbrev pub Completes : {A : Type 0} → (List Said → A → Type 0) → List Tok → Type 0
Completes {A} L used = (more : List Tok) × (said : List Said) × (v : A) × L said v × (words said ≡ used ++ more)

abbrev comma : List Tok
comma = MarkTok 44 ∷ []

-- what a language says where the limit of a number is left aside
abbrev pub Larger : Type 0 → Type 1
Larger A = ℕ → List Said → A → Type 0

-- so, or but for a comma at the end, with which they go on where the limit of terms is left aside
abbrev pub Fronts : {A : Type 0} → (List Said → A → Type 0) → Larger A → List Tok → Type 0
Fronts L M used = Completes L used ⊎ ((front : List Tok) × (used ≡ front ++ comma) × Completes L front × Completes (M 10) used)

-- what is known of the word at a fault, in a rule of this number
abbrev pub Kind : {A : Type 0} → ℕ → (List Said → A → Type 0) → Larger A → Fault → List Tok → List Tok → Type 0
Kind rule L M (Syntax n) used rest = n ≡ length rest
Kind rule L M (Number n) used rest = (bytes : List ℕ) × (more : List Tok) × (other : List ℕ) × (rest ≡ NumberTok bytes ∷ more) × (n ≡ length rest) × Completes L (used ++ NumberTok other ∷ [])
Kind rule L M (TooMany r what) used rest = (word : Tok) × (more : List Tok) × (other : Tok) × (rest ≡ word ∷ more) × (kind_of other ≡ kind_of word) × (r ≡ rule) × Completes (M what) (used ++ other ∷ []) × StandsAt what word
Kind rule L M (BadIndex r n) used rest = ⊥
Kind rule L M (TooLoose r) used rest = ⊥

-- another reader goes on as this one, or fails
abbrev pub GoesOn : {A : Type 0} → A → List Tok → Read A → Type 0
GoesOn v c r = IsFault r ⊎ ((st : State) × (r ≡ Ok (v, st)) × (st.left ≡ c))

pub record Gone (A : Type 0) (L : List Said → A → Type 0) (other : Limits → State → Read A) (st : State) (v : A) (st2 : State) : Type 0 where
  pub said : List Said
  pub says : L said v
  pub left : st.left ≡ words said ++ st2.left
  pub rule : st2.rule ≡ st.rule
  pub along : (limits : Limits) (s : State) (c : List Tok) → s.left ≡ words said ++ c → Like (head c) (head st2.left) → GoesOn v c (other limits s)

pub record Broken (A : Type 0) (most : Limits) (L : List Said → A → Type 0) (M : Larger A) (other : Limits → State → Read A) (st : State) (f : Fault) : Type 0 where
  pub used : List Tok
  pub rest : List Tok
  pub left : st.left ≡ used ++ rest
  pub front : Fronts L M used
  pub stop : (limits : Limits) (s : State) (c : List Tok) → s.left ≡ used ++ c → Stopping most limits f (head c) (head rest) → IsFault (other limits s)
  pub kind : Kind st.rule L M f used rest

abbrev pub Says : {A : Type 0} → (List Said → A → Type 0) → Type 0
Says {A} L = (said : List Said) × (v : A) × L said v

pub record Told (A : Type 0) (most : Limits) (L : List Said → A → Type 0) (M : Larger A) (p : State → Read A) (other : Limits → State → Read A) : Type 0 where
  pub some : Says L
  pub grow : (what : ℕ) (said : List Said) (v : A) → L said v → M what said v
  pub ok : (st : State) (v : A) (st2 : State) → p st ≡ Ok (v, st2) → Gone A L other st v st2
  pub err : (st : State) (f : Fault) → p st ≡ Err f → Broken A most L M other st f

-- the limit of a number left aside
abbrev pub extra : ℕ → ℕ → ℕ
extra what other = cond (eqb what other) 1 0

abbrev pub raised : ℕ → Limits → Limits
raised what most other = most other + extra what other

-- a reader within these limits, beside itself within others
abbrev pub ToldIn : {A : Type 0} → Limits → (Limits → List Said → A → Type 0) → (Limits → State → Read A) → Type 0
ToldIn {A} most L p = Told A most (L most) (λ what. L (raised what most)) (p most) p

-- ---- one language in another

pub lift_front : {A B : Type 0} {L : List Said → A → Type 0} {L2 : Larger A} {M : List Said → B → Type 0} {M2 : Larger B} (prefix : List Tok) → ((u : List Tok) → Completes L u → Completes M (prefix ++ u)) → ((what : ℕ) (u : List Tok) → Completes (L2 what) u → Completes (M2 what) (prefix ++ u))
    → (used : List Tok) → Fronts L L2 used → Fronts M M2 (prefix ++ used)
lift_front prefix lift lift2 used (inl c) = inl (lift used c)
lift_front prefix lift lift2 used (inr e) = inr (prefix ++ e.0, ap (λ (ts : List Tok). prefix ++ ts) e.1 ∙ sym (append_assoc prefix e.0 comma), lift e.0 e.2, lift2 10 used e.3)

pub lift_kind : {A B : Type 0} {L : List Said → A → Type 0} {L2 : Larger A} {M : List Said → B → Type 0} {M2 : Larger B} (prefix : List Tok) → ((u : List Tok) → Completes L u → Completes M (prefix ++ u)) → ((what : ℕ) (u : List Tok) → Completes (L2 what) u → Completes (M2 what) (prefix ++ u))
    → (rule : ℕ) (f : Fault) (used rest : List Tok) → Kind rule L L2 f used rest → Kind rule M M2 f (prefix ++ used) rest
lift_kind prefix lift lift2 rule (Syntax n) used rest k = k
lift_kind {M = M} prefix lift lift2 rule (Number n) used rest k =
    (k.0, k.1, k.2, k.3, k.4, subst (λ (u : List Tok). Completes M u) (sym (append_assoc prefix used (NumberTok k.2 ∷ []))) (lift (used ++ NumberTok k.2 ∷ []) k.5))
lift_kind {M2 = M2} prefix lift lift2 rule (TooMany r what) used rest k =
    (k.0, k.1, k.2, k.3, k.4, k.5, subst (λ (u : List Tok). Completes (M2 what) u) (sym (append_assoc prefix used (k.2 ∷ []))) (lift2 what (used ++ k.2 ∷ []) k.6), k.7)
lift_kind prefix lift lift2 rule (BadIndex r n) used rest k = absurd k
lift_kind prefix lift lift2 rule (TooLoose r) used rest k = absurd k

pub complete_in : {A : Type 0} {L M : List Said → A → Type 0} → ((said : List Said) (v : A) → L said v → M said v) → (u : List Tok) → Completes L u → Completes M u
complete_in there u c = (c.0, c.1, c.2, there c.1 c.2 c.3, c.4)

-- another reader fails, or reads as a third one does, at a word of this kind
abbrev pub Follows : {A : Type 0} → (Limits → State → Read A) → (Limits → State → Read A) → State → Type 0
Follows q p st = (limits : Limits) (s : State) → Like (head s.left) (head st.left) → IsFault (q limits s) ⊎ (q limits s ≡ p limits s)

along_in : {A : Type 0} (v : A) (c : List Tok) (r q : Read A) → IsFault q ⊎ (q ≡ r) → GoesOn v c r → GoesOn v c q
along_in v c r q (inl bad) g = inl bad
along_in v c r q (inr same) g = subst (GoesOn v c) (sym same) g

stop_in : {A : Type 0} (r q : Read A) → IsFault q ⊎ (q ≡ r) → IsFault r → IsFault q
stop_in r q (inl bad) g = bad
stop_in r q (inr same) g = fault_same r q same g

like_at : (a b used c rest : List Tok) → a ≡ used ++ c → b ≡ used ++ rest → Like (head c) (head rest) → Like (head a) (head b)
like_at a b used c rest ea eb like = ap (λ (ts : List Tok). form (head ts)) ea ∙ like_behind used c rest like ∙ sym (ap (λ (ts : List Tok). form (head ts)) eb)

pub gone_in : {A : Type 0} {L M : List Said → A → Type 0} {p q : Limits → State → Read A} (st : State) (v : A) (st2 : State) → Gone A L p st v st2 → ((said : List Said) (v : A) → L said v → M said v) → Follows q p st → Gone A M q st v st2
gone_in {A} {L} {M} {p} {q} st v st2 g there follows =
    record {
      said = g.said;
      says = there g.said v g.says;
      left = g.left;
      rule = g.rule;
      along = λ limits s c left like. along_in v c (p limits s) (q limits s) (follows limits s (like_at s.left st.left (words g.said) c st2.left left g.left like)) (g.along limits s c left like);
    }

pub broken_in : {A : Type 0} {most : Limits} {L M : List Said → A → Type 0} {L2 M2 : Larger A} {p q : Limits → State → Read A} (st : State) (f : Fault) → Broken A most L L2 p st f
    → ((said : List Said) (v : A) → L said v → M said v) → ((what : ℕ) (said : List Said) (v : A) → L2 what said v → M2 what said v) → Follows q p st → Broken A most M M2 q st f
broken_in {A} {most} {L} {M} {L2} {M2} {p} {q} st f b there there2 follows =
    record {
      used = b.used;
      rest = b.rest;
      left = b.left;
      front = lift_front {L2 = L2} {M2 = M2} [] (complete_in there) (λ what. complete_in (there2 what)) b.used b.front;
      stop = λ limits s c left stopping. stop_in (p limits s) (q limits s) (follows limits s (like_at s.left st.left b.used c b.rest left b.left (stopping_like most limits f (head c) (head b.rest) stopping))) (b.stop limits s c left stopping);
      kind = lift_kind {L2 = L2} {M2 = M2} [] (complete_in there) (λ what. complete_in (there2 what)) st.rule f b.used b.rest b.kind;
    }

-- ---- one after another

goes_then : {A B : Type 0} (r : Read A) (q : A → State → Read B) (x : A) (mid c : List Tok) (v : B) → GoesOn x mid r → ((s : State) → s.left ≡ mid → GoesOn v c (q x s)) → GoesOn v c (r >>= λ y. q y.0 y.1)
goes_then r q x mid c v (inl bad) next = inl (fault_first r (λ y. q y.0 y.1) bad)
goes_then r q x mid c v (inr on) next = subst (GoesOn v c) (sym (ap (λ r. r >>= λ y. q y.0 y.1) on.1)) (next on.0 on.2)

stop_then : {A B : Type 0} (r : Read A) (q : A → State → Read B) (x : A) (mid : List Tok) → GoesOn x mid r → ((s : State) → s.left ≡ mid → IsFault (q x s)) → IsFault (r >>= λ y. q y.0 y.1)
stop_then r q x mid (inl bad) next = fault_first r (λ y. q y.0 y.1) bad
stop_then r q x mid (inr on) next = fault_same (q x on.0) (r >>= λ y. q y.0 y.1) (ap (λ r. r >>= λ y. q y.0 y.1) on.1) (next on.0 on.2)

pub complete_first : {A B : Type 0} {L : List Said → A → Type 0} {M : A → List Said → B → Type 0} → ((x : A) → Says (M x)) → (u : List Tok) → Completes L u → Completes (L ▹ M) u
unfolding ◌▹◌
complete_first some u c =
    let m = some c.2 in
    (c.0 ++ words m.0, c.1 ++ m.0, m.1, (c.2, c.1, m.0, c.3, m.2, refl), words_append c.1 m.0 ∙ ap (λ (ts : List Tok). ts ++ words m.0) c.4 ∙ append_assoc u c.0 (words m.0))

pub complete_second : {A B : Type 0} (L : List Said → A → Type 0) (M : A → List Said → B → Type 0) (said : List Said) (x : A) → L said x → (u : List Tok) → Completes (M x) u → Completes (L ▹ M) (words said ++ u)
unfolding ◌▹◌
complete_second L M said x l u c = (c.0, said ++ c.1, c.2, (x, said, c.1, l, c.3, refl), words_append said c.1 ∙ ap (λ (ts : List Tok). words said ++ ts) c.4 ∙ sym (append_assoc (words said) u c.0))

pub gone_then : {A B : Type 0} {L : List Said → A → Type 0} (M : A → List Said → B → Type 0) {p : Limits → State → Read A} (q : A → Limits → State → Read B) (st : State) (x : A) (st1 : State) (v : B) (st2 : State)
    → Gone A L p st x st1 → Gone B (M x) (q x) st1 v st2 → Gone B (L ▹ M) (λ limits. p limits ▸ λ y. q y limits) st v st2
unfolding ◌▹◌ ◌▸◌
gone_then {A} {B} {L} M {p} q st x st1 v st2 g h =
    record {
      said = g.said ++ h.said;
      says = (x, g.said, h.said, g.says, h.says, refl);
      left = g.left ∙ ap (λ (ts : List Tok). words g.said ++ ts) h.left ∙ sym (append_assoc (words g.said) (words h.said) st2.left) ∙ ap (λ (ts : List Tok). ts ++ st2.left) (sym (words_append g.said h.said));
      rule = h.rule ∙ g.rule;
      along = λ limits s c left like.
          let left2 : s.left ≡ words g.said ++ (words h.said ++ c) = left ∙ ap (λ (ts : List Tok). ts ++ c) (words_append g.said h.said) ∙ append_assoc (words g.said) (words h.said) c in
          let like2 : Like (head (words h.said ++ c)) (head st1.left) = like_at (words h.said ++ c) st1.left (words h.said) c st2.left refl h.left like in
          goes_then (p limits s) (λ y. q y limits) x (words h.said ++ c) c v (g.along limits s (words h.said ++ c) left2 like2) (λ s2 left3. h.along limits s2 c left3 like);
    }

pub broken_first : {A B : Type 0} {most : Limits} {L : List Said → A → Type 0} {L2 : Larger A} {M : A → List Said → B → Type 0} {M2 : A → Larger B} {p : Limits → State → Read A} (q : A → Limits → State → Read B) (st : State) (f : Fault)
    → ((x : A) → Says (M x)) → ((what : ℕ) (x : A) → Says (M2 x what)) → Broken A most L L2 p st f → Broken B most (L ▹ M) (λ what. L2 what ▹ λ x. M2 x what) (λ limits. p limits ▸ λ y. q y limits) st f
unfolding ◌▸◌
broken_first {A} {B} {most} {L} {L2} {M} {M2} {p} q st f some some2 b =
    record {
      used = b.used;
      rest = b.rest;
      left = b.left;
      front = lift_front {L2 = L2} {M2 = λ what. L2 what ▹ λ y. M2 y what} [] (complete_first some) (λ what. complete_first (some2 what)) b.used b.front;
      stop = λ limits s c left stopping. fault_first (p limits s) (λ y. q y.0 limits y.1) (b.stop limits s c left stopping);
      kind = lift_kind {L2 = L2} {M2 = λ what. L2 what ▹ λ y. M2 y what} [] (complete_first some) (λ what. complete_first (some2 what)) st.rule f b.used b.rest b.kind;
    }

pub broken_second : {A B : Type 0} {most : Limits} {L : List Said → A → Type 0} {L2 : Larger A} (M : A → List Said → B → Type 0) (M2 : A → Larger B) {p : Limits → State → Read A} (q : A → Limits → State → Read B) (st : State) (x : A) (st1 : State) (f : Fault)
    → ((what : ℕ) (said : List Said) (v : A) → L said v → L2 what said v) → Gone A L p st x st1 → Broken B most (M x) (M2 x) (q x) st1 f → Broken B most (L ▹ M) (λ what. L2 what ▹ λ x. M2 x what) (λ limits. p limits ▸ λ y. q y limits) st f
unfolding ◌▸◌
broken_second {A} {B} {most} {L} {L2} M M2 {p} q st x st1 f grow g b =
    record {
      used = words g.said ++ b.used;
      rest = b.rest;
      left = g.left ∙ ap (λ (ts : List Tok). words g.said ++ ts) b.left ∙ sym (append_assoc (words g.said) b.used b.rest);
      front = lift_front {L2 = M2 x} {M2 = λ what. L2 what ▹ λ y. M2 y what} (words g.said) (complete_second L M g.said x g.says) (λ what. complete_second (L2 what) (λ y. M2 y what) g.said x (grow what g.said x g.says)) b.used b.front;
      stop = λ limits s c left stopping.
          let left2 : s.left ≡ words g.said ++ (b.used ++ c) = left ∙ append_assoc (words g.said) b.used c in
          let like2 : Like (head (b.used ++ c)) (head st1.left) = like_at (b.used ++ c) st1.left b.used c b.rest refl b.left (stopping_like most limits f (head c) (head b.rest) stopping) in
          stop_then (p limits s) (λ y. q y limits) x (b.used ++ c) (g.along limits s (b.used ++ c) left2 like2) (λ s2 left3. b.stop limits s2 c left3 stopping);
      kind = subst (λ (n : ℕ). Kind n (L ▹ M) (λ what. L2 what ▹ λ y. M2 y what) f (words g.said ++ b.used) b.rest) g.rule (lift_kind {L2 = M2 x} {M2 = λ what. L2 what ▹ λ y. M2 y what} (words g.said) (complete_second L M g.said x g.says) (λ what. complete_second (L2 what) (λ y. M2 y what) g.said x (grow what g.said x g.says)) st1.rule f b.used b.rest b.kind);
    }

pub says_then : {A B : Type 0} {L : List Said → A → Type 0} {M : A → List Said → B → Type 0} → Says L → ((x : A) → Says (M x)) → Says (L ▹ M)
unfolding ◌▹◌
says_then a b = let m = b a.1 in (a.0 ++ m.0, m.1, (a.1, a.0, m.0, a.2, m.2, refl))

pub grow_then : {A B : Type 0} {L L2 : List Said → A → Type 0} {M M2 : A → List Said → B → Type 0} → ((said : List Said) (v : A) → L said v → L2 said v) → ((x : A) (said : List Said) (v : B) → M x said v → M2 x said v) → (said : List Said) (v : B) → (L ▹ M) said v → (L2 ▹ M2) said v
unfolding ◌▹◌
grow_then one two said v l = (l.0, l.1, l.2, one l.1 l.0 l.3, two l.0 l.2 v l.4, l.5)

pub says_more : {A : Type 0} {most : Limits} {L : List Said → A → Type 0} {L2 : Larger A} {p : State → Read A} {other : Limits → State → Read A} → Told A most L L2 p other → (what : ℕ) → Says (L2 what)
says_more g what = (g.some.0, g.some.1, g.grow what g.some.0 g.some.1 g.some.2)

pub then : {A B : Type 0} {most : Limits} {L : List Said → A → Type 0} {L2 : Larger A} {M : A → List Said → B → Type 0} {M2 : A → Larger B} {p : State → Read A} {p2 : Limits → State → Read A} {q : A → State → Read B} {q2 : A → Limits → State → Read B}
    → Told A most L L2 p p2 → ((x : A) → Told B most (M x) (M2 x) (q x) (q2 x)) → Told B most (L ▹ M) (λ what. L2 what ▹ λ x. M2 x what) (p ▸ q) (λ limits. p2 limits ▸ λ x. q2 x limits)
unfolding ◌▸◌
then {A} {B} {most} {L} {L2} {M} {M2} {p} {p2} {q} {q2} g h =
    record {
      some = says_then g.some (λ x. (h x).some);
      grow = λ what. grow_then (g.grow what) (λ x. (h x).grow what);
      ok = λ st v st2 e.
          let b = bind_ok (p st) (λ y. q y.0 y.1) (v, st2) e in
          gone_then M q2 st b.0.0 b.0.1 v st2 (g.ok st b.0.0 b.0.1 b.1) ((h b.0.0).ok b.0.1 v st2 b.2);
      err = λ st f e.
          elim (bind_err (p st) (λ y. q y.0 y.1) f e) [
            | inl bad ↦ broken_first q2 st f (λ x. (h x).some) (λ what x. says_more (h x) what) (g.err st f bad)
            | inr on ↦ broken_second M M2 q2 st on.0.0 on.0.1 f g.grow (g.ok st on.0.0 on.0.1 on.1) ((h on.0.0).err on.0.1 f on.2)
          ];
    }

pub ends : {A : Type 0} {most : Limits} (x : A) → Told A most (done x) (λ what. done x) (pure x) (λ limits. pure x)
unfolding done pure
ends x =
    record {
      some = ([], x, (refl, refl));
      grow = λ what said v l. l;
      ok = λ st v st2 e.
          let both = ok_is (x, st) (v, st2) e in
          let value : x ≡ v = ap (λ (p : _ × State). p.0) both in
          let place : st ≡ st2 = ap (λ (p : _ × State). p.1) both in
          record {
            said = [];
            says = (refl, sym value);
            left = ap (λ (s : State). s.left) place;
            rule = sym (ap (λ (s : State). s.rule) place);
            along = λ limits s c left like. inr (s, ap (λ (y : _). Ok (y, s)) value, left);
          };
      err = λ st f e. absurd cc;
    }

-- ---- one or the other, by what comes next

if_ok : (A : Type 0) (L M : List Said → A → Type 0) (b : Bool) (p q : State → Read A) (p2 q2 r2 : Limits → State → Read A) (st : State) (v : A) (st2 : State) → ((v : A) (st2 : State) → p st ≡ Ok (v, st2) → Gone A L p2 st v st2) → ((v : A) (st2 : State) → q st ≡ Ok (v, st2) → Gone A M q2 st v st2)
    → ((limits : Limits) (s : State) → Like (head s.left) (head st.left) → r2 limits s ≡ cond b (p2 limits s) (q2 limits s)) → cond b (p st) (q st) ≡ Ok (v, st2) → Gone A (either L M) r2 st v st2
unfolding either
if_ok A L M true p q p2 q2 r2 st v st2 g h same e = gone_in st v st2 (g v st2 e) (λ said v l. inl l) (λ limits s like. inr (same limits s like))
if_ok A L M false p q p2 q2 r2 st v st2 g h same e = gone_in st v st2 (h v st2 e) (λ said v l. inr l) (λ limits s like. inr (same limits s like))

if_err : (A : Type 0) (most : Limits) (L M : List Said → A → Type 0) (L2 M2 : Larger A) (b : Bool) (p q : State → Read A) (p2 q2 r2 : Limits → State → Read A) (st : State) (f : Fault) → (p st ≡ Err f → Broken A most L L2 p2 st f) → (q st ≡ Err f → Broken A most M M2 q2 st f)
    → ((limits : Limits) (s : State) → Like (head s.left) (head st.left) → r2 limits s ≡ cond b (p2 limits s) (q2 limits s)) → cond b (p st) (q st) ≡ Err f → Broken A most (either L M) (λ what. either (L2 what) (M2 what)) r2 st f
unfolding either
if_err A most L M L2 M2 true p q p2 q2 r2 st f g h same e = broken_in st f (g e) (λ said v l. inl l) (λ what said v l. inl l) (λ limits s like. inr (same limits s like))
if_err A most L M L2 M2 false p q p2 q2 r2 st f g h same e = broken_in st f (h e) (λ said v l. inr l) (λ what said v l. inr l) (λ limits s like. inr (same limits s like))

grow_either : {A : Type 0} {L L2 M M2 : List Said → A → Type 0} → ((said : List Said) (v : A) → L said v → L2 said v) → ((said : List Said) (v : A) → M said v → M2 said v) → (said : List Said) (v : A) → either L M said v → either L2 M2 said v
unfolding either
grow_either one two said v (inl l) = inl (one said v l)
grow_either one two said v (inr l) = inr (two said v l)

pub by_next : {A : Type 0} {most : Limits} {L M : List Said → A → Type 0} {L2 M2 : Larger A} (test : Option Tok → Bool) → Blind test → {p q : State → Read A} {p2 q2 : Limits → State → Read A} → Told A most L L2 p p2 → Told A most M M2 q q2
    → Told A most (either L M) (λ what. either (L2 what) (M2 what)) (λ st. cond (test (head st.left)) (p st) (q st)) (λ limits st. cond (test (head st.left)) (p2 limits st) (q2 limits st))
unfolding either
by_next {A} {most} {L} {M} {L2} {M2} test blind {p} {q} {p2} {q2} g h =
    let same : (st : State) (limits : Limits) (s : State) → Like (head s.left) (head st.left) → cond (test (head s.left)) (p2 limits s) (q2 limits s) ≡ cond (test (head st.left)) (p2 limits s) (q2 limits s) =
    λ st limits s like. ap (λ (b : Bool). cond b (p2 limits s) (q2 limits s)) (blind_same test blind (head s.left) (head st.left) like) in
    record {
      some = (h.some.0, h.some.1, inr h.some.2);
      grow = λ what. grow_either (g.grow what) (h.grow what);
      ok = λ st v st2 e. if_ok A L M (test (head st.left)) p q p2 q2 (λ limits s. cond (test (head s.left)) (p2 limits s) (q2 limits s)) st v st2 (g.ok st) (h.ok st) (same st) e;
      err = λ st f e. if_err A most L M L2 M2 (test (head st.left)) p q p2 q2 (λ limits s. cond (test (head s.left)) (p2 limits s) (q2 limits s)) st f (g.err st f) (h.err st f) (same st) e;
    }

-- readers that answer as others do
pub told_same : {A : Type 0} {most : Limits} {L : List Said → A → Type 0} {M : Larger A} {p q : State → Read A} {p2 q2 : Limits → State → Read A} → Told A most L M p p2 → ((st : State) → q st ≡ p st) → ((limits : Limits) (st : State) → q2 limits st ≡ p2 limits st) → Told A most L M q q2
told_same g one two =
    record {
      some = g.some;
      grow = g.grow;
      ok = λ st v st2 e. gone_in st v st2 (g.ok st v st2 (sym (one st) ∙ e)) (λ said v l. l) (λ limits s like. inr (two limits s));
      err = λ st f e. broken_in st f (g.err st f (sym (one st) ∙ e)) (λ said v l. l) (λ what said v l. l) (λ limits s like. inr (two limits s));
    }

-- ---- one word

-- what is read whatever follows
pub gone_good : {A : Type 0} {L : List Said → A → Type 0} {p : State → Read A} → Good A Always L p → (st : State) (v : A) (st2 : State) → p st ≡ Ok (v, st2) → Gone A L (λ limits. p) st v st2
gone_good g st v st2 e =
    let t = g.takes st v st2 e in
    record {
      said = t.0;
      says = t.1;
      left = t.2;
      rule = ap (λ (s : State). s.rule) t.3;
      along = λ limits s c left like. inr (after s t.0 c, g.again t.0 v s c t.1 tt left, refl);
    }

abbrev pub is_unfit : {A : Type 0} → Fit A → Bool
is_unfit (Fits x) = false
is_unfit Unfit = true
is_unfit NoNumber = false

unfit_is : {A : Type 0} (f : Fit A) → is_unfit f ≡ true → f ≡ Unfit
unfit_is (Fits x) e = absurd cc
unfit_is Unfit e = refl
unfit_is NoNumber e = absurd cc

pub judged_err : {A : Type 0} (fit : Fit A) (st : State) (f : Fault) → judged fit st ≡ Err f → ((fit ≡ Unfit) × (Syntax (length st.left) ≡ f)) ⊎ ((fit ≡ NoNumber) × (Number (length st.left) ≡ f))
judged_err (Fits x) st f e = absurd cc
judged_err Unfit st f e = let same : Syntax (length st.left) ≡ f = cc in inl (refl, same)
judged_err NoNumber st f e = let same : Number (length st.left) ≡ f = cc in inr (refl, same)

-- where another number is wanted
abbrev pub Wants : {A B : Type 0} → (Option Tok → Fit A) → (List Said → B → Type 0) → Type 0
Wants fit L = (left : List Tok) → fit (head left) ≡ NoNumber → (bytes : List ℕ) × (more : List Tok) × (other : List ℕ) × (left ≡ NumberTok bytes ∷ more) × Completes L (NumberTok other ∷ [])

pub word_broken : {A B : Type 0} {most : Limits} {L : List Said → B → Type 0} {M : Larger B} (fit : Option Tok → Fit A) (other : Limits → State → Read B) → Blind (λ o. is_unfit (fit o)) → Completes L [] → Wants fit L
    → ((limits : Limits) (s : State) → IsFault (judged (fit (head s.left)) s) → IsFault (other limits s)) → (st : State) (f : Fault) → judged (fit (head st.left)) st ≡ Err f → Broken B most L M other st f
word_broken {A} {B} {most} {L} {M} fit other blind front wants fails st f e =
    elim (judged_err (fit (head st.left)) st f e) [
      | inl bad ↦
          let b : Broken B most L M other st (Syntax (length st.left)) = record {
            used = [];
            rest = st.left;
            left = refl;
            front = inl front;
            stop = λ limits s c left like.
                let unfit : fit (head s.left) ≡ Unfit = unfit_is (fit (head s.left)) (ap (λ (ts : List Tok). is_unfit (fit (head ts))) left ∙ blind_same (λ o. is_unfit (fit o)) blind (head c) (head st.left) like ∙ ap is_unfit bad.0) in
                fails limits s (Syntax (length s.left), ap (λ (x : Fit A). judged x s) unfit);
            kind = refl;
          } in
          subst (λ (g : Fault). Broken B most L M other st g) bad.1 b
      | inr bad ↦
          let w = wants st.left bad.0 in
          let b : Broken B most L M other st (Number (length st.left)) = record {
            used = [];
            rest = st.left;
            left = refl;
            front = inl front;
            stop = λ limits s c left same.
                let number : fit (head s.left) ≡ NoNumber = ap (λ (ts : List Tok). fit (head ts)) left ∙ ap fit same ∙ bad.0 in
                fails limits s (Number (length s.left), ap (λ (x : Fit A). judged x s) number);
            kind = (w.0, w.1, w.2, w.3, refl, w.4);
          } in
          subst (λ (g : Fault). Broken B most L M other st g) bad.1 b
    ]

pub complete_said : {A : Type 0} {L : List Said → A → Type 0} (said : List Said) (v : A) → L said v → Completes L []
complete_said said v l = (words said, said, v, l, refl)

pub one_word : {A : Type 0} {most : Limits} {L : List Said → A → Type 0} (fit : Option Tok → Fit A) → Good A Always L (λ st. judged (fit (head st.left)) st) → Says L → Blind (λ o. is_unfit (fit o)) → Wants fit L
    → Told A most L (λ what. L) (λ st. judged (fit (head st.left)) st) (λ limits st. judged (fit (head st.left)) st)
one_word {A} {most} {L} fit good some blind wants =
    record {
      some = some;
      grow = λ what said v l. l;
      ok = gone_good good;
      err = word_broken fit (λ limits st. judged (fit (head st.left)) st) blind (complete_said some.0 some.1 some.2) wants (λ limits s bad. bad);
    }
