-- What is returned where a text is refused: the first word at which no text goes on, and how it is wrong.
use Rattle.std.proofs.Common.{◌≡◌, ℕ, zero, suc, ◌+◌, ◌<◌, ◌≤◌, Bool, true, false, cond, eqb, ltb, List, [], ◌∷◌, ◌++◌, length, length-append, Option, Some, None, Result, Ok, Err, refl, sym, ap, subst, ◌∙◌, inl, inr, ◌⊎◌, append_assoc, arith, ℤ}
use Rattle.std.specs.Prelude.{find, IfErr}
use Rattle.std.specs.List.{AllByRecursion}
use Rattle.std.specs.Str.{bytes_eq}
use Rattle.std.proofs.lemmas.Slice.Eq.{bytes_eq-Decides}
use Rattle.std.proofs.lemmas.Bool.{eqb-true, eqb-false, ne_eqb, ltb-true, lt-ltb}
use Rattle.std.proofs.lemmas.List.{append-nil, length-map, nil_from_length}
use Rattle.rule_reader.specs.declared.fault.Fault.{Fault}
use Rattle.rule_reader.specs.declared.fault.Fault.TheVariants.{Syntax, Number, TooMany, BadIndex, TooLoose}
use Rattle.rule_reader.specs.declared.fault.Stop.TheVariants as stops
use Rattle.rule_reader.specs.declared.fault.RuleRefusal.{RuleRefusal}
use Rattle.rule_reader.specs.declared.fault.RuleRefusal.TheVariants as refusals
use Rattle.rule_reader.specs.declared.reader.Use.{Use}
use Rattle.rule_reader.specs.declared.reader.Fit.{Fit}
use Rattle.rule_reader.specs.declared.rule.Rule.{Rule}
use Rattle.rule_reader.specs.Words.{Tok, MarkTok, TextTok, NumberTok, NameTok, BadTok, State, head, begun, at_start}
use Rattle.rule_reader.specs.Reading.{Read, ◌>>=◌, judged, is_fit, name_fit, number_fit, is_at, name_at, number_at}
use Rattle.rule_reader.specs.Verdict.{misses, is_bad, loose_starts, verdict, index_verdict, graph_verdict}
use Rattle.rule_reader.specs.Sections.{tolfak_word, rule_word, endrule_word, tolfak_at, rules_at, file_at, word_number, refusal_of, reading, IsReading}
use Rattle.rule_reader.specs.Grammar.{Limits, standard, Said, Index, plain, words, ◌▹◌, done, many, at_most, name, tolfak, rule_said, whole_rule, Hits}
use Rattle.rule_reader.specs.Refusals.{kind_of, StandsAt, AtRule, AsPast, IsBut, IsBegun, rules_said, IsFront, IsRead, Misfits, Misses, Ends, Refuses}
use Rattle.rule_reader.proofs.Good.{◌▸◌, ok_is, use_at, uses_of, words_append}
use Rattle.rule_reader.proofs.GoodLists.{name_head}
use Rattle.rule_reader.proofs.GoodFile.{good_body, body, is_rule, hits_of}
use Rattle.rule_reader.proofs.Starts.{starts_counted, starts_there}
use Rattle.rule_reader.proofs.LineEnds.{rule_lines, some_points}
use Rattle.rule_reader.proofs.Within.{body_in, rules_in, form_in, file_in}
use Rattle.rule_reader.proofs.Told.{form, Like, Past, past_like, raised, Stopping, Says, Completes, Kind, Fronts, GoesOn, IsFault, blind_same, bind_err, fault_first, like_behind, stopping_like, judged_err}
use Rattle.rule_reader.proofs.ToldEntries.{blind_name, if_is}
use Rattle.rule_reader.proofs.ToldMany.{not_both, head_next, many_grow, told_body}
use Rattle.rule_reader.proofs.RulesPassed.{no_text, rule_fault, Unread, Next, NoRule, Full, Faulty, Passed, rules_passed, told_tolfak}

-- ---- the place of a fault in a text

abbrev StopsAt : Fault → List Tok → List Tok → Type 0
StopsAt f used rest = (limits : Limits) (s : State) (c : List Tok) → s.left ≡ used ++ c → Stopping standard limits f (head c) (head rest) → IsFault (file_in limits s)

abbrev PlaceKind : ℕ → Fault → List Tok → List Tok → Type 0
PlaceKind ended (Syntax n) used rest = n ≡ length rest
PlaceKind ended (Number n) used rest = (bytes : List ℕ) × (more : List Tok) × (other : List ℕ) × (rest ≡ NumberTok bytes ∷ more) × (n ≡ length rest) × IsFront ended (used ++ NumberTok other ∷ [])
PlaceKind ended (TooMany r what) used rest = (word : Tok) × (more : List Tok) × (other : Tok) × (rest ≡ word ∷ more) × (kind_of other ≡ kind_of word) × (r ≡ ended + 1) × ((most : Limits) × IsBut what most × IsBegun most (used ++ other ∷ [])) × StandsAt what word
PlaceKind ended (BadIndex r n) used rest = ⊥
PlaceKind ended (TooLoose r) used rest = ⊥

record Found (text : List Tok) (f : Fault) : Type 0 where
  pub used : List Tok
  pub rest : List Tok
  pub left : text ≡ used ++ rest
  pub ended : ℕ
  pub read : IsRead ended used
  pub stop : StopsAt f used rest
  pub kind : PlaceKind ended f used rest

place_of : (text used : List Tok) (word : Tok) (more : List Tok) (n : ℕ) → text ≡ used ++ (word ∷ more) → n ≡ suc (length more) → word_number (length text) n ≡ length used + 1
place_of text used word more n left e =
    let all : length text ≡ length used + suc (length more) = ap length left ∙ length-append used (word ∷ more) in
    omega (arith, all, e)

-- no text goes on with a word at which the reading stops
no_more : (used : List Tok) (word : Tok) (limits : Limits) → ((more : List Tok) → IsFault (file_in limits (at_start ((used ++ word ∷ []) ++ more)))) → IsBegun limits (used ++ word ∷ []) → ⊥
no_more used word limits bad b = no_text limits ((used ++ word ∷ []) ++ b.0) b.1 b.2 (bad b.0)

syntax_refused : (text used rest : List Tok) (ended n : ℕ) → text ≡ used ++ rest → IsRead ended used → StopsAt (Syntax n) used rest → n ≡ length rest → Misfits text (word_number (length text) n) ⊎ Misses text (word_number (length text) n)
syntax_refused text used [] ended n left read stop k =
    let same : text ≡ used = left ∙ append-nil used in
    let place : word_number (length text) n ≡ length text + 1 = omega (arith, k) in
    inr (record { ended = ended; place = place; read = subst (λ (ts : List Tok). IsRead ended ts) (sym same) read; stop = λ most rules d. no_text most text rules d (stop most (at_start text) [] left refl) })
syntax_refused text used (word ∷ more) ended n left read stop k =
    inl (record {
      ended = ended;
      word = word;
      here = record { before = used; after = more; same = left; place = place_of text used word more n left k; read = read };
      stop = λ other alike most b. no_more used other most (λ rest. stop most (at_start ((used ++ other ∷ []) ++ rest)) (other ∷ rest) (append_assoc used (other ∷ []) rest) (ap (λ (t : Tok). Some t) alike)) b;
    })

past_next : (what : ℕ) (word other : Tok) (more rest : List Tok) → rest ≡ word ∷ more → AsPast what word other → Past what (Some other) (head rest)
past_next what word other more rest e (inl same) = inl (ap (λ (t : Tok). Some t) same ∙ sym (ap head e))
past_next what word other more rest e (inr number) = inr (number.0, ap (λ (t : Tok). Some t) number.1 ∙ sym (ap (λ (ts : List Tok). form (head ts)) e))

refused_at : (text : List Tok) (f : Fault) → Found text f → Refuses text (refusal_of (length text) (stops.Fault f))
refused_at text (Syntax n) p = syntax_refused text p.used p.rest p.ended n p.left p.read p.stop p.kind
refused_at text (Number n) p =
    let k = p.kind in
    let same : text ≡ p.used ++ (NumberTok k.0 ∷ k.1) = p.left ∙ ap (λ (ts : List Tok). p.used ++ ts) k.3 in
    record {
      ended = p.ended;
      bytes = k.0;
      here = record { before = p.used; after = k.1; same = same; place = place_of text p.used (NumberTok k.0) k.1 n same (k.4 ∙ ap length k.3); read = p.read };
      stop = λ most b. no_more p.used (NumberTok k.0) most (λ rest. p.stop most (at_start ((p.used ++ NumberTok k.0 ∷ []) ++ rest)) (NumberTok k.0 ∷ rest) (append_assoc p.used (NumberTok k.0 ∷ []) rest) (sym (ap head k.3))) b;
      other = k.2;
      fits = k.5;
    }
refused_at text (TooMany r what) p =
    let k = p.kind in
    let same : text ≡ p.used ++ (k.0 ∷ k.1) = p.left ∙ ap (λ (ts : List Tok). p.used ++ ts) k.3 in
    record {
      at = length p.used + 1;
      ended = p.ended;
      word = k.0;
      here = record { before = p.used; after = k.1; same = same; place = refl; read = p.read };
      rule = k.5;
      stop = λ other past most agree b. no_more p.used other most (λ rest. p.stop most (at_start ((p.used ++ other ∷ []) ++ rest)) (other ∷ rest) (append_assoc p.used (other ∷ []) rest) (past_next what k.0 other k.1 p.rest k.3 past, agree)) b;
      other = k.2;
      alike = k.4;
      begins = k.6;
      stands = k.7;
    }
refused_at text (BadIndex r n) p = absurd p.kind
refused_at text (TooLoose r) p = absurd p.kind

-- ---- fronts

pub words_length : (said : List Said) → length (words said) ≡ length said
words_length said = length-map said (λ s. s.word)

-- a limit that is left aside leaves the others
raised_but : (what : ℕ) → IsBut what (raised what standard)
raised_but what other differs =
    let apart : eqb what other ≡ false = ne_eqb what other (λ (e : what ≡ other). differs (sym e)) in
    ap (λ (b : Bool). standard other + cond b 1 0) apart ∙ omega arith

-- some rule, whatever its indices
a_rule : Says (rule_said standard)
a_rule = (told_body standard).some

nonempty : (text : List Tok) (word : Tok) → head text ≡ Some word → 0 < length text
nonempty text word e = let n = head_next text word e in let k : length text ≡ suc (length n.0) = ap length n.1 in omega (arith, k)

pub rule_nonempty : (most : Limits) (said : List Said) (v : Rule) → rule_said most said v → 0 < length (words said)
rule_nonempty most said v l = nonempty (words said) (NameTok rule_word) (ap head (sym (append-nil (words said))) ∙ name_head _ rule_word said v [] l)

no_rules : (said : List Said) (u : Unit {0}) → tolfak said u → rules_said said []
unfolding ◌▹◌ many
no_rules said u l = (u, said, [], l, refl, sym (append-nil said))

abbrev Tolfak : List Tok → Type 0
Tolfak u = Completes tolfak u

tolfak_front : (u : List Tok) → Completes tolfak u → IsFront 0 u
tolfak_front u c =
    let r = a_rule in
    let some : 0 < length (words r.0) = rule_nonempty standard r.0 r.1 r.2 in
    let count : length (c.0 ++ words r.0) ≡ length c.0 + length (words r.0) = length-append c.0 (words r.0) in
    inr (record {
      more = c.0 ++ words r.0;
      some = omega (arith, some, count);
      one = record {
        front = c.1;
        said = r.0;
        same = sym (append_assoc u c.0 (words r.0)) ∙ ap (λ (ts : List Tok). ts ++ words r.0) (sym c.4);
        rules = [];
        rule = r.1;
        fit = no_rules c.1 c.2 c.3;
        says = r.2;
        few = omega arith;
        count = refl;
      };
      among = λ no. absurd (omega (arith, no));
    })

tolfak_begun : (u : List Tok) → Completes tolfak u → IsBegun standard u
unfolding ◌▹◌ at_most many
tolfak_begun u c = (c.0, [], (c.1, c.4, (c.2, c.1, [], c.3, (refl, omega arith), sym (append-nil c.1))))

-- behind rules that fit
half_behind : (front : List Said) (rules : List Rule) → rules_said front rules → length rules < 256 → (u : List Tok) → (c : Completes (rule_said standard) u) → 0 < length c.0 → IsFront (length rules) (words front ++ u)
half_behind front rules fit few u c some =
    let all : length (words front ++ u) ≡ length (words front) + length u = length-append (words front) u in
    inr (record {
      more = c.0;
      some = some;
      one = record {
        front = front;
        said = c.1;
        same = append_assoc (words front) u c.0 ∙ ap (λ (ts : List Tok). words front ++ ts) (sym c.4);
        rules = rules;
        rule = c.2;
        fit = fit;
        says = c.3;
        few = few;
        count = refl;
      };
      among = λ there. omega (arith, all, words_length front);
    })

many_snoc : {A : Type 0} (L : List Said → A → Type 0) (k : ℕ) (said : List Said) (xs : List A) (last : List Said) (x : A) → many (λ k. L) k said xs → L last x → many (λ k. L) k (said ++ last) (xs ++ x ∷ [])
unfolding many
many_snoc L k said [] last x l m = (last, [], m, refl, ap (λ (s : List Said). s ++ last) l ∙ sym (append-nil last))
many_snoc L k said (y ∷ ys) last x l m = (l.0, l.1 ++ last, l.2, many_snoc L (k + 1) l.1 ys last x l.3 m, ap (λ (s : List Said). s ++ last) l.4 ∙ append_assoc l.0 l.1 last)

-- behind rules that fit, one more, where there is room for it
pub begun_in : (most : Limits) → ((said : List Said) (v : Rule) → rule_said standard said v → rule_said most said v) → (front : List Said) (rules : List Rule) → rules_said front rules → length rules < most 1
    → (u : List Tok) → Completes (rule_said most) u → IsBegun most (words front ++ u)
unfolding ◌▹◌ at_most whole_rule
begun_in most grow front rules fit few u c =
    let grown = many_grow whole_rule (λ k. rule_said most) (λ k s v w. grow s v w.0) 0 fit.2 rules fit.4 in
    let all = many_snoc (rule_said most) 0 fit.2 rules c.1 c.2 grown c.3 in
    let count : length (rules ++ c.2 ∷ []) ≡ length rules + 1 = length-append rules (c.2 ∷ []) in
    (c.0, rules ++ c.2 ∷ [], (front ++ c.1, words_append front c.1 ∙ ap (λ (ts : List Tok). words front ++ ts) c.4 ∙ sym (append_assoc (words front) u c.0), (fit.0, fit.1, fit.2 ++ c.1, fit.3, (all, omega (arith, count, few)), ap (λ (s : List Said). s ++ c.1) fit.5 ∙ append_assoc fit.1 fit.2 c.1)))

-- so where one limit is left aside
begun_behind : (what : ℕ) (front : List Said) (rules : List Rule) → rules_said front rules → length rules < raised what standard 1 → (u : List Tok) → Completes (rule_said (raised what standard)) u → (most : Limits) × IsBut what most × IsBegun most (words front ++ u)
begun_behind what front rules fit few u c = (raised what standard, raised_but what, begun_in (raised what standard) ((told_body standard).grow what) front rules fit few u c)

room_for : (what n : ℕ) → n < 256 → n < raised what standard 1
room_for what n few = omega (arith, few)

whole_front : (front : List Said) (rules : List Rule) → rules_said front rules → length rules ≤ 256 → IsFront (length rules) (words front)
unfolding ◌▹◌ at_most
whole_front front rules fit few = inl (record { rules = rules; admitted = (front, refl, (fit.0, fit.1, fit.2, fit.3, (fit.4, few), fit.5)); count = refl })

-- where the reading of a rule fails, the rule is not whole
unfinished : (st : State) (f : Fault) (u tail : List Tok) → st.left ≡ u ++ tail → body st ≡ Err f → (c : Completes (rule_said standard) u) → 0 < length c.0
unfinished st f u tail left bad (t ∷ more, said, v, l, e) = omega arith
unfinished st f u tail left bad ([], said, v, l, e) =
    let here : st.left ≡ words said ++ tail = left ∙ ap (λ (ts : List Tok). ts ++ tail) (sym (e ∙ append-nil u)) in
    absurd (not_both (v, _) f (sym ((good_body standard).again said v st tail l tt here) ∙ bad))

last_of : List Tok → Tok → Tok
last_of [] t = t
last_of (u ∷ ts) t = last_of ts u

last_snoc : (ts : List Tok) (t u : Tok) → last_of (ts ++ t ∷ []) u ≡ t
unfolding last_of
last_snoc [] t u = refl
last_snoc (v ∷ ts) t u = last_snoc ts t v

-- a rule ends with its last word
pub rule_last : (most : Limits) (said : List Said) (v : Rule) → rule_said most said v → (front : List Tok) × (words said ≡ front ++ NameTok endrule_word ∷ [])
unfolding ◌▹◌ name done
rule_last most said v l =
    let a = l.4 in
    let b = a.4 in
    let c = b.4 in
    let last : c.1 ++ c.2 ≡ plain (NameTok endrule_word) ∷ [] = ap (λ (s : List Said). s ++ c.2) c.3 ∙ ap (λ (s : List Said). plain (NameTok endrule_word) ∷ s) c.4.0 in
    let whole : said ≡ l.1 ++ (a.1 ++ (b.1 ++ plain (NameTok endrule_word) ∷ [])) = l.5 ∙ ap (λ (s : List Said). l.1 ++ s) (a.5 ∙ ap (λ (s : List Said). a.1 ++ s) (b.5 ∙ ap (λ (s : List Said). b.1 ++ s) (c.5 ∙ last))) in
    let grouped : l.1 ++ (a.1 ++ (b.1 ++ plain (NameTok endrule_word) ∷ [])) ≡ (l.1 ++ (a.1 ++ b.1)) ++ plain (NameTok endrule_word) ∷ [] = simp append_assoc in
    (words (l.1 ++ (a.1 ++ b.1)), ap words (whole ∙ grouped) ∙ words_append (l.1 ++ (a.1 ++ b.1)) (plain (NameTok endrule_word) ∷ []))

name_number : (bytes other : List ℕ) → NameTok bytes ≡ NumberTok other → ⊥
name_number bytes other e = cc

unended : (u : List Tok) (other : List ℕ) → (c : Completes (rule_said standard) (u ++ NumberTok other ∷ [])) → 0 < length c.0
unended u other (t ∷ more, said, v, l, e) = omega arith
unended u other ([], said, v, l, e) =
    let r = rule_last standard said v l in
    let same : r.0 ++ NameTok endrule_word ∷ [] ≡ u ++ NumberTok other ∷ [] = sym r.1 ∙ e ∙ append-nil (u ++ NumberTok other ∷ []) in
    absurd (name_number endrule_word other (sym (last_snoc r.0 (NameTok endrule_word) (MarkTok 0)) ∙ ap (λ (ts : List Tok). last_of ts (MarkTok 0)) same ∙ last_snoc u (NumberTok other) (MarkTok 0)))

-- ---- a fault in the number at the front

abbrev IsWordFault : Fault → Type 0
IsWordFault (Syntax n) = Unit {0}
IsWordFault (Number n) = Unit {0}
IsWordFault (TooMany r what) = ⊥
IsWordFault (BadIndex r n) = ⊥
IsWordFault (TooLoose r) = ⊥

judged_fault : {A : Type 0} (fit : Fit A) (st : State) (f : Fault) → judged fit st ≡ Err f → IsWordFault f
judged_fault fit st f e = elim (judged_err fit st f e) [ inl bad ↦ subst IsWordFault bad.1 tt | inr bad ↦ subst IsWordFault bad.1 tt ]

abbrev number_passed : ℤ × State → Read (Unit {0})
number_passed n = Ok (tt, n.1)

tolfak_fault : (b : Bool) (st : State) (f : Fault) → cond b (name_at tolfak_word st >>= λ a. number_at 160000 a.1 >>= number_passed) (Ok (tt, st)) ≡ Err f → IsWordFault f
unfolding name_at number_at
tolfak_fault false st f e = absurd cc
tolfak_fault true st f e =
    elim (bind_err (name_at tolfak_word st) (λ a. number_at 160000 a.1 >>= number_passed) f e) [
      | inl bad ↦ judged_fault (name_fit tolfak_word (head st.left)) st f bad
      | inr a ↦
          elim (bind_err (number_at 160000 a.0.1) number_passed f a.2) [
            | inl bad ↦ judged_fault (number_fit 160000 (head a.0.1.left)) a.0.1 f bad
            | inr n ↦ absurd (not_both (tt, n.0.1) f n.2)
          ]
    ]

word_fault : (st : State) (f : Fault) → tolfak_at st ≡ Err f → IsWordFault f
unfolding tolfak_at
word_fault st f e = tolfak_fault (is_at tolfak_word st) st f e

tolfak_read : (u : List Tok) → Fronts tolfak (λ what. tolfak) u → IsRead 0 u
tolfak_read u (inl c) = inl (tolfak_front u c)
tolfak_read u (inr e) = inr (e.0, e.1, tolfak_front e.0 e.2, (standard, (λ other differs. refl), tolfak_begun u e.3))

tolfak_kind : (f : Fault) (used rest : List Tok) → IsWordFault f → Kind 0 tolfak (λ what. tolfak) f used rest → PlaceKind 0 f used rest
tolfak_kind (Syntax n) used rest w k = k
tolfak_kind (Number n) used rest w k = (k.0, k.1, k.2, k.3, k.4, tolfak_front (used ++ NumberTok k.2 ∷ []) k.5)
tolfak_kind (TooMany r what) used rest w k = absurd w
tolfak_kind (BadIndex r n) used rest w k = absurd w
tolfak_kind (TooLoose r) used rest w k = absurd w

abbrev ended_in : List Rule × State → Read (List Rule)
ended_in r = cond (ltb 0 (length r.1.left)) (Err (Syntax (length r.1.left))) (Ok r)

form_fails : (limits : Limits) (s : State) → IsFault (form_in limits s) → IsFault (file_in limits s)
unfolding file_in
form_fails limits s bad = fault_first (form_in limits s) ended_in bad

tolfak_fails : (limits : Limits) (s : State) → IsFault (tolfak_at s) → IsFault (file_in limits s)
unfolding form_in ◌▸◌
tolfak_fails limits s bad = form_fails limits s (fault_first (tolfak_at s) (λ a. rules_in limits 0 (limits 1) a.1) bad)

found_in_tolfak : (text : List Tok) (f : Fault) → tolfak_at (at_start text) ≡ Err f → Found text f
found_in_tolfak text f e =
    let b = (told_tolfak {most = standard}).err (at_start text) f e in
    record {
      used = b.used;
      rest = b.rest;
      left = b.left;
      ended = 0;
      read = tolfak_read b.used b.front;
      stop = λ limits s c left stopping. tolfak_fails limits s (b.stop limits s c left stopping);
      kind = tolfak_kind f b.used b.rest (word_fault (at_start text) f e) b.kind;
    }

-- ---- behind rules that are read

unread_file : (limits : Limits) (s : State) → Unread (form_in limits s) → IsFault (file_in limits s)
unfolding file_in
unread_file limits s (inl bad) = fault_first (form_in limits s) ended_in bad
unread_file limits s (inr on) =
    let some : ltb 0 (length on.0.1.left) ≡ true = lt-ltb 0 (length on.0.1.left) on.2 in
    (Syntax (length on.0.1.left), ap (λ r. r >>= ended_in) on.1 ∙ rw some refl)

-- what was read of a text: the number at the front, and rules that fit
record Behind (text : List Tok) : Type 0 where
  pub front : List Said
  pub rules : List Rule
  pub fit : rules_said front rules
  pub few : length rules ≤ 256
  pub st1 : State
  pub left : text ≡ words front ++ st1.left
  pub stop : (limits : Limits) (s : State) (c : List Tok) → s.left ≡ words front ++ c → Like (head c) (head st1.left)
      → ((s2 : State) (k room3 : ℕ) → s2.left ≡ c → (limits 1 ≡ 256 → room3 + length rules ≡ 256) → Unread (rules_in limits k room3 s2)) → IsFault (file_in limits s)

goes_form : (limits : Limits) (s : State) (mid : List Tok) → GoesOn tt mid (tolfak_at s) → ((s1 : State) → s1.left ≡ mid → Unread (rules_in limits 0 (limits 1) s1)) → Unread (form_in limits s)
unfolding form_in ◌▸◌
goes_form limits s mid (inl bad) others = inl (fault_first (tolfak_at s) (λ a. rules_in limits 0 (limits 1) a.1) bad)
goes_form limits s mid (inr on) others = subst Unread (sym (ap (λ r. r >>= λ a. rules_in limits 0 (limits 1) a.1) on.1)) (others on.0 on.2)

fit_both : (a b : List Said) (rules : List Rule) → tolfak a tt → many whole_rule 0 b rules → rules_said (a ++ b) rules
unfolding ◌▹◌
fit_both a b rules l m = (tt, a, b, l, m, refl)

passed_behind : (text : List Tok) (st : State) (p : Passed 0 256 st) → tolfak_at (at_start text) ≡ Ok (tt, st) → Behind text
passed_behind text st p e =
    let g = (told_tolfak {most = standard}).ok (at_start text) tt st e in
    let front = g.said ++ p.said in
    record {
      front = front;
      rules = p.rules;
      fit = fit_both g.said p.said p.rules g.says p.fit;
      few = p.few;
      st1 = p.st1;
      left = g.left ∙ ap (λ (ts : List Tok). words g.said ++ ts) p.left ∙ sym (append_assoc (words g.said) (words p.said) p.st1.left) ∙ ap (λ (ts : List Tok). ts ++ p.st1.left) (sym (words_append g.said p.said));
      stop = λ limits s c left like unread.
          let left2 : s.left ≡ words g.said ++ (words p.said ++ c) = left ∙ ap (λ (ts : List Tok). ts ++ c) (words_append g.said p.said) ∙ append_assoc (words g.said) (words p.said) c in
          let like2 : Like (head (words p.said ++ c)) (head st.left) = like_behind (words p.said) c p.st1.left like ∙ sym (ap (λ (ts : List Tok). form (head ts)) p.left) in
          unread_file limits s (goes_form limits s (words p.said ++ c) (g.along limits s (words p.said ++ c) left2 like2) (λ s1 left3. p.along limits s1 c (limits 1) left3 like unread));
    }

-- ---- past the last rule, and behind all rules

rule_like : (a b : Option Tok) → Like a b → (t : Bool) → is_rule b ≡ t → is_rule a ≡ t
rule_like a b like t is = blind_same is_rule (blind_name rule_word) a b like ∙ is

rules_past : (limits : Limits) (k room : ℕ) (s : State) → room ≡ zero → is_rule (head s.left) ≡ true → IsFault (rules_in limits k room s)
unfolding rules_in
rules_past limits k zero s none t = (TooMany (k + 1) 1, rw t refl)
rules_past limits k (suc room) s none t = absurd (omega arith)

name_next : (n : List ℕ) (left : List Tok) → is_fit (name_fit n (head left)) ≡ true → (more : List Tok) × (left ≡ NameTok n ∷ more)
name_next n [] e = absurd cc
name_next n (MarkTok c ∷ left) e = absurd cc
name_next n (TextTok bytes ∷ left) e = absurd cc
name_next n (NumberTok bytes ∷ left) e = absurd cc
name_next n (NameTok bytes ∷ left) e = (left, ap (λ (b : List ℕ). NameTok b ∷ left) ((bytes_eq-Decides bytes n).0 (if_is (bytes_eq bytes n) e)))
name_next n (BadTok ∷ left) e = absurd cc

rule_next : (left : List Tok) → is_rule (head left) ≡ true → (more : List Tok) × (left ≡ NameTok rule_word ∷ more)
rule_next left t = name_next rule_word left t

found_past : (text : List Tok) (b : Behind text) → is_rule (head b.st1.left) ≡ true → length b.rules ≡ 256 → Found text (TooMany (0 + length b.rules + 1) 1)
found_past text b t full =
    let next = rule_next b.st1.left t in
    let r = a_rule in
    let number : 0 + length b.rules + 1 ≡ length b.rules + 1 = omega arith in
    let grown = (told_body standard).grow 1 r.0 r.1 r.2 in
    let first = head_next (words r.0) (NameTok rule_word) (ap head (sym (append-nil (words r.0))) ∙ name_head _ rule_word r.0 r.1 [] r.2) in
    record {
      used = words b.front;
      rest = b.st1.left;
      left = b.left;
      ended = length b.rules;
      read = inl (whole_front b.front b.rules b.fit b.few);
      stop = λ limits s c left stopping. b.stop limits s c left (past_like 1 (head c) (head b.st1.left) stopping.0) (λ s2 k room3 left2 agree.
          let room : room3 + length b.rules ≡ 256 = agree stopping.1 in
          inl (rules_past limits k room3 s2 (omega arith) (ap (λ (ts : List Tok). is_rule (head ts)) left2 ∙ rule_like (head c) (head b.st1.left) (past_like 1 (head c) (head b.st1.left) stopping.0) true t)));
      kind = (NameTok rule_word, next.0, NameTok rule_word, next.1, refl, number, begun_behind 1 b.front b.rules b.fit (omega (arith, b.few)) (NameTok rule_word ∷ []) (first.0, r.0, r.1, grown, first.1), AtRule refl refl);
    }

rules_none : (limits : Limits) (k room : ℕ) (s : State) → is_rule (head s.left) ≡ false → rules_in limits k room s ≡ Ok ([], s)
unfolding rules_in
rules_none limits k zero s t = rw t refl
rules_none limits k (suc room) s t = rw t refl

like_some : (c rest : List Tok) → Like (head c) (head rest) → 0 < length rest → 0 < length c
like_some [] [] like some = some
like_some [] (t ∷ rest) like some = absurd cc
like_some (t ∷ c) rest like some = omega arith

found_behind : (text : List Tok) (b : Behind text) → is_rule (head b.st1.left) ≡ false → 0 < length b.st1.left → Found text (Syntax (length b.st1.left))
found_behind text b t some =
    record {
      used = words b.front;
      rest = b.st1.left;
      left = b.left;
      ended = length b.rules;
      read = inl (whole_front b.front b.rules b.fit b.few);
      stop = λ limits s c left like. b.stop limits s c left like (λ s2 k room3 left2 agree.
          inr (([], s2), rules_none limits k room3 s2 (ap (λ (ts : List Tok). is_rule (head ts)) left2 ∙ rule_like (head c) (head b.st1.left) like false t), subst (λ (ts : List Tok). 0 < length ts) (sym left2) (like_some c b.st1.left like some)));
      kind = refl;
    }

-- ---- a fault in the form of a rule

rules_bad : (limits : Limits) (k room : ℕ) (s : State) → is_rule (head s.left) ≡ true → IsFault (body_in limits s) → IsFault (rules_in limits k room s)
unfolding rules_in
rules_bad limits k zero s t bad = (TooMany (k + 1) 1, rw t refl)
rules_bad limits k (suc room) s t bad = (bad.0, rw (t, bad.1) refl)

rule_read : (front : List Said) (rules : List Rule) → rules_said front rules → length rules < 256 → (st : State) (f : Fault) (used rest : List Tok) → st.left ≡ used ++ rest → body st ≡ Err f → Fronts (rule_said standard) (λ what. rule_said (raised what standard)) used → IsRead (length rules) (words front ++ used)
rule_read front rules fit few st f used rest left bad (inl c) = inl (half_behind front rules fit few used c (unfinished st f used rest left bad c))
rule_read front rules fit few st f used rest left bad (inr e) =
    let here : st.left ≡ e.0 ++ (MarkTok 44 ∷ rest) = left ∙ ap (λ (ts : List Tok). ts ++ rest) e.1 ∙ append_assoc e.0 (MarkTok 44 ∷ []) rest in
    inr (words front ++ e.0, ap (λ (ts : List Tok). words front ++ ts) e.1 ∙ sym (append_assoc (words front) e.0 (MarkTok 44 ∷ [])), half_behind front rules fit few e.0 e.2 (unfinished st f e.0 (MarkTok 44 ∷ rest) here bad e.2), begun_behind 10 front rules fit (room_for 10 (length rules) few) used e.3)

rule_kind : (front : List Said) (rules : List Rule) → rules_said front rules → length rules < 256 → (f : Fault) (used rest : List Tok) → Kind (0 + length rules + 1) (rule_said standard) (λ what. rule_said (raised what standard)) f used rest → PlaceKind (length rules) f (words front ++ used) rest
rule_kind front rules fit few (Syntax n) used rest k = k
rule_kind front rules fit few (Number n) used rest k =
    (k.0, k.1, k.2, k.3, k.4, subst (λ (ts : List Tok). IsFront (length rules) ts) (sym (append_assoc (words front) used (NumberTok k.2 ∷ []))) (half_behind front rules fit few (used ++ NumberTok k.2 ∷ []) k.5 (unended used k.2 k.5)))
rule_kind front rules fit few (TooMany r what) used rest k =
    let number : r ≡ length rules + 1 = omega (arith, k.5) in
    let begun = begun_behind what front rules fit (room_for what (length rules) few) (used ++ k.2 ∷ []) k.6 in
    (k.0, k.1, k.2, k.3, k.4, number, (begun.0, begun.1, subst (λ (ts : List Tok). IsBegun begun.0 ts) (sym (append_assoc (words front) used (k.2 ∷ []))) begun.2), k.7)
rule_kind front rules fit few (BadIndex r n) used rest k = absurd k
rule_kind front rules fit few (TooLoose r) used rest k = absurd k

found_in_rule : (text : List Tok) (b : Behind text) (f : Fault) → is_rule (head b.st1.left) ≡ true → length b.rules < 256 → body (begun (0 + length b.rules + 1) b.st1) ≡ Err f → Found text f
found_in_rule text b f t few bad =
    let st = begun (0 + length b.rules + 1) b.st1 in
    let q = (told_body standard).err st f bad in
    record {
      used = words b.front ++ q.used;
      rest = q.rest;
      left = b.left ∙ ap (λ (ts : List Tok). words b.front ++ ts) q.left ∙ sym (append_assoc (words b.front) q.used q.rest);
      ended = length b.rules;
      read = rule_read b.front b.rules b.fit few st f q.used q.rest q.left bad q.front;
      stop = λ limits s c left stopping.
          let like : Like (head (q.used ++ c)) (head b.st1.left) = like_behind q.used c q.rest (stopping_like standard limits f (head c) (head q.rest) stopping) ∙ sym (ap (λ (ts : List Tok). form (head ts)) q.left) in
          b.stop limits s (q.used ++ c) (left ∙ append_assoc (words b.front) q.used c) like (λ s2 k room3 left2 agree.
          inl (rules_bad limits k room3 s2 (ap (λ (ts : List Tok). is_rule (head ts)) left2 ∙ rule_like (head (q.used ++ c)) (head b.st1.left) like true t) (q.stop limits s2 c left2 stopping)));
      kind = rule_kind b.front b.rules b.fit few f q.used q.rest q.kind;
    }

-- ---- the verdict on a rule

record FirstMiss (points new_points : ℕ) (more : List Tok) (said : List Said) (u : Use) : Type 0 where
  pub before : List Said
  pub index : Said
  pub after : List Said
  pub same : said ≡ before ++ (index ∷ after)
  pub hits : AllByRecursion (λ s. Hits points new_points s.index) before
  pub miss : Hits points new_points index.index → ⊥
  pub left : u.left ≡ suc (length (words after ++ more))

none_some : (u : Use) → None ≡ Some u → ⊥
none_some u e = cc

use_is : (x u : Use) → Some x ≡ Some u → x ≡ u
use_is x u e = cc

both_ways : (b : Bool) → b ≡ true → b ≡ false → ⊥
both_ways b t f = cc

find_true : (p : Use → Bool) (x : Use) (xs : List Use) → p x ≡ true → find p (x ∷ xs) ≡ Some x
find_true p x xs t = rw t refl

find_false : (p : Use → Bool) (x : Use) (xs : List Use) → p x ≡ false → find p (x ∷ xs) ≡ find p xs
find_false p x xs t = rw t refl

behind_hit : (points new_points : ℕ) (more : List Tok) (s : Said) (said : List Said) (u : Use) → Hits points new_points s.index → FirstMiss points new_points more said u → FirstMiss points new_points more (s ∷ said) u
behind_hit points new_points more s said u hit m =
    record { before = s ∷ m.before; index = m.index; after = m.after; same = ap (λ (x : List Said). s ∷ x) m.same; hits = (hit, m.hits); miss = m.miss; left = m.left }

miss_by : (points new_points : ℕ) (more : List Tok) (s : Said) (said : List Said) (u : Use) (i : Index) (b : Bool) → s.index ≡ Some i → misses i.bound i.value points new_points ≡ b
    → find (is_bad points new_points) (record { left = suc (length (words said ++ more)); index = i.value; bound = i.bound } ∷ uses_of more said) ≡ Some u
    → (find (is_bad points new_points) (uses_of more said) ≡ Some u → FirstMiss points new_points more said u) → FirstMiss points new_points more (s ∷ said) u
miss_by points new_points more s said u i true is t found others =
    let here : Use = record { left = suc (length (words said ++ more)); index = i.value; bound = i.bound } in
    let same : here ≡ u = use_is here u (sym (find_true (is_bad points new_points) here (uses_of more said) t) ∙ found) in
    record {
      before = [];
      index = s;
      after = said;
      same = refl;
      hits = tt;
      miss = λ hit. both_ways (misses i.bound i.value points new_points) t (subst (λ (o : Option Index). Hits points new_points o) is hit);
      left = sym (ap (λ (x : Use). x.left) same);
    }
miss_by points new_points more s said u i false is t found others =
    let here : Use = record { left = suc (length (words said ++ more)); index = i.value; bound = i.bound } in
    behind_hit points new_points more s said u (subst (λ (o : Option Index). Hits points new_points o) (sym is) t) (others (sym (find_false (is_bad points new_points) here (uses_of more said) t) ∙ found))

miss_at : (points new_points : ℕ) (more : List Tok) (s : Said) (said : List Said) (u : Use) (o : Option Index) → s.index ≡ o → find (is_bad points new_points) (use_at (suc (length (words said ++ more))) o ++ uses_of more said) ≡ Some u
    → (find (is_bad points new_points) (uses_of more said) ≡ Some u → FirstMiss points new_points more said u) → FirstMiss points new_points more (s ∷ said) u
miss_at points new_points more s said u None is found others = behind_hit points new_points more s said u (subst (λ (o : Option Index). Hits points new_points o) (sym is) tt) (others found)
miss_at points new_points more s said u (Some i) is found others = miss_by points new_points more s said u i (misses i.bound i.value points new_points) is refl found others

first_miss : (points new_points : ℕ) (more : List Tok) (said : List Said) (u : Use) → find (is_bad points new_points) (uses_of more said) ≡ Some u → FirstMiss points new_points more said u
first_miss points new_points more [] u found = absurd (none_some u found)
first_miss points new_points more (s ∷ said) u found = miss_at points new_points more s said u s.index refl found (first_miss points new_points more said u)

-- a rule that was read, behind rules that fit
record Checked (text : List Tok) : Type 0 where
  pub front : List Said
  pub rules : List Rule
  pub fit : rules_said front rules
  pub few : length rules < 256
  pub said : List Said
  pub rule : Rule
  pub says : rule_said standard said rule
  pub more : List Tok
  pub left : text ≡ words front ++ (words said ++ more)

ends_of : (text : List Tok) (c : Checked text) → Ends text (length c.rules + 1)
ends_of text c = record {
  text = words c.front ++ words c.said;
  after = c.more;
  same = c.left ∙ sym (append_assoc (words c.front) (words c.said) c.more);
  ended = length c.rules;
  place = refl;
  one = record { front = c.front; said = c.said; same = refl; rules = c.rules; rule = c.rule; fit = c.fit; says = c.says; few = c.few; count = refl };
}

text_length : (text : List Tok) (c : Checked text) → length text ≡ length c.front + (length c.said + length c.more)
text_length text c = ap length c.left ∙ length-append (words c.front) (words c.said ++ c.more) ∙ omega (arith, words_length c.front, words_length c.said, length-append (words c.said) c.more)

miss_place : (text : List Tok) (c : Checked text) (u : Use) (m : FirstMiss (length c.rule.points) (length c.rule.new_points) c.more c.said u) → word_number (length text) u.left ≡ length c.front + length m.before + 1
miss_place text c u m =
    let all = text_length text c in
    let parts : length c.said ≡ length m.before + suc (length m.after) = ap length m.same ∙ length-append m.before (m.index ∷ m.after) in
    let behind : length (words m.after ++ c.more) ≡ length m.after + length c.more = length-append (words m.after) c.more ∙ omega (arith, words_length m.after) in
    omega (arith, all, parts, behind, m.left)

end_place : (text : List Tok) (c : Checked text) → word_number (length text) (suc (length c.more)) ≡ length (words c.front ++ words c.said)
end_place text c =
    let all = text_length text c in
    let both : length (words c.front ++ words c.said) ≡ length c.front + length c.said = length-append (words c.front) (words c.said) ∙ omega (arith, words_length c.front, words_length c.said) in
    let some : 0 < length (words c.said) = rule_nonempty standard c.said c.rule c.says in
    omega (arith, all, both, some, words_length c.said)

fault_is : (d f : Fault) → Some d ≡ Some f → d ≡ f
fault_is d f e = cc

no_fault_is : (f : Fault) → None ≡ Some f → ⊥
no_fault_is f e = cc

refuse_same : (text : List Tok) (d f : Fault) → d ≡ f → Refuses text (refusal_of (length text) (stops.Fault d)) → Refuses text (refusal_of (length text) (stops.Fault f))
refuse_same text d f e r = subst (λ (g : Fault). Refuses text (refusal_of (length text) (stops.Fault g))) e r

loose_refused : (text : List Tok) (c : Checked text) (f : Fault) (b : Bool) → AllByRecursion (λ s. Hits (length c.rule.points) (length c.rule.new_points) s.index) c.said → 0 < length c.rule.lines
    → ltb 3 (loose_starts (length c.rule.points) c.rule.lines) ≡ b → cond b (Some (TooLoose (length c.rules + 1))) None ≡ Some f → Refuses text (refusal_of (length text) (stops.Fault f))
unfolding ends_of
loose_refused text c f true hits lines t e =
    let points = length c.rule.points in
    let go = rule_lines standard points (length c.rule.new_points) c.said c.rule c.says hits in
    let starts = starts_there points c.rule.lines go in
    let count : loose_starts points c.rule.lines + 1 ≡ length starts.0 = starts_counted points c.rule.lines starts.0 (some_points points c.rule.lines go lines) go starts.1 in
    let loose : 3 < loose_starts points c.rule.lines = ltb-true 3 (loose_starts points c.rule.lines) t in
    refuse_same text (TooLoose (length c.rules + 1)) f (fault_is (TooLoose (length c.rules + 1)) f e) (record { rule = ends_of text c; hits = hits; lines = lines; starts = starts.0; each = starts.1; more = omega (arith, count, loose) })
loose_refused text c f false hits lines t e = absurd (no_fault_is f e)

some_lines : (n : ℕ) → (n ≡ 0 → ⊥) → 0 < n
some_lines zero h = absurd (h refl)
some_lines (suc n) h = omega arith

lines_refused : (text : List Tok) (c : Checked text) (f : Fault) (b : Bool) → AllByRecursion (λ s. Hits (length c.rule.points) (length c.rule.new_points) s.index) c.said
    → eqb (length c.rule.lines) 0 ≡ b → cond b (Some (BadIndex (length c.rules + 1) (suc (length c.more)))) (graph_verdict (length c.rules + 1) c.rule) ≡ Some f → Refuses text (refusal_of (length text) (stops.Fault f))
unfolding ends_of
lines_refused text c f true hits t e =
    refuse_same text (BadIndex (length c.rules + 1) (suc (length c.more))) f (fault_is (BadIndex (length c.rules + 1) (suc (length c.more))) f e)
    (inr (record { rule = ends_of text c; hits = hits; none = nil_from_length c.rule.lines (eqb-true (length c.rule.lines) 0 t); place = end_place text c }))
lines_refused text c f false hits t e = loose_refused text c f (ltb 3 (loose_starts (length c.rule.points) c.rule.lines)) hits (some_lines (length c.rule.lines) (eqb-false (length c.rule.lines) 0 t)) refl e

index_refused : (text : List Tok) (c : Checked text) (f : Fault) (o : Option Use) → find (is_bad (length c.rule.points) (length c.rule.new_points)) (uses_of c.more c.said) ≡ o → index_verdict (length c.rules + 1) c.rule (suc (length c.more)) o ≡ Some f
    → Refuses text (refusal_of (length text) (stops.Fault f))
unfolding ends_of
index_refused text c f (Some u) found e =
    let m = first_miss (length c.rule.points) (length c.rule.new_points) c.more c.said u found in
    refuse_same text (BadIndex (length c.rules + 1) u.left) f (fault_is (BadIndex (length c.rules + 1) u.left) f e)
    (inl (record { rule = ends_of text c; before = m.before; index = m.index; after = m.after; same = m.same; hits = m.hits; miss = m.miss; place = miss_place text c u m }))
index_refused text c f None found e = lines_refused text c f (eqb (length c.rule.lines) 0) (hits_of (length c.rule.points) (length c.rule.new_points) c.more c.said found) refl e

verdict_refused : (text : List Tok) (c : Checked text) (f : Fault) → verdict (length c.rules + 1) (uses_of c.more c.said) c.rule (suc (length c.more)) ≡ Some f → Refuses text (refusal_of (length text) (stops.Fault f))
unfolding verdict
verdict_refused text c f e = index_refused text c f (find (is_bad (length c.rule.points) (length c.rule.new_points)) (uses_of c.more c.said)) refl e

refused_by_verdict : (text : List Tok) (b : Behind text) (f : Fault) → length b.rules < 256 → (p : Rule × State) → body (begun (0 + length b.rules + 1) b.st1) ≡ Ok p → verdict p.1.rule p.1.uses p.0 (suc (length p.1.left)) ≡ Some f → Refuses text (refusal_of (length text) (stops.Fault f))
refused_by_verdict text b f few p read is =
    let t = (good_body standard).takes (begun (0 + length b.rules + 1) b.st1) p.0 p.1 read in
    let c : Checked text = record {
      front = b.front;
      rules = b.rules;
      fit = b.fit;
      few = few;
      said = t.0;
      rule = p.0;
      says = t.1;
      more = p.1.left;
      left = b.left ∙ ap (λ (ts : List Tok). words b.front ++ ts) t.2;
    } in
    let number : p.1.rule ≡ length b.rules + 1 = ap (λ (s : State). s.rule) t.3 ∙ omega arith in
    let uses : p.1.uses ≡ uses_of p.1.left t.0 = ap (λ (s : State). s.uses) t.3 in
    verdict_refused text c f (ap (λ (n : ℕ). verdict n (uses_of p.1.left t.0) p.0 (suc (length p.1.left))) (sym number) ∙ ap (λ (us : List Use). verdict p.1.rule us p.0 (suc (length p.1.left))) (sym uses) ∙ is)

-- ---- a whole text

fault_same_as : {A : Type 0} (r : Read A) (d f : Fault) → r ≡ Err d → r ≡ Err f → d ≡ f
fault_same_as r d f a b = cc

ok_or_fault : {A : Type 0} (r : Read A) (x : A × State) (f : Fault) → r ≡ Ok x → r ≡ Err f → ⊥
ok_or_fault r x f a b = not_both x f (sym a ∙ b)

rules_refused : (text : List Tok) (st : State) (f : Fault) (p : Passed 0 256 st) → tolfak_at (at_start text) ≡ Ok (tt, st) → Next 0 256 st p.rules p.st1 → rules_at 0 256 st ≡ Err f → Refuses text (refusal_of (length text) (stops.Fault f))
unfolding passed_behind
rules_refused text st f p e (NoRule t read) bad = absurd (ok_or_fault (rules_at 0 256 st) (p.rules, p.st1) f read bad)
rules_refused text st f p e (Full t count read) bad =
    let b = passed_behind text st p e in
    let same : TooMany (0 + length p.rules + 1) 1 ≡ f = fault_same_as (rules_at 0 256 st) (TooMany (0 + length p.rules + 1) 1) f read bad in
    refuse_same text (TooMany (0 + length p.rules + 1) 1) f same (refused_at text (TooMany (0 + length p.rules + 1) 1) (found_past text b t count))
rules_refused text st f p e (Faulty g t few fault read) bad =
    let b = passed_behind text st p e in
    refuse_same text g f (fault_same_as (rules_at 0 256 st) g f read bad) (elim (rule_fault (begun (0 + length p.rules + 1) p.st1) g fault) [
      | inl form ↦ refused_at text g (found_in_rule text b g t few form)
      | inr on ↦ refused_by_verdict text b g few on.0 on.1 on.2
    ])

ended_fault : (b : Bool) (r : List Rule × State) (f : Fault) → ltb 0 (length r.1.left) ≡ b → cond b (Err (Syntax (length r.1.left))) (Ok r) ≡ Err f → (Syntax (length r.1.left) ≡ f) × (0 < length r.1.left)
ended_fault true r f t e = let same : Syntax (length r.1.left) ≡ f = cc in (same, ltb-true 0 (length r.1.left) t)
ended_fault false r f t e = absurd (not_both r f e)

end_refused : (text : List Tok) (st : State) (f : Fault) (p : Passed 0 256 st) → tolfak_at (at_start text) ≡ Ok (tt, st) → Next 0 256 st p.rules p.st1 → (r : List Rule × State) → rules_at 0 256 st ≡ Ok r → ended_in r ≡ Err f → Refuses text (refusal_of (length text) (stops.Fault f))
unfolding passed_behind
end_refused text st f p e (NoRule t read) r on bad =
    let b = passed_behind text st p e in
    let same : r ≡ (p.rules, p.st1) = ok_is r (p.rules, p.st1) (sym on ∙ read) in
    let bad2 : ended_in (p.rules, p.st1) ≡ Err f = subst (λ (x : List Rule × State). ended_in x ≡ Err f) same bad in
    let d = ended_fault (ltb 0 (length p.st1.left)) (p.rules, p.st1) f refl bad2 in
    refuse_same text (Syntax (length p.st1.left)) f d.0 (refused_at text (Syntax (length p.st1.left)) (found_behind text b t d.1))
end_refused text st f p e (Full t count read) r on bad = absurd (ok_or_fault (rules_at 0 256 st) r _ on read)
end_refused text st f p e (Faulty g t few fault read) r on bad = absurd (ok_or_fault (rules_at 0 256 st) r g on read)

pub reading_refused : (text : List Tok) (f : Fault) → reading text ≡ Err f → Refuses text (refusal_of (length text) (stops.Fault f))
unfolding file_at
reading_refused text f e =
    elim (bind_err (tolfak_at (at_start text)) (λ a. rules_at 0 256 a.1 >>= ended_in) f e) [
      | inl bad ↦ refused_at text f (found_in_tolfak text f bad)
      | inr a ↦
          let p = rules_passed 256 0 a.0.1 in
          elim (bind_err (rules_at 0 256 a.0.1) ended_in f a.2) [
            | inl bad ↦ rules_refused text a.0.1 f p a.1 p.next bad
            | inr r ↦ end_refused text a.0.1 f p a.1 p.next r.0 r.1 r.2
          ]
    ]

refused_by : (text : List Tok) (e : RuleRefusal) (f : Fault) → reading text ≡ Err f → e ≡ refusal_of (length text) (stops.Fault f) → Refuses text e
refused_by text e f read same = subst (λ (x : RuleRefusal). Refuses text x) (sym same) (reading_refused text f read)

pub is_refused : (text : List Tok) (r : Result (List Rule) RuleRefusal) → IsReading r text → IfErr r (Refuses text)
is_refused text (Ok rules) h = tt
is_refused text (Err refusals.Memory) h = tt
is_refused text (Err (refusals.Syntax w)) h = refused_by text (refusals.Syntax w) h.0 h.1 h.2
is_refused text (Err (refusals.Number w)) h = refused_by text (refusals.Number w) h.0 h.1 h.2
is_refused text (Err (refusals.TooMany r w)) h = refused_by text (refusals.TooMany r w) h.0 h.1 h.2
is_refused text (Err (refusals.BadIndex r w)) h = refused_by text (refusals.BadIndex r w) h.0 h.1 h.2
is_refused text (Err (refusals.TooLoose r)) h = refused_by text (refusals.TooLoose r) h.0 h.1 h.2
