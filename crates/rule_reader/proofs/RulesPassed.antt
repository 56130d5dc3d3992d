-- Which rules are read before a fault, and how other limits read them.
use Rattle.std.proofs.Common.{◌≡◌, ℕ, zero, suc, ◌+◌, ◌<◌, ◌≤◌, Bool, true, false, List, [], ◌∷◌, ◌++◌, length, Option, Some, None, Ok, Err, refl, sym, ap, subst, ◌∙◌, inl, inr, ◌⊎◌, append_assoc, arith}
use Rattle.std.proofs.lemmas.List.{append-nil, append_cancel_right}
use Rattle.rule_reader.specs.declared.fault.Fault.{Fault}
use Rattle.rule_reader.specs.declared.fault.Fault.TheVariants.{TooMany}
use Rattle.rule_reader.specs.declared.rule.Rule.{Rule}
use Rattle.rule_reader.specs.Words.{Tok, State, head, begun, at_start}
use Rattle.rule_reader.specs.Reading.{Read, ◌>>=◌, name_at, number_at}
use Rattle.rule_reader.specs.Verdict.{verdict}
use Rattle.rule_reader.specs.Sections.{rule_of, empty_parts, endrule_word, rule_word, tolfak_word, sections_at, name_of_rule_at, judged_rule, rule_at, rules_at, tolfak_at}
use Rattle.rule_reader.specs.Grammar.{Limits, standard, Said, words, ◌▹◌, done, many, at_most, name, number, rule_said, whole_rule, tolfak, file_form, Derives}
use Rattle.rule_reader.proofs.Good.{Good, good_before, seq_before, ◌▸◌, pure, words_append, after}
use Rattle.rule_reader.proofs.GoodEntries.{good_name}
use Rattle.rule_reader.proofs.GoodLists.{name_head}
use Rattle.rule_reader.proofs.GoodMany.{ReadsMany, Stops, good_many}
use Rattle.rule_reader.proofs.GoodSections.{same_sections}
use Rattle.rule_reader.proofs.GoodFile.{good_body, body, same_name, body_is, rule_steps, rule_takes, is_rule, name_is, is_tolfak, NoTolfak, good_tolfak}
use Rattle.rule_reader.proofs.Within.{body_in, rules_in, form_in, file_in}
use Rattle.rule_reader.proofs.Told.{form, Like, IsFault, blind_same, bind_err, fault_first, like_behind, GoesOn, then, by_next}
use Rattle.rule_reader.proofs.Told.{ends as ended}
use Rattle.rule_reader.proofs.ToldEntries.{Single, blind_name, told_name, told_number, small_bound}
use Rattle.rule_reader.proofs.ToldMany.{not_both, told_body}

-- ---- each derived text is read within its limits

rules_full : (most : Limits) (k : ℕ) (st : State) (x : List Rule × State) → is_rule (head st.left) ≡ true → rules_in most k zero st ≡ Ok x → ⊥
unfolding rules_in
rules_full most k st x t read = let none : Err (TooMany (k + 1) 1) ≡ Ok x = rw t at read in cc

rules_stop : (most : Limits) (k room : ℕ) (st : State) → is_rule (head st.left) ≡ false → rules_in most k room st ≡ Ok ([], st)
unfolding rules_in
rules_stop most k zero st t = rw t refl
rules_stop most k (suc room) st t = rw t refl

reads_rules : (most : Limits) → ReadsMany Rule (λ k. rule_said most) (λ k. body_in most) is_rule (λ k room. rules_in most k room)
unfolding rules_in
reads_rules most =
    record {
      full = λ k st x t read. rules_full most k st x t read;
      more = λ k room st t. rw t refl;
      stop = λ k room st t. rules_stop most k room st t;
      entries = λ k. good_body most;
      begins = λ k said v more l. ap is_rule (name_head _ rule_word said v more l) ∙ name_is rule_word;
    }

good_rules : (most : Limits) → Good (List Rule) (Stops is_rule) (at_most (most 1) (λ k. rule_said most)) (rules_in most 0 (most 1))
unfolding at_most
good_rules most = good_many Rule (λ k. rule_said most) (λ k. body_in most) is_rule (λ k room. rules_in most k room) (reads_rules most) 0 (most 1)

abbrev AtEnd : List Tok → Type 0
AtEnd more = more ≡ []

no_tolfak : (most : Limits) (said : List Said) (v : List Rule) (more : List Tok) → many (λ k. rule_said most) 0 said v → AtEnd more → NoTolfak (words said ++ more)
unfolding many
no_tolfak most said [] more l f = ap (λ (s : List Said). is_tolfak (head (words s ++ more))) l ∙ ap (λ (ts : List Tok). is_tolfak (head ts)) f
no_tolfak most said (r ∷ rs) more l f =
    let left : words said ++ more ≡ words l.0 ++ (words l.1 ++ more) = ap (λ (s : List Said). words s ++ more) l.4 ∙ ap (λ (ts : List Tok). ts ++ more) (words_append l.0 l.1) ∙ append_assoc (words l.0) (words l.1) more in
    ap (λ (ts : List Tok). is_tolfak (head ts)) left ∙ ap is_tolfak (name_head _ rule_word l.0 r (words l.1 ++ more) l.2)

good_form : (most : Limits) → Good (List Rule) AtEnd (file_form most) (form_in most)
unfolding form_in at_most
good_form most =
    seq_before good_tolfak (λ a. good_before (List Rule) (Stops is_rule) AtEnd (at_most (most 1) (λ k. rule_said most)) (rules_in most 0 (most 1)) (good_rules most) (λ more f. ap (λ (ts : List Tok). is_rule (head ts)) f))
    (λ a said y more l f. no_tolfak most said y more l.0 f)

file_read : (most : Limits) (text : List Tok) (rules : List Rule) → Derives most text rules → (st : State) × (file_in most (at_start text) ≡ Ok (rules, st))
unfolding file_in
file_read most text rules d =
    let st = after (at_start text) d.0 [] in
    let read : form_in most (at_start text) ≡ Ok (rules, st) = (good_form most).again d.0 rules (at_start text) [] d.2 refl (sym d.1 ∙ sym (append-nil (words d.0))) in
    (st, rw read refl)

pub no_text : (most : Limits) (text : List Tok) (rules : List Rule) → Derives most text rules → IsFault (file_in most (at_start text)) → ⊥
no_text most text rules d bad = let r = file_read most text rules d in not_both (rules, r.0) bad.0 (sym r.1 ∙ bad.1)

-- ---- the fault of a rule

fails_first : (st : State) (f : Fault) → name_at rule_word st ≡ Err f → body st ≡ Err f
unfolding body_in ◌▸◌
fails_first st f a = rw a refl

fails_second : (st st1 : State) (u : Unit {0}) (f : Fault) → name_at rule_word st ≡ Ok (u, st1) → name_of_rule_at st1 ≡ Err f → body st ≡ Err f
unfolding body_in ◌▸◌
fails_second st st1 u f a b = rw (a, sym (same_name st1) ∙ b) refl

fails_third : (st st1 st2 : State) (u : Unit {0}) (n : List ℕ) (f : Fault) → name_at rule_word st ≡ Ok (u, st1) → name_of_rule_at st1 ≡ Ok (n, st2) → sections_at 9 empty_parts st2 ≡ Err f → body st ≡ Err f
unfolding body_in ◌▸◌
fails_third st st1 st2 u n f a b c = rw (a, sym (same_name st1) ∙ b, sym (same_sections 9 empty_parts st2) ∙ c) refl

fails_last : (st st1 st2 st3 : State) (u : Unit {0}) (n : List ℕ) (parts : _) (f : Fault) → name_at rule_word st ≡ Ok (u, st1) → name_of_rule_at st1 ≡ Ok (n, st2) → sections_at 9 empty_parts st2 ≡ Ok (parts, st3) → name_at endrule_word st3 ≡ Err f → body st ≡ Err f
unfolding body_in ◌▸◌
fails_last st st1 st2 st3 u n parts f a b c d = rw (a, sym (same_name st1) ∙ b, sym (same_sections 9 empty_parts st2) ∙ c, d) refl

judged_some : (o : Option Fault) (rule : Rule) (st : State) (f : Fault) → judged_rule o rule st ≡ Err f → o ≡ Some f
judged_some None rule st f e = absurd cc
judged_some (Some g) rule st f e = cc

-- the form of the rule fails, or its verdict is the fault
pub rule_fault : (st : State) (f : Fault) → rule_at st ≡ Err f → (body st ≡ Err f) ⊎ ((p : Rule × State) × (body st ≡ Ok p) × (verdict p.1.rule p.1.uses p.0 (suc (length p.1.left)) ≡ Some f))
unfolding rule_at name
rule_fault st f e =
    elim (bind_err (name_at rule_word st) (λ a. name_of_rule_at a.1 >>= λ n. sections_at 9 empty_parts n.1 >>= λ s. name_at endrule_word s.1 >>= λ b. judged_rule (verdict b.1.rule b.1.uses (rule_of n.0 s.0) (length s.1.left)) (rule_of n.0 s.0) b.1) f e) [
      | inl bad ↦ inl (fails_first st f bad)
      | inr a ↦
          elim (bind_err (name_of_rule_at a.0.1) (λ n. sections_at 9 empty_parts n.1 >>= λ s. name_at endrule_word s.1 >>= λ b. judged_rule (verdict b.1.rule b.1.uses (rule_of n.0 s.0) (length s.1.left)) (rule_of n.0 s.0) b.1) f a.2) [
            | inl bad ↦ inl (fails_second st a.0.1 a.0.0 f a.1 bad)
            | inr n ↦
                elim (bind_err (sections_at 9 empty_parts n.0.1) (λ s. name_at endrule_word s.1 >>= λ b. judged_rule (verdict b.1.rule b.1.uses (rule_of n.0.0 s.0) (length s.1.left)) (rule_of n.0.0 s.0) b.1) f n.2) [
                  | inl bad ↦ inl (fails_third st a.0.1 n.0.1 a.0.0 n.0.0 f a.1 n.1 bad)
                  | inr s ↦
                      elim (bind_err (name_at endrule_word s.0.1) (λ b. judged_rule (verdict b.1.rule b.1.uses (rule_of n.0.0 s.0.0) (length s.0.1.left)) (rule_of n.0.0 s.0.0) b.1) f s.2) [
                        | inl bad ↦ inl (fails_last st a.0.1 n.0.1 s.0.1 a.0.0 n.0.0 s.0.0 f a.1 n.1 s.1 bad)
                        | inr b ↦
                            let rule : Rule = rule_of n.0.0 s.0.0 in
                            let t = (good_name endrule_word).takes s.0.1 b.0.0 b.0.1 b.1 in
                            let left : length s.0.1.left ≡ suc (length b.0.1.left) = ap length (t.2 ∙ ap (λ (x : List Said). words x ++ b.0.1.left) t.1) in
                            let is = judged_some (verdict b.0.1.rule b.0.1.uses rule (length s.0.1.left)) rule b.0.1 f b.2 in
                            inr ((rule, b.0.1), body_is st a.0.1 n.0.1 s.0.1 b.0.1 a.0.0 b.0.0 n.0.0 s.0.0 a.1 n.1 s.1 b.1, ap (λ (k : ℕ). verdict b.0.1.rule b.0.1.uses rule k) (sym left) ∙ is)
                      ]
                ]
          ]
    ]

-- ---- rules that are read

-- a fault, or words are left
abbrev pub Unread : Read (List Rule) → Type 0
Unread r = IsFault r ⊎ ((x : List Rule × State) × (r ≡ Ok x) × (0 < length x.1.left))

abbrev put : Rule → List Rule × State → Read (List Rule)
put r rs = Ok (r ∷ rs.0, rs.1)

unread_put : (r : Rule) (q : Read (List Rule)) → Unread q → Unread (q >>= put r)
unread_put r q (inl bad) = inl (fault_first q (put r) bad)
unread_put r q (inr on) = inr ((r ∷ on.0.0, on.0.1), ap (λ x. x >>= put r) on.1, on.2)

-- what comes behind rules that are read
pub data Next (before room : ℕ) (st : State) (rules : List Rule) (st1 : State) : Type 0 where
  NoRule : is_rule (head st1.left) ≡ false → rules_at before room st ≡ Ok (rules, st1) → Next before room st rules st1
  Full : is_rule (head st1.left) ≡ true → length rules ≡ room → rules_at before room st ≡ Err (TooMany (before + length rules + 1) 1) → Next before room st rules st1
  Faulty : (f : Fault) → is_rule (head st1.left) ≡ true → length rules < room → rule_at (begun (before + length rules + 1) st1) ≡ Err f → rules_at before room st ≡ Err f → Next before room st rules st1

pub record Passed (before room : ℕ) (st : State) : Type 0 where
  pub rules : List Rule
  pub said : List Said
  pub st1 : State
  pub fit : many whole_rule before said rules
  pub left : st.left ≡ words said ++ st1.left
  pub few : length rules ≤ room
  pub next : Next before room st rules st1
  -- within other limits what follows is left unread as well
  pub along : (limits : Limits) (s : State) (c : List Tok) (room2 : ℕ) → s.left ≡ words said ++ c → Like (head c) (head st1.left)
      → ((s2 : State) (k room3 : ℕ) → s2.left ≡ c → (room2 ≡ room → room3 + length rules ≡ room) → Unread (rules_in limits k room3 s2)) → Unread (rules_in limits before room2 s)

none_passed : (before room : ℕ) (st : State) → Next before room st [] st → Passed before room st
unfolding many
none_passed before room st next =
    record { rules = []; said = []; st1 = st; fit = refl; left = refl; few = omega arith; next = next; along = λ limits s c room2 left like unread. unread s before room2 left (λ e. omega (arith, e)) }

is_rule_like : (a b : Option Tok) → Like a b → is_rule b ≡ true → is_rule a ≡ true
is_rule_like a b like t = blind_same is_rule (blind_name rule_word) a b like ∙ t

rules_none : (before : ℕ) (b : Bool) (st : State) → is_rule (head st.left) ≡ b → Passed before zero st
unfolding rules_at
rules_none before false st t = none_passed before zero st (NoRule t (rw t refl))
rules_none before true st t = none_passed before zero st (Full t refl (rw t (ap (λ (n : ℕ). Err (TooMany (n + 1) 1)) (omega arith))))

-- a rule that is read, within other limits
one_along : (limits : Limits) (before room2 : ℕ) (st1 s : State) (r : Rule) (mid : List Tok) → is_rule (head s.left) ≡ true → GoesOn r mid (body_in limits s)
    → ((s2 : State) (room3 : ℕ) → s2.left ≡ mid → room2 ≡ suc room3 → Unread (rules_in limits (before + 1) room3 s2)) → Unread (rules_in limits before room2 s)
unfolding rules_in
one_along limits before zero st1 s r mid t goes others = inl (TooMany (before + 1) 1, rw t refl)
one_along limits before (suc room2) st1 s r mid t (inl bad) others = inl (bad.0, rw (t, bad.1) refl)
one_along limits before (suc room2) st1 s r mid t (inr on) others =
    subst Unread (sym (opened limits before room2 s r on.0 t on.1)) (unread_put r (rules_in limits (before + 1) room2 on.0) (others on.0 room2 on.2 refl))
  where
    opened : (limits : Limits) (before room2 : ℕ) (s : State) (r : Rule) (s2 : State) → is_rule (head s.left) ≡ true → body_in limits s ≡ Ok (r, s2) → rules_in limits before (suc room2) s ≡ (rules_in limits (before + 1) room2 s2 >>= put r)
    opened limits before room2 s r s2 t e = rw (t, e) refl

next_behind : (before room : ℕ) (st : State) (r : Rule) (st0 : State) (rules : List Rule) (st1 : State) → is_rule (head st.left) ≡ true → rule_at (begun (before + 1) st) ≡ Ok (r, st0) → Next (before + 1) room st0 rules st1 → Next before (suc room) st (r ∷ rules) st1
unfolding rules_at
next_behind before room st r st0 rules st1 t read (NoRule t2 e) = NoRule t2 (rw (t, read, e) refl)
next_behind before room st r st0 rules st1 t read (Full t2 count e) =
    let n : before + 1 + length rules + 1 ≡ before + suc (length rules) + 1 = omega arith in
    let all : rules_at before (suc room) st ≡ Err (TooMany (before + 1 + length rules + 1) 1) = rw (t, read, e) refl in
    Full t2 (ap (λ (n : ℕ). suc n) count) (all ∙ ap (λ (n : ℕ). Err (TooMany n 1)) n)
next_behind before room st r st0 rules st1 t read (Faulty f t2 few fault e) =
    let n : before + 1 + length rules + 1 ≡ before + suc (length rules) + 1 = omega arith in
    Faulty f t2 (omega arith) (subst (λ (n : ℕ). rule_at (begun n st1) ≡ Err f) n fault) (rw (t, read, e) refl)

abbrev form_head : List Tok → Option Tok
form_head ts = form (head ts)

one_passed : (before room : ℕ) (st : State) (r : Rule) (st0 : State) → is_rule (head st.left) ≡ true → rule_at (begun (before + 1) st) ≡ Ok (r, st0) → Passed (before + 1) room st0 → Passed before (suc room) st
unfolding many
one_passed before room st r st0 t read p =
    let w = rule_takes before (before + 1) st r st0 read in
    let g = (told_body standard).ok (begun (before + 1) st) r st0 (rule_steps (begun (before + 1) st) (r, st0) read).whole in
    let same : words w.0 ≡ words g.said = append_cancel_right (words w.0) (words g.said) st0.left (sym w.2 ∙ g.left) in
    record {
      rules = r ∷ p.rules;
      said = w.0 ++ p.said;
      st1 = p.st1;
      fit = (w.0, p.said, w.1, p.fit, refl);
      left = w.2 ∙ ap (λ (ts : List Tok). words w.0 ++ ts) p.left ∙ sym (append_assoc (words w.0) (words p.said) p.st1.left) ∙ ap (λ (ts : List Tok). ts ++ p.st1.left) (sym (words_append w.0 p.said));
      few = more_few (length p.rules) room p.few;
      next = next_behind before room st r st0 p.rules p.st1 t read p.next;
      along = λ limits s c room2 left like unread.
          let left2 : s.left ≡ words g.said ++ (words p.said ++ c) = left ∙ ap (λ (ts : List Tok). ts ++ c) (words_append w.0 p.said) ∙ append_assoc (words w.0) (words p.said) c ∙ ap (λ (ts : List Tok). ts ++ (words p.said ++ c)) same in
          let like2 : Like (head (words p.said ++ c)) (head st0.left) = like_behind (words p.said) c p.st1.left like ∙ sym (ap (λ (ts : List Tok). form_head ts) p.left) in
          let like3 : Like (head s.left) (head st.left) = ap (λ (ts : List Tok). form_head ts) left2 ∙ like_behind (words g.said) (words p.said ++ c) st0.left like2 ∙ sym (ap (λ (ts : List Tok). form_head ts) g.left) in
          one_along limits before room2 st0 s r (words p.said ++ c) (is_rule_like (head s.left) (head st.left) like3 t) (g.along limits s (words p.said ++ c) left2 like2)
          (λ s2 room3 left3 is. p.along limits s2 c room3 left3 like (λ s3 k room4 left4 agree. unread s3 k room4 left4 (λ e. agreed room4 room3 room2 (length p.rules) room is agree e)));
    }
  where
    more_few : (a b : ℕ) → a ≤ b → suc a ≤ suc b
    more_few a b h = omega arith

    agreed : (r4 r3 r2 n room : ℕ) → r2 ≡ suc r3 → (r3 ≡ room → r4 + n ≡ room) → r2 ≡ suc room → r4 + suc n ≡ suc room
    agreed r4 r3 r2 n room is agree e = let one : r3 ≡ room = omega arith in let two : r4 + n ≡ room = agree one in omega arith

by_rule : (before room : ℕ) (st : State) (r : Read Rule) → ((st0 : State) → Passed (before + 1) room st0) → is_rule (head st.left) ≡ true → rule_at (begun (before + 1) st) ≡ r → Passed before (suc room) st
unfolding rules_at
by_rule before room st (Ok x) others t read = one_passed before room st x.0 x.1 t read (others x.1)
by_rule before room st (Err f) others t read =
    let n : before + 1 ≡ before + 0 + 1 = omega arith in
    none_passed before (suc room) st (Faulty f t (omega arith) (subst (λ (n : ℕ). rule_at (begun n st) ≡ Err f) n read) (rw (t, read) refl))

by_test : (before room : ℕ) (b : Bool) (st : State) → ((st0 : State) → Passed (before + 1) room st0) → is_rule (head st.left) ≡ b → Passed before (suc room) st
unfolding rules_at
by_test before room false st others t = none_passed before (suc room) st (NoRule t (rw t refl))
by_test before room true st others t = by_rule before room st (rule_at (begun (before + 1) st)) others t refl

pub rules_passed : (room before : ℕ) (st : State) → Passed before room st
rules_passed zero before st = rules_none before (is_rule (head st.left)) st refl
rules_passed (suc room) before st = by_test before room (is_rule (head st.left)) st (rules_passed room (before + 1)) refl

-- ---- a number at the front

pub told_tolfak : {most : Limits} → Single (Unit {0}) most tolfak tolfak_at
unfolding tolfak_at ◌▸◌ pure
told_tolfak = by_next is_tolfak (blind_name tolfak_word) twin (ended tt)
  where
    twin : {most : Limits} → Single (Unit {0}) most (name tolfak_word ▹ λ a. number 160000 ▹ λ n. done tt) (name_at tolfak_word ▸ λ a. number_at 160000 ▸ λ n. pure tt)
    twin = then (told_name tolfak_word) (λ a. then (told_number 160000 small_bound) (λ n. ended tt))
