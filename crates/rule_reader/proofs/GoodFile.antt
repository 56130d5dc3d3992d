-- A whole file is read just as the grammar says.
use Rattle.std.proofs.Common.{◌≡◌, ◌≢◌, ℕ, zero, suc, ◌+◌, ◌<◌, ◌≤◌, Bool, true, false, cond, eqb, ltb, List, [], ◌∷◌, ◌++◌, length, Option, Some, None, Ok, Err, refl, sym, ap, subst, ◌∙◌, append_assoc, arith}
use Rattle.std.specs.Prelude.{find}
use Rattle.std.specs.List.{AllByRecursion}
use Rattle.std.proofs.lemmas.Slice.Eq.{bytes_eq-Decides}
use Rattle.std.proofs.lemmas.Bool.{eqb-false, ltb-false, le-ltb, ne_eqb}
use Rattle.std.proofs.lemmas.List.{append-nil, nil_from_length}
use Rattle.rule_reader.specs.declared.fault.Fault.{Fault}
use Rattle.rule_reader.specs.declared.fault.Fault.TheVariants.{Syntax, TooMany, BadIndex, TooLoose}
use Rattle.rule_reader.specs.declared.reader.Use.{Use}
use Rattle.rule_reader.specs.declared.rule.Rule.{Rule}
use Rattle.rule_reader.specs.declared.sections.Parts.{Parts}
use Rattle.rule_reader.specs.Words.{Tok, NameTok, State, head, begun, at_start}
use Rattle.rule_reader.specs.Reading.{Read, ◌>>=◌, is_fit, name_fit, is_at, name_at, number_at, text_at}
use Rattle.rule_reader.specs.Verdict.{misses, is_bad, loose_starts, verdict, index_verdict, lines_verdict, graph_verdict}
use Rattle.rule_reader.specs.Sections.{rule_of, empty_parts, endrule_word, rule_word, tolfak_word, sections_at, name_of_rule_at, judged_rule, rule_at, rules_at, tolfak_at, file_at, reading}
use Rattle.rule_reader.specs.Grammar.{Limits, standard, Said, Index, words, ◌▹◌, done, many, at_most, name, number, text, rule_name, rule_said, Hits, Fitting, whole_rule, tolfak, Admits}
use Rattle.rule_reader.proofs.Good.{Good, Always, good_if, good_done, good_before, ◌▸◌, pure, seq, seq_before, ended, use_at, uses_of, after, bind_ok, ok_is, words_append}
use Rattle.rule_reader.proofs.GoodEntries.{good_name, good_number, good_text}
use Rattle.rule_reader.proofs.GoodLists.{name_head}
use Rattle.rule_reader.proofs.GoodMany.{done_words}
use Rattle.rule_reader.proofs.GoodSections.{good_sections, same_sections}
use Rattle.rule_reader.proofs.Within.{sections_in, name_in, body_in}

-- ---- the name of a rule

abbrev pub short_name : Bool → List ℕ × State → Read (List ℕ)
short_name long p = cond long (Err (TooMany p.1.rule 11)) (Ok p)

pub named_takes : (most : ℕ) (b : Bool) (p q : List ℕ × State) → ltb most (length p.0) ≡ b → short_name b p ≡ Ok q → (p ≡ q) × (length p.0 ≤ most)
named_takes most true p q t e = absurd cc
named_takes most false p q t e = (ok_is p q e, ltb-false most (length p.0) t)

good_rule_name : (most : Limits) → Good (List ℕ) Always (rule_name most) (name_in most)
unfolding rule_name name_in
good_rule_name most =
    record {
      takes = λ st v st2 e.
          let b = bind_ok (text_at st) (λ n. short_name (ltb (most 11) (length n.0)) n) (v, st2) e in
          let k = named_takes (most 11) (ltb (most 11) (length b.0.0)) b.0 (v, st2) refl b.2 in
          let t = good_text.takes st b.0.0 b.0.1 b.1 in
          subst (λ (p : List ℕ × State). (said : List Said) × (text said p.0 × (length p.0 ≤ most 11)) × (st.left ≡ words said ++ p.1.left) × (p.1 ≡ after st said p.1.left)) k.0 (t.0, (t.1, k.1), t.2, t.3);
      again = λ said v st more l f e.
          let short : ltb (most 11) (length v) ≡ false = le-ltb (most 11) (length v) l.1 in
          rw (good_text.again said v st more l.0 f e, short) refl;
    }

-- ---- a rule, whatever its indices

pub good_body : (most : Limits) → Good Rule Always (rule_said most) (body_in most)
unfolding body_in
good_body most = seq (good_name rule_word) (λ a. seq (good_rule_name most) (λ bytes. seq_before (good_sections most) (λ parts. seq (good_name endrule_word) (λ b. ended (rule_of bytes parts))) (λ parts said y more m f. name_head _ endrule_word said y more m)))

abbrev pub body : State → Read Rule
body = body_in standard

pub same_name : (st : State) → name_of_rule_at st ≡ name_in standard st
unfolding name_of_rule_at name_in
same_name st = refl

-- ---- indices that hit

none_some : (x : Use) → None ≡ Some x → ⊥
none_some x e = cc

find_first : (p : Use → Bool) (x : Use) (xs : List Use) (b : Bool) → p x ≡ b → find p (x ∷ xs) ≡ None → (b ≡ false) × (find p xs ≡ None)
find_first p x xs true t e = let some : find p (x ∷ xs) ≡ Some x = rw t refl in absurd (none_some x (sym e ∙ some))
find_first p x xs false t e = let later : find p (x ∷ xs) ≡ find p xs = rw t refl in (refl, sym later ∙ e)

find_later : (p : Use → Bool) (x : Use) (xs : List Use) → p x ≡ false → find p xs ≡ None → find p (x ∷ xs) ≡ None
find_later p x xs t e = rw t e

abbrev pub FindsNone : ℕ → ℕ → List Use → Type 0
FindsNone points new_points uses = find (is_bad points new_points) uses ≡ None

hit_first : (points new_points left : ℕ) (o : Option Index) (uses : List Use) → FindsNone points new_points (use_at left o ++ uses) → Hits points new_points o × FindsNone points new_points uses
hit_first points new_points left None uses e = (tt, e)
hit_first points new_points left (Some i) uses e = find_first (is_bad points new_points) (record { left = left; index = i.value; bound = i.bound }) uses (misses i.bound i.value points new_points) refl e

hit_later : (points new_points left : ℕ) (o : Option Index) (uses : List Use) → Hits points new_points o → FindsNone points new_points uses → FindsNone points new_points (use_at left o ++ uses)
hit_later points new_points left None uses h e = e
hit_later points new_points left (Some i) uses h e = find_later (is_bad points new_points) (record { left = left; index = i.value; bound = i.bound }) uses h e

pub hits_of : (points new_points : ℕ) (more : List Tok) (said : List Said) → FindsNone points new_points (uses_of more said) → AllByRecursion (λ s. Hits points new_points s.index) said
hits_of points new_points more [] e = tt
hits_of points new_points more (s ∷ said) e =
    let h = hit_first points new_points (suc (length (words said ++ more))) s.index (uses_of more said) e in
    (h.0, hits_of points new_points more said h.1)

of_hits : (points new_points : ℕ) (more : List Tok) (said : List Said) → AllByRecursion (λ s. Hits points new_points s.index) said → FindsNone points new_points (uses_of more said)
of_hits points new_points more [] h = refl
of_hits points new_points more (s ∷ said) h = hit_later points new_points (suc (length (words said ++ more))) s.index (uses_of more said) h.0 (of_hits points new_points more said h.1)

-- ---- a rule that fits

index_none : (number : ℕ) (rule : Rule) (left : ℕ) (o : Option Use) → index_verdict number rule left o ≡ None → (o ≡ None) × (lines_verdict number rule left ≡ None)
index_none number rule left None e = (refl, e)
index_none number rule left (Some u) e = absurd cc

fault_none : (f : Fault) → None ≡ Some f → ⊥
fault_none f e = cc

lines_none : (number : ℕ) (rule : Rule) (left : ℕ) (b : Bool) → eqb (length rule.lines) 0 ≡ b → lines_verdict number rule left ≡ None → (b ≡ false) × (graph_verdict number rule ≡ None)
lines_none number rule left true t e = let some : lines_verdict number rule left ≡ Some (BadIndex number left) = rw t refl in absurd (fault_none (BadIndex number left) (sym e ∙ some))
lines_none number rule left false t e = let later : lines_verdict number rule left ≡ graph_verdict number rule = rw t refl in (refl, sym later ∙ e)

graph_none : (number : ℕ) (rule : Rule) (b : Bool) → ltb 3 (loose_starts (length rule.points) rule.lines) ≡ b → graph_verdict number rule ≡ None → b ≡ false
graph_none number rule true t e = let some : graph_verdict number rule ≡ Some (TooLoose number) = rw t refl in absurd (fault_none (TooLoose number) (sym e ∙ some))
graph_none number rule false t e = refl

fits_by : (number left : ℕ) (more : List Tok) (said : List Said) (rule : Rule) → verdict number (uses_of more said) rule left ≡ None → Fitting said rule
unfolding verdict
fits_by number left more said rule e =
    let i = index_none number rule left (find (is_bad (length rule.points) (length rule.new_points)) (uses_of more said)) e in
    let l = lines_none number rule left (eqb (length rule.lines) 0) refl i.1 in
    let g = graph_none number rule (ltb 3 (loose_starts (length rule.points) rule.lines)) refl l.1 in
    let some : length rule.lines ≢ 0 = eqb-false (length rule.lines) 0 l.0 in
    record { indices = hits_of (length rule.points) (length rule.new_points) more said i.0; lines = omega arith; starts = ltb-false 3 (loose_starts (length rule.points) rule.lines) g }

some_lines : (n : ℕ) → 0 < n → n ≢ 0
some_lines n h e = omega arith

verdict_is : (number left : ℕ) (more : List Tok) (said : List Said) (rule : Rule) → Fitting said rule → verdict number (uses_of more said) rule left ≡ None
unfolding verdict
verdict_is number left more said rule fits =
    let none = of_hits (length rule.points) (length rule.new_points) more said fits.indices in
    let lines : eqb (length rule.lines) 0 ≡ false = ne_eqb (length rule.lines) 0 (some_lines (length rule.lines) fits.lines) in
    let starts : ltb 3 (loose_starts (length rule.points) rule.lines) ≡ false = le-ltb 3 (loose_starts (length rule.points) rule.lines) fits.starts in
    ap (index_verdict number rule left) none ∙ rw (lines, starts) refl

-- ---- a whole rule

judged_none : (o : Option Fault) (rule : Rule) (st : State) (p : Rule × State) → judged_rule o rule st ≡ Ok p → (o ≡ None) × ((rule, st) ≡ p)
judged_none None rule st p e = (refl, ok_is (rule, st) p e)
judged_none (Some f) rule st p e = absurd cc

-- what reading a rule goes through
pub record RuleSteps (st : State) (p : Rule × State) : Type 0 where
  pub whole : body st ≡ Ok p
  pub left : ℕ
  pub none : verdict p.1.rule p.1.uses p.0 left ≡ None

pub body_is : (st st1 st2 st3 st4 : State) (u w : Unit {0}) (n : List ℕ) (parts : Parts) → name_at rule_word st ≡ Ok (u, st1) → name_of_rule_at st1 ≡ Ok (n, st2) → sections_at 9 empty_parts st2 ≡ Ok (parts, st3) → name_at endrule_word st3 ≡ Ok (w, st4) → body st ≡ Ok (rule_of n parts, st4)
unfolding body_in ◌▸◌ pure
body_is st st1 st2 st3 st4 u w n parts a b c d = rw (a, sym (same_name st1) ∙ b, sym (same_sections 9 empty_parts st2) ∙ c, d) refl

rule_is : (st st1 st2 st3 st4 : State) (u w : Unit {0}) (n : List ℕ) (parts : Parts) → name_at rule_word st ≡ Ok (u, st1) → name_of_rule_at st1 ≡ Ok (n, st2) → sections_at 9 empty_parts st2 ≡ Ok (parts, st3) → name_at endrule_word st3 ≡ Ok (w, st4)
    → verdict st4.rule st4.uses (rule_of n parts) (length st3.left) ≡ None → rule_at st ≡ Ok (rule_of n parts, st4)
unfolding rule_at
rule_is st st1 st2 st3 st4 u w n parts a b c d none = rw (a, b, c, d) (ap (λ (o : Option Fault). judged_rule o (rule_of n parts) st4) none)

pub rule_steps : (st : State) (p : Rule × State) → rule_at st ≡ Ok p → RuleSteps st p
unfolding rule_at
rule_steps st p e =
    let a = bind_ok (name_at rule_word st) (λ a. name_of_rule_at a.1 >>= λ n. sections_at 9 empty_parts n.1 >>= λ s. name_at endrule_word s.1 >>= λ b. judged_rule (verdict b.1.rule b.1.uses (rule_of n.0 s.0) (length s.1.left)) (rule_of n.0 s.0) b.1) p e in
    let n = bind_ok (name_of_rule_at a.0.1) (λ n. sections_at 9 empty_parts n.1 >>= λ s. name_at endrule_word s.1 >>= λ b. judged_rule (verdict b.1.rule b.1.uses (rule_of n.0 s.0) (length s.1.left)) (rule_of n.0 s.0) b.1) p a.2 in
    let s = bind_ok (sections_at 9 empty_parts n.0.1) (λ s. name_at endrule_word s.1 >>= λ b. judged_rule (verdict b.1.rule b.1.uses (rule_of n.0.0 s.0) (length s.1.left)) (rule_of n.0.0 s.0) b.1) p n.2 in
    let b = bind_ok (name_at endrule_word s.0.1) (λ b. judged_rule (verdict b.1.rule b.1.uses (rule_of n.0.0 s.0.0) (length s.0.1.left)) (rule_of n.0.0 s.0.0) b.1) p s.2 in
    let rule : Rule = rule_of n.0.0 s.0.0 in
    let j = judged_none (verdict b.0.1.rule b.0.1.uses rule (length s.0.1.left)) rule b.0.1 p b.2 in
    let one : body st ≡ Ok (rule, b.0.1) = body_is st a.0.1 n.0.1 s.0.1 b.0.1 a.0.0 b.0.0 n.0.0 s.0.0 a.1 n.1 s.1 b.1 in
    subst (RuleSteps st) j.1 (record { whole = one; left = length s.0.1.left; none = j.0 })

rule_back : (st : State) (p : Rule × State) → body st ≡ Ok p → ((left : ℕ) → verdict p.1.rule p.1.uses p.0 left ≡ None) → rule_at st ≡ Ok p
unfolding body_in ◌▸◌ pure
rule_back st p e none =
    let a = bind_ok (name_at rule_word st) (λ a. name_in standard a.1 >>= λ n. sections_in standard 9 empty_parts n.1 >>= λ s. name_at endrule_word s.1 >>= λ b. Ok (rule_of n.0 s.0, b.1)) p e in
    let n = bind_ok (name_in standard a.0.1) (λ n. sections_in standard 9 empty_parts n.1 >>= λ s. name_at endrule_word s.1 >>= λ b. Ok (rule_of n.0 s.0, b.1)) p a.2 in
    let s = bind_ok (sections_in standard 9 empty_parts n.0.1) (λ s. name_at endrule_word s.1 >>= λ b. Ok (rule_of n.0.0 s.0, b.1)) p n.2 in
    let b = bind_ok (name_at endrule_word s.0.1) (λ b. Ok (rule_of n.0.0 s.0.0, b.1)) p s.2 in
    let rule : Rule = rule_of n.0.0 s.0.0 in
    let is : (rule, b.0.1) ≡ p = ok_is (rule, b.0.1) p b.2 in
    let fine : verdict b.0.1.rule b.0.1.uses rule (length s.0.1.left) ≡ None = subst (λ (q : Rule × State). verdict q.1.rule q.1.uses q.0 (length s.0.1.left) ≡ None) (sym is) (none (length s.0.1.left)) in
    rule_is st a.0.1 n.0.1 s.0.1 b.0.1 a.0.0 b.0.0 n.0.0 s.0.0 a.1 (same_name a.0.1 ∙ n.1) (same_sections 9 empty_parts n.0.1 ∙ s.1) b.1 fine ∙ ap (λ (q : Rule × State). Ok q) is

-- from the beginning of a rule on, where no index was used yet
pub rule_takes : (before number : ℕ) (st : State) (v : Rule) (st2 : State) → rule_at (begun number st) ≡ Ok (v, st2) → (said : List Said) × whole_rule before said v × (st.left ≡ words said ++ st2.left)
unfolding whole_rule
rule_takes before number st v st2 e =
    let r = rule_steps (begun number st) (v, st2) e in
    let t = (good_body standard).takes (begun number st) v st2 r.whole in
    let uses : st2.uses ≡ uses_of st2.left t.0 = ap (λ (s : State). s.uses) t.3 in
    let none : verdict st2.rule (uses_of st2.left t.0) v r.left ≡ None = subst (λ (us : List Use). verdict st2.rule us v r.left ≡ None) uses r.none in
    (t.0, (t.1, fits_by st2.rule r.left st2.left t.0 v none), t.2)

rule_again : (before number : ℕ) (said : List Said) (v : Rule) (st : State) (more : List Tok) → whole_rule before said v → st.left ≡ words said ++ more → rule_at (begun number st) ≡ Ok (v, after (begun number st) said more)
unfolding whole_rule
rule_again before number said v st more l left =
    let one = (good_body standard).again said v (begun number st) more l.0 tt left in
    rule_back (begun number st) (v, after (begun number st) said more) one (λ n. verdict_is number n more said v l.1)

-- ---- rules

abbrev pub is_rule : Option Tok → Bool
is_rule o = is_fit (name_fit rule_word o)

pub name_is : (n : List ℕ) → is_fit (name_fit n (Some (NameTok n))) ≡ true
name_is n = rw ((bytes_eq-Decides n n).1 refl) refl

pub rule_begins : (before : ℕ) (said : List Said) (v : Rule) (more : List Tok) → whole_rule before said v → is_rule (head (words said ++ more)) ≡ true
unfolding whole_rule
rule_begins before said v more l = ap is_rule (name_head _ rule_word said v more l.0) ∙ name_is rule_word

abbrev TakesRules : ℕ → ℕ → State → List Rule × State → Type 0
TakesRules before room st p = (said : List Said) × many whole_rule before said p.0 × (length p.0 ≤ room) × (st.left ≡ words said ++ p.1.left)

no_rules : (before room : ℕ) (st : State) → TakesRules before room st ([], st)
unfolding many
no_rules before room st = ([], refl, omega arith, refl)

one_rule : (before room : ℕ) (st st1 st2 : State) (r : Rule) (rs : List Rule) (a b : List Said) → whole_rule before a r → st.left ≡ words a ++ st1.left → many whole_rule (before + 1) b rs → length rs ≤ room → st1.left ≡ words b ++ st2.left → TakesRules before (suc room) st (r ∷ rs, st2)
unfolding many
one_rule before room st st1 st2 r rs a b la left1 lb few left2 =
    (a ++ b, (a, b, la, lb, refl), omega arith, left1 ∙ ap (λ (ts : List Tok). words a ++ ts) left2 ∙ sym (append_assoc (words a) (words b) st2.left) ∙ ap (λ (ts : List Tok). ts ++ st2.left) (sym (words_append a b)))

abbrev put_rule : Rule × State → List Rule × State → Read (List Rule)
put_rule r rs = Ok (r.0 ∷ rs.0, rs.1)

rules_step : (before room : ℕ) (b : Bool) (st : State) (p : List Rule × State) → ((st1 : State) (q : List Rule × State) → rules_at (before + 1) room st1 ≡ Ok q → TakesRules (before + 1) room st1 q)
    → cond b (rule_at (begun (before + 1) st) >>= λ r. rules_at (before + 1) room r.1 >>= put_rule r) (Ok ([], st)) ≡ Ok p → TakesRules before (suc room) st p
rules_step before room false st p others e = subst (TakesRules before (suc room) st) (ok_is ([], st) p e) (no_rules before (suc room) st)
rules_step before room true st p others e =
    let r = bind_ok (rule_at (begun (before + 1) st)) (λ r. rules_at (before + 1) room r.1 >>= put_rule r) p e in
    let rs = bind_ok (rules_at (before + 1) room r.0.1) (put_rule r.0) p r.2 in
    let t1 = rule_takes before (before + 1) st r.0.0 r.0.1 r.1 in
    let t2 = others r.0.1 rs.0 rs.1 in
    subst (TakesRules before (suc room) st) (ok_is (r.0.0 ∷ rs.0.0, rs.0.1) p rs.2) (one_rule before room st r.0.1 rs.0.1 r.0.0 rs.0.0 t1.0 t2.0 t1.1 t1.2 t2.1 t2.2 t2.3)

rules_none : (before : ℕ) (b : Bool) (st : State) (p : List Rule × State) → cond b (Err (TooMany (before + 1) 1)) (Ok ([], st)) ≡ Ok p → TakesRules before zero st p
rules_none before true st p e = absurd cc
rules_none before false st p e = subst (TakesRules before zero st) (ok_is ([], st) p e) (no_rules before zero st)

rules_take : (room before : ℕ) (st : State) (p : List Rule × State) → rules_at before room st ≡ Ok p → TakesRules before room st p
unfolding rules_at
rules_take zero before st p e = rules_none before (is_at rule_word st) st p e
rules_take (suc room) before st p e = rules_step before room (is_at rule_word st) st p (rules_take room (before + 1)) e

rules_again : (room before : ℕ) (said : List Said) (v : List Rule) (st : State) (more : List Tok) → many whole_rule before said v → length v ≤ room → is_rule (head more) ≡ false → st.left ≡ words said ++ more → (st2 : State) × (rules_at before room st ≡ Ok (v, st2)) × (st2.left ≡ more)
unfolding many rules_at
rules_again zero before said [] st more l few f left =
    let here : st.left ≡ more = left ∙ ap (λ (s : List Said). words s ++ more) l in
    let stop : is_at rule_word st ≡ false = ap (λ (ts : List Tok). is_rule (head ts)) here ∙ f in
    (st, rw stop refl, here)
rules_again (suc room) before said [] st more l few f left =
    let here : st.left ≡ more = left ∙ ap (λ (s : List Said). words s ++ more) l in
    let stop : is_at rule_word st ≡ false = ap (λ (ts : List Tok). is_rule (head ts)) here ∙ f in
    (st, rw stop refl, here)
rules_again zero before said (r ∷ rs) st more l few f left = absurd (omega arith)
rules_again (suc room) before said (r ∷ rs) st more l few f left =
    let a = l.0 in
    let b = l.1 in
    let left2 : st.left ≡ words a ++ (words b ++ more) = left ∙ ap (λ (s : List Said). words s ++ more) l.4 ∙ ap (λ (ts : List Tok). ts ++ more) (words_append a b) ∙ append_assoc (words a) (words b) more in
    let goes : is_at rule_word st ≡ true = ap (λ (ts : List Tok). is_rule (head ts)) left2 ∙ rule_begins before a r (words b ++ more) l.2 in
    let st1 : State = after (begun (before + 1) st) a (words b ++ more) in
    let one : rule_at (begun (before + 1) st) ≡ Ok (r, st1) = rule_again before (before + 1) a r st (words b ++ more) l.2 left2 in
    let two = rules_again room (before + 1) b rs st1 more l.3 (omega arith) f refl in
    (two.0, rw (goes, one, two.1) refl, two.2)

-- ---- a file

abbrev pub is_tolfak : Option Tok → Bool
is_tolfak o = is_fit (name_fit tolfak_word o)

abbrev pub NoTolfak : List Tok → Type 0
NoTolfak more = is_tolfak (head more) ≡ false

twin_tolfak : Good (Unit {0}) NoTolfak (name tolfak_word ▹ λ a. number 160000 ▹ λ n. done tt) (name_at tolfak_word ▸ λ a. number_at 160000 ▸ λ n. pure tt)
twin_tolfak = seq (good_name tolfak_word) (λ a. seq (good_number 160000) (λ n. good_before (Unit {0}) Always NoTolfak (done tt) (pure tt) (ended tt) (λ more f. tt)))

pub good_tolfak : Good (Unit {0}) NoTolfak tolfak tolfak_at
unfolding tolfak_at ◌▸◌ pure
good_tolfak = good_if (Unit {0}) NoTolfak (name tolfak_word ▹ λ a. number 160000 ▹ λ n. done tt) (done tt) is_tolfak (name_at tolfak_word ▸ λ a. number_at 160000 ▸ λ n. pure tt) (λ st. Ok (tt, st))
    twin_tolfak (good_before (Unit {0}) Always NoTolfak (done tt) (λ st. Ok (tt, st)) (good_done (Unit {0}) tt) (λ more f. tt))
    (λ said v more l f. ap is_tolfak (name_head _ tolfak_word said v more l) ∙ name_is tolfak_word)
    (λ said v more l f. ap (λ ts. is_tolfak (head ts)) (done_words tt said v more l) ∙ f)

pub ends_there : (b : Bool) (rules : List Rule) (st : State) (p : List Rule × State) → ltb 0 (length st.left) ≡ b → cond b (Err (Syntax (length st.left))) (Ok (rules, st)) ≡ Ok p → ((rules, st) ≡ p) × (st.left ≡ [])
ends_there true rules st p t e = absurd cc
ends_there false rules st p t e = (ok_is (rules, st) p e, nil_from_length st.left (omega (arith, ltb-false 0 (length st.left) t)))

pub file_takes : (left : List Tok) (rules : List Rule) (st : State) → reading left ≡ Ok (rules, st) → Admits left rules
unfolding file_at ◌▹◌ at_most
file_takes left rules st e =
    let a = bind_ok (tolfak_at (at_start left)) (λ a. rules_at 0 256 a.1 >>= λ r. cond (ltb 0 (length r.1.left)) (Err (Syntax (length r.1.left))) (Ok r)) (rules, st) e in
    let r = bind_ok (rules_at 0 256 a.0.1) (λ r. cond (ltb 0 (length r.1.left)) (Err (Syntax (length r.1.left))) (Ok r)) (rules, st) a.2 in
    let d = ends_there (ltb 0 (length r.0.1.left)) r.0.0 r.0.1 (rules, st) refl r.2 in
    let t1 = good_tolfak.takes (at_start left) a.0.0 a.0.1 a.1 in
    let t2 = rules_take 256 0 a.0.1 r.0 r.1 in
    let whole : left ≡ words (t1.0 ++ t2.0) = t1.2 ∙ ap (λ (ts : List Tok). words t1.0 ++ ts) (t2.3 ∙ ap (λ (ts : List Tok). words t2.0 ++ ts) d.1 ∙ append-nil (words t2.0)) ∙ sym (words_append t1.0 t2.0) in
    subst (λ (p : List Rule × State). Admits left p.0) d.0 (t1.0 ++ t2.0, sym whole, (a.0.0, t1.0, t2.0, t1.1, (t2.1, t2.2), refl))

-- behind `tolfak` or nothing a rule comes, or the end
pub rules_no_tolfak : (said : List Said) (v : List Rule) → many whole_rule 0 said v → NoTolfak (words said ++ [])
unfolding many whole_rule
rules_no_tolfak said [] l = ap (λ (s : List Said). is_tolfak (head (words s ++ []))) l
rules_no_tolfak said (r ∷ rs) l =
    let left : words said ++ [] ≡ words l.0 ++ (words l.1 ++ []) = ap (λ (s : List Said). words s ++ []) l.4 ∙ ap (λ (ts : List Tok). ts ++ []) (words_append l.0 l.1) ∙ append_assoc (words l.0) (words l.1) [] in
    ap (λ (ts : List Tok). is_tolfak (head ts)) left ∙ ap is_tolfak (name_head _ rule_word l.0 r (words l.1 ++ []) l.2.0)

pub file_again : (left : List Tok) (rules : List Rule) → Admits left rules → (st : State) × (reading left ≡ Ok (rules, st))
unfolding file_at ◌▹◌ at_most
file_again left rules admits =
    let l = admits.2 in
    let a = l.1 in
    let b = l.2 in
    let whole : left ≡ words a ++ (words b ++ []) = sym admits.1 ∙ ap words l.5 ∙ words_append a b ∙ ap (λ (ts : List Tok). words a ++ ts) (sym (append-nil (words b))) in
    let one : tolfak_at (at_start left) ≡ Ok (l.0, after (at_start left) a (words b ++ [])) = good_tolfak.again a l.0 (at_start left) (words b ++ []) l.3 (rules_no_tolfak b rules l.4.0) whole in
    let two = rules_again 256 0 b rules (after (at_start left) a (words b ++ [])) [] l.4.0 l.4.1 refl refl in
    let ends : ltb 0 (length two.0.left) ≡ false = ap (λ (ts : List Tok). ltb 0 (length ts)) two.2 in
    (two.0, rw (one, two.1, ends) refl)

-- a list of words is a file in one way at most
pub one_value : (left : List Tok) (a b : List Rule) → Admits left a → Admits left b → a ≡ b
one_value left a b p q =
    let x = file_again left a p in
    let y = file_again left b q in
    ap (λ (r : List Rule × State). r.0) (ok_is (a, x.0) (b, y.0) (sym x.1 ∙ y.1))
