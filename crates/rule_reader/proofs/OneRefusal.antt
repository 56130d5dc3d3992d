-- A text has one refusal.
--
-- Rules are read in one way: so of two places at which a text is refused one stands behind the other, and there the words up
-- to the first one lead on. What is read says how many rules end there, and each of these fits.
use Rattle.std.proofs.Common.{◌≡◌, ◌≢◌, ℕ, suc, ◌+◌, ◌<◌, ◌≤◌, Bool, true, false, eqb, ltb, List, [], ◌∷◌, ◌++◌, length, length-append, Option, Some, None, Result, Ok, Err, refl, sym, ap, subst, ◌∙◌, inl, inr, ◌⊎◌, append_assoc, arith}
use Rattle.std.specs.Prelude.{MatchResult}
use Rattle.std.specs.List.{AllByRecursion}
use Rattle.std.proofs.lemmas.Bool.{ltb-true, ltb-false, eqb-true, eqb-false}
use Rattle.std.proofs.lemmas.List.{append-nil, append_cancel_right, nil_from_length}
use Rattle.word_scan.proofs.Places.{Places, Here, Sooner, Later, places, split_front, one_last}
use Rattle.rule_reader.specs.declared.fault.RuleRefusal.{RuleRefusal}
use Rattle.rule_reader.specs.declared.fault.RuleRefusal.TheVariants.{Syntax, Number, TooMany, BadIndex, TooLoose, Memory}
use Rattle.rule_reader.specs.declared.reader.Use.{Use}
use Rattle.rule_reader.specs.declared.rule.Rule.{Rule}
use Rattle.rule_reader.specs.Words.{Tok, MarkTok, TextTok, NumberTok, NameTok, BadTok, State, head, at_start}
use Rattle.rule_reader.specs.Verdict.{loose_starts}
use Rattle.rule_reader.specs.Graph.{OneOfEach}
use Rattle.rule_reader.specs.Sections.{rule_word, endrule_word, tolfak_word, IsReading}
use Rattle.rule_reader.specs.Grammar.{Limits, standard, Said, Index, plain, words, ◌▹◌, done, either, many, at_most, name, number, tolfak, rule_said, whole_rule, Fitting, Derives, Admits}
use Rattle.rule_reader.specs.Refusals.{kind_of, StandsAt, AtRule, AtEntry, AtTerm, AtName, AsPast, IsBut, IsBegun, OneMore, IsFront, IsRead, Reaches, Ends, Hit, Refuses}
use Rattle.rule_reader.proofs.Good.{use_at, uses_of, after, ok_is, words_append}
use Rattle.rule_reader.proofs.GoodLists.{name_head}
use Rattle.rule_reader.proofs.GoodFile.{good_body, good_tolfak, is_tolfak, NoTolfak, rules_no_tolfak, file_takes}
use Rattle.rule_reader.proofs.Starts.{starts_counted}
use Rattle.rule_reader.proofs.LineEnds.{rule_lines, some_points}
use Rattle.rule_reader.proofs.ToldMany.{many_grow}
use Rattle.rule_reader.proofs.Refused.{words_length, rule_nonempty, rule_last, begun_in, is_refused}

-- ---- words are said in one way

-- uses of indices at words behind this one
abbrev Behind : ℕ → List Use → Type 0
Behind n uses = AllByRecursion (λ u. u.left < n) uses

behind_next : (n : ℕ) (uses : List Use) → Behind n uses → Behind (suc n) uses
behind_next n [] b = tt
behind_next n (u ∷ uses) b = (omega (arith, b.0), behind_next n uses b.1)

behind_at : (n : ℕ) (o : Option Index) (uses : List Use) → Behind n uses → Behind (suc n) (use_at n o ++ uses)
behind_at n None uses b = behind_next n uses b
behind_at n (Some i) uses b = (omega arith, behind_next n uses b)

uses_behind : (more : List Tok) (said : List Said) → Behind (suc (length (words said ++ more))) (uses_of more said)
uses_behind more [] = tt
uses_behind more (s ∷ said) = behind_at (suc (length (words said ++ more))) s.index (uses_of more said) (uses_behind more said)

some_use : (i j : Index) (n : ℕ) (us vs : List Use) → use_at n (Some i) ++ us ≡ use_at n (Some j) ++ vs → (Some i ≡ Some j) × (us ≡ vs)
some_use i j n us vs e =
    let first : record { left = n; index = i.value; bound = i.bound } ≡ record { left = n; index = j.value; bound = j.bound } = use_heads (record { left = n; index = i.value; bound = i.bound }) (record { left = n; index = j.value; bound = j.bound }) us vs e in
    (ap (λ (u : Use). Some (record { bound = u.bound; value = u.index })) first, use_tails (record { left = n; index = i.value; bound = i.bound }) (record { left = n; index = j.value; bound = j.bound }) us vs e)
  where
    use_heads : (x y : Use) (xs ys : List Use) → x ∷ xs ≡ y ∷ ys → x ≡ y
    use_heads x y xs ys e = cc

    use_tails : (x y : Use) (xs ys : List Use) → x ∷ xs ≡ y ∷ ys → xs ≡ ys
    use_tails x y xs ys e = cc

no_use : (i : Index) (n : ℕ) (us vs : List Use) → Behind n us → us ≡ use_at n (Some i) ++ vs → ⊥
no_use i n us vs b e = let there : Behind n (use_at n (Some i) ++ vs) = subst (λ (x : List Use). Behind n x) e b in omega (arith, there.0)

one_use : (n : ℕ) (o p : Option Index) (us vs : List Use) → Behind n us → Behind n vs → use_at n o ++ us ≡ use_at n p ++ vs → (o ≡ p) × (us ≡ vs)
one_use n None None us vs b c e = (refl, e)
one_use n None (Some j) us vs b c e = absurd (no_use j n us vs b e)
one_use n (Some i) None us vs b c e = absurd (no_use i n vs us c (sym e))
one_use n (Some i) (Some j) us vs b c e = some_use i j n us vs e

said_is : (s t : Said) → s.word ≡ t.word → s.index ≡ t.index → s ≡ t
said_is s t e f = ap (λ (w : Tok). record { word = w; index = s.index }) e ∙ ap (λ (o : Option Index). record { word = t.word; index = o }) f

pub said_once : (a b : List Said) (more : List Tok) → words a ≡ words b → uses_of more a ≡ uses_of more b → a ≡ b
said_once [] [] more e f = refl
said_once [] (t ∷ b) more e f = absurd cc
said_once (s ∷ a) [] more e f = absurd cc
said_once (s ∷ a) (t ∷ b) more e f =
    let first : s.word ≡ t.word = tok_heads s.word t.word (words a) (words b) e in
    let rest : words a ≡ words b = tok_tails s.word t.word (words a) (words b) e in
    let n = suc (length (words a ++ more)) in
    let here : suc (length (words b ++ more)) ≡ n = ap (λ (ts : List Tok). suc (length (ts ++ more))) (sym rest) in
    let second : Behind n (uses_of more b) = subst (λ (m : ℕ). Behind m (uses_of more b)) here (uses_behind more b) in
    let one = one_use n s.index t.index (uses_of more a) (uses_of more b) (uses_behind more a) second (f ∙ ap (λ (m : ℕ). use_at m t.index ++ uses_of more b) here) in
    said_joins s t a b (said_is s t first one.0) (said_once a b more rest one.1)
  where
    tok_heads : (x y : Tok) (xs ys : List Tok) → x ∷ xs ≡ y ∷ ys → x ≡ y
    tok_heads x y xs ys e = cc

    tok_tails : (x y : Tok) (xs ys : List Tok) → x ∷ xs ≡ y ∷ ys → xs ≡ ys
    tok_tails x y xs ys e = cc

    said_joins : (x y : Said) (xs ys : List Said) → x ≡ y → xs ≡ ys → x ∷ xs ≡ y ∷ ys
    said_joins x y xs ys e f = cc

-- one rule, and the number at the front
same_rule : (a b : List Said) (v w : Rule) (c d : List Tok) → rule_said standard a v → rule_said standard b w → words a ++ c ≡ words b ++ d → (a ≡ b) × (v ≡ w) × (c ≡ d)
same_rule a b v w c d l m e =
    let st : State = at_start (words a ++ c) in
    let x = (good_body standard).again a v st c l tt refl in
    let y = (good_body standard).again b w st d m tt e in
    let both = ok_is (v, after st a c) (w, after st b d) (sym x ∙ y) in
    let left : c ≡ d = ap (λ (p : Rule × State). p.1.left) both in
    let front : words a ≡ words b = append_cancel_right (words a) (words b) c (e ∙ ap (λ (ts : List Tok). words b ++ ts) (sym left)) in
    let uses : uses_of c a ≡ uses_of d b = ap (λ (p : Rule × State). p.1.uses) both in
    (said_once a b c front (uses ∙ ap (λ (ts : List Tok). uses_of ts b) (sym left)), ap (λ (p : Rule × State). p.0) both, left)

same_tolfak : (a b : List Said) (u w : Unit {0}) (c d : List Tok) → tolfak a u → tolfak b w → NoTolfak c → NoTolfak d → words a ++ c ≡ words b ++ d → (words a ≡ words b) × (c ≡ d)
same_tolfak a b u w c d l m f g e =
    let st : State = at_start (words a ++ c) in
    let x = good_tolfak.again a u st c l f refl in
    let y = good_tolfak.again b w st d m g e in
    let left : c ≡ d = ap (λ (p : Unit {0} × State). p.1.left) (ok_is (u, after st a c) (w, after st b d) (sym x ∙ y)) in
    (append_cancel_right (words a) (words b) c (e ∙ ap (λ (ts : List Tok). words b ++ ts) (sym left)), left)

-- ---- rules one after another

words_split : (s f b : List Said) (x : List Tok) → s ≡ f ++ b → words s ++ x ≡ words f ++ (words b ++ x)
words_split s f b x e = ap (λ (t : List Said). words t ++ x) e ∙ ap (λ (ts : List Tok). ts ++ x) (words_append f b) ∙ append_assoc (words f) (words b) x

many_from : (k j : ℕ) (said : List Said) (rules : List Rule) → many whole_rule k said rules → many whole_rule j said rules
unfolding many whole_rule
many_from k j said [] l = l
many_from k j said (r ∷ rules) l = (l.0, l.1, l.2, many_from (k + 1) (j + 1) l.1 rules l.3, l.4)

-- a longer list of rules is the shorter one, and others behind it
record Longer (sa : List Said) (ra : List Rule) (sb : List Said) (rb : List Rule) (x y : List Tok) : Type 0 where
  pub rest : List Said
  pub rules : List Rule
  pub fit : many whole_rule 0 rest rules
  pub said : sb ≡ sa ++ rest
  pub count : length rb ≡ length ra + length rules
  pub left : x ≡ words rest ++ y

longer : (k : ℕ) (sa : List Said) (ra : List Rule) (sb : List Said) (rb : List Rule) (x y : List Tok) → many whole_rule k sa ra → many whole_rule k sb rb → words sa ++ x ≡ words sb ++ y → length ra ≤ length rb → Longer sa ra sb rb x y
unfolding many whole_rule
longer k sa [] sb rb x y l m e few = record {
  rest = sb;
  rules = rb;
  fit = many_from k 0 sb rb m;
  said = ap (λ (s : List Said). s ++ sb) (sym l);
  count = omega arith;
  left = ap (λ (s : List Said). words s ++ x) (sym l) ∙ e;
}
longer k sa (r ∷ ra) sb [] x y l m e few = absurd (omega (arith, few))
longer k sa (r ∷ ra) sb (q ∷ rb) x y l m e few =
    let split : words l.0 ++ (words l.1 ++ x) ≡ words m.0 ++ (words m.1 ++ y) = sym (words_split sa l.0 l.1 x l.4) ∙ e ∙ words_split sb m.0 m.1 y m.4 in
    let one = same_rule l.0 m.0 r q (words l.1 ++ x) (words m.1 ++ y) l.2.0 m.2.0 split in
    let h = longer (k + 1) l.1 ra m.1 rb x y l.3 m.3 one.2 (omega (arith, few)) in
    record {
      rest = h.rest;
      rules = h.rules;
      fit = h.fit;
      said = m.4 ∙ ap (λ (s : List Said). s ++ m.1) (sym one.0) ∙ ap (λ (s : List Said). l.0 ++ s) h.said ∙ sym (append_assoc l.0 l.1 h.rest) ∙ ap (λ (s : List Said). s ++ h.rest) (sym l.4);
      count = omega (arith, h.count);
      left = h.left;
    }

-- a rule that stands where rules that fit begin is the first of them
first_fits : (t : List Said) (v : Rule) (z : List Tok) (rest : List Said) (rules : List Rule) (y : List Tok) → rule_said standard t v → many whole_rule 0 rest rules → 0 < length rules → words t ++ z ≡ words rest ++ y → Fitting t v × ((between : List Said) × (z ≡ words between ++ y))
unfolding many whole_rule
first_fits t v z rest [] y l m some e = absurd (omega (arith, some))
first_fits t v z rest (r ∷ rules) y l m some e =
    let one = same_rule t m.0 v r z (words m.1 ++ y) l m.2.0 (e ∙ words_split rest m.0 m.1 y m.4) in
    (subst (λ (s : List Said). Fitting s v) (sym one.0) (subst (λ (q : Rule). Fitting m.0 q) (sym one.1) m.2.1), (m.1, one.2))

none_first : (rest : List Said) (rules : List Rule) → many whole_rule 0 rest rules → length rules ≡ 0 → rest ≡ []
unfolding many
none_first rest [] m none = m
none_first rest (r ∷ rules) m none = absurd (omega (arith, none))

some_words : (rest : List Said) (rules : List Rule) → many whole_rule 0 rest rules → 0 < length rules → 0 < length (words rest)
unfolding many whole_rule
some_words rest [] m some = absurd (omega (arith, some))
some_words rest (r ∷ rules) m some =
    let first : 0 < length (words m.0) = rule_nonempty standard m.0 r m.2.0 in
    omega (arith, first, ap (λ (s : List Said). length (words s)) m.4, ap length (words_append m.0 m.1), length-append (words m.0) (words m.1))

-- ---- no number where a rule begins

rule_quiet : (t : List Said) (v : Rule) (z : List Tok) → rule_said standard t v → NoTolfak (words t ++ z)
rule_quiet t v z l = ap is_tolfak (name_head _ rule_word t v z l)

rules_quiet : (s : List Said) (rules : List Rule) (z : List Tok) → many whole_rule 0 s rules → 0 < length rules → NoTolfak (words s ++ z)
unfolding many whole_rule
rules_quiet s [] z m some = absurd (omega (arith, some))
rules_quiet s (r ∷ rules) z m some = ap (λ (ts : List Tok). is_tolfak (head ts)) (words_split s m.0 m.1 z m.4) ∙ rule_quiet m.0 r (words m.1 ++ z) m.2.0

before_rule : (s : List Said) (rules : List Rule) (t : List Said) (v : Rule) (z : List Tok) → many whole_rule 0 s rules → rule_said standard t v → NoTolfak (words s ++ (words t ++ z))
unfolding many
before_rule s [] t v z m l = ap (λ (x : List Said). is_tolfak (head (words x ++ (words t ++ z)))) m ∙ rule_quiet t v z l
before_rule s (r ∷ rules) t v z m l = rules_quiet s (r ∷ rules) (words t ++ z) m (omega arith)

-- ---- words that lead on

-- words within a text: the number at the front, so many rules that fit, and a rule more or the end
record Course (ended : ℕ) (u : List Tok) : Type 0 where
  pub unit : Unit {0}
  pub first : List Said
  pub number : tolfak first unit
  pub said : List Said
  pub rules : List Rule
  pub fit : many whole_rule 0 said rules
  pub count : ended ≡ length rules
  pub next : List Said
  pub more : List Tok
  pub same : u ++ more ≡ words first ++ (words said ++ words next)
  pub last : ((next ≡ []) × (more ≡ [])) ⊎ ((v : Rule) × rule_said standard next v × (0 < length more))
  pub among : 0 < ended → length (words first ++ words said) ≤ length u

front_words : (front a s : List Said) → front ≡ a ++ s → words front ≡ words a ++ words s
front_words front a s e = ap words e ∙ words_append a s

course : (ended : ℕ) (u : List Tok) → IsFront ended u → Course ended u
unfolding ◌▹◌ at_most
course ended u (inl w) =
    let l = w.admitted.2 in
    let all : u ≡ words l.1 ++ words l.2 = sym w.admitted.1 ∙ front_words w.admitted.0 l.1 l.2 l.5 in
    record {
      unit = l.0;
      first = l.1;
      number = l.3;
      said = l.2;
      rules = w.rules;
      fit = l.4.0;
      count = w.count;
      next = [];
      more = [];
      same = append-nil u ∙ all ∙ ap (λ (ts : List Tok). words l.1 ++ ts) (sym (append-nil (words l.2)));
      last = inl (refl, refl);
      among = λ some. omega (arith, ap length all);
    }
course ended u (inr p) =
    let l = p.one.fit in
    let front : words p.one.front ≡ words l.1 ++ words l.2 = front_words p.one.front l.1 l.2 l.5 in
    record {
      unit = l.0;
      first = l.1;
      number = l.3;
      said = l.2;
      rules = p.one.rules;
      fit = l.4;
      count = p.one.count;
      next = p.one.said;
      more = p.more;
      same = p.one.same ∙ ap (λ (ts : List Tok). ts ++ words p.one.said) front ∙ append_assoc (words l.1) (words l.2) (words p.one.said);
      last = inr (p.one.rule, p.one.says, p.some);
      among = λ some. omega (arith, p.among some, ap length front, words_length p.one.front);
    }

-- behind its number a course goes on with a rule, or ends
course_quiet : (ended : ℕ) (u : List Tok) (c : Course ended u) → NoTolfak (words c.said ++ words c.next)
course_quiet ended u c =
    elim c.last [
      | inl end ↦ ap (λ (s : List Said). is_tolfak (head (words c.said ++ words s))) end.0 ∙ rules_no_tolfak c.said c.rules c.fit
      | inr more ↦ ap (λ (ts : List Tok). is_tolfak (head (words c.said ++ ts))) (sym (append-nil (words c.next))) ∙ before_rule c.said c.rules c.next more.0 [] c.fit more.1
    ]

-- fewer rules end among words only where the words end sooner
earlier : (e f : ℕ) (u : List Tok) → Course e u → Course f u → e < f → ⊥
earlier e f u c d less =
    let some : 0 < f = omega (arith, less) in
    let cut = split_front (words d.first ++ words d.said) (words d.next) u d.more (d.same ∙ sym (append_assoc (words d.first) (words d.said) (words d.next))) (d.among some) in
    let r = cut.0 ++ c.more in
    let whole : words d.first ++ (words d.said ++ r) ≡ u ++ c.more =
    sym (append_assoc (words d.first) (words d.said) r) ∙ sym (append_assoc (words d.first ++ words d.said) cut.0 c.more) ∙ ap (λ (ts : List Tok). ts ++ c.more) (sym cut.1) in
    let there : 0 < length d.rules = omega (arith, some, d.count) in
    let tol = same_tolfak c.first d.first c.unit d.unit (words c.said ++ words c.next) (words d.said ++ r) c.number d.number (course_quiet e u c) (rules_quiet d.said d.rules r d.fit there) (sym c.same ∙ sym whole) in
    let h = longer 0 c.said c.rules d.said d.rules (words c.next) r c.fit d.fit tol.1 (omega (arith, less, c.count, d.count)) in
    let more : 0 < length h.rules = omega (arith, less, c.count, d.count, h.count) in
    elim c.last [
      | inl end ↦
          let none : [] ≡ words h.rest ++ r = ap words (sym end.0) ∙ h.left in
          omega (arith, ap length none, length-append (words h.rest) r, some_words h.rest h.rules h.fit more)
      | inr on ↦
          let m = first_fits c.next on.0 [] h.rest h.rules r on.1 h.fit more (append-nil (words c.next) ∙ h.left) in
          omega (arith, ap length m.1.1, length-append (words m.1.0) r, length-append cut.0 c.more, on.2)
    ]

less_or : (a b : ℕ) → (a < b) ⊎ (b ≤ a)
less_or a b = by (ltb a b) refl
  where
    by : (t : Bool) → ltb a b ≡ t → (a < b) ⊎ (b ≤ a)
    by true e = inl (ltb-true a b e)
    by false e = inr (ltb-false a b e)

one_course : (e f : ℕ) (u : List Tok) → Course e u → Course f u → e ≡ f
one_course e f u c d =
    elim (less_or e f) [
      | inl less ↦ absurd (earlier e f u c d less)
      | inr rest ↦ elim (less_or f e) [
        | inl less ↦ absurd (earlier f e u d c less)
        | inr same ↦ omega (arith, rest, same)
      ]
    ]

-- ---- the comma behind a term

-- the words of rules end with `endrule`, and those before them with a number
ends_rules : (s : List Said) (rules : List Rule) → many whole_rule 0 s rules → 0 < length rules → (p : List Tok) × (words s ≡ p ++ NameTok endrule_word ∷ [])
unfolding many whole_rule
ends_rules s [] m some = absurd (omega (arith, some))
ends_rules s (r ∷ []) m some =
    let l = rule_last standard m.0 r m.2.0 in
    let all : words s ≡ words m.0 = ap words m.4 ∙ words_append m.0 m.1 ∙ ap (λ (x : List Said). words m.0 ++ words x) m.3 ∙ append-nil (words m.0) in
    (l.0, all ∙ l.1)
ends_rules s (r ∷ q ∷ rules) m some =
    let l = ends_rules m.1 (q ∷ rules) (many_from 1 0 m.1 (q ∷ rules) m.3) (omega arith) in
    (words m.0 ++ l.0, ap words m.4 ∙ words_append m.0 m.1 ∙ ap (λ (ts : List Tok). words m.0 ++ ts) l.1 ∙ sym (append_assoc (words m.0) l.0 (NameTok endrule_word ∷ [])))

no_comma_tolfak : (a : List Said) (u : Unit {0}) (g : List Tok) → tolfak a u → words a ≡ g ++ MarkTok 44 ∷ [] → ⊥
unfolding either ◌▹◌ name number done
no_comma_tolfak a u g (inl l) e =
    let n = l.4 in
    let d = n.4 in
    let bytes = n.3.0 in
    let two : words a ≡ (NameTok tolfak_word ∷ []) ++ NumberTok bytes ∷ [] = ap words (l.5 ∙ ap (λ (s : List Said). s ++ l.2) l.3 ∙ ap (λ (s : List Said). plain (NameTok tolfak_word) ∷ s) (n.5 ∙ ap (λ (s : List Said). s ++ n.2) n.3.1 ∙ ap (λ (s : List Said). plain (NumberTok bytes) ∷ s) d.0)) in
    other bytes (one_last (NameTok tolfak_word ∷ []) (NumberTok bytes) g (MarkTok 44) (sym two ∙ e)).1
  where
    other : (bytes : List ℕ) → NumberTok bytes ≡ MarkTok 44 → ⊥
    other bytes e = cc
no_comma_tolfak a u g (inr l) e =
    let none : [] ≡ g ++ MarkTok 44 ∷ [] = ap words (sym l.0) ∙ e in
    omega (arith, ap length none, length-append g (MarkTok 44 ∷ []))

no_comma : (a s : List Said) (u : Unit {0}) (rules : List Rule) (g : List Tok) → tolfak a u → many whole_rule 0 s rules → words a ++ words s ≡ g ++ MarkTok 44 ∷ [] → ⊥
unfolding many
no_comma a s u [] g l m e = no_comma_tolfak a u g l (sym (append-nil (words a)) ∙ ap (λ (x : List Said). words a ++ words x) (sym m) ∙ e)
no_comma a s u (r ∷ rules) g l m e =
    let p = ends_rules s (r ∷ rules) m (omega arith) in
    let last : (words a ++ p.0) ++ NameTok endrule_word ∷ [] ≡ g ++ MarkTok 44 ∷ [] = append_assoc (words a) p.0 (NameTok endrule_word ∷ []) ∙ ap (λ (ts : List Tok). words a ++ ts) (sym p.1) ∙ e in
    other (one_last (words a ++ p.0) (NameTok endrule_word) g (MarkTok 44) last).1
  where
    other : NameTok endrule_word ≡ MarkTok 44 → ⊥
    other e = cc

-- words that lead on with a comma lead on without it, to as many rules
without_comma : (e : ℕ) (g : List Tok) → Course e (g ++ MarkTok 44 ∷ []) → Course e g
without_comma e g c = by c.last
  where
    same : g ++ (MarkTok 44 ∷ c.more) ≡ words c.first ++ (words c.said ++ words c.next)
    same = sym (append_assoc g (MarkTok 44 ∷ []) c.more) ∙ c.same

    front : words c.first ++ (words c.said ++ words c.next) ≡ (words c.first ++ words c.said) ++ words c.next
    front = sym (append_assoc (words c.first) (words c.said) (words c.next))

    -- rules that end with the comma are none
    among : 0 < e → length (words c.first ++ words c.said) ≤ length g
    among some =
        elim (less_or (length g) (length (words c.first ++ words c.said))) [
          | inl longer ↦
              let cut = split_front (words c.first ++ words c.said) (words c.next) (g ++ MarkTok 44 ∷ []) c.more (c.same ∙ front) (c.among some) in
              let count : length g + 1 ≡ length (words c.first ++ words c.said) + length cut.0 = sym (length-append g (MarkTok 44 ∷ [])) ∙ ap length cut.1 ∙ length-append (words c.first ++ words c.said) cut.0 in
              let none : cut.0 ≡ [] = nil_from_length cut.0 (omega (arith, count, longer)) in
              let all : words c.first ++ words c.said ≡ g ++ MarkTok 44 ∷ [] = sym (append-nil (words c.first ++ words c.said)) ∙ ap (λ (ts : List Tok). (words c.first ++ words c.said) ++ ts) (sym none) ∙ sym cut.1 in
              absurd (no_comma c.first c.said c.unit c.rules g c.number c.fit all)
          | inr rest ↦ rest
        ]

    by : ((c.next ≡ []) × (c.more ≡ [])) ⊎ ((v : Rule) × rule_said standard c.next v × (0 < length c.more)) → Course e g
    by (inl end) =
        let all : words c.first ++ words c.said ≡ g ++ MarkTok 44 ∷ [] =
        sym (append-nil (words c.first ++ words c.said)) ∙ ap (λ (s : List Said). (words c.first ++ words c.said) ++ words s) (sym end.0) ∙ sym front ∙ sym c.same ∙ ap (λ (ts : List Tok). (g ++ MarkTok 44 ∷ []) ++ ts) end.1 ∙ append-nil (g ++ MarkTok 44 ∷ []) in
        absurd (no_comma c.first c.said c.unit c.rules g c.number c.fit all)
    by (inr on) = record {
      unit = c.unit;
      first = c.first;
      number = c.number;
      said = c.said;
      rules = c.rules;
      fit = c.fit;
      count = c.count;
      next = c.next;
      more = MarkTok 44 ∷ c.more;
      same = same;
      last = inr (on.0, on.1, omega arith);
      among = among;
    }

-- the words up to the comma, if there is one behind the last term that a row may have
record Read (ended : ℕ) (u : List Tok) : Type 0 where
  pub front : List Tok
  pub course : Course ended front
  pub same : (u ≡ front) ⊎ (u ≡ front ++ MarkTok 44 ∷ [])

read_course : (ended : ℕ) (u : List Tok) → IsRead ended u → Read ended u
read_course ended u (inl f) = record { front = u; course = course ended u f; same = inl refl }
read_course ended u (inr c) = record { front = c.0; course = course ended c.0 c.2; same = inr c.1 }

-- as many rules end among words that are read, however they lead on
one_ended : (e f : ℕ) (u : List Tok) → IsRead e u → IsRead f u → e ≡ f
one_ended e f u (inl a) (inl b) = one_course e f u (course e u a) (course f u b)
one_ended e f u (inl a) (inr b) = one_course e f b.0 (without_comma e b.0 (subst (Course e) b.1 (course e u a))) (course f b.0 b.2)
one_ended e f u (inr a) (inl b) = one_course e f a.0 (course e a.0 a.2) (without_comma f a.0 (subst (Course f) a.1 (course f u b)))
one_ended e f u (inr a) (inr b) =
    let same = one_last a.0 (MarkTok 44) b.0 (MarkTok 44) (sym a.1 ∙ b.1) in
    one_course e f b.0 (subst (Course e) same.0 (course e a.0 a.2)) (course f b.0 b.2)

-- ---- a rule that doesn't fit

-- it ends among no words that are read
no_end : (e f : ℕ) (u text r : List Tok) (one : OneMore e text) → (Fitting one.said one.rule → ⊥) → Course f u → u ≡ text ++ r → ⊥
unfolding ◌▹◌
no_end e f u text r one wrong c same =
    let l = one.fit in
    let z = r ++ c.more in
    let front : words one.front ≡ words l.1 ++ words l.2 = front_words one.front l.1 l.2 l.5 in
    let whole : u ++ c.more ≡ words l.1 ++ (words l.2 ++ (words one.said ++ z)) =
    ap (λ (ts : List Tok). ts ++ c.more) (same ∙ ap (λ (ts : List Tok). ts ++ r) (one.same ∙ ap (λ (ts : List Tok). ts ++ words one.said) front)) ∙ regroup (words l.1) (words l.2) (words one.said) r c.more in
    let tol = same_tolfak l.1 c.first l.0 c.unit (words l.2 ++ (words one.said ++ z)) (words c.said ++ words c.next) l.3 c.number (before_rule l.2 one.rules one.said one.rule z l.4 one.says) (course_quiet f u c) (sym whole ∙ c.same) in
    elim (less_or (length one.rules) (length c.rules)) [
      | inl less ↦
          let h = longer 0 l.2 one.rules c.said c.rules (words one.said ++ z) (words c.next) l.4 c.fit tol.1 (omega (arith, less)) in
          wrong (first_fits one.said one.rule z h.rest h.rules (words c.next) one.says h.fit (omega (arith, less, h.count)) h.left).0
      | inr most ↦
          let h = longer 0 c.said c.rules l.2 one.rules (words c.next) (words one.said ++ z) c.fit l.4 (sym tol.1) most in
          too_long h.rest h.rules h.fit (words c.next) h.left c.last
    ]
  where
    regroup : (a b t r m : List Tok) → (((a ++ b) ++ t) ++ r) ++ m ≡ a ++ (b ++ (t ++ (r ++ m)))
    regroup a b t r m = simp append_assoc

    some : 0 < length (words one.said)
    some = rule_nonempty standard one.said one.rule one.says

    -- behind its last rule the course has no whole rule
    by_rules : (rest : List Said) (rules : List Rule) → many whole_rule 0 rest rules → (v : Rule) → rule_said standard c.next v → 0 < length c.more → words c.next ++ [] ≡ words rest ++ (words one.said ++ (r ++ c.more)) → ⊥
    by_rules rest [] m v says there e =
        let none : rest ≡ [] = none_first rest [] m refl in
        let one_rule = same_rule c.next one.said v one.rule [] (r ++ c.more) says one.says (e ∙ ap (λ (s : List Said). words s ++ (words one.said ++ (r ++ c.more))) none) in
        omega (arith, ap length one_rule.2, length-append r c.more, there)
    by_rules rest (q ∷ rules) m v says there e =
        let f = first_fits c.next v [] rest (q ∷ rules) (words one.said ++ (r ++ c.more)) says m (omega arith) e in
        omega (arith, ap length f.1.1, length-append (words f.1.0) (words one.said ++ (r ++ c.more)), length-append (words one.said) (r ++ c.more), some)

    too_long : (rest : List Said) (rules : List Rule) → many whole_rule 0 rest rules → (left : List Tok) → words c.next ≡ words rest ++ (words one.said ++ (r ++ c.more)) → ((c.next ≡ []) × (c.more ≡ [])) ⊎ ((v : Rule) × rule_said standard c.next v × (0 < length c.more)) → ⊥
    too_long rest rules m left e (inl end) =
        let none : [] ≡ words rest ++ (words one.said ++ (r ++ c.more)) = ap words (sym end.0) ∙ e in
        omega (arith, ap length none, length-append (words rest) (words one.said ++ (r ++ c.more)), length-append (words one.said) (r ++ c.more), some)
    too_long rest rules m left e (inr on) = by_rules rest rules m on.0 on.1 on.2 (append-nil (words c.next) ∙ e)

no_end_read : (e f : ℕ) (u text r : List Tok) (one : OneMore e text) → (Fitting one.said one.rule → ⊥) → IsRead f u → u ≡ text ++ r → ⊥
no_end_read e f u text r one wrong (inl a) same = no_end e f u text r one wrong (course f u a) same
no_end_read e f u text r one wrong (inr a) same =
    elim (less_or (length a.0) (length text)) [
      | inl longer ↦
          let count : length a.0 + 1 ≡ length text + length r = sym (length-append a.0 (MarkTok 44 ∷ [])) ∙ ap length (sym a.1 ∙ same) ∙ length-append text r in
          let none : r ≡ [] = nil_from_length r (omega (arith, count, longer)) in
          let l = rule_last standard one.said one.rule one.says in
          let last : (words one.front ++ l.0) ++ NameTok endrule_word ∷ [] ≡ a.0 ++ MarkTok 44 ∷ [] =
          append_assoc (words one.front) l.0 (NameTok endrule_word ∷ []) ∙ ap (λ (ts : List Tok). words one.front ++ ts) (sym l.1) ∙ sym one.same ∙ sym (append-nil text) ∙ ap (λ (ts : List Tok). text ++ ts) (sym none) ∙ sym same ∙ a.1 in
          other (one_last (words one.front ++ l.0) (NameTok endrule_word) a.0 (MarkTok 44) last).1
      | inr most ↦
          let cut = split_front text r a.0 (MarkTok 44 ∷ []) (sym a.1 ∙ same) most in
          no_end e f a.0 text cut.0 one wrong (course f a.0 a.2) cut.1
    ]
  where
    other : NameTok endrule_word ≡ MarkTok 44 → ⊥
    other e = cc

-- two rules that don't fit are one
record SameEnd (e f : ℕ) (s t : List Tok) (one : OneMore e s) (two : OneMore f t) : Type 0 where
  pub ended : e ≡ f
  pub said : one.said ≡ two.said
  pub rule : one.rule ≡ two.rule
  pub front : length one.front ≡ length two.front
  pub text : length s ≡ length t

same_end : (e f : ℕ) (s t x y : List Tok) (one : OneMore e s) (two : OneMore f t) → (Fitting one.said one.rule → ⊥) → (Fitting two.said two.rule → ⊥) → s ++ x ≡ t ++ y → SameEnd e f s t one two
unfolding ◌▹◌
same_end e f s t x y one two wrong worse same =
    let l = one.fit in
    let m = two.fit in
    let a : s ++ x ≡ words l.1 ++ (words l.2 ++ (words one.said ++ x)) = ap (λ (ts : List Tok). ts ++ x) (one.same ∙ ap (λ (ts : List Tok). ts ++ words one.said) (front_words one.front l.1 l.2 l.5)) ∙ regroup (words l.1) (words l.2) (words one.said) x in
    let b : t ++ y ≡ words m.1 ++ (words m.2 ++ (words two.said ++ y)) = ap (λ (ts : List Tok). ts ++ y) (two.same ∙ ap (λ (ts : List Tok). ts ++ words two.said) (front_words two.front m.1 m.2 m.5)) ∙ regroup (words m.1) (words m.2) (words two.said) y in
    let tol = same_tolfak l.1 m.1 l.0 m.0 (words l.2 ++ (words one.said ++ x)) (words m.2 ++ (words two.said ++ y)) l.3 m.3 (before_rule l.2 one.rules one.said one.rule x l.4 one.says) (before_rule m.2 two.rules two.said two.rule y m.4 two.says) (sym a ∙ same ∙ b) in
    elim (less_or (length two.rules) (length one.rules)) [
      | inl less ↦
          let h = longer 0 m.2 two.rules l.2 one.rules (words two.said ++ y) (words one.said ++ x) m.4 l.4 (sym tol.1) (omega (arith, less)) in
          absurd (worse (first_fits two.said two.rule y h.rest h.rules (words one.said ++ x) two.says h.fit (omega (arith, less, h.count)) h.left).0)
      | inr most ↦
          let h = longer 0 l.2 one.rules m.2 two.rules (words one.said ++ x) (words two.said ++ y) l.4 m.4 tol.1 most in
          alike tol.0 h.rest h.rules h.fit h.said h.count h.left
    ]
  where
    regroup : (a b t r : List Tok) → ((a ++ b) ++ t) ++ r ≡ a ++ (b ++ (t ++ r))
    regroup a b t r = simp append_assoc

    alike : words one.fit.1 ≡ words two.fit.1 → (rest : List Said) (rules : List Rule) → many whole_rule 0 rest rules → two.fit.2 ≡ one.fit.2 ++ rest → length two.rules ≡ length one.rules + length rules → words one.said ++ x ≡ words rest ++ (words two.said ++ y) → SameEnd e f s t one two
    alike first rest [] fit said count left =
        let none : rest ≡ [] = none_first rest [] fit refl in
        let r = same_rule one.said two.said one.rule two.rule x y one.says two.says (left ∙ ap (λ (z : List Said). words z ++ (words two.said ++ y)) none) in
        let second : two.fit.2 ≡ one.fit.2 = said ∙ ap (λ (z : List Said). one.fit.2 ++ z) none ∙ append-nil one.fit.2 in
        let fronts : words one.front ≡ words two.front = front_words one.front one.fit.1 one.fit.2 one.fit.5 ∙ ap (λ (ts : List Tok). ts ++ words one.fit.2) first ∙ ap (λ (z : List Said). words two.fit.1 ++ words z) (sym second) ∙ sym (front_words two.front two.fit.1 two.fit.2 two.fit.5) in
        let texts : s ≡ t = one.same ∙ ap (λ (ts : List Tok). ts ++ words one.said) fronts ∙ ap (λ (z : List Said). words two.front ++ words z) r.0 ∙ sym two.same in
        record { ended = omega (arith, one.count, two.count, count); said = r.0; rule = r.1; front = sym (words_length one.front) ∙ ap length fronts ∙ words_length two.front; text = ap length texts }
    alike first rest (q ∷ rules) fit said count left = absurd (wrong (first_fits one.said one.rule x rest (q ∷ rules) (words two.said ++ y) one.says fit (omega arith) left).0)

-- ---- words at which the reading stops

begun_front : (most : Limits) (u r : List Tok) → IsBegun most (u ++ r) → IsBegun most u
begun_front most u r b = (r ++ b.0, b.1, subst (λ (ts : List Tok). Derives most ts b.1) (append_assoc u r b.0) b.2)

more_begun : (e : ℕ) (text : List Tok) → OneMore e text → IsBegun standard text
more_begun e text one = subst (IsBegun standard) (sym one.same) (begun_in standard (λ s v l. l) one.front one.rules one.fit one.few (words one.said) ([], one.said, one.rule, one.says, sym (append-nil (words one.said))))

whole_derives : (u : List Tok) (rules : List Rule) → Admits u rules → Derives standard u rules
unfolding ◌▹◌ at_most whole_rule
whole_derives u rules a =
    let l = a.2 in
    let grown = many_grow whole_rule (λ k. rule_said standard) (λ k s v w. w.0) 0 l.2 rules l.4.0 in
    (a.0, a.1, (l.0, l.1, l.2, l.3, (grown, l.4.1), l.5))

whole_begun : (u : List Tok) (rules : List Rule) → Admits u rules → IsBegun standard u
whole_begun u rules a = ([], rules, subst (λ (ts : List Tok). Derives standard ts rules) (sym (append-nil u)) (whole_derives u rules a))

front_begun : (e : ℕ) (u : List Tok) → IsFront e u → IsBegun standard u
front_begun e u (inl w) = whole_begun u w.rules w.admitted
front_begun e u (inr p) = begun_front standard u p.more (more_begun e (u ++ p.more) p.one)

-- with the word no text begins within the limits, and with a comma none at all
abbrev Halts : List Tok → Tok → Type 0
Halts before word = (IsBegun standard (before ++ word ∷ []) → ⊥) × (word ≡ MarkTok 44 → (most : Limits) → IsBegun most (before ++ word ∷ []) → ⊥)

-- so it is not among words that are read
halts : (e : ℕ) (before : List Tok) (word : Tok) (r u : List Tok) → Halts before word → IsRead e u → u ≡ (before ++ word ∷ []) ++ r → ⊥
halts e before word r u h (inl a) same = h.0 (begun_front standard (before ++ word ∷ []) r (subst (IsBegun standard) same (front_begun e u a)))
halts e before word r u h (inr a) same =
    elim (less_or (length a.0) (length (before ++ word ∷ []))) [
      | inl longer ↦
          let count : length a.0 + 1 ≡ length (before ++ word ∷ []) + length r = sym (length-append a.0 (MarkTok 44 ∷ [])) ∙ ap length (sym a.1 ∙ same) ∙ length-append (before ++ word ∷ []) r in
          let none : r ≡ [] = nil_from_length r (omega (arith, count, longer)) in
          let whole : u ≡ before ++ word ∷ [] = same ∙ ap (λ (ts : List Tok). (before ++ word ∷ []) ++ ts) none ∙ append-nil (before ++ word ∷ []) in
          let comma = one_last before word a.0 (MarkTok 44) (sym whole ∙ a.1) in
          h.1 comma.1 a.3.0 (subst (IsBegun a.3.0) whole a.3.2)
      | inr most ↦
          let cut = split_front (before ++ word ∷ []) r a.0 (MarkTok 44 ∷ []) (sym a.1 ∙ same) most in
          h.0 (begun_front standard (before ++ word ∷ []) cut.0 (subst (IsBegun standard) cut.1 (front_begun e a.0 a.2)))
    ]

-- ---- of what kind a refusal at a word is

abbrev KindAt : List Tok → Tok → ℕ → ℕ → RuleRefusal → Type 0
KindAt before word at ended (Syntax n) = (n ≡ at) × ((other : Tok) → kind_of other ≡ kind_of word → (most : Limits) → IsBegun most (before ++ other ∷ []) → ⊥)
KindAt before word at ended (Number n) = (n ≡ at) × (bytes : List ℕ) × (word ≡ NumberTok bytes) × ((most : Limits) → IsBegun most (before ++ word ∷ []) → ⊥) × (other : List ℕ) × IsFront ended (before ++ NumberTok other ∷ [])
KindAt before word at ended (TooMany number what) = (number ≡ ended + 1) × StandsAt what word × ((other : Tok) → AsPast what word other → (most : Limits) → most what ≡ standard what → IsBegun most (before ++ other ∷ []) → ⊥)
    × (other : Tok) × (kind_of other ≡ kind_of word) × ((most : Limits) × IsBut what most × IsBegun most (before ++ other ∷ []))
KindAt before word at ended (BadIndex number n) = ⊥
KindAt before word at ended (TooLoose number) = ⊥
KindAt before word at ended Memory = ⊥

-- no limit is passed at a comma
no_comma_past : (what : ℕ) (word : Tok) → StandsAt what word → word ≡ MarkTok 44 → ⊥
no_comma_past what word (AtRule is here) e = let f : NameTok rule_word ≡ MarkTok 44 = sym here ∙ e in cc
no_comma_past what word (AtEntry some few here) e = marks 40 44 refl refl (sym here ∙ e)
  where
    marks : (a b : ℕ) → a ≡ 40 → b ≡ 44 → MarkTok a ≡ MarkTok b → ⊥
    marks a b first second f = let same : a ≡ b = cc in omega (arith, same, first, second)
no_comma_past what word (AtTerm bytes is here) e = let f : NumberTok bytes ≡ MarkTok 44 = sym here ∙ e in cc
no_comma_past what word (AtName bytes is here) e = let f : TextTok bytes ≡ MarkTok 44 = sym here ∙ e in cc

kind_halts : (before : List Tok) (word : Tok) (at ended : ℕ) (e : RuleRefusal) → KindAt before word at ended e → Halts before word
kind_halts before word at ended (Syntax n) k = (k.1 word refl standard, λ comma. k.1 word refl)
kind_halts before word at ended (Number n) k = (k.3 standard, λ comma. k.3)
kind_halts before word at ended (TooMany number what) k = (k.2 word (inl refl) standard refl, λ comma. absurd (no_comma_past what word k.1 comma))
kind_halts before word at ended (BadIndex number n) k = absurd k
kind_halts before word at ended (TooLoose number) k = absurd k
kind_halts before word at ended Memory k = absurd k

-- a limit at a number is that of terms
number_limit : (what : ℕ) (word : Tok) (bytes : List ℕ) → StandsAt what word → word ≡ NumberTok bytes → what ≡ 10
number_limit what word bytes (AtRule is here) e = let f : NameTok rule_word ≡ NumberTok bytes = sym here ∙ e in absurd cc
number_limit what word bytes (AtEntry some few here) e = let f : MarkTok 40 ≡ NumberTok bytes = sym here ∙ e in absurd cc
number_limit what word bytes (AtTerm other is here) e = is
number_limit what word bytes (AtName other is here) e = let f : TextTok other ≡ NumberTok bytes = sym here ∙ e in absurd cc

same_mark : (b : ℕ) (other : Tok) → kind_of other ≡ MarkTok b → other ≡ MarkTok b
same_mark b (MarkTok c) e = e
same_mark b (TextTok bytes) e = absurd cc
same_mark b (NumberTok bytes) e = absurd cc
same_mark b (NameTok bytes) e = absurd cc
same_mark b BadTok e = absurd cc

-- the limits that are passed at a word are one
one_what : (before : List Tok) (word : Tok) (at ended number other what which : ℕ) → KindAt before word at ended (TooMany number what) → KindAt before word at ended (TooMany other which) → what ≡ which
one_what before word at ended number other what which k m = by k.1 m.1
  where
    kinds : {A : Type 0} (t u : Tok) → word ≡ t → word ≡ u → (t ≡ u → ⊥) → A
    kinds t u e f differ = absurd (differ (sym e ∙ f))

    entries : word ≡ MarkTok 40 → (eqb what which ≡ true) ⊎ (eqb what which ≡ false) → what ≡ which
    entries here (inl same) = eqb-true what which same
    entries here (inr apart) =
        let past : k.3 ≡ word = same_mark 40 k.3 (k.4 ∙ ap kind_of here) ∙ sym here in
        let agree : k.5.0 which ≡ standard which = k.5.1 which (λ (e : which ≡ what). eqb-false what which apart (sym e)) in
        absurd (m.2 k.3 (inl past) k.5.0 agree k.5.2)

    truth : (b : Bool) → (b ≡ true) ⊎ (b ≡ false)
    truth true = inl refl
    truth false = inr refl

    by : StandsAt what word → StandsAt which word → what ≡ which
    by (AtRule is here) (AtRule too there) = is ∙ sym too
    by (AtRule is here) (AtEntry some few there) = kinds (NameTok rule_word) (MarkTok 40) here there (λ e. cc)
    by (AtRule is here) (AtTerm bytes too there) = kinds (NameTok rule_word) (NumberTok bytes) here there (λ e. cc)
    by (AtRule is here) (AtName bytes too there) = kinds (NameTok rule_word) (TextTok bytes) here there (λ e. cc)
    by (AtEntry some few here) (AtRule too there) = kinds (MarkTok 40) (NameTok rule_word) here there (λ e. cc)
    by (AtEntry some few here) (AtEntry more less there) = entries here (truth (eqb what which))
    by (AtEntry some few here) (AtTerm bytes too there) = kinds (MarkTok 40) (NumberTok bytes) here there (λ e. cc)
    by (AtEntry some few here) (AtName bytes too there) = kinds (MarkTok 40) (TextTok bytes) here there (λ e. cc)
    by (AtTerm bytes is here) (AtRule too there) = kinds (NumberTok bytes) (NameTok rule_word) here there (λ e. cc)
    by (AtTerm bytes is here) (AtEntry some few there) = kinds (NumberTok bytes) (MarkTok 40) here there (λ e. cc)
    by (AtTerm bytes is here) (AtTerm others too there) = is ∙ sym too
    by (AtTerm bytes is here) (AtName others too there) = kinds (NumberTok bytes) (TextTok others) here there (λ e. cc)
    by (AtName bytes is here) (AtRule too there) = kinds (TextTok bytes) (NameTok rule_word) here there (λ e. cc)
    by (AtName bytes is here) (AtEntry some few there) = kinds (TextTok bytes) (MarkTok 40) here there (λ e. cc)
    by (AtName bytes is here) (AtTerm others too there) = kinds (TextTok bytes) (NumberTok others) here there (λ e. cc)
    by (AtName bytes is here) (AtName others too there) = is ∙ sym too

-- with another number a text begins, and so the number passes no limit
number_or_limit : (before : List Tok) (word : Tok) (at ended n number what : ℕ) → KindAt before word at ended (Number n) → KindAt before word at ended (TooMany number what) → ⊥
number_or_limit before word at ended n number what k m =
    let ten = number_limit what word k.1 m.1 k.2 in
    let alike : kind_of (NumberTok k.4) ≡ kind_of word = ap kind_of (sym k.2) in
    m.2 (NumberTok k.4) (inr (ten, alike)) standard refl (front_begun ended (before ++ NumberTok k.4 ∷ []) k.5)

number_or_syntax : (before : List Tok) (word : Tok) (at ended n l : ℕ) → KindAt before word at ended (Syntax n) → KindAt before word at ended (Number l) → ⊥
number_or_syntax before word at ended n l k m = k.1 (NumberTok m.4) (ap kind_of (sym m.2)) standard (front_begun ended (before ++ NumberTok m.4 ∷ []) m.5)

one_kind : (before : List Tok) (word : Tok) (at ended : ℕ) (e f : RuleRefusal) → KindAt before word at ended e → KindAt before word at ended f → e ≡ f
one_kind before word at ended (Syntax n) (Syntax l) p q = ap (λ (m : ℕ). Syntax m) (p.0 ∙ sym q.0)
one_kind before word at ended (Syntax n) (Number l) p q = absurd (number_or_syntax before word at ended n l p q)
one_kind before word at ended (Syntax n) (TooMany number what) p q = absurd (p.1 q.3 q.4 q.5.0 q.5.2)
one_kind before word at ended (Number n) (Syntax l) p q = absurd (number_or_syntax before word at ended l n q p)
one_kind before word at ended (Number n) (Number l) p q = ap (λ (m : ℕ). Number m) (p.0 ∙ sym q.0)
one_kind before word at ended (Number n) (TooMany number what) p q = absurd (number_or_limit before word at ended n number what p q)
one_kind before word at ended (TooMany number what) (Syntax l) p q = absurd (q.1 p.3 p.4 p.5.0 p.5.2)
one_kind before word at ended (TooMany number what) (Number l) p q = absurd (number_or_limit before word at ended l number what q p)
one_kind before word at ended (TooMany number what) (TooMany other which) p q =
    ap (λ (n : ℕ). TooMany n what) (p.0 ∙ sym q.0) ∙ ap (λ (n : ℕ). TooMany other n) (one_what before word at ended number other what which p q)
one_kind before word at ended (BadIndex number n) f p q = absurd p
one_kind before word at ended (TooLoose number) f p q = absurd p
one_kind before word at ended Memory f p q = absurd p
one_kind before word at ended e (BadIndex number n) p q = absurd q
one_kind before word at ended e (TooLoose number) p q = absurd q
one_kind before word at ended e Memory p q = absurd q

-- ---- why a rule doesn't fit

-- its first index that names no point that it may name is word number `at`, where so many words stand before the rule
record FirstBad (front : ℕ) (said : List Said) (rule : Rule) (at : ℕ) : Type 0 where
  pub before : List Said
  pub index : Said
  pub after : List Said
  pub same : said ≡ before ++ (index ∷ after)
  pub hits : AllByRecursion (Hit rule) before
  pub miss : Hit rule index → ⊥
  pub place : at ≡ front + length before + 1

-- so many words stand before the rule, and so many up to its end
abbrev Wrong : ℕ → ℕ → List Said → Rule → ℕ → RuleRefusal → Type 0
Wrong front text said rule number (Syntax n) = ⊥
Wrong front text said rule number (Number n) = ⊥
Wrong front text said rule number (TooMany n what) = ⊥
Wrong front text said rule number (BadIndex n at) = (n ≡ number) × (FirstBad front said rule at ⊎ (AllByRecursion (Hit rule) said × (rule.lines ≡ []) × (at ≡ text)))
Wrong front text said rule number (TooLoose n) = (n ≡ number) × AllByRecursion (Hit rule) said × (0 < length rule.lines) × ((starts : List ℕ) × OneOfEach (length rule.points) rule.lines starts × (4 < length starts))
Wrong front text said rule number Memory = ⊥

all_hit : (rule : Rule) (before : List Said) (index : Said) (after : List Said) → AllByRecursion (Hit rule) (before ++ (index ∷ after)) → Hit rule index
all_hit rule [] index after all = all.0
all_hit rule (s ∷ before) index after all = all_hit rule before index after all.1

bad_hit : (front : ℕ) (said : List Said) (rule : Rule) (at : ℕ) → FirstBad front said rule at → AllByRecursion (Hit rule) said → ⊥
bad_hit front said rule at b all = b.miss (all_hit rule b.before b.index b.after (subst (AllByRecursion (Hit rule)) b.same all))

one_bad : (front : ℕ) (said : List Said) (rule : Rule) (at other : ℕ) → FirstBad front said rule at → FirstBad front said rule other → at ≡ other
one_bad front said rule at other a b =
    elim (places a.before a.index a.after b.before b.index b.after (sym a.same ∙ b.same)) [
      | Here p q ↦ a.place ∙ ap (λ (s : List Said). front + length s + 1) p ∙ sym b.place
      | Sooner rest p ↦ absurd (a.miss (all_hit rule a.before a.index rest (subst (AllByRecursion (Hit rule)) (p ∙ append_assoc a.before (a.index ∷ []) rest) b.hits)))
      | Later rest p ↦ absurd (b.miss (all_hit rule b.before b.index rest (subst (AllByRecursion (Hit rule)) (p ∙ append_assoc b.before (b.index ∷ []) rest) a.hits)))
    ]

no_lines : (rule : Rule) → rule.lines ≡ [] → 0 < length rule.lines → ⊥
no_lines rule none some = omega (arith, ap length none, some)

one_wrong : (front text : ℕ) (said : List Said) (rule : Rule) (number : ℕ) (e f : RuleRefusal) → Wrong front text said rule number e → Wrong front text said rule number f → e ≡ f
one_wrong front text said rule number (BadIndex n at) (BadIndex m other) p q = ap (λ (k : ℕ). BadIndex k at) (p.0 ∙ sym q.0) ∙ ap (λ (k : ℕ). BadIndex m k) (by p.1 q.1)
  where
    by : FirstBad front said rule at ⊎ (AllByRecursion (Hit rule) said × (rule.lines ≡ []) × (at ≡ text)) → FirstBad front said rule other ⊎ (AllByRecursion (Hit rule) said × (rule.lines ≡ []) × (other ≡ text)) → at ≡ other
    by (inl a) (inl b) = one_bad front said rule at other a b
    by (inl a) (inr b) = absurd (bad_hit front said rule at a b.0)
    by (inr a) (inl b) = absurd (bad_hit front said rule other b a.0)
    by (inr a) (inr b) = a.2 ∙ sym b.2
one_wrong front text said rule number (BadIndex n at) (TooLoose m) (same, inl a) q = absurd (bad_hit front said rule at a q.1)
one_wrong front text said rule number (BadIndex n at) (TooLoose m) (same, inr a) q = absurd (no_lines rule a.1 q.2)
one_wrong front text said rule number (TooLoose n) (BadIndex m at) p (same, inl a) = absurd (bad_hit front said rule at a p.1)
one_wrong front text said rule number (TooLoose n) (BadIndex m at) p (same, inr a) = absurd (no_lines rule a.1 p.2)
one_wrong front text said rule number (TooLoose n) (TooLoose m) p q = ap (λ (k : ℕ). TooLoose k) (p.0 ∙ sym q.0)
one_wrong front text said rule number (Syntax n) f p q = absurd p
one_wrong front text said rule number (Number n) f p q = absurd p
one_wrong front text said rule number (TooMany n what) f p q = absurd p
one_wrong front text said rule number Memory f p q = absurd p
one_wrong front text said rule number e (Syntax n) p q = absurd q
one_wrong front text said rule number e (Number n) p q = absurd q
one_wrong front text said rule number e (TooMany n what) p q = absurd q
one_wrong front text said rule number e Memory p q = absurd q

wrong_misfits : (front text : ℕ) (said : List Said) (rule : Rule) (number : ℕ) (e : RuleRefusal) → rule_said standard said rule → Wrong front text said rule number e → Fitting said rule → ⊥
wrong_misfits front text said rule number (BadIndex n at) says (same, inl a) fits = bad_hit front said rule at a fits.indices
wrong_misfits front text said rule number (BadIndex n at) says (same, inr a) fits = no_lines rule a.1 fits.lines
wrong_misfits front text said rule number (TooLoose n) says p fits =
    let points = length rule.points in
    let go = rule_lines standard points (length rule.new_points) said rule says p.1 in
    let count : loose_starts points rule.lines + 1 ≡ length p.3.0 = starts_counted points rule.lines p.3.0 (some_points points rule.lines go p.2) go p.3.1 in
    omega (arith, count, p.3.2, fits.starts)
wrong_misfits front text said rule number (Syntax n) says p fits = absurd p
wrong_misfits front text said rule number (Number n) says p fits = absurd p
wrong_misfits front text said rule number (TooMany n what) says p fits = absurd p
wrong_misfits front text said rule number Memory says p fits = absurd p

-- ---- why words are refused

record AtWord (text : List Tok) (e : RuleRefusal) : Type 0 where
  pub at : ℕ
  pub ended : ℕ
  pub word : Tok
  pub here : Reaches text at ended word
  pub kind : KindAt here.before word at ended e

record AtEnd (text : List Tok) (e : RuleRefusal) : Type 0 where
  pub ended : ℕ
  pub is : e ≡ Syntax (length text + 1)
  pub read : IsRead ended text
  pub stop : (most : Limits) (rules : List Rule) → Derives most text rules → ⊥

record AtRuleEnd (text : List Tok) (e : RuleRefusal) : Type 0 where
  pub number : ℕ
  pub rule : Ends text number
  pub kind : Wrong (length rule.one.front) (length rule.text) rule.one.said rule.one.rule number e

data Reason (text : List Tok) (e : RuleRefusal) : Type 0 where
  ByWord : AtWord text e → Reason text e
  ByEnd : AtEnd text e → Reason text e
  ByRule : AtRuleEnd text e → Reason text e

reason : (text : List Tok) (e : RuleRefusal) → e ≢ Memory → Refuses text e → Reason text e
reason text (Syntax n) named (inl m) = ByWord (record { at = n; ended = m.ended; word = m.word; here = m.here; kind = (refl, m.stop) })
reason text (Syntax n) named (inr m) = ByEnd (record { ended = m.ended; is = ap (λ (k : ℕ). Syntax k) m.place; read = m.read; stop = m.stop })
reason text (Number n) named r = ByWord (record { at = n; ended = r.ended; word = NumberTok r.bytes; here = r.here; kind = (refl, r.bytes, refl, r.stop, r.other, r.fits) })
reason text (TooMany number what) named r = ByWord (record { at = r.at; ended = r.ended; word = r.word; here = r.here; kind = (r.rule, r.stands, r.stop, r.other, r.alike, r.begins) })
reason text (BadIndex number n) named (inl m) = ByRule (record { number = number; rule = m.rule; kind = (refl, inl (record { before = m.before; index = m.index; after = m.after; same = m.same; hits = m.hits; miss = m.miss; place = m.place })) })
reason text (BadIndex number n) named (inr m) = ByRule (record { number = number; rule = m.rule; kind = (refl, inr (m.hits, m.none, m.place)) })
reason text (TooLoose number) named m = ByRule (record { number = number; rule = m.rule; kind = (refl, m.hits, m.lines, (m.starts, m.each, m.more)) })
reason text Memory named r = absurd (named refl)

same_word : (text : List Tok) (e f : RuleRefusal) → AtWord text e → AtWord text f → e ≡ f
same_word text e f a b = by (places a.here.before a.word a.here.after b.here.before b.word b.here.after (sym a.here.same ∙ b.here.same))
  where
    here : a.here.before ≡ b.here.before → a.word ≡ b.word → e ≡ f
    here p q =
        let place : a.at ≡ b.at = a.here.place ∙ ap (λ (ts : List Tok). length ts + 1) p ∙ sym b.here.place in
        let ended = one_ended a.ended b.ended b.here.before (subst (IsRead a.ended) p a.here.read) b.here.read in
        let one : KindAt b.here.before a.word a.at a.ended e = subst (λ (ts : List Tok). KindAt ts a.word a.at a.ended e) p a.kind in
        let two : KindAt b.here.before b.word a.at a.ended e = subst (λ (t : Tok). KindAt b.here.before t a.at a.ended e) q one in
        let three : KindAt b.here.before b.word b.at a.ended e = subst (λ (n : ℕ). KindAt b.here.before b.word n a.ended e) place two in
        one_kind b.here.before b.word b.at b.ended e f (subst (λ (n : ℕ). KindAt b.here.before b.word b.at n e) ended three) b.kind

    by : Places a.here.before a.word b.here.before b.word → e ≡ f
    by (Here p q) = here p q
    by (Sooner rest p) = absurd (halts b.ended a.here.before a.word rest b.here.before (kind_halts a.here.before a.word a.at a.ended e a.kind) b.here.read p)
    by (Later rest p) = absurd (halts a.ended b.here.before b.word rest a.here.before (kind_halts b.here.before b.word b.at b.ended f b.kind) a.here.read p)

-- no word halts words that are read to the end
word_or_read : (text : List Tok) (e : RuleRefusal) (ended : ℕ) → AtWord text e → IsRead ended text → ⊥
word_or_read text e ended a read = halts ended a.here.before a.word a.here.after text (kind_halts a.here.before a.word a.at a.ended e a.kind) read (a.here.same ∙ sym (append_assoc a.here.before (a.word ∷ []) a.here.after))

misfits_at : (text : List Tok) (e : RuleRefusal) (a : AtRuleEnd text e) → Fitting a.rule.one.said a.rule.one.rule → ⊥
misfits_at text e a = wrong_misfits (length a.rule.one.front) (length a.rule.text) a.rule.one.said a.rule.one.rule a.number e a.rule.one.says a.kind

rule_or_read : (text : List Tok) (e : RuleRefusal) (ended : ℕ) → AtRuleEnd text e → IsRead ended text → ⊥
rule_or_read text e ended a read = no_end_read a.rule.ended ended text a.rule.text a.rule.after a.rule.one (misfits_at text e a) read a.rule.same

-- a rule that doesn't fit ends behind no word that halts, and no word halts behind it
word_or_rule : (text : List Tok) (e f : RuleRefusal) → AtWord text e → AtRuleEnd text f → ⊥
word_or_rule text e f a b =
    let halt = kind_halts a.here.before a.word a.at a.ended e a.kind in
    let here : b.rule.text ++ b.rule.after ≡ (a.here.before ++ a.word ∷ []) ++ a.here.after = sym b.rule.same ∙ a.here.same ∙ sym (append_assoc a.here.before (a.word ∷ []) a.here.after) in
    elim (less_or (length b.rule.text) (length (a.here.before ++ a.word ∷ []))) [
      | inl sooner ↦
          let few : length b.rule.text ≤ length a.here.before = omega (arith, sooner, length-append a.here.before (a.word ∷ [])) in
          let cut = split_front b.rule.text b.rule.after a.here.before (a.word ∷ a.here.after) (sym a.here.same ∙ b.rule.same) few in
          no_end_read b.rule.ended a.ended a.here.before b.rule.text cut.0 b.rule.one (misfits_at text f b) a.here.read cut.1
      | inr later ↦
          let cut = split_front (a.here.before ++ a.word ∷ []) a.here.after b.rule.text b.rule.after here later in
          halt.0 (begun_front standard (a.here.before ++ a.word ∷ []) cut.0 (subst (IsBegun standard) cut.1 (more_begun b.rule.ended b.rule.text b.rule.one)))
    ]

same_rule_end : (text : List Tok) (e f : RuleRefusal) → AtRuleEnd text e → AtRuleEnd text f → e ≡ f
same_rule_end text e f a b =
    let s = same_end a.rule.ended b.rule.ended a.rule.text b.rule.text a.rule.after b.rule.after a.rule.one b.rule.one (misfits_at text e a) (misfits_at text f b) (sym a.rule.same ∙ b.rule.same) in
    let number : a.number ≡ b.number = a.rule.place ∙ ap (λ (n : ℕ). n + 1) s.ended ∙ sym b.rule.place in
    let said = b.rule.one.said in
    let one : Wrong (length b.rule.one.front) (length a.rule.text) a.rule.one.said a.rule.one.rule a.number e = subst (λ (n : ℕ). Wrong n (length a.rule.text) a.rule.one.said a.rule.one.rule a.number e) s.front a.kind in
    let two : Wrong (length b.rule.one.front) (length b.rule.text) a.rule.one.said a.rule.one.rule a.number e = subst (λ (n : ℕ). Wrong (length b.rule.one.front) n a.rule.one.said a.rule.one.rule a.number e) s.text one in
    let three : Wrong (length b.rule.one.front) (length b.rule.text) said a.rule.one.rule a.number e = subst (λ (x : List Said). Wrong (length b.rule.one.front) (length b.rule.text) x a.rule.one.rule a.number e) s.said two in
    let four : Wrong (length b.rule.one.front) (length b.rule.text) said b.rule.one.rule a.number e = subst (λ (x : Rule). Wrong (length b.rule.one.front) (length b.rule.text) said x a.number e) s.rule three in
    let five : Wrong (length b.rule.one.front) (length b.rule.text) said b.rule.one.rule b.number e = subst (λ (n : ℕ). Wrong (length b.rule.one.front) (length b.rule.text) said b.rule.one.rule n e) number four in
    one_wrong (length b.rule.one.front) (length b.rule.text) said b.rule.one.rule b.number e f five b.kind

same_reason : (text : List Tok) (e f : RuleRefusal) → Reason text e → Reason text f → e ≡ f
same_reason text e f (ByWord a) (ByWord b) = same_word text e f a b
same_reason text e f (ByWord a) (ByEnd b) = absurd (word_or_read text e b.ended a b.read)
same_reason text e f (ByWord a) (ByRule b) = absurd (word_or_rule text e f a b)
same_reason text e f (ByEnd a) (ByWord b) = absurd (word_or_read text f a.ended b a.read)
same_reason text e f (ByEnd a) (ByEnd b) = a.is ∙ sym b.is
same_reason text e f (ByEnd a) (ByRule b) = absurd (rule_or_read text f a.ended b a.read)
same_reason text e f (ByRule a) (ByWord b) = absurd (word_or_rule text f e b a)
same_reason text e f (ByRule a) (ByEnd b) = absurd (rule_or_read text e b.ended a b.read)
same_reason text e f (ByRule a) (ByRule b) = same_rule_end text e f a b

-- a text has one refusal
pub one_refusal : (text : List Tok) (e f : RuleRefusal) → e ≢ Memory → f ≢ Memory → Refuses text e → Refuses text f → e ≡ f
one_refusal text e f e_named f_named r s = same_reason text e f (reason text e e_named r) (reason text f f_named s)

-- and a text that is a file has none
file_unrefused : (text : List Tok) (rules : List Rule) (f : RuleRefusal) → Admits text rules → Reason text f → ⊥
file_unrefused text rules f admits (ByWord b) = word_or_read text f (length rules) b (inl (inl (record { rules = rules; admitted = admits; count = refl })))
file_unrefused text rules f admits (ByEnd b) = b.stop standard rules (whole_derives text rules admits)
file_unrefused text rules f admits (ByRule b) = rule_or_read text f (length rules) b (inl (inl (record { rules = rules; admitted = admits; count = refl })))

pub unrefused : (text : List Tok) (rules : List Rule) (f : RuleRefusal) → f ≢ Memory → Admits text rules → ¬ Refuses text f
unrefused text rules f named admits r = file_unrefused text rules f admits (reason text f named r)

-- what is returned of a text that is refused
pub is_refused_only : (text : List Tok) (r : Result (List Rule) RuleRefusal) → IsReading r text → (f : RuleRefusal) → f ≢ Memory → Refuses text f → MatchResult r (λ rules. ⊥) (λ e. (e ≡ f) ⊎ (e ≡ Memory))
is_refused_only text (Ok rules) is f named refuses = unrefused text rules f named (file_takes text rules is.0 is.1) refuses
is_refused_only text (Err e) is f named refuses = by e is
  where
    other : (e : RuleRefusal) → IsReading (Err e) text → e ≢ Memory → (e ≡ f) ⊎ (e ≡ Memory)
    other e is e_named = inl (one_refusal text e f e_named named (is_refused text (Err e) is) refuses)

    by : (e : RuleRefusal) → IsReading (Err e) text → (e ≡ f) ⊎ (e ≡ Memory)
    by (Syntax n) is = other (Syntax n) is (λ e. cc)
    by (Number n) is = other (Number n) is (λ e. cc)
    by (TooMany number what) is = other (TooMany number what) is (λ e. cc)
    by (BadIndex number n) is = other (BadIndex number n) is (λ e. cc)
    by (TooLoose number) is = other (TooLoose number) is (λ e. cc)
    by Memory is = inr refl
