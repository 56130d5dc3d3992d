-- What is admitted can be printed.
--
-- IsClean  a word that is a text has no quotation mark and no line feed inside
-- Fine     words that are clean, and whose indices hit
-- Tells    where a language says a value by fine words, P holds of the value
use Rattle.std.proofs.Common.{◌≡◌, ◌≢◌, ℕ, zero, suc, ◌+◌, ◌<◌, ◌≤◌, Bool, true, false, cond, eqb, ltb, not, ◌&&◌, List, [], ◌∷◌, ◌++◌, length, take, Option, Some, None, Result, Ok, Err, ℤ, pos, negsuc, unsigned_abs, refl, sym, ap, subst, ◌∙◌, inl, inr, arith}
use Rattle.std.specs.Prelude.{IfOk, IfSome, unwrap_or, option_and_then, nat_le}
use Rattle.std.specs.List.{AllByRecursion}
use Rattle.std.proofs.lemmas.Bool.{eqb-true, eqb-false, ltb-false, leb-true, and_parts, or_parts}
use Rattle.std.proofs.lemmas.Option.{cond_some}
use Rattle.word_scan.specs.declared.scanner.Kind.{Kind}
use Rattle.word_scan.specs.declared.scanner.Kind.TheVariants as kinds
use Rattle.word_scan.specs.Bytes.{is_white}
use Rattle.word_scan.specs.Numerals.{whole_of, is_whole, value_of}
use Rattle.word_scan.specs.Decimals.{decimal_of}
use Rattle.word_scan.specs.Tokens.{TokenMode, InRemark, Past, token_at}
use Rattle.word_scan.specs.TokenParts.{IsToken}
use Rattle.word_scan.proofs.LongestToken.{token_stands}
use Rattle.rule_reader.specs.declared.fault.RuleRefusal.{RuleRefusal}
use Rattle.rule_reader.specs.declared.reader.Bound.{Bound}
use Rattle.rule_reader.specs.declared.reader.Bound.TheVariants.{First, Second, Mapped, Any as AnyPoint}
use Rattle.rule_reader.specs.declared.rule.Triple.{Triple}
use Rattle.rule_reader.specs.declared.rule.MapPoint.{MapPoint}
use Rattle.rule_reader.specs.declared.rule.MapLine.{MapLine}
use Rattle.rule_reader.specs.declared.rule.Term.{Term}
use Rattle.rule_reader.specs.declared.rule.Place.{Place}
use Rattle.rule_reader.specs.declared.rule.Rule.{Rule}
use Rattle.rule_reader.specs.declared.sections.Parts.{Parts}
use Rattle.rule_reader.specs.declared.sections.SectionKind.{SectionKind}
use Rattle.rule_reader.specs.declared.sections.SectionKind.TheVariants as kind
use Rattle.rule_reader.specs.Words.{Tok, TextTok, tok_from, words_of}
use Rattle.rule_reader.specs.Numbers.{digit_count, rounded, with_sign, places_of, number_of}
use Rattle.rule_reader.specs.Reading.{unit_weights}
use Rattle.rule_reader.specs.Verdict.{misses}
use Rattle.rule_reader.specs.Sections.{empty_parts, rule_of}
use Rattle.rule_reader.specs.Grammar.{standard, Said, words, ◌▹◌, done, either, many, at_most, mark, text, number, quality, index, joined_variable, parted_variable, variable, triple, tolerance, marks, coordinates, map_point, ends, line, map_line, term, terms, row, rows, place, pair, three, element, turn, content, sections, any_sections, rule_name, rule_said, Hits, Fitting, whole_rule, Admits}
use Rattle.rule_reader.specs.Normal.{IsNumber, Names, AtMost, IsTriple, IsMapPoint, IsMapLine, IsTerm, IsPlace, BeginsAtBase, IsRule, CanPrint}
use Rattle.rule_reader.proofs.Lexing.{lexed_given, lexed, lex, words_are, text_tok}
use Rattle.rule_reader.proofs.Prints.{AllFrom}
use Rattle.rule_reader.proofs.PrintedEntries.{IsLineAt}

-- ---- the words of a text are clean

abbrev IsClean : Tok → Type 0
IsClean (TextTok bytes) = AllByRecursion (λ b. (b ≢ 34) × (b ≢ 10)) bytes
IsClean t = Unit {0}

token_clean : (kind : Kind) (bytes : List ℕ) → IsToken kind bytes → IsClean (tok_from kind bytes)
token_clean kinds.Plain bytes is = tt
token_clean kinds.Mark [] is = tt
token_clean kinds.Mark (b ∷ bytes) is = tt
token_clean kinds.Text bytes is = subst IsClean (sym (ap (tok_from kinds.Text) is.text ∙ text_tok is.inside)) is.each
token_clean kinds.Number bytes is = tt
token_clean kinds.Name bytes is = tt

either_clean : (c : Bool) (x y : List Tok) → AllByRecursion IsClean x → AllByRecursion IsClean y → AllByRecursion IsClean (cond c x y)
either_clean true x y p q = p
either_clean false x y p q = q

given_clean : (bytes : List ℕ) (o : Option (Kind × ℕ)) (f : ℕ → List Tok) → token_at bytes ≡ o → ((n : ℕ) → AllByRecursion IsClean (f n)) → AllByRecursion IsClean (lexed_given bytes o f)
unfolding lexed_given
given_clean bytes None f e all = (tt, tt)
given_clean bytes (Some t) f e all = (token_clean t.0 (take t.1 bytes) (token_stands bytes t.0 t.1 e).token, all _)

lexed_clean : (mode : TokenMode) (bytes : List ℕ) → AllByRecursion IsClean (lexed mode bytes)
unfolding lexed
lexed_clean InRemark [] = tt
lexed_clean InRemark (b ∷ bytes) = either_clean (eqb b 10) _ _ (lexed_clean (Past 0) bytes) (lexed_clean InRemark bytes)
lexed_clean (Past zero) [] = tt
lexed_clean (Past zero) (b ∷ bytes) =
    either_clean (is_white b) _ _ (lexed_clean (Past 0) bytes) (either_clean (eqb b 35) _ _ (lexed_clean InRemark bytes) (given_clean (b ∷ bytes) (token_at (b ∷ bytes)) (λ n. lexed (Past n) bytes) refl (λ n. lexed_clean (Past n) bytes)))
lexed_clean (Past (suc n)) [] = tt
lexed_clean (Past (suc n)) (b ∷ bytes) = lexed_clean (Past n) bytes

words_clean : (text : List ℕ) → AllByRecursion IsClean (words_of text)
unfolding lex
words_clean text = subst (AllByRecursion IsClean) (sym (words_are text)) (lexed_clean (Past 0) text)

-- ---- what a language tells

abbrev Fine : ℕ → ℕ → List Said → Type 0
Fine m n said = AllByRecursion (λ s. Hits m n s.index × IsClean s.word) said

fine_parts : (m n : ℕ) (a b : List Said) → Fine m n (a ++ b) → Fine m n a × Fine m n b
fine_parts m n [] b fine = (tt, fine)
fine_parts m n (s ∷ a) b fine = let parts = fine_parts m n a b fine.1 in ((fine.0, parts.0), parts.1)

record Tells (m n : ℕ) (A : Type 0) (L : List Said → A → Type 0) (P : A → Type 0) : Type 0 where
  tells : (said : List Said) (x : A) → L said x → Fine m n said → P x

seq : {m n : ℕ} {A B : Type 0} {L : List Said → A → Type 0} {M : A → List Said → B → Type 0} {P : A → Type 0} {Q : B → Type 0} → Tells m n A L P → ((x : A) → P x → Tells m n B (M x) Q) → Tells m n B (L ▹ M) Q
unfolding ◌▹◌
seq {m} {n} g h = record { tells = λ said y l fine. let parts = fine_parts m n l.1 l.2 (subst (Fine m n) l.5 fine) in (h l.0 (g.tells l.1 l.0 l.3 parts.0)).tells l.2 y l.4 parts.1 }

one_of : {m n : ℕ} {A : Type 0} {L M : List Said → A → Type 0} {P : A → Type 0} → Tells m n A L P → Tells m n A M P → Tells m n A (either L M) P
unfolding either
one_of g h = record { tells = λ said x l fine. elim l [ inl a ↦ g.tells said x a fine | inr b ↦ h.tells said x b fine ] }

ended : {m n : ℕ} {A : Type 0} {P : A → Type 0} (x : A) → P x → Tells m n A (done x) P
unfolding done
ended {P = P} x p = record { tells = λ said y l fine. subst P (sym l.1) p }

nothing : {m n : ℕ} {A : Type 0} {L : List Said → A → Type 0} → Tells m n A L (λ x. Unit {0})
nothing = record { tells = λ said x l fine. tt }

then_only : {m n : ℕ} {A B : Type 0} (L : List Said → A → Type 0) {M : A → List Said → B → Type 0} {Q : B → Type 0} → ((x : A) → Tells m n B (M x) Q) → Tells m n B (L ▹ M) Q
then_only {m} {n} {A} L h = let any : Tells m n A L (λ x. Unit {0}) = nothing in seq any (λ x p. h x)

-- ---- numbers and indices

none_is : {A : Type 0} (b : Bool) (o : Option A) (x : A) → cond b None o ≡ Some x → (b ≡ false) × (o ≡ Some x)
none_is true o x e = absurd cc
none_is false o x e = (refl, e)

bind_some : {A B : Type 0} (o : Option A) (f : A → Option B) (y : B) → option_and_then f o ≡ Some y → (x : A) × (f x ≡ Some y)
bind_some None f y e = absurd cc
bind_some (Some x) f y e = (x, e)

size_with_sign : (d : ℤ) (size : ℕ) → unsigned_abs (with_sign d size) ≡ size
size_with_sign (pos n) size = refl
size_with_sign (negsuc n) zero = refl
size_with_sign (negsuc n) (suc size) = refl

some_same : {A : Type 0} (x y : A) → Some x ≡ Some y → x ≡ y
some_same x y e = cc

number_small : (greatest : ℕ) (bytes : List ℕ) (z : ℤ) → number_of greatest bytes ≡ Some z → unsigned_abs z ≤ greatest
unfolding number_of
number_small greatest bytes z e =
    let few = none_is (ltb 20 (digit_count bytes)) _ z e in
    let d = bind_some (decimal_of bytes) _ z few.1 in
    let p = bind_some (places_of d.0.scale) _ z d.1 in
    let size = rounded (unsigned_abs d.0.digits) p.0 in
    let fits = none_is (ltb greatest size) (Some (with_sign d.0.digits size)) z p.1 in
    let same : with_sign d.0.digits size ≡ z = some_same (with_sign d.0.digits size) z fits.1 in
    omega (arith, sym (size_with_sign d.0.digits size) ∙ ap unsigned_abs same, ltb-false greatest size fits.0)

number_tells : {m n : ℕ} (greatest : ℕ) → Tells m n ℤ (number greatest) (λ z. unsigned_abs z ≤ greatest)
unfolding number
number_tells greatest = record { tells = λ said z l fine. number_small greatest l.0 z l.2 }

whole_small : (bytes : List ℕ) (greatest k : ℕ) → whole_of bytes greatest ≡ Some k → k ≤ greatest
whole_small bytes greatest k e =
    let c = cond_some (is_whole bytes && nat_le (value_of bytes) greatest) (value_of bytes) k e in
    omega (arith, leb-true (value_of bytes) greatest (and_parts (is_whole bytes) (nat_le (value_of bytes) greatest) c.0).1, c.1)

quality_tells : {m n : ℕ} → Tells m n ℕ quality (λ k. k ≤ 1000)
unfolding quality
quality_tells = record { tells = λ said k l fine. whole_small l.0 1000 k l.2 }

index_tells : {m n : ℕ} (bound : Bound) → Tells m n ℕ (index bound) (λ k. misses bound k m n ≡ false)
unfolding index
index_tells {m} {n} bound = record { tells = λ said k l fine. (subst (Fine m n) l.1 fine).0.0 }

mapped_names : (m n k : ℕ) → misses Mapped k m n ≡ false → Names m k
mapped_names m n k hit = let parts = or_parts (eqb k 0) (ltb m k) hit in let some : k ≢ 0 = eqb-false k 0 parts.0 in (omega arith, ltb-false m k parts.1)

any_names : (m n k : ℕ) → misses AnyPoint k m n ≡ false → Names (m + n) k
any_names m n k hit = let parts = or_parts (eqb k 0) (ltb (m + n) k) hit in let some : k ≢ 0 = eqb-false k 0 parts.0 in (omega arith, ltb-false (m + n) k parts.1)

not_false : (b : Bool) → not b ≡ false → b ≡ true
not_false true e = refl
not_false false e = absurd cc

first_is : (m n k : ℕ) → misses First k m n ≡ false → k ≡ 1
first_is m n k hit = eqb-true k 1 (not_false (eqb k 1) (or_parts (not (eqb k 1)) (ltb m 1) hit).0)

second_is : (m n k : ℕ) → misses Second k m n ≡ false → (k ≡ 2) × (2 ≤ m)
second_is m n k hit = let parts = or_parts (not (eqb k 2)) (ltb m 2) hit in (eqb-true k 2 (not_false (eqb k 2) parts.0), ltb-false m 2 parts.1)

-- ---- entries

triple_tells : {m n : ℕ} → Tells m n Triple triple IsTriple
triple_tells = then_only _ (λ a. seq (number_tells 10000000) (λ f1 p1. then_only _ (λ b. seq (number_tells 10000000) (λ f2 p2. then_only _ (λ c. seq (number_tells 10000000) (λ f3 p3. then_only _ (λ d. ended _ (record { f1 = p1; f2 = p2; f3 = p3 }))))))))

unit_is : IsTriple unit_weights
unit_is = record { f1 = omega arith; f2 = omega arith; f3 = omega arith }

tolerance_tells : {m n : ℕ} → Tells m n Triple tolerance IsTriple
tolerance_tells = one_of triple_tells (ended _ unit_is)

marks_tell : {m n : ℕ} → Tells m n (Triple × Bool) marks (λ v. IsTriple v.0)
marks_tell = one_of (then_only _ (λ u. seq tolerance_tells (λ t p. ended _ p))) (one_of (seq triple_tells (λ t p. then_only _ (λ d. ended _ p))) (ended _ unit_is))

coordinates_tell : {m n : ℕ} → Tells m n (ℤ × ℤ) coordinates (λ p. IsNumber p.0 × IsNumber p.1)
coordinates_tell = then_only _ (λ a. seq (number_tells 160000) (λ x p. then_only _ (λ b. seq (number_tells 160000) (λ y q. then_only _ (λ c. ended _ (p, q))))))

map_point_tells : {m n : ℕ} (k : ℕ) → Tells m n MapPoint (map_point k) IsMapPoint
map_point_tells k = seq coordinates_tell (λ at p. seq marks_tell (λ v q. then_only _ (λ c. ended _ (record { x = p.0; y = p.1; tol = q }))))

ends_tell : {m n : ℕ} (first second : Bound) → Tells m n (ℕ × ℕ) (ends first second) (λ e. (misses first e.0 m n ≡ false) × (misses second e.1 m n ≡ false))
ends_tell first second = then_only _ (λ a. seq (index_tells first) (λ i p. then_only _ (λ b. seq (index_tells second) (λ j q. then_only _ (λ c. ended _ (p, q))))))

line_tells : {m n : ℕ} (first second : Bound) → Tells m n MapLine (line first second) (λ l. (misses first l.i m n ≡ false) × (misses second l.j m n ≡ false) × IsTriple l.tol)
line_tells first second = seq (ends_tell first second) (λ e p. seq marks_tell (λ v q. then_only _ (λ c. ended _ (p.0, p.1, q))))

weaker : {m n : ℕ} {A : Type 0} {L : List Said → A → Type 0} {P Q : A → Type 0} → Tells m n A L P → ((x : A) → P x → Q x) → Tells m n A L Q
weaker g h = record { tells = λ said x l fine. h x (g.tells said x l fine) }

map_line_tells : {m n : ℕ} (k : ℕ) → Tells m n MapLine (map_line k) (IsLineAt m k)
map_line_tells {m} {n} zero = weaker (line_tells First Second) (λ l p. by l p.0 p.1 p.2)
  where
    by : (l : MapLine) → misses First l.i m n ≡ false → misses Second l.j m n ≡ false → IsTriple l.tol → IsMapLine m l × (l.i ≡ 1) × (l.j ≡ 2)
    by l p q t =
        let i = first_is m n l.i p in
        let j = second_is m n l.j q in
        (record { i = (omega (arith, i), omega (arith, i, j.1)); j = (omega (arith, j.0), omega (arith, j.0, j.1)); tol = t }, i, j.0)
map_line_tells {m} {n} (suc k) = weaker (line_tells Mapped Mapped) (λ l p. record { i = mapped_names m n l.i p.0; j = mapped_names m n l.j p.1; tol = p.2 })

joined_tells : {m n : ℕ} → Tells m n (Bool × ℕ) joined_variable (λ v. misses Mapped v.1 m n ≡ false)
unfolding joined_variable
joined_tells {m} {n} = record { tells = λ said v l fine. (subst (Fine m n) l.2 fine).0.0 }

parted_tells : {m n : ℕ} (of_y : Bool) → Tells m n (Bool × ℕ) (parted_variable of_y) (λ v. misses Mapped v.1 m n ≡ false)
parted_tells of_y = then_only _ (λ u. seq (index_tells Mapped) (λ k p. ended _ p))

variable_tells : {m n : ℕ} → Tells m n (Bool × ℕ) variable (λ v. misses Mapped v.1 m n ≡ false)
variable_tells = one_of joined_tells (one_of (parted_tells false) (parted_tells true))

term_tells : {m n : ℕ} → Tells m n Term term (IsTerm m)
term_tells {m} {n} = seq (number_tells 160000) (λ c p. seq variable_tells (λ v q. ended _ (record { coefficient = p; point = mapped_names m n v.1 q })))

-- ---- entries one after another

many_tell : {m n : ℕ} {A : Type 0} (entry : ℕ → List Said → A → Type 0) (Q : ℕ → A → Type 0) → ((k : ℕ) → Tells m n A (entry k) (Q k)) → (k : ℕ) (said : List Said) (xs : List A) → many entry k said xs → Fine m n said → AllFrom Q k xs
unfolding many
many_tell entry Q each k said [] l fine = tt
many_tell {m} {n} entry Q each k said (x ∷ xs) l fine =
    let parts = fine_parts m n l.0 l.1 (subst (Fine m n) l.4 fine) in
    ((each k).tells l.0 x l.2 parts.0, many_tell entry Q each (k + 1) l.1 xs l.3 parts.1)

at_most_tell : {m n : ℕ} {A : Type 0} (most : ℕ) (entry : ℕ → List Said → A → Type 0) (Q : ℕ → A → Type 0) → ((k : ℕ) → Tells m n A (entry k) (Q k)) → Tells m n (List A) (at_most most entry) (λ xs. (length xs ≤ most) × AllFrom Q 0 xs)
unfolding at_most
at_most_tell most entry Q each = record { tells = λ said xs l fine. (l.1, many_tell entry Q each 0 said xs l.0 fine) }

all_of : {A : Type 0} (P : A → Type 0) (k : ℕ) (xs : List A) → AllFrom (λ j x. P x) k xs → AllByRecursion P xs
all_of P k [] all = tt
all_of P k (x ∷ xs) all = (all.0, all_of P (k + 1) xs all.1)

few_tell : {m n : ℕ} {A : Type 0} (most : ℕ) (entry : ℕ → List Said → A → Type 0) (P : A → Type 0) → ((k : ℕ) → Tells m n A (entry k) P) → Tells m n (List A) (at_most most entry) (AtMost most P)
few_tell most entry P each = weaker (at_most_tell most entry (λ k x. P x) each) (λ xs p. (p.0, all_of P 0 xs p.1))

terms_tell : {m n : ℕ} → Tells m n (List Term) (terms standard) (AtMost 32 (IsTerm m))
terms_tell {m} = seq term_tells (λ t p. seq (few_tell 31 (λ k. mark 44 ▹ λ c. term) (IsTerm m) (λ k. then_only _ (λ c. term_tells))) (λ ts q. ended _ (omega (arith, q.0), (p, q.1))))

row_tells : {m n : ℕ} → Tells m n (List Term) (row standard) (AtMost 32 (IsTerm m))
row_tells = then_only _ (λ a. seq (one_of (ended _ (omega arith, tt)) terms_tell) (λ ts p. then_only _ (λ b. ended _ p)))

rows_tell : {m n : ℕ} → Tells m n (List Term × List Term) (rows standard) (λ r. AtMost 32 (IsTerm m) r.0 × AtMost 32 (IsTerm m) r.1)
rows_tell = one_of (seq row_tells (λ x p. seq (one_of row_tells (ended _ (omega arith, tt))) (λ y q. ended _ (p, q)))) (ended _ ((omega arith, tt), (omega arith, tt)))

place_tells : {m n : ℕ} (k : ℕ) → Tells m n Place (place standard k) (IsPlace m)
place_tells k = seq coordinates_tell (λ at p. seq rows_tell (λ r q. then_only _ (λ c. ended _ (record { x = p.0; y = p.1; row_x = q.0; row_y = q.1 }))))

pair_tells : {m n : ℕ} (k : ℕ) → Tells m n (ℕ × ℕ) (pair k) (λ l. Names (m + n) l.0 × Names (m + n) l.1)
pair_tells {m} {n} k = seq (ends_tell AnyPoint AnyPoint) (λ e p. then_only _ (λ c. ended _ (any_names m n e.0 p.0, any_names m n e.1 p.1)))

three_tells : {m n : ℕ} (bound : Bound) → Tells m n (ℕ × ℕ × ℕ) (three bound) (λ t. (misses bound t.0 m n ≡ false) × (misses bound t.1 m n ≡ false) × (misses bound t.2 m n ≡ false))
three_tells bound = then_only _ (λ a. seq (index_tells bound) (λ i p. then_only _ (λ b. seq (index_tells bound) (λ j q. then_only _ (λ c. seq (index_tells bound) (λ k r. then_only _ (λ d. then_only _ (λ e. ended _ (p, q, r)))))))))

element_tells : {m n : ℕ} (k : ℕ) → Tells m n (List ℕ) (element k) (λ e. (length e ≡ 3) × AllByRecursion (Names (m + n)) e)
element_tells {m} {n} k = seq (three_tells AnyPoint) (λ t p. ended _ (refl, (any_names m n t.0 p.0, (any_names m n t.1 p.1, (any_names m n t.2 p.2, tt)))))

turn_tells : {m n : ℕ} (k : ℕ) → Tells m n (ℕ × ℕ × ℕ) (turn k) (λ t. Names m t.0 × Names m t.1 × Names m t.2)
turn_tells {m} {n} k = weaker (three_tells Mapped) (λ t p. (mapped_names m n t.0 p.0, mapped_names m n t.1 p.1, mapped_names m n t.2 p.2))

-- ---- sections

abbrev PartsAre : ℕ → ℕ → Parts → Type 0
PartsAre m n parts =
    IfSome parts.quality (λ k. k ≤ 1000)
    × IfSome parts.points (AtMost 16 IsMapPoint)
    × IfSome parts.lines (λ ls. (length ls ≤ 16) × AllFrom (IsLineAt m) 0 ls)
    × IfSome parts.new_points (AtMost 8 (IsPlace m))
    × IfSome parts.new_lines (AtMost 24 (λ l. Names (m + n) l.0 × Names (m + n) l.1))
    × IfSome parts.area (AtMost 24 (IsPlace m))
    × IfSome parts.limit (AtMost 24 (IsPlace m))
    × IfSome parts.elements (AtMost 8 (λ e. (length e ≡ 3) × AllByRecursion (Names (m + n)) e))
    × IfSome parts.turns (AtMost 16 (λ t. Names m t.0 × Names m t.1 × Names m t.2))

content_tells : {m n : ℕ} (parts : Parts) (which : SectionKind) → PartsAre m n parts → Tells m n Parts (content standard parts which) (PartsAre m n)
content_tells parts kind.Quality is = seq quality_tells (λ x p. ended _ (p, is.1, is.2, is.3, is.4, is.5, is.6, is.7, is.8))
content_tells parts kind.MapPoints is = seq (few_tell 16 map_point IsMapPoint map_point_tells) (λ x p. ended _ (is.0, p, is.2, is.3, is.4, is.5, is.6, is.7, is.8))
content_tells {m} parts kind.MapLines is = seq (at_most_tell 16 map_line (IsLineAt m) map_line_tells) (λ x p. ended _ (is.0, is.1, p, is.3, is.4, is.5, is.6, is.7, is.8))
content_tells {m} parts kind.NewPoints is = seq (few_tell 8 (place standard) (IsPlace m) place_tells) (λ x p. ended _ (is.0, is.1, is.2, p, is.4, is.5, is.6, is.7, is.8))
content_tells {m} {n} parts kind.NewLines is = seq (few_tell 24 pair (λ l. Names (m + n) l.0 × Names (m + n) l.1) pair_tells) (λ x p. ended _ (is.0, is.1, is.2, is.3, p, is.5, is.6, is.7, is.8))
content_tells {m} parts kind.FreeArea is = seq (few_tell 24 (place standard) (IsPlace m) place_tells) (λ x p. ended _ (is.0, is.1, is.2, is.3, is.4, p, is.6, is.7, is.8))
content_tells {m} parts kind.FreeArea2 is = seq (few_tell 24 (place standard) (IsPlace m) place_tells) (λ x p. ended _ (is.0, is.1, is.2, is.3, is.4, is.5, p, is.7, is.8))
content_tells {m} {n} parts kind.Elements is = seq (few_tell 8 element (λ e. (length e ≡ 3) × AllByRecursion (Names (m + n)) e) element_tells) (λ x p. ended _ (is.0, is.1, is.2, is.3, is.4, is.5, is.6, p, is.8))
content_tells {m} parts kind.Orientations is = seq (few_tell 16 turn (λ t. Names m t.0 × Names m t.1 × Names m t.2) turn_tells) (λ x p. ended _ (is.0, is.1, is.2, is.3, is.4, is.5, is.6, is.7, p))

sections_tell : {m n : ℕ} (count : ℕ) (parts : Parts) → PartsAre m n parts → Tells m n Parts (sections standard count parts) (PartsAre m n)
unfolding sections
sections_tell zero parts is = ended _ is
sections_tell (suc count) parts is = seq (then_only _ (λ which. content_tells parts which is)) (λ next p. sections_tell count next p)

any_sections_tell : {m n : ℕ} → Tells m n Parts (any_sections standard) (PartsAre m n)
unfolding any_sections
any_sections_tell = record { tells = λ said parts l fine. (sections_tell l.0 empty_parts (tt, tt, tt, tt, tt, tt, tt, tt, tt)).tells said parts l.1 fine }

-- ---- rules

abbrev IsName : List ℕ → Type 0
IsName bytes = (length bytes ≤ 200) × AllByRecursion (λ b. (b ≢ 34) × (b ≢ 10)) bytes

name_tells : {m n : ℕ} → Tells m n (List ℕ) (rule_name standard) IsName
unfolding rule_name text
name_tells {m} {n} = record { tells = λ said bytes l fine. (l.1, (subst (Fine m n) l.0 fine).0.1) }

or_none : {A : Type 0} (P : A → Type 0) (o : Option A) (x : A) → P x → IfSome o P → P (unwrap_or o x)
or_none P None x none some = none
or_none P (Some y) x none some = some

-- what a rule's words tell of it, with so many mapped and new points
record RuleAre (m n : ℕ) (r : Rule) : Type 0 where
  name : IsName r.name
  quality : r.quality ≤ 1000
  points : AtMost 16 IsMapPoint r.points
  lines : (length r.lines ≤ 16) × AllFrom (IsLineAt m) 0 r.lines
  new_points : AtMost 8 (IsPlace m) r.new_points
  new_lines : AtMost 24 (λ l. Names (m + n) l.0 × Names (m + n) l.1) r.new_lines
  area : AtMost 24 (IsPlace m) r.area
  limit : AtMost 24 (IsPlace m) r.limit
  elements : AtMost 8 (λ e. (length e ≡ 3) × AllByRecursion (Names (m + n)) e) r.elements
  turns : AtMost 16 (λ t. Names m t.0 × Names m t.1 × Names m t.2) r.turns

of_parts : (m n : ℕ) (bytes : List ℕ) (parts : Parts) → IsName bytes → PartsAre m n parts → RuleAre m n (rule_of bytes parts)
of_parts m n bytes parts named is = record {
  name = named;
  quality = or_none (λ k. k ≤ 1000) parts.quality 1 (omega arith) is.0;
  points = or_none (AtMost 16 IsMapPoint) parts.points [] (omega arith, tt) is.1;
  lines = or_none (λ ls. (length ls ≤ 16) × AllFrom (IsLineAt m) 0 ls) parts.lines [] (omega arith, tt) is.2;
  new_points = or_none (AtMost 8 (IsPlace m)) parts.new_points [] (omega arith, tt) is.3;
  new_lines = or_none (AtMost 24 (λ l. Names (m + n) l.0 × Names (m + n) l.1)) parts.new_lines [] (omega arith, tt) is.4;
  area = or_none (AtMost 24 (IsPlace m)) parts.area [] (omega arith, tt) is.5;
  limit = or_none (AtMost 24 (IsPlace m)) parts.limit [] (omega arith, tt) is.6;
  elements = or_none (AtMost 8 (λ e. (length e ≡ 3) × AllByRecursion (Names (m + n)) e)) parts.elements [] (omega arith, tt) is.7;
  turns = or_none (AtMost 16 (λ t. Names m t.0 × Names m t.1 × Names m t.2)) parts.turns [] (omega arith, tt) is.8;
}

rule_tells : {m n : ℕ} → Tells m n Rule (rule_said standard) (RuleAre m n)
rule_tells {m} {n} = then_only _ (λ a. seq name_tells (λ bytes p. seq any_sections_tell (λ parts q. then_only _ (λ b. ended _ (of_parts m n bytes parts p q)))))

line_at_is : (m k : ℕ) (l : MapLine) → IsLineAt m k l → IsMapLine m l
line_at_is m zero l is = is.0
line_at_is m (suc k) l is = is

lines_are : (m k : ℕ) (ls : List MapLine) → AllFrom (IsLineAt m) k ls → AllByRecursion (IsMapLine m) ls
lines_are m k [] all = tt
lines_are m k (l ∷ ls) all = (line_at_is m k l all.0, lines_are m (k + 1) ls all.1)

begins_at_base : (m : ℕ) (ls : List MapLine) → 0 < length ls → AllFrom (IsLineAt m) 0 ls → BeginsAtBase ls
begins_at_base m [] some all = absurd (omega (arith, some))
begins_at_base m (l ∷ ls) some all = (all.0.1, all.0.2)

hits_clean : (m n : ℕ) (said : List Said) → AllByRecursion (λ s. Hits m n s.index) said → AllByRecursion IsClean (words said) → Fine m n said
hits_clean m n [] hits clean = tt
hits_clean m n (s ∷ said) hits clean = ((hits.0, clean.0), hits_clean m n said hits.1 clean.1)

rule_is : (said : List Said) (r : Rule) → Fitting said r → AllByRecursion IsClean (words said) → rule_said standard said r → IsRule r
rule_is said r fits clean l =
    let m = length r.points in
    let n = length r.new_points in
    let told : Tells m n Rule (rule_said standard) (RuleAre m n) = rule_tells in
    let t = told.tells said r l (hits_clean m n said fits.indices clean) in
    record {
      short = t.name.0;
      name = t.name.1;
      quality = t.quality;
      points = t.points;
      lines = (t.lines.0, lines_are m 0 r.lines t.lines.1);
      base = begins_at_base m r.lines fits.lines t.lines.1;
      new_points = t.new_points;
      new_lines = t.new_lines;
      area = t.area;
      limit = t.limit;
      elements = t.elements;
      turns = t.turns;
      starts = fits.starts;
    }

-- ---- a file

clean_parts : (a b : List Said) → AllByRecursion IsClean (words (a ++ b)) → AllByRecursion IsClean (words a) × AllByRecursion IsClean (words b)
clean_parts [] b clean = (tt, clean)
clean_parts (s ∷ a) b clean = let parts = clean_parts a b clean.1 in ((clean.0, parts.0), parts.1)

rules_are : (k : ℕ) (said : List Said) (rules : List Rule) → many whole_rule k said rules → AllByRecursion IsClean (words said) → AllByRecursion IsRule rules
unfolding many whole_rule
rules_are k said [] l clean = tt
rules_are k said (r ∷ rules) l clean =
    let parts = clean_parts l.0 l.1 (subst (λ (s : List Said). AllByRecursion IsClean (words s)) l.4 clean) in
    (rule_is l.0 r l.2.1 parts.0 l.2.0, rules_are (k + 1) l.1 rules l.3 parts.1)

can_print : (left : List Tok) (rules : List Rule) → Admits left rules → AllByRecursion IsClean left → CanPrint rules
unfolding ◌▹◌ at_most
can_print left rules admits clean =
    let l = admits.2 in
    let all : AllByRecursion IsClean (words admits.0) = subst (AllByRecursion IsClean) (sym admits.1) clean in
    let parts = clean_parts l.1 l.2 (subst (λ (s : List Said). AllByRecursion IsClean (words s)) l.5 all) in
    (l.4.1, rules_are 0 l.2 rules l.4.0 parts.1)

pub is_printable : (text : List ℕ) (r : Result (List Rule) RuleRefusal) → IfOk r (λ rules. Admits (words_of text) rules) → IfOk r CanPrint
is_printable text (Ok rules) admits = can_print (words_of text) rules admits (words_clean text)
is_printable text (Err e) h = tt
