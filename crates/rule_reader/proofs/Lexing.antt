-- The words of a text, taken without their places.
use Rattle.std.proofs.Common.{◌≡◌, ◌≢◌, ℕ, zero, suc, ◌+◌, ◌-◌, ◌<◌, Bool, true, false, cond, eqb, ltb, List, [], ◌∷◌, ◌++◌, length, take, map, Option, Some, None, refl, sym, ap, subst, ◌∙◌, arith, append_assoc, length-append}
use Rattle.std.specs.List.{AllByRecursion}
use Rattle.std.specs.Char.{is_ascii_alphabetic, is_ascii_alphanumeric}
use Rattle.std.specs.Str.{all_ascii_digits}
use Rattle.std.proofs.lemmas.Bool.{ne_eqb, le-ltb}
use Rattle.std.proofs.lemmas.List.{take_at, drop_at}
use Rattle.word_scan.specs.declared.scanner.Word.{Word}
use Rattle.word_scan.specs.declared.scanner.Kind.{Kind}
use Rattle.word_scan.specs.declared.scanner.Kind.TheVariants as kinds
use Rattle.word_scan.specs.declared.scanner.ScanRefusal.{ScanRefusal}
use Rattle.word_scan.specs.Bytes.{is_white}
use Rattle.word_scan.specs.Decimals.{Sign, sign_text, fraction_text, fraction_digits}
use Rattle.word_scan.specs.Tokens.{TokenMode, InRemark, Past, token_at, token_word, given, tokens_from}
use Rattle.word_scan.proofs.TokenLaws.{Stops, EndsNumber, exact_number, exact_name, exact_text}
use Rattle.rule_reader.specs.Words.{Tok, MarkTok, TextTok, NumberTok, NameTok, BadTok, tok_from, tok_at, bad_end, words_of}

-- what is given where a token may begin
unfoldable pub lexed_given : List ℕ → Option (Kind × ℕ) → (ℕ → List Tok) → List Tok
lexed_given bytes None behind = BadTok ∷ []
lexed_given bytes (Some token) behind = tok_from token.0 (take token.1 bytes) ∷ behind (token.1 - 1)

-- the words of the bytes that follow
unfoldable pub lexed : TokenMode → List ℕ → List Tok
unfolding lexed_given
lexed InRemark [] = []
lexed InRemark (b ∷ bytes) = cond (eqb b 10) (lexed (Past 0) bytes) (lexed InRemark bytes)
lexed (Past zero) [] = []
lexed (Past zero) (b ∷ bytes) = cond (is_white b) (lexed (Past 0) bytes) (cond (eqb b 35) (lexed InRemark bytes) (lexed_given (b ∷ bytes) (token_at (b ∷ bytes)) (λ n. lexed (Past n) bytes)))
lexed (Past (suc n)) [] = []
lexed (Past (suc n)) (b ∷ bytes) = lexed (Past n) bytes

-- the words where a token may begin
unfoldable pub lex : List ℕ → List Tok
unfolding lexed
lex bytes = lexed (Past 0) bytes

-- ---- they are the words of the text

abbrev seen_of : List ℕ → List Word × ScanRefusal → List Tok
seen_of text p = map (tok_at text) p.0 ++ bad_end p.1

either_way : (c : Bool) (text : List ℕ) (x y : List Word × ScanRefusal) (u v : List Tok) → seen_of text x ≡ u → seen_of text y ≡ v → seen_of text (cond c x y) ≡ cond c u v
either_way true text x y u v p q = p
either_way false text x y u v p q = q

word_is : (text before bytes : List ℕ) (at i : ℕ) (token : Kind × ℕ) → text ≡ before ++ bytes → i ≡ length before → tok_at text (token_word at i token) ≡ tok_from token.0 (take token.1 bytes)
word_is text before bytes at i token e place =
    let k : i + token.1 - i ≡ token.1 = omega arith in
    rw (e, k, drop_at before bytes i (sym place)) refl

given_is : (text before bytes : List ℕ) (at i : ℕ) (o : Option (Kind × ℕ)) (f : ℕ → List Word × ScanRefusal) (g : ℕ → List Tok) → text ≡ before ++ bytes → i ≡ length before → ((n : ℕ) → seen_of text (f n) ≡ g n) → seen_of text (given at i o f) ≡ lexed_given bytes o g
unfolding lexed_given
given_is text before bytes at i None f g e place same = refl
given_is text before bytes at i (Some token) f g e place same = rw (word_is text before bytes at i token e place, same (token.1 - 1)) refl

one_on : (text before bytes : List ℕ) (b : ℕ) → text ≡ before ++ b ∷ bytes → text ≡ (before ++ b ∷ []) ++ bytes
one_on text before bytes b e = e ∙ sym (append_assoc before (b ∷ []) bytes)

next_place : (before : List ℕ) (b i : ℕ) → i ≡ length before → i + 1 ≡ length (before ++ b ∷ [])
next_place before b i place = omega (arith, length-append before (b ∷ []), place)

lexed_is : (mode : TokenMode) (at i : ℕ) (text before bytes : List ℕ) → text ≡ before ++ bytes → i ≡ length before → seen_of text (tokens_from mode at i bytes) ≡ lexed mode bytes
unfolding lexed tokens_from
lexed_is InRemark at i text before [] e place = refl
lexed_is InRemark at i text before (b ∷ bytes) e place =
    let next = before ++ b ∷ [] in
    let on = one_on text before bytes b e in
    let there = next_place before b i place in
    either_way (eqb b 10) text _ _ _ _ (lexed_is (Past 0) at (i + 1) text next bytes on there) (lexed_is InRemark at (i + 1) text next bytes on there)
lexed_is (Past zero) at i text before [] e place = refl
lexed_is (Past zero) at i text before (b ∷ bytes) e place =
    let next = before ++ b ∷ [] in
    let on = one_on text before bytes b e in
    let there = next_place before b i place in
    either_way (is_white b) text _ _ _ _ (lexed_is (Past 0) at (i + 1) text next bytes on there) (either_way (eqb b 35) text _ _ _ _ (lexed_is InRemark at (i + 1) text next bytes on there)
    (given_is text before (b ∷ bytes) at i (token_at (b ∷ bytes)) (λ n. tokens_from (Past n) (at + 1) (i + 1) bytes) (λ n. lexed (Past n) bytes) e place (λ n. lexed_is (Past n) (at + 1) (i + 1) text next bytes on there)))
lexed_is (Past (suc n)) at i text before [] e place = refl
lexed_is (Past (suc n)) at i text before (b ∷ bytes) e place = lexed_is (Past n) at (i + 1) text (before ++ b ∷ []) bytes (one_on text before bytes b e) (next_place before b i place)

pub words_are : (text : List ℕ) → words_of text ≡ lex text
unfolding lex
words_are text = lexed_is (Past 0) 1 0 text [] text refl refl

-- ---- white space, marks and other tokens before what follows

pub lex_end : lex [] ≡ []
unfolding lex lexed
lex_end = refl

pub lex_white : (b : ℕ) (rest : List ℕ) → is_white b ≡ true → lex (b ∷ rest) ≡ lex rest
unfolding lex lexed
lex_white b rest white = rw white refl

passed : (bytes rest : List ℕ) → lexed (Past (length bytes)) (bytes ++ rest) ≡ lexed (Past 0) rest
unfolding lexed
passed [] rest = refl
passed (b ∷ bytes) rest = passed bytes rest

one_token : (kind : Kind) (b : ℕ) (bytes rest : List ℕ) → is_white b ≡ false → b ≢ 35 → token_at (b ∷ (bytes ++ rest)) ≡ Some (kind, suc (length bytes)) → lex (b ∷ (bytes ++ rest)) ≡ tok_from kind (b ∷ bytes) ∷ lex rest
unfolding lex lexed lexed_given
one_token kind b bytes rest black note found =
    let k : suc (length bytes) - 1 ≡ length bytes = omega arith in
    let first : take (length bytes) (bytes ++ rest) ≡ bytes = take_at bytes rest (length bytes) refl in
    rw (black, ne_eqb b 35 note, found, k, first, passed bytes rest) refl

-- a token that stands there is taken
pub record Begins (bytes : List ℕ) : Type 0 where
  pub b : ℕ
  pub others : List ℕ
  pub text : bytes ≡ b ∷ others
  pub black : is_white b ≡ false
  pub note : b ≢ 35

lex_token : (kind : Kind) (bytes rest : List ℕ) → Begins bytes → token_at (bytes ++ rest) ≡ Some (kind, length bytes) → lex (bytes ++ rest) ≡ tok_from kind bytes ∷ lex rest
lex_token kind bytes rest begins found =
    let e = begins.text in
    let here : token_at (begins.b ∷ (begins.others ++ rest)) ≡ Some (kind, suc (length begins.others)) = subst (λ (t : List ℕ). token_at (t ++ rest) ≡ Some (kind, length t)) e found in
    subst (λ (t : List ℕ). lex (t ++ rest) ≡ tok_from kind t ∷ lex rest) (sym e) (one_token kind begins.b begins.others rest begins.black begins.note here)

pub lex_mark : (b : ℕ) (rest : List ℕ) → token_at (b ∷ rest) ≡ Some (kinds.Mark, 1) → is_white b ≡ false → b ≢ 35 → lex (b ∷ rest) ≡ MarkTok b ∷ lex rest
lex_mark b rest found black note = one_token kinds.Mark b [] rest black note found

pub lex_name : (b : ℕ) (others rest : List ℕ) → is_white b ≡ false → b ≢ 35 → is_ascii_alphabetic b ≡ true → AllByRecursion (λ c. is_ascii_alphanumeric c ≡ true) others → Stops is_ascii_alphanumeric rest → lex (b ∷ (others ++ rest)) ≡ NameTok (b ∷ others) ∷ lex rest
lex_name b others rest black note letter each ends = one_token kinds.Name b others rest black note (exact_name b others rest letter each ends)

pub text_tok : (inside : List ℕ) → tok_from kinds.Text (34 ∷ (inside ++ 34 ∷ [])) ≡ TextTok inside
text_tok inside =
    let len = length-append inside (34 ∷ []) in
    let two : ltb (suc (length (inside ++ 34 ∷ []))) 2 ≡ false = le-ltb (suc (length (inside ++ 34 ∷ []))) 2 (omega (arith, len)) in
    let k : suc (length (inside ++ 34 ∷ [])) - 2 ≡ length inside = omega (arith, len) in
    let first : take (length inside) (inside ++ 34 ∷ []) ≡ inside = take_at inside (34 ∷ []) (length inside) refl in
    rw (two, k, first) refl

pub lex_text : (inside rest : List ℕ) → AllByRecursion (λ b. (b ≢ 34) × (b ≢ 10)) inside → lex (34 ∷ (inside ++ 34 ∷ rest)) ≡ TextTok inside ∷ lex rest
lex_text inside rest each =
    let bytes = 34 ∷ (inside ++ 34 ∷ []) in
    let same : bytes ++ rest ≡ 34 ∷ (inside ++ 34 ∷ rest) = ap (λ (t : List ℕ). 34 ∷ t) (append_assoc inside (34 ∷ []) rest) in
    let found : token_at (bytes ++ rest) ≡ Some (kinds.Text, length bytes) = ap token_at same ∙ exact_text inside rest each in
    sym (ap lex same) ∙ lex_token kinds.Text bytes rest (record { b = 34; others = inside ++ 34 ∷ []; text = refl; black = refl; note = λ e. omega (arith, e) }) found ∙ ap (λ (t : Tok). t ∷ lex rest) (text_tok inside)

-- a number that begins with a minus or a digit
pub lex_number : (sign : Sign) (front : List ℕ) (fraction : Option (List ℕ)) (rest : List ℕ) → all_ascii_digits front ≡ true → all_ascii_digits (fraction_digits fraction) ≡ true → 0 < length front + length (fraction_digits fraction) → EndsNumber rest
    → Begins (sign_text sign ++ (front ++ fraction_text fraction)) → lex ((sign_text sign ++ (front ++ fraction_text fraction)) ++ rest) ≡ NumberTok (sign_text sign ++ (front ++ fraction_text fraction)) ∷ lex rest
lex_number sign front fraction rest all behind some ends begins =
    let bytes = sign_text sign ++ (front ++ fraction_text fraction) in
    let same : bytes ++ rest ≡ sign_text sign ++ (front ++ (fraction_text fraction ++ rest)) = append_assoc (sign_text sign) (front ++ fraction_text fraction) rest ∙ ap (λ (t : List ℕ). sign_text sign ++ t) (append_assoc front (fraction_text fraction) rest) in
    lex_token kinds.Number bytes rest begins (ap token_at same ∙ exact_number sign front fraction rest all behind some ends)
