-- The walk over a text in the tokens style gives the tokens of its parts.
use Rattle.std.proofs.Common.{◌≡◌, ◌≢◌, ℕ, zero, suc, ◌+◌, ◌-◌, ◌≤◌, Bool, true, false, eqb, List, [], ◌∷◌, ◌++◌, length, take, drop, Option, Some, None, refl, sym, ap, subst, ◌∙◌, inl, inr, arith, append_assoc}
use Rattle.std.specs.List.{AllByRecursion}
use Rattle.std.proofs.lemmas.Bool.{ne_eqb, eqb-true, eqb-false, or_cases}
use Rattle.std.proofs.lemmas.List.{length-drop, take-append-drop}
use Rattle.word_scan.specs.declared.scanner.Word.{Word}
use Rattle.word_scan.specs.declared.scanner.Kind.{Kind}
use Rattle.word_scan.specs.declared.scanner.ScanRefusal.{ScanRefusal}
use Rattle.word_scan.specs.Bytes.{is_white}
use Rattle.word_scan.specs.Parts.{EndsLine}
use Rattle.word_scan.specs.Tokens.{InRemark, Past, token_at, put_first, tokens_from}
use Rattle.word_scan.specs.TokenParts.{IsLongest, TokenPart, White, Remark, Token, spelling, EndsTokens, AreTokenParts, token_places, refusal_at, TokenReads}
use Rattle.word_scan.proofs.LongestToken.{token_stands, longest_found, found_longest, none_found, found_none}

-- ---- the walk over parts

over_remark : (at i : ℕ) (bytes rest : List ℕ) → AllByRecursion (λ b. b ≢ 10) bytes → tokens_from InRemark at i (bytes ++ rest) ≡ tokens_from InRemark at (i + length bytes) rest
unfolding tokens_from
over_remark at i [] rest each = let k : i + 0 ≡ i = omega arith in rw k refl
over_remark at i (b ∷ bytes) rest each =
    let k : i + 1 + length bytes ≡ i + suc (length bytes) = omega arith in
    rw (ne_eqb _ _ each.0) (over_remark at (i + 1) bytes rest each.1 ∙ ap (λ (j : ℕ). tokens_from InRemark at j rest) k)

after_remark : (at i : ℕ) (rest : List ℕ) → EndsLine rest → tokens_from InRemark at i rest ≡ tokens_from (Past 0) at i rest
unfolding tokens_from
after_remark at i [] ends = refl
after_remark at i (b ∷ rest) ends = rw ends refl

passed : (at i : ℕ) (bytes rest : List ℕ) → tokens_from (Past (length bytes)) at i (bytes ++ rest) ≡ tokens_from (Past 0) at (i + length bytes) rest
unfolding tokens_from
passed at i [] rest = let k : i + 0 ≡ i = omega arith in rw k refl
passed at i (b ∷ bytes) rest =
    let k : i + 1 + length bytes ≡ i + suc (length bytes) = omega arith in
    passed at (i + 1) bytes rest ∙ ap (λ (j : ℕ). tokens_from (Past 0) at j rest) k

-- no token begins with white space or as a comment does

nothing_at : (b : ℕ) (bytes : List ℕ) (t : Kind × ℕ) → token_at (b ∷ bytes) ≡ None → token_at (b ∷ bytes) ≡ Some t → ⊥
nothing_at b bytes t none some = let both : None ≡ Some t = sym none ∙ some in absurd cc

at_space : (bytes : List ℕ) → (token_at (32 ∷ bytes) ≡ None) × (token_at (9 ∷ bytes) ≡ None) × (token_at (13 ∷ bytes) ≡ None) × (token_at (10 ∷ bytes) ≡ None) × (token_at (35 ∷ bytes) ≡ None)
unfolding token_at
at_space bytes = (refl, refl, refl, refl, refl)

no_note : (b : ℕ) (bytes : List ℕ) (t : Kind × ℕ) → token_at (b ∷ bytes) ≡ Some t → b ≢ 35
no_note b bytes t e is = nothing_at b bytes t (subst (λ (c : ℕ). token_at (c ∷ bytes) ≡ None) (sym is) (at_space bytes).4) e

white_is : (b : ℕ) (bytes : List ℕ) → is_white b ≡ true → token_at (b ∷ bytes) ≡ None
white_is b bytes white =
    let n = at_space bytes in
    elim (or_cases _ _ white) [
      | inr feed ↦ subst (λ (c : ℕ). token_at (c ∷ bytes) ≡ None) (sym (eqb-true b 10 feed)) n.3
      | inl others ↦ elim (or_cases _ _ others) [
        | inr return ↦ subst (λ (c : ℕ). token_at (c ∷ bytes) ≡ None) (sym (eqb-true b 13 return)) n.2
        | inl first ↦ elim (or_cases _ _ first) [
          | inr tab ↦ subst (λ (c : ℕ). token_at (c ∷ bytes) ≡ None) (sym (eqb-true b 9 tab)) n.1
          | inl space ↦ subst (λ (c : ℕ). token_at (c ∷ bytes) ≡ None) (sym (eqb-true b 32 space)) n.0
        ]
      ]
    ]

no_white : (w : Bool) (b : ℕ) (bytes : List ℕ) (t : Kind × ℕ) → is_white b ≡ w → token_at (b ∷ bytes) ≡ Some t → w ≡ false
no_white true b bytes t white e = absurd (nothing_at b bytes t (white_is b bytes white) e)
no_white false b bytes t white e = refl

token_given : (at i : ℕ) (kind : Kind) (b : ℕ) (bytes rest : List ℕ) → token_at (b ∷ (bytes ++ rest)) ≡ Some (kind, suc (length bytes))
    → tokens_from (Past 0) at i (b ∷ (bytes ++ rest)) ≡ put_first (record { at = at; from = i; to = i + suc (length bytes); kind = kind }) (tokens_from (Past 0) (at + 1) (i + suc (length bytes)) rest)
unfolding tokens_from
token_given at i kind b bytes rest found =
    let k : suc (length bytes) - 1 ≡ length bytes = omega arith in
    let place : i + 1 + length bytes ≡ i + suc (length bytes) = omega arith in
    rw (no_white (is_white b) b (bytes ++ rest) (kind, suc (length bytes)) refl found, ne_eqb b 35 (no_note b (bytes ++ rest) (kind, suc (length bytes)) found), found, k, passed (at + 1) (i + 1) bytes rest, place) refl

no_bytes : (kind : Kind) (rest : List ℕ) → token_at rest ≡ Some (kind, 0) → ⊥
no_bytes kind rest e = let s = token_stands rest kind 0 e in omega (arith, s.some)

whole_token : (at i : ℕ) (kind : Kind) (bytes rest : List ℕ) → token_at (bytes ++ rest) ≡ Some (kind, length bytes)
    → tokens_from (Past 0) at i (bytes ++ rest) ≡ put_first (record { at = at; from = i; to = i + length bytes; kind = kind }) (tokens_from (Past 0) (at + 1) (i + length bytes) rest)
whole_token at i kind [] rest found = absurd (no_bytes kind rest found)
whole_token at i kind (b ∷ bytes) rest found = token_given at i kind b bytes rest found

at_end : (at i : ℕ) (rest : List ℕ) → EndsTokens rest → tokens_from (Past 0) at i rest ≡ ([], refusal_at at rest)
unfolding tokens_from
at_end at i [] ends = refl
at_end at i (b ∷ rest) ends = rw (ends.0, ne_eqb b 35 ends.1, found_none (b ∷ rest) ends.2) refl

abbrev of_parts : ℕ → ℕ → List TokenPart → List ℕ → List Word × ScanRefusal
of_parts at i parts rest = (token_places at i parts, refusal_at (at + length (token_places at i parts)) rest)

words_of_parts : (at i : ℕ) (parts : List TokenPart) (rest : List ℕ) → AreTokenParts parts rest → tokens_from (Past 0) at i (spelling parts ++ rest) ≡ of_parts at i parts rest
unfolding tokens_from
words_of_parts at i [] rest fit = let k : at ≡ at + 0 = omega arith in at_end at i rest fit ∙ ap (λ (n : ℕ). ([], refusal_at n rest)) k
words_of_parts at i (White b ∷ parts) rest fit = rw fit.0 (words_of_parts at (i + 1) parts rest fit.1)
words_of_parts at i (Remark bytes ∷ parts) rest fit =
    ap (λ (t : List ℕ). tokens_from InRemark at (i + 1) t) (append_assoc bytes (spelling parts) rest) ∙ over_remark at (i + 1) bytes (spelling parts ++ rest) fit.0 ∙ after_remark at (i + 1 + length bytes) (spelling parts ++ rest) fit.1
    ∙ words_of_parts at (i + 1 + length bytes) parts rest fit.2
words_of_parts at i (Token kind bytes ∷ parts) rest fit =
    let word : Word = record { at = at; from = i; to = i + length bytes; kind = kind } in
    let others = token_places (at + 1) (i + length bytes) parts in
    let k : at + 1 + length others ≡ at + suc (length others) = omega arith in
    ap (λ (t : List ℕ). tokens_from (Past 0) at i t) (append_assoc bytes (spelling parts) rest) ∙ whole_token at i kind bytes (spelling parts ++ rest) (found_longest kind bytes (spelling parts ++ rest) fit.0)
    ∙ ap (put_first word) (words_of_parts (at + 1) (i + length bytes) parts rest fit.1) ∙ ap (λ (n : ℕ). (word ∷ others, refusal_at n rest)) k

-- ---- each text has parts

record Parted (text : List ℕ) : Type 0 where
  parts : List TokenPart
  rest : List ℕ
  fit : AreTokenParts parts rest
  same : spelling parts ++ rest ≡ text

-- a comment's bytes, and parts behind them
record PartedRemark (text : List ℕ) : Type 0 where
  bytes : List ℕ
  parts : List TokenPart
  rest : List ℕ
  each : AllByRecursion (λ b. b ≢ 10) bytes
  ends : EndsLine (spelling parts ++ rest)
  fit : AreTokenParts parts rest
  same : bytes ++ (spelling parts ++ rest) ≡ text

white_first : (b : ℕ) (text : List ℕ) → is_white b ≡ true → Parted text → Parted (b ∷ text)
white_first b text white s = record { parts = White b ∷ s.parts; rest = s.rest; fit = (white, s.fit); same = ap (λ (t : List ℕ). b ∷ t) s.same }

remark_first : (text : List ℕ) → PartedRemark text → Parted (35 ∷ text)
remark_first text s = record { parts = Remark s.bytes ∷ s.parts; rest = s.rest; fit = (s.each, s.ends, s.fit); same = ap (λ (t : List ℕ). 35 ∷ t) (append_assoc s.bytes (spelling s.parts) s.rest ∙ s.same) }

token_first : (text : List ℕ) (kind : Kind) (len : ℕ) → token_at text ≡ Some (kind, len) → Parted (drop len text) → Parted text
token_first text kind len found s =
    let longest : IsLongest kind (take len text) (spelling s.parts ++ s.rest) = subst (λ (t : List ℕ). IsLongest kind (take len text) t) (sym s.same) (longest_found text kind len found) in
    record {
      parts = Token kind (take len text) ∷ s.parts;
      rest = s.rest;
      fit = (longest, s.fit);
      same = append_assoc (take len text) (spelling s.parts) s.rest ∙ ap (λ (t : List ℕ). take len text ++ t) s.same ∙ take-append-drop len text;
    }

no_part : (b : ℕ) (text : List ℕ) → is_white b ≡ false → b ≢ 35 → token_at (b ∷ text) ≡ None → Parted (b ∷ text)
no_part b text black note none = record { parts = []; rest = b ∷ text; fit = (black, note, none_found (b ∷ text) none); same = refl }

-- a text is parted where all shorter ones are
by_token : (b : ℕ) (text : List ℕ) → is_white b ≡ false → b ≢ 35 → ((t : List ℕ) → length t ≤ length text → Parted t) → (o : Option (Kind × ℕ)) → token_at (b ∷ text) ≡ o → Parted (b ∷ text)
by_token b text black note shorter None e = no_part b text black note e
by_token b text black note shorter (Some p) e =
    let s = token_stands (b ∷ text) p.0 p.1 e in
    token_first (b ∷ text) p.0 p.1 e (shorter (drop p.1 (b ∷ text)) (omega (arith, length-drop p.1 (b ∷ text), s.some)))

by_note : (note : Bool) (b : ℕ) (text : List ℕ) → eqb b 35 ≡ note → is_white b ≡ false → PartedRemark text → ((t : List ℕ) → length t ≤ length text → Parted t) → Parted (b ∷ text)
by_note true b text e black remark shorter = subst (λ (c : ℕ). Parted (c ∷ text)) (sym (eqb-true b 35 e)) (remark_first text remark)
by_note false b text e black remark shorter = by_token b text black (eqb-false b 35 e) shorter (token_at (b ∷ text)) refl

by_white : (white : Bool) (b : ℕ) (text : List ℕ) → is_white b ≡ white → Parted text → PartedRemark text → ((t : List ℕ) → length t ≤ length text → Parted t) → Parted (b ∷ text)
by_white true b text e s remark shorter = white_first b text e s
by_white false b text e s remark shorter = by_note (eqb b 35) b text refl e remark shorter

in_remark : (feed : Bool) (b : ℕ) (text : List ℕ) → eqb b 10 ≡ feed → Parted text → PartedRemark text → PartedRemark (b ∷ text)
in_remark true b text e s remark =
    let feed : b ≡ 10 = eqb-true b 10 e in
    let white : is_white b ≡ true = rw feed refl in
    record { bytes = []; parts = White b ∷ s.parts; rest = s.rest; each = tt; ends = feed; fit = (white, s.fit); same = ap (λ (t : List ℕ). b ∷ t) s.same }
in_remark false b text e s remark = record { bytes = b ∷ remark.bytes; parts = remark.parts; rest = remark.rest; each = (eqb-false b 10 e, remark.each); ends = remark.ends; fit = remark.fit; same = ap (λ (t : List ℕ). b ∷ t) remark.same }

record BothParted (text : List ℕ) : Type 0 where
  between : Parted text
  remark : PartedRemark text

none_parted : BothParted []
none_parted = record { between = record { parts = []; rest = []; fit = tt; same = refl }; remark = record { bytes = []; parts = []; rest = []; each = tt; ends = tt; fit = tt; same = refl } }

parted_within : (n : ℕ) (text : List ℕ) → length text ≤ n → BothParted text
parted_within n [] le = none_parted
parted_within zero (b ∷ text) le = absurd (omega (arith, le))
parted_within (suc n) (b ∷ text) le =
    let here = parted_within n text (omega (arith, le)) in
    record {
      between = by_white (is_white b) b text refl here.between here.remark (λ t short. (parted_within n t (omega (arith, le, short))).between);
      remark = in_remark (eqb b 10) b text refl here.between here.remark;
    }

-- ---- the tokens of a text

pub reads_tokens : (text : List ℕ) → TokenReads text (tokens_from (Past 0) 1 0 text).0 (tokens_from (Past 0) 1 0 text).1
reads_tokens text =
    let s = (parted_within (length text) text (omega arith)).between in
    let all : (parts : List TokenPart) (rest : List ℕ) → AreTokenParts parts rest → spelling parts ++ rest ≡ text → tokens_from (Past 0) 1 0 text ≡ of_parts 1 0 parts rest = λ parts rest fit e. ap (tokens_from (Past 0) 1 0) (sym e) ∙ words_of_parts 1 0 parts rest fit in
    record {
      some = (s.parts, s.rest, s.fit, s.same);
      places = λ parts rest fit e. ap (λ (p : List Word × ScanRefusal). p.0) (all parts rest fit e);
      last = λ parts rest fit e. ap (λ (p : List Word × ScanRefusal). p.1) (all parts rest fit e);
    }
