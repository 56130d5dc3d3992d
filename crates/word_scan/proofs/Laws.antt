-- The walk over a text in the spaced style gives the words of its parts.
use Rattle.std.proofs.Common.{◌≡◌, ◌≢◌, ℕ, suc, ◌+◌, ◌-◌, ◌≤◌, Bool, true, false, eqb, List, [], ◌∷◌, ◌++◌, length, map, refl, sym, ap, subst, ◌∙◌, arith, append_assoc, length-append}
use Rattle.std.specs.List.{AllByRecursion}
use Rattle.std.proofs.lemmas.Bool.{ne_eqb, eqb-true, eqb-false}
use Rattle.std.proofs.lemmas.List.{take_at, drop_at}
use Rattle.word_scan.specs.declared.scanner.Word.{Word}
use Rattle.word_scan.specs.Bytes.{is_white, plain, bytes_of}
use Rattle.word_scan.specs.Parts.{Part, Space, Note, Run, spelling, EndsLine, EndsWord, IsRun, AreParts, places, runs, Reads}
use Rattle.word_scan.specs.Scan.{Between, InNote, InWord, words_from, spaced_words}

-- ---- the walk over parts

-- a comment's bytes are passed
over_note : (at i : ℕ) (bytes rest : List ℕ) → AllByRecursion (λ b. b ≢ 10) bytes → words_from InNote at i (bytes ++ rest) ≡ words_from InNote at (i + length bytes) rest
unfolding words_from
over_note at i [] rest each = let k : i + 0 ≡ i = omega arith in rw k refl
over_note at i (b ∷ bytes) rest each =
    let k : i + 1 + length bytes ≡ i + suc (length bytes) = omega arith in
    rw (ne_eqb _ _ each.0) (over_note at (i + 1) bytes rest each.1 ∙ ap (λ (j : ℕ). words_from InNote at j rest) k)

-- behind a comment there is the next line or the end
after_note : (at i : ℕ) (rest : List ℕ) → EndsLine rest → words_from InNote at i rest ≡ words_from Between at i rest
unfolding words_from
after_note at i [] ends = refl
after_note at i (b ∷ rest) ends = rw ends refl

-- a word's bytes are passed
over_word : (from at i : ℕ) (bytes rest : List ℕ) → AllByRecursion (λ b. is_white b ≡ false) bytes → words_from (InWord from) at i (bytes ++ rest) ≡ words_from (InWord from) at (i + length bytes) rest
unfolding words_from
over_word from at i [] rest each = let k : i + 0 ≡ i = omega arith in rw k refl
over_word from at i (b ∷ bytes) rest each =
    let k : i + 1 + length bytes ≡ i + suc (length bytes) = omega arith in
    rw each.0 (over_word from at (i + 1) bytes rest each.1 ∙ ap (λ (j : ℕ). words_from (InWord from) at j rest) k)

after_word : (from at i : ℕ) (rest : List ℕ) → EndsWord rest → words_from (InWord from) at i rest ≡ plain at from i ∷ words_from Between (at + 1) i rest
unfolding words_from
after_word from at i [] ends = refl
after_word from at i (b ∷ rest) ends = rw ends refl

whole_word : (at i : ℕ) (bytes rest : List ℕ) → IsRun bytes → EndsWord rest → words_from Between at i (bytes ++ rest) ≡ plain at i (i + length bytes) ∷ words_from Between (at + 1) (i + length bytes) rest
unfolding words_from
whole_word at i [] rest run ends = absurd (omega (arith, run.some))
whole_word at i (b ∷ bytes) rest run ends =
    let k : i + 1 + length bytes ≡ i + suc (length bytes) = omega arith in
    let passed : words_from (InWord i) at (i + 1) (bytes ++ rest) ≡ words_from (InWord i) at (i + suc (length bytes)) rest = over_word i at (i + 1) bytes rest run.each.1 ∙ ap (λ (j : ℕ). words_from (InWord i) at j rest) k in
    rw (run.each.0, ne_eqb _ _ run.start) (passed ∙ after_word i at (i + suc (length bytes)) rest ends)

pub words_of_parts : (at i : ℕ) (parts : List Part) → AreParts parts → words_from Between at i (spelling parts) ≡ places at i parts
unfolding words_from
words_of_parts at i [] fit = refl
words_of_parts at i (Space b ∷ parts) fit = rw fit.0 (words_of_parts at (i + 1) parts fit.1)
words_of_parts at i (Note bytes ∷ parts) fit =
    over_note at (i + 1) bytes (spelling parts) fit.0 ∙ after_note at (i + 1 + length bytes) (spelling parts) fit.1 ∙ words_of_parts at (i + 1 + length bytes) parts fit.2
words_of_parts at i (Run bytes ∷ parts) fit =
    whole_word at i bytes (spelling parts) fit.0 fit.1 ∙ ap (λ (words : List Word). plain at i (i + length bytes) ∷ words) (words_of_parts (at + 1) (i + length bytes) parts fit.2)

-- ---- each text has parts

record Splits (text : List ℕ) : Type 0 where
  parts : List Part
  fit : AreParts parts
  same : spelling parts ≡ text

-- bytes that a comment or a word goes on with, and parts behind them
record SplitsAfter (P : ℕ → Type 0) (Ends : List ℕ → Type 0) (text : List ℕ) : Type 0 where
  bytes : List ℕ
  parts : List Part
  each : AllByRecursion P bytes
  ends : Ends (spelling parts)
  fit : AreParts parts
  same : bytes ++ spelling parts ≡ text

abbrev IsNoFeed : ℕ → Type 0
IsNoFeed b = b ≢ 10

abbrev IsBlack : ℕ → Type 0
IsBlack b = is_white b ≡ false

space_first : (b : ℕ) (text : List ℕ) → is_white b ≡ true → Splits text → Splits (b ∷ text)
space_first b text white s = record { parts = Space b ∷ s.parts; fit = (white, s.fit); same = ap (λ (t : List ℕ). b ∷ t) s.same }

note_first : (text : List ℕ) → SplitsAfter IsNoFeed EndsLine text → Splits (35 ∷ text)
note_first text s = record { parts = Note s.bytes ∷ s.parts; fit = (s.each, s.ends, s.fit); same = ap (λ (t : List ℕ). 35 ∷ t) s.same }

run_first : (b : ℕ) (text : List ℕ) → is_white b ≡ false → b ≢ 35 → SplitsAfter IsBlack EndsWord text → Splits (b ∷ text)
run_first b text black mark s = record {
  parts = Run (b ∷ s.bytes) ∷ s.parts;
  fit = (record { some = omega arith; each = (black, s.each); start = mark }, s.ends, s.fit);
  same = ap (λ (t : List ℕ). b ∷ t) s.same;
}

word_or_note : (mark : Bool) (b : ℕ) (text : List ℕ) → eqb b 35 ≡ mark → is_white b ≡ false → SplitsAfter IsNoFeed EndsLine text → SplitsAfter IsBlack EndsWord text → Splits (b ∷ text)
word_or_note true b text e black note word = subst (λ (c : ℕ). Splits (c ∷ text)) (sym (eqb-true b 35 e)) (note_first text note)
word_or_note false b text e black note word = run_first b text black (eqb-false b 35 e) word

first_part : (white : Bool) (b : ℕ) (text : List ℕ) → is_white b ≡ white → Splits text → SplitsAfter IsNoFeed EndsLine text → SplitsAfter IsBlack EndsWord text → Splits (b ∷ text)
first_part true b text e s note word = space_first b text e s
first_part false b text e s note word = word_or_note (eqb b 35) b text refl e note word

in_note : (feed : Bool) (b : ℕ) (text : List ℕ) → eqb b 10 ≡ feed → Splits text → SplitsAfter IsNoFeed EndsLine text → SplitsAfter IsNoFeed EndsLine (b ∷ text)
in_note true b text e s note =
    let feed : b ≡ 10 = eqb-true b 10 e in
    let white : is_white b ≡ true = rw feed refl in
    record { bytes = []; parts = Space b ∷ s.parts; each = tt; ends = feed; fit = (white, s.fit); same = ap (λ (t : List ℕ). b ∷ t) s.same }
in_note false b text e s note = record { bytes = b ∷ note.bytes; parts = note.parts; each = (eqb-false b 10 e, note.each); ends = note.ends; fit = note.fit; same = ap (λ (t : List ℕ). b ∷ t) note.same }

in_word : (white : Bool) (b : ℕ) (text : List ℕ) → is_white b ≡ white → Splits text → SplitsAfter IsBlack EndsWord text → SplitsAfter IsBlack EndsWord (b ∷ text)
in_word true b text e s word = record { bytes = []; parts = Space b ∷ s.parts; each = tt; ends = e; fit = (e, s.fit); same = ap (λ (t : List ℕ). b ∷ t) s.same }
in_word false b text e s word = record { bytes = b ∷ word.bytes; parts = word.parts; each = (e, word.each); ends = word.ends; fit = word.fit; same = ap (λ (t : List ℕ). b ∷ t) word.same }

record AllSplits (text : List ℕ) : Type 0 where
  between : Splits text
  note : SplitsAfter IsNoFeed EndsLine text
  word : SplitsAfter IsBlack EndsWord text

all_splits : (text : List ℕ) → AllSplits text
all_splits [] = record {
  between = record { parts = []; fit = tt; same = refl };
  note = record { bytes = []; parts = []; each = tt; ends = tt; fit = tt; same = refl };
  word = record { bytes = []; parts = []; each = tt; ends = tt; fit = tt; same = refl };
}
all_splits (b ∷ text) =
    let s = all_splits text in
    record {
      between = first_part (is_white b) b text refl s.between s.note s.word;
      note = in_note (eqb b 10) b text refl s.between s.note;
      word = in_word (is_white b) b text refl s.between s.word;
    }

-- ---- the bytes of the words of parts

bytes_are : (text before bytes rest : List ℕ) (at i : ℕ) → text ≡ before ++ (bytes ++ rest) → i ≡ length before → bytes_of text (plain at i (i + length bytes)) ≡ bytes
bytes_are text before bytes rest at i e place =
    let k : i + length bytes - i ≡ length bytes = omega arith in
    rw (e, k, drop_at before (bytes ++ rest) i (sym place)) (take_at bytes rest (length bytes) refl)

pub bytes_of_places : (text before : List ℕ) (at i : ℕ) (parts : List Part) → text ≡ before ++ spelling parts → i ≡ length before → map (bytes_of text) (places at i parts) ≡ runs parts
bytes_of_places text before at i [] e place = refl
bytes_of_places text before at i (Space b ∷ parts) e place =
    bytes_of_places text (before ++ b ∷ []) at (i + 1) parts (e ∙ sym (append_assoc before (b ∷ []) (spelling parts))) (omega (arith, length-append before (b ∷ [])))
bytes_of_places text before at i (Note bytes ∷ parts) e place =
    bytes_of_places text (before ++ 35 ∷ bytes) at (i + 1 + length bytes) parts (e ∙ sym (append_assoc before (35 ∷ bytes) (spelling parts))) (omega (arith, length-append before (35 ∷ bytes)))
bytes_of_places text before at i (Run bytes ∷ parts) e place =
    let first : bytes_of text (plain at i (i + length bytes)) ≡ bytes = bytes_are text before bytes (spelling parts) at i e place in
    let others : map (bytes_of text) (places (at + 1) (i + length bytes) parts) ≡ runs parts = bytes_of_places text (before ++ bytes) (at + 1) (i + length bytes) parts (e ∙ sym (append_assoc before bytes (spelling parts))) (omega (arith, length-append before bytes)) in
    rw (first, others) refl

-- the walk's words are the words of the text
pub reads_text : (text : List ℕ) → Reads text (spaced_words text)
reads_text text =
    let all = all_splits text in
    let places_are : (parts : List Part) → AreParts parts → spelling parts ≡ text → spaced_words text ≡ places 1 0 parts = λ parts fit e. ap (λ (t : List ℕ). words_from Between 1 0 t) (sym e) ∙ words_of_parts 1 0 parts fit in
    record {
      some = (all.between.parts, all.between.fit, all.between.same);
      only = places_are;
      bytes = λ parts fit e. rw (places_are parts fit e) (bytes_of_places text [] 1 0 parts (sym e) refl);
    }

-- ---- a text has no more words than bytes

few_places : (at i : ℕ) (parts : List Part) → AreParts parts → length (places at i parts) ≤ length (spelling parts)
few_places at i [] are = omega arith
few_places at i (Space b ∷ parts) are = omega (arith, few_places at (i + 1) parts are.1)
few_places at i (Note bytes ∷ parts) are = omega (arith, few_places at (i + 1 + length bytes) parts are.2, length-append bytes (spelling parts))
few_places at i (Run bytes ∷ parts) are = omega (arith, few_places (at + 1) (i + length bytes) parts are.2, length-append bytes (spelling parts), are.0.some)

pub few_words : (text : List ℕ) → length (spaced_words text) ≤ length text
few_words text =
    let reads = reads_text text in
    let (parts, are, same) = reads.some in
    omega (arith, ap length (reads.only parts are same), few_places 1 0 parts are, ap length same)
