-- The words of a text in which each word has one white byte beside it.
use Rattle.std.proofs.Common.{◌≡◌, ℕ, true, List, [], ◌∷◌, ◌++◌, map, refl, sym, ap, ◌∙◌, append_assoc}
use Rattle.std.specs.List.{flat_map, AllByRecursion}
use Rattle.std.proofs.lemmas.List.{append-nil, map-append}
use Rattle.std.proofs.lemmas.List.Concat.{flat_map-append}
use Rattle.word_scan.specs.Bytes.{is_white}
use Rattle.word_scan.specs.Parts.{Part, Space, Run, spelling, IsRun, AreParts, runs}
use Rattle.word_scan.specs.Scan.{words_of}
use Rattle.word_scan.proofs.Laws.{reads_text}

-- a white byte before its word, and behind it
abbrev pub before : ℕ × List ℕ → List ℕ
before p = p.0 ∷ p.1

abbrev pub behind : ℕ × List ℕ → List ℕ
behind p = p.1 ++ p.0 ∷ []

pub record IsPiece (p : ℕ × List ℕ) : Type 0 where
  pub white : is_white p.0 ≡ true
  pub run : IsRun p.1

-- the bytes are these words, each with a white byte on this side
pub record Spells (side : ℕ × List ℕ → List ℕ) (bytes : List ℕ) (words : List (List ℕ)) : Type 0 where
  pub pieces : List (ℕ × List ℕ)
  pub are : AllByRecursion IsPiece pieces
  pub text : bytes ≡ flat_map side pieces
  pub says : words ≡ map (λ p. p.1) pieces

pub nothing : (side : ℕ × List ℕ → List ℕ) → Spells side [] []
nothing side = record { pieces = []; are = tt; text = refl; says = refl }

all_both : (xs ys : List (ℕ × List ℕ)) → AllByRecursion IsPiece xs → AllByRecursion IsPiece ys → AllByRecursion IsPiece (xs ++ ys)
all_both [] ys p q = q
all_both (x ∷ xs) ys p q = (p.0, all_both xs ys p.1 q)

pub both : {side : ℕ × List ℕ → List ℕ} {a b : List ℕ} {v w : List (List ℕ)} → Spells side a v → Spells side b w → Spells side (a ++ b) (v ++ w)
both {side} {a} {b} {v} {w} p q = record {
  pieces = p.pieces ++ q.pieces;
  are = all_both p.pieces q.pieces p.are q.are;
  text = ap (λ (t : List ℕ). t ++ b) p.text ∙ ap (λ (t : List ℕ). flat_map side p.pieces ++ t) q.text ∙ sym (flat_map-append side p.pieces q.pieces);
  says = ap (λ (t : List (List ℕ)). t ++ w) p.says ∙ ap (λ (t : List (List ℕ)). map (λ p. p.1) p.pieces ++ t) q.says ∙ sym (map-append (λ p. p.1) p.pieces q.pieces);
}

pub one : (side : ℕ × List ℕ → List ℕ) (b : ℕ) (w : List ℕ) → is_white b ≡ true → IsRun w → Spells side (side (b, w)) (w ∷ [])
one side b w white run = record {
  pieces = (b, w) ∷ [];
  are = (record { white = white; run = run }, tt);
  text = sym (append-nil (side (b, w)));
  says = refl;
}

pub regrouped : {side : ℕ × List ℕ → List ℕ} {a b : List ℕ} {words : List (List ℕ)} → a ≡ b → Spells side a words → Spells side b words
regrouped e s = record { pieces = s.pieces; are = s.are; text = sym e ∙ s.text; says = s.says }

-- ---- a line: a word, words with white bytes before them, and a white byte at the end

-- the same words with the white bytes behind them
turned : List ℕ → List (ℕ × List ℕ) → ℕ → List (ℕ × List ℕ)
turned w [] b = (b, w) ∷ []
turned w (p ∷ ps) b = (p.0, w) ∷ turned p.1 ps b

turned_are : (w : List ℕ) (ps : List (ℕ × List ℕ)) (b : ℕ) → IsRun w → AllByRecursion IsPiece ps → is_white b ≡ true → AllByRecursion IsPiece (turned w ps b)
unfolding turned
turned_are w [] b run are white = (record { white = white; run = run }, tt)
turned_are w (p ∷ ps) b run are white = (record { white = are.0.white; run = run }, turned_are p.1 ps b are.0.run are.1 white)

turned_text : (w : List ℕ) (ps : List (ℕ × List ℕ)) (b : ℕ) → w ++ flat_map before ps ++ b ∷ [] ≡ flat_map behind (turned w ps b)
unfolding turned
turned_text w [] b = ap (λ (t : List ℕ). t ++ b ∷ []) (append-nil w) ∙ sym (append-nil (w ++ b ∷ []))
turned_text w (p ∷ ps) b = grouped w p.0 p.1 (flat_map before ps) b ∙ ap (λ (t : List ℕ). (w ++ p.0 ∷ []) ++ t) (turned_text p.1 ps b)
  where
    grouped : (w : List ℕ) (c : ℕ) (v rest : List ℕ) (b : ℕ) → w ++ (c ∷ v ++ rest) ++ b ∷ [] ≡ (w ++ c ∷ []) ++ (v ++ rest ++ b ∷ [])
    grouped w c v rest b = simp append_assoc

turned_words : (w : List ℕ) (ps : List (ℕ × List ℕ)) (b : ℕ) → w ∷ map (λ p. p.1) ps ≡ map (λ p. p.1) (turned w ps b)
unfolding turned
turned_words w [] b = refl
turned_words w (p ∷ ps) b = ap (λ (t : List (List ℕ)). w ∷ t) (turned_words p.1 ps b)

pub line : {bytes : List ℕ} {words : List (List ℕ)} (w : List ℕ) (b : ℕ) → is_white b ≡ true → IsRun w → Spells before bytes words → Spells behind (w ++ bytes ++ b ∷ []) (w ∷ words)
line {bytes} {words} w b white run s = record {
  pieces = turned w s.pieces b;
  are = turned_are w s.pieces b run s.are white;
  text = ap (λ (t : List ℕ). w ++ t ++ b ∷ []) s.text ∙ turned_text w s.pieces b;
  says = ap (λ (t : List (List ℕ)). w ∷ t) s.says ∙ turned_words w s.pieces b;
}

-- ---- so the text has these words

parts : List (ℕ × List ℕ) → List Part
parts [] = []
parts (p ∷ ps) = Run p.1 ∷ Space p.0 ∷ parts ps

parts_are : (ps : List (ℕ × List ℕ)) → AllByRecursion IsPiece ps → AreParts (parts ps)
unfolding parts
parts_are [] are = tt
parts_are (p ∷ ps) are = (are.0.run, are.0.white, (are.0.white, parts_are ps are.1))

parts_text : (ps : List (ℕ × List ℕ)) → spelling (parts ps) ≡ flat_map behind ps
unfolding parts
parts_text [] = refl
parts_text (p ∷ ps) = ap (λ (t : List ℕ). p.1 ++ p.0 ∷ t) (parts_text ps) ∙ sym (append_assoc p.1 (p.0 ∷ []) (flat_map behind ps))

parts_words : (ps : List (ℕ × List ℕ)) → runs (parts ps) ≡ map (λ p. p.1) ps
unfolding parts
parts_words [] = refl
parts_words (p ∷ ps) = ap (λ (t : List (List ℕ)). p.1 ∷ t) (parts_words ps)

pub words_spelled : (bytes : List ℕ) (words : List (List ℕ)) → Spells behind bytes words → words_of bytes ≡ words
words_spelled bytes words s =
    (reads_text bytes).bytes (parts s.pieces) (parts_are s.pieces s.are) (parts_text s.pieces ∙ sym s.text) ∙ parts_words s.pieces ∙ sym s.says
