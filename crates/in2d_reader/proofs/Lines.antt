-- The words of lines of words are those words.
use Rattle.std.proofs.Common.{◌≡◌, ℕ, List, [], ◌∷◌, ◌++◌, refl, sym, ap, ◌∙◌, append_assoc}
use Rattle.std.specs.List.{flat_map, AllByRecursion}
use Rattle.word_scan.specs.Scan.{words_of}
use Rattle.word_scan.specs.Parts.{Part, Space, Run, spelling, EndsWord, IsRun, AreParts, runs}
use Rattle.word_scan.proofs.Laws.{reads_text}
use Rattle.in2d_reader.specs.Words.{Word}
use Rattle.in2d_reader.specs.Normal.{spaced, line_text}

-- the parts of a line, and those behind it
rest_parts : List Word → List Part → List Part
rest_parts [] after = Space 10 ∷ after
rest_parts (word ∷ words) after = Space 32 ∷ Run word ∷ rest_parts words after

line_parts : List Word → List Part → List Part
line_parts [] after = Space 10 ∷ after
line_parts (word ∷ words) after = Run word ∷ rest_parts words after

lines_parts : List (List Word) → List Part
lines_parts [] = []
lines_parts (line ∷ lines) = line_parts line (lines_parts lines)

rest_white : (words : List Word) (after : List Part) → EndsWord (spelling (rest_parts words after))
unfolding rest_parts
rest_white [] after = refl
rest_white (word ∷ words) after = refl

rest_are : (words : List Word) (after : List Part) → AllByRecursion IsRun words → AreParts after → AreParts (rest_parts words after)
unfolding rest_parts
rest_are [] after each are = (refl, are)
rest_are (word ∷ words) after each are = (refl, (each.0, rest_white words after, rest_are words after each.1 are))

line_are : (words : List Word) (after : List Part) → AllByRecursion IsRun words → AreParts after → AreParts (line_parts words after)
unfolding line_parts
line_are [] after each are = (refl, are)
line_are (word ∷ words) after each are = (each.0, rest_white words after, rest_are words after each.1 are)

lines_are : (lines : List (List Word)) → AllByRecursion (λ line. AllByRecursion IsRun line) lines → AreParts (lines_parts lines)
unfolding lines_parts
lines_are [] each = tt
lines_are (line ∷ lines) each = line_are line (lines_parts lines) each.0 (lines_are lines each.1)

rest_spelled : (words : List Word) (after : List Part) → spelling (rest_parts words after) ≡ spaced words ++ (10 ∷ spelling after)
unfolding rest_parts
rest_spelled [] after = refl
rest_spelled (word ∷ words) after = ap (λ (t : List ℕ). 32 ∷ (word ++ t)) (rest_spelled words after) ∙ ap (λ (t : List ℕ). 32 ∷ t) (sym (append_assoc word (spaced words) (10 ∷ spelling after)))

line_spelled : (words : List Word) (after : List Part) → spelling (line_parts words after) ≡ line_text words ++ spelling after
unfolding line_parts
line_spelled [] after = refl
line_spelled (word ∷ words) after =
    ap (λ (t : List ℕ). word ++ t) (rest_spelled words after ∙ sym (append_assoc (spaced words) (10 ∷ []) (spelling after))) ∙ sym (append_assoc word (spaced words ++ 10 ∷ []) (spelling after))

lines_spelled : (lines : List (List Word)) → spelling (lines_parts lines) ≡ flat_map line_text lines
unfolding lines_parts
lines_spelled [] = refl
lines_spelled (line ∷ lines) = line_spelled line (lines_parts lines) ∙ ap (λ (t : List ℕ). line_text line ++ t) (lines_spelled lines)

rest_runs : (words : List Word) (after : List Part) → runs (rest_parts words after) ≡ words ++ runs after
unfolding rest_parts
rest_runs [] after = refl
rest_runs (word ∷ words) after = ap (λ (w : List Word). word ∷ w) (rest_runs words after)

line_runs : (words : List Word) (after : List Part) → runs (line_parts words after) ≡ words ++ runs after
unfolding line_parts
line_runs [] after = refl
line_runs (word ∷ words) after = ap (λ (w : List Word). word ∷ w) (rest_runs words after)

lines_runs : (lines : List (List Word)) → runs (lines_parts lines) ≡ flat_map (λ line. line) lines
unfolding lines_parts
lines_runs [] = refl
lines_runs (line ∷ lines) = line_runs line (lines_parts lines) ∙ ap (λ (w : List Word). line ++ w) (lines_runs lines)

pub words_of_lines : (lines : List (List Word)) → AllByRecursion (λ line. AllByRecursion IsRun line) lines → words_of (flat_map line_text lines) ≡ flat_map (λ line. line) lines
words_of_lines lines each = (reads_text (flat_map line_text lines)).bytes (lines_parts lines) (lines_are lines each) (lines_spelled lines) ∙ lines_runs lines
