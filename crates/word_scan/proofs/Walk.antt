-- A walk over a text in the spaced style, byte by byte.
use Rattle.std.proofs.Common.{◌≡◌, ◌≢◌, ℕ, ◌+◌, ◌<◌, ◌≤◌, true, false, List, [], ◌∷◌, length, get_or, drop, refl, sym, ap, subst, ◌∙◌, arith}
use Rattle.std.proofs.lemmas.List.{at_drop_more, at_drop_all, drop_more}
use Rattle.std.proofs.lemmas.Bool.{ne_eqb}
use Rattle.word_scan.specs.declared.scanner.Word.{Word}
use Rattle.word_scan.specs.declared.scanner.Style.{Style}
use Rattle.word_scan.specs.declared.scanner.Style.TheVariants.{Spaced, Tokens}
use Rattle.word_scan.specs.declared.scanner.ScanRefusal.TheVariants.{End}
use Rattle.word_scan.specs.Bytes.{is_white, plain}
use Rattle.word_scan.specs.Scan.{Mode, Between, InNote, InWord, words_from, StartsWord, Scan, scan_from}

-- one byte of the walk, and its end
pub walk_step : (mode : Mode) (at i : ℕ) (text : List ℕ) → i < length text → words_from mode at i (drop i text) ≡ words_from mode at i (get_or text i 0 ∷ drop (i + 1) text)
walk_step mode at i text inside = at_drop_more (words_from mode at i) text i 0 inside

pub walk_end : (mode : Mode) (at i : ℕ) (text : List ℕ) → length text ≤ i → words_from mode at i (drop i text) ≡ words_from mode at i []
walk_end mode at i text past = at_drop_all (words_from mode at i) text i past

pub note_goes_on : (at i : ℕ) (text : List ℕ) → i < length text → get_or text i 0 ≢ 10 → words_from InNote at i (drop i text) ≡ words_from InNote at (i + 1) (drop (i + 1) text)
unfolding words_from
note_goes_on at i text inside other = walk_step InNote at i text inside ∙ rw (ne_eqb _ _ other) refl

pub note_ends : (at i : ℕ) (text : List ℕ) → i < length text → get_or text i 0 ≡ 10 → words_from InNote at i (drop i text) ≡ words_from Between at (i + 1) (drop (i + 1) text)
unfolding words_from
note_ends at i text inside feed = walk_step InNote at i text inside ∙ rw feed refl

pub space_passes : (at i : ℕ) (text : List ℕ) → i < length text → is_white (get_or text i 0) ≡ true → words_from Between at i (drop i text) ≡ words_from Between at (i + 1) (drop (i + 1) text)
unfolding words_from
space_passes at i text inside white = walk_step Between at i text inside ∙ rw white refl

pub note_begins : (at i : ℕ) (text : List ℕ) → i < length text → get_or text i 0 ≡ 35 → words_from Between at i (drop i text) ≡ words_from InNote at (i + 1) (drop (i + 1) text)
unfolding words_from
note_begins at i text inside mark = walk_step Between at i text inside ∙ rw mark refl

pub word_begins : (at i : ℕ) (text : List ℕ) → i < length text → StartsWord (drop i text) → words_from Between at i (drop i text) ≡ words_from (InWord i) at (i + 1) (drop (i + 1) text)
unfolding words_from
word_begins at i text inside starts =
    let here = drop_more text i 0 inside in
    let first : StartsWord (get_or text i 0 ∷ drop (i + 1) text) = rw here at starts in
    walk_step Between at i text inside ∙ rw (first.0, ne_eqb _ _ first.1) refl

pub word_goes_on : (from at i : ℕ) (text : List ℕ) → i < length text → is_white (get_or text i 0) ≡ false → words_from (InWord from) at i (drop i text) ≡ words_from (InWord from) at (i + 1) (drop (i + 1) text)
unfolding words_from
word_goes_on from at i text inside black = walk_step (InWord from) at i text inside ∙ rw black refl

pub word_ends : (from at i : ℕ) (text : List ℕ) → i < length text → is_white (get_or text i 0) ≡ true → words_from (InWord from) at i (drop i text) ≡ plain at from i ∷ words_from Between (at + 1) i (drop i text)
unfolding words_from
word_ends from at i text inside white =
    let rest : words_from Between (at + 1) i (drop i text) ≡ words_from Between (at + 1) (i + 1) (drop (i + 1) text) = space_passes (at + 1) i text inside white in
    let here : words_from (InWord from) at i (drop i text) ≡ plain at from i ∷ words_from Between (at + 1) (i + 1) (drop (i + 1) text) = walk_step (InWord from) at i text inside ∙ rw white refl in
    here ∙ sym (ap (λ (words : List Word). plain at from i ∷ words) rest)

pub word_ends_all : (from at i : ℕ) (text : List ℕ) → length text ≤ i → words_from (InWord from) at i (drop i text) ≡ plain at from i ∷ words_from Between (at + 1) i (drop i text)
unfolding words_from
word_ends_all from at i text past = walk_end (InWord from) at i text past ∙ ap (λ (words : List Word). plain at from i ∷ words) (sym (walk_end Between (at + 1) i text past))

-- a comment ends at a line feed, which is white space, or at the end of the text
pub note_stops : (at i : ℕ) (text : List ℕ) → i < length text → get_or text i 0 ≡ 10 → words_from InNote at i (drop i text) ≡ words_from Between at i (drop i text)
note_stops at i text inside feed = note_ends at i text inside feed ∙ sym (space_passes at i text inside (ap is_white feed))

pub note_stops_all : (at i : ℕ) (text : List ℕ) → length text ≤ i → words_from InNote at i (drop i text) ≡ words_from Between at i (drop i text)
unfolding words_from
note_stops_all at i text past = walk_end InNote at i text past ∙ sym (walk_end Between at i text past)

-- behind the last gap there are no words
pub nothing_left : (at start i : ℕ) (text : List ℕ) → words_from Between at start (drop start text) ≡ words_from Between at i (drop i text) → i ≡ length text → words_from Between at start (drop start text) ≡ []
unfolding words_from
nothing_left at start i text same past = same ∙ walk_end Between at i text (omega arith)

pub refuses : (style : Style) (text : List ℕ) (place at : ℕ) (scan : Scan) → style ≡ Spaced → scan_from style text place at ≡ scan → words_from Between at place (drop place text) ≡ [] → (scan.left ≡ []) × (End ≡ scan.ending)
refuses Spaced text place at scan spaced e none = subst (λ (s : Scan). (s.left ≡ []) × (End ≡ s.ending)) e (none, refl)
refuses Tokens text place at scan spaced e none = absurd cc
