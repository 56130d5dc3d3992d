-- Readers of sections read just what the grammar says.
use Rattle.std.proofs.Common.{◌≡◌, ℕ, zero, suc, ◌+◌, ◌≤◌, Bool, true, false, cond, List, [], ◌∷◌, ◌++◌, Option, Some, None, is_some, Ok, refl, sym, ap, subst, ◌∙◌, append_assoc, ℤ, arith}
use Rattle.std.specs.Str.{bytes_eq}
use Rattle.std.proofs.lemmas.Slice.Eq.{bytes_eq-Decides}
use Rattle.std.proofs.lemmas.List.{append-nil}
use Rattle.rule_reader.specs.declared.reader.Fit.TheVariants.{Fits, Unfit}
use Rattle.rule_reader.specs.declared.reader.Bound.{Bound}
use Rattle.rule_reader.specs.declared.reader.Bound.TheVariants.{First, Second, Mapped, Any}
use Rattle.rule_reader.specs.declared.rule.MapPoint.{MapPoint}
use Rattle.rule_reader.specs.declared.rule.MapLine.{MapLine}
use Rattle.rule_reader.specs.declared.rule.Place.{Place}
use Rattle.rule_reader.specs.declared.sections.Parts.{Parts}
use Rattle.rule_reader.specs.declared.sections.SectionKind.{SectionKind}
use Rattle.rule_reader.specs.declared.sections.SectionKind.TheVariants as kind
use Rattle.rule_reader.specs.Words.{Tok, MarkTok, TextTok, NumberTok, NameTok, BadTok, State, head}
use Rattle.rule_reader.specs.Reading.{Read, ◌>>=◌, judged, is_fit, fit_if, mark_fit, name_fit, is_at, inner_terms_at, row_at, any_row_at, rows_at, quality_at, entries_at, map_point_at, map_line_at, place_at, pair_at, element_at, turn_at}
use Rattle.rule_reader.specs.Sections.{section_of, has, fresh, section_fit, content_at, section_at, endrule_word, sections_at, empty_parts}
use Rattle.rule_reader.specs.Grammar.{Limits, standard, Said, plain, words, ◌▹◌, done, at_most, coordinates, ends, map_point, map_line, place, pair, element, turn, quality, section_word, content, section, sections, any_sections}
use Rattle.rule_reader.proofs.Good.{Good, Always, IsWord, good_word, good_before, ◌▸◌, pure, seq, seq_before, good_done, ended, after, after_after, words_append, bind_ok, ok_is}
use Rattle.rule_reader.proofs.GoodEntries.{good_quality, good_pair, good_element}
use Rattle.rule_reader.proofs.GoodLists.{mark_head, then_head, NoMark, good_map_point, good_map_line, good_turn}
use Rattle.rule_reader.proofs.GoodMany.{good_entries, good_place, done_words, bind_same}
use Rattle.rule_reader.proofs.Within.{inner_terms_in, row_in, any_row_in, rows_in, place_in, content_in, section_word_at, section_in, sections_in}

-- ---- the word of a section

fresh_had : (parts : Parts) (s v : SectionKind) (b : Bool) → has s parts ≡ b → cond b Unfit (Fits s) ≡ Fits v → (Some s ≡ Some v) × (has v parts ≡ false)
fresh_had parts s v true h e = absurd cc
fresh_had parts s v false h e = let same : s ≡ v = cc in (ap (λ (k : SectionKind). Some k) same, subst (λ (k : SectionKind). has k parts ≡ false) same h)

fresh_is : (parts : Parts) (o : Option SectionKind) (v : SectionKind) → fresh parts o ≡ Fits v → (o ≡ Some v) × (has v parts ≡ false)
fresh_is parts None v e = absurd cc
fresh_is parts (Some s) v e = fresh_had parts s v (has s parts) refl e

section_sound : (parts : Parts) (t : Tok) (v : SectionKind) → section_fit parts (Some t) ≡ Fits v → section_word parts (plain t ∷ []) v
unfolding section_word
section_sound parts (MarkTok c) v e = absurd cc
section_sound parts (TextTok bytes) v e = absurd cc
section_sound parts (NumberTok bytes) v e = absurd cc
section_sound parts (NameTok bytes) v e = let f = fresh_is parts (section_of bytes) v e in (bytes, refl, f.0, f.1)
section_sound parts BadTok v e = absurd cc

fresh_fits : (parts : Parts) (o : Option SectionKind) (v : SectionKind) → o ≡ Some v → has v parts ≡ false → fresh parts o ≡ Fits v
fresh_fits parts o v e h = ap (fresh parts) e ∙ rw h refl

is_section_word : (parts : Parts) → IsWord SectionKind (section_word parts) (section_fit parts)
unfolding section_word
is_section_word parts = record { none = λ v e. absurd cc; sound = section_sound parts; complete = λ said v l. (NameTok l.0, l.1, fresh_fits parts (section_of l.0) v l.2 l.3) }

pub good_section_word : (parts : Parts) → Good SectionKind Always (section_word parts) (section_word_at parts)
unfolding section_word_at
good_section_word parts = good_word SectionKind (section_word parts) (section_fit parts) (is_section_word parts)

-- ---- what a section holds

abbrev Next : List Tok → Type 0
Next = NoMark 40

placed : {A : Type 0} {L : List Said → List A → Type 0} {p : State → Read (List A)} (put : List A → Parts) → Good (List A) Next L p → Good Parts Next (L ▹ λ x. done (put x)) (p ▸ λ x. pure (put x))
placed put g = seq_before g (λ x. good_before Parts Always Next (done (put x)) (pure (put x)) (ended (put x)) (λ more f. tt)) (λ x said y more m f. subst Next (sym (done_words (put x) said y more m)) f)

-- entries begin with a round bracket
pub coordinates_head : {A : Type 0} (M : ℤ × ℤ → List Said → A → Type 0) (said : List Said) (v : A) (more : List Tok) → (coordinates ▹ M) said v → head (words said ++ more) ≡ Some (MarkTok 40)
coordinates_head M said v more l = then_head _ (λ o. o ≡ Some (MarkTok 40)) (λ s w m k. mark_head _ 40 s w m k) said v more l

pub ends_head : {A : Type 0} (M : ℕ × ℕ → List Said → A → Type 0) (from to : Bound) (said : List Said) (v : A) (more : List Tok) → (ends from to ▹ M) said v → head (words said ++ more) ≡ Some (MarkTok 40)
ends_head M from to said v more l = then_head _ (λ o. o ≡ Some (MarkTok 40)) (λ s w m k. mark_head _ 40 s w m k) said v more l

pub map_line_head : (k : ℕ) (said : List Said) (v : MapLine) (more : List Tok) → map_line k said v → head (words said ++ more) ≡ Some (MarkTok 40)
map_line_head zero said v more l = ends_head _ First Second said v more l
map_line_head (suc k) said v more l = ends_head _ Mapped Mapped said v more l

pub element_head : (k : ℕ) (said : List Said) (v : List ℕ) (more : List Tok) → element k said v → head (words said ++ more) ≡ Some (MarkTok 40)
element_head k said v more l = then_head _ (λ o. o ≡ Some (MarkTok 40)) (λ s w m n. mark_head _ 40 s w m n) said v more l

twin_MapPoints : (most : Limits) (parts : Parts) → Good Parts Next (at_most (most 2) map_point ▹ λ x. done (record parts { points = Some x })) (entries_at map_point_at 2 0 (most 2) ▸ λ x. pure (record parts { points = Some x }))
twin_MapPoints most parts = placed (λ x. record parts { points = Some x }) (good_entries MapPoint map_point map_point_at 2 (most 2) good_map_point (λ k said v more l. coordinates_head _ said v more l))

twin_MapLines : (most : Limits) (parts : Parts) → Good Parts Next (at_most (most 3) map_line ▹ λ x. done (record parts { lines = Some x })) (entries_at map_line_at 3 0 (most 3) ▸ λ x. pure (record parts { lines = Some x }))
twin_MapLines most parts = placed (λ x. record parts { lines = Some x }) (good_entries MapLine map_line map_line_at 3 (most 3) good_map_line map_line_head)

twin_NewPoints : (most : Limits) (parts : Parts) → Good Parts Next (at_most (most 4) (place most) ▹ λ x. done (record parts { new_points = Some x })) (entries_at (place_in most) 4 0 (most 4) ▸ λ x. pure (record parts { new_points = Some x }))
twin_NewPoints most parts = placed (λ x. record parts { new_points = Some x }) (good_entries Place (place most) (place_in most) 4 (most 4) (good_place most) (λ k said v more l. coordinates_head _ said v more l))

twin_NewLines : (most : Limits) (parts : Parts) → Good Parts Next (at_most (most 5) pair ▹ λ x. done (record parts { new_lines = Some x })) (entries_at pair_at 5 0 (most 5) ▸ λ x. pure (record parts { new_lines = Some x }))
twin_NewLines most parts = placed (λ x. record parts { new_lines = Some x }) (good_entries (ℕ × ℕ) pair pair_at 5 (most 5) good_pair (λ k said v more l. ends_head _ Any Any said v more l))

twin_FreeArea : (most : Limits) (parts : Parts) → Good Parts Next (at_most (most 6) (place most) ▹ λ x. done (record parts { area = Some x })) (entries_at (place_in most) 6 0 (most 6) ▸ λ x. pure (record parts { area = Some x }))
twin_FreeArea most parts = placed (λ x. record parts { area = Some x }) (good_entries Place (place most) (place_in most) 6 (most 6) (good_place most) (λ k said v more l. coordinates_head _ said v more l))

twin_FreeArea2 : (most : Limits) (parts : Parts) → Good Parts Next (at_most (most 7) (place most) ▹ λ x. done (record parts { limit = Some x })) (entries_at (place_in most) 7 0 (most 7) ▸ λ x. pure (record parts { limit = Some x }))
twin_FreeArea2 most parts = placed (λ x. record parts { limit = Some x }) (good_entries Place (place most) (place_in most) 7 (most 7) (good_place most) (λ k said v more l. coordinates_head _ said v more l))

twin_Elements : (most : Limits) (parts : Parts) → Good Parts Next (at_most (most 8) element ▹ λ x. done (record parts { elements = Some x })) (entries_at element_at 8 0 (most 8) ▸ λ x. pure (record parts { elements = Some x }))
twin_Elements most parts = placed (λ x. record parts { elements = Some x }) (good_entries (List ℕ) element element_at 8 (most 8) good_element element_head)

twin_Orientations : (most : Limits) (parts : Parts) → Good Parts Next (at_most (most 9) turn ▹ λ x. done (record parts { turns = Some x })) (entries_at turn_at 9 0 (most 9) ▸ λ x. pure (record parts { turns = Some x }))
twin_Orientations most parts = placed (λ x. record parts { turns = Some x }) (good_entries (ℕ × ℕ × ℕ) turn turn_at 9 (most 9) good_turn (λ k said v more l. mark_head _ 40 said v more l))

twin_Quality : (parts : Parts) → Good Parts Next (quality ▹ λ x. done (record parts { quality = Some x })) (quality_at ▸ λ x. pure (record parts { quality = Some x }))
twin_Quality parts = seq good_quality (λ x. good_before Parts Always Next (done (record parts { quality = Some x })) (pure (record parts { quality = Some x })) (ended (record parts { quality = Some x })) (λ more f. tt))

good_content : (most : Limits) (parts : Parts) (k : SectionKind) → Good Parts Next (content most parts k) (content_in most parts k)
unfolding content_in
good_content most parts kind.Quality = twin_Quality parts
good_content most parts kind.MapPoints = twin_MapPoints most parts
good_content most parts kind.MapLines = twin_MapLines most parts
good_content most parts kind.NewPoints = twin_NewPoints most parts
good_content most parts kind.NewLines = twin_NewLines most parts
good_content most parts kind.FreeArea = twin_FreeArea most parts
good_content most parts kind.FreeArea2 = twin_FreeArea2 most parts
good_content most parts kind.Elements = twin_Elements most parts
good_content most parts kind.Orientations = twin_Orientations most parts

pub good_section : (most : Limits) (parts : Parts) → Good Parts Next (section most parts) (section_in most parts)
unfolding section_in
good_section most parts = seq (good_section_word parts) (λ k. good_content most parts k)

-- ---- sections one after another

-- the end of the rule comes next
abbrev pub AtEnd : List Tok → Type 0
AtEnd more = head more ≡ Some (NameTok endrule_word)

abbrev is_end : Option Tok → Bool
is_end o = is_fit (name_fit endrule_word o)

end_self : is_fit (name_fit endrule_word (Some (NameTok endrule_word))) ≡ true
end_self = rw ((bytes_eq-Decides endrule_word endrule_word).1 refl) refl

no_section : section_of endrule_word ≡ None
no_section = refl

fits_if : (b : Bool) → is_fit (fit_if b) ≡ b
fits_if true = refl
fits_if false = refl

-- a section doesn't begin with the word that ends a rule
name_no_end : (bytes : List ℕ) (k : SectionKind) (b : Bool) → section_of bytes ≡ Some k → bytes_eq bytes endrule_word ≡ b → b ≡ false
name_no_end bytes k false s e = refl
name_no_end bytes k true s e =
    let same : bytes ≡ endrule_word = (bytes_eq-Decides bytes endrule_word).0 e in
    let none : None ≡ Some k = sym no_section ∙ ap section_of (sym same) ∙ s in
    absurd cc

section_head : (parts : Parts) (said : List Said) (v : SectionKind) (more : List Tok) → section_word parts said v → (bytes : List ℕ) × (head (words said ++ more) ≡ Some (NameTok bytes)) × (is_end (Some (NameTok bytes)) ≡ false)
unfolding section_word
section_head parts said v more l = (l.0, ap (λ (s : List Said). head (words s ++ more)) l.1, fits_if (bytes_eq l.0 endrule_word) ∙ name_no_end l.0 v (bytes_eq l.0 endrule_word) l.2 refl)

section_no_end : (most : Limits) (parts : Parts) (said : List Said) (v : Parts) (more : List Tok) → section most parts said v → (is_end (head (words said ++ more)) ≡ false) × NoMark 40 (words said ++ more)
section_no_end most parts said v more l = then_head _ (λ o. (is_end o ≡ false) × (is_fit (mark_fit 40 o) ≡ false)) (λ s w m k. let h = section_head parts s w m k in (ap is_end h.1 ∙ h.2, ap (λ o. is_fit (mark_fit 40 o)) h.1)) said v more l

sections_no_mark : (most : Limits) (count : ℕ) (parts : Parts) (said : List Said) (v : Parts) (more : List Tok) → sections most count parts said v → AtEnd more → NoMark 40 (words said ++ more)
unfolding sections
sections_no_mark most zero parts said v more l f = subst (NoMark 40) (sym (done_words parts said v more l)) (ap (λ o. is_fit (mark_fit 40 o)) f)
sections_no_mark most (suc count) parts said v more l f = then_head _ (λ o. is_fit (mark_fit 40 o) ≡ false) (λ s w m k. (section_no_end most parts s w m k).1) said v more l

abbrev TakesSections : Limits → State → Parts → Parts × State → Type 0
TakesSections most st parts p = (count : ℕ) × (said : List Said) × sections most count parts said p.0 × (st.left ≡ words said ++ p.1.left) × (p.1 ≡ after st said p.1.left)

none_taken : (most : Limits) (st : State) (parts : Parts) → TakesSections most st parts (parts, st)
unfolding sections done
none_taken most st parts = (zero, [], (refl, refl), refl, ap (λ us. record { left = st.left; uses = us; rule = st.rule }) (sym (append-nil st.uses)))

one_taken : (most : Limits) (st : State) (parts mid : Parts) (p : Parts × State) (count : ℕ) (a b : List Said) (st1 : State) → section most parts a mid → sections most count mid b p.0 → st.left ≡ words a ++ st1.left → st1 ≡ after st a st1.left → st1.left ≡ words b ++ p.1.left → p.1 ≡ after st1 b p.1.left → TakesSections most st parts p
unfolding sections ◌▹◌
one_taken most st parts mid p count a b st1 la lb left1 place1 left2 place2 =
    let left : st.left ≡ words (a ++ b) ++ p.1.left = left1 ∙ ap (λ (ts : List Tok). words a ++ ts) left2 ∙ sym (append_assoc (words a) (words b) p.1.left) ∙ ap (λ (ts : List Tok). ts ++ p.1.left) (sym (words_append a b)) in
    let place : st1 ≡ after st a (words b ++ p.1.left) = place1 ∙ ap (after st a) left2 in
    (suc count, a ++ b, (mid, a, b, la, lb, refl), left, place2 ∙ ap (λ (s : State). after s b p.1.left) place ∙ after_after st a b p.1.left)

sections_step : (most : Limits) (room : ℕ) (b : Bool) (parts : Parts) (st : State) (p : Parts × State) → ((parts2 : Parts) (st1 : State) (p2 : Parts × State) → sections_in most room parts2 st1 ≡ Ok p2 → TakesSections most st1 parts2 p2)
    → cond b (Ok (parts, st)) (section_in most parts st >>= λ x. sections_in most room x.0 x.1) ≡ Ok p → TakesSections most st parts p
sections_step most room true parts st p others e = subst (TakesSections most st parts) (ok_is (parts, st) p e) (none_taken most st parts)
sections_step most room false parts st p others e =
    let b = bind_ok (section_in most parts st) (λ x. sections_in most room x.0 x.1) p e in
    let t1 = (good_section most parts).takes st b.0.0 b.0.1 b.1 in
    let t2 = others b.0.0 b.0.1 p b.2 in
    one_taken most st parts b.0.0 p t2.0 t1.0 t2.1 b.0.1 t1.1 t2.2 t1.2 t1.3 t2.3 t2.4

sections_take : (most : Limits) (room : ℕ) (parts : Parts) (st : State) (p : Parts × State) → sections_in most room parts st ≡ Ok p → TakesSections most st parts p
unfolding sections_in
sections_take most zero parts st p e = subst (TakesSections most st parts) (ok_is (parts, st) p e) (none_taken most st parts)
sections_take most (suc room) parts st p e = sections_step most room (is_at endrule_word st) parts st p (sections_take most room) e

sections_again : (most : Limits) (room count : ℕ) (parts : Parts) (said : List Said) (v : Parts) (st : State) (more : List Tok) → sections most count parts said v → count ≤ room → AtEnd more → st.left ≡ words said ++ more → sections_in most room parts st ≡ Ok (v, after st said more)
unfolding sections sections_in ◌▹◌
sections_again most zero zero parts said v st more l few f left = (good_done Parts parts).again said v st more l tt left
sections_again most (suc room) zero parts said v st more l few f left =
    let here : is_at endrule_word st ≡ true = ap (λ (ts : List Tok). is_end (head ts)) (left ∙ done_words parts said v more l) ∙ ap is_end f ∙ end_self in
    rw here ((good_done Parts parts).again said v st more l tt left)
sections_again most zero (suc count) parts said v st more l few f left = absurd (omega arith)
sections_again most (suc room) (suc count) parts said v st more l few f left =
    let mid = l.0 in
    let a = l.1 in
    let b = l.2 in
    let left2 : st.left ≡ words a ++ (words b ++ more) = left ∙ ap (λ (s : List Said). words s ++ more) l.5 ∙ ap (λ (ts : List Tok). ts ++ more) (words_append a b) ∙ append_assoc (words a) (words b) more in
    let here : is_at endrule_word st ≡ false = ap (λ (ts : List Tok). is_end (head ts)) left2 ∙ (section_no_end most parts a mid (words b ++ more) l.3).0 in
    let one : section_in most parts st ≡ Ok (mid, after st a (words b ++ more)) = (good_section most parts).again a mid st (words b ++ more) l.3 (sections_no_mark most count mid b v more l.4 f) left2 in
    let two : sections_in most room mid (after st a (words b ++ more)) ≡ Ok (v, after (after st a (words b ++ more)) b more) = sections_again most room count mid b v (after st a (words b ++ more)) more l.4 (omega arith) f refl in
    rw (here, one) (two ∙ ap (λ (s : State). Ok (v, s)) (after_after st a b more ∙ ap (λ (s : List Said). after st s more) (sym l.5)))

-- ---- no more than one section of each kind

abbrev one_if : Bool → ℕ
one_if true = 1
one_if false = 0

one_at_most : (b : Bool) → one_if b ≤ 1
one_at_most true = omega arith
one_at_most false = omega arith

-- how many sections these parts have
abbrev filled : Parts → ℕ
filled p = one_if (is_some p.quality) + one_if (is_some p.points) + one_if (is_some p.lines) + one_if (is_some p.new_points) + one_if (is_some p.new_lines) + one_if (is_some p.area) + one_if (is_some p.limit) + one_if (is_some p.elements) + one_if (is_some p.turns)

at_most_nine : (p : Parts) → filled p ≤ 9
at_most_nine p = omega (arith, one_at_most (is_some p.quality), one_at_most (is_some p.points), one_at_most (is_some p.lines), one_at_most (is_some p.new_points), one_at_most (is_some p.new_lines), one_at_most (is_some p.area), one_at_most (is_some p.limit), one_at_most (is_some p.elements), one_at_most (is_some p.turns))

content_fills : (most : Limits) (parts : Parts) (k : SectionKind) (said : List Said) (v : Parts) → has k parts ≡ false → content most parts k said v → filled v ≡ suc (filled parts)
unfolding ◌▹◌ done
content_fills most parts kind.Quality said v none l = let one : one_if (is_some parts.quality) ≡ 0 = ap one_if none in ap filled l.4.1 ∙ omega (arith, one)
content_fills most parts kind.MapPoints said v none l = let one : one_if (is_some parts.points) ≡ 0 = ap one_if none in ap filled l.4.1 ∙ omega (arith, one)
content_fills most parts kind.MapLines said v none l = let one : one_if (is_some parts.lines) ≡ 0 = ap one_if none in ap filled l.4.1 ∙ omega (arith, one)
content_fills most parts kind.NewPoints said v none l = let one : one_if (is_some parts.new_points) ≡ 0 = ap one_if none in ap filled l.4.1 ∙ omega (arith, one)
content_fills most parts kind.NewLines said v none l = let one : one_if (is_some parts.new_lines) ≡ 0 = ap one_if none in ap filled l.4.1 ∙ omega (arith, one)
content_fills most parts kind.FreeArea said v none l = let one : one_if (is_some parts.area) ≡ 0 = ap one_if none in ap filled l.4.1 ∙ omega (arith, one)
content_fills most parts kind.FreeArea2 said v none l = let one : one_if (is_some parts.limit) ≡ 0 = ap one_if none in ap filled l.4.1 ∙ omega (arith, one)
content_fills most parts kind.Elements said v none l = let one : one_if (is_some parts.elements) ≡ 0 = ap one_if none in ap filled l.4.1 ∙ omega (arith, one)
content_fills most parts kind.Orientations said v none l = let one : one_if (is_some parts.turns) ≡ 0 = ap one_if none in ap filled l.4.1 ∙ omega (arith, one)

section_fills : (most : Limits) (parts : Parts) (said : List Said) (v : Parts) → section most parts said v → filled v ≡ suc (filled parts)
unfolding ◌▹◌ section_word
section_fills most parts said v l = content_fills most parts l.0 l.2 v l.3.3 l.4

few_sections : (most : Limits) (count : ℕ) (parts : Parts) (said : List Said) (v : Parts) → sections most count parts said v → count + filled parts ≤ 9
unfolding sections ◌▹◌
few_sections most zero parts said v l = omega (arith, at_most_nine parts)
few_sections most (suc count) parts said v l =
    let fills : filled l.0 ≡ suc (filled parts) = section_fills most parts l.1 l.0 l.3 in
    omega (arith, few_sections most count l.0 l.2 v l.4, fills)

pub good_sections : (most : Limits) → Good Parts AtEnd (any_sections most) (sections_in most 9 empty_parts)
unfolding any_sections
good_sections most =
    record {
      takes = λ st v st2 e. let t = sections_take most 9 empty_parts st (v, st2) e in (t.1, (t.0, t.2), t.3, t.4);
      again = λ said v st more l f left. sections_again most 9 l.0 empty_parts said v st more l.1 (omega (arith, few_sections most l.0 empty_parts said v l.1)) f left;
    }

-- ---- the standard limits

pub same_place : (before : ℕ) (st : State) → place_at before st ≡ place_in standard before st
unfolding place_at rows_at any_row_at row_at inner_terms_at place_in rows_in any_row_in row_in inner_terms_in ◌▸◌ pure
same_place before st = refl

pub same_content : (parts : Parts) (k : SectionKind) (st : State) → content_at parts k st ≡ content_in standard parts k st
unfolding content_at content_in place_at rows_at any_row_at row_at inner_terms_at place_in rows_in any_row_in row_in inner_terms_in ◌▸◌ pure
same_content parts kind.Quality st = refl
same_content parts kind.MapPoints st = refl
same_content parts kind.MapLines st = refl
same_content parts kind.NewPoints st = refl
same_content parts kind.NewLines st = refl
same_content parts kind.FreeArea st = refl
same_content parts kind.FreeArea2 st = refl
same_content parts kind.Elements st = refl
same_content parts kind.Orientations st = refl

pub same_section : (parts : Parts) (st : State) → section_at parts st ≡ section_in standard parts st
unfolding section_at section_in section_word_at ◌▸◌
same_section parts st = bind_same (judged (section_fit parts (head st.left)) st) (λ w. content_at parts w.0 w.1) (λ w. content_in standard parts w.0 w.1) (λ w. same_content parts w.0 w.1)

pub same_sections : (room : ℕ) (parts : Parts) (st : State) → sections_at room parts st ≡ sections_in standard room parts st
unfolding sections_at sections_in
same_sections zero parts st = refl
same_sections (suc room) parts st =
    ap (λ r. cond (is_at endrule_word st) (Ok (parts, st)) r) (ap (λ r. r >>= λ p. sections_at room p.0 p.1) (same_section parts st) ∙ bind_same (section_in standard parts st) (λ p. sections_at room p.0 p.1) (λ p. sections_in standard room p.0 p.1) (λ p. same_sections room p.0 p.1))
