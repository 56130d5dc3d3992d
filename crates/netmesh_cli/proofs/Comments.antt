-- What `geom` writes has the words of the normal text: the comments behind it have none.
use Rattle.std.proofs.Common.{◌≡◌, ◌≢◌, ℕ, zero, suc, ◌+◌, ◌/◌, ◌%◌, Bool, true, false, cond, not, ◌==◌, ◌&&◌, List, [], ◌∷◌, ◌++◌, map, ℤ, pos, negsuc, Result, Ok, refl, sym, ap, subst, ◌∙◌, arith, append_assoc}
use Rattle.std.specs.Prelude.{codes}
use Rattle.std.specs.List.{flat_map, AllByRecursion}
use Rattle.std.specs.Fmt.{decimal, signed_decimal, digits, digits_onto, digit_glyph}
use Rattle.std.proofs.lemmas.Bool.{and_parts, not-true, eqb-false}
use Rattle.std.proofs.lemmas.List.{append-nil}
use Rattle.word_scan.specs.Scan.{words_of}
use Rattle.word_scan.specs.Parts.{Part, Space, Note, Run, part_bytes, spelling, EndsLine, EndsWord, AreParts, runs}
use Rattle.word_scan.proofs.Laws.{reads_text}
use Rattle.in2d_reader.specs.declared.geometry.RawGeometry.{RawGeometry}
use Rattle.in2d_reader.specs.Words.{Word, head_word, points_word, segments_word}
use Rattle.in2d_reader.specs.Grammar.{Derives}
use Rattle.in2d_reader.specs.Normal.{spaced, line_text, decimal_text, point_line, segment_line, material_lines, normal_text, CanPrint}
use Rattle.in2d_reader.proofs.Printed.{is_again}
use Rattle.in2d_reader.proofs.Texts.{flat_map_both}
use Rattle.geom_check.specs.declared.kinds.Domain.{Domain}
use Rattle.geom_check.specs.Geometry.{PlanarMap}
use Rattle.netmesh_cli.specs.Shown.{double_area, shift_line, domain_line, shown_text}

-- ---- bytes without a line feed

abbrev NoFeed : List ℕ → Type 0
NoFeed bytes = AllByRecursion (λ b. b ≢ 10) bytes

no_feed_both : (a b : List ℕ) → NoFeed a → NoFeed b → NoFeed (a ++ b)
no_feed_both [] b p q = q
no_feed_both (x ∷ a) b p q = (p.0, no_feed_both a b p.1 q)

-- a test that a literal passes by computing
is_unfed : List ℕ → Bool
is_unfed [] = true
is_unfed (b ∷ bytes) = not (b == 10) && is_unfed bytes

no_feed_by : (bytes : List ℕ) → is_unfed bytes ≡ true → NoFeed bytes
unfolding is_unfed
no_feed_by [] e = tt
no_feed_by (b ∷ bytes) e =
    let tests = and_parts (not (b == 10)) (is_unfed bytes) e in
    (eqb-false b 10 (not-true (b == 10) tests.0), no_feed_by bytes tests.1)

glyph_is_other : (d : ℕ) → digit_glyph false d ≢ 10
glyph_is_other d = by _
  where
    by : (small : Bool) → cond small (48 + d) (87 + d) ≢ 10
    by true e = omega (arith, e)
    by false e = omega (arith, e)

digits_no_feed : (k n : ℕ) (after : List ℕ) → NoFeed after → NoFeed (digits_onto k 10 false n after)
digits_no_feed zero n after unfed = unfed
digits_no_feed (suc k) n after unfed =
    let first : NoFeed (digit_glyph false (n % 10) ∷ after) = (glyph_is_other (n % 10), unfed) in
    by _ _ (n / 10 == 0) first (digits_no_feed k (n / 10) (digit_glyph false (n % 10) ∷ after) first)
  where
    by : (a b : List ℕ) (last : Bool) → NoFeed a → NoFeed b → NoFeed (cond last a b)
    by a b true p q = p
    by a b false p q = q

decimal_no_feed : (n : ℕ) → NoFeed (decimal n)
unfolding digits
decimal_no_feed n = digits_no_feed 64 n [] tt

signed_no_feed : (z : ℤ) → NoFeed (signed_decimal z)
signed_no_feed (pos n) = decimal_no_feed n
signed_no_feed (negsuc n) = (λ e. omega (arith, e), decimal_no_feed (suc n))

-- ---- parts on both sides of a line feed

feed_ends_line : (p q : List Part) → EndsLine (spelling p) → EndsLine (spelling p ++ (10 ∷ spelling q))
feed_ends_line p q = by (spelling p)
  where
    by : (text : List ℕ) → EndsLine text → EndsLine (text ++ (10 ∷ spelling q))
    by [] ends = refl
    by (b ∷ text) ends = ends

feed_ends_word : (p q : List Part) → EndsWord (spelling p) → EndsWord (spelling p ++ (10 ∷ spelling q))
feed_ends_word p q = by (spelling p)
  where
    by : (text : List ℕ) → EndsWord text → EndsWord (text ++ (10 ∷ spelling q))
    by [] ends = refl
    by (b ∷ text) ends = ends

both_spelled : (p q : List Part) → spelling (p ++ (Space 10 ∷ q)) ≡ spelling p ++ (10 ∷ spelling q)
both_spelled p q = flat_map_both part_bytes p (Space 10 ∷ q)

both_fit : (p q : List Part) → AreParts p → AreParts q → AreParts (p ++ (Space 10 ∷ q))
both_fit [] q fit fits = (refl, fits)
both_fit (Space b ∷ p) q fit fits = (fit.0, both_fit p q fit.1 fits)
both_fit (Note bytes ∷ p) q fit fits = (fit.0, subst EndsLine (sym (both_spelled p q)) (feed_ends_line p q fit.1), both_fit p q fit.2 fits)
both_fit (Run bytes ∷ p) q fit fits = (fit.0, subst EndsWord (sym (both_spelled p q)) (feed_ends_word p q fit.1), both_fit p q fit.2 fits)

both_runs : (p q : List Part) → runs (p ++ (Space 10 ∷ q)) ≡ runs p ++ runs q
both_runs [] q = refl
both_runs (Space b ∷ p) q = both_runs p q
both_runs (Note bytes ∷ p) q = both_runs p q
both_runs (Run bytes ∷ p) q = ap (λ (words : List (List ℕ)). bytes ∷ words) (both_runs p q)

-- the words of both sides
both_read : (text body : List ℕ) (p q : List Part) → text ≡ body ++ (10 ∷ spelling q) → AreParts p → spelling p ≡ body → AreParts q → words_of text ≡ runs p ++ runs q
both_read text body p q same fit spelled fits =
    let all : spelling (p ++ (Space 10 ∷ q)) ≡ text = both_spelled p q ∙ ap (λ (t : List ℕ). t ++ (10 ∷ spelling q)) spelled ∙ sym same in
    (reads_text text).bytes (p ++ (Space 10 ∷ q)) (both_fit p q fit fits) all ∙ both_runs p q

-- behind a line feed parts without a word change no words
same_words : (text body : List ℕ) (q : List Part) → text ≡ body ++ (10 ∷ spelling q) → AreParts q → runs q ≡ [] → words_of text ≡ words_of (body ++ 10 ∷ [])
same_words text body q same fits none =
    let parts = (reads_text body).some in
    both_read text body parts.0 q same parts.1 parts.2 fits ∙ ap (λ (words : List (List ℕ)). runs parts.0 ++ words) none ∙ sym (both_read (body ++ 10 ∷ []) body parts.0 [] refl parts.1 parts.2 tt)

-- ---- comment lines

note_line : List ℕ → List ℕ
note_line note = 35 ∷ (note ++ 10 ∷ [])

note_parts : List (List ℕ) → List Part
note_parts [] = []
note_parts (note ∷ notes) = Note note ∷ Space 10 ∷ note_parts notes

notes_fit : (notes : List (List ℕ)) → AllByRecursion NoFeed notes → AreParts (note_parts notes)
unfolding note_parts
notes_fit [] each = tt
notes_fit (note ∷ notes) each = (each.0, refl, (refl, notes_fit notes each.1))

notes_run : (notes : List (List ℕ)) → runs (note_parts notes) ≡ []
unfolding note_parts
notes_run [] = refl
notes_run (note ∷ notes) = notes_run notes

notes_spelled : (notes : List (List ℕ)) → spelling (note_parts notes) ≡ flat_map note_line notes
unfolding note_parts note_line
notes_spelled [] = refl
notes_spelled (note ∷ notes) = ap (λ (t : List ℕ). 35 ∷ (note ++ (10 ∷ t))) (notes_spelled notes) ∙ ap (λ (t : List ℕ). 35 ∷ t) (sym (append_assoc note (10 ∷ []) (flat_map note_line notes)))

-- ---- the comments of a geometry

shift_note : PlanarMap → List ℕ
shift_note g = codes " shift " ++ signed_decimal g.shift

domain_note : PlanarMap → Domain → List ℕ
domain_note g d = codes " domain " ++ (decimal d.number ++ (codes " area " ++ signed_decimal (double_area g d.number)))

shift_is : (g : PlanarMap) → shift_line g ≡ note_line (shift_note g)
unfolding shift_note note_line
shift_is g = refl

joined : (a b c d e : List ℕ) → a ++ b ++ c ++ d ++ e ≡ (a ++ (b ++ (c ++ d))) ++ e
joined a b c d e = ap (λ (t : List ℕ). t ++ e) (append_assoc (a ++ b) c d ∙ append_assoc a b (c ++ d))

domain_text : (d s : List ℕ) → codes "# domain " ++ d ++ codes " area " ++ s ++ codes "\n" ≡ note_line (codes " domain " ++ (d ++ (codes " area " ++ s)))
unfolding note_line
domain_text d s = ap (λ (t : List ℕ). 35 ∷ t) (joined (codes " domain ") d (codes " area ") s (10 ∷ []))

domain_is : (g : PlanarMap) (d : Domain) → domain_line g d ≡ note_line (domain_note g d)
unfolding domain_note
domain_is g d = domain_text (decimal d.number) (signed_decimal (double_area g d.number))

domains_are : (g : PlanarMap) (ds : List Domain) → flat_map (domain_line g) ds ≡ flat_map note_line (map (domain_note g) ds)
domains_are g [] = refl
domains_are g (d ∷ ds) = ap (λ (t : List ℕ). t ++ flat_map (domain_line g) ds) (domain_is g d) ∙ ap (λ (t : List ℕ). note_line (domain_note g d) ++ t) (domains_are g ds)

shift_no_feed : (g : PlanarMap) → NoFeed (shift_note g)
unfolding shift_note is_unfed
shift_no_feed g = no_feed_both (codes " shift ") (signed_decimal g.shift) (no_feed_by (codes " shift ") refl) (signed_no_feed g.shift)

domain_no_feed : (g : PlanarMap) (d : Domain) → NoFeed (domain_note g d)
unfolding domain_note is_unfed
domain_no_feed g d =
    let area = double_area g d.number in
    let behind : NoFeed (codes " area " ++ signed_decimal area) = no_feed_both (codes " area ") (signed_decimal area) (no_feed_by (codes " area ") refl) (signed_no_feed area) in
    no_feed_both (codes " domain ") (decimal d.number ++ (codes " area " ++ signed_decimal area)) (no_feed_by (codes " domain ") refl) (no_feed_both (decimal d.number) (codes " area " ++ signed_decimal area) (decimal_no_feed d.number) behind)

domains_no_feed : (g : PlanarMap) (ds : List Domain) → AllByRecursion NoFeed (map (domain_note g) ds)
domains_no_feed g [] = tt
domains_no_feed g (d ∷ ds) = (domain_no_feed g d, domains_no_feed g ds)

notes_of : PlanarMap → List (List ℕ)
notes_of g = shift_note g ∷ map (domain_note g) g.domains

comments_are : (g : PlanarMap) → shift_line g ++ flat_map (domain_line g) g.domains ≡ flat_map note_line (notes_of g)
unfolding notes_of
comments_are g = ap (λ (t : List ℕ). t ++ flat_map (domain_line g) g.domains) (shift_is g) ∙ ap (λ (t : List ℕ). note_line (shift_note g) ++ t) (domains_are g g.domains)

notes_no_feed : (g : PlanarMap) → AllByRecursion NoFeed (notes_of g)
unfolding notes_of
notes_no_feed g = (shift_no_feed g, domains_no_feed g g.domains)

-- ---- the normal text

-- a line ends with a line feed, and so do lines
line_end : (line : List Word) → (body : List ℕ) × (line_text line ≡ body ++ 10 ∷ [])
line_end [] = ([], refl)
line_end (word ∷ words) = (word ++ spaced words, sym (append_assoc word (spaced words) (10 ∷ [])))

lines_end : (line : List Word) (lines : List (List Word)) → (body : List ℕ) × (flat_map line_text (line ∷ lines) ≡ body ++ 10 ∷ [])
lines_end line [] = let end = line_end line in (end.0, append-nil (line_text line) ∙ end.1)
lines_end line (next ∷ lines) =
    let end = lines_end next lines in
    (line_text line ++ end.0, ap (λ (t : List ℕ). line_text line ++ t) end.1 ∙ sym (append_assoc (line_text line) end.0 (10 ∷ [])))

normal_end : (raw : RawGeometry) → (body : List ℕ) × (normal_text raw ≡ body ++ 10 ∷ [])
normal_end raw = lines_end (head_word ∷ []) ((decimal_text raw.number ∷ []) ∷ (points_word ∷ []) ∷ (map point_line raw.points ++ ((segments_word ∷ []) ∷ (map segment_line raw.segments ++ material_lines raw.materials))))

normal_again : (raw : RawGeometry) → CanPrint raw → Derives (words_of (normal_text raw)) raw
normal_again raw can = let printed : Result (List ℕ) (List ℕ) = Ok (normal_text raw) in is_again (λ text. text) printed raw can refl

shown_words : (raw : RawGeometry) (g : PlanarMap) → words_of (shown_text raw g) ≡ words_of (normal_text raw)
shown_words raw g =
    let end = normal_end raw in
    let notes = notes_of g in
    let comments : shift_line g ++ flat_map (domain_line g) g.domains ≡ spelling (note_parts notes) = comments_are g ∙ sym (notes_spelled notes) in
    let text : shown_text raw g ≡ end.0 ++ (10 ∷ spelling (note_parts notes)) = append_assoc (normal_text raw) (shift_line g) (flat_map (domain_line g) g.domains) ∙ ap (λ (t : List ℕ). normal_text raw ++ t) comments ∙ ap (λ (t : List ℕ). t ++ spelling (note_parts notes)) end.1 ∙ append_assoc end.0 (10 ∷ []) (spelling (note_parts notes)) in
    same_words (shown_text raw g) end.0 (note_parts notes) text (notes_fit notes (notes_no_feed g)) (notes_run notes) ∙ ap words_of (sym end.1)

-- what `geom` writes is derived again
pub again : (raw : RawGeometry) (g : PlanarMap) → CanPrint raw → Derives (words_of (shown_text raw g)) raw
again raw g can = subst (λ (words : List Word). Derives words raw) (sym (shown_words raw g)) (normal_again raw can)
