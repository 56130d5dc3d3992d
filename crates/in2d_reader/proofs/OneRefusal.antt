-- A text is refused at one word, and by one kind; and it is not refused if it is read.
use Rattle.std.proofs.Common.{◌≡◌, ◌≢◌, ℕ, ◌+◌, ◌<◌, false, ◌⊎◌, inl, inr, List, [], ◌∷◌, ◌++◌, length, Result, Ok, Err, refl, sym, ap, subst, ◌∙◌, append_assoc, arith}
use Rattle.std.specs.Prelude.{MatchResult}
use Rattle.std.specs.List.{AllByRecursion}
use Rattle.std.proofs.lemmas.List.{append-nil}
use Rattle.word_scan.proofs.Places.{Here, Sooner, Later, places}
use Rattle.in2d_reader.specs.declared.geometry.PointRow.{PointRow}
use Rattle.in2d_reader.specs.declared.geometry.SegmentRow.{SegmentRow}
use Rattle.in2d_reader.specs.declared.geometry.RawGeometry.{RawGeometry}
use Rattle.in2d_reader.specs.declared.place.SegmentPlace.TheVariants as segments
use Rattle.in2d_reader.specs.declared.refusal.In2dRefusal.{In2dRefusal}
use Rattle.in2d_reader.specs.declared.refusal.In2dRefusal.TheVariants.{Syntax, Number, Curved, TooMany, NumberTwice, UnknownPoint, Memory}
use Rattle.in2d_reader.specs.Words.{Word, segments_word, materials_word, two_word, three_word, is_flag}
use Rattle.in2d_reader.specs.Steps.{NoMaterial, MaterialName, MaterialEnd, Spot, InHead, InPoints, InSegments, InMaterials, Draft, segment_step, segment_start, material_step, material_start, spot_step, finish_spot, finish, geometry_of}
use Rattle.in2d_reader.specs.Grammar.{HasEnds, Within, Fits, Derives}
use Rattle.in2d_reader.specs.Refusals.{Gives, IsFront, IsAny, Stops, Passes, IsFull, Points, Segments, StoodBefore, IsUnknown, WantsNumber, StandsForNumber, Refuses}
use Rattle.in2d_reader.proofs.Forward.{ok_is}
use Rattle.in2d_reader.proofs.Refused.{read_loosely, admitted_step, is_found, is_refused}

-- what a text derives is one value
pub one_value : (words : List Word) (raw other : RawGeometry) → Derives words raw → Derives words other → raw ≡ other
one_value words raw other d e =
    let a = read_loosely words raw d in
    let b = read_loosely words other e in
    let same : a.last ≡ b.last = ok_is _ _ (sym a.read ∙ b.read) in
    ok_is _ _ (sym (a.finish 0) ∙ ap (λ (m : Draft). finish m 0) same ∙ b.finish 0)

-- ---- fronts

front_of : (P : RawGeometry → Type 0) (words rest : List Word) → IsFront P (words ++ rest) → IsFront P words
front_of P words rest f = (rest ++ f.0, f.1, subst (λ (w : List Word). Derives w f.1) (append_assoc words rest f.0) f.2, f.3)

front_by : (P Q : RawGeometry → Type 0) (words : List Word) → ((raw : RawGeometry) → P raw → Q raw) → IsFront P words → IsFront Q words
front_by P Q words by f = (f.0, f.1, f.2, by f.1 f.3)

any_front : (words : List Word) (raw : RawGeometry) → Derives words raw → IsFront IsAny words
any_front words raw d = ([], raw, subst (λ (w : List Word). Derives w raw) (sym (append-nil words)) d, tt)

within_any : (raw : RawGeometry) → Within raw → IsAny raw
within_any raw w = tt

within_self : (raw : RawGeometry) → Within raw → Within raw
within_self raw w = w

-- words that go on behind a word that stops them
goes_on : (P : RawGeometry → Type 0) (before : List Word) (word : Word) (rest words : List Word) → (IsFront P (before ++ word ∷ []) → ⊥) → words ≡ (before ++ word ∷ []) ++ rest → IsFront P words → ⊥
goes_on P before word rest words stop e front = stop (front_of P (before ++ word ∷ []) rest (subst (λ (w : List Word). IsFront P w) e front))

whole_stops : (P : RawGeometry → Type 0) (words : List Word) (at : ℕ) (word : Word) → Stops P words at word → IsFront P words → ⊥
whole_stops P words at word s front = goes_on P s.before word s.after words s.stop (s.same ∙ sym (append_assoc s.before (word ∷ []) s.after)) front

one_place : (P Q : RawGeometry → Type 0) (words : List Word) (i j : ℕ) (w v : Word) → ((raw : RawGeometry) → Within raw → P raw) → ((raw : RawGeometry) → Within raw → Q raw) → (s : Stops P words i w) → (t : Stops Q words j v) → (s.before ≡ t.before) × (w ≡ v)
one_place P Q words i j w v p q s t =
    elim (places s.before w s.after t.before v t.after (sym s.same ∙ t.same)) [
      | Here b e ↦ (b, e)
      | Sooner rest e ↦ absurd (goes_on P s.before w rest t.before s.stop e (front_by Within P t.before p t.front))
      | Later rest e ↦ absurd (goes_on Q t.before v rest s.before t.stop e (front_by Within Q s.before q s.front))
    ]

-- ---- a word that doesn't fit

-- of what kind a refusal at a word is
abbrev KindAt : List Word → Word → ℕ → In2dRefusal → Type 0
KindAt before word at (Syntax v) = (v ≡ at) × (StandsForNumber before word → ⊥)
KindAt before word at (Number v) = (v ≡ at) × StandsForNumber before word × (word ≡ three_word → ⊥)
KindAt before word at (Curved k) = (word ≡ three_word) × WantsNumber before × ((raw : RawGeometry) × Derives (before ++ two_word ∷ two_word ∷ two_word ∷ []) raw × (k ≡ length raw.segments))
KindAt before word at (TooMany v) = ⊥
KindAt before word at (NumberTwice v) = ⊥
KindAt before word at (UnknownPoint v) = ⊥
KindAt before word at Memory = ⊥

one_kind : (before : List Word) (word : Word) (at : ℕ) (e f : In2dRefusal) → KindAt before word at e → KindAt before word at f → e ≡ f
one_kind before word at (Syntax v) (Syntax u) p q = ap (λ (n : ℕ). Syntax n) (p.0 ∙ sym q.0)
one_kind before word at (Syntax v) (Number u) p q = absurd (p.1 q.1)
one_kind before word at (Syntax v) (Curved k) p q = absurd (p.1 (inl q.1))
one_kind before word at (Number v) (Syntax u) p q = absurd (q.1 p.1)
one_kind before word at (Number v) (Number u) p q = ap (λ (n : ℕ). Number n) (p.0 ∙ sym q.0)
one_kind before word at (Number v) (Curved k) p q = absurd (p.2 q.0)
one_kind before word at (Curved k) (Syntax u) p q = absurd (q.1 (inl p.1))
one_kind before word at (Curved k) (Number u) p q = absurd (q.2 p.0)
one_kind before word at (Curved k) (Curved l) p q =
    let same = one_value (before ++ two_word ∷ two_word ∷ two_word ∷ []) p.2.0 q.2.0 p.2.1 q.2.1 in
    ap (λ (n : ℕ). Curved n) (p.2.2 ∙ ap (λ (r : RawGeometry). length r.segments) same ∙ sym q.2.2)
one_kind before word at (TooMany v) f p q = absurd p
one_kind before word at (NumberTwice v) f p q = absurd p
one_kind before word at (UnknownPoint v) f p q = absurd p
one_kind before word at Memory f p q = absurd p
one_kind before word at e (TooMany v) p q = absurd q
one_kind before word at e (NumberTwice v) p q = absurd q
one_kind before word at e (UnknownPoint v) p q = absurd q
one_kind before word at e Memory p q = absurd q

-- ---- a word that passes a limit

-- behind words that are a text, no word `segments` follows
ends_no_points : (d : Draft) (spot : Spot) (raw : RawGeometry) (next : Draft) (at end : ℕ) → finish_spot d spot end ≡ Ok raw → spot_step false d spot at segments_word ≡ Ok next → ⊥
unfolding finish_spot spot_step segment_step segment_start material_step material_start is_flag segments_word materials_word
ends_no_points d (InHead place) raw next at end e on = cc
ends_no_points d (InPoints place) raw next at end e on = cc
ends_no_points d (InSegments segments.Start) raw next at end e on = cc
ends_no_points d (InSegments (segments.Right left)) raw next at end e on = cc
ends_no_points d (InSegments (segments.Shape left right)) raw next at end e on = cc
ends_no_points d (InSegments (segments.From left right)) raw next at end e on = cc
ends_no_points d (InSegments (segments.To left right p)) raw next at end e on = cc
ends_no_points d (InSegments (segments.End row)) raw next at end e on = cc
ends_no_points d (InMaterials NoMaterial) raw next at end e on = cc
ends_no_points d (InMaterials (MaterialName domain)) raw next at end e on = cc
ends_no_points d (InMaterials (MaterialEnd row)) raw next at end e on = cc

not_both_end : (before : List Word) (points segments : RawGeometry) → Derives (before ++ segments_word ∷ []) points → Derives before segments → ⊥
unfolding finish
not_both_end before points segments d e =
    let whole = read_loosely before segments e in
    let on = admitted_step before segments_word whole.last whole.read (any_front (before ++ segments_word ∷ []) points d) in
    ends_no_points whole.last whole.last.spot segments on.0 (1 + length before) 0 (whole.finish 0) on.1

-- of what kind a refusal at a word that passes a limit is
abbrev LimitAt : List Word → Word → ℕ → In2dRefusal → Type 0
LimitAt before word at (Syntax v) = ⊥
LimitAt before word at (Number v) = ⊥
LimitAt before word at (Curved k) = ⊥
LimitAt before word at (TooMany what) = IsFull what before
LimitAt before word at (NumberTwice v) = (v ≡ at) × StoodBefore before word
LimitAt before word at (UnknownPoint v) = ⊥
LimitAt before word at Memory = ⊥

one_what : (before : List Word) (what other : ℕ) → IsFull what before → IsFull other before → what ≡ other
one_what before what other (Points is raw d full) (Points here raw2 e full2) = is ∙ sym here
one_what before what other (Points is raw d full) (Segments here raw2 e full2) = absurd (not_both_end before raw raw2 d e)
one_what before what other (Segments is raw d full) (Points here raw2 e full2) = absurd (not_both_end before raw2 raw e d)
one_what before what other (Segments is raw d full) (Segments here raw2 e full2) = is ∙ sym here

full_or_twice : (before : List Word) (word : Word) (what : ℕ) → IsFull what before → StoodBefore before word → ⊥
full_or_twice before word what (Points is raw d full) s =
    let same = one_value (before ++ segments_word ∷ []) raw s.raw d s.ended in
    let few : length raw.points < 4096 = subst (λ (r : RawGeometry). length r.points < 4096) (sym same) s.few in
    omega (arith, full, few)
full_or_twice before word what (Segments is raw d full) s = not_both_end before s.raw raw s.ended d

one_limit : (before : List Word) (word : Word) (at : ℕ) (e f : In2dRefusal) → LimitAt before word at e → LimitAt before word at f → e ≡ f
one_limit before word at (TooMany v) (TooMany u) p q = ap (λ (n : ℕ). TooMany n) (one_what before v u p q)
one_limit before word at (TooMany v) (NumberTwice u) p q = absurd (full_or_twice before word v p q.1)
one_limit before word at (NumberTwice v) (TooMany u) p q = absurd (full_or_twice before word u q p.1)
one_limit before word at (NumberTwice v) (NumberTwice u) p q = ap (λ (n : ℕ). NumberTwice n) (p.0 ∙ sym q.0)
one_limit before word at (Syntax v) f p q = absurd p
one_limit before word at (Number v) f p q = absurd p
one_limit before word at (Curved k) f p q = absurd p
one_limit before word at (UnknownPoint v) f p q = absurd p
one_limit before word at Memory f p q = absurd p
one_limit before word at e (Syntax v) p q = absurd q
one_limit before word at e (Number v) p q = absurd q
one_limit before word at e (Curved k) p q = absurd q
one_limit before word at e (UnknownPoint v) p q = absurd q
one_limit before word at e Memory p q = absurd q

-- ---- a segment that names an unknown point

all_front : (ps : List PointRow) (front : List SegmentRow) (row : SegmentRow) (rest : List SegmentRow) → AllByRecursion (HasEnds ps) ((front ++ row ∷ []) ++ rest) → HasEnds ps row
all_front ps [] row rest all = all.0
all_front ps (first ∷ front) row rest all = all_front ps front row rest all.1

one_unknown : (raw : RawGeometry) (k l : ℕ) → IsUnknown raw k → IsUnknown raw l → k ≡ l
one_unknown raw k l p q =
    elim (places p.before p.row p.after q.before q.row q.after (sym p.same ∙ q.same)) [
      | Here b e ↦ p.place ∙ ap (λ (rows : List SegmentRow). length rows + 1) b ∙ sym q.place
      | Sooner rest e ↦ absurd (p.unknown (all_front raw.points p.before p.row rest (subst (λ (rows : List SegmentRow). AllByRecursion (HasEnds raw.points) rows) e q.known)))
      | Later rest e ↦ absurd (q.unknown (all_front raw.points q.before q.row rest (subst (λ (rows : List SegmentRow). AllByRecursion (HasEnds raw.points) rows) e p.known)))
    ]

-- ---- why words are refused

record AtWord (words : List Word) (e : In2dRefusal) : Type 0 where
  at : ℕ
  word : Word
  stops : Stops IsAny words at word
  kind : KindAt stops.before word at e

record AtLimit (words : List Word) (e : In2dRefusal) : Type 0 where
  at : ℕ
  word : Word
  passes : Passes words at word
  kind : LimitAt passes.stops.before word at e

record AtPoint (words : List Word) (e : In2dRefusal) : Type 0 where
  raw : RawGeometry
  derived : Derives words raw
  within : Within raw
  segment : ℕ
  is : e ≡ UnknownPoint segment
  unknown : IsUnknown raw segment

-- at a word or at the end, by the grammar; by a limit; or by a point, where they are derived
data Reason (words : List Word) (e : In2dRefusal) : Type 0 where
  ByWord : AtWord words e → Reason words e
  ByEnd : e ≡ Syntax (length words + 1) → IsFront Within words → ((raw : RawGeometry) → Derives words raw → ⊥) → Reason words e
  ByLimit : AtLimit words e → Reason words e
  ByPoint : AtPoint words e → Reason words e

reason : (words : List Word) (e : In2dRefusal) → e ≢ Memory → Refuses words e → Reason words e
reason words (Syntax v) other (inl (word, s, none)) = ByWord (record { at = v; word = word; stops = s; kind = (refl, none) })
reason words (Syntax v) other (inr m) = ByEnd (ap (λ (n : ℕ). Syntax n) m.place) m.front m.stop
reason words (Number v) other r = ByWord (record { at = v; word = r.0; stops = r.1; kind = (refl, r.2, r.3) })
reason words (Curved k) other r = ByWord (record { at = r.at; word = three_word; stops = r.stops; kind = (refl, r.number, (r.raw, r.straight, r.last)) })
reason words (TooMany v) other r = ByLimit (record { at = r.0; word = r.1; passes = r.2; kind = r.3 })
reason words (NumberTwice v) other r = ByLimit (record { at = v; word = r.0; passes = r.1; kind = (refl, r.2) })
reason words (UnknownPoint v) other r = ByPoint (record { raw = r.0; derived = r.1; within = r.2; segment = v; is = refl; unknown = r.3 })
reason words Memory other r = absurd (other refl)

same_word_kind : (words : List Word) (e f : In2dRefusal) → AtWord words e → AtWord words f → e ≡ f
same_word_kind words e f a b =
    let p = one_place IsAny IsAny words a.at b.at a.word b.word within_any within_any a.stops b.stops in
    let place : a.at ≡ b.at = a.stops.place ∙ ap (λ (w : List Word). length w + 1) p.0 ∙ sym b.stops.place in
    let moved : KindAt b.stops.before b.word b.at e = subst (λ (w : List Word). KindAt w b.word b.at e) p.0 (subst (λ (w : Word). KindAt a.stops.before w b.at e) p.1 (subst (λ (n : ℕ). KindAt a.stops.before a.word n e) place a.kind)) in
    one_kind b.stops.before b.word b.at e f moved b.kind

same_limit : (words : List Word) (e f : In2dRefusal) → AtLimit words e → AtLimit words f → e ≡ f
same_limit words e f a b =
    let p = one_place Within Within words a.at b.at a.word b.word within_self within_self a.passes.stops b.passes.stops in
    let place : a.at ≡ b.at = a.passes.stops.place ∙ ap (λ (w : List Word). length w + 1) p.0 ∙ sym b.passes.stops.place in
    let moved : LimitAt b.passes.stops.before b.word b.at e = subst (λ (w : List Word). LimitAt w b.word b.at e) p.0 (subst (λ (w : Word). LimitAt a.passes.stops.before w b.at e) p.1 (subst (λ (n : ℕ). LimitAt a.passes.stops.before a.word n e) place a.kind)) in
    one_limit b.passes.stops.before b.word b.at e f moved b.kind

word_or_limit : (words : List Word) (e f : In2dRefusal) → AtLimit words e → AtWord words f → ⊥
word_or_limit words e f a b =
    let p = one_place Within IsAny words a.at b.at a.word b.word within_self within_any a.passes.stops b.stops in
    b.stops.stop (subst (λ (w : List Word). IsFront IsAny (w ++ b.word ∷ [])) p.0 (subst (λ (w : Word). IsFront IsAny (a.passes.stops.before ++ w ∷ [])) p.1 a.passes.derived))

-- no word stops words that are the front of a derived text
no_word : (words : List Word) (f : In2dRefusal) → IsFront IsAny words → AtWord words f → ⊥
no_word words f front b = whole_stops IsAny words b.at b.word b.stops front

no_limit : (words : List Word) (f : In2dRefusal) → IsFront Within words → AtLimit words f → ⊥
no_limit words f front b = whole_stops Within words b.at b.word b.passes.stops front

whole_front : (words : List Word) (e : In2dRefusal) → AtPoint words e → IsFront Within words
whole_front words e p = ([], p.raw, subst (λ (w : List Word). Derives w p.raw) (sym (append-nil words)) p.derived, p.within)

same_point : (words : List Word) (e f : In2dRefusal) → AtPoint words e → AtPoint words f → e ≡ f
same_point words e f a b =
    let raw = one_value words a.raw b.raw a.derived b.derived in
    let k = one_unknown b.raw a.segment b.segment (subst (λ (r : RawGeometry). IsUnknown r a.segment) raw a.unknown) b.unknown in
    a.is ∙ ap (λ (n : ℕ). UnknownPoint n) k ∙ sym b.is

same_reason : (words : List Word) (e f : In2dRefusal) → Reason words e → Reason words f → e ≡ f
same_reason words e f (ByWord a) (ByWord b) = same_word_kind words e f a b
same_reason words e f (ByWord a) (ByEnd g front none) = absurd (no_word words e (front_by Within IsAny words within_any front) a)
same_reason words e f (ByWord a) (ByLimit b) = absurd (word_or_limit words f e b a)
same_reason words e f (ByWord a) (ByPoint b) = absurd (no_word words e (any_front words b.raw b.derived) a)
same_reason words e f (ByEnd g front none) (ByWord b) = absurd (no_word words f (front_by Within IsAny words within_any front) b)
same_reason words e f (ByEnd g front none) (ByEnd h other nothing) = g ∙ sym h
same_reason words e f (ByEnd g front none) (ByLimit b) = absurd (no_limit words f front b)
same_reason words e f (ByEnd g front none) (ByPoint b) = absurd (none b.raw b.derived)
same_reason words e f (ByLimit a) (ByWord b) = absurd (word_or_limit words e f a b)
same_reason words e f (ByLimit a) (ByEnd h front none) = absurd (no_limit words e front a)
same_reason words e f (ByLimit a) (ByLimit b) = same_limit words e f a b
same_reason words e f (ByLimit a) (ByPoint b) = absurd (no_limit words e (whole_front words f b) a)
same_reason words e f (ByPoint a) (ByWord b) = absurd (no_word words f (any_front words a.raw a.derived) b)
same_reason words e f (ByPoint a) (ByEnd h front none) = absurd (none a.raw a.derived)
same_reason words e f (ByPoint a) (ByLimit b) = absurd (no_limit words f (whole_front words e a) b)
same_reason words e f (ByPoint a) (ByPoint b) = same_point words e f a b

-- a text has one refusal
pub one_refusal : (words : List Word) (e f : In2dRefusal) → e ≢ Memory → f ≢ Memory → Refuses words e → Refuses words f → e ≡ f
one_refusal words e f e_named f_named r s = same_reason words e f (reason words e e_named r) (reason words f f_named s)

-- ---- a text that is read

no_unknown : (ps : List PointRow) (before : List SegmentRow) (row : SegmentRow) (after : List SegmentRow) → AllByRecursion (HasEnds ps) (before ++ (row ∷ after)) → HasEnds ps row
no_unknown ps [] row after all = all.0
no_unknown ps (first ∷ before) row after all = no_unknown ps before row after all.1

-- what is derived and fits is not refused
fits_unrefused : (words : List Word) (raw : RawGeometry) (f : In2dRefusal) → Derives words raw → Fits raw → Reason words f → ⊥
fits_unrefused words raw f d fits (ByWord b) = no_word words f (any_front words raw d) b
fits_unrefused words raw f d fits (ByEnd e front none) = none raw d
fits_unrefused words raw f d fits (ByLimit b) = no_limit words f ([], raw, subst (λ (w : List Word). Derives w raw) (sym (append-nil words)) d, fits.within) b
fits_unrefused words raw f d fits (ByPoint b) =
    let same = one_value words b.raw raw b.derived d in
    let u : IsUnknown raw b.segment = subst (λ (r : RawGeometry). IsUnknown r b.segment) same b.unknown in
    u.unknown (no_unknown raw.points u.before u.row u.after (subst (λ (rows : List SegmentRow). AllByRecursion (HasEnds raw.points) rows) u.same fits.known))

pub unrefused : (words : List Word) (raw : RawGeometry) (f : In2dRefusal) → f ≢ Memory → Derives words raw → Fits raw → Refuses words f → ⊥
unrefused words raw f named d fits r = fits_unrefused words raw f d fits (reason words f named r)

pub is_refused_only : (words : List Word) (r : Result RawGeometry In2dRefusal) → Gives (λ raw. raw) r (geometry_of words) → (f : In2dRefusal) → f ≢ Memory → Refuses words f → MatchResult r (λ read. ⊥) (λ e. (e ≡ f) ⊎ (e ≡ Memory))
is_refused_only words (Ok raw) gives f named refuses = let found = is_found words (Ok raw) gives in unrefused words raw f named found.0 found.1 refuses
is_refused_only words (Err e) gives f named refuses = by e gives
  where
    other : (e : In2dRefusal) → Gives (λ (raw : RawGeometry). raw) (Err e) (geometry_of words) → e ≢ Memory → (e ≡ f) ⊎ (e ≡ Memory)
    other e gives e_named = inl (one_refusal words e f e_named named (is_refused words (Err e) gives) refuses)

    by : (e : In2dRefusal) → Gives (λ (raw : RawGeometry). raw) (Err e) (geometry_of words) → (e ≡ f) ⊎ (e ≡ Memory)
    by (Syntax v) gives = other (Syntax v) gives (λ e. cc)
    by (Number v) gives = other (Number v) gives (λ e. cc)
    by (Curved v) gives = other (Curved v) gives (λ e. cc)
    by (TooMany v) gives = other (TooMany v) gives (λ e. cc)
    by (NumberTwice v) gives = other (NumberTwice v) gives (λ e. cc)
    by (UnknownPoint v) gives = other (UnknownPoint v) gives (λ e. cc)
    by Memory gives = inr refl
