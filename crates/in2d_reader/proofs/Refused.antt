-- What is returned, against the grammar.
use Rattle.std.proofs.Common.{◌≡◌, ℕ, suc, ◌+◌, ◌<◌, ◌≤◌, Bool, true, false, cond, ◌&&◌, ◌⊎◌, inl, inr, List, [], ◌∷◌, ◌++◌, length, Option, Some, None, Result, Ok, Err, refl, sym, ap, subst, ◌∙◌, arith, append_assoc}
use Rattle.std.specs.Prelude.{IfOk, IfErr, MatchResult, nat_le}
use Rattle.std.specs.List.{AllByRecursion}
use Rattle.std.specs.Str.{bytes_eq}
use Rattle.std.proofs.lemmas.Bool.{and_parts, and_from, both_ways, leb-true, leb-false}
use Rattle.std.proofs.lemmas.Slice.Eq.{bytes_eq-Decides}
use Rattle.word_scan.specs.declared.decimals.Dec.{Dec}
use Rattle.word_scan.specs.Numerals.{whole_of}
use Rattle.word_scan.specs.Decimals.{decimal_of}
use Rattle.in2d_reader.specs.declared.geometry.PointRow.{PointRow}
use Rattle.in2d_reader.specs.declared.geometry.SegmentRow.{SegmentRow}
use Rattle.in2d_reader.specs.declared.geometry.RawGeometry.{RawGeometry}
use Rattle.in2d_reader.specs.declared.refusal.In2dRefusal.{In2dRefusal}
use Rattle.in2d_reader.specs.declared.refusal.In2dRefusal.TheVariants.{Syntax, Number, Curved, TooMany, NumberTwice, UnknownPoint, Memory}
use Rattle.in2d_reader.specs.declared.place.HeadPlace.{HeadPlace}
use Rattle.in2d_reader.specs.declared.place.HeadPlace.TheVariants as heads
use Rattle.in2d_reader.specs.declared.place.PointPlace.{PointPlace}
use Rattle.in2d_reader.specs.declared.place.PointPlace.TheVariants as points
use Rattle.in2d_reader.specs.declared.place.SegmentPlace.{SegmentPlace}
use Rattle.in2d_reader.specs.declared.place.SegmentPlace.TheVariants as segments
use Rattle.in2d_reader.specs.Words.{Word, head_word, points_word, segments_word, materials_word, two_word, three_word, is_flag, is_name, Given, Nothing, Value, Bad, size_in, number_in, from_one}
use Rattle.in2d_reader.specs.Steps.{MaterialSpot, NoMaterial, MaterialName, MaterialEnd, Spot, InHead, InPoints, InSegments, InMaterials, Draft, Step, at_spot, with_point, with_segment, with_material, with_number, or_else, ◌>>=◌, head_step, size_after, number_after, sized_point, flagged_segment, sized_material, new_point, point_start, point_flag, point_step, new_segment, segment_start, shape_step, segment_flag, segment_step, material_start, material_flag, material_step, spot_step, step, nothing_read, steps, whole_raw, finish_spot, finish, known_from, with_known, finished, geometry_of}
use Rattle.in2d_reader.specs.Grammar.{is_known, HasEnds, Within, Fits, Derives}
use Rattle.in2d_reader.specs.Refusals.{Fails, Gives, IsFront, IsAny, Stops, Passes, IsFull, Points, Segments, StoodBefore, Misses, Admits, WantsNumber, StandsForNumber, IsCurved, Refuses}
use Rattle.in2d_reader.proofs.Forward.{bind_ok, ok_is, done, derived}
use Rattle.in2d_reader.proofs.Again.{AtPoints, AtSegments, at_first_point, at_next_point, at_first_segment, at_next_segment, AllDone, steps_one, file_read, file_rooms}
use Rattle.in2d_reader.proofs.Completed.{completed}
use Rattle.in2d_reader.proofs.Needs.{need, IsInside, IsRowEnd, IsOpen, IsShape, some_none, inside_is_number, inside_goes_on, flag_follows_row, plain_flag, plain_is_flag, flag_on, OpensTo, opens_to, straight, KindFits, KindsFit, spot_kinds}
use Rattle.in2d_reader.proofs.Limits.{loose_points, loose_segments, within, rooms}

-- ---- what is read to the end

-- a text within the limits is read strictly, and each derived text loosely
read_within : (words : List Word) (raw : RawGeometry) → Derives words raw → Within raw → AllDone true nothing_read 1 words raw
read_within words raw d w =
    let room = rooms raw w in
    subst (λ (ws : List Word). AllDone true nothing_read 1 ws raw) (sym d.2) (file_read true d.0 raw d.1 room.0 room.1)

pub read_loosely : (words : List Word) (raw : RawGeometry) → Derives words raw → AllDone false nothing_read 1 words raw
read_loosely words raw d = subst (λ (ws : List Word). AllDone false nothing_read 1 ws raw) (sym d.2) (file_read false d.0 raw d.1 (loose_points [] raw.points) (loose_segments [] raw.segments))

strictly_within : (words : List Word) (raw : RawGeometry) (last : Draft) (end : ℕ) → steps true nothing_read 1 words ≡ Ok last → finish last end ≡ Ok raw → Derives words raw × Within raw
strictly_within words raw last end e f =
    let d = derived true words raw last 1 end e f in
    let room = file_rooms true d.0 raw last d.1 (ap (λ (ws : List Word). steps true nothing_read 1 ws) (sym d.2) ∙ e) in
    (d, within raw room.0 room.1)

-- a test that was passed
some_test : {A : Type 0} (b : Bool) (r : Result A In2dRefusal) (d : In2dRefusal) (x : A) → cond b r (Err d) ≡ Ok x → (b ≡ true) × (r ≡ Ok x)
some_test true r d x e = (refl, e)
some_test false r d x e = absurd cc

abbrev refused : {A : Type 0} → In2dRefusal → Result A In2dRefusal
refused e = Err e

not_both : {A : Type 0} (x : A) (e : In2dRefusal) → done x ≡ Err e → ⊥
not_both x e h = cc

-- points that are known
known_all : (ps : List PointRow) (k : ℕ) (rows : List SegmentRow) → known_from ps k rows ≡ Ok tt → AllByRecursion (HasEnds ps) rows
unfolding known_from
known_all ps k [] e = tt
known_all ps k (row ∷ rows) e =
    let h = some_test (is_known row.p ps && is_known row.q ps) (known_from ps (k + 1) rows) (UnknownPoint k) tt e in
    (and_parts _ _ h.0, known_all ps (k + 1) rows h.1)

all_known : (ps : List PointRow) (k : ℕ) (rows : List SegmentRow) → AllByRecursion (HasEnds ps) rows → known_from ps k rows ≡ Ok tt
unfolding known_from
all_known ps k [] all = refl
all_known ps k (row ∷ rows) all = rw (all.0.0, all.0.1) (all_known ps (k + 1) rows all.1)

pub read_is_found : (words : List Word) (raw : RawGeometry) → geometry_of words ≡ Ok raw → Derives words raw × Fits raw
unfolding geometry_of
read_is_found words raw e =
    let b = bind_ok (steps true nothing_read 1 words) (λ d. finished d (length words + 1)) raw e in
    let f = bind_ok (finish b.0 (length words + 1)) with_known raw b.2 in
    let k = bind_ok (known_from f.0.points 1 f.0.segments) (λ known. Ok f.0) raw f.2 in
    let w = strictly_within words f.0 b.0 (length words + 1) b.1 f.1 in
    let fits : Fits f.0 = record { within = w.1; known = known_all f.0.points 1 f.0.segments k.1 } in
    subst (λ (r : RawGeometry). Derives words r × Fits r) (ok_is _ _ k.2) (w.0, fits)

pub found_is_read : (words : List Word) (raw : RawGeometry) → Derives words raw → Fits raw → geometry_of words ≡ Ok raw
unfolding geometry_of
found_is_read words raw d fits =
    let all = read_within words raw d fits.within in
    ap (λ (r : Step). r >>= λ m. finished m (length words + 1)) all.read
    ∙ ap (λ (r : Result RawGeometry In2dRefusal). r >>= with_known) (all.finish (length words + 1))
    ∙ ap (λ (r : Result (Unit {0}) In2dRefusal). r >>= λ known. Ok raw) (all_known raw.points 1 raw.segments fits.known)

pub is_found : (words : List Word) (r : Result RawGeometry In2dRefusal) → Gives (λ raw. raw) r (geometry_of words) → IfOk r (λ raw. Derives words raw × Fits raw)
is_found words (Ok raw) gives = read_is_found words raw gives
is_found words (Err e) gives = tt

pub is_only : (words : List Word) (r : Result RawGeometry In2dRefusal) → Gives (λ raw. raw) r (geometry_of words) → (raw : RawGeometry) → Derives words raw → Fits raw → MatchResult r (λ read. read ≡ raw) (λ e. e ≡ Memory)
is_only words (Ok read) gives raw d fits = ok_is _ _ (sym gives ∙ found_is_read words raw d fits)
is_only words (Err Memory) gives raw d fits = refl
is_only words (Err e) gives raw d fits = absurd (not_both raw e (sym (found_is_read words raw d fits) ∙ gives))

-- ---- strict and loose steps

-- a refusal by the limits at a word that begins a row of the points, behind these points, or a row of the segments
abbrev PointLimit : Draft → ℕ → Word → In2dRefusal → Type 0
PointLimit d at word (Syntax v) = ⊥
PointLimit d at word (Number v) = ⊥
PointLimit d at word (Curved v) = ⊥
PointLimit d at word (TooMany what) = (what ≡ 1) × (nat_le 4096 (length d.points) ≡ true)
PointLimit d at word (NumberTwice v) = (v ≡ at) × (n : ℕ) × (whole_of word 999999 ≡ Some n) × (nat_le 4096 (length d.points) ≡ false) × (is_known n d.points ≡ true)
PointLimit d at word (UnknownPoint v) = ⊥
PointLimit d at word Memory = ⊥

abbrev SegmentLimit : Draft → In2dRefusal → Type 0
SegmentLimit d (Syntax v) = ⊥
SegmentLimit d (Number v) = ⊥
SegmentLimit d (Curved v) = ⊥
SegmentLimit d (TooMany what) = (what ≡ 2) × (nat_le 4096 (length d.segments) ≡ true)
SegmentLimit d (NumberTwice v) = ⊥
SegmentLimit d (UnknownPoint v) = ⊥
SegmentLimit d Memory = ⊥

abbrev NoLimit : In2dRefusal → Type 0
NoLimit e = ⊥

-- a refusal by the limits at a word behind this spot
abbrev SpotLimit : Draft → Spot → ℕ → Word → In2dRefusal → Type 0
SpotLimit d (InHead place) at word = NoLimit
SpotLimit d (InPoints points.Start) at word = PointLimit d at word
SpotLimit d (InPoints (points.X n)) at word = NoLimit
SpotLimit d (InPoints (points.Y n x)) at word = NoLimit
SpotLimit d (InPoints (points.End row)) at word = PointLimit (with_point d row) at word
SpotLimit d (InSegments segments.Start) at word = SegmentLimit d
SpotLimit d (InSegments (segments.Right left)) at word = NoLimit
SpotLimit d (InSegments (segments.Shape left right)) at word = NoLimit
SpotLimit d (InSegments (segments.From left right)) at word = NoLimit
SpotLimit d (InSegments (segments.To left right p)) at word = NoLimit
SpotLimit d (InSegments (segments.End row)) at word = SegmentLimit (with_segment d row)
SpotLimit d (InMaterials spot) at word = NoLimit

-- a strict step is the loose one, or is refused so where the loose one goes on
data Compared (Limited : In2dRefusal → Type 0) (strictly loosely : Step) : Type 0 where
  Same : strictly ≡ loosely → Compared Limited strictly loosely
  Limit : (e : In2dRefusal) (m : Draft) → strictly ≡ Err e → Limited e → loosely ≡ Ok m → Compared Limited strictly loosely

compare_or : (Limited : In2dRefusal → Type 0) (o : Option ℕ) (d : In2dRefusal) (f g : ℕ → Step) → ((n : ℕ) → o ≡ Some n → Compared Limited (f n) (g n)) → Compared Limited (or_else o d >>= f) (or_else o d >>= g)
compare_or Limited None d f g both = Same refl
compare_or Limited (Some n) d f g both = both n refl

compare_cond : (Limited : In2dRefusal → Type 0) (b : Bool) (x r s : Step) → Compared Limited r s → Compared Limited (cond b x r) (cond b x s)
compare_cond Limited true x r s both = Same refl
compare_cond Limited false x r s both = both

compare_rooms : (d : Draft) (at n : ℕ) (word : Word) (m : Draft) (full known : Bool) → whole_of word 999999 ≡ Some n → nat_le 4096 (length d.points) ≡ full → is_known n d.points ≡ known
    → Compared (PointLimit d at word) (cond full (Err (TooMany 1)) (cond known (Err (NumberTwice at)) (Ok m))) (Ok m)
compare_rooms d at n word m true known is full e = Limit (TooMany 1) m refl (refl, full) refl
compare_rooms d at n word m false true is room e = Limit (NumberTwice at) m refl (refl, n, is, room, e) refl
compare_rooms d at n word m false false is room e = Same refl

compare_room : (d m : Draft) (full : Bool) → nat_le 4096 (length d.segments) ≡ full → Compared (SegmentLimit d) (cond full (Err (TooMany 2)) (Ok m)) (Ok m)
compare_room d m true full = Limit (TooMany 2) m refl (refl, full) refl
compare_room d m false room = Same refl

compare_point : (d : Draft) (at n : ℕ) (word : Word) → whole_of word 999999 ≡ Some n → Compared (PointLimit d at word) (new_point true d at n) (new_point false d at n)
unfolding new_point
compare_point d at n word is = compare_rooms d at n word (at_spot d (InPoints (points.X n))) (nat_le 4096 (length d.points)) (is_known n d.points) is refl refl

compare_segment : (d : Draft) (left : ℕ) → Compared (SegmentLimit d) (new_segment true d left) (new_segment false d left)
unfolding new_segment
compare_segment d left = compare_room d (at_spot d (InSegments (segments.Right left))) (nat_le 4096 (length d.segments)) refl

compare_point_start : (d : Draft) (at : ℕ) (word : Word) → Compared (PointLimit d at word) (point_start true d at word) (point_start false d at word)
unfolding point_start
compare_point_start d at word =
    compare_cond (PointLimit d at word) (bytes_eq word segments_word) (Ok (at_spot d (InSegments segments.Start))) _ _
    (compare_or (PointLimit d at word) (whole_of word 999999) (Syntax at) (new_point true d at) (new_point false d at) (λ n is. compare_point d at n word is))

compare_segment_start : (d : Draft) (at : ℕ) (word : Word) → Compared (SegmentLimit d) (segment_start true d at word) (segment_start false d at word)
unfolding segment_start
compare_segment_start d at word =
    compare_cond (SegmentLimit d) (bytes_eq word materials_word) (Ok (at_spot d (InMaterials NoMaterial))) _ _
    (compare_or (SegmentLimit d) (whole_of word 64) (Syntax at) (new_segment true d) (new_segment false d) (λ n is. compare_segment d n))

compare_points : (d : Draft) (place : PointPlace) (at : ℕ) (word : Word) → Compared (SpotLimit d (InPoints place) at word) (point_step true d place at word) (point_step false d place at word)
unfolding point_step
compare_points d points.Start at word = compare_point_start d at word
compare_points d (points.X n) at word = Same refl
compare_points d (points.Y n x) at word = Same refl
compare_points d (points.End row) at word = compare_cond (PointLimit (with_point d row) at word) (is_flag word) (point_flag d row at word) _ _ (compare_point_start (with_point d row) at word)

compare_segments : (d : Draft) (place : SegmentPlace) (at : ℕ) (word : Word) → Compared (SpotLimit d (InSegments place) at word) (segment_step true d place at word) (segment_step false d place at word)
unfolding segment_step
compare_segments d segments.Start at word = compare_segment_start d at word
compare_segments d (segments.Right left) at word = Same refl
compare_segments d (segments.Shape left right) at word = Same refl
compare_segments d (segments.From left right) at word = Same refl
compare_segments d (segments.To left right p) at word = Same refl
compare_segments d (segments.End row) at word = compare_cond (SegmentLimit (with_segment d row)) (is_flag word) (segment_flag d row at word) _ _ (compare_segment_start (with_segment d row) at word)

compare_spot : (d : Draft) (spot : Spot) (at : ℕ) (word : Word) → Compared (SpotLimit d spot at word) (spot_step true d spot at word) (spot_step false d spot at word)
unfolding spot_step
compare_spot d (InHead place) at word = Same refl
compare_spot d (InPoints place) at word = compare_points d place at word
compare_spot d (InSegments place) at word = compare_segments d place at word
compare_spot d (InMaterials spot) at word = Same refl

strict_is_loose : (Limited : In2dRefusal → Type 0) (r s : Step) (m : Draft) → Compared Limited r s → r ≡ Ok m → s ≡ Ok m
strict_is_loose Limited r s m (Same same) e = sym same ∙ e
strict_is_loose Limited r s m (Limit f n bad limit loose) e = absurd (not_both m f (sym e ∙ bad))

-- ---- loose refusals stand at their word

abbrev IsFault : ℕ → Word → In2dRefusal → Type 0
IsFault at word (Syntax v) = v ≡ at
IsFault at word (Number v) = v ≡ at
IsFault at word (Curved k) = word ≡ three_word
IsFault at word (TooMany what) = ⊥
IsFault at word (NumberTwice v) = ⊥
IsFault at word (UnknownPoint v) = ⊥
IsFault at word Memory = ⊥

abbrev FaultsAt : ℕ → Word → Step → Type 0
FaultsAt at word (Ok d) = Unit {0}
FaultsAt at word (Err e) = IsFault at word e

faults_cond : (at : ℕ) (word : Word) (b : Bool) (r s : Step) → FaultsAt at word r → FaultsAt at word s → FaultsAt at word (cond b r s)
faults_cond at word true r s p q = p
faults_cond at word false r s p q = q

faults_or : {A : Type 0} (at : ℕ) (word : Word) (o : Option A) (d : In2dRefusal) (f : A → Step) → IsFault at word d → ((x : A) → FaultsAt at word (f x)) → FaultsAt at word (or_else o d >>= f)
faults_or at word None d f p q = p
faults_or at word (Some x) d f p q = q x

faults_size : (at : ℕ) (word : Word) (before : Option Dec) (given : Given Dec) (f : Option Dec → Step) → ((x : Option Dec) → FaultsAt at word (f x)) → FaultsAt at word (size_after before at given >>= f)
faults_size at word before Nothing f q = q before
faults_size at word before (Value x) f q = q (Some x)
faults_size at word before Bad f q = refl

faults_number : (at : ℕ) (word : Word) (before : Option ℕ) (given : Given ℕ) (f : Option ℕ → Step) → ((x : Option ℕ) → FaultsAt at word (f x)) → FaultsAt at word (number_after before at given >>= f)
faults_number at word before Nothing f q = q before
faults_number at word before (Value x) f q = q (Some x)
faults_number at word before Bad f q = refl

head_faults : (d : Draft) (place : HeadPlace) (at : ℕ) (word : Word) → FaultsAt at word (head_step d place at word)
unfolding head_step
head_faults d heads.First at word = faults_cond at word (bytes_eq word head_word) (Ok (at_spot d (InHead heads.Number))) (Err (Syntax at)) tt refl
head_faults d heads.Number at word = faults_or at word (decimal_of word) (Number at) (λ number. Ok (at_spot (with_number d number) (InHead heads.Points))) refl (λ x. tt)
head_faults d heads.Points at word = faults_cond at word (bytes_eq word points_word) (Ok (at_spot d (InPoints points.Start))) (Err (Syntax at)) tt refl

point_start_faults : (d : Draft) (at : ℕ) (word : Word) → FaultsAt at word (point_start false d at word)
unfolding point_start new_point
point_start_faults d at word = faults_cond at word (bytes_eq word segments_word) (Ok (at_spot d (InSegments segments.Start))) (or_else (whole_of word 999999) (Syntax at) >>= new_point false d at) tt (faults_or at word (whole_of word 999999) (Syntax at) (new_point false d at) refl (λ n. tt))

point_faults : (d : Draft) (place : PointPlace) (at : ℕ) (word : Word) → FaultsAt at word (point_step false d place at word)
unfolding point_step point_flag
point_faults d points.Start at word = point_start_faults d at word
point_faults d (points.X n) at word = faults_or at word (decimal_of word) (Number at) (λ x. Ok (at_spot d (InPoints (points.Y n x)))) refl (λ x. tt)
point_faults d (points.Y n x) at word = faults_or at word (decimal_of word) (Number at) (λ y. Ok (at_spot d (InPoints (points.End (record { number = n; x = x; y = y; maxh = None }))))) refl (λ y. tt)
point_faults d (points.End row) at word =
    faults_cond at word (is_flag word) (point_flag d row at word) (point_start false (with_point d row) at word)
    (faults_size at word row.maxh (size_in word) (λ maxh. Ok (at_spot d (InPoints (points.End (sized_point row maxh))))) (λ x. tt))
    (point_start_faults (with_point d row) at word)

segment_start_faults : (d : Draft) (at : ℕ) (word : Word) → FaultsAt at word (segment_start false d at word)
unfolding segment_start new_segment
segment_start_faults d at word = faults_cond at word (bytes_eq word materials_word) (Ok (at_spot d (InMaterials NoMaterial))) (or_else (whole_of word 64) (Syntax at) >>= new_segment false d) tt (faults_or at word (whole_of word 64) (Syntax at) (new_segment false d) refl (λ n. tt))

curved_fault : (b : Bool) (at k : ℕ) (word : Word) → bytes_eq word three_word ≡ b → FaultsAt at word (cond b (Err (Curved k)) (Err (Number at)))
curved_fault true at k word e = (bytes_eq-Decides word three_word).0 e
curved_fault false at k word e = refl

shape_faults : (d : Draft) (left right at : ℕ) (word : Word) → FaultsAt at word (shape_step d left right at word)
unfolding shape_step
shape_faults d left right at word =
    faults_cond at word (bytes_eq word two_word) (Ok (at_spot d (InSegments (segments.From left right)))) (cond (bytes_eq word three_word) (Err (Curved (length d.segments + 1))) (Err (Number at))) tt
    (curved_fault (bytes_eq word three_word) at (length d.segments + 1) word refl)

segment_faults : (d : Draft) (place : SegmentPlace) (at : ℕ) (word : Word) → FaultsAt at word (segment_step false d place at word)
unfolding segment_step segment_flag
segment_faults d segments.Start at word = segment_start_faults d at word
segment_faults d (segments.Right left) at word = faults_or at word (whole_of word 64) (Number at) (λ n. Ok (at_spot d (InSegments (segments.Shape left n)))) refl (λ n. tt)
segment_faults d (segments.Shape left right) at word = shape_faults d left right at word
segment_faults d (segments.From left right) at word = faults_or at word (whole_of word 999999) (Number at) (λ n. Ok (at_spot d (InSegments (segments.To left right n)))) refl (λ n. tt)
segment_faults d (segments.To left right p) at word = faults_or at word (whole_of word 999999) (Number at) (λ n. Ok (at_spot d (InSegments (segments.End (record { left = left; right = right; p = p; q = n; bc = None; maxh = None }))))) refl (λ n. tt)
segment_faults d (segments.End row) at word =
    faults_cond at word (is_flag word) (segment_flag d row at word) (segment_start false (with_segment d row) at word)
    (faults_number at word row.bc (number_in word) (λ bc. size_after row.maxh at (size_in word) >>= λ maxh. Ok (at_spot d (InSegments (segments.End (flagged_segment row bc maxh)))))
    (λ bc. faults_size at word row.maxh (size_in word) (λ maxh. Ok (at_spot d (InSegments (segments.End (flagged_segment row bc maxh))))) (λ x. tt)))
    (segment_start_faults (with_segment d row) at word)

material_start_faults : (d : Draft) (at : ℕ) (word : Word) → FaultsAt at word (material_start d at word)
unfolding material_start
material_start_faults d at word = faults_or at word (from_one (whole_of word 64)) (Syntax at) (λ domain. Ok (at_spot d (InMaterials (MaterialName domain)))) refl (λ n. tt)

material_faults : (d : Draft) (spot : MaterialSpot) (at : ℕ) (word : Word) → FaultsAt at word (material_step d spot at word)
unfolding material_step material_flag
material_faults d NoMaterial at word = material_start_faults d at word
material_faults d (MaterialName domain) at word = faults_cond at word (is_name word) (Ok (at_spot d (InMaterials (MaterialEnd (record { domain = domain; name = word; maxh = None }))))) (Err (Syntax at)) tt refl
material_faults d (MaterialEnd row) at word =
    faults_cond at word (is_flag word) (material_flag d row at word) (material_start (with_material d row) at word)
    (faults_size at word row.maxh (size_in word) (λ maxh. Ok (at_spot d (InMaterials (MaterialEnd (sized_material row maxh))))) (λ x. tt))
    (material_start_faults (with_material d row) at word)

spot_faults : (d : Draft) (spot : Spot) (at : ℕ) (word : Word) → FaultsAt at word (spot_step false d spot at word)
unfolding spot_step
spot_faults d (InHead place) at word = head_faults d place at word
spot_faults d (InPoints place) at word = point_faults d place at word
spot_faults d (InSegments place) at word = segment_faults d place at word
spot_faults d (InMaterials spot) at word = material_faults d spot at word

-- ---- words one after another

bind_err : {A B : Type 0} (r : Result A In2dRefusal) (f : A → Result B In2dRefusal) (e : In2dRefusal) → (r >>= f) ≡ Err e → (r ≡ Err e) ⊎ ((x : A) × (r ≡ Ok x) × (f x ≡ Err e))
bind_err (Ok x) f e h = inr (x, refl, h)
bind_err (Err d) f e h = inl (same_err d e h)
  where
    same_err : {A B : Type 0} (d e : In2dRefusal) → refused {A = B} d ≡ refused e → refused {A = A} d ≡ refused e
    same_err d e h = cc

strict_steps : (d m : Draft) (at : ℕ) (words : List Word) → steps true d at words ≡ Ok m → steps false d at words ≡ Ok m
unfolding steps
strict_steps d m at [] e = e
strict_steps d m at (word ∷ words) e =
    let b = bind_ok (step true d at word) (λ next. steps true next (at + 1) words) m e in
    let one : step false d at word ≡ Ok b.0 = strict_is_loose (SpotLimit d d.spot at word) (step true d at word) (step false d at word) b.0 (compare_spot d d.spot at word) b.1 in
    ap (λ (r : Step). r >>= λ next. steps false next (at + 1) words) one ∙ strict_steps b.0 m (at + 1) words b.2

steps_append : (strict : Bool) (d m : Draft) (at : ℕ) (words rest : List Word) → steps strict d at words ≡ Ok m → steps strict d at (words ++ rest) ≡ steps strict m (at + length words) rest
unfolding steps
steps_append strict d m at [] rest e =
    let k : at ≡ at + 0 = omega arith in
    ap (λ (n : Draft). steps strict n at rest) (ok_is _ _ e) ∙ ap (λ (a : ℕ). steps strict m a rest) k
steps_append strict d m at (word ∷ words) rest e =
    let b = bind_ok (step strict d at word) (λ next. steps strict next (at + 1) words) m e in
    let k : at + 1 + length words ≡ at + suc (length words) = omega arith in
    ap (λ (r : Step). r >>= λ next. steps strict next (at + 1) (words ++ rest)) b.1 ∙ steps_append strict b.0 m (at + 1) words rest b.2 ∙ ap (λ (a : ℕ). steps strict m a rest) k

record Located (strict : Bool) (d : Draft) (at : ℕ) (words : List Word) (e : In2dRefusal) : Type 0 where
  before : List Word
  word : Word
  after : List Word
  m : Draft
  same : words ≡ before ++ (word ∷ after)
  read : steps strict d at before ≡ Ok m
  stop : step strict m (at + length before) word ≡ Err e

locate : (strict : Bool) (d : Draft) (at : ℕ) (words : List Word) (e : In2dRefusal) → steps strict d at words ≡ Err e → Located strict d at words e
unfolding steps
locate strict d at [] e h = absurd (not_both d e h)
locate strict d at (word ∷ words) e h =
    elim (bind_err (step strict d at word) (λ next. steps strict next (at + 1) words) e h) [
      | inl stop ↦
          let k : at ≡ at + 0 = omega arith in
          record { before = []; word = word; after = words; m = d; same = refl; read = refl; stop = ap (λ (a : ℕ). step strict d a word) (sym k) ∙ stop }
      | inr on ↦
          let l = locate strict on.0 (at + 1) words e on.2 in
          let k : at + 1 + length l.before ≡ at + suc (length l.before) = omega arith in
          record {
            before = word ∷ l.before;
            word = l.word;
            after = l.after;
            m = l.m;
            same = ap (λ (w : List Word). word ∷ w) l.same;
            read = ap (λ (r : Step). r >>= λ next. steps strict next (at + 1) l.before) on.1 ∙ l.read;
            stop = ap (λ (a : ℕ). step strict l.m a l.word) (sym k) ∙ l.stop;
          }
    ]

-- ---- the first word that doesn't fit

-- what is read strictly is the front of a derived text within the limits
front_within : (words : List Word) (m : Draft) → steps true nothing_read 1 words ≡ Ok m → IsFront Within words
front_within words m e =
    let c = completed true m in
    let all : steps true nothing_read 1 (words ++ c.rest) ≡ Ok c.last = steps_append true nothing_read m 1 words c.rest e ∙ c.read (1 + length words) in
    let found = strictly_within (words ++ c.rest) c.raw c.last 0 all (c.finish 0) in
    (c.rest, c.raw, found.0, found.1)

front_any : (words : List Word) (m : Draft) → steps false nothing_read 1 words ≡ Ok m → IsFront IsAny words
front_any words m e =
    let c = completed false m in
    let all : steps false nothing_read 1 (words ++ c.rest) ≡ Ok c.last = steps_append false nothing_read m 1 words c.rest e ∙ c.read (1 + length words) in
    (c.rest, c.raw, derived false (words ++ c.rest) c.raw c.last 1 0 all (c.finish 0), tt)

-- a word at which the reading stops begins no text that is read
no_front : (strict : Bool) (before : List Word) (word : Word) (rest : List Word) (m last : Draft) (e : In2dRefusal) → steps strict nothing_read 1 before ≡ Ok m → step strict m (1 + length before) word ≡ Err e
    → steps strict nothing_read 1 ((before ++ word ∷ []) ++ rest) ≡ Ok last → ⊥
unfolding steps
no_front strict before word rest m last e read stop all =
    let regrouped : (before ++ word ∷ []) ++ rest ≡ before ++ (word ∷ rest) = append_assoc before (word ∷ []) rest in
    let on : steps strict m (1 + length before) (word ∷ rest) ≡ Ok last = sym (steps_append strict nothing_read m 1 before (word ∷ rest) read) ∙ ap (λ (w : List Word). steps strict nothing_read 1 w) (sym regrouped) ∙ all in
    let b = bind_ok (step strict m (1 + length before) word) (λ next. steps strict next (1 + length before + 1) rest) last on in
    not_both b.0 e (sym b.1 ∙ stop)

-- ---- what may come

-- a word that may come is read
pub admitted_step : (before : List Word) (word : Word) (m : Draft) → steps false nothing_read 1 before ≡ Ok m → Admits before word → (next : Draft) × (step false m (1 + length before) word ≡ Ok next)
unfolding steps
admitted_step before word m read admits =
    let all = read_loosely ((before ++ word ∷ []) ++ admits.0) admits.1 admits.2 in
    let regrouped : (before ++ word ∷ []) ++ admits.0 ≡ before ++ (word ∷ admits.0) = append_assoc before (word ∷ []) admits.0 in
    let on : steps false m (1 + length before) (word ∷ admits.0) ≡ Ok all.last = sym (steps_append false nothing_read m 1 before (word ∷ admits.0) read) ∙ ap (λ (w : List Word). steps false nothing_read 1 w) (sym regrouped) ∙ all.read in
    let b = bind_ok (step false m (1 + length before) word) (λ next. steps false next (1 + length before + 1) admits.0) all.last on in
    (b.0, b.1)

-- and a word that is read may come
step_admits : (before : List Word) (word : Word) (m next : Draft) → steps false nothing_read 1 before ≡ Ok m → step false m (1 + length before) word ≡ Ok next → Admits before word
unfolding steps
step_admits before word m next read on = front_any (before ++ word ∷ []) next (steps_append false nothing_read m 1 before (word ∷ []) read ∙ ap (λ (r : Step). r >>= λ n. Ok n) on)

wants_number : (before : List Word) (m : Draft) → steps false nothing_read 1 before ≡ Ok m → IsInside (need m.spot) → WantsNumber before
unfolding finish
wants_number before m read inside = record {
  only = λ word admits.
      let on = admitted_step before word m read admits in
      inside_is_number m on.0 m.spot (1 + length before) word inside on.1;
  on = λ raw is.
      let all = read_loosely before raw is in
      let same : all.last ≡ m = ok_is _ _ (sym all.read ∙ read) in
      inside_goes_on m m.spot 0 raw inside (ap (λ (n : Draft). finish n 0) (sym same) ∙ all.finish 0);
}

wants_other : (before : List Word) (m : Draft) → steps false nothing_read 1 before ≡ Ok m → OpensTo m → WantsNumber before → ⊥
wants_other before m read (inl (word, next, one, other)) wants = some_none (decimal_of word) (wants.only word (step_admits before word m next read (one (1 + length before)))).0 (wants.only word (step_admits before word m next read (one (1 + length before)))).1 other
wants_other before m read (inr (raw, ends)) wants = wants.on raw (derived false before raw m 1 0 read (ends 0))

-- ---- the kind of a refusal says what may come

for_number : (before : List Word) (m : Draft) (word : Word) → steps false nothing_read 1 before ≡ Ok m → IsInside (need m.spot) ⊎ ((is_flag word ≡ true) × IsRowEnd (need m.spot)) → StandsForNumber before word
for_number before m word read (inl inside) = inl (wants_number before m read inside)
for_number before m word read (inr (flag, end)) =
    let on = flag_on m m.spot end in
    inr (flag, (plain_flag, plain_is_flag, step_admits before plain_flag m on.0 read (on.1 (1 + length before))))

not_for_number : (before : List Word) (m : Draft) (word : Word) → steps false nothing_read 1 before ≡ Ok m → IsOpen (need m.spot) → (is_flag word ≡ true → IsRowEnd (need m.spot) → ⊥) → StandsForNumber before word → ⊥
not_for_number before m word read open_spot other (inl wants) = wants_other before m read (opens_to m m.spot open_spot) wants
not_for_number before m word read open_spot other (inr (flag, (any, is, admits))) =
    let on = admitted_step before any m read admits in
    other flag (flag_follows_row m on.0 m.spot (1 + length before) any is on.1)

-- the third number of segment k comes next
record WantsShape (before : List Word) (k : ℕ) : Type 0 where
  number : WantsNumber before
  raw : RawGeometry
  straight : Derives (before ++ two_word ∷ two_word ∷ two_word ∷ []) raw
  last : k ≡ length raw.segments

wants_shape : (before : List Word) (m : Draft) (k : ℕ) → steps false nothing_read 1 before ≡ Ok m → IsShape m m.spot k → WantsShape before k
wants_shape before m k read shape =
    let s = straight m m.spot k shape in
    let all : steps false nothing_read 1 (before ++ two_word ∷ two_word ∷ two_word ∷ []) ≡ Ok s.last = steps_append false nothing_read m 1 before (two_word ∷ two_word ∷ two_word ∷ []) read ∙ s.read (1 + length before) in
    record { number = wants_number before m read s.inside; raw = s.raw; straight = derived false (before ++ two_word ∷ two_word ∷ two_word ∷ []) s.raw s.last 1 0 all (s.finish 0); last = s.count }

abbrev KindOf : List Word → Word → In2dRefusal → Type 0
KindOf before word (Syntax v) = StandsForNumber before word → ⊥
KindOf before word (Number v) = StandsForNumber before word × (word ≡ three_word → ⊥)
KindOf before word (Curved k) = WantsShape before k
KindOf before word (TooMany v) = Unit {0}
KindOf before word (NumberTwice v) = Unit {0}
KindOf before word (UnknownPoint v) = Unit {0}
KindOf before word Memory = Unit {0}

kind_of : (before : List Word) (m : Draft) (word : Word) (e : In2dRefusal) → steps false nothing_read 1 before ≡ Ok m → KindFits m m.spot word e → KindOf before word e
kind_of before m word (Syntax v) read fits = not_for_number before m word read fits.0 fits.1
kind_of before m word (Number v) read fits = (for_number before m word read fits.0, fits.1)
kind_of before m word (Curved k) read fits = wants_shape before m k read fits
kind_of before m word (TooMany v) read fits = tt
kind_of before m word (NumberTwice v) read fits = tt
kind_of before m word (UnknownPoint v) read fits = tt
kind_of before m word Memory read fits = tt

abbrev StopsSo : List Word → ℕ → Word → In2dRefusal → Type 0
StopsSo words at word e = (s : Stops IsAny words at word) × KindOf s.before word e

loose_stop : (words before : List Word) (word : Word) (after : List Word) (m : Draft) (e : In2dRefusal) → words ≡ before ++ (word ∷ after) → steps true nothing_read 1 before ≡ Ok m → step false m (1 + length before) word ≡ Err e → StopsSo words (length before + 1) word e
loose_stop words before word after m e same read stop =
    let loosely = strict_steps nothing_read m 1 before read in
    let fits : KindFits m m.spot word e = subst (λ (r : Step). KindsFit m m.spot word r) stop (spot_kinds m m.spot (1 + length before) word) in (
      record {
        before = before;
        after = after;
        same = same;
        place = refl;
        front = front_within before m read;
        stop = λ front.
            let all = read_loosely ((before ++ word ∷ []) ++ front.0) front.1 front.2 in
            no_front false before word front.0 m all.last e loosely stop all.read;
      },
      kind_of before m word e loosely fits,
    )

limit_stop : (words before : List Word) (word : Word) (after : List Word) (m next : Draft) (e : In2dRefusal) → words ≡ before ++ (word ∷ after) → steps true nothing_read 1 before ≡ Ok m → step true m (1 + length before) word ≡ Err e → step false m (1 + length before) word ≡ Ok next → Passes words (length before + 1) word
limit_stop words before word after m next e same read stop on = record {
  stops = record {
    before = before;
    after = after;
    same = same;
    place = refl;
    front = front_within before m read;
    stop = λ front.
        let all = read_within ((before ++ word ∷ []) ++ front.0) front.1 front.2 front.3 in
        no_front true before word front.0 m all.last e read stop all.read;
  };
  derived = step_admits before word m next (strict_steps nothing_read m 1 before read) on;
}

-- a refusal at a word is one of the grammar or one of the limits
refusal_of_grammar : (words : List Word) (at : ℕ) (word : Word) (e : In2dRefusal) → IsFault at word e → StopsSo words at word e → Refuses words e
refusal_of_grammar words at word (Syntax v) fault stops = let moved = subst (λ (a : ℕ). (s : Stops IsAny words a word) × (StandsForNumber s.before word → ⊥)) (sym fault) stops in inl (word, moved.0, moved.1)
refusal_of_grammar words at word (Number v) fault stops = let moved = subst (λ (a : ℕ). (s : Stops IsAny words a word) × (StandsForNumber s.before word × (word ≡ three_word → ⊥))) (sym fault) stops in (word, moved.0, moved.1.0, moved.1.1)
refusal_of_grammar words at word (Curved k) fault stops = curved (subst (λ (w : Word). (s : Stops IsAny words at w) × WantsShape s.before k) fault stops)
  where
    curved : (s : Stops IsAny words at three_word) × WantsShape s.before k → IsCurved words k
    curved (s, shape) = record { at = at; stops = s; number = shape.number; raw = shape.raw; straight = shape.straight; last = shape.last }
refusal_of_grammar words at word (TooMany what) fault stops = absurd fault
refusal_of_grammar words at word (NumberTwice v) fault stops = absurd fault
refusal_of_grammar words at word (UnknownPoint v) fault stops = absurd fault
refusal_of_grammar words at word Memory fault stops = absurd fault

-- what stands before a word that begins a row: behind points, the word `segments` would end them
points_before : (before : List Word) (s c : Draft) → AtPoints true s c → steps true nothing_read 1 before ≡ Ok s → (raw : RawGeometry) × Derives (before ++ segments_word ∷ []) raw × (raw.points ≡ c.points) × (length c.points ≤ 4096)
unfolding steps finish finish_spot
points_before before s c at read =
    let on : steps true nothing_read 1 (before ++ segments_word ∷ []) ≡ Ok (at_spot c (InSegments segments.Start)) =
    steps_append true nothing_read s 1 before (segments_word ∷ []) read ∙ steps_one true s (at_spot c (InSegments segments.Start)) (1 + length before) segments_word [] (at.section (1 + length before)) in
    let found = strictly_within (before ++ segments_word ∷ []) (whole_raw c) (at_spot c (InSegments segments.Start)) 0 on refl in
    (whole_raw c, found.0, refl, found.1.points)

-- behind segments, the text could end
segments_before : (before : List Word) (s c : Draft) → AtSegments true s c → steps true nothing_read 1 before ≡ Ok s → (raw : RawGeometry) × Derives before raw × (raw.segments ≡ c.segments) × (length c.segments ≤ 4096)
segments_before before s c at read =
    let found = strictly_within before (whole_raw c) s 0 read (at.finish 0) in
    (whole_raw c, found.0, refl, found.1.segments)

-- why a word that begins a row is refused by the limits
abbrev LimitKind : List Word → ℕ → Word → In2dRefusal → Type 0
LimitKind before at word (Syntax v) = ⊥
LimitKind before at word (Number v) = ⊥
LimitKind before at word (Curved v) = ⊥
LimitKind before at word (TooMany what) = IsFull what before
LimitKind before at word (NumberTwice v) = (v ≡ at) × StoodBefore before word
LimitKind before at word (UnknownPoint v) = ⊥
LimitKind before at word Memory = ⊥

point_limit : (before : List Word) (s c : Draft) (at : ℕ) (word : Word) (e : In2dRefusal) → AtPoints true s c → steps true nothing_read 1 before ≡ Ok s → PointLimit c at word e → LimitKind before at word e
point_limit before s c at word (Syntax v) here read limit = limit
point_limit before s c at word (Number v) here read limit = limit
point_limit before s c at word (Curved v) here read limit = limit
point_limit before s c at word (TooMany what) here read limit =
    let p = points_before before s c here read in
    let least : 4096 ≤ length c.points = leb-true 4096 (length c.points) limit.1 in
    Points limit.0 p.0 p.1 (ap length p.2 ∙ omega (arith, p.3, least))
point_limit before s c at word (NumberTwice v) here read limit =
    let p = points_before before s c here read in
    let less : length c.points < 4096 = leb-false 4096 (length c.points) limit.3 in (
      limit.0,
      record { number = limit.1; is = limit.2; raw = p.0; ended = p.1; known = ap (is_known limit.1) p.2 ∙ limit.4; few = subst (λ (rows : List PointRow). length rows < 4096) (sym p.2) less },
    )
point_limit before s c at word (UnknownPoint v) here read limit = limit
point_limit before s c at word Memory here read limit = limit

segment_limit : (before : List Word) (s c : Draft) (at : ℕ) (word : Word) (e : In2dRefusal) → AtSegments true s c → steps true nothing_read 1 before ≡ Ok s → SegmentLimit c e → LimitKind before at word e
segment_limit before s c at word (Syntax v) here read limit = limit
segment_limit before s c at word (Number v) here read limit = limit
segment_limit before s c at word (Curved v) here read limit = limit
segment_limit before s c at word (TooMany what) here read limit =
    let p = segments_before before s c here read in
    let least : 4096 ≤ length c.segments = leb-true 4096 (length c.segments) limit.1 in
    Segments limit.0 p.0 p.1 (ap length p.2 ∙ omega (arith, p.3, least))
segment_limit before s c at word (NumberTwice v) here read limit = absurd limit
segment_limit before s c at word (UnknownPoint v) here read limit = limit
segment_limit before s c at word Memory here read limit = limit

limit_kind : (before : List Word) (d : Draft) (spot : Spot) (at : ℕ) (word : Word) (e : In2dRefusal) → steps true nothing_read 1 before ≡ Ok (at_spot d spot) → SpotLimit d spot at word e → LimitKind before at word e
limit_kind before d (InHead place) at word e read limit = absurd limit
limit_kind before d (InPoints points.Start) at word e read limit = point_limit before (at_spot d (InPoints points.Start)) d at word e (at_first_point true d) read limit
limit_kind before d (InPoints (points.X n)) at word e read limit = absurd limit
limit_kind before d (InPoints (points.Y n x)) at word e read limit = absurd limit
limit_kind before d (InPoints (points.End row)) at word e read limit = point_limit before (at_spot d (InPoints (points.End row))) (with_point d row) at word e (at_next_point true d row) read limit
limit_kind before d (InSegments segments.Start) at word e read limit = segment_limit before (at_spot d (InSegments segments.Start)) d at word e (at_first_segment true d) read limit
limit_kind before d (InSegments (segments.Right left)) at word e read limit = absurd limit
limit_kind before d (InSegments (segments.Shape left right)) at word e read limit = absurd limit
limit_kind before d (InSegments (segments.From left right)) at word e read limit = absurd limit
limit_kind before d (InSegments (segments.To left right p)) at word e read limit = absurd limit
limit_kind before d (InSegments (segments.End row)) at word e read limit = segment_limit before (at_spot d (InSegments (segments.End row))) (with_segment d row) at word e (at_next_segment true d row) read limit
limit_kind before d (InMaterials spot) at word e read limit = absurd limit

refusal_of_limits : (words : List Word) (at : ℕ) (word : Word) (e : In2dRefusal) → (p : Passes words at word) → LimitKind p.stops.before at word e → Refuses words e
refusal_of_limits words at word (Syntax v) passes limit = absurd limit
refusal_of_limits words at word (Number v) passes limit = absurd limit
refusal_of_limits words at word (Curved v) passes limit = absurd limit
refusal_of_limits words at word (TooMany what) passes limit = (at, word, passes, limit)
refusal_of_limits words at word (NumberTwice v) passes limit = subst (λ (a : ℕ). Refuses words (NumberTwice a)) (sym limit.0) (word, passes, limit.1)
refusal_of_limits words at word (UnknownPoint v) passes limit = absurd limit
refusal_of_limits words at word Memory passes limit = absurd limit

refused_by : (words before : List Word) (word : Word) (after : List Word) (m : Draft) (e : In2dRefusal) → words ≡ before ++ (word ∷ after) → steps true nothing_read 1 before ≡ Ok m → step true m (1 + length before) word ≡ Err e
    → Compared (SpotLimit m m.spot (1 + length before) word) (step true m (1 + length before) word) (step false m (1 + length before) word) → Refuses words e
unfolding limit_stop
refused_by words before word after m e same read stop (Same equal) =
    let loose : step false m (1 + length before) word ≡ Err e = sym equal ∙ stop in
    let fault : IsFault (1 + length before) word e = subst (λ (r : Step). FaultsAt (1 + length before) word r) loose (spot_faults m m.spot (1 + length before) word) in
    let k : 1 + length before ≡ length before + 1 = omega arith in
    refusal_of_grammar words (length before + 1) word e (subst (λ (a : ℕ). IsFault a word e) k fault) (loose_stop words before word after m e same read loose)
refused_by words before word after m e same read stop (Limit f next bad limit loose) =
    let same_refusal : f ≡ e = err_is f e (sym bad ∙ stop) in
    let k : 1 + length before ≡ length before + 1 = omega arith in
    let kind : LimitKind before (1 + length before) word f = limit_kind before m m.spot (1 + length before) word f read limit in
    refusal_of_limits words (length before + 1) word e (limit_stop words before word after m next e same read stop loose)
    (subst (λ (a : ℕ). LimitKind before a word e) k (subst (λ (r : In2dRefusal). LimitKind before (1 + length before) word r) same_refusal kind))
  where
    err_is : (f e : In2dRefusal) → refused {A = Draft} f ≡ refused e → f ≡ e
    err_is f e h = cc

refused_at_word : (words : List Word) (e : In2dRefusal) → steps true nothing_read 1 words ≡ Err e → Refuses words e
refused_at_word words e h =
    let l = locate true nothing_read 1 words e h in
    refused_by words l.before l.word l.after l.m e l.same l.read l.stop (compare_spot l.m l.m.spot (1 + length l.before) l.word)

-- ---- the end of the text

finish_err : (d : Draft) (spot : Spot) (at : ℕ) (e : In2dRefusal) → finish_spot d spot at ≡ Err e → e ≡ Syntax at
unfolding finish_spot
finish_err d (InHead place) at e h = cc
finish_err d (InPoints place) at e h = cc
finish_err d (InSegments segments.Start) at e h = absurd (not_both (whole_raw d) e h)
finish_err d (InSegments (segments.Right left)) at e h = cc
finish_err d (InSegments (segments.Shape left right)) at e h = cc
finish_err d (InSegments (segments.From left right)) at e h = cc
finish_err d (InSegments (segments.To left right p)) at e h = cc
finish_err d (InSegments (segments.End row)) at e h = absurd (not_both (whole_raw (with_segment d row)) e h)
finish_err d (InMaterials NoMaterial) at e h = absurd (not_both (whole_raw d) e h)
finish_err d (InMaterials (MaterialName domain)) at e h = cc
finish_err d (InMaterials (MaterialEnd row)) at e h = absurd (not_both (whole_raw (with_material d row)) e h)

refused_at_end : (words : List Word) (d : Draft) (e : In2dRefusal) → steps true nothing_read 1 words ≡ Ok d → finish d (length words + 1) ≡ Err e → Refuses words e
unfolding finish
refused_at_end words d e read stop =
    let misses : Misses words (length words + 1) = record {
      place = refl;
      front = front_within words d read;
      stop = λ raw is.
          let all = read_loosely words raw is in
          let same : all.last ≡ d = ok_is _ _ (sym all.read ∙ strict_steps nothing_read d 1 words read) in
          not_both raw e (sym (all.finish (length words + 1)) ∙ ap (λ (m : Draft). finish m (length words + 1)) same ∙ stop);
    } in
    subst (λ (r : In2dRefusal). Refuses words r) (sym (finish_err d d.spot (length words + 1) e stop)) (inr misses)

record UnknownFrom (ps : List PointRow) (k : ℕ) (rows : List SegmentRow) (e : In2dRefusal) : Type 0 where
  before : List SegmentRow
  row : SegmentRow
  after : List SegmentRow
  same : rows ≡ before ++ (row ∷ after)
  refusal : e ≡ UnknownPoint (k + length before)
  known : AllByRecursion (HasEnds ps) before
  unknown : HasEnds ps row → ⊥

unknown_from : (ps : List PointRow) (k : ℕ) (rows : List SegmentRow) (e : In2dRefusal) → known_from ps k rows ≡ Err e → UnknownFrom ps k rows e
unfolding known_from
unknown_from ps k [] e h = absurd (not_both tt e h)
unknown_from ps k (row ∷ rows) e h =
    elim (chosen (is_known row.p ps && is_known row.q ps) (known_from ps (k + 1) rows) (Err (UnknownPoint k)) (Err e) h) [
      | inl on ↦
          let u = unknown_from ps (k + 1) rows e on.1 in
          let place : k + 1 + length u.before ≡ k + suc (length u.before) = omega arith in
          record { before = row ∷ u.before; row = u.row; after = u.after; same = ap (λ (r : List SegmentRow). row ∷ r) u.same; refusal = u.refusal ∙ ap (λ (n : ℕ). UnknownPoint n) place; known = (and_parts _ _ on.0, u.known); unknown = u.unknown }
      | inr stop ↦
          let place : k ≡ k + 0 = omega arith in
          record { before = []; row = row; after = rows; same = refl; refusal = refusal_is e k stop.1 ∙ ap (λ (n : ℕ). UnknownPoint n) place; known = tt; unknown = λ ends. both_ways (is_known row.p ps && is_known row.q ps) stop.0 (and_from _ _ ends.0 ends.1) }
    ]
  where
    chosen : {A : Type 0} (b : Bool) (x y z : A) → cond b x y ≡ z → ((b ≡ true) × (x ≡ z)) ⊎ ((b ≡ false) × (y ≡ z))
    chosen true x y z e = inl (refl, e)
    chosen false x y z e = inr (refl, e)

    refusal_is : (e : In2dRefusal) (k : ℕ) → refused {A = Unit {0}} (UnknownPoint k) ≡ refused e → e ≡ UnknownPoint k
    refusal_is e k h = cc

refused_by_points : (words : List Word) (raw : RawGeometry) (e : In2dRefusal) → Derives words raw → Within raw → with_known raw ≡ Err e → Refuses words e
refused_by_points words raw e d w h =
    elim (bind_err (known_from raw.points 1 raw.segments) (λ known. Ok raw) e h) [
      | inl stop ↦
          let u = unknown_from raw.points 1 raw.segments e stop in
          let k : 1 + length u.before ≡ length u.before + 1 = omega arith in
          subst (λ (r : In2dRefusal). Refuses words r) (sym u.refusal) (raw, d, w, record { before = u.before; row = u.row; after = u.after; same = u.same; place = k; known = u.known; unknown = u.unknown })
      | inr on ↦ absurd (not_both raw e on.2)
    ]

pub refusal_is_first : (words : List Word) (e : In2dRefusal) → geometry_of words ≡ Err e → Refuses words e
unfolding geometry_of
refusal_is_first words e h =
    elim (bind_err (steps true nothing_read 1 words) (λ d. finished d (length words + 1)) e h) [
      | inl stop ↦ refused_at_word words e stop
      | inr on ↦ after_words words on.0 e on.1 on.2
    ]
  where
    after_words : (words : List Word) (d : Draft) (e : In2dRefusal) → steps true nothing_read 1 words ≡ Ok d → finished d (length words + 1) ≡ Err e → Refuses words e
    after_words words d e read h =
        elim (bind_err (finish d (length words + 1)) with_known e h) [
          | inl stop ↦ refused_at_end words d e read stop
          | inr on ↦
              let found = strictly_within words on.0 d (length words + 1) read on.1 in
              refused_by_points words on.0 e found.0 found.1 on.2
        ]

fails_is : (words : List Word) (e : In2dRefusal) → Fails e (geometry_of words) → Refuses words e
fails_is words Memory gives = tt
fails_is words (Syntax v) gives = refusal_is_first words (Syntax v) gives
fails_is words (Number v) gives = refusal_is_first words (Number v) gives
fails_is words (Curved v) gives = refusal_is_first words (Curved v) gives
fails_is words (TooMany v) gives = refusal_is_first words (TooMany v) gives
fails_is words (NumberTwice v) gives = refusal_is_first words (NumberTwice v) gives
fails_is words (UnknownPoint v) gives = refusal_is_first words (UnknownPoint v) gives

pub is_refused : (words : List Word) (r : Result RawGeometry In2dRefusal) → Gives (λ raw. raw) r (geometry_of words) → IfErr r (Refuses words)
is_refused words (Ok raw) gives = tt
is_refused words (Err e) gives = fails_is words e gives
