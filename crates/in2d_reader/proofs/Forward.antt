-- What is read is derived by the grammar: from each spot, the words that were read on are those that the grammar wants there.
use Rattle.std.proofs.Common.{◌≡◌, ℕ, ◌+◌, Bool, true, false, cond, ◌&&◌, ◌⊎◌, inl, inr, List, [], ◌∷◌, ◌++◌, length, Option, Some, None, Result, Ok, Err, refl, sym, ap, subst, ◌∙◌, append_assoc}
use Rattle.std.specs.Prelude.{nat_le}
use Rattle.std.specs.Str.{bytes_eq}
use Rattle.std.specs.List.{flat_map, AllByRecursion}
use Rattle.std.proofs.lemmas.List.{append-nil}
use Rattle.std.proofs.lemmas.Slice.Eq.{bytes_eq-Decides}
use Rattle.word_scan.specs.declared.decimals.Dec.{Dec}
use Rattle.word_scan.specs.Numerals.{whole_of}
use Rattle.word_scan.specs.Decimals.{decimal_of}
use Rattle.in2d_reader.specs.declared.geometry.PointRow.{PointRow}
use Rattle.in2d_reader.specs.declared.geometry.SegmentRow.{SegmentRow}
use Rattle.in2d_reader.specs.declared.geometry.MaterialRow.{MaterialRow}
use Rattle.in2d_reader.specs.declared.geometry.RawGeometry.{RawGeometry}
use Rattle.in2d_reader.specs.declared.refusal.In2dRefusal.{In2dRefusal}
use Rattle.in2d_reader.specs.declared.refusal.In2dRefusal.TheVariants.{Syntax, Number, Curved, TooMany, NumberTwice}
use Rattle.in2d_reader.specs.declared.place.HeadPlace.{HeadPlace}
use Rattle.in2d_reader.specs.declared.place.HeadPlace.TheVariants as heads
use Rattle.in2d_reader.specs.declared.place.PointPlace.{PointPlace}
use Rattle.in2d_reader.specs.declared.place.PointPlace.TheVariants as points
use Rattle.in2d_reader.specs.declared.place.SegmentPlace.{SegmentPlace}
use Rattle.in2d_reader.specs.declared.place.SegmentPlace.TheVariants as segments
use Rattle.in2d_reader.specs.Words.{Word, head_word, points_word, segments_word, materials_word, two_word, three_word, is_flag, is_name, Given, Nothing, Value, Bad, size_in, number_in, from_one}
use Rattle.in2d_reader.specs.Steps.{MaterialSpot, NoMaterial, MaterialName, MaterialEnd, Spot, InHead, InPoints, InSegments, InMaterials, Draft, at_spot, with_point, with_segment, with_material, with_number, or_else, ◌>>=◌, head_step, size_after, number_after, sized_point, flagged_segment, sized_material, new_point, point_start, point_flag, point_step, new_segment, segment_start, shape_step, segment_flag, segment_step, material_start, material_flag, material_step, spot_step, step, nothing_read, steps, finish_spot, finish}
use Rattle.in2d_reader.specs.Grammar.{is_known, PointText, SegmentText, MaterialText, FileText, point_words, segment_words, material_words, materials_part, segments_part, file_words, IsGood, latest, last_value, IsSizeFlag, IsSegmentFlag, IsPoint, IsSegment, IsMaterial, Each, material_texts, IsFile, Derives}

-- ---- inversions

pub bind_ok : {A B : Type 0} (r : Result A In2dRefusal) (f : A → Result B In2dRefusal) (y : B) → (r >>= f) ≡ Ok y → (x : A) × (r ≡ Ok x) × (f x ≡ Ok y)
bind_ok (Ok x) f y e = (x, refl, e)
bind_ok (Err d) f y e = absurd cc

pub or_else_ok : {A : Type 0} (o : Option A) (d : In2dRefusal) (x : A) → or_else o d ≡ Ok x → o ≡ Some x
or_else_ok None d x e = absurd cc
or_else_ok (Some y) d x e = cc

abbrev pub done : {A : Type 0} → A → Result A In2dRefusal
done x = Ok x

pub ok_is : {A : Type 0} (x y : A) → done x ≡ done y → x ≡ y
ok_is x y e = cc

-- a test chooses between going on and a refusal
pub guard_ok : {A : Type 0} (b : Bool) (d : In2dRefusal) (r : Result A In2dRefusal) (y : A) → cond b (Err d) r ≡ Ok y → (b ≡ false) × (r ≡ Ok y)
guard_ok true d r y e = absurd cc
guard_ok false d r y e = (refl, e)

fixed_ok : {A : Type 0} (word fixed : Word) (x y : A) (d : In2dRefusal) → cond (bytes_eq word fixed) (Ok x) (Err d) ≡ done y → (word ≡ fixed) × (x ≡ y)
fixed_ok word fixed x y d e = go (bytes_eq word fixed) refl e
  where
    go : (b : Bool) → bytes_eq word fixed ≡ b → cond b (Ok x) (Err d) ≡ done y → (word ≡ fixed) × (x ≡ y)
    go true t h = ((bytes_eq-Decides word fixed).0 t, ok_is x y h)
    go false t h = absurd cc

size_ok : (before after : Option Dec) (at : ℕ) (given : Given Dec) → size_after before at given ≡ Ok after → IsGood given × (latest before given ≡ after)
size_ok before after at Nothing e = (tt, ok_is _ _ e)
size_ok before after at (Value x) e = (tt, ok_is _ _ e)
size_ok before after at Bad e = absurd cc

number_ok : (before after : Option ℕ) (at : ℕ) (given : Given ℕ) → number_after before at given ≡ Ok after → IsGood given × (latest before given ≡ after)
number_ok before after at Nothing e = (tt, ok_is _ _ e)
number_ok before after at (Value x) e = (tt, ok_is _ _ e)
number_ok before after at Bad e = absurd cc

-- ---- what the grammar wants behind each spot

-- rows that are still to come
record Coming : Type 0 where
  number : Dec
  points : List PointRow
  segments : List SegmentRow
  materials : List MaterialRow

-- rows of materials, to the end
record MaterialsOn (words : List Word) (rows : List MaterialRow) : Type 0 where
  texts : List MaterialText
  each : Each IsMaterial texts rows
  same : words ≡ flat_map material_words texts

-- rows of segments, and the materials where there are some, to the end
record SegmentsOn (words : List Word) (rows : List SegmentRow) (materials : List MaterialRow) : Type 0 where
  texts : List SegmentText
  part : Option (List MaterialText)
  each : Each IsSegment texts rows
  each_part : Each IsMaterial (material_texts part) materials
  same : words ≡ segments_part texts part

record PointsOn (words : List Word) (coming : Coming) : Type 0 where
  texts : List PointText
  rest : List Word
  each : Each IsPoint texts coming.points
  on : SegmentsOn rest coming.segments coming.materials
  same : words ≡ flat_map point_words texts ++ (segments_word ∷ rest)

abbrev coming : Dec → List PointRow → List SegmentRow → List MaterialRow → Coming
coming number points segments materials = record { number = number; points = points; segments = segments; materials = materials }

-- flags behind this row of the points, and then rows
record PointEndOn (row : PointRow) (words : List Word) (c : Coming) : Type 0 where
  flags : List Word
  rest : List Word
  others : List PointRow
  good : AllByRecursion IsSizeFlag flags
  rows : c.points ≡ sized_point row (last_value size_in row.maxh flags) ∷ others
  on : PointsOn rest (coming c.number others c.segments c.materials)
  same : words ≡ flags ++ rest

record SegmentEndOn (row : SegmentRow) (words : List Word) (c : Coming) : Type 0 where
  flags : List Word
  rest : List Word
  others : List SegmentRow
  good : AllByRecursion IsSegmentFlag flags
  none : c.points ≡ []
  rows : c.segments ≡ flagged_segment row (last_value number_in row.bc flags) (last_value size_in row.maxh flags) ∷ others
  on : SegmentsOn rest others c.materials
  same : words ≡ flags ++ rest

record MaterialEndOn (row : MaterialRow) (words : List Word) (c : Coming) : Type 0 where
  flags : List Word
  rest : List Word
  others : List MaterialRow
  good : AllByRecursion IsSizeFlag flags
  no_points : c.points ≡ []
  no_segments : c.segments ≡ []
  rows : c.materials ≡ sized_material row (last_value size_in row.maxh flags) ∷ others
  on : MaterialsOn rest others
  same : words ≡ flags ++ rest

abbrev pub new_point_row : ℕ → Dec → Dec → PointRow
new_point_row n x y = record { number = n; x = x; y = y; maxh = None }

abbrev pub new_segment_row : ℕ → ℕ → ℕ → ℕ → SegmentRow
new_segment_row left right p q = record { left = left; right = right; p = p; q = q; bc = None; maxh = None }

abbrev pub new_material_row : ℕ → Word → MaterialRow
new_material_row domain name = record { domain = domain; name = name; maxh = None }

abbrev PointYOn : ℕ → Dec → List Word → Coming → Type 0
PointYOn n x words c = (word : Word) × (rest : List Word) × (y : Dec) × (words ≡ word ∷ rest) × (decimal_of word ≡ Some y) × PointEndOn (new_point_row n x y) rest c

abbrev PointXOn : ℕ → List Word → Coming → Type 0
PointXOn n words c = (word : Word) × (rest : List Word) × (x : Dec) × (words ≡ word ∷ rest) × (decimal_of word ≡ Some x) × PointYOn n x rest c

abbrev ToOn : ℕ → ℕ → ℕ → List Word → Coming → Type 0
ToOn left right p words c = (word : Word) × (rest : List Word) × (q : ℕ) × (words ≡ word ∷ rest) × (whole_of word 999999 ≡ Some q) × SegmentEndOn (new_segment_row left right p q) rest c

abbrev FromOn : ℕ → ℕ → List Word → Coming → Type 0
FromOn left right words c = (word : Word) × (rest : List Word) × (p : ℕ) × (words ≡ word ∷ rest) × (whole_of word 999999 ≡ Some p) × ToOn left right p rest c

abbrev ShapeOn : ℕ → ℕ → List Word → Coming → Type 0
ShapeOn left right words c = (rest : List Word) × (words ≡ two_word ∷ rest) × FromOn left right rest c

abbrev RightOn : ℕ → List Word → Coming → Type 0
RightOn left words c = (word : Word) × (rest : List Word) × (right : ℕ) × (words ≡ word ∷ rest) × (whole_of word 64 ≡ Some right) × ShapeOn left right rest c

abbrev NameOn : ℕ → List Word → Coming → Type 0
NameOn domain words c = (word : Word) × (rest : List Word) × (words ≡ word ∷ rest) × (is_name word ≡ true) × MaterialEndOn (new_material_row domain word) rest c

abbrev NumberOn : List Word → Coming → Type 0
NumberOn words c = (word : Word) × (rest : List Word) × (words ≡ word ∷ points_word ∷ rest) × (decimal_of word ≡ Some c.number) × PointsOn rest c

abbrev On : Spot → List Word → Coming → Type 0
On (InPoints points.Start) words c = PointsOn words c
On (InPoints (points.X n)) words c = PointXOn n words c
On (InPoints (points.Y n x)) words c = PointYOn n x words c
On (InPoints (points.End row)) words c = PointEndOn row words c
On (InSegments segments.Start) words c = (c.points ≡ []) × SegmentsOn words c.segments c.materials
On (InSegments (segments.Right left)) words c = RightOn left words c
On (InSegments (segments.Shape left right)) words c = ShapeOn left right words c
On (InSegments (segments.From left right)) words c = FromOn left right words c
On (InSegments (segments.To left right p)) words c = ToOn left right p words c
On (InSegments (segments.End row)) words c = SegmentEndOn row words c
On (InMaterials NoMaterial) words c = (c.points ≡ []) × (c.segments ≡ []) × MaterialsOn words c.materials
On (InMaterials (MaterialName domain)) words c = NameOn domain words c
On (InMaterials (MaterialEnd row)) words c = MaterialEndOn row words c
On (InHead heads.First) words c = (rest : List Word) × (words ≡ head_word ∷ rest) × NumberOn rest c
On (InHead heads.Number) words c = NumberOn words c
On (InHead heads.Points) words c = (rest : List Word) × (words ≡ points_word ∷ rest) × PointsOn rest c

-- the number of the file is kept once it is read
abbrev Kept : Spot → Dec → Dec → Type 0
Kept (InHead heads.First) old new = Unit {0}
Kept (InHead heads.Number) old new = Unit {0}
Kept (InHead heads.Points) old new = old ≡ new
Kept (InPoints place) old new = old ≡ new
Kept (InSegments place) old new = old ≡ new
Kept (InMaterials spot) old new = old ≡ new

-- the geometry is what was read, and then what is still to come
abbrev made_of : Draft → Coming → RawGeometry
made_of d c = record { number = c.number; points = d.points ++ c.points; segments = d.segments ++ c.segments; materials = d.materials ++ c.materials }

record Reads (d : Draft) (words : List Word) (raw : RawGeometry) : Type 0 where
  c : Coming
  on : On d.spot words c
  number : Kept d.spot c.number d.number
  made : raw ≡ made_of d c

pub chosen_ok : {A : Type 0} (b : Bool) (x y z : A) → cond b x y ≡ z → ((b ≡ true) × (x ≡ z)) ⊎ ((b ≡ false) × (y ≡ z))
chosen_ok true x y z e = inl (refl, e)
chosen_ok false x y z e = inr (refl, e)

-- ---- points

-- the rows of the points, from a row's start
record PointsRead (d : Draft) (words : List Word) (raw : RawGeometry) : Type 0 where
  c : Coming
  on : PointsOn words c
  number : c.number ≡ d.number
  made : raw ≡ made_of d c

point_first : (d : Draft) (n : ℕ) (word : Word) (words : List Word) (raw : RawGeometry) → whole_of word 999999 ≡ Some n → Reads (at_spot d (InPoints (points.X n))) words raw → PointsRead d (word ∷ words) raw
point_first d n word words raw e r =
    let x = r.on in
    let y = x.5 in
    let end = y.5 in
    let row = sized_point (new_point_row n x.2 y.2) (last_value size_in None end.flags) in
    let text : PointText = record { number = word; x = x.0; y = y.0; flags = end.flags } in
    let first : IsPoint text row = record { number = e; x = x.4; y = y.4; flags = end.good; maxh = refl } in
    let each : Each IsPoint (text ∷ end.on.texts) (row ∷ end.others) = (first, end.on.each) in
    let tail : words ≡ x.0 ∷ y.0 ∷ (end.flags ++ (flat_map point_words end.on.texts ++ (segments_word ∷ end.on.rest))) =
    x.3 ∙ ap (λ (w : List Word). x.0 ∷ w) (y.3 ∙ ap (λ (w : List Word). y.0 ∷ w) (end.same ∙ ap (λ (w : List Word). end.flags ++ w) end.on.same)) in
    let same : word ∷ words ≡ flat_map point_words (text ∷ end.on.texts) ++ (segments_word ∷ end.on.rest) =
    ap (λ (w : List Word). word ∷ w) (tail ∙ ap (λ (w : List Word). x.0 ∷ y.0 ∷ w) (sym (append_assoc end.flags (flat_map point_words end.on.texts) (segments_word ∷ end.on.rest)))) in
    record {
      c = r.c;
      on = record { texts = text ∷ end.on.texts; rest = end.on.rest; each = subst (λ (rows : List PointRow). Each IsPoint (text ∷ end.on.texts) rows) (sym end.rows) each; on = end.on.on; same = same };
      number = r.number;
      made = r.made;
    }

point_last : (d : Draft) (words : List Word) (raw : RawGeometry) → Reads (at_spot d (InSegments segments.Start)) words raw → PointsRead d (segments_word ∷ words) raw
point_last d words raw r =
    record {
      c = r.c;
      on = record { texts = []; rest = words; each = subst (λ (rows : List PointRow). Each IsPoint [] rows) (sym r.on.0) tt; on = r.on.1; same = refl };
      number = r.number;
      made = r.made;
    }

new_point_ok : (strict : Bool) (d next : Draft) (at n : ℕ) → new_point strict d at n ≡ Ok next → at_spot d (InPoints (points.X n)) ≡ next
unfolding new_point
new_point_ok strict d next at n e =
    let a = guard_ok (strict && nat_le 4096 (length d.points)) (TooMany 1) (cond (strict && is_known n d.points) (Err (NumberTwice at)) (Ok (at_spot d (InPoints (points.X n))))) next e in
    let b = guard_ok (strict && is_known n d.points) (NumberTwice at) (Ok (at_spot d (InPoints (points.X n)))) next a.1 in
    ok_is _ _ b.1

point_start_back : (strict : Bool) (d next : Draft) (at : ℕ) (word : Word) (words : List Word) (raw : RawGeometry) → point_start strict d at word ≡ Ok next → Reads next words raw → PointsRead d (word ∷ words) raw
unfolding point_start
point_start_back strict d next at word words raw e r =
    elim (chosen_ok (bytes_eq word segments_word) (Ok (at_spot d (InSegments segments.Start))) (or_else (whole_of word 999999) (Syntax at) >>= new_point strict d at) (Ok next) e) [
      | inl h ↦
          let w : word ≡ segments_word = (bytes_eq-Decides word segments_word).0 h.0 in
          subst (λ (v : Word). PointsRead d (v ∷ words) raw) (sym w) (point_last d words raw (subst (λ (n : Draft). Reads n words raw) (sym (ok_is _ _ h.1)) r))
      | inr h ↦
          let b = bind_ok (or_else (whole_of word 999999) (Syntax at)) (new_point strict d at) next h.1 in
          point_first d b.0 word words raw (or_else_ok _ _ _ b.1) (subst (λ (n : Draft). Reads n words raw) (sym (new_point_ok strict d next at b.0 b.2)) r)
    ]

point_pushed : (d : Draft) (row : PointRow) (words : List Word) (raw : RawGeometry) → PointsRead (with_point d row) words raw → Reads (at_spot d (InPoints (points.End row))) words raw
point_pushed d row words raw r =
    record {
      c = coming r.c.number (row ∷ r.c.points) r.c.segments r.c.materials;
      on = record { flags = []; rest = words; others = r.c.points; good = tt; rows = refl; on = r.on; same = refl };
      number = r.number;
      made = r.made ∙ ap (λ (rows : List PointRow). record { number = r.c.number; points = rows; segments = d.segments ++ r.c.segments; materials = d.materials ++ r.c.materials }) (append_assoc d.points (row ∷ []) r.c.points);
    }

point_flagged : (d : Draft) (row : PointRow) (size : Option Dec) (word : Word) (words : List Word) (raw : RawGeometry) → is_flag word ≡ true → IsGood (size_in word) → latest row.maxh (size_in word) ≡ size
    → Reads (at_spot d (InPoints (points.End (sized_point row size)))) words raw → Reads (at_spot d (InPoints (points.End row))) (word ∷ words) raw
point_flagged d row size word words raw flag good e r =
    let end = r.on in
    record {
      c = r.c;
      on = record {
        flags = word ∷ end.flags;
        rest = end.rest;
        others = end.others;
        good = ((flag, good), end.good);
        rows = end.rows ∙ ap (λ (m : Option Dec). sized_point row (last_value size_in m end.flags) ∷ end.others) (sym e);
        on = end.on;
        same = ap (λ (w : List Word). word ∷ w) end.same;
      };
      number = r.number;
      made = r.made;
    }

point_x_back : (d next : Draft) (n at : ℕ) (word : Word) (words : List Word) (raw : RawGeometry) → (or_else (decimal_of word) (Number at) >>= λ x. Ok (at_spot d (InPoints (points.Y n x)))) ≡ Ok next → Reads next words raw → Reads (at_spot d (InPoints (points.X n))) (word ∷ words) raw
point_x_back d next n at word words raw e r =
    let b = bind_ok (or_else (decimal_of word) (Number at)) (λ x. Ok (at_spot d (InPoints (points.Y n x)))) next e in
    let s = subst (λ (m : Draft). Reads m words raw) (sym (ok_is _ _ b.2)) r in
    record { c = s.c; on = (word, words, b.0, refl, or_else_ok _ _ _ b.1, s.on); number = s.number; made = s.made }

point_y_back : (d next : Draft) (n : ℕ) (x : Dec) (at : ℕ) (word : Word) (words : List Word) (raw : RawGeometry) → (or_else (decimal_of word) (Number at) >>= λ y. Ok (at_spot d (InPoints (points.End (new_point_row n x y))))) ≡ Ok next → Reads next words raw → Reads (at_spot d (InPoints (points.Y n x))) (word ∷ words) raw
point_y_back d next n x at word words raw e r =
    let b = bind_ok (or_else (decimal_of word) (Number at)) (λ y. Ok (at_spot d (InPoints (points.End (new_point_row n x y))))) next e in
    let s = subst (λ (m : Draft). Reads m words raw) (sym (ok_is _ _ b.2)) r in
    record { c = s.c; on = (word, words, b.0, refl, or_else_ok _ _ _ b.1, s.on); number = s.number; made = s.made }

point_flag_back : (d next : Draft) (row : PointRow) (at : ℕ) (word : Word) (words : List Word) (raw : RawGeometry) → is_flag word ≡ true → point_flag d row at word ≡ Ok next → Reads next words raw → Reads (at_spot d (InPoints (points.End row))) (word ∷ words) raw
unfolding point_flag
point_flag_back d next row at word words raw flag e r =
    let b = bind_ok (size_after row.maxh at (size_in word)) (λ maxh. Ok (at_spot d (InPoints (points.End (sized_point row maxh))))) next e in
    let g = size_ok row.maxh b.0 at (size_in word) b.1 in
    point_flagged d row b.0 word words raw flag g.0 g.1 (subst (λ (m : Draft). Reads m words raw) (sym (ok_is _ _ b.2)) r)

point_back : (strict : Bool) (d next : Draft) (place : PointPlace) (at : ℕ) (word : Word) (words : List Word) (raw : RawGeometry) → point_step strict d place at word ≡ Ok next → Reads next words raw → Reads (at_spot d (InPoints place)) (word ∷ words) raw
unfolding point_step
point_back strict d next points.Start at word words raw e r =
    let p = point_start_back strict d next at word words raw e r in
    record { c = p.c; on = p.on; number = p.number; made = p.made }
point_back strict d next (points.X n) at word words raw e r = point_x_back d next n at word words raw e r
point_back strict d next (points.Y n x) at word words raw e r = point_y_back d next n x at word words raw e r
point_back strict d next (points.End row) at word words raw e r =
    elim (chosen_ok (is_flag word) (point_flag d row at word) (point_start strict (with_point d row) at word) (Ok next) e) [
      | inl h ↦ point_flag_back d next row at word words raw h.0 h.1 r
      | inr h ↦ point_pushed d row (word ∷ words) raw (point_start_back strict (with_point d row) next at word words raw h.1 r)
    ]

-- ---- segments

record SegmentsRead (d : Draft) (words : List Word) (raw : RawGeometry) : Type 0 where
  c : Coming
  none : c.points ≡ []
  on : SegmentsOn words c.segments c.materials
  number : c.number ≡ d.number
  made : raw ≡ made_of d c

segment_first : (d : Draft) (left : ℕ) (word : Word) (words : List Word) (raw : RawGeometry) → whole_of word 64 ≡ Some left → Reads (at_spot d (InSegments (segments.Right left))) words raw → SegmentsRead d (word ∷ words) raw
segment_first d left word words raw e r =
    let right = r.on in
    let shape = right.5 in
    let from = shape.2 in
    let to = from.5 in
    let end = to.5 in
    let row = flagged_segment (new_segment_row left right.2 from.2 to.2) (last_value number_in None end.flags) (last_value size_in None end.flags) in
    let text : SegmentText = record { left = word; right = right.0; from = from.0; to = to.0; flags = end.flags } in
    let first : IsSegment text row = record { left = e; right = right.4; from = from.4; to = to.4; flags = end.good; bc = refl; maxh = refl } in
    let each : Each IsSegment (text ∷ end.on.texts) (row ∷ end.others) = (first, end.on.each) in
    let tail : words ≡ right.0 ∷ two_word ∷ from.0 ∷ to.0 ∷ (end.flags ++ segments_part end.on.texts end.on.part) =
    right.3 ∙ ap (λ (w : List Word). right.0 ∷ w) (shape.1 ∙ ap (λ (w : List Word). two_word ∷ w) (from.3 ∙ ap (λ (w : List Word). from.0 ∷ w) (to.3 ∙ ap (λ (w : List Word). to.0 ∷ w) (end.same ∙ ap (λ (w : List Word). end.flags ++ w) end.on.same)))) in
    let same : word ∷ words ≡ segments_part (text ∷ end.on.texts) end.on.part =
    ap (λ (w : List Word). word ∷ w) (tail ∙ ap (λ (w : List Word). right.0 ∷ two_word ∷ from.0 ∷ to.0 ∷ w) (sym (append_assoc end.flags (flat_map segment_words end.on.texts) (materials_part end.on.part)))) in
    record {
      c = r.c;
      none = end.none;
      on = record { texts = text ∷ end.on.texts; part = end.on.part; each = subst (λ (rows : List SegmentRow). Each IsSegment (text ∷ end.on.texts) rows) (sym end.rows) each; each_part = end.on.each_part; same = same };
      number = r.number;
      made = r.made;
    }

segment_last : (d : Draft) (words : List Word) (raw : RawGeometry) → Reads (at_spot d (InMaterials NoMaterial)) words raw → SegmentsRead d (materials_word ∷ words) raw
segment_last d words raw r =
    record {
      c = r.c;
      none = r.on.0;
      on = record { texts = []; part = Some r.on.2.texts; each = subst (λ (rows : List SegmentRow). Each IsSegment [] rows) (sym r.on.1) tt; each_part = r.on.2.each; same = ap (λ (w : List Word). materials_word ∷ w) r.on.2.same };
      number = r.number;
      made = r.made;
    }

new_segment_ok : (strict : Bool) (d next : Draft) (left : ℕ) → new_segment strict d left ≡ Ok next → at_spot d (InSegments (segments.Right left)) ≡ next
unfolding new_segment
new_segment_ok strict d next left e =
    let a = guard_ok (strict && nat_le 4096 (length d.segments)) (TooMany 2) (Ok (at_spot d (InSegments (segments.Right left)))) next e in
    ok_is _ _ a.1

segment_start_back : (strict : Bool) (d next : Draft) (at : ℕ) (word : Word) (words : List Word) (raw : RawGeometry) → segment_start strict d at word ≡ Ok next → Reads next words raw → SegmentsRead d (word ∷ words) raw
unfolding segment_start
segment_start_back strict d next at word words raw e r =
    elim (chosen_ok (bytes_eq word materials_word) (Ok (at_spot d (InMaterials NoMaterial))) (or_else (whole_of word 64) (Syntax at) >>= new_segment strict d) (Ok next) e) [
      | inl h ↦
          let w : word ≡ materials_word = (bytes_eq-Decides word materials_word).0 h.0 in
          subst (λ (v : Word). SegmentsRead d (v ∷ words) raw) (sym w) (segment_last d words raw (subst (λ (n : Draft). Reads n words raw) (sym (ok_is _ _ h.1)) r))
      | inr h ↦
          let b = bind_ok (or_else (whole_of word 64) (Syntax at)) (new_segment strict d) next h.1 in
          segment_first d b.0 word words raw (or_else_ok _ _ _ b.1) (subst (λ (n : Draft). Reads n words raw) (sym (new_segment_ok strict d next b.0 b.2)) r)
    ]

segment_pushed : (d : Draft) (row : SegmentRow) (words : List Word) (raw : RawGeometry) → SegmentsRead (with_segment d row) words raw → Reads (at_spot d (InSegments (segments.End row))) words raw
segment_pushed d row words raw r =
    record {
      c = coming r.c.number r.c.points (row ∷ r.c.segments) r.c.materials;
      on = record { flags = []; rest = words; others = r.c.segments; good = tt; none = r.none; rows = refl; on = r.on; same = refl };
      number = r.number;
      made = r.made ∙ ap (λ (rows : List SegmentRow). record { number = r.c.number; points = d.points ++ r.c.points; segments = rows; materials = d.materials ++ r.c.materials }) (append_assoc d.segments (row ∷ []) r.c.segments);
    }

segment_flag_back : (d next : Draft) (row : SegmentRow) (at : ℕ) (word : Word) (words : List Word) (raw : RawGeometry) → is_flag word ≡ true → segment_flag d row at word ≡ Ok next → Reads next words raw → Reads (at_spot d (InSegments (segments.End row))) (word ∷ words) raw
unfolding segment_flag
segment_flag_back d next row at word words raw flag e r =
    let a = bind_ok (number_after row.bc at (number_in word)) (λ bc. size_after row.maxh at (size_in word) >>= λ maxh. Ok (at_spot d (InSegments (segments.End (flagged_segment row bc maxh))))) next e in
    let b = bind_ok (size_after row.maxh at (size_in word)) (λ maxh. Ok (at_spot d (InSegments (segments.End (flagged_segment row a.0 maxh))))) next a.2 in
    let n = number_ok row.bc a.0 at (number_in word) a.1 in
    let g = size_ok row.maxh b.0 at (size_in word) b.1 in
    let s = subst (λ (m : Draft). Reads m words raw) (sym (ok_is _ _ b.2)) r in
    let end = s.on in
    record {
      c = s.c;
      on = record {
        flags = word ∷ end.flags;
        rest = end.rest;
        others = end.others;
        good = ((flag, n.0, g.0), end.good);
        none = end.none;
        rows = end.rows
            ∙ ap (λ (m : Option ℕ). flagged_segment row (last_value number_in m end.flags) (last_value size_in b.0 end.flags) ∷ end.others) (sym n.1)
            ∙ ap (λ (m : Option Dec). flagged_segment row (last_value number_in row.bc (word ∷ end.flags)) (last_value size_in m end.flags) ∷ end.others) (sym g.1);
        on = end.on;
        same = ap (λ (w : List Word). word ∷ w) end.same;
      };
      number = s.number;
      made = s.made;
    }

whole_back : (d next : Draft) (greatest at : ℕ) (spot : ℕ → SegmentPlace) (word : Word) → (or_else (whole_of word greatest) (Number at) >>= λ n. Ok (at_spot d (InSegments (spot n)))) ≡ Ok next → (n : ℕ) × (whole_of word greatest ≡ Some n) × (at_spot d (InSegments (spot n)) ≡ next)
whole_back d next greatest at spot word e =
    let b = bind_ok (or_else (whole_of word greatest) (Number at)) (λ n. Ok (at_spot d (InSegments (spot n)))) next e in
    (b.0, or_else_ok _ _ _ b.1, ok_is _ _ b.2)

shape_back : (d next : Draft) (left right at : ℕ) (word : Word) (words : List Word) (raw : RawGeometry) → shape_step d left right at word ≡ Ok next → Reads next words raw → Reads (at_spot d (InSegments (segments.Shape left right))) (word ∷ words) raw
unfolding shape_step
shape_back d next left right at word words raw e r =
    elim (chosen_ok (bytes_eq word two_word) (Ok (at_spot d (InSegments (segments.From left right)))) (cond (bytes_eq word three_word) (Err (Curved (length d.segments + 1))) (Err (Number at))) (Ok next) e) [
      | inl h ↦
          let w : word ≡ two_word = (bytes_eq-Decides word two_word).0 h.0 in
          let s = subst (λ (m : Draft). Reads m words raw) (sym (ok_is _ _ h.1)) r in
          record { c = s.c; on = (words, ap (λ (v : Word). v ∷ words) w, s.on); number = s.number; made = s.made }
      | inr h ↦ absurd (no_shape (bytes_eq word three_word) (length d.segments + 1) at next h.1)
    ]
  where
    no_shape : (b : Bool) (segment at : ℕ) (next : Draft) → cond b (Err (Curved segment)) (Err (Number at)) ≡ done next → ⊥
    no_shape true segment at next h = cc
    no_shape false segment at next h = cc

segment_back : (strict : Bool) (d next : Draft) (place : SegmentPlace) (at : ℕ) (word : Word) (words : List Word) (raw : RawGeometry) → segment_step strict d place at word ≡ Ok next → Reads next words raw → Reads (at_spot d (InSegments place)) (word ∷ words) raw
unfolding segment_step
segment_back strict d next segments.Start at word words raw e r =
    let p = segment_start_back strict d next at word words raw e r in
    record { c = p.c; on = (p.none, p.on); number = p.number; made = p.made }
segment_back strict d next (segments.Right left) at word words raw e r =
    let b = whole_back d next 64 at (λ n. segments.Shape left n) word e in
    let s = subst (λ (m : Draft). Reads m words raw) (sym b.2) r in
    record { c = s.c; on = (word, words, b.0, refl, b.1, s.on); number = s.number; made = s.made }
segment_back strict d next (segments.Shape left right) at word words raw e r = shape_back d next left right at word words raw e r
segment_back strict d next (segments.From left right) at word words raw e r =
    let b = whole_back d next 999999 at (λ n. segments.To left right n) word e in
    let s = subst (λ (m : Draft). Reads m words raw) (sym b.2) r in
    record { c = s.c; on = (word, words, b.0, refl, b.1, s.on); number = s.number; made = s.made }
segment_back strict d next (segments.To left right p) at word words raw e r =
    let b = whole_back d next 999999 at (λ n. segments.End (new_segment_row left right p n)) word e in
    let s = subst (λ (m : Draft). Reads m words raw) (sym b.2) r in
    record { c = s.c; on = (word, words, b.0, refl, b.1, s.on); number = s.number; made = s.made }
segment_back strict d next (segments.End row) at word words raw e r =
    elim (chosen_ok (is_flag word) (segment_flag d row at word) (segment_start strict (with_segment d row) at word) (Ok next) e) [
      | inl h ↦ segment_flag_back d next row at word words raw h.0 h.1 r
      | inr h ↦ segment_pushed d row (word ∷ words) raw (segment_start_back strict (with_segment d row) next at word words raw h.1 r)
    ]

-- ---- materials

record MaterialsRead (d : Draft) (words : List Word) (raw : RawGeometry) : Type 0 where
  c : Coming
  no_points : c.points ≡ []
  no_segments : c.segments ≡ []
  on : MaterialsOn words c.materials
  number : c.number ≡ d.number
  made : raw ≡ made_of d c

material_start_back : (d next : Draft) (at : ℕ) (word : Word) (words : List Word) (raw : RawGeometry) → material_start d at word ≡ Ok next → Reads next words raw → MaterialsRead d (word ∷ words) raw
unfolding material_start
material_start_back d next at word words raw e r =
    let b = bind_ok (or_else (from_one (whole_of word 64)) (Syntax at)) (λ domain. Ok (at_spot d (InMaterials (MaterialName domain)))) next e in
    let s = subst (λ (m : Draft). Reads m words raw) (sym (ok_is _ _ b.2)) r in
    let name = s.on in
    let end = name.4 in
    let row = sized_material (new_material_row b.0 name.0) (last_value size_in None end.flags) in
    let text : MaterialText = record { domain = word; name = name.0; flags = end.flags } in
    let first : IsMaterial text row = record { domain = or_else_ok _ _ _ b.1; name = name.3; called = refl; flags = end.good; maxh = refl } in
    let each : Each IsMaterial (text ∷ end.on.texts) (row ∷ end.others) = (first, end.on.each) in
    let tail : words ≡ name.0 ∷ (end.flags ++ flat_map material_words end.on.texts) = name.2 ∙ ap (λ (w : List Word). name.0 ∷ w) (end.same ∙ ap (λ (w : List Word). end.flags ++ w) end.on.same) in
    record {
      c = s.c;
      no_points = end.no_points;
      no_segments = end.no_segments;
      on = record { texts = text ∷ end.on.texts; each = subst (λ (rows : List MaterialRow). Each IsMaterial (text ∷ end.on.texts) rows) (sym end.rows) each; same = ap (λ (w : List Word). word ∷ w) tail };
      number = s.number;
      made = s.made;
    }

material_pushed : (d : Draft) (row : MaterialRow) (words : List Word) (raw : RawGeometry) → MaterialsRead (with_material d row) words raw → Reads (at_spot d (InMaterials (MaterialEnd row))) words raw
material_pushed d row words raw r =
    record {
      c = coming r.c.number r.c.points r.c.segments (row ∷ r.c.materials);
      on = record { flags = []; rest = words; others = r.c.materials; good = tt; no_points = r.no_points; no_segments = r.no_segments; rows = refl; on = r.on; same = refl };
      number = r.number;
      made = r.made ∙ ap (λ (rows : List MaterialRow). record { number = r.c.number; points = d.points ++ r.c.points; segments = d.segments ++ r.c.segments; materials = rows }) (append_assoc d.materials (row ∷ []) r.c.materials);
    }

material_flag_back : (d next : Draft) (row : MaterialRow) (at : ℕ) (word : Word) (words : List Word) (raw : RawGeometry) → is_flag word ≡ true → material_flag d row at word ≡ Ok next → Reads next words raw → Reads (at_spot d (InMaterials (MaterialEnd row))) (word ∷ words) raw
unfolding material_flag
material_flag_back d next row at word words raw flag e r =
    let b = bind_ok (size_after row.maxh at (size_in word)) (λ maxh. Ok (at_spot d (InMaterials (MaterialEnd (sized_material row maxh))))) next e in
    let g = size_ok row.maxh b.0 at (size_in word) b.1 in
    let s = subst (λ (m : Draft). Reads m words raw) (sym (ok_is _ _ b.2)) r in
    let end = s.on in
    record {
      c = s.c;
      on = record {
        flags = word ∷ end.flags;
        rest = end.rest;
        others = end.others;
        good = ((flag, g.0), end.good);
        no_points = end.no_points;
        no_segments = end.no_segments;
        rows = end.rows ∙ ap (λ (m : Option Dec). sized_material row (last_value size_in m end.flags) ∷ end.others) (sym g.1);
        on = end.on;
        same = ap (λ (w : List Word). word ∷ w) end.same;
      };
      number = s.number;
      made = s.made;
    }

name_back : (d next : Draft) (domain at : ℕ) (word : Word) (words : List Word) (raw : RawGeometry) → cond (is_name word) (Ok (at_spot d (InMaterials (MaterialEnd (new_material_row domain word))))) (Err (Syntax at)) ≡ done next → Reads next words raw → Reads (at_spot d (InMaterials (MaterialName domain))) (word ∷ words) raw
name_back d next domain at word words raw e r =
    elim (chosen_ok (is_name word) (Ok (at_spot d (InMaterials (MaterialEnd (new_material_row domain word))))) (Err (Syntax at)) (Ok next) e) [
      | inl h ↦
          let s = subst (λ (m : Draft). Reads m words raw) (sym (ok_is _ _ h.1)) r in
          record { c = s.c; on = (word, words, refl, h.0, s.on); number = s.number; made = s.made }
      | inr h ↦ absurd (never h.1)
    ]
  where
    never : Err (Syntax at) ≡ done next → ⊥
    never h = cc

material_back : (d next : Draft) (spot : MaterialSpot) (at : ℕ) (word : Word) (words : List Word) (raw : RawGeometry) → material_step d spot at word ≡ Ok next → Reads next words raw → Reads (at_spot d (InMaterials spot)) (word ∷ words) raw
unfolding material_step
material_back d next NoMaterial at word words raw e r =
    let p = material_start_back d next at word words raw e r in
    record { c = p.c; on = (p.no_points, p.no_segments, p.on); number = p.number; made = p.made }
material_back d next (MaterialName domain) at word words raw e r = name_back d next domain at word words raw e r
material_back d next (MaterialEnd row) at word words raw e r =
    elim (chosen_ok (is_flag word) (material_flag d row at word) (material_start (with_material d row) at word) (Ok next) e) [
      | inl h ↦ material_flag_back d next row at word words raw h.0 h.1 r
      | inr h ↦ material_pushed d row (word ∷ words) raw (material_start_back (with_material d row) next at word words raw h.1 r)
    ]

-- ---- the head

head_back : (d next : Draft) (place : HeadPlace) (at : ℕ) (word : Word) (words : List Word) (raw : RawGeometry) → head_step d place at word ≡ Ok next → Reads next words raw → Reads (at_spot d (InHead place)) (word ∷ words) raw
unfolding head_step
head_back d next heads.First at word words raw e r =
    let f = fixed_ok word head_word (at_spot d (InHead heads.Number)) next (Syntax at) e in
    let s = subst (λ (m : Draft). Reads m words raw) (sym f.1) r in
    record { c = s.c; on = (words, ap (λ (w : Word). w ∷ words) f.0, s.on); number = tt; made = s.made }
head_back d next heads.Number at word words raw e r =
    let b = bind_ok (or_else (decimal_of word) (Number at)) (λ number. Ok (at_spot (with_number d number) (InHead heads.Points))) next e in
    let s = subst (λ (m : Draft). Reads m words raw) (sym (ok_is _ _ b.2)) r in
    record { c = s.c; on = (word, s.on.0, ap (λ (w : List Word). word ∷ w) s.on.1, or_else_ok _ _ _ b.1 ∙ ap (λ (n : Dec). Some n) (sym s.number), s.on.2); number = tt; made = s.made }
head_back d next heads.Points at word words raw e r =
    let f = fixed_ok word points_word (at_spot d (InPoints points.Start)) next (Syntax at) e in
    let s = subst (λ (m : Draft). Reads m words raw) (sym f.1) r in
    record { c = s.c; on = (words, ap (λ (w : Word). w ∷ words) f.0, s.on); number = s.number; made = s.made }

-- ---- the whole

spot_back : (strict : Bool) (d next : Draft) (spot : Spot) (at : ℕ) (word : Word) (words : List Word) (raw : RawGeometry) → spot_step strict d spot at word ≡ Ok next → Reads next words raw → Reads (at_spot d spot) (word ∷ words) raw
unfolding spot_step
spot_back strict d next (InHead place) at word words raw e r = head_back d next place at word words raw e r
spot_back strict d next (InPoints place) at word words raw e r = point_back strict d next place at word words raw e r
spot_back strict d next (InSegments place) at word words raw e r = segment_back strict d next place at word words raw e r
spot_back strict d next (InMaterials spot) at word words raw e r = material_back d next spot at word words raw e r

ended_rows : (number : Dec) (ps : List PointRow) (ss : List SegmentRow) (ms : List MaterialRow) → record { number = number; points = ps; segments = ss; materials = ms } ≡ made_of (record { number = number; points = ps; segments = ss; materials = ms; spot = InHead heads.First }) (coming number [] [] [])
ended_rows number ps ss ms = rw (append-nil ps, append-nil ss, append-nil ms) refl

finished_back : (d : Draft) (spot : Spot) (at : ℕ) (raw : RawGeometry) → finish_spot d spot at ≡ Ok raw → Reads (at_spot d spot) [] raw
unfolding finish_spot
finished_back d (InHead place) at raw e = absurd cc
finished_back d (InPoints place) at raw e = absurd cc
finished_back d (InSegments segments.Start) at raw e =
    record { c = coming d.number [] [] []; on = (refl, record { texts = []; part = None; each = tt; each_part = tt; same = refl }); number = refl; made = sym (ok_is _ _ e) ∙ ended_rows d.number d.points d.segments d.materials }
finished_back d (InSegments (segments.Right left)) at raw e = absurd cc
finished_back d (InSegments (segments.Shape left right)) at raw e = absurd cc
finished_back d (InSegments (segments.From left right)) at raw e = absurd cc
finished_back d (InSegments (segments.To left right p)) at raw e = absurd cc
finished_back d (InSegments (segments.End row)) at raw e =
    segment_pushed d row [] raw (record { c = coming d.number [] [] []; none = refl; on = record { texts = []; part = None; each = tt; each_part = tt; same = refl }; number = refl; made = sym (ok_is _ _ e) ∙ ended_rows d.number d.points (d.segments ++ row ∷ []) d.materials })
finished_back d (InMaterials NoMaterial) at raw e =
    record { c = coming d.number [] [] []; on = (refl, refl, record { texts = []; each = tt; same = refl }); number = refl; made = sym (ok_is _ _ e) ∙ ended_rows d.number d.points d.segments d.materials }
finished_back d (InMaterials (MaterialName domain)) at raw e = absurd cc
finished_back d (InMaterials (MaterialEnd row)) at raw e =
    material_pushed d row [] raw (record { c = coming d.number [] [] []; no_points = refl; no_segments = refl; on = record { texts = []; each = tt; same = refl }; number = refl; made = sym (ok_is _ _ e) ∙ ended_rows d.number d.points d.segments (d.materials ++ row ∷ []) })

-- the words that are read on from a draft are those that the grammar wants there
steps_back : (strict : Bool) (d last : Draft) (at end : ℕ) (words : List Word) (raw : RawGeometry) → steps strict d at words ≡ Ok last → finish last end ≡ Ok raw → Reads d words raw
unfolding steps finish
steps_back strict d last at end [] raw e f =
    let same : d ≡ last = ok_is _ _ e in
    subst (λ (m : Draft). Reads m [] raw) (sym same) (finished_back last last.spot end raw f)
steps_back strict d last at end (word ∷ words) raw e f =
    let b = bind_ok (step strict d at word) (λ next. steps strict next (at + 1) words) last e in
    spot_back strict d b.0 d.spot at word words raw b.1 (steps_back strict b.0 last (at + 1) end words raw b.2 f)

-- what is read to the end is derived
pub derived : (strict : Bool) (words : List Word) (raw : RawGeometry) (last : Draft) (at end : ℕ) → steps strict nothing_read at words ≡ Ok last → finish last end ≡ Ok raw → Derives words raw
derived strict words raw last at end e f =
    let r = steps_back strict nothing_read last at end words raw e f in
    let number = r.on.2 in
    let rows = number.4 in
    let text : FileText = record { number = number.0; points = rows.texts; segments = rows.on.texts; materials = rows.on.part } in
    let is : IsFile text (made_of nothing_read r.c) = record { number = number.3; points = rows.each; segments = rows.on.each; materials = rows.on.each_part } in
    let same : words ≡ file_words text = r.on.1 ∙ ap (λ (w : List Word). head_word ∷ w) (number.2 ∙ ap (λ (w : List Word). number.0 ∷ points_word ∷ w) (rows.same ∙ ap (λ (w : List Word). flat_map point_words rows.texts ++ (segments_word ∷ w)) rows.on.same)) in
    (text, subst (λ (v : RawGeometry). IsFile text v) (sym r.made) is, same)
