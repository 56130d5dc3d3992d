-- There is room for the rows of a text exactly where its geometry is within the limits.
use Rattle.std.proofs.Common.{◌≡◌, ℕ, ◌<◌, ◌≤◌, true, false, eqb, List, [], ◌∷◌, ◌++◌, length, refl, sym, subst, ◌∙◌, arith, append_assoc, length-append}
use Rattle.std.proofs.lemmas.Bool.{leb-false, lt-leb, or_parts, or_from, eqb-false, ne_eqb}
use Rattle.std.proofs.lemmas.List.{append-nil}
use Rattle.in2d_reader.specs.declared.geometry.PointRow.{PointRow}
use Rattle.in2d_reader.specs.declared.geometry.SegmentRow.{SegmentRow}
use Rattle.in2d_reader.specs.declared.geometry.RawGeometry.{RawGeometry}
use Rattle.in2d_reader.specs.Grammar.{is_known, NumbersDiffer, Within}
use Rattle.in2d_reader.proofs.Known.{known_push}
use Rattle.in2d_reader.proofs.Again.{PointRooms, SegmentRooms}

-- without the limits there is always room
pub loose_points : (before rows : List PointRow) → PointRooms false before rows
loose_points before [] = tt
loose_points before (row ∷ rows) = (refl, refl, loose_points (before ++ row ∷ []) rows)

pub loose_segments : (before rows : List SegmentRow) → SegmentRooms false before rows
loose_segments before [] = tt
loose_segments before (row ∷ rows) = (refl, loose_segments (before ++ row ∷ []) rows)

-- numbers differ in either order
turned : (a b : ℕ) → eqb a b ≡ false → eqb b a ≡ false
turned a b e = ne_eqb b a (λ h. eqb-false a b e (sym h))

differ_push : (rows : List PointRow) (row : PointRow) → NumbersDiffer rows → is_known row.number rows ≡ false → NumbersDiffer (rows ++ row ∷ [])
differ_push [] row differ new = (refl, tt)
differ_push (first ∷ rows) row differ new =
    let parts = or_parts (eqb row.number first.number) (is_known row.number rows) new in
    (known_push first.number rows row ∙ or_from (is_known first.number rows) (eqb first.number row.number) differ.0 (turned row.number first.number parts.0), differ_push rows row differ.1 parts.1)

-- a number that stands later is not known before
not_before : (before : List PointRow) (row : PointRow) (rows : List PointRow) → NumbersDiffer (before ++ (row ∷ rows)) → is_known row.number before ≡ false
not_before [] row rows differ = refl
not_before (first ∷ before) row rows differ =
    or_from (eqb row.number first.number) (is_known row.number before) (turned first.number row.number (later first.number before row rows differ.0)) (not_before before row rows differ.1)
  where
    later : (n : ℕ) (before : List PointRow) (row : PointRow) (rows : List PointRow) → is_known n (before ++ (row ∷ rows)) ≡ false → eqb n row.number ≡ false
    later n [] row rows e = (or_parts (eqb n row.number) (is_known n rows) e).0
    later n (first ∷ before) row rows e = later n before row rows (or_parts (eqb n first.number) (is_known n (before ++ (row ∷ rows))) e).1

points_within : (before rows : List PointRow) → PointRooms true before rows → length before ≤ 4096 → NumbersDiffer before → (length (before ++ rows) ≤ 4096) × NumbersDiffer (before ++ rows)
points_within before [] rooms few differ = rw (append-nil before) (few, differ)
points_within before (row ∷ rows) rooms few differ =
    let less : length before < 4096 = leb-false 4096 (length before) rooms.0 in
    let on = points_within (before ++ row ∷ []) rows rooms.2 (omega (arith, length-append before (row ∷ []))) (differ_push before row differ rooms.1) in
    subst (λ (all : List PointRow). (length all ≤ 4096) × NumbersDiffer all) (append_assoc before (row ∷ []) rows) on

point_rooms_within : (before rows : List PointRow) → length (before ++ rows) ≤ 4096 → NumbersDiffer (before ++ rows) → PointRooms true before rows
point_rooms_within before [] few differ = tt
point_rooms_within before (row ∷ rows) few differ =
    let same = sym (append_assoc before (row ∷ []) rows) in (
      lt-leb 4096 (length before) (omega (arith, length-append before (row ∷ rows))),
      not_before before row rows differ,
      point_rooms_within (before ++ row ∷ []) rows (subst (λ (all : List PointRow). length all ≤ 4096) same few) (subst (λ (all : List PointRow). NumbersDiffer all) same differ),
    )

segments_within : (before rows : List SegmentRow) → SegmentRooms true before rows → length before ≤ 4096 → length (before ++ rows) ≤ 4096
segments_within before [] rooms few = rw (append-nil before) few
segments_within before (row ∷ rows) rooms few =
    let less : length before < 4096 = leb-false 4096 (length before) rooms.0 in
    subst (λ (all : List SegmentRow). length all ≤ 4096) (append_assoc before (row ∷ []) rows) (segments_within (before ++ row ∷ []) rows rooms.1 (omega (arith, length-append before (row ∷ []))))

segment_rooms_within : (before rows : List SegmentRow) → length (before ++ rows) ≤ 4096 → SegmentRooms true before rows
segment_rooms_within before [] few = tt
segment_rooms_within before (row ∷ rows) few =
    (lt-leb 4096 (length before) (omega (arith, length-append before (row ∷ rows))), segment_rooms_within (before ++ row ∷ []) rows (subst (λ (all : List SegmentRow). length all ≤ 4096) (sym (append_assoc before (row ∷ []) rows)) few))

pub within : (raw : RawGeometry) → PointRooms true [] raw.points → SegmentRooms true [] raw.segments → Within raw
within raw ps ss =
    let p = points_within [] raw.points ps (omega arith) tt in
    record { points = p.0; segments = segments_within [] raw.segments ss (omega arith); numbers = p.1 }

pub rooms : (raw : RawGeometry) → Within raw → PointRooms true [] raw.points × SegmentRooms true [] raw.segments
rooms raw w = (point_rooms_within [] raw.points w.points w.numbers, segment_rooms_within [] raw.segments w.segments)
