-- What is printed is derived again.
use Rattle.std.proofs.Common.{◌≡◌, ℕ, zero, suc, ◌+◌, ◌-◌, ◌^◌, ◌<◌, ◌≤◌, Bool, true, false, cond, List, [], ◌∷◌, ◌++◌, length, take, drop, map, replicate, Option, Some, None, ℤ, pos, negsuc, ◌-ℤ◌, inl, inr, unsigned_abs, refl, sym, ap, subst, ◌∙◌, arith, length-append}
use Rattle.std.specs.Prelude.{Result, Ok, Err, IfOk, IfSome, nat_le, int_le}
use Rattle.std.specs.List.{flat_map, AllByRecursion}
use Rattle.std.specs.Fmt.{decimal}
use Rattle.std.specs.Str.{all_ascii_digits}
use Rattle.std.specs.Str.Parse.{digits_value_after}
use Rattle.std.proofs.lemmas.Bool.{leb-true, and_parts, and_from}
use Rattle.std.proofs.lemmas.Int.{ints}
use Rattle.std.specs.Char.{is_ascii_digit}
use Rattle.std.proofs.lemmas.List.{length-replicate, length-take, length-drop, take-append-drop, append-nil, drop_all}
use Rattle.word_scan.specs.declared.decimals.Dec.{Dec}
use Rattle.word_scan.specs.Bytes.{is_white}
use Rattle.word_scan.specs.Parts.{IsRun}
use Rattle.word_scan.specs.Scan.{words_of}
use Rattle.word_scan.specs.Numerals.{whole_of, value_of}
use Rattle.word_scan.specs.Decimals.{decimal_of, Sign, sign_of, is_minus, signed, sign_text, fraction_text, fraction_digits, power_text, Power, IsPowerIfAny, DecimalParts, IsDecimal, spelling, value}
use Rattle.word_scan.proofs.DecimalLaws.{decimal_read, all_digits_both}
use Rattle.word_scan.proofs.PlainWords.{plain_byte, plain_bytes, plain_each, plain_start, run_of, plain_both, plain_digits, plain_sign, plain_fraction}
use Rattle.word_scan.proofs.NumberTexts.{Digits, digits_of, whole_again, number_run, signed_again, sign_short}
use Rattle.in2d_reader.specs.declared.geometry.PointRow.{PointRow}
use Rattle.in2d_reader.specs.declared.geometry.SegmentRow.{SegmentRow}
use Rattle.in2d_reader.specs.declared.geometry.MaterialRow.{MaterialRow}
use Rattle.in2d_reader.specs.declared.geometry.RawGeometry.{RawGeometry}
use Rattle.in2d_reader.specs.Words.{Word, head_word, points_word, segments_word, materials_word, two_word, maxh_text, bc_text, is_flag, behind, Given, Value, Nothing, value_or_bad, size_in, number_in, from_one}
use Rattle.in2d_reader.specs.Grammar.{IsGood, latest, material_texts, materials_part, PointText, SegmentText, MaterialText, FileText, point_words, segment_words, material_words, file_words, IsPoint, IsSegment, IsMaterial, Each, IsFile, Derives, last_value, IsSizeFlag, IsSegmentFlag}
use Rattle.in2d_reader.specs.Normal.{filled, plain_parts, power_parts, is_plain, normal_parts, decimal_text, size_flags, number_flags, point_line, segment_line, material_line, material_lines, lines_of, normal_text, IsDec, IsPointRow, IsSegmentRow, IsMaterialRow, CanPrint}
use Rattle.in2d_reader.proofs.Lines.{words_of_lines}
use Rattle.in2d_reader.proofs.Texts.{flat_map_both}

-- ---- decimals

all_parts : (a b : List ℕ) → all_ascii_digits (a ++ b) ≡ true → (all_ascii_digits a ≡ true) × (all_ascii_digits b ≡ true)
all_parts [] b p = (refl, p)
all_parts (x ∷ a) b p =
    let h = and_parts (is_ascii_digit x) (all_ascii_digits (a ++ b)) p in
    let on = all_parts a b h.1 in
    (and_from (is_ascii_digit x) (all_ascii_digits a) h.0 on.0, on.1)

noughts_all : (n : ℕ) → all_ascii_digits (replicate n 48) ≡ true
noughts_all zero = refl
noughts_all (suc n) = noughts_all n

noughts_value : (n : ℕ) (ds : List ℕ) → digits_value_after 10 0 (replicate n 48 ++ ds) ≡ digits_value_after 10 0 ds
noughts_value zero ds = refl
noughts_value (suc n) ds = noughts_value n ds

abbrev dec : ℤ → ℤ → Dec
dec digits scale = record { digits = digits; scale = scale }

abbrev powered : Sign → List ℕ → Sign → List ℕ → DecimalParts
powered sign ds power_sign es = record { sign = sign; front = ds; fraction = None; power = Some (record { letter = 101; sign = power_sign; digits = es }) }

less_nought : (z : ℤ) → z -ℤ pos 0 ≡ z
less_nought z = omega (arith, ints)

-- noughts in front change no value
filled_digits : (k m : ℕ) → k ≤ 20 → m < 10 ^ 30 → Digits m (filled k (decimal m)) 30 × (k < length (filled k (decimal m)))
filled_digits k m le small =
    let d = digits_of m 30 (omega arith) (omega arith) small in
    let n = k + 1 - length (decimal m) in
    let len : length (filled k (decimal m)) ≡ n + length (decimal m) = length-append (replicate n 48) (decimal m) ∙ ap (λ (j : ℕ). j + length (decimal m)) (length-replicate n 48) in
    (record { all = all_digits_both (replicate n 48) (decimal m) (noughts_all n) d.all; value = noughts_value n (decimal m) ∙ d.value; some = omega (arith, len, d.some); few = omega (arith, len, d.few) }, omega (arith, len))

plain_scale : (z : ℤ) → is_plain z ≡ true → (unsigned_abs z ≤ 20) × (pos 0 -ℤ pos (unsigned_abs z) ≡ z)
plain_scale (pos n) e =
    let tests = and_parts (int_le (negsuc 19) (pos n)) (int_le (pos n) (pos 0)) e in
    let le : n ≤ 0 = leb-true n 0 tests.1 in
    let none : n ≡ 0 = omega arith in
    (omega (arith, none), rw none refl)
plain_scale (negsuc n) e =
    let tests = and_parts (int_le (negsuc 19) (negsuc n)) (int_le (negsuc n) (pos 0)) e in
    let le : n ≤ 19 = leb-true n 19 tests.0 in
    (omega arith, omega (arith, ints))

behind_point : (k : ℕ) (ds : List ℕ) → k ≤ length ds → fraction_digits (cond (nat_le k 0) None (Some (drop (length ds - k) ds))) ≡ drop (length ds - k) ds
behind_point k ds le = go (nat_le k 0) refl
  where
    go : (b : Bool) → nat_le k 0 ≡ b → fraction_digits (cond b None (Some (drop (length ds - k) ds))) ≡ drop (length ds - k) ds
    go true e = let none : k ≤ 0 = leb-true k 0 e in sym (drop_all (length ds - k) ds (omega arith))
    go false e = refl

fraction_short : (fraction : Option (List ℕ)) → length (fraction_text fraction) ≤ suc (length (fraction_digits fraction))
fraction_short None = omega arith
fraction_short (Some digits) = omega arith

dec_is : (a b x y : ℤ) → a ≡ b → x ≡ y → dec a x ≡ dec b y
dec_is a b x y p q = ap (λ (v : ℤ). dec v x) p ∙ ap (λ (v : ℤ). dec b v) q

plain_is : (z scale : ℤ) (k m : ℕ) (ds : List ℕ) → Digits m ds 30 → k < length ds → pos 0 -ℤ pos k ≡ scale → unsigned_abs scale ≤ 99 → m ≡ unsigned_abs z
    → IsDecimal (plain_parts (sign_of z) ds k) × (value (plain_parts (sign_of z) ds k) ≡ dec z scale)
plain_is z scale k m ds digits less scaled small same =
    let j = length ds - k in
    let fraction : Option (List ℕ) = cond (nat_le k 0) None (Some (drop (length ds - k) ds)) in
    let point : fraction_digits fraction ≡ drop (length ds - k) ds = behind_point k ds (omega arith) in
    let both = all_parts (take j ds) (drop j ds) (ap all_ascii_digits (take-append-drop j ds) ∙ digits.all) in
    let front_len : length (take j ds) ≡ j = omega (arith, length-take j ds) in
    let point_len : length (fraction_digits fraction) ≡ k = ap length point ∙ omega (arith, length-drop j ds) in
    let tail_len : length (fraction_text fraction ++ []) ≡ length (fraction_text fraction) = ap length (append-nil (fraction_text fraction)) in
    let all_len : length (spelling (plain_parts (sign_of z) ds k)) ≡ length (sign_text (sign_of z)) + (length (take j ds) + length (fraction_text fraction ++ [])) =
    length-append (sign_text (sign_of z)) (take j ds ++ (fraction_text fraction ++ [])) ∙ ap (λ (n : ℕ). length (sign_text (sign_of z)) + n) (length-append (take j ds) (fraction_text fraction ++ [])) in
    let scale_is : pos 0 -ℤ pos (length (fraction_digits fraction)) ≡ scale = ap (λ (n : ℕ). pos 0 -ℤ pos n) point_len ∙ scaled in
    let joined : take j ds ++ fraction_digits fraction ≡ ds = ap (λ (t : List ℕ). take j ds ++ t) point ∙ take-append-drop j ds in
    let number : signed (is_minus (sign_of z)) (value_of (take j ds ++ fraction_digits fraction)) ≡ z = ap (λ (n : ℕ). signed (is_minus (sign_of z)) n) (ap value_of joined ∙ digits.value ∙ same) ∙ signed_again z in (
      record {
        front = both.0;
        behind = ap all_ascii_digits point ∙ both.1;
        some = omega (arith, front_len, point_len);
        few = omega (arith, front_len, point_len, digits.few);
        power = tt;
        short = omega (arith, all_len, tail_len, front_len, point_len, sign_short z, fraction_short fraction, digits.few);
        scale = subst (λ (v : ℤ). unsigned_abs v ≤ 99) (sym scale_is) small;
      },
      dec_is _ _ _ _ number scale_is,
    )

power_is : (z scale : ℤ) (m p : ℕ) (ds es : List ℕ) → Digits m ds 30 → Digits p es 2 → m ≡ unsigned_abs z → p ≡ unsigned_abs scale → unsigned_abs scale ≤ 99
    → IsDecimal (powered (sign_of z) ds (sign_of scale) es) × (value (powered (sign_of z) ds (sign_of scale) es) ≡ dec z scale)
power_is z scale m p ds es digits exponent same same_power small =
    let front_len : length (ds ++ []) ≡ length ds = ap length (append-nil ds) in
    let power : signed (is_minus (sign_of scale)) (value_of es) ≡ scale = ap (λ (n : ℕ). signed (is_minus (sign_of scale)) n) (exponent.value ∙ same_power) ∙ signed_again scale in
    let scale_is : signed (is_minus (sign_of scale)) (value_of es) -ℤ pos 0 ≡ scale = ap (λ (v : ℤ). v -ℤ pos 0) power ∙ less_nought scale in
    let number : signed (is_minus (sign_of z)) (value_of (ds ++ [])) ≡ z = ap (λ (n : ℕ). signed (is_minus (sign_of z)) n) (ap value_of (append-nil ds) ∙ digits.value ∙ same) ∙ signed_again z in
    let tail_len : length (101 ∷ (sign_text (sign_of scale) ++ es)) ≡ suc (length (sign_text (sign_of scale)) + length es) = ap suc (length-append (sign_text (sign_of scale)) es) in
    let all_len : length (spelling (powered (sign_of z) ds (sign_of scale) es)) ≡ length (sign_text (sign_of z)) + (length ds + length (101 ∷ (sign_text (sign_of scale) ++ es))) =
    length-append (sign_text (sign_of z)) (ds ++ (101 ∷ (sign_text (sign_of scale) ++ es))) ∙ ap (λ (n : ℕ). length (sign_text (sign_of z)) + n) (length-append ds (101 ∷ (sign_text (sign_of scale) ++ es))) in (
      record {
        front = digits.all;
        behind = refl;
        some = omega (arith, digits.some);
        few = omega (arith, digits.few);
        power = record { letter = inl refl; digits = exponent.all; some = exponent.some; few = exponent.few };
        short = omega (arith, all_len, tail_len, sign_short z, sign_short scale, digits.few, exponent.few);
        scale = subst (λ (v : ℤ). unsigned_abs v ≤ 99) (sym scale_is) small;
      },
      dec_is _ _ _ _ number scale_is,
    )

normal_is : (d : Dec) → IsDec d → IsDecimal (normal_parts d) × (value (normal_parts d) ≡ d)
normal_is d is = go (is_plain d.scale) refl
  where
    go : (b : Bool) → is_plain d.scale ≡ b → IsDecimal (cond b (plain_parts (sign_of d.digits) (filled (unsigned_abs d.scale) (decimal (unsigned_abs d.digits))) (unsigned_abs d.scale)) (power_parts (sign_of d.digits) (decimal (unsigned_abs d.digits)) d.scale))
        × (value (cond b (plain_parts (sign_of d.digits) (filled (unsigned_abs d.scale) (decimal (unsigned_abs d.digits))) (unsigned_abs d.scale)) (power_parts (sign_of d.digits) (decimal (unsigned_abs d.digits)) d.scale)) ≡ d)
    go true e =
        let s = plain_scale d.scale e in
        let f = filled_digits (unsigned_abs d.scale) (unsigned_abs d.digits) s.0 is.digits in
        plain_is d.digits d.scale (unsigned_abs d.scale) (unsigned_abs d.digits) (filled (unsigned_abs d.scale) (decimal (unsigned_abs d.digits))) f.0 f.1 s.1 is.scale refl
    go false e =
        power_is d.digits d.scale (unsigned_abs d.digits) (unsigned_abs d.scale) (decimal (unsigned_abs d.digits)) (decimal (unsigned_abs d.scale)) (digits_of (unsigned_abs d.digits) 30 (omega arith) (omega arith) is.digits) (digits_of (unsigned_abs d.scale) 2 (omega arith) (omega arith) (omega (arith, is.scale))) refl refl is.scale

decimal_again : (d : Dec) → IsDec d → decimal_of (decimal_text d) ≡ Some d
unfolding decimal_text
decimal_again d is = let n = normal_is d is in decimal_read (normal_parts d) n.0 ∙ ap (λ (v : Dec). Some v) n.1

-- ---- flags

maxh_is_flag : (text : Word) → is_flag (maxh_text ++ text) ≡ true
unfolding is_flag maxh_text
maxh_is_flag text = refl

maxh_size : (text : Word) → size_in (maxh_text ++ text) ≡ value_or_bad (decimal_of text)
unfolding size_in maxh_text behind
maxh_size text = refl

maxh_number : (text : Word) → number_in (maxh_text ++ text) ≡ Nothing
unfolding number_in maxh_text bc_text behind
maxh_number text = refl

bc_is_flag : (text : Word) → is_flag (bc_text ++ text) ≡ true
unfolding is_flag bc_text
bc_is_flag text = refl

bc_size : (text : Word) → size_in (bc_text ++ text) ≡ Nothing
unfolding size_in maxh_text bc_text behind
bc_size text = refl

bc_number : (text : Word) → number_in (bc_text ++ text) ≡ value_or_bad (from_one (whole_of text 999999))
unfolding number_in bc_text behind
bc_number text = refl

size_is : (d : Dec) → IsDec d → size_in (maxh_text ++ decimal_text d) ≡ Value d
size_is d is = maxh_size (decimal_text d) ∙ ap (λ (o : Option Dec). value_or_bad o) (decimal_again d is)

from_one_again : (n : ℕ) → 0 < n → from_one (Some n) ≡ Some n
from_one_again zero some = absurd (omega (arith, some))
from_one_again (suc n) some = refl

number_is : (n : ℕ) → 0 < n → n ≤ 999999 → number_in (bc_text ++ decimal n) ≡ Value n
number_is n some le = bc_number (decimal n) ∙ ap (λ (o : Option ℕ). value_or_bad (from_one o)) (whole_again n 999999 le (omega arith)) ∙ ap (λ (o : Option ℕ). value_or_bad o) (from_one_again n some)

record SizeFlags (maxh : Option Dec) : Type 0 where
  good : AllByRecursion IsSizeFlag (size_flags maxh)
  last : maxh ≡ last_value size_in None (size_flags maxh)

sizes : (maxh : Option Dec) → IfSome maxh IsDec → SizeFlags maxh
sizes None is = record { good = tt; last = refl }
sizes (Some d) is =
    let e = size_is d is in
    record { good = ((maxh_is_flag (decimal_text d), subst (λ (g : Given Dec). IsGood g) (sym e) tt), tt); last = sym (ap (λ (g : Given Dec). latest None g) e) }

record SegmentFlags (bc : Option ℕ) (maxh : Option Dec) : Type 0 where
  good : AllByRecursion IsSegmentFlag (number_flags bc ++ size_flags maxh)
  number : bc ≡ last_value number_in None (number_flags bc ++ size_flags maxh)
  size : maxh ≡ last_value size_in None (number_flags bc ++ size_flags maxh)

-- a size behind a boundary condition, or alone
size_only : (bc : Option ℕ) (maxh : Option Dec) → IfSome maxh IsDec → AllByRecursion IsSegmentFlag (size_flags maxh) × (bc ≡ last_value number_in bc (size_flags maxh)) × (maxh ≡ last_value size_in None (size_flags maxh))
size_only bc None is = (tt, refl, refl)
size_only bc (Some d) is =
    let e = size_is d is in
    let n = maxh_number (decimal_text d) in
    (((maxh_is_flag (decimal_text d), subst (λ (g : Given ℕ). IsGood g) (sym n) tt, subst (λ (g : Given Dec). IsGood g) (sym e) tt), tt), sym (ap (λ (g : Given ℕ). latest bc g) n), sym (ap (λ (g : Given Dec). latest None g) e))

segment_flags : (bc : Option ℕ) (maxh : Option Dec) → IfSome bc (λ n. (0 < n) × (n ≤ 999999)) → IfSome maxh IsDec → SegmentFlags bc maxh
segment_flags None maxh is is_size = let s = size_only None maxh is_size in record { good = s.0; number = s.1; size = s.2 }
segment_flags (Some n) maxh is is_size =
    let s = size_only (Some n) maxh is_size in
    let e = number_is n is.0 is.1 in
    let z = bc_size (decimal n) in
    record {
      good = ((bc_is_flag (decimal n), subst (λ (g : Given ℕ). IsGood g) (sym e) tt, subst (λ (g : Given Dec). IsGood g) (sym z) tt), s.0);
      number = s.1 ∙ sym (ap (λ (g : Given ℕ). last_value number_in (latest None g) (size_flags maxh)) e);
      size = s.2 ∙ sym (ap (λ (g : Given Dec). last_value size_in (latest None g) (size_flags maxh)) z);
    }

-- ---- rows

point_text : PointRow → PointText
point_text row = record { number = decimal row.number; x = decimal_text row.x; y = decimal_text row.y; flags = size_flags row.maxh }

segment_text : SegmentRow → SegmentText
segment_text row = record { left = decimal row.left; right = decimal row.right; from = decimal row.p; to = decimal row.q; flags = number_flags row.bc ++ size_flags row.maxh }

material_text : MaterialRow → MaterialText
material_text row = record { domain = decimal row.domain; name = row.name; flags = size_flags row.maxh }

each_point : (rows : List PointRow) → AllByRecursion IsPointRow rows → Each IsPoint (map point_text rows) rows
unfolding point_text
each_point [] all = tt
each_point (row ∷ rows) all =
    let is = all.0 in
    let flags = sizes row.maxh is.maxh in
    (record { number = whole_again row.number 999999 is.number (omega (arith, is.number)); x = decimal_again row.x is.x; y = decimal_again row.y is.y; flags = flags.good; maxh = flags.last }, each_point rows all.1)

each_segment : (rows : List SegmentRow) → AllByRecursion IsSegmentRow rows → Each IsSegment (map segment_text rows) rows
unfolding segment_text
each_segment [] all = tt
each_segment (row ∷ rows) all =
    let is = all.0 in
    let flags = segment_flags row.bc row.maxh is.bc is.maxh in (
      record {
        left = whole_again row.left 64 is.left (omega (arith, is.left));
        right = whole_again row.right 64 is.right (omega (arith, is.right));
        from = whole_again row.p 999999 is.p (omega (arith, is.p));
        to = whole_again row.q 999999 is.q (omega (arith, is.q));
        flags = flags.good;
        bc = flags.number;
        maxh = flags.size;
      },
      each_segment rows all.1,
    )

each_material : (rows : List MaterialRow) → AllByRecursion IsMaterialRow rows → Each IsMaterial (map material_text rows) rows
unfolding material_text
each_material [] all = tt
each_material (row ∷ rows) all =
    let is = all.0 in
    let flags = sizes row.maxh is.maxh in
    let domain : from_one (whole_of (decimal row.domain) 64) ≡ Some row.domain = ap (λ (o : Option ℕ). from_one o) (whole_again row.domain 64 is.domain (omega (arith, is.domain))) ∙ from_one_again row.domain is.some in
    (record { domain = domain; name = is.no_flag; called = refl; flags = flags.good; maxh = flags.last }, each_material rows all.1)

-- the materials, where there are some
part_of : List MaterialRow → Option (List MaterialText)
part_of [] = None
part_of (row ∷ rows) = Some (map material_text (row ∷ rows))

each_part : (rows : List MaterialRow) → AllByRecursion IsMaterialRow rows → Each IsMaterial (material_texts (part_of rows)) rows
unfolding part_of
each_part [] all = tt
each_part (row ∷ rows) all = each_material (row ∷ rows) all

file_text : RawGeometry → FileText
file_text raw = record { number = decimal_text raw.number; points = map point_text raw.points; segments = map segment_text raw.segments; materials = part_of raw.materials }

is_file : (raw : RawGeometry) → CanPrint raw → IsFile (file_text raw) raw
unfolding file_text
is_file raw can = record { number = decimal_again raw.number can.number; points = each_point raw.points can.points; segments = each_segment raw.segments can.segments; materials = each_part raw.materials can.materials }

-- ---- the words of the lines

point_lines_words : (rows : List PointRow) → flat_map (λ line. line) (map point_line rows) ≡ flat_map point_words (map point_text rows)
unfolding point_text
point_lines_words [] = refl
point_lines_words (row ∷ rows) = ap (λ (w : List Word). point_line row ++ w) (point_lines_words rows)

segment_lines_words : (rows : List SegmentRow) → flat_map (λ line. line) (map segment_line rows) ≡ flat_map segment_words (map segment_text rows)
unfolding segment_text
segment_lines_words [] = refl
segment_lines_words (row ∷ rows) = ap (λ (w : List Word). segment_line row ++ w) (segment_lines_words rows)

material_rows_words : (rows : List MaterialRow) → flat_map (λ line. line) (map material_line rows) ≡ flat_map material_words (map material_text rows)
unfolding material_text
material_rows_words [] = refl
material_rows_words (row ∷ rows) = ap (λ (w : List Word). material_line row ++ w) (material_rows_words rows)

material_lines_words : (rows : List MaterialRow) → flat_map (λ line. line) (material_lines rows) ≡ materials_part (part_of rows)
unfolding part_of
material_lines_words [] = refl
material_lines_words (row ∷ rows) = ap (λ (w : List Word). materials_word ∷ w) (material_rows_words (row ∷ rows))

lines_words : (raw : RawGeometry) → flat_map (λ line. line) (lines_of raw) ≡ file_words (file_text raw)
unfolding file_text
lines_words raw =
    let last : flat_map (λ line. line) (map segment_line raw.segments ++ material_lines raw.materials) ≡ flat_map segment_words (map segment_text raw.segments) ++ materials_part (part_of raw.materials) =
    flat_map_both (λ line. line) (map segment_line raw.segments) (material_lines raw.materials) ∙ ap (λ (w : List Word). w ++ flat_map (λ line. line) (material_lines raw.materials)) (segment_lines_words raw.segments)
    ∙ ap (λ (w : List Word). flat_map segment_words (map segment_text raw.segments) ++ w) (material_lines_words raw.materials) in
    let rest : List (List Word) = (segments_word ∷ []) ∷ (map segment_line raw.segments ++ material_lines raw.materials) in
    let first : flat_map (λ line. line) (map point_line raw.points ++ rest) ≡ flat_map point_words (map point_text raw.points) ++ (segments_word ∷ (flat_map segment_words (map segment_text raw.segments) ++ materials_part (part_of raw.materials))) =
    flat_map_both (λ line. line) (map point_line raw.points) rest ∙ ap (λ (w : List Word). w ++ flat_map (λ line. line) rest) (point_lines_words raw.points)
    ∙ ap (λ (w : List Word). flat_map point_words (map point_text raw.points) ++ (segments_word ∷ w)) last in
    ap (λ (w : List Word). head_word ∷ decimal_text raw.number ∷ points_word ∷ w) first

-- ---- each is a word

plain_power : (power : Option Power) → IsPowerIfAny power → plain_bytes (power_text power) ≡ true
unfolding plain_bytes plain_byte
plain_power None is = refl
plain_power (Some power) is =
    let rest = plain_both (sign_text power.sign) power.digits (plain_sign power.sign) (plain_digits power.digits is.digits) in
    and_from (plain_byte power.letter) (plain_bytes (sign_text power.sign ++ power.digits)) (elim is.letter [ inl e ↦ rw e refl | inr e ↦ rw e refl ]) rest

fraction_long : (fraction : Option (List ℕ)) → length (fraction_digits fraction) ≤ length (fraction_text fraction)
fraction_long None = omega arith
fraction_long (Some digits) = omega arith

decimal_run : (d : Dec) → IsDec d → IsRun (decimal_text d)
unfolding decimal_text
decimal_run d is =
    let parts = normal_parts d in
    let n = (normal_is d is).0 in
    let text : plain_bytes (spelling parts) ≡ true = plain_both (sign_text parts.sign) _ (plain_sign parts.sign) (plain_both parts.front _ (plain_digits parts.front n.front) (plain_both (fraction_text parts.fraction) (power_text parts.power) (plain_fraction parts.fraction n.behind) (plain_power parts.power n.power))) in
    run_of (spelling parts) (nonempty parts n) text
  where
    nonempty : (parts : DecimalParts) → IsDecimal parts → 0 < length (spelling parts)
    nonempty parts n =
        let outer = length-append (sign_text parts.sign) (parts.front ++ (fraction_text parts.fraction ++ power_text parts.power)) in
        let middle = length-append parts.front (fraction_text parts.fraction ++ power_text parts.power) in
        let inner = length-append (fraction_text parts.fraction) (power_text parts.power) in
        omega (arith, outer, middle, inner, n.some, fraction_long parts.fraction)

-- no byte of a word is white, and behind other bytes it may begin with any
run_plain : (bytes : List ℕ) → AllByRecursion (λ b. is_white b ≡ false) bytes → (front : List ℕ) → AllByRecursion (λ b. is_white b ≡ false) front → AllByRecursion (λ b. is_white b ≡ false) (front ++ bytes)
run_plain bytes each [] all = each
run_plain bytes each (b ∷ front) all = (all.0, run_plain bytes each front all.1)

flag_run : (front text : Word) → 0 < length front → plain_bytes front ≡ true → IsRun text → IsRun (front ++ text)
flag_run [] text some p run = run
flag_run (b ∷ front) text some p run = record { some = omega (arith, length-append (b ∷ front) text); each = run_plain text run.each (b ∷ front) (plain_each (b ∷ front) p); start = plain_start (b ∷ front) p }

maxh_some : 0 < length maxh_text
unfolding maxh_text
maxh_some = omega arith

maxh_plain : plain_bytes maxh_text ≡ true
unfolding maxh_text plain_bytes plain_byte
maxh_plain = refl

bc_some : 0 < length bc_text
unfolding bc_text
bc_some = omega arith

bc_plain : plain_bytes bc_text ≡ true
unfolding bc_text plain_bytes plain_byte
bc_plain = refl

size_run : (maxh : Option Dec) → IfSome maxh IsDec → AllByRecursion IsRun (size_flags maxh)
size_run None is = tt
size_run (Some d) is = (flag_run maxh_text (decimal_text d) maxh_some maxh_plain (decimal_run d is), tt)

numbers_run : (bc : Option ℕ) (words : List Word) → IfSome bc (λ n. (0 < n) × (n ≤ 999999)) → AllByRecursion IsRun words → AllByRecursion IsRun (number_flags bc ++ words)
numbers_run None words is each = each
numbers_run (Some n) words is each = (flag_run bc_text (decimal n) bc_some bc_plain (number_run n (omega (arith, is.1))), each)

head_run : IsRun head_word
unfolding head_word plain_bytes plain_byte
head_run = run_of head_word (omega arith) refl

points_run : IsRun points_word
unfolding points_word plain_bytes plain_byte
points_run = run_of points_word (omega arith) refl

segments_run : IsRun segments_word
unfolding segments_word plain_bytes plain_byte
segments_run = run_of segments_word (omega arith) refl

materials_run : IsRun materials_word
unfolding materials_word plain_bytes plain_byte
materials_run = run_of materials_word (omega arith) refl

two_run : IsRun two_word
unfolding two_word plain_bytes plain_byte
two_run = run_of two_word (omega arith) refl

abbrev AreLines : List (List Word) → Type 0
AreLines lines = AllByRecursion (λ line. AllByRecursion IsRun line) lines

lines_both : (a b : List (List Word)) → AreLines a → AreLines b → AreLines (a ++ b)
lines_both [] b p q = q
lines_both (line ∷ a) b p q = (p.0, lines_both a b p.1 q)

point_lines_run : (rows : List PointRow) → AllByRecursion IsPointRow rows → AreLines (map point_line rows)
point_lines_run [] all = tt
point_lines_run (row ∷ rows) all = ((number_run row.number (omega (arith, all.0.number)), (decimal_run row.x all.0.x, (decimal_run row.y all.0.y, size_run row.maxh all.0.maxh))), point_lines_run rows all.1)

segment_lines_run : (rows : List SegmentRow) → AllByRecursion IsSegmentRow rows → AreLines (map segment_line rows)
segment_lines_run [] all = tt
segment_lines_run (row ∷ rows) all =
    let is = all.0 in
    ((number_run row.left (omega (arith, is.left)), (number_run row.right (omega (arith, is.right)), (two_run, (number_run row.p (omega (arith, is.p)), (number_run row.q (omega (arith, is.q)), numbers_run row.bc (size_flags row.maxh) is.bc (size_run row.maxh is.maxh)))))), segment_lines_run rows all.1)

material_rows_run : (rows : List MaterialRow) → AllByRecursion IsMaterialRow rows → AreLines (map material_line rows)
material_rows_run [] all = tt
material_rows_run (row ∷ rows) all = ((number_run row.domain (omega (arith, all.0.domain)), (all.0.name, size_run row.maxh all.0.maxh)), material_rows_run rows all.1)

material_lines_run : (rows : List MaterialRow) → AllByRecursion IsMaterialRow rows → AreLines (material_lines rows)
material_lines_run [] all = tt
material_lines_run (row ∷ rows) all = ((materials_run, tt), material_rows_run (row ∷ rows) all)

lines_run : (raw : RawGeometry) → CanPrint raw → AreLines (lines_of raw)
lines_run raw can = (
  (head_run, tt),
  (
    (decimal_run raw.number can.number, tt),
    (
      (points_run, tt),
      lines_both (map point_line raw.points) ((segments_word ∷ []) ∷ (map segment_line raw.segments ++ material_lines raw.materials)) (point_lines_run raw.points can.points)
          ((segments_run, tt), lines_both (map segment_line raw.segments) (material_lines raw.materials) (segment_lines_run raw.segments can.segments) (material_lines_run raw.materials can.materials)),
    ),
  ),
)

derived_again : (raw : RawGeometry) → CanPrint raw → Derives (words_of (normal_text raw)) raw
derived_again raw can = (file_text raw, is_file raw can, words_of_lines (lines_of raw) (lines_run raw can) ∙ lines_words raw)

pub is_again : {A E : Type 0} (items : A → List ℕ) (r : Result A E) (raw : RawGeometry) → CanPrint raw → IfOk r (λ text. items text ≡ normal_text raw) → IfOk r (λ text. Derives (words_of (items text)) raw)
is_again items (Ok text) raw can e = subst (λ (bytes : List ℕ). Derives (words_of bytes) raw) (sym e) (derived_again raw can)
is_again items (Err e) raw can h = tt
