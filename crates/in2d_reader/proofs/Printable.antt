-- What is read can be printed.
use Rattle.std.proofs.Common.{◌≡◌, ℕ, zero, suc, ◌<◌, ◌≤◌, ◌&&◌, List, [], ◌∷◌, ◌++◌, Option, Some, None, Result, Ok, Err, refl, sym, ap, subst, ◌∙◌, arith}
use Rattle.std.specs.Prelude.{IfOk, IfSome, nat_le}
use Rattle.std.specs.List.{flat_map, AllByRecursion}
use Rattle.std.proofs.lemmas.Bool.{leb-true, and_parts}
use Rattle.std.proofs.lemmas.Option.{cond_some}
use Rattle.word_scan.specs.declared.decimals.Dec.{Dec}
use Rattle.word_scan.specs.Parts.{Part, Space, Note, Run, IsRun, AreParts, runs}
use Rattle.word_scan.specs.Scan.{words_of}
use Rattle.word_scan.specs.Numerals.{whole_of, is_whole, value_of}
use Rattle.word_scan.specs.Decimals.{decimal_of, value}
use Rattle.word_scan.proofs.Laws.{reads_text}
use Rattle.word_scan.proofs.DecimalLaws.{decimal_found, decimal_is_small}
use Rattle.in2d_reader.specs.declared.geometry.PointRow.{PointRow}
use Rattle.in2d_reader.specs.declared.geometry.SegmentRow.{SegmentRow}
use Rattle.in2d_reader.specs.declared.geometry.MaterialRow.{MaterialRow}
use Rattle.in2d_reader.specs.declared.geometry.RawGeometry.{RawGeometry}
use Rattle.in2d_reader.specs.declared.refusal.In2dRefusal.{In2dRefusal}
use Rattle.in2d_reader.specs.Words.{is_name, Word, segments_word, maxh_text, bc_text, behind, Given, Nothing, Value, Bad, given, value_or_bad, size_in, number_in, from_one}
use Rattle.in2d_reader.specs.Grammar.{PointText, SegmentText, MaterialText, point_words, segment_words, material_words, materials_part, IsPoint, IsSegment, IsMaterial, Each, material_texts, Derives, latest, last_value, Fits}
use Rattle.in2d_reader.specs.Normal.{IsDec, IsPointRow, IsSegmentRow, IsMaterialRow, CanPrint}

-- ---- the words of a text

all_right : {A : Type 0} (P : A → Type 0) (xs ys : List A) → AllByRecursion P (xs ++ ys) → AllByRecursion P ys
all_right P [] ys all = all
all_right P (x ∷ xs) ys all = all_right P xs ys all.1

runs_are : (parts : List Part) → AreParts parts → AllByRecursion IsRun (runs parts)
runs_are [] are = tt
runs_are (Space b ∷ parts) are = runs_are parts are.1
runs_are (Note bytes ∷ parts) are = runs_are parts are.2
runs_are (Run bytes ∷ parts) are = (are.0, runs_are parts are.2)

words_are_runs : (text : List ℕ) → AllByRecursion IsRun (words_of text)
words_are_runs text =
    let r = reads_text text in
    subst (λ (words : List Word). AllByRecursion IsRun words) (sym (r.bytes r.some.0 r.some.1 r.some.2)) (runs_are r.some.0 r.some.1)

-- ---- numbers

whole_le : (word : Word) (greatest n : ℕ) → whole_of word greatest ≡ Some n → n ≤ greatest
whole_le word greatest n e =
    let c = cond_some (is_whole word && nat_le (value_of word) greatest) (value_of word) n e in
    let le = leb-true (value_of word) greatest (and_parts (is_whole word) (nat_le (value_of word) greatest) c.0).1 in
    omega (arith, le, c.1)

dec_is : (word : Word) (d : Dec) → decimal_of word ≡ Some d → IsDec d
dec_is word d e =
    let f = decimal_found word d e in
    let parts = f.0 in
    let is = f.1 in
    let made : IsDec (value parts) = record { digits = decimal_is_small parts is; scale = is.scale } in
    subst (λ (v : Dec). IsDec v) (sym f.3) made

from_one_some : (o : Option ℕ) (n : ℕ) → from_one o ≡ Some n → (o ≡ Some n) × (0 < n)
from_one_some None n e = absurd cc
from_one_some (Some zero) n e = absurd cc
from_one_some (Some (suc m)) n e = let same : suc m ≡ n = cc in (e, omega (arith, same))

-- ---- flags

abbrev GivenIs : {A : Type 0} → (A → Type 0) → Given A → Type 0
GivenIs P Nothing = Unit {0}
GivenIs P (Value x) = P x
GivenIs P Bad = Unit {0}

value_is : {A : Type 0} (P : A → Type 0) (o : Option A) → ((x : A) → o ≡ Some x → P x) → GivenIs P (value_or_bad o)
value_is P None h = tt
value_is P (Some x) h = h x refl

given_is : {A : Type 0} (P : A → Type 0) (text : Option Word) (read : Word → Option A) → ((word : Word) (x : A) → read word ≡ Some x → P x) → GivenIs P (given text read)
given_is P None read h = tt
given_is P (Some word) read h = value_is P (read word) (h word)

size_given : (word : Word) → GivenIs IsDec (size_in word)
unfolding size_in
size_given word = given_is IsDec (behind maxh_text word) decimal_of dec_is

abbrev IsCondition : ℕ → Type 0
IsCondition n = (0 < n) × (n ≤ 999999)

condition_is : (word : Word) (n : ℕ) → from_one (whole_of word 999999) ≡ Some n → IsCondition n
condition_is word n e = let f = from_one_some (whole_of word 999999) n e in (f.1, whole_le word 999999 n f.0)

number_given : (word : Word) → GivenIs IsCondition (number_in word)
unfolding number_in
number_given word = given_is IsCondition (behind bc_text word) (λ text. from_one (whole_of text 999999)) condition_is

latest_is : {A : Type 0} (P : A → Type 0) (before : Option A) (g : Given A) → IfSome before P → GivenIs P g → IfSome (latest before g) P
latest_is P before Nothing b h = b
latest_is P before (Value x) b h = h
latest_is P before Bad b h = b

last_is : {A : Type 0} (P : A → Type 0) (read : Word → Given A) (before : Option A) (flags : List Word) → ((word : Word) → GivenIs P (read word)) → IfSome before P → IfSome (last_value read before flags) P
last_is P read before [] h b = b
last_is P read before (flag ∷ flags) h b = last_is P read (latest before (read flag)) flags h (latest_is P before (read flag) b (h flag))

size_flags_are : (maxh : Option Dec) (flags : List Word) → maxh ≡ last_value size_in None flags → IfSome maxh IsDec
size_flags_are maxh flags e = subst (λ (m : Option Dec). IfSome m IsDec) (sym e) (last_is IsDec size_in None flags size_given tt)

number_flags_are : (bc : Option ℕ) (flags : List Word) → bc ≡ last_value number_in None flags → IfSome bc IsCondition
number_flags_are bc flags e = subst (λ (m : Option ℕ). IfSome m IsCondition) (sym e) (last_is IsCondition number_in None flags number_given tt)

-- ---- rows

points_are : (texts : List PointText) (rows : List PointRow) → Each IsPoint texts rows → AllByRecursion IsPointRow rows
points_are [] [] each = tt
points_are [] (row ∷ rows) each = absurd each
points_are (text ∷ texts) [] each = absurd each
points_are (text ∷ texts) (row ∷ rows) each =
    let is = each.0 in
    (record { number = whole_le text.number 999999 row.number is.number; x = dec_is text.x row.x is.x; y = dec_is text.y row.y is.y; maxh = size_flags_are row.maxh text.flags is.maxh }, points_are texts rows each.1)

segments_are : (texts : List SegmentText) (rows : List SegmentRow) → Each IsSegment texts rows → AllByRecursion IsSegmentRow rows
segments_are [] [] each = tt
segments_are [] (row ∷ rows) each = absurd each
segments_are (text ∷ texts) [] each = absurd each
segments_are (text ∷ texts) (row ∷ rows) each =
    let is = each.0 in (
      record {
        left = whole_le text.left 64 row.left is.left;
        right = whole_le text.right 64 row.right is.right;
        p = whole_le text.from 999999 row.p is.from;
        q = whole_le text.to 999999 row.q is.to;
        bc = number_flags_are row.bc text.flags is.bc;
        maxh = size_flags_are row.maxh text.flags is.maxh;
      },
      segments_are texts rows each.1,
    )

materials_are : (texts : List MaterialText) (rows : List MaterialRow) → Each IsMaterial texts rows → AllByRecursion IsRun (flat_map material_words texts) → AllByRecursion IsMaterialRow rows
materials_are [] [] each all = tt
materials_are [] (row ∷ rows) each all = absurd each
materials_are (text ∷ texts) [] each all = absurd each
materials_are (text ∷ texts) (row ∷ rows) each all =
    let is = each.0 in
    let f = from_one_some (whole_of text.domain 64) row.domain is.domain in (
      record {
        some = f.1;
        domain = whole_le text.domain 64 row.domain f.0;
        name = subst (λ (w : Word). IsRun w) (sym is.called) all.1.0;
        no_flag = ap is_name is.called ∙ is.name;
        maxh = size_flags_are row.maxh text.flags is.maxh;
      },
      materials_are texts rows each.1 (all_right IsRun text.flags (flat_map material_words texts) all.1.1),
    )

part_are : (part : Option (List MaterialText)) (rows : List MaterialRow) → Each IsMaterial (material_texts part) rows → AllByRecursion IsRun (materials_part part) → AllByRecursion IsMaterialRow rows
part_are None [] each all = tt
part_are None (row ∷ rows) each all = absurd each
part_are (Some texts) rows each all = materials_are texts rows each all.1

printable : (text : List ℕ) (raw : RawGeometry) → Derives (words_of text) raw → Fits raw → CanPrint raw
printable text raw d fits =
    let file = d.0 in
    let is = d.1 in
    let all = subst (λ (words : List Word). AllByRecursion IsRun words) d.2 (words_are_runs text) in
    let rest = all_right IsRun (flat_map point_words file.points) (segments_word ∷ (flat_map segment_words file.segments ++ materials_part file.materials)) all.1.1.1 in
    let part = all_right IsRun (flat_map segment_words file.segments) (materials_part file.materials) rest.1 in
    record {
      number = dec_is file.number raw.number is.number;
      points = points_are file.points raw.points is.points;
      segments = segments_are file.segments raw.segments is.segments;
      materials = part_are file.materials raw.materials is.materials part;
      fits = fits;
    }

pub is_printable : (text : List ℕ) (r : Result RawGeometry In2dRefusal) → IfOk r (λ raw. Derives (words_of text) raw × Fits raw) → IfOk r CanPrint
is_printable text (Ok raw) found = printable text raw found.0 found.1
is_printable text (Err e) found = tt
