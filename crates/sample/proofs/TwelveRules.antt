-- The twelve rules are within the limits of a rule file, rule by rule: a test for that, which is sound, and its answer by computation.
use Rattle.std.proofs.Common.{◌≡◌, ◌≢◌, ℕ, ◌+◌, ◌<◌, ◌≤◌, ◌==◌, nat_lt, Bool, true, false, ◌&&◌, not, List, [], ◌∷◌, length, sym, subst, refl, arith, Result, Ok, Err}
use Rattle.std.specs.Prelude.{nat_le, unsigned_abs, ℤ, IfOk}
use Rattle.std.specs.List.{AllByRecursion}
use Rattle.rule_reader.specs.declared.rule.Triple.{Triple}
use Rattle.rule_reader.specs.declared.rule.MapPoint.{MapPoint}
use Rattle.rule_reader.specs.declared.rule.MapLine.{MapLine}
use Rattle.rule_reader.specs.declared.rule.Term.{Term}
use Rattle.rule_reader.specs.declared.rule.Place.{Place}
use Rattle.rule_reader.specs.declared.rule.Rule.{Rule}
use Rattle.rule_reader.specs.Verdict.{loose_starts}
use Rattle.rule_reader.specs.Normal.{IsNumber, IsWeight, Names, AtMost, IsTriple, IsMapPoint, IsMapLine, IsTerm, IsPlace, BeginsAtBase, IsRule, CanPrint}
use Rattle.sample.specs.Twelve.{free_1, free_5, free_9, close, left, right, over, two_left, two_right, left_6, right_6, any_point, twelve}

-- ---- tests
abbrev every : {A : Type 0} → (A → Bool) → List A → Bool
every test [] = true
every test (x ∷ xs) = test x && every test xs

abbrev few : {A : Type 0} → ℕ → (A → Bool) → List A → Bool
few most test xs = nat_le (length xs) most && every test xs

abbrev names : ℕ → ℕ → Bool
names count n = nat_lt 0 n && nat_le n count

abbrev is_number : ℤ → Bool
is_number z = nat_le (unsigned_abs z) 160000

abbrev is_weight : ℤ → Bool
is_weight z = nat_le (unsigned_abs z) 10000000

abbrev is_triple : Triple → Bool
is_triple t = is_weight t.f1 && (is_weight t.f2 && is_weight t.f3)

abbrev is_point : MapPoint → Bool
is_point p = is_number p.x && (is_number p.y && is_triple p.tol)

abbrev is_line : ℕ → MapLine → Bool
is_line count l = names count l.i && (names count l.j && is_triple l.tol)

abbrev is_term : ℕ → Term → Bool
is_term count t = is_number t.coefficient && names count t.point

abbrev is_place : ℕ → Place → Bool
is_place count p = is_number p.x && (is_number p.y && (few 32 (is_term count) p.row_x && few 32 (is_term count) p.row_y))

abbrev is_name_byte : ℕ → Bool
is_name_byte b = not (b == 34) && not (b == 10)

abbrev begins : List MapLine → Bool
begins [] = false
begins (l ∷ ls) = (l.i == 1) && (l.j == 2)

abbrev is_pair : ℕ → ℕ × ℕ → Bool
is_pair count l = names count l.0 && names count l.1

abbrev is_element : ℕ → List ℕ → Bool
is_element count e = (length e == 3) && every (names count) e

abbrev is_turn : ℕ → ℕ × ℕ × ℕ → Bool
is_turn count t = names count t.0 && (names count t.1 && names count t.2)

abbrev has_head : Rule → Bool
has_head r = nat_le (length r.name) 200 && (every is_name_byte r.name && nat_le r.quality 1000)

abbrev has_mapping : Rule → Bool
has_mapping r = few 16 is_point r.points && (few 16 (is_line (length r.points)) r.lines && (begins r.lines && nat_le (loose_starts (length r.points) r.lines) 3))

abbrev has_making : Rule → Bool
has_making r = few 8 (is_place (length r.points)) r.new_points && (few 24 (is_pair (length r.points + length r.new_points)) r.new_lines && (few 8 (is_element (length r.points + length r.new_points)) r.elements && few 16 (is_turn (length r.points)) r.turns))

abbrev has_zone : Rule → Bool
has_zone r = few 24 (is_place (length r.points)) r.area && few 24 (is_place (length r.points)) r.limit

abbrev is_rule : Rule → Bool
is_rule r = has_head r && (has_mapping r && (has_making r && has_zone r))

-- ---- they are sound
both : (a b : Bool) → (a && b) ≡ true → (a ≡ true) × (b ≡ true)
both true b e = (refl, e)
both false b e = cc

at_most : (m n : ℕ) → nat_le m n ≡ true → m ≤ n
at_most m n e = grind arith

least_one : (n : ℕ) → nat_lt 0 n ≡ true → 0 < n
least_one n e = grind arith

same : (m n : ℕ) → (m == n) ≡ true → m ≡ n
same m n e = grind arith

other : (m n : ℕ) → not (m == n) ≡ true → m ≢ n
other m n e f = grind arith

each : {A : Type 0} (P : A → Type 0) (test : A → Bool) → ((x : A) → test x ≡ true → P x) → (xs : List A) → every test xs ≡ true → AllByRecursion P xs
each P test sound [] e = tt
each P test sound (x ∷ xs) e = let s = both (test x) (every test xs) e in (sound x s.0, each P test sound xs s.1)

few_each : {A : Type 0} (P : A → Type 0) (most : ℕ) (test : A → Bool) → ((x : A) → test x ≡ true → P x) → (xs : List A) → few most test xs ≡ true → AtMost most P xs
few_each P most test sound xs e = let s = both (nat_le (length xs) most) (every test xs) e in (at_most (length xs) most s.0, each P test sound xs s.1)

named : (count n : ℕ) → names count n ≡ true → Names count n
named count n e = let s = both (nat_lt 0 n) (nat_le n count) e in (least_one n s.0, at_most n count s.1)

number : (z : ℤ) → is_number z ≡ true → IsNumber z
number z e = at_most (unsigned_abs z) 160000 e

weight : (z : ℤ) → is_weight z ≡ true → IsWeight z
weight z e = at_most (unsigned_abs z) 10000000 e

triple : (t : Triple) → is_triple t ≡ true → IsTriple t
triple t e =
    let s = both (is_weight t.f1) (is_weight t.f2 && is_weight t.f3) e in
    let u = both (is_weight t.f2) (is_weight t.f3) s.1 in
    record { f1 = weight t.f1 s.0; f2 = weight t.f2 u.0; f3 = weight t.f3 u.1 }

point : (p : MapPoint) → is_point p ≡ true → IsMapPoint p
point p e =
    let s = both (is_number p.x) (is_number p.y && is_triple p.tol) e in
    let u = both (is_number p.y) (is_triple p.tol) s.1 in
    record { x = number p.x s.0; y = number p.y u.0; tol = triple p.tol u.1 }

line_sound : (count : ℕ) (l : MapLine) → is_line count l ≡ true → IsMapLine count l
line_sound count l e =
    let s = both (names count l.i) (names count l.j && is_triple l.tol) e in
    let u = both (names count l.j) (is_triple l.tol) s.1 in
    record { i = named count l.i s.0; j = named count l.j u.0; tol = triple l.tol u.1 }

term : (count : ℕ) (t : Term) → is_term count t ≡ true → IsTerm count t
term count t e = let s = both (is_number t.coefficient) (names count t.point) e in record { coefficient = number t.coefficient s.0; point = named count t.point s.1 }

place : (count : ℕ) (p : Place) → is_place count p ≡ true → IsPlace count p
place count p e =
    let s = both (is_number p.x) (is_number p.y && (few 32 (is_term count) p.row_x && few 32 (is_term count) p.row_y)) e in
    let u = both (is_number p.y) (few 32 (is_term count) p.row_x && few 32 (is_term count) p.row_y) s.1 in
    let v = both (few 32 (is_term count) p.row_x) (few 32 (is_term count) p.row_y) u.1 in
    record {
      x = number p.x s.0;
      y = number p.y u.0;
      row_x = few_each (IsTerm count) 32 (is_term count) (term count) p.row_x v.0;
      row_y = few_each (IsTerm count) 32 (is_term count) (term count) p.row_y v.1;
    }

name_byte : (b : ℕ) → is_name_byte b ≡ true → (b ≢ 34) × (b ≢ 10)
name_byte b e = let s = both (not (b == 34)) (not (b == 10)) e in (other b 34 s.0, other b 10 s.1)

begins_sound : (ls : List MapLine) → begins ls ≡ true → BeginsAtBase ls
begins_sound [] e = cc
begins_sound (l ∷ ls) e = let s = both (l.i == 1) (l.j == 2) e in (same l.i 1 s.0, same l.j 2 s.1)

pair : (count : ℕ) (l : ℕ × ℕ) → is_pair count l ≡ true → Names count l.0 × Names count l.1
pair count l e = let s = both (names count l.0) (names count l.1) e in (named count l.0 s.0, named count l.1 s.1)

element : (count : ℕ) (e : List ℕ) → is_element count e ≡ true → (length e ≡ 3) × AllByRecursion (Names count) e
element count e f = let s = both (length e == 3) (every (names count) e) f in (same (length e) 3 s.0, each (Names count) (names count) (named count) e s.1)

turn : (count : ℕ) (t : ℕ × ℕ × ℕ) → is_turn count t ≡ true → Names count t.0 × Names count t.1 × Names count t.2
turn count t e =
    let s = both (names count t.0) (names count t.1 && names count t.2) e in
    let u = both (names count t.1) (names count t.2) s.1 in
    (named count t.0 s.0, named count t.1 u.0, named count t.2 u.1)

rule : (r : Rule) → is_rule r ≡ true → IsRule r
rule r e =
    let count : ℕ = length r.points in
    let all : ℕ = count + length r.new_points in
    let s = both (has_head r) (has_mapping r && (has_making r && has_zone r)) e in
    let t = both (has_mapping r) (has_making r && has_zone r) s.1 in
    let u = both (has_making r) (has_zone r) t.1 in
    let head = both (nat_le (length r.name) 200) (every is_name_byte r.name && nat_le r.quality 1000) s.0 in
    let texts = both (every is_name_byte r.name) (nat_le r.quality 1000) head.1 in
    let mapping = both (few 16 is_point r.points) (few 16 (is_line count) r.lines && (begins r.lines && nat_le (loose_starts count r.lines) 3)) t.0 in
    let lines = both (few 16 (is_line count) r.lines) (begins r.lines && nat_le (loose_starts count r.lines) 3) mapping.1 in
    let base = both (begins r.lines) (nat_le (loose_starts count r.lines) 3) lines.1 in
    let making = both (few 8 (is_place count) r.new_points) (few 24 (is_pair all) r.new_lines && (few 8 (is_element all) r.elements && few 16 (is_turn count) r.turns)) u.0 in
    let pairs = both (few 24 (is_pair all) r.new_lines) (few 8 (is_element all) r.elements && few 16 (is_turn count) r.turns) making.1 in
    let rest = both (few 8 (is_element all) r.elements) (few 16 (is_turn count) r.turns) pairs.1 in
    let zone = both (few 24 (is_place count) r.area) (few 24 (is_place count) r.limit) u.1 in
    record {
      short = at_most (length r.name) 200 head.0;
      name = each (λ b. (b ≢ 34) × (b ≢ 10)) is_name_byte name_byte r.name texts.0;
      quality = at_most r.quality 1000 texts.1;
      points = few_each IsMapPoint 16 is_point point r.points mapping.0;
      lines = few_each (IsMapLine count) 16 (is_line count) (line_sound count) r.lines lines.0;
      base = begins_sound r.lines base.0;
      new_points = few_each (IsPlace count) 8 (is_place count) (place count) r.new_points making.0;
      new_lines = few_each (λ l. Names all l.0 × Names all l.1) 24 (is_pair all) (pair all) r.new_lines pairs.0;
      area = few_each (IsPlace count) 24 (is_place count) (place count) r.area zone.0;
      limit = few_each (IsPlace count) 24 (is_place count) (place count) r.limit zone.1;
      elements = few_each (λ e. (length e ≡ 3) × AllByRecursion (Names all) e) 8 (is_element all) (element all) r.elements rest.0;
      turns = few_each (λ t. Names count t.0 × Names count t.1 × Names count t.2) 16 (is_turn count) (turn count) r.turns rest.1;
      starts = at_most (loose_starts count r.lines) 3 base.1;
    }

-- ---- each of the twelve
free_1_passes : is_rule free_1 ≡ true
unfolding free_1 loose_starts
free_1_passes = refl

free_5_passes : is_rule free_5 ≡ true
unfolding free_5 loose_starts
free_5_passes = refl

free_9_passes : is_rule free_9 ≡ true
unfolding free_9 loose_starts
free_9_passes = refl

close_passes : is_rule close ≡ true
unfolding close loose_starts
close_passes = refl

left_passes : is_rule left ≡ true
unfolding left loose_starts
left_passes = refl

right_passes : is_rule right ≡ true
unfolding right loose_starts
right_passes = refl

over_passes : is_rule over ≡ true
unfolding over loose_starts
over_passes = refl

two_left_passes : is_rule two_left ≡ true
unfolding two_left loose_starts
two_left_passes = refl

two_right_passes : is_rule two_right ≡ true
unfolding two_right loose_starts
two_right_passes = refl

left_6_passes : is_rule left_6 ≡ true
unfolding left_6 loose_starts
left_6_passes = refl

right_6_passes : is_rule right_6 ≡ true
unfolding right_6 loose_starts
right_6_passes = refl

any_point_passes : is_rule any_point ≡ true
unfolding any_point loose_starts
any_point_passes = refl

pub twelve_printable : CanPrint twelve
unfolding twelve
twelve_printable = (omega arith, (rule free_1 free_1_passes, (rule free_5 free_5_passes, (rule free_9 free_9_passes, (rule close close_passes, (rule left left_passes, (rule right right_passes, (rule over over_passes, (rule two_left two_left_passes, (rule two_right two_right_passes, (rule left_6 left_6_passes, (rule right_6 right_6_passes, (rule any_point any_point_passes, tt)))))))))))))

pub all_printable : {E : Type 0} (result : Result (List Rule) E) → IfOk result (λ rules. rules ≡ twelve) → IfOk result CanPrint
all_printable (Ok rules) e = subst CanPrint (sym e) twelve_printable
all_printable (Err e) f = tt
