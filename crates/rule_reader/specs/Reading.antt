-- Reading from left to right: the value and the place behind it, or the first fault that is met.
use Rattle.std.specs.Prelude.{◌≡◌, ℕ, zero, suc, ◌+◌, Bool, true, false, ◌==◌, if◌then◌else◌, List, [], ◌∷◌, length, Option, Some, None, Result, Ok, Err, ℤ, pos, codes}
use Rattle.std.specs.Str.{bytes_eq}
use Rattle.word_scan.specs.Numerals.{whole_of}
use Rattle.rule_reader.specs.declared.fault.Fault.{Fault}
use Rattle.rule_reader.specs.declared.fault.Fault.TheVariants.{Syntax, Number, TooMany}
use Rattle.rule_reader.specs.declared.fault.Stop.{Stop}
use Rattle.rule_reader.specs.declared.fault.Stop.TheVariants as stops
use Rattle.rule_reader.specs.declared.reader.Fit.{Fit}
use Rattle.rule_reader.specs.declared.reader.Fit.TheVariants.{Fits, Unfit, NoNumber}
use Rattle.rule_reader.specs.declared.reader.Bound.{Bound}
use Rattle.rule_reader.specs.declared.reader.Bound.TheVariants.{First, Second, Mapped, Any}
use Rattle.rule_reader.specs.declared.rule.Triple.{Triple}
use Rattle.rule_reader.specs.declared.rule.MapPoint.{MapPoint}
use Rattle.rule_reader.specs.declared.rule.MapLine.{MapLine}
use Rattle.rule_reader.specs.declared.rule.Term.{Term}
use Rattle.rule_reader.specs.declared.rule.Place.{Place}
use Rattle.rule_reader.specs.Words.{Tok, MarkTok, TextTok, NumberTok, NameTok, State, head, behind, noted}
use Rattle.rule_reader.specs.Numbers.{number_of}

-- what reading gives: a value and the place behind it, or a fault
abbrev pub Read : Type 0 → Type 0
Read A = Result (A × State) Fault

infixl 10 ◌>>=◌
abbrev pub ◌>>=◌ : {A B : Type 0} → Result A Fault → (A → Result B Fault) → Result B Fault
(Ok x) >>= f = f x
(Err e) >>= f = Err e

-- What a function returned, seen by view, and the place where it left the reader are what reading gives, unless memory ran out.
abbrev pub Fails : {Y : Type 0} → Stop → Result Y Fault → Type 0
Fails stops.Memory read = Unit {0}
Fails (stops.Fault f) read = read ≡ Err f

abbrev pub Gives : {X Y : Type 0} → (X → Y) → Result X Stop → State → Read Y → Type 0
Gives view (Ok x) st read = read ≡ Ok (view x, st)
Gives view (Err e) st read = Fails e read

-- ---- one word

-- the next word is taken if it fits; a fault tells how many words are left there
abbrev pub judged : {A : Type 0} → Fit A → State → Read A
judged (Fits x) st = Ok (x, behind st)
judged Unfit st = Err (Syntax (length st.left))
judged NoNumber st = Err (Number (length st.left))

abbrev pub fit_if : Bool → Fit (Unit {0})
fit_if b = if b then Fits tt else Unfit

-- a whole number or a rule number, if there is one
abbrev pub fit_number : {A : Type 0} → Option A → Fit A
fit_number None = NoNumber
fit_number (Some n) = Fits n

abbrev pub mark_fit : ℕ → Option Tok → Fit (Unit {0})
mark_fit mark (Some (MarkTok b)) = fit_if (b == mark)
mark_fit mark _ = Unfit

abbrev pub name_fit : List ℕ → Option Tok → Fit (Unit {0})
name_fit name (Some (NameTok bytes)) = fit_if (bytes_eq bytes name)
name_fit name _ = Unfit

abbrev pub number_fit : ℕ → Option Tok → Fit ℤ
number_fit greatest (Some (NumberTok bytes)) = fit_number (number_of greatest bytes)
number_fit greatest _ = Unfit

abbrev pub whole_fit : ℕ → Option Tok → Fit ℕ
whole_fit greatest (Some (NumberTok bytes)) = fit_number (whole_of bytes greatest)
whole_fit greatest _ = Unfit

abbrev pub text_fit : Option Tok → Fit (List ℕ)
text_fit (Some (TextTok bytes)) = Fits bytes
text_fit _ = Unfit

-- a variable's index behind its letter, if digits follow the letter
abbrev pub indexed : Bool → Option ℕ → Fit (Bool × Option ℕ)
indexed of_y None = Unfit
indexed of_y (Some index) = Fits (of_y, Some index)

-- whether a variable is of y, and its index where its name has one
abbrev pub variable_rest : Bool → List ℕ → Fit (Bool × Option ℕ)
variable_rest of_y [] = Fits (of_y, None)
variable_rest of_y (b ∷ digits) = indexed of_y (whole_of (b ∷ digits) 9999)

abbrev pub variable_of : List ℕ → Fit (Bool × Option ℕ)
variable_of [] = Unfit
variable_of (b ∷ digits) = if b == 88 then variable_rest false digits else if b == 89
    then variable_rest true digits else Unfit

abbrev pub variable_fit : Option Tok → Fit (Bool × Option ℕ)
variable_fit (Some (NameTok bytes)) = variable_of bytes
variable_fit _ = Unfit

abbrev pub is_fit : {A : Type 0} → Fit A → Bool
is_fit (Fits x) = true
is_fit Unfit = false
is_fit NoNumber = false

-- whether this mark, this name, or a number comes next
abbrev pub opens : ℕ → State → Bool
opens mark st = is_fit (mark_fit mark (head st.left))

abbrev pub is_at : List ℕ → State → Bool
is_at name st = is_fit (name_fit name (head st.left))

abbrev pub is_number : Option Tok → Bool
is_number (Some (NumberTok bytes)) = true
is_number _ = false

abbrev pub is_at_number : State → Bool
is_at_number st = is_number (head st.left)

unfoldable pub mark_at : ℕ → State → Read (Unit {0})
mark_at mark st = judged (mark_fit mark (head st.left)) st

unfoldable pub name_at : List ℕ → State → Read (Unit {0})
name_at name st = judged (name_fit name (head st.left)) st

unfoldable pub number_at : ℕ → State → Read ℤ
number_at greatest st = judged (number_fit greatest (head st.left)) st

unfoldable pub quality_at : State → Read ℕ
quality_at st = judged (whole_fit 1000 (head st.left)) st

unfoldable pub text_at : State → Read (List ℕ)
text_at st = judged (text_fit (head st.left)) st

unfoldable pub index_at : Bound → State → Read ℕ
index_at bound st = do
  index ← judged (whole_fit 9999 (head st.left)) st
  Ok (index.0, noted bound index.0 (length st.left) index.1)

-- behind a variable's word: the index that it has, or the one that follows; `left` words were left at the word
abbrev pub variable_behind : ℕ → (Bool × Option ℕ) × State → Read (Bool × ℕ)
variable_behind left ((of_y, None), st) =
    index_at Mapped st >>= λ index. Ok ((of_y, index.0), index.1)
variable_behind left ((of_y, Some index), st) = Ok ((of_y, index), noted Mapped index left st)

unfoldable pub variable_at : State → Read (Bool × ℕ)
variable_at st = do
  word ← judged (variable_fit (head st.left)) st
  variable_behind (length st.left) word

-- ---- entries

unfoldable pub triple_at : State → Read Triple
triple_at st = do
  a ← mark_at 123 st
  f1 ← number_at 10000000 a.1
  b ← mark_at 44 f1.1
  f2 ← number_at 10000000 b.1
  c ← mark_at 44 f2.1
  f3 ← number_at 10000000 c.1
  d ← mark_at 125 f3.1
  Ok (record { f1 = f1.0; f2 = f2.0; f3 = f3.0 }, d.1)

-- the weights of an entry without any
abbrev pub unit_weights : Triple
unit_weights = record { f1 = pos 10000; f2 = pos 0; f3 = pos 10000 }

unfoldable pub tolerance_at : State → Read Triple
tolerance_at st = if opens 123 st then triple_at st else Ok (unit_weights, st)

abbrev pub del_word : List ℕ
del_word = codes "del"

unfoldable pub del_at : State → Read Bool
del_at st = if is_at del_word st then (name_at del_word st >>= λ d. Ok (true, d.1))
    else Ok (false, st)

-- weights and `del`, in either order
unfoldable pub marks_at : State → Read (Triple × Bool)
marks_at st =
    if is_at del_word st then (name_at del_word st >>= λ u. tolerance_at u.1 >>= λ tol. Ok
    ((tol.0, true), tol.1))
    else if opens 123 st then (triple_at st >>= λ tol. del_at tol.1 >>= λ d. Ok ((tol.0, d.0), d.1))
    else Ok ((unit_weights, false), st)

unfoldable pub coordinates_at : State → Read (ℤ × ℤ)
coordinates_at st = do
  a ← mark_at 40 st
  x ← number_at 160000 a.1
  b ← mark_at 44 x.1
  y ← number_at 160000 b.1
  c ← mark_at 41 y.1
  Ok ((x.0, y.0), c.1)

unfoldable pub map_point_at : ℕ → State → Read MapPoint
map_point_at k st = do
  p ← coordinates_at st
  m ← marks_at p.1
  c ← mark_at 59 m.1
  Ok (record { x = p.0.0; y = p.0.1; tol = m.0.0 }, c.1)

-- two indices in round brackets, which may name these points
unfoldable pub ends_at : Bound → Bound → State → Read (ℕ × ℕ)
ends_at first second st = do
  a ← mark_at 40 st
  i ← index_at first a.1
  b ← mark_at 44 i.1
  j ← index_at second b.1
  c ← mark_at 41 j.1
  Ok ((i.0, j.0), c.1)

unfoldable pub line_at : Bound → Bound → State → Read MapLine
line_at first second st = do
  e ← ends_at first second st
  m ← marks_at e.1
  c ← mark_at 59 m.1
  Ok (record { i = e.0.0; j = e.0.1; tol = m.0.0; del = m.0.1 }, c.1)

-- the first line goes from point 1 to point 2
abbrev pub map_line_at : ℕ → State → Read MapLine
map_line_at zero st = line_at First Second st
map_line_at (suc k) st = line_at Mapped Mapped st

unfoldable pub term_at : State → Read Term
term_at st = do
  c ← number_at 160000 st
  v ← variable_at c.1
  Ok (record { coefficient = c.0; of_y = v.0.0; point = v.0.1 }, v.1)

-- the fault at the coefficient of a term too many
abbrev pub past_terms : State → Fault
past_terms st = if is_at_number st then TooMany st.rule 10 else Syntax (length st.left)

-- terms with commas between them, at most so many
unfoldable pub terms_at : ℕ → State → Read (List Term)
terms_at zero st = Err (past_terms st)
terms_at (suc room) st = do
  t ← term_at st
  if opens 44 t.1 then (mark_at 44 t.1 >>= λ c. terms_at room c.1 >>= λ ts. Ok (t.0 ∷ ts.0, ts.1))
      else Ok (t.0 ∷ [], t.1)

-- the terms of a row, of which there may be none
unfoldable pub inner_terms_at : State → Read (List Term)
inner_terms_at st = if opens 125 st then Ok ([], st) else terms_at 32 st

unfoldable pub row_at : State → Read (List Term)
row_at st = do
  a ← mark_at 123 st
  ts ← inner_terms_at a.1
  b ← mark_at 125 ts.1
  Ok (ts.0, b.1)

-- a row, if one comes
unfoldable pub any_row_at : State → Read (List Term)
any_row_at st = if opens 123 st then row_at st else Ok ([], st)

-- the rows of x and y, as far as they come
unfoldable pub rows_at : State → Read (List Term × List Term)
rows_at st = if opens 123 st then (row_at st >>= λ x. any_row_at x.1 >>= λ y. Ok ((x.0, y.0), y.1))
    else Ok (([], []), st)

unfoldable pub place_at : ℕ → State → Read Place
place_at k st = do
  p ← coordinates_at st
  r ← rows_at p.1
  c ← mark_at 59 r.1
  Ok (record { x = p.0.0; y = p.0.1; row_x = r.0.0; row_y = r.0.1 }, c.1)

unfoldable pub pair_at : ℕ → State → Read (ℕ × ℕ)
pair_at k st = do
  e ← ends_at Any Any st
  c ← mark_at 59 e.1
  Ok (e.0, c.1)

-- three indices in round brackets, which may name these points
unfoldable pub three_at : Bound → State → Read (ℕ × ℕ × ℕ)
three_at bound st = do
  a ← mark_at 40 st
  i ← index_at bound a.1
  b ← mark_at 44 i.1
  j ← index_at bound b.1
  c ← mark_at 44 j.1
  k ← index_at bound c.1
  d ← mark_at 41 k.1
  e ← mark_at 59 d.1
  Ok ((i.0, j.0, k.0), e.1)

unfoldable pub element_at : ℕ → State → Read (List ℕ)
element_at k st = three_at Any st >>= λ t. Ok (t.0.0 ∷ t.0.1 ∷ t.0.2 ∷ [], t.1)

abbrev pub turn_at : ℕ → State → Read (ℕ × ℕ × ℕ)
turn_at k st = three_at Mapped st

-- entries, as many as there is room for; k were before
unfoldable pub entries_at : {A : Type 0} → (ℕ → State → Read A) → ℕ → ℕ → ℕ → State → Read (List A)
entries_at entry what k zero st = if opens 40 st then Err (TooMany st.rule what) else Ok ([], st)
entries_at entry what k (suc room) st = if opens 40 st
    then (entry k st >>= λ e. entries_at entry what (k + 1) room e.1 >>= λ es. Ok
    (e.0 ∷ es.0, es.1)) else Ok ([], st)
