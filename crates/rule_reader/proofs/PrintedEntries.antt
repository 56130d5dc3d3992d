-- Each printed entry is what the grammar says.
use Rattle.std.proofs.Common.{◌≡◌, ℕ, zero, suc, ◌+◌, ◌<◌, ◌≤◌, Bool, true, false, List, [], ◌∷◌, ◌++◌, length, codes, ℤ, refl, sym, ap, subst, ◌∙◌, arith, append_assoc}
use Rattle.std.specs.List.{flat_map, AllByRecursion}
use Rattle.std.specs.Char.{is_ascii_alphanumeric}
use Rattle.std.specs.Fmt.{decimal}
use Rattle.std.specs.Str.{all_ascii_digits}
use Rattle.std.proofs.lemmas.Bool.{ne_eqb, le-ltb, and_parts, or_left}
use Rattle.std.proofs.lemmas.List.{append-nil}
use Rattle.word_scan.proofs.TokenLaws.{Stops}
use Rattle.rule_reader.specs.declared.reader.Bound.{Bound}
use Rattle.rule_reader.specs.declared.reader.Bound.TheVariants.{First, Second, Mapped, Any as AnyPoint}
use Rattle.rule_reader.specs.declared.rule.Triple.{Triple}
use Rattle.rule_reader.specs.declared.rule.MapPoint.{MapPoint}
use Rattle.rule_reader.specs.declared.rule.MapLine.{MapLine}
use Rattle.rule_reader.specs.declared.rule.Term.{Term}
use Rattle.rule_reader.specs.declared.rule.Place.{Place}
use Rattle.rule_reader.specs.Words.{NameTok}
use Rattle.rule_reader.specs.Reading.{del_word}
use Rattle.rule_reader.specs.Verdict.{misses}
use Rattle.rule_reader.specs.Grammar.{standard, naming, ◌▹◌, done, many, letter, joined_variable, variable, triple, del, marks, coordinates, map_point, ends, line, map_line, mark, term, terms, row, rows, place, pair, three, element, turn}
use Rattle.rule_reader.specs.Normal.{comma, close, coordinates_text, ends_text, triple_text, map_point_text, del_text, map_line_text, letter_text, term_text, more_terms_text, row_text, place_text, pair_text, element_text, turn_text, IsNumber, Names, AtMost, IsTriple, IsMapPoint, IsMapLine, IsTerm, IsPlace}
use Rattle.rule_reader.proofs.Lexing.{lex, lex_name}
use Rattle.word_scan.proofs.NumberTexts.{digits_of, whole_again}
use Rattle.rule_reader.proofs.Prints.{Any, Ends, Prints, chain, respell, put_left, put_right, put_done, put_white, put_mark, one_name, is_word, put_number, put_index, all_from, follows_many, many_printed, at_most_printed, ends_name}

-- ---- indices that hit

pub first_hits : (m n : ℕ) → 0 < m → misses First 1 m n ≡ false
first_hits m n some = rw (le-ltb m 1 (omega (arith, some))) refl

pub second_hits : (m n : ℕ) → 1 < m → misses Second 2 m n ≡ false
second_hits m n some = rw (le-ltb m 2 (omega (arith, some))) refl

pub mapped_hits : (m n k : ℕ) → Names m k → misses Mapped k m n ≡ false
mapped_hits m n k names = rw (ne_eqb k 0 (λ e. omega (arith, names.0, e)), le-ltb m k names.1) refl

pub any_hits : (m n k : ℕ) → Names (m + n) k → misses AnyPoint k m n ≡ false
any_hits m n k names = rw (ne_eqb k 0 (λ e. omega (arith, names.0, e)), le-ltb (m + n) k names.1) refl

-- ---- weights and places

pub triple_printed : {m n : ℕ} {F : List ℕ → Type 0} (t : Triple) → IsTriple t → Prints m n F Triple triple t (triple_text t)
triple_printed t is =
    put_white 32 refl (put_mark _ 123 refl (put_white 32 refl (put_number _ 10000000 t.f1 is.f1 (omega arith) (λ rest f. refl) (put_mark _ 44 refl (put_white 32 refl (put_number _ 10000000 t.f2 is.f2 (omega arith) (λ rest f. refl)
    (put_mark _ 44 refl (put_white 32 refl (put_number _ 10000000 t.f3 is.f3 (omega arith) (λ rest f. refl) (put_white 32 refl (put_mark _ 125 refl put_done)))))))))))

pub coordinates_printed : {m n : ℕ} {F : List ℕ → Type 0} (x y : ℤ) → IsNumber x → IsNumber y → Prints m n F (ℤ × ℤ) coordinates (x, y) (coordinates_text x y)
coordinates_printed x y p q = put_mark _ 40 refl (put_number _ 160000 x p (omega arith) (λ rest f. refl) (put_mark _ 44 refl (put_white 32 refl (put_number _ 160000 y q (omega arith) (λ rest f. refl) (put_mark _ 41 refl put_done)))))

pub ends_printed : {m n : ℕ} {F : List ℕ → Type 0} (first second : Bound) (i j : ℕ) → i ≤ 9999 → j ≤ 9999 → misses first i m n ≡ false → misses second j m n ≡ false → Prints m n F (ℕ × ℕ) (ends first second) (i, j) (ends_text i j)
ends_printed first second i j p q hi hj = put_mark _ 40 refl (put_index _ first i p hi (λ rest f. refl) (put_mark _ 44 refl (put_white 32 refl (put_index _ second j q hj (λ rest f. refl) (put_mark _ 41 refl put_done)))))

del_printed : {m n : ℕ} (d : Bool) → Prints m n Ends Bool del d (del_text d)
unfolding is_word
del_printed true = put_left _ (put_white 32 refl (chain _ del_word [] (one_name del_word refl) (λ rest f. f) put_done))
del_printed false = put_right _ put_done

marks_printed : {m n : ℕ} (t : Triple) (d : Bool) → IsTriple t → Prints m n Ends (Triple × Bool) marks (t, d) (triple_text t ++ del_text d)
marks_printed {m} {n} t d is =
    let tail : Prints m n Ends (Triple × Bool) (del ▹ λ x. done (t, x)) (t, d) (del_text d) = respell (append-nil (del_text d)) (chain _ (del_text d) [] (del_printed d) (λ rest f. f) put_done) in
    let weights : Prints m n Any Triple triple t (triple_text t) = triple_printed t is in
    put_right _ (put_left _ (chain _ (triple_text t) (del_text d) weights (λ rest f. tt) tail))

-- ---- mapped points and lines

pub map_point_printed : {m n : ℕ} (k : ℕ) (p : MapPoint) → IsMapPoint p → Prints m n Any MapPoint (map_point k) p (map_point_text p)
map_point_printed {m} {n} k p is =
    let weights : Prints m n Ends (Triple × Bool) marks (p.tol, false) (triple_text p.tol) = respell (append-nil (triple_text p.tol)) (marks_printed p.tol false is.tol) in
    let at : Prints m n Any (ℤ × ℤ) coordinates (p.x, p.y) (coordinates_text p.x p.y) = coordinates_printed p.x p.y is.x is.y in
    chain _ (coordinates_text p.x p.y) (triple_text p.tol ++ close) at (λ rest f. tt) (chain _ (triple_text p.tol) close weights (λ rest f. refl) (put_mark _ 59 refl (put_white 10 refl put_done)))

line_printed : {m n : ℕ} (first second : Bound) (l : MapLine) → IsTriple l.tol → l.i ≤ 9999 → l.j ≤ 9999 → misses first l.i m n ≡ false → misses second l.j m n ≡ false → Prints m n Any MapLine (line first second) l (map_line_text l)
line_printed {m} {n} first second l is p q hi hj =
    let weights : Prints m n Ends (Triple × Bool) marks (l.tol, l.del) (triple_text l.tol ++ del_text l.del) = marks_printed l.tol l.del is in
    let at : Prints m n Any (ℕ × ℕ) (ends first second) (l.i, l.j) (ends_text l.i l.j) = ends_printed first second l.i l.j p q hi hj in
    chain _ (ends_text l.i l.j) (triple_text l.tol ++ (del_text l.del ++ close)) at (λ rest f. tt)
    (respell (append_assoc (triple_text l.tol) (del_text l.del) close) (chain _ (triple_text l.tol ++ del_text l.del) close weights (λ rest f. refl) (put_mark _ 59 refl (put_white 10 refl put_done))))

-- a line behind so many others: the first goes from point 1 to point 2
abbrev pub IsLineAt : ℕ → ℕ → MapLine → Type 0
IsLineAt m zero l = IsMapLine m l × (l.i ≡ 1) × (l.j ≡ 2)
IsLineAt m (suc k) l = IsMapLine m l

pub map_line_printed : {m n : ℕ} → m ≤ 9999 → (k : ℕ) (l : MapLine) → IsLineAt m k l → Prints m n Any MapLine (map_line k) l (map_line_text l)
map_line_printed {m} {n} small zero l is =
    let line = is.0 in
    let first : misses First l.i m n ≡ false = rw is.1 (first_hits m n (omega (arith, line.i.0, line.i.1))) in
    let second : misses Second l.j m n ≡ false = rw is.2 (second_hits m n (omega (arith, is.2, line.j.1))) in
    line_printed First Second l line.tol (omega (arith, line.i.1, small)) (omega (arith, line.j.1, small)) first second
map_line_printed {m} {n} small (suc k) l is = line_printed Mapped Mapped l is.tol (omega (arith, is.i.1, small)) (omega (arith, is.j.1, small)) (mapped_hits m n l.i is.i) (mapped_hits m n l.j is.j)

-- ---- rows

digits_alphanumeric : (ds : List ℕ) → all_ascii_digits ds ≡ true → AllByRecursion (λ c. is_ascii_alphanumeric c ≡ true) ds
digits_alphanumeric [] all = tt
digits_alphanumeric (b ∷ ds) all = let parts = and_parts _ (all_ascii_digits ds) all in (or_left _ _ (or_left _ _ parts.0), digits_alphanumeric ds parts.1)

variable_printed : {m n : ℕ} (of_y : Bool) (k : ℕ) → k ≤ 9999 → Names m k → Prints m n Ends (Bool × ℕ) variable (of_y, k) (letter of_y ∷ decimal k)
unfolding joined_variable
variable_printed {m} {n} of_y k small names =
    let d = digits_of k 4 (omega arith) (omega arith) (omega (arith, small)) in
    let each = digits_alphanumeric (decimal k) d.all in
    let joined : Prints m n Ends (Bool × ℕ) joined_variable (of_y, k) (letter of_y ∷ decimal k) = record {
      said = naming (NameTok (letter of_y ∷ decimal k)) Mapped k ∷ [];
      says = (decimal k, d.some, refl, whole_again k 9999 small (omega (arith, small)));
      spelled = λ rest f. by of_y each rest (ends_name rest f);
      hits = (mapped_hits m n k names, tt);
    } in
    put_left _ joined
  where
    by : (y : Bool) → AllByRecursion (λ c. is_ascii_alphanumeric c ≡ true) (decimal k) → (rest : List ℕ) → Stops is_ascii_alphanumeric rest → lex (letter y ∷ (decimal k ++ rest)) ≡ NameTok (letter y ∷ decimal k) ∷ lex rest
    by false each rest ends = lex_name 88 (decimal k) rest refl (λ e. omega (arith, e)) refl each ends
    by true each rest ends = lex_name 89 (decimal k) rest refl (λ e. omega (arith, e)) refl each ends

letter_ends : (of_y : Bool) (more : List ℕ) → Ends (letter_text of_y ++ more)
letter_ends false more = refl
letter_ends true more = refl

pub term_printed : {m n : ℕ} → m ≤ 9999 → (t : Term) → IsTerm m t → Prints m n Ends Term term t (term_text t)
term_printed {m} {n} small t is = put_number _ 160000 t.coefficient is.coefficient (omega arith) (λ rest f. subst Ends (sym (append_assoc (letter_text t.of_y) (decimal t.point) rest)) (letter_ends t.of_y (decimal t.point ++ rest))) (tail t.of_y)
  where
    tail : (of_y : Bool) → Prints m n Ends Term (variable ▹ λ v. done (record { coefficient = t.coefficient; of_y = v.0; point = v.1 })) (record { coefficient = t.coefficient; of_y = of_y; point = t.point }) (letter_text of_y ++ decimal t.point)
    tail of_y = by of_y (respell (append-nil (letter of_y ∷ decimal t.point)) (chain _ (letter of_y ∷ decimal t.point) [] (variable_printed of_y t.point (omega (arith, is.point.1, small)) is.point) (λ rest f. f) put_done))
      where
        by : (y : Bool) → Prints m n Ends Term (variable ▹ λ v. done (record { coefficient = t.coefficient; of_y = v.0; point = v.1 })) (record { coefficient = t.coefficient; of_y = y; point = t.point }) (letter y ∷ decimal t.point)
            → Prints m n Ends Term (variable ▹ λ v. done (record { coefficient = t.coefficient; of_y = v.0; point = v.1 })) (record { coefficient = t.coefficient; of_y = y; point = t.point }) (letter_text y ++ decimal t.point)
        by false a = put_white 32 refl a
        by true a = put_white 32 refl a

more_term_printed : {m n : ℕ} → m ≤ 9999 → (k : ℕ) (t : Term) → IsTerm m t → Prints m n Ends Term (mark 44 ▹ λ c. term) t (comma ++ term_text t)
more_term_printed small k t is = put_mark _ 44 refl (put_white 32 refl (term_printed small t is))

terms_printed : {m n : ℕ} → m ≤ 9999 → (t : Term) (ts : List Term) → AtMost 32 (IsTerm m) (t ∷ ts) → Prints m n Ends (List Term) (terms standard) (t ∷ ts) (term_text t ++ more_terms_text ts)
terms_printed {m} {n} small t ts is =
    let text : Term → List ℕ = λ x. comma ++ term_text x in
    let more : Prints m n Ends (List Term) (many (λ k. mark 44 ▹ λ c. term) 0) ts (flat_map text ts) = many_printed m n Ends Term (λ k. mark 44 ▹ λ c. term) text (λ k x. IsTerm m x) (more_term_printed small) (λ x rest. refl) 0 ts (all_from (IsTerm m) 0 ts is.1.1) in
    chain _ (term_text t) (flat_map text ts) (term_printed small t is.1.0) (λ rest f. follows_many Ends text (λ x r. refl) ts rest f)
    (respell (append-nil (flat_map text ts)) (chain _ (flat_map text ts) [] (at_most_printed _ 31 (omega (arith, is.0)) more) (λ rest f. f) put_done))

pub row_printed : {m n : ℕ} → m ≤ 9999 → (ts : List Term) → AtMost 32 (IsTerm m) ts → Prints m n Any (List Term) (row standard) ts (row_text ts)
row_printed small [] is = put_white 32 refl (put_mark _ 123 refl (put_white 32 refl (chain {F = Any} _ [] (125 ∷ []) (put_left _ put_done) (λ rest f. f) (put_mark _ 125 refl put_done))))
row_printed small (t ∷ ts) is =
    put_white 32 refl (put_mark _ 123 refl (put_white 32 refl
    (respell (append_assoc (term_text t) (more_terms_text ts) (codes " }")) (chain _ (term_text t ++ more_terms_text ts) (codes " }") (put_right _ (terms_printed small t ts is)) (λ rest f. refl) (put_white 32 refl (put_mark _ 125 refl put_done))))))

rows_printed : {m n : ℕ} → m ≤ 9999 → (x y : List Term) → AtMost 32 (IsTerm m) x → AtMost 32 (IsTerm m) y → Prints m n Any (List Term × List Term) (rows standard) (x, y) (row_text x ++ row_text y)
rows_printed small x y p q =
    put_left _ (chain _ (row_text x) (row_text y) (row_printed small x p) (λ rest f. f) (respell (append-nil (row_text y)) (chain _ (row_text y) [] (put_left _ (row_printed small y q)) (λ rest f. f) put_done)))

pub place_printed : {m n : ℕ} → m ≤ 9999 → (k : ℕ) (p : Place) → IsPlace m p → Prints m n Any Place (place standard k) p (place_text p)
place_printed {m} {n} small k p is =
    let at : Prints m n Any (ℤ × ℤ) coordinates (p.x, p.y) (coordinates_text p.x p.y) = coordinates_printed p.x p.y is.x is.y in
    chain _ (coordinates_text p.x p.y) (row_text p.row_x ++ (row_text p.row_y ++ close)) at (λ rest f. tt)
    (respell (append_assoc (row_text p.row_x) (row_text p.row_y) close) (chain _ (row_text p.row_x ++ row_text p.row_y) close (rows_printed small p.row_x p.row_y is.row_x is.row_y) (λ rest f. tt) (put_mark _ 59 refl (put_white 10 refl put_done))))

-- ---- new lines, elements and turns

pub pair_printed : {m n : ℕ} → m + n ≤ 9999 → (k : ℕ) (l : ℕ × ℕ) → Names (m + n) l.0 × Names (m + n) l.1 → Prints m n Any (ℕ × ℕ) (pair k) l (pair_text l)
pair_printed {m} {n} small k l is =
    let at : Prints m n Any (ℕ × ℕ) (ends AnyPoint AnyPoint) (l.0, l.1) (ends_text l.0 l.1) = ends_printed AnyPoint AnyPoint l.0 l.1 (omega (arith, is.0.1, small)) (omega (arith, is.1.1, small)) (any_hits m n l.0 is.0) (any_hits m n l.1 is.1) in
    chain _ (ends_text l.0 l.1) close at (λ rest f. tt) (put_mark _ 59 refl (put_white 10 refl put_done))

three_text : ℕ → ℕ → ℕ → List ℕ
three_text i j k = codes "(" ++ (decimal i ++ (comma ++ (decimal j ++ (comma ++ (decimal k ++ (codes ")" ++ close))))))

three_is : (i j k : ℕ) → three_text i j k ≡ element_text (i ∷ j ∷ k ∷ [])
unfolding three_text
three_is i j k =
    let tail = codes ");\n" in
    let last : decimal k ++ tail ≡ (decimal k ++ []) ++ tail = ap (λ (t : List ℕ). t ++ tail) (sym (append-nil (decimal k))) in
    let both : decimal j ++ (44 ∷ 32 ∷ (decimal k ++ tail)) ≡ (decimal j ++ (44 ∷ 32 ∷ (decimal k ++ []))) ++ tail = ap (λ (t : List ℕ). decimal j ++ (44 ∷ 32 ∷ t)) last ∙ sym (append_assoc (decimal j) (44 ∷ 32 ∷ (decimal k ++ [])) tail) in
    ap (λ (t : List ℕ). 40 ∷ (decimal i ++ (44 ∷ 32 ∷ t))) both

three_printed : {m n : ℕ} (bound : Bound) (i j k : ℕ) → i ≤ 9999 → j ≤ 9999 → k ≤ 9999 → misses bound i m n ≡ false → misses bound j m n ≡ false → misses bound k m n ≡ false → Prints m n Any (ℕ × ℕ × ℕ) (three bound) (i, j, k) (three_text i j k)
unfolding three_text
three_printed bound i j k p q r hi hj hk =
    put_mark _ 40 refl (put_index _ bound i p hi (λ rest f. refl) (put_mark _ 44 refl (put_white 32 refl (put_index _ bound j q hj (λ rest f. refl) (put_mark _ 44 refl (put_white 32 refl (put_index _ bound k r hk (λ rest f. refl)
    (put_mark _ 41 refl (put_mark _ 59 refl (put_white 10 refl put_done))))))))))

abbrev pub IsElement : ℕ → List ℕ → Type 0
IsElement points e = (length e ≡ 3) × AllByRecursion (Names points) e

pub element_printed : {m n : ℕ} → m + n ≤ 9999 → (k : ℕ) (e : List ℕ) → IsElement (m + n) e → Prints m n Any (List ℕ) (element k) e (element_text e)
element_printed small before [] is = absurd (omega (arith, is.0))
element_printed small before (i ∷ []) is = absurd (omega (arith, is.0))
element_printed small before (i ∷ j ∷ []) is = absurd (omega (arith, is.0))
element_printed {m} {n} small before (i ∷ j ∷ k ∷ []) is =
    let each = is.1 in
    let points : Prints m n Any (ℕ × ℕ × ℕ) (three AnyPoint) (i, j, k) (element_text (i ∷ j ∷ k ∷ [])) = respell (three_is i j k) (three_printed AnyPoint i j k (omega (arith, each.0.1, small)) (omega (arith, each.1.0.1, small)) (omega (arith, each.1.1.0.1, small)) (any_hits m n i each.0) (any_hits m n j each.1.0) (any_hits m n k each.1.1.0)) in
    respell (append-nil (element_text (i ∷ j ∷ k ∷ []))) (chain _ (element_text (i ∷ j ∷ k ∷ [])) [] points (λ rest f. f) put_done)
element_printed small before (i ∷ j ∷ k ∷ l ∷ e) is = absurd (omega (arith, is.0))

pub turn_printed : {m n : ℕ} → m ≤ 9999 → (k : ℕ) (t : ℕ × ℕ × ℕ) → Names m t.0 × Names m t.1 × Names m t.2 → Prints m n Any (ℕ × ℕ × ℕ) (turn k) t (turn_text t)
turn_printed {m} {n} small k t is = respell (three_is t.0 t.1 t.2) (three_printed Mapped t.0 t.1 t.2 (omega (arith, is.0.1, small)) (omega (arith, is.1.1, small)) (omega (arith, is.2.1, small)) (mapped_hits m n t.0 is.0) (mapped_hits m n t.1 is.1) (mapped_hits m n t.2 is.2))
