-- The log that is written of a run is read again: its words are a log, and say what was written.
-- Each word has one white byte beside it: in a line before it, and of lines one after another behind it.
use Rattle.std.proofs.Common.{◌≡◌, ℕ, zero, suc, ◌+◌, ◌<◌, ◌≤◌, true, false, List, [], ◌∷◌, ◌++◌, length, Some, refl, sym, ap, subst, append_assoc, length-append, arith}
use Rattle.std.specs.Prelude.{ℤ, pos, negsuc, codes, unsigned_abs}
use Rattle.std.specs.Fmt.{decimal, signed_decimal}
use Rattle.std.specs.List.{flat_map, AllByRecursion}
use Rattle.std.proofs.lemmas.List.{append-nil}
use Rattle.std.proofs.lemmas.Int.{ints}
use Rattle.grid_geom.specs.declared.Point.{Point}
use Rattle.grid_geom.specs.declared.TheConstants.{GRID, LONGEST}
use Rattle.grid_geom.specs.Bounds.{IsOnGrid, IsWithin}
use Rattle.text_rows.specs.Rows.{spaced}
use Rattle.word_scan.specs.Parts.{IsRun}
use Rattle.word_scan.specs.Scan.{words_of}
use Rattle.word_scan.proofs.PlainWords.{plain_byte, plain_bytes, run_of}
use Rattle.word_scan.proofs.Spelled.{before, behind, Spells, nothing, both, one, regrouped, line, words_spelled}
use Rattle.rule_match.specs.declared.application.Application.{Application}
use Rattle.vol_format.specs.Text.{IsFrom}
use Rattle.vol_format.specs.Vol.{IsShift}
use Rattle.mesh_run.specs.declared.Options.{Options}
use Rattle.mesh_run.specs.declared.domain_run.DomainRun.{DomainRun}
use Rattle.run_log.specs.declared.log.Log.{Log}
use Rattle.run_log.specs.Form.{Word, Need, Form, Says, Wants, ◌>>=◌, many, Derives}
use Rattle.run_log.specs.Numbers.{greatest_whole, fixed_need, number_need, signed_need, point_need, limit_need, end_need, others_need, number, signed, point, word}
use Rattle.run_log.specs.Log.{heading, ending, run_row, limit_word, end_word, opening_points, row_counts, domain_row, place_words, point_row, line_row, counted_numbers, application_row, front_row, domain_text, log_lines}
use Rattle.run_log.specs.Grammar.{counted, place, opening_point, opening_line, element, application, applications, front_line, all_points, domain_run, domains, options, log, Reads}
use Rattle.run_log.specs.Ranges.{OptionsInRange, LineInRange, ElementInRange, ApplicationInRange, AreInRange, FrontInRange, RunInRange, AreRunsInRange, InRanges}
use Rattle.run_log.proofs.LineWords.{IsSigned, from_to, whole_run, signed_says, signed_run, limit_says, limit_run, end_says, end_run}

-- the bytes are words, each with a white byte on this side, which have the form and say this
record Prints {A : Type 0} (side : ℕ × Word → List ℕ) (form : Form A) (bytes : List ℕ) (x : A) : Type 0 where
  words : List Word
  spelled : Spells side bytes words
  derives : Derives form words x

-- ---- one form after another

derives_then : {A B : Type 0} (form : Form A) (next : A → Form B) (v w : List Word) (x : A) (y : B) → Derives form v x → Derives (next x) w y → Derives (form >>= next) (v ++ w) y
unfolding Derives
derives_then (Says a) next [] w x y p q = subst (λ (z : _). Derives (next z) w y) p q
derives_then (Says a) next (u ∷ v) w x y p q = absurd p
derives_then (Wants need rest) next [] w x y p q = absurd p
derives_then (Wants need rest) next (u ∷ v) w x y p q = (p.0, p.1, derives_then (rest p.0) next v w x y p.2 q)

says : {A : Type 0} (side : ℕ × Word → List ℕ) (x : A) → Prints side (Says x) [] x
unfolding Derives
says side x = record { words = []; spelled = nothing side; derives = refl }

then : {A B : Type 0} {side : ℕ × Word → List ℕ} {a b : List ℕ} (form : Form A) (next : A → Form B) (x : A) (y : B) → Prints side form a x → Prints side (next x) b y → Prints side (form >>= next) (a ++ b) y
then form next x y p q = record {
  words = p.words ++ q.words;
  spelled = both p.spelled q.spelled;
  derives = derives_then form next p.words q.words x y p.derives q.derives;
}

each : {A : Type 0} (side : ℕ × Word → List ℕ) (form : Form A) (text : A → List ℕ) (R : A → Type 0) → ((x : A) → R x → Prints side form (text x) x) → (xs : List A) → AllByRecursion R xs → Prints side (many (length xs) form) (flat_map text xs) xs
each side form text R item [] all = says side []
each side form text R item (x ∷ xs) all =
    then form (λ y. many (length xs) form >>= λ ys. Says (y ∷ ys)) x (x ∷ xs) (item x all.0)
    (subst (λ (t : List ℕ). Prints side (many (length xs) form >>= λ ys. Says (x ∷ ys)) t (x ∷ xs)) (append-nil (flat_map text xs))
    (then (many (length xs) form) (λ ys. Says (x ∷ ys)) xs (x ∷ xs) (each side form text R item xs all.1) (says side (x ∷ xs))))

-- ---- words in a line

spaced_word : {V : Type 0} (need : Need V) (w : Word) (v : V) → IsRun w → need.says w ≡ Some v → Prints before (word need) (32 ∷ w) v
unfolding Derives
spaced_word need w v run e = record { words = w ∷ []; spelled = one before 32 w refl run; derives = (v, e, refl) }

-- a line: its first word, and the words behind it
line_of : {V A : Type 0} {bytes : List ℕ} (need : Need V) (next : V → Form A) (w : Word) (v : V) (x : A) → IsRun w → need.says w ≡ Some v → Prints before (next v) bytes x → Prints behind (Wants need next) (w ++ bytes ++ 10 ∷ []) x
unfolding Derives
line_of need next w v x run e p = record { words = w ∷ p.words; spelled = line w 10 refl run p.spelled; derives = (v, e, p.derives) }

number_word : (least greatest n : ℕ) → greatest ≤ greatest_whole → IsFrom least greatest n → Prints before (number least greatest) (32 ∷ decimal n) n
unfolding number_need
number_word least greatest n few r = spaced_word (number_need least greatest) (decimal n) n (whole_run n (omega (arith, few, r.high))) (from_to least greatest n few r)

point_word : (points n : ℕ) → points ≤ greatest_whole → IsFrom 1 points n → Prints before (point points) (32 ∷ decimal n) n
unfolding point_need
point_word points n few r = spaced_word (point_need points) (decimal n) n (whole_run n (omega (arith, few, r.high))) (from_to 1 points n few r)

signed_word : (least greatest : ℕ) (z : ℤ) → least ≤ greatest_whole → greatest ≤ greatest_whole → IsSigned least greatest z → Prints before (signed least greatest) (32 ∷ signed_decimal z) z
unfolding signed_need
signed_word least greatest z p q r = spaced_word (signed_need least greatest) (signed_decimal z) z (signed_run least greatest z p q r) (signed_says least greatest z p q r)

-- numbers of points, each behind a space
points_words : (points : ℕ) (ns : List ℕ) → points ≤ greatest_whole → AllByRecursion (IsFrom 1 points) ns → Prints before (many (length ns) (point points)) (spaced ns) ns
points_words points ns few all = each before (point points) (λ n. 32 ∷ decimal n) (IsFrom 1 points) (λ n r. point_word points n few r) ns all

-- how many there are, and the items
counted_words : {A : Type 0} (most : ℕ) (form : Form A) (text : List ℕ) (xs : List A) → most ≤ greatest_whole → length xs ≤ most → Prints before (many (length xs) form) text xs → Prints before (counted most form) ((32 ∷ decimal (length xs)) ++ text) xs
unfolding counted
counted_words most form text xs few fits p = then (number 0 most) (λ n. many n form) (length xs) xs (number_word 0 most (length xs) few (record { low = omega arith; high = fits })) p

-- ---- points

on_grid : (z : ℤ) → IsWithin GRID z → IsSigned (unsigned_abs GRID) (unsigned_abs GRID) z
on_grid (pos n) r = let low = r.least in let high = r.greatest in omega (arith, ints)
on_grid (negsuc n) r = let low = r.least in let high = r.greatest in omega (arith, ints)

place_prints : (p : Point) → IsOnGrid p → Prints before place (place_words p) p
unfolding place
place_prints p on =
    then (signed (unsigned_abs GRID) (unsigned_abs GRID)) (λ x. signed (unsigned_abs GRID) (unsigned_abs GRID) >>= λ y. Says (record { x = x; y = y })) p.x p (signed_word (unsigned_abs GRID) (unsigned_abs GRID) p.x (omega arith) (omega arith) (on_grid p.x on.x_within))
    (then (signed (unsigned_abs GRID) (unsigned_abs GRID)) (λ y. Says (record { x = p.x; y = y })) p.y p (signed_word (unsigned_abs GRID) (unsigned_abs GRID) p.y (omega arith) (omega arith) (on_grid p.y on.y_within)) (says before p))

fixed_run : (w : Word) → 0 < length w → plain_bytes w ≡ true → IsRun w
fixed_run w some plain = run_of w some plain

point_prints : (p : Point) → IsOnGrid p → Prints behind opening_point (point_row p) p
unfolding opening_point fixed_need plain_bytes plain_byte
point_prints p on = line_of (fixed_need (codes "p")) (λ u. place) (codes "p") tt p (fixed_run (codes "p") (omega arith) refl) refl (place_prints p on)

-- ---- lines

line_prints : (points : ℕ) → points ≤ greatest_whole → (l : ℕ × ℕ) → LineInRange points l → Prints behind (opening_line points) (line_row l) l
unfolding opening_line fixed_need plain_bytes plain_byte
line_prints points few l r =
    line_of (fixed_need (codes "l")) (λ u. point points >>= λ a. point points >>= λ b. Says (a, b)) (codes "l") tt l (fixed_run (codes "l") (omega arith) refl) refl
    (then (point points) (λ a. point points >>= λ b. Says (a, b)) l.0 l (point_word points l.0 few r.from)
    (then (point points) (λ b. Says (l.0, b)) l.1 l (point_word points l.1 few r.to) (says before l)))

front_prints : (points : ℕ) → points ≤ greatest_whole → (l : ℕ × ℕ × ℕ) → FrontInRange points l → Prints behind (front_line points) (front_row l) l
unfolding front_line fixed_need plain_bytes plain_byte
front_prints points few l r =
    line_of (fixed_need (codes "f")) (λ u. number 1 greatest_whole >>= λ line. point points >>= λ a. point points >>= λ b. Says (line, a, b)) (codes "f") tt l (fixed_run (codes "f") (omega arith) refl) refl
    (then (number 1 greatest_whole) (λ line. point points >>= λ a. point points >>= λ b. Says (line, a, b)) l.0 l (number_word 1 greatest_whole l.0 (omega arith) r.number)
    (then (point points) (λ a. point points >>= λ b. Says (l.0, a, b)) l.1 l (point_word points l.1 few r.from)
    (then (point points) (λ b. Says (l.0, l.1, b)) l.2 l (point_word points l.2 few r.to) (says before l))))

-- ---- applications

element_prints : (points : ℕ) → points ≤ greatest_whole → (e : List ℕ) → ElementInRange points e → Prints before (element points) (counted_numbers e) e
unfolding element
element_prints points few e r =
    then (number 3 3) (λ three. many 3 (point points)) (length e) e (number_word 3 3 (length e) (omega arith) (record { low = omega (arith, r.three); high = omega (arith, r.three) }))
    (subst (λ (n : ℕ). Prints before (many n (point points)) (spaced e) e) r.three (points_words points e few r.corners))

spread : (a b1 b2 b3 ms pn ps en es : List ℕ) → a ++ (b1 ++ (b2 ++ (b3 ++ (ms ++ ((pn ++ ps) ++ ((en ++ es) ++ [])))))) ++ 10 ∷ [] ≡ a ++ (b1 ++ (b2 ++ (b3 ++ []))) ++ ms ++ ((pn ++ []) ++ ps) ++ ((en ++ []) ++ es) ++ 10 ∷ []
spread a b1 b2 b3 ms pn ps en es = simp (append_assoc, append-nil)

application_prints : (points : ℕ) (a : Application) → points + length a.made ≤ greatest_whole → ApplicationInRange points a → Prints behind (application points) (application_row a) a
unfolding application fixed_need plain_bytes plain_byte
application_prints points a few r =
    let n = points + length a.made in
    subst (λ (t : List ℕ). Prints behind (application points) t a)
    (spread (codes "a") (32 ∷ decimal a.class) (32 ∷ decimal a.line) (32 ∷ decimal a.rule) (counted_numbers a.points) (32 ∷ decimal (length a.made)) (flat_map place_words a.made) (32 ∷ decimal (length a.elements)) (flat_map counted_numbers a.elements))
    (line_of (fixed_need (codes "a")) _ (codes "a") tt a (fixed_run (codes "a") (omega arith) refl) refl
    (then (number 1 16) _ a.class a (number_word 1 16 a.class (omega arith) r.class)
    (then (number 1 greatest_whole) _ a.line a (number_word 1 greatest_whole a.line (omega arith) r.line)
    (then (number 1 256) _ a.rule a (number_word 1 256 a.rule (omega arith) r.rule)
    (then (counted 16 (point points)) _ a.points a (counted_words 16 (point points) (spaced a.points) a.points (omega arith) r.few_mapped (points_words points a.points (omega (arith, few)) r.mapped))
    (then (counted 8 place) _ a.made a (counted_words 8 place (flat_map place_words a.made) a.made (omega arith) r.few_made (each before place place_words IsOnGrid place_prints a.made r.made))
    (then (counted 8 (element n)) _ a.elements a (counted_words 8 (element n) (flat_map counted_numbers a.elements) a.elements (omega arith) r.few_elements (each before (element n) counted_numbers (ElementInRange n) (element_prints n few) a.elements r.elements))
    (says before a))))))))

applications_print : (points : ℕ) (xs : List Application) → points + length (flat_map (λ a. a.made) xs) ≤ greatest_whole → AreInRange points xs → Prints behind (applications (length xs) points) (flat_map application_row xs) xs
unfolding applications
applications_print points [] few all = says behind []
applications_print points (a ∷ xs) few all =
    let long = length-append a.made (flat_map (λ a. a.made) xs) in
    let n = points + length a.made in
    then (application points) (λ first. applications (length xs) (points + length first.made) >>= λ rest. Says (first ∷ rest)) a (a ∷ xs) (application_prints points a (omega (arith, long, few)) all.0)
    (subst (λ (t : List ℕ). Prints behind (applications (length xs) n >>= λ rest. Says (a ∷ rest)) t (a ∷ xs)) (append-nil (flat_map application_row xs))
    (then (applications (length xs) n) (λ rest. Says (a ∷ rest)) xs (a ∷ xs) (applications_print n xs (omega (arith, long, few)) all.1) (says behind (a ∷ xs))))

-- ---- runs of domains

-- the words of a domain's run behind its first one
record RunPrints (last : ℕ) (r : DomainRun) : Type 0 where
  words : List Word
  spelled : Spells behind (domain_text r) (codes "domain" ∷ words)
  derives : Derives (domain_run last) words r

counts : (d p l a f e : List ℕ) → (d ++ (p ++ (l ++ (a ++ (f ++ []))))) ++ (32 ∷ e) ≡ d ++ (p ++ (l ++ (a ++ (f ++ (32 ∷ e)))))
counts d p l a f e = simp (append_assoc, append-nil)

row_group : (d s e : List ℕ) → d ++ (s ++ (32 ∷ e)) ++ 10 ∷ [] ≡ d ++ s ++ 32 ∷ [] ++ e ++ 10 ∷ []
row_group d s e = simp append_assoc

text_group : (h p l a f : List ℕ) → h ++ (p ++ (l ++ (a ++ (f ++ [])))) ≡ h ++ p ++ l ++ a ++ f
text_group h p l a f = simp (append_assoc, append-nil)

few_opened : (r : DomainRun) → r.points ≡ all_points (opening_points r) r.applications → length r.points ≤ greatest_whole → length (opening_points r) + length (flat_map (λ a. a.made) r.applications) ≤ greatest_whole
few_opened r is few = omega (arith, ap length is, length-append (opening_points r) (flat_map (λ a. a.made) r.applications), few)

-- the lines below the domain's first one
tail : (r : DomainRun) → Form DomainRun
tail r = do
  opening ← many (length (opening_points r)) opening_point
  sides ← many (length r.lines) (opening_line (length (opening_points r)))
  made ← applications (length r.applications) (length (opening_points r))
  front ← many (length r.front) (front_line (length (all_points opening made)))
  Says (record {
    domain = r.domain;
    points = all_points opening made;
    opened = length (opening_points r);
    lines = sides;
    applications = made;
    front = front;
    end = r.end;
  })

tail_prints : (last : ℕ) (r : DomainRun) → RunInRange last r → Prints behind (tail r) (flat_map point_row (opening_points r) ++ (flat_map line_row r.lines ++ (flat_map application_row r.applications ++ (flat_map front_row r.front ++ [])))) r
unfolding tail
tail_prints last r k =
    let o = length (opening_points r) in
    let few = few_opened r k.points k.few_points in
    let few_open : o ≤ greatest_whole = omega (arith, few) in
    let same : record r { points = all_points (opening_points r) r.applications; opened = o } ≡ r = λ i. record r { points = sym k.points i; opened = sym k.opened i } in
    let lines = subst (λ (n : ℕ). AllByRecursion (LineInRange n) r.lines) k.opened k.lines in
    let made = subst (λ (n : ℕ). AreInRange n r.applications) k.opened k.applications in
    let front = subst (λ (ps : List Point). AllByRecursion (FrontInRange (length ps)) r.front) k.points k.front in
    let all = length (all_points (opening_points r) r.applications) in
    let few_all : all ≤ greatest_whole = omega (arith, ap length k.points, k.few_points) in
    let text = flat_map point_row (opening_points r) ++ (flat_map line_row r.lines ++ (flat_map application_row r.applications ++ (flat_map front_row r.front ++ []))) in
    subst (λ (s : DomainRun). Prints behind (tail r) text s) same
    (then (many o opening_point) _ (opening_points r) _ (each behind opening_point point_row IsOnGrid point_prints (opening_points r) k.on_grid)
    (then (many (length r.lines) (opening_line o)) _ r.lines _ (each behind (opening_line o) line_row (LineInRange o) (line_prints o few_open) r.lines lines)
    (then (applications (length r.applications) o) _ r.applications _ (applications_print o r.applications few made)
    (then (many (length r.front) (front_line all)) _ r.front _ (each behind (front_line all) front_row (FrontInRange all) (front_prints all few_all) r.front front)
    (says behind _)))))

number_at : (n : ℕ) → n ≤ greatest_whole → Spells before (32 ∷ decimal n) (decimal n ∷ [])
number_at n few = one before 32 (decimal n) refl (whole_run n few)

count_says : (n : ℕ) → n ≤ greatest_whole → (number_need 0 greatest_whole).says (decimal n) ≡ Some n
unfolding number_need
count_says n few = from_to 0 greatest_whole n (omega arith) (record { low = omega arith; high = few })

domain_says : (last n : ℕ) → IsFrom (last + 1) 64 n → (number_need (last + 1) 64).says (decimal n) ≡ Some n
unfolding number_need
domain_says last n r = from_to (last + 1) 64 n (omega arith) r

row_spelled : (last : ℕ) (r : DomainRun) → RunInRange last r → Spells behind (domain_row r) (codes "domain" ∷ decimal r.domain ∷ decimal (length (opening_points r)) ∷ decimal (length r.lines) ∷ decimal (length r.applications) ∷ decimal (length r.front) ∷ end_word r.end ∷ [])
unfolding domain_row plain_bytes plain_byte
row_spelled last r k =
    let few = few_opened r k.points k.few_points in
    regrouped (row_group (codes "domain") (spaced (r.domain ∷ row_counts r)) (end_word r.end))
    (line (codes "domain") 10 refl (run_of (codes "domain") (omega arith) refl)
    (regrouped (sym (counts (32 ∷ decimal r.domain) (32 ∷ decimal (length (opening_points r))) (32 ∷ decimal (length r.lines)) (32 ∷ decimal (length r.applications)) (32 ∷ decimal (length r.front)) (end_word r.end)))
    (both (number_at r.domain (omega (arith, k.domain.high))) (both (number_at (length (opening_points r)) (omega (arith, few))) (both (number_at (length r.lines) k.few_lines) (both (number_at (length r.applications) k.few_applications) (both (number_at (length r.front) k.few_left) (one before 32 (end_word r.end) refl (end_run r.end)))))))))

run_prints : (last : ℕ) (r : DomainRun) → RunInRange last r → RunPrints last r
unfolding domain_run Derives tail end_need
run_prints last r k =
    let rest = tail_prints last r k in
    let few = few_opened r k.points k.few_points in
    record {
      words = decimal r.domain ∷ decimal (length (opening_points r)) ∷ decimal (length r.lines) ∷ decimal (length r.applications) ∷ decimal (length r.front) ∷ end_word r.end ∷ rest.words;
      spelled = regrouped (text_group (domain_row r) (flat_map point_row (opening_points r)) (flat_map line_row r.lines) (flat_map application_row r.applications) (flat_map front_row r.front)) (both (row_spelled last r k) rest.spelled);
      derives = (
        r.domain,
        domain_says last r.domain k.domain,
        (length (opening_points r), count_says (length (opening_points r)) (omega (arith, few)), (length r.lines, count_says (length r.lines) k.few_lines, (length r.applications, count_says (length r.applications) k.few_applications, (length r.front, count_says (length r.front) k.few_left, (r.end, end_says r.end, rest.derives))))),
      );
    }

-- the words of runs of domains, and of the log's end
record RunsPrint (room last : ℕ) (rs : List DomainRun) : Type 0 where
  words : List Word
  spelled : Spells behind (flat_map domain_text rs ++ ending) words
  derives : Derives (domains room last) words rs

runs_print : (room last : ℕ) (rs : List DomainRun) → 65 ≤ room + last → last ≤ 64 → AreRunsInRange last rs → RunsPrint room last rs
unfolding domains Derives others_need ending plain_bytes plain_byte
runs_print zero last rs enough most all = absurd (omega (arith, enough, most))
runs_print (suc room) last [] enough most all = record {
  words = codes "end" ∷ [];
  spelled = one behind 10 (codes "end") refl (run_of (codes "end") (omega arith) refl);
  derives = (false, refl, refl);
}
runs_print (suc room) last (r ∷ rs) enough most all =
    let one = run_prints last r all.0 in
    let d = all.0.domain in
    let more = runs_print room r.domain rs (omega (arith, enough, d.low)) d.high all.1 in
    let rest : Derives (domains room r.domain >>= λ xs. Says (r ∷ xs)) (more.words ++ []) (r ∷ rs) = derives_then (domains room r.domain) (λ xs. Says (r ∷ xs)) more.words [] rs (r ∷ rs) more.derives refl in
    record {
      words = codes "domain" ∷ (one.words ++ more.words);
      spelled = regrouped (sym (append_assoc (domain_text r) (flat_map domain_text rs) ending)) (both one.spelled more.spelled);
      derives = (true, refl, derives_then (domain_run last) (λ run. domains room run.domain >>= λ xs. Says (run ∷ xs)) one.words more.words r (r ∷ rs) one.derives (subst (λ (ws : List Word). Derives (domains room r.domain >>= λ xs. Says (r ∷ xs)) ws (r ∷ rs)) (append-nil more.words) rest));
    }

-- ---- the head of a log

options_group : (g d c l : List ℕ) → g ++ (d ++ (c ++ (l ++ []))) ≡ (g ++ (d ++ (c ++ []))) ++ l
options_group g d c l = simp (append_assoc, append-nil)

options_print : (o : Options) → OptionsInRange o → Prints before options (spaced (o.greatest ∷ o.grading ∷ o.last ∷ []) ++ 32 ∷ limit_word o.limit) o
unfolding options limit_need
options_print o r =
    subst (λ (t : List ℕ). Prints before options t o) (options_group (32 ∷ decimal o.greatest) (32 ∷ decimal o.grading) (32 ∷ decimal o.last) (32 ∷ limit_word o.limit))
    (then (number 1 LONGEST) _ o.greatest o (number_word 1 LONGEST o.greatest (omega arith) r.greatest)
    (then (number 0 10000) _ o.grading o (number_word 0 10000 o.grading (omega arith) (record { low = omega arith; high = r.grading }))
    (then (number 1 16) _ o.last o (number_word 1 16 o.last (omega arith) r.last)
    (then (word limit_need) _ o.limit o (spaced_word limit_need (limit_word o.limit) o.limit (limit_run o.limit r.limit) (limit_says o.limit r.limit))
    (says before o)))))

shift_signed : (d : ℤ) → IsShift d → IsSigned 6 8 d
shift_signed (pos n) r = let low = r.least in let high = r.greatest in omega (arith, ints)
shift_signed (negsuc n) r = let low = r.least in let high = r.greatest in omega (arith, ints)

heading_spelled : Spells behind heading (codes "netmeshlog" ∷ codes "1" ∷ [])
unfolding heading plain_bytes plain_byte
heading_spelled = line (codes "netmeshlog") 10 refl (run_of (codes "netmeshlog") (omega arith) refl) (one before 32 (codes "1") refl (run_of (codes "1") (omega arith) refl))

run_group : (d o l : List ℕ) → codes "run" ++ ((32 ∷ d) ++ (o ++ (32 ∷ l))) ++ 10 ∷ [] ≡ codes "run " ++ d ++ o ++ 32 ∷ [] ++ l ++ 10 ∷ []
run_group d o l = simp append_assoc

-- ---- the log

log_group : (h r d e : List ℕ) → h ++ (r ++ (d ++ e)) ≡ h ++ r ++ d ++ e
log_group h r d e = simp append_assoc

log_prints : (said : Log) → InRanges said → Prints behind log (log_lines said.shift said.options said.domains) said
unfolding log run_row Derives fixed_need number_need signed_need plain_bytes plain_byte
log_prints said r =
    let os = options_print said.options r.options in
    let ds = runs_print 65 0 said.domains (omega arith) (omega arith) r.domains in
    let shift = shift_signed said.shift r.shift in
    let opened = spaced (said.options.greatest ∷ said.options.grading ∷ said.options.last ∷ []) in
    let row = line (codes "run") 10 refl (run_of (codes "run") (omega arith) refl) (both (one before 32 (signed_decimal said.shift) refl (signed_run 6 8 said.shift (omega arith) (omega arith) shift)) os.spelled) in
    let rest = derives_then options (λ opts. domains 65 0 >>= λ runs. Says (record { shift = said.shift; options = opts; domains = runs })) os.words (ds.words ++ []) said.options said os.derives
    (derives_then (domains 65 0) (λ runs. Says (record { shift = said.shift; options = said.options; domains = runs })) ds.words [] said.domains said ds.derives refl) in
    record {
      words = codes "netmeshlog" ∷ codes "1" ∷ codes "run" ∷ signed_decimal said.shift ∷ (os.words ++ ds.words);
      spelled = regrouped (log_group heading (run_row said.shift said.options) (flat_map domain_text said.domains) ending)
          (both heading_spelled (both (regrouped (run_group (signed_decimal said.shift) opened (limit_word said.options.limit)) row) ds.spelled));
      derives = (tt, refl, (1, refl, (tt, refl, (said.shift, signed_says 6 8 said.shift (omega arith) (omega arith) shift, subst (λ (ws : List Word). Derives (options >>= λ opts. domains 65 0 >>= λ runs. Says (record { shift = said.shift; options = opts; domains = runs })) (os.words ++ ws) said) (append-nil ds.words) rest))));
    }

pub read_again : (said : Log) → InRanges said → Reads (words_of (log_lines said.shift said.options said.domains)) said
read_again said r = let p = log_prints said r in subst (λ (ws : List Word). Reads ws said) (sym (words_spelled (log_lines said.shift said.options said.domains) p.words p.spelled)) p.derives
