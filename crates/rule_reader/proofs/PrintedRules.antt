-- What is printed is admitted, with the rules that were printed.
use Rattle.std.proofs.Common.{◌≡◌, ℕ, zero, suc, ◌+◌, ◌<◌, ◌≤◌, true, false, List, [], ◌∷◌, ◌++◌, length, codes, Option, Some, None, Result, Ok, Err, refl, sym, ap, subst, ◌∙◌, inr, arith, append_assoc}
use Rattle.std.specs.Prelude.{IfOk, unwrap_or}
use Rattle.std.specs.List.{flat_map, AllByRecursion}
use Rattle.std.specs.Fmt.{decimal}
use Rattle.std.proofs.lemmas.List.{append-nil}
use Rattle.rule_reader.specs.declared.rule.MapPoint.{MapPoint}
use Rattle.rule_reader.specs.declared.rule.MapLine.{MapLine}
use Rattle.rule_reader.specs.declared.rule.Place.{Place}
use Rattle.rule_reader.specs.declared.rule.Rule.{Rule}
use Rattle.rule_reader.specs.declared.sections.Parts.{Parts}
use Rattle.rule_reader.specs.declared.sections.SectionKind.{SectionKind}
use Rattle.rule_reader.specs.declared.sections.SectionKind.TheVariants as kind
use Rattle.rule_reader.specs.Words.{Tok, NameTok, words_of}
use Rattle.rule_reader.specs.Sections.{section_of, has, empty_parts, rule_of, rule_word, endrule_word}
use Rattle.rule_reader.specs.Grammar.{standard, Said, plain, words, ◌▹◌, done, either, many, at_most, name, map_point, map_line, place, pair, element, turn, section_word, content, section, sections, any_sections, rule_said, Fitting, whole_rule, tolfak, Admits}
use Rattle.rule_reader.specs.Normal.{map_point_text, map_line_text, place_text, pair_text, element_text, turn_text, section_text, sections_text, rule_text, normal_text, Names, IsMapPoint, IsMapLine, IsPlace, BeginsAtBase, IsRule, CanPrint}
use Rattle.rule_reader.proofs.Lexing.{lex, lex_end, words_are}
use Rattle.rule_reader.proofs.Prints.{Any, Ends, Prints, chain, respell, as_said, put_done, put_white, put_text, one_name, one_quality, is_word, lex_word, AllFrom, all_from, many_printed, at_most_printed, spelled_both}
use Rattle.rule_reader.proofs.PrintedEntries.{map_point_printed, map_line_printed, IsLineAt, place_printed, pair_printed, element_printed, IsElement, turn_printed}

-- ---- sections

section_word_printed : {m n : ℕ} (parts : Parts) (which : SectionKind) (word : List ℕ) → is_word word ≡ true → section_of word ≡ Some which → has which parts ≡ false → Prints m n Ends SectionKind (section_word parts) which word
unfolding section_word
section_word_printed parts which word is found fresh = record { said = plain (NameTok word) ∷ []; says = (word, refl, found, fresh); spelled = λ rest ends. lex_word word rest is ends; hits = (tt, tt) }

-- the sections that are still to come lead to these parts
abbrev Later : ℕ → ℕ → Parts → Parts → List ℕ → Type 0
Later m n parts final text = (count : ℕ) × Prints m n Any Parts (sections standard count parts) final text

no_more : {m n : ℕ} (parts : Parts) → Later m n parts parts []
unfolding sections
no_more parts = (0, put_done)

one_more : {m n : ℕ} (parts next final : Parts) (p q : List ℕ) → Prints m n Any Parts (section standard parts) next p → Later m n next final q → Later m n parts final (p ++ q)
unfolding sections
one_more parts next final p q first later = (suc later.0, chain _ p q first (λ rest f. f) later.1)

-- a section, or none without entries
given : {A : Type 0} → List A → Option (List A)
given [] = None
given (x ∷ xs) = Some (x ∷ xs)

given_back : {A : Type 0} (xs : List A) → unwrap_or (given xs) [] ≡ xs
unfolding given
given_back [] = refl
given_back (x ∷ xs) = refl

-- what a section of entries needs: its word, and that it sets the parts so
record IsListed (A : Type 0) (set : Option (List A) → Parts) (which : SectionKind) (word : List ℕ) (entry : ℕ → List Said → A → Type 0) (most : ℕ) : Type 0 where
  named : is_word word ≡ true
  found : section_of word ≡ Some which
  fresh : has which (set None) ≡ false
  set_so : (said : List Said) (v : Parts) → (at_most most entry ▹ λ x. done (set (Some x))) said v → content standard (set None) which said v

listed : {m n : ℕ} {A : Type 0} (set : Option (List A) → Parts) (which : SectionKind) (word : List ℕ) (entry : ℕ → List Said → A → Type 0) (most : ℕ) (text : A → List ℕ) (xs : List A) (final : Parts) (q : List ℕ)
    → IsListed A set which word entry most → length xs ≤ most → Prints m n Any (List A) (many entry 0) xs (flat_map text xs) → Later m n (set (given xs)) final q → Later m n (set None) final (section_text (word ++ 10 ∷ []) text xs ++ q)
unfolding given
listed set which word entry most text [] final q is le entries later = later
listed {m} {n} {A} set which word entry most text (x ∷ xs) final q is le entries later =
    let body = flat_map text (x ∷ xs) in
    let inner : Prints m n Any Parts (at_most most entry ▹ λ y. done (set (Some y))) (set (Some (x ∷ xs))) body = respell (append-nil body) (chain _ body [] (at_most_printed _ most le entries) (λ rest f. f) put_done) in
    let whole : Prints m n Any Parts (content standard (set None) which) (set (Some (x ∷ xs))) body = as_said (λ said. is.set_so said (set (Some (x ∷ xs)))) inner in
    let one : Prints m n Any Parts (section standard (set None)) (set (Some (x ∷ xs))) (word ++ (10 ∷ body)) = chain _ word (10 ∷ body) (section_word_printed (set None) which word is.named is.found is.fresh) (λ rest f. refl) (put_white 10 refl whole) in
    one_more (set None) (set (Some (x ∷ xs))) final ((word ++ 10 ∷ []) ++ body) q (respell (sym (append_assoc word (10 ∷ []) body)) one) later

quality_text : Rule → List ℕ
quality_text r = codes "quality " ++ (decimal r.quality ++ codes "\n")

quality_printed : {m n : ℕ} (k : ℕ) → k ≤ 1000 → Prints m n Any Parts (section standard empty_parts) (record empty_parts { quality = Some k }) (codes "quality " ++ (decimal k ++ codes "\n"))
unfolding is_word
quality_printed {m} {n} k le =
    let word : Prints m n Ends SectionKind (section_word empty_parts) kind.Quality (codes "quality") = section_word_printed empty_parts kind.Quality (codes "quality") refl refl refl in
    chain _ (codes "quality") (32 ∷ (decimal k ++ 10 ∷ [])) word (λ rest f. refl) (put_white 32 refl (chain _ (decimal k) (10 ∷ []) (one_quality k le) (λ rest f. refl) (put_white 10 refl put_done)))

-- ---- the parts that a rule has, section by section

abbrev with_quality : Rule → Parts
with_quality r = record empty_parts { quality = Some r.quality }

abbrev with_points : Rule → Option (List MapPoint) → Parts
with_points r o = record (with_quality r) { points = o }

abbrev with_lines : Rule → Option (List MapLine) → Parts
with_lines r o = record (with_points r (given r.points)) { lines = o }

abbrev with_new_points : Rule → Option (List Place) → Parts
with_new_points r o = record (with_lines r (given r.lines)) { new_points = o }

abbrev with_new_lines : Rule → Option (List (ℕ × ℕ)) → Parts
with_new_lines r o = record (with_new_points r (given r.new_points)) { new_lines = o }

abbrev with_area : Rule → Option (List Place) → Parts
with_area r o = record (with_new_lines r (given r.new_lines)) { area = o }

abbrev with_limit : Rule → Option (List Place) → Parts
with_limit r o = record (with_area r (given r.area)) { limit = o }

abbrev with_elements : Rule → Option (List (List ℕ)) → Parts
with_elements r o = record (with_limit r (given r.limit)) { elements = o }

abbrev with_turns : Rule → Option (List (ℕ × ℕ × ℕ)) → Parts
with_turns r o = record (with_elements r (given r.elements)) { turns = o }

abbrev all_parts : Rule → Parts
all_parts r = with_turns r (given r.turns)

points_listed : (r : Rule) → IsListed MapPoint (with_points r) kind.MapPoints (codes "mappoints") map_point 16
unfolding is_word
points_listed r = record { named = refl; found = refl; fresh = refl; set_so = λ said v h. h }

lines_listed : (r : Rule) → IsListed MapLine (with_lines r) kind.MapLines (codes "maplines") map_line 16
unfolding is_word
lines_listed r = record { named = refl; found = refl; fresh = refl; set_so = λ said v h. h }

new_points_listed : (r : Rule) → IsListed Place (with_new_points r) kind.NewPoints (codes "newpoints") (place standard) 8
unfolding is_word
new_points_listed r = record { named = refl; found = refl; fresh = refl; set_so = λ said v h. h }

new_lines_listed : (r : Rule) → IsListed (ℕ × ℕ) (with_new_lines r) kind.NewLines (codes "newlines") pair 24
unfolding is_word
new_lines_listed r = record { named = refl; found = refl; fresh = refl; set_so = λ said v h. h }

area_listed : (r : Rule) → IsListed Place (with_area r) kind.FreeArea (codes "freearea") (place standard) 24
unfolding is_word
area_listed r = record { named = refl; found = refl; fresh = refl; set_so = λ said v h. h }

limit_listed : (r : Rule) → IsListed Place (with_limit r) kind.FreeArea2 (codes "freearea2") (place standard) 24
unfolding is_word
limit_listed r = record { named = refl; found = refl; fresh = refl; set_so = λ said v h. h }

elements_listed : (r : Rule) → IsListed (List ℕ) (with_elements r) kind.Elements (codes "elements") element 8
unfolding is_word
elements_listed r = record { named = refl; found = refl; fresh = refl; set_so = λ said v h. h }

turns_listed : (r : Rule) → IsListed (ℕ × ℕ × ℕ) (with_turns r) kind.Orientations (codes "orientations") turn 16
unfolding is_word
turns_listed r = record { named = refl; found = refl; fresh = refl; set_so = λ said v h. h }

-- ---- the entries of each section

lines_from : (m k : ℕ) (ls : List MapLine) → 0 < k → AllByRecursion (IsMapLine m) ls → AllFrom (IsLineAt m) k ls
lines_from m k [] some all = tt
lines_from m zero (l ∷ ls) some all = absurd (omega (arith, some))
lines_from m (suc k) (l ∷ ls) some all = (all.0, lines_from m (suc k + 1) ls (omega arith) all.1)

all_lines : (m : ℕ) (ls : List MapLine) → AllByRecursion (IsMapLine m) ls → BeginsAtBase ls → AllFrom (IsLineAt m) 0 ls
all_lines m [] all base = absurd base
all_lines m (l ∷ ls) all base = ((all.0, base.0, base.1), lines_from m 1 ls (omega arith) all.1)

every : {m n : ℕ} {A : Type 0} (entry : ℕ → List Said → A → Type 0) (text : A → List ℕ) (P : A → Type 0) (xs : List A) → ((k : ℕ) (x : A) → P x → Prints m n Any A (entry k) x (text x)) → AllByRecursion P xs → Prints m n Any (List A) (many entry 0) xs (flat_map text xs)
every {m} {n} {A} entry text P xs each all = many_printed m n Any A entry text (λ k x. P x) each (λ x rest. tt) 0 xs (all_from P 0 xs all)

sections_printed : (r : Rule) → IsRule r → Later (length r.points) (length r.new_points) empty_parts (all_parts r) (quality_text r ++ sections_text r)
unfolding quality_text
sections_printed r is =
    let m = length r.points in
    let n = length r.new_points in
    let few : m ≤ 9999 = omega (arith, is.points.0) in
    let both : m + n ≤ 9999 = omega (arith, is.points.0, is.new_points.0) in
    let final = all_parts r in
    let points : Prints m n Any (List MapPoint) (many map_point 0) r.points (flat_map map_point_text r.points) = every map_point map_point_text IsMapPoint r.points map_point_printed is.points.1 in
    let lines : Prints m n Any (List MapLine) (many map_line 0) r.lines (flat_map map_line_text r.lines) = many_printed m n Any MapLine map_line map_line_text (IsLineAt m) (map_line_printed few) (λ x rest. tt) 0 r.lines (all_lines m r.lines is.lines.1 is.base) in
    let new_points : Prints m n Any (List Place) (many (place standard) 0) r.new_points (flat_map place_text r.new_points) = every (place standard) place_text (IsPlace m) r.new_points (place_printed few) is.new_points.1 in
    let new_lines : Prints m n Any (List (ℕ × ℕ)) (many pair 0) r.new_lines (flat_map pair_text r.new_lines) = every pair pair_text (λ l. Names (m + n) l.0 × Names (m + n) l.1) r.new_lines (pair_printed both) is.new_lines.1 in
    let area : Prints m n Any (List Place) (many (place standard) 0) r.area (flat_map place_text r.area) = every (place standard) place_text (IsPlace m) r.area (place_printed few) is.area.1 in
    let limit : Prints m n Any (List Place) (many (place standard) 0) r.limit (flat_map place_text r.limit) = every (place standard) place_text (IsPlace m) r.limit (place_printed few) is.limit.1 in
    let elements : Prints m n Any (List (List ℕ)) (many element 0) r.elements (flat_map element_text r.elements) = every element element_text (IsElement (m + n)) r.elements (element_printed both) is.elements.1 in
    let turns : Prints m n Any (List (ℕ × ℕ × ℕ)) (many turn 0) r.turns (flat_map turn_text r.turns) = every turn turn_text (λ t. Names m t.0 × Names m t.1 × Names m t.2) r.turns (turn_printed few) is.turns.1 in
    let t8 = section_text (codes "orientations\n") turn_text r.turns in
    let t7 = section_text (codes "elements\n") element_text r.elements ++ t8 in
    let t6 = section_text (codes "freearea2\n") place_text r.limit ++ t7 in
    let t5 = section_text (codes "freearea\n") place_text r.area ++ t6 in
    let t4 = section_text (codes "newlines\n") pair_text r.new_lines ++ t5 in
    let t3 = section_text (codes "newpoints\n") place_text r.new_points ++ t4 in
    let t2 = section_text (codes "maplines\n") map_line_text r.lines ++ t3 in
    let t1 = section_text (codes "mappoints\n") map_point_text r.points ++ t2 in
    let s8 : Later m n (with_turns r None) final (t8 ++ []) = listed (with_turns r) kind.Orientations (codes "orientations") turn 16 turn_text r.turns final [] (turns_listed r) is.turns.0 turns (no_more final) in
    let e8 : Later m n (with_turns r None) final t8 = subst (λ (t : List ℕ). Later m n (with_turns r None) final t) (append-nil t8) s8 in
    let s7 : Later m n (with_elements r None) final t7 = listed (with_elements r) kind.Elements (codes "elements") element 8 element_text r.elements final t8 (elements_listed r) is.elements.0 elements e8 in
    let s6 : Later m n (with_limit r None) final t6 = listed (with_limit r) kind.FreeArea2 (codes "freearea2") (place standard) 24 place_text r.limit final t7 (limit_listed r) is.limit.0 limit s7 in
    let s5 : Later m n (with_area r None) final t5 = listed (with_area r) kind.FreeArea (codes "freearea") (place standard) 24 place_text r.area final t6 (area_listed r) is.area.0 area s6 in
    let s4 : Later m n (with_new_lines r None) final t4 = listed (with_new_lines r) kind.NewLines (codes "newlines") pair 24 pair_text r.new_lines final t5 (new_lines_listed r) is.new_lines.0 new_lines s5 in
    let s3 : Later m n (with_new_points r None) final t3 = listed (with_new_points r) kind.NewPoints (codes "newpoints") (place standard) 8 place_text r.new_points final t4 (new_points_listed r) is.new_points.0 new_points s4 in
    let s2 : Later m n (with_lines r None) final t2 = listed (with_lines r) kind.MapLines (codes "maplines") map_line 16 map_line_text r.lines final t3 (lines_listed r) is.lines.0 lines s3 in
    let s1 : Later m n (with_points r None) final t1 = listed (with_points r) kind.MapPoints (codes "mappoints") map_point 16 map_point_text r.points final t2 (points_listed r) is.points.0 points s2 in
    one_more empty_parts (with_quality r) final (quality_text r) t1 (quality_printed r.quality is.quality) s1

-- ---- a rule

parts_back : (r : Rule) → rule_of r.name (all_parts r) ≡ r
parts_back r = rw (given_back r.points, given_back r.lines, given_back r.new_points, given_back r.new_lines, given_back r.area, given_back r.limit, given_back r.elements, given_back r.turns) refl

rule_is : (name a s e : List ℕ) → codes "rule " ++ (34 ∷ (name ++ 34 ∷ (10 ∷ ((a ++ s) ++ e)))) ≡ (codes "rule \"" ++ (name ++ (codes "\"\n" ++ a))) ++ (s ++ e)
rule_is name a s e =
    let inner : (a ++ s) ++ e ≡ a ++ (s ++ e) = append_assoc a s e in
    let both : name ++ (34 ∷ 10 ∷ ((a ++ s) ++ e)) ≡ (name ++ (34 ∷ 10 ∷ a)) ++ (s ++ e) = ap (λ (t : List ℕ). name ++ (34 ∷ 10 ∷ t)) inner ∙ sym (append_assoc name (34 ∷ 10 ∷ a) (s ++ e)) in
    ap (λ (t : List ℕ). codes "rule \"" ++ t) both

rule_printed : (r : Rule) → IsRule r → Prints (length r.points) (length r.new_points) Any Rule (rule_said standard) r (rule_text r)
unfolding any_sections is_word quality_text
rule_printed r is =
    let m = length r.points in
    let n = length r.new_points in
    let s = sections_printed r is in
    let body = quality_text r ++ sections_text r in
    let last = codes "endrule\n" in
    let inside : Prints m n Any Parts (any_sections standard) (all_parts r) body = record { said = s.1.said; says = (s.0, s.1.says); spelled = s.1.spelled; hits = s.1.hits } in
    let end : Prints m n Any Rule (name endrule_word ▹ λ b. done (rule_of r.name (all_parts r))) (rule_of r.name (all_parts r)) last = chain _ (codes "endrule") (10 ∷ []) (one_name endrule_word refl) (λ rest f. refl) (put_white 10 refl put_done) in
    let whole : Prints m n Any Rule (rule_said standard) (rule_of r.name (all_parts r)) (codes "rule " ++ (34 ∷ (r.name ++ 34 ∷ (10 ∷ (body ++ last))))) =
    chain _ (codes "rule") (32 ∷ (34 ∷ (r.name ++ 34 ∷ (10 ∷ (body ++ last))))) (one_name rule_word refl) (λ rest f. refl) (put_white 32 refl (put_text _ r.name is.short is.name (put_white 10 refl (chain _ body last inside (λ rest f. f) end)))) in
    subst (λ (v : Rule). Prints m n Any Rule (rule_said standard) v (rule_text r)) (parts_back r) (respell (rule_is r.name (quality_text r) (sections_text r) last) whole)

some_lines : (ls : List MapLine) → BeginsAtBase ls → 0 < length ls
some_lines [] base = absurd base
some_lines (l ∷ ls) base = omega arith

-- ---- a file

record AllPrinted (k : ℕ) (rules : List Rule) : Type 0 where
  said : List Said
  says : many whole_rule k said rules
  spelled : (rest : List ℕ) → Any rest → lex (normal_text rules ++ rest) ≡ words said ++ lex rest

rules_printed : (k : ℕ) (rules : List Rule) → AllByRecursion IsRule rules → AllPrinted k rules
unfolding many whole_rule
rules_printed k [] all = record { said = []; says = refl; spelled = λ rest f. refl }
rules_printed k (r ∷ rules) all =
    let a = rule_printed r all.0 in
    let b = rules_printed (k + 1) rules all.1 in
    let fits : Fitting a.said r = record { indices = a.hits; lines = some_lines r.lines all.0.base; starts = all.0.starts } in
    record {
      said = a.said ++ b.said;
      says = (a.said, b.said, (a.says, fits), b.says, refl);
      spelled = spelled_both Any Any (rule_text r) (normal_text rules) a.said b.said a.spelled (λ rest f. f) b.spelled;
    }

no_tolfak : tolfak [] tt
unfolding either done
no_tolfak = inr (refl, refl)

pub admitted_again : (rules : List Rule) → CanPrint rules → Admits (words_of (normal_text rules)) rules
unfolding ◌▹◌ at_most
admitted_again rules can =
    let a = rules_printed 0 rules can.1 in
    let text = normal_text rules in
    let read : lex (text ++ []) ≡ words a.said ++ lex [] = a.spelled [] tt in
    let same : words a.said ≡ words_of text = sym (append-nil (words a.said)) ∙ ap (λ (ts : List Tok). words a.said ++ ts) (sym lex_end) ∙ sym read ∙ ap lex (append-nil text) ∙ sym (words_are text) in
    (a.said, same, (tt, [], a.said, no_tolfak, (a.says, can.0), refl))

pub is_again : {A E : Type 0} (items : A → List ℕ) (r : Result A E) (rules : List Rule) → CanPrint rules → IfOk r (λ text. items text ≡ normal_text rules) → IfOk r (λ text. Admits (words_of (items text)) rules)
is_again items (Ok text) rules can e = subst (λ (bytes : List ℕ). Admits (words_of bytes) rules) (sym e) (admitted_again rules can)
is_again items (Err e) rules can h = tt
