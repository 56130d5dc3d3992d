-- The labels of a rule's points count the parts of its graph.
use Rattle.std.proofs.Common.{◌≡◌, ℕ, zero, suc, ◌+◌, ◌<◌, ◌≤◌, Bool, true, false, cond, eqb, ltb, eq-eqb, List, [], ◌∷◌, ◌++◌, length, length-append, map, refl, sym, ap, subst, ◌∙◌, inl, inr, ◌⊎◌, append_assoc, arith}
use Rattle.std.specs.Prelude.{fold, slice_index}
use Rattle.std.specs.List.{AllByRecursion}
use Rattle.std.proofs.lemmas.Bool.{eqb-true, eqb-false, ltb-true, ltb-false, ne_eqb}
use Rattle.std.proofs.lemmas.List.{append-nil, length-map, get_or-map}
use Rattle.std.proofs.Math.ListN.{get_or-append}
use Rattle.std.proofs.Math.Seq.{get_or-append_seam}
use Rattle.rule_reader.specs.declared.rule.MapLine.{MapLine}
use Rattle.rule_reader.specs.Verdict.{relabelled, joined, numbers_below, labels, own, own_below, loose_starts}
use Rattle.rule_reader.specs.Graph.{HasOne, Linked, IsWalk, Joined, IsPoint, HasEnds, Apart, OneOfEach}

-- ---- joined points

one_in : {A : Type 0} (P Q : A → Type 0) → ((x : A) → P x → Q x) → (xs : List A) → HasOne P xs → HasOne Q xs
one_in P Q there [] h = h
one_in P Q there (x ∷ xs) (inl p) = inl (there x p)
one_in P Q there (x ∷ xs) (inr h) = inr (one_in P Q there xs h)

one_front : {A : Type 0} (P : A → Type 0) (xs ys : List A) → HasOne P xs → HasOne P (xs ++ ys)
one_front P [] ys h = absurd h
one_front P (x ∷ xs) ys (inl p) = inl p
one_front P (x ∷ xs) ys (inr h) = inr (one_front P xs ys h)

one_last : {A : Type 0} (P : A → Type 0) (xs : List A) (y : A) → P y → HasOne P (xs ++ y ∷ [])
one_last P [] y p = inl p
one_last P (x ∷ xs) y p = inr (one_last P xs y p)

linked_back : (lines : List MapLine) (a b : ℕ) → Linked lines a b → Linked lines b a
linked_back lines a b = one_in (λ line. ((line.i ≡ a) × (line.j ≡ b)) ⊎ ((line.i ≡ b) × (line.j ≡ a))) (λ line. ((line.i ≡ b) × (line.j ≡ a)) ⊎ ((line.i ≡ a) × (line.j ≡ b))) (λ line l. elim l [ inl p ↦ inr p | inr p ↦ inl p ]) lines

walk_on : (lines : List MapLine) (points : List ℕ) (a b c : ℕ) → IsWalk lines a points b → Joined lines b c → Joined lines a c
walk_on lines [] a b c w j = subst (λ (x : ℕ). Joined lines x c) (sym w) j
walk_on lines (p ∷ points) a b c w j = let on = walk_on lines points p b c w.1 j in (p ∷ on.0, (w.0, on.1))

joined_on : (lines : List MapLine) (a b c : ℕ) → Joined lines a b → Joined lines b c → Joined lines a c
joined_on lines a b c i j = walk_on lines i.0 a b c i.1 j

walk_back : (lines : List MapLine) (points : List ℕ) (a b : ℕ) → IsWalk lines a points b → Joined lines b a
walk_back lines [] a b w = ([], sym w)
walk_back lines (p ∷ points) a b w = joined_on lines b p a (walk_back lines points p b w.1) (a ∷ [], (linked_back lines a p w.0, refl))

joined_back : (lines : List MapLine) (a b : ℕ) → Joined lines a b → Joined lines b a
joined_back lines a b j = walk_back lines j.0 a b j.1

walk_more : (lines more : List MapLine) (points : List ℕ) (a b : ℕ) → IsWalk lines a points b → IsWalk (lines ++ more) a points b
walk_more lines more [] a b w = w
walk_more lines more (p ∷ points) a b w = (one_front _ lines more w.0, walk_more lines more points p b w.1)

joined_more : (lines more : List MapLine) (a b : ℕ) → Joined lines a b → Joined (lines ++ more) a b
joined_more lines more a b j = (j.0, walk_more lines more j.0 a b j.1)

joined_last : (lines : List MapLine) (line : MapLine) → Joined (lines ++ line ∷ []) line.i line.j
joined_last lines line = (line.j ∷ [], (one_last _ lines line (inl (refl, refl)), refl))

-- no line leads to 0
linked_past : (count : ℕ) (lines : List MapLine) (a b : ℕ) → AllByRecursion (HasEnds count) lines → Linked lines a b → 0 < b
linked_past count [] a b all l = absurd l
linked_past count (line ∷ lines) a b all (inl (inl e)) = subst (λ (x : ℕ). 0 < x) e.1 all.0.1.0
linked_past count (line ∷ lines) a b all (inl (inr e)) = subst (λ (x : ℕ). 0 < x) e.0 all.0.0.0
linked_past count (line ∷ lines) a b all (inr l) = linked_past count lines a b all.1 l

walk_past : (count : ℕ) (lines : List MapLine) (points : List ℕ) (a b : ℕ) → AllByRecursion (HasEnds count) lines → 0 < a → IsWalk lines a points b → 0 < b
walk_past count lines [] a b all some w = subst (λ (x : ℕ). 0 < x) w some
walk_past count lines (p ∷ points) a b all some w = walk_past count lines points p b all (linked_past count lines a p all w.0) w.1

zero_alone : (count : ℕ) (lines : List MapLine) (a : ℕ) → AllByRecursion (HasEnds count) lines → 0 < a → Joined lines a 0 → ⊥
zero_alone count lines a all some j = let no : 0 < 0 = walk_past count lines j.0 a 0 all some j.1 in omega arith

-- ---- labels

label : List ℕ → ℕ → ℕ
label ls i = slice_index ls i

-- points of one part have one label, and the label is one of them
record Tells (count : ℕ) (lines : List MapLine) (ls : List ℕ) : Type 0 where
  len : length ls ≡ count
  small : (i : ℕ) → i < count → slice_index ls i < count
  itself : (i : ℕ) → i < count → slice_index ls (slice_index ls i) ≡ slice_index ls i
  ends : AllByRecursion (λ line. slice_index ls line.i ≡ slice_index ls line.j) lines
  sound : (i j : ℕ) → i < count → j < count → slice_index ls i ≡ slice_index ls j → Joined lines i j

below_length : (n : ℕ) → length (numbers_below n) ≡ n
below_length zero = refl
below_length (suc n) = length-append (numbers_below n) (n ∷ []) ∙ omega (arith, below_length n)

below_by : (n i : ℕ) (b : Bool) → ltb i n ≡ b → i < suc n → (i < n → slice_index (numbers_below n) i ≡ i) → slice_index (numbers_below n ++ n ∷ []) i ≡ i
below_by n i true t few others =
    let less : i < n = ltb-true i n t in
    get_or-append (numbers_below n) (n ∷ []) 0 i (omega (arith, below_length n)) ∙ others less
below_by n i false t few others =
    let same : i ≡ n = omega (arith, ltb-false i n t) in
    let place : i ≡ length (numbers_below n) = same ∙ sym (below_length n) in
    ap (λ (k : ℕ). slice_index (numbers_below n ++ n ∷ []) k) place ∙ get_or-append_seam (numbers_below n) n [] 0 ∙ sym same

below_at : (n i : ℕ) → i < n → slice_index (numbers_below n) i ≡ i
below_at zero i few = absurd (omega arith)
below_at (suc n) i few = below_by n i (ltb i n) refl few (below_at n i)

begins : (count : ℕ) → Tells count [] (numbers_below count)
begins count =
    record {
      len = below_length count;
      small = λ i few. subst (λ (x : ℕ). x < count) (sym (below_at count i few)) few;
      itself = λ i few. ap (slice_index (numbers_below count)) (below_at count i few);
      ends = tt;
      sound = λ i j few few2 e. ([], sym (below_at count i few) ∙ e ∙ below_at count j few2);
    }

-- what a line makes of a label
abbrev moved : ℕ → ℕ → ℕ → ℕ
moved from to x = cond (eqb x from) to x

moved_by : (from to x : ℕ) (b : Bool) → eqb x from ≡ b → ((x ≡ from) × (moved from to x ≡ to)) ⊎ ((x ≡ from → ⊥) × (moved from to x ≡ x))
moved_by from to x true t = inl (eqb-true x from t, rw t refl)
moved_by from to x false t = inr (eqb-false x from t, rw t refl)

moved_is : (from to x : ℕ) → ((x ≡ from) × (moved from to x ≡ to)) ⊎ ((x ≡ from → ⊥) × (moved from to x ≡ x))
moved_is from to x = moved_by from to x (eqb x from) refl

moved_from : (from to : ℕ) → moved from to from ≡ to
moved_from from to = rw (eq-eqb from from refl) refl

moved_to : (from to : ℕ) → moved from to to ≡ to
moved_to from to = elim (moved_is from to to) [ inl a ↦ a.1 | inr a ↦ a.1 ]

moved_at : (from to : ℕ) (ls : List ℕ) (i : ℕ) → i < length ls → slice_index (relabelled from to ls) i ≡ moved from to (slice_index ls i)
moved_at from to ls i few = get_or-map (moved from to) ls i 0 0 few

moved_small : (count from to x : ℕ) → to < count → x < count → moved from to x < count
moved_small count from to x a b = elim (moved_is from to x) [ inl e ↦ subst (λ (y : ℕ). y < count) (sym e.1) a | inr e ↦ subst (λ (y : ℕ). y < count) (sym e.1) b ]

-- a line more
module _ (count : ℕ) (lines : List MapLine) (ls : List ℕ) (line : MapLine) (t : Tells count lines ls) (one : line.i < count) (two : line.j < count) where
  abbrev from : ℕ
  from = slice_index ls line.i

  abbrev to : ℕ
  to = slice_index ls line.j

  abbrev next : List ℕ
  next = joined ls line

  at : (i : ℕ) → i < count → slice_index next i ≡ moved from to (slice_index ls i)
  at i few = moved_at from to ls i (subst (λ (n : ℕ). i < n) (sym t.len) few)

  itself_by : (i : ℕ) → i < count → ((slice_index ls i ≡ from) × (moved from to (slice_index ls i) ≡ to)) ⊎ ((slice_index ls i ≡ from → ⊥) × (moved from to (slice_index ls i) ≡ slice_index ls i)) → slice_index next (slice_index next i) ≡ slice_index next i
  itself_by i few (inl e) =
      let here : slice_index next i ≡ to = at i few ∙ e.1 in
      ap (slice_index next) here ∙ at to (t.small line.j two) ∙ ap (moved from to) (t.itself line.j two) ∙ moved_to from to ∙ sym here
  itself_by i few (inr e) =
      let here : slice_index next i ≡ slice_index ls i = at i few ∙ e.1 in
      ap (slice_index next) here ∙ at (slice_index ls i) (t.small i few) ∙ ap (moved from to) (t.itself i few) ∙ e.1 ∙ sym here

  ends_on : (some : List MapLine) → AllByRecursion (λ l. (l.i < count) × (l.j < count)) some → AllByRecursion (λ l. slice_index ls l.i ≡ slice_index ls l.j) some → AllByRecursion (λ l. slice_index next l.i ≡ slice_index next l.j) (some ++ line ∷ [])
  ends_on [] all same = (at line.i one ∙ moved_from from to ∙ sym (at line.j two ∙ moved_to from to), tt)
  ends_on (l ∷ some) all same = (at l.i all.0.0 ∙ ap (moved from to) same.0 ∙ sym (at l.j all.0.1), ends_on some all.1 same.1)

  old : (i j : ℕ) → i < count → j < count → slice_index ls i ≡ slice_index ls j → Joined (lines ++ line ∷ []) i j
  old i j few few2 e = joined_more lines (line ∷ []) i j (t.sound i j few few2 e)

  abbrev Moves : ℕ → Type 0
  Moves x = ((x ≡ from) × (moved from to x ≡ to)) ⊎ ((x ≡ from → ⊥) × (moved from to x ≡ x))

  across : (i j : ℕ) → i < count → j < count → slice_index ls i ≡ from → slice_index ls j ≡ to → Joined (lines ++ line ∷ []) i j
  across i j few few2 a b = joined_on (lines ++ line ∷ []) i line.i j (old i line.i few one a) (joined_on (lines ++ line ∷ []) line.i line.j j (joined_last lines line) (old line.j j two few2 (sym b)))

  sound_by : (i j : ℕ) → i < count → j < count → moved from to (slice_index ls i) ≡ moved from to (slice_index ls j) → Moves (slice_index ls i) → Moves (slice_index ls j) → Joined (lines ++ line ∷ []) i j
  sound_by i j few few2 e (inl a) (inl b) = old i j few few2 (a.0 ∙ sym b.0)
  sound_by i j few few2 e (inl a) (inr b) = across i j few few2 a.0 (sym (sym a.1 ∙ e ∙ b.1))
  sound_by i j few few2 e (inr a) (inl b) = joined_back (lines ++ line ∷ []) j i (across j i few2 few b.0 (sym a.1 ∙ e ∙ b.1))
  sound_by i j few few2 e (inr a) (inr b) = old i j few few2 (sym a.1 ∙ e ∙ b.1)

  tells_more : AllByRecursion (λ l. (l.i < count) × (l.j < count)) lines → Tells count (lines ++ line ∷ []) next
  tells_more all =
      record {
        len = length-map ls (moved from to) ∙ t.len;
        small = λ i few. subst (λ (x : ℕ). x < count) (sym (at i few)) (moved_small count from to (slice_index ls i) (t.small line.j two) (t.small i few));
        itself = λ i few. itself_by i few (moved_is from to (slice_index ls i));
        ends = ends_on lines all t.ends;
        sound = λ i j few few2 e. sound_by i j few few2 (sym (at i few) ∙ e ∙ at j few2) (moved_is from to (slice_index ls i)) (moved_is from to (slice_index ls j));
      }

abbrev Inside : ℕ → MapLine → Type 0
Inside count l = (l.i < count) × (l.j < count)

inside_more : (count : ℕ) (lines : List MapLine) (line : MapLine) → AllByRecursion (Inside count) lines → Inside count line → AllByRecursion (Inside count) (lines ++ line ∷ [])
inside_more count [] line all here = (here, tt)
inside_more count (l ∷ lines) line all here = (all.0, inside_more count lines line all.1 here)

all_told : (count : ℕ) (lines before : List MapLine) (ls : List ℕ) → AllByRecursion (Inside count) before → AllByRecursion (Inside count) lines → Tells count before ls → Tells count (before ++ lines) (fold joined ls lines)
all_told count [] before ls past all t = subst (λ (x : List MapLine). Tells count x ls) (sym (append-nil before)) t
all_told count (line ∷ lines) before ls past all t =
    subst (λ (x : List MapLine). Tells count x (fold joined (joined ls line) lines)) (append_assoc before (line ∷ []) lines)
    (all_told count lines (before ++ line ∷ []) (joined ls line) (inside_more count before line past all.0) all.1 (tells_more count before ls line t all.0.0 all.0.1 past))

insides : (points : ℕ) (lines : List MapLine) → AllByRecursion (HasEnds points) lines → AllByRecursion (Inside (points + 1)) lines
insides points [] all = tt
insides points (line ∷ lines) all = ((omega (arith, all.0.0.1), omega (arith, all.0.1.1)), insides points lines all.1)

labels_tell : (points : ℕ) (lines : List MapLine) → AllByRecursion (HasEnds points) lines → Tells (points + 1) lines (labels points lines)
labels_tell points lines all = all_told (points + 1) lines [] (numbers_below (points + 1)) tt (insides points lines all) (begins (points + 1))

-- joined points have one label
linked_label : (lines : List MapLine) (ls : List ℕ) (a b : ℕ) → AllByRecursion (λ line. slice_index ls line.i ≡ slice_index ls line.j) lines → Linked lines a b → slice_index ls a ≡ slice_index ls b
linked_label [] ls a b same l = absurd l
linked_label (line ∷ lines) ls a b same (inl (inl e)) = ap (slice_index ls) (sym e.0) ∙ same.0 ∙ ap (slice_index ls) e.1
linked_label (line ∷ lines) ls a b same (inl (inr e)) = ap (slice_index ls) (sym e.1) ∙ sym same.0 ∙ ap (slice_index ls) e.0
linked_label (line ∷ lines) ls a b same (inr l) = linked_label lines ls a b same.1 l

walk_label : (lines : List MapLine) (ls points : List ℕ) (a b : ℕ) → AllByRecursion (λ line. slice_index ls line.i ≡ slice_index ls line.j) lines → IsWalk lines a points b → slice_index ls a ≡ slice_index ls b
walk_label lines ls [] a b same w = ap (slice_index ls) w
walk_label lines ls (p ∷ points) a b same w = linked_label lines ls a p same w.0 ∙ walk_label lines ls points p b same w.1

-- ---- counting

one_if : Bool → ℕ
one_if true = 1
one_if false = 0

-- how often a number is in a list
times : ℕ → List ℕ → ℕ
times n [] = 0
times n (x ∷ xs) = one_if (eqb x n) + times n xs

sum_below : (ℕ → ℕ) → ℕ → ℕ
sum_below f zero = 0
sum_below f (suc n) = sum_below f n + f n

sum_nothing : (n : ℕ) → sum_below (λ k. 0) n ≡ 0
unfolding sum_below
sum_nothing zero = refl
sum_nothing (suc n) = omega (arith, sum_nothing n)

sum_both : (f g : ℕ → ℕ) (n : ℕ) → sum_below (λ k. f k + g k) n ≡ sum_below f n + sum_below g n
unfolding sum_below
sum_both f g zero = refl
sum_both f g (suc n) = omega (arith, sum_both f g n)

not_one : (x n : ℕ) → (x ≡ n → ⊥) → one_if (eqb x n) ≡ 0
unfolding one_if
not_one x n h = ap one_if (ne_eqb x n h)

is_one : (x n : ℕ) → x ≡ n → one_if (eqb x n) ≡ 1
unfolding one_if
is_one x n e = ap one_if (eq-eqb x n e)

sum_none : (x n : ℕ) → n ≤ x → sum_below (λ k. one_if (eqb x k)) n ≡ 0
unfolding sum_below
sum_none x zero h = refl
sum_none x (suc n) h =
    let here : one_if (eqb x n) ≡ 0 = not_one x n (λ e. omega arith) in
    let before : sum_below (λ k. one_if (eqb x k)) n ≡ 0 = sum_none x n (omega arith) in
    omega (arith, here, before)

sum_one_by : (x n : ℕ) (b : Bool) → ltb x n ≡ b → x < suc n → (x < n → sum_below (λ k. one_if (eqb x k)) n ≡ 1) → sum_below (λ k. one_if (eqb x k)) (suc n) ≡ 1
unfolding sum_below
sum_one_by x n true t few others =
    let less : x < n = ltb-true x n t in
    let here : one_if (eqb x n) ≡ 0 = not_one x n (λ e. omega arith) in
    let before : sum_below (λ k. one_if (eqb x k)) n ≡ 1 = others less in
    omega (arith, here, before)
sum_one_by x n false t few others =
    let same : x ≡ n = omega (arith, ltb-false x n t) in
    let here : one_if (eqb x n) ≡ 1 = is_one x n same in
    let before : sum_below (λ k. one_if (eqb x k)) n ≡ 0 = sum_none x n (omega arith) in
    omega (arith, here, before)

sum_one : (x n : ℕ) → x < n → sum_below (λ k. one_if (eqb x k)) n ≡ 1
sum_one x zero few = absurd (omega arith)
sum_one x (suc n) few = sum_one_by x n (ltb x n) refl few (sum_one x n)

sum_times : (xs : List ℕ) (n : ℕ) → AllByRecursion (λ x. x < n) xs → sum_below (λ k. times k xs) n ≡ length xs
unfolding times
sum_times [] n all = sum_nothing n
sum_times (x ∷ xs) n all =
    let both : sum_below (λ k. one_if (eqb x k) + times k xs) n ≡ sum_below (λ k. one_if (eqb x k)) n + sum_below (λ k. times k xs) n = sum_both (λ k. one_if (eqb x k)) (λ k. times k xs) n in
    both ∙ omega (arith, sum_one x n all.0, sum_times xs n all.1)

sum_own : (f : ℕ → ℕ) (ls : List ℕ) (n : ℕ) → ((k : ℕ) → k < n → f k ≡ own ls k) → sum_below f n ≡ own_below ls n
unfolding sum_below
sum_own f ls zero same = refl
sum_own f ls (suc n) same = omega (arith, sum_own f ls n (λ k few. same k (omega arith)), same n (omega arith))

-- ---- one point of each part

-- no two have one label
abbrev Differ : List ℕ → List ℕ → Type 0
Differ ls [] = Unit {0}
Differ ls (p ∷ ps) = AllByRecursion (λ q. slice_index ls p ≡ slice_index ls q → ⊥) ps × Differ ls ps

none_there : (ls ps : List ℕ) (n : ℕ) → AllByRecursion (λ p. slice_index ls p ≡ n → ⊥) ps → times n (map (slice_index ls) ps) ≡ 0
unfolding times
none_there ls [] n all = refl
none_there ls (p ∷ ps) n all = omega (arith, not_one (slice_index ls p) n all.0, none_there ls ps n all.1)

others_differ : (ls ps : List ℕ) (x n : ℕ) → x ≡ n → AllByRecursion (λ q. x ≡ slice_index ls q → ⊥) ps → AllByRecursion (λ q. slice_index ls q ≡ n → ⊥) ps
others_differ ls [] x n e all = tt
others_differ ls (p ∷ ps) x n e all = (λ same. all.0 (e ∙ sym same), others_differ ls ps x n e all.1)

not_first : (ls ps : List ℕ) (x n : ℕ) → AllByRecursion (λ q. x ≡ slice_index ls q → ⊥) ps → HasOne (λ q. slice_index ls q ≡ n) ps → x ≡ n → ⊥
not_first ls [] x n all h e = h
not_first ls (p ∷ ps) x n all (inl here) e = all.0 (e ∙ sym here)
not_first ls (p ∷ ps) x n all (inr h) e = not_first ls ps x n all.1 h e

once_there : (ls ps : List ℕ) (n : ℕ) → Differ ls ps → HasOne (λ p. slice_index ls p ≡ n) ps → times n (map (slice_index ls) ps) ≡ 1
unfolding times
once_there ls [] n differ h = absurd h
once_there ls (p ∷ ps) n differ (inl e) = omega (arith, is_one (slice_index ls p) n e, none_there ls ps n (others_differ ls ps (slice_index ls p) n e differ.0))
once_there ls (p ∷ ps) n differ (inr h) = omega (arith, not_one (slice_index ls p) n (not_first ls ps (slice_index ls p) n differ.0 h), once_there ls ps n differ.1 h)

all_in : {A : Type 0} (P Q : A → Type 0) → ((x : A) → P x → Q x) → (xs : List A) → AllByRecursion P xs → AllByRecursion Q xs
all_in P Q there [] all = tt
all_in P Q there (x ∷ xs) all = (there x all.0, all_in P Q there xs all.1)

all_both : {A : Type 0} (P Q R : A → Type 0) → ((x : A) → P x → Q x → R x) → (xs : List A) → AllByRecursion P xs → AllByRecursion Q xs → AllByRecursion R xs
all_both P Q R there [] all more = tt
all_both P Q R there (x ∷ xs) all more = (there x all.0 more.0, all_both P Q R there xs all.1 more.1)

all_map : (ls ps : List ℕ) (n : ℕ) → AllByRecursion (λ p. slice_index ls p < n) ps → AllByRecursion (λ x. x < n) (map (slice_index ls) ps)
all_map ls [] n all = tt
all_map ls (p ∷ ps) n all = (all.0, all_map ls ps n all.1)

inside : (points p : ℕ) → IsPoint points p → p < points + 1
inside points p h = omega (arith, h.1)

differ_in : (points : ℕ) (lines : List MapLine) (ls ps : List ℕ) → Tells (points + 1) lines ls → AllByRecursion (IsPoint points) ps → Apart lines ps → Differ ls ps
differ_in points lines ls [] t all apart = tt
differ_in points lines ls (p ∷ ps) t all apart =
    (all_both (IsPoint points) (λ q. Joined lines p q → ⊥) (λ q. slice_index ls p ≡ slice_index ls q → ⊥) (λ q point no same. no (t.sound p q (inside points p all.0) (inside points q point) same)) ps all.1 apart.0, differ_in points lines ls ps t all.1 apart.1)

own_by : (ls : List ℕ) (n : ℕ) → (slice_index ls n ≡ n) → own ls n ≡ 1
own_by ls n e = rw (eq-eqb (slice_index ls n) n e) refl

own_none : (ls : List ℕ) (n : ℕ) → (slice_index ls n ≡ n → ⊥) → own ls n ≡ 0
own_none ls n h = rw (ne_eqb (slice_index ls n) n h) refl

zero_label : (points : ℕ) (lines : List MapLine) (ls : List ℕ) → Tells (points + 1) lines ls → AllByRecursion (HasEnds points) lines → slice_index ls 0 ≡ 0
zero_label points lines ls t all = by_size (slice_index ls 0) refl
  where
    by_size : (x : ℕ) → slice_index ls 0 ≡ x → x ≡ 0
    by_size zero e = refl
    by_size (suc x) e =
        let few : 0 < points + 1 = omega arith in
        let small : suc x < points + 1 = subst (λ (y : ℕ). y < points + 1) e (t.small 0 few) in
        let same : slice_index ls (suc x) ≡ slice_index ls 0 = ap (slice_index ls) (sym e) ∙ t.itself 0 few in
        absurd (zero_alone points lines (suc x) all (omega arith) (t.sound (suc x) 0 small few same))

times_zero : (points : ℕ) (lines : List MapLine) (ls starts : List ℕ) → Tells (points + 1) lines ls → AllByRecursion (HasEnds points) lines → AllByRecursion (IsPoint points) starts → times 0 (0 ∷ map (slice_index ls) starts) ≡ own ls 0
unfolding times
times_zero points lines ls starts t all within =
    let none = all_in (IsPoint points) (λ p. slice_index ls p ≡ 0 → ⊥) (λ p point e. zero_alone points lines p all point.0 (t.sound p 0 (inside points p point) (omega arith) (e ∙ sym (zero_label points lines ls t all)))) starts within in
    omega (arith, is_one 0 0 refl, none_there ls starts 0 none, own_by ls 0 (zero_label points lines ls t all))

times_by : (points : ℕ) (lines : List MapLine) (ls starts : List ℕ) → Tells (points + 1) lines ls → OneOfEach points lines starts → (n : ℕ) (b : Bool) → IsPoint points n → eqb (slice_index ls n) n ≡ b → times n (0 ∷ map (slice_index ls) starts) ≡ own ls n
unfolding times
times_by points lines ls starts t each n true point e =
    let itself : slice_index ls n ≡ n = eqb-true (slice_index ls n) n e in
    let there = one_in (Joined lines n) (λ p. slice_index ls p ≡ n) (λ p j. sym (walk_label lines ls j.0 n p t.ends j.1) ∙ itself) starts (each.each n point) in
    let nought : one_if (eqb 0 n) ≡ 0 = not_one 0 n (λ same. omega (arith, point.0)) in
    omega (arith, nought, once_there ls starts n (differ_in points lines ls starts t each.points each.apart) there, own_by ls n itself)
times_by points lines ls starts t each n false point e =
    let other : slice_index ls n ≡ n → ⊥ = eqb-false (slice_index ls n) n e in
    let none = all_in (IsPoint points) (λ p. slice_index ls p ≡ n → ⊥) (λ p at same. other (ap (slice_index ls) (sym same) ∙ t.itself p (inside points p at) ∙ same)) starts each.points in
    let nought : one_if (eqb 0 n) ≡ 0 = not_one 0 n (λ same. omega (arith, point.0)) in
    omega (arith, nought, none_there ls starts n none, own_none ls n other)

times_own : (points : ℕ) (lines : List MapLine) (ls starts : List ℕ) → Tells (points + 1) lines ls → AllByRecursion (HasEnds points) lines → OneOfEach points lines starts → (n : ℕ) → n < points + 1 → times n (0 ∷ map (slice_index ls) starts) ≡ own ls n
times_own points lines ls starts t all each zero few = times_zero points lines ls starts t all each.points
times_own points lines ls starts t all each (suc n) few = times_by points lines ls starts t each (suc n) (eqb (slice_index ls (suc n)) (suc n)) (omega arith, omega arith) refl

some_start : (P : ℕ → Type 0) (starts : List ℕ) → HasOne P starts → 0 < length starts
some_start P [] h = absurd h
some_start P (p ∷ starts) h = omega arith

-- the loose starts are the parts but that of point 1
pub starts_counted : (points : ℕ) (lines : List MapLine) (starts : List ℕ) → 0 < points → AllByRecursion (HasEnds points) lines → OneOfEach points lines starts → loose_starts points lines + 1 ≡ length starts
unfolding loose_starts
starts_counted points lines starts some all each =
    let ls = labels points lines in
    let t = labels_tell points lines all in
    let small = all_map ls starts (points + 1) (all_in (IsPoint points) (λ p. slice_index ls p < points + 1) (λ p at. t.small p (inside points p at)) starts each.points) in
    let total : sum_below (λ k. times k (0 ∷ map (slice_index ls) starts)) (points + 1) ≡ length (0 ∷ map (slice_index ls) starts) = sum_times (0 ∷ map (slice_index ls) starts) (points + 1) (omega arith, small) in
    let owned : sum_below (λ k. times k (0 ∷ map (slice_index ls) starts)) (points + 1) ≡ own_below ls (points + 1) = sum_own (λ k. times k (0 ∷ map (slice_index ls) starts)) ls (points + 1) (times_own points lines ls starts t all each) in
    let count : length (map (slice_index ls) starts) ≡ length starts = length-map starts (slice_index ls) in
    let one : 0 < length starts = some_start (Joined lines 1) starts (each.each 1 (omega arith, some)) in
    let whole : own_below ls (points + 1) ≡ suc (length starts) = sym owned ∙ total ∙ ap (λ (n : ℕ). suc n) count in
    omega (arith, whole, one)

-- ---- there are such points

-- the points up to this one that are their own labels
owners : List ℕ → ℕ → List ℕ
owners ls zero = []
owners ls (suc n) = cond (eqb (slice_index ls (suc n)) (suc n)) (suc n ∷ owners ls n) (owners ls n)

abbrev Owns : List ℕ → ℕ → ℕ → Type 0
Owns ls n q = (0 < q) × (q ≤ n) × (slice_index ls q ≡ q)

owns_later : (ls : List ℕ) (n q : ℕ) → Owns ls n q → Owns ls (suc n) q
owns_later ls n q h = (h.0, omega (arith, h.1), h.2)

cons_if : (P : ℕ → Type 0) (b : Bool) (q : ℕ) (qs : List ℕ) → (b ≡ true → P q) → AllByRecursion P qs → AllByRecursion P (cond b (q ∷ qs) qs)
cons_if P true q qs here all = (here refl, all)
cons_if P false q qs here all = all

owners_own : (ls : List ℕ) (n : ℕ) → AllByRecursion (Owns ls n) (owners ls n)
unfolding owners
owners_own ls zero = tt
owners_own ls (suc n) =
    cons_if (Owns ls (suc n)) (eqb (slice_index ls (suc n)) (suc n)) (suc n) (owners ls n) (λ t. (omega arith, omega arith, eqb-true (slice_index ls (suc n)) (suc n) t)) (all_in (Owns ls n) (Owns ls (suc n)) (owns_later ls n) (owners ls n) (owners_own ls n))

apart_if : (lines : List MapLine) (b : Bool) (q : ℕ) (qs : List ℕ) → (b ≡ true → AllByRecursion (λ p. Joined lines q p → ⊥) qs) → Apart lines qs → Apart lines (cond b (q ∷ qs) qs)
apart_if lines true q qs here apart = (here refl, apart)
apart_if lines false q qs here apart = apart

owners_apart : (lines : List MapLine) (ls : List ℕ) (n : ℕ) → AllByRecursion (λ line. slice_index ls line.i ≡ slice_index ls line.j) lines → Apart lines (owners ls n)
unfolding owners
owners_apart lines ls zero same = tt
owners_apart lines ls (suc n) same =
    apart_if lines (eqb (slice_index ls (suc n)) (suc n)) (suc n) (owners ls n)
    (λ t. all_in (Owns ls n) (λ p. Joined lines (suc n) p → ⊥) (λ p h j. let e : suc n ≡ p = sym (eqb-true (slice_index ls (suc n)) (suc n) t) ∙ walk_label lines ls j.0 (suc n) p same j.1 ∙ h.2 in omega (arith, e, h.1)) (owners ls n) (owners_own ls n))
    (owners_apart lines ls n same)

one_here : (P : ℕ → Type 0) (b : Bool) (q : ℕ) (qs : List ℕ) → b ≡ true → P q → HasOne P (cond b (q ∷ qs) qs)
one_here P true q qs t p = inl p
one_here P false q qs t p = absurd cc

one_later : (P : ℕ → Type 0) (b : Bool) (q : ℕ) (qs : List ℕ) → HasOne P qs → HasOne P (cond b (q ∷ qs) qs)
one_later P true q qs h = inr h
one_later P false q qs h = h

owners_by : (P : ℕ → Type 0) (ls : List ℕ) (n q : ℕ) (b : Bool) → eqb q (suc n) ≡ b → Owns ls (suc n) q → P q → (Owns ls n q → HasOne P (owners ls n)) → HasOne P (owners ls (suc n))
unfolding owners
owners_by P ls n q true t h p others =
    let same : q ≡ suc n = eqb-true q (suc n) t in
    one_here P (eqb (slice_index ls (suc n)) (suc n)) (suc n) (owners ls n) (eq-eqb (slice_index ls (suc n)) (suc n) (ap (slice_index ls) (sym same) ∙ h.2 ∙ same)) (subst P same p)
owners_by P ls n q false t h p others =
    let other : q ≡ suc n → ⊥ = eqb-false q (suc n) t in
    one_later P (eqb (slice_index ls (suc n)) (suc n)) (suc n) (owners ls n) (others (h.0, lesser q n h.1 other, h.2))
  where
    lesser : (q n : ℕ) → q ≤ suc n → (q ≡ suc n → ⊥) → q ≤ n
    lesser q n h other = omega arith

owners_have : (P : ℕ → Type 0) (ls : List ℕ) (n q : ℕ) → Owns ls n q → P q → HasOne P (owners ls n)
owners_have P ls zero q h p = absurd (omega (arith, h.0, h.1))
owners_have P ls (suc n) q h p = owners_by P ls n q (eqb q (suc n)) refl h p (λ less. owners_have P ls n q less p)

label_past : (points : ℕ) (lines : List MapLine) (ls : List ℕ) → Tells (points + 1) lines ls → AllByRecursion (HasEnds points) lines → (p x : ℕ) → IsPoint points p → slice_index ls p ≡ x → 0 < x
label_past points lines ls t all p zero point e =
    let j : Joined lines p 0 = t.sound p 0 (inside points p point) (omega arith) (e ∙ sym (zero_label points lines ls t all)) in
    absurd (zero_alone points lines p all point.0 j)
label_past points lines ls t all p (suc x) point e = omega arith

pub starts_there : (points : ℕ) (lines : List MapLine) → AllByRecursion (HasEnds points) lines → (starts : List ℕ) × OneOfEach points lines starts
starts_there points lines all =
    let ls = labels points lines in
    let t = labels_tell points lines all in (
      owners ls points,
      record {
        points = all_in (Owns ls points) (IsPoint points) (λ q h. (h.0, h.1)) (owners ls points) (owners_own ls points);
        apart = owners_apart lines ls points t.ends;
        each = λ p point.
            let few = inside points p point in
            let small : slice_index ls p < points + 1 = t.small p few in
            let past : 0 < slice_index ls p = label_past points lines ls t all p (slice_index ls p) point refl in
            let within : slice_index ls p ≤ points = omega (arith, small) in
            owners_have (Joined lines p) ls points (slice_index ls p) (past, within, t.itself p few) (t.sound p (slice_index ls p) few small (sym (t.itself p few)));
      },
    )
