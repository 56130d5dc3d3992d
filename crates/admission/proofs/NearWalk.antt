-- The numbers of the lines near a box, sorted: they are those of the near lines in order of making. The front tells each near line once; ascending lists in which each number stands equally often are equal.
use Prim.Native.Nat.{ℕ, zero, suc, ◌+◌, ◌≤◌, ◌<◌}
use lib.ListN.{length, get_or}
use mathlib.Core.Path.{◌≡◌, refl, sym, ap, ◌∙◌, subst}
use mathlib.Core.Bool.{Bool, true, false, cond, ◌||◌}
use mathlib.Core.List.{List, [], ◌∷◌, map}
use native.Mathlib.Omega.{arith}
use Rattle.std.specs.Prelude.{nat_eq, filter, Some, is_some}
use Rattle.std.specs.Option.{option_map_or}
use Rattle.std.specs.List.{AllByRecursion, IsDistinct, list_any, sum_by}
use Rattle.std.specs.List.Sorted.{IsPermutation, IsNonDecreasingBy}
use Rattle.std.proofs.lemmas.Map.Keys.{IsDistinct-head, IsDistinct-tail}
use Rattle.std.proofs.lemmas.List.Recursion.{is_sum_by}
use Rattle.std.proofs.lemmas.List.Sorted.{sum_by-IsPermutation}
use Rattle.grid_geom.specs.declared.Bounds.{Bounds}
use Rattle.state_law.specs.State.{AreRising}
use Rattle.front_chain.specs.Front.{FrontState, IsFrontState, AreNear, line_at}
use Rattle.admission.specs.Around.{drawn, drawn_at, is_close, lines_near, numbers_near}
use Rattle.admission.proofs.Ahead.{Triple, eq_self, eq_less, line_here, line_later}

-- ---- ascending lists
-- each number is at most each after it
abbrev AreUp : List ℕ → Type 0
AreUp [] = Unit {0}
AreUp (x ∷ xs) = AllByRecursion (λ y. x ≤ y) xs × AreUp xs

up_by_place : (xs : List ℕ) → IsNonDecreasingBy (λ n. n) xs → AreUp xs
up_by_place [] h = tt
up_by_place (x ∷ xs) h = (each xs (λ j d l. h zero (suc j) d (omega arith) (omega (arith, l))), up_by_place xs (λ i j d l k. h (suc i) (suc j) d (omega (arith, l)) (omega (arith, k))))
  where
    each : (ys : List ℕ) → ((j d : ℕ) → j < length ys → x ≤ get_or ys j d) → AllByRecursion (λ y. x ≤ y) ys
    each [] h = tt
    each (y ∷ ys) h = (h zero 0 (omega arith), each ys (λ j d l. h (suc j) d (omega (arith, l))))

-- how often a number stands in a list
abbrev often : ℕ → List ℕ → ℕ
often n [] = 0
often n (x ∷ xs) = cond (nat_eq n x) 1 0 + often n xs

plain : (k : ℕ) → 0 + k ≡ k
plain k = omega arith

often_first : (n : ℕ) (xs : List ℕ) → 1 ≤ often n (n ∷ xs)
often_first n xs = subst (λ (b : Bool). 1 ≤ cond b 1 0 + often n xs) (sym (eq_self n)) (more (often n xs))
  where
    more : (k : ℕ) → 1 ≤ 1 + k
    more k = omega arith

stands_has : (Q : ℕ → Type 0) (n : ℕ) (xs : List ℕ) → 1 ≤ often n xs → AllByRecursion Q xs → Q n
stands_has Q n [] h all = absurd (none h)
  where
    none : 1 ≤ 0 → ⊥
    none h = omega arith
stands_has Q n (x ∷ xs) h all = by (nat_eq n x) refl h (λ k. stands_has Q n xs k all.1)
  where
    same : (m n : ℕ) → nat_eq m n ≡ true → n ≡ m
    same m n e = grind arith

    by : (b : Bool) → nat_eq n x ≡ b → 1 ≤ cond b 1 0 + often n xs → (1 ≤ often n xs → Q n) → Q n
    by true e k later = subst Q (same n x e) all.0
    by false e k later = later (omega (arith, k))

same_up : (xs ys : List ℕ) → AreUp xs → AreUp ys → ((n : ℕ) → often n xs ≡ often n ys) → xs ≡ ys
same_up [] [] u v h = refl
same_up [] (y ∷ ys) u v h = absurd (none (often y (y ∷ ys)) (often_first y ys) (h y))
  where
    none : (k : ℕ) → 1 ≤ k → 0 ≡ k → ⊥
    none k l e = omega arith
same_up (x ∷ xs) [] u v h = absurd (none (often x (x ∷ xs)) (often_first x xs) (h x))
  where
    none : (k : ℕ) → 1 ≤ k → k ≡ 0 → ⊥
    none k l e = omega arith
same_up (x ∷ xs) (y ∷ ys) u v h = λ i. first i ∷ same_up xs ys u.1 v.1 rest i
  where
    between : (m n : ℕ) → m ≤ n → n ≤ m → m ≡ n
    between m n k l = omega arith

    itself : (n : ℕ) → n ≤ n
    itself n = omega arith

    cancel : (c k l : ℕ) → c + k ≡ c + l → k ≡ l
    cancel c k l e = omega arith

    first : x ≡ y
    first = between x y (stands_has (λ z. x ≤ z) y (x ∷ xs) (subst (λ (k : ℕ). 1 ≤ k) (sym (h y)) (often_first y ys)) (itself x, u.0))
        (stands_has (λ z. y ≤ z) x (y ∷ ys) (subst (λ (k : ℕ). 1 ≤ k) (h x) (often_first x xs)) (itself y, v.0))

    rest : (n : ℕ) → often n xs ≡ often n ys
    rest n = cancel (cond (nat_eq n x) 1 0) (often n xs) (often n ys) (h n ∙ ap (λ (z : ℕ). cond (nat_eq n z) 1 0 + often n ys) (sym first))

-- of distinct numbers each stands once
once : (n : ℕ) (xs : List ℕ) → IsDistinct nat_eq xs → often n xs ≡ cond (list_any (nat_eq n) xs) 1 0
once n [] d = refl
once n (x ∷ xs) d = by (nat_eq n x) refl (once n xs (IsDistinct-tail nat_eq x xs d))
  where
    same : (m n : ℕ) → nat_eq m n ≡ true → n ≡ m
    same m n e = grind arith

    none : (ys : List ℕ) → AllByRecursion (λ m. nat_eq n m ≡ false) ys → list_any (nat_eq n) ys ≡ false
    none [] h = refl
    none (y ∷ ys) h = ap (λ (b : Bool). b || list_any (nat_eq n) ys) h.0 ∙ none ys h.1

    by : (b : Bool) → nat_eq n x ≡ b → often n xs ≡ cond (list_any (nat_eq n) xs) 1 0 → cond b 1 0 + often n xs ≡ cond (b || list_any (nat_eq n) xs) 1 0
    by true e k = ap (λ (m : ℕ). 1 + m) (k ∙ ap (λ (b : Bool). cond b 1 0) (none xs (subst (λ (z : ℕ). AllByRecursion (λ m. nat_eq z m ≡ false) xs) (same n x e) (IsDistinct-head nat_eq x xs d))))
    by false e k = plain (often n xs) ∙ k

often_sorted : (n : ℕ) (xs ys : List ℕ) → IsPermutation xs ys → often n ys ≡ often n xs
often_sorted n xs ys p = is_sum ys ∙ sum_by-IsPermutation (λ x. cond (nat_eq n x) 1 0) xs ys p ∙ sym (is_sum xs)
  where
    is_sum : (zs : List ℕ) → often n zs ≡ sum_by (λ x. cond (nat_eq n x) 1 0) zs
    is_sum zs = is_sum_by (often n) (λ x. cond (nat_eq n x) 1 0) refl (λ x xs. refl) zs

-- ---- the near lines' numbers
flip : (m n : ℕ) → nat_eq m n ≡ false → nat_eq n m ≡ false
flip m n h = grind arith

-- those of the lines in order of making
abbrev numbers : (Triple → Bool) → List Triple → List ℕ
numbers close lines = map (λ (line : Triple). line.0) (filter close lines)

above_kept : (m : ℕ) (close : Triple → Bool) (lines : List Triple) → AllByRecursion (λ (other : Triple). m < other.0) lines → AllByRecursion (λ y. m < y) (numbers close lines)
above_kept m close [] h = tt
above_kept m close (line ∷ lines) h = by (close line) (above_kept m close lines h.1)
  where
    by : (b : Bool) → AllByRecursion (λ y. m < y) (numbers close lines) → AllByRecursion (λ y. m < y) (map (λ (line : Triple). line.0) (cond b (line ∷ filter close lines) (filter close lines)))
    by true later = (h.0, later)
    by false later = later

numbers_up : (close : Triple → Bool) (lines : List Triple) (next : ℕ) → AreRising lines next → AreUp (numbers close lines)
numbers_up close [] next r = tt
numbers_up close (line ∷ lines) next r = by (close line) (numbers_up close lines next r.2)
  where
    weak : (xs : List ℕ) → AllByRecursion (λ y. line.0 < y) xs → AllByRecursion (λ y. line.0 ≤ y) xs
    weak [] h = tt
    weak (x ∷ xs) h = (omega (arith, h.0), weak xs h.1)

    by : (b : Bool) → AreUp (numbers close lines) → AreUp (map (λ (line : Triple). line.0) (cond b (line ∷ filter close lines) (filter close lines)))
    by true later = (weak (numbers close lines) (above_kept line.0 close lines r.0), later)
    by false later = later

not_above : (m : ℕ) (xs : List ℕ) → AllByRecursion (λ y. m < y) xs → AllByRecursion (λ y. nat_eq m y ≡ false) xs
not_above m [] h = tt
not_above m (x ∷ xs) h = (eq_less m x h.0, not_above m xs h.1)

once_numbers : (n : ℕ) (close : Triple → Bool) (lines : List Triple) (next : ℕ) → AreRising lines next → often n (numbers close lines) ≡ cond (option_map_or (λ ends. close (n, ends.0, ends.1)) (line_at lines n) false) 1 0
once_numbers n close [] next r = refl
once_numbers n close (line ∷ lines) next r = by (nat_eq line.0 n) refl (once_numbers n close lines next r.2)
  where
    same : (m n : ℕ) → nat_eq m n ≡ true → m ≡ n
    same m n e = grind arith

    none : (xs : List ℕ) → AllByRecursion (λ m. nat_eq n m ≡ false) xs → often n xs ≡ 0
    none [] h = refl
    none (x ∷ xs) h = ap (λ (b : Bool). cond b 1 0 + often n xs) h.0 ∙ plain (often n xs) ∙ none xs h.1

    later : line.0 ≡ n → often n (numbers close lines) ≡ 0
    later e = none (numbers close lines) (subst (λ (z : ℕ). AllByRecursion (λ m. nat_eq z m ≡ false) (numbers close lines)) e (not_above line.0 (numbers close lines) (above_kept line.0 close lines r.0)))

    taken : (b : Bool) → line.0 ≡ n → often n (map (λ (line : Triple). line.0) (cond b (line ∷ filter close lines) (filter close lines))) ≡ cond b 1 0
    taken true e = ap (λ (c : Bool). cond c 1 0 + often n (numbers close lines)) (subst (λ (z : ℕ). nat_eq n z ≡ true) (sym e) (eq_self n)) ∙ ap (λ (k : ℕ). 1 + k) (later e)
    taken false e = later e

    left : (b : Bool) → nat_eq line.0 n ≡ false → often n (map (λ (line : Triple). line.0) (cond b (line ∷ filter close lines) (filter close lines))) ≡ often n (numbers close lines)
    left true e = ap (λ (c : Bool). cond c 1 0 + often n (numbers close lines)) (flip line.0 n e) ∙ plain (often n (numbers close lines))
    left false e = refl

    by : (b : Bool) → nat_eq line.0 n ≡ b → often n (numbers close lines) ≡ cond (option_map_or (λ ends. close (n, ends.0, ends.1)) (line_at lines n) false) 1 0 → often n (numbers close (line ∷ lines)) ≡ cond (option_map_or (λ ends. close (n, ends.0, ends.1)) (line_at (line ∷ lines) n) false) 1 0
    by true e rest = taken (close line) (same line.0 n e) ∙ ap (λ (z : ℕ). cond (close (z, line.1, line.2)) 1 0) (same line.0 n e) ∙ ap (λ o. cond (option_map_or (λ ends. close (n, ends.0, ends.1)) o false) 1 0) (sym (line_here line lines n e))
    by false e rest = left (close line) e ∙ rest ∙ ap (λ o. cond (option_map_or (λ ends. close (n, ends.0, ends.1)) o false) 1 0) (sym (line_later line lines n e))

-- sorted, the numbers of all near lines are those in order of making
pub near_sorted : (f : FrontState) (b : Bounds) (numbers sorted : List ℕ) → IsFrontState f → AreNear f b numbers → IsPermutation numbers sorted → IsNonDecreasingBy (λ n. n) sorted → sorted ≡ numbers_near b f
near_sorted f b numbers sorted h near p up = same_up sorted (numbers_near b f) (up_by_place sorted up) (numbers_up (is_close b f.points) f.lines f.next h.rising)
    (λ n. often_sorted n numbers sorted p ∙ once n numbers near.once ∙ ap (λ (c : Bool). cond c 1 0) (near.each n) ∙ sym (once_numbers n (is_close b f.points) f.lines f.next h.rising))

-- each line is found by its number
later_there : (line : Triple) (lines some : List Triple) → AllByRecursion (λ (other : Triple). line.0 < other.0) some → AllByRecursion (λ (l : Triple). line_at lines l.0 ≡ Some (l.1, l.2)) some → AllByRecursion (λ (l : Triple). line_at (line ∷ lines) l.0 ≡ Some (l.1, l.2)) some
later_there line lines [] h k = tt
later_there line lines (l ∷ some) h k = (line_later line lines l.0 (eq_less line.0 l.0 h.0) ∙ k.0, later_there line lines some h.1 k.1)

each_there : (lines : List Triple) (next : ℕ) → AreRising lines next → AllByRecursion (λ (l : Triple). line_at lines l.0 ≡ Some (l.1, l.2)) lines
each_there [] next r = tt
each_there (line ∷ lines) next r = (line_here line lines line.0 (eq_self line.0), later_there line lines lines r.0 (each_there lines next r.2))

-- so each near number is that of a line, and with their ends' places they are the near lines
pub near_there : (f : FrontState) (b : Bounds) → IsFrontState f → AllByRecursion (λ n. is_some (line_at f.lines n) ≡ true) (numbers_near b f)
near_there f b h = by f.lines (each_there f.lines f.next h.rising)
  where
    by : (some : List Triple) → AllByRecursion (λ (l : Triple). line_at f.lines l.0 ≡ Some (l.1, l.2)) some → AllByRecursion (λ n. is_some (line_at f.lines n) ≡ true) (numbers (is_close b f.points) some)
    by [] k = tt
    by (l ∷ some) k = at (is_close b f.points l) (by some k.1)
      where
        at : (c : Bool) → AllByRecursion (λ n. is_some (line_at f.lines n) ≡ true) (numbers (is_close b f.points) some) → AllByRecursion (λ n. is_some (line_at f.lines n) ≡ true) (map (λ (line : Triple). line.0) (cond c (l ∷ filter (is_close b f.points) some) (filter (is_close b f.points) some)))
        at true later = (ap is_some k.0, later)
        at false later = later

pub near_drawn : (f : FrontState) (b : Bounds) → IsFrontState f → map (drawn_at f) (numbers_near b f) ≡ lines_near b f.points f.lines
near_drawn f b h = by f.lines (each_there f.lines f.next h.rising)
  where
    by : (some : List Triple) → AllByRecursion (λ (l : Triple). line_at f.lines l.0 ≡ Some (l.1, l.2)) some → map (drawn_at f) (numbers (is_close b f.points) some) ≡ lines_near b f.points some
    by [] k = refl
    by (l ∷ some) k = at (is_close b f.points l) (by some k.1)
      where
        at : (c : Bool) → map (drawn_at f) (numbers (is_close b f.points) some) ≡ lines_near b f.points some → map (drawn_at f) (map (λ (line : Triple). line.0) (cond c (l ∷ filter (is_close b f.points) some) (filter (is_close b f.points) some))) ≡ map (drawn f.points) (cond c (l ∷ filter (is_close b f.points) some) (filter (is_close b f.points) some))
        at true later = λ i. option_map_or (λ ends. drawn f.points (l.0, ends.0, ends.1)) (k.0 i) (drawn f.points (l.0, 0, 0)) ∷ later i
        at false later = later
