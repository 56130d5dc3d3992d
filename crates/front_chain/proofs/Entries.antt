-- Entries of lines, counted: what one more and one less change, and that an entry is found by its line's number as by its key.
use native.Mathlib.Omega.{arith}
use Rattle.std.specs.Prelude.{◌≡◌, ◌≤◌, ◌+◌, ℕ, suc, Bool, true, false, not, ◌||◌, nat_eq, nat_lt, List, [], ◌∷◌, ◌++◌, filter, length, drop, Option, Some, None, cond, refl, is_some}
use Rattle.std.specs.Borrow.{Bor}
use Rattle.std.specs.Option.{option_map, option_copied}
use Rattle.std.specs.List.{AllByRecursion, find, list_any, after_first, position_or_len}
use Rattle.std.proofs.Common.{ap, sym, ◌∙◌, subst}
use Rattle.grid_geom.specs.declared.Bounds.{Bounds}
use Rattle.digital_tree.specs.declared.Key.{Key}
use Rattle.digital_tree.specs.declared.Entry.{Entry}
use Rattle.digital_tree.specs.Entries.{key_of, has_key, held, is_hit, AreDifferent, IsInserted, IsRemoved, IsAbsent}
use Rattle.digital_tree.proofs.Lists.{all_inserted, all_left, all_second}
use Rattle.digital_tree.proofs.WalkLaws.{found_again, found_behind}
use Rattle.front_chain.specs.Boxes.{line_of, has_line, IsEntered, IsLeft, HaveOneEach, AreKeyed}
use Rattle.front_chain.proofs.Lines.{eq_self, eq_sound}

one_key : (a b : Key) → Some a ≡ Some b → a ≡ b
one_key a b e = cc

clash : {A : Type 0} → true ≡ false → A
clash e = absurd cc

other_way : (m n : ℕ) → nat_eq m n ≡ false → nat_eq n m ≡ false
other_way m n e = grind arith

swapped : (a b c : ℕ) → a + (b + c) ≡ b + (a + c)
swapped a b c = omega arith

none_more : (n : ℕ) → 0 + n ≡ n
none_more n = omega arith

some_more : (n : ℕ) → true ≡ nat_lt 0 (suc n)
some_more n = grind arith

-- ---- how many of a list pass a test
module _ {X : Type 0} where
  one_more : (t : Bool) (x : X) (rest : List X) → length (cond t (x ∷ rest) rest) ≡ cond t 1 0 + length rest
  one_more true x rest = omega arith
  one_more false x rest = omega arith

  pub counted : (p : X → Bool) (x : X) (xs ys : List X) → length (filter p (xs ++ x ∷ ys)) ≡ cond (p x) 1 0 + length (filter p (xs ++ ys))
  counted p x [] ys = one_more (p x) x (filter p ys)
  counted p x (y ∷ xs) ys =
      one_more (p y) y (filter p (xs ++ x ∷ ys)) ∙ ap (λ (n : ℕ). cond (p y) 1 0 + n) (counted p x xs ys)
      ∙ swapped (cond (p y) 1 0) (cond (p x) 1 0) (length (filter p (xs ++ ys)))
      ∙ ap (λ (n : ℕ). cond (p x) 1 0 + n) (sym (one_more (p y) y (filter p (xs ++ ys))))

  pub any_counted : (p : X → Bool) (xs : List X) → list_any p xs ≡ nat_lt 0 (length (filter p xs))
  any_counted p [] = refl
  any_counted p (x ∷ xs) = by (p x) (any_counted p xs)
    where
      by : (t : Bool) → list_any p xs ≡ nat_lt 0 (length (filter p xs)) → (t || list_any p xs) ≡ nat_lt 0 (length (cond t (x ∷ filter p xs) (filter p xs)))
      by true h = some_more (length (filter p xs))
      by false h = h

  find_any : (p : X → Bool) (xs : List X) → is_some (find p xs) ≡ list_any p xs
  find_any p [] = refl
  find_any p (x ∷ xs) = by (p x) (find_any p xs)
    where
      by : (t : Bool) → is_some (find p xs) ≡ list_any p xs → is_some (cond t (Some x) (find p xs)) ≡ (t || list_any p xs)
      by true h = refl
      by false h = h

  pub none_pass : (p : X → Bool) (xs : List X) → length (filter p xs) ≡ 0 → AllByRecursion (λ x. p x ≡ false) xs
  none_pass p [] e = tt
  none_pass p (x ∷ xs) e = by (p x) refl e (none_pass p xs)
    where
      by : (t : Bool) → p x ≡ t → length (cond t (x ∷ filter p xs) (filter p xs)) ≡ 0 → (length (filter p xs) ≡ 0 → AllByRecursion (λ x. p x ≡ false) xs) → (p x ≡ false) × AllByRecursion (λ x. p x ≡ false) xs
      by true f g more = absurd (omega (arith, g))
      by false f g more = (f, more g)

  fewer : (p q : X → Bool) (xs : List X) → AllByRecursion (λ x. p x ≡ true → q x ≡ true) xs → length (filter p xs) ≤ length (filter q xs)
  fewer p q [] h = omega arith
  fewer p q (x ∷ xs) h = by (p x) (q x) h.0 (fewer p q xs h.1)
    where
      by : (t u : Bool) → (t ≡ true → u ≡ true) → length (filter p xs) ≤ length (filter q xs) → length (cond t (x ∷ filter p xs) (filter p xs)) ≤ length (cond u (x ∷ filter q xs) (filter q xs))
      by true true i k = omega (arith, k)
      by true false i k = clash (sym (i refl))
      by false true i k = omega (arith, k)
      by false false i k = k

  -- where all that pass p pass q, and no more pass q, the tests agree
  few_same : (p q : X → Bool) (xs : List X) → AllByRecursion (λ x. p x ≡ true → q x ≡ true) xs → length (filter q xs) ≤ length (filter p xs) → AllByRecursion (λ x. q x ≡ p x) xs
  few_same p q [] h l = tt
  few_same p q (x ∷ xs) h l = by (p x) (q x) refl refl h.0 (fewer p q xs h.1) (few_same p q xs h.1) l
    where
      by : (t u : Bool) → p x ≡ t → q x ≡ u → (t ≡ true → u ≡ true) → length (filter p xs) ≤ length (filter q xs)
          → (length (filter q xs) ≤ length (filter p xs) → AllByRecursion (λ x. q x ≡ p x) xs)
          → length (cond u (x ∷ filter q xs) (filter q xs)) ≤ length (cond t (x ∷ filter p xs) (filter p xs)) → (q x ≡ p x) × AllByRecursion (λ x. q x ≡ p x) xs
      by true true e f i k more m = (f ∙ sym e, more (omega (arith, m)))
      by true false e f i k more m = clash (sym (i refl))
      by false true e f i k more m = absurd (omega (arith, k, m))
      by false false e f i k more m = (f ∙ sym e, more m)

  -- tests that agree have their first place in common
  same_place : (p q : X → Bool) (xs : List X) → AllByRecursion (λ x. q x ≡ p x) xs → position_or_len q xs ≡ position_or_len p xs
  same_place p q [] h = refl
  same_place p q (x ∷ xs) h = ap (λ (t : Bool). cond (not t) (1 + position_or_len q xs) 0) h.0 ∙ ap (λ (n : ℕ). cond (not (p x)) (1 + n) 0) (same_place p q xs h.1)

-- ---- one entry of a line more, and one less
-- one number comes to those that are there, or goes
pub record Comes (n : ℕ) (there after : ℕ → Bool) : Type 0 where
  pub absent : there n ≡ false
  pub now : after n ≡ true
  pub others : (m : ℕ) → nat_eq n m ≡ false → after m ≡ there m

pub record Goes (n : ℕ) (there after : ℕ → Bool) : Type 0 where
  pub now : after n ≡ false
  pub others : (m : ℕ) → nat_eq n m ≡ false → after m ≡ there m

module _ {n : ℕ} {there after : ℕ → Bool} {es : List (Entry ℕ)} (h : HaveOneEach there es) where
  pub single_entered : {b : Bounds} {more : List (Entry ℕ)} → IsEntered n b es more → Comes n there after → HaveOneEach after more
  single_entered {b} {more} i c = record {
    count = λ m.
        ap (λ l. length (filter (has_line m) l)) i.put.is
        ∙ counted (has_line m) (record { key = i.key; bounds = b; value = n }) i.put.before i.put.after
        ∙ ap (λ l. cond (nat_eq m n) 1 0 + length (filter (has_line m) l)) (sym i.put.was)
        ∙ ap (λ (k : ℕ). cond (nat_eq m n) 1 0 + k) (h.count m) ∙ by m (nat_eq m n) refl;
  }
    where
      by : (m : ℕ) (t : Bool) → nat_eq m n ≡ t → cond t 1 0 + cond (there m) 1 0 ≡ cond (after m) 1 0
      by m true e = ap (λ (u : Bool). 1 + cond {A = ℕ} u 1 0) (ap there (eq_sound m n e) ∙ c.absent) ∙ sym (ap (λ (u : Bool). cond {A = ℕ} u 1 0) (ap after (eq_sound m n e) ∙ c.now))
      by m false e = none_more (cond (there m) 1 0) ∙ ap (λ (u : Bool). cond {A = ℕ} u 1 0) (sym (c.others m (other_way m n e)))

  pub single_left : {less : List (Entry ℕ)} → IsLeft n es less → Goes n there after → HaveOneEach after less
  single_left {less} i g = record {
    count = λ m. by m (nat_eq m n) refl (sym (
        ap (λ l. length (filter (has_line m) l)) i.gone.is ∙ counted (has_line m) i.entry i.gone.before i.gone.after
        ∙ ap (λ (k : ℕ). cond (nat_eq m k) 1 0 + length (filter (has_line m) (i.gone.before ++ i.gone.after))) i.line
        ∙ ap (λ l. cond (nat_eq m n) 1 0 + length (filter (has_line m) l)) (sym i.gone.was)) ∙ h.count m);
  }
    where
      at_most : (t : Bool) (k : ℕ) → 1 + k ≡ cond t 1 0 → k ≡ 0
      at_most true k e = omega (arith, e)
      at_most false k e = absurd (omega (arith, e))

      by : (m : ℕ) (t : Bool) → nat_eq m n ≡ t → cond t 1 0 + length (filter (has_line m) less) ≡ cond (there m) 1 0 → length (filter (has_line m) less) ≡ cond (after m) 1 0
      by m true e f = at_most (there m) (length (filter (has_line m) less)) f ∙ sym (ap (λ (u : Bool). cond {A = ℕ} u 1 0) (ap after (eq_sound m n e) ∙ g.now))
      by m false e f = sym (none_more (length (filter (has_line m) less))) ∙ f ∙ sym (ap (λ (u : Bool). cond {A = ℕ} u 1 0) (g.others m (other_way m n e)))

-- no entry has a number that isn't there
pub none_there : {there : ℕ → Bool} {es : List (Entry ℕ)} → HaveOneEach there es → (n : ℕ) → there n ≡ false → AllByRecursion (λ e. has_line n e ≡ false) es
none_there {there} {es} h n e = none_pass (has_line n) es (h.count n ∙ ap (λ (t : Bool). cond {A = ℕ} t 1 0) e)

pub is_there : {there : ℕ → Bool} {es : List (Entry ℕ)} → HaveOneEach there es → (n : ℕ) → list_any (has_line n) es ≡ there n
is_there {there} {es} h n = any_counted (has_line n) es ∙ ap (nat_lt 0) (h.count n) ∙ by (there n)
  where
    by : (t : Bool) → nat_lt 0 (cond t 1 0) ≡ t
    by true = refl
    by false = refl

-- what holds of the entries of other lines
pub all_others : (P Q : Entry ℕ → Type 0) (n : ℕ) (es : List (Entry ℕ)) → ((e : Entry ℕ) → has_line n e ≡ false → P e → Q e) → AllByRecursion (λ e. has_line n e ≡ false) es → AllByRecursion P es → AllByRecursion Q es
all_others P Q n [] f h k = tt
all_others P Q n (e ∷ es) f h k = (f e h.0 k.0, all_others P Q n es f h.1 k.1)

-- ---- keys by lines' numbers
-- the key that stands for the entry's line is the entry's
abbrev IsKeyed : (ℕ → Option Key) → Entry ℕ → Type 0
IsKeyed key e = key (line_of e) ≡ Some e.key

module _ {key now : ℕ → Option Key} (n : ℕ) {es : List (Entry ℕ)} (h : AreKeyed key es) where
  -- an entry put in under a free key, which its line's number then stands for
  pub keyed_entered : (k : Key) {b : Bounds} {more : List (Entry ℕ)} → IsInserted (record { key = k; bounds = b; value = n }) es more → IsAbsent k es → key n ≡ None → ((m : ℕ) → now m ≡ cond (nat_eq n m) (Some k) (key m)) → AreKeyed now more
  keyed_entered k {b} {more} i free new put = record {
    different = λ j. subst (λ (l : ℕ). l ≤ 1) (sym (ap (λ l. length (filter (has_key j) l)) i.is ∙ counted (has_key j) entry i.before i.after ∙ ap (λ l. cond (has_key j entry) 1 0 + length (filter (has_key j) l)) (sym i.was))) (few j (has_key j entry) refl (h.different j));
    single = single_entered h.single (record { key = k; put = i }) (record { absent = ap is_some new; now = ap is_some here; others = λ m o. ap is_some (there m o) });
    found = all_inserted (IsKeyed now) i here
        (all_others (IsKeyed key) (IsKeyed now) n es (λ e o f. there (line_of e) o ∙ f) (none_there h.single n (ap is_some new)) h.found);
  }
    where
      entry : Entry ℕ
      entry = record { key = k; bounds = b; value = n }

      here : now n ≡ Some k
      here = put n ∙ ap (λ t. cond t (Some k) (key n)) (eq_self n)

      there : (m : ℕ) → nat_eq n m ≡ false → now m ≡ key m
      there m o = put m ∙ ap (λ t. cond t (Some k) (key m)) o

      none : (c : ℕ) → nat_lt 0 c ≡ false → c ≡ 0
      none c e = grind arith

      free_here : (s : ℕ) → k.slot ≡ s → length (filter (λ (x : Entry ℕ). nat_eq x.key.slot s) es) ≡ 0
      free_here s same = subst (λ (s : ℕ). length (filter (λ (x : Entry ℕ). nat_eq x.key.slot s) es) ≡ 0) same (none _ (sym (any_counted (has_key k) es) ∙ free.none))

      few : (j : Key) (t : Bool) → has_key j entry ≡ t → length (filter (has_key j) es) ≤ 1 → cond t 1 0 + length (filter (has_key j) es) ≤ 1
      few j true same l = let zero_there = free_here j.slot (eq_sound k.slot j.slot same) in omega (arith, zero_there)
      few j false same l = subst (λ (m : ℕ). m ≤ 1) (sym (none_more (length (filter (has_key j) es)))) l

  pub keyed_left : {less : List (Entry ℕ)} → IsLeft n es less → ((m : ℕ) → now m ≡ cond (nat_eq n m) None (key m)) → AreKeyed now less
  keyed_left {less} i put = record {
    different = λ j. fewer_left (cond (has_key j i.entry) 1 0) (length (filter (has_key j) less)) (subst (λ (l : ℕ). l ≤ 1)
        (ap (λ l. length (filter (has_key j) l)) i.gone.is ∙ counted (has_key j) i.entry i.gone.before i.gone.after ∙ ap (λ l. cond (has_key j i.entry) 1 0 + length (filter (has_key j) l)) (sym i.gone.was)) (h.different j));
    single = single;
    found = all_others (IsKeyed key) (IsKeyed now) n less (λ e o f. there (line_of e) o ∙ f) (none_there single n (ap is_some here)) (all_left (IsKeyed key) i.gone h.found);
  }
    where
      here : now n ≡ None
      here = put n ∙ ap (λ t. cond t None (key n)) (eq_self n)

      there : (m : ℕ) → nat_eq n m ≡ false → now m ≡ key m
      there m o = put m ∙ ap (λ t. cond t None (key m)) o

      single : HaveOneEach (λ m. is_some (now m)) less
      single = single_left h.single i (record { now = ap is_some here; others = λ m o. ap is_some (there m o) })

      fewer_left : (a b : ℕ) → a + b ≤ 1 → b ≤ 1
      fewer_left a b l = omega (arith, l)

module _ {key : ℕ → Option Key} (n : ℕ) {es : List (Entry ℕ)} (h : AreKeyed key es) where
  -- an entry is found by its line's number as by its key
  agree : (k : Key) → key n ≡ Some k → AllByRecursion (λ e. has_key k e ≡ has_line n e) es
  agree k is = few_same (has_line n) (has_key k) es (implied es h.found) (subst (λ (l : ℕ). length (filter (has_key k) es) ≤ l) (sym (h.single.count n ∙ ap (λ o. cond {A = ℕ} (is_some o) 1 0) is)) (h.different k))
    where
      implied : (es : List (Entry ℕ)) → AllByRecursion (λ e. key (line_of e) ≡ Some e.key) es → AllByRecursion (λ e. has_line n e ≡ true → has_key k e ≡ true) es
      implied [] f = tt
      implied (e ∷ es) f = (λ same. subst (λ (j : Key). nat_eq j.slot k.slot ≡ true) (one_key k e.key (sym is ∙ ap key (eq_sound n e.value same) ∙ f.0)) (eq_self k.slot), implied es f.1)

  pub after_key : (k : Key) → key n ≡ Some k → after_first (has_key k) es ≡ after_first (has_line n) es
  after_key k is = ap (λ (i : ℕ). drop (i + 1) es) (same_place (has_line n) (has_key k) es (agree k is))

  -- the entry that is taken out under a line's key is that line's
  pub key_left : (k : Key) {less : List (Entry ℕ)} → key n ≡ Some k → IsRemoved k es less → IsLeft n es less
  key_left k {less} is r = record {
    entry = r.entry;
    line = sym (eq_sound n r.entry.value (sym at ∙ ap (λ (j : Key). nat_eq j.slot k.slot) r.key ∙ eq_self k.slot));
    gone = r.gone;
  }
    where
      at : has_key k r.entry ≡ has_line n r.entry
      at = (all_second (λ e. has_key k e ≡ has_line n e) r.gone.before (r.entry ∷ r.gone.after) (subst (AllByRecursion (λ e. has_key k e ≡ has_line n e)) r.gone.is (agree k is))).0

  -- a line that has no entry has no key
  pub not_keyed : list_any (has_line n) es ≡ false → key n ≡ None
  not_keyed e = by (key n) refl
    where
      by : (o : Option Key) → key n ≡ o → key n ≡ None
      by None f = f
      by (Some k) f = clash (sym (is_there h.single n ∙ ap is_some f) ∙ e)

  -- a line that has an entry has a key, under which something stands
  pub key_there : list_any (has_line n) es ≡ true → is_some (key n) ≡ true
  key_there e = sym (is_there h.single n) ∙ e

  pub key_stands : (k : Key) → key n ≡ Some k → is_some (find (has_key k) es) ≡ true
  key_stands k is = find_any (has_key k) es ∙ same es (agree k is) ∙ is_there h.single n ∙ ap is_some is
    where
      same : (es : List (Entry ℕ)) → AllByRecursion (λ e. has_key k e ≡ has_line n e) es → list_any (has_key k) es ≡ list_any (has_line n) es
      same [] f = refl
      same (e ∷ es) f = (λ i. f.0 i || same es f.1 i)

-- the entry that a search meets is the one that its key finds
module _ (es : List (Entry ℕ)) (d : AreDifferent es) (k : Key) where
  keyed : (e : Entry ℕ) → Some (key_of e) ≡ Some k → find (has_key e.key) es ≡ Some e → option_map line_of (find (has_key k) es) ≡ Some (line_of e)
  keyed e is f = subst (λ (j : Key). option_map line_of (find (has_key j) es) ≡ Some (line_of e)) (one_key (key_of e) k is) (ap (option_map line_of) f)

  pub first_met : (b : Bounds) → option_map key_of (find (is_hit b) es) ≡ Some k → option_map line_of (find (has_key k) es) ≡ option_map line_of (find (is_hit b) es)
  first_met b is = by (find (is_hit b) es) refl is
    where
      by : (o : Option (Entry ℕ)) → find (is_hit b) es ≡ o → option_map key_of o ≡ Some k → option_map line_of (find (has_key k) es) ≡ option_map line_of o
      by None e f = absurd cc
      by (Some x) e f = keyed x f (found_again (is_hit b) es x d e)

  pub next_met : (b : Bounds) (p : Entry ℕ → Bool) → option_map key_of (find (is_hit b) (after_first p es)) ≡ Some k → option_map line_of (find (has_key k) es) ≡ option_map line_of (find (is_hit b) (after_first p es))
  next_met b p is = by (find (is_hit b) (after_first p es)) refl is
    where
      by : (o : Option (Entry ℕ)) → find (is_hit b) (after_first p es) ≡ o → option_map key_of o ≡ Some k → option_map line_of (find (has_key k) es) ≡ option_map line_of o
      by None e f = absurd cc
      by (Some x) e f = keyed x f (found_behind (is_hit b) p es x d e)

pub none_met : (o : Option (Entry ℕ)) → option_map key_of o ≡ None → option_map line_of o ≡ None
none_met None e = refl
none_met (Some x) e = absurd cc

pub some_held : (o : Option (Entry ℕ)) → is_some o ≡ true → is_some (option_map held o) ≡ true
some_held None e = e
some_held (Some x) e = refl

pub some_copied : {A : Type 0} (o : Option (Bor A)) → is_some (option_copied o) ≡ true → is_some o ≡ true
some_copied None e = e
some_copied (Some x) e = refl
