-- A table by number as the list of what it gives at the numbers from 1 on: one entry more, one entry gone, what stands at a place, and the least number of a line above another.
use Prim.Native.Nat.{ℕ, zero, suc, ◌+◌, ◌-◌, ◌≤◌, ◌<◌}
use lib.ListN.{length, set, get_or}
use lib.Seq.{ext_get_or, get_or-set_same, get_or-set_other, get_or-append_right}
use mathlib.Core.Path.{◌≡◌, refl, sym, ap, ◌∙◌, subst}
use mathlib.Core.Bool.{Bool, true, false, cond}
use mathlib.Core.List.{[], ◌∷◌, ◌++◌}
use mathlib.Core.Logic.{◌≢◌, ◌⊎◌, inl, inr}
use native.Mathlib.Omega.{arith}
use Rattle.std.specs.Prelude.{nat_eq, is_some, min, ◌^◌, Option, Some, None}
use Rattle.std.specs.Option.{option_map}
use Rattle.std.proofs.lemmas.List.{length-append, length-set, get_or_append_left}
use Rattle.front_chain.specs.declared.side.Side.{Side}
use Rattle.front_chain.specs.declared.order.Link.{Link}
use Rattle.front_chain.specs.Front.{line_at, number_above}
use Rattle.front_chain.specs.Tables.{side_at, lines_from}
use Rattle.front_chain.specs.Links.{tabled, sides_in, IsMade, IsNext, AreLinked}
use Rattle.front_chain.proofs.Lines.{ends, line_numbered, no_line_zero, past_end}
use Rattle.front_chain.proofs.Above.{gone_above, found_some}
use Rattle.front_chain.proofs.Neighbours.{Table, some_map}

-- ---- places
pub length_tabled : (t : ℕ → Option Side) (n : ℕ) → length (tabled t n) ≡ n
length_tabled t zero = refl
length_tabled t (suc n) = length-append (tabled t n) (t (suc n) ∷ []) ∙ one_more (length (tabled t n)) n (length_tabled t n)
  where
    one_more : (k n : ℕ) → k ≡ n → k + 1 ≡ suc n
    one_more k n e = omega (arith, e)

pub at_place : (t : ℕ → Option Side) (n i : ℕ) → i < n → side_at (tabled t n) i ≡ t (i + 1)
at_place t zero i l = absurd (omega (arith, l))
at_place t (suc n) i l = elim (compared i n l) [
  | inl k ↦ get_or_append_left (tabled t n) (t (suc n) ∷ []) None i (subst (λ (m : ℕ). i < m) (sym (length_tabled t n)) k) ∙ at_place t n i k
  | inr e ↦ get_or-append_right (tabled t n) (t (suc n) ∷ []) i None (at_end i n (length (tabled t n)) e (length_tabled t n)) ∙ ap (λ (j : ℕ). get_or (t (suc n) ∷ []) j None) (none i n (length (tabled t n)) e (length_tabled t n)) ∙ ap t (its i n e)
]
  where
    compared : (i n : ℕ) → i < suc n → (i < n) ⊎ (i ≡ n)
    compared i n l = grind arith

    at_end : (i n k : ℕ) → i ≡ n → k ≡ n → k ≤ i
    at_end i n k e f = omega (arith, e, f)

    none : (i n k : ℕ) → i ≡ n → k ≡ n → i - k ≡ 0
    none i n k e f = omega (arith, e, f)

    its : (i n : ℕ) → i ≡ n → suc n ≡ i + 1
    its i n e = omega (arith, e)

-- what stands at a number's place
pub at_number : (t : ℕ → Option Side) (count n : ℕ) → 1 ≤ n → n ≤ count → side_at (tabled t count) (n - 1) ≡ t n
at_number t count n l k = at_place t count (n - 1) (inside n count l k) ∙ ap t (back n l)
  where
    inside : (n c : ℕ) → 1 ≤ n → n ≤ c → n - 1 < c
    inside n c l k = omega (arith, l, k)

    back : (n : ℕ) → 1 ≤ n → (n - 1) + 1 ≡ n
    back n l = omega (arith, l)

-- ---- changes
same_below : (t u : ℕ → Option Side) (n : ℕ) → ((q : ℕ) → q ≤ n → u q ≡ t q) → tabled u n ≡ tabled t n
same_below t u zero h = refl
same_below t u (suc n) h = λ i. same_below t u n (λ q l. h q (up q n l)) i ++ h (suc n) (itself (suc n)) i ∷ []
  where
    up : (q n : ℕ) → q ≤ n → q ≤ suc n
    up q n l = omega (arith, l)

    itself : (n : ℕ) → n ≤ n
    itself n = omega arith

-- one entry more
pub tabled_more : (t u : ℕ → Option Side) (n : ℕ) (side : Side) → ((q : ℕ) → u q ≡ cond (nat_eq (n + 1) q) (Some side) (t q)) → tabled u (n + 1) ≡ tabled t n ++ Some side ∷ []
tabled_more t u n side h = ap (tabled u) (next n) ∙ (λ i. same_below t u n (λ q l. h q ∙ ap (λ b. cond b (Some side) (t q)) (other n q l)) i ++ (ap u (sym (next n)) ∙ h (n + 1) ∙ ap (λ b. cond b (Some side) (t (n + 1))) (itself (n + 1))) i ∷ [])
  where
    next : (n : ℕ) → n + 1 ≡ suc n
    next n = omega arith

    other : (n q : ℕ) → q ≤ n → nat_eq (n + 1) q ≡ false
    other n q l = grind arith

    itself : (n : ℕ) → nat_eq n n ≡ true
    itself n = grind arith

-- one entry gone
pub tabled_less : (t u : ℕ → Option Side) (count n : ℕ) → 1 ≤ n → n ≤ count → ((q : ℕ) → u q ≡ cond (nat_eq n q) None (t q)) → tabled u count ≡ set (tabled t count) (n - 1) None
tabled_less t u count n l k h = ext_get_or None (tabled u count) (set (tabled t count) (n - 1) None) (length_tabled u count ∙ sym (length-set (tabled t count) (n - 1) None ∙ length_tabled t count))
    (λ i j. each i (subst (λ (m : ℕ). i < m) (length_tabled u count) j) (nat_eq n (i + 1)) refl)
  where
    inside : (n c m : ℕ) → 1 ≤ n → n ≤ c → m ≡ c → n - 1 < m
    inside n c m l k e = omega (arith, l, k, e)

    its : (n i : ℕ) → nat_eq n (i + 1) ≡ true → n - 1 ≡ i
    its n i e = grind arith

    other : (n i : ℕ) → 1 ≤ n → nat_eq n (i + 1) ≡ false → i ≢ n - 1
    other n i l e f = grind arith

    each : (i : ℕ) → i < count → (b : Bool) → nat_eq n (i + 1) ≡ b → get_or (tabled u count) i None ≡ get_or (set (tabled t count) (n - 1) None) i None
    each i j true e = at_place u count i j ∙ h (i + 1) ∙ ap (λ b. cond b None (t (i + 1))) e ∙ sym (get_or-set_same (tabled t count) (n - 1) None None (inside n count (length (tabled t count)) l k (length_tabled t count))) ∙ ap (λ (m : ℕ). get_or (set (tabled t count) (n - 1) None) m None) (its n i e)
    each i j false e = at_place u count i j ∙ h (i + 1) ∙ ap (λ b. cond b None (t (i + 1))) e ∙ sym (at_place t count i j) ∙ sym (get_or-set_other (tabled t count) (n - 1) i None None (other n i l e))

-- where a line may be added, its number has room
pub one_number_more : (room count spare : ℕ) → min room (2 ^ 64 - 2 - count) ≡ spare → 0 < spare → count + 1 < 2 ^ 64 - 1
one_number_more room count spare e l = grind arith

-- ---- lines
abbrev pub link_ends : Link → ℕ × ℕ
link_ends l = (l.side.from, l.side.to)

-- the line with a number, as the table has it
pub line_tabled : (links : Table) (count first last n : ℕ) → AreLinked links count first last → line_at (lines_from 1 (tabled (sides_in links) count)) n ≡ option_map link_ends (links n)
line_tabled links count first last n h = by (compared n count)
  where
    compared : (n c : ℕ) → ((1 ≤ n) × (n ≤ c)) ⊎ ((n ≡ 0) ⊎ (c < n))
    compared n c = grind arith

    image : (o : Option Link) → option_map ends (option_map (λ (l : Link). l.side) o) ≡ option_map link_ends o
    image None = refl
    image (Some l) = refl

    absent : ((n ≡ 0) ⊎ (count < n)) → (o : Option Link) → links n ≡ o → None ≡ option_map link_ends o
    absent out None e = refl
    absent out (Some l) e = absurd (not_both n count out (h.within n (ap is_some e)))
      where
        not_both : (n c : ℕ) → ((n ≡ 0) ⊎ (c < n)) → (1 ≤ n) × (n ≤ c) → ⊥
        not_both n c (inl e) k = omega (arith, e, k.0)
        not_both n c (inr l) k = omega (arith, l, k.1)

    nothing : ((n ≡ 0) ⊎ (count < n)) → line_at (lines_from 1 (tabled (sides_in links) count)) n ≡ None
    nothing (inl e) = ap (line_at (lines_from 1 (tabled (sides_in links) count))) e ∙ no_line_zero (tabled (sides_in links) count)
    nothing (inr l) = line_numbered (tabled (sides_in links) count) n (least n count l) ∙ ap (option_map ends) (past_end (tabled (sides_in links) count) (n - 1) (past n count (length (tabled (sides_in links) count)) l (length_tabled (sides_in links) count)))
      where
        least : (n c : ℕ) → c < n → 1 ≤ n
        least n c l = omega (arith, l)

        past : (n c k : ℕ) → c < n → k ≡ c → k ≤ n - 1
        past n c k l e = omega (arith, l, e)

    by : ((1 ≤ n) × (n ≤ count)) ⊎ ((n ≡ 0) ⊎ (count < n)) → line_at (lines_from 1 (tabled (sides_in links) count)) n ≡ option_map link_ends (links n)
    by (inl k) = line_numbered (tabled (sides_in links) count) n k.0 ∙ ap (option_map ends) (at_number (sides_in links) count n k.0 k.1) ∙ image (links n)
    by (inr k) = nothing k ∙ absent k (links n) refl

-- where a place has a line, its number is one of the table's
pub made_tabled : (links : Table) (count n : ℕ) → 1 ≤ n → is_some (side_at (tabled (sides_in links) count) (n - 1)) ≡ true → IsMade links n
made_tabled links count n l e = elim (compared n count) [
  | inl k ↦ sym (ap is_some (at_number (sides_in links) count n l k) ∙ some_map (λ (k : Link). k.side) (links n)) ∙ e
  | inr k ↦ clash (sym (ap is_some (past_end (tabled (sides_in links) count) (n - 1) (past n count (length (tabled (sides_in links) count)) k (length_tabled (sides_in links) count)))) ∙ e)
]
  where
    compared : (n c : ℕ) → (n ≤ c) ⊎ (c < n)
    compared n c = grind arith

    past : (n c k : ℕ) → c < n → k ≡ c → k ≤ n - 1
    past n c k l e = omega (arith, l, e)

    clash : {A : Type 0} → false ≡ true → A
    clash e = absurd (cc)

-- a walk that has not passed the least line above `after` stands at n, or at the end where n is 0
pub record IsAhead (links : Table) (after n : ℕ) : Type 0 where
  pub there : (n ≡ 0) ⊎ IsMade links n
  pub between : (k : ℕ) → IsMade links k → after < k → (n ≢ 0) × (n ≤ k)

-- the least number above, where the walk is past `after`
pub above_tabled : (links : Table) (count first last after n : ℕ) → AreLinked links count first last → IsAhead links after n → (n ≡ 0) ⊎ (after < n) → cond (nat_eq n 0) None (Some n) ≡ number_above (lines_from 1 (tabled (sides_in links) count)) after
above_tabled links count first last after n h a past = by (compared n) past a.there
  where
    compared : (n : ℕ) → (n ≡ 0) ⊎ (1 ≤ n)
    compared n = grind arith

    zero_is : (n : ℕ) → n ≡ 0 → nat_eq n 0 ≡ true
    zero_is n e = grind arith

    not_zero : (n : ℕ) → 1 ≤ n → nat_eq n 0 ≡ false
    not_zero n l = grind arith

    back : (n : ℕ) → 1 ≤ n → (n - 1) + 1 ≡ n
    back n l = omega (arith, l)

    -- a place past `after` that the walk leaves behind has no line
    gone : (j : ℕ) → after ≤ j → j < count → (IsMade links (j + 1) → ⊥) → side_at (tabled (sides_in links) count) j ≡ None
    gone j l k unmade = at_place (sides_in links) count j k ∙ at (links (j + 1)) refl
      where
        at : (o : Option Link) → links (j + 1) ≡ o → option_map (λ (l : Link). l.side) o ≡ None
        at None e = refl
        at (Some l) e = absurd (unmade (ap is_some e))

    above : (j : ℕ) → after ≤ j → after < j + 1
    above j l = omega (arith, l)

    by : (n ≡ 0) ⊎ (1 ≤ n) → (n ≡ 0) ⊎ (after < n) → (n ≡ 0) ⊎ IsMade links n → cond (nat_eq n 0) None (Some n) ≡ number_above (lines_from 1 (tabled (sides_in links) count)) after
    by (inl e) p t = ap (λ b. cond b None (Some n)) (zero_is n e) ∙ sym (gone_above (tabled (sides_in links) count) after count (equal (length (tabled (sides_in links) count)) count (length_tabled (sides_in links) count)) (λ j l k. gone j l k (λ m. (a.between (j + 1) m (above j l)).0 e)))
      where
        equal : (k c : ℕ) → k ≡ c → k ≤ c
        equal k c e = omega (arith, e)
    by (inr l) (inl e) t = absurd (none n l e)
      where
        none : (n : ℕ) → 1 ≤ n → n ≡ 0 → ⊥
        none n l e = omega (arith, l, e)
    by (inr l) (inr p) (inl e) = absurd (none n l e)
      where
        none : (n : ℕ) → 1 ≤ n → n ≡ 0 → ⊥
        none n l e = omega (arith, l, e)
    by (inr l) (inr p) (inr m) =
        let in_table = (h.within n m).1 in
        ap (λ b. cond b None (Some n)) (not_zero n l) ∙ ap Some (sym (back n l))
        ∙ sym (found_some (tabled (sides_in links) count) after (n - 1) (before after n p) (ap is_some (at_number (sides_in links) count n l in_table) ∙ some_map (λ (k : Link). k.side) (links n) ∙ m)
        (λ j k i. gone j k (inside j n count i in_table) (λ made. passed j n i (a.between (j + 1) made (above j k)).1)))
      where
        before : (a n : ℕ) → a < n → a ≤ n - 1
        before a n l = omega (arith, l)

        inside : (j n c : ℕ) → j < n - 1 → n ≤ c → j < c
        inside j n c l k = omega (arith, l, k)

        passed : (j n : ℕ) → j < n - 1 → n ≤ j + 1 → ⊥
        passed j n l k = omega (arith, l, k)

-- the walk goes on to the next line
pub ahead_next : (links : Table) (after m n : ℕ) → IsNext links m n → m ≤ after → IsAhead links after n
ahead_next links after m n h l = record {
  there = elim h.to [ inl e ↦ inl e | inr k ↦ inr k.0 ];
  between = λ k j i. h.between k j (past m after k l i);
}
  where
    past : (m a k : ℕ) → m ≤ a → a < k → m < k
    past m a k l i = omega (arith, l, i)

-- numbers rise along the walk, so it has at most so many steps to go
abbrev pub steps_left : ℕ → ℕ → ℕ
steps_left count n = cond (nat_eq n 0) 0 (count + 1 - n)

pub fewer_steps : (links : Table) (count first last m n : ℕ) → AreLinked links count first last → IsMade links m → IsNext links m n → steps_left count n < steps_left count m
fewer_steps links count first last m n h k i = subst (λ (z : ℕ). steps_left count n < z) (sym (ap (λ b. cond b 0 (count + 1 - m)) (not_zero m (h.within m k).0))) (by i.to)
  where
    not_zero : (m : ℕ) → 1 ≤ m → nat_eq m 0 ≡ false
    not_zero m l = grind arith

    zero_is : (m : ℕ) → m ≡ 0 → nat_eq m 0 ≡ true
    zero_is m e = grind arith

    some_left : (m c : ℕ) → m ≤ c → 0 < c + 1 - m
    some_left m c l = omega (arith, l)

    less : (m n c : ℕ) → m < n → n ≤ c → c + 1 - n < c + 1 - m
    less m n c l j = omega (arith, l, j)

    by : (n ≡ 0) ⊎ (IsMade links n × (m < n)) → steps_left count n < count + 1 - m
    by (inl e) = subst (λ (z : ℕ). z < count + 1 - m) (sym (ap (λ b. cond b 0 (count + 1 - n)) (zero_is n e))) (some_left m count (h.within m k).1)
    by (inr o) = subst (λ (z : ℕ). z < count + 1 - m) (sym (ap (λ b. cond b 0 (count + 1 - n)) (not_zero n (h.within n o.0).0))) (less m n count o.1 (h.within n o.0).1)

pub beyond : (links : Table) (m n : ℕ) → IsNext links m n → (n ≡ 0) ⊎ (m < n)
beyond links m n h = elim h.to [ inl e ↦ inl e | inr k ↦ inr k.1 ]
