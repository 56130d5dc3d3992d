-- The table by line numbers as a list of lines: what is at a place is the line of that number, a line that joins stands at the end, and a side that is a line leaves as gluing says.
use Prim.Native.Nat.{ℕ, zero, suc, ◌+◌, ◌-◌, ◌≤◌, ◌<◌}
use lib.ListN.{length, set}
use mathlib.Core.Path.{◌≡◌, refl, sym, ap, ◌∙◌, subst}
use mathlib.Core.Bool.{Bool, true, false, cond, ◌&&◌}
use mathlib.Core.List.{List, [], ◌∷◌, ◌++◌}
use native.Mathlib.Omega.{arith}
use Rattle.std.specs.Prelude.{nat_eq, Option, Some, None}
use Rattle.std.specs.Option.{option_map}
use Rattle.std.specs.List.{AllByRecursion, find}
use Rattle.state_law.specs.State.{glue_line, AreRising}
use Rattle.front_chain.specs.declared.side.Side.{Side}
use Rattle.front_chain.specs.contracts.side.SidePartialEq.TheImpl as eq
use Rattle.front_chain.specs.Front.{line_at, number_between}
use Rattle.front_chain.specs.Tables.{side_at, lines_from, leaving_of}

-- ---- sides and numbers
-- what `==` answers of two sides
abbrev pub same_side : Side → Side → Bool
same_side = eq.ghosts.eq

pub eq_self : (n : ℕ) → nat_eq n n ≡ true
eq_self n = grind arith

eq_other : (m n : ℕ) → (m ≡ n → ⊥) → nat_eq m n ≡ false
eq_other m n h = grind arith

pub eq_sound : (m n : ℕ) → nat_eq m n ≡ true → m ≡ n
eq_sound m n h = grind arith

clash : {A : Type 0} → true ≡ false → A
clash h = absurd (cc)

both : (a b : Bool) → (a && b) ≡ true → (a ≡ true) × (b ≡ true)
both true b h = (refl, h)
both false b h = clash (sym h)

pub same_self : (s : Side) → same_side s s ≡ true
same_self s = ap (λ b. b && nat_eq s.to s.to) (eq_self s.from) ∙ eq_self s.to

pub same_sound : (s t : Side) → same_side s t ≡ true → s ≡ t
same_sound s t h = let k = both (nat_eq s.from t.from) (nat_eq s.to t.to) h in λ i. record { from = eq_sound s.from t.from k.0 i; to = eq_sound s.to t.to k.1 i }

-- the ends of a side, as a line has them
abbrev pub ends : Side → ℕ × ℕ
ends s = (s.from, s.to)

-- ---- what stands at a place
line_below : (n k : ℕ) (made : List (Option Side)) → k < n → line_at (lines_from n made) k ≡ None
line_below n k [] h = refl
line_below n k (None ∷ made) h = line_below (n + 1) k made (omega arith)
line_below n k (Some s ∷ made) h = ap (λ b. option_map (λ (line : ℕ × ℕ × ℕ). (line.1, line.2)) (cond b (Some (n, s.from, s.to)) (find (λ line. nat_eq line.0 k) (lines_from (n + 1) made)))) (eq_other n k (λ e. omega (arith, h, e)))
    ∙ line_below (n + 1) k made (omega arith)

line_found : (n i : ℕ) (made : List (Option Side)) → line_at (lines_from n made) (n + i) ≡ option_map ends (side_at made i)
line_found n i [] = refl
line_found n zero (None ∷ made) = line_below (n + 1) (n + 0) made (omega arith)
line_found n zero (Some s ∷ made) = ap (λ b. option_map (λ (line : ℕ × ℕ × ℕ). (line.1, line.2)) (cond b (Some (n, s.from, s.to)) (find (λ line. nat_eq line.0 (n + 0)) (lines_from (n + 1) made)))) (itself n)
  where
    itself : (n : ℕ) → nat_eq n (n + 0) ≡ true
    itself n = grind arith
line_found n (suc i) (None ∷ made) = ap (line_at (lines_from (n + 1) made)) (later n i) ∙ line_found (n + 1) i made
  where
    later : (n i : ℕ) → n + suc i ≡ (n + 1) + i
    later n i = omega arith
line_found n (suc i) (Some s ∷ made) = ap (λ b. option_map (λ (line : ℕ × ℕ × ℕ). (line.1, line.2)) (cond b (Some (n, s.from, s.to)) (find (λ line. nat_eq line.0 (n + suc i)) (lines_from (n + 1) made)))) (past n i)
    ∙ ap (line_at (lines_from (n + 1) made)) (later n i) ∙ line_found (n + 1) i made
  where
    past : (n i : ℕ) → nat_eq n (n + suc i) ≡ false
    past n i = grind arith

    later : (n i : ℕ) → n + suc i ≡ (n + 1) + i
    later n i = omega arith

-- the line with a number is what stands at its place
pub line_numbered : (made : List (Option Side)) (n : ℕ) → 1 ≤ n → line_at (lines_from 1 made) n ≡ option_map ends (side_at made (n - 1))
line_numbered made n h = ap (line_at (lines_from 1 made)) (back n h) ∙ line_found 1 (n - 1) made
  where
    back : (n : ℕ) → 1 ≤ n → n ≡ 1 + (n - 1)
    back n h = omega arith

pub no_line_zero : (made : List (Option Side)) → line_at (lines_from 1 made) 0 ≡ None
no_line_zero made = line_below 1 0 made (omega arith)

-- past the table there is none
pub past_end : (made : List (Option Side)) (i : ℕ) → length made ≤ i → side_at made i ≡ None
past_end [] i h = refl
past_end (m ∷ made) zero h = absurd (omega (arith, h))
past_end (m ∷ made) (suc i) h = past_end made i (omega (arith, h))

-- ---- a side that is no line
-- no place has the side
abbrev pub IsNowhere : List (Option Side) → Side → Type 0
IsNowhere made s = (i : ℕ) → side_at made i ≡ Some s → ⊥

other_side : (t s : Side) → (t ≡ s → ⊥) → same_side t s ≡ false
other_side t s h = by (same_side t s) refl
  where
    by : (b : Bool) → same_side t s ≡ b → b ≡ false
    by true e = absurd (h (same_sound t s e))
    by false e = refl

pub number_absent : (n : ℕ) (made : List (Option Side)) (s : Side) → IsNowhere made s → number_between (lines_from n made) s.from s.to ≡ None
number_absent n [] s h = refl
number_absent n (None ∷ made) s h = number_absent (n + 1) made s (λ i e. h (suc i) e)
number_absent n (Some t ∷ made) s h = ap (λ b. option_map (λ (line : ℕ × ℕ × ℕ). line.0) (cond b (Some (n, t.from, t.to)) (find (λ line. nat_eq line.1 s.from && nat_eq line.2 s.to) (lines_from (n + 1) made)))) (other_side t s (λ e. h zero (ap Some e)))
    ∙ number_absent (n + 1) made s (λ i e. h (suc i) e)

-- ---- a side that is a line
-- the place is the first that has the side
pub record IsFirstAt (made : List (Option Side)) (s : Side) (i : ℕ) : Type 0 where
  pub here : side_at made i ≡ Some s
  pub not_before : (j : ℕ) → j < i → side_at made j ≡ Some s → ⊥

rest_first : (m : Option Side) (made : List (Option Side)) (s : Side) (i : ℕ) → IsFirstAt (m ∷ made) s (suc i) → IsFirstAt made s i
rest_first m made s i h = record { here = h.here; not_before = λ j l e. h.not_before (suc j) (omega arith) e }

not_first : (t : Side) (made : List (Option Side)) (s : Side) (i : ℕ) → IsFirstAt (Some t ∷ made) s (suc i) → same_side t s ≡ false
not_first t made s i h = other_side t s (λ e. h.not_before zero (omega arith) (ap Some e))

pub some_side : (s t : Side) → Some s ≡ Some t → s ≡ t
some_side s t e = cc

pub no_side : {A : Type 0} (s : Side) → None ≡ Some s → A
no_side s e = absurd (cc)

itself : (t s : Side) → Some t ≡ Some s → same_side t s ≡ true
itself t s e = subst (λ u. same_side t u ≡ true) (some_side t s e) (same_self t)

pub number_present : (n i : ℕ) (made : List (Option Side)) (s : Side) → IsFirstAt made s i → number_between (lines_from n made) s.from s.to ≡ Some (n + i)
number_present n i [] s h = no_side s h.here
number_present n zero (None ∷ made) s h = no_side s h.here
number_present n zero (Some t ∷ made) s h = ap (λ b. option_map (λ (line : ℕ × ℕ × ℕ). line.0) (cond b (Some (n, t.from, t.to)) (find (λ line. nat_eq line.1 s.from && nat_eq line.2 s.to) (lines_from (n + 1) made)))) (itself t s h.here) ∙ ap Some (plain n)
  where
    plain : (n : ℕ) → n ≡ n + 0
    plain n = omega arith
number_present n (suc i) (None ∷ made) s h = number_present (n + 1) i made s (rest_first None made s i h) ∙ ap Some (later n i)
  where
    later : (n i : ℕ) → (n + 1) + i ≡ n + suc i
    later n i = omega arith
number_present n (suc i) (Some t ∷ made) s h = ap (λ b. option_map (λ (line : ℕ × ℕ × ℕ). line.0) (cond b (Some (n, t.from, t.to)) (find (λ line. nat_eq line.1 s.from && nat_eq line.2 s.to) (lines_from (n + 1) made)))) (not_first t made s i h)
    ∙ number_present (n + 1) i made s (rest_first (Some t) made s i h) ∙ ap Some (later n i)
  where
    later : (n i : ℕ) → (n + 1) + i ≡ n + suc i
    later n i = omega arith

pub glue_present : (n i next : ℕ) (made : List (Option Side)) (s : Side) → IsFirstAt made s i → glue_line (lines_from n made) next (s.from, s.to) ≡ lines_from n (set made i None)
glue_present n i next [] s h = no_side s h.here
glue_present n zero next (None ∷ made) s h = no_side s h.here
glue_present n zero next (Some t ∷ made) s h = ap (λ b. elim b [ true ↦ lines_from (n + 1) made | false ↦ (n, t.from, t.to) ∷ glue_line (lines_from (n + 1) made) next (s.from, s.to) ]) (itself t s h.here)
glue_present n (suc i) next (None ∷ made) s h = glue_present (n + 1) i next made s (rest_first None made s i h)
glue_present n (suc i) next (Some t ∷ made) s h = ap (λ b. elim b [ true ↦ lines_from (n + 1) made | false ↦ (n, t.from, t.to) ∷ glue_line (lines_from (n + 1) made) next (s.from, s.to) ]) (not_first t made s i h)
    ∙ ap (λ ls. (n, t.from, t.to) ∷ ls) (glue_present (n + 1) i next made s (rest_first (Some t) made s i h))

-- ---- a line that joins, and how many leave a point
pub lines_push : (n : ℕ) (made : List (Option Side)) (t : Side) → lines_from n (made ++ Some t ∷ []) ≡ lines_from n made ++ (n + length made, t.from, t.to) ∷ []
lines_push n [] t = ap (λ (m : ℕ). (m, t.from, t.to) ∷ []) (plain n)
  where
    plain : (n : ℕ) → n ≡ n + 0
    plain n = omega arith
lines_push n (None ∷ made) t = lines_push (n + 1) made t ∙ ap (λ (m : ℕ). lines_from (n + 1) made ++ (m, t.from, t.to) ∷ []) (later n (length made))
  where
    later : (n k : ℕ) → (n + 1) + k ≡ n + suc k
    later n k = omega arith
lines_push n (Some s ∷ made) t = ap (λ ls. (n, s.from, s.to) ∷ ls) (lines_push (n + 1) made t ∙ ap (λ (m : ℕ). lines_from (n + 1) made ++ (m, t.from, t.to) ∷ []) (later n (length made)))
  where
    later : (n k : ℕ) → (n + 1) + k ≡ n + suc k
    later n k = omega arith

pub leaving_more : (lines : List (ℕ × ℕ × ℕ)) (m a b p : ℕ) → leaving_of (lines ++ (m, a, b) ∷ []) p ≡ leaving_of lines p + cond (nat_eq a p) 1 0
leaving_more [] m a b p = plain (cond (nat_eq a p) 1 0)
  where
    plain : (n : ℕ) → n + 0 ≡ 0 + n
    plain n = omega arith
leaving_more (line ∷ lines) m a b p = ap (λ (k : ℕ). cond (nat_eq line.1 p) 1 0 + k) (leaving_more lines m a b p) ∙ grouped (cond (nat_eq line.1 p) 1 0) (leaving_of lines p) (cond (nat_eq a p) 1 0)
  where
    grouped : (a b c : ℕ) → a + (b + c) ≡ (a + b) + c
    grouped a b c = omega arith

pub leaving_less : (p n i : ℕ) (made : List (Option Side)) (s : Side) → side_at made i ≡ Some s → leaving_of (lines_from n (set made i None)) p + cond (nat_eq s.from p) 1 0 ≡ leaving_of (lines_from n made) p
leaving_less p n i [] s h = no_side s h
leaving_less p n zero (None ∷ made) s h = no_side s h
leaving_less p n zero (Some t ∷ made) s h = turned (leaving_of (lines_from (n + 1) made) p) (cond (nat_eq s.from p) 1 0) ∙ ap (λ (u : Side). cond (nat_eq u.from p) 1 0 + leaving_of (lines_from (n + 1) made) p) (sym (some_side t s h))
  where
    turned : (a b : ℕ) → a + b ≡ b + a
    turned a b = omega arith
leaving_less p n (suc i) (None ∷ made) s h = leaving_less p (n + 1) i made s h
leaving_less p n (suc i) (Some t ∷ made) s h = grouped (cond (nat_eq t.from p) 1 0) (leaving_of (lines_from (n + 1) (set made i None)) p) (cond (nat_eq s.from p) 1 0) ∙ ap (λ (k : ℕ). cond (nat_eq t.from p) 1 0 + k) (leaving_less p (n + 1) i made s h)
  where
    grouped : (a b c : ℕ) → (a + b) + c ≡ a + (b + c)
    grouped a b c = omega arith

-- ---- numbers rise
pub all_above : (m n : ℕ) (made : List (Option Side)) → m < n → AllByRecursion (λ (other : ℕ × ℕ × ℕ). m < other.0) (lines_from n made)
all_above m n [] h = tt
all_above m n (None ∷ made) h = all_above m (n + 1) made (omega arith)
all_above m n (Some s ∷ made) h = (h, all_above m (n + 1) made (omega arith))

pub lines_rise : (n : ℕ) (made : List (Option Side)) → AreRising (lines_from n made) (n + length made)
lines_rise n [] = tt
lines_rise n (None ∷ made) = subst (AreRising (lines_from (n + 1) made)) (later n (length made)) (lines_rise (n + 1) made)
  where
    later : (n k : ℕ) → (n + 1) + k ≡ n + suc k
    later n k = omega arith
lines_rise n (Some s ∷ made) = (all_above n (n + 1) made (omega arith), below n (length made), subst (AreRising (lines_from (n + 1) made)) (later n (length made)) (lines_rise (n + 1) made))
  where
    below : (n k : ℕ) → n < n + suc k
    below n k = omega arith

    later : (n k : ℕ) → (n + 1) + k ≡ n + suc k
    later n k = omega arith
