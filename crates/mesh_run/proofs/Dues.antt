-- What is due, as refusals are remembered and forgotten, and as a front changes.
use Rattle.std.proofs.Common.{◌≡◌, ℕ, zero, suc, ◌+◌, ◌-◌, ◌*◌, ◌<◌, ◌≤◌, max, Bool, true, false, ◌&&◌, not, nat_eq, nat_lt, cond, filter, List, [], ◌∷◌, length, slice_index_or, refl, sym, ap, ◌∙◌, arith, Contains}
use Rattle.std.specs.List.{AllByRecursion}
use Rattle.state_law.specs.State.{State, does_join, glue_line, glue_lines, glued, next_after, next_after_all, number_sides}
use Rattle.front_chain.proofs.Lines.{eq_self}
use Rattle.admission.specs.Admission.{glued_on}
use Rattle.rule_match.specs.declared.application.Application.{Application}
use Rattle.mesh_run.specs.Steps.{applied, with_points}
use Rattle.mesh_run.specs.Worklist.{least_open}
use Rattle.mesh_run.specs.Trials.{due, due_at, joined}
use Rattle.mesh_run.proofs.StillNone.{Triple, next_rises}

-- ---- sums over a list of lines
abbrev pub total : (Triple → ℕ) → List Triple → ℕ
total f [] = 0
total f (line ∷ lines) = f line + total f lines

pub due_total : (last : ℕ) (refused : List ℕ) (front : List Triple) → due last refused front ≡ total (due_at last refused) front
due_total last refused [] = refl
due_total last refused (line ∷ front) = ap (λ (n : ℕ). due_at last refused line + n) (due_total last refused front)

-- where each number is no greater, the sum isn't
pub no_greater : (f g : Triple → ℕ) (lines : List Triple) → AllByRecursion (λ line. f line ≤ g line) lines → total f lines ≤ total g lines
no_greater f g [] h = omega arith
no_greater f g (line ∷ lines) h = let more = no_greater f g lines h.1 in let here = h.0 in omega (arith, here, more)

-- a line that passes a test counts n more at most
pub counted : (f g : Triple → ℕ) (n : ℕ) (p : Triple → Bool) (lines : List Triple) → AllByRecursion (λ line. f line ≤ g line + cond (p line) n 0) lines → total f lines ≤ total g lines + n * length (filter p lines)
counted f g n p [] h = omega arith
counted f g n p (line ∷ lines) h = by (p line) h.0 (counted f g n p lines h.1)
  where
    by : (b : Bool) → f line ≤ g line + cond b n 0 → total f lines ≤ total g lines + n * length (filter p lines) → f line + total f lines ≤ g line + total g lines + n * length (cond b (line ∷ filter p lines) (filter p lines))
    by true here more = omega (arith, here, more)
    by false here more = omega (arith, here, more)

-- ---- a trial that finds nothing
-- a line that is refused at its least open class has one pair less
pub one_less_at : (last class : ℕ) (before after : List ℕ) (line : Triple) → class ≤ last → class ≡ least_open before line.0 → slice_index_or after line.0 0 ≡ class + 1 → due_at last after line + 1 ≡ due_at last before line
one_less_at last class before after line l e there = less (slice_index_or after line.0 0) there
  where
    less : (n : ℕ) → n ≡ class + 1 → last + 1 - max 1 n + 1 ≡ last + 1 - least_open before line.0
    less n f = omega (arith, l, e, f)

-- ---- an application
-- a sum that counts no new line doesn't grow as a front is glued to
module _ (f : Triple → ℕ) (first : ℕ) (none : (line : Triple) → first ≤ line.0 → f line ≡ 0) where
  one_glued : (front : List Triple) (next : ℕ) (s : ℕ × ℕ) → first ≤ next → total f (glue_line front next s) ≤ total f front
  one_glued [] next s l = let new = none (next, s.1, s.0) l in omega (arith, new)
  one_glued (line ∷ front) next s l = by (does_join line s) (one_glued front next s l)
    where
      by : (b : Bool) → total f (glue_line front next s) ≤ total f front → total f (elim b [ true ↦ front | false ↦ line ∷ glue_line front next s ]) ≤ f line + total f front
      by true h = omega arith
      by false h = omega (arith, h)

  lines_glued : (front : List Triple) (next : ℕ) (ss : List (ℕ × ℕ)) → first ≤ next → (total f (glue_lines front next ss) ≤ total f front) × (first ≤ next_after_all front next ss)
  lines_glued front next [] l = (level (total f front), l)
    where
      level : (n : ℕ) → n ≤ n
      level n = omega arith
  lines_glued front next (s ∷ ss) l =
      let more = next_rises front next s in
      let one = one_glued front next s l in
      let rest = lines_glued (glue_line front next s) (next_after front next s) ss (omega (arith, more, l)) in
      (chained _ _ _ rest.0 one, rest.1)
    where
      chained : (m n k : ℕ) → m ≤ n → n ≤ k → m ≤ k
      chained m n k h i = omega (arith, h, i)

  pub elements_glued : (w : State) (els : List (List ℕ)) → first ≤ w.next → total f (glued_on w els).front ≤ total f w.front
  elements_glued w [] l = level (total f w.front)
    where
      level : (n : ℕ) → n ≤ n
      level n = omega arith
  elements_glued w (ns ∷ els) l =
      let one = lines_glued w.front w.next (number_sides ns) l in
      chained (total f (glued_on (glued w ns) els).front) (total f (glued w ns).front) (total f w.front) (elements_glued (glued w ns) els one.1) one.0
    where
      chained : (m n k : ℕ) → m ≤ n → n ≤ k → m ≤ k
      chained m n k h i = omega (arith, h, i)

-- a line that is left out takes its number from the sum
pub left_out : (f g : Triple → ℕ) (lines : List Triple) (line : Triple) → AllByRecursion (λ other. g other ≤ f other) lines → Contains lines line → g line ≡ 0 → total g lines + f line ≤ total f lines
left_out f g lines line h c zero_there = at lines h c.0 c.1 c.2
  where
    at : (lines : List Triple) → AllByRecursion (λ other. g other ≤ f other) lines → (k : ℕ) → k < length lines → slice_index_or lines k line ≡ line → total g lines + f line ≤ total f lines
    at [] h k w e = absurd (omega (arith, w))
    at (x ∷ xs) h zero w e =
        let more = no_greater g f xs h.1 in
        let none : g x ≡ 0 = ap g e ∙ zero_there in
        let same : f line ≡ f x = sym (ap f e) in
        omega (arith, more, none, same)
    at (x ∷ xs) h (suc k) w e = let more = at xs h.1 k (omega (arith, w)) e in let here = h.0 in omega (arith, more, here)

-- ---- what is due after an application
module _ (last : ℕ) (before after : List ℕ) (st : State) (a : Application) (base : Triple) (q : Triple → Bool) where
  abbrev pub is_new : Triple → Bool
  is_new line = not (nat_lt line.0 st.next)

  -- what was due of a line that was there and isn't the base line
  abbrev pub as_before : Triple → ℕ
  as_before line = cond (nat_lt line.0 st.next && not (nat_eq line.0 base.0)) (due_at last before line) 0

  none_new : (line : Triple) → st.next ≤ line.0 → as_before line ≡ 0
  none_new line l = by (nat_lt line.0 st.next) refl
    where
      wrong : (m n : ℕ) → n ≤ m → nat_lt m n ≡ true → ⊥
      wrong m n l e = grind arith

      by : (b : Bool) → nat_lt line.0 st.next ≡ b → cond (b && not (nat_eq line.0 base.0)) (due_at last before line) 0 ≡ 0
      by true e = absurd (wrong line.0 st.next l e)
      by false e = refl

  none_of_base : as_before base ≡ 0
  none_of_base = by (nat_lt base.0 st.next) (nat_eq base.0 base.0) (eq_self base.0)
    where
      wrong : false ≡ true → ⊥
      wrong e = cc

      by : (b c : Bool) → c ≡ true → cond (b && not c) (due_at last before base) 0 ≡ 0
      by true true e = refl
      by false true e = refl
      by b false e = absurd (wrong e)

  no_more : (lines : List Triple) → AllByRecursion (λ line. as_before line ≤ due_at last before line) lines
  no_more [] = tt
  no_more (line ∷ lines) = (by (nat_lt line.0 st.next && not (nat_eq line.0 base.0)), no_more lines)
    where
      by : (b : Bool) → cond b (due_at last before line) 0 ≤ due_at last before line
      by true = omega arith
      by false = omega arith

  same : (f : Triple → ℕ) (lines : List Triple) → AllByRecursion (λ line. f line ≤ f line) lines
  same f [] = tt
  same f (line ∷ lines) = (omega arith, same f lines)

  -- each line after it is new, or passes the test, or has no more due than before and isn't the base line: so the base line's pairs pay for the trial that found the application
  pub paid_front : Contains st.front base → 1 ≤ due_at last before base
      → AllByRecursion (λ line. due_at last after line ≤ as_before line + cond (is_new line) last 0 + cond (q line) last 0) (applied st a).front
      → due last after (applied st a).front + 1 ≤ due last before st.front + last * length (joined st a) + last * length (filter q (applied st a).front)
  paid_front c positive h =
      let later = (applied st a).front in
      let mid : Triple → ℕ = λ line. as_before line + cond (is_new line) last 0 in
      let first = counted (due_at last after) mid last q later h in
      let second = counted mid as_before last is_new later (same mid later) in
      let third = elements_glued as_before st.next none_new (with_points st a.made) a.elements (level st.next) in
      let fourth = left_out (due_at last before) as_before st.front base (no_more st.front) c none_of_base in
      sum (due last after later) (due last before st.front) (total (due_at last after) later) (total (due_at last before) st.front) (total mid later) (total as_before later) (total as_before st.front)
      (due_total last after later) (due_total last before st.front) first second third fourth positive
    where
      level : (n : ℕ) → n ≤ n
      level n = omega arith

      sum : (d e t u m x y : ℕ) → d ≡ t → e ≡ u → t ≤ m + last * length (filter q (applied st a).front) → m ≤ x + last * length (joined st a) → x ≤ y → y + due_at last before base ≤ u → 1 ≤ due_at last before base
          → d + 1 ≤ e + last * length (joined st a) + last * length (filter q (applied st a).front)
      sum d e t u m x y i j f s k l p = omega (arith, i, j, f, s, k, l, p)
