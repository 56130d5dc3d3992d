-- A search that takes the front lines by rising numbers passes no line: between a line and the least one above it no number is that of a line.
use Rattle.std.proofs.Common.{◌≡◌, ℕ, zero, suc, ◌<◌, ◌≤◌, ◌⊎◌, inl, inr, Bool, true, false, cond, List, [], ◌∷◌, length, slice_index_or, refl, sym, ap, subst, Option, Some, None, nat_lt, is_some, arith, BTreeSet}
use Rattle.std.specs.Option.{option_map}
use Rattle.std.specs.List.{AllByRecursion, Contains, find}
use Rattle.state_law.specs.State.{AreRising}
use Rattle.front_chain.specs.Front.{number_above, line_at}
use Rattle.admission.specs.Around.{IsThere, ahead}
use Rattle.admission.proofs.Ahead.{next_ahead}
use Rattle.mesh_run.specs.Worklist.{IsToTry, least_open}

abbrev Triple : Type 0
Triple = ℕ × ℕ × ℕ

is_above : (after n : ℕ) → after < n → nat_lt after n ≡ true
is_above after n h = grind arith

above_here : (line : Triple) (lines : List Triple) (after : ℕ) (b : Bool) → nat_lt after line.0 ≡ b → number_above (line ∷ lines) after ≡ cond b (Some line.0) (number_above lines after)
above_here line lines after true e = ap (λ b. option_map (λ (l : Triple). l.0) (cond b (Some line) (find (λ (l : Triple). nat_lt after l.0) lines))) e
above_here line lines after false e = ap (λ b. option_map (λ (l : Triple). l.0) (cond b (Some line) (find (λ (l : Triple). nat_lt after l.0) lines))) e

-- the number is before the other one; before none where every number is
abbrev pub DoesPrecede : ℕ → Option ℕ → Type 0
DoesPrecede n None = Unit {0}
DoesPrecede n (Some m) = n < m

-- a number isn't before the one that is found first among greater ones
abbrev IsNotBefore : ℕ → Option ℕ → Type 0
IsNotBefore n o = DoesPrecede n o → ⊥

not_less : (m n : ℕ) → m ≤ n → n < m → ⊥
not_less m n h l = omega arith

-- the k-th line, whose number is above `after`, isn't before the least one above
not_before : (lines : List Triple) (next after k : ℕ) (d : Triple) → AreRising lines next → k < length lines → after < (slice_index_or lines k d).0 → IsNotBefore (slice_index_or lines k d).0 (number_above lines after)
not_before [] next after k d r l h = absurd (omega (arith, l))
not_before (line ∷ lines) next after zero d r l h = subst (IsNotBefore line.0) (sym (above_here line lines after true (is_above after line.0 h))) (not_less line.0 line.0 (omega arith))
not_before (line ∷ lines) next after (suc k) d r l h = by (nat_lt after line.0) refl (not_before lines next after k d r.2 (omega (arith, l)) h)
  where
    later : line.0 < (slice_index_or lines k d).0
    later = each lines k (omega (arith, l)) r.0
      where
        each : (rest : List Triple) (k : ℕ) → k < length rest → AllByRecursion (λ other. line.0 < other.0) rest → line.0 < (slice_index_or rest k d).0
        each [] k l h = absurd (omega (arith, l))
        each (other ∷ rest) zero l h = h.0
        each (other ∷ rest) (suc k) l h = each rest k (omega (arith, l)) h.1

    by : (b : Bool) → nat_lt after line.0 ≡ b → IsNotBefore (slice_index_or lines k d).0 (number_above lines after) → IsNotBefore (slice_index_or lines k d).0 (number_above (line ∷ lines) after)
    by true e rest = subst (IsNotBefore (slice_index_or lines k d).0) (sym (above_here line lines after true e)) (not_less line.0 (slice_index_or lines k d).0 (omega (arith, later)))
    by false e rest = subst (IsNotBefore (slice_index_or lines k d).0) (sym (above_here line lines after false e)) rest

-- the k-th line has a number of at least 1
positive_at : (lines : List Triple) (k : ℕ) (d : Triple) → AllByRecursion (λ line. 1 ≤ line.0) lines → k < length lines → 1 ≤ (slice_index_or lines k d).0
positive_at [] k d h l = absurd (omega (arith, l))
positive_at (line ∷ lines) zero d h l = h.0
positive_at (line ∷ lines) (suc k) d h l = positive_at lines k d h.1 (omega (arith, l))

-- fewer lines are ahead of the least line above one
pub fewer_ahead : (lines : List Triple) (next line : ℕ) → AreRising lines next → is_some (line_at lines line) ≡ true → length (ahead lines (number_above lines line)) < length (ahead lines (Some line))
fewer_ahead lines next line r t = by (line_at lines line) refl t
  where
    shorter : {A : Type 0} (x : A) (xs ys : List A) → ys ≡ x ∷ xs → length xs < length ys
    shorter x xs ys e = let l = ap length e in omega (arith, l)

    by : (o : Option (ℕ × ℕ)) → line_at lines line ≡ o → is_some o ≡ true → length (ahead lines (number_above lines line)) < length (ahead lines (Some line))
    by None e h = absurd (cc)
    by (Some ends) e h = shorter (line, ends.0, ends.1) (ahead lines (number_above lines line)) (ahead lines (Some line)) (next_ahead lines next line ends r e)

pub still_fewer : (lines : List Triple) (next line : ℕ) (before after : Option ℕ) → AreRising lines next → IsThere lines before → before ≡ Some line → after ≡ number_above lines line → length (ahead lines after) < length (ahead lines before)
still_fewer lines next line before after r t b a =
    let here : is_some (line_at lines line) ≡ true = subst (IsThere lines) b t in
    subst (λ (o : Option ℕ). length (ahead lines o) < length (ahead lines before)) (sym a)
    (subst (λ (o : Option ℕ). length (ahead lines (number_above lines line)) < length (ahead lines o)) (sym b) (fewer_ahead lines next line r here))

-- ---- lines that are put on the worklist one after another
-- a line before the least one above a number isn't above the number
no_more : (front : List Triple) (next after : ℕ) (line : Triple) → AreRising front next → Contains front line → DoesPrecede line.0 (number_above front after) → line.0 ≤ after
no_more front next after line r c p = by (compared line.0 after)
  where
    compared : (n after : ℕ) → (n ≤ after) ⊎ (after < n)
    compared n after = grind arith

    number : (slice_index_or front c.0 line).0 ≡ line.0
    number = ap (λ (l : Triple). l.0) c.2

    by : (line.0 ≤ after) ⊎ (after < line.0) → line.0 ≤ after
    by (inl l) = l
    by (inr l) = absurd (subst (λ (m : ℕ). after < m → IsNotBefore m (number_above front after)) number (not_before front next after c.0 line r c.1) l p)

-- each line before the number is on the worklist at the least class that is open to it
abbrev pub AreOnTo : BTreeSet (ℕ × ℕ) → List Triple → List ℕ → ℕ → Option ℕ → Type 0
AreOnTo work front refused last o = (line : Triple) → Contains front line → DoesPrecede line.0 o → least_open refused line.0 ≤ last → IsToTry work (least_open refused line.0, line.0)

module _ (front : List Triple) (next : ℕ) (rising : AreRising front next) (refused : List ℕ) (last : ℕ) where
  -- no line is before the first one
  pub none_on_yet : (work : BTreeSet (ℕ × ℕ)) → AllByRecursion (λ line. 1 ≤ line.0) front → AreOnTo work front refused last (number_above front 0)
  none_on_yet work positive line c p l = absurd (none line.0 one (no_more front next 0 line rising c p))
    where
      one : 1 ≤ line.0
      one = subst (λ (l : Triple). 1 ≤ l.0) c.2 (positive_at front c.0 line positive c.1)

      none : (n : ℕ) → 1 ≤ n → n ≤ 0 → ⊥
      none n a b = omega arith

  -- one more is put on
  pub one_more_on : (before after : BTreeSet (ℕ × ℕ)) (line : ℕ) → AreOnTo before front refused last (Some line) → ((turn : ℕ × ℕ) → IsToTry before turn → IsToTry after turn)
      → (least_open refused line ≤ last → IsToTry after (least_open refused line, line)) → AreOnTo after front refused last (number_above front line)
  one_more_on before after line h stay added other c p l = by (compared other.0 line (no_more front next line other rising c p))
    where
      compared : (n line : ℕ) → n ≤ line → (n < line) ⊎ (n ≡ line)
      compared n line l = grind arith

      by : (other.0 < line) ⊎ (other.0 ≡ line) → IsToTry after (least_open refused other.0, other.0)
      by (inl b) = stay (least_open refused other.0, other.0) (h other c b l)
      by (inr e) = subst (λ (n : ℕ). least_open refused n ≤ last → IsToTry after (least_open refused n, n)) (sym e) added l
