-- What was to be tried still is, as lines are put on the worklist one after another.
use Rattle.std.proofs.Common.{◌≡◌, ◌≢◌, ℕ, ◌+◌, ◌<◌, ◌≤◌, ◌⊎◌, inl, inr, max, Bool, true, false, nat_eq, List, slice_index_or, refl, sym, ap, ◌∙◌, subst, arith, Option, None, Some}
use Rattle.std.specs.BTreeSet.{Updates}
use Rattle.mesh_run.specs.Worklist.{AreTriedAgain, AreTriedFirst, DoesStay, IsOn, IsTriedAgain, Lessened, least_open, turn_cmp}
use Rattle.mesh_run.proofs.Turns.{Work, is_put_on, stays_on}

-- where nothing is put on, all stays
pub all_stays : (o : Option Work) → DoesStay o o
all_stays None = tt
all_stays (Some work) = λ turn on. on

-- what stays twice stays
pub stays_twice : (o p q : Option Work) → DoesStay o p → DoesStay p q → DoesStay o q
stays_twice o p None h k = tt
stays_twice o None (Some c) h k = absurd k
stays_twice None (Some b) (Some c) h k = absurd h
stays_twice (Some a) (Some b) (Some c) h k = λ turn on. k turn (h turn on)

-- a turn that is on still is
pub still_on : (p q : Option Work) (turn : ℕ × ℕ) → DoesStay p q → IsOn p turn → IsOn q turn
still_on p None turn k h = tt
still_on None (Some c) turn k h = absurd k
still_on (Some b) (Some c) turn k h = k turn h

-- a turn is put on
pub put_on : (known : Option Work) (before after : Work) (turn : ℕ × ℕ) → known ≡ Some before → Updates turn_cmp before after turn true → IsTriedAgain turn known (Some after)
put_on known before after turn e u = subst (λ (o : Option Work). IsTriedAgain turn o (Some after)) (sym e) (record {
  stay = λ other on. stays_on before after turn other u on;
  again = is_put_on before after turn u;
})

-- lines with successive numbers are put on
pub none_first : (from : ℕ) (known : Option Work) → AreTriedFirst from from known known
none_first from known = record { stay = all_stays known; again = λ line h k. absurd (never line h k) }
  where
    never : (line : ℕ) → from ≤ line → line < from → ⊥
    never line h k = omega (arith, h, k)

pub one_more_first : (from line : ℕ) (before now later : Option Work) → AreTriedFirst from line before now → IsTriedAgain (1, line) now later → AreTriedFirst from (line + 1) before later
one_more_first from line before now later h k = record {
  stay = stays_twice before now later h.stay k.stay;
  again = λ other l m. by other l (compared other line m);
}
  where
    compared : (n m : ℕ) → n < m + 1 → (n < m) ⊎ (n ≡ m)
    compared n m h = grind arith

    by : (other : ℕ) → from ≤ other → (other < line) ⊎ (other ≡ line) → IsOn later (1, other)
    by other l (inl m) = still_on now later (1, other) k.stay (h.again other l m)
    by other l (inr e) = subst (λ (n : ℕ). IsOn later (1, n)) (sym e) k.again

-- ---- what is forgotten is tried again
pub as_it_is : (now : Lessened) → AreTriedAgain now now
as_it_is now = record { stay = all_stays now.work; again = λ line. inl refl }

pub tried_again : (before now later : Lessened) → AreTriedAgain before now → AreTriedAgain now later → AreTriedAgain before later
tried_again before now later h k = record {
  stay = stays_twice before.work now.work later.work h.stay k.stay;
  again = λ line. by line (h.again line) (k.again line);
}
  where
    by : (line : ℕ) → (slice_index_or now.least line 0 ≡ slice_index_or before.least line 0) ⊎ IsOn now.work (least_open now.least line, line)
        → (slice_index_or later.least line 0 ≡ slice_index_or now.least line 0) ⊎ IsOn later.work (least_open later.least line, line)
        → (slice_index_or later.least line 0 ≡ slice_index_or before.least line 0) ⊎ IsOn later.work (least_open later.least line, line)
    by line (inl e) (inl g) = inl (g ∙ e)
    by line (inr t) (inl g) = inr (subst (λ (n : ℕ). IsOn later.work (max 1 n, line)) (sym g) (still_on now.work later.work (least_open now.least line, line) k.stay t))
    by line a (inr t) = inr t

-- the line whose number at its place falls is put on
pub fallen_again : (before after : List ℕ) (was now : Option Work) (line class first : ℕ) → ((other : ℕ) → other ≢ line → slice_index_or after other 0 ≡ slice_index_or before other 0) → slice_index_or after line 0 ≡ class → first ≡ max 1 class
    → IsTriedAgain (first, line) was now → AreTriedAgain (record { least = before; work = was }) (record { least = after; work = now })
fallen_again before after was now line class first others here e h = record { stay = h.stay; again = λ other. by other (nat_eq other line) refl }
  where
    same : (m n : ℕ) → nat_eq m n ≡ true → m ≡ n
    same m n e = grind arith

    differ : (m n : ℕ) → nat_eq m n ≡ false → m ≢ n
    differ m n e f = grind arith

    by : (other : ℕ) (b : Bool) → nat_eq other line ≡ b → (slice_index_or after other 0 ≡ slice_index_or before other 0) ⊎ IsOn now (least_open after other, other)
    by other true f = inr (subst (λ (n : ℕ). IsOn now (least_open after n, n)) (sym (same other line f)) (subst (λ (n : ℕ). IsOn now (n, line)) (e ∙ ap (λ (n : ℕ). max 1 n) (sym here)) h.again))
    by other false f = inl (others other (differ other line f))
