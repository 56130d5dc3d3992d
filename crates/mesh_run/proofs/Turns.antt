-- Turns come by class, then by line: what comes before the first turn on the worklist is refused, since else it would be on the worklist.
use Rattle.std.proofs.Common.{◌≡◌, ◌≢◌, ℕ, ◌+◌, ◌-◌, ◌<◌, ◌≤◌, ◌⊎◌, inl, inr, max, Bool, true, false, cond, List, [], ◌∷◌, slice_index_or, refl, sym, ap, ◌∙◌, subst, arith, Option, None, Some, is_some, nat_cmp, is_gt, is_eq, Ordering, Less, Equal, Greater, BTreeSet}
use Rattle.std.specs.List.{Contains, list_any}
use Rattle.std.specs.Ordering.{ordering_then, match_ordering}
use Rattle.std.specs.BTreeMap.{is_at}
use Rattle.std.specs.BTreeSet.{contains, insert_key, IsLowerBound, Updates}
use Rattle.std.proofs.lemmas.Cmp.{ranked}
use Rattle.state_law.specs.State.{State, AreRising}
use Rattle.front_chain.specs.Front.{line_at}
use Rattle.rule_match.specs.declared.application.Application.{Application}
use Rattle.rule_match.specs.Best.{IsBest}
use Rattle.rule_match.specs.Candidate.{Attempt, IsCandidate}
use Rattle.rule_match.specs.Least.{HasNone, IsOf}
use Rattle.rule_match.proofs.BaseLines.{line_there}
use Rattle.rule_match.proofs.Gathered.{line_numbered}
use Rattle.mesh_run.specs.Remembered.{AreRemembered, IsNoted}
use Rattle.mesh_run.specs.Steps.{RunSetting, IsNext, NothingApplies}
use Rattle.mesh_run.specs.Worklist.{AreRefusedBefore, AreToTry, AreToTryBut, IsEarlier, IsOpenTurn, IsToTry, least_open, tries_left, turn_cmp}

abbrev pub Turn : Type 0
Turn = ℕ × ℕ

abbrev pub Work : Type 0
Work = BTreeSet (ℕ × ℕ)

clash : true ≡ false → ⊥
clash e = cc

-- ---- the order
never : (m n : ℕ) → m < n → (n < m) ⊎ (n ≡ m) → ⊥
never m n l (inl k) = omega arith
never m n l (inr e) = omega (arith, e)

pub earlier_less : (k q : Turn) → IsEarlier q k → is_gt (turn_cmp k q) ≡ true
earlier_less k q h = by (nat_cmp k.0 q.0) refl (nat_cmp k.1 q.1) refl h
  where
    by : (r : Ordering) → r ≡ nat_cmp k.0 q.0 → (t : Ordering) → t ≡ nat_cmp k.1 q.1 → IsEarlier q k → is_gt (ordering_then r t) ≡ true
    by Less e t f (inl l) = absurd (never q.0 k.0 l (inl (ranked k.0 q.0 Less e)))
    by Less e t f (inr l) = absurd (never k.0 q.0 (ranked k.0 q.0 Less e) (inr l.0))
    by Equal e t f (inl l) = absurd (never q.0 k.0 l (inr (ranked k.0 q.0 Equal e)))
    by Equal e Less f (inr l) = absurd (never q.1 k.1 l.1 (inl (ranked k.1 q.1 Less f)))
    by Equal e Equal f (inr l) = absurd (never q.1 k.1 l.1 (inr (ranked k.1 q.1 Equal f)))
    by Equal e Greater f (inr l) = refl
    by Greater e t f h = refl

pub same_turn : (k q : Turn) → is_eq (turn_cmp k q) ≡ true → q ≡ k
same_turn k q = by (nat_cmp k.0 q.0) refl (nat_cmp k.1 q.1) refl
  where
    no : false ≡ true → ⊥
    no e = cc

    by : (r : Ordering) → r ≡ nat_cmp k.0 q.0 → (t : Ordering) → t ≡ nat_cmp k.1 q.1 → is_eq (ordering_then r t) ≡ true → q ≡ k
    by Less e t f h = absurd (no h)
    by Equal e Less f h = absurd (no h)
    by Equal e Equal f h = λ i. (sym (ranked k.0 q.0 Equal e) i, sym (ranked k.1 q.1 Equal f) i)
    by Equal e Greater f h = absurd (no h)
    by Greater e t f h = absurd (no h)

pub other_turn : (k q : Turn) → q ≢ k → is_eq (turn_cmp k q) ≡ false
other_turn k q h = by (is_eq (turn_cmp k q)) refl
  where
    by : (b : Bool) → is_eq (turn_cmp k q) ≡ b → is_eq (turn_cmp k q) ≡ false
    by true e = absurd (h (same_turn k q e))
    by false e = e

-- ---- turns that come and go
-- a turn that is put on is there, and each other one stays
pub stays_on : (before after : Work) (k q : Turn) → Updates turn_cmp before after k true → IsToTry before q → IsToTry after q
stays_on before after k q u h = u.0 q ∙ by (is_at (turn_cmp k) q) (contains turn_cmp before q) h
  where
    by : (b c : Bool) → c ≡ true → cond b true c ≡ true
    by true c h = refl
    by false c h = h

pub is_put_on : (before after : Work) (k : Turn) → Updates turn_cmp before after k true → IsToTry after k
is_put_on before after k u = u.1

module _ (front : List (ℕ × ℕ × ℕ)) (refused : List ℕ) (last : ℕ) (k : Turn) where
  -- one turn is taken off
  pub taken_off : (before after : Work) → AreToTry before front refused last → Updates turn_cmp before after k false → AreToTryBut k after front refused last
  taken_off before after h u = record { each = λ line c l. by (least_open refused line.0, line.0) (h.each line c l) (is_at (turn_cmp k) (least_open refused line.0, line.0)) refl }
    where
      by : (q : Turn) → IsToTry before q → (b : Bool) → is_at (turn_cmp k) q ≡ b → (q ≡ k) ⊎ IsToTry after q
      by q on true e = inl (same_turn k q e)
      by q on false e = inr (u.2 q e ∙ on)

  -- and it isn't open
  pub not_missed : (work : Work) (next : ℕ) → AreRising front next → AreToTryBut k work front refused last → (IsOpenTurn front refused last k → ⊥) → AreToTry work front refused last
  not_missed work next rising h closed = record { each = λ line c l. by line c l (h.each line c l) }
    where
      level : (n : ℕ) → n ≤ n
      level n = omega arith

      by : (line : ℕ × ℕ × ℕ) → Contains front line → least_open refused line.0 ≤ last → ((least_open refused line.0, line.0) ≡ k) ⊎ IsToTry work (least_open refused line.0, line.0) → IsToTry work (least_open refused line.0, line.0)
      by line c l (inr on) = on
      by line c l (inl e) = absurd (closed (subst (IsOpenTurn front refused last) e (record {
        class = level (least_open refused line.0);
        last_class = l;
        on_front = ap is_some (line_numbered front next c.0 line line rising c.1 c.2);
      })))

  -- or it is put on again
  pub put_on_again : (before after : Work) → AreToTryBut k before front refused last → Updates turn_cmp before after k true → AreToTry after front refused last
  put_on_again before after h u = record { each = λ line c l. by (least_open refused line.0, line.0) (h.each line c l) }
    where
      by : (q : Turn) → (q ≡ k) ⊎ IsToTry before q → IsToTry after q
      by q (inl e) = subst (IsToTry after) (sym e) (is_put_on before after k u)
      by q (inr on) = stays_on before after k q u on

  -- or its line is refused, and is on at the next class
  pub moved_on : (before after : Work) (later : List ℕ) → AreToTryBut k before front refused last → IsNoted refused later k.1 (k.0 + 1) → slice_index_or later k.1 0 ≡ k.0 + 1
      → ((q : Turn) → IsToTry before q → IsToTry after q) → (k.0 < last → IsToTry after (k.0 + 1, k.1)) → AreToTry after front later last
  moved_on before after later h noted there stay next = record { each = λ line c l. by line c l (noted.each line.0) }
    where
      open_at : (line : ℕ) → slice_index_or later line 0 ≡ k.0 + 1 → least_open later line ≡ k.0 + 1
      open_at line e = omega (arith, e)

      within : (m n : ℕ) → m ≤ last → m ≡ n + 1 → n < last
      within m n l e = omega (arith, e)

      at_next : (line : ℕ) → line ≡ k.1 → slice_index_or later line 0 ≡ k.0 + 1 → least_open later line ≤ last → IsToTry after (least_open later line, line)
      at_next line i e l = subst (IsToTry after) (λ j. (sym (open_at line e) j, sym i j)) (next (within (least_open later line) k.0 l (open_at line e)))

      by : (line : ℕ × ℕ × ℕ) → Contains front line → least_open later line.0 ≤ last → (slice_index_or later line.0 0 ≡ slice_index_or refused line.0 0) ⊎ ((line.0 ≡ k.1) × (slice_index_or later line.0 0 ≡ k.0 + 1)) → IsToTry after (least_open later line.0, line.0)
      by line c l (inr e) = at_next line.0 e.0 e.1 l
      by line c l (inl same) = here (h.each line c (subst (λ (n : ℕ). n ≤ last) as_open l))
        where
          as_open : least_open later line.0 ≡ least_open refused line.0
          as_open = ap (λ (n : ℕ). max 1 n) same

          here : ((least_open refused line.0, line.0) ≡ k) ⊎ IsToTry before (least_open refused line.0, line.0) → IsToTry after (least_open later line.0, line.0)
          here (inl e) = let i : line.0 ≡ k.1 = ap (λ (q : Turn). q.1) e in at_next line.0 i (ap (λ (n : ℕ). slice_index_or later n 0) i ∙ there) l
          here (inr on) = subst (λ (n : ℕ). IsToTry after (n, line.0)) (sym as_open) (stay (least_open refused line.0, line.0) on)

  -- its line is open at no earlier class, since else the line would be on at that class
  pub no_sooner : (work : Work) → AreToTry work front refused last → IsLowerBound turn_cmp work k → IsOpenTurn front refused last k → k.0 ≤ least_open refused k.1
  no_sooner work h lower o = by (compared k.0 (least_open refused k.1)) (line_at front k.1) refl o.on_front
    where
      compared : (m n : ℕ) → (m ≤ n) ⊎ (n < m)
      compared m n = grind arith

      within : (a b c : ℕ) → a ≤ b → b ≤ c → a ≤ c
      within a b c l m = omega arith

      by : (k.0 ≤ least_open refused k.1) ⊎ (least_open refused k.1 < k.0) → (ends : Option (ℕ × ℕ)) → line_at front k.1 ≡ ends → is_some ends ≡ true → k.0 ≤ least_open refused k.1
      by (inl l) ends e there = l
      by (inr l) None e there = absurd cc
      by (inr l) (Some ends) e there =
          let on = h.each (k.1, ends.0, ends.1) (line_there front k.1 ends e) (within (least_open refused k.1) k.0 last o.class o.last_class) in
          absurd (clash (sym (earlier_less k (least_open refused k.1, k.1) (inl l)) ∙ lower (least_open refused k.1, k.1) on))

-- ---- what the first turn says
module _ (s : RunSetting) (st : State) (refused : List ℕ) (work : Work) (remembered : AreRemembered refused s st) (to_try : AreToTry work st.front refused s.last) where
  compared : (n m : ℕ) → (n < m) ⊎ (m ≤ n)
  compared n m = grind arith

  least : (m n : ℕ) → m ≤ n → 1 ≤ n → max 1 m ≤ n
  least m n l first = omega arith

  on : (m n k : ℕ) → m ≤ n → n ≤ k → m ≤ k
  on m n k a b = omega arith

  -- a line that has a candidate at a class that is tried is on the worklist, at no later class
  none_but_on : (n line : ℕ) → 1 ≤ n → n ≤ s.last → (least_open refused line ≤ n → IsToTry work (least_open refused line, line) → ⊥) → HasNone s.sizes st s.rules line n
  none_but_on n line first l off = record { none = λ t o c. by t o c (compared n (slice_index_or refused line 0)) }
    where
      by : (t : Attempt) → IsOf s.sizes st s.rules line n t → IsCandidate st t → (n < slice_index_or refused line 0) ⊎ (slice_index_or refused line 0 ≤ n) → ⊥
      by t o c (inl k) = (remembered.none line n first k).none t o c
      by t o c (inr k) =
          let open_at = least (slice_index_or refused line 0) n k first in
          let at : IsToTry work (least_open refused t.line.0, t.line.0) = to_try.each t.line o.on_front (subst (λ (m : ℕ). least_open refused m ≤ s.last) (sym o.same_line) (on (least_open refused line) n s.last open_at l)) in
          off open_at (subst (λ (m : ℕ). IsToTry work (least_open refused m, m)) o.same_line at)

  -- what comes before the first turn has no candidate
  pub none_before : (k : Turn) → IsLowerBound turn_cmp work k → k.0 ≤ s.last → AreRefusedBefore s st k
  none_before k lower l = record { none = λ n line first before. none_but_on n line first (within n line before) (λ open_at at. clash (sym (earlier_less k (least_open refused line, line) (as_early n line (least_open refused line) open_at before)) ∙ lower (least_open refused line, line) at)) }
    where
      within : (n line : ℕ) → IsEarlier (n, line) k → n ≤ s.last
      within n line (inl a) = omega (arith, l, a)
      within n line (inr e) = omega (arith, l, e.0)

      as_early : (n line m : ℕ) → m ≤ n → IsEarlier (n, line) k → IsEarlier (m, line) k
      as_early n line m a (inl b) = inl (omega arith)
      as_early n line m a (inr e) = by (split m k.0 (omega (arith, e.0)))
        where
          split : (m n : ℕ) → m ≤ n → (m < n) ⊎ (m ≡ n)
          split m n l = grind arith

          by : (m < k.0) ⊎ (m ≡ k.0) → IsEarlier (m, line) k
          by (inl b) = inl b
          by (inr f) = inr (f, e.1)

  -- where the worklist is empty, nothing applies
  pub nothing_left : work.keys ≡ [] → NothingApplies s st
  nothing_left empty = record { none = λ n line first l. none_but_on n line first l (λ open_at at. no (sym (ap (λ (keys : List Turn). list_any (is_at (turn_cmp (least_open refused line, line))) keys) empty) ∙ at)) }
    where
      no : false ≡ true → ⊥
      no e = cc

-- ---- the first turn's line
-- it has no candidate up to the class, where it has none there
pub none_up_to : (s : RunSetting) (st : State) (k : Turn) → AreRefusedBefore s st k → HasNone s.sizes st s.rules k.1 k.0 → (n : ℕ) → 1 ≤ n → n ≤ k.0 → HasNone s.sizes st s.rules k.1 n
none_up_to s st k before here n first b = by (split n k.0 b)
  where
    split : (m n : ℕ) → m ≤ n → (m < n) ⊎ (m ≡ n)
    split m n l = grind arith

    by : (n < k.0) ⊎ (n ≡ k.0) → HasNone s.sizes st s.rules k.1 n
    by (inl a) = before.none n k.1 first (inl a)
    by (inr e) = subst (λ (m : ℕ). HasNone s.sizes st s.rules k.1 m) (sym e) here

-- and the best there comes next
pub best_is_next : (s : RunSetting) (st : State) (k : Turn) (a : Application) → AreRefusedBefore s st k → 1 ≤ k.0 → k.0 ≤ s.last → IsBest s.sizes st s.rules k.1 k.0 a → IsNext s st a
best_is_next s st k a before first l b =
    let same_class : a.class ≡ k.0 = ap (λ (x : Application). x.class) b.gives ∙ b.least.of.same_class in
    let same_line : a.line ≡ k.1 = ap (λ (x : Application). x.line) b.gives ∙ b.least.of.same_line in
    record {
      first_class = subst (λ (n : ℕ). 1 ≤ n) (sym same_class) first;
      last_class = subst (λ (n : ℕ). n ≤ s.last) (sym same_class) l;
      best = subst (λ (n : ℕ). IsBest s.sizes st s.rules n a.class a) (sym same_line) (subst (λ (n : ℕ). IsBest s.sizes st s.rules k.1 n a) (sym same_class) b);
      least = λ n line f earlier. before.none n line f (subst (IsEarlier (n, line)) (λ i. (same_class i, same_line i)) earlier);
    }

-- ---- how often lines may still be tried
pub tries_with : (last : ℕ) (turns : List Turn) (k : Turn) → tries_left last (insert_key turn_cmp turns k) ≤ 1 + (last - k.0) + tries_left last turns
tries_with last [] k = omega arith
tries_with last (x ∷ xs) k = by (turn_cmp k x) (tries_with last xs k)
  where
    by : (r : Ordering) → tries_left last (insert_key turn_cmp xs k) ≤ 1 + (last - k.0) + tries_left last xs → tries_left last (match_ordering r (k ∷ x ∷ xs) (x ∷ xs) (x ∷ insert_key turn_cmp xs k)) ≤ 1 + (last - k.0) + tries_left last (x ∷ xs)
    by Less h = omega arith
    by Equal h = omega arith
    by Greater h = omega arith

-- a turn that is put on at the next class
pub moved_fewer : (last : ℕ) (k : Turn) (before after : List Turn) → k.0 < last → after ≡ insert_key turn_cmp before (k.0 + 1, k.1) → tries_left last after < 1 + (last - k.0) + tries_left last before
moved_fewer last k before after l e = subst (λ (turns : List Turn). tries_left last turns < 1 + (last - k.0) + tries_left last before) (sym e) (less (tries_with last before (k.0 + 1, k.1)))
  where
    less : tries_left last (insert_key turn_cmp before (k.0 + 1, k.1)) ≤ 1 + (last - (k.0 + 1)) + tries_left last before → tries_left last (insert_key turn_cmp before (k.0 + 1, k.1)) < 1 + (last - k.0) + tries_left last before
    less h = omega (arith, h, l)
