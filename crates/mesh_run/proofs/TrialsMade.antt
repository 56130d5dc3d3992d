-- Trials made, and what is due: a trial that finds nothing takes a pair away, and what steps say is added up over a run.
use Rattle.std.proofs.Common.{◌≡◌, ℕ, zero, suc, ◌+◌, ◌-◌, ◌*◌, ◌<◌, ◌≤◌, ◌⊎◌, inl, inr, max, true, Option, None, Some, is_some, List, [], ◌∷◌, ◌++◌, length, slice_index_or, refl, sym, ap, ◌∙◌, subst, arith, append_assoc}
use Rattle.std.specs.Prelude.{sum}
use Rattle.std.specs.List.{AllByRecursion, Contains}
use Rattle.std.proofs.lemmas.List.{get_or_past}
use Rattle.state_law.specs.State.{State}
use Rattle.front_chain.specs.Front.{line_at, numbered_from}
use Rattle.rule_match.specs.declared.application.Application.{Application}
use Rattle.rule_match.proofs.BaseLines.{line_there}
use Rattle.mesh_run.specs.Remembered.{AreSameRefusals, IsNoted}
use Rattle.mesh_run.specs.RunState.{RunBasis, RunState, run_after, setting_by}
use Rattle.mesh_run.specs.Steps.{applied, state_after}
use Rattle.mesh_run.specs.Trials.{AreChanged, IsChanged, IsPaid, due, due_at}
use Rattle.mesh_run.specs.Worklist.{IsOpenTurn, least_open}
use Rattle.mesh_run.proofs.Changed.{changed_push, sum_push}
use Rattle.mesh_run.proofs.Dues.{total, due_total, no_greater, one_less_at}
use Rattle.mesh_run.proofs.GoesOn.{after_push}
use Rattle.mesh_run.proofs.StillNone.{Triple}

-- ---- what is due of a front
-- one line's pairs are some of all
one_of : (f : Triple → ℕ) (lines : List Triple) (line : Triple) → Contains lines line → f line ≤ total f lines
one_of f lines line c = at lines c.0 c.1 c.2
  where
    at : (lines : List Triple) (k : ℕ) → k < length lines → slice_index_or lines k line ≡ line → f line ≤ total f lines
    at [] k w e = absurd (omega (arith, w))
    at (x ∷ xs) zero w e = let same : f x ≡ f line = ap f e in omega (arith, same)
    at (x ∷ xs) (suc k) w e = let more = at xs k (omega (arith, w)) e in omega (arith, more)

-- where each number is no greater, and that of a line is less, the sum is less
less_there : (f g : Triple → ℕ) (lines : List Triple) (line : Triple) → AllByRecursion (λ other. g other ≤ f other) lines → Contains lines line → g line + 1 ≤ f line → total g lines + 1 ≤ total f lines
less_there f g lines line h c less = at lines h c.0 c.1 c.2
  where
    at : (lines : List Triple) → AllByRecursion (λ other. g other ≤ f other) lines → (k : ℕ) → k < length lines → slice_index_or lines k line ≡ line → total g lines + 1 ≤ total f lines
    at [] h k w e = absurd (omega (arith, w))
    at (x ∷ xs) h zero w e =
        let more = no_greater g f xs h.1 in
        let here : g x + 1 ≤ f x = subst (λ (other : Triple). g other + 1 ≤ f other) (sym e) less in
        omega (arith, more, here)
    at (x ∷ xs) h (suc k) w e = let more = at xs h.1 k (omega (arith, w)) e in let here = h.0 in omega (arith, more, here)

-- as much is due where as much is remembered
pub same_due : (last : ℕ) (before after : List ℕ) (front : List Triple) → AreSameRefusals before after → due last after front ≡ due last before front
same_due last before after [] h = refl
same_due last before after (line ∷ front) h = λ i. (last + 1 - max 1 (h.each line.0 i)) + same_due last before after front h i

-- all is due where nothing is remembered
pub nothing_due : (last : ℕ) (refused : List ℕ) (front : List Triple) → refused ≡ [] → due last refused front ≡ last * length front
nothing_due last refused [] e = none last
  where
    none : (m : ℕ) → 0 ≡ m * 0
    none m = omega arith
nothing_due last refused (line ∷ front) e = added (due last refused front) (length front) here (nothing_due last refused front e)
  where
    here : last + 1 - max 1 (slice_index_or refused line.0 0) ≡ last
    here = by (slice_index_or refused line.0 0) (ap (λ (table : List ℕ). slice_index_or table line.0 0) e ∙ get_or_past {X = ℕ} [] line.0 0 (omega arith))
      where
        by : (m : ℕ) → m ≡ 0 → last + 1 - max 1 m ≡ last
        by m z = omega (arith, z)

    added : (d k : ℕ) → last + 1 - max 1 (slice_index_or refused line.0 0) ≡ last → d ≡ last * k → last + 1 - max 1 (slice_index_or refused line.0 0) + d ≡ last * suc k
    added d k f g = omega (arith, f, g)

-- so of lines that are numbered from one number on
pub all_due : (last n : ℕ) (refused : List ℕ) (lines : List (ℕ × ℕ)) → refused ≡ [] → due last refused (numbered_from n lines) ≡ last * length lines
all_due last n refused lines e = nothing_due last refused (numbered_from n lines) e ∙ ap (λ (k : ℕ). last * k) (as_many n lines)
  where
    as_many : (n : ℕ) (lines : List (ℕ × ℕ)) → length (numbered_from n lines) ≡ length lines
    as_many n [] = refl
    as_many n (line ∷ lines) = ap suc (as_many (n + 1) lines)

-- ---- a turn that is tried
module _ (last : ℕ) (before : List ℕ) (front : List Triple) (turn : ℕ × ℕ) (is_open : IsOpenTurn front before last turn) where
  -- something is due of its line
  pub one_due : 1 ≤ due last before front
  one_due = by (line_at front turn.1) refl is_open.on_front
    where
      some : (n m d t : ℕ) → n ≤ m → m ≤ last → last + 1 - n ≤ t → d ≡ t → 1 ≤ d
      some n m d t l k h e = omega (arith, l, k, h, e)

      by : (ends : Option (ℕ × ℕ)) → line_at front turn.1 ≡ ends → is_some ends ≡ true → 1 ≤ due last before front
      by None e t = absurd (cc)
      by (Some ends) e t =
          some (least_open before turn.1) turn.0 (due last before front) (total (due_at last before) front) is_open.class is_open.last_class
          (one_of (due_at last before) front (turn.1, ends.0, ends.1) (line_there front turn.1 ends e)) (due_total last before front)

  -- that nothing was found at it takes a pair away
  pub one_less : (after : List ℕ) → turn.0 ≤ least_open before turn.1 → IsNoted before after turn.1 (turn.0 + 1) → slice_index_or after turn.1 0 ≡ turn.0 + 1 → due last after front + 1 ≤ due last before front
  one_less after first noted there = by (line_at front turn.1) refl is_open.on_front
    where
      same : (m n : ℕ) → m ≤ n → n ≤ m → m ≡ n
      same m n l k = omega (arith, l, k)

      class_is : turn.0 ≡ least_open before turn.1
      class_is = same turn.0 (least_open before turn.1) first is_open.class

      level : (n : ℕ) → n ≤ n
      level n = omega arith

      no_more : (m n : ℕ) → m + 1 ≡ n → m ≤ n
      no_more m n e = omega (arith, e)

      less : (m n : ℕ) → m + 1 ≡ n → m + 1 ≤ n
      less m n e = omega (arith, e)

      at : (other : Triple) → (slice_index_or after other.0 0 ≡ slice_index_or before other.0 0) ⊎ ((other.0 ≡ turn.1) × (slice_index_or after other.0 0 ≡ turn.0 + 1)) → due_at last after other ≤ due_at last before other
      at other (inl e) = subst (λ (n : ℕ). last + 1 - max 1 n ≤ due_at last before other) (sym e) (level (due_at last before other))
      at other (inr e) = no_more (due_at last after other) (due_at last before other) (one_less_at last turn.0 before after other is_open.last_class (class_is ∙ ap (least_open before) (sym e.0)) e.1)

      all : (lines : List Triple) → AllByRecursion (λ other. due_at last after other ≤ due_at last before other) lines
      all [] = tt
      all (other ∷ lines) = (at other (noted.each other.0), all lines)

      sums : (d e t u : ℕ) → d ≡ t → e ≡ u → t + 1 ≤ u → d + 1 ≤ e
      sums d e t u f g l = omega (arith, f, g, l)

      by : (ends : Option (ℕ × ℕ)) → line_at front turn.1 ≡ ends → is_some ends ≡ true → due last after front + 1 ≤ due last before front
      by None e t = absurd (cc)
      by (Some ends) e t =
          let line : Triple = (turn.1, ends.0, ends.1) in
          let one = less (due_at last after line) (due_at last before line) (one_less_at last turn.0 before after line is_open.last_class class_is there) in
          sums (due last after front) (due last before front) (total (due_at last after) front) (total (due_at last before) front) (due_total last after front) (due_total last before front)
          (less_there (due_at last before) (due_at last after) front line (all front) (line_there front turn.1 ends e) one)

-- ---- steps one after another
-- a run that has gone on, with what its applications pay for
pub record HasPaid (before between : RunState) (budget spent : ℕ) : Type 0 where
  pub basis : between.basis ≡ before.basis
  pub more : List Application
  pub applications : between.applications ≡ before.applications ++ more
  pub state : between.state ≡ state_after before.state more
  pub lines : List ℕ
  pub changed : AreChanged (setting_by before.basis) before.state more lines
  pub paid : spent ≤ budget + before.basis.options.last * sum lines

-- one more application
pub one_paid : (before between after : RunState) (a : Application) (budget spent later : ℕ) → HasPaid before between budget spent → after ≡ run_after between a → IsPaid (setting_by between.basis) between.state a spent later → HasPaid before after budget later
one_paid before between after a budget spent later h e p =
    subst (λ (r : RunState). HasPaid before r budget later) (sym e) (record {
      basis = h.basis;
      more = h.more ++ a ∷ [];
      applications = ap (λ (applications : List Application). applications ++ a ∷ []) h.applications ∙ append_assoc before.applications h.more (a ∷ []);
      state = ap (λ (st : State). applied st a) h.state ∙ sym (after_push before.state h.more a);
      lines = h.lines ++ p.lines ∷ [];
      changed = changed_push (setting_by before.basis) before.state h.more h.lines a p.lines h.changed
          (subst (λ (b : RunBasis). IsChanged (setting_by b) (state_after before.state h.more) a p.lines) h.basis
          (subst (λ (st : State). IsChanged (setting_by between.basis) st a p.lines) h.state p.changed));
      paid = added before.basis.options.last (sum h.lines) p.lines (sum (h.lines ++ p.lines ∷ [])) (sum_push h.lines p.lines) h.paid
          (subst (λ (b : RunBasis). later ≤ spent + b.options.last * p.lines) h.basis p.paid);
    })
  where
    added : (last n k total : ℕ) → total ≡ n + k → spent ≤ budget + last * n → later ≤ spent + last * k → later ≤ budget + last * total
    added last n k total e h l = subst (λ (m : ℕ). later ≤ budget + last * m) (sym e) (omega (arith, h, l))
