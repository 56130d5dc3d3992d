-- The state after an application follows the one before it: lines that join have new numbers, and each end of them that was listed before was a front point, since an application's corners are mapped points, which are front points, or points that it makes.
use Rattle.std.proofs.Common.{◌≡◌, ℕ, suc, ◌+◌, ◌-◌, ◌<◌, ◌≤◌, ◌⊎◌, inl, inr, Bool, true, false, List, [], ◌∷◌, ◌++◌, length, length-append, map, Option, None, Some, IsSome, refl, sym, ap, ◌∙◌, subst, arith}
use Rattle.std.specs.List.{AllByRecursion, Contains}
use Rattle.std.proofs.lemmas.List.Elements.{All-contains_itself, All-from_recursion, All-get_or, recursion_from_All}
use Rattle.grid_geom.specs.declared.Point.{Point}
use Rattle.grid_geom.specs.declared.Edge.{Edge}
use Rattle.rule_reader.specs.Normal.{IsRule, Names}
use Rattle.state_law.specs.Gluing.{glue_all, MayAllBeGlued}
use Rattle.state_law.specs.State.{State, AreRising, corners_of, does_join, front_edges, glue_line, glue_lines, glued, next_after, next_after_all, number_sides, number_way}
use Rattle.state_law.proofs.Lists.{all_append, all_map}
use Rattle.state_law.proofs.LineNumbers.{glued_rising}
use Rattle.front_chain.specs.Front.{line_at}
use Rattle.admission.specs.Admission.{glued_on}
use Rattle.admission.proofs.Order.{same_points}
use Rattle.rule_match.specs.declared.application.Application.{Application}
use Rattle.rule_match.specs.Applied.{application, numbers_from}
use Rattle.rule_match.specs.Candidate.{Attempt, IsCandidate, IsFrontPoint, made, mapping, nth}
use Rattle.rule_match.specs.LookedAgain.{IsGluedOn}
use Rattle.rule_match.proofs.BaseLines.{line_there}
use Rattle.rule_match.proofs.NearBack.{rule_at}
use Rattle.rule_match.proofs.WithinReach.{made_count}
use Rattle.mesh_run.specs.declared.looked_again.Change.{Change}
use Rattle.mesh_run.specs.Kept.{IsFollowedBy}
use Rattle.mesh_run.specs.Reached.{IsReached, MayBeApplied, front_at}
use Rattle.mesh_run.specs.Steps.{RunSetting, IsNext, applied, with_points}
use Rattle.mesh_run.proofs.SameState.{AreSame, ends_are}
use Rattle.mesh_run.proofs.Numbers.{edges_kept}
use Rattle.mesh_run.proofs.StillNone.{Triple, IsOldOrNew, all_old, below_next, contained, edges_on, elements_on, front_of, may_on, next_rises, stays_same}
use Rattle.mesh_run.proofs.Steps.{reached_after, reached_with}

-- where the number is that of a listed point, this is a front point
abbrev pub IsOldEnd : State → ℕ → Type 0
IsOldEnd st n = n ≤ length st.points → IsFrontPoint st n

-- ---- the corners of an application
named : (Q : ℕ → Type 0) (xs ns : List ℕ) (count : ℕ) → length xs ≡ count → AllByRecursion Q xs → AllByRecursion (Names count) ns → AllByRecursion Q (map (nth xs) ns)
named Q xs [] count e h l = tt
named Q xs (n ∷ ns) count e h l = (All-get_or Q xs (n - 1) 0 (below n count (length xs) l.0.0 l.0.1 e) (All-from_recursion Q xs h), named Q xs ns count e h l.1)
  where
    below : (k m n : ℕ) → 0 < k → k ≤ m → n ≡ m → k - 1 < n
    below k m n l i e = omega (arith, e)

all_named : (Q : ℕ → Type 0) (xs : List ℕ) (els : List (List ℕ)) (count : ℕ) → length xs ≡ count → AllByRecursion Q xs → AllByRecursion (λ e. (length e ≡ 3) × AllByRecursion (Names count) e) els → AllByRecursion (AllByRecursion Q) (map (map (nth xs)) els)
all_named Q xs [] count e h l = tt
all_named Q xs (ns ∷ els) count e h l = (named Q xs ns count e h l.0.1, all_named Q xs els count e h l.1)

numbers_count : (n : ℕ) (ps : List Point) → length (numbers_from n ps) ≡ length ps
numbers_count n [] = refl
numbers_count n (p ∷ ps) = ap suc (numbers_count (n + 1) ps)

new_above : (Q : ℕ → Type 0) (count n : ℕ) (ps : List Point) → count ≤ n → AllByRecursion (λ m. m ≤ count → Q m) (numbers_from n ps)
new_above Q count n [] l = tt
new_above Q count n (p ∷ ps) l = ((λ k. absurd (clash n l k)), new_above Q count (n + 1) ps (omega (arith, l)))
  where
    clash : (n : ℕ) → count ≤ n → n + 1 ≤ count → ⊥
    clash n l k = omega arith

-- each corner of a candidate's elements that was listed before is a mapped point
pub corners_old : (st : State) (t : Attempt) → IsRule t.text → IsCandidate st t → AllByRecursion (AllByRecursion (IsOldEnd st)) (application st t).elements
corners_old st t rule c =
    let new = numbers_from (length st.points) (made st t) in
    let count : length (t.points ++ new) ≡ length t.text.points + length t.text.new_points =
    length-append t.points new ∙ (λ i. c.counted i + (numbers_count (length st.points) (made st t) ∙ made_count (mapping st t) 1 t.text.new_points) i) in
    all_named (IsOldEnd st) (t.points ++ new) t.text.elements (length t.text.points + length t.text.new_points) count
    (all_append (IsOldEnd st) t.points new (all_map (IsFrontPoint st) (IsOldEnd st) (λ n f l. f) t.points c.on_front) (new_above (IsFrontPoint st) (length st.points) (length st.points) (made st t) (level (length st.points)))) rule.elements.1
  where
    level : (n : ℕ) → n ≤ n
    level n = omega arith

-- ---- the ends of lines that join
-- where lines between ends with P have Q, so do the lines that join between corners with P, and the front lines of before may have it for another reason
module _ (P : ℕ → Type 0) (Q : Triple → Type 0) (between : (k a b : ℕ) → P a → P b → Q (k, a, b)) where
  abbrev IsSideWith : ℕ × ℕ → Type 0
  IsSideWith s = P s.0 × P s.1

  way : (first from : ℕ) (ns : List ℕ) → P first → P from → AllByRecursion P ns → AllByRecursion IsSideWith (number_way first from ns)
  way first from [] a b h = ((b, a), tt)
  way first from (to ∷ ns) a b h = ((b, h.0), way first to ns a h.0 h.1)

  sides_with : (ns : List ℕ) → AllByRecursion P ns → AllByRecursion IsSideWith (number_sides ns)
  sides_with [] h = tt
  sides_with (n ∷ ns) h = way n n ns h.0 h.0 h.1

  one_glued : (front : List Triple) (next : ℕ) (s : ℕ × ℕ) → IsSideWith s → AllByRecursion Q front → AllByRecursion Q (glue_line front next s)
  one_glued [] next s o h = (between next s.1 s.0 o.1 o.0, tt)
  one_glued (line ∷ front) next s o h = elim (does_join line s) as (λ (b : Bool). AllByRecursion Q (elim b [ true ↦ front | false ↦ line ∷ glue_line front next s ])) [
    | true ↦ h.1
    | false ↦ (h.0, one_glued front next s o h.1)
  ]

  all_glued : (front : List Triple) (next : ℕ) (ss : List (ℕ × ℕ)) → AllByRecursion IsSideWith ss → AllByRecursion Q front → AllByRecursion Q (glue_lines front next ss)
  all_glued front next [] o h = h
  all_glued front next (s ∷ ss) o h = all_glued (glue_line front next s) (next_after front next s) ss o.1 (one_glued front next s o.0 h)

  pub elements_glued : (w : State) (els : List (List ℕ)) → AllByRecursion (AllByRecursion P) els → AllByRecursion Q w.front → AllByRecursion Q (glued_on w els).front
  elements_glued w [] o h = h
  elements_glued w (ns ∷ els) o h = elements_glued (glued w ns) els o.1 (all_glued w.front w.next (number_sides ns) (sides_with ns o.0) h)

abbrev AreOldEnds : State → Triple → Type 0
AreOldEnds st line = IsOldEnd st line.1 × IsOldEnd st line.2

front_old : (st : State) → AllByRecursion (AreOldEnds st) st.front
front_old st = all_map (Contains st.front) (AreOldEnds st) (λ line c. (λ l. (c.0, line, c.1, c.2, inl refl), λ l. (c.0, line, c.1, c.2, inr refl))) st.front (recursion_from_All (Contains st.front) st.front (All-contains_itself st.front))

-- ---- numbers rise
next_rises_all : (front : List Triple) (next : ℕ) (ss : List (ℕ × ℕ)) → next ≤ next_after_all front next ss
next_rises_all front next [] = omega arith
next_rises_all front next (s ∷ ss) = let one = next_rises front next s in let more = next_rises_all (glue_line front next s) (next_after front next s) ss in omega (arith, one, more)

pub next_on : (w : State) (els : List (List ℕ)) → w.next ≤ (glued_on w els).next
next_on w [] = omega arith
next_on w (ns ∷ els) = let one = next_rises_all w.front w.next (number_sides ns) in let more = next_on (glued w ns) els in omega (arith, one, more)

pub rising_on : (w : State) (els : List (List ℕ)) → AreRising w.front w.next → AreRising (glued_on w els).front (glued_on w els).next
rising_on w [] r = r
rising_on w (ns ∷ els) r = rising_on (glued w ns) els (glued_rising w ns r)

-- ---- the state after an application
-- each later line was there, or has a new number
pub old_or_new : (st : State) (a : Application) (line : Triple) → Contains (applied st a).front line → Contains st.front line ⊎ (st.next ≤ line.0)
old_or_new st a line c = contained (IsOldOrNew st.front st.next) (applied st a).front line (elements_on st.front st.next (with_points st a.made) a.elements (level st.next) (all_old st.front st.next st.front (λ l k. k))) c
  where
    level : (n : ℕ) → n ≤ n
    level n = omega arith

-- where a line has the number of one of before, and each such line is that one, this is still there
pub still_on : (front : List Triple) (line : Triple) → ((other : Triple) → Contains front other → other.0 ≡ line.0 → other ≡ line) → IsSome (line_at front line.0) → Contains front line
still_on front line same some = by (line_at front line.0) refl some
  where
    by : (o : Option (ℕ × ℕ)) → line_at front line.0 ≡ o → IsSome o → Contains front line
    by None e some = absurd (cc)
    by (Some ends) e some = let there = line_there front line.0 ends e in subst (Contains front) (same (line.0, ends.0, ends.1) there refl) there

pub is_glued : (b : List Edge) (st : State) (a : Application) → IsReached b st → MayBeApplied st a → IsGluedOn st (applied st a) a.made (map (corners_of (st.points ++ a.made)) a.elements)
is_glued b st a r m =
    let w = with_points st a.made in let later = reached_after b st a r m in
    let n = (reached_with b st a.made r m.different m.on_grid).numbered in
    let points : (applied st a).points ≡ st.points ++ a.made = same_points w a.elements in
    let kept : front_at w ≡ front_at st = edges_kept st.points a.made st.front r.numbered.lines_listed in
    record {
      points = points;
      numbered = r.numbered;
      later_numbered = later.numbered;
      front = front_of b st r;
      may = subst (MayAllBeGlued (map (corners_of w.points) a.elements)) kept (may_on w a.elements n m.listed m.may);
      glued = ap (λ (ps : List Point). front_edges ps (applied st a).front) points ∙ edges_on w a.elements n m.listed ∙ ap (λ (es : List Edge). glue_all es (map (corners_of w.points) a.elements)) kept;
    }

pub followed : (b : List Edge) (st : State) (a : Application) → IsReached b st → MayBeApplied st a → AreRising st.front st.next → AllByRecursion (AllByRecursion (IsOldEnd st)) a.elements
    → IsFollowedBy st (applied st a) (record { points = length st.points; first = st.next })
followed b st a r m rising old = record {
  made = a.made;
  elements = map (corners_of (st.points ++ a.made)) a.elements;
  glued = is_glued b st a r m;
  listed = refl;
  given = λ line c. below_next st.front st.next line rising c;
  old_or_new = λ line c. old_or_new st a line c;
  same = λ line other on c e. stays_same st a line other rising on c e;
  ends = λ line n c one l.
      end_of line n (contained (AreOldEnds st) (applied st a).front line (elements_glued (IsOldEnd st) (AreOldEnds st) (λ k from to f t. (f, t)) (with_points st a.made) a.elements old (front_old st)) c) l one;
}
  where
    end_of : (line : Triple) (n : ℕ) → AreOldEnds st line → n ≤ length st.points → (line.1 ≡ n) ⊎ (line.2 ≡ n) → IsFrontPoint st n
    end_of line n h l (inl e) = subst (IsFrontPoint st) e (h.0 (subst (λ (k : ℕ). k ≤ length st.points) (sym e) l))
    end_of line n h l (inr e) = subst (IsFrontPoint st) e (h.1 (subst (λ (k : ℕ). k ≤ length st.points) (sym e) l))

-- the application that comes next: its corners are those of a candidate
pub followed_next : (s : RunSetting) (b : List Edge) (st : State) (a : Application) → IsReached b st → MayBeApplied st a → AreRising st.front st.next → AllByRecursion IsRule s.rules → IsNext s st a
    → IsFollowedBy st (applied st a) (record { points = length st.points; first = st.next })
followed_next s b st a r m rising are_rules next =
    let t = next.best.attempt in
    followed b st a r m rising
    (subst (λ (x : Application). AllByRecursion (AllByRecursion (IsOldEnd st)) x.elements) (sym next.best.gives) (corners_old st t (rule_at IsRule s.rules (t.rule - 1) t.text are_rules next.best.least.of.is_rule) next.best.least.candidate))

-- so does a state with the same points and the same front
pub followed_same : (st later other : State) (c : Change) → AreSame later other → IsFollowedBy st later c → IsFollowedBy st other c
followed_same st later other c same f = subst (λ (x : State). IsFollowedBy st x c) (ends_are later other same) (record {
  made = f.made;
  elements = f.elements;
  glued = record {
    points = f.glued.points;
    numbered = f.glued.numbered;
    later_numbered = record { different = f.glued.later_numbered.different; lines_listed = f.glued.later_numbered.lines_listed };
    front = f.glued.front;
    may = f.glued.may;
    glued = f.glued.glued;
  };
  listed = f.listed;
  given = f.given;
  old_or_new = f.old_or_new;
  same = f.same;
  ends = f.ends;
})
