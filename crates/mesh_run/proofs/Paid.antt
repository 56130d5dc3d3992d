-- What an application pays for: the pairs that are due after it, by the lines that join and those that it touches, and the trial that found it, by its base line.
use Rattle.std.proofs.Common.{◌≡◌, ℕ, zero, suc, ◌+◌, ◌-◌, ◌*◌, ◌<◌, ◌≤◌, ◌⊎◌, inl, inr, max, Bool, true, false, ◌&&◌, ◌||◌, not, nat_eq, nat_lt, cond, filter, All, Contains, List, [], ◌∷◌, ◌++◌, length, map, slice_get, slice_index_or, refl, sym, ap, ◌∙◌, subst, arith, pos, Some, is_some}
use Rattle.std.specs.List.{AllByRecursion}
use Rattle.std.proofs.lemmas.List.Elements.{All-append, All-contains, All-contains_itself, All-filter, All-from_recursion, All-weaker, filter_passes, recursion_from_All}
use Rattle.grid_geom.specs.declared.Bounds.{Bounds}
use Rattle.grid_geom.specs.declared.Point.{Point}
use Rattle.grid_geom.specs.Boxes.{DoBoundsMeet}
use Rattle.grid_geom.specs.Bounds.{IsOnGrid}
use Rattle.digital_tree.specs.Entries.{is_hit}
use Rattle.digital_tree.proofs.Meets.{met}
use Rattle.rule_reader.specs.declared.rule.Rule.{Rule}
use Rattle.rule_reader.specs.Normal.{IsRule}
use Rattle.rule_maps.specs.Frame.{LocalFrame, IsFrame, IsFrameOf}
use Rattle.rule_maps.specs.Inert.{IsLive}
use Rattle.rule_maps.specs.Reach.{Covers}
use Rattle.rule_maps.proofs.Frames.{one_frame}
use Rattle.size_field.specs.Size.{SizeField, size_at}
use Rattle.state_law.specs.Reach.{IsWithinReach}
use Rattle.state_law.specs.Saved.{AreInBox}
use Rattle.state_law.specs.State.{State, AreRising, IsListed, corners_of, point_at}
use Rattle.state_law.proofs.Lists.{all_map}
use Rattle.front_chain.specs.Front.{FrontState, IsFrontState, line_at, state_of}
use Rattle.rule_match.specs.declared.application.Application.{Application}
use Rattle.rule_match.specs.Applied.{application}
use Rattle.rule_match.specs.Best.{IsBest}
use Rattle.rule_match.specs.Candidate.{Attempt, IsCandidate, IsFrontPoint, elements, made, mapping}
use Rattle.rule_match.specs.Near.{IsCoveredAt, IsCoveredBy, IsReachBox, reach_hi, reach_lo, whole_grid}
use Rattle.rule_match.specs.Refused.{places_of}
use Rattle.rule_match.proofs.FoundParts.{point_listed}
use Rattle.rule_match.proofs.Gathered.{line_numbered}
use Rattle.rule_match.proofs.NewParts.{as_many}
use Rattle.rule_match.proofs.WithinReach.{within_reach}
use Rattle.mesh_run.specs.declared.refusals.Refusals.{Refusals}
use Rattle.mesh_run.specs.Remembered.{AreTrue, HasEntryOf, IsForgottenNear, IsInArea}
use Rattle.mesh_run.specs.Reached.{MayBeApplied}
use Rattle.mesh_run.specs.RunState.{RunParts, RunState, run_of, setting_by}
use Rattle.mesh_run.specs.Steps.{RunSetting, IsNext, applied, with_points}
use Rattle.mesh_run.specs.Trials.{IsCornerBox, IsPaid, IsReachOfAll, IsTouched, due, due_at, joined, whole_reach}
use Rattle.mesh_run.proofs.Changed.{times}
use Rattle.mesh_run.proofs.Dues.{as_before, is_new, paid_front}
use Rattle.mesh_run.proofs.GoesOn.{IsPushed, put_run, some_elements}
use Rattle.mesh_run.proofs.HeldAreas.{chained}
use Rattle.mesh_run.proofs.Numbers.{AreJoined, AreListed}
use Rattle.mesh_run.proofs.Steps.{AreTriangles, named_elements}
use Rattle.mesh_run.proofs.StillNone.{IsOldOrNew, Triple, all_old, contained, elements_on, stays_same}
use Rattle.mesh_run.proofs.StillRemembered.{kept_place, moved_box}
use Rattle.mesh_run.proofs.WholeReaches.{meets_whole}

-- ---- boxes and corners
-- boxes that hold one place meet
common : (a b : Bounds) (p : Point) → IsInArea a p → IsInArea b p → DoBoundsMeet a b
common a b p h k = record {
  first_column = chained a.lo.x p.x b.hi.x h.right_of_least k.left_of_greatest;
  second_column = chained b.lo.x p.x a.hi.x k.right_of_least h.left_of_greatest;
  first_row = chained a.lo.y p.y b.hi.y h.above_least k.below_greatest;
  second_row = chained b.lo.y p.y a.hi.y k.above_least h.below_greatest;
}

in_grid : (p : Point) → IsOnGrid p → IsInArea whole_grid p
in_grid p on = record { right_of_least = on.x_within.least; left_of_greatest = on.x_within.greatest; above_least = on.y_within.least; below_greatest = on.y_within.greatest }

grid_point : (points : List Point) (n : ℕ) → All IsOnGrid points → IsListed (length points) n → IsOnGrid (point_at points n)
grid_point points n h l = h (n - 1) (record { x = pos 0; y = pos 0 }) (within n (length points) l.0 l.1)
  where
    within : (n m : ℕ) → 1 ≤ n → n ≤ m → n - 1 < m
    within n m h k = omega (arith, h, k)

-- what all corners of some triangles have, one has
one_corner : (P Q : ℕ → Type 0) (X : Type 0) (els : List (List ℕ)) → ((n : ℕ) → P n → Q n → X) → 1 ≤ length els → AllByRecursion (λ ns. length ns ≡ 3) els → All (λ ns. All P ns) els → All (λ ns. All Q ns) els → X
one_corner P Q X [] f l t h k = absurd (omega (arith, l))
one_corner P Q X ([] ∷ els) f l t h k = let three = t.0 in absurd (omega (arith, three))
one_corner P Q X ((n ∷ ns) ∷ els) f l t h k = f n (h 0 [] (omega arith) 0 0 (omega arith)) (k 0 [] (omega arith) 0 0 (omega arith))

-- corners in a box are in its area
module _ (box : Bounds) (points : List Point) where
  corners_in : (ns : List ℕ) → AreInBox box.lo box.hi (corners_of points ns) → AllByRecursion (λ n. IsInArea box (point_at points n)) ns
  corners_in [] h = tt
  corners_in (n ∷ ns) h = (
    record { right_of_least = h.right_of_least.0; left_of_greatest = h.left_of_greatest.0; above_least = h.above_least.0; below_greatest = h.below_greatest.0 },
    corners_in ns (record { right_of_least = h.right_of_least.1; left_of_greatest = h.left_of_greatest.1; above_least = h.above_least.1; below_greatest = h.below_greatest.1 }),
  )

  elements_in : (els : List (List ℕ)) → AllByRecursion (AreInBox box.lo box.hi) (map (corners_of points) els) → AllByRecursion (λ ns. All (λ n. IsInArea box (point_at points n)) ns) els
  elements_in [] h = tt
  elements_in (ns ∷ els) h = (All-from_recursion (λ n. IsInArea box (point_at points n)) ns (corners_in ns h.0), elements_in els h.1)

-- ---- rules and candidates
rule_at : (P : Rule → Type 0) (rules : List Rule) (k : ℕ) (r : Rule) → AllByRecursion P rules → slice_get rules k ≡ Some r → P r
rule_at P [] k r h e = absurd (cc)
rule_at P (x ∷ rules) zero r h e = let same : x ≡ r = cc in subst P same h.0
rule_at P (x ∷ rules) (suc k) r h e = rule_at P rules k r h.1 e

covered_by : (n : ℕ) (rules : List Rule) → AllByRecursion IsRule rules → AllByRecursion (λ r. IsLive r → Covers r n) rules → AllByRecursion (IsCoveredBy n) rules
covered_by n [] h k = tt
covered_by n (r ∷ rules) h k = (record { rule = h.0; covers = k.0 }, covered_by n rules h.1 k.1)

-- the elements that a candidate's application makes are at the candidate's places
element_places : (st : State) (t : Attempt) → AreJoined st.points st.front → IsRule t.text → IsCandidate st t → map (corners_of (st.points ++ made st t)) (application st t).elements ≡ elements st t
element_places st t joined rule c =
    let mapped : AreListed st.points t.points = all_map (IsFrontPoint st) (IsListed (length st.points)) (λ n. point_listed st n joined) t.points c.on_front in
    let count : length t.text.points + length t.text.new_points ≡ length t.points + length (made st t) = λ i. sym c.counted i + sym (as_many (mapping st t) 1 t.text.new_points) i in
    named_elements st.points (made st t) t.points t.text.elements mapped (subst (λ (n : ℕ). AreTriangles n t.text.elements) count rule.elements.1)

-- of two frames of one line, each at the size at its middle, one is the other
same_frame : (sizes : SizeField) (a b : Point) (f g : LocalFrame) → IsFrameOf a b (size_at sizes f.middle) f → IsFrameOf a b (size_at sizes g.middle) g → f ≡ g
same_frame sizes a b f g h k =
    let middle : g.middle ≡ f.middle = λ i. record { x = (k.middle_x ∙ sym h.middle_x) i; y = (k.middle_y ∙ sym h.middle_y) i } in
    one_frame a b (size_at sizes f.middle) f g h (subst (λ (p : Point). IsFrameOf a b (size_at sizes p) g) middle k)

-- ---- an application that comes next, and what is remembered before and after it
pub record IsPutOn (s : RunSetting) (st : State) (a : Application) (before after : Refusals) : Type 0 where
  pub joined_points : AreJoined st.points st.front
  pub rising : AreRising st.front st.next
  pub on_grid : All IsOnGrid (st.points ++ a.made)
  pub triangles : AllByRecursion (λ ns. length ns ≡ 3) a.elements
  pub listed : AllByRecursion (AreListed (st.points ++ a.made)) a.elements
  pub next : IsNext s st a
  pub reach : ℕ
  pub box : Bounds
  pub base : (ends : ℕ × ℕ) → line_at st.front a.line ≡ Some ends → IsReachBox s.sizes st.points reach ends.0 ends.1 box
  pub remembered : AreTrue before s st
  pub later : State
  pub forgotten : IsForgottenNear s later (st.points ++ a.made) a.elements before after

module _ (s : RunSetting) (st : State) (a : Application) (before after : Refusals) (h : IsPutOn s st a before after) where
  some : 1 ≤ length a.elements
  some = some_elements s.sizes s.rules st a h.next.best

  corner_box : IsCornerBox st a h.forgotten.area
  corner_box = record { holds = h.forgotten.holds; least = λ other held. h.forgotten.least other (meets_grid other held) held }
    where
      grid : All (λ ns. All (λ n. IsOnGrid (point_at (st.points ++ a.made) n)) ns) a.elements
      grid = All-weaker (AreListed (st.points ++ a.made)) (λ ns. All (λ n. IsOnGrid (point_at (st.points ++ a.made) n)) ns)
          (λ ns l. All-weaker (IsListed (length (st.points ++ a.made))) (λ n. IsOnGrid (point_at (st.points ++ a.made) n)) (λ n. grid_point (st.points ++ a.made) n h.on_grid) ns (All-from_recursion (IsListed (length (st.points ++ a.made))) ns l))
          a.elements (All-from_recursion (AreListed (st.points ++ a.made)) a.elements h.listed)

      meets_grid : (other : Bounds) → All (λ ns. All (λ n. IsInArea other (point_at (st.points ++ a.made) n)) ns) a.elements → DoBoundsMeet other whole_grid
      meets_grid other held =
          one_corner (λ n. IsInArea other (point_at (st.points ++ a.made) n)) (λ n. IsOnGrid (point_at (st.points ++ a.made) n)) (DoBoundsMeet other whole_grid) a.elements
          (λ n i on. common other whole_grid (point_at (st.points ++ a.made) n) i (in_grid (point_at (st.points ++ a.made) n) on)) some h.triangles held grid

  rules_are : AllByRecursion IsRule s.rules
  rules_are = all_map (IsCoveredAt 0 (slice_index_or before.reaches.items 0 0)) IsRule (λ r c. c.rule) s.rules (h.remembered.covers.covers 0 (above (length before.reaches.items) h.remembered.covers.long))
    where
      above : (n : ℕ) → n ≡ 17 → 0 < n
      above n e = omega (arith, e)

  -- ---- lines that are touched
  -- a line of which an entry was hit
  touched_by : (line : Triple) → Contains st.front line → HasEntryOf (filter (is_hit h.forgotten.area) before.regions.entries) line.0 → IsTouched s st a line
  touched_by line c e =
      let area = h.forgotten.area in let es = before.regions.entries in
      let was = All-contains (Contains es) (filter (is_hit area) es) e.entry (All-filter (is_hit area) (Contains es) es (All-contains_itself es)) e.there in
      let hit = All-contains (λ x. is_hit area x ≡ true) (filter (is_hit area) es) e.entry (filter_passes (is_hit area) es) e.there in
      let own = (h.remembered.reaching.own e.entry was).box line c (sym e.of_line) in
      let places = kept_place st a line h.joined_points c in
      let n = slice_index_or before.reaches.items own.class 0 in
      let box = moved_box s.sizes st.points (applied st a).points n line.1 line.2 e.entry.bounds places.0 places.1 own.is_box in
      record {
        box = area;
        corners = corner_box;
        frame = box.frame;
        is_frame = box.is_frame;
        framed = box.framed;
        meets = λ m all. meets_whole s.sizes (applied st a).points n m line.1 line.2 e.entry.bounds area (h.remembered.covers.no_greater own.class own.tried m (covered_by m s.rules rules_are all.live)) box (met e.entry.bounds area hit);
      }

  -- the base line: the corners of the elements lie in its reach
  abbrev t : Attempt
  t = h.next.best.attempt

  frame_is : IsFrame t.frame
  frame_is =
      let of = h.next.best.least.of in let c = of.on_front in
      let ends : line_at st.front t.line.0 ≡ Some (t.line.1, t.line.2) = line_numbered st.front st.next c.0 t.line t.line h.rising c.1 c.2 in
      let g = h.base (t.line.1, t.line.2) (subst (λ (n : ℕ). line_at st.front n ≡ Some (t.line.1, t.line.2)) of.same_line ends) in
      subst IsFrame (same_frame s.sizes (point_at st.points t.line.1) (point_at st.points t.line.2) g.frame t.frame g.framed of.framed) g.is_frame

  base_within : (n : ℕ) → IsReachOfAll s.rules n → IsWithinReach (reach_lo n t.frame) (reach_hi n t.frame) (places_of st t)
  base_within n all =
      let of = h.next.best.least.of in let c = h.next.best.least.candidate in
      within_reach n st t (subst (λ (k : ℕ). 1 ≤ k) (sym of.same_class) h.next.first_class) frame_is (rule_at IsRule s.rules (t.rule - 1) t.text rules_are of.is_rule)
      (rule_at (λ r. IsLive r → Covers r n) s.rules (t.rule - 1) t.text all.live of.is_rule c.live) c

  base_meets : (n : ℕ) → IsReachOfAll s.rules n → DoBoundsMeet (whole_reach n t.frame) h.forgotten.area
  base_meets n all =
      let of = h.next.best.least.of in let c = h.next.best.least.candidate in let area = h.forgotten.area in
      let places : map (corners_of (st.points ++ a.made)) a.elements ≡ elements st t =
      ap (λ (x : Application). map (corners_of (st.points ++ x.made)) x.elements) h.next.best.gives ∙ element_places st t h.joined_points (rule_at IsRule s.rules (t.rule - 1) t.text rules_are of.is_rule) c in
      let within = subst (AllByRecursion (AreInBox (reach_lo n t.frame) (reach_hi n t.frame))) (sym places) (base_within n all).elements in
      one_corner (λ k. IsInArea (whole_reach n t.frame) (point_at (st.points ++ a.made) k)) (λ k. IsInArea area (point_at (st.points ++ a.made) k)) (DoBoundsMeet (whole_reach n t.frame) area) a.elements
      (λ k i j. common (whole_reach n t.frame) area (point_at (st.points ++ a.made) k) i j) some h.triangles
      (All-from_recursion (λ ns. All (λ k. IsInArea (whole_reach n t.frame) (point_at (st.points ++ a.made) k)) ns) a.elements (elements_in (whole_reach n t.frame) (st.points ++ a.made) a.elements within)) h.forgotten.holds

  base_touched : IsTouched s st a t.line
  base_touched =
      let of = h.next.best.least.of in let places = kept_place st a t.line h.joined_points of.on_front in
      record {
        box = h.forgotten.area;
        corners = corner_box;
        frame = t.frame;
        is_frame = frame_is;
        framed = subst (λ (p : Point). IsFrameOf p (point_at (applied st a).points t.line.2) (size_at s.sizes t.frame.middle) t.frame) (sym places.0)
            (subst (λ (p : Point). IsFrameOf (point_at st.points t.line.1) p (size_at s.sizes t.frame.middle) t.frame) (sym places.1) of.framed);
        meets = base_meets;
      }

  -- ---- which lines are counted
  -- whether as much is remembered of the line as before
  abbrev as_much : Triple → Bool
  as_much line = nat_eq (slice_index_or after.least.items line.0 0) (slice_index_or before.least.items line.0 0)

  -- of an old line something is forgotten, or it is the base line
  abbrev counts : Triple → Bool
  counts line = nat_lt line.0 st.next && (not (as_much line) || nat_eq line.0 t.line.0)

  touched_line : (line : Triple) → Contains (applied st a).front line → counts line ≡ true → IsTouched s st a line
  touched_line line c e = by (parts (nat_lt line.0 st.next) (as_much line) (nat_eq line.0 t.line.0) e)
    where
      parts : (p q r : Bool) → (p && (not q || r)) ≡ true → (p ≡ true) × ((q ≡ false) ⊎ (r ≡ true))
      parts false q r e = absurd (cc)
      parts true false r e = (refl, inl refl)
      parts true true true e = (refl, inr refl)
      parts true true false e = absurd (cc)

      equal : (m n : ℕ) → nat_eq m n ≡ true → m ≡ n
      equal m n e = grind arith

      differ : (m n : ℕ) → m ≡ n → nat_eq m n ≡ false → ⊥
      differ m n e f = grind arith

      clash : (m n : ℕ) → nat_lt m n ≡ true → n ≤ m → ⊥
      clash m n e l = grind arith

      level : (n : ℕ) → n ≤ n
      level n = omega arith

      old : nat_lt line.0 st.next ≡ true → Contains st.front line
      old less = here (contained (IsOldOrNew st.front st.next) (applied st a).front line (elements_on st.front st.next (with_points st a.made) a.elements (level st.next) (all_old st.front st.next st.front (λ l k. k))) c)
        where
          here : Contains st.front line ⊎ (st.next ≤ line.0) → Contains st.front line
          here (inl k) = k
          here (inr k) = absurd (clash line.0 st.next less k)

      hit : (as_much line ≡ false) → (slice_index_or after.least.items line.0 0 ≡ slice_index_or before.least.items line.0 0) ⊎ HasEntryOf (filter (is_hit h.forgotten.area) before.regions.entries) line.0 → HasEntryOf (filter (is_hit h.forgotten.area) before.regions.entries) line.0
      hit e (inl same) = absurd (differ (slice_index_or after.least.items line.0 0) (slice_index_or before.least.items line.0 0) same e)
      hit e (inr there) = there

      by : (nat_lt line.0 st.next ≡ true) × ((as_much line ≡ false) ⊎ (nat_eq line.0 t.line.0 ≡ true)) → IsTouched s st a line
      by (less, inl e) = touched_by line (old less) (hit e (h.forgotten.kept line.0))
      by (less, inr e) = subst (IsTouched s st a) (sym (stays_same st a t.line line h.rising h.next.best.least.of.on_front c (equal line.0 t.line.0 e))) base_touched

  touched_lines : AllByRecursion (IsTouched s st a) (filter counts (applied st a).front)
  touched_lines =
      let later = (applied st a).front in
      recursion_from_All (IsTouched s st a) (filter counts later)
      (λ k d l. touched_line (slice_index_or (filter counts later) k d) (All-filter counts (Contains later) later (All-contains_itself later) k d l) (filter_passes counts later k d l))

  -- ---- the sum
  -- a line that isn't counted has no more due than before
  line_paid : (line : Triple) → due_at s.last after.least.items line ≤ as_before s.last before.least.items after.least.items st a t.line counts line + cond (is_new s.last before.least.items after.least.items st a t.line counts line) s.last 0 + cond (counts line) s.last 0
  line_paid line = by (nat_lt line.0 st.next) (as_much line) (nat_eq line.0 t.line.0) refl
    where
      equal : (m n : ℕ) → nat_eq m n ≡ true → m ≡ n
      equal m n e = grind arith

      most : (n : ℕ) → s.last + 1 - max 1 n ≤ s.last
      most n = omega arith

      first : (d n : ℕ) → d ≤ n → d ≤ 0 + 0 + n
      first d n l = omega (arith, l)

      second : (d n k : ℕ) → d ≤ n → d ≤ k + 0 + n
      second d n k l = omega (arith, l)

      third : (d n : ℕ) → d ≤ n → d ≤ 0 + n + 0
      third d n l = omega (arith, l)

      alike : (m n : ℕ) → m ≡ n → s.last + 1 - max 1 m ≤ s.last + 1 - max 1 n + 0 + 0
      alike m n e = omega (arith, e)

      d : ℕ
      d = due_at s.last after.least.items line

      by : (p q r : Bool) → as_much line ≡ q → due_at s.last after.least.items line ≤ cond (p && not r) (due_at s.last before.least.items line) 0 + cond (not p) s.last 0 + cond (p && (not q || r)) s.last 0
      by false q r e = third _ s.last (most (slice_index_or after.least.items line.0 0))
      by true false true e = first _ s.last (most (slice_index_or after.least.items line.0 0))
      by true true true e = first _ s.last (most (slice_index_or after.least.items line.0 0))
      by true false false e = second _ s.last (due_at s.last before.least.items line) (most (slice_index_or after.least.items line.0 0))
      by true true false e = alike (slice_index_or after.least.items line.0 0) (slice_index_or before.least.items line.0 0) (equal (slice_index_or after.least.items line.0 0) (slice_index_or before.least.items line.0 0) e)

  lines_paid : (lines : List Triple) → AllByRecursion (λ line. due_at s.last after.least.items line ≤ as_before s.last before.least.items after.least.items st a t.line counts line + cond (is_new s.last before.least.items after.least.items st a t.line counts line) s.last 0 + cond (counts line) s.last 0) lines
  lines_paid [] = tt
  lines_paid (line ∷ lines) = (line_paid line, lines_paid lines)

  -- the base line wasn't refused at the class, so it had a pair
  base_due : 1 ≤ due_at s.last before.least.items t.line
  base_due = at_least (slice_index_or before.least.items t.line.0 0) (subst (λ (n : ℕ). slice_index_or before.least.items n 0 ≤ a.class) (sym h.next.best.least.of.same_line) (open_at (slice_index_or before.least.items a.line 0) refl (compared (slice_index_or before.least.items a.line 0) a.class)))
    where
      compared : (m n : ℕ) → (m ≤ n) ⊎ (n < m)
      compared m n = grind arith

      at_least : (n : ℕ) → n ≤ a.class → 1 ≤ s.last + 1 - max 1 n
      at_least n l = omega (arith, l, h.next.first_class, h.next.last_class)

      open_at : (n : ℕ) → n ≡ slice_index_or before.least.items a.line 0 → (n ≤ a.class) ⊎ (a.class < n) → n ≤ a.class
      open_at n e (inl l) = l
      open_at n e (inr l) = absurd ((h.remembered.remembered.none a.line a.class h.next.first_class (subst (λ (k : ℕ). a.class < k) e l)).none t h.next.best.least.of h.next.best.least.candidate)

  pub application_paid : IsPaid s st a (due s.last before.least.items st.front) (due s.last after.least.items (applied st a).front + 1)
  application_paid = record {
    lines = length (joined st a) + length (filter counts (applied st a).front);
    changed = record { lines = filter counts (applied st a).front; touched = record { is_one = counts; lines_are = refl; each = touched_lines }; count = refl };
    paid = spread (due s.last after.least.items (applied st a).front + 1) (due s.last before.least.items st.front) (length (joined st a)) (length (filter counts (applied st a).front))
        (paid_front s.last before.least.items after.least.items st a t.line counts h.next.best.least.of.on_front base_due (lines_paid (applied st a).front));
  }
    where
      spread : (x y j u : ℕ) → x ≤ y + s.last * j + s.last * u → x ≤ y + s.last * (j + u)
      spread x y j u l = let e = times s.last j u in omega (arith, l, e)

-- ---- what a run pays for
-- the base line of an application that comes next is on the front
pub base_there : (sizes : SizeField) (rules : List Rule) (st : State) (f : FrontState) (a : Application) → IsFrontState f → f.lines ≡ st.front → IsBest sizes st rules a.line a.class a → is_some (line_at f.lines a.line) ≡ true
base_there sizes rules st f a front same best =
    let line = best.attempt.line in let c = subst (λ (lines : List Triple). Contains lines line) (sym same) best.least.of.on_front in
    ap is_some (subst (λ (n : ℕ). line_at f.lines n ≡ Some (line.1, line.2)) best.least.of.same_line (line_numbered f.lines f.next c.0 line line front.rising c.1 c.2))

-- a run with these parts to which an application is put, by way of a front that is the same to it; what it remembers before and after; and the box of the
-- base line's reach by some number
pub record IsGoingOn (p : RunParts) (a : Application) (same after : FrontState) (applications : List Application) (before left : Refusals) : Type 0 where
  pub remembered : AreTrue before (setting_by (run_of p).basis) (run_of p).state
  pub grows : p.opened ≤ length p.front.points
  pub next : IsNext (setting_by (run_of p).basis) (run_of p).state a
  pub front : IsFrontState same
  pub may : MayBeApplied (state_of same) a
  pub pushed : IsPushed p a same after applications
  pub forgotten : IsForgottenNear (setting_by (run_of p).basis) (applied (state_of same) a) (same.points ++ a.made) a.elements before left
  pub reach : ℕ
  pub box : Bounds
  pub base : (ends : ℕ × ℕ) → line_at same.lines a.line ≡ Some ends → IsReachBox p.sizes same.points reach ends.0 ends.1 box

pub run_paid : (p : RunParts) (a : Application) (same after : FrontState) (applications : List Application) (before left : Refusals) → IsGoingOn p a same after applications before left
    → IsPaid (setting_by (run_of p).basis) (run_of p).state a (due p.options.last before.least.items p.front.lines) (due p.options.last left.least.items after.lines + 1)
run_paid p a same after applications before left h =
    let s = setting_by (run_of p).basis in let st = (run_of p).state in let equal = h.pushed.equal in
    let put : IsPutOn s st a before left = record {
      joined_points = subst (λ (points : List Point). AreJoined points p.front.lines) equal.points (subst (AreJoined same.points) equal.lines h.front.numbered.lines_listed);
      rising = subst (AreRising p.front.lines) equal.next (subst (λ (lines : List Triple). AreRising lines same.next) equal.lines h.front.rising);
      on_grid = subst (λ (points : List Point). All IsOnGrid (points ++ a.made)) equal.points (All-append IsOnGrid same.points a.made h.front.on_grid h.may.on_grid);
      triangles = h.may.triangles;
      listed = subst (λ (points : List Point). AllByRecursion (AreListed (points ++ a.made)) a.elements) equal.points h.may.listed;
      next = h.next;
      reach = h.reach;
      box = h.box;
      base = λ ends e. subst (λ (points : List Point). IsReachBox p.sizes points h.reach ends.0 ends.1 h.box) equal.points (h.base ends (subst (λ (lines : List Triple). line_at lines a.line ≡ Some ends) (sym equal.lines) e));
      remembered = h.remembered;
      later = applied (state_of same) a;
      forgotten = subst (λ (points : List Point). IsForgottenNear s (applied (state_of same) a) (points ++ a.made) a.elements before left) equal.points h.forgotten;
    } in
    let lines : after.lines ≡ (applied st a).front = ap (λ (r : RunState). r.state.front) (put_run p a same after applications h.grows h.pushed) in
    subst (λ (later : List Triple). IsPaid s st a (due p.options.last before.least.items p.front.lines) (due p.options.last left.least.items later + 1)) (sym lines) (application_paid s st a before left put)
