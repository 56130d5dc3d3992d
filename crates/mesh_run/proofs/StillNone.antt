-- A refusal stays true: after an application whose elements lie apart from a line's reach the line has no candidate at a class at which it had none.
use Rattle.std.proofs.Common.{◌≡◌, ℕ, zero, suc, ◌+◌, ◌<◌, ◌≤◌, ◌⊎◌, inl, inr, Bool, true, false, cond, slice_index_or, arith, List, [], ◌∷◌, ◌++◌, length, map, refl, sym, ap, ◌∙◌, subst}
use Rattle.std.specs.List.{AllByRecursion, Contains, list_any}
use Rattle.std.proofs.lemmas.List.Elements.{All-contains, All-from_recursion}
use Rattle.grid_geom.specs.declared.Point.{Point}
use Rattle.grid_geom.specs.declared.Edge.{Edge}
use Rattle.rule_reader.specs.declared.rule.Rule.{Rule}
use Rattle.rule_maps.specs.Frame.{LocalFrame}
use Rattle.size_field.specs.Size.{SizeField}
use Rattle.state_law.specs.Gluing.{glue_all, MayAllBeGlued}
use Rattle.state_law.specs.Refusal.{IsFront}
use Rattle.state_law.specs.Reach.{AreAlikeIn}
use Rattle.state_law.specs.State.{State, IsListed, IsNumbered, corners_of, front_edges, glued}
use Rattle.state_law.specs.State.{glue_line, glue_lines, next_after, next_after_all, number_sides, does_join, AreRising}
use Rattle.state_law.proofs.Numbers.{glued_edges, glued_numbered}
use Rattle.state_law.proofs.Region.{region_of, region_front}
use Rattle.admission.specs.Admission.{glued_on, MayFollow}
use Rattle.admission.proofs.Order.{same_points}
use Rattle.rule_match.specs.declared.application.Application.{Application}
use Rattle.rule_match.specs.Least.{HasNone}
use Rattle.rule_match.specs.Near.{IsAlikeNear, IsCoveredAt, IsStayingLine, reach_lo, reach_hi}
use Rattle.rule_match.proofs.FarAway.{alike_after}
use Rattle.rule_match.proofs.NearBack.{none_later_at}
use Rattle.mesh_run.specs.Reached.{IsReached, MayBeApplied, front_at}
use Rattle.mesh_run.specs.Remembered.{IsApartFrom}
use Rattle.mesh_run.specs.Steps.{applied, with_points}
use Rattle.mesh_run.proofs.Numbers.{edges_kept}
use Rattle.mesh_run.proofs.Steps.{reached_after, reached_with}

-- ---- elements glued by numbers are glued by places
abbrev AreAllListed : State → List (List ℕ) → Type 0
AreAllListed w els = AllByRecursion (λ ns. AllByRecursion (IsListed (length w.points)) ns) els

pub edges_on : (w : State) (els : List (List ℕ)) → IsNumbered w → AreAllListed w els → front_edges w.points (glued_on w els).front ≡ glue_all (front_at w) (map (corners_of w.points) els)
edges_on w [] n l = refl
edges_on w (ns ∷ els) n l = edges_on (glued w ns) els (glued_numbered w ns n l.0) l.1 ∙ ap (λ (es : List Edge). glue_all es (map (corners_of w.points) els)) (glued_edges w ns n l.0)

pub may_on : (w : State) (els : List (List ℕ)) → IsNumbered w → AreAllListed w els → MayFollow w els → MayAllBeGlued (map (corners_of w.points) els) (front_at w)
may_on w [] n l m = tt
may_on w (ns ∷ els) n l m = (m.0, subst (MayAllBeGlued (map (corners_of w.points) els)) (glued_edges w ns n l.0) (may_on (glued w ns) els (glued_numbered w ns n l.0) l.1 m.1))

-- ---- the state after an application is alike in a box apart from its elements
pub front_of : (b : List Edge) (st : State) → IsReached b st → IsFront (front_at st)
front_of b st r = region_front (front_at st) (region_of b [] (front_at st) _ r.kept)

pub alike_on : (lo hi : Point) (b : List Edge) (st : State) (a : Application) → IsReached b st → MayBeApplied st a → IsApartFrom lo hi st a → IsAlikeNear lo hi st (applied st a) a.made
alike_on lo hi b st a r m h =
    let w = with_points st a.made in let later = reached_after b st a r m in
    let n = (reached_with b st a.made r m.different m.on_grid).numbered in
    let points : (applied st a).points ≡ st.points ++ a.made = same_points w a.elements in
    let kept : front_at w ≡ front_at st = edges_kept st.points a.made st.front r.numbered.lines_listed in
    let after : front_at (applied st a) ≡ glue_all (front_at st) (map (corners_of w.points) a.elements) =
    ap (λ (ps : List Point). front_edges ps (applied st a).front) points ∙ edges_on w a.elements n m.listed ∙ ap (λ (es : List Edge). glue_all es (map (corners_of w.points) a.elements)) kept in
    record {
      points = points;
      numbered = r.numbered;
      later_numbered = later.numbered;
      front = front_of b st r;
      later_front = front_of b (applied st a) later;
      alike = subst (AreAlikeIn lo hi (front_at st)) (sym after)
          (alike_after lo hi h.least h.greatest (front_at st) (map (corners_of w.points) a.elements) h.box h.apart (front_of b st r) h.elements
          (subst (MayAllBeGlued (map (corners_of w.points) a.elements)) kept (may_on w a.elements n m.listed m.may)));
    }

-- so a line whose reach up to a class is apart from the elements, and which stays, has none where it had none
pub still_none : (sizes : SizeField) (rules : List Rule) (n last class : ℕ) (b : List Edge) (st : State) (a : Application) (line : ℕ × ℕ × ℕ) (f : LocalFrame) → 1 ≤ class → class ≤ last → AllByRecursion (IsCoveredAt last n) rules
    → IsReached b st → MayBeApplied st a → IsStayingLine sizes st (applied st a) line f → IsApartFrom (reach_lo n f) (reach_hi n f) st a → HasNone sizes st rules line.0 class → HasNone sizes (applied st a) rules line.0 class
still_none sizes rules n last class b st a line f first no_later covered r m stays h none =
    none_later_at sizes rules n last class st (applied st a) a.made line f first no_later covered stays (alike_on (reach_lo n f) (reach_hi n f) b st a r m h) none

-- ---- lines that stay
abbrev pub Triple : Type 0
Triple = ℕ × ℕ × ℕ

-- the line was there, or has a number from `next` on
abbrev pub IsOldOrNew : List Triple → ℕ → Triple → Type 0
IsOldOrNew old next line = Contains old line ⊎ (next ≤ line.0)

one_on : (old : List Triple) (first : ℕ) (front : List Triple) (next : ℕ) (s : ℕ × ℕ) → first ≤ next → AllByRecursion (IsOldOrNew old first) front → AllByRecursion (IsOldOrNew old first) (glue_line front next s)
one_on old first [] next s l h = (inr l, tt)
one_on old first (line ∷ front) next s l h = elim (does_join line s) as (λ (b : Bool). AllByRecursion (IsOldOrNew old first) (elim b [ true ↦ front | false ↦ line ∷ glue_line front next s ])) [
  | true ↦ h.1
  | false ↦ (h.0, one_on old first front next s l h.1)
]

pub next_rises : (front : List Triple) (next : ℕ) (s : ℕ × ℕ) → next ≤ next_after front next s
next_rises front next s = by (list_any (λ line. does_join line s) front)
  where
    by : (b : Bool) → next ≤ cond b next (next + 1)
    by true = omega arith
    by false = omega arith

lines_on : (old : List Triple) (first : ℕ) (front : List Triple) (next : ℕ) (ss : List (ℕ × ℕ)) → first ≤ next → AllByRecursion (IsOldOrNew old first) front → AllByRecursion (IsOldOrNew old first) (glue_lines front next ss) × (first ≤ next_after_all front next ss)
lines_on old first front next [] l h = (h, l)
lines_on old first front next (s ∷ ss) l h = let more = next_rises front next s in lines_on old first (glue_line front next s) (next_after front next s) ss (omega arith) (one_on old first front next s l h)

pub elements_on : (old : List Triple) (first : ℕ) (w : State) (els : List (List ℕ)) → first ≤ w.next → AllByRecursion (IsOldOrNew old first) w.front → AllByRecursion (IsOldOrNew old first) (glued_on w els).front
elements_on old first w [] l h = h
elements_on old first w (ns ∷ els) l h = let r = lines_on old first w.front w.next (number_sides ns) l h in elements_on old first (glued w ns) els r.1 r.0

pub all_old : (old : List Triple) (first : ℕ) (front : List Triple) → ((line : Triple) → Contains front line → Contains old line) → AllByRecursion (IsOldOrNew old first) front
all_old old first [] f = tt
all_old old first (line ∷ front) f = (inl (f line (0, omega arith, refl)), all_old old first front (λ other c. f other (suc c.0, omega (arith, c.1), c.2)))

-- lines with one number are one line
same_number_line : (front : List Triple) (next : ℕ) (a b : Triple) → AreRising front next → Contains front a → Contains front b → a.0 ≡ b.0 → a ≡ b
same_number_line front next a b r x y e = at front next r x.0 x.1 x.2 y.0 y.1 y.2
  where
    above : (line : Triple) (rest : List Triple) (k : ℕ) (d : Triple) → AllByRecursion (λ other. line.0 < other.0) rest → k < length rest → slice_index_or rest k d ≡ d → line.0 < d.0
    above line [] k d h w f = absurd (omega (arith, w))
    above line (other ∷ rest) zero d h w f = subst (λ (z : Triple). line.0 < z.0) f h.0
    above line (other ∷ rest) (suc k) d h w f = above line rest k d h.1 (omega (arith, w)) f

    below : (m n : ℕ) → m < n → m ≡ n → ⊥
    below m n l f = omega arith

    at : (front : List Triple) (next : ℕ) → AreRising front next → (i : ℕ) → i < length front → slice_index_or front i a ≡ a → (j : ℕ) → j < length front → slice_index_or front j b ≡ b → a ≡ b
    at [] next r i w f j v g = absurd (omega (arith, w))
    at (line ∷ front) next r zero w f zero v g = sym f ∙ g
    at (line ∷ front) next r zero w f (suc j) v g = absurd (below line.0 b.0 (above line front j b r.0 (omega (arith, v)) g) (ap (λ (z : Triple). z.0) f ∙ e))
    at (line ∷ front) next r (suc i) w f zero v g = absurd (below line.0 a.0 (above line front i a r.0 (omega (arith, w)) f) (ap (λ (z : Triple). z.0) g ∙ sym e))
    at (line ∷ front) next r (suc i) w f (suc j) v g = at front next r.2 i (omega (arith, w)) f j (omega (arith, v)) g

pub contained : {X : Type 0} (P : X → Type 0) (xs : List X) (x : X) → AllByRecursion P xs → Contains xs x → P x
contained P xs x h c = All-contains P xs x (All-from_recursion P xs h) c

pub below_next : (front : List Triple) (next : ℕ) (line : Triple) → AreRising front next → Contains front line → line.0 < next
below_next front next line r c = at front r c.0 c.1 c.2
  where
    at : (front : List Triple) → AreRising front next → (k : ℕ) → k < length front → slice_index_or front k line ≡ line → line.0 < next
    at [] r k w e = absurd (omega (arith, w))
    at (other ∷ front) r zero w e = subst (λ (z : Triple). z.0 < next) e r.1
    at (other ∷ front) r (suc k) w e = at front r.2 k (omega (arith, w)) e

-- each later line with the number of a line of before is this line
pub stays_same : (st : State) (a : Application) (line other : Triple) → AreRising st.front st.next → Contains st.front line → Contains (applied st a).front other → other.0 ≡ line.0 → other ≡ line
stays_same st a line other r on c e = by (contained (IsOldOrNew st.front st.next) (applied st a).front other (elements_on st.front st.next (with_points st a.made) a.elements (level st.next) (all_old st.front st.next st.front (λ l k. k))) c)
  where
    level : (n : ℕ) → n ≤ n
    level n = omega arith

    clash : (m n k : ℕ) → n ≤ m → m ≡ k → k < n → ⊥
    clash m n k l f b = omega arith

    by : Contains st.front other ⊎ (st.next ≤ other.0) → other ≡ line
    by (inl k) = same_number_line st.front st.next other line r k on e
    by (inr l) = absurd (clash other.0 st.next line.0 l e (below_next st.front st.next line r on))
