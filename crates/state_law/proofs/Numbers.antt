-- Gluing by numbers is gluing by places, where the points are different and all numbers are listed.
use Prim.Native.Nat.{ℕ, zero, suc, ◌-◌, ◌≤◌, ◌<◌}
use lib.IntN.{pos}
use lib.Dec.{T}
use lib.ListN.{length, get_or}
use mathlib.Core.Path.{◌≡◌, refl, sym, ap, ◌∙◌, subst}
use mathlib.Core.Bool.{Bool, true, false, ◌&&◌}
use mathlib.Core.List.{List, [], ◌∷◌, map}
use mathlib.Core.Logic.{◌⊎◌, inl, inr}
use native.Mathlib.Omega.{arith}
use Rattle.std.proofs.lemmas.List.Elements.{All-from_recursion, All-get_or}
use Rattle.std.specs.Prelude.{nat_eq}
use Rattle.std.specs.List.{AllByRecursion, IsDistinct}
use Rattle.grid_geom.specs.declared.Point.{Point}
use Rattle.grid_geom.specs.declared.Edge.{Edge}
use Rattle.grid_geom.specs.Polygon.{sides, way_round}
use Rattle.grid_geom.specs.Winding.{and}
use Rattle.grid_geom.specs.Closed.{same_point}
use Rattle.wind_law.specs.Chains.{same_edge}
use Rattle.wind_law.proofs.ClosedSums.{point_test}
use Rattle.state_law.specs.Gluing.{glue_side, glue_sides, glue}
use Rattle.state_law.specs.State.{State, point_at, pair_edge, front_edges, number_way, number_sides, corners_of, does_join, glue_line, next_after, glue_lines, glued, IsListed, IsNumbered}

-- ---- the sides
way_edges : (points : List Point) (first from : ℕ) (ns : List ℕ) → map (pair_edge points) (number_way first from ns) ≡ way_round (point_at points first) (point_at points from) (corners_of points ns)
way_edges points first from [] = refl
way_edges points first from (to ∷ ns) = ap (λ (es : List Edge). pair_edge points (from, to) ∷ es) (way_edges points first to ns)

pub side_edges : (points : List Point) (ns : List ℕ) → map (pair_edge points) (number_sides ns) ≡ sides (corners_of points ns)
side_edges points [] = refl
side_edges points (n ∷ ns) = way_edges points n n ns

-- ---- the same point has the same number
clash : {A : Type 0} → true ≡ false → A
clash e = absurd (subst (λ (b : Bool). T b) e tt)

distinct_at : (ps : List Point) (i j : ℕ) (d : Point) → IsDistinct same_point ps → i < j → j < length ps → same_point (get_or ps i d) (get_or ps j d) ≡ false
unfolding IsDistinct
distinct_at [] i j d h l k = absurd (omega (arith, k))
distinct_at (p ∷ ps) zero zero d h l k = absurd (omega (arith, l))
distinct_at (p ∷ ps) zero (suc j) d h l k = All-get_or (λ y. same_point p y ≡ false) ps j d (omega (arith, k)) (All-from_recursion (λ y. same_point p y ≡ false) ps h.0)
distinct_at (p ∷ ps) (suc i) zero d h l k = absurd (omega (arith, l))
distinct_at (p ∷ ps) (suc i) (suc j) d h l k = distinct_at ps i j d h.1 (omega (arith, l)) (omega (arith, k))

compared : (i j : ℕ) → (i ≡ j) ⊎ ((i < j) ⊎ (j < i))
compared i j = grind arith

eq_same : (i : ℕ) → nat_eq i i ≡ true
eq_same i = grind arith

eq_other : (i j : ℕ) → (i < j) ⊎ (j < i) → nat_eq i j ≡ false
eq_other i j h = grind arith

same_turned : (u w : Point) → same_point u w ≡ false → same_point w u ≡ false
same_turned u w h = test (same_point w u) refl
  where
    test : (b : Bool) → same_point w u ≡ b → b ≡ false
    test true i = clash (sym (subst (λ (z : Point). same_point u z ≡ true) (sym (point_test.sound w u i)) (point_test.reflexive u)) ∙ h)
    test false i = refl

pub same_number : (points : List Point) (i j : ℕ) → IsDistinct same_point points → IsListed (length points) i → IsListed (length points) j → same_point (point_at points i) (point_at points j) ≡ nat_eq i j
same_number points i j h li lj = elim (compared i j) [
  | inl e ↦ subst (λ (k : ℕ). same_point (point_at points i) (point_at points k) ≡ nat_eq i k) e (point_test.reflexive (point_at points i) ∙ sym (eq_same i))
  | inr r ↦ elim r [
    | inl l ↦ distinct_at points (i - 1) (j - 1) (record { x = pos 0; y = pos 0 }) h (before i j li.0 l) (below j (length points) lj.0 lj.1) ∙ sym (eq_other i j (inl l))
    | inr l ↦ same_turned (point_at points j) (point_at points i) (distinct_at points (j - 1) (i - 1) (record { x = pos 0; y = pos 0 }) h (before j i lj.0 l) (below i (length points) li.0 li.1)) ∙ sym (eq_other i j (inr l))
  ]
]
  where
    before : (i j : ℕ) → 1 ≤ i → i < j → i - 1 < j - 1
    before i j h l = omega arith

    below : (j n : ℕ) → 1 ≤ j → j ≤ n → j - 1 < n
    below j n h l = omega arith

-- ---- gluing
abbrev pub AreListed : ℕ → ℕ × ℕ → Type 0
AreListed n s = IsListed n s.0 × IsListed n s.1

and_is : (a b c d : Bool) → a ≡ c → b ≡ d → and a b ≡ (c && d)
and_is true b c d e f = sym (subst (λ (c : Bool). (c && d) ≡ b) e (sym f))
and_is false b c d e f = sym (subst (λ (c : Bool). (c && d) ≡ false) e refl)

same_line : (points : List Point) (line : ℕ × ℕ × ℕ) (s : ℕ × ℕ) → IsDistinct same_point points → AreListed (length points) (line.1, line.2) → AreListed (length points) s → same_edge (pair_edge points (line.1, line.2)) (pair_edge points s) ≡ does_join line s
same_line points line s h l k = and_is (same_point (point_at points line.1) (point_at points s.0)) (same_point (point_at points line.2) (point_at points s.1)) (nat_eq line.1 s.0) (nat_eq line.2 s.1) (same_number points line.1 s.0 h l.0 k.0) (same_number points line.2 s.1 h l.1 k.1)

abbrev LinesListed : ℕ → List (ℕ × ℕ × ℕ) → Type 0
LinesListed n front = AllByRecursion (λ line. IsListed n line.1 × IsListed n line.2) front

glue_line_edges : (points : List Point) (front : List (ℕ × ℕ × ℕ)) (next : ℕ) (s : ℕ × ℕ) → IsDistinct same_point points → LinesListed (length points) front → AreListed (length points) s → front_edges points (glue_line front next s) ≡ glue_side (front_edges points front) (pair_edge points s)
glue_line_edges points [] next s h l k = refl
glue_line_edges points (line ∷ front) next s h l k = (elim (does_join line s) as (λ (b : Bool). same_edge (pair_edge points (line.1, line.2)) (pair_edge points s) ≡ b → front_edges points (elim b [ true ↦ front | false ↦ line ∷ glue_line front next s ]) ≡ glue_side (front_edges points (line ∷ front)) (pair_edge points s)) [
  | true ↦ λ e. sym (chosen true e)
  | false ↦ λ e. ap (λ (es : List Edge). pair_edge points (line.1, line.2) ∷ es) (glue_line_edges points front next s h l.1 k) ∙ sym (chosen false e)
]) (same_line points line s h l.0 k)
  where
    chosen : (b : Bool) → same_edge (pair_edge points (line.1, line.2)) (pair_edge points s) ≡ b → glue_side (front_edges points (line ∷ front)) (pair_edge points s) ≡ elim b [ true ↦ front_edges points front | false ↦ pair_edge points (line.1, line.2) ∷ glue_side (front_edges points front) (pair_edge points s) ]
    chosen b e = ap (λ (b : Bool). elim b [ true ↦ front_edges points front | false ↦ pair_edge points (line.1, line.2) ∷ glue_side (front_edges points front) (pair_edge points s) ]) e

listed_line : (n : ℕ) (front : List (ℕ × ℕ × ℕ)) (next : ℕ) (s : ℕ × ℕ) → LinesListed n front → AreListed n s → LinesListed n (glue_line front next s)
listed_line n [] next s l k = ((k.1, k.0), tt)
listed_line n (line ∷ front) next s l k = elim (does_join line s) as (λ (b : Bool). LinesListed n (elim b [ true ↦ front | false ↦ line ∷ glue_line front next s ])) [
  | true ↦ l.1
  | false ↦ (l.0, listed_line n front next s l.1 k)
]

glue_lines_edges : (points : List Point) (front : List (ℕ × ℕ × ℕ)) (next : ℕ) (ss : List (ℕ × ℕ)) → IsDistinct same_point points → LinesListed (length points) front → AllByRecursion (AreListed (length points)) ss → front_edges points (glue_lines front next ss) ≡ glue_sides (front_edges points front) (map (pair_edge points) ss)
glue_lines_edges points front next [] h l k = refl
glue_lines_edges points front next (s ∷ ss) h l k = glue_lines_edges points (glue_line front next s) (next_after front next s) ss h (listed_line (length points) front next s l k.0) k.1
    ∙ ap (λ (es : List Edge). glue_sides es (map (pair_edge points) ss)) (glue_line_edges points front next s h l k.0)

listed_lines : (n : ℕ) (front : List (ℕ × ℕ × ℕ)) (next : ℕ) (ss : List (ℕ × ℕ)) → LinesListed n front → AllByRecursion (AreListed n) ss → LinesListed n (glue_lines front next ss)
listed_lines n front next [] l k = l
listed_lines n front next (s ∷ ss) l k = listed_lines n (glue_line front next s) (next_after front next s) ss (listed_line n front next s l k.0) k.1

way_listed : (n first from : ℕ) (ns : List ℕ) → IsListed n first → IsListed n from → AllByRecursion (IsListed n) ns → AllByRecursion (AreListed n) (number_way first from ns)
way_listed n first from [] h k l = ((k, h), tt)
way_listed n first from (to ∷ ns) h k l = ((k, l.0), way_listed n first to ns h l.0 l.1)

sides_listed : (n : ℕ) (ns : List ℕ) → AllByRecursion (IsListed n) ns → AllByRecursion (AreListed n) (number_sides ns)
sides_listed n [] l = tt
sides_listed n (m ∷ ns) l = way_listed n m m ns l.0 l.0 l.1

-- the front's edges after an element is glued by numbers are those after it is glued by places
pub glued_edges : (st : State) (ns : List ℕ) → IsNumbered st → AllByRecursion (IsListed (length st.points)) ns → front_edges st.points (glued st ns).front ≡ glue (front_edges st.points st.front) (corners_of st.points ns)
glued_edges st ns h l = glue_lines_edges st.points st.front st.next (number_sides ns) h.different h.lines_listed (sides_listed (length st.points) ns l)
    ∙ ap (glue_sides (front_edges st.points st.front)) (side_edges st.points ns)

pub glued_numbered : (st : State) (ns : List ℕ) → IsNumbered st → AllByRecursion (IsListed (length st.points)) ns → IsNumbered (glued st ns)
glued_numbered st ns h l = record { different = h.different; lines_listed = listed_lines (length st.points) st.front st.next (number_sides ns) h.lines_listed (sides_listed (length st.points) ns l) }
