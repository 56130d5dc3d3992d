-- The verdict on one element, from the least numbers of what hinders it, the winding number and the area.
use Prim.Native.Nat.{ℕ}
use lib.IntN.{ℤ, pos, ◌+ℤ◌}
use lib.Signed.{◌≤ℤ◌}
use mathlib.Core.Path.{◌≡◌, refl, sym, subst}
use mathlib.Core.List.{List, [], ◌∷◌, map}
use mathlib.Core.Logic.{inl, inr}
use native.Mathlib.Omega.{arith}
use Rattle.std.proofs.lemmas.Int.{ints}
use Rattle.std.specs.Prelude.{Option, Some, None}
use Rattle.std.specs.List.{AllByRecursion}
use Rattle.grid_geom.specs.declared.Point.{Point}
use Rattle.grid_geom.specs.declared.Edge.{Edge}
use Rattle.grid_geom.specs.Sides.{IsOnOpen}
use Rattle.grid_geom.specs.Polygon.{sides, IsStrictlyConvex, IsApart}
use Rattle.grid_geom.specs.Area.{shoelace}
use Rattle.grid_geom.specs.Winding.{wind}
use Rattle.grid_geom.specs.Closed.{IsEdge, IsOff}
use Rattle.grid_geom.proofs.Entering.{apart_none, unentered_apart}
use Rattle.wind_law.specs.Centre.{centre}
use Rattle.wind_law.specs.Chains.{back}
use Rattle.wind_law.proofs.Inside.{centre_in_polygon, centre_rational}
use Rattle.state_law.specs.Free.{IsIn}
use Rattle.state_law.specs.Gluing.{IsClearOf, MayBeGlued}
use Rattle.state_law.specs.Region.{IsRegion}
use Rattle.state_law.specs.State.{State, pair_edge, front_edges}
use Rattle.state_law.proofs.Region.{region_centre}
use Rattle.admission.specs.declared.triangle.Line.{Line}
use Rattle.admission.specs.Triangles.{SomeOf, IsMet, IsOnSide, IsCornerOn, IsBackwards, IsSideOf, IsLine, IsEnd, HasSome, IsLeast, IsLeastOrNone}
use Rattle.admission.specs.Around.{drawn}
use Rattle.admission.specs.Admission.{edges_at, lines_at, HasNone, MeetsLine, HasPointOnSide, HasCornerOnLine, HasSideBackwards, IsApartFromLines, HasFreeSides, HasFreeCorners, IsClear, IsWithin}
use Rattle.admission.specs.declared.lines.Hindrances.{Hindrances}
use Rattle.admission.proofs.Transfer.{AreLeastAll, none_of}

abbrev Triple : Type 0
Triple = ℕ × ℕ × ℕ

-- where there is no least number, no number is there
pub none_there : (P : ℕ → Type 0) (o : Option ℕ) → IsLeastOrNone P o → o ≡ None → HasNone P
none_there P o h e = subst (IsLeastOrNone P) e h

pub least_there : (P : ℕ → Type 0) (o : Option ℕ) (n : ℕ) → IsLeastOrNone P o → o ≡ Some n → IsLeast P n
least_there P o n h e = subst (IsLeastOrNone P) e h

-- ---- lines that are clear
-- of a line that stands first
abbrev FirstNone : (Line → ℕ → Type 0) → List Point → List Triple → Type 0
FirstNone R points front = HasNone (HasSome R (map (drawn points) front))

rest : (R : Line → ℕ → Type 0) (points : List Point) (line : Triple) (front : List Triple) → FirstNone R points (line ∷ front) → FirstNone R points front
rest R points line front h = λ n k. h n (inr k)

clear_line : (cs points : List Point) (line : Triple) (front : List Triple) → IsStrictlyConvex cs → IsEdge (pair_edge points (line.1, line.2)) → FirstNone (IsLine (IsMet cs)) points (line ∷ front) → FirstNone (IsEnd (IsOnSide cs)) points (line ∷ front) →
    FirstNone (IsLine (IsCornerOn cs)) points (line ∷ front) → FirstNone (IsLine (IsBackwards cs)) points (line ∷ front) → IsClearOf cs (pair_edge points (line.1, line.2))
clear_line cs points line front v e m o c b = record {
  apart = unentered_apart x.a x.b cs e v (λ d. m line.0 (inl (λ a. apart_none x.a x.b cs e v a d, refl)));
  ends_off_sides = both (sides cs) (none_of (λ s. IsOnOpen x.a s.a s.b) (λ s. ¬ (IsOnOpen x.a s.a s.b)) (sides cs) (λ s n. n) (λ k. o line.1 (inl (inl (k, refl)))))
      (none_of (λ s. IsOnOpen x.b s.a s.b) (λ s. ¬ (IsOnOpen x.b s.a s.b)) (sides cs) (λ s n. n) (λ k. o line.2 (inl (inr (k, refl)))));
  corners_off_line = none_of (λ p. IsOnOpen p x.a x.b) (λ p. ¬ (IsOnOpen p x.a x.b)) cs (λ p n. n) (λ k. c line.0 (inl (k, refl)));
  not_backwards = none_of (λ s. x ≡ back s) (λ s. ¬ (x ≡ back s)) (sides cs) (λ s n. n) (λ k. b line.0 (inl (k, refl)));
}
  where
    x : Edge
    x = pair_edge points (line.1, line.2)

    both : (ss : List Edge) → AllByRecursion (λ s. ¬ (IsOnOpen x.a s.a s.b)) ss → AllByRecursion (λ s. ¬ (IsOnOpen x.b s.a s.b)) ss → AllByRecursion (λ s. ¬ (IsOnOpen x.a s.a s.b) × ¬ (IsOnOpen x.b s.a s.b)) ss
    both [] g h = tt
    both (s ∷ ss) g h = ((g.0, h.0), both ss g.1 h.1)

clear_lines : (cs points : List Point) (front : List Triple) → IsStrictlyConvex cs → AllByRecursion IsEdge (front_edges points front) → FirstNone (IsLine (IsMet cs)) points front → FirstNone (IsEnd (IsOnSide cs)) points front →
    FirstNone (IsLine (IsCornerOn cs)) points front → FirstNone (IsLine (IsBackwards cs)) points front → AllByRecursion (IsClearOf cs) (front_edges points front)
clear_lines cs points [] v e m o c b = tt
clear_lines cs points (line ∷ front) v e m o c b = (
  clear_line cs points line front v e.0 m o c b,
  clear_lines cs points front v e.1 (rest (IsLine (IsMet cs)) points line front m) (rest (IsEnd (IsOnSide cs)) points line front o) (rest (IsLine (IsCornerOn cs)) points line front c) (rest (IsLine (IsBackwards cs)) points line front b),
)

pub clear_of_state : (st : State) (cs : List Point) → IsRegion (edges_at st) → IsClear st cs → AllByRecursion (IsClearOf cs) (edges_at st)
clear_of_state st cs r h = clear_lines cs st.points st.front h.before.before.before.turned r.edges h.before.before.before.apart h.before.before.sides_free h.before.corners_free h.forwards

all_apart : (cs : List Point) (es : List Edge) → AllByRecursion (IsClearOf cs) es → AllByRecursion (λ e. IsApart e.a e.b cs) es
all_apart cs [] h = tt
all_apart cs (e ∷ es) h = (h.0.apart, all_apart cs es h.1)

-- ---- the winding number at the centre
-- by a side that is a front line
side_in : (cs points : List Point) (front : List Triple) (n : ℕ) → HasSome (IsLine (IsSideOf cs)) (map (drawn points) front) n → (e : Edge) × IsIn e (sides cs) × IsIn e (front_edges points front)
side_in cs points [] n h = absurd h
side_in cs points (line ∷ front) n h = elim h [
  | inl k ↦ (pair_edge points (line.1, line.2), in_sides (sides cs) k.0, inl refl)
  | inr k ↦ let r = side_in cs points front n k in (r.0, r.1, inr r.2)
]
  where
    in_sides : (ss : List Edge) → SomeOf (λ s. s ≡ pair_edge points (line.1, line.2)) ss → IsIn (pair_edge points (line.1, line.2)) ss
    in_sides [] k = absurd k
    in_sides (s ∷ ss) k = elim k [ inl e ↦ inl e | inr r ↦ inr (in_sides ss r) ]

pub once_by_side : (st : State) (cs : List Point) (n : ℕ) → IsRegion (edges_at st) → IsClear st cs → HasSome (IsLine (IsSideOf cs)) (lines_at st) n → wind (centre cs) (edges_at st) ≡ pos 1
once_by_side st cs n r h k = let s = side_in cs st.points st.front n k in region_centre (edges_at st) cs s.0 r h.before.before.before.turned (all_apart cs (edges_at st) (clear_of_state st cs r h)) s.1 s.2

-- by the sum
pub once_by_sum : (front taken now : ℤ) → front ≡ taken +ℤ now → front ≡ taken +ℤ pos 1 → now ≡ pos 1
once_by_sum front taken now h e = omega (arith, ints, h, e)

pub sum_if_once : (front taken now : ℤ) → front ≡ taken +ℤ now → now ≡ pos 1 → front ≡ taken +ℤ pos 1
sum_if_once front taken now h e = omega (arith, ints, h, e)

-- the centre is off the front lines, so the front winds 0 times round it or once
off_lines : (cs : List Point) (es : List Edge) → IsStrictlyConvex cs → AllByRecursion IsEdge es → AllByRecursion (IsClearOf cs) es → IsOff (centre cs) es
off_lines cs [] v n h = tt
off_lines cs (e ∷ es) v n h = (λ o. apart_none e.a e.b cs n.0 v h.0.apart (record { at = centre cs; rational = centre_rational cs v; on = o; inside = centre_in_polygon cs v }), off_lines cs es v n.1 h.1)

pub none_at_centre : (st : State) (cs : List Point) → IsRegion (edges_at st) → IsClear st cs → ¬ (wind (centre cs) (edges_at st) ≡ pos 1) → pos 0 ≡ wind (centre cs) (edges_at st)
none_at_centre st cs r h n = let v = h.before.before.before.turned in elim (r.single (centre cs) (centre_rational cs v) (off_lines cs (edges_at st) v r.edges (clear_of_state st cs r h))) [ inl e ↦ sym e | inr e ↦ absurd (n e) ]

-- ---- all conditions
pub may_join : (st : State) (cs : List Point) → IsRegion (edges_at st) → IsWithin st cs → shoelace (sides cs) ≤ℤ shoelace (edges_at st) → MayBeGlued cs (edges_at st)
may_join st cs r h a = record { turned = h.before.before.before.before.turned; clear = clear_of_state st cs r h.before; within = h.within; covered = a }

-- ---- condition after condition, where no least number is found
pub apart_from : (st : State) (cs : List Point) (h : Hindrances) → IsStrictlyConvex cs → AreLeastAll st cs h → h.met ≡ None → IsApartFromLines st cs
apart_from st cs h v a e = record { turned = v; apart = none_there (MeetsLine st cs) h.met a.met e }

pub free_sides : (st : State) (cs : List Point) (h : Hindrances) → IsStrictlyConvex cs → AreLeastAll st cs h → h.met ≡ None → h.on_side ≡ None → HasFreeSides st cs
free_sides st cs h v a e f = record { before = apart_from st cs h v a e; sides_free = none_there (HasPointOnSide st cs) h.on_side a.on_side f }

pub free_corners : (st : State) (cs : List Point) (h : Hindrances) → IsStrictlyConvex cs → AreLeastAll st cs h → h.met ≡ None → h.on_side ≡ None → h.corner_on ≡ None → HasFreeCorners st cs
free_corners st cs h v a e f g = record { before = free_sides st cs h v a e f; corners_free = none_there (HasCornerOnLine st cs) h.corner_on a.corner_on g }

pub is_clear : (st : State) (cs : List Point) (h : Hindrances) → IsStrictlyConvex cs → AreLeastAll st cs h → h.met ≡ None → h.on_side ≡ None → h.corner_on ≡ None → h.backwards ≡ None → IsClear st cs
is_clear st cs h v a e f g k = record { before = free_corners st cs h v a e f g; forwards = none_there (HasSideBackwards st cs) h.backwards a.backwards k }
