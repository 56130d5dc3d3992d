-- A boundary is closed where it is balanced at each point of the file.
use Rattle.std.proofs.Common.{◌≡◌, ℕ, zero, suc, ◌+◌, ◌-◌, ◌<◌, ◌==◌, Bool, true, false, cond, List, [], ◌∷◌, length, slice_index_or, All, pos, ◌⊎◌, inl, inr, sym, ◌∙◌, ap, refl, subst, arith, drop, add-one}
use Rattle.std.specs.List.{AllByRecursion}
use Rattle.std.proofs.lemmas.List.Elements.{recursion_from_All}
use Rattle.std.proofs.lemmas.Bool.{cases_lt}
use Rattle.std.proofs.lemmas.Bool.Decides.{Decides-int_eq}
use Rattle.grid_geom.specs.declared.Point.{Point}
use Rattle.grid_geom.specs.declared.Edge.{Edge}
use Rattle.grid_geom.specs.Closed.{leaving, arriving, same_point, IsClosed}
use Rattle.grid_geom.specs.Winding.{and}
use Rattle.geom_check.proofs.LeastPairs.{same_parts}
use Rattle.std.specs.Ordering.{int_eq}
use Rattle.geom_check.specs.declared.kinds.Segment.{Segment}
use Rattle.geom_check.specs.Boundary.{edge_of, back, with_edge, boundary, IsSegmentOf, departures_of, arrivals_of}
use Rattle.geom_check.specs.declared.limits.TheConstants.{MOST_DOMAINS}
use Rattle.std.proofs.Math.Seq.{drop-cons}

-- a test is passed by some number below n, or by none
pub search_below : (f : ℕ → Bool) (n : ℕ) → ((k : ℕ) × (k < n) × (f k ≡ true)) ⊎ ((k : ℕ) → k < n → f k ≡ false)
search_below f zero = inr (λ k h. absurd (omega arith))
search_below f (suc n) = elim (search_below f n) [
  | inl found ↦ inl (found.0, omega (arith, found.1), found.2)
  | inr none ↦ last (f n) refl none
]
  where
    last : (b : Bool) → f n ≡ b → ((k : ℕ) → k < n → f k ≡ false) → ((k : ℕ) × (k < suc n) × (f k ≡ true)) ⊎ ((k : ℕ) → k < suc n → f k ≡ false)
    last true e none = inl (n, omega arith, e)
    last false e none = inr (λ k h. elim (cases_lt k n) [ inl j ↦ none k j | inr j ↦ let g : k ≡ n = omega arith in subst (λ (z : ℕ). f z ≡ false) (sym g) e ])

and_first : (a b : Bool) → and a b ≡ true → a ≡ true
and_first true b e = refl
and_first false b e = cc

and_second : (a b : Bool) → and a b ≡ true → b ≡ true
and_second true b e = e
and_second false b e = cc

pub same_point_is : (u w : Point) → same_point u w ≡ true → u ≡ w
same_point_is u w e = same_parts u w ((Decides-int_eq u.x w.x).0 (and_first (int_eq u.x w.x) (int_eq u.y w.y) e)) ((Decides-int_eq u.y w.y).0 (and_second (int_eq u.x w.x) (int_eq u.y w.y) e))

none_more : (b : Bool) (n : ℕ) → b ≡ false → n ≡ 0 → cond b 1 0 + n ≡ 0
none_more b n e f = grind arith

none_leave : (w : Point) (b : Bool) (e : Edge) (es : List Edge) → same_point e.a w ≡ false → leaving w es ≡ 0 → leaving w (with_edge b e es) ≡ 0
none_leave w true e es f g = none_more (same_point e.a w) (leaving w es) f g
none_leave w false e es f g = g

none_arrive : (w : Point) (b : Bool) (e : Edge) (es : List Edge) → same_point e.b w ≡ false → arriving w es ≡ 0 → arriving w (with_edge b e es) ≡ 0
none_arrive w true e es f g = none_more (same_point e.b w) (arriving w es) f g
none_arrive w false e es f g = g

-- w is at no point of the list
abbrev Misses : Point → List Point → Type 0
Misses w points = (k : ℕ) → k < length points → same_point (slice_index_or points k (record { x = pos 0; y = pos 0 })) w ≡ false

none_leave_boundary : (w : Point) (points : List Point) (d : ℕ) (ss : List Segment) → Misses w points → AllByRecursion (IsSegmentOf (length points)) ss → leaving w (boundary points d ss) ≡ 0
none_leave_boundary w points d [] m a = refl
none_leave_boundary w points d (s ∷ ss) m a =
    none_leave w (s.left == d) (edge_of points s) (with_edge (s.right == d) (back (edge_of points s)) (boundary points d ss)) (m (s.p - 1) (omega (arith, a.0.p_least, a.0.p_greatest)))
    (none_leave w (s.right == d) (back (edge_of points s)) (boundary points d ss) (m (s.q - 1) (omega (arith, a.0.q_least, a.0.q_greatest))) (none_leave_boundary w points d ss m a.1))

none_arrive_boundary : (w : Point) (points : List Point) (d : ℕ) (ss : List Segment) → Misses w points → AllByRecursion (IsSegmentOf (length points)) ss → arriving w (boundary points d ss) ≡ 0
none_arrive_boundary w points d [] m a = refl
none_arrive_boundary w points d (s ∷ ss) m a =
    none_arrive w (s.left == d) (edge_of points s) (with_edge (s.right == d) (back (edge_of points s)) (boundary points d ss)) (m (s.q - 1) (omega (arith, a.0.q_least, a.0.q_greatest)))
    (none_arrive w (s.right == d) (back (edge_of points s)) (boundary points d ss) (m (s.p - 1) (omega (arith, a.0.p_least, a.0.p_greatest))) (none_arrive_boundary w points d ss m a.1))

pub closed_by : (points : List Point) (d : ℕ) (ss : List Segment) → AllByRecursion (IsSegmentOf (length points)) ss → All (λ p. leaving p (boundary points d ss) ≡ arriving p (boundary points d ss)) points → IsClosed (boundary points d ss)
closed_by points d ss a balanced = record {
  balanced = λ w. elim (search_below (λ k. same_point (slice_index_or points k (record { x = pos 0; y = pos 0 })) w) (length points)) [
    | inl found ↦ subst (λ (z : Point). leaving z (boundary points d ss) ≡ arriving z (boundary points d ss)) (same_point_is (slice_index_or points found.0 (record { x = pos 0; y = pos 0 })) w found.2) (balanced found.0 (record { x = pos 0; y = pos 0 }) found.1)
    | inr none ↦ none_leave_boundary w points d ss none a ∙ sym (none_arrive_boundary w points d ss none a)
  ];
}

differs : (m n : ℕ) → m < n → (m == n) ≡ false
differs m n h = grind arith

-- a domain above all that segments name has no boundary
pub no_boundary : (points : List Point) (d : ℕ) (ss : List Segment) → MOST_DOMAINS < d → AllByRecursion (IsSegmentOf (length points)) ss → boundary points d ss ≡ []
no_boundary points d [] h a = refl
no_boundary points d (s ∷ ss) h a =
    ap (λ (b : Bool). with_edge b (edge_of points s) (with_edge (s.right == d) (back (edge_of points s)) (boundary points d ss))) (differs s.left d (omega (arith, a.0.left)))
    ∙ ap (λ (b : Bool). with_edge b (back (edge_of points s)) (boundary points d ss)) (differs s.right d (omega (arith, a.0.right))) ∙ no_boundary points d ss h a.1

pub closed_next : (points : List Point) (ss : List Segment) (d : ℕ) (edges : List Edge) → edges ≡ boundary points d ss → All (IsSegmentOf (length points)) ss → All (λ p. leaving p edges ≡ arriving p edges) points →
    ((c : ℕ) → 0 < c → c < d → IsClosed (boundary points c ss)) → (c : ℕ) → 0 < c → c < d + 1 → IsClosed (boundary points c ss)
closed_next points ss d edges e a balanced before c h j = elim (cases_lt c d) [
  | inl k ↦ before c h k
  | inr k ↦
      let f : d ≡ c = omega arith in
      subst (λ (z : ℕ). IsClosed (boundary points z ss)) f
      (closed_by points d ss (recursion_from_All (IsSegmentOf (length points)) ss a) (subst (λ (es : List Edge). All (λ p. leaving p es ≡ arriving p es) points) e balanced))
]

pub closed_all : (points : List Point) (ss : List Segment) (d : ℕ) → MOST_DOMAINS < d → All (IsSegmentOf (length points)) ss → ((c : ℕ) → 0 < c → c < d → IsClosed (boundary points c ss)) → (c : ℕ) → 0 < c → IsClosed (boundary points c ss)
closed_all points ss d h a before c j = elim (cases_lt c d) [
  | inl k ↦ before c j k
  | inr k ↦ subst (λ (es : List Edge). IsClosed es) (sym (no_boundary points c ss (omega arith) (recursion_from_All (IsSegmentOf (length points)) ss a))) (record { balanced = λ w. refl })
]

-- ---- counts of edges, one after another
-- the counts of the edges from place i on
pub leaving_drop : (w : Point) (es : List Edge) (i : ℕ) (d : Edge) → i < length es → leaving w (drop i es) ≡ departures_of (slice_index_or es i d) w + leaving w (drop (i + 1) es)
leaving_drop w es i d h = rw (add-one i) (ap (leaving w) (drop-cons es i d h))

pub arriving_drop : (w : Point) (es : List Edge) (i : ℕ) (d : Edge) → i < length es → arriving w (drop i es) ≡ arrivals_of (slice_index_or es i d) w + arriving w (drop (i + 1) es)
arriving_drop w es i d h = rw (add-one i) (ap (arriving w) (drop-cons es i d h))
