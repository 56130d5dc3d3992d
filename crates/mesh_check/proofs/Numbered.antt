-- Sides and edge rows counted by the numbers of their points are those counted by places, where points have different
-- places.
use Rattle.std.proofs.Common.{◌≡◌, ◌≢◌, ◌⊎◌, ℕ, ◌+◌, ◌<◌, ◌≤◌, ◌==◌, nat_eq, nat_lt, Bool, true, false, ◌&&◌, cond, List, [], ◌∷◌, ◌++◌, length, map, filter, All, inl, inr, refl, sym, ◌∙◌, ap, subst, arith}
use lib.IntN.{ℤ, pos, ◌-ℤ◌}
use Rattle.std.proofs.lemmas.Int.{ints}
use Rattle.std.proofs.lemmas.Bool.{cases_order, cases_lt}
use Rattle.std.specs.List.{AllByRecursion}
use Rattle.std.proofs.lemmas.List.Elements.{recursion_from_All}
use Rattle.grid_geom.specs.declared.Point.{Point}
use Rattle.grid_geom.specs.declared.Edge.{Edge}
use Rattle.grid_geom.specs.Closed.{same_point}
use Rattle.grid_geom.specs.Winding.{and}
use Rattle.grid_geom.specs.Polygon.{sides}
use Rattle.grid_geom.proofs.Signs.{ordered}
use Rattle.wind_law.specs.Chains.{back, same_edge, times}
use Rattle.wind_law.proofs.ClosedSums.{point_test}
use Rattle.state_law.specs.Kept.{all_sides}
use Rattle.state_law.specs.State.{IsListed, point_at, pair_edge, number_sides, number_way, corners_of}
use Rattle.state_law.proofs.Numbers.{side_edges}
use Rattle.geom_check.specs.Accepted.{ArePlacesDifferent}
use Rattle.geom_check.specs.Boundary.{with_edge}
use Rattle.vol_format.specs.declared.EdgeRow.{EdgeRow}
use Rattle.vol_format.specs.declared.MeshElement.{MeshElement}
use Rattle.vol_format.specs.declared.Mesh.{Mesh}
use Rattle.mesh_check.specs.declared.sides.Side.{Side}
use Rattle.mesh_check.specs.declared.difference.Difference.{Difference}
use Rattle.mesh_check.specs.Parts.{NamesItsPoints, RowJoins, polygons_in, boundary_rows, row_edge}
use Rattle.mesh_check.specs.Whole.{IsPair, IsChained, sides_between, rows_between}
use Rattle.mesh_check.specs.Verdict.{IsLeastChain}
use Rattle.mesh_check.specs.Balance.{side_of, element_sides, with_side, row_sides, turned, same_side, side_count, net_of, IsUpto, IsLeastDifference}
use Rattle.mesh_check.proofs.Apart.{two_places}
use Rattle.mesh_check.proofs.SideCounts.{count_both, same_sound}

-- ---- one pair of points
same_number : (points : List Point) (i j : ℕ) → ArePlacesDifferent points → IsListed (length points) i → IsListed (length points) j → same_point (point_at points i) (point_at points j) ≡ nat_eq i j
same_number points i j places hi hj = elim (cases_order i j) [
  | inl e ↦ subst (λ (k : ℕ). same_point (point_at points i) (point_at points k) ≡ nat_eq i k) e (point_test.reflexive (point_at points i) ∙ sym (eq_same i))
  | inr r ↦ other (same_point (point_at points i) (point_at points j)) refl (unequal r)
]
  where
    eq_same : (i : ℕ) → nat_eq i i ≡ true
    eq_same i = grind arith

    unequal : (i < j) ⊎ (j < i) → nat_eq i j ≡ false
    unequal h = grind arith

    apart : nat_eq i j ≡ false → i ≢ j
    apart h e = let g : nat_eq i j ≡ true = subst (λ (k : ℕ). nat_eq i k ≡ true) e (eq_same i) in absurd (cc)

    other : (b : Bool) → same_point (point_at points i) (point_at points j) ≡ b → nat_eq i j ≡ false → b ≡ nat_eq i j
    other true e h = absurd (two_places points i j places hi hj (apart h) (point_test.sound (point_at points i) (point_at points j) e))
    other false e h = sym h

-- the ends of a pair are numbers of points
abbrev pub AreListed : ℕ → ℕ × ℕ → Type 0
AreListed n s = IsListed n s.0 × IsListed n s.1

and_is : (a b c d : Bool) → a ≡ c → b ≡ d → and a b ≡ (c && d)
and_is true b c d e f = sym (subst (λ (c : Bool). (c && d) ≡ b) e (sym f))
and_is false b c d e f = sym (subst (λ (c : Bool). (c && d) ≡ false) e refl)

same_pair : (points : List Point) (s t : ℕ × ℕ) → ArePlacesDifferent points → AreListed (length points) s → AreListed (length points) t → same_edge (pair_edge points s) (pair_edge points t) ≡ (nat_eq s.0 t.0 && nat_eq s.1 t.1)
same_pair points s t places hs ht = and_is (same_point (point_at points s.0) (point_at points t.0)) (same_point (point_at points s.1) (point_at points t.1)) (nat_eq s.0 t.0) (nat_eq s.1 t.1) (same_number points s.0 t.0 places hs.0 ht.0) (same_number points s.1 t.1 places hs.1 ht.1)

-- ---- the sides of elements
pub times_both : (e : Edge) (es fs : List Edge) → times e (es ++ fs) ≡ times e es + times e fs
times_both e [] fs = nothing (times e fs)
  where
    nothing : (n : ℕ) → n ≡ 0 + n
    nothing n = omega arith
times_both e (f ∷ es) fs = added (cond (same_edge f e) 1 0) (times e (es ++ fs)) (times e es) (times e fs) (times_both e es fs)
  where
    added : (a n k l : ℕ) → n ≡ k + l → a + n ≡ a + k + l
    added a n k l h = omega arith

-- of the element's domain
own_sides : (points : List Point) (domain : ℕ) (s : ℕ × ℕ) (ns : List (ℕ × ℕ)) → ArePlacesDifferent points → AreListed (length points) s → AllByRecursion (AreListed (length points)) ns → times (pair_edge points s) (map (pair_edge points) ns) ≡ side_count (side_of domain s) (map (side_of domain) ns)
own_sides points domain s [] places h all = refl
own_sides points domain s (t ∷ ns) places h all = added (same_edge (pair_edge points t) (pair_edge points s)) (same_side (side_of domain t) (side_of domain s)) _ _ (same_pair points t s places all.0 h ∙ sym (own (nat_eq domain domain) (nat_eq t.0 s.0 && nat_eq t.1 s.1) (eq_same domain))) (own_sides points domain s ns places h all.1)
  where
    eq_same : (i : ℕ) → nat_eq i i ≡ true
    eq_same i = grind arith

    own : (a b : Bool) → a ≡ true → (a && b) ≡ b
    own true b e = refl
    own false b e = absurd (cc)

    added : (a b : Bool) (m n : ℕ) → a ≡ b → m ≡ n → cond a 1 0 + m ≡ cond b 1 0 + n
    added a b m n e f = ap (λ (c : Bool). cond c 1 0 + m) e ∙ ap (λ (k : ℕ). cond b 1 0 + k) f

-- of another domain
no_sides : (domain other : ℕ) (s : ℕ × ℕ) (ns : List (ℕ × ℕ)) → nat_eq other domain ≡ false → side_count (side_of domain s) (map (side_of other) ns) ≡ 0
no_sides domain other s [] h = refl
no_sides domain other s (t ∷ ns) h = nothing (nat_eq other domain) (nat_eq t.0 s.0 && nat_eq t.1 s.1) _ h (no_sides domain other s ns h)
  where
    nothing : (a b : Bool) (n : ℕ) → a ≡ false → n ≡ 0 → cond (a && b) 1 0 + n ≡ 0
    nothing true b n e f = absurd (cc)
    nothing false b n e f = omega arith

way_listed : (n first from : ℕ) (ns : List ℕ) → IsListed n first → IsListed n from → AllByRecursion (IsListed n) ns → AllByRecursion (AreListed n) (number_way first from ns)
way_listed n first from [] h k l = ((k, h), tt)
way_listed n first from (to ∷ ns) h k l = ((k, l.0), way_listed n first to ns h l.0 l.1)

pub sides_listed : (n : ℕ) (ns : List ℕ) → AllByRecursion (IsListed n) ns → AllByRecursion (AreListed n) (number_sides ns)
sides_listed n [] l = tt
sides_listed n (m ∷ ns) l = way_listed n m m ns l.0 l.0 l.1

-- each element names points
abbrev pub NameListed : ℕ → List MeshElement → Type 0
NameListed n elements = AllByRecursion (λ e. AllByRecursion (IsListed n) e.corners) elements

sides_count : (points : List Point) (domain : ℕ) (s : ℕ × ℕ) (elements : List MeshElement) → ArePlacesDifferent points → AreListed (length points) s → NameListed (length points) elements
    → times (pair_edge points s) (all_sides (polygons_in points domain elements)) ≡ side_count (side_of domain s) (element_sides elements)
sides_count points domain s [] places h all = refl
sides_count points domain s (e ∷ es) places h all = chosen (nat_eq e.domain domain) refl (sides_count points domain s es places h all.1) ∙ sym (count_both (side_of domain s) (map (side_of e.domain) (number_sides e.corners)) (element_sides es))
  where
    here : e.domain ≡ domain → times (pair_edge points s) (sides (corners_of points e.corners)) ≡ side_count (side_of domain s) (map (side_of e.domain) (number_sides e.corners))
    here f = ap (times (pair_edge points s)) (sym (side_edges points e.corners)) ∙ own_sides points domain s (number_sides e.corners) places h (sides_listed (length points) e.corners all.0) ∙ ap (λ (d : ℕ). side_count (side_of domain s) (map (side_of d) (number_sides e.corners))) (sym f)

    equal : nat_eq e.domain domain ≡ true → e.domain ≡ domain
    equal f = grind arith

    nothing : (m n : ℕ) → n ≡ 0 → m ≡ n + m
    nothing m n f = omega arith

    chosen : (b : Bool) → nat_eq e.domain domain ≡ b → times (pair_edge points s) (all_sides (polygons_in points domain es)) ≡ side_count (side_of domain s) (element_sides es) →
        times (pair_edge points s) (all_sides (map (λ (e : MeshElement). corners_of points e.corners) (cond b (e ∷ filter (λ (e : MeshElement). e.domain == domain) es) (filter (λ (e : MeshElement). e.domain == domain) es)))) ≡ side_count (side_of domain s) (map (side_of e.domain) (number_sides e.corners)) + side_count (side_of domain s) (element_sides es)
    chosen true f rest = times_both (pair_edge points s) (sides (corners_of points e.corners)) (all_sides (polygons_in points domain es)) ∙ ap (λ (n : ℕ). n + times (pair_edge points s) (all_sides (polygons_in points domain es))) (here (equal f)) ∙ ap (λ (n : ℕ). side_count (side_of domain s) (map (side_of e.domain) (number_sides e.corners)) + n) rest
    chosen false f rest = rest ∙ nothing (side_count (side_of domain s) (element_sides es)) (side_count (side_of domain s) (map (side_of e.domain) (number_sides e.corners))) (no_sides domain e.domain s (number_sides e.corners) f)

-- ---- edge rows
with_times : (b : Bool) (f e : Edge) (es : List Edge) → times e (with_edge b f es) ≡ cond (b && same_edge f e) 1 0 + times e es
with_times true f e es = refl
with_times false f e es = nothing (times e es)
  where
    nothing : (n : ℕ) → n ≡ 0 + n
    nothing n = omega arith

with_count : (b : Bool) (t s : Side) (ss : List Side) → side_count s (with_side b t ss) ≡ cond (b && same_side t s) 1 0 + side_count s ss
with_count true t s ss = refl
with_count false t s ss = nothing (side_count s ss)
  where
    nothing : (n : ℕ) → n ≡ 0 + n
    nothing n = omega arith

-- a domain above 0 on the side of a row
one_row : (points : List Point) (domain number : ℕ) (t s : ℕ × ℕ) → 0 < domain → ArePlacesDifferent points → AreListed (length points) t → AreListed (length points) s →
    ((number == domain) && same_edge (pair_edge points t) (pair_edge points s)) ≡ (nat_lt 0 number && same_side (side_of number t) (side_of domain s))
one_row points domain number t s h places ht hs = ap (λ (b : Bool). (number == domain) && b) (same_pair points t s places ht hs) ∙ tested number domain (nat_eq t.0 s.0 && nat_eq t.1 s.1) h
  where
    tested : (n d : ℕ) (b : Bool) → 0 < d → ((n == d) && b) ≡ (nat_lt 0 n && (nat_eq n d && b))
    tested n d true h = grind arith
    tested n d false h = grind arith

abbrev pub JoinListed : ℕ → List EdgeRow → Type 0
JoinListed n rows = AllByRecursion (λ row. RowJoins n row) rows

rows_count : (points : List Point) (domain : ℕ) (s : ℕ × ℕ) (rows : List EdgeRow) → 0 < domain → ArePlacesDifferent points → AreListed (length points) s → JoinListed (length points) rows
    → times (pair_edge points s) (boundary_rows points domain rows) ≡ side_count (side_of domain s) (row_sides rows)
rows_count points domain s [] p places h all = refl
rows_count points domain s (row ∷ rows) p places h all = with_times (row.left == domain) (row_edge points row) (pair_edge points s) (with_edge (row.right == domain) (back (row_edge points row)) (boundary_rows points domain rows))
    ∙ added _ _ _ _ (one_row points domain row.left (row.a, row.b) s p places (all.0.start, all.0.finish) h)
    (with_times (row.right == domain) (back (row_edge points row)) (pair_edge points s) (boundary_rows points domain rows) ∙ added _ _ _ _ (one_row points domain row.right (row.b, row.a) s p places (all.0.finish, all.0.start) h) (rows_count points domain s rows p places h all.1)
    ∙ sym (with_count (nat_lt 0 row.right) (side_of row.right (row.b, row.a)) (side_of domain s) (row_sides rows)))
    ∙ sym (with_count (nat_lt 0 row.left) (side_of row.left (row.a, row.b)) (side_of domain s) (with_side (nat_lt 0 row.right) (side_of row.right (row.b, row.a)) (row_sides rows)))
  where
    added : (a b : Bool) (m n : ℕ) → a ≡ b → m ≡ n → cond a 1 0 + m ≡ cond b 1 0 + n
    added a b m n e f = ap (λ (c : Bool). cond c 1 0 + m) e ∙ ap (λ (k : ℕ). cond b 1 0 + k) f

-- ---- a mesh
-- what is given of a mesh
pub record IsNumbered (m : Mesh) : Type 0 where
  pub places : ArePlacesDifferent m.points
  pub elements : NameListed (length m.points) m.elements
  pub rows : JoinListed (length m.points) m.edges

pub numbered : (m : Mesh) → ArePlacesDifferent m.points → NamesItsPoints m → IsNumbered m
numbered m places h = record {
  places = places;
  elements = each m.elements h.corners;
  rows = recursion_from_All (RowJoins (length m.points)) m.edges h.rows;
}
  where
    each : (es : List MeshElement) → All (λ e. All (IsListed (length m.points)) e.corners) es → NameListed (length m.points) es
    each [] h = tt
    each (e ∷ es) h = (recursion_from_All (IsListed (length m.points)) e.corners (h 0 e (omega arith)), each es (λ k d l. h (Prim.Native.Nat.suc k) d (omega (arith, l))))

abbrev pair_listed : (m : Mesh) (a b : ℕ) → IsPair m a b → AreListed (length m.points) (a, b)
pair_listed m a b p = ((p.first, omega (arith, p.ordered, p.last)), (omega (arith, p.first, p.ordered), p.last))

pub sides_are : (m : Mesh) (domain a b : ℕ) → IsNumbered m → IsPair m a b → sides_between m domain a b ≡ net_of (side_of domain (a, b)) (element_sides m.elements)
sides_are m domain a b h p = less _ _ _ _ (sides_count m.points domain (a, b) m.elements h.places l h.elements) (sides_count m.points domain (b, a) m.elements h.places (l.1, l.0) h.elements)
  where
    l : AreListed (length m.points) (a, b)
    l = pair_listed m a b p

    less : (i j k n : ℕ) → i ≡ k → j ≡ n → pos i -ℤ pos j ≡ pos k -ℤ pos n
    less i j k n e f = omega (arith, ints)

pub rows_are : (m : Mesh) (domain a b : ℕ) → IsNumbered m → 0 < domain → IsPair m a b → rows_between m domain a b ≡ net_of (side_of domain (a, b)) (row_sides m.edges)
rows_are m domain a b h z p = less _ _ _ _ (rows_count m.points domain (a, b) m.edges z h.places l h.rows) (rows_count m.points domain (b, a) m.edges z h.places (l.1, l.0) h.rows)
  where
    l : AreListed (length m.points) (a, b)
    l = pair_listed m a b p

    less : (i j k n : ℕ) → i ≡ k → j ≡ n → pos i -ℤ pos j ≡ pos k -ℤ pos n
    less i j k n e f = omega (arith, ints)

-- where no side differs, elements and boundaries agree
pub all_chained : (m : Mesh) → IsNumbered m → ((s : Side) → net_of s (element_sides m.elements) ≡ net_of s (row_sides m.edges)) → (domain : ℕ) → 0 < domain → IsChained m domain
all_chained m h same domain z a b p = sides_are m domain a b h p ∙ same (side_of domain (a, b)) ∙ sym (rows_are m domain a b h z p)

-- ---- the least difference
-- a side of a domain above 0 that joins two of n points
pub record IsSideOf (n : ℕ) (s : Side) : Type 0 where
  pub domain : 0 < s.domain
  pub from : IsListed n s.from
  pub to : IsListed n s.to

counted : (P : Side → Type 0) (s : Side) (ss : List Side) → AllByRecursion P ss → 1 ≤ side_count s ss → P s
counted P s [] all h = absurd (omega (arith, h))
counted P s (t ∷ ss) all h = here (same_side t s) refl h (λ l. counted P s ss all.1 l)
  where
    here : (b : Bool) → same_side t s ≡ b → 1 ≤ cond b 1 0 + side_count s ss → (1 ≤ side_count s ss → P s) → P s
    here true e h later = subst P (same_sound t s e) all.0
    here false e h later = later (omega (arith, h))

append_all : (P : Side → Type 0) (ss ts : List Side) → AllByRecursion P ss → AllByRecursion P ts → AllByRecursion P (ss ++ ts)
append_all P [] ts h k = k
append_all P (s ∷ ss) ts h k = (h.0, append_all P ss ts h.1 k)

map_all : (n domain : ℕ) (ns : List (ℕ × ℕ)) → 0 < domain → AllByRecursion (AreListed n) ns → AllByRecursion (IsSideOf n) (map (side_of domain) ns)
map_all n domain [] z h = tt
map_all n domain (s ∷ ns) z h = (record { domain = z; from = h.0.0; to = h.0.1 }, map_all n domain ns z h.1)

element_sides_of : (n : ℕ) (es : List MeshElement) → AllByRecursion (λ e. 0 < e.domain) es → NameListed n es → AllByRecursion (IsSideOf n) (element_sides es)
element_sides_of n [] z h = tt
element_sides_of n (e ∷ es) z h = append_all (IsSideOf n) (map (side_of e.domain) (number_sides e.corners)) (element_sides es) (map_all n e.domain (number_sides e.corners) z.0 (sides_listed n e.corners h.0)) (element_sides_of n es z.1 h.1)

with_all : (n : ℕ) (b : Bool) (s : Side) (ss : List Side) → (b ≡ true → IsSideOf n s) → AllByRecursion (IsSideOf n) ss → AllByRecursion (IsSideOf n) (with_side b s ss)
with_all n true s ss h k = (h refl, k)
with_all n false s ss h k = k

row_sides_of : (n : ℕ) (rows : List EdgeRow) → JoinListed n rows → AllByRecursion (IsSideOf n) (row_sides rows)
row_sides_of n [] h = tt
row_sides_of n (row ∷ rows) h =
    with_all n (nat_lt 0 row.left) (side_of row.left (row.a, row.b)) (with_side (nat_lt 0 row.right) (side_of row.right (row.b, row.a)) (row_sides rows)) (λ e. record { domain = above row.left e; from = h.0.start; to = h.0.finish })
    (with_all n (nat_lt 0 row.right) (side_of row.right (row.b, row.a)) (row_sides rows) (λ e. record { domain = above row.right e; from = h.0.finish; to = h.0.start }) (row_sides_of n rows h.1))
  where
    above : (k : ℕ) → nat_lt 0 k ≡ true → 0 < k
    above k e = grind arith

-- a side that differs is one of the mesh
differs_in : (n : ℕ) (es rs : List Side) (s : Side) → AllByRecursion (IsSideOf n) es → AllByRecursion (IsSideOf n) rs → net_of s es ≢ net_of s rs → IsSideOf n s
differs_in n es rs s he hr d = elim (cases_lt 0 (side_count s es)) [
  | inl h ↦ counted (IsSideOf n) s es he h
  | inr h ↦ elim (cases_lt 0 (side_count s rs)) [
    | inl k ↦ counted (IsSideOf n) s rs hr k
    | inr k ↦ elim (cases_lt 0 (side_count (turned s) es)) [
      | inl l ↦ back (counted (IsSideOf n) (turned s) es he l)
      | inr l ↦ elim (cases_lt 0 (side_count (turned s) rs)) [
        | inl o ↦ back (counted (IsSideOf n) (turned s) rs hr o)
        | inr o ↦ absurd (d (none (side_count s es) (side_count (turned s) es) (side_count s rs) (side_count (turned s) rs) h k l o))
      ]
    ]
  ]
]
  where
    back : IsSideOf n (turned s) → IsSideOf n s
    back t = record { domain = t.domain; from = t.to; to = t.from }

    none : (a b c d : ℕ) → a ≤ 0 → c ≤ 0 → b ≤ 0 → d ≤ 0 → pos a -ℤ pos b ≡ pos c -ℤ pos d
    none a b c d h k l o = omega (arith, ints)

-- of a side that differs and its turn, the lesser goes from the lesser number
rising : (es rs : List Side) (s : Side) → net_of s es ≢ net_of s rs → IsUpto s (turned s) → s.from < s.to
rising es rs s d (inl h) = absurd (omega (arith, h))
rising es rs s d (inr (e, inl h)) = h
rising es rs s d (inr (e, inr h)) = absurd (d (nothing (side_count s es) (side_count s rs) (side_count (turned s) es) (side_count (turned s) rs) (ap (λ (t : Side). side_count t es) same) (ap (λ (t : Side). side_count t rs) same)))
  where
    same : s ≡ turned s
    same = ap (λ (n : ℕ). record { domain = s.domain; from = n; to = s.to }) h.0 ∙ ap (λ (n : ℕ). record { domain = s.domain; from = s.to; to = n }) (sym h.0)

    nothing : (a b c d : ℕ) → a ≡ c → b ≡ d → pos a -ℤ pos c ≡ pos b -ℤ pos d
    nothing a b c d e f = omega (arith, ints)

turned_differ : (es rs : List Side) (s : Side) → net_of s es ≢ net_of s rs → net_of (turned s) es ≢ net_of (turned s) rs
turned_differ es rs s d e = d (back (side_count s es) (side_count (turned s) es) (side_count s rs) (side_count (turned s) rs) e)
  where
    back : (a b c d : ℕ) → pos b -ℤ pos a ≡ pos d -ℤ pos c → pos a -ℤ pos b ≡ pos c -ℤ pos d
    back a b c d e = omega (arith, ints)

-- two numbers that can't differ are equal
not_apart : (y z : ℤ) → (y ≢ z → ⊥) → y ≡ z
not_apart y z h = elim (ordered y z) [
  | inl l ↦ absurd (h (λ e. omega (arith, ints)))
  | inr r ↦ elim r [ inl e ↦ e | inr l ↦ absurd (h (λ e. omega (arith, ints))) ]
]

pub least_pair : (m : Mesh) (d : Difference) → IsNumbered m → AllByRecursion (λ e. 0 < e.domain) m.elements → IsLeastDifference (element_sides m.elements) (row_sides m.edges) d → IsLeastChain m d.side.domain d.side.from d.side.to d.elements d.edges
least_pair m d h z l = record {
  positive = side.domain;
  pair = pair;
  sides = l.elements_are ∙ sym (sides_are m d.side.domain d.side.from d.side.to h pair);
  rows = l.edges_are ∙ sym (rows_are m d.side.domain d.side.from d.side.to h side.domain pair);
  differ = l.differ;
  least_domain = λ k p n a b q. not_apart _ _ (λ e. earlier k n a b (l.least (side_of k (a, b)) (λ f. e (sides_are m k a b h q ∙ f ∙ sym (rows_are m k a b h p q)))));
  least_pair = λ u w q e. later u w (l.least (side_of d.side.domain (u, w)) (λ f. e (sides_are m d.side.domain u w h q ∙ f ∙ sym (rows_are m d.side.domain u w h side.domain q))));
}
  where
    differ : net_of d.side (element_sides m.elements) ≢ net_of d.side (row_sides m.edges)
    differ e = l.differ (l.elements_are ∙ e ∙ sym l.edges_are)

    side : IsSideOf (length m.points) d.side
    side = differs_in (length m.points) (element_sides m.elements) (row_sides m.edges) d.side (element_sides_of (length m.points) m.elements z h.elements) (row_sides_of (length m.points) m.edges h.rows) differ

    pair : IsPair m d.side.from d.side.to
    pair = record { first = side.from.0; ordered = rising (element_sides m.elements) (row_sides m.edges) d.side differ (l.least (turned d.side) (turned_differ (element_sides m.elements) (row_sides m.edges) d.side differ)); last = side.to.1 }

    earlier : (k : ℕ) → k < d.side.domain → (a b : ℕ) → IsUpto d.side (side_of k (a, b)) → ⊥
    earlier k n a b (inl i) = omega arith
    earlier k n a b (inr i) = omega (arith, i.0)

    later : (u w : ℕ) → IsUpto d.side (side_of d.side.domain (u, w)) → (d.side.from < u) ⊎ ((d.side.from ≡ u) × (d.side.to ≤ w))
    later u w (inl i) = absurd (omega arith)
    later u w (inr (e, i)) = i
