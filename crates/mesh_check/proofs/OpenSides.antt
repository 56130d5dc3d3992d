-- Points in open sides: found hit by hit, side by side and element by element.
use Rattle.std.proofs.Common.{◌≡◌, ◌⊎◌, ℕ, zero, suc, ◌+◌, ◌<◌, ◌≤◌, Bool, true, List, [], ◌∷◌, ◌++◌, length, slice_index_or, take, filter, All, Any, Option, Some, None, IfSome, IfNone, MatchOption, inl, inr, refl, sym, ◌∙◌, ap, subst, arith}
use lib.IntN.{pos}
use Rattle.std.specs.List.{AllByRecursion}
use Rattle.std.proofs.lemmas.Bool.{cases_lt}
use Rattle.std.proofs.lemmas.List.{get_or_default, take_more, take_all}
use Rattle.grid_geom.specs.declared.Point.{Point}
use Rattle.grid_geom.specs.declared.Edge.{Edge}
use Rattle.grid_geom.specs.declared.Bounds.{Bounds}
use Rattle.grid_geom.specs.Sides.{IsOnOpen}
use Rattle.grid_geom.specs.Polygon.{sides}
use Rattle.digital_tree.specs.declared.Entry.{Entry}
use Rattle.digital_tree.specs.Entries.{is_hit}
use Rattle.wind_law.specs.Chains.{edge}
use Rattle.state_law.specs.State.{corners_of}
use Rattle.vol_format.specs.declared.MeshElement.{MeshElement}
use Rattle.mesh_check.specs.Whole.{IsInOpenSide, DoesHang}
use Rattle.mesh_check.specs.Least.{NotAfter, IsLeast, IsLesser, IsLeastNumber, least_of}
use Rattle.mesh_check.specs.Near.{IsInBounds, IsPlaced, IsPointEntry, AreKept}
use Rattle.mesh_check.specs.Hung.{IsHungIn, IsMetAt, IsMetIn}
use Rattle.mesh_check.proofs.LeastPairs.{least_same, least_more, number_same, number_either}
use Rattle.mesh_check.proofs.Kept.{has_map, has_either, has_some, has_with, has_first, has_second, has_parts, has_hit, had_hit, polygon_inside, placed_hit}

-- ---- hit by hit
pub any_one : (P : Edge → Type 0) (e : Edge) → P e → Any P (e ∷ [])
any_one P e p = (0, e, omega arith, refl, p)

pub of_one : (P : Edge → Type 0) (e : Edge) → Any P (e ∷ []) → P e
of_one P e (zero, f, h, i, p) = subst P (sym i) p
of_one P e (suc k, f, h, i, p) = absurd (omega (arith, h))

-- an entry's place is in an open side of a list
abbrev IsMetOn : List Edge → ℕ → Entry ℕ → Type 0
IsMetOn edges n e = IsInOpenSide edges e.bounds.lo × (e.value ≡ n)

abbrev on_side : Point → Edge → Type 0
on_side p e = IsOnOpen p e.a e.b

pub more_met : (hits : List (Entry ℕ)) (a b : Point) (i : ℕ) (d : Entry ℕ) (best r : Option ℕ) → i < length hits → IsLeastNumber (IsMetAt (slice_index_or hits i d) a b) r → IsLeastNumber (IsMetIn (take i hits) (edge a b ∷ [])) best
    → IsLeastNumber (IsMetIn (take (i + 1) hits) (edge a b ∷ [])) (least_of best r)
more_met hits a b i d best r h here before = subst (λ (es : List (Entry ℕ)). IsLeastNumber (IsMetIn es (edge a b ∷ [])) (least_of best r)) (sym (take_more hits i d h))
    (number_either (IsMetIn (take i hits) (edge a b ∷ [])) (IsMetAt hit a b) (IsMetIn (take i hits ++ hit ∷ []) (edge a b ∷ [])) best r before here
    (λ n m. record { met = has_first (IsMetOn (edge a b ∷ []) n) (take i hits) (hit ∷ []) m.met })
    (λ n m. record { met = has_second (IsMetOn (edge a b ∷ []) n) (take i hits) (hit ∷ []) (inl (any_one (on_side hit.bounds.lo) (edge a b) m.on, m.position)) })
    (λ n m. elim (has_parts (IsMetOn (edge a b ∷ []) n) (take i hits) (hit ∷ []) m.met) [
      | inl k ↦ inl (record { met = k })
      | inr k ↦ elim k [ inl x ↦ inr (record { on = of_one (on_side hit.bounds.lo) (edge a b) x.0; position = x.1 }) | inr x ↦ absurd x ]
    ]))
  where
    hit : Entry ℕ
    hit = slice_index_or hits i d

pub all_met : (hits : List (Entry ℕ)) (a b : Point) (end : ℕ) (best : Option ℕ) → length hits ≤ end → IsLeastNumber (IsMetIn (take end hits) (edge a b ∷ [])) best → IsLeastNumber (IsMetIn hits (edge a b ∷ [])) best
all_met hits a b end best h l = subst (λ (es : List (Entry ℕ)). IsLeastNumber (IsMetIn es (edge a b ∷ [])) best) (take_all end hits h) l

-- ---- side by side
any_rest : (P : Edge → Type 0) (e : Edge) (es : List Edge) → Any P es → Any P (e ∷ es)
any_rest P e es (k, f, h, i, p) = (suc k, f, omega (arith, h), i, p)

any_first : (P : Edge → Type 0) (e : Edge) (es : List Edge) → P e → Any P (e ∷ es)
any_first P e es p = (0, e, omega arith, refl, p)

any_either : (P : Edge → Type 0) (e : Edge) (es : List Edge) → Any P (e ∷ es) → P e ⊎ Any P es
any_either P e es (zero, f, h, i, p) = inl (subst P (sym i) p)
any_either P e es (suc k, f, h, i, p) = inr (k, f, omega (arith, h), i, p)

pub next_side : (hits : List (Entry ℕ)) (e : Edge) (es : List Edge) (m n : Option ℕ) → IsLeastNumber (IsMetIn hits (e ∷ [])) m → IsLeastNumber (IsMetIn hits es) n → IsLeastNumber (IsMetIn hits (e ∷ es)) (least_of m n)
next_side hits e es m n h k = number_either (IsMetIn hits (e ∷ [])) (IsMetIn hits es) (IsMetIn hits (e ∷ es)) m n h k
    (λ i l. record { met = has_map (IsMetOn (e ∷ []) i) (IsMetOn (e ∷ es) i) (λ f x. (any_first (on_side f.bounds.lo) e es (of_one (on_side f.bounds.lo) e x.0), x.1)) hits l.met })
    (λ i l. record { met = has_map (IsMetOn es i) (IsMetOn (e ∷ es) i) (λ f x. (any_rest (on_side f.bounds.lo) e es x.0, x.1)) hits l.met })
    (λ i l. elim (has_either (IsMetOn (e ∷ es) i) (IsMetOn (e ∷ []) i) (IsMetOn es i) (λ f x. elim (any_either (on_side f.bounds.lo) e es x.0) [
      | inl o ↦ inl (any_one (on_side f.bounds.lo) e o, x.1)
      | inr o ↦ inr (o, x.1)
    ]) hits l.met) [ inl o ↦ inl (record { met = o }) | inr o ↦ inr (record { met = o }) ])

pub no_side : (hits : List (Entry ℕ)) → IsLeastNumber (IsMetIn hits []) None
no_side hits i h = has_some (IsMetOn [] i) ⊥ (λ e x. let l = x.0.2 in absurd (omega (arith, l))) hits h.met

-- what is in an open side is among the entries that a box round the polygon picks out
pub met_by_hits : (b : Bounds) (es : List (Entry ℕ)) (cs : List Point) (r : Option ℕ) → AllByRecursion IsPlaced es → All (IsInBounds b) cs → IsLeastNumber (IsMetIn (filter (is_hit b) es) (sides cs)) r → IsLeastNumber (IsMetIn es (sides cs)) r
met_by_hits b es cs r placed all l = number_same (IsMetIn (filter (is_hit b) es) (sides cs)) (IsMetIn es (sides cs)) r l
    (λ n m. record { met = had_hit (is_hit b) (IsMetOn (sides cs) n) es m.met })
    (λ n m. record {
      met = has_map (λ e. IsPlaced e × IsMetOn (sides cs) n e) (IsMetOn (sides cs) n) (λ e x. x.1) (filter (is_hit b) es)
          (has_hit (is_hit b) (λ e. IsPlaced e × IsMetOn (sides cs) n e) (λ e x. placed_hit b e x.0 (polygon_inside b cs e.bounds.lo all x.1.0)) es (has_with IsPlaced (IsMetOn (sides cs) n) es placed m.met));
    })

-- ---- element by element
-- point i is in an open side of an element k before `end`
pub record HangsBefore (points : List Point) (elements : List MeshElement) (end i k : ℕ) : Type 0 where
  pub before : k < end
  pub hangs : DoesHang points elements i k

hung_at : (points : List Point) (elements : List MeshElement) (i k : ℕ) (d : MeshElement) → k < length elements → IsHungIn points (sides (corners_of points (slice_index_or elements k d).corners)) i → DoesHang points elements i k
hung_at points elements i k d h l = record {
  point_in_list = l.in_list;
  element_in_list = h;
  hangs = λ p e. subst (λ (f : MeshElement). IsInOpenSide (sides (corners_of points f.corners)) (slice_index_or points i p)) (get_or_default elements k d e h) (l.hangs p);
}

-- the points of an element's open sides are those of its entries, where those that are passed over hang nowhere
pub hung_by_entries : (points : List Point) (passed : List Bool) (elements : List MeshElement) (k : ℕ) (d : MeshElement) (es : List (Entry ℕ)) (r : Option ℕ) → AreKept points passed (length points) es
    → ((i k : ℕ) → i < length points → slice_index_or passed i true ≡ true → ¬ (DoesHang points elements i k)) → k < length elements
    → IsLeastNumber (IsMetIn es (sides (corners_of points (slice_index_or elements k d).corners))) r → IsLeastNumber (IsHungIn points (sides (corners_of points (slice_index_or elements k d).corners))) r
hung_by_entries points passed elements k d es r kept unhung l least = number_same (IsMetIn es edges) (IsHungIn points edges) r least to back
  where
    edges : List Edge
    edges = sides (corners_of points (slice_index_or elements k d).corners)

    nowhere : Point
    nowhere = record { x = pos 0; y = pos 0 }

    to : (n : ℕ) → IsMetIn es edges n → IsHungIn points edges n
    to n m = has_some (λ e. IsPointEntry points e × IsMetOn edges n e) (IsHungIn points edges n) (λ e x. record {
      in_list = subst (λ (i : ℕ). i < length points) x.1.1 x.0.in_list;
      hangs = λ p. subst (IsInOpenSide edges) (sym (x.0.place p) ∙ ap (λ (i : ℕ). slice_index_or points i p) x.1.1) x.1.0;
    }) es (has_with (IsPointEntry points) (IsMetOn edges n) es kept.each m.met)

    back : (n : ℕ) → IsHungIn points edges n → IsMetIn es edges n
    back n h = elim (kept.all n h.in_list) [
      | inl t ↦ absurd (unhung n k h.in_list t (hung_at points elements n k d l h))
      | inr m ↦ record {
        met = has_map (λ e. IsPointEntry points e × (e.value ≡ n)) (IsMetOn edges n) (λ e x. (subst (IsInOpenSide edges) (ap (λ (i : ℕ). slice_index_or points i nowhere) (sym x.1) ∙ x.0.place nowhere) (h.hangs nowhere), x.1)) es
            (has_with (IsPointEntry points) (λ e. e.value ≡ n) es kept.each m);
      }
    ]

pub with_none : (points : List Point) (elements : List MeshElement) (k : ℕ) (d : MeshElement) (least : Option (ℕ × ℕ)) → k < length elements → IsLeastNumber (IsHungIn points (sides (corners_of points (slice_index_or elements k d).corners))) None
    → IsLeast (HangsBefore points elements k) least → IsLeast (HangsBefore points elements (k + 1)) least
with_none points elements k d least h n l = least_same (HangsBefore points elements k) (HangsBefore points elements (k + 1)) least l
    (λ i j b. record { before = omega (arith, b.before); hangs = b.hangs })
    (λ i j b. elim (cases_lt j k) [
      | inl m ↦ record { before = m; hangs = b.hangs }
      | inr m ↦ let e : j ≡ k = omega (arith, b.before) in absurd (n i (record { in_list = b.hangs.point_in_list; hangs = λ p. subst (λ (z : ℕ). IsInOpenSide (sides (corners_of points (slice_index_or elements z d).corners)) (slice_index_or points i p)) e (b.hangs.hangs p d) }))
    ])

pub with_some : (points : List Point) (elements : List MeshElement) (k : ℕ) (d : MeshElement) (least : Option (ℕ × ℕ)) (found : ℕ) (r : ℕ × ℕ) → k < length elements → IsLeastNumber (IsHungIn points (sides (corners_of points (slice_index_or elements k d).corners))) (Some found)
    → IsLesser least (found, k) r → IsLeast (HangsBefore points elements k) least → IsLeast (HangsBefore points elements (k + 1)) (Some r)
with_some points elements k d least found r h n lesser l = least_more (HangsBefore points elements k) (HangsBefore points elements (k + 1)) least (found, k) r l lesser
    (λ i j b. record { before = omega (arith, b.before); hangs = b.hangs })
    (record { before = omega arith; hangs = hung_at points elements found k d h n.0 })
    (λ i j b. elim (cases_lt j k) [
      | inl m ↦ inl (record { before = m; hangs = b.hangs })
      | inr m ↦ let e : j ≡ k = omega (arith, b.before) in
          inr (upto_point found i k j (sym e) (n.1 i (record { in_list = b.hangs.point_in_list; hangs = λ p. subst (λ (z : ℕ). IsInOpenSide (sides (corners_of points (slice_index_or elements z d).corners)) (slice_index_or points i p)) e (b.hangs.hangs p d) })))
    ])
  where
    upto_point : (f i k j : ℕ) → k ≡ j → f ≤ i → NotAfter (f, k) (i, j)
    upto_point f i k j e h = elim (cases_lt f i) [ inl l ↦ inl l | inr l ↦ inr ((let g : f ≡ i = omega arith in g), omega arith) ]

-- what `with_element` answers
pub with_found : (points : List Point) (elements : List MeshElement) (k : ℕ) (d : MeshElement) (least r : Option (ℕ × ℕ)) (found : Option ℕ) → k < length elements → IsLeastNumber (IsHungIn points (sides (corners_of points (slice_index_or elements k d).corners))) found
    → IfNone found (r ≡ least) → IfSome found (λ i. MatchOption r ⊥ (IsLesser least (i, k))) → IsLeast (HangsBefore points elements k) least → IsLeast (HangsBefore points elements (k + 1)) r
with_found points elements k d least r None h n e s l = subst (IsLeast (HangsBefore points elements (k + 1))) (sym e) (with_none points elements k d least h n l)
with_found points elements k d least None (Some i) h n e s l = absurd s
with_found points elements k d least (Some r) (Some i) h n e s l = with_some points elements k d least i r h n s l

pub all_hanging : (points : List Point) (elements : List MeshElement) (end : ℕ) (least : Option (ℕ × ℕ)) → length elements ≤ end → IsLeast (HangsBefore points elements end) least → IsLeast (DoesHang points elements) least
all_hanging points elements end least h l = least_same (HangsBefore points elements end) (DoesHang points elements) least l (λ i j b. b.hangs) (λ i j g. record { before = omega (arith, g.element_in_list); hangs = g })
