-- A mesh has one verdict. Stands on OneWalk.
use Rattle.std.proofs.Common.{◌≡◌, ◌≢◌, ◌⊎◌, ℕ, zero, suc, ◌+◌, ◌<◌, ◌≤◌, List, [], ◌∷◌, ◌++◌, length, take, drop, All, inl, inr, refl, sym, ◌∙◌, ap, subst, arith}
use lib.IntN.{ℤ}
use Rattle.std.proofs.lemmas.Bool.{cases_lt, cases_order}
use Rattle.std.proofs.lemmas.List.{take_all, append_assoc}
use Rattle.grid_geom.specs.declared.Point.{Point}
use Rattle.geom_check.specs.declared.kinds.Segment.{Segment}
use Rattle.geom_check.specs.Accepted.{AreTogether}
use Rattle.geom_check.specs.Boundary.{edge_of}
use Rattle.geom_check.specs.Refused.{IsFirstFailing, IsLeastPair}
use Rattle.geom_check.specs.Geometry.{PlanarMap}
use Rattle.vol_format.specs.declared.EdgeRow.{EdgeRow}
use Rattle.vol_format.specs.declared.MeshElement.{MeshElement}
use Rattle.vol_format.specs.declared.Mesh.{Mesh}
use Rattle.mesh_check.specs.declared.verdict.Verdict.{Verdict}
use Rattle.mesh_check.specs.declared.verdict.Verdict.TheVariants.{SamePlace, Edges, Domain, Turned, Hanging, Chain, Whole}
use Rattle.mesh_check.specs.Whole.{HasDomainOf, IsTurned, DoesHang, DoRowsWalk, sides_between, rows_between}
use Rattle.mesh_check.specs.Verdict.{IsLeastChain, IsVerdict}
use Rattle.mesh_check.specs.Walked.{Places, IsStep, DoesLead, DoWalk, segment_after, StandsAt, HasNoStep, IsStuckAfter, IsPastEndAfter, IsRowFault, places_of}
use Rattle.mesh_check.proofs.OneWalk.{IsPart, IsStepAfter, Begins, part_begins, walk_begins, part_step, walk_ends, part_not_walk}

-- ---- edge rows
part_of : (ps : Places) (n m : ℕ) (ss : List Segment) (k : ℕ) (at : Point) (walked begun : List EdgeRow) → m ≡ n + k → k < length ss → DoWalk ps n (take k ss) walked → DoesLead ps m (segment_after k ss) (edge_of ps.of_geometry (segment_after k ss)).a begun at → at ≢ (edge_of ps.of_geometry (segment_after k ss)).b → IsPart ps n ss k at (walked ++ begun)
part_of ps n m [] k at walked begun e l w h d = absurd (omega (arith, l))
part_of ps n m (s ∷ ss) zero at walked begun e l w h d = (subst (λ (rows : List EdgeRow). DoesLead ps n s (edge_of ps.of_geometry s).a (rows ++ begun) at) (sym w) (subst (λ (i : ℕ). DoesLead ps i s (edge_of ps.of_geometry s).a begun at) (let f : m ≡ n = omega (arith, e) in f) h), d)
part_of ps n m (s ∷ ss) (suc k) at walked begun e l w h d = record {
  own = w.own;
  rest = w.rest ++ begun;
  parts = ap (λ (rows : List EdgeRow). rows ++ begun) w.parts ∙ append_assoc w.own w.rest begun;
  leads = w.leads;
  others = part_of ps (n + 1) m ss k at w.rest begun (omega (arith, e)) (omega (arith, l)) w.others h d;
}

part_at : (ps : Places) (ss : List Segment) (done : ℕ) (at : Point) (rows : List EdgeRow) → StandsAt ps ss done at rows → IsPart ps 1 ss done at rows
part_at ps ss done at rows s = subst (IsPart ps 1 ss done at) (sym s.parts) (part_of ps 1 (done + 1) ss done at s.walked s.begun (omega arith) s.in_list s.walks s.leads s.not_last)

step_of : (ps : Places) (n m : ℕ) (ss : List Segment) (k : ℕ) (at : Point) (row : EdgeRow) → m ≡ n + k → IsStepAfter ps n ss k at row → IsStep ps m (segment_after k ss) at row
step_of ps n m [] k at row e h = absurd h
step_of ps n m (s ∷ ss) zero at row e h = subst (λ (i : ℕ). IsStep ps i s at row) (let f : n ≡ m = omega (arith, e) in f) h
step_of ps n m (s ∷ ss) (suc k) at row e h = step_of ps (n + 1) m ss k at row (omega (arith, e)) h

-- the first rows and one more
record HasNext (rows : List EdgeRow) (count end : ℕ) : Type 0 where
  row : EdgeRow
  more : List EdgeRow
  rest : List EdgeRow
  taken : take end rows ≡ take count rows ++ row ∷ more
  dropped : drop count rows ≡ row ∷ rest

next_of : (rows : List EdgeRow) (count end : ℕ) → count < end → end ≤ length rows → HasNext rows count end
next_of [] count end h l = absurd (omega (arith, l))
next_of (r ∷ rows) count zero h l = absurd (omega (arith, h))
next_of (r ∷ rows) zero (suc end) h l = record { row = r; more = take end rows; rest = rows; taken = refl; dropped = refl }
next_of (r ∷ rows) (suc count) (suc end) h l = let n = next_of rows count end (omega (arith, h)) (omega (arith, l)) in record { row = n.row; more = n.more; rest = n.rest; taken = ap (λ (rs : List EdgeRow). r ∷ rs) n.taken; dropped = n.dropped }

-- the fault after so many rows
abbrev IsFaultAfter : Places → List Segment → List EdgeRow → ℕ → Type 0
IsFaultAfter ps ss rows count = IsStuckAfter ps ss rows count ⊎ IsPastEndAfter ps ss rows count

fault_begins : (ps : Places) (ss : List Segment) (rows : List EdgeRow) (count : ℕ) → IsFaultAfter ps ss rows count → Begins ps 1 ss (take count rows)
fault_begins ps ss rows count (inl f) = part_begins ps 1 ss f.done f.at (take count rows) (part_at ps ss f.done f.at (take count rows) f.stands)
fault_begins ps ss rows count (inr f) = walk_begins ps 1 ss (take count rows) f.walks

-- no walk goes on past a fault
no_later : (ps : Places) (ss : List Segment) (rows : List EdgeRow) (count end : ℕ) → count < end → end ≤ length rows → IsFaultAfter ps ss rows count → ¬ (Begins ps 1 ss (take end rows))
no_later ps ss rows count end h l (inl f) b =
    let n = next_of rows count end h l in
    subst (HasNoStep ps ss f.done f.at) n.dropped f.no_step
    (step_of ps 1 (f.done + 1) ss f.done f.at n.row (omega arith) (part_step ps 1 ss f.done f.at (take count rows) n.more n.row (part_at ps ss f.done f.at (take count rows) f.stands) (subst (Begins ps 1 ss) n.taken b)))
no_later ps ss rows count end h l (inr f) b = let n = next_of rows count end h l in walk_ends ps 1 ss (take count rows) n.more n.row f.walks (subst (Begins ps 1 ss) n.taken b)

one_row_fault : (g : PlanarMap) (m : Mesh) (r q : ℕ) → IsRowFault g m r → IsRowFault g m q → r ≡ q
one_row_fault g m r q f h = elim (cases_order f.count h.count) [
  | inl e ↦ omega (arith, e, f.number, h.number)
  | inr o ↦ elim o [
    | inl l ↦ absurd (no_later (places_of g m) g.segments m.edges f.count h.count l h.in_list f.fault (fault_begins (places_of g m) g.segments m.edges h.count h.fault))
    | inr l ↦ absurd (no_later (places_of g m) g.segments m.edges h.count f.count l f.in_list h.fault (fault_begins (places_of g m) g.segments m.edges f.count f.fault))
  ]
]

fault_no_walk : (g : PlanarMap) (m : Mesh) (r : ℕ) → IsRowFault g m r → ¬ (DoRowsWalk g m)
fault_no_walk g m r f w = elim (cases_lt f.count (length m.edges)) [
  | inl l ↦ no_later (places_of g m) g.segments m.edges f.count (length m.edges) l (omega arith) f.fault (walk_begins (places_of g m) 1 g.segments (take (length m.edges) m.edges) (subst (DoWalk (places_of g m) 1 g.segments) (sym (take_all (length m.edges) m.edges (omega arith))) w))
  | inr l ↦ elim f.fault [
    | inl s ↦ part_not_walk (places_of g m) 1 g.segments s.done s.at (take f.count m.edges) (part_at (places_of g m) g.segments s.done s.at (take f.count m.edges) s.stands) (subst (DoWalk (places_of g m) 1 g.segments) (sym (take_all f.count m.edges l)) w)
    | inr p ↦ absurd (omega (arith, p.more, l))
  ]
]

-- ---- least places
one_least_pair : (P : ℕ → ℕ → Type 0) (i j k l : ℕ) → IsLeastPair P i j → IsLeastPair P k l → (i ≡ k) × (j ≡ l)
one_least_pair P i j k l h g = elim (h.least g.first g.second g.holds) [
  | inl n ↦ elim (g.least h.first h.second h.holds) [ inl m ↦ absurd (omega arith) | inr m ↦ absurd (omega (arith, m.0)) ]
  | inr n ↦ elim (g.least h.first h.second h.holds) [
    | inl m ↦ absurd (omega (arith, n.0))
    | inr m ↦ (omega (arith, n.0, h.first_number, g.first_number), omega (arith, n.1, m.1, h.second_number, g.second_number))
  ]
]

one_first_failing : {A : Type 0} (P : A → Type 0) (items : List A) (m n : ℕ) (d : A) → IsFirstFailing P items m → IsFirstFailing P items n → m ≡ n
one_first_failing P items m n d h g = elim (cases_order h.index g.index) [
  | inl e ↦ omega (arith, e, h.number, g.number)
  | inr r ↦ elim r [ inl l ↦ absurd (h.fails d (g.before h.index d l)) | inr l ↦ absurd (g.fails d (h.before g.index d l)) ]
]

none_fails : {A : Type 0} (P : A → Type 0) (items : List A) (n : ℕ) (d : A) → IsFirstFailing P items n → ¬ (All P items)
none_fails P items n d h all = h.fails d (all h.index d h.in_list)

one_chain : (m : Mesh) (d a b e u w : ℕ) (n k o p : ℤ) → IsLeastChain m d a b n k → IsLeastChain m e u w o p → (d ≡ e) × (a ≡ u) × (b ≡ w) × (n ≡ o) × (k ≡ p)
one_chain m d a b e u w n k o p h g = at_domain (cases_order d e)
  where
    at_pair : d ≡ e → a ≡ u → b ≡ w → (d ≡ e) × (a ≡ u) × (b ≡ w) × (n ≡ o) × (k ≡ p)
    at_pair f i j = (f, i, j, (h.sides ∙ sides f i j ∙ sym g.sides), (h.rows ∙ rows f i j ∙ sym g.rows))
      where
        sides : d ≡ e → a ≡ u → b ≡ w → sides_between m d a b ≡ sides_between m e u w
        sides f i j = ap (λ (z : ℕ). sides_between m z a b) f ∙ ap (λ (z : ℕ). sides_between m e z b) i ∙ ap (λ (z : ℕ). sides_between m e u z) j

        rows : d ≡ e → a ≡ u → b ≡ w → rows_between m d a b ≡ rows_between m e u w
        rows f i j = ap (λ (z : ℕ). rows_between m z a b) f ∙ ap (λ (z : ℕ). rows_between m e z b) i ∙ ap (λ (z : ℕ). rows_between m e u z) j

    pairs : (a b u w : ℕ) → (a < u) ⊎ ((a ≡ u) × (b ≤ w)) → (u < a) ⊎ ((u ≡ a) × (w ≤ b)) → (a ≡ u) × (b ≡ w)
    pairs a b u w (inl i) (inl j) = absurd (omega arith)
    pairs a b u w (inl i) (inr j) = absurd (omega (arith, j.0))
    pairs a b u w (inr i) (inl j) = absurd (omega (arith, i.0))
    pairs a b u w (inr i) (inr j) = (i.0, omega (arith, i.1, j.1))

    same_domain : d ≡ e → (a ≡ u) × (b ≡ w)
    same_domain f = pairs a b u w
        (h.least_pair u w g.pair (λ i. g.differ (g.sides ∙ subst (λ (z : ℕ). sides_between m z u w ≡ rows_between m z u w) f i ∙ sym g.rows)))
        (g.least_pair a b h.pair (λ i. h.differ (h.sides ∙ subst (λ (z : ℕ). sides_between m z a b ≡ rows_between m z a b) (sym f) i ∙ sym h.rows)))

    at_domain : (d ≡ e) ⊎ ((d < e) ⊎ (e < d)) → (d ≡ e) × (a ≡ u) × (b ≡ w) × (n ≡ o) × (k ≡ p)
    at_domain (inl f) = let s = same_domain f in at_pair f s.0 s.1
    at_domain (inr (inl l)) = absurd (h.differ (h.sides ∙ g.least_domain d h.positive l a b h.pair ∙ sym h.rows))
    at_domain (inr (inr l)) = absurd (g.differ (g.sides ∙ h.least_domain e g.positive l u w g.pair ∙ sym g.rows))

-- ---- the verdicts, in their order
abbrev some_element : MeshElement
some_element = record { domain = 0; corners = [] }

beside_same_place : (g : PlanarMap) (m : Mesh) (i j : ℕ) (w : Verdict) → IsVerdict g m (SamePlace i j) → IsVerdict g m w → SamePlace i j ≡ w
beside_same_place g m i j (SamePlace k l) h v = let e = one_least_pair (AreTogether m.points) i j k l h v in cc
beside_same_place g m i j Whole h v = absurd (v.places h.first h.second h.holds)
beside_same_place g m i j _ h v = absurd (v.0 h.first h.second h.holds)

beside_edges : (g : PlanarMap) (m : Mesh) (r : ℕ) (w : Verdict) → IsVerdict g m (Edges r) → IsVerdict g m w → Edges r ≡ w
beside_edges g m r (SamePlace k l) h v = sym (beside_same_place g m k l (Edges r) v h)
beside_edges g m r (Edges q) h v = ap (λ (z : ℕ). Edges z) (one_row_fault g m r q h.1 v.1)
beside_edges g m r Whole h v = absurd (fault_no_walk g m r h.1 v.rows)
beside_edges g m r _ h v = absurd (fault_no_walk g m r h.1 v.1.0)

beside_domain : (g : PlanarMap) (m : Mesh) (n : ℕ) (w : Verdict) → IsVerdict g m (Domain n) → IsVerdict g m w → Domain n ≡ w
beside_domain g m n (SamePlace k l) h v = sym (beside_same_place g m k l (Domain n) v h)
beside_domain g m n (Edges q) h v = sym (beside_edges g m q (Domain n) v h)
beside_domain g m n (Domain k) h v = ap (λ (z : ℕ). Domain z) (one_first_failing (HasDomainOf g.domains) m.elements n k some_element h.1.1 v.1.1)
beside_domain g m n Whole h v = absurd (none_fails (HasDomainOf g.domains) m.elements n some_element h.1.1 v.domains)
beside_domain g m n _ h v = absurd (none_fails (HasDomainOf g.domains) m.elements n some_element h.1.1 v.1.1.0)

beside_turned : (g : PlanarMap) (m : Mesh) (n : ℕ) (w : Verdict) → IsVerdict g m (Turned n) → IsVerdict g m w → Turned n ≡ w
beside_turned g m n (SamePlace k l) h v = sym (beside_same_place g m k l (Turned n) v h)
beside_turned g m n (Edges q) h v = sym (beside_edges g m q (Turned n) v h)
beside_turned g m n (Domain k) h v = sym (beside_domain g m k (Turned n) v h)
beside_turned g m n (Turned k) h v = ap (λ (z : ℕ). Turned z) (one_first_failing (IsTurned m.points) m.elements n k some_element h.1.1.1 v.1.1.1)
beside_turned g m n Whole h v = absurd (none_fails (IsTurned m.points) m.elements n some_element h.1.1.1 v.turned)
beside_turned g m n _ h v = absurd (none_fails (IsTurned m.points) m.elements n some_element h.1.1.1 v.1.1.1.0)

beside_hanging : (g : PlanarMap) (m : Mesh) (i k : ℕ) (w : Verdict) → IsVerdict g m (Hanging i k) → IsVerdict g m w → Hanging i k ≡ w
beside_hanging g m i k (SamePlace j l) h v = sym (beside_same_place g m j l (Hanging i k) v h)
beside_hanging g m i k (Edges q) h v = sym (beside_edges g m q (Hanging i k) v h)
beside_hanging g m i k (Domain n) h v = sym (beside_domain g m n (Hanging i k) v h)
beside_hanging g m i k (Turned n) h v = sym (beside_turned g m n (Hanging i k) v h)
beside_hanging g m i k (Hanging j l) h v = let e = one_least_pair (DoesHang m.points m.elements) i k j l h.1.1.1.1 v.1.1.1.1 in cc
beside_hanging g m i k Whole h v = absurd (v.unhung h.1.1.1.1.first h.1.1.1.1.second h.1.1.1.1.holds)
beside_hanging g m i k _ h v = absurd (v.1.1.1.1.0 h.1.1.1.1.first h.1.1.1.1.second h.1.1.1.1.holds)

beside_chain : (g : PlanarMap) (m : Mesh) (d a b : ℕ) (n k : ℤ) (w : Verdict) → IsVerdict g m (Chain d a b n k) → IsVerdict g m w → Chain d a b n k ≡ w
beside_chain g m d a b n k (SamePlace j l) h v = sym (beside_same_place g m j l (Chain d a b n k) v h)
beside_chain g m d a b n k (Edges q) h v = sym (beside_edges g m q (Chain d a b n k) v h)
beside_chain g m d a b n k (Domain j) h v = sym (beside_domain g m j (Chain d a b n k) v h)
beside_chain g m d a b n k (Turned j) h v = sym (beside_turned g m j (Chain d a b n k) v h)
beside_chain g m d a b n k (Hanging j l) h v = sym (beside_hanging g m j l (Chain d a b n k) v h)
beside_chain g m d a b n k (Chain e u w o p) h v = let f = one_chain m d a b e u w n k o p h.1.1.1.1.1 v.1.1.1.1.1 in cc
beside_chain g m d a b n k Whole h v = let c = h.1.1.1.1.1 in absurd (c.differ (c.sides ∙ v.chained d c.positive a b c.pair ∙ sym c.rows))

pub one_verdict : (g : PlanarMap) (m : Mesh) (v w : Verdict) → IsVerdict g m v → IsVerdict g m w → v ≡ w
one_verdict g m (SamePlace i j) w h v = beside_same_place g m i j w h v
one_verdict g m (Edges r) w h v = beside_edges g m r w h v
one_verdict g m (Domain n) w h v = beside_domain g m n w h v
one_verdict g m (Turned n) w h v = beside_turned g m n w h v
one_verdict g m (Hanging i k) w h v = beside_hanging g m i k w h v
one_verdict g m (Chain d a b n k) w h v = beside_chain g m d a b n k w h v
one_verdict g m Whole (SamePlace i j) h v = sym (beside_same_place g m i j Whole v h)
one_verdict g m Whole (Edges r) h v = sym (beside_edges g m r Whole v h)
one_verdict g m Whole (Domain n) h v = sym (beside_domain g m n Whole v h)
one_verdict g m Whole (Turned n) h v = sym (beside_turned g m n Whole v h)
one_verdict g m Whole (Hanging i k) h v = sym (beside_hanging g m i k Whole v h)
one_verdict g m Whole (Chain d a b n k) h v = sym (beside_chain g m d a b n k Whole v h)
one_verdict g m Whole Whole h v = refl
