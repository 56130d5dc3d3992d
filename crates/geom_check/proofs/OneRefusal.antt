-- A file has one refusal, but for want of memory.
use Rattle.std.proofs.Common.{◌≡◌, ℕ, List, ◌⊎◌, inl, inr, sym, ap, ◌∙◌, subst, refl, arith}
use mathlib.Core.Path.{Path}
use lib.IntN.{ℤ, pos, ◌*ℤ◌}
use lib.Signed.{◌<ℤ◌, ◌≤ℤ◌}
use Rattle.std.specs.Prelude.{Any}
use Rattle.std.proofs.lemmas.Int.{ints}
use Rattle.std.proofs.lemmas.Bool.{cases_order}
use Rattle.grid_geom.specs.declared.Point.{Point}
use Rattle.grid_geom.specs.declared.RatPoint.{RatPoint}
use Rattle.grid_geom.specs.declared.Edge.{Edge}
use Rattle.grid_geom.proofs.Signs.{ordered, le_cancel}
use Rattle.in2d_reader.specs.declared.geometry.RawGeometry.{RawGeometry}
use Rattle.geom_check.specs.declared.kinds.Segment.{Segment}
use Rattle.geom_check.specs.declared.refusal.GeomRefusal.{GeomRefusal}
use Rattle.geom_check.specs.declared.refusal.GeomRefusal.TheVariants.{NoDomain, TooLarge, SamePlace, SameSides, NoLength, Meet, OpenAt, Side, Overlap, Memory}
use Rattle.geom_check.specs.Shift.{FitsRow}
use Rattle.geom_check.specs.Placed.{points_of, segments_of}
use Rattle.geom_check.specs.Boundary.{edges_of}
use Rattle.geom_check.specs.Accepted.{NamesDomain, AreTogether, AreTangled, HasDifferentDomains, HasTwoEnds, DoOverlap}
use Rattle.geom_check.specs.Strips.{IsBefore, IsWitness}
use Rattle.wind_law.specs.Near.{IsSamePlace}
use Rattle.geom_check.specs.Refused.{IsFirstFailing, IsLeastPair, IsBalancedAt, IsLeastOpen, IsLeastSide, IsFault, IsPlacedFault, IsRefusal}
use Rattle.geom_check.proofs.SomeShift.{some_shift}
use Rattle.geom_check.proofs.OneAnswer.{some_point, some_segment, some_row, none_fails, not_open, no_side}
use Rattle.geom_check.specs.declared.limits.TheConstants.{COARSEST}

-- ---- least places

one_least_pair : (P : ℕ → ℕ → Type 0) (i j k l : ℕ) → IsLeastPair P i j → IsLeastPair P k l → (i ≡ k) × (j ≡ l)
one_least_pair P i j k l h g = elim (h.least g.first g.second g.holds) [
  | inl n ↦ elim (g.least h.first h.second h.holds) [ inl m ↦ absurd (omega arith) | inr m ↦ absurd (omega (arith, m.0)) ]
  | inr n ↦ elim (g.least h.first h.second h.holds) [
    | inl m ↦ absurd (omega (arith, n.0))
    | inr m ↦ (omega (arith, n.0, h.first_number, g.first_number), omega (arith, n.1, m.1, h.second_number, g.second_number))
  ]
]

one_first_failing : {A : Type 0} (P : A → Type 0) (items : List A) (m n : ℕ) (d : A) → IsFirstFailing P items m → IsFirstFailing P items n → m ≡ n
one_first_failing P items m n d h g = elim (cases_order h.index g.index) [
  | inl e ↦ omega (arith, e, h.number, g.number)
  | inr r ↦ elim r [ inl l ↦ absurd (h.fails d (g.before h.index d l)) | inr l ↦ absurd (g.fails d (h.before g.index d l)) ]
]

-- two places, of which neither is before the other, are one
same_place : (p q : RatPoint) → ¬ (IsBefore p q) → ¬ (IsBefore q p) → IsSamePlace p q
same_place p q h j = elim (ordered (p.y *ℤ q.k) (q.y *ℤ p.k)) [
  | inl l ↦ absurd (h (inl l))
  | inr r ↦ elim r [
    | inl e ↦ elim (ordered (p.x *ℤ q.k) (q.x *ℤ p.k)) [
      | inl l ↦ absurd (h (inr (e, l)))
      | inr o ↦ elim o [ inl f ↦ record { same_x = f; same_y = e } | inr l ↦ absurd (j (inr (sym e, l))) ]
    ]
    | inr l ↦ absurd (j (inl l))
  ]
]

cancelled : (u w k n : ℤ) → pos 0 <ℤ k → n ≡ k → u *ℤ n ≡ w *ℤ k → u ≡ w
cancelled u w k n h e f =
    let g : u *ℤ k ≡ w *ℤ k = subst (λ (z : ℤ). u *ℤ z ≡ w *ℤ k) e f in
    omega (arith, ints, le_cancel u w k h (omega (arith, ints)), le_cancel w u k h (omega (arith, ints)))

same_numbers : (x y k x' y' k' : ℤ) → x ≡ x' → y ≡ y' → k ≡ k' → Path RatPoint (record { x = x; y = y; k = k }) (record { x = x'; y = y'; k = k' })
same_numbers x y k x' y' k' e f g = cc

one_witness : (F : RatPoint → Type 0) (edges : List Edge) (p q : RatPoint) → IsWitness F edges p → IsWitness F edges q → p ≡ q
one_witness F edges p q h g =
    let there : IsSamePlace p q = same_place p q (λ b. g.first p h.middle b h.fault) (λ b. h.first q g.middle b g.fault) in
    let back : IsSamePlace q p = record { same_x = sym there.same_x; same_y = sym there.same_y } in
    let positive : pos 0 <ℤ p.k = h.middle.height.rational.positive in
    let first : p.k ≤ℤ q.k = h.least q g.middle.height.rational there in
    let second : q.k ≤ℤ p.k = g.least p h.middle.height.rational back in
    let e : q.k ≡ p.k = omega (arith, ints) in
    same_numbers p.x p.y p.k q.x q.y q.k (cancelled p.x q.x p.k q.k positive e there.same_x) (cancelled p.y q.y p.k q.k positive e there.same_y) (sym e)

one_open : (points : List Point) (segments : List Segment) (p c q d : ℕ) → IsLeastOpen points segments p c → IsLeastOpen points segments q d → (p ≡ q) × (c ≡ d)
one_open points segments p c q d h g = elim (cases_order c d) [
  | inl e ↦ (one_first_failing (IsBalancedAt points segments c) points p q some_point h.open_at (subst (λ (z : ℕ). IsFirstFailing (IsBalancedAt points segments z) points q) (sym e) g.open_at), e)
  | inr r ↦ elim r [
    | inl l ↦ absurd (h.open_at.fails some_point ((g.least c h.positive l).balanced _))
    | inr l ↦ absurd (g.open_at.fails some_point ((h.least d g.positive l).balanced _))
  ]
]

one_side : (points : List Point) (segments : List Segment) (c d : ℕ) (at to : RatPoint) → IsLeastSide points segments c at → IsLeastSide points segments d to → (c ≡ d) × (at ≡ to)
one_side points segments c d at to h g = elim (cases_order c d) [
  | inl e ↦ (e, one_witness _ (edges_of points segments) at to h.witness (subst (λ (z : ℕ). IsLeastSide points segments z to) (sym e) g).witness)
  | inr r ↦ elim r [ inl l ↦ absurd (no_side points segments c at h (g.least c h.positive l)) | inr l ↦ absurd (no_side points segments d to g (h.least d g.positive l)) ]
]

-- ---- one fault on the grid

beside_same_place : (points : List Point) (segments : List Segment) (i j : ℕ) (s : GeomRefusal) → IsFault (SamePlace i j) points segments → IsFault s points segments → SamePlace i j ≡ s
beside_same_place points segments i j NoDomain h g = absurd g
beside_same_place points segments i j (TooLarge point) h g = absurd g
beside_same_place points segments i j Memory h g = absurd g
beside_same_place points segments i j (SamePlace k l) h g = let e = one_least_pair (AreTogether points) i j k l h g in cc
beside_same_place points segments i j _ h g = absurd (g.0 h.first h.second h.holds)

beside_same_sides : (points : List Point) (segments : List Segment) (n : ℕ) (s : GeomRefusal) → IsFault (SameSides n) points segments → IsFault s points segments → SameSides n ≡ s
beside_same_sides points segments n NoDomain h g = absurd g
beside_same_sides points segments n (TooLarge point) h g = absurd g
beside_same_sides points segments n Memory h g = absurd g
beside_same_sides points segments n (SamePlace k l) h g = sym (beside_same_place points segments k l (SameSides n) g h)
beside_same_sides points segments n (SameSides m) h g = ap (λ (z : ℕ). SameSides z) (one_first_failing HasDifferentDomains segments n m some_segment h.1 g.1)
beside_same_sides points segments n _ h g = absurd (none_fails HasDifferentDomains segments n some_segment h.1 g.1.0)

beside_no_length : (points : List Point) (segments : List Segment) (n : ℕ) (s : GeomRefusal) → IsFault (NoLength n) points segments → IsFault s points segments → NoLength n ≡ s
beside_no_length points segments n NoDomain h g = absurd g
beside_no_length points segments n (TooLarge point) h g = absurd g
beside_no_length points segments n Memory h g = absurd g
beside_no_length points segments n (SamePlace k l) h g = sym (beside_same_place points segments k l (NoLength n) g h)
beside_no_length points segments n (SameSides m) h g = sym (beside_same_sides points segments m (NoLength n) g h)
beside_no_length points segments n (NoLength m) h g = ap (λ (z : ℕ). NoLength z) (one_first_failing HasTwoEnds segments n m some_segment h.1.1 g.1.1)
beside_no_length points segments n _ h g = absurd (none_fails HasTwoEnds segments n some_segment h.1.1 g.1.1.0)

beside_meet : (points : List Point) (segments : List Segment) (i j : ℕ) (s : GeomRefusal) → IsFault (Meet i j) points segments → IsFault s points segments → Meet i j ≡ s
beside_meet points segments i j NoDomain h g = absurd g
beside_meet points segments i j (TooLarge point) h g = absurd g
beside_meet points segments i j Memory h g = absurd g
beside_meet points segments i j (SamePlace k l) h g = sym (beside_same_place points segments k l (Meet i j) g h)
beside_meet points segments i j (SameSides m) h g = sym (beside_same_sides points segments m (Meet i j) g h)
beside_meet points segments i j (NoLength m) h g = sym (beside_no_length points segments m (Meet i j) g h)
beside_meet points segments i j (Meet k l) h g = let e = one_least_pair (AreTangled (edges_of points segments)) i j k l h.1.1.1 g.1.1.1 in cc
beside_meet points segments i j _ h g = absurd (g.1.1.1.0 h.1.1.1.first h.1.1.1.second h.1.1.1.holds)

beside_open : (points : List Point) (segments : List Segment) (p c : ℕ) (s : GeomRefusal) → IsFault (OpenAt p c) points segments → IsFault s points segments → OpenAt p c ≡ s
beside_open points segments p c NoDomain h g = absurd g
beside_open points segments p c (TooLarge point) h g = absurd g
beside_open points segments p c Memory h g = absurd g
beside_open points segments p c (SamePlace k l) h g = sym (beside_same_place points segments k l (OpenAt p c) g h)
beside_open points segments p c (SameSides m) h g = sym (beside_same_sides points segments m (OpenAt p c) g h)
beside_open points segments p c (NoLength m) h g = sym (beside_no_length points segments m (OpenAt p c) g h)
beside_open points segments p c (Meet k l) h g = sym (beside_meet points segments k l (OpenAt p c) g h)
beside_open points segments p c (OpenAt q d) h g = let e = one_open points segments p c q d h.1.1.1.1 g.1.1.1.1 in cc
beside_open points segments p c _ h g = absurd (not_open points segments p c h.1.1.1.1 g.1.1.1.1.0)

beside_side : (points : List Point) (segments : List Segment) (c : ℕ) (at : RatPoint) (s : GeomRefusal) → IsFault (Side c at) points segments → IsFault s points segments → Side c at ≡ s
beside_side points segments c at NoDomain h g = absurd g
beside_side points segments c at (TooLarge point) h g = absurd g
beside_side points segments c at Memory h g = absurd g
beside_side points segments c at (SamePlace k l) h g = sym (beside_same_place points segments k l (Side c at) g h)
beside_side points segments c at (SameSides m) h g = sym (beside_same_sides points segments m (Side c at) g h)
beside_side points segments c at (NoLength m) h g = sym (beside_no_length points segments m (Side c at) g h)
beside_side points segments c at (Meet k l) h g = sym (beside_meet points segments k l (Side c at) g h)
beside_side points segments c at (OpenAt q d) h g = sym (beside_open points segments q d (Side c at) g h)
beside_side points segments c at (Side d to) h g = let e = one_side points segments c d at to h.1.1.1.1.1 g.1.1.1.1.1 in cc
beside_side points segments c at (Overlap to) h g = absurd (no_side points segments c at h.1.1.1.1.1 (g.1.1.1.1.1.0 c h.1.1.1.1.1.positive))

beside_overlap : (points : List Point) (segments : List Segment) (at : RatPoint) (s : GeomRefusal) → IsFault (Overlap at) points segments → IsFault s points segments → Overlap at ≡ s
beside_overlap points segments at NoDomain h g = absurd g
beside_overlap points segments at (TooLarge point) h g = absurd g
beside_overlap points segments at Memory h g = absurd g
beside_overlap points segments at (SamePlace k l) h g = sym (beside_same_place points segments k l (Overlap at) g h)
beside_overlap points segments at (SameSides m) h g = sym (beside_same_sides points segments m (Overlap at) g h)
beside_overlap points segments at (NoLength m) h g = sym (beside_no_length points segments m (Overlap at) g h)
beside_overlap points segments at (Meet k l) h g = sym (beside_meet points segments k l (Overlap at) g h)
beside_overlap points segments at (OpenAt q d) h g = sym (beside_open points segments q d (Overlap at) g h)
beside_overlap points segments at (Side d to) h g = sym (beside_side points segments d to (Overlap at) g h)
beside_overlap points segments at (Overlap to) h g = ap (λ (z : RatPoint). Overlap z) (one_witness (DoOverlap points segments) (edges_of points segments) at to h.1.1.1.1.1.1 g.1.1.1.1.1.1)

one_fault : (points : List Point) (segments : List Segment) (r s : GeomRefusal) → IsFault r points segments → IsFault s points segments → r ≡ s
one_fault points segments NoDomain s h g = absurd h
one_fault points segments (TooLarge point) s h g = absurd h
one_fault points segments Memory s h g = absurd h
one_fault points segments (SamePlace i j) s h g = beside_same_place points segments i j s h g
one_fault points segments (SameSides n) s h g = beside_same_sides points segments n s h g
one_fault points segments (NoLength n) s h g = beside_no_length points segments n s h g
one_fault points segments (Meet i j) s h g = beside_meet points segments i j s h g
one_fault points segments (OpenAt p c) s h g = beside_open points segments p c s h g
one_fault points segments (Side c at) s h g = beside_side points segments c at s h g
one_fault points segments (Overlap at) s h g = beside_overlap points segments at s h g

-- ---- one refusal of a file

-- where a file is refused
data IsRefusedAt (raw : RawGeometry) (r : GeomRefusal) : Type 0 where
  at_names : r ≡ NoDomain → ¬ (Any NamesDomain raw.segments) → IsRefusedAt raw r
  at_rows : (point : ℕ) → r ≡ TooLarge point → Any NamesDomain raw.segments → IsFirstFailing (FitsRow COARSEST) raw.points point → IsRefusedAt raw r
  on_grid : IsPlacedFault raw r → IsRefusedAt raw r
  no_memory : r ≡ Memory → IsRefusedAt raw r

refused_at : (raw : RawGeometry) (r : GeomRefusal) → IsRefusal raw r → IsRefusedAt raw r
refused_at raw NoDomain h = at_names refl h
refused_at raw (TooLarge point) h = at_rows point refl h.0 h.1
refused_at raw Memory h = no_memory refl
refused_at raw (SamePlace i j) h = on_grid h
refused_at raw (SameSides n) h = on_grid h
refused_at raw (NoLength n) h = on_grid h
refused_at raw (Meet i j) h = on_grid h
refused_at raw (OpenAt p c) h = on_grid h
refused_at raw (Side c at) h = on_grid h
refused_at raw (Overlap at) h = on_grid h

one_placed_fault : (raw : RawGeometry) (r s : GeomRefusal) → IsPlacedFault raw r → IsPlacedFault raw s → r ≡ s
one_placed_fault raw r s h g = let some = some_shift raw.points h.fits in one_fault (points_of some.0 raw.points) (segments_of some.0 raw) r s (h.fault some.0 some.1) (g.fault some.0 some.1)

one_of_both : (raw : RawGeometry) (r s : GeomRefusal) → IsRefusedAt raw r → IsRefusedAt raw s → (r ≡ s) ⊎ ((r ≡ Memory) ⊎ (s ≡ Memory))
one_of_both raw r s (no_memory e) g = inr (inl e)
one_of_both raw r s (at_names e n) (no_memory f) = inr (inr f)
one_of_both raw r s (at_names e n) (at_names f m) = inl (e ∙ sym f)
one_of_both raw r s (at_names e n) (at_rows q f d g) = absurd (n d)
one_of_both raw r s (at_names e n) (on_grid g) = absurd (n g.domain)
one_of_both raw r s (at_rows p e d h) (no_memory f) = inr (inr f)
one_of_both raw r s (at_rows p e d h) (at_names f m) = absurd (m d)
one_of_both raw r s (at_rows p e d h) (at_rows q f c g) = inl (e ∙ ap (λ (z : ℕ). TooLarge z) (one_first_failing (FitsRow COARSEST) raw.points p q some_row h g) ∙ sym f)
one_of_both raw r s (at_rows p e d h) (on_grid g) = absurd (none_fails (FitsRow COARSEST) raw.points p some_row h g.fits)
one_of_both raw r s (on_grid h) (no_memory f) = inr (inr f)
one_of_both raw r s (on_grid h) (at_names f m) = absurd (m h.domain)
one_of_both raw r s (on_grid h) (at_rows q f c g) = absurd (none_fails (FitsRow COARSEST) raw.points q some_row g h.fits)
one_of_both raw r s (on_grid h) (on_grid g) = inl (one_placed_fault raw r s h g)

pub one_refusal : (raw : RawGeometry) (r s : GeomRefusal) → IsRefusal raw r → IsRefusal raw s → (r ≡ s) ⊎ ((r ≡ Memory) ⊎ (s ≡ Memory))
one_refusal raw r s h g = one_of_both raw r s (refused_at raw r h) (refused_at raw s g)
