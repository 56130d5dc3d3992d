-- Elements have one refusal at most: each refusal says that the conditions before its own hold and that its own fails, so two of one element are of one kind; and the number or the value that they tell is determined.
use Prim.Native.Nat.{ℕ, zero, suc, ◌+◌, ◌≤◌}
use lib.IntN.{ℤ, pos}
use lib.Signed.{◌<ℤ◌, ◌≤ℤ◌}
use mathlib.Core.Path.{◌≡◌, refl, sym, ◌∙◌, subst}
use mathlib.Core.List.{List, [], ◌∷◌}
use mathlib.Core.Logic.{◌⊎◌, inl, inr}
use native.Mathlib.Omega.{arith}
use Rattle.std.proofs.lemmas.Int.{ints}
use Rattle.grid_geom.specs.declared.Point.{Point}
use Rattle.grid_geom.specs.Polygon.{sides, IsStrictlyConvex}
use Rattle.grid_geom.specs.Area.{shoelace}
use Rattle.grid_geom.specs.Winding.{wind}
use Rattle.wind_law.specs.Centre.{centre}
use Rattle.state_law.specs.State.{State, corners_of, glued}
use Rattle.admission.specs.declared.refusal.GlueRefusal.{GlueRefusal}
use Rattle.admission.specs.declared.refusal.GlueRefusal.TheVariants.{Turned, Met, PointOnSide, CornerOnLine, Backwards, Outside, Area, Memory}
use Rattle.admission.specs.Triangles.{IsLeast}
use Rattle.admission.specs.Admission.{edges_at, MeetsLine, HasPointOnSide, HasCornerOnLine, HasSideBackwards, IsApartFromLines, HasFreeSides, HasFreeCorners, IsClear, IsWithin, SaysWhy, IsRefusal}
use Rattle.admission.proofs.Answered.{why_not}

-- ---- the kind of a refusal
-- the number of its condition, from 0 on
abbrev kind : GlueRefusal → ℕ
kind (Turned element) = 0
kind (Met element line) = 1
kind (PointOnSide element point) = 2
kind (CornerOnLine element line) = 3
kind (Backwards element line) = 4
kind (Outside element winding) = 5
kind (Area element left) = 6
kind Memory = 7

-- the first n conditions hold
abbrev HoldFirst : State → List Point → ℕ → Type 0
HoldFirst st cs zero = Unit {0}
HoldFirst st cs (suc zero) = IsStrictlyConvex cs
HoldFirst st cs (suc (suc zero)) = IsApartFromLines st cs
HoldFirst st cs (suc (suc (suc zero))) = HasFreeSides st cs
HoldFirst st cs (suc (suc (suc (suc zero)))) = HasFreeCorners st cs
HoldFirst st cs (suc (suc (suc (suc (suc zero))))) = IsClear st cs
HoldFirst st cs (suc (suc (suc (suc (suc (suc zero)))))) = IsWithin st cs
HoldFirst st cs (suc (suc (suc (suc (suc (suc (suc n))))))) = IsWithin st cs × (shoelace (sides cs) ≤ℤ shoelace (edges_at st))

one_less : (st : State) (cs : List Point) (n : ℕ) → HoldFirst st cs (suc n) → HoldFirst st cs n
one_less st cs zero h = tt
one_less st cs (suc zero) h = h.turned
one_less st cs (suc (suc zero)) h = h.before
one_less st cs (suc (suc (suc zero))) h = h.before
one_less st cs (suc (suc (suc (suc zero)))) h = h.before
one_less st cs (suc (suc (suc (suc (suc zero))))) h = h.before
one_less st cs (suc (suc (suc (suc (suc (suc zero)))))) h = h.0
one_less st cs (suc (suc (suc (suc (suc (suc (suc n))))))) h = h

fewer : (st : State) (cs : List Point) (m n : ℕ) → m ≤ n → HoldFirst st cs n → HoldFirst st cs m
fewer st cs m zero l h = subst (HoldFirst st cs) (none m l) h
  where
    none : (m : ℕ) → m ≤ 0 → 0 ≡ m
    none m l = omega (arith, l)
fewer st cs m (suc n) l h = elim (compared m n l) [ inl k ↦ fewer st cs m n k (one_less st cs n h) | inr e ↦ subst (HoldFirst st cs) e h ]
  where
    compared : (m n : ℕ) → m ≤ suc n → (m ≤ n) ⊎ (suc n ≡ m)
    compared m n l = grind arith

hold_before : (st : State) (cs : List Point) (k : ℕ) (r : GlueRefusal) → SaysWhy st cs k r → HoldFirst st cs (kind r)
hold_before st cs k (Turned element) h = tt
hold_before st cs k (Met element line) h = h.1
hold_before st cs k (PointOnSide element point) h = h.1
hold_before st cs k (CornerOnLine element line) h = h.1
hold_before st cs k (Backwards element line) h = h.1
hold_before st cs k (Outside element winding) h = h.1
hold_before st cs k (Area element left) h = h.1
hold_before st cs k Memory h = absurd h

fails_there : (st : State) (cs : List Point) (k : ℕ) (r : GlueRefusal) → SaysWhy st cs k r → HoldFirst st cs (suc (kind r)) → ⊥
fails_there st cs k (Turned element) h p = h.1 p
fails_there st cs k (Met element line) h p = p.apart line h.2.holds
fails_there st cs k (PointOnSide element point) h p = p.sides_free point h.2.holds
fails_there st cs k (CornerOnLine element line) h p = p.corners_free line h.2.holds
fails_there st cs k (Backwards element line) h p = p.forwards line h.2.holds
fails_there st cs k (Outside element winding) h p = h.3 (h.2 ∙ p.within)
fails_there st cs k (Area element left) h p = too_large (shoelace (edges_at st)) (shoelace (sides cs)) left h.2 h.3 p.1
  where
    too_large : (a b left : ℤ) → left ≡ a → left <ℤ b → b ≤ℤ a → ⊥
    too_large a b left e l h = omega (arith, ints, e, l, h)
fails_there st cs k Memory h p = h

one_kind : (st : State) (cs : List Point) (k : ℕ) (r s : GlueRefusal) → SaysWhy st cs k r → SaysWhy st cs k s → kind r ≡ kind s
one_kind st cs k r s h i = elim (compared (kind r) (kind s)) [
  | inl l ↦ absurd (fails_there st cs k r h (fewer st cs (suc (kind r)) (kind s) l (hold_before st cs k s i)))
  | inr (inl l) ↦ absurd (fails_there st cs k s i (fewer st cs (suc (kind s)) (kind r) l (hold_before st cs k r h)))
  | inr (inr e) ↦ e
]
  where
    compared : (m n : ℕ) → (suc m ≤ n) ⊎ ((suc n ≤ m) ⊎ (m ≡ n))
    compared m n = grind arith

-- ---- what a refusal tells
abbrev element_told : GlueRefusal → ℕ
element_told (Turned element) = element
element_told (Met element line) = element
element_told (PointOnSide element point) = element
element_told (CornerOnLine element line) = element
element_told (Backwards element line) = element
element_told (Outside element winding) = element
element_told (Area element left) = element
element_told Memory = 0

abbrev number_told : GlueRefusal → ℕ
number_told (Turned element) = 0
number_told (Met element line) = line
number_told (PointOnSide element point) = point
number_told (CornerOnLine element line) = line
number_told (Backwards element line) = line
number_told (Outside element winding) = 0
number_told (Area element left) = 0
number_told Memory = 0

abbrev value_told : GlueRefusal → ℤ
value_told (Turned element) = pos 0
value_told (Met element line) = pos 0
value_told (PointOnSide element point) = pos 0
value_told (CornerOnLine element line) = pos 0
value_told (Backwards element line) = pos 0
value_told (Outside element winding) = winding
value_told (Area element left) = left
value_told Memory = pos 0

-- the refusal of a kind with an element, a number and a value
abbrev told : ℕ → ℕ → ℕ → ℤ → GlueRefusal
told zero k n z = Turned k
told (suc zero) k n z = Met k n
told (suc (suc zero)) k n z = PointOnSide k n
told (suc (suc (suc zero))) k n z = CornerOnLine k n
told (suc (suc (suc (suc zero)))) k n z = Backwards k n
told (suc (suc (suc (suc (suc zero))))) k n z = Outside k z
told (suc (suc (suc (suc (suc (suc zero)))))) k n z = Area k z
told (suc (suc (suc (suc (suc (suc (suc i))))))) k n z = Memory

told_again : (r : GlueRefusal) → told (kind r) (element_told r) (number_told r) (value_told r) ≡ r
told_again (Turned element) = refl
told_again (Met element line) = refl
told_again (PointOnSide element point) = refl
told_again (CornerOnLine element line) = refl
told_again (Backwards element line) = refl
told_again (Outside element winding) = refl
told_again (Area element left) = refl
told_again Memory = refl

-- the number and the value that go with a kind
abbrev IsTold : State → List Point → ℕ → ℕ → ℤ → Type 0
IsTold st cs zero n z = (n ≡ 0) × (z ≡ pos 0)
IsTold st cs (suc zero) n z = IsLeast (MeetsLine st cs) n × (z ≡ pos 0)
IsTold st cs (suc (suc zero)) n z = IsLeast (HasPointOnSide st cs) n × (z ≡ pos 0)
IsTold st cs (suc (suc (suc zero))) n z = IsLeast (HasCornerOnLine st cs) n × (z ≡ pos 0)
IsTold st cs (suc (suc (suc (suc zero)))) n z = IsLeast (HasSideBackwards st cs) n × (z ≡ pos 0)
IsTold st cs (suc (suc (suc (suc (suc zero))))) n z = (n ≡ 0) × (z ≡ wind (centre cs) (edges_at st))
IsTold st cs (suc (suc (suc (suc (suc (suc i)))))) n z = (n ≡ 0) × (z ≡ shoelace (edges_at st))

tells : (st : State) (cs : List Point) (k : ℕ) (r : GlueRefusal) → SaysWhy st cs k r → (element_told r ≡ k) × IsTold st cs (kind r) (number_told r) (value_told r)
tells st cs k (Turned element) h = (h.0, (refl, refl))
tells st cs k (Met element line) h = (h.0, (h.2, refl))
tells st cs k (PointOnSide element point) h = (h.0, (h.2, refl))
tells st cs k (CornerOnLine element line) h = (h.0, (h.2, refl))
tells st cs k (Backwards element line) h = (h.0, (h.2, refl))
tells st cs k (Outside element winding) h = (h.0, (refl, h.2))
tells st cs k (Area element left) h = (h.0, (refl, h.2))
tells st cs k Memory h = absurd h

one_least : (P : ℕ → Type 0) (m n : ℕ) → IsLeast P m → IsLeast P n → m ≡ n
one_least P m n h k = between m n (h.least n k.holds) (k.least m h.holds)
  where
    between : (m n : ℕ) → m ≤ n → n ≤ m → m ≡ n
    between m n l i = omega (arith, l, i)

one_told : (st : State) (cs : List Point) (i m n : ℕ) (y z : ℤ) → IsTold st cs i m y → IsTold st cs i n z → (m ≡ n) × (y ≡ z)
one_told st cs zero m n y z h k = (h.0 ∙ sym k.0, h.1 ∙ sym k.1)
one_told st cs (suc zero) m n y z h k = (one_least (MeetsLine st cs) m n h.0 k.0, h.1 ∙ sym k.1)
one_told st cs (suc (suc zero)) m n y z h k = (one_least (HasPointOnSide st cs) m n h.0 k.0, h.1 ∙ sym k.1)
one_told st cs (suc (suc (suc zero))) m n y z h k = (one_least (HasCornerOnLine st cs) m n h.0 k.0, h.1 ∙ sym k.1)
one_told st cs (suc (suc (suc (suc zero)))) m n y z h k = (one_least (HasSideBackwards st cs) m n h.0 k.0, h.1 ∙ sym k.1)
one_told st cs (suc (suc (suc (suc (suc zero))))) m n y z h k = (h.0 ∙ sym k.0, h.1 ∙ sym k.1)
one_told st cs (suc (suc (suc (suc (suc (suc i)))))) m n y z h k = (h.0 ∙ sym k.0, h.1 ∙ sym k.1)

-- ---- one refusal
one_why : (st : State) (cs : List Point) (k : ℕ) (r s : GlueRefusal) → SaysWhy st cs k r → SaysWhy st cs k s → r ≡ s
one_why st cs k r s h i =
    let same = one_kind st cs k r s h i in
    let first = tells st cs k r h in
    let second = tells st cs k s i in
    let told_same = one_told st cs (kind s) (number_told r) (number_told s) (value_told r) (value_told s) (subst (λ (j : ℕ). IsTold st cs j (number_told r) (value_told r)) same first.1) second.1 in
    sym (told_again r) ∙ (λ j. told (same j) ((first.0 ∙ sym second.0) j) (told_same.0 j) (told_same.1 j)) ∙ told_again s

pub one_refusal : (st : State) (elements : List (List ℕ)) (k : ℕ) (r s : GlueRefusal) → IsRefusal st elements k r → IsRefusal st elements k s → r ≡ s
one_refusal st [] k r s h i = absurd h
one_refusal st (ns ∷ elements) k r s (inl h) (inl i) = one_why st (corners_of st.points ns) k r s h i
one_refusal st (ns ∷ elements) k r s (inl h) (inr i) = absurd (why_not st (corners_of st.points ns) k r h i.0)
one_refusal st (ns ∷ elements) k r s (inr h) (inl i) = absurd (why_not st (corners_of st.points ns) k s i h.0)
one_refusal st (ns ∷ elements) k r s (inr h) (inr i) = one_refusal (glued st ns) elements (k + 1) r s h.1 i.1
