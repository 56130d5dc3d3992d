-- Elements one after another: one more is glued, and the first one that may not be glued gives the refusal of all.
use Prim.Native.Nat.{ℕ, zero, suc, ◌+◌, ◌<◌}
use lib.ListN.{length, take, get_or}
use mathlib.Core.Path.{◌≡◌, refl, sym, ap, ◌∙◌, subst}
use mathlib.Core.List.{List, [], ◌∷◌}
use mathlib.Core.Logic.{inl, inr}
use native.Mathlib.Omega.{arith}
use Rattle.state_law.specs.State.{State, corners_of, glued}
use Rattle.admission.specs.declared.refusal.GlueRefusal.{GlueRefusal}
use Rattle.admission.specs.Admission.{glued_on, MayJoin, MayFollow, SaysWhy, IsRefusal}

after : (i : ℕ) → suc i ≡ i + 1
after i = omega arith

glued_suc : (st : State) (els : List (List ℕ)) (i : ℕ) (d : List ℕ) → i < length els → glued_on st (take (suc i) els) ≡ glued (glued_on st (take i els)) (get_or els i d)
glued_suc st [] i d h = absurd (omega (arith, h))
glued_suc st (ns ∷ els) zero d h = refl
glued_suc st (ns ∷ els) (suc i) d h = glued_suc (glued st ns) els i d (omega (arith, h))

pub glued_more : (st : State) (els : List (List ℕ)) (i : ℕ) (d : List ℕ) → i < length els → glued_on st (take (i + 1) els) ≡ glued (glued_on st (take i els)) (get_or els i d)
glued_more st els i d h = ap (λ (k : ℕ). glued_on st (take k els)) (sym (after i)) ∙ glued_suc st els i d h

may_suc : (st : State) (els : List (List ℕ)) (i : ℕ) (d : List ℕ) → i < length els → MayFollow st (take i els) → MayJoin (glued_on st (take i els)) (get_or els i d) → MayFollow st (take (suc i) els)
may_suc st [] i d h m j = absurd (omega (arith, h))
may_suc st (ns ∷ els) zero d h m j = (j, tt)
may_suc st (ns ∷ els) (suc i) d h m j = (m.0, may_suc (glued st ns) els i d (omega (arith, h)) m.1 j)

pub may_more : (st : State) (els : List (List ℕ)) (i : ℕ) (d : List ℕ) → i < length els → MayFollow st (take i els) → MayJoin (glued_on st (take i els)) (get_or els i d) → MayFollow st (take (i + 1) els)
may_more st els i d h m j = subst (λ (k : ℕ). MayFollow st (take k els)) (after i) (may_suc st els i d h m j)

pub same_points : (st : State) (els : List (List ℕ)) → (glued_on st els).points ≡ st.points
same_points st [] = refl
same_points st (ns ∷ els) = same_points (glued st ns) els

refused_from : (st : State) (els : List (List ℕ)) (i k : ℕ) (d : List ℕ) (r : GlueRefusal) → i < length els → MayFollow st (take i els) → SaysWhy (glued_on st (take i els)) (corners_of (glued_on st (take i els)).points (get_or els i d)) (k + i) r → IsRefusal st els k r
refused_from st [] i k d r h m s = absurd (omega (arith, h))
refused_from st (ns ∷ els) zero k d r h m s = inl (subst (λ (n : ℕ). SaysWhy st (corners_of st.points ns) n r) (plain k) s)
  where
    plain : (k : ℕ) → k + 0 ≡ k
    plain k = omega arith
refused_from st (ns ∷ els) (suc i) k d r h m s = inr (m.0, refused_from (glued st ns) els i (k + 1) d r (omega (arith, h)) m.1 (subst (λ (n : ℕ). SaysWhy (glued_on (glued st ns) (take i els)) (corners_of (glued_on (glued st ns) (take i els)).points (get_or els i d)) n r) (later k i) s))
  where
    later : (k i : ℕ) → k + suc i ≡ (k + 1) + i
    later k i = omega arith

pub refused_at : (st : State) (els : List (List ℕ)) (i : ℕ) (d : List ℕ) (r : GlueRefusal) → i < length els → MayFollow st (take i els) → SaysWhy (glued_on st (take i els)) (corners_of (glued_on st (take i els)).points (get_or els i d)) (i + 1) r → IsRefusal st els 1 r
refused_at st els i d r h m s = refused_from st els i 1 d r h m (subst (λ (n : ℕ). SaysWhy (glued_on st (take i els)) (corners_of (glued_on st (take i els)).points (get_or els i d)) n r) (turned i) s)
  where
    turned : (i : ℕ) → i + 1 ≡ 1 + i
    turned i = omega arith
