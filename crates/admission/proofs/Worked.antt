-- The conditions of `admit` and `glue` on two fronts, a triangle's and that of a square with a hole, for tests.
use lib.ListN.{length}
use mathlib.Core.Path.{◌≡◌, refl, sym, ap, ◌∙◌, subst}
use mathlib.Core.List.{List, [], ◌∷◌, ◌++◌}
use native.Mathlib.Omega.{arith}
use Rattle.std.proofs.lemmas.List.Elements.{All-from_recursion}
use Rattle.std.specs.Prelude.{ℕ}
use Rattle.std.specs.List.{All, IsDistinct}
use Rattle.grid_geom.specs.declared.Point.{Point}
use Rattle.grid_geom.specs.Closed.{same_point}
use Rattle.state_law.specs.Worked.{place}
use Rattle.front_chain.specs.Front.{FrontState, IsGluable}
use Rattle.front_chain.specs.Worked.{triangle_points, ring_points}
use Rattle.admission.specs.Around.{AreListed}
use Rattle.admission.specs.Admission.{entered, MayFollow}
use Rattle.admission.proofs.Answered.{gluable}

pub all_three : (a b : List ℕ) → a ≡ 1 ∷ 2 ∷ 3 ∷ [] → b ≡ 1 ∷ 2 ∷ 3 ∷ [] → All (λ ns. length ns ≡ 3) (a ∷ b ∷ [])
all_three a b e f = All-from_recursion (λ ns. length ns ≡ 3) (a ∷ b ∷ []) (ap length e, (ap length f, tt))

listed : AreListed 3 (1 ∷ 2 ∷ 3 ∷ [])
listed = ((omega arith, omega arith), ((omega arith, omega arith), ((omega arith, omega arith), tt)))

pub all_listed : (points : List Point) (a b : List ℕ) → points ≡ triangle_points → a ≡ 1 ∷ 2 ∷ 3 ∷ [] → b ≡ 1 ∷ 2 ∷ 3 ∷ [] → All (AreListed (length (points ++ []))) (a ∷ b ∷ [])
all_listed points a b p e f = subst (λ (ps : List Point). All (AreListed (length (ps ++ []))) (a ∷ b ∷ [])) (sym p)
    (All-from_recursion (AreListed 3) (a ∷ b ∷ []) (subst (AreListed 3) (sym e) listed, (subst (AreListed 3) (sym f) listed, tt)))

middle : IsDistinct same_point (triangle_points ++ place 320000 320000 ∷ [])
unfolding IsDistinct
middle = ((refl, (refl, (refl, tt))), ((refl, (refl, tt)), ((refl, tt), (tt, tt))))

pub new_place : (points : List Point) → points ≡ triangle_points → IsDistinct same_point (points ++ place 320000 320000 ∷ [])
new_place points p = subst (λ (ps : List Point). IsDistinct same_point (ps ++ place 320000 320000 ∷ [])) (sym p) middle

-- ---- the square with a hole
on_hole : IsDistinct same_point (ring_points ++ place 96000 64000 ∷ [])
unfolding IsDistinct
on_hole = (
  (refl, (refl, (refl, (refl, (refl, (refl, (refl, (refl, tt)))))))),
  (
    (refl, (refl, (refl, (refl, (refl, (refl, (refl, tt))))))),
    (
      (refl, (refl, (refl, (refl, (refl, (refl, tt)))))),
      (
        (refl, (refl, (refl, (refl, (refl, tt))))),
        (
          (refl, (refl, (refl, (refl, tt)))),
          (
            (refl, (refl, (refl, tt))),
            (
              (refl, (refl, tt)),
              ((refl, tt), (tt, tt)),
            ),
          ),
        ),
      ),
    ),
  ),
)

pub new_on_hole : (points : List Point) → points ≡ ring_points → IsDistinct same_point (points ++ place 96000 64000 ∷ [])
new_on_hole points p = subst (λ (ps : List Point). IsDistinct same_point (ps ++ place 96000 64000 ∷ [])) (sym p) on_hole

no_more : (ps : List Point) → ps ≡ ps ++ []
no_more [] = refl
no_more (p ∷ ps) = ap (λ (qs : List Point). p ∷ qs) (no_more ps)

-- an element that may follow may be glued, once memory is taken
pub ring_gluable : (f g : FrontState) (ns : List ℕ) → f.points ≡ ring_points → ns ≡ 1 ∷ 2 ∷ 5 ∷ [] → MayFollow (entered f []) (ns ∷ []) → g.points ≡ f.points → g.lines ≡ f.lines → g.next ≡ f.next → IsGluable g ns
ring_gluable f g ns p e m same lines next = gluable f g [] [] [] ns m (record { points = same ∙ no_more f.points; lines = lines; next = next }) (ap length e)
    (subst (λ (ps : List Point). AreListed (length ps) ns) (sym (same ∙ p)) (subst (AreListed 8) (sym e) ((omega arith, omega arith), ((omega arith, omega arith), ((omega arith, omega arith), tt)))))
