-- A box made larger holds what it held.
use Prim.Native.Nat.{ℕ, zero, suc, ◌+◌, ◌<◌}
use lib.ListN.{length, take, get_or}
use mathlib.Core.Path.{◌≡◌, refl, ap, ◌∙◌}
use mathlib.Core.List.{List, [], ◌∷◌, ◌++◌, map}
use native.Mathlib.Omega.{arith}
use Rattle.std.specs.List.{All}
use Rattle.std.proofs.lemmas.List.Elements.{All-more, All-weaker}
use Rattle.grid_geom.specs.declared.Point.{Point}
use Rattle.grid_geom.specs.declared.Bounds.{Bounds}
use Rattle.admission.specs.declared.shapes.Shape.{Shape}
use Rattle.admission.specs.Around.{IsInBounds, IsShapeIn}

-- one more of a list, mapped
pub map_more : {A B : Type 0} (f : A → B) (xs : List A) (i : ℕ) (d : A) → i < length xs → map f (take (i + 1) xs) ≡ map f (take i xs) ++ f (get_or xs i d) ∷ []
map_more f xs i d h = ap (λ (n : ℕ). map f (take n xs)) (after i) ∙ by f xs i d h
  where
    after : (i : ℕ) → i + 1 ≡ suc i
    after i = omega arith

    by : {A B : Type 0} (f : A → B) (xs : List A) (i : ℕ) (d : A) → i < length xs → map f (take (suc i) xs) ≡ map f (take i xs) ++ f (get_or xs i d) ∷ []
    by f [] i d h = absurd (omega (arith, h))
    by f (x ∷ xs) zero d h = refl
    by {A} {B} f (x ∷ xs) (suc i) d h = ap (λ (ys : List B). f x ∷ ys) (by f xs i d (omega (arith, h)))

pub held_more : (old new : Bounds) (shapes : List Shape) (i : ℕ) (d : Shape) → i < length shapes → ((p : Point) → IsInBounds old p → IsInBounds new p) →
    All (IsShapeIn old) (take i shapes) → IsShapeIn new (get_or shapes i d) → All (IsShapeIn new) (take (i + 1) shapes)
held_more old new shapes i d h wider held here = All-more (IsShapeIn new) shapes i d h (All-weaker (IsShapeIn old) (IsShapeIn new) (λ s k. record { a = wider s.t.a k.a; b = wider s.t.b k.b; c = wider s.t.c k.c }) (take i shapes) held) here
