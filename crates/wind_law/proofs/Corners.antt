-- What strict convexity, said by the positions of the corners, gives along the list of the sides.
-- Stands on grid_geom's Convex. The first two corners are called o and u, the third w.
use Prim.Native.Nat.{ℕ, suc, ◌+◌, ◌%◌, ◌<◌}
use lib.ListN.{get_or, length}
use lib.IntN.{pos}
use lib.Signed.{◌<ℤ◌}
use mathlib.Core.Path.{◌≡◌, sym, ap, ◌∙◌, subst}
use mathlib.Core.List.{List, [], ◌∷◌, ◌++◌}
use mathlib.Core.Logic.{◌⊎◌, inl, inr}
use native.Mathlib.Omega.{arith}
use Rattle.std.proofs.Math.Nat.{mod-eq_of_lt, mod_self}
use Rattle.std.proofs.Math.ListN.{get_or-append}
use Rattle.std.proofs.lemmas.List.{get_or_push}
use Rattle.std.specs.List.{AllByRecursion}
use Rattle.grid_geom.specs.declared.Point.{Point}
use Rattle.grid_geom.specs.declared.Edge.{Edge}
use Rattle.grid_geom.specs.Plane.{orient}
use Rattle.grid_geom.specs.Polygon.{sides, way_round, corner_at, after, IsStrictlyConvex}
use Rattle.grid_geom.proofs.Convex.{strict}
use Rattle.grid_geom.proofs.Polygon.{IsFan}

-- ---- sides by position
abbrev nowhere : Point
nowhere = record { x = pos 0; y = pos 0 }

way_all : (P : Edge → Type 0) (first from : Point) (ws : List Point) → ((k : ℕ) → k < 1 + length ws → P (record { a = get_or (from ∷ ws) k nowhere; b = get_or (ws ++ first ∷ []) k nowhere })) → AllByRecursion P (way_round first from ws)
way_all P first from [] f = (f 0 (omega arith), tt)
way_all P first from (to ∷ ws) f = (f 0 (omega arith), way_all P first to ws (λ k h. f (suc k) (omega arith)))

-- the corner after the one at position k
next_corner : (o : Point) (ws : List Point) (k : ℕ) → k < 1 + length ws → get_or (ws ++ o ∷ []) k nowhere ≡ corner_at (o ∷ ws) (after (o ∷ ws) k)
next_corner o ws k h = elim (inside k (length ws) h) [
  | inl j ↦ get_or-append ws (o ∷ []) nowhere k j ∙ ap (corner_at (o ∷ ws)) (sym (next k (length ws) j))
  | inr e ↦ get_or_push ws o nowhere k (sym e) ∙ ap (corner_at (o ∷ ws)) (sym (round k (length ws) e))
]
  where
    inside : (k n : ℕ) → k < 1 + n → (k < n) ⊎ (k ≡ n)
    inside k n h = grind arith

    next : (k n : ℕ) → k < n → (k + 1) % suc n ≡ suc k
    next k n j = let below : k + 1 < suc n = omega arith in let e = mod-eq_of_lt below in omega (arith, e)

    round : (k n : ℕ) → k ≡ n → (k + 1) % suc n ≡ 0
    round k n e = let same : k + 1 ≡ suc n = omega (arith, e) in ap (λ (m : ℕ). m % suc n) same ∙ mod_self (suc n)

-- each side by its position
sides_all : (P : Edge → Type 0) (o : Point) (ws : List Point) → ((k : ℕ) → k < 1 + length ws → P (record { a = corner_at (o ∷ ws) k; b = corner_at (o ∷ ws) (after (o ∷ ws) k) })) → AllByRecursion P (sides (o ∷ ws))
sides_all P o ws f = way_all P o o ws (λ k h. subst (λ (c : Point). P (record { a = corner_at (o ∷ ws) k; b = c })) (sym (next_corner o ws k h)) (f k h))

corners_all : (P : Point → Type 0) (cs : List Point) → ((k : ℕ) → k < length cs → P (get_or cs k nowhere)) → AllByRecursion P cs
corners_all P [] f = tt
corners_all P (c ∷ cs) f = (f 0 (omega arith), corners_all P cs (λ k h. f (suc k) (omega arith)))

-- ---- the corners seen from a side
-- c is an end of the side e, or strictly left of it
abbrev pub IsEndOrLeft : Edge → Point → Type 0
IsEndOrLeft e c = (c ≡ e.a) ⊎ ((c ≡ e.b) ⊎ (pos 0 <ℤ orient e.a e.b c))

pub record IsConvexFrom (o u w : Point) (ws : List Point) : Type 0 where
  pub fan : IsFan o u (w ∷ ws)
  pub ahead : AllByRecursion (λ c. pos 0 <ℤ orient o u c) (w ∷ ws)
  pub strict : AllByRecursion (λ e. AllByRecursion (IsEndOrLeft e) (o ∷ u ∷ w ∷ ws)) (sides (o ∷ u ∷ w ∷ ws))

compared : (a b : ℕ) → (a ≡ b) ⊎ (a ≡ b → ⊥)
compared a b = grind arith

pub convex_from : (o u w : Point) (ws : List Point) → IsStrictlyConvex (o ∷ u ∷ w ∷ ws) → IsConvexFrom o u w ws
convex_from o u w ws v = record {
  fan = (strict o u (w ∷ ws) v).polygon.fan;
  ahead = corners_all (λ c. pos 0 <ℤ orient o u c) (w ∷ ws) (λ k h. first k h);
  strict = sides_all (λ e. AllByRecursion (IsEndOrLeft e) cs) o (u ∷ w ∷ ws) (λ i h. corners_all (IsEndOrLeft (record { a = corner_at cs i; b = corner_at cs (after cs i) })) cs (λ j k. seen i j (omega (arith, h)) k));
}
  where
    cs : List Point
    cs = o ∷ u ∷ w ∷ ws

    seen : (i j : ℕ) → i < length cs → j < length cs → IsEndOrLeft (record { a = corner_at cs i; b = corner_at cs (after cs i) }) (get_or cs j nowhere)
    seen i j h k = elim (compared j i) [
      | inl e ↦ inl (ap (corner_at cs) e)
      | inr n ↦ elim (compared j (after cs i)) [ inl e ↦ inr (inl (ap (corner_at cs) e)) | inr m ↦ inr (inr (v.left i h j k n m)) ]
    ]

    first : (k : ℕ) → k < length (w ∷ ws) → pos 0 <ℤ orient o u (get_or (w ∷ ws) k nowhere)
    first k h = subst (λ (n : ℕ). pos 0 <ℤ orient o (corner_at cs n) (get_or (w ∷ ws) k nowhere)) (second (length ws))
        (v.left 0 (omega arith) (suc (suc k)) (omega arith) (λ e. omega (arith, e)) (λ e. omega (arith, e, second (length ws))))
      where
        second : (n : ℕ) → (0 + 1) % suc (suc (suc n)) ≡ 1
        second n = let below : 0 + 1 < suc (suc (suc n)) = omega arith in let e = mod-eq_of_lt below in omega (arith, e)
