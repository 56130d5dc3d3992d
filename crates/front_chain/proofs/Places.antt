-- Points by their places: what the table of places says of a place that is not listed. Stands on wind_law's ClosedSums.
use Prim.Native.Nat.{ℕ, zero, suc, ◌+◌, ◌-◌, ◌≤◌, ◌<◌}
use lib.IntN.{pos}
use lib.ListN.{length, get_or, take}
use mathlib.Core.Path.{◌≡◌, refl, sym, ap, ◌∙◌, subst}
use mathlib.Core.Bool.{Bool, true, false, cond, not, ◌&&◌, ◌||◌}
use mathlib.Core.List.{List, [], ◌∷◌, ◌++◌}
use native.Mathlib.Omega.{arith}
use Rattle.std.specs.Prelude.{nat_lt, Option, Some, None, if◌then◌else◌, position}
use Rattle.std.specs.Ordering.{int_eq}
use Rattle.std.specs.Option.{option_map}
use Rattle.std.specs.List.{AllByRecursion, IsDistinct, list_any, position_or_len}
use Rattle.std.specs.Cmp.{IsEquivalence}
use Rattle.std.proofs.lemmas.Map.Keys.{IsDistinct-push}
use Rattle.wind_law.proofs.ClosedSums.{point_test}
use Rattle.std.proofs.lemmas.List.Sums.{prefix_len-le-length}
use Rattle.std.proofs.lemmas.Bool.Decides.{nat_tests}
use Rattle.indexmap.specs.IndexSet.{insert_key}
use Rattle.std.proofs.lemmas.List.{get_or_append_left}
use Rattle.grid_geom.specs.declared.Point.{Point}
use Rattle.grid_geom.specs.Closed.{same_point}
use Rattle.grid_geom.specs.Winding.{and}
use Rattle.grid_geom.specs.contracts.PointPartialEq.TheImpl as eq
use Rattle.state_law.specs.State.{point_at, IsListed}
use Rattle.front_chain.specs.Front.{number_of}

-- what `==` answers of two points
abbrev pub same_place : Point → Point → Bool
same_place = eq.ghosts.eq

and_is : (a b : Bool) → and a b ≡ (a && b)
and_is true b = refl
and_is false b = refl

any_is : (p : Point) (ps : List Point) → list_any (same_point p) ps ≡ list_any (same_place p) ps
any_is p [] = refl
any_is p (q ∷ ps) = λ i. and_is (int_eq p.x q.x) (int_eq p.y q.y) i || any_is p ps i

-- ---- no place
module _ {X : Type 0} (test : X → Bool) where
  all_but : (xs : List X) → position_or_len test xs ≡ length xs → list_any test xs ≡ false
  all_but [] e = refl
  all_but (x ∷ xs) e = by (test x) refl e (all_but xs)
    where
      by : (b : Bool) → test x ≡ b → cond (not b) (1 + position_or_len test xs) 0 ≡ suc (length xs) → (position_or_len test xs ≡ length xs → list_any test xs ≡ false) → (test x || list_any test xs) ≡ false
      by true f h rest = absurd (omega (arith, h))
      by false f h rest = ap (λ c. c || list_any test xs) f ∙ rest (omega (arith, h))

  pub none_any : (xs : List X) → position test xs ≡ None → list_any test xs ≡ false
  none_any xs e = by (nat_lt (position_or_len test xs) (length xs)) refl e
    where
      by : (b : Bool) → nat_lt (position_or_len test xs) (length xs) ≡ b → cond b (Some (position_or_len test xs)) None ≡ None → list_any test xs ≡ false
      by true l h = absurd (cc)
      by false l h = let le : position_or_len test xs ≤ length xs = prefix_len-le-length (λ x. not (test x)) xs in all_but xs (grind (arith, nat_tests))

no_image : {A B : Type 0} (f : A → B) (o : Option A) → option_map f o ≡ None → o ≡ None
no_image f None e = refl
no_image f (Some a) e = absurd (cc)

-- a place that isn't listed is listed by no point
pub unlisted : (p : Point) (ps : List Point) → number_of ps p ≡ None → list_any (same_point p) ps ≡ false
unlisted p ps e = none_any (same_point p) ps (no_image (λ (i : ℕ). i + 1) (position (same_point p) ps) e)

-- so the table puts it at its end
pub new_keys : (p : Point) (ps : List Point) → number_of ps p ≡ None → insert_key same_place ps p ≡ ps ++ p ∷ []
new_keys p ps e = ap (λ b. if b then ps else ps ++ p ∷ []) (sym (any_is p ps) ∙ unlisted p ps e)

-- ---- a place that no point has
module _ {X : Type 0} (test : X → Bool) where
  pub no_position : (xs : List X) → list_any test xs ≡ false → position test xs ≡ None
  no_position xs e = ap (λ (b : Bool). cond b (Some (position_or_len test xs)) None) {y = false} (below (position_or_len test xs) (length xs) (past xs e))
    where
      below : (m n : ℕ) → m ≡ n → nat_lt m n ≡ false
      below m n h = grind arith

      or_false : (a b : Bool) → (a || b) ≡ false → (a ≡ false) × (b ≡ false)
      or_false true b h = absurd (cc)
      or_false false b h = (refl, h)

      past : (xs : List X) → list_any test xs ≡ false → position_or_len test xs ≡ length xs
      past [] e = refl
      past (x ∷ xs) e = let k = or_false (test x) (list_any test xs) e in ap (λ (b : Bool). cond (not b) (1 + position_or_len test xs) 0) k.0 ∙ more (position_or_len test xs) (length xs) (past xs k.1)
        where
          more : (m n : ℕ) → m ≡ n → 1 + m ≡ suc n
          more m n h = omega arith

pub absent_place : (p : Point) (ps : List Point) → list_any (same_point p) ps ≡ false → number_of ps p ≡ None
absent_place p ps e = ap (option_map (λ (i : ℕ). i + 1)) (no_position (same_point p) ps e)

-- of different points none stands before
same_turned : (p q : Point) → same_point p q ≡ false → same_point q p ≡ false
same_turned p q h = test (same_point q p) refl
  where
    test : (b : Bool) → same_point q p ≡ b → b ≡ false
    test true i = absurd (clash (sym (subst (λ (z : Point). same_point p z ≡ true) (sym (point_test.sound q p i)) (point_test.reflexive p)) ∙ h))
      where
        clash : true ≡ false → ⊥
        clash e = cc
    test false i = refl

pub fresh_place : (k : ℕ) (ps : List Point) (d : Point) → IsDistinct same_point ps → k < length ps → list_any (same_point (get_or ps k d)) (take k ps) ≡ false
unfolding IsDistinct
fresh_place k [] d h l = absurd (omega (arith, l))
fresh_place zero (q ∷ ps) d h l = refl
fresh_place (suc k) (q ∷ ps) d h l = ap (λ b. b || list_any (same_point (get_or ps k d)) (take k ps)) (same_turned q (get_or ps k d) (at ps k h.0 (omega (arith, l)))) ∙ fresh_place k ps d h.1 (omega (arith, l))
  where
    at : (qs : List Point) (k : ℕ) → AllByRecursion (λ y. same_point q y ≡ false) qs → k < length qs → same_point q (get_or qs k d) ≡ false
    at [] k a l = absurd (omega (arith, l))
    at (r ∷ qs) zero a l = a.0
    at (r ∷ qs) (suc k) a l = at qs k a.1 (omega (arith, l))

pub fresh_number : (k : ℕ) (ps : List Point) (d : Point) → IsDistinct same_point ps → k < length ps → number_of (take k ps) (get_or ps k d) ≡ None
fresh_number k ps d h l = absent_place (get_or ps k d) (take k ps) (fresh_place k ps d h l)

-- ---- different points, and one more
points_turned : (p q : Point) (b c : Bool) → same_point p q ≡ b → same_point q p ≡ c → b ≡ c
points_turned p q true true e f = refl
points_turned p q false false e f = refl
points_turned p q true false e f = absurd (clash (sym (subst (λ (u : Point). same_point u p ≡ true) (point_test.sound p q e) (point_test.reflexive p)) ∙ f))
  where
    clash : true ≡ false → ⊥
    clash h = cc
points_turned p q false true e f = absurd (clash (sym (subst (λ (u : Point). same_point u q ≡ true) (point_test.sound q p f) (point_test.reflexive q)) ∙ e))
  where
    clash : true ≡ false → ⊥
    clash h = cc

point_laws : IsEquivalence same_point
point_laws = record {
  refl = point_test.reflexive;
  symm = λ p q. points_turned p q (same_point p q) (same_point q p) refl refl;
  congr = λ p q u e. ap (λ (v : Point). same_point v u) (point_test.sound p q e);
}

pub distinct_push : (ps : List Point) (p : Point) → IsDistinct same_point ps → number_of ps p ≡ None → IsDistinct same_point (ps ++ p ∷ [])
distinct_push ps p d e = IsDistinct-push point_laws ps p d (unlisted p ps e)

-- a listed point is where it was once another is listed
pub point_old : (points : List Point) (p : Point) (n : ℕ) → IsListed (length points) n → point_at (points ++ p ∷ []) n ≡ point_at points n
point_old points p n l = get_or_append_left points (p ∷ []) (record { x = pos 0; y = pos 0 }) (n - 1) (inside n (length points) l.0 l.1)
  where
    inside : (n m : ℕ) → 1 ≤ n → n ≤ m → n - 1 < m
    inside n m l k = omega arith
