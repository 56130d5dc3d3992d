-- A numbering compares points by `==`, which is the test of two points.
use Rattle.std.proofs.Common.{◌≡◌, ℕ, ◌+◌, ◌≤◌, Bool, true, false, ◌&&◌, ◌||◌, cond, not, List, [], ◌∷◌, ◌++◌, refl, ap, sym, if◌then◌else◌, length, position, Some, None, nat_lt, arith}
use Rattle.std.proofs.lemmas.List.Sums.{prefix_len-le-length}
use Rattle.std.proofs.lemmas.Bool.Decides.{nat_tests}
use Rattle.std.specs.Ordering.{int_eq}
use Rattle.std.specs.List.{list_any, position_or_len}
use Rattle.grid_geom.specs.declared.Point.{Point}
use Rattle.grid_geom.specs.Closed.{same_point}
use Rattle.grid_geom.specs.Winding.{and}
use Rattle.grid_geom.specs.contracts.PointPartialEq.TheImpl as eq
use Rattle.mesh_run.specs.Numbering.{with_point}
use Rattle.indexmap.specs.IndexSet.{insert_key}

-- what `==` answers at points
abbrev pub equal : Point → Point → Bool
equal = eq.ghosts.eq

and_is : (a b : Bool) → and a b ≡ (a && b)
and_is true b = refl
and_is false b = refl

same_at : (p k : Point) → same_point p k ≡ equal p k
same_at p k = and_is (int_eq p.x k.x) (int_eq p.y k.y)

pub among_equal : (p : Point) (ks : List Point) → list_any (same_point p) ks ≡ list_any (equal p) ks
among_equal p [] = refl
among_equal p (k ∷ ks) = λ i. same_at p k i || among_equal p ks i

pub place_equal : (p : Point) (ks : List Point) → position_or_len (same_point p) ks ≡ position_or_len (equal p) ks
place_equal p [] = refl
place_equal p (k ∷ ks) = λ i. cond (not (same_at p k i)) (1 + place_equal p ks i) 0

pub with_equal : (p : Point) (ks : List Point) → insert_key equal ks p ≡ with_point ks p
with_equal p ks = sym (ap (λ b. if b then ks else ks ++ p ∷ []) (among_equal p ks))

pub some_place : {X : Type 0} (test : X → Bool) (ks : List X) (i : ℕ) → position test ks ≡ Some i → position_or_len test ks ≡ i
some_place test ks i e = by (nat_lt (position_or_len test ks) (length ks)) e
  where
    by : (b : Bool) → cond b (Some (position_or_len test ks)) None ≡ Some i → position_or_len test ks ≡ i
    by true h = cc
    by false h = cc

pub no_place : {X : Type 0} (test : X → Bool) (ks : List X) → position test ks ≡ None → position_or_len test ks ≡ length ks
no_place test ks e = by (nat_lt (position_or_len test ks) (length ks)) refl e
  where
    by : (b : Bool) → nat_lt (position_or_len test ks) (length ks) ≡ b → cond b (Some (position_or_len test ks)) None ≡ None → position_or_len test ks ≡ length ks
    by true l h = absurd cc
    by false l h = let le : position_or_len test ks ≤ length ks = prefix_len-le-length (λ x. not (test x)) ks in grind (arith, nat_tests)
