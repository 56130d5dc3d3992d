-- Gluing sides one after another: what is asked of the sides that are left goes on, and an element that may be glued has such sides.
use Prim.Native.Nat.{ℕ, suc, ◌-◌, ◌≤◌, ◌<◌}
use lib.ListN.{length, get_or, take, drop}
use mathlib.Core.Path.{◌≡◌, refl, sym, ap, ◌∙◌, subst}
use mathlib.Core.Bool.{Bool, true, false, cond, ◌&&◌}
use mathlib.Core.List.{List, [], ◌∷◌, map}
use native.Mathlib.Omega.{arith}
use Rattle.std.specs.Prelude.{nat_eq, Some, None}
use Rattle.std.proofs.lemmas.List.{take_all}
use Rattle.std.specs.Option.{option_map}
use Rattle.std.specs.List.{AllByRecursion, find}
use Rattle.grid_geom.specs.declared.Point.{Point}
use Rattle.grid_geom.specs.Sides.{same_ends}
use Rattle.wind_law.specs.Chains.{back}
use Rattle.state_law.specs.Free.{AreFreeOf, DoEdgesTangle}
use Rattle.state_law.specs.Gluing.{IsClearOf}
use Rattle.state_law.specs.State.{does_join, glue_line, number_sides, number_way, pair_edge, front_edges, corners_of, IsListed}
use Rattle.state_law.proofs.Lists.{all_map, all_both, turned_table}
use Rattle.state_law.proofs.Numbers.{side_edges}
use Rattle.state_law.proofs.SidesFree.{sides_untangled}
use Rattle.front_chain.specs.Front.{FrontState, number_between, edges_of, IsGluable}
use Rattle.front_chain.specs.Gluable.{AreApart, CanJoin}
use Rattle.front_chain.proofs.Lines.{eq_sound}
use Rattle.front_chain.proofs.Sides.{not_first}

-- the line of the ends, or not
joins_same : (a b c d : ℕ) → (nat_eq a c && nat_eq b d) ≡ true → (a ≡ c) × (b ≡ d)
joins_same a b c d e = by (nat_eq a c) (nat_eq b d) refl refl e
  where
    by : (u w : Bool) → nat_eq a c ≡ u → nat_eq b d ≡ w → (u && w) ≡ true → (a ≡ c) × (b ≡ d)
    by true true f g h = (eq_sound a c f, eq_sound b d g)
    by true false f g h = absurd (cc)
    by false w f g h = absurd (cc)

none_more : (line : ℕ × ℕ × ℕ) (lines : List (ℕ × ℕ × ℕ)) (a b : ℕ) → (nat_eq line.1 a && nat_eq line.2 b) ≡ false → number_between lines a b ≡ None → number_between (line ∷ lines) a b ≡ None
none_more line lines a b f e = ap (λ c. option_map (λ (line : ℕ × ℕ × ℕ). line.0) (cond c (Some line) (find (λ line. nat_eq line.1 a && nat_eq line.2 b) lines))) f ∙ e

-- after a side s is glued, no line is another side t reversed, if none was
stays_free : (lines : List (ℕ × ℕ × ℕ)) (next : ℕ) (s t : ℕ × ℕ) → ¬ (s ≡ t) → number_between lines t.1 t.0 ≡ None → number_between (glue_line lines next s) t.1 t.0 ≡ None
stays_free [] next s t h e = none_more (next, s.1, s.0) [] t.1 t.0 (other (nat_eq s.1 t.1 && nat_eq s.0 t.0) refl) refl
  where
    other : (b : Bool) → (nat_eq s.1 t.1 && nat_eq s.0 t.0) ≡ b → b ≡ false
    other true f = let k = joins_same s.1 s.0 t.1 t.0 f in absurd (h (λ i. (k.1 i, k.0 i)))
    other false f = refl
stays_free (line ∷ lines) next s t h e = let k = not_first line lines t.1 t.0 e in
    (elim (does_join line s) as (λ (b : Bool). number_between (elim b [ true ↦ lines | false ↦ line ∷ glue_line lines next s ]) t.1 t.0 ≡ None) [
      | true ↦ k.1
      | false ↦ none_more line (glue_line lines next s) t.1 t.0 k.0 (stays_free lines next s t h k.1)
    ])

pub can_rest : (points : ℕ) (lines : List (ℕ × ℕ × ℕ)) (next : ℕ) (s : ℕ × ℕ) (ss : List (ℕ × ℕ)) → CanJoin points lines (s ∷ ss) → CanJoin points (glue_line lines next s) ss
can_rest points lines next s ss h = record {
  listed = h.listed.1;
  not_backwards = all_both (λ t. ¬ (s ≡ t)) (λ t. number_between lines t.1 t.0 ≡ None) (λ t. number_between (glue_line lines next s) t.1 t.0 ≡ None) (λ t n e. stays_free lines next s t n e) ss h.apart.0 h.not_backwards.1;
  apart = h.apart.1;
}

-- ---- an element that may be glued
none_backwards : (points : List Point) (s : ℕ × ℕ) (lines : List (ℕ × ℕ × ℕ)) → AllByRecursion (λ line. ¬ (pair_edge points (line.1, line.2) ≡ back (pair_edge points s))) lines → number_between lines s.1 s.0 ≡ None
none_backwards points s [] h = refl
none_backwards points s (line ∷ lines) h = none_more line lines s.1 s.0 (other (nat_eq line.1 s.1 && nat_eq line.2 s.0) refl) (none_backwards points s lines h.1)
  where
    other : (b : Bool) → (nat_eq line.1 s.1 && nat_eq line.2 s.0) ≡ b → b ≡ false
    other true f = let k = joins_same line.1 line.2 s.1 s.0 f in absurd (h.0 (λ i. pair_edge points (k.0 i, k.1 i)))
    other false f = refl

-- what holds of mapped items
all_unmapped : {X Y : Type 0} (P : Y → Type 0) (f : X → Y) (xs : List X) → AllByRecursion P (map f xs) → AllByRecursion (λ x. P (f x)) xs
all_unmapped P f [] h = tt
all_unmapped P f (x ∷ xs) h = (h.0, all_unmapped P f xs h.1)

free_sides : (points : List Point) (ss : List (ℕ × ℕ)) (lines : List (ℕ × ℕ × ℕ)) → AllByRecursion (λ e. AllByRecursion (λ s. ¬ (e ≡ back s)) (map (pair_edge points) ss)) (front_edges points lines) → AllByRecursion (λ s. number_between lines s.1 s.0 ≡ None) ss
free_sides points ss lines h = all_map (λ s. AllByRecursion (λ line. ¬ (pair_edge points (line.1, line.2) ≡ back (pair_edge points s))) lines) (λ s. number_between lines s.1 s.0 ≡ None) (λ s k. none_backwards points s lines k) ss
    (turned_table (λ line s. ¬ (pair_edge points (line.1, line.2) ≡ back (pair_edge points s))) lines ss
    (all_map (λ line. AllByRecursion (λ s. ¬ (pair_edge points (line.1, line.2) ≡ back s)) (map (pair_edge points) ss)) (λ line. AllByRecursion (λ s. ¬ (pair_edge points (line.1, line.2) ≡ back (pair_edge points s))) ss)
    (λ line k. all_unmapped (λ s. ¬ (pair_edge points (line.1, line.2) ≡ back s)) (pair_edge points) ss k) lines
    (all_unmapped (λ e. AllByRecursion (λ s. ¬ (e ≡ back s)) (map (pair_edge points) ss)) (λ (line : ℕ × ℕ × ℕ). pair_edge points (line.1, line.2)) lines h)))

apart_sides : (points : List Point) (ss : List (ℕ × ℕ)) → AreFreeOf DoEdgesTangle (map (pair_edge points) ss) → AreApart ss
apart_sides points [] h = tt
apart_sides points (s ∷ ss) h = (
  all_map (λ t. ¬ (DoEdgesTangle (pair_edge points s) (pair_edge points t))) (λ t. ¬ (s ≡ t)) (λ t n e. n (same_ends (λ i. (pair_edge points (e i)).a) (λ i. (pair_edge points (e i)).b))) ss
      (all_unmapped (λ f. ¬ (DoEdgesTangle (pair_edge points s) f)) (pair_edge points) ss h.0),
  apart_sides points ss h.1,
)

way_listed : (n first from : ℕ) (ns : List ℕ) → IsListed n first → IsListed n from → AllByRecursion (IsListed n) ns → AllByRecursion (λ s. IsListed n s.0 × IsListed n s.1) (number_way first from ns)
way_listed n first from [] h k l = ((k, h), tt)
way_listed n first from (to ∷ ns) h k l = ((k, l.0), way_listed n first to ns h l.0 l.1)

sides_listed : (n : ℕ) (ns : List ℕ) → AllByRecursion (IsListed n) ns → AllByRecursion (λ s. IsListed n s.0 × IsListed n s.1) (number_sides ns)
sides_listed n [] l = tt
sides_listed n (m ∷ ns) l = way_listed n m m ns l.0 l.0 l.1

pub gluable_joins : (f : FrontState) (ns : List ℕ) → IsGluable f ns → CanJoin (length f.points) f.lines (number_sides ns)
gluable_joins f ns h = record {
  listed = sides_listed (length f.points) ns h.listed;
  not_backwards = free_sides f.points (number_sides ns) f.lines (all_map (IsClearOf (corners_of f.points ns)) (λ e. AllByRecursion (λ s. ¬ (e ≡ back s)) (map (pair_edge f.points) (number_sides ns)))
      (λ e k. subst (λ es. AllByRecursion (λ s. ¬ (e ≡ back s)) es) (sym (side_edges f.points ns)) k.not_backwards) (edges_of f) h.may.clear);
  apart = apart_sides f.points (number_sides ns) (subst (AreFreeOf DoEdgesTangle) (sym (side_edges f.points ns)) (sides_untangled (corners_of f.points ns) h.may.turned));
}

-- a list of one at least is its first and the rest, as a slice pattern splits it
pub split_first : (ns : List ℕ) → 1 ≤ length ns → ns ≡ get_or ns 0 0 ∷ take (length ns - 1) (drop 1 ns)
split_first [] h = absurd (omega (arith, h))
split_first (n ∷ ns) h = ap (λ (ms : List ℕ). n ∷ ms) (whole ns)
  where
    plain : (k : ℕ) → suc k - 1 ≡ k
    plain k = omega arith

    same : (k : ℕ) → k ≤ k
    same k = omega arith

    whole : (ms : List ℕ) → ms ≡ take (suc (length ms) - 1) ms
    whole ms = sym (ap (λ (k : ℕ). take k ms) (plain (length ms)) ∙ take_all (length ms) ms (same (length ms)))

pub rest_length : (ns : List ℕ) → 1 ≤ length ns → length (take (length ns - 1) (drop 1 ns)) < length ns
rest_length ns h = shorter (length (take (length ns - 1) (drop 1 ns))) (length ns) h (ap length (split_first ns h))
  where
    shorter : (k n : ℕ) → 1 ≤ n → n ≡ suc k → k < n
    shorter k n h e = omega arith

-- after the first side is glued the rest may be
pub can_after : (points more : ℕ) (lines after : List (ℕ × ℕ × ℕ)) (next first from : ℕ) (ns : List ℕ) → 1 ≤ length ns → CanJoin points lines (number_way first from ns) → more ≡ points → after ≡ glue_line lines next (from, get_or ns 0 0) →
    CanJoin more after (number_way first (get_or ns 0 0) (take (length ns - 1) (drop 1 ns)))
can_after points more lines after next first from ns l h f e = subst (λ m. CanJoin m after (number_way first (get_or ns 0 0) (take (length ns - 1) (drop 1 ns)))) (sym f)
    (subst (λ ls. CanJoin points ls (number_way first (get_or ns 0 0) (take (length ns - 1) (drop 1 ns)))) (sym e)
    (can_rest points lines next (from, get_or ns 0 0) (number_way first (get_or ns 0 0) (take (length ns - 1) (drop 1 ns))) (subst (λ ms. CanJoin points lines (number_way first from ms)) (split_first ns l) h)))
