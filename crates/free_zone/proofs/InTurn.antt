-- The corners of a rule's zone, one by one.
use Prim.Native.Nat.{ℕ, zero, suc, ◌+◌, ◌<◌, ◌≤◌}
use lib.ListN.{length, get_or, take}
use mathlib.Core.Path.{◌≡◌, refl, sym, ap, ◌∙◌, subst}
use mathlib.Core.List.{List, [], ◌∷◌, ◌++◌}
use native.Mathlib.Omega.{arith}
use Rattle.std.specs.List.{All}
use Rattle.std.proofs.lemmas.List.{take_more, take_all}
use Rattle.grid_geom.specs.Bounds.{IsOnGrid}
use Rattle.grid_geom.specs.declared.Point.{Point}
use Rattle.rule_reader.specs.declared.rule.Place.{Place}
use Rattle.rule_maps.specs.Places.{Mapping, corner}
use Rattle.free_zone.specs.Zone.{zone_from, zone_of}

-- as many corners as the rule writes
pub as_many : (m : Mapping) (class k : ℕ) (ps : List Place) → length (zone_from m class k ps) ≡ length ps
as_many m class k [] = refl
as_many m class k (p ∷ ps) = ap suc (as_many m class (k + 1) ps)

corner_from : (m : Mapping) (class k i : ℕ) (d : Point) (ps : List Place) → i < length ps → get_or (zone_from m class k ps) i d ≡ corner m (k + i) class
corner_from m class k i d [] h = absurd (omega (arith, h))
corner_from m class k zero d (p ∷ ps) h = ap (λ (n : ℕ). corner m n class) (omega arith)
corner_from m class k (suc i) d (p ∷ ps) h = corner_from m class (k + 1) i d ps (omega (arith, h)) ∙ ap (λ (n : ℕ). corner m n class) (later k i)
  where
    later : (k i : ℕ) → k + 1 + i ≡ k + suc i
    later k i = omega arith

-- the corner at a position
pub corner_there : (m : Mapping) (class i : ℕ) (d : Point) → i < length m.rule.area → get_or (zone_of m class) i d ≡ corner m (i + 1) class
corner_there m class i d h = corner_from m class 1 i d m.rule.area h ∙ ap (λ (n : ℕ). corner m n class) (turned i)
  where
    turned : (i : ℕ) → 1 + i ≡ i + 1
    turned i = omega arith

-- one more corner at the end
pub pushed : (m : Mapping) (class i : ℕ) (old new : List Point) (p : Point) → i < length m.rule.area → old ≡ take i (zone_of m class) → new ≡ old ++ p ∷ [] → p ≡ corner m (i + 1) class → new ≡ take (i + 1) (zone_of m class)
pushed m class i old new p lt o n e = n ∙ ap (λ (xs : List Point). xs ++ p ∷ []) o ∙ ap (λ (q : Point). take i (zone_of m class) ++ q ∷ []) (e ∙ sym (corner_there m class i p lt))
    ∙ sym (take_more (zone_of m class) i p (subst (λ (n : ℕ). i < n) (sym (as_many m class 1 m.rule.area)) lt))

-- all corners
pub whole_list : (m : Mapping) (class i : ℕ) (old : List Point) → length m.rule.area ≤ i → old ≡ take i (zone_of m class) → old ≡ zone_of m class
whole_list m class i old le o = o ∙ take_all i (zone_of m class) (subst (λ (n : ℕ). n ≤ i) (sym (as_many m class 1 m.rule.area)) le)

-- one corner off the grid
pub one_off : (m : Mapping) (class i : ℕ) → i < length m.rule.area → ¬ (IsOnGrid (corner m (i + 1) class)) → ¬ (All IsOnGrid (zone_of m class))
one_off m class i lt off h = off (subst IsOnGrid (corner_there m class i (corner m (i + 1) class) lt) (h i (corner m (i + 1) class) (subst (λ (n : ℕ). i < n) (sym (as_many m class 1 m.rule.area)) lt)))
