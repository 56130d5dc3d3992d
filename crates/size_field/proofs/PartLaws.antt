-- What holds of the pieces of a segment: they lie on the grid, have two ends, wind as their segment does, and are untangled where it is.
use Rattle.std.proofs.Common.{◌≡◌, ℕ, zero, suc, List, [], ◌∷◌, ◌++◌, Option, Some, None, refl, sym, ap, ◌∙◌, subst, append_assoc, ◌+ℤ◌}
use Rattle.std.specs.List.{AllByRecursion}
use Rattle.grid_geom.specs.declared.Point.{Point}
use Rattle.grid_geom.specs.declared.RatPoint.{RatPoint}
use Rattle.grid_geom.specs.declared.Edge.{Edge}
use Rattle.grid_geom.specs.Plane.{IsRational}
use Rattle.grid_geom.specs.Sides.{IsOnOpen}
use Rattle.grid_geom.specs.Winding.{wind}
use Rattle.grid_geom.specs.Closed.{IsEdge}
use Rattle.wind_law.specs.Chains.{edge}
use Rattle.wind_law.proofs.Additive.{wind_append, wind_cut}
use Rattle.state_law.proofs.Lists.{all_append, all_first, all_second}
use Rattle.state_law.proofs.Cut.{free_cut}
use Rattle.size_field.specs.Parts.{IsPart, AreUntangled}
use Rattle.size_field.specs.Cutting.{cut_at, on_both_sides, parts}
use Rattle.size_field.proofs.Middles.{cut_is, middle_on_grid, middle_on_open}

-- what holds of the two halves of a part
pub record AreHalves (a b m : Point) : Type 0 where
  pub first : IsPart (edge a m)
  pub second : IsPart (edge m b)
  pub on_open : IsOnOpen m a b

pub halves : (bound : Point → ℕ) (a b m : Point) → IsPart (edge a b) → cut_at bound a b ≡ Some m → AreHalves a b m
halves bound a b m part cut =
    let middle = cut_is bound a b m cut in
    let open_m = middle_on_open a b m middle part.two_ends in
    let on_grid = middle_on_grid a b m middle part.on_grid.a part.on_grid.b in
    record {
      first = record { on_grid = record { a = part.on_grid.a; b = on_grid }; two_ends = λ e. open_m.not_a (sym e) };
      second = record { on_grid = record { a = on_grid; b = part.on_grid.b }; two_ends = open_m.not_b };
      on_open = open_m;
    }

-- ---- on the grid, with two ends
pub parts_parts : (bound : Point → ℕ) (n : ℕ) (a b : Point) → IsPart (edge a b) → AllByRecursion IsPart (parts bound n a b)
unfolding parts
parts_parts bound zero a b part = (part, tt)
parts_parts bound (suc n) a b part = by (λ c d h. parts_parts bound n c d h) (cut_at bound a b) refl
  where
    by : ((c d : Point) → IsPart (edge c d) → AllByRecursion IsPart (parts bound n c d)) → (o : Option Point) → cut_at bound a b ≡ o → AllByRecursion IsPart (on_both_sides (parts bound n) a b o)
    by each None e = (part, tt)
    by each (Some m) e = let two = halves bound a b m part e in all_append IsPart (parts bound n a m) (parts bound n m b) (each a m two.first) (each m b two.second)

-- ---- winding numbers
pub parts_wind : (q : RatPoint) (bound : Point → ℕ) (n : ℕ) (a b : Point) → IsRational q → IsPart (edge a b) → wind q (parts bound n a b) ≡ wind q (edge a b ∷ [])
unfolding parts
parts_wind q bound zero a b kq part = refl
parts_wind q bound (suc n) a b kq part = by (λ c d h. parts_wind q bound n c d kq h) (cut_at bound a b) refl
  where
    by : ((c d : Point) → IsPart (edge c d) → wind q (parts bound n c d) ≡ wind q (edge c d ∷ [])) → (o : Option Point) → cut_at bound a b ≡ o → wind q (on_both_sides (parts bound n) a b o) ≡ wind q (edge a b ∷ [])
    by each None e = refl
    by each (Some m) e =
        let two = halves bound a b m part e in
        wind_append q (parts bound n a m) (parts bound n m b)
        ∙ (λ i. each a m two.first i +ℤ each m b two.second i)
        ∙ sym (wind_append q (edge a m ∷ []) (edge m b ∷ []))
        ∙ wind_cut q a b m kq two.on_open

-- ---- an edge among others, cut into its pieces
untangled_cut : (before after : List Edge) (a b m : Point) → IsOnOpen m a b → AreUntangled (before ++ edge a b ∷ after) → AreUntangled (before ++ edge a m ∷ edge m b ∷ after)
untangled_cut before after a b m o u = record {
  edges = all_append IsEdge before (edge a m ∷ edge m b ∷ after) (all_first IsEdge before (edge a b ∷ after) u.edges)
      (λ i. o.not_a (sym i), (o.not_b, (all_second IsEdge before (edge a b ∷ after) u.edges).1));
  free = free_cut a b m before after o u.edges u.free;
}

pub parts_untangled : (bound : Point → ℕ) (n : ℕ) (a b : Point) (before after : List Edge) → IsPart (edge a b) → AreUntangled (before ++ edge a b ∷ after) → AreUntangled (before ++ (parts bound n a b ++ after))
unfolding parts
parts_untangled bound zero a b before after part u = u
parts_untangled bound (suc n) a b before after part u = by (λ c d before after h u. parts_untangled bound n c d before after h u) (cut_at bound a b) refl
  where
    by : ((c d : Point) (before after : List Edge) → IsPart (edge c d) → AreUntangled (before ++ edge c d ∷ after) → AreUntangled (before ++ (parts bound n c d ++ after))) → (o : Option Point) → cut_at bound a b ≡ o → AreUntangled (before ++ (on_both_sides (parts bound n) a b o ++ after))
    by each None e = u
    by each (Some m) e =
        let two = halves bound a b m part e in
        let first : AreUntangled (before ++ (parts bound n a m ++ edge m b ∷ after)) = each a m before (edge m b ∷ after) two.first (untangled_cut before after a b m two.on_open u) in
        let second : AreUntangled ((before ++ parts bound n a m) ++ (parts bound n m b ++ after)) =
        each m b (before ++ parts bound n a m) after two.second (subst AreUntangled (sym (append_assoc before (parts bound n a m) (edge m b ∷ after))) first) in
        subst AreUntangled (append_assoc before (parts bound n a m) (parts bound n m b ++ after) ∙ ap (λ (es : List Edge). before ++ es) (sym (append_assoc (parts bound n a m) (parts bound n m b) after))) second
