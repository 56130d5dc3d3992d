-- The sums of `Places` as numerators over one denominator: what the code computes. A row's value is its numerator over 10^8 q. The law `row_is`
-- of proofs/Rows says so.
use Rattle.std.specs.Prelude.{List, [], ◌∷◌, ℤ, pos, ◌+ℤ◌, ◌-ℤ◌, ◌*ℤ◌}
use Rattle.grid_geom.specs.declared.Point.{Point}
use Rattle.grid_geom.specs.Bounds.{IsWithin}
use Rattle.rule_reader.specs.declared.rule.MapPoint.{MapPoint}
use Rattle.rule_reader.specs.declared.rule.Term.{Term}
use Rattle.rule_reader.specs.declared.rule.Place.{Place}
use Rattle.rule_maps.specs.declared.sums.PlaceConstants.{PlaceConstants}
use Rattle.rule_maps.specs.declared.sums.TheConstants.{CONSTANT}
use Rattle.rule_maps.specs.Fractions.{nearest}
use Rattle.rule_maps.specs.Frame.{LocalFrame, way, dot, cross}
use Rattle.rule_maps.specs.Places.{mapped_at, point_at, either}

-- q times the local coordinate of a term's mapped point
abbrev pub seen_at : LocalFrame → List Point → Term → ℤ
seen_at f mapped t = either t.of_y (dot f.e (way f.p1 (mapped_at mapped t.point)))
    (cross f.e (way f.p1 (mapped_at mapped t.point)))

-- its coordinate in the rule
abbrev pub rest_at : List MapPoint → Term → ℤ
rest_at points t = either t.of_y (point_at points t.point).x (point_at points t.point).y

-- what depends on where the mapped points are
abbrev pub moving : LocalFrame → List Point → List Term → ℤ
moving f mapped [] = pos 0
moving f mapped (t ∷ ts) = t.coefficient *ℤ seen_at f mapped t +ℤ moving f mapped ts

-- what doesn't
abbrev pub resting : List MapPoint → List Term → ℤ
resting points [] = pos 0
resting points (t ∷ ts) = t.coefficient *ℤ rest_at points t +ℤ resting points ts

abbrev pub constant : List MapPoint → ℤ → List Term → ℤ
constant points x0 row = pos 10000 *ℤ x0 -ℤ resting points row

abbrev pub constants_of : List MapPoint → Place → PlaceConstants
constants_of points p = record { x = constant points p.x p.row_x; y = constant points p.y p.row_y }

-- a row's numerator over 10^8 q, from its constant
abbrev pub numerator : LocalFrame → List Point → ℤ → List Term → ℤ
numerator f mapped constant row = constant *ℤ f.q +ℤ pos 10000 *ℤ moving f mapped row

-- constants as those of a rule within the limits
pub record IsSmall (c : PlaceConstants) : Type 0 where
  pub x : IsWithin CONSTANT c.x
  pub y : IsWithin CONSTANT c.y

-- the place of the local place (u, v) over d q
abbrev pub put_at : LocalFrame → ℤ → ℤ → ℤ → Point
put_at f u v d =
    record {
      x = f.p1.x +ℤ nearest (record { top = u *ℤ f.e.x -ℤ v *ℤ f.e.y; bottom = d *ℤ dot f.e f.e });
      y = f.p1.y +ℤ nearest (record { top = u *ℤ f.e.y +ℤ v *ℤ f.e.x; bottom = d *ℤ dot f.e f.e });
    }
