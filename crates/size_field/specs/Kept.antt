-- What sizes keep of their field and of the tree of its sources.
use Rattle.std.specs.Prelude.{◌≡◌, List, All}
use Rattle.grid_geom.specs.declared.Point.{Point}
use Rattle.geom_check.specs.declared.kinds.Source.{Source}
use Rattle.geom_check.specs.Geometry.{IsSource}
use Rattle.size_field.specs.Size.{SizeField, least_size, size_at, AreLimits}

-- the field's numbers are in their ranges, and the sources of the tree leave the sizes of the field
pub record AreKept (field : SizeField) (tree : List Source) : Type 0 where
  pub limits : AreLimits field.greatest field.grading
  pub sources : All IsSource field.sources
  pub alike : (q : Point) → least_size field.grading q field.greatest tree ≡ size_at field q
