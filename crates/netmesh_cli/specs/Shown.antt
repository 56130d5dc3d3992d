-- What the verb `geom` writes of a geometry.
use Rattle.std.specs.Prelude.{ℕ, ℤ, List, ◌++◌, codes}
use Rattle.std.specs.List.{flat_map}
use Rattle.std.specs.Fmt.{decimal, signed_decimal}
use Rattle.grid_geom.specs.Area.{shoelace}
use Rattle.in2d_reader.specs.declared.geometry.RawGeometry.{RawGeometry}
use Rattle.in2d_reader.specs.Normal.{normal_text}
use Rattle.geom_check.specs.declared.kinds.Domain.{Domain}
use Rattle.geom_check.specs.Boundary.{boundary}
use Rattle.geom_check.specs.Geometry.{PlanarMap}

-- twice the area of a domain, in square grid steps
abbrev pub double_area : PlanarMap → ℕ → ℤ
double_area g domain = shoelace (boundary g.points domain g.segments)

-- the line of the shift
abbrev pub shift_line : PlanarMap → List ℕ
shift_line g = codes "# shift " ++ signed_decimal g.shift ++ codes "\n"

-- the line of a domain
abbrev pub domain_line : PlanarMap → Domain → List ℕ
domain_line g d =
    codes "# domain " ++ decimal d.number
    ++ codes " area " ++ signed_decimal (double_area g d.number) ++ codes "\n"

-- the normal text, and as comments the shift and the area of each domain
abbrev pub shown_text : RawGeometry → PlanarMap → List ℕ
shown_text raw g = normal_text raw ++ shift_line g ++ flat_map (domain_line g) g.domains
