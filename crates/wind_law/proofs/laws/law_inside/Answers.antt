use Rattle.wind_law.proofs.Inside.{alike_inside, inside_polygon, inside_triangle}
use Rattle.wind_law.proofs.laws.law_inside.Goals as goal

pub returns : goal.returns
returns c = record { alike = alike_inside; polygon = inside_polygon; triangle = inside_triangle }
