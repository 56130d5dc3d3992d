use Rattle.std.proofs.Common.{◌≡◌, take}
use Rattle.std.specs.List.{All}
use Rattle.grid_geom.specs.Bounds.{IsOnGrid}
use Rattle.rule_maps.specs.Places.{mapping}
use Rattle.rule_match.specs.Candidate.{made_of}
use Rattle.rule_match.proofs.making.made_points.Given as goal

abbrev pub invariant-loop-k : goal.invariant-loop-k
invariant-loop-k l = (l.made ≡ take l.k (made_of (mapping l.frame l.rule l.mapped))) × All IsOnGrid l.made
