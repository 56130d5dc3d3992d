use Rattle.std.proofs.Common.{◌≡◌, ◌++◌, take}
use Rattle.std.specs.Prelude.{string_bytes}
use Rattle.std.specs.List.{flat_map}
use Rattle.netmesh_cli.specs.Shown.{domain_line}
use Rattle.netmesh_cli.proofs.geom.write_domains.Given as goal

abbrev pub invariant-loop-domain : goal.invariant-loop-domain
invariant-loop-domain l = string_bytes l.text ≡ string_bytes l.initial.text ++ flat_map (domain_line l.geometry) (take l.domain-index l.domains)
