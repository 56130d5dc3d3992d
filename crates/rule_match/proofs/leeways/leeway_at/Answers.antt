use Rattle.std.proofs.Common.{◌≤◌, subst, sym}
use Rattle.rule_maps.specs.declared.reach.Leeway.{Leeway}
use Rattle.rule_match.specs.Leeways.{IsLeewayAt}
use Rattle.rule_match.proofs.Tolerated.{IsBeyond, leeway_in_range_at, leeway_of_ellipse}
use Rattle.rule_match.proofs.leeways.leeway_at.Goals as goal

pub returns-in-None : goal.returns-in-None
returns-in-None c = subst (IsLeewayAt c.args.class c.args.point.now) (sym c.leeway_in_range-ranged.ensures) (leeway_in_range_at c.args.class c.args.point.now)

pub returns-in-Some : goal.returns-in-Some
returns-in-Some c = let e = c.in-Some.e in let ranged = c.leeway_in_range-ranged.ensures in
    leeway_of_ellipse c.args.class c.args.point.now e c.in-Some.ensures (record { along = c.extent_of.result; left = c.extent_of-in-Some.result })
    (record {
      along = subst (λ (v : Leeway). c.extent_of.result ≤ v.along) ranged c.extent_of.ensures.no_greater;
      left = subst (λ (v : Leeway). c.extent_of-in-Some.result ≤ v.left) ranged c.extent_of-in-Some.ensures.no_greater;
    })
    (subst (λ (v : Leeway). IsBeyond e.f3 c.args.class e.determinant v.along c.extent_of.result) ranged c.extent_of.ensures.beyond)
    (subst (λ (v : Leeway). IsBeyond e.f1 c.args.class e.determinant v.left c.extent_of-in-Some.result) ranged c.extent_of-in-Some.ensures.beyond)
