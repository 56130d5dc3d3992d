use Rattle.std.proofs.Common.{◌≡◌, ◌∙◌, sym, length, Some}
use Rattle.state_law.specs.State.{IsListed}
use Rattle.front_chain.specs.Front.{line_at}
use Rattle.admission.proofs.Ahead.{next_ahead, line_fact, line_edge_at}
use Rattle.admission.proofs.near.line_of.Goals as goal
use Rattle.admission.proofs.near.line_of.Goals.{After-unwrap-from}

there : (c : After-unwrap-from) → line_at c.args.front.now.lines c.args.n ≡ Some c.unwrap-from.result
there c = sym c.line.ensures ∙ c.unwrap-from.ensures

listed : (c : After-unwrap-from) → IsListed (length c.args.front.now.points) c.unwrap-from.result.0 × IsListed (length c.args.front.now.points) c.unwrap-from.result.1
listed c = line_fact (λ s. IsListed (length c.args.front.now.points) s.0 × IsListed (length c.args.front.now.points) s.1) c.args.front.now.lines c.args.n c.unwrap-from.result c.points-points.ensures.holds.numbered.lines_listed (there c)

pub point-requires : goal.point-requires
point-requires c = (listed c).0

pub point-requires-2 : goal.point-requires-2
point-requires-2 c = (line_fact (λ s. IsListed (length c.args.front.now.points) s.0 × IsListed (length c.args.front.now.points) s.1) c.args.front.now.lines c.args.n c.unwrap-from.result c.points-points.ensures.holds.numbered.lines_listed (sym c.line.ensures ∙ c.unwrap-from.ensures)).1

pub returns-clause-first : goal.returns-clause-first
returns-clause-first c = next_ahead c.args.front.now.lines c.args.front.now.next c.args.n c.unwrap-from.result c.points-points.ensures.holds.rising (sym c.line.ensures ∙ c.unwrap-from.ensures)

pub returns-clause-on_grid : goal.returns-clause-on_grid
returns-clause-on_grid c =
    let e = line_edge_at c.args.front.now.points c.args.front.now.lines c.args.n c.unwrap-from.result c.points-points.ensures.holds.region.edges (sym c.line.ensures ∙ c.unwrap-from.ensures) in
    record {
      a = c.point.ensures.on_grid;
      b = c.point-2.ensures.on_grid;
      different = λ i. e (sym c.point.ensures.value ∙ i ∙ c.point-2.ensures.value);
    }
