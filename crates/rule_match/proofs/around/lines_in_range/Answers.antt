use Rattle.std.proofs.Common.{subst, sym, arith}
use Rattle.std.specs.List.{All}
use Rattle.state_law.specs.State.{point_at}
use Rattle.front_chain.specs.Front.{state_of}
use Rattle.rule_match.specs.Around.{IsStartNear}
use Rattle.rule_match.proofs.around.lines_in_range.Goals as goal

pub returns-clause-only : goal.returns-clause-only
returns-clause-only c = c.in_ok-add_lines.ensures.more.only
    (subst (All (IsStartNear (state_of c.args.front.now) c.args.frame.now)) (sym c.new-lines.ensures.items) (λ k d h. absurd (omega (arith, h))))

pub returns-clause-all : goal.returns-clause-all
returns-clause-all c = λ n b pair r. c.in_ok-add_lines.ensures.all n (c.range_box.ensures (point_at c.args.front.now.points n) r) b pair r
