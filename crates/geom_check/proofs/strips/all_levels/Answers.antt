use Rattle.std.proofs.Common.{arith, ℕ, ◌∙◌, ap, sym, subst, List, ◌++◌, ◌∷◌, []}
use Rattle.geom_check.specs.RiserOrder.{IsLevelsOf}
use Rattle.geom_check.proofs.LevelLists.{levels_more, levels_none}
use Rattle.geom_check.proofs.strips.all_levels.Goals as goal

pub loop-edge-init : goal.loop-edge-init
loop-edge-init c = subst (λ (ns : List ℕ). IsLevelsOf c.args.edges.now 0 ns) (sym c.in_ok-levels.ensures.items) (levels_none c.args.edges.now)

pub loop-edge-preserved : goal.loop-edge-preserved
loop-edge-preserved c = levels_more c.args.edges.now c.loop-edge.edge-index _ c.level.result c.level-in-loop-edge.result c.loop-edge.levels.items c.push-in-loop-edge.new.self.items (omega arith) c.level.ensures.value c.level-in-loop-edge.ensures.value c.level.ensures.small c.level-in-loop-edge.ensures.small
    (c.in_ok-push-2.ensures.items ∙ ap (λ (ns : List ℕ). ns ++ c.level-in-loop-edge.result ∷ []) c.in_ok-push.ensures.items) c.loop-edge.invariant
