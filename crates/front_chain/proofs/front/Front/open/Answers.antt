use mir.Val.{SFits}
use mir.Syntax.{w128}
use Rattle.std.proofs.Common.{◌∙◌, sym, ap, subst, not, filter, nat_eq, map, length}
use Rattle.std.proofs.lemmas.Int.{to_z-of_z}
use Rattle.std.specs.List.{AllByRecursion, list_any}
use Rattle.grid_geom.specs.Area.{shoelace}
use Rattle.state_law.specs.Free.{AreAlike, AreFreeOf}
use Rattle.state_law.specs.State.{IsListed, pair_edge, front_edges}
use Rattle.state_law.proofs.Region.{region_front}
use Rattle.front_chain.specs.Front.{IsWalk}
use Rattle.front_chain.proofs.Kept.{front_as, front_opened, opened, opening_ends, edges_opened}
use Rattle.front_chain.proofs.front.Front.open.Goals as goal

pub join_lines-requires-clause-listed : goal.join_lines-requires-clause-listed
join_lines-requires-clause-listed c = subst (λ ps. AllByRecursion (λ ends. IsListed (length ps) ends.0 × IsListed (length ps) ends.1) c.args.lines.now) (sym c.list_points.ensures.points) (opening_ends c.args.points.now 1 c.args.lines.now c.requires.numbered.lines_listed)

pub join_lines-requires-clause-single : goal.join_lines-requires-clause-single
join_lines-requires-clause-single c = subst (λ ps. AreFreeOf AreAlike (map (pair_edge ps) c.args.lines.now)) (sym c.list_points.ensures.points) (region_front (map (pair_edge c.args.points.now) c.args.lines.now) c.requires.region).single

pub swept_area-area-requires-clause-listed : goal.swept_area-area-requires-clause-listed
swept_area-area-requires-clause-listed c = opening_ends c.args.points.now 1 c.args.lines.now c.requires.numbered.lines_listed

pub invariant_of-result : goal.invariant_of-result
invariant_of-result c =
    let new = c.use_starts.new.self in
    let points = c.use_starts.ensures.points ∙ c.join_lines.ensures.points ∙ c.list_points.ensures.points in
    let lines = c.use_starts.ensures.lines ∙ c.join_lines.ensures.lines in
    let next = c.use_starts.ensures.next ∙ c.join_lines.ensures.next in
    let numbers = c.join_lines.ensures.waiting ∙ c.list_points.ensures.waiting in
    let waiting = c.use_starts.ensures.waiting ∙ (λ i. filter (λ n. not (list_any (λ line. nat_eq line.1 n) (c.join_lines.ensures.lines i))) (numbers i)) in
    let walked = subst (IsWalk new.walk) lines c.use_starts.ensures.walked in
    let swept : SFits w128 c.swept_area-area.result = record { sfits = c.swept_area-area.type_inv } in (
      front_as (opened c.args.points.now c.args.lines.now new.walk) new (sym points) (sym lines) (sym next) (λ i. new.walk) (sym waiting) (front_opened c.args.points.now c.args.lines.now new.walk c.requires walked),
      simp to_z-of_z (c.swept_area-area.ensures ∙ ap shoelace (sym (edges_opened c.args.points.now 1 c.args.lines.now)) ∙ sym (λ i. shoelace (front_edges (points i) (lines i)))),
    )

pub returns-clause-waiting : goal.returns-clause-waiting
returns-clause-waiting c =
    let numbers = c.join_lines.ensures.waiting ∙ c.list_points.ensures.waiting in
    c.use_starts.ensures.waiting ∙ (λ i. filter (λ n. not (list_any (λ line. nat_eq line.1 n) (sym c.use_starts.ensures.lines i))) (numbers i))
