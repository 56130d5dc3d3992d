use Rattle.std.proofs.Common.{◌∙◌, ◌+◌, ◌++◌, ◌∷◌, [], sym, ap, length}
use Rattle.grid_geom.specs.Area.{shoelace}
use Rattle.state_law.specs.State.{front_edges}
use Rattle.front_chain.specs.Front.{number_of}
use Rattle.front_chain.proofs.Kept.{front_as, front_listed, edges_old}
use Rattle.front_chain.proofs.front.Front.add_point.Goals as goal

pub invariant_of-self : goal.invariant_of-self
invariant_of-self c =
    let f = c.self.inside.chain in
    let p = c.args.p in
    let e = c.add_point.ensures in
    let new = ap (λ v. number_of v.points p) c.self.view_is ∙ c.requires.new_place in (
      front_as (record f { points = f.points ++ p ∷ []; waiting = f.waiting ++ (length f.points + 1) ∷ [] }) c.add_point.new.self (sym e.points) (sym e.lines) (sym e.next) (sym e.walk) (sym (e.waiting ∙ ap (λ n. f.waiting ++ n ∷ []) e.number))
          (front_listed f p c.self.invariant.0 c.requires.on_grid new),
      c.self.invariant.1 ∙ sym ((λ i. shoelace (front_edges (e.points i) (e.lines i))) ∙ ap shoelace (edges_old f.points p f.lines c.self.invariant.0.numbered.lines_listed)),
    )
