use Rattle.std.proofs.Common.{◌+◌, ◌∙◌, sym, ap, ℕ}
use Rattle.mesh_run.proofs.SamePoints.{place_equal, some_place, no_place}
use Rattle.mesh_run.proofs.numbering.Numbering.number_of.Goals as goal

pub returns-in-Some : goal.returns-in-Some
returns-in-Some c =
    let keys = c.self.inside.points.keys in
    let found = some_place _ keys c.in-Some.index (sym c.in-Some.ensures.index) in
    rw (← c.self.view_is) (ap (λ (n : ℕ). n + 1) (sym (place_equal c.args.point keys ∙ found)))

pub returns-in-None : goal.returns-in-None
returns-in-None c =
    let keys = c.self.inside.points.keys in
    let none = no_place _ keys (sym c.in-None.ensures.index) in
    rw (← c.self.view_is) (ap (λ (n : ℕ). n + 1) (c.len-count.ensures.len ∙ sym (place_equal c.args.point keys ∙ none)))
