use Rattle.std.proofs.Common.{sym}
use Rattle.size_field.proofs.Branches.{at_branch, passed, high_first}
use Rattle.size_field.proofs.tree.Tree.+least.Goals as goal

pub returns-then-found-bound : goal.returns-then-found-bound
returns-then-found-bound t c =
    let branch = at_branch c.self.view_is c.self.invariant c.in-Some.is in
    let nearest = rw c.deref.ensures at c.nearest.ensures.nearest in
    let bound = rw c.deref-in-Some.ensures at c.size-bound.ensures in
    passed _ _ _ _ branch nearest (rw (sym bound) c.if-found-bound.true)

pub returns-then-is_high : goal.returns-then-is_high
returns-then-is_high t c =
    let branch = at_branch c.self.view_is c.self.invariant c.in-Some.is in
    let here = rw c.deref-in-Some-2.ensures at c.size.ensures in
    let near = rw c.deref-then-is_high.ensures at c.least-near.ensures in
    let far = rw c.deref-then-is_high-2.ensures at c.least.ensures in
    rw (far, near, c.min-here.ensures, here) (high_first _ _ _ branch)
