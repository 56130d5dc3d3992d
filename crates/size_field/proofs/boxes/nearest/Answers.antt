use Rattle.std.proofs.Common.{◌≡◌, ◌≤◌, ℕ, max, arith, to_z, of_z, w64}
use Rattle.size_field.proofs.Spans.{near, near_is, near_within, near_least}
use Rattle.size_field.proofs.boxes.nearest.Goals as goal
use Rattle.size_field.proofs.boxes.nearest.Goals.{After-min-2}

x_is : (c : After-min-2) → to_z w64 (of_z w64 c.min.result) ≡ near c.args.bounds.now.lo.x c.args.bounds.now.hi.x c.args.to.now.x
x_is c = near_is _ _ _ _ _ c.requires.bounds.lo.x_within c.requires.bounds.hi.x_within c.requires.to.x_within c.max.ensures.value c.min.ensures.value

y_is : (c : After-min-2) → to_z w64 (of_z w64 c.min-2.result) ≡ near c.args.bounds.now.lo.y c.args.bounds.now.hi.y c.args.to.now.y
y_is c = near_is _ _ _ _ _ c.requires.bounds.lo.y_within c.requires.bounds.hi.y_within c.requires.to.y_within c.max-2.ensures.value c.min-2.ensures.value

pub returns-clause-on_grid : goal.returns-clause-on_grid
returns-clause-on_grid c = record {
  x_within = rw (x_is c) (near_within _ _ _ c.requires.bounds.lo.x_within c.requires.bounds.hi.x_within c.requires.to.x_within);
  y_within = rw (y_is c) (near_within _ _ _ c.requires.bounds.lo.y_within c.requires.bounds.hi.y_within c.requires.to.y_within);
}

larger : (a b x y : ℕ) → a ≤ x → b ≤ y → max a b ≤ max x y
larger a b x y h k = omega arith

pub returns-clause-nearest : goal.returns-clause-nearest
returns-clause-nearest c = λ p h. rw (x_is c, y_is c) (larger _ _ _ _
    (near_least c.args.bounds.now.lo.x c.args.bounds.now.hi.x c.args.to.now.x p.x h.left h.right)
    (near_least c.args.bounds.now.lo.y c.args.bounds.now.hi.y c.args.to.now.y p.y h.below h.above))
