use Rattle.std.proofs.Common.{ℕ, List, ◌++◌, ◌∙◌, ap, filter, subst}
use Rattle.grid_geom.specs.Boxes.{DoBoundsMeet}
use Rattle.grid_geom.specs.declared.Bounds.{Bounds}
use Rattle.grid_geom.specs.declared.Point.{Point}
use Rattle.digital_tree.specs.declared.Entry.{Entry}
use Rattle.digital_tree.specs.Entries.{is_hit}
use Rattle.rule_match.specs.Near.{whole_grid}
use Rattle.mesh_run.specs.declared.refusals.Region.{Region}
use Rattle.mesh_run.specs.Remembered.{HoldsCorners, IsWider}
use Rattle.mesh_run.proofs.touched.hits_near.Goals as goal

-- what the area holds, and that each box that holds this is wider
abbrev IsLeastBox : Bounds → List Point → List (List ℕ) → Type 0
IsLeastBox area points elements = HoldsCorners points elements area × ((other : Bounds) → DoBoundsMeet other whole_grid → HoldsCorners points elements other → IsWider area other)

pub returns : goal.returns
returns c =
    let area = c.area_of-area.result in let points = c.args.front.now.points in
    let box : IsLeastBox area (points ++ c.args.application.now.made) c.args.application.now.elements =
    subst (λ (els : List (List ℕ)). IsLeastBox area (points ++ c.args.application.now.made) els) c.as_slice-elements.ensures
    (subst (λ (made : List Point). IsLeastBox area (points ++ made) c.as_slice-elements.result.now) c.as_slice-made.ensures (c.area_of-area.ensures.holds, c.area_of-area.ensures.least)) in
    record {
      area = area;
      holds = box.0;
      on_grid = c.area_of-area.ensures.on_grid;
      least = box.1;
      different = c.get-none.ensures.different;
      hits_are = c.in_ok-push_hits.ensures.all ∙ ap (λ (es : List (Entry Region)). es ++ filter (is_hit area) c.args.refusals.now.regions.entries) c.new-hits.ensures.items;
    }
