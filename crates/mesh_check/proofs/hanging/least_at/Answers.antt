use Rattle.std.proofs.Common.{◌≡◌, ℕ, List, All, filter, sym, subst, ◌∙◌}
use Rattle.std.proofs.lemmas.List.Elements.{All-from_recursion}
use Rattle.grid_geom.specs.Polygon.{sides}
use Rattle.digital_tree.specs.declared.Entry.{Entry}
use Rattle.digital_tree.specs.Entries.{is_hit}
use Rattle.mesh_check.specs.Least.{IsLeastNumber}
use Rattle.mesh_check.specs.Near.{IsPlaced}
use Rattle.mesh_check.specs.Hung.{IsMetIn}
use Rattle.mesh_check.proofs.Kept.{onto_none, all_hits}
use Rattle.mesh_check.proofs.OpenSides.{met_by_hits}
use Rattle.mesh_check.proofs.hanging.least_at.Goals as goal

picked : (c : goal.After-deref) → c.deref.result.now ≡ filter (is_hit c.box_of.result) c.args.tree.now.entries
picked c = c.deref.ensures.value ∙ onto_none c.push_hits.new.hits.items c.new-hits.result.items _ c.in_ok-push_hits.ensures.all c.new-hits.ensures.items

pub least_in-requires-clause-hits : goal.least_in-requires-clause-hits
least_in-requires-clause-hits c = subst (All IsPlaced) (sym (picked c)) (All-from_recursion IsPlaced _ (all_hits (is_hit c.box_of.result) IsPlaced c.args.tree.now.entries c.requires.placed))

pub returns : goal.returns
returns c = met_by_hits c.box_of.result c.args.tree.now.entries c.args.corners.now c.least_in.result c.requires.placed c.box_of.ensures
    (subst (λ (es : List (Entry ℕ)). IsLeastNumber (IsMetIn es (sides c.args.corners.now)) c.least_in.result) (picked c.before.before) c.least_in.ensures)
