use Rattle.std.proofs.Common.{◌≡◌, List, All, filter, sym, subst, ◌∙◌}
use Rattle.std.proofs.lemmas.List.Elements.{All-from_recursion}
use Rattle.grid_geom.specs.declared.Edge.{Edge}
use Rattle.digital_tree.specs.declared.Entry.{Entry}
use Rattle.digital_tree.specs.Entries.{is_hit}
use Rattle.mesh_check.specs.Near.{box_at, IsEdgeEntry, IsFreeOf}
use Rattle.mesh_check.proofs.Kept.{onto_none, all_hits, free_by_hits}
use Rattle.mesh_check.proofs.tight.is_free.Goals as goal

picked : (c : goal.After-deref) → c.deref.result.now ≡ filter (is_hit (box_at c.args.place)) c.args.tree.now.entries
picked c = c.deref.ensures.value ∙ onto_none c.push_hits.new.hits.items c.new-hits.result.items (filter (is_hit (box_at c.args.place)) c.args.tree.now.entries) (rw c.box_at.ensures at c.in_ok-push_hits.ensures.all) c.new-hits.ensures.items

pub is_free_of-requires-clause-hits : goal.is_free_of-requires-clause-hits
is_free_of-requires-clause-hits c = subst (All IsEdgeEntry) (sym (picked c)) (All-from_recursion IsEdgeEntry _ (all_hits (is_hit (box_at c.args.place)) IsEdgeEntry c.args.tree.now.entries c.requires.each))

pub returns : goal.returns
returns c = λ t. free_by_hits c.args.place c.args.tree.now.entries c.requires.each (subst (λ (es : List (Entry Edge)). IsFreeOf es c.args.place) (picked c.before.before) (c.is_free_of.ensures t))
