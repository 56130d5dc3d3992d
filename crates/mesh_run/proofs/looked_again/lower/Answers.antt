use Rattle.std.proofs.Common.{◌≡◌, ℕ, ◌<◌, ◌≤◌, ◌∙◌, List, slice_index_or, ap, inl, refl, subst}
use Rattle.digital_tree.specs.declared.Entry.{Entry}
use Rattle.mesh_run.specs.declared.refusals.Region.{Region}
use Rattle.mesh_run.proofs.Forgotten.{level, lowered, lowered_there, others_kept}
use Rattle.mesh_run.proofs.LookedAt.{apart_pairs}
use Rattle.mesh_run.proofs.looked_again.lower.Goals as goal

pub returns-then-class-noted_at-clause-lowered : goal.returns-then-class-noted_at-clause-lowered
returns-then-class-noted_at-clause-lowered c =
    let least = c.args.refusals.now.least.items in let line = c.args.turn.1 in let class = c.args.turn.0 in
    let above : class < slice_index_or least line 0 = subst (λ (n : ℕ). class < n) (c.noted_at.ensures ∙ ap (λ (ns : List ℕ). slice_index_or ns line 0) c.as_slice.ensures.value) c.if-class-noted_at.true in
    record {
      reaches = refl {A = List ℕ};
      regions = refl {A = List (Entry Region)};
      less = lowered least line class above;
      lowered = lowered_there least line class above;
      kept = others_kept least line class;
      pairs = λ other k l. c.drop_notes.ensures other k (apart_pairs _ line class (lowered_there least line class above) other k l);
    }

pub returns-else-class-noted_at-clause-lowered : goal.returns-else-class-noted_at-clause-lowered
returns-else-class-noted_at-clause-lowered c =
    let least = c.args.refusals.now.least.items in let line = c.args.turn.1 in let class = c.args.turn.0 in
    let under : slice_index_or least line 0 ≤ class = subst (λ (n : ℕ). n ≤ class) (c.noted_at.ensures ∙ ap (λ (ns : List ℕ). slice_index_or ns line 0) c.as_slice.ensures.value) c.if-class-noted_at.false in
    record {
      reaches = refl {A = List ℕ};
      regions = refl {A = List (Entry Region)};
      less = λ other. level (slice_index_or least other 0);
      lowered = under;
      kept = λ other. inl refl;
      pairs = λ other k l. c.drop_notes.ensures other k (apart_pairs least line class under other k l);
    }
