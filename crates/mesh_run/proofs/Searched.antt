-- What is remembered, and what comes next, depend on the points and the front alone.
use Rattle.std.proofs.Common.{◌≡◌, ℕ, ◌+◌, ◌<◌, ◌≤◌, ◌⊎◌, inl, inr, slice_index_or, All, List, IsSome, sym, subst, arith}
use Rattle.std.specs.List.{Contains}
use Rattle.grid_geom.specs.declared.Point.{Point}
use Rattle.digital_tree.specs.declared.Entry.{Entry}
use Rattle.size_field.specs.Size.{SizeField}
use Rattle.mesh_run.specs.declared.refusals.Refusals.{Refusals}
use Rattle.mesh_run.specs.declared.refusals.Region.{Region}
use Rattle.state_law.specs.State.{State}
use Rattle.rule_match.specs.declared.application.Application.{Application}
use Rattle.front_chain.specs.Front.{line_at}
use Rattle.rule_match.specs.declared.progress.Note.{Note}
use Rattle.rule_match.specs.Least.{HasNone}
use Rattle.mesh_run.specs.Steps.{RunSetting, IsNext, NothingApplies}
use Rattle.mesh_run.specs.Remembered.{AreReaching, AreRemembered, AreTrue, HasRegion, IsNoted, IsOfLine, IsReachOfLine}
use Rattle.mesh_run.proofs.SameState.{AreSame, same_best, same_none, same_refused}

-- what is remembered of a line that has no candidate up to a class is true
pub noted_remembered : (s : RunSetting) (st : State) (before after : List ℕ) (line class : ℕ) → AreRemembered before s st → IsNoted before after line (class + 1)
    → ((n : ℕ) → 1 ≤ n → n ≤ class → HasNone s.sizes st s.rules line n) → AreRemembered after s st
noted_remembered s st before after line class h noted none = record { none = λ other n first l. by other n first (noted.each other) l }
  where
    less : (n m : ℕ) → m ≡ class + 1 → n < m → n ≤ class
    less n m e l = omega (arith, e, l)

    by : (other n : ℕ) → 1 ≤ n → (slice_index_or after other 0 ≡ slice_index_or before other 0) ⊎ ((other ≡ line) × (slice_index_or after other 0 ≡ class + 1)) → n < slice_index_or after other 0 → HasNone s.sizes st s.rules other n
    by other n first (inl e) l = h.none other n first (subst (λ (m : ℕ). n < m) e l)
    by other n first (inr e) l = subst (λ (k : ℕ). HasNone s.sizes st s.rules k n) (sym e.0) (none n first (less n (slice_index_or after other 0) e.1 l))

-- what comes next in a state comes next in one with the same points and the same front
pub same_next : (s : RunSetting) (st other : State) (a : Application) → AreSame st other → IsNext s st a → IsNext s other a
same_next s st other a same n = record {
  first_class = n.first_class;
  last_class = n.last_class;
  best = same_best s.sizes s.rules a.line a.class st other a same n.best;
  least = λ class line first before. same_none s.sizes s.rules line class st other same (n.least class line first before);
}

-- and where nothing applies to the one, nothing does to the other
pub same_nothing : (s : RunSetting) (st other : State) → AreSame st other → NothingApplies s st → NothingApplies s other
same_nothing s st other same n = record { none = λ class line first l. same_none s.sizes s.rules line class st other same (n.none class line first l) }

-- what is remembered is true of a state with the same points and the same front
same_remembered : (s : RunSetting) (refused : List ℕ) (st other : State) → AreSame st other → AreRemembered refused s st → AreRemembered refused s other
same_remembered s refused st other same h = record { none = λ line class first l. same_none s.sizes s.rules line class st other same (h.none line class first l) }

-- so it is with an entry
same_own : (reaches : List ℕ) (sizes : SizeField) (st other : State) (e : Entry Region) → AreSame st other → other.next ≡ st.next → IsOfLine reaches sizes st e → IsOfLine reaches sizes other e
same_own reaches sizes st other e same next h = record {
  given = subst (λ (n : ℕ). e.value.line < n) (sym next) h.given;
  box = λ line c f. subst (λ (ps : List Point). IsReachOfLine reaches sizes ps line e.bounds) same.points (h.box line (subst (λ (front : List (ℕ × ℕ × ℕ)). Contains front line) (sym same.front) c) f);
}

-- so it is with the regions, and with all that is remembered
pub same_reaching : (m : Refusals) (sizes : SizeField) (st other : State) → AreSame st other → other.next ≡ st.next → AreReaching m sizes st → AreReaching m sizes other
same_reaching m sizes st other same next h = record {
  given = λ line p. subst (λ (n : ℕ). line < n) (sym next) (h.given line p);
  regions = λ line class c first l.
      subst (λ (ps : List Point). HasRegion m sizes ps line class) same.points (h.regions line class (subst (λ (front : List (ℕ × ℕ × ℕ)). Contains front line) (sym same.front) c) first l);
  own = λ e c. same_own m.reaches.items sizes st other e same next (h.own e c);
}

pub same_true : (s : RunSetting) (m : Refusals) (st other : State) → AreSame st other → other.next ≡ st.next → AreTrue m s st → AreTrue m s other
same_true s m st other same next h = record {
  remembered = same_remembered s m.least.items st other same h.remembered;
  covers = h.covers;
  reaching = same_reaching m s.sizes st other same next h.reaching;
  noted = record {
    refused = λ line class held first l has on.
        same_refused s.sizes s.rules line class st other held.items same
        (h.noted.refused line class held first l has
        (subst (λ (n : ℕ). All (λ (note : Note). note.line < n → IsSome (line_at st.front note.line)) held.items) next
        (subst (λ (front : List (ℕ × ℕ × ℕ)). All (λ (note : Note). note.line < other.next → IsSome (line_at front note.line)) held.items) (sym same.front) on)));
  };
}
