use Rattle.std.proofs.Common.{◌≡◌, ℕ, ◌⊎◌, All, Contains, List, [], ◌∷◌, ◌++◌, ◌+◌, ◌<◌, slice_index_or, sym, ap, ◌∙◌, subst}
use Rattle.digital_tree.specs.declared.Entry.{Entry}
use Rattle.rule_match.specs.declared.application.Application.{Application}
use Rattle.mesh_run.specs.declared.refusals.Region.{Region}
use Rattle.digital_tree.specs.Entries.{AreDifferent}
use Rattle.front_chain.specs.Front.{state_of}
use Rattle.admission.proofs.Order.{same_points}
use Rattle.mesh_run.specs.declared.refusals.Refusals.{Refusals}
use Rattle.mesh_run.specs.Kept.{DoNotesStand, IsLookedAgain, WereRefused}
use Rattle.mesh_run.specs.Remembered.{HasEntryOf, IsForgottenNear}
use Rattle.mesh_run.specs.Worklist.{AreTriedAgain}
use Rattle.mesh_run.proofs.LookedAt.{all_were, hits_there, near_looked, near_same, rules_of}
use Rattle.mesh_run.proofs.Noted.{fewer_true}
use Rattle.mesh_run.proofs.SameState.{AreSame}
use Rattle.mesh_run.proofs.Searched.{same_next, same_true}
use Rattle.mesh_run.specs.declared.run.Run.TheInside.{Inside}
use Rattle.mesh_run.specs.Steps.{IsNext, applied, with_points}
use Rattle.mesh_run.specs.RunState.{RunState, RunParts, setting_by, run_of, run_after, area_left}
use Rattle.mesh_run.specs.Trials.{IsPaid, RunView, due}
use Rattle.mesh_run.proofs.GoesOn.{IsPushed, may_be_put, put_run, some_elements, area_falls}
use Rattle.mesh_run.proofs.Paid.{base_there, run_paid}
use Rattle.mesh_run.proofs.StillRemembered.{remembers_after}
use Rattle.mesh_run.proofs.run.Run.apply.Goals as goal
use Rattle.mesh_run.proofs.run.Run.apply.Goals.{After-drop-hits}

abbrev parts : Inside → RunParts
parts r = record {
  domain = r.domain;
  options = r.options;
  sizes = r.sizes;
  rules = r.rules.now;
  opened = r.opened;
  lines = r.lines;
  front = r.front;
  applications = r.applications.items;
}

pub put-requires-clause-may : goal.put-requires-clause-may
put-requires-clause-may c =
    let r = c.self.inside in let reserved = c.reserve-2.ensures in
    let next = subst (λ (s : RunState). IsNext (setting_by s.basis) s.state c.args.application) (sym (ap (λ (v : RunView). v.run) c.self.view_is)) c.requires.next in
    may_be_put r.sizes r.rules.now (run_of (parts r)).state c.reserve-2.new.self c.args.application c.get.result.now c.lines-lines.ensures.holds
    (record { points = sym reserved.points; front = sym reserved.lines }) c.rule-rule.ensures.rule c.get.ensures next.best

pub hits_near-requires : goal.hits_near-requires
hits_near-requires c =
    let r = c.self.inside in let reserved = c.reserve-2.ensures in
    let next = subst (λ (s : RunState). IsNext (setting_by s.basis) s.state c.args.application) (sym (ap (λ (v : RunView). v.run) c.self.view_is)) c.requires.next in
    (may_be_put r.sizes r.rules.now (run_of (parts r)).state c.reserve-2.new.self c.args.application c.get.result.now c.lines-lines.ensures.holds
    (record { points = sym reserved.points; front = sym reserved.lines }) c.rule-rule.ensures.rule c.get.ensures next.best).listed

pushed : (c : After-drop-hits) → IsPushed (parts c.self.inside) c.args.application c.reserve-2.new.self c.put.new.front c.push_reserved.new.self.items
pushed c = record {
  equal = record { points = c.reserve-2.ensures.points; lines = c.reserve-2.ensures.lines; next = c.reserve-2.ensures.next };
  put = record { points = c.put.ensures.points; lines = c.put.ensures.lines; next = c.put.ensures.next };
  pushed = c.push_reserved.ensures.items ∙ ap (λ (items : List Application). items ++ c.args.application ∷ []) c.reserve.ensures.items;
}

-- what is remembered before the application, without notes that hold no more
abbrev before : (c : After-drop-hits) → Refusals
before c = record c.self.inside.refusals { notes = c.drop_stale.new.notes }

same_later : (c : After-drop-hits) → AreSame (state_of c.put.new.front) (applied (state_of c.reserve-2.new.self) c.args.application)
same_later c = record { points = c.put.ensures.points ∙ sym (same_points (with_points (state_of c.reserve-2.new.self) c.args.application.made) c.args.application.elements); front = c.put.ensures.lines }

forgotten : (c : After-drop-hits)
    → IsForgottenNear (setting_by (run_of (parts c.self.inside)).basis) (applied (state_of c.reserve-2.new.self) c.args.application) (c.reserve-2.new.self.points ++ c.args.application.made) c.args.application.elements (before c) c.drop_forgotten.new.refusals
forgotten c =
    let s = setting_by (run_of (parts c.self.inside)).basis in let points = c.reserve-2.new.self.points ++ c.args.application.made in
    near_same s (state_of c.put.new.front) (applied (state_of c.reserve-2.new.self) c.args.application) (same_later c) points c.args.application.elements (before c) c.drop_forgotten.new.refusals
    (near_looked s (state_of c.put.new.front) points c.args.application.elements c.in_ok-hits.hits.items (before c) c.look_at_all.new.refusals c.drop_forgotten.new.refusals c.in_ok-hits.ensures c.look_at_all.ensures.held
    (subst (λ (hits : List (Entry Region)). (line : ℕ) → (slice_index_or c.look_at_all.new.refusals.least.items line 0 ≡ slice_index_or c.self.inside.refusals.least.items line 0) ⊎ HasEntryOf hits line) c.as_slice-2.ensures.value c.look_at_all.ensures.kept)
    (subst (All (λ (e : Entry Region). IsLookedAgain c.look_at_all.new.refusals s (state_of c.put.new.front) e.value)) c.as_slice-2.ensures.value c.look_at_all.ensures.looked) c.drop_forgotten.ensures)

pub invariant_of-self-2 : goal.invariant_of-self-2
invariant_of-self-2 c =
    let r = c.self.inside in let reserved = c.reserve-2.ensures in
    let next = subst (λ (s : RunState). IsNext (setting_by s.basis) s.state c.args.application) (sym (ap (λ (v : RunView). v.run) c.self.view_is)) c.requires.next in
    let may = may_be_put r.sizes r.rules.now (run_of (parts r)).state c.reserve-2.new.self c.args.application c.get.result.now c.lines-lines.ensures.holds
    (record { points = sym reserved.points; front = sym reserved.lines }) c.rule-rule.ensures.rule c.get.ensures next.best in
    let again : AreTriedAgain (record { least = r.refusals.least.items; work = c.put.new.work }) (record { least = c.drop_forgotten.new.refusals.least.items; work = c.look_at_all.new.work }) =
    subst (λ (least : List ℕ). AreTriedAgain (record { least = r.refusals.least.items; work = c.put.new.work }) (record { least = least; work = c.look_at_all.new.work })) (sym c.drop_forgotten.ensures.least) c.look_at_all.ensures.again in
    remembers_after (parts r) c.args.application c.reserve-2.new.self c.put.new.front c.push_reserved.new.self.items (before c) c.drop_forgotten.new.refusals r.work c.put.new.work c.look_at_all.new.work
    (record { is_run = c.self.invariant.is_run; remembered = fewer_true (setting_by (run_of (parts r)).basis) (run_of (parts r)).state r.refusals c.drop_stale.new.notes c.drop_stale.ensures.fewer c.self.invariant.remembered; to_try = c.self.invariant.to_try })
    next c.lines-lines.ensures.holds may (pushed c) (forgotten c) c.put.ensures.tried again

-- the rules are as a reader gives them, and there is a reach for each class up to 16
pub look_at_all-requires-clause-rules : goal.look_at_all-requires-clause-rules
look_at_all-requires-clause-rules c = rules_of c.self.inside.refusals (setting_by (run_of (parts c.self.inside)).basis) c.self.invariant.remembered.covers

pub look_at_all-requires-clause-reaches : goal.look_at_all-requires-clause-reaches
look_at_all-requires-clause-reaches c = c.self.invariant.remembered.covers.long

pub look_at_all-requires-clause-were : goal.look_at_all-requires-clause-were
look_at_all-requires-clause-were c =
    let r = c.self.inside in let reserved = c.reserve-2.ensures in let s = setting_by (run_of (parts r)).basis in let st = (run_of (parts r)).state in let same = state_of c.reserve-2.new.self in
    let m : Refusals = record r.refusals { notes = c.drop_stale.new.notes } in
    let alike : AreSame st same = record { points = sym reserved.points; front = sym reserved.lines } in
    let next = subst (λ (s : RunState). IsNext (setting_by s.basis) s.state c.args.application) (sym (ap (λ (v : RunView). v.run) c.self.view_is)) c.requires.next in
    let may = may_be_put r.sizes r.rules.now st c.reserve-2.new.self c.args.application c.get.result.now c.lines-lines.ensures.holds alike c.rule-rule.ensures.rule c.get.ensures next.best in
    let after : AreSame (applied same c.args.application) (state_of c.put.new.front) =
    record { points = same_points (with_points same c.args.application.made) c.args.application.elements ∙ sym c.put.ensures.points; front = sym c.put.ensures.lines } in
    subst (All (λ (e : Entry Region). WereRefused m s (state_of c.put.new.front) (record { points = c.points.result; first = c.next_number.result }) e.value)) (sym c.as_slice-2.ensures.value)
    (all_were s c.args.application c.reserve-2.new.self c.put.new.front m c.in_ok-hits.hits.items (record { points = c.points.result; first = c.next_number.result }) c.lines-lines.ensures.holds may (same_next s st same c.args.application alike next)
    (same_true s m st same alike reserved.next (fewer_true s st r.refusals c.drop_stale.new.notes c.drop_stale.ensures.fewer c.self.invariant.remembered)) after
    (λ i. record { points = c.points.ensures.count i; first = c.next_number.ensures i })
    (hits_there (c.reserve-2.new.self.points ++ c.args.application.made) c.args.application.elements r.refusals.regions.entries c.in_ok-hits.hits.items c.in_ok-hits.ensures)
    (subst (All (λ (e : Entry Region). DoNotesStand same c.drop_stale.new.notes e.value)) c.as_slice.ensures.value c.drop_stale.ensures.stand))

pub drop_forgotten-requires-clause-different : goal.drop_forgotten-requires-clause-different
drop_forgotten-requires-clause-different c = subst (λ (es : List (Entry Region)). AreDifferent es) (sym c.look_at_all.ensures.held.regions) c.in_ok-hits.ensures.different

pub drop_forgotten-requires-clause-entries : goal.drop_forgotten-requires-clause-entries
drop_forgotten-requires-clause-entries c =
    subst (λ (es : List (Entry Region)). All (Contains es) c.as_slice-3.result.now) (sym c.look_at_all.ensures.held.regions)
    (subst (All (Contains c.self.inside.refusals.regions.entries)) (sym c.as_slice-3.ensures.value)
    (hits_there (c.reserve-2.new.self.points ++ c.args.application.made) c.args.application.elements c.self.inside.refusals.regions.entries c.in_ok-hits.hits.items c.in_ok-hits.ensures))

pub returns-clause-applied : goal.returns-clause-applied
returns-clause-applied c =
    put_run (parts c.self.inside) c.args.application c.reserve-2.new.self c.put.new.front c.push_reserved.new.self.items c.self.invariant.is_run.grows (pushed c)
    ∙ ap (λ (s : RunState). run_after s c.args.application) (ap (λ (v : RunView). v.run) c.self.view_is)

pub returns-clause-falls : goal.returns-clause-falls
returns-clause-falls c =
    let r = c.self.inside in let reserved = c.reserve-2.ensures in
    let next = subst (λ (s : RunState). IsNext (setting_by s.basis) s.state c.args.application) (sym (ap (λ (v : RunView). v.run) c.self.view_is)) c.requires.next in
    let may = may_be_put r.sizes r.rules.now (run_of (parts r)).state c.reserve-2.new.self c.args.application c.get.result.now c.lines-lines.ensures.holds
    (record { points = sym reserved.points; front = sym reserved.lines }) c.rule-rule.ensures.rule c.get.ensures next.best in
    subst (λ (s : RunState). area_left (run_of (record (parts r) { front = c.put.new.front; applications = c.push_reserved.new.self.items })) < area_left s) (ap (λ (v : RunView). v.run) c.self.view_is)
    (area_falls (parts r) c.args.application c.reserve-2.new.self c.put.new.front c.push_reserved.new.self.items c.lines-lines.ensures.holds (pushed c) may
    (some_elements r.sizes r.rules.now (run_of (parts r)).state c.args.application next.best))

pub reach_box-reach-requires : goal.reach_box-reach-requires
reach_box-reach-requires c =
    let r = c.self.inside in
    let next = subst (λ (s : RunState). IsNext (setting_by s.basis) s.state c.args.application) (sym (ap (λ (v : RunView). v.run) c.self.view_is)) c.requires.next in
    record { on_front = base_there r.sizes r.rules.now (run_of (parts r)).state c.reserve-2.new.self c.args.application c.lines-lines.ensures.holds c.reserve-2.ensures.lines next.best }

pub returns-clause-pays : goal.returns-clause-pays
returns-clause-pays c =
    let r = c.self.inside in let reserved = c.reserve-2.ensures in
    let next = subst (λ (s : RunState). IsNext (setting_by s.basis) s.state c.args.application) (sym (ap (λ (v : RunView). v.run) c.self.view_is)) c.requires.next in
    let may = may_be_put r.sizes r.rules.now (run_of (parts r)).state c.reserve-2.new.self c.args.application c.get.result.now c.lines-lines.ensures.holds
    (record { points = sym reserved.points; front = sym reserved.lines }) c.rule-rule.ensures.rule c.get.ensures next.best in
    subst (λ (v : RunView). IsPaid (setting_by v.run.basis) v.run.state c.args.application v.due (due r.options.last c.drop_forgotten.new.refusals.least.items c.put.new.front.lines + 1)) c.self.view_is
    (run_paid (parts r) c.args.application c.reserve-2.new.self c.put.new.front c.push_reserved.new.self.items (before c) c.drop_forgotten.new.refusals (record {
      remembered = fewer_true (setting_by (run_of (parts r)).basis) (run_of (parts r)).state r.refusals c.drop_stale.new.notes c.drop_stale.ensures.fewer c.self.invariant.remembered;
      grows = c.self.invariant.is_run.grows;
      next = next;
      front = c.lines-lines.ensures.holds;
      may = may;
      pushed = pushed c;
      forgotten = forgotten c;
      reach = 0;
      box = c.reach_box-reach.result;
      base = c.reach_box-reach.ensures;
    }))
