use Rattle.std.proofs.Common.{◌≡◌, ◌∙◌, Bool, false, true, Some, Vec, Global, ap, not, subst, sym}
use Rattle.std.specs.Option.{option_copied}
use Rattle.std.proofs.lemmas.Option.{same_Some}
use Rattle.front_chain.specs.Front.{state_of}
use Rattle.rule_match.specs.declared.progress.Note.{Note}
use Rattle.mesh_run.specs.Kept.{AreOnFront}
use Rattle.mesh_run.proofs.touched.is_stale.Goals as goal

turned : (b : Bool) → not b ≡ false → b ≡ true
turned true e = cc
turned false e = cc

pub returns-in-Some : goal.returns-in-Some
returns-in-Some c = λ stale held has.
    let there : Some c.in-Some.held.now ≡ Some held = ap option_copied (sym c.in-Some.is) ∙ c.get.ensures.value ∙ has in
    let stand : AreOnFront (state_of c.args.front.now) c.in-Some.held.now.items = subst (AreOnFront (state_of c.args.front.now)) c.as_slice.ensures.value (c.do_stand.ensures (turned c.do_stand.result stale)) in
    subst (λ (v : Vec Note Global). AreOnFront (state_of c.args.front.now) v.items) (same_Some c.in-Some.held.now held there) stand
