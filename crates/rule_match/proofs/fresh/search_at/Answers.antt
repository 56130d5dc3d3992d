use mathlib.Core.Path.{◌≡◌, sym, ◌∙◌, ap, subst}
use mathlib.Core.List.{List, [], ◌++◌}
use Prim.Native.Nat.{ℕ}
use Rattle.std.specs.Prelude.{slice_index_or, slice_set}
use Rattle.std.specs.List.{Contains}
use Rattle.std.specs.declared.vec.Vec.{Vec}
use Rattle.std.specs.declared.alloc.Global.{Global}
use Rattle.rule_match.specs.Walk.{IsSettled, AreOf, DoesGoOn}
use Rattle.rule_match.proofs.Advances.{advance_wider}
use Rattle.rule_match.proofs.GoingOn.{fresh_of_narrow}
use Rattle.rule_match.proofs.Regions.{narrowed, in_region, set_back}
use Rattle.rule_match.proofs.fresh.search_at.Goals as goal

pub returns-clause-regions : goal.returns-clause-regions
returns-clause-regions g c = set_back c.args.regions.now.items c.args.k c.replace-kept.new.dest c.replace-kept.result c.index_mut.result.now (c.replace-kept.ensures.value ∙ c.index_mut.ensures.value)

-- what is found has at k a number of the narrowed region, which is fresh
pub returns-clause-advance : goal.returns-clause-advance
returns-clause-advance g c =
    let holds : List ℕ → Type 0 = g.T.Trial.holds c.args.trial.now in
    let set : c.as_slice-2.result.now ≡ slice_set c.args.regions.now.items c.args.k c.in_ok-narrow.narrow = c.as_slice-2.ensures.value ∙ ap (λ (v : Vec ℕ Global). slice_set c.args.regions.now.items c.args.k v) c.replace-kept.ensures.after in
    advance_wider (λ b d. fresh_of_narrow holds c.args.fresh.now c.args.regions.now.items c.args.k c.in_ok-narrow.narrow c.requires.within c.in_ok-narrow.ensures.only b
    (subst (λ (z : List (Vec ℕ Global)). DoesGoOn holds [] z b) set (subst (λ (z : List ℕ). DoesGoOn holds z c.as_slice-2.result.now b) c.requires.empty d))) c.in_ok-walk.ensures.advance

-- a number of the assignment at k that is fresh and of the region there is of the narrowed region
pub returns-clause-settled : goal.returns-clause-settled
returns-clause-settled g c = λ b a f h.
    let p : ℕ = slice_index_or b c.args.k 0 in
    let i : Contains ((slice_index_or c.args.regions.now.items c.args.k c.index.result.now).items) p = in_region c.args.regions.now.items c.args.k c.index.result.now b c.requires.within a in
    let j : Contains c.as_slice.result.now p = subst (λ (z : List ℕ). Contains z p) (sym (c.as_slice.ensures.value ∙ ap (λ (v : Vec ℕ Global). v.items) c.index.ensures)) i in
    let n : AreOf (slice_set c.args.regions.now.items c.args.k c.in_ok-narrow.narrow) b = narrowed c.args.regions.now.items c.args.k c.in_ok-narrow.narrow b c.requires.within a (c.in_ok-narrow.ensures.all p j h) in
    let o : AreOf c.as_slice-2.result.now b = subst (λ (z : List (Vec ℕ Global)). AreOf z b) (sym (c.as_slice-2.ensures.value ∙ ap (λ (v : Vec ℕ Global). slice_set c.args.regions.now.items c.args.k v) c.replace-kept.ensures.after)) n in
    subst (λ (z : List ℕ). g.T.Trial.fits c.args.trial.now (z ++ b) → IsSettled (g.T.Trial.holds c.args.trial.now) (g.T.Trial.reasons c.args.trial.now) (g.T.Trial.rank c.args.trial.now) c.walk.new.progress (z ++ b)) c.requires.empty (c.in_ok-walk.ensures.settled b o) f
