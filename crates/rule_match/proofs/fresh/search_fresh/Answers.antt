use mathlib.Core.Path.{◌≡◌, refl, ◌∙◌, subst, sym}
use mathlib.Core.List.{List}
use mathlib.Core.Logic.{inl, inr}
use Prim.Native.Nat.{ℕ}
use native.Mathlib.Omega.{arith}
use Rattle.std.specs.Prelude.{slice_index_or}
use Rattle.std.specs.List.{Contains}
use Rattle.std.specs.declared.vec.Vec.{Vec}
use Rattle.std.specs.declared.alloc.Global.{Global}
use Rattle.std.proofs.lemmas.Bool.{cases_lt}
use Rattle.rule_match.specs.Walk.{AreOf}
use Rattle.rule_match.proofs.Advances.{advance_same, advance_chain, advance_wider, settled_later}
use Rattle.rule_match.proofs.fresh.search_fresh.Goals as goal

pub loop-k-init : goal.loop-k-init
loop-k-init g c = record {
  regions = refl;
  empty = c.new-chosen.ensures.items;
  advance = advance_same c.args.progress.now;
  settled = λ b n h. absurd (omega (arith, h));
}

-- with a fresh number at an earlier position: settled before; at this one: by the call
pub loop-k-preserved : goal.loop-k-preserved
loop-k-preserved g c = record {
  regions = c.in_ok-search_at.ensures.regions ∙ c.loop-k.invariant.regions;
  empty = c.in_ok-search_at.ensures.empty;
  advance = advance_chain c.loop-k.invariant.advance c.in_ok-search_at.ensures.advance;
  settled = λ b n h a f i. elim (cases_lt n c.loop-k.k) [
    | inl j ↦ settled_later (g.met.T.Trial.more c.args.trial.now) b (advance_wider (λ d e. e.0) c.in_ok-search_at.ensures.advance) (c.loop-k.invariant.settled b n j a f i)
    | inr j ↦ let e : n ≡ c.loop-k.k = omega (arith, h, j) in
        c.in_ok-search_at.ensures.settled b (subst (λ (z : List (Vec ℕ Global)). AreOf z b) (sym c.loop-k.invariant.regions) a) f (subst (λ (z : ℕ). Contains c.args.fresh.now (slice_index_or b z 0)) e i)
  ];
}

pub returns-clause-settled : goal.returns-clause-settled
returns-clause-settled g c = λ b e f h. c.loop-k.invariant.settled b h.0 (omega (arith, e, h.1, c.loop-k-test.false, c.len-k-end.ensures, c.in_ok-regions.ensures.counted)) (c.in_ok-regions.ensures.covers b e f) f h.2
