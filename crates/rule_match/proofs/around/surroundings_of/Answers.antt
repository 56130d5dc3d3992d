use Rattle.std.proofs.Common.{length, subst, sym, ◌∙◌, ap, ℕ, List, map, ◌↔◌, Contains}
use Rattle.std.specs.List.{All}
use Rattle.std.proofs.lemmas.List.Elements.{All-weaker}
use Rattle.state_law.specs.State.{IsListed, point_at}
use Rattle.rule_maps.specs.Frame.{IsInRange}
use Rattle.rule_match.specs.Around.{near_of}
use Rattle.rule_match.proofs.Surroundings.{IsNearNumber, starts_near, surrounds}
use Rattle.rule_match.proofs.around.surroundings_of.Goals as goal

pub near_points-requires-clause-listed : goal.near_points-requires-clause-listed
near_points-requires-clause-listed c = subst (All (IsListed (length c.args.front.now.points))) (sym c.deref-2.ensures.value)
    (All-weaker (IsNearNumber c.args.front.now c.args.frame.now) (IsListed (length c.args.front.now.points)) (λ n h. h.listed) c.in_ok-starts.starts.items
    (starts_near c.args.front.now c.args.frame.now c.in_ok-lines.lines.items c.in_ok-starts.starts.items c.points-points.ensures.holds c.in_ok-lines.ensures.only
    (subst (λ (ls : List (ℕ × ℕ)). (n : ℕ) → Contains c.in_ok-starts.starts.items n ↔ Contains (map (λ (line : ℕ × ℕ). line.0) ls) n) c.deref.ensures.value c.in_ok-starts.ensures.starts)))

pub near_points-requires-clause-range : goal.near_points-requires-clause-range
near_points-requires-clause-range c = subst (All (λ n. IsInRange c.args.frame.now (point_at c.args.front.now.points n))) (sym c.deref-2.ensures.value)
    (All-weaker (IsNearNumber c.args.front.now c.args.frame.now) (λ n. IsInRange c.args.frame.now (point_at c.args.front.now.points n)) (λ n h. h.in_range) c.in_ok-starts.starts.items
    (starts_near c.args.front.now c.args.frame.now c.in_ok-lines.lines.items c.in_ok-starts.starts.items c.points-points.ensures.holds c.in_ok-lines.ensures.only
    (subst (λ (ls : List (ℕ × ℕ)). (n : ℕ) → Contains c.in_ok-starts.starts.items n ↔ Contains (map (λ (line : ℕ × ℕ). line.0) ls) n) c.deref.ensures.value c.in_ok-starts.ensures.starts)))

pub returns-clause-surrounding : goal.returns-clause-surrounding
returns-clause-surrounding c = surrounds c.args.front.now c.args.frame.now c.in_ok-lines.lines.items c.in_ok-starts.starts.items c.in_ok-near.near.items c.args.scope c.points-points.ensures.holds c.in_ok-lines.ensures.only c.in_ok-lines.ensures.all c.in_ok-starts.ensures.rising
    (subst (λ (ls : List (ℕ × ℕ)). (n : ℕ) → Contains c.in_ok-starts.starts.items n ↔ Contains (map (λ (line : ℕ × ℕ). line.0) ls) n) c.deref.ensures.value c.in_ok-starts.ensures.starts)
    (c.in_ok-near.ensures.value ∙ ap (map (near_of c.args.front.now.points c.args.frame.now)) c.deref-2.ensures.value)
