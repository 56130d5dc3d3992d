-- Numbers that cover rules up to a class: a greater one does too, since its box is wider; and one does that covers a rule with the leeways of the class.
use Rattle.std.proofs.Common.{◌≡◌, refl, ℕ, ◌+◌, ◌-◌, ◌<◌, ◌≤◌, List, [], ◌∷◌, ◌++◌, length, max, take, slice_index_or, subst, sym, ap, ◌∙◌, arith, ℤ, pos, ◌+ℤ◌, ◌-ℤ◌, ◌*ℤ◌, ◌≤ℤ◌}
use Rattle.std.proofs.lemmas.Int.{ints}
use Rattle.std.proofs.lemmas.List.{take_more}
use Rattle.std.specs.List.{AllByRecursion}
use Rattle.grid_geom.specs.declared.Point.{Point}
use Rattle.grid_geom.proofs.Ring.{var, num, ◌⊖◌, ◌⊗◌, ring}
use Rattle.grid_geom.proofs.Signs.{nn_mul}
use Rattle.rule_reader.specs.declared.rule.Rule.{Rule}
use Rattle.rule_reader.specs.Normal.{IsRule}
use Rattle.rule_maps.specs.Frame.{LocalFrame, IsFrame}
use Rattle.rule_maps.specs.declared.reach.Leeway.{Leeway}
use Rattle.rule_maps.specs.Inert.{IsLive}
use Rattle.rule_maps.specs.Reach.{CoversBy, IsReachBy}
use Rattle.rule_maps.proofs.Reaches.{covers_by}
use Rattle.rule_maps.proofs.Frames.{frame_bounds}
use Rattle.state_law.specs.Reach.{IsWithinReach}
use Rattle.state_law.specs.Refusal as refusal
use Rattle.state_law.specs.State.{State}
use Rattle.state_law.specs.Saved.{AreInBox}
use Rattle.state_law.proofs.Lists.{all_append, all_map}
use Rattle.rule_match.specs.Candidate.{Attempt, IsCandidate, mapped}
use Rattle.rule_match.specs.Leeways.{AreLeewaysAt}
use Rattle.rule_match.specs.Near.{widening, reach_lo, reach_hi, IsCoveredAt, IsCoveredBy}
use Rattle.rule_match.specs.Refused.{places_of}
use Rattle.rule_match.proofs.Tolerated.{near_places, no_greater_than_range}
use Rattle.rule_match.proofs.WithinReach.{maps_of, range_in, within_by}

-- ---- a greater number has a wider box
record IsBoxIn (lo hi wide_lo wide_hi : Point) : Type 0 where
  left : wide_lo.x ≤ℤ lo.x
  right : hi.x ≤ℤ wide_hi.x
  below : wide_lo.y ≤ℤ lo.y
  above : hi.y ≤ℤ wide_hi.y

through : (a b c : ℤ) → a ≤ℤ b → b ≤ℤ c → a ≤ℤ c
through a b c h k = omega (arith, ints)

box_in : (lo hi wide_lo wide_hi : Point) (ps : List Point) → IsBoxIn lo hi wide_lo wide_hi → AreInBox lo hi ps → AreInBox wide_lo wide_hi ps
box_in lo hi wide_lo wide_hi ps w h = record {
  right_of_least = all_map (λ (c : Point). lo.x ≤ℤ c.x) (λ (c : Point). wide_lo.x ≤ℤ c.x) (λ c k. through wide_lo.x lo.x c.x w.left k) ps h.right_of_least;
  left_of_greatest = all_map (λ (c : Point). c.x ≤ℤ hi.x) (λ (c : Point). c.x ≤ℤ wide_hi.x) (λ c k. through c.x hi.x wide_hi.x k w.right) ps h.left_of_greatest;
  above_least = all_map (λ (c : Point). lo.y ≤ℤ c.y) (λ (c : Point). wide_lo.y ≤ℤ c.y) (λ c k. through wide_lo.y lo.y c.y w.below k) ps h.above_least;
  below_greatest = all_map (λ (c : Point). c.y ≤ℤ hi.y) (λ (c : Point). c.y ≤ℤ wide_hi.y) (λ c k. through c.y hi.y wide_hi.y k w.above) ps h.below_greatest;
}

within_wider : (lo hi wide_lo wide_hi : Point) (t : refusal.Attempt) → IsBoxIn lo hi wide_lo wide_hi → IsWithinReach lo hi t → IsWithinReach wide_lo wide_hi t
within_wider lo hi wide_lo wide_hi t w h = record {
  mapped = box_in lo hi wide_lo wide_hi t.mapped w h.mapped;
  lines_join = h.lines_join;
  zone = box_in lo hi wide_lo wide_hi t.zone w h.zone;
  zone_turned = h.zone_turned;
  elements = all_map (AreInBox lo hi) (AreInBox wide_lo wide_hi) (λ ps k. box_in lo hi wide_lo wide_hi ps w k) t.elements h.elements;
}

wider : (n m : ℕ) (f : LocalFrame) → IsFrame f → n ≤ m → IsBoxIn (reach_lo n f) (reach_hi n f) (reach_lo m f) (reach_hi m f)
wider n m f k l = let w = farther (pos n) (pos m) f.h (omega (arith, ints, (frame_bounds f k).high.least)) (omega (arith, ints, l)) in
    record { left = less f.p1.x (widening n f) (widening m f) w; right = more f.p1.x (widening n f) (widening m f) w; below = less f.p1.y (widening n f) (widening m f) w; above = more f.p1.y (widening n f) (widening m f) w }
  where
    farther : (n m h : ℤ) → pos 0 ≤ℤ h → n ≤ℤ m → (pos 2 *ℤ n *ℤ h +ℤ pos 1) ≤ℤ (pos 2 *ℤ m *ℤ h +ℤ pos 1)
    farther n m h i j = omega (arith, ints, nn_mul (m -ℤ n) h (omega (arith, ints, j)) i, ring (n ∷ m ∷ h ∷ []) (num (pos 2) ⊗ ((var 1 ⊖ var 0) ⊗ var 2)) (num (pos 2) ⊗ var 1 ⊗ var 2 ⊖ num (pos 2) ⊗ var 0 ⊗ var 2) refl)

    less : (a v w : ℤ) → v ≤ℤ w → (a -ℤ w) ≤ℤ (a -ℤ v)
    less a v w l = omega (arith, ints)

    more : (a v w : ℤ) → v ≤ℤ w → (a +ℤ v) ≤ℤ (a +ℤ w)
    more a v w l = omega (arith, ints)

pub covers_more_at : (class n m : ℕ) (r : Rule) → n ≤ m → IsCoveredAt class n r → IsCoveredAt class m r
covers_more_at class n m r l h = record {
  rule = h.rule;
  mapped_in = λ st t e a frame last. box_in (reach_lo n t.frame) (reach_hi n t.frame) (reach_lo m t.frame) (reach_hi m t.frame) (mapped st t) (wider n m t.frame frame l) (h.mapped_in st t e a frame last);
  within = λ st t e c frame first last. within_wider (reach_lo n t.frame) (reach_hi n t.frame) (reach_lo m t.frame) (reach_hi m t.frame) _ (wider n m t.frame frame l) (h.within st t e c frame first last);
}

-- ---- by the leeways of the class
-- a number that covers the rule with the leeways of the class covers it up to the class
pub covered_by_leeways : (class n : ℕ) (r : Rule) (leeways : List Leeway) → IsRule r → AreLeewaysAt class r.points leeways → CoversBy leeways r n → IsCoveredAt class n r
covered_by_leeways class n r leeways rule w covers = record { rule = rule; mapped_in = λ st t e a frame last. range_in n t.frame (mapped st t) frame covers.least a.in_range; within = within }
  where
    within : (st : State) (t : Attempt) → t.text ≡ r → IsCandidate st t → IsFrame t.frame → 1 ≤ t.class → t.class ≤ class → IsWithinReach (reach_lo n t.frame) (reach_hi n t.frame) (places_of st t)
    within st t e c frame first last = let maps = maps_of st t frame (subst IsRule (sym e) rule) c in
        within_by leeways 3 n st t covers.least first (record {
          maps = maps;
          near = λ k l m. near_places class t.class t.frame t.text.points leeways (mapped st t) last frame (subst (λ (x : Rule). AreLeewaysAt class x.points leeways) (sym e) w) c.in_range c.points_tolerated (k - 1) (below k (length t.text.points) l m);
          covers = subst (λ (x : Rule). CoversBy leeways x n) (sym e) covers;
        }) c
      where
        below : (k m : ℕ) → 1 ≤ k → k ≤ m → k - 1 < m
        below k m l i = omega arith

-- the least such number is no greater than one that covers it wherever points in range are
pub least_by_leeways : (class n m : ℕ) (r : Rule) (leeways : List Leeway) → AreLeewaysAt class r.points leeways → IsReachBy leeways r n → IsLive r → IsCoveredBy m r → n ≤ m
least_by_leeways class n m r leeways w h live c = h.least m (covers_by leeways r m (no_greater_than_range class r.points leeways w) (c.covers live))

pub one_more_at : (class : ℕ) (rules : List Rule) (k greatest reach next : ℕ) (r : Rule) → k < length rules → slice_index_or rules k r ≡ r → IsCoveredAt class reach r → greatest ≤ next → reach ≤ next
    → AllByRecursion (IsCoveredAt class greatest) (take k rules) → AllByRecursion (IsCoveredAt class next) (take (k + 1) rules)
one_more_at class rules k greatest reach next r w e h l m covered =
    subst (AllByRecursion (IsCoveredAt class next)) (sym (take_more rules k r w ∙ ap (λ (x : Rule). take k rules ++ x ∷ []) e))
    (all_append (IsCoveredAt class next) (take k rules) (r ∷ []) (all_map (IsCoveredAt class greatest) (IsCoveredAt class next) (λ x c. covers_more_at class greatest next x l c) (take k rules) covered) (covers_more_at class reach next r m h, tt))

pub greater_of : (reach greatest next most : ℕ) → next ≡ max reach greatest → reach ≤ most → greatest ≤ most → next ≤ most
greater_of reach greatest next most e h k = omega (arith, e, h, k)
