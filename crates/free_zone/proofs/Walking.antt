-- What is found while the near lines are walked, and at the end of the walk.
use Prim.Native.Nat.{ℕ, ◌<◌}
use lib.ListN.{length}
use mathlib.Core.Path.{◌≡◌, refl, sym, ap, ◌∙◌, subst}
use mathlib.Core.Bool.{Bool, true, false, ◌||◌}
use mathlib.Core.List.{List, ◌∷◌}
use mathlib.Core.Logic.{◌⊎◌, inl, inr}
use native.Mathlib.Omega.{arith}
use Rattle.std.specs.Prelude.{nat_eq, Option, Some, None, IfSome}
use Rattle.std.specs.Option.{option_map}
use Rattle.std.specs.List.{Contains, list_any}
use Rattle.grid_geom.specs.declared.Point.{Point}
use Rattle.grid_geom.specs.declared.Bounds.{Bounds}
use Rattle.front_chain.specs.declared.front.Near.{Near}
use Rattle.front_chain.specs.Front.{FrontState, IsFrontState, line_at, is_near, near_in_walk, still_near, state_of}
use Rattle.front_chain.proofs.Ends.{end_leaves}
use Rattle.front_chain.proofs.NearLines.{all_near}
use Rattle.free_zone.specs.declared.blocked.Found.{Found}
use Rattle.free_zone.specs.InTheWay.{Mapped, IsFrontPoint, IsMappedLine, IsInside, IsBeside, IsFreePoint, IsFreeLine, IsPointInWay, IsLineInWay}
use Rattle.free_zone.specs.Walked.{IsAtMost, IsPassed, IsFound}
use Rattle.free_zone.proofs.AtNumbers.{found_at, each_number, HasLineFrom, line_from, tested_end, start_on_front}
use Rattle.free_zone.proofs.Near.{IsBoxed, far_beside, far_outside}

-- the line k was looked at, and the point from which it goes
pub record IsSeen (zone : List Point) (m : Mapped) (found : Found) (k : ℕ) : Type 0 where
  pub point : (ends : ℕ × ℕ) → line_at m.front.lines k ≡ Some ends → IsFreePoint zone m ends.0 ⊎ IsAtMost found.point ends.0
  pub line : (ends : ℕ × ℕ) → line_at m.front.lines k ≡ Some ends → IsFreeLine zone m ends ⊎ IsAtMost found.line k

-- what is found is in the way, and each near line is still to be met or was looked at
pub record IsUnderWay (zone : List Point) (m : Mapped) (near : Bounds) (found : Found) (at : Option ℕ) : Type 0 where
  pub point : IfSome found.point (IsPointInWay zone m)
  pub line : IfSome found.line (IsLineInWay zone m)
  pub seen : (k : ℕ) → is_near m.front near k ≡ true → (list_any (nat_eq k) (still_near m.front near at) ≡ true) ⊎ IsSeen zone m found k

-- ---- the beginning
pub begun : (zone : List Point) (m : Mapped) (near : Bounds) (at : Option ℕ) → IsFrontState m.front → still_near m.front near at ≡ near_in_walk m.front near → IsUnderWay zone m near (record { point = None; line = None }) at
begun zone m near at h all = record {
  point = tt;
  line = tt;
  seen = λ k n. inl ((all_near m.front near (still_near m.front near at) h all).each k ∙ n);
}

-- ---- one line further
-- what is found was found before, or is new
pub kept_or_new : (P Q : ℕ → Type 0) (old new : Option ℕ) → IfSome old P → IfSome new (λ v. (old ≡ Some v) ⊎ Q v) → ((v : ℕ) → Q v → P v) → IfSome new P
kept_or_new P Q old None h i f = tt
kept_or_new P Q old (Some v) h (inl e) f = subst (λ o. IfSome o P) e h
kept_or_new P Q old (Some v) h (inr q) f = f v q

module _ (zone : List Point) (m : Mapped) (near : Bounds) (old new : Found) (n : ℕ) (p : IsPassed zone m n old new) where
  -- the line itself
  seen_now : IsSeen zone m new n
  seen_now = record {
    point = λ ends e. subst (λ (s : ℕ × ℕ). IsFreePoint zone m s.0 ⊎ IsAtMost new.point s.0) (one p.ends ends (sym p.on_front ∙ e)) p.point.passed;
    line = λ ends e. subst (λ (s : ℕ × ℕ). IsFreeLine zone m s ⊎ IsAtMost new.line n) (one p.ends ends (sym p.on_front ∙ e)) p.line.passed;
  }
    where
      one : (u v : ℕ × ℕ) → Some u ≡ Some v → u ≡ v
      one u v e = cc

  -- lines that were looked at before
  seen_before : (k : ℕ) → IsSeen zone m old k → IsSeen zone m new k
  seen_before k s = record {
    point = λ ends e. elim (s.point ends e) [ inl h ↦ inl h | inr h ↦ inr (p.point.kept ends.0 h) ];
    line = λ ends e. elim (s.line ends e) [ inl h ↦ inl h | inr h ↦ inr (p.line.kept k h) ];
  }

  pub further : (at : Option ℕ) → IsUnderWay zone m near old (Some n) → n ∷ still_near m.front near at ≡ still_near m.front near (Some n) → IsUnderWay zone m near new at
  further at u rest = record {
    point = kept_or_new (IsPointInWay zone m) (λ v. (v ≡ p.ends.0) × (¬ (Contains m.numbers p.ends.0) × IsInside zone m.front p.ends.0)) old.point new.point u.point p.point.found
        (λ v q. subst (IsPointInWay zone m) (sym q.0) (record { on_front = start_on_front m.front.lines n p.ends p.on_front; not_mapped = q.1.0; inside = q.1.1 }));
    line = kept_or_new (IsLineInWay zone m) (λ v. (v ≡ n) × (¬ (IsMappedLine m.rule m.numbers p.ends) × ¬ (IsBeside zone m.front p.ends))) old.line new.line u.line p.line.found
        (λ v q. subst (IsLineInWay zone m) (sym q.0) (record { ends = p.ends; on_front = p.on_front; not_mapped = q.1.0; not_apart = q.1.1 }));
    seen = λ k h. elim (u.seen k h) [ inl r ↦ met k (nat_eq k n) refl (ap (list_any (nat_eq k)) rest ∙ r) | inr s ↦ inr (seen_before k s) ];
  }
    where
      same : (k n : ℕ) → nat_eq k n ≡ true → n ≡ k
      same k n e = grind arith

      met : (k : ℕ) (b : Bool) → nat_eq k n ≡ b → (b || list_any (nat_eq k) (still_near m.front near at)) ≡ true → (list_any (nat_eq k) (still_near m.front near at) ≡ true) ⊎ IsSeen zone m new k
      met k true f r = inr (subst (IsSeen zone m new) (same k n f) seen_now)
      met k false f r = inl r

-- and less is still to be met
pub fewer : (f : FrontState) (near : Bounds) (n : ℕ) (at : Option ℕ) → n ∷ still_near f near at ≡ still_near f near (Some n) → length (still_near f near at) < length (still_near f near (Some n))
fewer f near n at rest = subst (λ (ns : List ℕ). length (still_near f near at) < length ns) rest (omega arith)

-- ---- the end
pub none_met : (o : Option Near) → ((near : Near) → o ≡ Some near → ⊥) → option_map (λ near. near.line) o ≡ None
none_met None h = refl
none_met (Some near) h = absurd (h near refl)

module _ (zone : List Point) (m : Mapped) (near : Bounds) (found : Found) (z : IsBoxed zone near) (h : IsFrontState m.front) (u : IsUnderWay zone m near found None) where
  -- a line is not near, or it was looked at
  far_or_seen : (k : ℕ) → (is_near m.front near k ≡ false) ⊎ IsSeen zone m found k
  far_or_seen k = by (is_near m.front near k) refl
    where
      clash : {A : Type 0} → false ≡ true → A
      clash e = absurd (cc)

      by : (b : Bool) → is_near m.front near k ≡ b → (is_near m.front near k ≡ false) ⊎ IsSeen zone m found k
      by false e = inl e
      by true e = elim (u.seen k e) [ inl r ↦ clash r | inr s ↦ inr s ]

  -- some line goes from each front point
  from_point : (n : ℕ) → IsFrontPoint m.front.lines n → HasLineFrom m.front.lines n
  from_point n p = line_from m.front.lines m.front.lines n (found_at m.front.lines m.front.next h.rising) (end_leaves (state_of m.front) n h.numbered h.region.closed ∙ tested_end m.front.lines n p)

  pub ended : IsFound zone m found
  ended = record {
    point = u.point;
    line = u.line;
    points = λ n p. let l = from_point n p in elim (far_or_seen l.number) [
      | inl e ↦ inl (inr (far_outside zone m.front near l.number (n, l.to) z h l.on_front e))
      | inr s ↦ s.point (n, l.to) l.on_front
    ];
    lines = each_number (λ line. IsFreeLine zone m (line.1, line.2) ⊎ IsAtMost found.line line.0) m.front.lines m.front.next h.rising (λ n ends e. elim (far_or_seen n) [
      | inl f ↦ inl (inr (far_beside zone m.front near n ends z h e f))
      | inr s ↦ s.line ends e
    ]);
  }
