-- Of the front lines near a base line those are gathered that begin in range: each line is passed in turn, and all near lines were.
use Prim.Native.Nat.{ℕ, zero, suc, ◌+◌, ◌<◌, ◌≤◌}
use lib.IntN.{ℤ}
use lib.Signed.{le_z, ◌≤ℤ◌}
use native.Mathlib.Omega.{arith}
use mathlib.Core.Path.{◌≡◌, refl, sym, subst, ap, ◌∙◌}
use mathlib.Core.Bool.{Bool, true, false, cond, true≢false, ◌&&◌, ◌||◌}
use mathlib.Core.List.{List, [], ◌∷◌, ◌++◌}
use mathlib.Core.Logic.{◌⊎◌, inl, inr}
use Rattle.std.specs.Prelude.{nat_eq, Contains, Option, Some, length, slice_index_or}
use Rattle.std.specs.Option.{option_map, option_map_or}
use Rattle.std.specs.List.{All, AllByRecursion, Any, find, list_any}
use Rattle.std.proofs.lemmas.Bool.{eq-eqb}
use Rattle.std.proofs.lemmas.Int.{ints}
use Rattle.std.proofs.lemmas.List.Elements.{All-push}
use Rattle.grid_geom.specs.declared.Point.{Point}
use Rattle.grid_geom.specs.declared.Bounds.{Bounds}
use Rattle.grid_geom.proofs.Booleans.{true_le}
use Rattle.rule_maps.specs.Frame.{LocalFrame, IsInRange}
use Rattle.state_law.specs.State.{point_at, pair_edge, AreRising}
use Rattle.front_chain.specs.Front.{FrontState, IsFrontState, AreNear, state_of, line_at, does_meet, is_end, is_near}
use Rattle.front_chain.proofs.NearLines.{place_of}
use Rattle.admission.specs.Around.{IsInBounds}
use Rattle.rule_match.proofs.Surroundings.{tested}
use Rattle.rule_match.proofs.Turns.{any_fallback}
use Rattle.rule_match.specs.Trying.{does_go}
use Rattle.rule_match.specs.Around.{IsStartNear, HasLinesOf, IsMore, IsPassed, IsAdded}

-- of the numbers those before place k are passed: their lines are gathered where they begin in range
pub record IsUnderWay (f : FrontState) (frame : LocalFrame) (old lines : List (ℕ × ℕ)) (numbers : List ℕ) (k : ℕ) : Type 0 where
  pub more : IsMore f frame old lines
  pub passed : (i : ℕ) → i < k → IsPassed f frame lines (slice_index_or numbers i 0)

clash : {A : Type 0} → false ≡ true → A
clash h = absurd (true≢false (sym h))

or_left : (a b : Bool) → a ≡ true → (a || b) ≡ true
or_left a b h = ap (λ c. c || b) h

or_right : (a b : Bool) → b ≡ true → (a || b) ≡ true
or_right true b h = refl
or_right false b h = h

-- ---- lines by number
-- steps of the definition
line_here : (line : ℕ × ℕ × ℕ) (lines : List (ℕ × ℕ × ℕ)) (n : ℕ) → nat_eq line.0 n ≡ true → line_at (line ∷ lines) n ≡ Some (line.1, line.2)
line_here line lines n e = ap (λ b. option_map (λ (l : ℕ × ℕ × ℕ). (l.1, l.2)) (cond b (Some line) (find (λ (l : ℕ × ℕ × ℕ). nat_eq l.0 n) lines))) e

line_later : (line : ℕ × ℕ × ℕ) (lines : List (ℕ × ℕ × ℕ)) (n : ℕ) → nat_eq line.0 n ≡ false → line_at (line ∷ lines) n ≡ line_at lines n
line_later line lines n e = ap (λ b. option_map (λ (l : ℕ × ℕ × ℕ). (l.1, l.2)) (cond b (Some line) (find (λ (l : ℕ × ℕ × ℕ). nat_eq l.0 n) lines))) e

-- the line with a number goes between its ends
pub line_pair : (lines : List (ℕ × ℕ × ℕ)) (n : ℕ) (ends : ℕ × ℕ) → line_at lines n ≡ Some ends → Any (λ line. (line.1 ≡ ends.0) × (line.2 ≡ ends.1)) lines
line_pair [] n ends e = absurd (cc)
line_pair (line ∷ lines) n ends e = by (nat_eq line.0 n) refl (line_pair lines n ends)
  where
    by : (b : Bool) → nat_eq line.0 n ≡ b → (line_at lines n ≡ Some ends → Any (λ (line : ℕ × ℕ × ℕ). (line.1 ≡ ends.0) × (line.2 ≡ ends.1)) lines) → Any (λ (line : ℕ × ℕ × ℕ). (line.1 ≡ ends.0) × (line.2 ≡ ends.1)) (line ∷ lines)
    by true h rest = let s : Some (line.1, line.2) ≡ Some ends = sym (line_here line lines n h) ∙ e in let j : (line.1, line.2) ≡ ends = cc in
        (0, line, omega arith, refl, (ap (λ (z : ℕ × ℕ). z.0) j, ap (λ (z : ℕ × ℕ). z.1) j))
    by false h rest = let r = rest (sym (line_later line lines n h) ∙ e) in (suc r.0, r.1, omega (arith, r.2), r.3, r.4)

-- a front line is that with its number
pub line_numbered : (lines : List (ℕ × ℕ × ℕ)) (next k : ℕ) (line d : ℕ × ℕ × ℕ) → AreRising lines next → k < length lines → slice_index_or lines k d ≡ line → line_at lines line.0 ≡ Some (line.1, line.2)
line_numbered [] next k line d r h e = absurd (omega (arith, h))
line_numbered (l ∷ ls) next zero line d r h e = subst (λ (z : ℕ × ℕ × ℕ). line_at (l ∷ ls) z.0 ≡ Some (z.1, z.2)) e (line_here l ls l.0 (eq-eqb l.0 l.0 refl))
line_numbered (l ∷ ls) next (suc k) line d r h e = line_later l ls line.0 (later ls k r.0 (omega (arith, h)) e) ∙ line_numbered ls next k line d r.2 (omega (arith, h)) e
  where
    apart : (m n : ℕ) → m < n → nat_eq m n ≡ false
    apart m n h = grind arith

    later : (ls : List (ℕ × ℕ × ℕ)) (k : ℕ) → AllByRecursion (λ (other : ℕ × ℕ × ℕ). l.0 < other.0) ls → k < length ls → slice_index_or ls k d ≡ line → nat_eq l.0 line.0 ≡ false
    later [] k a h e = absurd (omega (arith, h))
    later (m ∷ ms) zero a h e = apart l.0 line.0 (subst (λ (z : ℕ × ℕ × ℕ). l.0 < z.0) e a.0)
    later (m ∷ ms) (suc k) a h e = later ms k a.1 (omega (arith, h)) e

-- ---- one line is passed
gathered_here : (lines : List (ℕ × ℕ)) (ends : ℕ × ℕ) → list_any (does_go ends.0 ends.1) (lines ++ ends ∷ []) ≡ true
gathered_here [] ends = or_left _ false (both (nat_eq ends.0 ends.0) (nat_eq ends.1 ends.1) (eq-eqb ends.0 ends.0 refl) (eq-eqb ends.1 ends.1 refl))
  where
    both : (a b : Bool) → a ≡ true → b ≡ true → (a && b) ≡ true
    both a b h k = ap (λ c. c && b) h ∙ k
gathered_here (l ∷ ls) ends = or_right (does_go ends.0 ends.1 l) (list_any (does_go ends.0 ends.1) (ls ++ ends ∷ [])) (gathered_here ls ends)

kept_before : (lines more : List (ℕ × ℕ)) (a b : ℕ) → list_any (does_go a b) lines ≡ true → list_any (does_go a b) (lines ++ more) ≡ true
kept_before [] more a b h = clash h
kept_before (l ∷ ls) more a b h = by (does_go a b l) h (kept_before ls more a b)
  where
    by : (c : Bool) → (c || list_any (does_go a b) ls) ≡ true → (list_any (does_go a b) ls ≡ true → list_any (does_go a b) (ls ++ more) ≡ true) → (c || list_any (does_go a b) (ls ++ more)) ≡ true
    by true h rest = refl
    by false h rest = rest h

pub same_ends : (x y : ℕ × ℕ) → Some x ≡ Some y → x ≡ y
same_ends x y e = cc

-- it begins in range, and is gathered
pub added : (f : FrontState) (frame : LocalFrame) (n : ℕ) (old new : List (ℕ × ℕ)) (ends : ℕ × ℕ) → line_at f.lines n ≡ Some ends → new ≡ old ++ ends ∷ [] → IsInRange frame (point_at f.points ends.0) → IsAdded f frame n old new
added f frame n old new ends e g r = subst (IsAdded f frame n old) (sym g) (record {
  kept = kept_before old (ends ∷ []);
  passed = λ others o h. let s : ends ≡ others = same_ends ends others (sym e ∙ o) in subst (λ (z : ℕ × ℕ). list_any (does_go z.0 z.1) (old ++ ends ∷ []) ≡ true) s (gathered_here old ends);
  only = λ a. All-push (IsStartNear (state_of f) frame) old ends a (line_pair f.lines n ends e, r);
})

-- it doesn't
pub not_added : (f : FrontState) (frame : LocalFrame) (n : ℕ) (lines : List (ℕ × ℕ)) (ends : ℕ × ℕ) → line_at f.lines n ≡ Some ends → ¬ (IsInRange frame (point_at f.points ends.0)) → IsAdded f frame n lines lines
not_added f frame n lines ends e o = record {
  kept = λ a b h. h;
  passed = λ others g h. absurd (o (subst (λ (z : ℕ × ℕ). IsInRange frame (point_at f.points z.0)) (same_ends others ends (sym g ∙ e)) h));
  only = λ a. a;
}

-- ---- one line after another
pub no_more : (f : FrontState) (frame : LocalFrame) (lines : List (ℕ × ℕ)) → IsMore f frame lines lines
no_more f frame lines = record { kept = λ a b h. h; only = λ h. h }

pub more_chain : {f : FrontState} {frame : LocalFrame} {old mid new : List (ℕ × ℕ)} → IsMore f frame old mid → IsMore f frame mid new → IsMore f frame old new
more_chain h k = record { kept = λ a b g. k.kept a b (h.kept a b g); only = λ g. k.only (h.only g) }

pub begins : (f : FrontState) (frame : LocalFrame) (lines : List (ℕ × ℕ)) (numbers : List ℕ) → IsUnderWay f frame lines lines numbers 0
begins f frame lines numbers = record {
  more = no_more f frame lines;
  passed = λ i h. absurd (omega (arith, h));
}

-- one line more is passed
pub goes_on : {f : FrontState} {frame : LocalFrame} {first old new : List (ℕ × ℕ)} (numbers : List ℕ) (k : ℕ) → IsUnderWay f frame first old numbers k → IsAdded f frame (slice_index_or numbers k 0) old new → IsUnderWay f frame first new numbers (k + 1)
goes_on {f} {frame} {first} {old} {new} numbers k u a = record { more = more_chain u.more (record { kept = a.kept; only = a.only }); passed = λ i h. by i (compared i k h) }
  where
    compared : (i k : ℕ) → i < k + 1 → (i < k) ⊎ (i ≡ k)
    compared i k h = grind arith

    by : (i : ℕ) → (i < k) ⊎ (i ≡ k) → IsPassed f frame new (slice_index_or numbers i 0)
    by i (inl h) = λ ends o r. a.kept ends.0 ends.1 (u.passed i h ends o r)
    by i (inr e) = subst (λ (m : ℕ). IsPassed f frame new (slice_index_or numbers m 0)) (sym e) a.passed

-- ---- what is gathered at the end
start_meets : (box : Bounds) (a b : Point) → IsInBounds box a → does_meet box (record { a = a; b = b }) ≡ true
start_meets box a b h = all (le_z a.x box.hi.x) (le_z b.x box.hi.x) (le_z box.lo.x a.x) (le_z box.lo.x b.x) (le_z a.y box.hi.y) (le_z b.y box.hi.y) (le_z box.lo.y a.y) (le_z box.lo.y b.y)
    (true_le _ _ h.left_of_greatest) (true_le _ _ h.right_of_least) (true_le _ _ h.below_greatest) (true_le _ _ h.above_least)
  where
    all : (p q r s t u v w : Bool) → p ≡ true → r ≡ true → t ≡ true → v ≡ true → (((p || q) && (r || s)) && ((t || u) && (v || w))) ≡ true
    all p q r s t u v w h1 h2 h3 h4 = ap (λ (z : Bool). ((z || q) && (r || s)) && ((t || u) && (v || w))) h1 ∙ ap (λ (z : Bool). (z || s) && ((t || u) && (v || w))) h2 ∙ ap (λ (z : Bool). (z || u) && (v || w)) h3 ∙ ap (λ (z : Bool). z || w) h4

pub all_gathered : {f : FrontState} {frame : LocalFrame} {box : Bounds} {first lines : List (ℕ × ℕ)} {numbers : List ℕ} (k : ℕ) → IsFrontState f → AreNear f box numbers → length numbers ≤ k → IsUnderWay f frame first lines numbers k →
    (a : ℕ) → IsInBounds box (point_at f.points a) → HasLinesOf f frame lines a
all_gathered {f} {frame} {box} {first} {lines} {numbers} k s met all u a inside b pair r =
    let line : ℕ × ℕ × ℕ = pair.1 in
    let at : line_at f.lines line.0 ≡ Some (line.1, line.2) = line_numbered f.lines f.next pair.0 line line s.rising pair.2 pair.3 in
    let r2 : IsInRange frame (point_at f.points line.1) = subst (λ (n : ℕ). IsInRange frame (point_at f.points n)) (sym pair.4.0) r in
    let near : is_near f box line.0 ≡ true = ap (λ (o : Option (ℕ × ℕ)). option_map_or (λ ends. does_meet box (pair_edge f.points ends)) o false) at ∙ start_meets box (point_at f.points line.1) (point_at f.points line.2) (subst (λ (n : ℕ). IsInBounds box (point_at f.points n)) (sym pair.4.0) inside) in
    let here = place_of met line.0 near in
    let p : IsPassed f frame lines line.0 = subst (IsPassed f frame lines) here.2 (u.passed here.0 (on here.0 (length numbers) k here.1 all)) in
    subst (λ (n : ℕ). list_any (does_go n b) lines ≡ true) pair.4.0 (subst (λ (n : ℕ). list_any (does_go line.1 n) lines ≡ true) pair.4.1 (p (line.1, line.2) at r2))
  where
    on : (i m k : ℕ) → i < m → m ≤ k → i < k
    on i m k h l = omega arith

-- ---- of a few points
-- no line begins at a point that is no end of a line
pub none_leave : (f : FrontState) (frame : LocalFrame) (lines : List (ℕ × ℕ)) (n : ℕ) → is_end f.lines n ≡ false → HasLinesOf f frame lines n
none_leave f frame lines n e b pair r = absurd (true≢false (sym (tested (λ l. nat_eq l.1 n || nat_eq l.2 n) f.lines pair.0 pair.1 pair.2 (ap (λ (l : ℕ × ℕ × ℕ). nat_eq l.1 n || nat_eq l.2 n) pair.3 ∙ or_left (nat_eq pair.1.1 n) (nat_eq pair.1.2 n) (eq-eqb pair.1.1 n pair.4.0))) ∙ e))

pub out_of_range : (f : FrontState) (frame : LocalFrame) (lines : List (ℕ × ℕ)) (n : ℕ) → ¬ (IsInRange frame (point_at f.points n)) → HasLinesOf f frame lines n
out_of_range f frame lines n out b pair r = absurd (out r)

-- a point is in the box that is this point
pub at_itself : (p q : Point) → p ≡ q → IsInBounds (record { lo = p; hi = p }) q
at_itself p q e = subst (IsInBounds (record { lo = p; hi = p })) e (record { right_of_least = same p.x; left_of_greatest = same p.x; above_least = same p.y; below_greatest = same p.y })
  where
    same : (z : ℤ) → z ≤ℤ z
    same z = omega (arith, ints)

-- what has the lines of each of these has them still when more is gathered
pub lines_of_more : {f : FrontState} {frame : LocalFrame} {old new : List (ℕ × ℕ)} (n : ℕ) → IsMore f frame old new → HasLinesOf f frame old n → HasLinesOf f frame new n
lines_of_more n m h b pair r = m.kept n b (h b pair r)

-- of these points those before place k are passed: their lines are gathered where they are in range
pub record AreUnderWay (f : FrontState) (frame : LocalFrame) (lines : List (ℕ × ℕ)) (these : List ℕ) (k : ℕ) : Type 0 where
  pub only : All (IsStartNear (state_of f) frame) lines
  pub passed : (i : ℕ) → i < k → HasLinesOf f frame lines (slice_index_or these i 0)

pub these_begin : (f : FrontState) (frame : LocalFrame) (lines : List (ℕ × ℕ)) (these : List ℕ) → lines ≡ [] → AreUnderWay f frame lines these 0
these_begin f frame lines these z = subst (λ (ls : List (ℕ × ℕ)). AreUnderWay f frame ls these 0) (sym z) (record {
  only = λ k d h. absurd (omega (arith, h));
  passed = λ i h. absurd (omega (arith, h));
})

-- one point more is passed
pub these_go_on : {f : FrontState} {frame : LocalFrame} {old new : List (ℕ × ℕ)} (these : List ℕ) (k : ℕ) → AreUnderWay f frame old these k → IsMore f frame old new → HasLinesOf f frame new (slice_index_or these k 0) → AreUnderWay f frame new these (k + 1)
these_go_on {f} {frame} {old} {new} these k u m here = record { only = m.only u.only; passed = λ i h. by i (compared i k h) }
  where
    compared : (i k : ℕ) → i < k + 1 → (i < k) ⊎ (i ≡ k)
    compared i k h = grind arith

    by : (i : ℕ) → (i < k) ⊎ (i ≡ k) → HasLinesOf f frame new (slice_index_or these i 0)
    by i (inl h) = lines_of_more (slice_index_or these i 0) m (u.passed i h)
    by i (inr e) = subst (λ (j : ℕ). HasLinesOf f frame new (slice_index_or these j 0)) (sym e) here

-- all of these are passed
pub these_gathered : {f : FrontState} {frame : LocalFrame} {lines : List (ℕ × ℕ)} {these : List ℕ} (k : ℕ) → length these ≤ k → AreUnderWay f frame lines these k → (n : ℕ) → Contains these n → HasLinesOf f frame lines n
these_gathered {f} {frame} {lines} {these} k all u n c = subst (HasLinesOf f frame lines) (any_fallback these c.0 0 n c.1 ∙ c.2) (u.passed c.0 (omega (arith, c.1, all)))
