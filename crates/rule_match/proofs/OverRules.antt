-- The search over the rules: each candidate of a line stands as an assignment that its rule's search passes, and what is found over all rules is the least.
use Rattle.std.proofs.Common.{◌≡◌, ℕ, zero, suc, ◌+◌, ◌-◌, ◌<◌, ◌≤◌, true, false, List, [], ◌∷◌, length, slice_index_or, Option, None, Some, refl, sym, ap, ◌∙◌, subst, arith, inl, inr, ◌⊎◌}
use Rattle.std.specs.Prelude.{slice_get}
use Rattle.std.specs.List.{AllByRecursion, Contains}
use mathlib.Core.Bool.{true≢false}
use Rattle.std.proofs.lemmas.Option.{slice_get_within, slice_get-get_or}
use Rattle.grid_geom.specs.declared.Point.{Point}
use Rattle.rule_reader.specs.declared.rule.Rule.{Rule}
use Rattle.rule_maps.specs.Frame.{LocalFrame, IsFrameOf}
use Rattle.rule_maps.specs.declared.inert.Inert.{Inert}
use Rattle.rule_maps.specs.declared.inert.Inert.TheVariants.{Unbalanced, BaseKept, NoElement, IdlePoint, BadZone}
use Rattle.rule_maps.specs.Inert.{IsLive, HasState}
use Rattle.rule_maps.proofs.Frames.{one_frame}
use Rattle.size_field.specs.Size.{SizeField, size_at}
use Rattle.state_law.specs.State.{State, point_at, AreRising}
use Rattle.front_chain.specs.Front.{FrontState, edges_of, line_at, state_of}
use Rattle.rule_match.specs.declared.found.Found.{Found}
use Rattle.rule_match.specs.declared.around.Scope.{Scope}
use Rattle.rule_match.specs.declared.near.NearPoint.{NearPoint}
use Rattle.rule_match.specs.declared.progress.Progress.{Progress}
use Rattle.rule_match.specs.declared.application.Application.{Application}
use Rattle.rule_match.specs.Applied.{application}
use Rattle.rule_match.specs.Best.{IsBest}
use Rattle.rule_match.specs.Order.{IsNoWorse}
use Rattle.rule_match.specs.Candidate.{Attempt, IsCandidate, nth}
use Rattle.rule_match.specs.Least.{IsOf, IsLeast, HasNone, rank}
use Rattle.rule_match.specs.Fitting.{fits_so_far}
use Rattle.rule_match.specs.Trying.{near_at, ties}
use Rattle.rule_match.specs.Around.{AreLookedAt, is_in, StandFor}
use Rattle.rule_match.specs.Base.{BaseLine, IsBaseLine, IsBaseOf, Tried, attempt_of, numbers_at, setting_at}
use Rattle.rule_match.specs.Idle.{NoneApplies, SomeMayApply}
use Rattle.rule_match.specs.Passed.{IsPassed, IsOn, IsFind, IsFindIfAny, DoFewSuffice, HoldsFew, IsEnough, IsFreshFindIfAny, IsLeastSoFar, AreExcusedSoFar, AllAsked, AreFreshAt, IsAgainSoFar, IsPassedAgain, IsSoFar, MapsOne, NoneMayApply, Holds, rank_of, state_at}
use Rattle.rule_match.specs.declared.progress.Note.{Note}
use Rattle.rule_match.specs.Refused.{HasNoneAgain, HasOneAgain, IsAllowed, FitsFront, IsExcused, IsRefusedAgain, IsRefusedBy}
use Rattle.rule_match.specs.Noted.{HasExcuse}
use Rattle.rule_match.specs.Walk.{HoldsFresh, IsAdvance, IsFresh, IsFrom}
use Rattle.rule_match.proofs.Standing.{all_there, within}
use Rattle.rule_match.proofs.NextPoint.{points_of}
use Rattle.std.proofs.lemmas.Bool.{cases_lt, eqb-false, eqb-true}
use Rattle.std.proofs.lemmas.List.Elements.{Contains-append_cases, Contains-append_left, Contains-append_right}
use Rattle.std.specs.Prelude.{Bool, is_some, nat_eq, ◌++◌}
use Rattle.state_law.specs.Region.{IsRegion}
use Rattle.state_law.proofs.Region.{region_front}
use Rattle.std.proofs.lemmas.List.{get_or-map, length-map}
use Rattle.rule_match.specs.MoreNotes.{excused_after, excused_more}
use Rattle.rule_match.proofs.Places.{allowed, excused_none, on_its_front}
use Rattle.rule_match.proofs.Advances.{advance_wider, none_before, no_worse_chain}
use Rattle.rule_match.proofs.Regions.{single}
use Rattle.rule_match.proofs.Gathered.{line_numbered, same_ends}
use Rattle.rule_match.proofs.Tried.{tried}

-- ---- an attempt on the base line is one of its rule's assignments
numbers_are : (near : List NearPoint) (b ns : List ℕ) → StandFor near b ns → numbers_at near b ≡ ns
numbers_are near [] [] h = refl
numbers_are near [] (n ∷ ns) h = absurd h
numbers_are near (k ∷ b) [] h = absurd h
numbers_are near (k ∷ b) (n ∷ ns) h = λ i. h.0.1 i ∷ numbers_are near b ns h.1 i

as_long : (near : List NearPoint) (b ns : List ℕ) → StandFor near b ns → length b ≡ length ns
as_long near [] [] h = refl
as_long near [] (n ∷ ns) h = absurd h
as_long near (k ∷ b) [] h = absurd h
as_long near (k ∷ b) (n ∷ ns) h = ap suc (as_long near b ns h.1)

-- an assignment that stands for the attempt
record HasAssignment (tried : Tried) (t : Attempt) : Type 0 where
  assignment : List ℕ
  same : attempt_of tried assignment ≡ t
  counted : length assignment ≡ length tried.rule.points
  fits : fits_so_far (ties (setting_at tried)) assignment ≡ true

assigned : (base : BaseLine) (rules : List Rule) (t : Attempt) → IsBaseLine base → IsOn base rules t → AreLookedAt base.scope t.points → IsAllowed (state_at base) t → FitsFront (state_at base) t → HasAssignment (record { base = base; number = t.rule; rule = t.text }) t
assigned base rules t line on looked a h =
    let u : Attempt = record { class = base.class; line = base.line; frame = base.frame; rule = t.rule; text = t.text; points = t.points } in
    let same : t ≡ u = λ i. record { class = on.class i; line = on.line i; frame = on.frame i; rule = t.rule; text = t.text; points = t.points } in
    let found = tried (state_at base) u base.near base.lines base.scope line.surrounded.around looked (subst (IsAllowed (state_at base)) same a) (subst (FitsFront (state_at base)) same h) in
    let numbers : numbers_at base.near found.assignment ≡ t.points = numbers_are base.near found.assignment t.points found.stands in
    record {
      assignment = found.assignment;
      same = ap (λ (ns : List ℕ). record { class = base.class; line = base.line; frame = base.frame; rule = t.rule; text = t.text; points = ns }) numbers ∙ sym same;
      counted = as_long base.near found.assignment t.points found.stands ∙ a.counted;
      fits = found.fits;
    }

-- ---- rule after rule
none_so_far : (b : BaseLine) (rules : List Rule) → IsLeastSoFar b rules 0 None
none_so_far b rules = record { found = tt; least = λ t on few looked c. absurd (no_rule t.rule on.first few) }
  where
    no_rule : (n : ℕ) → 1 ≤ n → n ≤ 0 → ⊥
    no_rule n h k = omega (arith, h, k)

-- a rule number up to k + 1 is one up to k, or k + 1
before_or_last : (n k : ℕ) → n ≤ k + 1 → (n ≤ k) ⊎ (n ≡ k + 1)
before_or_last n k h = grind arith

text_at : (rules : List Rule) (n k : ℕ) (text rule : Rule) → n ≡ k + 1 → slice_get rules (n - 1) ≡ Some text → slice_get rules k ≡ Some rule → text ≡ rule
text_at rules n k text rule e h is =
    let back : n - 1 ≡ k = omega (arith, e) in
    ap (or_other text) (sym h ∙ ap (slice_get rules) back ∙ is)
  where
    or_other : Rule → Option Rule → Rule
    or_other x None = x
    or_other x (Some z) = z

-- a rule that never applies at the class changes nothing
skipped : (b : BaseLine) (rules : List Rule) (k : ℕ) (rule : Rule) (best : Option Found) → slice_get rules k ≡ Some rule → (IsLive rule → rule.quality ≤ b.class → ⊥) → IsLeastSoFar b rules k best → IsLeastSoFar b rules (k + 1) best
skipped b rules k rule best is never so_far = record { found = so_far.found; least = λ t on few looked c. by t on looked c (before_or_last t.rule k few) }
  where
    by : (t : Attempt) → IsOn b rules t → AreLookedAt b.scope t.points → IsCandidate (state_at b) t → (t.rule ≤ k) ⊎ (t.rule ≡ k + 1) → IsNoWorse best (Some (rank (state_at b) t))
    by t on looked c (inl few) = so_far.least t on few looked c
    by t on looked c (inr e) =
        let same : t.text ≡ rule = text_at rules t.rule k t.text rule e on.is_rule is in
        absurd (never (subst IsLive same c.live) (subst (λ (n : ℕ). rule.quality ≤ n) on.class (subst (λ (r : Rule). r.quality ≤ t.class) same c.quality)))

-- a candidate by the rule is a find
find_of : (b : BaseLine) (rules : List Rule) (k : ℕ) (rule : Rule) → slice_get rules k ≡ Some rule → (a : List ℕ) → IsCandidate (state_of b.front) (attempt_of (record { base = b; number = k + 1; rule = rule }) a) →
    (r : Found) → r ≡ rank (state_of b.front) (attempt_of (record { base = b; number = k + 1; rule = rule }) a) → IsFind b rules r
find_of b rules k rule is a c r e =
    let back : k + 1 - 1 ≡ k = omega arith in
    record { attempt = attempt_of (record { base = b; number = k + 1; rule = rule }) a; on = record { class = refl; line = refl; frame = refl; first = omega arith; is_rule = ap (slice_get rules) back ∙ is }; candidate = c; is = e }

-- what is found after a rule is passed is a find
found_passed : (b : BaseLine) (rules : List Rule) (k : ℕ) (rule : Rule) (old new : Progress) → slice_get rules k ≡ Some rule →
    IsAdvance (Holds (record { base = b; number = k + 1; rule = rule })) (rank_of (record { base = b; number = k + 1; rule = rule })) old new → IsFindIfAny b rules old.best → IsFindIfAny b rules new.best
found_passed b rules k rule old new is advance before = kept new.best advance.from
  where
    kept : (o : Option Found) → IsFrom (Holds (record { base = b; number = k + 1; rule = rule })) (rank_of (record { base = b; number = k + 1; rule = rule })) old.best o → IsFindIfAny b rules o
    kept None f = tt
    kept (Some r) (inl e) = subst (IsFindIfAny b rules) e before
    kept (Some r) (inr f) = find_of b rules k rule is f.0 f.1 r f.2

-- a rule that is passed
passed : (b : BaseLine) (rules : List Rule) (k : ℕ) (rule : Rule) (old new : Progress) → IsBaseLine b → slice_get rules k ≡ Some rule → IsPassed (record { base = b; number = k + 1; rule = rule }) old new
    → IsLeastSoFar b rules k old.best → IsLeastSoFar b rules (k + 1) new.best
passed b rules k rule old new line is p so_far = record { found = found_passed b rules k rule old new is p.advance so_far.found; least = λ t on few looked c. by t on looked c (before_or_last t.rule k few) }
  where
    by : (t : Attempt) → IsOn b rules t → AreLookedAt b.scope t.points → IsCandidate (state_at b) t → (t.rule ≤ k) ⊎ (t.rule ≡ k + 1) → IsNoWorse new.best (Some (rank (state_at b) t))
    by t on looked c (inl few) = no_worse_chain new.best old.best (Some (rank (state_at b) t)) p.advance.no_worse (so_far.least t on few looked c)
    by t on looked c (inr e) =
        let same : t.text ≡ rule = text_at rules t.rule k t.text rule e on.is_rule is in
        let those : IsPassed (record { base = b; number = t.rule; rule = t.text }) old new = subst (λ (n : ℕ). IsPassed (record { base = b; number = n; rule = t.text }) old new) (sym e) (subst (λ (r : Rule). IsPassed (record { base = b; number = k + 1; rule = r }) old new) (sym same) p) in
        let a = assigned b rules t line on looked (allowed (state_at b) t c) (on_its_front (state_at b) t c) in
        subst (λ (u : Attempt). IsNoWorse new.best (Some (rank (state_at b) u))) a.same
        (those.least a.assignment a.counted a.fits (subst (IsCandidate (state_at b)) (sym a.same) c))

-- ---- reasons, rule after rule
none_excused : (b : BaseLine) (rules : List Rule) (Asked : List ℕ → Type 0) (p : Progress) → AreExcusedSoFar b rules 0 Asked p
none_excused b rules Asked p = record { excused = λ none noting t on few looked q a h. absurd (no_rule t.rule on.first few) }
  where
    no_rule : (n : ℕ) → 1 ≤ n → n ≤ 0 → ⊥
    no_rule n h k = omega (arith, h, k)

pub so_far_none : (b : BaseLine) (rules : List Rule) (p : Progress) → p.best ≡ None → IsSoFar b rules 0 p
so_far_none b rules p e = record {
  least = subst (IsLeastSoFar b rules 0) (sym e) (none_so_far b rules);
  excused = none_excused b rules AllAsked p;
}

skipped_excused : (b : BaseLine) (rules : List Rule) (k : ℕ) (rule : Rule) (Asked : List ℕ → Type 0) (p : Progress) → slice_get rules k ≡ Some rule → (IsLive rule → rule.quality ≤ b.class → ⊥) → AreExcusedSoFar b rules k Asked p → AreExcusedSoFar b rules (k + 1) Asked p
skipped_excused b rules k rule Asked p is never so_far = record { excused = λ none noting t on few looked q a h. by none noting t on looked q a h (before_or_last t.rule k few) }
  where
    by : p.best ≡ None → b.noting ≡ true → (t : Attempt) → IsOn b rules t → AreLookedAt b.scope t.points → Asked t.points → IsAllowed (state_at b) t → FitsFront (state_at b) t → (t.rule ≤ k) ⊎ (t.rule ≡ k + 1) → IsExcused (state_at b) p.notes.items t
    by none noting t on looked q a h (inl few) = so_far.excused none noting t on few looked q a h
    by none noting t on looked q a h (inr e) =
        let same : t.text ≡ rule = text_at rules t.rule k t.text rule e on.is_rule is in
        absurd (never (subst IsLive same a.live) (subst (λ (n : ℕ). rule.quality ≤ n) on.class (subst (λ (r : Rule). r.quality ≤ t.class) same a.quality)))

-- what a passed rule owes to the attempts that are asked for
abbrev Excuses : Tried → (List ℕ → Type 0) → Progress → Type 0
Excuses t Asked p = (c : List ℕ) → length c ≡ length t.rule.points → fits_so_far (ties (setting_at t)) c ≡ true → Asked (numbers_at t.base.near c) → p.best ≡ None → HasExcuse t p.notes.items c

passed_excused : (b : BaseLine) (rules : List Rule) (k : ℕ) (rule : Rule) (Asked : List ℕ → Type 0) (old new : Progress) → IsBaseLine b → slice_get rules k ≡ Some rule →
    IsAdvance (Holds (record { base = b; number = k + 1; rule = rule })) (rank_of (record { base = b; number = k + 1; rule = rule })) old new → Excuses (record { base = b; number = k + 1; rule = rule }) Asked new → AreExcusedSoFar b rules k Asked old → AreExcusedSoFar b rules (k + 1) Asked new
passed_excused b rules k rule Asked old new line is advance excuses so_far = record { excused = λ none noting t on few looked q a h. by none noting t on looked q a h (before_or_last t.rule k few) }
  where
    by : new.best ≡ None → b.noting ≡ true → (t : Attempt) → IsOn b rules t → AreLookedAt b.scope t.points → Asked t.points → IsAllowed (state_at b) t → FitsFront (state_at b) t → (t.rule ≤ k) ⊎ (t.rule ≡ k + 1) → IsExcused (state_at b) new.notes.items t
    by none noting t on looked q a h (inl few) = subst (λ (notes : List Note). IsExcused (state_at b) notes t) (sym advance.noted.1)
        (excused_more (state_at b) old.notes.items advance.noted.0 t (so_far.excused (none_before new.best old.best advance.no_worse none) noting t on few looked q a h))
    by none noting t on looked q a h (inr e) =
        let same : t.text ≡ rule = text_at rules t.rule k t.text rule e on.is_rule is in
        let those : Excuses (record { base = b; number = t.rule; rule = t.text }) Asked new = subst (λ (n : ℕ). Excuses (record { base = b; number = n; rule = t.text }) Asked new) (sym e) (subst (λ (r : Rule). Excuses (record { base = b; number = k + 1; rule = r }) Asked new) (sym same) excuses) in
        let s = assigned b rules t line on looked a h in
        subst (IsExcused (state_at b) new.notes.items) s.same (those s.assignment s.counted s.fits (subst (λ (u : Attempt). Asked u.points) (sym s.same) q) none noting (subst (IsAllowed (state_at b)) (sym s.same) a))

-- the rule with a number from 1
before_number : (n : ℕ) → 1 ≤ n → n - 1 + 1 ≡ n
before_number n h = omega (arith, h)

rule_is : (rules : List Rule) (n : ℕ) (rule : Rule) → 1 ≤ n → n ≤ length rules → ((d : Rule) → slice_index_or rules (n - 1) d ≡ rule) → slice_get rules (n - 1) ≡ Some rule
rule_is rules n rule h k is = slice_get-get_or rules (n - 1) rule (omega (arith, h, k)) ∙ ap Some (is rule)

pub skipped_at : (b : BaseLine) (rules : List Rule) (n : ℕ) (rule : Rule) (p : Progress) → 1 ≤ n → n ≤ length rules → ((d : Rule) → slice_index_or rules (n - 1) d ≡ rule) → (IsLive rule → rule.quality ≤ b.class → ⊥)
    → IsSoFar b rules (n - 1) p → IsSoFar b rules n p
skipped_at b rules n rule p h k is never so_far =
    let at = rule_is rules n rule h k is in
    subst (λ (m : ℕ). IsSoFar b rules m p) (before_number n h) (record { least = skipped b rules (n - 1) rule p.best at never so_far.least; excused = skipped_excused b rules (n - 1) rule AllAsked p at never so_far.excused })

pub passed_at : (b : BaseLine) (rules : List Rule) (n : ℕ) (rule : Rule) (old new : Progress) → 1 ≤ n → n ≤ length rules → ((d : Rule) → slice_index_or rules (n - 1) d ≡ rule) → IsBaseLine b
    → IsPassed (record { base = b; number = n; rule = rule }) old new → IsSoFar b rules (n - 1) old → IsSoFar b rules n new
passed_at b rules n rule old new h k is line p so_far =
    let at = rule_is rules n rule h k is in
    let here = subst (λ (m : ℕ). IsPassed (record { base = b; number = m; rule = rule }) old new) (sym (before_number n h)) p in
    subst (λ (m : ℕ). IsSoFar b rules m new) (before_number n h) (record { least = passed b rules (n - 1) rule old new line at here so_far.least; excused = passed_excused b rules (n - 1) rule AllAsked old new line at here.advance (λ c counted fits q. here.excused c counted fits) so_far.excused })

-- ---- the assignments that map a fresh point
fresh_assigned : (near : List NearPoint) (fresh positions b : List ℕ) → AreFreshAt near fresh positions → AllByRecursion (λ k. k < length near) b → MapsOne fresh (numbers_at near b) → IsFresh positions b
fresh_assigned near fresh positions b at w m =
    let within : m.0 < length b = subst (λ (n : ℕ). m.0 < n) (length-map b (λ k. (near_at near k).number)) m.2 in
    (m.0, within, at.all (slice_index_or b m.0 0) (all_there (λ k. k < length near) b m.0 w within) (subst (Contains fresh) (sym m.3 ∙ get_or-map (λ k. (near_at near k).number) b m.0 0 m.1 within) m.4))

maps_fresh : (near : List NearPoint) (fresh positions b : List ℕ) → AreFreshAt near fresh positions → IsFresh positions b → MapsOne fresh (numbers_at near b)
maps_fresh near fresh positions b at f =
    let number : ℕ = (near_at near (slice_index_or b f.0 0)).number in
    (f.0, number, subst (λ (n : ℕ). f.0 < n) (sym (length-map b (λ k. (near_at near k).number))) f.1, get_or-map (λ k. (near_at near k).number) b f.0 0 number f.1, at.only (slice_index_or b f.0 0) f.2)

-- what is found after a rule is passed again is a find that maps a fresh point
found_again : (b : BaseLine) (rules : List Rule) (k : ℕ) (rule : Rule) (fresh positions : List ℕ) (old new : Progress) → slice_get rules k ≡ Some rule → AreFreshAt b.near fresh positions →
    IsAdvance (HoldsFresh (Holds (record { base = b; number = k + 1; rule = rule })) positions) (rank_of (record { base = b; number = k + 1; rule = rule })) old new → IsFreshFindIfAny b rules fresh old.best → IsFreshFindIfAny b rules fresh new.best
found_again b rules k rule fresh positions old new is at advance before = kept new.best advance.from
  where
    kept : (o : Option Found) → IsFrom (HoldsFresh (Holds (record { base = b; number = k + 1; rule = rule })) positions) (rank_of (record { base = b; number = k + 1; rule = rule })) old.best o → IsFreshFindIfAny b rules fresh o
    kept None f = tt
    kept (Some r) (inl e) = subst (IsFreshFindIfAny b rules fresh) e before
    kept (Some r) (inr f) = (find_of b rules k rule is f.0 f.1.0 r f.2, subst (MapsOne fresh) (sym (ap (λ (z : Found). z.points) f.2)) (maps_fresh b.near fresh positions f.0 at f.1.1))

-- positions while near points are looked at
pub position_kept : (near : List NearPoint) (fresh positions new : List ℕ) (k : ℕ) → new ≡ positions ++ k ∷ [] → ((j : ℕ) → j < k → Contains fresh (near_at near j).number → Contains positions j) → (j : ℕ) → j < k + 1 → Contains fresh (near_at near j).number → Contains new j
position_kept near fresh positions new k e h j l r = subst (λ (z : List ℕ). Contains z j) (sym e) (elim (cases_lt j k) [
  | inl i ↦ Contains-append_left positions (k ∷ []) j (h j i r)
  | inr i ↦ Contains-append_right positions (k ∷ []) j (0, omega arith, omega (arith, l, i))
])

pub position_passed : (near : List NearPoint) (fresh positions : List ℕ) (k number : ℕ) → number ≡ (near_at near k).number → ((i d : ℕ) → 0 ≤ i → i < length fresh → nat_eq (slice_index_or fresh i d) number ≡ false) →
    ((j : ℕ) → j < k → Contains fresh (near_at near j).number → Contains positions j) → (j : ℕ) → j < k + 1 → Contains fresh (near_at near j).number → Contains positions j
position_passed near fresh positions k number e none h j l r = elim (cases_lt j k) [
  | inl i ↦ h j i r
  | inr i ↦ let same : j ≡ k = omega (arith, l, i) in
      absurd (eqb-false (slice_index_or fresh r.0 (near_at near j).number) number (none r.0 (near_at near j).number (omega arith) r.1) (r.2 ∙ ap (λ (m : ℕ). (near_at near m).number) same ∙ sym e))
]

-- a position is added where a fresh point is
pub position_more : (near : List NearPoint) (fresh positions new : List ℕ) (k number : ℕ) → number ≡ (near_at near k).number → (i : ℕ) × (i < length fresh) × ((d : ℕ) → nat_eq (slice_index_or fresh i d) number ≡ true) → new ≡ positions ++ k ∷ [] → ((j : ℕ) → Contains positions j → Contains fresh (near_at near j).number) →
    (j : ℕ) → Contains new j → Contains fresh (near_at near j).number
position_more near fresh positions new k number is here e h j l = elim (Contains-append_cases positions (k ∷ []) j (subst (λ (z : List ℕ). Contains z j) e l)) [
  | inl i ↦ h j i
  | inr i ↦ subst (λ (m : ℕ). Contains fresh (near_at near m).number) (single k j i.0 i.1 i.2) (subst (Contains fresh) is (here.0, here.1, eqb-true (slice_index_or fresh here.0 number) number (here.2 number)))
]

pub again_none : (b : BaseLine) (rules : List Rule) (fresh : List ℕ) (p : Progress) → p.best ≡ None → IsAgainSoFar b rules 0 fresh p
again_none b rules fresh p e = record { found = subst (IsFreshFindIfAny b rules fresh) (sym e) tt; excused = none_excused b rules (MapsOne fresh) p }

pub skipped_again : (b : BaseLine) (rules : List Rule) (n : ℕ) (rule : Rule) (fresh : List ℕ) (p : Progress) → 1 ≤ n → n ≤ length rules → ((d : Rule) → slice_index_or rules (n - 1) d ≡ rule) → (IsLive rule → rule.quality ≤ b.class → ⊥)
    → IsAgainSoFar b rules (n - 1) fresh p → IsAgainSoFar b rules n fresh p
skipped_again b rules n rule fresh p h k is never so_far =
    subst (λ (m : ℕ). IsAgainSoFar b rules m fresh p) (before_number n h) (record { found = so_far.found; excused = skipped_excused b rules (n - 1) rule (MapsOne fresh) p (rule_is rules n rule h k is) never so_far.excused })

pub passed_again : (b : BaseLine) (rules : List Rule) (n : ℕ) (rule : Rule) (fresh positions : List ℕ) (old new : Progress) → 1 ≤ n → n ≤ length rules → ((d : Rule) → slice_index_or rules (n - 1) d ≡ rule) → IsBaseLine b
    → AreFreshAt b.near fresh positions → IsPassedAgain (record { base = b; number = n; rule = rule }) positions old new → IsAgainSoFar b rules (n - 1) fresh old → IsAgainSoFar b rules n fresh new
passed_again b rules n rule fresh positions old new h k is line at p so_far =
    let there = rule_is rules n rule h k is in
    let back : n ≡ n - 1 + 1 = sym (before_number n h) in
    let here = subst (λ (m : ℕ). IsPassedAgain (record { base = b; number = m; rule = rule }) positions old new) back p in
    let tried_here : Tried = record { base = b; number = n - 1 + 1; rule = rule } in
    subst (λ (m : ℕ). IsAgainSoFar b rules m fresh new) (before_number n h) (record {
      found = found_again b rules (n - 1) rule fresh positions old new there at here.advance so_far.found;
      excused = passed_excused b rules (n - 1) rule (MapsOne fresh) old new line there (advance_wider (λ c h. h.0) here.advance)
          (λ c counted fits q. here.excused c counted fits (fresh_assigned b.near fresh positions c at (within tried_here 0 rule.points [] c refl counted (points_of (setting_at tried_here) c fits)) q)) so_far.excused;
    })

-- a rule that has a state is not live
pub inert_never : (r : Rule) (i : Inert) → HasState r (Some i) → IsLive r → ⊥
inert_never r Unbalanced h l = h l.balanced
inert_never r BaseKept h l = l.base_leaves h.1
inert_never r NoElement h l = l.some_element h.2
inert_never r IdlePoint h l = l.none_idle h.3
inert_never r BadZone h l = l.good_zone h.4

-- ---- attempts on the base line are those on the line at the class
one_line : (lines : List (ℕ × ℕ × ℕ)) (next : ℕ) (l m : ℕ × ℕ × ℕ) → AreRising lines next → Contains lines l → Contains lines m → l.0 ≡ m.0 → l ≡ m
one_line lines next l m rising h k e =
    let first = line_numbered lines next h.0 l l rising h.1 h.2 in let second = line_numbered lines next k.0 m m rising k.1 k.2 in
    let ends : Some (l.1, l.2) ≡ Some (m.1, m.2) = sym first ∙ ap (line_at lines) e ∙ second in
    λ i. (e i, ap (λ o. (or_none o).0) ends i, ap (λ o. (or_none o).1) ends i)
  where
    or_none : Option (ℕ × ℕ) → ℕ × ℕ
    or_none None = (0, 0)
    or_none (Some z) = z

-- the frame of a line at the size at its middle is one
pub same_frame : (p q : Point) (sizes : SizeField) (f g : LocalFrame) → IsFrameOf p q (size_at sizes f.middle) f → IsFrameOf p q (size_at sizes g.middle) g → f ≡ g
same_frame p q sizes f g h k =
    let same : f.middle ≡ g.middle = λ i. record { x = (h.middle_x ∙ sym k.middle_x) i; y = (h.middle_y ∙ sym k.middle_y) i } in
    one_frame p q (size_at sizes g.middle) f g (subst (λ (m : Point). IsFrameOf p q (size_at sizes m) f) same h) k

on_base : (sizes : SizeField) (f : FrontState) (rules : List Rule) (line class : ℕ) (b : BaseLine) (t : Attempt) → IsBaseOf sizes f line class b → IsOf sizes (state_of f) rules line class t → IsOn b rules t
on_base sizes f rules line class b t is of =
    let front : Contains f.lines b.line = subst (λ (g : FrontState). Contains g.lines b.line) is.front is.base.on_front in
    let rising : AreRising f.lines f.next = subst (λ (g : FrontState). AreRising g.lines g.next) is.front is.base.front.rising in
    let lines : t.line ≡ b.line = one_line f.lines f.next t.line b.line rising of.on_front front (of.same_line ∙ sym is.number) in
    let framed : IsFrameOf (point_at f.points b.line.1) (point_at f.points b.line.2) (size_at sizes t.frame.middle) t.frame =
    subst (λ (l : ℕ × ℕ × ℕ). IsFrameOf (point_at f.points l.1) (point_at f.points l.2) (size_at sizes t.frame.middle) t.frame) lines of.framed in
    record {
      class = of.same_class ∙ sym is.same_class;
      line = lines;
      frame = same_frame (point_at f.points b.line.1) (point_at f.points b.line.2) sizes t.frame b.frame framed is.framed;
      first = of.numbered;
      is_rule = of.is_rule;
    }

of_line : (sizes : SizeField) (f : FrontState) (rules : List Rule) (line class : ℕ) (b : BaseLine) (t : Attempt) → IsBaseOf sizes f line class b → IsOn b rules t → IsOf sizes (state_of f) rules line class t
of_line sizes f rules line class b t is on = record {
  on_front = subst (Contains f.lines) (sym on.line) (subst (λ (g : FrontState). Contains g.lines b.line) is.front is.base.on_front);
  same_line = ap (λ (l : ℕ × ℕ × ℕ). l.0) on.line ∙ is.number;
  framed = subst (λ (l : ℕ × ℕ × ℕ). IsFrameOf (point_at f.points l.1) (point_at f.points l.2) (size_at sizes t.frame.middle) t.frame) (sym on.line)
      (subst (λ (g : LocalFrame). IsFrameOf (point_at f.points b.line.1) (point_at f.points b.line.2) (size_at sizes g.middle) g) (sym on.frame) is.framed);
  same_class = on.class ∙ is.same_class;
  numbered = on.first;
  is_rule = on.is_rule;
}

-- ---- where no rule may apply
all_rules : (rules : List Rule) (t : Attempt) (text : Rule) → 1 ≤ t.rule → slice_get rules (t.rule - 1) ≡ Some text → t.rule ≤ length rules
all_rules rules t text first is = omega (arith, first, slice_get_within rules (t.rule - 1) text is)

pub none_may_before : (class : ℕ) (rules : List Rule) → NoneMayApply class rules 0
none_may_before class rules number few = absurd (omega (arith, few))

-- one rule more that may not apply
pub none_may_more : (class k : ℕ) (rules : List Rule) (rule : Rule) → NoneMayApply class rules k → k < length rules → ((d : Rule) → slice_index_or rules (k + 1 - 1) d ≡ rule) → (IsLive rule → rule.quality ≤ class → ⊥)
    → NoneMayApply class rules (k + 1)
none_may_more class k rules rule so_far within is never number few text at = by (before_or_last (number + 1) k (omega (arith, few)))
  where
    here : slice_get rules (k + 1 - 1) ≡ Some rule
    here = rule_is rules (k + 1) rule (omega arith) (omega (arith, within)) is

    by : (number + 1 ≤ k) ⊎ (number + 1 ≡ k + 1) → IsLive text → text.quality ≤ class → ⊥
    by (inl less) live quality = so_far number (omega (arith, less)) text at live quality
    by (inr e) live quality =
        let same : text ≡ rule = text_at rules (number + 1) k text rule e (subst (λ (m : ℕ). slice_get rules m ≡ Some text) (omega arith) at) (subst (λ (m : ℕ). slice_get rules m ≡ Some rule) (omega arith) here) in
        never (subst IsLive same live) (subst (λ (r : Rule). r.quality ≤ class) same quality)

-- then the line has no candidate
none_may : (sizes : SizeField) (st : State) (rules : List Rule) (line class : ℕ) → NoneMayApply class rules (length rules) → HasNone sizes st rules line class
none_may sizes st rules line class idle = record {
  none = λ t of c.
      let last = all_rules rules t t.text of.numbered of.is_rule in
      idle (t.rule - 1) (omega (arith, of.numbered, last)) t.text of.is_rule c.live (subst (λ (n : ℕ). t.text.quality ≤ n) of.same_class c.quality);
}

-- nor at a class below
none_at : (sizes : SizeField) (st : State) (rules : List Rule) (line n class : ℕ) → n ≤ class → NoneMayApply class rules (length rules) → HasNone sizes st rules line n
none_at sizes st rules line n class low idle =
    none_may sizes st rules line n (λ number few rule at live quality. idle number few rule at live (omega (arith, low, quality)))

none_applies : (class : ℕ) (rules : List Rule) → NoneMayApply class rules (length rules) → NoneApplies class rules
none_applies class rules idle = record {
  none = λ sizes st line n low. none_at sizes st rules line n class low idle;
}

-- where all were looked at
pub none_of_all : (class k count : ℕ) (rules : List Rule) → count ≡ length rules → count ≤ k → NoneMayApply class rules k → NoneApplies class rules
none_of_all class k count rules whole ended idle = none_applies class rules (λ number few. idle number (omega (arith, few, whole, ended)))

-- one that may is some one that may
pub some_may : (class k count : ℕ) (rules : List Rule) (rule : Rule) → count ≡ length rules → k < count → ((d : Rule) → slice_index_or rules (k + 1 - 1) d ≡ rule) → IsLive rule → rule.quality ≤ class → SomeMayApply class rules
some_may class k count rules rule whole within is live quality = record {
  number = k + 1 - 1;
  rule = rule;
  is_rule = rule_is rules (k + 1) rule (omega arith) (omega (arith, whole, within)) is;
  live = live;
  quality = quality;
}

-- and the line is refused, whatever the notes
pub refused_idle : (sizes : SizeField) (st : State) (rules : List Rule) (line class : ℕ) (notes : List Note) → NoneMayApply class rules (length rules) → IsRefusedBy sizes st rules line class notes
refused_idle sizes st rules line class notes idle = record {
  excused = λ t of a h.
      let last = all_rules rules t t.text of.numbered of.is_rule in
      absurd (idle (t.rule - 1) (omega (arith, of.numbered, last)) t.text of.is_rule a.live (subst (λ (n : ℕ). t.text.quality ≤ n) of.same_class a.quality));
}

-- where all were looked at, none may apply
pub none_may_all : (class k count : ℕ) (rules : List Rule) → count ≡ length rules → count ≤ k → NoneMayApply class rules k → NoneMayApply class rules (length rules)
none_may_all class k count rules whole ended idle = λ number few. idle number (omega (arith, few, whole, ended))

-- ---- over all rules
pub looked_at_all : (scope : Scope) (ns : List ℕ) → scope.whole ≡ true → AreLookedAt scope ns
looked_at_all scope [] e = tt
looked_at_all scope (n ∷ ns) e = (subst (λ (b : Bool). is_in b scope.these.items n) (sym e) tt, looked_at_all scope ns e)

-- a line by whose base nothing is found is refused by the notes
pub refused_found : (sizes : SizeField) (f : FrontState) (rules : List Rule) (line class : ℕ) (b : BaseLine) (p : Progress) → IsBaseOf sizes f line class b → b.scope.whole ≡ true → b.noting ≡ true → p.best ≡ None → IsSoFar b rules (length rules) p → IsRefusedBy sizes (state_of f) rules line class p.notes.items
refused_found sizes f rules line class b p is whole noting none so_far = record {
  excused = λ t of a h.
      let on = on_base sizes f rules line class b t is of in
      subst (λ (g : FrontState). IsExcused (state_of g) p.notes.items t) is.front (so_far.excused.excused none noting t on (all_rules rules t t.text on.first on.is_rule) (looked_at_all b.scope t.points whole) tt
      (subst (λ (g : FrontState). IsAllowed (state_of g) t) (sym is.front) a) (subst (λ (g : FrontState). FitsFront (state_of g) t) (sym is.front) h));
}

pub none_found : (sizes : SizeField) (f : FrontState) (rules : List Rule) (line class : ℕ) (b : BaseLine) → IsBaseOf sizes f line class b → b.scope.whole ≡ true → IsLeastSoFar b rules (length rules) None → HasNone sizes (state_of f) rules line class
none_found sizes f rules line class b is whole so_far = record {
  none = λ t of c.
      let on = on_base sizes f rules line class b t is of in
      so_far.least t on (all_rules rules t t.text on.first on.is_rule) (looked_at_all b.scope t.points whole) (subst (λ (g : FrontState). IsCandidate (state_of g) t) (sym is.front) c);
}

least_found : (sizes : SizeField) (f : FrontState) (rules : List Rule) (line class : ℕ) (b : BaseLine) (t : Attempt) (found : Found) → IsBaseOf sizes f line class b → b.scope.whole ≡ true → IsLeastSoFar b rules (length rules) (Some found)
    → IsOn b rules t → IsCandidate (state_at b) t → found ≡ rank (state_at b) t → IsLeast sizes (state_of f) rules line class t
least_found sizes f rules line class b t found is whole so_far on c same =
    subst (λ (g : FrontState). IsLeast sizes (state_of g) rules line class t) is.front record {
      of = subst (λ (g : FrontState). IsOf sizes (state_of g) rules line class t) (sym is.front) (of_line sizes f rules line class b t is on);
      candidate = c;
      least = λ other of d.
          let there = on_base sizes f rules line class b other is (subst (λ (g : FrontState). IsOf sizes (state_of g) rules line class other) is.front of) in
          subst (λ (r : Found). IsNoWorse (Some r) (Some (rank (state_at b) other))) same (so_far.least other there (all_rules rules other other.text there.first there.is_rule) (looked_at_all b.scope other.points whole) d);
    }

pub best_of : (sizes : SizeField) (f : FrontState) (rules : List Rule) (line class : ℕ) (b : BaseLine) (found : Found) (a : Application) → IsBaseOf sizes f line class b → b.scope.whole ≡ true → IsLeastSoFar b rules (length rules) (Some found)
    → ((t : Attempt) → IsOn b rules t → IsCandidate (state_at b) t → found ≡ rank (state_at b) t → a ≡ application (state_at b) t) → IsBest sizes (state_of f) rules line class a
best_of sizes f rules line class b found a is whole so_far gives =
    let find : IsFind b rules found = so_far.found in let t = find.attempt in
    record {
      attempt = t;
      least = least_found sizes f rules line class b t found is whole so_far find.on find.candidate find.is;
      gives = gives t find.on find.candidate find.is ∙ ap (λ (g : FrontState). application (state_of g) t) is.front;
    }

-- ---- again
one_found : (sizes : SizeField) (f : FrontState) (rules : List Rule) (line class : ℕ) (fresh : List ℕ) (b : BaseLine) (found : Found) → IsBaseOf sizes f line class b → IsFind b rules found → MapsOne fresh found.points → HasOneAgain sizes (state_of f) rules line class fresh
one_found sizes f rules line class fresh b found is find maps =
    subst (λ (g : FrontState). HasOneAgain sizes (state_of g) rules line class fresh) is.front (record {
      attempt = find.attempt;
      of = subst (λ (g : FrontState). IsOf sizes (state_of g) rules line class find.attempt) (sym is.front) (of_line sizes f rules line class b find.attempt is find.on);
      maps = subst (MapsOne fresh) (ap (λ (z : Found). z.points) find.is) maps;
      candidate = find.candidate;
    })

pub refused_again : (sizes : SizeField) (f : FrontState) (rules : List Rule) (line class : ℕ) (fresh : List ℕ) (b : BaseLine) (p : Progress) → IsBaseOf sizes f line class b → IsEnough sizes (state_of f) rules line class fresh b.scope → b.noting ≡ true → p.best ≡ None → IsAgainSoFar b rules (length rules) fresh p
    → IsRefusedAgain sizes (state_of f) rules line class fresh p.notes.items
refused_again sizes f rules line class fresh b p is enough noting none so_far = record {
  excused = λ t of a h m.
      let on = on_base sizes f rules line class b t is of in
      subst (λ (g : FrontState). IsExcused (state_of g) p.notes.items t) is.front (so_far.excused.excused none noting t on (all_rules rules t t.text on.first on.is_rule) (enough t of a m) m
      (subst (λ (g : FrontState). IsAllowed (state_of g) t) (sym is.front) a) (subst (λ (g : FrontState). FitsFront (state_of g) t) (sym is.front) h));
}

-- where more was noted before
pub again_after : (sizes : SizeField) (st : State) (rules : List Rule) (line class : ℕ) (fresh : List ℕ) (before notes : List Note) → IsRefusedAgain sizes st rules line class fresh notes → IsRefusedAgain sizes st rules line class fresh (before ++ notes)
again_after sizes st rules line class fresh before notes r = record { excused = λ t of a h m. excused_after st before notes t (r.excused t of a h m) }

pub refused_after : (sizes : SizeField) (st : State) (rules : List Rule) (line class : ℕ) (before notes : List Note) → IsRefusedBy sizes st rules line class notes → IsRefusedBy sizes st rules line class (before ++ notes)
refused_after sizes st rules line class before notes r = record { excused = λ t of a h. excused_after st before notes t (r.excused t of a h) }

pub none_again : (sizes : SizeField) (f : FrontState) (rules : List Rule) (line class : ℕ) (fresh : List ℕ) (notes : List Note) → IsRegion (edges_of f) → IsRefusedAgain sizes (state_of f) rules line class fresh notes → HasNoneAgain sizes (state_of f) rules line class fresh
none_again sizes f rules line class fresh notes region r = record {
  none = λ t of m c. excused_none (state_of f) t notes (region_front (edges_of f) region) (r.excused t of (allowed (state_of f) t c) (on_its_front (state_of f) t c) m) c;
}

pub one_if_some : (sizes : SizeField) (f : FrontState) (rules : List Rule) (line class : ℕ) (fresh : List ℕ) (b : BaseLine) (o : Option Found) → IsBaseOf sizes f line class b → IsFreshFindIfAny b rules fresh o → is_some o ≡ true → HasOneAgain sizes (state_of f) rules line class fresh
one_if_some sizes f rules line class fresh b None is find e = absurd (true≢false (sym e))
one_if_some sizes f rules line class fresh b (Some found) is find e = one_found sizes f rules line class fresh b found is find.0 find.1

pub none_if_not : (o : Option Found) → is_some o ≡ false → o ≡ None
none_if_not None e = refl
none_if_not (Some found) e = absurd (true≢false e)

-- ---- what an attempt that maps a fresh point may map
-- of a list of at most three numbers, the line's ends first, of which one is fresh: all are of these
within_these : {class : ℕ} {rules : List Rule} {ends : ℕ × ℕ} {fresh these : List ℕ} (ns : List ℕ) → HoldsFew class rules ends fresh these → length ns ≤ 3 → nth ns 1 ≡ ends.0 → nth ns 2 ≡ ends.1 → MapsOne fresh ns → AllByRecursion (Contains these) ns
within_these {class} {rules} {ends} {fresh} {these} ns h l f g m = by ns l f g m
  where
    -- the fresh one is the third
    third : (x y z : ℕ) → x ≡ ends.0 → y ≡ ends.1 → (i p : ℕ) → i < 3 → slice_index_or (x ∷ y ∷ z ∷ []) i p ≡ p → Contains fresh p → Contains fresh z
    third x y z f g zero p l e c = absurd (h.few.stale_from (subst (Contains fresh) (sym e ∙ f) c))
    third x y z f g (suc zero) p l e c = absurd (h.few.stale_to (subst (Contains fresh) (sym e ∙ g) c))
    third x y z f g (suc (suc zero)) p l e c = subst (Contains fresh) (sym e) c
    third x y z f g (suc (suc (suc i))) p l e c = absurd (omega (arith, l))

    by : (ns : List ℕ) → length ns ≤ 3 → nth ns 1 ≡ ends.0 → nth ns 2 ≡ ends.1 → MapsOne fresh ns → AllByRecursion (Contains these) ns
    by [] l f g m = tt
    by (x ∷ []) l f g m = (subst (Contains these) (sym f) h.holds_from, tt)
    by (x ∷ y ∷ []) l f g m = (subst (Contains these) (sym f) h.holds_from, (subst (Contains these) (sym g) h.holds_to, tt))
    by (x ∷ y ∷ z ∷ []) l f g m = (subst (Contains these) (sym f) h.holds_from, (subst (Contains these) (sym g) h.holds_to, (h.holds_fresh z (third x y z f g m.0 m.1 m.2 m.3 m.4), tt)))
    by (x ∷ y ∷ z ∷ w ∷ ws) l f g m = absurd (omega (arith, l))

-- the list made of the ends and the fresh points holds them
pub holds_few : {class : ℕ} {rules : List Rule} {ends : ℕ × ℕ} {fresh one two all : List ℕ} (none : List ℕ) → DoFewSuffice class rules ends fresh → one ≡ none ++ ends.0 ∷ [] → two ≡ one ++ ends.1 ∷ [] → all ≡ two ++ fresh → HoldsFew class rules ends fresh all
holds_few {class} {rules} {ends} {fresh} {one} {two} {all} none few e f g = record {
  few = few;
  holds_from = after (ends.0) (subst (λ (z : List ℕ). Contains z ends.0) (sym f) (Contains-append_left one (ends.1 ∷ []) ends.0 (subst (λ (z : List ℕ). Contains z ends.0) (sym e) (Contains-append_right none (ends.0 ∷ []) ends.0 (0, omega arith, refl)))));
  holds_to = after (ends.1) (subst (λ (z : List ℕ). Contains z ends.1) (sym f) (Contains-append_right one (ends.1 ∷ []) ends.1 (0, omega arith, refl)));
  holds_fresh = λ n c. subst (λ (z : List ℕ). Contains z n) (sym g) (Contains-append_right two fresh n c);
}
  where
    after : (n : ℕ) → Contains two n → Contains all n
    after n c = subst (λ (z : List ℕ). Contains z n) (sym g) (Contains-append_left two fresh n c)

looked_at_these : (scope : Scope) (ns : List ℕ) → scope.whole ≡ false → AllByRecursion (Contains scope.these.items) ns → AreLookedAt scope ns
looked_at_these scope [] e h = tt
looked_at_these scope (n ∷ ns) e h = (subst (λ (b : Bool). is_in b scope.these.items n) (sym e) h.0, looked_at_these scope ns e h.1)

-- so what maps a fresh point maps points alone that are looked at
pub few_enough : (sizes : SizeField) (f : FrontState) (rules : List Rule) (line class : ℕ) (ends : ℕ × ℕ) (fresh : List ℕ) (scope : Scope) → AreRising f.lines f.next → line_at f.lines line ≡ Some ends →
    (scope.whole ≡ false → HoldsFew class rules ends fresh scope.these.items) → IsEnough sizes (state_of f) rules line class fresh scope
few_enough sizes f rules line class ends fresh scope rising at held t of a m = by scope.whole refl
  where
    by : (b : Bool) → scope.whole ≡ b → AreLookedAt scope t.points
    by true e = looked_at_all scope t.points e
    by false e =
        let h = held e in
        let here : line_at f.lines line ≡ Some (t.line.1, t.line.2) = ap (line_at f.lines) (sym of.same_line) ∙ line_numbered f.lines f.next of.on_front.0 t.line t.line rising of.on_front.1 of.on_front.2 in
        let same : (t.line.1, t.line.2) ≡ ends = same_ends (t.line.1, t.line.2) ends (sym here ∙ at) in
        let last = all_rules rules t t.text of.numbered of.is_rule in
        let short : length t.text.points ≤ 3 = h.few.short (t.rule - 1) (omega (arith, of.numbered, last)) t.text of.is_rule a.live (subst (λ (n : ℕ). t.text.quality ≤ n) of.same_class a.quality) in
        looked_at_these scope t.points e (within_these t.points h (subst (λ (n : ℕ). n ≤ 3) (sym a.counted) short) (a.at_start ∙ ap (λ (z : ℕ × ℕ). z.0) same) (a.at_end ∙ ap (λ (z : ℕ × ℕ). z.1) same) m)
