-- What a whole assignment is judged by: its places, its zone, its new points, its elements.
use Prim.Native.Nat.{ℕ, zero, suc, ◌+◌, ◌<◌}
use native.Mathlib.Omega.{arith}
use mathlib.Core.Path.{◌≡◌, refl, sym, subst, ap, ◌∙◌}
use mathlib.Core.Bool.{true≢false}
use mathlib.Core.List.{List, [], ◌∷◌, ◌++◌}
use mathlib.Core.Logic.{◌⊎◌, inl, inr}
use Rattle.std.specs.Prelude.{Bool, true, false, not, ◌&&◌, ◌↔◌, IsTrue, is_none, Option, None, Some, slice_index_or, length, map}
use Rattle.std.specs.List.{All, AllByRecursion, Contains, IsDistinct, list_any, list_all}
use Rattle.std.proofs.lemmas.List.{length-map}
use Rattle.std.proofs.lemmas.List.Elements.{All-from_recursion, recursion_from_All}
use Rattle.grid_geom.specs.declared.Point.{Point}
use Rattle.grid_geom.specs.Bounds.{IsOnGrid}
use Rattle.grid_geom.specs.Closed.{same_point}
use Rattle.rule_maps.specs.Frame.{LocalFrame, IsInRange}
use Rattle.rule_reader.specs.declared.rule.Rule.{Rule}
use Rattle.rule_maps.specs.Places.{mapping}
use Rattle.state_law.specs.State.{point_at, corners_of, front_edges, IsListed}
use Rattle.front_chain.specs.Front.{FrontState, state_of, number_of}
use Rattle.free_zone.specs.Zone.{zone_of}
use Rattle.rule_match.specs.Candidate.{mapped, elements, IsFrontPoint, IsCandidate}
use Rattle.rule_match.specs.Candidate.{made as made_at}
use Rattle.rule_match.specs.Candidate.{made_of}
use Rattle.rule_match.specs.Applied.{are_new, do_differ}
use Rattle.rule_reader.specs.Normal.{Names}
use Rattle.state_law.specs.Gluing.{MayAllBeGlued}
use Rattle.admission.specs.Around.{AreListed}
use Rattle.admission.specs.Admission.{entered, MayFollow, IsRefusal}
use Rattle.admission.specs.declared.refusal.GlueRefusal.{GlueRefusal}
use Rattle.admission.specs.declared.refusal.GlueRefusal.TheVariants.{Memory as NoMemory}
use Rattle.admission.proofs.Answered.{refusal_true}
use Rattle.rule_match.proofs.NewParts.{as_many}
use Rattle.rule_match.proofs.Surroundings.{any_fact, tested, found}
use Rattle.rule_match.proofs.GluedParts.{all_distinct, elements_three, elements_listed, may_follow_is}
use Rattle.rule_match.specs.Fitting.{is_met, are_different, fits_so_far}
use Rattle.rule_match.proofs.Prefixes.{both}
use Rattle.front_chain.proofs.Places.{unlisted, absent_place}
use Rattle.geom_check.proofs.Closing.{same_point_is}
use Rattle.std.specs.declared.result.Result.{Result}
use Rattle.std.specs.declared.result.Result.TheVariants.{Ok, Err}
use Rattle.std.specs.Prelude.{IfOk, OnOk, ◌||◌}
use Rattle.rule_match.specs.Trying.{near_at, ties}
use Rattle.rule_match.specs.Base.{BaseLine, Tried, IsTrying, HasFreeZone, HasNewPoints, elements_by, numbers_at, attempt_of, setting_at}
use Rattle.rule_match.proofs.Standing.{place_of, all_within, all_in_range, all_on_front, all_different, at_start, at_end, at_lines, points_tolerated, lines_tolerated, turned}

-- ---- the mapped places
same_places : (t : Tried) → IsTrying t → (b : List ℕ) → AllByRecursion (λ n. n < length t.base.near) b → map (λ k. (near_at t.base.near k).at) b ≡ mapped (state_of t.base.front) (attempt_of t b)
same_places t i [] w = refl
same_places t i (x ∷ b) w = ap (λ (p : Point). p ∷ map (λ k. (near_at t.base.near k).at) b) (place_of t i x w.0) ∙ ap (λ (ps : List Point). point_at t.base.front.points (near_at t.base.near x).number ∷ ps) (same_places t i b w.1)

pub mapped_is : (t : Tried) (base : BaseLine) (b : List ℕ) (places : List Point) → base ≡ t.base → IsTrying t → length b ≡ length t.rule.points → fits_so_far (ties (setting_at t)) b ≡ true → places ≡ map (λ k. (near_at base.near k).at) b → places ≡ mapped (state_of t.base.front) (attempt_of t b)
mapped_is t base b places g i l f e = e ∙ ap (λ (z : BaseLine). map (λ k. (near_at z.near k).at) b) g ∙ same_places t i b (all_within t i b l f)

pub mapped_near : (t : Tried) (base : BaseLine) (b : List ℕ) (places : List Point) → base ≡ t.base → IsTrying t → length b ≡ length t.rule.points → fits_so_far (ties (setting_at t)) b ≡ true → places ≡ map (λ k. (near_at base.near k).at) b → All (IsInRange t.base.frame) places
mapped_near t base b places g i l f e = subst (All (IsInRange t.base.frame)) (sym (mapped_is t base b places g i l f e)) (All-from_recursion (IsInRange t.base.frame) (mapped (state_of t.base.front) (attempt_of t b)) (all_in_range t i b l f b (all_within t i b l f)))

none_true : {A : Type 0} → IsTrue false → A
none_true h = absurd (cc)

-- ---- the elements
module _ (t : Tried) (b : List ℕ) (made : List Point) (i : IsTrying t) (l : length b ≡ length t.rule.points) (f : fits_so_far (ties (setting_at t)) b ≡ true) (news : HasNewPoints t b made) where
  abbrev ns : List ℕ
  ns = numbers_at t.base.near b

  listed : (c : List ℕ) → AllByRecursion (IsFrontPoint (state_of t.base.front)) c → AllByRecursion (IsListed (length t.base.front.points)) c
  listed [] a = tt
  listed (n ∷ c) a = (by (any_fact (λ line. IsListed (length t.base.front.points) line.1 × IsListed (length t.base.front.points) line.2) (λ line. (line.1 ≡ n) ⊎ (line.2 ≡ n)) t.base.front.lines i.base.front.numbered.lines_listed a.0), listed c a.1)
    where
      by : (e : (line : ℕ × ℕ × ℕ) × (IsListed (length t.base.front.points) line.1 × IsListed (length t.base.front.points) line.2) × ((line.1 ≡ n) ⊎ (line.2 ≡ n))) → IsListed (length t.base.front.points) n
      by (line, k, inl e) = subst (IsListed (length t.base.front.points)) e k.0
      by (line, k, inr e) = subst (IsListed (length t.base.front.points)) e k.1

  pub all_listed : AllByRecursion (IsListed (length t.base.front.points)) ns
  all_listed = listed ns (all_on_front t i b l f b (all_within t i b l f))

  made_counted : length ns + length made ≡ length t.rule.points + length t.rule.new_points
  made_counted = omega (arith, l, length-map b (λ k. (near_at t.base.near k).number), ap length news.made, as_many (mapping t.base.frame t.rule (mapped (state_of t.base.front) (attempt_of t b))) 1 t.rule.new_points)

  pub rule_elements : AllByRecursion (λ e. (length e ≡ 3) × AllByRecursion (Names (length ns + length made)) e) t.rule.elements
  rule_elements = subst (λ (n : ℕ). AllByRecursion (λ e. (length e ≡ 3) × AllByRecursion (Names n) e) t.rule.elements) (sym made_counted) i.rule.elements.1

  pub ready_distinct : IsDistinct same_point (t.base.front.points ++ made)
  ready_distinct = all_distinct t.base.front.points made i.base.front.numbered.different news.new news.differ

  pub ready_three : All (λ e. length e ≡ 3) (elements_by t ns made)
  ready_three = All-from_recursion (λ e. length e ≡ 3) (elements_by t ns made) (elements_three t.base.front.points made ns all_listed t.rule.elements rule_elements)

  pub ready_listed : All (AreListed (length (t.base.front.points ++ made))) (elements_by t ns made)
  ready_listed = All-from_recursion (AreListed (length (t.base.front.points ++ made))) (elements_by t ns made) (elements_listed t.base.front.points made ns all_listed t.rule.elements rule_elements)

  pub ready_is : MayFollow (entered t.base.front made) (elements_by t ns made) ↔ MayAllBeGlued (elements (state_of t.base.front) (attempt_of t b)) (front_edges t.base.front.points t.base.front.lines)
  ready_is = subst (λ (ps : List Point). MayFollow (entered t.base.front made) (elements_by t ns made) ↔ MayAllBeGlued (map (corners_of (mapped (state_of t.base.front) (attempt_of t b) ++ ps)) t.rule.elements) (front_edges t.base.front.points t.base.front.lines)) news.made
      (may_follow_is t.base.front made ns i.base.front all_listed news.new news.differ t.rule.elements rule_elements)

-- the elements were refused, and not for want of memory
pub refused_told : (X : Type 0) (f front : FrontState) (made : List Point) (es wanted : List (List ℕ)) (r : GlueRefusal) → MayFollow (entered f made) wanted ↔ X → (r ≡ NoMemory → ⊥) → (r ≡ NoMemory) ⊎ IsRefusal (entered front made) es 1 r → front ≡ f → es ≡ wanted →
    IsTrue false ↔ X
refused_told X f front made es wanted r k n o e g = (λ h. none_true h, λ x. absurd (by o x))
  where
    by : (r ≡ NoMemory) ⊎ IsRefusal (entered front made) es 1 r → X → ⊥
    by (inl h) x = n h
    by (inr h) x = refusal_true (entered f made) wanted 1 r (subst (λ (z : FrontState). IsRefusal (entered z made) wanted 1 r) e (subst (λ (z : List (List ℕ)). IsRefusal (entered front made) z 1 r) g h)) (k.1 x)

-- ---- new points
pair : (a b : Bool) → a ≡ true → b ≡ true → (a && b) ≡ true
pair a b h k = ap (λ c. c && b) h ∙ k

is_none_of : (o : Option ℕ) → is_none o ≡ true → o ≡ None
is_none_of None h = refl
is_none_of (Some n) h = absurd (true≢false (sym h))

listed_or_not : (points : List Point) (p : Point) (b : Bool) → is_none (number_of points p) ≡ b → b ≡ true → ¬ (Contains points p)
listed_or_not points p b e h c = absurd (true≢false (sym (tested (same_point p) points c.0 p c.1 (same_self p (slice_index_or points c.0 p) (sym c.2))) ∙ unlisted p points (is_none_of (number_of points p) (e ∙ h))))
  where
    same_self : (p q : Point) → p ≡ q → same_point p q ≡ true
    same_self p q e = subst (λ (z : Point). same_point p z ≡ true) e (grind arith)

new_then : (points made : List Point) → are_new points made ≡ true → AllByRecursion (λ p. ¬ (Contains points p)) made
new_then points [] h = tt
new_then points (p ∷ made) h = let g = both (is_none (number_of points p)) (are_new points made) h in (listed_or_not points p true g.0 refl, new_then points made g.1)

not_listed : (points : List Point) (p : Point) → ¬ (Contains points p) → is_none (number_of points p) ≡ true
not_listed points p n = ap is_none (absent_place p points (by (list_any (same_point p) points) refl))
  where
    by : (b : Bool) → list_any (same_point p) points ≡ b → list_any (same_point p) points ≡ false
    by false e = e
    by true e = let a = found (same_point p) points e in absurd (n (a.0, a.2, same_fallback points a.0 p a.1 a.2 ∙ a.3 ∙ sym (same_point_is p a.1 a.4)))
      where
        same_fallback : (xs : List Point) (k : ℕ) (c d : Point) → k < length xs → slice_index_or xs k c ≡ slice_index_or xs k d
        same_fallback [] k c d h = absurd (omega (arith, h))
        same_fallback (x ∷ xs) zero c d h = refl
        same_fallback (x ∷ xs) (suc k) c d h = same_fallback xs k c d (omega (arith, h))

then_new : (points made : List Point) → AllByRecursion (λ p. ¬ (Contains points p)) made → are_new points made ≡ true
then_new points [] h = refl
then_new points (p ∷ made) h = pair (is_none (number_of points p)) (are_new points made) (not_listed points p h.0) (then_new points made h.1)

none_same : (p : Point) (ps : List Point) → not (list_any (same_point p) ps) ≡ true → AllByRecursion (λ q. same_point p q ≡ false) ps
none_same p [] h = tt
none_same p (q ∷ ps) h = (first (same_point p q) (list_any (same_point p) ps) h, none_same p ps (later (same_point p q) (list_any (same_point p) ps) h))
  where
    first : (a b : Bool) → not (a || b) ≡ true → a ≡ false
    first true b e = absurd (true≢false (sym e))
    first false b e = refl

    later : (a b : Bool) → not (a || b) ≡ true → not b ≡ true
    later true b e = absurd (true≢false (sym e))
    later false b e = e

same_none : (p : Point) (ps : List Point) → AllByRecursion (λ q. same_point p q ≡ false) ps → not (list_any (same_point p) ps) ≡ true
same_none p [] h = refl
same_none p (q ∷ ps) h = ap (λ (b : Bool). not (b || list_any (same_point p) ps)) h.0 ∙ same_none p ps h.1

differ_then : (made : List Point) → do_differ made ≡ true → IsDistinct same_point made
unfolding IsDistinct
differ_then [] h = tt
differ_then (p ∷ made) h = let g = both (not (list_any (same_point p) made)) (do_differ made) h in (none_same p made g.0, differ_then made g.1)

pub then_differ : (made : List Point) → IsDistinct same_point made → do_differ made ≡ true
unfolding IsDistinct
then_differ [] h = refl
then_differ (p ∷ made) h = pair (not (list_any (same_point p) made)) (do_differ made) (same_none p made h.0) (then_differ made h.1)

-- a candidate has its new points
pub candidate_new : (t : Tried) (b : List ℕ) (made : List Point) → made ≡ made_at (state_of t.base.front) (attempt_of t b) → IsCandidate (state_of t.base.front) (attempt_of t b) → are_new t.base.front.points made ≡ true
candidate_new t b made e c = subst (λ (ps : List Point). are_new t.base.front.points ps ≡ true) (sym e) (then_new t.base.front.points (made_at (state_of t.base.front) (attempt_of t b)) c.made_new)

pub candidate_differ : (t : Tried) (b : List ℕ) (made : List Point) → made ≡ made_at (state_of t.base.front) (attempt_of t b) → IsCandidate (state_of t.base.front) (attempt_of t b) → do_differ made ≡ true
candidate_differ t b made e c = subst (λ (ps : List Point). do_differ ps ≡ true) (sym e) (then_differ (made_at (state_of t.base.front) (attempt_of t b)) c.made_different)

-- ---- the whole
pub candidate_of : (t : Tried) (b : List ℕ) (made places : List Point) (numbers : List ℕ) → IsTrying t → length b ≡ length t.rule.points → fits_so_far (ties (setting_at t)) b ≡ true → HasNewPoints t b made →
    places ≡ mapped (state_of t.base.front) (attempt_of t b) → numbers ≡ numbers_at t.base.near b → HasFreeZone t places numbers → MayAllBeGlued (elements (state_of t.base.front) (attempt_of t b)) (front_edges t.base.front.points t.base.front.lines) → IsCandidate (state_of t.base.front) (attempt_of t b)
candidate_of t b made places numbers i l f n e g z m =
    let w = all_within t i b l f in
    let free : HasFreeZone t (mapped (state_of t.base.front) (attempt_of t b)) (numbers_at t.base.near b) = subst (HasFreeZone t (mapped (state_of t.base.front) (attempt_of t b))) g (subst (λ (ps : List Point). HasFreeZone t ps numbers) e z) in
    record {
      live = i.live;
      quality = i.quality;
      counted = length-map b (λ k. (near_at t.base.near k).number) ∙ l;
      different = all_different t i b l f b w (both (are_different b) (list_all (is_met b) (ties (setting_at t))) f).0;
      on_front = all_on_front t i b l f b w;
      in_range = all_in_range t i b l f b w;
      at_start = at_start t i b l f;
      at_end = at_end t i b l f;
      at_lines = at_lines t i b l f;
      points_tolerated = points_tolerated t i b l f;
      lines_tolerated = lines_tolerated t i b l f;
      turned = turned t i b l f;
      made_on_grid = recursion_from_All IsOnGrid (made_at (state_of t.base.front) (attempt_of t b)) (subst (All IsOnGrid) n.made n.on_grid);
      made_new = new_then t.base.front.points (made_at (state_of t.base.front) (attempt_of t b)) (subst (λ (ps : List Point). are_new t.base.front.points ps ≡ true) n.made n.new);
      made_different = differ_then (made_at (state_of t.base.front) (attempt_of t b)) (subst (λ (ps : List Point). do_differ ps ≡ true) n.made n.differ);
      zone_on_grid = recursion_from_All IsOnGrid (zone_of (mapping t.base.frame t.rule (mapped (state_of t.base.front) (attempt_of t b))) t.base.class) free.zone.on_grid;
      zone_convex = free.zone.convex;
      no_point_in_zone = free.no_point;
      no_line_in_zone = free.no_line;
      glued = m;
    }

-- what an answer gives
pub if_ok : {A E : Type 0} (P Q : A → Type 0) (r : Result A E) → ((x : A) → P x → Q x) → IfOk r P → IfOk r Q
if_ok P Q (Ok x) h k = h x k
if_ok P Q (Err e) h k = tt

pub on_ok : {A E : Type 0} (P Q : Type 0) (r : Result A E) → (P → Q) → OnOk r P → OnOk r Q
on_ok P Q (Ok x) h k = h k
on_ok P Q (Err e) h k = tt

-- new points with their parts under other names
pub made_told : (t : Tried) (b : List ℕ) (base : BaseLine) (frame : LocalFrame) (rule : Rule) (places made : List Point) → base ≡ t.base → frame ≡ base.frame → rule ≡ t.rule → places ≡ mapped (state_of t.base.front) (attempt_of t b) → made ≡ made_of (mapping frame rule places) → made ≡ made_at (state_of t.base.front) (attempt_of t b)
made_told t b base frame rule places made eb ef er ep e = e ∙ ap (λ (f : LocalFrame). made_of (mapping f rule places)) (ef ∙ ap (λ (z : BaseLine). z.frame) eb) ∙ ap (λ (r : Rule). made_of (mapping t.base.frame r places)) er ∙ ap (λ (ps : List Point). made_of (mapping t.base.frame t.rule ps)) ep
