-- A run goes on by one application: it may be put on the front, and the state is then that of the definition.
use Rattle.std.proofs.Common.{◌≡◌, ℕ, zero, suc, ◌+◌, ◌-◌, ◌<◌, ◌≤◌, ℤ, pos, negsuc, ◌+ℤ◌, ◌≤ℤ◌, map, List, [], ◌∷◌, ◌++◌, length, take, slice_index_or, refl, sym, ap, ◌∙◌, subst, arith, length-append, append_assoc, Option, None, Some, ◌⊎◌, inl, inr}
use Rattle.std.specs.List.{All, AllByRecursion}
use Rattle.std.proofs.lemmas.List.{append-nil, take-append-le, length-map, length_push}
use Rattle.std.proofs.lemmas.Int.{ints}
use Rattle.std.proofs.lemmas.List.Elements.{All-from_recursion, All-weaker, All-push}
use Rattle.std.proofs.lemmas.Option.{get_or_from_slice_get}
use Rattle.grid_geom.specs.declared.Point.{Point}
use Rattle.grid_geom.specs.declared.Edge.{Edge}
use Rattle.grid_geom.specs.Area.{shoelace}
use Rattle.rule_reader.specs.declared.rule.Rule.{Rule}
use Rattle.rule_reader.specs.Normal.{IsRule}
use Rattle.geom_check.specs.Geometry.{PlanarMap}
use Rattle.size_field.specs.Size.{SizeField}
use Rattle.state_law.specs.State.{State, IsListed, number_sides, glue_lines, next_after_all, glued, front_edges}
use Rattle.state_law.proofs.Region.{kept_of}
use Rattle.front_chain.specs.Front.{FrontState, IsFrontState, edges_of, state_of, or_zero}
use Rattle.admission.specs.Admission.{glued_on}
use Rattle.admission.proofs.Order.{same_points}
use Rattle.rule_match.specs.declared.application.Application.{Application}
use Rattle.rule_match.specs.Applied.{numbers_from}
use Rattle.rule_match.specs.Candidate.{nth, made}
use Rattle.rule_match.specs.Best.{IsBest}
use Rattle.mesh_run.specs.declared.stepped.Stepped.TheVariants.{Applied}
use Rattle.mesh_run.specs.declared.End.{End}
use Rattle.mesh_run.specs.declared.Options.{Options}
use Rattle.mesh_run.specs.Boundary.{IsNumberTo}
use Rattle.mesh_run.specs.Opening.{front_from}
use Rattle.mesh_run.specs.Steps.{RunSetting, IsNext, applied, with_points, state_after, AreNext, IsSpent, IsWithin, IsEndOf}
use Rattle.mesh_run.specs.Runs.{opening_of, setting_of, IsDomainRun}
use Rattle.mesh_run.specs.Reached.{IsReached, MayBeApplied, front_at}
use Rattle.mesh_run.specs.RunState.{RunBasis, RunState, RunParts, IsRunState, IsStepped, GoesOn, DoName, setting_by, elements_made, with_elements, run_of, run_after, area_left, opened_run, domain_run, IsEndOfRun}
use Rattle.mesh_run.proofs.SameState.{AreSame, same_best}
use Rattle.mesh_run.proofs.Steps.{may_apply, area_after}

-- ---- what comes next may be put on the front
-- a front and no element are what a run keeps, with the front as the boundary
pub of_front : (f : FrontState) → IsFrontState f → IsReached (edges_of f) (state_of f)
of_front f h = record { numbered = h.numbered; on_grid = h.on_grid; corners_listed = tt; kept = kept_of (edges_of f) h.region }

pub may_be_put : (sizes : SizeField) (rules : List Rule) (st : State) (f : FrontState) (a : Application) (rule : Rule) → IsFrontState f → AreSame st (state_of f)
    → IsRule rule → ((d : Rule) → slice_index_or rules (a.rule - 1) d ≡ rule) → IsBest sizes st rules a.line a.class a → MayBeApplied (state_of f) a
may_be_put sizes rules st f a rule h same is_rule there best =
    let b = same_best sizes rules a.line a.class st (state_of f) a same best in
    let number : a.rule ≡ b.attempt.rule = ap (λ (x : Application). x.rule) b.gives in
    let text : rule ≡ b.attempt.text =
    sym (there rule) ∙ ap (λ (n : ℕ). slice_index_or rules (n - 1) rule) number ∙ get_or_from_slice_get rules (b.attempt.rule - 1) b.attempt.text rule b.least.of.is_rule in
    subst (MayBeApplied (state_of f)) (sym b.gives) (may_apply (edges_of f) (state_of f) b.attempt (of_front f h) (subst IsRule text is_rule) b.least.candidate)

-- ---- the state after it
module _ (points : List Point) where
  abbrev at : List (ℕ × ℕ × ℕ) → ℕ → List (List ℕ) → State
  at front next elements = record { points = points; front = front; next = next; elements = elements }

  -- the front and the next number don't depend on the elements so far
  front_on : (front : List (ℕ × ℕ × ℕ)) (next : ℕ) (before other more : List (List ℕ)) → (glued_on (at front next before) more).front ≡ (glued_on (at front next other) more).front
  front_on front next before other [] = refl
  front_on front next before other (ns ∷ more) = front_on (glue_lines front next (number_sides ns)) (next_after_all front next (number_sides ns)) (before ++ ns ∷ []) (other ++ ns ∷ []) more

  next_on : (front : List (ℕ × ℕ × ℕ)) (next : ℕ) (before other more : List (List ℕ)) → (glued_on (at front next before) more).next ≡ (glued_on (at front next other) more).next
  next_on front next before other [] = refl
  next_on front next before other (ns ∷ more) = next_on (glue_lines front next (number_sides ns)) (next_after_all front next (number_sides ns)) (before ++ ns ∷ []) (other ++ ns ∷ []) more

elements_on : (st : State) (more : List (List ℕ)) → (glued_on st more).elements ≡ st.elements ++ more
elements_on st [] = sym (append-nil st.elements)
elements_on st (ns ∷ more) = elements_on (glued st ns) more ∙ append_assoc st.elements (ns ∷ []) more

-- the front g is f with the application put on it
pub record IsPut (f : FrontState) (a : Application) (g : FrontState) : Type 0 where
  pub points : g.points ≡ f.points ++ a.made
  pub lines : g.lines ≡ (applied (state_of f) a).front
  pub next : g.next ≡ (applied (state_of f) a).next

pub put_is : (f g : FrontState) (a : Application) (elements : List (List ℕ)) → IsPut f a g → with_elements g (elements ++ a.elements) ≡ applied (with_elements f elements) a
put_is f g a elements h =
    let points : g.points ≡ (applied (with_elements f elements) a).points = h.points ∙ sym (same_points (with_points (with_elements f elements) a.made) a.elements) in
    let front : g.lines ≡ (applied (with_elements f elements) a).front = h.lines ∙ front_on (f.points ++ a.made) f.lines f.next [] elements a.elements in
    let next : g.next ≡ (applied (with_elements f elements) a).next = h.next ∙ next_on (f.points ++ a.made) f.lines f.next [] elements a.elements in
    let made : elements ++ a.elements ≡ (applied (with_elements f elements) a).elements = sym (elements_on (with_points (with_elements f elements) a.made) a.elements) in
    λ i. record { points = points i; front = front i; next = next i; elements = made i }

pub elements_push : (before : List Application) (a : Application) → elements_made (before ++ a ∷ []) ≡ elements_made before ++ a.elements
elements_push [] a = append-nil a.elements
elements_push (b ∷ before) a = ap (λ (es : List (List ℕ)). b.elements ++ es) (elements_push before a) ∙ sym (append_assoc b.elements (elements_made before) a.elements)

-- the two fronts are the same to a run
pub record AreEqualFronts (f g : FrontState) : Type 0 where
  pub points : g.points ≡ f.points
  pub lines : g.lines ≡ f.lines
  pub next : g.next ≡ f.next

pub same_state : (f g : FrontState) → AreEqualFronts f g → state_of g ≡ state_of f
same_state f g h = λ i. record { points = h.points i; front = h.lines i; next = h.next i; elements = [] }

put_on_same : (f g after : FrontState) (a : Application) → AreEqualFronts f g → IsPut g a after → IsPut f a after
put_on_same f g after a h p = record {
  points = p.points ∙ ap (λ (ps : List Point). ps ++ a.made) h.points;
  lines = p.lines ∙ ap (λ (st : State). (applied st a).front) (same_state f g h);
  next = p.next ∙ ap (λ (st : State). (applied st a).next) (same_state f g h);
}

-- the run with these parts, once the application is put on its front, by way of a front that is the same to it, and is pushed on its list
pub record IsPushed (p : RunParts) (a : Application) (same after : FrontState) (applications : List Application) : Type 0 where
  pub equal : AreEqualFronts p.front same
  pub put : IsPut same a after
  pub pushed : applications ≡ p.applications ++ a ∷ []

pub put_run : (p : RunParts) (a : Application) (same after : FrontState) (applications : List Application) → p.opened ≤ length p.front.points → IsPushed p a same after applications
    → run_of (record p { front = after; applications = applications }) ≡ run_after (run_of p) a
put_run p a same after applications grows h =
    let here = put_on_same p.front same after a h.equal h.put in
    let points : take p.opened after.points ≡ take p.opened p.front.points = ap (take p.opened) here.points ∙ take-append-le p.opened p.front.points a.made grows in
    let state : with_elements after (elements_made applications) ≡ applied (with_elements p.front (elements_made p.applications)) a =
    ap (with_elements after) (ap elements_made h.pushed ∙ elements_push p.applications a) ∙ put_is p.front after a (elements_made p.applications) here in
    λ i. record {
      basis = record {
        domain = p.domain;
        options = p.options;
        sizes = p.sizes;
        rules = p.rules;
        opened = p.opened;
        lines = p.lines;
        opening = record { points = points i; front = front_from 1 p.lines; next = 1 + length p.lines; elements = [] };
      };
      applications = h.pushed i;
      state = state i;
    }

-- ---- the run after it
pub after_push : (st : State) (before : List Application) (a : Application) → state_after st (before ++ a ∷ []) ≡ applied (state_after st before) a
after_push st [] a = refl
after_push st (b ∷ before) a = after_push (applied st b) before a

pub next_push : (s : RunSetting) (st : State) (before : List Application) (a : Application) → AreNext s st before → IsNext s (state_after st before) a → AreNext s st (before ++ a ∷ [])
next_push s st [] a h n = (n, tt)
next_push s st (b ∷ before) a h n = (h.0, next_push s (applied st b) before a h.1 n)

-- listed numbers are numbers to that many
named : (n : ℕ) (elements : List (List ℕ)) → AllByRecursion (λ ns. AllByRecursion (IsListed n) ns) elements → All (All (IsNumberTo n)) elements
named n elements h =
    All-weaker (λ ns. AllByRecursion (IsListed n) ns) (All (IsNumberTo n)) (λ ns l. All-weaker (IsListed n) (IsNumberTo n) (λ k i. record { first = i.0; last = i.1 }) ns (All-from_recursion (IsListed n) ns l))
    elements (All-from_recursion (λ ns. AllByRecursion (IsListed n) ns) elements h)

still_named : (m n : ℕ) (applications : List Application) → m ≤ n → DoName m applications → DoName n applications
still_named m n applications l h =
    All-weaker (λ a. All (All (IsNumberTo m)) a.elements) (λ a. All (All (IsNumberTo n)) a.elements)
    (λ a. All-weaker (All (IsNumberTo m)) (All (IsNumberTo n)) (λ ns. All-weaker (IsNumberTo m) (IsNumberTo n) (λ k i. record { first = i.first; last = reaches k m n i.last l }) ns) a.elements) applications h
  where
    reaches : (k m n : ℕ) → k ≤ m → m ≤ n → k ≤ n
    reaches k m n i l = omega arith

run_goes_on : (r : RunState) (a : Application) → IsRunState r → IsNext (setting_by r.basis) r.state a → AllByRecursion (λ ns. AllByRecursion (IsListed (length (r.state.points ++ a.made))) ns) a.elements → IsRunState (run_after r a)
run_goes_on r a h next listed =
    let points : (applied r.state a).points ≡ r.state.points ++ a.made = same_points (with_points r.state a.made) a.elements in
    let more : length r.state.points ≤ length (r.state.points ++ a.made) = fewer (length r.state.points) (length a.made) (length (r.state.points ++ a.made)) (length-append r.state.points a.made) in
    record {
      options = h.options;
      opened = h.opened;
      next_ones = next_push (setting_by r.basis) r.basis.opening r.applications a h.next_ones (subst (λ (st : State). IsNext (setting_by r.basis) st a) h.reached next);
      reached = ap (λ (st : State). applied st a) h.reached ∙ sym (after_push r.basis.opening r.applications a);
      grows = subst (λ (ps : List Point). r.basis.opened ≤ length ps) (sym points) (both r.basis.opened (length r.state.points) (length (r.state.points ++ a.made)) h.grows more);
      names = subst (λ (ps : List Point). DoName (length ps) (r.applications ++ a ∷ [])) (sym points)
          (All-push (λ b. All (All (IsNumberTo (length (r.state.points ++ a.made)))) b.elements) r.applications a (still_named (length r.state.points) (length (r.state.points ++ a.made)) r.applications more h.names)
          (named (length (r.state.points ++ a.made)) a.elements listed));
    }
  where
    fewer : (m k n : ℕ) → n ≡ m + k → m ≤ n
    fewer m k n e = omega (arith, e)

    both : (a b c : ℕ) → a ≤ b → b ≤ c → a ≤ c
    both a b c l k = omega arith

pub put_holds : (p : RunParts) (a : Application) (same after : FrontState) (applications : List Application) → IsRunState (run_of p) → IsNext (setting_by (run_of p).basis) (run_of p).state a
    → MayBeApplied (state_of same) a → IsPushed p a same after applications → IsRunState (run_of (record p { front = after; applications = applications }))
put_holds p a same after applications held next may h =
    let listed = subst (λ (ps : List Point). AllByRecursion (λ ns. AllByRecursion (IsListed (length (ps ++ a.made))) ns) a.elements) h.equal.points may.listed in
    subst IsRunState (sym (put_run p a same after applications held.grows h)) (run_goes_on (run_of p) a held next listed)

-- ---- the area that is left
-- a live rule has an element, so an application has one
pub some_elements : (sizes : SizeField) (rules : List Rule) (st : State) (a : Application) → IsBest sizes st rules a.line a.class a → 1 ≤ length a.elements
some_elements sizes rules st a b =
    let t = b.attempt in
    let count : length a.elements ≡ length t.text.elements = ap (λ (x : Application). length x.elements) b.gives ∙ length-map t.text.elements (map (nth (t.points ++ numbers_from (length st.points) (made st t)))) in
    positive (length a.elements) (length t.text.elements) count b.least.candidate.live.some_element
  where
    positive : (m n : ℕ) → m ≡ n → (n ≡ 0 → ⊥) → 1 ≤ m
    positive m zero e h = absurd (h refl)
    positive m (suc n) e h = omega (arith, e)

falls_to : (before after : ℤ) (count : ℕ) → 1 ≤ count → (after +ℤ pos count) ≤ℤ before → pos 0 ≤ℤ after → or_zero after < or_zero before
falls_to (pos m) (pos n) count c f l = omega (arith, ints, c, f)
falls_to (negsuc m) (pos n) count c f l = absurd (omega (arith, ints, c, f))
falls_to before (negsuc n) count c f l = absurd (omega (arith, ints, l))

pub area_falls : (p : RunParts) (a : Application) (same after : FrontState) (applications : List Application) → IsFrontState same → IsPushed p a same after applications → MayBeApplied (state_of same) a → 1 ≤ length a.elements
    → area_left (run_of (record p { front = after; applications = applications })) < area_left (run_of p)
area_falls p a same after applications h pushed may some =
    let taken = area_after (edges_of same) (state_of same) a (of_front same h) may in
    let points : after.points ≡ (applied (state_of same) a).points = pushed.put.points ∙ sym (same_points (with_points (state_of same) a.made) a.elements) in
    let later : edges_of after ≡ front_at (applied (state_of same) a) = λ i. front_edges (points i) (pushed.put.lines i) in
    let sooner : edges_of p.front ≡ front_at (state_of same) = λ i. front_edges (sym pushed.equal.points i) (sym pushed.equal.lines i) in
    subst (λ (es : List Edge). or_zero (shoelace es) < area_left (run_of p)) (sym later)
    (subst (λ (es : List Edge). or_zero (shoelace (front_at (applied (state_of same) a))) < or_zero (shoelace es)) (sym sooner)
    (falls_to (shoelace (front_at (state_of same))) (shoelace (front_at (applied (state_of same) a))) (length a.elements) some taken.falls (taken.left some)))

-- ---- steps one after another
goes_to : (r : RunState) (before more : List Application) (a : Application) → r.applications ≡ before ++ more → r.applications ++ a ∷ [] ≡ before ++ (more ++ a ∷ [])
goes_to r before more a e = ap (λ (applications : List Application). applications ++ a ∷ []) e ∙ append_assoc before more (a ∷ [])

one_more_within : (limit : Option ℕ) (n m : ℕ) → ¬ (IsSpent limit n) → m ≡ n + 1 → IsWithin limit m
one_more_within None n m h e = tt
one_more_within (Some limit) n m h e = by (compared limit n)
  where
    compared : (limit n : ℕ) → (limit ≤ n) ⊎ (n < limit)
    compared limit n = grind arith

    by : (limit ≤ n) ⊎ (n < limit) → m ≤ limit
    by (inl l) = absurd (h l)
    by (inr l) = omega (arith, l, e)

pub goes_further : (before between after : RunState) (a : Application) → GoesOn before between → ¬ (IsSpent between.basis.options.limit (length between.applications)) → IsStepped between after (Applied a) → GoesOn before after
goes_further before between after a h open_still step =
    let basis : between.basis ≡ before.basis = h.basis in
    let next : IsNext (setting_by before.basis) (state_after before.state h.more) a =
    subst (λ (st : State). IsNext (setting_by before.basis) st a) h.state (subst (λ (b : RunBasis). IsNext (setting_by b) between.state a) basis step.0) in
    subst (GoesOn before) (sym step.1) (record {
      basis = h.basis;
      more = h.more ++ a ∷ [];
      applications = goes_to between before.applications h.more a h.applications;
      next_ones = next_push (setting_by before.basis) before.state h.more a h.next_ones next;
      state = ap (λ (st : State). applied st a) h.state ∙ sym (after_push before.state h.more a);
      within = inr (subst (λ (b : RunBasis). IsWithin b.options.limit (length (between.applications ++ a ∷ []))) basis
          (one_more_within between.basis.options.limit (length between.applications) (length (between.applications ++ a ∷ [])) open_still (length_push between.applications a)));
    })

-- ---- from the opening to the end
-- no more than the limit allows were made, since none was there at the opening
within_all : (limit : Option ℕ) (applications more : List Application) → applications ≡ more → (more ≡ []) ⊎ IsWithin limit (length applications) → IsWithin limit (length applications)
within_all limit applications more e (inr w) = w
within_all None applications more e (inl none) = tt
within_all (Some limit) applications more e (inl none) = let count = ap length (e ∙ none) in omega arith

-- what is left of a run that went on from its opening to an end is the run of the domain
pub ended_run : (g : PlanarMap) (rules : List Rule) (options : Options) (d : ℕ) (r : RunState) (end : End) → GoesOn (opened_run g rules options d) r → IsEndOfRun r end → IsDomainRun g rules options d (domain_run r end)
ended_run g rules options d r end h e =
    let opening = opening_of g options d in let setting = setting_of g rules options d in
    let state : r.state ≡ state_after opening r.applications = h.state ∙ ap (state_after opening) (sym h.applications) in
    record {
      domain = ap (λ (b : RunBasis). b.domain) h.basis;
      opened = ap (λ (b : RunBasis). b.opened) h.basis;
      lines = ap (λ (b : RunBasis). b.lines) h.basis;
      next_ones = subst (AreNext setting opening) (sym h.applications) h.next_ones;
      within = within_all options.limit r.applications h.more h.applications h.within;
      points = ap (λ (st : State). st.points) state;
      front = ap (λ (st : State). st.front) state;
      ended = subst (λ (b : RunBasis). IsEndOf (setting_by b) b.options.limit (state_after opening r.applications) (length r.applications) end) h.basis
          (subst (λ (st : State). IsEndOf (setting_by r.basis) r.basis.options.limit st (length r.applications) end) state e);
    }
