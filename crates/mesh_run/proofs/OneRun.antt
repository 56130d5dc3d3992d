-- A geometry, rules and options have one run: the next application is one, and a run ends where none comes next or none is allowed.
use Rattle.std.proofs.Common.{◌≡◌, ℕ, ◌+◌, ◌-◌, ◌<◌, ◌≤◌, List, [], ◌∷◌, length, Option, None, Some, refl, sym, ap, ◌∙◌, subst, arith, inl, inr}
use Rattle.std.specs.Prelude.{slice_get}
use Rattle.std.specs.List.{AllZip, Contains}
use Rattle.std.proofs.lemmas.Bool.{cases_order}
use Rattle.geom_check.specs.Domains.{domain_numbers}
use Rattle.geom_check.specs.Geometry.{PlanarMap}
use Rattle.rule_reader.specs.declared.rule.Rule.{Rule}
use Rattle.rule_maps.specs.Frame.{IsFrameOf}
use Rattle.size_field.specs.Size.{SizeField, size_at}
use Rattle.state_law.specs.State.{State, point_at}
use Rattle.rule_match.specs.declared.application.Application.{Application}
use Rattle.rule_match.specs.Applied.{application}
use Rattle.rule_match.specs.Best.{IsBest}
use Rattle.rule_match.specs.Candidate.{Attempt, IsCandidate, nth}
use Rattle.rule_match.specs.Least.{IsOf}
use Rattle.rule_match.proofs.OneLeast.{one_least}
use Rattle.rule_match.proofs.OverRules.{same_frame}
use Rattle.mesh_run.specs.declared.End.{End}
use Rattle.mesh_run.specs.declared.End.TheVariants.{Done, Stuck, Stopped}
use Rattle.mesh_run.specs.declared.Options.{Options}
use Rattle.mesh_run.specs.declared.WholeRun.{WholeRun}
use Rattle.mesh_run.specs.declared.domain_run.DomainRun.{DomainRun}
use Rattle.mesh_run.specs.Runs.{opening_of, setting_of, IsDomainRun, IsWholeRun}
use Rattle.mesh_run.specs.Steps.{RunSetting, IsBefore, IsNext, AreNext, NothingApplies, IsEndOf, IsWithin, applied, state_after}
use Rattle.mesh_run.specs.Whole.{end_of_all}

-- ---- one line, class, rule and assignment give one attempt
or_other : Rule → Option Rule → Rule
or_other x None = x
or_other x (Some z) = z

same_text : (x y : Rule) → Some x ≡ Some y → x ≡ y
unfolding or_other
same_text x y e = ap (or_other x) e

one_attempt : (sizes : SizeField) (st : State) (rules : List Rule) (line class : ℕ) (t u : Attempt) → IsOf sizes st rules line class t → IsOf sizes st rules line class u → IsCandidate st t → IsCandidate st u
    → t.rule ≡ u.rule → t.points ≡ u.points → t ≡ u
one_attempt sizes st rules line class t u h k c e same_rule same_points =
    let classes : t.class ≡ u.class = h.same_class ∙ sym k.same_class in
    let starts : t.line.1 ≡ u.line.1 = sym c.at_start ∙ ap (λ (ns : List ℕ). nth ns 1) same_points ∙ e.at_start in
    let ends : t.line.2 ≡ u.line.2 = sym c.at_end ∙ ap (λ (ns : List ℕ). nth ns 2) same_points ∙ e.at_end in
    let lines : t.line ≡ u.line = λ i. ((h.same_line ∙ sym k.same_line) i, starts i, ends i) in
    let framed : IsFrameOf (point_at st.points u.line.1) (point_at st.points u.line.2) (size_at sizes t.frame.middle) t.frame =
    subst (λ (l : ℕ × ℕ × ℕ). IsFrameOf (point_at st.points l.1) (point_at st.points l.2) (size_at sizes t.frame.middle) t.frame) lines h.framed in
    let frames : t.frame ≡ u.frame = same_frame (point_at st.points u.line.1) (point_at st.points u.line.2) sizes t.frame u.frame framed k.framed in
    let texts : t.text ≡ u.text = same_text t.text u.text (sym h.is_rule ∙ ap (λ (n : ℕ). slice_get rules (n - 1)) same_rule ∙ k.is_rule) in
    λ i. record { class = classes i; line = lines i; frame = frames i; rule = same_rule i; text = texts i; points = same_points i }

one_best : (sizes : SizeField) (st : State) (rules : List Rule) (line class : ℕ) (a b : Application) → IsBest sizes st rules line class a → IsBest sizes st rules line class b → a ≡ b
one_best sizes st rules line class a b h k =
    let t = h.attempt in let u = k.attempt in
    let same = one_least sizes st rules line class t u h.least k.least in
    h.gives ∙ ap (application st) (one_attempt sizes st rules line class t u h.least.of k.least.of h.least.candidate k.least.candidate same.0 same.1) ∙ sym k.gives

-- ---- the next application
not_before : (s : RunSetting) (st : State) (a b : Application) → IsNext s st a → IsNext s st b → IsBefore a.class a.line b → ⊥
not_before s st a b h k before = (k.least a.class a.line h.first_class before).none h.best.attempt h.best.least.of h.best.least.candidate

-- of two numbers neither is less
neither : (m n : ℕ) → (m < n → ⊥) → (n < m → ⊥) → m ≡ n
neither m n h k = elim (cases_order m n) [
  | inl e ↦ e
  | inr r ↦ elim r [ inl l ↦ absurd (h l) | inr l ↦ absurd (k l) ]
]

pub one_next : (s : RunSetting) (st : State) (a b : Application) → IsNext s st a → IsNext s st b → a ≡ b
one_next s st a b h k =
    let classes : a.class ≡ b.class = neither a.class b.class (λ l. not_before s st a b h k (inl l)) (λ l. not_before s st b a k h (inl l)) in
    let lines : a.line ≡ b.line = neither a.line b.line (λ l. not_before s st a b h k (inr (classes, l))) (λ l. not_before s st b a k h (inr (sym classes, l))) in
    one_best s.sizes st s.rules b.line b.class a b
    (subst (λ (n : ℕ). IsBest s.sizes st s.rules n b.class a) lines (subst (λ (n : ℕ). IsBest s.sizes st s.rules a.line n a) classes h.best)) k.best

-- ---- ends
-- where an application comes next, a front is left
pub some_line : (s : RunSetting) (st : State) (a : Application) → IsNext s st a → st.front ≡ [] → ⊥
some_line s st a n e = none_there n.best.attempt.line st.front e n.best.least.of.on_front
  where
    none_there : (line : ℕ × ℕ × ℕ) (front : List (ℕ × ℕ × ℕ)) → front ≡ [] → Contains front line → ⊥
    none_there line front e c = no_length (length front) (ap length e) c.0 c.1
      where
        no_length : (n : ℕ) → n ≡ 0 → (k : ℕ) → k < n → ⊥
        no_length n e k h = omega (arith, e, h)

none_next : (s : RunSetting) (st : State) (a : Application) → IsNext s st a → NothingApplies s st → ⊥
none_next s st a n none = (none.none a.class a.line n.first_class n.last_class).none n.best.attempt n.best.least.of n.best.least.candidate

-- a run has one end
pub one_end : (s : RunSetting) (limit : Option ℕ) (st : State) (made : ℕ) (e f : End) → IsEndOf s limit st made e → IsEndOf s limit st made f → e ≡ f
one_end s limit st made Done Done h k = refl
one_end s limit st made Done Stuck h k = absurd (k.0 h)
one_end s limit st made Done Stopped h k = absurd (some_line s st k.0.application k.0.next h)
one_end s limit st made Stuck Done h k = absurd (h.0 k)
one_end s limit st made Stuck Stuck h k = refl
one_end s limit st made Stuck Stopped h k = absurd (none_next s st k.0.application k.0.next h.1)
one_end s limit st made Stopped Done h k = absurd (some_line s st h.0.application h.0.next k)
one_end s limit st made Stopped Stuck h k = absurd (none_next s st h.0.application h.0.next k.1)
one_end s limit st made Stopped Stopped h k = refl

-- where it has ended, no further application comes next within the limit
no_further : (s : RunSetting) (limit : Option ℕ) (st : State) (made more : ℕ) (e : End) (a : Application) → IsEndOf s limit st made e → IsNext s st a → made < more → IsWithin limit more → ⊥
no_further s limit st made more Done a h n less within = some_line s st a n h
no_further s limit st made more Stuck a h n less within = none_next s st a n h.1
no_further s None st made more Stopped a h n less within = h.1
no_further s (Some limit) st made more Stopped a h n less within = past limit h.1 within less
  where
    past : (limit : ℕ) → limit ≤ made → more ≤ limit → made < more → ⊥
    past limit h k l = omega (arith, h, k, l)

-- a list of applications from a state on, n of which are made in all
record IsRest (s : RunSetting) (limit : Option ℕ) (st : State) (n : ℕ) (applications : List Application) : Type 0 where
  next_ones : AreNext s st applications
  end : End
  ended : IsEndOf s limit (state_after st applications) n end
  within : IsWithin limit n

one_rest : (s : RunSetting) (limit : Option ℕ) (st : State) (m n : ℕ) (first second : List Application) → m + length second ≡ n + length first → IsRest s limit st m first → IsRest s limit st n second → first ≡ second
one_rest s limit st m n [] [] e h k = refl
one_rest s limit st m n [] (b ∷ second) e h k = absurd (no_further s limit st m n h.end b h.ended k.next_ones.0 (omega (arith, e)) k.within)
one_rest s limit st m n (a ∷ first) [] e h k = absurd (no_further s limit st n m k.end a k.ended h.next_ones.0 (omega (arith, e)) h.within)
one_rest s limit st m n (a ∷ first) (b ∷ second) e h k =
    let same : a ≡ b = one_next s st a b h.next_ones.0 k.next_ones.0 in
    let rest : IsRest s limit (applied st a) n second = subst (λ (c : Application). IsRest s limit (applied st c) n second) (sym same) (record { next_ones = k.next_ones.1; end = k.end; ended = k.ended; within = k.within }) in
    let after : first ≡ second = one_rest s limit (applied st a) m n first second (omega (arith, e)) (record { next_ones = h.next_ones.1; end = h.end; ended = h.ended; within = h.within }) rest in
    λ i. same i ∷ after i

-- ---- runs
rest_of : (g : PlanarMap) (rules : List Rule) (options : Options) (d : ℕ) (r : DomainRun) → IsDomainRun g rules options d r → IsRest (setting_of g rules options d) options.limit (opening_of g options d) (length r.applications) r.applications
rest_of g rules options d r h = record { next_ones = h.next_ones; end = r.end; ended = h.ended; within = h.within }

pub one_domain_run : (g : PlanarMap) (rules : List Rule) (options : Options) (d : ℕ) (r q : DomainRun) → IsDomainRun g rules options d r → IsDomainRun g rules options d q → r ≡ q
one_domain_run g rules options d r q h k =
    let s = setting_of g rules options d in let st = opening_of g options d in
    let applications : r.applications ≡ q.applications = one_rest s options.limit st (length r.applications) (length q.applications) r.applications q.applications (turned (length r.applications) (length q.applications)) (rest_of g rules options d r h) (rest_of g rules options d q k) in
    let ended : IsEndOf s options.limit (state_after st q.applications) (length q.applications) r.end = subst (λ (more : List Application). IsEndOf s options.limit (state_after st more) (length more) r.end) applications h.ended in
    let ends : r.end ≡ q.end = one_end s options.limit (state_after st q.applications) (length q.applications) r.end q.end ended k.ended in
    let domains : r.domain ≡ q.domain = h.domain ∙ sym k.domain in
    let points : r.points ≡ q.points = h.points ∙ ap (λ (more : List Application). (state_after st more).points) applications ∙ sym k.points in
    let front : r.front ≡ q.front = h.front ∙ ap (λ (more : List Application). (state_after st more).front) applications ∙ sym k.front in
    let opened : r.opened ≡ q.opened = h.opened ∙ sym k.opened in
    let lines : r.lines ≡ q.lines = h.lines ∙ sym k.lines in
    λ i. record { domain = domains i; points = points i; opened = opened i; lines = lines i; applications = applications i; front = front i; end = ends i }
  where
    turned : (m n : ℕ) → m + n ≡ n + m
    turned m n = omega arith

one_each : (g : PlanarMap) (rules : List Rule) (options : Options) (ds : List ℕ) (rs qs : List DomainRun) → AllZip (IsDomainRun g rules options) ds rs → AllZip (IsDomainRun g rules options) ds qs → rs ≡ qs
one_each g rules options [] [] [] h k = refl
one_each g rules options [] [] (q ∷ qs) h k = absurd k
one_each g rules options [] (r ∷ rs) qs h k = absurd h
one_each g rules options (d ∷ ds) [] qs h k = absurd h
one_each g rules options (d ∷ ds) (r ∷ rs) [] h k = absurd k
one_each g rules options (d ∷ ds) (r ∷ rs) (q ∷ qs) h k = λ i. one_domain_run g rules options d r q h.0 k.0 i ∷ one_each g rules options ds rs qs h.1 k.1 i

pub one_run : (g : PlanarMap) (rules : List Rule) (options : Options) (v w : WholeRun) → IsWholeRun g rules options v → IsWholeRun g rules options w → v ≡ w
one_run g rules options v w h k =
    let domains : v.domains ≡ w.domains = one_each g rules options (domain_numbers g.segments) v.domains w.domains h.domains k.domains in
    let shifts : v.shift ≡ w.shift = h.shift ∙ sym k.shift in
    let choices : v.options ≡ w.options = h.with_options ∙ sym k.with_options in
    let pieces : v.pieces ≡ w.pieces = h.pieces ∙ sym k.pieces in
    let ends : v.end ≡ w.end = h.end ∙ ap end_of_all domains ∙ sym k.end in
    λ i. record { shift = shifts i; options = choices i; pieces = pieces i; domains = domains i; end = ends i }
