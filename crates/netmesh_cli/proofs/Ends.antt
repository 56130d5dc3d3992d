-- How the run of an accepted geometry by no rule ends: stuck, since a domain is named, and its front is its boundary.
use Rattle.std.proofs.Common.{◌≡◌, ◌≢◌, ℕ, zero, suc, ◌+◌, ◌<◌, ◌==◌, Bool, true, false, not, ◌||◌, ◌&&◌, nat_eq, List, [], ◌∷◌, ◌++◌, map, length, slice_index_or, if◌then◌else◌, inl, inr, sym, subst, refl, ap, ◌∙◌, arith}
use Rattle.std.specs.Prelude.{ℤ, Option, None, Some, slice_get, ◌-◌}
use Rattle.std.specs.List.{list_any, flat_map, AllZip}
use Rattle.std.proofs.lemmas.List.{append_assoc, length_push}
use Rattle.std.proofs.lemmas.Bool.{cases_eq, or_right}
use Rattle.std.proofs.lemmas.Bool.Decides.{nat_tests}
use Rattle.grid_geom.specs.declared.Point.{Point}
use Rattle.grid_geom.specs.declared.Edge.{Edge}
use Rattle.in2d_reader.specs.declared.geometry.PointRow.{PointRow}
use Rattle.in2d_reader.specs.declared.geometry.SegmentRow.{SegmentRow}
use Rattle.in2d_reader.specs.declared.geometry.RawGeometry.{RawGeometry}
use Rattle.geom_check.specs.declared.kinds.Segment.{Segment}
use Rattle.geom_check.specs.Accepted.{NamesDomain}
use Rattle.geom_check.specs.Boundary.{point_at}
use Rattle.geom_check.specs.Placed.{segments_from}
use Rattle.geom_check.specs.Geometry.{PlanarMap, IsGeometryOf}
use Rattle.mesh_run.specs.declared.End.TheVariants.{Done, Stuck, Stopped}
use Rattle.size_field.specs.declared.cutting.TheConstants.{MOST_HALVINGS}
use Rattle.size_field.specs.Cutting.{parts, on_both_sides, cut_at, bound, parts_of, piece_of, pieces_from, pieces_of}
use Rattle.size_field.proofs.Bounds.{turned_by, of_segment, segment_after, boundary_append}
use Rattle.mesh_run.specs.declared.Options.{Options}
use Rattle.mesh_run.specs.Boundary.{piece_boundary}
use Rattle.mesh_run.specs.Opening.{unmeshed_run, end_of_front}
use Rattle.geom_check.specs.Domains.{domain_numbers, sides_of}
use Rattle.mesh_run.specs.Whole.{is_stopped, is_stuck}
use Rattle.mesh_run.proofs.Bounded.{front_is_boundary}
use Rattle.geom_check.proofs.DomainNumbers.{numbers_named}
use Rattle.rule_reader.specs.declared.rule.Rule.{Rule}
use Rattle.state_law.specs.State.{State}
use Rattle.rule_match.specs.declared.application.Application.{Application}
use Rattle.rule_match.specs.Candidate.{Attempt}
use Rattle.mesh_run.specs.declared.End.{End}
use Rattle.mesh_run.specs.declared.WholeRun.{WholeRun}
use Rattle.mesh_run.specs.declared.domain_run.DomainRun.{DomainRun}
use Rattle.mesh_run.specs.Steps.{RunSetting, IsNext, AreNext, IsEndOf, state_after}
use Rattle.mesh_run.specs.Runs.{opening_of, setting_of, IsDomainRun}
use Rattle.netmesh_cli.specs.Run.{MeshInput, options_of, IsRunOf}

-- ---- a domain that is named has a boundary

same_test : (d n : ℕ) → nat_eq d n ≡ (n == d)
same_test d n = grind (arith, nat_tests)

front_none : (xs ys : List Edge) → xs ++ ys ≡ [] → (xs ≡ []) × (ys ≡ [])
front_none [] ys e = (refl, e)
front_none (x ∷ xs) ys e = absurd (cc)

-- a segment has a piece, however it is cut
some_part : (bound : Point → ℕ) (n : ℕ) (a b : Point) → parts bound n a b ≢ []
unfolding parts
some_part bound zero a b none = absurd (cc)
some_part bound (suc n) a b none = go (some_part bound n a) (cut_at bound a b) none
  where
    go : ((m : Point) → parts bound n a m ≢ []) → (m : Option Point) → on_both_sides (parts bound n) a b m ≢ []
    go more None e = absurd (cc)
    go more (Some m) e = more m (front_none (parts bound n a m) (parts bound n m b) e).0

-- an edge that gives nothing has the domain on neither side
neither : (l r : Bool) (e : Edge) → turned_by l r e ≡ [] → (l ≡ false) × (r ≡ false)
neither true r e none = absurd (cc)
neither false true e none = absurd (cc)
neither false false e none = (refl, refl)

all_neither : (l r : Bool) (es : List Edge) → es ≢ [] → flat_map (turned_by l r) es ≡ [] → (l ≡ false) × (r ≡ false)
all_neither l r [] some none = absurd (some refl)
all_neither l r (e ∷ es) some none = neither l r e (front_none (turned_by l r e) (flat_map (turned_by l r) es) none).0

more_named : (x y more : Bool) → x ≡ false → y ≡ false → (x || (y || more)) ≡ true → more ≡ true
more_named true y more e f named = absurd (cc)
more_named false true more e f named = absurd (cc)
more_named false false more e f named = named

-- where a side of a segment has the domain, its pieces do
cut_some : (d : ℕ) (cut : Segment → List Edge) → ((s : Segment) → cut s ≢ []) → (all before ss : List Segment) → all ≡ before ++ ss → list_any (nat_eq d) (sides_of ss) ≡ true → piece_boundary d all (pieces_from cut (length before + 1) ss) ≢ []
cut_some d cut some all before [] h named none = absurd (cc)
cut_some d cut some all before (s ∷ ss) h named none =
    let n : ℕ = length before + 1 in
    let parts_none = front_none (piece_boundary d all (map (piece_of n) (cut s))) (piece_boundary d all (pieces_from cut (n + 1) ss)) (sym (boundary_append d all (map (piece_of n) (cut s)) (pieces_from cut (n + 1) ss)) ∙ none) in
    let here : flat_map (turned_by (s.left == d) (s.right == d)) (cut s) ≡ [] = sym (of_segment d all s n (cut s) (λ a b. segment_after all before s ss a b h)) ∙ parts_none.0 in
    let sides = all_neither (s.left == d) (s.right == d) (cut s) (some s) here in
    let later = more_named (nat_eq d s.left) (nat_eq d s.right) (list_any (nat_eq d) (sides_of ss)) (same_test d s.left ∙ sides.0) (same_test d s.right ∙ sides.1) named in
    cut_some d cut some all (before ++ s ∷ []) ss (h ∙ sym (append_assoc before (s ∷ []) ss)) later
    (ap (λ (k : ℕ). piece_boundary d all (pieces_from cut (k + 1) ss)) (length_push before s) ∙ parts_none.1)

-- the boundary of a domain in pieces
abbrev edges_in : PlanarMap → Options → ℕ → List Edge
edges_in g o d = piece_boundary d g.segments (pieces_of g o.greatest o.grading)

some_edge : (g : PlanarMap) (o : Options) (d : ℕ) → list_any (nat_eq d) (sides_of g.segments) ≡ true → edges_in g o d ≢ []
some_edge g o d named = cut_some d (parts_of g o.greatest o.grading) (λ s. some_part (bound g o.greatest o.grading s) MOST_HALVINGS (point_at g.points s.p) (point_at g.points s.q)) g.segments [] g.segments refl named

-- ---- the ends of domains

-- the opening of a domain's run, left as it is
abbrev run_in : PlanarMap → Options → ℕ → DomainRun
run_in g o n = unmeshed_run n g.segments (pieces_of g o.greatest o.grading)

-- a front that isn't stuck is empty
empty_front : (edge : ℕ × ℕ × ℕ → Edge) (front : List (ℕ × ℕ × ℕ)) → is_stuck (end_of_front front) ≡ false → map edge front ≡ []
empty_front edge [] e = refl
empty_front edge (line ∷ lines) e = absurd (cc)

never_stopped : (front : List (ℕ × ℕ × ℕ)) → is_stopped (end_of_front front) ≡ false
never_stopped [] = refl
never_stopped (line ∷ lines) = refl

no_boundary : (g : PlanarMap) (o : Options) (d : ℕ) → is_stuck (run_in g o d).end ≡ false → edges_in g o d ≡ []
no_boundary g o d e = sym (front_is_boundary d g.segments (pieces_of g o.greatest o.grading)) ∙ empty_front _ (run_in g o d).front e

none_stopped : (g : PlanarMap) (o : Options) (ds : List ℕ) → list_any (λ r. is_stopped r.end) (map (run_in g o) ds) ≡ false
none_stopped g o [] = refl
none_stopped g o (d ∷ ds) = ap (λ (b : Bool). b || list_any (λ r. is_stopped r.end) (map (run_in g o) ds)) (never_stopped (run_in g o d).front) ∙ none_stopped g o ds

is_first : (b more : Bool) → b ≢ false → (b || more) ≡ true
is_first true more h = refl
is_first false more h = absurd (h refl)

later_one : (x more : Bool) → x ≡ false → (x || more) ≡ true → more ≡ true
later_one true more e h = absurd (cc)
later_one false more e h = h

some_stuck : (g : PlanarMap) (o : Options) (ds : List ℕ) (d : ℕ) → list_any (nat_eq d) ds ≡ true → edges_in g o d ≢ [] → list_any (λ r. is_stuck r.end) (map (run_in g o) ds) ≡ true
some_stuck g o [] d named some = absurd (cc)
some_stuck g o (n ∷ ds) d named some = elim (cases_eq d n) [
  | inl same ↦ is_first _ _ (λ e. some (subst (λ (m : ℕ). edges_in g o m ≡ []) (sym same) (no_boundary g o n e)))
  | inr other ↦ or_right (is_stuck (run_in g o n).end) _ (some_stuck g o ds d (later_one (nat_eq d n) _ (differ d n other) named) some)
]
  where
    differ : (d n : ℕ) → d ≢ n → nat_eq d n ≡ false
    differ d n other = grind (arith, nat_tests)

-- ---- some domain is named

-- a domain above 0 on a side of a segment
record IsNamed (ss : List Segment) : Type 0 where
  domain : ℕ
  positive : 0 < domain
  named : list_any (nat_eq domain) (sides_of ss) ≡ true

itself : (d : ℕ) → nat_eq d d ≡ true
itself d = grind (arith, nat_tests)

named_first : (shift : ℤ) (points : List PointRow) (n : ℕ) (row : SegmentRow) (rows : List SegmentRow) → NamesDomain row → IsNamed (segments_from shift points n (row ∷ rows))
named_first shift points n row rows (inl left) = record { domain = row.left; positive = left; named = ap (λ (b : Bool). b || (nat_eq row.left row.right || list_any (nat_eq row.left) (sides_of (segments_from shift points (n + 1) rows)))) (itself row.left) }
named_first shift points n row rows (inr right) = record { domain = row.right; positive = right; named = or_right (nat_eq row.right row.left) _ (ap (λ (b : Bool). b || list_any (nat_eq row.right) (sides_of (segments_from shift points (n + 1) rows))) (itself row.right)) }

named_at : (shift : ℤ) (points : List PointRow) (n : ℕ) (rows : List SegmentRow) (k : ℕ) (x : SegmentRow) → k < length rows → slice_index_or rows k x ≡ x → NamesDomain x → IsNamed (segments_from shift points n rows)
named_at shift points n [] k x inside at names = absurd (omega arith)
named_at shift points n (row ∷ rows) zero x inside at names = named_first shift points n row rows (subst NamesDomain (sym at) names)
named_at shift points n (row ∷ rows) (suc k) x inside at names = let later = named_at shift points (n + 1) rows k x (omega arith) at names in record {
  domain = later.domain;
  positive = later.positive;
  named = or_right (nat_eq later.domain row.left) _ (or_right (nat_eq later.domain row.right) _ later.named);
}

among_numbers : (ss : List Segment) (d : ℕ) → 0 < d → list_any (nat_eq d) (sides_of ss) ≡ true → list_any (nat_eq d) (domain_numbers ss) ≡ true
among_numbers ss d positive named = numbers_named ss d ∙ both (nat_eq d 0) _ (above d positive) named
  where
    above : (d : ℕ) → 0 < d → nat_eq d 0 ≡ false
    above d positive = grind (arith, nat_tests)

    both : (x y : Bool) → x ≡ false → y ≡ true → (not x && y) ≡ true
    both true y e h = absurd (cc)
    both false y e h = h

ended : (a b : Bool) → a ≡ false → b ≡ true → (if a then Stopped else (if b then Stuck else Done)) ≡ Stuck
ended a b e h = rw (e, h) refl

-- ---- by no rule nothing applies

no_next : (s : RunSetting) (st : State) (a : Application) → s.rules ≡ [] → ¬ IsNext s st a
no_next s st a none next = unruled s.rules none next.best.attempt next.best.least.of.is_rule
  where
    unruled : (rules : List Rule) → rules ≡ [] → (t : Attempt) → slice_get rules (t.rule - 1) ≡ Some t.text → ⊥
    unruled [] none t is = cc
    unruled (_ ∷ _) none t is = cc

some_left : (front : List (ℕ × ℕ × ℕ)) → front ≢ [] → Stuck ≡ end_of_front front
some_left [] some = absurd (some refl)
some_left (line ∷ lines) some = refl

-- so a domain's run ends with its opening
end_by_none : (s : RunSetting) (limit : Option ℕ) (st : State) (made : List Application) (e : End) → s.rules ≡ [] → AreNext s st made → IsEndOf s limit (state_after st made) (length made) e → e ≡ end_of_front st.front
end_by_none s limit st [] Done none next ended = sym (ap end_of_front ended)
end_by_none s limit st [] Stuck none next ended = some_left st.front ended.0
end_by_none s limit st [] Stopped none next ended = absurd (no_next s st ended.0.application none ended.0.next)
end_by_none s limit st (a ∷ made) e none next ended = absurd (no_next s st a none next.0)

same_any : (p : End → Bool) (g : PlanarMap) (rules : List Rule) (o : Options) (ds : List ℕ) (rs : List DomainRun) → rules ≡ [] → AllZip (IsDomainRun g rules o) ds rs → list_any (λ r. p r.end) rs ≡ list_any (λ r. p r.end) (map (run_in g o) ds)
same_any p g rules o [] [] none runs = refl
same_any p g rules o [] (_ ∷ _) none runs = absurd runs
same_any p g rules o (_ ∷ _) [] none runs = absurd runs
same_any p g rules o (d ∷ ds) (r ∷ rs) none runs =
    let is = runs.0 in
    let first = end_by_none (setting_of g rules o d) o.limit (opening_of g o d) r.applications r.end none is.next_ones is.ended in
    let later = same_any p g rules o ds rs none runs.1 in
    λ i. p (first i) || later i

pub accepted_stuck : (raw : RawGeometry) (input : MeshInput) (run : WholeRun) → IsGeometryOf raw input.geometry → input.rules ≡ [] → IsRunOf input run → run.end ≡ Stuck
accepted_stuck raw input run is none of_run =
    let g = input.geometry in
    let some = is.accepted.domain in
    let of_file = named_at g.shift raw.points 1 raw.segments some.0 some.1 some.2 some.3 some.4 in
    let found : IsNamed g.segments = subst IsNamed (sym is.segments) of_file in
    let o = options_of input in
    of_run.end ∙ ended _ _
    (same_any is_stopped g input.rules o (domain_numbers g.segments) run.domains none of_run.domains ∙ none_stopped g o (domain_numbers g.segments))
    (same_any is_stuck g input.rules o (domain_numbers g.segments) run.domains none of_run.domains ∙ some_stuck g o (domain_numbers g.segments) found.domain (among_numbers g.segments found.domain found.positive found.named) (some_edge g o found.domain found.named))
