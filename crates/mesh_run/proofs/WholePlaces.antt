-- The points of a run's mesh have different places. A new point is a corner of an element of its domain and no end of the domain's pieces: it comes after these in the domain's list of different points. So it is no mesh point of another domain, by the law of places in two domains.
use Rattle.std.proofs.Common.{◌≡◌, ℕ, zero, suc, ◌-◌, ◌<◌, ◌==◌, ◌||◌, Bool, true, false, List, [], ◌∷◌, ◌++◌, map, drop, length, slice_index_or, None, refl, sym, ap, ◌∙◌, subst, arith, inl, inr, ◌⊎◌, true≢false, pos}
use Rattle.std.specs.Prelude.{◌≢◌}
use Rattle.std.specs.List.{All, AllByRecursion, AllZip, IsDistinct, flat_map}
use Rattle.std.proofs.Math.Seq.{drop-append_seam}
use Rattle.std.proofs.lemmas.List.Elements.{recursion_from_All}
use Rattle.grid_geom.specs.declared.Point.{Point}
use Rattle.grid_geom.specs.declared.Edge.{Edge}
use Rattle.grid_geom.specs.Closed.{same_point}
use Rattle.geom_check.specs.declared.kinds.Segment.{Segment}
use Rattle.geom_check.specs.Accepted.{ArePlacesDifferent, HasDifferentDomains}
use Rattle.geom_check.specs.Boundary.{back, edges_of, with_edge}
use Rattle.geom_check.specs.Domains.{domain_numbers, IsRising}
use Rattle.geom_check.specs.Geometry.{PlanarMap, IsGeometry}
use Rattle.geom_check.proofs.DomainNumbers.{numbers_rise}
use Rattle.size_field.specs.declared.pieces.Piece.{Piece}
use Rattle.size_field.specs.Boundary.{piece_boundary, piece_edge, segment_of, turned_to}
use Rattle.size_field.specs.Parts.{IsPiece}
use Rattle.size_field.proofs.AllPieces.{pieces_are}
use Rattle.state_law.specs.Saved.{IsElementCorner, IsFrontPoint}
use Rattle.state_law.specs.State.{State}
use Rattle.state_law.proofs.Foreign.{shared_place}
use Rattle.state_law.proofs.Lists.{all_append, all_both, all_map, all_of, all_second}
use Rattle.front_chain.proofs.Lines.{eq_self}
use Rattle.rule_reader.specs.declared.rule.Rule.{Rule}
use Rattle.rule_reader.specs.Normal.{CanPrint}
use Rattle.mesh_run.specs.declared.Options.{Options}
use Rattle.mesh_run.specs.declared.WholeRun.{WholeRun}
use Rattle.mesh_run.specs.declared.domain_run.DomainRun.{DomainRun}
use Rattle.mesh_run.specs.Mesh.{new_points, whole_points}
use Rattle.mesh_run.specs.Numbering.{ends_of, is_among}
use Rattle.mesh_run.specs.Opening.{mesh_points}
use Rattle.mesh_run.specs.Reached.{elements_at, front_at}
use Rattle.mesh_run.specs.Runs.{opening_of, pieces_by, setting_of, IsDomainRun, IsWholeRun}
use Rattle.mesh_run.specs.Steps.{state_after}
use Rattle.mesh_run.proofs.Bounded.{ends_listed}
use Rattle.mesh_run.proofs.Conforming.{IsRunOf, IsSoundAt, all_runs, in_order, neighbours, sound_opening, sound_state}
use Rattle.mesh_run.proofs.Covered.{reached_state}
use Rattle.mesh_run.proofs.Listed.{among_first, same_itself, same_place}
use Rattle.mesh_run.proofs.Made.{all_used}
use Rattle.mesh_run.proofs.Named.{first_distinct}
use Rattle.mesh_run.proofs.Steps.{reached_opening}
use Rattle.mesh_run.proofs.Written.{all_made, apart_number, listed_item, points_after}

-- ---- lists of different points
-- of two lists of different points the first has none of the second's
no_more : (x : Point) (xs ys : List Point) → AllByRecursion (λ q. same_point x q ≡ false) ys → AllByRecursion (λ q. is_among xs q ≡ false) ys → AllByRecursion (λ q. is_among (x ∷ xs) q ≡ false) ys
no_more x xs ys h k = all_both (λ q. same_point x q ≡ false) (λ q. is_among xs q ≡ false) (λ q. is_among (x ∷ xs) q ≡ false) (λ q apart none. by q apart none (same_point q x) refl) ys h k
  where
    by : (q : Point) → same_point x q ≡ false → is_among xs q ≡ false → (b : Bool) → same_point q x ≡ b → (same_point q x || is_among xs q) ≡ false
    by q apart none true e = absurd (true≢false (sym (same_itself x) ∙ ap (same_point x) (sym (same_place q x e)) ∙ apart))
    by q apart none false e = ap (λ (b : Bool). b || is_among xs q) e ∙ none

none_among : (xs ys : List Point) → IsDistinct same_point (xs ++ ys) → AllByRecursion (λ q. is_among xs q ≡ false) ys
unfolding IsDistinct
none_among [] ys d = all_of (λ q. is_among [] q ≡ false) (λ q. refl) ys
none_among (x ∷ xs) ys d = no_more x xs ys (all_second (λ q. same_point x q ≡ false) xs ys d.0) (none_among xs ys d.1)

second_distinct : (xs ys : List Point) → IsDistinct same_point (xs ++ ys) → IsDistinct same_point ys
unfolding IsDistinct
second_distinct [] ys d = d
second_distinct (x ∷ xs) ys d = second_distinct xs ys d.1

differ_or : (p q : Point) → ¬ (p ≡ q) → same_point p q ≡ false
differ_or p q n = by (same_point p q) refl
  where
    by : (b : Bool) → same_point p q ≡ b → b ≡ false
    by true e = absurd (n (same_place p q e))
    by false e = refl

both_distinct : (xs ys : List Point) → IsDistinct same_point xs → IsDistinct same_point ys → AllByRecursion (λ p. AllByRecursion (λ q. ¬ (p ≡ q)) ys) xs → IsDistinct same_point (xs ++ ys)
unfolding IsDistinct
both_distinct [] ys d e apart = e
both_distinct (x ∷ xs) ys d e apart =
    (all_append (λ q. same_point x q ≡ false) xs ys d.0 (all_map (λ q. ¬ (x ≡ q)) (λ q. same_point x q ≡ false) (λ q n. differ_or x q n) ys apart.0), both_distinct xs ys d.1 e apart.1)

pub at_item : {X : Type 0} (P : X → Type 0) (xs : List X) (k : ℕ) (d : X) → AllByRecursion P xs → k < length xs → P (slice_index_or xs k d)
at_item P [] k d h within = absurd (omega (arith, within))
at_item P (x ∷ xs) zero d h within = h.0
at_item P (x ∷ xs) (suc k) d h within = at_item P xs k d h.1 (omega (arith, within))

pub places_differ : (ps : List Point) → IsDistinct same_point ps → ArePlacesDifferent ps
unfolding IsDistinct
places_differ ps d i j t = clash ps i j (record { x = pos 0; y = pos 0 }) d t.ordered t.in_list (t.together _)
  where
    clash : (ps : List Point) (i j : ℕ) (d : Point) → IsDistinct same_point ps → i < j → j < length ps → slice_index_or ps i d ≡ slice_index_or ps j d → ⊥
    clash [] i j d all less within same = omega (arith, within)
    clash (p ∷ ps) zero zero d all less within same = omega (arith, less)
    clash (p ∷ ps) zero (suc j) d all less within same =
        true≢false (sym (same_itself p) ∙ ap (same_point p) same ∙ at_item (λ q. same_point p q ≡ false) ps j d all.0 (omega (arith, within)))
    clash (p ∷ ps) (suc i) zero d all less within same = omega (arith, less)
    clash (p ∷ ps) (suc i) (suc j) d all less within same = clash ps i j d all.1 (omega (arith, less)) (omega (arith, within)) same

-- ---- ends of pieces
end_among : (es : List Edge) (p : Point) → IsFrontPoint es p → is_among (ends_of es) p ≡ true
end_among [] p h = absurd h
end_among (e ∷ es) p (inl (inl i)) = ap (λ (b : Bool). b || (same_point p e.b || is_among (ends_of es) p)) (ap (same_point p) (sym i) ∙ same_itself p)
end_among (e ∷ es) p (inl (inr i)) = later (same_point p e.a) (ap (λ (b : Bool). b || is_among (ends_of es) p) (ap (same_point p) (sym i) ∙ same_itself p))
  where
    later : (a : Bool) → (same_point p e.b || is_among (ends_of es) p) ≡ true → (a || (same_point p e.b || is_among (ends_of es) p)) ≡ true
    later true h = refl
    later false h = h
end_among (e ∷ es) p (inr h) = later (same_point p e.a) (same_point p e.b) (end_among es p h)
  where
    later : (a b : Bool) → is_among (ends_of es) p ≡ true → (a || (b || is_among (ends_of es) p)) ≡ true
    later true b h = refl
    later false true h = refl
    later false false h = h

first_point : (es fs : List Edge) (p : Point) → IsFrontPoint es p → IsFrontPoint (es ++ fs) p
first_point [] fs p h = absurd h
first_point (e ∷ es) fs p (inl i) = inl i
first_point (e ∷ es) fs p (inr i) = inr (first_point es fs p i)

second_point : (es fs : List Edge) (p : Point) → IsFrontPoint fs p → IsFrontPoint (es ++ fs) p
second_point [] fs p h = h
second_point (e ∷ es) fs p h = inr (second_point es fs p h)

-- the place is an end of a piece of some domain
pub record IsEndOfSome (segments : List Segment) (pieces : List Piece) (p : Point) : Type 0 where
  pub domain : ℕ
  pub above : 0 < domain
  pub end : IsFrontPoint (piece_boundary domain segments pieces) p

-- the boundary of one of a segment's two domains has the ends of its piece
turned_end : (s : Segment) (e : Edge) (p : Point) → HasDifferentDomains s → (p ≡ e.a) ⊎ (p ≡ e.b) → (d : ℕ) × (0 < d) × IsFrontPoint (turned_to d s e) p
turned_end s e p differ ends = by s.left refl
  where
    back_ends : (p ≡ e.a) ⊎ (p ≡ e.b) → (p ≡ e.b) ⊎ (p ≡ e.a)
    back_ends (inl i) = inr i
    back_ends (inr i) = inl i

    on_left : (right : Bool) → (p ≡ e.a) ⊎ (p ≡ e.b) → IsFrontPoint (with_edge true e (with_edge right (back e) [])) p
    on_left right ends = inl ends

    positive : (n : ℕ) → (n ≡ 0 → ⊥) → 0 < n
    positive zero h = absurd (h refl)
    positive (suc n) h = omega arith

    by : (left : ℕ) → s.left ≡ left → (d : ℕ) × (0 < d) × IsFrontPoint (turned_to d s e) p
    by zero is = (
      s.right,
      positive s.right (λ z. differ (is ∙ sym z)),
      subst (λ (b : Bool). IsFrontPoint (with_edge b e (with_edge (s.right == s.right) (back e) [])) p) (sym (apart_number s.left s.right differ))
          (subst (λ (b : Bool). IsFrontPoint (with_edge b (back e) []) p) (sym (eq_self s.right)) (inl (back_ends ends))),
    )
    by (suc n) is = (
      s.left,
      omega (arith, is),
      subst (λ (b : Bool). IsFrontPoint (with_edge b e (with_edge (s.right == s.left) (back e) [])) p) (sym (eq_self s.left)) (on_left (s.right == s.left) ends),
    )

either_end : (p : Point) (e : Edge) (rest : Bool) → (same_point p e.a || (same_point p e.b || rest)) ≡ true → ((p ≡ e.a) ⊎ (p ≡ e.b)) ⊎ (rest ≡ true)
either_end p e rest h = first (same_point p e.a) refl h
  where
    second : (b : Bool) → same_point p e.b ≡ b → (b || rest) ≡ true → ((p ≡ e.a) ⊎ (p ≡ e.b)) ⊎ (rest ≡ true)
    second true i h = inl (inr (same_place p e.b i))
    second false i h = inr h

    first : (b : Bool) → same_point p e.a ≡ b → (b || (same_point p e.b || rest)) ≡ true → ((p ≡ e.a) ⊎ (p ≡ e.b)) ⊎ (rest ≡ true)
    first true i h = inl (inl (same_place p e.a i))
    first false i h = second (same_point p e.b) refl h

some_domain : (segments : List Segment) (pieces : List Piece) (p : Point) → All HasDifferentDomains segments → AllByRecursion (IsPiece (length segments)) pieces → is_among (ends_of (map piece_edge pieces)) p ≡ true → IsEndOfSome segments pieces p
some_domain segments [] p differ parts among = absurd (true≢false (sym among))
some_domain segments (piece ∷ pieces) p differ parts among = by (λ rest. some_domain segments pieces p differ parts.1 rest) (either_end p (piece_edge piece) (is_among (ends_of (map piece_edge pieces)) p) among)
  where
    s : Segment
    s = segment_of segments piece

    two_sided : HasDifferentDomains (segment_of segments piece)
    two_sided = differ (piece.segment - 1) (record { left = 0; right = 0; p = 0; q = 0; bc = 0; maxh = None }) (omega (arith, parts.0.of_segment.first, parts.0.of_segment.last))

    by : (is_among (ends_of (map piece_edge pieces)) p ≡ true → IsEndOfSome segments pieces p) → ((p ≡ piece.a) ⊎ (p ≡ piece.b)) ⊎ (is_among (ends_of (map piece_edge pieces)) p ≡ true) → IsEndOfSome segments (piece ∷ pieces) p
    by later (inl ends) = let found = turned_end s (piece_edge piece) p two_sided ends in
        record { domain = found.0; above = found.1; end = first_point (turned_to found.0 s (piece_edge piece)) (piece_boundary found.0 segments pieces) p found.2 }
    by later (inr rest) = let found = later rest in
        record { domain = found.domain; above = found.above; end = second_point (turned_to found.domain s (piece_edge piece)) (piece_boundary found.domain segments pieces) p found.end }

pub all_ends_of_some : (g : PlanarMap) (options : Options) → IsGeometry g → AllByRecursion (IsEndOfSome g.segments (pieces_by g options)) (mesh_points (pieces_by g options))
all_ends_of_some g options h =
    let pieces = pieces_by g options in
    all_map (λ p. is_among (mesh_points pieces) p ≡ true) (IsEndOfSome g.segments pieces)
    (λ p among. some_domain g.segments pieces p h.planar.sides (pieces_are g options.greatest options.grading h) (ap (λ (f : Point → Bool). f p) (sym (among_first (ends_of (map piece_edge pieces)))) ∙ among))
    (mesh_points pieces) (recursion_from_All (λ p. is_among (mesh_points pieces) p ≡ true) (mesh_points pieces) (listed_item (mesh_points pieces)))

-- ---- the new points of a domain's run
abbrev pub last_state : PlanarMap → Options → DomainRun → State
last_state g options r = state_after (opening_of g options r.domain) r.applications

abbrev pub boundary_of : PlanarMap → Options → DomainRun → List Edge
boundary_of g options r = piece_boundary r.domain g.segments (pieces_by g options)

pub record IsNewIn (g : PlanarMap) (options : Options) (r : DomainRun) (p : Point) : Type 0 where
  pub corner : IsElementCorner p (elements_at (last_state g options r))
  pub no_end : ¬ (IsFrontPoint (boundary_of g options r) p)

-- a run of a domain, and what it keeps in the end
pub record IsMeshed (g : PlanarMap) (options : Options) (r : DomainRun) : Type 0 where
  pub above : 0 < r.domain
  pub sound : IsSoundAt (boundary_of g options r) (edges_of g.points g.segments) (last_state g options r)
  pub new : AllByRecursion (IsNewIn g options r) (new_points r)
  pub different : IsDistinct same_point (new_points r)

pub meshed : (g : PlanarMap) (rules : List Rule) (options : Options) (r : DomainRun) → IsGeometry g → CanPrint rules → IsRunOf g rules options r → IsMeshed g options r
meshed g rules options r h can is =
    let b = boundary_of g options r in let st = opening_of g options r.domain in let s = setting_of g rules options r.domain in
    let opened = reached_opening g options.greatest options.grading r.domain h is.above in
    let reached = reached_state b s st r.applications opened can is.run.next_ones in
    let made : new_points r ≡ all_made r.applications =
    (λ i. drop (is.run.opened i) ((is.run.points ∙ points_after st r.applications) i)) ∙ drop-append_seam st.points (all_made r.applications) in
    let split : IsDistinct same_point (st.points ++ all_made r.applications) = subst (IsDistinct same_point) (points_after st r.applications) reached.numbered.different in
    let listed : (p : Point) → IsFrontPoint b p → is_among st.points p ≡ true = λ p end. (ends_listed r.domain g.segments (pieces_by g options)).kept p (end_among b p end) in
    record {
      above = is.above;
      sound = sound_state b (edges_of g.points g.segments) s st r.applications opened (sound_opening g options r.domain h is.above) can is.run.next_ones;
      new = subst (AllByRecursion (IsNewIn g options r)) (sym made)
          (all_both (λ p. IsElementCorner p (elements_at (last_state g options r))) (λ p. is_among st.points p ≡ false) (IsNewIn g options r)
          (λ p corner none. record { corner = corner; no_end = λ end. true≢false (sym (listed p end) ∙ none) }) (all_made r.applications)
          (all_used b s st r.applications opened can is.run.next_ones) (none_among st.points (all_made r.applications) split));
      different = subst (IsDistinct same_point) (sym made) (second_distinct st.points (all_made r.applications) split);
    }

-- ---- of two domains
apart_order : (c d : ℕ) → c ≢ d → (c < d) ⊎ (d < c)
apart_order c d n = elim (in_order c d) [ inl e ↦ absurd (n e) | inr order ↦ order ]

new_apart : (g : PlanarMap) (options : Options) (r q : DomainRun) (p v : Point) → IsGeometry g → IsMeshed g options r → IsMeshed g options q → r.domain ≢ q.domain → IsNewIn g options r p → IsNewIn g options q v → ¬ (p ≡ v)
new_apart g options r q p v h m k differ new other e =
    new.no_end (shared_place (boundary_of g options r) (edges_of g.points g.segments) (front_at (last_state g options r)) (elements_at (last_state g options r)) (boundary_of g options q) (front_at (last_state g options q)) (elements_at (last_state g options q)) p
    m.sound k.sound (neighbours g options r.domain q.domain h m.above k.above (apart_order r.domain q.domain differ)) new.corner (inr (subst (λ z. IsElementCorner z (elements_at (last_state g options q))) (sym e) other.corner)))

end_apart : (g : PlanarMap) (options : Options) (r : DomainRun) (p v : Point) → IsGeometry g → IsMeshed g options r → IsEndOfSome g.segments (pieces_by g options) p → IsNewIn g options r v → ¬ (p ≡ v)
end_apart g options r p v h m some new e = by (in_order r.domain some.domain)
  where
    there : IsFrontPoint (piece_boundary some.domain g.segments (pieces_by g options)) v
    there = subst (IsFrontPoint (piece_boundary some.domain g.segments (pieces_by g options))) e some.end

    other : (r.domain < some.domain) ⊎ (some.domain < r.domain) → ⊥
    other order = let st = opening_of g options some.domain in
        new.no_end (shared_place (boundary_of g options r) (edges_of g.points g.segments) (front_at (last_state g options r)) (elements_at (last_state g options r)) (piece_boundary some.domain g.segments (pieces_by g options)) (front_at st) (elements_at st) v
        m.sound (sound_opening g options some.domain h some.above) (neighbours g options r.domain some.domain h m.above some.above order) new.corner (inl there))

    by : (r.domain ≡ some.domain) ⊎ ((r.domain < some.domain) ⊎ (some.domain < r.domain)) → ⊥
    by (inl same) = new.no_end (subst (λ (n : ℕ). IsFrontPoint (piece_boundary n g.segments (pieces_by g options)) v) (sym same) there)
    by (inr order) = other order

-- ---- all domains
pub all_flat : (P : Point → Type 0) (rs : List DomainRun) → AllByRecursion (λ r. AllByRecursion P (new_points r)) rs → AllByRecursion P (flat_map new_points rs)
all_flat P [] h = tt
all_flat P (r ∷ rs) h = all_append P (new_points r) (flat_map new_points rs) h.0 (all_flat P rs h.1)

-- the runs are of different domains
abbrev pub AreOfDifferent : List DomainRun → Type 0
AreOfDifferent [] = Unit {0}
AreOfDifferent (r ∷ rs) = AllByRecursion (λ q. r.domain ≢ q.domain) rs × AreOfDifferent rs

new_distinct : (g : PlanarMap) (options : Options) (rs : List DomainRun) → IsGeometry g → AllByRecursion (IsMeshed g options) rs → AreOfDifferent rs → IsDistinct same_point (flat_map new_points rs)
unfolding IsDistinct
new_distinct g options [] h all differ = tt
new_distinct g options (r ∷ rs) h all differ =
    both_distinct (new_points r) (flat_map new_points rs) all.0.different (new_distinct g options rs h all.1 differ.1)
    (all_map (IsNewIn g options r) (λ p. AllByRecursion (λ q. ¬ (p ≡ q)) (flat_map new_points rs))
    (λ p new. all_flat (λ q. ¬ (p ≡ q)) rs
    (all_both (IsMeshed g options) (λ q. r.domain ≢ q.domain) (λ q. AllByRecursion (λ v. ¬ (p ≡ v)) (new_points q))
    (λ q m apart. all_map (IsNewIn g options q) (λ v. ¬ (p ≡ v)) (λ v other. new_apart g options r q p v h all.0 m apart new other) (new_points q) m.new) rs all.1 differ.0)) (new_points r) all.0.new)

later_differ : (g : PlanarMap) (rules : List Rule) (options : Options) (d : ℕ) (ds : List ℕ) (r : DomainRun) (rs : List DomainRun) → r.domain ≡ d → AllByRecursion (λ c. d < c) ds → AllZip (IsDomainRun g rules options) ds rs → AllByRecursion (λ q. r.domain ≢ q.domain) rs
later_differ g rules options d [] r [] e h runs = tt
later_differ g rules options d [] r (q ∷ rs) e h runs = absurd runs
later_differ g rules options d (c ∷ ds) r [] e h runs = absurd runs
later_differ g rules options d (c ∷ ds) r (q ∷ rs) e h runs = ((λ same. omega (arith, h.0, runs.0.domain, e, same)), later_differ g rules options d ds r rs e h.1 runs.1)

pub of_different : (g : PlanarMap) (rules : List Rule) (options : Options) (ds : List ℕ) (rs : List DomainRun) → IsRising ds → AllZip (IsDomainRun g rules options) ds rs → AreOfDifferent rs
of_different g rules options [] [] rising runs = tt
of_different g rules options [] (r ∷ rs) rising runs = absurd runs
of_different g rules options (d ∷ ds) [] rising runs = absurd runs
of_different g rules options (d ∷ ds) (r ∷ rs) rising runs =
    (later_differ g rules options d ds r rs runs.0.domain (recursion_from_All (λ c. d < c) ds rising.0) runs.1, of_different g rules options ds rs rising.1 runs.1)

pub all_meshed : (g : PlanarMap) (rules : List Rule) (options : Options) (w : WholeRun) → IsGeometry g → CanPrint rules → IsWholeRun g rules options w → AllByRecursion (IsMeshed g options) w.domains
all_meshed g rules options w h can run =
    all_map (IsRunOf g rules options) (IsMeshed g options) (λ r is. meshed g rules options r h can is) w.domains (all_runs g rules options w h run)

pub whole_places : (g : PlanarMap) (rules : List Rule) (options : Options) (w : WholeRun) → IsGeometry g → CanPrint rules → IsWholeRun g rules options w → ArePlacesDifferent (whole_points w)
whole_places g rules options w h can run =
    let all = all_meshed g rules options w h can run in
    let mesh = mesh_points (pieces_by g options) in
    subst (λ ps. ArePlacesDifferent (mesh_points ps ++ flat_map new_points w.domains)) (sym run.pieces)
    (places_differ (mesh ++ flat_map new_points w.domains)
    (both_distinct mesh (flat_map new_points w.domains) (first_distinct (ends_of (map piece_edge (pieces_by g options))))
    (new_distinct g options w.domains h all (of_different g rules options (domain_numbers g.segments) w.domains (numbers_rise g.segments) run.domains))
    (all_map (IsEndOfSome g.segments (pieces_by g options)) (λ p. AllByRecursion (λ q. ¬ (p ≡ q)) (flat_map new_points w.domains))
    (λ p some. all_flat (λ q. ¬ (p ≡ q)) w.domains
    (all_map (IsMeshed g options) (λ q. AllByRecursion (λ v. ¬ (p ≡ v)) (new_points q)) (λ q m. all_map (IsNewIn g options q) (λ v. ¬ (p ≡ v)) (λ v new. end_apart g options q p v h m some new) (new_points q) m.new) w.domains all)) mesh
    (all_ends_of_some g options h))))
