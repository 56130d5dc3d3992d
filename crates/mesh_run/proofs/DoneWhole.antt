-- The mesh of a run that is done is whole: its points have different places, its edge rows walk the segments, each element is one of its domain's last state, so it is turned, no mesh point hangs in its sides, and in each domain sides and rows agree, since no front is left.
use Rattle.std.proofs.Common.{◌≡◌, ℕ, zero, suc, ◌+◌, ◌<◌, ◌==◌, ◌||◌, Bool, true, false, cond, List, [], ◌∷◌, ◌++◌, map, filter, length, slice_index_or, None, refl, sym, ap, ◌∙◌, subst, arith, inl, inr, ◌⊎◌, true≢false, pos}
use Rattle.std.specs.Prelude.{nat_eq}
use Rattle.std.specs.List.{All, AllByRecursion, AllZip, Contains, flat_map, list_any}
use Rattle.std.proofs.lemmas.List.{get_or_default, get_or-map, length-map}
use Rattle.std.proofs.lemmas.List.Elements.{recursion_from_All}
use Rattle.grid_geom.specs.declared.Point.{Point}
use Rattle.grid_geom.specs.declared.Edge.{Edge}
use Rattle.grid_geom.specs.Polygon.{sides}
use Rattle.grid_geom.specs.Sides.{IsOnOpen}
use Rattle.geom_check.specs.Boundary.{edges_of}
use Rattle.geom_check.specs.declared.kinds.Domain.{Domain}
use Rattle.geom_check.specs.Domains.{domain_numbers}
use Rattle.geom_check.specs.Geometry.{PlanarMap, IsGeometry}
use Rattle.size_field.specs.Boundary.{piece_boundary}
use Rattle.state_law.specs.Free.{IsIn}
use Rattle.state_law.specs.Kept.{all_sides}
use Rattle.state_law.specs.Net.{net}
use Rattle.state_law.specs.Saved.{IsElement, IsElementCorner, IsFrontPoint}
use Rattle.state_law.specs.State.{corners_of, front_edges, pair_edge}
use Rattle.state_law.proofs.Foreign.{foreign_hanging}
use Rattle.state_law.proofs.Lists.{all_append, all_map}
use Rattle.state_law.proofs.Saved.{element_convex}
use Rattle.front_chain.proofs.Lines.{eq_self}
use Rattle.rule_reader.specs.declared.rule.Rule.{Rule}
use Rattle.rule_reader.specs.Normal.{CanPrint}
use Rattle.vol_format.specs.declared.Mesh.{Mesh}
use Rattle.vol_format.specs.declared.MeshElement.{MeshElement}
use Rattle.mesh_check.specs.Parts.{boundary_rows, polygons_in}
use Rattle.mesh_check.specs.Walked.{DoWalk}
use Rattle.mesh_check.specs.Whole.{DoesHang, HasDomainOf, IsChained, IsInOpenSide, IsTurned, IsWhole}
use Rattle.mesh_run.specs.declared.Options.{Options}
use Rattle.mesh_run.specs.declared.WholeRun.{WholeRun}
use Rattle.mesh_run.specs.declared.domain_run.DomainRun.{DomainRun}
use Rattle.mesh_run.specs.Conform.{placed_state}
use Rattle.mesh_run.specs.Mesh.{edge_row, elements_from, elements_of, mesh_element, mesh_of_run, new_points}
use Rattle.mesh_run.specs.Opening.{mesh_points}
use Rattle.mesh_run.specs.Reached.{elements_at, front_at}
use Rattle.mesh_run.specs.Runs.{opening_of, pieces_by, IsDomainRun, IsWholeRun}
use Rattle.mesh_run.specs.Steps.{state_after}
use Rattle.mesh_run.specs.Sum.{elements_in}
use Rattle.mesh_run.proofs.Conforming.{IsRunOf, all_runs, in_order, neighbours, none_hangs_within, sound_opening}
use Rattle.mesh_run.proofs.OneRun.{one_domain_run}
use Rattle.mesh_run.proofs.WholePlaces.{IsEndOfSome, IsMeshed, IsNewIn, all_ends_of_some, all_flat, at_item, boundary_of, last_state, meshed, whole_places}
use Rattle.mesh_run.proofs.WholeRows.{all_rows_walk}
use Rattle.mesh_run.proofs.WholeSides.{front_gone, rows_bound, unnamed_has_none}
use Rattle.mesh_run.proofs.Written.{all_elements, apart_number, each_run, in_one, mesh_elements, others_none}

-- ---- lists
is_in_at : (es : List Edge) (j : ℕ) (s : Edge) → j < length es → slice_index_or es j s ≡ s → IsIn s es
is_in_at [] j s within is = absurd (omega (arith, within))
is_in_at (e ∷ es) zero s within is = inl is
is_in_at (e ∷ es) (suc j) s within is = inr (is_in_at es j s (omega (arith, within)) is)

in_first : (s : Edge) (es fs : List Edge) → IsIn s es → IsIn s (es ++ fs)
in_first s [] fs i = absurd i
in_first s (e ∷ es) fs (inl i) = inl i
in_first s (e ∷ es) fs (inr i) = inr (in_first s es fs i)

in_second : (s : Edge) (es fs : List Edge) → IsIn s fs → IsIn s (es ++ fs)
in_second s [] fs i = i
in_second s (e ∷ es) fs i = inr (in_second s es fs i)

side_among : (s : Edge) (cs : List Point) (elements : List (List Point)) → IsElement cs elements → IsIn s (sides cs) → IsIn s (all_sides elements)
side_among s cs [] h i = absurd h
side_among s cs (ds ∷ elements) (inl e) i = in_first s (sides ds) (all_sides elements) (subst (λ (c : List Point). IsIn s (sides c)) (sym e) i)
side_among s cs (ds ∷ elements) (inr h) i = in_second s (sides ds) (all_sides elements) (side_among s cs elements h i)

-- an element of a list is among those of its domain
more_of : (points : List Point) (cs : List Point) (b : Bool) (e : MeshElement) (es : List MeshElement) → IsElement cs (map (λ e. corners_of points e.corners) es) → IsElement cs (map (λ e. corners_of points e.corners) (cond b (e ∷ es) es))
more_of points cs true e es h = inr h
more_of points cs false e es h = h

of_domain : (points : List Point) (n : ℕ) (es : List MeshElement) (k : ℕ) (d : MeshElement) → k < length es → ((slice_index_or es k d).domain == n) ≡ true
    → IsElement (corners_of points (slice_index_or es k d).corners) (polygons_in points n es)
of_domain points n [] k d within is = absurd (omega (arith, within))
of_domain points n (e ∷ es) zero d within is =
    subst (λ (b : Bool). IsElement (corners_of points e.corners) (map (λ e. corners_of points e.corners) (cond b (e ∷ filter (λ e. e.domain == n) es) (filter (λ e. e.domain == n) es)))) (sym is) (inl refl)
of_domain points n (e ∷ es) (suc k) d within is =
    more_of points (corners_of points (slice_index_or es k d).corners) (e.domain == n) e (filter (λ e. e.domain == n) es) (of_domain points n es k d (omega (arith, within)) is)

-- ---- the run of a domain
record HasRun (g : PlanarMap) (rules : List Rule) (options : Options) (m : Mesh) (n : ℕ) : Type 0 where
  run : DomainRun
  domain : run.domain ≡ n
  is : IsRunOf g rules options run
  named : Contains (domain_numbers g.segments) n
  elements : elements_in n m ≡ elements_at (last_state g options run)
  over : run.front ≡ []

module _ (g : PlanarMap) (rules : List Rule) (options : Options) (w : WholeRun) (h : IsGeometry g) (can : CanPrint rules) (run : IsWholeRun g rules options w) (done : AllByRecursion (λ r. r.front ≡ []) w.domains) where
  abbrev mesh : Mesh
  mesh = mesh_of_run w g.segments

  abbrev Runs : ℕ → Type 0
  Runs = HasRun g rules options mesh

  listed_numbers : (ns : List ℕ) → AllByRecursion (Contains ns) ns
  listed_numbers ns = recursion_from_All (Contains ns) ns (λ k d within. (k, within, get_or_default ns k (slice_index_or ns k d) d within))

  have_runs : (ds : List ℕ) (rs : List DomainRun) → AllByRecursion (Contains (domain_numbers g.segments)) ds → AllByRecursion (IsRunOf g rules options) rs → AllByRecursion (λ r. r.front ≡ []) rs
      → AllZip (λ d r. (r.domain ≡ d) × (elements_in d mesh ≡ elements_at (state_after (opening_of g options d) r.applications))) ds rs → AllByRecursion (λ r. Runs r.domain) rs
  have_runs [] [] named is over zip = tt
  have_runs [] (r ∷ rs) named is over zip = absurd zip
  have_runs (d ∷ ds) [] named is over zip = absurd zip
  have_runs (d ∷ ds) (r ∷ rs) named is over zip = (
    record {
      run = r;
      domain = refl;
      is = is.0;
      named = subst (Contains (domain_numbers g.segments)) (sym zip.0.0) named.0;
      elements = subst (λ (n : ℕ). elements_in n mesh ≡ elements_at (state_after (opening_of g options n) r.applications)) (sym zip.0.0) zip.0.1;
      over = over.0;
    },
    have_runs ds rs named.1 is.1 over.1 zip.1,
  )

  runs : AllByRecursion (λ r. Runs r.domain) w.domains
  runs = have_runs (domain_numbers g.segments) w.domains (listed_numbers (domain_numbers g.segments)) (all_runs g rules options w h run) done
      (each_run g rules options w h can run (λ d r. (r.domain ≡ d) × (elements_in d mesh ≡ elements_at (state_after (opening_of g options d) r.applications)))
      (λ before d r later whole above one none_before none_after. (one.domain, mesh_elements g rules options w h can run before d r later whole above one none_before none_after)))

  of_run : (r : DomainRun) (at : ℕ) (els : List (List ℕ)) → Runs r.domain → AllByRecursion (λ e. Runs e.domain) (map (mesh_element (mesh_points w.pieces) at r) els)
  of_run r at [] has = tt
  of_run r at (ns ∷ els) has = (has, of_run r at els has)

  of_runs : (at : ℕ) (rs : List DomainRun) → AllByRecursion (λ r. Runs r.domain) rs → AllByRecursion (λ e. Runs e.domain) (elements_from (mesh_points w.pieces) at rs)
  of_runs at [] has = tt
  of_runs at (r ∷ rs) has =
      all_append (λ e. Runs e.domain) (elements_of (mesh_points w.pieces) at r) (elements_from (mesh_points w.pieces) (at + length (new_points r)) rs)
      (subst (AllByRecursion (λ e. Runs e.domain)) (sym (in_one (mesh_points w.pieces) at r r.applications)) (of_run r at (all_elements r.applications) has.0))
      (of_runs (at + length (new_points r)) rs has.1)

  -- the element's domain has a run, and the element is in its last state
  has_run : (k : ℕ) (d : MeshElement) → k < length mesh.elements → Runs (slice_index_or mesh.elements k d).domain
  has_run k d within = at_item (λ e. Runs e.domain) mesh.elements k d (of_runs (length (mesh_points w.pieces)) w.domains runs) within

  in_run : (k : ℕ) (d : MeshElement) (within : k < length mesh.elements) → IsElement (corners_of mesh.points (slice_index_or mesh.elements k d).corners) (elements_at (last_state g options (has_run k d within).run))
  in_run k d within =
      subst (IsElement (corners_of mesh.points (slice_index_or mesh.elements k d).corners)) (has_run k d within).elements
      (of_domain mesh.points (slice_index_or mesh.elements k d).domain mesh.elements k d within (eq_self (slice_index_or mesh.elements k d).domain))

  -- ---- elements
  turned : All (IsTurned mesh.points) mesh.elements
  turned k d within =
      let has = has_run k d within in
      element_convex (corners_of mesh.points (slice_index_or mesh.elements k d).corners) (elements_at (last_state g options has.run)) (meshed g rules options has.run h can has.is).sound.kept.convex (in_run k d within)

  named : All (HasDomainOf g.domains) mesh.elements
  named k d within =
      let has = has_run k d within in let c = has.named in let n = (slice_index_or mesh.elements k d).domain in
      let none : Domain = record { number = 0; maxh = None } in
      let inside : c.0 < length g.domains = omega (arith, c.1, ap length h.numbers, length-map g.domains (λ (x : Domain). x.number)) in
      let x = slice_index_or g.domains c.0 none in
      let number : x.number ≡ n =
      sym (get_or-map (λ (x : Domain). x.number) g.domains c.0 none n inside) ∙ ap (λ (ns : List ℕ). slice_index_or ns c.0 n) h.numbers ∙ c.2 in
      (c.0, x, inside, get_or_default g.domains c.0 x none inside, number)

  -- ---- points
  -- a mesh point: an end of a piece of some domain, or a new point of a run
  record IsNew (p : Point) : Type 0 where
    at : DomainRun
    is : IsRunOf g rules options at
    new : IsNewIn g options at p

  all_places : AllByRecursion (λ p. IsEndOfSome g.segments (pieces_by g options) p ⊎ IsNew p) mesh.points
  all_places =
      all_append (λ p. IsEndOfSome g.segments (pieces_by g options) p ⊎ IsNew p) (mesh_points w.pieces) (flat_map new_points w.domains)
      (subst (λ ps. AllByRecursion (λ p. IsEndOfSome g.segments (pieces_by g options) p ⊎ IsNew p) (mesh_points ps)) (sym run.pieces)
      (all_map (IsEndOfSome g.segments (pieces_by g options)) (λ p. IsEndOfSome g.segments (pieces_by g options) p ⊎ IsNew p) (λ p some. inl some) (mesh_points (pieces_by g options)) (all_ends_of_some g options h)))
      (all_flat (λ p. IsEndOfSome g.segments (pieces_by g options) p ⊎ IsNew p) w.domains
      (all_map (IsRunOf g rules options) (λ r. AllByRecursion (λ p. IsEndOfSome g.segments (pieces_by g options) p ⊎ IsNew p) (new_points r))
      (λ r is. all_map (IsNewIn g options r) (λ p. IsEndOfSome g.segments (pieces_by g options) p ⊎ IsNew p) (λ p new. inr (record { at = r; is = is; new = new })) (new_points r) (meshed g rules options r h can is).new)
      w.domains (all_runs g rules options w h run)))

  none_in_side : (r : DomainRun) (p : Point) (e : Edge) → IsRunOf g rules options r → IsEndOfSome g.segments (pieces_by g options) p ⊎ IsNew p → IsIn e (all_sides (elements_at (last_state g options r))) → ¬ (IsOnOpen p e.a e.b)
  none_in_side r p e is (inl some) i on = by (in_order r.domain some.domain)
    where
      own : IsMeshed g options r
      own = meshed g rules options r h can is

      by : (r.domain ≡ some.domain) ⊎ ((r.domain < some.domain) ⊎ (some.domain < r.domain)) → ⊥
      by (inl same) = none_hangs_within g (placed_state g options r.domain (last_state g options r)) own.sound p e (inl (subst (λ (n : ℕ). IsFrontPoint (piece_boundary n g.segments (pieces_by g options)) p) (sym same) some.end)) i on
      by (inr order) =
          let st = opening_of g options some.domain in
          foreign_hanging (boundary_of g options r) (edges_of g.points g.segments) (front_at (last_state g options r)) (elements_at (last_state g options r)) (piece_boundary some.domain g.segments (pieces_by g options)) (front_at st) (elements_at st) p e
          own.sound (sound_opening g options some.domain h some.above) (neighbours g options r.domain some.domain h own.above some.above order) (inl some.end) i on
  none_in_side r p e is (inr q) i on = by (in_order r.domain q.at.domain)
    where
      own : IsMeshed g options r
      own = meshed g rules options r h can is

      other : IsMeshed g options q.at
      other = meshed g rules options q.at h can q.is

      by : (r.domain ≡ q.at.domain) ⊎ ((r.domain < q.at.domain) ⊎ (q.at.domain < r.domain)) → ⊥
      by (inl same) =
          let one : r ≡ q.at = one_domain_run g rules options q.at.domain r q.at (subst (λ (n : ℕ). IsDomainRun g rules options n r) same is.run) q.is.run in
          none_hangs_within g (placed_state g options r.domain (last_state g options r)) own.sound p e (inr (subst (λ (x : DomainRun). IsElementCorner p (elements_at (last_state g options x))) (sym one) q.new.corner)) i on
      by (inr order) =
          foreign_hanging (boundary_of g options r) (edges_of g.points g.segments) (front_at (last_state g options r)) (elements_at (last_state g options r)) (boundary_of g options q.at) (front_at (last_state g options q.at)) (elements_at (last_state g options q.at)) p e
          own.sound other.sound (neighbours g options r.domain q.at.domain h own.above other.above order) (inr q.new.corner) i on

  unhung : (i k : ℕ) → ¬ DoesHang mesh.points mesh.elements i k
  unhung i k hang = by (hang.hangs origin empty)
    where
      origin : Point
      origin = record { x = pos 0; y = pos 0 }

      empty : MeshElement
      empty = record { domain = 0; corners = [] }

      by : IsInOpenSide (sides (corners_of mesh.points (slice_index_or mesh.elements k empty).corners)) (slice_index_or mesh.points i origin) → ⊥
      by any =
          let has = has_run k empty hang.element_in_list in let cs = corners_of mesh.points (slice_index_or mesh.elements k empty).corners in
          none_in_side has.run (slice_index_or mesh.points i origin) any.1 has.is
          (at_item (λ p. IsEndOfSome g.segments (pieces_by g options) p ⊎ IsNew p) mesh.points i origin all_places hang.point_in_list)
          (side_among any.1 cs (elements_at (last_state g options has.run)) (in_run k empty hang.element_in_list) (is_in_at (sides cs) any.0 any.1 any.2 any.3)) any.4

  -- ---- chains
  rows_are : (d : ℕ) → boundary_rows mesh.points d mesh.edges ≡ piece_boundary d g.segments (pieces_by g options)
  rows_are d = rows_bound (flat_map new_points w.domains) g.segments d w.pieces ∙ ap (piece_boundary d g.segments) run.pieces

  find_run : (d : ℕ) (rs : List DomainRun) → AllByRecursion (λ r. Runs r.domain) rs → Runs d ⊎ AllByRecursion (λ r. (r.domain == d) ≡ false) rs
  find_run d [] has = inr tt
  find_run d (r ∷ rs) has = by (in_order r.domain d) (find_run d rs has.1)
    where
      by : (r.domain ≡ d) ⊎ ((r.domain < d) ⊎ (d < r.domain)) → Runs d ⊎ AllByRecursion (λ r. (r.domain == d) ≡ false) rs → Runs d ⊎ AllByRecursion (λ r. (r.domain == d) ≡ false) (r ∷ rs)
      by (inl e) rest = inl (subst Runs e has.0)
      by (inr order) (inl found) = inl found
      by (inr (inl less)) (inr none) = inr (apart_number r.domain d (λ e. omega (arith, less, e)), none)
      by (inr (inr less)) (inr none) = inr (apart_number r.domain d (λ e. omega (arith, less, e)), none)

  unnamed : (d : ℕ) (ds : List ℕ) (rs : List DomainRun) → AllZip (IsDomainRun g rules options) ds rs → AllByRecursion (λ r. (r.domain == d) ≡ false) rs → list_any (nat_eq d) ds ≡ false
  unnamed d [] [] zip none = refl
  unnamed d [] (r ∷ rs) zip none = absurd zip
  unnamed d (c ∷ ds) [] zip none = absurd zip
  unnamed d (c ∷ ds) (r ∷ rs) zip none =
      (λ i. apart_number d c (λ e. true≢false (sym (eq_self d) ∙ ap (λ (n : ℕ). n == d) (e ∙ sym zip.0.domain) ∙ none.0)) i || unnamed d ds rs zip.1 none.1 i)

  sides_are : (d : ℕ) (x : Edge) → 0 < d → net x (all_sides (polygons_in mesh.points d mesh.elements)) ≡ net x (boundary_rows mesh.points d mesh.edges)
  sides_are d x above = by (find_run d w.domains runs)
    where
      by : Runs d ⊎ AllByRecursion (λ r. (r.domain == d) ≡ false) w.domains → net x (all_sides (polygons_in mesh.points d mesh.elements)) ≡ net x (boundary_rows mesh.points d mesh.edges)
      by (inl has) =
          let last = last_state g options has.run in
          let over : last.front ≡ [] = sym has.is.run.front ∙ has.over in
          let kept = (meshed g rules options has.run h can has.is).sound.kept in
          ap (λ (es : List (List Point)). net x (all_sides es)) has.elements
          ∙ front_gone x (boundary_of g options has.run) (front_at last) (elements_at last) (kept.chain x) (ap (front_edges last.points) over)
          ∙ ap (λ (n : ℕ). net x (piece_boundary n g.segments (pieces_by g options))) has.domain ∙ ap (net x) (sym (rows_are d))
      by (inr none) =
          ap (λ (es : List MeshElement). net x (all_sides (map (λ e. corners_of mesh.points e.corners) es))) (others_none d (mesh_points w.pieces) (length (mesh_points w.pieces)) w.domains none)
          ∙ ap (net x) (sym (rows_are d ∙ unnamed_has_none g options d h above (unnamed d (domain_numbers g.segments) w.domains run.domains none)))

  chained : (d : ℕ) → 0 < d → IsChained mesh d
  chained d above from to pair = sides_are d (pair_edge mesh.points (from, to)) above

  walked : DoWalk (record { of_geometry = g.points; of_mesh = mesh.points }) 1 g.segments mesh.edges
  walked = subst (λ ps. DoWalk (record { of_geometry = g.points; of_mesh = mesh_points ps ++ flat_map new_points w.domains }) 1 g.segments (map (edge_row (mesh_points ps) g.segments) ps)) (sym run.pieces)
      (all_rows_walk g options.greatest options.grading (flat_map new_points w.domains) h)

  pub done_whole : IsWhole g (mesh_of_run w g.segments)
  done_whole = record {
    places = whole_places g rules options w h can run;
    rows = walked;
    domains = named;
    turned = turned;
    unhung = unhung;
    chained = chained;
  }
