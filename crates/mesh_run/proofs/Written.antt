-- The mesh of a run has, in each domain, the elements of the domain's run at their places; and its front rows are the front that is left.
-- A mesh lists the ends of the pieces, then the new points domain by domain: so a number of a domain's point, there from the opening or new, becomes that of the same place.
use Rattle.std.proofs.Common.{◌≡◌, ℕ, zero, suc, ◌+◌, ◌-◌, ◌<◌, ◌≤◌, ◌==◌, ◌||◌, Bool, true, false, cond, if◌then◌else◌, List, [], ◌∷◌, ◌++◌, map, filter, drop, length, slice_index_or, refl, sym, ap, ◌∙◌, subst, arith, append_assoc, length-append, inl, inr, ◌⊎◌, pos}
use Rattle.std.specs.Prelude.{nat_le}
use Rattle.std.specs.List.{All, AllByRecursion, AllZip, flat_map}
use Rattle.std.proofs.lemmas.Bool.{eqb-true}
use Rattle.std.proofs.lemmas.Bool.Decides.{leb_tells}
use Rattle.std.proofs.lemmas.Grind.{flat_map-append}
use Rattle.std.proofs.lemmas.List.{get_or_append_left, get_or-append-add, get_or-drop, length-drop, map-append}
use Rattle.std.proofs.lemmas.List.Elements.{All-filter, filter-append, recursion_from_All}
use Rattle.grid_geom.specs.declared.Point.{Point}
use Rattle.grid_geom.specs.Closed.{same_point}
use Rattle.geom_check.specs.Domains.{domain_numbers, IsDomain, IsRising}
use Rattle.geom_check.specs.Geometry.{PlanarMap, IsGeometry}
use Rattle.geom_check.proofs.DomainNumbers.{numbers_rise, numbers_within}
use Rattle.state_law.specs.State.{State, corners_of, glued, point_at, IsListed, front_edges as edges_by}
use Rattle.state_law.proofs.Lists.{all_append, all_map}
use Rattle.size_field.specs.Boundary.{piece_boundary}
use Rattle.front_chain.proofs.Lines.{eq_self}
use Rattle.admission.specs.Admission.{glued_on}
use Rattle.admission.proofs.Order.{same_points}
use Rattle.rule_reader.specs.declared.rule.Rule.{Rule}
use Rattle.rule_reader.specs.Normal.{CanPrint}
use Rattle.rule_match.specs.declared.application.Application.{Application}
use Rattle.vol_format.specs.declared.MeshElement.{MeshElement}
use Rattle.mesh_run.specs.declared.Options.{Options}
use Rattle.mesh_run.specs.declared.WholeRun.{WholeRun}
use Rattle.mesh_run.specs.declared.domain_run.DomainRun.{DomainRun}
use Rattle.mesh_run.specs.Mesh.{elements_from, elements_of, mesh_element, mesh_number, mesh_of_run, new_points, whole_points}
use Rattle.mesh_run.specs.Numbering.{ends_of, is_among, number_in}
use Rattle.mesh_run.specs.Opening.{front_edges, mesh_points}
use Rattle.mesh_run.specs.Reached.{elements_at, front_at}
use Rattle.mesh_run.specs.Runs.{opening_of, pieces_by, setting_of, IsDomainRun, IsWholeRun}
use Rattle.mesh_run.specs.Steps.{applied, state_after, with_points}
use Rattle.mesh_run.specs.Sum.{AddUp, AreCovered, IsFilled, elements_in}
use Rattle.mesh_run.proofs.Bounded.{at_number, number_within}
use Rattle.mesh_run.proofs.Covered.{adds_up, covered, reached_state}
use Rattle.mesh_run.proofs.Listed.{same_itself}
use Rattle.mesh_run.proofs.NamedRuns.{AreCorners, corners_named}
use Rattle.mesh_run.proofs.Numbers.{AreListed, point_kept}
use Rattle.mesh_run.proofs.Steps.{reached_opening}

-- ---- the state after applications, in all
pub elements_on : (w : State) (els : List (List ℕ)) → (glued_on w els).elements ≡ w.elements ++ els
elements_on w [] = nothing w.elements
  where
    nothing : (xs : List (List ℕ)) → xs ≡ xs ++ []
    nothing [] = refl
    nothing (x ∷ xs) = ap (λ (ys : List (List ℕ)). x ∷ ys) (nothing xs)
elements_on w (ns ∷ els) = elements_on (glued w ns) els ∙ append_assoc w.elements (ns ∷ []) els

abbrev pub all_elements : List Application → List (List ℕ)
all_elements applications = flat_map (λ a. a.elements) applications

pub elements_after : (st : State) (more : List Application) → (state_after st more).elements ≡ st.elements ++ all_elements more
elements_after st [] = nothing st.elements
  where
    nothing : (xs : List (List ℕ)) → xs ≡ xs ++ []
    nothing [] = refl
    nothing (x ∷ xs) = ap (λ (ys : List (List ℕ)). x ∷ ys) (nothing xs)
elements_after st (a ∷ more) =
    elements_after (applied st a) more ∙ ap (λ (els : List (List ℕ)). els ++ all_elements more) (elements_on (with_points st a.made) a.elements) ∙ append_assoc st.elements a.elements (all_elements more)

abbrev pub all_made : List Application → List Point
all_made applications = flat_map (λ a. a.made) applications

pub points_after : (st : State) (more : List Application) → (state_after st more).points ≡ st.points ++ all_made more
points_after st [] = nothing st.points
  where
    nothing : (xs : List Point) → xs ≡ xs ++ []
    nothing [] = refl
    nothing (x ∷ xs) = ap (λ (ys : List Point). x ∷ ys) (nothing xs)
points_after st (a ∷ more) =
    points_after (applied st a) more ∙ ap (λ (ps : List Point). ps ++ all_made more) (same_points (with_points st a.made) a.elements) ∙ append_assoc st.points a.made (all_made more)

-- ---- a domain's point in the mesh
-- the points at the opening are mesh points
pub record IsRunOf (mesh : List Point) (r : DomainRun) : Type 0 where
  pub few : r.opened ≤ length r.points
  pub among : (n : ℕ) → 1 ≤ n → n ≤ r.opened → is_among mesh (point_at r.points n) ≡ true

pub old_place : (mesh more : List Point) (p : Point) → is_among mesh p ≡ true → point_at (mesh ++ more) (number_in mesh p) ≡ p
old_place mesh more p among = let named = number_within mesh p among in point_kept mesh more (number_in mesh p) (named.first, named.last) ∙ at_number mesh p among

new_place : (first points later : List Point) (opened n at : ℕ) → opened < n → n ≤ length points → at ≡ length first + (n - opened) → point_at (first ++ (drop opened points ++ later)) at ≡ point_at points n
new_place first points later opened n at after within e =
    let origin : Point = record { x = pos 0; y = pos 0 } in let k = n - opened - 1 in
    let index : at - 1 ≡ length first + k = omega (arith, e, after) in
    let inside : k < length (drop opened points) = omega (arith, length-drop opened points, within, after) in
    let back : opened + k ≡ n - 1 = omega (arith, after) in
    ap (λ (i : ℕ). slice_index_or (first ++ (drop opened points ++ later)) i origin) index
    ∙ get_or-append-add first (drop opened points ++ later) k origin
    ∙ get_or_append_left (drop opened points) later origin k inside
    ∙ get_or-drop opened points k origin ∙ ap (λ (i : ℕ). slice_index_or points i origin) back

place_in_mesh : (mesh done later : List Point) (r : DomainRun) (n : ℕ) → IsRunOf mesh r → IsListed (length r.points) n
    → point_at ((mesh ++ done) ++ (new_points r ++ later)) (mesh_number mesh (length mesh + length done) r n) ≡ point_at r.points n
place_in_mesh mesh done later r n run l = by (leb_tells n r.opened)
  where
    number : Bool → ℕ
    number b = if b then number_in mesh (point_at r.points n) else (length mesh + length done + (n - r.opened))

    by : ((nat_le n r.opened ≡ true) × (n ≤ r.opened)) ⊎ ((nat_le n r.opened ≡ false) × (r.opened < n))
        → point_at ((mesh ++ done) ++ (new_points r ++ later)) (number (nat_le n r.opened)) ≡ point_at r.points n
    by (inl h) =
        ap (λ (b : Bool). point_at ((mesh ++ done) ++ (new_points r ++ later)) (number b)) h.0
        ∙ ap (λ (ps : List Point). point_at ps (number_in mesh (point_at r.points n))) (append_assoc mesh done (new_points r ++ later))
        ∙ old_place mesh (done ++ (new_points r ++ later)) (point_at r.points n) (run.among n l.0 h.1)
    by (inr h) =
        ap (λ (b : Bool). point_at ((mesh ++ done) ++ (new_points r ++ later)) (number b)) h.0
        ∙ new_place (mesh ++ done) r.points later r.opened n (length mesh + length done + (n - r.opened)) h.1 l.1 (ap (λ (k : ℕ). k + (n - r.opened)) (sym (length-append mesh done)))

pub corners_in_mesh : (mesh done later : List Point) (r : DomainRun) (ns : List ℕ) → IsRunOf mesh r → AreListed r.points ns
    → corners_of ((mesh ++ done) ++ (new_points r ++ later)) (map (mesh_number mesh (length mesh + length done) r) ns) ≡ corners_of r.points ns
corners_in_mesh mesh done later r [] run l = refl
corners_in_mesh mesh done later r (n ∷ ns) run l = λ i. place_in_mesh mesh done later r n run l.0 i ∷ corners_in_mesh mesh done later r ns run l.1 i

-- ---- the elements of a domain among the mesh's
abbrev places : List Point → List MeshElement → List (List Point)
places points es = map (λ (e : MeshElement). corners_of points e.corners) es

abbrev of_domain : ℕ → List MeshElement → List MeshElement
of_domain d es = filter (λ (e : MeshElement). e.domain == d) es

all_of_it : (d : ℕ) (mesh : List Point) (before : ℕ) (r : DomainRun) (els : List (List ℕ)) → (r.domain == d) ≡ true → of_domain d (map (mesh_element mesh before r) els) ≡ map (mesh_element mesh before r) els
all_of_it d mesh before r [] h = refl
all_of_it d mesh before r (ns ∷ els) h =
    ap (λ (b : Bool). cond b (mesh_element mesh before r ns ∷ of_domain d (map (mesh_element mesh before r) els)) (of_domain d (map (mesh_element mesh before r) els))) h
    ∙ ap (λ (es : List MeshElement). mesh_element mesh before r ns ∷ es) (all_of_it d mesh before r els h)

none_of_it : (d : ℕ) (mesh : List Point) (before : ℕ) (r : DomainRun) (els : List (List ℕ)) → (r.domain == d) ≡ false → of_domain d (map (mesh_element mesh before r) els) ≡ []
none_of_it d mesh before r [] h = refl
none_of_it d mesh before r (ns ∷ els) h =
    ap (λ (b : Bool). cond b (mesh_element mesh before r ns ∷ of_domain d (map (mesh_element mesh before r) els)) (of_domain d (map (mesh_element mesh before r) els))) h
    ∙ none_of_it d mesh before r els h

-- one application after another is all elements
pub in_one : (mesh : List Point) (before : ℕ) (r : DomainRun) (more : List Application) → flat_map (λ (a : Application). map (mesh_element mesh before r) a.elements) more ≡ map (mesh_element mesh before r) (all_elements more)
in_one mesh before r [] = refl
in_one mesh before r (a ∷ more) =
    ap (λ (es : List MeshElement). map (mesh_element mesh before r) a.elements ++ es) (in_one mesh before r more) ∙ sym (map-append (mesh_element mesh before r) a.elements (all_elements more))

elements_split : (mesh : List Point) (before : ℕ) (done rest : List DomainRun) → elements_from mesh before (done ++ rest) ≡ elements_from mesh before done ++ elements_from mesh (before + length (flat_map new_points done)) rest
elements_split mesh before [] rest = ap (λ (n : ℕ). elements_from mesh n rest) (plain before)
  where
    plain : (n : ℕ) → n ≡ n + 0
    plain n = omega arith
elements_split mesh before (r ∷ done) rest =
    let count : before + length (new_points r) + length (flat_map new_points done) ≡ before + length (flat_map new_points (r ∷ done)) = omega (arith, length-append (new_points r) (flat_map new_points done)) in
    ap (λ (es : List MeshElement). elements_of mesh before r ++ es) (elements_split mesh (before + length (new_points r)) done rest ∙ ap (λ (n : ℕ). elements_from mesh (before + length (new_points r)) done ++ elements_from mesh n rest) count)
    ∙ sym (append_assoc (elements_of mesh before r) (elements_from mesh (before + length (new_points r)) done) (elements_from mesh (before + length (flat_map new_points (r ∷ done))) rest))

pub others_none : (d : ℕ) (mesh : List Point) (before : ℕ) (rs : List DomainRun) → AllByRecursion (λ r. (r.domain == d) ≡ false) rs → of_domain d (elements_from mesh before rs) ≡ []
others_none d mesh before [] h = refl
others_none d mesh before (r ∷ rs) h =
    filter-append (λ (e : MeshElement). e.domain == d) (elements_of mesh before r) (elements_from mesh (before + length (new_points r)) rs)
    ∙ (λ i. (ap (of_domain d) (in_one mesh before r r.applications) ∙ none_of_it d mesh before r (all_elements r.applications) h.0) i ++ others_none d mesh (before + length (new_points r)) rs h.1 i)

-- the elements of one domain of a list, where the others are other domains
pub one_domain : (d : ℕ) (mesh : List Point) (done later : List DomainRun) (r : DomainRun) → (r.domain == d) ≡ true → AllByRecursion (λ q. (q.domain == d) ≡ false) done → AllByRecursion (λ q. (q.domain == d) ≡ false) later
    → of_domain d (elements_from mesh (length mesh) (done ++ r ∷ later)) ≡ map (mesh_element mesh (length mesh + length (flat_map new_points done)) r) (all_elements r.applications)
one_domain d mesh done later r here before after =
    let at = length mesh + length (flat_map new_points done) in
    ap (of_domain d) (elements_split mesh (length mesh) done (r ∷ later))
    ∙ filter-append (λ (e : MeshElement). e.domain == d) (elements_from mesh (length mesh) done) (elements_of mesh at r ++ elements_from mesh (at + length (new_points r)) later)
    ∙ (λ i. others_none d mesh (length mesh) done before i ++ filter-append (λ (e : MeshElement). e.domain == d) (elements_of mesh at r) (elements_from mesh (at + length (new_points r)) later) i)
    ∙ (λ i. (ap (of_domain d) (in_one mesh at r r.applications) ∙ all_of_it d mesh at r (all_elements r.applications) here) i ++ others_none d mesh (at + length (new_points r)) later after i)
    ∙ nothing (map (mesh_element mesh at r) (all_elements r.applications))
  where
    nothing : (xs : List MeshElement) → xs ++ [] ≡ xs
    nothing [] = refl
    nothing (x ∷ xs) = ap (λ (ys : List MeshElement). x ∷ ys) (nothing xs)

pub elements_placed : (mesh done later : List Point) (r : DomainRun) (els : List (List ℕ)) → IsRunOf mesh r → AllByRecursion (AreListed r.points) els
    → places ((mesh ++ done) ++ (new_points r ++ later)) (map (mesh_element mesh (length mesh + length done) r) els) ≡ map (corners_of r.points) els
elements_placed mesh done later r [] run l = refl
elements_placed mesh done later r (ns ∷ els) run l = λ i. corners_in_mesh mesh done later r ns run l.0 i ∷ elements_placed mesh done later r els run l.1 i

-- ---- one domain's run
pub listed_item : (ps : List Point) (i : ℕ) (d : Point) → i < length ps → is_among ps (slice_index_or ps i d) ≡ true
listed_item [] i d h = absurd (omega (arith, h))
listed_item (p ∷ ps) zero d h = ap (λ (b : Bool). b || is_among ps p) (same_itself p)
listed_item (p ∷ ps) (suc i) d h = or_last (same_point (slice_index_or ps i d) p) (is_among ps (slice_index_or ps i d)) (listed_item ps i d (omega (arith, h)))
  where
    or_last : (a b : Bool) → b ≡ true → (a || b) ≡ true
    or_last true b e = refl
    or_last false b e = e

pub run_of : (g : PlanarMap) (rules : List Rule) (options : Options) (d : ℕ) (r : DomainRun) → IsDomainRun g rules options d r → IsRunOf (mesh_points (pieces_by g options)) r
run_of g rules options d r run =
    let mesh = mesh_points (pieces_by g options) in let st = opening_of g options d in
    let points : r.points ≡ st.points ++ all_made r.applications = run.points ∙ points_after st r.applications in
    let among : All (λ p. is_among mesh p ≡ true) st.points = All-filter (is_among (ends_of (piece_boundary d g.segments (pieces_by g options)))) (λ p. is_among mesh p ≡ true) mesh (listed_item mesh) in
    record {
      few = omega (arith, run.opened, ap length points, length-append st.points (all_made r.applications));
      among = λ n first last.
          let within : n ≤ length st.points = omega (arith, last, run.opened) in
          let same : point_at r.points n ≡ point_at st.points n = ap (λ (ps : List Point). point_at ps n) points ∙ point_kept st.points (all_made r.applications) n (first, within) in
          ap (is_among mesh) same ∙ among (n - 1) (record { x = pos 0; y = pos 0 }) (omega (arith, first, within));
    }

pub all_listed : (n : ℕ) (more : List Application) → AreCorners n more → AllByRecursion (λ ns. AllByRecursion (IsListed n) ns) (all_elements more)
all_listed n [] h = tt
all_listed n (a ∷ more) h = all_append (λ ns. AllByRecursion (IsListed n) ns) a.elements (all_elements more) h.0 (all_listed n more h.1)

-- ---- all domains
pub apart_number : (m n : ℕ) → (m ≡ n → ⊥) → (m == n) ≡ false
apart_number m n differ = by (m == n) refl
  where
    by : (b : Bool) → (m == n) ≡ b → b ≡ false
    by true e = absurd (differ (eqb-true m n e))
    by false e = refl

-- the runs of later domains are of other domains
later_apart : (g : PlanarMap) (rules : List Rule) (options : Options) (d : ℕ) (ds : List ℕ) (rs : List DomainRun) → AllByRecursion (λ c. d < c) ds → AllZip (IsDomainRun g rules options) ds rs → AllByRecursion (λ q. (q.domain == d) ≡ false) rs
later_apart g rules options d [] [] h runs = tt
later_apart g rules options d [] (r ∷ rs) h runs = absurd runs
later_apart g rules options d (c ∷ ds) [] h runs = absurd runs
later_apart g rules options d (c ∷ ds) (r ∷ rs) h runs = (apart_number r.domain d (λ e. omega (arith, h.0, runs.0.domain, e)), later_apart g rules options d ds rs h.1 runs.1)

module _ (g : PlanarMap) (rules : List Rule) (options : Options) (w : WholeRun) (h : IsGeometry g) (can : CanPrint rules) (run : IsWholeRun g rules options w) where
  abbrev mesh : List Point
  mesh = mesh_points w.pieces

  -- the mesh's points, with those of one run apart
  pub points_split : (done : List DomainRun) (r : DomainRun) (later : List DomainRun) → w.domains ≡ done ++ r ∷ later → whole_points w ≡ (mesh ++ flat_map new_points done) ++ (new_points r ++ flat_map new_points later)
  points_split done r later whole =
      ap (λ (rs : List DomainRun). mesh ++ flat_map new_points rs) whole ∙ ap (λ (ps : List Point). mesh ++ ps) (flat_map-append new_points done (r ∷ later)) ∙ sym (append_assoc mesh (flat_map new_points done) (new_points r ++ flat_map new_points later))

  -- the mesh's elements of a run's domain, by places, are those of its last state
  pub mesh_elements : (done : List DomainRun) (d : ℕ) (r : DomainRun) (later : List DomainRun) → w.domains ≡ done ++ r ∷ later → 0 < d → IsDomainRun g rules options d r → AllByRecursion (λ q. (q.domain == d) ≡ false) done → AllByRecursion (λ q. (q.domain == d) ≡ false) later
      → elements_in d (mesh_of_run w g.segments) ≡ elements_at (state_after (opening_of g options d) r.applications)
  mesh_elements done d r later whole above one before after =
      let b = piece_boundary d g.segments (pieces_by g options) in let s = setting_of g rules options d in let st = opening_of g options d in
      let final = state_after st r.applications in
      let opened = reached_opening g options.greatest options.grading d h above in
      let made = flat_map new_points done in let rest = flat_map new_points later in let els = all_elements r.applications in
      let points : whole_points w ≡ (mesh ++ made) ++ (new_points r ++ rest) = points_split done r later whole in
      let here : (r.domain == d) ≡ true = ap (λ (n : ℕ). n == d) one.domain ∙ eq_self d in
      let those : of_domain d (elements_from mesh (length mesh) w.domains) ≡ map (mesh_element mesh (length mesh + length made) r) els =
      ap (λ (rs : List DomainRun). of_domain d (elements_from mesh (length mesh) rs)) whole ∙ one_domain d mesh done later r here before after in
      let listed : AllByRecursion (AreListed r.points) els = subst (λ (ps : List Point). AllByRecursion (AreListed ps) els) (sym one.points) (all_listed (length final.points) r.applications (corners_named b s st r.applications opened can one.next_ones)) in
      let in_run : IsRunOf mesh r = subst (λ ps. IsRunOf (mesh_points ps) r) (sym run.pieces) (run_of g rules options d r one) in
      (λ i. places (points i) (those i)) ∙ elements_placed mesh made rest r els in_run listed ∙ sym (λ i. map (corners_of (sym one.points i)) (elements_after st r.applications i))

  in_mesh : (done : List DomainRun) (d : ℕ) (r : DomainRun) (later : List DomainRun) → w.domains ≡ done ++ r ∷ later → 0 < d → IsDomainRun g rules options d r → AllByRecursion (λ q. (q.domain == d) ≡ false) done → AllByRecursion (λ q. (q.domain == d) ≡ false) later
      → IsFilled g options (mesh_of_run w g.segments) d r
  in_mesh done d r later whole above one before after =
      let b = piece_boundary d g.segments (pieces_by g options) in let s = setting_of g rules options d in let st = opening_of g options d in
      let final = state_after st r.applications in
      let opened = reached_opening g options.greatest options.grading d h above in
      let front : front_at final ≡ front_edges r = λ i. edges_by (sym one.points i) (sym one.front i) in
      record {
        after_each = covered g rules options d r.applications h above can one.next_ones;
        in_mesh = subst (AddUp g d (elements_in d (mesh_of_run w g.segments))) front
            (subst (λ (places : List (List Point)). AddUp g d places (front_at final)) (sym (mesh_elements done d r later whole above one before after)) (adds_up g options d final h (reached_state b s st r.applications opened can one.next_ones)));
      }

  -- what holds of each run between those before it and those after it holds of all
  each : (P : ℕ → DomainRun → Type 0) → ((done : List DomainRun) (d : ℕ) (r : DomainRun) (later : List DomainRun) → w.domains ≡ done ++ r ∷ later → 0 < d → IsDomainRun g rules options d r → AllByRecursion (λ q. (q.domain == d) ≡ false) done → AllByRecursion (λ q. (q.domain == d) ≡ false) later → P d r)
      → (done : List DomainRun) (ds : List ℕ) (rs : List DomainRun) → w.domains ≡ done ++ rs → AllByRecursion IsDomain ds → IsRising ds → AllByRecursion (λ q. AllByRecursion (λ c. q.domain < c) ds) done
      → AllZip (IsDomainRun g rules options) ds rs → AllZip P ds rs
  each P holds done [] [] whole above rising before runs = tt
  each P holds done [] (r ∷ rs) whole above rising before runs = absurd runs
  each P holds done (d ∷ ds) [] whole above rising before runs = absurd runs
  each P holds done (d ∷ ds) (r ∷ rs) whole above rising before runs =
      let next : AllByRecursion (λ c. d < c) ds = recursion_from_All (λ c. d < c) ds rising.0 in
      let mine : AllByRecursion (λ c. r.domain < c) ds = subst (λ (n : ℕ). AllByRecursion (λ c. n < c) ds) (sym runs.0.domain) next in (
        holds done d r rs whole above.0.0 runs.0
            (all_map (λ (q : DomainRun). AllByRecursion (λ c. q.domain < c) (d ∷ ds)) (λ (q : DomainRun). (q.domain == d) ≡ false) (λ q l. apart_number q.domain d (λ e. omega (arith, l.0, e))) done before)
            (later_apart g rules options d ds rs next runs.1),
        each P holds (done ++ r ∷ []) ds rs (whole ∙ sym (append_assoc done (r ∷ []) rs)) above.1 rising.1
            (all_append (λ (q : DomainRun). AllByRecursion (λ c. q.domain < c) ds) done (r ∷ [])
            (all_map (λ (q : DomainRun). AllByRecursion (λ c. q.domain < c) (d ∷ ds)) (λ (q : DomainRun). AllByRecursion (λ c. q.domain < c) ds) (λ q l. l.1) done before) (mine, tt))
            runs.1,
      )

  pub each_run : (P : ℕ → DomainRun → Type 0) → ((done : List DomainRun) (d : ℕ) (r : DomainRun) (later : List DomainRun) → w.domains ≡ done ++ r ∷ later → 0 < d → IsDomainRun g rules options d r → AllByRecursion (λ q. (q.domain == d) ≡ false) done → AllByRecursion (λ q. (q.domain == d) ≡ false) later → P d r)
      → AllZip P (domain_numbers g.segments) w.domains
  each_run P holds = each P holds [] (domain_numbers g.segments) w.domains refl (recursion_from_All IsDomain (domain_numbers g.segments) (numbers_within _ g.segments h.joined)) (numbers_rise g.segments) tt run.domains

  pub all_covered : AreCovered g options w
  all_covered = each_run (IsFilled g options (mesh_of_run w g.segments)) in_mesh
