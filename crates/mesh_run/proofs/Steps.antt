-- The application of a candidate may be made, and what a run keeps of its state is kept by it.
-- By numbers and by places an application is the same: state_law's law of numbers, element by element.
use Rattle.std.proofs.Common.{◌≡◌, ℕ, suc, ◌+◌, ◌<◌, ◌≤◌, List, [], ◌∷◌, ◌++◌, map, length, refl, sym, ◌∙◌, subst, arith, ℤ, pos, ◌+ℤ◌, ◌<ℤ◌, ◌≤ℤ◌}
use Rattle.std.specs.List.{All, AllByRecursion, IsDistinct}
use Rattle.std.proofs.lemmas.Int.{ints}
use Rattle.std.proofs.lemmas.List.{length-map, map-append}
use Rattle.std.proofs.lemmas.List.Elements.{All-append, All-from_recursion}
use Rattle.grid_geom.specs.declared.Point.{Point}
use Rattle.grid_geom.specs.declared.Edge.{Edge}
use Rattle.grid_geom.specs.Area.{shoelace}
use Rattle.grid_geom.specs.Bounds.{IsOnGrid}
use Rattle.grid_geom.specs.Closed.{same_point}
use Rattle.grid_geom.specs.Polygon.{sides}
use Rattle.geom_check.specs.Geometry.{PlanarMap, IsGeometry}
use Rattle.size_field.specs.Boundary.{piece_boundary}
use Rattle.size_field.specs.Cutting.{pieces_of}
use Rattle.size_field.proofs.Regions.{boundary_region}
use Rattle.state_law.specs.Gluing.{glue, MayBeGlued, MayAllBeGlued}
use Rattle.state_law.specs.Kept.{IsKept}
use Rattle.state_law.specs.State.{State, IsListed, IsNumbered, corners_of, glued}
use Rattle.state_law.proofs.Glued.{glued_area, glued_falls}
use Rattle.state_law.proofs.KeptOn.{kept_on}
use Rattle.state_law.proofs.Lists.{all_append, all_map}
use Rattle.state_law.proofs.Numbers.{glued_edges, glued_numbered}
use Rattle.state_law.proofs.Region.{kept_of}
use Rattle.rule_reader.specs.Normal.{IsRule, Names}
use Rattle.admission.specs.Admission.{glued_on, MayFollow}
use Rattle.rule_match.specs.declared.application.Application.{Application}
use Rattle.rule_match.specs.Applied.{application}
use Rattle.rule_match.specs.Candidate.{Attempt, IsCandidate, IsFrontPoint, made, mapping}
use Rattle.rule_match.proofs.FoundParts.{point_listed}
use Rattle.rule_match.proofs.NewParts.{as_many}
use Rattle.mesh_run.specs.Reached.{IsReached, MayBeApplied, elements_at, front_at}
use Rattle.mesh_run.specs.Runs.{opening_state}
use Rattle.mesh_run.specs.Steps.{applied, with_points}
use Rattle.mesh_run.proofs.Begun.{begun, front_opens, same_front}
use Rattle.mesh_run.proofs.Numbers.{AreListed, AreJoined, all_different, corners_at, corners_listed, edges_kept, elements_kept, joined_more, listed_more, number_of}

-- ---- elements glued one after another, by numbers
follow : (w : State) (els : List (List ℕ)) → IsNumbered w → AllByRecursion (AreListed w.points) els → MayAllBeGlued (map (corners_of w.points) els) (front_at w) → MayFollow w els
follow w [] n l m = tt
follow w (ns ∷ els) n l m =
    (m.0, follow (glued w ns) els (glued_numbered w ns n l.0) l.1 (subst (MayAllBeGlued (map (corners_of w.points) els)) (sym (glued_edges w ns n l.0)) m.1))

pub reached_glued : (b : List Edge) (w : State) (ns : List ℕ) → IsReached b w → AreListed w.points ns → MayBeGlued (corners_of w.points ns) (front_at w) → IsReached b (glued w ns)
reached_glued b w ns r l m = record {
  numbered = glued_numbered w ns r.numbered l;
  on_grid = r.on_grid;
  corners_listed = all_append (AreListed w.points) w.elements (ns ∷ []) r.corners_listed (l, tt);
  kept = subst (λ (es : List Edge). IsKept b [] es (elements_at (glued w ns))) (sym (glued_edges w ns r.numbered l))
      (subst (IsKept b [] (glue (front_at w) (corners_of w.points ns))) (sym (map-append (corners_of w.points) w.elements (ns ∷ [])))
      (kept_on b [] (front_at w) (elements_at w) (corners_of w.points ns) r.kept m));
}

reached_on : (b : List Edge) (w : State) (els : List (List ℕ)) → IsReached b w → AllByRecursion (AreListed w.points) els → MayFollow w els → IsReached b (glued_on w els)
reached_on b w [] r l m = r
reached_on b w (ns ∷ els) r l m = reached_on b (glued w ns) els (reached_glued b w ns r l.0 m.0) l.1 m.1

-- the area falls by at least the number of elements, and stays at least 0
falls_on : (w : State) (els : List (List ℕ)) → IsNumbered w → AllByRecursion (AreListed w.points) els → MayFollow w els → (shoelace (front_at (glued_on w els)) +ℤ pos (length els)) ≤ℤ shoelace (front_at w)
falls_on w [] n l m = level (shoelace (front_at w))
  where
    level : (a : ℤ) → (a +ℤ pos 0) ≤ℤ a
    level a = omega (arith, ints)
falls_on w (ns ∷ els) n l m =
    more (shoelace (front_at (glued_on (glued w ns) els))) (length els) (shoelace (glue (front_at w) (corners_of w.points ns))) (shoelace (front_at w))
    (subst (λ (es : List Edge). (shoelace (front_at (glued_on (glued w ns) els)) +ℤ pos (length els)) ≤ℤ shoelace es) (glued_edges w ns n l.0) (falls_on (glued w ns) els (glued_numbered w ns n l.0) l.1 m.1))
    (glued_falls (front_at w) (corners_of w.points ns) m.0.turned)
  where
    more : (a : ℤ) (n : ℕ) (b c : ℤ) → (a +ℤ pos n) ≤ℤ b → b <ℤ c → (a +ℤ pos (suc n)) ≤ℤ c
    more a n b c h i = omega (arith, ints)

left_on : (w : State) (ns : List ℕ) (els : List (List ℕ)) → IsNumbered w → AllByRecursion (AreListed w.points) (ns ∷ els) → MayFollow w (ns ∷ els) → pos 0 ≤ℤ shoelace (front_at (glued_on w (ns ∷ els)))
left_on w ns [] n l m =
    subst (λ (es : List Edge). pos 0 ≤ℤ shoelace es) (sym (glued_edges w ns n l.0))
    (rest (shoelace (front_at w)) (shoelace (sides (corners_of w.points ns))) (shoelace (glue (front_at w) (corners_of w.points ns))) (glued_area (front_at w) (sides (corners_of w.points ns))) m.0.covered)
  where
    rest : (a b c : ℤ) → a ≡ b +ℤ c → b ≤ℤ a → pos 0 ≤ℤ c
    rest a b c e h = omega (arith, ints)
left_on w ns (ms ∷ els) n l m = left_on (glued w ns) ms els (glued_numbered w ns n l.0) l.1 m.1

-- ---- new points listed
pub reached_with : (b : List Edge) (st : State) (more : List Point) → IsReached b st → IsDistinct same_point (st.points ++ more) → All IsOnGrid more → IsReached b (with_points st more)
reached_with b st more r different on_grid = record {
  numbered = record { different = different; lines_listed = joined_more st.points more st.front r.numbered.lines_listed };
  on_grid = All-append IsOnGrid st.points more r.on_grid on_grid;
  corners_listed = all_map (AreListed st.points) (AreListed (st.points ++ more)) (λ ns l. all_map (IsListed (length st.points)) (IsListed (length (st.points ++ more))) (λ n. listed_more st.points more n) ns l) st.elements r.corners_listed;
  kept = subst (λ (es : List Edge). IsKept b [] es (elements_at (with_points st more))) (sym (edges_kept st.points more st.front r.numbered.lines_listed))
      (subst (IsKept b [] (front_at st)) (sym (elements_kept st.points more st.elements r.corners_listed)) r.kept);
}

-- ---- whole applications
pub reached_after : (b : List Edge) (st : State) (a : Application) → IsReached b st → MayBeApplied st a → IsReached b (applied st a)
reached_after b st a r m = reached_on b (with_points st a.made) a.elements (reached_with b st a.made r m.different m.on_grid) m.listed m.may

-- the application takes from the area at least the number of its elements
pub record TakesArea (before after : ℤ) (count : ℕ) : Type 0 where
  pub falls : (after +ℤ pos count) ≤ℤ before
  pub left : 1 ≤ count → pos 0 ≤ℤ after

pub area_after : (b : List Edge) (st : State) (a : Application) → IsReached b st → MayBeApplied st a → TakesArea (shoelace (front_at st)) (shoelace (front_at (applied st a))) (length a.elements)
area_after b st a r m =
    let w = with_points st a.made in let n = (reached_with b st a.made r m.different m.on_grid).numbered in
    record {
      falls = subst (λ (es : List Edge). (shoelace (front_at (applied st a)) +ℤ pos (length a.elements)) ≤ℤ shoelace es) (edges_kept st.points a.made st.front r.numbered.lines_listed) (falls_on w a.elements n m.listed m.may);
      left = by w a.elements n m.listed m.may;
    }
  where
    by : (w : State) (els : List (List ℕ)) → IsNumbered w → AllByRecursion (AreListed w.points) els → MayFollow w els → 1 ≤ length els → pos 0 ≤ℤ shoelace (front_at (glued_on w els))
    by w [] n l m h = absurd (omega (arith, h))
    by w (ns ∷ els) n l m h = left_on w ns els n l m

-- ---- candidates
-- the elements of a rule, each three of so many points
abbrev pub AreTriangles : ℕ → List (List ℕ) → Type 0
AreTriangles count els = AllByRecursion (λ e. (length e ≡ 3) × AllByRecursion (Names count) e) els

pub named_elements : (points more : List Point) (mapped : List ℕ) (els : List (List ℕ)) → AreListed points mapped → AreTriangles (length mapped + length more) els
    → map (corners_of (points ++ more)) (map (map (number_of points more mapped)) els) ≡ map (corners_of (corners_of points mapped ++ more)) els
named_elements points more mapped [] l h = refl
named_elements points more mapped (ns ∷ els) l h = λ i. corners_at points more mapped ns l h.0.1 i ∷ named_elements points more mapped els l h.1 i

listed_elements : (points more : List Point) (mapped : List ℕ) (els : List (List ℕ)) → AreListed points mapped → AreTriangles (length mapped + length more) els → AllByRecursion (AreListed (points ++ more)) (map (map (number_of points more mapped)) els)
listed_elements points more mapped [] l h = tt
listed_elements points more mapped (ns ∷ els) l h = (corners_listed points more mapped ns l h.0.1, listed_elements points more mapped els l h.1)

three_each : (points more : List Point) (mapped : List ℕ) (count : ℕ) (els : List (List ℕ)) → AreTriangles count els → AllByRecursion (λ ns. length ns ≡ 3) (map (map (number_of points more mapped)) els)
three_each points more mapped count [] h = tt
three_each points more mapped count (ns ∷ els) h = (length-map ns (number_of points more mapped) ∙ h.0.0, three_each points more mapped count els h.1)

-- a candidate by a rule that a reader gives has an application that may be made
pub may_apply : (b : List Edge) (st : State) (t : Attempt) → IsReached b st → IsRule t.text → IsCandidate st t → MayBeApplied st (application st t)
may_apply b st t r rule c =
    let more = made st t in
    let mapped : AreListed st.points t.points = all_map (IsFrontPoint st) (IsListed (length st.points)) (λ n. point_listed st n r.numbered.lines_listed) t.points c.on_front in
    let count : length t.text.points + length t.text.new_points ≡ length t.points + length more = λ i. sym c.counted i + sym (as_many (mapping st t) 1 t.text.new_points) i in
    let triangles : AreTriangles (length t.points + length more) t.text.elements = subst (λ (n : ℕ). AreTriangles n t.text.elements) count rule.elements.1 in
    let els = map (map (number_of st.points more t.points)) t.text.elements in
    let different = all_different st.points more r.numbered.different c.made_different c.made_new in
    let on_grid = All-from_recursion IsOnGrid more c.made_on_grid in
    let listed : AllByRecursion (AreListed (st.points ++ more)) els = listed_elements st.points more t.points t.text.elements mapped triangles in
    record {
      different = different;
      on_grid = on_grid;
      triangles = three_each st.points more t.points (length t.points + length more) t.text.elements triangles;
      listed = listed;
      may = follow (with_points st more) els (reached_with b st more r different on_grid).numbered listed
          (subst (MayAllBeGlued (map (corners_of (st.points ++ more)) els)) (sym (edges_kept st.points more st.front r.numbered.lines_listed))
          (subst (λ (places : List (List Point)). MayAllBeGlued places (front_at st)) (sym (named_elements st.points more t.points t.text.elements mapped triangles)) c.glued));
    }

-- ---- the opening
pub reached_opening : (g : PlanarMap) (greatest grading d : ℕ) → IsGeometry g → 0 < d → IsReached (piece_boundary d g.segments (pieces_of g greatest grading)) (opening_state d g.segments (pieces_of g greatest grading))
reached_opening g greatest grading d h above =
    let pieces = pieces_of g greatest grading in let boundary = piece_boundary d g.segments pieces in let st = opening_state d g.segments pieces in
    let opening = begun g greatest grading d h above in
    record {
      numbered = record {
        different = opening.numbered.different;
        lines_listed = subst (AreJoined st.points) (sym (same_front 1 _)) opening.numbered.lines_listed;
      };
      on_grid = opening.on_grid;
      corners_listed = tt;
      kept = subst (λ (es : List Edge). IsKept boundary [] es []) (sym (front_opens d g.segments pieces)) (kept_of boundary (boundary_region g greatest grading d h above));
    }
