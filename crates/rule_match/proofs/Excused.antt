-- The reasons why an assignment is no candidate: a new place that is taken, a line in the way of its zone, elements that are refused. What IsAllowed rules out needs none.
use Rattle.std.proofs.Common.{◌≡◌, ℕ, zero, suc, ◌-◌, ◌<◌, ◌⊎◌, inl, inr, Bool, true, false, List, [], ◌∷◌, ◌++◌, length, map, slice_index_or, refl, sym, ap, ◌∙◌, subst, arith}
use mathlib.Core.Bool.{true≢false}
use Rattle.std.specs.Prelude.{◌&&◌, ◌||◌, is_none}
use Rattle.std.specs.List.{AllByRecursion, Contains, list_any}
use Rattle.std.proofs.lemmas.List.{length-map}
use Rattle.std.proofs.lemmas.List.Elements.{All-from_recursion, recursion_from_All}
use Rattle.grid_geom.specs.declared.Point.{Point}
use Rattle.grid_geom.specs.declared.Edge.{Edge}
use Rattle.grid_geom.specs.Bounds.{IsOnGrid}
use Rattle.grid_geom.specs.Closed.{same_point, IsEdge}
use Rattle.grid_geom.specs.Polygon.{IsApart}
use Rattle.geom_check.proofs.Closing.{same_point_is}
use Rattle.state_law.specs.Region.{IsRegion}
use Rattle.state_law.specs.Saved.{IsCorner}
use Rattle.state_law.specs.State.{State, point_at, pair_edge, front_edges, corners_of, IsListed}
use Rattle.state_law.specs.Refusal.{HasReason, place_taken, line_in_zone}
use Rattle.state_law.proofs.Lists.{all_map, at_edge}
use Rattle.state_law.proofs.Saved.{point_in_zone}
use Rattle.front_chain.specs.Front.{FrontState, IsFrontState, number_of, state_of}
use Rattle.front_chain.proofs.Places.{absent_place}
use Rattle.free_zone.specs.Zone.{IsZone, zone_of}
use Rattle.free_zone.specs.InTheWay as way
use Rattle.free_zone.specs.InTheWay.{HasNoPoint, HasNoLine, IsLineInWay, IsFreeLine}
use Rattle.rule_maps.specs.Places.{mapping}
use Rattle.rule_reader.specs.declared.rule.Rule.{Rule}
use Rattle.rule_reader.specs.Normal.{IsMapLine, Names}
use Rattle.admission.specs.Around.{AreListed}
use Rattle.admission.specs.Admission.{entered, IsRefusal}
use Rattle.admission.specs.declared.refusal.GlueRefusal.{GlueRefusal}
use Rattle.admission.specs.declared.refusal.GlueRefusal.TheVariants.{Memory as NoMemory}
use Rattle.rule_match.specs.declared.progress.Note.{Note}
use Rattle.rule_match.specs.Candidate.{Attempt, IsCandidate, mapped, elements, nth, IsFrontPoint}
use Rattle.rule_match.specs.Candidate.{made as made_at}
use Rattle.rule_match.specs.Candidate.{zone as zone_at}
use Rattle.rule_match.specs.Applied.{are_new, do_differ}
use Rattle.rule_match.specs.Refused.{IsAllowed, has_note, is_noted, places_of, witnesses}
use Rattle.rule_match.specs.Noted.{HasExcuse, IsRefusalNoted, IsWayNoted}
use Rattle.rule_match.specs.Fitting.{fits_so_far}
use Rattle.rule_match.specs.Trying.{near_at, ties}
use Rattle.rule_match.specs.Base.{BaseLine, Tried, IsTrying, HasFreeZone, HasNewPoints, elements_by, numbers_at, attempt_of, setting_at}
use Rattle.rule_match.proofs.BaseLines.{line_there}
use Rattle.rule_match.proofs.GluedParts.{edges_same, elements_same, lines_still}
use Rattle.rule_match.proofs.Judged.{ready_listed, ready_distinct, rule_elements, then_differ}
use Rattle.rule_match.proofs.NearBack.{ends_listed, front_listed, line_number, pairs_listed}
use Rattle.rule_match.proofs.Standing.{all_on_front, all_within}
use Rattle.rule_match.proofs.Places.{edge_in}
use Rattle.rule_match.proofs.NotesMade.{kept_in}
use Rattle.rule_match.proofs.Hindered.{refusal_reason}

-- ---- a new place that is taken
corner_by_test : (p : Point) (ps : List Point) → list_any (same_point p) ps ≡ true → IsCorner p ps
corner_by_test p [] h = absurd (true≢false (sym h))
corner_by_test p (q ∷ ps) h = by (same_point p q) refl (corner_by_test p ps) h
  where
    by : (b : Bool) → same_point p q ≡ b → (list_any (same_point p) ps ≡ true → IsCorner p ps) → (b || list_any (same_point p) ps) ≡ true → IsCorner p (q ∷ ps)
    by true e later k = inl (sym (same_point_is p q e))
    by false e later k = inr (later k)

abbrev IsTaken : List Point → List Point → Type 0
IsTaken points made = (p : Point) × IsCorner p made × IsCorner p points

taken_place : (points made : List Point) → are_new points made ≡ false → IsTaken points made
taken_place points [] h = absurd (true≢false h)
taken_place points (p ∷ made) h = by (list_any (same_point p) points) refl (taken_place points made)
  where
    later : IsTaken points made → IsTaken points (p ∷ made)
    later r = (r.0, inr r.1, r.2)

    rest : (a b : Bool) → a ≡ true → (a && b) ≡ false → b ≡ false
    rest true b e k = k
    rest false b e k = absurd (true≢false (sym e))

    by : (b : Bool) → list_any (same_point p) points ≡ b → (are_new points made ≡ false → IsTaken points made) → IsTaken points (p ∷ made)
    by true e others = (p, inl refl, corner_by_test p points e)
    by false e others = later (others (rest (is_none (number_of points p)) (are_new points made) (ap is_none (absent_place p points e)) h))

pub taken_excused : (t : Tried) (b : List ℕ) (made : List Point) → made ≡ made_at (state_of t.base.front) (attempt_of t b) → are_new t.base.front.points made ≡ false → (notes : List Note) → HasExcuse t notes b
taken_excused t b made e h notes = λ noting allowed. let r = taken_place t.base.front.points made h in place_taken r.0 (subst (IsCorner r.0) e r.1) r.2

-- new places are different where the attempt is allowed
pub allowed_differ : (t : Tried) (b : List ℕ) (made : List Point) → made ≡ made_at (state_of t.base.front) (attempt_of t b) → IsAllowed (state_of t.base.front) (attempt_of t b) → do_differ made ≡ true
allowed_differ t b made e a = subst (λ (ps : List Point). do_differ ps ≡ true) (sym e) (then_differ (made_at (state_of t.base.front) (attempt_of t b)) a.made_different)

-- ---- a line in the way of the zone
-- as it is noted, with the parts under other names
pub way_noted : (t : Tried) (base : BaseLine) (front : FrontState) (rule : Rule) (zone : List Point) (points : List ℕ) (notes : List Note) (n : ℕ) → base ≡ t.base → front ≡ t.base.front → rule ≡ t.rule → IsLineInWay zone (way.mapping front rule points) n →
    (base.noting ≡ true → has_note notes points n ≡ true) → IsWayNoted t zone points notes
way_noted t base front rule zone points notes n eb ef er w k = record {
  number = n;
  in_way = subst (λ (f : FrontState). IsLineInWay zone (way.mapping f t.rule points) n) ef (subst (λ (r : Rule). IsLineInWay zone (way.mapping front r points) n) er w);
  noted = λ e. k (ap (λ (b : BaseLine). b.noting) eb ∙ e);
}

-- what holds of all holds of one
pub at_index : {X : Type 0} (P : X → Type 0) (xs : List X) (k : ℕ) (x : X) → AllByRecursion P xs → k < length xs → slice_index_or xs k x ≡ x → P x
at_index P [] k x a h e = absurd (omega (arith, h))
at_index P (y ∷ xs) zero x a h e = subst P e a.0
at_index P (y ∷ xs) (suc k) x a h e = at_index P xs k x a.1 (omega (arith, h)) e

module _ (t : Tried) (i : IsTrying t) (b : List ℕ) (l : length b ≡ length t.rule.points) (f : fits_so_far (ties (setting_at t)) b ≡ true) where
  abbrev st : State
  st = state_of t.base.front

  abbrev u : Attempt
  u = attempt_of t b

  abbrev ns : List ℕ
  ns = numbers_at t.base.near b

  abbrev m : way.Mapped
  m = way.mapping t.base.front t.rule ns

  front_state : IsFrontState t.base.front
  front_state = i.base.front

  points_listed : AllByRecursion (IsListed (length st.points)) ns
  points_listed = all_map (IsFrontPoint st) (IsListed (length st.points)) (λ n h. front_listed st n front_state.numbered h) ns (all_on_front t i b l f b (all_within t i b l f))

  counted : length ns ≡ length t.rule.points
  counted = length-map b (λ k. (near_at t.base.near k).number) ∙ l

  abbrev edge_of : ℕ × ℕ × ℕ → Edge
  edge_of line = pair_edge st.points (line.1, line.2)

  by_way : (zone : List Point) (notes : List Note) → zone ≡ zone_at st u → IsWayNoted t zone ns notes → HasExcuse t notes b
  by_way zone notes e w = λ noting allowed.
      let there : Contains st.front (w.number, w.in_way.ends.0, w.in_way.ends.1) = line_there st.front w.number w.in_way.ends w.in_way.on_front in
      let line : ℕ × ℕ × ℕ = (w.number, w.in_way.ends.0, w.in_way.ends.1) in
      let ends = ends_listed (length st.points) st.front there.0 line front_state.numbered.lines_listed there.1 there.2 in
      line_in_zone (edge_of line) (kept_in st.points (is_noted notes ns) st.front there.0 line there.1 there.2 (w.noted noting))
      (edge_in edge_of line st.front there)
      (λ k. w.in_way.not_mapped (line_number st.points front_state.numbered.different ns t.rule.lines line (pairs_listed (length st.points) (length t.rule.points) ns t.rule.lines counted points_listed i.rule.lines.1) ends k))
      (subst (λ (z : List Point). ¬ (IsApart (edge_of line).a (edge_of line).b z)) e w.in_way.not_apart)

  -- the places by which the zone was made
  zone_is : (places zone : List Point) → places ≡ mapped st u → zone ≡ zone_of (mapping t.base.frame t.rule places) t.base.class → zone ≡ zone_at st u
  zone_is places zone g e = e ∙ ap (λ (ps : List Point). zone_of (mapping t.base.frame t.rule ps) t.base.class) g

  pub way_excused : (places zone : List Point) (numbers : List ℕ) (notes : List Note) → places ≡ mapped st u → zone ≡ zone_of (mapping t.base.frame t.rule places) t.base.class → numbers ≡ ns → IsWayNoted t zone numbers notes → HasExcuse t notes b
  way_excused places zone numbers notes g e n w = by_way zone notes (zone_is places zone g e) (subst (λ (ps : List ℕ). IsWayNoted t zone ps notes) n w)

  -- and it refutes a candidate
  pub way_refutes : (places zone : List Point) (numbers : List ℕ) (notes : List Note) → places ≡ mapped st u → zone ≡ zone_of (mapping t.base.frame t.rule places) t.base.class → numbers ≡ ns → IsWayNoted t zone numbers notes → ¬ (IsCandidate st u)
  way_refutes places zone numbers notes g e n w c = by (at_index (λ line. IsFreeLine (zone_at st u) m (line.1, line.2)) st.front there.0 line c.no_line_in_zone there.1 there.2)
    where
      line : ℕ × ℕ × ℕ
      line = (w.number, w.in_way.ends.0, w.in_way.ends.1)

      there : Contains st.front line
      there = line_there st.front w.number w.in_way.ends w.in_way.on_front

      by : IsFreeLine (zone_at st u) m (line.1, line.2) → ⊥
      by (inl k) = w.in_way.not_mapped (subst (λ (ps : List ℕ). way.IsMappedLine t.rule ps w.in_way.ends) (sym n) k)
      by (inr k) = w.in_way.not_apart (subst (λ (z : List Point). IsApart (edge_of line).a (edge_of line).b z) (sym (zone_is places zone g e)) k)

  -- ---- where no line is in the way no point is
  number_in : (xs : List ℕ) (k n : ℕ) → k < length xs → slice_index_or xs k 0 ≡ n → slice_index_or xs k n ≡ n
  number_in [] k n h e = absurd (omega (arith, h))
  number_in (x ∷ xs) zero n h e = e
  number_in (x ∷ xs) (suc k) n h e = number_in xs k n (omega (arith, h)) e

  named : (k n : ℕ) → Names (length t.rule.points) k → nth ns k ≡ n → Contains ns n
  named k n h e = (k - 1, omega (arith, counted, h.0, h.1), number_in ns (k - 1) n (omega (arith, counted, h.0, h.1)) e)

  mapped_end : (line : ℕ × ℕ × ℕ) (n : ℕ) → way.IsMappedLine t.rule ns (line.1, line.2) → (line.1 ≡ n) ⊎ (line.2 ≡ n) → Contains ns n
  mapped_end line n p is = by (at_index (IsMapLine (length t.rule.points)) t.rule.lines p.0 p.1 i.rule.lines.1 p.2 p.3) is
    where
      by : IsMapLine (length t.rule.points) p.1 → (line.1 ≡ n) ⊎ (line.2 ≡ n) → Contains ns n
      by k (inl e) = named p.1.i n k.i (ap (λ (z : ℕ × ℕ). z.0) p.4 ∙ e)
      by k (inr e) = named p.1.j n k.j (ap (λ (z : ℕ × ℕ). z.1) p.4 ∙ e)

  pub no_point : (zone : List Point) → IsZone zone → HasNoLine zone m → HasNoPoint zone m
  no_point zone is h n p = by (at_index (λ line. IsFreeLine zone m (line.1, line.2)) st.front p.0 p.1 h p.2 p.3)
    where
      end_place : (p.1.1 ≡ n) ⊎ (p.1.2 ≡ n) → (point_at st.points n ≡ (edge_of p.1).a) ⊎ (point_at st.points n ≡ (edge_of p.1).b)
      end_place (inl e) = inl (ap (point_at st.points) (sym e))
      end_place (inr e) = inr (ap (point_at st.points) (sym e))

      is_edge : IsEdge (edge_of p.1)
      is_edge = at_edge IsEdge (edge_of p.1) (front_edges st.points st.front) front_state.region.edges (edge_in edge_of p.1 st.front (p.0, p.2, p.3))

      by : IsFreeLine zone m (p.1.1, p.1.2) → way.IsFreePoint zone m n
      by (inl c) = inl (mapped_end p.1 n c p.4)
      by (inr a) = inr (λ inside. point_in_zone zone (edge_of p.1) (point_at st.points n) is.convex is_edge (end_place p.4) inside a)

  -- so the zone is free
  pub zone_free : (places zone : List Point) (numbers : List ℕ) → zone ≡ zone_of (mapping t.base.frame t.rule places) t.base.class → numbers ≡ ns → IsZone zone → HasNoLine zone (way.mapping t.base.front t.rule numbers) → HasFreeZone t places numbers
  zone_free places zone numbers e n is h =
      let free : HasNoLine zone m = subst (λ (ps : List ℕ). HasNoLine zone (way.mapping t.base.front t.rule ps)) n h in
      let own : HasFreeZone t places ns = record {
        zone = subst IsZone e is;
        no_point = subst (λ (z : List Point). HasNoPoint z m) e (no_point zone is free);
        no_line = subst (λ (z : List Point). HasNoLine z m) e free;
      } in
      subst (HasFreeZone t places) (sym n) own

  -- ---- elements that are refused
  pub glue_excused : (made : List Point) → HasNewPoints t b made → (r : GlueRefusal) (notes : List Note) → IsRefusal (entered t.base.front made) (elements_by t ns made) 1 r → (t.base.noting ≡ true → IsRefusalNoted t.base.front notes ns r) → HasExcuse t notes b
  glue_excused made news r notes h n = λ noting allowed.
      let edges : front_edges (st.points ++ made) st.front ≡ front_edges st.points st.front = edges_same st.points made st.front front_state.numbered.lines_listed in
      let listed = recursion_from_All (AreListed (length (st.points ++ made))) (elements_by t ns made) (ready_listed t b made i l f news) in
      let parts : elements st u ≡ map (corners_of (st.points ++ made)) (elements_by t ns made) =
      ap (λ (ps : List Point). map (corners_of (mapped st u ++ ps)) t.rule.elements) (sym news.made) ∙ sym (elements_same st.points made ns points_listed t.rule.elements (rule_elements t b made i l f news)) in
      subst (λ (es : List Edge). HasReason st.points es (witnesses st notes u) (places_of st u)) edges
      (refusal_reason t.base.front made front_state (record { different = ready_distinct t b made i l f news; lines_listed = lines_still st.points made st.front front_state.numbered.lines_listed }) notes ns (places_of st u) r (elements_by t ns made)
      (subst IsRegion (sym edges) front_state.region) (n noting) listed parts h)

  -- with the parts under other names
  pub refused_excused : (made : List Point) → HasNewPoints t b made → (base : BaseLine) (front : FrontState) (es : List (List ℕ)) (numbers : List ℕ) (r : GlueRefusal) (notes : List Note) → base ≡ t.base → front ≡ t.base.front → es ≡ elements_by t ns made → numbers ≡ ns →
      (r ≡ NoMemory) ⊎ IsRefusal (entered front made) es 1 r → (r ≡ NoMemory → ⊥) → (base.noting ≡ true → IsRefusalNoted base.front notes numbers r) → HasExcuse t notes b
  refused_excused made news base front es numbers r notes eb ef ee en o n k = glue_excused made news r notes (by o) (λ noting. noted (k (ap (λ (z : BaseLine). z.noting) eb ∙ noting)))
    where
      by : (r ≡ NoMemory) ⊎ IsRefusal (entered front made) es 1 r → IsRefusal (entered t.base.front made) (elements_by t ns made) 1 r
      by (inl e) = absurd (n e)
      by (inr h) = subst (λ (z : FrontState). IsRefusal (entered z made) (elements_by t ns made) 1 r) ef (subst (λ (z : List (List ℕ)). IsRefusal (entered front made) z 1 r) ee h)

      noted : IsRefusalNoted base.front notes numbers r → IsRefusalNoted t.base.front notes ns r
      noted h = subst (λ (z : BaseLine). IsRefusalNoted z.front notes ns r) eb (subst (λ (ps : List ℕ). IsRefusalNoted base.front notes ps r) en h)

-- a zone that is off the grid or not strictly convex
pub zone_needed : (t : Tried) (b : List ℕ) (places : List Point) → places ≡ mapped (state_of t.base.front) (attempt_of t b) → ¬ (IsZone (zone_of (mapping t.base.frame t.rule places) t.base.class)) → ¬ (IsAllowed (state_of t.base.front) (attempt_of t b))
zone_needed t b places e n a = n (subst (λ (ps : List Point). IsZone (zone_of (mapping t.base.frame t.rule ps) t.base.class)) (sym e)
    (record { on_grid = All-from_recursion IsOnGrid (zone_at (state_of t.base.front) (attempt_of t b)) a.zone_on_grid; convex = a.zone_convex }))
