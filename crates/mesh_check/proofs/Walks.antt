-- Walks of edge rows along segments: how they go on by one step.
use Rattle.std.proofs.Common.{◌≡◌, ◌≢◌, ℕ, ◌+◌, ◌<◌, List, [], ◌∷◌, ◌++◌, length, take, min, Option, Some, None, IfSome, IfNone, refl, sym, ◌∙◌, ap, subst, arith}
use Rattle.std.proofs.lemmas.List.{take_more, take_all, append_assoc, append-nil, length-take}
use Rattle.grid_geom.specs.declared.Point.{Point}
use Rattle.geom_check.specs.declared.kinds.Segment.{Segment}
use Rattle.geom_check.specs.Boundary.{edge_of}
use Rattle.geom_check.specs.Geometry.{PlanarMap, IsGeometry}
use Rattle.vol_format.specs.declared.EdgeRow.{EdgeRow}
use Rattle.mesh_check.specs.declared.rows.Stand.{Stand}
use Rattle.mesh_check.proofs.Apart.{two_places}
use Rattle.mesh_check.specs.Parts.{row_edge}
use Rattle.mesh_check.specs.Walked.{Places, IsStep, DoesLead, DoWalk, segment_after, StandsAt}
use Rattle.mesh_check.specs.Stands.{IsStandAfter}

-- ---- one more edge row
lead_more : (ps : Places) (n : ℕ) (s : Segment) (from at : Point) (rows : List EdgeRow) (row : EdgeRow) → DoesLead ps n s from rows at → IsStep ps n s at row → DoesLead ps n s from (rows ++ row ∷ []) (row_edge ps.of_mesh row).b
lead_more ps n s from at [] row h k = (subst (λ (p : Point). IsStep ps n s p row) (sym h) k, refl)
lead_more ps n s from at (r ∷ rows) row h k = (h.0, lead_more ps n s (row_edge ps.of_mesh r).b at rows row h.1 k)

walk_more : (ps : Places) (n m : ℕ) (ss : List Segment) (s : Segment) (rows own : List EdgeRow) → m ≡ n + length ss → DoWalk ps n ss rows → DoesLead ps m s (edge_of ps.of_geometry s).a own (edge_of ps.of_geometry s).b → DoWalk ps n (ss ++ s ∷ []) (rows ++ own)
walk_more ps n m [] s rows own e w h = record {
  own = own;
  rest = [];
  parts = ap (λ (rs : List EdgeRow). rs ++ own) w ∙ sym (append-nil own);
  leads = subst (λ (k : ℕ). DoesLead ps k s (edge_of ps.of_geometry s).a own (edge_of ps.of_geometry s).b) (let f : m ≡ n = omega arith in f) h;
  others = refl;
}
walk_more ps n m (t ∷ ss) s rows own e w h = record {
  own = w.own;
  rest = w.rest ++ own;
  parts = ap (λ (rs : List EdgeRow). rs ++ own) w.parts ∙ append_assoc w.own w.rest own;
  leads = w.leads;
  others = walk_more ps (n + 1) m ss s w.rest own (omega (arith, e)) w.others h;
}

-- a step that doesn't end at the segment's last place
pub stands_on : (ps : Places) (segments : List Segment) (done : ℕ) (at : Point) (rows : List EdgeRow) (row : EdgeRow) → StandsAt ps segments done at rows → IsStep ps (done + 1) (segment_after done segments) at row
    → (row_edge ps.of_mesh row).b ≢ (edge_of ps.of_geometry (segment_after done segments)).b → StandsAt ps segments done (row_edge ps.of_mesh row).b (rows ++ row ∷ [])
stands_on ps segments done at rows row s h n = record {
  in_list = s.in_list;
  walked = s.walked;
  begun = s.begun ++ row ∷ [];
  parts = ap (λ (rs : List EdgeRow). rs ++ row ∷ []) s.parts ∙ append_assoc s.walked s.begun (row ∷ []);
  walks = s.walks;
  leads = lead_more ps (done + 1) (segment_after done segments) (edge_of ps.of_geometry (segment_after done segments)).a at s.begun row s.leads h;
  not_last = n;
}

-- a step that does
pub walked_on : (ps : Places) (segments : List Segment) (done : ℕ) (at : Point) (rows : List EdgeRow) (row : EdgeRow) → StandsAt ps segments done at rows → IsStep ps (done + 1) (segment_after done segments) at row
    → (row_edge ps.of_mesh row).b ≡ (edge_of ps.of_geometry (segment_after done segments)).b → DoWalk ps 1 (take (done + 1) segments) (rows ++ row ∷ [])
walked_on ps segments done at rows row s h e =
    subst (λ (ss : List Segment). DoWalk ps 1 ss (rows ++ row ∷ [])) (sym (take_more segments done _ s.in_list))
    (subst (λ (rs : List EdgeRow). DoWalk ps 1 (take done segments ++ segment_after done segments ∷ []) rs) (sym (append_assoc s.walked s.begun (row ∷ [])) ∙ ap (λ (rs : List EdgeRow). rs ++ row ∷ []) (sym s.parts))
    (walk_more ps 1 (done + 1) (take done segments) (segment_after done segments) s.walked (s.begun ++ row ∷ []) (long (length (take done segments)) (length segments) s.in_list (length-take done segments)) s.walks
    (subst (λ (p : Point). DoesLead ps (done + 1) (segment_after done segments) (edge_of ps.of_geometry (segment_after done segments)).a (s.begun ++ row ∷ []) p) e
    (lead_more ps (done + 1) (segment_after done segments) (edge_of ps.of_geometry (segment_after done segments)).a at s.begun row s.leads h))))
  where
    long : (n k : ℕ) → done < k → n ≡ min done k → done + 1 ≡ 1 + n
    long n k h e = omega arith

-- ---- where the next segment begins
pub two_ends : (g : PlanarMap) (k : ℕ) → IsGeometry g → k < length g.segments → (edge_of g.points (segment_after k g.segments)).a ≢ (edge_of g.points (segment_after k g.segments)).b
two_ends g k h l =
    two_places g.points (segment_after k g.segments).p (segment_after k g.segments).q h.planar.places ((h.joined k _ l).p_least, (h.joined k _ l).p_greatest) ((h.joined k _ l).q_least, (h.joined k _ l).q_greatest) (h.planar.ends k _ l)

pub begun : (g : PlanarMap) (ps : Places) (done : ℕ) (rows : List EdgeRow) (r : Option Stand) → IsGeometry g → ps.of_geometry ≡ g.points → IfNone r (done ≡ length g.segments)
    → IfSome r (λ s. (s.done ≡ done) × (done < length g.segments) × (s.at ≡ (edge_of g.points (segment_after done g.segments)).a)) → DoWalk ps 1 (take done g.segments) rows → IsStandAfter ps g.segments rows r
begun g ps done rows None h e n s w = subst (λ (ss : List Segment). DoWalk ps 1 ss rows) (take_all done g.segments (omega (arith, n))) w
begun g ps done rows (Some s) h e n (f, l, a) w = subst (λ (k : ℕ). StandsAt ps g.segments k s.at rows) (sym f) (record {
  in_list = l;
  walked = rows;
  begun = [];
  parts = sym (append-nil rows);
  walks = w;
  leads = ap (λ (points : List Point). (edge_of points (segment_after done g.segments)).a) e ∙ sym a;
  not_last = λ i. two_ends g done h l (sym a ∙ i ∙ ap (λ (points : List Point). (edge_of points (segment_after done g.segments)).b) e);
})
