-- Edge rows walk in one way: where a walk stands and doesn't go on, no walk goes on.
use Rattle.std.proofs.Common.{◌≡◌, ◌≢◌, ◌⊎◌, ℕ, zero, suc, ◌+◌, List, [], ◌∷◌, ◌++◌, length, drop, slice_index_or, inl, inr, refl, sym, ◌∙◌, ap, subst, arith}
use lib.IntN.{ℤ}
use lib.Signed.{◌≤ℤ◌}
use Rattle.std.specs.Int.{int_max, int_min}
use Rattle.std.proofs.lemmas.Int.{ints}
use Rattle.std.proofs.lemmas.List.{append_assoc, append-nil, append_cancel_left, length-append}
use Rattle.grid_geom.specs.declared.Point.{Point}
use Rattle.grid_geom.proofs.Lines.{same_place}
use Rattle.geom_check.specs.declared.kinds.Segment.{Segment}
use Rattle.geom_check.specs.Boundary.{edge_of}
use Rattle.vol_format.specs.declared.EdgeRow.{EdgeRow}
use Rattle.mesh_check.specs.Parts.{row_edge}
use Rattle.mesh_check.specs.Walked.{Places, IsStep, DoesLead, WalksFirst, DoWalk}

-- ---- along one segment
-- what is between two equal numbers is one of them
equal_both : (u w z : ℤ) → u ≡ w → int_min u w ≤ℤ z → z ≤ℤ int_max u w → u ≡ z
equal_both u w z e h l = grind (arith, ints)

-- there is no step on from a segment's last place
no_step_on : (ps : Places) (n : ℕ) (s : Segment) (row : EdgeRow) → ¬ (IsStep ps n s (edge_of ps.of_geometry s).b row)
no_step_on ps n s row t = elim t.moves.along [
  | inl e ↦ t.moves.moves e
  | inr o ↦ o.not_b (same_place (row_edge ps.of_mesh row).b (edge_of ps.of_geometry s).b (sym (equal_both _ _ _ refl o.right_of_least o.left_of_greatest)) (sym (equal_both _ _ _ refl o.above_least o.below_greatest)))
]

lead_step : (ps : Places) (n : ℕ) (s : Segment) (from at to : Point) (rows more : List EdgeRow) (row : EdgeRow) → DoesLead ps n s from rows at → DoesLead ps n s from (rows ++ row ∷ more) to → IsStep ps n s at row
lead_step ps n s from at to [] more row h k = subst (λ (p : Point). IsStep ps n s p row) h k.0
lead_step ps n s from at to (r ∷ rows) more row h k = lead_step ps n s (row_edge ps.of_mesh r).b at to rows more row h.1 k.1

lead_end : (ps : Places) (n : ℕ) (s : Segment) (from at to : Point) (rows : List EdgeRow) → DoesLead ps n s from rows at → DoesLead ps n s from rows to → at ≡ to
lead_end ps n s from at to [] h k = sym h ∙ k
lead_end ps n s from at to (r ∷ rows) h k = lead_end ps n s (row_edge ps.of_mesh r).b at to rows h.1 k.1

-- ---- two ways to cut a list
data Compared (xs ys : List EdgeRow) : Type 0 where
  same : xs ≡ ys → Compared xs ys
  longer : (row : EdgeRow) (more : List EdgeRow) → ys ≡ xs ++ row ∷ more → Compared xs ys
  shorter : (row : EdgeRow) (more : List EdgeRow) → xs ≡ ys ++ row ∷ more → Compared xs ys

compared : (xs us ys ws : List EdgeRow) → xs ++ us ≡ ys ++ ws → Compared xs ys
compared [] us [] ws e = same refl
compared [] us (y ∷ ys) ws e = longer y ys refl
compared (x ∷ xs) us [] ws e = shorter x xs refl
compared (x ∷ xs) us (y ∷ ys) ws e = next x y xs ys (ap (λ (l : List EdgeRow). slice_index_or l 0 x) e) (compared xs us ys ws (ap (λ (l : List EdgeRow). drop 1 l) e))
  where
    next : (x y : EdgeRow) (xs ys : List EdgeRow) → x ≡ y → Compared xs ys → Compared (x ∷ xs) (y ∷ ys)
    next x y xs ys f (same g) = same (ap (λ (z : EdgeRow). z ∷ xs) f ∙ ap (λ (l : List EdgeRow). y ∷ l) g)
    next x y xs ys f (longer row more g) = longer row more (ap (λ (z : EdgeRow). z ∷ ys) (sym f) ∙ ap (λ (l : List EdgeRow). x ∷ l) g)
    next x y xs ys f (shorter row more g) = shorter row more (ap (λ (z : EdgeRow). z ∷ xs) f ∙ ap (λ (l : List EdgeRow). y ∷ l) g)

-- two whole ways along a segment are one
whole_own : (ps : Places) (n : ℕ) (s : Segment) (xs us ys ws : List EdgeRow) → DoesLead ps n s (edge_of ps.of_geometry s).a xs (edge_of ps.of_geometry s).b → DoesLead ps n s (edge_of ps.of_geometry s).a ys (edge_of ps.of_geometry s).b → xs ++ us ≡ ys ++ ws → xs ≡ ys
whole_own ps n s xs us ys ws h k e = by_case (compared xs us ys ws e)
  where
    by_case : Compared xs ys → xs ≡ ys
    by_case (same f) = f
    by_case (longer row more f) = absurd (no_step_on ps n s row (lead_step ps n s (edge_of ps.of_geometry s).a (edge_of ps.of_geometry s).b (edge_of ps.of_geometry s).b xs more row h (subst (λ (l : List EdgeRow). DoesLead ps n s (edge_of ps.of_geometry s).a l (edge_of ps.of_geometry s).b) f k)))
    by_case (shorter row more f) = absurd (no_step_on ps n s row (lead_step ps n s (edge_of ps.of_geometry s).a (edge_of ps.of_geometry s).b (edge_of ps.of_geometry s).b ys more row k (subst (λ (l : List EdgeRow). DoesLead ps n s (edge_of ps.of_geometry s).a l (edge_of ps.of_geometry s).b) f h)))

rest_of : (xs us ys ws : List EdgeRow) → xs ≡ ys → xs ++ us ≡ ys ++ ws → us ≡ ws
rest_of xs us ys ws e f = append_cancel_left xs us ws (f ∙ ap (λ (l : List EdgeRow). l ++ ws) (sym e))

-- ---- along all segments
-- the edge rows walk k segments, and lead along the next up to a place that is not its last
abbrev pub IsPart : Places → ℕ → List Segment → ℕ → Point → List EdgeRow → Type 0
IsPart ps n [] k at rows = ⊥
IsPart ps n (s ∷ ss) zero at rows = DoesLead ps n s (edge_of ps.of_geometry s).a rows at × (at ≢ (edge_of ps.of_geometry s).b)
IsPart ps n (s ∷ ss) (suc k) at rows = WalksFirst ps n s (IsPart ps (n + 1) ss k at) rows

-- the edge row is a step on from there
abbrev pub IsStepAfter : Places → ℕ → List Segment → ℕ → Point → EdgeRow → Type 0
IsStepAfter ps n [] k at row = ⊥
IsStepAfter ps n (s ∷ ss) zero at row = IsStep ps n s at row
IsStepAfter ps n (s ∷ ss) (suc k) at row = IsStepAfter ps (n + 1) ss k at row

-- where the edge rows stand on the first segment
pub record IsOnFirst (ps : Places) (n : ℕ) (s : Segment) (rows : List EdgeRow) : Type 0 where
  pub at : Point
  pub leads : DoesLead ps n s (edge_of ps.of_geometry s).a rows at
  pub not_last : at ≢ (edge_of ps.of_geometry s).b

-- the edge rows are the beginning of a walk
abbrev pub Begins : Places → ℕ → List Segment → List EdgeRow → Type 0
Begins ps n [] rows = rows ≡ []
Begins ps n (s ∷ ss) rows = IsOnFirst ps n s rows ⊎ WalksFirst ps n s (Begins ps (n + 1) ss) rows

pub part_begins : (ps : Places) (n : ℕ) (ss : List Segment) (k : ℕ) (at : Point) (rows : List EdgeRow) → IsPart ps n ss k at rows → Begins ps n ss rows
part_begins ps n [] k at rows h = absurd h
part_begins ps n (s ∷ ss) zero at rows h = inl (record { at = at; leads = h.0; not_last = h.1 })
part_begins ps n (s ∷ ss) (suc k) at rows h = inr (record { own = h.own; rest = h.rest; parts = h.parts; leads = h.leads; others = part_begins ps (n + 1) ss k at h.rest h.others })

pub walk_begins : (ps : Places) (n : ℕ) (ss : List Segment) (rows : List EdgeRow) → DoWalk ps n ss rows → Begins ps n ss rows
walk_begins ps n [] rows h = h
walk_begins ps n (s ∷ ss) rows h = inr (record { own = h.own; rest = h.rest; parts = h.parts; leads = h.leads; others = walk_begins ps (n + 1) ss h.rest h.others })

-- a list with something behind it has a first item
record HasFirst (rows : List EdgeRow) : Type 0 where
  row : EdgeRow
  more : List EdgeRow
  is : rows ≡ row ∷ more

first_of : (rows : List EdgeRow) (row : EdgeRow) (more : List EdgeRow) → HasFirst (rows ++ row ∷ more)
first_of [] row more = record { row = row; more = more; is = refl }
first_of (r ∷ rows) row more = record { row = r; more = rows ++ row ∷ more; is = refl }

-- past a segment no more of it is walked
past_first : (ps : Places) (n : ℕ) (s : Segment) (own rest rows more : List EdgeRow) (row : EdgeRow) → rows ≡ own ++ rest → DoesLead ps n s (edge_of ps.of_geometry s).a own (edge_of ps.of_geometry s).b → ¬ (IsOnFirst ps n s (rows ++ row ∷ more))
past_first ps n s own rest rows more row e h o = no_step_on ps n s f.row (lead_step ps n s (edge_of ps.of_geometry s).a (edge_of ps.of_geometry s).b o.at own f.more f.row h
    (subst (λ (l : List EdgeRow). DoesLead ps n s (edge_of ps.of_geometry s).a l o.at) (ap (λ (l : List EdgeRow). l ++ row ∷ more) e ∙ append_assoc own rest (row ∷ more) ∙ ap (λ (l : List EdgeRow). own ++ l) f.is) o.leads))
  where
    f : HasFirst (rest ++ row ∷ more)
    f = first_of rest row more

-- the others after one whole way along the first
others_of : (ps : Places) (n : ℕ) (s : Segment) (Rest : List EdgeRow → Type 0) (own rest rows more : List EdgeRow) → rows ≡ own ++ rest → DoesLead ps n s (edge_of ps.of_geometry s).a own (edge_of ps.of_geometry s).b → WalksFirst ps n s Rest (rows ++ more) → Rest (rest ++ more)
others_of ps n s Rest own rest rows more e h w = subst Rest (sym (rest_of own (rest ++ more) w.own w.rest (whole_own ps n s own (rest ++ more) w.own w.rest h w.leads joined) joined)) w.others
  where
    joined : own ++ (rest ++ more) ≡ w.own ++ w.rest
    joined = sym (append_assoc own rest more) ∙ ap (λ (l : List EdgeRow). l ++ more) (sym e) ∙ w.parts

-- where a walk stands on a segment, another walk of these rows and more goes on by a step
here_step : (ps : Places) (n : ℕ) (s : Segment) (Rest : List EdgeRow → Type 0) (at : Point) (rows more : List EdgeRow) (row : EdgeRow) → DoesLead ps n s (edge_of ps.of_geometry s).a rows at → at ≢ (edge_of ps.of_geometry s).b → WalksFirst ps n s Rest (rows ++ row ∷ more) → IsStep ps n s at row
here_step ps n s Rest at rows more row h m w = by_case (compared rows (row ∷ more) w.own w.rest w.parts)
  where
    by_case : Compared rows w.own → IsStep ps n s at row
    by_case (same f) = absurd (m (lead_end ps n s (edge_of ps.of_geometry s).a at (edge_of ps.of_geometry s).b rows h (subst (λ (l : List EdgeRow). DoesLead ps n s (edge_of ps.of_geometry s).a l (edge_of ps.of_geometry s).b) (sym f) w.leads)))
    by_case (longer r rs f) = subst (IsStep ps n s at) (ap (λ (l : List EdgeRow). slice_index_or l 0 r) (sym (append_cancel_left rows (row ∷ more) (r ∷ rs ++ w.rest) (w.parts ∙ ap (λ (l : List EdgeRow). l ++ w.rest) f ∙ append_assoc rows (r ∷ rs) w.rest))))
        (lead_step ps n s (edge_of ps.of_geometry s).a at (edge_of ps.of_geometry s).b rows rs r h (subst (λ (l : List EdgeRow). DoesLead ps n s (edge_of ps.of_geometry s).a l (edge_of ps.of_geometry s).b) f w.leads))
    by_case (shorter r rs f) = absurd (no_step_on ps n s r (lead_step ps n s (edge_of ps.of_geometry s).a (edge_of ps.of_geometry s).b at w.own rs r w.leads (subst (λ (l : List EdgeRow). DoesLead ps n s (edge_of ps.of_geometry s).a l at) f h)))

pub part_step : (ps : Places) (n : ℕ) (ss : List Segment) (k : ℕ) (at : Point) (rows more : List EdgeRow) (row : EdgeRow) → IsPart ps n ss k at rows → Begins ps n ss (rows ++ row ∷ more) → IsStepAfter ps n ss k at row
part_step ps n [] k at rows more row h b = h
part_step ps n (s ∷ ss) zero at rows more row h (inl o) = lead_step ps n s (edge_of ps.of_geometry s).a at o.at rows more row h.0 o.leads
part_step ps n (s ∷ ss) zero at rows more row h (inr w) = here_step ps n s (Begins ps (n + 1) ss) at rows more row h.0 h.1 w
part_step ps n (s ∷ ss) (suc k) at rows more row h (inl o) = absurd (past_first ps n s h.own h.rest rows more row h.parts h.leads o)
part_step ps n (s ∷ ss) (suc k) at rows more row h (inr w) = part_step ps (n + 1) ss k at h.rest more row h.others (others_of ps n s (Begins ps (n + 1) ss) h.own h.rest rows (row ∷ more) h.parts h.leads w)

pub walk_ends : (ps : Places) (n : ℕ) (ss : List Segment) (rows more : List EdgeRow) (row : EdgeRow) → DoWalk ps n ss rows → ¬ (Begins ps n ss (rows ++ row ∷ more))
walk_ends ps n [] rows more row h b = none (length rows) (length more) (ap (λ (l : List EdgeRow). length l) (sym b) ∙ length-append rows (row ∷ more))
  where
    none : (m k : ℕ) → 0 ≡ m + suc k → ⊥
    none m k e = omega arith
walk_ends ps n (s ∷ ss) rows more row h (inl o) = past_first ps n s h.own h.rest rows more row h.parts h.leads o
walk_ends ps n (s ∷ ss) rows more row h (inr w) = walk_ends ps (n + 1) ss h.rest more row h.others (others_of ps n s (Begins ps (n + 1) ss) h.own h.rest rows (row ∷ more) h.parts h.leads w)

-- what stands on a segment is no whole walk
pub part_not_walk : (ps : Places) (n : ℕ) (ss : List Segment) (k : ℕ) (at : Point) (rows : List EdgeRow) → IsPart ps n ss k at rows → ¬ (DoWalk ps n ss rows)
part_not_walk ps n [] k at rows h w = h
part_not_walk ps n (s ∷ ss) zero at rows h w = by_case (compared rows [] w.own w.rest (append-nil rows ∙ w.parts))
  where
    none : (m k j : ℕ) → m ≡ m + suc k + j → ⊥
    none m k j e = omega arith

    by_case : Compared rows w.own → ⊥
    by_case (same f) = h.1 (lead_end ps n s (edge_of ps.of_geometry s).a at (edge_of ps.of_geometry s).b rows h.0 (subst (λ (l : List EdgeRow). DoesLead ps n s (edge_of ps.of_geometry s).a l (edge_of ps.of_geometry s).b) (sym f) w.leads))
    by_case (longer r rs f) = none (length rows) (length rs) (length w.rest) (ap (λ (l : List EdgeRow). length l) (w.parts ∙ ap (λ (l : List EdgeRow). l ++ w.rest) f) ∙ length-append (rows ++ r ∷ rs) w.rest ∙ ap (λ (n : ℕ). n + length w.rest) (length-append rows (r ∷ rs)))
    by_case (shorter r rs f) = no_step_on ps n s r (lead_step ps n s (edge_of ps.of_geometry s).a (edge_of ps.of_geometry s).b at w.own rs r w.leads (subst (λ (l : List EdgeRow). DoesLead ps n s (edge_of ps.of_geometry s).a l at) f h.0))
part_not_walk ps n (s ∷ ss) (suc k) at rows h w = part_not_walk ps (n + 1) ss k at h.rest h.others (subst (DoWalk ps (n + 1) ss) (append-nil h.rest) (others_of ps n s (DoWalk ps (n + 1) ss) h.own h.rest rows [] h.parts h.leads (subst (WalksFirst ps n s (DoWalk ps (n + 1) ss)) (sym (append-nil rows)) w)))
