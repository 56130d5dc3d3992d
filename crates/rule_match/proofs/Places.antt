-- A candidate by numbers is one by places, so a pair that is refused with its reasons has none.
use Prim.Native.Nat.{ℕ, zero, suc, ◌<◌}
use mathlib.Core.Path.{◌≡◌, refl, sym, subst, ap, ◌∙◌}
use mathlib.Core.List.{List, [], ◌∷◌}
use mathlib.Core.Logic.{◌⊎◌, inl, inr}
use native.Mathlib.Omega.{arith}
use Rattle.std.specs.Prelude.{length, map, slice_index_or}
use Rattle.std.specs.List.{AllByRecursion, Contains}
use Rattle.grid_geom.specs.declared.Point.{Point}
use Rattle.grid_geom.specs.declared.Edge.{Edge}
use Rattle.grid_geom.specs.Line.{whole}
use Rattle.grid_geom.specs.Polygon.{IsInPolygon, IsApart}
use Rattle.rule_reader.specs.declared.rule.Rule.{Rule}
use Rattle.rule_reader.specs.declared.rule.MapLine.{MapLine}
use Rattle.state_law.specs.Free.{IsIn}
use Rattle.state_law.specs.Saved.{IsCorner}
use Rattle.state_law.specs.Saved as saved
use Rattle.size_field.specs.Size.{SizeField}
use Rattle.state_law.specs.State.{State, point_at, pair_edge, front_edges, corners_of}
use Rattle.state_law.specs.Refusal as refusal
use Rattle.state_law.proofs.Lists.{all_map}
use Rattle.state_law.proofs.Refused.{refuted}
use Rattle.rule_match.specs.declared.progress.Note.{Note}
use Rattle.rule_match.specs.Candidate.{Attempt, IsCandidate, made, zone, mapped_pair, IsFrontPoint, IsFrontPair, IsMappedLine}
use Rattle.rule_match.specs.Least.{IsOf}
use Rattle.rule_match.specs.Refused.{places_of, IsAllowed, FitsFront, IsExcused, IsRefusedBy}

corner_contained : (p : Point) (ps : List Point) → IsCorner p ps → Contains ps p
corner_contained p [] c = absurd c
corner_contained p (q ∷ ps) (inl e) = (0, omega arith, e)
corner_contained p (q ∷ ps) (inr c) = let r : Contains ps p = corner_contained p ps c in (suc r.0, omega (arith, r.1), r.2)

pub number_corner : (pts : List Point) (n : ℕ) (ns : List ℕ) → Contains ns n → IsCorner (point_at pts n) (corners_of pts ns)
number_corner pts n ns r = at ns r.0 r.1 r.2
  where
    at : (ns : List ℕ) (k : ℕ) → k < length ns → slice_index_or ns k n ≡ n → IsCorner (point_at pts n) (corners_of pts ns)
    at [] k w e = absurd (omega (arith, w))
    at (m ∷ ns) zero w e = inl (ap (point_at pts) e)
    at (m ∷ ns) (suc k) w e = inr (at ns k (omega (arith, w)) e)

pub edge_in : {X : Type 0} (f : X → Edge) (x : X) (xs : List X) → Contains xs x → IsIn (f x) (map f xs)
edge_in {X = X} f x xs r = at xs r.0 r.1 r.2
  where
    at : (xs : List X) (k : ℕ) → k < length xs → slice_index_or xs k x ≡ x → IsIn (f x) (map f xs)
    at [] k w e = absurd (omega (arith, w))
    at (y ∷ xs) zero w e = inl (ap f e)
    at (y ∷ xs) (suc k) w e = inr (at xs k (omega (arith, w)) e)

end_in : (p : Point) (e : Edge) (es : List Edge) → IsIn e es → (p ≡ e.a) ⊎ (p ≡ e.b) → saved.IsFrontPoint es p
end_in p e [] i h = absurd i
end_in p e (f ∷ es) (inl q) h = inl (subst (λ (z : Edge). (p ≡ z.a) ⊎ (p ≡ z.b)) (sym q) h)
end_in p e (f ∷ es) (inr i) h = inr (end_in p e es i h)

all_mapped : {X Y : Type 0} (Q : X → Type 0) (P : Y → Type 0) (f : X → Y) (xs : List X) → ((x : X) → Contains xs x → Q x → P (f x)) → AllByRecursion Q xs → AllByRecursion P (map f xs)
all_mapped Q P f [] h a = tt
all_mapped Q P f (x ∷ xs) h a = (h x (0, omega arith, refl) a.0, all_mapped Q P f xs (λ y r q. h y (suc r.0, omega (arith, r.1), r.2) q) a.1)

pub all_mapped_known : {X Y : Type 0} (P : Y → Type 0) (f : X → Y) (xs : List X) → ((x : X) → Contains xs x → P (f x)) → AllByRecursion P (map f xs)
all_mapped_known P f [] h = tt
all_mapped_known P f (x ∷ xs) h = (h x (0, omega arith, refl), all_mapped_known P f xs (λ y r. h y (suc r.0, omega (arith, r.1), r.2)))

abbrev pair_of : ℕ → ℕ → ℕ × ℕ
pair_of a b = (a, b)

both : (a b d e : ℕ) → a ≡ d → b ≡ e → pair_of a b ≡ pair_of d e
both a b d e f g = ap (λ (z : ℕ). pair_of z b) f ∙ ap (λ (z : ℕ). pair_of d z) g

module _ (st : State) (t : Attempt) where
  abbrev edge_of : ℕ × ℕ × ℕ → Edge
  edge_of line = pair_edge st.points (line.1, line.2)

  pub allowed : IsCandidate st t → IsAllowed st t
  allowed c = record {
    live = c.live;
    quality = c.quality;
    counted = c.counted;
    different = c.different;
    in_range = c.in_range;
    at_start = c.at_start;
    at_end = c.at_end;
    points_tolerated = c.points_tolerated;
    lines_tolerated = c.lines_tolerated;
    turned = c.turned;
    made_on_grid = c.made_on_grid;
    made_different = c.made_different;
    zone_on_grid = c.zone_on_grid;
    zone_convex = c.zone_convex;
  }

  pub on_its_front : IsCandidate st t → FitsFront st t
  on_its_front c = record { on_front = c.on_front; at_lines = c.at_lines }

  pub point_on : (n : ℕ) → IsFrontPoint st n → saved.IsFrontPoint (front_edges st.points st.front) (point_at st.points n)
  point_on n a = end_in (point_at st.points n) (edge_of a.1) (front_edges st.points st.front) (edge_in edge_of a.1 st.front (a.0, a.2, a.3)) (of a.4)
    where
      of : (a.1.1 ≡ n) ⊎ (a.1.2 ≡ n) → (point_at st.points n ≡ (edge_of a.1).a) ⊎ (point_at st.points n ≡ (edge_of a.1).b)
      of (inl e) = inl (ap (point_at st.points) (sym e))
      of (inr e) = inr (ap (point_at st.points) (sym e))

  line_on : (l : MapLine) → IsFrontPair st (mapped_pair t.points l) → IsIn (pair_edge st.points (mapped_pair t.points l)) (front_edges st.points st.front)
  line_on l a = subst (λ (z : ℕ × ℕ). IsIn (pair_edge st.points z) (front_edges st.points st.front)) (same a.1 (mapped_pair t.points l) a.4.0 a.4.1) (edge_in edge_of a.1 st.front (a.0, a.2, a.3))
    where
      same : (line : ℕ × ℕ × ℕ) (s : ℕ × ℕ) → line.1 ≡ s.0 → line.2 ≡ s.1 → pair_of line.1 line.2 ≡ s
      same line s e f = both line.1 line.2 s.0 s.1 e f

  mapped_in : (line : ℕ × ℕ × ℕ) → IsMappedLine t line → IsIn (edge_of line) (places_of st t).lines
  mapped_in line a = subst (λ (z : ℕ × ℕ). IsIn (pair_edge st.points z) (places_of st t).lines) a.4 (edge_in (λ (l : MapLine). pair_edge st.points (mapped_pair t.points l)) a.1 t.text.lines (a.0, a.2, a.3))

  pub fits_by : FitsFront st t → refusal.DoesFit (front_edges st.points st.front) (places_of st t)
  fits_by h = record {
    points = all_mapped (IsFrontPoint st) (saved.IsFrontPoint (front_edges st.points st.front)) (point_at st.points) t.points (λ n r a. point_on n a) h.on_front;
    lines = all_mapped (λ (l : MapLine). IsFrontPair st (mapped_pair t.points l)) (λ e. IsIn e (front_edges st.points st.front)) (λ l. pair_edge st.points (mapped_pair t.points l)) t.text.lines (λ l r a. line_on l a) h.at_lines;
  }

  pub fits : IsCandidate st t → refusal.DoesFit (front_edges st.points st.front) (places_of st t)
  fits c = fits_by (on_its_front c)

  pub by_places : IsCandidate st t → refusal.IsCandidate (λ a. Unit {0}) st.points (front_edges st.points st.front) (places_of st t)
  by_places c = record {
    allowed = tt;
    fits = fits c;
    at_new_places = all_map (λ p. ¬ (Contains st.points p)) (λ p. ¬ (IsCorner p st.points)) (λ p n i. n (corner_contained p st.points i)) (made st t) c.made_new;
    no_point_in_zone = all_mapped_known (λ e. refusal.IsEndFree (places_of st t) e.a × refusal.IsEndFree (places_of st t) e.b) edge_of st.front (λ line r.
        (free line.1 (c.no_point_in_zone line.1 (r.0, line, r.1, r.2, inl refl)), free line.2 (c.no_point_in_zone line.2 (r.0, line, r.1, r.2, inr refl))));
    no_line_in_zone = all_mapped (λ (line : ℕ × ℕ × ℕ). IsMappedLine t line ⊎ IsApart (point_at st.points line.1) (point_at st.points line.2) (zone st t)) (λ e. IsIn e (places_of st t).lines ⊎ IsApart e.a e.b (zone st t)) edge_of st.front (λ line r a. line_free line a) c.no_line_in_zone;
    glued = c.glued;
  }
    where
      free : (n : ℕ) → (Contains t.points n) ⊎ ¬ (IsInPolygon (whole (point_at st.points n)) (zone st t)) → refusal.IsEndFree (places_of st t) (point_at st.points n)
      free n (inl i) = inl (number_corner st.points n t.points i)
      free n (inr i) = inr i

      line_free : (line : ℕ × ℕ × ℕ) → IsMappedLine t line ⊎ IsApart (point_at st.points line.1) (point_at st.points line.2) (zone st t) → IsIn (edge_of line) (places_of st t).lines ⊎ IsApart (edge_of line).a (edge_of line).b (zone st t)
      line_free line (inl i) = inl (mapped_in line i)
      line_free line (inr i) = inr i

-- an attempt that is excused is no candidate
pub excused_none : (st : State) (t : Attempt) (notes : List Note) → refusal.IsFront (front_edges st.points st.front) → IsExcused st notes t → ¬ (IsCandidate st t)
excused_none st t notes f r c = refuted (λ a. Unit {0}) st.points (front_edges st.points st.front) _ (places_of st t) f r (by_places st t c)

-- so a refused pair has none
pub refused_none : (sizes : SizeField) (st : State) (rules : List Rule) (line class : ℕ) (notes : List Note) → refusal.IsFront (front_edges st.points st.front) → IsRefusedBy sizes st rules line class notes →
    (t : Attempt) → IsOf sizes st rules line class t → ¬ (IsCandidate st t)
refused_none sizes st rules line class notes f r t o c = excused_none st t notes f (r.excused t o (allowed st t c) (on_its_front st t c)) c
