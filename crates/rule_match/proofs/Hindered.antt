-- Why elements that are refused are no candidate's: for each refusal of `admit` the reason in the words of state_law, where the front lines that it names are noted.
-- A line that an earlier element of the same attempt joined is no line of the front before, so it needs no note: each side of the elements stands once among them, the front and the front before (law Conform).
use Rattle.std.proofs.Common.{◌≡◌, ℕ, zero, suc, ◌+◌, ◌<◌, ◌≤◌, ◌⊎◌, inl, inr, Bool, true, false, List, [], ◌∷◌, ◌++◌, length, map, slice_index_or, refl, sym, ap, ◌∙◌, subst, arith}
use lib.IntN.{ℤ, pos, ◌+ℤ◌, ◌-ℤ◌}
use lib.Signed.{◌<ℤ◌, ◌≤ℤ◌}
use Rattle.std.proofs.lemmas.Int.{ints}
use Rattle.std.proofs.lemmas.List.{append_assoc}
use Rattle.std.specs.Prelude.{filter}
use Rattle.std.specs.List.{AllByRecursion, Contains}
use Rattle.grid_geom.specs.declared.Point.{Point}
use Rattle.grid_geom.specs.declared.Edge.{Edge}
use Rattle.grid_geom.specs.Polygon.{sides, IsStrictlyConvex}
use Rattle.grid_geom.specs.Area.{shoelace}
use Rattle.grid_geom.specs.Winding.{wind}
use Rattle.grid_geom.specs.Closed.{IsEdge}
use Rattle.wind_law.specs.Chains.{edge, back, times}
use Rattle.wind_law.specs.Centre.{centre}
use Rattle.wind_law.proofs.Inside.{centre_in_polygon, centre_rational}
use Rattle.state_law.specs.Free.{IsIn}
use Rattle.state_law.specs.Net.{net}
use Rattle.state_law.specs.Gluing.{glue, glue_all, IsClearOf, MayBeGlued, MayAllBeGlued}
use Rattle.state_law.specs.Kept.{all_sides, IsNoneOrOne, IsKept}
use Rattle.state_law.specs.Conforming.{IsBoundary}
use Rattle.state_law.specs.Region.{IsRegion}
use Rattle.state_law.specs.Refusal.{Attempt, IsFront, IsSplit, HasReason, not_turned, line_hinders, outside_front, too_large}
use Rattle.state_law.specs.State.{State, pair_edge, front_edges, corners_of, number_sides, glue_line, next_after, glue_lines, next_after_all, does_join, IsNumbered, AreRising}
use Rattle.state_law.proofs.Lists.{all_map, at_edge}
use Rattle.state_law.proofs.Counts.{times_some, net_in}
use Rattle.state_law.proofs.KeptOn.{all_apart}
use Rattle.state_law.proofs.Saved.{IsOutside, centre_outside}
use Rattle.state_law.proofs.Region.{kept_from, kept_of, region_all, region_front}
use Rattle.state_law.proofs.Refused.{all_net, front_all}
use Rattle.state_law.proofs.Conform.{each_side_once}
use Rattle.state_law.proofs.Numbers.{glued_edges, glued_numbered, side_edges}
use Rattle.admission.specs.declared.triangle.Line.{Line}
use Rattle.admission.specs.declared.refusal.GlueRefusal.{GlueRefusal}
use Rattle.admission.specs.declared.refusal.GlueRefusal.TheVariants.{Turned, Met, PointOnSide, CornerOnLine, Backwards, Outside, Area, Memory}
use Rattle.admission.specs.Triangles.{IsMet, IsOnSide, IsCornerOn, IsBackwards, IsLine, IsEnd, HasSome}
use Rattle.admission.specs.Around.{AreListed, drawn}
use Rattle.admission.specs.Admission.{edges_at, entered, MayJoin, SaysWhy, IsRefusal}
use Rattle.front_chain.specs.Front.{FrontState, IsFrontState}
use Rattle.rule_match.specs.declared.progress.Note.{Note}
use Rattle.rule_match.specs.Refused.{has_note, is_noted}
use Rattle.rule_match.specs.Noted.{IsRefusalNoted, IsLineNoted, AreEndsNoted}
use Rattle.rule_match.proofs.NotesMade.{kept_in}
use Rattle.rule_match.proofs.GluedParts.{listed_same}
use Rattle.rule_match.proofs.NearBack.{ends_listed}
use Rattle.admission.proofs.Transfer.{Hinders, met_hinders, on_side_hinders, corner_on_hinders, backwards_hinders}
use Rattle.admission.proofs.Verdicts.{clear_of_state}

abbrev Triple : Type 0
Triple = ℕ × ℕ × ℕ

-- ---- a front and the elements glued to it so far
module _ (front : List Edge) (r : IsRegion front) where
  convex_of : (before : List (List Point)) (es : List Edge) → MayAllBeGlued before es → AllByRecursion IsStrictlyConvex before
  convex_of [] es m = tt
  convex_of (cs ∷ before) es m = (m.0.turned, convex_of before (glue es cs) m.1)

  -- a side reversed that stands in the front after was no line of the front before
  pub not_rejoined : (before : List (List Point)) (w : Edge) → MayAllBeGlued before front → IsIn w (glue_all front before) → IsIn (back w) (all_sides before) → ¬ (IsIn w front)
  not_rejoined before w m i j k = clash (times w front) (times (back w) front) (times w (all_sides before)) (times (back w) (all_sides before)) (times w (glue_all front before)) (times (back w) (glue_all front before))
      (all_net w before front) (each_side_once front front (glue_all front before) before (back w) kept bounds j) (times_some w front k) (times_some (back w) (all_sides before) j) (times_some w (glue_all front before) i)
    where
      turned : (a b c : ℤ) → a ≡ b +ℤ c → a ≡ c +ℤ b
      turned a b c e = omega (arith, ints, e)

      kept : IsKept front front (glue_all front before) before
      kept = kept_from front front (glue_all front before) before r.edges (region_all front before r m) (convex_of before front m)
          (λ x. turned (net x front) (net x (all_sides before)) (net x (glue_all front before)) (all_net x before front))

      bounds : IsBoundary front front
      bounds = record { edges = r.edges; closed = r.closed; untangled = r.untangled; at_most_once = λ q kq o. most (wind q front) (r.single q kq o) }
        where
          most : (a : ℤ) → IsNoneOrOne a → a ≤ℤ pos 1
          most a (inl e) = omega (arith, ints, e)
          most a (inr e) = omega (arith, ints, e)

      clash : (f bf s bs g bg : ℕ) → pos f -ℤ pos bf ≡ (pos s -ℤ pos bs) +ℤ (pos g -ℤ pos bg) → s + g + bf ≡ 1 → 1 ≤ f → 1 ≤ bs → 1 ≤ g → ⊥
      clash f bf s bs g bg e h a b c = omega (arith, ints, e, h, a, b, c)

  -- a line of the front after stands once more in the front before than among the sides
  net_there : (before : List (List Point)) (w : Edge) → MayAllBeGlued before front → IsIn w (glue_all front before) → pos 1 ≤ℤ (net w front -ℤ net w (all_sides before))
  net_there before w m i =
      let now : IsFront (glue_all front before) = front_all before front m (region_front front r) in
      less (net w front) (net w (all_sides before)) (net w (glue_all front before)) (all_net w before front) (net_in w (glue_all front before) (at_edge IsEdge w (glue_all front before) now.edges i) now.single i)
    where
      less : (a b c : ℤ) → a ≡ b +ℤ c → pos 1 ≤ℤ c → pos 1 ≤ℤ (a -ℤ b)
      less a b c e h = omega (arith, ints, e, h)

  -- a line that isn't clear of the next element
  pub hindered_by : (points : List Point) (ws : List Edge) (t : Attempt) (before : List (List Point)) (cs : List Point) (after : List (List Point)) (w : Edge) → IsSplit t.elements before cs after → MayAllBeGlued before front → IsIn w (glue_all front before) →
      (IsIn w front → IsIn w ws) → ¬ (IsClearOf cs w) → HasReason points front ws t
  hindered_by points ws t before cs after w split m i known n = line_hinders before cs after split w known (net_there before w m i) n

  -- an element round whose centre the front doesn't wind
  pub outside_of : (points : List Point) (ws : List Edge) (t : Attempt) (before : List (List Point)) (cs : List Point) (after : List (List Point)) → IsSplit t.elements before cs after → MayAllBeGlued before front → IsStrictlyConvex cs →
      AllByRecursion (IsClearOf cs) (glue_all front before) → ¬ (wind (centre cs) (glue_all front before) ≡ pos 1) → HasReason points front ws t
  outside_of points ws t before cs after split m v c n =
      let out : IsOutside cs (glue_all front before) = centre_outside (glue_all front before) [] (glue_all front before) [] cs (kept_of (glue_all front before) (region_all front before r m)) v (all_apart cs (glue_all front before) c) n in
      outside_front before cs after split (convex_of before front m) v (centre cs) (centre_rational cs v) (centre_in_polygon cs v) out.off out.none

-- ---- lists of elements one longer
glue_last : (front : List Edge) (before : List (List Point)) (cs : List Point) → glue_all front (before ++ cs ∷ []) ≡ glue (glue_all front before) cs
glue_last front [] cs = refl
glue_last front (ds ∷ before) cs = glue_last (glue front ds) before cs

may_last : (front : List Edge) (before : List (List Point)) (cs : List Point) → MayAllBeGlued before front → MayBeGlued cs (glue_all front before) → MayAllBeGlued (before ++ cs ∷ []) front
may_last front [] cs m k = (k, tt)
may_last front (ds ∷ before) cs m k = (m.0, may_last (glue front ds) before cs m.1 k)

in_first : (e : Edge) (xs ys : List Edge) → IsIn e xs → IsIn e (xs ++ ys)
in_first e [] ys i = absurd i
in_first e (x ∷ xs) ys (inl i) = inl i
in_first e (x ∷ xs) ys (inr i) = inr (in_first e xs ys i)

in_second : (e : Edge) (xs ys : List Edge) → IsIn e ys → IsIn e (xs ++ ys)
in_second e [] ys i = i
in_second e (x ∷ xs) ys i = inr (in_second e xs ys i)

side_before : (e : Edge) (before : List (List Point)) (cs : List Point) → IsIn e (all_sides before) → IsIn e (all_sides (before ++ cs ∷ []))
side_before e [] cs i = absurd i
side_before e (ds ∷ before) cs i = elim (either e (sides ds) (all_sides before) i) [
  | inl j ↦ in_first e (sides ds) (all_sides (before ++ cs ∷ [])) j
  | inr j ↦ in_second e (sides ds) (all_sides (before ++ cs ∷ [])) (side_before e before cs j)
]
  where
    either : (e : Edge) (xs ys : List Edge) → IsIn e (xs ++ ys) → IsIn e xs ⊎ IsIn e ys
    either e [] ys i = inr i
    either e (x ∷ xs) ys (inl i) = inl (inl i)
    either e (x ∷ xs) ys (inr i) = elim (either e xs ys i) [ inl j ↦ inl (inr j) | inr j ↦ inr j ]

side_last : (e : Edge) (before : List (List Point)) (cs : List Point) → IsIn e (sides cs) → IsIn e (all_sides (before ++ cs ∷ []))
side_last e [] cs i = in_first e (sides cs) [] i
side_last e (ds ∷ before) cs i = in_second e (sides ds) (all_sides (before ++ cs ∷ [])) (side_last e before cs i)

-- ---- lines by numbers
-- what holds of all lines, and of each side reversed, holds of all lines after
lines_one : (P : Triple → Type 0) (front : List Triple) (next : ℕ) (s : ℕ × ℕ) → AllByRecursion P front → ((n : ℕ) → P (n, s.1, s.0)) → AllByRecursion P (glue_line front next s)
lines_one P [] next s h p = (p next, tt)
lines_one P (line ∷ front) next s h p = elim (does_join line s) as (λ (b : Bool). AllByRecursion P (elim b [ true ↦ front | false ↦ line ∷ glue_line front next s ])) [
  | true ↦ h.1
  | false ↦ (h.0, lines_one P front next s h.1 p)
]

lines_all : (P : Triple → Type 0) (front : List Triple) (next : ℕ) (ss : List (ℕ × ℕ)) → AllByRecursion P front → AllByRecursion (λ s. (n : ℕ) → P (n, s.1, s.0)) ss → AllByRecursion P (glue_lines front next ss)
lines_all P front next [] h p = h
lines_all P front next (s ∷ ss) h p = lines_all P (glue_line front next s) (next_after front next s) ss (lines_one P front next s h p.0) p.1

contained : (lines : List Triple) → AllByRecursion (Contains lines) lines
contained lines = from lines (λ line c. c)
  where
    from : (ls : List Triple) → ((line : Triple) → Contains ls line → Contains lines line) → AllByRecursion (Contains lines) ls
    from [] f = tt
    from (l ∷ ls) f = (f l (0, omega arith, refl), from ls (λ line c. f line (suc c.0, omega (arith, c.1), c.2)))

-- ---- the refusal of elements, with the front lines that it names noted
module _ (f : FrontState) (made : List Point) (s : IsFrontState f) (numbered : IsNumbered (entered f made)) (notes : List Note) (points : List ℕ) (t : Attempt) where
  abbrev all : List Point
  all = f.points ++ made

  abbrev lines_edge : Triple → Edge
  lines_edge line = pair_edge all (line.1, line.2)

  abbrev front : List Edge
  front = front_edges all f.lines

  abbrev noted : List Edge
  noted = front_edges f.points (filter (is_noted notes points) f.lines)

  -- the line was there before, or is a side reversed
  abbrev IsKnown : List (List Point) → Triple → Type 0
  IsKnown before line = Contains f.lines line ⊎ IsIn (back (lines_edge line)) (all_sides before)

  -- the state that the elements so far leave
  record IsLeft (before : List (List Point)) (lines : List Triple) (next : ℕ) (es : List (List ℕ)) : Type 0 where
    edges : front_edges all lines ≡ glue_all front before
    known : AllByRecursion (IsKnown before) lines
    may : MayAllBeGlued before front
    still : IsNumbered (record { points = all; front = lines; next = next; elements = es })

  below_next : (lines : List Triple) (next : ℕ) (k : ℕ) (line : Triple) → AreRising lines next → k < length lines → slice_index_or lines k line ≡ line → line.0 < next
  below_next [] next k line r h e = absurd (omega (arith, h))
  below_next (l ∷ lines) next zero line r h e = subst (λ (z : Triple). z.0 < next) e r.1
  below_next (l ∷ lines) next (suc k) line r h e = below_next lines next k line r.2 (omega (arith, h)) e

  witness_of : (line : Triple) → Contains f.lines line → has_note notes points line.0 ≡ true → IsIn (lines_edge line) noted
  witness_of line c h =
      let ends = ends_listed (length f.points) f.lines c.0 line s.numbered.lines_listed c.1 c.2 in
      let same : pair_edge f.points (line.1, line.2) ≡ lines_edge line = λ i. edge (sym (listed_same f.points made line.1 ends.0) i) (sym (listed_same f.points made line.2 ends.1) i) in
      subst (λ (e : Edge). IsIn e noted) same (kept_in f.points (is_noted notes points) f.lines c.0 line c.1 c.2 h)

  -- a line that stands in the relation, with what is known of all lines
  pick : (R : Line → ℕ → Type 0) (n : ℕ) (P : Triple → Type 0) (lines : List Triple) → AllByRecursion P lines → HasSome R (map (drawn all) lines) n → (line : Triple) × R (drawn all line) n × P line × IsIn (lines_edge line) (front_edges all lines)
  pick R n P [] a h = absurd h
  pick R n P (line ∷ lines) a (inl h) = (line, h, a.0, inl refl)
  pick R n P (line ∷ lines) a (inr h) = let p = pick R n P lines a.1 h in (p.0, p.1, p.2, inr p.3)

  module _ (region : IsRegion front) (before : List (List Point)) (cs : List Point) (after : List (List Point)) (split : IsSplit t.elements before cs after) (lines : List Triple) (next : ℕ) (es : List (List ℕ)) (left : IsLeft before lines next es) where
    by_line : (R : Line → ℕ → Type 0) (n : ℕ) → Hinders R cs → ((line : Triple) → Contains f.lines line → R (drawn all line) n → has_note notes points line.0 ≡ true) → HasSome R (map (drawn all) lines) n → HasReason f.points front noted t
    by_line R n w told h =
        let p = pick R n (IsKnown before) lines left.known h in
        let there : IsIn (lines_edge p.0) (glue_all front before) = subst (IsIn (lines_edge p.0)) left.edges p.3 in
        hindered_by front region f.points noted t before cs after (lines_edge p.0) split left.may there (of p.0 p.1 there p.2) (w (drawn all p.0) n p.1)
      where
        of : (line : Triple) → R (drawn all line) n → IsIn (lines_edge line) (glue_all front before) → IsKnown before line → IsIn (lines_edge line) front → IsIn (lines_edge line) noted
        of line r i (inl c) j = witness_of line c (told line c r)
        of line r i (inr k) j = absurd (not_rejoined front region before (lines_edge line) left.may i k j)

    -- a line named by its number
    by_number : (P : Edge → Type 0) (n : ℕ) → Hinders (IsLine P) cs → IsLineNoted f notes points n → HasSome (IsLine P) (map (drawn all) lines) n → HasReason f.points front noted t
    by_number P n w k h = by_line (IsLine P) n w (λ line c r. subst (λ (m : ℕ). has_note notes points m ≡ true) (sym r.1) (k (subst (λ (m : ℕ). m < f.next) r.1 (below_next f.lines f.next c.0 line s.rising c.1 c.2)))) h

    -- a line with an end on a side
    by_end : (n : ℕ) → AreEndsNoted f notes points n → HasSome (IsEnd (IsOnSide cs)) (map (drawn all) lines) n → HasReason f.points front noted t
    by_end n k h = by_line (IsEnd (IsOnSide cs)) n (on_side_hinders cs) (λ line c r. k line c (end_of line r)) h
      where
        end_of : (line : Triple) → IsEnd (IsOnSide cs) (drawn all line) n → (line.1 ≡ n) ⊎ (line.2 ≡ n)
        end_of line (inl r) = inl r.1
        end_of line (inr r) = inr r.1

    abbrev here : State
    here = record { points = all; front = lines; next = next; elements = es }

    one_refused : (k : ℕ) (r : GlueRefusal) → IsRefusalNoted f notes points r → SaysWhy here cs k r → HasReason f.points front noted t
    one_refused k (Turned element) n h = not_turned before cs after split h.1
    one_refused k (Met element line) n h = by_number (IsMet cs) line (met_hinders cs) n h.2.holds
    one_refused k (PointOnSide element point) n h = by_end point n h.2.holds
    one_refused k (CornerOnLine element line) n h = by_number (IsCornerOn cs) line (corner_on_hinders cs) n h.2.holds
    one_refused k (Backwards element line) n h = by_number (IsBackwards cs) line (backwards_hinders cs) n h.2.holds
    one_refused k (Outside element winding) n h =
        let held : IsRegion (edges_at here) = subst IsRegion (sym left.edges) (region_all front before region left.may) in
        outside_of front region f.points noted t before cs after split left.may h.1.before.before.before.turned
        (subst (AllByRecursion (IsClearOf cs)) left.edges (clear_of_state here cs held h.1)) (λ e. h.3 (h.2 ∙ ap (wind (centre cs)) left.edges ∙ e))
    one_refused k (Area element left_over) n h = too_large before cs after split (less (shoelace (edges_at here)) (shoelace (glue_all front before)) (shoelace (sides cs)) left_over h.2 (ap shoelace left.edges) h.3)
      where
        less : (a b c l : ℤ) → l ≡ a → a ≡ b → l <ℤ c → b <ℤ c
        less a b c l e g h = omega (arith, ints, e, g, h)
    one_refused k Memory n h = absurd h

  -- with one element more
  next_left : (before : List (List Point)) (lines : List Triple) (next : ℕ) (es : List (List ℕ)) (ns : List ℕ) → IsLeft before lines next es → AreListed (length all) ns → MayJoin (record { points = all; front = lines; next = next; elements = es }) ns →
      IsLeft (before ++ corners_of all ns ∷ []) (glue_lines lines next (number_sides ns)) (next_after_all lines next (number_sides ns)) (es ++ ns ∷ [])
  next_left before lines next es ns left listed m = record {
    edges = glued_edges st ns left.still listed ∙ ap (λ (z : List Edge). glue z (corners_of all ns)) left.edges ∙ sym (glue_last front before (corners_of all ns));
    known = lines_all (IsKnown (before ++ corners_of all ns ∷ [])) lines next (number_sides ns) (all_map (IsKnown before) (IsKnown (before ++ corners_of all ns ∷ [])) later lines left.known) (each_side (number_sides ns) (λ e i. subst (IsIn e) (side_edges all ns) i));
    may = may_last front before (corners_of all ns) left.may (subst (MayBeGlued (corners_of all ns)) left.edges m);
    still = glued_numbered st ns left.still listed;
  }
    where
      st : State
      st = record { points = all; front = lines; next = next; elements = es }

      later : (line : Triple) → IsKnown before line → IsKnown (before ++ corners_of all ns ∷ []) line
      later line (inl c) = inl c
      later line (inr i) = inr (side_before (back (lines_edge line)) before (corners_of all ns) i)

      each_side : (ss : List (ℕ × ℕ)) → ((e : Edge) → IsIn e (map (pair_edge all) ss) → IsIn e (sides (corners_of all ns))) → AllByRecursion (λ q. (n : ℕ) → IsKnown (before ++ corners_of all ns ∷ []) (n, q.1, q.0)) ss
      each_side [] g = tt
      each_side (q ∷ ss) g = (λ n. inr (side_last (pair_edge all q) before (corners_of all ns) (g (pair_edge all q) (inl refl))), each_side ss (λ e i. g e (inr i)))

  refused_after : (region : IsRegion front) (r : GlueRefusal) → IsRefusalNoted f notes points r → (k : ℕ) (before : List (List Point)) (lines : List Triple) (next : ℕ) (es more : List (List ℕ)) → IsLeft before lines next es → AllByRecursion (AreListed (length all)) more →
      t.elements ≡ before ++ map (corners_of all) more → IsRefusal (record { points = all; front = lines; next = next; elements = es }) more k r → HasReason f.points front noted t
  refused_after region r n k before lines next es [] left a e h = absurd h
  refused_after region r n k before lines next es (ns ∷ more) left a e (inl h) = one_refused region before (corners_of all ns) (map (corners_of all) more) (record { joined = e }) lines next es left k r n h
  refused_after region r n k before lines next es (ns ∷ more) left a e (inr h) =
      refused_after region r n (k + 1) (before ++ corners_of all ns ∷ []) (glue_lines lines next (number_sides ns)) (next_after_all lines next (number_sides ns)) (es ++ ns ∷ []) more (next_left before lines next es ns left a.0 h.0) a.1
      (e ∙ sym (append_assoc before (corners_of all ns ∷ []) (map (corners_of all) more))) h.1

  -- the reason of the whole
  pub refusal_reason : (r : GlueRefusal) (es : List (List ℕ)) → IsRegion front → IsRefusalNoted f notes points r → AllByRecursion (AreListed (length all)) es → t.elements ≡ map (corners_of all) es → IsRefusal (entered f made) es 1 r → HasReason f.points front noted t
  refusal_reason r es region n a e h = refused_after region r n 1 [] f.lines f.next [] es (record {
    edges = refl;
    known = all_map (Contains f.lines) (IsKnown []) (λ line c. inl c) f.lines (contained f.lines);
    may = tt;
    still = numbered;
  }) a e h
