-- A refused pair that an application doesn't touch stays refused by its notes, as long as the lines that they name are on the front: lines that join have
-- their ends in the box of the application's elements, out of the line's reach, so no allowed attempt maps them.
use Rattle.std.proofs.Common.{◌≡◌, ℕ, ◌-◌, ◌<◌, ◌≤◌, ◌≤ℤ◌, ◌<ℤ◌, ◌⊎◌, inl, inr, All, List, [], ◌++◌, map, Option, None, Some, IsSome, refl, sym, subst, arith, ℤ}
use Rattle.std.specs.List.{AllByRecursion, Contains}
use Rattle.std.proofs.lemmas.Int.{ints}
use Rattle.std.proofs.lemmas.List.Elements.{All-contains, All-contains_itself, All-weaker, recursion_from_All}
use Rattle.grid_geom.specs.declared.Bounds.{Bounds}
use Rattle.grid_geom.specs.declared.Point.{Point}
use Rattle.grid_geom.specs.declared.Edge.{Edge}
use Rattle.rule_reader.specs.Normal.{IsRule}
use Rattle.rule_maps.specs.Frame.{LocalFrame, IsFrame}
use Rattle.state_law.specs.State.{State, AreRising, IsNumbered, corners_of, point_at}
use Rattle.state_law.proofs.Lists.{all_map}
use Rattle.state_law.proofs.Saved.{at_corner}
use Rattle.front_chain.specs.Front.{line_at}
use Rattle.rule_match.specs.declared.application.Application.{Application}
use Rattle.rule_match.specs.declared.progress.Note.{Note}
use Rattle.rule_match.specs.Candidate.{mapped}
use Rattle.rule_match.specs.LookedAgain.{AreFresh, IsGluedOn, IsHarmless, IsUnmapped, Pair}
use Rattle.rule_match.specs.Near.{AreBoxesApart, IsCoveredAt, IsFarLine, IsStayingLine, reach_lo, reach_hi}
use Rattle.rule_match.specs.Refused.{IsRefusedBy}
use Rattle.rule_match.proofs.BaseLines.{line_there}
use Rattle.rule_match.proofs.Gathered.{line_numbered}
use Rattle.rule_match.proofs.NearBack.{of_before, rule_at}
use Rattle.rule_match.proofs.Places.{number_corner}
use Rattle.rule_match.proofs.StillRefused.{untouched_refused}
use Rattle.mesh_run.specs.Kept.{AreOnFront}
use Rattle.mesh_run.specs.Reached.{IsReached, MayBeApplied}
use Rattle.mesh_run.specs.Remembered.{HoldsCorners, IsInArea}
use Rattle.mesh_run.specs.Steps.{RunSetting, applied, with_points}
use Rattle.mesh_run.proofs.Followed.{elements_glued, is_glued, next_on, old_or_new, still_on}
use Rattle.mesh_run.proofs.StillNone.{Triple, below_next, contained, stays_same}

-- ---- what is out of a line's reach
between : (u w z : ℤ) → u ≤ℤ w → w ≤ℤ z → z <ℤ u → ⊥
between u w z a b c = omega (arith, ints)

-- a place in one of two boxes that lie apart isn't in the other
apart_from : (lo hi : Point) (area : Bounds) (p : Point) → AreBoxesApart lo hi area.lo area.hi → IsInArea area p → (lo.x ≤ℤ p.x) × (p.x ≤ℤ hi.x) × (lo.y ≤ℤ p.y) × (p.y ≤ℤ hi.y) → ⊥
apart_from lo hi area p (inl h) i b = between lo.x p.x area.hi.x b.0 i.left_of_greatest h
apart_from lo hi area p (inr (inl h)) i b = between area.lo.x p.x hi.x i.right_of_least b.1 h
apart_from lo hi area p (inr (inr (inl h))) i b = between lo.y p.y area.hi.y b.2 i.below_greatest h
apart_from lo hi area p (inr (inr (inr h))) i b = between area.lo.y p.y hi.y i.above_least b.3 h

-- a point out of the line's reach is mapped by no allowed attempt
out_unmapped : (p : Pair) (st later : State) (more : List Point) (f : LocalFrame) (n reach : ℕ) (area : Bounds) → later.points ≡ st.points ++ more → IsNumbered st → IsStayingLine p.sizes st later p.line f → AllByRecursion (IsCoveredAt p.class reach) p.rules
    → AreBoxesApart (reach_lo reach f) (reach_hi reach f) area.lo area.hi → IsInArea area (point_at later.points n) → IsUnmapped p later n
out_unmapped p st later more f n reach area points numbered stays covered apart i t o a c =
    let frame : f ≡ t.frame = (of_before p.sizes p.rules p.class st later more p.line f points numbered stays t o).1 in
    let by = rule_at (IsCoveredAt p.class reach) p.rules (t.rule - 1) t.text covered o.is_rule in
    let box = by.mapped_in later t refl a (subst IsFrame frame stays.frame) (no_later t.class p.class o.same_class) in
    let at = number_corner later.points n t.points c in let place = point_at later.points n in let lo = reach_lo reach t.frame in let hi = reach_hi reach t.frame in
    apart_from lo hi area place (subst (λ (z : LocalFrame). AreBoxesApart (reach_lo reach z) (reach_hi reach z) area.lo area.hi) frame apart) i (
      at_corner (λ q. lo.x ≤ℤ q.x) place (mapped later t) box.right_of_least at,
      at_corner (λ q. q.x ≤ℤ hi.x) place (mapped later t) box.left_of_greatest at,
      at_corner (λ q. lo.y ≤ℤ q.y) place (mapped later t) box.above_least at,
      at_corner (λ q. q.y ≤ℤ hi.y) place (mapped later t) box.below_greatest at,
    )
  where
    no_later : (m n : ℕ) → m ≡ n → m ≤ n
    no_later m n e = omega (arith, e)

module _ (s : RunSetting) (b : List Edge) (st : State) (a : Application) (area : Bounds) (r : IsReached b st) (m : MayBeApplied st a) (rising : AreRising st.front st.next) (holds : HoldsCorners (st.points ++ a.made) a.elements area) where
  -- ---- lines that join
  abbrev InArea : ℕ → Type 0
  InArea n = IsInArea area (point_at (st.points ++ a.made) n)

  abbrev IsOldOrIn : Triple → Type 0
  IsOldOrIn line = Contains st.front line ⊎ (InArea line.1 × InArea line.2)

  -- each later line was there, or has its ends in the area
  joined_in : (line : Triple) → Contains (applied st a).front line → IsOldOrIn line
  joined_in line c =
      contained IsOldOrIn (applied st a).front line
      (elements_glued InArea IsOldOrIn (λ k from to f t. inr (f, t)) (with_points st a.made) a.elements
      (all_map (All InArea) (AllByRecursion InArea) (λ ns h. recursion_from_All InArea ns h) a.elements (recursion_from_All (All InArea) a.elements holds))
      (all_map (Contains st.front) IsOldOrIn (λ l k. inl k) st.front (recursion_from_All (Contains st.front) st.front (All-contains_itself st.front)))) c

  -- ---- notes
  -- a number that was given is below the later next one
  given_on : (n : ℕ) → n < st.next → n < (applied st a).next
  given_on n l = below n st.next (applied st a).next l (next_on (with_points st a.made) a.elements)
    where
      below : (n next more : ℕ) → n < next → next ≤ more → n < more
      below n next more l k = omega arith

  -- a noted line that was given and is on the later front was on the front
  pub stood : (notes : List Note) → AreOnFront (applied st a) notes → AreOnFront st notes
  stood notes on = All-weaker (λ note. note.line < (applied st a).next → IsSome (line_at (applied st a).front note.line)) (λ note. note.line < st.next → IsSome (line_at st.front note.line)) (λ note there l. was note.line l (there (given_on note.line l))) notes on
    where
      clash : (n next : ℕ) → n < next → next ≤ n → ⊥
      clash n next l k = omega arith

      was : (n : ℕ) → n < st.next → IsSome (line_at (applied st a).front n) → IsSome (line_at st.front n)
      was n l some = by (line_at (applied st a).front n) refl some
        where
          old : (line : Triple) → line.0 ≡ n → Contains st.front line ⊎ (st.next ≤ line.0) → IsSome (line_at st.front n)
          old line e (inl c) = subst (λ (k : ℕ). IsSome (line_at st.front k)) e (subst IsSome (sym (line_numbered st.front st.next c.0 line line rising c.1 c.2)) refl)
          old line e (inr k) = absurd (clash n st.next l (subst (λ (k : ℕ). st.next ≤ k) e k))

          by : (o : Option (ℕ × ℕ)) → line_at (applied st a).front n ≡ o → IsSome o → IsSome (line_at st.front n)
          by None e some = absurd (cc)
          by (Some ends) e some = old (n, ends.0, ends.1) refl (old_or_new st a (n, ends.0, ends.1) (line_there (applied st a).front n ends e))

  -- ---- the pair
  pub missed_refused : (number class reach : ℕ) (notes : List Note) → AllByRecursion IsRule s.rules → AllByRecursion (IsCoveredAt class reach) s.rules → IsFarLine s.sizes st reach area.lo area.hi number
      → AreOnFront (applied st a) notes → IsRefusedBy s.sizes st s.rules number class notes → IsRefusedBy s.sizes (applied st a) s.rules number class notes
  missed_refused number class reach notes are_rules covered far on refused =
      subst (λ (k : ℕ). IsRefusedBy s.sizes (applied st a) s.rules k class notes) far.numbered
      (untouched_refused p st (applied st a) a.made _ far.frame notes are_rules glued stays fresh (subst (λ (k : ℕ). IsRefusedBy s.sizes st s.rules k class notes) (sym far.numbered) refused))
    where
      p : Pair
      p = record { sizes = s.sizes; rules = s.rules; line = far.line; class = class }

      glued : IsGluedOn st (applied st a) a.made (map (corners_of (st.points ++ a.made)) a.elements)
      glued = is_glued b st a r m

      stays : IsStayingLine s.sizes st (applied st a) far.line far.frame
      stays = record { on_front = far.on_front; same = λ other c e. stays_same st a far.line other rising far.on_front c e; frame = far.is_frame; framed = far.framed }

      out : (n : ℕ) → InArea n → IsUnmapped p (applied st a) n
      out n i = out_unmapped p st (applied st a) a.made far.frame n reach area glued.points r.numbered stays covered far.apart
          (subst (λ (points : List Point). IsInArea area (point_at points n)) (sym glued.points) i)

      harmless : (line : Triple) → IsOldOrIn line → Contains st.front line ⊎ IsHarmless p st (applied st a) [] line
      harmless line (inl old) = inl old
      harmless line (inr i) = inr (record { start = inl (inr (out line.1 i.0)); end = inl (inr (out line.2 i.1)); one = inl (inr (out line.1 i.0)) })

      still : (note : Note) (line : Triple) → Contains notes note → Contains st.front line → line.0 ≡ note.line → Contains (applied st a).front line
      still note line k c e =
          still_on (applied st a).front line (λ other d same. stays_same st a line other rising c d same)
          (subst (λ (n : ℕ). IsSome (line_at (applied st a).front n)) (sym e)
          (All-contains (λ x. x.line < (applied st a).next → IsSome (line_at (applied st a).front x.line)) notes note on k (given_on note.line (subst (λ (n : ℕ). n < st.next) e (below_next st.front st.next line rising c)))))

      fresh : AreFresh p st (applied st a) notes []
      fresh = record { joined = λ line c. harmless line (joined_in line c); left = λ note line k c e. inl (still note line k c e) }
