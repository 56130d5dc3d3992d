-- What a run remembers stays true over an application, where what was looked at near its elements is forgotten.
use Rattle.std.proofs.Common.{BTreeSet, max, ◌≡◌, ℕ, ◌<◌, ◌≤◌, ◌<ℤ◌, ◌≤ℤ◌, ◌⊎◌, inl, inr, Bool, true, false, ◌&&◌, List, [], ◌∷◌, ◌++◌, length, map, slice_index_or, refl, sym, ap, ◌∙◌, subst, arith, Option, None, Some, IfSome, Vec, Global, ℤ}
use lib.Signed.{le_z}
use Rattle.std.specs.List.{AllByRecursion, Contains}
use Rattle.std.proofs.lemmas.Int.{ints}
use Rattle.std.proofs.lemmas.List.Elements.{recursion_from_All}
use Rattle.grid_geom.specs.declared.Bounds.{Bounds}
use Rattle.grid_geom.specs.declared.Point.{Point}
use Rattle.grid_geom.specs.declared.Edge.{Edge}
use Rattle.digital_tree.specs.declared.Entry.{Entry}
use Rattle.digital_tree.specs.Entries.{is_hit}
use Rattle.rule_maps.specs.Frame.{IsFrameOf}
use Rattle.size_field.specs.Size.{SizeField, size_at}
use Rattle.state_law.specs.Saved.{AreInBox}
use Rattle.state_law.specs.State.{State, AreRising, IsListed, corners_of, point_at}
use Rattle.front_chain.specs.Front.{FrontState, IsFrontState, edges_of, state_of}
use Rattle.admission.proofs.Order.{same_points}
use Rattle.rule_match.specs.declared.application.Application.{Application}
use Rattle.rule_match.specs.Candidate.{Attempt, IsCandidate}
use Rattle.rule_match.specs.Least.{HasNone, IsOf}
use Rattle.rule_match.specs.Near.{AreBoxesApart, IsCoveredAt, IsFarLine, IsReachBox}
use Rattle.rule_match.specs.declared.progress.Note.{Note}
use Rattle.rule_match.specs.Refused.{FitsFront, IsAllowed, IsExcused, IsRefusedBy}
use Rattle.rule_match.proofs.Places.{refused_none}
use Rattle.rule_match.proofs.ReachBoxes.{far_by_box}
use Rattle.rule_reader.specs.Normal.{IsRule}
use Rattle.state_law.proofs.Lists.{all_map}
use Rattle.std.specs.BTreeMap.{get}
use Rattle.std.proofs.lemmas.Option.{same_Some}
use Rattle.mesh_run.specs.declared.refusals.Refusals.{Refusals}
use Rattle.mesh_run.specs.declared.refusals.Region.{Region}
use Rattle.mesh_run.specs.Reached.{IsReached, MayBeApplied}
use Rattle.mesh_run.specs.Kept.{AreOnFront, IsLookedAgain, IsNotedAt}
use Rattle.mesh_run.specs.Remembered.{AreCovering, AreTrue, DoesRemember, HasRegion, IsForgottenNear, IsGone, IsInArea, IsOfLine, IsReachOfLine, IsRegion}
use Rattle.mesh_run.specs.Worklist.{AreToTry, AreTriedAgain, AreTriedFirst, DoesStay, IsOn, IsToTry, least_open, turn_cmp}
use Rattle.mesh_run.proofs.Tried.{still_on as still_tried}
use Rattle.mesh_run.specs.RunState.{RunParts, run_of, setting_by}
use Rattle.mesh_run.specs.Steps.{RunSetting, IsNext, applied, with_points}
use Rattle.mesh_run.proofs.GoesOn.{IsPushed, of_front, put_holds}
use Rattle.mesh_run.proofs.HeldAreas.{Holds}
use Rattle.mesh_run.proofs.Numbers.{AreJoined, point_kept}
use Rattle.mesh_run.proofs.Searched.{same_true}
use Rattle.mesh_run.proofs.Followed.{next_on, old_or_new, rising_on}
use Rattle.mesh_run.proofs.Missed.{missed_refused, stood}
use Rattle.mesh_run.proofs.Steps.{reached_after}
use Rattle.mesh_run.proofs.StillNone.{Triple, below_next, contained, front_of, still_none, stays_same}

-- corners that are in an area are in its box
module _ (area : Bounds) (pts : List Point) where
  mapped : (Q : Point → Type 0) → ((p : Point) → IsInArea area p → Q p) → (ns : List ℕ) → AllByRecursion (λ n. IsInArea area (point_at pts n)) ns → AllByRecursion Q (corners_of pts ns)
  mapped Q f [] h = tt
  mapped Q f (n ∷ ns) h = (f (point_at pts n) h.0, mapped Q f ns h.1)

  in_box : (ns : List ℕ) → Holds area pts ns → AreInBox area.lo area.hi (corners_of pts ns)
  in_box ns h =
      let each = recursion_from_All (λ n. IsInArea area (point_at pts n)) ns h in
      record {
        right_of_least = mapped (λ c. area.lo.x ≤ℤ c.x) (λ p i. i.right_of_least) ns each;
        left_of_greatest = mapped (λ c. c.x ≤ℤ area.hi.x) (λ p i. i.left_of_greatest) ns each;
        above_least = mapped (λ c. area.lo.y ≤ℤ c.y) (λ p i. i.above_least) ns each;
        below_greatest = mapped (λ c. c.y ≤ℤ area.hi.y) (λ p i. i.below_greatest) ns each;
      }

  boxed : (els : List (List ℕ)) → AllByRecursion (Holds area pts) els → AllByRecursion (AreInBox area.lo area.hi) (map (corners_of pts) els)
  boxed [] h = tt
  boxed (ns ∷ els) h = (in_box ns h.0, boxed els h.1)

-- a line has the same box where its ends have the same places
pub moved_box : (sizes : SizeField) (points later : List Point) (n from to : ℕ) (box : Bounds) → point_at later from ≡ point_at points from → point_at later to ≡ point_at points to → IsReachBox sizes points n from to box → IsReachBox sizes later n from to box
moved_box sizes points later n from to box e g h = record {
  frame = h.frame;
  is_frame = h.is_frame;
  framed = subst (λ (p : Point). IsFrameOf p (point_at later to) (size_at sizes h.frame.middle) h.frame) (sym e)
      (subst (λ (p : Point). IsFrameOf (point_at points from) p (size_at sizes h.frame.middle) h.frame) (sym g) h.framed);
  left = h.left;
  right = h.right;
  below = h.below;
  above = h.above;
}

-- the ends of a line of before are where they were
pub kept_place : (st : State) (a : Application) (line : Triple) → AreJoined st.points st.front → Contains st.front line
    → (point_at (applied st a).points line.1 ≡ point_at st.points line.1) × (point_at (applied st a).points line.2 ≡ point_at st.points line.2)
kept_place st a line joined c =
    let listed = contained (λ other. IsListed (length st.points) other.1 × IsListed (length st.points) other.2) st.front line joined c in
    (place line.1 listed.0, place line.2 listed.1)
  where
    place : (n : ℕ) → IsListed (length st.points) n → point_at (applied st a).points n ≡ point_at st.points n
    place n l = ap (λ (ps : List Point). point_at ps n) (same_points (with_points st a.made) a.elements) ∙ point_kept st.points a.made n l

-- a box that doesn't meet an area is apart from it
missed_apart : (area : Bounds) (e : Entry Region) → is_hit area e ≡ false → AreBoxesApart e.bounds.lo e.bounds.hi area.lo area.hi
missed_apart area e h = by (le_z e.bounds.lo.x area.hi.x) (le_z area.lo.x e.bounds.hi.x) (le_z e.bounds.lo.y area.hi.y) (le_z area.lo.y e.bounds.hi.y) refl refl refl refl h
  where
    greater : (u w : ℤ) → le_z u w ≡ false → w <ℤ u
    greater u w e = grind (arith, ints)

    wrong : true ≡ false → ⊥
    wrong e = cc

    by : (p q r t : Bool) → le_z e.bounds.lo.x area.hi.x ≡ p → le_z area.lo.x e.bounds.hi.x ≡ q → le_z e.bounds.lo.y area.hi.y ≡ r → le_z area.lo.y e.bounds.hi.y ≡ t → (p && q && r && t) ≡ false → AreBoxesApart e.bounds.lo e.bounds.hi area.lo area.hi
    by false q r t a b c d h = inl (greater e.bounds.lo.x area.hi.x a)
    by true false r t a b c d h = inr (inl (greater area.lo.x e.bounds.hi.x b))
    by true true false t a b c d h = inr (inr (inl (greater e.bounds.lo.y area.hi.y c)))
    by true true true false a b c d h = inr (inr (inr (greater area.lo.y e.bounds.hi.y d)))
    by true true true true a b c d h = absurd (wrong h)

some : (class m : ℕ) → class < m → 0 < m
some class m l = omega arith

clash : (line next : ℕ) → line < next → next ≤ line → ⊥
clash line next l k = omega arith

-- ---- what is remembered stays true
-- the line's region at the class is still there; it doesn't meet the area, or the line was looked at again
record IsStillRegion (s : RunSetting) (later : State) (m after : Refusals) (points : List Point) (area : Bounds) (line : Triple) (class : ℕ) : Type 0 where
  entry : Entry Region
  region : IsRegion m.reaches.items s.sizes points line class entry
  there : Contains after.regions.entries entry
  how : (is_hit area entry ≡ false) ⊎ IsNotedAt after.notes s later line.0 class

module _ (s : RunSetting) (b : List Edge) (st : State) (a : Application) (before after : Refusals) (r : IsReached b st) (m : MayBeApplied st a) (rising : AreRising st.front st.next)
    (h : AreTrue before s st) (f : IsForgottenNear s (applied st a) (st.points ++ a.made) a.elements before after) where
  was_given : (line : ℕ) → 0 < slice_index_or after.least.items line 0 → line < st.next
  was_given line p = h.reaching.given line (before_too (slice_index_or before.least.items line 0) (slice_index_or after.least.items line 0) (f.less line) p)
    where
      before_too : (m n : ℕ) → n ≤ m → 0 < n → 0 < m
      before_too m n l p = omega arith

  -- what is still remembered was remembered
  was_before : (line class : ℕ) → class < slice_index_or after.least.items line 0 → class < slice_index_or before.least.items line 0
  was_before line class l = further class (slice_index_or after.least.items line 0) (slice_index_or before.least.items line 0) l (f.less line)
    where
      further : (class n m : ℕ) → class < n → n ≤ m → class < m
      further class n m l k = omega arith

  -- a class of an old line that is still remembered has its region still
  still_region : (line : Triple) (class : ℕ) → Contains st.front line → 1 ≤ class → class < slice_index_or after.least.items line.0 0 → IsStillRegion s (applied st a) before after st.points f.area line class
  still_region line class c first l = by (f.each has.entry has.there)
    where
      never : (class first n : ℕ) → class < n → first ≤ class → n ≤ first → ⊥
      never class first n l k j = omega arith

      has : HasRegion before s.sizes st.points line class
      has = h.reaching.regions line class c first (was_before line.0 class l)

      -- the class is one for which the region answers
      noted : IsLookedAgain after s (applied st a) has.entry.value → IsNotedAt after.notes s (applied st a) line.0 class
      noted looked =
          subst (λ (n : ℕ). IsNotedAt after.notes s (applied st a) n class) has.region.of_line
          (looked.noted class first (subst (λ (ns : List ℕ). class < length ns) (sym f.reaches) has.region.tried)
          (has.region.from, subst (λ (ns : List ℕ). slice_index_or ns class 0 ≡ slice_index_or ns has.entry.value.class 0) (sym f.reaches) has.region.same)
          (subst (λ (n : ℕ). class < slice_index_or after.least.items n 0) (sym has.region.of_line) l))

      by : IsGone after has.entry ⊎ (Contains after.regions.entries has.entry × ((is_hit f.area has.entry ≡ false) ⊎ IsLookedAgain after s (applied st a) has.entry.value)) → IsStillRegion s (applied st a) before after st.points f.area line class
      by (inl gone) = absurd (never class has.entry.value.class (slice_index_or after.least.items line.0 0) l has.region.from (subst (λ (n : ℕ). slice_index_or after.least.items n 0 ≤ has.entry.value.class) has.region.of_line gone))
      by (inr k) = record { entry = has.entry; region = has.region; there = k.0; how = elim k.1 [ inl missed ↦ inl missed | inr looked ↦ inr (noted looked) ] }

  -- a line's region that was missed is far from the area
  far_region : (line : Triple) (class : ℕ) → Contains st.front line → (k : IsStillRegion s (applied st a) before after st.points f.area line class) → is_hit f.area k.entry ≡ false
      → IsFarLine s.sizes st (slice_index_or before.reaches.items class 0) f.area.lo f.area.hi line.0
  far_region line class c k missed = far_by_box s.sizes st (slice_index_or before.reaches.items class 0) line k.entry.bounds f.area c k.region.holds f.on_grid (missed_apart f.area k.entry missed)

  -- so an old line has no candidate where it had none
  far_none : (n line class : ℕ) → 1 ≤ class → AllByRecursion (IsCoveredAt class n) s.rules → IsFarLine s.sizes st n f.area.lo f.area.hi line → HasNone s.sizes st s.rules line class → HasNone s.sizes (applied st a) s.rules line class
  far_none n line class first covered far none =
      subst (λ (k : ℕ). HasNone s.sizes (applied st a) s.rules k class) far.numbered
      (still_none s.sizes s.rules n class class b st a far.line far.frame first (level class) covered r m
      (record { on_front = far.on_front; same = λ other c e. stays_same st a far.line other rising far.on_front c e; frame = far.is_frame; framed = far.framed })
      (record {
        least = f.area.lo;
        greatest = f.area.hi;
        box = far.box;
        apart = far.apart;
        elements = boxed f.area (st.points ++ a.made) a.elements (recursion_from_All (Holds f.area (st.points ++ a.made)) a.elements f.holds);
      })
      (subst (λ (k : ℕ). HasNone s.sizes st s.rules k class) (sym far.numbered) none))
    where
      level : (n : ℕ) → n ≤ n
      level n = omega arith

  old_none : (line : Triple) (class : ℕ) → Contains st.front line → 1 ≤ class → class < slice_index_or after.least.items line.0 0 → HasNone s.sizes st s.rules line.0 class → HasNone s.sizes (applied st a) s.rules line.0 class
  old_none line class c first l none = by k.how
    where
      k : IsStillRegion s (applied st a) before after st.points f.area line class
      k = still_region line class c first l

      by : (is_hit f.area k.entry ≡ false) ⊎ IsNotedAt after.notes s (applied st a) line.0 class → HasNone s.sizes (applied st a) s.rules line.0 class
      by (inl missed) = far_none (slice_index_or before.reaches.items class 0) line.0 class first (h.covers.covers class k.region.tried) (far_region line class c k missed) none
      by (inr noted) = record { none = refused_none s.sizes (applied st a) s.rules line.0 class noted.held.items (front_of b (applied st a) (reached_after b st a r m)) noted.refused }

  none_after : (line class : ℕ) → 1 ≤ class → class < slice_index_or after.least.items line 0 → HasNone s.sizes (applied st a) s.rules line class
  none_after line class first l = record { none = λ t o c. by t o (old_or_new st a t.line o.on_front) c }
    where
      by : (t : Attempt) → IsOf s.sizes (applied st a) s.rules line class t → Contains st.front t.line ⊎ (st.next ≤ t.line.0) → IsCandidate (applied st a) t → ⊥
      by t o (inl k) c =
          let had = h.remembered.none line class first (was_before line class l) in
          let now = old_none t.line class k first (subst (λ (n : ℕ). class < slice_index_or after.least.items n 0) (sym o.same_line) l) (subst (λ (n : ℕ). HasNone s.sizes st s.rules n class) (sym o.same_line) had) in
          (subst (λ (n : ℕ). HasNone s.sizes (applied st a) s.rules n class) o.same_line now).none t o c
      by t o (inr k) c = clash line st.next (was_given line (some class (slice_index_or after.least.items line 0) l)) (subst (λ (n : ℕ). st.next ≤ n) o.same_line k)

  -- a pair with notes that is still remembered is refused by them, as long as their lines are on the front
  noted_after : (line class : ℕ) (held : Vec Note Global) → 1 ≤ class → class < slice_index_or after.least.items line 0 → get turn_cmp after.notes (class, line) ≡ Some held → AreOnFront (applied st a) held.items
      → IsRefusedBy s.sizes (applied st a) s.rules line class held.items
  noted_after line class held first l has on = by (f.pairs line class l)
    where
      Refused : Vec Note Global → Type 0
      Refused ns = IsRefusedBy s.sizes (applied st a) s.rules line class ns.items

      -- what the pair is refused by is what it has
      same : IsNotedAt after.notes s (applied st a) line class → Refused held
      same noted = subst Refused (same_Some noted.held held (sym noted.has ∙ has)) noted.refused

      missed : get turn_cmp before.notes (class, line) ≡ Some held → IsFarLine s.sizes st (slice_index_or before.reaches.items class 0) f.area.lo f.area.hi line → class < length before.reaches.items → Refused held
      missed was far tried =
          missed_refused s b st a f.area r m rising f.holds line class (slice_index_or before.reaches.items class 0) held.items (all_map (IsCoveredAt class (slice_index_or before.reaches.items class 0)) IsRule (λ x i. i.rule) s.rules (h.covers.covers class tried))
          (h.covers.covers class tried) far on (h.noted.refused line class held first (was_before line class l) was (stood s b st a f.area r m rising f.holds held.items on))

      -- an old line of that number
      old : (other : Triple) → other.0 ≡ line → Contains st.front other → get turn_cmp before.notes (class, line) ≡ Some held → Refused held
      old other e c was = here k.how
        where
          k : IsStillRegion s (applied st a) before after st.points f.area other class
          k = still_region other class c first (subst (λ (n : ℕ). class < slice_index_or after.least.items n 0) (sym e) l)

          here : (is_hit f.area k.entry ≡ false) ⊎ IsNotedAt after.notes s (applied st a) other.0 class → Refused held
          here (inl far) = missed was (subst (IsFarLine s.sizes st (slice_index_or before.reaches.items class 0) f.area.lo f.area.hi) e (far_region other class c k far)) k.region.tried
          here (inr noted) = same (subst (λ (n : ℕ). IsNotedAt after.notes s (applied st a) n class) e noted)

      by : (get turn_cmp after.notes (class, line) ≡ get turn_cmp before.notes (class, line)) ⊎ IsNotedAt after.notes s (applied st a) line class → Refused held
      by (inr noted) = same noted
      by (inl e) = record { excused = λ t o allowed fits. each t o (old_or_new st a t.line o.on_front) allowed fits }
        where
          each : (t : Attempt) → IsOf s.sizes (applied st a) s.rules line class t → Contains st.front t.line ⊎ (st.next ≤ t.line.0) → IsAllowed (applied st a) t → FitsFront (applied st a) t → IsExcused (applied st a) held.items t
          each t o (inl c) allowed fits = (old t.line o.same_line c (sym e ∙ has)).excused t o allowed fits
          each t o (inr k) allowed fits = absurd (clash line st.next (was_given line (some class (slice_index_or after.least.items line 0) l)) (subst (λ (n : ℕ). st.next ≤ n) o.same_line k))

  -- and the region is one in the later state
  has_after : (line : Triple) (class : ℕ) → Contains (applied st a).front line → 1 ≤ class → class < slice_index_or after.least.items line.0 0 → HasRegion after s.sizes (applied st a).points line class
  has_after line class c first l = by (old_or_new st a line c)
    where
      by : Contains st.front line ⊎ (st.next ≤ line.0) → HasRegion after s.sizes (applied st a).points line class
      by (inl k) =
          let places = kept_place st a line r.numbered.lines_listed k in
          let i = still_region line class k first l in
          record {
            entry = i.entry;
            there = i.there;
            region = subst (λ (ns : List ℕ). IsRegion ns s.sizes (applied st a).points line class i.entry) (sym f.reaches) (record {
              of_line = i.region.of_line;
              from = i.region.from;
              tried = i.region.tried;
              same = i.region.same;
              holds = moved_box s.sizes st.points (applied st a).points (slice_index_or before.reaches.items class 0) line.1 line.2 i.entry.bounds places.0 places.1 i.region.holds;
            });
          }
      by (inr k) = absurd (clash line.0 st.next (was_given line.0 (some class (slice_index_or after.least.items line.0 0) l)) k)

  -- and each entry that is left is of a line that is or was there
  own_after : (e : Entry Region) → Contains after.regions.entries e → IsOfLine after.reaches.items s.sizes (applied st a) e
  own_after e c = record { given = below e.value.line st.next (applied st a).next was.given (next_on (with_points st a.made) a.elements); box = λ line on same. by line same (old_or_new st a line on) }
    where
      was : IsOfLine before.reaches.items s.sizes st e
      was = h.reaching.own e (f.fewer e c)

      below : (line next more : ℕ) → line < next → next ≤ more → line < more
      below line next more l k = omega arith

      by : (line : Triple) → line.0 ≡ e.value.line → Contains st.front line ⊎ (st.next ≤ line.0) → IsReachOfLine after.reaches.items s.sizes (applied st a).points line e.bounds
      by line same (inl k) =
          let places = kept_place st a line r.numbered.lines_listed k in let i = was.box line k same in
          subst (λ (ns : List ℕ). IsReachOfLine ns s.sizes (applied st a).points line e.bounds) (sym f.reaches) (record {
            class = i.class;
            tried = i.tried;
            is_box = moved_box s.sizes st.points (applied st a).points (slice_index_or before.reaches.items i.class 0) line.1 line.2 e.bounds places.0 places.1 i.is_box;
          })
      by line same (inr k) = absurd (clash e.value.line st.next was.given (subst (λ (n : ℕ). st.next ≤ n) same k))

  pub still_true : AreTrue after s (applied st a)
  still_true = record {
    remembered = record { none = none_after };
    covers = subst (AreCovering s.rules) (sym f.reaches) h.covers;
    reaching = record {
      given = λ line p. below line st.next (applied st a).next (was_given line p) (next_on (with_points st a.made) a.elements);
      regions = has_after;
      own = own_after;
    };
    noted = record { refused = noted_after };
  }
    where
      below : (line next more : ℕ) → line < next → next ≤ more → line < more
      below line next more l k = omega arith

  -- ---- each line is still to be tried
  -- what is to be tried after the new lines, and after the lines of which something was forgotten, are put on
  pub still_to_try : (was left now : Option (BTreeSet (ℕ × ℕ))) → IfSome was (λ work. AreToTry work st.front before.least.items s.last)
      → AreTriedFirst st.next (applied st a).next was left → AreTriedAgain (record { least = before.least.items; work = left }) (record { least = after.least.items; work = now })
      → IfSome now (λ work. AreToTry work (applied st a).front after.least.items s.last)
  still_to_try was left None to_try new again = tt
  still_to_try was left (Some work) to_try new again = record { each = λ line c l. by line c l (old_or_new st a line c) }
    where
      at_first : (line : ℕ) → slice_index_or after.least.items line 0 ≡ 0 → IsToTry work (1, line) → IsToTry work (least_open after.least.items line, line)
      at_first line e on = subst (λ (n : ℕ). IsToTry work (max 1 n, line)) (sym e) on

      -- an old line of which nothing was forgotten
      same : (o p : Option (BTreeSet (ℕ × ℕ))) → IfSome o (λ w. AreToTry w st.front before.least.items s.last) → DoesStay o p → DoesStay p (Some work) → (line : Triple) → Contains st.front line → least_open after.least.items line.0 ≤ s.last
          → slice_index_or after.least.items line.0 0 ≡ slice_index_or before.least.items line.0 0 → IsToTry work (least_open after.least.items line.0, line.0)
      same o None h k m line c l e = absurd m
      same None (Some b) h k m line c l e = absurd k
      same (Some w) (Some b) h k m line c l e =
          let as_open : least_open after.least.items line.0 ≡ least_open before.least.items line.0 = ap (λ (n : ℕ). max 1 n) e in
          let on = h.each line c (subst (λ (n : ℕ). n ≤ s.last) as_open l) in
          subst (λ (n : ℕ). IsToTry work (n, line.0)) (sym as_open) (m (least_open before.least.items line.0, line.0) (k (least_open before.least.items line.0, line.0) on))

      split : (n : ℕ) → (n ≡ 0) ⊎ (0 < n)
      split n = grind arith

      by : (line : Triple) → Contains (applied st a).front line → least_open after.least.items line.0 ≤ s.last → Contains st.front line ⊎ (st.next ≤ line.0) → IsToTry work (least_open after.least.items line.0, line.0)
      by line c l (inl k) = here (again.again line.0)
        where
          here : (slice_index_or after.least.items line.0 0 ≡ slice_index_or before.least.items line.0 0) ⊎ IsOn (Some work) (least_open after.least.items line.0, line.0) → IsToTry work (least_open after.least.items line.0, line.0)
          here (inl e) = same was left to_try new.stay again.stay line k l e
          here (inr on) = on
      by line c l (inr k) = here (split (slice_index_or after.least.items line.0 0))
        where
          here : (slice_index_or after.least.items line.0 0 ≡ 0) ⊎ (0 < slice_index_or after.least.items line.0 0) → IsToTry work (least_open after.least.items line.0, line.0)
          here (inl z) = at_first line.0 z (still_tried left (Some work) (1, line.0) again.stay (new.again line.0 k (below_next (applied st a).front (applied st a).next line (rising_on (with_points st a.made) a.elements rising) c)))
          here (inr p) = absurd (clash line.0 st.next (was_given line.0 p) k)

pub remembers_after : (p : RunParts) (a : Application) (same after : FrontState) (applications : List Application) (before left : Refusals) (was kept now : Option (BTreeSet (ℕ × ℕ))) → DoesRemember (run_of p) before was
    → IsNext (setting_by (run_of p).basis) (run_of p).state a → IsFrontState same → MayBeApplied (state_of same) a → IsPushed p a same after applications
    → IsForgottenNear (setting_by (run_of p).basis) (applied (state_of same) a) (same.points ++ a.made) a.elements before left → AreTriedFirst same.next after.next was kept → AreTriedAgain (record { least = before.least.items; work = kept }) (record { least = left.least.items; work = now })
    → DoesRemember (run_of (record p { front = after; applications = applications })) left now
remembers_after p a same after applications before left was kept now h next front may pushed f new again =
    let s = setting_by (run_of p).basis in
    let here = same_true s before (run_of p).state (state_of same) (record { points = sym pushed.equal.points; front = sym pushed.equal.lines }) pushed.equal.next h.remembered in
    let reached = of_front same front in
    let later = still_true s (edges_of same) (state_of same) a before left reached may front.rising here f in
    let on = subst (λ (lines : List Triple). IfSome was (λ work. AreToTry work lines before.least.items s.last)) (sym pushed.equal.lines) h.to_try in
    let first = subst (λ (n : ℕ). AreTriedFirst same.next n was kept) pushed.put.next new in
    record {
      is_run = put_holds p a same after applications h.is_run next may pushed;
      remembered = same_true s left (applied (state_of same) a) (run_of (record p { front = after; applications = applications })).state
          (record { points = same_points (with_points (state_of same) a.made) a.elements ∙ sym pushed.put.points; front = sym pushed.put.lines }) pushed.put.next later;
      to_try = subst (λ (lines : List Triple). IfSome now (λ work. AreToTry work lines left.least.items s.last)) (sym pushed.put.lines)
          (still_to_try s (edges_of same) (state_of same) a before left reached may front.rising here f was kept now on first again);
    }
