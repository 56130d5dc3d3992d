-- A refused line stays refused over an application, where the attempts that map a fresh point were looked at again: one that maps none was an attempt before, and its reason of then still stands.
use Rattle.std.proofs.Common.{◌≡◌, ℕ, zero, suc, ◌+◌, ◌-◌, ◌<◌, ◌≤◌, ◌⊎◌, inl, inr, Bool, true, false, cond, List, [], ◌∷◌, ◌++◌, length, slice_index_or, refl, sym, ◌∙◌, subst, arith, length-append, nat_eq, pos}
use mathlib.Core.Bool.{true≢false}
use Rattle.std.specs.Prelude.{filter, ◌&&◌, ◌||◌}
use Rattle.std.specs.List.{AllByRecursion, Any, Contains, list_any}
use Rattle.std.proofs.lemmas.List.{append-nil, length-map}
use Rattle.std.proofs.lemmas.List.Elements.{Contains-get_or}
use Rattle.grid_geom.specs.declared.Point.{Point}
use Rattle.grid_geom.specs.declared.Edge.{Edge}
use Rattle.rule_reader.specs.declared.rule.Rule.{Rule}
use Rattle.rule_reader.specs.Normal.{IsRule}
use Rattle.rule_maps.specs.Frame.{LocalFrame, IsInRange}
use Rattle.size_field.specs.Size.{SizeField}
use Rattle.state_law.specs.Free.{IsIn}
use Rattle.state_law.specs.Saved.{IsCorner}
use Rattle.state_law.specs.Saved as saved
use Rattle.state_law.specs.Gluing.{glue_all, IsClearOf}
use Rattle.state_law.specs.State.{State, point_at, pair_edge, front_edges, IsListed}
use Rattle.state_law.specs.Refusal.{HasReason, place_taken, not_turned, line_in_zone, line_hinders, outside_front, too_large}
use Rattle.state_law.specs.Refusal as refusal
use Rattle.state_law.proofs.Lists.{all_append, all_both, all_map, all_second, at_edge}
use Rattle.state_law.proofs.Saved.{at_corner}
use Rattle.rule_match.specs.declared.progress.Note.{Note}
use Rattle.rule_match.specs.Candidate.{Attempt, mapped, mapping, made, mapped_pair, IsFrontPoint, IsFrontPair}
use Rattle.rule_match.specs.Least.{IsOf}
use Rattle.rule_match.specs.LookedAgain.{AreFresh, DoStand, IsGluedOn, IsHarmless, IsIdle, IsNoHindrance, IsShut, IsUnmapped, Pair}
use Rattle.rule_match.specs.MoreNotes.{any_more, more_reasons}
use Rattle.rule_match.specs.Near.{IsStayingLine}
use Rattle.rule_match.specs.Refused.{FitsFront, IsAllowed, IsExcused, IsRefusedAgain, IsRefusedBy, is_noted, places_of, witnesses}
use Rattle.rule_match.specs.Walk.{BeginsWith}
use Rattle.rule_match.proofs.Excused.{at_index}
use Rattle.rule_match.proofs.KeptOne.{kept_one}
use Rattle.rule_match.proofs.NearBack.{allowed_back, contained_corner, corner_number, corners_kept, ends_listed, front_listed, kept_point, of_before, pairs_have, pairs_kept, pairs_listed, rule_at, same_places, still_listed}
use Rattle.rule_match.proofs.NotesMade.{kept_in}
use Rattle.rule_match.proofs.Places.{all_mapped_known, edge_in, fits_by, number_corner, point_on}
use Rattle.rule_match.proofs.WithinReach.{all_named, lines_in, made_count}

abbrev Triple : Type 0
Triple = ℕ × ℕ × ℕ

-- ---- lists of numbers
equal : (i j : ℕ) → nat_eq i j ≡ true → i ≡ j
equal i j h = grind arith

self_equal : (i j : ℕ) → i ≡ j → nat_eq i j ≡ true
self_equal i j h = grind arith

first_of : {X : Type 0} (x : X) (xs : List X) → Contains (x ∷ xs) x
first_of x xs = (0, omega arith, refl)

later_of : {X : Type 0} (y : X) (xs : List X) (x : X) → Contains xs x → Contains (y ∷ xs) x
later_of y xs x c = (suc c.0, omega (arith, c.1), c.2)

in_or_out : (xs : List ℕ) (n : ℕ) → Contains xs n ⊎ ¬ (Contains xs n)
in_or_out [] n = inr (λ c. absurd (omega (arith, c.1)))
in_or_out (x ∷ xs) n = by (nat_eq x n) refl (in_or_out xs n)
  where
    split : ¬ (x ≡ n) → ¬ (Contains xs n) → (k : ℕ) → k < length (x ∷ xs) → slice_index_or (x ∷ xs) k n ≡ n → ⊥
    split e m zero l h = e h
    split e m (suc k) l h = m (k, omega (arith, l), h)

    by : (b : Bool) → nat_eq x n ≡ b → Contains xs n ⊎ ¬ (Contains xs n) → Contains (x ∷ xs) n ⊎ ¬ (Contains (x ∷ xs) n)
    by true e r = inl (0, omega arith, equal x n e)
    by false e (inl c) = inl (later_of x xs n c)
    by false e (inr m) = inr (λ c. split (λ h. true≢false (sym (self_equal x n h) ∙ e)) m c.0 c.1 c.2)

any_or_none : (fresh ns : List ℕ) → Any (λ p. Contains fresh p) ns ⊎ AllByRecursion (λ p. ¬ (Contains fresh p)) ns
any_or_none fresh [] = inr tt
any_or_none fresh (n ∷ ns) = by (in_or_out fresh n) (any_or_none fresh ns)
  where
    by : Contains fresh n ⊎ ¬ (Contains fresh n) → Any (λ p. Contains fresh p) ns ⊎ AllByRecursion (λ p. ¬ (Contains fresh p)) ns → Any (λ p. Contains fresh p) (n ∷ ns) ⊎ AllByRecursion (λ p. ¬ (Contains fresh p)) (n ∷ ns)
    by (inl c) r = inl (0, n, omega arith, refl, c)
    by (inr m) (inl a) = inl (suc a.0, a.1, omega (arith, a.2), a.3, a.4)
    by (inr m) (inr all) = inr (m, all)

-- what holds of each thing of a list
all_known : {X : Type 0} (P : X → Type 0) (xs : List X) → ((x : X) → Contains xs x → P x) → AllByRecursion P xs
all_known P [] h = tt
all_known P (x ∷ xs) h = (h x (first_of x xs), all_known P xs (λ y c. h y (later_of x xs y c)))

all_corners : (ps : List Point) → AllByRecursion (λ p. IsCorner p ps) ps
all_corners ps = all_known (λ p. IsCorner p ps) ps (λ p c. contained_corner p ps c)

listed_corner : (ps : List Point) (n : ℕ) → IsListed (length ps) n → IsCorner (point_at ps n) ps
listed_corner ps n l = contained_corner (point_at ps n) ps (Contains-get_or ps (n - 1) (record { x = pos 0; y = pos 0 }) (below n (length ps) l.0 l.1))
  where
    below : (n m : ℕ) → 1 ≤ n → n ≤ m → n - 1 < m
    below n m l k = omega arith

-- ---- notes
-- a note of the line beside a point that is mapped
record IsNoteOf (notes : List Note) (points : List ℕ) (number : ℕ) : Type 0 where
  note : Note
  there : Contains notes note
  of_line : number ≡ note.line
  maps : Contains points note.point

note_of : (notes : List Note) (points : List ℕ) (number : ℕ) → list_any (λ note. nat_eq note.line number && list_any (nat_eq note.point) points) notes ≡ true → IsNoteOf notes points number
note_of [] points number h = absurd (true≢false (sym h))
note_of (note ∷ notes) points number h = by (nat_eq note.line number) (list_any (nat_eq note.point) points) refl refl h (note_of notes points number)
  where
    mapped_one : (points : List ℕ) → list_any (nat_eq note.point) points ≡ true → Contains points note.point
    mapped_one [] h = absurd (true≢false (sym h))
    mapped_one (n ∷ points) h = at (nat_eq note.point n) refl h (mapped_one points)
      where
        at : (b : Bool) → nat_eq note.point n ≡ b → (b || list_any (nat_eq note.point) points) ≡ true → (list_any (nat_eq note.point) points ≡ true → Contains points note.point) → Contains (n ∷ points) note.point
        at true e k rest = (0, omega arith, sym (equal note.point n e))
        at false e k rest = later_of n points note.point (rest k)

    more : IsNoteOf notes points number → IsNoteOf (note ∷ notes) points number
    more r = record { note = r.note; there = later_of note notes r.note r.there; of_line = r.of_line; maps = r.maps }

    by : (b c : Bool) → nat_eq note.line number ≡ b → list_any (nat_eq note.point) points ≡ c → ((b && c) || list_any (λ note. nat_eq note.line number && list_any (nat_eq note.point) points) notes) ≡ true
        → (list_any (λ note. nat_eq note.line number && list_any (nat_eq note.point) points) notes ≡ true → IsNoteOf notes points number) → IsNoteOf (note ∷ notes) points number
    by true true e f k rest = record { note = note; there = first_of note notes; of_line = sym (equal note.line number e); maps = mapped_one points f }
    by true false e f k rest = more (rest k)
    by false c e f k rest = more (rest k)

-- what holds of each front line that a test keeps
of_kept : (pts : List Point) (P : Edge → Type 0) (keep : Triple → Bool) (lines : List Triple) → ((line : Triple) → Contains lines line → keep line ≡ true → P (pair_edge pts (line.1, line.2))) → AllByRecursion P (front_edges pts (filter keep lines))
of_kept pts P keep [] k = tt
of_kept pts P keep (line ∷ lines) k = by (keep line) (k line (first_of line lines)) (of_kept pts P keep lines (λ o c. k o (later_of line lines o c)))
  where
    by : (b : Bool) → (b ≡ true → P (pair_edge pts (line.1, line.2))) → AllByRecursion P (front_edges pts (filter keep lines)) → AllByRecursion P (front_edges pts (cond b (line ∷ filter keep lines) (filter keep lines)))
    by true i r = (i refl, r)
    by false i r = r

-- witnesses that hinder nothing can be left out
narrowed : (points : List Point) (front ws vs : List Edge) (t : refusal.Attempt) → ((w : Edge) → IsIn w ws → IsIn w vs ⊎ IsNoHindrance t w) → HasReason points front ws t → HasReason points front vs t
narrowed points front ws vs t h (place_taken p a b) = place_taken p a b
narrowed points front ws vs t h (not_turned before cs after s n) = not_turned before cs after s n
narrowed points front ws vs t h (line_in_zone w i j n a) = elim (h w i) [ inl k ↦ line_in_zone w k j n a | inr d ↦ absurd (a d.apart) ]
narrowed points front ws vs t h (line_hinders before cs after s w i m n) = line_hinders before cs after s w (λ j. elim (h w (i j)) [ inl k ↦ k | inr d ↦ absurd (n (at_split d)) ]) m n
  where
    at_split : IsNoHindrance t w → IsClearOf cs w
    at_split d = (all_second (λ ds. IsClearOf ds w) before (cs ∷ after) (subst (AllByRecursion (λ ds. IsClearOf ds w)) s.joined d.clear)).0
narrowed points front ws vs t h (outside_front before cs after s v u q r i o m) = outside_front before cs after s v u q r i o m
narrowed points front ws vs t h (too_large before cs after s l) = too_large before cs after s l

module _ (p : Pair) (st later : State) (more : List Point) (els : List (List Point)) (f : LocalFrame) (g : IsGluedOn st later more els) (stays : IsStayingLine p.sizes st later p.line f) where
  -- what is out of the line's range is mapped by none
  pub far_unmapped : (n : ℕ) → ¬ (IsInRange f (point_at later.points n)) → IsUnmapped p later n
  far_unmapped n out t o a c = out (subst (λ (z : LocalFrame). IsInRange z (point_at later.points n)) (sym (of_before p.sizes p.rules p.class st later more p.line f g.points g.numbered stays t o).1)
      (at_corner (IsInRange t.frame) (point_at later.points n) (mapped later t) a.in_range (number_corner later.points n t.points c)))

module _ (p : Pair) (st later : State) (more : List Point) (els : List (List Point)) (f : LocalFrame) (notes : List Note) (fresh : List ℕ)
    (are_rules : AllByRecursion IsRule p.rules) (g : IsGluedOn st later more els) (stays : IsStayingLine p.sizes st later p.line f) (h : AreFresh p st later notes fresh) where
  abbrev front : List Edge
  front = front_edges st.points st.front

  abbrev after : List Edge
  after = front_edges later.points later.front

  -- an old line's edge
  old_edge : (other : Triple) → Contains st.front other → pair_edge later.points (other.1, other.2) ≡ pair_edge st.points (other.1, other.2)
  old_edge other c = let l = ends_listed (length st.points) st.front c.0 other g.numbered.lines_listed c.1 c.2 in
      λ i. record { a = kept_point st.points more later.points other.1 g.points l.0 i; b = kept_point st.points more later.points other.2 g.points l.1 i }

  -- ---- an attempt that maps no fresh point
  module _ (t : Attempt) (o : IsOf p.sizes later p.rules p.line.0 p.class t) (a : IsAllowed later t) (fits : FitsFront later t) (stale : AllByRecursion (λ p. ¬ (Contains fresh p)) t.points) where
    before : IsOf p.sizes st p.rules p.line.0 p.class t × (f ≡ t.frame)
    before = of_before p.sizes p.rules p.class st later more p.line f g.points g.numbered stays t o

    text : IsRule t.text
    text = rule_at IsRule p.rules (t.rule - 1) t.text are_rules o.is_rule

    -- a point that is mapped isn't shut
    shut : (m n : ℕ) → IsShut p later fresh m → m ≡ n → Contains t.points n → ⊥
    shut m n (inl c) e k = at_index (λ p. ¬ (Contains fresh p)) t.points k.0 n stale k.1 k.2 (subst (Contains fresh) e c)
    shut m n (inr u) e k = u t o a (subst (Contains t.points) (sym e) k)

    point_before : (n : ℕ) → Contains t.points n → IsFrontPoint later n → IsFrontPoint st n
    point_before n k w = by (h.joined w.1 (w.0, w.2, w.3)) w.4
      where
        known : (m : ℕ) → IsShut p later fresh m ⊎ IsFrontPoint st m → m ≡ n → IsFrontPoint st n
        known m (inl s) e = absurd (shut m n s e k)
        known m (inr q) e = subst (IsFrontPoint st) e q

        by : Contains st.front w.1 ⊎ IsHarmless p st later fresh w.1 → (w.1.1 ≡ n) ⊎ (w.1.2 ≡ n) → IsFrontPoint st n
        by (inl c) e = (c.0, w.1, c.1, c.2, e)
        by (inr m) (inl e) = known w.1.1 m.start e
        by (inr m) (inr e) = known w.1.2 m.end e

    pair_before : (s : ℕ × ℕ) → Contains t.points s.0 × Contains t.points s.1 → IsFrontPair later s → IsFrontPair st s
    pair_before s k w = by (h.joined w.1 (w.0, w.2, w.3))
      where
        by : Contains st.front w.1 ⊎ IsHarmless p st later fresh w.1 → IsFrontPair st s
        by (inl c) = (c.0, w.1, c.1, c.2, w.4)
        by (inr m) = absurd (elim m.one [ inl q ↦ shut w.1.1 s.0 q w.4.0 k.0 | inr q ↦ shut w.1.2 s.1 q w.4.1 k.1 ])

    all_there : AllByRecursion (Contains t.points) t.points
    all_there = all_known (Contains t.points) t.points (λ n k. k)

    fits_before : FitsFront st t
    fits_before = record {
      on_front = all_both (Contains t.points) (IsFrontPoint later) (IsFrontPoint st) point_before t.points all_there fits.on_front;
      at_lines = all_both (λ l. Contains t.points (mapped_pair t.points l).0 × Contains t.points (mapped_pair t.points l).1) (λ l. IsFrontPair later (mapped_pair t.points l)) (λ l. IsFrontPair st (mapped_pair t.points l)) (λ l. pair_before (mapped_pair t.points l)) t.text.lines
          (pairs_have (Contains t.points) (length t.text.points) t.points t.text.lines a.counted all_there text.lines.1) fits.at_lines;
    }

    listed : AllByRecursion (IsListed (length st.points)) t.points
    listed = all_map (IsFrontPoint st) (IsListed (length st.points)) (λ n p. front_listed st n g.numbered p) t.points fits_before.on_front

    same_mapped : mapped later t ≡ mapped st t
    same_mapped = corners_kept st.points more later.points t.points g.points listed

    places : places_of later t ≡ places_of st t
    places = same_places st later t same_mapped (pairs_kept st.points more later.points t.points t.text.lines g.points (pairs_listed (length st.points) (length t.text.points) t.points t.text.lines a.counted listed text.lines.1))

    abbrev Known : Point → Type 0
    Known c = IsCorner c (mapped st t) ⊎ IsCorner c (made st t)

    -- ---- the step, at this attempt
    near : refusal.AreNear (λ u. u ≡ places_of st t) (λ p. IsCorner p (mapped st t))
    near = record {
      mapped_near = λ u e. subst (λ (z : refusal.Attempt). AllByRecursion (λ p. IsCorner p (mapped st t)) z.mapped) (sym e) (all_corners (mapped st t));
      lines_join = λ u e. subst (λ (z : refusal.Attempt). AllByRecursion (λ k. IsCorner k.a z.mapped × IsCorner k.b z.mapped) z.lines) (sym e) (lines_in st.points t.points (length t.text.points) t.text.lines a.counted text.lines.1);
      corners_known = λ u e. subst (λ (z : refusal.Attempt). AllByRecursion (λ cs. AllByRecursion (λ c. IsCorner c z.mapped ⊎ IsCorner c z.made) cs) z.elements) (sym e)
          (all_named Known (mapped st t ++ made st t) t.text.elements (length t.text.points + length t.text.new_points)
          (length-append (mapped st t) (made st t) ∙ (λ i. (length-map t.points (point_at st.points) ∙ a.counted) i + made_count (mapping st t) 1 t.text.new_points i))
          (all_append Known (mapped st t) (made st t) (all_map (λ p. IsCorner p (mapped st t)) Known (λ p c. inl c) (mapped st t) (all_corners (mapped st t))) (all_map (λ p. IsCorner p (made st t)) Known (λ p c. inr c) (made st t) (all_corners (made st t))))
          text.elements.1);
    }

    -- the number of a later point that is mapped
    number_of : (n : ℕ) → IsListed (length later.points) n → IsCorner (point_at later.points n) (mapped st t) → Contains t.points n
    number_of n l c = corner_number later.points g.later_numbered.different t.points n (all_map (IsListed (length st.points)) (IsListed (length later.points)) (λ m. still_listed st.points more later.points m g.points) t.points listed) l
        (subst (IsCorner (point_at later.points n)) (sym same_mapped) c)

    joined_line : (other : Triple) → Contains later.front other → IsIn (pair_edge later.points (other.1, other.2)) front ⊎ refusal.IsHarmless (λ p. IsCorner p (mapped st t)) front (pair_edge later.points (other.1, other.2))
    joined_line other c = by (h.joined other c)
      where
        ends : IsListed (length later.points) other.1 × IsListed (length later.points) other.2
        ends = ends_listed (length later.points) later.front c.0 other g.later_numbered.lines_listed c.1 c.2

        known : (n : ℕ) → IsListed (length later.points) n → IsShut p later fresh n ⊎ IsFrontPoint st n → IsCorner (point_at later.points n) (mapped st t) → saved.IsFrontPoint front (point_at later.points n)
        known n l (inl s) k = absurd (shut n n s refl (number_of n l k))
        known n l (inr w) k = subst (saved.IsFrontPoint front) (sym (kept_point st.points more later.points n g.points (front_listed st n g.numbered w))) (point_on st t n w)

        by : Contains st.front other ⊎ IsHarmless p st later fresh other → IsIn (pair_edge later.points (other.1, other.2)) front ⊎ refusal.IsHarmless (λ p. IsCorner p (mapped st t)) front (pair_edge later.points (other.1, other.2))
        by (inl k) = inl (subst (λ (e : Edge). IsIn e front) (sym (old_edge other k)) (edge_in (λ (l : Triple). pair_edge st.points (l.1, l.2)) other st.front k))
        by (inr m) = inr (record {
          start_known = known other.1 ends.0 m.start;
          end_known = known other.2 ends.1 m.end;
          not_both = λ x y. elim m.one [ inl s ↦ shut other.1 other.1 s refl (number_of other.1 ends.0 x) | inr s ↦ shut other.2 other.2 s refl (number_of other.2 ends.1 y) ];
        })

    -- a front line that is noted beside a point of this attempt is still there, or hinders nothing
    module _ (grown : List Note) (b : BeginsWith grown notes) where
      abbrev witnesses_now : List Edge
      witnesses_now = witnesses later grown t

      one_stays : (other : Triple) → Contains st.front other → is_noted notes t.points other ≡ true → IsIn (pair_edge st.points (other.1, other.2)) witnesses_now ⊎ IsNoHindrance (places_of st t) (pair_edge st.points (other.1, other.2))
      one_stays other c e = by (h.left n.note other n.there c n.of_line)
        where
          n : IsNoteOf notes t.points other.0
          n = note_of notes t.points other.0 e

          by : Contains later.front other ⊎ (IsShut p later fresh n.note.point ⊎ IsIdle p later other) → IsIn (pair_edge st.points (other.1, other.2)) witnesses_now ⊎ IsNoHindrance (places_of st t) (pair_edge st.points (other.1, other.2))
          by (inl k) = inl (subst (λ (x : Edge). IsIn x witnesses_now) (old_edge other c)
              (kept_in later.points (is_noted grown t.points) later.front k.0 other k.1 k.2
              (subst (λ (ns : List Note). is_noted ns t.points other ≡ true) (sym b.1) (any_more (λ note. nat_eq note.line other.0 && list_any (nat_eq note.point) t.points) notes b.0 e))))
          by (inr (inl s)) = absurd (shut n.note.point n.note.point s refl n.maps)
          by (inr (inr idle)) = inr (subst (λ (x : Edge). IsNoHindrance (places_of st t) x) (old_edge other c) (subst (λ (z : refusal.Attempt). IsNoHindrance z (pair_edge later.points (other.1, other.2))) places (idle t o a)))

      each_stays : (w : Edge) → IsIn w (witnesses st notes t) → IsIn w witnesses_now ⊎ IsNoHindrance (places_of st t) w
      each_stays w i = at_edge (λ e. IsIn e witnesses_now ⊎ IsNoHindrance (places_of st t) e) w (witnesses st notes t) (of_kept st.points (λ e. IsIn e witnesses_now ⊎ IsNoHindrance (places_of st t) e) (is_noted notes t.points) st.front one_stays) i

      step : refusal.IsStep (λ u. u ≡ places_of st t) (λ q. IsCorner q (mapped st t)) st.points more front els witnesses_now
      step = record {
        near = near;
        is_front = g.front;
        glued = g.may;
        listed = subst (AllByRecursion (λ e. IsCorner e.a (st.points ++ more) × IsCorner e.b (st.points ++ more))) g.glued
            (subst (λ (ps : List Point). AllByRecursion (λ e. IsCorner e.a ps × IsCorner e.b ps) after) g.points
            (all_mapped_known (λ e. IsCorner e.a later.points × IsCorner e.b later.points) (λ (l : Triple). pair_edge later.points (l.1, l.2)) later.front (λ other c.
            let l = ends_listed (length later.points) later.front c.0 other g.later_numbered.lines_listed c.1 c.2 in (listed_corner later.points other.1 l.0, listed_corner later.points other.2 l.1))));
        untouched = record {
          stay = of_kept later.points (λ w. IsIn w front → IsIn w (glue_all front els)) (is_noted grown t.points) later.front (λ other c e. λ i. subst (IsIn (pair_edge later.points (other.1, other.2))) g.glued
              (edge_in (λ (l : Triple). pair_edge later.points (l.1, l.2)) other later.front c));
          joined = subst (AllByRecursion (λ e. IsIn e front ⊎ refusal.IsHarmless (λ q. IsCorner q (mapped st t)) front e)) g.glued
              (all_mapped_known (λ e. IsIn e front ⊎ refusal.IsHarmless (λ q. IsCorner q (mapped st t)) front e) (λ (l : Triple). pair_edge later.points (l.1, l.2)) later.front joined_line);
        };
      }

      pub still_excused : IsExcused st notes t → IsExcused later grown t
      still_excused r =
          let fits_after = subst (λ (es : List Edge). refusal.DoesFit es (places_of st t)) g.glued (subst (refusal.DoesFit after) places (fits_by later t fits)) in
          let kept = kept_one st.points more front els witnesses_now (places_of st t) step (narrowed st.points front (witnesses st notes t) witnesses_now (places_of st t) each_stays r) fits_after in
          let there = subst (λ (es : List Edge). HasReason (st.points ++ more) es witnesses_now (places_of st t)) (sym g.glued) kept in
          let here = subst (λ (ps : List Point). HasReason ps after witnesses_now (places_of st t)) (sym g.points) there in
          subst (HasReason later.points after witnesses_now) (sym places) here

    pub allowed_before : IsAllowed st t
    allowed_before = allowed_back st later t same_mapped a

  -- ---- the law
  pub still_refused : (grown : List Note) → BeginsWith grown notes → IsRefusedBy p.sizes st p.rules p.line.0 p.class notes → IsRefusedAgain p.sizes later p.rules p.line.0 p.class fresh grown → IsRefusedBy p.sizes later p.rules p.line.0 p.class grown
  still_refused grown b r again = record { excused = λ t o a fits. by t o a fits (any_or_none fresh t.points) }
    where
      by : (t : Attempt) → IsOf p.sizes later p.rules p.line.0 p.class t → IsAllowed later t → FitsFront later t → Any (λ p. Contains fresh p) t.points ⊎ AllByRecursion (λ p. ¬ (Contains fresh p)) t.points → IsExcused later grown t
      by t o a fits (inl one) = again.excused t o a fits one
      by t o a fits (inr stale) = still_excused t o a fits stale grown b (r.excused t (before t o a fits stale).0 (allowed_before t o a fits stale) (fits_before t o a fits stale))

-- where no point is fresh nothing has to be looked at again
pub untouched_refused : (p : Pair) (st later : State) (more : List Point) (els : List (List Point)) (f : LocalFrame) (notes : List Note) → AllByRecursion IsRule p.rules → IsGluedOn st later more els → IsStayingLine p.sizes st later p.line f
    → AreFresh p st later notes [] → IsRefusedBy p.sizes st p.rules p.line.0 p.class notes → IsRefusedBy p.sizes later p.rules p.line.0 p.class notes
untouched_refused p st later more els f notes are_rules g stays h r =
    still_refused p st later more els f notes [] are_rules g stays h notes ([], sym (append-nil notes)) r (record { excused = λ t o a fits one. absurd (never one.4.0 one.4.1) })
  where
    never : (k : ℕ) → k < 0 → ⊥
    never k l = omega arith

-- ---- notes of lines that have left
any_at : (notes : List Note) (note : Note) (points : List ℕ) (number : ℕ) → Contains notes note → number ≡ note.line → Contains points note.point → list_any (λ other. nat_eq other.line number && list_any (nat_eq other.point) points) notes ≡ true
any_at notes note points number c e m = at notes c.0 c.1 c.2
  where
    yes : (b c : Bool) → b ≡ true → (b || c) ≡ true
    yes true c e = refl
    yes false c e = absurd (true≢false (sym e))

    later : (b c : Bool) → c ≡ true → (b || c) ≡ true
    later true c e = refl
    later false c e = e

    both : (b c : Bool) → b ≡ true → c ≡ true → (b && c) ≡ true
    both true c e f = f
    both false c e f = absurd (true≢false (sym e))

    mapped_at : (points : List ℕ) (k : ℕ) → k < length points → slice_index_or points k note.point ≡ note.point → list_any (nat_eq note.point) points ≡ true
    mapped_at [] k l h = absurd (omega (arith, l))
    mapped_at (n ∷ points) zero l h = yes (nat_eq note.point n) (list_any (nat_eq note.point) points) (self_equal note.point n (sym h))
    mapped_at (n ∷ points) (suc k) l h = later (nat_eq note.point n) (list_any (nat_eq note.point) points) (mapped_at points k (omega (arith, l)) h)

    at : (notes : List Note) (k : ℕ) → k < length notes → slice_index_or notes k note ≡ note → list_any (λ other. nat_eq other.line number && list_any (nat_eq other.point) points) notes ≡ true
    at [] k l h = absurd (omega (arith, l))
    at (other ∷ notes) zero l h = yes (nat_eq other.line number && list_any (nat_eq other.point) points) (list_any (λ x. nat_eq x.line number && list_any (nat_eq x.point) points) notes)
        (subst (λ (x : Note). (nat_eq x.line number && list_any (nat_eq x.point) points) ≡ true) (sym h) (both (nat_eq note.line number) (list_any (nat_eq note.point) points) (self_equal note.line number (sym e)) (mapped_at points m.0 m.1 m.2)))
    at (other ∷ notes) (suc k) l h = later (nat_eq other.line number && list_any (nat_eq other.point) points) (list_any (λ x. nat_eq x.line number && list_any (nat_eq x.point) points) notes) (at notes k (omega (arith, l)) h)

pub fewer_notes : (sizes : SizeField) (rules : List Rule) (class line : ℕ) (st : State) (notes left : List Note) → DoStand st.front notes left → IsRefusedBy sizes st rules line class notes → IsRefusedBy sizes st rules line class left
fewer_notes sizes rules class line st notes left d r = record { excused = λ t o a fits. more_reasons st.points (front_edges st.points st.front) (witnesses st notes t) (witnesses st left t) (places_of st t) (still t) (r.excused t o a fits) }
  where
    still : (t : Attempt) (w : Edge) → IsIn w (witnesses st notes t) → IsIn w (witnesses st left t)
    still t w i = at_edge (λ e. IsIn e (witnesses st left t)) w (witnesses st notes t) (of_kept st.points (λ e. IsIn e (witnesses st left t)) (is_noted notes t.points) st.front one) i
      where
        one : (other : Triple) → Contains st.front other → is_noted notes t.points other ≡ true → IsIn (pair_edge st.points (other.1, other.2)) (witnesses st left t)
        one other c e = let n = note_of notes t.points other.0 e in
            kept_in st.points (is_noted left t.points) st.front c.0 other c.1 c.2 (any_at left n.note t.points other.0 (d.each n.note other n.there c n.of_line) n.of_line n.maps)
