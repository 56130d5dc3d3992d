-- One more refusal is remembered: the line is on the front, and has a region at the class.
use Rattle.std.proofs.Common.{◌≡◌, ℕ, ◌+◌, ◌-◌, ◌<◌, ◌≤◌, ◌⊎◌, inl, inr, max, List, slice_index_or, length, sym, ◌∙◌, subst, arith, refl, Bool, true, false, Option, None, Some, is_some, Vec, Global, Contains}
use Rattle.std.specs.BTreeMap.{get, is_at, Updates}
use Rattle.std.proofs.lemmas.Option.{same_Some}
use Rattle.grid_geom.specs.declared.Bounds.{Bounds}
use Rattle.grid_geom.specs.declared.Point.{Point}
use Rattle.digital_tree.specs.declared.Entry.{Entry}
use Rattle.digital_tree.specs.declared.Key.{Key}
use Rattle.digital_tree.specs.Entries.{IsInserted}
use Rattle.state_law.specs.State.{State}
use Rattle.size_field.specs.Size.{SizeField}
use Rattle.front_chain.specs.Front.{FrontState, IsFrontState, state_of, line_at}
use Rattle.rule_match.specs.declared.progress.Note.{Note}
use Rattle.rule_match.specs.Least.{HasNone}
use Rattle.rule_match.specs.Refused.{IsRefusedBy}
use Rattle.rule_match.specs.Near.{IsReachBox}
use Rattle.rule_match.proofs.BaseLines.{line_there}
use Rattle.rule_match.proofs.Gathered.{line_numbered}
use Rattle.mesh_run.specs.declared.refusals.Refusals.{Refusals}
use Rattle.mesh_run.specs.declared.refusals.Region.{Region}
use Rattle.mesh_run.specs.Remembered.{AreCovering, AreStill, AreTrue, HasRegion, IsNoted, IsOfLine, IsRegion}
use Rattle.mesh_run.specs.Steps.{RunSetting}
use Rattle.mesh_run.specs.Kept.{AreFewerNotes, AreOnFront, PairNotes}
use Rattle.mesh_run.specs.Worklist.{least_open, turn_cmp}
use Rattle.mesh_run.proofs.Turns.{same_turn}
use Rattle.mesh_run.proofs.Searched.{noted_remembered}
use Rattle.mesh_run.proofs.Regions.{put_in}
use Rattle.mesh_run.proofs.StillNone.{below_next}

-- ---- regions
-- a front line has a number below the next
on_front : (f : FrontState) (line : ℕ) → IsFrontState f → is_some (line_at f.lines line) ≡ true → line < f.next
on_front f line front there = here (line_at f.lines line) refl there
  where
    here : (o : Option (ℕ × ℕ)) → line_at f.lines line ≡ o → is_some o ≡ true → line < f.next
    here None e t = absurd (cc)
    here (Some ends) e t = below_next f.lines f.next (line, ends.0, ends.1) front.rising (line_there f.lines line ends e)

-- a region that a line has stays where each entry does
still_has : (m after : Refusals) (sizes : SizeField) (points : List Point) (line : ℕ × ℕ × ℕ) (class : ℕ) → after.reaches.items ≡ m.reaches.items → AreStill m.regions.entries after.regions.entries → HasRegion m sizes points line class → HasRegion after sizes points line class
still_has m after sizes points line class reaches stay h = record {
  entry = h.entry;
  there = stay.each h.entry h.there;
  region = subst (λ (ns : List ℕ). IsRegion ns sizes points line class h.entry) (sym reaches) h.region;
}

-- so what is remembered stays true
pub still_kept : (s : RunSetting) (st : State) (m after : Refusals) → after.least.items ≡ m.least.items → after.reaches.items ≡ m.reaches.items → ((turn : ℕ × ℕ) → get turn_cmp after.notes turn ≡ get turn_cmp m.notes turn)
    → AreStill m.regions.entries after.regions.entries → ((e : Entry Region) → Contains after.regions.entries e → IsOfLine after.reaches.items s.sizes st e) → AreTrue m s st → AreTrue after s st
still_kept s st m after least reaches notes stay own h = record {
  remembered = record { none = λ line class first l. h.remembered.none line class first (subst (λ (table : List ℕ). class < slice_index_or table line 0) least l) };
  covers = subst (λ (ns : List ℕ). AreCovering s.rules ns) (sym reaches) h.covers;
  reaching = record {
    given = λ line p. h.reaching.given line (subst (λ (table : List ℕ). 0 < slice_index_or table line 0) least p);
    regions = λ line class c first l.
        still_has m after s.sizes st.points line class reaches stay (h.reaching.regions line class c first (subst (λ (table : List ℕ). class < slice_index_or table line.0 0) least l));
    own = own;
  };
  noted = record { refused = λ line class held first l has on. h.noted.refused line class held first (subst (λ (table : List ℕ). class < slice_index_or table line 0) least l) (sym (notes (class, line)) ∙ has) on };
}

-- with fewer notes it stays true
pub fewer_true : (s : RunSetting) (st : State) (m : Refusals) (notes : PairNotes) → AreFewerNotes m.notes notes → AreTrue m s st → AreTrue (record m { notes = notes }) s st
fewer_true s st m notes fewer h = record {
  remembered = h.remembered;
  covers = h.covers;
  reaching = record { given = h.reaching.given; regions = λ line class c first l. still_has m (record m { notes = notes }) s.sizes st.points line class refl (record { each = λ e k. k }) (h.reaching.regions line class c first l); own = h.reaching.own };
  noted = record { refused = λ line class held first l has on. h.noted.refused line class held first l (fewer.each (class, line) held has) on };
}

-- where rules reach as far up to the class as up to the class before, a region at that class is one at the class
pub region_on : (m : Refusals) (sizes : SizeField) (points : List Point) (line : ℕ × ℕ × ℕ) (class : ℕ) → class < length m.reaches.items → slice_index_or m.reaches.items (class - 1) 0 ≡ slice_index_or m.reaches.items class 0
    → HasRegion m sizes points line (class - 1) → HasRegion m sizes points line class
region_on m sizes points line class tried same h = record {
  entry = h.entry;
  there = h.there;
  region = record {
    of_line = h.region.of_line;
    from = from h.entry.value.class class h.region.from;
    tried = tried;
    same = sym same ∙ h.region.same;
    holds = subst (λ (n : ℕ). IsReachBox sizes points n line.1 line.2 h.entry.bounds) same h.region.holds;
  };
}
  where
    from : (first class : ℕ) → first ≤ class - 1 → first ≤ class
    from first class l = omega arith

-- and an entry that is put in is one
pub new_region : (m after : Refusals) (sizes : SizeField) (points : List Point) (line : ℕ × ℕ × ℕ) (class : ℕ) (box : Bounds) (k : Key) → after.reaches.items ≡ m.reaches.items → class < length m.reaches.items
    → IsInserted (record { key = k; bounds = box; value = record { line = line.0; class = class } }) m.regions.entries after.regions.entries → IsReachBox sizes points (slice_index_or m.reaches.items class 0) line.1 line.2 box → HasRegion after sizes points line class
new_region m after sizes points line class box k reaches tried i holds = record {
  entry = record { key = k; bounds = box; value = record { line = line.0; class = class } };
  there = put_in i;
  region = subst (λ (ns : List ℕ). IsRegion ns sizes points line class (record { key = k; bounds = box; value = record { line = line.0; class = class } })) (sym reaches)
      (record { of_line = refl; from = level class; tried = tried; same = refl; holds = holds });
}
  where
    level : (n : ℕ) → n ≤ n
    level n = omega arith

-- an entry of a front line, with the box of the line's reach at a class, is of the line
pub new_own : (f : FrontState) (sizes : SizeField) (reaches : List ℕ) (line class : ℕ) (box : Bounds) (k : Key) → IsFrontState f → class < length reaches → is_some (line_at f.lines line) ≡ true
    → ((ends : ℕ × ℕ) → line_at f.lines line ≡ Some ends → IsReachBox sizes f.points (slice_index_or reaches class 0) ends.0 ends.1 box)
    → IsOfLine reaches sizes (state_of f) (record { key = k; bounds = box; value = record { line = line; class = class } })
new_own f sizes reaches line class box k front tried there holds = record {
  given = on_front f line front there;
  box = λ other c e. record {
    class = class;
    tried = tried;
    is_box = holds (other.1, other.2) (subst (λ (n : ℕ). line_at f.lines n ≡ Some (other.1, other.2)) e (line_numbered f.lines f.next c.0 other other front.rising c.1 c.2));
  };
}

-- a class before the first that isn't remembered is remembered
pub class_before : (refused : List ℕ) (line class : ℕ) → 2 ≤ class → class ≤ least_open refused line → (1 ≤ class - 1) × (class - 1 < slice_index_or refused line 0)
class_before refused line class two first = (omega arith, below (slice_index_or refused line 0) first)
  where
    below : (n : ℕ) → class ≤ max 1 n → class - 1 < n
    below n h = omega (arith, two)

-- ---- one more refusal
module _ (s : RunSetting) (f : FrontState) (m after : Refusals) (line class : ℕ) (front : IsFrontState f) (h : AreTrue m s (state_of f)) (noted : IsNoted m.least.items after.least.items line (class + 1)) where
  still_given : is_some (line_at f.lines line) ≡ true → (other : ℕ) → 0 < slice_index_or after.least.items other 0 → other < f.next
  still_given there other p = by (noted.each other)
    where
      by : (slice_index_or after.least.items other 0 ≡ slice_index_or m.least.items other 0) ⊎ ((other ≡ line) × (slice_index_or after.least.items other 0 ≡ class + 1)) → other < f.next
      by (inl same) = h.reaching.given other (subst (λ (v : ℕ). 0 < v) same p)
      by (inr e) = subst (λ (n : ℕ). n < f.next) (sym e.0) (on_front f line front there)

  -- a class of the line is the new one, or one that was remembered
  all_have : class ≤ least_open m.least.items line → ((ends : ℕ × ℕ) → line_at f.lines line ≡ Some ends → HasRegion m s.sizes f.points (line, ends.0, ends.1) class)
      → (other : ℕ × ℕ × ℕ) (k : ℕ) → Contains f.lines other → 1 ≤ k → k < slice_index_or after.least.items other.0 0 → HasRegion m s.sizes f.points other k
  all_have first held other k c positive l = by (noted.each other.0)
    where
      split : (n : ℕ) → n ≡ class + 1 → k < n → (k ≡ class) ⊎ (k < class)
      split n e b = grind arith

      below : (n : ℕ) → class ≤ max 1 n → k < class → k < n
      below n b d = omega (arith, positive)

      here : other.0 ≡ line → (k ≡ class) ⊎ (k < class) → HasRegion m s.sizes f.points other k
      here e (inl same) =
          let at : line_at f.lines other.0 ≡ Some (other.1, other.2) = line_numbered f.lines f.next c.0 other other front.rising c.1 c.2 in
          subst (HasRegion m s.sizes f.points other) (sym same)
          (subst (λ (n : ℕ). HasRegion m s.sizes f.points (n, other.1, other.2) class) (sym e) (held (other.1, other.2) (subst (λ (n : ℕ). line_at f.lines n ≡ Some (other.1, other.2)) e at)))
      here e (inr less) = h.reaching.regions other k c positive (subst (λ (n : ℕ). k < slice_index_or m.least.items n 0) (sym e) (below (slice_index_or m.least.items line 0) first less))

      by : (slice_index_or after.least.items other.0 0 ≡ slice_index_or m.least.items other.0 0) ⊎ ((other.0 ≡ line) × (slice_index_or after.least.items other.0 0 ≡ class + 1)) → HasRegion m s.sizes f.points other k
      by (inl same) = h.reaching.regions other k c positive (subst (λ (n : ℕ). k < n) same l)
      by (inr e) = here e.0 (split (slice_index_or after.least.items other.0 0) e.1 l)

  -- notes that are put to the line at the class are the pair's; each other pair has those of before
  noted_after : (notes : Vec Note Global) → Updates turn_cmp m.notes after.notes (class, line) (Some notes) → class ≤ least_open m.least.items line → IsRefusedBy s.sizes (state_of f) s.rules line class notes.items
      → (other k : ℕ) (held : Vec Note Global) → 1 ≤ k → k < slice_index_or after.least.items other 0 → get turn_cmp after.notes (k, other) ≡ Some held → AreOnFront (state_of f) held.items → IsRefusedBy s.sizes (state_of f) s.rules other k held.items
  noted_after notes put first refused other k held positive l has on = by (noted.each other)
    where
      Refused : Vec Note Global → Type 0
      Refused v = IsRefusedBy s.sizes (state_of f) s.rules other k v.items

      -- the pair itself
      itself : ◌≡◌ {A = ℕ × ℕ} (k, other) (class, line) → Refused held
      itself e =
          let there : ◌≡◌ {A = Option (Vec Note Global)} (Some notes) (Some held) = sym put.1 ∙ subst (λ (q : ℕ × ℕ). get turn_cmp after.notes q ≡ Some held) e has in
          subst (λ (q : ℕ × ℕ). IsRefusedBy s.sizes (state_of f) s.rules q.1 q.0 held.items) (sym e) (subst (λ (v : Vec Note Global). IsRefusedBy s.sizes (state_of f) s.rules line class v.items) (same_Some notes held there) refused)

      before : k < slice_index_or m.least.items other 0 → Refused held
      before b = at (is_at (turn_cmp (class, line)) (k, other)) refl
        where
          at : (x : Bool) → is_at (turn_cmp (class, line)) (k, other) ≡ x → Refused held
          at true e = itself (same_turn (class, line) (k, other) e)
          at false e = h.noted.refused other k held positive b (sym (put.2 (k, other) e) ∙ has) on

      split : (n : ℕ) → n ≡ class + 1 → k < n → (k ≡ class) ⊎ (k < class)
      split n e b = grind arith

      below : (n : ℕ) → class ≤ max 1 n → k < class → k < n
      below n b d = omega (arith, positive)

      here : other ≡ line → (k ≡ class) ⊎ (k < class) → Refused held
      here e (inl same) = itself (λ i. (same i, e i))
      here e (inr less) = before (subst (λ (n : ℕ). k < slice_index_or m.least.items n 0) (sym e) (below (slice_index_or m.least.items line 0) first less))

      by : (slice_index_or after.least.items other 0 ≡ slice_index_or m.least.items other 0) ⊎ ((other ≡ line) × (slice_index_or after.least.items other 0 ≡ class + 1)) → Refused held
      by (inl same) = before (subst (λ (n : ℕ). k < n) same l)
      by (inr e) = here e.0 (split (slice_index_or after.least.items other 0) e.1 l)

  -- what is remembered with one more refusal is true
  pub noted_true : (notes : Vec Note Global) → Updates turn_cmp m.notes after.notes (class, line) (Some notes) → IsRefusedBy s.sizes (state_of f) s.rules line class notes.items
      → after.reaches.items ≡ m.reaches.items → AreStill m.regions.entries after.regions.entries → ((e : Entry Region) → Contains after.regions.entries e → Contains m.regions.entries e) → is_some (line_at f.lines line) ≡ true → class ≤ least_open m.least.items line
      → ((ends : ℕ × ℕ) → line_at f.lines line ≡ Some ends → HasRegion m s.sizes f.points (line, ends.0, ends.1) class) → ((n : ℕ) → 1 ≤ n → n ≤ class → HasNone s.sizes (state_of f) s.rules line n) → AreTrue after s (state_of f)
  noted_true notes put refused reaches stay fewer there first held none = record {
    remembered = noted_remembered s (state_of f) m.least.items after.least.items line class h.remembered noted none;
    covers = subst (λ (ns : List ℕ). AreCovering s.rules ns) (sym reaches) h.covers;
    reaching = record {
      given = still_given there;
      regions = λ other k c positive l. still_has m after s.sizes f.points other k reaches stay (all_have first held other k c positive l);
      own = λ e c. subst (λ (ns : List ℕ). IsOfLine ns s.sizes (state_of f) e) (sym reaches) (h.reaching.own e (fewer e c));
    };
    noted = record { refused = noted_after notes put first refused };
  }
