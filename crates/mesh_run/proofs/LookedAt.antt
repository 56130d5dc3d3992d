-- What is remembered after pairs were looked at again: it is kept by each further look, and so near an application, once entries by which nothing is remembered are dropped.
use Rattle.std.proofs.Common.{◌≡◌, ◌≢◌, ℕ, ◌+◌, ◌<◌, ◌≤◌, ◌⊎◌, inl, inr, Bool, true, false, nat_eq, max, All, Contains, filter, take, List, [], ◌∷◌, ◌++◌, length, slice_index_or, None, Some, Result, Ok, Err, OnOk, OnErr, is_ok, Vec, Global, refl, sym, ap, ◌∙◌, subst, arith}
use Rattle.std.specs.BTreeMap.{get, is_at, Updates}
use Rattle.std.specs.Map.{lookup}
use Rattle.std.proofs.lemmas.List.Elements.{All-contains, All-contains_itself, All-filter, All-more, All-weaker, Contains-append_left, Contains-push}
use Rattle.std.proofs.lemmas.List.{take_all, take_more}
use Rattle.std.specs.Ordering.{is_eq}
use Rattle.std.specs.List.{AllByRecursion}
use Rattle.std.proofs.lemmas.Option.{same_Some}
use Rattle.rule_match.specs.declared.progress.Note.{Note}
use Rattle.rule_match.specs.Refused.{IsRefusedBy}
use Rattle.grid_geom.specs.declared.Point.{Point}
use Rattle.digital_tree.specs.declared.Entry.{Entry}
use Rattle.digital_tree.specs.Entries.{is_hit}
use Rattle.rule_reader.specs.Normal.{IsRule}
use Rattle.state_law.specs.State.{State}
use Rattle.state_law.proofs.Lists.{all_map}
use Rattle.front_chain.specs.Front.{FrontState, IsFrontState, edges_of, state_of}
use Rattle.rule_match.specs.declared.application.Application.{Application}
use Rattle.rule_match.specs.Near.{IsCoveredAt}
use Rattle.mesh_run.specs.declared.looked_again.Change.{Change}
use Rattle.mesh_run.specs.declared.refusals.Refusals.{Refusals}
use Rattle.mesh_run.specs.declared.refusals.Region.{Region}
use Rattle.mesh_run.specs.Kept.{AreHeld, DoNotesStand, IsFollowedBy, IsKeptTo, IsLookedAgain, IsLowered, IsNotedAt, IsOwnClass, PairNotes, WasRefused, WereRefused}
use Rattle.mesh_run.specs.Reached.{MayBeApplied}
use Rattle.mesh_run.specs.Remembered.{AreCovering, AreDropped, AreHits, AreTrue, HasEntryOf, IsForgottenNear, IsGone}
use Rattle.mesh_run.specs.Steps.{RunSetting, IsNext, applied}
use Rattle.mesh_run.specs.Worklist.{turn_cmp}
use Rattle.mesh_run.proofs.Followed.{followed_next, followed_same}
use Rattle.mesh_run.proofs.GoesOn.{of_front}
use Rattle.mesh_run.proofs.Regions.{passed}
use Rattle.mesh_run.proofs.SameState.{AreSame, same_refused}
use Rattle.mesh_run.proofs.Turns.{other_turn}
use Rattle.mesh_run.proofs.StillNone.{contained}

below : (class n m : ℕ) → class < n → n ≤ m → class < m
below class n m l k = omega arith

equal_or : (m n : ℕ) → (m ≡ n) ⊎ (m ≢ n)
equal_or m n = by (nat_eq m n) refl
  where
    same : nat_eq m n ≡ true → m ≡ n
    same e = grind arith

    differ : nat_eq m n ≡ false → m ≢ n
    differ e f = grind arith

    by : (b : Bool) → nat_eq m n ≡ b → (m ≡ n) ⊎ (m ≢ n)
    by true e = inl (same e)
    by false e = inr (differ e)

module _ (s : RunSetting) (later : State) where
  -- ---- notes
  pub same_noted : (notes more : PairNotes) (line class : ℕ) → get turn_cmp more (class, line) ≡ get turn_cmp notes (class, line) → IsNotedAt notes s later line class → IsNotedAt more s later line class
  same_noted notes more line class e h = record { held = h.held; has = e ∙ h.has; refused = h.refused }

  -- ---- one look after another
  pub none_held : (m : Refusals) → AreHeld s later m m
  none_held m = record { reaches = refl; regions = refl; less = λ line. level (slice_index_or m.least.items line 0); pairs = λ line class l. inl refl }
    where
      level : (n : ℕ) → n ≤ n
      level n = omega arith

  pub held_twice : (before now after : Refusals) → AreHeld s later before now → AreHeld s later now after → AreHeld s later before after
  held_twice before now after h k = record {
    reaches = k.reaches ∙ h.reaches;
    regions = k.regions ∙ h.regions;
    less = λ line. chained (slice_index_or after.least.items line 0) (slice_index_or now.least.items line 0) (slice_index_or before.least.items line 0) (k.less line) (h.less line);
    pairs = λ line class l. by line class (k.pairs line class l) (h.pairs line class (below class (slice_index_or after.least.items line 0) (slice_index_or now.least.items line 0) l (k.less line)));
  }
    where
      chained : (a b c : ℕ) → a ≤ b → b ≤ c → a ≤ c
      chained a b c l m = omega arith

      by : (line class : ℕ) → (get turn_cmp after.notes (class, line) ≡ get turn_cmp now.notes (class, line)) ⊎ IsNotedAt after.notes s later line class
          → (get turn_cmp now.notes (class, line) ≡ get turn_cmp before.notes (class, line)) ⊎ IsNotedAt now.notes s later line class
          → (get turn_cmp after.notes (class, line) ≡ get turn_cmp before.notes (class, line)) ⊎ IsNotedAt after.notes s later line class
      by line class (inl e) (inl g) = inl (e ∙ g)
      by line class (inl e) (inr n) = inr (same_noted now.notes after.notes line class e n)
      by line class (inr n) was = inr n

  -- what was looked at stays so
  pub still_looked : (now after : Refusals) (region : Region) → AreHeld s later now after → IsLookedAgain now s later region → IsLookedAgain after s later region
  still_looked now after region h looked = record {
    noted = λ class first tried own l.
        let was = below class (slice_index_or after.least.items region.line 0) (slice_index_or now.least.items region.line 0) l (h.less region.line) in
        by class (h.pairs region.line class l) (looked.noted class first (subst (λ (ns : List ℕ). class < length ns) h.reaches tried) (subst (λ (ns : List ℕ). IsOwnClass ns region class) h.reaches own) was);
  }
    where
      by : (class : ℕ) → (get turn_cmp after.notes (class, region.line) ≡ get turn_cmp now.notes (class, region.line)) ⊎ IsNotedAt after.notes s later region.line class → IsNotedAt now.notes s later region.line class
          → IsNotedAt after.notes s later region.line class
      by class (inl e) n = same_noted now.notes after.notes region.line class e n
      by class (inr n) was = n

  -- and what was refused was
  pub still_were : (c : Change) (before now : Refusals) (region : Region) → AreHeld s later before now → WereRefused before s later c region → WereRefused now s later c region
  still_were c before now region h were class held from first last l has =
      by (h.pairs region.line class l)
    where
      was : class < slice_index_or before.least.items region.line 0
      was = below class (slice_index_or now.least.items region.line 0) (slice_index_or before.least.items region.line 0) l (h.less region.line)

      by : (get turn_cmp now.notes (class, region.line) ≡ get turn_cmp before.notes (class, region.line)) ⊎ IsNotedAt now.notes s later region.line class → WasRefused s later c region.line class held.items
      by (inl e) = were class held from first last was (sym e ∙ has)
      by (inr n) = inr (subst (λ (v : Vec Note Global). IsRefusedBy s.sizes later s.rules region.line class v.items) (same_Some n.held held (sym n.has ∙ has)) n.refused)

  -- ---- one region
  -- where a line is lowered, its pairs from the class on are forgotten, and all others are held
  pub lowered_held : (turn : ℕ × ℕ) (before after : Refusals) → IsLowered turn before after → AreHeld s later before after
  lowered_held turn before after h = record { reaches = h.reaches; regions = h.regions; less = h.less; pairs = λ line class l. inl (h.pairs line class l) }

  pub lowered_looked : (region : Region) (before after : Refusals) → IsLowered (region.class, region.line) before after → IsLookedAgain after s later region
  lowered_looked region before after h = record { noted = λ class first tried own l. absurd (never class region.class (slice_index_or after.least.items region.line 0) l own.0 h.lowered) }
    where
      never : (class first n : ℕ) → class < n → first ≤ class → n ≤ first → ⊥
      never class first n l k j = omega arith

  module _ (region : Region) (before now : Refusals) (least : now.least.items ≡ before.least.items) (reaches : now.reaches.items ≡ before.reaches.items) (regions : now.regions.entries ≡ before.regions.entries) (long : length before.reaches.items ≡ 17) where
    -- no class was lost
    pub kept_held : IsKeptTo s later region before now None → AreHeld s later before now
    kept_held k = record {
      reaches = reaches;
      regions = regions;
      less = λ line. level (slice_index_or now.least.items line 0) (slice_index_or before.least.items line 0) (ap (λ (table : List ℕ). slice_index_or table line 0) least);
      pairs = λ line class l. k.pairs line class tt;
    }
      where
        level : (m n : ℕ) → m ≡ n → m ≤ n
        level m n e = omega (arith, e)

    pub kept_looked : IsKeptTo s later region before now None → IsLookedAgain now s later region
    kept_looked k = record {
      noted = λ class first tried own l.
          k.noted class first (subst (λ (n : ℕ). class < n) long (subst (λ (ns : List ℕ). class < length ns) reaches tried)) tt (subst (λ (ns : List ℕ). IsOwnClass ns region class) reaches own)
          (subst (λ (table : List ℕ). class < slice_index_or table region.line 0) least l);
    }

    -- a class was lost, and the line is lowered to it
    module _ (class : ℕ) (after : Refusals) (k : IsKeptTo s later region before now (Some class)) (h : IsLowered (class, region.line) now after) where
      pub lost_held : AreHeld s later before after
      lost_held = record {
        reaches = h.reaches ∙ reaches;
        regions = h.regions ∙ regions;
        less = λ line. subst (λ (table : List ℕ). slice_index_or after.least.items line 0 ≤ slice_index_or table line 0) least (h.less line);
        pairs = λ line n l. here line n l (equal_or line region.line);
      }
        where
          on : (line n : ℕ) → get turn_cmp after.notes (n, line) ≡ get turn_cmp now.notes (n, line) → (get turn_cmp now.notes (n, line) ≡ get turn_cmp before.notes (n, line)) ⊎ IsNotedAt now.notes s later line n
              → (get turn_cmp after.notes (n, line) ≡ get turn_cmp before.notes (n, line)) ⊎ IsNotedAt after.notes s later line n
          on line n e (inl g) = inl (e ∙ g)
          on line n e (inr noted) = inr (same_noted now.notes after.notes line n e noted)

          here : (line n : ℕ) → n < slice_index_or after.least.items line 0 → (line ≡ region.line) ⊎ (line ≢ region.line) → (get turn_cmp after.notes (n, line) ≡ get turn_cmp before.notes (n, line)) ⊎ IsNotedAt after.notes s later line n
          here line n l (inl e) = on line n (h.pairs line n l) (k.pairs line n (inl (below n (slice_index_or after.least.items line 0) class l (subst (λ (m : ℕ). slice_index_or after.least.items m 0 ≤ class) (sym e) h.lowered))))
          here line n l (inr d) = on line n (h.pairs line n l) (k.pairs line n (inr d))

      pub lost_looked : IsLookedAgain after s later region
      lost_looked = record {
        noted = λ n first tried own l.
            let lower = below n (slice_index_or after.least.items region.line 0) class l h.lowered in
            same_noted now.notes after.notes region.line n (h.pairs region.line n l)
            (k.noted n first (subst (λ (m : ℕ). n < m) long (subst (λ (ns : List ℕ). n < length ns) (h.reaches ∙ reaches) tried)) lower (subst (λ (ns : List ℕ). IsOwnClass ns region n) (h.reaches ∙ reaches) own)
            (subst (λ (table : List ℕ). n < slice_index_or table region.line 0) least (below n (slice_index_or after.least.items region.line 0) (slice_index_or now.least.items region.line 0) l (h.less region.line))));
      }

  -- ---- near an application
  dropped_looked : (now after : Refusals) (region : Region) → AreDropped now after → IsLookedAgain now s later region → IsLookedAgain after s later region
  dropped_looked now after region d looked = record {
    noted = λ class first tried own l.
        subst (λ (notes : PairNotes). IsNotedAt notes s later region.line class) (sym d.notes)
        (looked.noted class first (subst (λ (ns : List ℕ). class < length ns) d.reaches tried) (subst (λ (ns : List ℕ). IsOwnClass ns region class) d.reaches own)
        (subst (λ (table : List ℕ). class < slice_index_or table region.line 0) d.least l));
  }

  pub near_looked : (points : List Point) (elements : List (List ℕ)) (hits : List (Entry Region)) (before now after : Refusals) → AreHits points elements before.regions.entries hits → AreHeld s later before now
      → ((line : ℕ) → (slice_index_or now.least.items line 0 ≡ slice_index_or before.least.items line 0) ⊎ HasEntryOf hits line) → All (λ e. IsLookedAgain now s later e.value) hits → AreDropped now after → IsForgottenNear s later points elements before after
  near_looked points elements hits before now after h held kept looked d = record {
    area = h.area;
    holds = h.holds;
    on_grid = h.on_grid;
    least = h.least;
    reaches = d.reaches ∙ held.reaches;
    less = λ line. subst (λ (table : List ℕ). slice_index_or table line 0 ≤ slice_index_or before.least.items line 0) (sym d.least) (held.less line);
    kept = λ line.
        subst (λ (es : List (Entry Region)). (slice_index_or after.least.items line 0 ≡ slice_index_or before.least.items line 0) ⊎ HasEntryOf es line) h.hits_are
        (subst (λ (table : List ℕ). (slice_index_or table line 0 ≡ slice_index_or before.least.items line 0) ⊎ HasEntryOf hits line) (sym d.least) (kept line));
    each = λ e c. each e c (is_hit h.area e) refl;
    fewer = λ e c. subst (λ (es : List (Entry Region)). Contains es e) held.regions (d.fewer e c);
    pairs = λ line class l.
        subst (λ (notes : PairNotes). (get turn_cmp notes (class, line) ≡ get turn_cmp before.notes (class, line)) ⊎ IsNotedAt notes s later line class) (sym d.notes)
        (held.pairs line class (subst (λ (table : List ℕ). class < slice_index_or table line 0) d.least l));
  }
    where
      es : List (Entry Region)
      es = before.regions.entries

      is_of : (e : Entry Region) → Contains es e → is_hit h.area e ≡ true → Contains hits e
      is_of e c i = subst (λ (xs : List (Entry Region)). Contains xs e) (sym h.hits_are) (contained (λ x. is_hit h.area x ≡ true → Contains (filter (is_hit h.area) es) x) es e (passed (is_hit h.area) es) c i)

      gone : (e : Entry Region) → IsGone now e → IsGone after e
      gone e g = subst (λ (table : List ℕ). slice_index_or table e.value.line 0 ≤ e.value.class) (sym d.least) g

      by : (e : Entry Region) → (is_hit h.area e ≡ false) ⊎ IsLookedAgain now s later e.value → Contains after.regions.entries e ⊎ IsGone now e
          → IsGone after e ⊎ (Contains after.regions.entries e × ((is_hit h.area e ≡ false) ⊎ IsLookedAgain after s later e.value))
      by e how (inr g) = inl (gone e g)
      by e (inl missed) (inl there) = inr (there, inl missed)
      by e (inr l) (inl there) = inr (there, inr (dropped_looked now after e.value d l))

      each : (e : Entry Region) → Contains es e → (b : Bool) → is_hit h.area e ≡ b → IsGone after e ⊎ (Contains after.regions.entries e × ((is_hit h.area e ≡ false) ⊎ IsLookedAgain after s later e.value))
      each e c true i = by e (inr (All-contains (λ x. IsLookedAgain now s later x.value) hits e looked (is_of e c i))) (d.stay e (subst (λ (xs : List (Entry Region)). Contains xs e) (sym held.regions) c))
      each e c false i = by e (inl i) (d.stay e (subst (λ (xs : List (Entry Region)). Contains xs e) (sym held.regions) c))

-- ---- pairs that stay as they are
-- a pair of another line, or before a class, isn't one of the line's from the class on
pub another_pair : (n line class : ℕ) → class ≤ n → (other k : ℕ) → (other ≢ line) ⊎ (k < class) → is_eq (turn_cmp (n, line) (k, other)) ≡ false
another_pair n line class l other k (inl h) = other_turn (n, line) (k, other) (λ e. h (ap (λ (q : ℕ × ℕ). q.1) e))
another_pair n line class l other k (inr b) = other_turn (n, line) (k, other) (λ e. clash (ap (λ (q : ℕ × ℕ). q.0) e))
  where
    clash : k ≡ n → ⊥
    clash e = omega (arith, l, b, e)

-- a pair that is still remembered, where nothing is of the line from the class on, is another line's or before the class
pub apart_pairs : (after : List ℕ) (line class : ℕ) → slice_index_or after line 0 ≤ class → (other k : ℕ) → k < slice_index_or after other 0 → (other ≢ line) ⊎ (k < class)
apart_pairs after line class h other k l = by (equal_or other line)
  where
    by : (other ≡ line) ⊎ (other ≢ line) → (other ≢ line) ⊎ (k < class)
    by (inl e) = inr (below k (slice_index_or after other 0) class l (subst (λ (m : ℕ). slice_index_or after m 0 ≤ class) (sym e) h))
    by (inr d) = inl d

-- ---- a pair that is taken out and put back
not_true : false ≡ true → ⊥
not_true e = cc

-- whether or not it is put back, each other pair has the notes of before
pub others_put : {A E : Type 0} (before after : PairNotes) (turn : ℕ × ℕ) (held : Vec Note Global) (r : Result A E) → OnOk r (Updates turn_cmp before after turn (Some held)) → OnErr r (after.entries ≡ before.entries)
    → (other : ℕ × ℕ) → other ≢ turn → get turn_cmp after other ≡ get turn_cmp before other
others_put before after turn held (Ok x) put left other d = put.2 other (other_turn turn other d)
others_put before after turn held (Err e) put left other d = ap (λ (es : List ((ℕ × ℕ) × Vec Note Global)). lookup (is_at (turn_cmp other)) es) left

-- where it is, it has these notes
pub noted_put : {A E : Type 0} (s : RunSetting) (later : State) (before after : PairNotes) (turn : ℕ × ℕ) (held : Vec Note Global) (r : Result A E) → is_ok r ≡ true → OnOk r (Updates turn_cmp before after turn (Some held))
    → IsRefusedBy s.sizes later s.rules turn.1 turn.0 held.items → IsNotedAt after s later turn.1 turn.0
noted_put s later before after turn held (Ok x) is_put put refused = record { held = held; has = put.1; refused = refused }
noted_put s later before after turn held (Err e) is_put put refused = absurd (not_true is_put)

-- ---- one class after another
-- up to a class the region's own classes that are remembered are refused by notes; from it on its line has the notes of before
pub record AreKeptBelow (s : RunSetting) (later : State) (region : Region) (before now : Refusals) (n : ℕ) : Type 0 where
  pub least : now.least.items ≡ before.least.items
  pub reaches : now.reaches.items ≡ before.reaches.items
  pub regions : now.regions.entries ≡ before.regions.entries
  pub from : region.class ≤ n
  pub first : 1 ≤ n
  pub pairs : (line class : ℕ) → (get turn_cmp now.notes (class, line) ≡ get turn_cmp before.notes (class, line)) ⊎ IsNotedAt now.notes s later line class
  pub rest : (class : ℕ) → n ≤ class → get turn_cmp now.notes (class, region.line) ≡ get turn_cmp before.notes (class, region.line)
  pub noted : (class : ℕ) → 1 ≤ class → class < n → IsOwnClass before.reaches.items region class → class < slice_index_or before.least.items region.line 0 → IsNotedAt now.notes s later region.line class

-- the class is before n, or is n
before_or : (class n : ℕ) → class < n + 1 → (class < n) ⊎ (class ≡ n)
before_or class n l = grind arith

further : (m n : ℕ) → m ≤ n → m ≤ n + 1
further m n l = omega arith

earlier : (n class : ℕ) → n + 1 ≤ class → n ≤ class
earlier n class l = omega arith

not_at : (class n : ℕ) → class < n → class ≡ n → ⊥
not_at class n l e = omega (arith, l, e)

not_before : (class n : ℕ) → n + 1 ≤ class → class ≡ n → ⊥
not_before class n l e = omega (arith, l, e)

module _ (s : RunSetting) (later : State) (region : Region) (before : Refusals) where
  -- no class of the region's is before its first one
  pub none_below : (n : ℕ) → n ≡ max region.class 1 → AreKeptBelow s later region before before n
  none_below n is = record {
    least = refl;
    reaches = refl;
    regions = refl;
    from = omega (arith, is);
    first = omega (arith, is);
    pairs = λ line class. inl refl;
    rest = λ class l. refl;
    noted = λ class first l own remembered. absurd (never class first l own.0);
  }
    where
      never : (class : ℕ) → 1 ≤ class → class < n → region.class ≤ class → ⊥
      never class first l own = omega (arith, is, first, l, own)

  module _ (now : Refusals) (n : ℕ) (h : AreKeptBelow s later region before now n) where
    -- the class isn't one of its own, or isn't remembered
    pub one_more_passed : (IsOwnClass now.reaches.items region n → n < slice_index_or now.least.items region.line 0 → ⊥) → AreKeptBelow s later region before now (n + 1)
    one_more_passed no_own = record {
      least = h.least;
      reaches = h.reaches;
      regions = h.regions;
      from = further region.class n h.from;
      first = further 1 n h.first;
      pairs = h.pairs;
      rest = λ class l. h.rest class (earlier n class l);
      noted = λ class first l own remembered. by class first own remembered (before_or class n l);
    }
      where
        by : (class : ℕ) → 1 ≤ class → IsOwnClass before.reaches.items region class → class < slice_index_or before.least.items region.line 0 → (class < n) ⊎ (class ≡ n) → IsNotedAt now.notes s later region.line class
        by class first own remembered (inl l) = h.noted class first l own remembered
        by class first own remembered (inr e) =
            absurd (no_own (subst (λ (ns : List ℕ). IsOwnClass ns region n) (sym h.reaches) (subst (IsOwnClass before.reaches.items region) e own))
            (subst (λ (table : List ℕ). n < slice_index_or table region.line 0) (sym h.least) (subst (λ (k : ℕ). k < slice_index_or before.least.items region.line 0) e remembered)))

    -- where all are kept, none is lost
    pub none_lost : 17 ≤ n → IsKeptTo s later region before now None
    none_lost l = record { told = tt; pairs = λ line class all. h.pairs line class; noted = λ class first last all own remembered. h.noted class first (below class 17 n last l) own remembered }

    -- what `is_kept` asks at the class
    pub was_there : (c : Change) → WereRefused before s later c region → n ≤ 16 → n < slice_index_or now.least.items region.line 0 → (held : Vec Note Global) → get turn_cmp now.notes (n, region.line) ≡ Some held → WasRefused s later c region.line n held.items
    was_there c were last l held has = were n held h.from h.first last (subst (λ (table : List ℕ). n < slice_index_or table region.line 0) h.least l) (sym (h.rest n (level n)) ∙ has)
      where
        level : (m : ℕ) → m ≤ m
        level m = omega arith

    -- the pair at the class was looked at
    module _ (more : PairNotes) (others : (other : ℕ × ℕ) → other ≢ (n, region.line) → get turn_cmp more other ≡ get turn_cmp now.notes other) where
      other_class : (class line : ℕ) → (class ≡ n → ⊥) → get turn_cmp more (class, line) ≡ get turn_cmp now.notes (class, line)
      other_class class line d = others (class, line) (λ e. d (ap (λ (q : ℕ × ℕ). q.0) e))

      other_line : (class line : ℕ) → (line ≢ region.line) → get turn_cmp more (class, line) ≡ get turn_cmp now.notes (class, line)
      other_line class line d = others (class, line) (λ e. d (ap (λ (q : ℕ × ℕ). q.1) e))

      -- what has been noted of other pairs still is
      still_pair : (line class : ℕ) → get turn_cmp more (class, line) ≡ get turn_cmp now.notes (class, line) → (get turn_cmp more (class, line) ≡ get turn_cmp before.notes (class, line)) ⊎ IsNotedAt more s later line class
      still_pair line class same = by (h.pairs line class)
        where
          by : (get turn_cmp now.notes (class, line) ≡ get turn_cmp before.notes (class, line)) ⊎ IsNotedAt now.notes s later line class → (get turn_cmp more (class, line) ≡ get turn_cmp before.notes (class, line)) ⊎ IsNotedAt more s later line class
          by (inl e) = inl (same ∙ e)
          by (inr noted) = inr (same_noted s later now.notes more line class same noted)

      -- it is kept
      pub one_more_held : IsNotedAt more s later region.line n → AreKeptBelow s later region before (record now { notes = more }) (n + 1)
      one_more_held here = record {
        least = h.least;
        reaches = h.reaches;
        regions = h.regions;
        from = further region.class n h.from;
        first = further 1 n h.first;
        pairs = λ line class. pair line class (equal_or class n) (equal_or line region.line);
        rest = λ class l. other_class class region.line (not_before class n l) ∙ h.rest class (earlier n class l);
        noted = λ class first l own remembered. by class first own remembered (before_or class n l);
      }
        where
          pair : (line class : ℕ) → (class ≡ n) ⊎ (class ≢ n) → (line ≡ region.line) ⊎ (line ≢ region.line) → (get turn_cmp more (class, line) ≡ get turn_cmp before.notes (class, line)) ⊎ IsNotedAt more s later line class
          pair line class (inl e) (inl g) = inr (subst (λ (k : ℕ). IsNotedAt more s later line k) (sym e) (subst (λ (m : ℕ). IsNotedAt more s later m n) (sym g) here))
          pair line class (inr d) on = still_pair line class (other_class class line d)
          pair line class (inl e) (inr d) = still_pair line class (other_line class line d)

          by : (class : ℕ) → 1 ≤ class → IsOwnClass before.reaches.items region class → class < slice_index_or before.least.items region.line 0 → (class < n) ⊎ (class ≡ n) → IsNotedAt more s later region.line class
          by class first own remembered (inl l) = same_noted s later now.notes more region.line class (other_class class region.line (not_at class n l)) (h.noted class first l own remembered)
          by class first own remembered (inr e) = subst (λ (k : ℕ). IsNotedAt more s later region.line k) (sym e) here

      -- it is lost
      pub lost_at : IsKeptTo s later region before (record now { notes = more }) (Some n)
      lost_at = record {
        told = (h.from, h.first);
        pairs = λ line class apart. pair line class apart;
        noted = λ class first last l own remembered. same_noted s later now.notes more region.line class (other_class class region.line (not_at class n l)) (h.noted class first l own remembered);
      }
        where
          pair : (line class : ℕ) → (class < n) ⊎ (line ≢ region.line) → (get turn_cmp more (class, line) ≡ get turn_cmp before.notes (class, line)) ⊎ IsNotedAt more s later line class
          pair line class (inl l) = still_pair line class (other_class class line (not_at class n l))
          pair line class (inr d) = still_pair line class (other_line class line d)

-- ---- one entry after another
-- a line of which as much is remembered with one more entry, or of which that is
pub one_more_kept : (hits : List (Entry Region)) (before now after : List ℕ) (k : ℕ) (d : Entry Region) → k < length hits → ((line : ℕ) → (slice_index_or now line 0 ≡ slice_index_or before line 0) ⊎ HasEntryOf (take k hits) line)
    → ((line : ℕ) → (slice_index_or after line 0 ≡ slice_index_or now line 0) ⊎ ((slice_index_or hits k d).value.line ≡ line)) → (line : ℕ) → (slice_index_or after line 0 ≡ slice_index_or before line 0) ⊎ HasEntryOf (take (k + 1) hits) line
one_more_kept hits before now after k d l was one line = by (was line) (one line)
  where
    last : Entry Region
    last = slice_index_or hits k d

    all : HasEntryOf (take k hits ++ last ∷ []) line → HasEntryOf (take (k + 1) hits) line
    all h = subst (λ (es : List (Entry Region)). HasEntryOf es line) (sym (take_more hits k d l)) h

    by : (slice_index_or now line 0 ≡ slice_index_or before line 0) ⊎ HasEntryOf (take k hits) line → (slice_index_or after line 0 ≡ slice_index_or now line 0) ⊎ (last.value.line ≡ line)
        → (slice_index_or after line 0 ≡ slice_index_or before line 0) ⊎ HasEntryOf (take (k + 1) hits) line
    by (inl e) (inl g) = inl (g ∙ e)
    by (inr h) (inl g) = inr (all (record { entry = h.entry; there = Contains-append_left (take k hits) (last ∷ []) h.entry h.there; of_line = h.of_line }))
    by w (inr g) = inr (all (record { entry = last; there = Contains-push (take k hits) last; of_line = g }))

pub kept_of_all : (hits : List (Entry Region)) (before now : List ℕ) (k : ℕ) → length hits ≤ k → ((line : ℕ) → (slice_index_or now line 0 ≡ slice_index_or before line 0) ⊎ HasEntryOf (take k hits) line)
    → (line : ℕ) → (slice_index_or now line 0 ≡ slice_index_or before line 0) ⊎ HasEntryOf hits line
kept_of_all hits before now k l h = subst (λ (es : List (Entry Region)). (line : ℕ) → (slice_index_or now line 0 ≡ slice_index_or before line 0) ⊎ HasEntryOf es line) (take_all k hits l) h

pub one_more_looked : (s : RunSetting) (later : State) (hits : List (Entry Region)) (now after : Refusals) (k : ℕ) (d : Entry Region) → k < length hits → AreHeld s later now after → All (λ e. IsLookedAgain now s later e.value) (take k hits)
    → IsLookedAgain after s later (slice_index_or hits k d).value → All (λ e. IsLookedAgain after s later e.value) (take (k + 1) hits)
one_more_looked s later hits now after k d l held h one =
    All-more (λ e. IsLookedAgain after s later e.value) hits k d l (All-weaker (λ e. IsLookedAgain now s later e.value) (λ e. IsLookedAgain after s later e.value) (λ e x. still_looked s later now after e.value held x) (take k hits) h) one

-- ---- states with the same points and the same front
module _ (s : RunSetting) (later other : State) (same : AreSame later other) where
  noted_same : (notes : PairNotes) (line class : ℕ) → IsNotedAt notes s later line class → IsNotedAt notes s other line class
  noted_same notes line class n = record { held = n.held; has = n.has; refused = same_refused s.sizes s.rules line class later other n.held.items same n.refused }

  pub near_same : (points : List Point) (elements : List (List ℕ)) (before after : Refusals) → IsForgottenNear s later points elements before after → IsForgottenNear s other points elements before after
  near_same points elements before after f = record {
    area = f.area;
    holds = f.holds;
    on_grid = f.on_grid;
    least = f.least;
    reaches = f.reaches;
    less = f.less;
    kept = f.kept;
    each = λ e c. elim (f.each e c) [ inl gone ↦ inl gone | inr k ↦ inr (k.0, elim k.1 [ inl missed ↦ inl missed | inr looked ↦ inr (looked_same e.value looked) ]) ];
    fewer = f.fewer;
    pairs = λ line class l. elim (f.pairs line class l) [ inl e ↦ inl e | inr n ↦ inr (noted_same after.notes line class n) ];
  }
    where
      looked_same : (region : Region) → IsLookedAgain after s later region → IsLookedAgain after s other region
      looked_same region looked = record { noted = λ class first tried own l. noted_same after.notes region.line class (looked.noted class first tried own l) }

-- ---- what was refused before an application
-- entries whose boxes meet an area are entries
pub hits_there : (points : List Point) (elements : List (List ℕ)) (es hits : List (Entry Region)) → AreHits points elements es hits → All (Contains es) hits
hits_there points elements es hits h = subst (All (Contains es)) (sym h.hits_are) (All-filter (is_hit h.area) (Contains es) es (All-contains_itself es))

-- the rules are as a reader gives them
pub rules_of : (m : Refusals) (s : RunSetting) → AreCovering s.rules m.reaches.items → AllByRecursion IsRule s.rules
rules_of m s h = all_map (IsCoveredAt 0 (slice_index_or m.reaches.items 0 0)) IsRule (λ r i. i.rule) s.rules (h.covers 0 (above (length m.reaches.items) h.long))
  where
    above : (n : ℕ) → n ≡ 17 → 0 < n
    above n e = omega (arith, e)

-- notes of entries' lines that stand are those by which the pairs were refused before it
pub all_were : (s : RunSetting) (a : Application) (same after : FrontState) (m : Refusals) (hits : List (Entry Region)) (c : Change) → IsFrontState same → MayBeApplied (state_of same) a → IsNext s (state_of same) a → AreTrue m s (state_of same)
    → AreSame (applied (state_of same) a) (state_of after) → c ≡ record { points = length same.points; first = same.next } → All (Contains m.regions.entries) hits → All (λ e. DoNotesStand (state_of same) m.notes e.value) hits
    → All (λ e. WereRefused m s (state_of after) c e.value) hits
all_were s a same after m hits c front may next h later change there stand = λ k d l. were (slice_index_or hits k d) (there k d l) (stand k d l)
  where
    follows : IsFollowedBy (state_of same) (state_of after) c
    follows = subst (IsFollowedBy (state_of same) (state_of after)) (sym change)
        (followed_same (state_of same) (applied (state_of same) a) (state_of after) (record { points = length same.points; first = same.next }) later
        (followed_next s (edges_of same) (state_of same) a (of_front same front) may front.rising (rules_of m s h.covers) next))

    were : (e : Entry Region) → Contains m.regions.entries e → DoNotesStand (state_of same) m.notes e.value → WereRefused m s (state_of after) c e.value
    were e k stands = λ class held from first last l has. inl (record {
      before = state_of same;
      followed = follows;
      given = subst (λ (x : Change). e.value.line < x.first) (sym change) (h.reaching.own e k).given;
      refused = h.noted.refused e.value.line class held first l has (stands class held from last has);
    })
