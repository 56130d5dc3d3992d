-- What is known of a part's entries: their boxes lie in its box, so a box that misses it misses them all, and an entry whose box doesn't lie in it isn't there.
use native.Mathlib.Omega.{arith}
use Rattle.std.specs.Prelude.{◌≡◌, ◌≤◌, ℕ, Bool, true, false, ◌||◌, List, [], ◌∷◌, ◌++◌, length, filter, None, refl, Box}
use Rattle.std.specs.List.{AllByRecursion, list_any}
use Rattle.std.proofs.Common.{ap, sym, ◌∙◌, subst, append-nil}
use Rattle.std.specs.declared.alloc.Global.{Global}
use Rattle.grid_geom.specs.declared.Bounds.{Bounds}
use Rattle.grid_geom.specs.Boxes.{DoBoundsMeet}
use Rattle.digital_tree.specs.declared.Key.{Key}
use Rattle.digital_tree.specs.declared.Entry.{Entry}
use Rattle.digital_tree.specs.declared.part.Fork.{Fork}
use Rattle.digital_tree.specs.declared.part.Below.{Below}
use Rattle.digital_tree.specs.declared.part.Below.TheVariants.{Nothing, One, Two}
use Rattle.digital_tree.specs.Boxes.{IsWithin}
use Rattle.digital_tree.specs.Entries.{has_key, is_hit, first_in_walk, IsInserted, IsAbsent, IsSpot}
use Rattle.digital_tree.specs.Part.{entries_in, AreWithin, IsSoundFork, IsSound}
use Rattle.digital_tree.proofs.Meets.{missed, within_self, within_more}
use Rattle.digital_tree.proofs.Lists.{all_append, all_first, all_second, all_inserted, some_inserted, first_missed, hits_missed}

untrue : (t : Bool) → (t ≡ true → ⊥) → t ≡ false
untrue true h = absurd (h refl)
untrue false h = refl

module _ {V : Type 0} where
  pub all_within : (b : Bounds) (below : Below V) → IsSound b below → AreWithin b (entries_in b below)
  all_within b Nothing h = tt
  all_within b (One key value) h = (within_self b, tt)
  all_within b (Two f) h = all_append (λ e. IsWithin e.bounds b) f.value.low f.value.high h.low h.high

  -- the part's entries are `d`, and lie in its box
  pub within : (b : Bounds) (below : Below V) (d : List (Entry V)) → entries_in b below ≡ d → IsSound b below → AreWithin b d
  within b below d view_is sound = subst (AreWithin b) view_is (all_within b below sound)

  pub two_sides : (b : Bounds) (below : Below V) (d : List (Entry V)) (f : Box (Fork V) Global) → entries_in b below ≡ d → below ≡ Two f → d ≡ f.value.low ++ f.value.high
  two_sides b below d f view_is is = sym view_is ∙ ap (entries_in b) is

  pub sound_sides : (b : Bounds) (below : Below V) (f : Box (Fork V) Global) → IsSound b below → below ≡ Two f → IsSoundFork b f.value
  sound_sides b below f sound is = subst (IsSound b) is sound

  all_missed : (b outer : Bounds) (es : List (Entry V)) → (DoBoundsMeet outer b → ⊥) → AreWithin outer es → AllByRecursion (λ e. is_hit b e ≡ false) es
  all_missed b outer [] miss h = tt
  all_missed b outer (e ∷ es) miss h = (missed e.bounds outer b h.0 miss, all_missed b outer es miss h.1)

  pub none_met : (b outer : Bounds) (es : List (Entry V)) → AreWithin outer es → (DoBoundsMeet outer b → ⊥) → first_in_walk b es ≡ None
  none_met b outer es h miss = first_missed b es (all_missed b outer es miss h)

  pub no_hits : (b outer : Bounds) (es old : List (Entry V)) → AreWithin outer es → (DoBoundsMeet outer b → ⊥) → old ≡ old ++ filter (is_hit b) es
  no_hits b outer es old h miss = sym (ap (λ l. old ++ l) (hits_missed b es (all_missed b outer es miss h)) ∙ append-nil old)

  none_outside : (k : Key) (box outer : Bounds) (es : List (Entry V)) → AllByRecursion (λ e. has_key k e ≡ true → e.bounds ≡ box) es → AreWithin outer es → (IsWithin box outer → ⊥) → list_any (has_key k) es ≡ false
  none_outside k box outer [] spot h out = refl
  none_outside k box outer (e ∷ es) spot h out =
      ap (λ t. t || list_any (has_key k) es) (untrue (has_key k e) (λ q. out (subst (λ b. IsWithin b outer) (spot.0 q) h.0))) ∙ none_outside k box outer es spot.1 h.1 out

  pub absent_outside : (k : Key) (box outer : Bounds) (es : List (Entry V)) → IsSpot k box es → AreWithin outer es → (IsWithin box outer → ⊥) → IsAbsent k es
  absent_outside k box outer es spot h out = record { none = none_outside k box outer es spot.box h out }

  pub wider : (inner outer : Bounds) (es : List (Entry V)) → IsWithin inner outer → AreWithin inner es → AreWithin outer es
  wider inner outer [] i h = tt
  wider inner outer (e ∷ es) i h = (within_more e.bounds inner outer h.0 i, wider inner outer es i h.1)

  pub spot_low : (k : Key) (box : Bounds) (xs ys d : List (Entry V)) → d ≡ xs ++ ys → IsSpot k box d → IsSpot k box xs
  spot_low k box xs ys d e h = record { box = all_first (λ e. has_key k e ≡ true → e.bounds ≡ box) xs ys (subst (AllByRecursion (λ e. has_key k e ≡ true → e.bounds ≡ box)) e h.box) }

  pub spot_high : (k : Key) (box : Bounds) (xs ys d : List (Entry V)) → d ≡ xs ++ ys → IsSpot k box d → IsSpot k box ys
  spot_high k box xs ys d e h = record { box = all_second (λ e. has_key k e ≡ true → e.bounds ≡ box) xs ys (subst (AllByRecursion (λ e. has_key k e ≡ true → e.bounds ≡ box)) e h.box) }

  -- a part beside a new entry, in a box that holds both
  pub new_high : (b outer : Bounds) (p : ℕ) (e : Entry V) (old : List (Entry V)) → AreWithin b old → 1 ≤ length old → IsWithin b outer → IsWithin e.bounds outer
      → IsSoundFork outer (record { place = p; low = old; high = e ∷ [] })
  new_high b outer p e old h some i j = record { low = wider b outer old i h; high = (j, tt); some_low = some; some_high = omega arith }

  pub new_low : (b outer : Bounds) (p : ℕ) (e : Entry V) (old : List (Entry V)) → AreWithin b old → 1 ≤ length old → IsWithin b outer → IsWithin e.bounds outer
      → IsSoundFork outer (record { place = p; low = e ∷ []; high = old })
  new_low b outer p e old h some i j = record { low = (j, tt); high = wider b outer old i h; some_low = omega arith; some_high = some }

  -- an entry put in on one side, in a box that holds the old one and the entry
  pub into_high : (b outer : Bounds) (f : Fork V) (e : Entry V) (high : List (Entry V)) → IsSoundFork b f → IsWithin b outer → IsWithin e.bounds outer → IsInserted e f.high high
      → IsSoundFork outer (record f { high = high })
  into_high b outer f e high s i j h = record {
    low = wider b outer f.low i s.low;
    high = all_inserted (λ e. IsWithin e.bounds outer) h j (wider b outer f.high i s.high);
    some_low = s.some_low;
    some_high = some_inserted h;
  }

  pub into_low : (b outer : Bounds) (f : Fork V) (e : Entry V) (low : List (Entry V)) → IsSoundFork b f → IsWithin b outer → IsWithin e.bounds outer → IsInserted e f.low low
      → IsSoundFork outer (record f { low = low })
  into_low b outer f e low s i j h = record {
    low = all_inserted (λ e. IsWithin e.bounds outer) h j (wider b outer f.low i s.low);
    high = wider b outer f.high i s.high;
    some_low = some_inserted h;
    some_high = s.some_high;
  }
