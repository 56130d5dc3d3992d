-- What taking an entry out of one of two sides leaves.
use native.Mathlib.Omega.{arith}
use Rattle.std.specs.Prelude.{◌≡◌, ◌≤◌, Bool, true, false, List, [], ◌∷◌, ◌++◌, length, refl}
use Rattle.std.proofs.Common.{ap, sym, ◌∙◌, subst, append-nil}
use Rattle.grid_geom.specs.declared.Bounds.{Bounds}
use Rattle.digital_tree.specs.declared.Key.{Key}
use Rattle.digital_tree.specs.declared.Entry.{Entry}
use Rattle.digital_tree.specs.declared.part.Fork.{Fork}
use Rattle.digital_tree.specs.Boxes.{IsWithin}
use Rattle.digital_tree.specs.Entries.{IsRemoved, IsAbsent, IsSpot}
use Rattle.digital_tree.specs.declared.part.Below.{Below}
use Rattle.digital_tree.specs.declared.part.Below.TheVariants.{One}
use Rattle.digital_tree.specs.Part.{entries_in, AreWithin, IsSoundFork}
use Rattle.digital_tree.proofs.Lists.{all_left, inserted_last, absent_append, removed_first, removed_second}
use Rattle.digital_tree.proofs.Parts.{spot_low, spot_high}

module _ {V : Type 0} where
  -- the entry with key k and its box is gone from the sides of f, which are those of g now, or it wasn't there
  pub record IsTaken (k : Key) (box : Bounds) (f g : Fork V) (was_here : Bool) : Type 0 where
    pub removed : was_here ≡ true → IsRemoved k (f.low ++ f.high) (g.low ++ g.high)
    pub absent : was_here ≡ false → IsSpot k box (f.low ++ f.high) → IsAbsent k (f.low ++ f.high)
    pub low : (b : Bounds) → AreWithin b f.low → AreWithin b g.low
    pub high : (b : Bounds) → AreWithin b f.high → AreWithin b g.high

  less_within : (b : Bounds) (k : Key) (old new : List (Entry V)) → IsRemoved k old new → AreWithin b old → AreWithin b new
  less_within b k old new r h = all_left (λ e. IsWithin e.bounds b) r.gone h

  pub taken_low : (k : Key) (box : Bounds) (f : Fork V) (low : List (Entry V)) → IsRemoved k f.low low → IsTaken k box f (record f { low = low }) true
  taken_low k box f low r = record {
    removed = λ e. removed_first f.high r;
    absent = λ e. absurd cc;
    low = λ b h. less_within b k f.low low r h;
    high = λ b h. h;
  }

  pub taken_high : (k : Key) (box : Bounds) (f : Fork V) (high : List (Entry V)) (here : Bool) → (IsSpot k box f.low → IsAbsent k f.low)
      → (here ≡ true → IsRemoved k f.high high) → (here ≡ false → IsSpot k box f.high → IsAbsent k f.high) → (here ≡ false → high ≡ f.high)
      → IsTaken k box f (record f { high = high }) here
  taken_high k box f high true missing r a s = record {
    removed = λ e. removed_second f.low (r refl);
    absent = λ e. absurd cc;
    low = λ b h. h;
    high = λ b h. less_within b k f.high high (r refl) h;
  }
  taken_high k box f high false missing r a s = record {
    removed = λ e. absurd cc;
    absent = λ e spot. absent_append k f.low f.high (missing (spot_low k box f.low f.high _ refl spot)) (a refl (spot_high k box f.low f.high _ refl spot));
    low = λ b h. h;
    high = λ b h. subst (AreWithin b) (sym (s refl)) h;
  }

  some_of : (es : List (Entry V)) → (es ≡ [] → ⊥) → 1 ≤ length es
  some_of [] h = absurd (h refl)
  some_of (e ∷ es) h = omega arith

  -- with entries left on both sides they are sound
  pub sound_taken : (k : Key) (box b : Bounds) (f g : Fork V) (was_here : Bool) → IsSoundFork b f → IsTaken k box f g was_here → (g.low ≡ [] → ⊥) → (g.high ≡ [] → ⊥) → IsSoundFork b g
  sound_taken k box b f g was_here s t l h = record { low = t.low b s.low; high = t.high b s.high; some_low = some_of g.low l; some_high = some_of g.high h }

  -- with none left on one side the other is what is left
  pub high_left : (k : Key) (box : Bounds) (f g : Fork V) (was_here : Bool) (d : List (Entry V)) → d ≡ f.low ++ f.high → IsTaken k box f g was_here → g.low ≡ [] → was_here ≡ true → IsRemoved k d g.high
  high_left k box f g was_here d e t l h = rw e (subst (λ low. IsRemoved k (f.low ++ f.high) (low ++ g.high)) l (t.removed h))

  pub low_left : (k : Key) (box : Bounds) (f g : Fork V) (was_here : Bool) (d : List (Entry V)) → d ≡ f.low ++ f.high → IsTaken k box f g was_here → g.high ≡ [] → was_here ≡ true → IsRemoved k d g.low
  low_left k box f g was_here d e t l h = rw e (subst (IsRemoved k (f.low ++ f.high)) (append-nil g.low) (subst (λ high. IsRemoved k (f.low ++ f.high) (g.low ++ high)) l (t.removed h)))

  -- a part of one entry without it
  pub one_left : (k : Key) (b : Bounds) (below : Below V) (key : Key) (value : V) (d : List (Entry V)) → entries_in b below ≡ d → below ≡ One key value → key.slot ≡ k.slot → IsRemoved k d []
  one_left k b below key value d view_is is same = record {
    entry = record { key = key; bounds = b; value = value };
    key = ap (λ s. record { slot = s }) same;
    gone = inserted_last _ [] d (sym view_is ∙ ap (entries_in b) is);
  }
