-- A branch takes a source: at its own place, or on one of its sides.
use Rattle.std.proofs.Common.{◌≡◌, ℕ, ◌+◌, ◌≤◌, ◌*◌, ◌/◌, min, List, [], ◌∷◌, ◌++◌, refl, sym, ap, ◌∙◌, subst, arith}
use Rattle.std.specs.List.{AllByRecursion}
use Rattle.grid_geom.specs.declared.Point.{Point}
use Rattle.grid_geom.specs.declared.Bounds.{Bounds}
use Rattle.geom_check.specs.declared.kinds.Source.{Source}
use Rattle.size_field.specs.declared.tree.Branch.{Branch}
use Rattle.size_field.specs.declared.TheConstants.{GRADING_UNIT}
use Rattle.size_field.specs.Size.{reach, least_size, size_from}
use Rattle.size_field.specs.Boxes.{IsHeldBy, IsInBounds, IsBoxOnGrid}
use Rattle.size_field.specs.Tree.{sources_of, IsAdded, IsSoundBranch}
use Rattle.size_field.proofs.LeastSizes.{swapped, least_min, least_append}

all_append : (P : Source → Type 0) (xs ys : List Source) → AllByRecursion P xs → AllByRecursion P ys → AllByRecursion P (xs ++ ys)
all_append P [] ys h k = k
all_append P (x ∷ xs) ys h k = (h.0, all_append P xs ys h.1 k)

all_first : (P : Source → Type 0) (xs ys : List Source) → AllByRecursion P (xs ++ ys) → AllByRecursion P xs
all_first P [] ys h = tt
all_first P (x ∷ xs) ys h = (h.0, all_first P xs ys h.1)

all_second : (P : Source → Type 0) (xs ys : List Source) → AllByRecursion P (xs ++ ys) → AllByRecursion P ys
all_second P [] ys h = h
all_second P (x ∷ xs) ys h = all_second P xs ys h.1

pub all_map : (P Q : Source → Type 0) → ((s : Source) → P s → Q s) → (xs : List Source) → AllByRecursion P xs → AllByRecursion Q xs
all_map P Q f [] h = tt
all_map P Q f (x ∷ xs) h = (f x h.0, all_map P Q f xs h.1)

-- after a source was taken, before box and least size are made to hold it
pub record HasTaken (s : Source) (old new : Branch) : Type 0 where
  pub bounds : new.bounds ≡ old.bounds
  pub least : new.least ≡ old.least
  pub added : IsAdded s (sources_of old) (sources_of new)

-- of two sources at one place the lesser size counts
lesser : (a b more : ℕ) → min a b + more ≡ min (a + more) (b + more)
lesser a b more = omega arith

both : (n a b m : ℕ) → m ≡ min a b → min n m ≡ min (min n b) a
both n a b m e = omega (arith, e)

pub taken_here : (s : Source) (b : Branch) → b.here.at ≡ s.at → HasTaken s b (record b { here = record { at = b.here.at; h = min b.here.h s.h } })
taken_here s b same = record {
  bounds = refl;
  least = refl;
  added = record {
    alike = λ g q n. ap (λ (m : ℕ). least_size g q m (b.low ++ b.high))
        (both n (size_from g q b.here) (size_from g q s) _ (lesser b.here.h s.h (g * reach q b.here.at / GRADING_UNIT) ∙ ap (λ (p : Point). min (size_from g q b.here) (s.h + g * reach q p / GRADING_UNIT)) same));
    held = λ box least h. (record { place = h.1.0.place; size = omega (arith, h.0.size, h.1.0.size); small = omega (arith, h.0.small, h.1.0.small) }, h.1.1);
  };
}

-- on the low side
pub taken_low : (s : Source) (b : Branch) (low : List Source) → IsAdded s b.low low → HasTaken s b (record b { low = low })
taken_low s b low added = record {
  bounds = refl;
  least = refl;
  added = record {
    alike = λ g q n.
        least_append g q (min n (size_from g q b.here)) low b.high
        ∙ ap (λ (m : ℕ). least_size g q m b.high) (added.alike g q (min n (size_from g q b.here)) ∙ ap (λ (m : ℕ). least_size g q m b.low) (swapped n (size_from g q b.here) (size_from g q s)))
        ∙ sym (least_append g q (min (min n (size_from g q s)) (size_from g q b.here)) b.low b.high);
    held = λ box least h. (
      h.1.0,
      all_append (IsHeldBy box least) low b.high
          (added.held box least (h.0, all_first (IsHeldBy box least) b.low b.high h.1.1)) (all_second (IsHeldBy box least) b.low b.high h.1.1),
    );
  };
}

-- on the high side
pub taken_high : (s : Source) (b : Branch) (high : List Source) → IsAdded s b.high high → HasTaken s b (record b { high = high })
taken_high s b high added = record {
  bounds = refl;
  least = refl;
  added = record {
    alike = λ g q n.
        least_append g q (min n (size_from g q b.here)) b.low high
        ∙ added.alike g q (least_size g q (min n (size_from g q b.here)) b.low)
        ∙ ap (λ (m : ℕ). least_size g q m b.high) (sym (least_min g q (size_from g q s) (min n (size_from g q b.here)) b.low) ∙ ap (λ (m : ℕ). least_size g q m b.low) (swapped n (size_from g q b.here) (size_from g q s)))
        ∙ sym (least_append g q (min (min n (size_from g q s)) (size_from g q b.here)) b.low b.high);
    held = λ box least h. (
      h.1.0,
      all_append (IsHeldBy box least) b.low high
          (all_first (IsHeldBy box least) b.low b.high h.1.1) (added.held box least (h.0, all_second (IsHeldBy box least) b.low b.high h.1.1)),
    );
  };
}

-- what a larger box and a lesser least size hold
wider : (b box : Bounds) (m least : ℕ) → ((p : Point) → IsInBounds b p → IsInBounds box p) → least ≤ m → (s : Source) → IsHeldBy b m s → IsHeldBy box least s
wider b box m least keeps h s held = record { place = keeps s.at held.place; size = omega (arith, h, held.size); small = held.small }

-- box and least size made to hold the source that was taken
pub sound_again : (s : Source) (old new : Branch) (box : Bounds) → IsSoundBranch old → HasTaken s old new → IsBoxOnGrid box → ((p : Point) → IsInBounds old.bounds p → IsInBounds box p) → IsHeldBy box (min old.least s.h) s →
    (least : ℕ) → least ≡ min new.least s.h → IsSoundBranch (record new { bounds = box; least = least })
sound_again s old new box sound taken on_grid keeps holds least is = record { on_grid = on_grid; held = subst (λ (m : ℕ). AllByRecursion (IsHeldBy box m) (sources_of new)) (sym (is ∙ ap (λ (m : ℕ). min m s.h) taken.least)) held }
  where
    held : AllByRecursion (IsHeldBy box (min old.least s.h)) (sources_of new)
    held = taken.added.held box (min old.least s.h) (holds, all_map (IsHeldBy old.bounds old.least) (IsHeldBy box (min old.least s.h)) (wider old.bounds box old.least (min old.least s.h) keeps (omega arith)) (sources_of old) sound.held)
