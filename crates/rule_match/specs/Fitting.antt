-- Which first points of an assignment, in the order of mapping, may still become a candidate: they are different, and each test whose points are all known is met.
--
-- Tie           a test of some of a rule's points, told by their positions in the order of mapping
-- known         the numbers at some positions, where all are known
-- is_met        the test is met, as far as its points are known
-- fits_so_far   the points are different, and each test is met
-- in_order      an assignment in the order of mapping; IsOrder, that an order has each of the rule's points once
-- renumbered    tests by positions in the order of mapping
-- DoesFit       a whole assignment in the rule's order is of different points and meets each test
use Rattle.std.specs.Prelude.{ℕ, Bool, true, not, ◌&&◌, nat_eq, List, [], ◌∷◌, Option, None, Some, map, slice_get, slice_index_or, length, ◌<◌, ◌≡◌}
use Rattle.std.specs.Option.{option_map_or}
use Rattle.std.specs.List.{list_any, list_all, AllByRecursion}

-- a test of some of a rule's points, told by their positions in the order of mapping
pub record Tie : Type 0 where
  pub at : List ℕ
  pub test : List ℕ → Bool

abbrev pub both_known : Option ℕ → Option (List ℕ) → Option (List ℕ)
both_known None o = None
both_known (Some n) None = None
both_known (Some n) (Some ns) = Some (n ∷ ns)

-- the numbers at the positions, where all are known
abbrev pub known : List ℕ → List ℕ → Option (List ℕ)
known b [] = Some []
known b (i ∷ is) = both_known (slice_get b i) (known b is)

-- the test is met, or some of its points isn't known yet
abbrev pub is_met : List ℕ → Tie → Bool
is_met b tie = option_map_or tie.test (known b tie.at) true

abbrev pub are_different : List ℕ → Bool
are_different [] = true
are_different (p ∷ ps) = not (list_any (nat_eq p) ps) && are_different ps

abbrev pub fits_so_far : List Tie → List ℕ → Bool
fits_so_far ties b = are_different b && list_all (is_met b) ties

-- the assignment in the order of mapping, and back
abbrev pub in_order : List ℕ → List ℕ → List ℕ
in_order plan a = map (λ k. slice_index_or a k 0) plan

-- plan lists the n points of a rule in the order of mapping, and places says where each stands there
pub record IsOrder (plan places : List ℕ) (n : ℕ) : Type 0 where
  pub plan_counted : length plan ≡ n
  pub places_counted : length places ≡ n
  pub within : (k : ℕ) → k < n → slice_index_or places k 0 < n
  pub back : (k : ℕ) → k < n → slice_index_or plan (slice_index_or places k 0) 0 ≡ k
  pub plan_within : (p : ℕ) → p < n → slice_index_or plan p 0 < n
  pub forth : (p : ℕ) → p < n → slice_index_or places (slice_index_or plan p 0) 0 ≡ p

-- the tests with their points as places in the order of mapping
abbrev pub renumbered : List ℕ → List Tie → List Tie
renumbered places ties = map (λ tie. record {
  at = map (λ k. slice_index_or places k 0) tie.at;
  test = tie.test;
}) ties

-- an assignment in the rule's order has different points and meets each test
pub record DoesFit (ties : List Tie) (a : List ℕ) : Type 0 where
  pub different : are_different a ≡ true
  pub known : AllByRecursion (λ tie. AllByRecursion (λ k. k < length a) tie.at) ties
  pub met : list_all (is_met a) ties ≡ true
