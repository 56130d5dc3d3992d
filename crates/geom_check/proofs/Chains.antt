-- A strip is sound where the risers that pass it, in the order of a list, agree each with the next: in it the winding number of
-- a domain is 1 in a gap with the domain on both sides, and else 0.
-- Stands on Tallies, Agreement and StripWinding.
use Rattle.std.proofs.Common.{◌≡◌, ◌≢◌, ℕ, zero, suc, ◌+◌, ◌-◌, ◌<◌, ◌≤◌, Bool, true, false, cond, List, [], ◌∷◌, length, map, filter, sum_by, slice_index, slice_index_or, All, AllPairs, Contains, inl, inr, sym, ◌∙◌, ap, subst, refl, arith}
use lib.IntN.{ℤ, ◌+ℤ◌}
use lib.Signed.{◌<ℤ◌}
use Rattle.std.proofs.lemmas.Int.{ints}
use Rattle.std.proofs.lemmas.Bool.{cases_lt}
use Rattle.std.proofs.lemmas.List.{get_or-map, length-map}
use Rattle.std.proofs.lemmas.List.Elements.{All-contains_itself}
use Rattle.std.proofs.lemmas.List.Sums.{sum_by-cons}
use Rattle.std.specs.List.Sorted.{IsStrictlyIncreasing}
use Rattle.geom_check.specs.declared.risers.Riser.{Riser}
use Rattle.geom_check.specs.declared.risers.Passing.{Passing}
use Rattle.geom_check.specs.declared.events.Event.{Event}
use Rattle.geom_check.specs.Risers.{passes}
use Rattle.geom_check.specs.RiserOrder.{IsAcross, IsFree, IsWest, IsPassing, IsKey, IsRiserOnGrid, IsClear, IsOrder, HasLevels, height_of}
use Rattle.geom_check.specs.Walk.{DoAgree, riser_at, AreIn, IsChain, AreEndsOf, IsWalking, IsUpTo, IsSoundFor, sum_to}
use Rattle.geom_check.proofs.Reordered.{two_of}
use Rattle.geom_check.proofs.Gathering.{free_back}
use Rattle.geom_check.proofs.RiserOrder.{across}
use Rattle.geom_check.proofs.KeyOrder.{keys_by_west}
use Rattle.geom_check.proofs.StripWinding.{passing_test, sound_strip}
use Rattle.geom_check.proofs.Levels.{rises_to, strip_ordered, clear_risers}
use Rattle.geom_check.proofs.Tallies.{IsAbove, sum_filter, sum_all, tally}
use Rattle.geom_check.proofs.Agreement.{west_at, keyed, keyed_key, IsLabelled, chain_sides}

-- an order of the risers that pass a strip, each two neighbours of which agree
pub record IsKept (low high : ℤ) (risers : List Riser) (order : List ℕ) : Type 0 where
  pub ordered : low <ℤ high
  pub clear : All (IsClear low high) risers
  pub grid : All IsRiserOnGrid risers
  pub free : AllPairs IsFree risers
  pub within : AreIn risers order
  pub counted : (f : ℕ → ℕ) → sum_by f order ≡ sum_to (length risers) (λ k. cond (passes low high (riser_at risers k)) (f k) 0)
  pub chain : IsChain risers order

-- ---- each riser of the order passes the strip
sum_none : (n : ℕ) (f : ℕ → ℕ) → ((k : ℕ) → f k ≡ 0) → sum_to n f ≡ 0
sum_none zero f h = refl
sum_none (suc n) f h = both (sum_none n f h) (h n)
  where
    both : {a b : ℕ} → a ≡ 0 → b ≡ 0 → a + b ≡ 0
    both {a} {b} e f = omega arith

each_none : (f : ℕ → ℕ) (xs : List ℕ) (i : ℕ) → sum_by f xs ≡ 0 → i < length xs → f (slice_index_or xs i 0) ≡ 0
each_none f [] i e h = absurd (omega arith)
each_none f (x ∷ xs) zero e h = let s = sum_by-cons f x xs in omega (arith, e, s)
each_none f (x ∷ xs) (suc i) e h = each_none f xs i (rest _ _ _ (sum_by-cons f x xs) e) (omega arith)
  where
    rest : (s m n : ℕ) → s ≡ m + n → s ≡ 0 → n ≡ 0
    rest s m n f g = omega arith

abbrev zero_if : Bool → ℕ
zero_if b = cond b 0 1

pub passing_at : (low high : ℤ) (risers : List Riser) (order : List ℕ) (i : ℕ) → IsKept low high risers order → i < length order → IsPassing low high (riser_at risers (slice_index_or order i 0))
passing_at low high risers order i k h = passing_test low high (riser_at risers (slice_index_or order i 0)) (does (passes low high (riser_at risers (slice_index_or order i 0)))
    (each_none (λ k. zero_if (passes low high (riser_at risers k))) order i (k.counted (λ k. zero_if (passes low high (riser_at risers k))) ∙ sum_none (length risers) _ (λ k. neither (passes low high (riser_at risers k)))) h))
  where
    does : (b : Bool) → zero_if b ≡ 0 → b ≡ true
    does true e = refl
    does false e = absurd (omega (arith, e))

    neither : (b : Bool) → cond b (zero_if b) 0 ≡ 0
    neither true = refl
    neither false = refl

in_list : (low high : ℤ) (risers : List Riser) (order : List ℕ) (i : ℕ) → IsKept low high risers order → i < length order → slice_index_or order i 0 < length risers
in_list low high risers order i k h = k.within i 0 h

across_at : (low high : ℤ) (risers : List Riser) (order : List ℕ) (i : ℕ) → IsKept low high risers order → i < length order → IsAcross (low +ℤ high) (riser_at risers (slice_index_or order i 0))
across_at low high risers order i k h = across low high (riser_at risers (slice_index_or order i 0)) k.ordered (passing_at low high risers order i k h)

-- ---- neighbours are in their order
free_at : (low high : ℤ) (risers : List Riser) (order : List ℕ) (i j : ℕ) → IsKept low high risers order → i < length order → j < length order → slice_index_or order i 0 ≢ slice_index_or order j 0
    → IsFree (riser_at risers (slice_index_or order i 0)) (riser_at risers (slice_index_or order j 0))
free_at low high risers order i j k h l n = two_of IsFree risers free_back k.free (slice_index_or order i 0) (slice_index_or order j 0) _ n (in_list low high risers order i k h) (in_list low high risers order j k l)

no_self : (r : Riser) → DoAgree r r → ⊥
no_self r g = level _ g.west
  where
    level : (z : ℤ) → z <ℤ z → ⊥
    level z h = omega (arith, ints)

west_next : (low high : ℤ) (risers : List Riser) (order : List ℕ) (i : ℕ) → IsKept low high risers order → 1 ≤ i → i < length order → IsWest (low +ℤ high) (riser_at risers (slice_index_or order (i - 1) 0)) (riser_at risers (slice_index_or order i 0))
west_next low high risers order i k h l =
    let g = k.chain.neighbours i h l in
    west_at (riser_at risers (slice_index_or order (i - 1) 0)) (riser_at risers (slice_index_or order i 0)) (low +ℤ high) g
    (free_at low high risers order (i - 1) i k (omega arith) l (λ e. no_self (riser_at risers (slice_index_or order i 0)) (subst (λ (n : ℕ). DoAgree (riser_at risers n) (riser_at risers (slice_index_or order i 0))) e g)))
    (across_at low high risers order (i - 1) k (omega arith)) (across_at low high risers order i k l)

abbrev key_at : ℤ → List Riser → List ℕ → ℕ → ℕ
key_at y risers order i = (keyed y (riser_at risers (slice_index_or order i 0))).key

key_is : (low high : ℤ) (risers : List Riser) (order : List ℕ) (i : ℕ) → IsKept low high risers order → i < length order → IsKey (low +ℤ high) (riser_at risers (slice_index_or order i 0)) (key_at (low +ℤ high) risers order i)
key_is low high risers order i k h = keyed_key low high (riser_at risers (slice_index_or order i 0)) k.ordered (k.grid (slice_index_or order i 0) _ (in_list low high risers order i k h)) (passing_at low high risers order i k h)

keys_rise : (low high : ℤ) (risers : List Riser) (order : List ℕ) (i j : ℕ) → IsKept low high risers order → i < j → j < length order → key_at (low +ℤ high) risers order i < key_at (low +ℤ high) risers order j
keys_rise low high risers order i zero k h l = absurd (omega arith)
keys_rise low high risers order i (suc j) k h l = elim (cases_lt i j) [
  | inl n ↦ let a = keys_rise low high risers order i j k n (omega arith) in omega (arith, a, step)
  | inr n ↦ let e : j ≡ i = omega arith in subst (λ (m : ℕ). key_at (low +ℤ high) risers order m < key_at (low +ℤ high) risers order (suc j)) e step
]
  where
    before : (j : ℕ) → suc j - 1 ≡ j
    before j = omega arith

    step : key_at (low +ℤ high) risers order j < key_at (low +ℤ high) risers order (suc j)
    step = keys_by_west (low +ℤ high) (riser_at risers (slice_index_or order j 0)) (riser_at risers (slice_index_or order (suc j) 0)) (key_at (low +ℤ high) risers order j) (key_at (low +ℤ high) risers order (suc j)) (key_is low high risers order j k (omega arith)) (key_is low high risers order (suc j) k l)
        (subst (λ (n : ℕ). IsWest (low +ℤ high) (riser_at risers (slice_index_or order n 0)) (riser_at risers (slice_index_or order (suc j) 0))) (before j) (west_next low high risers order (suc j) k (omega arith) l))

-- ---- nothing is left out
all_counted : (low high : ℤ) (risers : List Riser) (order : List ℕ) (f : Riser → ℕ) → IsKept low high risers order → sum_by (λ id. f (riser_at risers id)) order ≡ sum_by f (filter (passes low high) risers)
all_counted low high risers order f k = k.counted (λ id. f (riser_at risers id)) ∙ sum_all risers (λ r. cond (passes low high r) (f r) 0) ∙ sym (sum_filter (passes low high) f risers)

-- ---- the order, with keys
abbrev items_of : ℤ → List Riser → List ℕ → List Passing
items_of y risers order = map (λ id. keyed y (riser_at risers id)) order

sum_items : (y : ℤ) (risers : List Riser) (f : Riser → ℕ) (order : List ℕ) → sum_by (λ p. f p.riser) (items_of y risers order) ≡ sum_by (λ id. f (riser_at risers id)) order
sum_items y risers f [] = refl
sum_items y risers f (x ∷ xs) = sum_by-cons (λ p. f p.riser) (keyed y (riser_at risers x)) (items_of y risers xs) ∙ ap (λ (n : ℕ). f (riser_at risers x) + n) (sum_items y risers f xs) ∙ sym (sum_by-cons (λ id. f (riser_at risers id)) x xs)

pub order_kept : (low high : ℤ) (risers : List Riser) (order : List ℕ) → IsKept low high risers order → IsOrder low high risers (items_of (low +ℤ high) risers order)
order_kept low high risers order k = record {
  passing = λ i d h. subst (λ (p : Passing). IsPassing low high p.riser) (sym (at i d h)) (passing_at low high risers order i k (short i h));
  keys = λ i d h. subst (λ (p : Passing). IsKey (low +ℤ high) p.riser p.key) (sym (at i d h)) (key_is low high risers order i k (short i h));
  rising = λ i j d h l. subst (λ (p : Passing). p.key ≤ (slice_index_or (items_of (low +ℤ high) risers order) j d).key) (sym (at i d (omega (arith, h, l)))) (subst (λ (p : Passing). key_at (low +ℤ high) risers order i ≤ p.key) (sym (at j d l)) (weak i j h (short j l)));
  free = λ i j d h l. subst (λ (p : Passing). IsFree p.riser (slice_index_or (items_of (low +ℤ high) risers order) j d).riser) (sym (at i d (omega (arith, h, l))))
      (subst (λ (p : Passing). IsFree (riser_at risers (slice_index_or order i 0)) p.riser) (sym (at j d l)) (free_at low high risers order i j k (omega (arith, h, short j l)) (short j l) (different i j h (short j l))));
  among = λ i d h. subst (λ (p : Passing). Contains risers p.riser) (sym (at i d h)) (All-contains_itself risers (slice_index_or order i 0) _ (in_list low high risers order i k (short i h)));
  same = λ f. sum_items (low +ℤ high) risers f order ∙ all_counted low high risers order f k;
}
  where
    y : ℤ
    y = low +ℤ high

    long : length (items_of (low +ℤ high) risers order) ≡ length order
    long = length-map order (λ id. keyed (low +ℤ high) (riser_at risers id))

    short : (i : ℕ) → i < length (items_of (low +ℤ high) risers order) → i < length order
    short i h = omega (arith, h, long)

    at : (i : ℕ) (d : Passing) → i < length (items_of (low +ℤ high) risers order) → slice_index_or (items_of (low +ℤ high) risers order) i d ≡ keyed (low +ℤ high) (riser_at risers (slice_index_or order i 0))
    at i d h = get_or-map (λ id. keyed (low +ℤ high) (riser_at risers id)) order i 0 d (short i h)

    weak : (i j : ℕ) → i ≤ j → j < length order → key_at (low +ℤ high) risers order i ≤ key_at (low +ℤ high) risers order j
    weak i j h l = elim (cases_lt i j) [
      | inl n ↦ let a = keys_rise low high risers order i j k n l in omega (arith, a)
      | inr n ↦ let e : i ≡ j = omega arith in subst (λ (m : ℕ). key_at (low +ℤ high) risers order i ≤ key_at (low +ℤ high) risers order m) e (level (key_at (low +ℤ high) risers order i))
    ]
      where
        level : (n : ℕ) → n ≤ n
        level n = omega arith

    different : (i j : ℕ) → i < j → j < length order → slice_index_or order i 0 ≢ slice_index_or order j 0
    different i j h l e = let a = keys_rise low high risers order i j k h l in let f = ap (λ (n : ℕ). (keyed (low +ℤ high) (riser_at risers n)).key) e in clash (key_at (low +ℤ high) risers order i) (key_at (low +ℤ high) risers order j) a f
      where
        clash : (m n : ℕ) → m < n → m ≡ n → ⊥
        clash m n h e = omega arith

labelled : (risers : List Riser) (y : ℤ) (label : ℕ) (order : List ℕ) → (0 < length order → label ≡ (riser_at risers (slice_index_or order 0 0)).west)
    → ((i : ℕ) → 1 ≤ i → i < length order → (riser_at risers (slice_index_or order (i - 1) 0)).east ≡ (riser_at risers (slice_index_or order i 0)).west) → IsLabelled label (items_of y risers order)
labelled risers y label [] f n = tt
labelled risers y label (x ∷ xs) f n = (f (omega arith), labelled risers y (riser_at risers x).east xs (λ h. n 1 (omega arith) (omega (arith, h))) next)
  where
    next : (i : ℕ) → 1 ≤ i → i < length xs → (riser_at risers (slice_index_or xs (i - 1) 0)).east ≡ (riser_at risers (slice_index_or xs i 0)).west
    next zero h l = absurd (omega arith)
    next (suc m) h l = subst (λ (k : ℕ). (riser_at risers k).east ≡ (riser_at risers (slice_index_or xs (suc m) 0)).west) (ap (λ (k : ℕ). slice_index_or (x ∷ xs) k 0) (lower m) ∙ ap (λ (k : ℕ). slice_index_or xs k 0) (before m)) (n (suc (suc m)) (omega arith) (omega (arith, l)))
      where
        lower : (m : ℕ) → suc (suc m) - 1 ≡ suc m
        lower m = omega arith

        before : (m : ℕ) → m ≡ suc m - 1
        before m = omega arith

-- ---- so the strip is sound, whatever domains are chosen
pub kept_sound : (low high : ℤ) (risers : List Riser) (order : List ℕ) → IsKept low high risers order → IsSoundFor risers low high
kept_sound low high risers order k chosen none balance = sound_strip low high chosen risers (items_of (low +ℤ high) risers order) k.ordered k.clear (order_kept low high risers order k) balance
    (λ i h. chain_sides chosen (items_of (low +ℤ high) risers order) i none (labelled risers (low +ℤ high) 0 order (λ l. sym (k.chain.first l)) (λ j l m. (k.chain.neighbours j l m).label)))

-- the order of the walk at a strip
pub kept_by : (low high : ℤ) (risers : List Riser) (events : List Event) (next level : ℕ) (order : List ℕ) → IsAbove low high level risers → All IsRiserOnGrid risers → AllPairs IsFree risers → AreEndsOf risers (length risers) events → IsUpTo events next level
    → IsWalking risers events next order → IsChain risers order → IsKept low high risers order
kept_by low high risers events next level order s grid free ends up w chain = record {
  ordered = s.ordered;
  clear = s.clear;
  grid = grid;
  free = free;
  within = w.within;
  counted = tally low high risers events next level order s ends up w;
  chain = chain;
}

-- ---- from strip to strip
-- what is given of the risers, and the ends of all of them
pub record AreWalked (levels : List ℕ) (risers : List Riser) (events : List Event) : Type 0 where
  pub increasing : IsStrictlyIncreasing levels
  pub levels_of : All (HasLevels levels) risers
  pub grid : All IsRiserOnGrid risers
  pub free : AllPairs IsFree risers
  pub ends : AreEndsOf risers (length risers) events

pub walk_sound : (levels : List ℕ) (risers : List Riser) (events : List Event) (i next : ℕ) (order : List ℕ) → AreWalked levels risers events → 1 ≤ i → i < length levels → IsUpTo events next (slice_index levels (i - 1)) → IsWalking risers events next order → IsChain risers order
    → ((k : ℕ) → 1 ≤ k → k < i → IsSoundFor risers (height_of levels (k - 1)) (height_of levels k)) → (k : ℕ) → 1 ≤ k → k < i + 1 → IsSoundFor risers (height_of levels (k - 1)) (height_of levels k)
walk_sound levels risers events i next order g h l up w chain below k j m = elim (cases_lt k i) [
  | inl n ↦ below k j n
  | inr n ↦ let e : i ≡ k = omega arith in subst (λ (n : ℕ). IsSoundFor risers (height_of levels (n - 1)) (height_of levels n)) e here
]
  where
    here : IsSoundFor risers (height_of levels (i - 1)) (height_of levels i)
    here = kept_sound (height_of levels (i - 1)) (height_of levels i) risers order (kept_by (height_of levels (i - 1)) (height_of levels i) risers events next (slice_index levels (i - 1)) order
        (record { ordered = strip_ordered levels i g.increasing h l; low_is = refl; clear = clear_risers levels i risers g.increasing h l g.levels_of }) g.grid g.free g.ends up w chain)

pub next_level : (levels : List ℕ) (events : List Event) (i next : ℕ) → IsStrictlyIncreasing levels → IsUpTo events next (slice_index levels (i - 1)) → (k : ℕ) (d : Event) → k < next → i + 1 < length levels → (slice_index_or events k d).level ≤ slice_index levels (i + 1 - 1)
next_level levels events i next up u k d h l = let a = u.reached k d h in let b = rises_to levels (i - 1) (i + 1 - 1) up (omega arith) (omega (arith, l)) in omega (arith, a, b)
