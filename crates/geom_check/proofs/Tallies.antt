-- What has begun and not ended is what passes: after the events up to the lower height of a strip the order has each riser that
-- passes the strip once, and no other. Counted by sums: f over the order is f over the risers that pass.
use Rattle.std.proofs.Common.{◌≡◌, ℕ, zero, suc, ◌+◌, ◌<◌, ◌≤◌, Bool, true, false, cond, if◌then◌else◌, List, [], ◌∷◌, length, take, drop, filter, sum_by, slice_index_or, All, sym, ◌∙◌, ap, refl, arith, ◌⊎◌, inl, inr}
use lib.IntN.{ℤ, pos, ◌+ℤ◌, ◌-ℤ◌}
use lib.Signed.{◌<ℤ◌, ◌≤ℤ◌, le_z}
use Rattle.std.proofs.lemmas.Int.{ints}
use Rattle.std.proofs.lemmas.List.{take_all}
use Rattle.std.proofs.lemmas.List.Sums.{sum_by-cons, sum_by-take-drop, sum_by_more}
use Rattle.grid_geom.specs.Winding.{and}
use Rattle.grid_geom.specs.declared.TheConstants.{GRID}
use Rattle.geom_check.specs.declared.risers.Riser.{Riser}
use Rattle.geom_check.specs.declared.events.Event.{Event}
use Rattle.geom_check.specs.Risers.{passes}
use Rattle.geom_check.specs.RiserOrder.{IsClear}
use Rattle.geom_check.specs.Walk.{riser_at, AreEndsOf, sum_to, begun, ended, IsWalking, IsUpTo}

-- ---- sums
sum_same : {X : Type 0} (f g : X → ℕ) (xs : List X) → ((i : ℕ) (d : X) → i < length xs → f (slice_index_or xs i d) ≡ g (slice_index_or xs i d)) → sum_by f xs ≡ sum_by g xs
sum_same f g [] h = refl
sum_same f g (x ∷ xs) h = sum_by-cons f x xs ∙ both (h 0 x (omega arith)) (sum_same f g xs (λ i d k. h (suc i) d (omega arith))) ∙ sym (sum_by-cons g x xs)
  where
    both : {a b c d : ℕ} → a ≡ b → c ≡ d → a + c ≡ b + d
    both {a} {b} {c} {d} e f = omega arith

sum_taken : {X : Type 0} (f g : X → ℕ) (xs : List X) (n : ℕ) → ((i : ℕ) (d : X) → i < n → i < length xs → f (slice_index_or xs i d) ≡ g (slice_index_or xs i d)) → sum_by f (take n xs) ≡ sum_by g (take n xs)
sum_taken f g xs zero h = refl
sum_taken f g [] (suc n) h = refl
sum_taken f g (x ∷ xs) (suc n) h = sum_by-cons f x (take n xs) ∙ both (h 0 x (omega arith) (omega arith)) (sum_taken f g xs n (λ i d j k. h (suc i) d (omega arith) (omega arith))) ∙ sym (sum_by-cons g x (take n xs))
  where
    both : {a b c d : ℕ} → a ≡ b → c ≡ d → a + c ≡ b + d
    both {a} {b} {c} {d} e f = omega arith

sum_dropped : {X : Type 0} (f : X → ℕ) (xs : List X) (n : ℕ) → ((i : ℕ) (d : X) → n ≤ i → i < length xs → f (slice_index_or xs i d) ≡ 0) → sum_by f (drop n xs) ≡ 0
sum_dropped f [] zero h = refl
sum_dropped f [] (suc n) h = refl
sum_dropped f (x ∷ xs) zero h = sum_by-cons f x xs ∙ both (h 0 x (omega arith) (omega arith)) (sum_dropped f xs zero (λ i d j k. h (suc i) d (omega arith) (omega arith)))
  where
    both : {a b : ℕ} → a ≡ 0 → b ≡ 0 → a + b ≡ 0
    both {a} {b} e f = omega arith
sum_dropped f (x ∷ xs) (suc n) h = sum_dropped f xs n (λ i d j k. h (suc i) d (omega arith) (omega arith))

sum_zero : {X : Type 0} (xs : List X) → sum_by (λ x. 0) xs ≡ 0
sum_zero [] = refl
sum_zero (x ∷ xs) = sum_by-cons (λ x. 0) x xs ∙ none (sum_zero xs)
  where
    none : {n : ℕ} → n ≡ 0 → 0 + n ≡ 0
    none {n} e = omega arith

-- f over those that pass a test, and over those that don't
sum_parted : (test : ℕ → Bool) (f : ℕ → ℕ) (xs : List ℕ) → sum_by f xs ≡ sum_by (λ k. cond (test k) (f k) 0) xs + sum_by (λ k. cond (test k) 0 (f k)) xs
sum_parted test f [] = refl
sum_parted test f (x ∷ xs) = sum_by-cons f x xs ∙ parted (test x) (f x) _ _ _ _ _ (sum_parted test f xs) (sum_by-cons (λ k. cond (test k) (f k) 0) x xs) (sum_by-cons (λ k. cond (test k) 0 (f k)) x xs)
  where
    parted : (b : Bool) (n s g h t u : ℕ) → s ≡ g + h → t ≡ cond b n 0 + g → u ≡ cond b 0 n + h → n + s ≡ t + u
    parted true n s g h t u e f k = omega (arith, e, f, k)
    parted false n s g h t u e f k = omega (arith, e, f, k)

pub sum_filter : {X : Type 0} (p : X → Bool) (f : X → ℕ) (xs : List X) → sum_by f (filter p xs) ≡ sum_by (λ x. cond (p x) (f x) 0) xs
sum_filter p f [] = refl
sum_filter p f (x ∷ xs) = by (p x) (sum_filter p f xs) ∙ sym (sum_by-cons (λ x. cond (p x) (f x) 0) x xs)
  where
    none : (n : ℕ) → n ≡ 0 + n
    none n = omega arith

    by : (b : Bool) → sum_by f (filter p xs) ≡ sum_by (λ x. cond (p x) (f x) 0) xs → sum_by f (if b then x ∷ filter p xs else filter p xs) ≡ cond b (f x) 0 + sum_by (λ x. cond (p x) (f x) 0) xs
    by true e = sum_by-cons f x (filter p xs) ∙ ap (λ (n : ℕ). f x + n) e
    by false e = e ∙ none (sum_by (λ x. cond (p x) (f x) 0) xs)

-- over the places of a list and over the list
sum_places : (risers : List Riser) (f : Riser → ℕ) (n : ℕ) → n ≤ length risers → sum_to n (λ k. f (riser_at risers k)) ≡ sum_by f (take n risers)
sum_places risers f zero h = refl
sum_places risers f (suc n) h = ap (λ (m : ℕ). m + f (riser_at risers n)) (sum_places risers f n (omega arith)) ∙ sym (sum_by_more f risers n _ (omega (arith, h))) ∙ ap (λ (m : ℕ). sum_by f (take m risers)) (next n)
  where
    next : (n : ℕ) → n + 1 ≡ suc n
    next n = omega arith

pub sum_all : (risers : List Riser) (f : Riser → ℕ) → sum_to (length risers) (λ k. f (riser_at risers k)) ≡ sum_by f risers
sum_all risers f = sum_places risers f (length risers) (level (length risers)) ∙ ap (sum_by f) (take_all (length risers) risers (level (length risers)))
  where
    level : (n : ℕ) → n ≤ n
    level n = omega arith

-- ---- events up to a height and above it
-- a strip above a level
pub record IsAbove (low high : ℤ) (level : ℕ) (risers : List Riser) : Type 0 where
  pub ordered : low <ℤ high
  pub low_is : low ≡ pos level -ℤ GRID
  pub clear : All (IsClear low high) risers

end_below : (low : ℤ) (level n : ℕ) (y : ℤ) → low ≡ pos level -ℤ GRID → pos n ≡ y +ℤ GRID → n ≤ level → y ≤ℤ low
end_below low level n y e f h = omega (arith, ints, e, f, h)

end_above : (low : ℤ) (level n : ℕ) (y : ℤ) → low ≡ pos level -ℤ GRID → pos n ≡ y +ℤ GRID → level < n → low <ℤ y
end_above low level n y e f h = omega (arith, ints, e, f, h)

-- the four numbers of a strip and a riser, and whether the riser passes, whether it has ended
abbrev over_it : ℤ → ℤ → ℤ → ℤ → Bool
over_it a low high b = and (le_z a low) (le_z high b)

abbrev gone : ℤ → ℤ → Bool
gone low b = le_z b low

-- what ended doesn't pass
ended_none : (u : Bool) (a low high b y : ℤ) (n : ℕ) → low <ℤ high → y ≡ cond u b a → y ≤ℤ low → cond u (cond (over_it a low high b) n 0) 0 ≡ 0
ended_none true a low high b y n h e k = grind (arith, ints)
ended_none false a low high b y n h e k = refl

-- what has yet to begin doesn't pass
begun_none : (u : Bool) (a low high b y : ℤ) (n : ℕ) → y ≡ cond u b a → low <ℤ y → cond u 0 (cond (over_it a low high b) n 0) ≡ 0
begun_none true a low high b y n e k = refl
begun_none false a low high b y n e k = grind (arith, ints)

-- what has begun and doesn't pass has ended
begun_gone : (u : Bool) (a low high b y : ℤ) (n : ℕ) → low <ℤ high → (b ≤ℤ low) ⊎ (high ≤ℤ b) → y ≡ cond u b a → y ≤ℤ low → cond u 0 (cond (over_it a low high b) 0 n) ≡ cond u 0 (cond (gone low b) n 0)
begun_gone true a low high b y n h c e k = refl
begun_gone false a low high b y n h (inl c) e k = grind (arith, ints)
begun_gone false a low high b y n h (inr c) e k = grind (arith, ints)

ended_gone : (u : Bool) (a low high b y : ℤ) (n : ℕ) → low <ℤ high → y ≡ cond u b a → y ≤ℤ low → cond u (cond (gone low b) n 0) 0 ≡ cond u (cond (over_it a low high b) 0 n) 0
ended_gone true a low high b y n h e k = grind (arith, ints)
ended_gone false a low high b y n h e k = refl

-- what has yet to end isn't gone
ended_later : (u : Bool) (a low b y : ℤ) (n : ℕ) → y ≡ cond u b a → low <ℤ y → cond u (cond (gone low b) n 0) 0 ≡ 0
ended_later true a low b y n e k = grind (arith, ints)
ended_later false a low b y n e k = refl

-- ---- the order has each riser that passes once
abbrev does_pass_at : ℤ → ℤ → List Riser → ℕ → Bool
does_pass_at low high risers k = passes low high (riser_at risers k)

abbrev is_gone : ℤ → List Riser → ℕ → Bool
is_gone low risers k = le_z (riser_at risers k).b.y low

-- f of the risers that pass, of those that don't, of those that have ended
abbrev if_passing : ℤ → ℤ → List Riser → (ℕ → ℕ) → ℕ → ℕ
if_passing low high risers f k = cond (does_pass_at low high risers k) (f k) 0

abbrev unless_passing : ℤ → ℤ → List Riser → (ℕ → ℕ) → ℕ → ℕ
unless_passing low high risers f k = cond (does_pass_at low high risers k) 0 (f k)

abbrev if_gone : ℤ → List Riser → (ℕ → ℕ) → ℕ → ℕ
if_gone low risers f k = cond (is_gone low risers k) (f k) 0

-- the height of an event
abbrev height : List Riser → List Event → ℕ → Event → ℤ
height risers events i d = cond (slice_index_or events i d).is_upper (riser_at risers (slice_index_or events i d).id).b.y (riser_at risers (slice_index_or events i d).id).a.y

pub tally : (low high : ℤ) (risers : List Riser) (events : List Event) (next level : ℕ) (order : List ℕ) → IsAbove low high level risers → AreEndsOf risers (length risers) events → IsUpTo events next level → IsWalking risers events next order
    → (f : ℕ → ℕ) → sum_by f order ≡ sum_to (length risers) (λ k. cond (passes low high (riser_at risers k)) (f k) 0)
tally low high risers events next level order s ends up w f = sum_parted (does_pass_at low high risers) f order ∙ whole (passing_sum) (others_sum)
  where
    whole : {m n s : ℕ} → m ≡ s → n ≡ 0 → m + n ≡ s
    whole {m} {n} {s} e f = omega arith

    below : (i : ℕ) (d : Event) → i < next → i < length events → height risers events i d ≤ℤ low
    below i d h k = end_below low level (slice_index_or events i d).level (height risers events i d) s.low_is (ends.each i d k).end.level_is (up.reached i d h)

    above : (i : ℕ) (d : Event) → next ≤ i → i < length events → low <ℤ height risers events i d
    above i d h k = end_above low level (slice_index_or events i d).level (height risers events i d) s.low_is (ends.each i d k).end.level_is (up.beyond i d h k)

    split : {m a b t : ℕ} → a + b ≡ m → b ≡ 0 → m ≡ t → a ≡ t
    split {m} {a} {b} {t} e f g = omega arith

    taken : {o e b t : ℕ} → o + e ≡ b → e ≡ 0 → b ≡ t → o ≡ t
    taken {o} {e} {b} {t} p q r = omega arith

    passing_sum : sum_by (if_passing low high risers f) order ≡ sum_to (length risers) (if_passing low high risers f)
    passing_sum = taken (w.counted (if_passing low high risers f))
        (sum_taken (ended (if_passing low high risers f)) (λ e. 0) events next (λ i d h k. ended_none (slice_index_or events i d).is_upper _ low high _ (height risers events i d) _ s.ordered refl (below i d h k)) ∙ sum_zero (take next events))
        (split (sum_by-take-drop (begun (if_passing low high risers f)) events next)
        (sum_dropped (begun (if_passing low high risers f)) events next (λ i d h k. begun_none (slice_index_or events i d).is_upper _ low high _ (height risers events i d) _ refl (above i d h k)))
        (ends.begins (if_passing low high risers f)))

    none : (o e b g t u v : ℕ) → o + e ≡ b → b ≡ g → g + t ≡ u → u ≡ v → v ≡ e → o ≡ 0
    none o e b g t u v p q r h k = omega arith

    others_sum : sum_by (unless_passing low high risers f) order ≡ 0
    others_sum = none _ _ _ _ _ _ _ (w.counted (unless_passing low high risers f))
        (sum_taken (begun (unless_passing low high risers f)) (begun (if_gone low risers f)) events next (λ i d h k. begun_gone (slice_index_or events i d).is_upper _ low high _ (height risers events i d) _ s.ordered ((s.clear (slice_index_or events i d).id _ (ends.each i d k).in_list).b_clear) refl (below i d h k)))
        (sum_by-take-drop (begun (if_gone low risers f)) events next)
        (ends.begins (if_gone low risers f) ∙ sym (ends.ends (if_gone low risers f)))
        (sym (split (sum_by-take-drop (ended (if_gone low risers f)) events next) (sum_dropped (ended (if_gone low risers f)) events next (λ i d h k. ended_later (slice_index_or events i d).is_upper _ low _ (height risers events i d) _ refl (above i d h k))) refl)
        ∙ sum_taken (ended (if_gone low risers f)) (ended (unless_passing low high risers f)) events next (λ i d h k. ended_gone (slice_index_or events i d).is_upper _ low high _ (height risers events i d) _ s.ordered refl (below i d h k)))
