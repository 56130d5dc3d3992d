-- How often sides stand in lists: in parts of lists, in lists of turns, in sorted lists.
use Rattle.std.proofs.Common.{◌≡◌, ◌≢◌, ◌⊎◌, ℕ, zero, suc, ◌+◌, ◌-◌, ◌<◌, ◌≤◌, nat_eq, Bool, true, false, ◌&&◌, not, cond, List, [], ◌∷◌, ◌++◌, length, map, take, drop, slice_index_or, inl, inr, refl, sym, ◌∙◌, ap, subst, arith, Ordering}
use lib.IntN.{ℤ, pos, ◌-ℤ◌}
use Rattle.std.proofs.lemmas.Int.{ints}
use Rattle.std.proofs.lemmas.Bool.{cases_lt, cases_order}
use Rattle.std.proofs.lemmas.Cmp.{then_total, on_total, nat_cmp_total}
use Rattle.std.proofs.lemmas.List.{get_or_default, at_drop_more, get_or-drop, length-drop}
use Rattle.std.proofs.lemmas.List.Recursion.{is_sum_by}
use Rattle.std.proofs.lemmas.List.Sorted.{sorted_far, ranks_by, sum_by-IsPermutation}
use Rattle.std.specs.List.{sum_by}
use Rattle.std.specs.List.Sorted.{IsPermutation}
use Rattle.std.specs.Cmp.{IsTotalOrder}
use Rattle.std.specs.Ordering.{is_lt, nat_cmp, ordering_then}
use Rattle.mesh_check.specs.declared.sides.Side.{Side}
use Rattle.mesh_check.specs.Balance.{turned, same_side, side_count, net_of, IsUpto, AreAscending, IsFirstDifference, IsLeastDifference}

-- ---- one side
same_parts : (s t : Side) → s.domain ≡ t.domain → s.from ≡ t.from → s.to ≡ t.to → s ≡ t
same_parts s t e f g = ap (λ (n : ℕ). record { domain = n; from = s.from; to = s.to }) e ∙ ap (λ (n : ℕ). record { domain = t.domain; from = n; to = s.to }) f ∙ ap (λ (n : ℕ). record { domain = t.domain; from = t.from; to = n }) g

tested : (a b c d e f : ℕ) → (nat_eq a b && (nat_eq c d && nat_eq e f)) ≡ true → (a ≡ b) × (c ≡ d) × (e ≡ f)
tested a b c d e f h = (grind arith, grind arith, grind arith)

test_same : (a c e : ℕ) → (nat_eq a a && (nat_eq c c && nat_eq e e)) ≡ true
test_same a c e = grind arith

pub same_sound : (s t : Side) → same_side s t ≡ true → s ≡ t
same_sound s t h = let e = tested s.domain t.domain s.from t.from s.to t.to h in same_parts s t e.0 e.1 e.2

pub same_itself : (s : Side) → same_side s s ≡ true
same_itself s = test_same s.domain s.from s.to

-- ---- the order
upto_least : (s t : Side) → (t.domain < s.domain) ⊎ ((t.domain ≡ s.domain) × ((t.from < s.from) ⊎ ((t.from ≡ s.from) × (t.to < s.to)))) → IsUpto s t → ⊥
upto_least s t (inl h) (inl k) = omega arith
upto_least s t (inl h) (inr k) = omega (arith, k.0)
upto_least s t (inr h) (inl k) = omega (arith, h.0)
upto_least s t (inr (e, inl h)) (inr (f, inl k)) = omega arith
upto_least s t (inr (e, inl h)) (inr (f, inr k)) = omega (arith, k.0)
upto_least s t (inr (e, inr h)) (inr (f, inl k)) = omega (arith, h.0)
upto_least s t (inr (e, inr h)) (inr (f, inr k)) = omega (arith, h.1, k.1)

pub upto_or : (s t : Side) → IsUpto s t ⊎ ((t.domain < s.domain) ⊎ ((t.domain ≡ s.domain) × ((t.from < s.from) ⊎ ((t.from ≡ s.from) × (t.to < s.to)))))
upto_or s t = elim (cases_order s.domain t.domain) [
  | inr r ↦ elim r [ inl l ↦ inl (inl l) | inr l ↦ inr (inl l) ]
  | inl e ↦ elim (cases_order s.from t.from) [
    | inr r ↦ elim r [ inl l ↦ inl (inr (e, inl l)) | inr l ↦ inr (inr (sym e, inl l)) ]
    | inl f ↦ elim (cases_lt t.to s.to) [ inl l ↦ inr (inr (sym e, inr (sym f, l))) | inr l ↦ inl (inr (e, inr (f, l))) ]
  ]
]

pub upto_both : (s t u : Side) → IsUpto s t → IsUpto t u → IsUpto s u
upto_both s t u (inl h) (inl k) = inl (omega arith)
upto_both s t u (inl h) (inr k) = inl (omega (arith, k.0))
upto_both s t u (inr h) (inl k) = inl (omega (arith, h.0))
upto_both s t u (inr (e, inl h)) (inr (f, inl k)) = inr (e ∙ f, inl (omega arith))
upto_both s t u (inr (e, inl h)) (inr (f, inr k)) = inr (e ∙ f, inl (omega (arith, k.0)))
upto_both s t u (inr (e, inr h)) (inr (f, inl k)) = inr (e ∙ f, inl (omega (arith, h.0)))
upto_both s t u (inr (e, inr h)) (inr (f, inr k)) = inr (e ∙ f, inr (h.0 ∙ k.0, omega (arith, h.1, k.1)))

pub upto_twice : (s t : Side) → IsUpto s t → IsUpto t s → s ≡ t
upto_twice s t (inl h) (inl k) = absurd (omega arith)
upto_twice s t (inl h) (inr k) = absurd (omega (arith, k.0))
upto_twice s t (inr h) (inl k) = absurd (omega (arith, h.0))
upto_twice s t (inr (e, inl h)) (inr (f, inl k)) = absurd (omega arith)
upto_twice s t (inr (e, inl h)) (inr (f, inr k)) = absurd (omega (arith, k.0))
upto_twice s t (inr (e, inr h)) (inr (f, inl k)) = absurd (omega (arith, h.0))
upto_twice s t (inr (e, inr h)) (inr (f, inr k)) = same_parts s t e h.0 (omega (arith, h.1, k.1))

-- ---- what a sort leaves
abbrev pub by_side : Side → Side → Ordering
by_side s t = ordering_then (nat_cmp s.domain t.domain) (ordering_then (nat_cmp s.from t.from) (nat_cmp s.to t.to))

by_side_total : IsTotalOrder by_side
by_side_total = then_total (on_total (λ (s : Side). s.domain) nat_cmp_total) (then_total (on_total (λ (s : Side). s.from) nat_cmp_total) (on_total (λ (s : Side). s.to) nat_cmp_total))

not_less : (a b c d e f : ℕ) → is_lt (ordering_then (nat_cmp d a) (ordering_then (nat_cmp e b) (nat_cmp f c))) ≡ false → (a < d) ⊎ ((a ≡ d) × ((b < e) ⊎ ((b ≡ e) × (c ≤ f))))
not_less a b c d e f h = grind arith

pub ascending : (ss : List Side) → ((k : ℕ) (d : Side) → 0 ≤ k → k + 1 < length ss → is_lt (by_side (slice_index_or ss (k + 1) d) (slice_index_or ss k d)) ≡ false) → AreAscending ss
ascending ss up i j d h k = not_less (slice_index_or ss i d).domain (slice_index_or ss i d).from (slice_index_or ss i d).to (slice_index_or ss j d).domain (slice_index_or ss j d).from (slice_index_or ss j d).to
    (sorted_far (λ s t. is_lt (by_side s t)) (ranks_by by_side_total (λ (s : Side). s)) ss up i j d h k)

pub count_permuted : (s : Side) (ss ts : List Side) → IsPermutation ss ts → side_count s ts ≡ side_count s ss
count_permuted s ss ts p = is_sum ts ∙ sum_by-IsPermutation (λ t. cond (same_side t s) 1 0) ss ts p ∙ sym (is_sum ss)
  where
    is_sum : (ss : List Side) → side_count s ss ≡ sum_by (λ t. cond (same_side t s) 1 0) ss
    is_sum ss = is_sum_by (side_count s) (λ t. cond (same_side t s) 1 0) refl (λ t ts. refl) ss

-- ---- parts
nothing_more : (n : ℕ) → n ≡ 0 + n
nothing_more n = omega arith

pub count_both : (s : Side) (ss ts : List Side) → side_count s (ss ++ ts) ≡ side_count s ss + side_count s ts
count_both s [] ts = nothing_more (side_count s ts)
count_both s (t ∷ ss) ts = added (cond (same_side t s) 1 0) (side_count s (ss ++ ts)) (side_count s ss) (side_count s ts) (count_both s ss ts)
  where
    added : (a n k l : ℕ) → n ≡ k + l → a + n ≡ a + k + l
    added a n k l e = omega arith

count_split : (s : Side) (i : ℕ) (ss : List Side) → side_count s ss ≡ side_count s (take i ss) + side_count s (drop i ss)
count_split s zero ss = nothing_more (side_count s ss)
count_split s (suc i) [] = nothing_more 0
count_split s (suc i) (t ∷ ss) = added (cond (same_side t s) 1 0) (side_count s ss) (side_count s (take i ss)) (side_count s (drop i ss)) (count_split s i ss)
  where
    added : (a n k l : ℕ) → n ≡ k + l → a + n ≡ a + k + l
    added a n k l e = omega arith

-- a side that is none of the list
count_none : (s : Side) (ss : List Side) → ((k : ℕ) → k < length ss → slice_index_or ss k s ≢ s) → side_count s ss ≡ 0
count_none s [] h = refl
count_none s (t ∷ ss) h = nothing (same_side t s) (side_count s ss) (other (same_side t s) refl) (count_none s ss (λ k l. h (suc k) (omega (arith, l))))
  where
    nothing : (b : Bool) (n : ℕ) → b ≡ false → n ≡ 0 → cond b 1 0 + n ≡ 0
    nothing true n e f = absurd (cc)
    nothing false n e f = omega arith

    other : (b : Bool) → same_side t s ≡ b → b ≡ false
    other true e = absurd (h 0 (omega arith) (same_sound t s e))
    other false e = refl

pub count_first : (s : Side) (ss : List Side) → 1 ≤ side_count s (s ∷ ss)
count_first s ss = counted (same_side s s) (side_count s ss) (same_itself s)
  where
    counted : (b : Bool) (n : ℕ) → b ≡ true → 1 ≤ cond b 1 0 + n
    counted true n e = omega arith
    counted false n e = absurd (cc)

turned_test : (a b c d e f : ℕ) → (nat_eq a b && (nat_eq c d && nat_eq e f)) ≡ (nat_eq a b && (nat_eq e f && nat_eq c d))
turned_test a b c d e f = grind arith

pub count_turned : (s : Side) (ss : List Side) → side_count s (map turned ss) ≡ side_count (turned s) ss
count_turned s [] = refl
count_turned s (t ∷ ss) = added (same_side (turned t) s) (same_side t (turned s)) (side_count s (map turned ss)) (side_count (turned s) ss) (turned_test t.domain s.domain t.to s.from t.from s.to) (count_turned s ss)
  where
    added : (a b : Bool) (m n : ℕ) → a ≡ b → m ≡ n → cond a 1 0 + m ≡ cond b 1 0 + n
    added a b m n e f = ap (λ (c : Bool). cond c 1 0 + m) e ∙ ap (λ (k : ℕ). cond b 1 0 + k) f

-- ---- the first difference of two sorted lists
-- no later item of a sorted list is a side that its item at i is greater than
absent : (ss : List Side) (i : ℕ) (s : Side) → AreAscending ss → i < length ss → ¬ (IsUpto (slice_index_or ss i s) s) → side_count s (drop i ss) ≡ 0
absent ss i s up h n = count_none s (drop i ss) (λ k l e. n (subst (IsUpto (slice_index_or ss i s)) (at_drop ss i k s ∙ e) (up i (i + k) s (omega arith) (within ss i k l))))
  where
    at_drop : (ss : List Side) (i k : ℕ) (d : Side) → slice_index_or ss (i + k) d ≡ slice_index_or (drop i ss) k d
    at_drop ss i k d = sym (get_or-drop i ss k d)

    within : (ss : List Side) (i k : ℕ) → k < length (drop i ss) → i + k < length ss
    within ss i k l = below (length ss) i k (subst (λ (n : ℕ). k < n) (length-drop i ss) l)
      where
        below : (n i k : ℕ) → k < n - i → i + k < n
        below n i k h = omega arith

-- where both are equal before i, and the side at i is s in one, and not it or a less one in the other
counted_apart : (ss ts : List Side) (i : ℕ) (s : Side) → AreAscending ts → i < length ss → i < length ts → take i ss ≡ take i ts → slice_index_or ss i s ≡ s → ¬ (IsUpto (slice_index_or ts i s) s) → side_count s ss ≢ side_count s ts
counted_apart ss ts i s up h k same e n c = clash (side_count s (take i ss)) (side_count s (drop i ss)) (side_count s (drop i ts)) (side_count s ss) (side_count s ts) (count_split s i ss) (count_split s i ts ∙ ap (λ (us : List Side). side_count s us + side_count s (drop i ts)) (sym same))
    (subst (λ (n : ℕ). 1 ≤ n) (sym (at_drop_more (side_count s) ss i s h ∙ ap (λ (t : Side). side_count s (t ∷ drop (i + 1) ss)) e)) (count_first s (drop (i + 1) ss))) (absent ts i s up k n) c
  where
    clash : (m a b x y : ℕ) → x ≡ m + a → y ≡ m + b → 1 ≤ a → b ≡ 0 → x ≡ y → ⊥
    clash m a b x y e f h g c = omega arith

-- a less side stands equally often in both
counted_alike : (ss ts : List Side) (i : ℕ) (t : Side) → AreAscending ss → AreAscending ts → i < length ss → i < length ts → take i ss ≡ take i ts → ¬ (IsUpto (slice_index_or ss i t) t) → ¬ (IsUpto (slice_index_or ts i t) t) → side_count t ss ≡ side_count t ts
counted_alike ss ts i t us ut h k same m n = alike (side_count t (take i ss)) (side_count t (drop i ss)) (side_count t (drop i ts)) (side_count t ss) (side_count t ts) (count_split t i ss) (count_split t i ts ∙ ap (λ (us : List Side). side_count t us + side_count t (drop i ts)) (sym same)) (absent ss i t us h m) (absent ts i t ut k n)
  where
    alike : (m a b x y : ℕ) → x ≡ m + a → y ≡ m + b → a ≡ 0 → b ≡ 0 → x ≡ y
    alike m a b x y e f g h = omega arith

-- r is the lesser of the two sides at i
pub first_apart : (ss ts : List Side) (i : ℕ) (d e r : Side) → AreAscending ss → AreAscending ts → length ss ≡ length ts → i < length ss → take i ss ≡ take i ts → slice_index_or ss i d ≢ slice_index_or ts i e
    → (r ≡ slice_index_or ss i d) ⊎ (r ≡ slice_index_or ts i e) → IsUpto r (slice_index_or ss i d) → IsUpto r (slice_index_or ts i e) → IsFirstDifference ss ts r
first_apart ss ts i d e r us ut long h same n one first second = record {
  differ = elim one [
    | inl f ↦ counted_apart ss ts i r ut h (omega (arith, long)) same (get_or_default ss i r d h ∙ sym f) (λ u. n (sym f ∙ upto_twice r (slice_index_or ts i e) second (subst (λ (s : Side). IsUpto s r) (get_or_default ts i r e (omega (arith, long))) u)))
    | inr f ↦ λ c. counted_apart ts ss i r us (omega (arith, long)) h (sym same) (get_or_default ts i r e (omega (arith, long)) ∙ sym f) (λ u. n (sym (upto_twice r (slice_index_or ss i d) first (subst (λ (s : Side). IsUpto s r) (get_or_default ss i r d h) u)) ∙ f)) (sym c)
  ];
  least = λ t c. elim (upto_or r t) [
    | inl u ↦ u
    | inr l ↦ absurd (c (counted_alike ss ts i t us ut h (omega (arith, long)) same
        (λ u. upto_least r t l (upto_both r (slice_index_or ss i d) t first (subst (λ (s : Side). IsUpto s t) (get_or_default ss i t d h) u)))
        (λ u. upto_least r t l (upto_both r (slice_index_or ts i e) t second (subst (λ (s : Side). IsUpto s t) (get_or_default ts i t e (omega (arith, long))) u)))))
  ];
}

-- ---- element sides and boundaries
-- the sorted list of element sides and turned boundary edges, and that of the turns
pub record AreBalances (elements rows all turns : List Side) : Type 0 where
  pub all_count : (s : Side) → side_count s all ≡ side_count s elements + side_count (turned s) rows
  pub turns_count : (s : Side) → side_count s turns ≡ side_count (turned s) elements + side_count s rows

pub balances : (elements rows first second all turns : List Side) → first ≡ elements ++ map turned rows → second ≡ [] ++ map turned first → IsPermutation first all → IsPermutation second turns → AreBalances elements rows all turns
balances elements rows first second all turns e f p q = record {
  all_count = λ s. count_permuted s first all p ∙ here s;
  turns_count = λ s. count_permuted s second turns q ∙ ap (side_count s) f ∙ count_turned s first ∙ here (turned s);
}
  where
    here : (s : Side) → side_count s first ≡ side_count s elements + side_count (turned s) rows
    here s = ap (side_count s) e ∙ count_both s elements (map turned rows) ∙ ap (λ (n : ℕ). side_count s elements + n) (count_turned s rows)

pub nets_alike : (elements rows all turns : List Side) (s : Side) → AreBalances elements rows all turns → side_count s all ≡ side_count s turns → net_of s elements ≡ net_of s rows
nets_alike elements rows all turns s b e = alike (side_count s elements) (side_count (turned s) elements) (side_count s rows) (side_count (turned s) rows) (side_count s all) (side_count s turns) (b.all_count s) (b.turns_count s) e
  where
    alike : (a b c d x y : ℕ) → x ≡ a + d → y ≡ b + c → x ≡ y → pos a -ℤ pos b ≡ pos c -ℤ pos d
    alike a b c d x y e f g = omega (arith, ints)

pub counts_alike : (elements rows all turns : List Side) (s : Side) → AreBalances elements rows all turns → net_of s elements ≡ net_of s rows → side_count s all ≡ side_count s turns
counts_alike elements rows all turns s b e = alike (side_count s elements) (side_count (turned s) elements) (side_count s rows) (side_count (turned s) rows) (side_count s all) (side_count s turns) (b.all_count s) (b.turns_count s) e
  where
    alike : (a b c d x y : ℕ) → x ≡ a + d → y ≡ b + c → pos a -ℤ pos b ≡ pos c -ℤ pos d → x ≡ y
    alike a b c d x y e f g = omega (arith, ints)

pub least_apart : (elements rows all turns : List Side) (s : Side) (m n : ℤ) → AreBalances elements rows all turns → IsFirstDifference all turns s → m ≡ net_of s elements → n ≡ net_of s rows → IsLeastDifference elements rows (record { side = s; elements = m; edges = n })
least_apart elements rows all turns s m n b d e f = record {
  elements_are = e;
  edges_are = f;
  differ = λ g. d.differ (counts_alike elements rows all turns s b (sym e ∙ g ∙ f));
  least = λ t g. d.least t (λ h. g (nets_alike elements rows all turns t b h));
}

-- the code's test of two sides
pub sides_differ : (s t : Side) (r : Bool) → r ≡ not (same_side s t) → r ≡ true → s ≢ t
sides_differ s t r e f g = let h : same_side s t ≡ true = subst (λ (u : Side). same_side s u ≡ true) g (same_itself s) in absurd (cc)
