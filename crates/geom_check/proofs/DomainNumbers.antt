-- The numbers of domains rise, are those above 0 that segments name, and are at most 64.
use Rattle.std.proofs.Common.{◌≡◌, ℕ, ◌<◌, ◌≤◌, Bool, true, false, not, ◌&&◌, ◌||◌, List, [], ◌∷◌, fold, refl, ap, sym, ◌∙◌, arith, inl, inr, ◌⊎◌, nat_eq, true≢false, if◌then◌else◌}
use Rattle.std.specs.List.{All, list_any}
use Rattle.std.specs.Ordering.{nat_cmp, match_ordering, MatchOrdering}
use Rattle.std.specs.declared.cmp.Ordering.{Ordering}
use Rattle.std.specs.declared.cmp.Ordering.TheVariants.{Less, Equal, Greater}
use Rattle.std.specs.BTreeSet.{insert_key}
use Rattle.std.proofs.lemmas.Bool.Decides.{Decides-eqb, nat_tests}
use Rattle.std.proofs.lemmas.List.Elements.{All-nil, All-cons, All-head, All-tail}
use Rattle.std.proofs.lemmas.Map.Views.{All-insert_key}
use Rattle.geom_check.specs.declared.kinds.Segment.{Segment}
use Rattle.geom_check.specs.Boundary.{IsSegmentOf}
use Rattle.geom_check.specs.Domains.{with_domain, domain_numbers, sides_of, IsRising, IsDomain}
use Rattle.geom_check.specs.declared.limits.TheConstants.{MOST_DOMAINS}

compares : (a b : ℕ) → MatchOrdering (nat_cmp a b) (a < b) (a ≡ b) (b < a)
compares a b = grind (arith, nat_tests)

all_above : (k x : ℕ) (xs : List ℕ) → k < x → All (λ y. x < y) xs → All (λ y. k < y) xs
all_above k x [] h above = All-nil (λ y. k < y)
all_above k x (y ∷ ys) h above =
    let here : x < y = All-head (λ z. x < z) y ys above in
    All-cons (λ z. k < z) y ys (omega arith) (all_above k x ys h (All-tail (λ z. x < z) y ys above))

insert_rising : (ks : List ℕ) (k : ℕ) → IsRising ks → IsRising (insert_key nat_cmp ks k)
insert_rising [] k h = (All-nil (λ y. k < y), tt)
insert_rising (x ∷ xs) k h = by (nat_cmp k x) (compares k x) (insert_rising xs k h.1)
  where
    by : (r : Ordering) → MatchOrdering r (k < x) (k ≡ x) (x < k) → IsRising (insert_key nat_cmp xs k) → IsRising (match_ordering r (k ∷ x ∷ xs) (x ∷ xs) (x ∷ insert_key nat_cmp xs k))
    by Less below rest = (All-cons (λ y. k < y) x xs below (all_above k x xs below h.0), h)
    by Equal same rest = h
    by Greater above rest = (All-insert_key nat_cmp k (λ y. x < y) xs h.0 above, rest)

with_rising : (b : Bool) (ds : List ℕ) (d : ℕ) → IsRising ds → IsRising (if b then ds else insert_key nat_cmp ds d)
with_rising true ds d h = h
with_rising false ds d h = insert_rising ds d h

all_rising : (ds ns : List ℕ) → IsRising ds → IsRising (fold with_domain ds ns)
all_rising ds [] h = h
all_rising ds (n ∷ ns) h = all_rising (with_domain ds n) ns (with_rising (nat_eq n 0) ds n h)

pub numbers_rise : (segments : List Segment) → IsRising (domain_numbers segments)
numbers_rise segments = all_rising [] (sides_of segments) tt

again : (a r : Bool) → (a || r) ≡ (a || (a || r))
again true r = refl
again false r = refl

swapped : (a b r : Bool) → (a || (b || r)) ≡ (b || (a || r))
swapped true true r = refl
swapped true false r = refl
swapped false b r = refl

insert_any : (d : ℕ) (ks : List ℕ) (k : ℕ) → list_any (nat_eq d) (insert_key nat_cmp ks k) ≡ (nat_eq d k || list_any (nat_eq d) ks)
insert_any d [] k = refl
insert_any d (x ∷ xs) k = by (nat_cmp k x) (compares k x) (insert_any d xs k)
  where
    by : (r : Ordering) → MatchOrdering r (k < x) (k ≡ x) (x < k) → list_any (nat_eq d) (insert_key nat_cmp xs k) ≡ (nat_eq d k || list_any (nat_eq d) xs)
        → list_any (nat_eq d) (match_ordering r (k ∷ x ∷ xs) (x ∷ xs) (x ∷ insert_key nat_cmp xs k)) ≡ (nat_eq d k || (nat_eq d x || list_any (nat_eq d) xs))
    by Less below rest = refl
    by Equal same rest =
        again (nat_eq d x) (list_any (nat_eq d) xs) ∙ ap (λ (n : ℕ). nat_eq d n || (nat_eq d x || list_any (nat_eq d) xs)) (sym same)
    by Greater above rest =
        ap (λ (b : Bool). nat_eq d x || b) rest ∙ swapped (nat_eq d x) (nat_eq d k) (list_any (nat_eq d) xs)

-- `z`, that d is 0; `e`, that d is the number; `a`, that d is there already; `r`, that it comes later
kept : (z e a r : Bool) → (e ≡ true → z ≡ true) → (a || (not z && r)) ≡ (a || (not z && (e || r)))
kept z e true r h = refl
kept true e false r h = refl
kept false false false r h = refl
kept false true false r h = absurd (true≢false (sym (h refl)))

added : (z e a r : Bool) → (e ≡ true → z ≡ false) → ((e || a) || (not z && r)) ≡ (a || (not z && (e || r)))
added z false a r h = refl
added false true true r h = refl
added false true false r h = refl
added true true a r h = absurd (true≢false (h refl))

all_named : (d : ℕ) (ds ns : List ℕ) → list_any (nat_eq d) (fold with_domain ds ns) ≡ (list_any (nat_eq d) ds || (not (nat_eq d 0) && list_any (nat_eq d) ns))
all_named d ds [] = last (list_any (nat_eq d) ds) (not (nat_eq d 0))
  where
    last : (a b : Bool) → a ≡ (a || (b && false))
    last true b = refl
    last false true = refl
    last false false = refl
all_named d ds (n ∷ ns) = by (nat_eq n 0) refl (all_named d (with_domain ds n) ns)
  where
    by : (b : Bool) → nat_eq n 0 ≡ b
        → list_any (nat_eq d) (fold with_domain (with_domain ds n) ns) ≡ (list_any (nat_eq d) (with_domain ds n) || (not (nat_eq d 0) && list_any (nat_eq d) ns))
        → list_any (nat_eq d) (fold with_domain (with_domain ds n) ns) ≡ (list_any (nat_eq d) ds || (not (nat_eq d 0) && (nat_eq d n || list_any (nat_eq d) ns)))
    by true e rest =
        rest ∙ ap (λ (b : Bool). list_any (nat_eq d) (if b then ds else insert_key nat_cmp ds n) || (not (nat_eq d 0) && list_any (nat_eq d) ns)) e
        ∙ kept (nat_eq d 0) (nat_eq d n) (list_any (nat_eq d) ds) (list_any (nat_eq d) ns) (λ h. ap (λ (m : ℕ). nat_eq m 0) ((Decides-eqb d n).0 h) ∙ e)
    by false e rest =
        rest ∙ ap (λ (b : Bool). list_any (nat_eq d) (if b then ds else insert_key nat_cmp ds n) || (not (nat_eq d 0) && list_any (nat_eq d) ns)) e
        ∙ ap (λ (b : Bool). b || (not (nat_eq d 0) && list_any (nat_eq d) ns)) (insert_any d ds n)
        ∙ added (nat_eq d 0) (nat_eq d n) (list_any (nat_eq d) ds) (list_any (nat_eq d) ns) (λ h. ap (λ (m : ℕ). nat_eq m 0) ((Decides-eqb d n).0 h) ∙ e)

pub numbers_named : (segments : List Segment) (d : ℕ) → list_any (nat_eq d) (domain_numbers segments) ≡ (not (nat_eq d 0) && list_any (nat_eq d) (sides_of segments))
numbers_named segments d = all_named d [] (sides_of segments)

-- ---- their range
with_within : (b : Bool) (ds : List ℕ) (n : ℕ) → nat_eq n 0 ≡ b → n ≤ MOST_DOMAINS → All IsDomain ds → All IsDomain (if b then ds else insert_key nat_cmp ds n)
with_within true ds n e h all = all
with_within false ds n e h all = All-insert_key nat_cmp n IsDomain ds all (above (nat_eq n 0) e refl, h)
  where
    above : (b : Bool) → b ≡ false → nat_eq n 0 ≡ b → 0 < n
    above b f g = let i = Decides-eqb n 0 in elim (either n) [ inl z ↦ absurd (true≢false (sym (i.1 z) ∙ g ∙ f)) | inr m ↦ m ]
      where
        either : (n : ℕ) → (n ≡ 0) ⊎ (0 < n)
        either n = grind arith

all_within : (ds ns : List ℕ) → All IsDomain ds → All (λ n. n ≤ MOST_DOMAINS) ns → All IsDomain (fold with_domain ds ns)
all_within ds [] h all = h
all_within ds (n ∷ ns) h all = all_within (with_domain ds n) ns (with_within (nat_eq n 0) ds n refl (All-head (λ m. m ≤ MOST_DOMAINS) n ns all) h) (All-tail (λ m. m ≤ MOST_DOMAINS) n ns all)

sides_within : (count : ℕ) (segments : List Segment) → All (IsSegmentOf count) segments → All (λ n. n ≤ MOST_DOMAINS) (sides_of segments)
sides_within count [] h = All-nil (λ n. n ≤ MOST_DOMAINS)
sides_within count (s ∷ ss) h =
    let here = All-head (IsSegmentOf count) s ss h in
    All-cons (λ n. n ≤ MOST_DOMAINS) s.left (s.right ∷ sides_of ss) here.left (All-cons (λ n. n ≤ MOST_DOMAINS) s.right (sides_of ss) here.right (sides_within count ss (All-tail (IsSegmentOf count) s ss h)))

pub numbers_within : (count : ℕ) (segments : List Segment) → All (IsSegmentOf count) segments → All IsDomain (domain_numbers segments)
numbers_within count segments h = all_within [] (sides_of segments) (All-nil IsDomain) (sides_within count segments h)
