-- Keys of sides in pairs: where the sorted keys of sides are pairs, each side stands as often as its turn.
--
-- No key is 0, and where none is 1 each side has room. Sides with room are told apart by their
-- keys, so each stands as often as its key; and the keys of a side and of its turn are an even number and the next one.
use Rattle.std.proofs.Common.{◌≡◌, ◌≢◌, ℕ, ◌+◌, ◌*◌, ◌<◌, nat_eq, nat_lt, Bool, true, false, ◌&&◌, cond, List, [], ◌∷◌, ◌++◌, map, inl, inr, refl, sym, ◌∙◌, ap, subst, arith}
use lib.IntN.{pos, ◌-ℤ◌}
use Rattle.std.proofs.lemmas.Int.{ints}
use Rattle.std.proofs.lemmas.Bool.{cases_order}
use Rattle.std.proofs.lemmas.List.Recursion.{is_sum_by}
use Rattle.std.proofs.lemmas.List.Sorted.{sum_by-IsPermutation}
use Rattle.std.specs.List.{sum_by}
use Rattle.std.specs.List.Sorted.{IsPermutation}
use Rattle.mesh_check.specs.declared.sides.Side.{Side}
use Rattle.mesh_check.specs.Balance.{turned, same_side, side_count, net_of}
use Rattle.mesh_check.specs.Keys.{has_room, packed, key_of, times, ArePaired}
use Rattle.mesh_check.proofs.SideCounts.{same_sound, count_both, count_turned}

pub times_permuted : (k : ℕ) (ns ms : List ℕ) → IsPermutation ns ms → times k ms ≡ times k ns
times_permuted k ns ms p = is_sum ms ∙ sum_by-IsPermutation (λ n. cond (nat_eq n k) 1 0) ns ms p ∙ sym (is_sum ns)
  where
    is_sum : (ns : List ℕ) → times k ns ≡ sum_by (λ n. cond (nat_eq n k) 1 0) ns
    is_sum ns = is_sum_by (times k) (λ n. cond (nat_eq n k) 1 0) refl (λ n ns. refl) ns

-- ---- one key
-- the key of a side, whether it has room, and whether it goes from the lesser point to the greater
abbrev key_by : Side → Bool → Bool → ℕ
key_by s has rises = cond has (cond rises (packed s.domain s.from s.to) (packed s.domain s.to s.from + 1)) 1

not_none : (s : Side) (has rises : Bool) → nat_eq (key_by s has rises) 0 ≡ false
not_none s true true = above ((s.domain * 16777216 + s.from) * 16777216 + s.to)
  where
    above : (x : ℕ) → nat_eq (x * 2 + 2) 0 ≡ false
    above x = grind arith
not_none s true false = above ((s.domain * 16777216 + s.to) * 16777216 + s.from)
  where
    above : (x : ℕ) → nat_eq (x * 2 + 2 + 1) 0 ≡ false
    above x = grind arith
not_none s false rises = refl

-- no key is 0
never_none : (ss : List Side) → times 0 (map key_of ss) ≡ 0
never_none [] = refl
never_none (s ∷ ss) = none (nat_eq (key_of s) 0) (times 0 (map key_of ss)) (not_none s (has_room s) (nat_lt s.from s.to)) (never_none ss)
  where
    none : (b : Bool) (n : ℕ) → b ≡ false → n ≡ 0 → cond b 1 0 + n ≡ 0
    none true n e f = absurd (cc)
    none false n e f = omega arith

-- a list with no key 1 begins with a side that has room
roomy : (s : Side) (n : ℕ) → cond (nat_eq (key_of s) 1) 1 0 + n ≡ 0 → (has_room s ≡ true) × (n ≡ 0)
roomy s n = by_room (has_room s) (nat_lt s.from s.to) refl
  where
    by_room : (b r : Bool) → has_room s ≡ b → cond (nat_eq (key_by s b r) 1) 1 0 + n ≡ 0 → (has_room s ≡ true) × (n ≡ 0)
    by_room true r e h = (e, rest (cond (nat_eq (key_by s true r) 1) 1 0) n h)
      where
        rest : (m n : ℕ) → m + n ≡ 0 → n ≡ 0
        rest m n h = omega arith
    by_room false r e h = absurd (omega (arith, h))

-- ---- sides with room are told apart by their keys
room_parts : (a b c : ℕ) → (nat_lt a 16384 && (nat_lt b 16777216 && nat_lt c 16777216)) ≡ true → (b < 16777216) × (c < 16777216)
room_parts a b c h = (grind arith, grind arith)

digits : (a b c d : ℕ) → b < 16777216 → d < 16777216 → a * 16777216 + b ≡ c * 16777216 + d → (a ≡ c) × (b ≡ d)
digits a b c d h k e = (omega arith, omega arith)

halves : (x y : ℕ) → x * 2 + 2 ≡ y * 2 + 2 → x ≡ y
halves x y e = omega arith

uneven : (x y : ℕ) → x * 2 + 2 ≡ y * 2 + 2 + 1 → ⊥
uneven x y e = omega arith

unpacked : (a b c d e f : ℕ) → b < 16777216 → c < 16777216 → e < 16777216 → f < 16777216 → packed a b c ≡ packed d e f → (a ≡ d) × (b ≡ e) × (c ≡ f)
unpacked a b c d e f hb hc he hf h =
    let first = digits (a * 16777216 + b) c (d * 16777216 + e) f hc hf (halves ((a * 16777216 + b) * 16777216 + c) ((d * 16777216 + e) * 16777216 + f) h) in
    let second = digits a b d e hb he first.0 in
    (second.0, second.1, first.1)

next_alike : (x y : ℕ) → x + 1 ≡ y + 1 → x ≡ y
next_alike x y e = omega arith

parts_alike : (s t : Side) (r q : Bool) → has_room s ≡ true → has_room t ≡ true → key_by s true r ≡ key_by t true q → (s.domain ≡ t.domain) × (s.from ≡ t.from) × (s.to ≡ t.to)
parts_alike s t true true h k e = let b = room_parts s.domain s.from s.to h in let c = room_parts t.domain t.from t.to k in unpacked s.domain s.from s.to t.domain t.from t.to b.0 b.1 c.0 c.1 e
parts_alike s t true false h k e = absurd (uneven ((s.domain * 16777216 + s.from) * 16777216 + s.to) ((t.domain * 16777216 + t.to) * 16777216 + t.from) e)
parts_alike s t false true h k e = absurd (uneven ((t.domain * 16777216 + t.from) * 16777216 + t.to) ((s.domain * 16777216 + s.to) * 16777216 + s.from) (sym e))
parts_alike s t false false h k e = let b = room_parts s.domain s.from s.to h in let c = room_parts t.domain t.from t.to k in
    let parts = unpacked s.domain s.to s.from t.domain t.to t.from b.1 b.0 c.1 c.0 (next_alike (packed s.domain s.to s.from) (packed t.domain t.to t.from) e) in (parts.0, parts.2, parts.1)

key_with_room : (s : Side) → has_room s ≡ true → key_of s ≡ key_by s true (nat_lt s.from s.to)
key_with_room s h = ap (λ (b : Bool). key_by s b (nat_lt s.from s.to)) h

same_tests : (a b c d e f : ℕ) → (a ≡ d) × (b ≡ e) × (c ≡ f) → (nat_eq a d && (nat_eq b e && nat_eq c f)) ≡ true
same_tests a b c d e f h = let g = h.0 in let k = h.1 in let l = h.2 in grind arith

key_test : (s t : Side) → has_room s ≡ true → has_room t ≡ true → nat_eq (key_of t) (key_of s) ≡ same_side t s
key_test s t h k = by_both (nat_eq (key_of t) (key_of s)) (same_side t s) refl refl
  where
    equal : (m n : ℕ) → nat_eq m n ≡ true → m ≡ n
    equal m n e = grind arith

    unequal : (m n : ℕ) → nat_eq m n ≡ false → m ≢ n
    unequal m n e f = grind arith

    by_both : (a b : Bool) → nat_eq (key_of t) (key_of s) ≡ a → same_side t s ≡ b → a ≡ b
    by_both true true e f = refl
    by_both false false e f = refl
    by_both true false e f = absurd (other (same_tests t.domain t.from t.to s.domain s.from s.to (parts_alike t s (nat_lt t.from t.to) (nat_lt s.from s.to) k h (sym (key_with_room t k) ∙ equal (key_of t) (key_of s) e ∙ key_with_room s h))))
      where
        other : same_side t s ≡ true → ⊥
        other g = cc
    by_both false true e f = absurd (unequal (key_of t) (key_of s) e (ap key_of (same_sound t s f)))

-- ---- lists of sides
-- where no key is 1, a side with room stands as often as its key
counted : (s : Side) (ss : List Side) → has_room s ≡ true → times 1 (map key_of ss) ≡ 0 → side_count s ss ≡ times (key_of s) (map key_of ss)
counted s [] h none = refl
counted s (t ∷ ss) h none = let first = roomy t (times 1 (map key_of ss)) none in added (same_side t s) (nat_eq (key_of t) (key_of s)) (side_count s ss) (times (key_of s) (map key_of ss)) (sym (key_test s t h first.0)) (counted s ss h first.1)
  where
    added : (a b : Bool) (m n : ℕ) → a ≡ b → m ≡ n → cond a 1 0 + m ≡ cond b 1 0 + n
    added a b m n e f = ap (λ (c : Bool). cond c 1 0 + m) e ∙ ap (λ (k : ℕ). cond b 1 0 + k) f

-- and a side without room doesn't stand there
uncounted : (s : Side) (ss : List Side) → has_room s ≡ false → times 1 (map key_of ss) ≡ 0 → side_count s ss ≡ 0
uncounted s [] h none = refl
uncounted s (t ∷ ss) h none = let first = roomy t (times 1 (map key_of ss)) none in nothing (same_side t s) (side_count s ss) (other (same_side t s) refl first.0) (uncounted s ss h first.1)
  where
    nothing : (b : Bool) (n : ℕ) → b ≡ false → n ≡ 0 → cond b 1 0 + n ≡ 0
    nothing true n e f = absurd (cc)
    nothing false n e f = omega arith

    other : (b : Bool) → same_side t s ≡ b → has_room t ≡ true → b ≡ false
    other true e k = let g : has_room s ≡ true = subst (λ (u : Side). has_room u ≡ true) (same_sound t s e) k in absurd (cc)
    other false e k = refl

room_turned : (a b c : ℕ) (r : Bool) → (nat_lt a 16384 && (nat_lt b 16777216 && nat_lt c 16777216)) ≡ r → (nat_lt a 16384 && (nat_lt c 16777216 && nat_lt b 16777216)) ≡ r
room_turned a b c r h = grind arith

-- the keys of a side that rises and of its turn stand equally often in a list that is paired
rising_alike : (s : Side) (ks : List ℕ) → ArePaired ks → has_room s ≡ true → s.from < s.to → times (key_of s) ks ≡ times (key_of (turned s)) ks
rising_alike s ks paired h l =
    let half = (s.domain * 16777216 + s.from) * 16777216 + s.to + 1 in
    ap (λ (k : ℕ). times k ks) (key_with_room s h ∙ ap (key_by s true) (is_less s.from s.to l) ∙ doubled ((s.domain * 16777216 + s.from) * 16777216 + s.to))
    ∙ paired half
    ∙ ap (λ (k : ℕ). times k ks) (sym (key_with_room (turned s) (room_turned s.domain s.from s.to true h) ∙ ap (key_by (turned s) true) (is_not_less s.from s.to l) ∙ ap (λ (k : ℕ). k + 1) (doubled ((s.domain * 16777216 + s.from) * 16777216 + s.to))))
  where
    is_less : (m n : ℕ) → m < n → nat_lt m n ≡ true
    is_less m n h = grind arith

    is_not_less : (m n : ℕ) → m < n → nat_lt n m ≡ false
    is_not_less m n h = grind arith

    doubled : (x : ℕ) → x * 2 + 2 ≡ 2 * (x + 1)
    doubled x = omega arith

turn_alike : (s : Side) (ks : List ℕ) → ArePaired ks → has_room s ≡ true → times (key_of s) ks ≡ times (key_of (turned s)) ks
turn_alike s ks paired h = elim (cases_order s.from s.to) [
  | inl e ↦ ap (λ (u : Side). times (key_of u) ks) (is_own_turn s e)
  | inr r ↦ elim r [
    | inl l ↦ rising_alike s ks paired h l
    | inr l ↦ sym (rising_alike (turned s) ks paired (room_turned s.domain s.from s.to true h) l)
  ]
]
  where
    is_own_turn : (s : Side) → s.from ≡ s.to → s ≡ turned s
    is_own_turn s e = ap (λ (n : ℕ). record { domain = s.domain; from = n; to = s.to }) e ∙ ap (λ (n : ℕ). record { domain = s.domain; from = s.to; to = n }) (sym e)

positive : (n : ℕ) → nat_eq n 0 ≡ false → 0 < n
positive n e = grind arith

key_above : (s : Side) → 0 < key_of s
key_above s = positive (key_of s) (not_none s (has_room s) (nat_lt s.from s.to))

-- the keys ks are those of the sides ss, as far as numbers above 0 go
turns_alike : (ss : List Side) (ks : List ℕ) → ((k : ℕ) → 0 < k → times k ks ≡ times k (map key_of ss)) → times 1 ks ≡ 0 → ArePaired ks → (s : Side) → side_count s ss ≡ side_count (turned s) ss
turns_alike ss ks same once paired s = by_room (has_room s) refl
  where
    one : 0 < 1
    one = omega arith

    none : times 1 (map key_of ss) ≡ 0
    none = sym (same 1 one) ∙ once

    by_room : (b : Bool) → has_room s ≡ b → side_count s ss ≡ side_count (turned s) ss
    by_room true h = let k = room_turned s.domain s.from s.to true h in
        counted s ss h none ∙ sym (same (key_of s) (key_above s)) ∙ turn_alike s ks paired h
        ∙ same (key_of (turned s)) (key_above (turned s)) ∙ sym (counted (turned s) ss k none)
    by_room false h = uncounted s ss h none ∙ sym (uncounted (turned s) ss (room_turned s.domain s.from s.to false h) none)

pub keys_of_both : (ss ts : List Side) → map key_of (ss ++ ts) ≡ map key_of ss ++ map key_of ts
keys_of_both [] ts = refl
keys_of_both (s ∷ ss) ts = ap (λ (ks : List ℕ). key_of s ∷ ks) (keys_of_both ss ts)

-- where the keys of sides and of others turned are paired, both lists have equal numbers of each side, less its turn
pub even_nets : (ss ts : List Side) (ks : List ℕ) → ((k : ℕ) → 0 < k → times k ks ≡ times k (map key_of ss ++ map key_of (map turned ts))) → times 1 ks ≡ 0 → ArePaired ks → (s : Side) → net_of s ss ≡ net_of s ts
even_nets ss ts ks same once paired s = alike (side_count s ss) (side_count (turned s) ss) (side_count s ts) (side_count (turned s) ts)
    (sym (parts s) ∙ turns_alike (ss ++ map turned ts) ks (λ k h. same k h ∙ ap (times k) (sym (keys_of_both ss (map turned ts)))) once paired s ∙ parts (turned s))
  where
    parts : (s : Side) → side_count s (ss ++ map turned ts) ≡ side_count s ss + side_count (turned s) ts
    parts s = count_both s ss (map turned ts) ∙ ap (λ (n : ℕ). side_count s ss + n) (count_turned s ts)

    alike : (a b c d : ℕ) → a + d ≡ b + c → pos a -ℤ pos b ≡ pos c -ℤ pos d
    alike a b c d e = omega (arith, ints)
