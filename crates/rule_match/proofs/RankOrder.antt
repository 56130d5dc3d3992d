-- Badness and rank are total orders.
use Prim.Native.Nat.{ℕ, ◌*◌, ◌<◌, ◌≤◌}
use mathlib.Core.Path.{◌≡◌, sym}
use mathlib.Core.Logic.{inl, inr}
use native.Mathlib.Omega.{arith}
use Rattle.std.specs.Prelude.{max}
use Rattle.std.specs.declared.cmp.Ordering.{Ordering}
use Rattle.std.specs.declared.cmp.Ordering.TheVariants.{Less, Equal, Greater}
use Rattle.std.specs.Ordering.{nat_cmp, MatchOrdering}
use Rattle.std.specs.Cmp.{IsTotalOrder, ranks, nat_cmp_is}
use Rattle.std.proofs.lemmas.Cmp.{nat_cmp_total, nat_list_cmp_total, then_total, on_total, ranked}
use Rattle.std.proofs.lemmas.Bool.{cases_lt}
use Rattle.std.proofs.Math.Nat.{mul-le-mul_right, mul-lt-mul_of_pos_right}
use Rattle.rule_match.specs.declared.found.Found.{Found}
use Rattle.rule_match.specs.Order.{badness_cmp, rank_cmp}

some_area : (n : ℕ) → 0 < max 1 n
some_area n = omega arith

cancel : (m n a : ℕ) → m * a < n * a → m < n
cancel m n a h = elim (cases_lt m n) [ inl k ↦ k | inr k ↦ let l : n * a ≤ m * a = mul-le-mul_right a k in absurd (omega (arith, h, l)) ]

cancel_same : (m n a : ℕ) → 0 < a → m * a ≡ n * a → m ≡ n
cancel_same m n a p h = elim (cases_lt m n) [
  | inl k ↦ let l : m * a < n * a = mul-lt-mul_of_pos_right k p in absurd (omega (arith, h, l))
  | inr k ↦ elim (cases_lt n m) [
    | inl j ↦ let l : n * a < m * a = mul-lt-mul_of_pos_right j p in absurd (omega (arith, h, l))
    | inr j ↦ omega (arith, k, j)
  ]
]

-- two pairs that are alike up to positive factors compare alike
alike : (m n p q a c : ℕ) → 0 < a → 0 < c → m * a ≡ p * c → n * a ≡ q * c → nat_cmp m n ≡ nat_cmp p q
alike m n p q a c ha hc e f = sym (nat_cmp_is m n (nat_cmp p q) (by_rank (nat_cmp p q) (ranks p q)))
  where
    by_rank : (r : Ordering) → MatchOrdering r (p < q) (p ≡ q) (q < p) → MatchOrdering r (m < n) (m ≡ n) (n < m)
    by_rank Less h = let l : p * c < q * c = mul-lt-mul_of_pos_right h hc in cancel m n a (omega (arith, e, f, l))
    by_rank Equal h = let l : p * c ≡ q * c = rw h in cancel_same m n a ha (omega (arith, e, f, l))
    by_rank Greater h = let l : q * c < p * c = mul-lt-mul_of_pos_right h hc in cancel n m a (omega (arith, e, f, l))

chain : (s t u a b c : ℕ) → 0 < a → 0 < c → s * b < t * a → t * c < u * b → s * c < u * a
chain s t u a b c ha hc h k =
    let i : s * b * c < t * a * c = mul-lt-mul_of_pos_right h hc in
    let j : t * c * a < u * b * a = mul-lt-mul_of_pos_right k ha in
    cancel (s * c) (u * a) b (omega (arith, i, j))

less : (x y : ℕ) → nat_cmp x y ≡ Less → x < y
less x y e = ranked x y Less (sym e)

tied : (x y : ℕ) → nat_cmp x y ≡ Equal → x ≡ y
tied x y e = ranked x y Equal (sym e)

is_less : (x y : ℕ) → x < y → nat_cmp x y ≡ Less
is_less x y h = sym (nat_cmp_is x y Less h)

pub badness_total : IsTotalOrder badness_cmp
badness_total = record {
  antisymm = λ x y. nat_cmp_total.antisymm (x.squares * max 1 y.area) (y.squares * max 1 x.area);
  trans = λ x y z h k. is_less (x.squares * max 1 z.area) (z.squares * max 1 x.area)
      (chain x.squares y.squares z.squares (max 1 x.area) (max 1 y.area) (max 1 z.area) (some_area x.area) (some_area z.area)
      (less (x.squares * max 1 y.area) (y.squares * max 1 x.area) h) (less (y.squares * max 1 z.area) (z.squares * max 1 y.area) k));
  congr = λ x y z h. scaled x.squares y.squares z.squares (max 1 x.area) (max 1 y.area) (max 1 z.area) (some_area x.area) (some_area y.area)
      (tied (x.squares * max 1 y.area) (y.squares * max 1 x.area) h);
}
  where
    scaled : (s t u a b c : ℕ) → 0 < a → 0 < b → s * b ≡ t * a → nat_cmp (s * c) (u * a) ≡ nat_cmp (t * c) (u * b)
    scaled s t u a b c ha hb e = alike (s * c) (u * a) (t * c) (u * b) b a hb ha (first s t a b c e) (second u a b)
      where
        first : (s t a b c : ℕ) → s * b ≡ t * a → s * c * b ≡ t * c * a
        first s t a b c e = ap_times s t a b c e
          where
            ap_times : (s t a b c : ℕ) → s * b ≡ t * a → s * c * b ≡ t * c * a
            ap_times s t a b c e = let i : s * b * c ≡ t * a * c = rw e in omega (arith, i)

        second : (u a b : ℕ) → u * a * b ≡ u * b * a
        second u a b = omega arith

pub rank_total : IsTotalOrder rank_cmp
rank_total = then_total (on_total (λ (f : Found). f.badness) badness_total) (then_total (on_total (λ (f : Found). f.rule) nat_cmp_total) (on_total (λ (f : Found). f.points) nat_list_cmp_total))
