-- What is left of refusals once entries are forgotten, one after another: those that meet an area.
use Rattle.std.proofs.Common.{◌≡◌, ◌≢◌, ℕ, ◌+◌, ◌<◌, ◌≤◌, ◌⊎◌, inl, inr, Bool, true, false, nat_eq, Contains, Option, OnSome, IfNone, List, ◌∷◌, ◌++◌, length, slice_index_or, set, refl, sym, ap, ◌∙◌, subst, arith}
use Rattle.std.proofs.lemmas.List.{get_or-set_same, get_or-set_other, get_or_past}
use Rattle.grid_geom.specs.declared.Bounds.{Bounds}
use Rattle.digital_tree.specs.declared.Entry.{Entry}
use Rattle.digital_tree.specs.Entries.{AreDifferent, IsRemoved}
use Rattle.mesh_run.specs.declared.refusals.Refusals.{Refusals}
use Rattle.mesh_run.specs.declared.refusals.Region.{Region}
use Rattle.mesh_run.specs.Remembered.{AreDropped, IsGone}
use Rattle.digital_tree.specs.declared.Key.{Key}
use Rattle.mesh_run.proofs.Regions.{left_was, one_entry, others_stay}

clash : false ≡ true → ⊥
clash e = cc

pub level : (n : ℕ) → n ≤ n
level n = omega arith

chained : (a b c : ℕ) → a ≤ b → b ≤ c → a ≤ c
chained a b c h k = omega arith

-- ---- a number in a table is lowered
-- a number above another one is in the table
within : (table : List ℕ) (place n : ℕ) → n < slice_index_or table place 0 → place < length table
within table place n l = by (compared place (length table))
  where
    compared : (m n : ℕ) → (m < n) ⊎ (n ≤ m)
    compared m n = grind arith

    never : (m : ℕ) → n < m → m ≡ 0 → ⊥
    never m l e = omega (arith, l, e)

    by : (place < length table) ⊎ (length table ≤ place) → place < length table
    by (inl m) = m
    by (inr m) = absurd (never (slice_index_or table place 0) l (get_or_past table place 0 m))

pub lowered_there : (table : List ℕ) (place n : ℕ) → n < slice_index_or table place 0 → slice_index_or (set table place n) place 0 ≤ n
lowered_there table place n l = subst (λ (m : ℕ). m ≤ n) (sym (get_or-set_same table place n 0 (within table place n l))) (level n)

pub lowered : (table : List ℕ) (place n : ℕ) → n < slice_index_or table place 0 → (other : ℕ) → slice_index_or (set table place n) other 0 ≤ slice_index_or table other 0
lowered table place n l other = by (nat_eq other place) refl
  where
    same : (m n : ℕ) → nat_eq m n ≡ true → m ≡ n
    same m n e = grind arith

    differ : (m n : ℕ) → nat_eq m n ≡ false → m ≢ n
    differ m n e f = let wrong : nat_eq m n ≡ true = grind arith in clash (sym e ∙ wrong)

    less : (a b c : ℕ) → a ≤ b → b < c → a ≤ c
    less a b c h k = omega arith

    by : (b : Bool) → nat_eq other place ≡ b → slice_index_or (set table place n) other 0 ≤ slice_index_or table other 0
    by true e =
        subst (λ (m : ℕ). slice_index_or (set table place n) m 0 ≤ slice_index_or table m 0) (sym (same other place e)) (less (slice_index_or (set table place n) place 0) n (slice_index_or table place 0) (lowered_there table place n l) l)
    by false e = subst (λ (m : ℕ). m ≤ slice_index_or table other 0) (sym (get_or-set_other table place other n 0 (differ other place e))) (level (slice_index_or table other 0))

-- the other numbers stay
pub others_kept : (table : List ℕ) (place n : ℕ) (other : ℕ) → (slice_index_or (set table place n) other 0 ≡ slice_index_or table other 0) ⊎ (place ≡ other)
others_kept table place n other = by (compared other place)
  where
    compared : (m k : ℕ) → (m ≢ k) ⊎ (k ≡ m)
    compared m k = by (nat_eq m k) refl
      where
        same : nat_eq m k ≡ true → k ≡ m
        same e = grind arith

        differ : nat_eq m k ≡ false → m ≢ k
        differ e f = let wrong : nat_eq m k ≡ true = grind arith in clash (sym e ∙ wrong)

        by : (b : Bool) → nat_eq m k ≡ b → (m ≢ k) ⊎ (k ≡ m)
        by true e = inr (same e)
        by false e = inl (differ e)

    by : (other ≢ place) ⊎ (place ≡ other) → (slice_index_or (set table place n) other 0 ≡ slice_index_or table other 0) ⊎ (place ≡ other)
    by (inl h) = inl (get_or-set_other table place other n 0 h)
    by (inr e) = inr e

-- ---- entries are dropped
module _ (before now : Refusals) (left : List (Entry Region)) (hit : Entry Region) (r : Option (Bounds × Region)) (h : AreDropped before now) (gone : OnSome r (IsRemoved hit.key now.regions.entries left)) (same : IfNone r (left ≡ now.regions.entries)) where
  pub fewer_left : (e : Entry Region) → Contains left e → Contains before.regions.entries e
  fewer_left e c = h.fewer e (left_was hit.key now.regions.entries left r gone same e c)

  -- an entry with the key of one by which nothing is remembered is that one; each other one stays
  pub stay_left : AreDifferent before.regions.entries → Contains before.regions.entries hit → IsGone before hit → (e : Entry Region) → Contains before.regions.entries e → Contains left e ⊎ IsGone before e
  stay_left different held forgotten e c = by (h.stay e c)
    where
      equal : (m n : ℕ) → nat_eq m n ≡ true → m ≡ n
      equal m n e = grind arith

      differ : (m n : ℕ) → nat_eq m n ≡ false → m ≢ n
      differ m n e f = let wrong : nat_eq m n ≡ true = grind arith in clash (sym e ∙ wrong)

      split : Contains now.regions.entries e → (b : Bool) → nat_eq e.key.slot hit.key.slot ≡ b → Contains left e ⊎ IsGone before e
      split k true i = inr (subst (IsGone before) (one_entry before.regions.entries different hit e held c (ap (λ (n : ℕ). record { slot = n }) (sym (equal e.key.slot hit.key.slot i)))) forgotten)
      split k false i = inl (others_stay hit.key now.regions.entries left r gone same e k (λ q. differ e.key.slot hit.key.slot i (ap (λ (x : Key). x.slot) q)))

      by : Contains now.regions.entries e ⊎ IsGone before e → Contains left e ⊎ IsGone before e
      by (inl k) = split k (nat_eq e.key.slot hit.key.slot) refl
      by (inr g) = inr g
