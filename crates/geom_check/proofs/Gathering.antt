-- The loops that gather risers.
use Rattle.std.proofs.Common.{◌≡◌, ℕ, zero, suc, ◌+◌, ◌<◌, ◌≤◌, Bool, true, false, List, [], ◌∷◌, ◌++◌, length, slice_index_or, All, AllPairs, Contains, map, take, filter, sum_by, sym, ◌∙◌, ap, subst, refl, arith, cond}
use lib.IntN.{ℤ, pos, ◌+ℤ◌, ◌-ℤ◌, ◌*ℤ◌}
use Rattle.std.proofs.lemmas.Int.{ints}
use Rattle.std.proofs.lemmas.List.{get_or-map}
use Rattle.std.proofs.lemmas.List.Elements.{filter_more, All-filter, All-contains_itself}
use Rattle.std.proofs.lemmas.List.Sums.{sum_by-cons}
use Rattle.std.proofs.lemmas.List.Sorted.{sum_by-IsPermutation, All-permutation}
use Rattle.std.proofs.lemmas.List.Kept.{AllPairs-filter}
use Rattle.std.specs.List.Sorted.{IsPermutation, IsNonDecreasingBy}
use Rattle.geom_check.specs.declared.risers.Riser.{Riser}
use Rattle.geom_check.specs.declared.risers.Passing.{Passing}
use Rattle.geom_check.specs.Risers.{passes}
use Rattle.geom_check.specs.RiserOrder.{under, IsFree, IsPassing, IsKey, IsOrder, IsRiserOnGrid}
use Rattle.geom_check.proofs.Reordered.{AllPairs-reordered}
use Rattle.geom_check.specs.declared.limits.TheConstants.{MOST_UNDER}

pub under_is : (m n : ℕ) (y : ℤ) (r : Riser) → pos m ≡ pos 2 *ℤ r.b.y -ℤ y → pos n ≡ y -ℤ pos 2 *ℤ r.a.y → pos (m + n) ≡ under r
under_is m n y r e f = omega (arith, ints)

pub under_most : (m n : ℕ) (y : ℤ) (r : Riser) → IsRiserOnGrid r → pos m ≡ pos 2 *ℤ r.b.y -ℤ y → pos n ≡ y -ℤ pos 2 *ℤ r.a.y → m + n ≤ MOST_UNDER
under_most m n y r g e f = omega (arith, ints, g.a.y_within.least, g.b.y_within.greatest)

all_pushed : {X : Type 0} (P : X → Type 0) (xs : List X) (x : X) → All P xs → P x → All P (xs ++ x ∷ [])
all_pushed P [] x all p zero d h = p
all_pushed P [] x all p (suc k) d h = absurd (omega arith)
all_pushed P (y ∷ xs) x all p zero d h = all 0 d (omega arith)
all_pushed P (y ∷ xs) x all p (suc k) d h = all_pushed P xs x (λ i e g. all (suc i) e (omega arith)) p k d (omega arith)

map_pushed : (xs : List Passing) (x : Passing) → map (λ p. p.riser) (xs ++ x ∷ []) ≡ map (λ p. p.riser) xs ++ x.riser ∷ []
map_pushed [] x = refl
map_pushed (y ∷ xs) x = ap (λ (rs : List Riser). y.riser ∷ rs) (map_pushed xs x)

-- what is gathered of the first risers
pub record IsGathered (low high : ℤ) (rs : List Riser) (i : ℕ) (items : List Passing) : Type 0 where
  pub passing : All (λ p. IsPassing low high p.riser) items
  pub keys : All (λ p. IsKey (low +ℤ high) p.riser p.key) items
  pub risers : map (λ p. p.riser) items ≡ filter (passes low high) (take i rs)

pub gather_more : (low high : ℤ) (rs : List Riser) (i : ℕ) (d : Riser) (items new : List Passing) (p : Passing) → i < length rs → passes low high (slice_index_or rs i d) ≡ true → IsPassing low high (slice_index_or rs i d) →
    p.riser ≡ slice_index_or rs i d → IsKey (low +ℤ high) (slice_index_or rs i d) p.key → new ≡ items ++ p ∷ [] → IsGathered low high rs i items → IsGathered low high rs (i + 1) new
gather_more low high rs i d items new p h t w e k n g = record {
  passing = subst (λ (xs : List Passing). All (λ p. IsPassing low high p.riser) xs) (sym n) (all_pushed (λ p. IsPassing low high p.riser) items p g.passing (subst (λ (r : Riser). IsPassing low high r) (sym e) w));
  keys = subst (λ (xs : List Passing). All (λ p. IsKey (low +ℤ high) p.riser p.key) xs) (sym n) (all_pushed (λ p. IsKey (low +ℤ high) p.riser p.key) items p g.keys (subst (λ (r : Riser). IsKey (low +ℤ high) r p.key) (sym e) k));
  risers = ap (λ (xs : List Passing). map (λ p. p.riser) xs) n ∙ map_pushed items p ∙ ap (λ (rs : List Riser). rs ++ p.riser ∷ []) g.risers ∙ ap (λ (r : Riser). filter (passes low high) (take i rs) ++ r ∷ []) e
      ∙ ap (λ (b : Bool). filter (passes low high) (take i rs) ++ cond b (slice_index_or rs i d ∷ []) []) (sym t) ∙ sym (filter_more (passes low high) rs i d h);
}

pub gather_same : (low high : ℤ) (rs : List Riser) (i : ℕ) (d : Riser) (items new : List Passing) → i < length rs → passes low high (slice_index_or rs i d) ≡ false → new ≡ items → IsGathered low high rs i items → IsGathered low high rs (i + 1) new
gather_same low high rs i d items new h t n g = subst (λ (xs : List Passing). IsGathered low high rs (i + 1) xs) (sym n) (record {
  passing = g.passing;
  keys = g.keys;
  risers = g.risers ∙ nothing (filter (passes low high) (take i rs)) ∙ ap (λ (b : Bool). filter (passes low high) (take i rs) ++ cond b (slice_index_or rs i d ∷ []) []) (sym t) ∙ sym (filter_more (passes low high) rs i d h);
})
  where
    nothing : (rs : List Riser) → rs ≡ rs ++ []
    nothing [] = refl
    nothing (r ∷ rs) = ap (λ (xs : List Riser). r ∷ xs) (nothing rs)

-- ---- sorting what is gathered
sum_mapped : (f : Riser → ℕ) (items : List Passing) → sum_by (λ p. f p.riser) items ≡ sum_by f (map (λ p. p.riser) items)
sum_mapped f [] = refl
sum_mapped f (p ∷ ps) = sum_by-cons (λ p. f p.riser) p ps ∙ ap (λ (n : ℕ). f p.riser + n) (sum_mapped f ps) ∙ sym (sum_by-cons f p.riser (map (λ p. p.riser) ps))

length_mapped : (items : List Passing) → length (map (λ p. p.riser) items) ≡ length items
length_mapped [] = refl
length_mapped (p ∷ ps) = ap (λ (n : ℕ). suc n) (length_mapped ps)

pub free_back : (r s : Riser) → IsFree r s → IsFree s r
free_back r s f = record {
  crossing = λ h. f.crossing (record { ends_first = h.ends_second; ends_second = h.ends_first });
  inner = λ m k h j. f.inner m k j h;
}

free_mapped : (items : List Passing) → AllPairs IsFree (map (λ p. p.riser) items) → AllPairs (λ p s. IsFree p.riser s.riser) items
free_mapped items all i j d h k =
    subst (λ (r : Riser). IsFree r (slice_index_or items j d).riser) (get_or-map (λ p. p.riser) items i d d.riser (omega arith))
    (subst (λ (r : Riser). IsFree (slice_index_or (map (λ p. p.riser) items) i d.riser) r) (get_or-map (λ p. p.riser) items j d d.riser k) (all i j d.riser h (omega (arith, length_mapped items))))

among_mapped : (rs : List Riser) (items : List Passing) → All (Contains rs) (map (λ p. p.riser) items) → All (λ p. Contains rs p.riser) items
among_mapped rs items all i d h = subst (λ (r : Riser). Contains rs r) (get_or-map (λ p. p.riser) items i d d.riser h) (all i d.riser (omega (arith, length_mapped items)))

pub order_of : (low high : ℤ) (rs : List Riser) (items sorted : List Passing) → All (λ p. IsPassing low high p.riser) items → All (λ p. IsKey (low +ℤ high) p.riser p.key) items → map (λ p. p.riser) items ≡ filter (passes low high) rs →
    AllPairs IsFree rs → IsPermutation items sorted → IsNonDecreasingBy (λ p. p.key) sorted → IsOrder low high rs sorted
order_of low high rs items sorted pass keys e free p rising = record {
  passing = All-permutation (λ p. IsPassing low high p.riser) items sorted p pass;
  keys = All-permutation (λ p. IsKey (low +ℤ high) p.riser p.key) items sorted p keys;
  rising = rising;
  free = AllPairs-reordered (λ p s. IsFree p.riser s.riser) items sorted (λ x y. free_back x.riser y.riser) p (free_mapped items (subst (λ (xs : List Riser). AllPairs IsFree xs) (sym e) (AllPairs-filter IsFree (passes low high) rs free)));
  among = All-permutation (λ p. Contains rs p.riser) items sorted p (among_mapped rs items (subst (λ (xs : List Riser). All (Contains rs) xs) (sym e) (All-filter (passes low high) (Contains rs) rs (All-contains_itself rs))));
  same = λ f. sum_by-IsPermutation (λ p. f p.riser) items sorted p ∙ sum_mapped f items ∙ ap (sum_by f) e;
}
