-- The ends of risers as events: each riser begins once and ends once, and sorted by their keys the events don't fall.
use Rattle.std.proofs.Common.{◌≡◌, ℕ, suc, ◌+◌, ◌*◌, ◌<◌, ◌≤◌, Bool, true, false, cond, List, [], ◌∷◌, ◌++◌, length, slice_index_or, sum_by, sym, ◌∙◌, ap, subst, arith}
use Rattle.std.proofs.lemmas.List.{get_or_default}
use Rattle.std.proofs.lemmas.List.Elements.{All-push}
use Rattle.std.proofs.lemmas.List.Sums.{sum_by-append, sum_by-cons}
use Rattle.std.proofs.lemmas.List.Sorted.{sum_by-IsPermutation, All-permutation}
use Rattle.std.specs.List.Sorted.{IsPermutation, IsNonDecreasingBy}
use Rattle.geom_check.specs.declared.risers.Riser.{Riser}
use Rattle.geom_check.specs.declared.events.Event.{Event}
use Rattle.geom_check.specs.declared.limits.TheConstants.{KEYS}
use Rattle.geom_check.specs.Walk.{riser_at, IsEnd, IsEndOf, AreEndsOf, AreRising, sum_to, begun, ended}

-- ---- the ends of one more riser
-- an end of the riser at a place of the list
pub record IsEndAt (risers : List Riser) (id : ℕ) (d : Riser) (upper : Bool) (e : Event) : Type 0 where
  pub end : IsEnd (slice_index_or risers id d) e
  pub id_is : e.id ≡ id
  pub upper_is : e.is_upper ≡ upper

end_of : (risers : List Riser) (id : ℕ) (d : Riser) (upper : Bool) (e : Event) → id < length risers → IsEndAt risers id d upper e → IsEndOf risers e
end_of risers id d upper e h x = record {
  in_list = subst (λ (n : ℕ). n < length risers) (sym x.id_is) h;
  end = subst (λ (n : ℕ). IsEnd (riser_at risers n) e) (sym x.id_is) (subst (λ (r : Riser). IsEnd r e) (get_or_default risers id d _ h) x.end);
}

sum_pushed : (f : Event → ℕ) (xs : List Event) (x : Event) → sum_by f (xs ++ x ∷ []) ≡ sum_by f xs + f x
sum_pushed f xs x = sum_by-append f xs (x ∷ []) ∙ ap (λ (n : ℕ). sum_by f xs + n) (sum_by-cons f x [] ∙ none (f x))
  where
    none : (n : ℕ) → n + 0 ≡ n
    none n = omega arith

pub both_pushed : (risers : List Riser) (id : ℕ) (d : Riser) (events mid new : List Event) (low high : Event) → id < length risers → IsEndAt risers id d false low → IsEndAt risers id d true high → mid ≡ events ++ low ∷ [] → new ≡ mid ++ high ∷ []
    → AreEndsOf risers id events → AreEndsOf risers (id + 1) new
both_pushed risers id d events mid new low high h l u e g a = subst (λ (xs : List Event). AreEndsOf risers (id + 1) xs) (sym (g ∙ ap (λ (xs : List Event). xs ++ high ∷ []) e)) (record {
  each = All-push (IsEndOf risers) (events ++ low ∷ []) high (All-push (IsEndOf risers) events low a.each (end_of risers id d false low h l)) (end_of risers id d true high h u);
  begins = λ f. sum_pushed (begun f) (events ++ low ∷ []) high ∙ three (sum_pushed (begun f) events low) (a.begins f) (of_low f) (none f) ∙ next f id;
  ends = λ f. sum_pushed (ended f) (events ++ low ∷ []) high ∙ three (sum_pushed (ended f) events low) (a.ends f) (nothing f) (of_high f) ∙ turned f ∙ next f id;
})
  where
    three : {m s t x y u v : ℕ} → m ≡ s + x → s ≡ t → x ≡ u → y ≡ v → m + y ≡ t + u + v
    three {m} {s} {t} {x} {y} {u} {v} e f g h = omega arith

    of_low : (f : ℕ → ℕ) → begun f low ≡ f id
    of_low f = ap (λ (b : Bool). cond b 0 (f low.id)) l.upper_is ∙ ap f l.id_is

    none : (f : ℕ → ℕ) → begun f high ≡ 0
    none f = ap (λ (b : Bool). cond b 0 (f high.id)) u.upper_is

    nothing : (f : ℕ → ℕ) → ended f low ≡ 0
    nothing f = ap (λ (b : Bool). cond b (f low.id) 0) l.upper_is

    of_high : (f : ℕ → ℕ) → ended f high ≡ f id
    of_high f = ap (λ (b : Bool). cond b (f high.id) 0) u.upper_is ∙ ap f u.id_is

    turned : (f : ℕ → ℕ) → sum_to id f + 0 + f id ≡ sum_to id f + f id + 0
    turned f = omega arith

    next : (f : ℕ → ℕ) (n : ℕ) → sum_to n f + f n + 0 ≡ sum_to (n + 1) f
    next f n = zero_more (sum_to n f + f n) ∙ ap (λ (m : ℕ). sum_to m f) (after n)
      where
        zero_more : (n : ℕ) → n + 0 ≡ n
        zero_more n = omega arith

        after : (n : ℕ) → suc n ≡ n + 1
        after n = omega arith

-- ---- sorted
pub sorted_ends : (risers : List Riser) (count : ℕ) (xs ys : List Event) → IsPermutation xs ys → AreEndsOf risers count xs → AreEndsOf risers count ys
sorted_ends risers count xs ys p a = record {
  each = All-permutation (IsEndOf risers) xs ys p a.each;
  begins = λ f. sum_by-IsPermutation (begun f) xs ys p ∙ a.begins f;
  ends = λ f. sum_by-IsPermutation (ended f) xs ys p ∙ a.ends f;
}

pub rising_levels : (risers : List Riser) (count : ℕ) (events : List Event) → AreEndsOf risers count events → IsNonDecreasingBy (λ e. e.key) events → AreRising events
rising_levels risers count events a up i j d h l =
    levels (slice_index_or events i d).level (slice_index_or events j d).level (slice_index_or events i d).key (slice_index_or events j d).key
    (a.each i d (omega (arith, h, l))).end.from_level (a.each j d l).end.below_next (up i j d h l)
  where
    levels : (m n k l : ℕ) → m * KEYS ≤ k → l < (n + 1) * KEYS → k ≤ l → m ≤ n
    levels m n k l e f g = omega (arith, e, f, g)
