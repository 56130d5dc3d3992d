-- Entries that are put in and taken out, and the one entry of a key.
use Rattle.std.proofs.Common.{◌≡◌, ◌≢◌, ℕ, zero, suc, ◌<◌, ◌≤◌, ◌⊎◌, inl, inr, Bool, true, false, cond, nat_eq, filter, List, [], ◌∷◌, length, slice_index_or, refl, sym, ◌∙◌, subst, arith, Option, None, Some, OnSome, IfNone, Contains}
use Rattle.std.specs.List.{AllByRecursion}
use Rattle.std.proofs.lemmas.List.Elements.{All-contains_itself, recursion_from_All}
use Rattle.grid_geom.specs.declared.Bounds.{Bounds}
use Rattle.digital_tree.specs.declared.Key.{Key}
use Rattle.digital_tree.specs.declared.Entry.{Entry}
use Rattle.digital_tree.specs.Entries.{has_key, AreDifferent, IsInserted, IsRemoved}
use Rattle.digital_tree.proofs.Lists.{all_inserted, all_left, all_second}
use Rattle.front_chain.proofs.Lines.{eq_self}
use Rattle.state_law.proofs.Lists.{all_map}
use Rattle.mesh_run.proofs.StillNone.{contained}

-- what a list that is one longer has
later_has : {X : Type 0} (x y : X) (xs : List X) → Contains xs y → Contains (x ∷ xs) y
later_has x y xs c = (suc c.0, omega (arith, c.1), c.2)

-- what passes a test is among what passes it
pub passed : {X : Type 0} (p : X → Bool) (xs : List X) → AllByRecursion (λ x. p x ≡ true → Contains (filter p xs) x) xs
passed p [] = tt
passed p (x ∷ xs) = by (p x) refl (passed p xs)
  where
    clash : false ≡ true → ⊥
    clash e = cc

    by : (b : Bool) → p x ≡ b → AllByRecursion (λ y. p y ≡ true → Contains (filter p xs) y) xs → (b ≡ true → Contains (cond b (x ∷ filter p xs) (filter p xs)) x) × AllByRecursion (λ y. p y ≡ true → Contains (cond b (x ∷ filter p xs) (filter p xs)) y) xs
    by true e more = (λ f. (0, omega arith, refl), all_map (λ y. p y ≡ true → Contains (filter p xs) y) (λ y. p y ≡ true → Contains (x ∷ filter p xs) y) (λ y h f. later_has x y (filter p xs) (h f)) xs more)
    by false e more = (λ f. absurd (clash f), more)

-- of a list of one at most, each is the one
only : {X : Type 0} (f x : X) (k : ℕ) → k < length (f ∷ []) → slice_index_or (f ∷ []) k x ≡ x → f ≡ x
only f x zero w e = e
only f x (suc k) w e = absurd (omega (arith, w))

single : {X : Type 0} (fs : List X) (x y : X) → length fs ≤ 1 → Contains fs x → Contains fs y → x ≡ y
single [] x y l c d = let w = c.1 in absurd (omega (arith, w))
single (f ∷ []) x y l c d = sym (only f x c.0 c.1 c.2) ∙ only f y d.0 d.1 d.2
single (f ∷ g ∷ fs) x y l c d = absurd (omega (arith, l))

module _ {V : Type 0} where
  all_there : (es : List (Entry V)) → AllByRecursion (Contains es) es
  all_there es = recursion_from_All (Contains es) es (All-contains_itself es)

  -- an entry that is put in is there, and so is each one of before
  pub put_in : {e : Entry V} {old new : List (Entry V)} → IsInserted e old new → Contains new e
  put_in {e} {old} {new} i = (all_second (Contains new) i.before (e ∷ i.after) (subst (AllByRecursion (Contains new)) i.is (all_there new))).0

  pub still_there : {e : Entry V} {old new : List (Entry V)} → IsInserted e old new → (x : Entry V) → Contains old x → Contains new x
  still_there {e} {old} {new} i x c = contained (Contains new) old x (all_left (Contains new) i (all_there new)) c

  -- what is there once one is put in is this one, or was there
  pub was_there : {e : Entry V} {old new : List (Entry V)} → IsInserted e old new → (x : Entry V) → Contains new x → (x ≡ e) ⊎ Contains old x
  was_there {e} {old} {new} i x c =
      contained (λ y. (y ≡ e) ⊎ Contains old y) new x
      (all_inserted (λ y. (y ≡ e) ⊎ Contains old y) i (inl refl) (all_map (Contains old) (λ y. (y ≡ e) ⊎ Contains old y) (λ y h. inr h) old (all_there old))) c

  -- what is left where one is taken out was there
  pub left_was : (k : Key) (old new : List (Entry V)) (r : Option (Bounds × V)) → OnSome r (IsRemoved k old new) → IfNone r (new ≡ old) → (x : Entry V) → Contains new x → Contains old x
  left_was k old new (Some held) gone same x c = still_there gone.gone x c
  left_was k old new None gone same x c = subst (λ (es : List (Entry V)). Contains es x) same c

  -- entries with another key stay where one is taken out
  other_stays : (k : Key) {old new : List (Entry V)} → IsRemoved k old new → (x : Entry V) → Contains old x → x.key ≢ k → Contains new x
  other_stays k {old} {new} r x c differs =
      contained (λ y. y.key ≢ k → Contains new y) old x
      (all_inserted (λ y. y.key ≢ k → Contains new y) r.gone (λ other. absurd (other r.key)) (all_map (Contains new) (λ y. y.key ≢ k → Contains new y) (λ y h other. h) new (all_there new))) c differs

  pub others_stay : (k : Key) (old new : List (Entry V)) (r : Option (Bounds × V)) → OnSome r (IsRemoved k old new) → IfNone r (new ≡ old) → (x : Entry V) → Contains old x → x.key ≢ k → Contains new x
  others_stay k old new (Some held) gone same x c differs = other_stays k gone x c differs
  others_stay k old new None gone same x c differs = subst (λ (es : List (Entry V)). Contains es x) (sym same) c

  -- where no two entries have one key, entries with one key are one
  pub one_entry : (es : List (Entry V)) → AreDifferent es → (x y : Entry V) → Contains es x → Contains es y → x.key ≡ y.key → x ≡ y
  one_entry es different x y c d same =
      single (filter (has_key x.key) es) x y (different x.key)
      (contained (λ e. has_key x.key e ≡ true → Contains (filter (has_key x.key) es) e) es x (passed (has_key x.key) es) c (eq_self x.key.slot))
      (contained (λ e. has_key x.key e ≡ true → Contains (filter (has_key x.key) es) e) es y (passed (has_key x.key) es) d
      (subst (λ (k : Key). nat_eq k.slot x.key.slot ≡ true) same (eq_self x.key.slot)))
