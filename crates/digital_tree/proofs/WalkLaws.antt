-- Walks over lists of different entries: an entry with a key is the only one with it, so nothing before it has its key.
use native.Mathlib.Omega.{arith}
use Rattle.std.specs.Prelude.{◌≡◌, ◌≤◌, ◌+◌, ℕ, Bool, true, false, ◌||◌, List, [], ◌∷◌, ◌++◌, map, filter, length, take, drop, Some, cond, refl}
use Rattle.std.specs.Option.{option_map, option_flatten}
use Rattle.std.specs.List.{find, list_any, after_first, position_or_len}
use Rattle.std.proofs.Common.{ap, sym, ◌∙◌, subst, append_assoc}
use Rattle.std.proofs.lemmas.List.{take-append-drop}
use Rattle.grid_geom.specs.declared.Bounds.{Bounds}
use Rattle.digital_tree.specs.declared.Entry.{Entry}
use Rattle.digital_tree.specs.Entries.{key_of, has_key, is_hit, first_in_walk, next_in_walk, next_in, AreDifferent, IsAbsent}
use Rattle.digital_tree.specs.Walks.{IsWalkFrom, hit_keys}
use Rattle.digital_tree.proofs.Lists.{going_on, next_append, next_absent}
use Rattle.digital_tree.proofs.Keys.{next_flat}

module _ {V : Type 0} where
  has_own : (e : Entry V) → has_key e.key e ≡ true
  has_own e = grind arith

  -- how many pass a test, one more at an entry that does
  more_passing : (t : Bool) (e : Entry V) (rest : List (Entry V)) → length rest ≤ length (cond t (e ∷ rest) rest)
  more_passing true e rest = omega arith
  more_passing false e rest = omega arith

  some_passing : (p : Entry V → Bool) (e : Entry V) (xs ys : List (Entry V)) → p e ≡ true → 1 ≤ length (filter p (xs ++ e ∷ ys))
  some_passing p e [] ys h = rw h (omega arith)
  some_passing p e (x ∷ xs) ys h = let less = more_passing (p x) x (filter p (xs ++ e ∷ ys)) in let some = some_passing p e xs ys h in omega arith

  found_passing : (p q : Entry V → Bool) (e : Entry V) (es : List (Entry V)) → find p es ≡ Some e → q e ≡ true → 1 ≤ length (filter q es)
  found_passing p q e [] h k = absurd cc
  found_passing p q e (x ∷ es) h k = by_found (p x) h (found_passing p q e es)
    where
      by_found : (t : Bool) → cond t (Some x) (find p es) ≡ Some e → (find p es ≡ Some e → q e ≡ true → 1 ≤ length (filter q es)) → 1 ≤ length (cond (q x) (x ∷ filter q es) (filter q es))
      by_found true h more = let same : x ≡ e = cc in rw (ap q same ∙ k) (omega arith)
      by_found false h more = let less = more_passing (q x) x (filter q es) in let some = more h k in omega arith

  -- where one entry at most passes, none before it does
  none_before : (p : Entry V → Bool) (e : Entry V) (xs ys : List (Entry V)) → p e ≡ true → length (filter p (xs ++ e ∷ ys)) ≤ 1 → list_any p xs ≡ false
  none_before p e [] ys h one = refl
  none_before p e (x ∷ xs) ys h one = by_first (p x) one (none_before p e xs ys h) (some_passing p e xs ys h)
    where
      by_first : (t : Bool) → length (cond t (x ∷ filter p (xs ++ e ∷ ys)) (filter p (xs ++ e ∷ ys))) ≤ 1 → (length (filter p (xs ++ e ∷ ys)) ≤ 1 → list_any p xs ≡ false) → 1 ≤ length (filter p (xs ++ e ∷ ys)) → (t || list_any p xs) ≡ false
      by_first true one more some = absurd (omega arith)
      by_first false one more some = more one

  -- after an entry the walk goes on over what stands after it
  next_after : (b : Bounds) (e : Entry V) (before after es : List (Entry V)) → es ≡ before ++ e ∷ after → AreDifferent es → next_in_walk b e.key es ≡ first_in_walk b after
  next_after b e before after es is d =
      let absent : IsAbsent e.key before = record { none = none_before (has_key e.key) e before after (has_own e) (subst (λ l. length (filter (has_key e.key) l) ≤ 1) is (d e.key)) } in
      sym (next_flat b e.key es)
      ∙ ap option_flatten (ap (next_in b e.key) is ∙ next_append b e.key before (e ∷ after)
      ∙ ap (λ found. going_on found (next_in b e.key (e ∷ after)) (first_in_walk b (e ∷ after))) (next_absent b e.key before absent)
      ∙ ap (λ t. cond t (Some (first_in_walk b after)) (next_in b e.key after)) (has_own e))

  walk_step : (b : Bounds) (es : List (Entry V)) (e : Entry V) (rest : List (Entry V)) (t : Bool) → next_in_walk b e.key es ≡ first_in_walk b rest → IsWalkFrom b es (first_in_walk b rest) (hit_keys b rest)
      → IsWalkFrom b es (option_map key_of (cond t (Some e) (find (is_hit b) rest))) (map key_of (cond t (e ∷ filter (is_hit b) rest) (filter (is_hit b) rest)))
  walk_step b es e rest true next more = (refl, subst (λ n. IsWalkFrom b es n (hit_keys b rest)) (sym next) more)
  walk_step b es e rest false next more = more

  walk_on : (b : Bounds) (es before rest : List (Entry V)) → AreDifferent es → es ≡ before ++ rest → IsWalkFrom b es (first_in_walk b rest) (hit_keys b rest)
  walk_on b es before [] d is = refl
  walk_on b es before (e ∷ rest) d is =
      walk_step b es e rest (is_hit b e) (next_after b e before rest es is d) (walk_on b es (before ++ e ∷ []) rest d (is ∙ sym (append_assoc before (e ∷ []) rest)))

  pub walks : (b : Bounds) (es : List (Entry V)) → AreDifferent es → IsWalkFrom b es (first_in_walk b es) (hit_keys b es)
  walks b es d = walk_on b es [] es d refl

  -- an entry that is found by any test is found by its key
  same_found : (p q : Entry V → Bool) (e : Entry V) (es : List (Entry V)) → length (filter q es) ≤ 1 → find p es ≡ Some e → q e ≡ true → find q es ≡ Some e
  same_found p q e [] one h k = absurd cc
  same_found p q e (x ∷ es) one h k = by_test (p x) (q x) refl one h (same_found p q e es) (found_passing p q e es)
    where
      by_test : (t u : Bool) → q x ≡ u → length (cond u (x ∷ filter q es) (filter q es)) ≤ 1 → cond t (Some x) (find p es) ≡ Some e
          → (length (filter q es) ≤ 1 → find p es ≡ Some e → q e ≡ true → find q es ≡ Some e)
          → (find p es ≡ Some e → q e ≡ true → 1 ≤ length (filter q es)) → cond u (Some x) (find q es) ≡ Some e
      by_test true true is one h more some = h
      by_test true false is one h more some = let same : x ≡ e = cc in let no_more : q e ≡ false = ap q (sym same) ∙ is in absurd cc
      by_test false true is one h more some = let left = some h k in absurd (omega arith)
      by_test false false is one h more some = more one h k

  pub found_again : (p : Entry V → Bool) (es : List (Entry V)) (e : Entry V) → AreDifferent es → find p es ≡ Some e → find (has_key e.key) es ≡ Some e
  found_again p es e d h = same_found p (has_key e.key) e es (d e.key) h (has_own e)

  behind : (q : Entry V → Bool) (e : Entry V) (xs ys : List (Entry V)) → length (filter q (xs ++ ys)) ≤ 1 → find q ys ≡ Some e → q e ≡ true → find q (xs ++ ys) ≡ Some e
  behind q e [] ys one h k = h
  behind q e (x ∷ xs) ys one h k = by_head (q x) one (behind q e xs ys) (found_passing q q e (xs ++ ys))
    where
      by_head : (t : Bool) → length (cond t (x ∷ filter q (xs ++ ys)) (filter q (xs ++ ys))) ≤ 1
          → (length (filter q (xs ++ ys)) ≤ 1 → find q ys ≡ Some e → q e ≡ true → find q (xs ++ ys) ≡ Some e)
          → (find q (xs ++ ys) ≡ Some e → q e ≡ true → 1 ≤ length (filter q (xs ++ ys))) → cond t (Some x) (find q (xs ++ ys)) ≡ Some e
      by_head true one more some = let fits : length (filter q (xs ++ ys)) ≤ 1 = omega arith in let left = some (more fits h k) k in absurd (omega arith)
      by_head false one more some = more one h k

  few_behind : (q : Entry V → Bool) (xs ys : List (Entry V)) → length (filter q (xs ++ ys)) ≤ 1 → length (filter q ys) ≤ 1
  few_behind q [] ys one = one
  few_behind q (x ∷ xs) ys one = let less = more_passing (q x) x (filter q (xs ++ ys)) in few_behind q xs ys (omega arith)

  pub found_behind : (p r : Entry V → Bool) (es : List (Entry V)) (e : Entry V) → AreDifferent es → find p (after_first r es) ≡ Some e → find (has_key e.key) es ≡ Some e
  found_behind p r es e d h =
      let n : ℕ = position_or_len r es + 1 in
      let whole : take n es ++ drop n es ≡ es = take-append-drop n es in
      let one = subst (λ l. length (filter (has_key e.key) l) ≤ 1) (sym whole) (d e.key) in
      subst (λ l. find (has_key e.key) l ≡ Some e) whole
      (behind (has_key e.key) e (take n es) (drop n es) one (same_found p (has_key e.key) e (drop n es) (few_behind (has_key e.key) (take n es) (drop n es) one) h (has_own e)) (has_own e))
