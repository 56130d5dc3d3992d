-- Entries and what is held under their keys: each key has one entry at most, and an entry that is put in or taken out changes what is held under its key alone.
use native.Mathlib.Omega.{arith}
use Rattle.std.specs.Prelude.{◌≡◌, ◌≢◌, ◌≤◌, ◌+◌, ℕ, suc, Bool, true, false, not, ◌||◌, List, [], ◌∷◌, ◌++◌, map, filter, length, drop, Option, Some, None, cond, refl}
use Rattle.std.specs.Option.{option_map, option_to_list, option_flatten}
use Rattle.std.specs.List.{AllByRecursion, find, list_any, position_or_len}
use Rattle.std.proofs.Common.{ap, sym, ◌∙◌, subst}
use Rattle.std.proofs.lemmas.List.Elements.{filter-append}
use Rattle.std.proofs.lemmas.List.{map-append}
use Rattle.slab.specs.Slab.{Slab, get, Updates}
use Rattle.grid_geom.specs.declared.Bounds.{Bounds}
use Rattle.digital_tree.specs.declared.Key.{Key}
use Rattle.digital_tree.specs.declared.Entry.{Entry}
use Rattle.digital_tree.specs.Entries.{key_of, has_key, held, is_hit, first_in_walk, next_in_walk, next_in, AreDifferent, IsInserted, IsRemoved, IsAbsent, IsSpot}
use Rattle.digital_tree.specs.Kept.{AreKept}

abbrev first_of : {X : Type 0} → List X → Option X
first_of [] = None
first_of (x ∷ xs) = Some x

first_listed : {X : Type 0} (o : Option X) → first_of (option_to_list o) ≡ o
first_listed None = refl
first_listed (Some x) = refl

few_listed : {X : Type 0} (o : Option X) → length (option_to_list o) ≤ 1
few_listed None = omega arith
few_listed (Some x) = omega arith

length_map : {X Y : Type 0} (f : X → Y) (xs : List X) → length (map f xs) ≡ length xs
length_map f [] = refl
length_map f (x ∷ xs) = ap suc (length_map f xs)

surely : {P : Type 0} (t : Bool) → (t ≡ true → P) → (t ≡ false → ⊥) → P
surely true h k = h refl
surely false h k = absurd (k refl)

module _ {V : Type 0} where
  find_step : (t : Bool) (e : Entry V) (f : Option (Entry V)) (rest : List (Entry V)) → option_map held f ≡ first_of (map held rest)
      → option_map held (cond t (Some e) f) ≡ first_of (map held (cond t (e ∷ rest) rest))
  find_step true e f rest h = refl
  find_step false e f rest h = h

  find_filter : (p : Entry V → Bool) (es : List (Entry V)) → option_map held (find p es) ≡ first_of (map held (filter p es))
  find_filter p [] = refl
  find_filter p (e ∷ es) = find_step (p e) e (find p es) (filter p es) (find_filter p es)

  -- what the entry with a key holds
  pub kept_found : (es : List (Entry V)) (kept : Slab (Bounds × V)) (k : Key) → AreKept es kept → option_map held (find (has_key k) es) ≡ get kept k.slot
  kept_found es kept k a = find_filter (has_key k) es ∙ ap first_of (a.same k) ∙ first_listed (get kept k.slot)

  pub kept_different : (es : List (Entry V)) (kept : Slab (Bounds × V)) → AreKept es kept → AreDifferent es
  kept_different es kept a = λ k.
      subst (λ n. n ≤ 1) (length_map held (filter (has_key k) es)) (rw (a.same k) (few_listed (get kept k.slot)))

  -- a key under which nothing is held
  none_step : (t : Bool) (e : Entry V) (rest : List (Entry V)) (more : Bool) → map held (cond t (e ∷ rest) rest) ≡ [] → (map held rest ≡ [] → more ≡ false) → (t || more) ≡ false
  none_step true e rest more h k = absurd cc
  none_step false e rest more h k = k h

  none_held : (p : Entry V → Bool) (es : List (Entry V)) → map held (filter p es) ≡ [] → list_any p es ≡ false
  none_held p [] h = refl
  none_held p (e ∷ es) h = none_step (p e) e (filter p es) (list_any p es) h (none_held p es)

  pub kept_absent : (es : List (Entry V)) (kept : Slab (Bounds × V)) (k : Key) → AreKept es kept → get kept k.slot ≡ None → IsAbsent k es
  kept_absent es kept k a h = record { none = none_held (has_key k) es (a.same k ∙ ap option_to_list h) }

  -- a key under which something is held
  some_step : (t : Bool) (e : Entry V) (rest : List (Entry V)) (more : Bool) → (t || more) ≡ false → (more ≡ false → map held rest ≡ []) → map held (cond t (e ∷ rest) rest) ≡ []
  some_step true e rest more h k = absurd cc
  some_step false e rest more h k = k h

  some_held : (p : Entry V → Bool) (es : List (Entry V)) → list_any p es ≡ false → map held (filter p es) ≡ []
  some_held p [] h = refl
  some_held p (e ∷ es) h = some_step (p e) e (filter p es) (list_any p es) h (some_held p es)

  kept_there : (es : List (Entry V)) (kept : Slab (Bounds × V)) (k : Key) (x : Bounds × V) → AreKept es kept → get kept k.slot ≡ Some x → IsAbsent k es → ⊥
  kept_there es kept k x a h none = let e : [] ≡ x ∷ [] = sym (some_held (has_key k) es none.none) ∙ a.same k ∙ ap option_to_list h in absurd cc

  spot_step : (b : Bounds) (t : Bool) (e : Entry V) (rest : List (Entry V)) → AllByRecursion (λ x. x.0 ≡ b) (map held (cond t (e ∷ rest) rest)) → t ≡ true → e.bounds ≡ b
  spot_step b true e rest h is = h.0
  spot_step b false e rest h is = absurd cc

  rest_step : (b : Bounds) (t : Bool) (e : Entry V) (rest : List (Entry V)) → AllByRecursion (λ x. x.0 ≡ b) (map held (cond t (e ∷ rest) rest)) → AllByRecursion (λ x. x.0 ≡ b) (map held rest)
  rest_step b true e rest h = h.1
  rest_step b false e rest h = h

  spots : (b : Bounds) (p : Entry V → Bool) (es : List (Entry V)) → AllByRecursion (λ x. x.0 ≡ b) (map held (filter p es)) → AllByRecursion (λ e. p e ≡ true → e.bounds ≡ b) es
  spots b p [] h = tt
  spots b p (e ∷ es) h = (spot_step b (p e) e (filter p es) h, spots b p es (rest_step b (p e) e (filter p es) h))

  pub kept_spot : (es : List (Entry V)) (kept : Slab (Bounds × V)) (k : Key) (x : Bounds × V) → AreKept es kept → get kept k.slot ≡ Some x → IsSpot k x.0 es
  kept_spot es kept k x a h = record { box = spots x.0 (has_key k) es (subst (AllByRecursion (λ y. y.0 ≡ x.0)) (sym (a.same k ∙ ap option_to_list h)) (refl, tt)) }

  -- the next hit, where the key is there and where it isn't
  one_more : (e : Entry V) (es : List (Entry V)) (n : ℕ) → drop (1 + n + 1) (e ∷ es) ≡ drop (n + 1) es
  one_more e es n = let m : 1 + n + 1 ≡ suc (n + 1) = omega arith in ap (λ m. drop m (e ∷ es)) m

  next_step : (b : Bounds) (k : Key) (t : Bool) (e : Entry V) (es : List (Entry V)) (n : ℕ) → option_flatten (next_in b k es) ≡ option_map key_of (find (is_hit b) (drop (n + 1) es))
      → option_flatten (cond t (Some (first_in_walk b es)) (next_in b k es)) ≡ option_map key_of (find (is_hit b) (drop (cond (not t) (1 + n) 0 + 1) (e ∷ es)))
  next_step b k true e es n h = refl
  next_step b k false e es n h = h ∙ ap (λ xs. option_map key_of (find (is_hit b) xs)) (sym (one_more e es n))

  pub next_flat : (b : Bounds) (k : Key) (es : List (Entry V)) → option_flatten (next_in b k es) ≡ next_in_walk b k es
  next_flat b k [] = refl
  next_flat b k (e ∷ es) = next_step b k (has_key k e) e es (position_or_len (has_key k) es) (next_flat b k es)

  -- what is held under a key once an entry is put in
  filter_but : (p : Entry V → Bool) (e : Entry V) (xs ys : List (Entry V)) → p e ≡ false → filter p (xs ++ e ∷ ys) ≡ filter p (xs ++ ys)
  filter_but p e xs ys h = filter-append p xs (e ∷ ys) ∙ ap (λ t. filter p xs ++ cond t (e ∷ filter p ys) (filter p ys)) h ∙ sym (filter-append p xs ys)

  -- what is held under a key once an entry is put in or taken out: the same under other keys
  same_but : (es more : List (Entry V)) (e : Entry V) (k : Key) → IsInserted e es more → has_key k e ≡ false → map held (filter (has_key k) more) ≡ map held (filter (has_key k) es)
  same_but es more e k i h = rw (i.is, i.was) (ap (map held) (filter_but (has_key k) e i.before i.after h))

  here_step : (h : Bounds × V) (xs ys : List (Bounds × V)) → xs ++ ys ≡ [] → xs ++ h ∷ ys ≡ h ∷ []
  here_step h [] ys e = ap (λ l. h ∷ l) e
  here_step h (x ∷ xs) ys e = absurd cc

  gone_step : (h x : Bounds × V) (xs ys : List (Bounds × V)) → xs ++ h ∷ ys ≡ x ∷ [] → xs ++ ys ≡ []
  gone_step h x [] ys e = cc
  gone_step h x (z ∷ []) ys e = absurd cc
  gone_step h x (z ∷ y ∷ xs) ys e = absurd cc

  -- the held of two lists, and of two with an entry between
  both_held : (p : Entry V → Bool) (xs ys : List (Entry V)) → map held (filter p (xs ++ ys)) ≡ map held (filter p xs) ++ map held (filter p ys)
  both_held p xs ys = ap (map held) (filter-append p xs ys) ∙ map-append held (filter p xs) (filter p ys)

  between_held : (p : Entry V → Bool) (e : Entry V) (xs ys : List (Entry V)) → p e ≡ true → map held (filter p (xs ++ e ∷ ys)) ≡ map held (filter p xs) ++ held e ∷ map held (filter p ys)
  between_held p e xs ys h = both_held p xs (e ∷ ys) ∙ ap (λ t. map held (filter p xs) ++ map held (cond t (e ∷ filter p ys) (filter p ys))) h

  put_here : (es more : List (Entry V)) (e : Entry V) (k : Key) → IsInserted e es more → has_key k e ≡ true → map held (filter (has_key k) es) ≡ [] → map held (filter (has_key k) more) ≡ held e ∷ []
  put_here es more e k i h none =
      ap (λ l. map held (filter (has_key k) l)) i.is ∙ between_held (has_key k) e i.before i.after h
      ∙ here_step (held e) _ _ (sym (both_held (has_key k) i.before i.after) ∙ ap (λ l. map held (filter (has_key k) l)) (sym i.was) ∙ none)

  taken_here : (es more : List (Entry V)) (e : Entry V) (k : Key) (x : Bounds × V) → IsInserted e es more → has_key k e ≡ true → map held (filter (has_key k) more) ≡ x ∷ [] → map held (filter (has_key k) es) ≡ []
  taken_here es more e k x i h one =
      ap (λ l. map held (filter (has_key k) l)) i.was ∙ both_held (has_key k) i.before i.after
      ∙ gone_step (held e) x _ _ (sym (between_held (has_key k) e i.before i.after h) ∙ ap (λ l. map held (filter (has_key k) l)) (sym i.is) ∙ one)

  same_slot : (e : Entry V) (k : Key) → has_key k e ≡ true → k.slot ≡ e.key.slot
  same_slot e k h = grind arith

  other_slot : (e : Entry V) (k : Key) → has_key k e ≡ false → k.slot ≢ e.key.slot
  other_slot e k h = λ same. let wrong : has_key k e ≡ true = grind arith in absurd cc

  -- an entry put in, under a key that was free, and held under it
  record IsPut (es more : List (Entry V)) (kept new : Slab (Bounds × V)) (e : Entry V) : Type 0 where
    was : AreKept es kept
    put : IsInserted e es more
    free : get kept e.key.slot ≡ None
    updates : Updates kept new e.key.slot (Some (held e))

  put_at : (es more : List (Entry V)) (kept new : Slab (Bounds × V)) (e : Entry V) → IsPut es more kept new e → (k : Key) (t : Bool) → has_key k e ≡ t → map held (filter (has_key k) more) ≡ option_to_list (get new k.slot)
  put_at es more kept new e p k true h =
      let same = same_slot e k h in
      put_here es more e k p.put h (p.was.same k ∙ ap option_to_list (ap (get kept) same ∙ p.free)) ∙ ap option_to_list (sym (ap (get new) same ∙ p.updates.changed))
  put_at es more kept new e p k false h =
      same_but es more e k p.put h ∙ p.was.same k ∙ ap option_to_list (sym (p.updates.others k.slot (other_slot e k h)))

  pub kept_inserted : (es more : List (Entry V)) (kept new : Slab (Bounds × V)) (e : Entry V) → AreKept es kept → IsInserted e es more
      → get kept e.key.slot ≡ None → Updates kept new e.key.slot (Some (held e)) → AreKept more new
  kept_inserted es more kept new e a i free u = record { same = λ k. put_at es more kept new e (record { was = a; put = i; free = free; updates = u }) k (has_key k e) refl }

  -- an entry taken out, and nothing held under its key any more
  record IsTakenOut (es less : List (Entry V)) (kept new : Slab (Bounds × V)) (e : Entry V) : Type 0 where
    was : AreKept es kept
    out : IsInserted e less es
    held : Bounds × V
    there : get kept e.key.slot ≡ Some held
    updates : Updates kept new e.key.slot None

  out_at : (es less : List (Entry V)) (kept new : Slab (Bounds × V)) (e : Entry V) → IsTakenOut es less kept new e → (k : Key) (t : Bool) → has_key k e ≡ t → map held (filter (has_key k) less) ≡ option_to_list (get new k.slot)
  out_at es less kept new e o k true h =
      let same = same_slot e k h in
      taken_here less es e k o.held o.out h (o.was.same k ∙ ap option_to_list (ap (get kept) same ∙ o.there)) ∙ ap option_to_list (sym (ap (get new) same ∙ o.updates.changed))
  out_at es less kept new e o k false h =
      sym (same_but less es e k o.out h) ∙ o.was.same k ∙ ap option_to_list (sym (o.updates.others k.slot (other_slot e k h)))

  pub kept_removed : (es less : List (Entry V)) (kept new : Slab (Bounds × V)) (k : Key) (x : Bounds × V) → AreKept es kept → IsRemoved k es less
      → get kept k.slot ≡ Some x → Updates kept new k.slot None → AreKept less new
  kept_removed es less kept new k x a r was u =
      let slot : k.slot ≡ r.entry.key.slot = ap (λ k. k.slot) (sym r.key) in
      record {
        same = λ j. out_at es less kept new r.entry (record {
          was = a;
          out = r.gone;
          held = x;
          there = subst (λ s. get kept s ≡ Some x) slot was;
          updates = subst (λ s. Updates kept new s None) slot u;
        }) j (has_key j r.entry) refl;
      }

  -- an entry that is held is there to be taken out
  pub sure_removed : (es less : List (Entry V)) (kept : Slab (Bounds × V)) (k : Key) (x : Bounds × V) (was_here : Bool) → AreKept es kept → get kept k.slot ≡ Some x
      → (was_here ≡ true → IsRemoved k es less) → (was_here ≡ false → IsSpot k x.0 es → IsAbsent k es) → IsRemoved k es less
  sure_removed es less kept k x was_here a is removed absent =
      surely was_here removed (λ e. kept_there es kept k x a is (absent e (kept_spot es kept k x a is)))
