-- Lists of entries: what holds of all of them, walks over two lists, and entries put in and taken out.
use Rattle.std.specs.Prelude.{◌≡◌, ◌≤◌, Bool, true, false, ◌||◌, List, [], ◌∷◌, ◌++◌, length, filter, Option, Some, None, cond, refl}
use Rattle.std.specs.Option.{option_map, option_or}
use Rattle.std.specs.List.{AllByRecursion, find}
use Rattle.std.proofs.Common.{ap, sym, ◌∙◌, subst, append_assoc, append-nil, length-append, arith}
use Rattle.std.proofs.lemmas.List.Folds.{find-append, list_any-append}
use Rattle.grid_geom.specs.declared.Bounds.{Bounds}
use Rattle.digital_tree.specs.declared.Key.{Key}
use Rattle.digital_tree.specs.declared.Entry.{Entry}
use Rattle.digital_tree.specs.Entries.{key_of, has_key, is_hit, first_in_walk, next_in, IsInserted, IsRemoved, IsAbsent}

-- what holds of all of two lists, of one that an entry is put in, and of one that it is taken from
module _ {X : Type 0} (P : X → Type 0) where
  pub all_append : (xs ys : List X) → AllByRecursion P xs → AllByRecursion P ys → AllByRecursion P (xs ++ ys)
  all_append [] ys h k = k
  all_append (x ∷ xs) ys h k = (h.0, all_append xs ys h.1 k)

  pub all_first : (xs ys : List X) → AllByRecursion P (xs ++ ys) → AllByRecursion P xs
  all_first [] ys h = tt
  all_first (x ∷ xs) ys h = (h.0, all_first xs ys h.1)

  pub all_second : (xs ys : List X) → AllByRecursion P (xs ++ ys) → AllByRecursion P ys
  all_second [] ys h = h
  all_second (x ∷ xs) ys h = all_second xs ys h.1

  all_but : (x : X) (xs ys : List X) → AllByRecursion P (xs ++ x ∷ ys) → AllByRecursion P (xs ++ ys)
  all_but x [] ys h = h.1
  all_but x (y ∷ xs) ys h = (h.0, all_but x xs ys h.1)

  all_with : (x : X) (xs ys : List X) → P x → AllByRecursion P (xs ++ ys) → AllByRecursion P (xs ++ x ∷ ys)
  all_with x [] ys p h = (p, h)
  all_with x (y ∷ xs) ys p h = (h.0, all_with x xs ys p h.1)

or_first : (p q : Bool) → (p || q) ≡ false → p ≡ false
or_first true q h = h
or_first false q h = refl

or_second : (p q : Bool) → (p || q) ≡ false → q ≡ false
or_second true q h = absurd cc
or_second false q h = h

-- a walk goes on from a hit of a first list, and else over a second one
abbrev pub going_on : Option (Option Key) → Option (Option Key) → Option Key → Option (Option Key)
going_on None second first = second
going_on (Some found) second first = Some (option_or found first)

module _ {V : Type 0} where
  pub all_inserted : (P : Entry V → Type 0) {e : Entry V} {old new : List (Entry V)} → IsInserted e old new → P e → AllByRecursion P old → AllByRecursion P new
  all_inserted P {e} i p h = subst (AllByRecursion P) (sym i.is) (all_with P e i.before i.after p (subst (AllByRecursion P) i.was h))

  pub all_left : (P : Entry V → Type 0) {e : Entry V} {old new : List (Entry V)} → IsInserted e new old → AllByRecursion P old → AllByRecursion P new
  all_left P {e} i h = subst (AllByRecursion P) (sym i.was) (all_but P e i.before i.after (subst (AllByRecursion P) i.is h))

  -- an entry put in one of two lists
  pub inserted_first : {e : Entry V} {old new : List (Entry V)} (rest : List (Entry V)) → IsInserted e old new → IsInserted e (old ++ rest) (new ++ rest)
  inserted_first {e} rest i = record {
    before = i.before;
    after = i.after ++ rest;
    was = ap (λ xs. xs ++ rest) i.was ∙ append_assoc i.before i.after rest;
    is = ap (λ xs. xs ++ rest) i.is ∙ append_assoc i.before (e ∷ i.after) rest;
  }

  pub inserted_second : {e : Entry V} {old new : List (Entry V)} (front : List (Entry V)) → IsInserted e old new → IsInserted e (front ++ old) (front ++ new)
  inserted_second {e} front i = record {
    before = front ++ i.before;
    after = i.after;
    was = ap (λ xs. front ++ xs) i.was ∙ sym (append_assoc front i.before i.after);
    is = ap (λ xs. front ++ xs) i.is ∙ sym (append_assoc front i.before (e ∷ i.after));
  }

  pub inserted_last : (e : Entry V) (old new : List (Entry V)) → new ≡ old ++ e ∷ [] → IsInserted e old new
  inserted_last e old new is = record { before = old; after = []; was = sym (append-nil old); is = is }

  pub inserted_head : (e : Entry V) (old new : List (Entry V)) → new ≡ e ∷ old → IsInserted e old new
  inserted_head e old new is = record { before = []; after = old; was = refl; is = is }

  pub removed_first : {k : Key} {old new : List (Entry V)} (rest : List (Entry V)) → IsRemoved k old new → IsRemoved k (old ++ rest) (new ++ rest)
  removed_first rest r = record { entry = r.entry; key = r.key; gone = inserted_first rest r.gone }

  pub removed_second : {k : Key} {old new : List (Entry V)} (front : List (Entry V)) → IsRemoved k old new → IsRemoved k (front ++ old) (front ++ new)
  removed_second front r = record { entry = r.entry; key = r.key; gone = inserted_second front r.gone }

  pub some_inserted : {e : Entry V} {old new : List (Entry V)} → IsInserted e old new → 1 ≤ length new
  some_inserted {e} i = rw i.is (rw (length-append i.before (e ∷ i.after)) (omega arith))

  -- a walk over two lists
  pub first_append : (b : Bounds) (xs ys : List (Entry V)) → first_in_walk b (xs ++ ys) ≡ option_or (first_in_walk b xs) (first_in_walk b ys)
  first_append b xs ys = ap (option_map key_of) (find-append (is_hit b) xs ys) ∙ mapped (find (is_hit b) xs) (find (is_hit b) ys)
    where
      mapped : (u w : Option (Entry V)) → option_map key_of (option_or u w) ≡ option_or (option_map key_of u) (option_map key_of w)
      mapped None w = refl
      mapped (Some e) w = refl

  -- of a list in two parts, the first hit is that of the first part, and else that of the second
  pub first_here : (b : Bounds) (xs ys d : List (Entry V)) (k : Key) → d ≡ xs ++ ys → first_in_walk b xs ≡ Some k → Some k ≡ first_in_walk b d
  first_here b xs ys d k e h = sym (ap (first_in_walk b) e ∙ first_append b xs ys ∙ ap (λ f. option_or f (first_in_walk b ys)) h)

  pub first_there : (b : Bounds) (xs ys d : List (Entry V)) → d ≡ xs ++ ys → first_in_walk b xs ≡ None → first_in_walk b ys ≡ first_in_walk b d
  first_there b xs ys d e h = sym (ap (first_in_walk b) e ∙ first_append b xs ys ∙ ap (λ f. option_or f (first_in_walk b ys)) h)

  pub first_missed : (b : Bounds) (es : List (Entry V)) → AllByRecursion (λ e. is_hit b e ≡ false) es → first_in_walk b es ≡ None
  first_missed b [] h = refl
  first_missed b (e ∷ es) h = ap (λ t. option_map key_of (cond t (Some e) (find (is_hit b) es))) h.0 ∙ first_missed b es h.1

  next_step : (b : Bounds) (k : Key) (t : Bool) (xs ys : List (Entry V)) → next_in b k (xs ++ ys) ≡ going_on (next_in b k xs) (next_in b k ys) (first_in_walk b ys)
      → cond t (Some (first_in_walk b (xs ++ ys))) (next_in b k (xs ++ ys)) ≡ going_on (cond t (Some (first_in_walk b xs)) (next_in b k xs)) (next_in b k ys) (first_in_walk b ys)
  next_step b k true xs ys h = ap Some (first_append b xs ys)
  next_step b k false xs ys h = h

  filter_step : (p : Bool) (e : Entry V) (rest : List (Entry V)) → p ≡ false → rest ≡ [] → cond p (e ∷ rest) rest ≡ []
  filter_step p e rest h k = ap (λ t. cond t (e ∷ rest) rest) h ∙ k

  pub hits_missed : (b : Bounds) (es : List (Entry V)) → AllByRecursion (λ e. is_hit b e ≡ false) es → filter (is_hit b) es ≡ []
  hits_missed b [] h = refl
  hits_missed b (e ∷ es) h = filter_step (is_hit b e) e (filter (is_hit b) es) h.0 (hits_missed b es h.1)

  pub next_append : (b : Bounds) (k : Key) (xs ys : List (Entry V)) → next_in b k (xs ++ ys) ≡ going_on (next_in b k xs) (next_in b k ys) (first_in_walk b ys)
  next_append b k [] ys = refl
  next_append b k (e ∷ xs) ys = next_step b k (has_key k e) xs ys (next_append b k xs ys)

  pub next_absent : (b : Bounds) (k : Key) (es : List (Entry V)) → IsAbsent k es → next_in b k es ≡ None
  next_absent b k [] h = refl
  next_absent b k (e ∷ es) h = ap (λ t. cond t (Some (first_in_walk b es)) (next_in b k es)) (or_first _ _ h.none) ∙ next_absent b k es (record { none = or_second (has_key k e) _ h.none })

  pub next_here : (b : Bounds) (k : Key) (xs ys d : List (Entry V)) (found : Option Key) → d ≡ xs ++ ys → next_in b k xs ≡ Some found
      → Some (option_or found (first_in_walk b ys)) ≡ next_in b k d
  next_here b k xs ys d found e h = sym (ap (next_in b k) e ∙ next_append b k xs ys ∙ ap (λ f. going_on f (next_in b k ys) (first_in_walk b ys)) h)

  pub next_there : (b : Bounds) (k : Key) (xs ys d : List (Entry V)) → d ≡ xs ++ ys → next_in b k xs ≡ None → next_in b k ys ≡ next_in b k d
  next_there b k xs ys d e h = sym (ap (next_in b k) e ∙ next_append b k xs ys ∙ ap (λ f. going_on f (next_in b k ys) (first_in_walk b ys)) h)

  pub absent_append : (k : Key) (xs ys : List (Entry V)) → IsAbsent k xs → IsAbsent k ys → IsAbsent k (xs ++ ys)
  absent_append k xs ys h j = record { none = list_any-append (has_key k) xs ys ∙ rw (h.none, j.none) refl }
