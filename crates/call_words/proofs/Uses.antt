-- The rows of `clap` where each argument was used once, with one value.
use Rattle.std.proofs.Common.{◌≡◌, Bool, true, false, cond, List, [], ◌∷◌, ◌++◌, ◌||◌, map, Option, Some, None, is_some, refl, ap}
use Rattle.std.specs.Prelude.{slice_get, option_and_then, find}
use Rattle.std.specs.Option.{option_map_or}
use Rattle.std.specs.Str.{bytes_eq}
use Rattle.std.specs.Cmp.Lexicographic.{bytes_decides}
use Rattle.clap.specs.Facts.{explicit_source}
use Rattle.clap.specs.Walk.{Row, Text, has_row, first_of, without, with_values, more_values}
use Rattle.clap.specs.Takes.{is_given}
use Rattle.clap.specs.declared.builder.value_parser.Reading.TheVariants.{AsWritten}
use Rattle.clap.specs.declared.parser.matches.ValueSource.TheVariants.{CommandLine}

-- the arguments that were used, by their ids, in order, each with its value
abbrev pub Uses : Type 0
Uses = List (Text × Text)

abbrev pub row : Text × Text → Row
row p = record { id = p.0; values = p.1 ∷ []; count = None; source = Some CommandLine; reading = AsWritten }

abbrev pub value_for : Text → Uses → Option Text
value_for id [] = None
value_for id (p ∷ us) = cond (bytes_eq p.0 id) (Some p.1) (value_for id us)

pub has_is : (id : Text) (us : Uses) → has_row id (map row us) ≡ is_some (value_for id us)
has_is id [] = refl
has_is id (p ∷ us) = go (bytes_eq p.0 id) (has_is id us)
  where
    go : (b : Bool) → has_row id (map row us) ≡ is_some (value_for id us) → (b || has_row id (map row us)) ≡ is_some (cond b (Some p.1) (value_for id us))
    go true h = refl
    go false h = h

abbrev explicit : Option Row → Bool
explicit o = option_map_or (λ r. explicit_source r.source) o false

abbrev found_row : Text → List Row → Option Row
found_row id rows = find (λ r. bytes_eq r.id id) rows

pub given_is : (id : Text) (us : Uses) → is_given id (map row us) ≡ is_some (value_for id us)
given_is id [] = refl
given_is id (p ∷ us) = go (bytes_eq p.0 id) (given_is id us)
  where
    go : (b : Bool) → is_given id (map row us) ≡ is_some (value_for id us) → explicit (cond b (Some (row p)) (found_row id (map row us))) ≡ is_some (cond b (Some p.1) (value_for id us))
    go true h = refl
    go false h = h

abbrev first_text : Option Row → Option Text
first_text o = option_and_then (λ r. slice_get r.values 0) o

pub first_is : (id : Text) (us : Uses) → first_of id (map row us) ≡ value_for id us
first_is id [] = refl
first_is id (p ∷ us) = go (bytes_eq p.0 id) (first_is id us)
  where
    go : (b : Bool) → first_of id (map row us) ≡ value_for id us → first_text (cond b (Some (row p)) (found_row id (map row us))) ≡ cond b (Some p.1) (value_for id us)
    go true h = refl
    go false h = h

-- an argument that wasn't used yet is added at the end
pub none_without : (id : Text) (us : Uses) → value_for id us ≡ None → without id (map row us) ≡ map row us
none_without id [] e = refl
none_without id (p ∷ us) e = go (bytes_eq p.0 id) (none_without id us) e
  where
    go : (b : Bool) → (value_for id us ≡ None → without id (map row us) ≡ map row us) → cond b (Some p.1) (value_for id us) ≡ None → cond b (map row us) (row p ∷ without id (map row us)) ≡ row p ∷ map row us
    go true h e = absurd cc
    go false h e = ap (λ (rs : List Row). row p ∷ rs) (h e)

pub none_added : (id v : Text) (us : Uses) → value_for id us ≡ None → with_values id AsWritten CommandLine (v ∷ []) (map row us) ≡ map row (us ++ (id, v) ∷ [])
none_added id v [] e = refl
none_added id v (p ∷ us) e = go (bytes_eq p.0 id) (none_added id v us) e
  where
    go : (b : Bool) → (value_for id us ≡ None → with_values id AsWritten CommandLine (v ∷ []) (map row us) ≡ map row (us ++ (id, v) ∷ [])) → cond b (Some p.1) (value_for id us) ≡ None → cond b (more_values CommandLine (v ∷ []) (row p) ++ map row us) (row p ∷ with_values id AsWritten CommandLine (v ∷ []) (map row us)) ≡ row p ∷ map row (us ++ (id, v) ∷ [])
    go true h e = absurd cc
    go false h e = ap (λ (rs : List Row). row p ∷ rs) (h e)

pub same_text : (id : Text) → bytes_eq id id ≡ true
same_text id = (bytes_decides id id).1 refl

-- the value of the argument that was added, and of any other
pub value_added : (id v : Text) (us : Uses) → value_for id us ≡ None → value_for id (us ++ (id, v) ∷ []) ≡ Some v
value_added id v [] e = rw (same_text id) refl
value_added id v (p ∷ us) e = go (bytes_eq p.0 id) (value_added id v us) e
  where
    go : (b : Bool) → (value_for id us ≡ None → value_for id (us ++ (id, v) ∷ []) ≡ Some v) → cond b (Some p.1) (value_for id us) ≡ None → cond b (Some p.1) (value_for id (us ++ (id, v) ∷ [])) ≡ Some v
    go true h e = absurd cc
    go false h e = h e

pub value_kept : (id other v : Text) (us : Uses) → bytes_eq id other ≡ false → value_for other (us ++ (id, v) ∷ []) ≡ value_for other us
value_kept id other v [] e = rw e refl
value_kept id other v (p ∷ us) e = ap (λ (o : Option Text). cond (bytes_eq p.0 other) (Some p.1) o) (value_kept id other v us e)
