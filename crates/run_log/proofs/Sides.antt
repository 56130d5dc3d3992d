-- Gluing sides: first some, then more.
use Rattle.std.proofs.Common.{◌≡◌, ℕ, ◌+◌, ◌<◌, List, [], ◌∷◌, ◌++◌, length, take, get_or, sum_by, refl, sym, ap, ◌∙◌}
use Rattle.std.specs.List.{flat_map}
use Rattle.std.proofs.lemmas.List.{take_more, flat_map_more}
use Rattle.std.proofs.lemmas.List.Concat.{flat_map-append}
use Rattle.std.proofs.lemmas.List.Sums.{sum_by_push}
use Rattle.state_law.specs.State.{glue_line, glue_lines, next_after, next_after_all}

pub glue_more : (front : List (ℕ × ℕ × ℕ)) (next : ℕ) (sides more : List (ℕ × ℕ)) → glue_lines front next (sides ++ more) ≡ glue_lines (glue_lines front next sides) (next_after_all front next sides) more
glue_more front next [] more = refl
glue_more front next (s ∷ sides) more = glue_more (glue_line front next s) (next_after front next s) sides more

pub next_more : (front : List (ℕ × ℕ × ℕ)) (next : ℕ) (sides more : List (ℕ × ℕ)) → next_after_all front next (sides ++ more) ≡ next_after_all (glue_lines front next sides) (next_after_all front next sides) more
next_more front next [] more = refl
next_more front next (s ∷ sides) more = next_more (glue_line front next s) (next_after front next s) sides more

-- the sides of the first items, and of one more
one_more : {X : Type 0} (f : X → List (ℕ × ℕ)) (xs : List X) (k : ℕ) (d : X) → k < length xs → flat_map f (take (k + 1) xs) ≡ flat_map f (take k xs) ++ f (get_or xs k d)
one_more f xs k d l = ap (flat_map f) (take_more xs k d l) ∙ sym (flat_map_more f [] (take k xs) (get_or xs k d))

-- lines to which the sides were glued, one after another
pub record IsGlued (front : List (ℕ × ℕ × ℕ)) (next : ℕ) (sides : List (ℕ × ℕ)) (lines : List (ℕ × ℕ × ℕ)) (n : ℕ) : Type 0 where
  pub lines_are : lines ≡ glue_lines front next sides
  pub next_is : n ≡ next_after_all front next sides

-- one item more is glued
pub glued_step : {X : Type 0} (f : X → List (ℕ × ℕ)) (xs : List X) (k : ℕ) (d : X) (front : List (ℕ × ℕ × ℕ)) (next : ℕ) (lines : List (ℕ × ℕ × ℕ)) (n : ℕ) (lines2 : List (ℕ × ℕ × ℕ)) (n2 : ℕ) → k < length xs
    → IsGlued front next (flat_map f (take k xs)) lines n → IsGlued lines n (f (get_or xs k d)) lines2 n2 → IsGlued front next (flat_map f (take (k + 1) xs)) lines2 n2
glued_step f xs k d front next lines n lines2 n2 l before one = record {
  lines_are = one.lines_are ∙ ap (λ ls. glue_lines ls n (f (get_or xs k d))) before.lines_are ∙ ap (λ (m : ℕ). glue_lines (glue_lines front next (flat_map f (take k xs))) m (f (get_or xs k d))) before.next_is
      ∙ sym (glue_more front next (flat_map f (take k xs)) (f (get_or xs k d))) ∙ ap (glue_lines front next) (sym (one_more f xs k d l));
  next_is = one.next_is ∙ ap (λ ls. next_after_all ls n (f (get_or xs k d))) before.lines_are ∙ ap (λ (m : ℕ). next_after_all (glue_lines front next (flat_map f (take k xs))) m (f (get_or xs k d))) before.next_is
      ∙ sym (next_more front next (flat_map f (take k xs)) (f (get_or xs k d))) ∙ ap (next_after_all front next) (sym (one_more f xs k d l));
}

-- the items of lists, list after list
pub nested : {X Y Z : Type 0} (f : X → List Y) (g : Y → List Z) (xs : List X) → flat_map g (flat_map f xs) ≡ flat_map (λ x. flat_map g (f x)) xs
nested f g [] = refl
nested f g (x ∷ xs) = flat_map-append g (f x) (flat_map f xs) ∙ ap (λ zs. flat_map g (f x) ++ zs) (nested f g xs)

-- how many there are in all, with one list more
pub count_step : {X : Type 0} (f : X → ℕ) (xs : List X) (k : ℕ) (d : X) → k < length xs → sum_by f (take k xs) + f (get_or xs k d) ≡ sum_by f (take (k + 1) xs)
count_step f xs k d l = sym (ap (sum_by f) (take_more xs k d l) ∙ sum_by_push f (take k xs) (get_or xs k d))
