-- With more lines noted a reason stays a reason.
use Prim.Native.Nat.{ℕ}
use mathlib.Core.Path.{◌≡◌, refl, sym}
use mathlib.Core.Bool.{Bool, true, false, true≢false}
use mathlib.Core.List.{List, [], ◌∷◌, ◌++◌}
use mathlib.Core.Logic.{inl, inr}
use Rattle.std.specs.Prelude.{nat_eq, cond, filter, ◌&&◌, ◌||◌}
use Rattle.std.specs.List.{list_any}
use Rattle.grid_geom.specs.declared.Point.{Point}
use Rattle.grid_geom.specs.declared.Edge.{Edge}
use Rattle.state_law.specs.Free.{IsIn}
use Rattle.state_law.specs.State.{State, front_edges}
use Rattle.state_law.specs.Refusal.{Attempt, HasReason, place_taken, not_turned, line_in_zone, line_hinders, outside_front, too_large}
use Rattle.rule_match.specs.Candidate as trial
use Rattle.rule_match.specs.declared.progress.Note.{Note}
use Rattle.front_chain.specs.Front.{state_of}
use Rattle.rule_match.specs.Base.{Tried, attempt_of}
use Rattle.rule_match.specs.Noted.{HasExcuse}
use Rattle.rule_match.specs.Refused.{is_noted, witnesses, IsExcused, places_of}

pub more_reasons : (points : List Point) (front ws vs : List Edge) (t : Attempt) → ((w : Edge) → IsIn w ws → IsIn w vs) → HasReason points front ws t → HasReason points front vs t
more_reasons points front ws vs t h (place_taken p a b) = place_taken p a b
more_reasons points front ws vs t h (not_turned before cs after s n) = not_turned before cs after s n
more_reasons points front ws vs t h (line_in_zone w i j n a) = line_in_zone w (h w i) j n a
more_reasons points front ws vs t h (line_hinders before cs after s w i m n) = line_hinders before cs after s w (λ j. h w (i j)) m n
more_reasons points front ws vs t h (outside_front before cs after s v u q r i o m) = outside_front before cs after s v u q r i o m
more_reasons points front ws vs t h (too_large before cs after s l) = too_large before cs after s l

-- what is noted beside a point stays noted
pub any_more : (f : Note → Bool) (xs ys : List Note) → list_any f xs ≡ true → list_any f (xs ++ ys) ≡ true
any_more f [] ys h = absurd (true≢false (sym h))
any_more f (x ∷ xs) ys h = by_first (f x) h (any_more f xs ys)
  where
    by_first : {s t : Bool} (r : Bool) → (r || s) ≡ true → (s ≡ true → t ≡ true) → (r || t) ≡ true
    by_first true h k = refl
    by_first false h k = k h

-- a wider test keeps more front lines
pub noted_more : (points : List Point) (keep more : ℕ × ℕ × ℕ → Bool) → ((line : ℕ × ℕ × ℕ) → keep line ≡ true → more line ≡ true) → (front : List (ℕ × ℕ × ℕ)) (w : Edge) →
    IsIn w (front_edges points (filter keep front)) → IsIn w (front_edges points (filter more front))
noted_more points keep more h [] w i = i
noted_more points keep more h (line ∷ front) w i = step (keep line) (more line) (h line) (noted_more points keep more h front w) i
  where
    step : (s r : Bool) → (s ≡ true → r ≡ true) → (IsIn w (front_edges points (filter keep front)) → IsIn w (front_edges points (filter more front))) →
        IsIn w (front_edges points (cond s (line ∷ filter keep front) (filter keep front))) → IsIn w (front_edges points (cond r (line ∷ filter more front) (filter more front)))
    step true true h k (inl e) = inl e
    step true true h k (inr j) = inr (k j)
    step true false h k j = absurd (true≢false (sym (h refl)))
    step false true h k j = inr (k j)
    step false false h k j = k j

pub excused_more : (st : State) (notes more : List Note) (t : trial.Attempt) → IsExcused st notes t → IsExcused st (notes ++ more) t
excused_more st notes more t r = more_reasons st.points (front_edges st.points st.front) (witnesses st notes t) (witnesses st (notes ++ more) t) (places_of st t)
    (noted_more st.points (is_noted notes t.points) (is_noted (notes ++ more) t.points) (λ line h. any_more (λ note. nat_eq note.line line.0 && list_any (nat_eq note.point) t.points) notes more h) st.front) r

-- what is noted beside a point is noted where more was noted before
any_after : (f : Note → Bool) (xs ys : List Note) → list_any f ys ≡ true → list_any f (xs ++ ys) ≡ true
any_after f [] ys h = h
any_after f (x ∷ xs) ys h = by_first (f x) (any_after f xs ys h)
  where
    by_first : {t : Bool} (r : Bool) → t ≡ true → (r || t) ≡ true
    by_first true h = refl
    by_first false h = h

pub excused_after : (st : State) (notes more : List Note) (t : trial.Attempt) → IsExcused st more t → IsExcused st (notes ++ more) t
excused_after st notes more t r = more_reasons st.points (front_edges st.points st.front) (witnesses st more t) (witnesses st (notes ++ more) t) (places_of st t)
    (noted_more st.points (is_noted more t.points) (is_noted (notes ++ more) t.points) (λ line h. any_after (λ note. nat_eq note.line line.0 && list_any (nat_eq note.point) t.points) notes more h) st.front) r

pub more_excuses : (t : Tried) (notes more : List Note) (b : List ℕ) → HasExcuse t notes b → HasExcuse t (notes ++ more) b
more_excuses t notes more b h = λ noting allowed. excused_more (state_of t.base.front) notes more (attempt_of t b) (h noting allowed)
