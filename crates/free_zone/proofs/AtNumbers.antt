-- The lines of a front by their numbers: since numbers rise, each line is found at its own.
use Prim.Native.Nat.{ℕ, zero, suc, ◌<◌}
use lib.ListN.{length, get_or}
use mathlib.Core.Path.{◌≡◌, refl, sym, ap, ◌∙◌, subst}
use mathlib.Core.Bool.{Bool, true, false, cond, ◌||◌}
use mathlib.Core.List.{List, [], ◌∷◌}
use mathlib.Core.Logic.{◌⊎◌, inl, inr}
use native.Mathlib.Omega.{arith}
use Rattle.std.specs.Prelude.{nat_eq, Some}
use Rattle.std.specs.Option.{option_map}
use Rattle.std.specs.List.{AllByRecursion, find, list_any}
use Rattle.state_law.specs.State.{AreRising}
use Rattle.state_law.proofs.Lists.{all_map, all_both}
use Rattle.front_chain.specs.Front.{line_at, is_end}
use Rattle.free_zone.specs.InTheWay.{IsFrontPoint}

-- a line: its number and those of its ends
abbrev Line : Type 0
Line = ℕ × ℕ × ℕ

same : (m n : ℕ) → nat_eq m n ≡ true → m ≡ n
same m n e = grind arith

self : (n : ℕ) → nat_eq n n ≡ true
self n = grind arith

other : (m n : ℕ) → m < n → nat_eq m n ≡ false
other m n h = grind arith

inner : (u v : ℕ × ℕ) → Some u ≡ Some v → u ≡ v
inner u v e = cc

-- ---- one step of the search
here : (line : Line) (lines : List Line) (n : ℕ) (b : Bool) → nat_eq line.0 n ≡ b → line_at (line ∷ lines) n ≡ option_map (λ (l : Line). (l.1, l.2)) (cond b (Some line) (find (λ (l : Line). nat_eq l.0 n) lines))
here line lines n b e = ap (λ b. option_map (λ (l : Line). (l.1, l.2)) (cond b (Some line) (find (λ (l : Line). nat_eq l.0 n) lines))) e

-- ---- from all lines to each number, and back
-- what all lines have, the line with a number has
pub at_number : (P : Line → Type 0) (lines : List Line) (n : ℕ) (ends : ℕ × ℕ) → AllByRecursion P lines → line_at lines n ≡ Some ends → P (n, ends.0, ends.1)
at_number P [] n ends h e = absurd (cc)
at_number P (line ∷ lines) n ends h e = by (nat_eq line.0 n) refl (at_number P lines n ends h.1)
  where
    by : (b : Bool) → nat_eq line.0 n ≡ b → (line_at lines n ≡ Some ends → P (n, ends.0, ends.1)) → P (n, ends.0, ends.1)
    by true f rest = subst (λ (k : ℕ). P (k, ends.0, ends.1)) (same line.0 n f) (subst (λ (s : ℕ × ℕ). P (line.0, s.0, s.1)) (inner (line.1, line.2) ends (sym (here line lines n true f) ∙ e)) h.0)
    by false f rest = rest (sym (here line lines n false f) ∙ e)

-- each line is found at its number
pub found_at : (lines : List Line) (next : ℕ) → AreRising lines next → AllByRecursion (λ line. line_at lines line.0 ≡ Some (line.1, line.2)) lines
found_at [] next r = tt
found_at (line ∷ lines) next r = (
  here line lines line.0 true (self line.0),
  all_both (λ (l : Line). line.0 < l.0) (λ (l : Line). line_at lines l.0 ≡ Some (l.1, l.2)) (λ (l : Line). line_at (line ∷ lines) l.0 ≡ Some (l.1, l.2)) (λ l h e. here line lines l.0 false (other line.0 l.0 h) ∙ e) lines r.0 (found_at lines next r.2),
)

-- what the line with each number has, all lines have
pub each_number : (P : Line → Type 0) (lines : List Line) (next : ℕ) → AreRising lines next → ((n : ℕ) (ends : ℕ × ℕ) → line_at lines n ≡ Some ends → P (n, ends.0, ends.1)) → AllByRecursion P lines
each_number P lines next r h = all_map (λ (l : Line). line_at lines l.0 ≡ Some (l.1, l.2)) P (λ l e. h l.0 (l.1, l.2) e) lines (found_at lines next r)

-- ---- front points
-- a front line that goes from a point
pub record HasLineFrom (lines : List Line) (n : ℕ) : Type 0 where
  pub number : ℕ
  pub to : ℕ
  pub on_front : line_at lines number ≡ Some (n, to)

pub line_from : (all lines : List Line) (n : ℕ) → AllByRecursion (λ line. line_at all line.0 ≡ Some (line.1, line.2)) lines → list_any (λ line. nat_eq line.1 n) lines ≡ true → HasLineFrom all n
line_from all [] n h e = absurd (cc)
line_from all (line ∷ lines) n h e = by (nat_eq line.1 n) refl e (line_from all lines n h.1)
  where
    by : (b : Bool) → nat_eq line.1 n ≡ b → (b || list_any (λ (l : Line). nat_eq l.1 n) lines) ≡ true → (list_any (λ (l : Line). nat_eq l.1 n) lines ≡ true → HasLineFrom all n) → HasLineFrom all n
    by true f g rest = record { number = line.0; to = line.2; on_front = h.0 ∙ ap (λ (k : ℕ). Some (k, line.2)) (same line.1 n f) }
    by false f g rest = rest g

-- an end of a line is one by the test too
pub tested_end : (lines : List Line) (n : ℕ) → IsFrontPoint lines n → is_end lines n ≡ true
tested_end [] n h = absurd (omega (arith, h.2))
tested_end (line ∷ lines) n h = by h.0 h.1 h.2 h.3 h.4 (tested_end lines n)
  where
    either : (l : Line) → (l.1 ≡ n) ⊎ (l.2 ≡ n) → (nat_eq l.1 n || nat_eq l.2 n) ≡ true
    either l (inl e) = ap (λ (k : ℕ). nat_eq l.1 k || nat_eq l.2 k) (sym e) ∙ ap (λ b. b || nat_eq l.2 l.1) (self l.1)
    either l (inr e) = right (nat_eq l.1 n) (nat_eq l.2 n) (ap (nat_eq l.2) (sym e) ∙ self l.2)
      where
        right : (a b : Bool) → b ≡ true → (a || b) ≡ true
        right true b h = refl
        right false b h = h

    either_left : (a b : Bool) → a ≡ true → (a || b) ≡ true
    either_left a b h = ap (λ c. c || b) h

    either_right : (a b : Bool) → b ≡ true → (a || b) ≡ true
    either_right true b h = refl
    either_right false b h = h

    by : (k : ℕ) (x : Line) → k < length (line ∷ lines) → get_or (line ∷ lines) k x ≡ x → (x.1 ≡ n) ⊎ (x.2 ≡ n) → (IsFrontPoint lines n → is_end lines n ≡ true) → is_end (line ∷ lines) n ≡ true
    by zero x l e p rest = either_left (nat_eq line.1 n || nat_eq line.2 n) (is_end lines n) (either line (subst (λ (y : Line). (y.1 ≡ n) ⊎ (y.2 ≡ n)) (sym e) p))
    by (suc k) x l e p rest = either_right (nat_eq line.1 n || nat_eq line.2 n) (is_end lines n) (rest (k, x, omega (arith, l), e, p))

-- the start of a line is a front point
pub start_on_front : (lines : List Line) (n : ℕ) (ends : ℕ × ℕ) → line_at lines n ≡ Some ends → IsFrontPoint lines ends.0
start_on_front [] n ends e = absurd (cc)
start_on_front (line ∷ lines) n ends e = by (nat_eq line.0 n) refl (start_on_front lines n ends)
  where
    first : 0 < suc (length lines)
    first = omega arith

    by : (b : Bool) → nat_eq line.0 n ≡ b → (line_at lines n ≡ Some ends → IsFrontPoint lines ends.0) → IsFrontPoint (line ∷ lines) ends.0
    by true f rest = (zero, line, first, refl, inl (ap (λ (s : ℕ × ℕ). s.0) (inner (line.1, line.2) ends (sym (here line lines n true f) ∙ e))))
    by false f rest = let r = rest (sym (here line lines n false f) ∙ e) in (suc r.0, r.1, omega (arith, r.2), r.3, r.4)
