-- A view's lines rise by number, so of several with a side's ends the first, which leaves, is the least.
use Rattle.std.proofs.Common.{◌≡◌, ℕ, suc, ◌+◌, ◌<◌, ◌≤◌, Bool, true, false, ◌||◌, List, [], ◌∷◌, length, refl, sym, ap, subst, ◌∙◌, arith}
use Rattle.std.specs.List.{AllByRecursion, list_any, flat_map}
use Rattle.state_law.specs.State.{does_join, glue_line, number_sides, glue_lines, next_after_all, AreRising}
use Rattle.state_law.proofs.LineNumbers.{glued_rising}
use Rattle.run_log.proofs.Sides.{glue_more, next_more}
use Rattle.front_chain.specs.Front.{numbered_from}
use Rattle.run_log.specs.View.{LeastLeaves}

-- ---- numbers rise
weaker : (n m : ℕ) (lines : List (ℕ × ℕ × ℕ)) → m ≤ n → AllByRecursion (λ (other : ℕ × ℕ × ℕ). n < other.0) lines → AllByRecursion (λ (other : ℕ × ℕ × ℕ). m ≤ other.0) lines
weaker n m [] l all = tt
weaker n m (line ∷ lines) l all = (omega (arith, l, all.0), weaker n m lines l all.1)

pub rises_all : (lines : List (ℕ × ℕ × ℕ)) (next : ℕ) (elements : List (List ℕ)) → AreRising lines next → AreRising (glue_lines lines next (flat_map number_sides elements)) (next_after_all lines next (flat_map number_sides elements))
rises_all lines next [] rising = rising
rises_all lines next (ns ∷ elements) rising =
    rw (glue_more lines next (number_sides ns) (flat_map number_sides elements), next_more lines next (number_sides ns) (flat_map number_sides elements))
    (rises_all (glue_lines lines next (number_sides ns)) (next_after_all lines next (number_sides ns)) elements (glued_rising (record { points = []; front = lines; next = next; elements = [] }) ns rising))

above : (n m : ℕ) (lines : List (ℕ × ℕ)) → n < m → AllByRecursion (λ (other : ℕ × ℕ × ℕ). n < other.0) (numbered_from m lines)
above n m [] l = tt
above n m (line ∷ lines) l = (l, above n (m + 1) lines (omega (arith, l)))

pub numbered_rise : (n : ℕ) (lines : List (ℕ × ℕ)) → AreRising (numbered_from n lines) (n + length lines)
numbered_rise n [] = tt
numbered_rise n (line ∷ lines) = (above n (n + 1) lines (omega arith), omega arith, subst (AreRising (numbered_from (n + 1) lines)) (same n (length lines)) (numbered_rise (n + 1) lines))
  where
    same : (n k : ℕ) → (n + 1) + k ≡ n + suc k
    same n k = omega arith

-- ---- the least leaves
in_front : (line : ℕ × ℕ × ℕ) (lines rest : List (ℕ × ℕ × ℕ)) (s : ℕ × ℕ) → does_join line s ≡ false → LeastLeaves lines s rest → LeastLeaves (line ∷ lines) s (line ∷ rest)
in_front line lines rest s j least = record {
  before = line ∷ least.before;
  line = least.line;
  after = least.after;
  there = ap (λ ls. line ∷ ls) least.there;
  rest_is = ap (λ ls. line ∷ ls) least.rest_is;
  joins = least.joins;
  least = (λ e. absurd (clash (sym j ∙ e)), least.least);
}
  where
    clash : false ≡ true → ⊥
    clash e = absurd cc

any_joins : (lines : List (ℕ × ℕ × ℕ)) (n : ℕ) (s : ℕ × ℕ) → AllByRecursion (λ (other : ℕ × ℕ × ℕ). n ≤ other.0) lines → AllByRecursion (λ (other : ℕ × ℕ × ℕ). does_join other s ≡ true → n ≤ other.0) lines
any_joins [] n s all = tt
any_joins (line ∷ lines) n s all = (λ e. all.0, any_joins lines n s all.1)

pub least_leaves : (lines : List (ℕ × ℕ × ℕ)) (next : ℕ) (s : ℕ × ℕ) → AreRising lines next → list_any (λ line. does_join line s) lines ≡ true → LeastLeaves lines s (glue_line lines next s)
least_leaves [] next s rising there = absurd cc
least_leaves (line ∷ lines) next s rising there = by (does_join line s) (least_leaves lines next s rising.2) refl
  where
    by : (b : Bool) → (list_any (λ other. does_join other s) lines ≡ true → LeastLeaves lines s (glue_line lines next s)) → does_join line s ≡ b → LeastLeaves (line ∷ lines) s (glue_line (line ∷ lines) next s)
    by true go j = record {
      before = [];
      line = line;
      after = lines;
      there = refl;
      rest_is = ap (λ b. elim b [ true ↦ lines | false ↦ line ∷ glue_line lines next s ]) j;
      joins = j;
      least = (λ e. omega arith, any_joins lines line.0 s (weaker line.0 line.0 lines (omega arith) rising.0));
    }
    by false go j = subst (LeastLeaves (line ∷ lines) s) (sym (ap (λ b. elim b [ true ↦ lines | false ↦ line ∷ glue_line lines next s ]) j)) (in_front line lines (glue_line lines next s) s j (go (sym (ap (λ b. b || list_any (λ other. does_join other s) lines) j) ∙ there)))
