-- Front lines keep rising numbers below the next one, and an element raises the next number by at most its number of sides.
use Prim.Native.Nat.{ℕ, suc, ◌+◌, ◌≤◌, ◌<◌}
use lib.ListN.{length}
use mathlib.Core.Path.{◌≡◌, refl}
use mathlib.Core.Bool.{Bool, true, false, cond, ◌||◌}
use mathlib.Core.List.{List, [], ◌∷◌}
use native.Mathlib.Omega.{arith}
use Rattle.std.specs.List.{AllByRecursion, list_any}
use Rattle.state_law.specs.State.{State, number_way, number_sides, does_join, glue_line, next_after, glue_lines, next_after_all, glued, AreRising}

-- whether a line goes the side's way
abbrev is_there : List (ℕ × ℕ × ℕ) → ℕ × ℕ → Bool
is_there front s = list_any (λ line. does_join line s) front

-- what holds of all lines, and of the new one
all_lines : (P : ℕ × ℕ × ℕ → Type 0) (front : List (ℕ × ℕ × ℕ)) (next : ℕ) (s : ℕ × ℕ) → AllByRecursion P front → P (next, s.1, s.0) → AllByRecursion P (glue_line front next s)
all_lines P [] next s h p = (p, tt)
all_lines P (line ∷ front) next s h p = elim (does_join line s) as (λ (b : Bool). AllByRecursion P (elim b [ true ↦ front | false ↦ line ∷ glue_line front next s ])) [
  | true ↦ h.1
  | false ↦ (h.0, all_lines P front next s h.1 p)
]

later : (front : List (ℕ × ℕ × ℕ)) (m n : ℕ) → m ≤ n → AreRising front m → AreRising front n
later [] m n h r = tt
later (line ∷ front) m n h r = (r.0, below line.0 r.1, later front m n h r.2)
  where
    below : (k : ℕ) → k < m → k < n
    below k i = omega arith

-- with the new line below next + 1
rising_more : (front : List (ℕ × ℕ × ℕ)) (next : ℕ) (s : ℕ × ℕ) → AreRising front next → AreRising (glue_line front next s) (next + 1)
rising_more [] next s r = (tt, self next, tt)
  where
    self : (n : ℕ) → n < n + 1
    self n = omega arith
rising_more (line ∷ front) next s r = elim (does_join line s) as (λ (b : Bool). AreRising (elim b [ true ↦ front | false ↦ line ∷ glue_line front next s ]) (next + 1)) [
  | true ↦ later front next (next + 1) (more next) r.2
  | false ↦ (all_lines (λ other. line.0 < other.0) front next s r.0 r.1, below line.0 next r.1, rising_more front next s r.2)
]
  where
    more : (n : ℕ) → n ≤ n + 1
    more n = omega arith

    below : (k n : ℕ) → k < n → k < n + 1
    below k n h = omega arith

-- a line that leaves adds none
rising_less : (front : List (ℕ × ℕ × ℕ)) (next : ℕ) (s : ℕ × ℕ) → AreRising front next → is_there front s ≡ true → AreRising (glue_line front next s) next
rising_less [] next s r e = absurd (none e)
  where
    none : false ≡ true → ⊥
    none h = cc
rising_less (line ∷ front) next s r e = (elim (does_join line s) as (λ (b : Bool). (b || is_there front s) ≡ true → AreRising (elim b [ true ↦ front | false ↦ line ∷ glue_line front next s ]) next) [
  | true ↦ λ h. r.2
  | false ↦ λ h. (all_but front r.0 h, r.1, rising_less front next s r.2 h)
]) e
  where
    clash : {A : Type 0} → false ≡ true → A
    clash h = absurd (cc)

    all_but : (ls : List (ℕ × ℕ × ℕ)) → AllByRecursion (λ other. line.0 < other.0) ls → is_there ls s ≡ true → AllByRecursion (λ other. line.0 < other.0) (glue_line ls next s)
    all_but [] a h = clash h
    all_but (l ∷ ls) a h = (elim (does_join l s) as (λ (b : Bool). (b || is_there ls s) ≡ true → AllByRecursion (λ other. line.0 < other.0) (elim b [ true ↦ ls | false ↦ l ∷ glue_line ls next s ])) [
      | true ↦ λ i. a.1
      | false ↦ λ i. (a.0, all_but ls a.1 i)
    ]) h

rising_one : (front : List (ℕ × ℕ × ℕ)) (next : ℕ) (s : ℕ × ℕ) → AreRising front next → AreRising (glue_line front next s) (next_after front next s)
rising_one front next s r = (elim (is_there front s) as (λ (b : Bool). is_there front s ≡ b → AreRising (glue_line front next s) (cond b next (next + 1))) [
  | true ↦ λ e. rising_less front next s r e
  | false ↦ λ e. rising_more front next s r
]) refl

rising_all : (front : List (ℕ × ℕ × ℕ)) (next : ℕ) (ss : List (ℕ × ℕ)) → AreRising front next → AreRising (glue_lines front next ss) (next_after_all front next ss)
rising_all front next [] r = r
rising_all front next (s ∷ ss) r = rising_all (glue_line front next s) (next_after front next s) ss (rising_one front next s r)

pub glued_rising : (st : State) (ns : List ℕ) → AreRising st.front st.next → AreRising (glued st ns).front (glued st ns).next
glued_rising st ns r = rising_all st.front st.next (number_sides ns) r

-- ---- the next number
next_one : (front : List (ℕ × ℕ × ℕ)) (next : ℕ) (s : ℕ × ℕ) → next_after front next s ≤ next + 1
next_one front next s = either_way (is_there front s) next
  where
    either_way : (b : Bool) (n : ℕ) → cond b n (n + 1) ≤ n + 1
    either_way true n = omega arith
    either_way false n = omega arith

next_all : (front : List (ℕ × ℕ × ℕ)) (next : ℕ) (ss : List (ℕ × ℕ)) → next_after_all front next ss ≤ next + length ss
next_all front next [] = same next
  where
    same : (n : ℕ) → n ≤ n + 0
    same n = omega arith
next_all front next (s ∷ ss) = joined (next_after_all (glue_line front next s) (next_after front next s) ss) (next_after front next s) next (length ss) (next_all (glue_line front next s) (next_after front next s) ss) (next_one front next s)
  where
    joined : (a b c n : ℕ) → a ≤ b + n → b ≤ c + 1 → a ≤ c + suc n
    joined a b c n h i = omega arith

way_length : (first from : ℕ) (ns : List ℕ) → length (number_way first from ns) ≡ 1 + length ns
way_length first from [] = omega arith
way_length first from (to ∷ ns) = more (length (number_way first to ns)) (length ns) (way_length first to ns)
  where
    more : (a b : ℕ) → a ≡ 1 + b → suc a ≡ 1 + suc b
    more a b e = omega arith

sides_length : (ns : List ℕ) → length (number_sides ns) ≤ length ns
sides_length [] = omega arith
sides_length (n ∷ ns) = omega (arith, way_length n n ns)

pub glued_next : (st : State) (ns : List ℕ) → (glued st ns).next ≤ st.next + length ns
glued_next st ns = joined (next_after_all st.front st.next (number_sides ns)) st.next (length (number_sides ns)) (length ns) (next_all st.front st.next (number_sides ns)) (sides_length ns)
  where
    joined : (a b c d : ℕ) → a ≤ b + c → c ≤ d → a ≤ b + d
    joined a b c d h i = omega arith
