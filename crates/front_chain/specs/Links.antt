-- The lines of a front in order of making: a table by number in which each line has the numbers of the line before it and of the line after it.
use Rattle.std.specs.Prelude.{◌≡◌, ◌≢◌, ◌⊎◌, ℕ, zero, suc, ◌<◌, ◌≤◌, nat_eq, true, cond, List, [], ◌∷◌, ◌++◌, Option, Some, is_some}
use Rattle.std.specs.Option.{option_map}
use Rattle.front_chain.specs.declared.side.Side.{Side}
use Rattle.front_chain.specs.declared.order.Link.{Link}

-- what stands under each line number given so far: a line's ends, or nothing where it has left; and how many lines may still be added without memory
pub record OrderState : Type 0 where
  pub made : List (Option Side)
  pub spare : ℕ

-- what a table gives at the numbers from 1 to n
abbrev pub tabled : (ℕ → Option Side) → ℕ → List (Option Side)
tabled table zero = []
tabled table (suc n) = tabled table n ++ table (suc n) ∷ []

-- the ends in a table of lines
abbrev pub sides_in : (ℕ → Option Link) → ℕ → Option Side
sides_in links n = option_map (λ link. link.side) (links n)

-- the line at q with another number after it, or before it, where it is the line with number n
abbrev pub followed_by : ℕ → ℕ → ℕ → Link → Link
followed_by n after q link = record {
  side = link.side;
  before = link.before;
  after = cond (nat_eq n q) after link.after;
}

abbrev pub led_by : ℕ → ℕ → ℕ → Link → Link
led_by n before q link = record {
  side = link.side;
  before = cond (nat_eq n q) before link.before;
  after = link.after;
}

-- a line has the number
abbrev pub IsMade : (ℕ → Option Link) → ℕ → Type 0
IsMade links n = is_some (links n) ≡ true

-- m and n are numbers of lines, or 0 for the ends of the order, and no line is between them
pub record IsNext (links : ℕ → Option Link) (m n : ℕ) : Type 0 where
  pub from : (m ≡ 0) ⊎ IsMade links m
  pub to : (n ≡ 0) ⊎ (IsMade links n × (m < n))
  pub between : (k : ℕ) → IsMade links k → m < k → (n ≢ 0) × (n ≤ k)

-- numbers are from 1 to count, and each line has its neighbours; the first line comes after 0, and 0 after the last
pub record AreLinked (links : ℕ → Option Link) (count first last : ℕ) : Type 0 where
  pub within : (n : ℕ) → IsMade links n → (1 ≤ n) × (n ≤ count)
  pub first_is : IsNext links 0 first
  pub last_is : IsNext links last 0
  pub after_is : (n : ℕ) (link : Link) → links n ≡ Some link → IsNext links n link.after
  pub before_is : (n : ℕ) (link : Link) → links n ≡ Some link → IsNext links link.before n
