-- What is looked at where a rule ends.
use Rattle.std.specs.Prelude.{◌≡◌, Result, Ok, Err, ℕ, zero, suc, ◌+◌, ◌++◌, ◌-◌, Bool, not, ◌||◌, ◌==◌, nat_lt, if◌then◌else◌, List, [], ◌∷◌, length, map, find, fold, Option, Some, None, slice_index}
use Rattle.rule_reader.specs.declared.fault.Fault.{Fault}
use Rattle.rule_reader.specs.declared.fault.Fault.TheVariants.{BadIndex, TooLoose}
use Rattle.rule_reader.specs.declared.fault.Stop.{Stop}
use Rattle.rule_reader.specs.declared.fault.Stop.TheVariants as stops
use Rattle.rule_reader.specs.declared.reader.Use.{Use}
use Rattle.rule_reader.specs.declared.reader.Bound.{Bound}
use Rattle.rule_reader.specs.declared.reader.Bound.TheVariants.{First, Second, Mapped, Any}
use Rattle.rule_reader.specs.declared.rule.MapLine.{MapLine}
use Rattle.rule_reader.specs.declared.rule.Rule.{Rule}

-- whether an index names no point that it may name, in a rule with so many mapped and new points
abbrev pub misses : Bound → ℕ → ℕ → ℕ → Bool
misses First index points new_points = not (index == 1) || nat_lt points 1
misses Second index points new_points = not (index == 2) || nat_lt points 2
misses Mapped index points new_points = index == 0 || nat_lt points index
misses Any index points new_points = index == 0 || nat_lt (points + new_points) index

abbrev pub is_bad : ℕ → ℕ → Use → Bool
is_bad points new_points index = misses index.bound index.index points new_points

abbrev pub relabelled : ℕ → ℕ → List ℕ → List ℕ
relabelled from to labels = map (λ l. if l == from then to else l) labels

-- the labels after a line has joined the parts of its ends
abbrev pub joined : List ℕ → MapLine → List ℕ
joined labels line = relabelled (slice_index labels line.i) (slice_index labels line.j) labels

abbrev pub numbers_below : ℕ → List ℕ
numbers_below zero = []
numbers_below (suc n) = numbers_below n ++ n ∷ []

-- 0 and the labels of the points 1, 2 ..: those of one part have the number of one of its points
abbrev pub labels : ℕ → List MapLine → List ℕ
labels points lines = fold joined (numbers_below (points + 1)) lines

-- 1 for a number that is its own label
abbrev pub own : List ℕ → ℕ → ℕ
own labels n = if slice_index labels n == n then 1 else 0

-- how many numbers below this one are their own labels
abbrev pub own_below : List ℕ → ℕ → ℕ
own_below labels zero = 0
own_below labels (suc n) = own_below labels n + own labels n

-- how many parts of the graph don't hold point 1: neither 0 nor the part of point 1 counts
unfoldable pub loose_starts : ℕ → List MapLine → ℕ
loose_starts points lines = own_below (labels points lines) (points + 1) - 2

abbrev pub graph_verdict : ℕ → Rule → Option Fault
graph_verdict number rule = if nat_lt 3 (loose_starts (length rule.points) rule.lines)
    then Some (TooLoose number) else None

abbrev pub lines_verdict : ℕ → Rule → ℕ → Option Fault
lines_verdict number rule left = if length rule.lines == 0 then Some (BadIndex number left)
    else graph_verdict number rule

abbrev pub index_verdict : ℕ → Rule → ℕ → Option Use → Option Fault
index_verdict number rule left (Some index) = Some (BadIndex number index.left)
index_verdict number rule left None = lines_verdict number rule left

-- the fault of a rule that ends where so many words are left
unfoldable pub verdict : ℕ → List Use → Rule → ℕ → Option Fault
verdict number uses rule left =
    index_verdict number rule left
    (find (is_bad (length rule.points) (length rule.new_points)) uses)

-- what a rule's end tells: no fault, or this one, unless memory ran out
abbrev pub Checks : Result (Unit {0}) Stop → Option Fault → Type 0
Checks (Ok done) fault = fault ≡ None
Checks (Err stops.Memory) fault = Unit {0}
Checks (Err (stops.Fault f)) fault = fault ≡ Some f
