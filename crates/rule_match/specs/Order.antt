-- The order of what is found on one line at one class.
--
-- badness_cmp   badness compared as fractions
-- rank_cmp      by badness, then rule number, then assignment
-- IsNoWorse     one find isn't after another; nothing found is after all that is
use Rattle.std.specs.Prelude.{◌≡◌, ◌*◌, max, Option, None, Some, false}
use Rattle.std.specs.declared.cmp.Ordering.{Ordering}
use Rattle.std.specs.Ordering.{nat_cmp, on, then_cmp, is_gt}
use Rattle.std.specs.Cmp.Lexicographic.{slice_cmp}
use Rattle.rule_match.specs.declared.badness.Badness.{Badness}
use Rattle.rule_match.specs.declared.found.Found.{Found}

-- badness compared as fractions; a doubled area of 0, which no turned element has, counts as 1
abbrev pub badness_cmp : Badness → Badness → Ordering
badness_cmp x y = nat_cmp (x.squares * max 1 y.area) (y.squares * max 1 x.area)

abbrev pub points_cmp : Found → Found → Ordering
points_cmp = on (λ (f : Found). f.points) (slice_cmp nat_cmp)

-- by badness, then rule number, then assignment
abbrev pub rank_cmp : Found → Found → Ordering
rank_cmp = then_cmp (on (λ (f : Found). f.badness) badness_cmp)
    (then_cmp (on (λ (f : Found). f.rule) nat_cmp) points_cmp)

-- the first isn't after the second; nothing found is after all that is
abbrev pub IsNoWorse : Option Found → Option Found → Type 0
IsNoWorse o None = Unit {0}
IsNoWorse None (Some r) = ⊥
IsNoWorse (Some s) (Some r) = is_gt (rank_cmp s r) ≡ false
