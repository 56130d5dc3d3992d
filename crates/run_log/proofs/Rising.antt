-- Domain numbers rise: one more above all before it.
use Rattle.std.proofs.Common.{◌≡◌, refl, ℕ, ◌≤◌, ◌<◌, List, [], ◌∷◌, ◌++◌, arith}
use Rattle.std.specs.List.{AllByRecursion}
use Rattle.mesh_run.specs.declared.domain_run.DomainRun.{DomainRun}
use Rattle.run_log.specs.View.{AreRising}

all_below : (runs : List DomainRun) (n m : ℕ) (x : DomainRun) → AllByRecursion (λ run. run.domain ≤ n) runs → n ≤ m → x.domain ≡ m → AllByRecursion (λ run. run.domain ≤ m) (runs ++ x ∷ [])
all_below [] n m x all up is = (omega (arith, is), tt)
all_below (run ∷ runs) n m x all up is = (omega (arith, all.0, up), all_below runs n m x all.1 up is)

above : (runs : List DomainRun) (n : ℕ) (x : DomainRun) → AllByRecursion (λ other. n < other.domain) runs → n < x.domain → AllByRecursion (λ other. n < other.domain) (runs ++ x ∷ [])
above [] n x all up = (up, tt)
above (run ∷ runs) n x all up = (all.0, above runs n x all.1 up)

rising_more : (runs : List DomainRun) (n : ℕ) (x : DomainRun) → AreRising runs → AllByRecursion (λ run. run.domain ≤ n) runs → n < x.domain → AreRising (runs ++ x ∷ [])
rising_more [] n x rising all up = (tt, tt)
rising_more (run ∷ runs) n x rising all up =
    (above runs run.domain x rising.0 (omega (arith, all.0, up)), rising_more runs n x rising.1 all.1 up)

-- the same of the runs so far and one more
pub one_above : (runs : List DomainRun) (n : ℕ) (x : DomainRun) → AllByRecursion (λ run. run.domain ≤ n) runs → AreRising runs → n < x.domain
    → AllByRecursion (λ run. run.domain ≤ x.domain) (runs ++ x ∷ []) × AreRising (runs ++ x ∷ [])
one_above runs n x all rising up = (all_below runs n x.domain x all (omega (arith, up)) refl, rising_more runs n x rising all up)
