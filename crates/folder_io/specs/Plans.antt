-- Which calls of an object in memory fail.
use Rattle.std.specs.Prelude.{refl, ◌==◌, ℕ, ◌+◌, ◌-◌, ◌^◌, min, Bool, ◌&&◌, nat_lt, List, if◌then◌else◌}
use Rattle.std.specs.List.{list_any}
use Rattle.std.specs.FinMap as finite
use Rattle.std.specs.Prelude.{Option}
use Rattle.std.specs.declared.io.ErrorKind.{ErrorKind}
use Rattle.std.specs.Coded.{Coded, code_by, coded×, coded_list, coded_ℕ}
use Rattle.folder_io.specs.Names.{Files}

-- the numbers of the calls that are to fail, how many calls were made, and how many of them failed;
-- both counts stop at 2^64 - 1
pub record Plan : Type 0 where
  pub fail : List ℕ
  pub calls : ℕ
  pub faults : ℕ

-- whether the next call is to fail: its number, one more than the calls before it, is in the list.
-- No number stands beyond 2^64 - 1, so no later call is to fail
abbrev pub fails_next : Plan → Bool
fails_next plan = nat_lt plan.calls (2 ^ 64 - 1) && list_any (λ n. n == plan.calls + 1) plan.fail

-- the plan after one more call, which failed where it was to
abbrev pub after_call : Plan → Plan
after_call plan = record {
  fail = plan.fail;
  calls = min (plan.calls + 1) (2 ^ 64 - 1);
  faults = if fails_next plan then min (plan.faults + 1) (2 ^ 64 - 1) else plan.faults;
}

-- a plan of which no call was made
abbrev pub new_plan : List ℕ → Plan
new_plan fail = record { fail = fail; calls = 0; faults = 0 }

-- a folder in memory: what it holds, which calls fail, and the name at the last failure, empty before the first
pub record MemoryFolder : Type 0 where
  pub files : Files
  pub plan : Plan
  pub last : List ℕ

-- a sink in memory: the bytes that it took, and which calls fail
pub record MemorySink : Type 0 where
  pub written : List ℕ
  pub plan : Plan

-- what the adapter of the working folder knows: how many calls failed, and of the last that did the name
-- and what sort of fault the system gave
pub record Failures : Type 0 where
  pub faults : ℕ
  pub last : List ℕ
  pub reason : Option ErrorKind

-- how a folder in memory is told apart from another
abbrev pub coded_Plan : Coded Plan
coded_Plan = code_by (List ℕ × (ℕ × ℕ)) (coded× (coded_list coded_ℕ) (coded× coded_ℕ coded_ℕ))
    (λ p. (p.fail, (p.calls, p.faults))) (λ p. record { fail = p.0; calls = p.1.0; faults = p.1.1 })
    (λ _. refl)

abbrev pub coded_MemoryFolder : Coded MemoryFolder
coded_MemoryFolder = code_by (Files × (Plan × List ℕ))
    (coded× (finite.code (coded_list coded_ℕ) (coded_list coded_ℕ))
    (coded× coded_Plan (coded_list coded_ℕ))) (λ f. (f.files, (f.plan, f.last)))
    (λ p. record { files = p.0; plan = p.1.0; last = p.1.1 }) (λ _. refl)
