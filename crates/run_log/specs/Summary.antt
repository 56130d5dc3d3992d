-- The line that sums a run up.
use Rattle.std.specs.Prelude.{ℕ, List, [], ◌∷◌, ◌++◌, length, sum_by, codes}
use Rattle.std.specs.Fmt.{decimal}
use Rattle.mesh_run.specs.declared.WholeRun.{WholeRun}
use Rattle.mesh_run.specs.declared.domain_run.DomainRun.{DomainRun}
use Rattle.vol_format.specs.declared.Mesh.{Mesh}
use Rattle.run_log.specs.Log.{end_word}

-- how many applications the domains' runs have together
abbrev pub application_count : List DomainRun → ℕ
application_count domains = sum_by (λ d. length d.applications) domains

-- how many front lines are left in all domains
abbrev pub front_count : List DomainRun → ℕ
front_count domains = sum_by (λ d. length d.front) domains

-- a count after its name
unfoldable pub named_count : List ℕ → ℕ → List ℕ
named_count name n = name ++ decimal n

-- how the run ended, and how much it has of each kind, where m is its mesh
abbrev pub summary_line : WholeRun → Mesh → List ℕ
summary_line w m = end_word w.end
    ++ named_count (codes " domains ") (length w.domains)
    ++ named_count (codes " applications ") (application_count w.domains)
    ++ named_count (codes " points ") (length m.points)
    ++ named_count (codes " elements ") (length m.elements)
    ++ named_count (codes " front ") (front_count w.domains)
    ++ 10 ∷ []
