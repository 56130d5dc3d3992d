-- The text of a log.
--     end_word e            how a run ended, as one word
--     run_row d o           the line of the shift d and the options o
--     domain_row d          the line that counts what follows of the domain's run d
--     point_row p           the line of an opening point; line_row, of an opening line;
--                           application_row, of an application; front_row, of a line that is left
--     domain_text d         all lines of the domain's run d
--     log_lines d o ds      the whole text of runs ds under the shift d and the options o
--     log_text w            the whole text of the run w
use Rattle.std.specs.Prelude.{ℕ, List, [], ◌∷◌, ◌++◌, length, take, ℤ, Option, None, Some, codes}
use Rattle.std.specs.List.{flat_map}
use Rattle.std.specs.Fmt.{decimal, signed_decimal}
use Rattle.grid_geom.specs.declared.Point.{Point}
use Rattle.text_rows.specs.Rows.{spaced, spaced_signed, row}
use Rattle.mesh_run.specs.declared.Options.{Options}
use Rattle.mesh_run.specs.declared.End.{End}
use Rattle.mesh_run.specs.declared.End.TheVariants.{Done, Stuck, Stopped}
use Rattle.mesh_run.specs.declared.WholeRun.{WholeRun}
use Rattle.rule_match.specs.declared.application.Application.{Application}
use Rattle.mesh_run.specs.declared.domain_run.DomainRun.{DomainRun}

-- how a run ended
abbrev pub end_word : End → List ℕ
end_word Done = codes "done"
end_word Stuck = codes "stuck"
end_word Stopped = codes "stopped"

-- the greatest number of applications, or `-` where none was given
abbrev pub limit_word : Option ℕ → List ℕ
limit_word None = codes "-"
limit_word (Some n) = decimal n

-- the first line
unfoldable pub heading : List ℕ
heading = codes "netmeshlog 1\n"

-- the last line
unfoldable pub ending : List ℕ
ending = codes "end\n"

-- the shift and the options of a run
unfoldable pub run_row : ℤ → Options → List ℕ
run_row d o = codes "run " ++ signed_decimal d ++ spaced (o.greatest ∷ o.grading ∷ o.last ∷ [])
    ++ 32 ∷ [] ++ limit_word o.limit ++ 10 ∷ []

-- the points that are there at the opening
abbrev pub opening_points : DomainRun → List Point
opening_points d = take d.opened d.points

-- how many lines of each kind follow: opening points and lines, applications, front lines
abbrev pub row_counts : DomainRun → List ℕ
row_counts d = length (opening_points d) ∷ length d.lines ∷ length d.applications ∷ length d.front
    ∷ []

-- a domain, how many lines of each kind follow, and how its run ended
unfoldable pub domain_row : DomainRun → List ℕ
domain_row d = codes "domain" ++ spaced (d.domain ∷ row_counts d) ++ 32 ∷ [] ++ end_word d.end ++ 10
    ∷ []

-- the two coordinates of a point
abbrev pub place_words : Point → List ℕ
place_words p = spaced_signed (p.x ∷ p.y ∷ [])

-- an opening point
abbrev pub point_row : Point → List ℕ
point_row p = codes "p" ++ place_words p ++ 10 ∷ []

-- an opening line, from point to point
abbrev pub line_row : (ℕ × ℕ) → List ℕ
line_row l = row (codes "l") (l.0 ∷ l.1 ∷ [])

-- how many numbers there are, and the numbers
abbrev pub counted_numbers : List ℕ → List ℕ
counted_numbers ns = spaced (length ns ∷ ns)

-- how many points there are, and their places
abbrev pub counted_places : List Point → List ℕ
counted_places ps = spaced (length ps ∷ []) ++ flat_map place_words ps

-- how many elements there are, and the corners of each after their number
abbrev pub counted_elements : List (List ℕ) → List ℕ
counted_elements es = spaced (length es ∷ []) ++ flat_map counted_numbers es

-- the class, the base line and the rule of an application
abbrev pub base_numbers : Application → List ℕ
base_numbers a = a.class ∷ a.line ∷ a.rule ∷ []

-- an application: class, base line and rule, then the mapped points, the new points and the
-- elements, each list after its length
abbrev pub application_row : Application → List ℕ
application_row a = codes "a" ++ spaced (base_numbers a)
    ++ counted_numbers a.points ++ counted_places a.made ++ counted_elements a.elements ++ 10 ∷ []

-- a front line that is left: its number and its ends
abbrev pub front_row : (ℕ × ℕ × ℕ) → List ℕ
front_row l = row (codes "f") (l.0 ∷ l.1 ∷ l.2 ∷ [])

-- the run of a domain
abbrev pub domain_text : DomainRun → List ℕ
domain_text d = domain_row d ++ flat_map point_row (opening_points d) ++ flat_map line_row d.lines
    ++ flat_map application_row d.applications ++ flat_map front_row d.front

-- the log of the domains' runs under a shift and options
abbrev pub log_lines : ℤ → Options → List DomainRun → List ℕ
log_lines d o domains = heading ++ run_row d o ++ flat_map domain_text domains ++ ending

-- the log of a run
abbrev pub log_text : WholeRun → List ℕ
log_text w = log_lines w.shift w.options w.domains
