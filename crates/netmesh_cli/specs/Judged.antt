-- What `check` writes of a mesh, and how it ends.
--
-- verdict_row    words and numbers on a line
-- verdict_line   the line of a verdict
-- judged         the outcome of a verdict
use Rattle.std.specs.Prelude.{ℕ, List, [], ◌∷◌, ◌++◌, codes, ℤ, pos}
use Rattle.text_rows.specs.Rows.{spaced_signed}
use Rattle.mesh_check.specs.declared.verdict.Verdict.{Verdict}
use Rattle.mesh_check.specs.declared.verdict.Verdict.TheVariants.{SamePlace, Edges, Domain, Turned}
use Rattle.mesh_check.specs.declared.verdict.Verdict.TheVariants.{Hanging, Chain, Whole}
use Rattle.netmesh_cli.specs.declared.outcome.Outcome.{Outcome}
use Rattle.netmesh_cli.specs.declared.outcome.Outcome.TheVariants.{Good, Bad}

-- words, and numbers behind them, each after one space
abbrev pub verdict_row : List ℕ → List ℤ → List ℕ
verdict_row words numbers = words ++ spaced_signed numbers ++ codes "\n"

-- the verdict on a mesh of so many elements: that it is whole, and how many they are; or its first fault, with
-- its place
abbrev pub verdict_line : ℕ → Verdict → List ℕ
verdict_line elements Whole = verdict_row (codes "whole elements") (pos elements ∷ [])
verdict_line elements (SamePlace i j) = verdict_row (codes "bad same-place") (pos i ∷ pos j ∷ [])
verdict_line elements (Edges row) = verdict_row (codes "bad edges") (pos row ∷ [])
verdict_line elements (Domain element) = verdict_row (codes "bad domain") (pos element ∷ [])
verdict_line elements (Turned element) = verdict_row (codes "bad turned") (pos element ∷ [])
verdict_line elements (Hanging point element) =
    verdict_row (codes "bad hanging") (pos point ∷ pos element ∷ [])
verdict_line elements (Chain domain from to sides edges) =
    verdict_row (codes "bad chain") (pos domain ∷ pos from ∷ pos to ∷ sides ∷ edges ∷ [])

-- a whole mesh is good, and any other is bad
abbrev pub judged : Verdict → Outcome
judged Whole = Good
judged (SamePlace i j) = Bad
judged (Edges row) = Bad
judged (Domain element) = Bad
judged (Turned element) = Bad
judged (Hanging point element) = Bad
judged (Chain domain from to sides edges) = Bad
