use Rattle.std.proofs.Common.{◌≡◌, ℕ, ◌+◌, ap, ◌∙◌, sym, length, take, sum_by}
use Rattle.std.specs.List.{flat_map}
use Rattle.std.proofs.lemmas.List.Concat.{length-flat_map}
use Rattle.state_law.specs.State.{number_sides, glue_lines}
use Rattle.front_chain.specs.Front.{numbered_from}
use Rattle.run_log.specs.View.{elements_made, front_after}
use Rattle.run_log.proofs.Sides.{nested}
use Rattle.run_log.proofs.viewing.shown.Goals as goal

pub returns : goal.returns
returns c =
    let run = c.args.run.now in
    let first = take c.args.k run.applications in
    let opened = c.in_ok-table.table in
    let many : c.in_ok-elements.elements ≡ length (elements_made run c.args.k) = c.in_ok-elements.ensures.count
    ∙ ap (λ applied. sum_by (λ a. length a.elements) (take c.args.k applied)) c.as_slice-applications.ensures
    ∙ sym (length-flat_map (λ a. a.elements) first) in
    let left : c.from_vec.result ≡ front_after run c.args.k = c.from_vec.ensures ∙ c.in_ok-rows.ensures ∙ c.in_ok-elements.ensures.lines
    ∙ ap (λ applied. glue_lines opened.lines opened.next (flat_map (λ a. flat_map number_sides a.elements) (take c.args.k applied))) c.as_slice-applications.ensures
    ∙ ap (λ ls. glue_lines ls opened.next (flat_map (λ a. flat_map number_sides a.elements) first)) (c.in_ok-table.ensures.lines ∙ ap (numbered_from 1) c.as_slice.ensures)
    ∙ ap (λ (n : ℕ). glue_lines (numbered_from 1 run.lines) n (flat_map (λ a. flat_map number_sides a.elements) first)) (c.in_ok-table.ensures.next ∙ ap (λ ls. 1 + length ls) c.as_slice.ensures)
    ∙ ap (glue_lines (numbered_from 1 run.lines) (1 + length run.lines)) (sym (nested (λ a. a.elements) number_sides first)) in
    λ i. record { elements = many i; front = left i }
