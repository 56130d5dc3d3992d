use Rattle.std.proofs.Common.{◌≡◌, ◌+◌, length, drop}
use Rattle.std.specs.List.{flat_map}
use Rattle.vol_format.specs.Text.{element_items}
use Rattle.vol_format.specs.Reading.{walked}
use Rattle.vol_format.proofs.indices.after_elements.Given as goal

abbrev pub invariant-loop-element : goal.invariant-loop-element
invariant-loop-element l =
    let left = flat_map element_items (drop l.element-index l.elements) in
    (walked l.points l.at left ≡ walked l.points l.from (flat_map element_items l.elements)) × (l.at + length left ≡ l.from + length (flat_map element_items l.elements))
