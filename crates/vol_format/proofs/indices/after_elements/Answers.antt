use Rattle.std.proofs.Common.{◌≡◌, ◌+◌, ◌++◌, Err, length, length-append, drop, sym, ap, ◌∙◌, arith}
use Rattle.std.specs.List.{flat_map}
use Rattle.std.proofs.lemmas.Result.{err_from_is_err_and}
use Rattle.vol_format.specs.Text.{element_items}
use Rattle.vol_format.specs.Reading.{walked}
use Rattle.vol_format.proofs.Walked.{row_first, behind, stays}
use Rattle.vol_format.proofs.indices.after_elements.Goals as goal

pub after_element-requires : goal.after_element-requires
after_element-requires c =
    let e = c.element-item.result in
    let rest = flat_map element_items (drop (c.loop-element.element-index + 1) c.args.elements.now) in
    let first = row_first element_items c.args.elements.now c.loop-element.element-index e c.loop-element-test.true c.element-item.is in
    omega (arith, c.loop-element.invariant.1, c.requires, ap length first, length-append (element_items e) rest)

pub returns-in_err-at : goal.returns-in_err-at
returns-in_err-at c =
    let e = c.element-item.result in
    let rest = flat_map element_items (drop (c.loop-element.element-index + 1) c.args.elements.now) in
    let first = row_first element_items c.args.elements.now c.loop-element.element-index e c.loop-element-test.true c.element-item.is in
    let p = err_from_is_err_and c.from_residual.result c.from_residual.ensures.1 in
    let bad : walked c.args.points c.loop-element.at (element_items e ++ rest) ≡ Err c.in_err-at.field-0.0 = stays c.args.points c.loop-element.at (element_items e) rest c.in_err-at.field-0.0 (sym c.in_err-at.ensures) in
    rw (p.1, p.2) (sym bad ∙ ap (walked c.args.points c.loop-element.at) (sym first) ∙ c.loop-element.invariant.0)

pub loop-element-preserved : goal.loop-element-preserved
loop-element-preserved c =
    let e = c.element-item.result in
    let rest = flat_map element_items (drop (c.loop-element.element-index + 1) c.args.elements.now) in
    let first = row_first element_items c.args.elements.now c.loop-element.element-index e c.loop-element-test.true c.element-item.is in
    let b = behind c.args.points c.loop-element.at c.in_ok-at.at (element_items e) rest (sym c.in_ok-at.ensures) in
    (sym b.on ∙ ap (walked c.args.points c.loop-element.at) (sym first) ∙ c.loop-element.invariant.0, omega (arith, b.place, c.loop-element.invariant.1, ap length first, length-append (element_items e) rest))
