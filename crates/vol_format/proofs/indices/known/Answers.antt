use Rattle.std.proofs.Common.{◌≡◌, ◌+◌, ◌<◌, Ok, Err, [], length, sym, arith}
use Rattle.std.specs.List.{flat_map}
use Rattle.std.proofs.lemmas.Result.{err_from_is_err_and}
use Rattle.vol_format.specs.Text.{element_items, edge_items, mesh_items}
use Rattle.vol_format.specs.Reading.{walked, known_if}
use Rattle.vol_format.proofs.Walked.{behind, mesh_walked, element_bad, edge_bad, mesh_long}
use Rattle.vol_format.proofs.Forms.{fails_same}
use Rattle.vol_format.proofs.indices.known.Goals as goal

pub returns-in_err-at : goal.returns-in_err-at
returns-in_err-at c =
    let m = c.args.m.now in
    let p = err_from_is_err_and c.from_residual.result c.from_residual.ensures.1 in
    let h : walked (length m.points) 8 (flat_map element_items m.elements) ≡ Err c.in_err-at.field-0.0 = rw (← c.as_slice.ensures, ← c.as_slice-2.ensures) (sym c.in_err-at.ensures) in
    rw (p.1, p.2) (fails_same c.in_err-at.field-0.0 (known_if m (walked (length m.points) 1 (mesh_items m))) (element_bad m c.in_err-at.field-0.0 h))

pub overflow_add-at : goal.overflow_add-at
overflow_add-at c =
    let m = c.args.m.now in
    let h : walked (length m.points) 8 (flat_map element_items m.elements) ≡ Ok c.in_ok-at.at = rw (← c.as_slice.ensures, ← c.as_slice-2.ensures) (sym c.in_ok-at.ensures) in
    omega (arith, (behind (length m.points) 8 c.in_ok-at.at (flat_map element_items m.elements) [] h).place, mesh_long m, c.requires)

pub after_edges-requires : goal.after_edges-requires
after_edges-requires c =
    let m = c.args.m.now in
    let h : walked (length m.points) 8 (flat_map element_items m.elements) ≡ Ok c.in_ok-at.at = rw (← c.as_slice.ensures, ← c.as_slice-2.ensures) (sym c.in_ok-at.ensures) in
    let fits : c.in_ok-at.at + 4 + length (flat_map edge_items m.edges) < 18446744073709551616 = omega (arith, (behind (length m.points) 8 c.in_ok-at.at (flat_map element_items m.elements) [] h).place, mesh_long m, c.requires) in
    rw c.as_slice-3.ensures fits

pub returns-in_err-after_edges : goal.returns-in_err-after_edges
returns-in_err-after_edges c =
    let m = c.args.m.now in
    let p = err_from_is_err_and c.from_residual-in_err-after_edges.result c.from_residual-in_err-after_edges.ensures.1 in
    let h : walked (length m.points) 8 (flat_map element_items m.elements) ≡ Ok c.in_ok-at.at = rw (← c.as_slice.ensures, ← c.as_slice-2.ensures) (sym c.in_ok-at.ensures) in
    let f : walked (length m.points) (c.in_ok-at.at + 4) (flat_map edge_items m.edges) ≡ Err c.in_err-after_edges.field-0.0 = rw (← c.as_slice.ensures, ← c.as_slice-3.ensures) (sym c.in_err-after_edges.ensures) in
    rw (p.1, p.2) (fails_same c.in_err-after_edges.field-0.0 (known_if m (walked (length m.points) 1 (mesh_items m))) (edge_bad m c.in_ok-at.at c.in_err-after_edges.field-0.0 h f))

pub returns : goal.returns
returns c =
    let m = c.args.m.now in
    let h : walked (length m.points) 8 (flat_map element_items m.elements) ≡ Ok c.in_ok-at.at = rw (← c.as_slice.ensures, ← c.as_slice-2.ensures) (sym c.in_ok-at.ensures) in
    let f : walked (length m.points) (c.in_ok-at.at + 4) (flat_map edge_items m.edges) ≡ Ok c.in_ok-after_edges.field-0 = rw (← c.as_slice.ensures, ← c.as_slice-3.ensures) (sym c.in_ok-after_edges.ensures) in
    mesh_walked m c.in_ok-at.at c.in_ok-after_edges.field-0 h f
