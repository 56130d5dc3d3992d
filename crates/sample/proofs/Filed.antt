-- The file of the squares by its parts, and why its check can't refuse it.
use Rattle.std.proofs.Common.{◌≡◌, ℕ, ◌+◌, ◌≤◌, List, [], ◌++◌, Result, Ok, Err, sym, ◌∙◌, ap, subst}
use Rattle.std.specs.Prelude.{IfOk, IfErr}
use Rattle.word_scan.specs.declared.decimals.Dec.{Dec}
use Rattle.in2d_reader.specs.declared.geometry.PointRow.{PointRow}
use Rattle.in2d_reader.specs.declared.geometry.SegmentRow.{SegmentRow}
use Rattle.in2d_reader.specs.declared.geometry.MaterialRow.{MaterialRow}
use Rattle.in2d_reader.specs.declared.geometry.RawGeometry.{RawGeometry}
use Rattle.geom_check.specs.declared.refusal.GeomRefusal.{GeomRefusal}
use Rattle.geom_check.specs.declared.refusal.GeomRefusal.TheVariants.{Memory}
use Rattle.geom_check.specs.Shift.{length_at}
use Rattle.geom_check.specs.Geometry.{PlanarMap, IsGeometryOf}
use Rattle.geom_check.specs.Placed.{IsReadable}
use Rattle.sample.proofs.Coordinates.{unit_long}
use Rattle.geom_check.specs.Refused.{IsRefusal}
use Rattle.geom_check.proofs.OneAnswer.{accepted_unrefused}
use Rattle.sample.specs.Squares.{whole, point_row, across, up, in_rows, squares}
use Rattle.sample.proofs.Accepted.{readable, accepted}

pub filed : (n : ℕ) (raw : RawGeometry) → raw.number ≡ whole 1 → raw.points ≡ in_rows (point_row n) (n + 1) (n + 1) → raw.segments ≡ in_rows (across n) n (n + 1) ++ in_rows (up n) (n + 1) n → raw.materials ≡ [] → raw ≡ squares n
unfolding squares
filed n raw e f g h =
    ap (λ (z : Dec). record { number = z; points = raw.points; segments = raw.segments; materials = raw.materials }) e
    ∙ ap (λ (z : List PointRow). record { number = whole 1; points = z; segments = raw.segments; materials = raw.materials }) f
    ∙ ap (λ (z : List SegmentRow). record { number = whole 1; points = in_rows (point_row n) (n + 1) (n + 1); segments = z; materials = raw.materials }) g
    ∙ ap (λ (z : List MaterialRow). record { number = whole 1; points = in_rows (point_row n) (n + 1) (n + 1); segments = in_rows (across n) n (n + 1) ++ in_rows (up n) (n + 1) n; materials = z }) h

pub is_readable : (n : ℕ) (raw : RawGeometry) → 1 ≤ n → n ≤ 8 → raw ≡ squares n → IsReadable raw
is_readable n raw h k e = subst IsReadable (sym e) (readable n h k)

pub not_refused : (n : ℕ) (raw : RawGeometry) (refusal : GeomRefusal) → 1 ≤ n → n ≤ 8 → raw ≡ squares n → IsRefusal raw refusal → refusal ≡ Memory
not_refused n raw refusal h k e r = accepted_unrefused (squares n) refusal (accepted n h k) (subst (λ z. IsRefusal z refusal) e r)

pub memory_alone : {A : Type 0} (n : ℕ) (raw : RawGeometry) (result : Result A GeomRefusal) → 1 ≤ n → n ≤ 8 → raw ≡ squares n → IfErr result (IsRefusal raw) → IfErr result (λ refusal. refusal ≡ Memory)
memory_alone n raw (Ok x) h k e r = tt
memory_alone n raw (Err refusal) h k e r = not_refused n raw refusal h k e r

pub both_joined : (first second whole_first whole_second joined : List SegmentRow) → joined ≡ first ++ second → first ≡ whole_first → second ≡ whole_second → joined ≡ whole_first ++ whole_second
both_joined first second whole_first whole_second joined e f g = e ∙ ap (λ xs. xs ++ second) f ∙ ap (λ xs. whole_first ++ xs) g

pub has_unit : {E : Type 0} (n : ℕ) (result : Result PlanarMap E) → n ≤ 8 → IfOk result (IsGeometryOf (squares n)) → IfOk result (λ g. 64 ≤ length_at g.shift (whole 1))
unfolding squares
has_unit n (Ok g) h is = unit_long n g.shift h is.shift
has_unit n (Err e) h is = tt
