use Rattle.std.proofs.Common.{ℤ, subst}
use Rattle.std.proofs.lemmas.Int.{to_z-of_z}
use Rattle.std.specs.Int.{w32}
use Rattle.word_scan.specs.Scan.{words_of}
use Rattle.vol_format.specs.Reading.{mesh_of, Gives}
use Rattle.vol_format.proofs.Told.{is_found, is_only, is_refused, is_refused_only}
use Rattle.vol_format.proofs.read.read_vol.Goals as goal

pub returns-clause-found : goal.returns-clause-found
returns-clause-found c =
    let same = to_z-of_z w32 c.args.shift c.ranges.shift in
    is_found c.args.shift (words_of c.args.bytes.now) c.read.result (subst (λ (z : ℤ). Gives (λ m. m) c.read.result (mesh_of z (words_of c.args.bytes.now))) same c.read.ensures)

pub returns-clause-only : goal.returns-clause-only
returns-clause-only c =
    let same = to_z-of_z w32 c.args.shift c.ranges.shift in
    is_only c.args.shift (words_of c.args.bytes.now) c.read.result (subst (λ (z : ℤ). Gives (λ m. m) c.read.result (mesh_of z (words_of c.args.bytes.now))) same c.read.ensures)

pub returns-clause-refused : goal.returns-clause-refused
returns-clause-refused c =
    let same = to_z-of_z w32 c.args.shift c.ranges.shift in
    is_refused c.args.shift (words_of c.args.bytes.now) c.read.result (subst (λ (z : ℤ). Gives (λ m. m) c.read.result (mesh_of z (words_of c.args.bytes.now))) same c.read.ensures)

pub returns-clause-refused_only : goal.returns-clause-refused_only
returns-clause-refused_only c =
    let same = to_z-of_z w32 c.args.shift c.ranges.shift in
    is_refused_only c.args.shift (words_of c.args.bytes.now) c.read.result (subst (λ (z : ℤ). Gives (λ m. m) c.read.result (mesh_of z (words_of c.args.bytes.now))) same c.read.ensures)
