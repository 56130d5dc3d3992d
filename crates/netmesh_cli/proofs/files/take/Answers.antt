use Rattle.std.proofs.Common.{rules}
use Rattle.netmesh_cli.specs.Causes.{call_failed, too_long, missing}
use Rattle.netmesh_cli.proofs.Refusals.{refused_by}
use Rattle.netmesh_cli.proofs.files.take.Goals as goal

pub returns-in-Err-Failed-clause-refused : goal.returns-in-Err-Failed-clause-refused
returns-in-Err-Failed-clause-refused g c = refused_by _ _ _ _ 1 _ c.folder_refusal.ensures (call_failed (search rules))

pub returns-in-Err-TooLong-clause-refused : goal.returns-in-Err-TooLong-clause-refused
returns-in-Err-TooLong-clause-refused g c = refused_by _ _ _ _ 2 _ c.folder_refusal-in-Err-TooLong.ensures (too_long (search rules))

pub returns-in-Err-Missing-clause-refused : goal.returns-in-Err-Missing-clause-refused
returns-in-Err-Missing-clause-refused g c = refused_by _ _ _ _ 3 _ c.folder_refusal-in-Err-Missing.ensures (missing (search rules))
