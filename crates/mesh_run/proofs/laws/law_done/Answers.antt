use Rattle.std.proofs.Common.{◌≡◌, []}
use Rattle.std.proofs.lemmas.List.Elements.{recursion_from_All}
use Rattle.mesh_run.proofs.DoneWhole.{done_whole}
use Rattle.mesh_run.proofs.Ended.{whole_done}
use Rattle.mesh_run.proofs.laws.law_done.Goals as goal

pub returns : goal.returns
returns c g rules options w h can run ended = done_whole g rules options w h can run (recursion_from_All (λ r. r.front ≡ []) w.domains ((whole_done g rules options w run).0 ended))
