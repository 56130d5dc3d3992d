use Rattle.size_field.proofs.PartLaws.{parts_wind, parts_parts, parts_untangled}
use Rattle.size_field.proofs.laws.law_parts.Goals as goal

pub returns : goal.returns
returns c = record { winds = λ bound n a b q. parts_wind q bound n a b; parts = parts_parts; untangled = parts_untangled }
