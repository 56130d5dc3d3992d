use Rattle.grid_geom.proofs.MeetingBoxes.{meeting_share, sharing_meet, meeting_boxes}
use Rattle.grid_geom.proofs.laws.law_boxes.Goals as goal

pub returns : goal.returns
returns c = record { common = meeting_share; meet = sharing_meet; corners = meeting_boxes }
