use Rattle.grid_geom.proofs.Booleans.{clash, not_true, true_not}
use Rattle.grid_geom.proofs.SharedPoint.{boxes_share, share_boxes, share_not_beside, share_turned}
use Rattle.grid_geom.proofs.segments.segments_meet.Goals as goal

pub returns-then-not-beside : goal.returns-then-not-beside
returns-then-not-beside c = (
  λ t. boxes_share c.args.a c.args.b c.args.c c.args.d (c.boxes_meet.ensures.0 c.if-boxes_meet.true) (λ h. clash c.beside.result c.if-not-beside.true (c.beside.ensures.1 h))
      (λ h. clash c.beside-then-not-beside.result (not_true c.beside-then-not-beside.result t) (c.beside-then-not-beside.ensures.1 h)),
  λ s. true_not c.beside-then-not-beside.result (λ t. share_not_beside c.args.c c.args.d c.args.a c.args.b (share_turned c.args.a c.args.b c.args.c c.args.d s) (c.beside-then-not-beside.ensures.0 t)),
)

pub returns-else-not-beside : goal.returns-else-not-beside
returns-else-not-beside c = (λ t. absurd (clash c.beside.result (not_true c.beside.result t) c.if-not-beside.false), λ s. absurd (share_not_beside c.args.a c.args.b c.args.c c.args.d s (c.beside.ensures.0 c.if-not-beside.false)))

pub returns-else-boxes_meet : goal.returns-else-boxes_meet
returns-else-boxes_meet c = (λ t. absurd (clash c.boxes_meet.result c.if-boxes_meet.false t), λ s. c.boxes_meet.ensures.1 (share_boxes c.args.a c.args.b c.args.c c.args.d s))
