use Rattle.std.proofs.Common.{ap, arith, rules, length}
use Rattle.front_chain.proofs.Joins.{can_after, rest_length}
use Rattle.front_chain.proofs.gluing.+glue_way.Goals as goal

pub glue_way-requires : goal.glue_way-requires
glue_way-requires n c =
    let old = c.args.chain.now in
    let new = c.glue_side-in-len1-up.new.self in
    let shorter = rest_length c.args.rest.now (omega (arith, c.in-len1-up.len_at_least)) in (
      search (rules, shorter),
      (
        omega (arith, shorter, c.requires.room, c.glue_side-in-len1-up.ensures.spare_lines),
        can_after (length old.points) (length new.points) old.lines new.lines old.next c.args.first c.args.from c.args.rest.now (omega (arith, c.in-len1-up.len_at_least)) c.requires.can (ap length c.glue_side-in-len1-up.ensures.points) c.glue_side-in-len1-up.ensures.lines,
      ),
    )
