use lib.IntN.{◌-ℤ◌, ◌*ℤ◌}
use Rattle.grid_geom.proofs.Within.{rat_offset_within, rat_offset_fits, rat_offset_inner, rat_offset_is}
use Rattle.grid_geom.proofs.orientation.rat_offset.Goals as goal

pub overflow_sub-result : goal.overflow_sub-result
overflow_sub-result c = rw (rat_offset_inner c.args.z c.args.from c.args.k c.ranges.from c.requires.from_on c.requires.z_small c.requires.k_positive c.requires.k_small)
    (rat_offset_fits (c.args.z -ℤ c.args.from *ℤ c.args.k) (rat_offset_within c.args.z c.args.from c.args.k c.requires.from_on c.requires.z_small c.requires.k_positive c.requires.k_small))

pub returns-clause-value : goal.returns-clause-value
returns-clause-value c = rat_offset_is c.args.z c.args.from c.args.k c.ranges.from c.requires.from_on c.requires.z_small c.requires.k_positive c.requires.k_small

pub returns-clause-small : goal.returns-clause-small
returns-clause-small c = rw (rat_offset_is c.args.z c.args.from c.args.k c.ranges.from c.requires.from_on c.requires.z_small c.requires.k_positive c.requires.k_small)
    (rat_offset_within c.args.z c.args.from c.args.k c.requires.from_on c.requires.z_small c.requires.k_positive c.requires.k_small)
