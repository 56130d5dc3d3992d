use Rattle.rule_maps.proofs.Summing.{mixed_is}
use Rattle.rule_maps.proofs.sums.mixed.Goals as goal

pub overflow_add-result : goal.overflow_add-result
overflow_add-result c = rw c.limit_weight-weight.ensures ((mixed_is c.args.class c.args.area.now.u c.args.limit.now.u c.requires.least c.requires.greatest c.requires.area_u c.requires.limit_u).fits)

pub overflow_mul-result-2 : goal.overflow_mul-result-2
overflow_mul-result-2 c = rw c.limit_weight-weight.ensures ((mixed_is c.args.class c.args.area.now.v c.args.limit.now.v c.requires.least c.requires.greatest c.requires.area_v c.requires.limit_v).product_fits)

pub overflow_add-result-2 : goal.overflow_add-result-2
overflow_add-result-2 c = rw c.limit_weight-weight.ensures ((mixed_is c.args.class c.args.area.now.v c.args.limit.now.v c.requires.least c.requires.greatest c.requires.area_v c.requires.limit_v).fits)

pub returns-clause-u : goal.returns-clause-u
returns-clause-u c = rw c.limit_weight-weight.ensures ((mixed_is c.args.class c.args.area.now.u c.args.limit.now.u c.requires.least c.requires.greatest c.requires.area_u c.requires.limit_u).value)

pub returns-clause-v : goal.returns-clause-v
returns-clause-v c = rw c.limit_weight-weight.ensures ((mixed_is c.args.class c.args.area.now.v c.args.limit.now.v c.requires.least c.requires.greatest c.requires.area_v c.requires.limit_v).value)

pub returns-clause-u_small : goal.returns-clause-u_small
returns-clause-u_small c = rw c.limit_weight-weight.ensures ((mixed_is c.args.class c.args.area.now.u c.args.limit.now.u c.requires.least c.requires.greatest c.requires.area_u c.requires.limit_u).small)

pub returns-clause-v_small : goal.returns-clause-v_small
returns-clause-v_small c = rw c.limit_weight-weight.ensures ((mixed_is c.args.class c.args.area.now.v c.args.limit.now.v c.requires.least c.requires.greatest c.requires.area_v c.requires.limit_v).small)
