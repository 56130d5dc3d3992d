use Rattle.run_log.proofs.Viewed.{is_shown, is_only, is_refused, is_refused_only}
use Rattle.run_log.proofs.viewing.view.Goals as goal

pub returns-clause-shown : goal.returns-clause-shown
returns-clause-shown c = is_shown c.args.log.now c.args.domain c.args.k c.looked_up.result c.requires c.looked_up.ensures

pub returns-clause-only : goal.returns-clause-only
returns-clause-only c = is_only c.args.log.now c.args.domain c.args.k c.looked_up.result c.requires c.looked_up.ensures

pub returns-clause-refused : goal.returns-clause-refused
returns-clause-refused c = is_refused c.args.log.now c.args.domain c.args.k c.looked_up.result c.requires c.looked_up.ensures

pub returns-clause-refused_only : goal.returns-clause-refused_only
returns-clause-refused_only c = is_refused_only c.args.log.now c.args.domain c.args.k c.looked_up.result c.requires c.looked_up.ensures
