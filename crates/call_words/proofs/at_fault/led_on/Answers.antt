use Rattle.std.proofs.Common.{rules, ◌≡◌, ◌≢◌, true, false}
use Rattle.std.specs.Option.{option_copied}
use Rattle.call_words.specs.Walks.{walk_seen, course_seen}
use Rattle.call_words.proofs.Misfits.{goes_on, stays}
use Rattle.call_words.proofs.AtFault.{no_step, no_value, no_right_place, leads_by_place, leads_by_other}
use Rattle.call_words.proofs.at_fault.led_on.Goals as goal

pub returns-in_default-clause-none : goal.returns-in_default-clause-none
returns-in_default-clause-none c = no_step c.args.verb (walk_seen c.args.course.now.walk) c.args.course.now.names (option_copied c.args.course.now.mesh) c.args.word.now (stays c.args.verb (walk_seen c.args.course.now.walk) c.args.word.now c.walked_on.result c.in_default.is c.walked_on.ensures)

pub returns-then-not-have_values-clause-none : goal.returns-then-not-have_values-clause-none
returns-then-not-have_values-clause-none c =
    let e = goes_on c.args.verb (walk_seen c.args.course.now.walk) c.args.word.now c.walked_on.result c.in-Some.walk c.in-Some.is c.walked_on.ensures in
    let none : c.have_values.result ≡ false = search rules in
    no_value c.args.verb (walk_seen c.args.course.now.walk) (walk_seen c.in-Some.walk) c.args.course.now.names (option_copied c.args.course.now.mesh) c.args.word.now e c.requires.sound (c.have_values.ensures.wrong none)

pub returns-then-walk-place-clause-found : goal.returns-then-walk-place-clause-found
returns-then-walk-place-clause-found c =
    let e = goes_on c.args.verb (walk_seen c.args.course.now.walk) c.args.word.now c.walked_on.result c.in-Some.walk c.in-Some.is c.walked_on.ensures in
    let some : c.have_values.result ≡ true = search rules in
    let still : c.in-Some.walk.passed ≡ c.args.course.now.walk.passed = search rules in
    leads_by_other c.args.verb (course_seen c.args.course.now) (walk_seen c.in-Some.walk) c.args.word.now c.requires e still (c.have_values.ensures.right some)

pub returns-then-not-is_right-clause-none : goal.returns-then-not-is_right-clause-none
returns-then-not-is_right-clause-none c =
    let e = goes_on c.args.verb (walk_seen c.args.course.now.walk) c.args.word.now c.walked_on.result c.in-Some.walk c.in-Some.is c.walked_on.ensures in
    let more : c.in-Some.walk.passed ≢ c.args.course.now.walk.passed = search rules in
    let wrong : c.is_right.result ≡ false = search rules in
    no_right_place c.args.verb (walk_seen c.args.course.now.walk) (walk_seen c.in-Some.walk) c.args.course.now.names (option_copied c.args.course.now.mesh) c.args.word.now e c.requires.sound more (c.is_right.ensures.wrong wrong)

pub returns-clause-found : goal.returns-clause-found
returns-clause-found c =
    let e = goes_on c.args.verb (walk_seen c.args.course.now.walk) c.args.word.now c.walked_on.result c.in-Some.walk c.in-Some.is c.walked_on.ensures in
    let more : c.in-Some.walk.passed ≢ c.args.course.now.walk.passed = search rules in
    let some : c.have_values.result ≡ true = search rules in
    let right : c.is_right.result ≡ true = search rules in
    rw c.mesh_behind.ensures (leads_by_place c.args.verb (course_seen c.args.course.now) (walk_seen c.in-Some.walk) c.args.word.now c.requires e more (c.have_values.ensures.right some) (c.is_right.ensures.right right))
