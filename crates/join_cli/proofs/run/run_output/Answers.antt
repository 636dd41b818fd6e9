use Rattle.join_words.specs.Words.{asked}
use Rattle.join_cli.proofs.Inputs.{course_of_run, output_is}
use Rattle.join_cli.proofs.Made.{made_once}
use Rattle.join_cli.proofs.run.run_output.Goals as goal

pub returns-in-Ok : goal.returns-in-Ok
returns-in-Ok g c = λ planned is.
    let own = asked c.args.options.now in
    let work = c.args.work.now in
    let course = c.in_ok-run.field-0 in
    rw c.journal_of-journal.ensures
    (made_once c.args.options.now planned work course.run.journal course.trail
    c.in-Ok.text c.requires.work c.requires.kind
    (course_of_run own planned work is c.requires.work work.number course.run course.trail c.in_ok-run.ensures.run
    c.in_ok-run.ensures.went)
    (output_is own planned work is c.requires.work course.run.journal c.in-Ok.text c.in-Ok.ensures))
