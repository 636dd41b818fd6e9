use Rattle.std.proofs.Common.{Some}
use Rattle.join_words.specs.Words.{asked}
use Rattle.join_cli.specs.Courses.{by_rings}
use Rattle.join_cli.proofs.Inputs.{course_over_rings, output_is}
use Rattle.join_cli.proofs.Made.{made_over_rings}
use Rattle.join_cli.proofs.rings.rings_output.Goals as goal

pub returns-in-Ok : goal.returns-in-Ok
returns-in-Ok g c = λ planned is.
    let own = asked c.args.options.now in
    let work = c.args.work.now in
    let told = c.in_ok-run.field-0 in
    rw c.journal_of-journal.ensures
    (made_over_rings own planned c.in-Ok.text
    (Some (by_rings told.run.journal told.ends told.fallen)) c.requires.kind (λ grid. (
      course_over_rings own planned work is c.requires.work told c.in_ok-run.ensures.run c.in_ok-run.ensures.fallen
          c.in_ok-run.ensures.family,
      output_is own planned work is c.requires.work told.run.journal c.in-Ok.text c.in-Ok.ensures,
    )))
