use Rattle.std.proofs.Common.{Err, ap, rules}
use Rattle.join_words.specs.Words.{asked}
use Rattle.join_cli.proofs.EarlyOutput.{early_stopped, early_takes, early_written, went_early}
use Rattle.join_cli.proofs.after_early_lines.put_early.Goals as goal

pub returns-in-Ok : goal.returns-in-Ok
returns-in-Ok g c planned is =
    let own = asked c.args.options.now in
    record {
      ends = (
        went_early own planned c.args.work.now is c.requires.work c.requires.early c.in-Ok.field-0.run
            c.in-Ok.field-0.trail c.in-Ok.ensures.course.run c.in-Ok.ensures.course.went,
        early_written own planned c.args.work.now is c.requires.work c.requires.early c.in-Ok.field-0.run.journal
            c.in-Ok.field-0.trail (g.K.Sink.written c.args.sink.now) (g.K.Sink.written c.put_found.new.sink)
            c.in-Ok.ensures.whole,
      );
      nothing = search rules;
      counts = search rules;
      fails = search rules;
      between = search rules;
      complete = search rules;
      left = search rules;
    }

pub returns-in-Err-Write : goal.returns-in-Err-Write
returns-in-Err-Write g c planned is = record {
  ends =
      early_stopped (asked c.args.options.now) planned c.args.work.now is c.requires.work c.requires.early
      (g.K.Sink.written c.args.sink.now) (g.K.Sink.written c.put_found.new.sink)
      (c.in-Err-Write.ensures.part (ap Err c.in-Err-Write.field-0-is));
  nothing = search rules;
  counts = search rules;
  fails = search rules;
  between = search rules;
  complete = λ takes few.
      absurd (c.in-Err-Write.ensures.takes
      (early_takes (asked c.args.options.now) planned c.args.work.now is c.requires.work c.requires.early
      (g.K.Sink.takes c.args.sink.now) takes)
      (ap Err c.in-Err-Write.field-0-is));
  left = search rules;
}
