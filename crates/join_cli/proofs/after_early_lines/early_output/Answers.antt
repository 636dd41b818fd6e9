use Rattle.std.proofs.Common.{rules}
use Rattle.join_words.specs.Words.{asked, is_early}
use Rattle.join_cli.proofs.EarlyOutput.{nothing_written}
use Rattle.join_report.proofs.Puts.{PutsSome-refl}
use Rattle.join_cli.proofs.after_early_lines.early_output.Goals as goal

pub returns-in-Err : goal.returns-in-Err
returns-in-Err g c = record {
  ends =
      nothing_written (is_early (asked c.args.options.now).kind) (asked c.args.options.now) c.args.planned
      (g.K.Sink.written c.args.sink.now);
  nothing = search rules;
  counts = search rules;
  fails = search rules;
  between = search rules;
  complete = search rules;
  left = PutsSome-refl (g.K.Sink.written c.args.sink.now) (g.K.Sink.takes c.args.sink.now);
}
