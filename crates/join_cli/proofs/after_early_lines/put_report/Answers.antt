use Rattle.std.proofs.Common.{rules}
use Rattle.join_report.proofs.Puts.{PutsSome-front}
use Rattle.join_cli.proofs.after_early_lines.put_report.Goals as goal

pub returns-in-Err-put : goal.returns-in-Err-put
returns-in-Err-put g c = record {
  whole = search rules;
  front = search rules;
  nothing = search rules;
  counts = search rules;
  fails = search rules;
  takes = search rules;
  left =
      PutsSome-front (g.K.Sink.written c.args.sink.now) (g.K.Sink.written c.put_all-put.new.sink)
      (g.K.Sink.takes c.args.sink.now) (g.K.Sink.takes c.put_all-put.new.sink)
      c.as_slice.result.now c.in-Err-put.ensures.left;
}
