use Rattle.std.proofs.Common.{◌≡◌, ◌+◌, Err, inr, ap, length, rules}
use Rattle.actor_core.specs.Tasks.{task_of}
use Rattle.join_runtime.specs.declared.early_lines.EarlyFault.TheVariants as faults
use Rattle.join_cli.specs.Threads.{IsRunInThreads}
use Rattle.join_cli.specs.Plan.{report_asked}
use Rattle.join_cli.proofs.EarlyOutput.{put_cut, put_whole}
use Rattle.join_report.proofs.Puts.{PutsSome-trans}
use Rattle.join_cli.proofs.after_early_lines.put_found.Goals as goal

pub returns-in-Ok-put_report : goal.returns-in-Ok-put_report
returns-in-Ok-put_report g c = record {
  course = search rules;
  whole =
      put_whole c.args.options.now.report c.args.work.now c.in_ok-run.field-0.run c.in_ok-run.ensures.run
      (g.K.Sink.written c.args.sink.now) (g.K.Sink.written c.run_early.new.sink)
      (g.K.Sink.written c.put_report.new.sink) c.in_ok-run.ensures.whole c.in-Ok-put_report.ensures.whole;
  part = search rules;
  lines = search rules;
  counts = search rules;
  fails = search rules;
  takes = search rules;
  left =
      PutsSome-trans (g.K.Sink.written c.args.sink.now) (g.K.Sink.written c.run_early.new.sink)
      (g.K.Sink.written c.put_report.new.sink)
      (g.K.Sink.takes c.args.sink.now) (g.K.Sink.takes c.run_early.new.sink) (g.K.Sink.takes c.put_report.new.sink)
      c.in_ok-run.ensures.left c.in-Ok-put_report.ensures.left;
}

pub returns-in-Err-put_report : goal.returns-in-Err-put_report
returns-in-Err-put_report g c =
    let told = c.in_ok-run.field-0 in
    let work = c.args.work.now in
    let went : IsRunInThreads (task_of work.input.now work.setting.now) told.run.journal c.in-Ok.trail =
    record { ends = told.ends; family = c.in_ok-run.ensures.family; only = c.in-Ok.ensures } in
    record {
      course = search rules;
      whole = search rules;
      part = λ is.
          let same : c.in-Err-put_report.fault ≡ faults.Write = cc is in
          inr (put_cut c.args.options.now.report work told.run c.in_ok-run.ensures.run
          (g.K.Sink.written c.args.sink.now) (g.K.Sink.written c.run_early.new.sink)
          (g.K.Sink.written c.put_report.new.sink) c.in_ok-run.ensures.whole c.in-Ok.trail went
          (c.in-Err-put_report.ensures.front (ap Err same)));
      lines = search rules;
      counts = search rules;
      fails = search rules;
      takes = λ takes is.
          let same : c.in-Err-put_report.fault ≡ faults.Write = cc is in
          let lines = report_asked c.args.options.now.report work.input.now work.setting.now told.run.journal in
          c.in-Err-put_report.ensures.takes (c.in_ok-run.ensures.takes (length lines + 0)
          (takes.each told.run c.in-Ok.trail c.in_ok-run.ensures.run went)).1 (ap Err same);
      left =
          PutsSome-trans (g.K.Sink.written c.args.sink.now) (g.K.Sink.written c.run_early.new.sink)
          (g.K.Sink.written c.put_report.new.sink)
          (g.K.Sink.takes c.args.sink.now) (g.K.Sink.takes c.run_early.new.sink) (g.K.Sink.takes c.put_report.new.sink)
          c.in_ok-run.ensures.left c.in-Err-put_report.ensures.left;
    }
