use Rattle.join_report.proofs.Puts.{PutsSome-refl}
use Rattle.join_runtime.proofs.early_lines.put_lines.Goals as goal

pub returns-in_err-text-clause-left : goal.returns-in_err-text-clause-left
returns-in_err-text-clause-left g c = PutsSome-refl (g.K.Sink.written c.args.sink.now) (g.K.Sink.takes c.args.sink.now)
