use Rattle.trace_law.proofs.Waves.{run_bounded}
use Rattle.trace_law.proofs.laws.lawful_run_is_bounded.Goals as goal

pub returns : goal.returns
returns c = λ setting waves limits are a c' small. run_bounded setting waves limits are a c' small
