use Rattle.trace_law.proofs.LaterLaws.{finished_later_wave}
use Rattle.trace_law.proofs.laws.some_later_wave_moves_an_older_row.Goals as goal

pub returns : goal.returns
returns c = finished_later_wave
