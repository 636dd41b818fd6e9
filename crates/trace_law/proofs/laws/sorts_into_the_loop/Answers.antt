use Rattle.trace_law.proofs.Order.{one_order, wave_in_order}
use Rattle.trace_law.specs.Join.{wave_pairs}
use Rattle.trace_law.proofs.laws.sorts_into_the_loop.Goals as goal

pub returns : goal.returns
returns c = λ input line pairs order same. one_order pairs (wave_pairs input line) same order (wave_in_order input line)
