use Rattle.trace_law.specs.Family.{Rest}
use Rattle.std.specs.Prelude.{[]}
use Rattle.trace_law.proofs.Counted.{each_counted}
use Rattle.trace_law.proofs.laws.lawful_counts_each_row.Goals as goal

pub returns : goal.returns
returns c = λ input setting line journal valid law side index low.
    let rest : Rest = record { line = line; stores = λ j. [] } in
    each_counted input setting valid rest journal law side index low
