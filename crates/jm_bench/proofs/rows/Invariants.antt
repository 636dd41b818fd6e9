use Rattle.std.proofs.Common.{◌≡◌, All, length}
use Rattle.jm_bench.proofs.rows.Given as goal

abbrev pub invariant-loop-number : goal.invariant-loop-number
invariant-loop-number l = All (λ row. length row ≡ 1) l.rows
