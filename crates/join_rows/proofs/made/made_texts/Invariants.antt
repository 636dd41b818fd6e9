use Rattle.std.proofs.Common.{◌≡◌}
use Rattle.std.specs.List.{flat_map}
use Rattle.join_rows.proofs.MadeTables.{made_rows}
use Rattle.join_rows.proofs.made.made_texts.Given as goal

abbrev pub invariant-loop-place : goal.invariant-loop-place
invariant-loop-place l = l.texts ≡ flat_map (λ row. row) (made_rows l.side l.place)
