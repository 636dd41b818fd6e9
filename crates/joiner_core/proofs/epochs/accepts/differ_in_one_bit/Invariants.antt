use Rattle.std.proofs.Common.{◌≡◌, ℕ, ◌<◌, ◌^◌}
use Rattle.std.specs.Prelude.{bit_xor}
use Rattle.joiner_core.proofs.epochs.accepts.differ_in_one_bit.Given as goal

abbrev pub invariant-loop-low : goal.invariant-loop-low
invariant-loop-low l = (i : ℕ) → i < l.low → l.to ≡ bit_xor l.from (2 ^ i) → ⊥
