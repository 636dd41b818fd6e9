use Rattle.std.proofs.Common.{◌≡◌, ℕ, false, length, get_or}
use Rattle.epoch_tags.proofs.flags.all_down.Given as goal

abbrev pub invariant-loop-i : goal.invariant-loop-i
invariant-loop-i l = (length l.flags.items ≡ l.i) × ((p : ℕ) → get_or l.flags.items p false ≡ false)
