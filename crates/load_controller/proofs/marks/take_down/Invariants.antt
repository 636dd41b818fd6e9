use Rattle.std.proofs.Common.{◌≡◌, ℕ, ◌<◌, false, length, get_or}
use Rattle.load_controller.proofs.marks.take_down.Given as goal

abbrev pub invariant-loop-i : goal.invariant-loop-i
invariant-loop-i l = (length l.flags.items ≡ length l.fn.flags.items)
    × ((p : ℕ) → p < l.i → get_or l.flags.items p false ≡ false)
