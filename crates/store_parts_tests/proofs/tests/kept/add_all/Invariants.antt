use Rattle.std.proofs.Common.{◌≡◌, None}
use Rattle.store_parts_tests.proofs.tests.kept.add_all.Given as goal

abbrev pub invariant-loop-side : goal.invariant-loop-side
invariant-loop-side l = l.store.key ≡ None
