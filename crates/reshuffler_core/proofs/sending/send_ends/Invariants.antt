use Rattle.std.proofs.Common.{◌≡◌, ◌++◌}
use Rattle.epoch_tags.specs.declared.message.ToJoiner.TheVariants.{End}
use Rattle.reshuffler_core.specs.Standing.{posts_to_all}
use Rattle.reshuffler_core.proofs.sending.send_ends.Given as goal

abbrev pub invariant-loop-id : goal.invariant-loop-id
invariant-loop-id l = l.sends ≡ l.initial.sends ++ posts_to_all l.id End
