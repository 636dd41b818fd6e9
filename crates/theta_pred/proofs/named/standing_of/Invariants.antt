use Rattle.std.proofs.Common.{◌≡◌, ◌++◌, drop, option_to_list}
use Rattle.theta_pred.specs.Names.{places_from}
use Rattle.theta_pred.proofs.named.standing_of.Given as goal

abbrev pub invariant-loop-place : goal.invariant-loop-place
invariant-loop-place l =
    option_to_list l.found ++ places_from l.place l.word (drop l.place l.name-items) ≡ places_from 0 l.word l.names
