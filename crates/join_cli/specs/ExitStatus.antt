-- Which exit status an outcome has.
use Rattle.std.specs.Prelude.{ℕ}
use Rattle.join_cli.specs.declared.outcome.Outcome.{Outcome}
use Rattle.join_cli.specs.declared.outcome.Outcome.TheVariants.{Done, DoneGroups, DoneChain, DoneRings, Words}
use Rattle.join_cli.specs.declared.outcome.Outcome.TheVariants.{Predicate, Then, Input, Limit, Read, Write, Memory}

-- the exit status
abbrev pub status_of : Outcome → ℕ
status_of (Done journal trail) = 0
status_of (DoneGroups journals trail) = 0
status_of (DoneChain first second trail) = 0
status_of (DoneRings journal ends back) = 0
status_of (Words fault) = 2
status_of (Predicate fault) = 3
status_of (Then fault) = 3
status_of (Input fault) = 4
status_of (Limit fault) = 5
status_of Read = 6
status_of Write = 7
status_of Memory = 8
