-- What is kept of one joiner.
use Rattle.std.specs.Prelude.{List, Option}
use Rattle.epoch_tags.specs.declared.tuple.Pair.{Pair}
use Rattle.pair_collector.specs.declared.part.Last.{Last}

-- its pairs up to its first `Fin`, and what that carries
pub record Kept : Type 0 where
  pub pairs : List Pair
  pub last : Option Last
