-- The law of the collector.
use Rattle.std.specs.Prelude.{ℕ, ◌<◌, List}
use Rattle.row_cells.specs.Lists.{SameBag, gather}
use Rattle.epoch_tags.specs.declared.tuple.Pair.{Pair}
use Rattle.epoch_tags.specs.declared.message.ToCollector.{ToCollector}
use Rattle.epoch_tags.specs.Messages.{found_before_fin, fins}

-- what the collector received
pub record CollectorLists : Type 0 where
  pub from_joiner : ℕ → List ToCollector

-- the pairs of all joiners
abbrev pub pairs_taken : ℕ → CollectorLists → List Pair
pairs_taken joiners lists = gather joiners (λ j. found_before_fin (lists.from_joiner j))

-- it has the `Fin` of each joiner
abbrev pub IsComplete : ℕ → CollectorLists → Type 0
IsComplete joiners lists = (j : ℕ) → j < joiners → 0 < fins (lists.from_joiner j)

-- the pairs that it keeps are those, as a bag
pub record CollectorLaw (joiners : ℕ) (pairs : List Pair) (lists : CollectorLists) : Type 0 where
  pub kept : SameBag pairs (pairs_taken joiners lists)
