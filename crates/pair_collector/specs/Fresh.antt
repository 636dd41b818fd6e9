-- The pairs that were taken since the collector last gave some.
use Rattle.std.specs.Prelude.{◌≡◌, ℕ, ◌<◌, List, length, drop, slice_index, slice_index_or}
use Rattle.row_cells.specs.Lists.{gather}
use Rattle.epoch_tags.specs.declared.tuple.Pair.{Pair}
use Rattle.epoch_tags.specs.Messages.{found_before_fin}
use Rattle.pair_collector.specs.Kept.{Kept}
use Rattle.pair_collector.specs.Law.{CollectorLists}
use Rattle.pair_collector.specs.Standing.{CollectorState, nothing_kept}

-- of what is kept of n joiners: the pairs behind those that were given
abbrev pub kept_behind : List ℕ → List Kept → ℕ → List Pair
kept_behind given joiners n = gather n (λ j. drop (slice_index given j) (slice_index_or joiners j nothing_kept).pairs)

-- the pairs behind those of earlier lists
abbrev pub pairs_since : ℕ → CollectorLists → CollectorLists → List Pair
pairs_since joiners earlier lists = gather joiners (λ j. drop (length (found_before_fin (earlier.from_joiner j)))
    (found_before_fin (lists.from_joiner j)))

-- of each joiner as many pairs were given as these lists have
abbrev pub HasGiven : ℕ → CollectorLists → CollectorState → Type 0
HasGiven joiners lists state = (j : ℕ) → j < joiners → slice_index state.given j
    ≡ length (found_before_fin (lists.from_joiner j))
