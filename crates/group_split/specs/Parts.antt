-- The part of R that a group has, and what the group joins.
use Rattle.std.specs.Prelude.{◌≡◌, ℕ, slice_index, slice_index_or, List, [], length, map, filter}
use Rattle.std.specs.List.{range_with_len}
use Rattle.epoch_tags.specs.declared.tuple.Pair.{Pair}
use Rattle.trace_law.specs.declared.input.Input.{Input}
use Rattle.trace_law.specs.declared.setting.Setting.{Setting}
use Rattle.group_split.specs.Sizes.{is_of}

-- the indices of R's rows whose number is of group g, rising
abbrev pub part : ℕ → List ℕ → ℕ → List ℕ
part joiners numbers g = filter (λ i. is_of joiners g (slice_index numbers i)) (range_with_len 0 (length numbers))

-- the input with R's rows of these indices alone, and their tickets
abbrev pub input_of_part : Input → List ℕ → Input
input_of_part input indices =
    record input {
      table_r = record input.table_r { rows = map (λ i. slice_index_or input.table_r.rows i []) indices };
      tickets_r = map (slice_index input.tickets_r) indices;
    }

-- an input that differs from the whole in R's rows and their tickets alone, which are those of some indices
pub record IsPartOf (whole some : Input) : Type 0 where
  pub indices : List ℕ
  pub is : some ≡ input_of_part whole indices

-- the setting with 2 ^ k joiners
abbrev pub setting_of_group : Setting → ℕ → Setting
setting_of_group setting k = record setting { k = k }

-- a pair of a part by the number that its row of R has in the whole table
abbrev pub pair_in : List ℕ → Pair → Pair
pair_in indices pair = record { i = slice_index indices pair.i; j = pair.j }
