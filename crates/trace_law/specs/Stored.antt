-- Which rows a joiner has stored.
use Rattle.std.specs.Prelude.{ℕ, ◌+◌, ◌^◌, ◌<◌, ◌≤◌, nat_le, Bool, ◌&&◌, ◌⊎◌, List, map, filter, filter_map, option_map}
use Rattle.row_cells.specs.Lists.{SameBag, IsWithinBag}
use Rattle.epoch_tags.specs.declared.tuple.Tuple.{Tuple}
use Rattle.epoch_tags.specs.Messages.{turns, ends}
use Rattle.migration_plan.specs.Steps.{holds}
use Rattle.joiner_law.specs.Law.{Taken, IsSettled, opened, store}
use Rattle.load_controller.specs.declared.line.TurnLine.{TurnLine}
use Rattle.trace_law.specs.declared.input.Input.{Input}
use Rattle.trace_law.specs.declared.setting.Setting.{Setting}
use Rattle.trace_law.specs.Family.{Rest, Family, IsAgreeing, all_places, aged, tuple_of, joiner_start, shift_of}
use Rattle.trace_law.specs.Family.{stamp_at}

-- of epoch e or older, and held by joiner j at shift b
abbrev pub is_stored : ℕ → ℕ → ℕ → ℕ → Tuple → Bool
is_stored k b e j t = nat_le t.stamp e && holds k b j t

-- all that feeders send in the epoch after n steps has come: each has turned past it, or has ended
abbrev pub HasAllOf : ℕ → Taken → ℕ → Type 0
HasAllOf feeders t n = (p : ℕ) → p < feeders → (n < turns (t.from_feeder p)) ⊎ (0 < ends (t.from_feeder p))

-- the tuples of all rows that have a stamp by the journal, each with it
abbrev pub counted_rows : Input → Setting → TurnLine → List TurnLine → List Tuple
counted_rows input setting line journal =
    filter_map (λ place. option_map (λ e. tuple_of input e place) (stamp_at input setting line journal place))
    (all_places input)

-- the rows that joiner j holds at the shift of the epoch after n steps of the wave, of this epoch or older
abbrev pub rows_held : Input → Setting → Rest → Family → ℕ → ℕ → List Tuple
rows_held input setting rest f n j =
    filter (is_stored setting.k (shift_of rest f (rest.line.epoch + n)) (rest.line.epoch + n) j)
    (counted_rows input setting rest.line f.controller.journal)

-- what each joiner stores is told by the input, the setting and the journal, older stamps of older rows aside
pub record StoresItsRows (input : Input) (setting : Setting) (rest : Rest) (f : Family)
    (agrees : IsAgreeing input setting rest f) : Type 0 where
  -- a joiner stores at most those of an epoch or older that it holds
  pub at_most : (n j : ℕ) → j < 2 ^ setting.k
      → n ≤ opened (joiner_start input setting rest j) (agrees.taken_by_joiner j)
      → IsWithinBag (map (aged rest.line) (store (joiner_start input setting rest j) (agrees.taken_by_joiner j) n))
      (rows_held input setting rest f n j)
  -- and all of them, once the step is settled and all of the epoch has come
  pub all_of : (n j : ℕ) → j < 2 ^ setting.k
      → ((m : ℕ) → m < n → IsSettled (joiner_start input setting rest j) (agrees.taken_by_joiner j) m)
      → HasAllOf setting.feeders (agrees.taken_by_joiner j) n
      → SameBag (map (aged rest.line) (store (joiner_start input setting rest j) (agrees.taken_by_joiner j) n))
      (rows_held input setting rest f n j)
