-- What clap's matches say of one argument.
use Rattle.std.specs.Prelude.{ℕ, Bool, List, [], Option, Some, None, codes, unwrap_or, option_and_then}
use Rattle.std.specs.Prelude.{if◌then◌else◌}
use Rattle.std.specs.Str.{bytes_eq}
use Rattle.std.specs.Str.Parse.{digits_value, without_leading_plus}
use Rattle.grid_map.specs.declared.cost.Weights.{Weights}
use Rattle.clap.specs.ValueTests.{is_unsigned_in}
use Rattle.clap.specs.Walk.{Row, Text, all_of, first_of}

-- a whole number of 64 bits
abbrev pub number_of : Text → Option ℕ
number_of text = if is_unsigned_in 0 18446744073709551615 text then Some (digits_value 10 (without_leading_plus text))
    else None

-- the number of an argument's first value, where it is one
abbrev pub number_at : Text → List Row → Option ℕ
number_at id rows = option_and_then number_of (first_of id rows)

-- the first value of an argument, empty where there is none
abbrev pub text_at : Text → List Row → Text
text_at id rows = unwrap_or (first_of id rows) []

-- whether an argument is set
abbrev pub flag_at : Text → List Row → Bool
flag_at id rows = bytes_eq (text_at id rows) (codes "true")

-- how many joiners
abbrev pub joiners_at : List Row → ℕ
joiners_at rows = unwrap_or (number_at (codes "joiners") rows) 4

-- how many feeders
abbrev pub feeders_at : List Row → ℕ
feeders_at rows = unwrap_or (number_at (codes "feeders") rows) 2

-- how many workers
abbrev pub workers_at : List Row → ℕ
workers_at rows = unwrap_or (number_at (codes "workers") rows) 4

-- how many rows a feeder asks for at once
abbrev pub batch_at : List Row → ℕ
batch_at rows = unwrap_or (number_at (codes "batch") rows) 64

-- what a row of each side weighs
abbrev pub weights_at : List Row → Weights
weights_at rows = record {
  r = unwrap_or (number_at (codes "weight-r") rows) 1;
  s = unwrap_or (number_at (codes "weight-s") rows) 1;
}

-- how many rows a side has, where tables are to be made
abbrev pub make_at : List Row → Option ℕ
make_at rows = number_at (codes "make") rows

-- the seed of the order of a replay, where one is asked for
abbrev pub replay_at : List Row → Option ℕ
replay_at rows = number_at (codes "replay") rows

-- whether pairs are wanted early
abbrev pub early_at : List Row → Bool
early_at rows = flag_at (codes "early") rows

-- whether the joiners are to form groups
abbrev pub groups_at : List Row → Bool
groups_at rows = flag_at (codes "groups") rows

-- the text of the second predicate, where there is one
abbrev pub then_at : List Row → Option Text
then_at rows = first_of (codes "then") rows

-- whether messages are to go over rings
abbrev pub rings_at : List Row → Bool
rings_at rows = flag_at (codes "rings") rows

-- after how many waves each joiner is to split into four, where they are to
abbrev pub grow_at : List Row → Option ℕ
grow_at rows = number_at (codes "grow") rows

-- the names of files
abbrev pub names_given : List Row → List Text
names_given rows = unwrap_or (all_of (codes "files") rows) []
