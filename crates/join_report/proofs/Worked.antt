-- Worked rows.
use Rattle.std.specs.Prelude.{◌≡◌, ◌++◌, ℕ, List, [], ◌∷◌, Some, None, false, codes, refl}
use Rattle.std.specs.Fmt.{digits}
use Rattle.epoch_tags.specs.declared.tuple.Pair.{Pair}
use Rattle.load_controller.specs.declared.line.Cause.TheVariants.{Start}
use Rattle.load_controller.specs.declared.line.TurnLine.{TurnLine}
use Rattle.pair_collector.specs.declared.collected.Held.{Held}
use Rattle.row_tickets.specs.declared.place.Feed.TheVariants.{RFirst, Alternate}
use Rattle.trace_law.specs.declared.setting.Setting.{Setting}
use Rattle.trace_law.specs.declared.run.Run.{Run}
use Rattle.join_report.specs.PairLines.{pair_lines}
use Rattle.join_report.specs.Report.{grown_report_of, report_of}
use Rattle.join_report.specs.Waves.{sums_of}

abbrev two_pairs : List Pair
two_pairs = record { i = 0; j = 0 } ∷ record { i = 0; j = 2 } ∷ []

-- the lines of two pairs, counted from 0 inside and from 1 in the text
pub two_lines : pair_lines two_pairs ≡ codes "1,1\n1,3\n"
unfolding digits
two_lines = refl

-- eight rows a side in a grid of four that goes to shift 0 and back
abbrev four_joiners : Setting
four_joiners = record {
  k = 2;
  feeders = 1;
  workers = 4;
  batch = 4;
  feed = RFirst;
  fixed = None;
  weights = record { r = 1; s = 1 };
}

abbrev line : ℕ → ℕ → TurnLine
line epoch shift = record {
  cause = Start;
  rows_r = 0;
  rows_s = 0;
  base_r = 0;
  base_s = 0;
  epoch = epoch;
  shift = shift;
  goal = shift;
  moving = false;
}

abbrev held : Held
held = record { rows_r = 4; rows_s = 4 }

abbrev two_steps : Run
two_steps = record {
  pairs = [];
  made = 16 ∷ 16 ∷ 16 ∷ 16 ∷ [];
  loads = held ∷ held ∷ held ∷ held ∷ [];
  moved = 0 ∷ 8 ∷ [];
  journal = line 0 1 ∷ line 1 0 ∷ line 1 0 ∷ line 2 1 ∷ [];
  bouts = 0;
}

-- the report of a run of two steps, from shift 1 to 0 and back, of 8 rows a side
pub report_of_two_steps : report_of four_joiners 8 8 two_steps
    ≡ codes "input 8 8\ngrid 1 4 1 moved 0\ngrid 2 2 2 moved 8\nfinal 2 2 copies 32 best 32\n"
    ++ codes "joiner 0 held 4 4 made 16\njoiner 1 held 4 4 made 16\njoiner 2 held 4 4 made 16\n"
    ++ codes "joiner 3 held 4 4 made 16\n"
unfolding digits
report_of_two_steps = refl

-- three rows a side in a grid of four that stays at shift 0
abbrev fixed_at_0 : ℕ → Setting
fixed_at_0 weight_r =
    record {
      k = 2;
      feeders = 2;
      workers = 4;
      batch = 64;
      feed = Alternate;
      fixed = Some 0;
      weights = record { r = weight_r; s = 1 };
    }

abbrev load : ℕ → Held
load x = record { rows_r = x; rows_s = 3 }

abbrev no_steps : Run
no_steps = record {
  pairs = [];
  made = 0 ∷ 2 ∷ 1 ∷ 0 ∷ [];
  loads = load 0 ∷ load 1 ∷ load 2 ∷ load 0 ∷ [];
  moved = [];
  journal = [];
  bouts = 0;
}

-- the report of a grid that stays as it is
pub report_of_no_steps : report_of (fixed_at_0 1) 3 3 no_steps
    ≡ codes "input 3 3\nfinal 4 1 copies 15 best 12\njoiner 0 held 0 3 made 0\n"
    ++ codes "joiner 1 held 1 3 made 2\njoiner 2 held 2 3 made 1\njoiner 3 held 0 3 made 0\n"
unfolding digits
report_of_no_steps = refl

-- with a row of R that weighs 4, no shift is better
pub report_of_heavy_rows : report_of (fixed_at_0 4) 3 3 no_steps
    ≡ codes "input 3 3\nfinal 4 1 copies 24 best 24\njoiner 0 held 0 3 made 0\n"
    ++ codes "joiner 1 held 1 3 made 2\njoiner 2 held 2 3 made 1\njoiner 3 held 0 3 made 0\n"
unfolding digits
report_of_heavy_rows = refl

-- rows of R that weigh twice those of S, in a grid that goes to shift 0 and stays there
abbrev twice_as_heavy : Setting
twice_as_heavy =
    record {
      k = 2;
      feeders = 1;
      workers = 4;
      batch = 4;
      feed = RFirst;
      fixed = None;
      weights = record { r = 2; s = 1 };
    }

abbrev held_by_each : Held
held_by_each = record { rows_r = 2; rows_s = 8 }

abbrev one_step : Run
one_step = record {
  pairs = [];
  made = 16 ∷ 16 ∷ 16 ∷ 16 ∷ [];
  loads = held_by_each ∷ held_by_each ∷ held_by_each ∷ held_by_each ∷ [];
  moved = 0 ∷ [];
  journal = line 0 1 ∷ line 1 0 ∷ line 1 0 ∷ [];
  bouts = 0;
}

-- the report of a run with one step, where a row of R weighs as much as two of S
pub report_of_one_step : report_of twice_as_heavy 8 8 one_step
    ≡ codes "input 8 8\ngrid 1 4 1 moved 0\nfinal 4 1 copies 48 best 48\njoiner 0 held 2 8 made 16\n"
    ++ codes "joiner 1 held 2 8 made 16\njoiner 2 held 2 8 made 16\njoiner 3 held 2 8 made 16\n"
unfolding digits
report_of_one_step = refl

-- one joiner that splits into four, two rows a side
abbrev one_joiner : Setting
one_joiner = record {
  k = 0;
  feeders = 1;
  workers = 1;
  batch = 64;
  feed = Alternate;
  fixed = None;
  weights = record { r = 1; s = 1 };
}

abbrev alone : Run
alone = record {
  pairs = [];
  made = 1 ∷ [];
  loads = record { rows_r = 2; rows_s = 2 } ∷ [];
  moved = [];
  journal = line 0 0 ∷ line 0 0 ∷ [];
  bouts = 0;
}

abbrev one_each : Held
one_each = record { rows_r = 1; rows_s = 1 }

abbrev split : Run
split = record {
  pairs = [];
  made = 1 ∷ 0 ∷ 0 ∷ 1 ∷ [];
  loads = one_each ∷ one_each ∷ one_each ∷ one_each ∷ [];
  moved = [];
  journal = line 0 1 ∷ line 0 1 ∷ [];
  bouts = 0;
}

-- the report of a run that grew without a step
pub report_of_growth : grown_report_of one_joiner 2 2 alone (record { k = 2; shift = 1 }) 8 split
    ≡ codes "input 2 2\ngrow 2 2 placed 8\nfinal 2 2 copies 8 best 8\njoiner 0 held 1 1 made 1\n"
    ++ codes "joiner 1 held 1 1 made 0\njoiner 2 held 1 1 made 0\njoiner 3 held 1 1 made 1\n"
unfolding digits
report_of_growth = refl

-- two joiners that take a step to two columns, and split into eight, which take one to one row
abbrev two_joiners : Setting
two_joiners = record {
  k = 1;
  feeders = 1;
  workers = 2;
  batch = 4;
  feed = RFirst;
  fixed = None;
  weights = record { r = 1; s = 1 };
}

abbrev widened : Run
widened = record {
  pairs = [];
  made = [];
  loads = [];
  moved = 2 ∷ [];
  journal = line 0 0 ∷ line 1 1 ∷ [];
  bouts = 0;
}

abbrev row_of_eight : Run
row_of_eight = record {
  pairs = [];
  made = 3 ∷ 4 ∷ [];
  loads = record { rows_r = 1; rows_s = 2 } ∷ record { rows_r = 1; rows_s = 1 } ∷ [];
  moved = 8 ∷ [];
  journal = line 1 2 ∷ line 2 3 ∷ line 2 3 ∷ [];
  bouts = 0;
}

-- the steps since the growth are counted on
pub report_of_growth_and_steps : grown_report_of two_joiners 1 9 widened (record { k = 3; shift = 2 }) 22 row_of_eight
    ≡ codes "input 1 9\ngrid 1 1 2 moved 2\ngrow 2 4 placed 22\ngrid 2 1 8 moved 8\n"
    ++ codes "final 1 8 copies 17 best 17\njoiner 0 held 1 2 made 3\njoiner 1 held 1 1 made 4\n"
unfolding digits
report_of_growth_and_steps = refl

-- the pairs that three joiners made in one wave and the next
pub sums_of_waves : sums_of (16 ∷ 0 ∷ 3 ∷ []) (1 ∷ 2 ∷ 0 ∷ []) ≡ 17 ∷ 2 ∷ 3 ∷ []
sums_of_waves = refl
