-- Worked rows.
use Rattle.std.proofs.Common.{◌≡◌, ◌≤◌, ℕ, All, [], ◌∷◌, None, false, refl, arith}
use Rattle.std.proofs.lemmas.List.Elements.{All-nil, All-cons}
use Rattle.load_controller.specs.declared.line.Cause.TheVariants.{Start}
use Rattle.load_controller.specs.declared.line.TurnLine.{TurnLine}
use Rattle.pair_collector.specs.declared.collected.Held.{Held}
use Rattle.row_tickets.specs.declared.place.Feed.TheVariants.{RFirst}
use Rattle.trace_law.specs.declared.run.Run.{Run}
use Rattle.trace_law.specs.declared.setting.Setting.{Setting}
use Rattle.report_lines.specs.declared.report_numbers.Joiner.{Joiner}
use Rattle.report_lines.specs.declared.report_numbers.Report.{Report}
use Rattle.report_lines.specs.declared.report_numbers.Step.{Step}
use Rattle.join_report.specs.Report.{told}
use Rattle.report_law.specs.Readable.{CountFits, IsReportable, LoadFits}

-- eight rows of R and six of S in a grid of four that goes to shift 0
abbrev four_joiners : Setting
four_joiners = record {
  k = 2;
  feeders = 1;
  workers = 4;
  batch = 4;
  feed = RFirst;
  fixed = None;
  weights = record { r = 1; s = 1 };
}

abbrev line : ℕ → ℕ → TurnLine
line epoch shift = record {
  cause = Start;
  rows_r = 0;
  rows_s = 0;
  base_r = 0;
  base_s = 0;
  epoch = epoch;
  shift = shift;
  goal = shift;
  moving = false;
}

abbrev held : Held
held = record { rows_r = 2; rows_s = 6 }

abbrev one_step : Run
one_step = record {
  pairs = [];
  made = 12 ∷ 12 ∷ 12 ∷ 12 ∷ [];
  loads = held ∷ held ∷ held ∷ held ∷ [];
  moved = 3 ∷ [];
  journal = line 0 1 ∷ line 1 0 ∷ [];
  bouts = 0;
}

abbrev joiner : Joiner
joiner = record { rows_r = 2; rows_s = 6; made = 12 }

abbrev step : Step
step = record { n = 4; m = 1; moved = 3 }

abbrev of_one_step : Report
of_one_step = record {
  x = 8;
  y = 6;
  steps = step ∷ [];
  growth = None;
  later = [];
  n = 4;
  m = 1;
  copies = 32;
  best = 28;
  joiners = joiner ∷ joiner ∷ joiner ∷ joiner ∷ [];
}

-- what the report of such a run tells
pub told_of_one_step : told four_joiners 8 6 one_step ≡ of_one_step
told_of_one_step = refl

four_times : {X : Type 0} (P : X → Type 0) (x : X) → P x → All P (x ∷ x ∷ x ∷ x ∷ [])
four_times P x is =
    All-cons P x (x ∷ x ∷ x ∷ []) is
    (All-cons P x (x ∷ x ∷ []) is (All-cons P x (x ∷ []) is (All-cons P x [] is (All-nil P))))

-- it has what a report asks for
pub one_step_reportable : IsReportable four_joiners 8 6 one_step
one_step_reportable = record {
  valid = record {
    joiners = omega arith;
    some_feeders = omega arith;
    few_feeders = omega arith;
    some_workers = omega arith;
    few_workers = omega arith;
    some_rows = omega arith;
    few_rows = omega arith;
    fixed = tt;
    weights = record { some_r = omega arith; few_r = omega arith; some_s = omega arith; few_s = omega arith };
  };
  few_r = omega arith;
  few_s = omega arith;
  steps = record {
    shifts = All-cons (λ (l : TurnLine). l.shift ≤ 2) (line 0 1) (line 1 0 ∷ []) (omega arith)
        (All-cons (λ (l : TurnLine). l.shift ≤ 2) (line 1 0) [] (omega arith)
        (All-nil (λ (l : TurnLine). l.shift ≤ 2)));
    few = omega arith;
    fit = All-cons CountFits 3 [] (omega arith) (All-nil CountFits);
  };
  joiners = record {
    all_loads = refl;
    all_made = refl;
    loads_fit = four_times LoadFits held (omega arith, omega arith);
    made_fit = four_times CountFits 12 (omega arith);
  };
}
