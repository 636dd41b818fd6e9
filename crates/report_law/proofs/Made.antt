-- What the report of a run tells is whole, and its numbers fit 64 bits.
use Rattle.std.proofs.Common.{◌≡◌, ◌≤◌, ◌<◌, ◌-◌, ◌*◌, ◌^◌, ℕ, List, [], Option, None, Some, IfSome}
use Rattle.std.proofs.Common.{refl, sym, ◌∙◌, arith, length, mul-le-mul}
use Rattle.std.specs.Prelude.{unwrap_or, ◌/◌}
use Rattle.std.proofs.Math.Pow.{pow_mono}
use Rattle.std.proofs.lemmas.List.Elements.{All-nil}
use Rattle.grid_map.specs.Load.{AreWeights, best_shift, copies}
use Rattle.grid_map.specs.declared.cost.Weights.{Weights}
use Rattle.grid_map.proofs.Best.{best_within}
use Rattle.load_controller.specs.Journal.{last_epoch}
use Rattle.trace_law.specs.declared.setting.Setting.{Setting}
use Rattle.trace_law.specs.Validity.{IsValidSetting}
use Rattle.report_lines.specs.declared.report_numbers.Step.{Step}
use Rattle.report_lines.specs.Grids.{HasSides}
use Rattle.join_report.specs.Report.{first_shift, joiners_told, last_shift, last_shift_from, steps_told}
use Rattle.join_report.proofs.StepsTold.{steps_length}
use Rattle.report_picture.specs.Reading.{MovedFits}
use Rattle.report_law.specs.Readable.{GrownReportableIsRead, ReportableIsRead}
use Rattle.report_law.proofs.Steps.{all_joiners, columns_side, joiners_fit, joiners_length, moved_told}
use Rattle.report_law.proofs.Steps.{rows_side, shift_within, sides_told}

-- a first shift is within the grid
pub first_within : (setting : Setting) → IsValidSetting setting → first_shift setting ≤ setting.k
first_within setting valid = by setting.fixed valid.fixed
  where
    by : (fixed : Option ℕ) → IfSome fixed (λ shift. shift ≤ setting.k) → unwrap_or fixed (setting.k / 2) ≤ setting.k
    by None within = omega arith
    by (Some shift) within = within

-- copies fit 64 bits
copies_fit : (weights : Weights) (k b x y : ℕ) → AreWeights weights → k ≤ 8 → b ≤ k → x ≤ 2 ^ 32 → y ≤ 2 ^ 32
    → copies k b (weights.r * x) (weights.s * y) < 2 ^ 64
copies_fit weights k b x y are small low few_r few_s =
    let of_r : weights.r * x ≤ 2 ^ 10 * 2 ^ 32 = mul-le-mul are.few_r few_r in
    let of_s : weights.s * y ≤ 2 ^ 10 * 2 ^ 32 = mul-le-mul are.few_s few_s in
    let columns_few : 2 ^ b ≤ 2 ^ 8 = pow_mono {i = b} {j = 8} (omega (arith, small, low)) in
    let rows_few : 2 ^ (k - b) ≤ 2 ^ 8 = pow_mono {i = k - b} {j = 8} (omega (arith, small)) in
    let all_r : weights.r * x * 2 ^ b ≤ 2 ^ 10 * 2 ^ 32 * 2 ^ 8 = mul-le-mul of_r columns_few in
    let all_s : weights.s * y * 2 ^ (k - b) ≤ 2 ^ 10 * 2 ^ 32 * 2 ^ 8 = mul-le-mul of_s rows_few in
    omega (arith, all_r, all_s)

-- the report of a run that has what a report asks for can be read back
pub reportable : ReportableIsRead
reportable setting x y run is =
    let k = setting.k in
    let small : k ≤ 8 = is.valid.joiners in
    let first = first_shift setting in
    let first_low : first ≤ k = first_within setting is.valid in
    let b = last_shift setting run.journal in
    let low : b ≤ k = shift_within k first (last_epoch run.journal) run.journal first_low is.steps.shifts in
    let r = setting.weights.r * x in
    let s = setting.weights.s * y in
    let steps = steps_told k first 0 run.journal run.moved in
    let joiners = joiners_told run.loads run.made in
    let count : length steps ≡ length run.moved = steps_length k first 0 run.journal run.moved in
    let all : length joiners ≡ 2 ^ k =
    joiners_length run.loads run.made (is.joiners.all_loads ∙ sym is.joiners.all_made) ∙ is.joiners.all_loads in
    record {
      lines = refl {A = List ℕ};
      whole = record {
        grids = record {
          steps = sides_told k first 0 run.journal run.moved small first_low is.steps.shifts;
          few = omega (arith, count, is.steps.few);
          growth = tt;
          later = All-nil HasSides;
          few_later = omega arith;
          since = λ none. refl {A = List Step};
          n = rows_side k b small;
          m = columns_side k b small low;
        };
        joiners = all ∙ all_joiners k b low;
      };
      fit = record {
        x = omega (arith, is.few_r);
        y = omega (arith, is.few_s);
        steps = moved_told k first 0 run.journal run.moved is.steps.fit;
        growth = tt;
        later = All-nil MovedFits;
        copies = copies_fit setting.weights k b x y is.valid.weights small low is.few_r is.few_s;
        best = copies_fit setting.weights k (best_shift k b r s) x y is.valid.weights small (best_within k b r s low)
            is.few_r is.few_s;
        joiners = joiners_fit run.loads run.made is.joiners.loads_fit is.joiners.made_fit;
      };
    }

-- so can that of a run whose joiners have split
pub grown_reportable : GrownReportableIsRead
grown_reportable setting x y before shape placed after is =
    let first = first_shift setting in
    let first_low : first ≤ setting.k = first_within setting is.valid in
    let k = shape.k in
    let b = last_shift_from shape.shift after.journal in
    let low : b ≤ k =
    shift_within k shape.shift (last_epoch after.journal) after.journal is.shift is.later.shifts in
    let r = setting.weights.r * x in
    let s = setting.weights.s * y in
    let earlier = length before.moved in
    let steps = steps_told setting.k first 0 before.journal before.moved in
    let later = steps_told k shape.shift earlier after.journal after.moved in
    let joiners = joiners_told after.loads after.made in
    let count : length steps ≡ earlier = steps_length setting.k first 0 before.journal before.moved in
    let count_later : length later ≡ length after.moved =
    steps_length k shape.shift earlier after.journal after.moved in
    let all : length joiners ≡ 2 ^ k =
    joiners_length after.loads after.made (is.joiners.all_loads ∙ sym is.joiners.all_made) ∙ is.joiners.all_loads in
    record {
      lines = refl {A = List ℕ};
      whole = record {
        grids = record {
          steps = sides_told setting.k first 0 before.journal before.moved is.valid.joiners first_low
              is.earlier.shifts;
          few = omega (arith, count, is.earlier.few);
          growth = (rows_side k shape.shift is.small, columns_side k shape.shift is.small is.shift);
          later = sides_told k shape.shift earlier after.journal after.moved is.small is.shift is.later.shifts;
          few_later = omega (arith, count_later, is.later.few);
          since = λ none. absurd {A = later ≡ []} (cc);
          n = rows_side k b is.small;
          m = columns_side k b is.small low;
        };
        joiners = all ∙ all_joiners k b low;
      };
      fit = record {
        x = omega (arith, is.few_r);
        y = omega (arith, is.few_s);
        steps = moved_told setting.k first 0 before.journal before.moved is.earlier.fit;
        growth = is.few_placed;
        later = moved_told k shape.shift earlier after.journal after.moved is.later.fit;
        copies = copies_fit setting.weights k b x y is.valid.weights is.small low is.few_r is.few_s;
        best = copies_fit setting.weights k (best_shift k b r s) x y is.valid.weights is.small
            (best_within k b r s low) is.few_r is.few_s;
        joiners = joiners_fit after.loads after.made is.joiners.loads_fit is.joiners.made_fit;
      };
    }
