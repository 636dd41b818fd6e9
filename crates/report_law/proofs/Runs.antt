-- A run of a valid input and setting has what a report asks for.
use Rattle.std.proofs.Common.{◌≡◌, ◌≤◌, ◌+◌, ◌-◌, ◌*◌, ◌^◌, ℕ, suc, List, [], ◌∷◌, Bool, All}
use Rattle.std.proofs.Common.{Option, None, Some, refl, sym, ◌∙◌, ap, subst, arith, cond, length, mul-le-mul, flat_map}
use Rattle.std.specs.Prelude.{count_by, filter_map, map, nat_lt, reverse, sum_by}
use Rattle.std.specs.List.{AllByRecursion, cons_option, enumerate_from, range_with_len}
use Rattle.std.proofs.Math.Pow.{pow_mono}
use Rattle.std.proofs.lemmas.List.{reverse-reverse}
use Rattle.std.proofs.lemmas.List.Concat.{length-flat_map}
use Rattle.std.proofs.lemmas.List.Elements.{All-nil, All-cons, All-from_recursion}
use Rattle.std.proofs.lemmas.List.FromFn.{length-enumerate_from, length-map-range_with_len, length-range_with_len}
use Rattle.std.proofs.lemmas.List.Sums.{count_by-le-length, length-filter, sum_by-le}
use Rattle.row_cells.proofs.Everywhere.{all-reverse}
use Rattle.row_cells.specs.declared.table.Side.{Side}
use Rattle.row_cells.specs.declared.table.Side.TheVariants.{R, S}
use Rattle.epoch_tags.specs.declared.tuple.Pair.{Pair}
use Rattle.load_controller.specs.declared.line.TurnLine.{TurnLine}
use Rattle.load_controller.specs.Journal.{Fits, Follows, begun, last_epoch}
use Rattle.load_controller.proofs.Bound.{shifts_within}
use Rattle.migration_plan.specs.Steps.{exchanged_side, holds_ticket}
use Rattle.trace_law.specs.declared.input.Input.{Input}
use Rattle.trace_law.specs.declared.run.Run.{Run}
use Rattle.trace_law.specs.declared.setting.Setting.{Setting}
use Rattle.trace_law.specs.Family.{first_rest, migrations, rules_of, shift_by, stamp_by}
use Rattle.trace_law.specs.Join.{has_new, held, holders, made, matches_of, meets_in, moved, nested_loop, row_count}
use Rattle.trace_law.specs.Join.{rows_of, tickets_of, wave_pairs}
use Rattle.trace_law.specs.Runs.{IsRunOf, load_over, made_over, moved_over}
use Rattle.trace_law.specs.Validity.{IsValidInput, IsValidSetting}
use Rattle.trace_law.proofs.Begun.{fits_begun}
use Rattle.trace_law.proofs.Bounds.{bounded}
use Rattle.trace_law.proofs.First.{stands as first_stands}
use Rattle.trace_law.proofs.Validity.{within_limits}
use Rattle.join_report.specs.Report.{AreWithin}
use Rattle.report_law.specs.Readable.{CountFits, IsReportable, LoadFits, ReportsAreRead}
use Rattle.report_law.proofs.Made.{first_within, reportable}
use Rattle.report_law.proofs.Steps.{shift_within}

-- what holds of each value of a function holds of all that it makes
all_mapped : {X Y : Type 0} (P : Y → Type 0) (f : X → Y) (xs : List X) → ((x : X) → P (f x)) → All P (map f xs)
all_mapped P f [] each = All-nil P
all_mapped P f (x ∷ xs) each = All-cons P (f x) (map f xs) (each x) (all_mapped P f xs each)

-- what holds of everything holds of all elements
all_of : {X : Type 0} (P : X → Type 0) (xs : List X) → ((x : X) → P x) → All P xs
all_of P [] each = All-nil P
all_of P (x ∷ xs) each = All-cons P x xs (each x) (all_of P xs each)

-- no more is found than was looked at
fewer_found : {X Y : Type 0} (f : X → Option Y) (xs : List X) → length (filter_map f xs) ≤ length xs
fewer_found f [] = omega arith
fewer_found {X} {Y} f (x ∷ xs) = by (f x) (fewer_found f xs)
  where
    by : (found : Option Y) → length (filter_map f xs) ≤ length xs
        → length (cons_option found (filter_map f xs)) ≤ suc (length xs)
    by None more = omega (arith, more)
    by (Some y) more = omega (arith, more)

-- nor more in all than in as many searches
fewer_in_all : {X Y : Type 0} (f : X → List Y) (n : ℕ) (xs : List X) → ((x : X) → length (f x) ≤ n)
    → length (flat_map f xs) ≤ length xs * n
fewer_in_all f n xs few =
    let size : length (flat_map f xs) ≡ sum_by (λ x. length (f x)) xs = length-flat_map f xs in
    let sum : sum_by (λ x. length (f x)) xs ≤ length xs * n =
    sum_by-le (λ x. length (f x)) n xs (all_of (λ x. length (f x) ≤ n) xs few) in
    omega (arith, size, sum)

-- two rows by their places
abbrev pair_of : ℕ → ℕ → Pair
pair_of i j = record { i = i; j = j }

-- a nested loop finds no more pairs than there are
looked : {X Y : Type 0} (matches : X → Y → Bool) (rows_r : List (ℕ × X)) (rows_s : List (ℕ × Y))
    → length (flat_map (λ a. filter_map (λ b. cond (matches a.1 b.1) (Some (pair_of a.0 b.0)) None) rows_s) rows_r)
    ≤ length rows_r * length rows_s
looked {X} {Y} matches rows_r rows_s =
    let test : ℕ × X → ℕ × Y → Option Pair = λ a b. cond (matches a.1 b.1) (Some (pair_of a.0 b.0)) None in
    fewer_in_all (λ a. filter_map (test a) rows_s) (length rows_s) rows_r (λ a. fewer_found (test a) rows_s)

-- a side has few rows
rows_few : (input : Input) → IsValidInput input → (side : Side) → row_count input side ≤ 2 ^ 18
rows_few input of_input side = (of_input.sides side).few

-- no shift of a lawful journal is past the grid
past_within : (setting : Setting) (first : TurnLine) (journal past : List TurnLine) → Fits (rules_of setting) first
    → reverse journal ≡ past → Follows (rules_of setting) first past → AreWithin setting.k journal
past_within setting first journal [] fits is follows = absurd follows
past_within setting first journal (line ∷ past) fits is follows =
    let P : TurnLine → Type 0 = λ l. l.shift ≤ setting.k in
    let each : AllByRecursion P (line ∷ past) = shifts_within (rules_of setting) first line past fits follows in
    All-from_recursion P journal (subst (AllByRecursion P) (ap reverse (sym is) ∙ reverse-reverse journal)
    (all-reverse P (line ∷ past) each))

-- few hold a row
holders_few : (k b : ℕ) (side : Side) → k ≤ 8 → b ≤ k → holders k b side ≤ 2 ^ 8
holders_few k b R small low = pow_mono {i = b} {j = 8} (omega (arith, small, low))
holders_few k b S small low = pow_mono {i = k - b} {j = 8} (omega (arith, small))

-- what moves in a step fits 64 bits
moved_fits : (input : Input) (k : ℕ) (stamp : Side → ℕ → ℕ) (shift : ℕ → ℕ) (e : ℕ) → IsValidInput input → k ≤ 8
    → shift (e - 1) ≤ k → CountFits (moved input k stamp shift e)
moved_fits input k stamp shift e of_input small low =
    let side = exchanged_side (shift (e - 1)) (shift e) in
    let test = λ (i : ℕ). nat_lt (stamp side i) e in
    let places = range_with_len 0 (row_count input side) in
    let counted : count_by test places ≤ length places = count_by-le-length test places in
    let size : length places ≡ row_count input side = length-range_with_len 0 (row_count input side) in
    let few : count_by test places ≤ 2 ^ 18 = omega (arith, counted, size, rows_few input of_input side) in
    let product : count_by test places * holders k (shift (e - 1)) side ≤ 2 ^ 18 * 2 ^ 8 =
    mul-le-mul few (holders_few k (shift (e - 1)) side small low) in
    omega (arith, product)

-- so does what a joiner holds of a side
held_fits : (input : Input) (k b : ℕ) (side : Side) (j : ℕ) → IsValidInput input → CountFits (held input k b side j)
held_fits input k b side j of_input =
    let counted : held input k b side j ≤ length (tickets_of input side) =
    count_by-le-length (holds_ticket k b j side) (tickets_of input side) in
    omega (arith, counted, (of_input.sides side).each, rows_few input of_input side)

-- no more pairs than a row of R has with each of S
pairs_few : (input : Input) → IsValidInput input → length (nested_loop input) ≤ 2 ^ 18 * 2 ^ 18
pairs_few input of_input =
    let rows_r = enumerate_from 0 (rows_of input R) in
    let rows_s = enumerate_from 0 (rows_of input S) in
    let size_r : length rows_r ≡ row_count input R = length-enumerate_from 0 (rows_of input R) in
    let size_s : length rows_s ≡ row_count input S = length-enumerate_from 0 (rows_of input S) in
    let few_r : length rows_r ≤ 2 ^ 18 = omega (arith, size_r, rows_few input of_input R) in
    let few_s : length rows_s ≤ 2 ^ 18 = omega (arith, size_s, rows_few input of_input S) in
    let product : length rows_r * length rows_s ≤ 2 ^ 18 * 2 ^ 18 = mul-le-mul few_r few_s in
    let all : length (nested_loop input) ≤ length rows_r * length rows_s =
    looked (matches_of input) rows_r rows_s in
    omega (arith, all, product)

-- so what a joiner makes fits 64 bits
made_fits : (input : Input) (line : TurnLine) (k : ℕ) (stamp : Side → ℕ → ℕ) (shift : ℕ → ℕ) (j : ℕ)
    → IsValidInput input → CountFits (made input line k stamp shift j)
made_fits input line k stamp shift j of_input =
    let pairs = wave_pairs input line in
    let counted : made input line k stamp shift j ≤ length pairs =
    count_by-le-length (meets_in input k stamp shift j) pairs in
    let kept : length pairs ≡ count_by (has_new line) (nested_loop input) =
    length-filter (has_new line) (nested_loop input) in
    let fewer : count_by (has_new line) (nested_loop input) ≤ length (nested_loop input) =
    count_by-le-length (has_new line) (nested_loop input) in
    omega (arith, counted, kept, fewer, pairs_few input of_input)

-- a run of a valid input and setting has what a report asks for
pub run_reportable : (input : Input) (setting : Setting) (run : Run) → IsValidInput input → IsValidSetting setting
    → IsRunOf input setting (first_rest setting).line run.journal run
    → IsReportable setting (row_count input R) (row_count input S) run
run_reportable input setting run of_input valid is =
    let k = setting.k in
    let journal = run.journal in
    let line = (first_rest setting).line in
    let limits = within_limits input setting of_input valid in
    let stands = first_stands input setting limits in
    let small : k ≤ 8 = valid.joiners in
    let within : AreWithin k journal =
    past_within setting (begun line) journal (reverse journal) (fits_begun (rules_of setting) line stands.line.fits)
    refl is.lawful.so_far.follows in
    let changes : migrations line journal ≤ k * (19 + 19) =
    (bounded input setting line journal limits stands.line is.lawful.so_far 19 19
    (omega (arith, rows_few input of_input R)) (omega (arith, rows_few input of_input S))).0 in
    let steps = migrations line journal in
    let count : length run.moved ≡ steps =
    ap length is.moved ∙ length-map-range_with_len (moved_over input setting line journal) 0 steps in
    let stamp = stamp_by input setting line journal in
    let shift = shift_by line journal in
    record {
      valid = valid;
      few_r = omega (arith, rows_few input of_input R);
      few_s = omega (arith, rows_few input of_input S);
      steps = record {
        shifts = within;
        few = omega (arith, count, changes, small);
        fit = subst (All CountFits) (sym is.moved)
            (all_mapped CountFits (moved_over input setting line journal) (range_with_len 0 steps)
            (λ n. moved_fits input k stamp shift (line.epoch + n + 1) of_input small
            (shift_within k line.shift (line.epoch + n + 1 - 1) journal (first_within setting valid) within)));
      };
      joiners = record {
        all_loads = ap length is.loads ∙ length-map-range_with_len (load_over input setting line journal) 0 (2 ^ k);
        all_made = ap length is.made ∙ length-map-range_with_len (made_over input setting line journal) 0 (2 ^ k);
        loads_fit = subst (All LoadFits) (sym is.loads)
            (all_mapped LoadFits (load_over input setting line journal) (range_with_len 0 (2 ^ k))
            (λ j. (
              held_fits input k (shift (last_epoch journal)) R j of_input,
              held_fits input k (shift (last_epoch journal)) S j of_input,
            )));
        made_fit = subst (All CountFits) (sym is.made)
            (all_mapped CountFits (made_over input setting line journal) (range_with_len 0 (2 ^ k))
            (λ j. made_fits input line k stamp shift j of_input));
      };
    }

-- so its report can be read back
pub reports_read : ReportsAreRead
reports_read input setting run of_input valid is =
    reportable setting (row_count input R) (row_count input S) run
    (run_reportable input setting run of_input valid is)
