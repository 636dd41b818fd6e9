-- What a finished family leaves is a rest that stands for the input.
use Rattle.std.proofs.Common.{◌≡◌, ℕ, ◌+◌, ◌<◌, ◌^◌, refl, sym, ◌∙◌, ap, subst, arith, true, false, ◌||◌, List, [], ◌∷◌}
use Rattle.std.specs.Prelude.{map, sum_by}
use Rattle.std.proofs.lemmas.Bool.{true≢false}
use Rattle.row_cells.specs.declared.table.Side.TheVariants.{R, S}
use Rattle.row_cells.specs.Lists.{total}
use Rattle.row_cells.proofs.Bags.{sum_of_map}
use Rattle.row_cells.proofs.Totals.{total_same}
use Rattle.joiner_law.specs.Law.{opened}
use Rattle.load_controller.specs.declared.line.Cause.{Cause}
use Rattle.load_controller.specs.declared.line.Cause.TheVariants.{Start, Wave, Count, Settle, Drain}
use Rattle.load_controller.specs.declared.line.TurnLine.{TurnLine}
use Rattle.load_controller.specs.Journal.{Rules, begun, begun_by, goes_on, Follows, IsAllowed, counted_r, counted_s}
use Rattle.load_controller.specs.Journal.{causes_of, is_drain_of, has_drained}
use Rattle.load_controller.proofs.Again.{fits_again}
use Rattle.load_controller.proofs.Counted.{lines_r, lines_s, rows_r_counted, rows_s_counted, forwards, lines_r_are}
use Rattle.load_controller.proofs.Counted.{lines_s_are, all_r_are, all_s_are}
use Rattle.load_controller.proofs.Shifts.{each_shift}
use Rattle.trace_law.specs.declared.input.Input.{Input}
use Rattle.trace_law.specs.declared.setting.Setting.{Setting}
use Rattle.trace_law.specs.Join.{row_count}
use Rattle.trace_law.specs.Batches.{size_of}
use Rattle.trace_law.specs.Validity.{IsValid}
use Rattle.trace_law.specs.Family.{Rest, IsLineFor, IsRestFor, Family, IsAgreeing, IsFinished, rest_after, rules_of}
use Rattle.trace_law.specs.Family.{batches, joiner_start}
use Rattle.trace_law.proofs.Begun.{fits_begun, no_request}
use Rattle.trace_law.proofs.Shares.{in_all_r, in_all_s}
use Rattle.trace_law.proofs.Journals.{shift_in}
use Rattle.trace_law.proofs.Steps.{epoch_is}
use Rattle.trace_law.proofs.Lawful.{journal_is}
use Rattle.trace_law.proofs.Again.{IsLast, stand_again}
use Rattle.trace_law.proofs.Finished.{opened_is}
use Rattle.trace_law.proofs.Ends.{lawful, last_orders, is_over_now}

-- a line by which a feeder has drained is no run's first
not_start : (rules : Rules) (first line : TurnLine) (past : List TurnLine) (p : ℕ)
    → Follows rules (begun first) (line ∷ past) → has_drained p (line ∷ past) ≡ true → line.cause ≡ Start → ⊥
not_start rules first line [] p is drained start = true≢false (sym drained ∙ ap (λ c. is_drain_of p c || false) start)
not_start rules first line (before ∷ past) p (made, allowed, more) drained start =
    subst (λ c. IsAllowed rules before past c) start allowed

no_start : (cause : Cause) → (cause ≡ Start → ⊥) → begun_by cause ≡ Wave
no_start Start differs = absurd (differs refl)
no_start Wave differs = refl
no_start (Count feeder dr ds) differs = refl
no_start (Settle joiner) differs = refl
no_start (Drain feeder) differs = refl

module _ (input : Input) (setting : Setting) (valid : IsValid input setting) (rest : Rest)
    (stands : IsRestFor input setting rest) (f : Family) (agrees : IsAgreeing input setting rest f)
    (finished : IsFinished input setting rest f agrees) where
  abbrev line : TurnLine
  line = agrees.controller.line

  abbrev past : List TurnLine
  past = agrees.controller.past

  abbrev rules : Rules
  rules = rules_of setting

  -- the last line has counted all rows
  all_r : line.rows_r ≡ row_count input R
  all_r =
      let is : line.rows_r ≡ rest.line.rows_r + total setting.feeders (λ q. lines_r q (line ∷ past)) =
      rows_r_counted rules (begun rest.line) line past agrees.controller.follows in
      let same =
      total_same setting.feeders (λ q. lines_r q (line ∷ past))
      (λ q. sum_by (λ b. (size_of b).0) (batches input setting rest.line q)) each in
      let all = in_all_r input setting valid.some valid.batch rest stands.line.within_r stands.line.within_s in
      omega arith
    where
      each : (q : ℕ) → q < setting.feeders
          → lines_r q (line ∷ past) ≡ sum_by (λ b. (size_of b).0) (batches input setting rest.line q)
      each q low =
          lines_r_are q (line ∷ past)
          ∙ ap (sum_by counted_r)
          (sym
          (forwards rules (begun rest.line) line past q agrees.controller.follows (no_request q rest.line.cause)))
          ∙ ap (λ ls. sum_by counted_r (causes_of q ls)) (sym (journal_is input setting valid rest stands f agrees))
          ∙ ap (sum_by counted_r) ((lawful input setting valid rest stands f agrees finished).counted q low)
          ∙ all_r_are q (map size_of (batches input setting rest.line q))
          ∙ sum_of_map (λ size. size.0) size_of (batches input setting rest.line q)

  all_s : line.rows_s ≡ row_count input S
  all_s =
      let is : line.rows_s ≡ rest.line.rows_s + total setting.feeders (λ q. lines_s q (line ∷ past)) =
      rows_s_counted rules (begun rest.line) line past agrees.controller.follows in
      let same =
      total_same setting.feeders (λ q. lines_s q (line ∷ past))
      (λ q. sum_by (λ b. (size_of b).1) (batches input setting rest.line q)) each in
      let all = in_all_s input setting valid.some valid.batch rest stands.line.within_r stands.line.within_s in
      omega arith
    where
      each : (q : ℕ) → q < setting.feeders
          → lines_s q (line ∷ past) ≡ sum_by (λ b. (size_of b).1) (batches input setting rest.line q)
      each q low =
          lines_s_are q (line ∷ past)
          ∙ ap (sum_by counted_s)
          (sym
          (forwards rules (begun rest.line) line past q agrees.controller.follows (no_request q rest.line.cause)))
          ∙ ap (λ ls. sum_by counted_s (causes_of q ls)) (sym (journal_is input setting valid rest stands f agrees))
          ∙ ap (sum_by counted_s) ((lawful input setting valid rest stands f agrees finished).counted q low)
          ∙ all_s_are q (map size_of (batches input setting rest.line q))
          ∙ sum_of_map (λ size. size.1) size_of (batches input setting rest.line q)

  no_run : line.cause ≡ Start → ⊥
  no_run start =
      not_start rules rest.line line past 0 agrees.controller.follows
      ((is_over_now input setting valid rest stands f agrees finished).1 0 valid.some) start

  -- the next wave's first line is this one, once more
  pub goes_on_next : begun line ≡ goes_on line
  goes_on_next = ap (λ c. record line { cause = c }) (no_start line.cause no_run)

  line_again : IsLineFor input setting line
  line_again = record {
    fits =
        fits_again rules (begun rest.line) line past (fits_begun rules rest.line stands.line.fits)
        agrees.controller.follows (is_over_now input setting valid rest stands f agrees finished).0
        (omega (arith, all_r, (valid.of_input.sides R).few)) (omega (arith, all_s, (valid.of_input.sides S).few));
    begins = λ start. absurd (no_run start);
    within_r = omega (arith, all_r);
    within_s = omega (arith, all_s);
  }

  opens : (j : ℕ) → j < 2 ^ setting.k
      → rest.line.epoch + opened (joiner_start input setting rest j) (agrees.taken_by_joiner j) ≡ line.epoch
  opens j h =
      ap (λ n. rest.line.epoch + n)
      (opened_is input setting valid rest stands f agrees finished j 0 h valid.some
      ∙ sym (last_orders input setting valid rest stands f agrees finished))
      ∙ sym (epoch_is input setting rest f agrees)

  -- the last stores with the last line stand for the input
  pub stands_again : IsRestFor input setting (rest_after input setting rest f agrees)
  stands_again = record {
    line = line_again;
    stored = λ j h.
        let n = opened (joiner_start input setting rest j) (agrees.taken_by_joiner j) in
        let epoch = opens j h in
        let each = each_shift rules (begun rest.line) line past rest.line.shift agrees.controller.follows in
        let last : IsLast input rest (λ e. shift_in input setting rest f agrees e) n line = record {
          all_r = all_r;
          all_s = all_s;
          before_r = omega (arith, all_r, stands.line.within_r);
          before_s = omega (arith, all_s, stands.line.within_s);
          epoch = sym epoch;
          shift = each.0 ∙ ap (λ e. shift_in input setting rest f agrees e) (sym epoch);
        } in
        stand_again input setting valid rest stands f agrees finished n line last j h refl;
  }
