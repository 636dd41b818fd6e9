-- A lawful journal has few migrations and few decisions.
use Rattle.std.proofs.Common.{◌≡◌, ℕ, ◌+◌, ◌-◌, ◌*◌, ◌^◌, ◌<◌, ◌≤◌, refl, sym, ◌∙◌, ap, subst, arith, List, [], ◌∷◌}
use Rattle.std.proofs.Common.{◌++◌}
use Rattle.std.specs.Prelude.{map, sum_by, reverse}
use Rattle.std.proofs.lemmas.List.{reverse-append, reverse-reverse}
use Rattle.row_cells.specs.declared.table.Side.TheVariants.{R, S}
use Rattle.row_cells.specs.Lists.{IsPrefix, total}
use Rattle.row_cells.proofs.Bags.{sum_of_map, IsWithinBag-prefix}
use Rattle.row_cells.proofs.Totals.{total_le}
use Rattle.load_controller.specs.declared.line.TurnLine.{TurnLine}
use Rattle.load_controller.specs.Journal.{begun, Follows, counted_r, counted_s, causes_of, all_causes, IsLawfulSoFar}
use Rattle.load_controller.specs.Journal.{last_epoch, due_lines}
use Rattle.load_controller.proofs.Counted.{lines_r, lines_s, rows_r_counted, rows_s_counted, forwards, lines_r_are}
use Rattle.load_controller.proofs.Counted.{lines_s_are, all_r_are, all_s_are}
use Rattle.load_controller.proofs.Bound.{migrations, decisions}
use Rattle.trace_law.specs.declared.input.Input.{Input}
use Rattle.trace_law.specs.Join.{row_count}
use Rattle.trace_law.specs.Batches.{size_of}
use Rattle.trace_law.specs.declared.setting.Setting.{Setting}
use Rattle.trace_law.specs.Validity.{IsValid}
use Rattle.trace_law.specs.Family.{Rest, IsLineFor, rules_of, batches}
use Rattle.trace_law.proofs.Begun.{fits_begun, no_request}
use Rattle.trace_law.proofs.Shares.{in_all_r, in_all_s}
use Rattle.load_controller.proofs.Shifts.{last_is}

-- in a journal that is lawful so far no more rows are counted than the input has
module _ (input : Input) (setting : Setting) (some : 0 < setting.feeders) (batch : 0 < setting.batch) (rest : Rest)
    (within_r : rest.line.rows_r ≤ row_count input R) (within_s : rest.line.rows_s ≤ row_count input S)
    (line : TurnLine) (past : List TurnLine)
    (follows : Follows (rules_of setting) (begun rest.line) (line ∷ past))
    (counts : (p : ℕ) → p < setting.feeders
    → IsPrefix (causes_of p (reverse (line ∷ past)))
    (all_causes p (map size_of (batches input setting rest.line p)))) where
  -- of R
  pub few_r : line.rows_r ≤ row_count input R
  few_r =
      let is : line.rows_r ≡ rest.line.rows_r + total setting.feeders (λ q. lines_r q (line ∷ past)) =
      rows_r_counted (rules_of setting) (begun rest.line) line past follows in
      let less =
      total_le setting.feeders (λ q. lines_r q (line ∷ past))
      (λ q. sum_by (λ b. (size_of b).0) (batches input setting rest.line q)) each in
      let all = in_all_r input setting some batch rest within_r within_s in
      omega arith
    where
      each : (q : ℕ) → q < setting.feeders
          → lines_r q (line ∷ past) ≤ sum_by (λ b. (size_of b).0) (batches input setting rest.line q)
      each q low =
          let a = lines_r_are q (line ∷ past) in
          let b =
          ap (sum_by counted_r)
          (forwards (rules_of setting) (begun rest.line) line past q follows (no_request q rest.line.cause)) in
          let c = (IsWithinBag-prefix (counts q low)).sums counted_r in
          let d = all_r_are q (map size_of (batches input setting rest.line q)) in
          let e = sum_of_map (λ size. size.0) size_of (batches input setting rest.line q) in
          omega arith

  -- and of S
  pub few_s : line.rows_s ≤ row_count input S
  few_s =
      let is : line.rows_s ≡ rest.line.rows_s + total setting.feeders (λ q. lines_s q (line ∷ past)) =
      rows_s_counted (rules_of setting) (begun rest.line) line past follows in
      let less =
      total_le setting.feeders (λ q. lines_s q (line ∷ past))
      (λ q. sum_by (λ b. (size_of b).1) (batches input setting rest.line q)) each in
      let all = in_all_s input setting some batch rest within_r within_s in
      omega arith
    where
      each : (q : ℕ) → q < setting.feeders
          → lines_s q (line ∷ past) ≤ sum_by (λ b. (size_of b).1) (batches input setting rest.line q)
      each q low =
          let a = lines_s_are q (line ∷ past) in
          let b =
          ap (sum_by counted_s)
          (forwards (rules_of setting) (begun rest.line) line past q follows (no_request q rest.line.cause)) in
          let c = (IsWithinBag-prefix (counts q low)).sums counted_s in
          let d = all_s_are q (map size_of (batches input setting rest.line q)) in
          let e = sum_of_map (λ size. size.1) size_of (batches input setting rest.line q) in
          omega arith

module _ (input : Input) (setting : Setting) (valid : IsValid input setting) (rest : Rest)
    (for : IsLineFor input setting rest.line) (line : TurnLine) (past : List TurnLine)
    (follows : Follows (rules_of setting) (begun rest.line) (line ∷ past))
    (counts : (p : ℕ) → p < setting.feeders
    → IsPrefix (causes_of p (reverse (line ∷ past)))
    (all_causes p (map size_of (batches input setting rest.line p)))) where
  counted_r_within : line.rows_r ≤ row_count input R
  counted_r_within = few_r input setting valid.some valid.batch rest for.within_r for.within_s line past follows counts

  counted_s_within : line.rows_s ≤ row_count input S
  counted_s_within = few_s input setting valid.some valid.batch rest for.within_r for.within_s line past follows counts

  few_steps : (a c : ℕ) → row_count input R < 2 ^ a → row_count input S < 2 ^ c
      → line.epoch ≤ rest.line.epoch + setting.k * (a + c)
  few_steps a c small_r small_s =
      migrations (rules_of setting) (begun rest.line) line past (fits_begun (rules_of setting) rest.line for.fits)
      follows a c (omega (arith, counted_r_within)) (omega (arith, counted_s_within))

  few_decisions : (a c : ℕ) → row_count input R < 2 ^ a → row_count input S < 2 ^ c
      → due_lines (rules_of setting) (line ∷ past) ≤ a + c
  few_decisions a c small_r small_s =
      decisions (rules_of setting) (begun rest.line) line past (fits_begun (rules_of setting) rest.line for.fits)
      follows a c (omega (arith, counted_r_within)) (omega (arith, counted_s_within))

module _ (input : Input) (setting : Setting) (rest : Rest) where
  by_past : (journal backwards : List TurnLine)
      → reverse journal ≡ backwards → IsValid input setting → IsLineFor input setting rest.line
      → IsLawfulSoFar (rules_of setting) (begun rest.line) (λ p. map size_of (batches input setting rest.line p))
      journal
      → (a c : ℕ) → row_count input R < 2 ^ a → row_count input S < 2 ^ c
      → (last_epoch journal - rest.line.epoch ≤ setting.k * (a + c)) × (due_lines (rules_of setting) backwards ≤ a + c)
  by_past journal [] is valid for law a c small_r small_s =
      absurd (subst (λ ls. Follows (rules_of setting) (begun rest.line) ls) is law.follows)
  by_past journal (line ∷ past) is valid for law a c small_r small_s =
      let follows : Follows (rules_of setting) (begun rest.line) (line ∷ past) =
      subst (λ ls. Follows (rules_of setting) (begun rest.line) ls) is law.follows in
      let journal_is : journal ≡ reverse (line ∷ past) = sym (reverse-reverse journal) ∙ ap reverse is in
      let counts : (p : ℕ) → p < setting.feeders
      → IsPrefix (causes_of p (reverse (line ∷ past)))
      (all_causes p (map size_of (batches input setting rest.line p))) =
      λ p low.
      subst (λ ls. IsPrefix (causes_of p ls) (all_causes p (map size_of (batches input setting rest.line p))))
      journal_is (law.counts p low) in
      let turn : reverse (line ∷ past) ≡ reverse past ++ line ∷ [] = reverse-append (line ∷ []) past in
      let last_is : last_epoch journal ≡ line.epoch = ap last_epoch (journal_is ∙ turn) ∙ last_is (reverse past) line in
      let steps = few_steps input setting valid rest for line past follows counts a c small_r small_s in
      (omega arith, few_decisions input setting valid rest for line past follows counts a c small_r small_s)

module _ (input : Input) (setting : Setting) where
  -- so a journal that is lawful so far has few migrations and few decisions
  pub bounded : (first : TurnLine) (journal : List TurnLine) → IsValid input setting
      → IsLineFor input setting first
      → IsLawfulSoFar (rules_of setting) (begun first) (λ p. map size_of (batches input setting first p)) journal
      → (a c : ℕ) → row_count input R < 2 ^ a → row_count input S < 2 ^ c
      → (last_epoch journal - first.epoch ≤ setting.k * (a + c))
      × (due_lines (rules_of setting) (reverse journal) ≤ a + c)
  bounded first journal valid for law a c small_r small_s =
      let rest : Rest = record { line = first; stores = λ j. [] } in
      by_past input setting rest journal (reverse journal) refl valid for law a c small_r small_s
