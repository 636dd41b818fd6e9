-- What the journal of one wave has counted.
use Rattle.std.proofs.Common.{◌≡◌, ◌∙◌, ◌+◌, ◌*◌, ◌<◌, ◌≤◌, ℕ, arith, refl, sym, ap, subst, List, []}
use Rattle.std.proofs.Common.{◌∷◌}
use Rattle.std.specs.Prelude.{map, reverse, sum_by}
use Rattle.std.proofs.lemmas.List.{length-take-le, reverse-append, reverse-reverse}
use Rattle.row_cells.specs.declared.table.Side.TheVariants.{R, S}
use Rattle.row_cells.specs.Lists.{total}
use Rattle.row_cells.proofs.Bags.{sum_of_map}
use Rattle.row_cells.proofs.Totals.{total_same}
use Rattle.load_controller.specs.declared.line.TurnLine.{TurnLine}
use Rattle.load_controller.specs.Journal.{Follows, begun, causes_of, counted_r, counted_s, last_epoch, last_line}
use Rattle.load_controller.proofs.Bound.{last_line_is}
use Rattle.load_controller.proofs.Counted.{all_r_are, all_s_are, forwards, lines_r, lines_r_are, lines_s, lines_s_are}
use Rattle.load_controller.proofs.Counted.{rows_r_counted, rows_s_counted}
use Rattle.trace_law.specs.declared.input.Input.{Input}
use Rattle.trace_law.specs.declared.setting.Setting.{Setting}
use Rattle.trace_law.specs.Batches.{size_of}
use Rattle.trace_law.specs.Family.{IsLineFor, Rest, batches, migrations, rules_of}
use Rattle.trace_law.specs.Join.{row_count}
use Rattle.trace_law.specs.Validity.{IsValid, IsValidInput, IsValidSetting}
use Rattle.trace_law.proofs.Begun.{no_request}
use Rattle.trace_law.proofs.Bounds.{bounded}
use Rattle.trace_law.proofs.Shares.{in_all_r, in_all_s}
use Rattle.trace_law.proofs.Validity.{within_limits}
use Rattle.actor_core.specs.declared.rests.Upto.{Upto}
use Rattle.actor_core.specs.Rests.{IsWithin, upto}
use Rattle.actor_core.proofs.UptoEnd.{valid_upto}
use Rattle.join_cli.specs.Journals.{IsLawfulFrom}
use Rattle.join_cli.proofs.WaveJournals.{lawful_begins}

-- the line has counted all rows of the input
abbrev pub CountsAll : Input → TurnLine → Type 0
CountsAll input line = (line.rows_r ≡ row_count input R) × (line.rows_s ≡ row_count input S)

module _ (input : Input) (setting : Setting) (line : TurnLine) where
  -- the last line of a lawful journal has counted all rows, by its lines backwards
  by_past : (journal backwards : List TurnLine)
      → reverse journal ≡ backwards → 0 < setting.feeders → 0 < setting.batch
      → line.rows_r ≤ row_count input R → line.rows_s ≤ row_count input S
      → IsLawfulFrom input setting line journal → CountsAll input (last_line line journal)
  by_past journal [] is some batch within_r within_s lawful =
      absurd (subst (λ ls. Follows (rules_of setting) (begun line) ls) is lawful.so_far.follows)
  by_past journal (last ∷ past) is some batch within_r within_s lawful =
      rw last_is (omega (arith, of_r, same_r, all_r), omega (arith, of_s, same_s, all_s))
    where
      rest : Rest
      rest = record { line = line; stores = λ j. [] }

      follows : Follows (rules_of setting) (begun line) (last ∷ past)
      follows = subst (λ ls. Follows (rules_of setting) (begun line) ls) is lawful.so_far.follows

      journal_is : journal ≡ reverse (last ∷ past)
      journal_is = sym (reverse-reverse journal) ∙ ap reverse is

      last_is : last_line line journal ≡ last
      last_is =
          ap (last_line line) (journal_is ∙ reverse-append (last ∷ []) past) ∙ last_line_is line (reverse past) last

      each_r : (q : ℕ) → q < setting.feeders
          → lines_r q (last ∷ past) ≡ sum_by (λ b. (size_of b).0) (batches input setting line q)
      each_r q low =
          lines_r_are q (last ∷ past)
          ∙ ap (sum_by counted_r)
          (sym (forwards (rules_of setting) (begun line) last past q follows (no_request q line.cause)))
          ∙ ap (λ ls. sum_by counted_r (causes_of q ls)) (sym journal_is)
          ∙ ap (sum_by counted_r) (lawful.counted q low)
          ∙ all_r_are q (map size_of (batches input setting line q))
          ∙ sum_of_map (λ size. size.0) size_of (batches input setting line q)

      each_s : (q : ℕ) → q < setting.feeders
          → lines_s q (last ∷ past) ≡ sum_by (λ b. (size_of b).1) (batches input setting line q)
      each_s q low =
          lines_s_are q (last ∷ past)
          ∙ ap (sum_by counted_s)
          (sym (forwards (rules_of setting) (begun line) last past q follows (no_request q line.cause)))
          ∙ ap (λ ls. sum_by counted_s (causes_of q ls)) (sym journal_is)
          ∙ ap (sum_by counted_s) (lawful.counted q low)
          ∙ all_s_are q (map size_of (batches input setting line q))
          ∙ sum_of_map (λ size. size.1) size_of (batches input setting line q)

      of_r : last.rows_r ≡ line.rows_r + total setting.feeders (λ q. lines_r q (last ∷ past))
      of_r = rows_r_counted (rules_of setting) (begun line) last past follows

      of_s : last.rows_s ≡ line.rows_s + total setting.feeders (λ q. lines_s q (last ∷ past))
      of_s = rows_s_counted (rules_of setting) (begun line) last past follows

      same_r : total setting.feeders (λ q. lines_r q (last ∷ past))
          ≡ total setting.feeders (λ q. sum_by (λ b. (size_of b).0) (batches input setting line q))
      same_r = total_same setting.feeders (λ q. lines_r q (last ∷ past))
          (λ q. sum_by (λ b. (size_of b).0) (batches input setting line q)) each_r

      same_s : total setting.feeders (λ q. lines_s q (last ∷ past))
          ≡ total setting.feeders (λ q. sum_by (λ b. (size_of b).1) (batches input setting line q))
      same_s = total_same setting.feeders (λ q. lines_s q (last ∷ past))
          (λ q. sum_by (λ b. (size_of b).1) (batches input setting line q)) each_s

      all_r : total setting.feeders (λ q. sum_by (λ b. (size_of b).0) (batches input setting line q)) + line.rows_r
          ≡ row_count input R
      all_r = in_all_r input setting some batch rest within_r within_s

      all_s : total setting.feeders (λ q. sum_by (λ b. (size_of b).1) (batches input setting line q)) + line.rows_s
          ≡ row_count input S
      all_s = in_all_s input setting some batch rest within_r within_s

-- the last line of a lawful journal has counted all rows
pub counts_all : (input : Input) (setting : Setting) (line : TurnLine) (journal : List TurnLine) → IsValid input setting
    → IsLineFor input setting line → IsLawfulFrom input setting line journal
    → CountsAll input (last_line line journal)
counts_all input setting line journal valid for lawful =
    by_past input setting line journal (reverse journal) refl valid.some valid.batch for.within_r for.within_s lawful

last_epoch_is : (line : TurnLine) (journal : List TurnLine)
    → last_epoch (line ∷ journal) ≡ (last_line line journal).epoch
last_epoch_is line [] = refl
last_epoch_is line (next ∷ journal) = last_epoch_is next journal

-- a wave has few migrations
pub few_migrations : (input : Input) (setting : Setting) (line : TurnLine) (journal : List TurnLine)
    → IsValid input setting → IsLineFor input setting line → IsLawfulFrom input setting line journal
    → migrations line journal ≤ 304
few_migrations input setting line journal valid for lawful =
    let few_r = (valid.of_input.sides R).few in
    let few_s = (valid.of_input.sides S).few in
    let small = valid.small in
    let few : migrations line journal ≤ setting.k * (19 + 19) =
    (bounded input setting line journal valid for lawful.so_far 19 19 (omega (arith, few_r)) (omega (arith, few_s))).0
    in
    omega (arith, few, small)

-- so its last line is few epochs later
pub few_epochs : (input : Input) (setting : Setting) (line : TurnLine) (journal : List TurnLine)
    → IsValid input setting → IsLineFor input setting line → IsLawfulFrom input setting line journal
    → (last_line line journal).epoch ≤ line.epoch + 304
few_epochs input setting line journal valid for lawful =
    let few = few_migrations input setting line journal valid for lawful in
    let begins = lawful_begins (rules_of setting) line (λ p. map size_of (batches input setting line p)) journal
    lawful in
    let same : last_epoch journal ≡ (last_line line journal).epoch =
    ap last_epoch begins.is ∙ last_epoch_is (begun line) begins.more
    ∙ sym (ap (λ ls. (last_line line ls).epoch) begins.is)
    in
    omega (arith, few, same)

-- ---- an input up to a wave's end

-- it is valid
pub valid_wave : (end : Upto) (input : Input) (setting : Setting) → IsValidInput input → IsValidSetting setting
    → IsWithin end input → IsValid (upto end input) setting
valid_wave end input setting of_input of_setting within =
    within_limits (upto end input) setting (valid_upto end input within of_input) of_setting

-- and has so many rows
pub rows_upto : (end : Upto) (input : Input) → IsWithin end input
    → (row_count (upto end input) R ≡ end.rows_r) × (row_count (upto end input) S ≡ end.rows_s)
rows_upto end input within = (
  length-take-le end.rows_r input.table_r.rows within.rows_r,
  length-take-le end.rows_s input.table_s.rows within.rows_s,
)
