-- What the second run joins is a valid input, and its pairs, looked up among those of the first, are the
-- triples.
use Rattle.std.proofs.Common.{◌≡◌, ℕ, ◌+◌, ◌<◌, ◌≤◌, ◌^◌, sym, ap, subst, ◌∙◌, arith, List, [], ◌++◌, get_or, map}
use Rattle.std.proofs.Common.{length}
use Rattle.std.specs.Prelude.{All}
use Rattle.std.proofs.lemmas.List.{length-append, length-map}
use Rattle.std.proofs.lemmas.List.Elements.{All-map}
use Rattle.std.proofs.lemmas.List.FromFn.{length-map-range_with_len}
use Rattle.row_cells.specs.declared.table.Cell.{Cell}
use Rattle.row_cells.specs.declared.table.Side.TheVariants.{R, S}
use Rattle.row_cells.specs.declared.table.Table.{Table}
use Rattle.row_cells.proofs.Everywhere.{weaken}
use Rattle.epoch_tags.specs.declared.tuple.Pair.{Pair}
use Rattle.theta_pred.specs.Truth.{holds}
use Rattle.row_tickets.specs.Tickets.{ticket_of}
use Rattle.trace_law.specs.declared.input.Input.{Input}
use Rattle.trace_law.specs.declared.run.Run.{Run}
use Rattle.trace_law.specs.declared.setting.Setting.{Setting}
use Rattle.trace_law.specs.Family.{first_rest}
use Rattle.trace_law.specs.Join.{matches_of, nested_loop, rows_of}
use Rattle.trace_law.specs.Runs.{IsRunOf}
use Rattle.trace_law.specs.Validity.{IsFor, IsValidInput}
use Rattle.trace_law.proofs.First.{all_pairs}
use Rattle.trace_law.proofs.Validity.{both_sides}
use Rattle.chain_join.specs.declared.second.Third.{Third}
use Rattle.joined_rows.specs.Joined.{joined_names}
use Rattle.joined_rows.proofs.Widths.{length-joined_names}
use Rattle.chain_join.specs.Chains.{IsWide, joined_row, joined_rows, nested3, second_input, tickets_of}
use Rattle.chain_join.specs.Triples.{triple_at}
use Rattle.chain_join.proofs.Places.{IsWithin, all_of, pairs_within}
use Rattle.chain_join.proofs.Loops.{chained}

-- a run that begins with no rows has the pairs of the nested loop
pub pairs_of_run : (input : Input) (setting : Setting) (run : Run)
    → IsRunOf input setting (first_rest setting).line run.journal run → run.pairs ≡ nested_loop input
pairs_of_run input setting run is = is.pairs ∙ all_pairs input setting

-- the rows of a table that fits have as many cells as it has names
wide_as_names : (table : Table) (tickets : List ℕ) (width : ℕ) → IsFor table tickets width
    → All (λ row. length row ≡ length table.names) table.rows
wide_as_names table tickets width fits =
    subst (λ w. All (λ row. length row ≡ w) table.rows) (sym fits.header) fits.rows

module _ (input : Input) where
  abbrev rows_r : List (List Cell)
  rows_r = rows_of input R

  abbrev rows_s : List (List Cell)
  rows_s = rows_of input S

  -- a joined row has the widths of both sides together
  wide_row : (width_r width_s : ℕ) → All (λ row. length row ≡ width_r) rows_r
      → All (λ row. length row ≡ width_s) rows_s
      → (pair : Pair) → IsWithin (length rows_r) (length rows_s) pair
      → length (joined_row input pair) ≡ width_r + width_s
  wide_row width_r width_s wide_r wide_s pair low =
      let of_r : length (get_or rows_r pair.i []) ≡ width_r = wide_r pair.i [] low.first in
      let of_s : length (get_or rows_s pair.j []) ≡ width_s = wide_s pair.j [] low.second in
      let both = length-append (get_or rows_r pair.i []) (get_or rows_s pair.j []) in
      omega arith

  -- so has each
  wide_rows : (width_r width_s : ℕ) → All (λ row. length row ≡ width_r) rows_r
      → All (λ row. length row ≡ width_s) rows_s → All (λ row. length row ≡ width_r + width_s) (joined_rows input)
  wide_rows width_r width_s wide_r wide_s =
      All-map (λ row. length row ≡ width_r + width_s) (joined_row input) (nested_loop input)
      (all_of (λ pair. length (joined_row input pair) ≡ width_r + width_s) (nested_loop input)
      (weaken (IsWithin (length rows_r) (length rows_s)) _ (wide_row width_r width_s wide_r wide_s) (nested_loop input)
      (pairs_within (matches_of input) [] [] rows_r rows_s)))

  -- the table of the joined rows fits a predicate of their width
  joined_fits : (table : Table) (tickets : List ℕ) (seed width : ℕ) → IsValidInput input
      → length (nested_loop input) ≤ 2 ^ 18 → width ≡ length input.table_r.names + length input.table_s.names
      → table.names ≡ joined_names input.table_r.names input.table_s.names → table.rows ≡ joined_rows input
      → tickets ≡ tickets_of seed R table.rows → IsFor table tickets width
  joined_fits table tickets seed width valid few width_is names_are rows_are drawn = record {
    few = subst (λ n. n ≤ 2 ^ 18) (sym (ap length rows_are ∙ length-map (nested_loop input) (joined_row input))) few;
    each = ap length drawn ∙ length-map-range_with_len (ticket_of seed R) 0 (length table.rows);
    header = ap length names_are ∙ length-joined_names input.table_r.names input.table_s.names ∙ sym width_is;
    rows = subst (All (λ row. length row ≡ width)) (sym rows_are)
        (subst (λ w. All (λ row. length row ≡ w) (joined_rows input)) (sym width_is)
        (wide_rows (length input.table_r.names) (length input.table_s.names)
        (wide_as_names input.table_r input.tickets_r input.theta.width_r (valid.sides R))
        (wide_as_names input.table_s input.tickets_s input.theta.width_s (valid.sides S))));
  }

  -- with the third table it is a valid input
  pub valid_second : (third : Third) (seed : ℕ) (table : Table) (tickets_r tickets_s : List ℕ) → IsValidInput input
      → length (nested_loop input) ≤ 2 ^ 18 → length third.table.rows ≤ 2 ^ 18
      → third.theta.width_r ≡ length input.table_r.names + length input.table_s.names
      → IsWide third.table third.theta.width_s
      → table.names ≡ joined_names input.table_r.names input.table_s.names → table.rows ≡ joined_rows input
      → tickets_r ≡ tickets_of seed R table.rows → tickets_s ≡ tickets_of seed S third.table.rows
      → All (λ ticket. ticket < 2 ^ 8) tickets_r → All (λ ticket. ticket < 2 ^ 8) tickets_s
      → IsValidInput (record {
        table_r = table;
        table_s = third.table;
        theta = third.theta;
        tickets_r = tickets_r;
        tickets_s = tickets_s;
      })
  valid_second third seed table tickets_r tickets_s valid few rows width_r width_s names_are rows_are drawn_r drawn_s
      bytes_r bytes_s =
      both_sides _
      (joined_fits table tickets_r seed third.theta.width_r valid few width_r names_are rows_are drawn_r)
      (record {
        few = rows;
        each = ap length drawn_s ∙ length-map-range_with_len (ticket_of seed S) 0 (length third.table.rows);
        header = width_s.header;
        rows = width_s.rows;
      })
      bytes_r bytes_s

  -- each pair of the second loop has its joined row's place among the pairs of the first
  own_places : (third : Third) (seed : ℕ) (pairs : List Pair) → pairs ≡ nested_loop input
      → All (λ pair. pair.i < length pairs) (nested_loop (second_input input third seed))
  own_places third seed pairs is =
      let second = second_input input third seed in
      let long : length (joined_rows input) ≡ length pairs =
      length-map (nested_loop input) (joined_row input) ∙ ap length (sym is) in
      all_of (λ pair. pair.i < length pairs) (nested_loop second)
      (weaken (IsWithin (length (joined_rows input)) (length third.table.rows)) (λ pair. pair.i < length pairs)
      (λ pair low. subst (λ n. pair.i < n) long low.first) (nested_loop second)
      (pairs_within (matches_of second) [] [] (joined_rows input) third.table.rows))

  -- the same of an input that is the second
  pub places : (third : Third) (seed : ℕ) (pairs : List Pair) (second : Input) → pairs ≡ nested_loop input
      → second ≡ second_input input third seed → All (λ pair. pair.i < length pairs) (nested_loop second)
  places third seed pairs second is second_is =
      subst (λ (other : Input). All (λ pair. pair.i < length pairs) (nested_loop other)) (sym second_is)
      (own_places third seed pairs is)

  -- and looked up there its pairs are the triples
  pub triples_are : (third : Third) (seed : ℕ) (pairs : List Pair) (second : Input) → pairs ≡ nested_loop input
      → second ≡ second_input input third seed → map (triple_at pairs) (nested_loop second) ≡ nested3 input third
  triples_are third seed pairs second is second_is =
      ap (λ (other : Input). map (triple_at pairs) (nested_loop other)) second_is
      ∙ ap (λ ps. map (triple_at ps) (nested_loop (second_input input third seed))) is
      ∙ chained (matches_of input) (λ r s. r ++ s) (holds third.theta) rows_r rows_s third.table.rows [] []
