use Rattle.std.proofs.Common.{◌≡◌, ◌≤◌, ◌*◌, ◌^◌, take}
use Rattle.report_picture.specs.Totals.{all_rows_r, all_rows_s, all_made, most_held}
use Rattle.report_picture.proofs.totals.sum_up.Given as goal

abbrev pub invariant-loop-joiner : goal.invariant-loop-joiner
invariant-loop-joiner l =
    let seen = take l.joiner-index l.joiners in
    record {
      rows_r : l.rows_r ≡ all_rows_r seen;
      rows_s : l.rows_s ≡ all_rows_s seen;
      made : l.made ≡ all_made seen;
      most : l.most ≡ most_held seen;
      few_r : l.rows_r ≤ l.joiner-index * 2 ^ 64;
      few_s : l.rows_s ≤ l.joiner-index * 2 ^ 64;
      few_made : l.made ≤ l.joiner-index * 2 ^ 64;
    }
