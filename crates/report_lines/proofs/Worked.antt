-- A worked report.
use Rattle.std.specs.Prelude.{◌≡◌, ◌++◌, [], ◌∷◌, Some, codes, refl}
use Rattle.std.specs.Fmt.{digits}
use Rattle.report_lines.specs.declared.report_numbers.Report.{Report}
use Rattle.report_lines.specs.Lines.{report_lines}

-- two joiners that take a step, split into eight and take another, of which two are told
abbrev grown : Report
grown = record {
  x = 1;
  y = 9;
  steps = record { n = 1; m = 2; moved = 3 } ∷ [];
  growth = Some (record { n = 2; m = 4; placed = 22 });
  later = record { n = 1; m = 8; moved = 7 } ∷ [];
  n = 1;
  m = 8;
  copies = 17;
  best = 16;
  joiners = record { rows_r = 1; rows_s = 2; made = 5 } ∷ record { rows_r = 1; rows_s = 2; made = 6 } ∷ [];
}

-- the steps since the growth are numbered on, and joiners from 0
pub lines_of_grown : report_lines grown
    ≡ codes "input 1 9\ngrid 1 1 2 moved 3\ngrow 2 4 placed 22\ngrid 2 1 8 moved 7\n"
    ++ codes "final 1 8 copies 17 best 16\njoiner 0 held 1 2 made 5\njoiner 1 held 1 2 made 6\n"
unfolding digits
lines_of_grown = refl
