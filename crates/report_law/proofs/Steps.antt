-- The steps and joiners that a report tells: their grids have sides, and their numbers fit 64 bits.
use Rattle.std.proofs.Common.{◌≡◌, ◌≤◌, ◌+◌, ◌-◌, ◌*◌, ◌^◌, ℕ, suc, List, [], ◌∷◌, Bool, true, false, All}
use Rattle.std.proofs.Common.{refl, ◌∙◌, ap, arith, length}
use Rattle.std.specs.Prelude.{◌==◌, if◌then◌else◌}
use Rattle.std.proofs.Math.Pow.{pow_mono}
use Rattle.std.proofs.lemmas.Nat.{pow_pos, pow-add}
use Rattle.std.proofs.lemmas.List.Elements.{All-nil, All-cons, All-head, All-tail}
use Rattle.grid_map.specs.Grid.{rows, columns}
use Rattle.load_controller.specs.declared.line.TurnLine.{TurnLine}
use Rattle.load_controller.specs.Journal.{shift_at}
use Rattle.pair_collector.specs.declared.collected.Held.{Held}
use Rattle.join_report.specs.Report.{AreWithin, joiner_told, joiners_told, step_at, steps_told}
use Rattle.report_lines.specs.Grids.{HasSides, IsSide}
use Rattle.report_picture.specs.Reading.{HeldFits, MovedFits}
use Rattle.report_law.specs.Readable.{CountFits, LoadFits}

-- a shift of a journal is within the grid
pub shift_within : (k first e : ℕ) (journal : List TurnLine) → first ≤ k → AreWithin k journal
    → shift_at first e journal ≤ k
shift_within k first e [] low each = low
shift_within k first e (line ∷ journal) low each =
    by (line.epoch == e) (All-head (λ l. l.shift ≤ k) line journal each)
    (shift_within k first e journal low (All-tail (λ l. l.shift ≤ k) line journal each))
  where
    by : (same : Bool) → line.shift ≤ k → shift_at first e journal ≤ k
        → (if same then line.shift else shift_at first e journal) ≤ k
    by true here more = here
    by false here more = more

-- a power of 2 up to 256 is a number of rows or columns
pub side_of : (n : ℕ) → n ≤ 8 → IsSide (2 ^ n)
side_of n low = (pow_pos n, pow_mono {i = n} {j = 8} low)

-- such is the number of rows of a grid
pub rows_side : (k b : ℕ) → k ≤ 8 → IsSide (rows k b)
rows_side k b small = side_of (k - b) (omega (arith, small))

-- and that of its columns
pub columns_side : (k b : ℕ) → k ≤ 8 → b ≤ k → IsSide (columns b)
columns_side k b small low = side_of b (omega (arith, small, low))

-- the grid has all its joiners
pub all_joiners : (k b : ℕ) → b ≤ k → 2 ^ k ≡ rows k b * columns b
all_joiners k b low =
    let parts : k ≡ (k - b) + b = omega (arith, low) in
    ap (λ n. 2 ^ n) parts ∙ pow-add 2 (k - b) b

-- the grids of steps have numbers of rows and columns
pub sides_told : (k first before : ℕ) (journal : List TurnLine) (moved : List ℕ) → k ≤ 8 → first ≤ k
    → AreWithin k journal → All HasSides (steps_told k first before journal moved)
sides_told k first before journal [] small low each = All-nil HasSides
sides_told k first before journal (count ∷ moved) small low each =
    let b = shift_at first (before + 1) journal in
    All-cons HasSides (step_at k b count) (steps_told k first (before + 1) journal moved)
    (rows_side k b small, columns_side k b small (shift_within k first (before + 1) journal low each))
    (sides_told k first (before + 1) journal moved small low each)

-- what moved in them fits 64 bits
pub moved_told : (k first before : ℕ) (journal : List TurnLine) (moved : List ℕ) → All CountFits moved
    → All MovedFits (steps_told k first before journal moved)
moved_told k first before journal [] fit = All-nil MovedFits
moved_told k first before journal (count ∷ moved) fit =
    All-cons MovedFits (step_at k (shift_at first (before + 1) journal) count)
    (steps_told k first (before + 1) journal moved) (All-head CountFits count moved fit)
    (moved_told k first (before + 1) journal moved (All-tail CountFits count moved fit))

-- there are as many as loads
pub joiners_length : (loads : List Held) (made : List ℕ) → length loads ≡ length made
    → length (joiners_told loads made) ≡ length loads
joiners_length [] made same = refl
joiners_length (load ∷ loads) [] same = absurd (omega arith)
joiners_length (load ∷ loads) (count ∷ made) same = ap suc (joiners_length loads made (omega arith))

-- their numbers fit 64 bits
pub joiners_fit : (loads : List Held) (made : List ℕ) → All LoadFits loads → All CountFits made
    → All HeldFits (joiners_told loads made)
joiners_fit [] made held fit = All-nil HeldFits
joiners_fit (load ∷ loads) [] held fit = All-nil HeldFits
joiners_fit (load ∷ loads) (count ∷ made) held fit =
    let here = All-head LoadFits load loads held in
    All-cons HeldFits (joiner_told load count) (joiners_told loads made)
    (here.0, here.1, All-head CountFits count made fit)
    (joiners_fit loads made (All-tail LoadFits load loads held) (All-tail CountFits count made fit))
