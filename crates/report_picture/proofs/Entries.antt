-- The text of a report as the lines of its entries, each of which can be read.
use Rattle.std.proofs.Common.{◌≡◌, ◌≤◌, ◌<◌, ◌+◌, ◌*◌, ◌^◌, ◌++◌, ℕ, List, [], ◌∷◌, Option, None, Some, All, IfSome}
use Rattle.std.proofs.Common.{refl, ◌∙◌}
use Rattle.std.proofs.Common.{ap, arith, length, append_assoc, mul-le-mul, flat_map}
use Rattle.std.specs.List.{enumerate_from}
use Rattle.std.proofs.lemmas.List.Elements.{All-nil, All-cons, All-append, All-head, All-tail, All-weaker}
use Rattle.report_lines.specs.declared.report_numbers.Step.{Step}
use Rattle.report_lines.specs.declared.report_numbers.Growth.{Growth}
use Rattle.report_lines.specs.declared.report_numbers.Joiner.{Joiner}
use Rattle.report_lines.specs.declared.report_numbers.Report.{Report}
use Rattle.report_lines.specs.Lines.{input_line, grid_line, grid_lines, grow_line, growth_lines, final_line}
use Rattle.report_lines.specs.Grids.{HasSides, HasGrownSides, IsWhole}
use Rattle.report_lines.specs.Lines.{joiner_line, joiner_lines, report_lines}
use Rattle.report_picture.specs.Reading.{Entry, Input, Grid, Grow, Final, Held, Blank}
use Rattle.report_picture.specs.Reading.{line_of, text_of, IsReadable, MovedFits, PlacedFits, HeldFits, NumbersFit}
use Rattle.report_picture.proofs.Folded.{grids_from, growths, helds_from, entries_behind, entries_of}

-- the line of an entry with its line feed, by its parts
input_text : (x y : ℕ) → input_line x y ≡ line_of (Input x y) ++ 10 ∷ []
input_text x y = simp append_assoc

grid_text : (epoch : ℕ) (step : Step) → grid_line epoch step ≡ line_of (Grid epoch step) ++ 10 ∷ []
grid_text epoch step = simp append_assoc

grow_text : (growth : Growth) → grow_line growth ≡ line_of (Grow growth) ++ 10 ∷ []
grow_text growth = simp append_assoc

final_text : (n m copies best : ℕ) → final_line n m copies best ≡ line_of (Final n m copies best) ++ 10 ∷ []
final_text n m copies best = simp append_assoc

held_text : (id : ℕ) (joiner : Joiner) → joiner_line id joiner ≡ line_of (Held id joiner) ++ 10 ∷ []
held_text id joiner = simp append_assoc

line_more : (line text : List ℕ) (entry : Entry) (entries : List Entry) → line ≡ line_of entry ++ 10 ∷ []
    → text ≡ text_of entries → line ++ text ≡ text_of (entry ∷ entries)
line_more line text entry entries is are =
    ap (λ l. l ++ text) is ∙ ap (λ t. (line_of entry ++ 10 ∷ []) ++ t) are

grids_text : (before : ℕ) (steps : List Step) (text : List ℕ) (entries : List Entry) → text ≡ text_of entries
    → grid_lines before steps ++ text ≡ text_of (grids_from before steps ++ entries)
grids_text before [] text entries are = are
grids_text before (step ∷ steps) text entries are =
    append_assoc (grid_line (before + 1) step) (grid_lines (before + 1) steps) text
    ∙ line_more (grid_line (before + 1) step) (grid_lines (before + 1) steps ++ text) (Grid (before + 1) step)
    (grids_from (before + 1) steps ++ entries) (grid_text (before + 1) step)
    (grids_text (before + 1) steps text entries are)

growths_text : (growth : Option Growth) (text : List ℕ) (entries : List Entry) → text ≡ text_of entries
    → growth_lines growth ++ text ≡ text_of (growths growth ++ entries)
growths_text None text entries are = are
growths_text (Some growth) text entries are =
    line_more (grow_line growth) text (Grow growth) entries (grow_text growth) are

abbrev lines_from_id : ℕ → List Joiner → List ℕ
lines_from_id id joiners = flat_map (λ joiner. joiner_line joiner.0 joiner.1) (enumerate_from id joiners)

helds_from_text : (id : ℕ) (joiners : List Joiner) → lines_from_id id joiners ≡ text_of (helds_from id joiners)
helds_from_text id [] = refl
helds_from_text id (joiner ∷ joiners) =
    line_more (joiner_line id joiner) (lines_from_id (id + 1) joiners) (Held id joiner) (helds_from (id + 1) joiners)
    (held_text id joiner) (helds_from_text (id + 1) joiners)

regroup : (a b c d e f : List ℕ) → ((((a ++ b) ++ c) ++ d) ++ e) ++ f ≡ a ++ (b ++ (c ++ (d ++ (e ++ f))))
regroup a b c d e f = simp append_assoc

-- the lines of a report are those of its entries
pub report_text : (report : Report) → report_lines report ≡ text_of (entries_of report)
report_text report =
    let steps = report.steps in
    let later = report.later in
    let joiners = report.joiners in
    let last = final_line report.n report.m report.copies report.best in
    let helds = helds_from 0 report.joiners in
    let behind = Final report.n report.m report.copies report.best ∷ helds in
    regroup (input_line report.x report.y) (grid_lines 0 steps) (growth_lines report.growth)
    (grid_lines (length steps) later) last (joiner_lines joiners)
    ∙ line_more (input_line report.x report.y)
    (grid_lines 0 steps ++ (growth_lines report.growth ++ (grid_lines (length steps) later
    ++ (last ++ joiner_lines joiners))))
    (Input report.x report.y)
    (entries_behind steps report.growth later report.n report.m report.copies report.best joiners)
    (input_text report.x report.y)
    (grids_text 0 steps
    (growth_lines report.growth ++ (grid_lines (length steps) later ++ (last ++ joiner_lines joiners)))
    (growths report.growth ++ (grids_from (length steps) later ++ behind))
    (growths_text report.growth (grid_lines (length steps) later ++ (last ++ joiner_lines joiners))
    (grids_from (length steps) later ++ behind)
    (grids_text (length steps) later (last ++ joiner_lines joiners) behind
    (line_more last (joiner_lines joiners) (Final report.n report.m report.copies report.best) helds
    (final_text report.n report.m report.copies report.best) (helds_from_text 0 joiners)))))

-- an entry that can be read, and isn't that of the numbers of rows
abbrev pub IsBehind : Entry → Type 0
IsBehind (Input x y) = ⊥
IsBehind (Grid epoch step) = IsReadable (Grid epoch step)
IsBehind (Grow growth) = IsReadable (Grow growth)
IsBehind (Final n m copies best) = IsReadable (Final n m copies best)
IsBehind (Held id joiner) = IsReadable (Held id joiner)
IsBehind Blank = Unit {0}

-- it can be read
pub behind_readable : (entry : Entry) → IsBehind entry → IsReadable entry
behind_readable (Input x y) behind = absurd behind
behind_readable (Grid epoch step) behind = behind
behind_readable (Grow growth) behind = behind
behind_readable (Final n m copies best) behind = behind
behind_readable (Held id joiner) behind = behind
behind_readable Blank behind = tt

grids_behind : (before : ℕ) (steps : List Step) → before + length steps < 2 ^ 64 → All HasSides steps
    → All MovedFits steps → All IsBehind (grids_from before steps)
grids_behind before [] small sides fit = All-nil IsBehind
grids_behind before (step ∷ steps) small sides fit =
    All-cons IsBehind (Grid (before + 1) step) (grids_from (before + 1) steps)
    (omega (arith, small), All-head HasSides step steps sides, All-head MovedFits step steps fit)
    (grids_behind (before + 1) steps (omega (arith, small)) (All-tail HasSides step steps sides)
    (All-tail MovedFits step steps fit))

growths_behind : (growth : Option Growth) → IfSome growth HasGrownSides → IfSome growth PlacedFits
    → All IsBehind (growths growth)
growths_behind None sides fits = All-nil IsBehind
growths_behind (Some growth) sides fits = All-cons IsBehind (Grow growth) [] (sides, fits) (All-nil IsBehind)

helds_behind : (id : ℕ) (joiners : List Joiner) → id + length joiners < 2 ^ 64 → All HeldFits joiners
    → All IsBehind (helds_from id joiners)
helds_behind id [] small fit = All-nil IsBehind
helds_behind id (joiner ∷ joiners) small fit =
    All-cons IsBehind (Held id joiner) (helds_from (id + 1) joiners)
    (omega (arith, small), All-head HeldFits joiner joiners fit)
    (helds_behind (id + 1) joiners (omega (arith, small)) (All-tail HeldFits joiner joiners fit))

-- each line of a whole report behind its first is such
pub report_behind : (report : Report) → IsWhole report → NumbersFit report
    → All IsBehind (entries_behind report.steps report.growth report.later report.n report.m report.copies
    report.best report.joiners)
report_behind report whole fit =
    let grids = whole.grids in
    let steps = report.steps in
    let later = report.later in
    let joiners = report.joiners in
    let last = Final report.n report.m report.copies report.best in
    let places : report.n * report.m ≤ 256 * 256 = mul-le-mul grids.n.1 grids.m.1 in
    All-append IsBehind (grids_from 0 steps)
    (growths report.growth ++ (grids_from (length steps) later ++ (last ∷ helds_from 0 joiners)))
    (grids_behind 0 steps (omega (arith, grids.few)) grids.steps fit.steps)
    (All-append IsBehind (growths report.growth) (grids_from (length steps) later ++ (last ∷ helds_from 0 joiners))
    (growths_behind report.growth grids.growth fit.growth)
    (All-append IsBehind (grids_from (length steps) later) (last ∷ helds_from 0 joiners)
    (grids_behind (length steps) later (omega (arith, grids.few, grids.few_later)) grids.later fit.later)
    (All-cons IsBehind last (helds_from 0 joiners) (grids.n, grids.m, fit.copies, fit.best)
    (helds_behind 0 joiners (omega (arith, whole.joiners, places)) fit.joiners))))

-- so each of its lines can be read
pub report_readable : (report : Report) → IsWhole report → NumbersFit report → All IsReadable (entries_of report)
report_readable report whole fit =
    let behind =
    entries_behind report.steps report.growth report.later report.n report.m report.copies report.best
    report.joiners in
    All-cons IsReadable (Input report.x report.y) behind (fit.x, fit.y)
    (All-weaker IsBehind IsReadable behind_readable behind (report_behind report whole fit))
