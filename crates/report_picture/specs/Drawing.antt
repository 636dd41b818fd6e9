-- The picture of a report, an SVG. What isn't the report's own in it is a total, a ratio, a place, a width or a shade.
use Rattle.std.specs.Prelude.{◌+◌, ◌-◌, ◌*◌, ◌/◌, ◌%◌, ◌==◌, ◌++◌, ℕ, List, flat_map, length, min, max}
use Rattle.std.specs.Prelude.{[], Bool, ◌||◌, not, Option, None, Some, is_some, option_map, unwrap_or, nat_le, nat_lt}
use Rattle.std.specs.Prelude.{if◌then◌else◌, codes}
use Rattle.std.specs.List.{enumerate_from}
use Rattle.std.specs.Fmt.{decimal}
use Rattle.report_picture.specs.Totals.{held_by, most_held, all_rows_r, all_rows_s, all_made}
use Rattle.report_lines.specs.declared.report_numbers.Step.{Step}
use Rattle.report_lines.specs.declared.report_numbers.Growth.{Growth}
use Rattle.report_lines.specs.declared.report_numbers.Joiner.{Joiner}
use Rattle.report_lines.specs.declared.report_numbers.Report.{Report}

-- the size of the picture, and what all its elements share
unfoldable pub head_of : ℕ → ℕ → List ℕ
head_of width height =
    codes "<svg xmlns='http://www.w3.org/2000/svg' width='" ++ (decimal width
    ++ (codes "' height='" ++ (decimal height ++ (codes "' viewBox='0 0 " ++ (decimal width
    ++ (codes " " ++ (decimal height
    ++ codes "' role='img' font-family='monospace' font-size='11' text-anchor='middle' fill='#1c2733'>\n")))))))

-- the picture's name, for who doesn't see it
unfoldable pub name_of : ℕ → List ℕ
name_of joiners = codes "<title>A run of jm, joiners: " ++ (decimal joiners ++ codes "</title>\n")

-- what follows in words: the numbers of rows, pairs and changes
unfoldable pub counts_of : ℕ → ℕ → ℕ → ℕ → List ℕ
counts_of x y made steps =
    codes "<desc>Rows of R: " ++ (decimal x ++ (codes ", rows of S: "
    ++ (decimal y ++ (codes ", pairs: " ++ (decimal made
    ++ (codes ". Changes of the grid: " ++ (decimal steps ++ codes ".")))))))

-- how many changes of the grid there were in all, before a growth and since
abbrev pub changes_of : Report → ℕ
changes_of report = length report.steps + length report.later

-- a growth in words
unfoldable pub grown_words_of : Growth → List ℕ
grown_words_of growth =
    codes " Grown to rows " ++ (decimal growth.n ++ (codes ", columns " ++ (decimal growth.m
    ++ (codes ", rows placed: " ++ (decimal growth.placed ++ codes ".")))))

-- the growth in words, if there was one
abbrev pub growth_words_of : Option Growth → List ℕ
growth_words_of None = []
growth_words_of (Some growth) = grown_words_of growth

-- the last grid in words
unfoldable pub shape_of : ℕ → ℕ → List ℕ
shape_of n m =
    codes " Last grid: rows " ++ (decimal n ++ (codes ", columns " ++ (decimal m ++ codes ". Load: ")))

-- hundredths as a number with two places behind the point
unfoldable pub ratio_of : ℕ → List ℕ
ratio_of hundredths =
    decimal (hundredths / 100) ++ (codes "." ++ (decimal (hundredths / 10 % 10) ++ decimal (hundredths % 10)))

-- the end of the words, and the ground
unfoldable pub ground : List ℕ
ground = codes " times the best.</desc>\n<rect width='100%' height='100%' fill='#ffffff'/>\n"

-- how many hundredths of the best the load is, the nearest number; 1.00 where the best is nothing
abbrev pub hundredths_of : ℕ → ℕ → ℕ
hundredths_of copies best = if best == 0 then 100 else (copies * 100 + best / 2) / best

-- the picture in words: how many joiners, rows, pairs and changes, the growth, the last grid, and its load against the
-- best
abbrev pub words_of : Report → List ℕ
words_of report =
    name_of (report.n * report.m)
    ++ counts_of report.x report.y (all_made report.joiners) (changes_of report)
    ++ growth_words_of report.growth ++ shape_of report.n report.m ++ ratio_of (hundredths_of report.copies report.best)
    ++ ground

-- the numbers of rows and pairs
unfoldable pub title_of : ℕ → ℕ → ℕ → List ℕ
title_of x y made =
    codes "<text x='24' y='32' text-anchor='start' font-size='15'>rows of R: " ++ (decimal x
    ++ (codes ", rows of S: " ++ (decimal y ++ (codes ", pairs: " ++ (decimal made ++ codes "</text>\n")))))

-- how wide or high each of so many cells of a square is, at least one pixel
abbrev pub cell_size : ℕ → ℕ
cell_size cells = max (128 / cells) 1

-- a pattern of cells of this width and height
unfoldable pub pattern_of : ℕ → ℕ → ℕ → List ℕ
pattern_of id width height =
    codes "<pattern id='grid" ++ (decimal id ++ (codes "' width='" ++ (decimal width
    ++ (codes "' height='"
    ++ (decimal height
    ++ codes "' patternUnits='userSpaceOnUse'><path d='M0 0H128V128H0Z' fill='#e8f1fb' stroke='#1f5fa8' stroke-width='2'/></pattern>\n")))))

-- a square that is filled by a pattern
unfoldable pub filled_of : ℕ → List ℕ
filled_of id = codes "<rect width='128' height='128' fill='url(#grid" ++ (decimal id ++ codes ")' stroke='#1f5fa8'/>\n")

-- a square that is cut into n rows and m columns
abbrev pub square_of : ℕ → ℕ → ℕ → List ℕ
square_of id n m = pattern_of id (cell_size m) (cell_size n) ++ filled_of id

-- the place of a square
unfoldable pub opening_of : ℕ → List ℕ
opening_of x = codes "<g transform='translate(" ++ (decimal x ++ codes " 84)'>\n")

-- the columns with which a grid of so many joiners begins where it may change
abbrev pub columns_at_start : ℕ → ℕ
columns_at_start joiners =
    if nat_lt joiners 4 then 1 else if nat_lt joiners 16 then 2 else if nat_lt joiners 64 then 4 else 8

-- the joiners of the first grid: a fourth of those that it has grown into, or as many as the last grid has
abbrev pub first_joiners : Report → ℕ
first_joiners report =
    unwrap_or (option_map (λ (growth : Growth). max (growth.n * growth.m / 4) 1) report.growth) (report.n * report.m)

-- whether the grid has changed or grown
abbrev pub is_changed : Report → Bool
is_changed report = is_some report.growth || not (length report.steps == 0)

-- the columns of the first grid, which is the last where it never changed
abbrev pub first_columns : Report → ℕ
first_columns report = if is_changed report then columns_at_start (first_joiners report) else report.m

-- the rows of the first grid
abbrev pub first_rows : Report → ℕ
first_rows report = first_joiners report / first_columns report

-- the names of the first grid
unfoldable pub first_names_of : ℕ → ℕ → List ℕ
first_names_of n m =
    codes "<text x='64' y='-10'>first grid</text><text x='64' y='148'>" ++ (decimal n
    ++ (codes " &#215; " ++ (decimal m ++ codes "</text></g>\n")))

-- the first grid
abbrev pub first_of : Report → List ℕ
first_of report =
    opening_of 24 ++ square_of 0 (first_rows report) (first_columns report)
    ++ first_names_of (first_rows report) (first_columns report)

-- an arrow to the grid of a step, with the rows that moved
unfoldable pub moved_of : ℕ → List ℕ
moved_of moved =
    codes "<path d='M-72 64H-8m-8 -5l8 5l-8 5' fill='none' stroke='#1c2733'/><text x='-40' y='56'>" ++ (decimal moved
    ++ codes "</text><text x='-40' y='80'>moved</text></g>\n")

-- the names of the grid of a step
unfoldable pub names_of : ℕ → Step → List ℕ
names_of epoch step =
    codes "<text x='64' y='-10'>epoch " ++ (decimal epoch ++ (codes "</text><text x='64' y='148'>" ++ (decimal step.n
    ++ (codes " &#215; " ++ (decimal step.m ++ codes "</text>\n")))))

-- the grid of a step, so many places behind that of its epoch
abbrev pub step_of : ℕ → ℕ → Step → List ℕ
step_of aside epoch step =
    opening_of (24 + 208 * (epoch + aside)) ++ square_of (epoch + aside) step.n step.m ++ names_of epoch step
    ++ moved_of step.moved

-- the grids of the steps behind so many
abbrev pub steps_of : ℕ → ℕ → List Step → List ℕ
steps_of aside before steps = flat_map (λ step. step_of aside (step.0 + 1) step.1) (enumerate_from before steps)

-- an arrow to the grid of a growth, with the rows that its joiners were given
unfoldable pub placed_of : ℕ → List ℕ
placed_of placed =
    codes "<path d='M-72 64H-8m-8 -5l8 5l-8 5' fill='none' stroke='#1c2733'/><text x='-40' y='56'>" ++ (decimal placed
    ++ codes "</text><text x='-40' y='80'>placed</text></g>\n")

-- the names of the grid of a growth
unfoldable pub grown_names_of : Growth → List ℕ
grown_names_of growth =
    codes "<text x='64' y='-10'>grown to</text><text x='64' y='148'>" ++ (decimal growth.n
    ++ (codes " &#215; " ++ (decimal growth.m ++ codes "</text>\n")))

-- the grid of a growth
abbrev pub grown_of : ℕ → Growth → List ℕ
grown_of place growth =
    opening_of (24 + 208 * place) ++ square_of place growth.n growth.m ++ grown_names_of growth
    ++ placed_of growth.placed

-- the grid of the growth, if there was one
abbrev pub growth_of : ℕ → Option Growth → List ℕ
growth_of place None = []
growth_of place (Some growth) = grown_of place growth

-- the grids behind the first: those of the steps, of the growth, and of the steps since, one place further behind
abbrev pub grids_of : Report → List ℕ
grids_of report =
    steps_of 0 0 report.steps ++ growth_of (length report.steps + 1) report.growth
    ++ steps_of 1 (length report.steps) report.later

-- the load
unfoldable pub load_name_of : ℕ → List ℕ
load_name_of copies =
    codes "<g transform='translate(24 272)' text-anchor='start'><text font-size='13'>load "
    ++ (decimal copies ++ codes ": ")

-- the best behind the ratio
unfoldable pub best_name_of : ℕ → List ℕ
best_name_of best = codes " &#215; best (" ++ (decimal best ++ codes "), ")

-- whether the load is within the bound that a changing grid keeps
abbrev pub verdict_of : ℕ → ℕ → List ℕ
verdict_of copies best = if nat_le (copies * 4) (best * 5) then codes "at most" else codes "more than"

-- how much of a scale that begins at the best and is 400 wide the load fills; more than 5/4 of the best fills it
abbrev pub bar_of : ℕ → ℕ → ℕ
bar_of copies best = if best == 0 then 0 else min ((copies - best) * 1600 / best) 400

-- the scale with a bar of this length
unfoldable pub scale_of : ℕ → List ℕ
scale_of bar =
    codes " 5/4 of it</text>\n<rect y='12' width='" ++ (decimal bar
    ++ (codes "' height='12' fill='#4c9be8'/><path d='M0 12H400V24H0Z' fill='none' stroke='#1f5fa8'/><path d='M"
    ++ (decimal bar
    ++ codes " 8v20' stroke='#1c2733' stroke-width='3'/><text y='40'>best</text><text x='400' y='40' text-anchor='end'>5/4 of best</text></g>\n")))

-- the load against the best, in words and on a scale
abbrev pub load_of : ℕ → ℕ → List ℕ
load_of copies best =
    load_name_of copies ++ ratio_of (hundredths_of copies best) ++ best_name_of best ++ verdict_of copies best
    ++ scale_of (bar_of copies best)

-- the words above the last grid, with all rows that its joiners hold
unfoldable pub last_of : ℕ → ℕ → ℕ → ℕ → List ℕ
last_of n m rows_r rows_s =
    codes "<g transform='translate(24 352)' text-anchor='start'><text font-size='13'>last grid: " ++ (decimal n
    ++ (codes " &#215; " ++ (decimal m ++ (codes " joiners, rows of R that they hold: " ++ (decimal rows_r
    ++ (codes ", of S: " ++ (decimal rows_s ++ codes "</text>\n")))))))

-- what the shades mean
unfoldable pub legend_of : ℕ → List ℕ
legend_of most =
    codes "<linearGradient id='shade'><stop stop-color='#4c9be8' stop-opacity='.1'/><stop offset='1' stop-color='#4c9be8' stop-opacity='.9'/></linearGradient><text y='26'>shade: 0 rows</text><rect x='96' y='16' width='200' height='12' fill='url(#shade)' stroke='#1f5fa8'/><text x='304' y='26'>"
    ++ (decimal most ++ codes " rows, the most that a joiner holds</text></g>\n")

-- thousandths of the full colour: 100 without rows, 900 with the most rows, between them in proportion
abbrev pub shade_of : ℕ → Joiner → ℕ
shade_of most joiner = if most == 0 then 100 else 100 + 800 * held_by joiner / most

-- the cell of a joiner, at this place and with this shade
unfoldable pub cell_of : ℕ → ℕ → ℕ → List ℕ
cell_of x y shade =
    codes "<g transform='translate(" ++ (decimal x ++ (codes " " ++ (decimal y
    ++ (codes ")'><rect width='120' height='68' fill='#4c9be8' fill-opacity='."
    ++ (decimal shade ++ codes "' stroke='#1f5fa8'/>")))))

-- what stands in the cell of a joiner
unfoldable pub labels_of : ℕ → Joiner → List ℕ
labels_of id joiner =
    codes "<text x='60' y='15'>joiner " ++ (decimal id
    ++ (codes "</text><text x='60' y='31'>R " ++ (decimal joiner.rows_r
    ++ (codes "</text><text x='60' y='46'>S " ++ (decimal joiner.rows_s
    ++ (codes "</text><text x='60' y='61'>pairs " ++ (decimal joiner.made ++ codes "</text></g>\n")))))))

-- a joiner at its row and column of a grid of m columns, whose joiners are numbered row by row
abbrev pub joiner_of : ℕ → ℕ → ℕ → Joiner → List ℕ
joiner_of m most id joiner =
    cell_of (24 + 124 * (id % m)) (396 + 72 * (id / m)) (shade_of most joiner) ++ labels_of id joiner

-- joiners, numbered from 0
abbrev pub cells_of : ℕ → ℕ → List Joiner → List ℕ
cells_of m most joiners = flat_map (λ joiner. joiner_of m most joiner.0 joiner.1) (enumerate_from 0 joiners)

-- the last grid: what its joiners hold, what their shades mean, and each of them
abbrev pub field_of : ℕ → ℕ → List Joiner → List ℕ
field_of n m joiners =
    last_of n m (all_rows_r joiners) (all_rows_s joiners) ++ legend_of (most_held joiners)
    ++ cells_of m (most_held joiners) joiners

-- how many grids are drawn
abbrev pub grids_drawn : Report → ℕ
grids_drawn report = changes_of report + (if is_some report.growth then 2 else 1)

-- room for the title, all grids and the field
abbrev pub width_of : Report → ℕ
width_of report = max 640 (max (24 + 208 * grids_drawn report) (48 + 124 * report.m))

-- the same from above to below
abbrev pub height_of : Report → ℕ
height_of report = 416 + 72 * report.n

-- the picture in words, the numbers of rows and pairs, the grids in their order, the load, and the last grid's joiners
abbrev pub picture_of : Report → List ℕ
picture_of report =
    head_of (width_of report) (height_of report) ++ words_of report
    ++ title_of report.x report.y (all_made report.joiners)
    ++ first_of report ++ grids_of report ++ load_of report.copies report.best
    ++ field_of report.n report.m report.joiners ++ codes "</svg>\n"
