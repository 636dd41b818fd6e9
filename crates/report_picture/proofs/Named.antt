-- Which entry a line writes, by what it begins with.
use Rattle.std.proofs.Common.{◌≡◌, ℕ, List, Bool, true, sym, ◌∙◌, ap, eqb, codes}
use Rattle.std.specs.List.{starts_with}
use Rattle.std.proofs.lemmas.Bool.{false≢true}
use Rattle.report_lines.specs.declared.report_numbers.Step.{Step}
use Rattle.report_lines.specs.declared.report_numbers.Growth.{Growth}
use Rattle.report_lines.specs.declared.report_numbers.Joiner.{Joiner}
use Rattle.report_picture.specs.Reading.{Entry, Input, Grid, Grow, Final, Held, Blank, line_of}

-- a line begins with this name
abbrev pub Begins : List ℕ → List ℕ → Type 0
Begins line name = starts_with eqb line name ≡ true

-- what holds of the numbers of rows holds of a line that begins with `input `
pub on_input : (P : Entry → Type 0) (entry : Entry) → Begins (line_of entry) (codes "input ")
    → ((x y : ℕ) → P (Input x y)) → P entry
on_input P (Input x y) begins here = here x y
on_input P (Grid epoch step) begins here = absurd (false≢true begins)
on_input P (Grow growth) begins here = absurd (false≢true begins)
on_input P (Final n m copies best) begins here = absurd (false≢true begins)
on_input P (Held id joiner) begins here = absurd (false≢true begins)
on_input P Blank begins here = absurd (false≢true begins)

-- of the grid of an epoch, of one that begins with `grid `
pub on_grid : (P : Entry → Type 0) (entry : Entry) → Begins (line_of entry) (codes "grid ")
    → ((epoch : ℕ) (step : Step) → P (Grid epoch step)) → P entry
on_grid P (Input x y) begins here = absurd (false≢true begins)
on_grid P (Grid epoch step) begins here = here epoch step
on_grid P (Grow growth) begins here = absurd (false≢true begins)
on_grid P (Final n m copies best) begins here = absurd (false≢true begins)
on_grid P (Held id joiner) begins here = absurd (false≢true begins)
on_grid P Blank begins here = absurd (false≢true begins)

-- of a growth, of one that begins with `grow `
pub on_grow : (P : Entry → Type 0) (entry : Entry) → Begins (line_of entry) (codes "grow ")
    → ((growth : Growth) → P (Grow growth)) → P entry
on_grow P (Input x y) begins here = absurd (false≢true begins)
on_grow P (Grid epoch step) begins here = absurd (false≢true begins)
on_grow P (Grow growth) begins here = here growth
on_grow P (Final n m copies best) begins here = absurd (false≢true begins)
on_grow P (Held id joiner) begins here = absurd (false≢true begins)
on_grow P Blank begins here = absurd (false≢true begins)

-- of the last grid, of one that begins with `final `
pub on_final : (P : Entry → Type 0) (entry : Entry) → Begins (line_of entry) (codes "final ")
    → ((n m copies best : ℕ) → P (Final n m copies best)) → P entry
on_final P (Input x y) begins here = absurd (false≢true begins)
on_final P (Grid epoch step) begins here = absurd (false≢true begins)
on_final P (Grow growth) begins here = absurd (false≢true begins)
on_final P (Final n m copies best) begins here = here n m copies best
on_final P (Held id joiner) begins here = absurd (false≢true begins)
on_final P Blank begins here = absurd (false≢true begins)

-- of what a joiner holds, of one that begins with `joiner `
pub on_joiner : (P : Entry → Type 0) (entry : Entry) → Begins (line_of entry) (codes "joiner ")
    → ((id : ℕ) (joiner : Joiner) → P (Held id joiner)) → P entry
on_joiner P (Input x y) begins here = absurd (false≢true begins)
on_joiner P (Grid epoch step) begins here = absurd (false≢true begins)
on_joiner P (Grow growth) begins here = absurd (false≢true begins)
on_joiner P (Final n m copies best) begins here = absurd (false≢true begins)
on_joiner P (Held id joiner) begins here = here id joiner
on_joiner P Blank begins here = absurd (false≢true begins)

-- a test of a line tells of the line of the entry that it writes
pub tested : (line name : List ℕ) (entry : Entry) (begins answer : Bool) → line ≡ line_of entry
    → begins ≡ starts_with eqb line name → begins ≡ answer → starts_with eqb (line_of entry) name ≡ answer
tested line name entry begins answer is value test = ap (λ l. starts_with eqb l name) (sym is) ∙ sym value ∙ test
