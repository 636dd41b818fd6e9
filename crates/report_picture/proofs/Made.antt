-- Steps, growths, joiners and reports that are made of numbers which are those wanted.
use Rattle.std.proofs.Common.{◌≡◌, ◌∙◌, ℕ, Option, Some, None, true}
use Rattle.std.proofs.Common.{false}
use Rattle.std.proofs.Common.{refl, ap, sym, is_some}
use Rattle.std.proofs.lemmas.Bool.{false≢true}
use Rattle.report_lines.specs.declared.report_numbers.Step.{Step}
use Rattle.report_lines.specs.declared.report_numbers.Growth.{Growth}
use Rattle.report_lines.specs.declared.report_numbers.Joiner.{Joiner}
use Rattle.report_lines.specs.declared.report_numbers.Report.{Report}
use Rattle.report_picture.specs.Reading.{Input, Final, taken, with_step, with_grid_by}

-- a step with the numbers of another is that one
pub same_step : (n m moved : ℕ) (wanted : Step) → n ≡ wanted.n → m ≡ wanted.m → moved ≡ wanted.moved
    → ◌≡◌ {A = Step} (record { n = n; m = m; moved = moved }) wanted
same_step n m moved wanted same_n same_m same_moved =
    let by_n : ℕ → Step = λ k. record { n = k; m = m; moved = moved } in
    let by_m : ℕ → Step = λ k. record { n = wanted.n; m = k; moved = moved } in
    let by_moved : ℕ → Step = λ k. record { n = wanted.n; m = wanted.m; moved = k } in
    ap by_n same_n ∙ ap by_m same_m ∙ ap by_moved same_moved

-- so is a growth
pub same_growth : (n m placed : ℕ) (wanted : Growth) → n ≡ wanted.n → m ≡ wanted.m → placed ≡ wanted.placed
    → ◌≡◌ {A = Growth} (record { n = n; m = m; placed = placed }) wanted
same_growth n m placed wanted same_n same_m same_placed =
    let by_n : ℕ → Growth = λ k. record { n = k; m = m; placed = placed } in
    let by_m : ℕ → Growth = λ k. record { n = wanted.n; m = k; placed = placed } in
    let by_placed : ℕ → Growth = λ k. record { n = wanted.n; m = wanted.m; placed = k } in
    ap by_n same_n ∙ ap by_m same_m ∙ ap by_placed same_placed

-- and what a joiner holds
pub same_joiner : (rows_r rows_s made : ℕ) (wanted : Joiner)
    → rows_r ≡ wanted.rows_r → rows_s ≡ wanted.rows_s → made ≡ wanted.made
    → ◌≡◌ {A = Joiner} (record { rows_r = rows_r; rows_s = rows_s; made = made }) wanted
same_joiner rows_r rows_s made wanted same_r same_s same_made =
    let by_r : ℕ → Joiner = λ k. record { rows_r = k; rows_s = rows_s; made = made } in
    let by_s : ℕ → Joiner = λ k. record { rows_r = wanted.rows_r; rows_s = k; made = made } in
    let by_made : ℕ → Joiner = λ k. record { rows_r = wanted.rows_r; rows_s = wanted.rows_s; made = k } in
    ap by_r same_r ∙ ap by_s same_s ∙ ap by_made same_made

-- numbers of rows that are those wanted leave what these do
pub same_input : (report : Report) (x y wanted_x wanted_y : ℕ) → x ≡ wanted_x → y ≡ wanted_y
    → taken report (Input x y) ≡ taken report (Input wanted_x wanted_y)
same_input report x y wanted_x wanted_y same_x same_y =
    ap (λ k. taken report (Input k y)) same_x ∙ ap (λ k. taken report (Input wanted_x k)) same_y

module _ (report : Report) (n m copies best : ℕ) where
  -- and so do those of the last grid
  pub same_final : (wanted_n wanted_m wanted_copies wanted_best : ℕ)
      → n ≡ wanted_n → m ≡ wanted_m → copies ≡ wanted_copies → best ≡ wanted_best
      → taken report (Final n m copies best) ≡ taken report (Final wanted_n wanted_m wanted_copies wanted_best)
  same_final wanted_n wanted_m wanted_copies wanted_best same_n same_m same_copies same_best =
      ap (λ k. taken report (Final k m copies best)) same_n
      ∙ ap (λ k. taken report (Final wanted_n k copies best)) same_m
      ∙ ap (λ k. taken report (Final wanted_n wanted_m k best)) same_copies
      ∙ ap (λ k. taken report (Final wanted_n wanted_m wanted_copies k)) same_best

-- one step more behind a growth
pub grid_behind : (growth : Option Growth) (report : Report) (step : Step) → is_some growth ≡ true
    → with_grid_by growth report step ≡ record report { later = with_step report.later step }
grid_behind None report step some = absurd (false≢true some)
grid_behind (Some growth) report step some = refl

-- one step more where there was none
pub grid_before : (growth : Option Growth) (report : Report) (step : Step) → is_some growth ≡ false
    → with_grid_by growth report step ≡ record report { steps = with_step report.steps step }
grid_before None report step none = refl
grid_before (Some growth) report step none = absurd (false≢true (sym none))
