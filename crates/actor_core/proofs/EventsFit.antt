-- The events of a wave are fewer than 2^64.
use Rattle.std.proofs.Common.{ℕ, ◌+◌, ◌-◌, ◌*◌, ◌^◌, ◌<◌, ◌≤◌, arith}
use Rattle.std.proofs.Math.Pow.{pow_mono}
use Rattle.std.proofs.lemmas.Nat.{mul-le}
use Rattle.row_cells.specs.declared.table.Side.TheVariants.{R, S}
use Rattle.trace_law.specs.Join.{row_count}
use Rattle.trace_law.specs.Laws.{KeepsALawfulJournal, LawfulIsBounded}
use Rattle.trace_law.specs.Family.{migrations}
use Rattle.trace_law.proofs.Validity.{within_limits}
use Rattle.actor_core.specs.Counts.{EventsFit}
use Rattle.actor_core.specs.Families.{family_of}

-- what is at most a number below the limit is below it
pub under : (n m most : ℕ) → n ≤ m → m < most → n < most
under n m most low high = omega arith

-- with 2^18 rows a side at most, 8 feeders and 256 joiners
numbers_fit : (r s feeders k epochs : ℕ) → r ≤ 2 ^ 18 → s ≤ 2 ^ 18 → feeders ≤ 8 → k ≤ 8 → epochs ≤ k * (19 + 19)
    → 8 * (r + s + feeders + 2) * 2 ^ k * (epochs + 2) < 2 ^ 64 - 1
numbers_fit r s feeders k epochs few_r few_s few small late =
    let rows : 8 * (r + s + feeders + 2) ≤ 4194384 = omega arith in
    let joiners : 2 ^ k ≤ 2 ^ 8 = pow_mono {i = k} {j = 8} small in
    let lines : epochs + 2 ≤ 306 = omega arith in
    let most = mul-le (8 * (r + s + feeders + 2) * 2 ^ k) (epochs + 2) (4194384 * 2 ^ 8) 306
    (mul-le (8 * (r + s + feeders + 2)) (2 ^ k) 4194384 (2 ^ 8) rows joiners) lines in
    under (8 * (r + s + feeders + 2) * 2 ^ k * (epochs + 2)) (4194384 * 2 ^ 8 * 306) (2 ^ 64 - 1) most (omega arith)

below_2_19 : (n : ℕ) → n ≤ 2 ^ 18 → n < 2 ^ 19
below_2_19 n few = omega arith

-- so a number of 64 bits counts the events of a wave
pub fit : KeepsALawfulJournal → LawfulIsBounded → EventsFit
fit keeps bounded task journal lists of_input of_setting begins agrees =
    let valid = within_limits task.input task.setting of_input of_setting in
    let lawful = keeps task.input task.setting task.rest (family_of journal lists) valid begins agrees in
    let few_r = (of_input.sides R).few in
    let few_s = (of_input.sides S).few in
    let late = (bounded task.input task.setting task.rest.line journal valid begins.line lawful 19 19
    (below_2_19 (row_count task.input R) few_r) (below_2_19 (row_count task.input S) few_s)).0 in
    numbers_fit (row_count task.input R) (row_count task.input S) task.setting.feeders task.setting.k
    (migrations task.rest.line journal) few_r few_s of_setting.few_feeders of_setting.joiners late
