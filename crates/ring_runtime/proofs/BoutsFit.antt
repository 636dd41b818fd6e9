-- The bouts over rings are fewer than 2^64.
use Rattle.std.proofs.Common.{ℕ, ◌+◌, ◌-◌, ◌*◌, ◌^◌, ◌<◌, ◌≤◌, List, arith}
use Rattle.std.proofs.Math.Pow.{pow_mono}
use Rattle.std.proofs.lemmas.Nat.{mul-le}
use Rattle.row_cells.specs.declared.table.Side.TheVariants.{R, S}
use Rattle.epoch_tags.specs.declared.actor.Actor.{Actor}
use Rattle.load_controller.specs.declared.line.TurnLine.{TurnLine}
use Rattle.trace_law.specs.Join.{row_count}
use Rattle.trace_law.specs.Laws.{KeepsALawfulJournal, LawfulIsBounded}
use Rattle.trace_law.specs.Family.{migrations}
use Rattle.trace_law.specs.Validity.{IsValidInput, IsValidSetting}
use Rattle.trace_law.specs.MostEvents.{most_events}
use Rattle.actor_core.specs.Families.{family_of}
use Rattle.actor_core.specs.Lists.{ActorLists}
use Rattle.actor_core.specs.Tasks.{Task, IsTask, Agrees}

below_2_19 : (n : ℕ) → n ≤ 2 ^ 18 → n < 2 ^ 19
below_2_19 n few = omega arith

twice : (n most : ℕ) → n ≤ most → most < 2 ^ 62 → 2 * n < 2 ^ 64 - 1
twice n most low high = omega arith

-- with 2^18 rows a side at most, 8 feeders and 256 joiners
numbers_fit : (r s feeders k epochs : ℕ) → r ≤ 2 ^ 18 → s ≤ 2 ^ 18 → feeders ≤ 8 → k ≤ 8 → epochs ≤ k * (19 + 19)
    → 2 * (8 * (r + s + feeders + 2) * 2 ^ k * (epochs + 2)) < 2 ^ 64 - 1
numbers_fit r s feeders k epochs few_r few_s few small late =
    let rows : 8 * (r + s + feeders + 2) ≤ 4194384 = omega arith in
    let joiners : 2 ^ k ≤ 2 ^ 8 = pow_mono {i = k} {j = 8} small in
    let lines : epochs + 2 ≤ 306 = omega arith in
    let most = mul-le (8 * (r + s + feeders + 2) * 2 ^ k) (epochs + 2) (4194384 * 2 ^ 8) 306
    (mul-le (8 * (r + s + feeders + 2)) (2 ^ k) 4194384 (2 ^ 8) rows joiners) lines in
    twice (8 * (r + s + feeders + 2) * 2 ^ k * (epochs + 2)) (4194384 * 2 ^ 8 * 306) most (omega arith)

-- so a number of 64 bits counts two bouts for each event
pub bouts_fit : KeepsALawfulJournal → LawfulIsBounded → (task : Task) (journal : List TurnLine)
    (lists : Actor → ActorLists) → IsValidInput task.input → IsValidSetting task.setting → IsTask task
    → Agrees task (family_of journal lists)
    → 2 * most_events task.input task.setting (migrations task.rest.line journal) < 2 ^ 64 - 1
bouts_fit keeps bounded task journal lists of_input of_setting is_task agrees =
    let lawful = keeps task.input task.setting task.rest (family_of journal lists) is_task.valid is_task.begins
    agrees in
    let few_r = (of_input.sides R).few in
    let few_s = (of_input.sides S).few in
    let late = (bounded task.input task.setting task.rest.line journal is_task.valid is_task.begins.line lawful 19 19
    (below_2_19 (row_count task.input R) few_r) (below_2_19 (row_count task.input S) few_s)).0 in
    numbers_fit (row_count task.input R) (row_count task.input S) task.setting.feeders task.setting.k
    (migrations task.rest.line journal) few_r few_s of_setting.few_feeders of_setting.joiners late
