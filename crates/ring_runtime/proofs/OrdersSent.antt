-- The controller sent the first feeder an order for each step of its journal.
use Rattle.std.proofs.Common.{◌≡◌, ◌+◌, ◌-◌, ◌<◌, sym, ap, ◌∙◌, List, [], ◌∷◌, ◌++◌, length, reverse}
use Rattle.std.proofs.lemmas.List.{reverse-append, reverse-reverse}
use Rattle.row_cells.proofs.RisingNumbers.{length-counting_from}
use Rattle.epoch_tags.specs.Messages.{order_epochs}
use Rattle.epoch_tags.specs.declared.actor.Actor.{Actor}
use Rattle.load_controller.specs.Journal.{last_epoch}
use Rattle.load_controller.specs.declared.line.TurnLine.{TurnLine}
use Rattle.load_controller.proofs.Shifts.{last_is}
use Rattle.trace_law.specs.Family.{migrations}
use Rattle.trace_law.proofs.Steps.{orders_sent, steps}
use Rattle.actor_core.specs.Families.{family_of}
use Rattle.actor_core.specs.Lists.{ActorLists}
use Rattle.actor_core.specs.Tasks.{Task, Agrees}
use Rattle.ring_runtime.specs.Runs.{orders_in}

-- where the lists agree, these orders are as many as the migrations of the journal
pub orders_are : (task : Task) → 0 < task.setting.feeders → (journal : List TurnLine) (lists : Actor → ActorLists)
    → Agrees task (family_of journal lists) → orders_in lists ≡ migrations task.rest.line journal
orders_are task some journal lists agrees =
    let rest = task.rest in
    let f = family_of journal lists in
    let c = agrees.controller in
    let sent = ap (λ ms. length (order_epochs ms)) (c.sends 0 some) in
    let many = steps task.input task.setting task.rest f agrees in
    let counted = ap length (orders_sent task.input task.setting task.rest f agrees 0)
    ∙ length-counting_from (rest.line.epoch + 1) many in
    let turn : reverse (c.line ∷ c.past) ≡ reverse c.past ++ c.line ∷ [] = reverse-append (c.line ∷ []) c.past in
    let journal_is : journal ≡ reverse (c.line ∷ c.past) = sym (reverse-reverse journal) ∙ ap reverse c.journal in
    let last = ap last_epoch (journal_is ∙ turn) ∙ last_is (reverse c.past) c.line in
    sent ∙ counted ∙ ap (λ n. n - rest.line.epoch) (sym last)
