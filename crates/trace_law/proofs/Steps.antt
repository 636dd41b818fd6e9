-- How many steps a wave's journal has begun, and what feeders were sent for them.
use Rattle.std.proofs.Common.{◌≡◌, ℕ, ◌+◌, ◌-◌, subst, arith, ◌∷◌}
use Rattle.row_cells.specs.Lists.{counting_from}
use Rattle.epoch_tags.specs.Messages.{order_epochs}
use Rattle.load_controller.specs.declared.line.TurnLine.{TurnLine}
use Rattle.load_controller.specs.Journal.{begun}
use Rattle.load_controller.specs.Law.{sent_by}
use Rattle.load_controller.proofs.Sends.{sends_orders}
use Rattle.trace_law.specs.declared.input.Input.{Input}
use Rattle.trace_law.specs.declared.setting.Setting.{Setting}
use Rattle.trace_law.specs.Family.{Rest, Family, IsAgreeing, rules_of}

module _ (input : Input) (setting : Setting) (rest : Rest) (f : Family) (agrees : IsAgreeing input setting rest f) where
  abbrev line : TurnLine
  line = agrees.controller.line

  -- how many steps the wave's journal has
  abbrev pub steps : ℕ
  steps = line.epoch - rest.line.epoch

  -- so many epochs after the first is the last
  pub epoch_is : line.epoch ≡ rest.line.epoch + steps
  epoch_is =
      let sent =
      sends_orders (rules_of setting) (begun rest.line) line agrees.controller.past 0 agrees.controller.follows in
      let late : line.epoch ≡ rest.line.epoch + sent.0 = sent.1 in
      omega (arith, late)

  -- and so many orders each feeder is sent
  pub orders_sent : (p : ℕ)
      → order_epochs (sent_by (rules_of setting) p (line ∷ agrees.controller.past))
      ≡ counting_from (rest.line.epoch + 1) steps
  orders_sent p =
      let sent =
      sends_orders (rules_of setting) (begun rest.line) line agrees.controller.past p agrees.controller.follows in
      let late : line.epoch ≡ rest.line.epoch + sent.0 = sent.1 in
      let same : sent.0 ≡ steps = omega (arith, late) in
      subst
      (λ n. order_epochs (sent_by (rules_of setting) p (line ∷ agrees.controller.past))
      ≡ counting_from (rest.line.epoch + 1) n) same sent.2
