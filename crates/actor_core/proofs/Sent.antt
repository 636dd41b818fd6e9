-- A machine may go to another thread, where a predicate may be shared, and an access may go there.
use denote.Param.Send.{IsSend, IsSync, sendable, view_send}
use denote.Param.SendFields.{as_row_send, declared_send, variants_send}
use Rattle.std.proofs.Crossing as heap
use Rattle.epoch_tags.proofs.held.Held.TheSendSync as helds
use Rattle.epoch_tags.proofs.tuple.Tuple.TheSendSync as tuples
use Rattle.epoch_tags.proofs.message.ToJoiner.TheSendSync as messages
use Rattle.theta_pred.proofs.atom.KeyAtom.TheSendSync as keys
use Rattle.store_parts.proofs.index.Index.TheSendSync as indexes
use Rattle.reshuffler_core.proofs.feeder.Feeder.TheSendSync as feeders
use Rattle.load_controller.proofs.controller.Controller.TheSendSync as controllers
use Rattle.pair_collector.proofs.collector.Collector.TheSendSync as collectors
use Rattle.theta_pred.specs.contracts.agree.Access as access
use Rattle.theta_pred.specs.contracts.theta.Theta as theta
use Rattle.store_parts.specs.contracts.half.Half as half
use Rattle.store_parts.specs.contracts.store.Store as store
use Rattle.joiner_core.specs.contracts.epochs.Opened as opened
use Rattle.joiner_core.specs.contracts.epochs.Epochs as epochs
use Rattle.joiner_core.specs.contracts.joiner.Joiner as joiner
use Rattle.actor_core.specs.contracts.machines.Core as core

-- part by part, since a `search` that goes down through a machine to its parts runs out of steps
module _ (theta_sync : IsSync theta.the_row) (access_send : IsSend access.the_row) where
  half_send : IsSend half.the_row
  half_send =
      search (sendable, declared_send, as_row_send, heap.crosses, indexes.the_send, tuples.the_send)
      depth 40 fits 20000

  store_send : IsSend store.the_row
  store_send =
      search (view_send, declared_send, variants_send, as_row_send, heap.crosses, keys.the_send, half_send)
      depth 40 fits 20000

  opened_send : IsSend opened.the_row
  opened_send = search (sendable, declared_send, as_row_send, heap.crosses, store_send) depth 40 fits 20000

  epochs_send : (κ : _) → IsSend (epochs.the_row κ)
  epochs_send κ = search (sendable, heap.crosses, store_send, opened_send) depth 40 fits 20000

  joiner_send : (κ : _) → IsSend (joiner.the_row κ)
  joiner_send κ = search (sendable, heap.crosses, epochs_send, helds.the_send, messages.the_send) depth 40 fits 20000

  -- a machine may be sent
  pub core_send : (κ : _) → IsSend (core.the_field κ).row
  core_send κ = search (sendable, feeders.the_send, joiner_send, controllers.the_send, collectors.the_send) depth 40
