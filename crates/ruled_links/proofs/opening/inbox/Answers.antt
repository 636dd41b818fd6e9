use Rattle.std.proofs.Common.{◌≡◌, false, List, get_or, map, take, sym, ap, ◌∙◌, subst}
use Rattle.epoch_tags.specs.declared.actor.Actor.{Actor}
use Rattle.epoch_tags.specs.declared.actor.Actor.TheVariants.{Feeder}
use Rattle.ruled_links.specs.Inboxes.{OfSender, Differ, is_sender, fresh}
use Rattle.ruled_links.proofs.PartsLemmas.{not_before}
use Rattle.ruled_links.proofs.opening.inbox.Goals as goal

pub open-requires-clause-new : goal.open-requires-clause-new
open-requires-clause-new c = let all = c.as_slice-from-items.result.now in let i = c.loop-from.from-index in
    let a : Actor = get_or all i (Feeder 0) in
    let is : all ≡ c.args.senders.now = c.as_slice-from-items.ensures in
    let before : c.loop-from.inbox.senders ≡ map fresh (take i all) =
    c.loop-from.invariant.senders ∙ ap (λ (xs : List Actor). map fresh (take i xs)) (sym is) in
    subst (λ (ss : List OfSender). is_sender a ss ≡ false) (sym before)
    (not_before all i (Feeder 0) (subst (λ (xs : List Actor). Differ xs) (sym is) c.requires) c.loop-from-test.true)
