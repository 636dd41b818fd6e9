use Rattle.std.proofs.Common.{refl, ap, ◌∙◌, ◌++◌, ◌∷◌, []}
use Rattle.load_controller.proofs.Fresh.{begins}
use Rattle.load_controller.proofs.ledger.Ledger.start_at.Goals as goal

pub returns : goal.returns
returns c =
    begins c.args.k c.args.feeders c.args.fixed c.args.weights c.args.line _ c.requires.k c.requires.weights
    c.requires.fits c.requires.cause c.requires.epoch
    refl refl refl refl refl
    (c.journal.view_is ∙ c.in_ok-push.ensures.ok ∙ ap (λ lines. lines ++ c.args.line ∷ []) c.new-journal.ensures)
    refl refl
    c.in_ok-all_down.ensures.count c.in_ok-all_down.ensures.down
    (c.in_ok-all_down-2.ensures.count ∙ c.joiners-joiners.ensures) c.in_ok-all_down-2.ensures.down
    (c.in_ok-start.ensures.count ∙ c.joiners-joiners.ensures) c.in_ok-start.ensures.empty
