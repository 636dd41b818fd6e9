use Rattle.std.proofs.Common.{◌≡◌, ◌++◌, ◌∷◌, [], true, false, sym, ap, ◌∙◌, subst}
use Rattle.reshuffler_core.specs.Standing.{FeederState, TakesMessage}
use Rattle.reshuffler_core.specs.Machine.{Advances}
use Rattle.reshuffler_core.proofs.WholeCalls.{takes_message}
use Rattle.reshuffler_core.proofs.feeder.Feeder.on.Goals as goal

pub returns-clause-takes : goal.returns-clause-takes
returns-clause-takes c =
    let old = c.args.self.now in
    let m = c.args.m in
    let held : c.hold.new.self ≡ record old { held = old.held ++ m ∷ []; spent = true } =
    c.in_ok-hold.ensures.held ∙ ap (λ (s : FeederState). record s { held = s.held ++ m ∷ []; spent = true })
    c.self.view_is in
    let went = subst (λ (s : FeederState). Advances s c.take_held.new.self c.args.sends.now c.take_held.new.sends)
    held c.in_ok-take_held.ensures.advances in
    subst (λ (s : FeederState). TakesMessage m old (record s { spent = false }) c.args.sends.now c.take_held.new.sends)
    (sym c.self-2.view_is)
    (takes_message old c.take_held.new.self m c.args.sends.now c.take_held.new.sends went
    c.in_ok-take_held.ensures.stuck)
