use Rattle.std.proofs.Common.{◌≡◌, ◌++◌, ◌∷◌, [], true, false, sym, ap, ◌∙◌, subst}
use Rattle.std.proofs.lemmas.Bool.{false≢true}
use Rattle.reshuffler_core.specs.Standing.{FeederState, Begins, next_request, state_begun, to_controller}
use Rattle.reshuffler_core.specs.Machine.{Advances}
use Rattle.reshuffler_core.proofs.Requests.{begins, is_free}
use Rattle.reshuffler_core.proofs.feeder.Feeder.begin.Goals as goal

pub returns-clause-begins : goal.returns-clause-begins
returns-clause-begins c =
    let old = c.args.self.now in
    let state : c.request.new.self ≡ state_begun (record old { spent = true }) old.to_come =
    c.in_ok-request.ensures.state ∙ ap (λ (s : FeederState). state_begun (record s { spent = true }) s.to_come)
    c.self.view_is in
    let posts : c.request.new.sends ≡ c.args.sends.now ++ to_controller (next_request old.to_come) ∷ [] =
    c.in_ok-request.ensures.posts ∙ ap (λ (s : FeederState). c.args.sends.now ++ to_controller (next_request s.to_come)
    ∷ []) c.self.view_is in
    let went = subst (λ (s : FeederState). Advances s c.take_held.new.self c.request.new.sends c.take_held.new.sends)
    state c.in_ok-take_held.ensures.advances in
    let free = is_free old (λ waits. false≢true (sym c.if-is_waiting.false ∙ c.is_waiting.ensures.1 waits)) in
    λ same. subst (λ (s : FeederState). Begins old (record s { spent = false }) c.args.sends.now c.take_held.new.sends)
    (sym c.self-2.view_is)
    (begins old c.take_held.new.self c.args.sends.now c.request.new.sends c.take_held.new.sends free.0 free.1 posts went
    c.in_ok-take_held.ensures.stuck)
