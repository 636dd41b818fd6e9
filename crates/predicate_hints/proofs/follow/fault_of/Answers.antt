use Rattle.std.proofs.Common.{None, Some, sym, subst}
use Rattle.predicate_hints.specs.Follow.{IsReading}
use Rattle.predicate_hints.proofs.Readings.{reading}
use Rattle.predicate_hints.proofs.follow.fault_of.Goals as goal

pub returns-in-None : goal.returns-in-None
returns-in-None c =
    let told = c.parse.ensures in
    reading c.args.text.now c.parse.result told.ok told.only told.syntax told.deep told.wide told.literal told.exact
    None c.in-None.ensures.value (λ e. absurd (cc))

pub returns-in_ok-of_text-in-Some : goal.returns-in_ok-of_text-in-Some
returns-in_ok-of_text-in-Some c =
    let told = c.parse.ensures in
    subst (λ fault. IsReading c.args.text.now (Some fault)) (sym c.in_ok-of_text-in-Some.ensures.0)
    (reading c.args.text.now c.parse.result told.ok told.only told.syntax told.deep told.wide told.literal told.exact
    (Some c.in-Some.fault) c.in-Some.ensures.value (λ e. c.in_ok-of_text-in-Some.ensures.1 (cc)))
