use Rattle.predicate_hints.proofs.Readings.{follows}
use Rattle.predicate_hints.proofs.follow.may_follow.Goals as goal

pub returns : goal.returns
returns c =
    follows c.args.text.now c.args.token.now c.in-Some.front.now c.as_str.result.now c.args.place c.stands.result
    c.in-Some.ensures.0 c.in-Some.ensures.1 (rw c.as_str.ensures.value c.in_ok-both.ensures) c.stands.ensures
