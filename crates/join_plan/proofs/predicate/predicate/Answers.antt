use Rattle.join_plan.proofs.Parsed.{reads_err, reads_ok}
use Rattle.join_plan.proofs.Refusals.{text_refuses}
use Rattle.join_plan.proofs.predicate.predicate.Goals as goal

pub returns-in-Ok-clause-answer : goal.returns-in-Ok-clause-answer
returns-in-Ok-clause-answer c = λ reading reads.
    reads_ok c.args.text.now c.in-Ok.pred reading c.in-Ok.ensures.only c.in-Ok.ensures.exact reads

pub returns-in-Err-clause-answer : goal.returns-in-Err-clause-answer
returns-in-Err-clause-answer c = λ reading reads.
    rw c.text_refused.ensures
    (reads_err c.args.which c.args.text.now c.in-Err.fault reading c.in-Err.ensures.only c.in-Err.ensures.exact reads)

pub returns-in-Err-clause-refused : goal.returns-in-Err-clause-refused
returns-in-Err-clause-refused c = λ old new told spot asked is.
    rw c.text_refused.ensures
    (text_refuses c.args.which c.args.text.now c.in-Err.fault c.in-Err.ensures.syntax c.in-Err.ensures.deep
    c.in-Err.ensures.wide c.in-Err.ensures.literal old new told spot asked is)
