use Rattle.join_words.specs.Words.{asked}
use Rattle.join_cli.proofs.Chained.{chain_halted, chain_made}
use Rattle.join_cli.proofs.chain.chain_output.Goals as goal

pub returns-in-Ok : goal.returns-in-Ok
returns-in-Ok g c planned is third_is =
    chain_made (asked c.args.options.now) planned c.args.work.now c.args.third c.in-Ok.chained.first
    c.in-Ok.chained.second c.in-Ok.chained.text c.in-Ok.chained.trail c.requires.kind is c.requires.work third_is
    c.in-Ok.ensures.chained.over c.in-Ok.ensures.chained.text

pub returns-in-Err : goal.returns-in-Err
returns-in-Err g c planned is third_is =
    chain_halted (asked c.args.options.now) planned c.args.work.now.input.now c.args.third c.in-Err.outcome is third_is
    c.in-Err.ensures.stopped
