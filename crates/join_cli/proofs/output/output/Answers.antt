use Rattle.std.proofs.Common.{refl, sym}
use Rattle.join_cli.proofs.Chained.{third_over}
use Rattle.join_cli.proofs.EndsAhead.{few_ends}
use Rattle.join_cli.proofs.output.output.Goals as goal

pub output_over-made-requires-clause-third : goal.output_over-made-requires-clause-third
output_over-made-requires-clause-third g c lifetimes within = record {
  there = c.requires.there;
  over = third_over c.args.options.now.seed c.args.planned c.in-Ok.input c.in-Ok.ensures.is c.requires.fit;
}

pub output_over-made-requires-clause-ends : goal.output_over-made-requires-clause-ends
output_over-made-requires-clause-ends g c lifetimes within =
    rw c.as_slice.ensures
    (few_ends c.args.options.now.seed c.args.planned c.in-Ok.input c.in-Ok.ensures.is c.requires.fit.ends)

pub returns-in-Ok : goal.returns-in-Ok
returns-in-Ok g c = c.output_over-made.ensures c.args.planned c.in-Ok.ensures.is (sym c.as_slice.ensures) refl
