use Rattle.std.proofs.Common.{refl}
use Rattle.join_plan.proofs.HeaderLemmas.{joined_table}
use Rattle.join_plan.proofs.continued.joined.Goals as goal

pub returns-clause-whole : goal.returns-clause-whole
returns-clause-whole c =
    joined_table c.args.first c.args.more (record { names = c.args.first.names; rows = c.in_ok-rows.rows })
    c.requires.first c.requires.more c.requires.same refl c.in_ok-rows.ensures c.requires.few
