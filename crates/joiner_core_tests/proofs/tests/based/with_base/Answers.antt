use Rattle.joiner_core_tests.proofs.tests.based.with_base.Goals as goal

pub start_at-requires-clause-base : goal.start_at-requires-clause-base
start_at-requires-clause-base c = c.in_ok-rows.ensures.stamps

pub start_at-requires-clause-rows : goal.start_at-requires-clause-rows
start_at-requires-clause-rows c = c.in_ok-rows.ensures.rows

pub start_at-requires-clause-key : goal.start_at-requires-clause-key
start_at-requires-clause-key c = c.in_ok-rows.ensures.key
