use Rattle.std.proofs.Common.{length}
use Rattle.trace_law.specs.Family.{first_rest}
use Rattle.group_split.proofs.Together.{run_pairs_there}
use Rattle.group_split.proofs.join.run_part.Goals as goal

pub add_told-requires-clause-there : goal.add_told-requires-clause-there
add_told-requires-clause-there g c =
    let input = c.args.group_input.now in
    let setting = c.args.setting.now in
    let valid = c.limits_suffice.ensures input setting c.requires.input c.requires.setting in
    run_pairs_there input (first_rest setting).line c.in_ok-told.told.run.pairs (length c.args.indices.now)
    c.in_ok-told.ensures.run.pairs (c.begins_with_all.ensures input setting valid).1 c.requires.rows
