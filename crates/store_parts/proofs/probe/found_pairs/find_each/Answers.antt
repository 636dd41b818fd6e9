use Rattle.std.proofs.Common.{rules}
use Rattle.store_parts.proofs.KeyProbes.{all_seen}
use Rattle.store_parts.proofs.probe.found_pairs.find_each.Goals as goal

pub returns-clause-looks : goal.returns-clause-looks
returns-clause-looks g c =
    let count = all_seen c.args.query.now.tuple.now c.args.others.now in
    search (rules, count)
