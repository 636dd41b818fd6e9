use Rattle.std.proofs.Common.{rules}
use Rattle.store_parts.specs.Keyed.{is_key_true}
use Rattle.store_parts.proofs.KeyProbes.{seen}
use Rattle.store_parts.proofs.probe.by_key.find_keyed.Goals as goal

pub returns-clause-looks : goal.returns-clause-looks
returns-clause-looks g c =
    let count = seen (is_key_true c.args.key.now c.args.query.now.tuple.now)
    c.args.others.now.tuples c.in_ok-places.places
    c.in_ok-places.ensures.keyed c.in_ok-places.ensures.below in
    search (rules, count)
