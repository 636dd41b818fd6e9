use Rattle.elastic_grow.proofs.OneStore.{whole_is}
use Rattle.elastic_grow.proofs.whole.whole.Goals as goal

pub returns-in-Ok : goal.returns-in-Ok
returns-in-Ok c =
    whole_is c.args.theta.now c.args.k c.args.shift c.args.stores.now c.in_ok-store.store c.add_all.new.store
    c.in_ok-all.all c.by_index.result.items c.in_ok-store.ensures.empty c.in_ok-store.ensures.key
    c.in_ok-all.ensures c.by_index.ensures.permutation c.by_index.ensures.order c.in-Ok.ensures
