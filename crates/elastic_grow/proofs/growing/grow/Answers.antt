use Rattle.std.proofs.Common.{◌+◌, ◌^◌, List, subst}
use Rattle.store_parts.specs.Stored.{Stored}
use Rattle.elastic_grow.specs.Growth.{AreOfParents}
use Rattle.elastic_grow.proofs.Growth.{grown_stands}
use Rattle.elastic_grow.proofs.Kept.{are_copies, keep_order}
use Rattle.elastic_grow.proofs.growing.grow.Goals as goal

pub returns-clause-copies : goal.returns-clause-copies
returns-clause-copies c is =
    let rest = c.args.rest in
    let stores = c.in_ok-stores.stores in
    are_copies rest.k rest.line.shift rest.stores stores c.requires.shift c.requires.k c.requires.many
    (subst (λ n. AreOfParents rest.k rest.line.shift n rest.stores stores) is
    (subst (λ (old : List Stored). AreOfParents rest.k rest.line.shift c.grown_line-line.result.shift old stores)
    c.as_slice.ensures (c.in_ok-stores.ensures.parts is)))

pub returns-clause-order : goal.returns-clause-order
returns-clause-order c differs =
    let one = c.in_ok-stores.ensures.anew differs in
    keep_order (record { k = c.args.rest.k + 2; shift = c.grown_line-line.result.shift }) (2 ^ (c.args.rest.k + 2))
    one.whole c.in_ok-stores.stores one.is_whole.order one.parts

pub returns-clause-stands : goal.returns-clause-stands
returns-clause-stands c input setting free same stands =
    grown_stands input setting c.args.rest c.args.weights stands c.requires.k c.requires.shift free same
    c.args.theta.now c.grown_line-line.result c.as_slice.result.now c.in_ok-stores.stores
    c.grown_line-line.ensures.line c.as_slice.ensures c.requires.keys
    c.in_ok-stores.ensures.parts c.in_ok-stores.ensures.anew
