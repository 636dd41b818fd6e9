use Rattle.std.proofs.Common.{◌<◌, ◌∙◌, subst}
use Rattle.link_trace.proofs.Changed.{takes_off, same_cores}
use Rattle.link_trace.proofs.places.take.Goals as goal

pub returns-then-receiver-len-clause-cores : goal.returns-then-receiver-len-clause-cores
returns-then-receiver-len-clause-cores c =
    let places = c.args.places.now in
    let low = subst (λ n. c.args.receiver < n) (c.len.ensures ∙ places.ok.0) c.if-receiver-len.true in
    same_cores places.items c.args.receiver c.index_mut.result.now c.pop.new.self c.index_mut.ensures.value low
    c.pop.ensures.core

pub returns-then-receiver-len-clause-waiting : goal.returns-then-receiver-len-clause-waiting
returns-then-receiver-len-clause-waiting c =
    let places = c.args.places.now in
    let low = subst (λ n. c.args.receiver < n) (c.len.ensures ∙ places.ok.0) c.if-receiver-len.true in
    takes_off places.items c.args.receiver c.index_mut.result.now c.pop.new.self c.index_mut.ensures.value low
    c.args.sender c.pop.result c.pop.ensures.waiting
