use Rattle.std.proofs.Common.{◌<◌, ◌∙◌, length, subst, sym}
use Rattle.std.proofs.lemmas.Result.{on_ok_weaker}
use Rattle.link_trace.proofs.Changed.{puts_on, row, same_cores}
use Rattle.link_trace.proofs.Squares.{places_by_waiting}
use Rattle.link_trace.proofs.places.put.Goals as goal

pub index_mut-requires : goal.index_mut-requires
index_mut-requires c =
    let places = c.args.places.now in
    subst (λ n. c.args.receiver < n) (places_by_waiting places.items ∙ sym places.ok.0) c.requires.receiver_is

pub push-requires : goal.push-requires
push-requires c =
    let places = c.args.places.now.items in
    let low = subst (λ n. c.args.receiver < n) (places_by_waiting places) c.requires.receiver_is in
    subst (λ queues. c.args.sender < length queues)
    (row places c.args.receiver c.index_mut.result.now c.index_mut.result.now c.index_mut.ensures.value low)
    c.requires.sender_is

pub returns-clause-cores : goal.returns-clause-cores
returns-clause-cores c =
    let places = c.args.places.now.items in
    let low = subst (λ n. c.args.receiver < n) (places_by_waiting places) c.requires.receiver_is in
    same_cores places c.args.receiver c.index_mut.result.now c.push.new.self c.index_mut.ensures.value low
    c.push.ensures.core

pub returns-clause-waiting : goal.returns-clause-waiting
returns-clause-waiting c =
    let places = c.args.places.now.items in
    let low = subst (λ n. c.args.receiver < n) (places_by_waiting places) c.requires.receiver_is in
    on_ok_weaker c.push.result
    (puts_on places c.args.receiver c.index_mut.result.now c.push.new.self c.index_mut.ensures.value low
    c.args.sender c.args.msg c.requires)
    c.push.ensures.waiting
