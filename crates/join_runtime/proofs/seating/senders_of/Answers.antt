use Rattle.std.proofs.Common.{◌≡◌, ◌<◌, ◌∙◌, Some, ap, arith, subst, sym, true≢false}
use Rattle.actor_core.specs.Numbers.{count_of, number}
use Rattle.join_runtime.specs.Seating.{AreBelow}
use Rattle.join_runtime.proofs.InboxSenders.{below_more, below_none, below_push, linked_more, linked_none, linked_push}
use Rattle.join_runtime.proofs.seating.senders_of.Goals.{then-has_link+in_ok-push, else-has_link}
use Rattle.join_runtime.proofs.seating.senders_of.Goals as goal
use Rattle.actor_core.proofs.OwnNumbers.{number_there}

pub loop-n-init : goal.loop-n-init
loop-n-init c =
    rw c.new-senders.ensures
    (record {
      numbers = below_none c.args.cast;
      links = linked_none c.args.cast c.args.to;
    })

pub loop-n-preserved : goal.loop-n-preserved
loop-n-preserved c =
    let cast = c.args.cast in
    let n = c.loop-n.n in
    let from = c.actor_at-from.result in
    let low : n < count_of cast = omega arith in
    let is : number cast from ≡ Some n = ap (number cast) c.actor_at-from.ensures
    ∙ number_there cast n low in
    let before = c.loop-n.invariant in
    elim c.if-has_link.branch [
      | then-has_link+in_ok-push w ↦
          rw (w.senders-is, w.in_ok-push.ensures.ok)
          (record {
            numbers = below_push cast n c.loop-n.senders from is before.numbers;
            links = linked_push cast n c.args.to from c.loop-n.senders is
                (λ k grid. (c.has_link.ensures k grid).0 w.if-has_link.true) before.links;
          })
      | else-has_link w ↦
          rw w.senders-is
          (record {
            numbers = below_more cast n c.loop-n.senders before.numbers;
            links = linked_more cast n c.args.to from c.loop-n.senders is
                (λ k grid link. true≢false (sym ((c.has_link.ensures k grid).1 link) ∙ w.if-has_link.false))
                before.links;
          })
    ]

pub returns-clause-numbers : goal.returns-clause-numbers
returns-clause-numbers c =
    let end : c.loop-n.n ≡ c.args.count = omega arith in
    subst (λ n. AreBelow c.args.cast n c.loop-n.senders) end c.loop-n.invariant.numbers
