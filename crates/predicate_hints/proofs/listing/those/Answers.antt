use Rattle.predicate_hints.specs.declared.kinds.Expected.TheVariants.{Column}
use Rattle.predicate_hints.specs.Listing.{CanStand}
use Rattle.predicate_hints.proofs.Those.{all_found, none_more, one_more}
use Rattle.predicate_hints.proofs.listing.those.Goals as goal
use Rattle.predicate_hints.proofs.listing.those.Goals.{then-branch+in_ok-push, else-branch}

pub loop-kind-preserved : goal.loop-kind-preserved
loop-kind-preserved c = elim c.if-branch.branch [
  | then-branch+in_ok-push w ↦
      rw (w.found-is, w.in_ok-push.ensures.items)
      (one_more (CanStand c.args.text.now c.args.place) c.args.kinds.now c.loop-kind.found.items
      c.loop-kind.kind-index Column c.loop-kind-test.true c.loop-kind.invariant
      (c.in_ok-can_stand.ensures.0 w.if-branch.true))
  | else-branch w ↦
      rw w.found-is
      (none_more (CanStand c.args.text.now c.args.place) c.args.kinds.now c.loop-kind.found.items
      c.loop-kind.kind-index Column c.loop-kind-test.true c.loop-kind.invariant
      (λ can. absurd (let e = c.in_ok-can_stand.ensures.1 can in let f = w.if-branch.false in cc)))
]

pub returns : goal.returns
returns c =
    all_found (CanStand c.args.text.now c.args.place) c.args.kinds.now c.loop-kind.found.items c.loop-kind.kind-index
    c.loop-kind-test.false c.loop-kind.invariant
