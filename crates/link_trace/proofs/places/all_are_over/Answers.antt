use Rattle.std.proofs.Common.{◌≡◌, ◌<◌, sym, subst, length, slice_index_or, inl, inr, arith}
use Rattle.std.proofs.lemmas.Bool.{cases_eq}
use Rattle.std.proofs.lemmas.List.{length-map}
use Rattle.std.proofs.lemmas.Option.{slice_get_within}
use Rattle.actor_core.specs.Standing.{IsOver}
use Rattle.link_trace.specs.Worlds.{cores_of}
use Rattle.link_trace.proofs.Changed.{core_there}
use Rattle.link_trace.proofs.places.all_are_over.Goals as goal

pub loop-place-preserved : goal.loop-place-preserved
loop-place-preserved c n core low is = elim (cases_eq n c.loop-place.place-index) [
  | inl here ↦
      let place = c.place-item.result in
      subst IsOver (core_there c.args.places.now n place core
      (subst (λ z. z < length c.args.places.now) (sym here) c.loop-place-test.true)
      (subst (λ z. place ≡ slice_index_or c.args.places.now z place) (sym here) c.place-item.is) is)
      (c.is_over.ensures.over c.if-not-is_over.false)
  | inr other ↦ c.loop-place.invariant n core (omega arith) is
]

pub returns-clause-over : goal.returns-clause-over
returns-clause-over c same n core is =
    let within = slice_get_within (cores_of c.args.places.now) n core is in
    let long = length-map c.args.places.now (λ place. place.core) in
    let end = c.loop-place-test.false in
    c.loop-place.invariant n core (omega arith) is
