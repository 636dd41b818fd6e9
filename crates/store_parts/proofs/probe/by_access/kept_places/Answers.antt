use Rattle.std.proofs.Common.{◌≡◌, ◌∙◌, List, ap, filter, subst, sym}
use Rattle.std.specs.Prelude.{IfOk}
use Rattle.epoch_tags.specs.declared.tuple.Tuple.{Tuple}
use Rattle.store_parts.specs.Keyed.{at_places}
use Rattle.store_parts.specs.Accessed.{is_admitted}
use Rattle.store_parts.proofs.AccessProbes.{admitted_of_stands}
use Rattle.store_parts.proofs.ExactNumbers.{exact_kept}
use Rattle.store_parts.proofs.probe.by_access.kept_places.Goals as goal

pub returns-clause-same : goal.returns-clause-same
returns-clause-same c =
    let others = c.args.others.now in
    let test = is_admitted c.args.access.now c.args.tuple.now in
    let P : List Tuple → Type 0 = λ ts. IfOk c.places_of_admitted-kept.result (λ kept. at_places others kept ≡ ts) in
    let stood = ap (at_places others) c.as_slice.ensures ∙ c.requires.stands in
    subst P (ap (filter test) stood ∙ admitted_of_stands c.args.access.now c.args.tuple.now others)
    c.places_of_admitted-kept.ensures.same

pub returns-then-is_exact-clause-same : goal.returns-then-is_exact-clause-same
returns-then-is_exact-clause-same c =
    c.requires.stands
    ∙ exact_kept c.args.access.now c.args.tuple.now c.args.others.now (sym c.is_exact.ensures ∙ c.if-is_exact.true)
