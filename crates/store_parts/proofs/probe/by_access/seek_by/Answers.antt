use Rattle.std.proofs.Common.{rules, ◌≡◌, ◌++◌, ◌+◌, ◌∙◌, List, ℕ, ap, sym, subst, count_by, filter}
use Rattle.std.specs.Result.{OnOk, OnErr}
use Rattle.epoch_tags.specs.declared.tuple.Pair.{Pair}
use Rattle.theta_pred.specs.Accesses.{terms_of}
use Rattle.store_parts.specs.Accessed.{is_admitted}
use Rattle.store_parts.specs.Keyed.{at_places}
use Rattle.store_parts.specs.Matches.{matches, is_named, AppendsFront, DoMatch}
use Rattle.store_parts.specs.Evaluated.{does_stand}
use Rattle.store_parts.proofs.AccessProbes.{admitted_match, matches_by_access, count_by_access}
use Rattle.store_parts.proofs.KeyProbes.{seen}
use Rattle.store_parts.proofs.probe.by_access.seek_by.Goals as goal

pub try_places-requires-clause-sure : goal.try_places-requires-clause-sure
try_places-requires-clause-sure g c = λ is.
    let kept = c.in_ok-kept.ensures.same
    ∙ ap (filter (is_admitted c.args.access.now c.args.query.now.tuple.now)) c.as_slice-tuples.ensures in
    let at = ap (at_places c.as_slice-tuples.result.now) c.as_slice-2.ensures ∙ kept in
    subst (DoMatch c.args.query.now.theta.now c.args.query.now.tuple.now) (sym at)
    (admitted_match c.args.query.now.theta.now c.args.access.now c.args.query.now.tuple.now c.args.others.now.tuples
    (c.suffice_law.ensures (terms_of c.args.access.now) (sym c.agreements_suffice-sure.ensures ∙ is) c.requires.own))

pub returns-clause-ok : goal.returns-clause-ok
returns-clause-ok g c =
    let kept = c.in_ok-kept.ensures.same
    ∙ ap (filter (is_admitted c.args.access.now c.args.query.now.tuple.now)) c.as_slice-tuples.ensures in
    let at = ap (at_places c.as_slice-tuples.result.now) c.as_slice-2.ensures ∙ kept in
    let found = ap (matches c.args.query.now.theta.now c.args.query.now.tuple.now c.args.query.now.which) at
    ∙ matches_by_access c.args.query.now.theta.now c.args.access.now c.args.query.now.tuple.now c.args.query.now.which
    c.args.others.now.tuples
    (c.access_law.ensures (terms_of c.args.access.now) c.requires.own) in
    let P : List Pair → Type 0 = λ pairs. OnOk c.try_places.result (c.try_places.new.found ≡ c.args.found.now
    ++ pairs) in
    subst P found c.try_places.ensures.ok

pub returns-clause-err : goal.returns-clause-err
returns-clause-err g c =
    let kept = c.in_ok-kept.ensures.same
    ∙ ap (filter (is_admitted c.args.access.now c.args.query.now.tuple.now)) c.as_slice-tuples.ensures in
    let at = ap (at_places c.as_slice-tuples.result.now) c.as_slice-2.ensures ∙ kept in
    let found = ap (matches c.args.query.now.theta.now c.args.query.now.tuple.now c.args.query.now.which) at
    ∙ matches_by_access c.args.query.now.theta.now c.args.access.now c.args.query.now.tuple.now c.args.query.now.which
    c.args.others.now.tuples
    (c.access_law.ensures (terms_of c.args.access.now) c.requires.own) in
    let P : List Pair → Type 0 = λ pairs. OnErr c.try_places.result
    (AppendsFront c.args.found.now c.try_places.new.found pairs) in
    subst P found c.try_places.ensures.err

pub returns-clause-steps : goal.returns-clause-steps
returns-clause-steps g c =
    let kept = c.in_ok-kept.ensures.same
    ∙ ap (filter (is_admitted c.args.access.now c.args.query.now.tuple.now)) c.as_slice-tuples.ensures in
    let at = ap (at_places c.as_slice-tuples.result.now) c.as_slice-2.ensures ∙ kept in
    let counted = ap (count_by (is_named c.args.query.now.which)) at
    ∙ count_by_access c.args.access.now c.args.query.now.tuple.now
    c.args.query.now.which c.args.others.now.tuples in
    let P : ℕ → Type 0 = λ n. OnOk c.try_places.result (c.try_places.new.steps ≡ c.args.steps.now + n) in
    subst P counted c.try_places.ensures.steps

pub returns-clause-looks : goal.returns-clause-looks
returns-clause-looks g c =
    let count = seen (does_stand c.args.access.now c.args.query.now.tuple.now)
    c.args.others.now.tuples c.in_ok-places.places
    c.in_ok-places.ensures.stands c.in_ok-places.ensures.below in
    search (rules, count)
