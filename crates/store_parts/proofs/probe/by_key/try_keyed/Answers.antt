use Rattle.std.proofs.Common.{◌≡◌, ◌++◌, ◌+◌, ◌∙◌, List, ℕ, ap, subst, count_by}
use Rattle.std.specs.Result.{OnOk, OnErr}
use Rattle.epoch_tags.specs.declared.tuple.Pair.{Pair}
use Rattle.store_parts.specs.Matches.{matches, is_named, AppendsFront}
use Rattle.store_parts.proofs.KeyProbes.{matches_by_key, count_by_key}
use Rattle.store_parts.proofs.probe.by_key.try_keyed.Goals as goal

pub returns-clause-ok : goal.returns-clause-ok
returns-clause-ok g c =
    let at = c.requires.keyed in
    let found = ap (matches c.args.query.now.theta.now c.args.query.now.tuple.now c.args.query.now.which) at
    ∙ matches_by_key c.args.query.now.theta.now c.args.key.now c.args.query.now.tuple.now c.args.query.now.which
    c.args.others.now
    c.key_law.ensures c.requires.own in
    let P : List Pair → Type 0 = λ pairs. OnOk c.try_places.result (c.try_places.new.found ≡ c.args.found.now
    ++ pairs) in
    subst P found c.try_places.ensures.ok

pub returns-clause-err : goal.returns-clause-err
returns-clause-err g c =
    let at = c.requires.keyed in
    let found = ap (matches c.args.query.now.theta.now c.args.query.now.tuple.now c.args.query.now.which) at
    ∙ matches_by_key c.args.query.now.theta.now c.args.key.now c.args.query.now.tuple.now c.args.query.now.which
    c.args.others.now
    c.key_law.ensures c.requires.own in
    let P : List Pair → Type 0 = λ pairs. OnErr c.try_places.result
    (AppendsFront c.args.found.now c.try_places.new.found pairs) in
    subst P found c.try_places.ensures.err

pub returns-clause-steps : goal.returns-clause-steps
returns-clause-steps g c =
    let at = c.requires.keyed in
    let counted = ap (count_by (is_named c.args.query.now.which)) at
    ∙ count_by_key c.args.key.now c.args.query.now.tuple.now c.args.query.now.which
    c.args.others.now in
    let P : ℕ → Type 0 = λ n. OnOk c.try_places.result (c.try_places.new.steps ≡ c.args.steps.now + n) in
    subst P counted c.try_places.ensures.steps
