use Rattle.std.proofs.Common.{◌≡◌, ◌++◌, ◌+◌, List, ℕ, subst}
use Rattle.std.specs.Result.{OnOk, OnErr}
use Rattle.epoch_tags.specs.declared.tuple.Pair.{Pair}
use Rattle.store_parts.specs.Matches.{AppendsFront}
use Rattle.store_parts.proofs.KeyProbes.{matches_by_key, count_by_key}
use Rattle.store_parts.proofs.probe.by_key.sift.Goals as goal

pub returns-clause-ok : goal.returns-clause-ok
returns-clause-ok g c =
    let found = matches_by_key c.args.query.now.theta.now c.args.key.now c.args.query.now.tuple.now
    c.args.query.now.which
    c.args.others.now
    c.key_law.ensures c.requires.own in
    let P : List Pair → Type 0 = λ pairs. OnOk c.sift_each.result (c.sift_each.new.found ≡ c.args.found.now ++ pairs) in
    subst P found c.sift_each.ensures.ok

pub returns-clause-err : goal.returns-clause-err
returns-clause-err g c =
    let found = matches_by_key c.args.query.now.theta.now c.args.key.now c.args.query.now.tuple.now
    c.args.query.now.which
    c.args.others.now
    c.key_law.ensures c.requires.own in
    let P : List Pair → Type 0 = λ pairs. OnErr c.sift_each.result
    (AppendsFront c.args.found.now c.sift_each.new.found pairs) in
    subst P found c.sift_each.ensures.err

pub returns-clause-steps : goal.returns-clause-steps
returns-clause-steps g c =
    let counted = count_by_key c.args.key.now c.args.query.now.tuple.now c.args.query.now.which c.args.others.now in
    let P : ℕ → Type 0 = λ n. OnOk c.sift_each.result (c.sift_each.new.steps ≡ c.args.steps.now + n) in
    subst P counted c.sift_each.ensures.steps
