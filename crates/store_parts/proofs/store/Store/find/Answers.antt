use Rattle.std.proofs.Common.{◌≡◌, ◌+◌, ℕ, Some, subst, rules}
use Rattle.std.specs.Result.{OnOk}
use Rattle.store_parts.specs.Matches.{other_side}
use Rattle.store_parts.specs.Stored.{others_of}
use Rattle.store_parts.proofs.AccessProbes.{index_of_access, looked_is, stood_is}
use Rattle.store_parts.proofs.store.Store.find.Goals as goal

pub seek_by-requires-clause-index : goal.seek_by-requires-clause-index
seek_by-requires-clause-index g c =
    let is : c.args.self.now.access ≡ Some c.in-Some-default.access = search rules in
    index_of_access c.args.self.now.key c.args.self.now.access c.in-Some-default.access
    (other_side c.args.tuple.now.side) c.others-others.result.now.tuples c.others-others.result.now.index is
    c.others-others.ensures.indexed.index

pub returns-in-Some-default-clause-steps : goal.returns-in-Some-default-clause-steps
returns-in-Some-default-clause-steps g c =
    let is : c.args.self.now.access ≡ Some c.in-Some-default.access = search rules in
    let count = looked_is c.args.self.now.key c.args.self.now.access c.in-Some-default.access c.args.tuple.now
    c.args.which (others_of c.args.self.now c.args.tuple.now)
    c.others-others.result.now.tuples is c.others-others.ensures.tuples in
    let P : ℕ → Type 0 = λ n. OnOk c.seek_by.result (c.seek_by.new.steps ≡ c.args.steps.now + n) in
    subst P count c.seek_by.ensures.steps

pub returns-in-Some-default-clause-looks : goal.returns-in-Some-default-clause-looks
returns-in-Some-default-clause-looks g c =
    let is : c.args.self.now.access ≡ Some c.in-Some-default.access = search rules in
    let count = stood_is c.args.self.now.key c.args.self.now.access c.in-Some-default.access c.args.tuple.now
    (others_of c.args.self.now c.args.tuple.now) c.others-others.result.now.tuples is c.others-others.ensures.tuples in
    let P : ℕ → Type 0 = λ n. OnOk c.seek_by.result (c.seek_by.new.looks ≡ c.args.looks.now + n) in
    subst P count c.seek_by.ensures.looks
