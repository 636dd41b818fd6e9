use Rattle.std.proofs.Common.{◌∙◌, sym, ap, rules}
use Rattle.std.proofs.lemmas.Int.{to_z-of_z}
use mir.Val.{SFits}
use mir.Syntax.{w128}
use Rattle.store_parts.specs.Keyed.{at_places}
use Rattle.store_parts.proofs.KeyProbes.{band_given, keyed_from_band, below_from_band, no_candidates}
use Rattle.store_parts.proofs.probe.by_key.candidates.Goals as goal

pub returns-in_default-clause-keyed : goal.returns-in_default-clause-keyed
returns-in_default-clause-keyed c =
    ap (at_places c.args.others.now.tuples) c.new.ensures
    ∙ sym (no_candidates c.args.key.now c.args.tuple.now c.args.others.now.tuples
    (sym c.value_of.ensures.value ∙ c.in_default.is))

pub returns-clause-keyed : goal.returns-clause-keyed
returns-clause-keyed c =
    let fits : SFits w128 c.in-Some.value = search rules in
    let given = band_given c.between.result (λ x. x) c.args.key.now c.args.tuple.now c.args.others.now.tuples
    c.args.others.now.index _ c.in-Some.value c.least.result c.greatest.result
    (to_z-of_z w128 c.in-Some.value fits) c.least.ensures c.greatest.ensures c.requires c.between.ensures in
    keyed_from_band c.between.result (λ x. x) c.args.key.now c.args.tuple.now c.args.others.now.tuples
    c.in-Some.value
    (sym c.value_of.ensures.value ∙ c.in-Some.is) given

pub returns-clause-below : goal.returns-clause-below
returns-clause-below c =
    let fits : SFits w128 c.in-Some.value = search rules in
    let given = band_given c.between.result (λ x. x) c.args.key.now c.args.tuple.now c.args.others.now.tuples
    c.args.others.now.index _ c.in-Some.value c.least.result c.greatest.result
    (to_z-of_z w128 c.in-Some.value fits) c.least.ensures c.greatest.ensures c.requires c.between.ensures in
    below_from_band c.between.result (λ x. x) c.args.key.now c.args.tuple.now c.args.others.now.tuples
    c.in-Some.value
    given
