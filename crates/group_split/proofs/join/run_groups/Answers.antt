use Rattle.std.proofs.Common.{◌<◌, ◌^◌, subst, sym, arith}
use Rattle.trace_law.specs.Family.{first_rest}
use Rattle.group_split.specs.Groups.{AreGroups}
use Rattle.group_split.proofs.Together.{all_groups, all_pairs, ordered_pairs}
use Rattle.group_split.proofs.join.run_groups.Goals as goal

pub returns-clause-pairs : goal.returns-clause-pairs
returns-clause-pairs g c =
    let input = c.args.input.now in
    let setting = c.args.setting.now in
    let found = c.in_ok-found.found in
    let valid = c.limits_suffice.ensures input setting c.requires.input c.requires.setting in
    let few : c.args.joiners < 2 ^ 7 = omega arith in
    let same =
    all_pairs input c.args.joiners c.args.numbers.now setting found few c.requires.below c.requires.many
    c.in_ok-found.ensures in
    ordered_pairs input (first_rest setting).line found.pairs c.in_ok-all.all.pairs c.sorts_into_the_loop.ensures
    (c.begins_with_all.ensures input setting valid).1 same c.in_ok-all.ensures.permutation c.in_ok-all.ensures.order

pub returns-clause-groups : goal.returns-clause-groups
returns-clause-groups g c =
    let input = c.args.input.now in
    let joiners = c.args.joiners in
    let numbers = c.args.numbers.now in
    let setting = c.args.setting.now in
    let found = c.in_ok-found.found in
    let groups = all_groups input joiners numbers setting found c.in_ok-found.ensures in
    subst (λ runs. AreGroups input joiners numbers setting runs c.in_ok-all.all.trail) (sym c.in_ok-all.ensures.runs)
    (subst (AreGroups input joiners numbers setting found.runs) (sym c.in_ok-all.ensures.trail) groups)
