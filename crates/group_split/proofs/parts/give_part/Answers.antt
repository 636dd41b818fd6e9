use Rattle.group_split.proofs.Together.{group_valid, indices_low, indices_small}
use Rattle.group_split.proofs.parts.give_part.Goals as goal

pub put_rows-requires-clause-low : goal.put_rows-requires-clause-low
put_rows-requires-clause-low c =
    let dealt = c.args.dealt.now in
    indices_low dealt.input.now dealt.joiners dealt.numbers.now c.requires.dealt.many c.args.group
    c.in_ok-indices.indices c.in_ok-indices.ensures

pub returns-clause-valid : goal.returns-clause-valid
returns-clause-valid c =
    let dealt = c.args.dealt.now in
    group_valid dealt.input.now dealt.joiners dealt.numbers.now c.requires.dealt.many c.args.group
    c.in_ok-indices.indices c.in_ok-indices.ensures c.put_rows.new.group_input c.requires.dealt.input
    c.in_ok-put_rows.ensures

pub returns-clause-small : goal.returns-clause-small
returns-clause-small c =
    let dealt = c.args.dealt.now in
    indices_small dealt.input.now dealt.joiners dealt.numbers.now c.requires.dealt.many c.args.group
    c.in_ok-indices.indices c.in_ok-indices.ensures c.requires.dealt.input
