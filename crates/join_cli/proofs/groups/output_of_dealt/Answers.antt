use Rattle.group_split.specs.Sizes.{digits}
use Rattle.join_words.specs.Words.{asked}
use Rattle.join_cli.proofs.Made.{groups_made}
use Rattle.join_cli.proofs.Reports.{runs_of_groups}
use Rattle.join_cli.proofs.groups.output_of_dealt.Goals as goal

pub text_of_groups-text-requires-clause-runs : goal.text_of_groups-text-requires-clause-runs
text_of_groups-text-requires-clause-runs g c =
    let dealt = c.args.dealt.now in
    let found = c.in_ok-pairs.field-0 in
    rw c.as_slice-2.ensures
    (runs_of_groups dealt.work.input.now dealt.joiners dealt.numbers.now dealt.work.setting.now 0
    (digits dealt.joiners) found.runs found.trail c.in_ok-pairs.ensures.groups)

pub returns-in-Ok-journals_of : goal.returns-in-Ok-journals_of
returns-in-Ok-journals_of g c = λ planned is.
    let dealt = c.args.dealt.now in
    let found = c.in_ok-pairs.field-0 in
    rw c.in-Ok-journals_of.ensures
    (groups_made (asked c.args.options.now) planned dealt.work dealt.joiners dealt.numbers.now found
    c.in-Ok.text c.requires.kind is c.requires.work c.requires.numbers
    c.in_ok-pairs.ensures.groups (rw c.as_slice-2.ensures at c.in-Ok.ensures))
