use Rattle.std.proofs.Common.{◌∙◌}
use Rattle.trace_law.proofs.First.{all_pairs}
use Rattle.join_cli.proofs.texts.text.Goals as goal

-- a run that begins with no rows has all pairs of the nested loop
pub answer-requires : goal.answer-requires
answer-requires c = c.as_slice.ensures ∙ c.requires.pairs
    ∙ all_pairs c.args.work.now.input.now c.args.work.now.setting.now
