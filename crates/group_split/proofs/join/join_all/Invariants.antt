use Rattle.group_split.specs.Joining.{HasJoined}
use Rattle.group_split.specs.Parts.{IsPartOf}
use Rattle.group_split.proofs.join.join_all.Given as goal

abbrev pub invariant-loop-group : goal.invariant-loop-group
invariant-loop-group g l = record {
  part : IsPartOf l.dealt.input.now l.group_input;
  joined : HasJoined l.dealt.input.now l.dealt.joiners l.dealt.numbers.now l.setting l.group l.found;
}
