use Rattle.std.proofs.Common.{◌≡◌, ◌<◌, Some, subst, ap, length, arith}
use Rattle.std.specs.Prelude.{slice_get}
use Rattle.group_split.specs.Sizes.{digits}
use Rattle.group_split.specs.Parts.{part}
use Rattle.group_split.proofs.Together.{adds_part, join_more}
use Rattle.group_split.proofs.join.join_all.Goals as goal

pub loop-group-preserved : goal.loop-group-preserved
loop-group-preserved g c =
    let input = c.args.dealt.now.input.now in
    let joiners = c.args.dealt.now.joiners in
    let numbers = c.args.dealt.now.numbers.now in
    let group = c.loop-group.group in
    let old = c.loop-group.found in
    let new = c.run_part.new.found in
    let k = c.at.result.now in
    let places = c.requires.places in
    let here : slice_get (digits joiners) group ≡ Some k =
    subst (λ ds. slice_get ds group ≡ Some k) places c.at.ensures in
    let many = ap length places in
    let low : group < length (digits joiners) = omega arith in
    let given = c.in_ok-indices.ensures in
    record {
      part = record { indices = c.in_ok-indices.indices; is = given.input };
      joined = join_more input joiners numbers c.args.setting.now group k c.setting_at-its.result old new here low
          c.setting_at-its.ensures c.loop-group.invariant.joined
          (adds_part input c.setting_at-its.result (part joiners numbers group) c.in_ok-indices.indices
          c.give_part.new.group_input old new given.indices given.input c.in_ok-run_part.ensures);
    }
