use Rattle.clap.specs.Walk.{rule_of}
use Rattle.std.proofs.Common.{refl}
use Rattle.join_words.proofs.Arguments.{one_more}
use Rattle.join_words.proofs.syntax.add.Goals as goal

pub returns : goal.returns
returns c before have local =
    one_more before c.args.args.now.items c.push.new.self.items c.args.arg (rule_of c.args.arg) have
    c.in_ok-push.ensures.items local refl
