use Rattle.std.proofs.Common.{◌++◌, ◌∷◌, [], codes, subst}
use Rattle.join_words.specs.Command.{HaveRules, output_rules, flag_rule, number_rule}
use Rattle.join_words.proofs.Arguments.{five}
use Rattle.join_words.proofs.syntax.add_output.Goals as goal

pub returns : goal.returns
returns c before have =
    let r1 = number_rule (codes "replay") 0 18446744073709551615 in
    let r2 = number_rule (codes "make") 1 65536 in
    let r3 = flag_rule (codes "early") in
    let r4 = flag_rule (codes "report") in
    let r5 = flag_rule (codes "rows") in
    let h1 = c.in_ok-add_number.ensures (before) have in
    let h2 = c.in_ok-add_number-2.ensures (before ++ r1 ∷ []) h1 in
    let h3 = c.in_ok-add_flag.ensures ((before ++ r1 ∷ []) ++ r2 ∷ []) h2 in
    let h4 = c.in_ok-add_flag-2.ensures (((before ++ r1 ∷ []) ++ r2 ∷ []) ++ r3 ∷ []) h3 in
    let h5 = c.in_ok-add_flag-3.ensures ((((before ++ r1 ∷ []) ++ r2 ∷ []) ++ r3 ∷ []) ++ r4 ∷ []) h4 in
    subst (λ rules. HaveRules rules c.add_flag-3.new.args.items) (five before r1 r2 r3 r4 r5) h5
