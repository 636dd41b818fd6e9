use Rattle.std.proofs.Common.{◌++◌, ◌∷◌, [], codes, subst}
use Rattle.join_words.specs.Command.{HaveRules, kind_rules, files_rule, flag_rule, number_rule, option_rule}
use Rattle.join_words.proofs.Arguments.{five}
use Rattle.join_words.proofs.syntax.add_kinds.Goals as goal

pub returns : goal.returns
returns c before have =
    let r1 = flag_rule (codes "groups") in
    let r2 = option_rule (codes "then") in
    let r3 = flag_rule (codes "rings") in
    let r4 = number_rule (codes "grow") 1 3 in
    let r5 = files_rule (codes "files") in
    let h1 = c.in_ok-add_flag.ensures (before) have in
    let h2 = c.in_ok-add_option.ensures (before ++ r1 ∷ []) h1 in
    let h3 = c.in_ok-add_flag-2.ensures ((before ++ r1 ∷ []) ++ r2 ∷ []) h2 in
    let h4 = c.in_ok-add_number.ensures (((before ++ r1 ∷ []) ++ r2 ∷ []) ++ r3 ∷ []) h3 in
    let h5 = c.in_ok-add_files.ensures ((((before ++ r1 ∷ []) ++ r2 ∷ []) ++ r3 ∷ []) ++ r4 ∷ []) h4 in
    subst (λ rules. HaveRules rules c.add_files.new.args.items) (five before r1 r2 r3 r4 r5) h5
