use Rattle.std.proofs.Common.{◌++◌, ◌∷◌, [], codes, subst}
use Rattle.join_words.specs.Command.{HaveRules, setting_rules, default_rule, number_rule, text_or_rule}
use Rattle.join_words.proofs.Arguments.{five}
use Rattle.join_words.proofs.syntax.add_setting.Goals as goal

pub returns : goal.returns
returns c before have =
    let r1 = text_or_rule (codes "feed") (codes "alternate") in
    let r2 = default_rule (codes "seed") 0 18446744073709551615 (codes "1") in
    let r3 = number_rule (codes "fixed") 0 6 in
    let r4 = default_rule (codes "weight-r") 1 1024 (codes "1") in
    let r5 = default_rule (codes "weight-s") 1 1024 (codes "1") in
    let h1 = c.in_ok-add_text_or.ensures (before) have in
    let h2 = c.in_ok-add_number_or.ensures (before ++ r1 ∷ []) h1 in
    let h3 = c.in_ok-add_number.ensures ((before ++ r1 ∷ []) ++ r2 ∷ []) h2 in
    let h4 = c.in_ok-add_number_or-2.ensures (((before ++ r1 ∷ []) ++ r2 ∷ []) ++ r3 ∷ []) h3 in
    let h5 = c.in_ok-add_number_or-3.ensures ((((before ++ r1 ∷ []) ++ r2 ∷ []) ++ r3 ∷ []) ++ r4 ∷ []) h4 in
    subst (λ rules. HaveRules rules c.add_number_or-3.new.args.items) (five before r1 r2 r3 r4 r5) h5
