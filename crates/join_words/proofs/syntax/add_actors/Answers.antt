use Rattle.std.proofs.Common.{◌++◌, ◌∷◌, [], codes, subst}
use Rattle.join_words.specs.Command.{HaveRules, actor_rules, default_rule, text_rule}
use Rattle.join_words.proofs.Arguments.{five}
use Rattle.join_words.proofs.syntax.add_actors.Goals as goal

pub returns : goal.returns
returns c before have =
    let r1 = text_rule (codes "on") in
    let r2 = default_rule (codes "joiners") 1 64 (codes "4") in
    let r3 = default_rule (codes "feeders") 1 8 (codes "2") in
    let r4 = default_rule (codes "workers") 1 16 (codes "4") in
    let r5 = default_rule (codes "batch") 1 4096 (codes "64") in
    let h1 = c.in_ok-add_text.ensures (before) have in
    let h2 = c.in_ok-add_number_or.ensures (before ++ r1 ∷ []) h1 in
    let h3 = c.in_ok-add_number_or-2.ensures ((before ++ r1 ∷ []) ++ r2 ∷ []) h2 in
    let h4 = c.in_ok-add_number_or-3.ensures (((before ++ r1 ∷ []) ++ r2 ∷ []) ++ r3 ∷ []) h3 in
    let h5 = c.in_ok-add_number_or-4.ensures ((((before ++ r1 ∷ []) ++ r2 ∷ []) ++ r3 ∷ []) ++ r4 ∷ []) h4 in
    subst (λ rules. HaveRules rules c.add_number_or-4.new.args.items) (five before r1 r2 r3 r4 r5) h5
