use Rattle.std.proofs.Common.{◌≡◌, ◌++◌, [], false, refl, subst, sym}
use Rattle.std.proofs.lemmas.List.Elements.{All-nil}
use Rattle.clap.specs.declared.builder.arg.Arg.{Arg}
use Rattle.join_words.specs.Command.{HaveRules, actor_rules, output_rules, setting_rules}
use Rattle.join_words.proofs.syntax.add_all.Goals as goal

pub returns : goal.returns
returns c is =
    let none : HaveRules [] c.args.args.now.items = subst (HaveRules []) (sym is) (record {
      are = refl;
      local = All-nil (λ (arg : Arg). arg.global ≡ false);
    }) in
    c.add_kinds.ensures (actor_rules ++ setting_rules ++ output_rules)
    (c.in_ok-add_output.ensures (actor_rules ++ setting_rules) (c.in_ok-add_setting.ensures actor_rules
    (c.in_ok-add_actors.ensures [] none)))
