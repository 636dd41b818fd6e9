use Rattle.std.proofs.Common.{◌∙◌, Some, subst, sym}
use Rattle.std.proofs.lemmas.Result.{IfOk-weaker}
use Rattle.join_words.specs.Words.{asked}
use Rattle.join_cli.specs.Ends.{IsMade}
use Rattle.join_cli.specs.GrownSteps.{AreGrownWaves}
use Rattle.join_cli.proofs.GrownFacts.{grown_fits}
use Rattle.join_cli.proofs.GrownOutput.{grown_are_asked}
use Rattle.join_cli.proofs.Made.{made_onward}
use Rattle.join_cli.proofs.growth_output.grown_output.Goals as goal
use Rattle.join_cli.specs.Works.{view_of}

pub text_of_both-requires : goal.text_of_both-requires
text_of_both-requires g c =
    grown_fits c.args.work.now c.args.wave c.args.ends.now c.in_ok-grown.grown c.in_ok-grown.ensures
    c.requires.grows c.requires.ends

pub returns-in-Ok : goal.returns-in-Ok
returns-in-Ok g c =
    IfOk-weaker c.joined_of.result _ _
    (λ joined made planned is ends_is.
    let own = asked c.args.options.now in
    let are = grown_are_asked own planned c.args.work.now c.args.wave c.in_ok-grown.grown joined.text is
    c.requires.work c.requires.grows.free
    (subst (λ ends. AreGrownWaves (view_of c.args.work.now)
    c.args.wave ends c.in_ok-grown.grown) (sym ends_is) c.in_ok-grown.ensures) (made.0 ∙ c.in-Ok.ensures) in
    subst (IsMade own planned joined.text) (sym made.1)
    (made_onward c.args.options.now planned c.args.work.now _ c.in_ok-grown.grown.trail joined.text c.requires.work
    (Some c.args.wave) c.requires.kind are.0 are.1))
    c.joined_of.ensures
