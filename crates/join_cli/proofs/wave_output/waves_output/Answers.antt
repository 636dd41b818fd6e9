use Rattle.std.proofs.Common.{None, subst, sym}
use Rattle.join_words.specs.Words.{asked}
use Rattle.join_cli.specs.WaveSteps.{AreAllWaves}
use Rattle.join_cli.proofs.Made.{made_onward}
use Rattle.join_cli.proofs.WaveFacts.{waves_fit}
use Rattle.join_cli.proofs.WaveOutput.{waves_are}
use Rattle.join_cli.proofs.wave_output.waves_output.Goals as goal
use Rattle.join_cli.specs.Works.{view_of}

pub text_of_waves-requires : goal.text_of_waves-requires
text_of_waves-requires g c =
    waves_fit c.args.work.now c.args.ends.now c.in_ok-run.field-0.run c.in_ok-run.field-0.trail c.requires.ends
    c.in_ok-run.ensures

pub returns-in-Ok : goal.returns-in-Ok
returns-in-Ok g c = λ planned is ends_is.
    let are = waves_are (asked c.args.options.now) planned c.args.work.now c.in_ok-run.field-0.run
    c.in_ok-run.field-0.trail c.in-Ok.text is c.requires.work
    (subst (λ ends. AreAllWaves (view_of c.args.work.now) ends
    c.in_ok-run.field-0.run c.in_ok-run.field-0.trail) (sym ends_is) c.in_ok-run.ensures) c.in-Ok.ensures in
    rw c.journal_of-journal.ensures
    (made_onward c.args.options.now planned c.args.work.now c.in_ok-run.field-0.run.journal c.in_ok-run.field-0.trail
    c.in-Ok.text c.requires.work None c.requires.kind are.0 are.1)
