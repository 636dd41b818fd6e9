use Rattle.std.proofs.Common.{◌∙◌, sym}
use Rattle.theta_pred.specs.Keys.{atom_of}
use Rattle.theta_pred.proofs.SumTests.{do_enclose-same}
use Rattle.theta_pred.proofs.range.interval_of_two.Goals as goal

pub interval-requires : goal.interval-requires
interval-requires c =
    do_enclose-same c.args.points (atom_of c.args.a.now) (atom_of c.args.b.now)
    (sym c.do_enclose.ensures ∙ c.if-do_enclose.true)

pub interval-requires-then-do_enclose-2 : goal.interval-requires-then-do_enclose-2
interval-requires-then-do_enclose-2 c =
    do_enclose-same c.args.points (atom_of c.args.b.now) (atom_of c.args.a.now)
    (sym c.do_enclose-2.ensures ∙ c.if-do_enclose-2.true)
