use Rattle.theta_pred.specs.Formula.{formula_of}
use Rattle.theta_pred.proofs.Sufficing.{access_suffices}
use Rattle.theta_pred.proofs.suffice.suffice_law.Goals as goal

pub returns : goal.returns
returns c = λ terms enough is.
    access_suffices (record {
      formula =
          formula_of c.args.tree.now;
      width_r = c.args.width_r;
      width_s = c.args.width_s;
    }) terms enough is
