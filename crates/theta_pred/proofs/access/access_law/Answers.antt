use Rattle.theta_pred.specs.Formula.{formula_of}
use Rattle.theta_pred.proofs.Agreements.{access_of-law}
use Rattle.theta_pred.proofs.access.access_law.Goals as goal

pub returns : goal.returns
returns c = λ all is.
    access_of-law (record {
      formula =
          formula_of c.args.tree.now;
      width_r = c.args.width_r;
      width_s = c.args.width_s;
    }) all is
