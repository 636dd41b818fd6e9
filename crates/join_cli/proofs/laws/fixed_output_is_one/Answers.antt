use Rattle.join_cli.proofs.FixedOutput.{one_output}
use Rattle.join_cli.proofs.laws.fixed_output_is_one.Goals as goal

pub returns : goal.returns
returns c = λ asked planned shift one other fixed is_one is_other. one_output asked planned shift one other fixed is_one
    is_other
