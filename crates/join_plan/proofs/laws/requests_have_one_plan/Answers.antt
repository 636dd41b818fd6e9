use Rattle.std.proofs.Common.{refl}
use Rattle.join_plan.specs.Plan.{plan_of}
use Rattle.join_plan.proofs.Readings.{every_request, one_plan}
use Rattle.join_plan.proofs.laws.requests_have_one_plan.Goals as goal

pub returns-clause-some : goal.returns-clause-some
returns-clause-some c asked files =
    let (readings, read) = every_request asked in
    (plan_of asked readings files, record { readings = readings; read = read; is = refl })

pub returns-clause-one : goal.returns-clause-one
returns-clause-one c asked files one other is is' = one_plan asked files one other is is'
