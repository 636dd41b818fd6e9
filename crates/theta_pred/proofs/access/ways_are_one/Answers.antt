use Rattle.theta_pred.proofs.OneWay.{one_key_at_most, one_access_at_most}
use Rattle.theta_pred.proofs.access.ways_are_one.Goals as goal

pub returns-clause-keys : goal.returns-clause-keys
returns-clause-keys c = one_key_at_most

pub returns-clause-accesses : goal.returns-clause-accesses
returns-clause-accesses c = one_access_at_most
