use Rattle.std.proofs.Common.{◌≡◌, map, drop}
use Rattle.theta_pred.specs.Accesses.{agreement_of, agreements, agree_in_all}
use Rattle.store_parts.proofs.numbers.agree_in_all.Given as goal

abbrev pub invariant-loop-same : goal.invariant-loop-same
invariant-loop-same l = agree_in_all (map agreement_of (drop l.same-index l.same-items)) l.r l.s
    ≡ agree_in_all (agreements l.access) l.r l.s
