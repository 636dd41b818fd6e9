use Rattle.std.proofs.Common.{◌≡◌, ◌<◌, [], ◌∷◌, length, subst}
use Rattle.theta_pred.specs.Names.{places_from}
use Rattle.theta_pred.proofs.Wrong.{IsFirstWrong-one, only_place-within}
use Rattle.theta_pred.proofs.named.resolved_name.Goals as goal

pub returns-in-Once-clause-within : goal.returns-in-Once-clause-within
returns-in-Once-clause-within c =
    only_place-within c.args.names_r.now c.args.names_s.now c.args.name.now.side c.args.name.now.word c.in-Once.place
    (subst (λ names. places_from 0 c.args.name.now.word names ≡ c.in-Once.place ∷ [])
    c.header_of.ensures c.in-Once.ensures)

pub returns-in_ok-copy-in-Nowhere-clause-err : goal.returns-in_ok-copy-in-Nowhere-clause-err
returns-in_ok-copy-in-Nowhere-clause-err c =
    rw c.in_ok-copy-in-Nowhere.ensures (
      IsFirstWrong-one c.args.names_r.now c.args.names_s.now c.args.name.now,
      subst (λ names. places_from 0 c.args.name.now.word names ≡ []) c.header_of.ensures c.in-Nowhere.ensures,
    )

pub returns-in_ok-copy-in-Often-clause-err : goal.returns-in_ok-copy-in-Often-clause-err
returns-in_ok-copy-in-Often-clause-err c =
    rw c.in_ok-copy-in-Often.ensures (
      IsFirstWrong-one c.args.names_r.now c.args.names_s.now c.args.name.now,
      subst (λ names. 1 < length (places_from 0 c.args.name.now.word names)) c.header_of.ensures c.in-Often.ensures,
    )
