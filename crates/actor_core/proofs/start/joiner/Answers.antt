use Rattle.std.proofs.Common.{subst, ℕ, [], refl}
use Rattle.joiner_core.specs.Beginnings.{HasBegun}
use Rattle.joiner_core.specs.Machine.{start_of}
use Rattle.joiner_core.specs.Standing.{StandsFor}
use Rattle.actor_core.specs.Lists.{no_lists, joiner_lists}
use Rattle.actor_core.proofs.start.joiner.Goals as goal

pub returns-clause-stands : goal.returns-clause-stands
returns-clause-stands c =
    let setting = c.args.setting.now in
    subst (λ (shift : ℕ). StandsFor (start_of setting.k c.args.j shift 0 setting.feeders c.args.input.now.theta [])
    (joiner_lists no_lists) c.in_ok-joiner.joiner)
    c.first_shift-shift.ensures c.in_ok-joiner.ensures.fresh

pub returns-clause-first : goal.returns-clause-first
returns-clause-first c =
    let setting = c.args.setting.now in
    record {
      joiner = c.in_ok-joiner.joiner;
      begun = subst
          (λ (shift : ℕ). HasBegun setting.k c.args.j shift 0 setting.feeders c.args.input.now.theta []
          c.in_ok-joiner.joiner) c.first_shift-shift.ensures c.in_ok-joiner.ensures.begun;
      is = refl;
    }
