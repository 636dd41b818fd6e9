use Rattle.std.proofs.Common.{◌≡◌, ◌++◌, sym, ap, ◌∙◌, subst, arith, length, drop}
use Rattle.epoch_tags.specs.declared.message.Post.{Post}
use Rattle.std.specs.Prelude.{List}
use Rattle.reshuffler_core.specs.Standing.{FeederState, state_after, posts_for}
use Rattle.reshuffler_core.specs.Machine.{Takes, Advances}
use Rattle.reshuffler_core.proofs.WholeCalls.{one_taken, still_takes, same_held}
use Rattle.reshuffler_core.proofs.feeder.Feeder.take_first.Goals as goal

pub take-requires : goal.take-requires
take-requires c =
    subst (λ (s : FeederState). Takes s c.args.m) (sym c.drop_first.ensures)
    (still_takes c.args.self.now c.args.m c.requires)

pub returns-clause-fewer : goal.returns-clause-fewer
returns-clause-fewer c =
    let old = c.args.self.now in
    let held : c.take.new.self.held ≡ drop 1 old.held =
    ap (λ (s : FeederState). s.held) c.in_ok-take.ensures.state ∙ same_held c.drop_first.new.self c.args.m
    ∙ ap (λ (s : FeederState). s.held) c.drop_first.ensures in
    let before = ap length c.requires.first in
    let after = ap length (held ∙ ap (drop 1) c.requires.first) in
    omega arith

pub returns-clause-advances : goal.returns-clause-advances
returns-clause-advances c =
    let old = c.args.self.now in
    let mid = record old { held = drop 1 old.held } in
    let state : c.take.new.self ≡ state_after mid c.args.m =
    c.in_ok-take.ensures.state ∙ ap (λ (s : FeederState). state_after s c.args.m) c.drop_first.ensures in
    let posts : c.take.new.sends ≡ c.args.sends.now ++ posts_for mid c.args.m =
    c.in_ok-take.ensures.posts ∙ ap (λ (s : FeederState). c.args.sends.now ++ posts_for s c.args.m)
    c.drop_first.ensures in
    subst (λ (s : FeederState). Advances old s c.args.sends.now c.take.new.sends) (sym state)
    (subst (λ (ps : List Post). Advances old (state_after mid c.args.m) c.args.sends.now ps) (sym posts)
    (one_taken old c.args.m c.args.sends.now c.requires))
