use Rattle.std.proofs.Common.{◌∙◌, ap, sym, option_map}
use Rattle.theta_pred.specs.Formula.{formula_of}
use Rattle.theta_pred.proofs.KeyMembers.{member-sound}
use Rattle.theta_pred.proofs.key.key_of.Goals as goal

pub atom_in-requires : goal.atom_in-requires
atom_in-requires c =
    member-sound _ _ (formula_of c.args.tree.now) _ c.requires
    (sym c.key_member.ensures ∙ ap (option_map (λ tree. formula_of tree.now)) c.in-Some.is)
