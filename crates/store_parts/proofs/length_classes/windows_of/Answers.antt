use Rattle.std.proofs.Common.{◌∙◌, ◌++◌, ap}
use Rattle.std.proofs.lemmas.Int.{to_z-of_z}
use mir.Val.{to_z, of_z}
use mir.Syntax.{w128}
use Rattle.store_parts.specs.Stands.{windows_of}
use Rattle.store_parts.proofs.length_classes.windows_of.Goals as goal

pub returns : goal.returns
unfolding windows_of
returns c =
    let x = to_z w128 (of_z w128 c.args.x) in
    c.in_ok-add_windows.ensures
    ∙ ap (λ ws. ws ++ windows_of (to_z w128 (of_z w128 c.args.hash)) x) (c.from_vec-windows.ensures ∙ c.in_ok-with_capacity.ensures.items)
    ∙ ap (λ h. windows_of h x) (to_z-of_z w128 c.args.hash c.ranges.hash)
    ∙ ap (windows_of c.args.hash) (to_z-of_z w128 c.args.x c.ranges.x)
