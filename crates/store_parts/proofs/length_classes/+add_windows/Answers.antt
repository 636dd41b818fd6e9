use Rattle.std.proofs.Common.{◌≡◌, ◌+◌, ◌-◌, ◌++◌, ◌∙◌, List, ap, subst, rules}
use Rattle.std.specs.Result.{OnOk}
use Rattle.std.proofs.lemmas.Int.{to_z-of_z}
use mir.Val.{SFits, to_z, of_z}
use mir.Syntax.{w128}
use Rattle.store_parts.specs.declared.places.Window.{Window}
use Rattle.store_parts.specs.Stands.{windows_from}
use Rattle.store_parts.proofs.Windows.{windows_more}
use Rattle.store_parts.proofs.length_classes.+add_windows.Goals as goal

pub returns : goal.returns
returns n c =
    let one : c.args.left ≡ c.args.left - 1 + 1 = search rules in
    let fits : SFits w128 c.next_most.result = search rules in
    let hash = to_z w128 (of_z w128 c.args.hash) in
    let most = to_z w128 (of_z w128 c.args.most) in
    let next = to_z w128 (of_z w128 c.next_most.result) in
    let x = to_z w128 (of_z w128 c.args.x) in
    let old = c.args.windows.now in
    let more = windows_more old c.push.new.self c.point_window.result c.args.left (c.args.left - 1)
    hash c.args.class
    most next x c.in_ok-push.ensures.ok c.point_window.ensures
    (to_z-of_z w128 c.next_most.result fits ∙ c.next_most.ensures.value) one
    ∙ ap (λ h. old ++ windows_from c.args.left h c.args.class most x) (to_z-of_z w128 c.args.hash c.ranges.hash)
    ∙ ap (λ m. old ++ windows_from c.args.left c.args.hash c.args.class m x) (to_z-of_z w128 c.args.most c.ranges.most)
    ∙ ap (λ x. old ++ windows_from c.args.left c.args.hash c.args.class c.args.most x)
    (to_z-of_z w128 c.args.x c.ranges.x) in
    let P : List Window → Type 0 = λ ws. OnOk c.add_windows.result (c.add_windows.new.windows ≡ ws) in
    subst P more c.add_windows.ensures
