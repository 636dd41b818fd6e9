use Rattle.std.proofs.Common.{◌∙◌, ◌++◌, ◌∷◌, [], ℤ, Some, ap, subst, refl, rules, unwrap_or}
use Rattle.std.specs.BTreeMap.Entry.{map_with_value}
use Rattle.std.proofs.lemmas.Result.{err_from_is_err_and}
use Rattle.std.proofs.lemmas.Int.{to_z-of_z}
use mir.Val.{SFits, to_z, of_z}
use mir.Syntax.{w128}
use Rattle.store_parts.specs.Places.{IsMapOf}
use Rattle.store_parts.proofs.MapSums.{map_put_kept, map_put_pushed, ordered_put}
use Rattle.store_parts.proofs.ordered.add_ordered.Goals as goal

pub returns-in_err-push-clause-err : goal.returns-in_err-push-clause-err
returns-in_err-push-clause-err c = λ values h.
    let p = err_from_is_err_and c.from_residual-in_err-push.result c.from_residual-in_err-push.ensures.1 in
    let v = to_z w128 (of_z w128 c.args.value) in
    let had = c.or_insert-places.ensures.value ∙ ap (λ o. unwrap_or o c.new.result) c.in_ok-map.ensures.value in
    let put = ordered_put v c.push.new.self _ c.args.map.now.entries
    (map_with_value c.in_ok-map.field-0 c.push.new.self).entries c.entry.ensures.ordered refl
    (c.in_ok-map.ensures.update.1 c.push.new.self) in
    let kept = map_put_kept values v c.args.map.now.entries
    (map_with_value c.in_ok-map.field-0 c.push.new.self).entries c.new.result c.push.new.self _ refl put
    c.new.ensures (c.in_err-push.ensures.err ∙ had) h in
    rw (p.1) (search (rules, kept))

pub returns-clause-ok : goal.returns-clause-ok
returns-clause-ok c = λ values at_end h.
    let fits : SFits w128 c.args.value = search rules in
    let v = to_z w128 (of_z w128 c.args.value) in
    let had = c.or_insert-places.ensures.value ∙ ap (λ o. unwrap_or o c.new.result) c.in_ok-map.ensures.value in
    let put = ordered_put v c.push.new.self _ c.args.map.now.entries
    (map_with_value c.in_ok-map.field-0 c.push.new.self).entries c.entry.ensures.ordered refl
    (c.in_ok-map.ensures.update.1 c.push.new.self) in
    let added = map_put_pushed values v c.args.place c.args.map.now.entries
    (map_with_value c.in_ok-map.field-0 c.push.new.self).entries c.new.result c.push.new.self _ refl put
    c.new.ensures
    (c.in_ok-push.ensures.ok ∙ ap (λ places. places ++ c.args.place ∷ []) had) at_end h in
    let P : ℤ → Type 0 = λ v. IsMapOf (values ++ Some v ∷ [])
    (map_with_value c.in_ok-map.field-0 c.push.new.self).entries in
    let whole = subst P (to_z-of_z w128 c.args.value fits) added in
    search (rules, whole)
