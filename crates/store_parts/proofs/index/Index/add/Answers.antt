use Rattle.std.proofs.Common.{◌∙◌, ◌++◌, ◌∷◌, [], Option, Some, ℤ, sym, ap, subst, rules}
use Rattle.std.specs.Result.{OnOk}
use Rattle.std.proofs.lemmas.Int.{to_z-of_z}
use mir.Val.{SFits}
use mir.Syntax.{w128}
use Rattle.store_parts.specs.Places.{entries_of, IsMapOf}
use Rattle.store_parts.proofs.MapSums.{map_no_value}
use Rattle.store_parts.proofs.index.Index.add.Goals as goal

pub returns-in_default-clause-ok : goal.returns-in_default-clause-ok
returns-in_default-clause-ok c = λ values at_end h. map_no_value c.args.value values _ c.in_default.not-Some h

pub returns-clause-ok : goal.returns-clause-ok
returns-clause-ok c = λ values at_end h.
    let fits : SFits w128 c.in-Some.value = search rules in
    let same = ap Some (to_z-of_z w128 c.in-Some.value fits) ∙ sym c.in-Some.is in
    let P : Option ℤ → Type 0 = λ v. OnOk c.add.result (IsMapOf (values ++ v ∷ []) (entries_of c.add.new.self)) in
    subst P same (c.add.ensures.ok values at_end (subst (IsMapOf values) (sym c.self.view_is) h))

pub returns-clause-err : goal.returns-clause-err
returns-clause-err c = λ values h. c.add.ensures.err values (subst (IsMapOf values) (sym c.self.view_is) h)
