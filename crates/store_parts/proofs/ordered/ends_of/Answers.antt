use Rattle.std.proofs.Common.{ℤ, subst, sym, rules}
use Rattle.std.proofs.lemmas.Int.{to_z-of_z}
use mir.Val.{SFits, to_z, of_z}
use mir.Syntax.{w128}
use Rattle.store_parts.specs.Places.{AreWithin}
use Rattle.store_parts.proofs.MapRanges.{within_ends}
use Rattle.store_parts.proofs.ordered.ends_of.Goals as goal

pub returns : goal.returns
returns c =
    let first = c.in-Some.first.0.now in
    let last = c.in-Some-last_key_value.last.0.now in
    let fits_first : SFits w128 first = search rules in
    let fits_last : SFits w128 last = search rules in
    let last' = to_z w128 (of_z w128 last) in
    let P : ℤ → Type 0 = λ v. AreWithin (record { from = v; to = last' }) c.args.map.now.entries in
    let Q : ℤ → Type 0 = λ v. AreWithin (record { from = first; to = v }) c.args.map.now.entries in
    let whole = within_ends first last c.args.map.now.entries c.in-Some.ensures.all_from
    c.in-Some-last_key_value.ensures.all_up_to in
    subst P (sym (to_z-of_z w128 first fits_first)) (subst Q (sym (to_z-of_z w128 last fits_last)) whole)
