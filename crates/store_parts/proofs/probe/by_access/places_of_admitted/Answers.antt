use Rattle.std.proofs.Common.{◌∙◌, sym, ap, subst, List, ℕ, ◌<◌, length, All}
use Rattle.std.proofs.lemmas.Option.{slice_get-get_or}
use Rattle.std.proofs.lemmas.List.Elements.{All-push}
use Rattle.store_parts.specs.Accessed.{is_admitted}
use Rattle.store_parts.specs.Keyed.{at_places}
use Rattle.store_parts.proofs.AccessProbes.{kept_one, kept_none}
use Rattle.store_parts.proofs.probe.by_access.places_of_admitted.Goals as goal
use Rattle.store_parts.proofs.probe.by_access.places_of_admitted.Goals.{then-is_admitted+in_ok-push, else-is_admitted}

pub loop-place-preserved : goal.loop-place-preserved
loop-place-preserved c =
    let place = slice_get-get_or c.args.places.now c.loop-place.place-index 0 c.loop-place-test.true in
    let test = is_admitted c.args.access.now c.args.tuple.now in
    elim c.if-is_admitted.branch [
      | then-is_admitted+in_ok-push w ↦
          rw (w.kept-is) (record {
            same = ap (at_places c.args.others.now) w.in_ok-push.ensures.ok
                ∙ kept_one test c.args.others.now c.args.places.now c.loop-place.kept c.loop-place.place-index _
                c.at.result.now place c.at.ensures
                c.loop-place.invariant.same (sym c.is_admitted.ensures ∙ w.if-is_admitted.true);
            below =
                let P : List ℕ → Type 0 = λ ps. All (λ p. p < length c.args.others.now) ps in
                subst P (sym w.in_ok-push.ensures.ok)
                (All-push (λ (p : ℕ). p < length c.args.others.now)
                c.loop-place.kept _ c.loop-place.invariant.below
                (c.requires c.loop-place.place-index 0 c.loop-place-test.true));
          })
      | else-is_admitted w ↦
          rw (w.kept-is) (record {
            same = kept_none test c.args.others.now c.args.places.now c.loop-place.kept c.loop-place.place-index _
                c.at.result.now place c.at.ensures
                c.loop-place.invariant.same (sym c.is_admitted.ensures ∙ w.if-is_admitted.false);
            below = c.loop-place.invariant.below;
          })
    ]
