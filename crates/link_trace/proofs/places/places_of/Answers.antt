use Rattle.std.proofs.Common.{◌∙◌, ◌++◌, ◌∷◌, [], ap, length, sym}
use Rattle.std.specs.Prelude.{replicate}
use Rattle.std.proofs.lemmas.List.{length-append, map-append}
use Rattle.link_trace.specs.declared.places.Place.{Place}
use Rattle.link_trace.specs.Worlds.{cores_of, waiting_at, waiting_of}
use Rattle.link_trace.proofs.Beginnings.{one_more}
use Rattle.link_trace.proofs.places.places_of.Goals as goal

pub loop-core-preserved : goal.loop-core-preserved
loop-core-preserved c =
    let place = c.in_ok-place.place in
    let before = c.loop-core.places.items in
    let made = c.loop-core.yielded in
    let items = c.in_ok-push.ensures.items in
    let none = replicate c.args.count [] in
    record {
      cores = ap cores_of items ∙ map-append (λ (p : Place). p.core) before (place ∷ [])
          ∙ ap (λ core. cores_of before ++ core ∷ []) c.in_ok-place.ensures.core
          ∙ ap (λ cores. cores ++ c.in-Some.core ∷ []) c.loop-core.invariant.cores;
      waiting = ap waiting_of items
          ∙ one_more waiting_at before place (length made) none c.loop-core.invariant.waiting
          c.in_ok-place.ensures.waiting
          ∙ ap (λ n. replicate n none) (sym (length-append made (c.in-Some.core ∷ [])));
    }
