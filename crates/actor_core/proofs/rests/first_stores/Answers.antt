use Rattle.std.proofs.Common.{All, length, ap, subst, sym, ◌∙◌, [], ◌∷◌, ◌+◌}
use Rattle.std.proofs.lemmas.List.{length-append}
use Rattle.std.proofs.lemmas.List.Elements.{All-append, All-cons, All-nil}
use Rattle.actor_core.specs.Rests.{IsFirstStore}
use Rattle.actor_core.proofs.rests.first_stores.Goals as goal

pub loop-preserved : goal.loop-preserved
loop-preserved c =
    let stores = c.loop.stores in
    let store = c.in_ok-first_store.field-0 in
    let pushed = c.in_ok-push.ensures.ok in
    let are = IsFirstStore c.args.theta.now in
    let first = c.in_ok-first_store.ensures in
    record {
      many = ap length pushed ∙ length-append stores (store ∷ []) ∙ ap (λ n. n + 1) c.loop.invariant.many;
      first = subst (All are) (sym pushed) (All-append are stores (store ∷ []) c.loop.invariant.first
          (All-cons are store [] (record { empty = first.empty; key = first.key; access = first.access })
          (All-nil are)));
    }
