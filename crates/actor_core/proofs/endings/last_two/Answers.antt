use Rattle.std.proofs.Common.{◌∙◌, ◌++◌, ◌∷◌, [], ap, sym, arith, length, true≢false}
use Rattle.std.proofs.Math.Logic.{∥∥₁_elim}
use Rattle.std.proofs.lemmas.List.{length-append}
use Rattle.actor_core.specs.Endings.{HaveLast}
use Rattle.actor_core.specs.declared.machines.Core.TheVariants.{Controller as TheController}
use Rattle.actor_core.proofs.LastTwo.{collector_last, controller_before, last_two}
use Rattle.actor_core.proofs.endings.last_two.Goals as goal

pub unreachable-requires : goal.unreachable-requires
unreachable-requires c =
    ∥∥₁_elim c.requires (λ x y. absurd x) (λ (have : HaveLast c.args.cores.items).
    let many = have.are.many in
    true≢false (sym (c.in_default.ensures.variant.1 (omega arith))))

pub unreachable-requires-in_default-pop : goal.unreachable-requires-in_default-pop
unreachable-requires-in_default-pop c =
    ∥∥₁_elim c.requires (λ x y. absurd x) (λ (have : HaveLast c.args.cores.items).
    let many = have.are.many in
    let more = ap length c.in-Some.ensures.items ∙ length-append c.pop.new.self.items (c.in-Some.last ∷ []) in
    true≢false (sym (c.in_default-pop.ensures.variant.1 (omega arith))))

pub unreachable-requires-in_default-into_collector : goal.unreachable-requires-in_default-into_collector
unreachable-requires-in_default-into_collector c =
    let rest = c.pop-2.new.self.items in
    let before = c.in-Some-pop.before in
    let last = c.in-Some.last in
    ∥∥₁_elim c.requires (λ x y. absurd x) (λ (have : HaveLast c.args.cores.items).
    c.in_default-into_collector.ensures.none have.collector
    (collector_last c.args.cores.items rest before last
    (c.in-Some.ensures.items ∙ ap (λ xs. xs ++ last ∷ []) c.in-Some-pop.ensures.items) have))

pub unreachable-requires-in_default-into_controller : goal.unreachable-requires-in_default-into_controller
unreachable-requires-in_default-into_controller c =
    let rest = c.pop-2.new.self.items in
    let before = c.in-Some-pop.before in
    let last = c.in-Some.last in
    ∥∥₁_elim c.requires (λ x y. absurd x) (λ (have : HaveLast c.args.cores.items).
    c.in_default-into_controller.ensures.none have.controller
    (controller_before c.args.cores.items rest before last
    (c.in-Some.ensures.items ∙ ap (λ xs. xs ++ last ∷ []) c.in-Some-pop.ensures.items) have))

pub returns : goal.returns
returns c =
    let rest = c.pop-2.new.self.items in
    let controller = c.in-Some-into_controller.controller in
    let collector = c.in-Some-into_collector.collector in
    last_two c.args.cores.items rest controller collector
    (c.in-Some.ensures.items
    ∙ (ap (λ xs. xs ++ c.in-Some.last ∷ []) c.in-Some-pop.ensures.items
    ∙ (ap (λ x. (rest ++ x ∷ []) ++ c.in-Some.last ∷ []) c.in-Some-into_controller.ensures.some
    ∙ ap (λ y. (rest ++ TheController controller ∷ []) ++ y ∷ []) c.in-Some-into_collector.ensures.some)))
