use Rattle.std.proofs.Common.{◌-◌, ◌^◌, ℕ, min, length, arith, sym, ◌∙◌, ap, [], ◌∷◌, ◌++◌}
use Rattle.std.specs.Prelude.{map}
use Rattle.std.specs.List.{range_with_len}
use Rattle.std.proofs.lemmas.List.FromFn.{map-range_with_len_more}
use Rattle.pair_collector.specs.Standing.{moved_by}
use Rattle.pair_collector.proofs.answer.moved.Goals as goal

pub loop-step-preserved : goal.loop-step-preserved
loop-step-preserved c =
    let step = c.loop-step.step in
    let in_step : ℕ → ℕ = λ n. min (moved_by c.args.parts.now n (length c.args.parts.now)) (2 ^ 64 - 1) in
    c.in_ok-push.ensures.ok
    ∙ ap (λ moved. moved ++ c.moved_in.result ∷ []) c.loop-step.invariant
    ∙ ap (λ n. map in_step (range_with_len 0 step) ++ n ∷ []) c.moved_in.ensures
    ∙ sym (map-range_with_len_more in_step 0 step step (omega arith))
