use Rattle.std.proofs.Common.{◌≡◌, ◌∙◌, Ok, ap, length, map, subst, sym}
use Rattle.std.proofs.lemmas.List.{with_items_is}
use Rattle.join_runtime.specs.Views.{frame_of}
use Rattle.join_runtime.specs.Joins.{ActorsDiffer, AllLead}
use Rattle.join_runtime.proofs.WorkedBouts.{all_went, frames_so_far}
use Rattle.join_runtime.proofs.bouts.bout_of.Goals as goal

pub end_bout-requires-clause-leads : goal.end_bout-requires-clause-leads
end_bout-requires-clause-leads g c =
    let old = c.args.seats.now in
    let begun = c.begin_bout.new.seats in
    let value = c.as_mut_slice.ensures.value in
    let long : length begun ≡ length old.items = c.begin_bout.auto.seats ∙ ap length value in
    let standing : c.replace-standing.result.items ≡ begun =
    rw c.replace-standing.ensures.value (with_items_is old begun (long ∙ sym old.ok.0)) in
    let works = c.requires.works _ _ c.work.ensures in
    let frames = frames_so_far old.items begun c.replace-standing.result.items c.work.result.items standing
    (c.begin_bout.ensures.frames ∙ ap (map frame_of) value) works in
    subst AllLead (sym (ap (map frame_of) c.as_mut_slice-2.ensures.value ∙ frames)) c.requires.leads

pub end_bout-requires-clause-differ : goal.end_bout-requires-clause-differ
end_bout-requires-clause-differ g c =
    let old = c.args.seats.now in
    let begun = c.begin_bout.new.seats in
    let value = c.as_mut_slice.ensures.value in
    let long : length begun ≡ length old.items = c.begin_bout.auto.seats ∙ ap length value in
    let standing : c.replace-standing.result.items ≡ begun =
    rw c.replace-standing.ensures.value (with_items_is old begun (long ∙ sym old.ok.0)) in
    let works = c.requires.works _ _ c.work.ensures in
    let frames = frames_so_far old.items begun c.replace-standing.result.items c.work.result.items standing
    (c.begin_bout.ensures.frames ∙ ap (map frame_of) value) works in
    subst ActorsDiffer (sym (ap (map frame_of) c.as_mut_slice-2.ensures.value ∙ frames)) c.requires.differ

pub returns-in_err-end_bout-clause-frames : goal.returns-in_err-end_bout-clause-frames
returns-in_err-end_bout-clause-frames g c =
    let old = c.args.seats.now in
    let begun = c.begin_bout.new.seats in
    let value = c.as_mut_slice.ensures.value in
    let long : length begun ≡ length old.items = c.begin_bout.auto.seats ∙ ap length value in
    let standing : c.replace-standing.result.items ≡ begun =
    rw c.replace-standing.ensures.value (with_items_is old begun (long ∙ sym old.ok.0)) in
    let works = c.requires.works _ _ c.work.ensures in
    let frames = frames_so_far old.items begun c.replace-standing.result.items c.work.result.items standing
    (c.begin_bout.ensures.frames ∙ ap (map frame_of) value) works in
    let ended = c.end_bout.new.seats in
    let value' = c.as_mut_slice-2.ensures.value in
    let long' : length ended ≡ length c.work.result.items = c.end_bout.auto.seats ∙ ap length value' in
    let items = with_items_is c.work.result ended (long' ∙ sym c.work.result.ok.0) in
    rw items (c.end_bout.ensures.frames ∙ ap (map frame_of) value' ∙ frames)

pub returns-clause-frames : goal.returns-clause-frames
returns-clause-frames g c =
    let old = c.args.seats.now in
    let begun = c.begin_bout.new.seats in
    let value = c.as_mut_slice.ensures.value in
    let long : length begun ≡ length old.items = c.begin_bout.auto.seats ∙ ap length value in
    let standing : c.replace-standing.result.items ≡ begun =
    rw c.replace-standing.ensures.value (with_items_is old begun (long ∙ sym old.ok.0)) in
    let works = c.requires.works _ _ c.work.ensures in
    let frames = frames_so_far old.items begun c.replace-standing.result.items c.work.result.items standing
    (c.begin_bout.ensures.frames ∙ ap (map frame_of) value) works in
    let ended = c.end_bout.new.seats in
    let value' = c.as_mut_slice-2.ensures.value in
    let long' : length ended ≡ length c.work.result.items = c.end_bout.auto.seats ∙ ap length value' in
    let items = with_items_is c.work.result ended (long' ∙ sym c.work.result.ok.0) in
    rw items (c.end_bout.ensures.frames ∙ ap (map frame_of) value' ∙ frames)

pub returns-clause-went : goal.returns-clause-went
returns-clause-went g c =
    let old = c.args.seats.now in
    let begun = c.begin_bout.new.seats in
    let value = c.as_mut_slice.ensures.value in
    let long : length begun ≡ length old.items = c.begin_bout.auto.seats ∙ ap length value in
    let standing : c.replace-standing.result.items ≡ begun =
    rw c.replace-standing.ensures.value (with_items_is old begun (long ∙ sym old.ok.0)) in
    let works = c.requires.works _ _ c.work.ensures in
    let ended = c.end_bout.new.seats in
    let value' = c.as_mut_slice-2.ensures.value in
    let long' : length ended ≡ length c.work.result.items = c.end_bout.auto.seats ∙ ap length value' in
    let items = with_items_is c.work.result ended (long' ∙ sym c.work.result.ok.0) in
    let ahead = rw value at c.in_ok-begin_bout.ensures in
    let behind = rw value' at c.in_ok-end_bout.ensures in
    λ ok.
    rw items (all_went old.items begun c.replace-standing.result.items c.work.result.items ended standing long
    (ahead.stepped (ap Ok c.if-not-branch.false)) works behind.none_spent behind.alike)
