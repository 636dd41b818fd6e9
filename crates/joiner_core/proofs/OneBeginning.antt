-- Two joiners that have begun alike are one.
use Rattle.std.proofs.Common.{◌≡◌, ℕ, sym, ◌∙◌, false, Bool, List, [], length}
use Rattle.std.proofs.lemmas.List.{ext_get_or}
use Rattle.epoch_tags.specs.declared.message.ToJoiner.{ToJoiner}
use Rattle.epoch_tags.specs.declared.tuple.Tuple.{Tuple}
use Rattle.epoch_tags.specs.Flags.{flag_at}
use Rattle.epoch_tags.specs.Held.{held_at}
use Rattle.theta_pred.specs.Formula.{Meaning}
use Rattle.theta_pred.proofs.OneWay.{one_key_at_most, one_access_at_most}
use Rattle.joiner_core.specs.Beginnings.{BeginningsAreOne, HasBegun, IsFirstStock}
use Rattle.joiner_core.specs.Machine.{IsMade}
use Rattle.joiner_core.specs.Standing.{JoinerState}
use Rattle.joiner_core.specs.State.{MachineState, Stocked}

-- as many flags that are all down are the same flags
same_flags : (xs ys : List Bool) → length xs ≡ length ys → ((p : ℕ) → flag_at xs p ≡ false)
    → ((p : ℕ) → flag_at ys p ≡ false) → xs ≡ ys
same_flags xs ys long down down' = ext_get_or false xs ys long (λ i low. down i ∙ sym (down' i))

-- as many queues with nothing in them are the same queues
same_queues : (xs ys : List (List ToJoiner)) → length xs ≡ length ys → ((p : ℕ) → held_at xs p ≡ [])
    → ((p : ℕ) → held_at ys p ≡ []) → xs ≡ ys
same_queues xs ys long none none' = ext_get_or [] xs ys long (λ i low. none i ∙ sym (none' i))

-- the key and the access of a predicate are one
one_stock : (theta : Meaning) (tuples : List Tuple) (one two : Stocked) → IsFirstStock theta tuples one
    → IsFirstStock theta tuples two → one ≡ two
one_stock theta tuples one two is is' =
    let same_tuples = is.tuples_are ∙ sym is'.tuples_are in
    let same_key = one_key_at_most one.key two.key (is.key ∙ sym is'.key) in
    let same_access = one_access_at_most theta one.access two.access is.widths is'.widths (is.access ∙ sym is'.access)
    in
    λ i. record { tuples = same_tuples i; key = same_key i; access = same_access i }

module _ (k id shift epoch feeders : ℕ) (theta : Meaning) where
  -- and so are the epochs at a beginning
  one_epochs : (one two : MachineState) → IsMade k id shift epoch feeders theta one.epochs.store one
      → IsMade k id shift epoch feeders theta two.epochs.store two → one.epochs.store ≡ two.epochs.store
      → one.epochs ≡ two.epochs
  one_epochs one two is is' same_store =
      let same_k = is.at_k ∙ sym is'.at_k in
      let same_id = is.at_id ∙ sym is'.at_id in
      let same_feeders = is.at_feeders ∙ sym is'.at_feeders in
      let same_theta = is.at_theta ∙ sym is'.at_theta in
      let same_epoch = is.at_epoch ∙ sym is'.at_epoch in
      let same_shift = is.at_shift ∙ sym is'.at_shift in
      let same_ended = same_flags one.epochs.ended two.epochs.ended (is.ended ∙ sym is'.ended) is.down is'.down in
      let same_step = is.step ∙ sym is'.step in
      let same_moved = is.moved ∙ sym is'.moved in
      λ i. record {
        k = same_k i;
        id = same_id i;
        feeders = same_feeders i;
        theta = same_theta i;
        epoch = same_epoch i;
        shift = same_shift i;
        store = same_store i;
        ended = same_ended i;
        step = same_step i;
        moved = same_moved i;
      }

  -- so joiners are
  one_joiner : (tuples : List Tuple) (one two : JoinerState) → HasBegun k id shift epoch feeders theta tuples one
      → HasBegun k id shift epoch feeders theta tuples two → one ≡ two
  one_joiner tuples one two is is' =
      let m = one.machine in
      let m' = two.machine in
      let same_store = one_stock theta tuples m.epochs.store m'.epochs.store is.stock is'.stock in
      let same_epochs = one_epochs m m' is.made is'.made same_store in
      let same_feeders = same_queues m.of_feeders m'.of_feeders (is.made.of_feeders ∙ sym is'.made.of_feeders)
      is.made.no_feeders is'.made.no_feeders in
      let same_joiners = same_queues m.of_joiners m'.of_joiners (is.made.of_joiners ∙ sym is'.made.of_joiners)
      is.made.no_joiners is'.made.no_joiners in
      let same_told = is.made.told ∙ sym is'.made.told in
      let same_spent = is.at_work ∙ sym is'.at_work in
      λ i. record {
        machine = record {
          epochs = same_epochs i;
          of_feeders = same_feeders i;
          of_joiners = same_joiners i;
          told = same_told i;
        };
        spent = same_spent i;
      }

-- two joiners that begin alike are one
pub one_beginning : BeginningsAreOne
one_beginning k id shift epoch feeders theta = one_joiner k id shift epoch feeders theta
