-- What is said of stores is said of them as bags.
use Rattle.std.proofs.Common.{ℕ, Bool, true, false, List, [], ◌∷◌, ◌++◌, cond}
use Rattle.row_cells.specs.Lists.{SameBag}
use Rattle.row_cells.proofs.Bags.{SameBag-refl, SameBag-trans}
use Rattle.epoch_tags.specs.declared.tuple.Tuple.{Tuple}
use Rattle.epoch_tags.specs.declared.tuple.Pair.{Pair}
use Rattle.joiner_law.specs.Law.{JoinerStart, JoinerLists, Taken}
use Rattle.joiner_law.specs.History.{Step}
use Rattle.joiner_law.specs.Standing.{StandsSettled, StandsOpen}
use Rattle.joiner_core.specs.State.{placed}
use Rattle.joiner_core.specs.Changes.{kept_at_end}
use Rattle.joiner_core.proofs.StoreLists.{by_side-bag}

kept-bag : (kept : Bool) (x : Tuple) (b : List Tuple) → SameBag (kept_at_end kept x b) (cond kept (b ++ x ∷ []) b)
kept-bag true x b = by_side-bag (b ++ x ∷ [])
kept-bag false x b = SameBag-refl b

module _ (s : JoinerStart) (t : Taken) (lists : JoinerLists) (waiting : List Pair) (ended : ℕ → Bool) where
  settled-bag : (a a' : List Tuple) (cur : Step) (past : List Step) → SameBag a' a
      → StandsSettled s t lists waiting ended a cur past → StandsSettled s t lists waiting ended a' cur past
  settled-bag a a' cur past same is =
      record { steps = is.steps; store = SameBag-trans same is.store; links = is.links; taken_up_to = is.taken_up_to }

  -- a tuple is placed in the settled store
  pub settled-placed : (a : List Tuple) (x : Tuple) (cur : Step) (past : List Step)
      → StandsSettled s t lists waiting ended (a ++ x ∷ []) cur past
      → StandsSettled s t lists waiting ended (placed x a) cur past
  settled-placed a x cur past is = settled-bag (a ++ x ∷ []) (placed x a)
      cur past (by_side-bag (a ++ x ∷ [])) is

module _ (s : JoinerStart) (t : Taken) (lists : JoinerLists) (waiting : List Pair) (turned ended : ℕ → Bool)
    (all_turned part_ended : Bool) where
  open-bag : (a a' b b' : List Tuple) (new cur : Step) (past : List Step) → SameBag a' a → SameBag b' b
      → StandsOpen s t lists waiting turned ended all_turned part_ended a b new cur past
      → StandsOpen s t lists waiting turned ended all_turned part_ended a' b' new cur past
  open-bag a a' b b' new cur past one two is =
      record {
        steps = is.steps;
        store = SameBag-trans one is.store;
        opened = SameBag-trans two is.opened;
        links = is.links;
        taken_up_to = is.taken_up_to;
      }

  -- in the open step's store
  pub open-placed : (a b : List Tuple) (x : Tuple) (new cur : Step) (past : List Step)
      → StandsOpen s t lists waiting turned ended all_turned part_ended a (b ++ x ∷ []) new cur past
      → StandsOpen s t lists waiting turned ended all_turned part_ended a (placed x b) new cur past
  open-placed a b x new cur past is =
      open-bag a a (b ++ x ∷ []) (placed x b) new cur past
      (SameBag-refl a) (by_side-bag (b ++ x ∷ [])) is

  -- in both
  pub both-placed : (a b : List Tuple) (x : Tuple) (kept : Bool) (new cur : Step) (past : List Step)
      → StandsOpen s t lists waiting turned ended all_turned part_ended (a ++ x ∷ []) (cond kept (b ++ x ∷ []) b) new
      cur past
      → StandsOpen s t lists waiting turned ended all_turned part_ended (placed x a) (kept_at_end kept x b) new cur past
  both-placed a b x kept new cur past is =
      open-bag (a ++ x ∷ []) (placed x a) (cond kept (b ++ x ∷ []) b)
      (kept_at_end kept x b) new cur past (by_side-bag (a ++ x ∷ [])) (kept-bag kept x b) is
