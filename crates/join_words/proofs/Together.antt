-- What it says of two words that no two are given that don't stand together.
use Rattle.std.proofs.Common.{◌≡◌, ◌<◌, ◌&&◌, ℕ, Bool, true, false, List, Option, Some, None}
use Rattle.std.proofs.Common.{length, refl, arith, codes}
use Rattle.std.specs.Prelude.{is_some}
use Rattle.std.specs.List.{slice_index_or}
use Rattle.std.proofs.lemmas.List.Folds.{list_any_at}
use Rattle.clap.specs.Walk.{Row}
use Rattle.join_words.specs.Apart.{any_of, apart, are_apart}
use Rattle.join_words.specs.Found.{early_at, flag_at, grow_at, make_at, names_given, number_at, then_at}
use Rattle.join_words.specs.Words.{given_by, no_wave_behind}
use Rattle.join_words.specs.declared.apart.Given.{Given}
use Rattle.join_words.specs.declared.apart.Word.{Word}
use Rattle.join_words.specs.declared.apart.Word.TheVariants.{Early}

-- of pairs that have not both their words, the one at a place has not
not_both : (given : Given) (pairs : List (Word × Word)) (i : ℕ) (d : Word × Word) → any_of given pairs ≡ false
    → i < length pairs → are_apart given (slice_index_or pairs i d) ≡ false
not_both given pairs i d none low = go (are_apart given (slice_index_or pairs i d)) refl
  where
    go : (b : Bool) → are_apart given (slice_index_or pairs i d) ≡ b
        → are_apart given (slice_index_or pairs i d) ≡ false
    go false is = is
    go true is = let any = list_any_at (are_apart given) pairs i d low is in cc

-- of two words that are not both given, the other is not where the one is
other : (a b : Bool) → (a && b) ≡ false → a ≡ true → b ≡ false
other true b none is = none
other false b none is = cc

-- the pair at a place of the list that the command has
clash_at : (given : Given) (i : ℕ) → any_of given apart ≡ false → i < 24
    → are_apart given (slice_index_or apart i (Early, Early)) ≡ false
clash_at given i none low = not_both given apart i (Early, Early) none low

-- an option that isn't there
pub none_of : {A : Type 0} (x : Option A) → is_some x ≡ false → x ≡ None
none_of None is = refl
none_of (Some x) is = cc

module _ (rows : List Row) (none : any_of (given_by rows) apart ≡ false) where
  -- of early pairs no tables are made
  pub early_unmade : early_at rows ≡ true → make_at rows ≡ None
  early_unmade on = none_of (make_at rows)
      (other (early_at rows) (is_some (make_at rows)) (clash_at (given_by rows) 1 none (omega arith)) on)

  -- and no joined rows are wanted
  pub early_bare : early_at rows ≡ true → flag_at (codes "rows") rows ≡ false
  early_bare on =
      other (early_at rows) (flag_at (codes "rows") rows) (clash_at (given_by rows) 2 none (omega arith)) on

  -- of made tables none are
  pub made_bare : is_some (make_at rows) ≡ true → flag_at (codes "rows") rows ≡ false
  made_bare on =
      other (is_some (make_at rows)) (flag_at (codes "rows") rows) (clash_at (given_by rows) 3 none (omega arith)) on

  -- nor of a second join
  pub then_bare : is_some (then_at rows) ≡ true → flag_at (codes "rows") rows ≡ false
  then_bare on =
      other (is_some (then_at rows)) (flag_at (codes "rows") rows) (clash_at (given_by rows) 10 none (omega arith)) on

  -- with a growth no shift is fixed
  pub growth_free : is_some (grow_at rows) ≡ true → number_at (codes "fixed") rows ≡ None
  growth_free on = none_of (number_at (codes "fixed") rows)
      (other (is_some (grow_at rows)) (is_some (number_at (codes "fixed") rows))
      (clash_at (given_by rows) 19 none (omega arith)) on)

  -- and a wave is behind it
  pub growth_before : is_some (grow_at rows) ≡ true → no_wave_behind (grow_at rows) (length (names_given rows)) ≡ false
  growth_before on =
      other (is_some (grow_at rows)) (no_wave_behind (grow_at rows) (length (names_given rows)))
      (clash_at (given_by rows) 23 none (omega arith)) on
