-- The ends of waves, as rows are put behind others.
use Rattle.std.proofs.Common.{◌≡◌, ◌+◌, ◌++◌, ◌∙◌, suc, List, [], ◌∷◌, length, arith, ap}
use Rattle.std.proofs.lemmas.List.{length_push}
use Rattle.std.proofs.lemmas.List.Elements.{All-push}
use Rattle.std.proofs.lemmas.List.Quantifiers.{all_pairs_push}
use Rattle.row_cells.specs.declared.table.Side.{Side}
use Rattle.row_cells.specs.declared.table.Side.TheVariants.{R, S}
use Rattle.join_plan.specs.declared.files.Tables.{Tables}
use Rattle.join_plan.specs.declared.waves.InWaves.{InWaves}
use Rattle.join_plan.specs.declared.waves.WaveEnd.{WaveEnd}
use Rattle.join_plan.specs.Later.{ended}
use Rattle.join_plan.specs.Waves.{AreEnds, AreWithin, IsUpTo, end_of}

-- an end is up to itself
up_to_itself : (end : WaveEnd) → IsUpTo end end
up_to_itself end = record { rows_r = omega arith; rows_s = omega arith }

-- what isn't past an end isn't past a later one
pub up_to_later : (end middle last : WaveEnd) → IsUpTo end middle → IsUpTo middle last → IsUpTo end last
up_to_later end middle last is later = record {
  rows_r = omega (arith, is.rows_r, later.rows_r);
  rows_s = omega (arith, is.rows_s, later.rows_s);
}

-- ends stay within tables that have more rows
pub still_within : (tables more : Tables) (ends : List WaveEnd) → AreWithin tables ends
    → IsUpTo (end_of tables) (end_of more) → AreWithin more ends
still_within tables more ends are grows = record {
  rising = are.rising;
  each = λ k d within. up_to_later _ (end_of tables) (end_of more) (are.each k d within) grows;
}

-- and with the end of these behind them they are its ends
pub ended_within : (tables : Tables) (ends : List WaveEnd) → AreWithin tables ends
    → AreWithin tables (ends ++ end_of tables ∷ [])
ended_within tables ends are = record {
  rising = all_pairs_push IsUpTo ends (end_of tables) are.rising are.each;
  each = All-push (λ end. IsUpTo end (end_of tables)) ends (end_of tables) are.each (up_to_itself (end_of tables));
}

-- so they are behind a later file
pub within_ended : (side : Side) (tables more : Tables) (ends : List WaveEnd) (waves : InWaves) → AreWithin tables ends
    → IsUpTo (end_of tables) (end_of more) → waves ≡ ended side more ends → AreWithin waves.tables waves.ends
within_ended R tables more ends waves are grows is = rw is (still_within tables more ends are grows)
within_ended S tables more ends waves are grows is =
    rw is (ended_within more ends (still_within tables more ends are grows))

-- one wave has one end
pub single_end : (tables : Tables) (ends : List WaveEnd) → AreEnds tables ends → length ends ≡ 1
    → ends ≡ end_of tables ∷ []
single_end tables ends are one = by are.before are.last
  where
    by : (before : List WaveEnd) → ends ≡ before ++ end_of tables ∷ [] → ends ≡ end_of tables ∷ []
    by [] is = is
    by (first ∷ others) is =
        let size : length ends ≡ suc (length others + 1) = ap length is ∙ ap suc (length_push others (end_of tables)) in
        absurd (omega (arith, size, one))
