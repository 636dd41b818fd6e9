-- An input whose rows of R are dealt out to groups of joiners.
use Rattle.std.specs.Prelude.{◌≡◌, ◌<◌, ◌≤◌, All, length}
use Rattle.trace_law.specs.Validity.{IsValidInput}
use Rattle.group_split.specs.declared.parts.Dealt.{Dealt}

-- the input is valid, and each row of R has a number below that of joiners
pub record IsDealt (dealt : Dealt) : Type 0 where
  pub input : IsValidInput dealt.input.now
  pub few : dealt.joiners ≤ 64
  pub many : length dealt.numbers.now ≡ length dealt.input.now.table_r.rows
  pub below : All (λ number. number < dealt.joiners) dealt.numbers.now
