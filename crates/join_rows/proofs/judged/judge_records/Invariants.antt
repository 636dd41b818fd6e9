use Rattle.std.proofs.Common.{◌≡◌, ◌-◌, ℕ, List, Some}
use Rattle.csv.specs.Reading.{Ready, default_config, source_of}
use Rattle.csv.specs.declared.reader.Trim.TheVariants as trim
use Rattle.join_rows.specs.Records.{after_marks}
use Rattle.join_rows.proofs.JudgedRows.{AreJudged}
use Rattle.join_rows.proofs.judged.judge_records.Given as goal

abbrev pub invariant-rows : goal.invariant-rows
invariant-rows l =
    (l.reader.trim ≡ trim.None) × Ready l.reader × (l.reader.config ≡ default_config)
    × (left : List ℕ) × (source_of (λ s. Some s.now) l.reader ≡ Some left)
    × AreJudged (after_marks l.fn.text) l.width l.count l.reader.state left

abbrev pub decreases-rows : goal.decreases-rows
decreases-rows l = 262144 - l.count
