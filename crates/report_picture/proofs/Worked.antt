-- Worked examples of where a report may begin, and of shades, ratios and bars, by computation.
use Rattle.std.proofs.Common.{◌≡◌, refl, arith}
use Rattle.std.specs.Prelude.{codes}
use Rattle.report_picture.specs.Texts.{BeginsLine, MayBegin}
use Rattle.report_picture.specs.Drawing.{hundredths_of, bar_of}

-- behind a line that ends
behind_a_pair : MayBegin (codes "1,1\ninput 1 2\n") 4
behind_a_pair = record { line = λ _. refl; input = refl }

-- not within a line, whatever stands there
within_a_line : BeginsLine (codes "1,input 1 2\n") 2 → ⊥
within_a_line begins = let comma : 44 ≡ 10 = begins (omega arith) in omega (arith, comma)

-- at the beginning
at_the_beginning : MayBegin (codes "input 1 2\n") 0
at_the_beginning = record { line = λ positive. absurd (omega (arith, positive)); input = refl }

-- 15 copies where the fewest are 12 are just 5/4 of them, and fill the scale; 13 are 1.08 of them
five_quarters : hundredths_of 15 12 ≡ 125
five_quarters = refl

full_scale : bar_of 15 12 ≡ 400
full_scale = refl

a_twelfth_more : hundredths_of 13 12 ≡ 108
a_twelfth_more = refl

a_third_of_the_scale : bar_of 13 12 ≡ 133
a_third_of_the_scale = refl

-- past the scale it stays full
past_the_scale : bar_of 1203 312 ≡ 400
past_the_scale = refl

-- no rows
nothing : hundredths_of 0 0 ≡ 100
nothing = refl
