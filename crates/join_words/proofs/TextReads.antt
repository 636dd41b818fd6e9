-- What the getters of clap give, as words on the rows of a match.
use Rattle.std.proofs.Common.{◌≡◌, ◌∙◌, List, [], Option, Some, None, ap, sym, length}
use Rattle.std.specs.Prelude.{option_map, unwrap_or}
use Rattle.std.specs.Borrow.{Bor}
use Rattle.std.proofs.lemmas.List.{length-map}
use Rattle.clap.specs.Matches.{first_value, matched_of, raw_values}
use Rattle.clap.specs.Walk.{Text, rows_of, first_of, all_of, texts}
use Rattle.clap.specs.declared.parser.matches.Found.{Found}
use Rattle.clap.proofs.WalkLemmas.{first_value-rows, raw_values-rows}

-- `get_str`, whose answer was this
pub first_is : (found : Found) (id : Text) (got this : Option (Bor Text))
    → option_map (λ s. s.now) got ≡ first_value found id → got ≡ this
    → option_map (λ s. s.now) this ≡ first_of id (rows_of found)
first_is found id got this gives is = sym (ap (option_map (λ (s : Bor Text). s.now)) is) ∙ gives
    ∙ first_value-rows found id

-- `get_strs`, whose answer was this
pub all_is : (found : Found) (id : Text) (got this : Option (Bor (List (Bor Text))))
    → option_map (λ s. texts s.now) got ≡ option_map raw_values (matched_of found id) → got ≡ this
    → option_map (λ s. texts s.now) this ≡ all_of id (rows_of found)
all_is found id got this gives is = sym (ap (option_map (λ (s : Bor (List (Bor Text))). texts s.now)) is) ∙ gives
    ∙ raw_values-rows found id

-- how many values there are, where there are some
pub count_of_some : (found : Found) (id : Text) (got : Option (Bor (List (Bor Text)))) (some : Bor (List (Bor Text)))
    → option_map (λ s. texts s.now) got ≡ option_map raw_values (matched_of found id) → got ≡ Some some
    → length some.now ≡ length (unwrap_or (all_of id (rows_of found)) [])
count_of_some found id got some gives is =
    sym (length-map some.now (λ (s : Bor Text). s.now))
    ∙ ap (λ (all : Option (List Text)). length (unwrap_or all [])) (all_is found id got (Some some) gives is)

-- where there are none
pub count_of_none : (found : Found) (id : Text) (got : Option (Bor (List (Bor Text))))
    → option_map (λ s. texts s.now) got ≡ option_map raw_values (matched_of found id) → got ≡ None
    → 0 ≡ length (unwrap_or (all_of id (rows_of found)) [])
count_of_none found id got gives is =
    ap (λ (all : Option (List Text)). length (unwrap_or all [])) (all_is found id got None gives is)
