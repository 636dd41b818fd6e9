-- Which words don't stand together.
use Rattle.std.specs.Prelude.{◌&&◌, Bool, List, [], ◌∷◌}
use Rattle.std.specs.List.{list_any}
use Rattle.join_words.specs.declared.apart.Given.{Given}
use Rattle.join_words.specs.declared.apart.Word.{Word}
use Rattle.join_words.specs.declared.apart.Word.TheVariants.{Fixed, Replay, Make, Early, Rows, Groups, Then, Rings}
use Rattle.join_words.specs.declared.apart.Word.TheVariants.{ManyFiles, Grow, FewFiles}

-- whether a word is given
abbrev pub has_word : Given → Word → Bool
has_word given Fixed = given.fixed
has_word given Replay = given.replay
has_word given Make = given.make
has_word given Early = given.early
has_word given Rows = given.rows
has_word given Groups = given.groups
has_word given Then = given.chain
has_word given Rings = given.rings
has_word given ManyFiles = given.many_files
has_word given Grow = given.grow
has_word given FewFiles = given.few_files

-- whether both words of a pair are
abbrev pub are_apart : Given → Word × Word → Bool
are_apart given pair = has_word given pair.0 && has_word given pair.1

-- whether a pair of the list has both its words
abbrev pub any_of : Given → List (Word × Word) → Bool
any_of given pairs = list_any (are_apart given) pairs

-- the pairs of words that don't stand together
abbrev pub apart : List (Word × Word)
apart =
    (Early, Replay) ∷ (Early, Make) ∷ (Early, Rows) ∷ (Make, Rows)
    ∷ (Groups, Fixed) ∷ (Groups, Early) ∷ (Groups, Replay) ∷ (Groups, ManyFiles) ∷ (Groups, Then)
    ∷ (Then, Early) ∷ (Then, Rows) ∷ (Then, Make) ∷ (Then, Replay)
    ∷ (Rings, Groups) ∷ (Rings, Then) ∷ (Rings, Early) ∷ (Rings, Replay) ∷ (Rings, ManyFiles)
    ∷ (Early, ManyFiles)
    ∷ (Grow, Fixed) ∷ (Grow, Groups) ∷ (Grow, Then) ∷ (Grow, Rings) ∷ (Grow, FewFiles) ∷ []
