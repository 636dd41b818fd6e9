-- Which kinds of things can stand at a place.
use Rattle.std.specs.Prelude.{◌≡◌, ◌⊎◌, ℕ, List, [], ◌∷◌, Option, Some, None, MatchOption, codes}
use Rattle.predicate_hints.specs.declared.kinds.Expected.{Expected}
use Rattle.predicate_hints.specs.declared.kinds.Expected.TheVariants.{Column, Number, Text, Distance, Quoted, Not, Open}
use Rattle.predicate_hints.specs.declared.kinds.Expected.TheVariants.{Close, Point, Name, Sign, Comparison, And, Or}
use Rattle.predicate_hints.specs.declared.kinds.Expected.TheVariants.{End}
use Rattle.predicate_hints.specs.Follow.{MayEnd, MayFollow}

-- the kinds in the order in which they are listed
abbrev pub kinds : List Expected
kinds =
    Column ∷ Number ∷ Text ∷ Distance ∷ Quoted ∷ Not ∷ Open ∷ Close ∷ Point ∷ Name ∷ Sign ∷ Comparison
    ∷ And ∷ Or ∷ End ∷ []

-- What is tried for a kind; for the end nothing is. A word stands with what makes it more than a name, since behind a
-- point each word is one.
abbrev pub sample_of : Expected → Option (List ℕ)
sample_of Column = Some (codes "r.x")
sample_of Number = Some (codes "0")
sample_of Text = Some (codes "text(")
sample_of Distance = Some (codes "abs(")
sample_of Quoted = Some (codes "''")
sample_of Not = Some (codes "not 0")
sample_of Open = Some (codes "(")
sample_of Close = Some (codes ")")
sample_of Point = Some (codes ".")
sample_of Name = Some (codes "x")
sample_of Sign = Some (codes "+")
sample_of Comparison = Some (codes "=")
sample_of And = Some (codes "and 0")
sample_of Or = Some (codes "or 0")
sample_of End = None

-- a thing of this kind can stand at the place
abbrev pub CanStand : List ℕ → ℕ → Expected → Type 0
CanStand text place kind = MatchOption (sample_of kind) (MayEnd text place) (MayFollow text place)

-- those of the kinds of which a fact holds, in their order, and no others
abbrev pub AreThose : (Expected → Type 0) → List Expected → List Expected → Type 0
AreThose Holds [] found = found ≡ []
AreThose Holds (kind ∷ others) found =
    (Holds kind × ((rest : List Expected) × (found ≡ kind ∷ rest) × AreThose Holds others rest))
    ⊎ (¬ (Holds kind) × AreThose Holds others found)
