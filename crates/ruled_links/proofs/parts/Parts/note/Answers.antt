use Rattle.std.proofs.Common.{◌≡◌, ◌<◌, length, get_or, map, List, sym, ap, ◌∙◌, subst}
use Rattle.ruled_links.specs.declared.parts.Part.{Part}
use Rattle.ruled_links.specs.Delivery.{number_of}
use Rattle.ruled_links.specs.Parts.{noted, IsIndexed}
use Rattle.ruled_links.proofs.IndexLemmas.{any_part, note_found, note_none, index_notes}
use Rattle.ruled_links.proofs.parts.Parts.note.Goals as goal

-- the one part that is noted is all that is noted
one : (c : goal.After-note_at) → c.note_at.new.parts.items ≡ map (noted c.args.sender) c.self.inside.parts.items
one c = let ps = c.self.inside.parts.items in let k = c.in-Some.place in
    let found : (k < length ps) × ((d : Part) → number_of (get_or ps k d).from ≡ c.args.sender) =
    subst (λ (l : List Part). (k < length l) × ((d : Part) → number_of (get_or l k d).from ≡ c.args.sender))
    (sym c.self.view_is) (c.in-Some.ensures {u = tt}) in
    c.note_at.ensures any_part ∙ note_found c.self.inside.places.items ps c.args.sender k any_part c.self.invariant
    found.0 (found.1 any_part)

pub invariant_of-self : goal.invariant_of-self
invariant_of-self c = subst (λ (l : List Part). IsIndexed c.self.inside.places.items l) (sym (one c))
    (index_notes c.args.sender c.self.inside.places.items c.self.inside.parts.items c.self.invariant)

pub returns-in-Some : goal.returns-in-Some
returns-in-Some c = one c ∙ ap (λ (l : List Part). map (noted c.args.sender) l) c.self.view_is

pub returns-in_default : goal.returns-in_default
returns-in_default c = note_none c.args.sender c.args.self.now (c.in_default.ensures {u = tt})
