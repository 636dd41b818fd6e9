use Rattle.std.proofs.Common.{◌≡◌, ◌<◌, false, ℕ, List, length, get_or, ap, ◌∙◌, subst, arith}
use Rattle.std.proofs.lemmas.List.{get_or_default}
use Rattle.ruled_links.specs.declared.parts.Part.{Part}
use Rattle.ruled_links.specs.Delivery.{number_of}
use Rattle.ruled_links.specs.Parts.{has_part}
use Rattle.ruled_links.proofs.IndexLemmas.{any_part, none_past, none_else}
use Rattle.ruled_links.proofs.parts.Parts.place_of.Goals as goal

pub returns-then-sender-len : goal.returns-then-sender-len
returns-then-sender-len c = subst (λ (ps : List Part). has_part c.args.sender ps ≡ false) c.self.view_is
    (none_past c.self.inside.places.items c.self.inside.parts.items c.args.sender any_part c.self.invariant
    (omega arith))

pub returns-then-place-len : goal.returns-then-place-len
returns-then-place-len c = let places = c.self.inside.places.items in let place = c.index-place.result.now in
    let known : c.args.sender < length places = omega arith in
    let at : place ≡ get_or places c.args.sender 0 = c.index-place.ensures
    ∙ get_or_default places c.args.sender place 0 known in
    subst (λ (ps : List Part). has_part c.args.sender ps ≡ false) c.self.view_is
    (none_else places c.self.inside.parts.items c.args.sender any_part c.self.invariant (λ less. absurd (omega arith)))

pub returns-else-found-sender : goal.returns-else-found-sender
returns-else-found-sender c = let places = c.self.inside.places.items in let ps = c.self.inside.parts.items in
    let place = c.index-place.result.now in
    let known : c.args.sender < length places = omega arith in
    let at : place ≡ get_or places c.args.sender 0 = c.index-place.ensures
    ∙ get_or_default places c.args.sender place 0 known in
    let less : place < length ps = omega arith in
    let part : c.index.result.now ≡ get_or ps place any_part =
    c.index.ensures ∙ get_or_default ps place c.index.result.now any_part less in
    subst (λ (l : List Part). has_part c.args.sender l ≡ false) c.self.view_is
    (none_else places ps c.args.sender any_part c.self.invariant
    (λ _ e. c.if-found-sender.false (c.number-found.ensures.is
    ∙ ap (λ (p : Part). number_of p.from) (part ∙ ap (λ (j : ℕ). get_or ps j any_part) at) ∙ e)))
