use Rattle.std.proofs.Common.{◌≡◌, false, ◌++◌, ◌∷◌, ◌<◌, [], ℕ, List, length, set, arith, sym, ap, ◌∙◌, subst}
use Rattle.ruled_links.specs.declared.parts.Part.{Part}
use Rattle.ruled_links.specs.Delivery.{number_of}
use Rattle.ruled_links.specs.Parts.{has_part, IsIndexed}
use Rattle.ruled_links.proofs.IndexLemmas.{index_push}
use Rattle.ruled_links.proofs.parts.Parts.push.Goals as goal

pub invariant_of-self-2 : goal.invariant_of-self-2
invariant_of-self-2 c = let ps = c.self.inside.parts.items in
    let p : Part = record { from = c.args.from; taken = 0; known = 0 } in
    let wider = c.make_room.new.places.items in
    let stays : c.reserve.new.self.items ≡ ps = c.in_ok-reserve.ensures.items in
    let made : c.push_reserved.new.self.items ≡ ps ++ p ∷ [] =
    c.push_reserved.ensures.items ∙ ap (λ (l : List Part). l ++ p ∷ []) stays in
    let at : c.len.result ≡ length ps = omega (arith, ap length stays) in
    let new : has_part (number_of c.args.from) ps ≡ false =
    subst (λ (l : List Part). has_part (number_of c.args.from) l ≡ false) (sym c.self.view_is) c.requires in
    let is = c.number-sender.ensures.is in
    let room = c.in_ok-make_room.ensures {u = tt} in
    subst (λ (l : List Part). IsIndexed (set wider c.number-sender.result c.len.result) l) (sym made)
    (subst (λ (y : ℕ × ℕ). IsIndexed (set wider y.0 y.1) (ps ++ p ∷ [])) (λ i. (sym is i, sym at i))
    (index_push c.self.inside.places.items wider ps p c.self.invariant new
    (subst (λ (n : ℕ). n < length wider) is room.room) room.longer room.same))
