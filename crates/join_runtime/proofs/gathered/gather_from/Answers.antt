use Rattle.std.proofs.Common.{◌≡◌, ◌∙◌, ap, arith, false, get_or, length, subst, sym}
use Rattle.std.proofs.lemmas.List.{length-set}
use Rattle.join_runtime.specs.Serving.{IsServed}
use Rattle.join_runtime.specs.Views.{SeatView}
use Rattle.join_runtime.proofs.TakenMouths.{served_back, told_given, without}
use Rattle.join_runtime.proofs.gathered.gather_from.Goals as goal

pub give_mouths-requires : goal.give_mouths-requires
give_mouths-requires g c =
    let seats = c.args.seats.now in
    let sender = c.args.sender in
    let s = c.index-seats-sender.result in
    let is = c.index-seats-sender.is in
    let last = c.index-seats-sender-2.result in
    let is' = c.index-seats-sender-2.is in
    let t = c.take_mouths-mouths.new.self in
    let after = c.gather_row.new.seats in
    let mouths = c.take_mouths-mouths.result.items in
    let long : length after ≡ length seats = c.gather_row.auto.seats ∙ length-set seats sender t in
    let away : t ≡ without s = c.take_mouths-mouths.ensures.rest ∙ ap without (sym is) in
    let own : mouths ≡ s.mouths = c.take_mouths-mouths.ensures.mouths ∙ ap (λ (x : SeatView). x.mouths) (sym is) in
    let served = c.take_mouths-mouths.ensures.served (c.requires.none_spent sender s c.requires.sender) in
    let mine = subst (λ (x : SeatView). IsServed x.cast x.mouths x.core) (sym is) served in
    let back = served_back seats after sender s t last mouths c.requires.sender long is away own is'
    (λ r d low. c.gather_row.ensures.told r d (omega (arith, low, length-set seats sender t))) mine in
    subst (λ ms. IsServed (get_or after sender last).cast ms
    (get_or after sender last).core) (sym c.gather_row.ensures.mouths)
    (subst (λ (x : SeatView). IsServed x.cast mouths x.core) is' back)

pub returns : goal.returns
returns g c =
    let seats = c.args.seats.now in
    let sender = c.args.sender in
    let s = c.index-seats-sender.result in
    let is = c.index-seats-sender.is in
    let last = c.index-seats-sender-2.result in
    let is' = c.index-seats-sender-2.is in
    let t = c.take_mouths-mouths.new.self in
    let after = c.gather_row.new.seats in
    let mouths = c.take_mouths-mouths.result.items in
    let new = c.give_mouths.new.self in
    let long : length after ≡ length seats = c.gather_row.auto.seats ∙ length-set seats sender t in
    let away : t ≡ without s = c.take_mouths-mouths.ensures.rest ∙ ap without (sym is) in
    let own : mouths ≡ s.mouths = c.take_mouths-mouths.ensures.mouths ∙ ap (λ (x : SeatView). x.mouths) (sym is) in
    let awake : s.spent ≡ false = ap (λ (x : SeatView). x.spent) is
    ∙ c.requires.none_spent sender s c.requires.sender in
    let now : new ≡ record last { mouths = mouths; spent = false } =
    c.give_mouths.ensures
    ∙ (ap (λ (x : SeatView). record x { mouths = c.gather_row.new.mouths.items; spent = false }) (sym is')
    ∙ ap (λ ms. record last { mouths = ms; spent = false }) c.gather_row.ensures.mouths) in
    record {
      told = told_given seats after sender s t last mouths c.requires.sender long is away own is'
          (λ r d low. c.gather_row.ensures.told r d (omega (arith, low, length-set seats sender t))) new awake now;
    }
