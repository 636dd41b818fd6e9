use Rattle.std.proofs.Common.{◌≡◌, ◌≤◌, ◌<◌, ◌∙◌, ◌++◌, length, take, drop, arith, ap, length-take}
use Rattle.std.proofs.lemmas.List.{take-append-le}
use Rattle.join_rows.specs.Shelves.{AtEnd}
use Rattle.join_rows.proofs.Pieces.{piece-last, piece-more, piece-size, piece-spot, piece-still}
use Rattle.join_rows.proofs.read.read_whole.Goals as goal

pub returns-then-count-eq0-clause-ok : goal.returns-then-count-eq0-clause-ok
returns-then-count-eq0-clause-ok g c =
    let p = c.pieces.invariant in
    let r = c.in-Ok.ensures in
    let room : 0 < length (take c.min-room.result c.pieces.piece) =
    omega (
      arith,
      length-take c.min-room.result c.pieces.piece,
      c.min-room.ensures,
      c.len-in-pieces.ensures,
      c.len.ensures,
    ) in
    let end : AtEnd (g.H.Shelf.told c.args.shelf.now) (g.H.Shelf.picked c.pieces.shelf) =
    rw p.told at (c.in-Ok.ensures.end c.if-count-eq0.true room) in (
      r.counts ∙ p.count,
      p.known,
      piece-still c.args.name.now (g.H.Shelf.picked c.pieces.shelf) (g.H.Shelf.picked c.read.new.self)
          c.pieces.bytes.items c.in-Ok.count c.if-count-eq0.true p.spot r.moves,
      omega (arith, c.len.ensures),
      piece-last (g.H.Shelf.told c.args.shelf.now) c.args.name.now (g.H.Shelf.picked c.pieces.shelf)
          c.pieces.bytes.items p.spot end p.so_far,
    )

pub pieces-preserved : goal.pieces-preserved
pieces-preserved g c =
    let p = c.pieces.invariant in
    let r = c.in-Ok.ensures in
    let fits : c.in-Ok.count ≤ length c.read.new.into = omega (arith, r.room, c.read.auto.into) in
    let cut : take c.in-Ok.count (c.read.new.into ++ drop c.min-room.result c.pieces.piece)
    ≡ take c.in-Ok.count c.read.new.into = take-append-le _ _ _ fits in
    let items = c.in_ok-extend_from_slice.ensures.items ∙ ap (λ t. c.pieces.bytes.items ++ t) cut in
    let size = ap length items ∙ piece-size c.pieces.bytes.items c.read.new.into c.in-Ok.count fits in
    let next = rw p.told at r.next in
    record {
      told = c.in-Ok.ensures.told ∙ p.told;
      count = r.counts ∙ p.count;
      sound = λ h. (c.in-Ok.ensures.sound (p.sound h)).0;
      known = p.known;
      spot = rw items (piece-spot c.args.name.now (g.H.Shelf.picked c.pieces.shelf) (g.H.Shelf.picked c.read.new.self)
          c.pieces.bytes.items c.read.new.into c.in-Ok.count fits p.spot r.moves);
      few = omega (
        arith,
        size,
        r.room,
        length-take c.min-room.result c.pieces.piece,
        c.min-room.ensures,
        c.len-in-pieces.ensures,
        c.len.ensures,
      );
      so_far = λ file tells. rw items (piece-more (g.H.Shelf.told c.args.shelf.now) c.args.name.now
          (g.H.Shelf.picked c.pieces.shelf) c.pieces.bytes.items c.read.new.into c.in-Ok.count p.spot next fits p.so_far
          file tells);
    }
