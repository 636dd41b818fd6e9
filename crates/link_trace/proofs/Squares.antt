-- As many lists wait at each of so many actors, and still do when what waits has changed.
use Rattle.std.proofs.Common.{◌≡◌, ℕ, zero, suc, ◌<◌, sym, ap, subst, ◌∙◌}
use Rattle.std.proofs.Common.{arith}
use Rattle.std.proofs.Common.{Option, Some, None, List, [], ◌∷◌, ◌++◌, get_or, set, length}
use Rattle.std.specs.List.{AllByRecursion}
use Rattle.std.proofs.lemmas.List.{length-map, length-set}
use Rattle.std.proofs.lemmas.List.Elements.{All-from_recursion, recursion_from_All}
use Rattle.epoch_tags.specs.declared.actor.Actor.{Actor}
use Rattle.epoch_tags.specs.declared.message.Msg.{Msg}
use Rattle.epoch_tags.specs.declared.message.Post.{Post}
use Rattle.actor_core.specs.declared.cast.Cast.{Cast}
use Rattle.actor_core.specs.Numbers.{at_number, number}
use Rattle.link_trace.specs.Worlds.{HasRoom, IsSquare, TakesOff, cores_of, waiting_at, waiting_of, waits, with_left}
use Rattle.link_trace.specs.Worlds.{with_post, with_posts, with_waiting}
use Rattle.link_trace.specs.declared.places.Place.{Place}

-- ---- what waits has changed

rows_with : (count : ℕ) (ws : List (List (List Msg))) (r s : ℕ) (ms : List Msg)
    → AllByRecursion (λ queues. length queues ≡ count) ws
    → AllByRecursion (λ queues. length queues ≡ count) (with_waiting ws r s ms)
rows_with count [] r s ms all = tt
rows_with count (w ∷ ws) zero s ms all = (length-set w s ms ∙ all.0, all.1)
rows_with count (w ∷ ws) (suc r) s ms all = (all.0, rows_with count ws r s ms all.1)

-- a square stays one where another list waits at one place
pub square_with : (count : ℕ) (ws : List (List (List Msg))) (r s : ℕ) (ms : List Msg) → IsSquare count ws
    → IsSquare count (with_waiting ws r s ms)
square_with count ws r s ms square = record {
  tall = length-set ws r (set (get_or ws r []) s ms) ∙ square.tall;
  wide = All-from_recursion (λ queues. length queues ≡ count) (with_waiting ws r s ms)
      (rows_with count ws r s ms (recursion_from_All (λ queues. length queues ≡ count) ws square.wide));
}

-- and where what is left on a link was changed
pub square_left : (cast : Cast) (count : ℕ) (from to : Actor) (change : List Msg → List Msg)
    (ws : List (List (List Msg))) → IsSquare count ws → IsSquare count (with_left cast from to change ws)
square_left cast count from to change ws square =
    go (number cast from) (number cast to)
  where
    go : (i k : Option ℕ) → IsSquare count (at_number ws i (λ sender. at_number ws k
        (λ receiver. with_waiting ws receiver sender (change (waits ws receiver sender)))))
    go None k = square
    go (Some s) None = square
    go (Some s) (Some r) = square_with count ws r s (change (waits ws r s)) square

-- and where posts came on their links
pub square_posts : (cast : Cast) (count : ℕ) (from : Actor) (posts : List Post) (ws : List (List (List Msg)))
    → IsSquare count ws → IsSquare count (with_posts cast from posts ws)
square_posts cast count from [] ws square = square
square_posts cast count from (post ∷ posts) ws square =
    square_posts cast count from posts (with_post cast from post ws)
    (square_left cast count from post.to (λ ms. ms ++ post.msg ∷ []) ws square)

-- ---- there is room

row_long : (count : ℕ) (ws : List (List (List Msg))) (r : ℕ) → AllByRecursion (λ queues. length queues ≡ count) ws
    → r < length ws → length (get_or ws r []) ≡ count
row_long count [] r all low = absurd (omega arith)
row_long count (w ∷ ws) zero all low = all.0
row_long count (w ∷ ws) (suc r) all low = row_long count ws r all.1 (omega arith)

-- where as many lists wait at each of so many actors, there is one at each number below it for each
pub has_room : (count : ℕ) (ws : List (List (List Msg))) (r s : ℕ) → IsSquare count ws → r < count → s < count
    → HasRoom ws r s
has_room count ws r s square low low' =
    let within = subst (λ n. r < n) (sym square.tall) low in
    let long = row_long count ws r (recursion_from_All (λ queues. length queues ≡ count) ws square.wide) within in
    record { receiver_is = within; sender_is = subst (λ n. s < n) (sym long) low' }

-- ---- places

-- as many places as machines
pub places_by_cores : (places : List Place) → length (cores_of places) ≡ length places
places_by_cores places = length-map places (λ (p : Place). p.core)

-- and as lists of lists that wait
pub places_by_waiting : (places : List Place) → length (waiting_of places) ≡ length places
places_by_waiting places = length-map places waiting_at

-- so there are as many machines as actors
pub machines_there : (count : ℕ) (places : List Place) → IsSquare count (waiting_of places)
    → length (cores_of places) ≡ count
machines_there count places square = places_by_cores places ∙ (sym (places_by_waiting places) ∙ square.tall)

-- taking a message off leaves a place at its receiver's number
pub receiver_there : (receiver sender : ℕ) (m : Msg) (places taken : List Place)
    → TakesOff receiver sender m (waiting_of places) (waiting_of taken)
    → cores_of taken ≡ cores_of places → receiver < length taken
receiver_there receiver sender m places taken took same =
    subst (λ n. receiver < n)
    (places_by_waiting places ∙ (sym (places_by_cores places) ∙ (sym (ap length same) ∙ places_by_cores taken)))
    took.room.receiver_is
