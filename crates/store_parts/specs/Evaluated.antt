-- Which stored tuples a probe looks at and evaluates, and how many.
use Rattle.std.specs.Prelude.{ℕ, Bool, true, ◌&&◌, Option, Some, None, List, count_by}
use Rattle.epoch_tags.specs.declared.tuple.Tuple.{Tuple}
use Rattle.theta_pred.specs.declared.atom.KeyAtom.{KeyAtom}
use Rattle.theta_pred.specs.declared.agree.Access.{Access}
use Rattle.store_parts.specs.Keyed.{is_key_true}
use Rattle.store_parts.specs.Accessed.{asked, is_admitted, number_at}
use Rattle.store_parts.specs.Places.{lies_in}
use Rattle.store_parts.specs.Matches.{is_named, other_side}
use Rattle.store_parts.specs.declared.by_stamp.Which.{Which}

-- whether a store with this key evaluates the predicate for a stored tuple: where it is named, and the key atom, if
-- there is one, is true
abbrev pub is_evaluated : Option KeyAtom → Tuple → Which → Tuple → Bool
is_evaluated None t which other = is_named which other
is_evaluated (Some key) t which other = is_named which other && is_key_true key t other

-- how many of the others a probe evaluates
abbrev pub evaluated : Option KeyAtom → Tuple → Which → List Tuple → ℕ
evaluated key t which others = count_by (is_evaluated key t which) others

-- how many of the others are named and agree with the tuple in all of an access
abbrev pub admitted : Access → Tuple → Which → List Tuple → ℕ
admitted access t which others = count_by (λ other. is_named which other && is_admitted access t other) others

-- whether a joiner's probe evaluates the predicate for a stored tuple: where it is named, and agrees in all of the
-- access; in a store without one, where a probe that is counted does
abbrev pub is_looked_at : Option KeyAtom → Option Access → Tuple → Which → Tuple → Bool
is_looked_at key (Some access) t which other = is_named which other && is_admitted access t other
is_looked_at key None t which other = is_evaluated key t which other

-- how many of the others it evaluates
abbrev pub looked_at : Option KeyAtom → Option Access → Tuple → Which → List Tuple → ℕ
looked_at key access t which others = count_by (is_looked_at key access t which) others

-- whether a stored tuple stands where a tuple that probes asks for others, by an access
abbrev pub does_stand : Access → Tuple → Tuple → Bool
does_stand access t other = lies_in (asked access t) (number_at access (other_side t.side) other)

-- whether a joiner's probe looks at a stored tuple: where its number lies between those that the access asks for; in a
-- store without one, where its value lies between those of the key; in a store with neither, in any case
abbrev pub stands_by : Option KeyAtom → Option Access → Tuple → Tuple → Bool
stands_by key (Some access) t other = does_stand access t other
stands_by (Some key) None t other = is_key_true key t other
stands_by None None t other = true
