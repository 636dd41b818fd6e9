-- A value that the command takes passed the parser of its argument.
use Rattle.std.proofs.Common.{◌≡◌, ◌∙◌, ◌<◌, ◌+◌, ◌&&◌, ◌||◌, not, inl, inr, ℕ, zero, suc, List, [], ◌∷◌, Bool, true}
use Rattle.std.proofs.Common.{false, Option, Some, None, refl, ap, sym, subst, map, length, codes, arith}
use Rattle.std.specs.Prelude.{option_map, slice_get, nat_eq}
use Rattle.std.specs.List.{All, list_all, slice_index_or}
use Rattle.std.specs.Str.{bytes_eq}
use Rattle.std.specs.Borrow.{Bor}
use Rattle.std.proofs.lemmas.List.{get_or-map, length-map}
use Rattle.std.proofs.lemmas.List.Elements.{All-get_or}
use Rattle.std.proofs.lemmas.Slice.Eq.{bytes_eq-Decides}
use Rattle.clap.specs.Built.{IsAuto, IsParsedFrom, SameRules}
use Rattle.clap.specs.Facts.{Entry, EntryPasses, PassesArg, args_of, groups_of, parser_of, parser_of_value}
use Rattle.clap.specs.Matches.{first_value, found_of, matched_of}
use Rattle.clap.specs.Simple.{App, app_of}
use Rattle.clap.specs.Values.{Accepts, IsUnsignedIn}
use Rattle.clap.specs.Walk.{Rule, Text, rule_of}
use Rattle.clap.specs.declared.builder.arg.Arg.{Arg}
use Rattle.clap.specs.declared.builder.command.Command.{Command}
use Rattle.clap.specs.declared.builder.value_parser.ValueParser.{ValueParser}
use Rattle.clap.specs.declared.builder.value_parser.ValueParser.TheVariants as vp
use Rattle.clap.specs.declared.parser.matches.ArgMatches.{ArgMatches}
use Rattle.clap.specs.declared.parser.matches.MatchedArg.{MatchedArg}
use Rattle.clap.proofs.CallerLemmas.{entry_by_id, same_rules_by_id}
use Rattle.clap.proofs.SimpleLemmas.{plain_fields, simple_groups}
use Rattle.join_words.specs.Command.{IsCommand, jm_command, rules}

-- of the ids from place i on, only that at place k is id
abbrev pub only : ℕ → List Rule → ℕ → Text → Bool
only i [] k id = true
only i (r ∷ rs) k id = (not (bytes_eq r.id id) || nat_eq i k) && only (suc i) rs k id

split : (a b : Bool) → (a && b) ≡ true → (a ≡ true) × (b ≡ true)
split true b e = (refl, e)
split false b e = cc

here : (i k : ℕ) (b : Bool) → (not b || nat_eq i k) ≡ true → b ≡ true → i ≡ k
here i k true e t = grind arith
here i k false e t = cc

-- so an argument with this id is the one at that place
pub only_at : (i : ℕ) (rs : List Rule) (k : ℕ) (id : Text) → only i rs k id ≡ true → (j : ℕ) (d : Rule) → j < length rs
    → bytes_eq (slice_index_or rs j d).id id ≡ true → i + j ≡ k
only_at i [] k id all j d lt same = absurd (omega arith)
only_at i (r ∷ rs) k id all zero d lt same =
    let at : i ≡ k = here i k (bytes_eq r.id id) (split _ _ all).0 same in
    omega arith
only_at i (r ∷ rs) k id all (suc j) d lt same =
    let inside : j < length rs = omega arith in
    let rest : only (suc i) rs k id ≡ true = (split (not (bytes_eq r.id id) || nat_eq i k) (only (suc i) rs k id)
    all).1 in
    let e : suc i + j ≡ k = only_at (suc i) rs k id rest j d inside same in
    omega arith

-- what the k-th argument of the command is
pub record IsArg (rs : List Rule) (k : ℕ) (id : Text) (q : ValueParser) : Type 0 where
  pub in_range : k < length rs
  pub is_id : (d : Rule) → (slice_index_or rs k d).id ≡ id
  pub has_parser : (d : Rule) → (slice_index_or rs k d).parser ≡ Some q
  pub in_case : (d : Rule) → (slice_index_or rs k d).ignore_case ≡ false
  pub is_only : only 0 rs k id ≡ true
  pub no_help : bytes_eq id (codes "help") ≡ false
  pub no_version : bytes_eq id (codes "version") ≡ false
  pub named : bytes_eq id [] ≡ false

same_text : (a b : Text) → a ≡ b → bytes_eq a b ≡ false → ⊥
same_text a b e differ = let t : bytes_eq a b ≡ true = (bytes_eq-Decides a b).1 e in cc

module _ (old : Command) (m : ArgMatches) (p : IsParsedFrom old m) (rs : List Rule)
    (are : map rule_of (args_of old) ≡ rs) where
  rule_at : (k : ℕ) (d : Arg) → k < length rs → rule_of (slice_index_or (args_of old) k d)
      ≡ slice_index_or rs k (rule_of d)
  rule_at k d lt =
      let same : length rs ≡ length (args_of old) = sym (ap length are) ∙ length-map (args_of old) rule_of in
      let low : k < length (args_of old) = omega arith in
      sym (get_or-map rule_of (args_of old) k d (rule_of d) low)
      ∙ ap (λ (l : List Rule). slice_index_or l k (rule_of d)) are

  passes : (k : ℕ) (id : Text) (q : ValueParser) → IsArg rs k id q → (w : Text) (v : Text) → w ≡ id
      → PassesArg p.built w v → Accepts false q v
  passes k id q is w v key pass =
      let d : Arg = pass.1 in
      let same : length rs ≡ length (args_of old) = sym (ap length are) ∙ length-map (args_of old) rule_of in
      let lt0 = is.in_range in
      let lt : k < length (args_of old) = omega arith in
      let rule = rule_at k d is.in_range in
      let id_is : (slice_index_or (args_of old) k d).id.now ≡ id =
      ap (λ (r : Rule). r.id) rule ∙ is.is_id (rule_of d) in
      let parser_is : (slice_index_or (args_of old) k d).value_parser ≡ Some q =
      ap (λ (r : Rule). r.parser) rule ∙ is.has_parser (rule_of d) in
      let case_is : (slice_index_or (args_of old) k d).ignore_case ≡ false =
      ap (λ (r : Rule). r.ignore_case) rule ∙ is.in_case (rule_of d) in
      let unique : (j : ℕ) (e : Arg) → j < length (args_of old)
      → bytes_eq (slice_index_or (args_of old) j e).id.now (slice_index_or (args_of old) k d).id.now ≡ true → j ≡ k =
      λ j e low eq.
      let at : bytes_eq (slice_index_or rs j (rule_of e)).id id ≡ true =
      subst (λ (x : Text). bytes_eq (slice_index_or rs j (rule_of e)).id x ≡ true) id_is
      (subst (λ (r : Rule). bytes_eq r.id (slice_index_or (args_of old) k d).id.now ≡ true)
      (rule_at j e (omega arith)) eq) in
      let e0 : 0 + j ≡ k = only_at 0 rs k id is.is_only j (rule_of e) (omega arith) at in
      omega arith in
      let own : IsAuto (slice_index_or (args_of old) k d) → ⊥ = λ auto. elim auto [
        | inl h ↦ same_text id (codes "help") (sym id_is ∙ h) is.no_help
        | inr h ↦ same_text id (codes "version") (sym id_is ∙ h) is.no_version
      ] in
      let named : bytes_eq d.id.now (slice_index_or (args_of old) k d).id.now ≡ true =
      subst (λ (x : Text). bytes_eq d.id.now x ≡ true) (key ∙ sym id_is) pass.4.0 in
      let s : SameRules (slice_index_or (args_of old) k d) d =
      same_rules_by_id old m p k d lt unique own pass.0 d pass.2 pass.3 named in
      let is_q : parser_of d ≡ q = ap parser_of_value (s.parser q parser_is) in
      let is_case : d.ignore_case ≡ false = s.ignore_case ∙ case_is in
      subst (λ (b : Bool). Accepts b q v) is_case (subst (λ (w : ValueParser). Accepts d.ignore_case w v) is_q pass.4.1)

  module _ (no_groups : groups_of p.built ≡ []) where
    values_pass : (k : ℕ) (id : Text) (q : ValueParser) → IsArg rs k id q → (e : Entry) (x : MatchedArg) → e.1 ≡ x
        → e.0.now ≡ id → EntryPasses p.built e → All (λ v. Accepts false q v.now) x.vals.items
    values_pass k id q is e x same key pass = elim pass.0 [
      | inl g ↦ elim (pass.3 g) [
        | inl empty ↦ absurd (same_text id [] (sym key ∙ empty) is.named)
        | inr lots ↦
            let bad : 0 < 0 = rw no_groups at lots in
            absurd (omega arith)
      ]
      | inr vals ↦ λ i d lt. subst (λ (y : MatchedArg). (i : ℕ) (d : Bor Text) → i < length y.vals.items
          → Accepts false q (slice_index_or y.vals.items i d).now) same
          (λ j f low. passes k id q is e.0.now (slice_index_or e.1.vals.items j f).now key (vals j f low)) i d lt
    ]

    first_passes : (q : ValueParser) (vs : List (Bor Text)) (t : Text) → All (λ v. Accepts false q v.now) vs
        → option_map (λ s. s.now) (slice_get vs 0) ≡ Some t → Accepts false q t
    first_passes q [] t all is = cc
    first_passes q (v ∷ vs) t all is =
        let e : v.now ≡ t = cc in
        subst (λ (x : Text). Accepts false q x) e (All-get_or (λ w. Accepts false q w.now) (v ∷ vs) 0 v (omega arith)
        all)

    -- the first value of an argument
    pub first_accepted : (k : ℕ) (id : Text) (q : ValueParser) → IsArg rs k id q
        → All (EntryPasses p.built) (found_of m).entries.items
        → (t : Text) → first_value (found_of m) id ≡ Some t → Accepts false q t
    first_accepted k id q is all t value = go (matched_of (found_of m) id) refl value
      where
        go : (o : Option MatchedArg) → matched_of (found_of m) id ≡ o → first_value (found_of m) id ≡ Some t
            → Accepts false q t
        go None e h =
            let bad : None ≡ Some t = rw e at h in
            cc
        go (Some x) e h =
            let got = entry_by_id (EntryPasses p.built) (found_of m).entries.items id x all e in
            first_passes q x.vals.items t (values_pass k id q is got.0 x got.1
            ((bytes_eq-Decides got.0.0.now id).0 got.2) got.3) (rw e at h)

-- ---- the command of `jm`

rules_are : jm_command.top.rules ≡ rules
unfolding jm_command
rules_are = refl

are_plain : jm_command.top.is_plain ≡ true
unfolding jm_command
are_plain = refl

are_simple : list_all (λ r. r.is_simple) jm_command.top.rules ≡ true
unfolding jm_command
are_simple = refl

command_accepts : (old : Command) (m : ArgMatches) → IsParsedFrom old m → IsCommand (app_of old)
    → (k : ℕ) (id : Text) (q : ValueParser) → IsArg rules k id q
    → (t : Text) → first_value (found_of m) id ≡ Some t → Accepts false q t
command_accepts old m p command k id q is t value =
    let are : map rule_of (args_of old) ≡ rules = ap (λ (a : App). a.top.rules) command.is ∙ rules_are in
    let plain = plain_fields old (ap (λ (a : App). a.top.is_plain) command.is ∙ are_plain) in
    let groups : All (λ a. a.groups.items ≡ []) (args_of old) =
    simple_groups old (ap (λ (a : App). list_all (λ r. r.is_simple) a.top.rules) command.is ∙ are_simple) in
    let no_groups : groups_of p.built ≡ [] = (p.from.same_groups groups).1 ∙ plain.groups in
    let parsed = p.parsed (p.from.globals ∙ plain.globals) in
    first_accepted old m p rules are no_groups k id q is parsed.values t value

feeders_is : IsArg rules 2 (codes "feeders") (vp.Unsigned 1 8)
feeders_is = record {
  in_range = omega arith;
  is_id = λ d. refl;
  has_parser = λ d. refl;
  in_case = λ d. refl;
  is_only = refl;
  no_help = refl;
  no_version = refl;
  named = refl;
}

workers_is : IsArg rules 3 (codes "workers") (vp.Unsigned 1 16)
workers_is = record {
  in_range = omega arith;
  is_id = λ d. refl;
  has_parser = λ d. refl;
  in_case = λ d. refl;
  is_only = refl;
  no_help = refl;
  no_version = refl;
  named = refl;
}

batch_is : IsArg rules 4 (codes "batch") (vp.Unsigned 1 4096)
batch_is = record {
  in_range = omega arith;
  is_id = λ d. refl;
  has_parser = λ d. refl;
  in_case = λ d. refl;
  is_only = refl;
  no_help = refl;
  no_version = refl;
  named = refl;
}

joiners_is : IsArg rules 1 (codes "joiners") (vp.Unsigned 1 64)
joiners_is = record {
  in_range = omega arith;
  is_id = λ d. refl;
  has_parser = λ d. refl;
  in_case = λ d. refl;
  is_only = refl;
  no_help = refl;
  no_version = refl;
  named = refl;
}

make_is : IsArg rules 11 (codes "make") (vp.Unsigned 1 65536)
make_is = record {
  in_range = omega arith;
  is_id = λ d. refl;
  has_parser = λ d. refl;
  in_case = λ d. refl;
  is_only = refl;
  no_help = refl;
  no_version = refl;
  named = refl;
}

weight_r_is : IsArg rules 8 (codes "weight-r") (vp.Unsigned 1 1024)
weight_r_is = record {
  in_range = omega arith;
  is_id = λ d. refl;
  has_parser = λ d. refl;
  in_case = λ d. refl;
  is_only = refl;
  no_help = refl;
  no_version = refl;
  named = refl;
}

weight_s_is : IsArg rules 9 (codes "weight-s") (vp.Unsigned 1 1024)
weight_s_is = record {
  in_range = omega arith;
  is_id = λ d. refl;
  has_parser = λ d. refl;
  in_case = λ d. refl;
  is_only = refl;
  no_help = refl;
  no_version = refl;
  named = refl;
}

grow_is : IsArg rules 18 (codes "grow") (vp.Unsigned 1 3)
grow_is = record {
  in_range = omega arith;
  is_id = λ d. refl;
  has_parser = λ d. refl;
  in_case = λ d. refl;
  is_only = refl;
  no_help = refl;
  no_version = refl;
  named = refl;
}

-- the first value of each argument that has bounds of its own
pub record AreIn (m : ArgMatches) : Type 0 where
  pub joiners : (t : Text) → first_value (found_of m) (codes "joiners") ≡ Some t → IsUnsignedIn 1 64 t
  pub feeders : (t : Text) → first_value (found_of m) (codes "feeders") ≡ Some t → IsUnsignedIn 1 8 t
  pub workers : (t : Text) → first_value (found_of m) (codes "workers") ≡ Some t → IsUnsignedIn 1 16 t
  pub batch : (t : Text) → first_value (found_of m) (codes "batch") ≡ Some t → IsUnsignedIn 1 4096 t
  pub make : (t : Text) → first_value (found_of m) (codes "make") ≡ Some t → IsUnsignedIn 1 65536 t
  pub grow : (t : Text) → first_value (found_of m) (codes "grow") ≡ Some t → IsUnsignedIn 1 3 t
  pub weight_r : (t : Text) → first_value (found_of m) (codes "weight-r") ≡ Some t → IsUnsignedIn 1 1024 t
  pub weight_s : (t : Text) → first_value (found_of m) (codes "weight-s") ≡ Some t → IsUnsignedIn 1 1024 t

-- of what the command of `jm` matched, each of these values lies in its bounds
pub are_in : (old : Command) (m : ArgMatches) → IsParsedFrom old m → IsCommand (app_of old) → AreIn m
are_in old m p command = record {
  joiners = command_accepts old m p command 1 (codes "joiners") (vp.Unsigned 1 64) joiners_is;
  feeders = command_accepts old m p command 2 (codes "feeders") (vp.Unsigned 1 8) feeders_is;
  workers = command_accepts old m p command 3 (codes "workers") (vp.Unsigned 1 16) workers_is;
  batch = command_accepts old m p command 4 (codes "batch") (vp.Unsigned 1 4096) batch_is;
  make = command_accepts old m p command 11 (codes "make") (vp.Unsigned 1 65536) make_is;
  grow = command_accepts old m p command 18 (codes "grow") (vp.Unsigned 1 3) grow_is;
  weight_r = command_accepts old m p command 8 (codes "weight-r") (vp.Unsigned 1 1024) weight_r_is;
  weight_s = command_accepts old m p command 9 (codes "weight-s") (vp.Unsigned 1 1024) weight_s_is;
}
