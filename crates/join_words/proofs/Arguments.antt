-- The arguments of a command, one by one.
use Rattle.std.proofs.Common.{◌≡◌, ◌∙◌, ◌++◌, ◌∷◌, [], List, All, ap, ap₂, false, map, refl, subst, sym}
use Rattle.std.proofs.lemmas.List.{map-append}
use Rattle.std.proofs.lemmas.List.Elements.{All-head, All-push, All-tail}
use Rattle.clap.specs.Built.{AddsArg, AddsInTurn}
use Rattle.clap.specs.Walk.{Rule, rule_of}
use Rattle.clap.specs.Simple.{App, app_of, with_rule}
use Rattle.clap.specs.declared.builder.arg.Arg.{Arg}
use Rattle.clap.specs.declared.builder.command.Command.{Command}
use Rattle.join_words.specs.Command.{HaveRules, with_rules}

-- one more argument
pub one_more : (rules : List Rule) (old new : List Arg) (arg : Arg) (rule : Rule) → HaveRules rules old
    → new ≡ old ++ arg ∷ [] → arg.global ≡ false → rule_of arg ≡ rule → HaveRules (rules ++ rule ∷ []) new
one_more rules old new arg rule have is local are = record {
  are = ap (map rule_of) is ∙ map-append rule_of old (arg ∷ []) ∙ ap₂ (λ xs x. xs ++ x ∷ []) have.are are;
  local = subst (λ (xs : List Arg). All (λ arg. arg.global ≡ false) xs) (sym is)
      (All-push (λ (arg : Arg). arg.global ≡ false) old arg have.local local);
}

-- five, one behind the other, are five at once
pub five : (rules : List Rule) (a b c d e : Rule)
    → ((((rules ++ a ∷ []) ++ b ∷ []) ++ c ∷ []) ++ d ∷ []) ++ e ∷ [] ≡ rules ++ a ∷ b ∷ c ∷ d ∷ e ∷ []
five [] a b c d e = refl
five (rule ∷ rules) a b c d e = ap (λ rest. rule ∷ rest) (five rules a b c d e)

-- a command that takes such arguments has their rules
pub has_all : (args : List Arg) (rules : List Rule) (old new : Command) → HaveRules rules args
    → AddsInTurn AddsArg old args new → app_of new ≡ with_rules (app_of old) rules
has_all [] rules old new have is = ap app_of (sym is) ∙ ap (with_rules (app_of old)) have.are
has_all (arg ∷ args) rules old new have (middle, adds, rest) =
    let first : app_of middle ≡ with_rule (app_of old) (rule_of arg) =
    adds.shape (All-head (λ (arg : Arg). arg.global ≡ false) arg args have.local) in
    has_all args (map rule_of args) middle new (record {
      are = refl;
      local = All-tail (λ (arg : Arg). arg.global ≡ false) arg args have.local;
    }) rest
    ∙ ap (λ a. with_rules a (map rule_of args)) first
    ∙ ap (with_rules (app_of old)) have.are
