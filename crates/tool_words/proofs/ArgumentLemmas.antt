-- The rows of a table, one after the other.
use Rattle.std.proofs.Common.{◌≡◌, ◌∙◌, ◌++◌, ◌+◌, ◌<◌, ◌≤◌, ℕ, zero, suc, Bool, true, false, cond, ◌||◌, List, [], ◌∷◌, Option, None, Some, Bor, map, take, drop, length, get_or, refl, ap, ap₂, sym, arith, add-one}
use Rattle.std.specs.Prelude.{find, slice_get, unwrap_or}
use Rattle.std.proofs.lemmas.List.{map-append, take_more}
use Rattle.std.proofs.lemmas.List.Sums.{fold-append}
use Rattle.std.proofs.Math.Bool.{or-false}
use Rattle.std.specs.List.{fold}
use Rattle.std.specs.Option.{option_map_or}
use Rattle.clap.specs.Words.{AddsAliases, AddsArg, AddsSubcommand, App, Rule, Text, app_of, new_app, rule_of, with_rule, with_subcommand}
use Rattle.clap.proofs.WalkLemmas.{find-map}
use Rattle.clap.specs.declared.builder.arg.Arg.{Arg}
use Rattle.clap.specs.declared.builder.command.Command.{Command}
use Rattle.clap.specs.declared.builder.command.Command.TheViews.{out-Command}
use Rattle.tool_words.specs.declared.argument.Argument.{Argument}
use Rattle.tool_words.specs.declared.argument.Form.{Form}
use Rattle.tool_words.specs.declared.argument.Form.TheVariants.{Flag, Number, Value, Values, Word, Words}
use Rattle.std.specs.Option.{option_map}
use Rattle.std.specs.Str.{bytes_eq}
use Rattle.tool_words.specs.declared.subcommand.Subcommand.{Subcommand}
use Rattle.tool_words.specs.Arguments.{Adds, app_of_row, rule_of_form, rule_of_row, unaliased, with_rules}
use Rattle.tool_words.specs.CommandLine.{first_named, named}
use Rattle.tool_words.specs.Made.{IsMade}

-- no form has a second long form by itself
no_aliases : (form : Form) (id : Text) → (rule_of_form form id).aliases ≡ []
no_aliases Flag id = refl
no_aliases Value id = refl
no_aliases Values id = refl
no_aliases (Number least most) id = refl
no_aliases Word id = refl
no_aliases Words id = refl

abbrev with_aliases : Rule → List Text → Rule
with_aliases rule aliases = record rule { aliases = aliases }

abbrev listed : Option (Bor Text) → List Text
listed alias = option_map_or (λ a. a.now ∷ []) alias []

-- the argument of a row that has no second long form
pub whole_without : (row : Argument) (a : Arg) → rule_of a ≡ unaliased row → row.alias ≡ None → rule_of a ≡ rule_of_row row
whole_without row a rule none =
    rule ∙ ap (with_aliases (unaliased row)) (no_aliases row.form row.id.now ∙ ap listed (sym none))

-- the argument of a row that has one
pub whole_with : (row : Argument) (a b : Arg) (alias : Bor Text) → rule_of a ≡ unaliased row → row.alias ≡ Some alias → AddsAliases a b ((alias, false) ∷ []) → rule_of b ≡ rule_of_row row
whole_with row a b alias rule is adds =
    let empty : (rule_of a).aliases ≡ [] = ap (λ (r : Rule). r.aliases) rule ∙ no_aliases row.form row.id.now in
    let name : Bor Text × Bool → Text = λ p. p.0.now in
    let names : map name b.aliases.items ≡ alias.now ∷ [] = ap (map name) adds.1 ∙ (map-append name a.aliases.items _ ∙ ap (λ xs. xs ++ alias.now ∷ []) empty) in
    let same : rule_of b ≡ with_aliases (rule_of a) (map name b.aliases.items) = ap rule_of adds.0 in
    same ∙ ap₂ with_aliases rule (names ∙ ap listed (sym is))

-- one more argument
pub adds_arg : (old new : Command) (a : Arg) (rule : Rule) → rule_of a ≡ rule → a.global ≡ false → AddsArg old a new → Adds with_rule old (rule ∷ []) new
adds_arg old new a rule is local adds = record {
  app_is = adds.shape local ∙ ap (with_rule (app_of old)) is;
  globals = adds.globals ∙ (ap (λ b. (out-Command old).has_globals || b) local ∙ or-false _);
}

-- one more subcommand
pub adds_subcommand : (old sub new : Command) (app : App) → IsMade app sub → AddsSubcommand old sub new → Adds with_subcommand old (app.top ∷ []) new
adds_subcommand old sub new app made adds = record {
  app_is = adds.shape made.local ∙ ap (λ (a : App). with_subcommand (app_of old) a.top) made.app_is;
  globals = adds.globals ∙ (ap (λ b. (out-Command old).has_globals || b) made.local ∙ or-false _);
}

-- a command with what the first i rows add, with the next one too
pub one_more : {X Row : Type 0} (add : App → X → App) (said : Row → X) (rows : List Row) (i : ℕ) (d : Row) (first old new : Command) → i < length rows → Adds add first (map said (take i rows)) old → Adds add old (said (get_or rows i d) ∷ []) new
    → Adds add first (map said (take (i + 1) rows)) new
one_more add said rows i d first old new within so_far adds =
    let before = map said (take i rows) in
    let row = said (get_or rows i d) in
    let next : map said (take (i + 1) rows) ≡ before ++ row ∷ [] =
    ap (map said) (take_more rows i d within) ∙ map-append said (take i rows) _ in
    record {
      app_is = adds.app_is ∙ (ap (λ app. add app row) so_far.app_is ∙ sym (ap (fold add (app_of first)) next ∙ fold-append add (app_of first) before (row ∷ [])));
      globals = adds.globals ∙ so_far.globals;
    }

-- ---- the first row that passes a test, by a loop

row_at : {X : Type 0} (test : X → Bool) (xs : List X) (i : ℕ) (d : X) → i < length xs → test (get_or xs i d) ≡ true → find test (drop i xs) ≡ Some (get_or xs i d)
row_at test [] i d within hit = absurd (omega arith)
row_at test (x ∷ xs) zero d within hit = rw hit refl
row_at test (x ∷ xs) (suc i) d within hit = row_at test xs i d (omega arith) hit

row_past : {X : Type 0} (test : X → Bool) (xs : List X) (i : ℕ) (d : X) → i < length xs → test (get_or xs i d) ≡ false → find test (drop (suc i) xs) ≡ find test (drop i xs)
row_past test [] i d within miss = absurd (omega arith)
row_past test (x ∷ xs) zero d within miss = rw miss refl
row_past test (x ∷ xs) (suc i) d within miss = row_past test xs i d (omega arith) miss

rows_past : {X : Type 0} (test : X → Bool) (xs : List X) (i : ℕ) → length xs ≤ i → find test (drop i xs) ≡ None
rows_past test [] zero past = refl
rows_past test [] (suc i) past = refl
rows_past test (x ∷ xs) zero past = absurd (omega arith)
rows_past test (x ∷ xs) (suc i) past = rows_past test xs i (omega arith)

pub row_here : {X : Type 0} (test : X → Bool) (xs : List X) (i : ℕ) (d : X) → i < length xs → test (get_or xs i d) ≡ true → find test (drop i xs) ≡ find test xs → Some (get_or xs i d) ≡ find test xs
row_here test xs i d within hit same = sym (row_at test xs i d within hit) ∙ same

pub row_next : {X : Type 0} (test : X → Bool) (xs : List X) (i : ℕ) (d : X) → i < length xs → test (get_or xs i d) ≡ false → find test (drop i xs) ≡ find test xs → find test (drop (i + 1) xs) ≡ find test xs
row_next test xs i d within miss same = ap (λ k. find test (drop k xs)) (add-one i) ∙ row_past test xs i d within miss ∙ same

pub row_none : {X : Type 0} (test : X → Bool) (xs : List X) (i : ℕ) → length xs ≤ i → find test (drop i xs) ≡ find test xs → None ≡ find test xs
row_none test xs i past same = sym (rows_past test xs i past) ∙ same

-- ---- the row of a name

kept_name : (rules : List Rule) (a : App) → (with_rules a rules).top.name ≡ a.top.name
kept_name [] a = refl
kept_name (r ∷ rules) a = kept_name rules (with_rule a r)

find-same : {X : Type 0} (p q : X → Bool) → ((x : X) → p x ≡ q x) → (xs : List X) → find p xs ≡ find q xs
find-same p q same [] = refl
find-same p q same (x ∷ xs) = ap₂ (λ b rest. cond b (Some x) rest) (same x) (find-same p q same xs)

-- the subcommand that a name finds in a table
pub named_row : (word : Text) (rows : List Subcommand)
    → option_map app_of_row (find (λ (row : Subcommand). bytes_eq row.name.now word) rows) ≡ find (λ (sub : App). bytes_eq sub.top.name word) (map app_of_row rows)
named_row word rows =
    ap (option_map app_of_row) (find-same (λ (row : Subcommand). bytes_eq row.name.now word) (λ (row : Subcommand). bytes_eq (app_of_row row).top.name word)
    (λ row. ap (λ name. bytes_eq name word) (sym (kept_name (map rule_of_row row.arguments.now) (new_app row.name.now)))) rows)
    ∙ find-map (λ (sub : App). bytes_eq sub.top.name word) app_of_row rows

-- the subcommand that the first of the words names
pub first_none : {X : Type 0} (text : X → Text) (words : List X) → slice_get words 0 ≡ None → None ≡ first_named (map text words)
first_none text [] none = refl
first_none text (w ∷ ws) none = cc

pub first_some : {X : Type 0} (text : X → Text) (words : List X) (word : X) (sub : Option App) → slice_get words 0 ≡ Some word → sub ≡ named (text word) → sub ≡ first_named (map text words)
first_some text [] word sub some is = cc
first_some text (w ∷ ws) word sub some is =
    let same : word ≡ w = ap (λ o. unwrap_or o word) (sym some) in
    is ∙ ap (λ x. named (text x)) same
