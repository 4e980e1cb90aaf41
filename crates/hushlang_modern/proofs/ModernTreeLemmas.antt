-- The trees that U-Boot's modern shell reads hold a command in each block.
use Rattle.std.proofs.Common.{◌≡◌, subst, ℕ, Bool, true, false, ◌&&◌, ◌||◌, not, List, [], ◌∷◌, ◌++◌, map, cond, Option, Some, None}
use Rattle.hushlang.specs.Tree as tree
use Rattle.hushlang.specs.Tree.{Script, Command, IsProper, IsProperCommand}
use Rattle.hushlang.specs.declared.tree.Op.{Op}
use Rattle.hushlang_uboot.specs.Nests as nests
use Rattle.hushlang_uboot.specs.declared.part.Part.{Part}
use Rattle.hushlang_uboot.specs.declared.part.Part.TheVariants as p
use Rattle.hushlang_uboot.specs.declared.reserved.Reserved.{Reserved}
use Rattle.hushlang_uboot.proofs.NestLemmas as nesting
use Rattle.hushlang_uboot.proofs.NestLemmas.{IsNest, IsGone}
use Rattle.hushlang_modern.specs.ModernTokens.{FoundWord, Token, Word, NewLine, Semicolon, Ampersand, Bar, Joins, Opening, Closing, FoundTokens, modern_tokens}
use Rattle.hushlang_modern.specs.ModernWords.{word_of, is_sure, reserved_in, reserved_first, is_sign, is_exclamation, name_in, is_strange, is_assignment, value_of, is_hazard}
use Rattle.hushlang_modern.specs.ModernTrees.{ModernText, Read, Unread, Building, nothing_built, part_in, Step, Goes, Stops, has_values, has_words, has_begun, has_command, command_of, without_words, command_ended, opened, is_given, is_unfollowed, gone_to, goes_on, part_read, reserved_read, with_word, with_assignment, doomed, body_ended, reserved_in_for, stray_word, header_word, word_in_for, tree_or_doom, word_begun, command_begun, plain_word, runs_surely, marked_word, unmarked_word, first_word, command_word, named, word_at, all_ended, list_separated, words_ended, end_at, joined_by, group_begun, ends_group, is_behind_brace, is_refused, token_read, tree_ended, read_token, read_tokens, text_in, text_of_step, text_of_tokens, modern_text}
use Rattle.hushlang_modern.specs.declared.stop.Stop.{Stop}
use Rattle.hushlang_modern.specs.declared.stop.Stop.TheVariants.{Fails, Panics, Unsupported}

-- ---- what holds on the way

abbrev IsBuilding : Building → Type 0
IsBuilding b = IsNest b.nest

abbrev MayBe : Step → Type 0
MayBe (Stops stop) = Unit {0}
MayBe (Goes b) = IsBuilding b

either : (x : Bool) (o p : Step) → MayBe o → MayBe p → MayBe (cond x o p)
either true o p h k = h
either false o p h k = k

-- ---- the end of a command

simple_or_assign : (x : Bool) (c d : Command) → IsProperCommand c → IsProperCommand d → IsProperCommand (cond x c d)
simple_or_assign true c d p q = p
simple_or_assign false c d p q = q

command_proper : (b : Building) → IsProperCommand (command_of b)
command_proper b = simple_or_assign (has_words b.words) (tree.Simple (map word_of b.words)) (tree.Assign b.values) tt tt

one_building : (x : Bool) (b c : Building) → IsBuilding b → IsBuilding c → IsBuilding (cond x b c)
one_building true b c h k = h
one_building false b c h k = k

command_ended_building : (b : Building) → IsBuilding b → IsBuilding (command_ended b)
command_ended_building b h =
    one_building (has_begun b) (record (without_words b) { nest = nests.command_added (command_of b) b.nest }) (without_words b)
    (nesting.added (command_of b) b.nest (command_proper b) h) h

joined_building : (op : Op) (b : Building) → IsBuilding b → IsBuilding (joined_by op b)
joined_building op b h =
    one_building (has_command b) (record (command_ended b) { nest = nests.operator_read op (command_ended b).nest; plain = false }) b
    (nesting.joined op (command_ended b).nest (command_ended_building b h)) h

all_ended_building : (b : Building) → IsBuilding b → IsBuilding (all_ended b)
all_ended_building b h = nesting.closed (command_ended b).nest (command_ended_building b h)

separated_building : (b : Building) → IsBuilding b → IsBuilding (list_separated b)
separated_building b h = one_building (has_command b) (all_ended b) b (all_ended_building b h) h

-- ---- reserved words

gone_by : (gone : nests.Gone) (b : Building) → IsGone gone → MayBe (gone_to gone b)
gone_by (nests.Entered nest) b h = h
gone_by (nests.Closed nest) b h = h
gone_by nests.Astray b h = tt

goes_by : (word : Reserved) (b : Building) → IsBuilding b → MayBe (goes_on word b)
goes_by word b h =
    either (is_unfollowed word b) (Stops Unsupported) (gone_to (nests.goes_on word b.nest) (body_ended word b))
    tt (gone_by (nests.goes_on word b.nest) (body_ended word b) (nesting.gone word b.nest h))

part_by : (word : Reserved) (b : Building) → IsBuilding b → MayBe (part_read word b)
part_by word b h =
    either (is_given word b) (Goes (record b { nest = nests.given b.nest; closed = false; plain = false })) (goes_on word b)
    (nesting.given_is b.nest h) (goes_by word b h)

reserved_by : (word : Reserved) (b : Building) → IsBuilding b → MayBe (reserved_read word b)
reserved_by word b h =
    either (nests.begins word) (opened word b) (part_read word b)
    (either (nests.is_full b.nest || b.closed) (Stops Unsupported) (Goes (record b { nest = nests.begun word b.nest; fresh = true; plain = false; untouched = false; alone = b.untouched }))
    tt (nesting.opened word b.nest h))
    (part_by word b h)

-- ---- a token

begun_words : (w : FoundWord) (b : Building) → IsBuilding b → MayBe (command_begun w b)
begun_words w b h =
    either b.closed (Stops Panics) _ tt
    (either (b.fresh && is_hazard w) (Stops Unsupported) _ tt
    (either (is_assignment w) (with_assignment (value_of w) b) (word_begun w b)
    (either (is_strange (value_of w).0) (Stops Unsupported) (Goes (record b { values = b.values ++ value_of w ∷ []; fresh = false; untouched = false })) tt h)
    (either (has_values b.values && not (is_sure w)) (Stops Unsupported) (Goes (record (with_word w b) { values = [] })) tt h)))

first_by : (found : Option Reserved) (w : FoundWord) (b : Building) → IsBuilding b → MayBe (elim found [ Some word ↦ reserved_read word b | None ↦ command_begun w b ])
first_by (Some word) w b h = reserved_by word b h
first_by None w b h = begun_words w b h

marked_by : (w : FoundWord) (b : Building) → IsBuilding b → MayBe (marked_word w b)
marked_by w b h =
    either (runs_surely w) (command_begun w (record b { marked = false })) (Stops Unsupported) (begun_words w (record b { marked = false }) h) tt

unmarked_by : (w : FoundWord) (b : Building) → IsBuilding b → MayBe (unmarked_word w b)
unmarked_by w b h =
    either (is_exclamation w) _ (plain_word w b)
    (either b.closed (Stops Unsupported) (Goes (record b { marked = true })) tt h)
    (first_by (reserved_first w) w b h)

command_by : (w : FoundWord) (b : Building) → IsBuilding b → MayBe (command_word w b)
command_by w b h =
    either (has_words b.words) (Goes (with_word w b)) _ h
    (either (has_values b.values) (command_begun w b) (first_word w b) (begun_words w b h)
    (either b.marked (marked_word w b) (unmarked_word w b) (marked_by w b h) (unmarked_by w b h)))

named_by : (name : Option (List ℕ)) (b : Building) → IsBuilding b → MayBe (named name b)
named_by None b h = tt
named_by (Some name) b h =
    either (is_strange name) (Stops Unsupported) (Goes (record b { nest = nests.named name b.nest })) tt (nesting.named_is name b.nest h)

header_by : (found : Option Reserved) (w : FoundWord) (b : Building) → IsBuilding b → MayBe (elim found [ Some word ↦ reserved_in_for word b | None ↦ stray_word w b ])
header_by (Some word) w b h = either (nests.begins word) (Stops Unsupported) (goes_on word b) tt (goes_by word b h)
header_by None w b h = either (is_sign w) (Stops Unsupported) (Goes (doomed (with_word w b))) tt h

in_for_by : (w : FoundWord) (b : Building) → IsBuilding b → MayBe (word_in_for w b)
in_for_by w b h = either (has_words b.words) (Goes (with_word w b)) (header_word w b) h (header_by (reserved_in w) w b h)

word_by : (part : Part) (w : FoundWord) (b : Building) → IsBuilding b → MayBe (word_at part w b)
word_by p.Name w b h =
    either (is_sign w || w.quoted) (Stops Unsupported) (named (name_in w) b) tt (named_by (name_in w) b h)
word_by p.In w b h = in_for_by w b h
word_by p.Words w b h =
    either (is_sign w && not (has_words b.words)) (Stops Unsupported) (Goes (with_word w b)) tt h
word_by p.Do w b h = in_for_by w b h
word_by p.Outside w b h = command_by w b h
word_by (p.Condition further) w b h = command_by w b h
word_by (p.Group braces) w b h = command_by w b h
word_by (p.Arm further) w b h = command_by w b h
word_by p.Else w b h = command_by w b h
word_by p.Test w b h = command_by w b h
word_by p.Body w b h = command_by w b h
word_by p.Each w b h = command_by w b h

end_by : (part : Part) (newline : Bool) (b : Building) → IsBuilding b → MayBe (end_at part newline b)
end_by p.Name newline b h = tt
end_by p.In newline b h = h
end_by p.Words newline b h =
    one_building (newline && not (has_words b.words)) b (words_ended b) h (nesting.worded_is (map word_of b.words) b.nest h)
end_by p.Do newline b h = h
end_by p.Outside newline b h = separated_building b h
end_by (p.Condition further) newline b h = separated_building b h
end_by (p.Group braces) newline b h = separated_building b h
end_by (p.Arm further) newline b h = separated_building b h
end_by p.Else newline b h = separated_building b h
end_by p.Test newline b h = separated_building b h
end_by p.Body newline b h = separated_building b h
end_by p.Each newline b h = separated_building b h

any_by : (token : Token) (b : Building) → IsBuilding b → MayBe (token_read token b)
any_by (Word w) b h = word_by (part_in b) w b h
any_by NewLine b h = end_by (part_in b) true b h
any_by Semicolon b h = end_by (part_in b) false b h
any_by Ampersand b h =
    either (nests.is_header (part_in b) || not b.plain) (Stops Unsupported) (Goes (list_separated b)) tt (separated_building b h)
any_by Bar b h = either (nests.is_header (part_in b) || has_command b) (Stops Unsupported) (Goes b) tt h
any_by (Opening quoted) b h = either (quoted && b.fresh) (Stops Unsupported) (Goes group_begun) tt nesting.nothing
any_by Closing b h = either (has_begun b) (Goes b) (Stops (cond (ends_group b) Unsupported Panics)) h tt
any_by (Joins op) b h = either (nests.is_header (part_in b)) (Stops Unsupported) (Goes (joined_by op b)) tt (joined_building op b h)

token_by : (token : Token) (b : Building) → IsBuilding b → MayBe (read_token token b)
unfolding read_token
token_by token b h = either (is_refused token b) (Stops Unsupported) (token_read token b) tt (any_by token b h)

next_by : (next : Step) (tokens : List Token) → ((b : Building) → IsBuilding b → MayBe (read_tokens tokens b)) → MayBe next → MayBe (elim next [ Stops stop ↦ Stops stop | Goes b ↦ read_tokens tokens b ])
next_by (Stops stop) tokens more h = tt
next_by (Goes b) tokens more h = more b h

tokens_by : (tokens : List Token) (b : Building) → IsBuilding b → MayBe (read_tokens tokens b)
tokens_by [] b h = h
tokens_by (token ∷ tokens) b h = next_by (read_token token b) tokens (tokens_by tokens) (token_by token b h)

-- ---- the whole

abbrev IsTree : ModernText → Type 0
IsTree (Unread stop) = Unit {0}
IsTree (Read script) = IsProper script

doom_by : (doom : Option Stop) (tree : Script) → IsProper tree → IsTree (tree_or_doom doom tree)
doom_by (Some stop) tree h = tt
doom_by None tree h = h

closed_by : (is : Bool) (doom : Option Stop) (tree : Script) → IsProper tree → IsTree (cond is (Unread Fails) (tree_or_doom doom tree))
closed_by true doom tree h = tt
closed_by false doom tree h = doom_by doom tree h

refused_by : (is : Bool) (text : ModernText) → IsTree text → IsTree (cond is (Unread Unsupported) text)
refused_by true text h = tt
refused_by false text h = h

text_by : (stop : Option Stop) (quoted : Bool) (b : Building) → IsBuilding b → IsTree (text_in stop quoted b)
text_by (Some stop) quoted b h = tt
text_by None quoted b h =
    let ended = (all_ended b).nest in
    refused_by (b.marked || is_behind_brace b) (tree_ended b)
    (closed_by (nests.is_open b.nest) b.doom (nests.script_in ended) (nesting.script_is ended (all_ended_building b h)))

step_by : (stop : Option Stop) (quoted : Bool) (step : Step) → MayBe step → IsTree (text_of_step stop quoted step)
step_by stop quoted (Stops first) h = tt
step_by stop quoted (Goes b) h = text_by stop quoted b h

found_by : (found : FoundTokens) → IsTree (text_of_tokens found)
found_by found = step_by found.stop found.quoted (read_tokens found.tokens nothing_built) (tokens_by found.tokens nothing_built nesting.nothing)

pub modern_trees_are_proper : (text : List ℕ) (script : Script) → modern_text text ≡ Read script → IsProper script
unfolding modern_text
modern_trees_are_proper text script e = subst IsTree e (found_by (modern_tokens text))
