-- The trees that U-Boot's old shell reads hold a command in each block.
use Rattle.std.proofs.Common.{◌≡◌, refl, subst, ℕ, Bool, true, false, ◌&&◌, ◌||◌, not, List, [], ◌∷◌, map, cond, Option, Some, None, is_some, option_map}
use Rattle.hushlang.specs.Tree.{Script, IsProper, IsProperCommand}
use Rattle.hushlang.specs.declared.tree.Op.{Op}
use Rattle.hushlang.specs.declared.tree.Op.TheVariants.{And}
use Rattle.hushlang_uboot.specs.Nests as nests
use Rattle.hushlang_uboot.specs.Nests.{is_in}
use Rattle.hushlang_old.specs.OldTokens.{FoundWord, Token, Word, Ends, Joins, Breaks, old_tokens}
use Rattle.hushlang_old.specs.OldTrees.{Building, nothing_built, is_open, part_in, drops_number, command_of, command_ended, joined_by, opened, needs_command, gone_to, goes_on, is_idle, with_idle, is_given, part_read, reserved_read, spoil, body_begun, with_misname, no_assignment, misname_in, misnamed, nest_at_do, header_read, first_of_for, word_of_for, first_behind, word_behind, word_at_in, without_name, with_word, is_void, is_assignment, changes_shell, command_begun, reserved_in, first_word, is_constant_word, is_constant_with, begun_behind, further_word, command_word, name_in, named, word_at, word_of, list_separated, end_at, has_command, joined_in, read_token, read_tokens, tree_in, tree_behind, tree_of_tokens, is_fault, have_fault, tokens_have_fault, old_tree_of, has_fault}
use Rattle.hushlang_uboot.specs.declared.part.Part.{Part}
use Rattle.hushlang_uboot.specs.declared.part.Part.TheVariants as p
use Rattle.hushlang_uboot.specs.declared.reserved.Reserved.{Reserved}
use Rattle.hushlang_uboot.specs.declared.reserved.Reserved.TheVariants as r
use Rattle.hushlang_uboot.specs.ReadBytes.{has_bytes}
use Rattle.hushlang_uboot.proofs.NestLemmas as nesting
use Rattle.hushlang_uboot.proofs.NestLemmas.{IsNest, IsGone}

-- ---- what holds on the way

abbrev IsBuilding : Building → Type 0
IsBuilding b = IsNest b.nest

abbrev MayBe : Option Building → Type 0
MayBe None = Unit {0}
MayBe (Some b) = IsBuilding b

when_then : (x : Bool) (o : Option Building) → MayBe o → MayBe (cond x o None)
when_then true o h = h
when_then false o h = tt

when_else : (x : Bool) (o : Option Building) → MayBe o → MayBe (cond x None o)
when_else true o h = tt
when_else false o h = h

either : (x : Bool) (o p : Option Building) → MayBe o → MayBe p → MayBe (cond x o p)
either true o p h k = h
either false o p h k = k

-- ---- the end of a command

command_proper : (assigning within : Bool) (words : List FoundWord) → IsProperCommand (command_of assigning within words)
command_proper true within words = tt
command_proper false within words = tt

ended_words : (words : List FoundWord) (b : Building) → IsBuilding b → IsBuilding (elim words [
  | [] ↦ record b { closed = false }
  | word ∷ words ↦ record b {
    nest = nests.command_added (command_of b.assigning (drops_number b) (word ∷ words)) b.nest;
    words = [];
    assigning = false;
    behind = false;
    closed = false;
  }
])
ended_words [] b h = h
ended_words (word ∷ words) b h =
    nesting.added (command_of b.assigning (drops_number b) (word ∷ words)) b.nest (command_proper b.assigning (drops_number b) (word ∷ words)) h

command_ended_building : (b : Building) → IsBuilding b → IsBuilding (command_ended b)
command_ended_building b h = ended_words b.words b h

one_building : (x : Bool) (b c : Building) → IsBuilding b → IsBuilding c → IsBuilding (cond x b c)
one_building true b c h k = h
one_building false b c h k = k

joined_building : (op : Op) (b : Building) → IsBuilding b → IsBuilding (joined_by op b)
joined_building op b h = nesting.joined op (command_ended b).nest (command_ended_building b h)

separated_building : (b : Building) → IsBuilding b → IsBuilding (list_separated b)
separated_building b h = nesting.closed (command_ended b).nest (command_ended_building b h)

-- ---- reserved words

gone_by : (gone : nests.Gone) (b : Building) → IsGone gone → MayBe (gone_to gone b)
gone_by (nests.Entered nest) b h = h
gone_by (nests.Closed nest) b h = h
gone_by nests.Astray b h = tt

goes_by : (word : Reserved) (b : Building) → IsBuilding b → MayBe (goes_on word b)
goes_by word b h =
    when_else (needs_command (part_in b) word b.separated && nests.lacks_command b.nest.block) (gone_to (nests.goes_on word b.nest) b)
    (gone_by (nests.goes_on word b.nest) b (nesting.gone word b.nest h))

part_by : (word : Reserved) (b : Building) → IsBuilding b → MayBe (part_read word b)
part_by word b h =
    either (is_given word b) (Some (record b { nest = nests.given b.nest; separated = false })) (goes_on word (with_idle word b))
    (nesting.given_is b.nest h)
    (goes_by word (with_idle word b) (one_building (is_idle word b) (record b { nest = nests.idle b.nest }) b (nesting.idle_is b.nest h) h))

reserved_by : (word : Reserved) (b : Building) → IsBuilding b → MayBe (reserved_read word b)
reserved_by word b h =
    either (nests.begins word) (opened word b) (part_read word b)
    (when_else (nests.is_full b.nest) (Some (record b { nest = nests.begun word b.nest; separated = false })) (nesting.opened word b.nest h))
    (part_by word b h)

-- ---- a token

first_by : (found : Option Reserved) (w : FoundWord) (b : Building) → IsBuilding b → MayBe (elim found [ Some word ↦ reserved_read word b | None ↦ command_begun w b ])
first_by (Some word) w b h = reserved_by word b h
first_by None w b h = when_else (is_void w.pieces || is_assignment w && changes_shell w) (Some (record (with_word w b) { assigning = is_assignment w })) h

further_by : (w : FoundWord) (b : Building) → IsBuilding b → MayBe (further_word w b)
further_by w b h = either (b.assigning && not (is_assignment w)) (begun_behind w b) _
    (when_then (is_constant_with w b) (Some (record (with_word w (joined_by And b)) { behind = true })) (joined_building And b h))
    (when_else (b.behind && not (is_constant_word w) || b.assigning && changes_shell w) (Some (with_word w b)) h)

words_by : (words : List FoundWord) (w : FoundWord) (b : Building) → IsBuilding b → MayBe (elim words [ [] ↦ first_word w b | v ∷ words ↦ further_word w b ])
words_by [] w b h = first_by (reserved_in w) w b h
words_by (v ∷ words) w b h = further_by w b h

command_by : (w : FoundWord) (b : Building) → IsBuilding b → MayBe (command_word w b)
command_by w b h = when_else b.closed (elim b.words [ [] ↦ first_word w b | v ∷ words ↦ further_word w b ]) (words_by b.words w b h)

one_nest : (x : Bool) (n m : nests.Nest) → IsNest n → IsNest m → IsNest (cond x n m)
one_nest true n m h k = h
one_nest false n m h k = k

misname_building : (misname : List ℕ) (b : Building) → IsBuilding b → IsBuilding (with_misname misname b)
misname_building misname b h =
    let nest = nests.command_added (no_assignment misname) b.nest in
    one_building (has_bytes misname) (record b { nest = nests.list_closed nest }) b (nesting.closed nest (nesting.added (no_assignment misname) b.nest tt h)) h

misname_by : (misname : List ℕ) (o : Option Building) → MayBe o → MayBe (option_map (with_misname misname) o)
misname_by misname None h = tt
misname_by misname (Some b) h = misname_building misname b h

body_by : (b : Building) → IsBuilding b → MayBe (body_begun b)
body_by b h =
    misname_by b.misname (goes_on r.Do (header_read b))
    (goes_by r.Do (header_read b)
    (one_nest b.spoilt (nests.unmet b.nest) (cond b.nameless (nests.idle b.nest) b.nest) (nesting.unmet_is b.nest h)
    (one_nest b.nameless (nests.idle b.nest) b.nest (nesting.idle_is b.nest h) h)))

first_for_by : (found : Option Reserved) (w : FoundWord) (b : Building) → IsBuilding b → MayBe (first_of_for found w b)
first_for_by None w b h = h
first_for_by (Some r.Do) w b h = body_by (record b { spoilt = not b.nameless }) h
first_for_by (Some r.If) w b h = tt
first_for_by (Some r.OpenBrace) w b h = tt
first_for_by (Some r.CloseBrace) w b h = tt
first_for_by (Some r.Then) w b h = tt
first_for_by (Some r.Elif) w b h = tt
first_for_by (Some r.Else) w b h = tt
first_for_by (Some r.Fi) w b h = tt
first_for_by (Some r.For) w b h = tt
first_for_by (Some r.While) w b h = tt
first_for_by (Some r.Until) w b h = tt
first_for_by (Some r.Done) w b h = tt
first_for_by (Some r.In) w b h = tt

for_by : (words : List FoundWord) (w : FoundWord) (b : Building) → IsBuilding b → MayBe (elim words [ [] ↦ first_of_for (reserved_in w) w b | v ∷ words ↦ Some (with_word w b) ])
for_by [] w b h = first_for_by (reserved_in w) w b h
for_by (v ∷ words) w b h = h

first_behind_by : (found : Option Reserved) (w : FoundWord) (b : Building) → IsBuilding b → MayBe (first_behind found w b)
first_behind_by None w b h = h
first_behind_by (Some r.Do) w b h = body_by b h
first_behind_by (Some r.If) w b h = tt
first_behind_by (Some r.OpenBrace) w b h = tt
first_behind_by (Some r.CloseBrace) w b h = tt
first_behind_by (Some r.Then) w b h = tt
first_behind_by (Some r.Elif) w b h = tt
first_behind_by (Some r.Else) w b h = tt
first_behind_by (Some r.Fi) w b h = tt
first_behind_by (Some r.For) w b h = tt
first_behind_by (Some r.While) w b h = tt
first_behind_by (Some r.Until) w b h = tt
first_behind_by (Some r.Done) w b h = tt
first_behind_by (Some r.In) w b h = tt

behind_by : (words : List FoundWord) (w : FoundWord) (b : Building) → IsBuilding b → MayBe (elim words [ [] ↦ first_behind (reserved_in w) w b | v ∷ words ↦ Some (with_word w b) ])
behind_by [] w b h = first_behind_by (reserved_in w) w b h
behind_by (v ∷ words) w b h = h

in_by : (found : Option Reserved) (b : Building) → IsBuilding b → MayBe (word_at_in found b)
in_by None b h = h
in_by (Some r.In) b h = goes_by r.In b h
in_by (Some r.If) b h = tt
in_by (Some r.OpenBrace) b h = tt
in_by (Some r.CloseBrace) b h = tt
in_by (Some r.Then) b h = tt
in_by (Some r.Elif) b h = tt
in_by (Some r.Else) b h = tt
in_by (Some r.Fi) b h = tt
in_by (Some r.For) b h = tt
in_by (Some r.While) b h = tt
in_by (Some r.Until) b h = tt
in_by (Some r.Do) b h = tt
in_by (Some r.Done) b h = tt

nameless_by : (b : Building) → IsBuilding b → MayBe (without_name b)
nameless_by b h =
    when_else b.spoilt (goes_on r.In (record b { nest = nests.named [] b.nest; nameless = true }))
    (goes_by r.In (record b { nest = nests.named [] b.nest; nameless = true }) (nesting.named_is [] b.nest h))

misnamed_by : (misname : Option (List ℕ)) (b : Building) → IsBuilding b → MayBe (misnamed misname b)
misnamed_by None b h = tt
misnamed_by (Some misname) b h = nesting.named_is misname b.nest h

named_by : (name misname : Option (List ℕ)) (b : Building) → IsBuilding b → MayBe (named name misname b)
named_by None misname b h = misnamed_by misname b h
named_by (Some name) misname b h = nesting.named_is name b.nest h

word_by : (part : Part) (w : FoundWord) (b : Building) → IsBuilding b → MayBe (word_at part w b)
word_by p.Name w b h = either (is_in (reserved_in w)) (without_name b) (named (name_in w) (misname_in w) b) (nameless_by b h) (named_by (name_in w) (misname_in w) b h)
word_by p.In w b h = in_by (reserved_in w) b h
word_by p.Words w b h = for_by b.words w b h
word_by p.Do w b h = behind_by b.words w b h
word_by p.Outside w b h = command_by w b h
word_by (p.Condition further) w b h = command_by w b h
word_by (p.Group braces) w b h = command_by w b h
word_by (p.Arm further) w b h = command_by w b h
word_by p.Else w b h = command_by w b h
word_by p.Test w b h = command_by w b h
word_by p.Body w b h = command_by w b h
word_by p.Each w b h = command_by w b h

end_by : (part : Part) (b : Building) → IsBuilding b → MayBe (end_at part b)
end_by p.Name b h = h
end_by p.In b h = h
end_by p.Words b h = nesting.worded_is (map word_of b.words) b.nest h
end_by p.Do b h = h
end_by p.Outside b h = separated_building b h
end_by (p.Condition further) b h = separated_building b h
end_by (p.Group braces) b h = separated_building b h
end_by (p.Arm further) b h = separated_building b h
end_by p.Else b h = separated_building b h
end_by p.Test b h = separated_building b h
end_by p.Body b h = separated_building b h
end_by p.Each b h = separated_building b h

token_by : (token : Token) (b : Building) → IsBuilding b → MayBe (read_token token b)
unfolding read_token
token_by (Word w) b h = word_by (part_in b) w b h
token_by Ends b h = end_by (part_in b) b h
token_by (Joins op) b h =
    either (nests.is_header (part_in b)) (end_at (part_in b) b) (Some (joined_in op b)) (end_by (part_in b) b h)
    (one_building (has_command b) (joined_by op b) b (joined_building op b h) h)
token_by Breaks b h = tt

next_by : (next : Option Building) (tokens : List Token) → ((b : Building) → IsBuilding b → MayBe (read_tokens tokens b)) → MayBe next → MayBe (elim next [ None ↦ None | Some b ↦ read_tokens tokens b ])
next_by None tokens more h = tt
next_by (Some b) tokens more h = more b h

tokens_by : (tokens : List Token) (b : Building) → IsBuilding b → MayBe (read_tokens tokens b)
tokens_by [] b h = h
tokens_by (token ∷ tokens) b h = next_by (read_token token b) tokens (tokens_by tokens) (token_by token b h)

-- ---- the whole

abbrev IsTree : Option Script → Type 0
IsTree None = Unit {0}
IsTree (Some script) = IsProper script

closed_tree : (is : Bool) (tree : Script) → IsProper tree → IsTree (cond is None (Some tree))
closed_tree true tree h = tt
closed_tree false tree h = h

tree_by : (b : Building) → IsBuilding b → IsTree (tree_in b)
tree_by b h = closed_tree (is_open b) (nests.script_in b.nest) (nesting.script_is b.nest h)

built_by : (built : Option Building) → MayBe built → IsTree (elim built [ None ↦ None | Some b ↦ tree_in b ])
built_by None h = tt
built_by (Some b) h = tree_by b h

text_by : (newer : Bool) (tokens : Option (List Token)) → IsTree (elim tokens [ None ↦ None | Some tokens ↦ tree_of_tokens newer tokens ])
text_by newer None = tt
text_by newer (Some tokens) = built_by (read_tokens tokens (nothing_built newer)) (tokens_by tokens (nothing_built newer) nesting.nothing)

pub old_trees_are_proper : (newer : Bool) (text : List ℕ) (script : Script) → old_tree_of newer text ≡ Some script → IsProper script
unfolding old_tree_of
old_trees_are_proper newer text script e = subst IsTree e (text_by newer (old_tokens text))

-- ---- a text that has a tree has no fault

closed_by : (is : Bool) (tree script : Script) → cond is None (Some tree) ≡ Some script → is ≡ false
closed_by false tree script e = refl
closed_by true tree script e = absurd (let f = e in cc)

abbrev read_next : Option Building → List Token → Option Building
read_next next tokens = elim next [ None ↦ None | Some b ↦ read_tokens tokens b ]

module _ (script : Script) where
  next_faultless : (next : Option Building) (token : Token) (tokens : List Token) (b : Building) → ((c : Building) → tree_behind (read_tokens tokens c) ≡ Some script → have_fault tokens c ≡ false) → tree_behind (read_next next tokens) ≡ Some script → elim next [ None ↦ is_fault token b | Some c ↦ have_fault tokens c ] ≡ false
  next_faultless None token tokens b more e = absurd (let f = e in cc)
  next_faultless (Some c) token tokens b more e = more c e

  faultless : (tokens : List Token) (b : Building) → tree_behind (read_tokens tokens b) ≡ Some script → have_fault tokens b ≡ false
  faultless [] b e = closed_by (is_open b) (nests.script_in b.nest) script e
  faultless (token ∷ tokens) b e = next_faultless (read_token token b) token tokens b (faultless tokens) e

tokens_faultless : (newer : Bool) (tokens : Option (List Token)) (script : Script) → elim tokens [ None ↦ None | Some ts ↦ tree_of_tokens newer ts ] ≡ Some script → elim tokens [ None ↦ false | Some ts ↦ tokens_have_fault newer ts ] ≡ false
tokens_faultless newer None script e = refl
tokens_faultless newer (Some ts) script e = faultless script ts (nothing_built newer) e

pub old_is_faultless : (newer : Bool) (text : List ℕ) (script : Script) → old_tree_of newer text ≡ Some script → has_fault newer text ≡ false
unfolding old_tree_of has_fault
old_is_faultless newer text script e = tokens_faultless newer (old_tokens text) script e
