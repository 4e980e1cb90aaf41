use Rattle.std.proofs.Common.{sym, map}
use Rattle.std.proofs.lemmas.List.{map-append}
use Rattle.hushlang.specs.LexerShown.{token_of}
use Rattle.hushlang.specs.TreesShown as view
use Rattle.hushlang.proofs.WordLists.{words_begin, words_step, words_end}
use Rattle.hushlang.proofs.parsing.word_list.Goals as goal

pub words-init : goal.words-init
words-init c = rw c.new-all.ensures.items (words_begin c.args.tokens.now)

pub words-preserved : goal.words-preserved
words-preserved c = rw (c.take.ensures.after, c.in_ok-push.ensures.items, map-append) (words_step c.args.tokens.now c.words.tokens (map view.word c.words.all.items) (token_of c.in-Some.token) (view.word c.in_ok-word_of.field-0) (sym c.in-Some.ensures.value) c.in_ok-word_of.ensures.value c.words.invariant)

pub returns : goal.returns
returns c = record { reads = words_end c.args.tokens.now c.words.tokens (map view.word c.words.all.items) (sym c.in_default.ensures.value) c.words.invariant }
