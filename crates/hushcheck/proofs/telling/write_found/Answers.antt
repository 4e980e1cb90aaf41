use Rattle.std.proofs.lemmas.Result.{err_from_is_err_and}
use Rattle.hushcheck.specs.declared.check_error.CheckError.TheVariants.{Memory, Write}
use Rattle.hushcheck.proofs.TellingLemmas.{front-nothing, wrote-as, wrote-item, word_broke, word_is, word_lines, words_wrote}
use Rattle.output.specs.Sink.{BrokeOff}
use Rattle.std.proofs.Common.{subst, List, ℕ}
use Rattle.hushcheck.proofs.telling.write_found.Goals as goal

pub returns-in_err-push_found : goal.returns-in_err-push_found
returns-in_err-push_found g c =
    let p = err_from_is_err_and c.from_residual.result c.from_residual.ensures.1 in
    let name = c.args.name.now in
    let text = c.args.text.now in
    let out = g.O.Out.sink c.loop-word.out in
    rw (p.1, p.2) (word_broke name text c.args.found.now (g.O.Out.sink c.args.out.now) out out c.loop-word.word-index c.word-item.result Memory c.loop-word-test.true c.word-item.is c.loop-word.invariant.0
    (front-nothing out (word_lines name text c.args.found.now c.word-item.result)))

pub returns-in_err-write_all : goal.returns-in_err-write_all
returns-in_err-write_all g c =
    let p = err_from_is_err_and c.from_residual-in_err-write_all.result c.from_residual-in_err-write_all.ensures.1 in
    let name = c.args.name.now in
    let text = c.args.text.now in
    let found = c.args.found.now in
    let word = c.word-item.result in
    let line = word_is name text found c.clear.new.self.items c.push_found.new.told.items c.deref.result.now word c.moved-point.result.at c.clear.ensures.items c.in_ok-push_found.ensures c.moved-point.ensures.at c.deref.ensures.value in
    let P : List ℕ → Type 0 = λ t. BrokeOff (g.O.Out.sink c.loop-word.out) (g.O.Out.sink c.write_all.new.out) t in
    rw (p.1, p.2) (word_broke name text found (g.O.Out.sink c.args.out.now) (g.O.Out.sink c.loop-word.out) (g.O.Out.sink c.write_all.new.out) c.loop-word.word-index word Write c.loop-word-test.true c.word-item.is c.loop-word.invariant.0
    (subst P line c.in_err-write_all.ensures))

pub loop-word-preserved : goal.loop-word-preserved
loop-word-preserved g c =
    let name = c.args.name.now in
    let text = c.args.text.now in
    let found = c.args.found.now in
    let word = c.word-item.result in
    let line = word_is name text found c.clear.new.self.items c.push_found.new.told.items c.deref.result.now word c.moved-point.result.at c.clear.ensures.items c.in_ok-push_found.ensures c.moved-point.ensures.at c.deref.ensures.value in (
      wrote-item (word_lines name text found) found (g.O.Out.sink c.args.out.now) (g.O.Out.sink c.loop-word.out) (g.O.Out.sink c.write_all.new.out) c.loop-word.word-index word c.loop-word-test.true c.word-item.is c.loop-word.invariant.0
          (wrote-as (g.O.Out.sink c.loop-word.out) (g.O.Out.sink c.write_all.new.out) c.deref.result.now _ line c.in_ok-write_all.ensures),
      c.moved-point.ensures.point,
    )

pub returns : goal.returns
returns g c = words_wrote c.args.name.now c.args.text.now c.args.found.now (g.O.Out.sink c.args.out.now) (g.O.Out.sink c.loop-word.out) c.loop-word.word-index c.loop-word-test.false c.loop-word.invariant.0
