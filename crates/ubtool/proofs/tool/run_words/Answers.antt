use Rattle.std.proofs.Common.{ℕ, List, arith, map, refl, subst}
use Rattle.tool_steps.specs.Running.{Ends, Tells}
use Rattle.output.specs.Outputs.{outputs}
use Rattle.tool_words.specs.Called.{name_of}
use Rattle.tool_words.specs.CommandAnswers.{Answers}
use Rattle.ubtool.specs.Performing.{Does, Leaves}
use Rattle.ubtool.proofs.AskLemmas.{answer-complete}
use Rattle.tool_steps.proofs.RunLemmas.{ends-low, never-misused, status-done, status-refused}
use Rattle.ubtool.proofs.tool.run_words.Goals as goal

pub perform-answer-requires : goal.perform-answer-requires
perform-answer-requires g c = answer-complete c.args.called (map g.S.AsStr.text c.args.words.now) c.in-Ok.ask c.in-Ok.ensures

pub returns-in-Ok : goal.returns-in-Ok
returns-in-Ok g c =
    let words = map g.S.AsStr.text c.args.words.now in
    let faults = g.F.Files.faults c.args.files.now in
    let faults' = g.F.Files.faults c.perform-answer.new.files in
    let before = g.F.Files.told c.args.files.now in
    let after = g.F.Files.told c.perform-answer.new.files in
    let out = g.O.Out.sink c.args.out.now in
    let out' = g.O.Out.sink c.perform-answer.new.out in
    let err = g.E.Out.sink c.args.err.now in
    let told = g.E.Out.sink c.perform-answer.new.err in
    let err' = g.E.Out.sink c.status_of.new.err in
    let program = name_of c.args.called in
    let Doing = Does program c.args.build (g.R.Read.remaining c.args.input.now) in
    let answer = c.perform-answer.result in
    let status = c.status_of.result in
    let ends = subst (λ (p : List ℕ). Ends p 1 answer told err' status) c.name-program.ensures c.status_of.ensures in
    let does = subst (λ (p : List ℕ). Does p c.args.build (g.R.Read.remaining c.args.input.now) c.in-Ok.ask before after (outputs out out' err told) answer) c.name-program.ensures c.perform-answer.ensures.does in
    record {
      bound = ends-low program answer told err' status ends;
      done = λ is. status-done program (Answers c.args.called) Leaves Doing words c.in-Ok.ask faults faults' before after out out' err told err' answer status c.in-Ok.ensures (c.perform-answer.ensures.count, c.perform-answer.ensures.lock) does ends is;
      refused = λ is. status-refused program (Answers c.args.called) Leaves Doing words c.in-Ok.ask faults faults' before after out out' err told err' answer status c.in-Ok.ensures (c.perform-answer.ensures.count, c.perform-answer.ensures.lock) does ends is;
      misused = λ is. absurd (never-misused program answer told err' status ends is);
    }

pub returns-in-Err : goal.returns-in-Err
returns-in-Err g c = record {
  bound = omega arith;
  done = λ is. let none : ⊥ = omega (arith, is) in absurd none;
  refused = λ is. let none : ⊥ = omega (arith, is) in absurd none;
  misused = λ _. record { error = c.in-Err.error; refused = c.in-Err.ensures; sound = refl; files = refl; lock = refl; output = refl; tells = subst (λ (p : List ℕ). Tells p c.in-Err.error (g.E.Out.sink c.args.err.now) (g.E.Out.sink c.refuse.new.err)) c.name.ensures c.refuse.ensures };
}
