use Rattle.std.proofs.Common.{◌≡◌, ◌∙◌, ℕ, List, ap, sym, subst, string_bytes}
use Rattle.tool_files.specs.Told.{IfTold}
use Rattle.tool_steps.proofs.ReadingLemmas.{IfTold-weaker}
use Rattle.tool_steps.proofs.ScriptLemmas.{sized-made}
use Rattle.tool_steps.specs.Scripts.{MakesScript, ReadsSized, sized_of}
use Rattle.tool_steps.proofs.script.read_script_below.Goals as goal

pub returns-clause-told : goal.returns-clause-told
returns-clause-told g c =
    let path = string_bytes c.args.path in
    let same : string_bytes c.in-Ok.name ≡ path = c.in-Ok.ensures.cases in
    let of_path = subst (λ (path : List ℕ). MakesScript path c.deref.result.now c.script_of.result) same c.script_of.ensures in
    let of_bytes = subst (λ (bytes : List ℕ). MakesScript path bytes c.script_of.result) c.deref.ensures.value of_path in
    let made = sized-made path c.in_ok-bytes.bytes c.script_of.result of_bytes in
    let a = g.F.Files.told c.args.files.now in
    let b = g.F.Files.told c.read_text_below.new.files in
    let is = c.sized.ensures ∙ ap (sized_of c.script_of.result) (c.len-size.ensures ∙ c.in_ok-bytes.bytes.ok.0) in
    subst (λ r. IfTold a b (λ old new. ReadsSized path old new r)) (sym is) (IfTold-weaker a b made c.in_ok-bytes.ensures.told)
