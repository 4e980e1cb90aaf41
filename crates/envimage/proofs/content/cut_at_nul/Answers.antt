use Rattle.std.proofs.Common.{◌+◌, ap, sym, ◌∙◌, take, ◌∷◌}
use Rattle.std.proofs.lemmas.List.{take_rest}
use Rattle.envimage.specs.Data.{texts_of}
use Rattle.envimage.proofs.DataLemmas.{texts_of-cut, texts_of-uncut}
use Rattle.envimage.proofs.content.cut_at_nul.Goals as goal

pub returns-in_err-at-clause-texts : goal.returns-in_err-at-clause-texts
returns-in_err-at-clause-texts c =
    rw c.from_residual.ensures (texts_of-uncut c.args.bytes.now (sym c.find.ensures ∙ c.in_err-at.was))

pub returns-clause-texts : goal.returns-clause-texts
returns-clause-texts c =
    texts_of-cut c.args.bytes.now c.in_ok-at.at (sym c.find.ensures ∙ c.in_ok-at.was)
    ∙ ap (λ rest. take c.in_ok-at.at c.args.bytes.now ∷ texts_of rest) (sym (take_rest c.args.bytes.now (c.in_ok-at.at + 1)))
