use Rattle.std.proofs.Common.{◌∙◌, ap, sym, map}
use Rattle.envtools.specs.Environment.{is_value}
use Rattle.envtools.proofs.WordsLemmas.{is_value-joined}
use Rattle.envtools.proofs.env.new_value.Goals as goal

pub returns-clause-value : goal.returns-clause-value
returns-clause-value c =
    ap is_value c.in_ok-joined_words.ensures
    ∙ is_value-joined (map (λ w. w.now) c.args.words.now) (sym c.are_values.ensures ∙ c.if-not-are_values.false)
