use Rattle.std.proofs.Common.{◌∷◌, ℕ, List, refl, ap, ◌∙◌}
use Rattle.std.proofs.lemmas.List.{append-nil}
use Rattle.text.proofs.HexLemmas.{digits_are}
use Rattle.text.proofs.ResultLemmas.{from_ok}
use Rattle.text.proofs.escapes.hidden.Goals as goal

pub returns : goal.returns
returns c =
    let out = c.encode_to_slice-fits.new.output in
    ap (λ (ds : List ℕ). 92 ∷ 120 ∷ ds) (append-nil out ∙ from_ok c.encode_to_slice-fits.result (c.encode_to_slice-fits.ensures.fits.1 refl) c.encode_to_slice-fits.ensures.written ∙ digits_are c.args.byte c.ranges.byte.fits)
