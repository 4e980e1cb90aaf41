use Rattle.std.proofs.Common.{◌≡◌, ◌∙◌, ap, fold, None}
use Rattle.envimage.specs.Data.{pairs_of}
use Rattle.envimage.specs.Entries.{pairs_left}
use Rattle.envtools.proofs.EnvOf.{last_value, fold-last_value}
use Rattle.envtools.proofs.view.BodyLookup.get.Goals as goal

pub loop-key-init : goal.loop-key-init
loop-key-init c =
    let left : pairs_left c.into_iter-key-iterator.result ≡ pairs_of c.args.self.now.bytes.now = cc in
    ap (fold (last_value c.args.name.now) None) left ∙ fold-last_value c.args.name.now (pairs_of c.args.self.now.bytes.now)
