use Rattle.std.proofs.Common.{◌≡◌, ◌≤◌, true, map, sym, subst, List, ℕ, rules, arith}
use Rattle.std.proofs.lemmas.Grind.{common_steps}
use Rattle.envimage.specs.Data.{Pair}
use Rattle.envimage.specs.Entries.{pair_at}
use Rattle.envimage.specs.Encoding.{is_image_size, needed, image_of, ReadsBack}
use Rattle.envimage.proofs.RoundTrip.{reads_back}
use Rattle.envimage.proofs.encoding.encode.Goals as goal

pub returns-clause-back : goal.returns-clause-back
returns-clause-back c =
    let pairs : List Pair = map pair_at c.args.pairs.now in
    let in_range : is_image_size c.args.flag c.args.size ≡ true = search rules in
    let fits : needed c.args.flag pairs ≤ c.args.size = grind (arith, common_steps) in
    let items : c.in_ok-sealed.field-0.items ≡ image_of c.args.order c.args.flag c.args.size pairs = search rules in
    let P : List ℕ → Type 0 = λ image. ReadsBack c.args.order c.args.flag image pairs in
    subst P (sym items) (reads_back c.args.order c.args.flag c.args.size pairs c.requires in_range fits)
