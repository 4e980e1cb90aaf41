-- A line that is written in pieces.
use Rattle.std.proofs.Common.{List, ℕ, ◌++◌, Ok, Err}
use Rattle.std.specs.Prelude.{Result}
use Rattle.output.specs.Sink.{Prints, Sink, Wrote}
use Rattle.output.proofs.SinkLemmas.{BrokeOff-after, Wrote-append}

-- a call prints after a text that was written
pub Prints-behind : {T E : Type 0} (r : Result T E) (a b c : Sink) (xs ys : List ℕ) → Wrote a b xs → Prints r b c ys → Prints r a c (xs ++ ys)
Prints-behind (Ok done) a b c xs ys first last = Wrote-append first last
Prints-behind (Err fault) a b c xs ys first last = BrokeOff-after first last
