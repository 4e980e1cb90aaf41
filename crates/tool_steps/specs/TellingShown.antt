-- What contracts see of an output that knows whether anything was written to it.
use Rattle.std.specs.Prelude.{Bool}
use Rattle.tool_steps.specs.declared.telling.Telling.{Telling}

-- the output
abbrev pub out_of : {E : Type 0} → Telling E → E
out_of t = t.out

-- something was written
abbrev pub has_told : {E : Type 0} → Telling E → Bool
has_told t = t.told
