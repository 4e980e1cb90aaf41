-- What the words of a script expand by at a moment of a run. Ours.
use Rattle.hushlang.specs.Expansion as expansion
use Rattle.rehearse_terms.specs.State.{Memory, value_in}

-- what words expand by
abbrev pub parameters_in : Memory → expansion.Parameters
parameters_in m = record { value = value_in m; status = m.status }
