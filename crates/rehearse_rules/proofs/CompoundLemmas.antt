-- A compound command that `exit` has not left is as what is in it, and so is the text of a file.
use Rattle.std.proofs.Common.{refl, ◌≡◌}
use Rattle.rehearse_terms.specs.State.{State}
use Rattle.rehearse_terms.specs.declared.shell.Shell.{Shell}
use Rattle.rehearse_terms.specs.declared.shell.Shell.TheVariants.{Profile, Old2023, Old2025, Modern2025}
use Rattle.rehearse_rules.specs.Execution.{Normal, Ended, Dry, Ending, compound, sourced}

pub compound_normal : (shell : Shell) (s : State) → compound shell (Normal s) ≡ Normal s
compound_normal Profile s = refl
compound_normal Old2023 s = refl
compound_normal Old2025 s = refl
compound_normal Modern2025 s = refl

pub compound_ended : (shell : Shell) (ending : Ending) (s : State) → compound shell (Ended ending s) ≡ Ended ending s
compound_ended Profile ending s = refl
compound_ended Old2023 ending s = refl
compound_ended Old2025 ending s = refl
compound_ended Modern2025 ending s = refl

pub compound_dry : (shell : Shell) (s : State) → compound shell (Dry s) ≡ Dry s
compound_dry Profile s = refl
compound_dry Old2023 s = refl
compound_dry Old2025 s = refl
compound_dry Modern2025 s = refl

pub sourced_normal : (shell : Shell) (s : State) → sourced shell (Normal s) ≡ Normal s
sourced_normal Profile s = refl
sourced_normal Old2023 s = refl
sourced_normal Old2025 s = refl
sourced_normal Modern2025 s = refl

pub sourced_ended : (shell : Shell) (ending : Ending) (s : State) → sourced shell (Ended ending s) ≡ Ended ending s
sourced_ended Profile ending s = refl
sourced_ended Old2023 ending s = refl
sourced_ended Old2025 ending s = refl
sourced_ended Modern2025 ending s = refl

pub sourced_dry : (shell : Shell) (s : State) → sourced shell (Dry s) ≡ Dry s
sourced_dry Profile s = refl
sourced_dry Old2023 s = refl
sourced_dry Old2025 s = refl
sourced_dry Modern2025 s = refl
