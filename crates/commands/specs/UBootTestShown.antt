-- What the program reads of U-Boot's `test`, seen as in the definitions.
use Rattle.std.specs.Prelude.{ℕ, Bool, Option, List, option_map}
use Rattle.commands.specs.UBootTest as says
use Rattle.commands.specs.TextsShown.{texts}
use Rattle.commands.specs.declared.uboot_test.Joint.{Joint}
use Rattle.commands.specs.declared.uboot_test.Joint.TheVariants as joint_names
use Rattle.commands.specs.declared.uboot_test.Term.{Term}
use Rattle.commands.specs.declared.uboot_test.Term.TheVariants as term_names
use Rattle.commands.specs.declared.uboot_test.Found.{Found}
use Rattle.commands.specs.declared.uboot_test.Question.{Question}
use Rattle.commands.specs.declared.uboot_test.Question.TheVariants as question_names

abbrev pub joint_shown : Joint → says.Joint
joint_shown joint_names.Alone = says.Alone
joint_shown joint_names.And = says.And
joint_shown joint_names.Or = says.Or

abbrev pub term_shown : Term → says.Term
term_shown term_names.Turns = says.Turns
term_shown (term_names.Joins joint) = says.Joins (joint_shown joint)
term_shown (term_names.Finds truth) = says.Finds truth
term_shown (term_names.Asks file) = says.Asks (texts file.now)

abbrev pub begun_shown : Option (Term × ℕ) → says.Begun
begun_shown = option_map (λ t. (term_shown t.0, t.1))

abbrev pub question_shown : Question → says.Question
question_shown question_names.Nothing = says.Nothing
question_shown (question_names.File words) = says.File (texts words.now)
question_shown question_names.Files = says.Files

-- the truth in the end, after what was found
abbrev pub found_holds : Found → List says.Term → Bool
found_holds found = says.holds found.before (joint_shown found.joint) found.turns found.answers.now
