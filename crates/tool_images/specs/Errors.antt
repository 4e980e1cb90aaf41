-- What a refusal of a part is for the whole. Running out of memory is one refusal, wherever it comes from.
use Rattle.envimage.specs.declared.image.ImageError.{ImageError}
use Rattle.envimage.specs.declared.image.ImageError.TheVariants as image
use Rattle.envtools.specs.declared.env_error.EnvError.{EnvError}
use Rattle.envtools.specs.declared.env_error.EnvError.TheVariants as env
use Rattle.envtools.specs.declared.print.PrintDataError.{PrintDataError}
use Rattle.envtools.specs.declared.print.PrintDataError.TheVariants as print
use Rattle.envtools.specs.declared.script.ScriptError.{ScriptError}
use Rattle.envtools.specs.declared.script.ScriptError.TheVariants as script
use Rattle.tool_images.specs.declared.error.ToolError.{ToolError}
use Rattle.tool_images.specs.declared.error.ToolError.TheVariants.{Image, Env, Script, Write, Memory}
use Rattle.tool_images.specs.declared.fault.Fault.{Fault}
use Rattle.tool_images.specs.declared.fault.Fault.TheVariants as told

abbrev pub image_fault : ImageError → ToolError
image_fault image.WrongSize = Image image.WrongSize
image_fault image.BadCrc = Image image.BadCrc
image_fault (image.Content fault) = Image (image.Content fault)
image_fault image.TooLarge = Image image.TooLarge
image_fault image.Memory = Memory

abbrev pub env_fault : EnvError → ToolError
env_fault (env.Content fault) = Image (image.Content fault)
env_fault env.BadName = Env env.BadName
env_fault env.BadValue = Env env.BadValue
env_fault env.Memory = Memory

abbrev pub print_fault : PrintDataError → ToolError
print_fault print.Write = Write
print_fault print.Memory = Memory

abbrev pub script_fault : ScriptError → ToolError
script_fault (script.BadName line) = Script (script.BadName line)
script_fault (script.BadValue line) = Script (script.BadValue line)
script_fault script.Memory = Memory

-- what a program reports of it
abbrev pub tool_fault : ToolError → Fault
tool_fault Memory = told.Memory
tool_fault error = told.Tool error
