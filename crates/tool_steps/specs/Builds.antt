-- What the version says of the build of a program. The processor is named as by uname, and the rest is ours.
use Rattle.std.specs.Prelude.{◌++◌, ℕ, List, codes}
use Rattle.tool_words.specs.declared.version.TheConstants.{VERSION}
use Rattle.tool_steps.specs.declared.build.Build.{Build}
use Rattle.tool_steps.specs.declared.build.Build.TheVariants.{Arm64, Arm64Static, X86_64, X86_64Static}

-- the processor of a build, and how its program is linked
abbrev pub build_text : Build → List ℕ
build_text X86_64 = codes "x86_64, dynamic"
build_text X86_64Static = codes "x86_64, static"
build_text Arm64 = codes "aarch64, dynamic"
build_text Arm64Static = codes "aarch64, static"

-- the line of a program of this name: its version, and these words on its build
abbrev pub line_of : List ℕ → List ℕ → List ℕ
line_of program build = program ++ codes " " ++ VERSION.now ++ codes " (" ++ build ++ codes ")\n"

-- the line with the version of a program of this name, of this build
abbrev pub version_line : List ℕ → Build → List ℕ
version_line program build = line_of program (build_text build)
