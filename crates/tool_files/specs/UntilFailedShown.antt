-- What contracts see of a writer that is not called again after it has failed.
use Rattle.std.specs.Prelude.{Bool}
use Rattle.tool_files.specs.declared.until_failed.UntilFailed.{UntilFailed}

-- the writer, which shows the bytes
abbrev pub writer_of : {W : Type 0} → UntilFailed W → W
writer_of w = w.writer

-- whether it has failed
abbrev pub has_failed : {W : Type 0} → UntilFailed W → Bool
has_failed w = w.failed
