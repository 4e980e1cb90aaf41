pub mod ScriptFiles
