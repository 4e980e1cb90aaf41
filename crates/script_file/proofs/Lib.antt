mod ScriptLemmas
mod ScriptExamples
