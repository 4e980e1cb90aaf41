-- What the shells of U-Boot read otherwise in a text, in words: a row of what differs between ubtool's own reading and
-- U-Boot's shells, which were compared with it. Ours.
use Rattle.std.specs.Prelude.{codes}
use Rattle.hushcheck.specs.Names.{Text}
use Rattle.hushcheck.specs.declared.warning.Warning.{Warning}
use Rattle.hushcheck.specs.declared.warning.Warning.TheVariants.{StraightBehind, MixedList, OperatorAtLineEnd, WordOfFor, ReservedName, Exit, EmptyAssignment, UnderscoreName, BackslashInSingle, BackslashInDouble, Apostrophe, PartlyQuoted, LooseOperand, FileTest, EmptyWord, OptionOfSetenv, ManyWords, StatusInBraces, OddName, SpecialParameter, Parenthesis, BackslashAtLineEnd, NotFollowedText}

abbrev pub warning_text : Warning → Text
warning_text StraightBehind = codes "warning: U-Boot's old shell needs ; before this word"
warning_text MixedList = codes "warning: once U-Boot's old shell skips a command, it skips the rest of the list"
warning_text OperatorAtLineEnd = codes "warning: U-Boot's old shell ends the list with this line, and runs the next one"
warning_text WordOfFor = codes "warning: U-Boot's old shell splits this word at each space, and drops it if it is empty"
warning_text ReservedName = codes "warning: U-Boot's old shell refuses a reserved word here"
warning_text Exit = codes "warning: exit ends nothing in U-Boot 2023.01, and other things in a block later on"
warning_text EmptyAssignment = codes "warning: U-Boot 2023.01 keeps the value that the variable has"
warning_text UnderscoreName = codes "warning: no variable of U-Boot's old shell has a name that starts with _"
warning_text BackslashInSingle = codes "warning: U-Boot's old shell drops a backslash in single quotes"
warning_text BackslashInDouble = codes "warning: U-Boot's old shell keeps a backslash in double quotes"
warning_text Apostrophe = codes "warning: an apostrophe in double quotes opens quotes in U-Boot's old shell"
warning_text PartlyQuoted = codes "warning: U-Boot's old shell does not split a word of which a part is quoted"
warning_text LooseOperand = codes "warning: test may be true in U-Boot if this leaves words over or too few: quote it"
warning_text FileTest = codes "warning: U-Boot's test asks for a file here"
warning_text EmptyWord = codes "warning: U-Boot's modern shell drops '', but keeps \"\""
warning_text OptionOfSetenv = codes "warning: U-Boot's setenv takes this for an option, or sets an empty name"
warning_text ManyWords = codes "warning: a command has at most 16 words in U-Boot 2023.01"
warning_text StatusInBraces = codes "warning: ${?} is empty in U-Boot's old shell"
warning_text OddName = codes "warning: U-Boot's modern shell refuses this name in braces"
warning_text SpecialParameter = codes "warning: U-Boot's modern shell takes $ and the byte after it for a variable"
warning_text Parenthesis = codes "warning: U-Boot's modern shell refuses ( outside quotes"
warning_text BackslashAtLineEnd = codes "warning: U-Boot's old shell keeps the line's end after this backslash"
warning_text NotFollowedText = codes "warning: a rehearsal by this shell does not run this text"
