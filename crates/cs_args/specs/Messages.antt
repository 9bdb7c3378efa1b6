-- The lines that the tools print for an error.
use Rattle.std.specs.Prelude.{ℕ, List, ◌++◌, codes, decimal}
use Rattle.cs_args.specs.FileFaults.{tool_name}
use Rattle.cs_syntax.specs.declared.fault.PatternFault.{PatternFault}
use Rattle.cs_syntax.specs.declared.fault.PatternFault.TheVariants.{NoOperand, StackedRepeat, BadRepeat, OpenGroup, StrayClose, BadGroup, OpenClass, BadRange, BadEscape, LoneBackslash, NotInProfile, TooDeep, TooLarge as PatternTooLarge, Memory as PatternMemory}
use Rattle.cs_syntax.specs.declared.fault.PatternError.{PatternError}
use Rattle.cs_args.specs.declared.jobs.Tool.{Tool}
use Rattle.cs_index.specs.declared.fault.IndexFault.{IndexFault}
use Rattle.cs_index.specs.declared.fault.IndexFault.TheVariants.{BadMagic, BadTrailer, BadOffsets, BadPaths, BadNames, BadNameIndex, BadListIndex, BadList, Memory as IndexMemory}
use Rattle.cs_args.specs.declared.fault.WordFault.{WordFault}
use Rattle.cs_args.specs.declared.fault.WordFault.TheVariants.{UnknownOption, NoValue, BadTruth, NoPattern, ExtraWord, Memory as WordMemory}
use Rattle.cs_args.specs.declared.fault.ToolFault.{ToolFault}
use Rattle.cs_args.specs.declared.fault.ToolFault.TheVariants.{Pattern, FilePattern, NoIndex as ToolNoIndex, BadIndex as ToolBadIndex, Write as ToolWrite, Memory as ToolMemory}
use Rattle.cs_args.specs.declared.fault.CindexFault.{CindexFault}
use Rattle.cs_args.specs.declared.fault.CindexFault.TheVariants.{NoIndex, BadIndex, Unsorted, TooLarge, BadPath, Write, Memory}
use Rattle.cs_args.specs.declared.fault.Refusal.{Refusal}
use Rattle.cs_args.specs.declared.fault.Refusal.TheVariants.{Word as A_word, Tool as A_tool, Index as An_index}

abbrev pub out_of_memory : List ℕ
out_of_memory = codes "out of memory"

abbrev pub pattern_fault_text : PatternFault → List ℕ
pattern_fault_text NoOperand = codes "nothing to repeat"
pattern_fault_text StackedRepeat = codes "stacked repeat"
pattern_fault_text BadRepeat = codes "bad repeat count"
pattern_fault_text OpenGroup = codes "group not closed"
pattern_fault_text StrayClose = codes "unexpected )"
pattern_fault_text BadGroup = codes "bad group"
pattern_fault_text OpenClass = codes "class not closed"
pattern_fault_text BadRange = codes "bad range"
pattern_fault_text BadEscape = codes "bad escape"
pattern_fault_text LoneBackslash = codes "lone backslash"
pattern_fault_text NotInProfile = codes "not in this profile"
pattern_fault_text TooDeep = codes "nested too deep"
pattern_fault_text PatternTooLarge = codes "pattern too large"
pattern_fault_text PatternMemory = out_of_memory

-- the offset of a pattern error, after the name of the pattern; out of memory has none
abbrev pub offset_text : PatternFault → List ℕ → ℕ → List ℕ
offset_text PatternMemory what offset = codes ""
offset_text _ what offset = what ++ decimal offset ++ codes ": "

abbrev pub pattern_error_text : List ℕ → PatternError → List ℕ
pattern_error_text what error = offset_text error.fault what error.at ++ pattern_fault_text error.fault

abbrev pub index_fault_text : IndexFault → List ℕ
index_fault_text BadMagic = codes "bad index: magic"
index_fault_text BadTrailer = codes "bad index: trailer"
index_fault_text BadOffsets = codes "bad index: offsets"
index_fault_text BadPaths = codes "bad index: paths"
index_fault_text BadNames = codes "bad index: names"
index_fault_text BadNameIndex = codes "bad index: name index"
index_fault_text BadListIndex = codes "bad index: list index"
index_fault_text BadList = codes "bad index: list"
index_fault_text IndexMemory = out_of_memory

-- `arg` is the argument that the error points at
abbrev pub word_fault_text : WordFault → List ℕ → List ℕ
word_fault_text (UnknownOption arg_index) arg = codes "unknown option " ++ arg
word_fault_text (NoValue arg_index) arg = codes "option " ++ arg ++ codes " needs a value"
word_fault_text (BadTruth arg_index) arg = codes "bad truth value in " ++ arg
word_fault_text NoPattern arg = codes "no pattern"
word_fault_text (ExtraWord arg_index) arg = codes "extra word " ++ arg
word_fault_text WordMemory arg = out_of_memory

abbrev pub tool_fault_text : ToolFault → List ℕ
tool_fault_text (Pattern error) = pattern_error_text (codes "pattern at ") error
tool_fault_text (FilePattern error) = pattern_error_text (codes "file pattern at ") error
tool_fault_text ToolNoIndex = codes "no index"
tool_fault_text (ToolBadIndex fault) = index_fault_text fault
tool_fault_text ToolWrite = codes "output failed"
tool_fault_text ToolMemory = out_of_memory

-- `arg` is the path that the error points at
abbrev pub cindex_fault_text : CindexFault → List ℕ → List ℕ
cindex_fault_text NoIndex arg = codes "no index"
cindex_fault_text (BadIndex fault) arg = index_fault_text fault
cindex_fault_text Unsorted arg = codes "index holds a name twice"
cindex_fault_text TooLarge arg = codes "index too large"
cindex_fault_text (BadPath position) arg = codes "bad path " ++ arg
cindex_fault_text Write arg = codes "output failed"
cindex_fault_text Memory arg = out_of_memory

abbrev pub refusal_text : Refusal → List ℕ → List ℕ
refusal_text (A_word fault) arg = word_fault_text fault arg
refusal_text (A_tool fault) arg = tool_fault_text fault
refusal_text (An_index fault) arg = cindex_fault_text fault arg

abbrev pub line_of : Tool → Refusal → List ℕ → List ℕ
line_of tool refusal arg = tool_name tool ++ codes ": " ++ refusal_text refusal arg ++ codes "\n"
