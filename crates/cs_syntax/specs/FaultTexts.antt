-- The messages of syntax errors.
use Rattle.std.specs.Prelude.{ℕ, List, codes}
use Rattle.cs_syntax.specs.declared.fault.PatternFault.{PatternFault}
use Rattle.cs_syntax.specs.declared.fault.PatternFault.TheVariants.{NoOperand, StackedRepeat, BadRepeat, OpenGroup, StrayClose, BadGroup, OpenClass, BadRange, BadEscape, LoneBackslash, NotInProfile, TooDeep, TooLarge, Memory}

abbrev pub fault_text : PatternFault → List ℕ
fault_text NoOperand = codes "nothing to repeat"
fault_text StackedRepeat = codes "a repeat of a repeat"
fault_text BadRepeat = codes "a bad count of a repeat"
fault_text OpenGroup = codes "a group is not closed"
fault_text StrayClose = codes "a parenthesis closes no group"
fault_text BadGroup = codes "a bad head of a group"
fault_text OpenClass = codes "a class is not closed"
fault_text BadRange = codes "a bad range or name in a class"
fault_text BadEscape = codes "a bad escape"
fault_text LoneBackslash = codes "a backslash at the end"
fault_text NotInProfile = codes "not in this profile"
fault_text TooDeep = codes "nested too deep"
fault_text TooLarge = codes "the pattern is too large"
fault_text Memory = codes "out of memory"
