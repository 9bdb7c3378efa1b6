-- The codes of errors: the numbers of `codesearch.h`.
use Rattle.std.specs.Prelude.{ℤ, pos, negsuc, Bool, if◌then◌else◌}
use Rattle.cs_syntax.specs.declared.fault.PatternFault.{PatternFault}
use Rattle.cs_syntax.specs.declared.fault.PatternFault.TheVariants as pattern
use Rattle.cs_index.specs.declared.fault.IndexFault.{IndexFault}
use Rattle.cs_index.specs.declared.fault.IndexFault.TheVariants as index
use Rattle.cs_index.specs.declared.fault.BuildFault.{BuildFault}
use Rattle.cs_index.specs.declared.fault.BuildFault.TheVariants as build
use Rattle.cs_merge.specs.declared.fault.MergeFault.{MergeFault}
use Rattle.cs_merge.specs.declared.fault.MergeFault.TheVariants as merge
use Rattle.cs_trigram.specs.declared.scan.Reason.{Reason}
use Rattle.cs_trigram.specs.declared.scan.Reason.TheVariants as reason

abbrev pub done : ℤ
done = pos 0

abbrev pub memory : ℤ
memory = negsuc 0

abbrev pub not_utf8 : ℤ
not_utf8 = negsuc 1

abbrev pub room : ℤ
room = negsuc 2

abbrev pub no_entry : ℤ
no_entry = negsuc 3

abbrev pub misuse : ℤ
misuse = negsuc 4

abbrev pub stopped : ℤ
stopped = negsuc 5

-- of a list of spans
abbrev pub list_code : Bool → ℤ
list_code is_stopped = if is_stopped then stopped else done

-- -20 and below
abbrev pub pattern_code : PatternFault → ℤ
pattern_code pattern.NoOperand = negsuc 19
pattern_code pattern.StackedRepeat = negsuc 20
pattern_code pattern.BadRepeat = negsuc 21
pattern_code pattern.OpenGroup = negsuc 22
pattern_code pattern.StrayClose = negsuc 23
pattern_code pattern.BadGroup = negsuc 24
pattern_code pattern.OpenClass = negsuc 25
pattern_code pattern.BadRange = negsuc 26
pattern_code pattern.BadEscape = negsuc 27
pattern_code pattern.LoneBackslash = negsuc 28
pattern_code pattern.NotInProfile = negsuc 29
pattern_code pattern.TooDeep = negsuc 30
pattern_code pattern.TooLarge = negsuc 31
pattern_code pattern.Memory = memory

-- -40 and below
abbrev pub index_code : IndexFault → ℤ
index_code index.BadMagic = negsuc 39
index_code index.BadTrailer = negsuc 40
index_code index.BadOffsets = negsuc 41
index_code index.BadPaths = negsuc 42
index_code index.BadNames = negsuc 43
index_code index.BadNameIndex = negsuc 44
index_code index.BadListIndex = negsuc 45
index_code index.BadList = negsuc 46
index_code index.Memory = memory

-- -60 and below
abbrev pub build_code : BuildFault → ℤ
build_code build.BadName = negsuc 59
build_code build.OutOfOrder = negsuc 60
build_code build.BadPaths = negsuc 61
build_code build.TooLarge = negsuc 62
build_code build.Memory = memory

-- -80 and below; an error that an index or a builder has too has its code
abbrev pub merge_code : MergeFault → ℤ
merge_code merge.Unsorted = negsuc 79
merge_code merge.Uncovered = negsuc 80
merge_code (merge.Index fault) = index_code fault
merge_code merge.TooLarge = build_code build.TooLarge
merge_code merge.Memory = memory

-- 1 to 5
abbrev pub reason_code : Reason → ℤ
reason_code reason.Nul = pos 1
reason_code reason.Utf8 = pos 2
reason_code reason.TooLong = pos 3
reason_code reason.LongLine = pos 4
reason_code reason.ManyTrigrams = pos 5
