-- Why a file is not indexed, and the line that `-logskip` prints for it.
-- docs/PROMISES.md, "Arguments and messages"; docs/FORMAT.md, "Which files are text".
use Rattle.std.specs.Prelude.{ℕ, List, ◌++◌, codes}
use Rattle.cs_args.specs.declared.jobs.Tool.TheVariants.{Cindex}
use Rattle.cs_trigram.specs.declared.scan.Reason.{Reason}
use Rattle.cs_trigram.specs.declared.scan.Reason.TheVariants.{Nul, Utf8, TooLong, LongLine, ManyTrigrams}
use Rattle.cs_args.specs.FileFaults.{tool_name}

-- why a file is not indexed
abbrev pub reason_text : Reason → List ℕ
reason_text Nul = codes "NUL byte"
reason_text Utf8 = codes "bad UTF-8"
reason_text TooLong = codes "file too long"
reason_text LongLine = codes "line too long"
reason_text ManyTrigrams = codes "too many trigrams"

abbrev pub skip_line_of : List ℕ → Reason → List ℕ
skip_line_of name reason =
    tool_name Cindex ++ codes ": " ++ name ++ codes ": not indexed: " ++ reason_text reason ++ codes "\n"
