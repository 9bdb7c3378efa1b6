-- Worked examples of arguments.
use Rattle.std.proofs.Common.{◌≡◌, ℕ, List, [], ◌∷◌, Some, None, Result, Ok, Err, refl, true, false}
use Rattle.cs_args.specs.SkipLines.{skip_line_of}
use Rattle.cs_args.specs.FileFaults.{fault_line_of}
use Rattle.std.specs.Prelude.{codes}
use Rattle.cs_args.specs.Args.{name_of, value_of, is_option, option_items_from, parse_args}
use Rattle.cs_args.specs.JobView.{JobView, index, search, grep}
use Rattle.cs_args.specs.declared.jobs.Tool.TheVariants.{Cindex, Csearch, Cgrep}
use Rattle.cs_args.specs.declared.jobs.Style.{Style}
use Rattle.cs_args.specs.declared.fault.WordFault.{WordFault}
use Rattle.cs_args.specs.declared.fault.WordFault.TheVariants.{UnknownOption, NoValue, BadTruth, NoPattern, ExtraWord}
use Rattle.std.specs.Fmt.{digits}
use Rattle.cs_syntax.specs.declared.fault.PatternFault.TheVariants.{TooDeep, Memory as PatternMemory}
use Rattle.cs_args.specs.Messages.{line_of}
use Rattle.cs_args.specs.declared.fault.Refusal.TheVariants.{Word as A_word, Tool as A_tool, Index as An_index}
use Rattle.cs_args.specs.declared.fault.ToolFault.TheVariants.{Pattern, FilePattern, BadIndex as ToolBadIndex}
use Rattle.cs_args.specs.declared.fault.CindexFault.TheVariants.{NoIndex, BadPath}
use Rattle.cs_args.specs.declared.fault.FileFault.TheVariants.{Missing, Output, Failed}
use Rattle.cs_index.specs.declared.fault.IndexFault.TheVariants.{BadTrailer, Memory as IndexMemory}
use Rattle.cs_trigram.specs.declared.scan.Reason.TheVariants.{Nul}

plain : Style
plain = record { count = false; list = false; number = false; bare = false }

cgrep : List (List ℕ) → Result JobView WordFault
unfolding parse_args
cgrep args = parse_args Cgrep [] args

-- a name, two dashes, and a value that is cut at the first `=`
two_dashes : (name_of (codes "--n=a=b") ≡ codes "n") × (value_of (codes "--n=a=b") ≡ Some (codes "a=b"))
two_dashes = (refl, refl)

empty_value : value_of (codes "-f=") ≡ Some []
empty_value = refl

no_options : (is_option (codes "-") ≡ false) × (is_option [] ≡ false) × (is_option (codes "--") ≡ false) × (is_option (codes "---") ≡ true)
no_options = (refl, refl, refl, refl)

-- cgrep: `-n -n=false x` prints no numbers
last_counts : cgrep (codes "-n" ∷ codes "-n=false" ∷ codes "x" ∷ []) ≡ Ok (grep plain false (codes "x") true [])
unfolding cgrep plain parse_args option_items_from
last_counts = refl

bad_truth : cgrep (codes "-n=yes" ∷ codes "x" ∷ []) ≡ Err (BadTruth 0)
unfolding cgrep parse_args option_items_from
bad_truth = refl

empty_truth : cgrep (codes "-n=" ∷ codes "x" ∷ []) ≡ Err (BadTruth 0)
unfolding cgrep parse_args option_items_from
empty_truth = refl

-- one-letter options are not combined
combined : cgrep (codes "-cn" ∷ codes "x" ∷ []) ≡ Err (UnknownOption 0)
unfolding cgrep parse_args option_items_from
combined = refl

three_dashes : cgrep (codes "---n" ∷ codes "x" ∷ []) ≡ Err (UnknownOption 0)
unfolding cgrep parse_args option_items_from
three_dashes = refl

no_name : cgrep (codes "-n" ∷ codes "-=v" ∷ []) ≡ Err (UnknownOption 1)
unfolding cgrep parse_args option_items_from
no_name = refl

nothing : cgrep [] ≡ Err NoPattern
unfolding cgrep parse_args option_items_from
nothing = refl

-- `--` ends the options, and is dropped
ended : cgrep (codes "--" ∷ codes "-x" ∷ []) ≡ Ok (grep plain false (codes "-x") true [])
unfolding cgrep plain parse_args option_items_from
ended = refl

ended_once : cgrep (codes "-n" ∷ codes "--" ∷ codes "--" ∷ [])
    ≡ Ok (grep (record { count = false; list = false; number = true; bare = false }) false (codes "--") true [])
unfolding cgrep plain parse_args option_items_from
ended_once = refl

dash : cgrep (codes "-" ∷ []) ≡ Ok (grep plain false (codes "-") true [])
unfolding cgrep plain parse_args option_items_from
dash = refl

-- after the pattern nothing is an option
files : cgrep (codes "-i" ∷ codes "x" ∷ codes "-n" ∷ []) ≡ Ok (grep plain true (codes "x") false (codes "-n" ∷ []))
unfolding cgrep plain parse_args option_items_from
files = refl

csearch : List (List ℕ) → Result JobView WordFault
unfolding parse_args
csearch args = parse_args Csearch [] args

no_value : csearch (codes "-f" ∷ []) ≡ Err (NoValue 0)
unfolding csearch parse_args option_items_from
no_value = refl

empty_file : csearch (codes "-f=" ∷ codes "x" ∷ []) ≡ Ok (search plain false false (Some []) (codes "x"))
unfolding csearch plain parse_args option_items_from
empty_file = refl

-- the next argument is the value, even if it begins with a dash
next_arg : csearch (codes "-f" ∷ codes "-n" ∷ codes "x" ∷ []) ≡ Ok (search plain false false (Some (codes "-n")) (codes "x"))
unfolding csearch plain parse_args option_items_from
next_arg = refl

extra_word : csearch (codes "x" ∷ codes "y" ∷ []) ≡ Err (ExtraWord 1)
unfolding csearch parse_args option_items_from
extra_word = refl

later_extra_word : csearch (codes "-f" ∷ codes "p" ∷ codes "--" ∷ codes "x" ∷ codes "y" ∷ codes "z" ∷ []) ≡ Err (ExtraWord 4)
unfolding csearch parse_args option_items_from
later_extra_word = refl

brute : csearch (codes "--brute" ∷ codes "x" ∷ []) ≡ Ok (search plain false true None (codes "x"))
unfolding csearch plain parse_args option_items_from
brute = refl

-- the first error is returned, even if the pattern is missing too
first_fault_counts : csearch (codes "-n=no" ∷ codes "-x" ∷ []) ≡ Err (BadTruth 0)
unfolding csearch parse_args option_items_from
first_fault_counts = refl

-- `cindex /t -list`, in the folder /w
paths : parse_args Cindex (codes "/w") (codes "/t" ∷ codes "-list" ∷ [])
    ≡ Ok (index false false false (codes "/w") (codes "/t" ∷ codes "-list" ∷ []))
unfolding parse_args option_items_from
paths = refl

reset : parse_args Cindex (codes "/w") (codes "-reset" ∷ codes "-logskip=T" ∷ []) ≡ Ok (index false true true (codes "/w") [])
unfolding parse_args option_items_from
reset = refl

-- messages of errors, and of files that are skipped
no_index : line_of Cindex (An_index NoIndex) [] ≡ codes "cindex: no index\n"
no_index = refl

bad_trailer : line_of Csearch (A_tool (ToolBadIndex BadTrailer)) [] ≡ codes "csearch: bad index: trailer\n"
bad_trailer = refl

bad_path : line_of Cindex (An_index (BadPath 0)) [] ≡ codes "cindex: bad path \n"
bad_path = refl

index_memory : line_of Csearch (A_tool (ToolBadIndex IndexMemory)) [] ≡ codes "csearch: out of memory\n"
index_memory = refl

pattern_memory : line_of Cgrep (A_tool (Pattern (record { fault = PatternMemory; at = 0 }))) [] ≡ codes "cgrep: out of memory\n"
pattern_memory = refl

deep : line_of Csearch (A_tool (FilePattern (record { fault = TooDeep; at = 200 }))) []
    ≡ codes "csearch: file pattern at 200: nested too deep\n"
unfolding digits
deep = refl

needs_value : line_of Csearch (A_word (NoValue 0)) (codes "-f") ≡ codes "csearch: option -f needs a value\n"
needs_value = refl

vanished : fault_line_of Cindex (codes "/v") Missing ≡ codes "cindex: /v: no such file\n"
vanished = refl

written : fault_line_of Csearch (codes "/t/out") Output ≡ codes "csearch: /t/out: is the output\n"
written = refl

cut : fault_line_of Cgrep (codes "/t/c") Failed ≡ codes "cgrep: /t/c: cannot be read\n"
cut = refl

skipped : skip_line_of (codes "/s/n") Nul ≡ codes "cindex: /s/n: not indexed: NUL byte\n"
skipped = refl
