-- Worked examples of what the program does.
use Rattle.std.proofs.Common.{◌≡◌, [], ◌∷◌, Some, None, Err, refl}
use Rattle.std.specs.Prelude.{codes}
use Rattle.std.specs.Fmt.{digits}
use Rattle.cs_args.specs.declared.fault.WordFault.TheVariants.{NoValue, NoPattern, ExtraWord}
use Rattle.cs_args.specs.declared.jobs.Tool.TheVariants.{Cindex, Csearch, Cgrep}
use Rattle.cs_search.specs.declared.status.Status.TheVariants.{Matched, NoMatch}
use Rattle.cs_storage.specs.FileAfter.{file_after}
use Rattle.codesearch.specs.Program.{tool_named, non_text_line, unreadable_line, leftover_line, arg_at, word_line, exit_status, update_of}
use Rattle.codesearch.specs.declared.outcome.Outcome.TheVariants.{Done, Searched, Refused}
use Rattle.codesearch.specs.declared.outcome.ProgramFault.TheVariants.{NoFolder}
use Rattle.cs_storage.specs.declared.update.IndexUpdate.TheVariants.{Remove}

tools : (tool_named (codes "cindex") ≡ Some Cindex) × (tool_named (codes "cgrep") ≡ Some Cgrep) ×
    (tool_named (codes "grep") ≡ None) × (tool_named [] ≡ None)
tools = (refl, refl, refl, refl)

-- the third argument of `cgrep a b x` is not UTF-8
third_argument : non_text_line Cgrep 3 ≡ codes "cgrep: word 3 is not text\n"
unfolding digits
third_argument = refl

-- csearch one two
extra_argument : word_line Csearch (codes "one" ∷ codes "two" ∷ []) (Err (ExtraWord 1)) ≡ Some (codes "csearch: extra word two\n")
extra_argument = refl

no_pattern : word_line Cgrep [] (Err NoPattern) ≡ Some (codes "cgrep: no pattern\n")
no_pattern = refl

-- csearch -n -f
missing_value : arg_at (NoValue 1) (codes "-n" ∷ codes "-f" ∷ []) ≡ codes "-f"
missing_value = refl

unreadable : unreadable_line (codes "/x") ≡ codes "codesearch: cannot read /x\n"
unreadable = refl

foreign : leftover_line (codes "/x") (codes "/y~") ≡ codes "codesearch: cannot write /x: remove /y~\n"
foreign = refl

statuses : (exit_status (Done Remove) ≡ 0) × (exit_status (Searched Matched) ≡ 0) × (exit_status (Searched NoMatch) ≡ 1)
    × (exit_status (Refused NoFolder) ≡ 2)
statuses = (refl, refl, refl, refl)

-- an error leaves the index file alone, and a done `-reset` without paths removes it
updates : (file_after (update_of (Refused NoFolder)) (Some (1 ∷ [])) ≡ Some (1 ∷ [])) ×
    (file_after (update_of (Done Remove)) (Some (1 ∷ [])) ≡ None)
updates = (refl, refl)
