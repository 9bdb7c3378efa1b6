use Rattle.std.proofs.Common.{rules, refl, ◌≡◌, map, string_bytes, subst}
use Rattle.std.specs.Prelude.{unwrap_or, []}
use Rattle.cs_args.specs.Args.{parse_args}
use Rattle.cs_args.specs.JobView.{GivesJob}
use Rattle.codesearch.specs.Program.{tool_args, absolute_folder}
use Rattle.codesearch.proofs.CallLemmas.{gives_job}
use Rattle.codesearch.proofs.call.Call.read.Goals as goal

pub returns-clause-call : goal.returns-clause-call
returns-clause-call c =
    let given = c.args.given.now in
    let tool = c.in-Some.tool in
    let folder = c.in-Some-folder_for.folder.now in
    let args : map string_bytes c.in-Some.args.now ≡ tool_args given = search rules in
    let is : folder ≡ unwrap_or (absolute_folder given) [] = search rules in
    let answer = c.read_words.result in (
      refl,
      record {
        tool = search rules;
        args = args;
        text = search rules;
        folder = search rules;
        job = subst (λ cwd. GivesJob (parse_args tool cwd (tool_args given)) answer) is
            (subst (λ words. GivesJob (parse_args tool folder words) answer) args
            (gives_job _ answer c.read_words.ensures.job c.read_words.ensures.fault));
      },
    )
