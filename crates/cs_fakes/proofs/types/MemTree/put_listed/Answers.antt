use Rattle.std.proofs.Common.{ap, ◌∙◌, rules}
use Rattle.cs_tree.specs.Folders.{is_element}
use Rattle.cs_fakes.proofs.PathLemmas.{clean_name}
use Rattle.cs_tree.proofs.NormalizedLemmas.{clean_below}
use Rattle.cs_fakes.proofs.types.MemTree.put_listed.Goals as goal

pub list_in-requires-clause-name : goal.list_in-requires-clause-name
list_in-requires-clause-name c = ap is_element c.requires.name
    ∙ clean_name c.args.path.now (clean_below c.args.path.now c.requires.below_root ∙ c.requires.clean)
    c.requires.no_nul

pub returns-then-is_folder-clause-answer : goal.returns-then-is_folder-clause-answer
returns-then-is_folder-clause-answer c = search rules

pub returns-in_err-from_str-clause-answer : goal.returns-in_err-from_str-clause-answer
returns-in_err-from_str-clause-answer c = search rules

pub returns-in_err-reserve-clause-answer : goal.returns-in_err-reserve-clause-answer
returns-in_err-reserve-clause-answer c = search rules

pub returns-in_err-list_in-clause-answer : goal.returns-in_err-list_in-clause-answer
returns-in_err-list_in-clause-answer c = search rules

pub returns-clause-answer : goal.returns-clause-answer
returns-clause-answer c = search rules

pub returns-clause-step : goal.returns-clause-step
returns-clause-step c = search rules

pub returns-in_err-reserve-clause-refused : goal.returns-in_err-reserve-clause-refused
returns-in_err-reserve-clause-refused c = search rules

pub returns-then-is_folder-clause-tree : goal.returns-then-is_folder-clause-tree
returns-then-is_folder-clause-tree c = search rules

pub returns-clause-tree : goal.returns-clause-tree
returns-clause-tree c = search rules
