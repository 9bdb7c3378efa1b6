use Rattle.std.proofs.Common.{rules, map}
use Rattle.std.specs.Prelude.{string_bytes}
use Rattle.cs_tree.proofs.SplitLemmas.{split_says}
use Rattle.cs_listing.proofs.PathNameLemmas.{name_read, last_read}
use Rattle.cs_listing.proofs.paths.path_names.Goals as goal

pub names-preserved : goal.names-preserved
names-preserved c =
    let split = (rw c.in-Some.is at (split_says c.names.rest.now c.split_once.result c.split_once.ensures.cases)) in
    record {
      text = search rules;
      all = name_read (map string_bytes c.names.names.items) (map string_bytes c.push_name.new.names.items) c.in-Some.name.now
          c.names.rest.now c.in-Some.later.now c.args.path.now split c.in_ok-push_name.ensures c.names.invariant.all;
    }

pub returns : goal.returns
returns c =
    let split = (rw c.in_default.is at (split_says c.names.rest.now c.split_once.result c.split_once.ensures.cases)) in
    last_read (map string_bytes c.names.names.items) (map string_bytes c.push_name-2.new.names.items) c.names.rest.now c.args.path.now
    split c.in_ok-push_name-2.ensures c.names.invariant.all
