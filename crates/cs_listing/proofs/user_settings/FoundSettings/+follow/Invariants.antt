use Rattle.std.proofs.Common.{◌≡◌, ◌-◌, length, map}
use Rattle.cs_listing.specs.FolderReads.{InTree}
use Rattle.cs_listing.specs.SettingReads.{directive_read, found_in}
use Rattle.cs_listing.specs.UserRules.{user_of, after_file, after_directives}
use Rattle.cs_listing.proofs.user_settings.FoundSettings.+follow.Given as goal

abbrev pub decreases-follow : goal.decreases-follow
decreases-follow g l = l.depth

-- what the directives to come add, and what the file adds
abbrev pub invariant-directives : goal.invariant-directives
invariant-directives g l = record {
  kept : g.T.Tree.snapshot l.tree ≡ g.T.Tree.snapshot l.fn.tree;
  found : InTree (g.T.Tree.snapshot l.fn.tree) (λ items.
      after_directives (after_file items (user_of l.user l.git) (l.depth - 1)) (user_of l.user l.git) l.path (map directive_read l.later) (found_in l.self)
      ≡ after_file items (user_of l.user l.git) l.depth l.path (found_in l.fn.self));
}

abbrev pub decreases-directives : goal.decreases-directives
decreases-directives g l = length l.later
