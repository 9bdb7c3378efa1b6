use Rattle.std.proofs.Common.{◌≡◌, ◌≢◌, ◌⊎◌, inl, inr, ◌≤◌, ◌<◌, ◌-◌, List, map, ap, ◌∙◌, arith}
use Rattle.cs_listing.specs.GitFolders.{bytes_of_item}
use Rattle.cs_listing.specs.Settings.{Said, said_in}
use Rattle.cs_listing.specs.SettingReads.{directive_read, said_read, found_in, Finds}
use Rattle.cs_listing.specs.UserRules.{user_of, refused, with_file, after_directives, after_file}
use Rattle.cs_listing.specs.declared.settings_text.Directive.{Directive}
use Rattle.cs_listing.proofs.UnreadLemmas.{from_two}
use Rattle.cs_listing.proofs.UserLemmas.{on_ok, in_all, follow_refused, follow_read}
use Rattle.cs_listing.proofs.user_settings.FoundSettings.+follow.Goals as goal
use Rattle.cs_listing.proofs.user_settings.FoundSettings.+follow.Goals.{then-depth-eq0-via-then-depth-eq0, then-depth-eq0-via-else-depth-eq0+then-self-le1}

pub returns-then-depth-eq0-clause-found : goal.returns-then-depth-eq0-clause-found
returns-then-depth-eq0-clause-found g t c =
    let s = g.T.Tree.snapshot c.args.tree.now in
    let user = user_of c.args.user.now c.args.git in
    let old = found_in c.args.self.now in
    let few : (c.args.depth ≡ 0) ⊎ (c.args.self.now.files ≤ 1) = elim c.then-depth-eq0.branch [
      | then-depth-eq0-via-then-depth-eq0 w ↦ inl w.if-depth-eq0.true
      | then-depth-eq0-via-else-depth-eq0+then-self-le1 w ↦ inr w.if-self-le1.true
    ] in
    on_ok c.refuse.result (found_in c.refuse.new.self ≡ refused c.args.path.now old)
    (Finds s c.refuse.new.self (λ items. after_file items user c.args.depth c.args.path.now old))
    (λ is. in_all s (λ items. found_in c.refuse.new.self ≡ after_file items user c.args.depth c.args.path.now old)
    (λ items. is ∙ follow_refused items user c.args.depth c.args.path.now old few)) c.refuse.ensures

pub directives-init : goal.directives-init
directives-init g t c =
    let s = g.T.Tree.snapshot c.args.tree.now in
    let user = user_of c.args.user.now c.args.git in
    let old = found_in c.args.self.now in
    let new = found_in c.read.new.self in
    let path = c.args.path.now in
    let later = map directive_read c.as_slice-later.result.now in
    let some : c.args.depth ≢ 0 = c.if-depth-eq0.false in
    let many : 1 < c.args.self.now.files = c.if-self-le1.false in
    record {
      kept = c.in_ok-said.ensures.keeps;
      found = from_two s (λ items. said_read c.in_ok-said.said ≡ said_in (bytes_of_item (items path))) (λ items. new ≡ with_file items path old)
          (λ items. after_directives (after_file items user (c.args.depth - 1)) user path later new ≡ after_file items user c.args.depth path old)
          (λ items says is. follow_read items user c.args.depth path old new later some many
          (ap (λ (ds : List Directive). map directive_read ds) c.as_slice-later.ensures.value ∙ ap (λ (said : Said). said.directives) says) is)
          c.in_ok-said.ensures.said c.in_ok-said.ensures.found;
    }
