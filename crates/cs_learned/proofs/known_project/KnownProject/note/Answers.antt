use Rattle.std.proofs.Common.{◌≡◌, refl, subst, sym}
use Rattle.std.specs.Prelude.{string_bytes}
use Rattle.std.specs.Result.{is_ok}
use Rattle.cs_learned.specs.Learnable.{IsLearnableName}
use Rattle.cs_learned.proofs.NotedLemmas.{learnable_name, noted_to_learn}
use Rattle.cs_learned.proofs.known_project.KnownProject.note.Goals as goal

pub invariant_of-self : goal.invariant_of-self
invariant_of-self g c =
    let named : string_bytes c.in_ok-name.name ≡ c.args.name.now = c.in_ok-name.ensures.ok in
    let name = subst IsLearnableName (sym named) (learnable_name c.args.name.now (c.if-not-takes_name.ensures.0 refl)) in
    let old = c.args.self.now in
    record {
      learnable = noted_to_learn (is_ok c.push.result) old.unknown.items c.push.new.self.items
          (record { name = c.in_ok-name.name; stamp = c.args.stamp }) c.push.ensures.items old.learnable (name, c.requires.size);
    }
