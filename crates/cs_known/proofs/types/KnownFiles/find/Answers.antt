use Rattle.std.proofs.Common.{subst, sym}
use Rattle.std.specs.Prelude.{IfSome}
use Rattle.cs_known.specs.KnownFiles.{AreOptions, IsReached}
use Rattle.cs_known.proofs.types.KnownFiles.find.Goals as goal

pub returns-in-Ok-Some-clause-found : goal.returns-in-Ok-Some-clause-found
returns-in-Ok-Some-clause-found g c options binaries query parts given was =
    c.look_up.ensures options binaries query parts c.args.name.now c.args.stamp.now
    (subst (AreOptions options binaries) (sym c.find_kind.ensures.options) given) (c.find_kind.ensures.reads query parts was)
    (subst (λ f. IfSome f (IsReached parts c.find_kind.new.self.id c.args.name.now c.args.stamp.now)) c.in-Ok-Some.field-0-is
    (c.in-Ok-Some.ensures.found query parts was))
