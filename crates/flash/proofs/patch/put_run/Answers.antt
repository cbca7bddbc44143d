use Rattle.std.proofs.Common.{rules}
use Rattle.std.proofs.lemmas.List.{places}
use Rattle.flash.specs.Patched.{patched}
use Rattle.flash.proofs.patch.put_run.Goals as goal

pub returns : goal.returns
unfolding patched
returns c = search (rules, places)
