use Rattle.scheme.proofs.Runs.{every_call_is_lawful}
use Rattle.scheme.proofs.every_call_is_lawful.Goals as goal

pub returns : goal.returns
returns c = every_call_is_lawful
