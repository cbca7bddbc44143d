use Rattle.scheme.proofs.Runs.{every_run_is_lawful}
use Rattle.scheme.proofs.every_run_is_lawful.Goals as goal

pub returns : goal.returns
returns c = every_run_is_lawful
