use Rattle.flash.proofs.Rejoined.{rejoins}
use Rattle.flash.proofs.join.Join.new.Goals as goal

pub returns-clause-whole : goal.returns-clause-whole
returns-clause-whole g c = rejoins _ _
