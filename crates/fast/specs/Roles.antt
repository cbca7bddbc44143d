-- What the code's roles and events mean.
use Rattle.scheme.specs.Roles as scheme
use Rattle.fast.specs.declared.roles.Event.TheVariants.{TakenAsData, TakenAsSequentialLog, TakenAsRandomLog, Finished, Erased}
use Rattle.fast.specs.declared.roles.Event.{Event}
use Rattle.fast.specs.declared.roles.Role.TheVariants.{Free, Data, SequentialLog, RandomLog}
use Rattle.fast.specs.declared.roles.Role.{Role}

abbrev pub role_told : Role → scheme.Role
role_told Free = scheme.free
role_told Data = scheme.stores_data
role_told SequentialLog = scheme.sequential_log
role_told RandomLog = scheme.random_log

abbrev pub event_told : Event → scheme.Event
event_told TakenAsData = scheme.taken_as_data
event_told TakenAsSequentialLog = scheme.taken_as_sequential
event_told TakenAsRandomLog = scheme.taken_as_random
event_told Finished = scheme.finished
event_told Erased = scheme.erased
