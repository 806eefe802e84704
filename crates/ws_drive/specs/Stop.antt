-- How a fault of a reading stops a step (own).
use Rattle.ws_script.specs.declared.take.ReadFault.{ReadFault}
use Rattle.ws_script.specs.declared.take.ReadFault.TheVariants as fault
use Rattle.ws_drive.specs.declared.play.Stop.{Stop}
use Rattle.ws_drive.specs.declared.play.Stop.TheVariants as stop

abbrev pub stop_of : ReadFault → Stop
stop_of fault.Failed = stop.ReadFailed
stop_of fault.NoMemory = stop.NoMemory
