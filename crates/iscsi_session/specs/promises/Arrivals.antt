-- The arrival of a request as an event.
use Rattle.iscsi_wire.specs.Fields.{connection_of, header_of}
use Rattle.iscsi_wire.specs.declared.request.Request.{Request}
use Rattle.iscsi_rules.specs.declared.event.Event.{Event}
use Rattle.iscsi_rules.specs.declared.event.Event.TheVariants.{Arrive}

abbrev pub arrived : Request → Event
arrived r = Arrive (connection_of r) (header_of r)
