-- What a whole message comes to. Assumes nothing.
use Rattle.scsi.specs.Messages.{Message, complete, save, restore, disconnect, abort, reject, no_operation, abort_tag, extended, sdtr, simple_tag, identify, other}
use Rattle.slots.specs.declared.line.Heard.{Heard}
use Rattle.slots.specs.declared.line.Heard.TheVariants.{Complete, Save, Restore, Disconnect, Reject, Other}

abbrev pub heard : Message → Heard
heard complete = Complete
heard save = Save
heard restore = Restore
heard disconnect = Disconnect
heard reject = Reject
heard abort = Other
heard no_operation = Other
heard abort_tag = Other
heard (extended bs) = Other
heard (sdtr m x) = Other
heard (simple_tag t) = Other
heard (identify l u) = Other
heard (other b bs) = Other
