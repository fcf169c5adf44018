-- What the reader's answer stands for: the bytes that it borrows are those that it points to. Assumes nothing.
use Rattle.std.specs.Prelude.{ℕ, List, [], ◌∷◌, Option}
use Rattle.std.specs.Borrow.{Bor}
use Rattle.std.specs.Option.{option_map}
use Rattle.scsi.specs.declared.message.Message.{Message as Borrowed}
use Rattle.scsi.specs.declared.message.Message.TheVariants.{CommandComplete, SaveDataPointer, RestorePointers, Disconnect, Abort, MessageReject, NoOperation, AbortTag, Extended, Sdtr, SimpleQueueTag, Identify, OtherTwo, Other}
use Rattle.scsi.specs.Messages.{Message, complete, save, restore, disconnect, abort, reject, no_operation, abort_tag, extended, sdtr, simple_tag, identify, other, Read}

abbrev pub meant : Borrowed → Message
meant CommandComplete = complete
meant SaveDataPointer = save
meant RestorePointers = restore
meant Disconnect = disconnect
meant Abort = abort
meant MessageReject = reject
meant NoOperation = no_operation
meant AbortTag = abort_tag
meant (Extended body) = extended body.now
meant (Sdtr period offset) = sdtr period.now offset.now
meant (SimpleQueueTag tag) = simple_tag tag.now
meant (Identify leave lun) = identify leave lun
meant (OtherTwo first argument) = other first (argument.now ∷ [])
meant (Other first) = other first []

abbrev pub told : Option (Borrowed × Bor (List ℕ)) → Option Read
told r = option_map (λ p. record { message = meant p.0; rest = p.1.now }) r
