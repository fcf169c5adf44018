-- The messages of one byte that the initiator speaks. Assumes nothing.
use Rattle.std.specs.Prelude.{ℕ}
use Rattle.scsi.specs.declared.write.Word.{Word}
use Rattle.scsi.specs.declared.write.Word.TheVariants.{Abort, MessageReject, NoOperation, AbortTag}
use Rattle.scsi.specs.Messages.{Message}

-- its byte
abbrev pub word_byte : Word → ℕ
word_byte Abort = 0x06
word_byte MessageReject = 0x07
word_byte NoOperation = 0x08
word_byte AbortTag = 0x0D

-- what it is read as
abbrev pub word_meant : Word → Message
word_meant Abort = Message.abort
word_meant MessageReject = Message.reject
word_meant NoOperation = Message.no_operation
word_meant AbortTag = Message.abort_tag
