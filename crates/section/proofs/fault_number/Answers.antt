use mathlib.Core.Path.{sym, ap}
use Rattle.section.specs.Refusal.{fault_number}
use Rattle.section.proofs.fault_number.Goals as goal

pub returns-in-CutShort : goal.returns-in-CutShort
returns-in-CutShort c = ap fault_number (sym c.in-CutShort.is)

pub returns-in-OverLimit : goal.returns-in-OverLimit
returns-in-OverLimit c = ap fault_number (sym c.in-OverLimit.is)

pub returns-in-TrailingBytes : goal.returns-in-TrailingBytes
returns-in-TrailingBytes c = ap fault_number (sym c.in-TrailingBytes.is)

pub returns-in-Unended : goal.returns-in-Unended
returns-in-Unended c = ap fault_number (sym c.in-Unended.is)

pub returns-in-BadByte : goal.returns-in-BadByte
returns-in-BadByte c = ap fault_number (sym c.in-BadByte.is)

pub returns-in-LongLine : goal.returns-in-LongLine
returns-in-LongLine c = ap fault_number (sym c.in-LongLine.is)

pub returns-in-NoElement : goal.returns-in-NoElement
returns-in-NoElement c = ap fault_number (sym c.in-NoElement.is)

pub returns-in-MisplacedExcept : goal.returns-in-MisplacedExcept
returns-in-MisplacedExcept c = ap fault_number (sym c.in-MisplacedExcept.is)

pub returns-in-ReservedStart : goal.returns-in-ReservedStart
returns-in-ReservedStart c = ap fault_number (sym c.in-ReservedStart.is)

pub returns-in-UnknownElement : goal.returns-in-UnknownElement
returns-in-UnknownElement c = ap fault_number (sym c.in-UnknownElement.is)

pub returns-in-BadPercent : goal.returns-in-BadPercent
returns-in-BadPercent c = ap fault_number (sym c.in-BadPercent.is)

pub returns-in-BadEntry : goal.returns-in-BadEntry
returns-in-BadEntry c = ap fault_number (sym c.in-BadEntry.is)

pub returns-in-BadRequest : goal.returns-in-BadRequest
returns-in-BadRequest c = ap fault_number (sym c.in-BadRequest.is)

pub returns-in-NoRoom : goal.returns-in-NoRoom
returns-in-NoRoom c = ap fault_number (sym c.in-NoRoom.is)

pub returns-in-TableName : goal.returns-in-TableName
returns-in-TableName c = ap fault_number (sym c.in-TableName.is)

pub returns-in-TooDeep : goal.returns-in-TooDeep
returns-in-TooDeep c = ap fault_number (sym c.in-TooDeep.is)

pub returns-in-BadTable : goal.returns-in-BadTable
returns-in-BadTable c = ap fault_number (sym c.in-BadTable.is)

pub returns-in-DottedAddress : goal.returns-in-DottedAddress
returns-in-DottedAddress c = ap fault_number (sym c.in-DottedAddress.is)

pub returns-in-LateAnswer : goal.returns-in-LateAnswer
returns-in-LateAnswer c = ap fault_number (sym c.in-LateAnswer.is)

pub returns-in-BadProposal : goal.returns-in-BadProposal
returns-in-BadProposal c = ap fault_number (sym c.in-BadProposal.is)

pub returns-in-WrongIndex : goal.returns-in-WrongIndex
returns-in-WrongIndex c = ap fault_number (sym c.in-WrongIndex.is)

pub returns-in-RetiredForm : goal.returns-in-RetiredForm
returns-in-RetiredForm c = ap fault_number (sym c.in-RetiredForm.is)
