-- The numbers of mail faults: why a text can't be read as a mailing. See docs/FORMATS.md, "Mailings".
use Rattle.std.specs.Prelude.{ℕ, Option, Some, None}
use Rattle.atl_words.specs.declared.mail_fault.MailFault.{MailFault}
use Rattle.atl_words.specs.declared.mail_fault.MailFault.TheVariants.{TooLong, NoHeader, BadHeader, Memory}

-- the number of a mail fault, from 1 to 3; Memory has none
abbrev pub mail_fault_number : MailFault → Option ℕ
mail_fault_number TooLong = Some 1
mail_fault_number NoHeader = Some 2
mail_fault_number BadHeader = Some 3
mail_fault_number Memory = None
