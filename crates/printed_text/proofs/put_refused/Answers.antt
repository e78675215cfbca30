-- `put_refused` puts the text of a refusal of either input.
use Rattle.printed_text.proofs.put_refused.Goals as goal

pub returns-in-InType : goal.returns-in-InType
returns-in-InType c = rw c.in-InType.is c.put_type_fault.ensures

pub returns-in-InDocument : goal.returns-in-InDocument
returns-in-InDocument c = rw c.in-InDocument.is c.put_refusal.ensures
