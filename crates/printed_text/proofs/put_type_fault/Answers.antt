-- `put_type_fault` puts the text of each kind of refusal.
use Rattle.printed_text.proofs.put_type_fault.Goals as goal

pub returns-in-Malformed : goal.returns-in-Malformed
returns-in-Malformed c = rw c.in-Malformed.is c.put_refusal.ensures

pub returns-in-Ambiguous : goal.returns-in-Ambiguous
returns-in-Ambiguous c = rw c.in-Ambiguous.is c.put_refusal-in-Ambiguous.ensures
