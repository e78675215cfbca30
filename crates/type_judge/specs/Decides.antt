-- What the judge's answer stands for, in the rules' terms.
use Rattle.std.specs.Prelude.{ℕ, ◌*◌, ◌≤◌, ◌≡◌, List, length, Result, Ok, Err}
use Rattle.rules.specs.Settings.{Settings}
use Rattle.rules.specs.TypeFile.{Element}
use Rattle.rules.specs.Judge.{Answer, refusal, acceptance, Refuses, Accepts, record_width}
use Rattle.rules.specs.Bytes.{element_limit}
use Rattle.text.specs.declared.Fault.{Fault}
use Rattle.element_names.specs.Names.{Recorded}
use Rattle.attribute_lists.specs.Listed.{HeadedAs}
use Rattle.type_judge.specs.declared.TypeFault.{TypeFault}
use Rattle.type_judge.specs.declared.TypeFault.TheVariants.{Malformed, Ambiguous}

-- The paper's numbers for each refusal of a type.
abbrev pub refusal_at : Fault → Answer
refusal_at f = refusal f.number f.at 0 0

abbrev pub refusal_by : TypeFault → Answer
refusal_by (Malformed f) = refusal_at f
refusal_by (Ambiguous c) = refusal 9 c.at c.first c.second

-- The paper's numbers for each answer of the judge.
abbrev pub answer_of : Result ℕ TypeFault → Answer
answer_of (Ok n) = acceptance n
answer_of (Err x) = refusal_by x

-- The verdict on a type file under the settings c, where the lent buffer has room for so many numbers: accepted with the elements that are recorded, whose
-- lists have their heads, or refused.
abbrev pub Decides : Settings → (s : List ℕ) (room : ℕ) (elements heads : List ℕ) → Result ℕ TypeFault → Type 0
Decides c s room elements heads (Ok n) =
    (es : List Element) × Accepts c s es × (n ≡ length es) × (record_width * length es ≤ room) × (length es ≤ element_limit) × Recorded elements es × HeadedAs c.name_length s heads es
Decides c s room elements heads (Err x) = Refuses c s room (refusal_by x)
