-- What a type file comes to once it is judged, and a document in its order with it, in the rules' terms.
use Rattle.std.specs.Prelude.{ℕ, ◌<◌, ◌≤◌, ◌≡◌, Bool, true, false, List, length, Result, Ok, Err}
use Rattle.rules.specs.Settings.{Settings, is_offered}
use Rattle.rules.specs.Bytes.{allowed, span, type_limit}
use Rattle.rules.specs.TypeFile.{Element}
use Rattle.rules.specs.Judge.{refusal, Legible, Refuses, Accepts}
use Rattle.rules.specs.Reader.{document_refusal, BothLegible}
use Rattle.rules.specs.Batch.{RefusesPart}
use Rattle.layout.specs.Sizes.{RECORDS}
use Rattle.inputs.specs.Checks.{RefusesAlways}
use Rattle.element_names.specs.Names.{Recorded}
use Rattle.attribute_lists.specs.Listed.{HeadedAs}
use Rattle.type_judge.specs.declared.TypeFault.TheVariants.{Malformed}
use Rattle.type_judge.specs.Decides.{refusal_by}
use Rattle.type_stage.specs.declared.Stopped.{Stopped}
use Rattle.type_stage.specs.declared.Stopped.TheVariants.{Unread, Unclean, Judged}
use Rattle.type_stage.specs.declared.Refused.{Refused}
use Rattle.type_stage.specs.declared.Refused.TheVariants.{InType, InDocument}

-- A type that is accepted under the settings c: its n elements are recorded, and have the attributes of the lists at these heads.
abbrev pub JudgedHeads : Settings → (s elements heads : List ℕ) (n : ℕ) → Type 0
JudgedHeads c s elements heads n = (es : List Element) × Accepts c s es × (length es ≡ n) × Recorded elements es × HeadedAs c.name_length s heads es

-- The type file is judged. What comes before all of a document is refused as a part is that passes the string's end. At most 64 elements have at most 384
-- numbers, so that no room is too small for their records.
abbrev pub Staged : Settings → (s elements heads : List ℕ) → Result ℕ Stopped → Type 0
Staged c s elements heads (Err (Unread f)) = RefusesPart c s (refusal f.number f.at 0 0)
Staged c s elements heads (Err (Unclean f)) = (is_offered c ≡ true) × (length s ≤ type_limit) × (span allowed s < length s) × (f.number ≡ 2) × (f.at ≡ span allowed s)
Staged c s elements heads (Err (Judged x)) = Legible c s × Refuses c s RECORDS (refusal_by x)
Staged c s elements heads (Ok n) = JudgedHeads c s elements heads n

-- A document in its order with a type at that stage: it is to be read under the elements that are accepted, or one of the two is refused, whatever room is lent.
abbrev pub OrderedAs : Settings → (s d : List ℕ) → Result ℕ Stopped → Result ℕ Refused → Type 0
OrderedAs c s d g (Ok n) = BothLegible c s d × (g ≡ Ok n)
OrderedAs c s d g (Err (InType x)) = RefusesAlways c s d (refusal_by x)
OrderedAs c s d g (Err (InDocument f)) = RefusesAlways c s d (document_refusal f.number f.at)

-- The refusal of a document that is too long, and of a part that passes the string's end.
abbrev pub PartRefused : Settings → (s : List ℕ) → Refused → Type 0
PartRefused c s (InType x) = RefusesPart c s (refusal_by x)
PartRefused c s (InDocument f) = RefusesPart c s (document_refusal f.number f.at)

-- What the type is refused for, where nothing of a document comes before.
abbrev pub refused_by : Stopped → Refused
refused_by (Unread f) = InType (Malformed f)
refused_by (Unclean f) = InType (Malformed f)
refused_by (Judged x) = InType x

-- The type is refused so, or accepted.
abbrev pub alone_of : Result ℕ Stopped → Result ℕ Refused
alone_of (Ok n) = Ok n
alone_of (Err x) = Err (refused_by x)

-- The type is refused for its bytes, or for what comes before them.
abbrev pub is_unclean : Result ℕ Stopped → Bool
is_unclean (Err (Unread f)) = true
is_unclean (Err (Unclean f)) = true
is_unclean (Err (Judged x)) = false
is_unclean (Ok n) = false
