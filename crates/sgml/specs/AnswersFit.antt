-- Laws of an answer: its numbers are 32-bit numbers.
use Rattle.std.specs.Prelude.{ℕ, ◌≤◌, ◌*◌, ◌≡◌, List, Result, Ok, Err, IsErrAnd, MatchResult}
use Rattle.std.proofs.Common.{ap, arith}
use Rattle.rules.specs.Settings.{Settings}
use Rattle.rules.specs.Bytes.{ATTCNT, element_limit, type_limit}
use Rattle.rules.specs.Lent.{Lent}
use Rattle.rules.specs.Judge.{Answer, refusal, acceptance, Refuses, not_offered, too_long, not_allowed, malformed, repeated, ambiguous, no_room, Judged}
use Rattle.rules.specs.Listing.{Lists}
use Rattle.rules_laws.specs.Within.{type_file_within, type_file_count}
use Rattle.type_laws.specs.Members.{type_file_repeated}
use Rattle.type_laws.specs.Attributes.{type_file_attributes, attributes_count}
use Rattle.answer_numbers.specs.Fits.{ambiguous_ordered}
use Rattle.type_judge.specs.Decides.{answer_of}
use Rattle.type_judge.specs.Deciding.{raised}
use Rattle.type_judge.specs.declared.TypeFault.{TypeFault}
use Rattle.type_judge.specs.declared.TypeFault.TheVariants.{Malformed, Ambiguous}
use Rattle.type_stage.specs.declared.Refused.{Refused}
use Rattle.type_stage.specs.declared.Refused.TheVariants.{InType}
use Rattle.one_document.specs.Answer as reader
use Rattle.answer_numbers.specs.Fits.{AnswerFits}
use Rattle.sgml.specs.Fits.{VerdictFits}

malformed_in : (c : Settings) (s : List ℕ) (room n k : ℕ) → Refuses c s room (refusal n k 0 0) → k ≤ type_limit
malformed_in c s room n k (not_offered o e) = omega (arith, ap (λ (a : Answer). a.position) e)
malformed_in c s room n k (too_long o l e) = omega (arith, ap (λ (a : Answer). a.position) e)
malformed_in c s room n k (not_allowed o l m e) = omega (arith, ap (λ (a : Answer). a.position) e)
malformed_in c s room n k (malformed l m j r e) = omega (arith, l.short, type_file_within c.name_length s m j r, ap (λ (a : Answer). a.position) e)
malformed_in c s room n k (repeated l es r v e) = omega (arith, l.short, type_file_repeated c.name_length s es r, ap (λ (a : Answer). a.position) e)
malformed_in c s room n k (ambiguous l es r v j p q f e) = absurd (omega (arith, ambiguous_ordered f, ap (λ (a : Answer). a.second) e))
malformed_in c s room n k (no_room l es r v u m e) = omega (arith, ap (λ (a : Answer). a.position) e)

-- A refusal names its input.
refuses_input : {c : Settings} {s : List ℕ} {room : ℕ} {a : Answer} → Refuses c s room a → a.input ≡ 1
refuses_input (not_offered o e) = rw e
refuses_input (too_long o l e) = rw e
refuses_input (not_allowed o l m e) = rw e
refuses_input (malformed l n k r e) = rw e
refuses_input (repeated l es r v e) = rw e
refuses_input (ambiguous l es r v k p q f e) = rw e
refuses_input (no_room l es r v u m e) = rw e

judged_count : {l : Lent} {c : Settings} {s before after : List ℕ} {n : ℕ} → Judged l c s before (acceptance n) after → n ≤ element_limit
judged_count (Judged.refuses r z) = absurd (omega (arith, refuses_input r))
judged_count {l} {c} {s} (Judged.accepts es w f e z) = omega (arith, type_file_count c.name_length s es w.elements, ap (λ (a : Answer). a.count) e)

judged_in : {l : Lent} {c : Settings} {s before after : List ℕ} {n k : ℕ} → Judged l c s before (refusal n k 0 0) after → k ≤ type_limit
judged_in {l} {c} {s} {n = n} {k} (Judged.refuses r z) = malformed_in c s _ n k r
judged_in (Judged.accepts es w f e z) = absurd (omega (arith, ap (λ (a : Answer). a.input) e))

pub verdict_fits : (l : Lent) (c : Settings) (s before after : List ℕ) (v : Result ℕ TypeFault) → Judged l c s before (answer_of v) after → VerdictFits v
verdict_fits l c s before after (Ok n) h = let few = judged_count h in omega arith
verdict_fits l c s before after (Err (Malformed f)) h = let i = judged_in h in omega arith
verdict_fits l c s before after (Err (Ambiguous x)) h = tt

-- The same for the list of attributes.
listed_count : {l : Lent} {c : Settings} {s before after : List ℕ} {n : ℕ} → Lists l c s before (acceptance n) after → n ≤ ATTCNT * element_limit
listed_count (Lists.refuses r z) = absurd (omega (arith, refuses_input r))
listed_count (Lists.no_room es w h e z) = absurd (omega (arith, ap (λ (a : Answer). a.input) e))
listed_count {l} {c} {s} (Lists.accepts es w f e z) =
    let all = attributes_count c.name_length s es (type_file_attributes c.name_length s es w.elements) in
    omega (arith, type_file_count c.name_length s es w.elements, ap (λ (a : Answer). a.count) e)

listed_in : {l : Lent} {c : Settings} {s before after : List ℕ} {n k : ℕ} → Lists l c s before (refusal n k 0 0) after → k ≤ type_limit
listed_in {l} {c} {s} {n = n} {k} (Lists.refuses r z) = malformed_in c s _ n k r
listed_in (Lists.no_room es w h e z) = omega (arith, ap (λ (a : Answer). a.position) e)
listed_in (Lists.accepts es w f e z) = absurd (omega (arith, ap (λ (a : Answer). a.input) e))

pub listed_fits : (l : Lent) (c : Settings) (s before after : List ℕ) (v : Result ℕ TypeFault) → Lists l c s before (answer_of v) after → VerdictFits v
listed_fits l c s before after (Ok n) h = let few = listed_count h in omega arith
listed_fits l c s before after (Err (Malformed f)) h = let i = listed_in h in omega arith
listed_fits l c s before after (Err (Ambiguous x)) h = tt

-- The judge's answer as the reader gives it: it fits, and has the same numbers.
abbrev GivenAs : Result ℕ TypeFault → Result ℕ Refused → Type 0
GivenAs v a = MatchResult v (λ n. a ≡ Ok n) (λ x. IsErrAnd a (λ y. y ≡ InType x))

pub given_fits : (v : Result ℕ TypeFault) (a : Result ℕ Refused) → GivenAs v a → VerdictFits v → AnswerFits a
given_fits (Ok n) a e h = rw e h
given_fits (Err (Malformed f)) a e h = rw (raised a e) h
given_fits (Err (Ambiguous x)) a e h = rw (raised a e) tt

pub given_same : (v : Result ℕ TypeFault) (a : Result ℕ Refused) → GivenAs v a → reader.answer_of a ≡ answer_of v
given_same (Ok n) a e = ap reader.answer_of e
given_same (Err x) a e = ap reader.answer_of (raised a e)
