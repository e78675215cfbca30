-- The numbers of the reader's answer are such as C gets, whether a document is read by itself or in a batch.
use Rattle.std.specs.Prelude.{ℕ, ◌≤◌, ◌<◌, ◌≡◌, List, Result, Ok, Err}
use Rattle.std.proofs.Common.{ap, arith}
use Rattle.rules.specs.Settings.{Settings}
use Rattle.rules.specs.Lent.{Lent}
use Rattle.rules.specs.TypeFile.{Content, empty, model, Element}
use Rattle.rules.specs.Judge.{Answer, PairStandsAt, FirstAmbiguous, here, later}
use Rattle.rules.specs.Reader.{RefusesBoth, ReadAs}
use Rattle.rules.specs.Batch.{RefusesPart}
use Rattle.rules_laws.specs.Within.{type_file_within}
use Rattle.rules.specs.Bytes.{document_limit}
use Rattle.type_laws.specs.Members.{type_file_repeated}
use Rattle.turn_laws.specs.Within.{document_within}
use Rattle.type_judge.specs.declared.TypeFault.TheVariants.{Malformed, Ambiguous}
use Rattle.type_stage.specs.declared.Refused.{Refused}
use Rattle.type_stage.specs.declared.Refused.TheVariants.{InType, InDocument}
use Rattle.one_document.specs.Answer as means

-- The numbers of the reader's answer are 32-bit numbers.
abbrev pub AnswerFits : Result ℕ Refused → Type 0
AnswerFits (Ok n) = n < 4294967296
AnswerFits (Err (InType (Malformed f))) = f.at < 4294967296
AnswerFits (Err (InType (Ambiguous c))) = Unit {0}
AnswerFits (Err (InDocument f)) = f.at < 4294967296

-- The places of a pair differ, so that they are not both 0.
pair_ordered : (s : List ℕ) (k p q : ℕ) (c : Content) → PairStandsAt s c k p q → p < q
pair_ordered s k p q empty h = absurd h
pair_ordered s k p q (model g ps n) h = h.0.0.0

pub ambiguous_ordered : {s : List ℕ} {k p q : ℕ} {es : List Element} → FirstAmbiguous s k p q es → p < q
ambiguous_ordered {s} {k} {p} {q} (here {e} h) = pair_ordered s k p q e.content h
ambiguous_ordered (later u h) = ambiguous_ordered h

-- A refusal's position lies in its input, which is no longer than its limit, or is 0.
position : {a b : Answer} → a ≡ b → a.position ≡ b.position
position e = ap (λ (x : Answer). x.position) e

refused_in_lem : {c : Settings} {s d : List ℕ} {room n i k : ℕ} → RefusesBoth c s d room (record { number = n; input = i; position = k; first = 0; second = 0; count = 0 }) → k ≤ document_limit
refused_in_lem (RefusesBoth.not_offered o e) = omega (arith, position e)
refused_in_lem (RefusesBoth.type_too_long o l e) = omega (arith, position e)
refused_in_lem (RefusesBoth.document_too_long o l m e) = omega (arith, position e)
refused_in_lem (RefusesBoth.type_not_allowed o l m h e) = omega (arith, position e)
refused_in_lem (RefusesBoth.document_not_allowed l m h e) = omega (arith, position e)
refused_in_lem {c} {s} (RefusesBoth.malformed l m j r e) = omega (arith, l.type.short, type_file_within c.name_length s m j r, position e)
refused_in_lem {c} {s} (RefusesBoth.repeated l es r v e) = omega (arith, l.type.short, type_file_repeated c.name_length s es r, position e)
refused_in_lem (RefusesBoth.ambiguous l es r v j p q f e) = absurd (omega (arith, ambiguous_ordered f, ap (λ (a : Answer). a.second) e))
refused_in_lem {c} {s} {d} (RefusesBoth.unsettled es m j x e) = omega (arith, x.legible.short, (document_within c s es x.decisions d m j x.reading).1, position e)
refused_in_lem (RefusesBoth.no_room es ev x l e) = omega (arith, position e)

read_in_lem : {l : Lent} {c : Settings} {s d before after : List ℕ} {n i k : ℕ} → 1 ≤ i → ReadAs l c s d before (record { number = n; input = i; position = k; first = 0; second = 0; count = 0 }) after → k ≤ document_limit
read_in_lem h (ReadAs.refuses r z) = refused_in_lem r
read_in_lem h (ReadAs.accepts es ev x f e z) = absurd (omega (arith, ap (λ (a : Answer). a.input) e))

pub answer_fits : (l : Lent) (c : Settings) (s d before after : List ℕ) (a : Result ℕ Refused) → ReadAs l c s d before (means.answer_of a) after → means.CountFits a → AnswerFits a
answer_fits l c s d before after (Ok n) r x = x
answer_fits l c s d before after (Err (InType (Malformed f))) r x = let i = read_in_lem (omega arith) r in omega arith
answer_fits l c s d before after (Err (InType (Ambiguous k))) r x = tt
answer_fits l c s d before after (Err (InDocument f)) r x = let i = read_in_lem (omega arith) r in omega arith

-- The refusal of a part that passes the string's end stands at 0.
part_in : {c : Settings} {s : List ℕ} {a : Answer} → RefusesPart c s a → a.position ≡ 0
part_in (RefusesPart.not_offered o e) = position e
part_in (RefusesPart.type_too_long o l e) = position e
part_in (RefusesPart.passes_end o l e) = position e

part_count : {c : Settings} {s : List ℕ} {a : Answer} → RefusesPart c s a → a.count ≡ 0
part_count (RefusesPart.not_offered o e) = ap (λ (x : Answer). x.count) e
part_count (RefusesPart.type_too_long o l e) = ap (λ (x : Answer). x.count) e
part_count (RefusesPart.passes_end o l e) = ap (λ (x : Answer). x.count) e

pub part_fits : (c : Settings) (s : List ℕ) (a : Result ℕ Refused) → RefusesPart c s (means.answer_of a) → AnswerFits a
part_fits c s (Ok n) r = omega (arith, part_count r)
part_fits c s (Err (InType (Malformed f))) r = omega (arith, part_in r)
part_fits c s (Err (InType (Ambiguous k))) r = tt
part_fits c s (Err (InDocument f)) r = omega (arith, part_in r)
