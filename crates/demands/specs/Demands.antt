-- The three demands of paper 01 on the type judge and on the document reader, in a page. Read this first,
-- then Words for the words in it, then the rules of crates/rules. `JudgeKeeps` and `ReaderKeeps` say what the
-- demands ask of an answer and of what the lent buffer holds after; the theorems on the calls, further below,
-- say that each call of the source gives just that. That it ends and stays in its buffers is checked with its
-- contract. Meets says the same of the routines of the calls for C. Batches has `BatchKeeps` for a call with
-- many documents, Listed `ListKeeps` for one that lists attributes.
use Rattle.std.specs.Prelude.{ℕ, Result, ◌-◌, ◌*◌, ◌<◌, ◌≤◌, ◌≡◌, true, false, ◌↔◌, List, [], ◌∷◌, ◌++◌, length, take, drop}
use Rattle.std.proofs.Common.{sym, ◌∙◌, ap}
use mathlib.Core.List.{Memᴰ}
use contract.Lifetimes.{Lfts}
use Rattle.std.specs.Borrow.{Bor}
use denote.Triple.Clauses.{AtExit}
use borrow.Fn.World.{ArgsD}
use Rattle.rules.specs.Settings.{Settings, settings, is_offered}
use Rattle.rules.specs.Lent.{Lent, room}
use Rattle.rules.specs.Reading.{Reading, got}
use Rattle.rules.specs.Walk.{Group, Guarded}
use Rattle.rules.specs.Ambiguity.{Ambiguous, PairAtFault}
use Rattle.rules.specs.TypeFile.{Place, Element, type_file}
use Rattle.rules.specs.Judge.{same_place, Answer, refusal, Legible, Refuses, Accepts, Judged, record_width}
use Rattle.rules.specs.Events.{Event, event_width}
use Rattle.rules.specs.Attributes.{needs_tag}
use Rattle.rules.specs.Elements.{element_at}
use Rattle.rules.specs.Given.{attributes_before, with_attributes, value_bytes}
use Rattle.rules.specs.Decisions.{Decisions}
use Rattle.rules.specs.Settling.{Open, State, nothing_open, is_complete, inferable}
use Rattle.rules.specs.Acts.{Acts, Deeds, IsStart, Took, Passes, Few}
use Rattle.rules.specs.Records.{Line, records_settled}
use Rattle.rules.specs.Reader.{BothLegible, Reads, RefusesBoth, ReadAs}
use Rattle.rules.specs.Listing.{Lists}
use Rattle.rules.specs.Batch.{Batch, Batched}
use Rattle.rules.specs.Calls.{answer_numbers}
use Rattle.acts.specs.Readings.{passes_acts, document_acts}
use Rattle.acts.specs.Deeds.{acts_deeds}
use Rattle.place_laws.specs.Stood.{stood}
use Rattle.place_laws.specs.Pinned.{deeds_one}
use Rattle.demands.specs.Words.{Refusal, Acceptance, ModelOf, whole, Stands, Repeats, SomeRepeated, RepeatsFirst, SomeAmbiguous, NamesFirst, NamesDecide, ReaderRefusal, ReaderAcceptance, Quoted, NoneRequired, SameVerdict}
use Rattle.answer_laws.specs.Reader.{given_one, reading_one}
use Rattle.demands.specs.Exists.{judged_some, read_some}
use Rattle.demands.specs.Ampersands as ampersands
use Rattle.demands.specs.Kept as kept
use Rattle.demands.specs.Values as values
use Rattle.demands.specs.Batches as batches
use Rattle.demands.specs.Batches.{BatchKeeps, batch_keeps}
use Rattle.demands.specs.Listed as listing
use Rattle.demands.specs.Listed.{ListKeeps, list_keeps}
use Rattle.stretches.specs.Fit.{batch_of}
use Rattle.inputs.specs.Checks.{settings_of}
use Rattle.type_judge.specs.declared.TypeFault.{TypeFault}
use Rattle.type_judge.specs.Decides as verdict
use Rattle.type_judge.specs.contracts.judge as judge_call
use Rattle.type_judge.proofs.judge.Reads as judge_reads
use Rattle.type_judge.specs.contracts.judge_to_bytes as judge_bytes
use Rattle.type_judge.proofs.judge_to_bytes.Reads as judge_bytes_reads
use Rattle.type_stage.specs.declared.Refused.{Refused}
use Rattle.one_document.specs.Answer as means
use Rattle.document_reader.specs.contracts.read as read_call
use Rattle.document_reader.proofs.read.Reads as read_reads
use Rattle.document_reader.specs.contracts.read_to_bytes as read_bytes
use Rattle.document_reader.proofs.read_to_bytes.Reads as read_bytes_reads
use Rattle.batch.specs.contracts.read_batch as batch_call
use Rattle.batch.proofs.read_batch.Reads as batch_reads
use Rattle.attribute_values.specs.contracts.value as value_call
use Rattle.attribute_values.proofs.value.Reads as value_reads
use Rattle.sgml.specs.contracts.sgml_judge as c_judge
use Rattle.sgml.proofs.sgml_judge.Reads as c_judge_reads
use Rattle.attribute_records.specs.contracts.list as list_call
use Rattle.attribute_records.proofs.list.Reads as list_reads
use Rattle.attribute_records.specs.contracts.list_to_bytes as list_bytes
use Rattle.attribute_records.proofs.list_to_bytes.Reads as list_bytes_reads
use Rattle.sgml.specs.contracts.sgml_attributes as c_attributes
use Rattle.sgml.proofs.sgml_attributes.Reads as c_attributes_reads
use Rattle.sgml.specs.contracts.sgml_read as c_read
use Rattle.sgml.specs.contracts.sgml_read_batch as c_batch
use Rattle.sgml.proofs.sgml_read_batch.Reads as c_batch_reads
use Rattle.sgml.proofs.sgml_read.Reads as c_read_reads

-- The judge, lent `before`, answers a to the type file s under the settings c and leaves `after`.
pub record JudgeKeeps (l : Lent) (c : Settings) (s before : List ℕ) (a : Answer) (after : List ℕ) : Type 0 where
  -- Demand 1: a refusal gives a number, which input and a byte position, the count 0, and a lent buffer that is zero.
  pub refusal_whole : (a.number ≡ 0 → ⊥) → Refusal s before a after
  pub same_length : length after ≡ length before
  -- Demand 2: accepted exactly when the rules accept it, with exactly their records; every refusal is the one that the stated order picks;
  -- "19 only where nothing else is wrong, and exactly if the numbers don't fit".
  pub accepted_exactly : (a.number ≡ 0) ↔ ((es : List Element) × Accepts c s es × (record_width * length es ≤ room l before))
  pub acceptance_whole : a.number ≡ 0 → Acceptance l c s before a after
  pub refused_exactly : (a.number ≡ 0 → ⊥) ↔ Refuses c s (room l before) a
  pub order_picks : (b : Answer) → Refuses c s (room l before) b → a ≡ b
  pub too_small_exactly : (a.number ≡ 19) ↔ ((es : List Element) × Accepts c s es × (room l before < record_width * length es))
  -- Paper 02, request six: "another is 24, in the type at 0", before anything else, and only that is.
  pub not_offered_lem : is_offered c ≡ false → a ≡ refusal 24 0 0 0
  pub not_offered_exactly : (a.number ≡ 24) ↔ (is_offered c ≡ false)
  -- Paper 02, request twelve: "number 25 at the first such "&"", looked for after 3 to 8 and before 9.
  pub repeated_exactly : (a.number ≡ 25) ↔ (Legible c s × (es : List Element) × (type_file c.name_length s ≡ got es) × SomeRepeated es)
  pub repeated_named : a.number ≡ 25 → RepeatsFirst c s a
  -- Demand 3, of a type file "where nothing is wrong that the stated order puts before ambiguity": it is legible, was read and is not under 25. It is refused
  -- as ambiguous "exactly when some content model in it has two different sequences of places, of whatever length, each the beginning of some
  -- walk, that spell the same names. The refusal names the first such model, and in it the first pair"; "where there is no such refusal, the
  -- names alone decide the places in every model".
  pub ambiguous_exactly : (a.number ≡ 9) ↔ (Legible c s × (es : List Element) × (type_file c.name_length s ≡ got es) × (SomeRepeated es → ⊥) × SomeAmbiguous s es)
  pub ambiguous_named : a.number ≡ 9 → NamesFirst c s a
  pub names_decide : Legible c s → (a.number ≡ 9 → ⊥) → (es : List Element) → type_file c.name_length s ≡ got es → (SomeRepeated es → ⊥) → NamesDecide s es

-- The reader, lent `before`, answers a to the type file s and the document d under the settings c and leaves `after`.
pub record ReaderKeeps (l : Lent) (c : Settings) (s d before : List ℕ) (a : Answer) (after : List ℕ) : Type 0 where
  -- Demand 1.
  pub refusal_whole : (a.number ≡ 0 → ⊥) → ReaderRefusal s d before a after
  pub same_length : length after ≡ length before
  -- Demand 2: a document is accepted exactly when paper 01's rules accept it, with exactly their events.
  pub accepted_exactly : (a.number ≡ 0) ↔ ((es : List Element) × (ev : List Event) × Reads c s d es (got ev) × (event_width * length ev ≤ room l before))
  pub acceptance_whole : a.number ≡ 0 → ReaderAcceptance l c s d before a after
  pub refused_exactly : (a.number ≡ 0 → ⊥) ↔ RefusesBoth c s d (room l before) a
  pub order_picks : (b : Answer) → RefusesBoth c s d (room l before) b → a ≡ b
  pub too_small_exactly : (a.number ≡ 19) ↔ ((es : List Element) × (ev : List Event) × Reads c s d es (got ev) × (room l before < event_width * length ev))
  -- Paper 02, request six, as for the judge.
  pub not_offered_lem : is_offered c ≡ false → a ≡ refusal 24 0 0 0
  pub not_offered_exactly : (a.number ≡ 24) ↔ (is_offered c ≡ false)
  -- Paper 02, request twelve, as for the judge.
  pub repeated_exactly : (a.number ≡ 25) ↔ (BothLegible c s d × (es : List Element) × (type_file c.name_length s ≡ got es) × SomeRepeated es)
  pub repeated_named : a.number ≡ 25 → RepeatsFirst c s a
  -- Demand 3, "whatever document and lent buffer come with it".
  pub ambiguous_exactly : (a.number ≡ 9) ↔ (BothLegible c s d × (es : List Element) × (type_file c.name_length s ≡ got es) × (SomeRepeated es → ⊥) × SomeAmbiguous s es)
  pub ambiguous_named : a.number ≡ 9 → NamesFirst c s a
  pub names_decide : BothLegible c s d → (a.number ≡ 9 → ⊥) → (es : List Element) → type_file c.name_length s ≡ got es → (SomeRepeated es → ⊥) → NamesDecide s es

pub judge_keeps : (l : Lent) (c : Settings) (s before : List ℕ) (a : Answer) (after : List ℕ) → Judged l c s before a after → JudgeKeeps l c s before a after
judge_keeps l c s before a after p =
    record {
      refusal_whole = kept.refusal_whole l c s before a after p;
      same_length = kept.same_length l c s before a after p;
      accepted_exactly = kept.accepted_exactly l c s before a after p;
      acceptance_whole = kept.acceptance_whole l c s before a after p;
      refused_exactly = kept.refused_exactly l c s before a after p;
      order_picks = kept.order_picks l c s before a after p;
      too_small_exactly = kept.too_small_exactly l c s before a after p;
      not_offered_lem = kept.not_offered_lem l c s before a after p;
      not_offered_exactly = kept.not_offered_exactly l c s before a after p;
      repeated_exactly = kept.repeated_exactly l c s before a after p;
      repeated_named = kept.repeated_named l c s before a after p;
      ambiguous_exactly = kept.ambiguous_exactly l c s before a after p;
      ambiguous_named = kept.ambiguous_named l c s before a after p;
      names_decide = kept.names_decide l c s before a after p;
    }

pub reader_keeps : (l : Lent) (c : Settings) (s d before : List ℕ) (a : Answer) (after : List ℕ) → ReadAs l c s d before a after → ReaderKeeps l c s d before a after
reader_keeps l c s d before a after p =
    record {
      refusal_whole = kept.reader_refusal_whole l c s d before a after p;
      same_length = kept.reader_same_length l c s d before a after p;
      accepted_exactly = kept.reader_accepted_exactly l c s d before a after p;
      acceptance_whole = kept.reader_acceptance_whole l c s d before a after p;
      refused_exactly = kept.reader_refused_exactly l c s d before a after p;
      order_picks = kept.reader_order_picks l c s d before a after p;
      too_small_exactly = kept.reader_too_small_exactly l c s d before a after p;
      not_offered_lem = kept.reader_not_offered l c s d before a after p;
      not_offered_exactly = kept.reader_not_offered_exactly l c s d before a after p;
      repeated_exactly = kept.reader_repeated_exactly l c s d before a after p;
      repeated_named = kept.reader_repeated_named l c s d before a after p;
      ambiguous_exactly = kept.reader_ambiguous_exactly l c s d before a after p;
      ambiguous_named = kept.reader_ambiguous_named l c s d before a after p;
      names_decide = kept.reader_names_decide l c s d before a after p;
    }

-- The calls

-- What follows goes from the contract of each call as it stands in the source: its `Learnt` is generated from the function's `ensures`, and is what
-- whoever calls the function learns. κs are the lifetimes of what is passed, a is what is passed, r what is returned, and e what was passed, as it
-- is after the call.

-- Demand 1, "checks everything itself": no call asks anything of whoever calls it (`Asked` is generated from `requires`).
pub asks_nothing :
    ((κs : Lfts 3) (a : ArgsD c_judge.signature κs) → c_judge_reads.Asked κs a)
    × ((κs : Lfts 4) (a : ArgsD c_read.signature κs) → c_read_reads.Asked κs a)
    × ((κs : Lfts 2) (a : ArgsD judge_call.signature κs) → judge_reads.Asked κs a)
    × ((κs : Lfts 2) (a : ArgsD judge_bytes.signature κs) → judge_bytes_reads.Asked κs a)
    × ((κs : Lfts 3) (a : ArgsD read_call.signature κs) → read_reads.Asked κs a)
    × ((κs : Lfts 3) (a : ArgsD read_bytes.signature κs) → read_bytes_reads.Asked κs a)
    × ((κs : Lfts 3) (a : ArgsD c_attributes.signature κs) → c_attributes_reads.Asked κs a)
    × ((κs : Lfts 2) (a : ArgsD list_call.signature κs) → list_reads.Asked κs a)
    × ((κs : Lfts 2) (a : ArgsD list_bytes.signature κs) → list_bytes_reads.Asked κs a)
    × ((κs : Lfts 9) (a : ArgsD c_batch.signature κs) → c_batch_reads.Asked κs a)
    × ((κs : Lfts 8) (a : ArgsD batch_call.signature κs) → batch_reads.Asked κs a)
    × ((κs : Lfts 1) (a : ArgsD value_call.signature κs) → value_reads.Asked κs a)
asks_nothing = (
  λ κs a. tt,
  λ κs a. tt,
  λ κs a. tt,
  λ κs a. tt,
  λ κs a. tt,
  λ κs a. tt,
  λ κs a. tt,
  λ κs a. tt,
  λ κs a. tt,
  λ κs a. tt,
  λ κs a. tt,
  λ κs a. tt,
)

-- What C gets of `sgml_judge`: the number that is returned and the six numbers are those of one answer, and with what the lent bytes hold then it
-- keeps the demands.
pub record JudgeCall (c : Settings) (s before : List ℕ) (returned : ℕ) (numbers after : List ℕ) : Type 0 where
  pub answer : Answer
  pub returned_is : returned ≡ answer.number
  pub numbers_are : numbers ≡ answer_numbers answer
  pub keeps : JudgeKeeps Lent.bytes c s before answer after

-- Passed are the type file, the lent bytes, the array for the answer, how long a name may be and the edition, in this order.
abbrev pub JudgeGives : (κs : Lfts 3) → ArgsD c_judge.signature κs → ℕ → AtExit c_judge.ended κs → Type 0
JudgeGives κs a r e = JudgeCall (settings a.1.1.1.0 a.1.1.1.1.0) a.0.now a.1.0.now r e.1.1.0.now e.1.0.now

pub sgml_judge : (κs : Lfts 3) (a : ArgsD c_judge.signature κs) (r : ℕ) (e : AtExit c_judge.ended κs) → c_judge_reads.Learnt κs a r e → JudgeGives κs a r e
sgml_judge κs a r e (answer, returned, numbers, judged) = record { answer = answer; returned_is = returned; numbers_are = numbers; keeps = judge_keeps Lent.bytes _ _ _ answer _ judged }

-- What C gets of `sgml_read`.
pub record ReadCall (c : Settings) (s d before : List ℕ) (returned : ℕ) (numbers after : List ℕ) : Type 0 where
  pub answer : Answer
  pub returned_is : returned ≡ answer.number
  pub numbers_are : numbers ≡ answer_numbers answer
  pub keeps : ReaderKeeps Lent.bytes c s d before answer after

-- Passed are the type file, the document, the lent bytes, the array for the answer, how long a name may be and the edition.
abbrev pub ReadGives : (κs : Lfts 4) → ArgsD c_read.signature κs → ℕ → AtExit c_read.ended κs → Type 0
ReadGives κs a r e = ReadCall (settings a.1.1.1.1.0 a.1.1.1.1.1.0) a.0.now a.1.0.now a.1.1.0.now r e.1.1.1.0.now e.1.1.0.now

pub sgml_read : (κs : Lfts 4) (a : ArgsD c_read.signature κs) (r : ℕ) (e : AtExit c_read.ended κs) → c_read_reads.Learnt κs a r e → ReadGives κs a r e
sgml_read κs a r e (answer, returned, numbers, as_read) = record { answer = answer; returned_is = returned; numbers_are = numbers; keeps = reader_keeps Lent.bytes _ _ _ _ answer _ as_read }

-- Paper 02, request five: many documents in one call. The number that is returned and the six numbers are
-- those of one answer to the whole call, and with it goes what `BatchKeeps` of Batches says: each document is
-- answered as the single call answers it, in its own stretch; the whole call is refused with 24 exactly where
-- the settings are not offered, else with 23 exactly where the lists are unfit, and then all of the buffer is
-- zero.
pub record BatchCall (c : Settings) (s string : List ℕ) (b : Batch) (before given : List ℕ) (returned : ℕ) (numbers answers after : List ℕ) : Type 0 where
  pub answer : Answer
  pub returned_is : returned ≡ answer.number
  pub numbers_are : numbers ≡ answer_numbers answer
  pub keeps : BatchKeeps Lent.bytes c s string b before given answer answers after

-- Passed are the type file, the string, the starts and lengths of the parts, the lent bytes, the starts and
-- lengths of the stretches, the list of the answers, the array for the answer, how long a name may be and the
-- edition.
abbrev pub BatchGives : (κs : Lfts 9) → ArgsD c_batch.signature κs → ℕ → AtExit c_batch.ended κs → Type 0
BatchGives κs a r e =
    BatchCall (settings a.1.1.1.1.1.1.1.1.1.0 a.1.1.1.1.1.1.1.1.1.1.0) a.0.now a.1.0.now
    (batch_of a.1.1.0.now a.1.1.1.0.now a.1.1.1.1.1.0.now a.1.1.1.1.1.1.0.now)
    a.1.1.1.1.0.now a.1.1.1.1.1.1.1.0.now r e.1.1.1.1.1.1.1.1.0.now e.1.1.1.1.1.1.1.0.now e.1.1.1.1.0.now

pub sgml_read_batch : (κs : Lfts 9) (a : ArgsD c_batch.signature κs) (r : ℕ) (e : AtExit c_batch.ended κs)
    → c_batch_reads.Learnt κs a r e → BatchGives κs a r e
sgml_read_batch κs a r e (answer, returned, numbers, batched) =
    record {
      answer = answer;
      returned_is = returned;
      numbers_are = numbers;
      keeps = batch_keeps Lent.bytes _ _ _ _ _ _ answer _ _ batched;
    }

-- What Rattle callers get: `judge` with a lent buffer of numbers, `judge_to_bytes` with one of bytes, and the reader likewise. `answer_of`, beside the
-- code of each, has the paper's numbers for each case of what it returns.
pub judge : (κs : Lfts 2) (a : ArgsD judge_call.signature κs) (r : Result ℕ TypeFault) (e : AtExit judge_call.ended κs) → judge_reads.Learnt κs a r e
    → JudgeKeeps Lent.numbers (settings_of a.0) a.1.0.now a.1.1.0.now (verdict.answer_of r) e.1.1.0.now
judge κs a r e judged = judge_keeps Lent.numbers _ _ _ _ _ judged

pub judge_to_bytes : (κs : Lfts 2) (a : ArgsD judge_bytes.signature κs) (r : Result ℕ TypeFault) (e : AtExit judge_bytes.ended κs) → judge_bytes_reads.Learnt κs a r e
    → JudgeKeeps Lent.bytes (settings_of a.0) a.1.0.now a.1.1.0.now (verdict.answer_of r) e.1.1.0.now
judge_to_bytes κs a r e judged = judge_keeps Lent.bytes _ _ _ _ _ judged

pub read : (κs : Lfts 3) (a : ArgsD read_call.signature κs) (r : Result ℕ Refused) (e : AtExit read_call.ended κs) → read_reads.Learnt κs a r e
    → ReaderKeeps Lent.numbers (settings_of a.0) a.1.0.now a.1.1.0.now a.1.1.1.0.now (means.answer_of r) e.1.1.1.0.now
read κs a r e (as_read, fits) = reader_keeps Lent.numbers _ _ _ _ _ _ as_read

pub read_to_bytes : (κs : Lfts 3) (a : ArgsD read_bytes.signature κs) (r : Result ℕ Refused) (e : AtExit read_bytes.ended κs) → read_bytes_reads.Learnt κs a r e
    → ReaderKeeps Lent.bytes (settings_of a.0) a.1.0.now a.1.1.0.now a.1.1.1.0.now (means.answer_of r) e.1.1.1.0.now
read_to_bytes κs a r e (as_read, fits) = reader_keeps Lent.bytes _ _ _ _ _ _ as_read

pub read_batch : (κs : Lfts 8) (a : ArgsD batch_call.signature κs) (r : Result ℕ Refused)
    (e : AtExit batch_call.ended κs) → batch_reads.Learnt κs a r e
    → BatchKeeps Lent.bytes (settings_of a.0) a.1.0.now a.1.1.0.now
    (batch_of a.1.1.1.0.now a.1.1.1.1.0.now a.1.1.1.1.1.0.now a.1.1.1.1.1.1.0.now)
    a.1.1.1.1.1.1.1.0.now a.1.1.1.1.1.1.1.1.0.now (means.answer_of r)
    e.1.1.1.1.1.1.1.1.0.now e.1.1.1.1.1.1.1.0.now
read_batch κs a r e (batched, fits) = batch_keeps Lent.bytes _ _ _ _ _ _ _ _ _ batched

-- The attributes of a type, for a caller who gets their events by number (paper 02, request one): the number
-- that is returned and the six numbers are those of one answer, and with it goes what `ListKeeps` of Listed
-- says: it refuses as the judge does, or gives nine numbers for each attribute, in the order of the elements
-- and of their lists.
pub record ListCall (c : Settings) (s before : List ℕ) (returned : ℕ) (numbers after : List ℕ) : Type 0 where
  pub answer : Answer
  pub returned_is : returned ≡ answer.number
  pub numbers_are : numbers ≡ answer_numbers answer
  pub keeps : ListKeeps Lent.bytes c s before answer after

-- Passed are the type file, the lent bytes, the array for the answer, how long a name may be and the edition.
abbrev pub ListGives : (κs : Lfts 3) → ArgsD c_attributes.signature κs → ℕ → AtExit c_attributes.ended κs
    → Type 0
ListGives κs a r e = ListCall (settings a.1.1.1.0 a.1.1.1.1.0) a.0.now a.1.0.now r e.1.1.0.now e.1.0.now

pub sgml_attributes : (κs : Lfts 3) (a : ArgsD c_attributes.signature κs) (r : ℕ)
    (e : AtExit c_attributes.ended κs) → c_attributes_reads.Learnt κs a r e → ListGives κs a r e
sgml_attributes κs a r e (answer, returned, numbers, listed) =
    record {
      answer = answer;
      returned_is = returned;
      numbers_are = numbers;
      keeps = list_keeps Lent.bytes _ _ _ answer _ listed;
    }

pub list : (κs : Lfts 2) (a : ArgsD list_call.signature κs) (r : Result ℕ TypeFault) (e : AtExit list_call.ended κs) → list_reads.Learnt κs a r e
    → ListKeeps Lent.numbers (settings_of a.0) a.1.0.now a.1.1.0.now (verdict.answer_of r) e.1.1.0.now
list κs a r e listed = list_keeps Lent.numbers _ _ _ _ _ listed

pub list_to_bytes : (κs : Lfts 2) (a : ArgsD list_bytes.signature κs) (r : Result ℕ TypeFault) (e : AtExit list_bytes.ended κs) → list_bytes_reads.Learnt κs a r e
    → ListKeeps Lent.bytes (settings_of a.0) a.1.0.now a.1.1.0.now (verdict.answer_of r) e.1.1.0.now
list_to_bytes κs a r e listed = list_keeps Lent.bytes _ _ _ _ _ listed

-- The rules have an answer to every call, and only one, with what the buffer holds after: so they are total, whatever the code does.
pub judged_exists : (l : Lent) (c : Settings) (s before : List ℕ) → (a : Answer) × (after : List ℕ) × Judged l c s before a after
judged_exists = judged_some

pub judged_one : (l : Lent) (c : Settings) (s before : List ℕ) (a b : Answer) (after other : List ℕ) → Judged l c s before a after → Judged l c s before b other → (a ≡ b) × (after ≡ other)
judged_one = kept.judged_one

pub read_exists : (l : Lent) (c : Settings) (s d before : List ℕ) → (a : Answer) × (after : List ℕ) × ReadAs l c s d before a after
read_exists = read_some

pub read_one : (l : Lent) (c : Settings) (s d before : List ℕ) (a b : Answer) (after other : List ℕ) → ReadAs l c s d before a after → ReadAs l c s d before b other → (a ≡ b) × (after ≡ other)
read_one = given_one

pub batched_exists : (l : Lent) (c : Settings) (s string : List ℕ) (b : Batch) (before given : List ℕ)
    → (a : Answer) × (answers : List ℕ) × (after : List ℕ)
    × Batched l c s string b before given a answers after
batched_exists = batches.batched_exists

pub batched_one : (l : Lent) (c : Settings) (s string : List ℕ) (b : Batch) (before given : List ℕ)
    (a x : Answer) (answers after told left : List ℕ)
    → Batched l c s string b before given a answers after → Batched l c s string b before given x told left
    → (a ≡ x) × (answers ≡ told) × (after ≡ left)
batched_one = batches.batched_one

pub listed_exists : (l : Lent) (c : Settings) (s before : List ℕ)
    → (a : Answer) × (after : List ℕ) × Lists l c s before a after
listed_exists = listing.listed_exists

pub listed_one : (l : Lent) (c : Settings) (s before : List ℕ) (a b : Answer) (after other : List ℕ)
    → Lists l c s before a after → Lists l c s before b other → (a ≡ b) × (after ≡ other)
listed_one = listing.listed_one

-- What `BatchKeeps` and `ListKeeps` say is all that the rules say.
pub batch_keeps_exactly : (l : Lent) (c : Settings) (s string : List ℕ) (b : Batch) (before given : List ℕ)
    (a : Answer) (answers after : List ℕ)
    → Batched l c s string b before given a answers after
    ↔ BatchKeeps l c s string b before given a answers after
batch_keeps_exactly l c s string b before given a answers after = (
  batch_keeps l c s string b before given a answers after,
  batches.batch_kept l c s string b before given a answers after,
)

pub list_keeps_exactly : (l : Lent) (c : Settings) (s before : List ℕ) (a : Answer) (after : List ℕ)
    → Lists l c s before a after ↔ ListKeeps l c s before a after
list_keeps_exactly l c s before a after =
    (list_keeps l c s before a after, listing.list_kept l c s before a after)

-- Demand 2: under an accepted type every document has a reading, and only one.
pub reading_exists : (c : Settings) (s d : List ℕ) (es : List Element) → BothLegible c s d → Accepts c s es
    → (r : Reading (List Event)) × Reads c s d es r × ((fs : List Element) (q : Reading (List Event)) → Reads c s d fs q → (es ≡ fs) × (r ≡ q))
reading_exists = reading_one

-- Demand 1: 0 to 24 elements are open. `Few` says that at most 24 stand around the current one, which is how many are open, since the outermost of them is
-- the document itself. So it is in every state that acts pass (after each start and end, written or inferred, and each data byte) from nothing
-- open to any position that reading a document comes to between pieces, be it refused later or not. OpenElements says it of the program.
pub few_open : (c : Settings) (s d : List ℕ) (es : List Element) (r : Reading (List Event)) (x : Reads c s d es r) (at : ℕ) (l : Line) (z : State) → Passes c s es x.decisions d at l z → Acts s es x.decisions Few nothing_open z
few_open c s d es r x at l z = passes_acts s es x.decisions d

-- So it is in every state that acts pass up to the last one of a document that is read to its end, the ends that are inferred at the document's end among
-- them: there nothing is open any more.
pub few_open_read : (c : Settings) (s d : List ℕ) (es : List Element) (ev : List Event) (x : Reads c s d es (got ev)) → (z : State) × Acts s es x.decisions Few nothing_open z × (z.around ≡ []) × (with_attributes c.name_length s es d (records_settled c d z.events) ≡ ev)
few_open_read c s d es ev x =
    let a = document_acts s es x.decisions d c ev x.reading in
    let over = a.over in
    (over.last, over.acts, over.nothing, ap (λ (noted : List Event). with_attributes c.name_length s es d (records_settled c d noted)) over.events ∙ sym a.given)

-- Paper 02, request seven: "Start events get a fifth number: the place they took in their parent's model, 0 for the document element; all other events
-- carry 0 there", "under an accepted type no other place was possible for its name". Of each event e of a document that is read, with the events `before` it:
-- where it is a start, these lead, by what each did (`Deeds` of the rules), to the state z, in whose current element, the parent, it took its place (`Took`). Between
-- stand the events of its own attributes: "before a start event come attribute events" (request one). "A byte ignored only as the last has still taken its `#PCDATA`"
-- (request eight): the events of z have it, those given do not (`records_settled`).
pub places_taken : (c : Settings) (s d : List ℕ) (es : List Element) (ev : List Event) (x : Reads c s d es (got ev)) (before : List Event) (e : Event) (after : List Event) → ev ≡ before ++ e ∷ after
    → (IsStart e → (z : State) × Deeds s es x.decisions z × (with_attributes c.name_length s es d (records_settled c d z.events) ++ attributes_before c.name_length s es d e ≡ before) × Took s es z.current e) × ((IsStart e → ⊥) → e.place ≡ 0)
places_taken c s d es ev x before e after parts =
    let a = document_acts s es x.decisions d c ev x.reading in
    kept.told_among c s es x.accepted x.decisions x.means d (acts_deeds s es x.decisions Deeds.nothing a.over.acts) before e (stood c.name_length s es d (records_settled c d a.over.last.events) before e after (ap (λ (noted : List Event). with_attributes c.name_length s es d (records_settled c d noted)) a.over.events ∙ sym a.given ∙ parts))

-- So it is of the events that a call writes: those of `ReaderAcceptance`, which every accepted call gives.
pub places_written : (l : Lent) (c : Settings) (s d lent : List ℕ) (a : Answer) (left : List ℕ) (w : ReaderAcceptance l c s d lent a left) (before : List Event) (e : Event) (after : List Event)
    → w.events ≡ before ++ e ∷ after
    → (IsStart e → (z : State) × Deeds s w.elements w.read.decisions z × (with_attributes c.name_length s w.elements d (records_settled c d z.events) ++ attributes_before c.name_length s w.elements d e ≡ before) × Took s w.elements z.current e) × ((IsStart e → ⊥) → e.place ≡ 0)
places_written l c s d lent a left w = places_taken c s d w.elements w.events w.read

-- What the same events did is one state: the events that a state has, with those bytes 13 in them that are cut before an end (request eight).
pub state_before : (s : List ℕ) (es : List Element) (D : Decisions) (z y : State) → Deeds s es D z → Deeds s es D y → z.events ≡ y.events → z ≡ y
state_before s es D z y = deeds_one s es D

-- All that a document does to the open elements, event by event: a start took a place and opened its element, an end closed a complete one, data fitted. At
-- the end nothing is open, and the document element was there.
pub events_did : (c : Settings) (s d : List ℕ) (es : List Element) (ev : List Event) (x : Reads c s d es (got ev)) → (z : State) × Deeds s es x.decisions z × (z.around ≡ []) × (is_complete s es x.decisions z.current ≡ true) × (with_attributes c.name_length s es d (records_settled c d z.events) ≡ ev)
events_did c s d es ev x =
    let a = document_acts s es x.decisions d c ev x.reading in
    let over = a.over in
    (over.last, acts_deeds s es x.decisions Deeds.nothing over.acts, over.nothing, over.complete, ap (λ (noted : List Event). with_attributes c.name_length s es d (records_settled c d noted)) over.events ∙ sym a.given)

-- Paper 02, request one: "An element with a required attribute never has its start inferred": of each event e
-- of a document that is read, if it is of kind 2, its element is declared, and no attribute of it is
-- required.
pub required_never_inferred : (c : Settings) (s d : List ℕ) (es : List Element) (ev : List Event)
    (x : Reads c s d es (got ev)) (before : List Event) (e : Event) (after : List Event)
    → ev ≡ before ++ e ∷ after → e.kind ≡ 2
    → (1 ≤ e.number) × (e.number ≤ length es) × NoneRequired (element_at es (e.number - 1))
required_never_inferred = values.none_required

-- "Never": so it is of each event that is noted up to any position that reading comes to, by whatever
-- decisions, be the document refused later or not.
pub required_never_inferred_before : (c : Settings) (s d : List ℕ) (es : List Element) (D : Decisions)
    (at : ℕ) (l : Line) (z : State) → Passes c s es D d at l z → (e : Event) → Memᴰ e z.events → e.kind ≡ 2
    → (1 ≤ e.number) × (e.number ≤ length es) × NoneRequired (element_at es (e.number - 1))
required_never_inferred_before = values.none_required_before

-- Nor within a token that is refused then: whatever start may be inferred in an open element, by whatever
-- decisions, is of an element without one.
pub required_never_inferable : (s : List ℕ) (es : List Element) (D : Decisions) (o : Open)
    → 1 ≤ inferable s es D o → needs_tag (element_at es (inferable s es D o - 1)).attributes ≡ false
required_never_inferable = kept.required_never_inferable

-- "Written values are literals in either quote": of each event e of a document that is read, if it is of kind
-- 7 its value is a part of the document, and if it is of kind 8 a part of the type file, which stands between
-- two quotes of one kind and has none of these in it (`Quoted`). So it lies in its text, and its bytes
-- (`value_bytes`) are those of that part.
pub written_value : (c : Settings) (s d : List ℕ) (es : List Element) (ev : List Event)
    (x : Reads c s d es (got ev)) (before : List Event) (e : Event) (after : List Event)
    → ev ≡ before ++ e ∷ after → e.kind ≡ 7
    → Quoted d e.offset e.size
    × (value_bytes s d true (record { at = e.offset; size = e.size }) ≡ take e.size (drop e.offset d))
written_value c s d es ev x before e after parts k =
    let q = values.written_quoted c s d es ev x before e after parts k in
    (q, values.quoted_bytes s d true e.offset e.size q)

pub defaulted_value : (c : Settings) (s d : List ℕ) (es : List Element) (ev : List Event)
    (x : Reads c s d es (got ev)) (before : List Event) (e : Event) (after : List Event)
    → ev ≡ before ++ e ∷ after → e.kind ≡ 8
    → Quoted s e.offset e.size
    × (value_bytes s d false (record { at = e.offset; size = e.size }) ≡ take e.size (drop e.offset s))
defaulted_value c s d es ev x before e after parts k =
    let q = values.default_stands c s d es ev x before e after parts k in
    (q, values.quoted_bytes s d false e.offset e.size q)

-- "The value without quotes, handed to the caller, is a part of the document if written and a part of the type file if defaulted" (`value_bytes` of the rules): what
-- `value` returns for the offset and length of an attribute event, which are those of the literal without its quotes (`attribute_event` of the rules).
pub value_given : (κs : Lfts 1) (a : ArgsD value_call.signature κs) (r : Bor (List ℕ)) (e : AtExit value_call.ended κs) → value_reads.Learnt κs a r e
    → r.now ≡ value_bytes a.0.now a.1.0.now a.1.1.0 (record { at = a.1.1.1.0; size = a.1.1.1.1.0 })
value_given κs a r e given = given

-- Paper 02, request twelve: of each model that was read, as it is written, an "&" group stands in what
-- carries "+" or "*", or carries one (it is not `Guarded`), exactly if some "&" of it is such (`Repeats`).
pub repeated_written : (c : Settings) (s : List ℕ) (es : List Element) → type_file c.name_length s ≡ got es
    → (g : Group) (ps : List Place) → ModelOf es g ps
    → (i : ℕ) × (j : ℕ) × (w : Stands s whole [] i g ps j) × ((Guarded g → ⊥) ↔ ((p : ℕ) × Repeats w p))
repeated_written c s = ampersands.written_so c.name_length s

-- Demand 3 by pairs at fault: a model is ambiguous exactly if it has one; of a model that was read, both its places are places of the model.
pub pair_exactly : (s : List ℕ) (g : Group) (ps : List Place) → Ambiguous (same_place s ps) g ↔ ((p : ℕ) × (q : ℕ) × PairAtFault (same_place s ps) g p q)
pair_exactly = kept.pair_exactly

pub pair_places : (c : Settings) (s : List ℕ) (es : List Element) → type_file c.name_length s ≡ got es → (g : Group) (ps : List Place) → ModelOf es g ps
    → (p q : ℕ) → PairAtFault (same_place s ps) g p q → (1 ≤ p) × (q ≤ length ps)
pair_places = kept.pair_places

-- Demand 3: "the type judge and the reader alike", and in all else about the type.
pub same_verdict : (l m : Lent) (c : Settings) (s d before other : List ℕ) (a b : Answer) (after left : List ℕ) → Judged l c s before a after → ReadAs m c s d other b left → BothLegible c s d → SameVerdict a b
same_verdict = kept.same_verdict
