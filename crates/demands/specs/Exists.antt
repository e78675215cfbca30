-- The proofs that the rules have an answer to every call: by cases, in the stated order.
use Rattle.std.specs.Prelude.{ℕ, ◌*◌, ◌<◌, ◌≤◌, ◌≡◌, refl, true, ◌⊎◌, List, length}
use Rattle.std.proofs.Common.{inl, inr, arith}
use Rattle.std.proofs.Math.Decide.{dec_lt}
use Rattle.rules.specs.Settings.{Settings, is_offered}
use Rattle.rules.specs.Bytes.{allowed, span, type_limit, document_limit}
use Rattle.rules.specs.Lent.{Lent, standing, room, filled_with, zeroed}
use Rattle.rules.specs.Reading.{Reading, refused, got}
use Rattle.rules.specs.TypeFile.{Element, type_file}
use Rattle.rules.specs.Judge.{Answer, refusal, acceptance, AllUnambiguous, first_repeated, records, Legible, Refuses, Accepts, Judged, record_width}
use Rattle.rules.specs.Events.{Event, event_width}
use Rattle.rules.specs.Reader.{event_numbers, document_refusal, BothLegible, Reads, RefusesBoth, ReadAs}
use Rattle.basic_laws.specs.Truth.{bool_cases}
use Rattle.text.specs.Words.{span_in}
use Rattle.document_laws.specs.Numbers.{type_file_guarded}
use Rattle.document_laws.specs.OneReading.{reads_some}
use Rattle.demands.specs.Models.{type_file_counted, SomeFirst, first_or_none}

-- All bytes are allowed, or there is a first that is not.
all_allowed : (s : List ℕ) → (span allowed s < length s → ⊥) → span allowed s ≡ length s
all_allowed s n = omega (arith, span_in allowed s 0 (omega arith))

-- The type judge

module _ (l : Lent) (c : Settings) (s before : List ℕ) where
  abbrev SomeJudged : Type 0
  SomeJudged = (a : Answer) × (after : List ℕ) × Judged l c s before a after

  judge_refuses : (a : Answer) → Refuses c s (room l before) a → SomeJudged
  judge_refuses a r = (a, zeroed before, Judged.refuses r refl)

  judge_accepted : (es : List Element) → Accepts c s es → SomeJudged
  judge_accepted es w = go (dec_lt (room l before) (record_width * length es))
    where
      go : Dec (room l before < record_width * length es) → SomeJudged
      go (yes h) = judge_refuses (refusal 19 0 0 0) (Refuses.no_room w.legible es w.elements w.unrepeated w.unambiguous h refl)
      go (no h) = (acceptance (length es), filled_with (standing l (records es)) before, Judged.accepts es w (omega arith) refl refl)

  judge_elements : Legible c s → (es : List Element) → type_file c.name_length s ≡ got es → SomeJudged
  judge_elements i es r = go (dec_lt 0 (first_repeated es))
    where
      by_models : first_repeated es ≡ 0 → SomeFirst s es ⊎ AllUnambiguous s es → SomeJudged
      by_models o (inl (k, p, q, f)) = judge_refuses (refusal 9 k p q) (Refuses.ambiguous i es r o k p q f refl)
      by_models o (inr u) = judge_accepted es (record { legible = i; elements = r; unrepeated = o; unambiguous = u })

      go : Dec (0 < first_repeated es) → SomeJudged
      go (yes l) = judge_refuses (refusal 25 (first_repeated es) 0 0) (Refuses.repeated i es r l refl)
      go (no n) = let o : first_repeated es ≡ 0 = omega arith in by_models o (first_or_none s es (type_file_counted c.name_length s es r) (type_file_guarded c.name_length s es r o))

  judge_reading : Legible c s → (r : Reading (List Element)) → type_file c.name_length s ≡ r → SomeJudged
  judge_reading i (refused n k) e = judge_refuses (refusal n k 0 0) (Refuses.malformed i n k e refl)
  judge_reading i (got es) e = judge_elements i es e

  judge_short : is_offered c ≡ true → length s ≤ type_limit → SomeJudged
  judge_short o h = go (dec_lt (span allowed s) (length s))
    where
      go : Dec (span allowed s < length s) → SomeJudged
      go (yes n) = judge_refuses (refusal 2 (span allowed s) 0 0) (Refuses.not_allowed o h n refl)
      go (no n) = judge_reading (record { offered = o; short = h; clean = all_allowed s n }) (type_file c.name_length s) refl

  judge_offered : is_offered c ≡ true → SomeJudged
  judge_offered o = go (dec_lt type_limit (length s))
    where
      go : Dec (type_limit < length s) → SomeJudged
      go (yes h) = judge_refuses (refusal 1 0 0 0) (Refuses.too_long o h refl)
      go (no h) = judge_short o (omega arith)

  pub judged_some : SomeJudged
  judged_some = bool_cases (is_offered c) judge_offered (λ o. judge_refuses (refusal 24 0 0 0) (Refuses.not_offered o refl))

-- The document reader

module _ (l : Lent) (c : Settings) (s d before : List ℕ) where
  abbrev SomeRead : Type 0
  SomeRead = (a : Answer) × (after : List ℕ) × ReadAs l c s d before a after

  reader_refuses : (a : Answer) → RefusesBoth c s d (room l before) a → SomeRead
  reader_refuses a r = (a, zeroed before, ReadAs.refuses r refl)

  reader_accepted : (es : List Element) (ev : List Event) → Reads c s d es (got ev) → SomeRead
  reader_accepted es ev x = go (dec_lt (room l before) (event_width * length ev))
    where
      go : Dec (room l before < event_width * length ev) → SomeRead
      go (yes h) = reader_refuses (document_refusal 19 0) (RefusesBoth.no_room es ev x h refl)
      go (no h) = (acceptance (length ev), filled_with (standing l (event_numbers ev)) before, ReadAs.accepts es ev x (omega arith) refl refl)

  reader_events : (es : List Element) (r : Reading (List Event)) → Reads c s d es r → SomeRead
  reader_events es (refused n k) x = reader_refuses (document_refusal n k) (RefusesBoth.unsettled es n k x refl)
  reader_events es (got ev) x = reader_accepted es ev x

  reader_elements : BothLegible c s d → (es : List Element) → type_file c.name_length s ≡ got es → SomeRead
  reader_elements i es r = go (dec_lt 0 (first_repeated es))
    where
      by_models : first_repeated es ≡ 0 → SomeFirst s es ⊎ AllUnambiguous s es → SomeRead
      by_models o (inl (k, p, q, f)) = reader_refuses (refusal 9 k p q) (RefusesBoth.ambiguous i es r o k p q f refl)
      by_models o (inr u) = reader_events es _ (reads_some s d es i (record { legible = i.type; elements = r; unrepeated = o; unambiguous = u }))

      go : Dec (0 < first_repeated es) → SomeRead
      go (yes l) = reader_refuses (refusal 25 (first_repeated es) 0 0) (RefusesBoth.repeated i es r l refl)
      go (no n) = let o : first_repeated es ≡ 0 = omega arith in by_models o (first_or_none s es (type_file_counted c.name_length s es r) (type_file_guarded c.name_length s es r o))

  reader_reading : BothLegible c s d → (r : Reading (List Element)) → type_file c.name_length s ≡ r → SomeRead
  reader_reading i (refused n k) e = reader_refuses (refusal n k 0 0) (RefusesBoth.malformed i n k e refl)
  reader_reading i (got es) e = reader_elements i es e

  reader_legible : Legible c s → length d ≤ document_limit → SomeRead
  reader_legible i h = go (dec_lt (span allowed d) (length d))
    where
      go : Dec (span allowed d < length d) → SomeRead
      go (yes n) = reader_refuses (document_refusal 2 (span allowed d)) (RefusesBoth.document_not_allowed i h n refl)
      go (no n) = reader_reading (record { type = i; short = h; clean = all_allowed d n }) (type_file c.name_length s) refl

  reader_both_short : is_offered c ≡ true → length s ≤ type_limit → length d ≤ document_limit → SomeRead
  reader_both_short o h j = go (dec_lt (span allowed s) (length s))
    where
      go : Dec (span allowed s < length s) → SomeRead
      go (yes n) = reader_refuses (refusal 2 (span allowed s) 0 0) (RefusesBoth.type_not_allowed o h j n refl)
      go (no n) = reader_legible (record { offered = o; short = h; clean = all_allowed s n }) j

  reader_short : is_offered c ≡ true → length s ≤ type_limit → SomeRead
  reader_short o h = go (dec_lt document_limit (length d))
    where
      go : Dec (document_limit < length d) → SomeRead
      go (yes j) = reader_refuses (document_refusal 1 0) (RefusesBoth.document_too_long o h j refl)
      go (no j) = reader_both_short o h (omega arith)

  reader_offered : is_offered c ≡ true → SomeRead
  reader_offered o = go (dec_lt type_limit (length s))
    where
      go : Dec (type_limit < length s) → SomeRead
      go (yes h) = reader_refuses (refusal 1 0 0 0) (RefusesBoth.type_too_long o h refl)
      go (no h) = reader_short o (omega arith)

  pub read_some : SomeRead
  read_some = bool_cases (is_offered c) reader_offered (λ o. reader_refuses (refusal 24 0 0 0) (RefusesBoth.not_offered o refl))
