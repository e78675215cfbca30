-- The rules settle one answer of the reader, and what each such answer is.
use Rattle.std.specs.Prelude.{ℕ, ◌*◌, ◌<◌, ◌≤◌, ◌≡◌, refl, false, ◌⊎◌, List, length}
use Rattle.std.proofs.Common.{sym, ap, ◌∙◌, true≢false, inl, inr, ⊎_elim, arith}
use Rattle.std.proofs.lemmas.List.{length-replicate}
use Rattle.rules.specs.Settings.{Settings, is_offered}
use Rattle.rules.specs.Bytes.{allowed, span}
use Rattle.rules.specs.Lent.{Lent, standing, room, filled_with, zeroed}
use Rattle.rules.specs.Reading.{Reading, refused, got}
use Rattle.rules.specs.TypeFile.{Element, type_file}
use Rattle.rules.specs.Judge.{Answer, refusal, acceptance, AllUnambiguous, FirstAmbiguous, first_repeated, Refuses, Accepts}
use Rattle.rules.specs.Events.{Event, event_width}
use Rattle.rules.specs.Reader.{event_numbers, document_refusal, BothLegible, Reads, RefusesBoth, not_offered, type_too_long, document_too_long, type_not_allowed, document_not_allowed, malformed, repeated, ambiguous, unsettled, no_room, ReadAs, refuses, accepts}
use Rattle.numbers.specs.Stores.{event_numbers_length, lent_length}
use Rattle.rules_laws.specs.Within.{type_file_within}
use Rattle.document_laws.specs.OneReading.{same_elements, reads_some, reads_one}
use Rattle.document_laws.specs.Answers.{read_as_one}
use Rattle.type_laws.specs.Members.{type_file_repeated}
use Rattle.turn_laws.specs.Within.{DocumentNumber, document_within}
use Rattle.answer_laws.specs.Judge.{first_one, first_all, first_in, TypeNumber, file_number, Apart, file_apart, type_some, read_fair}

-- Two answers to the same two inputs are the same: that a type has one first ambiguous model is the judge's half.
pub given_one : (l : Lent) (c : Settings) (s d before : List ℕ) (a b : Answer) (after other : List ℕ) → ReadAs l c s d before a after → ReadAs l c s d before b other → (a ≡ b) × (after ≡ other)
given_one l c s d before = read_as_one l c s d before (λ k p q j i l es x y. first_one s x y) (λ k p q es x u. first_all s x u)

-- Under an accepted type each document has a reading, and only one.
pub reading_one : (c : Settings) (s d : List ℕ) (es : List Element) → BothLegible c s d → Accepts c s es
    → (r : Reading (List Event)) × Reads c s d es r × ((fs : List Element) (q : Reading (List Event)) → Reads c s d fs q → (es ≡ fs) × (r ≡ q))
reading_one c s d es l w =
    let x = reads_some s d es l w in
    (_, x, λ fs q y. reads_one s d es fs _ q x y)

-- What a refusal says: where it stands, and by which numbers.
abbrev TypeSays : List ℕ → Answer → Type 0
TypeSays s a = (a.input ≡ 1) × (a.position ≤ length s) × TypeNumber a.number

abbrev DocumentSays : List ℕ → Answer → Type 0
DocumentSays d a = (a.input ≡ 2) × (a.position ≤ length d) × (((1 ≤ a.number) × (a.number ≤ 5)) ⊎ ((10 ≤ a.number) × (a.number ≤ 22)))

abbrev Says : (s d : List ℕ) → Answer → Type 0
Says s d a = (TypeSays s a ⊎ DocumentSays d a) × ((a.number ≡ 9 → ⊥) → (a.first ≡ 0) × (a.second ≡ 0)) × (a.count ≡ 0)

type_says : (s d : List ℕ) (n k : ℕ) → TypeNumber n → k ≤ length s → Says s d (refusal n k 0 0)
type_says s d n k h i = (inl (refl, i, h), λ o. (refl, refl), refl)

document_says : (s d : List ℕ) (n k : ℕ) → ((1 ≤ n) × (n ≤ 5)) ⊎ ((10 ≤ n) × (n ≤ 22)) → k ≤ length d → Says s d (document_refusal n k)
document_says s d n k h i = (inr (refl, i, h), λ o. (refl, refl), refl)

document_number : {n : ℕ} → DocumentNumber n → ((1 ≤ n) × (n ≤ 5)) ⊎ ((10 ≤ n) × (n ≤ 22))
document_number (inl x) = inl (omega arith)
document_number (inr (inl x)) = inr (omega arith)
document_number (inr (inr x)) = inr (omega arith)

document_apart : {n : ℕ} → DocumentNumber n → Apart n
document_apart (inl x) = (λ e. omega arith, λ e. omega arith, λ e. omega arith)
document_apart (inr (inl x)) = (λ e. omega arith, λ e. omega arith, λ e. omega arith)
document_apart (inr (inr x)) = (λ e. omega arith, λ e. omega arith, λ e. omega arith)

module _ {c : Settings} {s d : List ℕ} {room : ℕ} {a : Answer} where
  pub both_says : RefusesBoth c s d room a → Says s d a
  both_says (not_offered o e) = rw e (type_says s d 24 0 (inr (inr (inr (omega arith)))) (omega arith))
  both_says (type_too_long o l e) = rw e (type_says s d 1 0 (inl (omega arith)) (omega arith))
  both_says (document_too_long o l m e) = rw e (document_says s d 1 0 (inl (omega arith)) (omega arith))
  both_says (type_not_allowed o l m x e) = rw e (type_says s d 2 (span allowed s) (inl (omega arith)) (omega arith))
  both_says (document_not_allowed l m x e) = rw e (document_says s d 2 (span allowed d) (inl (omega arith)) (omega arith))
  both_says (malformed l n k r e) =
      let (i, b) = type_file_within c.name_length s n k r in
      rw e (type_says s d n k (file_number i) b)
  both_says (repeated l es r v e) = rw e (type_says s d 25 (first_repeated es) (inr (inr (inr (omega arith)))) (type_file_repeated c.name_length s es r))
  both_says (ambiguous l es r v k p q f e) = rw e (inl (refl, first_in s c f r, inl (omega arith)), λ h. absurd (h refl), refl)
  both_says (unsettled es n k r e) =
      let (i, b) = document_within c s es r.decisions d n k r.reading in
      rw e (document_says s d n k (document_number i) b)
  both_says (no_room es ev r f e) = rw e (document_says s d 19 0 (inr (omega arith)) (omega arith))

  pub both_some : RefusesBoth c s d room a → a.number ≡ 0 → ⊥
  both_some r h = ⊎_elim (λ i. type_some i.2 h) (λ i. ⊎_elim (λ j. omega arith) (λ j. omega arith) i.2) (both_says r).0

  -- Number 24, number 25, number 9, and number 19.
  both_twenty_four : RefusesBoth c s d room a → a.number ≡ 24 → is_offered c ≡ false
  both_twenty_four (not_offered o e) h = o
  both_twenty_four (type_too_long o l e) h = absurd (omega (arith, rw e at h))
  both_twenty_four (document_too_long o l m e) h = absurd (omega (arith, rw e at h))
  both_twenty_four (type_not_allowed o l m x e) h = absurd (omega (arith, rw e at h))
  both_twenty_four (document_not_allowed l m x e) h = absurd (omega (arith, rw e at h))
  both_twenty_four (malformed l n k r e) h = absurd ((file_apart (type_file_within c.name_length s n k r).0).2 (omega (arith, rw e at h)))
  both_twenty_four (repeated l es r v e) h = absurd (omega (arith, rw e at h))
  both_twenty_four (ambiguous l es r v k p q f e) h = absurd (omega (arith, rw e at h))
  both_twenty_four (unsettled es n k r e) h = absurd ((document_apart (document_within c s es r.decisions d n k r.reading).0).2 (omega (arith, rw e at h)))
  both_twenty_four (no_room es ev r f e) h = absurd (omega (arith, rw e at h))

  both_twenty_five : RefusesBoth c s d room a → a.number ≡ 25 → BothLegible c s d × (es : List Element) × (type_file c.name_length s ≡ got es) × (1 ≤ first_repeated es) × (a.position ≡ first_repeated es)
  both_twenty_five (not_offered o e) h = absurd (omega (arith, rw e at h))
  both_twenty_five (type_too_long o l e) h = absurd (omega (arith, rw e at h))
  both_twenty_five (document_too_long o l m e) h = absurd (omega (arith, rw e at h))
  both_twenty_five (type_not_allowed o l m x e) h = absurd (omega (arith, rw e at h))
  both_twenty_five (document_not_allowed l m x e) h = absurd (omega (arith, rw e at h))
  both_twenty_five (malformed l n k r e) h = absurd ((file_apart (type_file_within c.name_length s n k r).0).2 (omega (arith, rw e at h)))
  both_twenty_five (repeated l es r v e) h = (l, es, r, v, ap (λ (b : Answer). b.position) e)
  both_twenty_five (ambiguous l es r v k p q f e) h = absurd (omega (arith, rw e at h))
  both_twenty_five (unsettled es n k r e) h = absurd ((document_apart (document_within c s es r.decisions d n k r.reading).0).2 (omega (arith, rw e at h)))
  both_twenty_five (no_room es ev r f e) h = absurd (omega (arith, rw e at h))

  both_nine : RefusesBoth c s d room a → a.number ≡ 9 → BothLegible c s d × (es : List Element) × (type_file c.name_length s ≡ got es) × (first_repeated es ≡ 0) × FirstAmbiguous s a.position a.first a.second es
  both_nine (not_offered o e) h = absurd (omega (arith, rw e at h))
  both_nine (type_too_long o l e) h = absurd (omega (arith, rw e at h))
  both_nine (document_too_long o l m e) h = absurd (omega (arith, rw e at h))
  both_nine (type_not_allowed o l m x e) h = absurd (omega (arith, rw e at h))
  both_nine (document_not_allowed l m x e) h = absurd (omega (arith, rw e at h))
  both_nine (malformed l n k r e) h = absurd ((file_apart (type_file_within c.name_length s n k r).0).0 (rw e at h))
  both_nine (repeated l es r v e) h = absurd (omega (arith, rw e at h))
  both_nine (ambiguous l es r v k p q f e) h = rw e (l, es, r, v, f)
  both_nine (unsettled es n k r e) h = absurd ((document_apart (document_within c s es r.decisions d n k r.reading).0).0 (rw e at h))
  both_nine (no_room es ev r f e) h = absurd (omega (arith, rw e at h))

  both_nineteen : RefusesBoth c s d room a → a.number ≡ 19 → (es : List Element) × (ev : List Event) × Reads c s d es (got ev) × (room < event_width * length ev)
  both_nineteen (not_offered o e) h = absurd (omega (arith, rw e at h))
  both_nineteen (type_too_long o l e) h = absurd (omega (arith, rw e at h))
  both_nineteen (document_too_long o l m e) h = absurd (omega (arith, rw e at h))
  both_nineteen (type_not_allowed o l m x e) h = absurd (omega (arith, rw e at h))
  both_nineteen (document_not_allowed l m x e) h = absurd (omega (arith, rw e at h))
  both_nineteen (malformed l n k r e) h = absurd ((file_apart (type_file_within c.name_length s n k r).0).1 (rw e at h))
  both_nineteen (repeated l es r v e) h = absurd (omega (arith, rw e at h))
  both_nineteen (ambiguous l es r v k p q f e) h = absurd (omega (arith, rw e at h))
  both_nineteen (unsettled es n k r e) h = absurd ((document_apart (document_within c s es r.decisions d n k r.reading).0).1 (rw e at h))
  both_nineteen (no_room es ev r f e) h = (es, ev, r, f)

-- What the judge refuses a type for, but for want of room, the reader refuses it for.
pub type_refused : {c : Settings} {s d : List ℕ} {room other : ℕ} {a : Answer} → BothLegible c s d → Refuses c s room a → (a.number ≡ 19 → ⊥) → RefusesBoth c s d other a
type_refused i (Refuses.not_offered o e) h = absurd (true≢false (sym i.type.offered ∙ o))
type_refused i (Refuses.too_long o l e) h = absurd (omega (arith, i.type.short))
type_refused i (Refuses.not_allowed o l x e) h = absurd (omega (arith, i.type.clean))
type_refused i (Refuses.malformed l n k r e) h = malformed i n k r e
type_refused i (Refuses.repeated l es r v e) h = repeated i es r v e
type_refused i (Refuses.ambiguous l es r v k p q f e) h = ambiguous i es r v k p q f e
type_refused i (Refuses.no_room l es r v u f e) h = absurd (h (rw e))

-- What the answer to two legible inputs tells of the type.
data OfType (c : Settings) (s : List ℕ) (a : Answer) : Type 0 where
  bad : (n k : ℕ) → type_file c.name_length s ≡ refused n k → OfType c s a
  again : (es : List Element) → type_file c.name_length s ≡ got es → 1 ≤ first_repeated es → a.number ≡ 25 → OfType c s a
  clash : (es : List Element) → type_file c.name_length s ≡ got es → first_repeated es ≡ 0 → a.number ≡ 9 → OfType c s a
  fair : (es : List Element) → Accepts c s es → OfType c s a

module _ {c : Settings} {s : List ℕ} {a : Answer} {es : List Element} where
  of_repeated : OfType c s a → type_file c.name_length s ≡ got es → 1 ≤ first_repeated es → a.number ≡ 25
  of_repeated (bad m k e) r n = let z : ◌≡◌ {A = ℕ} 0 1 = cc in absurd (omega arith)
  of_repeated (again fs i v h) r n = h
  of_repeated (clash fs i v h) r n = absurd (omega (arith, ap first_repeated (same_elements c s es fs r i)))
  of_repeated (fair fs w) r n = absurd (omega (arith, ap first_repeated (same_elements c s es fs r w.elements), w.unrepeated))

  of_faulty : OfType c s a → type_file c.name_length s ≡ got es → first_repeated es ≡ 0 → (AllUnambiguous s es → ⊥) → a.number ≡ 9
  of_faulty (bad m k e) r o n = let z : ◌≡◌ {A = ℕ} 0 1 = cc in absurd (omega arith)
  of_faulty (again fs i v h) r o n = absurd (omega (arith, ap first_repeated (same_elements c s es fs r i)))
  of_faulty (clash fs i v h) r o n = h
  of_faulty (fair fs w) r o n = absurd (n (read_fair w r))

  of_fair : OfType c s a → type_file c.name_length s ≡ got es → (a.number ≡ 9 → ⊥) → (a.number ≡ 25 → ⊥) → AllUnambiguous s es
  of_fair (bad m k e) r n o = let z : ◌≡◌ {A = ℕ} 0 1 = cc in absurd (omega arith)
  of_fair (again fs i v h) r n o = absurd (o h)
  of_fair (clash fs i v h) r n o = absurd (n h)
  of_fair (fair fs w) r n o = read_fair w r

module _ {l : Lent} {c : Settings} {s d before : List ℕ} {a : Answer} {after : List ℕ} where
  pub given_refuses : ReadAs l c s d before a after → (a.number ≡ 0 → ⊥) → RefusesBoth c s d (room l before) a × (after ≡ zeroed before)
  given_refuses (refuses r z) h = (r, z)
  given_refuses (accepts es ev r f e z) h = absurd (h (rw e))

  pub given_accepts : ReadAs l c s d before a after → a.number ≡ 0 → (es : List Element) × (ev : List Event) × Reads c s d es (got ev) × (event_width * length ev ≤ room l before) × (a ≡ acceptance (length ev)) × (after ≡ filled_with (standing l (event_numbers ev)) before)
  given_accepts (refuses r z) h = absurd (both_some r h)
  given_accepts (accepts es ev r f e z) h = (es, ev, r, f, e, z)

  pub given_twenty_four : ReadAs l c s d before a after → a.number ≡ 24 → is_offered c ≡ false
  given_twenty_four x h = both_twenty_four (given_refuses x (λ z. omega arith)).0 h

  pub given_twenty_five : ReadAs l c s d before a after → a.number ≡ 25 → BothLegible c s d × (es : List Element) × (type_file c.name_length s ≡ got es) × (1 ≤ first_repeated es) × (a.position ≡ first_repeated es)
  given_twenty_five x h = both_twenty_five (given_refuses x (λ z. omega arith)).0 h

  pub given_nine : ReadAs l c s d before a after → a.number ≡ 9 → BothLegible c s d × (es : List Element) × (type_file c.name_length s ≡ got es) × (first_repeated es ≡ 0) × FirstAmbiguous s a.position a.first a.second es
  given_nine x h = both_nine (given_refuses x (λ z. omega arith)).0 h

  pub given_nineteen : ReadAs l c s d before a after → a.number ≡ 19 → (es : List Element) × (ev : List Event) × Reads c s d es (got ev) × (room l before < event_width * length ev)
  given_nineteen x h = both_nineteen (given_refuses x (λ z. omega arith)).0 h

  given_type : BothLegible c s d → ReadAs l c s d before a after → OfType c s a
  given_type i (refuses (not_offered o e) z) = absurd (true≢false (sym i.type.offered ∙ o))
  given_type i (refuses (type_too_long o l e) z) = absurd (omega (arith, i.type.short))
  given_type i (refuses (document_too_long o l m e) z) = absurd (omega (arith, i.short))
  given_type i (refuses (type_not_allowed o l m x e) z) = absurd (omega (arith, i.type.clean))
  given_type i (refuses (document_not_allowed l m x e) z) = absurd (omega (arith, i.clean))
  given_type i (refuses (malformed l n k r e) z) = bad n k r
  given_type i (refuses (repeated l es r v e) z) = again es r v (rw e)
  given_type i (refuses (ambiguous l es r v k p q f e) z) = clash es r v (rw e)
  given_type i (refuses (unsettled es n k r e) z) = fair es r.accepted
  given_type i (refuses (no_room es ev r f e) z) = fair es r.accepted
  given_type i (accepts es ev r f e z) = fair es r.accepted

  -- Under 25 an "&" stands where none may; else none does.
  pub given_repeated : ReadAs l c s d before a after → BothLegible c s d → {es : List Element} → type_file c.name_length s ≡ got es → 1 ≤ first_repeated es → a.number ≡ 25
  given_repeated x i r n = of_repeated (given_type i x) r n

  -- Under 9 some model has a pair at fault; else none has, unless it is 25 that comes before.
  pub given_faulty : ReadAs l c s d before a after → BothLegible c s d → {es : List Element} → type_file c.name_length s ≡ got es → first_repeated es ≡ 0 → (AllUnambiguous s es → ⊥) → a.number ≡ 9
  given_faulty x i r o n = of_faulty (given_type i x) r o n

  pub given_fair : ReadAs l c s d before a after → BothLegible c s d → {es : List Element} → type_file c.name_length s ≡ got es → (a.number ≡ 9 → ⊥) → (a.number ≡ 25 → ⊥) → AllUnambiguous s es
  given_fair x i r n o = of_fair (given_type i x) r n o

  -- The buffer keeps its length.
  pub given_length : ReadAs l c s d before a after → length after ≡ length before
  given_length (refuses r z) = rw z (length-replicate (length before) 0)
  given_length (accepts es ev r f e z) = rw z (lent_length l (event_numbers ev) before (omega (arith, event_numbers_length ev)))
