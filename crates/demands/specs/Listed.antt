-- The demands, said of a call that the papers do not name: the one that lists a type's attributes, for a
-- caller who gets their events by number. That it refuses as the judge does is ours. `ListKeeps`, and that it
-- says all that the rules say; that they have an answer to every type file, and only one.
use Rattle.std.specs.Prelude.{ℕ, ◌*◌, ◌<◌, ◌≤◌, ◌≡◌, refl, false, ◌⊎◌, ◌↔◌, List, length, replicate}
use Rattle.std.proofs.Common.{sym, ap, ◌∙◌, inl, inr, arith}
use Rattle.std.proofs.Math.Decide.{ℕ_discrete, dec_lt}
use Rattle.std.proofs.lemmas.List.{length-replicate}
use Rattle.rules.specs.Settings.{Settings, is_offered}
use Rattle.rules.specs.Bytes.{element_limit}
use Rattle.rules.specs.Lent.{Lent, standing, room, filled_with, zeroed}
use Rattle.rules.specs.TypeFile.{Element}
use Rattle.rules.specs.Judge.{Answer, refusal, acceptance, records, Refuses, Accepts, Judged, record_width}
use Rattle.rules.specs.Listing.{Lists, list_numbers, attribute_count, attribute_width}
use Rattle.numbers.specs.Stores.{lent_length}
use Rattle.rules_laws.specs.Within.{type_file_count}
use Rattle.document_laws.specs.OneReading.{same_elements}
use Rattle.answer_laws.specs.Judge.{settled_one, settled_nineteen, settled_twenty_four, refuses_named, refuses_some}
use Rattle.attribute_records.specs.Numbers.{lists_length}
use Rattle.demands.specs.Words.{Refusal}
use Rattle.demands.specs.Exists.{judged_some}

-- How many numbers the judge may give.
abbrev pub most_records : ℕ
most_records = record_width * element_limit

-- The rules accept the type, and the numbers of its attributes fit; or they do not fit.
abbrev pub SomeFit : Lent → Settings → (s before : List ℕ) → Type 0
SomeFit l c s before =
    (es : List Element) × Accepts c s es × (attribute_width * attribute_count es ≤ room l before)

abbrev pub SomeTooMany : Lent → Settings → (s before : List ℕ) → Type 0
SomeTooMany l c s before =
    (es : List Element) × Accepts c s es × (room l before < attribute_width * attribute_count es)

-- Refused as the judge refuses where it has room for all records, or 19.
abbrev pub RefusedAs : Lent → Settings → (s before : List ℕ) → Answer → Type 0
RefusedAs l c s before a = Refuses c s most_records a ⊎ (SomeTooMany l c s before × (a ≡ refusal 19 0 0 0))

-- An accepted call gives nine numbers for each attribute of the elements that the rules accept, and how many
-- attributes there are.
pub record ListAcceptance (l : Lent) (c : Settings) (s before : List ℕ) (a : Answer) (after : List ℕ) : Type 0
  where
    pub elements : List Element
    pub accepted : Accepts c s elements
    pub fits : attribute_width * attribute_count elements ≤ room l before
    pub answer : a ≡ acceptance (attribute_count elements)
    pub written : after ≡ filled_with (standing l (list_numbers 1 elements)) before

-- The call, lent `before`, answers a to the type file s under the settings c and leaves `after`.
pub record ListKeeps (l : Lent) (c : Settings) (s before : List ℕ) (a : Answer) (after : List ℕ) : Type 0
  where
    -- Demand 1, as for the judge.
    pub refusal_whole : (a.number ≡ 0 → ⊥) → Refusal s before a after
    pub same_length : length after ≡ length before
    -- Demand 2: accepted exactly where the rules accept the type and the numbers fit, with exactly these
    -- numbers; refused as the judge refuses where it has room for all records; "19 only where nothing else is
    -- wrong, and exactly if the numbers don't fit".
    pub accepted_exactly : (a.number ≡ 0) ↔ SomeFit l c s before
    pub acceptance_whole : a.number ≡ 0 → ListAcceptance l c s before a after
    pub refused_exactly : (a.number ≡ 0 → ⊥) ↔ RefusedAs l c s before a
    pub order_picks : (b : Answer) → Refuses c s most_records b → a ≡ b
    pub too_small_exactly : (a.number ≡ 19) ↔ SomeTooMany l c s before
    -- Paper 02, request six, as for the judge.
    pub not_offered_lem : is_offered c ≡ false → a ≡ refusal 24 0 0 0
    pub not_offered_exactly : (a.number ≡ 24) ↔ (is_offered c ≡ false)

-- A judge with room for all records: a refusal of the list is its refusal, and a type that the list accepts
-- it accepts.
abbrev roomy : List ℕ
roomy = replicate most_records 0

roomy_room : room Lent.numbers roomy ≡ most_records
roomy_room = length-replicate {A = ℕ} most_records 0

module _ {c : Settings} {s : List ℕ} where
  refused_so : {a : Answer} → Refuses c s most_records a → Judged Lent.numbers c s roomy a (zeroed roomy)
  refused_so {a} r = Judged.refuses (rw roomy_room r) refl

  accepted_so : (es : List Element) → Accepts c s es
      → Judged Lent.numbers c s roomy (acceptance (length es)) (filled_with (records es) roomy)
  accepted_so es w =
      Judged.accepts es w (omega (arith, roomy_room, type_file_count c.name_length s es w.elements)) refl refl

  -- A type is not both refused and accepted, and is refused in one way.
  not_both : {a : Answer} {es : List Element} → Refuses c s most_records a → Accepts c s es → ⊥
  not_both {a} {es} r w =
      refuses_some r (ap (λ (x : Answer). x.number) (settled_one (refused_so r) (accepted_so es w)).0)

  refused_once : {a b : Answer} → Refuses c s most_records a → Refuses c s most_records b → a ≡ b
  refused_once r q = (settled_one (refused_so r) (refused_so q)).0

  accepted_once : {es fs : List Element} → Accepts c s es → Accepts c s fs → es ≡ fs
  accepted_once {es} {fs} w v = same_elements c s es fs w.elements v.elements

  -- 19 is no refusal of a judge with such room.
  not_nineteen : {a : Answer} → Refuses c s most_records a → a.number ≡ 19 → ⊥
  not_nineteen r h =
      let (es, w, f) = settled_nineteen (refused_so r) h in
      omega (arith, f, roomy_room, type_file_count c.name_length s es w.elements)

module _ (l : Lent) (c : Settings) (s before : List ℕ) where
  -- The same elements have the same attributes.
  count_once : {es fs : List Element} → Accepts c s es → Accepts c s fs
      → attribute_count es ≡ attribute_count fs
  count_once w v = ap attribute_count (accepted_once w v)

  abbrev numbers_of : List Element → List ℕ
  numbers_of es = filled_with (standing l (list_numbers 1 es)) before

  pub listed_one : (a b : Answer) (after other : List ℕ) → Lists l c s before a after
      → Lists l c s before b other → (a ≡ b) × (after ≡ other)
  listed_one a b after other (Lists.refuses r z) (Lists.refuses q y) = (refused_once r q, z ∙ sym y)
  listed_one a b after other (Lists.refuses r z) (Lists.no_room fs v g f y) = absurd (not_both r v)
  listed_one a b after other (Lists.refuses r z) (Lists.accepts fs v g f y) = absurd (not_both r v)
  listed_one a b after other (Lists.no_room es w h e z) (Lists.refuses q y) = absurd (not_both q w)
  listed_one a b after other (Lists.no_room es w h e z) (Lists.no_room fs v g f y) = (e ∙ sym f, z ∙ sym y)
  listed_one a b after other (Lists.no_room es w h e z) (Lists.accepts fs v g f y) =
      absurd (omega (arith, h, g, count_once w v))
  listed_one a b after other (Lists.accepts es w h e z) (Lists.refuses q y) = absurd (not_both q w)
  listed_one a b after other (Lists.accepts es w h e z) (Lists.no_room fs v g f y) =
      absurd (omega (arith, h, g, count_once w v))
  listed_one a b after other (Lists.accepts es w h e z) (Lists.accepts fs v g f y) =
      (e ∙ ap acceptance (count_once w v) ∙ sym f, z ∙ ap numbers_of (accepted_once w v) ∙ sym y)

  abbrev pub SomeListed : Type 0
  SomeListed = (a : Answer) × (after : List ℕ) × Lists l c s before a after

  pub listed_exists : SomeListed
  listed_exists = by_judge (judged_some Lent.numbers c s roomy)
    where
      by_room : (es : List Element) → Accepts c s es
          → Dec (room l before < attribute_width * attribute_count es) → SomeListed
      by_room es w (yes h) = (refusal 19 0 0 0, zeroed before, Lists.no_room es w h refl refl)
      by_room es w (no h) =
          (acceptance (attribute_count es), numbers_of es, Lists.accepts es w (omega arith) refl refl)

      by_judge : (a : Answer) × (after : List ℕ) × Judged Lent.numbers c s roomy a after → SomeListed
      by_judge (a, after, Judged.refuses r z) = (a, zeroed before, Lists.refuses (rw roomy_room at r) refl)
      by_judge (a, after, Judged.accepts es w f e z) =
          by_room es w (dec_lt (room l before) (attribute_width * attribute_count es))

  module _ (a : Answer) (after : List ℕ) where
    abbrev Is : Type 0
    Is = Lists l c s before a after

    refusal_of_lem : Is → (a.number ≡ 0 → ⊥) → Refusal s before a after
    refusal_of_lem (Lists.refuses r z) h =
        let (n, k, p, q, e, b, i, o) = refuses_named r in
        rw e (record { number = b; input = refl; position = i; places = o; count = refl; zeroed = z })
    refusal_of_lem (Lists.no_room es w f e z) h =
        rw e
        (record {
          number = inl refl;
          input = refl;
          position = omega arith;
          places = λ o. (refl, refl);
          count = refl;
          zeroed = z;
        })
    refusal_of_lem (Lists.accepts es w f e z) h = absurd (h (rw e))

    length_of : Is → length after ≡ length before
    length_of (Lists.refuses r z) = rw z (length-replicate (length before) 0)
    length_of (Lists.no_room es w f e z) = rw z (length-replicate (length before) 0)
    length_of (Lists.accepts es w f e z) =
        rw z (lent_length l (list_numbers 1 es) before (omega (arith, lists_length 1 es)))

    acceptance_of : Is → a.number ≡ 0 → ListAcceptance l c s before a after
    acceptance_of (Lists.refuses r z) h = absurd (refuses_some r h)
    acceptance_of (Lists.no_room es w f e z) h = absurd (omega (arith, rw e at h))
    acceptance_of (Lists.accepts es w f e z) h =
        record { elements = es; accepted = w; fits = f; answer = e; written = z }

    refused_is : Is → (a.number ≡ 0 → ⊥) → RefusedAs l c s before a
    refused_is (Lists.refuses r z) h = inl r
    refused_is (Lists.no_room es w f e z) h = inr ((es, w, f), e)
    refused_is (Lists.accepts es w f e z) h = absurd (h (rw e))

    refused_of : RefusedAs l c s before a → a.number ≡ 0 → ⊥
    refused_of (inl r) h = refuses_some r h
    refused_of (inr (w, e)) h = omega (arith, rw e at h)

    nineteen_of : Is → a.number ≡ 19 → SomeTooMany l c s before
    nineteen_of (Lists.refuses r z) h = absurd (not_nineteen r h)
    nineteen_of (Lists.no_room es w f e z) h = (es, w, f)
    nineteen_of (Lists.accepts es w f e z) h = absurd (omega (arith, rw e at h))

    four_of : Is → a.number ≡ 24 → is_offered c ≡ false
    four_of (Lists.refuses r z) h = settled_twenty_four (refused_so r) h
    four_of (Lists.no_room es w f e z) h = absurd (omega (arith, rw e at h))
    four_of (Lists.accepts es w f e z) h = absurd (omega (arith, rw e at h))

    one : Is → (b : Answer) (other : List ℕ) → Lists l c s before b other → a ≡ b
    one is b other q = (listed_one a b after other is q).0

    picks : Is → (b : Answer) → Refuses c s most_records b → a ≡ b
    picks is b r = one is b (zeroed before) (Lists.refuses r refl)

    pub list_keeps : Is → ListKeeps l c s before a after
    list_keeps is =
        record {
          refusal_whole = refusal_of_lem is;
          same_length = length_of is;
          accepted_exactly = (
            λ h. let w = acceptance_of is h in (w.elements, w.accepted, w.fits),
            λ (es, w, f). rw (one is _ _ (Lists.accepts es w f refl refl)),
          );
          acceptance_whole = acceptance_of is;
          refused_exactly = (refused_is is, refused_of);
          order_picks = picks is;
          too_small_exactly = (nineteen_of is, λ (es, w, f). rw (one is _ _ (Lists.no_room es w f refl refl)));
          not_offered_lem = λ o. picks is _ (Refuses.not_offered o refl);
          not_offered_exactly = (four_of is, λ o. rw (picks is _ (Refuses.not_offered o refl)));
        }

    -- `ListKeeps` says no less than the rules do.
    pub list_kept : ListKeeps l c s before a after → Is
    list_kept kept = go (ℕ_discrete a.number 0)
      where
        by_refusal : RefusedAs l c s before a → after ≡ zeroed before → Is
        by_refusal (inl r) z = Lists.refuses r z
        by_refusal (inr ((es, w, f), e)) z = Lists.no_room es w f e z

        go : Dec (a.number ≡ 0) → Is
        go (yes n) =
            let w = kept.acceptance_whole n in
            Lists.accepts w.elements w.accepted w.fits w.answer w.written
        go (no n) = by_refusal (kept.refused_exactly.0 n) (kept.refusal_whole n).zeroed
