-- Open elements, and how start tags, data, end tags and the document's end are settled (paper 01, "The document"), with refusals 11 to 16 and 18.
use Rattle.std.specs.Prelude.{ℕ, zero, suc, ◌-◌, Bool, true, false, ◌&&◌, List, [], ◌∷◌, ◌++◌, length, eqb, leb, ltb}
use Rattle.rules.specs.Bytes.{TAGLVL}
use Rattle.rules.specs.Reading.{Reading, refused, got, and_then}
use Rattle.rules.specs.Walk.{last_or0}
use Rattle.rules.specs.TypeFile.{Element}
use Rattle.rules.specs.Judge.{place_at}
use Rattle.rules.specs.Elements.{number_of, content_of, places_in, has_model, start_o, end_o}
use Rattle.rules.specs.Decisions.{Token, start, pcdata, Decisions}
use Rattle.rules.specs.Events.{Event, start_written, start_inferred, end_written, end_inferred, end_of_empty, with_data}

-- Open elements

-- An open element: which element it is, and the places taken in it.
pub record Open : Type 0 where
  pub element : ℕ
  pub taken : List ℕ

-- The current element, those around it from its parent outwards, the document itself (element 0) last, and the events so far.
-- So many elements are open as stand around the current one: each has a parent.
pub record State : Type 0 where
  pub current : Open
  pub around : List Open
  pub events : List Event

-- Nothing is open yet.
abbrev pub nothing_open : State
nothing_open = record { current = record { element = 0; taken = [] }; around = []; events = [] }

-- The current element takes the place p.
abbrev pub take_place : ℕ → State → State
take_place p z = record { current = record { element = z.current.element; taken = z.current.taken ++ p ∷ [] }; around = z.around; events = z.events }

-- "The place they took in their parent's model, 0 for the document element" (paper 02, request seven): the parent of the document element is
-- the document itself, element 0, whose one place stands in no model of the type file.
abbrev pub shown : (parent place : ℕ) → ℕ
shown k p = elim (eqb k 0) [ true ↦ 0 | false ↦ p ]

-- The place of what has just taken one in o: the last that was taken there.
abbrev pub place_taken : Open → ℕ
place_taken o = shown o.element (last_or0 o.taken)

-- The element number k is opened in the current one.
abbrev pub enter : ℕ → State → State
enter k z = record { current = record { element = k; taken = [] }; around = z.current ∷ z.around; events = z.events }

abbrev pub note : Event → State → State
note e z = record { current = z.current; around = z.around; events = z.events ++ e ∷ [] }

-- Number 15, "more than 24 open", at the token.
unfoldable pub limited : ℕ → State → Reading State
limited at z = elim (ltb TAGLVL (length z.around)) [ true ↦ refused 15 at | false ↦ got z ]

-- The number of the element declared by the name of the place p of o, 0 if none is.
abbrev pub element_of : List ℕ → List Element → Open → ℕ → ℕ
element_of s es o p =
    let x = place_at (places_in (content_of es o.element)) (p - 1) in
    number_of s es s x.at x.size

-- The element number k is among these.
unfoldable pub is_open : ℕ → List Open → Bool
is_open k [] = false
is_open k (o ∷ os) = elim (eqb o.element k) [ true ↦ true | false ↦ is_open k os ]

-- What becomes of a token in the current element and in what may be inferred there.
pub data Inward : Type 0 where
  settled : State → Inward
  stuck : Inward

-- Settling, under the type file s with the elements es
module _ (s : List ℕ) (es : List Element) (D : Decisions) where
  abbrev pub fitting : Open → Token → ℕ
  fitting o t = D.fits o.element o.taken t

  abbrev pub is_complete : Open → Bool
  is_complete o = D.complete o.element o.taken

  abbrev pub required_place : Open → ℕ
  required_place o = D.required o.element o.taken

  -- The element that o requires next, if its start may be inferred: it is "declared, with start "O" and a model"; else 0.
  unfoldable pub inferable : Open → ℕ
  inferable o =
      let p = required_place o in
      let k = element_of s es o p in
      elim (leb 1 p && (leb 1 k && (start_o es k && has_model (content_of es k)))) [ true ↦ k | false ↦ 0 ]

  -- "A chain of elements, the first at the required place, each later one required at the start of the one before, all declared, with start
  -- "O" and a model, and the token fits at the start of the last": their numbers, none if there is no chain. At most one place is required,
  -- so the chain goes on in one way only; the shortest comes to no element twice, so it has at most as many as there are elements.
  unfoldable pub chain : (left : ℕ) → Token → Open → List ℕ
  chain zero t o = []
  chain (suc left) t o =
      let k = inferable o in
      let first : Open = record { element = k; taken = [] } in
      elim (leb 1 k) [
        | true ↦ elim (leb 1 (fitting first t)) [ true ↦ k ∷ [] | false ↦ elim (chain left t first) [ [] ↦ [] | j ∷ js ↦ k ∷ j ∷ js ] ]
        | false ↦ []
      ]

  -- The starts of a chain are inferred, one in the other.
  unfoldable pub infer_starts : (at : ℕ) → List ℕ → State → State
  infer_starts at [] z = z
  infer_starts at (k ∷ ks) z =
      let y = take_place (required_place z.current) z in
      infer_starts at ks (note (start_inferred k at (place_taken y.current)) (enter k y))

  -- The current element takes the place as which the token fits.
  abbrev pub take_token : Token → State → State
  take_token t z = take_place (fitting z.current t) z

  -- "1. If it fits as the next place, take it. 2. Else, if there is a chain of elements ..: infer those starts, shortest chain."
  unfoldable pub inward : Token → (at : ℕ) → State → Inward
  inward t at z =
      elim (leb 1 (fitting z.current t)) [
        | true ↦ settled (take_token t z)
        | false ↦ elim (chain (length es) t z.current) [ [] ↦ stuck | k ∷ ks ↦ settled (take_token t (infer_starts at (k ∷ ks) z)) ]
      ]

  -- "3. Else, if the content is complete, its end is "O" and it isn't the document element: infer its end and begin again at its parent.
  -- 4. Else refuse." The parent of the document element is the document itself, number 0.
  unfoldable pub settle_from : Token → (at : ℕ) → List Open → Open → List Event → Reading State
  settle_from t at [] o ev = elim (inward t at (record { current = o; around = []; events = ev })) [ settled z ↦ got z | stuck ↦ refused 12 at ]
  settle_from t at (u ∷ around) o ev =
      elim (inward t at (record { current = o; around = u ∷ around; events = ev })) [
        | settled z ↦ got z
        | stuck ↦ elim (is_complete o && (end_o es o.element && leb 1 u.element)) [
          | true ↦ settle_from t at around u (ev ++ end_inferred o.element at ∷ [])
          | false ↦ refused 12 at
        ]
      ]

  -- The document element is there and has ended.
  abbrev pub is_over : State → Bool
  is_over z = eqb z.current.element 0 && is_complete z.current

  -- Number 16, "start tag or data after the document element", before 12.
  unfoldable pub settle : Token → (at : ℕ) → State → Reading State
  settle t at z = elim (is_over z) [ true ↦ refused 16 at | false ↦ settle_from t at z.around z.current z.events ]

  -- The start tag, from `at` to `after`, of the element number k. "An EMPTY element is open for an instant and counts toward 24."
  unfoldable pub start_element : (k at after : ℕ) → State → Reading State
  start_element k at after z =
      and_then (settle (start k) at z) λ y.
      and_then (limited at (enter k y)) λ x.
      elim (has_model (content_of es k)) [
        | true ↦ got (note (start_written k at after (place_taken y.current)) x)
        | false ↦ got (note (end_of_empty k after) (note (start_written k at after (place_taken y.current)) y))
      ]

  -- The data byte at `at`.
  unfoldable pub take_data : (at : ℕ) → State → Reading State
  take_data at z =
      and_then (settle pcdata at z) λ y.
      and_then (limited at y) λ x.
      got (record { current = x.current; around = x.around; events = with_data at x.events })

  -- "Bytes 9, 13 and 32 are data where `#PCDATA` may come next in the current element, and ignored elsewhere."
  unfoldable pub take_blank : (at : ℕ) → State → Reading State
  take_blank at z = elim (leb 1 (fitting z.current pcdata)) [ true ↦ take_data at z | false ↦ got z ]

  -- An end tag or the document's end at `at` infers the end of o, which "must be complete with end "O"": "13 comes before 14".
  unfoldable pub end_left_out : (at : ℕ) → Open → Reading Event
  end_left_out at o =
      elim (is_complete o) [
        | true ↦ elim (end_o es o.element) [ true ↦ got (end_inferred o.element at) | false ↦ refused 14 at ]
        | false ↦ refused 13 at
      ]

  -- "An end tag closes the innermost open element of its name; those inside it must be complete with end "O" and are inferred ended; the
  -- named one must be complete."
  unfoldable pub close_from : (k at after : ℕ) → List Open → Open → List Event → Reading State
  close_from k at after [] o ev = refused 11 at
  close_from k at after (u ∷ around) o ev =
      elim (eqb o.element k) [
        | true ↦ elim (is_complete o) [
          | true ↦ got (record { current = u; around = around; events = ev ++ end_written k at after ∷ [] })
          | false ↦ refused 13 at
        ]
        | false ↦ and_then (end_left_out at o) λ e. close_from k at after around u (ev ++ e ∷ [])
      ]

  -- Number 11, "end tag, no such element open", before 13 and 14.
  unfoldable pub end_element : (k at after : ℕ) → State → Reading State
  end_element k at after z =
      elim (is_open k (z.current ∷ z.around)) [ true ↦ close_from k at after z.around z.current z.events | false ↦ refused 11 at ]

  -- "The end of the document does the same for all that are open, the document element included." Number 18, "no document element". `at` is the
  -- document's length.
  unfoldable pub end_from : (at : ℕ) → List Open → Open → List Event → Reading (List Event)
  end_from at [] o ev = elim (is_complete o) [ true ↦ got ev | false ↦ refused 18 at ]
  end_from at (u ∷ around) o ev = and_then (end_left_out at o) λ e. end_from at around u (ev ++ e ∷ [])

  unfoldable pub end_document : (at : ℕ) → State → Reading (List Event)
  end_document at z = end_from at z.around z.current z.events
