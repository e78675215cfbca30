-- Every reading is a sequence of acts: what is settled, closed and ended by the rules, act by act, with at most 24 open in each state passed.
use Rattle.std.specs.Prelude.{ℕ, ◌≤◌, ◌≡◌, true, false, List, [], ◌∷◌, ◌++◌, length}
use Rattle.std.proofs.Common.{sym, ◌∙◌, ap, subst, arith, leb-true}
use Rattle.rules.specs.Settings.{Settings}
use Rattle.rules.specs.Bytes.{TAGLVL}
use Rattle.rules.specs.Reading.{got}
use Rattle.rules.specs.TypeFile.{Element}
use Rattle.rules.specs.Document.{Piece}
use Rattle.rules.specs.Elements.{content_of, has_model}
use Rattle.rules.specs.Decisions.{Token, start, pcdata, Decisions}
use Rattle.rules.specs.Events.{Event, start_written, end_written, end_of_empty}
use Rattle.rules.specs.Given.{with_attributes}
use Rattle.rules.specs.Settling.{Open, State, nothing_open, place_taken, enter, note, is_complete, take_token, start_element, take_data, end_element, end_document}
use Rattle.rules.specs.Records.{Line, records_settled}
use Rattle.rules.specs.Reader.{Reached, settle_piece, document}
use Rattle.rules.specs.Acts.{Declared, starts, empties, infers, data_byte_lem, infers_end, ends, Acts, still, next, Passes, begins, goes, Few}
use Rattle.rules_laws.specs.Holds.{Gives, so, got_so}
use Rattle.document_laws.specs.Moves.{state, with_datum, document_came}
use Rattle.acts.specs.Sequences.{acts_then, acts_last}
use Rattle.acts.specs.Settled.{Ended, all_ended, ends_then, Started, all_started, starts_then, Comes, Tagged, opened, passed, noted_tagged, start_element_tagged, Datum, take_data_datum, Closes, end_element_closes, end_document_closed}
use Rattle.acts.specs.Settled.{start_noted}
use Rattle.acts.specs.Pieces.{PieceSettled, start_tag_lem, end_tag_lem, passed_over, blank_data, no_data_lem, byte, settle_piece_settled}

-- At most n are open.
abbrev Within : ℕ → State → Type 0
Within n z = length z.around ≤ n

module _ (s : List ℕ) (es : List Element) (D : Decisions) where
  -- What is inferred

  -- Ends leave fewer open, starts more.
  ended_acts : (n at : ℕ) {z y : State} → Ended s es D at z y → length z.around ≤ n → Acts s es D (Within n) z y
  ended_acts n at {z} all_ended h = still {z = z} h
  ended_acts n at {z} (ends_then u us e c o r) h = next {z = z} h (infers_end u us at e c o) (ended_acts n at r (omega (arith, ap (λ (l : List Open). length l) e)))

  started_deeper : (at : ℕ) {z y : State} → Started s es D at z y → length z.around ≤ length y.around
  started_deeper at all_started = omega arith
  started_deeper at (starts_then k e l r) = omega (arith, started_deeper at r)

  started_acts : (n at : ℕ) {z y : State} → Started s es D at z y → length y.around ≤ n → Acts s es D (Within n) z y
  started_acts n at {z} all_started h = still {z = z} h
  started_acts n at {z} (starts_then k e l r) h = next {z = z} (omega (arith, started_deeper at r)) (infers k at e l) (started_acts n at r h)

  -- Tokens

  module _ {t : Token} {at : ℕ} {z y : State} (c : Comes s es D t at z y) where
    -- The state where the token fits is as deep as the one where it is taken.
    here_deep : length c.here.around ≡ length y.around
    here_deep = sym (ap (λ (w : State). length w.around) c.taken)

    here_acts : Few z → Few y → Acts s es D Few z c.here
    here_acts f l = acts_then (ended_acts TAGLVL at c.ended f) (started_acts TAGLVL at c.started (omega (arith, here_deep)))

  opened_acts : (k at after : ℕ) {z y : State} → Few z → Declared es k → Comes s es D (start k) at z y → Few (enter k y) → has_model (content_of es k) ≡ true → Acts s es D Few z (note (start_written k at after (place_taken y.current)) (enter k y))
  opened_acts k at after {z} f d c l m =
      acts_then (here_acts c f (omega arith))
      (subst (λ (w : State). Acts s es D Few c.here (note (start_written k at after (place_taken w.current)) (enter k w))) (sym c.taken)
      (next {z = c.here} (omega (arith, here_deep c)) (starts k at after d c.fits m) (still {z = note (start_written k at after (place_taken (take_token s es D (start k) c.here).current)) (enter k (take_token s es D (start k) c.here))} (omega (arith, here_deep c)))))

  passed_acts : (k at after : ℕ) {z y : State} → Few z → Declared es k → Comes s es D (start k) at z y → Few (enter k y) → has_model (content_of es k) ≡ false → Acts s es D Few z (note (end_of_empty k after) (note (start_written k at after (place_taken y.current)) y))
  passed_acts k at after {z} f d c l m =
      acts_then (here_acts c f (omega arith))
      (subst (λ (w : State). Acts s es D Few c.here (note (end_of_empty k after) (note (start_written k at after (place_taken w.current)) w))) (sym c.taken)
      (next {z = c.here} (omega (arith, here_deep c)) (empties k at after d c.fits m (omega (arith, here_deep c)))
      (still {z = note (end_of_empty k after) (note (start_written k at after (place_taken (take_token s es D (start k) c.here).current)) (take_token s es D (start k) c.here))} (omega (arith, here_deep c)))))

  tagged_acts : (k at after : ℕ) {z x : State} → Few z → Declared es k → Tagged s es D k at after z x → Acts s es D Few z x
  tagged_acts k at after f d (opened c l m) = opened_acts k at after f d c l m
  tagged_acts k at after f d (passed c l m) = passed_acts k at after f d c l m

  -- A start tag that has its place in y is noted, and its element opened, or over at once.
  pub noted_acts : (k at after : ℕ) (z y : State) → Declared es k → Few z → Comes s es D (start k) at z y
      → Gives (Acts s es D Few z) (start_noted s es D k at after y)
  noted_acts k at after z y d f c = so (noted_tagged s es D k at after z y c) (λ n j i. i) (λ x r. tagged_acts k at after f d r)

  pub start_element_acts : (k at after : ℕ) (z : State) → Declared es k → Few z → Gives (Acts s es D Few z) (start_element s es D k at after z)
  start_element_acts k at after z d f = so (start_element_tagged s es D k at after z) (λ n j i. i) (λ x r. tagged_acts k at after f d r)

  datum_acts : (at : ℕ) {z x : State} → Few z → Datum s es D at z x → Acts s es D Few z x
  datum_acts at {z} f r =
      let c = r.comes in
      acts_then (here_acts c f r.few)
      (subst (λ (w : State). Acts s es D Few c.here w) (ap (with_datum at) (sym c.taken) ∙ sym r.is)
      (next {z = c.here} (omega (arith, here_deep c, r.few)) (data_byte_lem at c.fits) (still {z = with_datum at (take_token s es D pcdata c.here)} (omega (arith, here_deep c, r.few)))))

  pub take_data_acts : (at : ℕ) (z : State) → Few z → Gives (Acts s es D Few z) (take_data s es D at z)
  take_data_acts at z f = so (take_data_datum s es D at z) (λ n j i. i) (λ x r. datum_acts at f r)

  -- Ends

  closed_acts : (k at after : ℕ) {z y : State} → Few z → Closes s es D k at after z y → Acts s es D Few z y
  closed_acts k at after f r =
      let a = ended_acts TAGLVL at r.ended f in
      let w = state r.outer r.outers (r.here.events ++ end_written r.here.current.element at after ∷ []) in
      acts_then a
      (subst (λ (v : State). Acts s es D Few r.here v) (ap (λ (n : ℕ). state r.outer r.outers (r.here.events ++ end_written n at after ∷ [])) r.named ∙ sym r.is)
      (next {z = r.here} (acts_last a) (ends r.outer r.outers at after r.inside r.complete) (still {z = w} (omega (arith, acts_last a, ap (λ (l : List Open). length l) r.inside)))))

  pub end_element_acts : (k at after : ℕ) (z : State) → Few z → Gives (Acts s es D Few z) (end_element s es D k at after z)
  end_element_acts k at after z f = so (end_element_closes s es D k at after z) (λ n j i. i) (λ y r. closed_acts k at after f r)

  -- The document has ended: all that was open is closed, and the document itself is complete.
  pub record Over (z : State) (ev : List Event) : Type 0 where
    pub last : State
    pub acts : Acts s es D Few z last
    pub nothing : last.around ≡ []
    pub complete : is_complete s es D last.current ≡ true
    pub events : last.events ≡ ev

  pub end_document_acts : (at : ℕ) (z : State) → Few z → Gives (Over z) (end_document s es D at z)
  end_document_acts at z f =
      so (end_document_closed s es D at z) (λ n j i. i) (λ ev r. record { last = r.last; acts = ended_acts TAGLVL at r.ended f; nothing = r.nothing; complete = r.complete; events = r.events })

  -- Pieces

  module _ (d : List ℕ) where
    piece_acts : {p : Piece} {at : ℕ} {z : State} {r : Reached} → Few z → PieceSettled s es D at z p r → Acts s es D Few z r.state
    piece_acts {at = at} f (start_tag_lem {t} k l a) = tagged_acts k at t.after f l a
    piece_acts {at = at} f (end_tag_lem {t} k l a) = closed_acts k at t.after f a
    piece_acts f passed_over = still f
    piece_acts {at = at} {z} f (blank_data h i few) =
        subst (λ (w : State). Acts s es D Few z w) (sym i) (next {z = z} f (data_byte_lem at (leb-true 1 _ h)) (still {z = with_datum at (take_token s es D pcdata z)} few))
    piece_acts f (no_data_lem h) = still f
    piece_acts {at = at} f (byte a) = datum_acts at f a

    pub settle_piece_acts : (p : Piece) (at : ℕ) (z : State) → Few z → Gives (λ (r : Reached). Acts s es D Few z r.state) (settle_piece s es D d p at z)
    settle_piece_acts p at z f = so (settle_piece_settled s es D d p at z) (λ n k i. i) (λ r a. piece_acts f a)

    -- The states that reading comes to between pieces are such that acts lead to.
    pub passes_acts : {c : Settings} {at : ℕ} {l : Line} {z : State} → Passes c s es D d at l z → Acts s es D Few nothing_open z
    passes_acts begins = still {z = nothing_open} (omega arith)
    passes_acts (goes {at} {l} {z} {p} r h i e f) =
        let a = passes_acts h in
        acts_then a (got_so (settle_piece_acts p at z (acts_last a)) f)

    -- The events of a document are those that acts note, without the bytes 13 that are ignored as the last, and with attribute events before each start.
    pub record ActsOf (c : Settings) (ev : List Event) : Type 0 where
      pub noted : List Event
      pub over : Over nothing_open noted
      pub given : ev ≡ with_attributes c.name_length s es d (records_settled c d noted)

    -- Every document that is read is a sequence of acts, from nothing open to nothing open, with at most 24 open in each state passed.
    pub document_acts : (c : Settings) (ev : List Event) → document c s es D d ≡ got ev → ActsOf c ev
    document_acts c ev e =
        let x = document_came c s es D d ev e in
        let a = passes_acts x.end.passes in
        let o = got_so (end_document_acts (length d) x.end.there (acts_last a)) x.end.gives in
        record { noted = x.events; over = record { last = o.last; acts = acts_then a o.acts; nothing = o.nothing; complete = o.complete; events = o.events }; given = x.shown }
