-- What settling does to the open elements and to what came in them, by what `acts` says of it: an element is opened in the place that it takes, one that is EMPTY comes and
-- goes, or one is closed. A data byte then takes its place, and is added last.
use Rattle.std.specs.Prelude.{ℕ, ◌≤◌, ◌≡◌, refl, true, false, List, [], ◌∷◌, ◌++◌, length, drop, eqb}
use Rattle.std.proofs.Common.{sym, ◌∙◌, ap, append_assoc, append-nil}
use Rattle.std.proofs.Math.Path.{subst}
use Rattle.std.proofs.Math.Seq.{drop-append_seam}
use Rattle.rules.specs.TypeFile.{Element}
use Rattle.rules.specs.Decisions.{Token, start, pcdata, Decisions}
use Rattle.rules.specs.Events.{Event, start_written, start_inferred, end_written, end_inferred, end_of_empty, with_data}
use Rattle.rules.specs.Settling.{Open, State, take_place, place_taken, enter, note, fitting, required_place, take_token, end_document}
use Rattle.rules.specs.Records.{is_end}
use Rattle.rules.specs.RecordEnds.{Contents, begun, over, Sort, starts, ends, sort, after_sort, after_events, new_in}
use Rattle.rules_laws.specs.Holds.{Gives, so}
use Rattle.document_laws.specs.Moves.{state}
use Rattle.acts.specs.Settled.{Ended, all_ended, ends_then, Started, all_started, starts_then, Tagged, opened, passed, Datum, end_document_closed}
use Rattle.acts.specs.Settled.{Comes as Settles, Closes as Closed}

-- An event that starts an element, one that ends it, and the end of an EMPTY element.
pub record Begins (e : Event) : Type 0 where
  pub sorted : sort e ≡ starts
  pub no_end : is_end e ≡ false
  pub no_data : eqb e.kind 5 ≡ false

pub record Closes (e : Event) : Type 0 where
  pub sorted : sort e ≡ ends
  pub an_end : is_end e ≡ true
  pub no_data : eqb e.kind 5 ≡ false

pub record Vanishes (e : Event) : Type 0 where
  pub sorted : sort e ≡ ends
  pub no_end : is_end e ≡ false
  pub no_data : eqb e.kind 5 ≡ false

-- One step, from the state z, where k has come, to the state y, where j has.
pub data Step : State → Contents → State → Contents → Type 0 where
  opens : {z : State} {k : Contents} (p n : ℕ) (e : Event) → Begins e → Step z k (note e (enter n (take_place p z))) (begun k)
  passes : {z : State} {k : Contents} (p : ℕ) (e f : Event) → Begins e → Vanishes f → Step z k (note f (note e (take_place p z))) (over (begun k))
  closes : {z : State} {k : Contents} (u : Open) (us : List Open) (e : Event) → z.around ≡ u ∷ us → Closes e → Step z k (state u us (z.events ++ e ∷ [])) (over k)

-- Steps one after another.
pub data Moves : State → Contents → State → Contents → Type 0 where
  still : {z : State} {k : Contents} → Moves z k z k
  first : {z y x : State} {k j i : Contents} → Step z k y j → Moves y j x i → Moves z k x i

pub moves_then : {z y x : State} {k j i : Contents} → Moves z k y j → Moves y j x i → Moves z k x i
moves_then still n = n
moves_then (first h m) n = first h (moves_then m n)

-- What every step keeps.
pub moves_keep : (P : State → Contents → Type 0) → ((z y : State) (k j : Contents) → Step z k y j → P z k → P y j) → {z y : State} {k j : Contents} → Moves z k y j → P z k → P y j
moves_keep P f still p = p
moves_keep P f {z} {k = k} (first {y = y} {j = j} h m) p = moves_keep P f m (f z y k j h p)

-- The events that were added, and what they do to the contents.
pub record Adds (z : State) (k : Contents) (y : State) (j : Contents) : Type 0 where
  pub new : List Event
  pub adds : y.events ≡ z.events ++ new
  pub moved : j ≡ after_events new k

pub after_append : (x y : List Event) (k : Contents) → after_events (x ++ y) k ≡ after_events y (after_events x k)
unfolding after_events
after_append [] y k = refl
after_append (e ∷ x) y k = after_append x y (after_sort (sort e) k)

after_one : (e : Event) (o : Sort) (k : Contents) → sort e ≡ o → after_sort o k ≡ after_events (e ∷ []) k
unfolding after_events
after_one e o k q = ap (λ (x : Sort). after_sort x k) (sym q)

after_two : (e f : Event) (k : Contents) → sort e ≡ starts → sort f ≡ ends → over (begun k) ≡ after_events (e ∷ f ∷ []) k
unfolding after_events
after_two e f k q r = ap (λ (x : Sort). after_sort x (begun k)) (sym r) ∙ ap (λ (x : Sort). after_sort (sort f) (after_sort x k)) (sym q)

step_adds : {z y : State} {k j : Contents} → Step z k y j → Adds z k y j
step_adds {k = k} (opens p n e b) = record { new = e ∷ []; adds = refl; moved = after_one e starts k b.sorted }
step_adds {z} {k = k} (passes p e f b v) = record { new = e ∷ f ∷ []; adds = append_assoc z.events (e ∷ []) (f ∷ []); moved = after_two e f k b.sorted v.sorted }
step_adds {k = k} (closes u us e q c) = record { new = e ∷ []; adds = refl; moved = after_one e ends k c.sorted }

pub moves_adds : {z y : State} {k j : Contents} → Moves z k y j → Adds z k y j
unfolding after_events
moves_adds {z} still = record { new = []; adds = sym (append-nil z.events); moved = refl }
moves_adds {z} {k = k} (first h m) =
    let v = step_adds h in
    let w = moves_adds m in
    record {
      new = v.new ++ w.new;
      adds = w.adds ∙ ap (λ (l : List Event). l ++ w.new) v.adds ∙ append_assoc z.events v.new w.new;
      moved = w.moved ∙ ap (after_events w.new) v.moved ∙ sym (after_append v.new w.new k);
    }

-- The contents are those after the new events.
pub moves_new : {z y : State} {k j : Contents} → Moves z k y j → j ≡ after_events (new_in z.events y.events) k
moves_new {z} {y} {k} m =
    let w = moves_adds m in
    w.moved ∙ ap (λ (n : List Event). after_events n k) (sym (ap (drop (length z.events)) w.adds ∙ drop-append_seam z.events w.new))

-- Settling

-- A state that moves lead to.
record Leads (z : State) (k : Contents) (y : State) : Type 0 where
  contents : Contents
  moves : Moves z k y contents

-- A state that moves lead to, and one step at least.
pub record Comes (z : State) (k : Contents) (y : State) : Type 0 where
  pub here : State
  pub before : Contents
  pub moves : Moves z k here before
  pub contents : Contents
  pub last : Step here before y contents

-- A state that moves lead to and in which the place F is taken; where that is the document itself, there is such a place.
pub record Takes (F : Open → ℕ) (z : State) (k : Contents) (y : State) : Type 0 where
  pub here : State
  pub contents : Contents
  pub moves : Moves z k here contents
  pub taken : y ≡ take_place (F here.current) here
  pub fits : here.around ≡ [] → 1 ≤ F here.current

-- Of the document's end: the events, where only the document itself is left.
pub record Over (z : State) (k : Contents) (ev : List Event) : Type 0 where
  pub last : State
  pub contents : Contents
  pub moves : Moves z k last contents
  pub events : last.events ≡ ev
  pub around : last.around ≡ []

begins_written : (k at after p : ℕ) → Begins (start_written k at after p)
begins_written k at after p = record { sorted = refl; no_end = refl; no_data = refl }

begins_inferred : (k at p : ℕ) → Begins (start_inferred k at p)
begins_inferred k at p = record { sorted = refl; no_end = refl; no_data = refl }

closes_written : (k at after : ℕ) → Closes (end_written k at after)
closes_written k at after = record { sorted = refl; an_end = refl; no_data = refl }

closes_inferred : (k at : ℕ) → Closes (end_inferred k at)
closes_inferred k at = record { sorted = refl; an_end = refl; no_data = refl }

vanishes_empty : (k after : ℕ) → Vanishes (end_of_empty k after)
vanishes_empty k after = record { sorted = refl; no_end = refl; no_data = refl }

pub comes_moves : {z y : State} {k : Contents} (t : Comes z k y) → Moves z k y t.contents
comes_moves t = moves_then t.moves (first t.last still)

leads_behind : {z y x : State} {k j : Contents} → Moves z k y j → Leads y j x → Leads z k x
leads_behind m t = record { contents = t.contents; moves = moves_then m t.moves }

module _ (s : List ℕ) (es : List Element) (D : Decisions) where
  -- Ends that are inferred close elements, starts open them.
  ended_leads : (at : ℕ) {z y : State} → Ended s es D at z y → (k : Contents) → Leads z k y
  ended_leads at all_ended k = record { contents = k; moves = still }
  ended_leads at {z} (ends_then u us e c o r) k =
      leads_behind (first (closes u us (end_inferred z.current.element at) e (closes_inferred z.current.element at)) still) (ended_leads at r (over k))

  started_leads : (at : ℕ) {z y : State} → Started s es D at z y → (k : Contents) → Leads z k y
  started_leads at all_started k = record { contents = k; moves = still }
  started_leads at {z} (starts_then n e l r) k =
      let p = required_place s es D z.current in
      let y = take_place p z in
      leads_behind (first (opens p n (start_inferred n at (place_taken y.current)) (begins_inferred n at (place_taken y.current))) still) (started_leads at r (begun k))

  -- The place as which a token fits.
  abbrev pub place_for : Token → Open → ℕ
  place_for t o = fitting s es D o t

  settled_takes : {t : Token} {at : ℕ} {z y : State} → Settles s es D t at z y → (k : Contents) → Takes (place_for t) z k y
  settled_takes {at = at} c k =
      let v = ended_leads at c.ended k in
      let w = started_leads at c.started v.contents in
      record { here = c.here; contents = w.contents; moves = moves_then v.moves w.moves; taken = c.taken; fits = λ h. c.fits }

  -- A start tag opens its element, or it comes and goes.
  module _ (n at after : ℕ) (z : State) (k : Contents) where
    written : State → Event
    written y = start_written n at after (place_taken y.current)

    pub tagged_comes : {x : State} → Tagged s es D n at after z x → Comes z k x
    unfolding written
    tagged_comes (opened {y} c f m) =
        let h = settled_takes c k in
        record {
          here = h.here;
          before = h.contents;
          moves = h.moves;
          contents = begun h.contents;
          last = subst (λ (w : State). Step h.here h.contents (note (written y) w) (begun h.contents)) (sym (ap (enter n) h.taken)) (opens (place_for (start n) h.here.current) n (written y) (begins_written n at after (place_taken y.current)));
        }
    tagged_comes (passed {y} c f m) =
        let h = settled_takes c k in
        record {
          here = h.here;
          before = h.contents;
          moves = h.moves;
          contents = over (begun h.contents);
          last = subst (λ (w : State). Step h.here h.contents (note (end_of_empty n after) (note (written y) w)) (over (begun h.contents))) (sym h.taken) (passes (place_for (start n) h.here.current) (written y) (end_of_empty n after) (begins_written n at after (place_taken y.current)) (vanishes_empty n after));
        }

  -- A data byte: the events of the state where it takes its place, and then it.
  abbrev pub Data : (at : ℕ) → State → Contents → State → Type 0
  Data at z k y = (w : State) × Takes (place_for pcdata) z k w × (y ≡ state w.current w.around (with_data at w.events))

  pub datum_data : (at : ℕ) (z : State) (k : Contents) {x : State} → Datum s es D at z x → Data at z k x
  datum_data at z k r = (r.place, settled_takes r.comes k, r.is)

  -- The state behind a data byte that fits in the current element.
  abbrev pub data_taken : (at : ℕ) → State → State
  data_taken at z = state (take_token s es D pcdata z).current z.around (with_data at z.events)

  -- An end tag and the document's end close elements.
  pub closed_comes : (n at after : ℕ) (z : State) (k : Contents) {y : State} → Closed s es D n at after z y → Comes z k y
  closed_comes n at after z k r =
      let w = ended_leads at r.ended k in
      record {
        here = r.here;
        before = w.contents;
        moves = w.moves;
        contents = over w.contents;
        last = subst (λ (v : State). Step r.here w.contents v (over w.contents)) (sym r.is) (closes r.outer r.outers (end_written n at after) r.inside (closes_written n at after));
      }

  pub document_over : (at : ℕ) (z : State) (k : Contents) → Gives (Over z k) (end_document s es D at z)
  document_over at z k =
      so (end_document_closed s es D at z) (λ m p i. i)
      (λ ev r.
      let w = ended_leads at r.ended k in
      record { last = r.last; contents = w.contents; moves = w.moves; events = r.events; around = r.nothing })
