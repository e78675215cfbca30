-- What follows once a token has its place: it is noted or refused, and an element with a model is opened.
use Rattle.std.specs.Prelude.{ℕ, zero, suc, ◌+◌, ◌-◌, ◌≤◌, ◌<◌, ◌≡◌, refl, Bool, true, false, List, [], ◌∷◌, ◌++◌, length, leb}
use Rattle.std.proofs.Common.{sym, ◌∙◌, ap, subst, append_assoc, arith, leb-true, leb-false, le-ltb, lt-ltb}
use Rattle.rules.specs.Reading.{refused, got}
use Rattle.rules.specs.TypeFile.{Element}
use Rattle.rules.specs.Elements.{content_of, has_model}
use Rattle.rules.specs.Decisions.{Token}
use Rattle.rules.specs.Events.{Event, start_written, data_run, end_of_empty}
use Rattle.rules.specs.Settling.{State, take_place, shown, place_taken, enter, limited}
use Rattle.rules.specs.Records.{due_run}
use Rattle.rules.specs.Bytes.{GRPGTCNT, TAGLVL, element_limit}
use Rattle.text.specs.declared.Refusal.TheVariants.{NotAllowedHere, TooDeep}
use Rattle.document_laws.specs.Decide.{decided}
use Rattle.document_laws.specs.Moves.{state, place_taken_took}
use Rattle.type_tables.specs.Tables.{name_number, Declares, Tables, CanTake}
use Rattle.open_elements.specs.declared.OpenElements.{OpenElements}
use Rattle.open_elements.specs.declared.Outcome.{Outcome}
use Rattle.open_elements.specs.Stands.{Ranged, Stands, Taking}
use Rattle.open_elements.specs.Becomes.{Got}
use Rattle.open_elements.specs.Methods.{stands_deep, stands_noted, stands_opening, ranged_taking, ranged_opening}
use Rattle.event_buffer.specs.Buffers.{noted, Puts}
use Rattle.event_buffer.specs.EventByEvent.{puts_none, puts_then}
use Rattle.ways.specs.declared.Way.{Way}
use Rattle.ways.specs.Asks.{token_of, token_of_number, token_of_declared, place_of}
use Rattle.placing.specs.Noting.{noting, Opens, written_of, shown_of, Writes, entering, PlacedGot, PlacedRefused, opened_by, Follows, Places}
use Rattle.basic_laws.specs.Truth.{not_both}
use Rattle.record_due.specs.Lists.{no_run, run_whole}

-- The limit of 24

pub limited_few : (at : ℕ) (z : State) → length z.around ≤ TAGLVL → limited at z ≡ got z
unfolding limited
limited_few at z l = rw (le-ltb TAGLVL (length z.around) l, limited)

limited_many : (at : ℕ) (z : State) → TAGLVL < length z.around → limited at z ≡ refused 15 at
unfolding limited
limited_many at z l = rw (lt-ltb TAGLVL (length z.around) l, limited)

-- What the rules make of the token in the state y

module _ (es : List Element) (at after : ℕ) (y : State) where
  -- The limit refuses one more wherever it refuses those that are open.
  pub noting_many : (x : ℕ) → TAGLVL < length y.around → noting es x at after y ≡ refused 15 at
  noting_many zero l = rw (limited_many at y l)
  noting_many (suc k) l = rw (limited_many at (enter (suc k) y) (omega arith))

  noting_full : (x : ℕ) → (x ≡ 0 → ⊥) → TAGLVL ≤ length y.around → noting es x at after y ≡ refused 15 at
  noting_full zero some l = absurd (some refl)
  noting_full (suc k) some l = rw (limited_many at (enter (suc k) y) (omega arith))

  noting_notes : (x : ℕ) (b : Bool) → length y.around ≤ TAGLVL → ((x ≡ 0 → ⊥) → (length y.around < TAGLVL) × (has_model (content_of es x) ≡ b))
      → noting es x at after y ≡ got (state (entering es x y).current (entering es x y).around (y.events ++ written_of x b (place_taken y.current) at after))
  noting_notes zero b l some = rw (limited_few at y l)
  noting_notes (suc k) true l some =
      let (less, model) = some (λ z. omega arith) in
      rw (limited_few at (enter (suc k) y) (omega arith), model, entering)
  noting_notes (suc k) false l some =
      let (less, empty) = some (λ z. omega arith) in
      let e = start_written (suc k) at after (place_taken y.current) in
      rw (limited_few at (enter (suc k) y) (omega arith), empty, entering) (ap (λ (ev : List Event). got (state y.current y.around ev)) (append_assoc y.events (e ∷ []) (end_of_empty (suc k) after ∷ [])))

-- What is entered: an element with a model.

module _ (es : List Element) (y : State) where
  entering_model : (x : ℕ) → (x ≡ 0 → ⊥) → has_model (content_of es x) ≡ true → entering es x y ≡ enter x y
  entering_model zero some model = absurd (some refl)
  entering_model (suc k) some model = rw (model, entering)

  entering_none : (x : ℕ) → ((x ≡ 0 → ⊥) → has_model (content_of es x) ≡ false) → entering es x y ≡ y
  entering_none zero empty = refl
  entering_none (suc k) empty = rw (empty (λ z. omega arith), entering)

-- What is shown of the token

module _ (at after p : ℕ) where
  started : (x : ℕ) → (x ≡ 0 → ⊥) → shown_of x true p at after ≡ start_written x at after p ∷ []
  started zero i = absurd (i refl)
  started (suc k) i = refl

  emptied : (x : ℕ) → (x ≡ 0 → ⊥) → shown_of x false p at after ≡ start_written x at after p ∷ end_of_empty x after ∷ []
  emptied zero i = absurd (i refl)
  emptied (suc k) i = refl

-- Data does not open.
unopened : (facts : List ℕ) → Opens facts 0 false
unopened facts = (λ e. refl, λ s es raised facts d. absurd (omega (arith, d.0)))

module _ {facts numbers bytes : List ℕ} {x at n : ℕ} (after p : ℕ) where
  pub writes_run : x ≡ 0 → at < after → {r : ℕ} {numbers' bytes' : List ℕ} → r ≡ n + 1 → Puts numbers bytes n (noted 5 x at (after - at) 0 ∷ []) numbers' bytes' → Writes facts x p at after n numbers bytes r numbers' bytes'
  writes_run z l e puts =
      let some : due_run at (after - at) ≡ data_run at (after - at) ∷ [] = run_whole at (after - at) (omega arith) in
      rw z record { b = false; opens = unopened facts; counted = rw some e; puts = rw some (rw z at puts) }

  pub writes_nothing : x ≡ 0 → at ≡ after → Writes facts x p at after n numbers bytes n numbers bytes
  writes_nothing z l =
      let none : due_run at (after - at) ≡ [] = no_run at (after - at) (omega arith) in
      rw z record { b = false; opens = unopened facts; counted = rw none (omega arith); puts = rw none (puts_none numbers bytes n) }

  -- Of an element: its start, and its end unless it opens.
  module _ (some : x ≡ 0 → ⊥) {b : Bool} (opens : Opens facts x b) {m : ℕ} {numbers' bytes' : List ℕ} (e : m ≡ n + 1) (first : Puts numbers bytes n (start_written x at after p ∷ []) numbers' bytes') where
    pub writes_opened : b ≡ true → Writes facts x p at after n numbers bytes m numbers' bytes'
    writes_opened i = record { b = true; opens = rw i at opens; counted = rw (started at after p x some) e; puts = rw (started at after p x some) first }

    pub writes_empty : b ≡ false → {r : ℕ} {numbers'' bytes'' : List ℕ} → r ≡ m + 1 → Puts numbers' bytes' m (end_of_empty x after ∷ []) numbers'' bytes'' → Writes facts x p at after n numbers bytes r numbers'' bytes''
    writes_empty i j second = record { b = false; opens = rw i at opens; counted = rw (emptied at after p x some) (omega arith); puts = rw (emptied at after p x some) (puts_then first e second) }

due_few : (at n : ℕ) → length (due_run at n) ≤ 2
due_few at zero = omega arith
due_few at (suc n) = omega arith

shown_few : (x : ℕ) (b : Bool) (p at shown : ℕ) → length (shown_of x b p at shown) ≤ 2
shown_few zero b p at shown = due_few at (shown - at)
shown_few (suc k) true p at shown = omega arith
shown_few (suc k) false p at shown = omega arith

-- The place of the token x in the element e is p, by what was found.
pub record Asked (rows places facts : List ℕ) (found : Way) (x e p : ℕ) : Type 0 where
  pub answers : (s : List ℕ) (es : List Element) (M : List ℕ) → Tables s es rows places facts M → e ≤ length es → (t : Token) → name_number t ≡ x → Declares es t → p ≡ place_of ((decided s es).fits e [] t) found

place_of_lem : {rows places facts : List ℕ} {found : Way} {x e p : ℕ} → Asked rows places facts found x e p
    → (M : List ℕ) (s : List ℕ) (es : List Element) → Tables s es rows places facts M → e ≤ length es → x ≤ length es → p ≡ place_of ((decided s es).fits e [] (token_of x)) found
place_of_lem {x = x} asked M s es tables declared most = asked.answers s es M tables declared (token_of x) (token_of_number x) (token_of_declared es x most)

-- Where it is not full there is room for an element.
room : {x c : ℕ} {full : Bool} → ((x ≡ 0 → ⊥) → full ≡ leb TAGLVL c) → full ≡ false → (x ≡ 0 → ⊥) → c < TAGLVL
room {c = c} fills roomy i = leb-false TAGLVL c (sym (fills i) ∙ roomy)

-- What the table of facts says is whether the element has a model.
model_is : {rows places facts M : List ℕ} {x : ℕ} {b : Bool} → Opens facts x b → {s : List ℕ} {es : List Element} → Tables s es rows places facts M → (x ≡ 0 → ⊥) → x ≤ length es → {c : Bool} → b ≡ c → has_model (content_of es x) ≡ c
model_is opens {s} {es} tables element most e = sym (opens.1 s es tables.raised tables.facts_say (omega (arith, element), most)) ∙ e

-- The place that is shown is the one that was taken.
shows : {es : List Element} {M begun : List ℕ} {o : OpenElements} {z : State} → Stands es M begun o z → (p : ℕ) {v : ℕ} → v ≡ shown o.element.0 p → place_taken (take_place p z).current ≡ v
shows {z = z} stands p same = place_taken_took z.current p ∙ ap (λ k. shown k p) stands.current.entered.number ∙ sym same

-- What the code does with the place p

module _ {rows places facts : List ℕ} (M begun : List ℕ) {found : Way} {x at to : ℕ} {o : OpenElements} {numbers bytes : List ℕ} {p : ℕ} (asked : Asked rows places facts found x o.element.0 p) where
  pub placed_nowhere : p ≡ 0 → PlacedRefused rows places facts M begun found x at to o numbers bytes NotAllowedHere begun numbers bytes
  placed_nowhere z =
      record {
        small = omega arith;
        begun_same = refl;
        numbers_same = refl;
        bytes_same = refl;
        p = p;
        place = place_of_lem asked M;
        stuck = λ z. refl;
        notes = λ some. absurd (some z);
      }

  module _ (some : p ≡ 0 → ⊥) {full : Bool} (fills : (x ≡ 0 → full ≡ false) × ((x ≡ 0 → ⊥) → full ≡ leb TAGLVL o.count)) where
    pub placed_full : full ≡ true → PlacedRefused rows places facts M begun found x at to o numbers bytes TooDeep begun numbers bytes
    placed_full e =
        let element : x ≡ 0 → ⊥ = (λ z. not_both (fills.0 z) e) in
        record {
          small = omega arith;
          begun_same = refl;
          numbers_same = refl;
          bytes_same = refl;
          p = p;
          place = place_of_lem asked M;
          stuck = λ z. absurd (some z);
          notes = λ i s es tables z stands can most after ends.
              let many = leb-true TAGLVL o.count (sym (fills.1 element) ∙ e) in
              noting_full es at after (take_place p z) x element (omega (arith, stands_deep stands));
        }

    pub placed_taken : {n : ℕ} → Ranged o → full ≡ false → p ≤ GRPGTCNT → {q : OpenElements} {begun' : List ℕ} → Taking rows M begun p o q begun' → {v : ℕ} → v ≡ shown o.element.0 p
        → {m : ℕ} {numbers' bytes' : List ℕ} → Writes facts x v at to n numbers bytes m numbers' bytes'
        → PlacedGot rows places facts M begun found x at to n o numbers bytes (record { «open» = q; events = m }) begun' numbers' bytes'
    placed_taken h roomy within took {v} same w =
        let less : (x ≡ 0 → ⊥) → o.count < TAGLVL = room fills.1 roomy in
        record {
          ranged = ranged_taking took h within;
          whole = took.whole;
          events = shown_of x w.b v at to;
          puts = w.puts;
          counted = w.counted;
          few = shown_few x w.b v at to;
          opens = w.b;
          taken = v;
          written = refl;
          p = p;
          place = place_of_lem asked M;
          some = some;
          taking = took;
          room = λ element. omega (arith, less element, took.count);
          notes = λ s es tables z stands can most after ends.
              let y = take_place p z in
              let deep = stands_deep stands in
              let model : (x ≡ 0 → ⊥) → (length y.around < TAGLVL) × (has_model (content_of es x) ≡ w.b) = (λ element. (omega (arith, deep, less element), model_is w.opens tables element most refl)) in
              let noted = noting_notes es at after y x w.b (omega (arith, deep, stands.few)) model ∙ ap (λ (k : ℕ). got (state (entering es x y).current (entering es x y).around (y.events ++ written_of x w.b k at after))) (shows stands p same) in
              (_, noted, refl);
        }

-- What the caller does with an element that opens

module _ {rows places facts M begun : List ℕ} {found : Way} {x at to n : ℕ} {o : OpenElements} {numbers bytes : List ℕ} {r : Outcome} {begun' numbers' bytes' : List ℕ}
    (h : PlacedGot rows places facts M begun found x at to n o numbers bytes r begun' numbers' bytes') where
  module _ (b : Bool) (none : x ≡ 0 → b ≡ false) {q : OpenElements} (i : q ≡ opened_by rows x b r.open) where
    pub opened_ranged : x ≤ element_limit → Ranged q
    opened_ranged small = rw i (by_flag b none)
      where
        by_flag : (b : Bool) → (x ≡ 0 → b ≡ false) → Ranged (opened_by rows x b r.open)
        by_flag true none = ranged_opening rows x h.ranged (h.room (λ z. not_both (none z) refl)) small
        by_flag false none = h.ranged

    -- By the tables of a type the element has a model, or the token is another: the open elements stand for what the rules make of it.
    module _ {s : List ℕ} {es : List Element} (tables : Tables s es rows places facts M) {z : State} (stands : Stands es M begun o z) (can : CanTake es z.current h.p) (most : x ≤ length es)
        (model : (x ≡ 0 → ⊥) → has_model (content_of es x) ≡ b) where
      opened_stands : Stands es M begun' q (entering es x (take_place h.p z))
      opened_stands = rw i (by_flag b none model)
        where
          y : State
          y = take_place h.p z

          there : Stands es M begun' r.open y
          there = h.taking.stands s es places facts tables z stands can

          by_flag : (b : Bool) → (x ≡ 0 → b ≡ false) → ((x ≡ 0 → ⊥) → has_model (content_of es x) ≡ b) → Stands es M begun' (opened_by rows x b r.open) (entering es x y)
          by_flag true none model =
              let element : x ≡ 0 → ⊥ = (λ z. not_both (none z) refl) in
              rw (entering_model es y x element (model element)) (stands_opening there tables x (h.room element) (omega (arith, element)) most)
          by_flag false none model = rw (entering_none es y x model) there

      pub opened_notes : (after : ℕ) → (1 ≤ x → after ≡ to) → Got (Follows es M begun' q z (written_of x h.opens h.taken at after)) (noting es x at after (take_place h.p z))
      opened_notes after ends =
          let y = take_place h.p z in
          let ev = written_of x h.opens h.taken at after in
          let (w, e, is) = h.notes s es tables z stands can most after ends in
          (w, e, (subst (Stands es M begun' q) (sym is) (stands_noted opened_stands (y.events ++ ev)), ap (λ (v : State). v.events) is))

  -- Whatever the tables hold: an element that opens by the table of facts was opened.
  pub places_opened : x ≤ element_limit → (b : Bool) → Opens facts x b → {q : OpenElements} → q ≡ opened_by rows x b r.open → Places rows places facts M begun found x at to n o numbers bytes r q begun' numbers' bytes'
  places_opened small b opens i =
      record {
        placed = h;
        ranged = opened_ranged b opens.0 i small;
        notes = λ s es tables z stands can most. opened_notes b opens.0 i tables stands can most (λ element. model_is opens tables element most refl);
      }
