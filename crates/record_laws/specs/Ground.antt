-- No byte stands outside all elements: in the document itself, where nothing but the document element may come, no byte is data. So at the document's end every byte
-- that is a thing is one of an element that has ended.
use Rattle.std.specs.Prelude.{ℕ, ◌≤◌, ◌≡◌, refl, true, ◌⊎◌, leb}
use Rattle.std.proofs.Common.{arith, sym, ◌∙◌, ap, subst, inl, inr, leb-true}
use mathlib.Core.List.{List, [], ◌∷◌, ◌++◌, append-nil, nil≢cons}
use Rattle.rules.specs.Settings.{Settings}
use Rattle.rules.specs.TypeFile.{Element}
use Rattle.rules.specs.Decisions.{pcdata, Decisions}
use Rattle.rules.specs.Events.{Event, with_data}
use Rattle.rules.specs.Settling.{Open, State, take_place, fitting}
use Rattle.rules.specs.Records.{Line}
use Rattle.rules.specs.RecordEnds.{Thing, markup, boundary, record_end, datum, subelement, Contents, add, over_in, Fills}
use Rattle.document_laws.specs.Moves.{state}
use Rattle.record_laws.specs.Moves.{Step, opens, passes, closes, Moves, moves_keep, comes_moves}
use Rattle.record_laws.specs.Turns.{Turn, tags, markups, tens, dropped, ignored, takes, bytes, fills_with}
use Rattle.record_laws.specs.AtOnce.{Rooted, Parents, moves_rooted, Lined, turn_lined, lined_first}
use Rattle.record_laws.specs.Places.{place_of, places, places_append}

-- The number of the outermost, and what came in it.
abbrev pub floor : List Open → Open → ℕ
floor [] o = o.element
floor (u ∷ around) o = floor around u

abbrev pub bottom : List (List Thing) → List Thing → List Thing
bottom [] c = c
bottom (u ∷ around) c = bottom around u

-- The outermost is the document itself, and no byte stands in it.
pub record Ground (z : State) (k : Contents) : Type 0 where
  pub floor : floor z.around z.current ≡ 0
  pub clean : (p : ℕ) → places p (bottom k.around k.current) ≡ 0

floor_taken : (around : List Open) (o : Open) (p : ℕ) → floor around (record { element = o.element; taken = o.taken ++ p ∷ [] }) ≡ floor around o
floor_taken [] o p = refl
floor_taken (u ∷ around) o p = refl

-- The thing is no byte.
bottom_quiet : (p : ℕ) (around : List (List Thing)) (c : List Thing) (t : Thing) → place_of p t ≡ 0 → places p (bottom around (c ++ t ∷ [])) ≡ places p (bottom around c)
bottom_quiet p [] c t h = omega (arith, places_append p c (t ∷ []))
bottom_quiet p (u ∷ around) c t h = refl

bottom_over : (p : ℕ) (around : List (List Thing)) (c : List Thing) (ended : List (List Thing)) → places p (bottom around c) ≡ 0 → places p (bottom (over_in around c ended).around (over_in around c ended).current) ≡ 0
bottom_over p [] c ended h = refl
bottom_over p (u ∷ around) c ended h = h

floor_closed : (around : List Open) (o u : Open) (us : List Open) → around ≡ u ∷ us → floor around o ≡ 0 → floor us u ≡ 0
floor_closed around o u us e h = sym (ap (λ (x : List Open). floor x o) e) ∙ h

step_ground : (z y : State) (k j : Contents) → Step z k y j → Ground z k → Ground y j
step_ground z y k j (opens p n e b) w =
    record { floor = floor_taken z.around z.current p ∙ w.floor; clean = λ q. bottom_quiet q k.around k.current subelement refl ∙ w.clean q }
step_ground z y k j (passes p e f b v) w =
    record { floor = floor_taken z.around z.current p ∙ w.floor; clean = λ q. bottom_quiet q k.around k.current subelement refl ∙ w.clean q }
step_ground z y k j (closes u us e q c) w =
    record { floor = floor_closed z.around z.current u us q w.floor; clean = λ p. bottom_over p k.around k.current k.ended (w.clean p) }

pub moves_ground : {z y : State} {k j : Contents} → Moves z k y j → Ground z k → Ground y j
moves_ground m w = moves_keep Ground step_ground m w

-- The byte stands inside an element.
inside_add : (around : List (List Thing)) (c : List Thing) (t : Thing) → ¬ (around ≡ []) → bottom around (c ++ t ∷ []) ≡ bottom around c
inside_add [] c t h = absurd (h refl)
inside_add (u ∷ around) c t h = refl

rooted_some : (os : List Open) (cs : List (List Thing)) → Parents os cs → ¬ (os ≡ []) → ¬ (cs ≡ [])
rooted_some [] cs r h = absurd (h refl)
rooted_some (u ∷ us) [] r h = absurd r
rooted_some (u ∷ us) (c ∷ cs) r h = λ e. nil≢cons (sym e)

pub rooted_none : (os : List Open) (cs : List (List Thing)) → Parents os cs → os ≡ [] → cs ≡ []
rooted_none [] [] r h = refl
rooted_none [] (c ∷ cs) r h = absurd r
rooted_none (u ∷ us) cs r h = absurd (nil≢cons (sym h))

ground_add : (z : State) (k : Contents) (t : Thing) → Rooted z k → ¬ (z.around ≡ []) → Ground z k → Ground z (add t k)
ground_add z k t r h w = record { floor = w.floor; clean = λ p. ap (places p) (inside_add k.around k.current t (rooted_some z.around k.around r h)) ∙ w.clean p }

ground_quiet : (z : State) (k : Contents) (t : Thing) → ((p : ℕ) → place_of p t ≡ 0) → Ground z k → Ground z (add t k)
ground_quiet z k t h w = record { floor = w.floor; clean = λ p. bottom_quiet p k.around k.current t (h p) ∙ w.clean p }

floor_none : (around : List Open) (o : Open) → around ≡ [] → floor around o ≡ 0 → o.element ≡ 0
floor_none [] o e h = h
floor_none (u ∷ around) o e h = absurd (nil≢cons (sym e))

-- In the document itself no data byte fits, whatever of the places taken there were taken before it.
abbrev pub NoData : List ℕ → List Element → Decisions → State → Type 0
NoData s es D z = z.around ≡ [] → z.current.element ≡ 0 → (before after : List ℕ) → z.current.taken ≡ before ++ after → ¬ (1 ≤ D.fits 0 before pcdata)

module _ (c : Settings) (s : List ℕ) (es : List Element) (D : Decisions) (d : List ℕ) (none : (at : ℕ) (l : Line) (z : State) (k : Contents) → Fills c s es D d at l z k → NoData s es D z) where
  fits_inside : {at : ℕ} {l : Line} {z : State} {k : Contents} → Fills c s es D d at l z k → Ground z k → leb 1 (fitting s es D z.current pcdata) ≡ true → ¬ (z.around ≡ [])
  fits_inside {at} {l} {z} {k} h w f e =
      let n = floor_none z.around z.current e w.floor in
      none at l z k h e n z.current.taken [] (sym (append-nil z.current.taken))
      (subst (λ (m : ℕ). 1 ≤ D.fits m z.current.taken pcdata) n (leb-true 1 (fitting s es D z.current pcdata) f))

  -- Where a data byte took its place.
  taken_inside : {at : ℕ} {l : Line} {y : State} {k : Contents} (ev : List Event) (o : State) → Fills c s es D d at l y k → y ≡ state (take_place (fitting s es D o.current pcdata) o).current o.around ev
      → floor o.around o.current ≡ 0 → (o.around ≡ [] → 1 ≤ fitting s es D o.current pcdata) → ¬ (o.around ≡ [])
  taken_inside {at} {l} {y} {k} ev o h q g f e =
      let n = floor_none o.around o.current e g in
      none at l y k h (ap (λ (x : State). x.around) q ∙ e) (ap (λ (x : State). x.current.element) q ∙ n) o.current.taken (fitting s es D o.current pcdata ∷ []) (ap (λ (x : State). x.current.taken) q)
      (subst (λ (m : ℕ). 1 ≤ D.fits m o.current.taken pcdata) n (f e))

  turn_ground : (at i : ℕ) (l m : Line) (z y : State) (k j : Contents) → Fills c s es D d at l z k → Fills c s es D d i m y j → Turn c s es D d at l z k i m y j → Lined s es D d at l z k → Ground z k → Ground y j
  turn_ground at i l m z y k j g h (tags after t a₀ a b) v w = moves_ground (comes_moves t) w
  turn_ground at i l m z y k j g h (markups after a₀ a) v w = ground_quiet z k markup (λ p. refl) w
  turn_ground at i l m z y k j g h (tens b) v w = ground_quiet z k boundary (λ p. refl) w
  turn_ground at i l m z y k j g h (dropped b f o) v w = ground_add z k (record_end at) v.rooted (fits_inside g w f) w
  turn_ground at i l m z y k j g h (ignored f n q x r) v w = stays r
    where
      stays : ◌⊎◌ (◌≡◌ {A = Contents} x k) (◌≡◌ {A = Contents} x (add boundary k)) → Ground z x
      stays (inl e) = subst (λ (u : Contents). Ground z u) (sym e) w
      stays (inr e) = subst (λ (u : Contents). Ground z u) (sym e) (ground_quiet z k boundary (λ p. refl) w)
  turn_ground at i l m z y k j g h (takes b f o) v w =
      let a = ground_add z k (record_end at) v.rooted (fits_inside g w f) w in
      record { floor = floor_taken z.around z.current (fitting s es D z.current pcdata) ∙ a.floor; clean = a.clean }
  turn_ground at i l m z y k j g h (bytes b {w = u} t) v w =
      let x = moves_ground t.moves w in
      let o = t.here in
      let q : y ≡ state (take_place (fitting s es D o.current pcdata) o).current o.around (with_data at u.events) = ap (λ (i : State). state i.current i.around (with_data at u.events)) t.taken in
      let a = ground_add o t.contents (datum at) (moves_rooted t.moves v.rooted) (taken_inside (with_data at u.events) o h q x.floor t.fits) x in
      record { floor = ap (λ (i : State). floor i.around i.current) q ∙ floor_taken o.around o.current (fitting s es D o.current pcdata) ∙ a.floor; clean = a.clean }

  pub fills_ground : {at : ℕ} {l : Line} {z : State} {k : Contents} → Fills c s es D d at l z k → Lined s es D d at l z k × Ground z k
  fills_ground h =
      fills_with (λ at l z k. Lined s es D d at l z k × Ground z k) (lined_first c s es D d, record { floor = refl; clean = λ p. refl })
      (λ at i l m z y k j g g' t (v, w). (turn_lined c s es D d at i l m z y k j t v, turn_ground at i l m z y k j g g' t v w)) h
