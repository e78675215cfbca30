-- Settling, walked once. Two readings of a document, by the decisions D and E, go alike from states of which Q holds, if Q has them answer
-- alike and every move of settling keeps Q: to take a place, to enter an element, to note an event, to leave an element. What one reading
-- keeps is the case that both are the same.
use Prim.Native.Nat.{ℕ, zero, suc, ◌+◌, ◌-◌, ◌≤◌, ◌<◌}
use Rattle.std.specs.Prelude.{◌≡◌, Bool, not, ◌&&◌, ◌||◌, length, ltb}
use Rattle.std.proofs.Math.Path.{refl, sym, ap, ap₂, subst}
use Rattle.std.proofs.Common.{◌∙◌}
use Rattle.std.proofs.Math.Bool.{true, false}
use mathlib.Core.List.{List, [], ◌∷◌, ◌++◌}
use native.Mathlib.Omega.{arith}
use Rattle.std.proofs.Math.Dec.{eqb, leb}
use borrow.Author.Tests.{leb-true, leb-false, ltb-false}
use Rattle.rules.specs.Settings.{Settings, is_second}
use Rattle.rules.specs.Bytes.{byte_at, RE, TAGLVL}
use Rattle.rules.specs.Reading.{Reading, refused, got, and_then}
use Rattle.rules.specs.TypeFile.{Element}
use Rattle.rules.specs.Document.{Tag, Piece, start_tag, end_tag, skipped, blank, data_byte, piece}
use Rattle.rules.specs.Elements.{content_of, has_model, end_o, number_of}
use Rattle.rules.specs.Decisions.{Token, start, pcdata, Decisions}
use Rattle.rules.specs.Events.{Event, start_written, start_inferred, end_written, end_inferred, end_of_empty, with_data}
use Rattle.rules.specs.Given.{piece_attributed, with_attributes}
use Rattle.rules.specs.Settling.{Open, State, nothing_open, take_place, shown, place_taken, enter, note, limited, is_open, Inward, settled, stuck, fitting, is_complete, required_place, inferable, chain, infer_starts, take_token, inward, settle_from, is_over, settle, start_element, take_data, take_blank, end_left_out, close_from, end_element, end_from, end_document}
use Rattle.rules.specs.Records.{Line, new_line, is_fresh, at_once, is_ignored, record_ends, mark_behind, line_after, records_settled}
use Rattle.rules.specs.Reader.{Reached, go_on, tagged, settle_piece, piece_under, pieces_within, document}
use Rattle.and_laws.specs.Begun.{last_or0_snoc}
use Rattle.rules_laws.specs.Holds.{stops, reads, Refuses}
use Rattle.rules_laws.specs.Holds as holds
use Rattle.rules_laws.specs.Both.{Both, stop, read, on, either, so, itself}
use Rattle.document_laws.specs.Chain.{chosen, inferable_is, inferable_may, link_same, Leads, chain_step, chain_leads}
pub use Rattle.document_laws.specs.Chain.{fresh}
use Rattle.rules.specs.Acts.{Passes, begins, goes}
pub use Rattle.rules.specs.Acts.{Few}

abbrev pub state : Open → List Open → List Event → State
state o around ev = record { current = o; around = around; events = ev }

-- The place that an element shows which took p in o.
pub place_taken_took : (o : Open) (p : ℕ) → place_taken (record { element = o.element; taken = o.taken ++ p ∷ [] }) ≡ shown o.element p
place_taken_took o p = ap (shown o.element) (last_or0_snoc o.taken p)

-- The state of the parent, where there is one.
abbrev pub parent : State → State
parent z = elim z.around [ [] ↦ z | u ∷ around ↦ state u around z.events ]

pub parent_is : (P : State → Type 0) (z : State) → P z → ((u : Open) (around : List Open) → z.around ≡ u ∷ around → P (state u around z.events)) → P (parent z)
parent_is P z p f = go z.around f
  where
    go : (os : List Open) → ((u : Open) (around : List Open) → os ≡ u ∷ around → P (state u around z.events)) → P (elim os [ [] ↦ z | u ∷ around ↦ state u around z.events ])
    go [] f = p
    go (u ∷ around) f = f u around refl

-- A refusal by settling is one of 10 to 18, at the token.
abbrev pub At : (at : ℕ) → (number position : ℕ) → Type 0
At at n k = ((10 ≤ n) × (n ≤ 18)) × (k ≡ at)

-- D answers about o what E answers about v.
pub record Answers (s : List ℕ) (es : List Element) (D E : Decisions) (o v : Open) : Type 0 where
  pub element : o.element ≡ v.element
  pub fits : (t : Token) → fitting s es D o t ≡ fitting s es E v t
  pub complete : is_complete s es D o ≡ is_complete s es E v
  pub required : required_place s es D o ≡ required_place s es E v

-- They show the same place, where both took the same.
places_same : {s : List ℕ} {es : List Element} {D E : Decisions} (z y : State) → Answers s es D E z.current y.current → (p q : ℕ) → p ≡ q → place_taken (take_place p z).current ≡ place_taken (take_place q y).current
places_same z y a p q e = place_taken_took z.current p ∙ ap₂ shown a.element e ∙ sym (place_taken_took y.current q)

-- A place that D has o take: as it fits a token, or as the required one.
pub data Chosen (s : List ℕ) (es : List Element) (D : Decisions) (o : Open) : ℕ → Type 0 where
  fits : (t : Token) → 1 ≤ fitting s es D o t → Chosen s es D o (fitting s es D o t)
  required : 1 ≤ required_place s es D o → Chosen s es D o (required_place s es D o)

-- What ends of elements ask of Q, and what starts and data ask besides.
pub record Ends (s : List ℕ) (es : List Element) (D E : Decisions) (Q : State → State → Type 0) : Type 0 where
  pub alike : {z y : State} → Q z y → Answers s es D E z.current y.current
  pub events : {z y : State} → Q z y → z.events ≡ y.events
  pub depth : {z y : State} → Q z y → length z.around ≡ length y.around
  pub note : {z y : State} → Q z y → (e : Event) → eqb e.kind 5 ≡ false → Q (note e z) (note e y)
  pub leave : {z y : State} → Q z y → Q (parent z) (parent y)

pub record Moves (s : List ℕ) (es : List Element) (D E : Decisions) (Q : State → State → Type 0) : Type 0 where
  pub ends : Ends s es D E Q
  pub taking : {z y : State} → Q z y → (p : ℕ) → Chosen s es D z.current p → Q (take_place p z) (take_place p y)
  pub enter : {z y : State} → Q z y → (k : ℕ) → has_model (content_of es k) ≡ true → Q (enter k z) (enter k y)

-- The last event is no run of data.
pub record Closed (x : State) : Type 0 where
  pub before : List Event
  pub event : Event
  pub other : eqb event.kind 5 ≡ false
  pub last : x.events ≡ before ++ event ∷ []

-- Ends of elements

-- The event of an end that is left out.
abbrev LeftOut : (at : ℕ) → Open → Event → Event → Type 0
LeftOut at o e f = (e ≡ f) × (e ≡ end_inferred o.element at)

module _ {s : List ℕ} {es : List Element} {D E : Decisions} {Q : State → State → Type 0} (ends : Ends s es D E Q) where
  is_open_same : (k : ℕ) (around outer : List Open) (o v : Open) (ev fv : List Event) → Q (state o around ev) (state v outer fv) → is_open k (o ∷ around) ≡ is_open k (v ∷ outer)
  unfolding is_open
  is_open_same k [] [] o v ev fv q = ap {B = Bool} (λ n. elim (eqb n k) [ true ↦ true | false ↦ false ]) (ends.alike q).element
  is_open_same k [] (w ∷ outer) o v ev fv q = absurd (omega (arith, ends.depth q))
  is_open_same k (u ∷ around) [] o v ev fv q = absurd (omega (arith, ends.depth q))
  is_open_same k (u ∷ around) (w ∷ outer) o v ev fv q =
      ap₂ {C = Bool} (λ n b. elim (eqb n k) [ true ↦ true | false ↦ b ]) (ends.alike q).element (is_open_same k around outer u w ev fv (ends.leave q))

  end_left_out_both : (at : ℕ) (o v : Open) → Answers s es D E o v → Both (At at) (LeftOut at o) (end_left_out s es D at o) (end_left_out s es E at v)
  unfolding end_left_out
  end_left_out_both at o v a =
      either (is_complete s es D o) (is_complete s es E v) a.complete
      (λ x. either (end_o es o.element) (end_o es v.element) (ap (end_o es) a.element) (λ y. read (ap (λ n. end_inferred n at) a.element, refl)) (λ y. stop (omega arith)))
      (λ x. stop (omega arith))

  -- With the end of o noted, its parent is the current element.
  left : (at : ℕ) (around outer : List Open) (o v u w : Open) (ev fv : List Event) (e f : Event) → Q (state o (u ∷ around) ev) (state v (w ∷ outer) fv) → LeftOut at o e f → Q (state u around (ev ++ e ∷ [])) (state w outer (fv ++ f ∷ []))
  left at around outer o v u w ev fv e f q (i, j) =
      subst (λ (g : Event). Q (state u around (ev ++ e ∷ [])) (state w outer (fv ++ g ∷ []))) i (ends.leave (ends.note q e (rw j refl)))

  abbrev Ended : (depth : ℕ) → State → State → Type 0
  Ended n x y = Q x y × (length x.around ≤ n) × Closed x

  close_from_both : (k at after : ℕ) (around outer : List Open) (o v : Open) (ev fv : List Event) → Q (state o around ev) (state v outer fv)
      → Both (At at) (Ended (length around)) (close_from s es D k at after around o ev) (close_from s es E k at after outer v fv)
  unfolding close_from
  close_from_both k at after [] [] o v ev fv q = stop {n = 11} {k = at} (omega arith)
  close_from_both k at after [] (w ∷ outer) o v ev fv q = absurd (omega (arith, ends.depth q))
  close_from_both k at after (u ∷ around) [] o v ev fv q = absurd (omega (arith, ends.depth q))
  close_from_both k at after (u ∷ around) (w ∷ outer) o v ev fv q =
      let a = ends.alike q in
      let e = end_written k at after in
      either (eqb o.element k) (eqb v.element k) (ap (λ n. eqb n k) a.element)
      (λ x. either (is_complete s es D o) (is_complete s es E v) a.complete
      (λ y. read (ends.leave (ends.note q e refl), omega arith, record { before = ev; event = e; other = refl; last = refl }))
      (λ y. stop (omega arith)))
      (λ x. on (end_left_out_both at o v a)
      (λ e f l. so (close_from_both k at after around outer u w (ev ++ e ∷ []) (fv ++ f ∷ []) (left at around outer o v u w ev fv e f q l)) (λ n p y. y) (λ x y r. (r.0, omega (arith, r.1), r.2))))

  pub end_element_both : (k at after : ℕ) {z y : State} → Q z y → Both (At at) (Ended (length z.around)) (end_element s es D k at after z) (end_element s es E k at after y)
  unfolding end_element
  end_element_both k at after {z} {y} q =
      either (is_open k (z.current ∷ z.around)) (is_open k (y.current ∷ y.around)) (is_open_same k z.around y.around z.current y.current z.events y.events q)
      (λ x. close_from_both k at after z.around y.around z.current y.current z.events y.events q)
      (λ x. stop (omega arith))

  end_from_both : (at : ℕ) (around outer : List Open) (o v : Open) (ev fv : List Event) → Q (state o around ev) (state v outer fv) → Both (At at) (λ (x y : List Event). x ≡ y) (end_from s es D at around o ev) (end_from s es E at outer v fv)
  unfolding end_from
  end_from_both at [] [] o v ev fv q = either (is_complete s es D o) (is_complete s es E v) (ends.alike q).complete (λ x. read (ends.events q)) (λ x. stop (omega arith))
  end_from_both at [] (w ∷ outer) o v ev fv q = absurd (omega (arith, ends.depth q))
  end_from_both at (u ∷ around) [] o v ev fv q = absurd (omega (arith, ends.depth q))
  end_from_both at (u ∷ around) (w ∷ outer) o v ev fv q =
      on (end_left_out_both at o v (ends.alike q)) (λ e f l. end_from_both at around outer u w (ev ++ e ∷ []) (fv ++ f ∷ []) (left at around outer o v u w ev fv e f q l))

  pub end_document_both : (at : ℕ) {z y : State} → Q z y → Both (At at) (λ (x y : List Event). x ≡ y) (end_document s es D at z) (end_document s es E at y)
  unfolding end_document
  end_document_both at {z} {y} q = end_from_both at z.around y.around z.current y.current z.events y.events q

-- Starts and data

-- Steps 1 and 2: as which place the token fits, the chain, and what becomes of a chain.
picked : ℕ → List ℕ → (List ℕ → State) → Inward
picked f c h = elim (leb 1 f) [ true ↦ settled (h []) | false ↦ elim c [ [] ↦ stuck | k ∷ ks ↦ settled (h (k ∷ ks)) ] ]

-- Steps 3 and 4: what is settled, or else another reading.
or_else : Inward → Reading State → Reading State
or_else w r = elim w [ settled z ↦ got z | stuck ↦ r ]

data BothInward (P : State → State → Type 0) : Inward → Inward → Type 0 where
  both_settled : {z y : State} → P z y → BothInward P (settled z) (settled y)
  both_stuck : BothInward P stuck stuck

picked_both : (P : State → State → Type 0) (f : ℕ) (c : List ℕ) (h j : List ℕ → State) → (leb 1 f ≡ true → P (h []) (j [])) → ((k : ℕ) (ks : List ℕ) → c ≡ k ∷ ks → P (h (k ∷ ks)) (j (k ∷ ks))) → BothInward P (picked f c h) (picked f c j)
unfolding picked
picked_both P f c h j a b = by_fit (leb 1 f) a c b
  where
    by_fit : (x : Bool) → (x ≡ true → P (h []) (j [])) → (c : List ℕ) → ((k : ℕ) (ks : List ℕ) → c ≡ k ∷ ks → P (h (k ∷ ks)) (j (k ∷ ks)))
        → BothInward P (elim x [ true ↦ settled (h []) | false ↦ elim c [ [] ↦ stuck | k ∷ ks ↦ settled (h (k ∷ ks)) ] ]) (elim x [ true ↦ settled (j []) | false ↦ elim c [ [] ↦ stuck | k ∷ ks ↦ settled (j (k ∷ ks)) ] ])
    by_fit true a c b = both_settled (a refl)
    by_fit false a [] b = both_stuck
    by_fit false a (k ∷ ks) b = both_settled (b k ks refl)

or_else_both : {R : (n k : ℕ) → Type 0} {P : State → State → Type 0} {w v : Inward} {r q : Reading State} → BothInward P w v → Both R P r q → Both R P (or_else w r) (or_else v q)
unfolding or_else
or_else_both (both_settled p) b = read p
or_else_both both_stuck b = b

-- What the limit lets by.
abbrev Limited : State → State → State → State → Type 0
Limited z y x w = (x ≡ z) × (w ≡ y) × Few z

limited_both : (at : ℕ) (z y : State) → length z.around ≡ length y.around → Both (At at) (Limited z y) (limited at z) (limited at y)
unfolding limited
limited_both at z y e = either (ltb TAGLVL (length z.around)) (ltb TAGLVL (length y.around)) (ap (ltb TAGLVL) e) (λ x. stop (omega arith)) (λ x. read (refl, refl, ltb-false _ _ x))

module _ {s : List ℕ} {es : List Element} {D E : Decisions} {Q : State → State → Type 0} (moves : Moves s es D E Q) where
  alike : {z y : State} → Q z y → Answers s es D E z.current y.current
  alike q = moves.ends.alike q

  inferable_same : {z y : State} → Q z y → inferable s es D z.current ≡ inferable s es E y.current
  inferable_same {z} {y} q = inferable_is s es D z.current ∙ ap₂ (chosen s es) (alike q).element (alike q).required ∙ sym (inferable_is s es E y.current)

  -- The start of k is inferred, at the required place.
  abbrev opened : Decisions → (at k : ℕ) → State → State
  opened F at k z =
      let y = take_place (required_place s es F z.current) z in
      note (start_inferred k at (place_taken y.current)) (enter k y)

  opened_both : (at k : ℕ) {z y : State} → Q z y → inferable s es D z.current ≡ k → leb 1 k ≡ true → Q (opened D at k z) (opened E at k y)
  opened_both at k {z} {y} q e l =
      let m = inferable_may s es D z.current (rw e l) in
      let p = required_place s es D z.current in
      let shows = start_inferred k at (place_taken (take_place p z).current) in
      let same = places_same z y (alike q) p p refl in
      subst (λ (r : ℕ). Q (opened D at k z) (note (start_inferred k at (place_taken (take_place r y).current)) (enter k (take_place r y)))) (alike q).required
      (subst (λ (n : ℕ). Q (opened D at k z) (note (start_inferred k at n) (enter k (take_place p y)))) same
      (moves.ends.note (moves.enter (moves.taking q p (required m.place)) k (rw e at m.model)) shows refl))

  chain_same : (left : ℕ) (t : Token) {z y : State} → Q z y → chain s es D left t z.current ≡ chain s es E left t y.current
  unfolding chain
  chain_same zero t q = refl
  chain_same (suc left) t {z} {y} q =
      let k = inferable s es D z.current in
      chain_step s es D t left z.current k refl
      ∙ link_same k _ _ _ _ (λ e. let r = opened_both 0 k q refl e in ((alike r).fits t, chain_same left t r))
      ∙ sym (chain_step s es E t left y.current k (sym (inferable_same q)))

  starts_both : (t : Token) (at : ℕ) (ks : List ℕ) {z y : State} → Q z y → Leads s es D t z.current ks
      → Q (infer_starts s es D at ks z) (infer_starts s es E at ks y) × (1 ≤ fitting s es D (infer_starts s es D at ks z).current t)
  unfolding infer_starts
  starts_both t at [] q l = (q, leb-true 1 _ l)
  starts_both t at (k ∷ ks) q (e, i, l) = starts_both t at ks (opened_both at k q e i) l

  -- A token was settled: it was taken in a state where it fits.
  pub record Taken (t : Token) (x w : State) : Type 0 where
    pub here : State
    pub there : State
    pub keeps : Q here there
    pub fits : 1 ≤ fitting s es D here.current t
    pub first : x ≡ take_token s es D t here
    pub second : w ≡ take_token s es E t there

  taken_keeps : {t : Token} {x w : State} → Taken t x w → Q x w
  taken_keeps {t} {x} {w} a =
      let p = fitting s es D a.here.current t in
      let q = moves.taking a.keeps p (fits t a.fits) in
      let e = (alike a.keeps).fits t in
      rw (a.first, a.second, ← e) q

  taken_place : {t : Token} {x w : State} → Taken t x w → place_taken x.current ≡ place_taken w.current
  taken_place {t} a =
      let f = alike a.keeps in
      ap (λ (z : State). place_taken z.current) a.first
      ∙ places_same a.here a.there f (fitting s es D a.here.current t) (fitting s es E a.there.current t) (f.fits t)
      ∙ sym (ap (λ (z : State). place_taken z.current) a.second)

  inward_both : (t : Token) (at : ℕ) {z y : State} → Q z y → BothInward (Taken t) (inward s es D t at z) (inward s es E t at y)
  unfolding inward picked infer_starts
  inward_both t at {z} {y} q =
      let f = fitting s es D z.current t in
      let c = chain s es D (length es) t z.current in
      let taking : Decisions → State → List ℕ → State = λ F x ks. take_token s es F t (infer_starts s es F at ks x) in
      subst (BothInward (Taken t) (inward s es D t at z)) (ap₂ (λ f c. picked f c (taking E y)) ((alike q).fits t) (chain_same (length es) t q))
      (picked_both (Taken t) f c (taking D z) (taking E y)
      (λ e. record { here = z; there = y; keeps = q; fits = leb-true 1 f e; first = refl; second = refl })
      (λ k ks e.
      let (r, l) = starts_both t at (k ∷ ks) q (chain_leads s es D t (length es) z.current k ks e) in
      record { here = _; there = _; keeps = r; fits = l; first = refl; second = refl }))

  settle_from_both : (t : Token) (at : ℕ) (around outer : List Open) (o v : Open) (ev fv : List Event) → Q (state o around ev) (state v outer fv)
      → Both (At at) (Taken t) (settle_from s es D t at around o ev) (settle_from s es E t at outer v fv)
  unfolding settle_from or_else
  settle_from_both t at [] [] o v ev fv q = or_else_both (inward_both t at q) (stop {n = 12} {k = at} (omega arith))
  settle_from_both t at [] (w ∷ outer) o v ev fv q = absurd (omega (arith, moves.ends.depth q))
  settle_from_both t at (u ∷ around) [] o v ev fv q = absurd (omega (arith, moves.ends.depth q))
  settle_from_both t at (u ∷ around) (w ∷ outer) o v ev fv q =
      let a = alike q in
      let e = end_inferred o.element at in
      let l = left moves.ends at around outer o v u w ev fv e (end_inferred v.element at) q (ap (λ n. end_inferred n at) a.element, refl) in
      let n : u.element ≡ w.element = (alike l).element in
      let c : (is_complete s es D o && (end_o es o.element && leb 1 u.element)) ≡ (is_complete s es E v && (end_o es v.element && leb 1 w.element)) = rw (a.complete, a.element, n) refl in
      or_else_both (inward_both t at q)
      (either (is_complete s es D o && (end_o es o.element && leb 1 u.element)) (is_complete s es E v && (end_o es v.element && leb 1 w.element)) c
      (λ x. settle_from_both t at around outer u w (ev ++ e ∷ []) (fv ++ end_inferred v.element at ∷ []) l) (λ x. stop (omega arith)))

  pub settle_both : (t : Token) (at : ℕ) {z y : State} → Q z y → Both (At at) (Taken t) (settle s es D t at z) (settle s es E t at y)
  unfolding settle
  settle_both t at {z} {y} q =
      either (is_over s es D z) (is_over s es E y) (rw ((alike q).complete, (alike q).element) refl) (λ x. stop (omega arith))
      (λ x. settle_from_both t at z.around y.around z.current y.current z.events y.events q)

  -- What a start tag leaves: few enough are open, and the last event is no data.
  pub start_element_both : (k at after : ℕ) {z y : State} → Q z y → Both (At at) (λ (x w : State). Q x w × Few x × Closed x) (start_element s es D k at after z) (start_element s es E k at after y)
  unfolding start_element
  start_element_both k at after q =
      on (settle_both (start k) at q) λ x w a.
      let r = taken_keeps a in
      let e = start_written k at after (place_taken x.current) in
      on (limited_both at (enter k x) (enter k w) (ap suc (moves.ends.depth r))) λ u v l.
      either (has_model (content_of es k)) (has_model (content_of es k)) refl
      (λ m.
      let n = subst (λ (p : ℕ). Q (note e (enter k x)) (note (start_written k at after p) (enter k w))) (taken_place a) (moves.ends.note (moves.enter r k m) e refl) in
      read (rw (l.0, l.1) (n, l.2, record { before = x.events; event = e; other = refl; last = refl })))
      (λ m.
      let started = subst (λ (p : ℕ). Q (note e x) (note (start_written k at after p) w)) (taken_place a) (moves.ends.note r e refl) in
      let n = moves.ends.note started (end_of_empty k after) refl in
      read (n, omega (arith, l.2), record { before = x.events ++ e ∷ []; event = end_of_empty k after; other = refl; last = refl }))

-- Pieces

-- Where a piece at `at` ends.
abbrev pub piece_end : Piece → (at : ℕ) → ℕ
piece_end (start_tag t) at = t.after
piece_end (end_tag t) at = t.after
piece_end (skipped after) at = after
piece_end blank at = at + 1
piece_end data_byte at = at + 1

-- A piece under a type asks of the current element whether it is fresh, and how record ends stand behind it whether data fits there.
pub under_fresh : (c : Settings) (s : List ℕ) (es : List Element) (d : List ℕ) (at : ℕ) (l : Line) (o v : Open) → is_fresh o ≡ is_fresh v → piece_under c s es d at l o ≡ piece_under c s es d at l v
unfolding piece_under at_once record_ends is_ignored
under_fresh c s es d at l o v e = under_same (piece c.name_length d at)
  where
    once : at_once d at l o ≡ at_once d at l v
    once = ap (λ (b : Bool). elim (ltb l.since l.mark) [ true ↦ not (eqb l.mark at) | false ↦ b || (ltb l.since at && eqb (byte_at d (l.since - 1)) RE) ]) e

    ends : (p : Piece) → record_ends c d at l o p ≡ record_ends c d at l v p
    ends (start_tag t) = refl
    ends (end_tag t) = refl
    ends (skipped after) = refl
    ends blank = ap (λ (b : Bool). elim (is_second c && (eqb (byte_at d at) RE && b)) [ true ↦ skipped (at + 1) | false ↦ blank ]) once
    ends data_byte = refl

    under_same : (r : Reading Piece) → and_then r (λ p. and_then (piece_attributed c.name_length s es d at p) λ u. got (record_ends c d at l o p)) ≡ and_then r (λ p. and_then (piece_attributed c.name_length s es d at p) λ u. got (record_ends c d at l v p))
    under_same (refused n k) = refl
    under_same (got p) = ap (λ (q : Piece). and_then (piece_attributed c.name_length s es d at p) λ u. got q) (ends p)

pub line_same : (s : List ℕ) (es : List Element) (D E : Decisions) (d : List ℕ) (p : Piece) (at : ℕ) (l : Line) (z y : State) → fitting s es D z.current pcdata ≡ fitting s es E y.current pcdata → line_after s es D d p at l z ≡ line_after s es E d p at l y
unfolding line_after
line_same s es D E d (start_tag t) at l z y e = refl
line_same s es D E d (end_tag t) at l z y e = refl
line_same s es D E d (skipped after) at l z y e = refl
line_same s es D E d blank at l z y e = ap (λ (n : ℕ). elim (leb 1 n) [ true ↦ record { since = at + 1; mark = l.mark } | false ↦ record { since = l.since; mark = mark_behind d at l.mark } ]) e
line_same s es D E d data_byte at l z y e = refl

-- A data byte is noted at `at`.
abbrev pub with_datum : (at : ℕ) → State → State
with_datum at z = state z.current z.around (with_data at z.events)

module _ {s : List ℕ} {es : List Element} {D E : Decisions} {Q : State → State → Type 0} (moves : Moves s es D E Q) (datum : (at : ℕ) (z y : State) → Q z y → Q (with_datum at z) (with_datum at y)) where
  pub take_data_both : (at : ℕ) {z y : State} → Q z y → Both (At at) (λ (x w : State). Q x w × Few x) (take_data s es D at z) (take_data s es E at y)
  unfolding take_data
  take_data_both at q =
      on (settle_both moves pcdata at q) λ x w a.
      let r = taken_keeps moves a in
      on (limited_both at x w (moves.ends.depth r)) λ u v l.
      read (rw (l.0, l.1) (datum at x w r, l.2))

  pub take_blank_both : (at : ℕ) {z y : State} → Q z y → Both (At at) (λ (x w : State). Q x w × (Few z → Few x)) (take_blank s es D at z) (take_blank s es E at y)
  unfolding take_blank
  take_blank_both at {z} {y} q =
      either (leb 1 (fitting s es D z.current pcdata)) (leb 1 (fitting s es E y.current pcdata)) (ap (leb 1) ((moves.ends.alike q).fits pcdata))
      (λ e. so (take_data_both at q) (λ n k x. x) (λ x w r. (r.0, λ f. r.1))) (λ e. read (q, λ f. f))

  module _ (d : List ℕ) where
    tagged_holds : (at : ℕ) (t : Tag) → Refuses (At at) (tagged s es D d at t)
    unfolding tagged
    tagged_holds at t = holds.either (leb 1 (number_of s es d t.name t.size)) (λ x. reads tt) (λ x. stops (omega arith))

    -- What a piece leaves, and where reading goes on.
    pub record Settles (p : Piece) (at : ℕ) (z : State) (x w : Reached) : Type 0 where
      pub first : x.at ≡ piece_end p at
      pub second : w.at ≡ piece_end p at
      pub keeps : Q x.state w.state
      pub few : Few z → Few x.state

    onward : (p : Piece) (at after : ℕ) (z : State) {r q : Reading State} → after ≡ piece_end p at → Both (At at) (λ (x w : State). Q x w × (Few z → Few x)) r q → Both (At at) (Settles p at z) (go_on after r) (go_on after q)
    onward p at after z e b = on b (λ x w r. read (record { first = e; second = e; keeps = r.0; few = r.1 }))

    pub settle_piece_both : (p : Piece) (at : ℕ) {z y : State} → Q z y → Both (At at) (Settles p at z) (settle_piece s es D d p at z) (settle_piece s es E d p at y)
    unfolding settle_piece tagged
    settle_piece_both (start_tag t) at {z} q =
        on (itself (tagged_holds at t)) λ k j e.
        rw (← e.0) (onward (start_tag t) at t.after z refl (so (start_element_both moves k at t.after q) (λ n i x. x) (λ x w r. (r.0, λ f. r.1))))
    settle_piece_both (end_tag t) at {z} q =
        on (itself (tagged_holds at t)) λ k j e.
        rw (← e.0) (onward (end_tag t) at t.after z refl (so (end_element_both moves.ends k at t.after q) (λ n i x. x) (λ x w r. (r.0, λ f. omega (arith, r.1)))))
    settle_piece_both (skipped after) at q = read (record { first = refl; second = refl; keeps = q; few = λ f. f })
    settle_piece_both blank at {z} q = onward blank at (at + 1) z refl (take_blank_both at q)
    settle_piece_both data_byte at {z} q = onward data_byte at (at + 1) z refl (so (take_data_both at q) (λ n k x. x) (λ x w r. (r.0, λ f. r.1)))

    -- The rest of the document, where R holds of what pieces and settling refuse, and Q has both current elements fresh or neither.
    module _ (c : Settings) (R : (number position : ℕ) → Type 0) (bound : R 4 (length d)) (by_piece : (at : ℕ) (l : Line) (o : Open) → at < length d → Refuses R (piece_under c s es d at l o))
        (by_settling : (at n k : ℕ) → at ≤ length d → At at n k → R n k) (fresh_alike : (z y : State) → Q z y → is_fresh z.current ≡ is_fresh y.current) where
      abbrev Rest : Decisions → (turns at : ℕ) → Line → State → Reading (List Event)
      Rest F turns at l z = pieces_within c s es F d turns at l z

      pub pieces_within_both : (turns at : ℕ) (l : Line) {z y : State} → Q z y → Both R (λ (x w : List Event). x ≡ w) (Rest D turns at l z) (Rest E turns at l y)
      unfolding pieces_within
      pieces_within_both zero at l q = stop bound
      pieces_within_both (suc turns) at l {z} {y} q =
          either (leb (length d) at) (leb (length d) at) refl
          (λ e. so (end_document_both moves.ends (length d) q) (λ n k x. by_settling (length d) n k (omega arith) x) (λ x w r. r))
          (λ e.
          let h = leb-false (length d) at e in
          let next : Decisions → State → Piece → Reading (List Event) = λ F u p. and_then (settle_piece s es F d p at u) λ x. Rest F turns x.at (line_after s es F d p at l u) x.state in
          subst (λ (r : Reading Piece). Both R (λ (x w : List Event). x ≡ w) (and_then (piece_under c s es d at l z.current) (next D z)) (and_then r (next E y)))
          (under_fresh c s es d at l z.current y.current (fresh_alike z y q))
          (on (itself (by_piece at l z.current h)) λ p j i.
          rw (← i.0)
          (on (so (settle_piece_both p at q) (λ n k x. by_settling at n k (omega arith) x) (λ x w r. r)) λ x w r.
          let line = line_same s es D E d p at l z y ((moves.ends.alike q).fits pcdata) in
          subst (λ (m : ℕ). Both R (λ (x w : List Event). x ≡ w) (Rest D turns x.at (line_after s es D d p at l z) x.state) (Rest E turns m (line_after s es E d p at l y) w.state)) (r.first ∙ sym r.second)
          (subst (λ (k : Line). Both R (λ (x w : List Event). x ≡ w) (Rest D turns x.at (line_after s es D d p at l z) x.state) (Rest E turns x.at k w.state)) line
          (pieces_within_both turns x.at (line_after s es D d p at l z) r.keeps)))))

      -- Two readings of the whole document.
      pub document_both : Q nothing_open nothing_open → Both R (λ (x w : List Event). x ≡ w) (document c s es D d) (document c s es E d)
      unfolding document
      document_both q = on (pieces_within_both (suc (length d)) 0 new_line q) (λ x w e. read (ap (λ (ev : List Event). with_attributes c.name_length s es d (records_settled c d ev)) e))

-- One state

-- What the moves keep of a state, kept of a state and itself.
pub record Keeps (s : List ℕ) (es : List Element) (D E : Decisions) (P : State → Type 0) : Type 0 where
  pub alike : {z : State} → P z → Answers s es D E z.current z.current
  pub note : {z : State} → P z → (e : Event) → eqb e.kind 5 ≡ false → P (note e z)
  pub leave : {z : State} → P z → P (parent z)

abbrev pub Itself : (State → Type 0) → State → State → Type 0
Itself P z y = (z ≡ y) × P z

pub keeps_ends : {s : List ℕ} {es : List Element} {D E : Decisions} {P : State → Type 0} → Keeps s es D E P → Ends s es D E (Itself P)
keeps_ends {s} {es} {D} {E} keeps =
    record {
      alike = λ {z} {y} q. subst (λ (w : State). Answers s es D E z.current w.current) q.0 (keeps.alike q.1);
      events = λ q. ap (λ (w : State). w.events) q.0;
      depth = λ q. ap (λ (w : State). length w.around) q.0;
      note = λ q e k. (ap (note e) q.0, keeps.note q.1 e k);
      leave = λ q. (ap parent q.0, keeps.leave q.1);
    }

pub answers_itself : (s : List ℕ) (es : List Element) (D : Decisions) (o : Open) → Answers s es D D o o
answers_itself s es D o = record { element = refl; fits = λ t. refl; complete = refl; required = refl }

-- Where nothing is asked of the state.
abbrev pub AnyState : State → Type 0
AnyState z = Unit {0}

pub any_moves : (s : List ℕ) (es : List Element) (D : Decisions) → Moves s es D D (Itself AnyState)
any_moves s es D =
    record {
      ends = keeps_ends (record { alike = λ {z} x. answers_itself s es D z.current; note = λ x e k. tt; leave = λ x. tt });
      taking = λ q p c. (ap (take_place p) q.0, tt);
      enter = λ q k m. (ap (enter k) q.0, tt);
    }

pub any_datum : (at : ℕ) (z y : State) → Itself AnyState z y → Itself AnyState (with_datum at z) (with_datum at y)
any_datum at z y q = (ap (with_datum at) q.0, tt)

-- A state and itself are fresh alike.
pub itself_fresh : (P : State → Type 0) (z y : State) → Itself P z y → is_fresh z.current ≡ is_fresh y.current
itself_fresh P z y q = ap (λ (w : State). is_fresh w.current) q.0

-- A document that is read

-- Reading comes behind the last byte, and what the document's end gives there are the events ev.
pub record AtEnd (c : Settings) (s : List ℕ) (es : List Element) (D : Decisions) (d : List ℕ) (ev : List Event) : Type 0 where
  pub at : ℕ
  pub line : Line
  pub there : State
  pub passes : Passes c s es D d at line there
  pub over : length d ≤ at
  pub gives : end_document s es D (length d) there ≡ got ev

module _ (c : Settings) (s : List ℕ) (es : List Element) (D : Decisions) (d : List ℕ) where
  pieces_come : (turns at : ℕ) (l : Line) (z : State) → Passes c s es D d at l z → holds.Gives (AtEnd c s es D d) (pieces_within c s es D d turns at l z)
  unfolding pieces_within
  pieces_come zero at l z h = stops tt
  pieces_come (suc turns) at l z h =
      holds.either (leb (length d) at)
      (λ e. holds.each (end_document s es D (length d) z) (λ n k i. tt) (λ ev i. record { at = at; line = l; there = z; passes = h; over = leb-true (length d) at e; gives = i }))
      (λ e. holds.on (holds.each (piece_under c s es d at l z.current) (λ n k i. tt) (λ p i. i)) λ p i.
      holds.on (holds.each (settle_piece s es D d p at z) (λ n k j. tt) (λ r j. j)) λ r j.
      pieces_come turns r.at (line_after s es D d p at l z) r.state (goes r h (leb-false (length d) at e) i j))

  -- Its events are those, without the bytes 13 that are ignored as the last, and with attribute events before each start.
  pub record Came (given : List Event) : Type 0 where
    pub events : List Event
    pub end : AtEnd c s es D d events
    pub shown : given ≡ with_attributes c.name_length s es d (records_settled c d events)

  pub document_came : (given : List Event) → document c s es D d ≡ got given → Came given
  unfolding document
  document_came given e = holds.got_so {P = Came} (holds.on (pieces_come (suc (length d)) 0 new_line nothing_open begins) (λ ev a. reads (record { events = ev; end = a; shown = refl }))) e
