-- Each start took the one place that the walks allow for its name, by demand 3.
use Rattle.std.specs.Prelude.{ℕ, zero, suc, ◌-◌, ◌≤◌, ◌<◌, ◌≡◌, refl, true, ◌⊎◌}
use Rattle.std.proofs.Math.Path.{sym, ap}
use Rattle.std.proofs.Common.{◌∙◌, ap₂, subst, inl, inr, ⊎_elim, arith, length-append, le-leb, eq-eqb, ne_eqb}
use Rattle.std.proofs.lemmas.Bool.{false≢true}
use mathlib.Core.List.{List, [], ◌∷◌, ◌++◌, Memᴰ}
use Rattle.std.proofs.Math.ListN.{length}
use Rattle.rules.specs.Settings.{Settings}
use Rattle.rules.specs.Walk.{Group, last_or0}
use Rattle.rules.specs.Ambiguity.{SpellSame, none, next}
use Rattle.rules.specs.TypeFile.{Place, model, Element}
use Rattle.rules.specs.Judge.{same_place, place_at, Accepts}
use Rattle.rules.specs.Elements.{element_at, is_named, number_of, content_of, places_in, has_model}
use Rattle.rules.specs.Decisions.{Token, start, pcdata, Fits, Decisions, Means}
use Rattle.rules.specs.Events.{Event, data_run}
use Rattle.rules.specs.Settling.{Open, State, take_place, shown, place_taken, fitting, required_place, inferable, take_token}
use Rattle.rules.specs.Acts.{Declared, data_taken, Deed, opened, passed, inferred, fitted, inferred_end, closed, Deeds, nothing, then, IsStart, Took, document_element, in_model}
use Rattle.text.specs.Words.{same_text_refl}
use Rattle.rules_laws.specs.Names.{same_place_refl}
use Rattle.and_laws.specs.Begun.{last_or0_snoc, next_range}
use Rattle.rules_laws.specs.Groups.{GuardedIn}
use Rattle.document_laws.specs.Chain.{inferable_named}
use Rattle.document_laws.specs.Decide.{names_same, content_guarded}
use Rattle.document_laws.specs.Numbers.{type_file_guarded}
use Rattle.document_laws.specs.Chain.{inferable_may}
use Rattle.document_laws.specs.Moves.{place_taken_took, fits, required}
use Rattle.document_laws.specs.Same.{Begun, AllBegun, nothing_begun, begun_moves}
use Rattle.type_laws.specs.Names.{type_file_distinct, named_number}
use Rattle.type_laws.specs.Width.{type_file_width}
use Rattle.acts.specs.Sequences.{ended_begun}
use Rattle.answer_laws.specs.Judge.{names_alone}

-- An element whose content is a model is one of the type's: past the last there is none.
element_in : (es : List Element) (k : ℕ) {g : Group} {ps : List Place} {n : ℕ} → (element_at es k).content ≡ model g ps n → Memᴰ (element_at es k) es
unfolding element_at
element_in [] k e = absurd (false≢true (ap has_model e))
element_in (x ∷ es) zero e = Memᴰ.head refl
element_in (x ∷ es) (suc k) e = Memᴰ.tail (element_in es k e)

-- The same places, and behind them two of one name, spell the same names.
spell_same : (s : List ℕ) (ps : List Place) (taken : List ℕ) (p q : ℕ) → same_place s ps p q ≡ true → SpellSame (same_place s ps) (taken ++ p ∷ []) (taken ++ q ∷ [])
spell_same s ps [] p q e = next e none
spell_same s ps (u ∷ taken) p q e = next (same_place_refl s ps u) (spell_same s ps taken p q e)

-- Data that takes its place adds no event yet.
pub data_keeps : (s : List ℕ) (es : List Element) (D : Decisions) (n : ℕ) (z : State) → (data_taken s es D n z).events ≡ z.events
data_keeps s es D zero z = refl
data_keeps s es D (suc n) z = data_keeps s es D n z

module _ {c : Settings} (s : List ℕ) (es : List Element) (accepted : Accepts c s es) where
  -- Demand 3: of two places that a start fits as next after the same places, both are one.
  only_place : (k : ℕ) {g : Group} {ps : List Place} {n : ℕ} → content_of es (suc k) ≡ model g ps n → (taken : List ℕ) (t : Token) (p q : ℕ) → Fits s es g ps taken t p → Fits s es g ps taken t q → q ≡ p
  only_place k {g} {ps} {n} e taken t p q x y =
      let same = names_alone s g ps accepted.unambiguous (element_in es k e) e (taken ++ q ∷ []) (taken ++ p ∷ []) y.next x.next (spell_same s ps taken q p (names_same s es ps t q p y.name x.name)) in
      sym (last_or0_snoc taken q) ∙ ap last_or0 same ∙ last_or0_snoc taken p

  -- A place of a model that may come next is one of its places.
  place_range : (m : ℕ) {g : Group} {ps : List Place} {n : ℕ} → content_of es m ≡ model g ps n → (taken : List ℕ) (t : Token) (p : ℕ) → Fits s es g ps taken t p → (1 ≤ p) × (p ≤ length ps)
  place_range m {g} e taken t p x =
      let (many, few, numbered) = type_file_width c.name_length s es accepted.elements m e in
      let guarded = subst GuardedIn e (content_guarded es (type_file_guarded c.name_length s es accepted.elements accepted.unrepeated) m) in
      omega (arith, next_range g numbered guarded taken p x.next, many)

  -- The document itself has one place, that of the first element.
  first_named : {g : Group} {ps : List Place} {n : ℕ} → content_of es 0 ≡ model g ps n → (taken : List ℕ) (k p : ℕ) → 1 ≤ k → k ≤ length es → Fits s es g ps taken (start k) p → k ≡ 1
  unfolding place_at
  first_named {g} {ps} {n} e taken k p l h x =
      let whole : element_name ∷ [] ≡ ps = ap places_in e in
      let range = place_range 0 e taken (start k) p x in
      let one : p ≡ 1 = omega (arith, ap length whole) in
      let named = (named_number c.name_length s es accepted.elements ps k p l h).0 x.name in
      let at_first : number_of s es s element_name.at element_name.size ≡ k = rw (one, ← whole) at named in
      sym at_first ∙ type_file_distinct c.name_length s es accepted.elements 0 (omega arith) s element_name.at element_name.size itself
    where
      element_name : Place
      element_name = record { at = (element_at es 0).at; size = (element_at es 0).size }

      itself : is_named s (element_at es 0) s element_name.at element_name.size ≡ true
      itself = rw (eq-eqb (element_at es 0).size (element_at es 0).size refl, is_named) (same_text_refl s (element_at es 0).at (element_at es 0).size)

  -- A start of the element k that takes the place p, which fits.
  took_place : (o : Open) (b : Begun es o) (k p : ℕ) (e : Event) → 1 ≤ k → k ≤ length es → e.number ≡ k → e.place ≡ shown o.element p → Fits s es b.group b.places o.taken (start k) p → Took s es o e
  took_place o b k p e l h number place x = go o.element refl
    where
      go : (m : ℕ) → o.element ≡ m → Took s es o e
      go zero i = document_element i (number ∙ first_named (subst (λ (m : ℕ). content_of es m ≡ model b.group b.places b.tokens) i b.has) o.taken k p l h x) (place ∙ ap (λ (m : ℕ). shown m p) i)
      go (suc j) i =
          let has = subst (λ (m : ℕ). content_of es m ≡ model b.group b.places b.tokens) i b.has in
          let apart : shown (suc j) p ≡ p = rw (ne_eqb (suc j) 0 (λ z. omega arith), shown) in
          let same : e.place ≡ p = place ∙ ap (λ (m : ℕ). shown m p) i ∙ apart in
          in_model b.group b.places b.tokens (omega arith) b.has b.begins (rw same (place_range (suc j) has o.taken (start k) p x)) (rw (same, number) x)
          (λ q y. rw same (only_place j has o.taken (start k) p q x (rw number at y)))

  -- Each deed keeps that the places taken begin walks, adds one event, and a start took its place.
  module _ (D : Decisions) (means : Means s es D) where
    data_begun : (n : ℕ) (z : State) → AllBegun es z → ((k : ℕ) → k < n → 1 ≤ fitting s es D (data_taken s es D k z).current pcdata) → AllBegun es (data_taken s es D n z)
    data_begun zero z b f = b
    data_begun (suc n) z b f = ((begun_moves s es D D means means).taking (refl, data_begun n z b (λ k h. f k (omega arith))) _ (fits pcdata (f n (omega arith)))).1

    deed_begun : {z y : State} → AllBegun es z → Deed s es D z y → AllBegun es y
    deed_begun {z} b (opened k at after d f m) =
        let r = ((begun_moves s es D D means means).enter ((begun_moves s es D D means means).taking (refl, b) _ (fits (start k) f)) k m).1 in
        record { current = r.current; around = r.around }
    deed_begun {z} b (passed k at after d f m l) =
        let r = ((begun_moves s es D D means means).taking (refl, b) _ (fits (start k) f)).1 in
        record { current = r.current; around = r.around }
    deed_begun {z} b (inferred k at e l) =
        let may = inferable_may s es D z.current (rw e (le-leb 1 k l)) in
        let r = ((begun_moves s es D D means means).enter ((begun_moves s es D D means means).taking (refl, b) _ (required may.place)) k (rw e at may.model)).1 in
        record { current = r.current; around = r.around }
    deed_begun {z} b (fitted at size l f) =
        let r = data_begun size z b f in
        record { current = r.current; around = r.around }
    deed_begun {z} b (inferred_end u us at e c o) = ended_begun u us _ e b
    deed_begun {z} b (closed u us at after e c) = ended_begun u us _ e b

    pub deeds_begun : {z : State} → Deeds s es D z → AllBegun es z
    deeds_begun nothing = nothing_begun es
    deeds_begun (then d x) = deed_begun (deeds_begun d) x

    -- The event that a deed adds, and the place if it is a start; or the two events of an EMPTY element.
    data Adds (z y : State) : Type 0 where
      one : (x : Event) → y.events ≡ z.events ++ x ∷ [] → (IsStart x → Took s es z.current x) → ((IsStart x → ⊥) → x.place ≡ 0) → Adds z y
      both : (x w : Event) → y.events ≡ (z.events ++ x ∷ []) ++ w ∷ [] → x.kind ≡ 1 → Took s es z.current x → 3 ≤ w.kind → w.place ≡ 0 → Adds z y

    -- Another kind is no start's.
    no_start : {A : Type 0} (kind : ℕ) → 3 ≤ kind → (kind ≡ 1) ⊎ (kind ≡ 2) → A
    no_start kind l (inl h) = absurd (omega arith)
    no_start kind l (inr h) = absurd (omega arith)

    -- A start tag that fits, noted with the place that it took.
    fits_took : (z : State) (b : AllBegun es z) (k : ℕ) → Declared es k → 1 ≤ fitting s es D z.current (start k) → (e : Event) → e.number ≡ k → e.place ≡ place_taken (take_token s es D (start k) z).current → Took s es z.current e
    fits_took z b k d f e number place =
        let o = z.current in
        let x = b.current in
        let p = fitting s es D o (start k) in
        took_place o x k p e d.0 d.1 number (place ∙ place_taken_took o p) (((means.walks o.element x.has o.taken x.begins).fits (start k)).some f)

    required_took : (z : State) (b : AllBegun es z) (k : ℕ) → inferable s es D z.current ≡ k → 1 ≤ k → (e : Event) → e.number ≡ k → e.place ≡ place_taken (take_place (required_place s es D z.current) z).current → Took s es z.current e
    required_took z b k i l e number place =
        let o = z.current in
        let x = b.current in
        let p = required_place s es D o in
        let may = inferable_may s es D o (rw i (le-leb 1 k l)) in
        let declared : k ≤ length es = rw i at may.declared in
        let named : number_of s es s (place_at x.places (p - 1)).at (place_at x.places (p - 1)).size ≡ k = rw x.has at (inferable_named s es D o k i l) in
        let r = (means.walks o.element x.has o.taken x.begins).required.some may.place in
        took_place o x k p e l declared number (place ∙ place_taken_took o p)
        (record { name = (named_number c.name_length s es accepted.elements x.places k p l declared).1 named; next = r.next })

    deed_adds : {z y : State} → AllBegun es z → Deed s es D z y → Adds z y
    deed_adds {z} b (opened k at after d f m) = one _ refl (λ i. fits_took z b k d f _ refl refl) (λ n. absurd (n (inl refl)))
    deed_adds {z} b (passed k at after d f m l) = both _ _ refl refl (fits_took z b k d f _ refl refl) (omega arith) refl
    deed_adds {z} b (inferred k at e l) = one _ refl (λ i. required_took z b k e l _ refl refl) (λ n. absurd (n (inr refl)))
    deed_adds {z} b (fitted at size l f) = one (data_run at size) (ap (λ (ev : List Event). ev ++ data_run at size ∷ []) (data_keeps s es D size z)) (no_start 5 (omega arith)) (λ n. refl)
    deed_adds b (inferred_end u us at e c o) = one _ refl (no_start 4 (omega arith)) (λ n. refl)
    deed_adds b (closed u us at after e c) = one _ refl (no_start 3 (omega arith)) (λ n. refl)

-- An event of a list to which one is added is that one, or one of the list.
parted : (ev : List Event) (x : Event) (before : List Event) (e : Event) (after : List Event) → ev ++ x ∷ [] ≡ before ++ e ∷ after → ((ev ≡ before) × (x ≡ e)) ⊎ ((rest : List Event) × (ev ≡ before ++ e ∷ rest))
parted [] x [] e after i = inl (refl, cc)
parted [] x (b ∷ before) e after i = absurd (omega (arith, ap length i, length-append before (e ∷ after)))
parted (y ∷ ev) x [] e after i = inr (ev, let j : y ≡ e = cc in ap (λ (z : Event). z ∷ ev) j)
parted (y ∷ ev) x (b ∷ before) e after i =
    let j : y ≡ b = cc in
    let k : ev ++ x ∷ [] ≡ before ++ e ∷ after = cc in
    ⊎_elim (λ h. inl (ap₂ ◌∷◌ j h.0, h.1)) (λ h. inr (h.0, ap₂ ◌∷◌ j h.1)) (parted ev x before e after k)

module _ {c : Settings} (s : List ℕ) (es : List Element) (accepted : Accepts c s es) (D : Decisions) (means : Means s es D) where
  -- Where the event e comes behind those before it, a start took its place in the state that they lead to, and another carries 0.
  abbrev Told : List Event → Event → Type 0
  Told before e = (IsStart e → (z : State) × Deeds s es D z × (z.events ≡ before) × Took s es z.current e) × ((IsStart e → ⊥) → e.place ≡ 0)

  told_here : (z : State) → Deeds s es D z → (x : Event) → (IsStart x → Took s es z.current x) → ((IsStart x → ⊥) → x.place ≡ 0) → (before : List Event) (e : Event) → z.events ≡ before → x ≡ e → Told before e
  told_here z d x took other before e i j = subst (Told before) j ((λ k. (z, d, i, took k)), other)

  told_none : (w : Event) → 3 ≤ w.kind → w.place ≡ 0 → (before : List Event) (e : Event) → w ≡ e → Told before e
  told_none w l p before e j = subst (Told before) j (no_start s es accepted D means w.kind l, λ k. p)

  -- So it is of what a deed adds, and of the events before.
  added : {z y : State} → Deeds s es D z → (before : List Event) (e : Event) → ((rest : List Event) → z.events ≡ before ++ e ∷ rest → Told before e) → (after : List Event) → y.events ≡ before ++ e ∷ after
      → Adds s es accepted D means z y → Told before e
  added {z} d before e earlier after i (one x b took other) = ⊎_elim (λ p. told_here z d x took other before e p.0 p.1) (λ p. earlier p.0 p.1) (parted z.events x before e after (sym b ∙ i))
  added {z} d before e earlier after i (both x w b k took l n) =
      ⊎_elim (λ p. told_none w l n before e p.1)
      (λ p. ⊎_elim (λ q. told_here z d x (λ j. took) (λ j. absurd (j (inl k))) before e q.0 q.1) (λ q. earlier q.0 q.1) (parted z.events x before e p.0 p.1))
      (parted (z.events ++ x ∷ []) w before e after (sym b ∙ i))

  -- So it is of every event of a state that is what its events did.
  pub deeds_took : {y : State} → Deeds s es D y → (before : List Event) (e : Event) (after : List Event) → y.events ≡ before ++ e ∷ after → Told before e
  deeds_took nothing before e after i = absurd (omega (arith, ap length i, length-append before (e ∷ after)))
  deeds_took {y} (then {z} d x) before e after i = added d before e (λ rest j. deeds_took d before e rest j) after i (deed_adds s es accepted D means (deeds_begun s es accepted D means d) x)
