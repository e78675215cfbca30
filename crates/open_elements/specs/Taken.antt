-- The places that an open element can take, and the marks that are made where one is taken.
use Rattle.std.specs.Prelude.{ℕ, ◌+◌, ◌≤◌, ◌<◌, ◌≡◌, Bool, List, get_or}
use Rattle.std.proofs.Math.Path.{refl}
use Rattle.std.proofs.Common.{◌∙◌, ⊎_elim, arith, eq-eqb, ne_eqb}
use Rattle.std.proofs.Math.Decide.{ℕ_discrete}
use Rattle.rules.specs.TypeFile.{Content, empty, model, Element}
use Rattle.rules.specs.Elements.{content_of}
use Rattle.rules.specs.Decisions.{Token}
use Rattle.rules.specs.Settling as rules
use Rattle.rules.specs.Bytes.{GRPGTCNT}
use Rattle.layout.specs.Sizes.{REQUIRED}
use Rattle.layout.specs.declared.Place.{Place}
use Rattle.document_laws.specs.Decide.{fits_in, required_for, decided}
use Rattle.document_laws.specs.OneReading.{accepted_decided}
use Rattle.and_groups.specs.Takes.{Takes, FREE}
use Rattle.type_tables.specs.Tables.{row_at, complete_at, Tables, Entered, CanTake}
use Rattle.type_tables.specs.Marks.{took_plain, took_among, entered_required}
use Rattle.open_elements.specs.Stands.{Weighs, Marking}

-- The place as which a token fits, and the required place, can be taken.
module _ {s : List ℕ} {es : List Element} {rows places facts M begun : List ℕ} {level e u : ℕ} {o : rules.Open} (tables : Tables s es rows places facts M) (h : Entered es M begun level e u o) where
  pub can_fit : (t : Token) → 1 ≤ rules.fitting s es (decided s es) o t → CanTake es o (rules.fitting s es (decided s es) o t)
  unfolding fits_in
  can_fit t l = by_content (content_of es o.element) refl
    where
      by_content : (c : Content) → content_of es o.element ≡ c → CanTake es o (rules.fitting s es (decided s es) o t)
      by_content empty i = absurd (omega (arith, rw (i, fits_in) at l))
      by_content (model g ps n) i =
          record {
            group = g;
            places = ps;
            tokens = n;
            content = i;
            next = ((((accepted_decided s es tables.accepted).walks o.element i o.taken (h.begins (rw h.number at i))).fits t).some l).next;
          }

  pub can_require : 1 ≤ rules.required_place s es (decided s es) o → CanTake es o (rules.required_place s es (decided s es) o)
  unfolding required_for
  can_require l = by_content (content_of es o.element) refl
    where
      by_content : (c : Content) → content_of es o.element ≡ c → CanTake es o (rules.required_place s es (decided s es) o)
      by_content empty i = absurd (omega (arith, rw (i, required_for) at l))
      by_content (model g ps n) i =
          record {
            group = g;
            places = ps;
            tokens = n;
            content = i;
            next = (((accepted_decided s es tables.accepted).walks o.element i o.taken (h.begins (rw h.number at i))).required.some l).next;
          }

-- The marks

-- They are kept by what one of two branches made of them.
pub marking_same : {rows M before : List ℕ} {level e u p : ℕ} {after begun : List ℕ} {c d : Bool} {q : ℕ} {r : Place} → begun ≡ after → d ≡ c → r.0 ≡ q
    → Marking rows M before level e u p after c q → Marking rows M before level e u p begun d r.0
marking_same i j k m = rw (i, j, k) m

module _ {rows M before : List ℕ} {level e u p kept : ℕ} (read : kept ≡ get_or rows (row_at e p + REQUIRED) 0) {c : Bool} (row : c ≡ complete_at rows e p) where
  -- A model without "&": the row has them.
  pub marking_plain : kept ≤ GRPGTCNT → Marking rows M before level e u p before c kept
  marking_plain l =
      record {
        small = l;
        whole = refl;
        elsewhere = λ k j other few. refl;
        marks = λ s es places facts tables o entered can.
            let (there, complete, required) = took_plain tables entered can read l in
            (there, row ∙ complete, required);
      }

  -- A model with "&": what its groups leave of them.
  pub marking_among : GRPGTCNT < kept → {after : List ℕ} {r : ℕ} → Takes M level e u p before after r → {d : Bool} {q : ℕ} → Weighs r c kept d q → Marking rows M before level e u p after d q
  marking_among large {after} {r} takes {d} {q} w = by_answer (ℕ_discrete r FREE)
    where
      by_answer : Dec (r ≡ FREE) → Marking rows M before level e u p after d q
      by_answer (no n) =
          let (marked, due) = w.held n in
          record {
            small = rw due (⊎_elim (λ i. absurd (n i)) (λ l. l) takes.small);
            whole = takes.whole;
            elsewhere = takes.elsewhere;
            marks = λ s es places facts tables o entered can.
                let (there, complete, required) = took_among tables entered can read large takes in
                (there, marked ∙ (rw (ne_eqb r FREE n) at complete), due ∙ (rw (ne_eqb r FREE n) at required));
          }
      by_answer (yes i) =
          let (marked, small, low) = w.free i in
          record {
            small = small;
            whole = takes.whole;
            elsewhere = takes.elsewhere;
            marks = λ s es places facts tables o entered can.
                let (there, complete, required) = took_among tables entered can read large takes in
                let due = rw (eq-eqb r FREE i) at required in
                (there, marked ∙ row ∙ (rw (eq-eqb r FREE i) at complete), low large (omega (arith, due, entered_required tables there)) ∙ due);
          }
