-- When an end is inferred, and when the document is over.
use Rattle.std.specs.Prelude.{ℕ, suc, zero, ◌≤◌, ◌<◌, ◌≡◌, refl, Bool, true, false, ◌&&◌, List, [], ◌∷◌, eqb, leb}
use Rattle.std.proofs.Common.{sym, ◌∙◌, ap, arith, le-leb}
use Rattle.std.proofs.Math.Bool.{and-true, and-false}
use Rattle.rules.specs.TypeFile.{Element}
use Rattle.rules.specs.Elements.{content_of, end_o}
use Rattle.rules.specs.Settling.{State, is_over}
use Rattle.rules.specs.Settling as rules
use Rattle.document_laws.specs.Decide.{is_complete_in, decided}
use Rattle.open_elements.specs.declared.OpenElements.{OpenElements}
use Rattle.open_elements.specs.Stands.{ended, Stands}
use Rattle.open_elements.specs.Methods.{stands_element, stands_around, stands_alone}
use Rattle.ways.specs.Asks.{may_end}

-- By a parent, and by the number and the mark that are kept.
ends_by : (s : List ℕ) (es : List Element) (v u : rules.Open) (us others : List rules.Open) {k j : ℕ} {b : Bool} → us ≡ u ∷ others → v.element ≡ k → u.element ≡ j → b ≡ is_complete_in (content_of es k) v.taken
    → may_end s es (decided s es) v us ≡ b && (end_o es k && leb 1 j)
ends_by s es v u us others e i l m = rw (e, i, l, m)

module _ (s : List ℕ) {es : List Element} {M begun : List ℕ} {o : OpenElements} {z : State} (stands : Stands es M begun o z) where
  -- The document is over where nothing is open and its content is complete.
  pub over_says : (eqb o.element.0 0 && o.complete) ≡ is_over s es (decided s es) z
  over_says = rw stands.current.entered.number (ap (λ b. eqb o.element.0 0 && b) stands.current.complete)

  -- An end is inferred by the marks, and if the parent is an element.
  may_end_lem : 1 ≤ o.count → may_end s es (decided s es) z.current z.around ≡ o.complete && (end_o es o.element.0 && leb 1 (ended o).element.0)
  may_end_lem some =
      let a = stands_around stands some in
      ends_by s es z.current a.parent z.around a.others a.are stands.current.entered.number a.number stands.current.complete

  pub incomplete_stays : 1 ≤ o.count → o.complete ≡ false → false ≡ may_end s es (decided s es) z.current z.around
  incomplete_stays some e = sym (may_end_lem some ∙ rw e)

  -- Nothing is open but the document element: the document lies around it.
  pub document_stays : o.count ≤ 1 → false ≡ may_end s es (decided s es) z.current z.around
  document_stays l = by_count o.count refl
    where
      by_count : (n : ℕ) → o.count ≡ n → false ≡ may_end s es (decided s es) z.current z.around
      by_count zero e = rw (stands_alone stands e) refl
      by_count (suc n) e =
          let document : (ended o).element.0 ≡ 0 = ((stands_around stands (omega arith)).stands []).current.document (omega arith) in
          sym (may_end_lem (omega arith) ∙ rw document (ap (λ b. o.complete && b) (and-false (end_o es o.element.0)) ∙ and-false o.complete))

  -- Any other element's parent is an element.
  pub ends_in_parent : 1 < o.count → o.complete ≡ true → end_o es o.element.0 ≡ may_end s es (decided s es) z.current z.around
  ends_in_parent l e =
      let inner : 1 ≤ (ended o).element.0 = stands_element ((stands_around stands (omega arith)).stands []) (omega arith) in
      sym (may_end_lem (omega arith) ∙ rw (e, le-leb 1 (ended o).element.0 inner) (and-true (end_o es o.element.0)))
