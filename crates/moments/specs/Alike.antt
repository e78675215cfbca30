-- OpenElements elements that stand for the same state are alike: the places taken decide the last of them and the marks.
use Rattle.std.specs.Prelude.{ℕ, zero, suc, ◌<◌, ◌≡◌, Bool, List, [], ◌∷◌, get_or}
use Rattle.std.proofs.Common.{sym, ◌∙◌, ap, arith}
use Rattle.std.proofs.Math.Decide.{ℕ_discrete}
use Rattle.rules.specs.Walk.{last_or0}
use Rattle.rules.specs.TypeFile.{Element}
use Rattle.rules.specs.Elements.{content_of}
use Rattle.rules.specs.Settling.{State}
use Rattle.rules.specs.Settling as rules
use Rattle.and_laws.specs.Begun.{last_is}
use Rattle.rules_laws.specs.In.{All, more}
use Rattle.document_laws.specs.Decide.{is_complete_in, required_for}
use Rattle.document_laws.specs.Same.{Begun, AllBegun}
use Rattle.open_elements.specs.declared.Entry.{Entry}
use Rattle.open_elements.specs.declared.OpenElements.{OpenElements}
use Rattle.open_elements.specs.Stands.{none, covered, Kept, AllKept, Stands}
use Rattle.open_elements.specs.Methods.{stands_deep}
use Rattle.moments.specs.Moment.{Alike}

made : {e f p q : ℕ} {c d : Bool} {r t : ℕ} → e ≡ f → p ≡ q → c ≡ d → r ≡ t
    → ◌≡◌ {A = Entry} (record { element = e; place = p; complete = c; required = r }) (record { element = f; place = q; complete = d; required = t })
made a b c d = rw (a, b, c, d)

module _ (es : List Element) (M : List ℕ) where
  -- What is kept of an open element in which the places taken begin a walk.
  kept_entry : {bits : List ℕ} {level : ℕ} (x : Entry) (o : rules.Open) → Kept es M bits level x o → Begun es o
      → x ≡ record { element = o.element; place = last_or0 o.taken; complete = is_complete_in (content_of es o.element) o.taken; required = required_for (content_of es o.element) o.taken }
  kept_entry x o h b =
      let e = h.entered.number in
      let place = last_is o.taken x.place (h.entered.stands (rw e at b.has)).last in
      made (sym e) (sym place) (h.complete ∙ ap (λ (k : ℕ). is_complete_in (content_of es k) o.taken) (sym e)) (h.required ∙ ap (λ (k : ℕ). required_for (content_of es k) o.taken) (sym e))

  entry_same : {bits other : List ℕ} {level deep : ℕ} (x y : Entry) (o : rules.Open) → Kept es M bits level x o → Kept es M other deep y o → Begun es o → x ≡ y
  entry_same x y o h j b = kept_entry x o h b ∙ sym (kept_entry y o j b)

  -- Each of the first n entries is kept of the same open element.
  each_same : (bits other : List ℕ) (a b : List Entry) (n : ℕ) (os : List rules.Open) → AllKept es M bits a n os → AllKept es M other b n os → All (Begun es) os → (k : ℕ) → k < n → get_or a k none ≡ get_or b k none
  each_same bits other a b zero os h j g k l = absurd (omega arith)
  each_same bits other a b (suc n) [] h j g k l = absurd h
  each_same bits other a b (suc n) (o ∷ os) h j (more i g) k l = by_place (entry_same (get_or a n none) (get_or b n none) o h.0 j.0 i) (each_same bits other a b n os h.1 j.1 g k) (ℕ_discrete k n)
    where
      by_place : get_or a n none ≡ get_or b n none → (k < n → get_or a k none ≡ get_or b k none) → Dec (k ≡ n) → get_or a k none ≡ get_or b k none
      by_place first rest (yes e) = rw e first
      by_place first rest (no e) = rest (omega arith)

pub stands_alike : {es : List Element} {M bits other : List ℕ} {o q : OpenElements} {z : State} → AllBegun es z → Stands es M bits o z → Stands es M other q z → Alike o q
stands_alike {es} {M} {bits} {other} {o} {q} {z} b h j =
    let counts : q.count ≡ o.count = sym (stands_deep j) ∙ stands_deep h in
    let entry : covered o ≡ covered q = entry_same es M (covered o) (covered q) z.current h.current j.current b.current in
    record {
      count = sym counts;
      element = ap (λ (v : Entry). v.element) entry;
      place = ap (λ (v : Entry). v.place) entry;
      complete = ap (λ (v : Entry). v.complete) entry;
      required = ap (λ (v : Entry). v.required) entry;
      around = λ k l. each_same es M bits other o.around q.around o.count z.around h.around (rw counts at j.around) b.around k l;
    }
