-- Where the last place is taken again, as by each further byte of a run of data, the open elements stand for the rules' state as before.
use Rattle.std.specs.Prelude.{ℕ, ◌≡◌, Bool, List}
use Rattle.std.proofs.Common.{sym, ◌∙◌, subst}
use Rattle.rules.specs.Walk.{Group, Begins}
use Rattle.rules.specs.TypeFile.{Place, model, Element}
use Rattle.rules.specs.Elements.{content_of}
use Rattle.rules.specs.Settling.{State}
use Rattle.rules.specs.Settling as rules
use Rattle.and_laws.specs.Ranked.{levels}
use Rattle.member_laws.specs.Members.{AllMarked, Standing}
use Rattle.document_laws.specs.Moves.{state}
use Rattle.document_laws.specs.Same.{Begun}
use Rattle.turn_laws.specs.RunAtOnce.{Again}
use Rattle.turn_laws.specs.Again.{again_complete, again_required}
use Rattle.type_tables.specs.Tables.{Entered}
use Rattle.open_elements.specs.declared.Entry.{Entry}
use Rattle.open_elements.specs.declared.OpenElements.{OpenElements}
use Rattle.open_elements.specs.Stands.{Kept, Stands}

module _ {es : List Element} {M begun : List ℕ} where
  entered_again : {level e u : ℕ} {o v : rules.Open} → Entered es M begun level e u o → Again o v → Begun es v → Entered es M begun level e u v
  entered_again {level} {e} {u} {o} {v} h a b =
      record { number = number; declared = h.declared; place = h.place; begins = begins; stands = λ c. stands (h.stands c) }
    where
      number : v.element ≡ e
      number = a.element ∙ h.number

      begins : {g : Group} {ps : List Place} {n : ℕ} → content_of es e ≡ model g ps n → Begins g v.taken
      begins {g} {ps} {n} c =
          let has = b.has in
          let at = number in
          let i : b.group ≡ g = cc in
          rw i at b.begins

      stands : {g : Group} → Standing begun level M e g u o.taken → Standing begun level M e g u v.taken
      stands {g} h =
          record {
            last = a.ends u h.last;
            marked = λ l p i. subst (λ (S : ℕ → Bool). AllMarked begun level M e S (levels g 0 p)) (sym a.same) (h.marked l p i);
          }

  kept_again : {level : ℕ} {x : Entry} {o v : rules.Open} → Kept es M begun level x o → Again o v → Begun es v → Kept es M begun level x v
  kept_again {x = x} h a b =
      record {
        entered = entered_again h.entered a b;
        complete = h.complete ∙ sym (again_complete a (content_of es x.element));
        required = h.required ∙ sym (again_required a (content_of es x.element));
        document = h.document;
        inner = h.inner;
      }

  pub stands_again : {o : OpenElements} {z : State} {v : rules.Open} → Stands es M begun o z → Again z.current v → Begun es v → Stands es M begun o (state v z.around z.events)
  stands_again h a b = record { whole = h.whole; few = h.few; current = kept_again h.current a b; around = h.around }
