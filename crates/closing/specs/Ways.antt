-- What `end_tag` and `finish` promise, by each way that their code goes.
use Rattle.std.specs.Prelude.{ℕ, ◌+◌, ◌-◌, ◌≤◌, ◌<◌, ◌≡◌, Bool, true, false, List, [], ◌∷◌, ◌++◌, length}
use Rattle.std.proofs.Common.{ap, sym, ◌∙◌, append_assoc, arith, length-append}
use Rattle.rules.specs.Reading.{Reading, got, and_then}
use Rattle.rules.specs.TypeFile.{Element}
use Rattle.rules.specs.Events.{Event, end_written}
use Rattle.rules.specs.Settling.{State, is_open, close_from, end_element, end_from, end_document}
use Rattle.rules.specs.Settling as rules
use Rattle.rules_laws.specs.BeforeStarts.{plain_none, plain_then, plain_end_written}
use Rattle.rules.specs.Bytes.{TAGLVL}
use Rattle.text.specs.declared.Refusal.{Refusal}
use Rattle.text.specs.declared.Refusal.TheVariants.{NotOpen, Incomplete, NoDocument}
use Rattle.text.specs.Refusal.{number_of}
use Rattle.document_laws.specs.Decide.{decided}
use Rattle.type_tables.specs.Tables.{Facts}
use Rattle.event_buffer.specs.Buffers.{noted, Puts}
use Rattle.event_buffer.specs.EventByEvent.{puts_none, puts_then}
use Rattle.open_elements.specs.declared.OpenElements.{OpenElements}
use Rattle.open_elements.specs.declared.Outcome.{Outcome}
use Rattle.open_elements.specs.Stands.{bare, ended, Ranged, Stands}
use Rattle.open_elements.specs.Becomes.{StandsWith}
use Rattle.open_elements.specs.Methods.{stands_open, stands_element, stands_around, stands_alone, ranged_ended}
use Rattle.left_out_ends.specs.Until.{Refused, UntilGot, UntilRefused}
use Rattle.left_out_ends.specs.Ends.{inferred_from, close_on, close_none, close_ends_lem, end_on, end_ends, element_open, element_shut, close_incomplete, close_complete, document_end, end_incomplete, end_complete}
use Rattle.left_out_ends.specs.Loop.{stands_complete, stands_numbered, left}
use Rattle.closing.specs.Closed.{TaggedGot, TaggedRefused, FinishedGot, FinishedRefused}
use Rattle.basic_laws.specs.Numbers.{none_there}

-- An end tag

pub tag_unopened : (facts : List ℕ) (x at after n : ℕ) (o : OpenElements) (numbers bytes : List ℕ) → is_open x (bare o) ≡ false → TaggedRefused facts x at after n o numbers bytes NotOpen numbers bytes
tag_unopened facts x at after n o numbers bytes i =
    record {
      put = record { small = omega arith; events = []; puts = puts_none numbers bytes n; plain = plain_none };
      few = omega arith;
      closes = λ s es raised f M begun z st. element_shut s es (decided s es) x at after z (sym (stands_open st x) ∙ i);
    }

-- An end tag of an element that is open goes on from where no more ends are inferred.
tag_on : (s : List ℕ) (es : List Element) {M begun : List ℕ} (x at after : ℕ) {o : OpenElements} → is_open x (bare o) ≡ true → (z : State) → Stands es M begun o z
    → end_element s es (decided s es) x at after z ≡ and_then (inferred_from s es (decided s es) x at z) (close_on s es (decided s es) x at after)
tag_on s es x at after there z st =
    element_open s es (decided s es) x at after z (sym (stands_open st x) ∙ there) ∙ close_ends_lem s es (decided s es) x at after z.around z.current z.events

module _ {facts : List ℕ} {x at : ℕ} (after : ℕ) {n : ℕ} {o : OpenElements} {numbers bytes : List ℕ} (ranged : Ranged o) (there : is_open x (bare o) ≡ true) where
  -- An end before the tag's own is refused.
  pub tag_refused : {r : Refusal} {numbers' bytes' : List ℕ} → UntilRefused facts x at n o numbers bytes r numbers' bytes' → TaggedRefused facts x at after n o numbers bytes r numbers' bytes'
  tag_refused u =
      record {
        put = u.put;
        few = omega (arith, u.few, ranged.few);
        closes = λ s es raised f M begun z st. tag_on s es x at after there z st ∙ ap (λ (d : Reading State). and_then d (close_on s es (decided s es) x at after)) (u.ends s es raised f M begun z st);
      }

  module _ {r : Outcome} {numbers' bytes' : List ℕ} (u : UntilGot facts x at n o numbers bytes r numbers' bytes') where
    abbrev events : List Event
    events = u.brings.events

    fewer : length events ≤ TAGLVL
    fewer = omega (arith, u.few, ranged.few)

    -- What is refused after these ends.
    abbrev after_ends : (f : Refusal) → number_of f < 20 → Refused n numbers bytes f numbers' bytes'
    after_ends f h = record { small = h; events = events; puts = u.brings.puts; plain = u.brings.plain }

    -- Where no more ends are inferred, it closes the element that is current there.
    tag_there : (s : List ℕ) (es : List Element) (raised : ℕ → Bool) → Facts s es raised facts → (M begun : List ℕ) (z : State) → Stands es M begun o z
        → (y : State) × StandsWith es M begun r.open (z.events ++ events) y × (end_element s es (decided s es) x at after z ≡ close_on s es (decided s es) x at after y)
    tag_there s es raised f M begun z st =
        let (y, e, here) = u.ends s es raised f M begun z st in
        (y, here, tag_on s es x at after there z st ∙ ap (λ (d : Reading State). and_then d (close_on s es (decided s es) x at after)) e)

    -- Nothing is around what is left.
    pub tag_outermost : r.open.count ≡ 0 → TaggedRefused facts x at after n o numbers bytes NotOpen numbers' bytes'
    tag_outermost l =
        record {
          put = after_ends NotOpen (omega arith);
          few = omega (arith, fewer);
          closes = λ s es raised f M begun z st.
              let (y, here, e) = tag_there s es raised f M begun z st in
              e
              ∙ ap (λ (os : List rules.Open). close_from s es (decided s es) x at after os y.current y.events) (stands_alone here.0 l)
              ∙ close_none s es (decided s es) x at after y.current y.events;
        }

    module _ (l : 1 ≤ r.open.count) where
      pub tag_incomplete : r.open.complete ≡ false → TaggedRefused facts x at after n o numbers bytes Incomplete numbers' bytes'
      tag_incomplete t =
          record {
            put = after_ends Incomplete (omega arith);
            few = omega (arith, fewer);
            closes = λ s es raised f M begun z st.
                let (y, here, e) = tag_there s es raised f M begun z st in
                let a = stands_around here.0 l in
                e
                ∙ ap (λ (os : List rules.Open). close_from s es (decided s es) x at after os y.current y.events) a.are
                ∙ close_incomplete s es (decided s es) x at after a.parent a.others y.current y.events (here.0.current.entered.number ∙ u.reached l) (stands_complete here.0 s ∙ t);
          }

      pub tag_closed : r.open.complete ≡ true → {next : OpenElements} {m : ℕ} {numbers'' bytes'' : List ℕ} → next ≡ ended r.open → m ≡ r.events + 1 → Puts numbers' bytes' r.events (noted 3 x at (after - at) 0 ∷ []) numbers'' bytes''
          → TaggedGot facts x at after n o numbers bytes (left next m) numbers'' bytes''
      tag_closed t e c p =
          let event = end_written x at after in
          let sizes = length-append events (event ∷ []) in
          let b = u.brings in
          rw e (record {
            brings = record { ranged = ranged_ended b.ranged l; events = events ++ event ∷ []; puts = puts_then b.puts b.counted p; counted = omega (arith, b.counted); plain = plain_then b.plain (plain_end_written x at after) };
            few = omega (arith, fewer);
            closes = λ s es raised f M begun z st.
                let (y, here, i) = tag_there s es raised f M begun z st in
                let a = stands_around here.0 l in (
                  _,
                  i
                      ∙ ap (λ (os : List rules.Open). close_from s es (decided s es) x at after os y.current y.events) a.are
                      ∙ close_complete s es (decided s es) x at after a.parent a.others y.current y.events (here.0.current.entered.number ∙ u.reached l) (stands_complete here.0 s ∙ t),
                  (a.stands (y.events ++ event ∷ []), ap (λ ev. ev ++ event ∷ []) here.1 ∙ append_assoc z.events events (event ∷ [])),
                );
          })

-- The document's end

end_on_lem : (s : List ℕ) (es : List Element) {M begun : List ℕ} (at : ℕ) {o : OpenElements} (z : State) → Stands es M begun o z → end_document s es (decided s es) at z ≡ and_then (inferred_from s es (decided s es) 0 at z) (end_on s es (decided s es) at)
end_on_lem s es at z st = document_end s es (decided s es) at z ∙ end_ends s es (decided s es) at z.around z.current z.events (stands_numbered st)

module _ {facts : List ℕ} {at n : ℕ} {o : OpenElements} {numbers bytes : List ℕ} (few : o.count ≤ TAGLVL) where
  pub end_refused : {r : Refusal} {numbers' bytes' : List ℕ} → UntilRefused facts 0 at n o numbers bytes r numbers' bytes' → FinishedRefused facts at n o numbers bytes r numbers' bytes'
  end_refused u =
      record {
        put = u.put;
        few = omega (arith, u.few, few);
        ends = λ s es raised f M begun z st. end_on_lem s es at z st ∙ ap (λ (d : Reading State). and_then d (end_on s es (decided s es) at)) (u.ends s es raised f M begun z st);
      }

  module _ {r : Outcome} {numbers' bytes' : List ℕ} (u : UntilGot facts 0 at n o numbers bytes r numbers' bytes') where
    abbrev put : List Event
    put = u.brings.events

    fewest : length put ≤ TAGLVL
    fewest = omega (arith, u.few)

    -- What is left is the document itself: every element has a number.
    end_there : (s : List ℕ) (es : List Element) (raised : ℕ → Bool) → Facts s es raised facts → (M begun : List ℕ) (z : State) → Stands es M begun o z
        → (y : State) × StandsWith es M begun r.open (z.events ++ put) y × (end_document s es (decided s es) at z ≡ end_from s es (decided s es) at [] y.current y.events)
    end_there s es raised f M begun z st =
        let (y, e, there) = u.ends s es raised f M begun z st in
        let outside : r.open.count ≡ 0 = none_there r.open.count (λ l. omega (arith, stands_element there.0 l, u.reached l)) in (
          y,
          there,
          end_on_lem s es at z st
              ∙ ap (λ (d : Reading State). and_then d (end_on s es (decided s es) at)) e
              ∙ ap (λ (os : List rules.Open). end_from s es (decided s es) at os y.current y.events) (stands_alone there.0 outside),
        )

    pub end_unfinished : r.open.complete ≡ false → FinishedRefused facts at n o numbers bytes NoDocument numbers' bytes'
    end_unfinished t =
        record {
          put = record { small = omega arith; events = put; puts = u.brings.puts; plain = u.brings.plain };
          few = omega (arith, fewest);
          ends = λ s es raised f M begun z st.
              let (y, here, e) = end_there s es raised f M begun z st in
              e ∙ end_incomplete s es (decided s es) at y.current y.events (stands_complete here.0 s ∙ t);
        }

    pub end_finished : r.open.complete ≡ true → FinishedGot facts at n o numbers bytes r numbers' bytes'
    end_finished t =
        record {
          brings = u.brings;
          few = omega (arith, fewest);
          ends = λ s es raised f M begun z st.
              let (y, here, e) = end_there s es raised f M begun z st in
              e ∙ end_complete s es (decided s es) at y.current y.events (stands_complete here.0 s ∙ t) ∙ ap got here.1;
        }
