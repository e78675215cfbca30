-- The loop that infers ends: what the tables' answers say, each turn, and each way out.
use Rattle.std.specs.Prelude.{ℕ, zero, suc, ◌+◌, ◌≤◌, ◌<◌, ◌≡◌, refl, Bool, true, false, List, [], ◌∷◌, ◌++◌, length, get_or, Ok, Err}
use Rattle.std.proofs.Common.{ap, sym, ◌∙◌, subst, append_assoc, append-nil, arith, length-append}
use Rattle.rules.specs.Reading.{Reading, got, and_then}
use Rattle.rules.specs.TypeFile.{Element}
use Rattle.rules.specs.Elements.{content_of, end_o}
use Rattle.rules.specs.Decisions.{start}
use Rattle.rules.specs.Events.{Event, end_inferred}
use Rattle.rules.specs.Settling.{State, is_complete, end_left_out}
use Rattle.rules.specs.Settling as rules
use Rattle.text.specs.declared.Refusal.{Refusal}
use Rattle.text.specs.declared.Refusal.TheVariants.{Incomplete, EndMissing}
use Rattle.rules_laws.specs.BeforeStarts.{Plain, plain_none, plain_then, plain_end_inferred}
use Rattle.document_laws.specs.Decide.{is_complete_in, decided}
use Rattle.document_laws.specs.Moves.{state}
use Rattle.type_tables.specs.Tables.{Declares, Facts}
use Rattle.event_buffer.specs.Buffers.{noted, Puts}
use Rattle.event_buffer.specs.EventByEvent.{puts_none, puts_then}
use Rattle.open_elements.specs.declared.Entry.{Entry}
use Rattle.open_elements.specs.declared.OpenElements.{OpenElements}
use Rattle.open_elements.specs.declared.Outcome.{Outcome}
use Rattle.open_elements.specs.Stands.{none, ended, Ranged, Kept, AllKept, Stands}
use Rattle.open_elements.specs.Methods.{stands_declared, stands_around, stands_alone, ranged_ended}
use Rattle.left_out_ends.specs.Until.{infer_ends, Judges, Brings, UntilGot, UntilRefused}
use Rattle.left_out_ends.specs.Ends.{inferred_from, Numbered, left_incomplete, left_required, left_out, ends_here, ends_none, ends_past}

-- What the open elements say of the state that they stand for

module _ {es : List Element} {M begun : List ℕ} {o : OpenElements} {z : State} (h : Stands es M begun o z) where
  pub stands_complete : (s : List ℕ) → is_complete s es (decided s es) z.current ≡ o.complete
  stands_complete s = ap (λ (k : ℕ). is_complete_in (content_of es k) z.current.taken) h.current.entered.number ∙ sym h.current.complete

-- Each element that is around another has a number.
kept_numbered : {es : List Element} {M begun : List ℕ} (a : List Entry) (n : ℕ) (x : Entry) (o : rules.Open) (os : List rules.Open) → Kept es M begun n x o → AllKept es M begun a n os → Numbered o os
kept_numbered a n x o [] h k = tt
kept_numbered a zero x o (u ∷ os) h k = absurd k
kept_numbered a (suc n) x o (u ∷ os) h k = (omega (arith, h.inner (omega arith), h.entered.number), kept_numbered a n (get_or a n none) u os k.0 k.1)

pub stands_numbered : {es : List Element} {M begun : List ℕ} {o : OpenElements} {z : State} → Stands es M begun o z → Numbered z.current z.around
stands_numbered {o = o} {z = z} h = kept_numbered o.around o.count _ z.current z.around h.current h.around

-- What the tables' answers say

-- The end of the element e may be left out, or not.
abbrev pub SaysOmitted : (facts : List ℕ) (e : ℕ) → Bool → Type 0
SaysOmitted facts e b = (s : List ℕ) (es : List Element) (raised : ℕ → Bool) → Facts s es raised facts → Declares es (start e) → b ≡ end_o es e

module _ (facts : List ℕ) (o : OpenElements) where
  pub judges_incomplete : o.complete ≡ false → Judges facts o (Err Incomplete)
  judges_incomplete e = (omega arith, λ s es raised f M begun z h l at. left_incomplete s es (decided s es) at z.current (stands_complete h s ∙ e))

  module _ {d : Bool} (e : o.complete ≡ true) (m : SaysOmitted facts o.element.0 d) where
    omitted : (s : List ℕ) (es : List Element) (raised : ℕ → Bool) → Facts s es raised facts → {M begun : List ℕ} {z : State} → Stands es M begun o z → 1 ≤ o.count → end_o es z.current.element ≡ d
    omitted s es raised f h l = ap (end_o es) h.current.entered.number ∙ sym (m s es raised f (stands_declared h l))

    pub judges_required : d ≡ false → Judges facts o (Err EndMissing)
    judges_required g = (omega arith, λ s es raised f M begun z h l at. left_required s es (decided s es) at z.current (stands_complete h s ∙ e) (omitted s es raised f h l ∙ g))

    pub judges_out : d ≡ true → Judges facts o (Ok tt)
    judges_out g = (
      e,
      λ s es raised f M begun z h l at.
          left_out s es (decided s es) at z.current (stands_complete h s ∙ e) (omitted s es raised f h l ∙ g) ∙ ap (λ (k : ℕ). got (end_inferred k at)) h.current.entered.number,
    )

-- The loop

-- The state q, after k events, is on the way from o to where no more ends are inferred: wherever o stands for a state of the rules, q does for one from
-- which they come to the same.
pub record Goes (facts : List ℕ) (x at n : ℕ) (o : OpenElements) (numbers bytes : List ℕ) (q : OpenElements) (k : ℕ) (numbers' bytes' : List ℕ) : Type 0 where
  pub ranged : Ranged q
  pub events : List Event
  pub puts : Puts numbers bytes n events numbers' bytes'
  pub counted : k ≡ n + length events
  pub few : length events + q.count ≤ o.count
  pub plain : Plain events
  pub same : (s : List ℕ) (es : List Element) (raised : ℕ → Bool) → Facts s es raised facts → (M begun : List ℕ) (z : State) → Stands es M begun o z
      → (y : State) × Stands es M begun q y × (y.events ≡ z.events ++ events) × (inferred_from s es (decided s es) x at z ≡ inferred_from s es (decided s es) x at y)

-- One turn: what is around the current element is taken apart, and its end is due.
from_past : (s : List ℕ) (es : List Element) (x at : ℕ) (y : State) (u : rules.Open) (us : List rules.Open) → y.around ≡ u ∷ us → (y.current.element ≡ x → ⊥) → {due : Reading Event} → end_left_out s es (decided s es) at y.current ≡ due
    → inferred_from s es (decided s es) x at y ≡ and_then due λ e. inferred_from s es (decided s es) x at (state u us (y.events ++ e ∷ []))
from_past s es x at y u us e n i =
    ap (λ (os : List rules.Open). infer_ends s es (decided s es) x at os y.current y.events) e
    ∙ ends_past s es (decided s es) x at u us y.current y.events n
    ∙ ap (λ (d : Reading Event). and_then d λ t. inferred_from s es (decided s es) x at (state u us (y.events ++ t ∷ []))) i

abbrev pub left : OpenElements → (events : ℕ) → Outcome
left o k = record { «open» = o; events = k }

module _ {facts : List ℕ} {x at n : ℕ} {o : OpenElements} {numbers bytes : List ℕ} where
  pub goes_start : Ranged o → Goes facts x at n o numbers bytes o n numbers bytes
  goes_start h =
      record {
        ranged = h;
        events = [];
        puts = puts_none numbers bytes n;
        counted = omega arith;
        few = omega arith;
        plain = plain_none;
        same = λ s es raised f M begun z st. (z, st, sym (append-nil z.events), refl);
      }

  module _ {q : OpenElements} {k : ℕ} {numbers' bytes' : List ℕ} (g : Goes facts x at n o numbers bytes q k numbers' bytes') where
    abbrev brings : Brings n numbers bytes (left q k) numbers' bytes'
    brings = record { ranged = g.ranged; events = g.events; puts = g.puts; counted = g.counted; plain = g.plain }

    pub until_here : q.element.0 ≡ x → UntilGot facts x at n o numbers bytes (left q k) numbers' bytes'
    until_here e =
        record {
          brings = brings;
          few = g.few;
          reached = λ l. e;
          ends = λ s es raised f M begun z st.
              let (y, here, ev, i) = g.same s es raised f M begun z st in
              (y, i ∙ ends_here s es (decided s es) x at y.around y.current y.events (here.current.entered.number ∙ e), (here, ev));
        }

    pub until_none : q.count ≡ 0 → UntilGot facts x at n o numbers bytes (left q k) numbers' bytes'
    until_none e =
        record {
          brings = brings;
          few = g.few;
          reached = λ l. absurd (omega arith);
          ends = λ s es raised f M begun z st.
              let (y, here, ev, i) = g.same s es raised f M begun z st in (
                y,
                i ∙ subst (λ (os : List rules.Open). infer_ends s es (decided s es) x at os y.current y.events ≡ got (state y.current os y.events)) (sym (stands_alone here e)) (ends_none s es (decided s es) x at y.current y.events),
                (here, ev),
              );
        }

    module _ (l : 1 ≤ q.count) (m : q.element.0 ≡ x → ⊥) where
      pub until_refused : {r : Refusal} → Judges facts q (Err r) → UntilRefused facts x at n o numbers bytes r numbers' bytes'
      until_refused (small, says) =
          record {
            put = record { small = small; events = g.events; puts = g.puts; plain = g.plain };
            few = omega (arith, g.few);
            ends = λ s es raised f M begun z st.
                let (y, here, ev, i) = g.same s es raised f M begun z st in
                let a = stands_around here l in
                i ∙ from_past s es x at y a.parent a.others a.are (λ e. m (sym here.current.entered.number ∙ e)) (says s es raised f M begun y here l at);
          }

      pub goes_turn : {u : Unit {0}} → Judges facts q (Ok u) → {next : OpenElements} {m : ℕ} {numbers'' bytes'' : List ℕ} → next ≡ ended q → m ≡ k + 1 → Puts numbers' bytes' k (noted 4 q.element.0 at 0 0 ∷ []) numbers'' bytes''
          → Goes facts x at n o numbers bytes next m numbers'' bytes''
      goes_turn (complete, says) {numbers'' = numbers''} {bytes''} e c p =
          let event = end_inferred q.element.0 at in
          let sizes = length-append g.events (event ∷ []) in
          rw e (record {
            ranged = ranged_ended g.ranged l;
            events = g.events ++ event ∷ [];
            puts = puts_then g.puts g.counted p;
            counted = omega (arith, g.counted);
            few = omega (arith, g.few);
            plain = plain_then g.plain (plain_end_inferred q.element.0 at);
            same = λ s es raised f M begun z st.
                let (y, here, ev, i) = g.same s es raised f M begun z st in
                let a = stands_around here l in (
                  state a.parent a.others (y.events ++ event ∷ []),
                  a.stands (y.events ++ event ∷ []),
                  ap (λ t. t ++ event ∷ []) ev ∙ append_assoc z.events g.events (event ∷ []),
                  i ∙ from_past s es x at y a.parent a.others a.are (λ e. m (sym here.current.entered.number ∙ e)) (says s es raised f M begun y here l at),
                );
          })
