-- Laws of the reader's answer: the type's verdict, the document's events, and the room for them.
use Rattle.std.specs.Prelude.{ℕ, ◌*◌, ◌/◌, ◌≤◌, ◌<◌, ◌≡◌, refl, Bool, true, false, List, [], ◌∷◌, length, ltb, Result, Ok, Err, IsErrAnd, MatchResult}
use Rattle.std.specs.Result.{is_err}
use Rattle.std.proofs.Common.{sym, ap, subst, ◌∙◌, true≢false, arith, ltb-true, ltb-false, lt-ltb, le-ltb}
use Rattle.rules.specs.Settings.{Settings}
use Rattle.rules.specs.Lent.{Lent, bytes_of, standing, room, zeroed}
use Rattle.rules.specs.TypeFile.{Element}
use Rattle.rules.specs.Judge.{acceptance, Accepts}
use Rattle.rules.specs.Events.{Event, event_width}
use Rattle.rules.specs.Reader.{event_numbers, BothLegible, RefusesBoth, ReadAs}
use Rattle.numbers.specs.Written.{Written}
use Rattle.numbers.specs.Stores.{event_numbers_length, standing_fits}
use Rattle.text.specs.declared.Fault.{Fault}
use Rattle.type_judge.specs.Deciding.{raised}
use Rattle.type_stage.specs.Stages.{Staged, OrderedAs}
use Rattle.type_stage.specs.declared.Stopped.{Stopped}
use Rattle.type_stage.specs.declared.Refused.{Refused}
use Rattle.type_stage.specs.declared.Refused.TheVariants.{InType, InDocument}
use Rattle.document_laws.specs.Decide.{decided}
use Rattle.document_laws.specs.OneReading.{accepted_decided}
use Rattle.document_events.specs.Loop.{EventsOf}
use Rattle.inputs.specs.Checks.{RefusesAlways}
use Rattle.one_document.specs.Answer.{refusal_of, answer_of, CountFits, Judges, Followed, lent_of, Counts, Answers, unless_full, fitted_to}

-- One buffer alone

-- A buffer of nothing holds whatever fits it.
written_nothing : (xs : List ℕ) → Written [] [] xs
written_nothing [] h = refl
written_nothing (x ∷ xs) h = absurd (omega arith)

module _ (c : Settings) (s : List ℕ) (es : List Element) (d numbers numbers_after bytes bytes_after : List ℕ) where
  pub events_bytes : (r : Result ℕ Fault) → EventsOf c s es d numbers numbers_after bytes bytes_after r → EventsOf c s es d [] [] bytes bytes_after r
  events_bytes (Ok n) (ev, i, k, x, y, f) = (ev, i, k, written_nothing (event_numbers ev), y, f)
  events_bytes (Err f) h = h

  pub events_numbers : (r : Result ℕ Fault) → EventsOf c s es d numbers numbers_after bytes bytes_after r → EventsOf c s es d numbers numbers_after [] [] r
  events_numbers (Ok n) (ev, i, k, x, y, f) = (ev, i, k, x, written_nothing (bytes_of (event_numbers ev)), f)
  events_numbers (Err f) h = h

-- The type

pub judges_as : (c : Settings) (s d elements heads : List ℕ) (g : Result ℕ Stopped) (o : Result ℕ Refused) → Staged c s elements heads g → OrderedAs c s d g o → Judges c s d elements heads o
judges_as c s d elements heads g (Ok n) t (b, z) = (b, subst (Staged c s elements heads) z t)
judges_as c s d elements heads g (Err (InType x)) t h = h
judges_as c s d elements heads g (Err (InDocument f)) t h = h

-- The document

module _ (c : Settings) (s d numbers numbers_after bytes bytes_after : List ℕ) where
  -- What is refused before anything is read, as the judge and the order say it.
  pub ordered_answers : (g : Result ℕ Stopped) (x : Refused) (v : Result ℕ Refused) → OrderedAs c s d g (Err x) → v ≡ Err x → Answers c s d numbers numbers_after bytes bytes_after v
  ordered_answers g (InType x) v h e = rw e h
  ordered_answers g (InDocument f) v h e = rw e h

  pub judged_answers : (x : Refused) (v : Result ℕ Refused) → RefusesAlways c s d (refusal_of x) → v ≡ Err x → Answers c s d numbers numbers_after bytes bytes_after v
  judged_answers x v h e = rw e h

  -- What is followed is the answer, where a refusal is the document's.
  pub followed_answers : BothLegible c s d → (r : Result ℕ Fault) (v : Result ℕ Refused) → Followed c s d numbers numbers_after bytes bytes_after r
      → MatchResult r (λ n. v ≡ Ok n) (λ f. IsErrAnd v (λ x. x ≡ InDocument f)) → Answers c s d numbers numbers_after bytes bytes_after v
  followed_answers b (Ok n) v (es, a, (ev, i, k, x, y, f)) e =
      rw e (
      record {
        elements = es;
        events = ev;
        reads = record { legible = b; accepted = a; decisions = decided s es; means = accepted_decided s es a; reading = i };
        counted = k;
        written = in_both ev x y;
        few = f;
      }
      )
    where
      in_both : (ev : List Event) → Written numbers numbers_after (event_numbers ev) → Written bytes bytes_after (bytes_of (event_numbers ev))
          → (l : Lent) → Written (lent_of l numbers bytes) (lent_of l numbers_after bytes_after) (standing l (event_numbers ev))
      in_both ev x y Lent.numbers = x
      in_both ev x y Lent.bytes = y
  followed_answers b (Err f) v (es, a, i) e =
      rw (raised v e) λ room. RefusesBoth.unsettled es f.number f.at (record { legible = b; accepted = a; decisions = decided s es; means = accepted_decided s es a; reading = i }) refl

-- The room

pub accepted_is : (a : Result ℕ Refused) → is_err a ≡ false → (n : ℕ) × (a ≡ Ok n)
accepted_is (Ok n) e = (n, refl)
accepted_is (Err x) e = absurd (true≢false e)

pub refusal_is : (a : Result ℕ Refused) → is_err a ≡ true → (x : Refused) × (a ≡ Err x)
refusal_is (Ok n) e = absurd (true≢false (sym e))
refusal_is (Err x) e = (x, refl)

-- What the tests on the way to the fitted answer say.
pub fitted_none : (a : Result ℕ Refused) (f : Fault) (room n : ℕ) → a ≡ Ok n → room < n → f ≡ record { number = 19; at = 0 } → Err (InDocument f) ≡ fitted_to room a
fitted_none a f room n e h q = rw (e, q) (sym (ap (λ t. unless_full t n) (lt-ltb room n h)))

pub fitted_all : (a : Result ℕ Refused) (room n : ℕ) → a ≡ Ok n → n ≤ room → Ok n ≡ fitted_to room a
fitted_all a room n e h = rw e (sym (ap (λ t. unless_full t n) (le-ltb room n h)))

pub fitted_other : (a r : Result ℕ Refused) (room : ℕ) (x : Refused) → a ≡ Err x → r ≡ Err x → r ≡ fitted_to room a
fitted_other a r room x e q = rw (e, q) refl

module _ (c : Settings) (s d numbers numbers_after bytes bytes_after : List ℕ) (room : ℕ) where
  -- There are n events, as counted, and they fit.
  abbrev Fitting : ℕ → Type 0
  Fitting n = Counts c s d numbers numbers_after bytes bytes_after n × (n ≤ room)

  -- Where the fitted answer is accepted, the document was read and its events fit.
  pub fitted_accepted : (v a : Result ℕ Refused) → Answers c s d numbers numbers_after bytes bytes_after v → a ≡ fitted_to room v → (n : ℕ) → a ≡ Ok n → Fitting n
  fitted_accepted (Ok m) a h e n q = by_room (ltb room m) refl e
    where
      by_room : (t : Bool) → ltb room m ≡ t → a ≡ unless_full t m → Fitting n
      by_room true z w = absurd (cc)
      by_room false z w =
          let same : m ≡ n = cc in
          (rw same at h, omega (arith, ltb-false room m z))
  fitted_accepted (Err x) a h e n q = absurd (cc)

  -- Any other is the refusal that the order picks for that room, in numbers.
  pub fitted_refused : (v a : Result ℕ Refused) → Answers c s d numbers numbers_after bytes bytes_after v → a ≡ fitted_to room v → (x : Refused) → a ≡ Err x → (most : ℕ) → room ≡ most / event_width → RefusesBoth c s d most (answer_of a)
  fitted_refused (Ok m) a h e x q most k = by_room (ltb room m) refl e
    where
      by_room : (t : Bool) → ltb room m ≡ t → a ≡ unless_full t m → RefusesBoth c s d most (answer_of a)
      by_room true z w = rw w (RefusesBoth.no_room h.elements h.events h.reads (omega (arith, ltb-true room m z, h.counted)) refl)
      by_room false z w = absurd (cc)
  fitted_refused (Err x) a h e y q most k = rw e (h most)

-- The two calls

room_same : (l : Lent) (x y : List ℕ) → length x ≡ length y → room l x ≡ room l y
room_same Lent.numbers x y e = e
room_same Lent.bytes x y e = ap (λ (n : ℕ). n / 4) e

-- What is lent holds the events that were counted, if they fit.
module _ (l : Lent) (c : Settings) (s d numbers numbers_after bytes bytes_after : List ℕ) (v a : Result ℕ Refused) (h : Answers c s d numbers numbers_after bytes bytes_after v) where
  abbrev before : List ℕ
  before = lent_of l numbers bytes

  abbrev after : List ℕ
  after = lent_of l numbers_after bytes_after

  module _ (same : length after ≡ length before) (e : a ≡ fitted_to (room l after / event_width) v) where
    pub read_accepted : is_err a ≡ false → ReadAs l c s d before (answer_of a) after
    read_accepted g =
        let (n, q) = accepted_is a g in
        let (x, fits) = fitted_accepted c s d numbers numbers_after bytes bytes_after (room l after / event_width) v a h e n q in
        let enough : event_width * length x.events ≤ room l before = omega (arith, x.counted, room_same l after before same) in
        let held = standing_fits l (event_numbers x.events) before (omega (arith, event_numbers_length x.events)) in
        ReadAs.accepts x.elements x.events x.reads enough (ap answer_of q ∙ ap acceptance x.counted) (x.written l held)

    pub read_refused : (cleared : List ℕ) → is_err a ≡ true → cleared ≡ zeroed after → ReadAs l c s d before (answer_of a) cleared
    read_refused cleared g z =
        let (x, q) = refusal_is a g in
        ReadAs.refuses
        (fitted_refused c s d numbers numbers_after bytes bytes_after (room l after / event_width) v a h e x q (room l before) (ap (λ (n : ℕ). n / event_width) (room_same l after before same)))
        (rw same at z)

-- The count is a 32-bit number.
count_unless : (b : Bool) (n : ℕ) → n < 4294967296 → CountFits (unless_full b n)
count_unless true n h = tt
count_unless false n h = h

pub count_fits : (c : Settings) (s d numbers numbers_after bytes bytes_after : List ℕ) (room : ℕ) (v : Result ℕ Refused) {r : Result ℕ Refused} → Answers c s d numbers numbers_after bytes bytes_after v → r ≡ fitted_to room v → CountFits r
count_fits c s d numbers numbers_after bytes bytes_after room (Ok n) a e = rw e (count_unless (ltb room n) n a.few)
count_fits c s d numbers numbers_after bytes bytes_after room (Err x) a e = rw e tt
