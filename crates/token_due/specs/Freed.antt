-- What the buffers hold before the starts that a token infers and its own events: what is settled of the events before and of the ends that it infers. An end shows what
-- was due; where none comes first, a run of data that is held is put whole.
use Rattle.std.specs.Prelude.{ℕ, ◌+◌, ◌-◌, ◌<◌, ◌≡◌, refl, Bool, true, false, List, [], ◌∷◌, ◌++◌, length}
use Rattle.std.proofs.Common.{sym, ◌∙◌, ap, subst, append-nil, arith, length-append}
use Rattle.std.proofs.lemmas.Bool.{false≢true}
use Rattle.rules.specs.Settings.{Settings}
use Rattle.rules.specs.TypeFile.{Element}
use Rattle.rules.specs.Events.{Event, data_run}
use Rattle.rules.specs.Given.{with_attributes}
use Rattle.rules.specs.Records.{due_run, records_settled}
use Rattle.rules_laws.specs.In.{more}
use Rattle.rules_laws.specs.BeforeStarts.{with_append, Plain, plain_data}
use Rattle.record_due.specs.Due.{due}
use Rattle.record_due.specs.Lists.{Ends, settled_ends, settled_run, plain_run}
use Rattle.turn_laws.specs.Latest.{is_held, Latest, held_due}
use Rattle.event_buffer.specs.Buffers.{Holds, Puts}

-- The buffers, which were these at first, hold the events, and r counts them.
pub record Has (numbers₀ bytes₀ : List ℕ) (r : ℕ) (numbers bytes : List ℕ) (ev : List Event) : Type 0 where
  pub counted : r ≡ length ev
  pub holds : Holds numbers₀ bytes₀ numbers bytes ev

has_same : {N B numbers bytes : List ℕ} {r : ℕ} {ev fv : List Event} → ev ≡ fv → Has N B r numbers bytes ev → Has N B r numbers bytes fv
has_same {N} {B} {numbers} {bytes} {r} e h = subst (Has N B r numbers bytes) e h

pub has_behind : {N B numbers bytes numbers' bytes' : List ℕ} {n r : ℕ} {ev fv : List Event} → Has N B n numbers bytes ev → Puts numbers bytes n fv numbers' bytes' → r ≡ n + length fv → Has N B r numbers' bytes' (ev ++ fv)
has_behind {N} {B} {ev = ev} {fv} h puts e = record { counted = omega (arith, length-append ev fv, h.counted); holds = puts.behind N B ev h.counted h.holds }

-- A run of data from `from` to `since` that is shown without its last byte is put whole.
abbrev pub PutsRun : (numbers₀ bytes₀ : List ℕ) (n from since r : ℕ) (numbers bytes numbers' bytes' : List ℕ) → Type 0
PutsRun N B n from since r numbers bytes numbers' bytes' =
    from < since → (before : List Event) → Has N B n numbers bytes (before ++ due_run from (since - from - 1)) → Has N B r numbers' bytes' (before ++ data_run from (since - from) ∷ [])

module _ (c : Settings) (s : List ℕ) (es : List Element) (d : List ℕ) {since from : ℕ} {ev : List Event} (latest : Latest c d since from ev) where
  abbrev With : List Event → List Event
  With = with_attributes c.name_length s es d

  module _ {N B : List ℕ} where
    -- A run that is held is put whole.
    freed_run : {n r : ℕ} {numbers bytes numbers' bytes' : List ℕ} → Has N B n numbers bytes (With (due c d ev)) → is_held c d since ≡ true → PutsRun N B n from since r numbers bytes numbers' bytes'
        → Has N B r numbers' bytes' (With (records_settled c d ev))
    freed_run has h whole =
        let (before, is, less) = latest.held h in
        let a = records_settled c d before in
        let short = due_run from (since - from - 1) in
        let run = data_run from (since - from) ∷ [] in
        let was : With (due c d ev) ≡ With a ++ short =
        ap (λ (v : List Event). With (due c d v)) is ∙ ap With (held_due c d since from less before h) ∙ with_append c.name_length s es d a short ∙ ap (λ (v : List Event). With a ++ v) ((plain_run from (since - from - 1)).plain c.name_length s es d) in
        let all : With (records_settled c d ev) ≡ With a ++ run =
        ap (λ (v : List Event). With (records_settled c d v)) is ∙ ap With (settled_run c d before from (since - from)) ∙ with_append c.name_length s es d a run ∙ ap (λ (v : List Event). With a ++ v) ((plain_data from (since - from)).plain c.name_length s es d) in
        has_same (sym all) (whole less (With a) (has_same was has))

    -- What an end shows.
    shown : {n r : ℕ} {numbers bytes numbers' bytes' : List ℕ} (f : Event) (b : List Event) → Has N B n numbers bytes (With (due c d ev)) → Ends (f ∷ b) → Plain (f ∷ b) → Puts numbers bytes n (f ∷ b) numbers' bytes' → r ≡ n + length (f ∷ b)
        → Has N B r numbers' bytes' (With (records_settled c d (ev ++ f ∷ b)))
    shown f b has (more i ends) plain puts e =
        let all : With (due c d ev) ++ f ∷ b ≡ With (records_settled c d (ev ++ f ∷ b)) =
        sym (ap With (settled_ends c d ev f b i ends) ∙ with_append c.name_length s es d (due c d ev) (f ∷ b) ∙ ap (λ (v : List Event). With (due c d ev) ++ v) (plain.plain c.name_length s es d)) in
        has_same all (has_behind has puts e)

    -- Behind the ends that a token infers, m events: where none came and a run is held, that is put whole, else nothing is done.
    pub freed : {n m r : ℕ} {numbers bytes numbers₁ bytes₁ numbers₂ bytes₂ : List ℕ} (ends : List Event) → Has N B n numbers bytes (With (due c d ev)) → Ends ends → Plain ends → Puts numbers bytes n ends numbers₁ bytes₁ → m ≡ n + length ends
        → (is_held c d since ≡ true → m ≡ n → PutsRun N B n from since r numbers₁ bytes₁ numbers₂ bytes₂)
        → ((is_held c d since ≡ true → m ≡ n → ⊥) → (r ≡ m) × (numbers₂ ≡ numbers₁) × (bytes₂ ≡ bytes₁))
        → Has N B r numbers₂ bytes₂ (With (records_settled c d (ev ++ ends)))
    freed (f ∷ b) has are plain puts e whole stays =
        let (same, i, j) = stays (λ h q. omega arith) in
        rw (i, j) (shown f b has are plain puts (same ∙ e))
    freed {n} {m} {r} {numbers} {bytes} {numbers₁} {bytes₁} {numbers₂} {bytes₂} [] has are plain puts e whole stays =
        has_same (ap (λ (v : List Event). With (records_settled c d v)) (sym (append-nil ev))) (by_held (is_held c d since) refl)
      where
        there : Has N B n numbers₁ bytes₁ (With (due c d ev))
        there = has_same (append-nil (With (due c d ev))) (has_behind has puts (omega arith))

        by_held : (h : Bool) → is_held c d since ≡ h → Has N B r numbers₂ bytes₂ (With (records_settled c d ev))
        by_held true h = freed_run there h (whole h (omega arith))
        by_held false h =
            let (same, i, j) = stays (λ g q. false≢true (sym h ∙ g)) in
            let eq : r ≡ n = omega arith in
            rw (i, j, eq) (has_same (ap With (latest.other h)) there)
