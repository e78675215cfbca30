-- Every reading is what its events did, one after another: acts read by event, with the bytes of a run of data together.
use Rattle.std.specs.Prelude.{ℕ, zero, suc, ◌+◌, ◌≤◌, ◌<◌, ◌≡◌, Bool, true, false, ◌&&◌, eqb}
use Rattle.std.proofs.Math.Path.{refl}
use Rattle.std.proofs.Common.{sym, ◌∙◌, ap, subst, arith}
use mathlib.Core.List.{List, [], ◌∷◌, ◌++◌}
use Rattle.std.proofs.Math.Decide.{dec_lt}
use Rattle.rules.specs.TypeFile.{Element}
use Rattle.rules.specs.Decisions.{pcdata, Decisions}
use Rattle.rules.specs.Events.{Event, data_run, with_data}
use Rattle.rules.specs.Settling.{State, nothing_open, fitting, take_token}
use Rattle.rules.specs.Acts.{Act, starts, empties, infers, data_byte_lem, infers_end, ends, Acts, still, next, data_taken, opened, passed, inferred, fitted, inferred_end, closed, Deeds, nothing, then}

-- A data byte behind an event: the run that ends where it stands goes on, or it begins a new one.
with_data_behind : (at : ℕ) (ev : List Event) (e : Event) → with_data at (ev ++ e ∷ []) ≡ elim (eqb e.kind 5 && eqb (e.offset + e.size) at) [ true ↦ ev ++ data_run e.offset (e.size + 1) ∷ [] | false ↦ (ev ++ e ∷ []) ++ data_run at 1 ∷ [] ]
unfolding with_data
with_data_behind at [] e = by_test (eqb e.kind 5 && eqb (e.offset + e.size) at)
  where
    by_test : (b : Bool) → ◌≡◌ {A = List Event} (elim b [ true ↦ data_run e.offset (e.size + 1) ∷ [] | false ↦ e ∷ data_run at 1 ∷ [] ]) (elim b [ true ↦ data_run e.offset (e.size + 1) ∷ [] | false ↦ e ∷ data_run at 1 ∷ [] ])
    by_test b = refl
with_data_behind at (x ∷ []) e = whether (eqb e.kind 5 && eqb (e.offset + e.size) at)
  where
    whether : (b : Bool) → ◌≡◌ {A = List Event} (x ∷ elim b [ true ↦ data_run e.offset (e.size + 1) ∷ [] | false ↦ e ∷ data_run at 1 ∷ [] ]) (elim b [ true ↦ x ∷ data_run e.offset (e.size + 1) ∷ [] | false ↦ x ∷ e ∷ data_run at 1 ∷ [] ])
    whether true = refl
    whether false = refl
with_data_behind at (x ∷ (y ∷ ev)) e = ap (λ (l : List Event). x ∷ l) (with_data_behind at (y ∷ ev) e) ∙ whether (eqb e.kind 5 && eqb (e.offset + e.size) at)
  where
    whether : (b : Bool) → ◌≡◌ {A = List Event} (x ∷ elim b [ true ↦ y ∷ (ev ++ data_run e.offset (e.size + 1) ∷ []) | false ↦ y ∷ ((ev ++ e ∷ []) ++ data_run at 1 ∷ []) ]) (elim b [ true ↦ x ∷ y ∷ (ev ++ data_run e.offset (e.size + 1) ∷ []) | false ↦ x ∷ y ∷ ((ev ++ e ∷ []) ++ data_run at 1 ∷ []) ])
    whether true = refl
    whether false = refl

module _ (s : List ℕ) (es : List Element) (D : Decisions) where
  -- The state after a data byte, with these events.
  abbrev byte_taken : State → List Event → State
  byte_taken z ev = record { current = (take_token s es D pcdata z).current; around = z.around; events = ev }

  -- A byte begins a run.
  run_begins : (at : ℕ) (z : State) → Deeds s es D z → 1 ≤ fitting s es D z.current pcdata → with_data at z.events ≡ z.events ++ data_run at 1 ∷ [] → Deeds s es D (byte_taken z (with_data at z.events))
  run_begins at z d f e = subst (λ (ev : List Event). Deeds s es D (byte_taken z ev)) (sym e) (then d (fitted at 1 (omega arith) first))
    where
      first : (k : ℕ) → k < 1 → 1 ≤ fitting s es D (data_taken s es D k z).current pcdata
      first zero h = f
      first (suc k) h = absurd (omega arith)

  -- A byte goes on a run of n bytes, which began in the state z.
  module _ (at n : ℕ) (z : State) (d : Deeds s es D z) (h : (k : ℕ) → k < n → 1 ≤ fitting s es D (data_taken s es D k z).current pcdata) (f : 1 ≤ fitting s es D (data_taken s es D n z).current pcdata) where
    each : (k : ℕ) → k < suc n → 1 ≤ fitting s es D (data_taken s es D k z).current pcdata
    each k i = go (dec_lt k n)
      where
        go : Dec (k < n) → 1 ≤ fitting s es D (data_taken s es D k z).current pcdata
        go (yes j) = h k j
        go (no j) = let e : k ≡ n = omega arith in subst (λ (m : ℕ). 1 ≤ fitting s es D (data_taken s es D m z).current pcdata) (sym e) f

    run_goes_on : Deeds s es D (byte_taken (data_taken s es D n z) ((data_taken s es D n z).events ++ data_run at (n + 1) ∷ []))
    run_goes_on =
        let l : suc n ≡ n + 1 = omega arith in
        subst (λ (m : ℕ). Deeds s es D (byte_taken (data_taken s es D n z) ((data_taken s es D n z).events ++ data_run at m ∷ []))) l (then d (fitted at (suc n) (omega arith) each))

  -- A data byte behind what the events did.
  datum_deeds : (at : ℕ) {y : State} → Deeds s es D y → 1 ≤ fitting s es D y.current pcdata → Deeds s es D (byte_taken y (with_data at y.events))
  unfolding with_data
  datum_deeds at nothing f = run_begins at nothing_open nothing f refl
  datum_deeds at {y} (then {z} d (opened k i j x g m)) f = run_begins at y (then d (opened k i j x g m)) f (with_data_behind at z.events _)
  datum_deeds at {y} (then {z} d (passed k i j x g m l)) f = run_begins at y (then d (passed k i j x g m l)) f (with_data_behind at (z.events ++ _ ∷ []) _)
  datum_deeds at {y} (then {z} d (inferred k i e l)) f = run_begins at y (then d (inferred k i e l)) f (with_data_behind at z.events _)
  datum_deeds at {y} (then {z} d (inferred_end u us i e c o)) f = run_begins at y (then d (inferred_end u us i e c o)) f (with_data_behind at z.events _)
  datum_deeds at {y} (then {z} d (closed u us i j e c)) f = run_begins at y (then d (closed u us i j e c)) f (with_data_behind at z.events _)
  datum_deeds at {y} (then {z} d (fitted a n l h)) f = by_test (eqb (a + n) at) refl
    where
      before : List Event
      before = (data_taken s es D n z).events

      by_test : (b : Bool) → eqb (a + n) at ≡ b → Deeds s es D (byte_taken y (with_data at y.events))
      by_test true e =
          let w : with_data at y.events ≡ before ++ data_run a (n + 1) ∷ [] = with_data_behind at before (data_run a n) ∙ rw e in
          subst (λ (ev : List Event). Deeds s es D (byte_taken y ev)) (sym w) (run_goes_on a n z d h f)
      by_test false e = run_begins at y (then d (fitted a n l h)) f (with_data_behind at before (data_run a n) ∙ rw e)

  -- What an act did, event by event.
  act_deeds : {z y : State} → Deeds s es D z → Act s es D z y → Deeds s es D y
  act_deeds d (starts k at after x f m) = then d (opened k at after x f m)
  act_deeds d (empties k at after x f m l) = then d (passed k at after x f m l)
  act_deeds d (infers k at e l) = then d (inferred k at e l)
  act_deeds d (data_byte_lem at f) = datum_deeds at d f
  act_deeds d (infers_end u us at e c o) = then d (inferred_end u us at e c o)
  act_deeds d (ends u us at after e c) = then d (closed u us at after e c)

  -- So every state that acts lead to, from nothing open on, is what its events did.
  pub acts_deeds : {P : State → Type 0} {z y : State} → Deeds s es D z → Acts s es D P z y → Deeds s es D y
  acts_deeds d (still p) = d
  acts_deeds d (next p a r) = acts_deeds (act_deeds d a) r
