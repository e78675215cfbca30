-- Whether a data byte goes on the last event, and the events with it.
use Rattle.std.specs.Prelude.{ℕ, ◌+◌, ◌≡◌, refl, false, ◌&&◌, List, [], ◌∷◌, ◌++◌, eqb}
use Rattle.std.proofs.Common.{◌∙◌, ap, eq-eqb}
use Rattle.rules.specs.Events.{Event, data_run, with_data}
use Rattle.turn_laws.specs.RunAtOnce.{joins}

-- The last event decides.
pub joins_snoc : (j : ℕ) (ev : List Event) (e : Event) → joins j (ev ++ e ∷ []) ≡ (eqb e.kind 5 && eqb (e.offset + e.size) j)
joins_snoc j [] e = refl
joins_snoc j (x ∷ []) e = refl
joins_snoc j (x ∷ f ∷ ev) e = joins_snoc j (f ∷ ev) e

-- Nothing goes on an event that is no run of data.
pub joins_other : (j : ℕ) (ev : List Event) (e : Event) → eqb e.kind 5 ≡ false → joins j (ev ++ e ∷ []) ≡ false
joins_other j ev e h = joins_snoc j ev e ∙ ap (λ b. b && eqb (e.offset + e.size) j) h

-- A data byte begins a run, or goes on one.
pub with_data_new : (at : ℕ) (ev : List Event) → joins at ev ≡ false → with_data at ev ≡ ev ++ data_run at 1 ∷ []
unfolding with_data
with_data_new at [] h = refl
with_data_new at (e ∷ []) h = rw (with_data, h)
with_data_new at (e ∷ f ∷ ev) h = ap (λ l. e ∷ l) (with_data_new at (f ∷ ev) h)

pub with_data_more : (at n i : ℕ) (ev : List Event) → at + n ≡ i → with_data i (ev ++ data_run at n ∷ []) ≡ ev ++ data_run at (n + 1) ∷ []
unfolding with_data
with_data_more at n i [] h = rw (with_data, eq-eqb (at + n) i h)
with_data_more at n i (x ∷ []) h = ap (λ l. x ∷ l) (with_data_more at n i [] h)
with_data_more at n i (x ∷ f ∷ ev) h = ap (λ l. x ∷ l) (with_data_more at n i (f ∷ ev) h)
