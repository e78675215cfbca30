-- Where neither a tag nor data came yet, no place is taken in the current element.
use Rattle.std.specs.Prelude.{ℕ, ◌≡◌, refl, true, List}
use Rattle.std.proofs.Common.{arith}
use Rattle.rules.specs.Settings.{Settings}
use Rattle.rules.specs.TypeFile.{Element}
use Rattle.rules.specs.Decisions.{Decisions}
use Rattle.rules.specs.Settling.{State}
use Rattle.rules.specs.Records.{Line, is_fresh}
use Rattle.rules.specs.Acts.{Passes}
use Rattle.rules.specs.RecordEnds.{Contents}
use Rattle.record_laws.specs.Turns.{Turn, tags, markups, tens, dropped, ignored, takes, bytes, fills_keep}
use Rattle.record_laws.specs.Passed.{passes_fills}

module _ (c : Settings) (s : List ℕ) (es : List Element) (D : Decisions) (d : List ℕ) where
  turn_fresh : (at i : ℕ) (l m : Line) (z y : State) (k j : Contents) → Turn c s es D d at l z k i m y j → (l.since ≡ 0 → is_fresh z.current ≡ true) → m.since ≡ 0 → is_fresh y.current ≡ true
  turn_fresh at i l m z y k j (tags after t a h b) w e = absurd (omega arith)
  turn_fresh at i l m z y k j (markups after a h) w e = w e
  turn_fresh at i l m z y k j (tens b) w e = w e
  turn_fresh at i l m z y k j (dropped b f o) w e = w e
  turn_fresh at i l m z y k j (ignored f n q x r) w e = w e
  turn_fresh at i l m z y k j (takes b f o) w e = absurd (omega arith)
  turn_fresh at i l m z y k j (bytes b t) w e = absurd (omega arith)

  pub passes_fresh : {at : ℕ} {l : Line} {z : State} → Passes c s es D d at l z → l.since ≡ 0 → is_fresh z.current ≡ true
  passes_fresh h = fills_keep (λ at l z k. l.since ≡ 0 → is_fresh z.current ≡ true) (λ e. refl) turn_fresh (passes_fills h).1
