-- Acts one after another: how they are put together, and what stays so from act to act.
use Rattle.std.specs.Prelude.{ℕ, ◌≡◌, List, ◌∷◌}
use Rattle.std.proofs.Common.{subst}
use Rattle.rules.specs.TypeFile.{Element}
use Rattle.rules.specs.Decisions.{Decisions}
use Rattle.rules.specs.Events.{Event}
use Rattle.rules.specs.Settling.{Open, State}
use Rattle.rules.specs.Acts.{Acts, still, next}
use Rattle.rules_laws.specs.In.{All, more}
use Rattle.document_laws.specs.Same.{Begun, AllBegun}

parts : {es : List Element} {u : Open} {us : List Open} → All (Begun es) (u ∷ us) → Begun es u × All (Begun es) us
parts (more p q) = (p, q)

-- Where the places taken begin walks in each open element, they do so in those that are left where the current one has ended.
pub ended_begun : {es : List Element} {z : State} (u : Open) (us : List Open) (ev : List Event) → z.around ≡ u ∷ us → AllBegun es z → AllBegun es (record { current = u; around = us; events = ev })
ended_begun {es} u us ev e b = let (p, q) = parts (subst (All (Begun es)) e b.around) in record { current = p; around = q }

module _ {s : List ℕ} {es : List Element} {D : Decisions} where
  module _ {P : State → Type 0} where
    -- Acts and others after them are acts.
    pub acts_then : {z y x : State} → Acts s es D P z y → Acts s es D P y x → Acts s es D P z x
    acts_then (still p) b = b
    acts_then (next p a r) b = next p a (acts_then r b)

    -- What holds of each state holds of the first and of the last.
    pub acts_first : {z y : State} → Acts s es D P z y → P z
    acts_first (still p) = p
    acts_first (next p a r) = p

    pub acts_last : {z y : State} → Acts s es D P z y → P y
    acts_last (still p) = p
    acts_last (next p a r) = acts_last r
