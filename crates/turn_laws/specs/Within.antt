-- A refusal of a document is one of 3 to 5, 10 to 18 and 20 to 22 and stands in the document, whatever decides.
use Rattle.std.specs.Prelude.{ℕ, ◌≤◌, ◌<◌, ◌≡◌, refl, ◌⊎◌, List, length}
use Rattle.std.proofs.Common.{inl, inr, arith}
use Rattle.rules.specs.Settings.{Settings}
use Rattle.rules.specs.Reading.{refused}
use Rattle.rules.specs.TypeFile.{Element}
use Rattle.rules.specs.Decisions.{Decisions}
use Rattle.rules.specs.Settling.{Open}
use Rattle.rules.specs.Records.{Line}
use Rattle.rules.specs.Reader.{piece_under, document}
use Rattle.rules_laws.specs.Holds.{Refuses, refused_so, so}
use Rattle.rules_laws.specs.Both.{refusals}
use Rattle.document_laws.specs.Moves.{At, AnyState, itself_fresh, any_moves, any_datum, document_both}
use Rattle.document_laws.specs.Under.{under_within}

-- The numbers that a document may be refused by: those of its pieces, and those of settling them.
abbrev pub DocumentNumber : ℕ → Type 0
DocumentNumber n = ((3 ≤ n) × (n ≤ 5)) ⊎ (((10 ≤ n) × (n ≤ 18)) ⊎ ((20 ≤ n) × (n ≤ 22)))

-- The refusal is one of a document's, and stands in it.
abbrev In : List ℕ → (number position : ℕ) → Type 0
In d n k = DocumentNumber n × (k ≤ length d)

by_number : {n : ℕ} → ((3 ≤ n) × (n ≤ 5)) ⊎ ((n ≡ 17) ⊎ ((20 ≤ n) × (n ≤ 22))) → DocumentNumber n
by_number (inl x) = inl x
by_number (inr (inl e)) = inr (inl (omega arith))
by_number (inr (inr x)) = inr (inr x)

by_piece : (c : Settings) (s : List ℕ) (es : List Element) (d : List ℕ) (i : ℕ) (l : Line) (o : Open) → i < length d → Refuses (In d) (piece_under c s es d i l o)
by_piece c s es d i l o h = so (under_within c s es d i l o h) (λ n k r. (by_number r.0, r.1)) (λ p r. tt)

by_settling : (d : List ℕ) (at n k : ℕ) → at ≤ length d → At at n k → In d n k
by_settling d at n k h r = (inr (inl r.0), omega (arith, r.1))

module _ (c : Settings) (s : List ℕ) (es : List Element) (D : Decisions) (d : List ℕ) where
  pub document_within : (n k : ℕ) → document c s es D d ≡ refused n k → DocumentNumber n × (k ≤ length d)
  document_within n k e =
      refused_so (refusals (document_both (any_moves s es D) any_datum d c (In d) (inl (omega arith), omega arith) (by_piece c s es d) (by_settling d) (itself_fresh AnyState) (refl, tt))) e
