-- Reading without the rule for record ends, as it was before request eight of paper 02: the page states by it
-- what "older catalogues keep", edition 1.
use Rattle.std.specs.Prelude.{ℕ, zero, suc, true, false, List, length, leb}
use Rattle.rules.specs.Reading.{Reading, refused, got, and_then}
use Rattle.rules.specs.TypeFile.{Element}
use Rattle.rules.specs.Document.{Piece, piece}
use Rattle.rules.specs.Decisions.{Decisions}
use Rattle.rules.specs.Events.{Event}
use Rattle.rules.specs.Given.{piece_attributed, with_attributes}
use Rattle.rules.specs.Settling.{State, nothing_open, end_document}
use Rattle.rules.specs.Reader.{settle_piece}

-- A piece is what stands there, its attributes held against the list of its element; no blank is ignored but where data may not come.
unfoldable pub plain_piece : (long : ℕ) → (s : List ℕ) → List Element → (d : List ℕ) → (at : ℕ) → Reading Piece
plain_piece long s es d at = and_then (piece long d at) λ p. and_then (piece_attributed long s es d at p) λ u. got p

module _ (long : ℕ) (s : List ℕ) (es : List Element) (D : Decisions) (d : List ℕ) where
  unfoldable pub plain_pieces : ℕ → (at : ℕ) → State → Reading (List Event)
  plain_pieces zero at z = refused 4 (length d)
  plain_pieces (suc turns) at z =
      elim (leb (length d) at) [
        | true ↦ end_document s es D (length d) z
        | false ↦
            and_then (plain_piece long s es d at) λ p.
            and_then (settle_piece s es D d p at z) λ y.
            plain_pieces turns y.at y.state
      ]

  unfoldable pub plain_document : Reading (List Event)
  plain_document = and_then (plain_pieces (suc (length d)) 0 nothing_open) λ ev. got (with_attributes long s es d ev)
