-- The rest of a document goes by the position, how record ends stand there, and the state: a bound on the turns that is enough is like any other, and a turn goes on.
use Prim.Native.Nat.{ℕ, zero, suc, ◌-◌, ◌≤◌, ◌<◌}
use Rattle.std.specs.Prelude.{◌≡◌, refl, List, leb}
use Rattle.std.proofs.Common.{sym, ◌∙◌, subst}
use Rattle.std.proofs.Math.Path.{ap}
use native.Mathlib.Omega.{arith}
use Rattle.std.proofs.Math.ListN.{length}
use borrow.Author.Tests.{leb-false, lt-leb, le-leb}
use Rattle.rules.specs.Settings.{Settings}
use Rattle.rules.specs.Reading.{refused, got, and_then}
use Rattle.rules.specs.TypeFile.{Element}
use Rattle.rules.specs.Document.{Piece, start_tag, end_tag, skipped, blank, data_byte, piece}
use Rattle.rules.specs.Decisions.{Decisions}
use Rattle.rules.specs.Settling.{Open, State, nothing_open, end_document}
use Rattle.rules.specs.Records.{Line, new_line, line_after}
use Rattle.rules.specs.Reader.{Reached, settle_piece, piece_under, pieces_within, document}
use Rattle.rules_laws.specs.Holds.{Holds, got_so, each, so, on_same}
use Rattle.rules_laws.specs.Both.{first}
use Rattle.rules_laws.specs.Pieces.{PieceRead, piece_read}
use Rattle.basic_laws.specs.Truth.{bool_cases}
use Rattle.document_laws.specs.Moves.{At, piece_end, any_moves, any_datum, settle_piece_both}
use Rattle.document_laws.specs.Under.{Stands, unchanged, ignored, stands, under_text}
use Rattle.document_laws.specs.Same.{Passes, begins, goes}
use Rattle.turn_laws.specs.RunAtOnce.{pieces, attributing}

-- A piece that is read moves on and stays within the document.
pub piece_moves : (long : ℕ) (d : List ℕ) (at : ℕ) → at < length d → (p : Piece) → piece long d at ≡ got p → (at < piece_end p at) × (piece_end p at ≤ length d)
piece_moves long d at h p e = by_piece p (got_so (piece_read long d at h) e)
  where
    by_piece : (p : Piece) → PieceRead d at p → (at < piece_end p at) × (piece_end p at ≤ length d)
    by_piece (start_tag t) r = (omega (arith, r.behind, r.ends), r.inside)
    by_piece (end_tag t) r = (omega (arith, r.behind, r.ends), r.inside)
    by_piece (skipped e) r = omega (arith, r)
    by_piece blank r = (omega arith, omega arith)
    by_piece data_byte r = (omega arith, omega arith)

-- A byte that is ignored at once ends where it ends as a piece by itself.
pub under_moves : (c : Settings) (s : List ℕ) (es : List Element) (d : List ℕ) (at : ℕ) (l : Line) (o : Open) → at < length d → (p : Piece) → piece_under c s es d at l o ≡ got p → (at < piece_end p at) × (piece_end p at ≤ length d)
under_moves c s es d at l o h p e =
    let u = under_text c s es d at l o e in
    subst (λ (q : Piece). (at < piece_end q at) × (piece_end q at ≤ length d)) u.is (ends_there u.text _ (stands c s es d at l o u.text) (piece_moves c.name_length d at h u.text u.there))
  where
    ends_there : (q p : Piece) → Stands c s es d at l o q p → (at < piece_end q at) × (piece_end q at ≤ length d) → (at < piece_end p at) × (piece_end p at ≤ length d)
    ends_there q p unchanged m = m
    ends_there q p (ignored i) m = m

module _ (c : Settings) (s : List ℕ) (es : List Element) (D : Decisions) (d : List ℕ) where
  abbrev Onward : ℕ → Reached → Type 0
  Onward at y = (at < y.at) × (y.at ≤ length d)

  moves_on : (p : Piece) (at : ℕ) (l : Line) (z : State) → at < length d → piece_under c s es d at l z.current ≡ got p → Holds (At at) (Onward at) (settle_piece s es D d p at z)
  moves_on p at l z h e = first (settle_piece_both (any_moves s es D) any_datum d p at (refl, tt)) (λ x w r. rw r.first (under_moves c s es d at l z.current h p e))

  -- More turns than bytes are left are enough.
  pub enough : (n m at : ℕ) (l : Line) (z : State) → length d - at < n → length d - at < m → pieces_within c s es D d n at l z ≡ pieces_within c s es D d m at l z
  unfolding pieces_within
  enough zero m at l z i j = absurd (omega arith)
  enough (suc n) zero at l z i j = absurd (omega arith)
  enough (suc n) (suc m) at l z i j =
      bool_cases (leb (length d) at) (λ e. rw (pieces_within, e))
      (λ e. rw (pieces_within, e) (on_same (each (piece_under c s es d at l z.current) (λ n k h. tt) (λ p q. q))
      (λ p q. on_same (so (moves_on p at l z (leb-false (length d) at e) q) (λ n k h. tt) (λ y h. h))
      (λ y h. enough n m y.at (line_after s es D d p at l z) y.state (omega (arith, h, leb-false (length d) at e)) (omega (arith, h, leb-false (length d) at e))))))

  -- One turn.

  pub pieces_end : (at : ℕ) (l : Line) (z : State) → length d ≤ at → pieces c s es D d at l z ≡ end_document s es D (length d) z
  unfolding pieces_within
  pieces_end at l z h = rw (pieces_within, le-leb (length d) at h)

  module _ (at : ℕ) (l : Line) (z : State) (h : at < length d) where
    turn : pieces c s es D d at l z ≡ and_then (piece_under c s es d at l z.current) (λ p. and_then (settle_piece s es D d p at z) λ y. pieces_within c s es D d (length d - at) y.at (line_after s es D d p at l z) y.state)
    unfolding pieces_within
    turn = rw (pieces_within, lt-leb (length d) at h)

    pub pieces_refused : (n k : ℕ) → piece_under c s es d at l z.current ≡ refused n k → pieces c s es D d at l z ≡ refused n k
    pieces_refused n k e = rw (turn, e)

    module _ (p : Piece) (q : piece_under c s es d at l z.current ≡ got p) where
      pub pieces_stop : (n k : ℕ) → settle_piece s es D d p at z ≡ refused n k → pieces c s es D d at l z ≡ refused n k
      pieces_stop n k e = rw (turn, q, e)

      pub pieces_on : (y : Reached) → settle_piece s es D d p at z ≡ got y → pieces c s es D d at l z ≡ pieces c s es D d y.at (line_after s es D d p at l z) y.state
      pieces_on y e = rw (turn, q, e) (enough (length d - at) (suc (length d - y.at)) y.at (line_after s es D d p at l z) y.state (omega (arith, range)) (omega arith))
        where
          range : (at < y.at) × (y.at ≤ length d)
          range = got_so (moves_on p at l z h q) e

  -- What is left where reading comes to reads as the document does.
  pub passes_rest : {at : ℕ} {l : Line} {z : State} → Passes c s es D d at l z → attributing c s es d (pieces c s es D d at l z) ≡ document c s es D d
  unfolding document
  passes_rest begins = ap (λ n. attributing c s es d (pieces_within c s es D d (suc n) 0 new_line nothing_open)) whole
    where
      whole : length d - 0 ≡ length d
      whole = omega arith
  passes_rest (goes {at} {l} {z} {p} r x h e i) = ap (attributing c s es d) (sym (pieces_on at l z h p e r i)) ∙ passes_rest x
