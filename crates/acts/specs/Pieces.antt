-- What the rules do with each kind of piece: as equations, and as what was done where the piece was not refused.
use Rattle.std.specs.Prelude.{ℕ, ◌+◌, ◌≤◌, ◌≡◌, true, false, ◌⊎◌, List, leb}
use Rattle.std.proofs.Math.Path.{refl, subst}
use Rattle.std.proofs.Common.{sym, ap, inr, arith}
use Rattle.std.proofs.Math.Logic.{inl}
use borrow.Author.Tests.{le-leb, leb-true}
use Rattle.rules.specs.Reading.{refused, got}
use Rattle.rules.specs.TypeFile.{Element}
use Rattle.rules.specs.Document.{Tag, Piece, start_tag, end_tag, skipped, blank, data_byte}
use Rattle.rules.specs.Elements.{number_of}
use Rattle.rules.specs.Decisions.{pcdata, Decisions}
use Rattle.rules.specs.Settling.{State, fitting, take_token, start_element, take_data, take_blank, end_element}
use Rattle.rules.specs.Reader.{Reached, go_on, tagged, settle_piece}
use Rattle.rules.specs.Acts.{Declared, Few}
use Rattle.rules_laws.specs.Holds.{stops, reads, Gives, so, on, either}
use Rattle.document_laws.specs.Chain.{number_from_range}
use Rattle.document_laws.specs.Moves.{with_datum}
use Rattle.acts.specs.Settled.{Tagged, start_element_tagged, Datum, take_data_datum, take_data_fits, Closes, end_element_closes}

module _ (s : List ℕ) (es : List Element) (D : Decisions) (d : List ℕ) (at : ℕ) where
  -- A tag names an element, or none.
  module _ (t : Tag) (z : State) where
    tagged_declared : (k : ℕ) → number_of s es d t.name t.size ≡ k → 1 ≤ k → tagged s es D d at t ≡ got k
    unfolding tagged
    tagged_declared k e h = rw (tagged, e, le-leb 1 k h) (ap got e)

    tagged_undeclared : number_of s es d t.name t.size ≡ 0 → tagged s es D d at t ≡ refused 10 at
    unfolding tagged
    tagged_undeclared e = rw (tagged, e)

    pub start_settles : (k : ℕ) → number_of s es d t.name t.size ≡ k → 1 ≤ k → settle_piece s es D d (start_tag t) at z ≡ go_on t.after (start_element s es D k at t.after z)
    unfolding settle_piece
    start_settles k e h = rw (settle_piece, tagged_declared k e h)

    pub end_settles : (k : ℕ) → number_of s es d t.name t.size ≡ k → 1 ≤ k → settle_piece s es D d (end_tag t) at z ≡ go_on t.after (end_element s es D k at t.after z)
    unfolding settle_piece
    end_settles k e h = rw (settle_piece, tagged_declared k e h)

    pub start_undeclared : number_of s es d t.name t.size ≡ 0 → settle_piece s es D d (start_tag t) at z ≡ refused 10 at
    unfolding settle_piece
    start_undeclared e = rw (settle_piece, tagged_undeclared e)

    pub end_undeclared : number_of s es d t.name t.size ≡ 0 → settle_piece s es D d (end_tag t) at z ≡ refused 10 at
    unfolding settle_piece
    end_undeclared e = rw (settle_piece, tagged_undeclared e)

  module _ (z : State) where
    pub skipped_settles : (after : ℕ) → settle_piece s es D d (skipped after) at z ≡ got (record { at = after; state = z })
    unfolding settle_piece
    skipped_settles after = refl

    pub data_settles : settle_piece s es D d data_byte at z ≡ go_on (at + 1) (take_data s es D at z)
    unfolding settle_piece
    data_settles = refl

    -- A blank is data, or is ignored.
    pub blank_settles : 1 ≤ fitting s es D z.current pcdata → settle_piece s es D d blank at z ≡ go_on (at + 1) (take_data s es D at z)
    unfolding settle_piece take_blank
    blank_settles h = rw (settle_piece, take_blank, le-leb 1 (fitting s es D z.current pcdata) h)

    pub blank_ignored : fitting s es D z.current pcdata ≡ 0 → settle_piece s es D d blank at z ≡ got (record { at = at + 1; state = z })
    unfolding settle_piece take_blank
    blank_ignored e = rw (settle_piece, take_blank, e)

-- What a piece does that is not refused.
pub data PieceSettled (s : List ℕ) (es : List Element) (D : Decisions) (at : ℕ) (z : State) : Piece → Reached → Type 0 where
  start_tag_lem : {t : Tag} {x : State} (k : ℕ) → Declared es k → Tagged s es D k at t.after z x → PieceSettled s es D at z (start_tag t) (record { at = t.after; state = x })
  end_tag_lem : {t : Tag} {x : State} (k : ℕ) → Declared es k → Closes s es D k at t.after z x → PieceSettled s es D at z (end_tag t) (record { at = t.after; state = x })
  passed_over : {after : ℕ} → PieceSettled s es D at z (skipped after) (record { at = after; state = z })
  -- Where data fits a blank takes its place, and nothing is inferred.
  blank_data : {x : State} → leb 1 (fitting s es D z.current pcdata) ≡ true → x ≡ with_datum at (take_token s es D pcdata z) → Few z → PieceSettled s es D at z blank (record { at = at + 1; state = x })
  no_data_lem : leb 1 (fitting s es D z.current pcdata) ≡ false → PieceSettled s es D at z blank (record { at = at + 1; state = z })
  byte : {x : State} → Datum s es D at z x → PieceSettled s es D at z data_byte (record { at = at + 1; state = x })

module _ (s : List ℕ) (es : List Element) (D : Decisions) (d : List ℕ) where
  tagged_known : (at : ℕ) (t : Tag) → Gives (Declared es) (tagged s es D d at t)
  unfolding tagged number_of
  tagged_known at t =
      either (leb 1 (number_of s es d t.name t.size)) (λ e. reads (leb-true 1 _ e, omega (arith, number_from_range s d t.name t.size 1 es (omega arith)))) (λ e. stops tt)

  pub settle_piece_settled : (p : Piece) (at : ℕ) (z : State) → Gives (PieceSettled s es D at z p) (settle_piece s es D d p at z)
  unfolding settle_piece take_blank
  settle_piece_settled (start_tag t) at z = on (tagged_known at t) λ k l. on (start_element_tagged s es D k at t.after z) λ x r. reads (start_tag_lem k l r)
  settle_piece_settled (end_tag t) at z = on (tagged_known at t) λ k l. on (end_element_closes s es D k at t.after z) λ x r. reads (end_tag_lem k l r)
  settle_piece_settled (skipped after) at z = reads passed_over
  settle_piece_settled blank at z =
      on (either (leb 1 (fitting s es D z.current pcdata)) (λ e. so (take_data_fits s es D at z e) (λ n k i. i) (λ x r. inl (e, r))) (λ e. reads (inr (e, refl)))) λ x r. reads (of_blank x r)
    where
      of_blank : (x : State) → ((leb 1 (fitting s es D z.current pcdata) ≡ true) × ((x ≡ with_datum at (take_token s es D pcdata z)) × Few z)) ⊎ ((leb 1 (fitting s es D z.current pcdata) ≡ false) × (x ≡ z)) → PieceSettled s es D at z blank (record { at = at + 1; state = x })
      of_blank x (inl (e, r)) = blank_data e r.0 r.1
      of_blank x (inr (e, i)) = subst (λ (w : State). PieceSettled s es D at z blank (record { at = at + 1; state = w })) (sym i) (no_data_lem e)
  settle_piece_settled data_byte at z = on (take_data_datum s es D at z) λ x r. reads (byte r)
