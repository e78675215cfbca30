-- "A byte ignored only as the last has still taken its `#PCDATA`; the other two kinds take no place."
use Rattle.std.specs.Prelude.{ℕ, ◌+◌, ◌≤◌, ◌≡◌, refl, Bool, true, false, List, [], ◌∷◌, ◌++◌}
use Rattle.std.proofs.Common.{sym, ◌∙◌, ap, le-leb}
use Rattle.std.proofs.lemmas.Bool.{false≢true}
use Rattle.rules.specs.Settings.{Settings, is_second}
use Rattle.rules.specs.Bytes.{byte_at, RE}
use Rattle.rules.specs.Reading.{got}
use Rattle.rules.specs.TypeFile.{Element}
use Rattle.rules.specs.Document.{skipped, blank}
use Rattle.rules.specs.Decisions.{pcdata, Decisions}
use Rattle.rules.specs.Settling.{State, fitting}
use Rattle.rules.specs.Records.{Line, at_once}
use Rattle.rules.specs.Reader.{Reached, settle_piece, piece_under}
use Rattle.rules.specs.RecordEnds.{Contents, TakesNoPlace, Fills}
use Rattle.document_laws.specs.Under.{under_blank, under_ignored}
use Rattle.rules_laws.specs.Holds.{Gives, so}
use Rattle.rules_laws.specs.Pieces.{piece_blank}
use Rattle.acts.specs.Pieces.{skipped_settles, PieceSettled, blank_data, no_data_lem, settle_piece_settled}
use Rattle.record_laws.specs.Pieces.{ignored_so}
use Rattle.record_laws.specs.AtOnce.{at_once_lem}

module _ (c : Settings) (s : List ℕ) (es : List Element) (D : Decisions) (d : List ℕ) (second : is_second c ≡ true) where
  module _ {at : ℕ} {l : Line} {z : State} {k : Contents} (h : Fills c s es D d at l z k) (e : byte_at d at ≡ RE) (f : 1 ≤ fitting s es D z.current pcdata) where
    -- "The other two kinds take no place": the byte is passed over, and the state stays.
    pub takes_no_place : TakesNoPlace k.current → (piece_under c s es d at l z.current ≡ got (skipped (at + 1))) × (settle_piece s es D d (skipped (at + 1)) at z ≡ got (record { at = at + 1; state = z }))
    takes_no_place t = (under_ignored c s es d at l z.current (piece_blank c.name_length d at e) (ignored_so c d at l z.current true second e ((at_once_lem c s es D d h f).1 t)), skipped_settles s es D d at z (at + 1))

    -- Any other takes the place as which `#PCDATA` fits, and is settled as data, whether or not it will be the last.
    pub takes_its_place : ¬ (TakesNoPlace k.current) → (piece_under c s es d at l z.current ≡ got blank) × Gives (λ (r : Reached). r.state.current.taken ≡ z.current.taken ++ fitting s es D z.current pcdata ∷ []) (settle_piece s es D d blank at z)
    takes_its_place n = (under_blank c s es d at l z.current (piece_blank c.name_length d at e) (ignored_so c d at l z.current false second e (not_once (at_once d at l z.current) refl)), so (settle_piece_settled s es D d blank at z) (λ m k i. i) (λ r i. taken r i))
      where
        not_once : (b : Bool) → at_once d at l z.current ≡ b → at_once d at l z.current ≡ false
        not_once true q = absurd (n ((at_once_lem c s es D d h f).0 q))
        not_once false q = q

        taken : (r : Reached) → PieceSettled s es D at z blank r → r.state.current.taken ≡ z.current.taken ++ fitting s es D z.current pcdata ∷ []
        taken r (blank_data q i few) = ap (λ (w : State). w.current.taken) i
        taken r (no_data_lem q) = absurd (false≢true (sym q ∙ le-leb 1 (fitting s es D z.current pcdata) f))
