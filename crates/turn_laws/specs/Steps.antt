-- What the rules do with a token that fits, and with data, as equations.
use Rattle.std.specs.Prelude.{ℕ, ◌≡◌, Bool, ◌&&◌, List, [], ◌∷◌, ◌++◌, length, eqb, leb}
use Rattle.std.proofs.Math.Path.{refl}
use Rattle.std.proofs.Common.{◌∙◌, ap}
use Rattle.std.proofs.Math.Bool.{true, false}
use Rattle.std.proofs.Math.Dec.{ltb}
use Rattle.rules.specs.Bytes.{TAGLVL}
use Rattle.rules.specs.Reading.{Reading, refused, got, and_then}
use Rattle.rules.specs.TypeFile.{Element}
use Rattle.rules.specs.Decisions.{Token, pcdata, Decisions}
use Rattle.rules.specs.Events.{data_run, with_data}
use Rattle.rules.specs.Settling.{State, limited, fitting, is_complete, take_token, settle, take_data}
use Rattle.document_laws.specs.Moves.{state}
use Rattle.acts.specs.Settled.{settle_on, take_data_is, settle_from_fits, limited_few, limited_many}
use Rattle.turn_laws.specs.RunAtOnce.{take_run}

module _ (s : List ℕ) (es : List Element) (D : Decisions) where
  -- A token that fits

  pub settle_fits : (t : Token) (at : ℕ) (z : State) → eqb z.current.element 0 ≡ false → leb 1 (fitting s es D z.current t) ≡ true → settle s es D t at z ≡ got (take_token s es D t z)
  settle_fits t at z e h = settle_on s es D t at z (ap (λ (b : Bool). b && is_complete s es D z.current) e) ∙ settle_from_fits s es D t at z.around z.current z.events h

  -- Data: a byte, and a run that begins with it, are refused alike, or both are taken.

  pub take_run_is : (at size : ℕ) (z : State) → take_run s es D at size z ≡ and_then (settle s es D pcdata at z) λ y. and_then (limited at y) λ x. got (state x.current x.around (x.events ++ data_run at size ∷ []))
  unfolding take_run
  take_run_is at size z = refl

  module _ (at : ℕ) (z : State) where
    pub data Ways : Type 0 where
      refused_both : (n k : ℕ) → take_data s es D at z ≡ refused n k → ((size : ℕ) → take_run s es D at size z ≡ refused n k) → Ways
      taken_both : (x : State) → settle s es D pcdata at z ≡ got x → ltb TAGLVL (length x.around) ≡ false → ((size : ℕ) → take_run s es D at size z ≡ got (state x.current x.around (x.events ++ data_run at size ∷ []))) → Ways

    -- Data is settled, and not more than 24 are open.
    module _ (x : State) (i : settle s es D pcdata at z ≡ got x) (l : ltb TAGLVL (length x.around) ≡ false) where
      pub take_data_got : take_data s es D at z ≡ got (state x.current x.around (with_data at x.events))
      take_data_got = rw (take_data_is s es D at z, i, limited_few at x l)

      take_run_got : (size : ℕ) → take_run s es D at size z ≡ got (state x.current x.around (x.events ++ data_run at size ∷ []))
      unfolding take_run
      take_run_got size = rw (take_run, i, limited_few at x l)

    pub ways : Ways
    unfolding take_run
    ways = by_settling (settle s es D pcdata at z) refl
      where
        by_count : (x : State) → settle s es D pcdata at z ≡ got x → (b : Bool) → ltb TAGLVL (length x.around) ≡ b → Ways
        by_count x q true l = refused_both 15 at (rw (take_data_is s es D at z, q, limited_many at x l)) (λ size. rw (take_run, q, limited_many at x l))
        by_count x q false l = taken_both x q l (take_run_got x q l)

        by_settling : (r : Reading State) → settle s es D pcdata at z ≡ r → Ways
        by_settling (refused n k) q = refused_both n k (rw (take_data_is s es D at z, q)) (λ size. rw (take_run, q))
        by_settling (got x) q = by_count x q (ltb TAGLVL (length x.around)) refl
