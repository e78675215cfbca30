-- Steps 1 and 2 by what the code finds of an element.
use Prim.Native.Nat.{ℕ, zero, suc, ◌≤◌}
use Rattle.std.specs.Prelude.{◌≡◌, length, leb}
use Rattle.std.proofs.Math.Path.{refl, ap}
use Rattle.std.proofs.Math.Bool.{true, false}
use mathlib.Core.List.{List, [], ◌∷◌}
use Rattle.std.proofs.Common.{arith, le-leb}
use Rattle.rules.specs.TypeFile.{Element}
use Rattle.rules.specs.Decisions.{Token, Decisions}
use Rattle.rules.specs.Settling.{State, Inward, settled, stuck, take_place, fitting, chain, infer_starts, take_token, inward}
use Rattle.rules.specs.Settling as rules
use Rattle.layout.specs.declared.Place.{Place}
use Rattle.layout.specs.Typed.{place_no}
use Rattle.document_laws.specs.Chain.{chain_leads}
use Rattle.ways.specs.declared.Way.{Way}
use Rattle.ways.specs.declared.Way.TheVariants.{Taken, Inferred, Stuck}
use Rattle.ways.specs.Asks.{way_of, chained}
use Rattle.inferring.specs.Inferring.{infer_many, Infers}
use Rattle.inferring.specs.Starts.{chain_infers, chain_starts}

-- Steps 1 and 2, by whatever decisions

module _ (s : List ℕ) (es : List Element) (D : Decisions) (t : Token) where
  -- What becomes of the token, by what is found.
  abbrev pub inward_as : (at : ℕ) → Way → State → Inward
  inward_as at (Taken p) z = settled (take_place p.0 z)
  inward_as at (Inferred n) z = settled (take_token s es D t (infer_many s es D at n z))
  inward_as at Stuck z = stuck

  pub inward_way : (at : ℕ) (z : State) → inward s es D t at z ≡ inward_as at (way_of (fitting s es D z.current t) (chained s es D t z.current)) z
  unfolding inward
  inward_way at z = by_fit (fitting s es D z.current t) (chain s es D (length es) t z.current) refl
    where
      by_fit : (f : ℕ) (c : List ℕ) → chain s es D (length es) t z.current ≡ c
          → elim (leb 1 f) [ true ↦ settled (take_place f z) | false ↦ elim c [ [] ↦ stuck | k ∷ ks ↦ settled (take_token s es D t (infer_starts s es D at (k ∷ ks) z)) ] ] ≡ inward_as at (way_of f (length c)) z
      by_fit zero [] e = refl
      by_fit zero (k ∷ ks) e =
          ap (λ y. settled (take_token s es D t y)) (chain_starts s es D t at (k ∷ ks) z (chain_leads s es D t (length es) z.current k ks e))
      by_fit (suc f) c e = rw (le-leb 1 (suc f) (omega arith))

  -- As many starts as are found can be inferred.
  pub way_infers : (n : ℕ) (o : rules.Open) → Inferred n ≡ way_of (fitting s es D o t) (chained s es D t o) → Infers s es D t n o
  way_infers n o = by_fit (fitting s es D o t) (chain s es D (length es) t o) refl
    where
      by_fit : (f : ℕ) (c : List ℕ) → chain s es D (length es) t o ≡ c → Inferred n ≡ way_of f (length c) → Infers s es D t n o
      by_fit zero [] e w = absurd (let z : ◌≡◌ {A = ℕ} 0 1 = cc in omega arith)
      by_fit zero (k ∷ ks) e w =
          let i : n ≡ length (k ∷ ks) = cc in
          rw i (chain_infers s es D t (k ∷ ks) o (chain_leads s es D t (length es) o k ks e))
      by_fit (suc f) c e w = absurd (let z : ◌≡◌ {A = ℕ} 0 1 = cc in omega arith)

-- The token fits as a place, which is the one that is found.
pub way_fits : (p : Place) (f n : ℕ) → Taken p ≡ way_of f n → (p.0 ≡ f) × (p.0 ≡ 0 → ⊥)
way_fits p zero zero e = absurd (let z : ◌≡◌ {A = ℕ} 0 1 = cc in omega arith)
way_fits p zero (suc n) e = absurd (let z : ◌≡◌ {A = ℕ} 0 1 = cc in omega arith)
way_fits p (suc f) n e =
    let i : p ≡ place_no (suc f) = cc in
    let j : p.0 ≡ suc f = ap (λ (q : Place). q.0) i in
    (j, λ z. omega arith)

-- Where starts are inferred there is one.
pub way_some : (k f n : ℕ) → Inferred k ≡ way_of f n → 1 ≤ k
way_some k zero zero e = absurd (let z : ◌≡◌ {A = ℕ} 0 1 = cc in omega arith)
way_some k zero (suc n) e = let i : k ≡ suc n = cc in omega arith
way_some k (suc f) n e = absurd (let z : ◌≡◌ {A = ℕ} 0 1 = cc in omega arith)
