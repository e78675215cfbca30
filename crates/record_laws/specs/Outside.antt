-- In the document itself nothing but the document element may come: no data byte fits there.
use Rattle.std.specs.Prelude.{ℕ, ◌≤◌, ◌≡◌, refl, Bool, false}
use Rattle.std.proofs.Common.{arith, sym, ◌∙◌, ap, ne_eqb}
use Rattle.std.proofs.Math.Path.{subst}
use Rattle.std.proofs.Math.Bool.{true, false≢true}
use mathlib.Core.List.{List, [], ◌∷◌, ◌++◌, append_assoc, head-eq_of_cons-eq, tail-eq_of_cons-eq, nil≢cons}
use Rattle.rules.specs.Bytes.{same_text}
use Rattle.rules.specs.Walk.{Group, place, Begins}
use Rattle.rules.specs.TypeFile.{Place, Element, same_name}
use Rattle.rules.specs.Judge.{place_at}
use Rattle.rules.specs.Elements.{element_at}
use Rattle.rules.specs.Decisions.{pcdata, has_name, Fits, Decisions, Means}

-- Places that begin the walk of one place: none, or that one.
some_not : (t : List ℕ) (n : ℕ) (u : List ℕ) → ¬ ((t ++ n ∷ []) ++ u ≡ [])
some_not [] n u e = nil≢cons (sym e)
some_not (a ∷ t) n u e = nil≢cons (sym e)

only_place : (t : List ℕ) (n : ℕ) → Begins (place 1) (t ++ n ∷ []) → n ≡ 1
only_place [] n (u, e) = head-eq_of_cons-eq e
only_place (a ∷ t) n (u, e) = absurd (some_not t n u (tail-eq_of_cons-eq e))

begins_first : (g : Group) (t u : List ℕ) → Begins g (t ++ u) → Begins g t
begins_first g t u (v, w) = (u ++ v, rw append_assoc at w)

-- A name is no `#PCDATA`.
not_named : (s : List ℕ) (a b n : ℕ) → 1 ≤ n → same_name s a 0 b n ≡ false
not_named s a b n h = ap {B = Bool} (λ (x : Bool). elim x as (λ _. Bool) [ true ↦ same_text s a s b n | false ↦ false ]) (ne_eqb 0 n (λ e. omega arith))

module _ (s : List ℕ) (es : List Element) (D : Decisions) (m : Means s es D) (h : 1 ≤ (element_at es 0).size) where
  abbrev ps : List Place
  ps = record { at = (element_at es 0).at; size = (element_at es 0).size } ∷ []

  no_fit : (t : List ℕ) (n : ℕ) → n ≡ 1 → Fits s es (place 1) ps t pcdata n → ⊥
  unfolding place_at
  no_fit t n e f =
      let q : has_name s es ps pcdata 1 ≡ true = subst (λ (i : ℕ). has_name s es ps pcdata i ≡ true) e f.name in
      false≢true (sym (not_named s 0 (element_at es 0).at (element_at es 0).size h) ∙ q)

  pub none_fits : (before after : List ℕ) → Begins (place 1) (before ++ after) → ¬ (1 ≤ D.fits 0 before pcdata)
  none_fits before after b l =
      let f = ((m.walks 0 {g = place 1} {ps = ps} {n = 1} refl before (begins_first (place 1) before after b)).fits pcdata).some l in
      no_fit before (D.fits 0 before pcdata) (only_place before (D.fits 0 before pcdata) f.next) f
