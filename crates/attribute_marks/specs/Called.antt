-- Names that are the same, folded: those of attributes, and those that a tag gives.
use Rattle.std.specs.Prelude.{ℕ, zero, suc, ◌+◌, ◌≡◌, refl, Bool, true, false, List, eqb}
use Rattle.std.proofs.Common.{sym, ◌∙◌, true≢false, eq-eqb, eqb-true}
use Rattle.rules.specs.Bytes.{same_text}
use Rattle.rules.specs.Attributes.{Attribute, is_called}
use Rattle.rules.specs.TypeFile.{same_name}
use Rattle.rules.specs.Document.{Written}
use Rattle.text.specs.Words.{same_text_more, same_text_split, same_text_sym}
use Rattle.basic_laws.specs.Truth.{bool_cases}
use Rattle.rules_laws.specs.Names.{same_name_split, same_name_join}

-- Two texts that are the same as a third are the same.
same_third : (s : List ℕ) (a : ℕ) (t : List ℕ) (b : ℕ) (u : List ℕ) (c n : ℕ) → same_text s a u c n ≡ true → same_text t b u c n ≡ true → same_text s a t b n ≡ true
unfolding same_text
same_third s a t b u c zero x y = refl
same_third s a t b u c (suc n) x y =
    let (e, v) = same_text_split s a u c n x in
    let (f, w) = same_text_split t b u c n y in
    same_text_more s a t b n (e ∙ sym f) ∙ same_third s (a + 1) t (b + 1) u (c + 1) n v w

called_split : (s : List ℕ) (a : Attribute) (t : List ℕ) (at size : ℕ) → is_called s a t at size ≡ true → (a.size ≡ size) × (same_text s a.at t at size ≡ true)
called_split s a t at size r = by_test (eqb a.size size) refl
  where
    by_test : (c : Bool) → eqb a.size size ≡ c → (a.size ≡ size) × (same_text s a.at t at size ≡ true)
    by_test true e = (eqb-true _ _ e, rw (e, is_called) at r)
    by_test false e = absurd (true≢false (sym (rw (e, is_called) at r)))

called_join : (s : List ℕ) (a : Attribute) (t : List ℕ) (at size : ℕ) → a.size ≡ size → same_text s a.at t at size ≡ true → is_called s a t at size ≡ true
called_join s a t at size e r = rw (eq-eqb _ _ e, is_called) r

-- Two attributes that are called the same are called like one another.
pub called_both : (s : List ℕ) (a b : Attribute) (d : List ℕ) (at size : ℕ) → is_called s a d at size ≡ true → is_called s b d at size ≡ true → is_called s a s b.at b.size ≡ true
called_both s a b d at size x y =
    let (e, v) = called_split s a d at size x in
    let (f, w) = called_split s b d at size y in
    called_join s a s b.at b.size (e ∙ sym f) (rw f (same_third s a.at s b.at d at size v w))

module _ (s : List ℕ) (a : Attribute) (d : List ℕ) (v w : Written) where
  -- Two of a tag that are called like one attribute have the same name.
  called_same : is_called s a d v.at v.size ≡ true → is_called s a d w.at w.size ≡ true → same_name d v.at v.size w.at w.size ≡ true
  called_same x y =
      let (e, p) = called_split s a d v.at v.size x in
      let (f, q) = called_split s a d w.at w.size y in
      let z : v.size ≡ w.size = sym e ∙ f in
      same_name_join d v.at v.size w.at w.size z
      (same_third d v.at d w.at s a.at w.size (rw z at (same_text_sym s a.at d v.at v.size p)) (same_text_sym s a.at d w.at w.size q))

  same_called : same_name d v.at v.size w.at w.size ≡ true → is_called s a d w.at w.size ≡ true → is_called s a d v.at v.size ≡ true
  same_called x y =
      let (z, p) = same_name_split d v.at v.size w.at w.size x in
      let (f, q) = called_split s a d w.at w.size y in
      called_join s a d v.at v.size (f ∙ sym z) (rw z (same_third s a.at d v.at d w.at w.size q p))

  -- So where w is called like an attribute, exactly those are that have its name.
  pub called_alike : is_called s a d w.at w.size ≡ true → is_called s a d v.at v.size ≡ same_name d v.at v.size w.at w.size
  called_alike y =
      bool_cases (is_called s a d v.at v.size) (λ x. x ∙ sym (called_same x y))
      (λ x. bool_cases (same_name d v.at v.size w.at w.size) (λ z. absurd (true≢false (sym (same_called z y) ∙ x))) (λ z. x ∙ sym z))
