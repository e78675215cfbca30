-- A computed test of what the rules say of a type file with one element, and that it is right.
use Prim.Native.Nat.{ℕ, zero, suc, ◌-◌}
use Rattle.std.specs.Prelude.{◌≡◌, refl, Bool, true, false, ◌&&◌, List, [], ◌∷◌, eqb}
use Rattle.std.proofs.Common.{sym, subst, eqb-true, arith}
use Rattle.std.proofs.lemmas.Bool.{false≢true}
use Rattle.rules.specs.Reading.{got}
use Rattle.rules.specs.TypeFile.{Content, empty, model, Element, type_file}
use Rattle.rules.specs.Judge.{same_place, place_at, first_repeated, Unambiguous, AllUnambiguous, PairStandsAt, FirstAmbiguous, here}
use Rattle.basic_laws.specs.Truth.{and_left, and_right}
use Rattle.and_laws.specs.First.{first_pair_of, first_pair_of_none, first_pair_of_is}
use Rattle.rules_laws.specs.Groups.{GuardedIn}
use Rattle.document_laws.specs.Check.{is_numbered, numbered}
use Rattle.document_laws.specs.Numbers.{type_file_guarded}

-- A type file, and the pair that the judge must name in it; both 0 where it must accept it.
pub record Example : Type 0 where
  pub text : List ℕ
  pub first : ℕ
  pub second : ℕ

-- The pair p, q is named, or none is at fault.
abbrev pub Named : List ℕ → ℕ → ℕ → List Element → Type 0
Named s zero q es = AllUnambiguous s es
Named s (suc p) q es = (k : ℕ) × FirstAmbiguous s k (suc p) q es

-- the two numbers are those of a pair
unfoldable pub is_pair : ℕ × ℕ → ℕ → ℕ → Bool
is_pair r p q = eqb r.0 p && eqb r.1 q

unfoldable pub of_content : List ℕ → ℕ → ℕ → Content → Bool
of_content s p q empty = false
of_content s p q (model g ps n) = is_numbered g 1 && is_pair (first_pair_of (same_place s ps) g) p q

-- the type has one element, and its content is so
unfoldable pub reads_as : Example → List Element → Bool
reads_as x [] = false
reads_as x (e ∷ []) = eqb (first_repeated (e ∷ [])) 0 && of_content x.text x.first x.second e.content
reads_as x (e ∷ (f ∷ es)) = false

pair_is : (r : ℕ × ℕ) (p q : ℕ) → is_pair r p q ≡ true → (r.0 ≡ p) × (r.1 ≡ q)
unfolding is_pair
pair_is r p q e = (eqb-true r.0 p (and_left (eqb r.0 p) _ e), eqb-true r.1 q (and_right (eqb r.0 p) _ e))

-- what the test says of one content model, in the rules' terms
module _ (s : List ℕ) (e : Element) where
  named_in : (p q : ℕ) (c : Content) → e.content ≡ c → GuardedIn c → of_content s p q c ≡ true → Named s p q (e ∷ [])
  unfolding of_content
  named_in p q empty is d t = absurd (false≢true t)
  named_in zero q (model g ps n) is d t =
      let pair = pair_is (first_pair_of (same_place s ps) g) zero q (and_right (is_numbered g 1) _ t) in
      (subst (Unambiguous s) (sym is) (first_pair_of_none (same_place s ps) g (numbered g 1 (and_left (is_numbered g 1) _ t)) d pair.0), tt)
  named_in (suc p) q (model g ps n) is d t =
      let pair = pair_is (first_pair_of (same_place s ps) g) (suc p) q (and_right (is_numbered g 1) _ t) in
      let found = first_pair_of_is (same_place s ps) g (numbered g 1 (and_left (is_numbered g 1) _ t)) d (suc p) q (λ i. (pair.0 i, pair.1 i)) (omega arith) in
      ((place_at ps (q - 1)).at, here (subst (λ (c : Content). PairStandsAt s c (place_at ps (q - 1)).at (suc p) q) (sym is) (found, refl)))

-- The rules name just that pair of the example, or no pair is at fault.
abbrev pub NamedSo : Example → List Element → Type 0
NamedSo x es = Named x.text x.first x.second es

pub named_so : (long : ℕ) (x : Example) (es : List Element) → type_file long x.text ≡ got es → reads_as x es ≡ true → NamedSo x es
unfolding reads_as
named_so long x [] is u = absurd (false≢true u)
named_so long x (e ∷ []) is u =
    let r = eqb-true (first_repeated (e ∷ [])) 0 (and_left (eqb (first_repeated (e ∷ [])) 0) _ u) in
    named_in x.text e x.first x.second e.content refl (type_file_guarded long x.text (e ∷ []) is r).0 (and_right (eqb (first_repeated (e ∷ [])) 0) _ u)
named_so long x (e ∷ (f ∷ es)) is u = absurd (false≢true u)
