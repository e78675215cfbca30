-- Each element of a type file was read by the rule for an element declaration, behind those before it, but for its attributes.
use Rattle.std.specs.Prelude.{ℕ, zero, suc, ◌<◌, ◌≡◌, refl, List, [], ◌∷◌, ◌++◌, length, take}
use Rattle.std.proofs.Common.{subst, not-suc-le-zero, le_of_suc-le-suc, arith, length-append}
use Rattle.std.proofs.Math.Decide.{dec_lt}
use Rattle.std.proofs.lemmas.List.{take-append-le}
use Rattle.std.proofs.Math.Seq.{take-append_seam}
use Rattle.rules.specs.Reading.{got}
use Rattle.rules.specs.TypeFile.{Element, Content, empty, type_file}
use Rattle.rules.specs.Elements.{element_at}
use Rattle.rules_laws.specs.Holds.{got_so}
use Rattle.rules_laws.specs.Declarations.{Declares, bare, bares, bares_length, type_file_holds}

-- Elements of a list to which others are added, and of its beginning.

pub element_at_append : (es fs : List Element) (k : ℕ) → k < length es → element_at (es ++ fs) k ≡ element_at es k
unfolding element_at
element_at_append [] fs k h = absurd (not-suc-le-zero h)
element_at_append (e ∷ es) fs zero h = refl
element_at_append (e ∷ es) fs (suc k) h = element_at_append es fs k (le_of_suc-le-suc h)

pub element_at_next : (es : List Element) (e : Element) (fs : List Element) → element_at (es ++ e ∷ fs) (length es) ≡ e
unfolding element_at
element_at_next [] e fs = refl
element_at_next (x ∷ es) e fs = element_at_next es e fs

pub element_at_take : (es : List Element) (n k : ℕ) → k < n → element_at (take n es) k ≡ element_at es k
unfolding element_at
element_at_take es zero k h = absurd (not-suc-le-zero h)
element_at_take [] (suc n) k h = refl
element_at_take (e ∷ es) (suc n) zero h = refl
element_at_take (e ∷ es) (suc n) (suc k) h = element_at_take es n k (le_of_suc-le-suc h)

-- The attributes of an element come with its list, further on: without them it is as it was declared.
pub bares_at : (es : List Element) (k : ℕ) → element_at (bares es) k ≡ bare (element_at es k)
unfolding element_at bares
bares_at [] k = refl
bares_at (e ∷ es) zero = refl
bares_at (e ∷ es) (suc k) = bares_at es k

-- What holds of EMPTY and of the content of each element holds whatever the number: past the last element it is EMPTY.
pub each_content : (P : Content → Type 0) → P empty → (es : List Element) → ((k : ℕ) → k < length es → P (element_at es k).content) → (k : ℕ) → P (element_at es k).content
unfolding element_at
each_content P p [] f k = p
each_content P p (e ∷ es) f zero = f 0 (omega arith)
each_content P p (e ∷ es) f (suc k) = each_content P p es (λ j h. f (suc j) (omega arith)) k

module _ (long : ℕ) (s : List ℕ) where
  -- Every element of the list was declared behind those before it.
  abbrev pub Made : List Element → Type 0
  Made es = (k : ℕ) → k < length es → Declares long s (take k es) (element_at es k)

  made_none : Made []
  made_none k h = absurd (not-suc-le-zero h)

  made_more : (es : List Element) (e : Element) → Made es → Declares long s es e → Made (es ++ e ∷ [])
  made_more es e m d k h = go (dec_lt k (length es))
    where
      go : Dec (k < length es) → Declares long s (take k (es ++ e ∷ [])) (element_at (es ++ e ∷ []) k)
      go (yes l) = rw (take-append-le k es (e ∷ []) (omega arith), element_at_append es (e ∷ []) k l) (m k l)
      go (no l) =
          let z : k ≡ length es = omega (arith, length-append es (e ∷ [])) in
          rw (z, take-append_seam es (e ∷ []), element_at_next es e []) d

  pub type_file_made : (es : List Element) → type_file long s ≡ got es → (k : ℕ) → k < length es → Declares long s (take k (bares es)) (bare (element_at es k))
  type_file_made es e k h = subst (Declares long s (take k (bares es))) (bares_at es k) ((got_so (type_file_holds long s Made made_more made_none) e).1 k (omega (arith, bares_length es)))
