-- The models of a type file that was read: as many places as names are kept of, at most 96, numbered from 1.
use Rattle.std.specs.Prelude.{ℕ, zero, suc, ◌-◌, ◌≤◌, ◌≡◌, refl, true, List, [], ◌∷◌, length}
use Rattle.std.proofs.Common.{subst, arith, eqb-true}
use Rattle.rules.specs.Bytes.{byte_at, letter, GRPGTCNT}
use Rattle.rules.specs.Reading.{got}
use Rattle.rules.specs.Walk.{Group, place}
use Rattle.rules.specs.TypeFile.{Place, model, Element, type_file}
use Rattle.rules.specs.Judge.{place_at}
use Rattle.rules.specs.Elements.{element_at, content_of}
use Rattle.model_sets.specs.Sets.{size, Numbered}
use Rattle.rules_laws.specs.Within.{none, more, NameIn, Fits, ContentIn, type_file_count}
use Rattle.type_laws.specs.Models.{Whole, WholeIn, ShortIn, declared_whole, declared_short}
use Rattle.type_laws.specs.Made.{each_content, type_file_made}
use Rattle.type_laws.specs.Names.{type_file_element}

-- The document itself has one place, which has a name.

document_whole : (x : Place) → 1 ≤ x.size → Whole (place 1) (x ∷ [])
unfolding place_at
document_whole x l =
    record {
      numbered = refl;
      counted = refl;
      repeats = λ p h z. absurd (let e : p - 1 ≡ 0 = omega (arith, eqb-true 1 p h) in omega (arith, rw (e, place_at) at z));
    }

document_fits : (s : List ℕ) (x : Place) → NameIn s x.at x.size → letter (byte_at s x.at) ≡ true → Fits s (x ∷ []) 1
document_fits s x n l =
    record { places = more {x = x} (record { begins = omega arith; ends = n.ends; named = λ _. l }) none; counted = omega arith; few = omega arith }

module _ (long : ℕ) (s : List ℕ) (es : List Element) (read : type_file long s ≡ got es) where
  first_name : NameIn s (element_at es 0).at (element_at es 0).size
  first_name = (type_file_element long s es read 0 (type_file_count long s es read).0).name

  -- Every content is whole, and stands in the input.
  pub type_file_whole : (k : ℕ) → WholeIn (content_of es k)
  type_file_whole zero = document_whole _ first_name.some
  type_file_whole (suc k) = each_content WholeIn tt es (λ j h. declared_whole (type_file_made long s es read j h)) k

  pub type_file_content : (k : ℕ) → ContentIn s (content_of es k)
  type_file_content zero = document_fits s _ first_name (type_file_made long s es read 0 (type_file_count long s es read).0).named
  type_file_content (suc k) = each_content (ContentIn s) tt es (λ j h. (type_file_element long s es read j h).content) k

  -- No place of a content has a longer name than `long` bytes.
  pub type_file_places_short : (k : ℕ) → ShortIn long (content_of es k)
  type_file_places_short zero = more (type_file_made long s es read 0 (type_file_count long s es read).0).short none
  type_file_places_short (suc k) = each_content (ShortIn long) tt es (λ j h. declared_short (type_file_made long s es read j h)) k

  pub type_file_width : (k : ℕ) {g : Group} {ps : List Place} {n : ℕ} → content_of es k ≡ model g ps n → (size g ≡ length ps) × (size g ≤ GRPGTCNT) × Numbered g 1
  type_file_width k {g} {ps} {n} e =
      let w : Whole g ps = subst WholeIn e (type_file_whole k) in
      let f : Fits s ps n = subst (ContentIn s) e (type_file_content k) in
      (w.counted, omega (arith, w.counted, f.counted, f.few), w.numbered)
